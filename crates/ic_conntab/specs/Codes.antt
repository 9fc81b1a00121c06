-- A table coded as numbers and lists, from which it can be decoded.
use Rattle.std.specs.Prelude.{ℕ, ℤ, List, Option, refl}
use Rattle.std.specs.Ordering.{nat_cmp}
use Rattle.std.specs.FinMap.{FinMap, code}
use Rattle.std.specs.Coded.{Coded, code_by, coded×, coded_ℕ, coded_ℤ, coded_list, coded_option}
use Rattle.ic_base.specs.declared.keys.ConnKey.{ConnKey}
use Rattle.ic_conntab.specs.Table.{Table}

-- a key as the tuple of its fields
abbrev pub key_code : Coded ConnKey
key_code =
    code_by (ℕ × (ℕ × (ℕ × (ℤ × ℤ)))) (coded× coded_ℕ (coded× coded_ℕ (coded× coded_ℕ (coded× coded_ℤ coded_ℤ))))
    (λ k. (k.session, (k.query, (k.motion, (k.from, k.to)))))
    (λ p. record { session = p.0; query = p.1.0; motion = p.1.1.0; from = p.1.1.1.0; to = p.1.1.1.1 }) (λ _. refl)

-- the live queries as the list of their keys
abbrev pub live_code : Coded (FinMap nat_cmp (List ConnKey))
live_code = code coded_ℕ (coded_list key_code)

-- a table as the tuple of its fields
abbrev pub table_code : Coded Table
table_code =
    code_by (ℕ × (Option ℕ × FinMap nat_cmp (List ConnKey))) (coded× coded_ℕ (coded× (coded_option coded_ℕ) live_code))
    (λ t. (t.session, (t.top, t.live))) (λ p. record { session = p.0; top = p.1.0; live = p.1.1 }) (λ _. refl)
