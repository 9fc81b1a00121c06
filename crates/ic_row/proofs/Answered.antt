-- What reading gives, said of the answer.
use Rattle.std.proofs.Common.{◌≡◌, ℕ, ◌-◌, List, length, Result, Ok, Err, refl, ap, subst, ◌∙◌}
use Rattle.std.specs.Prelude.{IfOk, IfErr}
use Rattle.ic_row.specs.declared.value.Value.{Value}
use Rattle.ic_row.specs.declared.reading.RowNo.{RowNo}
use Rattle.ic_row.specs.declared.reading.RowNo.TheVariants.{RowFault, Memory}
use Rattle.ic_row.specs.Spelling.{Spells}
use Rattle.ic_row.specs.Reading.{row_at, placed, read_row_of, Answers}
use Rattle.ic_row.specs.Faults.{IsFault, IsFaultAt}
use Rattle.ic_row.proofs.Fields.{IsBytes}
use Rattle.ic_row.proofs.RowLemmas.{row_takes, read_again}
use Rattle.ic_row.proofs.FaultLemmas.{row_stops_at}

abbrev done : List Value → Result (List Value) ℕ
done row = Ok row

abbrev failed : ℕ → Result (List Value) ℕ
failed place = Err place

row_is : (bytes : List ℕ) (r : Result (List Value) ℕ) (row : List Value) → placed bytes r ≡ Ok row → r ≡ Ok row
row_is bytes (Ok a) row e = e
row_is bytes (Err left) row e = absurd cc

place_is : (bytes : List ℕ) (r : Result (List Value) ℕ) (place : ℕ) → placed bytes r ≡ Err place → (left : ℕ) × (r ≡ Err left) × (length bytes - left ≡ place)
place_is bytes (Ok a) place e = absurd cc
place_is bytes (Err left) place e = (left, refl, cc)

pub is_found : (bytes : List ℕ) (r : Result (List Value) RowNo) → IsBytes bytes → Answers r (read_row_of bytes) → IfOk r (λ row. Spells row bytes)
is_found bytes (Ok row) fits given = row_takes bytes row fits (row_is bytes (row_at bytes) row given)
is_found bytes (Err e) fits given = tt

pub is_fault : (bytes : List ℕ) (r : Result (List Value) RowNo) → IsBytes bytes → Answers r (read_row_of bytes) → IfErr r (IsFault bytes)
is_fault bytes (Ok row) fits given = tt
is_fault bytes (Err (RowFault place)) fits given =
    let p = place_is bytes (row_at bytes) place given in
    subst (IsFaultAt bytes) p.2 (row_stops_at bytes p.0 fits p.1)
is_fault bytes (Err Memory) fits given = tt

pub is_only : (bytes : List ℕ) (r : Result (List Value) RowNo) (row : List Value) → Spells row bytes → Answers r (read_row_of bytes) → Answers r (Ok row)
is_only bytes r row spells given = subst (Answers r) (ap read_row_of spells.are ∙ read_again row spells.is_row) given
