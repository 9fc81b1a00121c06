-- A counter with a limit, by its entries.
use Rattle.std.specs.Prelude.{◌≡◌, ℕ, ◌+◌, ◌≤◌, nat_le, if◌then◌else◌, List}
use Rattle.std.specs.List.{sum_by}
use Rattle.ic_turn.specs.declared.counter.Counted.{Counted}
use Rattle.ic_turn.specs.declared.counter.Counted.TheVariants.{Sum, Over}
use Rattle.ic_turn.specs.declared.entry.Entry.{Entry}
use Rattle.ic_turn.specs.Entries.{Every}

-- a counter: the limit, and the sum of what it has added
pub record Count : Type 0 where
  pub limit : ℕ
  pub sum : ℕ

-- a counter that has added nothing
abbrev pub opening : ℕ → Count
opening limit = record { limit = limit; sum = 0 }

-- a sum is replied if it is within the limit
abbrev pub within : ℕ → ℕ → Counted
within limit total = if nat_le total limit then Sum total else Over

-- the reply to an ask after this sum
abbrev pub reply_to : ℕ → ℕ → ℕ → Counted
reply_to limit total ask = within limit (total + ask)

-- what an entry added
abbrev pub added_by : ℕ → Counted → ℕ
added_by ask (Sum n) = ask
added_by ask Over = 0

-- what entries added
abbrev pub sum_of : List (Entry ℕ Counted) → ℕ
sum_of entries = sum_by (λ e. added_by e.ask e.reply) entries

-- a sum that is replied has the ask in it, and is within the limit
abbrev pub MayCount : ℕ → ℕ → Counted → Type 0
MayCount limit ask (Sum n) = (ask ≤ n) × (n ≤ limit)
MayCount limit ask Over = Unit {0}

-- each reply is the one to its ask after what the entries before it added
abbrev pub IsCount : ℕ → List (Entry ℕ Counted) → Type 0
IsCount limit entries = Every (λ before e. e.reply ≡ reply_to limit (sum_of before) e.ask) entries

-- these entries lead to this sum
pub record StandsAt (limit total : ℕ) (entries : List (Entry ℕ Counted)) : Type 0 where
  pub total_is : total ≡ sum_of entries
  pub lawful : IsCount limit entries
