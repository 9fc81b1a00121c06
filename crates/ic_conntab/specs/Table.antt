-- A table of connections, and what it says of one.
use Rattle.std.specs.Prelude.{◌≡◌, ℕ, max, ◌≤◌, Bool, false, nat_le, ◌==◌, if◌then◌else◌, List, position, Option, None, Some, IsSome}
use Rattle.std.specs.Ordering.{nat_cmp}
use Rattle.std.specs.FinMap.{FinMap, empty, get, insert, remove}
use Rattle.ic_base.specs.Keys.{key_eq}
use Rattle.ic_base.specs.declared.keys.ConnKey.{ConnKey}
use Rattle.ic_conntab.specs.declared.answer.Find.{Find}
use Rattle.ic_conntab.specs.declared.answer.Find.TheVariants.{Foreign, Here, Ended, NotBegun}

-- ---- a table

-- its session, the greatest query number that has ended, if any has, and the live queries, each with its connections in
-- order
pub record Table : Type 0 where
  pub session : ℕ
  pub top : Option ℕ
  pub live : FinMap nat_cmp (List ConnKey)

-- no query has begun, and none has ended
abbrev pub fresh : ℕ → Table
fresh session = record { session = session; top = None; live = empty }

-- the query is live
abbrev pub IsLive : Table → ℕ → Type 0
IsLive t query = IsSome (get t.live query)

-- this is the greatest query number that has ended, and the query's number isn't above it
abbrev pub IsOld : Table → ℕ → ℕ → Type 0
IsOld t query top = (t.top ≡ Some top) × (query ≤ top)

-- whether a number isn't above the greatest that has ended
abbrev pub is_past : Option ℕ → ℕ → Bool
is_past None query = false
is_past (Some top) query = nat_le query top

-- the query isn't live, and its number is above all that have ended
abbrev pub MayBegin : Table → ℕ → Type 0
MayBegin t query = (is_past t.top query ≡ false) × (get t.live query ≡ None)

-- ---- what is found

-- what is found of a key of a live query: its position, from 0, or Foreign if it isn't there
abbrev pub placed : Option ℕ → Find
placed (Some place) = Here place
placed None = Foreign

-- what is found of a key of the table's session, if its query is live with these connections, or isn't live
abbrev pub found_in : Option ℕ → Option (List ConnKey) → ConnKey → Find
found_in top (Some keys) key = placed (position (key_eq key) keys)
found_in top None key = if is_past top key.query then Ended else NotBegun

-- what a table says of a key
abbrev pub found : Table → ConnKey → Find
found t key = if key.session == t.session then found_in t.top (get t.live key.query) key else Foreign

-- ---- queries begin and end

-- the table with one more live query
abbrev pub begun : Table → ℕ → List ConnKey → Table
begun t query keys = record { session = t.session; top = t.top; live = insert t.live query keys }

-- the greater of a number and the greatest that has ended, if any has
abbrev pub raised : Option ℕ → ℕ → ℕ
raised None query = query
raised (Some top) query = max top query

-- the table in which the query isn't live any more, and has ended
abbrev pub left : Table → ℕ → Table
left t query = record { session = t.session; top = Some (raised t.top query); live = remove t.live query }
