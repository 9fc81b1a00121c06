-- Definitions in the form in which the lemmas take them, beside those of the crates below.
use Rattle.std.specs.Prelude.{◌≡◌, ℕ, zero, suc, ◌<◌, Bool, true, cond, not, ◌&&◌, ◌==◌, List, [], ◌∷◌, ◌++◌, map, length, filter, flat_map, Some, Contains}
use Rattle.std.specs.List.{AllByRecursion}
use Rattle.ic_row.specs.declared.value.Value.{Value}
use Rattle.ic_row.specs.Values.{is_null, column, key_of}
use Rattle.pl_tree.specs.declared.node.Pair.{Pair}
use Rattle.pl_tree.specs.declared.node.Call.{Call}
use Rattle.pl_tree.specs.declared.schema.Locus.{Locus}
use Rattle.pl_tree.specs.declared.schema.Locus.TheVariants.{Entry, Hashed, Replicated, Strewn}
use Rattle.pl_ops.specs.Rows.{Line as Row, same_value}
use Rattle.pl_ops.specs.Groups.{brought, over, grouped}
use Rattle.pl_tree.specs.Places.{places_of}

abbrev pub Columns : Type 0
Columns = List ℕ

-- `flat_map` over rows, one of them at a time
abbrev pub kept : Bool → Row → List Row
kept b row = cond b (row ∷ []) []

unfoldable pub filter_rows : (Row → Bool) → List Row → List Row
filter_rows test = flat_map (λ row. kept (test row) row)

unfoldable pub project_rows : Columns → List Row → List Row
project_rows columns = flat_map (λ row. key_of columns row ∷ [])

-- each pair is equal, and not null
unfoldable pub pairs_match : List Pair → Row → Row → Bool
pairs_match [] l r = true
pairs_match (p ∷ on) l r = (not (is_null (column l p.left)) && same_value (column l p.left) (column r p.right)) && pairs_match on l r

abbrev pub joined : List Pair → Row → Row → List Row
joined on l r = kept (pairs_match on l r) (l ++ r)

-- matches of one left row come in the order of the right rows
unfoldable pub join_rows : List Pair → List Row → List Row → List Row
join_rows on right left = flat_map (λ l. flat_map (joined on l) right) left

-- one column of an aggregate: a call, and what a row brings to it
pub record Slot : Type 0 where
  pub call : Call
  pub lift : Row → Value

abbrev pub slot_value : List Row → Slot → Value
slot_value rows s = over s.call (map s.lift rows)

unfoldable pub totals : List Slot → List Row → List Value
totals slots rows = map (slot_value rows) slots

-- of a single and a partial
abbrev pub brought_by : List Call → List Slot
brought_by [] = []
brought_by (call ∷ calls) = record { call = call; lift = brought call } ∷ brought_by calls

-- of a final: a partial's columns, which begin at a place
abbrev pub carried_from : ℕ → List Call → List Slot
carried_from at [] = []
carried_from at (call ∷ calls) = record { call = call; lift = λ row. column row at } ∷ carried_from (suc at) calls

abbrev pub firsts : ℕ → ℕ → Columns
firsts at zero = []
firsts at (suc n) = at ∷ firsts (suc at) n

-- single and partial
abbrev pub aggregate_rows : Columns → List Call → List Row → List Row
aggregate_rows columns calls = grouped columns (totals (brought_by calls))

-- final, of the same group and calls
abbrev pub final_rows : Columns → List Call → List Row → List Row
final_rows columns calls = grouped (firsts 0 (length columns)) (totals (carried_from (length columns) calls))

-- how many segments there are, and which of them a key's values name
pub record World : Type 0 where
  pub count : ℕ
  pub segment : List Value → ℕ

-- each pair of positions stands in `on`
abbrev pub PairsStand : List Pair → Columns → Columns → Type 0
PairsStand on [] [] = Unit {0}
PairsStand on (a ∷ more) (b ∷ others) = Contains on (record { left = a; right = b }) × PairsStand on more others
PairsStand on _ _ = ⊥

-- the list of a join's loci
abbrev pub Joins : List Pair → Locus → Locus → Type 0
Joins on Entry Entry = Unit {0}
Joins on Replicated Replicated = Unit {0}
Joins on (Hashed a) Replicated = Unit {0}
Joins on Strewn Replicated = Unit {0}
Joins on Replicated (Hashed b) = Unit {0}
Joins on Replicated Strewn = Unit {0}
Joins on (Hashed a) (Hashed b) = PairsStand on a b
Joins on _ _ = ⊥

-- a single or a final may stand there
abbrev pub Groupable : Columns → Locus → Type 0
Groupable g Entry = Unit {0}
Groupable g Replicated = Unit {0}
Groupable g (Hashed a) = (b : Columns) × (places_of a g ≡ Some b)
Groupable g Strewn = ⊥

abbrev pub IsAway : Locus → Type 0
IsAway Entry = ⊥
IsAway _ = Unit {0}

abbrev pub Below : ℕ → Columns → Type 0
Below n = AllByRecursion (λ c. c < n)

abbrev pub PairsBelow : ℕ → ℕ → List Pair → Type 0
PairsBelow n m = AllByRecursion (λ p. (p.left < n) × (p.right < m))

abbrev pub IsKey : Columns → Type 0
IsKey [] = ⊥
IsKey (c ∷ cs) = Unit {0}

-- the dispatcher, and the segments from 0 on
pub data Place : Type 0 where
  Dispatcher : Place
  Segment : ℕ → Place

abbrev pub upto : ℕ → List ℕ
upto zero = []
upto (suc n) = n ∷ upto n

-- the rows whose key names a segment
unfoldable pub rows_for : World → Columns → ℕ → List Row → List Row
rows_for w k s = filter (λ row. w.segment (key_of k row) == s)

abbrev pub Parts : Type 0
Parts = Place → List Row

-- what the senders of a motion have: of a replicated child one copy
abbrev pub gang : World → Locus → List ℕ
gang w Replicated = 0 ∷ []
gang w _ = upto w.count

unfoldable pub together : World → Parts → List Row
together w p = flat_map (λ s. p (Segment s)) (upto w.count)

unfoldable pub sent : World → Locus → Parts → List Row
sent w l p = flat_map (λ s. p (Segment s)) (gang w l)

abbrev pub gathered : List Row → Parts
gathered rows Dispatcher = rows
gathered rows (Segment s) = []

abbrev pub redistributed : World → Columns → List Row → Parts
redistributed w k rows Dispatcher = []
redistributed w k rows (Segment s) = rows_for w k s rows

abbrev pub broadcast : List Row → Parts
broadcast rows Dispatcher = []
broadcast rows (Segment s) = rows

-- an aggregate gives rows over nothing too, so it stands where its node does and nowhere else
abbrev pub at_own : Locus → (List Row → List Row) → Parts → Parts
at_own Entry f p Dispatcher = f (p Dispatcher)
at_own Entry f p (Segment s) = []
at_own _ f p Dispatcher = []
at_own _ f p (Segment s) = f (p (Segment s))
