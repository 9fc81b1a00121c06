-- Small plans over two segments: what their nodes give, and which rows are lawful answers of them.
use Rattle.std.specs.Prelude.{◌≡◌, ℕ, ℤ, pos, negsuc, Bool, true, false, List, [], ◌∷◌, Some, None}
use Rattle.ic_row.specs.declared.value.Kind.TheVariants as kind
use Rattle.ic_row.specs.declared.value.Value.{Value}
use Rattle.ic_row.specs.declared.value.Value.TheVariants.{Null, Int, Wide, Chars}
use Rattle.ic_row.specs.declared.order.Key.{Key}
use Rattle.pl_tree.specs.declared.node.Call.TheVariants.{Count, Sum}
use Rattle.pl_tree.specs.declared.schema.Schema.{Schema}
use Rattle.pl_tree.specs.declared.schema.Placing.TheVariants.{Dealt, Keyed}
use Rattle.pl_tree.specs.Trees.{Tree, Scan, Limit, Sort, Join, Partial, Final, Gather, Redistribute}
use Rattle.pl_ops.specs.declared.loaded.Spread.TheVariants.{Apart}
use Rattle.pl_ops.specs.Rows.{Line}
use Rattle.pl_ops.specs.Streams.{Stream}
use Rattle.pl_mean.specs.Parts.{Site, part}
use Rattle.pl_mean.specs.Outputs.{Came, Inputs, out}
use Rattle.pl_mean.specs.Logical.{logical, meaning}
use Rattle.pl_mean.specs.Answers.{IsLawful}

-- ---- rows and tables

abbrev pub one : ℕ → Line
one n = Int (pos n) ∷ []

abbrev pub two : Value → Value → Line
two a b = a ∷ b ∷ []

-- a text of one letter
abbrev pub letter : ℕ → Value
letter code = Chars (code ∷ [])

abbrev pub int : ℕ → Value
int n = Int (pos n)

abbrev pub l : List ℕ
l = 108 ∷ []

abbrev pub r : List ℕ
r = 114 ∷ []

-- l has an int and a text and is dealt; r has two ints and stands by the first of them
abbrev pub schemas : List Schema
schemas = record { name = l; kinds = kind.Int ∷ kind.Chars ∷ []; place = Dealt } ∷ record { name = r; kinds = kind.Int ∷ kind.Int ∷ []; place = Keyed (0 ∷ []) } ∷ []

abbrev pub l_rows : List Line
l_rows = two (int 2) (letter 120) ∷ two Null (letter 121) ∷ two (int 1) (letter 122) ∷ two (int 2) (letter 119) ∷ []

abbrev pub r_rows : List Line
r_rows = two (int 1) (int 100) ∷ two (int 2) (int 101) ∷ two Null (int 102) ∷ two (int 2) (int 103) ∷ []

abbrev pub wholes : List (List Line)
wholes = l_rows ∷ r_rows ∷ []

abbrev pub site : Site
site = record {
  schemas = schemas;
  tables =
      Apart ((two (int 2) (letter 120) ∷ two (int 1) (letter 122) ∷ []) ∷ (two Null (letter 121) ∷ two (int 2) (letter 119) ∷ []) ∷ [])
      ∷ Apart ((two (int 2) (int 101) ∷ two (int 2) (int 103) ∷ []) ∷ (two (int 1) (int 100) ∷ two Null (int 102) ∷ []) ∷ []) ∷ [];
  segments = 2;
}

abbrev pub by_first : List Key
by_first = record { column = 0; down = false } ∷ []

-- ---- plans

-- sorted at each segment, and merged
abbrev pub merging : Tree
merging = Gather (Some by_first) (Sort by_first (Scan l))

abbrev pub limited : ℕ → Tree
limited n = Limit n (Gather None (Scan l))

-- the first rows in order, cut at each segment too
abbrev pub topmost : ℕ → Tree
topmost n = Limit n (Gather (Some by_first) (Limit n (Sort by_first (Scan l))))

-- l goes to the segments where its rows of r are
abbrev pub joining : Tree
joining = Gather None (Join (record { left = 0; right = 0 } ∷ []) (Redistribute (0 ∷ []) (Scan l)) (Scan r))

-- how many rows there are, and the sum of a column, in two stages
abbrev pub counting : Tree
counting = Final (Gather None (Partial [] (Count ∷ Sum 1 ∷ []) (Scan r)))

-- ---- meanings and parts

abbrev pub joined : List Line
joined =
    (int 2 ∷ letter 120 ∷ int 2 ∷ int 101 ∷ []) ∷ (int 2 ∷ letter 120 ∷ int 2 ∷ int 103 ∷ [])
    ∷ (int 1 ∷ letter 122 ∷ int 1 ∷ int 100 ∷ [])
    ∷ (int 2 ∷ letter 119 ∷ int 2 ∷ int 101 ∷ []) ∷ (int 2 ∷ letter 119 ∷ int 2 ∷ int 103 ∷ []) ∷ []

-- each row of l meets its rows of r, and null meets no null
abbrev pub JoinMeans : Type 0
JoinMeans = meaning schemas wholes (logical joining) ≡ joined

-- the rows of l go to the segments that their first columns name: 2 to segment 0, 1 and null to segment 1
abbrev pub JoinIsRouted : Type 0
JoinIsRouted =
    (part site (Redistribute (0 ∷ []) (Scan l)) (pos 0) ≡ two (int 2) (letter 120) ∷ two (int 2) (letter 119) ∷ [])
    × (part site (Redistribute (0 ∷ []) (Scan l)) (pos 1) ≡ two (int 1) (letter 122) ∷ two Null (letter 121) ∷ [])
    × (part site (Redistribute (0 ∷ []) (Scan l)) (negsuc 0) ≡ [])

-- both stages are one aggregate over all rows, and its one row is the part at the dispatcher
abbrev pub CountMeans : Type 0
CountMeans = (meaning schemas wholes (logical counting) ≡ two (int 4) (Wide (pos 406)) ∷ []) × (part site counting (negsuc 0) ≡ two (int 4) (Wide (pos 406)) ∷ [])

-- ---- what an ordered gather gave

abbrev pub came : ℕ → Value → Value → Came
came sender a b = record { from = pos sender; row = two a b }

-- the dispatcher took these rows of motion 1, and these senders are whole
abbrev pub took : List Came → (ℤ → Bool) → Inputs
took rows whole motion at = record { took = rows; whole = whole }

abbrev pub nobody : ℤ → Bool
nobody sender = false

abbrev pub everybody : ℤ → Bool
everybody sender = true

-- what the dispatcher merged so far
abbrev pub merged_from : List Came → (ℤ → Bool) → Stream
merged_from rows whole = out site (took rows whole) 1 merging (negsuc 0)

-- the least row came, and it isn't given: the head of segment 1 isn't known
abbrev pub WaitsForHeads : Type 0
WaitsForHeads = merged_from (came 0 (int 1) (letter 122) ∷ came 0 (int 2) (letter 120) ∷ []) nobody ≡ record { rows = []; ended = false }

-- once both heads are known the least is given, whatever the order of the takes, until a head is unknown again
abbrev pub GivesLeast : Type 0
GivesLeast =
    merged_from (came 1 (int 2) (letter 119) ∷ came 0 (int 1) (letter 122) ∷ []) nobody ≡ record { rows = two (int 1) (letter 122) ∷ []; ended = false }

-- rows equal in the order's keys come from the least sender first
abbrev pub TiesFromLeast : Type 0
TiesFromLeast =
    merged_from (came 1 (int 2) (letter 119) ∷ came 0 (int 1) (letter 122) ∷ came 1 Null (letter 121) ∷ came 0 (int 2) (letter 120) ∷ []) everybody
    ≡ record { rows = two (int 1) (letter 122) ∷ two (int 2) (letter 120) ∷ two (int 2) (letter 119) ∷ two Null (letter 121) ∷ []; ended = true }

-- without an order each row is given as it was taken; the stream goes on while one sender isn't whole
abbrev pub GivesAsTaken : Type 0
GivesAsTaken =
    out site (took (came 1 (int 2) (letter 119) ∷ came 0 (int 2) (letter 120) ∷ []) nobody) 1 (limited 3) (negsuc 0)
    ≡ record { rows = two (int 2) (letter 119) ∷ two (int 2) (letter 120) ∷ []; ended = false }

-- ---- answers

abbrev pub in_order : List Line
in_order = two (int 1) (letter 122) ∷ two (int 2) (letter 120) ∷ two (int 2) (letter 119) ∷ two Null (letter 121) ∷ []

abbrev pub IsMerged : Type 0
IsMerged = IsLawful schemas wholes merging in_order

-- any two rows are a lawful answer under a limit of two; no row is one under a limit of none
abbrev pub AreAnyTwo : Type 0
AreAnyTwo = IsLawful schemas wholes (limited 2) (two (int 2) (letter 119) ∷ two Null (letter 121) ∷ []) × IsLawful schemas wholes (limited 0) []

-- one row is too few, and three are too many
abbrev pub TwoAreTwo : Type 0
TwoAreTwo =
    (IsLawful schemas wholes (limited 2) (two (int 2) (letter 119) ∷ []) → ⊥)
    × (IsLawful schemas wholes (limited 2) (two (int 2) (letter 119) ∷ two Null (letter 121) ∷ two (int 2) (letter 120) ∷ []) → ⊥)

-- all rows, but not in the order of the gather
abbrev pub OrderCounts : Type 0
OrderCounts = IsLawful schemas wholes merging (two (int 2) (letter 120) ∷ two (int 1) (letter 122) ∷ two (int 2) (letter 119) ∷ two Null (letter 121) ∷ []) → ⊥

-- the first two rows in order, of which the second may be any of two equal ones
abbrev pub AreTopTwo : Type 0
AreTopTwo = IsLawful schemas wholes (topmost 2) (two (int 1) (letter 122) ∷ two (int 2) (letter 119) ∷ [])

abbrev pub later : Line
later = two (int 2) (letter 120)

-- two rows in order, but the least one was left out
abbrev pub LeastIsThere : Type 0
LeastIsThere = IsLawful schemas wholes (topmost 2) (later ∷ two (int 2) (letter 119) ∷ []) → ⊥
