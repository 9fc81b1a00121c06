-- The order in which a node delivers its rows, as sort keys; none at all if there are no keys.
use Rattle.std.specs.Prelude.{ℕ, Bool, List, [], ◌∷◌, Option, Some, None}
use Rattle.ic_row.specs.declared.order.Key.{Key}
use Rattle.pl_tree.specs.Trees.{Tree, Scan, Filter, Project, Limit, Sort, Join, Single, Partial, Final, Gather, Redistribute, Broadcast}
use Rattle.pl_tree.specs.Places.{place_of}

abbrev pub key_at : Bool → ℕ → Key
key_at down column = record { column = column; down = down }

abbrev pub unless_dropped : Option ℕ → Bool → List Key → List Key
unless_dropped None down keys = []
unless_dropped (Some place) down keys = key_at down place ∷ keys

-- the longest prefix of the keys whose columns are kept, at their first places
abbrev pub kept_order : List ℕ → List Key → List Key
kept_order columns [] = []
kept_order columns (key ∷ keys) = unless_dropped (place_of key.column columns) key.down (kept_order columns keys)

abbrev pub keys_in : Option (List Key) → List Key
keys_in None = []
keys_in (Some keys) = keys

abbrev pub order_of : Tree → List Key
order_of (Scan t) = []
order_of (Filter e c) = order_of c
order_of (Project cols c) = kept_order cols (order_of c)
order_of (Limit n c) = order_of c
order_of (Sort ks c) = ks
order_of (Join on l r) = []
order_of (Single g cs c) = []
order_of (Partial g cs c) = []
order_of (Final c) = []
order_of (Gather o c) = keys_in o
order_of (Redistribute ks c) = []
order_of (Broadcast c) = []
