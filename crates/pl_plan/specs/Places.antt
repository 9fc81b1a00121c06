-- The nodes of a plan in postorder, each with its number and with what stands above it.
use Rattle.std.specs.Prelude.{ℕ, suc, ◌+◌, Bool, true, false, List, [], ◌∷◌, ◌++◌, Option, Some, None, if◌then◌else◌}
use Rattle.pl_tree.specs.Trees.{Tree, Scan, Filter, Project, Limit, Sort, Join, Single, Partial, Final, Gather, Redistribute, Broadcast, nodes_in}

-- a node, its number in preorder from 0, and the nodes above it, the nearest first and the root last
pub record Place : Type 0 where
  pub number : ℕ
  pub above : List Tree
  pub node : Tree

abbrev pub here : List Tree → ℕ → Tree → List Place
here above n tree = record { number = n; above = above; node = tree } ∷ []

-- a node stands after those below it, left before right
abbrev pub postorder : List Tree → ℕ → Tree → List Place
postorder above n (Scan t) = here above n (Scan t)
postorder above n (Filter e c) = postorder (Filter e c ∷ above) (n + 1) c ++ here above n (Filter e c)
postorder above n (Project cols c) = postorder (Project cols c ∷ above) (n + 1) c ++ here above n (Project cols c)
postorder above n (Limit k c) = postorder (Limit k c ∷ above) (n + 1) c ++ here above n (Limit k c)
postorder above n (Sort ks c) = postorder (Sort ks c ∷ above) (n + 1) c ++ here above n (Sort ks c)
postorder above n (Join on l r) = postorder (Join on l r ∷ above) (n + 1) l ++ (postorder (Join on l r ∷ above) (n + 1 + nodes_in l) r ++ here above n (Join on l r))
postorder above n (Single g cs c) = postorder (Single g cs c ∷ above) (n + 1) c ++ here above n (Single g cs c)
postorder above n (Partial g cs c) = postorder (Partial g cs c ∷ above) (n + 1) c ++ here above n (Partial g cs c)
postorder above n (Final c) = postorder (Final c ∷ above) (n + 1) c ++ here above n (Final c)
postorder above n (Gather o c) = postorder (Gather o c ∷ above) (n + 1) c ++ here above n (Gather o c)
postorder above n (Redistribute ks c) = postorder (Redistribute ks c ∷ above) (n + 1) c ++ here above n (Redistribute ks c)
postorder above n (Broadcast c) = postorder (Broadcast c ∷ above) (n + 1) c ++ here above n (Broadcast c)

-- all nodes of a plan
abbrev pub places_in : Tree → List Place
places_in tree = postorder [] 0 tree

-- ---- what stands above

-- nothing stands above the root
abbrev pub is_root : List Tree → Bool
is_root [] = true
is_root (up ∷ above) = false

-- a partial is reached from a final: right under it, or with one motion between
abbrev pub is_final : List Tree → Bool
is_final (Final c ∷ above) = true
is_final _ = false

abbrev pub is_reached : List Tree → Bool
is_reached (Final c ∷ above) = true
is_reached (Gather o c ∷ above) = is_final above
is_reached (Redistribute ks c ∷ above) = is_final above
is_reached (Broadcast c ∷ above) = is_final above
is_reached _ = false

-- any number of projects, and the root, which is a limit: its count
abbrev pub root_limit : List Tree → Option ℕ
root_limit (Project cols c ∷ above) = root_limit above
root_limit (Limit n c ∷ above) = if is_root above then Some n else None
root_limit _ = None

-- any number of projects, one gather, any number of projects, and the root, which is a limit: its count
abbrev pub limit_over : List Tree → Option ℕ
limit_over (Project cols c ∷ above) = limit_over above
limit_over (Gather o c ∷ above) = root_limit above
limit_over _ = None
