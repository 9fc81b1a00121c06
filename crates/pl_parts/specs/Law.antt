-- The law of parts: what the nodes of a sound plan give at the segments keeps their loci, and together it is what they mean.
use Rattle.std.specs.Prelude.{◌≡◌, ℕ, ◌<◌, pos, negsuc, List, [], flat_map, Option, Some, None, IsPermutation}
use Rattle.std.specs.List.{AllByRecursion}
use Rattle.ic_row.specs.Hash.{segment_for}
use Rattle.pl_tree.specs.declared.schema.Locus.{Locus}
use Rattle.pl_tree.specs.declared.schema.Locus.TheVariants.{Entry, Hashed, Replicated, Strewn}
use Rattle.pl_tree.specs.Trees.{Tree, Partial, Gather, Redistribute, Broadcast}
use Rattle.pl_tree.specs.Sizes.{AreTables}
use Rattle.pl_tree.specs.Loci.{locus_of}
use Rattle.pl_tree.specs.Partials.{Groups}
use Rattle.pl_plan.specs.Motions.{segments_from}
use Rattle.pl_plan.specs.Places.{Place, places_in}
use Rattle.pl_plan.specs.Rules.{Given}
use Rattle.pl_plan.specs.Soundness.{IsSound}
use Rattle.pl_ops.specs.declared.loaded.Spread.{Spread}
use Rattle.pl_ops.specs.Rows.{Line}
use Rattle.pl_ops.specs.Fitting.{Fits}
use Rattle.pl_mean.specs.Parts.{Site, Parts, part}
use Rattle.pl_mean.specs.Logical.{logical, meaning}

-- ---- tables

-- The tables with which a plan is judged are loaded, and their rows are these lists: there is a segment at least, the schemas
-- are those of tables, and at each segment stand the rows that each table's placing puts there.
pub record AreLoaded (g : Given) (wholes : List (List Line)) (tables : List Spread) : Type 0 where
  pub segments : 0 < g.segments
  pub schemas : AreTables g.schemas
  pub fits : Fits g.segments g.schemas wholes tables

abbrev pub site_of : Given → List Spread → Site
site_of g tables = record { schemas = g.schemas; tables = tables; segments = g.segments }

-- ---- loci

-- The rows of a node keep its locus, over so many segments. At the entry: no segment has any. Hashed by columns: each row is at
-- the segment that its columns name. Replicated: each segment has the same bag. Of all but the entry the dispatcher has none.
abbrev pub Keeps : ℕ → Locus → Parts → Type 0
Keeps n Entry p = (segment : ℕ) → segment < n → p (pos segment) ≡ []
Keeps n (Hashed columns) p = (p (negsuc 0) ≡ []) × ((segment : ℕ) → segment < n → AllByRecursion (λ row. segment_for columns row n ≡ segment) (p (pos segment)))
Keeps n Replicated p = (p (negsuc 0) ≡ []) × ((segment other : ℕ) → segment < n → other < n → IsPermutation (p (pos segment)) (p (pos other)))
Keeps n Strewn p = p (negsuc 0) ≡ []

-- Its rows are this bag: those at the dispatcher; of a node that is hashed or strewn those of all segments together; of a
-- replicated one those of each segment alone.
abbrev pub Means : ℕ → Locus → Parts → List Line → Type 0
Means n Entry p bag = IsPermutation (p (negsuc 0)) bag
Means n (Hashed columns) p bag = IsPermutation (flat_map p (segments_from 0 n)) bag
Means n Replicated p bag = (segment : ℕ) → segment < n → IsPermutation (p (pos segment)) bag
Means n Strewn p bag = IsPermutation (flat_map p (segments_from 0 n)) bag

-- the partial that a node is, or over which it is a motion; its rows are no whole groups yet
abbrev pub unfinished : Tree → Option Groups
unfinished (Partial g cs c) = Some (record { group = g; calls = cs })
unfinished (Gather o c) = unfinished c
unfinished (Redistribute ks c) = unfinished c
unfinished (Broadcast c) = unfinished c
unfinished _ = None

-- ---- the law

-- of one node: its parts keep its locus; and if it is neither a partial nor a motion over one, they are its meaning
pub record PartsLaw (g : Given) (tables : List Spread) (wholes : List (List Line)) (node : Tree) : Type 0 where
  pub keeps : Keeps g.segments (locus_of g.schemas node) (part (site_of g tables) node)
  pub means : unfinished node ≡ None → Means g.segments (locus_of g.schemas node) (part (site_of g tables) node) (meaning g.schemas wholes (logical node))

-- of each node of a sound plan over loaded tables
abbrev pub PartsAreTheMeaning : Type 0
PartsAreTheMeaning =
    (g : Given) (wholes : List (List Line)) (tables : List Spread) (tree : Tree) → AreLoaded g wholes tables → IsSound g tree
    → AllByRecursion (λ (p : Place). PartsLaw g tables wholes p.node) (places_in tree)

-- so the root's part at the dispatcher is the meaning of the plan
abbrev pub RootPartIsTheMeaning : Type 0
RootPartIsTheMeaning =
    (g : Given) (wholes : List (List Line)) (tables : List Spread) (tree : Tree) → AreLoaded g wholes tables → IsSound g tree
    → IsPermutation (part (site_of g tables) tree (negsuc 0)) (meaning g.schemas wholes (logical tree))
