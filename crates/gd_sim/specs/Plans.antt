-- Which plans run so far, and what each of them gathers.
use Rattle.std.specs.Prelude.{◌≡◌, ℕ, ◌+◌, ◌≤◌, List, [], ◌∷◌, length, Bool, true, false, if◌then◌else◌, Option, Some, None}
use Rattle.ic_base.specs.declared.settings.Settings.{Settings}
use Rattle.pl_tree.specs.declared.schema.Schema.{Schema}
use Rattle.pl_tree.specs.declared.schema.Placing.{Placing}
use Rattle.pl_tree.specs.declared.schema.Placing.TheVariants.{Keyed, Dealt, Everywhere}
use Rattle.pl_tree.specs.Trees.{Tree, Scan, Gather, tree_in}
use Rattle.pl_tree.specs.Columns.{same_text}
use Rattle.pl_plan.specs.declared.sound.Judged.{Judged}
use Rattle.pl_ops.specs.declared.loaded.Spread.{Spread}
use Rattle.pl_ops.specs.Rows.{Line}
use Rattle.pl_ops.specs.Fitting.{Fits}
use Rattle.gd_sim.specs.declared.feed.Feed.{Feed}
use Rattle.gd_sim.specs.declared.run.FirstRun.{FirstRun}
use Rattle.gd_sim.specs.Run.{IsRun}

-- ---- one plan

abbrev pub scanned : Tree → Option (List ℕ)
scanned (Scan name) = Some name
scanned _ = None

-- the name of the table whose rows a plan gathers, if it is a gather without an order over a scan
abbrev pub gathered : Tree → Option (List ℕ)
gathered (Gather None child) = scanned child
gathered _ = None

abbrev pub is_some : Option (List ℕ) → Bool
is_some None = false
is_some (Some name) = true

-- the plan is a gather without an order over a scan
abbrev pub is_gather : Tree → Bool
is_gather tree = is_some (gathered tree)

-- segment 0 sends what stands everywhere, and each segment its part of the rest
abbrev pub senders_of : ℕ → Placing → ℕ
senders_of segments (Keyed columns) = segments
senders_of segments Dealt = segments
senders_of segments Everywhere = 1

-- the rows of the table of this name, of tables of which the first has this number
abbrev pub feed_from : ℕ → ℕ → List ℕ → List Schema → Option Feed
feed_from segments number name [] = None
feed_from segments number name (schema ∷ schemas) =
    if same_text schema.name name
    then Some (record { table = number; senders = senders_of segments schema.place })
    else feed_from segments (number + 1) name schemas

abbrev pub feed_named : Judged → Option (List ℕ) → Option Feed
feed_named j None = None
feed_named j (Some name) = feed_from j.segments 0 name j.schemas

-- what a plan gathers, if it is a gather without an order over the scan of one of its tables
abbrev pub feed_of : Judged → Option Feed
feed_of j = feed_named j (gathered (tree_in j.plan))

-- ---- all plans of a session

abbrev pub before : Option Feed → Option (List Feed) → Option (List Feed)
before None feeds = None
before (Some feed) None = None
before (Some feed) (Some feeds) = Some (feed ∷ feeds)

-- what each plan gathers, if each is such a gather
abbrev pub feeds_of : List Judged → Option (List Feed)
feeds_of [] = Some []
feeds_of (j ∷ js) = before (feed_of j) (feeds_of js)

-- a plan that runs so far, judged for these segments and settings, and with at most 64 tables, which the loaded ones fit with some rows
pub record Runs (segments : ℕ) (settings : Settings) (loaded : List Spread) (j : Judged) : Type 0 where
  pub gathers : is_gather (tree_in j.plan) ≡ true
  pub tables : length j.schemas ≤ 64
  pub segments_are : j.segments ≡ segments
  pub settings_are : j.settings ≡ settings
  pub wholes : List (List Line)
  pub fits : Fits segments j.schemas wholes loaded

-- the run is one of what these plans gather
pub record IsRunOf (session segments rounds : ℕ) (settings : Settings) (loaded : List Spread) (plans : List Judged) (run : FirstRun) : Type 0 where
  pub feeds : List Feed
  pub are : feeds_of plans ≡ Some feeds
  pub is_run : IsRun session segments rounds settings loaded feeds run
