-- Which worker it is, the part of a plan that it runs, and how its tree begins.
use Rattle.std.specs.Prelude.{◌≡◌, ℕ, suc, ℤ, List, [], Contains}
use Rattle.pl_tree.specs.Trees.{tree_in}
use Rattle.pl_plan.specs.declared.sound.Judged.{Judged}
use Rattle.pl_plan.specs.Motions.{Link, gang_of}
use Rattle.pl_ops.specs.declared.loaded.Spread.{Spread}
use Rattle.pl_mean.specs.Parts.{Site}
use Rattle.pl_runs.specs.Steps.{Step}
use Rattle.pl_runs.specs.Slices.{Worker, top_of, output_of, receiving}
use Rattle.pl_runs.specs.Wanting.{wanted_by, has_its_limit}
use Rattle.ic_motion.specs.Hearing.{IsUnheard}
use Rattle.ex_tree.specs.Parts.{Source, Part, Has, out, wants, is_satisfied}
use Rattle.ex_tree.specs.Running.{State, Runs}
use Rattle.ex_tree.specs.Plans.{Place, part_of}
use Rattle.ex_plan.specs.declared.worker.WorkerId.{WorkerId}
use Rattle.ex_plan.specs.Spots.{top_number}

-- the tables of a judged plan, with their rows at each of its segments
abbrev pub site_of : Judged → List Spread → Site
site_of j tables = record { schemas = j.schemas; tables = tables; segments = j.segments }

abbrev pub place_of : WorkerId → Place
place_of id = record { session = id.session; query = id.query; at = id.at }

abbrev pub worker_of : Judged → List Spread → ℕ → ℤ → Worker
worker_of j tables slice at = record { site = site_of j tables; tree = tree_in j.plan; packet = j.settings.packet; slice = slice; at = at }

-- the segments that work on a slice of a judged plan
abbrev pub gang_in : Judged → ℕ → List ℤ
gang_in j slice = gang_of j.schemas j.segments (tree_in j.plan) slice

-- the part that the worker runs: of the slice's top node, whose first motion has the slice's number and one more
abbrev pub part_for : Judged → List Spread → WorkerId → Part
part_for j tables id = part_of (site_of j tables) (place_of id) (top_number (tree_in j.plan) id.slice) (suc id.slice) (top_of (tree_in j.plan) id.slice)

-- no step takes from a motion of the part, or halts a sender of one
abbrev pub AreUnheard : Part → List Step → Type 0
AreUnheard part steps = (source : Source) → Has part source → IsUnheard source.end.motion steps

-- a tree of this part that gave nothing yet: whatever its worker's calls for other motions were
abbrev pub Starts : Part → State → Type 0
Starts part st = (steps : List Step) → AreUnheard part steps → Runs part st steps []

-- ---- what the part has to do with the slice

-- It gives what the slice gives at the worker's segment, wants what the slice wants, and has a limit that is satisfied exactly if the
-- slice has. It hears a motion for each connection that the worker hears, and of each motion senders from the gang of its slice.
pub record Serves (w : Worker) (part : Part) : Type 0 where
  pub gives : (steps : List Step) → out part steps ≡ output_of w steps
  pub wants : (steps : List Step) → wants part steps ≡ wanted_by w steps
  pub satisfied : (steps : List Step) → is_satisfied part steps ≡ has_its_limit w steps
  pub hears : (l : Link) → Contains (receiving w) l
      → (source : Source) × Has part source × (source.end.motion ≡ l.motion) × Contains source.senders l.from
  pub senders : (source : Source) → Has part source → (a : ℤ) → Contains source.senders a
      → Contains (gang_of w.site.schemas w.site.segments w.tree source.end.motion) a
