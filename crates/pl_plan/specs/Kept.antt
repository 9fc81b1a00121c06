-- What a sound plan keeps beside what it was judged with.
use Rattle.std.specs.Prelude.{◌≡◌, ℕ, ◌≤◌, List, map, Result, Ok, Err}
use Rattle.ic_base.specs.declared.settings.Settings.{Settings}
use Rattle.ic_base.specs.Settings.{AreChecked}
use Rattle.pl_tree.specs.declared.node.Plan.{Plan}
use Rattle.pl_tree.specs.declared.schema.Schema.{Schema}
use Rattle.pl_tree.specs.declared.schema.Locus.{Locus}
use Rattle.pl_tree.specs.Trees.{Tree, tree_in, preorder}
use Rattle.pl_tree.specs.Sizes.{IsPlan, AreTables}
use Rattle.pl_tree.specs.Loci.{locus_of}
use Rattle.pl_plan.specs.declared.rule.PlanNo.{PlanNo}
use Rattle.pl_plan.specs.declared.rule.PlanNo.TheVariants.{Fault, Memory}
use Rattle.pl_plan.specs.declared.layout.MotionRow.{MotionRow}
use Rattle.pl_plan.specs.declared.sound.Judged.{Judged}
use Rattle.pl_plan.specs.Rules.{Given}
use Rattle.pl_plan.specs.Soundness.{IsSound, IsFirstFault}
use Rattle.pl_plan.specs.Motions.{motions_in_plan, slices_of}
use Rattle.pl_plan.specs.Layout.{motion_in}

abbrev pub given_with : List Schema → ℕ → Settings → Given
given_with schemas segments settings = record { schemas = schemas; segments = segments; settings = settings }

abbrev pub given_of : Judged → Given
given_of j = given_with j.schemas j.segments j.settings

abbrev pub judged_with : Plan → List Schema → ℕ → Settings → Judged
judged_with plan schemas segments settings = record { plan = plan; schemas = schemas; segments = segments; settings = settings }

-- what it was judged with is what a document can have, and the plan is sound
pub record IsJudged (j : Judged) : Type 0 where
  pub plan : IsPlan (tree_in j.plan)
  pub tables : AreTables j.schemas
  pub least_segments : 1 ≤ j.segments
  pub most_segments : j.segments ≤ 64
  pub settings : AreChecked j.settings
  pub sound : IsSound (given_of j) (tree_in j.plan)

-- the notes are those of the plan's nodes
pub record IsKept (j : Judged) (loci : List Locus) (slices : List ℕ) (motions : List MotionRow) : Type 0 where
  pub judged : IsJudged j
  pub loci_are : loci ≡ map (locus_of j.schemas) (preorder (tree_in j.plan))
  pub slices_are : slices ≡ slices_of (tree_in j.plan)
  pub motions_are : map (motion_in j.segments) motions ≡ motions_in_plan j.schemas j.segments (tree_in j.plan)

-- a refusal names the first fault, or says that memory ran out
abbrev pub Refuses : Given → Tree → PlanNo → Type 0
Refuses g tree (Fault fault) = IsFirstFault g tree fault
Refuses g tree Memory = Unit {0}
