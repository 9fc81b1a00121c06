-- What judging a plan notes down, or where it stops.
use Rattle.std.specs.Prelude.{◌≡◌, ℕ, List, [], ◌∷◌, ◌++◌, reverse, Option, Some, None, Result, Ok, Err}
use Rattle.pl_tree.specs.declared.schema.Schema.{Schema}
use Rattle.pl_tree.specs.declared.schema.Locus.{Locus}
use Rattle.pl_tree.specs.Trees.{Tree}
use Rattle.pl_plan.specs.declared.rule.Rule.{Rule}
use Rattle.pl_plan.specs.declared.rule.PlanFault.{PlanFault}
use Rattle.pl_plan.specs.declared.rule.PlanNo.{PlanNo}
use Rattle.pl_plan.specs.declared.rule.PlanNo.TheVariants.{Fault, Memory}
use Rattle.pl_plan.specs.declared.layout.Gang.TheVariants.{Dispatcher}
use Rattle.pl_plan.specs.declared.facts.Facts.{Facts}
use Rattle.pl_plan.specs.declared.sound.Notes.{Notes}
use Rattle.pl_plan.specs.Above.{nothing}
use Rattle.pl_plan.specs.Walking.{fault_at, walked}
use Rattle.pl_plan.specs.Layout.{nothing_laid, laid}

-- the loci of a root and of all nodes below it, in preorder
abbrev pub all_loci : Facts → List Locus
all_loci facts = reverse (facts.below ++ facts.locus ∷ [])

abbrev pub noted : List Locus → Tree → Notes
noted loci tree = record { loci = loci; slices = (laid loci 0 Dispatcher tree nothing_laid).slices; motions = (laid loci 0 Dispatcher tree nothing_laid).motions }

-- the notes of a plan that was walked to its end
pub record IsNoted (s : List Schema) (tree : Tree) (notes : Notes) : Type 0 where
  pub facts : Facts
  pub walk : walked s nothing 0 tree ≡ Ok facts
  pub are : notes ≡ noted (all_loci facts) tree

abbrev pub Judges : List Schema → Tree → Result Notes PlanNo → Type 0
Judges s tree (Ok notes) = IsNoted s tree notes
Judges s tree (Err (Fault fault)) = walked s nothing 0 tree ≡ Err fault
Judges s tree (Err Memory) = Unit {0}

-- a rule that is broken at the root, or none
abbrev pub Limits : Option Rule → Result (Unit {0}) PlanNo → Type 0
Limits rule (Ok u) = rule ≡ None
Limits rule (Err (Fault fault)) = (r : Rule) × (rule ≡ Some r) × (fault ≡ fault_at 0 r)
Limits rule (Err Memory) = ⊥
