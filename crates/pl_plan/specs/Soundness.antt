-- Which plans are sound, and what is broken first in the others.
use Rattle.std.specs.Prelude.{◌≡◌, ◌≤◌, List, ◌∷◌, ◌++◌}
use Rattle.std.specs.List.{AllByRecursion}
use Rattle.pl_tree.specs.Trees.{Tree}
use Rattle.pl_plan.specs.declared.rule.Rule.{Rule}
use Rattle.pl_plan.specs.declared.rule.PlanFault.{PlanFault}
use Rattle.pl_plan.specs.Places.{Place, places_in}
use Rattle.pl_plan.specs.Rules.{Given, Breaks, rule_number}

-- the node at this place breaks no rule
abbrev pub IsUnbroken : Given → Place → Type 0
IsUnbroken g p = (rule : Rule) → Breaks g p rule → ⊥

-- no node breaks a rule
abbrev pub IsSound : Given → Tree → Type 0
IsSound g tree = AllByRecursion (IsUnbroken g) (places_in tree)

-- the node of this number breaks this rule and none of the lesser ones, and no node before it in postorder breaks any
pub record IsFirstFault (g : Given) (tree : Tree) (fault : PlanFault) : Type 0 where
  pub place : Place
  pub before : List Place
  pub after : List Place
  pub stands : places_in tree ≡ before ++ place ∷ after
  pub number : fault.node ≡ place.number
  pub broken : Breaks g place fault.rule
  pub least : (rule : Rule) → Breaks g place rule → rule_number fault.rule ≤ rule_number rule
  pub sound : AllByRecursion (IsUnbroken g) before
