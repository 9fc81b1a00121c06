-- A tree that matches a part hears the part's motions, and no others.
use Rattle.std.proofs.Common.{List, refl, sym, subst, inl, inr}
use Rattle.ic_base.specs.declared.keys.ConnEnd.{ConnEnd}
use Rattle.pl_ops.specs.Rows.{Line}
use Rattle.pl_runs.specs.Steps.{Step}
use Rattle.ic_motion.specs.Pulling.{Listens}
use Rattle.ex_tree.specs.Parts.{Source, Part, Has}
use Rattle.ex_tree.specs.Running.{State, Scans, Ears, One, Two, source_of, AreHeard, Runs}

pub heard_by : (keys : List ConnEnd) (part : Part) (st : State) (steps : List Step) (a : List Line) → Runs part st steps a → ((s : Source) → Has part s → Listens keys s.end.motion s.senders) → AreHeard keys st
heard_by keys part (Scans scan) steps a r f = tt
heard_by keys part (Ears m) steps a r f = f (source_of m) (subst (λ p. Has p (source_of m)) (sym r.0) refl)
heard_by keys part (One op x) steps a r f = heard_by keys r.1 x steps r.3.given.rows r.3.child.runs (λ s h. f s (subst (λ p. Has p s) (sym r.2) h))
heard_by keys part (Two join x y) steps a r f = (
  heard_by keys r.1 x steps r.4.from_left.rows r.4.left_child.runs (λ s h. f s (subst (λ p. Has p s) (sym r.3) (inl h))),
  heard_by keys r.2 y steps r.4.from_right.rows r.4.right_child.runs (λ s h. f s (subst (λ p. Has p s) (sym r.3) (inr h))),
)
