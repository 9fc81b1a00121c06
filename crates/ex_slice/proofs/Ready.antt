-- A slice that may have a turn can do what its stage asks for.
use Rattle.std.proofs.Common.{◌≡◌, true, List, refl, sym, subst, inl, inr}
use Rattle.ic_base.specs.declared.keys.ConnEnd.{ConnEnd}
use Rattle.ic_base.specs.declared.port.PortEntry.{PortEntry}
use Rattle.ic_chunk.proofs.Lists.{all_by}
use Rattle.ic_row.specs.declared.value.Value.{Value}
use Rattle.ic_row.specs.declared.value.Value.TheVariants.{Null, Int, Wide, Chars}
use Rattle.ic_row.specs.Spelling.{FitsLength, HasLengths, IsValue, IsRow}
use Rattle.pl_ops.specs.Rows.{Line}
use Rattle.pl_runs.specs.Steps.{Step}
use Rattle.ex_tree.specs.Parts.{Part, Has}
use Rattle.ex_tree.specs.Running.{State, Scans, Ears, One, Two, AreHeard, Runs, source_of}
use Rattle.ex_slice.specs.declared.stage.Stage.{Stage}
use Rattle.ex_slice.specs.declared.stage.Stage.TheVariants as stages
use Rattle.ex_slice.specs.declared.way.Way.{Way}
use Rattle.ex_slice.specs.declared.way.Way.TheVariants as ways
use Rattle.ex_slice.specs.Working.{Handles, IsOpen, IsEmptied, Listening, Reaching, CanTurn, held}
use Rattle.ex_slice.specs.Turning.{is_going}
use Rattle.ex_slice.specs.Acting.{at_stage, CanGive, CanEnd}

-- ---- the motions are heard

pub hears_all : (keys : List ConnEnd) (part : Part) (tree : State) (steps : List Step) (given : List Line) → Listening keys part → Runs part tree steps given → AreHeard keys tree
hears_all keys part (Scans scan) steps given l r = tt
hears_all keys part (Ears m) steps given l (is, h) = l (source_of m) (subst (λ k. Has k (source_of m)) (sym is) refl)
hears_all keys part (One op x) steps given l (p, c, is, r) = hears_all keys c x steps r.given.rows (λ source has. l source (subst (λ k. Has k source) (sym is) has)) r.child.runs
hears_all keys part (Two j x y) steps given l (on, a, b, is, q) = (
  hears_all keys a x steps q.from_left.rows (λ source has. l source (subst (λ k. Has k source) (sym is) (inl has))) q.left_child.runs,
  hears_all keys b y steps q.from_right.rows (λ source has. l source (subst (λ k. Has k source) (sym is) (inr has))) q.right_child.runs,
)

-- ---- rows that can be spelled

fits_so : (v : Value) → IsValue v → FitsLength v
fits_so Null h = tt
fits_so (Int n) h = tt
fits_so (Wide n) h = tt
fits_so (Chars text) h = h.0

pub lengths_so : (row : Line) → IsRow row → HasLengths row
lengths_so row h = record { count = h.count; texts = all_by IsValue FitsLength fits_so row h.values }

-- ---- by stage

module _ (keys : List ConnEnd) (log : List PortEntry) (tree : State) (way : Way) where
  pub hears_in : (stage : Stage) → is_going stage ≡ true → CanTurn keys log (at_stage stage tree way) → AreHeard keys tree
  hears_in stages.Giving going can = hears_all keys can.part tree can.course.steps can.works.holds.0 can.listens can.works.holds.1.runs
  hears_in stages.Ending going can = hears_all keys can.part tree can.course.steps can.works.holds.0 can.listens can.works.holds.1.runs
  hears_in stages.Halting going can = hears_all keys can.part tree can.course.steps can.works.holds.0 can.listens can.works.holds.1.runs
  hears_in stages.Done going can = absurd (cc)
  hears_in (stages.Refused no_) going can = absurd (cc)

  pub can_give : CanTurn keys log (at_stage stages.Giving tree way) → CanGive keys way
  can_give can = by way can.reaches can.works.holds.1.handles can.works.holds.2
    where
      by : (way : Way) → Reaching keys way → Handles way can.course.steps can.works.holds.0 can.course.let_out → IsOpen way → CanGive keys way
      by (ways.Lets rows) r h o = tt
      by (ways.Passes m hand) r h o = (r, o.0, all_by IsRow HasLengths lengths_so (held hand) h.1.hand_is_row)

  pub can_end : CanTurn keys log (at_stage stages.Ending tree way) → CanEnd keys way
  can_end can = by way can.reaches can.works.holds.1.handles can.works.holds.2
    where
      by : (way : Way) → Reaching keys way → Handles way can.course.steps can.works.holds.0 can.course.let_out → IsEmptied way → CanEnd keys way
      by (ways.Lets rows) r h o = tt
      by (ways.Passes m hand) r h o = (r, h.1.idle o.0)
