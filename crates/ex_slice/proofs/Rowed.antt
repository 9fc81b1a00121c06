-- A row that the operators gave: slice 0 lets it out, and another slice takes it in hand.
use Rattle.std.proofs.Common.{◌≡◌, ◌<◌, ◌≤◌, false, cond, List, [], ◌∷◌, ◌++◌, Option, Some, None, Result, Ok, Err, refl, sym, ap, ◌∙◌, subst, inl, inr, arith, append-nil}
use Rattle.std.specs.Option.{is_some}
use Rattle.std.proofs.lemmas.Bool.{le-ltb}
use Rattle.ic_base.specs.declared.port.PortEntry.{PortEntry}
use Rattle.ic_row.specs.Spelling.{IsRow}
use Rattle.pl_ops.specs.Rows.{Line}
use Rattle.pl_runs.specs.Slices.{Worker}
use Rattle.pl_runs.specs.Runs.{Course}
use Rattle.ic_motion.specs.Pulling.{AtMostOne}
use Rattle.ic_motion.specs.Sending.{Sender, IsIdle, handed}
use Rattle.ic_motion.proofs.Lists.{all_append}
use Rattle.ex_tree.specs.declared.answers.Pulled.TheVariants.{Row}
use Rattle.ex_tree.specs.Parts.{Part}
use Rattle.ex_tree.specs.Running.{State, Runs}
use Rattle.ex_tree.specs.Working as tree_work
use Rattle.ex_tree.specs.Pulling.{IsAsked, PullsAny}
use Rattle.ex_slice.specs.declared.stage.Stage.TheVariants as stages
use Rattle.ex_slice.specs.declared.stage.Turned.{Turned}
use Rattle.ex_slice.specs.declared.stage.Turned.TheVariants as turned
use Rattle.ex_slice.specs.declared.stage.SliceNo.{SliceNo}
use Rattle.ex_slice.specs.declared.stage.SliceNo.TheVariants as why
use Rattle.ex_slice.specs.declared.stage.Gave.{Gave}
use Rattle.ex_slice.specs.declared.stage.Gave.TheVariants as gave
use Rattle.ex_slice.specs.declared.way.Way.{Way}
use Rattle.ex_slice.specs.declared.way.Way.TheVariants as ways
use Rattle.ex_slice.specs.Working.{Working, Passed, Inside, Works, work}
use Rattle.ex_slice.specs.Turning.{LeavesTurn, Turns}
use Rattle.ex_slice.specs.Acting.{at_stage, stage_given, turned_given, Gives}
use Rattle.ex_slice.proofs.Lists.{most_one}
use Rattle.ex_slice.proofs.Holding.{Adds, works_on, gone_so}

-- ---- slice 0

pub gives_row : (x y : State) (old new : List Line) (log now : List PortEntry) (row : Line) → new ≡ old ++ row ∷ [] → PullsAny x y log now (Ok (Row row)) → Gives x y (ways.Lets old) (ways.Lets new) log now (Ok gave.Moved)
gives_row x y old new log now row is f w part c going calls works =
    let given = works.holds.0 in
    let i = works.holds.1 in
    let p = f part c.steps given calls i.runs in
    let k = p.leaves in
    let adds : AtMostOne (Adds w c.steps) p.more = subst (AtMostOne (Adds w c.steps)) (sym k.0) tt in
    let next : Inside w part y (ways.Lets new) (record { steps = c.steps ++ p.more; let_out = c.let_out ++ row ∷ []; done = false }) (given ++ row ∷ []) = record {
      serves = i.serves;
      faces = i.faces;
      runs = subst (λ z. Runs part y z (given ++ row ∷ [])) (sym (ap (λ z. c.steps ++ z) k.0 ∙ append-nil c.steps)) k.1;
      undone = refl;
      handles = (is ∙ ap (λ z. z ++ row ∷ []) i.handles.0, ap (λ z. z ++ row ∷ []) i.handles.1);
    } in
    record {
      more = p.more;
      log = p.log;
      once = most_one (IsAsked part c.steps given) p.more p.makes;
      leaves = (
        row ∷ [],
        omega arith,
        works_on w part (at_stage stages.Giving x (ways.Lets old)) (at_stage stages.Giving y (ways.Lets new)) c p.more (row ∷ []) (given ++ row ∷ []) works adds (gone_so w part y (ways.Lets new) _ (given ++ row ∷ []) next) (given ++ row ∷ [], next, tt),
        inr (inl (λ e. let bad : row ∷ [] ≡ [] = e in cc)),
      );
    }

-- no room for a row
pub gives_lost : (x y : State) (was now_ : Way) (log now : List PortEntry) (row : Line) → PullsAny x y log now (Ok (Row row)) → Gives x y was now_ log now (Err why.Memory)
gives_lost x y was now_ log now row f w part c going calls works =
    let p = f part c.steps works.holds.0 calls works.holds.1.runs in
    record { more = p.more; log = p.log; once = most_one (IsAsked part c.steps works.holds.0) p.more p.makes; leaves = tt }

-- ---- another slice

module _ (x y : State) (m : Sender) (log now : List PortEntry) (row : Line) (is_row : IsRow row) (less : tree_work.work y < tree_work.work x) where
  handed_now : (rows given : List Line) → given ≡ rows → IsIdle m.work → given ++ row ∷ [] ≡ handed m.work rows row
  handed_now rows given is idle = ap (λ z. z ++ row ∷ []) is ∙ sym (ap (λ b. cond b rows (rows ++ row ∷ [])) (le-ltb 0 m.work.end (omega (arith, idle))))

  -- the row is in hand
  in_hand : (w : Worker) (part : Part) (c : Course) → (works : Works w part (at_stage stages.Giving x (ways.Passes m None)) c) → Runs part y c.steps (works.holds.0 ++ row ∷ []) → Works w part (at_stage stages.Giving y (ways.Passes m (Some row))) c
  in_hand w part c works runs =
      let given = works.holds.0 in
      let i = works.holds.1 in
      let p = i.handles.1 in
      let passed : Passed m (Some row) c.steps (given ++ row ∷ []) = record {
        rows = p.rows;
        sends = p.sends;
        given_are = handed_now p.rows given p.given_are (p.idle refl);
        idle = λ e. absurd (let bad : Some row ≡ None = e in cc);
        are_rows = all_append IsRow given (row ∷ []) p.are_rows (is_row, tt);
        hand_is_row = (is_row, tt);
      } in
      let next : Inside w part y (ways.Passes m (Some row)) c (given ++ row ∷ []) = record { serves = i.serves; faces = i.faces; runs = runs; undone = i.undone; handles = (i.handles.0, passed) } in
      record { run = works.run; read = works.read; clean = works.clean; holds = (given ++ row ∷ [], next, works.holds.2) }

  less_left : work (at_stage stages.Giving y (ways.Passes m (Some row))) ≤ work (at_stage stages.Giving x (ways.Passes m None))
  less_left = omega (arith, less)

  -- a turn that goes on from there
  from_hand : (w : Worker) (part : Part) (c : Course) (new : Working) (after_ : List PortEntry) (result : Result Turned SliceNo) → Turns w part (at_stage stages.Giving y (ways.Passes m (Some row))) new c after_ result
      → Turns w part (at_stage stages.Giving x (ways.Passes m None)) new c after_ result
  from_hand w part c new after_ result t = record { more = t.more; log = t.log; once = t.once; leaves = by result t.leaves }
    where
      by : (result : Result Turned SliceNo) → LeavesTurn w part (at_stage stages.Giving y (ways.Passes m (Some row))) new c t.more result → LeavesTurn w part (at_stage stages.Giving x (ways.Passes m None)) new c t.more result
      by (Ok turned.Moved) (rows, one, works, tells) = (
        rows,
        one,
        works,
        elim tells [
          | inl made ↦ inl made
          | inr k ↦ elim k [ inl some_ ↦ inr (inl some_) | inr fell ↦ inr (inr (omega (arith, fell, less_left))) ]
        ],
      )
      by (Ok (turned.Waiting no_)) k = k
      by (Ok turned.Done) k = k
      by (Err (why.TooLong key)) k = k
      by (Err (why.Malformed key)) k = k
      by (Err (why.Overflow node)) k = k
      by (Err why.Memory) k = k

  pub gives_on : (way : Way) (after_ : List PortEntry) (result : Result Gave SliceNo) → log ≡ now → PullsAny x y log now (Ok (Row row)) → Gives y y (ways.Passes m (Some row)) way now after_ result → Gives x y (ways.Passes m None) way log after_ result
  gives_on way after_ result same f g w part c going calls works =
      let p = f part c.steps works.holds.0 calls works.holds.1.runs in
      from_hand w part c (at_stage (stage_given result) y way) after_ (turned_given result) (g w part c refl (calls ∙ same) (in_hand w part c works p.leaves.1))

pub none_is : (o : Option Line) → is_some o ≡ false → o ≡ None
none_is None e = refl
none_is (Some row) e = absurd (cc)
