-- From a send of the row in hand to a turn.
use Rattle.std.proofs.Common.{◌≡◌, ◌<◌, Bool, false, cond, List, [], ◌∷◌, ◌++◌, Option, Some, None, Result, Ok, Err, refl, sym, ap, ◌∙◌, subst, inl, inr, arith, append-nil, append_assoc}
use Rattle.std.specs.Prelude.{◌⊎◌}
use Rattle.std.specs.List.{AllByRecursion}
use Rattle.std.proofs.lemmas.Bool.{lt-ltb}
use Rattle.ic_base.specs.declared.port.PortEntry.{PortEntry}
use Rattle.ic_base.specs.declared.port.PortNo.{PortNo}
use Rattle.ic_base.specs.declared.port.PortNo.TheVariants.{Full, Empty, Stopped, Ended, TooLong, Busy, Memory}
use Rattle.ic_row.specs.Spelling.{IsRow}
use Rattle.pl_ops.specs.Rows.{Line}
use Rattle.pl_runs.specs.Steps.{Step, calls_of}
use Rattle.pl_runs.specs.Slices.{Worker}
use Rattle.pl_runs.specs.Runs.{Course}
use Rattle.ic_motion.specs.declared.answers.MotionNo.{MotionNo}
use Rattle.ic_motion.specs.declared.answers.MotionNo.TheVariants as motions
use Rattle.ic_motion.specs.declared.answers.Sent.{Sent}
use Rattle.ic_motion.specs.declared.answers.Sent.TheVariants as sents
use Rattle.ic_motion.specs.Answers.{refused_by}
use Rattle.ic_motion.specs.Pulling.{AtMostOne}
use Rattle.ic_motion.specs.Sending.{Sender, Sends, IsIdle, handed}
use Rattle.ic_motion.specs.Sent.{SameOut, IsPut, SendsBy, LeavesSend, Waits}
use Rattle.ex_tree.specs.Parts.{Part, out}
use Rattle.ex_tree.specs.Running.{State}
use Rattle.ex_tree.proofs.Fronts.{Begins}
use Rattle.ex_tree.proofs.Frames.{runs_begin}
use Rattle.ex_slice.specs.declared.stage.Stage.{Stage}
use Rattle.ex_slice.specs.declared.stage.Stage.TheVariants as stages
use Rattle.ex_slice.specs.declared.stage.Turned.TheVariants as turned
use Rattle.ex_slice.specs.declared.stage.SliceNo.TheVariants as why
use Rattle.ex_slice.specs.declared.stage.Gave.TheVariants as gave
use Rattle.ex_slice.specs.declared.way.Way.TheVariants as ways
use Rattle.ex_slice.specs.Working.{Passed, Inside, HoldsAt, Works, with_hand, held}
use Rattle.ex_slice.specs.Turning.{WaitsBy, LeavesTurn, Turns}
use Rattle.ex_slice.specs.Acting.{at_stage, no_of_motion, Gives}
use Rattle.ex_slice.proofs.Lists.{most_map, most_one}
use Rattle.ex_slice.proofs.Links.{faces_same}
use Rattle.ex_slice.proofs.Sendings.{fit_put}
use Rattle.ex_slice.proofs.Holding.{Adds, works_on, Gone, hand_front, from_none, works_refused}
use Rattle.ex_slice.proofs.Passing.{IsOfSending, put_sends, runs_on, read_sending, made_answered, made_or_none}

module _ (w : Worker) (part : Part) (tree : State) (m n : Sender) (row : Line) (c : Course) (same : SameOut m n) (opens : n.ending ≡ false) (works : Works w part (at_stage stages.Giving tree (ways.Passes m (Some row))) c) where
  abbrev given : List Line
  given = works.holds.0

  abbrev inside : Inside w part tree (ways.Passes m (Some row)) c given
  inside = works.holds.1

  abbrev passed : Passed m (Some row) c.steps given
  passed = inside.handles.1

  out_front : Begins given (out part c.steps).rows
  out_front = runs_begin part tree c.steps given inside.runs

  -- what was handed over, with the row or without it, is the first of what was given
  front_so : (taken : List Line) → (taken ≡ passed.rows) ⊎ (taken ≡ handed m.work passed.rows row) → Begins taken given
  front_so taken (inl e) = subst (λ z. Begins z given) (sym e) (hand_front m (Some row) c.steps given passed)
  front_so taken (inr e) = ([], passed.given_are ∙ sym e ∙ sym (append-nil taken))

  front_out : (taken : List Line) → Begins taken given → Begins taken (out part c.steps).rows
  front_out taken b = (b.0 ++ out_front.0, out_front.1 ∙ ap (λ z. z ++ out_front.0) b.1 ∙ append_assoc taken b.0 out_front.0)

  adds_so : (taken : List Line) (more : List Step) → Begins taken given → AtMostOne (IsPut m c.steps) more → Sends n (c.steps ++ more) taken → AtMostOne (Adds w c.steps) more
  adds_so taken [] b h sends = tt
  adds_so taken (s ∷ []) b h sends = record {
    fits = fit_put w part inside.serves c.steps m n same inside.faces s taken h sends (front_out taken b);
    read = read_sending c.steps s (put_sends m c.steps s h);
    from = from_none w s (put_sends m c.steps s h).takes;
  }
  adds_so taken (s ∷ t ∷ more) b h sends = absurd h

  gone_on : (hand : Option Line) (taken : List Line) (more : List Step) → Begins taken given → AtMostOne (IsPut m c.steps) more → Sends n (c.steps ++ more) taken → (done : Bool) → done ≡ false → (let_out : List Line) → let_out ≡ []
      → Gone w part tree (ways.Passes n hand) (record { steps = c.steps ++ more; let_out = let_out; done = done }) given
  gone_on hand taken more b h sends done undone let_out none = record {
    serves = inside.serves;
    faces = faces_same w m n same inside.faces;
    runs = runs_on part tree c.steps more given (most_map (IsPut m c.steps) IsOfSending more (put_sends m c.steps) h) inside.runs;
    undone = undone;
    handled = (none, record { rows = taken; sends = sends; front = b; are_rows = passed.are_rows });
  }

  let_none : c.let_out ++ [] ≡ []
  let_none = append-nil c.let_out ∙ inside.handles.0

  next_inside : (hand : Option Line) (more : List Step) → AtMostOne (IsPut m c.steps) more → Sends n (c.steps ++ more) (handed m.work passed.rows row) → given ≡ with_hand n.work (handed m.work passed.rows row) hand → (hand ≡ None → IsIdle n.work) → AllByRecursion IsRow (held hand)
      → Inside w part tree (ways.Passes n hand) (record { steps = c.steps ++ more; let_out = c.let_out ++ []; done = false }) given
  next_inside hand more h sends are idle is_row = record {
    serves = inside.serves;
    faces = faces_same w m n same inside.faces;
    runs = runs_on part tree c.steps more given (most_map (IsPut m c.steps) IsOfSending more (put_sends m c.steps) h) inside.runs;
    undone = refl;
    handles = (let_none, record { rows = handed m.work passed.rows row; sends = sends; given_are = are; idle = idle; are_rows = passed.are_rows; hand_is_row = is_row });
  }

  -- in whichever stage
  next_works : (stage : Stage) (hand : Option Line) (more : List Step) → AtMostOne (IsPut m c.steps) more → Sends n (c.steps ++ more) (handed m.work passed.rows row) → (are : given ≡ with_hand n.work (handed m.work passed.rows row) hand) → (idle : hand ≡ None → IsIdle n.work) → AllByRecursion IsRow (held hand)
      → (Inside w part tree (ways.Passes n hand) (record { steps = c.steps ++ more; let_out = c.let_out ++ []; done = false }) given → HoldsAt w part stage tree (ways.Passes n hand) (record { steps = c.steps ++ more; let_out = c.let_out ++ []; done = false }))
      → Works w part (at_stage stage tree (ways.Passes n hand)) (record { steps = c.steps ++ more; let_out = c.let_out ++ []; done = false })
  next_works stage hand more h sends are idle is_row holds =
      let b = front_so (handed m.work passed.rows row) (inr refl) in
      works_on w part (at_stage stages.Giving tree (ways.Passes m (Some row))) (at_stage stage tree (ways.Passes n hand)) c more [] given works (adds_so (handed m.work passed.rows row) more b h sends)
      (gone_on hand (handed m.work passed.rows row) more b h sends false refl (c.let_out ++ []) let_none) (holds (next_inside hand more h sends are idle is_row))

  -- a row that stays in hand is in work
  stays : 0 < n.work.end → given ≡ with_hand n.work (handed m.work passed.rows row) (Some row)
  stays busy = passed.given_are ∙ sym (ap (λ b. cond b (handed m.work passed.rows row) (handed m.work passed.rows row ++ row ∷ [])) (lt-ltb 0 n.work.end busy))

  module _ (now : List PortEntry) (going : n.refused ≡ None) where
    turn_done : SendsBy m n c.steps passed.rows row now (Ok sents.Done) → Turns w part (at_stage stages.Giving tree (ways.Passes m (Some row))) (at_stage stages.Giving tree (ways.Passes n None)) c now (Ok turned.Moved)
    turn_done q = record {
      more = q.more;
      log = q.log;
      once = most_one (IsPut m c.steps) q.more q.makes;
      leaves =
          let k = q.leaves in (
            [],
            omega arith,
            next_works stages.Giving None q.more q.makes k.0 passed.given_are (λ e. k.1.2) tt (λ i. (given, i, (opens, going))),
            elim (made_or_none q.more k.1.3) [ inl none ↦ inr (inr (omega arith)) | inr made ↦ inl made ],
          );
    }

    turn_stopped : SendsBy m n c.steps passed.rows row now (Ok sents.AllStopped) → Turns w part (at_stage stages.Giving tree (ways.Passes m (Some row))) (at_stage stages.Halting tree (ways.Passes n None)) c now (Ok turned.Moved)
    turn_stopped q = record {
      more = q.more;
      log = q.log;
      once = most_one (IsPut m c.steps) q.more q.makes;
      leaves = let k = q.leaves in ([], omega arith, next_works stages.Halting None q.more q.makes k.0 passed.given_are (λ e. k.1.1) tt (λ i. (given, i, inl k.1.0)), inr (inr (omega arith)));
    }

    turn_more : SendsBy m n c.steps passed.rows row now (Ok sents.More) → Turns w part (at_stage stages.Giving tree (ways.Passes m (Some row))) (at_stage stages.Giving tree (ways.Passes n (Some row))) c now (Ok turned.Moved)
    turn_more q = record {
      more = q.more;
      log = q.log;
      once = most_one (IsPut m c.steps) q.more q.makes;
      leaves =
          let k = q.leaves in (
            [],
            omega arith,
            next_works stages.Giving (Some row) q.more q.makes k.0 (stays k.1.1.in_work) (λ e. absurd (let bad : Some row ≡ None = e in cc)) passed.hand_is_row (λ i. (given, i, (opens, going))),
            inl (made_answered q.more k.1.2),
          );
    }

    turn_wait : (no_ : PortNo) → SendsBy m n c.steps passed.rows row now (Ok (sents.Wait no_)) → Turns w part (at_stage stages.Giving tree (ways.Passes m (Some row))) (at_stage stages.Giving tree (ways.Passes n (Some row))) c now (Ok (turned.Waiting no_))
    turn_wait no_ q = record {
      more = q.more;
      log = q.log;
      once = most_one (IsPut m c.steps) q.more q.makes;
      leaves =
          let k = q.leaves in (
            [],
            omega arith,
            next_works stages.Giving (Some row) q.more q.makes k.0 (stays k.1.1.in_work) (λ e. absurd (let bad : Some row ≡ None = e in cc)) passed.hand_is_row (λ i. (given, i, (opens, going))),
            waits no_ q.more k.1.2,
          );
    }
      where
        waits : (no_ : PortNo) (more : List Step) → Waits (sents.Wait no_) more → WaitsBy no_ more
        waits Full more h = h
        waits Busy more h = h
        waits Empty more h = absurd h
        waits Stopped more h = absurd h
        waits Ended more h = absurd h
        waits (TooLong key) more h = absurd h
        waits Memory more h = absurd h

  turn_no : (now : List PortEntry) (no_ : MotionNo) → SendsBy m n c.steps passed.rows row now (Err no_) → Turns w part (at_stage stages.Giving tree (ways.Passes m (Some row))) (at_stage (stages.Refused (no_of_motion no_)) tree (ways.Passes n (Some row))) c now (Err (no_of_motion no_))
  turn_no now no_ q = record { more = q.more; log = q.log; once = most_one (IsPut m c.steps) q.more q.makes; leaves = by no_ q.leaves }
    where
      by : (no_ : MotionNo) → LeavesSend m n c.steps q.more passed.rows row (Err no_) → LeavesTurn w part (at_stage stages.Giving tree (ways.Passes m (Some row))) (at_stage (stages.Refused (no_of_motion no_)) tree (ways.Passes n (Some row))) c q.more (Err (no_of_motion no_))
      by (motions.TooLong key) (taken, which, sends, refusal) =
          let b = front_so taken which in
          (refusal, works_refused w part (at_stage stages.Giving tree (ways.Passes m (Some row))) c (why.TooLong key) tree (ways.Passes n (Some row)) q.more given works inside.undone (adds_so taken q.more b q.makes sends) (gone_on (Some row) taken q.more b q.makes sends c.done inside.undone c.let_out inside.handles.0))
      by (motions.Malformed key) k = tt
      by motions.Memory k = tt

-- ---- whatever worker it is

module _ (tree : State) (m n : Sender) (row : Line) (log now : List PortEntry) (same : SameOut m n) (opens : n.ending ≡ false) where
  abbrev pub SendsRow : Result Sent MotionNo → Type 0
  SendsRow result = (steps : List Step) (rows : List Line) → m.refused ≡ None → calls_of steps ≡ log → Sends m steps rows → SendsBy m n steps rows row now result

  module _ (result : Result Sent MotionNo) (f : SendsRow result) (refused : n.refused ≡ refused_by result) where
    sent_by : (w : Worker) (part : Part) (c : Course) → calls_of c.steps ≡ log → (works : Works w part (at_stage stages.Giving tree (ways.Passes m (Some row))) c) → SendsBy m n c.steps works.holds.1.handles.1.rows row now result
    sent_by w part c calls works = f c.steps works.holds.1.handles.1.rows works.holds.2.1 calls works.holds.1.handles.1.sends

  pub puts_done : SendsRow (Ok sents.Done) → n.refused ≡ None → Gives tree tree (ways.Passes m (Some row)) (ways.Passes n None) log now (Ok gave.Moved)
  puts_done f going w part c _ calls works = turn_done w part tree m n row c same opens works now going (sent_by (Ok sents.Done) f going w part c calls works)

  pub puts_stopped : SendsRow (Ok sents.AllStopped) → n.refused ≡ None → Gives tree tree (ways.Passes m (Some row)) (ways.Passes n None) log now (Ok gave.Unwanted)
  puts_stopped f going w part c _ calls works = turn_stopped w part tree m n row c same opens works now going (sent_by (Ok sents.AllStopped) f going w part c calls works)

  pub puts_more : SendsRow (Ok sents.More) → n.refused ≡ None → Gives tree tree (ways.Passes m (Some row)) (ways.Passes n (Some row)) log now (Ok gave.Moved)
  puts_more f going w part c _ calls works = turn_more w part tree m n row c same opens works now going (sent_by (Ok sents.More) f going w part c calls works)

  pub puts_wait : (no_ : PortNo) → SendsRow (Ok (sents.Wait no_)) → n.refused ≡ None → Gives tree tree (ways.Passes m (Some row)) (ways.Passes n (Some row)) log now (Ok (gave.Waiting no_))
  puts_wait no_ f going w part c _ calls works = turn_wait w part tree m n row c same opens works now going no_ (sent_by (Ok (sents.Wait no_)) f going w part c calls works)

  pub puts_no : (no_ : MotionNo) → SendsRow (Err no_) → n.refused ≡ Some no_ → Gives tree tree (ways.Passes m (Some row)) (ways.Passes n (Some row)) log now (Err (no_of_motion no_))
  puts_no no_ f refused w part c _ calls works = turn_no w part tree m n row c same opens works now no_ (sent_by (Err no_) f refused w part c calls works)

-- ---- with a row in hand

module _ (tree : State) (m n : Sender) (log now : List PortEntry) (same : SameOut m n) (opens : n.ending ≡ false) where
  abbrev pub SendsHand : Option Line → Result Sent MotionNo → Type 0
  SendsHand hand result = (row : Line) → hand ≡ Some row → SendsRow tree m n row log now same opens result

  pub hand_done : (hand : Option Line) → (hand ≡ None → ⊥) → SendsHand hand (Ok sents.Done) → n.refused ≡ None → Gives tree tree (ways.Passes m hand) (ways.Passes n None) log now (Ok gave.Moved)
  hand_done None some_ f going = absurd (some_ refl)
  hand_done (Some row) some_ f going = puts_done tree m n row log now same opens (f row refl) going

  pub hand_stopped : (hand : Option Line) → (hand ≡ None → ⊥) → SendsHand hand (Ok sents.AllStopped) → n.refused ≡ None → Gives tree tree (ways.Passes m hand) (ways.Passes n None) log now (Ok gave.Unwanted)
  hand_stopped None some_ f going = absurd (some_ refl)
  hand_stopped (Some row) some_ f going = puts_stopped tree m n row log now same opens (f row refl) going

  pub hand_more : (hand : Option Line) → (hand ≡ None → ⊥) → SendsHand hand (Ok sents.More) → n.refused ≡ None → Gives tree tree (ways.Passes m hand) (ways.Passes n hand) log now (Ok gave.Moved)
  hand_more None some_ f going = absurd (some_ refl)
  hand_more (Some row) some_ f going = puts_more tree m n row log now same opens (f row refl) going

  pub hand_wait : (hand : Option Line) (no_ : PortNo) → (hand ≡ None → ⊥) → SendsHand hand (Ok (sents.Wait no_)) → n.refused ≡ None → Gives tree tree (ways.Passes m hand) (ways.Passes n hand) log now (Ok (gave.Waiting no_))
  hand_wait None no_ some_ f going = absurd (some_ refl)
  hand_wait (Some row) no_ some_ f going = puts_wait tree m n row log now same opens no_ (f row refl) going

  pub hand_no : (hand : Option Line) (no_ : MotionNo) → (hand ≡ None → ⊥) → SendsHand hand (Err no_) → n.refused ≡ Some no_ → Gives tree tree (ways.Passes m hand) (ways.Passes n hand) log now (Err (no_of_motion no_))
  hand_no None no_ some_ f refused = absurd (some_ refl)
  hand_no (Some row) no_ some_ f refused = puts_no tree m n row log now same opens no_ (f row refl) refused
