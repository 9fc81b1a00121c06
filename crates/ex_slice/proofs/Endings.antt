-- From the finish of a stream to a turn.
use Rattle.std.proofs.Common.{◌≡◌, Bool, false, List, [], ◌∷◌, ◌++◌, Option, None, Result, Ok, Err, refl, sym, ap, ◌∙◌, subst, inl, inr, arith, append-nil}
use Rattle.ic_base.specs.declared.port.PortEntry.{PortEntry}
use Rattle.ic_base.specs.declared.port.PortNo.{PortNo}
use Rattle.ic_base.specs.declared.port.PortNo.TheVariants.{Full, Empty, Stopped, Ended, TooLong, Busy, Memory}
use Rattle.pl_ops.specs.Rows.{Line}
use Rattle.pl_ops.specs.Giving.{IsOver}
use Rattle.pl_runs.specs.Steps.{Step, calls_of}
use Rattle.pl_runs.specs.Slices.{Worker}
use Rattle.pl_runs.specs.Runs.{Course}
use Rattle.ic_motion.specs.declared.answers.MotionNo.{MotionNo}
use Rattle.ic_motion.specs.declared.answers.MotionNo.TheVariants as motions
use Rattle.ic_motion.specs.declared.answers.Sent.{Sent}
use Rattle.ic_motion.specs.declared.answers.Sent.TheVariants as sents
use Rattle.ic_motion.specs.Pulling.{AtMostOne}
use Rattle.ic_motion.specs.Sending.{Sender, Sends, IsIdle}
use Rattle.ic_motion.specs.Sent.{SameOut, IsFinish, EndsAfter, LeavesEnd, Waits}
use Rattle.ex_tree.specs.Parts.{Part, out}
use Rattle.ex_tree.specs.Running.{State, Runs}
use Rattle.ex_slice.specs.declared.stage.Stage.{Stage}
use Rattle.ex_slice.specs.declared.stage.Stage.TheVariants as stages
use Rattle.ex_slice.specs.declared.stage.Turned.{Turned}
use Rattle.ex_slice.specs.declared.stage.Turned.TheVariants as turned
use Rattle.ex_slice.specs.declared.stage.SliceNo.{SliceNo}
use Rattle.ex_slice.specs.declared.stage.SliceNo.TheVariants as why
use Rattle.ex_slice.specs.declared.way.Way.TheVariants as ways
use Rattle.ex_slice.specs.Working.{Passed, Inside, HoldsAt, Works}
use Rattle.ex_slice.specs.Turning.{StandsAt, WaitsBy, LeavesTurn, Turns}
use Rattle.ex_slice.specs.Acting.{at_stage, no_of_motion, stage_ended, turned_ended, Ends}
use Rattle.ex_slice.proofs.Lists.{most_map, most_one}
use Rattle.ex_slice.proofs.Links.{faces_same}
use Rattle.ex_slice.proofs.Sendings.{fit_finish}
use Rattle.ex_slice.proofs.Holding.{Adds, works_on, works_refused, gone_so, from_none}
use Rattle.ex_slice.proofs.Passing.{IsOfSending, finish_sends, runs_on, out_on, read_sending, made_answered}

module _ (w : Worker) (part : Part) (tree : State) (m n : Sender) (c : Course) (same : SameOut m n) (idle : IsIdle n.work) (works : Works w part (at_stage stages.Ending tree (ways.Passes m None)) c) where
  abbrev given : List Line
  given = works.holds.0

  abbrev inside : Inside w part tree (ways.Passes m None) c given
  inside = works.holds.1

  abbrev over : IsOver (out part c.steps) given
  over = works.holds.3

  abbrev passed : Passed m None c.steps given
  passed = inside.handles.1

  was_sent : Sends m c.steps given
  was_sent = subst (Sends m c.steps) (sym passed.given_are) passed.sends

  adds_so : (more : List Step) → AtMostOne (IsFinish m c.steps given) more → Sends n (c.steps ++ more) given → AtMostOne (Adds w c.steps) more
  adds_so [] h sends = tt
  adds_so (s ∷ []) h sends = record {
    fits = fit_finish w part inside.serves c.steps m n same inside.faces s given h over was_sent sends;
    read = read_sending c.steps s (finish_sends m c.steps given s h);
    from = from_none w s (finish_sends m c.steps given s h).takes;
  }
  adds_so (s ∷ t ∷ more) h sends = absurd h

  sending_so : (more : List Step) → AtMostOne (IsFinish m c.steps given) more → AtMostOne IsOfSending more
  sending_so more h = most_map (IsFinish m c.steps given) IsOfSending more (finish_sends m c.steps given) h

  next_inside : (more : List Step) → AtMostOne (IsFinish m c.steps given) more → Sends n (c.steps ++ more) given → (let_out : List Line) → let_out ≡ [] → (done : Bool) → done ≡ false → Inside w part tree (ways.Passes n None) (record { steps = c.steps ++ more; let_out = let_out; done = done }) given
  next_inside more h sends let_out none done undone = record {
    serves = inside.serves;
    faces = faces_same w m n same inside.faces;
    runs = runs_on part tree c.steps more given (sending_so more h) inside.runs;
    undone = undone;
    handles = (none, record { rows = given; sends = sends; given_are = refl; idle = λ e. idle; are_rows = passed.are_rows; hand_is_row = tt });
  }

  over_on : (more : List Step) → AtMostOne (IsFinish m c.steps given) more → IsOver (out part (c.steps ++ more)) given
  over_on more h = subst (λ z. IsOver z given) (sym (out_on part c.steps more (sending_so more h))) over

  next_works : (stage : Stage) (more : List Step) → AtMostOne (IsFinish m c.steps given) more → Sends n (c.steps ++ more) given
      → (Inside w part tree (ways.Passes n None) (record { steps = c.steps ++ more; let_out = c.let_out ++ []; done = false }) given → HoldsAt w part stage tree (ways.Passes n None) (record { steps = c.steps ++ more; let_out = c.let_out ++ []; done = false }))
      → Works w part (at_stage stage tree (ways.Passes n None)) (record { steps = c.steps ++ more; let_out = c.let_out ++ []; done = false })
  next_works stage more h sends holds =
      let i = next_inside more h sends (c.let_out ++ []) (append-nil c.let_out ∙ inside.handles.0) false refl in
      works_on w part (at_stage stages.Ending tree (ways.Passes m None)) (at_stage stage tree (ways.Passes n None)) c more [] given works (adds_so more h sends) (gone_so w part tree (ways.Passes n None) _ given i) (holds i)

  module _ (now : List PortEntry) (going : n.refused ≡ None) where
    turn_done : EndsAfter m n c.steps given now (Ok sents.Done) → Turns w part (at_stage stages.Ending tree (ways.Passes m None)) (at_stage stages.Halting tree (ways.Passes n None)) c now (Ok turned.Moved)
    turn_done q = record {
      more = q.more;
      log = q.log;
      once = most_one (IsFinish m c.steps given) q.more q.makes;
      leaves = let k = q.leaves in ([], omega arith, next_works stages.Halting q.more q.makes k.0 (λ i. (given, i, inr (k.1.1, over_on q.more q.makes))), inr (inr (omega arith)));
    }

    turn_stopped : EndsAfter m n c.steps given now (Ok sents.AllStopped) → Turns w part (at_stage stages.Ending tree (ways.Passes m None)) (at_stage stages.Halting tree (ways.Passes n None)) c now (Ok turned.Moved)
    turn_stopped q = record {
      more = q.more;
      log = q.log;
      once = most_one (IsFinish m c.steps given) q.more q.makes;
      leaves = let k = q.leaves in ([], omega arith, next_works stages.Halting q.more q.makes k.0 (λ i. (given, i, inl k.1.0)), inr (inr (omega arith)));
    }

    turn_more : EndsAfter m n c.steps given now (Ok sents.More) → Turns w part (at_stage stages.Ending tree (ways.Passes m None)) (at_stage stages.Ending tree (ways.Passes n None)) c now (Ok turned.Moved)
    turn_more q = record {
      more = q.more;
      log = q.log;
      once = most_one (IsFinish m c.steps given) q.more q.makes;
      leaves = let k = q.leaves in ([], omega arith, next_works stages.Ending q.more q.makes k.0 (λ i. (given, i, (refl, going), over_on q.more q.makes)), inl (made_answered q.more k.1.2));
    }

    turn_wait : (no_ : PortNo) → EndsAfter m n c.steps given now (Ok (sents.Wait no_)) → Turns w part (at_stage stages.Ending tree (ways.Passes m None)) (at_stage stages.Ending tree (ways.Passes n None)) c now (Ok (turned.Waiting no_))
    turn_wait no_ q = record {
      more = q.more;
      log = q.log;
      once = most_one (IsFinish m c.steps given) q.more q.makes;
      leaves = let k = q.leaves in ([], omega arith, next_works stages.Ending q.more q.makes k.0 (λ i. (given, i, (refl, going), over_on q.more q.makes)), waits no_ q.more k.1.2);
    }
      where
        waits : (no_ : PortNo) (more : List Step) → Waits (sents.Wait no_) more → WaitsBy no_ more
        waits Full more h = h
        waits Busy more h = h
        waits Empty more h = absurd h
        waits Stopped more h = absurd h
        waits Ended more h = absurd h
        waits (TooLong key) more h = absurd h
        waits Memory more h = absurd h

  turn_no : (now : List PortEntry) (no_ : MotionNo) → EndsAfter m n c.steps given now (Err no_) → Turns w part (at_stage stages.Ending tree (ways.Passes m None)) (at_stage (stages.Refused (no_of_motion no_)) tree (ways.Passes n None)) c now (Err (no_of_motion no_))
  turn_no now no_ q = record { more = q.more; log = q.log; once = most_one (IsFinish m c.steps given) q.more q.makes; leaves = by no_ q.leaves }
    where
      by : (no_ : MotionNo) → LeavesEnd n c.steps q.more given (Err no_) → LeavesTurn w part (at_stage stages.Ending tree (ways.Passes m None)) (at_stage (stages.Refused (no_of_motion no_)) tree (ways.Passes n None)) c q.more (Err (no_of_motion no_))
      by (motions.TooLong key) (sends, refusal) = (
        refusal,
        works_refused w part (at_stage stages.Ending tree (ways.Passes m None)) c (why.TooLong key) tree (ways.Passes n None) q.more given works inside.undone (adds_so q.more q.makes sends)
            (gone_so w part tree (ways.Passes n None) _ given (next_inside q.more q.makes sends c.let_out inside.handles.0 c.done inside.undone)),
      )
      by (motions.Malformed key) k = tt
      by motions.Memory k = tt

-- ---- whatever worker it is

-- slice 0 has nothing to finish
pub ends_root : (rows : List Line) (log : List PortEntry) → Ends (ways.Lets rows) (ways.Lets rows) log log (Ok sents.Done)
ends_root rows log tree w part c going calls works =
    let given = works.holds.0 in
    let i = works.holds.1 in
    let next : Inside w part tree (ways.Lets rows) (record { steps = c.steps ++ []; let_out = c.let_out ++ []; done = false }) given = record {
      serves = i.serves;
      faces = i.faces;
      runs = subst (λ z. Runs part tree z given) (sym (append-nil c.steps)) i.runs;
      undone = refl;
      handles = (i.handles.0, append-nil c.let_out ∙ i.handles.1);
    } in
    record {
      more = [];
      log = sym calls ∙ ap calls_of (sym (append-nil c.steps));
      once = omega arith;
      leaves = (
        [],
        omega arith,
        works_on w part (at_stage stages.Ending tree (ways.Lets rows)) (at_stage stages.Halting tree (ways.Lets rows)) c [] [] given works tt (gone_so w part tree (ways.Lets rows) _ given next) (given, next, subst (λ z. IsOver (out part z) given) (sym (append-nil c.steps)) works.holds.3),
        inr (inr (omega arith)),
      );
    }

module _ (m n : Sender) (hand : Option Line) (log now : List PortEntry) (same : SameOut m n) (idle : IsIdle n.work) where
  abbrev pub EndsStream : Result Sent MotionNo → Type 0
  EndsStream result = (steps : List Step) (rows : List Line) → m.refused ≡ None → calls_of steps ≡ log → Sends m steps rows → EndsAfter m n steps rows now result

  -- nothing is in hand
  emptied : (tree : State) (w : Worker) (part : Part) (c : Course) → Works w part (at_stage stages.Ending tree (ways.Passes m hand)) c → hand ≡ None
  emptied tree w part c works = works.holds.2.0

  at_none : (tree : State) (w : Worker) (part : Part) (c : Course) → (e : hand ≡ None) → Works w part (at_stage stages.Ending tree (ways.Passes m hand)) c → Works w part (at_stage stages.Ending tree (ways.Passes m None)) c
  at_none tree w part c e works = subst (λ o. Works w part (at_stage stages.Ending tree (ways.Passes m o)) c) e works

  ended_by : (result : Result Sent MotionNo) → EndsStream result → (tree : State) (w : Worker) (part : Part) (c : Course) → calls_of c.steps ≡ log → (works : Works w part (at_stage stages.Ending tree (ways.Passes m None)) c) → EndsAfter m n c.steps works.holds.0 now result
  ended_by result f tree w part c calls works = f c.steps works.holds.0 works.holds.2.1 calls (was_sent w part tree m n c same idle works)

  -- with whatever is in hand
  as_hand : (stage : Stage) (r : Result Turned SliceNo) (tree : State) (w : Worker) (part : Part) (c : Course) → hand ≡ None → Turns w part (at_stage stages.Ending tree (ways.Passes m None)) (at_stage stage tree (ways.Passes n None)) c now r
      → Turns w part (at_stage stages.Ending tree (ways.Passes m hand)) (at_stage stage tree (ways.Passes n hand)) c now r
  as_hand stage r tree w part c e t = subst (λ o. Turns w part (at_stage stages.Ending tree (ways.Passes m o)) (at_stage stage tree (ways.Passes n o)) c now r) (sym e) t

  pub ends_done : EndsStream (Ok sents.Done) → n.refused ≡ None → Ends (ways.Passes m hand) (ways.Passes n hand) log now (Ok sents.Done)
  ends_done f going tree w part c _ calls works = let e = emptied tree w part c works in let k = at_none tree w part c e works in as_hand stages.Halting (Ok turned.Moved) tree w part c e (turn_done w part tree m n c same idle k now going (ended_by (Ok sents.Done) f tree w part c calls k))

  pub ends_stopped : EndsStream (Ok sents.AllStopped) → n.refused ≡ None → Ends (ways.Passes m hand) (ways.Passes n hand) log now (Ok sents.AllStopped)
  ends_stopped f going tree w part c _ calls works = let e = emptied tree w part c works in let k = at_none tree w part c e works in as_hand stages.Halting (Ok turned.Moved) tree w part c e (turn_stopped w part tree m n c same idle k now going (ended_by (Ok sents.AllStopped) f tree w part c calls k))

  pub ends_more : EndsStream (Ok sents.More) → n.refused ≡ None → Ends (ways.Passes m hand) (ways.Passes n hand) log now (Ok sents.More)
  ends_more f going tree w part c _ calls works = let e = emptied tree w part c works in let k = at_none tree w part c e works in as_hand stages.Ending (Ok turned.Moved) tree w part c e (turn_more w part tree m n c same idle k now going (ended_by (Ok sents.More) f tree w part c calls k))

  pub ends_wait : (no_ : PortNo) → EndsStream (Ok (sents.Wait no_)) → n.refused ≡ None → Ends (ways.Passes m hand) (ways.Passes n hand) log now (Ok (sents.Wait no_))
  ends_wait no_ f going tree w part c _ calls works = let e = emptied tree w part c works in let k = at_none tree w part c e works in as_hand stages.Ending (Ok (turned.Waiting no_)) tree w part c e (turn_wait w part tree m n c same idle k now going no_ (ended_by (Ok (sents.Wait no_)) f tree w part c calls k))

  pub ends_so : (sent : Sent) → EndsStream (Ok sent) → n.refused ≡ None → Ends (ways.Passes m hand) (ways.Passes n hand) log now (Ok sent)
  ends_so sents.Done f going = ends_done f going
  ends_so sents.AllStopped f going = ends_stopped f going
  ends_so sents.More f going = ends_more f going
  ends_so (sents.Wait no_) f going = ends_wait no_ f going

  pub ends_no : (no_ : MotionNo) → EndsStream (Err no_) → Ends (ways.Passes m hand) (ways.Passes n hand) log now (Err (no_of_motion no_))
  ends_no no_ f tree w part c _ calls works = let e = emptied tree w part c works in let k = at_none tree w part c e works in as_hand (stages.Refused (no_of_motion no_)) (Err (no_of_motion no_)) tree w part c e (turn_no w part tree m n c same idle k now no_ (ended_by (Err no_) f tree w part c calls k))

-- ---- where it stands then

pub stands_ended : (r : Result Sent SliceNo) → StandsAt (stage_ended r) (turned_ended r)
stands_ended (Ok sents.Done) = refl
stands_ended (Ok sents.AllStopped) = refl
stands_ended (Ok sents.More) = refl
stands_ended (Ok (sents.Wait no_)) = refl
stands_ended (Err no_) = refl
