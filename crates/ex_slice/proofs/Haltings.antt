-- From a halt to a turn.
use Rattle.std.proofs.Common.{◌≡◌, true, false, List, [], ◌∷◌, ◌++◌, Ok, Err, refl, sym, ap, ◌∙◌, subst, inl, inr, arith, append-nil}
use Rattle.ic_base.specs.declared.port.PortEntry.{PortEntry}
use Rattle.ic_base.specs.declared.port.PortNo.{PortNo}
use Rattle.ic_law.specs.Points.{IsPrefix}
use Rattle.pl_ops.specs.Rows.{Line}
use Rattle.pl_ops.specs.Giving.{IsOver}
use Rattle.pl_plan.specs.Motions.{Link}
use Rattle.pl_runs.specs.Steps.{Step, put_on, takes_of, is_halt}
use Rattle.pl_runs.specs.Slices.{Worker, sending, chunks_for}
use Rattle.pl_runs.specs.Runs.{Course, PutsNext}
use Rattle.ic_motion.specs.declared.answers.Sent.{Sent}
use Rattle.ic_motion.specs.declared.answers.Sent.TheVariants as sents
use Rattle.ic_motion.specs.Pulling.{AtMostOne}
use Rattle.ex_tree.specs.declared.answers.TreeNo.{TreeNo}
use Rattle.ex_tree.specs.declared.answers.TreeNo.TheVariants as trees
use Rattle.ex_tree.specs.Parts.{Part, out}
use Rattle.ex_tree.specs.Running.{State, Runs}
use Rattle.ex_tree.specs.Halting.{AllHeard, IsHalted, Halts as TreeHalts, HaltsAny}
use Rattle.ex_tree.proofs.Halts.{out_halt}
use Rattle.ex_slice.specs.declared.stage.Stage.TheVariants as stages
use Rattle.ex_slice.specs.declared.stage.Turned.TheVariants as turned
use Rattle.ex_slice.specs.declared.way.Way.{Way}
use Rattle.ex_slice.specs.declared.way.Way.TheVariants as ways
use Rattle.ex_slice.specs.Serving.{Faces}
use Rattle.ex_slice.specs.Working.{Handles, Inside, IsSent, Works}
use Rattle.ex_slice.specs.Turning.{Turns, MadeCall, WaitsBy}
use Rattle.ex_slice.specs.Acting.{at_stage, no_of_tree, Halts}
use Rattle.ex_slice.proofs.Lists.{most_map, most_one, all_none}
use Rattle.ex_slice.proofs.Points.{puts_by, passes_by}
use Rattle.ex_slice.proofs.Sendings.{fit_halt, halt_sends}
use Rattle.ex_slice.proofs.Holding.{Adds, works_on, gone_so, Gone, Handled, handled_so, from_none, halts_so, over_so, done_lets, let_out_so}
use Rattle.ex_slice.proofs.Passing.{IsMute, handles_on}
use Rattle.ex_tree.proofs.Frames.{runs_begin}
use Rattle.ex_tree.proofs.Fronts.{begins_on}

module _ (w : Worker) (part : Part) (x y : State) (way : Way) (c : Course) (works : Works w part (at_stage stages.Halting x way) c) where
  abbrev given : List Line
  given = works.holds.0

  abbrev inside : Inside w part x way c given
  inside = works.holds.1

  abbrev sent : IsSent part way c.steps given
  sent = works.holds.2

  abbrev gone : Gone w part x way c given
  gone = gone_so w part x way c given inside

  puts_on : (s : Step) → IsHalted part c.steps s → PutsNext w c.steps s
  puts_on s h = by way inside.faces (handled_so way c.steps given c.let_out inside.handles)
    where
      by : (way : Way) → Faces w way → Handled way c.steps given c.let_out → PutsNext w c.steps s
      by (ways.Lets rows) f k = all_none (λ (l : Link). IsPrefix (put_on l.motion l.to (c.steps ++ s ∷ [])) (chunks_for w c.steps l.to)) (sending w) f.none
      by (ways.Passes m hand) f k =
          let r = k.1 in
          puts_by w part inside.serves c.steps m (c.steps ++ s ∷ []) r.rows f (passes_by m c.steps s r.rows (halt_sends w part c.steps s h m.motion) r.sends)
          (begins_on r.rows given (out part c.steps).rows r.front (runs_begin part x c.steps given inside.runs))

  adds_so : (AllHeard part c.steps → ⊥) → (more : List Step) → AtMostOne (IsHalted part c.steps) more → AtMostOne (Adds w c.steps) more
  adds_so open_ more h = most_map (IsHalted part c.steps) (Adds w c.steps) more (λ s k. record {
    fits = fit_halt w part c.steps s k (puts_on s k) (halts_so w part x way c given gone sent open_);
    read = k.read;
    from = from_none w s (λ motion. ap (takes_of motion) k.ask);
  }) h

  next_inside : (more : List Step) → AtMostOne (IsHalted part c.steps) more → Runs part y (c.steps ++ more) given → Inside w part y way (record { steps = c.steps ++ more; let_out = c.let_out ++ []; done = false }) given
  next_inside more h runs = record {
    serves = inside.serves;
    faces = inside.faces;
    runs = runs;
    undone = refl;
    handles = subst (Handles way (c.steps ++ more) given) (sym (append-nil c.let_out)) (handles_on way c.steps more given c.let_out (most_map (IsHalted part c.steps) IsMute more (λ s k. halt_sends w part c.steps s k) h) inside.handles);
  }

  sent_on : (more : List Step) → AtMostOne (IsHalted part c.steps) more → IsSent part way (c.steps ++ more) given
  sent_on more h = by way sent
    where
      over_on : IsOver (out part c.steps) given → IsOver (out part (c.steps ++ more)) given
      over_on o = subst (λ z. IsOver z given) (sym (out_halt part part c.steps more h)) o

      by : (way : Way) → IsSent part way c.steps given → IsSent part way (c.steps ++ more) given
      by (ways.Lets rows) o = over_on o
      by (ways.Passes m hand) (inl stopped) = inl stopped
      by (ways.Passes m hand) (inr over) = inr (over.0, over_on over.1)

  next_works : (more : List Step) → AtMostOne (IsHalted part c.steps) more → AtMostOne (Adds w c.steps) more → Runs part y (c.steps ++ more) given → Works w part (at_stage stages.Halting y way) (record { steps = c.steps ++ more; let_out = c.let_out ++ []; done = false })
  next_works more h adds runs =
      let i = next_inside more h runs in
      works_on w part (at_stage stages.Halting x way) (at_stage stages.Halting y way) c more [] given works adds (gone_so w part y way _ given i) (given, i, sent_on more h)

  none_more : (more : List Step) → more ≡ [] → c.steps ++ more ≡ c.steps
  none_more more e = ap (λ z. c.steps ++ z) e ∙ append-nil c.steps

  module _ (now : List PortEntry) where
    turn_more : TreeHalts part y c.steps given now (Ok sents.More) → Turns w part (at_stage stages.Halting x way) (at_stage stages.Halting y way) c now (Ok turned.Moved)
    turn_more q = record {
      more = q.more;
      log = q.log;
      once = most_one (IsHalted part c.steps) q.more q.makes;
      leaves = let k = q.leaves in ([], omega arith, next_works q.more q.makes (adds_so k.0 q.more q.makes) k.2, inl (made q.more q.makes k.1));
    }
      where
        made : (more : List Step) → AtMostOne (IsHalted part c.steps) more → (s : Step) × (more ≡ s ∷ []) → MadeCall more
        made [] h (s, is) = absurd (cc)
        made (t ∷ []) h (s, is) = (t, refl, inl (ap is_halt h.ask))
        made (t ∷ u ∷ more) h (s, is) = absurd h

    turn_wait : (no_ : PortNo) → TreeHalts part y c.steps given now (Ok (sents.Wait no_)) → Turns w part (at_stage stages.Halting x way) (at_stage stages.Halting y way) c now (Ok (turned.Waiting no_))
    turn_wait no_ q = record {
      more = q.more;
      log = q.log;
      once = most_one (IsHalted part c.steps) q.more q.makes;
      leaves =
          let k = q.leaves in (
            [],
            omega arith,
            next_works q.more q.makes (subst (AtMostOne (Adds w c.steps)) (sym k.0) tt) (subst (λ z. Runs part y z given) (sym (none_more q.more k.0)) k.2),
            subst (λ z. WaitsBy z q.more) (sym k.1) k.0,
          );
    }

    turn_done : TreeHalts part y c.steps given now (Ok sents.Done) → Turns w part (at_stage stages.Halting x way) (at_stage stages.Done y way) c now (Ok turned.Done)
    turn_done q = record {
      more = q.more;
      log = q.log;
      once = most_one (IsHalted part c.steps) q.more q.makes;
      leaves =
          let k = q.leaves in (
            [],
            omega arith,
            subst (λ z. Works w part (at_stage stages.Done y way) (record { steps = z; let_out = c.let_out ++ []; done = true })) (sym (none_more q.more k.0))
                (subst (λ z. Works w part (at_stage stages.Done y way) (record { steps = c.steps; let_out = z; done = true })) (sym (append-nil c.let_out)) (over_now k.1)),
            k.0,
          );
    }
      where
        over_now : AllHeard part c.steps → Works w part (at_stage stages.Done y way) (record { steps = c.steps; let_out = c.let_out; done = true })
        over_now all = record {
          run = record {
            puts = works.run.puts;
            finishes = works.run.finishes;
            halts = works.run.halts;
            lets_out = done_lets w part x way c given gone sent;
            over = λ e. over_so w part x way c given gone sent all;
            once = works.run.once;
            takes = works.run.takes;
          };
          read = works.read;
          clean = works.clean;
          holds = (refl, let_out_so way c.steps given c.let_out inside.handles);
        }

    turn_no : TreeHalts part y c.steps given now (Err trees.Memory) → Turns w part (at_stage stages.Halting x way) (at_stage (stages.Refused (no_of_tree trees.Memory)) y way) c now (Err (no_of_tree trees.Memory))
    turn_no q = record { more = q.more; log = q.log; once = most_one (IsHalted part c.steps) q.more q.makes; leaves = tt }

-- ---- whatever worker it is

pub halts_so_any : (x y : State) (log now : List PortEntry) (sent : Sent) → HaltsAny x y log now (Ok sent) → Halts x y log now (Ok sent)
halts_so_any x y log now sents.Done f way w part c _ calls works = turn_done w part x y way c works now (f part c.steps works.holds.0 calls works.holds.1.runs)
halts_so_any x y log now sents.More f way w part c _ calls works = turn_more w part x y way c works now (f part c.steps works.holds.0 calls works.holds.1.runs)
halts_so_any x y log now (sents.Wait no_) f way w part c _ calls works = turn_wait w part x y way c works now no_ (f part c.steps works.holds.0 calls works.holds.1.runs)
halts_so_any x y log now sents.AllStopped f way w part c _ calls works = absurd (f part c.steps works.holds.0 calls works.holds.1.runs).leaves

pub halts_no : (x y : State) (log now : List PortEntry) (no_ : TreeNo) → HaltsAny x y log now (Err no_) → Halts x y log now (Err (no_of_tree no_))
halts_no x y log now trees.Memory f way w part c _ calls works = turn_no w part x y way c works now (f part c.steps works.holds.0 calls works.holds.1.runs)
halts_no x y log now (trees.Malformed key) f way w part c _ calls works = absurd (f part c.steps works.holds.0 calls works.holds.1.runs).leaves
halts_no x y log now (trees.Overflow node) f way w part c _ calls works = absurd (f part c.steps works.holds.0 calls works.holds.1.runs).leaves
