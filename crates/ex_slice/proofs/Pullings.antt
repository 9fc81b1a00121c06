-- From a pull of the operators to a turn.
use Rattle.std.proofs.Common.{◌≡◌, ◌≤◌, false, List, [], ◌∷◌, ◌++◌, None, Ok, Err, refl, sym, ap, ◌∙◌, subst, inl, inr, arith, append-nil}
use Rattle.ic_base.specs.declared.datagram.Parcel.{Parcel}
use Rattle.ic_base.specs.declared.port.PortEntry.{PortEntry}
use Rattle.ic_base.specs.declared.port.PortNo.{PortNo}
use Rattle.ic_base.specs.declared.port.PortNo.TheVariants.{Full, Empty, Stopped, Ended, TooLong, Busy, Memory}
use Rattle.ic_base.specs.declared.port.PortReply.TheVariants as reply
use Rattle.pl_ops.specs.Rows.{Line}
use Rattle.pl_ops.specs.Giving.{IsOver}
use Rattle.pl_runs.specs.Steps.{Step}
use Rattle.pl_runs.specs.Slices.{Worker}
use Rattle.pl_runs.specs.Runs.{Course}
use Rattle.ic_motion.specs.Pulling.{AtMostOne}
use Rattle.ex_tree.specs.declared.answers.Pulled.TheVariants.{More, Wait, End}
use Rattle.ex_tree.specs.declared.answers.TreeNo.{TreeNo}
use Rattle.ex_tree.specs.declared.answers.TreeNo.TheVariants as trees
use Rattle.ex_tree.specs.Parts.{Part, out}
use Rattle.ex_tree.specs.Running.{State, Runs}
use Rattle.ex_tree.specs.Working as tree_work
use Rattle.ex_tree.specs.Pulling.{IsAsked, IsSound, WaitsFor, Leaves, Pulls, PullsAny}
use Rattle.ex_slice.specs.declared.stage.Stage.TheVariants as stages
use Rattle.ex_slice.specs.declared.stage.Turned.TheVariants as turned
use Rattle.ex_slice.specs.declared.stage.SliceNo.TheVariants as why
use Rattle.ex_slice.specs.declared.stage.Gave.TheVariants as gave
use Rattle.ex_slice.specs.declared.way.Way.{Way}
use Rattle.ex_slice.specs.declared.way.Way.TheVariants as ways
use Rattle.ex_slice.specs.Serving.{Faces}
use Rattle.ex_slice.specs.Working.{Passed, Handles, Inside, IsOpen, IsEmptied, Works}
use Rattle.ex_slice.specs.Turning.{WaitsBy, is_waiting, LeavesTurn, Turns}
use Rattle.ex_slice.specs.Acting.{at_stage, no_of_tree, Gives}
use Rattle.ex_slice.proofs.Lists.{most_map, most_one}
use Rattle.ex_slice.proofs.Asks.{take_sends}
use Rattle.ex_slice.proofs.Points.{take_out, take_root, take_from, Fits}
use Rattle.ex_slice.proofs.Holding.{Adds, works_on, gone_so}
use Rattle.ex_slice.proofs.Passing.{IsMute, handles_on}

-- nothing is in hand, and none is lacking
abbrev pub IsFree : Way → Type 0
IsFree (ways.Lets rows) = Unit {0}
IsFree (ways.Passes m hand) = hand ≡ None

both_most : (P Q R : Step → Type 0) (more : List Step) → ((s : Step) → P s → Q s → R s) → AtMostOne P more → AtMostOne Q more → AtMostOne R more
both_most P Q R [] f h k = tt
both_most P Q R (s ∷ []) f h k = f s h k
both_most P Q R (s ∷ t ∷ more) f h k = absurd h

-- ---- one call

module _ (w : Worker) (part : Part) (x y : State) (way : Way) (c : Course) (works : Works w part (at_stage stages.Giving x way) c) (free : IsFree way) where
  abbrev given : List Line
  given = works.holds.0

  abbrev inside : Inside w part x way c given
  inside = works.holds.1

  fits_so : (s : Step) → IsAsked part c.steps given s → Fits w c.steps s
  fits_so s h = by way inside.faces inside.handles free
    where
      by : (way : Way) → Faces w way → Handles way c.steps given c.let_out → IsFree way → Fits w c.steps s
      by (ways.Lets rows) f k free = take_root w part inside.serves c.steps given s h f.none
      by (ways.Passes m hand) f k free = take_out w part inside.serves c.steps given s h m f (subst (λ o. Passed m o c.steps given) free k.1)

  adds_so : (more : List Step) → AtMostOne (IsAsked part c.steps given) more → AtMostOne (IsSound part c.steps) more → AtMostOne (Adds w c.steps) more
  adds_so more asked sound = both_most (IsAsked part c.steps given) (IsSound part c.steps) (Adds w c.steps) more (λ s h k. record { fits = fits_so s h; read = k.read; from = take_from w part inside.serves c.steps given s h }) asked sound

  -- with the steps so far
  next_inside : (more : List Step) → AtMostOne (IsAsked part c.steps given) more → Runs part y (c.steps ++ more) given → Inside w part y way (record { steps = c.steps ++ more; let_out = c.let_out ++ []; done = false }) given
  next_inside more asked runs = record {
    serves = inside.serves;
    faces = inside.faces;
    runs = runs;
    undone = refl;
    handles = subst (Handles way (c.steps ++ more) given) (sym (append-nil c.let_out)) (handles_on way c.steps more given c.let_out (most_map (IsAsked part c.steps given) IsMute more (λ s h motion to. take_sends h.source.end.motion motion to s.entry.ask h.takes) asked) inside.handles);
  }

  goes_on : (more : List Step) → AtMostOne (IsAsked part c.steps given) more → AtMostOne (IsSound part c.steps) more → Runs part y (c.steps ++ more) given → Works w part (at_stage stages.Giving y way) (record { steps = c.steps ++ more; let_out = c.let_out ++ []; done = false })
  goes_on more asked sound runs =
      let i = next_inside more asked runs in
      works_on w part (at_stage stages.Giving x way) (at_stage stages.Giving y way) c more [] given works (adds_so more asked sound) (gone_so w part y way _ given i) (given, i, works.holds.2)

  module _ (now : List PortEntry) where
    turn_more : Pulls part y c.steps given now (Ok More) → Turns w part (at_stage stages.Giving x way) (at_stage stages.Giving y way) c now (Ok turned.Moved)
    turn_more p = record {
      more = p.more;
      log = p.log;
      once = most_one (IsAsked part c.steps given) p.more p.makes;
      leaves = let k = p.leaves in ([], omega arith, goes_on p.more p.makes k.1 k.2, inl (k.0.0, k.0.2, inr (took k.0.0 k.0.1 k.0.3)));
    }
      where
        took : (s : Step) (q : Parcel) → s.entry.reply ≡ reply.Gave q → is_waiting s.entry.reply ≡ false
        took s q e = ap is_waiting e

    turn_wait : (no_ : PortNo) → Pulls part y c.steps given now (Ok (Wait no_)) → Turns w part (at_stage stages.Giving x way) (at_stage stages.Giving y way) c now (Ok (turned.Waiting no_))
    turn_wait no_ p = record {
      more = p.more;
      log = p.log;
      once = most_one (IsAsked part c.steps given) p.more p.makes;
      leaves = let k = p.leaves in ([], omega arith, goes_on p.more p.makes k.1 k.2, waits no_ p.more k.0);
    }
      where
        waits : (no_ : PortNo) (more : List Step) → WaitsFor no_ more → WaitsBy no_ more
        waits Empty more h = h
        waits Busy more h = h
        waits Full more h = absurd h
        waits Stopped more h = absurd h
        waits Ended more h = absurd h
        waits (TooLong key) more h = absurd h
        waits Memory more h = absurd h

    -- without a call
    quiet : (more : List Step) → more ≡ [] → Runs part y c.steps given → Runs part y (c.steps ++ more) given
    quiet more e runs = subst (λ k. Runs part y k given) (sym (ap (λ k. c.steps ++ k) e ∙ append-nil c.steps)) runs

    turn_end : tree_work.work y ≤ tree_work.work x → Pulls part y c.steps given now (Ok End) → Turns w part (at_stage stages.Giving x way) (at_stage stages.Ending y way) c now (Ok turned.Moved)
    turn_end less p = record {
      more = p.more;
      log = p.log;
      once = most_one (IsAsked part c.steps given) p.more p.makes;
      leaves =
          let k = p.leaves in
          let i = next_inside p.more p.makes (quiet p.more k.0 k.2) in
          let over : IsOver (out part (c.steps ++ p.more)) given = subst (λ z. IsOver (out part z) given) (sym (ap (λ z. c.steps ++ z) k.0 ∙ append-nil c.steps)) k.1 in
          let adds : AtMostOne (Adds w c.steps) p.more = subst (AtMostOne (Adds w c.steps)) (sym k.0) tt in
          let empty : IsEmptied way = emptied way free works.holds.2 in (
            [],
            omega arith,
            works_on w part (at_stage stages.Giving x way) (at_stage stages.Ending y way) c p.more [] given works adds (gone_so w part y way _ given i) (given, i, empty, over),
            inr (inr (omega (arith, less))),
          );
    }
      where
        emptied : (way : Way) → IsFree way → IsOpen way → IsEmptied way
        emptied (ways.Lets rows) f o = tt
        emptied (ways.Passes m hand) f o = (f, o.1)

    -- refused
    turn_no : (no_ : TreeNo) → Pulls part y c.steps given now (Err no_) → Turns w part (at_stage stages.Giving x way) (at_stage (stages.Refused (no_of_tree no_)) y way) c now (Err (no_of_tree no_))
    turn_no no_ p = record { more = p.more; log = p.log; once = most_one (IsAsked part c.steps given) p.more p.makes; leaves = by no_ p.leaves }
      where
        by : (no_ : TreeNo) → Leaves part y c.steps p.more given (Err no_) → LeavesTurn w part (at_stage stages.Giving x way) (at_stage (stages.Refused (no_of_tree no_)) y way) c p.more (Err (no_of_tree no_))
        by (trees.Malformed key) k = k
        by (trees.Overflow node) k = (
          k.0,
          k.1,
          subst (λ z. Works w part (at_stage (stages.Refused (why.Overflow node)) y way) (record { steps = z; let_out = c.let_out; done = c.done })) (sym (ap (λ z. c.steps ++ z) k.0 ∙ append-nil c.steps))
              (record { run = works.run; read = works.read; clean = works.clean; holds = tt }),
        )
        by trees.Memory k = tt

-- ---- whatever worker it is

module _ (x y : State) (way : Way) (log now : List PortEntry) (free : IsFree way) where
  pub gives_more : PullsAny x y log now (Ok More) → Gives x y way way log now (Ok gave.Moved)
  gives_more f w part c going calls works = turn_more w part x y way c works free now (f part c.steps works.holds.0 calls works.holds.1.runs)

  pub gives_wait : (no_ : PortNo) → PullsAny x y log now (Ok (Wait no_)) → Gives x y way way log now (Ok (gave.Waiting no_))
  gives_wait no_ f w part c going calls works = turn_wait w part x y way c works free now no_ (f part c.steps works.holds.0 calls works.holds.1.runs)

  pub gives_end : tree_work.work y ≤ tree_work.work x → PullsAny x y log now (Ok End) → Gives x y way way log now (Ok gave.Ended)
  gives_end less f w part c going calls works = turn_end w part x y way c works free now less (f part c.steps works.holds.0 calls works.holds.1.runs)

  pub gives_no : (no_ : TreeNo) → PullsAny x y log now (Err no_) → Gives x y way way log now (Err (no_of_tree no_))
  gives_no no_ f w part c going calls works = turn_no w part x y way c works free now no_ (f part c.steps works.holds.0 calls works.holds.1.runs)
