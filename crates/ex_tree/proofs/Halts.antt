-- A halt of one motion, and what it is for the operators above it.
use Rattle.std.proofs.Common.{◌≡◌, ℕ, zero, suc, ℤ, Bool, true, false, List, [], ◌∷◌, ◌++◌, None, Result, Ok, Err, refl, sym, ap, ◌∙◌, subst, inl, inr, arith, append-nil}
use Rattle.std.specs.Prelude.{◌||◌, ◌&&◌, ◌==◌}
use Rattle.std.specs.List.{Contains, AllByRecursion}
use Rattle.std.proofs.lemmas.Bool.Decides.{nat_tests}
use Rattle.std.specs.Ordering.{int_eq}
use Rattle.ic_row.specs.declared.value.Kind.{Kind}
use Rattle.ic_base.specs.declared.port.PortNo.{PortNo}
use Rattle.ic_base.specs.declared.port.PortNo.TheVariants.{Full, Empty, Stopped, Ended, TooLong, Busy, Memory}
use Rattle.ic_base.specs.declared.port.PortAsk.TheVariants.{Halt}
use Rattle.ic_base.specs.declared.port.PortEntry.{PortEntry}
use Rattle.pl_ops.specs.Rows.{Line}
use Rattle.pl_ops.specs.Streams.{Stream}
use Rattle.pl_ops.specs.Giving.{IsOver}
use Rattle.pl_runs.specs.Steps.{Step, calls_of, input_of, parcels_in, takes_of, is_take, is_take_from, is_ended, halted_from, halts_from, repeats}
use Rattle.ic_motion.specs.declared.answers.Sent.{Sent}
use Rattle.ic_motion.specs.declared.answers.Sent.TheVariants as sents
use Rattle.ic_motion.specs.declared.answers.MotionNo.{MotionNo}
use Rattle.ic_motion.specs.declared.answers.MotionNo.TheVariants as motions
use Rattle.ic_motion.specs.Answers.{refused_by}
use Rattle.ic_motion.specs.Hearing.{Listener, Lane, LaneHears, senders_of}
use Rattle.ic_motion.specs.Hearing as hearing
use Rattle.ic_motion.specs.Halting.{IsHalt, all_heard}
use Rattle.ic_motion.specs.Halting as halting
use Rattle.ic_motion.specs.Pulling.{AtMostOne, SameIn}
use Rattle.ex_join.specs.Joins.{Joining}
use Rattle.ex_tree.specs.declared.op.Op.{Op}
use Rattle.ex_tree.specs.declared.answers.TreeNo.{TreeNo}
use Rattle.ex_tree.specs.declared.answers.TreeNo.TheVariants as why
use Rattle.ex_tree.specs.Parts.{Source, Part, Hears, Joins, Has, AreApart, out}
use Rattle.ex_tree.specs.Running.{State, Scans, Ears, One, Two, Runs, RunsTwo, Asked, Holds, IsUncut, source_of}
use Rattle.ex_tree.specs.Halting.{heard_from, AllHeard, IsHalted, MadeOne, LeavesHalt, Halts, HaltsAny}
use Rattle.ex_tree.specs.Inside.{halt_result}
use Rattle.ex_tree.proofs.Heard.{ended_is, uncut_by}
use Rattle.ex_tree.proofs.Frames.{IsQuietFor, IsSilentFor, out_pass, runs_pass, asked_pass, silent_at, quiet_so, no_parcels}
use Rattle.ex_tree.proofs.Nodes.{most_map}
use Rattle.ex_tree.proofs.Leaves.{same_source}
use Rattle.ex_tree.proofs.Joints.{turned}

-- ---- a halt takes nothing

no_take : (m n : ℕ) (a : ℤ) (s : Step) → s.entry.ask ≡ Halt n a → takes_of m s.entry.ask ≡ false
no_take m n a s e = ap (takes_of m) e

halt_quiet : (c : Part) (steps : List Step) (s : Step) → IsHalted c steps s → (part : Part) → IsQuietFor part s
halt_quiet c steps s h part t has = no_parcels t.end.motion s (no_take t.end.motion h.source.end.motion h.sender s h.ask)

pub out_halt : (c part : Part) (steps more : List Step) → AtMostOne (IsHalted c steps) more → out part (steps ++ more) ≡ out part steps
out_halt c part steps [] h = ap (out part) (append-nil steps)
out_halt c part steps (s ∷ []) h = out_pass part steps s (halt_quiet c steps s h part)
out_halt c part steps (s ∷ t ∷ more) h = absurd h

other_halt : (n m : ℕ) (b : Bool) → (m ≡ n → ⊥) → ((n == m) && b) ≡ false
other_halt n m b f = ap (λ t. t && b) (off n m f)
  where
    off : (n m : ℕ) → (m ≡ n → ⊥) → (n == m) ≡ false
    off n m f = grind (arith, nat_tests)

beside_halt : (l r : Part) (y : State) (steps more : List Step) (given : Stream) → AreApart l r → AtMostOne (IsHalted l steps) more → Asked (Runs r y steps) (out r steps) given → Asked (Runs r y (steps ++ more)) (out r (steps ++ more)) given
beside_halt l r y steps [] given apart h asked = subst (λ k. Asked (Runs r y k) (out r k) given) (sym (append-nil steps)) asked
beside_halt l r y steps (s ∷ []) given apart h asked =
    let silent : IsSilentFor r s = λ t has.
    silent_at t.end.motion s (no_take t.end.motion h.source.end.motion h.sender s h.ask)
    (λ a. ap (halts_from t.end.motion a) h.ask ∙ other_halt h.source.end.motion t.end.motion (int_eq h.sender a) (λ e. apart h.source t h.has has (sym e))) in
    asked_pass (Runs r y steps) (Runs r y (steps ++ s ∷ [])) (out r steps) (out r (steps ++ s ∷ [])) given (runs_pass r y steps s silent) (out_pass r steps s (quiet_so r s silent)) asked
beside_halt l r y steps (s ∷ t ∷ more) given apart h asked = absurd h

-- the child that was halted
own_halt : (c : Part) (x y : State) (steps more : List Step) (given : Stream) → AtMostOne (IsHalted c steps) more → Asked (Runs c x steps) (out c steps) given → Runs c y (steps ++ more) given.rows → Asked (Runs c y (steps ++ more)) (out c (steps ++ more)) given
own_halt c x y steps more given h asked runs = record { runs = runs; over = λ e. subst (λ s. IsOver s given.rows) (sym (out_halt c c steps more h)) (asked.over e) }

own_done : (c : Part) (x y : State) (steps : List Step) (given : Stream) → Asked (Runs c x steps) (out c steps) given → Runs c y steps given.rows → Asked (Runs c y steps) (out c steps) given
own_done c x y steps given asked runs = record { runs = runs; over = asked.over }

halted_in : (part whole : Part) (steps : List Step) → ((source : Source) → Has part source → Has whole source) → (s : Step) → IsHalted part steps s → IsHalted whole steps s
halted_in part whole steps f s h = record { source = h.source; has = f h.source h.has; sender = h.sender; ask = h.ask; going = h.going; read = h.read }

-- ---- one input

pub one_halts : (op : Op) (x y : State) (log now : List PortEntry) (result : Result Sent TreeNo) → HaltsAny x y log now result → HaltsAny (One op x) (One op y) log now result
one_halts op x y log now result v part steps given calls (p, c, is, r) =
    let q = v c steps r.given.rows calls r.child.runs in
    record {
      more = q.more;
      log = q.log;
      makes = most_map (IsHalted c steps) (IsHalted part steps) q.more (halted_in c part steps (λ t h. subst (λ k. Has k t) (sym is) h)) q.makes;
      leaves = by result q.more q.makes q.leaves;
    }
  where
    all_in : AllHeard c steps → AllHeard part steps
    all_in a t h = a t (subst (λ k. Has k t) is h)

    by : (result : Result Sent TreeNo) (more : List Step) → AtMostOne (IsHalted c steps) more → LeavesHalt c y steps more r.given.rows result → LeavesHalt part (One op y) steps more given result
    by (Ok sents.Done) more h w = (w.0, all_in w.1, (p, c, is, record { given = r.given; child = own_done c x y steps r.given r.child w.2; gives = r.gives }))
    by (Ok sents.More) more h w = (λ a. w.0 (λ t has. a t (subst (λ k. Has k t) (sym is) has)), w.1, (p, c, is, record { given = r.given; child = own_halt c x y steps more r.given h r.child w.2; gives = r.gives }))
    by (Ok (sents.Wait no_)) more h w = (w.0, w.1, (p, c, is, record { given = r.given; child = own_done c x y steps r.given r.child w.2; gives = r.gives }))
    by (Ok sents.AllStopped) more h w = absurd w
    by (Err (why.Malformed key)) more h w = absurd w
    by (Err (why.Overflow node)) more h w = absurd w
    by (Err why.Memory) more h w = w

-- ---- two inputs

-- the left child wasn't done
pub left_halts : (j : Joining) (x y z : State) (log now : List PortEntry) (result : Result Sent TreeNo) → (result ≡ Ok sents.Done → ⊥) → HaltsAny x z log now result → HaltsAny (Two j x y) (Two j z y) log now result
left_halts j x y z log now result undone v part steps given calls (on, l, r, is, q) =
    let p = v l steps q.from_left.rows calls q.left_child.runs in
    record {
      more = p.more;
      log = p.log;
      makes = most_map (IsHalted l steps) (IsHalted part steps) p.more (halted_in l part steps (λ t h. subst (λ k. Has k t) (sym is) (inl h))) p.makes;
      leaves = by result undone p.more p.makes p.leaves;
    }
  where
    by : (result : Result Sent TreeNo) → (result ≡ Ok sents.Done → ⊥) → (more : List Step) → AtMostOne (IsHalted l steps) more → LeavesHalt l z steps more q.from_left.rows result → LeavesHalt part (Two j z y) steps more given result
    by (Ok sents.Done) undone more h w = absurd (undone refl)
    by (Ok sents.More) undone more h w = (
      λ a. w.0 (λ t has. a t (subst (λ k. Has k t) (sym is) (inl has))),
      w.1,
      (
        on,
        l,
        r,
        is,
        record {
          from_left = q.from_left;
          from_right = q.from_right;
          left_child = own_halt l x z steps more q.from_left h q.left_child w.2;
          right_child = beside_halt l r y steps more q.from_right q.apart h q.right_child;
          gives = q.gives;
          apart = q.apart;
        },
      ),
    )
    by (Ok (sents.Wait no_)) undone more h w =
        (w.0, w.1, (on, l, r, is, record { from_left = q.from_left; from_right = q.from_right; left_child = own_done l x z steps q.from_left q.left_child w.2; right_child = q.right_child; gives = q.gives; apart = q.apart }))
    by (Ok sents.AllStopped) undone more h w = absurd w
    by (Err (why.Malformed key)) undone more h w = absurd w
    by (Err (why.Overflow node)) undone more h w = absurd w
    by (Err why.Memory) undone more h w = w

-- the left child was done
pub right_halts : (j : Joining) (x y w z : State) (log mid now : List PortEntry) (result : Result Sent TreeNo) → HaltsAny x w log mid (Ok sents.Done) → HaltsAny y z mid now result → HaltsAny (Two j x y) (Two j w z) log now result
right_halts j x y w z log mid now result u v part steps given calls (on, l, r, is, q) =
    let d = u l steps q.from_left.rows calls q.left_child.runs in
    let same : calls_of steps ≡ mid = sym (d.log ∙ ap (λ m. calls_of (steps ++ m)) d.leaves.0 ∙ ap calls_of (append-nil steps)) in
    let p = v r steps q.from_right.rows same q.right_child.runs in
    record {
      more = p.more;
      log = p.log;
      makes = most_map (IsHalted r steps) (IsHalted part steps) p.more (halted_in r part steps (λ t h. subst (λ k. Has k t) (sym is) (inr h))) p.makes;
      leaves = by d.leaves.1 d.leaves.2 result p.more p.makes p.leaves;
    }
  where
    both : AllHeard l steps → AllHeard r steps → AllHeard (Joins on l r) steps
    both a b t (inl h) = a t h
    both a b t (inr h) = b t h

    by : AllHeard l steps → Runs l w steps q.from_left.rows → (result : Result Sent TreeNo) (more : List Step) → AtMostOne (IsHalted r steps) more → LeavesHalt r z steps more q.from_right.rows result → LeavesHalt part (Two j w z) steps more given result
    by a runs (Ok sents.Done) more h k = (
      k.0,
      subst (λ t. AllHeard t steps) (sym is) (both a k.1),
      (on, l, r, is, record { from_left = q.from_left; from_right = q.from_right; left_child = own_done l x w steps q.from_left q.left_child runs; right_child = own_done r y z steps q.from_right q.right_child k.2; gives = q.gives; apart = q.apart }),
    )
    by a runs (Ok sents.More) more h k = (
      λ b. k.0 (λ t has. b t (subst (λ m. Has m t) (sym is) (inr has))),
      k.1,
      (
        on,
        l,
        r,
        is,
        record {
          from_left = q.from_left;
          from_right = q.from_right;
          left_child = beside_halt r l w steps more q.from_left (turned l r q.apart) h (own_done l x w steps q.from_left q.left_child runs);
          right_child = own_halt r y z steps more q.from_right h q.right_child k.2;
          gives = q.gives;
          apart = q.apart;
        },
      ),
    )
    by a runs (Ok (sents.Wait no_)) more h k =
        (k.0, k.1, (on, l, r, is, record { from_left = q.from_left; from_right = q.from_right; left_child = own_done l x w steps q.from_left q.left_child runs; right_child = own_done r y z steps q.from_right q.right_child k.2; gives = q.gives; apart = q.apart }))
    by a runs (Ok sents.AllStopped) more h k = absurd k
    by a runs (Err (why.Malformed key)) more h k = absurd k
    by a runs (Err (why.Overflow node)) more h k = absurd k
    by a runs (Err why.Memory) more h k = k

-- ---- a motion

or_both : (a b c d : Bool) → a ≡ c → b ≡ d → (a || b) ≡ (c || d)
or_both a b c d e f = ap (λ t. t || b) e ∙ ap (λ t. c || t) f

lane_heard : (motion : ℕ) (kinds : List Kind) (steps : List Step) (l : Lane) → IsUncut motion steps → LaneHears motion kinds steps l → (l.over || l.halted) ≡ heard_from motion l.sender steps
lane_heard motion kinds steps l u h = or_both l.over l.halted ((input_of motion steps).whole l.sender) (halted_from motion l.sender steps) (h.over ∙ ended_is motion steps u l.sender) h.halted

and_left : (a b : Bool) → (a && b) ≡ true → a ≡ true
and_left true b e = refl
and_left false b e = absurd (cc)

and_right : (a b : Bool) → (a && b) ≡ true → b ≡ true
and_right true b e = e
and_right false b e = absurd (cc)

lanes_all : (motion : ℕ) (kinds : List Kind) (steps : List Step) (lanes : List Lane) → IsUncut motion steps → AllByRecursion (LaneHears motion kinds steps) lanes → all_heard lanes ≡ true
    → (a : ℤ) → Contains (senders_of lanes) a → heard_from motion a steps ≡ true
lanes_all motion kinds steps [] u h all a (k, lt, is) = absurd (omega (arith, lt))
lanes_all motion kinds steps (l ∷ lanes) u h all a (zero, lt, is) =
    subst (λ b. heard_from motion b steps ≡ true) is (sym (lane_heard motion kinds steps l u h.0) ∙ and_left (l.over || l.halted) (all_heard lanes) all)
lanes_all motion kinds steps (l ∷ lanes) u h all a (suc k, lt, is) = lanes_all motion kinds steps lanes u h.1 (and_right (l.over || l.halted) (all_heard lanes) all) a (k, omega (arith, lt), is)

all_lanes : (motion : ℕ) (kinds : List Kind) (steps : List Step) (lanes : List Lane) → IsUncut motion steps → AllByRecursion (LaneHears motion kinds steps) lanes
    → ((a : ℤ) → Contains (senders_of lanes) a → heard_from motion a steps ≡ true) → all_heard lanes ≡ true
all_lanes motion kinds steps [] u h f = refl
all_lanes motion kinds steps (l ∷ lanes) u h f =
    ap (λ b. b && all_heard lanes) (lane_heard motion kinds steps l u h.0 ∙ f l.sender (zero, omega arith, refl))
    ∙ all_lanes motion kinds steps lanes u h.1 (λ a has. f a (suc has.0, (let lt = has.1 in omega (arith, lt)), has.2))

uncut_halt : (motion : ℕ) (c : Part) (steps more : List Step) → AtMostOne (IsHalted c steps) more → IsUncut motion steps → IsUncut motion (steps ++ more)
uncut_halt motion c steps [] h u = subst (IsUncut motion) (sym (append-nil steps)) u
uncut_halt motion c steps (s ∷ []) h u = uncut_by motion steps s (ap (λ k. is_ended s.entry.reply && is_take motion k) h.ask ∙ and_no (is_ended s.entry.reply)) (λ a. ap (λ k. is_ended s.entry.reply && is_take_from motion a k) h.ask ∙ and_no (is_ended s.entry.reply)) u
  where
    and_no : (b : Bool) → (b && false) ≡ false
    and_no true = refl
    and_no false = refl
uncut_halt motion c steps (s ∷ t ∷ more) h u = absurd h

-- all was heard
pub ear_done : (m : Listener) (log : List PortEntry) → all_heard m.lanes ≡ true → HaltsAny (Ears m) (Ears m) log log (Ok sents.Done)
ear_done m log all part steps given calls (is, h) = record {
  more = [];
  log = sym calls ∙ ap calls_of (sym (append-nil steps));
  makes = tt;
  leaves = (refl, subst (λ k. AllHeard k steps) (sym is) (λ t same. subst (λ (k : Source). (a : ℤ) → Contains k.senders a → heard_from k.end.motion a steps ≡ true) same (lanes_all m.end.motion m.kinds steps m.lanes h.uncut h.hears.each all)), (is, h));
}

not_both : {A : Type 0} (b : Bool) → b ≡ true → b ≡ false → A
not_both b e f = absurd (cc)

module _ (part : Part) (m new : Listener) (steps : List Step) (given : List Line) (is : part ≡ Hears (source_of m)) (h : Holds m steps given) (source : source_of new ≡ source_of m) (open_ : all_heard m.lanes ≡ false) where
  halted_so : (s : Step) → IsHalt m steps s → IsHalted part steps s
  halted_so s k = record {
    source = source_of m;
    has = subst (λ q. Has q (source_of m)) (sym is) refl;
    sender = k.l.sender;
    ask = k.ask;
    going = or_both ((input_of m.end.motion steps).whole k.l.sender) (halted_from m.end.motion k.l.sender steps) false false (sym (ended_is m.end.motion steps h.uncut k.l.sender) ∙ k.going) (sym (ap (λ a. repeats steps a s.entry.reply) k.ask) ∙ k.once);
    read = k.read;
  }

  halting_on : (more : List Step) → AtMostOne (IsHalted part steps) more → new.refused ≡ None → hearing.Hears new (steps ++ more) given → Runs part (Ears new) (steps ++ more) given
  halting_on more makes going hears = (
    is ∙ ap Hears (sym source),
    record { going = going; uncut = subst (λ (x : Source). IsUncut x.end.motion (steps ++ more)) (sym source) (uncut_halt m.end.motion part steps more makes h.uncut); hears = hears },
  )

  not_all : AllHeard part steps → ⊥
  not_all f =
      let g : AllHeard (Hears (source_of m)) steps = subst (λ k. AllHeard k steps) is f in
      not_both (all_heard m.lanes) (all_lanes m.end.motion m.kinds steps m.lanes h.uncut h.hears.each (g (source_of m) refl)) open_

  -- without a call all would have been heard before
  made_last : (more : List Step) → AtMostOne (IsHalted part steps) more → hearing.Hears new (steps ++ more) given → all_heard new.lanes ≡ true → MadeOne more
  made_last [] makes hears all = absurd (not_both (all_heard m.lanes) (all_lanes m.end.motion m.kinds steps m.lanes h.uncut h.hears.each heard) open_)
    where
      uncut : IsUncut new.end.motion (steps ++ [])
      uncut = subst (λ (x : Source). IsUncut x.end.motion (steps ++ [])) (sym source) (uncut_halt m.end.motion part steps [] makes h.uncut)

      in_new : (a : ℤ) → Contains (senders_of new.lanes) a → heard_from new.end.motion a (steps ++ []) ≡ true
      in_new = lanes_all new.end.motion new.kinds (steps ++ []) new.lanes uncut hears.each all

      in_old : (a : ℤ) → Contains (senders_of m.lanes) a → heard_from m.end.motion a (steps ++ []) ≡ true
      in_old = subst (λ (x : Source). (a : ℤ) → Contains x.senders a → heard_from x.end.motion a (steps ++ []) ≡ true) source in_new

      heard : (a : ℤ) → Contains (senders_of m.lanes) a → heard_from m.end.motion a steps ≡ true
      heard a has = subst (λ k. heard_from m.end.motion a k ≡ true) (append-nil steps) (in_old a has)
  made_last (s ∷ []) makes hears all = (s, refl)
  made_last (s ∷ t ∷ more) makes hears all = absurd makes

  halt_leaves : (more : List Step) (result : Result Sent MotionNo) → AtMostOne (IsHalted part steps) more → new.refused ≡ refused_by result → halting.LeavesHalt new steps more given result → LeavesHalt part (Ears new) steps more given (halt_result result)
  halt_leaves more (Ok sents.Done) makes going (hears, tells) = (not_all, made_last more makes hears tells, halting_on more makes going hears)
  halt_leaves more (Ok sents.More) makes going (hears, tells) = (not_all, (tells.1.0, tells.1.1), halting_on more makes going hears)
  halt_leaves more (Ok (sents.Wait no_)) makes going (hears, tells) = by no_ tells
    where
      by : (no_ : PortNo) → halting.TellsHalt new.lanes more (sents.Wait no_) → LeavesHalt part (Ears new) steps more given (Ok (sents.Wait no_))
      by Busy none = (none, refl, subst (λ k. Runs part (Ears new) k given) (ap (λ k. steps ++ k) none ∙ append-nil steps) (halting_on more makes going hears))
      by Full w = absurd w
      by Empty w = absurd w
      by Stopped w = absurd w
      by Ended w = absurd w
      by (TooLong key) w = absurd w
      by Memory w = absurd w
  halt_leaves more (Ok sents.AllStopped) makes going (hears, tells) = absurd tells
  halt_leaves more (Err (motions.Malformed key)) makes going w = absurd w
  halt_leaves more (Err (motions.TooLong key)) makes going w = absurd w
  halt_leaves more (Err motions.Memory) makes going w = w.0

pub ear_halts : (m new : Listener) (log now : List PortEntry) (result : Result Sent MotionNo) → all_heard m.lanes ≡ false → SameIn m new → senders_of new.lanes ≡ senders_of m.lanes → new.refused ≡ refused_by result
    → ((steps : List Step) (given : List Line) → m.refused ≡ None → calls_of steps ≡ log → hearing.Hears m steps given → halting.Halted m new steps given now result) → HaltsAny (Ears m) (Ears new) log now (halt_result result)
ear_halts m new log now result open_ s senders going f part steps given calls (is, h) =
    let q = f steps given h.going calls h.hears in
    let source = same_source m new s senders in
    let makes = most_map (IsHalt m steps) (IsHalted part steps) q.more (halted_so part m new steps given is h source open_) q.makes in
    record { more = q.more; log = q.log; makes = makes; leaves = halt_leaves part m new steps given is h source open_ q.more result makes going q.leaves }
