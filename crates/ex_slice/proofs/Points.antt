-- The points of a slice's run that one more step keeps.
use Rattle.std.proofs.Common.{◌≡◌, ℕ, ℤ, Bool, true, false, cond, List, [], ◌∷◌, ◌++◌, None, refl, sym, ap, ◌∙◌, subst, append-nil}
use Rattle.std.specs.Prelude.{Contains}
use Rattle.std.specs.List.{AllByRecursion}
use Rattle.ic_base.specs.declared.datagram.Parcel.{Parcel}
use Rattle.ic_base.specs.declared.port.PortReply.{PortReply}
use Rattle.ic_base.specs.declared.port.PortReply.TheVariants as reply
use Rattle.ic_law.specs.Points.{IsPrefix}
use Rattle.pl_ops.specs.Rows.{Line}
use Rattle.pl_mean.specs.Parts.{routed_to}
use Rattle.pl_plan.specs.Motions.{Link, gang_of}
use Rattle.pl_runs.specs.Steps.{Step, put_on, finished_on, sends_on, ends_on, is_halt, takes_of, parcels_in, parcels_by}
use Rattle.pl_runs.specs.Slices.{Worker, sending, route_in, output_of, chunks_for, cut}
use Rattle.pl_runs.specs.Wanting.{want_in}
use Rattle.pl_runs.specs.Runs.{Course, SliceRun, PutsNext, FinishesLast, EndsWith, HaltsLate, OnlyOnce, TakesWanted, IsServed, LetsOut, IsOver as IsDone}
use Rattle.ic_motion.specs.Pulling.{AtMostOne}
use Rattle.ic_motion.specs.Sending.{Sender, Sends, IsIdle}
use Rattle.ic_motion.proofs.Passing.{sends_passed}
use Rattle.ic_motion.proofs.Sending.{idle_left, served}
use Rattle.ex_tree.specs.Parts.{Part, out}
use Rattle.ex_tree.specs.Pulling.{IsAsked}
use Rattle.ex_tree.proofs.Fronts.{Begins}
use Rattle.ex_tree.proofs.Frames.{no_parcels}
use Rattle.ex_plan.specs.Workers.{Serves}
use Rattle.ex_slice.specs.Serving.{FacesOut}
use Rattle.ex_slice.specs.Working.{Passed}
use Rattle.ex_slice.proofs.Lists.{every_more, all_from, all_none}
use Rattle.ex_slice.proofs.Links.{front_of, served_here}
use Rattle.ex_slice.proofs.Asks.{not_both, take_sends, take_halts, take_motion, no_ends, no_finish, no_want}

-- ---- all points of one step

pub record Fits (w : Worker) (before : List Step) (s : Step) : Type 0 where
  pub puts : PutsNext w before s
  pub finishes : FinishesLast w before s
  pub halts : HaltsLate w before s
  pub once : OnlyOnce before s
  pub takes : TakesWanted w before s

fits_map : (P : List Step → Step → Type 0) (w : Worker) (before more : List Step) → ((s : Step) → Fits w before s → P before s) → AtMostOne (Fits w before) more → AtMostOne (P before) more
fits_map P w before [] f h = tt
fits_map P w before (s ∷ []) f h = f s h
fits_map P w before (s ∷ t ∷ more) f h = absurd h

pub run_more : (w : Worker) (c : Course) (more : List Step) (rows : List Line) (done : Bool) → SliceRun w c → AtMostOne (Fits w c.steps) more → LetsOut w (record { steps = c.steps ++ more; let_out = rows; done = done })
    → (done ≡ true → IsDone w (c.steps ++ more)) → SliceRun w (record { steps = c.steps ++ more; let_out = rows; done = done })
run_more w c more rows done run fits lets over = record {
  puts = every_more (PutsNext w) c.steps more run.puts (fits_map (PutsNext w) w c.steps more (λ s h. h.puts) fits);
  finishes = every_more (FinishesLast w) c.steps more run.finishes (fits_map (FinishesLast w) w c.steps more (λ s h. h.finishes) fits);
  halts = every_more (HaltsLate w) c.steps more run.halts (fits_map (HaltsLate w) w c.steps more (λ s h. h.halts) fits);
  lets_out = lets;
  over = over;
  once = every_more OnlyOnce c.steps more run.once (fits_map OnlyOnce w c.steps more (λ s h. h.once) fits);
  takes = every_more (TakesWanted w) c.steps more run.takes (fits_map (TakesWanted w) w c.steps more (λ s h. h.takes) fits);
}

-- ---- parts of it

pub quiet_ends : (w : Worker) (before : List Step) (s : Step) → ((l : Link) → ends_on l.motion l.to s.entry.ask ≡ false) → ((l : Link) → sends_on l.motion l.to s.entry.ask ≡ true → finished_on l.motion l.to before ≡ false) → FinishesLast w before s
quiet_ends w before s none last = all_from (EndsWith w before s) (sending w) (λ l has. record {
  ended = λ e. absurd (no_finish l.motion l.to s (none l) e);
  all = λ e. absurd (no_finish l.motion l.to s (none l) e);
  last = last l;
})

pub no_takes : (w : Worker) (before : List Step) (s : Step) → want_in s.entry.ask ≡ None → TakesWanted w before s
no_takes w before s none = record { wanted = λ want e. absurd (no_want s.entry.ask want none e); served = λ want e. absurd (no_want s.entry.ask want none e) }

pub no_halts : (w : Worker) (before : List Step) (s : Step) → is_halt s.entry.ask ≡ false → HaltsLate w before s
no_halts w before s none e = not_both (is_halt s.entry.ask) e none

-- what a step of no stream leaves as it is
pub passes_by : (m : Sender) (steps : List Step) (s : Step) (rows : List Line) → ((to : ℤ) → sends_on m.motion to s.entry.ask ≡ false) → Sends m steps rows → Sends m (steps ++ s ∷ []) rows
passes_by m steps s rows none h = sends_passed m steps s rows none h

-- the chunks that were put are the first of the output's
module _ (w : Worker) (part : Part) (serves : Serves w part) (before : List Step) where
  pub puts_by : (m : Sender) (after : List Step) (rows : List Line) → FacesOut w m → Sends m after rows → Begins rows (out part before).rows → AllByRecursion (λ (l : Link). IsPrefix (put_on l.motion l.to after) (chunks_for w before l.to)) (sending w)
  puts_by m after rows faces h b = all_from (λ (l : Link). IsPrefix (put_on l.motion l.to after) (chunks_for w before l.to)) (sending w)
      (λ l has. front_of w m l after rows faces.packet (faces.links l has) h (output_of w before).rows (subst (λ k. Begins rows k.rows) (serves.gives before) b))

  pub served_by : (m : Sender) (rows : List Line) → FacesOut w m → Sends m before rows → IsIdle m.work → rows ≡ (out part before).rows → AllByRecursion (IsServed w before) (sending w)
  served_by m rows faces h idle same = all_from (IsServed w before) (sending w)
      (λ l has going. ap (λ k. cut w.packet (routed_to w.site (route_in w.tree w.slice) l.to k)) (sym (same ∙ ap (λ k. k.rows) (serves.gives before)))
      ∙ served_here w m l before rows faces.packet (faces.links l has) h (served m before rows (λ place open_. idle_left place m.work idle) h) going)

-- ---- a take

module _ (w : Worker) (part : Part) (serves : Serves w part) (before : List Step) (given : List Line) (s : Step) (h : IsAsked part before given s) where
  silent : (motion : ℕ) (to : ℤ) → sends_on motion to s.entry.ask ≡ false
  silent motion to = take_sends h.source.end.motion motion to s.entry.ask h.takes

  take_ends : FinishesLast w before s
  take_ends = quiet_ends w before s (λ l. no_ends l.motion l.to s.entry.ask (silent l.motion l.to)) (λ l e. not_both (sends_on l.motion l.to s.entry.ask) e (silent l.motion l.to))

  fit_take : PutsNext w before s → AllByRecursion (IsServed w before) (sending w) → Fits w before s
  fit_take puts served_ = record {
    puts = puts;
    finishes = take_ends;
    halts = no_halts w before s (take_halts h.source.end.motion s.entry.ask h.takes);
    once = h.once;
    takes = record { wanted = λ want e. sym (h.wanted ∙ serves.wants before) ∙ e; served = λ want e. served_ };
  }

  pub take_out : (m : Sender) → FacesOut w m → Passed m None before given → Fits w before s
  take_out m faces p =
      let same : given ≡ p.rows = p.given_are in
      fit_take
      (puts_by w part serves before m (before ++ s ∷ []) p.rows faces (passes_by m before s p.rows (silent m.motion) p.sends) ([], sym h.all.rows ∙ same ∙ sym (append-nil p.rows)))
      (served_by w part serves before m p.rows faces p.sends (p.idle refl) (sym same ∙ h.all.rows))

  pub take_root : sending w ≡ [] → Fits w before s
  take_root none = fit_take (all_none (λ (l : Link). IsPrefix (put_on l.motion l.to (before ++ s ∷ [])) (chunks_for w before l.to)) (sending w) none) (all_none (IsServed w before) (sending w) none)

  -- its parcel is from a sender of its motion
  from_one : (motion : ℕ) (p : Parcel) → takes_of motion s.entry.ask ≡ true → parcels_by s.entry.reply ≡ p ∷ [] → Contains (gang_of w.site.schemas w.site.segments w.tree motion) p.from
  from_one motion p t e =
      subst (λ k. Contains (gang_of w.site.schemas w.site.segments w.tree k) p.from) (take_motion h.source.end.motion motion s.entry.ask h.takes t) (serves.senders h.source h.has p.from (h.from p e))

  parcels_of_take : (motion : ℕ) → takes_of motion s.entry.ask ≡ true → parcels_in motion s ≡ parcels_by s.entry.reply
  parcels_of_take motion e = ap (λ b. cond b (parcels_by s.entry.reply) []) e

  pub take_from : (motion : ℕ) → AllByRecursion (λ (p : Parcel). Contains (gang_of w.site.schemas w.site.segments w.tree motion) p.from) (parcels_in motion s)
  take_from motion = by (takes_of motion s.entry.ask) refl s.entry.reply refl
    where
      by : (b : Bool) → takes_of motion s.entry.ask ≡ b → (r : PortReply) → s.entry.reply ≡ r → AllByRecursion (λ (p : Parcel). Contains (gang_of w.site.schemas w.site.segments w.tree motion) p.from) (parcels_in motion s)
      by false e r is = subst (AllByRecursion (λ (p : Parcel). Contains (gang_of w.site.schemas w.site.segments w.tree motion) p.from)) (sym (no_parcels motion s e)) tt
      by true e (reply.Gave p) is =
          subst (AllByRecursion (λ (q : Parcel). Contains (gang_of w.site.schemas w.site.segments w.tree motion) q.from)) (sym (parcels_of_take motion e ∙ ap parcels_by is)) (from_one motion p e (ap parcels_by is), tt)
      by true e reply.Did is = subst (AllByRecursion (λ (q : Parcel). Contains (gang_of w.site.schemas w.site.segments w.tree motion) q.from)) (sym (parcels_of_take motion e ∙ ap parcels_by is)) tt
      by true e (reply.Refused no_) is = subst (AllByRecursion (λ (q : Parcel). Contains (gang_of w.site.schemas w.site.segments w.tree motion) q.from)) (sym (parcels_of_take motion e ∙ ap parcels_by is)) tt
