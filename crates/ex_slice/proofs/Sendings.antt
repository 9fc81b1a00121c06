-- The points of a put, a finish and a halt.
use Rattle.std.proofs.Common.{◌≡◌, ◌≢◌, ℕ, ℤ, Bool, true, false, ◌&&◌, ◌||◌, List, [], ◌∷◌, ◌++◌, length, Some, sym, ap, ◌∙◌, inl, inr, arith, append-nil}
use Rattle.std.specs.Prelude.{Contains, slice_get, ◌⊎◌}
use Rattle.ic_base.specs.declared.port.PortAsk.TheVariants.{Put}
use Rattle.pl_ops.specs.Rows.{Line}
use Rattle.pl_ops.specs.Routing.{routed}
use Rattle.pl_ops.specs.Giving.{IsOver}
use Rattle.pl_plan.specs.Motions.{Link}
use Rattle.pl_mean.specs.Parts.{routed_to}
use Rattle.pl_runs.specs.Steps.{Step, put_on, finished_on, sends_on, ends_on, finishes, is_halt, is_stopped, halted_from, repeats, input_of}
use Rattle.pl_runs.specs.Slices.{Worker, sending, route_in, chunks_for, cut}
use Rattle.pl_runs.specs.Wanting.{want_in}
use Rattle.pl_runs.specs.Runs.{PutsNext, EndsWith, may_halt}
use Rattle.ic_motion.specs.Sending.{Target, Sender, Sends, route_by}
use Rattle.ic_motion.specs.Sent.{SameOut, IsPut, IsFinish}
use Rattle.ic_motion.proofs.Sending.{to_apart}
use Rattle.ex_tree.specs.Parts.{Part, out}
use Rattle.ex_tree.specs.Halting.{IsHalted}
use Rattle.ex_tree.proofs.Fronts.{Begins}
use Rattle.ex_plan.specs.Workers.{Serves}
use Rattle.ex_slice.specs.Serving.{IsFaced, FacesOut}
use Rattle.ex_slice.proofs.Lists.{all_from}
use Rattle.ex_slice.proofs.Links.{target_of, faces_same}
use Rattle.ex_slice.proofs.Asks.{and_no, not_both, finish_on_same, put_on_same}
use Rattle.ex_slice.proofs.Points.{Fits, quiet_ends, no_takes, no_halts, puts_by}

module _ (w : Worker) (part : Part) (serves : Serves w part) (before : List Step) (m n : Sender) (same : SameOut m n) (faces : FacesOut w m) (s : Step) where
  -- ---- a put

  pub fit_put : (rows : List Line) → IsPut m before s → Sends n (before ++ s ∷ []) rows → Begins rows (out part before).rows → Fits w before s
  fit_put rows h sends b = record {
    puts = puts_by w part serves before n (before ++ s ∷ []) rows (faces_same w m n same faces) sends b;
    finishes = quiet_ends w before s (λ l. ap (ends_on l.motion l.to) h.ask) (λ l e. last l (sym (ap (sends_on l.motion l.to) h.ask) ∙ e));
    halts = no_halts w before s (ap is_halt h.ask);
    once = ap (λ a. repeats before a s.entry.reply) h.ask ∙ ap (λ b. is_stopped s.entry.reply && b) h.stopped ∙ and_no (is_stopped s.entry.reply);
    takes = no_takes w before s (ap want_in h.ask);
  }
    where
      last : (l : Link) → sends_on l.motion l.to (Put m.motion h.t.to h.chunk) ≡ true → finished_on l.motion l.to before ≡ false
      last l e = let k = put_on_same m.motion l.motion h.t.to l.to h.chunk e in ap (λ x. finished_on x l.to before) (sym k.0) ∙ ap (λ x. finished_on m.motion x before) (sym k.1) ∙ h.finished

  -- ---- a finish

  -- a connection has one place
  one_place : (l : Link) (f : IsFaced w m l) (place : ℕ) (t : Target) (rows : List Line) → Sends m before rows → slice_get m.targets place ≡ Some t → t.to ≡ l.to → place ≡ f.place
  one_place l f place t rows h at to =
      let u = target_of m.targets f.place l.to f.at in
      by (decided place f.place) u
    where
      decided : (a b : ℕ) → (a ≡ b) ⊎ (a ≢ b)
      decided a b = grind arith

      by : (place ≡ f.place) ⊎ (place ≢ f.place) → (u : Target) × (slice_get m.targets f.place ≡ Some u) × (u.to ≡ l.to) → place ≡ f.place
      by (inl e) u = e
      by (inr ne) u = absurd (to_apart m.targets place f.place t u.0 h.ascend at u.1 ne (to ∙ sym u.2))

  pub fit_finish : (given : List Line) → IsFinish m before given s → IsOver (out part before) given → Sends m before given → Sends n (before ++ s ∷ []) given → Fits w before s
  fit_finish given h over was sends = record {
    puts = puts_by w part serves before n (before ++ s ∷ []) given (faces_same w m n same faces) sends ([], sym over.rows ∙ sym (append-nil given));
    finishes = all_from (EndsWith w before s) (sending w) (λ l has. record { ended = λ e. sym (ap (λ k. k.ended) (serves.gives before)) ∙ over.ended; all = λ e. all l has (own l e); last = λ e. last l (finish_on_same m.motion l.motion h.t.to l.to (sym (ap (sends_on l.motion l.to) h.ask) ∙ e)) });
    halts = no_halts w before s (ap is_halt h.ask);
    once = ap (λ a. repeats before a s.entry.reply) h.ask ∙ ap (λ b. is_stopped s.entry.reply && b) h.stopped ∙ and_no (is_stopped s.entry.reply);
    takes = no_takes w before s (ap want_in h.ask);
  }
    where
      last : (l : Link) → (m.motion ≡ l.motion) × (h.t.to ≡ l.to) → finished_on l.motion l.to before ≡ false
      last l k = ap (λ x. finished_on x l.to before) (sym k.0) ∙ ap (λ x. finished_on m.motion x before) (sym k.1) ∙ h.finished

      right : (a b : Bool) → (a && b) ≡ true → b ≡ true
      right true b e = e
      right false b e = absurd (cc)

      own : (l : Link) → finishes l.motion l.to s ≡ true → (m.motion ≡ l.motion) × (h.t.to ≡ l.to)
      own l e = finish_on_same m.motion l.motion h.t.to l.to (sym (ap (ends_on l.motion l.to) h.ask) ∙ right _ (ends_on l.motion l.to s.entry.ask) e)

      all : (l : Link) → Contains (sending w) l → (m.motion ≡ l.motion) × (h.t.to ≡ l.to) → chunks_for w before l.to ≡ put_on l.motion l.to before
      all l has k =
          let f = faces.links l has in
          let place : h.place ≡ f.place = one_place l f h.place h.t given was h.at k.1 in
          ap (λ x. cut w.packet (routed_to w.site (route_in w.tree w.slice) l.to x)) (sym (ap (λ k. k.rows) (serves.gives before)) ∙ sym over.rows)
          ∙ ap (cut w.packet) (f.routes given)
          ∙ ap (λ x. cut x (routed (route_by m.kind) (length m.targets) f.place given)) (sym faces.packet)
          ∙ ap (λ x. cut m.packet (routed (route_by m.kind) (length m.targets) x given)) (sym place)
          ∙ sym h.all
          ∙ ap (λ x. put_on x h.t.to before) k.0
          ∙ ap (λ x. put_on l.motion x before) k.1

-- ---- a halt

module _ (w : Worker) (part : Part) (before : List Step) (s : Step) (h : IsHalted part before s) where
  pub halt_sends : (motion : ℕ) (to : ℤ) → sends_on motion to s.entry.ask ≡ false
  halt_sends motion to = ap (sends_on motion to) h.ask

  pub fit_halt : PutsNext w before s → may_halt w before ≡ true → Fits w before s
  fit_halt puts may = record {
    puts = puts;
    finishes = quiet_ends w before s (λ l. ap (ends_on l.motion l.to) h.ask) (λ l e. not_both (sends_on l.motion l.to s.entry.ask) e (halt_sends l.motion l.to));
    halts = λ e. may;
    once = ap (λ a. repeats before a s.entry.reply) h.ask ∙ right ((input_of h.source.end.motion before).whole h.sender) (halted_from h.source.end.motion h.sender before) h.going;
    takes = no_takes w before s (ap want_in h.ask);
  }
    where
      right : (a b : Bool) → (a || b) ≡ false → b ≡ false
      right true b e = absurd (cc)
      right false b e = e
