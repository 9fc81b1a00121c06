-- A sending end and the connections of its worker.
use Rattle.std.proofs.Common.{◌≡◌, ℕ, zero, suc, ◌≤◌, ◌<◌, ℤ, pos, negsuc, Bool, true, false, ◌&&◌, ◌||◌, List, [], ◌∷◌, ◌++◌, length, take, Some, refl, sym, ap, ◌∙◌, subst, inl, inr, arith, append_assoc, length-append}
use Rattle.std.specs.Prelude.{slice_get, ◌⊎◌}
use Rattle.std.specs.List.{list_all, AllByRecursion}
use Rattle.std.proofs.lemmas.List.{take-append-le, length-map}
use Rattle.ic_row.specs.Spelling.{IsRow}
use Rattle.ic_law.specs.Points.{IsPrefix}
use Rattle.pl_ops.specs.Rows.{Line}
use Rattle.pl_ops.specs.Routing.{Route, ToAll, ToHashed, is_routed, routed}
use Rattle.pl_mean.specs.Parts.{Site, routed_to}
use Rattle.pl_plan.specs.Motions.{Link}
use Rattle.pl_runs.specs.Steps.{Step, put_on, stopped_on, finished_on}
use Rattle.pl_runs.specs.Slices.{Worker, route_in, cut}
use Rattle.pl_runs.specs.Runs.{is_sent}
use Rattle.gd_answer.proofs.Pieces.{cut-append}
use Rattle.gd_answer.proofs.Sent.{routed-append}
use Rattle.ic_motion.specs.Sending.{Target, Sender, to_of, receivers_of, route_by, is_over, all_stopped, all_over, Sends, Reaches, AreServed}
use Rattle.ic_motion.specs.Sending as outs
use Rattle.ic_motion.specs.Sent.{SameOut}
use Rattle.ex_tree.proofs.Fronts.{Begins}
use Rattle.ex_slice.specs.Serving.{IsFaced, FacesOut}
use Rattle.ex_slice.proofs.Lists.{all_take, all_filter, take_past}

-- ---- the receiver at a place

pub target_of : (targets : List Target) (place : ℕ) (to : ℤ) → slice_get (receivers_of targets) place ≡ Some to → (t : Target) × (slice_get targets place ≡ Some t) × (t.to ≡ to)
target_of [] place to e = absurd (cc)
target_of (t ∷ targets) zero to e = (t, refl, cc)
target_of (t ∷ targets) (suc k) to e = target_of targets k to e

true_at : (p : Target → Bool) (targets : List Target) (place : ℕ) (t : Target) → list_all p targets ≡ true → slice_get targets place ≡ Some t → p t ≡ true
true_at p [] place t all at = absurd (cc)
true_at p (u ∷ targets) zero t all at = let same : u ≡ t = cc in subst (λ x. p x ≡ true) same (first (p u) (list_all p targets) all)
  where
    first : (a b : Bool) → (a && b) ≡ true → a ≡ true
    first true b e = refl
    first false b e = e
true_at p (u ∷ targets) (suc k) t all at = true_at p targets k t (rest (p u) (list_all p targets) all) at
  where
    rest : (a b : Bool) → (a && b) ≡ true → b ≡ true
    rest true b e = e
    rest false b e = absurd (cc)

-- ---- the same connections

same_length : (m n : Sender) → SameOut m n → length n.targets ≡ length m.targets
same_length m n s = sym (length-map n.targets to_of) ∙ ap length s.receivers ∙ length-map m.targets to_of

pub faces_same : (w : Worker) (m n : Sender) → SameOut m n → FacesOut w m → FacesOut w n
faces_same w m n s f = record {
  not_root = f.not_root;
  packet = s.packet ∙ f.packet;
  links = λ l has.
      let q = f.links l has in
      record {
        motion = q.motion ∙ sym s.motion;
        place = q.place;
        at = ap (λ rs. slice_get rs q.place) s.receivers ∙ q.at;
        routes = λ rows. q.routes rows ∙ ap (λ k. routed (route_by k) (length m.targets) q.place rows) (sym s.kind) ∙ ap (λ k. routed (route_by n.kind) k q.place rows) (sym (same_length m n s));
      };
}

-- ---- one connection

module _ (w : Worker) (m : Sender) (l : Link) (steps : List Step) (rows : List Line) (packet : m.packet ≡ w.packet) (f : IsFaced w m l) (h : Sends m steps rows) where
  abbrev target : (t : Target) × (slice_get m.targets f.place ≡ Some t) × (t.to ≡ l.to)
  target = target_of m.targets f.place l.to f.at

  abbrev reach : Reaches (route_by m.kind) m.motion m.packet (length m.targets) f.place target.0 m.work rows steps
  reach = h.each f.place target.0 target.1

  -- what was put on it
  puts_here : put_on m.motion target.0.to steps ≡ put_on l.motion l.to steps
  puts_here = ap (λ k. put_on k target.0.to steps) (sym f.motion) ∙ ap (λ k. put_on l.motion k steps) target.2

  -- the chunks of the rows for it
  chunks_here : cut w.packet (routed_to w.site (route_in w.tree w.slice) l.to rows) ≡ cut m.packet (routed (route_by m.kind) (length m.targets) f.place rows)
  chunks_here = ap (cut w.packet) (f.routes rows) ∙ ap (λ k. cut k (routed (route_by m.kind) (length m.targets) f.place rows)) (sym packet)

  pub stopped_here : target.0.stopped ≡ stopped_on l.motion l.to steps
  stopped_here = reach.stopped ∙ ap (λ k. stopped_on k target.0.to steps) (sym f.motion) ∙ ap (λ k. stopped_on l.motion k steps) target.2

  pub finished_here : target.0.finished ≡ finished_on l.motion l.to steps
  finished_here = reach.finished ∙ ap (λ k. finished_on k target.0.to steps) (sym f.motion) ∙ ap (λ k. finished_on l.motion k steps) target.2

  own_front : IsPrefix (put_on l.motion l.to steps) (cut w.packet (routed_to w.site (route_in w.tree w.slice) l.to rows))
  own_front = (reach.front.0, chunks_here ∙ reach.front.1 ∙ ap (λ k. k ++ reach.front.0) puts_here)

  -- they are the first of the chunks of whatever begins with the rows
  pub front_of : (all : List Line) → Begins rows all → IsPrefix (put_on l.motion l.to steps) (cut w.packet (routed_to w.site (route_in w.tree w.slice) l.to all))
  front_of all b =
      let r = route_in w.tree w.slice in
      let more = cut w.packet (routed_to w.site r l.to b.0) in (
        own_front.0 ++ more,
        ap (λ k. cut w.packet (routed_to w.site r l.to k)) b.1
            ∙ ap (cut w.packet) (routed-append w.site r l.to rows b.0)
            ∙ cut-append w.packet (routed_to w.site r l.to rows) (routed_to w.site r l.to b.0)
            ∙ ap (λ k. k ++ more) own_front.1
            ∙ append_assoc (put_on l.motion l.to steps) own_front.0 more,
      )

  -- all of them were put, if each receiver is served
  pub served_here : AreServed m steps rows → stopped_on l.motion l.to steps ≡ false → cut w.packet (routed_to w.site (route_in w.tree w.slice) l.to rows) ≡ put_on l.motion l.to steps
  served_here served going = chunks_here ∙ sym (served f.place target.0 target.1 (stopped_here ∙ going)) ∙ puts_here

  pub all_stopped_here : all_stopped m.targets ≡ true → stopped_on l.motion l.to steps ≡ true
  all_stopped_here all = sym stopped_here ∙ true_at outs.is_stopped m.targets f.place target.0 all target.1

  pub over_here : all_over m.targets ≡ true → is_sent steps l ≡ true
  over_here all = ap (λ b. b || stopped_on l.motion l.to steps) (sym finished_here) ∙ ap (λ b. target.0.finished || b) (sym stopped_here) ∙ true_at is_over m.targets f.place target.0 all target.1

  pub stopped_sent : all_stopped m.targets ≡ true → is_sent steps l ≡ true
  stopped_sent all = ap (λ b. finished_on l.motion l.to steps || b) (all_stopped_here all) ∙ or_true (finished_on l.motion l.to steps)
    where
      or_true : (b : Bool) → (b || true) ≡ true
      or_true true = refl
      or_true false = refl

  -- ---- rows that can be spelled

  all_routed : (s : Site) (route : Route) (to : ℤ) (xs : List Line) → AllByRecursion IsRow xs → AllByRecursion IsRow (routed_to s route to xs)
  unfolding routed
  all_routed s ToAll to xs all = all
  all_routed s (ToHashed keys) (pos k) xs all = all_filter IsRow (is_routed (ToHashed keys) s.segments k) xs all
  all_routed s (ToHashed keys) (negsuc k) xs all = tt

  pub clean_here : AllByRecursion IsRow rows → (all : List Line) → Begins rows all → (n : ℕ) → length (cut w.packet (take n (routed_to w.site (route_in w.tree w.slice) l.to all))) < length (put_on l.motion l.to steps)
      → AllByRecursion IsRow (take (suc n) (routed_to w.site (route_in w.tree w.slice) l.to all))
  clean_here are all b n less =
      let r = route_in w.tree w.slice in
      let own = routed_to w.site r l.to rows in
      let more = routed_to w.site r l.to b.0 in
      let is : routed_to w.site r l.to all ≡ own ++ more = ap (routed_to w.site r l.to) b.1 ∙ routed-append w.site r l.to rows b.0 in
      subst (λ k. AllByRecursion IsRow (take (suc n) k)) (sym is)
      (by own more (all_routed w.site r l.to rows are) own_front (subst (λ k. length (cut w.packet (take n k)) < length (put_on l.motion l.to steps)) is less) (either (length own) n))
    where
      either : (a n : ℕ) → (a ≤ n) ⊎ (suc n ≤ a)
      either a n = grind arith

      by : (own more : List Line) → AllByRecursion IsRow own → IsPrefix (put_on l.motion l.to steps) (cut w.packet own) → length (cut w.packet (take n (own ++ more))) < length (put_on l.motion l.to steps) → (length own ≤ n) ⊎ (suc n ≤ length own)
          → AllByRecursion IsRow (take (suc n) (own ++ more))
      by own more all_own front less (inr within) = subst (AllByRecursion IsRow) (sym (take-append-le (suc n) own more within)) (all_take IsRow (suc n) own all_own)
      by own more all_own front less (inl past) =
          let t = take_past n own more past in
          let a = ap (λ k. length (cut w.packet k)) t.1 ∙ ap length (cut-append w.packet own t.0) in
          let b = ap length front.1 in
          absurd (omega (arith, less, a, b, length-append (cut w.packet own) (cut w.packet t.0), length-append (put_on l.motion l.to steps) front.0))
