-- What a worker put on a connection, by its steps: the first chunks of its output, and all of them if it finished.
use Rattle.std.proofs.Common.{◌≡◌, ℕ, ℤ, pos, negsuc, List, [], ◌∷◌, ◌++◌, Bool, true, false, ◌||◌, cond, refl, ap, sym, ◌∙◌, inl, inr, ◌⊎◌, append_assoc, append-nil}
use Rattle.std.specs.List.{list_any}
use Rattle.std.proofs.lemmas.List.Elements.{filter-append}
use Rattle.ic_base.specs.declared.port.PortAsk.{PortAsk}
use Rattle.ic_base.specs.declared.port.PortAsk.TheVariants as ask
use Rattle.ic_law.specs.Points.{IsPrefix}
use Rattle.ic_law.proofs.Lists.{flat_map-append, list_any-append}
use Rattle.pl_plan.specs.Motions.{Link}
use Rattle.pl_ops.specs.Rows.{Line}
use Rattle.pl_ops.specs.Routing.{Route, ToAll, ToHashed, is_routed, routed}
use Rattle.pl_mean.specs.Parts.{Site, routed_to}
use Rattle.pl_answers.specs.Growing.{IsFront}
use Rattle.pl_parts.proofs.Members.{In, All-in}
use Rattle.pl_runs.specs.Steps.{Step, sends_on, ends_on, is_done, chunk_of, chunk_in, put_on, finishes, finished_on}
use Rattle.pl_runs.specs.Slices.{Worker, sending, route_in, output_of, cut, chunks_for}
use Rattle.pl_runs.specs.Runs.{Course, EndsWith, SliceRun}
use Rattle.gd_answer.proofs.Ends.{differ, both}
use Rattle.gd_answer.proofs.Pieces.{cut-append}

-- ---- routing

pub routed-append : (s : Site) (route : Route) (to : ℤ) (xs ys : List Line) → routed_to s route to (xs ++ ys) ≡ routed_to s route to xs ++ routed_to s route to ys
unfolding routed
routed-append s ToAll to xs ys = refl
routed-append s (ToHashed keys) (pos segment) xs ys = filter-append (is_routed (ToHashed keys) s.segments segment) xs ys
routed-append s (ToHashed keys) (negsuc n) xs ys = refl

routed-none : (s : Site) (route : Route) (to : ℤ) → routed_to s route to [] ≡ []
unfolding routed
routed-none s ToAll to = refl
routed-none s (ToHashed keys) (pos segment) = refl
routed-none s (ToHashed keys) (negsuc n) = refl

-- ---- steps

-- none, or some and a last one
last_of : (steps : List Step) → (steps ≡ []) ⊎ ((init : List Step) × (s : Step) × (steps ≡ init ++ s ∷ []))
last_of [] = inl refl
last_of (x ∷ steps) = by (last_of steps)
  where
    by : (steps ≡ []) ⊎ ((init : List Step) × (s : Step) × (steps ≡ init ++ s ∷ [])) → (x ∷ steps ≡ []) ⊎ ((init : List Step) × (s : Step) × (x ∷ steps ≡ init ++ s ∷ []))
    by (inl e) = inr ([], x, ap (λ l. x ∷ l) e)
    by (inr w) = inr (x ∷ w.0, w.1, ap (λ l. x ∷ l) w.2)

-- the step with which a test holds
found : (f : Step → Bool) (steps : List Step) → list_any f steps ≡ true → (before : List Step) × (s : Step) × (after : List Step) × (steps ≡ before ++ s ∷ after) × (f s ≡ true)
found f [] h = absurd (differ h)
found f (x ∷ steps) h = by (f x) refl (found f steps)
  where
    by : (b : Bool) → f x ≡ b → (list_any f steps ≡ true → (before : List Step) × (s : Step) × (after : List Step) × (steps ≡ before ++ s ∷ after) × (f s ≡ true))
        → (before : List Step) × (s : Step) × (after : List Step) × (x ∷ steps ≡ before ++ s ∷ after) × (f s ≡ true)
    by true e ih = ([], x, steps, refl, e)
    by false e ih = let w = ih (sym (ap (λ b. b || list_any f steps) e) ∙ h) in (x ∷ w.0, w.1, w.2, ap (λ l. x ∷ l) w.3, w.4)

-- what isn't sent on a connection puts nothing there
silent : (motion : ℕ) (to : ℤ) (asked : PortAsk) → sends_on motion to asked ≡ false → chunk_of motion to asked ≡ []
silent motion to (ask.Put m t chunk) h = ap (λ b. cond b (chunk ∷ []) []) h
silent motion to (ask.Finish m t) h = refl
silent motion to (ask.Take m) h = refl
silent motion to (ask.TakeFrom m a) h = refl
silent motion to (ask.Halt m a) h = refl

no_chunk : (b : Bool) (xs : List (List ℕ)) → xs ≡ [] → cond b xs [] ≡ []
no_chunk true xs h = h
no_chunk false xs h = refl

ends_silent : (motion : ℕ) (to : ℤ) (asked : PortAsk) → ends_on motion to asked ≡ true → chunk_of motion to asked ≡ []
ends_silent motion to (ask.Put m t chunk) h = absurd (differ h)
ends_silent motion to (ask.Finish m t) h = refl
ends_silent motion to (ask.Take m) h = refl
ends_silent motion to (ask.TakeFrom m a) h = refl
ends_silent motion to (ask.Halt m a) h = refl

-- ---- one connection of a worker

-- what a worker gave before is the front of what it gave
abbrev pub Grows : Worker → List Step → Type 0
Grows w steps = (before more : List Step) → steps ≡ before ++ more → IsFront (output_of w before) (output_of w steps)

module _ (w : Worker) (c : Course) (l : Link) (there : In l (sending w)) (run : SliceRun w c) (grows : Grows w c.steps) where
  -- the chunks for the receiver, of a front and of all
  chunks_more : (before more : List Step) → c.steps ≡ before ++ more → (rest : List (List ℕ)) × (chunks_for w c.steps l.to ≡ chunks_for w before l.to ++ rest)
  chunks_more before more e =
      let f = grows before more e in
      let r = route_in w.tree w.slice in (
        cut w.packet (routed_to w.site r l.to f.rest),
        ap (λ rows. cut w.packet (routed_to w.site r l.to rows)) f.longer
            ∙ ap (cut w.packet) (routed-append w.site r l.to (output_of w before).rows f.rest)
            ∙ cut-append w.packet (routed_to w.site r l.to (output_of w before).rows) (routed_to w.site r l.to f.rest),
      )

  -- what was put is the first of the chunks
  pub puts_first : (rest : List (List ℕ)) × (put_on l.motion l.to c.steps ++ rest ≡ chunks_for w c.steps l.to)
  puts_first = by (last_of c.steps)
    where
      by : (c.steps ≡ []) ⊎ ((init : List Step) × (s : Step) × (c.steps ≡ init ++ s ∷ [])) → (rest : List (List ℕ)) × (put_on l.motion l.to c.steps ++ rest ≡ chunks_for w c.steps l.to)
      by (inl e) = (chunks_for w c.steps l.to, ap (λ ss. put_on l.motion l.to ss ++ chunks_for w c.steps l.to) e)
      by (inr k) =
          let p : IsPrefix (put_on l.motion l.to (k.0 ++ k.1 ∷ [])) (chunks_for w k.0 l.to) = All-in (λ (x : Link). IsPrefix (put_on x.motion x.to (k.0 ++ k.1 ∷ [])) (chunks_for w k.0 x.to)) l (sending w) (run.puts k.0 k.1 [] k.2) there in
          let m = chunks_more k.0 (k.1 ∷ []) k.2 in
          (p.0 ++ m.0, ap (λ ss. put_on l.motion l.to ss ++ (p.0 ++ m.0)) k.2 ∙ sym (append_assoc (put_on l.motion l.to (k.0 ++ k.1 ∷ [])) p.0 m.0) ∙ ap (λ x. x ++ m.0) (sym p.1) ∙ sym m.1)

  ends_with : (before : List Step) (s : Step) (after : List Step) → c.steps ≡ before ++ s ∷ after → EndsWith w before s l
  ends_with before s after e = All-in (EndsWith w before s) l (sending w) (run.finishes before s after e) there

  -- nothing is put after the end
  none_after : (before after : List Step) → c.steps ≡ before ++ after → finished_on l.motion l.to before ≡ true → put_on l.motion l.to after ≡ []
  none_after before [] e h = refl
  none_after before (s ∷ after) e h =
      let n = ends_with before s after e in
      let quiet = by (sends_on l.motion l.to s.entry.ask) refl n.last in
      let now : finished_on l.motion l.to (before ++ s ∷ []) ≡ true = list_any-append (finishes l.motion l.to) before (s ∷ []) ∙ ap (λ b. b || list_any (finishes l.motion l.to) (s ∷ [])) h in
      ap (λ x. x ++ put_on l.motion l.to after) (no_chunk (is_done s.entry.reply) (chunk_of l.motion l.to s.entry.ask) (silent l.motion l.to s.entry.ask quiet))
      ∙ none_after (before ++ s ∷ []) after (e ∙ sym (append_assoc before (s ∷ []) after)) now
    where
      by : (b : Bool) → sends_on l.motion l.to s.entry.ask ≡ b → (sends_on l.motion l.to s.entry.ask ≡ true → finished_on l.motion l.to before ≡ false) → sends_on l.motion l.to s.entry.ask ≡ false
      by true q f = absurd (differ (sym (f q) ∙ h))
      by false q f = q

  -- if it finished, its output has ended and all chunks were put
  pub finished_all : finished_on l.motion l.to c.steps ≡ true → ((output_of w c.steps).ended ≡ true) × (put_on l.motion l.to c.steps ≡ chunks_for w c.steps l.to)
  finished_all h =
      let k = found (finishes l.motion l.to) c.steps h in
      let n = ends_with k.0 k.1 k.2 k.3 in
      let f = grows k.0 (k.1 ∷ k.2) k.3 in
      let o = f.ended (n.ended k.4) in
      let r = route_in w.tree w.slice in
      let same : (output_of w c.steps).rows ≡ (output_of w k.0).rows = f.longer ∙ ap (λ x. (output_of w k.0).rows ++ x) o.1 ∙ append-nil (output_of w k.0).rows in
      let chunks : chunks_for w c.steps l.to ≡ chunks_for w k.0 l.to = ap (λ rows. cut w.packet (routed_to w.site r l.to rows)) same in
      let here : chunk_in l.motion l.to k.1 ≡ [] = no_chunk (is_done k.1.entry.reply) (chunk_of l.motion l.to k.1.entry.ask) (ends_silent l.motion l.to k.1.entry.ask (both (is_done k.1.entry.reply) (ends_on l.motion l.to k.1.entry.ask) k.4).1) in
      let now : finished_on l.motion l.to (k.0 ++ k.1 ∷ []) ≡ true = list_any-append (finishes l.motion l.to) k.0 (k.1 ∷ []) ∙ ap (λ b. finished_on l.motion l.to k.0 || (b || false)) k.4 ∙ or_true (finished_on l.motion l.to k.0) in
      let later = none_after (k.0 ++ k.1 ∷ []) k.2 (k.3 ∙ sym (append_assoc k.0 (k.1 ∷ []) k.2)) now in
      let puts : put_on l.motion l.to c.steps ≡ put_on l.motion l.to k.0 =
      ap (put_on l.motion l.to) k.3 ∙ flat_map-append (chunk_in l.motion l.to) k.0 (k.1 ∷ k.2)
      ∙ ap (λ x. put_on l.motion l.to k.0 ++ (x ++ put_on l.motion l.to k.2)) here ∙ ap (λ x. put_on l.motion l.to k.0 ++ x) later ∙ append-nil (put_on l.motion l.to k.0) in
      (o.0, puts ∙ sym (n.all k.4) ∙ sym chunks)
    where
      or_true : (b : Bool) → (b || true) ≡ true
      or_true true = refl
      or_true false = refl
