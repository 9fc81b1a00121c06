-- What a worker took, by its steps: the rows of each sender, and what more steps add.
use Rattle.std.proofs.Common.{◌≡◌, ℕ, ℤ, List, [], ◌∷◌, ◌++◌, Bool, true, false, ◌&&◌, ◌||◌, cond, refl, ap, sym, ◌∙◌, subst, inl, inr, ◌⊎◌, append_assoc, append-nil}
use Rattle.std.specs.Prelude.{Contains}
use Rattle.std.specs.List.{AllByRecursion, list_any, flat_map}
use Rattle.std.specs.Ordering.{int_eq}
use Rattle.std.proofs.lemmas.Bool.Decides.{Decides-int_eq}
use Rattle.ic_base.specs.declared.datagram.Parcel.{Parcel}
use Rattle.ic_base.specs.declared.port.PortReply.{PortReply}
use Rattle.ic_base.specs.declared.port.PortReply.TheVariants as reply
use Rattle.ic_chunk.specs.Assembly.{Assembles}
use Rattle.ic_chunk.proofs.Lists.{all_both, all_front, all_back}
use Rattle.ic_chunk.proofs.OneWay.{one_assembly}
use Rattle.ic_law.specs.Taking.{parcels_from, is_last_parcel}
use Rattle.ic_law.proofs.Lists.{flat_map-append, flat_map-push}
use Rattle.pl_ops.specs.Rows.{Line}
use Rattle.pl_mean.specs.Outputs.{Came, came_from}
use Rattle.pl_answers.specs.Growing.{AreFrom}
use Rattle.pl_answers.proofs.Growth.{came_join}
use Rattle.gd_answer.proofs.Takes.{parcels_from-append}
use Rattle.pl_runs.specs.Steps.{Step, takes_of, parcels_by, parcels_in, parcels_of, came_by, came_in, ends_stream}
use Rattle.pl_runs.specs.Runs.{Every}
use Rattle.pl_runs.specs.Logs.{payloads_from, payload_from, LetsOut, completes, spoils, IsRead}

-- ---- every step

-- what each step keeps, all of them have
pub fold_steps : (P : List Step → Step → Type 0) (C : List Step → Type 0) (steps : List Step)
    → C [] → ((before : List Step) (s : Step) (after : List Step) → steps ≡ before ++ s ∷ after → P before s → C before → C (before ++ s ∷ [])) → Every P steps → C steps
fold_steps P C steps none step every = go [] steps none refl
  where
    go : (before after : List Step) → C before → steps ≡ before ++ after → C steps
    go before [] c at = subst C (sym (at ∙ append-nil before)) c
    go before (s ∷ after) c at = go (before ++ s ∷ []) after (step before s after at (every before s after at) c) (at ∙ sym (append_assoc before (s ∷ []) after))

-- ---- rows of one sender

came_same : (a : ℤ) (p : Parcel) (rows : List Line) → int_eq p.from a ≡ true → came_from a (came_by rows p) ≡ rows
came_same a p [] e = refl
came_same a p (row ∷ rows) e = ap (λ b. cond b (row ∷ came_from a (came_by rows p)) (came_from a (came_by rows p))) e ∙ ap (λ l. row ∷ l) (came_same a p rows e)

came_other : (a : ℤ) (p : Parcel) (rows : List Line) → int_eq p.from a ≡ false → came_from a (came_by rows p) ≡ []
came_other a p [] e = refl
came_other a p (row ∷ rows) e = ap (λ b. cond b (row ∷ came_from a (came_by rows p)) (came_from a (came_by rows p))) e ∙ came_other a p rows e

payloads_same : (a : ℤ) (before : List Parcel) (p : Parcel) → int_eq p.from a ≡ true → payloads_from a (before ++ p ∷ []) ≡ payloads_from a before ++ p.payload ∷ []
payloads_same a before p e = flat_map-append (payload_from a) before (p ∷ []) ∙ ap (λ b. payloads_from a before ++ (cond b (p.payload ∷ []) [] ++ [])) e

payloads_other : (a : ℤ) (before : List Parcel) (p : Parcel) → int_eq p.from a ≡ false → payloads_from a (before ++ p ∷ []) ≡ payloads_from a before
payloads_other a before p e = flat_map-append (payload_from a) before (p ∷ []) ∙ ap (λ b. payloads_from a before ++ (cond b (p.payload ∷ []) [] ++ [])) e ∙ append-nil (payloads_from a before)

test_cases : (a b : ℤ) → ((int_eq a b ≡ true) × (a ≡ b)) ⊎ (int_eq a b ≡ false)
test_cases a b = by (int_eq a b) (Decides-int_eq a b).0
  where
    by : (t : Bool) → (t ≡ true → a ≡ b) → ((t ≡ true) × (a ≡ b)) ⊎ (t ≡ false)
    by true f = inl (refl, f refl)
    by false f = inr refl

-- the rows that came of a sender are those to which its payloads assemble
abbrev Reads : ℕ → ℤ → List Step → Type 0
Reads motion a steps = (rows : List Line) (rest : List ℕ) (ended : Bool) → Assembles (payloads_from a (parcels_of motion steps)) rows rest ended → came_from a (flat_map (came_in motion) steps) ≡ rows

-- one parcel more
module _ (motion : ℕ) (a : ℤ) (before : List Step) (p : Parcel) (old : Reads motion a before) where
  one_more : (given : List Line) → LetsOut motion before p given → (rows : List Line) (rest : List ℕ) (ended : Bool) → Assembles (payloads_from a (parcels_of motion before ++ p ∷ [])) rows rest ended
      → came_from a (flat_map (came_in motion) before ++ came_by given p) ≡ rows
  one_more other (completes given comp) rows rest ended h = by (test_cases p.from a)
    where
      by : ((int_eq p.from a ≡ true) × (p.from ≡ a)) ⊎ (int_eq p.from a ≡ false) → came_from a (flat_map (came_in motion) before ++ came_by given p) ≡ rows
      by (inl e) =
          let was : Assembles (payloads_from a (parcels_of motion before)) comp.done comp.rest comp.ended = subst (λ s. Assembles (payloads_from s (parcels_of motion before)) comp.done comp.rest comp.ended) e.1 comp.was in
          let is : Assembles (payloads_from a (parcels_of motion before) ++ p.payload ∷ []) (comp.done ++ given) comp.rest_now comp.ended_now = subst (λ s. Assembles (payloads_from s (parcels_of motion before) ++ p.payload ∷ []) (comp.done ++ given) comp.rest_now comp.ended_now) e.1 comp.is in
          let now : Assembles (payloads_from a (parcels_of motion before) ++ p.payload ∷ []) rows rest ended = subst (λ l. Assembles l rows rest ended) (payloads_same a (parcels_of motion before) p e.0) h in
          came_join a (flat_map (came_in motion) before) (came_by given p)
          ∙ ap (λ l. came_from a (flat_map (came_in motion) before) ++ l) (came_same a p given e.0)
          ∙ ap (λ l. l ++ given) (old comp.done comp.rest comp.ended was)
          ∙ (one_assembly (payloads_from a (parcels_of motion before) ++ p.payload ∷ []) (comp.done ++ given) rows comp.rest_now rest comp.ended_now ended is now).0
      by (inr e) =
          came_join a (flat_map (came_in motion) before) (came_by given p)
          ∙ ap (λ l. came_from a (flat_map (came_in motion) before) ++ l) (came_other a p given e)
          ∙ append-nil (came_from a (flat_map (came_in motion) before))
          ∙ old rows rest ended (subst (λ l. Assembles l rows rest ended) (payloads_other a (parcels_of motion before) p e) h)
  one_more [] (spoils bad) rows rest ended h = by (test_cases p.from a)
    where
      by : ((int_eq p.from a ≡ true) × (p.from ≡ a)) ⊎ (int_eq p.from a ≡ false) → came_from a (flat_map (came_in motion) before ++ []) ≡ rows
      by (inl e) =
          let now : Assembles (payloads_from a (parcels_of motion before) ++ p.payload ∷ []) rows rest ended = subst (λ l. Assembles l rows rest ended) (payloads_same a (parcels_of motion before) p e.0) h in
          absurd (bad (record { rows = rows; rest = rest; ended = ended; assemble = subst (λ s. Assembles (payloads_from s (parcels_of motion before) ++ p.payload ∷ []) rows rest ended) (sym e.1) now }))
      by (inr e) =
          ap (came_from a) (append-nil (flat_map (came_in motion) before)) ∙ old rows rest ended (subst (λ l. Assembles l rows rest ended) (payloads_other a (parcels_of motion before) p e) h)

-- one step more
module _ (motion : ℕ) (a : ℤ) (before : List Step) (s : Step) (read : IsRead before s) (old : Reads motion a before) where
  parcels_push : parcels_of motion (before ++ s ∷ []) ≡ parcels_of motion before ++ parcels_in motion s
  parcels_push = flat_map-push (parcels_in motion) before s

  came_push : flat_map (came_in motion) (before ++ s ∷ []) ≡ flat_map (came_in motion) before ++ came_in motion s
  came_push = flat_map-push (came_in motion) before s

  none_more : parcels_in motion s ≡ [] → Reads motion a (before ++ s ∷ [])
  none_more e rows rest ended h =
      ap (came_from a) (came_push ∙ ap (λ l. flat_map (came_in motion) before ++ flat_map (came_by s.rows) l) e ∙ append-nil (flat_map (came_in motion) before))
      ∙ old rows rest ended (subst (λ l. Assembles (payloads_from a l) rows rest ended) (parcels_push ∙ ap (λ l. parcels_of motion before ++ l) e ∙ append-nil (parcels_of motion before)) h)

  some_more : (p : Parcel) → LetsOut motion before p s.rows → parcels_in motion s ≡ p ∷ [] → Reads motion a (before ++ s ∷ [])
  some_more p lets e rows rest ended h =
      ap (came_from a) (came_push ∙ ap (λ l. flat_map (came_in motion) before ++ flat_map (came_by s.rows) l) e ∙ ap (λ l. flat_map (came_in motion) before ++ l) (append-nil (came_by s.rows p)))
      ∙ one_more motion a before p old s.rows lets rows rest ended (subst (λ l. Assembles (payloads_from a l) rows rest ended) (parcels_push ∙ ap (λ l. parcels_of motion before ++ l) e) h)

  step_more : Reads motion a (before ++ s ∷ [])
  step_more = by (takes_of motion s.entry.ask) s.entry.reply refl refl
    where
      by : (b : Bool) (r : PortReply) → takes_of motion s.entry.ask ≡ b → s.entry.reply ≡ r → Reads motion a (before ++ s ∷ [])
      by false r e f = none_more (ap (λ b. cond b (parcels_by s.entry.reply) []) e)
      by true (reply.Gave p) e f = some_more p (read.took motion p e (ap parcels_by f)) (ap (λ b. cond b (parcels_by s.entry.reply) []) e ∙ ap parcels_by f)
      by true reply.Did e f = none_more (ap (λ b. cond b (parcels_by s.entry.reply) []) e ∙ ap parcels_by f)
      by true (reply.Refused why) e f = none_more (ap (λ b. cond b (parcels_by s.entry.reply) []) e ∙ ap parcels_by f)

pub came_rows : (motion : ℕ) (a : ℤ) (steps : List Step) → Every IsRead steps → (rows : List Line) (rest : List ℕ) (ended : Bool) → Assembles (payloads_from a (parcels_of motion steps)) rows rest ended → came_from a (flat_map (came_in motion) steps) ≡ rows
came_rows motion a steps read = fold_steps IsRead (Reads motion a) steps none (λ before s after at r old. step_more motion a before s r old) read
  where
    none : Reads motion a []
    none rows rest ended h = (one_assembly [] [] rows [] rest false ended nothing h).0
      where
        nothing : Assembles [] [] [] false
        nothing = record {
          chunks = [];
          are = refl;
          front = record { parts = []; groups = []; pending = []; all = refl; each = tt; read = refl; whole = tt; spell = tt; begun = tt; left = refl; between = λ e. refl };
        }

-- ---- senders

from_by : (gang : List ℤ) (p : Parcel) (rows : List Line) → Contains gang p.from → AreFrom gang (came_by rows p)
from_by gang p [] h = tt
from_by gang p (row ∷ rows) h = (h, from_by gang p rows h)

from_parcels : (gang : List ℤ) (rows : List Line) (ps : List Parcel) → AllByRecursion (λ (p : Parcel). Contains gang p.from) ps → AreFrom gang (flat_map (came_by rows) ps)
from_parcels gang rows [] h = tt
from_parcels gang rows (p ∷ ps) h = all_both (λ (c : Came). Contains gang c.from) (came_by rows p) (flat_map (came_by rows) ps) (from_by gang p rows h.0) (from_parcels gang rows ps h.1)

pub from_steps : (motion : ℕ) (gang : List ℤ) (steps : List Step) → AllByRecursion (λ (p : Parcel). Contains gang p.from) (parcels_of motion steps) → AreFrom gang (flat_map (came_in motion) steps)
from_steps motion gang [] h = tt
from_steps motion gang (s ∷ steps) h =
    all_both (λ (c : Came). Contains gang c.from) (came_in motion s) (flat_map (came_in motion) steps)
    (from_parcels gang s.rows (parcels_in motion s) (all_front (λ (p : Parcel). Contains gang p.from) (parcels_in motion s) (parcels_of motion steps) h))
    (from_steps motion gang steps (all_back (λ (p : Parcel). Contains gang p.from) (parcels_in motion s) (parcels_of motion steps) h))

-- ---- ends

-- whose end was taken
pub whole_is : (a : ℤ) (ps : List Parcel) → list_any (ends_stream a) ps ≡ list_any is_last_parcel (parcels_from a ps)
whole_is a [] = refl
whole_is a (p ∷ ps) = by (int_eq p.from a) (whole_is a ps)
  where
    by : (b : Bool) → list_any (ends_stream a) ps ≡ list_any is_last_parcel (parcels_from a ps) → ((p.last && b) || list_any (ends_stream a) ps) ≡ list_any is_last_parcel (cond b (p ∷ parcels_from a ps) (parcels_from a ps))
    by true e = ap (λ x. x || list_any (ends_stream a) ps) (and_true p.last) ∙ ap (λ x. p.last || x) e
      where
        and_true : (b : Bool) → (b && true) ≡ b
        and_true true = refl
        and_true false = refl
    by false e = ap (λ x. x || list_any (ends_stream a) ps) (and_false p.last) ∙ e
      where
        and_false : (b : Bool) → (b && false) ≡ false
        and_false true = refl
        and_false false = refl

-- parcels of no other sender give no rows of this one
none_by : (a : ℤ) (rows : List Line) (ps : List Parcel) → parcels_from a ps ≡ [] → came_from a (flat_map (came_by rows) ps) ≡ []
none_by a rows [] h = refl
none_by a rows (p ∷ ps) h = by (int_eq p.from a) refl h (none_by a rows ps)
  where
    by : (b : Bool) → int_eq p.from a ≡ b → cond b (p ∷ parcels_from a ps) (parcels_from a ps) ≡ [] → (parcels_from a ps ≡ [] → came_from a (flat_map (came_by rows) ps) ≡ []) → came_from a (came_by rows p ++ flat_map (came_by rows) ps) ≡ []
    by true e k ih = absurd (cc)
    by false e k ih = came_join a (came_by rows p) (flat_map (came_by rows) ps) ∙ ap (λ l. l ++ came_from a (flat_map (came_by rows) ps)) (came_other a p rows e) ∙ ih k

both_nil : {A : Type 0} (xs ys : List A) → xs ++ ys ≡ [] → (xs ≡ []) × (ys ≡ [])
both_nil [] ys h = (refl, h)
both_nil (x ∷ xs) ys h = absurd (cc)

pub none_came : (motion : ℕ) (a : ℤ) (steps : List Step) → parcels_from a (parcels_of motion steps) ≡ [] → came_from a (flat_map (came_in motion) steps) ≡ []
none_came motion a [] h = refl
none_came motion a (s ∷ steps) h =
    let t = both_nil (parcels_from a (parcels_in motion s)) (parcels_from a (parcels_of motion steps)) (sym (parcels_from-append a (parcels_in motion s) (parcels_of motion steps)) ∙ h) in
    came_join a (came_in motion s) (flat_map (came_in motion) steps)
    ∙ ap (λ l. l ++ came_from a (flat_map (came_in motion) steps)) (none_by a s.rows (parcels_in motion s) t.0)
    ∙ none_came motion a steps t.1
