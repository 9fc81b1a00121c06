-- How a gatherer matches the log, at first and after each turn.
use Rattle.std.proofs.Common.{◌≡◌, ◌≢◌, ℕ, zero, suc, ◌+◌, ◌<◌, ℤ, pos, negsuc, List, [], ◌∷◌, ◌++◌, length, get_or, set, replicate, Bool, true, false, ◌==◌, cond, Option, Some, None, IsSome, Result, Ok, Err, refl, ap, sym, ◌∙◌, subst, arith, inl, inr, ◌⊎◌, append-nil, get_or-set_same, get_or-set_other}
use Rattle.std.proofs.lemmas.List.{get_or-replicate, length-replicate, length-set}
use Rattle.std.proofs.lemmas.List.Concat.{flat_map-append}
use Rattle.std.proofs.lemmas.List.Quantifiers.{Any-push}
use Rattle.std.proofs.lemmas.Bool.Decides.{Decides-int_eq, Decides-eqb, eqb_tells}
use Rattle.std.specs.List.{All, Any, flat_map}
use Rattle.std.specs.Ordering.{int_eq}
use Rattle.ic_base.specs.declared.datagram.Parcel.{Parcel}
use Rattle.ic_base.specs.declared.keys.ConnEnd.{ConnEnd}
use Rattle.ic_base.specs.declared.port.PortNo.{PortNo}
use Rattle.ic_base.specs.declared.port.PortNo.TheVariants.{Full, Empty, Stopped, Ended, TooLong, Busy, Memory}
use Rattle.ic_base.specs.declared.port.PortAsk.{PortAsk}
use Rattle.ic_base.specs.declared.port.PortAsk.TheVariants.{Put, Finish, Take, TakeFrom, Halt}
use Rattle.ic_base.specs.declared.port.PortReply.{PortReply}
use Rattle.ic_base.specs.declared.port.PortReply.TheVariants.{Did, Gave, Refused}
use Rattle.ic_base.specs.declared.port.PortEntry.{PortEntry}
use Rattle.ic_base.specs.Ports.{gave, added, logged}
use Rattle.ic_row.specs.declared.value.Value.{Value}
use Rattle.ic_chunk.specs.Assembly.{Assembles, IsFront, IsStream}
use Rattle.ic_chunk.specs.Joining.{Held, Stands}
use Rattle.gd_work.specs.declared.course.Turned.{Turned}
use Rattle.gd_work.specs.declared.course.Turned.TheVariants as turned
use Rattle.gd_work.specs.declared.course.WorkNo.{WorkNo}
use Rattle.gd_work.specs.declared.course.WorkNo.TheVariants as why
use Rattle.gd_work.specs.declared.course.Course.{Course}
use Rattle.gd_work.specs.declared.course.Course.TheVariants as courses
use Rattle.gd_work.specs.Turns.{course_behind}
use Rattle.gd_work.specs.Taking.{IsOf, IsUntaken, parcel_by, parcel_in, parcels_of, IsEnd, payload_in, payloads_from, Completes, LetsOut, nothing, completes, spoils, fresh_streams, fresh, sender_at, place_of, IsFine, IsHeld, Lets, Feeds, Spoils, IsAmong, Gains, refused, TakesBy, Takes}
use Rattle.gd_work.proofs.Sent.{any_more}

-- ---- entries

parcel_off : (motion : ℕ) (ask : PortAsk) (reply : PortReply) → (IsOf motion ask → ⊥) → parcel_by motion ask reply ≡ []
parcel_off motion (Take m) (Gave p) off = elim (eqb_tells m motion) [ inl w ↦ absurd (off w.1) | inr w ↦ ap (λ b. cond b (p ∷ []) []) w.0 ]
parcel_off motion (TakeFrom m sender) (Gave p) off = elim (eqb_tells m motion) [ inl w ↦ absurd (off w.1) | inr w ↦ ap (λ b. cond b (p ∷ []) []) w.0 ]
parcel_off motion (Take m) Did off = refl
parcel_off motion (Take m) (Refused no_) off = refl
parcel_off motion (TakeFrom m sender) Did off = refl
parcel_off motion (TakeFrom m sender) (Refused no_) off = refl
parcel_off motion (Put m to chunk) reply off = refl
parcel_off motion (Finish m to) reply off = refl
parcel_off motion (Halt m sender) reply off = refl

parcel_on : (motion : ℕ) (p : Parcel) → parcel_by motion (Take motion) (Gave p) ≡ p ∷ []
parcel_on motion p = ap (λ b. cond b (p ∷ []) []) ((Decides-eqb motion motion).1 refl)

parcels-off : (motion : ℕ) (log : List PortEntry) → IsUntaken motion log → parcels_of motion log ≡ []
parcels-off motion [] off = refl
parcels-off motion (e ∷ log) off =
    ap (λ l. l ++ parcels_of motion log) (parcel_off motion e.ask e.reply (off 0 e (omega arith))) ∙ parcels-off motion log (λ k d lt. off (suc k) d (omega (arith, lt)))

parcels-more : (motion : ℕ) (log : List PortEntry) (e : PortEntry) → parcels_of motion (log ++ e ∷ []) ≡ parcels_of motion log ++ parcel_in motion e
parcels-more motion log e = flat_map-append (parcel_in motion) log (e ∷ []) ∙ ap (λ l. parcels_of motion log ++ l) (append-nil (parcel_in motion e))

parcels-none : (motion : ℕ) (log : List PortEntry) (e : PortEntry) → parcel_in motion e ≡ [] → parcels_of motion (log ++ e ∷ []) ≡ parcels_of motion log
parcels-none motion log e none = parcels-more motion log e ∙ ap (λ l. parcels_of motion log ++ l) none ∙ append-nil (parcels_of motion log)

no_end : (motion : ℕ) (log : List PortEntry) → IsUntaken motion log → Any (IsEnd motion) log → ⊥
no_end motion log off (k, e, lt, is, w) = off k e lt (subst (λ x. IsOf motion x.ask) (sym is) (subst (IsOf motion) (sym w.0) refl))

-- ---- payloads

pub payloads-same : (sender : ℤ) (before : List Parcel) (p : Parcel) → p.from ≡ sender → payloads_from sender (before ++ p ∷ []) ≡ payloads_from sender before ++ p.payload ∷ []
payloads-same sender before p is =
    flat_map-append (payload_in sender) before (p ∷ [])
    ∙ ap (λ l. payloads_from sender before ++ l) (append-nil (payload_in sender p) ∙ ap (λ b. cond b (p.payload ∷ []) []) ((Decides-int_eq p.from sender).1 is))

pub payloads-other : (sender : ℤ) (before : List Parcel) (p : Parcel) → (p.from ≡ sender → ⊥) → payloads_from sender (before ++ p ∷ []) ≡ payloads_from sender before
payloads-other sender before p ne =
    flat_map-append (payload_in sender) before (p ∷ [])
    ∙ ap (λ l. payloads_from sender before ++ l) (append-nil (payload_in sender p) ∙ ap (λ b. cond b (p.payload ∷ []) []) (not_same (int_eq p.from sender) refl))
    ∙ append-nil (payloads_from sender before)
  where
    not_same : (b : Bool) → int_eq p.from sender ≡ b → int_eq p.from sender ≡ false
    not_same true is = absurd (ne ((Decides-int_eq p.from sender).0 is))
    not_same false is = is

sender_at-other : (j k : ℕ) → j ≢ k → sender_at k ≡ sender_at j → ⊥
sender_at-other zero zero ne is = ne refl
sender_at-other zero (suc k) ne is = cc
sender_at-other (suc j) zero ne is = cc
sender_at-other (suc j) (suc k) ne is = let same : k ≡ j = cc in ne (ap suc (sym same))

-- the empty list of payloads is the front of a stream
pub nothing_assembles : Assembles [] [] [] false
nothing_assembles = record {
  chunks = [];
  are = refl;
  front = record { parts = []; groups = []; pending = []; all = refl; each = tt; read = refl; whole = tt; spell = tt; begun = tt; left = refl; between = λ _. refl };
}

-- ---- at first

fresh_held : (place : ℕ) (d : Held) → place < length (fresh_streams 65) → get_or (fresh_streams 65) place d ≡ record { rest = []; ended = false }
fresh_held place d lt =
    let none : Held = record { rest = []; ended = false } in
    let many : length (fresh_streams 65) ≡ 65 = length-replicate 65 none in
    get_or-replicate 65 place none d (omega (arith, lt, many))

pub fresh_lets : (motion : ℕ) (streams : List Held) (rows : List (List Value)) (log : List PortEntry) → streams ≡ fresh_streams 65 → rows ≡ [] → IsUntaken motion log → Lets motion streams rows courses.Going log
fresh_lets motion streams rows log is none off =
    let parcels = parcels-off motion log off in
    record {
      lets_out = λ _. subst (λ l. LetsOut l rows) (sym parcels) (subst (LetsOut []) (sym none) nothing);
      held = λ _ place d lt.
          subst (λ l. IsHeld (get_or streams place d) (payloads_from (sender_at place) l)) (sym parcels)
          (subst (λ h. IsHeld h []) (sym (ap (λ l. get_or l place d) is ∙ fresh_held place d (subst (λ l. place < length l) is lt)))
          (record { rows = []; assemble = nothing_assembles }));
      malformed = λ sender bad. cc;
      done = λ bad. cc;
      going = λ _. no_end motion log off;
    }

-- ---- one turn

-- nothing of it changes except the log, by an entry without a parcel
same_lets : (motion : ℕ) (streams : List Held) (rows : List (List Value)) (log now : List PortEntry) (course : Course) → Lets motion streams rows courses.Going log
    → parcels_of motion now ≡ parcels_of motion log → (course ≡ courses.Done → Any (IsEnd motion) now) → (course ≢ courses.Done → Any (IsEnd motion) now → ⊥)
    → ((sender : ℤ) → course ≡ courses.Refused (why.Malformed sender) → ⊥) → Lets motion streams rows course now
same_lets motion streams rows log now course h same done going fine = record {
  lets_out = λ _. subst (λ l. LetsOut l rows) (sym same) (h.lets_out (λ x. cc));
  held = λ _ place d lt. subst (λ l. IsHeld (get_or streams place d) (payloads_from (sender_at place) l)) (sym same) (h.held tt place d lt);
  malformed = λ sender is. absurd (fine sender is);
  done = done;
  going = going;
}

open_ : (motion : ℕ) (streams : List Held) (rows : List (List Value)) (log : List PortEntry) → Lets motion streams rows courses.Going log → Any (IsEnd motion) log → ⊥
open_ motion streams rows log h = h.going (λ x. cc)

-- a take that was refused, except by Ended
refused_lets : (motion : ℕ) (streams : List Held) (rows : List (List Value)) (log : List PortEntry) (no_ : PortNo) (course : Course) → Lets motion streams rows courses.Going log
    → (no_ ≡ Ended → ⊥) → course ≢ courses.Done → ((sender : ℤ) → course ≡ courses.Refused (why.Malformed sender) → ⊥)
    → Lets motion streams rows course (log ++ record { ask = Take motion; reply = Refused no_ } ∷ [])
refused_lets motion streams rows log no_ course h other end fine =
    let e : PortEntry = record { ask = Take motion; reply = Refused no_ } in
    same_lets motion streams rows log (log ++ e ∷ []) course h (parcels-none motion log e refl) (λ is. absurd (end is))
    (λ _ any. elim (any_more (IsEnd motion) log e any) [ inl w ↦ open_ motion streams rows log h w | inr w ↦ other (same w.1) ]) fine
  where
    same : Refused no_ ≡ Refused Ended → no_ ≡ Ended
    same x = cc

silent_lets : (motion : ℕ) (streams : List Held) (rows : List (List Value)) (log : List PortEntry) (course : Course) → Lets motion streams rows courses.Going log
    → course ≢ courses.Done → ((sender : ℤ) → course ≡ courses.Refused (why.Malformed sender) → ⊥) → Lets motion streams rows course (log ++ [])
silent_lets motion streams rows log course h end fine =
    same_lets motion streams rows log (log ++ []) course h (ap (parcels_of motion) (append-nil log)) (λ is. absurd (end is))
    (λ _ any. open_ motion streams rows log h (subst (Any (IsEnd motion)) (append-nil log) any)) fine

after_refusal : (motion : ℕ) (streams : List Held) (rows : List (List Value)) (log : List PortEntry) (no_ : PortNo) → Lets motion streams rows courses.Going log
    → Lets motion streams rows (course_behind (refused no_)) (logged (Take motion) (Refused no_) log)
after_refusal motion streams rows log Full h = refused_lets motion streams rows log Full (course_behind (refused Full)) h (λ x. cc) (λ x. cc) (λ s x. cc)
after_refusal motion streams rows log Empty h = refused_lets motion streams rows log Empty courses.Going h (λ x. cc) (λ x. cc) (λ s x. cc)
after_refusal motion streams rows log Stopped h = refused_lets motion streams rows log Stopped (course_behind (refused Stopped)) h (λ x. cc) (λ x. cc) (λ s x. cc)
after_refusal motion streams rows log Ended h =
    let e : PortEntry = record { ask = Take motion; reply = Refused Ended } in
    same_lets motion streams rows log (log ++ e ∷ []) courses.Done h (parcels-none motion log e refl) (λ _. Any-push (IsEnd motion) log e (refl, refl)) (λ not_. absurd (not_ refl)) (λ s x. cc)
after_refusal motion streams rows log (TooLong key) h = refused_lets motion streams rows log (TooLong key) (course_behind (refused (TooLong key))) h (λ x. cc) (λ x. cc) (λ s x. cc)
after_refusal motion streams rows log Busy h = silent_lets motion streams rows log courses.Going h (λ x. cc) (λ s x. cc)
after_refusal motion streams rows log Memory h = silent_lets motion streams rows log (course_behind (refused Memory)) h (λ x. cc) (λ s x. cc)

-- ---- one parcel

taken_entry : ℕ → Parcel → PortEntry
taken_entry motion p = record { ask = Take motion; reply = Gave p }

no_more_end : (motion : ℕ) (streams : List Held) (rows : List (List Value)) (log : List PortEntry) (p : Parcel) → Lets motion streams rows courses.Going log → Any (IsEnd motion) (log ++ taken_entry motion p ∷ []) → ⊥
unfolding taken_entry
no_more_end motion streams rows log p h any = elim (any_more (IsEnd motion) log (taken_entry motion p) any) [ inl w ↦ open_ motion streams rows log h w | inr w ↦ no_refusal w.1 ]
  where
    no_refusal : Gave p ≡ Refused Ended → ⊥
    no_refusal x = cc

parcels-taken : (motion : ℕ) (log : List PortEntry) (p : Parcel) → parcels_of motion (log ++ taken_entry motion p ∷ []) ≡ parcels_of motion log ++ p ∷ []
unfolding taken_entry
parcels-taken motion log p = parcels-more motion log (taken_entry motion p) ∙ ap (λ l. parcels_of motion log ++ l) (parcel_on motion p)

-- what was held of its sender
held_of : (motion : ℕ) (streams : List Held) (rows : List (List Value)) (log : List PortEntry) (p : Parcel) (d : Held) → Lets motion streams rows courses.Going log → IsAmong p.from streams
    → IsHeld (get_or streams (place_of p.from) d) (payloads_from p.from (parcels_of motion log))
held_of motion streams rows log p d h among =
    subst (λ s. IsHeld (get_or streams (place_of p.from) d) (payloads_from s (parcels_of motion log))) (sym among.0) (h.held tt (place_of p.from) d among.1)

moved_lets : (motion : ℕ) (old new : List Held) (rows more : List (List Value)) (log : List PortEntry) (p : Parcel) → Lets motion old rows courses.Going log → Gains p old new rows more (Ok turned.Moved)
    → Lets motion new more courses.Going (log ++ taken_entry motion p ∷ [])
moved_lets motion old new rows more log p h (among, held, given, written, grown, feeds) =
    let parcels = parcels_of motion log in
    let was = held_of motion old rows log p held h among in
    let goes : Assembles (payloads_from p.from parcels ++ p.payload ∷ []) (was.rows ++ given) held.rest held.ended = feeds held (payloads_from p.from parcels) was.rows was.assemble in
    let is : Assembles (payloads_from p.from (parcels ++ p ∷ [])) (was.rows ++ given) held.rest held.ended =
    subst (λ l. Assembles l (was.rows ++ given) held.rest held.ended) (sym (payloads-same p.from parcels p refl)) goes in
    record {
      lets_out = λ _.
          subst (λ l. LetsOut l more) (sym (parcels-taken motion log p)) (subst (LetsOut (parcels ++ p ∷ [])) (sym grown)
          (completes parcels p rows given (h.lets_out (λ x. cc))
          (record { done = was.rows; rest = (get_or old (place_of p.from) held).rest; ended = (get_or old (place_of p.from) held).ended; now_rest = held.rest; now_ended = held.ended; was = was.assemble; is = is })));
      held = λ _ place d lt.
          subst (λ l. IsHeld (get_or new place d) (payloads_from (sender_at place) l)) (sym (parcels-taken motion log p))
          (subst (λ l. IsHeld (get_or l place d) (payloads_from (sender_at place) (parcels ++ p ∷ []))) (sym written)
          (at place d (subst (λ l. place < length l) written lt) was.rows is));
      malformed = λ sender bad. cc;
      done = λ bad. cc;
      going = λ _. no_more_end motion old rows log p h;
    }
  where
    at : (place : ℕ) (d : Held) → place < length (set old (place_of p.from) held) → (done : List (List Value))
        → Assembles (payloads_from p.from (parcels_of motion log ++ p ∷ [])) (done ++ given) held.rest held.ended
        → IsHeld (get_or (set old (place_of p.from) held) place d) (payloads_from (sender_at place) (parcels_of motion log ++ p ∷ []))
    at place d lt done is =
        elim (eqb_tells place (place_of p.from)) [
          | inl w ↦
              let here : get_or (set old (place_of p.from) held) place d ≡ held = ap (λ k. get_or (set old (place_of p.from) held) k d) w.1 ∙ get_or-set_same old (place_of p.from) held d among.1 in
              let sender : p.from ≡ sender_at place = among.0 ∙ ap sender_at (sym w.1) in
              subst (λ x. IsHeld x (payloads_from (sender_at place) (parcels_of motion log ++ p ∷ []))) (sym here)
              (subst (λ s. IsHeld held (payloads_from s (parcels_of motion log ++ p ∷ []))) sender (record { rows = done ++ given; assemble = is }))
          | inr w ↦
              let there : get_or (set old (place_of p.from) held) place d ≡ get_or old place d = get_or-set_other old (place_of p.from) place held d w.1 in
              let same : payloads_from (sender_at place) (parcels_of motion log ++ p ∷ []) ≡ payloads_from (sender_at place) (parcels_of motion log) =
              payloads-other (sender_at place) (parcels_of motion log) p (λ from. sender_at-other place (place_of p.from) w.1 (sym among.0 ∙ from)) in
              subst (λ x. IsHeld x (payloads_from (sender_at place) (parcels_of motion log ++ p ∷ []))) (sym there)
              (subst (IsHeld (get_or old place d)) (sym same) (h.held tt place d (subst (λ n. place < n) (length-set old (place_of p.from) held) lt)))
        ]

malformed_lets : (motion : ℕ) (old new : List Held) (rows more : List (List Value)) (log : List PortEntry) (p : Parcel) (sender : ℤ) → Lets motion old rows courses.Going log
    → Gains p old new rows more (Err (why.Malformed sender)) → Lets motion new more (courses.Refused (why.Malformed sender)) (log ++ taken_entry motion p ∷ [])
malformed_lets motion old new rows more log p sender h (among, from, same, bad) =
    let parcels = parcels_of motion log in
    let d : Held = record { rest = []; ended = false } in
    let was = held_of motion old rows log p d h among in
    let no_stream : IsStream (payloads_from p.from (parcels ++ p ∷ [])) → ⊥ =
    λ stream. bad d (payloads_from p.from parcels) was.rows was.assemble (subst IsStream (payloads-same p.from parcels p refl) stream) in
    record {
      lets_out = λ _. subst (λ l. LetsOut l more) (sym (parcels-taken motion log p)) (subst (LetsOut (parcels ++ p ∷ [])) (sym same) (spoils parcels p rows (h.lets_out (λ x. cc)) no_stream));
      held = λ fine. absurd fine;
      malformed = λ who is stream.
          no_stream (subst (λ s. IsStream (payloads_from s (parcels ++ p ∷ []))) (sym (named who is) ∙ from)
          (subst (λ l. IsStream (payloads_from who l)) (parcels-taken motion log p) stream));
      done = λ is. cc;
      going = λ _. no_more_end motion old rows log p h;
    }
  where
    named : (who : ℤ) → courses.Refused (why.Malformed sender) ≡ courses.Refused (why.Malformed who) → sender ≡ who
    named who x = cc

after_parcel : (motion : ℕ) (old new : List Held) (rows more : List (List Value)) (log : List PortEntry) (p : Parcel) (result : Result Turned WorkNo) → Lets motion old rows courses.Going log
    → Gains p old new rows more result → Lets motion new more (course_behind result) (log ++ taken_entry motion p ∷ [])
after_parcel motion old new rows more log p (Ok turned.Moved) h gains = moved_lets motion old new rows more log p h gains
after_parcel motion old new rows more log p (Ok (turned.Waiting no_)) h gains = absurd gains
after_parcel motion old new rows more log p (Ok turned.Done) h gains = absurd gains
after_parcel motion old new rows more log p (Err (why.TooLong key)) h gains = absurd gains
after_parcel motion old new rows more log p (Err (why.Malformed sender)) h gains = malformed_lets motion old new rows more log p sender h gains
after_parcel motion old new rows more log p (Err why.Memory) h gains = record {
  lets_out = λ not_. absurd (not_ refl);
  held = λ fine. absurd fine;
  malformed = λ sender is. cc;
  done = λ is. cc;
  going = λ _. no_more_end motion old rows log p h;
}

after_take : (motion : ℕ) (old new : List Held) (rows more : List (List Value)) (log : List PortEntry) (result : Result Turned WorkNo) (answer : Result Parcel PortNo) → Lets motion old rows courses.Going log
    → TakesBy old new rows more result answer → Lets motion new more (course_behind result) (logged (Take motion) (gave answer) log)
unfolding taken_entry
after_take motion old new rows more log result (Ok p) h makes = after_parcel motion old new rows more log p result h makes
after_take motion old new rows more log result (Err no_) h (told, same, kept) =
    let w = after_refusal motion old rows log no_ h in
    subst (λ s. Lets motion s more (course_behind result) (logged (Take motion) (Refused no_) log)) (sym kept)
    (subst (λ l. Lets motion old l (course_behind result) (logged (Take motion) (Refused no_) log)) (sym same)
    (subst (λ r. Lets motion old rows (course_behind r) (logged (Take motion) (Refused no_) log)) (sym told) w))

pub lets_on : (motion : ℕ) (keys : List ConnEnd) (old new : List Held) (rows more : List (List Value)) (log now : List PortEntry) (was course : Course) (result : Result Turned WorkNo)
    → was ≡ courses.Going → course ≡ course_behind result → Takes keys motion log now old new rows more result → Lets motion old rows was log → Lets motion new more course now
lets_on motion keys old new rows more log now was course result going is takes h =
    let w = after_take motion old new rows more log result takes.answer (subst (λ c. Lets motion old rows c log) going h) takes.makes in
    subst (λ c. Lets motion new more c now) (sym is) (subst (Lets motion new more (course_behind result)) (sym takes.entry) w)
