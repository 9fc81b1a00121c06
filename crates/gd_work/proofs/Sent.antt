-- How a scanner matches the log, at first and after each turn.
use Rattle.std.proofs.Common.{◌≡◌, ◌≢◌, ℕ, zero, suc, ◌+◌, ◌<◌, ℤ, List, [], ◌∷◌, ◌++◌, length, map, take, drop, get_or, Bool, true, false, ◌&&◌, ◌==◌, cond, Option, Some, None, Result, Ok, Err, refl, ap, sym, ◌∙◌, subst, arith, inl, inr, ◌⊎◌, append_assoc, append-nil}
use Rattle.std.proofs.lemmas.List.Concat.{flat_map-append}
use Rattle.std.proofs.lemmas.List.Quantifiers.{Any-push}
use Rattle.std.proofs.lemmas.Bool.Decides.{Decides-int_eq, Decides-eqb}
use Rattle.std.specs.List.{All, Any, AllByRecursion, flat_map}
use Rattle.std.specs.Ordering.{int_eq}
use Rattle.ic_base.specs.declared.keys.ConnEnd.{ConnEnd}
use Rattle.ic_base.specs.declared.port.PortNo.{PortNo}
use Rattle.ic_base.specs.declared.port.PortNo.TheVariants.{Full, Empty, Stopped, Ended, TooLong, Busy, Memory}
use Rattle.ic_base.specs.declared.port.PortAsk.{PortAsk}
use Rattle.ic_base.specs.declared.port.PortAsk.TheVariants.{Put, Finish, Take, TakeFrom, Halt}
use Rattle.ic_base.specs.declared.port.PortReply.{PortReply}
use Rattle.ic_base.specs.declared.port.PortReply.TheVariants.{Did, Gave, Refused}
use Rattle.ic_base.specs.declared.port.PortEntry.{PortEntry}
use Rattle.ic_base.specs.Ports.{did, added, logged}
use Rattle.ic_row.specs.declared.value.Value.{Value}
use Rattle.ic_row.specs.Spelling.{IsRow}
use Rattle.gd_work.specs.declared.course.Turned.{Turned}
use Rattle.gd_work.specs.declared.course.WorkNo.{WorkNo}
use Rattle.gd_work.specs.declared.course.Course.{Course}
use Rattle.gd_work.specs.declared.course.Course.TheVariants as courses
use Rattle.gd_work.specs.declared.cutter.Cutter.{Cutter}
use Rattle.gd_work.specs.Turns.{course_behind, settled}
use Rattle.gd_work.specs.Cutting.{left_of, IsFirst}
use Rattle.gd_work.specs.Sending.{cut, IsOn, IsUntouched, put_by, put_in, puts_of, Finishes, IsFinished, Stops, Ends, Scanning, still, fresh, Same, Sends, Scans, next_ask, refused, moved, told, left_by, Puts}

-- ---- entries

both : (b : Bool) → b ≡ false → b ≡ true → ⊥
both true x y = cc
both false x y = cc

put_off : (motion : ℕ) (to : ℤ) (ask : PortAsk) (reply : PortReply) → (IsOn motion to ask → ⊥) → put_by motion to ask reply ≡ []
put_off motion to (Put m t chunk) Did off = by ((m == motion) && int_eq t to) refl
  where
    on : (a b : Bool) → (a && b) ≡ true → (a ≡ true) × (b ≡ true)
    on true b h = (refl, h)
    on false b h = cc

    by : (b : Bool) → ((m == motion) && int_eq t to) ≡ b → cond b (chunk ∷ []) [] ≡ []
    by true is = let w = on (m == motion) (int_eq t to) is in absurd (off ((Decides-eqb m motion).0 w.0, (Decides-int_eq t to).0 w.1))
    by false is = refl
put_off motion to (Put m t chunk) (Gave parcel) off = refl
put_off motion to (Put m t chunk) (Refused no_) off = refl
put_off motion to (Finish m t) reply off = refl
put_off motion to (Take m) reply off = refl
put_off motion to (TakeFrom m sender) reply off = refl
put_off motion to (Halt m sender) reply off = refl

put_on : (motion : ℕ) (to : ℤ) (chunk : List ℕ) → put_by motion to (Put motion to chunk) Did ≡ chunk ∷ []
put_on motion to chunk = ap (λ b. cond b (chunk ∷ []) []) (ap (λ b. b && int_eq to to) ((Decides-eqb motion motion).1 refl) ∙ (Decides-int_eq to to).1 refl)

put_refused : (motion : ℕ) (to : ℤ) (ask : PortAsk) (no_ : PortNo) → put_by motion to ask (Refused no_) ≡ []
put_refused motion to (Put m t chunk) no_ = refl
put_refused motion to (Finish m t) no_ = refl
put_refused motion to (Take m) no_ = refl
put_refused motion to (TakeFrom m sender) no_ = refl
put_refused motion to (Halt m sender) no_ = refl

puts-off : (motion : ℕ) (to : ℤ) (log : List PortEntry) → IsUntouched motion to log → puts_of motion to log ≡ []
puts-off motion to [] off = refl
puts-off motion to (e ∷ log) off =
    ap (λ l. l ++ puts_of motion to log) (put_off motion to e.ask e.reply (off 0 e (omega arith))) ∙ puts-off motion to log (λ k d lt. off (suc k) d (omega (arith, lt)))

puts-more : (motion : ℕ) (to : ℤ) (log : List PortEntry) (e : PortEntry) → puts_of motion to (log ++ e ∷ []) ≡ puts_of motion to log ++ put_in motion to e
puts-more motion to log e = flat_map-append (put_in motion to) log (e ∷ []) ∙ ap (λ l. puts_of motion to log ++ l) (append-nil (put_in motion to e))

on_end : (motion : ℕ) (to : ℤ) (e : PortEntry) → Ends motion to e → IsOn motion to e.ask
on_end motion to e (inl w) = subst (IsOn motion to) (sym w.0) (refl, refl)
on_end motion to e (inr w) = w.0

on_next : (motion : ℕ) (to : ℤ) (left : List (List ℕ)) → IsOn motion to (next_ask motion to left)
on_next motion to [] = (refl, refl)
on_next motion to (chunk ∷ left) = (refl, refl)

no_end : (motion : ℕ) (to : ℤ) (log : List PortEntry) → IsUntouched motion to log → Any (Ends motion to) log → ⊥
no_end motion to log off (k, e, lt, is, ends) = off k e lt (on_end motion to (get_or log k e) (subst (Ends motion to) (sym is) ends))

-- ---- an entry within a log

pub any_within : {X : Type 0} (P : X → Type 0) (before : List X) (e : X) (after : List X) → P e → Any P (before ++ e ∷ after)
any_within P [] e after p = (0, e, omega arith, refl, p)
any_within P (b ∷ before) e after p = let w = any_within P before e after p in (suc w.0, w.1, omega (arith, w.2), w.3, w.4)

pub any_more : {X : Type 0} (P : X → Type 0) (xs : List X) (x : X) → Any P (xs ++ x ∷ []) → Any P xs ⊎ P x
any_more P [] x (zero, y, lt, is, p) = inr (subst P (sym is) p)
any_more P [] x (suc k, y, lt, is, p) = absurd (omega (arith, lt))
any_more P (z ∷ xs) x (zero, y, lt, is, p) = inl (0, y, omega arith, is, p)
any_more P (z ∷ xs) x (suc k, y, lt, is, p) =
    elim (any_more P xs x (k, y, omega (arith, lt), is, p)) [ inl w ↦ inl (suc w.0, w.1, omega (arith, w.2), w.3, w.4) | inr w ↦ inr w ]

-- a place in a log with one more entry: the last, or one of those before
place_in_more : {X : Type 0} (xs : List X) (x : X) (before : List X) (e : X) (after : List X) → xs ++ x ∷ [] ≡ before ++ e ∷ after → (after ≡ []) ⊎ ((rest : List X) × (xs ≡ before ++ e ∷ rest))
place_in_more [] x [] e after h = let none : [] ≡ after = cc in inl (sym none)
place_in_more [] x (b ∷ []) e after h = let bad : [] ≡ e ∷ after = cc in cc
place_in_more [] x (b ∷ c ∷ before) e after h = let bad : [] ≡ c ∷ (before ++ e ∷ after) = cc in cc
place_in_more (a ∷ xs) x [] e after h = let same : a ≡ e = cc in inr (xs, ap (λ y. y ∷ xs) same)
place_in_more (a ∷ xs) x (b ∷ before) e after h =
    let same : a ≡ b = cc in
    let rest : xs ++ x ∷ [] ≡ before ++ e ∷ after = cc in
    elim (place_in_more xs x before e after rest) [
      | inl w ↦ inl w
      | inr w ↦ inr (w.0, ap (λ y. y ∷ xs) same ∙ ap (λ l. b ∷ l) w.1)
    ]

nothing_behind : (motion : ℕ) (to : ℤ) (after : List PortEntry) → after ≡ [] → IsUntouched motion to after
nothing_behind motion to after none = subst (IsUntouched motion to) (sym none) (λ k d lt. absurd (omega (arith, lt)))

-- if a log had no end, an end in a longer one is its last entry
last_more : (motion : ℕ) (to : ℤ) (log : List PortEntry) (x : PortEntry) → (Any (Ends motion to) log → ⊥) → (before : List PortEntry) (e : PortEntry) (after : List PortEntry)
    → log ++ x ∷ [] ≡ before ++ e ∷ after → Ends motion to e → IsUntouched motion to after
last_more motion to log x none before e after at ends =
    elim (place_in_more log x before e after at) [
      | inl w ↦ nothing_behind motion to after w
      | inr w ↦ absurd (none (subst (Any (Ends motion to)) (sym w.1) (any_within (Ends motion to) before e w.0 ends)))
    ]

finished_end : (motion : ℕ) (to : ℤ) (log : List PortEntry) → IsFinished motion to log → Any (Ends motion to) log
finished_end motion to log (k, e, lt, is, w) = (k, e, lt, is, inl w)

-- ---- at first

pub fresh_scans : (motion : ℕ) (to : ℤ) (packet : ℕ) (s : Scanning) → s ≡ fresh motion to packet → (rows : List (List Value)) (log : List PortEntry) → IsUntouched motion to log → Scans rows s log
fresh_scans motion to packet s is rows log off =
    subst (λ x. Scans rows x log) (sym is) (record {
      sends = record {
        chunks = ap (λ l. l ++ cut packet rows) (puts-off motion to log off);
        whole = λ finished. absurd (no_end motion to log off (finished_end motion to log finished));
        last = λ before e after at ends. absurd (no_end motion to log off (subst (Any (Ends motion to)) (sym at) (any_within (Ends motion to) before e after ends)));
        done = λ done. cc;
        going = λ going. no_end motion to log off;
      };
      are_rows = tt;
    })

-- ---- one more entry

-- if nothing had ended
Open : (rows : List (List Value)) (motion : ℕ) (to : ℤ) (packet : ℕ) (left : List (List ℕ)) (log : List PortEntry) → Type 0
Open rows motion to packet left log = (puts_of motion to log ++ left ≡ cut packet rows) × (Any (Ends motion to) log → ⊥)

-- an entry that puts nothing and ends nothing
silent : (rows : List (List Value)) (motion : ℕ) (to : ℤ) (packet : ℕ) (left : List (List ℕ)) (log : List PortEntry) (e : PortEntry) (course : Course)
    → Open rows motion to packet left log → put_in motion to e ≡ [] → (Ends motion to e → ⊥) → course ≢ courses.Done → Sends rows motion to packet left course (log ++ e ∷ [])
unfolding Open
silent rows motion to packet left log e course h nothing no_ end =
    let none : Any (Ends motion to) (log ++ e ∷ []) → ⊥ = λ any. elim (any_more (Ends motion to) log e any) [ inl w ↦ h.1 w | inr w ↦ no_ w ] in
    record {
      chunks = ap (λ l. l ++ left) (puts-more motion to log e ∙ ap (λ l. puts_of motion to log ++ l) nothing ∙ append-nil (puts_of motion to log)) ∙ h.0;
      whole = λ finished. absurd (none (finished_end motion to (log ++ e ∷ []) finished));
      last = last_more motion to log e h.1;
      done = λ is. absurd (end is);
      going = λ _. none;
    }

-- no entry
unmoved : (rows : List (List Value)) (motion : ℕ) (to : ℤ) (packet : ℕ) (left : List (List ℕ)) (log : List PortEntry) (course : Course)
    → Open rows motion to packet left log → course ≢ courses.Done → Sends rows motion to packet left course (log ++ [])
unfolding Open
unmoved rows motion to packet left log course h end =
    subst (Sends rows motion to packet left course) (sym (append-nil log)) (record {
      chunks = h.0;
      whole = λ finished. absurd (h.1 (finished_end motion to log finished));
      last = λ before e after at ends. absurd (h.1 (subst (Any (Ends motion to)) (sym at) (any_within (Ends motion to) before e after ends)));
      done = λ is. absurd (end is);
      going = λ _. h.1;
    })

-- an entry that ends
ending : (rows : List (List Value)) (motion : ℕ) (to : ℤ) (packet : ℕ) (left : List (List ℕ)) (log : List PortEntry) (e : PortEntry)
    → Open rows motion to packet left log → put_in motion to e ≡ [] → Ends motion to e → (Finishes motion to e → left ≡ []) → Sends rows motion to packet left courses.Done (log ++ e ∷ [])
unfolding Open
ending rows motion to packet left log e h nothing ends whole = record {
  chunks = ap (λ l. l ++ left) (puts-more motion to log e ∙ ap (λ l. puts_of motion to log ++ l) nothing ∙ append-nil (puts_of motion to log)) ∙ h.0;
  whole = λ finished. elim (any_more (Finishes motion to) log e finished) [ inl w ↦ absurd (h.1 (finished_end motion to log w)) | inr w ↦ whole w ];
  last = last_more motion to log e h.1;
  done = λ _. Any-push (Ends motion to) log e ends;
  going = λ not_. absurd (not_ refl);
}

-- a chunk that was put
one_put : (rows : List (List Value)) (motion : ℕ) (to : ℤ) (packet : ℕ) (chunk : List ℕ) (left : List (List ℕ)) (log : List PortEntry)
    → Open rows motion to packet (chunk ∷ left) log → Sends rows motion to packet left courses.Going (log ++ record { ask = Put motion to chunk; reply = Did } ∷ [])
unfolding Open
one_put rows motion to packet chunk left log h =
    let e : PortEntry = record { ask = Put motion to chunk; reply = Did } in
    let no_ : Ends motion to e → ⊥ = λ w. elim w [ inl x ↦ is_no_finish x.0 | inr x ↦ is_no_refusal x.1 ] in
    let none : Any (Ends motion to) (log ++ e ∷ []) → ⊥ = λ any. elim (any_more (Ends motion to) log e any) [ inl w ↦ h.1 w | inr w ↦ no_ w ] in
    record {
      chunks = ap (λ l. l ++ left) (puts-more motion to log e ∙ ap (λ l. puts_of motion to log ++ l) (put_on motion to chunk)) ∙ append_assoc (puts_of motion to log) (chunk ∷ []) left ∙ h.0;
      whole = λ finished. absurd (none (finished_end motion to (log ++ e ∷ []) finished));
      last = last_more motion to log e h.1;
      done = λ is. cc;
      going = λ _. none;
    }
  where
    is_no_finish : Put motion to chunk ≡ Finish motion to → ⊥
    is_no_finish x = cc

    is_no_refusal : Did ≡ Refused Stopped → ⊥
    is_no_refusal x = cc

-- a refusal other than Stopped ends nothing
no_stop : (motion : ℕ) (to : ℤ) (ask : PortAsk) (no_ : PortNo) → (no_ ≡ Stopped → ⊥) → Ends motion to (record { ask = ask; reply = Refused no_ }) → ⊥
no_stop motion to ask no_ other (inl w) = let bad : Refused no_ ≡ Did = w.1 in cc
no_stop motion to ask no_ other (inr w) = let same : Refused no_ ≡ Refused Stopped = w.1 in other cc

-- ---- one turn

after : (rows : List (List Value)) (motion : ℕ) (to : ℤ) (packet : ℕ) (left : List (List ℕ)) (log : List PortEntry) (answer : Result (Unit {0}) PortNo)
    → Open rows motion to packet left log → Sends rows motion to packet (left_by answer left) (course_behind (told left answer)) (logged (next_ask motion to left) (did answer) log)
after rows motion to packet [] log (Ok _) h =
    ending rows motion to packet [] log (record { ask = Finish motion to; reply = Did }) h refl (inl (refl, refl)) (λ _. refl)
after rows motion to packet (chunk ∷ left) log (Ok _) h = one_put rows motion to packet chunk left log h
after rows motion to packet left log (Err Full) h =
    silent rows motion to packet left log (record { ask = next_ask motion to left; reply = Refused Full }) courses.Going h (put_refused motion to (next_ask motion to left) Full) (no_stop motion to (next_ask motion to left) Full (λ x. cc)) (λ x. cc)
after rows motion to packet left log (Err Empty) h =
    silent rows motion to packet left log (record { ask = next_ask motion to left; reply = Refused Empty }) (course_behind (refused Empty)) h (put_refused motion to (next_ask motion to left) Empty) (no_stop motion to (next_ask motion to left) Empty (λ x. cc)) (λ x. cc)
after rows motion to packet left log (Err Stopped) h =
    ending rows motion to packet left log (record { ask = next_ask motion to left; reply = Refused Stopped }) h (put_refused motion to (next_ask motion to left) Stopped)
    (inr (on_next motion to left, refl)) (λ w. let bad : Refused Stopped ≡ Did = w.1 in cc)
after rows motion to packet left log (Err Ended) h =
    silent rows motion to packet left log (record { ask = next_ask motion to left; reply = Refused Ended }) (course_behind (refused Ended)) h (put_refused motion to (next_ask motion to left) Ended) (no_stop motion to (next_ask motion to left) Ended (λ x. cc)) (λ x. cc)
after rows motion to packet left log (Err (TooLong key)) h =
    silent rows motion to packet left log (record { ask = next_ask motion to left; reply = Refused (TooLong key) }) (course_behind (refused (TooLong key))) h (put_refused motion to (next_ask motion to left) (TooLong key))
    (no_stop motion to (next_ask motion to left) (TooLong key) (λ x. cc)) (λ x. cc)
after rows motion to packet left log (Err Busy) h = unmoved rows motion to packet left log courses.Going h (λ x. cc)
after rows motion to packet left log (Err Memory) h = unmoved rows motion to packet left log (course_behind (refused Memory)) h (λ x. cc)

pub scans_on : (rows : List (List Value)) (old new : Scanning) (keys : List ConnEnd) (log now : List PortEntry) (result : Result Turned WorkNo)
    → old.course ≡ courses.Going → Same old new → new.course ≡ course_behind result
    → Puts keys old.motion old.to (still old rows) (still new rows) log now result
    → (AllByRecursion IsRow (take old.begun rows) → AllByRecursion IsRow (take new.begun rows))
    → Scans rows old log → Scans rows new now
unfolding Open
scans_on rows old new keys log now result going same course puts are h =
    let none : Any (Ends old.motion old.to) log → ⊥ = h.sends.going (λ is. differ (sym going ∙ is)) in
    let w = after rows old.motion old.to old.packet (still old rows) log puts.answer (h.sends.chunks, none) in
    let one = subst (Sends rows old.motion old.to old.packet (left_by puts.answer (still old rows)) (course_behind (told (still old rows) puts.answer))) (sym puts.entry) w in
    let two = subst (λ l. Sends rows old.motion old.to old.packet l (course_behind (told (still old rows) puts.answer)) now) (sym puts.left) one in
    let three = subst (λ c. Sends rows old.motion old.to old.packet (still new rows) c now) (sym (course ∙ ap course_behind puts.tells)) two in
    let four = subst (λ p. Sends rows old.motion old.to p (still new rows) new.course now) (sym same.packet) three in
    let five = subst (λ t. Sends rows old.motion t new.packet (still new rows) new.course now) (sym same.to) four in
    record { sends = subst (λ m. Sends rows m new.to new.packet (still new rows) new.course now) (sym same.motion) five; are_rows = are h.are_rows }
  where
    differ : courses.Going ≡ courses.Done → ⊥
    differ x = cc

pub scans_same : (rows : List (List Value)) (old new : Scanning) (log now : List PortEntry) → new ≡ old → now ≡ log → Scans rows old log → Scans rows new now
scans_same rows old new log now same still_ h = subst (λ l. Scans rows new l) (sym still_) (subst (λ s. Scans rows s log) (sym same) h)

-- ---- as a scanner is seen

abbrev pub seen : ℕ → ℤ → Cutter → Course → Scanning
seen motion to c course = record { motion = motion; to = to; packet = c.packet; begun = c.begun; left = left_of c; course = course }

pub seen_fresh : (motion : ℕ) (to : ℤ) (packet : ℕ) (c : Cutter) → IsFirst packet c → seen motion to c courses.Going ≡ fresh motion to packet
seen_fresh motion to packet c first =
    let at : ℕ → ℕ → List (List ℕ) → Scanning = λ p b l. record { motion = motion; to = to; packet = p; begun = b; left = l; course = courses.Going } in
    ap (λ p. at p c.begun (left_of c)) first.size ∙ ap (λ b. at packet b (left_of c)) first.begun ∙ ap (at packet 0) first.left

pub is_going : (course : Course) → settled course ≡ None → course ≡ courses.Going
is_going courses.Going is = refl
is_going courses.Done is = cc
is_going (courses.Refused no_) is = cc
