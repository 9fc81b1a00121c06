-- The history says of a connection what the log of its worker says: entry by entry.
use Rattle.std.proofs.Common.{◌≡◌, ℕ, zero, suc, ℤ, List, [], ◌∷◌, ◌++◌, map, Bool, true, false, ◌&&◌, ◌||◌, ◌==◌, cond, Ok, Err, refl, ap, sym, ◌∙◌, subst, inl, inr, ◌⊎◌, append_assoc, arith}
use Rattle.std.proofs.lemmas.List.{map-append}
use Rattle.std.proofs.lemmas.List.Concat.{flat_map-append}
use Rattle.std.proofs.lemmas.Bool.Decides.{Decides-int_eq, Decides-eqb}
use Rattle.std.specs.List.{Any, AllByRecursion}
use Rattle.std.specs.Ordering.{int_eq}
use Rattle.ic_base.specs.declared.keys.ConnKey.{ConnKey}
use Rattle.ic_base.specs.declared.keys.ConnEnd.{ConnEnd}
use Rattle.ic_base.specs.declared.datagram.Datagram.{Datagram}
use Rattle.ic_base.specs.declared.datagram.Parcel.{Parcel}
use Rattle.ic_base.specs.declared.port.PortNo.{PortNo}
use Rattle.ic_base.specs.declared.port.PortAsk.{PortAsk}
use Rattle.ic_base.specs.declared.port.PortAsk.TheVariants as ask
use Rattle.ic_base.specs.declared.port.PortReply.{PortReply}
use Rattle.ic_base.specs.declared.port.PortReply.TheVariants as reply
use Rattle.ic_base.specs.declared.port.PortEntry.{PortEntry}
use Rattle.ic_base.specs.Keys.{key_eq}
use Rattle.ic_base.proofs.SameKeys.{key_eq-tells}
use Rattle.ic_law.specs.declared.history.HubAsk.{HubAsk}
use Rattle.ic_law.specs.declared.history.HubAsk.TheVariants.{Begin, Put, Finish, Take, TakeFrom, Halt, Arrive, Tick, Clear, Leave}
use Rattle.ic_law.specs.declared.history.HubReply.{HubReply}
use Rattle.ic_law.specs.declared.history.HubReply.TheVariants.{Begun, Gave, Took, Came, Ticked, Cleared, Left, Memory}
use Rattle.ic_law.specs.declared.history.HubNo.TheVariants as no
use Rattle.ic_law.specs.declared.history.Entry.{Entry}
use Rattle.ic_law.specs.Putting.{was_given, chunk_put, chunks_put_of, is_finish, finishes, finished_of, IsFinished}
use Rattle.ic_law.specs.Taking.{parcels_in, parcels_from, parcel_for, takes, parcels_of, payload_in, payloads_of}
use Rattle.ic_law.specs.Points.{Place, place_at, IsHere}
use Rattle.ic_law.specs.Receiving.{AnswersTake, Over, None as NothingNext, Taken}
use Rattle.ic_law.specs.Hub.{HubPoint, HubLaw}
use Rattle.gd_work.specs.Sending as sending
use Rattle.gd_work.specs.Taking as taking
use Rattle.ic_law.specs.Logs.{put_logs, take_logs, halt_logs, logs_by, logs, log_of, IsOurs}
use Rattle.gd_law.specs.Laws.{PutsAgree, TakesAgree}

-- ---- keys with one side in common

sent_here : (key c : ConnKey) → key.session ≡ c.session → key.from ≡ c.from
    → key_eq key c ≡ ((key.query == c.query) && ((key.motion == c.motion) && int_eq key.to c.to))
unfolding key_eq
sent_here key c session from =
    ap (λ b. b && ((key.query == c.query) && ((key.motion == c.motion) && (int_eq key.from c.from && int_eq key.to c.to)))) ((Decides-eqb key.session c.session).1 session)
    ∙ ap (λ b. (key.query == c.query) && ((key.motion == c.motion) && (b && int_eq key.to c.to))) ((Decides-int_eq key.from c.from).1 from)

ends_here : (key c : ConnKey) → key.session ≡ c.session → key.to ≡ c.to
    → key_eq key c ≡ ((key.query == c.query) && ((key.motion == c.motion) && int_eq key.from c.from))
unfolding key_eq
ends_here key c session to =
    ap (λ b. b && ((key.query == c.query) && ((key.motion == c.motion) && (int_eq key.from c.from && int_eq key.to c.to)))) ((Decides-eqb key.session c.session).1 session)
    ∙ ap (λ b. (key.query == c.query) && ((key.motion == c.motion) && (int_eq key.from c.from && b))) ((Decides-int_eq key.to c.to).1 to)
    ∙ ap (λ b. (key.query == c.query) && ((key.motion == c.motion) && b)) (and_true (int_eq key.from c.from))
  where
    and_true : (b : Bool) → (b && true) ≡ b
    and_true true = refl
    and_true false = refl

-- ---- choices

differ : false ≡ true → ⊥
differ h = cc

both : (a b : Bool) → (a && b) ≡ true → (a ≡ true) × (b ≡ true)
both true true h = (refl, refl)
both true false h = absurd (differ h)
both false b h = absurd (differ h)

either : (a b : Bool) → (a || b) ≡ true → (a ≡ true) ⊎ (b ≡ true)
either true b h = inl refl
either false b h = inr h

chosen : {A : Type 0} (b : Bool) (x : A) → cond (b && true) (x ∷ []) [] ≡ cond b (x ∷ []) [] ++ []
chosen true x = refl
chosen false x = refl

unchosen : {A : Type 0} (b : Bool) (x : A) → cond (b && false) (x ∷ []) [] ≡ []
unchosen true x = refl
unchosen false x = refl

-- ---- chunks that were put

one_put : (key c : ConnKey) (chunk : List ℕ) (replied : HubReply) (same : Bool)
    → cond ((same && ((key.motion == c.motion) && int_eq key.to c.to)) && was_given replied) (chunk ∷ []) []
    ≡ sending.puts_of c.motion c.to (cond same (put_logs (ask.Put key.motion key.to chunk) key replied) [])
one_put key c chunk replied false = refl
one_put key c chunk (Gave (Ok ds)) true = chosen ((key.motion == c.motion) && int_eq key.to c.to) chunk
one_put key c chunk (Gave (Err no.Full)) true = unchosen ((key.motion == c.motion) && int_eq key.to c.to) chunk
one_put key c chunk (Gave (Err no.Empty)) true = unchosen ((key.motion == c.motion) && int_eq key.to c.to) chunk
one_put key c chunk (Gave (Err no.Stopped)) true = unchosen ((key.motion == c.motion) && int_eq key.to c.to) chunk
one_put key c chunk (Gave (Err no.Ended)) true = unchosen ((key.motion == c.motion) && int_eq key.to c.to) chunk
one_put key c chunk (Gave (Err (no.TooLong which))) true = unchosen ((key.motion == c.motion) && int_eq key.to c.to) chunk
one_put key c chunk (Gave (Err (no.Unknown query motion))) true = unchosen ((key.motion == c.motion) && int_eq key.to c.to) chunk
one_put key c chunk (Gave (Err no.Memory)) true = unchosen ((key.motion == c.motion) && int_eq key.to c.to) chunk
one_put key c chunk (Begun r) true = unchosen ((key.motion == c.motion) && int_eq key.to c.to) chunk
one_put key c chunk (Took r) true = unchosen ((key.motion == c.motion) && int_eq key.to c.to) chunk
one_put key c chunk (Came how ds) true = unchosen ((key.motion == c.motion) && int_eq key.to c.to) chunk
one_put key c chunk (Ticked r) true = unchosen ((key.motion == c.motion) && int_eq key.to c.to) chunk
one_put key c chunk (Cleared r) true = unchosen ((key.motion == c.motion) && int_eq key.to c.to) chunk
one_put key c chunk (Left r) true = unchosen ((key.motion == c.motion) && int_eq key.to c.to) chunk
one_put key c chunk Memory true = unchosen ((key.motion == c.motion) && int_eq key.to c.to) chunk

-- if each entry is of its ask, and the ask puts nothing, nothing is put
puts_none : (motion : ℕ) (to : ℤ) (asked : PortAsk) (log : List PortEntry) → ((r : PortReply) → sending.put_by motion to asked r ≡ [])
    → AllByRecursion (λ (e : PortEntry). e.ask ≡ asked) log → sending.puts_of motion to log ≡ []
puts_none motion to asked [] none all = refl
puts_none motion to asked (e ∷ log) none all =
    ap (λ l. l ++ sending.puts_of motion to log) (ap (λ a. sending.put_by motion to a e.reply) all.0 ∙ none e.reply) ∙ puts_none motion to asked log none all.1

-- ---- entries are of their ask

put_asks : (asked : PortAsk) (key : ConnKey) (replied : HubReply) → AllByRecursion (λ (e : PortEntry). e.ask ≡ asked) (put_logs asked key replied)
put_asks asked key (Gave (Ok ds)) = (refl, tt)
put_asks asked key (Gave (Err no.Full)) = (refl, tt)
put_asks asked key (Gave (Err no.Stopped)) = (refl, tt)
put_asks asked key (Gave (Err (no.TooLong which))) = (refl, tt)
put_asks asked key (Gave (Err no.Empty)) = tt
put_asks asked key (Gave (Err no.Ended)) = tt
put_asks asked key (Gave (Err (no.Unknown query motion))) = tt
put_asks asked key (Gave (Err no.Memory)) = tt
put_asks asked key (Begun r) = tt
put_asks asked key (Took r) = tt
put_asks asked key (Came how ds) = tt
put_asks asked key (Ticked r) = tt
put_asks asked key (Cleared r) = tt
put_asks asked key (Left r) = tt
put_asks asked key Memory = tt

take_asks : (asked : PortAsk) (replied : HubReply) → AllByRecursion (λ (e : PortEntry). e.ask ≡ asked) (take_logs asked replied)
take_asks asked (Took (Ok r)) = (refl, tt)
take_asks asked (Took (Err no.Empty)) = (refl, tt)
take_asks asked (Took (Err no.Ended)) = (refl, tt)
take_asks asked (Took (Err no.Full)) = tt
take_asks asked (Took (Err no.Stopped)) = tt
take_asks asked (Took (Err (no.TooLong which))) = tt
take_asks asked (Took (Err (no.Unknown query motion))) = tt
take_asks asked (Took (Err no.Memory)) = tt
take_asks asked (Begun r) = tt
take_asks asked (Gave r) = tt
take_asks asked (Came how ds) = tt
take_asks asked (Ticked r) = tt
take_asks asked (Cleared r) = tt
take_asks asked (Left r) = tt
take_asks asked Memory = tt

halt_asks : (asked : PortAsk) (replied : HubReply) → AllByRecursion (λ (e : PortEntry). e.ask ≡ asked) (halt_logs asked replied)
halt_asks asked (Gave (Ok ds)) = (refl, tt)
halt_asks asked (Gave (Err refusal)) = tt
halt_asks asked (Begun r) = tt
halt_asks asked (Took r) = tt
halt_asks asked (Came how ds) = tt
halt_asks asked (Ticked r) = tt
halt_asks asked (Cleared r) = tt
halt_asks asked (Left r) = tt
halt_asks asked Memory = tt

-- a choice of such a list or of none
chosen_asks : (asked : PortAsk) (b : Bool) (log : List PortEntry) → AllByRecursion (λ (e : PortEntry). e.ask ≡ asked) log → AllByRecursion (λ (e : PortEntry). e.ask ≡ asked) (cond b log [])
chosen_asks asked true log all = all
chosen_asks asked false log all = tt

-- ---- an entry's puts

entry_puts : (place : Place) (c : ConnKey) (asked : HubAsk) (replied : HubReply) → IsOurs place asked → c.session ≡ place.session → c.from ≡ place.at
    → chunk_put c asked replied ≡ sending.puts_of c.motion c.to (logs_by c.query asked replied)
entry_puts place c (Begin q ends) replied ours session at = refl
entry_puts place c (Put key chunk) replied ours session at =
    ap (λ b. cond (b && was_given replied) (chunk ∷ []) []) (sent_here key c (ours.session ∙ sym session) (ours.from ∙ sym at))
    ∙ one_put key c chunk replied (key.query == c.query)
entry_puts place c (Finish key) replied ours session at =
    sym (puts_none c.motion c.to (ask.Finish key.motion key.to) _ (λ r. refl) (chosen_asks _ (key.query == c.query) _ (put_asks (ask.Finish key.motion key.to) key replied)))
entry_puts place c (Take q motion) replied ours session at =
    sym (puts_none c.motion c.to (ask.Take motion) _ (λ r. refl) (chosen_asks _ (q == c.query) _ (take_asks (ask.Take motion) replied)))
entry_puts place c (TakeFrom key) replied ours session at =
    sym (puts_none c.motion c.to (ask.TakeFrom key.motion key.from) _ (λ r. refl) (chosen_asks _ (key.query == c.query) _ (take_asks (ask.TakeFrom key.motion key.from) replied)))
entry_puts place c (Halt key) replied ours session at =
    sym (puts_none c.motion c.to (ask.Halt key.motion key.from) _ (λ r. refl) (chosen_asks _ (key.query == c.query) _ (halt_asks (ask.Halt key.motion key.from) replied)))
entry_puts place c (Arrive d) replied ours session at = refl
entry_puts place c Tick replied ours session at = refl
entry_puts place c (Clear q) replied ours session at = refl
entry_puts place c (Leave q) replied ours session at = refl

all_puts : (place : Place) (c : ConnKey) (h : List Entry) → AllByRecursion (λ e. IsOurs place e.ask) h → c.session ≡ place.session → c.from ≡ place.at
    → chunks_put_of c h ≡ sending.puts_of c.motion c.to (log_of c.query h)
all_puts place c [] ours session at = refl
all_puts place c (e ∷ h) ours session at =
    ap (λ l. l ++ chunks_put_of c h) (entry_puts place c e.ask e.reply ours.0 session at)
    ∙ ap (λ l. sending.puts_of c.motion c.to (logs c.query e) ++ l) (all_puts place c h ours.1 session at)
    ∙ sym (flat_map-append (sending.put_in c.motion c.to) (logs c.query e) (log_of c.query h))

-- ---- ends that were put

any_left : {X : Type 0} (P : X → Type 0) (xs ys : List X) → Any P xs → Any P (xs ++ ys)
any_left P [] ys (k, x, lt, is, p) = absurd (omega (arith, lt))
any_left P (y ∷ xs) ys (zero, x, lt, is, p) = (0, x, omega arith, is, p)
any_left P (y ∷ xs) ys (suc k, x, lt, is, p) = let w = any_left P xs ys (k, x, omega (arith, lt), is, p) in (suc w.0, w.1, omega (arith, w.2), w.3, w.4)

any_right : {X : Type 0} (P : X → Type 0) (xs ys : List X) → Any P ys → Any P (xs ++ ys)
any_right P [] ys any = any
any_right P (y ∷ xs) ys any = let w = any_right P xs ys any in (suc w.0, w.1, omega (arith, w.2), w.3, w.4)

any_either : {X : Type 0} (P : X → Type 0) (xs ys : List X) → Any P (xs ++ ys) → Any P xs ⊎ Any P ys
any_either P [] ys any = inr any
any_either P (y ∷ xs) ys (zero, x, lt, is, p) = inl (0, x, omega arith, is, p)
any_either P (y ∷ xs) ys (suc k, x, lt, is, p) =
    elim (any_either P xs ys (k, x, omega (arith, lt), is, p)) [ inl w ↦ inl (suc w.0, w.1, omega (arith, w.2), w.3, w.4) | inr w ↦ inr w ]

any_none : {X : Type 0} (P : X → Type 0) → Any P [] → ⊥
any_none P (k, x, lt, is, p) = omega (arith, lt)

-- if all entries are of one ask, and one of them is a finish, that ask is the finish
any_asks : (motion : ℕ) (to : ℤ) (asked : PortAsk) (log : List PortEntry) → AllByRecursion (λ (e : PortEntry). e.ask ≡ asked) log
    → sending.IsFinished motion to log → asked ≡ ask.Finish motion to
any_asks motion to asked [] all any = absurd (any_none (sending.Finishes motion to) any)
any_asks motion to asked (e ∷ log) all (zero, x, lt, is, p) = sym all.0 ∙ ap (λ (y : PortEntry). y.ask) is ∙ p.0
any_asks motion to asked (e ∷ log) all (suc k, x, lt, is, p) = any_asks motion to asked log all.1 (k, x, omega (arith, lt), is, p)

finishes_there : (c : ConnKey) (replied : HubReply) → was_given replied ≡ true → sending.IsFinished c.motion c.to (put_logs (ask.Finish c.motion c.to) c replied)
finishes_there c (Gave (Ok ds)) given = (0, _, omega arith, refl, (refl, refl))
finishes_there c (Gave (Err refusal)) given = absurd (differ given)
finishes_there c (Begun r) given = absurd (differ given)
finishes_there c (Took r) given = absurd (differ given)
finishes_there c (Came how ds) given = absurd (differ given)
finishes_there c (Ticked r) given = absurd (differ given)
finishes_there c (Cleared r) given = absurd (differ given)
finishes_there c (Left r) given = absurd (differ given)
finishes_there c Memory given = absurd (differ given)

only_one : {X : Type 0} (P : X → Type 0) (x : X) → Any P (x ∷ []) → P x
only_one P x (zero, y, lt, is, p) = subst P (sym is) p
only_one P x (suc k, y, lt, is, p) = absurd (omega (arith, lt))

refused_no : (motion : ℕ) (to : ℤ) (asked : PortAsk) (why : PortNo) → sending.IsFinished motion to (record { ask = asked; reply = reply.Refused why } ∷ []) → ⊥
refused_no motion to asked why any = let bad : reply.Refused why ≡ reply.Did = (only_one (sending.Finishes motion to) _ any).1 in cc

was_given_there : (motion : ℕ) (to : ℤ) (asked : PortAsk) (key : ConnKey) (replied : HubReply) → sending.IsFinished motion to (put_logs asked key replied) → was_given replied ≡ true
was_given_there motion to asked key (Gave (Ok ds)) any = refl
was_given_there motion to asked key (Gave (Err no.Full)) any = absurd (refused_no motion to asked _ any)
was_given_there motion to asked key (Gave (Err no.Stopped)) any = absurd (refused_no motion to asked _ any)
was_given_there motion to asked key (Gave (Err (no.TooLong which))) any = absurd (refused_no motion to asked _ any)
was_given_there motion to asked key (Gave (Err no.Empty)) any = absurd (any_none (sending.Finishes motion to) any)
was_given_there motion to asked key (Gave (Err no.Ended)) any = absurd (any_none (sending.Finishes motion to) any)
was_given_there motion to asked key (Gave (Err (no.Unknown query m))) any = absurd (any_none (sending.Finishes motion to) any)
was_given_there motion to asked key (Gave (Err no.Memory)) any = absurd (any_none (sending.Finishes motion to) any)
was_given_there motion to asked key (Begun r) any = absurd (any_none (sending.Finishes motion to) any)
was_given_there motion to asked key (Took r) any = absurd (any_none (sending.Finishes motion to) any)
was_given_there motion to asked key (Came how ds) any = absurd (any_none (sending.Finishes motion to) any)
was_given_there motion to asked key (Ticked r) any = absurd (any_none (sending.Finishes motion to) any)
was_given_there motion to asked key (Cleared r) any = absurd (any_none (sending.Finishes motion to) any)
was_given_there motion to asked key (Left r) any = absurd (any_none (sending.Finishes motion to) any)
was_given_there motion to asked key Memory any = absurd (any_none (sending.Finishes motion to) any)

-- a finish in the history is one in the log
entry_to_log : (c : ConnKey) (asked : HubAsk) (replied : HubReply) → is_finish c asked replied ≡ true → sending.IsFinished c.motion c.to (logs_by c.query asked replied)
entry_to_log c (Finish key) replied h =
    let w = both (key_eq key c) (was_given replied) h in
    subst (λ (k : ConnKey). sending.IsFinished c.motion c.to (cond (k.query == c.query) (put_logs (ask.Finish k.motion k.to) k replied) [])) (sym (key_eq-tells key c w.0))
    (subst (λ b. sending.IsFinished c.motion c.to (cond b (put_logs (ask.Finish c.motion c.to) c replied) [])) (sym ((Decides-eqb c.query c.query).1 refl)) (finishes_there c replied w.1))
entry_to_log c (Begin q ends) replied h = absurd (differ h)
entry_to_log c (Put key chunk) replied h = absurd (differ h)
entry_to_log c (Take q motion) replied h = absurd (differ h)
entry_to_log c (TakeFrom key) replied h = absurd (differ h)
entry_to_log c (Halt key) replied h = absurd (differ h)
entry_to_log c (Arrive d) replied h = absurd (differ h)
entry_to_log c Tick replied h = absurd (differ h)
entry_to_log c (Clear q) replied h = absurd (differ h)
entry_to_log c (Leave q) replied h = absurd (differ h)

-- and so it is the other way round
finish_back : (key c : ConnKey) (replied : HubReply) (b : Bool) → (key.query == c.query) ≡ b → key.session ≡ c.session → key.from ≡ c.from
    → sending.IsFinished c.motion c.to (cond b (put_logs (ask.Finish key.motion key.to) key replied) []) → (key_eq key c && was_given replied) ≡ true
finish_back key c replied false is session from any = absurd (any_none (sending.Finishes c.motion c.to) any)
finish_back key c replied true is session from any =
    let asked : ask.Finish key.motion key.to ≡ ask.Finish c.motion c.to = any_asks c.motion c.to (ask.Finish key.motion key.to) _ (put_asks (ask.Finish key.motion key.to) key replied) any in
    let motion : key.motion ≡ c.motion = cc in
    let to : key.to ≡ c.to = cc in
    ap (λ b. b && was_given replied) (sent_here key c session from)
    ∙ ap (λ b. (b && ((key.motion == c.motion) && int_eq key.to c.to)) && was_given replied) is
    ∙ ap (λ b. (b && int_eq key.to c.to) && was_given replied) ((Decides-eqb key.motion c.motion).1 motion)
    ∙ ap (λ b. b && was_given replied) ((Decides-int_eq key.to c.to).1 to)
    ∙ was_given_there c.motion c.to (ask.Finish key.motion key.to) key replied any

entry_from_log : (place : Place) (c : ConnKey) (asked : HubAsk) (replied : HubReply) → IsOurs place asked → c.session ≡ place.session → c.from ≡ place.at
    → sending.IsFinished c.motion c.to (logs_by c.query asked replied) → is_finish c asked replied ≡ true
entry_from_log place c (Finish key) replied ours session at any =
    finish_back key c replied (key.query == c.query) refl (ours.session ∙ sym session) (ours.from ∙ sym at) any
entry_from_log place c (Begin q ends) replied ours session at any = absurd (any_none (sending.Finishes c.motion c.to) any)
entry_from_log place c (Put key chunk) replied ours session at any =
    let bad : ask.Put key.motion key.to chunk ≡ ask.Finish c.motion c.to
    = any_asks c.motion c.to (ask.Put key.motion key.to chunk) _ (chosen_asks _ (key.query == c.query) _ (put_asks (ask.Put key.motion key.to chunk) key replied)) any in cc
entry_from_log place c (Take q motion) replied ours session at any =
    let bad : ask.Take motion ≡ ask.Finish c.motion c.to = any_asks c.motion c.to (ask.Take motion) _ (chosen_asks _ (q == c.query) _ (take_asks (ask.Take motion) replied)) any in cc
entry_from_log place c (TakeFrom key) replied ours session at any =
    let bad : ask.TakeFrom key.motion key.from ≡ ask.Finish c.motion c.to
    = any_asks c.motion c.to (ask.TakeFrom key.motion key.from) _ (chosen_asks _ (key.query == c.query) _ (take_asks (ask.TakeFrom key.motion key.from) replied)) any in cc
entry_from_log place c (Halt key) replied ours session at any =
    let bad : ask.Halt key.motion key.from ≡ ask.Finish c.motion c.to
    = any_asks c.motion c.to (ask.Halt key.motion key.from) _ (chosen_asks _ (key.query == c.query) _ (halt_asks (ask.Halt key.motion key.from) replied)) any in cc
entry_from_log place c (Arrive d) replied ours session at any = absurd (any_none (sending.Finishes c.motion c.to) any)
entry_from_log place c Tick replied ours session at any = absurd (any_none (sending.Finishes c.motion c.to) any)
entry_from_log place c (Clear q) replied ours session at any = absurd (any_none (sending.Finishes c.motion c.to) any)
entry_from_log place c (Leave q) replied ours session at any = absurd (any_none (sending.Finishes c.motion c.to) any)

finished_to_log : (c : ConnKey) (h : List Entry) → IsFinished c h → sending.IsFinished c.motion c.to (log_of c.query h)
finished_to_log c [] is = absurd (differ is)
finished_to_log c (e ∷ h) is =
    elim (either (finishes c e) (finished_of c h) is) [
      | inl w ↦ any_left (sending.Finishes c.motion c.to) (logs c.query e) (log_of c.query h) (entry_to_log c e.ask e.reply w)
      | inr w ↦ any_right (sending.Finishes c.motion c.to) (logs c.query e) (log_of c.query h) (finished_to_log c h w)
    ]

or_left : (a b : Bool) → a ≡ true → (a || b) ≡ true
or_left a b h = ap (λ x. x || b) h

or_right : (a b : Bool) → b ≡ true → (a || b) ≡ true
or_right true b h = refl
or_right false b h = h

finished_from_log : (place : Place) (c : ConnKey) (h : List Entry) → AllByRecursion (λ e. IsOurs place e.ask) h → c.session ≡ place.session → c.from ≡ place.at
    → sending.IsFinished c.motion c.to (log_of c.query h) → IsFinished c h
finished_from_log place c [] ours session at any = absurd (any_none (sending.Finishes c.motion c.to) any)
finished_from_log place c (e ∷ h) ours session at any =
    elim (any_either (sending.Finishes c.motion c.to) (logs c.query e) (log_of c.query h) any) [
      | inl w ↦ or_left (finishes c e) (finished_of c h) (entry_from_log place c e.ask e.reply ours.0 session at w)
      | inr w ↦ or_right (finishes c e) (finished_of c h) (finished_from_log place c h ours.1 session at w)
    ]

pub puts_agree : PutsAgree
puts_agree session at settings h c ours same here = record {
  chunks = all_puts (place_at session at settings) c h ours same here;
  finished = (finished_to_log c h, finished_from_log (place_at session at settings) c h ours same here);
}

-- ---- parcels that were taken

-- the payloads of these parcels, as the log has those of one sender
payload_of_one : (p : Parcel) (from : ℤ) (b : Bool) → map payload_in (cond b (cond (int_eq p.from from) (p ∷ []) []) []) ≡ taking.payloads_from from (cond b (p ∷ []) [] ++ [])
payload_of_one p from false = refl
payload_of_one p from true = by (int_eq p.from from)
  where
    by : (i : Bool) → map payload_in (cond i (p ∷ []) []) ≡ cond i (p.payload ∷ []) [] ++ []
    by true = refl
    by false = refl

none_taken : (b : Bool) → map payload_in (cond b [] []) ≡ []
none_taken true = refl
none_taken false = refl

-- if each entry is of its ask, and the ask takes nothing, nothing is taken
parcels_none : (motion : ℕ) (asked : PortAsk) (log : List PortEntry) → ((r : PortReply) → taking.parcel_by motion asked r ≡ [])
    → AllByRecursion (λ (e : PortEntry). e.ask ≡ asked) log → taking.parcels_of motion log ≡ []
parcels_none motion asked [] none all = refl
parcels_none motion asked (e ∷ log) none all =
    ap (λ l. l ++ taking.parcels_of motion log) (ap (λ a. taking.parcel_by motion a e.reply) all.0 ∙ none e.reply) ∙ parcels_none motion asked log none all.1

no_payloads : (motion : ℕ) (from : ℤ) (asked : PortAsk) (log : List PortEntry) → ((r : PortReply) → taking.parcel_by motion asked r ≡ [])
    → AllByRecursion (λ (e : PortEntry). e.ask ≡ asked) log → [] ≡ taking.payloads_from from (taking.parcels_of motion log)
no_payloads motion from asked log none all = sym (ap (taking.payloads_from from) (parcels_none motion asked log none all))

take_any : (c : ConnKey) (motion : ℕ) (replied : HubReply) (same : Bool)
    → map payload_in (cond (same && (motion == c.motion)) (parcels_from c.from (parcels_in replied)) [])
    ≡ taking.payloads_from c.from (taking.parcels_of c.motion (cond same (take_logs (ask.Take motion) replied) []))
take_any c motion replied false = refl
take_any c motion (Took (Ok r)) true = payload_of_one r.0 c.from (motion == c.motion)
take_any c motion (Took (Err no.Empty)) true = none_taken (motion == c.motion)
take_any c motion (Took (Err no.Ended)) true = none_taken (motion == c.motion)
take_any c motion (Took (Err no.Full)) true = none_taken (motion == c.motion)
take_any c motion (Took (Err no.Stopped)) true = none_taken (motion == c.motion)
take_any c motion (Took (Err (no.TooLong which))) true = none_taken (motion == c.motion)
take_any c motion (Took (Err (no.Unknown query m))) true = none_taken (motion == c.motion)
take_any c motion (Took (Err no.Memory)) true = none_taken (motion == c.motion)
take_any c motion (Begun r) true = none_taken (motion == c.motion)
take_any c motion (Gave r) true = none_taken (motion == c.motion)
take_any c motion (Came how ds) true = none_taken (motion == c.motion)
take_any c motion (Ticked r) true = none_taken (motion == c.motion)
take_any c motion (Cleared r) true = none_taken (motion == c.motion)
take_any c motion (Left r) true = none_taken (motion == c.motion)
take_any c motion Memory true = none_taken (motion == c.motion)

-- a parcel that a take from one sender gave is from that one
FromIts : HubAsk → HubReply → Type 0
FromIts asked replied = (key : ConnKey) (p : Parcel) (ds : List Datagram) → asked ≡ TakeFrom key → replied ≡ Took (Ok (p, ds)) → p.from ≡ key.from

take_one : (c key : ConnKey) (replied : HubReply) (same : Bool) → FromIts (TakeFrom key) replied
    → map payload_in (cond (same && ((key.motion == c.motion) && int_eq key.from c.from)) (parcels_in replied) [])
    ≡ taking.payloads_from c.from (taking.parcels_of c.motion (cond same (take_logs (ask.TakeFrom key.motion key.from) replied) []))
unfolding FromIts
take_one c key replied false its = refl
take_one c key (Took (Ok r)) true its =
    ap (λ f. map payload_in (cond ((key.motion == c.motion) && int_eq f c.from) (r.0 ∷ []) [])) (sym (its key r.0 r.1 refl refl))
    ∙ ap (map payload_in) (nested (key.motion == c.motion) (int_eq r.0.from c.from) (r.0 ∷ []))
    ∙ payload_of_one r.0 c.from (key.motion == c.motion)
  where
    nested : {A : Type 0} (a b : Bool) (xs : List A) → cond (a && b) xs [] ≡ cond a (cond b xs []) []
    nested true b xs = refl
    nested false b xs = refl
take_one c key (Took (Err no.Empty)) true its = none_taken ((key.motion == c.motion) && int_eq key.from c.from)
take_one c key (Took (Err no.Ended)) true its = none_taken ((key.motion == c.motion) && int_eq key.from c.from)
take_one c key (Took (Err no.Full)) true its = none_taken ((key.motion == c.motion) && int_eq key.from c.from)
take_one c key (Took (Err no.Stopped)) true its = none_taken ((key.motion == c.motion) && int_eq key.from c.from)
take_one c key (Took (Err (no.TooLong which))) true its = none_taken ((key.motion == c.motion) && int_eq key.from c.from)
take_one c key (Took (Err (no.Unknown query m))) true its = none_taken ((key.motion == c.motion) && int_eq key.from c.from)
take_one c key (Took (Err no.Memory)) true its = none_taken ((key.motion == c.motion) && int_eq key.from c.from)
take_one c key (Begun r) true its = none_taken ((key.motion == c.motion) && int_eq key.from c.from)
take_one c key (Gave r) true its = none_taken ((key.motion == c.motion) && int_eq key.from c.from)
take_one c key (Came how ds) true its = none_taken ((key.motion == c.motion) && int_eq key.from c.from)
take_one c key (Ticked r) true its = none_taken ((key.motion == c.motion) && int_eq key.from c.from)
take_one c key (Cleared r) true its = none_taken ((key.motion == c.motion) && int_eq key.from c.from)
take_one c key (Left r) true its = none_taken ((key.motion == c.motion) && int_eq key.from c.from)
take_one c key Memory true its = none_taken ((key.motion == c.motion) && int_eq key.from c.from)

entry_takes : (place : Place) (c : ConnKey) (asked : HubAsk) (replied : HubReply) → IsOurs place asked → FromIts asked replied → c.session ≡ place.session → c.to ≡ place.at
    → map payload_in (parcel_for c asked replied) ≡ taking.payloads_from c.from (taking.parcels_of c.motion (logs_by c.query asked replied))
entry_takes place c (Begin q ends) replied ours its session at = refl
entry_takes place c (Put key chunk) replied ours its session at =
    no_payloads c.motion c.from (ask.Put key.motion key.to chunk) _ (λ r. refl) (chosen_asks _ (key.query == c.query) _ (put_asks (ask.Put key.motion key.to chunk) key replied))
entry_takes place c (Finish key) replied ours its session at =
    no_payloads c.motion c.from (ask.Finish key.motion key.to) _ (λ r. refl) (chosen_asks _ (key.query == c.query) _ (put_asks (ask.Finish key.motion key.to) key replied))
entry_takes place c (Take q motion) replied ours its session at = take_any c motion replied (q == c.query)
entry_takes place c (TakeFrom key) replied ours its session at =
    ap (λ b. map payload_in (cond b (parcels_in replied) [])) (ends_here key c (ours.session ∙ sym session) (ours.to ∙ sym at))
    ∙ take_one c key replied (key.query == c.query) its
entry_takes place c (Halt key) replied ours its session at =
    no_payloads c.motion c.from (ask.Halt key.motion key.from) _ (λ r. refl) (chosen_asks _ (key.query == c.query) _ (halt_asks (ask.Halt key.motion key.from) replied))
entry_takes place c (Arrive d) replied ours its session at = refl
entry_takes place c Tick replied ours its session at = refl
entry_takes place c (Clear q) replied ours its session at = refl
entry_takes place c (Leave q) replied ours its session at = refl

all_takes : (place : Place) (c : ConnKey) (h : List Entry) → AllByRecursion (λ e. IsOurs place e.ask) h → AllByRecursion (λ e. FromIts e.ask e.reply) h
    → c.session ≡ place.session → c.to ≡ place.at → payloads_of c h ≡ taking.payloads_from c.from (taking.parcels_of c.motion (log_of c.query h))
all_takes place c [] ours its session at = refl
all_takes place c (e ∷ h) ours its session at =
    let here = taking.parcels_of c.motion (logs c.query e) in
    let later = taking.parcels_of c.motion (log_of c.query h) in
    map-append payload_in (takes c e) (parcels_of c h)
    ∙ ap (λ l. l ++ payloads_of c h) (entry_takes place c e.ask e.reply ours.0 its.0 session at)
    ∙ ap (λ l. taking.payloads_from c.from here ++ l) (all_takes place c h ours.1 its.1 session at)
    ∙ sym (flat_map-append (taking.payload_in c.from) here later)
    ∙ ap (taking.payloads_from c.from) (sym (flat_map-append (taking.parcel_in c.motion) (logs c.query e) (log_of c.query h)))

-- ---- what the hub's law says of it

taken_from : (end : ConnEnd) (before : List Entry) (replied : HubReply) (p : Parcel) (ds : List Datagram) → AnswersTake end before replied → replied ≡ Took (Ok (p, ds)) → p.from ≡ end.key.from
taken_from end before replied p ds (Over ended is) took = let bad : Took (Err no.Ended) ≡ Took (Ok (p, ds)) = sym is ∙ took in cc
taken_from end before replied p ds (NothingNext going nothing is) took = let bad : Took (Err no.Empty) ≡ Took (Ok (p, ds)) = sym is ∙ took in cc
taken_from end before replied p ds (Taken going parcel told taken is) took =
    let w : parcel ∷ [] ≡ p ∷ [] = ap parcels_in (sym is ∙ took) in
    let same : parcel ≡ p = cc in
    subst (λ (x : Parcel). x.from ≡ end.key.from) same taken.from

its_own : (place : Place) (before : List Entry) (e : Entry) → HubPoint place before e → FromIts e.ask e.reply
unfolding FromIts
its_own place before e point key p ds asked took = by (int_eq p.from key.from) refl
  where
    by : (b : Bool) → int_eq p.from key.from ≡ b → p.from ≡ key.from
    by true is = (Decides-int_eq p.from key.from).0 is
    by false is = absurd (unknown (point.known.take_from key asked not_there remembered))
      where
        remembered : e.reply ≡ Memory → ⊥
        remembered h = let bad : Memory ≡ Took (Ok (p, ds)) = sym h ∙ took in cc

        not_there : (end : ConnEnd) → IsHere end before → end.key ≡ key → end.sending ≡ false → ⊥
        not_there end here same side =
            differ (sym is ∙ (Decides-int_eq p.from key.from).1
            (taken_from end before e.reply p ds ((point.answered end side here).take_from (asked ∙ ap TakeFrom (sym same)) remembered) took ∙ ap (λ (k : ConnKey). k.from) same))

        unknown : e.reply ≡ Took (Err (no.Unknown key.query key.motion)) → ⊥
        unknown h = let bad : Took (Err (no.Unknown key.query key.motion)) ≡ Took (Ok (p, ds)) = sym h ∙ took in cc

all_own : (place : Place) (h before rest : List Entry) → HubLaw place h → h ≡ before ++ rest → AllByRecursion (λ e. FromIts e.ask e.reply) rest
all_own place h before [] law at = tt
all_own place h before (e ∷ rest) law at = (its_own place before e (law before e rest at), all_own place h (before ++ e ∷ []) rest law (at ∙ sym (append_assoc before (e ∷ []) rest)))

pub takes_agree : TakesAgree
takes_agree session at settings h c law ours same here =
    all_takes (place_at session at settings) c h ours (all_own (place_at session at settings) h [] h law refl) same here
