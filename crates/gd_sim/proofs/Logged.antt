-- What an entry of a worker's log tells of the entry of the history that it is read from.
use Rattle.std.proofs.Common.{◌≡◌, ℕ, ◌≤◌, List, [], ◌∷◌, length, Bool, true, false, ◌&&◌, ◌||◌, ◌==◌, cond, Ok, Err, refl, ap, sym, ◌∙◌, subst, append-nil, arith, inl, inr}
use Rattle.std.specs.List.{AllByRecursion, list_any}
use Rattle.std.proofs.lemmas.Bool.Decides.{Decides-eqb}
use Rattle.ic_base.specs.declared.keys.ConnKey.{ConnKey}
use Rattle.ic_base.specs.declared.port.PortNo.TheVariants as port
use Rattle.ic_base.specs.declared.port.PortAsk.{PortAsk}
use Rattle.ic_base.specs.declared.port.PortAsk.TheVariants as ask
use Rattle.ic_base.specs.declared.port.PortReply.{PortReply}
use Rattle.ic_base.specs.declared.port.PortReply.TheVariants as reply
use Rattle.ic_base.specs.declared.port.PortEntry.{PortEntry}
use Rattle.ic_base.specs.Keys.{key_eq}
use Rattle.ic_base.proofs.SameKeys.{key_eq-tells}
use Rattle.ic_law.specs.declared.history.HubAsk.{HubAsk}
use Rattle.ic_law.specs.declared.history.HubAsk.TheVariants.{Begin, Put, Finish, Take, TakeFrom, Halt, Arrive, Tick, Clear, Leave}
use Rattle.ic_law.specs.declared.history.HubReply.{HubReply}
use Rattle.ic_law.specs.declared.history.HubReply.TheVariants.{Begun, Gave, Took, Came, Ticked, Cleared, Left, Memory}
use Rattle.ic_law.specs.declared.history.HubNo.TheVariants as hub
use Rattle.ic_law.specs.declared.history.Entry.{Entry}
use Rattle.ic_law.specs.Putting.{was_given}
use Rattle.ic_law.specs.Taking.{is_halt, halts}
use Rattle.ic_law.specs.Logs.{one, put_logs, take_logs, halt_logs, logs_by, logs, log_of}
use Rattle.gd_sim.specs.Run.{PutsOn}

-- ---- lists of one

none_is : {A : Type 0} (x : A) → [] ≡ x ∷ [] → ⊥
none_is x is = cc

first_is : {A : Type 0} (x y : A) → x ∷ [] ≡ y ∷ [] → x ≡ y
first_is x y is = cc

reply_is : (asked was : PortAsk) (r s : PortReply) → one asked r ≡ record { ask = was; reply = s } ∷ [] → r ≡ s
reply_is asked was r s is = ap (λ (e : PortEntry). e.reply) (first_is (record { ask = asked; reply = r }) (record { ask = was; reply = s }) is)

ask_is : (asked : PortAsk) (r : PortReply) (x : PortEntry) → one asked r ≡ x ∷ [] → x.ask ≡ asked
ask_is asked r x is = sym (ap (λ (e : PortEntry). e.ask) (first_is (record { ask = asked; reply = r }) x is))

chosen_is : {A : Type 0} (b : Bool) (l : List A) (x : A) → cond b l [] ≡ x ∷ [] → (b ≡ true) × (l ≡ x ∷ [])
chosen_is true l x is = (refl, is)
chosen_is false l x is = absurd (none_is x is)

-- the history has one entry, where it adds one to the log and has at most one
pub one_of : (query : ℕ) (more : List Entry) (x : PortEntry) → length more ≤ 1 → log_of query more ≡ x ∷ [] → (e : Entry) × (more ≡ e ∷ []) × (logs query e ≡ x ∷ [])
one_of query [] x few is = absurd (none_is x is)
one_of query (e ∷ []) x few is = (e, refl, sym (append-nil (logs query e)) ∙ is)
one_of query (e ∷ f ∷ more) x few is = absurd (omega (arith, few))

-- ---- a put that was refused since the numbers are used up

abbrev pub too_long : PortAsk → ConnKey → PortEntry
too_long was key = record { ask = was; reply = reply.Refused (port.TooLong key) }

put_was : (asked was : PortAsk) (k key : ConnKey) (replied : HubReply) → put_logs asked k replied ≡ too_long was key ∷ [] → (k ≡ key) × (which : ConnKey) × (replied ≡ Gave (Err (hub.TooLong which)))
put_was asked was k key (Gave (Ok ds)) is = let bad : reply.Did ≡ reply.Refused (port.TooLong key) = reply_is asked was _ _ is in cc
put_was asked was k key (Gave (Err hub.Full)) is = let bad : reply.Refused port.Full ≡ reply.Refused (port.TooLong key) = reply_is asked was _ _ is in cc
put_was asked was k key (Gave (Err hub.Stopped)) is = let bad : reply.Refused port.Stopped ≡ reply.Refused (port.TooLong key) = reply_is asked was _ _ is in cc
put_was asked was k key (Gave (Err (hub.TooLong which))) is = let same : reply.Refused (port.TooLong k) ≡ reply.Refused (port.TooLong key) = reply_is asked was _ _ is in let keys : k ≡ key = cc in (keys, which, refl)
put_was asked was k key (Gave (Err hub.Empty)) is = absurd (none_is _ is)
put_was asked was k key (Gave (Err hub.Ended)) is = absurd (none_is _ is)
put_was asked was k key (Gave (Err (hub.Unknown q motion))) is = absurd (none_is _ is)
put_was asked was k key (Gave (Err hub.Memory)) is = absurd (none_is _ is)
put_was asked was k key (Begun r) is = absurd (none_is _ is)
put_was asked was k key (Took r) is = absurd (none_is _ is)
put_was asked was k key (Came how ds) is = absurd (none_is _ is)
put_was asked was k key (Ticked r) is = absurd (none_is _ is)
put_was asked was k key (Cleared r) is = absurd (none_is _ is)
put_was asked was k key (Left r) is = absurd (none_is _ is)
put_was asked was k key Memory is = absurd (none_is _ is)

take_not : (asked was : PortAsk) (key : ConnKey) (replied : HubReply) → take_logs asked replied ≡ too_long was key ∷ [] → ⊥
take_not asked was key (Took (Ok r)) is = let bad : reply.Gave r.0 ≡ reply.Refused (port.TooLong key) = reply_is asked was _ _ is in cc
take_not asked was key (Took (Err hub.Empty)) is = let bad : reply.Refused port.Empty ≡ reply.Refused (port.TooLong key) = reply_is asked was _ _ is in cc
take_not asked was key (Took (Err hub.Ended)) is = let bad : reply.Refused port.Ended ≡ reply.Refused (port.TooLong key) = reply_is asked was _ _ is in cc
take_not asked was key (Took (Err hub.Full)) is = none_is _ is
take_not asked was key (Took (Err hub.Stopped)) is = none_is _ is
take_not asked was key (Took (Err (hub.TooLong which))) is = none_is _ is
take_not asked was key (Took (Err (hub.Unknown q motion))) is = none_is _ is
take_not asked was key (Took (Err hub.Memory)) is = none_is _ is
take_not asked was key (Begun r) is = none_is _ is
take_not asked was key (Gave r) is = none_is _ is
take_not asked was key (Came how ds) is = none_is _ is
take_not asked was key (Ticked r) is = none_is _ is
take_not asked was key (Cleared r) is = none_is _ is
take_not asked was key (Left r) is = none_is _ is
take_not asked was key Memory is = none_is _ is

halt_not : (asked was : PortAsk) (key : ConnKey) (replied : HubReply) → halt_logs asked replied ≡ too_long was key ∷ [] → ⊥
halt_not asked was key (Gave (Ok ds)) is = let bad : reply.Did ≡ reply.Refused (port.TooLong key) = reply_is asked was _ _ is in cc
halt_not asked was key (Gave (Err refusal)) is = none_is _ is
halt_not asked was key (Begun r) is = none_is _ is
halt_not asked was key (Took r) is = none_is _ is
halt_not asked was key (Came how ds) is = none_is _ is
halt_not asked was key (Ticked r) is = none_is _ is
halt_not asked was key (Cleared r) is = none_is _ is
halt_not asked was key (Left r) is = none_is _ is
halt_not asked was key Memory is = none_is _ is

-- the entry of the history is such a put, or a finish
abbrev pub WasTooLong : ConnKey → HubAsk → HubReply → Type 0
WasTooLong key asked replied = PutsOn key asked × (which : ConnKey) × (replied ≡ Gave (Err (hub.TooLong which)))

pub was_too_long : (query : ℕ) (asked : HubAsk) (replied : HubReply) (was : PortAsk) (key : ConnKey) → logs_by query asked replied ≡ too_long was key ∷ [] → WasTooLong key asked replied
was_too_long query (Begin q ends) replied was key is = absurd (none_is _ is)
was_too_long query (Put k chunk) replied was key is =
    let w = put_was (ask.Put k.motion k.to chunk) was k key replied (chosen_is (k.query == query) _ _ is).1 in
    (inl (chunk, ap (λ x. Put x chunk) w.0), w.1, w.2)
was_too_long query (Finish k) replied was key is =
    let w = put_was (ask.Finish k.motion k.to) was k key replied (chosen_is (k.query == query) _ _ is).1 in
    (inr (ap Finish w.0), w.1, w.2)
was_too_long query (Take q motion) replied was key is = absurd (take_not (ask.Take motion) was key replied (chosen_is (q == query) _ _ is).1)
was_too_long query (TakeFrom k) replied was key is = absurd (take_not (ask.TakeFrom k.motion k.from) was key replied (chosen_is (k.query == query) _ _ is).1)
was_too_long query (Halt k) replied was key is = absurd (halt_not (ask.Halt k.motion k.from) was key replied (chosen_is (k.query == query) _ _ is).1)
was_too_long query (Arrive d) replied was key is = absurd (none_is _ is)
was_too_long query Tick replied was key is = absurd (none_is _ is)
was_too_long query (Clear q) replied was key is = absurd (none_is _ is)
was_too_long query (Leave q) replied was key is = absurd (none_is _ is)

-- ---- a take that was answered Ended

put_asks : (asked : PortAsk) (k : ConnKey) (replied : HubReply) (x : PortEntry) → put_logs asked k replied ≡ x ∷ [] → x.ask ≡ asked
put_asks asked k (Gave (Ok ds)) x is = ask_is asked _ x is
put_asks asked k (Gave (Err hub.Full)) x is = ask_is asked _ x is
put_asks asked k (Gave (Err hub.Stopped)) x is = ask_is asked _ x is
put_asks asked k (Gave (Err (hub.TooLong which))) x is = ask_is asked _ x is
put_asks asked k (Gave (Err hub.Empty)) x is = absurd (none_is x is)
put_asks asked k (Gave (Err hub.Ended)) x is = absurd (none_is x is)
put_asks asked k (Gave (Err (hub.Unknown q motion))) x is = absurd (none_is x is)
put_asks asked k (Gave (Err hub.Memory)) x is = absurd (none_is x is)
put_asks asked k (Begun r) x is = absurd (none_is x is)
put_asks asked k (Took r) x is = absurd (none_is x is)
put_asks asked k (Came how ds) x is = absurd (none_is x is)
put_asks asked k (Ticked r) x is = absurd (none_is x is)
put_asks asked k (Cleared r) x is = absurd (none_is x is)
put_asks asked k (Left r) x is = absurd (none_is x is)
put_asks asked k Memory x is = absurd (none_is x is)

take_asks : (asked : PortAsk) (replied : HubReply) (x : PortEntry) → take_logs asked replied ≡ x ∷ [] → x.ask ≡ asked
take_asks asked (Took (Ok r)) x is = ask_is asked _ x is
take_asks asked (Took (Err hub.Empty)) x is = ask_is asked _ x is
take_asks asked (Took (Err hub.Ended)) x is = ask_is asked _ x is
take_asks asked (Took (Err hub.Full)) x is = absurd (none_is x is)
take_asks asked (Took (Err hub.Stopped)) x is = absurd (none_is x is)
take_asks asked (Took (Err (hub.TooLong which))) x is = absurd (none_is x is)
take_asks asked (Took (Err (hub.Unknown q motion))) x is = absurd (none_is x is)
take_asks asked (Took (Err hub.Memory)) x is = absurd (none_is x is)
take_asks asked (Begun r) x is = absurd (none_is x is)
take_asks asked (Gave r) x is = absurd (none_is x is)
take_asks asked (Came how ds) x is = absurd (none_is x is)
take_asks asked (Ticked r) x is = absurd (none_is x is)
take_asks asked (Cleared r) x is = absurd (none_is x is)
take_asks asked (Left r) x is = absurd (none_is x is)
take_asks asked Memory x is = absurd (none_is x is)

halt_asks : (asked : PortAsk) (replied : HubReply) (x : PortEntry) → halt_logs asked replied ≡ x ∷ [] → x.ask ≡ asked
halt_asks asked (Gave (Ok ds)) x is = ask_is asked _ x is
halt_asks asked (Gave (Err refusal)) x is = absurd (none_is x is)
halt_asks asked (Begun r) x is = absurd (none_is x is)
halt_asks asked (Took r) x is = absurd (none_is x is)
halt_asks asked (Came how ds) x is = absurd (none_is x is)
halt_asks asked (Ticked r) x is = absurd (none_is x is)
halt_asks asked (Cleared r) x is = absurd (none_is x is)
halt_asks asked (Left r) x is = absurd (none_is x is)
halt_asks asked Memory x is = absurd (none_is x is)

abbrev pub ended : ℕ → PortEntry
ended motion = record { ask = ask.Take motion; reply = reply.Refused port.Ended }

ended_was : (asked : PortAsk) (motion : ℕ) (replied : HubReply) → take_logs asked replied ≡ ended motion ∷ [] → replied ≡ Took (Err hub.Ended)
ended_was asked motion (Took (Ok r)) is = let bad : reply.Gave r.0 ≡ reply.Refused port.Ended = reply_is asked (ask.Take motion) _ _ is in cc
ended_was asked motion (Took (Err hub.Empty)) is = let bad : reply.Refused port.Empty ≡ reply.Refused port.Ended = reply_is asked (ask.Take motion) _ _ is in cc
ended_was asked motion (Took (Err hub.Ended)) is = refl
ended_was asked motion (Took (Err hub.Full)) is = absurd (none_is _ is)
ended_was asked motion (Took (Err hub.Stopped)) is = absurd (none_is _ is)
ended_was asked motion (Took (Err (hub.TooLong which))) is = absurd (none_is _ is)
ended_was asked motion (Took (Err (hub.Unknown q m))) is = absurd (none_is _ is)
ended_was asked motion (Took (Err hub.Memory)) is = absurd (none_is _ is)
ended_was asked motion (Begun r) is = absurd (none_is _ is)
ended_was asked motion (Gave r) is = absurd (none_is _ is)
ended_was asked motion (Came how ds) is = absurd (none_is _ is)
ended_was asked motion (Ticked r) is = absurd (none_is _ is)
ended_was asked motion (Cleared r) is = absurd (none_is _ is)
ended_was asked motion (Left r) is = absurd (none_is _ is)
ended_was asked motion Memory is = absurd (none_is _ is)

pub was_ended : (query motion : ℕ) (asked : HubAsk) (replied : HubReply) → logs_by query asked replied ≡ ended motion ∷ [] → (asked ≡ Take query motion) × (replied ≡ Took (Err hub.Ended))
was_ended query motion (Begin q ends) replied is = absurd (none_is _ is)
was_ended query motion (Put k chunk) replied is =
    let bad : ask.Take motion ≡ ask.Put k.motion k.to chunk = put_asks (ask.Put k.motion k.to chunk) k replied (ended motion) (chosen_is (k.query == query) _ _ is).1 in cc
was_ended query motion (Finish k) replied is =
    let bad : ask.Take motion ≡ ask.Finish k.motion k.to = put_asks (ask.Finish k.motion k.to) k replied (ended motion) (chosen_is (k.query == query) _ _ is).1 in cc
was_ended query motion (Take q m) replied is =
    let chosen = chosen_is (q == query) _ _ is in
    let of : q ≡ query = (Decides-eqb q query).0 chosen.0 in
    let asks : ask.Take motion ≡ ask.Take m = take_asks (ask.Take m) replied (ended motion) chosen.1 in
    let same : motion ≡ m = cc in
    (ap (λ x. Take x m) of ∙ ap (λ x. Take query x) (sym same), ended_was (ask.Take m) motion replied chosen.1)
was_ended query motion (TakeFrom k) replied is =
    let bad : ask.Take motion ≡ ask.TakeFrom k.motion k.from = take_asks (ask.TakeFrom k.motion k.from) replied (ended motion) (chosen_is (k.query == query) _ _ is).1 in cc
was_ended query motion (Halt k) replied is =
    let bad : ask.Take motion ≡ ask.Halt k.motion k.from = halt_asks (ask.Halt k.motion k.from) replied (ended motion) (chosen_is (k.query == query) _ _ is).1 in cc
was_ended query motion (Arrive d) replied is = absurd (none_is _ is)
was_ended query motion Tick replied is = absurd (none_is _ is)
was_ended query motion (Clear q) replied is = absurd (none_is _ is)
was_ended query motion (Leave q) replied is = absurd (none_is _ is)

-- ---- an entry that halts

-- all entries of the log take of this motion
abbrev pub AllTake : ℕ → List PortEntry → Type 0
AllTake motion log = AllByRecursion (λ (x : PortEntry). x.ask ≡ ask.Take motion) log

not_given : (m : ℕ) (k : ConnKey) (replied : HubReply) → AllTake m (halt_logs (ask.Halt k.motion k.from) replied) → was_given replied ≡ false
not_given m k (Gave (Ok ds)) all = let bad : ask.Halt k.motion k.from ≡ ask.Take m = all.0 in cc
not_given m k (Gave (Err refusal)) all = refl
not_given m k (Begun r) all = refl
not_given m k (Took r) all = refl
not_given m k (Came how ds) all = refl
not_given m k (Ticked r) all = refl
not_given m k (Cleared r) all = refl
not_given m k (Left r) all = refl
not_given m k Memory all = refl

unhalted_by : (query m : ℕ) (c : ConnKey) (asked : HubAsk) (replied : HubReply) → c.query ≡ query → AllTake m (logs_by query asked replied) → is_halt c asked replied ≡ false
unhalted_by query m c (Begin q ends) replied of all = refl
unhalted_by query m c (Put k chunk) replied of all = refl
unhalted_by query m c (Finish k) replied of all = refl
unhalted_by query m c (Take q motion) replied of all = refl
unhalted_by query m c (TakeFrom k) replied of all = refl
unhalted_by query m c (Halt k) replied of all = by (key_eq k c) refl
  where
    by : (b : Bool) → key_eq k c ≡ b → (b && was_given replied) ≡ false
    by false differ = refl
    by true same =
        let of_query : k.query ≡ query = ap (λ (x : ConnKey). x.query) (key_eq-tells k c same) ∙ of in
        not_given m k replied (subst (λ b. AllTake m (cond b (halt_logs (ask.Halt k.motion k.from) replied) [])) ((Decides-eqb k.query query).1 of_query) all)
unhalted_by query m c (Arrive d) replied of all = refl
unhalted_by query m c Tick replied of all = refl
unhalted_by query m c (Clear q) replied of all = refl
unhalted_by query m c (Leave q) replied of all = refl

-- of at most one entry, where all of its log takes, none halts
pub none_halts : (query m : ℕ) (c : ConnKey) (more : List Entry) → length more ≤ 1 → c.query ≡ query → AllTake m (log_of query more) → list_any (halts c) more ≡ false
none_halts query m c [] few of all = refl
none_halts query m c (e ∷ []) few of all =
    ap (λ b. b || false) (unhalted_by query m c e.ask e.reply of (subst (AllTake m) (append-nil (logs query e)) all))
none_halts query m c (e ∷ f ∷ more) few of all = absurd (omega (arith, few))
