-- What a tick emits: of each connection what is due of it, and nothing else of it.
use Rattle.std.proofs.Common.{◌≡◌, ◌≢◌, ℕ, zero, suc, List, [], ◌∷◌, ◌++◌, Bool, true, false, Some, None, Ok, refl, ap, sym, ◌∙◌, subst, arith, inl, inr, ◌⊎◌}
use Rattle.std.proofs.Common.{slice_get, append-nil}
use Rattle.std.specs.List.{AllByRecursion, Contains, flat_map}
use Rattle.std.proofs.lemmas.List.Elements.{Contains-append_cases, Contains-append_left, Contains-append_right}
use Rattle.ic_base.specs.Keys.{key_eq}
use Rattle.ic_base.specs.declared.keys.ConnKey.{ConnKey}
use Rattle.ic_base.specs.declared.keys.ConnEnd.{ConnEnd}
use Rattle.ic_base.specs.declared.datagram.Datagram.{Datagram}
use Rattle.ic_base.proofs.SameKeys.{key_eq-same, key_eq-tells}
use Rattle.ic_law.specs.declared.history.Entry.{Entry}
use Rattle.ic_law.specs.History.{rows_in}
use Rattle.ic_law.specs.Points.{IsFormed}
use Rattle.ic_law.specs.Emitting.{queries_in}
use Rattle.ic_law.proofs.Lists.{flat_map-append, Contains-flat_map, Contains-middle}
use Rattle.ic_sender.specs.Entries.{AreAmong}
use Rattle.ic_timed_sender.specs.Timed.{TimedState, datagrams_due, queries_due}
use Rattle.ic_timed_sender.specs.Emitted.{IsOutgoingOf, AreOutgoing}
use Rattle.ic_hub_laws.specs.Entries.{IsSentHere}
use Rattle.ic_law.proofs.Datagrams.{rows_not, queries_not_of, flat_none}
use Rattle.ic_hub.specs.Hubbing.{Hubbing, Living, place_in}
use Rattle.ic_hub.specs.Standing.{Stands}
use Rattle.ic_hub.specs.Entries.{tick_entry}
use Rattle.ic_hub.specs.Ticking.{MayResend, MayAsk, MayTick, emission_of}
use Rattle.ic_hub.proofs.Places.{Shaped, all_at, contains_at, end_of_sender, one_sender}
use Rattle.ic_hub.proofs.Ticking.{some_one}
use Rattle.ic_hub.proofs.Moving.{has_end}
use Rattle.ic_hub.proofs.Putting.{packet_of_it, ours_of, are_formed}

-- ---- lists of lists

-- where nothing is read of what any of them gives
flat_nothing : {A D B : Type 0} (g : A → List D) (f : D → List B) (xs : List A) → ((j : ℕ) (y : A) → slice_get xs j ≡ Some y → flat_map f (g y) ≡ []) → flat_map f (flat_map g xs) ≡ []
flat_nothing g f [] none = refl
flat_nothing g f (x ∷ xs) none =
    flat_map-append f (g x) (flat_map g xs) ∙ ap (λ l. l ++ flat_map f (flat_map g xs)) (none zero x refl) ∙ flat_nothing g f xs (λ j y at. none (suc j) y at)

-- where something is read of what one of them gives alone
flat_one : {A D B : Type 0} (g : A → List D) (f : D → List B) (xs : List A) (i : ℕ) (x : A) → slice_get xs i ≡ Some x → ((j : ℕ) (y : A) → slice_get xs j ≡ Some y → j ≢ i → flat_map f (g y) ≡ [])
    → flat_map f (flat_map g xs) ≡ flat_map f (g x)
flat_one g f [] i x at none = let bad : None ≡ Some x = at in cc
flat_one g f (y ∷ ys) zero x at none =
    let same : y ≡ x = some_one y x at in
    flat_map-append f (g y) (flat_map g ys) ∙ ap (λ l. flat_map f (g y) ++ l) (flat_nothing g f ys (λ j z there. none (suc j) z there (λ e. absurd (omega (arith, e))))) ∙ append-nil (flat_map f (g y)) ∙ ap (λ z. flat_map f (g z)) same
flat_one g f (y ∷ ys) (suc i) x at none =
    flat_map-append f (g y) (flat_map g ys) ∙ ap (λ l. l ++ flat_map f (flat_map g ys)) (none zero y refl (λ e. absurd (omega (arith, e)))) ∙ flat_one g f ys i x at (λ j z there apart. none (suc j) z there (λ e. apart (omega (arith, e))))

-- ---- readings of one connection

-- what reads nothing of another connection's packets
abbrev ReadsOne : {B : Type 0} → ConnKey → (Datagram → List B) → Type 0
ReadsOne k f = (end : ConnEnd) (packet : ℕ) (d : Datagram) → IsOutgoingOf end packet d → end.key ≢ k → f d ≡ []

rows_one : (k : ConnKey) → ReadsOne k (rows_in k)
rows_one k end packet d is apart = rows_not k d (record { head = is.head; body = is.body }) is.reads (λ same forth. apart (sym is.key ∙ same))

queries_one : (k : ConnKey) → ReadsOne k (queries_in k)
queries_one k end packet d is apart = queries_not_of k d (record { head = is.head; body = is.body }) is.reads (λ same forth. apart (sym is.key ∙ same))

none_of_other : {B : Type 0} (k : ConnKey) (f : Datagram → List B) (o : TimedState) (ds : List Datagram) → ReadsOne k f → AreOutgoing o.sending ds → o.sending.end.key ≢ k → flat_map f ds ≡ []
none_of_other k f o ds one formed apart = flat_none f ds (λ d c. one o.sending.end o.sending.settings.packet d (formed d c) apart)

-- each query may tick
abbrev pub AllMay : Hubbing → Type 0
AllMay s = AllByRecursion MayTick s.live

-- the tick of a hub that may
abbrev pub its_tick : Hubbing → Entry
its_tick s = tick_entry (Ok (flat_map emission_of s.live))

may_at : (s : Hubbing) (q : ℕ) (l : Living) → AllMay s → slice_get s.live q ≡ Some l → MayTick l
may_at s q l all at = all_at MayTick s.live q l all at

pub packets_formed : (s : Hubbing) (q i : ℕ) (l : Living) (o : TimedState) → AllMay s → slice_get s.live q ≡ Some l → slice_get l.senders i ≡ Some o → AreOutgoing o.sending (datagrams_due o)
packets_formed s q i l o all at here = (all_at MayResend l.senders i o (may_at s q l all at).packets here).formed

pub queries_formed : (s : Hubbing) (q i : ℕ) (l : Living) (o : TimedState) → AllMay s → slice_get s.live q ≡ Some l → slice_get l.senders i ≡ Some o → AreOutgoing o.sending (queries_due o)
queries_formed s q i l o all at here = (all_at MayAsk l.senders i o (may_at s q l all at).queries here).formed

-- what is read of a connection is read of what is due of it
reads_mine : {B : Type 0} (s : Hubbing) (q i : ℕ) (l : Living) (o : TimedState) (f : Datagram → List B) → Shaped s → AllMay s → slice_get s.live q ≡ Some l → slice_get l.senders i ≡ Some o → ReadsOne o.sending.end.key f
    → flat_map f (flat_map emission_of s.live) ≡ flat_map f (datagrams_due o ++ queries_due o)
reads_mine s q i l o f shaped all at here one =
    flat_one emission_of f s.live q l at (λ r m there apart.
    let other : (j : ℕ) (p : TimedState) → slice_get m.senders j ≡ Some p → p.sending.end.key ≢ o.sending.end.key = (λ j p pj same. apart (one_sender s r q j i m l p o shaped there at pj here same).query) in
    flat_map-append f (flat_map datagrams_due m.senders) (flat_map queries_due m.senders)
    ∙ ap (λ x. x ++ flat_map f (flat_map queries_due m.senders)) (flat_nothing datagrams_due f m.senders (λ j p pj. none_of_other o.sending.end.key f p (datagrams_due p) one (packets_formed s r j m p all there pj) (other j p pj)))
    ∙ flat_nothing queries_due f m.senders (λ j p pj. none_of_other o.sending.end.key f p (queries_due p) one (queries_formed s r j m p all there pj) (other j p pj)))
    ∙ flat_map-append f (flat_map datagrams_due l.senders) (flat_map queries_due l.senders)
    ∙ ap (λ x. x ++ flat_map f (flat_map queries_due l.senders))
    (flat_one datagrams_due f l.senders i o here (λ j p pj apart. none_of_other o.sending.end.key f p (datagrams_due p) one (packets_formed s q j l p all at pj) (λ same. apart (one_sender s q q j i l l p o shaped at at pj here same).place)))
    ∙ ap (λ x. flat_map f (datagrams_due o) ++ x)
    (flat_one queries_due f l.senders i o here (λ j p pj apart. none_of_other o.sending.end.key f p (queries_due p) one (queries_formed s q j l p all at pj) (λ same. apart (one_sender s q q j i l l p o shaped at at pj here same).place)))
    ∙ sym (flat_map-append f (datagrams_due o) (queries_due o))

-- ---- one datagram

-- it was due of one of the connections
pub record EmittedBy (s : Hubbing) (d : Datagram) : Type 0 where
  pub query : ℕ
  pub place : ℕ
  pub living : Living
  pub sender : TimedState
  pub live : slice_get s.live query ≡ Some living
  pub here : slice_get living.senders place ≡ Some sender
  pub has : Contains (datagrams_due sender ++ queries_due sender) d

pub emitted_by : (s : Hubbing) (d : Datagram) → Contains (flat_map emission_of s.live) d → EmittedBy s d
emitted_by s d c =
    let w = Contains-flat_map emission_of s.live d c in
    let l = w.1 in
    let q = contains_at s.live l (subst (λ xs. Contains xs l) (sym w.3) (Contains-middle w.0 l w.2)) in
    elim (Contains-append_cases (flat_map datagrams_due l.senders) (flat_map queries_due l.senders) d w.4) [
      | inl packets ↦ (
          let v = Contains-flat_map datagrams_due l.senders d packets in
          let i = contains_at l.senders v.1 (subst (λ xs. Contains xs v.1) (sym v.3) (Contains-middle v.0 v.1 v.2)) in
          record { query = q.0; place = i.0; living = l; sender = v.1; live = q.1; here = i.1; has = Contains-append_left (datagrams_due v.1) (queries_due v.1) d v.4 })
      | inr asks ↦ (
          let v = Contains-flat_map queries_due l.senders d asks in
          let i = contains_at l.senders v.1 (subst (λ xs. Contains xs v.1) (sym v.3) (Contains-middle v.0 v.1 v.2)) in
          record { query = q.0; place = i.0; living = l; sender = v.1; live = q.1; here = i.1; has = Contains-append_right (datagrams_due v.1) (queries_due v.1) d v.4 })
    ]

-- and is of its form
pub outgoing_of : (s : Hubbing) (d : Datagram) (w : EmittedBy s d) → AllMay s → IsOutgoingOf w.sender.sending.end w.sender.sending.settings.packet d
outgoing_of s d w all = elim (Contains-append_cases (datagrams_due w.sender) (queries_due w.sender) d w.has) [
  | inl packet ↦ packets_formed s w.query w.place w.living w.sender all w.live w.here d packet
  | inr query ↦ queries_formed s w.query w.place w.living w.sender all w.live w.here d query
]

pub sent_here : (s : Hubbing) (h : List Entry) (d : Datagram) → Shaped s → Stands s h → AllMay s → Contains (flat_map emission_of s.live) d → IsSentHere h d
sent_here s h d shaped stands all c =
    let w = emitted_by s d c in
    let its = end_of_sender w.living w.place w.sender (shaped.living w.query w.living w.live) w.here in
    let there = has_end s h w.query w.living w.sender.sending.end shaped stands w.live its.has in
    let is = packet_of_it w.sender.sending.end w.sender.sending.settings.packet d (outgoing_of s d w all) in
    record {
      end = there.end;
      here = there.here;
      sends = there.side_is ∙ its.side_is;
      packet = record { packet = is.packet; reads = is.reads; key = is.key ∙ sym there.key; way = is.way };
    }

pub formed_here : (s : Hubbing) (d : Datagram) → Shaped s → AllMay s → Contains (flat_map emission_of s.live) d → IsFormed (place_in s) d
formed_here s d shaped all c =
    let w = emitted_by s d c in
    let its = end_of_sender w.living w.place w.sender (shaped.living w.query w.living w.live) w.here in
    let ours = ours_of s w.query w.place w.living w.sender shaped w.live w.here in
    are_formed (place_in s) w.sender.sending.end w.sender.sending.settings.packet d ours.session (ours.sends_here its.side_is) (outgoing_of s d w all)

-- ---- all of them

-- a datagram of one connection is due of it, or of another
among_each : (s : Hubbing) (q i : ℕ) (l : Living) (o : TimedState) (d : Datagram) → Shaped s → AllMay s → slice_get s.live q ≡ Some l → slice_get l.senders i ≡ Some o → Contains (flat_map emission_of s.live) d
    → Contains (datagrams_due o ++ queries_due o) d ⊎ ((rows_in o.sending.end.key d ≡ []) × (queries_in o.sending.end.key d ≡ []))
among_each s q i l o d shaped all at here c = by (emitted_by s d c)
  where
    k : ConnKey
    k = o.sending.end.key

    cases : (w : EmittedBy s d) → (b : Bool) → key_eq w.sender.sending.end.key k ≡ b → Contains (datagrams_due o ++ queries_due o) d ⊎ ((rows_in k d ≡ []) × (queries_in k d ≡ []))
    cases w true same =
        let one = one_sender s w.query q w.place i w.living l w.sender o shaped w.live at w.here here (key_eq-tells w.sender.sending.end.key k same) in
        let its : w.living ≡ l = some_one w.living l (sym w.live ∙ ap (λ n. slice_get s.live n) one.query ∙ at) in
        let is : w.sender ≡ o = some_one w.sender o (sym w.here ∙ ap (λ (x : Living). slice_get x.senders w.place) its ∙ ap (λ n. slice_get l.senders n) one.place ∙ here) in
        inl (subst (λ (x : TimedState). Contains (datagrams_due x ++ queries_due x) d) is w.has)
    cases w false differ =
        let end = w.sender.sending.end in
        let apart : end.key ≢ k = (λ same. let bad : false ≡ true = sym differ ∙ ap (λ x. key_eq x k) same ∙ key_eq-same k in cc) in
        let is = outgoing_of s d w all in
        inr (rows_one k end w.sender.sending.settings.packet d is apart, queries_one k end w.sender.sending.settings.packet d is apart)

    by : EmittedBy s d → Contains (datagrams_due o ++ queries_due o) d ⊎ ((rows_in k d ≡ []) × (queries_in k d ≡ []))
    by w = cases w (key_eq w.sender.sending.end.key k) refl

pub among : (s : Hubbing) (q i : ℕ) (l : Living) (o : TimedState) → Shaped s → AllMay s → slice_get s.live q ≡ Some l → slice_get l.senders i ≡ Some o
    → AreAmong o.sending.end.key (datagrams_due o ++ queries_due o) (flat_map emission_of s.live)
among s q i l o shaped all at here = record {
  rows = reads_mine s q i l o (rows_in o.sending.end.key) shaped all at here (rows_one o.sending.end.key);
  queries = reads_mine s q i l o (queries_in o.sending.end.key) shaped all at here (queries_one o.sending.end.key);
  each = λ d c. among_each s q i l o d shaped all at here c;
}
