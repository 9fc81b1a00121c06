-- No number is stored twice on a connection.
use Rattle.std.proofs.Common.{◌≡◌, ◌≢◌, ◌+◌, ◌-◌, ℤ, List, [], ◌∷◌, ◌++◌, Bool, true, false, not, cond, ◌&&◌, Option, Some, None, refl, ap, sym, ◌∙◌, subst}
use Rattle.std.proofs.Common.{inl, inr, ◌⊎◌, arith, append-nil}
use Rattle.std.specs.List.{Contains, list_any}
use Rattle.std.specs.Ordering.{int_eq}
use Rattle.std.proofs.lemmas.Bool.Decides.{Decides-int_eq}
use Rattle.std.proofs.lemmas.List.Elements.{Contains-append_cases}
use Rattle.ic_base.specs.declared.keys.ConnKey.{ConnKey}
use Rattle.ic_base.specs.declared.keys.ConnEnd.{ConnEnd}
use Rattle.ic_base.specs.declared.datagram.Datagram.{Datagram}
use Rattle.ic_header.specs.declared.header.Header.{Header}
use Rattle.ic_header.specs.declared.flags.Flags.TheVariants.{Stop, Nak, Duplicate}
use Rattle.ic_law.specs.declared.history.HubAsk.{HubAsk}
use Rattle.ic_law.specs.declared.history.HubAsk.TheVariants.{Begin, Put, Finish, Take, TakeFrom, Halt, Arrive, Tick, Clear, Leave}
use Rattle.ic_law.specs.declared.history.HubReply.{HubReply}
use Rattle.ic_law.specs.declared.history.HubReply.TheVariants.{Memory}
use Rattle.ic_law.specs.declared.history.Entry.{Entry}
use Rattle.ic_base.specs.Keys.{key_eq}
use Rattle.ic_header.specs.Packets.{Packet, RowPacket, packet_of, key_of, is_rows, is_last, goes_forth, header_for}
use Rattle.ic_law.specs.History.{datagrams_of, rows_read, rows_in, number_of}
use Rattle.ic_law.specs.Storing.{datagram_tells_stored, stored_by, stores, stored_of, stored_numbers_of}
use Rattle.ic_law.specs.Points.{Place, IsDirected}
use Rattle.ic_law.specs.Receiving.{AnswersRows, Stopped, Again, Far, Next, Gap}
use Rattle.ic_law.specs.Arriving.{IsForeign, Misdirected, Arrives, Stranger, OfEnded, OfNotBegun, TooLate, Known}
use Rattle.ic_header.specs.Packets.{turned_header}
use Rattle.ic_law.specs.Hub.{HubPoint, HubLaw}
use Rattle.ic_law.proofs.Lists.{Contains-none, Contains-head, Contains-one, Contains-map}
use Rattle.ic_law.proofs.Readings.{fold_every, rows_in-reads, rows_go_forth, stored_of-push}
use Rattle.ic_law.proofs.Deciding.{Told}
use Rattle.ic_law.proofs.PacketKinds.{not_telling}

-- ---- directions

told_int : (a b : ℤ) → Told (a ≡ b)
told_int a b = by (int_eq a b) refl
  where
    by : (t : Bool) → int_eq a b ≡ t → Told (a ≡ b)
    by true h = inl ((Decides-int_eq a b).0 h)
    by false h = inr (λ same. let bad : false ≡ true = sym h ∙ (Decides-int_eq a b).1 same in cc)

told_directed : (b : Bool) (d : Datagram) (key : ConnKey) → Told (IsDirected b d key)
told_directed true d key = elim (told_int d.from key.from) [
  | inl a ↦ elim (told_int d.to key.to) [ inl b ↦ inl (a, b) | inr b ↦ inr (λ w. b w.1) ]
  | inr a ↦ inr (λ w. a w.0)
]
told_directed false d key = elim (told_int d.from key.to) [
  | inl a ↦ elim (told_int d.to key.from) [ inl b ↦ inl (a, b) | inr b ↦ inr (λ w. b w.1) ]
  | inr a ↦ inr (λ w. a w.0)
]

-- what isn't foreign goes the way of its kind
pub directed_of : (place : Place) (h : List Entry) (d : Datagram) (head : Header) → (IsForeign place h d head → ⊥) → IsDirected (goes_forth head.flags) d (key_of head)
directed_of place h d head ours = elim (told_directed (goes_forth head.flags) d (key_of head)) [ inl is ↦ is | inr not_so ↦ absurd (ours (Misdirected not_so)) ]

-- ---- rows of a datagram

pub rows_cases : (c : ConnKey) (d : Datagram) → (rows_in c d ≡ []) ⊎ ((q : RowPacket) × (rows_in c d ≡ q ∷ []))
rows_cases c d = by (packet_of d)
  where
    few : (List RowPacket) → Type 0
    few rows = (rows ≡ []) ⊎ ((q : RowPacket) × (rows ≡ q ∷ []))

    one : (b : Bool) (q : RowPacket) → few (cond b (q ∷ []) [])
    one true q = inr (q, refl)
    one false q = inl refl

    by : (o : Option Packet) → few (rows_read c o)
    by None = inl refl
    by (Some p) = one (is_rows p.head.flags && key_eq (key_of p.head) c) (record { seq = p.head.seq; payload = p.body; last = is_last p.head.flags })

-- ---- what an entry stores

-- an entry stores nothing, or one packet whose number wasn't stored
pub data Stores (c : ConnKey) (h : List Entry) (rows : List RowPacket) : Type 0 where
  StoresNone : rows ≡ [] → Stores c h rows
  StoresOne : (q : RowPacket) → rows ≡ q ∷ [] → (Contains (stored_numbers_of c h) q.seq → ⊥) → Stores c h rows

pub stores_new : (place : Place) (c : ConnKey) (h : List Entry) (e : Entry) → HubPoint place h e → Stores c h (stores c e)
stores_new place c h e point = by e.ask refl
  where
    arrived : (d : Datagram) (q : RowPacket) → e.ask ≡ Arrive d → rows_in c d ≡ q ∷ [] → list_any datagram_tells_stored (datagrams_of e.reply) ≡ true → Contains (stored_numbers_of c h) q.seq → ⊥
    arrived d q is rows tells again =
        let told : (reply : HubReply) → e.reply ≡ reply → list_any datagram_tells_stored (datagrams_of reply) ≡ false → ⊥ =
        (λ reply same none. let bad : true ≡ false = sym tells ∙ ap (λ r. list_any datagram_tells_stored (datagrams_of r)) same ∙ none in cc) in
        let reads = rows_in-reads c d q (subst (λ l. Contains l q) (sym rows) (Contains-head q [])) in
        let given : e.reply ≢ Memory = (λ memory. told Memory memory refl) in
        let forth = rows_go_forth reads.packet.head.flags reads.rows in
        comes told reads.packet forth reads.key given (point.arrived d reads.packet is reads.reads given)
      where
        hears : ((reply : HubReply) → e.reply ≡ reply → list_any datagram_tells_stored (datagrams_of reply) ≡ false → ⊥) → (end : ConnEnd) → end.key ≡ c → AnswersRows place.settings end h q e.reply → ⊥
        hears told end key (Stopped halted same) = told _ same (not_telling _ (header_for end Stop 0 q.seq 0) [] refl refl)
        hears told end key (Again r open_end run there same) = told _ same (not_telling _ (header_for end Duplicate 0 q.seq r) [] refl refl)
        hears told end key (Far r open_end run past new far same) = told _ same refl
        hears told end key (Next r open_end run one near short runs same) =
            run.end (subst (λ n. Contains (stored_numbers_of end.key h) n) (let back : q.seq ≡ q.seq - 1 + 1 = omega (arith, one) in back) (subst (λ k. Contains (stored_numbers_of k h) q.seq) (sym key) again))
        hears told end key (Gap r g open_end run past new near short top same) = new (subst (λ k. Contains (stored_numbers_of k h) q.seq) (sym key) again)

        comes : ((reply : HubReply) → e.reply ≡ reply → list_any datagram_tells_stored (datagrams_of reply) ≡ false → ⊥) → (p : Packet) → goes_forth p.head.flags ≡ true → key_of p.head ≡ c → e.reply ≢ Memory → Arrives place h d p e.reply → ⊥
        comes told p forth key given (Stranger foreign same) = told _ same refl
        comes told p forth key given (OfEnded ours dead way old same) = told _ same (not_telling _ (turned_header p.head Stop) [] (sym (append-nil _)) refl)
        comes told p forth key given (OfNotBegun ours dead way young same) = told _ same (not_telling _ (turned_header p.head Nak) [] (sym (append-nil _)) refl)
        comes told p forth key given (TooLate ours dead way same) = told _ same refl
        comes told p forth key given (Known ours end here its side) =
            let directed = subst (λ b. IsDirected b d (key_of p.head)) forth (directed_of place h d p.head ours) in
            hears told end (its ∙ key)
            ((point.answered end (side ∙ ap not forth) here).rows d q is (subst (λ k. IsDirected true d k) (sym its) directed) (ap (λ k. rows_in k d) (its ∙ key) ∙ rows) given)

    chosen : (b : Bool) (d : Datagram) → e.ask ≡ Arrive d → list_any datagram_tells_stored (datagrams_of e.reply) ≡ b → Stores c h (cond b (rows_in c d) [])
    chosen true d is tells = elim (rows_cases c d) [ inl none ↦ StoresNone none | inr w ↦ StoresOne w.0 w.1 (arrived d w.0 is w.1 tells) ]
    chosen false d is tells = StoresNone refl

    by : (ask : HubAsk) → e.ask ≡ ask → Stores c h (stored_by c ask e.reply)
    by (Begin query ends) is = StoresNone refl
    by (Put key chunk) is = StoresNone refl
    by (Finish key) is = StoresNone refl
    by (Take query motion) is = StoresNone refl
    by (TakeFrom key) is = StoresNone refl
    by (Halt key) is = StoresNone refl
    by (Arrive d) is = chosen (list_any datagram_tells_stored (datagrams_of e.reply)) d is refl
    by Tick is = StoresNone refl
    by (Clear query) is = StoresNone refl
    by (Leave query) is = StoresNone refl

-- ---- one packet a number

abbrev Once : ConnKey → List Entry → Type 0
Once c h = (p q : RowPacket) → Contains (stored_of c h) p → Contains (stored_of c h) q → p.seq ≡ q.seq → p ≡ q

pub stored_once : (place : Place) (c : ConnKey) (h : List Entry) → HubLaw place h → Once c h
stored_once place c h law = fold_every (HubPoint place) (Once c) h (λ p q at_p at_q same. absurd (Contains-none p at_p)) step law
  where
    grow : (before : List Entry) (e : Entry) → Once c before → Stores c before (stores c e) → Once c (before ++ e ∷ [])
    grow before e old (StoresNone none) p q at_p at_q same =
        let all : stored_of c (before ++ e ∷ []) ≡ stored_of c before = stored_of-push c before e ∙ ap (λ l. stored_of c before ++ l) none ∙ append-nil (stored_of c before) in
        old p q (subst (λ l. Contains l p) all at_p) (subst (λ l. Contains l q) all at_q) same
    grow before e old (StoresOne x one new) p q at_p at_q same =
        let all : stored_of c (before ++ e ∷ []) ≡ stored_of c before ++ x ∷ [] = stored_of-push c before e ∙ ap (λ l. stored_of c before ++ l) one in
        let number : (r : RowPacket) → Contains (stored_of c before) r → Contains (stored_numbers_of c before) r.seq = (λ r at. Contains-map number_of (stored_of c before) r at) in
        elim (Contains-append_cases (stored_of c before) (x ∷ []) p (subst (λ l. Contains l p) all at_p)) [
          | inl old_p ↦ elim (Contains-append_cases (stored_of c before) (x ∷ []) q (subst (λ l. Contains l q) all at_q)) [
            | inl old_q ↦ old p q old_p old_q same
            | inr new_q ↦ absurd (new (subst (λ n. Contains (stored_numbers_of c before) n) (same ∙ ap number_of (Contains-one x q new_q)) (number p old_p)))
          ]
          | inr new_p ↦ elim (Contains-append_cases (stored_of c before) (x ∷ []) q (subst (λ l. Contains l q) all at_q)) [
            | inl old_q ↦ absurd (new (subst (λ n. Contains (stored_numbers_of c before) n) (sym same ∙ ap number_of (Contains-one x p new_p)) (number q old_q)))
            | inr new_q ↦ Contains-one x p new_p ∙ sym (Contains-one x q new_q)
          ]
        ]

    step : (before : List Entry) (e : Entry) (after : List Entry) → h ≡ before ++ e ∷ after → HubPoint place before e → Once c before → Once c (before ++ e ∷ [])
    step before e after at point old = grow before e old (stores_new place c before e point)
