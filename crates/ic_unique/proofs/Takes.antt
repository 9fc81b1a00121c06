-- Takes: the sender that is served, its parcel and the Ack are one.
use Rattle.std.proofs.Common.{◌≡◌, ℕ, ◌+◌, ◌<◌, ℤ, List, [], ◌∷◌, ◌++◌, Bool, Ok, Option, Some, None, refl, ap, sym, ◌∙◌, subst, inl, inr, ◌⊎◌, arith}
use Rattle.std.specs.List.{Contains}
use Rattle.std.proofs.Math.Decide.{dec_le}
use Rattle.std.proofs.lemmas.Int.{ints}
use Rattle.ic_base.specs.declared.keys.ConnKey.{ConnKey}
use Rattle.ic_base.specs.declared.keys.ConnEnd.{ConnEnd}
use Rattle.ic_base.specs.declared.datagram.Datagram.{Datagram}
use Rattle.ic_base.specs.declared.datagram.Parcel.{Parcel}
use Rattle.ic_header.specs.declared.flags.Flags.TheVariants.{Ack}
use Rattle.ic_law.specs.declared.history.HubReply.{HubReply}
use Rattle.ic_law.specs.declared.history.HubReply.TheVariants.{Took}
use Rattle.ic_law.specs.declared.history.Entry.{Entry}
use Rattle.ic_header.specs.Packets.{RowPacket, answer_datagram}
use Rattle.ic_law.specs.Taking.{parcels_in}
use Rattle.ic_law.specs.Points.{Place}
use Rattle.ic_law.specs.Receiving.{IsRunEnd, IsGreatest, consumed_of, IsTaken, AnswersTake, Over, Taken}
use Rattle.ic_law.specs.Receiving as one
use Rattle.ic_law.specs.Arriving.{IsOfMotion, IsServed, LastServed, Nobody, Somebody, ComesBefore, AnswersTakeAny, AllOver, NoneReady, Serves}
use Rattle.ic_law.specs.Hub.{HubLaw}
use Rattle.ic_law.proofs.Lists.{inside, Contains-middle}
use Rattle.ic_law.proofs.Lives.{are_ends, end_once}
use Rattle.ic_law.proofs.Stored.{stored_once}

-- ---- run ends

pub either : (a b : ℕ) → (a ≡ b) ⊎ ((a < b) ⊎ (b < a))
either a b = elim (dec_le a b) [
  | yes low ↦ elim (dec_le b a) [ yes high ↦ inl (omega (arith, low, high)) | no above ↦ inr (inl (omega (arith, above))) ]
  | no above ↦ inr (inr (omega (arith, above)))
]

pub one_run : (numbers : List ℕ) (a b : ℕ) → IsRunEnd numbers a → IsRunEnd numbers b → a ≡ b
one_run numbers a b u w = elim (either a b) [
  | inl same ↦ same
  | inr apart ↦ elim apart [
    | inl lt ↦ absurd (u.end (w.run (a + 1) (omega arith) (omega (arith, lt))))
    | inr lt ↦ absurd (w.end (u.run (b + 1) (omega arith) (omega (arith, lt))))
  ]
]

pub one_greatest : (numbers : List ℕ) (a b : ℕ) → IsGreatest numbers a → IsGreatest numbers b → a ≡ b
one_greatest numbers a b u w = let low = u.bound b w.here in let high = w.bound a u.here in omega (arith, low, high)

-- ---- one sender

parcel_is : (a b : Parcel) → a.from ≡ b.from → a.payload ≡ b.payload → a.last ≡ b.last → a ≡ b
parcel_is a b from payload last = ap (λ x. parcel x a.payload a.last) from ∙ ap (λ x. parcel b.from x a.last) payload ∙ ap (λ x. parcel b.from b.payload x) last
  where
    parcel : ℤ → List ℕ → Bool → Parcel
    parcel from payload last = record { from = from; payload = payload; last = last }

record SameTake (p q : Parcel) (ds es : List Datagram) : Type 0 where
  pub parcels : p ≡ q
  pub datagrams : ds ≡ es

one_taken : (place : Place) (h : List Entry) (end : ConnEnd) (p q : Parcel) (ds es : List Datagram) → HubLaw place h → IsTaken end h p ds → IsTaken end h q es → SameTake p q ds es
one_taken place h end p q ds es law u w =
    let packet : u.packet ≡ w.packet = stored_once place end.key h law u.packet w.packet u.next.stored w.next.stored (u.next.number ∙ sym w.next.number) in
    record {
      parcels = parcel_is p q (u.from ∙ sym w.from) (u.payload ∙ ap (λ (x : RowPacket). x.payload) packet ∙ sym w.payload) (u.last ∙ ap (λ (x : RowPacket). x.last) packet ∙ sym w.last);
      datagrams = u.told ∙ ap (λ n. answer_datagram end Ack n (consumed_of end.key h + 1) [] ∷ []) (one_run _ u.run w.run u.run_end w.run_end) ∙ sym w.told;
    }

took : Parcel → List Datagram → HubReply
took p ds = Took (Ok (p, ds))

same_took : (p q : Parcel) (ds es : List Datagram) → SameTake p q ds es → Took (Ok (p, ds)) ≡ Took (Ok (q, es))
unfolding took
same_took p q ds es same = ap (λ x. took x ds) same.parcels ∙ ap (took q) same.datagrams

pub one_take_from : (place : Place) (h : List Entry) (end : ConnEnd) (r s : HubReply) → HubLaw place h → AnswersTake end h r → AnswersTake end h s → r ≡ s
one_take_from place h end r s law (Over ended is) (Over ended2 is2) = is ∙ sym is2
one_take_from place h end r s law (Over ended is) (one.None open2 none2 is2) = absurd (open2 ended)
one_take_from place h end r s law (Over ended is) (Taken open2 p2 ds2 taken2 is2) = absurd (open2 ended)
one_take_from place h end r s law (one.None open_end none is) (Over ended2 is2) = absurd (open_end ended2)
one_take_from place h end r s law (one.None open_end none is) (one.None open2 none2 is2) = is ∙ sym is2
one_take_from place h end r s law (one.None open_end none is) (Taken open2 p2 ds2 taken2 is2) = absurd (none taken2.packet taken2.next)
one_take_from place h end r s law (Taken open_end p ds taken is) (Over ended2 is2) = absurd (open_end ended2)
one_take_from place h end r s law (Taken open_end p ds taken is) (one.None open2 none2 is2) = absurd (none2 taken.packet taken.next)
one_take_from place h end r s law (Taken open_end p ds taken is) (Taken open2 p2 ds2 taken2 is2) = is ∙ same_took p p2 ds ds2 (one_taken place h end p p2 ds ds2 law taken taken2) ∙ sym is2

-- ---- the sender that was served last

served_from : (query motion : ℕ) (e : Entry) (a b : ℤ) → IsServed query motion e a → IsServed query motion e b → a ≡ b
served_from query motion e a b u w =
    let both : u.parcel ∷ [] ≡ w.parcel ∷ [] = ap parcels_in (sym u.reply ∙ w.reply) in
    let same : u.parcel ≡ w.parcel = cc in
    u.sender ∙ ap (λ (p : Parcel). p.from) same ∙ sym w.sender

one_last : (query motion : ℕ) (h : List Entry) (a b : Option ℤ) → LastServed query motion h a → LastServed query motion h b → a ≡ b
one_last query motion h a b (Nobody none) (Nobody none2) = refl
one_last query motion h a b (Nobody none) (Somebody before e after from at served later) = absurd (none e from (subst (λ l. Contains l e) (sym at) (Contains-middle before e after)) served)
one_last query motion h a b (Somebody before e after from at served later) (Nobody none) = absurd (none e from (subst (λ l. Contains l e) (sym at) (Contains-middle before e after)) served)
one_last query motion h a b (Somebody before e after from at served later) (Somebody before2 e2 after2 from2 at2 served2 later2) =
    elim (inside before (e ∷ after) before2 (e2 ∷ after2) (sym at ∙ at2)) [
      | inl k ↦ upto k.0 k.2
      | inr k ↦
          let both : e ∷ after ≡ k.0 ∷ (k.1 ++ e2 ∷ after2) = k.3 in
          let rest : after ≡ k.1 ++ e2 ∷ after2 = cc in
          absurd (later e2 from2 (subst (λ l. Contains l e2) (sym rest) (Contains-middle k.1 e2 after2)) served2)
    ]
  where
    upto : (m : List Entry) → m ++ e ∷ after ≡ e2 ∷ after2 → Some from ≡ Some from2
    upto [] rest = let both : e ∷ after ≡ e2 ∷ after2 = rest in let same : e ≡ e2 = cc in ap Some (served_from query motion e2 from from2 (subst (λ x. IsServed query motion x from) same served) served2)
    upto (y ∷ m) rest =
        let both : y ∷ (m ++ e ∷ after) ≡ e2 ∷ after2 = rest in
        let more : m ++ e ∷ after ≡ after2 = cc in
        absurd (later2 e from (subst (λ l. Contains l e) more (Contains-middle m e after)) served)

-- ---- the first in cyclic order

not_both_ways : (last : Option ℤ) (a b : ℤ) → ComesBefore last a b → ComesBefore last b a → ⊥
not_both_ways None a b u w = omega (arith, ints, u, w)
not_both_ways (Some l) a b (inl (p, inl q)) (inl (p2, w)) = omega (arith, ints, q, p2)
not_both_ways (Some l) a b (inl (p, inr q)) (inl (p2, inl q2)) = omega (arith, ints, p, q2)
not_both_ways (Some l) a b (inl (p, inr q)) (inl (p2, inr q2)) = omega (arith, ints, q, q2)
not_both_ways (Some l) a b (inl (p, u)) (inr (p2, q2, r2)) = omega (arith, ints, p, q2)
not_both_ways (Some l) a b (inr (p, q, r)) (inl (p2, w)) = omega (arith, ints, q, p2)
not_both_ways (Some l) a b (inr (p, q, r)) (inr (p2, q2, r2)) = omega (arith, ints, r, r2)

one_first : (last : Option ℤ) (a b : ℤ) → (a ≡ b) ⊎ ComesBefore last a b → (b ≡ a) ⊎ ComesBefore last b a → a ≡ b
one_first last a b (inl same) w = same
one_first last a b (inr u) (inl same) = sym same
one_first last a b (inr u) (inr w) = absurd (not_both_ways last a b u w)

key_is : (a b : ConnKey) → a.session ≡ b.session → a.query ≡ b.query → a.motion ≡ b.motion → a.from ≡ b.from → a.to ≡ b.to → a ≡ b
key_is a b s q m f t =
    ap (λ x. key x a.query a.motion a.from a.to) s ∙ ap (λ x. key b.session x a.motion a.from a.to) q ∙ ap (λ x. key b.session b.query x a.from a.to) m
    ∙ ap (λ x. key b.session b.query b.motion x a.to) f ∙ ap (λ x. key b.session b.query b.motion b.from x) t
  where
    key : ℕ → ℕ → ℕ → ℤ → ℤ → ConnKey
    key session query motion from to = record { session = session; query = query; motion = motion; from = from; to = to }

-- a receiving end of a motion is known by its sender
one_of_motion : (place : Place) (query motion : ℕ) (h : List Entry) (a b : ConnEnd) → HubLaw place h → IsOfMotion query motion a h → IsOfMotion query motion b h → a.key.from ≡ b.key.from → a ≡ b
one_of_motion place query motion h a b law u w from =
    let ends_a = (are_ends place h a.key.query u.here.ends law u.here.live).each a u.here.stands in
    let ends_b = (are_ends place h b.key.query w.here.ends law w.here.live).each b w.here.stands in
    end_once place h a b law u.here w.here
    (key_is a.key b.key (ends_a.session ∙ sym ends_b.session) (u.query_is ∙ sym w.query_is) (u.motion_is ∙ sym w.motion_is) from (ends_a.receives_here u.receiving ∙ sym (ends_b.receives_here w.receiving)))
    (u.receiving ∙ sym w.receiving)

pub one_take : (place : Place) (query motion : ℕ) (h : List Entry) (r s : HubReply) → HubLaw place h → AnswersTakeAny query motion h r → AnswersTakeAny query motion h s → r ≡ s
one_take place query motion h r s law (AllOver all is) (AllOver all2 is2) = is ∙ sym is2
one_take place query motion h r s law (AllOver all is) (NoneReady x of_x open_x none is2) = absurd (open_x (all x of_x))
one_take place query motion h r s law (AllOver all is) (Serves x ready last served first p ds taken is2) = absurd (ready.goes_on (all x ready.of_motion))
one_take place query motion h r s law (NoneReady x of_x open_x none is) (AllOver all is2) = absurd (open_x (all x of_x))
one_take place query motion h r s law (NoneReady x of_x open_x none is) (NoneReady y of_y open_y none2 is2) = is ∙ sym is2
one_take place query motion h r s law (NoneReady x of_x open_x none is) (Serves y ready last served first p ds taken is2) = absurd (none y ready)
one_take place query motion h r s law (Serves y ready last served first p ds taken is) (AllOver all is2) = absurd (ready.goes_on (all y ready.of_motion))
one_take place query motion h r s law (Serves y ready last served first p ds taken is) (NoneReady x of_x open_x none is2) = absurd (none y ready)
one_take place query motion h r s law (Serves x ready last served first p ds taken is) (Serves y ready2 last2 served2 first2 p2 ds2 taken2 is2) =
    let same_last : last2 ≡ last = one_last query motion h last2 last served2 served in
    let from : x.key.from ≡ y.key.from = one_first last x.key.from y.key.from (first y ready2) (subst (λ o. (y.key.from ≡ x.key.from) ⊎ ComesBefore o y.key.from x.key.from) same_last (first2 x ready)) in
    let end : x ≡ y = one_of_motion place query motion h x y law ready.of_motion ready2.of_motion from in
    is ∙ same_took p p2 ds ds2 (one_taken place h y p p2 ds ds2 law (subst (λ z. IsTaken z h p ds) end taken) taken2) ∙ sym is2
