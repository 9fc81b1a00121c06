-- Datagrams that come: of each the rule that it meets is one, and so is its answer; answers to a sending end aside.
use Rattle.std.proofs.Common.{◌≡◌, ◌≢◌, ℕ, ◌+◌, ◌-◌, ◌<◌, ◌≤◌, List, [], ◌∷◌, ◌++◌, length, Bool, true, false, not, Some, refl, ap, sym, ◌∙◌, subst, inl, inr}
use Rattle.std.proofs.Common.{◌⊎◌, arith}
use Rattle.std.specs.List.{Contains}
use Rattle.ic_base.specs.declared.keys.ConnKey.{ConnKey}
use Rattle.ic_base.specs.declared.keys.ConnEnd.{ConnEnd}
use Rattle.ic_base.specs.declared.settings.Settings.{Settings}
use Rattle.ic_base.specs.declared.datagram.Datagram.{Datagram}
use Rattle.ic_header.specs.declared.flags.Flags.{Flags}
use Rattle.ic_header.specs.declared.flags.Flags.TheVariants.{Rows, LastRows, Query, Ack, Stop, Nak, Disorder, Duplicate}
use Rattle.ic_law.specs.declared.history.HubAsk.TheVariants.{Arrive}
use Rattle.ic_law.specs.declared.history.HubReply.{HubReply}
use Rattle.ic_law.specs.declared.history.HubReply.TheVariants.{Memory}
use Rattle.ic_law.specs.declared.history.Entry.{Entry}
use Rattle.ic_header.specs.Packets.{Packet, RowPacket, packet_of, key_of, is_rows, is_last, goes_forth, answer_datagram}
use Rattle.ic_law.specs.Storing.{stored_numbers_of}
use Rattle.ic_law.specs.Points.{Place, IsDirected, IsLive, IsHere}
use Rattle.ic_law.specs.Receiving.{IsRunEnd, consumed_of, handled, missing, AnswersRows, Stopped, Again, Far, Next, Gap, AnswersQuery, QueryStopped}
use Rattle.ic_header.specs.Packets.{listing}
use Rattle.ic_law.specs.Receiving.{QueryTold}
use Rattle.ic_law.specs.Arriving.{IsForeign, IsLiveQuery, Arrives, Stranger, OfEnded, OfNotBegun, TooLate, Known}
use Rattle.ic_law.specs.Hub.{HubPoint}
use Rattle.ic_law.proofs.Datagrams.{rows_is}
use Rattle.ic_law.proofs.Stored.{directed_of}
use Rattle.ic_unique.proofs.Takes.{one_run, one_greatest}

-- ---- rows

not_seen : (ns : List ℕ) (q r k : ℕ) → IsRunEnd ns r → (q ≤ r) ⊎ Contains ns q → IsRunEnd ns k → k < q → (Contains ns q → ⊥) → ⊥
not_seen ns q r k run (inl low) run2 past new = let same = one_run ns r k run run2 in omega (arith, same, low, past)
not_seen ns q r k run (inr at) run2 past new = new at

next_new : (ns : List ℕ) (q : ℕ) → IsRunEnd ns (q - 1) → 1 ≤ q → Contains ns q → ⊥
next_new ns q run one at = run.end (subst (Contains ns) (let back : q ≡ q - 1 + 1 = omega (arith, one) in back) at)

not_far : (settings : Settings) (end : ConnEnd) (h : List Entry) (q : RowPacket) → (consumed_of end.key h + settings.receive_depth < q.seq) ⊎ (settings.packet < length q.payload + 64)
    → q.seq ≤ consumed_of end.key h + settings.receive_depth → length q.payload + 64 ≤ settings.packet → ⊥
not_far settings end h q (inl past) near short = omega (arith, past, near)
not_far settings end h q (inr long) near short = omega (arith, long, short)

gap_told : ConnEnd → List Entry → RowPacket → ℕ → ℕ → HubReply
gap_told end h q r g = handled (answer_datagram end Disorder q.seq g (listing (missing (stored_numbers_of end.key h ++ q.seq ∷ []) r g)))

pub one_rows : (settings : Settings) (end : ConnEnd) (h : List Entry) (q : RowPacket) (r s : HubReply) → AnswersRows settings end h q r → AnswersRows settings end h q s → r ≡ s
unfolding gap_told
one_rows settings end h q r s (Stopped halted1 is1) (Stopped halted2 is2) = is1 ∙ sym is2
one_rows settings end h q r s (Stopped halted1 is1) (Again r2 open2 run2 seen2 is2) = absurd (open2 halted1)
one_rows settings end h q r s (Stopped halted1 is1) (Far r2 open2 run2 past2 new2 far2 is2) = absurd (open2 halted1)
one_rows settings end h q r s (Stopped halted1 is1) (Next r2 open2 run2 one2 near2 short2 runs2 is2) = absurd (open2 halted1)
one_rows settings end h q r s (Stopped halted1 is1) (Gap r2 g2 open2 run2 past2 new2 near2 short2 top2 is2) = absurd (open2 halted1)
one_rows settings end h q r s (Again r1 open1 run1 seen1 is1) (Stopped halted2 is2) = absurd (open1 halted2)
one_rows settings end h q r s (Again r1 open1 run1 seen1 is1) (Again r2 open2 run2 seen2 is2) = is1 ∙ ap (λ n. handled (answer_datagram end Duplicate q.seq n [])) (one_run (stored_numbers_of end.key h) r1 r2 run1 run2) ∙ sym is2
one_rows settings end h q r s (Again r1 open1 run1 seen1 is1) (Far r2 open2 run2 past2 new2 far2 is2) = absurd (not_seen (stored_numbers_of end.key h) q.seq r1 r2 run1 seen1 run2 past2 new2)
one_rows settings end h q r s (Again r1 open1 run1 seen1 is1) (Next r2 open2 run2 one2 near2 short2 runs2 is2) = absurd (not_seen (stored_numbers_of end.key h) q.seq r1 (q.seq - 1) run1 seen1 run2 (omega (arith, one2)) (next_new (stored_numbers_of end.key h) q.seq run2 one2))
one_rows settings end h q r s (Again r1 open1 run1 seen1 is1) (Gap r2 g2 open2 run2 past2 new2 near2 short2 top2 is2) = absurd (not_seen (stored_numbers_of end.key h) q.seq r1 r2 run1 seen1 run2 (omega (arith, past2)) new2)
one_rows settings end h q r s (Far r1 open1 run1 past1 new1 far1 is1) (Stopped halted2 is2) = absurd (open1 halted2)
one_rows settings end h q r s (Far r1 open1 run1 past1 new1 far1 is1) (Again r2 open2 run2 seen2 is2) = absurd (not_seen (stored_numbers_of end.key h) q.seq r2 r1 run2 seen2 run1 past1 new1)
one_rows settings end h q r s (Far r1 open1 run1 past1 new1 far1 is1) (Far r2 open2 run2 past2 new2 far2 is2) = is1 ∙ sym is2
one_rows settings end h q r s (Far r1 open1 run1 past1 new1 far1 is1) (Next r2 open2 run2 one2 near2 short2 runs2 is2) = absurd (not_far settings end h q far1 near2 short2)
one_rows settings end h q r s (Far r1 open1 run1 past1 new1 far1 is1) (Gap r2 g2 open2 run2 past2 new2 near2 short2 top2 is2) = absurd (not_far settings end h q far1 near2 short2)
one_rows settings end h q r s (Next r1 open1 run1 one1 near1 short1 runs1 is1) (Stopped halted2 is2) = absurd (open1 halted2)
one_rows settings end h q r s (Next r1 open1 run1 one1 near1 short1 runs1 is1) (Again r2 open2 run2 seen2 is2) = absurd (not_seen (stored_numbers_of end.key h) q.seq r2 (q.seq - 1) run2 seen2 run1 (omega (arith, one1)) (next_new (stored_numbers_of end.key h) q.seq run1 one1))
one_rows settings end h q r s (Next r1 open1 run1 one1 near1 short1 runs1 is1) (Far r2 open2 run2 past2 new2 far2 is2) = absurd (not_far settings end h q far2 near1 short1)
one_rows settings end h q r s (Next r1 open1 run1 one1 near1 short1 runs1 is1) (Next r2 open2 run2 one2 near2 short2 runs2 is2) = is1 ∙ ap (λ n. handled (answer_datagram end Ack n (consumed_of end.key h) [])) (one_run _ r1 r2 runs1 runs2) ∙ sym is2
one_rows settings end h q r s (Next r1 open1 run1 one1 near1 short1 runs1 is1) (Gap r2 g2 open2 run2 past2 new2 near2 short2 top2 is2) = absurd (let same = one_run (stored_numbers_of end.key h) (q.seq - 1) r2 run1 run2 in omega (arith, same, past2))
one_rows settings end h q r s (Gap r1 g1 open1 run1 past1 new1 near1 short1 top1 is1) (Stopped halted2 is2) = absurd (open1 halted2)
one_rows settings end h q r s (Gap r1 g1 open1 run1 past1 new1 near1 short1 top1 is1) (Again r2 open2 run2 seen2 is2) = absurd (not_seen (stored_numbers_of end.key h) q.seq r2 r1 run2 seen2 run1 (omega (arith, past1)) new1)
one_rows settings end h q r s (Gap r1 g1 open1 run1 past1 new1 near1 short1 top1 is1) (Far r2 open2 run2 past2 new2 far2 is2) = absurd (not_far settings end h q far2 near1 short1)
one_rows settings end h q r s (Gap r1 g1 open1 run1 past1 new1 near1 short1 top1 is1) (Next r2 open2 run2 one2 near2 short2 runs2 is2) = absurd (let same = one_run (stored_numbers_of end.key h) (q.seq - 1) r1 run2 run1 in omega (arith, same, past1))
one_rows settings end h q r s (Gap r1 g1 open1 run1 past1 new1 near1 short1 top1 is1) (Gap r2 g2 open2 run2 past2 new2 near2 short2 top2 is2) = is1 ∙ ap (λ n. gap_told end h q n g1) (one_run (stored_numbers_of end.key h) r1 r2 run1 run2) ∙ ap (gap_told end h q r2) (one_greatest _ g1 g2 top1 top2) ∙ sym is2

-- ---- queries

pub one_query : (end : ConnEnd) (h : List Entry) (seq : ℕ) (r s : HubReply) → AnswersQuery end h seq r → AnswersQuery end h seq s → r ≡ s
one_query end h seq r s (QueryStopped halted is) (QueryStopped halted2 is2) = is ∙ sym is2
one_query end h seq r s (QueryStopped halted is) (QueryTold n open2 run2 is2) = absurd (open2 halted)
one_query end h seq r s (QueryTold n open1 run is) (QueryStopped halted2 is2) = absurd (open1 halted2)
one_query end h seq r s (QueryTold n open1 run is) (QueryTold m open2 run2 is2) = is ∙ ap (λ x. handled (answer_datagram end Ack x (consumed_of end.key h) [])) (one_run _ n m run run2) ∙ sym is2

-- ---- what comes

-- where an answer of a sending end that is here is one, so is the reply to each datagram that reads as a packet
pub one_arrival : (place : Place) (h : List Entry) (d : Datagram) (p : Packet) (r s : HubReply)
    → HubPoint place h (record { ask = Arrive d; reply = r }) → HubPoint place h (record { ask = Arrive d; reply = s }) → packet_of d ≡ Some p → r ≢ Memory → s ≢ Memory
    → ((end : ConnEnd) → end.sending ≡ true → IsHere end h → end.key ≡ key_of p.head → goes_forth p.head.flags ≡ false → IsDirected false d end.key → r ≡ s) → r ≡ s
one_arrival place h d p r s pr ps reads gr gs heard = by (pr.arrived d p refl reads gr) (ps.arrived d p refl reads gs)
  where
    known : (IsForeign place h d p.head → ⊥) → (end : ConnEnd) → IsHere end h → end.key ≡ key_of p.head → end.sending ≡ not (goes_forth p.head.flags) → r ≡ s
    known ours end here key side = go p.head.flags refl
      where
        directed : (b : Bool) → goes_forth p.head.flags ≡ b → IsDirected b d end.key
        directed b is = subst (λ k. IsDirected b d k) (sym key) (subst (λ x. IsDirected x d (key_of p.head)) is (directed_of place h d p.head ours))

        rows : goes_forth p.head.flags ≡ true → is_rows p.head.flags ≡ true → r ≡ s
        rows forth are =
            let q : RowPacket = record { seq = p.head.seq; payload = p.body; last = is_last p.head.flags } in
            let is = rows_is end.key d p reads (sym key) are in
            one_rows place.settings end h q r s
            ((pr.answered end (side ∙ ap not forth) here).rows d q refl (directed true forth) is gr)
            ((ps.answered end (side ∙ ap not forth) here).rows d q refl (directed true forth) is gs)

        back : goes_forth p.head.flags ≡ false → r ≡ s
        back away = heard end (side ∙ ap not away) here key away (directed false away)

        go : (f : Flags) → p.head.flags ≡ f → r ≡ s
        go Rows is = rows (ap goes_forth is) (ap is_rows is)
        go LastRows is = rows (ap goes_forth is) (ap is_rows is)
        go Query is =
            one_query end h p.head.seq r s
            ((pr.answered end (side ∙ ap (λ f. not (goes_forth f)) is) here).query d p refl (directed true (ap goes_forth is)) reads (sym key) is gr)
            ((ps.answered end (side ∙ ap (λ f. not (goes_forth f)) is) here).query d p refl (directed true (ap goes_forth is)) reads (sym key) is gs)
        go Ack is = back (ap goes_forth is)
        go Stop is = back (ap goes_forth is)
        go Nak is = back (ap goes_forth is)
        go Disorder is = back (ap goes_forth is)
        go Duplicate is = back (ap goes_forth is)

    live_of : (end : ConnEnd) → IsHere end h → end.key ≡ key_of p.head → IsLiveQuery p.head.query h
    live_of end here key = (here.ends, subst (λ (k : ConnKey). IsLive k.query here.ends h) key here.live)

    ways : goes_forth p.head.flags ≡ true → goes_forth p.head.flags ≡ false → ⊥
    ways a b = let bad : true ≡ false = sym a ∙ b in cc

    by : Arrives place h d p r → Arrives place h d p s → r ≡ s
    by (Stranger foreign1 is1) (Stranger foreign2 is2) = is1 ∙ sym is2
    by (Stranger foreign1 is1) (OfEnded ours2 dead2 forth2 old2 is2) = absurd (ours2 foreign1)
    by (Stranger foreign1 is1) (OfNotBegun ours2 dead2 forth2 young2 is2) = absurd (ours2 foreign1)
    by (Stranger foreign1 is1) (TooLate ours2 dead2 back2 is2) = absurd (ours2 foreign1)
    by (Stranger foreign1 is1) (Known ours2 end2 here2 key2 side2) = absurd (ours2 foreign1)
    by (OfEnded ours1 dead1 forth1 old1 is1) (Stranger foreign2 is2) = absurd (ours1 foreign2)
    by (OfEnded ours1 dead1 forth1 old1 is1) (OfEnded ours2 dead2 forth2 old2 is2) = is1 ∙ sym is2
    by (OfEnded ours1 dead1 forth1 old1 is1) (OfNotBegun ours2 dead2 forth2 young2 is2) = absurd (young2 old1)
    by (OfEnded ours1 dead1 forth1 old1 is1) (TooLate ours2 dead2 back2 is2) = absurd (ways forth1 back2)
    by (OfEnded ours1 dead1 forth1 old1 is1) (Known ours2 end2 here2 key2 side2) = absurd (dead1 (live_of end2 here2 key2))
    by (OfNotBegun ours1 dead1 forth1 young1 is1) (Stranger foreign2 is2) = absurd (ours1 foreign2)
    by (OfNotBegun ours1 dead1 forth1 young1 is1) (OfEnded ours2 dead2 forth2 old2 is2) = absurd (young1 old2)
    by (OfNotBegun ours1 dead1 forth1 young1 is1) (OfNotBegun ours2 dead2 forth2 young2 is2) = is1 ∙ sym is2
    by (OfNotBegun ours1 dead1 forth1 young1 is1) (TooLate ours2 dead2 back2 is2) = absurd (ways forth1 back2)
    by (OfNotBegun ours1 dead1 forth1 young1 is1) (Known ours2 end2 here2 key2 side2) = absurd (dead1 (live_of end2 here2 key2))
    by (TooLate ours1 dead1 back1 is1) (Stranger foreign2 is2) = absurd (ours1 foreign2)
    by (TooLate ours1 dead1 back1 is1) (OfEnded ours2 dead2 forth2 old2 is2) = absurd (ways forth2 back1)
    by (TooLate ours1 dead1 back1 is1) (OfNotBegun ours2 dead2 forth2 young2 is2) = absurd (ways forth2 back1)
    by (TooLate ours1 dead1 back1 is1) (TooLate ours2 dead2 back2 is2) = is1 ∙ sym is2
    by (TooLate ours1 dead1 back1 is1) (Known ours2 end2 here2 key2 side2) = absurd (dead1 (live_of end2 here2 key2))
    by (Known ours1 end1 here1 key1 side1) (Stranger foreign2 is2) = absurd (ours1 foreign2)
    by (Known ours1 end1 here1 key1 side1) (OfEnded ours2 dead2 forth2 old2 is2) = absurd (dead2 (live_of end1 here1 key1))
    by (Known ours1 end1 here1 key1 side1) (OfNotBegun ours2 dead2 forth2 young2 is2) = absurd (dead2 (live_of end1 here1 key1))
    by (Known ours1 end1 here1 key1 side1) (TooLate ours2 dead2 back2 is2) = absurd (dead2 (live_of end1 here1 key1))
    by (Known ours1 end1 here1 key1 side1) (Known ours2 end2 here2 key2 side2) = known ours1 end1 here1 key1 side1
