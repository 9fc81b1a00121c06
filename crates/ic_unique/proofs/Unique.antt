-- One reply to each ask.
use Rattle.std.proofs.Common.{◌≡◌, ◌≢◌, ℕ, List, [], ◌∷◌, true, false, Some, Result, Ok, Err, refl, ap, sym, ◌∙◌, subst, inl, inr}
use Rattle.ic_base.specs.declared.keys.ConnKey.{ConnKey}
use Rattle.ic_base.specs.declared.keys.ConnEnd.{ConnEnd}
use Rattle.ic_base.specs.declared.datagram.Datagram.{Datagram}
use Rattle.ic_header.specs.declared.header.Header.{Header}
use Rattle.ic_header.specs.declared.fault.HeaderFault.{HeaderFault}
use Rattle.ic_header.specs.Reading.{read_header}
use Rattle.ic_law.specs.declared.history.HubAsk.{HubAsk}
use Rattle.ic_law.specs.declared.history.HubAsk.TheVariants.{Begin, Put, Finish, Take, TakeFrom, Halt, Arrive, Tick, Clear, Leave}
use Rattle.ic_law.specs.declared.history.HubReply.{HubReply}
use Rattle.ic_law.specs.declared.history.HubReply.TheVariants.{Memory}
use Rattle.ic_law.specs.declared.history.Entry.{Entry}
use Rattle.ic_header.specs.Packets.{Packet, packet_read, packet_of}
use Rattle.ic_law.specs.Points.{Place, IsHere}
use Rattle.ic_law.specs.Sending.{Fits}
use Rattle.ic_law.specs.Emission.{EmissionPoint}
use Rattle.ic_law.specs.Hub.{HubPoint, HubLaw}
use Rattle.ic_unique.specs.Unique.{MayReply, OneReply}
use Rattle.ic_law.proofs.Lives.{every_front, every_last}
use Rattle.ic_law.proofs.Deciding.{told_here, told_motion}
use Rattle.ic_unique.proofs.Asks.{one_begin, one_clear, one_leave, one_halt}
use Rattle.ic_unique.proofs.Takes.{one_take_from, one_take}
use Rattle.ic_unique.proofs.Arrivals.{one_arrival}
use Rattle.ic_law.proofs.Drained.{IsAtRest, at_rest}
use Rattle.ic_unique.proofs.Given.{IsLawful, put_entry, puts_same, finish_entry, finishes_same, one_given, comes_same, one_heard}
use Rattle.ic_unique.proofs.Ticks.{one_tick}

abbrev entry : HubAsk → HubReply → Entry
entry ask reply = record { ask = ask; reply = reply }

pub lawful_of : (place : Place) (h : List Entry) (ask : HubAsk) (r : HubReply) → MayReply place h ask r → IsLawful place h (record { ask = ask; reply = r })
lawful_of place h ask r may = let emission = every_last (EmissionPoint place) h (entry ask r) may.emission in record { point = every_last (HubPoint place) h (entry ask r) may.law; due = emission.due; order = emission.order }

-- what is known of both replies
pub record AreBoth (place : Place) (h : List Entry) (ask : HubAsk) (r s : HubReply) : Type 0 where
  pub law : HubLaw place h
  pub rest : IsAtRest place h
  pub first : IsLawful place h (record { ask = ask; reply = r })
  pub second : IsLawful place h (record { ask = ask; reply = s })
  pub given : r ≢ Memory
  pub also : s ≢ Memory

pub both_of : (place : Place) (h : List Entry) (ask : HubAsk) (r s : HubReply) → MayReply place h ask r → MayReply place h ask s → AreBoth place h ask r s
both_of place h ask r s mr ms =
    let law = every_front (HubPoint place) h (entry ask r ∷ []) mr.law in
    let emission = every_front (EmissionPoint place) h (entry ask r ∷ []) mr.emission in
    record {
      law = law;
      rest = at_rest place h law emission;
      first = lawful_of place h ask r mr;
      second = lawful_of place h ask s ms;
      given = mr.given;
      also = ms.given;
    }

put_one : (place : Place) (h : List Entry) (key : ConnKey) (chunk : List ℕ) (r s : HubReply) → AreBoth place h (Put key chunk) r s → r ≡ s
put_one place h key chunk r s both = elim (told_here place key true h both.law) [
  | inl w ↦ here w.end w.here w.side_is w.key_is
  | inr away ↦ both.first.point.known.put key chunk refl away both.given ∙ sym (both.second.point.known.put key chunk refl away both.also)
]
  where
    here : (end : ConnEnd) → IsHere end h → end.sending ≡ true → end.key ≡ key → r ≡ s
    here end there sends is =
        let ask = ap (λ k. Put k chunk) (sym is) in
        let lr = subst (λ k. IsLawful place h (put_entry k chunk r)) (sym is) both.first in
        let ls = subst (λ k. IsLawful place h (put_entry k chunk s)) (sym is) both.second in
        one_given place.settings end h (Fits place.settings end.key h chunk → ⊥) r s
        ((both.first.point.refused end sends there).put chunk ask both.given) ((both.second.point.refused end sends there).put chunk ask both.also)
        (λ ds es a b. puts_same place h end chunk r s ds es both.rest sends there lr ls a b)

finish_one : (place : Place) (h : List Entry) (key : ConnKey) (r s : HubReply) → AreBoth place h (Finish key) r s → r ≡ s
finish_one place h key r s both = elim (told_here place key true h both.law) [
  | inl w ↦ here w.end w.here w.side_is w.key_is
  | inr away ↦ both.first.point.known.finish key refl away both.given ∙ sym (both.second.point.known.finish key refl away both.also)
]
  where
    here : (end : ConnEnd) → IsHere end h → end.sending ≡ true → end.key ≡ key → r ≡ s
    here end there sends is =
        let ask = ap Finish (sym is) in
        let lr = subst (λ k. IsLawful place h (finish_entry k r)) (sym is) both.first in
        let ls = subst (λ k. IsLawful place h (finish_entry k s)) (sym is) both.second in
        one_given place.settings end h (Unit {0}) r s
        ((both.first.point.refused end sends there).finish ask both.given) ((both.second.point.refused end sends there).finish ask both.also)
        (λ ds es a b. finishes_same place h end r s ds es both.rest sends there lr ls a b)

take_one : (place : Place) (h : List Entry) (query motion : ℕ) (r s : HubReply) → AreBoth place h (Take query motion) r s → r ≡ s
take_one place h query motion r s both = elim (told_motion place query motion h both.law) [
  | inl w ↦ one_take place query motion h r s both.law (both.first.point.take query motion refl w.end w.is both.given) (both.second.point.take query motion refl w.end w.is both.also)
  | inr away ↦ both.first.point.known.take query motion refl away both.given ∙ sym (both.second.point.known.take query motion refl away both.also)
]

take_from_one : (place : Place) (h : List Entry) (key : ConnKey) (r s : HubReply) → AreBoth place h (TakeFrom key) r s → r ≡ s
take_from_one place h key r s both = elim (told_here place key false h both.law) [
  | inl w ↦
      let ask = ap TakeFrom (sym w.key_is) in
      one_take_from place h w.end r s both.law ((both.first.point.answered w.end w.side_is w.here).take_from ask both.given) ((both.second.point.answered w.end w.side_is w.here).take_from ask both.also)
  | inr away ↦ both.first.point.known.take_from key refl away both.given ∙ sym (both.second.point.known.take_from key refl away both.also)
]

halt_one : (place : Place) (h : List Entry) (key : ConnKey) (r s : HubReply) → AreBoth place h (Halt key) r s → r ≡ s
halt_one place h key r s both = elim (told_here place key false h both.law) [
  | inl w ↦
      let ask = ap Halt (sym w.key_is) in
      one_halt w.end h r s ((both.first.point.answered w.end w.side_is w.here).halt ask both.given) ((both.second.point.answered w.end w.side_is w.here).halt ask both.also)
  | inr away ↦ both.first.point.known.halt key refl away both.given ∙ sym (both.second.point.known.halt key refl away both.also)
]

arrive_one : (place : Place) (h : List Entry) (d : Datagram) (r s : HubReply) → AreBoth place h (Arrive d) r s → r ≡ s
unfolding packet_of
arrive_one place h d r s both = by (read_header d.bytes) refl
  where
    read : (p : Packet) → packet_of d ≡ Some p → r ≡ s
    read p reads =
        one_arrival place h d p r s both.first.point both.second.point reads both.given both.also
        (λ end sends here key back directed.
        one_heard end h p r s
        ((both.first.point.refused end sends here).heard d p refl directed reads back (sym key) both.given)
        ((both.second.point.refused end sends here).heard d p refl directed reads back (sym key) both.also)
        (λ ds es a b. comes_same place h end d p r s ds es both.rest sends here reads back key both.first both.second a b))

    by : (o : Result (Header × List ℕ) HeaderFault) → read_header d.bytes ≡ o → r ≡ s
    by (Ok x) is = read (record { head = x.0; body = x.1 }) (ap packet_read is)
    by (Err fault) is = both.first.point.unread d fault refl is both.given ∙ sym (both.second.point.unread d fault refl is both.also)

clear_one : (place : Place) (h : List Entry) (query : ℕ) (r s : HubReply) → AreBoth place h (Clear query) r s → r ≡ s
clear_one place h query r s both =
    let live = both.first.point.allowed both.given in
    one_clear place query h r s both.law (both.first.point.clear query refl live) (both.second.point.clear query refl live)

one : (place : Place) (h : List Entry) (ask : HubAsk) (r s : HubReply) → AreBoth place h ask r s → r ≡ s
one place h (Begin query ends) r s both = one_begin query h r s (both.first.point.begin query ends refl both.given) (both.second.point.begin query ends refl both.also)
one place h (Put key chunk) r s both = put_one place h key chunk r s both
one place h (Finish key) r s both = finish_one place h key r s both
one place h (Take query motion) r s both = take_one place h query motion r s both
one place h (TakeFrom key) r s both = take_from_one place h key r s both
one place h (Halt key) r s both = halt_one place h key r s both
one place h (Arrive d) r s both = arrive_one place h d r s both
one place h Tick r s both = one_tick place h r s both.law both.first both.second both.given both.also
one place h (Clear query) r s both = clear_one place h query r s both
one place h (Leave query) r s both = one_leave place query h r s both.law (both.first.point.leave query refl both.given) (both.second.point.leave query refl both.also)

pub one_reply : OneReply
one_reply place h ask r s mr ms = one place h ask r s (both_of place h ask r s mr ms)
