use Rattle.std.proofs.Common.{[], ◌∷◌, ◌++◌, Bool, Some, ap, ◌∙◌, subst}
use Rattle.ic_base.specs.declared.datagram.Parcel.{Parcel}
use Rattle.ic_chunk.specs.Counts.{HasCounted}
use Rattle.ic_receiver.specs.Receiving.{Receiving, HandsOver}
use Rattle.ic_receiver.proofs.receiver.Receiver.hand_over.Goals as goal

pub returns-in_ok-parcel-in-Some-clause-hands : goal.returns-in_ok-parcel-in-Some-clause-hands
returns-in_ok-parcel-in-Some-clause-hands c =
    let p : Parcel = c.in_ok-parcel-in-Some.parcel in
    let count = c.count_more-self-inside.result in
    let now : Bool → Receiving = λ whole. record { end = c.self.inside.end; ring = Some c.hand_over.new.ring; whole = whole; rows = count } in
    subst (λ (s : Receiving). HandsOver s p c.in_ok-parcel-in-Some.told (now c.parcel-taken.result.now.last)) c.self.view_is (record {
      goes_on = c.if-self.false;
      ring = c.in-Some.ring;
      runs = c.in-Some.is;
      now = c.hand_over.new.ring;
      hands = c.in_ok-parcel-in-Some.ensures.hands;
      rows = count;
      counted = λ payloads counted. subst (λ l. HasCounted (payloads ++ l ∷ []) count) (c.as_slice.ensures ∙ ap (λ (x : Parcel). x.payload) c.parcel-taken.ensures) (c.count_more-self-inside.ensures payloads counted);
      after_is = ap (λ (x : Parcel). now x.last) c.parcel-taken.ensures;
    })
