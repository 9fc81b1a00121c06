use Rattle.std.proofs.Common.{Some, Ok, Err, ap, sym, subst, ◌∙◌, set, slice_get, length-set}
use Rattle.std.proofs.lemmas.Result.{err_from_is_err_and}
use Rattle.ic_base.specs.declared.datagram.Parcel.{Parcel}
use Rattle.ic_conntab.specs.Ends.{motions_of}
use Rattle.ic_hub.specs.contracts.query.Query.{the_view}
use Rattle.ic_hub.specs.Hubbing.{Living}
use Rattle.ic_hub.specs.Taking.{TakesAny}
use Rattle.ic_hub.proofs.Receivers.{take_end, living_serving, nobody_any, somebody_any, first_here}
use Rattle.ic_hub.proofs.query.Query.take_any.Goals as goal

pub returns-in_default : goal.returns-in_default
returns-in_default c = λ number is.
    let there = ap (λ (l : Living). slice_get (motions_of l.ends) c.args.motion) c.self.view_is ∙ is in
    nobody_any (the_view c.self.inside) c.args.self.now c.args.motion number c.as_slice.result.now c.as_slice-in_default.result.now c.receivers-places.result.now c.refusal.result c.self.view_is c.as_slice.ensures.value
    c.as_slice-in_default.ensures.value (c.receivers-places.ensures.value number there) c.in_default.ensures c.refusal.ensures

pub returns-in_err-parcel : goal.returns-in_err-parcel
returns-in_err-parcel c = λ number is.
    let p = err_from_is_err_and c.from_residual.result c.from_residual.ensures.1 in
    let there = ap (λ (l : Living). slice_get (motions_of l.ends) c.args.motion) c.self.view_is ∙ is in
    let after : Living = record (the_view c.self.inside) { receivers = set c.self.inside.receivers.items c.in-Some.place c.take_one.new.receiver } in
    subst (λ r. TakesAny c.args.motion number c.args.self.now after r) (sym (p.1 ∙ ap Err p.2))
    (somebody_any (the_view c.self.inside) c.args.self.now c.args.motion number c.in-Some.place c.index.result.now c.as_slice.result.now c.receivers-places.result.now c.index_mut.result.now c.take_one.new.receiver (Err c.in_err-parcel.field-0.0)
    c.self.view_is c.self.invariant c.requires.here c.as_slice.ensures.value (c.receivers-places.ensures.value number there) c.index.ensures c.in-Some.ensures c.index_mut.ensures.value c.in_err-parcel.ensures)

pub invariant_of-self-2 : goal.invariant_of-self-2
invariant_of-self-2 c =
    living_serving (the_view c.self.inside) c.in-Some.place c.index_mut.result.now c.take_one.new.receiver _ c.self.invariant
    (first_here (the_view c.self.inside) c.in-Some.place c.index.result.now c.as_slice.result.now c.receivers-places.result.now c.index_mut.result.now c.as_slice.ensures.value c.in-Some.ensures c.index_mut.ensures.value)
    (take_end c.index_mut.result.now c.take_one.new.receiver _ c.take_one.ensures) (length-set c.self.inside.served.items c.args.motion (Some c.parcel.result.now.from))

pub returns : goal.returns
returns c = λ number is.
    let there = ap (λ (l : Living). slice_get (motions_of l.ends) c.args.motion) c.self.view_is ∙ is in
    let taken : Living = record (the_view c.self.inside) { receivers = set c.self.inside.receivers.items c.in-Some.place c.take_one.new.receiver } in
    subst (λ (p : Parcel). TakesAny c.args.motion number c.args.self.now (record taken { served = set c.self.inside.served.items c.args.motion (Some p.from) }) (Ok (c.in_ok-parcel.parcel, c.in_ok-parcel.told))) (sym c.parcel.ensures)
    (somebody_any (the_view c.self.inside) c.args.self.now c.args.motion number c.in-Some.place c.index.result.now c.as_slice.result.now c.receivers-places.result.now c.index_mut.result.now c.take_one.new.receiver (Ok (c.in_ok-parcel.parcel, c.in_ok-parcel.told))
    c.self.view_is c.self.invariant c.requires.here c.as_slice.ensures.value (c.receivers-places.ensures.value number there) c.index.ensures c.in-Some.ensures c.index_mut.ensures.value c.in_ok-parcel.ensures)
