use Rattle.std.proofs.Common.{◌≡◌, Some, ap, sym, subst, ◌∙◌, ◌<◌, length, slice_get, set}
use Rattle.ic_hub.specs.Hubbing.{Living}
use Rattle.ic_hub.proofs.Moving.{receiver_living}
use Rattle.ic_hub.proofs.Receivers.{at_place, take_end}
use Rattle.ic_hub.proofs.query.Query.take.Goals as goal

-- the receiver that stood at the place
here : (c : goal.After-self-1) → slice_get c.self.inside.receivers.items c.args.place ≡ Some c.index_mut.result.now
here c =
    let within : c.args.place < length c.self.inside.receivers.items = subst (λ (l : Living). c.args.place < length l.receivers) (sym c.self.view_is) c.requires.here in
    at_place c.self.inside.receivers.items c.args.place c.index_mut.result.now within c.index_mut.ensures.value

pub invariant_of-self : goal.invariant_of-self
invariant_of-self c = receiver_living _ c.args.place c.index_mut.result.now c.take_one.new.receiver c.self.invariant (here c) (take_end _ _ _ c.take_one.ensures)

pub returns : goal.returns
returns c = record {
  old = c.index_mut.result.now;
  new = c.take_one.new.receiver;
  here = ap (λ (l : Living). slice_get l.receivers c.args.place) (sym c.self.view_is) ∙ here c;
  is = ap (λ (l : Living). record l { receivers = set l.receivers c.args.place c.take_one.new.receiver }) c.self.view_is;
  does = c.take_one.ensures;
}
