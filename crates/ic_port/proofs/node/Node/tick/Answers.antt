use Rattle.std.proofs.Common.{refl}
use Rattle.ic_law.specs.declared.history.HubAsk.TheVariants.{Tick}
use Rattle.ic_hub.specs.Entries.{ticked_of}
use Rattle.ic_port.specs.contracts.node.Node.{the_view}
use Rattle.ic_hub.proofs.Noting.{ticked_memory}
use Rattle.ic_port.proofs.Keeping.{Notes, notes_keep}
use Rattle.ic_port.proofs.Serving.{called_notes}
use Rattle.ic_port.proofs.Driving.{tick_adds}
use Rattle.ic_port.proofs.node.Node.tick.Goals as goal

notes : (c : goal.After-note) → Notes (the_view c.self.inside) c.tick-answer.new.self c.note.new.entries.items Tick (ticked_of c.tick-answer.result)
notes c =
    called_notes (the_view c.self.inside) c.tick-answer.new.self c.note.new.entries.items c.reserve.new.self.items Tick Tick (ticked_of c.tick-answer.result) c.ticked.result
    (record {
      place = c.tick-answer.ensures.place;
      same = λ memory. ticked_memory _ c.tick-answer.result c.tick-answer.ensures.err memory;
      stands = c.tick-answer.ensures.stands;
      asked_is = refl;
      reserved_is = c.reserve.ensures.items;
      told_is = c.ticked.ensures;
      entries_are = c.note.ensures;
    })
    tt tt

pub invariant_of-self-2 : goal.invariant_of-self-2
invariant_of-self-2 c =
    notes_keep (the_view c.self.inside) c.tick-answer.new.self c.note.new.entries.items Tick (ticked_of c.tick-answer.result) c.self.invariant (notes c) refl

pub returns-clause-ok : goal.returns-clause-ok
returns-clause-ok c = tick_adds (the_view c.self.inside) c.args.self.now c.tick-answer.new.self c.note.new.entries.items c.tick-answer.result c.told_tick-told.result c.self.view_is (notes c) c.told_tick-told.ensures
