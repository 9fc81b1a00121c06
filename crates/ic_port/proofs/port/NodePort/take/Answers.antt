use Rattle.std.proofs.Common.{◌∙◌, subst, refl, arith}
use Rattle.ic_base.specs.declared.port.PortAsk.TheVariants as ask
use Rattle.ic_base.specs.Ports.{gave}
use Rattle.ic_law.specs.declared.history.HubAsk.TheVariants.{Take}
use Rattle.ic_law.specs.declared.history.Entry.{Entry}
use Rattle.ic_hub.specs.Entries.{took_of}
use Rattle.ic_port.specs.Noding.{Noding, IsNode}
use Rattle.ic_port.specs.Calls.{Works}
use Rattle.ic_port.specs.contracts.node.Node.{the_view}
use Rattle.ic_hub.proofs.Noting.{took_memory}
use Rattle.ic_port.proofs.Keeping.{Notes, after, notes_keep, notes_works}
use Rattle.ic_port.proofs.Serving.{called_notes, take_same, called_log}
use Rattle.ic_port.proofs.Taken.{any_from, taken_logs, taken_given, taken_may, taken_counts}
use Rattle.ic_port.proofs.port.NodePort.take.Goals as goal

notes : (c : goal.After-told_taken) → Notes (the_view c.self.inside) c.take-answer.new.self c.note.new.entries.items (Take c.self.inside.query c.args.motion) (took_of c.take-answer.result)
notes c =
    called_notes (the_view c.self.inside) c.take-answer.new.self c.note.new.entries.items c.reserve.new.self.items (Take c.self.inside.query c.args.motion) (Take c.self.inside.query c.args.motion) (took_of c.take-answer.result) c.took-taken.result.0
    (record {
      place = c.take-answer.ensures.place;
      same = λ memory. took_memory _ c.take-answer.result c.take-answer.ensures.err memory;
      stands = c.take-answer.ensures.stands;
      asked_is = refl;
      reserved_is = c.reserve.ensures.items;
      told_is = c.took-taken.ensures.reply;
      entries_are = c.note.ensures;
    })
    tt (omega arith)

pub invariant_of-self-2 : goal.invariant_of-self-2
invariant_of-self-2 c =
    notes_keep (the_view c.self.inside) c.take-answer.new.self c.note.new.entries.items (Take c.self.inside.query c.args.motion) (took_of c.take-answer.result) c.self.invariant (notes c) refl

pub returns-clause-steps : goal.returns-clause-steps
returns-clause-steps c =
    subst (λ (m : Noding). Works m (after (the_view c.self.inside) c.take-answer.new.self c.self.inside.query c.self.inside.ends.items c.note.new.entries.items)) c.self.view_is
    (notes_works (the_view c.self.inside) c.take-answer.new.self c.note.new.entries.items (Take c.self.inside.query c.args.motion) (took_of c.take-answer.result) (notes c) refl refl refl refl)

pub returns-clause-log : goal.returns-clause-log
returns-clause-log c =
    called_log (the_view c.self.inside) c.args.self.now c.take-answer.new.self c.note.new.entries.items (Take c.self.inside.query c.args.motion) (took_of c.take-answer.result) (ask.Take c.args.motion) (gave c.told_taken.result) c.self.view_is (notes c)
    (taken_logs c.take-answer.result c.took-taken.result.1 c.told_taken.result c.took-taken.ensures.own c.told_taken.ensures (ask.Take c.args.motion) ∙ take_same c.self.inside.query c.args.motion (took_of c.take-answer.result))

pub returns-clause-from : goal.returns-clause-from
returns-clause-from c =
    any_from (the_view c.self.inside) c.args.self.now c.take-answer.new.self c.args.motion c.take-answer.result c.told_taken.result c.self.invariant c.self.view_is c.take-answer.ensures.place
    c.take-answer.ensures.stands c.requires.hears (taken_given c.take-answer.result c.took-taken.result.1 c.told_taken.result c.took-taken.ensures.own c.told_taken.ensures)

pub returns-clause-refusals : goal.returns-clause-refusals
returns-clause-refusals c = taken_may c.took-taken.result.1 c.told_taken.result c.told_taken.ensures

pub returns-clause-busy : goal.returns-clause-busy
returns-clause-busy c = taken_counts c.took-taken.result.1 c.told_taken.result c.told_taken.ensures
