use Rattle.std.proofs.Common.{◌∙◌, refl}
use Rattle.ic_law.specs.declared.history.HubAsk.TheVariants.{Begin}
use Rattle.ic_hub.specs.Entries.{begun_of}
use Rattle.ic_port.specs.contracts.node.Node.{the_view}
use Rattle.ic_port.proofs.Keeping.{Notes, notes_keep}
use Rattle.ic_port.proofs.Driving.{begin_notes, begun_keeps, begun_begins}
use Rattle.ic_port.proofs.node.Node.begin.Goals as goal

refused : (c : goal.After-drop-ends-in_err-answer) → Notes (the_view c.self.inside) c.begin-answer.new.self c.note.new.entries.items (Begin c.args.query c.args.ends.items) (begun_of c.begin-answer.result)
refused c =
    begin_notes (the_view c.self.inside) c.begin-answer.new.self c.note.new.entries.items c.reserve.new.self.items c.args.query c.from_vec.result c.as_slice-2.result.now c.args.ends.items c.begin-answer.result c.begun.result
    c.begin-answer.ensures.place c.begin-answer.ensures.err c.begin-answer.ensures.stands c.as_slice-2.ensures.value (c.from_vec.ensures ∙ c.in-Ok.ensures.items ∙ c.as_slice.ensures.value) c.reserve.ensures.items c.begun.ensures c.note.ensures

begins : (c : goal.After-drop-self-inside) → Notes (the_view c.self.inside) c.begin-answer.new.self c.note.new.entries.items (Begin c.args.query c.args.ends.items) (begun_of c.begin-answer.result)
begins c =
    begin_notes (the_view c.self.inside) c.begin-answer.new.self c.note.new.entries.items c.reserve.new.self.items c.args.query c.from_vec.result c.as_slice-2.result.now c.args.ends.items c.begin-answer.result c.begun.result
    c.begin-answer.ensures.place c.begin-answer.ensures.err c.begin-answer.ensures.stands c.as_slice-2.ensures.value (c.from_vec.ensures ∙ c.in-Ok.ensures.items ∙ c.as_slice.ensures.value) c.reserve.ensures.items c.begun.ensures c.note.ensures

pub invariant_of-self-in_err-answer : goal.invariant_of-self-in_err-answer
invariant_of-self-in_err-answer c =
    notes_keep (the_view c.self.inside) c.begin-answer.new.self c.note.new.entries.items (Begin c.args.query c.args.ends.items) (begun_of c.begin-answer.result) c.self.invariant (refused c) refl

pub invariant_of-self-2 : goal.invariant_of-self-2
invariant_of-self-2 c =
    begun_keeps (the_view c.self.inside) c.args.self.now c.begin-answer.new.self c.note.new.entries.items c.args.query c.args.ends.items c.begin-answer.result c.in_ok-answer.field-0
    c.self.invariant c.self.view_is c.in_ok-answer.was (begins c) c.requires.later c.requires.ends

pub returns-clause-ok : goal.returns-clause-ok
returns-clause-ok c =
    begun_begins (the_view c.self.inside) c.args.self.now c.begin-answer.new.self c.note.new.entries.items c.args.query c.args.ends.items c.begin-answer.result c.in_ok-answer.field-0
    c.self.invariant c.self.view_is c.in_ok-answer.was (begins c) c.requires.later
