use Rattle.std.proofs.Common.{sym, ◌∙◌, refl}
use Rattle.ic_law.specs.declared.history.HubAsk.TheVariants.{Leave}
use Rattle.ic_law.specs.declared.history.HubReply.TheVariants.{Left}
use Rattle.ic_port.specs.contracts.node.Node.{the_view}
use Rattle.ic_port.proofs.Keeping.{Notes, notes_keep}
use Rattle.ic_port.proofs.Serving.{called_notes}
use Rattle.ic_port.proofs.Driving.{stays_none_left, leave_stays, left_keeps}
use Rattle.ic_port.proofs.node.Node.leave.Goals as goal

refused : (c : goal.Then-is_err) → Notes (the_view c.self.inside) c.leave-answer.new.self c.note.new.entries.items (Leave c.self.inside.query) (Left c.leave-answer.result)
refused c =
    called_notes (the_view c.self.inside) c.leave-answer.new.self c.note.new.entries.items c.reserve.new.self.items (Leave c.self.inside.query) (Leave c.self.inside.query) (Left c.leave-answer.result) (Left c.leave-answer.result)
    (record {
      place = c.leave-answer.ensures.place;
      same = λ memory. cc;
      stands = c.leave-answer.ensures.stands;
      asked_is = refl;
      reserved_is = c.reserve.ensures.items;
      told_is = refl;
      entries_are = c.note.ensures;
    })
    tt tt

notes : (c : goal.After-clear) → Notes (the_view c.self.inside) c.leave-answer.new.self c.note.new.entries.items (Leave c.self.inside.query) (Left c.leave-answer.result)
notes c =
    called_notes (the_view c.self.inside) c.leave-answer.new.self c.note.new.entries.items c.reserve.new.self.items (Leave c.self.inside.query) (Leave c.self.inside.query) (Left c.leave-answer.result) (Left c.leave-answer.result)
    (record {
      place = c.leave-answer.ensures.place;
      same = λ memory. cc;
      stands = c.leave-answer.ensures.stands;
      asked_is = refl;
      reserved_is = c.reserve.ensures.items;
      told_is = refl;
      entries_are = c.note.ensures;
    })
    tt tt

pub invariant_of-self-then-is_err : goal.invariant_of-self-then-is_err
invariant_of-self-then-is_err c =
    notes_keep (the_view c.self.inside) c.leave-answer.new.self c.note.new.entries.items (Leave c.self.inside.query) (Left c.leave-answer.result) c.self.invariant (refused c)
    (stays_none_left c.self.inside.query c.leave-answer.result (sym c.is_err.ensures.value ∙ c.if-is_err.true))

pub returns-then-is_err-clause-ok : goal.returns-then-is_err-clause-ok
returns-then-is_err-clause-ok c =
    leave_stays (the_view c.self.inside) c.args.self.now c.leave-answer.new.self c.note.new.entries.items c.leave-answer.result c.self.view_is (sym c.is_err.ensures.value ∙ c.if-is_err.true) (refused c)

pub invariant_of-self-2 : goal.invariant_of-self-2
invariant_of-self-2 c =
    left_keeps (the_view c.self.inside) c.leave-answer.new.self c.note.new.entries.items c.clear.new.self.items c.leave-answer.result c.self.invariant (notes c) c.clear.ensures.items
