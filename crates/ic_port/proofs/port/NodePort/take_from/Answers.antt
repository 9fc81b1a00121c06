use Rattle.std.proofs.Common.{◌≡◌, List, ap, sym, ◌∙◌, subst, refl}
use Rattle.ic_base.specs.declared.port.PortAsk.TheVariants as ask
use Rattle.ic_base.specs.Ports.{gave}
use Rattle.ic_base.specs.declared.keys.ConnKey.{ConnKey}
use Rattle.ic_law.specs.declared.history.HubAsk.TheVariants.{TakeFrom}
use Rattle.ic_law.specs.declared.history.Entry.{Entry}
use Rattle.ic_hub.specs.Entries.{took_of}
use Rattle.ic_port.specs.Noding.{Noding, IsNode}
use Rattle.ic_port.specs.Calls.{Works}
use Rattle.ic_port.specs.contracts.node.Node.{the_view}
use Rattle.ic_hub.proofs.Noting.{took_memory}
use Rattle.ic_port.proofs.Keeping.{Notes, after, notes_keep, notes_works}
use Rattle.ic_port.proofs.Keys.{key_of}
use Rattle.ic_port.proofs.Serving.{called_notes, ends_ours, its_query, take_from_same, called_log}
use Rattle.ic_port.proofs.Taken.{one_from, taken_logs, taken_given, taken_may, taken_counts}
use Rattle.ic_port.proofs.port.NodePort.take_from.Goals as goal

key_is : (c : goal.After-told_taken) → c.key_from-key.result ≡ key_of c.self.inside.hub.session c.self.inside.query c.args.motion c.args.sender c.self.inside.hub.at
key_is c = subst (λ (m : Noding). c.key_from-key.result ≡ key_of m.hub.session m.query c.args.motion c.args.sender m.hub.at) (sym c.self.view_is) c.key_from-key.ensures

notes : (c : goal.After-told_taken) → Notes (the_view c.self.inside) c.take_from-answer.new.self c.note.new.entries.items (TakeFrom c.key_from-key.result) (took_of c.take_from-answer.result)
notes c =
    called_notes (the_view c.self.inside) c.take_from-answer.new.self c.note.new.entries.items c.reserve.new.self.items (TakeFrom c.key_from-key.result) (TakeFrom c.key_from-key.result) (took_of c.take_from-answer.result) c.took-taken.result.0
    (record {
      place = c.take_from-answer.ensures.place;
      same = λ memory. took_memory _ c.take_from-answer.result c.take_from-answer.ensures.err memory;
      stands = c.take_from-answer.ensures.stands;
      asked_is = refl;
      reserved_is = c.reserve.ensures.items;
      told_is = c.took-taken.ensures.reply;
      entries_are = c.note.ensures;
    })
    (ends_ours (the_view c.self.inside) c.key_from-key.result c.args.motion c.args.sender (key_is c))
    (its_query c.self.inside.query c.key_from-key.result c.self.inside.hub.session c.args.motion c.args.sender c.self.inside.hub.at (key_is c))

pub invariant_of-self-2 : goal.invariant_of-self-2
invariant_of-self-2 c =
    notes_keep (the_view c.self.inside) c.take_from-answer.new.self c.note.new.entries.items (TakeFrom c.key_from-key.result) (took_of c.take_from-answer.result) c.self.invariant (notes c) refl

pub returns-clause-steps : goal.returns-clause-steps
returns-clause-steps c =
    subst (λ (m : Noding). Works m (after (the_view c.self.inside) c.take_from-answer.new.self c.self.inside.query c.self.inside.ends.items c.note.new.entries.items)) c.self.view_is
    (notes_works (the_view c.self.inside) c.take_from-answer.new.self c.note.new.entries.items (TakeFrom c.key_from-key.result) (took_of c.take_from-answer.result) (notes c) (ap (λ (k : ConnKey). k.query) (key_is c)) refl refl refl)

pub returns-clause-log : goal.returns-clause-log
returns-clause-log c =
    called_log (the_view c.self.inside) c.args.self.now c.take_from-answer.new.self c.note.new.entries.items (TakeFrom c.key_from-key.result) (took_of c.take_from-answer.result) (ask.TakeFrom c.args.motion c.args.sender) (gave c.told_taken.result) c.self.view_is (notes c)
    (taken_logs c.take_from-answer.result c.took-taken.result.1 c.told_taken.result c.took-taken.ensures.own c.told_taken.ensures (ask.TakeFrom c.args.motion c.args.sender) ∙ take_from_same c.self.inside.query c.self.inside.hub.session c.args.motion c.args.sender c.self.inside.hub.at c.key_from-key.result (took_of c.take_from-answer.result) (key_is c))

pub returns-clause-from : goal.returns-clause-from
returns-clause-from c =
    one_from (the_view c.self.inside) c.args.self.now c.take_from-answer.new.self c.key_from-key.result c.args.motion c.args.sender c.take_from-answer.result c.told_taken.result c.self.invariant c.self.view_is c.take_from-answer.ensures.place
    (key_is c) c.take_from-answer.ensures.stands c.requires.hears (taken_given c.take_from-answer.result c.took-taken.result.1 c.told_taken.result c.took-taken.ensures.own c.told_taken.ensures)

pub returns-clause-refusals : goal.returns-clause-refusals
returns-clause-refusals c = taken_may c.took-taken.result.1 c.told_taken.result c.told_taken.ensures

pub returns-clause-busy : goal.returns-clause-busy
returns-clause-busy c = taken_counts c.took-taken.result.1 c.told_taken.result c.told_taken.ensures
