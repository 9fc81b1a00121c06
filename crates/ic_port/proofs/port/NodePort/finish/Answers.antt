use Rattle.std.proofs.Common.{◌≡◌, ap, sym, ◌∙◌, subst, refl}
use Rattle.ic_base.specs.declared.port.PortAsk.TheVariants as ask
use Rattle.ic_base.specs.Ports.{did}
use Rattle.ic_base.specs.declared.keys.ConnKey.{ConnKey}
use Rattle.ic_law.specs.declared.history.HubAsk.TheVariants.{Finish}
use Rattle.ic_hub.specs.Entries.{gave_of}
use Rattle.ic_port.specs.Noding.{Noding}
use Rattle.ic_port.specs.Calls.{Works}
use Rattle.ic_port.specs.contracts.node.Node.{the_view}
use Rattle.ic_hub.proofs.Noting.{gave_memory}
use Rattle.ic_port.proofs.Keeping.{Notes, after, notes_keep, notes_works}
use Rattle.ic_port.proofs.Keys.{key_of}
use Rattle.ic_port.proofs.Serving.{called_notes, sends_ours, its_query, finish_same, called_log, put_may}
use Rattle.ic_port.proofs.port.NodePort.finish.Goals as goal

key_is : (c : goal.After-note) → c.key_to-key.result ≡ key_of c.self.inside.hub.session c.self.inside.query c.args.motion c.self.inside.hub.at c.args.to
key_is c = subst (λ (m : Noding). c.key_to-key.result ≡ key_of m.hub.session m.query c.args.motion m.hub.at c.args.to) (sym c.self.view_is) c.key_to-key.ensures

notes : (c : goal.After-note) → Notes (the_view c.self.inside) c.finish-answer.new.self c.note.new.entries.items (Finish c.key_to-key.result) (gave_of c.finish-answer.result)
notes c =
    called_notes (the_view c.self.inside) c.finish-answer.new.self c.note.new.entries.items c.reserve.new.self.items (Finish c.key_to-key.result) (Finish c.key_to-key.result) (gave_of c.finish-answer.result) c.gave.result
    (record {
      place = c.finish-answer.ensures.place;
      same = λ memory. gave_memory _ c.finish-answer.result c.finish-answer.ensures.err memory;
      stands = c.finish-answer.ensures.stands;
      asked_is = refl;
      reserved_is = c.reserve.ensures.items;
      told_is = c.gave.ensures;
      entries_are = c.note.ensures;
    })
    (sends_ours (the_view c.self.inside) c.key_to-key.result c.args.motion c.args.to (key_is c))
    (its_query c.self.inside.query c.key_to-key.result c.self.inside.hub.session c.args.motion c.self.inside.hub.at c.args.to (key_is c))

pub invariant_of-self-2 : goal.invariant_of-self-2
invariant_of-self-2 c =
    notes_keep (the_view c.self.inside) c.finish-answer.new.self c.note.new.entries.items (Finish c.key_to-key.result) (gave_of c.finish-answer.result) c.self.invariant (notes c) refl

pub returns-clause-steps : goal.returns-clause-steps
returns-clause-steps c =
    subst (λ (m : Noding). Works m (after (the_view c.self.inside) c.finish-answer.new.self c.self.inside.query c.self.inside.ends.items c.note.new.entries.items)) c.self.view_is
    (notes_works (the_view c.self.inside) c.finish-answer.new.self c.note.new.entries.items (Finish c.key_to-key.result) (gave_of c.finish-answer.result) (notes c) (ap (λ (k : ConnKey). k.query) (key_is c)) refl refl refl)

pub returns-clause-log : goal.returns-clause-log
returns-clause-log c =
    called_log (the_view c.self.inside) c.args.self.now c.finish-answer.new.self c.note.new.entries.items (Finish c.key_to-key.result) (gave_of c.finish-answer.result) (ask.Finish c.args.motion c.args.to) (did c.told_put-told.result) c.self.view_is (notes c)
    (c.told_put-told.ensures.logs (ask.Finish c.args.motion c.args.to) ∙ finish_same c.self.inside.query c.self.inside.hub.session c.args.motion c.self.inside.hub.at c.args.to c.key_to-key.result (gave_of c.finish-answer.result) (key_is c))

pub returns-clause-refusals : goal.returns-clause-refusals
returns-clause-refusals c =
    put_may (the_view c.self.inside) c.args.self.now c.key_to-key.result c.args.motion c.args.to c.told_put-told.result c.self.invariant c.self.view_is (key_is c) c.requires.sends c.told_put-told.ensures.refusals
