use Rattle.std.proofs.Common.{◌≡◌, ap, sym, ◌∙◌, subst, refl}
use Rattle.ic_base.specs.declared.port.PortAsk.TheVariants as ask
use Rattle.ic_base.specs.Ports.{did}
use Rattle.ic_law.specs.declared.history.HubAsk.TheVariants.{Put}
use Rattle.ic_hub.specs.Entries.{gave_of}
use Rattle.ic_base.specs.declared.keys.ConnKey.{ConnKey}
use Rattle.ic_port.specs.Noding.{Noding}
use Rattle.ic_port.specs.Calls.{Works}
use Rattle.ic_port.specs.contracts.node.Node.{the_view}
use Rattle.ic_hub.proofs.Noting.{gave_memory}
use Rattle.ic_port.proofs.Keeping.{Notes, after, notes_keep, notes_works}
use Rattle.ic_port.proofs.Keys.{key_of}
use Rattle.ic_port.proofs.Serving.{called_notes, sends_ours, its_query, put_same, called_log, put_may}
use Rattle.ic_port.proofs.port.NodePort.put.Goals as goal

key_is : (c : goal.After-note) → c.key_to-key.result ≡ key_of c.self.inside.hub.session c.self.inside.query c.args.motion c.self.inside.hub.at c.args.to
key_is c = subst (λ (m : Noding). c.key_to-key.result ≡ key_of m.hub.session m.query c.args.motion m.hub.at c.args.to) (sym c.self.view_is) c.key_to-key.ensures

notes : (c : goal.After-note) → Notes (the_view c.self.inside) c.put-answer.new.self c.note.new.entries.items (Put c.key_to-key.result c.args.chunk.now) (gave_of c.put-answer.result)
notes c =
    called_notes (the_view c.self.inside) c.put-answer.new.self c.note.new.entries.items c.reserve.new.self.items (Put c.key_to-key.result c.in_ok-bytes.bytes) (Put c.key_to-key.result c.args.chunk.now) (gave_of c.put-answer.result) c.gave.result
    (record {
      place = c.put-answer.ensures.place;
      same = λ memory. gave_memory _ c.put-answer.result c.put-answer.ensures.err memory;
      stands = c.put-answer.ensures.stands;
      asked_is = ap (λ b. Put c.key_to-key.result b) c.in_ok-bytes.ensures;
      reserved_is = c.reserve.ensures.items;
      told_is = c.gave.ensures;
      entries_are = c.note.ensures;
    })
    (sends_ours (the_view c.self.inside) c.key_to-key.result c.args.motion c.args.to (key_is c))
    (its_query c.self.inside.query c.key_to-key.result c.self.inside.hub.session c.args.motion c.self.inside.hub.at c.args.to (key_is c))

pub invariant_of-self-2 : goal.invariant_of-self-2
invariant_of-self-2 c =
    notes_keep (the_view c.self.inside) c.put-answer.new.self c.note.new.entries.items (Put c.key_to-key.result c.args.chunk.now) (gave_of c.put-answer.result) c.self.invariant (notes c) refl

pub returns-clause-steps : goal.returns-clause-steps
returns-clause-steps c =
    subst (λ (m : Noding). Works m (after (the_view c.self.inside) c.put-answer.new.self c.self.inside.query c.self.inside.ends.items c.note.new.entries.items)) c.self.view_is
    (notes_works (the_view c.self.inside) c.put-answer.new.self c.note.new.entries.items (Put c.key_to-key.result c.args.chunk.now) (gave_of c.put-answer.result) (notes c) (ap (λ (k : ConnKey). k.query) (key_is c)) refl refl refl)

pub returns-clause-log : goal.returns-clause-log
returns-clause-log c =
    called_log (the_view c.self.inside) c.args.self.now c.put-answer.new.self c.note.new.entries.items (Put c.key_to-key.result c.args.chunk.now) (gave_of c.put-answer.result) (ask.Put c.args.motion c.args.to c.args.chunk.now) (did c.told_put-told.result) c.self.view_is (notes c)
    (c.told_put-told.ensures.logs (ask.Put c.args.motion c.args.to c.args.chunk.now) ∙ put_same c.self.inside.query c.self.inside.hub.session c.args.motion c.self.inside.hub.at c.args.to c.key_to-key.result c.args.chunk.now (gave_of c.put-answer.result) (key_is c))

pub returns-clause-refusals : goal.returns-clause-refusals
returns-clause-refusals c =
    put_may (the_view c.self.inside) c.args.self.now c.key_to-key.result c.args.motion c.args.to c.told_put-told.result c.self.invariant c.self.view_is (key_is c) c.requires.sends c.told_put-told.ensures.refusals
