use Rattle.std.proofs.Common.{◌≡◌, ap, sym, ◌∙◌, subst, refl}
use Rattle.ic_base.specs.declared.port.PortAsk.TheVariants as ask
use Rattle.ic_base.specs.Ports.{did}
use Rattle.ic_base.specs.declared.keys.ConnKey.{ConnKey}
use Rattle.ic_law.specs.declared.history.HubAsk.TheVariants.{Halt}
use Rattle.ic_hub.specs.Entries.{gave_of}
use Rattle.ic_port.specs.Noding.{Noding}
use Rattle.ic_port.specs.Calls.{Works}
use Rattle.ic_port.specs.contracts.node.Node.{the_view}
use Rattle.ic_hub.proofs.Noting.{gave_memory}
use Rattle.ic_port.proofs.Keeping.{Notes, after, notes_keep, notes_works}
use Rattle.ic_port.proofs.Keys.{key_of}
use Rattle.ic_port.proofs.Serving.{called_notes, ends_ours, its_query, halt_same, called_log}
use Rattle.ic_port.proofs.port.NodePort.halt.Goals as goal

key_is : (c : goal.After-note) → c.key_from-key.result ≡ key_of c.self.inside.hub.session c.self.inside.query c.args.motion c.args.sender c.self.inside.hub.at
key_is c = subst (λ (m : Noding). c.key_from-key.result ≡ key_of m.hub.session m.query c.args.motion c.args.sender m.hub.at) (sym c.self.view_is) c.key_from-key.ensures

notes : (c : goal.After-note) → Notes (the_view c.self.inside) c.halt-answer.new.self c.note.new.entries.items (Halt c.key_from-key.result) (gave_of c.halt-answer.result)
notes c =
    called_notes (the_view c.self.inside) c.halt-answer.new.self c.note.new.entries.items c.reserve.new.self.items (Halt c.key_from-key.result) (Halt c.key_from-key.result) (gave_of c.halt-answer.result) c.gave.result
    (record {
      place = c.halt-answer.ensures.place;
      same = λ memory. gave_memory _ c.halt-answer.result c.halt-answer.ensures.err memory;
      stands = c.halt-answer.ensures.stands;
      asked_is = refl;
      reserved_is = c.reserve.ensures.items;
      told_is = c.gave.ensures;
      entries_are = c.note.ensures;
    })
    (ends_ours (the_view c.self.inside) c.key_from-key.result c.args.motion c.args.sender (key_is c))
    (its_query c.self.inside.query c.key_from-key.result c.self.inside.hub.session c.args.motion c.args.sender c.self.inside.hub.at (key_is c))

pub invariant_of-self-2 : goal.invariant_of-self-2
invariant_of-self-2 c =
    notes_keep (the_view c.self.inside) c.halt-answer.new.self c.note.new.entries.items (Halt c.key_from-key.result) (gave_of c.halt-answer.result) c.self.invariant (notes c) refl

pub returns-clause-steps : goal.returns-clause-steps
returns-clause-steps c =
    subst (λ (m : Noding). Works m (after (the_view c.self.inside) c.halt-answer.new.self c.self.inside.query c.self.inside.ends.items c.note.new.entries.items)) c.self.view_is
    (notes_works (the_view c.self.inside) c.halt-answer.new.self c.note.new.entries.items (Halt c.key_from-key.result) (gave_of c.halt-answer.result) (notes c) (ap (λ (k : ConnKey). k.query) (key_is c)) refl refl refl)

pub returns-clause-log : goal.returns-clause-log
returns-clause-log c =
    called_log (the_view c.self.inside) c.args.self.now c.halt-answer.new.self c.note.new.entries.items (Halt c.key_from-key.result) (gave_of c.halt-answer.result) (ask.Halt c.args.motion c.args.sender) (did c.told_halt-told.result) c.self.view_is (notes c)
    (c.told_halt-told.ensures.logs (ask.Halt c.args.motion c.args.sender) ∙ halt_same c.self.inside.query c.self.inside.hub.session c.args.motion c.args.sender c.self.inside.hub.at c.key_from-key.result (gave_of c.halt-answer.result) (key_is c))
