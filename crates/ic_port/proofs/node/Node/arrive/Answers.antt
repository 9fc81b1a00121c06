use Rattle.std.proofs.Common.{[], ◌∷◌, ◌++◌, subst, refl}
use Rattle.ic_law.specs.declared.history.HubAsk.TheVariants.{Arrive}
use Rattle.ic_law.specs.declared.history.HubReply.TheVariants.{Came}
use Rattle.ic_hub.specs.Standing.{Stands}
use Rattle.ic_hub.specs.Entries.{arrive_entry}
use Rattle.ic_port.specs.contracts.node.Node.{the_view}
use Rattle.ic_port.proofs.Keeping.{Notes, notes_keep}
use Rattle.ic_port.proofs.Serving.{called_notes}
use Rattle.ic_port.proofs.node.Node.arrive.Goals as goal

notes : (c : goal.After-note) → Notes (the_view c.self.inside) c.arrive.new.self c.note.new.entries.items (Arrive c.args.datagram) (Came c.in_ok-how.how c.in_ok-how.datagrams)
notes c =
    called_notes (the_view c.self.inside) c.arrive.new.self c.note.new.entries.items c.reserve.new.self.items (Arrive c.args.datagram) (Arrive c.args.datagram) (Came c.in_ok-how.how c.in_ok-how.datagrams) (Came c.in_ok-how.how c.in_ok-how.datagrams)
    (record {
      place = c.arrive.ensures.place;
      same = λ memory. cc;
      stands = λ h was. subst (λ r. Stands c.arrive.new.self (h ++ arrive_entry c.args.datagram r ∷ [])) c.in_ok-how.was (c.arrive.ensures.stands h was);
      asked_is = refl;
      reserved_is = c.reserve.ensures.items;
      told_is = refl;
      entries_are = c.note.ensures;
    })
    tt tt

pub invariant_of-self-2 : goal.invariant_of-self-2
invariant_of-self-2 c =
    notes_keep (the_view c.self.inside) c.arrive.new.self c.note.new.entries.items (Arrive c.args.datagram) (Came c.in_ok-how.how c.in_ok-how.datagrams) c.self.invariant (notes c) refl
