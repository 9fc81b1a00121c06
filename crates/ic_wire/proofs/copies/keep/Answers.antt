use Rattle.std.proofs.Common.{rules, ◌≡◌, sym, subst}
use Rattle.ic_wire.specs.Copies.{with_copy, AreKept}
use Rattle.ic_wire.proofs.Queues.{kept_with}
use Rattle.ic_wire.proofs.copies.keep.Goals as goal

pub returns-clause-kept : goal.returns-clause-kept
returns-clause-kept c =
    let items : c.insert-kept.new.self.items ≡ with_copy c.args.copy c.args.kept.now.items = search rules in
    subst (AreKept c.args.copy.datagram.to) (sym items) (kept_with c.args.copy c.args.kept.now.items c.requires.kept)
