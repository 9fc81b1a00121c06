use Rattle.std.proofs.Common.{rules, Bool}
use Rattle.std.proofs.lemmas.List.Sorted.{IsPartitionPoint-from_clause}
use Rattle.ic_wire.specs.declared.copies.Kept.{Kept}
use Rattle.ic_wire.specs.Copies.{comes_before}
use Rattle.ic_wire.proofs.Lists.{cut_front, cut_back}
use Rattle.ic_wire.proofs.Order.{parted_at}
use Rattle.ic_wire.proofs.copies.place_of.Goals as goal

pub returns-clause-before : goal.returns-clause-before
returns-clause-before c =
    let test : Kept → Bool = comes_before c.args.key.now in
    let point = IsPartitionPoint-from_clause test _ _ c.partition_point.ensures.partitioned (parted_at c.args.kept.now.items c.args.key.now c.requires) (λ a r q k. search rules) in
    cut_front test c.args.kept.now.items c.partition_point.result (search rules) point

pub returns-clause-behind : goal.returns-clause-behind
returns-clause-behind c =
    let test : Kept → Bool = comes_before c.args.key.now in
    let point = IsPartitionPoint-from_clause test _ _ c.partition_point.ensures.partitioned (parted_at c.args.kept.now.items c.args.key.now c.requires) (λ a r q k. search rules) in
    cut_back test c.args.kept.now.items c.partition_point.result (search rules) point
