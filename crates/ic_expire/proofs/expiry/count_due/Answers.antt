use Rattle.std.proofs.Common.{rules}
use Rattle.std.proofs.lemmas.List.Sorted.{IsPartitionPoint-from_clause, IsPartitionedBy-leb}
use Rattle.ic_expire.specs.Items.{is_due}
use Rattle.ic_expire.proofs.Lists.{cut_front, cut_back}
use Rattle.ic_expire.proofs.Keeping.{dues_rise}
use Rattle.ic_expire.proofs.expiry.count_due.Goals as goal

pub returns-clause-due : goal.returns-clause-due
returns-clause-due c =
    let parted = IsPartitionedBy-leb (λ x. x.due) c.args.items.now c.args.now (dues_rise c.args.items.now c.requires) in
    let point = IsPartitionPoint-from_clause (is_due c.args.now) _ _ c.partition_point.ensures.partitioned parted (λ a r q k. search rules) in
    cut_front (is_due c.args.now) c.args.items.now c.partition_point.result c.partition_point.ensures.bound point

pub returns-clause-later : goal.returns-clause-later
returns-clause-later c =
    let parted = IsPartitionedBy-leb (λ x. x.due) c.args.items.now c.args.now (dues_rise c.args.items.now c.requires) in
    let point = IsPartitionPoint-from_clause (is_due c.args.now) _ _ c.partition_point.ensures.partitioned parted (λ a r q k. search rules) in
    cut_back (is_due c.args.now) c.args.items.now c.partition_point.result c.partition_point.ensures.bound point
