use Rattle.std.proofs.Common.{rules, Bool}
use Rattle.std.specs.Ordering.{is_lt}
use Rattle.std.proofs.lemmas.List.Sorted.{IsPartitionPoint-from_clause}
use Rattle.ic_expire.specs.declared.item.Item.{Item}
use Rattle.ic_expire.specs.Items.{item_cmp}
use Rattle.ic_expire.proofs.Lists.{cut_front, cut_back}
use Rattle.ic_expire.proofs.Keeping.{parted_at}
use Rattle.ic_expire.proofs.expiry.place_of.Goals as goal

pub returns-clause-before : goal.returns-clause-before
returns-clause-before c =
    let test : Item → Bool = λ y. is_lt (item_cmp y c.args.item.now) in
    let point = IsPartitionPoint-from_clause test _ _ c.partition_point.ensures.partitioned (parted_at c.args.items.now c.args.item.now c.requires) (λ a r q k. search rules) in
    cut_front test c.args.items.now c.partition_point.result c.partition_point.ensures.bound point

pub returns-clause-behind : goal.returns-clause-behind
returns-clause-behind c =
    let test : Item → Bool = λ y. is_lt (item_cmp y c.args.item.now) in
    let point = IsPartitionPoint-from_clause test _ _ c.partition_point.ensures.partitioned (parted_at c.args.items.now c.args.item.now c.requires) (λ a r q k. search rules) in
    cut_back test c.args.items.now c.partition_point.result c.partition_point.ensures.bound point
