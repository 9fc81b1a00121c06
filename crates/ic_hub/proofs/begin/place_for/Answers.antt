use Rattle.std.proofs.Common.{rules, Bool, nat_lt}
use Rattle.std.proofs.lemmas.List.Sorted.{IsPartitionPoint-from_clause, IsPartitionedBy-ltb}
use Rattle.ic_hub.specs.Hubbing.{Living}
use Rattle.ic_hub.proofs.Beginning.{rise, front_less, back_more}
use Rattle.ic_hub.proofs.begin.place_for.Goals as goal

pub returns-clause-before : goal.returns-clause-before
returns-clause-before c =
    let test : Living → Bool = λ (l : Living). nat_lt l.number c.args.number in
    let parted = IsPartitionedBy-ltb (λ (l : Living). l.number) c.args.live.now c.args.number (λ i j d le within. rise c.args.live.now c.requires i j d le within) in
    let point = IsPartitionPoint-from_clause test _ _ c.partition_point.ensures.partitioned parted (λ a r q k. search rules) in
    front_less c.args.live.now c.args.number c.partition_point.result c.partition_point.ensures.bound point.0

pub returns-clause-behind : goal.returns-clause-behind
returns-clause-behind c =
    let test : Living → Bool = λ (l : Living). nat_lt l.number c.args.number in
    let parted = IsPartitionedBy-ltb (λ (l : Living). l.number) c.args.live.now c.args.number (λ i j d le within. rise c.args.live.now c.requires i j d le within) in
    let point = IsPartitionPoint-from_clause test _ _ c.partition_point.ensures.partitioned parted (λ a r q k. search rules) in
    back_more c.args.live.now c.args.number c.partition_point.result c.partition_point.ensures.bound point.1
