use Rattle.std.proofs.Common.{◌≡◌, arith}
use Rattle.std.proofs.lemmas.Nat.{mul-le}
use Rattle.pl_plan.proofs.SumLemmas.{size_most}
use Rattle.pl_plan.proofs.limits.links_of.Goals as goal

pub returns-clause-most : goal.returns-clause-most
returns-clause-most c =
    mul-le c.from.result c.from-2.result 64 64 (omega (arith, size_most c.args.segments c.args.motion.now.senders c.requires, c.size.ensures, c.from.ensures)) (omega (arith, size_most c.args.segments c.args.motion.now.receivers c.requires, c.size-2.ensures, c.from-2.ensures))
