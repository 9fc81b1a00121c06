use Rattle.std.proofs.Common.{map, false, ap, ◌∙◌, arith}
use Rattle.std.specs.List.{range_with_len}
use Rattle.gd_law.specs.Answers.{gather_end}
use Rattle.gd_sim.proofs.Starting.{ends_more}
use Rattle.gd_sim.proofs.begin.Beginning.receiving.Goals as goal

pub loop-from-init : goal.loop-from-init
loop-from-init c = c.in_ok-ends.ensures.items

pub loop-from-preserved : goal.loop-from-preserved
loop-from-preserved c =
    ends_more (gather_end c.args.self.now.session c.args.self.now.query false) c.loop-from.from c.loop-from.ends.items c.push.new.self.items c.end.result
    c.in_ok-push.ensures.items c.loop-from.invariant c.end.ensures

pub returns : goal.returns
returns c =
    c.loop-from.invariant
    ∙ ap (λ n. map (gather_end c.args.self.now.session c.args.self.now.query false) (range_with_len 0 n)) (omega (arith, c.loop-from.auto.from-end, c.loop-from-test.false))
