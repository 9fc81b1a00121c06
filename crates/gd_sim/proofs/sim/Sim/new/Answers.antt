use Rattle.std.proofs.Common.{◌+◌, ap, ◌∙◌, arith}
use Rattle.ic_port.specs.Noding.{fresh}
use Rattle.gd_sim.proofs.Starting.{first_new, next_new}
use Rattle.gd_sim.proofs.sim.Sim.new.Goals as goal

pub loop-number-init : goal.loop-number-init
loop-number-init c = first_new c.args.session c.args.settings c.in_ok-stations.stations.items c.push.new.self.items c.in_ok-new.field-0 c.in_ok-push.ensures.items c.in_ok-stations.ensures.items c.in_ok-new.ensures

pub loop-number-preserved : goal.loop-number-preserved
loop-number-preserved c =
    next_new c.args.session c.args.settings c.loop-number.number c.loop-number.stations.items c.push-in-loop-number.new.self.items c.in_ok-new-2.field-0 c.loop-number.invariant c.in_ok-push-2.ensures.items
    (c.in_ok-new-2.ensures ∙ ap (λ a. fresh c.args.session a c.args.settings) c.segment.ensures)

pub returns : goal.returns
returns c = record {
  count = c.loop-number.invariant.many ∙ ap (λ n. n + 1) (omega (arith, c.loop-number.auto.number-end, c.loop-number-test.false));
  each = c.loop-number.invariant.each;
  network = c.in_ok-network.ensures;
}
