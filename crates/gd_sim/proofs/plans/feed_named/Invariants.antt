use Rattle.std.proofs.Common.{◌≡◌, drop}
use Rattle.gd_sim.specs.Plans.{feed_from}
use Rattle.gd_sim.proofs.plans.feed_named.Given as goal

abbrev pub invariant-loop-schema : goal.invariant-loop-schema
invariant-loop-schema l =
    record {
      number : l.number ≡ l.schema-index;
      rest : feed_from l.segments 0 l.name l.schemas ≡ feed_from l.segments l.number l.name (drop l.schema-index l.schemas);
    }
