use Rattle.std.proofs.Common.{ap, ◌∙◌}
use Rattle.std.specs.FinMap as map
use Rattle.ic_conntab.proofs.Entries.{one_put}
use Rattle.ic_conntab.proofs.live.Live.insert.Goals as goal

pub returns-clause-ok : goal.returns-clause-ok
returns-clause-ok c =
    one_put c.self.inside.queries.entries c.insert.new.self.entries c.args.query c.args.keys c.in_ok-insert.ensures.updates.0
    ∙ ap (λ m. map.insert m c.args.query c.args.keys) c.self.view_is
