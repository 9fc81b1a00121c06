use Rattle.std.proofs.Common.{ap, sym, ◌∙◌}
use Rattle.std.specs.FinMap as map
use Rattle.ic_conntab.proofs.Entries.{get_entry}
use Rattle.ic_conntab.proofs.live.Live.get.Goals as goal

pub returns : goal.returns
returns c =
    c.get.ensures.value ∙ sym (get_entry c.self.inside.queries.entries c.args.query) ∙ ap (λ m. map.get m c.args.query) c.self.view_is
