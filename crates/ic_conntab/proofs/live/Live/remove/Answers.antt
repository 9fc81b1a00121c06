use Rattle.std.proofs.Common.{is_some, ap, sym, ◌∙◌}
use Rattle.std.specs.FinMap as map
use Rattle.ic_conntab.proofs.Entries.{get_entry, one_taken}
use Rattle.ic_conntab.proofs.live.Live.remove.Goals as goal

pub returns-clause-was : goal.returns-clause-was
returns-clause-was c =
    c.is_some.ensures ∙ ap is_some (c.remove.ensures.value ∙ sym (get_entry c.self.inside.queries.entries c.args.query))
    ∙ ap (λ m. is_some (map.get m c.args.query)) c.self.view_is

pub returns-clause-left : goal.returns-clause-left
returns-clause-left c =
    one_taken c.self.inside.queries.entries c.remove.new.self.entries c.args.query c.remove.ensures.updates.0
    ∙ ap (λ m. map.remove m c.args.query) c.self.view_is
