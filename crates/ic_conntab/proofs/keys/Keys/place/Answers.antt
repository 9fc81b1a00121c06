use Rattle.std.proofs.Common.{position, ap, ◌∙◌}
use Rattle.ic_base.specs.Keys.{key_eq}
use Rattle.ic_conntab.proofs.keys.Keys.place.Goals as goal

pub returns : goal.returns
unfolding key_eq
returns c = c.get_index_of.ensures.index ∙ ap (position (key_eq c.args.key.now)) c.self.view_is
