use Rattle.std.proofs.Common.{◌≡◌, [], refl, ◌∙◌}
use Rattle.gd_work.proofs.Pieces.{none_left}
use Rattle.gd_work.proofs.cutter.Cutter.new.Goals as goal

pub returns : goal.returns
returns c = record {
  size = refl;
  begun = refl;
  left = none_left c.args.packet c.in_ok-from_vec.field-0 c.new-3.result.items c.new-2.result c.requires.least (c.in_ok-from_vec.ensures ∙ c.new.ensures.items) c.new-3.ensures.items c.new-2.ensures;
}
