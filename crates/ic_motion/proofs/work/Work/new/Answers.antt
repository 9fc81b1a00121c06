use Rattle.std.proofs.Common.{◌∙◌}
use Rattle.ic_motion.proofs.Works.{new_work}
use Rattle.ic_motion.proofs.work.Work.new.Goals as goal

pub returns : goal.returns
returns c = new_work c.args.packet c.in_ok-from_vec.field-0 c.new.result.items c.new-3.result c.requires.least (c.in_ok-from_vec.ensures ∙ c.new-2.ensures.items) c.new.ensures.items c.new-3.ensures
