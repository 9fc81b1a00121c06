use Rattle.std.proofs.Common.{sym, subst, ap, ◌∙◌}
use Rattle.pl_tree.specs.Trees.{tree_of}
use Rattle.pl_tree.specs.Columns.{kinds_of}
use Rattle.pl_tree.specs.Loci.{locus_of}
use Rattle.pl_plan.specs.Motions.{gang_at}
use Rattle.ic_motion.specs.declared.answers.MotionEnd.{MotionEnd}
use Rattle.ic_motion.specs.Hearing.{Ascends}
use Rattle.ex_tree.specs.Running.{state_of}
use Rattle.ex_plan.proofs.Known.{gang_ascends}
use Rattle.ex_plan.proofs.Starting.{plan_holds}
use Rattle.ex_plan.proofs.listening.hear.Goals as goal

pub new-requires : goal.new-requires
new-requires c =
    subst Ascends (sym (c.in_ok-senders.ensures ∙ c.requires.senders)) (gang_ascends c.args.plan.now.segments (locus_of c.args.plan.now.schemas (tree_of c.args.child.now)))

pub returns : goal.returns
returns c tables =
    let end : MotionEnd = record { session = c.args.id.now.session; query = c.args.id.now.query; motion = c.args.motion; at = c.args.id.now.at } in
    let child = tree_of c.args.child.now in
    plan_holds end c.in_ok-senders.senders (gang_at c.args.plan.now.segments (locus_of c.args.plan.now.schemas child)) c.args.order c.in_ok-kinds.kinds (kinds_of c.args.plan.now.schemas child) c.in_ok-new.field-0
    (c.in_ok-senders.ensures ∙ c.requires.senders) (c.in_ok-kinds.ensures ∙ ap (λ x. kinds_of x child) (c.as_slice.ensures ∙ c.schemas.ensures)) c.in_ok-new.ensures.value c.in_ok-new.ensures.hears (state_of c.hears.result) c.hears.ensures.runs
