use Rattle.std.proofs.Common.{sym, subst}
use Rattle.std.specs.Prelude.{Contains}
use Rattle.pl_tree.specs.declared.node.Plan.{Plan}
use Rattle.pl_tree.specs.Trees.{tree_of, tree_in}
use Rattle.pl_plan.specs.Motions.{dispatcher}
use Rattle.pl_runs.specs.Logs.{ends_of}
use Rattle.ex_tree.specs.Running.{state_of, AreHeard}
use Rattle.ex_tree.specs.Plans.{part_of}
use Rattle.ex_plan.specs.Workers.{site_of, place_of, worker_of, gang_in, part_for, Starts}
use Rattle.ex_plan.specs.Fitting.{HavePartials, AreKnown}
use Rattle.ex_plan.proofs.Standing.{root_stands}
use Rattle.ex_plan.proofs.Known.{are_known}
use Rattle.ex_plan.proofs.Starting.{if_ok}
use Rattle.ex_plan.proofs.Tops.{plan_partials, few_motions, root_part, tree_heard, part_serves}
use Rattle.ex_plan.proofs.making.tree_of.Goals as goal

pub grow-requires-clause-partials : goal.grow-requires-clause-partials
grow-requires-clause-partials c = subst (λ (p : Plan). HavePartials (tree_of p.root)) (sym c.plan.ensures) (plan_partials c.args.plan.now c.is_judged.ensures)

pub grow-requires-clause-motions : goal.grow-requires-clause-motions
grow-requires-clause-motions c = few_motions c.args.plan.now c.plan.result.now c.is_judged.ensures c.plan.ensures

pub grow-requires-clause-known : goal.grow-requires-clause-known
grow-requires-clause-known c =
    let j = c.args.plan.now in
    subst (λ (p : Plan). AreKnown j c.args.id.now.slice 1 (tree_of p.root)) (sym c.plan.ensures)
    (subst (λ k. AreKnown j k 1 (tree_in j.plan)) (sym c.if-id-eq0.true) (are_known j 0 1 dispatcher (tree_in j.plan) (root_stands j.schemas j.segments (tree_in j.plan))))

pub returns-then-id-eq0-clause-heard : goal.returns-then-id-eq0-clause-heard
returns-then-id-eq0-clause-heard c =
    let j = c.args.plan.now in
    let id = c.args.id.now in
    if_ok c.grow.result (λ t. Starts (part_of (site_of j c.args.rows.now) (place_of c.args.id.now) 0 1 (tree_of c.plan.result.now.root)) (state_of t))
    (λ t. Contains (gang_in j c.args.id.now.slice) c.args.id.now.at → AreHeard (ends_of (worker_of j c.args.rows.now c.args.id.now.slice c.args.id.now.at) c.args.id.now.session c.args.id.now.query) (state_of t)) c.grow.ensures
    (λ t f. tree_heard j c.is_judged.ensures c.args.rows.now c.args.id.now (state_of t) c.requires (subst (λ w. Starts w (state_of t)) (root_part j c.is_judged.ensures c.args.rows.now c.args.id.now c.plan.result.now c.if-id-eq0.true c.plan.ensures) f))

pub returns-clause-heard : goal.returns-clause-heard
returns-clause-heard c =
    let j = c.args.plan.now in
    if_ok c.grow_below.result (λ t. Starts (part_for j c.args.rows.now c.args.id.now) (state_of t))
    (λ t. Contains (gang_in j c.args.id.now.slice) c.args.id.now.at → AreHeard (ends_of (worker_of j c.args.rows.now c.args.id.now.slice c.args.id.now.at) c.args.id.now.session c.args.id.now.query) (state_of t)) c.grow_below.ensures
    (λ t f. tree_heard j c.is_judged.ensures c.args.rows.now c.args.id.now (state_of t) c.requires f)

pub returns-then-id-eq0-clause-serves : goal.returns-then-id-eq0-clause-serves
returns-then-id-eq0-clause-serves c = part_serves c.args.plan.now c.is_judged.ensures c.args.rows.now c.args.id.now c.requires

pub returns-clause-serves : goal.returns-clause-serves
returns-clause-serves c = part_serves c.args.plan.now c.is_judged.ensures c.args.rows.now c.args.id.now c.requires
