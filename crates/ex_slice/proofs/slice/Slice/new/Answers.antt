use Rattle.std.proofs.Common.{◌≡◌, [], sym, ap, ◌∙◌, subst, List}
use Rattle.pl_runs.specs.Steps.{Step}
use Rattle.pl_runs.specs.Logs.{ends_of}
use Rattle.ic_motion.specs.Sending.{fresh_sender, Sends}
use Rattle.ic_motion.specs.Sent.{IsUnsent}
use Rattle.ex_tree.specs.Running.{state_of}
use Rattle.ex_plan.specs.Workers.{worker_of, part_for}
use Rattle.ex_slice.specs.Working.{Reaching}
use Rattle.ex_slice.proofs.Fresh.{listens_all, unheard_none, root_faces, out_faces, out_fresh, out_reaches, least_of}
use Rattle.ex_slice.proofs.slice.Slice.new.Goals as goal

pub returns-then-id-eq0-clause-begins : goal.returns-then-id-eq0-clause-begins
returns-then-id-eq0-clause-begins c =
    let part = part_for c.args.plan.now c.args.rows.now c.args.id.now in
    c.root.ensures.begins (worker_of c.args.plan.now c.args.rows.now c.args.id.now.slice c.args.id.now.at) part c.in_ok-tree.ensures.serves
    (root_faces c.args.plan.now c.args.rows.now c.args.id.now.slice c.args.id.now.at c.if-id-eq0.true c.slice_0_sends_nothing.ensures) (c.in_ok-tree.ensures.starts [] (unheard_none part))

pub returns-then-id-eq0-clause-listens : goal.returns-then-id-eq0-clause-listens
returns-then-id-eq0-clause-listens c =
    let part = part_for c.args.plan.now c.args.rows.now c.args.id.now in
    listens_all (ends_of (worker_of c.args.plan.now c.args.rows.now c.args.id.now.slice c.args.id.now.at) c.args.id.now.session c.args.id.now.query) part (state_of c.in_ok-tree.tree) [] []
    (c.in_ok-tree.ensures.heard c.requires.at) (c.in_ok-tree.ensures.starts [] (unheard_none part))

pub returns-clause-begins : goal.returns-clause-begins
returns-clause-begins c =
    let j = c.args.plan.now in
    let slice = c.args.id.now.slice in
    let m = c.in_ok-sending_end.field-0 in
    let kind = c.in_ok-sends.sends.kind in
    let receivers = c.in_ok-sends.sends.receivers in
    let part = part_for j c.args.rows.now c.args.id.now in
    let is : m ≡ fresh_sender slice kind j.settings.packet receivers = c.in_ok-sending_end.ensures.value ∙ ap (λ k. fresh_sender k kind j.settings.packet receivers) c.in_ok-sends.ensures.motion in
    let least = least_of slice c.if-id-eq0.false in
    let sends : (steps : List Step) → IsUnsent slice steps → Sends m steps [] = subst (λ k. (steps : List Step) → IsUnsent k steps → Sends m steps []) c.in_ok-sends.ensures.motion c.in_ok-sending_end.ensures.sends in
    c.sending.ensures.begins (worker_of j c.args.rows.now slice c.args.id.now.at) part c.in_ok-tree.ensures.serves
    (out_faces j c.args.rows.now slice c.args.id.now.at kind receivers least c.requires.at c.in_ok-sends.ensures.receivers m is)
    (out_fresh j c.args.rows.now slice c.args.id.now.at kind receivers least c.requires.at c.in_ok-sends.ensures.receivers m is sends) (c.in_ok-tree.ensures.starts [] (unheard_none part))

pub returns-clause-listens : goal.returns-clause-listens
returns-clause-listens c =
    let part = part_for c.args.plan.now c.args.rows.now c.args.id.now in
    listens_all (ends_of (worker_of c.args.plan.now c.args.rows.now c.args.id.now.slice c.args.id.now.at) c.args.id.now.session c.args.id.now.query) part (state_of c.in_ok-tree.tree) [] []
    (c.in_ok-tree.ensures.heard c.requires.at) (c.in_ok-tree.ensures.starts [] (unheard_none part))

pub returns-clause-reaches : goal.returns-clause-reaches
returns-clause-reaches c =
    let j = c.args.plan.now in
    let slice = c.args.id.now.slice in
    let m = c.in_ok-sending_end.field-0 in
    let kind = c.in_ok-sends.sends.kind in
    let receivers = c.in_ok-sends.sends.receivers in
    let is : m ≡ fresh_sender slice kind j.settings.packet receivers = c.in_ok-sending_end.ensures.value ∙ ap (λ k. fresh_sender k kind j.settings.packet receivers) c.in_ok-sends.ensures.motion in
    subst (Reaching (ends_of (worker_of j c.args.rows.now slice c.args.id.now.at) c.args.id.now.session c.args.id.now.query)) (sym c.sending.ensures.way)
    (out_reaches j c.args.rows.now slice c.args.id.now.at kind receivers (least_of slice c.if-id-eq0.false) c.requires.at c.in_ok-sends.ensures.receivers m c.args.id.now.session c.args.id.now.query is)
