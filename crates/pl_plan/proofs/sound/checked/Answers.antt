use Rattle.std.proofs.Common.{rules, ◌≡◌, sym, subst}
use Rattle.std.specs.Prelude.{Ok, Err, None, IfErr}
use Rattle.pl_tree.specs.Trees.{tree_in}
use Rattle.pl_plan.specs.Limits.{room_of, workers_of, limit_rule}
use Rattle.pl_plan.specs.Kept.{given_with, Refuses}
use Rattle.pl_plan.specs.Noting.{IsNoted, Judges, Limits}
use Rattle.pl_plan.proofs.KeptLaws.{notes_few, kept, refuses_walk, refuses_limits}
use Rattle.pl_plan.proofs.sound.checked.Goals as goal

pub returns-in_err-notes-clause-fault : goal.returns-in_err-notes-clause-fault
returns-in_err-notes-clause-fault c =
    let e = c.in_err-notes.field-0.0 in
    let r : c.from_residual.result ≡ Err e = search rules in
    let at : c.judge.result ≡ Err e = search rules in
    subst (λ x. IfErr x (Refuses (given_with c.args.schemas.now c.args.segments c.args.settings.now) (tree_in c.args.plan))) (sym r) (refuses_walk (given_with c.args.schemas.now c.args.segments c.args.settings.now) (tree_in c.args.plan) e (subst (λ s. Judges s (tree_in c.args.plan) (Err e)) c.as_slice.ensures (subst (Judges c.as_slice.result.now (tree_in c.args.plan)) at c.judge.ensures)))

pub within_limits-requires-clause-motions : goal.within_limits-requires-clause-motions
within_limits-requires-clause-motions c =
    let at : c.judge.result ≡ Ok c.in_ok-notes.notes = search rules in
    notes_few c.args.schemas.now (tree_in c.args.plan) c.in_ok-notes.notes c.requires.plan (subst (λ s. Judges s (tree_in c.args.plan) (Ok c.in_ok-notes.notes)) c.as_slice.ensures (subst (Judges c.as_slice.result.now (tree_in c.args.plan)) at c.judge.ensures))

pub returns-in_err-within_limits-clause-fault : goal.returns-in_err-within_limits-clause-fault
returns-in_err-within_limits-clause-fault c =
    let e = c.in_err-within_limits.field-0.0 in
    let r : c.from_residual-in_err-within_limits.result ≡ Err e = search rules in
    let at : c.judge.result ≡ Ok c.in_ok-notes.notes = search rules in
    let limited : c.within_limits.result ≡ Err e = search rules in
    subst (λ x. IfErr x (Refuses (given_with c.args.schemas.now c.args.segments c.args.settings.now) (tree_in c.args.plan))) (sym r)
    (refuses_limits c.args.schemas.now c.args.segments c.args.settings.now (tree_in c.args.plan) c.in_ok-notes.notes e (subst (λ s. Judges s (tree_in c.args.plan) (Ok c.in_ok-notes.notes)) c.as_slice.ensures (subst (Judges c.as_slice.result.now (tree_in c.args.plan)) at c.judge.ensures)) (subst (Limits (limit_rule (room_of c.args.segments c.args.settings.now c.in_ok-notes.notes.motions) (workers_of c.args.segments c.in_ok-notes.notes.motions))) limited c.within_limits.ensures))

pub keep-requires : goal.keep-requires
keep-requires c =
    let at : c.judge.result ≡ Ok c.in_ok-notes.notes = search rules in
    let limited : c.within_limits.result ≡ Ok c.in_ok-within_limits.field-0 = search rules in
    kept c.args.plan c.args.schemas.now c.args.segments c.args.settings.now c.in_ok-notes.notes c.requires.plan c.requires.tables c.requires.least_segments c.requires.most_segments c.requires.settings (subst (λ s. Judges s (tree_in c.args.plan) (Ok c.in_ok-notes.notes)) c.as_slice.ensures (subst (Judges c.as_slice.result.now (tree_in c.args.plan)) at c.judge.ensures)) (subst (Limits (limit_rule (room_of c.args.segments c.args.settings.now c.in_ok-notes.notes.motions) (workers_of c.args.segments c.in_ok-notes.notes.motions))) limited c.within_limits.ensures)
