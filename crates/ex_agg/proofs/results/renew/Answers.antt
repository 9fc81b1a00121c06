use Rattle.std.proofs.Common.{◌≡◌, get_or, refl}
use Rattle.pl_tree.specs.declared.node.Call.TheVariants.{Count}
use Rattle.pl_ops.specs.declared.words.OpNo.TheVariants.{Overflow}
use Rattle.ex_agg.specs.Calls.{HaveRoom, renewed}
use Rattle.ex_agg.proofs.Renewing.{begins, next, over, renewed_all, all_room, handed_on}
use Rattle.ex_agg.proofs.results.renew.Goals as goal

pub loop-i-init : goal.loop-i-init
loop-i-init c = begins c.args.is_final c.args.first c.args.calls.now c.args.row.now c.args.values.now

pub loop-i-preserved : goal.loop-i-preserved
loop-i-preserved c =
    next c.args.is_final c.args.first c.args.calls.now c.args.row.now c.args.values.now c.loop-i.i c.loop-i.values
    (get_or c.args.calls.now c.loop-i.i Count) c.loop-i-test.true refl c.loop-i.invariant c.renew_at.new.values
    c.in_ok-renew_at.ensures.ok.0 c.in_ok-renew_at.ensures.ok.1

pub returns-in_err-renew_at-clause-over : goal.returns-in_err-renew_at-clause-over
returns-in_err-renew_at-clause-over c =
    handed_on c.from_residual.result c.in_err-renew_at.field-0.0
    (λ no. no ≡ Overflow → HaveRoom c.args.calls.now (renewed c.args.is_final c.args.first c.args.calls.now c.args.values.now c.args.row.now) → ⊥)
    c.from_residual.ensures.1
    (λ e. over c.args.is_final c.args.first c.args.calls.now c.args.row.now c.args.values.now c.loop-i.i c.loop-i.values
    (get_or c.args.calls.now c.loop-i.i Count) c.loop-i-test.true refl c.loop-i.invariant
    (c.in_err-renew_at.ensures.over e).0 (c.in_err-renew_at.ensures.over e).1)

pub returns-clause-ok : goal.returns-clause-ok
returns-clause-ok c = renewed_all c.args.is_final c.args.first c.args.calls.now c.args.row.now c.args.values.now c.loop-i.i c.loop-i.values c.loop-i-test.false c.loop-i.invariant

pub returns-clause-room : goal.returns-clause-room
returns-clause-room c = all_room c.args.is_final c.args.first c.args.calls.now c.args.row.now c.args.values.now c.loop-i.i c.loop-i.values c.loop-i-test.false c.loop-i.invariant
