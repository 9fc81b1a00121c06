use Rattle.std.proofs.Common.{◌≡◌, List, Result, Ok, Err, false, refl, sym, ap, ◌∙◌, subst}
use Rattle.ic_motion.specs.Sending.{Target, route_by, all_stopped}
use Rattle.ic_motion.specs.Putting.{Begins, LeavesSame, Settles, fails, skips, puts}
use Rattle.std.specs.Result.{IsErr, IsErrAnd}
use Rattle.ic_motion.specs.declared.answers.Sent.{Sent}
use Rattle.ic_motion.specs.declared.answers.MotionNo.{MotionNo}
use Rattle.ic_motion.specs.declared.answers.MotionNo.TheVariants.{Memory}
use Rattle.ic_motion.proofs.putting.send_row.Goals as goal

lacks_memory : (result : Result Sent MotionNo) → IsErr result → IsErrAnd result (λ e. e ≡ Memory) → result ≡ Err Memory
lacks_memory (Ok answer) failed is = cc
lacks_memory (Err no_) failed is = ap Err is

pub returns-in_err-settle-clause-sending : goal.returns-in_err-settle-clause-sending
returns-in_err-settle-clause-sending g c =
    let route = route_by c.args.kind.now in
    let ts : List Target = c.args.targets.now.items in
    let going : all_stopped ts ≡ false = subst (λ (l : List Target). all_stopped l ≡ false) c.as_slice.ensures.value (sym c.all_stopped.ensures ∙ c.if-all_stopped.false) in
    let begun = subst (λ (l : List Target). Begins route c.args.packet l c.args.row.now c.args.work.now c.begin.new.work) c.as_slice-2.ensures.value c.in_ok-begin.ensures.ok in
    let same = subst (λ (l : List Target). LeavesSame l c.begin.new.work c.settle.new.self) c.as_slice-3.ensures.value c.in_err-settle.ensures.err in
    fails c.begin.new.work going begun same refl refl (lacks_memory c.from_residual-in_err-settle.result c.from_residual-in_err-settle.ensures.0 c.from_residual-in_err-settle.ensures.1)

pub returns-then-not-branch-clause-sending : goal.returns-then-not-branch-clause-sending
returns-then-not-branch-clause-sending g c =
    let route = route_by c.args.kind.now in
    let ts : List Target = c.args.targets.now.items in
    let going : all_stopped ts ≡ false = subst (λ (l : List Target). all_stopped l ≡ false) c.as_slice.ensures.value (sym c.all_stopped.ensures ∙ c.if-all_stopped.false) in
    let begun = subst (λ (l : List Target). Begins route c.args.packet l c.args.row.now c.args.work.now c.begin.new.work) c.as_slice-2.ensures.value c.in_ok-begin.ensures.ok in
    let settled = subst (λ (l : List Target). Settles l c.begin.new.work c.settle.new.self c.in_ok-settle.field-0) c.as_slice-3.ensures.value c.in_ok-settle.ensures.ok in
    skips c.begin.new.work c.settle.new.self going begun (subst (Settles ts c.begin.new.work c.settle.new.self) c.if-not-branch.true settled) c.reset-then-not-branch.ensures refl refl refl

pub returns-clause-sending : goal.returns-clause-sending
returns-clause-sending g c =
    let route = route_by c.args.kind.now in
    let ts : List Target = c.args.targets.now.items in
    let going : all_stopped ts ≡ false = subst (λ (l : List Target). all_stopped l ≡ false) c.as_slice.ensures.value (sym c.all_stopped.ensures ∙ c.if-all_stopped.false) in
    let begun = subst (λ (l : List Target). Begins route c.args.packet l c.args.row.now c.args.work.now c.begin.new.work) c.as_slice-2.ensures.value c.in_ok-begin.ensures.ok in
    let settled = subst (λ (l : List Target). Settles l c.begin.new.work c.settle.new.self c.in_ok-settle.field-0) c.as_slice-3.ensures.value c.in_ok-settle.ensures.ok in
    puts c.begin.new.work c.settle.new.self going begun (subst (Settles ts c.begin.new.work c.settle.new.self) c.if-not-branch.false settled) c.put.ensures.puts
