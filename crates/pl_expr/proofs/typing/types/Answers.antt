use Rattle.std.proofs.Common.{rules, ◌≡◌, sym, subst}
use Rattle.std.specs.Prelude.{Err, IfErr}
use Rattle.pl_expr.specs.Entries.{entries_of}
use Rattle.pl_expr.specs.Typing.{IsFirstFlaw}
use Rattle.pl_expr.proofs.WalkLemmas.{fine, first_flaw}
use Rattle.pl_expr.proofs.typing.types.Goals as goal

pub returns-in_err-walk-clause-fault : goal.returns-in_err-walk-clause-fault
returns-in_err-walk-clause-fault c =
    let e : c.from_residual.result ≡ Err c.in_err-walk.field-0.0 = search rules in
    subst (λ r. IfErr r (λ fault. IsFirstFlaw c.args.kinds.now (entries_of c.args.expr.now) fault)) (sym e) (first_flaw c.args.kinds.now (entries_of c.args.expr.now) c.in_err-walk.field-0.0 (search rules))

pub returns-clause-ok : goal.returns-clause-ok
returns-clause-ok c = fine c.args.kinds.now 0 c.in_ok-walk.field-0 (entries_of c.args.expr.now) (search rules)
