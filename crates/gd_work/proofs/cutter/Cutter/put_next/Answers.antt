use Rattle.std.proofs.Common.{◌≡◌, Err, refl, ap, sym, ◌∙◌, append-nil}
use Rattle.std.proofs.lemmas.Result.{err_from_is_err_and}
use Rattle.ic_base.specs.declared.port.PortNo.TheVariants.{Memory}
use Rattle.gd_work.proofs.cutter.Cutter.put_next.Goals as goal

pub returns-in_err-fill-clause-puts : goal.returns-in_err-fill-clause-puts
returns-in_err-fill-clause-puts g c =
    let p = err_from_is_err_and c.from_residual.result c.from_residual.ensures.1 in
    record {
      answer = Err Memory;
      entry = sym (append-nil (g.P.Port.log c.args.port.now));
      may = tt;
      tells = p.1 ∙ ap Err p.2;
      left = c.fill.ensures.same;
    }
