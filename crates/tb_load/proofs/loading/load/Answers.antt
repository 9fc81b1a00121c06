use Rattle.std.proofs.Common.{◌≡◌, sym, ◌∙◌, subst}
use Rattle.pl_ops.specs.Fitting.{Fits}
use Rattle.tb_load.specs.Kept.{loaded_of, schemas_of, wholes_of}
use Rattle.tb_load.specs.Standing.{StandWherePlaced, StandOnce, StandByKey, StandNowhereElse}
use Rattle.tb_load.proofs.Loaded.{where_placed, once, by_key, nowhere_else}
use Rattle.tb_load.proofs.Fitted.{fits}
use Rattle.tb_load.proofs.loading.load.Goals as goal

pub returns : goal.returns
returns c =
    let d = c.args.document in
    let kept : c.from_tables.result ≡ loaded_of d =
    c.from_tables.ensures ∙ c.in_ok-tables.ensures in
    let is : loaded_of d ≡ c.from_tables.result = sym kept in
    record {
      kept = kept;
      rows = subst (StandWherePlaced d) is (where_placed d);
      whole = subst (StandOnce d) is (once d);
      by_key = subst (StandByKey d) is (by_key d);
      nowhere = subst (StandNowhereElse d) is (nowhere_else d);
      fits = λ document short. subst (Fits d.segments (schemas_of d) (wholes_of d)) is (fits d document short);
    }
