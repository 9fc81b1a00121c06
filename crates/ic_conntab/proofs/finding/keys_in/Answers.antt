use Rattle.std.proofs.Common.{[], map, ap, sym, ◌∙◌}
use Rattle.std.proofs.lemmas.List.{drop_all}
use Rattle.indexmap.specs.IndexSet.{insert_all}
use Rattle.ic_base.specs.Keys.{key_eq}
use Rattle.ic_base.proofs.SameKeys.{key_eq-tells}
use Rattle.ic_conntab.specs.Ends.{keys_of}
use Rattle.ic_conntab.proofs.EndsApart.{key_eq-flips}
use Rattle.ic_conntab.proofs.Distinct.{put_more, put_all}
use Rattle.ic_conntab.proofs.finding.keys_in.Goals as goal

pub loop-end-preserved : goal.loop-end-preserved
unfolding key_eq
loop-end-preserved c =
    put_more key_eq (λ e. e.key) c.args.ends.now c.loop-end.end-index c.end-item.result c.loop-end.keys.keys c.insert.new.self.keys
    (insert_all key_eq [] (map (λ e. e.key) c.args.ends.now)) c.loop-end-test.true c.end-item.is c.loop-end.invariant c.in_ok-insert.ensures.keys

pub returns : goal.returns
unfolding keys_of
returns c =
    ap (λ l. insert_all key_eq c.loop-end.keys.keys (map (λ e. e.key) l)) (sym (drop_all c.loop-end.end-index c.args.ends.now c.loop-end-test.false))
    ∙ c.loop-end.invariant ∙ put_all key_eq key_eq-tells key_eq-flips (map (λ e. e.key) c.args.ends.now)
