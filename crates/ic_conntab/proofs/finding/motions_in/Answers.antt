use Rattle.std.proofs.Common.{◌==◌, [], map, ap, sym, ◌∙◌}
use Rattle.std.proofs.lemmas.List.{drop_all}
use Rattle.std.proofs.lemmas.Bool.{eqb-true}
use Rattle.std.specs.Cmp.{nat_eq_equiv}
use Rattle.indexmap.specs.IndexSet.{insert_all}
use Rattle.ic_conntab.proofs.Distinct.{put_more, put_all}
use Rattle.ic_conntab.proofs.finding.motions_in.Goals as goal

pub loop-key-preserved : goal.loop-key-preserved
loop-key-preserved c =
    put_more (λ m n. m == n) (λ k. k.motion) c.args.keys.now c.loop-key.key-index c.key-item.result c.loop-key.motions.keys c.insert.new.self.keys
    (insert_all (λ m n. m == n) [] (map (λ k. k.motion) c.args.keys.now)) c.loop-key-test.true c.key-item.is c.loop-key.invariant c.in_ok-insert.ensures.keys

pub returns : goal.returns
returns c =
    ap (λ l. insert_all (λ m n. m == n) c.loop-key.motions.keys (map (λ k. k.motion) l)) (sym (drop_all c.loop-key.key-index c.args.keys.now c.loop-key-test.false))
    ∙ c.loop-key.invariant ∙ put_all (λ m n. m == n) (λ m n h. eqb-true m n h) (λ m n. nat_eq_equiv.symm m n) (map (λ k. k.motion) c.args.keys.now)
