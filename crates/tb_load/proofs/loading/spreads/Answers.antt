use Rattle.std.proofs.Common.{◌≡◌, ◌∷◌, ◌++◌, [], List, map, ap, sym, ◌∙◌, refl, append-nil}
use Rattle.pl_read.specs.declared.table.Table.{Table}
use Rattle.pl_ops.specs.declared.loaded.Spread.{Spread}
use Rattle.tb_load.specs.Kept.{spread_of}
use Rattle.tb_load.proofs.Taking.{head_and_rest, moved_one}
use Rattle.tb_load.proofs.loading.spreads.Goals as goal

pub tables-preserved : goal.tables-preserved
tables-preserved c =
    let f = spread_of c.args.segments in
    let table = c.remove-table.result in
    let rest = c.remove-table.new.self in
    let split : c.tables.left ≡ table ∷ rest = head_and_rest c.tables.left rest table c.remove-table.ensures.item c.remove-table.ensures.rest in
    ap (λ (l : List Spread). l ++ map f rest) c.in_ok-push.ensures.ok
    ∙ ap (λ (x : Spread). (c.tables.spreads ++ x ∷ []) ++ map f rest) c.in_ok-spread.ensures
    ∙ moved_one f c.tables.spreads table rest c.args.tables (ap (λ (l : List Table). c.tables.spreads ++ map f l) (sym split) ∙ c.tables.invariant)

pub returns : goal.returns
returns c =
    let nil : c.tables.left ≡ [] = c.tables-test.ensures.0 refl in
    sym (append-nil c.tables.spreads) ∙ ap (λ (l : List Table). c.tables.spreads ++ map (spread_of c.args.segments) l) (sym nil) ∙ c.tables.invariant
