use Rattle.std.proofs.Common.{◌++◌, ◌∷◌, [], sym, subst}
use Rattle.ic_chunk.specs.Counts.{HasCounted}
use Rattle.ic_chunk.proofs.Ended.{counted_more}
use Rattle.ic_chunk.proofs.counting.count_more.Goals as goal

pub returns : goal.returns
returns c = λ payloads x.
    subst (λ n. HasCounted (payloads ++ c.args.payload.now ∷ []) n) (sym c.added.ensures)
    (counted_more payloads c.args.payload.now c.args.count c.rows_ended.result c.rows_ended.ensures x)
