use Rattle.std.proofs.Common.{rules}
use Rattle.std.proofs.lemmas.Result.{on_ok_weaker}
use Rattle.std.proofs.lemmas.Fn.{always_returns_same}
use Rattle.ex_basic.proofs.Sorting.{precedes, order, sorted_is}
use Rattle.ex_basic.proofs.sort.sort_by_keys.Goals as goal

pub returns : goal.returns
returns c =
    let keys = c.args.keys.now in
    on_ok_weaker c.sort_by.result
    (λ sorted. sorted_is keys c.args.rows.now.items c.sort_by.new.self.items
    (sorted (precedes keys) (order keys) (always_returns_same _ _ _ (λ a r f k. search rules)))
    (c.sort_by.ensures.stable (precedes keys) (order keys) (always_returns_same _ _ _ (λ a r f k. search rules))))
    c.sort_by.ensures.sorted
