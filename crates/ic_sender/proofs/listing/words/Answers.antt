use Rattle.std.proofs.Common.{◌+◌, ◌-◌, ◌*◌, ◌/◌, ◌++◌, ◌∷◌, [], length, drop, ap, sym, ◌∙◌, arith}
use Rattle.ic_law.specs.Numbers.{words_from}
use Rattle.ic_sender.proofs.WordLemmas.{one_word}
use Rattle.ic_sender.proofs.listing.words.Goals as goal

pub loop-place-preserved : goal.loop-place-preserved
loop-place-preserved c =
    let bytes = c.args.bytes.now in
    let count = length bytes / 4 in
    let place = c.loop-place.place in
    let rest = words_from (count - (place + 1)) (drop (4 * (place + 1)) bytes) in
    ap (λ l. l ++ rest) (c.in_ok-push.ensures.items ∙ ap (λ w. c.loop-place.words.items ++ w ∷ []) c.word.ensures)
    ∙ sym (one_word bytes c.loop-place.words.items count place (omega (arith, c.loop-place-test.true))) ∙ c.loop-place.invariant
