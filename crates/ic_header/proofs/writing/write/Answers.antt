use Rattle.std.proofs.Common.{◌≡◌, ◌*◌, ◌++◌, sym, take, take_all, arith, ◌∙◌, ap, subst, List, ℕ, Ok}
use Rattle.std.specs.List.{flat_map}
use Rattle.std.specs.Int.{w32, to_be_bytes}
use Rattle.ic_header.specs.Spelling.{Heads, written, words_of}
use Rattle.ic_header.specs.Reading.{read_header}
use Rattle.ic_header.proofs.Joining.{Heads-written, reads_again}
use Rattle.ic_header.proofs.writing.write.Goals as goal

pub returns-clause-spelled : goal.returns-clause-spelled
unfolding written
returns-clause-spelled c =
    let place : c.loop-place.place ≡ 16 = omega arith in
    let words : flat_map (to_be_bytes w32) (take c.loop-place.place c.words-words.result) ≡ flat_map (to_be_bytes w32) (words_of c.args.header.now) =
    ap (λ ws. flat_map (to_be_bytes w32) (take c.loop-place.place ws)) c.words-words.ensures.words ∙ ap (λ k. flat_map (to_be_bytes w32) (take k (words_of c.args.header.now))) place in
    let whole : take (4 * c.loop-place.place) c.loop-place.out ≡ c.loop-place.out = take_all (4 * c.loop-place.place) c.loop-place.out (omega (arith, c.loop-place.invariant.same, place)) in
    sym whole ∙ c.loop-place.invariant.words ∙ words

pub returns-clause-heads : goal.returns-clause-heads
returns-clause-heads c = λ body len allowed.
    subst (λ (l : List ℕ). Heads c.args.header.now body (l ++ body)) (sym (returns-clause-spelled c)) (Heads-written c.args.header.now body len allowed c.words-words.ensures.in_range)

pub returns-clause-again : goal.returns-clause-again
returns-clause-again c = λ body len allowed.
    subst (λ (l : List ℕ). read_header (l ++ body) ≡ Ok (c.args.header.now, body)) (sym (returns-clause-spelled c)) (reads_again c.args.header.now body len allowed c.words-words.ensures.in_range)
