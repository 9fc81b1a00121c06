use Rattle.std.proofs.Common.{ℕ, List, ap, ◌∙◌}
use Rattle.std.specs.List.{fold}
use Rattle.std.specs.Int.{w128, to_be_bytes, cast_unsigned}
use Rattle.std.proofs.lemmas.Int.{to_z-of_z}
use Rattle.ic_row.specs.Spelling.{wide_spelling}
use Rattle.ic_row.specs.Hash.{hash_step}
use Rattle.ic_row.proofs.hash.mix_wide.Goals as goal

pub returns : goal.returns
unfolding wide_spelling
returns c =
    let same = c.cast_unsigned.ensures ∙ ap (cast_unsigned w128) (to_z-of_z w128 c.args.n c.ranges.n) in
    let bytes = c.to_be_bytes.ensures ∙ ap (to_be_bytes w128) same in
    c.mix_all.ensures ∙ ap (λ (l : List ℕ). fold hash_step c.mix.result l) bytes ∙ ap (λ (h : ℕ). fold hash_step h (to_be_bytes w128 (cast_unsigned w128 c.args.n))) c.mix.ensures
