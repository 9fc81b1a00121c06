use Rattle.std.proofs.Common.{◌≡◌, ℕ, List, ◌∷◌, ◌++◌, ap, subst, ◌∙◌}
use Rattle.std.specs.Prelude.{OnOk}
use Rattle.std.specs.Int.{w128, to_be_bytes, cast_unsigned}
use Rattle.std.proofs.lemmas.Int.{to_z-of_z}
use Rattle.ic_row.specs.Spelling.{wide_spelling}
use Rattle.ic_row.proofs.writing.put_wide.Goals as goal

pub returns-clause-ok : goal.returns-clause-ok
unfolding wide_spelling
returns-clause-ok c =
    let same = c.cast_unsigned.ensures ∙ ap (cast_unsigned w128) (to_z-of_z w128 c.args.n c.ranges.n) in
    let bytes = c.to_be_bytes.ensures ∙ ap (to_be_bytes w128) same in
    subst (λ (l : List ℕ). OnOk c.put_tagged.result (c.put_tagged.new.out.items ≡ c.args.out.now.items ++ 3 ∷ l)) bytes c.put_tagged.ensures
