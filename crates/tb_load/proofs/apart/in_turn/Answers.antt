use Rattle.std.proofs.Common.{◌≡◌, ◌∷◌, ◌++◌, [], ◌%◌, ◌+◌, ◌∙◌, refl, sym, ap, arith, rules, length, set, get_or, append_assoc}
use Rattle.std.proofs.lemmas.Nat.{mod_below}
use Rattle.std.proofs.lemmas.List.{length-append}
use Rattle.pl_tree.specs.declared.schema.Placing.TheVariants.{Dealt}
use Rattle.tb_load.specs.Kept.{parts_of}
use Rattle.tb_load.proofs.Steps.{dealt_none, dealt_more, length-dealt}
use Rattle.tb_load.proofs.apart.in_turn.Goals as goal

pub rows-init : goal.rows-init
rows-init c = ([], c.into_iter-left.ensures.rest ∙ c.into_vec.ensures, refl, c.in_ok-parts.ensures ∙ dealt_none c.args.segments)

pub add-requires : goal.add-requires
add-requires c =
    let long = ap length c.rows.invariant.3 ∙ length-dealt c.args.segments c.rows.invariant.0 in
    omega (arith, long, mod_below c.rows.number c.args.segments c.requires)

pub rows-preserved : goal.rows-preserved
rows-preserved c =
    let n = c.args.segments in
    let done = c.rows.invariant.0 in
    let i = c.rows.number in
    let row = c.in-Some.row in (
      done ++ row ∷ [],
      append_assoc done (row ∷ []) _ ∙ search rules,
      length-append done (row ∷ []) ∙ ap (λ k. k + 1) c.rows.invariant.2,
      c.in_ok-add.ensures
          ∙ ap (λ parts. set parts (i % n) (get_or parts (i % n) [] ++ row ∷ [])) c.rows.invariant.3
          ∙ dealt_more n (i % n) done row (ap (λ k. k % n) (sym c.rows.invariant.2)) (mod_below i n c.requires),
    )
