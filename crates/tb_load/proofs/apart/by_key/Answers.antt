use Rattle.std.proofs.Common.{◌≡◌, ◌∷◌, ◌++◌, [], ◌∙◌, sym, ap, arith, rules, length, set, get_or, append_assoc, append-nil}
use Rattle.std.specs.Vec.Iter.{into_iter_items}
use Rattle.pl_tree.specs.declared.schema.Placing.TheVariants.{Keyed}
use Rattle.tb_load.specs.Kept.{parts_of}
use Rattle.tb_load.proofs.Steps.{keyed_none, keyed_more, length-keyed}
use Rattle.tb_load.proofs.apart.by_key.Goals as goal

pub rows-init : goal.rows-init
rows-init c = ([], c.into_iter-left.ensures.rest ∙ c.into_vec.ensures, c.in_ok-parts.ensures ∙ keyed_none c.args.columns.now c.args.segments)

pub add-requires : goal.add-requires
add-requires c =
    let long = ap length c.rows.invariant.2 ∙ length-keyed c.args.columns.now c.args.segments c.rows.invariant.0 in
    omega (arith, long, c.segment_of-segment.ensures.below)

pub rows-preserved : goal.rows-preserved
rows-preserved c =
    let columns = c.args.columns.now in
    let n = c.args.segments in
    let done = c.rows.invariant.0 in
    let s = c.segment_of-segment.result in
    let row = c.in-Some.row in (
      done ++ row ∷ [],
      append_assoc done (row ∷ []) _ ∙ search rules,
      c.in_ok-add.ensures
          ∙ ap (λ parts. set parts s (get_or parts s [] ++ row ∷ [])) c.rows.invariant.2
          ∙ keyed_more columns n s done row c.segment_of-segment.ensures.value c.segment_of-segment.ensures.below,
    )
