use Rattle.std.proofs.Common.{◌==◌, [], ◌∷◌, ◌++◌, get_or, sym, ap, ◌∙◌}
use Rattle.std.proofs.lemmas.Option.{slice_get-get_or, get_or_from_slice_get}
use Rattle.ic_conntab.specs.Ends.{places_where}
use Rattle.ic_conntab.proofs.Distinct.{mapped_more}
use Rattle.ic_conntab.proofs.finding.rows_in.Goals as goal

pub loop-motion-preserved : goal.loop-motion-preserved
loop-motion-preserved c =
    c.in_ok-push.ensures.items ∙ ap (λ r. c.loop-motion.rows.items ++ r ∷ []) (c.from_vec.ensures ∙ c.in_ok-places_of.ensures)
    ∙ mapped_more (λ m. places_where (λ k. k.motion == m) c.args.keys.now) c.args.motions.now c.loop-motion.motion-index
    (get_or c.args.motions.now c.loop-motion.motion-index 0) c.loop-motion.rows.items c.loop-motion-test.true
    (sym (get_or_from_slice_get c.args.motions.now c.loop-motion.motion-index (get_or c.args.motions.now c.loop-motion.motion-index 0) (get_or c.args.motions.now c.loop-motion.motion-index 0)
    (slice_get-get_or c.args.motions.now c.loop-motion.motion-index 0 c.loop-motion-test.true)))
    c.loop-motion.invariant
