use Rattle.std.proofs.Common.{cond, None, Some, ap, ◌∙◌}
use Rattle.std.specs.HashMap.{get}
use Rattle.ic_base.specs.Keys.{key_eq}
use Rattle.ic_conntab.proofs.Position.{first_more}
use Rattle.ic_conntab.proofs.finding.first_places.Goals as goal

pub loop-place-preserved : goal.loop-place-preserved
loop-place-preserved c = λ key.
    first_more (key_eq key) c.args.keys.now c.loop-place.place c.index-keys-place.result c.loop-place-test.true
    (get key_eq c.loop-place.places key) (get key_eq c.put_first.new.places key) (c.loop-place.invariant key)
    (c.in_ok-put_first.ensures.had key) (λ none. c.in_ok-put_first.ensures.had_not key none ∙ ap (λ k. cond (key_eq key k) (Some c.loop-place.place) None) c.index-keys-place.is)
