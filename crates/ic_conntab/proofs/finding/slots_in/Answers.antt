use Rattle.std.proofs.Common.{◌++◌, ap, sym, ◌∙◌, append-nil}
use Rattle.std.proofs.lemmas.List.{drop_all}
use Rattle.ic_conntab.specs.Slots.{slots_of, slots_behind}
use Rattle.ic_conntab.proofs.finding.slots_in.Goals as goal

pub returns : goal.returns
unfolding slots_of
returns c =
    sym (append-nil c.loop-end.slots.items)
    ∙ ap (λ l. c.loop-end.slots.items ++ slots_behind c.loop-end.senders c.loop-end.receivers l) (sym (drop_all c.loop-end.end-index c.args.ends.now c.loop-end-test.false))
    ∙ c.loop-end.invariant.told
