use Rattle.std.proofs.Common.{◌≡◌, ◌+◌, ◌++◌, suc, refl, ap, sym, ◌∙◌, arith}
use Rattle.std.proofs.lemmas.Option.{slice_get_read}
use Rattle.ic_hub.specs.Beginning.{IsBetween, SendsFirst, sender_begun}
use Rattle.ic_hub.proofs.Beginning.{flat_more, all_more}
use Rattle.ic_hub.proofs.begin.senders.Goals as goal

pub loop-end-preserved : goal.loop-end-preserved
loop-end-preserved c =
    let xs = c.args.ends.now in
    let at = slice_get_read xs _ c.loop-end.end-index c.end-item.result refl (omega arith) c.end-item.is in
    let next : c.loop-end.end-index + 1 ≡ suc c.loop-end.end-index = omega arith in
    record {
      begun = c.in_ok-add_sender.ensures.begun ∙ ap (λ os. os ++ sender_begun c.args.settings.now c.args.tick c.end-item.result) c.loop-end.invariant.begun
          ∙ sym (flat_more (sender_begun c.args.settings.now c.args.tick) xs c.loop-end.end-index (c.loop-end.end-index + 1) c.end-item.result next at);
      sends = all_more (SendsFirst c.args.settings.now c.args.tick) xs c.loop-end.end-index (c.loop-end.end-index + 1) c.end-item.result next at c.loop-end.invariant.sends c.in_ok-add_sender.ensures.sends;
      between = all_more IsBetween xs c.loop-end.end-index (c.loop-end.end-index + 1) c.end-item.result next at c.loop-end.invariant.between c.add_sender.ensures.between;
    }
