use Rattle.std.proofs.Common.{◌≡◌, ◌+◌, ◌++◌, suc, refl, ap, sym, ◌∙◌, arith}
use Rattle.std.proofs.lemmas.Option.{slice_get_read}
use Rattle.ic_hub.specs.Beginning.{ReceivesFirst, receiver_begun}
use Rattle.ic_hub.proofs.Beginning.{flat_more, all_more}
use Rattle.ic_hub.proofs.begin.receivers.Goals as goal

pub loop-end-preserved : goal.loop-end-preserved
loop-end-preserved c =
    let xs = c.args.ends.now in
    let at = slice_get_read xs _ c.loop-end.end-index c.end-item.result refl (omega arith) c.end-item.is in
    let next : c.loop-end.end-index + 1 ≡ suc c.loop-end.end-index = omega arith in
    record {
      begun = c.in_ok-add_receiver.ensures.begun ∙ ap (λ rs. rs ++ receiver_begun c.args.settings.now c.end-item.result) c.loop-end.invariant.begun
          ∙ sym (flat_more (receiver_begun c.args.settings.now) xs c.loop-end.end-index (c.loop-end.end-index + 1) c.end-item.result next at);
      receives = all_more (ReceivesFirst c.args.settings.now) xs c.loop-end.end-index (c.loop-end.end-index + 1) c.end-item.result next at c.loop-end.invariant.receives c.in_ok-add_receiver.ensures.receives;
    }
