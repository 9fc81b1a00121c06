use Rattle.std.proofs.Common.{◌≡◌, ◌+◌, ◌<◌, ◌++◌, ◌∷◌, [], length, map, take, get_or, ap, sym, ◌∙◌, subst, arith}
use Rattle.std.specs.List.{slice_get}
use Rattle.std.proofs.lemmas.List.{length-map, length-take-le}
use Rattle.gd_sim.proofs.Counting.{next_taken, get-push}
use Rattle.icq_top.proofs.Taking.{map_both}
use Rattle.icq_top.specs.Print.{rows_in}
use Rattle.icq_top.specs.Work.{HasTallies}
use Rattle.icq_top.proofs.running.answers_of.Goals as goal

pub loop-rows-preserved : goal.loop-rows-preserved
loop-rows-preserved c =
    let rows = c.args.ran.now.run.rows in
    let i = c.loop-rows.rows-index in
    let items = c.loop-rows.answers.items in
    let within : i < length rows = subst (λ l. i < length l) c.as_slice-rows-items.ensures c.loop-rows-test.true in
    let is : c.rows-item.result ≡ get_or rows i c.rows-item.result = subst (λ l. c.rows-item.result ≡ get_or l i c.rows-item.result) c.as_slice-rows-items.ensures c.rows-item.is in
    let many : length items ≡ i = sym (length-map items rows_in) ∙ ap length c.loop-rows.invariant.rows ∙ length-take-le i rows (omega (arith, within)) in
    record {
      place = ap (λ n. n + 1) c.loop-rows.invariant.place;
      rows =
          ap (map rows_in) c.in_ok-push.ensures.items ∙ map_both rows_in items (c.in_ok-answer_of.field-0 ∷ []) ∙ ap (λ l. l ++ rows_in c.in_ok-answer_of.field-0 ∷ []) c.loop-rows.invariant.rows
          ∙ ap (λ r. take i rows ++ r ∷ []) c.in_ok-answer_of.ensures.rows ∙ sym (next_taken rows i c.rows-item.result within is);
      told = λ place a at.
          get-push (λ k x. HasTallies c.args.ran.now k x) items c.in_ok-answer_of.field-0 c.loop-rows.place (c.loop-rows.invariant.place ∙ sym many) c.loop-rows.invariant.told c.in_ok-answer_of.ensures.told
          place a (ap (λ l. slice_get l place) (sym c.in_ok-push.ensures.items) ∙ at);
    }
