use Rattle.std.proofs.Common.{◌∷◌, [], length, sym, subst, arith, length-append, ap, ◌∙◌, negsuc, ℕ}
use Rattle.std.specs.List.{slice_get}
use Rattle.gd_law.specs.Answers.{gather_key}
use Rattle.gd_sim.specs.declared.tally.Tally.{Tally}
use Rattle.gd_sim.specs.Tallying.{IsTallyOf}
use Rattle.gd_sim.proofs.Counting.{get-push}
use Rattle.gd_sim.proofs.tally.tallies_of.Goals as goal

pub loop-number-preserved : goal.loop-number-preserved
loop-number-preserved c =
    let P : ℕ → Tally → Type 0 = λ s t. IsTallyOf c.args.histories.now (gather_key c.args.session c.args.query s) t in
    let one : P c.loop-number.number c.tally_of.result =
    subst (λ at. IsTallyOf c.args.histories.now (record { session = c.args.session; query = c.args.query; motion = 1; from = at; to = negsuc 0 }) c.tally_of.result) c.segment.ensures c.tally_of.ensures in
    record {
      count = ap length c.in_ok-push.ensures.items ∙ omega (arith, length-append c.loop-number.items.items (c.tally_of.result ∷ []), c.loop-number.invariant.count);
      each = λ s t at.
          get-push P c.loop-number.items.items c.tally_of.result c.loop-number.number (sym c.loop-number.invariant.count) c.loop-number.invariant.each one s t
          (ap (λ l. slice_get l s) (sym c.in_ok-push.ensures.items) ∙ at);
    }

pub returns : goal.returns
returns c = record {
  count = omega (arith, c.loop-number.invariant.count, c.loop-number.auto.number-end, c.loop-number-test.false);
  each = c.loop-number.invariant.each;
}
