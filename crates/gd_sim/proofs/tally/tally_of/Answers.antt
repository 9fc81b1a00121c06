use Rattle.std.proofs.Common.{◌-◌, length, false, ap, ◌∙◌, subst, refl}
use Rattle.ic_law.specs.History.{rows_emitted_of, sent_upto}
use Rattle.ic_law.specs.Putting.{chunks_put_of}
use Rattle.ic_law.specs.Taking.{payloads_of, whole_of}
use Rattle.ic_law.specs.Streams.{history_of}
use Rattle.ic_chunk.specs.Counts.{HaveEnded}
use Rattle.ic_chunk.proofs.Ended.{counts_rows}
use Rattle.gd_sim.proofs.tally.tally_of.Goals as goal

pub returns : goal.returns
returns c =
    let key = c.args.key in
    let upto = c.rows_emitted-emitted.ensures.upto ∙ ap (sent_upto key) c.history_at-sender.ensures in
    record {
      key = refl;
      sent = λ rows x.
          counts_rows _ rows x.rest false c.rows_sent.result x.assemble (subst (λ h. HaveEnded (chunks_put_of key h) c.rows_sent.result) c.history_at-sender.ensures c.rows_sent.ensures);
      taken = λ rows x.
          counts_rows _ rows x.rest x.ended c.rows_taken-taken.result.0 x.assemble
          (subst (λ h. HaveEnded (payloads_of key h) c.rows_taken-taken.result.0) c.history_at-receiver.ensures c.rows_taken-taken.ensures.rows);
      packets = upto;
      resent =
          c.saturating_sub.ensures ∙ ap (λ n. c.rows_emitted-emitted.result.0 - n) (c.from.ensures ∙ upto)
          ∙ ap (λ n. n - sent_upto key (history_of c.args.histories.now key.from)) (c.rows_emitted-emitted.ensures.count ∙ ap (λ h. length (rows_emitted_of key h)) c.history_at-sender.ensures);
      whole = c.rows_taken-taken.ensures.whole ∙ ap (whole_of key) c.history_at-receiver.ensures;
    }
