-- A query whose workers are done stays as it is while the workers of others ask.
use Rattle.std.proofs.Common.{◌≡◌, ℕ, pos, negsuc, List, length, ◌||◌, ap, sym, ◌∙◌, subst}
use Rattle.std.specs.List.{AllByRecursion, list_any}
use Rattle.ic_base.specs.declared.keys.ConnKey.{ConnKey}
use Rattle.ic_row.specs.declared.value.Value.{Value}
use Rattle.ic_law.specs.declared.history.Entry.{Entry}
use Rattle.ic_law.specs.Taking.{takes, parcels_of, is_last_parcel, IsWhole}
use Rattle.ic_law.specs.Streams.{history_of}
use Rattle.ic_law.proofs.Lists.{flat_map-append, list_any-append}
use Rattle.gd_work.specs.Sending.{Scans}
use Rattle.gd_work.specs.Taking.{parcels_of as log_parcels, LetsOut}
use Rattle.ic_law.specs.Logs.{log_of}
use Rattle.ic_law.proofs.LogLemmas.{others_pass}
use Rattle.gd_law.specs.Answers.{gather_key}
use Rattle.gd_law.specs.Playing.{IsSent, IsFromOne, IsTaken, GrowsPast}
use Rattle.gd_law.specs.Laws.{PlayedStays}

same_log : (query : ℕ) (h now : List Entry) → GrowsPast query h now → log_of query h ≡ log_of query now
same_log query h now grows = sym (ap (log_of query) grows.grown ∙ others_pass grows.other query h grows.more grows.of grows.differs)

stays_whole : (c : ConnKey) (query : ℕ) (h now : List Entry) → GrowsPast query h now → IsWhole c h → IsWhole c now
stays_whole c query h now grows whole =
    ap (λ l. list_any is_last_parcel (parcels_of c l)) grows.grown ∙ ap (list_any is_last_parcel) (flat_map-append (takes c) h grows.more)
    ∙ list_any-append is_last_parcel (parcels_of c h) (parcels_of c grows.more) ∙ ap (λ b. b || list_any is_last_parcel (parcels_of c grows.more)) whole

stays_sent : (query packet : ℕ) (part : List (List Value)) (h now : List Entry) → GrowsPast query h now → IsSent query packet part h → IsSent query packet part now
stays_sent query packet part h now grows sent = record {
  scanning = sent.scanning;
  motion = sent.motion;
  to = sent.to;
  packet_is = sent.packet_is;
  scans = subst (Scans part sent.scanning) (same_log query h now grows) sent.scans;
}

stays_taken : (session query senders : ℕ) (rows : List (List Value)) (h now : List Entry) → GrowsPast query h now → IsTaken session query senders rows h → IsTaken session query senders rows now
stays_taken session query senders rows h now grows taken =
    let same = same_log query h now grows in
    record {
      lets_out = subst (λ l. LetsOut (log_parcels 1 l) rows) same taken.lets_out;
      from = subst (λ l. AllByRecursion (IsFromOne senders) (log_parcels 1 l)) same taken.from;
      whole = λ segment less. stays_whole (gather_key session query segment) query h now grows (taken.whole segment less);
    }

pub played_stays : PlayedStays
played_stays session query packet parts nodes now rows played grow = record {
  sent = λ segment part at. stays_sent query packet part (history_of nodes (pos segment)) (history_of now (pos segment)) (grow (pos segment)) (played.sent segment part at);
  taken = stays_taken session query (length parts) rows (history_of nodes (negsuc 0)) (history_of now (negsuc 0)) (grow (negsuc 0)) played.taken;
}
