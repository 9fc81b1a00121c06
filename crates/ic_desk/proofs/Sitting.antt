-- What a worker's call makes of its node.
use Rattle.std.proofs.Common.{◌≡◌, ℕ, List, [], ◌∷◌, ◌++◌, ap, sym, ◌∙◌, subst, append-nil}
use Rattle.std.specs.List.{AllByRecursion}
use Rattle.std.proofs.lemmas.List.{append_cancel_left}
use Rattle.std.proofs.lemmas.List.Concat.{flat_map-append}
use Rattle.ic_base.specs.declared.keys.ConnEnd.{ConnEnd}
use Rattle.ic_base.specs.declared.port.PortAsk.{PortAsk}
use Rattle.ic_base.specs.declared.port.PortReply.{PortReply}
use Rattle.ic_base.specs.Ports.{added, logged}
use Rattle.ic_law.specs.declared.history.Entry.{Entry}
use Rattle.ic_law.specs.Logs.{IsOurs}
use Rattle.ic_law.specs.Logs.{logs as query_logs, log_of as log_of_query}
use Rattle.ic_hub.proofs.Noting.{place_same}
use Rattle.ic_port.specs.Noding.{Noding, place_of, IsLawful}
use Rattle.ic_port.specs.Calls.{Works}
use Rattle.pl_runs.specs.Logs.{logs, log_of}
use Rattle.ic_desk.specs.Own.{own_ends}
use Rattle.ic_desk.specs.Sitting.{Sits}
use Rattle.ic_desk.proofs.Owning.{AreHere, own_here}
use Rattle.ic_desk.proofs.Logging.{Goes, own_more, others_more}

pub record Sat (slice : ℕ) (a b : Noding) (asked : PortAsk) (told : PortReply) : Type 0 where
  pub keys : own_ends b.ends slice ≡ own_ends a.ends slice
  pub sits : Sits (own_ends a.ends slice) a b
  pub log : log_of (own_ends b.ends slice) b.entries ≡ logged asked told (log_of (own_ends a.ends slice) a.entries)

all_behind : (P : Entry → Type 0) (h more : List Entry) → AllByRecursion P (h ++ more) → AllByRecursion P more
all_behind P [] more all = all
all_behind P (e ∷ h) more all = all_behind P h more all.1

pub sat : (slice : ℕ) (a b : Noding) (asked : PortAsk) (told : PortReply) → IsLawful a → IsLawful b → Goes (own_ends a.ends slice) asked → Works a b
    → log_of_query b.query b.entries ≡ logged asked told (log_of_query a.query a.entries) → Sat slice a b asked told
sat slice a b asked told was is goes works query_log = record {
  keys = keys;
  sits = record {
    works = works;
    others = λ others apart. ap (log_of others) works.grown ∙ flat_map-append (logs others) a.entries works.more
        ∙ ap (λ l. log_of others a.entries ++ l) (others_more (place_of a) a.query own here asked told goes others apart works.more works.few ours works.are_of adds)
        ∙ append-nil (log_of others a.entries);
  };
  log = ap (λ l. log_of l b.entries) keys ∙ ap (log_of own) works.grown ∙ flat_map-append (logs own) a.entries works.more
      ∙ ap (λ l. log_of own a.entries ++ l) (own_more (place_of a) a.query own here asked told goes works.more works.few ours works.are_of adds);
}
  where
    own : List ConnEnd
    own = own_ends a.ends slice

    keys : own_ends b.ends slice ≡ own_ends a.ends slice
    keys = ap (λ l. own_ends l slice) works.ends

    here : AreHere (place_of a) a.query own
    here = own_here (place_of a) a.query a.ends slice was.ends_are

    ours : AllByRecursion (λ (e : Entry). IsOurs (place_of a) e.ask) works.more
    ours = subst (λ p. AllByRecursion (λ (e : Entry). IsOurs p e.ask) works.more) (place_same a.hub b.hub works.place)
        (all_behind (λ (e : Entry). IsOurs (place_of b) e.ask) a.entries works.more (subst (λ l. AllByRecursion (λ (e : Entry). IsOurs (place_of b) e.ask) l) works.grown is.ours))

    adds : log_of_query a.query works.more ≡ added asked told
    adds = append_cancel_left (log_of_query a.query a.entries) (log_of_query a.query works.more) (added asked told)
        (sym (flat_map-append (query_logs a.query) a.entries works.more) ∙ ap (log_of_query a.query) (sym works.grown) ∙ ap (λ q. log_of_query q b.entries) (sym works.query) ∙ query_log)
