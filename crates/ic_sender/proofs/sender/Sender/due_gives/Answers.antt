use Rattle.std.proofs.Common.{◌≡◌, ◌++◌, ◌&&◌, ◌==◌, ap, sym, ◌∙◌, refl, subst, Ok, Err}
use Rattle.std.specs.Prelude.{find}
use Rattle.std.specs.List.{list_any}
use Rattle.ic_sender.specs.declared.flight.Flight.{Flight}
use Rattle.ic_sender.specs.declared.send_no.SendNo.TheVariants as refused
use Rattle.ic_sender.specs.Sending.{Sending, spent_of, copies}
use Rattle.ic_sender.specs.Calls.{Tries}
use Rattle.ic_sender.specs.contracts.sender.Sender.{the_view}
use Rattle.ic_sender.proofs.sender.Sender.due_gives.Goals as goal

pub returns-in-Some : goal.returns-in-Some
returns-in-Some c =
    let s = the_view c.self.inside in
    let found : spent_of s c.args.seqs.now ≡ c.first_spent.result =
    ap (λ l. find (λ n. list_any (λ (f : Flight). (f.seq == n) && (f.tries == s.settings.retries)) l) c.args.seqs.now) (sym c.as_slice.ensures.value) ∙ sym c.first_spent.ensures in
    subst (λ (x : Sending). Tries x c.args.seqs.now (Err (refused.Spent c.self.inside.end.key c.in-Some.seq c.self.inside.settings.retries))) c.self.view_is (Tries.Spent c.in-Some.seq (found ∙ c.in-Some.is) refl)

pub returns : goal.returns
returns c =
    let s = the_view c.self.inside in
    let found : spent_of s c.args.seqs.now ≡ c.first_spent.result =
    ap (λ l. find (λ n. list_any (λ (f : Flight). (f.seq == n) && (f.tries == s.settings.retries)) l) c.args.seqs.now) (sym c.as_slice.ensures.value) ∙ sym c.first_spent.ensures in
    let out : c.from_vec.result ≡ copies s.flights c.args.seqs.now =
    c.from_vec.ensures ∙ c.in_ok-push_copies.ensures ∙ ap (λ l. l ++ copies c.as_slice-2.result.now c.args.seqs.now) c.new-datagrams.ensures.items ∙ ap (λ l. copies l c.args.seqs.now) c.as_slice-2.ensures.value in
    subst (λ (x : Sending). Tries x c.args.seqs.now (Ok c.from_vec.result)) c.self.view_is (Tries.Again (found ∙ c.in_default.is) (ap Ok out))
