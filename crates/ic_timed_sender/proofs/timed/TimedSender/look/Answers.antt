use Rattle.std.proofs.Common.{◌≡◌, ℕ, List, Ok, Err, ap, sym, ◌∙◌, subst, map}
use Rattle.std.proofs.lemmas.Result.{err_from_is_err_and}
use Rattle.ic_expire.specs.declared.dues.Due.{Due as DuePacket}
use Rattle.ic_expire.specs.Queue.{dues_of}
use Rattle.ic_sender.specs.Calls.{Tries}
use Rattle.ic_timed_sender.specs.Timed.{TimedState, numbers_due}
use Rattle.ic_timed_sender.specs.Looking.{Looks}
use Rattle.ic_timed_sender.proofs.Steps.{state}
use Rattle.ic_timed_sender.proofs.Looked.{looks_ok, looks_err}
use Rattle.ic_timed_sender.proofs.timed.TimedSender.look.Goals as goal

pub returns-in_err-datagrams : goal.returns-in_err-datagrams
returns-in_err-datagrams c =
    let p = err_from_is_err_and c.from_residual-in_err-datagrams.result c.from_residual-in_err-datagrams.ensures.1 in
    let o : TimedState = state c.self.inside.sender c.self.inside.waits.held c.self.inside.tick c.self.inside.rows in
    let are : c.as_slice-2.result.now ≡ numbers_due o =
    c.as_slice-2.ensures.value ∙ c.in_ok-numbers.ensures ∙ ap (map (λ (d : DuePacket). d.seq)) (c.as_slice.ensures ∙ c.in_ok-dues.ensures.ok)
    ∙ ap (λ (n : ℕ). map (λ (d : DuePacket). d.seq) (dues_of n c.self.inside.waits.held)) c.tick_behind.ensures in
    rw (p.1, p.2) (subst (λ (x : TimedState). Looks x (Err c.in_err-datagrams.field-0.0)) c.self.view_is (looks_err o c.as_slice-2.result.now c.in_err-datagrams.field-0.0 are c.in_err-datagrams.ensures))

pub returns : goal.returns
returns c =
    let o : TimedState = state c.self.inside.sender c.self.inside.waits.held c.self.inside.tick c.self.inside.rows in
    let numbers : c.as_slice-2.result.now ≡ c.from_vec.result = c.as_slice-2.ensures.value ∙ sym c.from_vec.ensures in
    let are : c.from_vec.result ≡ numbers_due o =
    c.from_vec.ensures ∙ c.in_ok-numbers.ensures ∙ ap (map (λ (d : DuePacket). d.seq)) (c.as_slice.ensures ∙ c.in_ok-dues.ensures.ok)
    ∙ ap (λ (n : ℕ). map (λ (d : DuePacket). d.seq) (dues_of n c.self.inside.waits.held)) c.tick_behind.ensures in
    subst (λ (x : TimedState). Looks x (Ok (record { numbers = c.from_vec.result; datagrams = c.in_ok-datagrams.datagrams }))) c.self.view_is
    (looks_ok o c.from_vec.result c.in_ok-datagrams.datagrams are (subst (λ (l : List ℕ). Tries o.sending l (Ok c.in_ok-datagrams.datagrams)) numbers c.in_ok-datagrams.ensures))
