use Rattle.std.proofs.Common.{◌≡◌, ◌≤◌, ◌<◌, ℕ, sym, subst, arith}
use Rattle.std.specs.Prelude.{None}
use Rattle.std.specs.List.{AllByRecursion, Contains}
use Rattle.ic_chunk.proofs.Lists.{all_by}
use Rattle.ic_expire.specs.Queue.{IsHeld}
use Rattle.ic_sender.specs.declared.flight.Flight.{Flight}
use Rattle.ic_sender.specs.Sending.{Sending, spent_of}
use Rattle.ic_sender.specs.Views.{FewTries}
use Rattle.ic_sender.proofs.Ending.{few_tried}
use Rattle.ic_sender.specs.contracts.sender.Sender.{the_view}
use Rattle.ic_sender.proofs.sender.Sender.due_done.Goals as goal

pub wait_longer-requires-clause-may : goal.wait_longer-requires-clause-may
wait_longer-requires-clause-may c = record {
  absent = subst (λ (x : Sending). (n : ℕ) → Contains c.args.seqs.now n → IsHeld x.conn n c.args.expiry.now.held → ⊥) (sym c.self.view_is) c.requires.taken;
  least = 1;
  increase = c.requires.increase;
  room = c.requires.room;
}

pub wait_longer-requires-clause-tries : goal.wait_longer-requires-clause-tries
wait_longer-requires-clause-tries c =
    subst (AllByRecursion (λ (f : Flight). f.tries ≤ 1000)) (sym c.as_slice.ensures.value)
    (all_by (λ (f : Flight). f.tries ≤ c.self.inside.settings.retries) (λ (f : Flight). f.tries ≤ 1000) (λ f le. omega (arith, le, c.self.invariant.checked.greatest_retries)) c.self.inside.flights.items c.self.invariant.tries)

pub retry_listed-requires-clause-tries : goal.retry_listed-requires-clause-tries
retry_listed-requires-clause-tries c =
    all_by (λ (f : Flight). f.tries ≤ c.self.inside.settings.retries) (λ (f : Flight). f.tries < 4294967295) (λ f le. omega (arith, le, c.self.invariant.checked.greatest_retries)) c.self.inside.flights.items c.self.invariant.tries

pub invariant_of-self : goal.invariant_of-self
invariant_of-self c =
    let s = the_view c.self.inside in
    let old = c.self.invariant in
    let unspent : spent_of s c.args.seqs.now ≡ None = subst (λ (x : Sending). spent_of x c.args.seqs.now ≡ None) (sym c.self.view_is) c.requires.unspent in
    record {
      checked = old.checked;
      fits = old.fits;
      room = old.room;
      depth = old.depth;
      packet = old.packet;
      sealed = old.sealed;
      up = old.up;
      tries = subst (FewTries s.settings.retries) (sym c.retry_listed.ensures) (few_tried s.settings.retries c.args.seqs.now s.flights unspent old.tries);
      asks = old.asks;
    }

pub retry_listed-requires-clause-rises : goal.retry_listed-requires-clause-rises
retry_listed-requires-clause-rises c = (1, c.requires.increase)
