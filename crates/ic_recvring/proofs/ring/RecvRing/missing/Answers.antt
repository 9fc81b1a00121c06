use Rattle.std.proofs.Common.{◌≡◌, ℕ, ◌+◌, ◌-◌, ap, ◌∙◌, subst}
use Rattle.std.specs.List.{filter}
use Rattle.ic_recvring.specs.Numbers.{numbers_from, IsRunEnd, IsGreatest, missing}
use Rattle.ic_recvring.specs.Ring.{Ring, stored_of}
use Rattle.ic_recvring.specs.Views.{is_absent}
use Rattle.ic_recvring.proofs.Sound.{run_within, are_missing}
use Rattle.ic_recvring.proofs.ring.RecvRing.missing.Goals as goal

pub absent-requires-clause-top : goal.absent-requires-clause-top
absent-requires-clause-top c = let s = c.self.inside in run_within s.depth s.packet s.consumed s.run s.top s.slots.items c.self.invariant

pub returns : goal.returns
returns c =
    let s = c.self.inside in
    record {
      ok = subst (λ (t : Ring). (r g : ℕ) → IsRunEnd (stored_of t) r → IsGreatest (stored_of t) g → c.from_vec.result ≡ missing (stored_of t) r g) c.self.view_is
          (λ r g one most. c.from_vec.ensures ∙ c.in_ok-seqs.ensures ∙ ap (λ l. filter (is_absent l s.depth) (numbers_from (s.run + 1) (s.top - s.run))) c.as_slice.ensures.value
          ∙ are_missing s.depth s.packet s.consumed s.run s.top s.slots.items c.self.invariant r g one most);
    }
