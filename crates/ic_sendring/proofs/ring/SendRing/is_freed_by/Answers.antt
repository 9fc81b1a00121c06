use Rattle.std.proofs.Common.{◌≡◌, ◌<◌, ◌≤◌, length, drop, inl, inr, sym, subst, arith}
use Rattle.std.proofs.lemmas.Bool.Decides.{leb_tells}
use Rattle.std.proofs.lemmas.Option.{slice_get_within}
use Rattle.ic_sendring.specs.Ring.{Ring, behind}
use Rattle.ic_sendring.specs.Views.{packet_of, packets_of}
use Rattle.ic_sendring.proofs.Seen.{first_goes, first_stays, none_stays}
use Rattle.ic_sendring.proofs.Block.{read_there, read_none}
use Rattle.ic_sendring.proofs.Sound.{long_of, follow_of}
use Rattle.ic_sendring.proofs.ring.SendRing.is_freed_by.Goals as goal

pub returns-in-Some-clause-some : goal.returns-in-Some-clause-some
returns-in-Some-clause-some c = λ on.
    let s = c.self.inside in
    let within = slice_get_within s.slots.items 0 c.in-Some.slot.now (sym c.in-Some.ensures) in
    let long = long_of s.depth s.packet s.sealed s.sent s.slots.items _ s.block.items _ c.self.invariant in
    subst (λ (t : Ring). 0 < length t.kept) c.self.view_is (omega (arith, within, long))

pub returns-in-Some-clause-first : goal.returns-in-Some-clause-first
returns-in-Some-clause-first c = λ on.
    let s = c.self.inside in
    let slot = c.in-Some.slot.now in
    let early : slot.seq ≤ c.args.upto = elim (leb_tells slot.seq c.args.upto) [ inl w ↦ w.1 | inr w ↦ absurd (let off = w.0 in cc) ] in
    subst (λ (t : Ring). behind c.args.upto (drop 1 t.kept) ≡ behind c.args.upto t.kept) c.self.view_is
    (first_goes s.sent c.args.upto (packets_of s.block.items s.slots.items) (packet_of s.block.items slot) (read_there s.block.items s.slots.items 0 slot (sym c.in-Some.ensures)) early)

pub returns-in-Some-clause-none : goal.returns-in-Some-clause-none
returns-in-Some-clause-none c = λ off.
    let s = c.self.inside in
    let slot = c.in-Some.slot.now in
    let later : c.args.upto < slot.seq = elim (leb_tells slot.seq c.args.upto) [ inl w ↦ absurd (let on = w.0 in cc) | inr w ↦ w.1 ] in
    subst (λ (t : Ring). behind c.args.upto t.kept ≡ t.kept) c.self.view_is
    (first_stays _ s.sent c.args.upto (packets_of s.block.items s.slots.items) (packet_of s.block.items slot) (follow_of s.depth s.packet s.sealed s.sent s.slots.items _ s.block.items _ c.self.invariant)
    (read_there s.block.items s.slots.items 0 slot (sym c.in-Some.ensures)) later)

pub returns-in-None-clause-none : goal.returns-in-None-clause-none
returns-in-None-clause-none c = λ off.
    let s = c.self.inside in
    subst (λ (t : Ring). behind c.args.upto t.kept ≡ t.kept) c.self.view_is (none_stays s.sent c.args.upto (packets_of s.block.items s.slots.items) (read_none s.block.items s.slots.items 0 (sym c.in-None.ensures)))
