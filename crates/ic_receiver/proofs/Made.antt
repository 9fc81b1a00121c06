-- What the statements of a call made, as the rules say it.
use Rattle.std.proofs.Common.{◌≡◌, ℕ, ◌+◌, ◌*◌, ◌%◌, ◌<◌, List, [], ◌++◌, length, Bool, true, false, not, Option, Some, None, Result, Ok, Err, refl, ap, sym, ◌∙◌, subst, arith}
use Rattle.std.specs.Prelude.{IfOk, OnErr}
use Rattle.std.specs.Option.{is_some}
use Rattle.std.proofs.Math.Nat.{mul-mod_right}
use Rattle.ic_base.specs.declared.keys.ConnEnd.{ConnEnd}
use Rattle.ic_base.specs.declared.datagram.Datagram.{Datagram}
use Rattle.ic_header.specs.declared.header.Header.{Header}
use Rattle.ic_header.specs.declared.flags.Flags.{Flags}
use Rattle.ic_header.specs.declared.flags.Flags.TheVariants.{Stop}
use Rattle.ic_header.specs.Spelling.{AllowsBody, Heads, written}
use Rattle.ic_header.proofs.Words.{length-words}
use Rattle.ic_recvring.specs.Ring.{Ring, Packet}
use Rattle.ic_header.specs.Packets.{header_for}
use Rattle.ic_header.specs.Packets.{listing}
use Rattle.ic_receiver.specs.Receiving.{Receiving, HearsRows, Hears, Stopped, Running}
use Rattle.ic_header.specs.Packets.{IsAnswer}

pub if_ok : {X E : Type 0} (r : Result X E) (P Q : X → Type 0) → ((x : X) → P x → Q x) → IfOk r P → IfOk r Q
if_ok (Ok x) P Q go h = go x h
if_ok (Err e) P Q go h = h

pub on_err : {X E : Type 0} (r : Result X E) (e : E) {P : Type 0} → r ≡ Err e → OnErr r P → P
on_err r e {P = P} is h = subst (λ x. OnErr x P) is h

-- a list of numbers that a Disorder may have
pub listing_allowed : (n : ℕ) → 0 < n → (0 < 4 * n) × ((4 * n) % 4 ≡ 0)
listing_allowed n some = (omega (arith, some), mul-mod_right 4 n)

-- ---- one call of a receiver

pub stopped_made : {E : Type 0} (s now : Receiving) (q : Packet) (result : Result (Option Datagram) E) (d : Datagram) → s.ring ≡ None → IsAnswer s.end Stop q.seq 0 [] d → now ≡ s → result ≡ Ok (Some d)
    → IfOk result (λ a. Hears s q a now)
stopped_made s now q result d none answer same is = subst (λ r. IfOk r (λ a. Hears s q a now)) (sym is) (Stopped d none answer refl same)

pub running_made : {E : Type 0} (s now : Receiving) (q : Packet) (result heard : Result (Option Datagram) E) (ring after : Ring) → s.ring ≡ Some ring → IfOk heard (λ a. HearsRows s.end ring q a after)
    → now ≡ record s { ring = Some after } → result ≡ heard → IfOk result (λ a. Hears s q a now)
running_made s now q result heard ring after runs hears same is =
    subst (λ r. IfOk r (λ a. Hears s q a now)) (sym is) (if_ok heard (λ a. HearsRows s.end ring q a after) (λ a. Hears s q a now) (λ a h. Running ring after runs h same) hears)

pub some_ring : (found : Option Ring) (none : Bool) → is_some found ≡ not none → none ≡ false → (ring : Ring) × (found ≡ Some ring)
some_ring (Some ring) none is off = (ring, refl)
some_ring None none is off = absurd (let bad : false ≡ true = is ∙ ap not off in cc)
