use Rattle.std.proofs.Common.{◌≡◌, ◌≤◌, length, ap, sym, ◌∙◌, arith, Option, Some, None}
use Rattle.std.specs.Prelude.{IfSome, is_some, true, false}
use Rattle.std.specs.Option.{option_map}
use Rattle.ic_sendring.specs.declared.sealed.Sealed.{Sealed}
use Rattle.ic_sendring.specs.Ring.{bare, room_of}
use Rattle.ic_sendring.specs.Views.{lent}
use Rattle.ic_sender.specs.Sending.{row_of, kept_at}
use Rattle.ic_sender.specs.Views.{newest_of, one_of, with_newest}
use Rattle.ic_sender.proofs.Packets.{ring_at, lent_is, lent_fits, with_first, with_last}
use Rattle.ic_sender.proofs.planning.packet_at.Goals as goal

pub returns-then-is_some-clause-value : goal.returns-then-is_some-clause-value
returns-then-is_some-clause-value c = by c.packet-kept.result (sym c.is_some.ensures ∙ c.if-is_some.true) c.packet-kept.ensures.value
  where
    by : (o : Option Sealed) → is_some o ≡ true → lent o ≡ bare (ring_at c.args.seq c.args.ring.now.kept) → row_of (option_map newest_of o) ≡ row_of (kept_at (with_newest c.args.ring.now c.args.newest) c.args.seq)
    by None some_ h = let bad : false ≡ true = some_ in cc
    by (Some s) some_ h = ap row_of (sym (with_first c.args.ring.now c.args.newest c.args.seq (newest_of s) (sym (lent_is c.args.ring.now c.args.seq (Some s) h))))

pub returns-then-is_some-clause-fits : goal.returns-then-is_some-clause-fits
returns-then-is_some-clause-fits c = by c.packet-kept.result (lent_fits c.args.ring.now c.args.seq c.packet-kept.result c.packet-kept.ensures.ring c.packet-kept.ensures.value)
  where
    by : (o : Option Sealed) → IfSome o (λ s. length s.payload.now ≤ room_of c.args.ring.now.packet) → IfSome o (λ s. length s.payload.now ≤ 65507)
    by None h = tt
    by (Some s) h = omega (arith, h, c.requires.packet)

pub returns-clause-value : goal.returns-clause-value
returns-clause-value c = c.newest_at.ensures.value ∙ sym (ap row_of (by c.packet-kept.result (sym c.is_some.ensures ∙ c.if-is_some.false) c.packet-kept.ensures.value))
  where
    by : (o : Option Sealed) → is_some o ≡ false → lent o ≡ bare (ring_at c.args.seq c.args.ring.now.kept) → kept_at (with_newest c.args.ring.now c.args.newest) c.args.seq ≡ kept_at (one_of c.args.newest) c.args.seq
    by None none h = with_last c.args.ring.now c.args.newest c.args.seq (sym (lent_is c.args.ring.now c.args.seq None h))
    by (Some s) none h = let bad : true ≡ false = none in cc
