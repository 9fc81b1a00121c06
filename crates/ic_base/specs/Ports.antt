-- The port of a slice worker: its connections, the log of its calls, and why a call may be refused.
use Rattle.std.specs.Prelude.{◌≡◌, ℕ, ◌+◌, ◌-◌, ◌^◌, ◌≤◌, min, ℤ, List, [], ◌∷◌, ◌++◌, Any, true, false, Result, Ok, Err}
use Rattle.ic_base.specs.declared.keys.ConnKey.{ConnKey}
use Rattle.ic_base.specs.declared.keys.ConnEnd.{ConnEnd}
use Rattle.ic_base.specs.declared.datagram.Parcel.{Parcel}
use Rattle.ic_base.specs.declared.port.PortNo.{PortNo}
use Rattle.ic_base.specs.declared.port.PortNo.TheVariants.{Full, Empty, Stopped, Ended, TooLong, Busy, Memory}
use Rattle.ic_base.specs.declared.port.PortAsk.{PortAsk}
use Rattle.ic_base.specs.declared.port.PortReply.{PortReply}
use Rattle.ic_base.specs.declared.port.PortReply.TheVariants.{Did, Gave, Refused}
use Rattle.ic_base.specs.declared.port.PortEntry.{PortEntry}

-- ---- connections

-- the worker sends on some connection of this motion to this segment
abbrev pub SendsTo : List ConnEnd → ℕ → ℤ → Type 0
SendsTo keys motion to = Any (λ end. (end.sending ≡ true) × (end.key.motion ≡ motion) × (end.key.to ≡ to)) keys

-- the worker sends on this connection, and it is of this motion and to this segment
abbrev pub SendsAs : List ConnEnd → ℕ → ℤ → ConnKey → Type 0
SendsAs keys motion to key = (key.motion ≡ motion) × (key.to ≡ to) × Any (λ end. (end.sending ≡ true) × (end.key ≡ key)) keys

-- the worker receives from this segment on some connection of this motion
abbrev pub HearsFrom : List ConnEnd → ℕ → ℤ → Type 0
HearsFrom keys motion sender = Any (λ end. (end.sending ≡ false) × (end.key.motion ≡ motion) × (end.key.from ≡ sender)) keys

-- the worker receives from some segment on some connection of this motion
abbrev pub Hears : List ConnEnd → ℕ → Type 0
Hears keys motion = Any (λ end. (end.sending ≡ false) × (end.key.motion ≡ motion)) keys

-- ---- the log

-- the reply in the log for a call that returned no parcel
abbrev pub did : Result (Unit {0}) PortNo → PortReply
did (Ok _) = Did
did (Err refusal) = Refused refusal

-- the reply in the log for a call that returned a parcel
abbrev pub gave : Result Parcel PortNo → PortReply
gave (Ok parcel) = Gave parcel
gave (Err refusal) = Refused refusal

-- what a call adds to the log: its entry, or nothing if the answer was Busy or Memory
abbrev pub added : PortAsk → PortReply → List PortEntry
added ask (Refused Busy) = []
added ask (Refused Memory) = []
added ask reply = record { ask = ask; reply = reply } ∷ []

-- the log after a call
abbrev pub logged : PortAsk → PortReply → List PortEntry → List PortEntry
logged ask reply log = log ++ added ask reply

-- ---- the count of Busy

-- one more, up to the greatest u64
abbrev pub one_more_busy : ℕ → ℕ
one_more_busy n = min (n + 1) (2 ^ 64 - 1)

-- the count rose by at least one, or is the greatest u64
abbrev pub BusyRose : ℕ → ℕ → Type 0
BusyRose before now = one_more_busy before ≤ now

-- the count never falls, and if the reply is Busy, it rose
pub record CountsBusy (before now : ℕ) (reply : PortReply) : Type 0 where
  pub later : before ≤ now
  pub rose : reply ≡ Refused Busy → BusyRose before now

-- ---- refusals

-- why a put or a finish on this motion to this segment may be refused; a key in it is the connection's
abbrev pub MayRefusePut : List ConnEnd → ℕ → ℤ → PortNo → Type 0
MayRefusePut keys motion to Full = Unit {0}
MayRefusePut keys motion to Empty = ⊥
MayRefusePut keys motion to Stopped = Unit {0}
MayRefusePut keys motion to Ended = ⊥
MayRefusePut keys motion to (TooLong key) = SendsAs keys motion to key
MayRefusePut keys motion to Busy = Unit {0}
MayRefusePut keys motion to Memory = Unit {0}

-- why a take may be refused
abbrev pub MayRefuseTake : PortNo → Type 0
MayRefuseTake Full = ⊥
MayRefuseTake Empty = Unit {0}
MayRefuseTake Stopped = ⊥
MayRefuseTake Ended = Unit {0}
MayRefuseTake (TooLong key) = ⊥
MayRefuseTake Busy = Unit {0}
MayRefuseTake Memory = Unit {0}

-- why a halt may be refused
abbrev pub MayRefuseHalt : PortNo → Type 0
MayRefuseHalt Full = ⊥
MayRefuseHalt Empty = ⊥
MayRefuseHalt Stopped = ⊥
MayRefuseHalt Ended = ⊥
MayRefuseHalt (TooLong key) = ⊥
MayRefuseHalt Busy = Unit {0}
MayRefuseHalt Memory = Unit {0}
