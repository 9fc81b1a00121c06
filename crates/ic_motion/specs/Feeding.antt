-- What one take makes of what is held.
use Rattle.std.specs.Prelude.{◌≡◌, ◌≢◌, ℕ, zero, suc, ℤ, List, [], ◌∷◌, ◌++◌, Bool, true, false, ◌&&◌, ◌||◌, if◌then◌else◌, slice_get, slice_set, Some, Result, Ok, Err}
use Rattle.std.specs.List.{AllByRecursion}
use Rattle.std.specs.Ordering.{int_eq}
use Rattle.ic_base.specs.declared.datagram.Parcel.{Parcel}
use Rattle.ic_base.specs.declared.port.PortNo.{PortNo}
use Rattle.ic_base.specs.declared.port.PortNo.TheVariants.{Full, Empty, Stopped, Ended, TooLong, Busy, Memory}
use Rattle.ic_row.specs.declared.value.Kind.{Kind}
use Rattle.ic_row.specs.declared.value.Kind.TheVariants as kinds_
use Rattle.ic_row.specs.declared.value.Value.{Value}
use Rattle.ic_row.specs.declared.value.Value.TheVariants.{Null, Int, Wide, Chars}
use Rattle.ic_chunk.specs.Assembly.{Assembles, IsStream}
use Rattle.ic_chunk.specs.Joining.{Stands}
use Rattle.pl_ops.specs.Rows.{Line}
use Rattle.ic_motion.specs.declared.answers.Got.{Got}
use Rattle.ic_motion.specs.declared.answers.Got.TheVariants as got
use Rattle.ic_motion.specs.declared.answers.MotionEnd.{MotionEnd}
use Rattle.ic_motion.specs.declared.answers.MotionNo.{MotionNo}
use Rattle.ic_motion.specs.declared.answers.MotionNo.TheVariants as why
use Rattle.ic_motion.specs.Answers.{key_from}
use Rattle.ic_motion.specs.Hearing.{HasKinds, Lane}

-- ---- kinds

abbrev pub of_kind : Kind → Value → Bool
of_kind k Null = true
of_kind kinds_.Int (Int n) = true
of_kind kinds_.Wide (Wide n) = true
of_kind kinds_.Chars (Chars t) = true
of_kind _ _ = false

-- whether a row has a value of its kind for each column, or null
abbrev pub has_kinds : List Kind → Line → Bool
has_kinds [] [] = true
has_kinds (k ∷ ks) (v ∷ vs) = of_kind k v && has_kinds ks vs
has_kinds [] (v ∷ vs) = false
has_kinds (k ∷ ks) [] = false

-- ---- a payload that is no stream's

-- These payloads are no front of a stream of rows of these kinds, or the end of stream isn't where the mark of the last payload
-- says.
pub data Spoilt (kinds : List Kind) (payloads : List (List ℕ)) (last : Bool) : Type 0 where
  no_stream : (IsStream payloads → ⊥) → Spoilt kinds payloads last
  wrong_mark : (rows : List Line) (rest : List ℕ) (ended : Bool) → Assembles payloads rows rest ended → ended ≢ last → Spoilt kinds payloads last
  wrong_kinds : (rows : List Line) (rest : List ℕ) (ended : Bool) → Assembles payloads rows rest ended → (AllByRecursion (HasKinds kinds) rows → ⊥) → Spoilt kinds payloads last

-- ---- one sender

-- a parcel was taken over, and completes these rows
pub record Grows (kinds : List Kind) (old new : Lane) (p : Parcel) (given : List Line) : Type 0 where
  pub feeds : (payloads : List (List ℕ)) (rows : List Line) → Stands old.stream payloads rows → Stands new.stream (payloads ++ p.payload ∷ []) (rows ++ given)
  pub mark : new.stream.ended ≡ p.last
  pub fit : AllByRecursion (HasKinds kinds) given
  pub new_is : new ≡ record old { stream = new.stream; rows = old.rows ++ given; over = old.over || p.last }

-- a parcel spoils the sender's stream
abbrev pub Spoils : List Kind → Lane → Parcel → Type 0
Spoils kinds old p = (payloads : List (List ℕ)) (rows : List Line) → Stands old.stream payloads rows → Spoilt kinds (payloads ++ p.payload ∷ []) p.last

-- a parcel was fed to a lane
abbrev pub Fills : MotionEnd → List Kind → (old new : Lane) → Parcel → Result (Unit {0}) MotionNo → Type 0
Fills end kinds old new p (Ok _) = (given : List Line) × Grows kinds old new p given
Fills end kinds old new p (Err (why.Malformed key)) = (key ≡ key_from end p.from) × Spoils kinds old p
Fills end kinds old new p (Err (why.TooLong key)) = ⊥
Fills end kinds old new p (Err why.Memory) = Unit {0}

-- ---- all senders

-- the first place of a sender, and the number of all if it has none
abbrev pub place_of : List Lane → ℤ → ℕ
place_of [] sender = zero
place_of (l ∷ lanes) sender = if int_eq l.sender sender then zero else suc (place_of lanes sender)

-- a parcel was fed to the lane at a place
abbrev pub FeedsAt : MotionEnd → List Kind → Parcel → ℕ → (old new : List Lane) → Result (Unit {0}) MotionNo → Type 0
FeedsAt end kinds p k old new result = (was : Lane) × (lane : Lane) × (slice_get old k ≡ Some was) × (new ≡ slice_set old k lane) × Fills end kinds was lane p result

-- a parcel was taken over
abbrev pub Feeds : MotionEnd → List Kind → Parcel → (old new : List Lane) → Result Got MotionNo → Type 0
Feeds end kinds p old new (Ok answer) =
    (was : Lane) × (lane : Lane) × (given : List Line) × (slice_get old (place_of old p.from) ≡ Some was) × Grows kinds was lane p given
    × (new ≡ slice_set old (place_of old p.from) lane) × (answer ≡ got.More)
Feeds end kinds p old new (Err (why.Malformed key)) =
    (was : Lane) × (slice_get old (place_of old p.from) ≡ Some was) × (key ≡ key_from end p.from) × Spoils kinds was p
Feeds end kinds p old new (Err (why.TooLong key)) = ⊥
Feeds end kinds p old new (Err why.Memory) = Unit {0}

-- a take was refused
abbrev pub Lacks : PortNo → (old new : List Lane) → Result Got MotionNo → Type 0
Lacks Empty old new result = (result ≡ Ok (got.Wait Empty)) × (new ≡ old)
Lacks Busy old new result = (result ≡ Ok (got.Wait Busy)) × (new ≡ old)
Lacks Ended old new result = (result ≡ Err why.Memory) × (new ≡ old)
Lacks Memory old new result = (result ≡ Err why.Memory) × (new ≡ old)
Lacks Full old new result = (result ≡ Err why.Memory) × (new ≡ old)
Lacks Stopped old new result = (result ≡ Err why.Memory) × (new ≡ old)
Lacks (TooLong key) old new result = (result ≡ Err why.Memory) × (new ≡ old)

-- what a take with this answer makes of the lanes
abbrev pub Takes : MotionEnd → List Kind → (old new : List Lane) → Result Got MotionNo → Result Parcel PortNo → Type 0
Takes end kinds old new result (Ok p) = Feeds end kinds p old new result
Takes end kinds old new result (Err no_) = Lacks no_ old new result
