-- What becomes of a send.
use Rattle.std.specs.Prelude.{ℕ, ◌+◌, ◌%◌, ◌^◌, ℤ, Bool, true, false, ◌&&◌, ◌||◌, ◌==◌, nat_lt, if◌then◌else◌, List, [], ◌∷◌, Option, Some, None}
use Rattle.std.specs.List.{list_any}
use Rattle.std.specs.Ordering.{int_eq}
use Rattle.rand_xoshiro.specs.SplitMix64.{mix_u64}
use Rattle.ic_base.specs.declared.datagram.Datagram.{Datagram}
use Rattle.ic_wire.specs.declared.fate.Fate.{Fate}
use Rattle.ic_wire.specs.declared.fate.Draws.{Draws}
use Rattle.ic_wire.specs.declared.copies.CopyKey.{CopyKey}
use Rattle.ic_wire.specs.declared.copies.Kept.{Kept}

-- ---- words

-- of a state of SplitMix64 the next word, of 64 bits, and the state after it
unfoldable pub word_of : ℕ → ℕ × ℕ
word_of state = mix_u64 state

-- the four words that a send draws, in this order, and the state after them
unfoldable pub draws_of : ℕ → Draws × ℕ
draws_of state =
    let first = word_of state in
    let second = word_of first.1 in
    let third = word_of second.1 in
    let fourth = word_of third.1 in
    (record { loss = first.0; repeat = second.0; delay = third.0; delay_again = fourth.0 }, fourth.1)

-- ---- lost whatever is drawn

abbrev pub is_dropped : List ℕ → ℕ → Bool
is_dropped drops number = list_any (λ drop. drop == number) drops

abbrev pub is_muted : Option (ℤ × ℤ) → Datagram → Bool
is_muted None d = false
is_muted (Some pair) d = int_eq d.from pair.0 && int_eq d.to pair.1

-- the send of this number is lost: its number is to be dropped, or it goes between the muted pair
abbrev pub is_lost : Fate → ℕ → Datagram → Bool
is_lost fate number d = is_dropped fate.drops number || is_muted fate.mute d

-- ---- by what is drawn

-- the key of a copy: as many sends later as the word says, up to the greatest delay
abbrev pub key_for : Fate → ℕ → Bool → ℕ → CopyKey
key_for fate number again word = record { time = number + word % (fate.delay + 1); number = number; again = again }

abbrev pub copy_of : Fate → ℕ → Datagram → Bool → ℕ → Kept
copy_of fate number d again word = record { key = key_for fate number again word; datagram = d }

abbrev pub again_of : Fate → ℕ → Datagram → Draws → List Kept
again_of fate number d draws = if nat_lt (draws.repeat % 1000) fate.repeat then copy_of fate number d true draws.delay_again ∷ [] else []

-- the copies that are left of a send that isn't lost from the beginning: none, one or two
abbrev pub copies_of : Fate → ℕ → Datagram → Draws → List Kept
copies_of fate number d draws =
    if nat_lt (draws.loss % 1000) fate.loss then [] else copy_of fate number d false draws.delay ∷ again_of fate number d draws

-- the number after which every send is lost
unfoldable pub last_number : ℕ
last_number = 2 ^ 127
