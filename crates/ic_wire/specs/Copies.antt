-- The copies of datagrams that a network keeps for a node, and their order.
use Rattle.std.specs.Prelude.{◌≡◌, ℤ, Bool, false, not, List, [], ◌∷◌, ◌++◌, filter, All, ⊤}
use Rattle.std.specs.declared.cmp.Ordering.{Ordering}
use Rattle.std.specs.List.{AllByRecursion}
use Rattle.std.specs.Ordering.{nat_cmp, bool_cmp, ordering_then, is_lt}
use Rattle.ic_wire.specs.declared.copies.CopyKey.{CopyKey}
use Rattle.ic_wire.specs.declared.copies.Kept.{Kept}

-- ---- their order

-- the lesser time first, then the lesser number of the send, then the first copy of it
abbrev pub key_cmp : CopyKey → CopyKey → Ordering
key_cmp a b = ordering_then (nat_cmp a.time b.time) (ordering_then (nat_cmp a.number b.number) (bool_cmp a.again b.again))

-- ---- a queue

abbrev pub comes_before : CopyKey → Kept → Bool
comes_before key kept = is_lt (key_cmp kept.key key)

-- one copy more, after those that come before it and in front of the others
abbrev pub with_copy : Kept → List Kept → List Kept
with_copy copy kept = filter (comes_before copy.key) kept ++ copy ∷ filter (λ (k : Kept). not (comes_before copy.key k)) kept

abbrev pub with_copies : List Kept → List Kept → List Kept
with_copies [] kept = kept
with_copies (copy ∷ copies) kept = with_copies copies (with_copy copy kept)

-- b doesn't come before a
abbrev pub IsUpTo : Kept → Kept → Type 0
IsUpTo a b = comes_before a.key b ≡ false

-- no copy comes before an earlier one of the list
abbrev pub IsQueue : List Kept → Type 0
IsQueue [] = ⊤
IsQueue (copy ∷ copies) = All (IsUpTo copy) copies × IsQueue copies

-- each copy goes to this segment
abbrev pub AreTo : ℤ → List Kept → Type 0
AreTo at kept = AllByRecursion (λ (k : Kept). k.datagram.to ≡ at) kept

-- copies that a node of this segment keeps
pub record AreKept (at : ℤ) (kept : List Kept) : Type 0 where
  pub queue : IsQueue kept
  pub to : AreTo at kept
