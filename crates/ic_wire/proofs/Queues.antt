-- A queue stays one.
use Rattle.std.proofs.Common.{◌≡◌, ℤ, false, not, List, [], ◌∷◌, ◌++◌, get_or, refl, sym, ap, ◌∙◌, subst, inl, inr}
use Rattle.std.specs.List.{All, filter}
use Rattle.std.proofs.lemmas.Bool.{not-true, cases_Bool, both_ways, false_from_ne_true}
use Rattle.std.proofs.lemmas.List.Elements.{filter_passes, All-append, All-cons, All-filter, All-from_recursion, recursion_from_All}
use Rattle.ic_wire.specs.declared.copies.CopyKey.{CopyKey}
use Rattle.ic_wire.specs.declared.copies.Kept.{Kept}
use Rattle.ic_wire.specs.Copies.{comes_before, with_copy, IsQueue, AreTo, AreKept}
use Rattle.ic_wire.proofs.Lists.{filter_none, filter_all, later_between, queue_tail}
use Rattle.ic_wire.proofs.Order.{lesser, up_to}

abbrev others : CopyKey → List Kept → List Kept
others key kept = filter (λ (k : Kept). not (comes_before key k)) kept

-- a queue is what comes before a key, and then the others
halves : (key : CopyKey) (kept : List Kept) → IsQueue kept → filter (comes_before key) kept ++ others key kept ≡ kept
halves key [] queue = refl
halves key (y ∷ ys) queue = elim (cases_Bool (comes_before key y)) [
  | inl t ↦ rw t (ap (λ l. y ∷ l) (halves key ys (queue_tail y ys queue)))
  | inr f ↦
      let none : All (λ z. comes_before key z ≡ false) ys = λ k d lt.
      let z = get_or ys k d in
      false_from_ne_true (comes_before key z) (λ e. both_ways (comes_before key y) f (lesser y.key z.key key (queue.0 k d lt) e)) in
      rw f (
      ap (λ l. l ++ y ∷ others key ys) (filter_none (comes_before key) ys none)
      ∙ ap (λ l. y ∷ l) (filter_all (λ (k : Kept). not (comes_before key k)) ys (λ k d lt. ap not (none k d lt)))
      )
]

pub queue_with : (copy : Kept) (kept : List Kept) → IsQueue kept → IsQueue (with_copy copy kept)
queue_with copy kept queue =
    let us = filter (comes_before copy.key) kept in
    let vs = others copy.key kept in
    later_between us vs copy (subst IsQueue (sym (halves copy.key kept queue)) queue)
    (λ k d lt. up_to (get_or us k d) copy (filter_passes (comes_before copy.key) kept k d lt))
    (λ k d lt. not-true (comes_before copy.key (get_or vs k d)) (filter_passes (λ (z : Kept). not (comes_before copy.key z)) kept k d lt))

-- ---- what holds of each copy

pub all_with : (P : Kept → Type 0) (copy : Kept) (kept : List Kept) → All P kept → P copy → All P (with_copy copy kept)
all_with P copy kept all here =
    All-append P (filter (comes_before copy.key) kept) (copy ∷ others copy.key kept)
    (All-filter (comes_before copy.key) P kept all)
    (All-cons P copy (others copy.key kept) here (All-filter (λ (k : Kept). not (comes_before copy.key k)) P kept all))

to_with : (at : ℤ) (copy : Kept) (kept : List Kept) → AreTo at kept → copy.datagram.to ≡ at → AreTo at (with_copy copy kept)
to_with at copy kept every here =
    let P : Kept → Type 0 = λ k. k.datagram.to ≡ at in
    recursion_from_All P (with_copy copy kept) (all_with P copy kept (All-from_recursion P kept every) here)

pub kept_with : (copy : Kept) (kept : List Kept) → AreKept copy.datagram.to kept → AreKept copy.datagram.to (with_copy copy kept)
kept_with copy kept h = record { queue = queue_with copy kept h.queue; to = to_with copy.datagram.to copy kept h.to refl }
