-- A position that is found is within the ends of its side.
use Rattle.std.proofs.Common.{◌≡◌, ℕ, ◌<◌, List, map, length, get_or, slice_get, Option, None, Some, IfSome, refl, sym, ap, ◌∙◌, arith}
use Rattle.std.specs.Option.{option_map}
use Rattle.std.proofs.lemmas.List.{length-map}
use Rattle.std.proofs.lemmas.Option.{slice_get_within, slice_get_read, slice_get-map}
use Rattle.ic_base.specs.declared.keys.ConnKey.{ConnKey}
use Rattle.ic_base.specs.declared.keys.ConnEnd.{ConnEnd}
use Rattle.ic_conntab.specs.declared.slots.Sides.{Sides}
use Rattle.ic_conntab.specs.Ends.{sending_ends, receiving_ends, keys_of, sender_at, receiver_at}
use Rattle.ic_conntab.specs.Kept.{sides_at}
use Rattle.ic_conntab.specs.PlaceLaws.{AreFound}
use Rattle.ic_conntab.proofs.Named.{sides_are_found}

place_within : (of_side : List ConnEnd) (found : ConnKey → Option ℕ) → AreFound of_side found → (key : ConnKey) (place : Option ℕ) → place ≡ found key → IfSome place (λ i. i < length of_side)
place_within of_side found law key None is = tt
place_within of_side found law key (Some i) is =
    let r : (e : ConnEnd) × (slice_get of_side i ≡ Some e) × (e.key ≡ key) = law.some key i (sym is) in
    slice_get_within of_side i r.0 r.1

-- both sides of a key
pub sides_within : (ends : List ConnEnd) (sides : List Sides) (place : ℕ) (s : Sides) → sides ≡ map (sides_at ends) (keys_of ends) → place < length (keys_of ends) → s ≡ get_or sides place s
    → IfSome s.sender (λ i. i < length (sending_ends ends)) × IfSome s.receiver (λ i. i < length (receiving_ends ends))
sides_within ends sides place s are within at =
    let l : place < length sides = omega (arith, within, ap length are, length-map (keys_of ends) (sides_at ends)) in
    by (slice_get (keys_of ends) place)
    (sym (slice_get_read sides (length sides) place s refl l at) ∙ ap (λ m. slice_get m place) are ∙ slice_get-map (sides_at ends) (keys_of ends) place)
  where
    by : (o : Option ConnKey) → Some s ≡ option_map (sides_at ends) o → IfSome s.sender (λ i. i < length (sending_ends ends)) × IfSome s.receiver (λ i. i < length (receiving_ends ends))
    by None is = absurd (cc)
    by (Some key) is =
        let same : s ≡ sides_at ends key = cc in (
          place_within (sending_ends ends) (sender_at ends) (sides_are_found ends).0 key s.sender (ap (λ (x : Sides). x.sender) same),
          place_within (receiving_ends ends) (receiver_at ends) (sides_are_found ends).1 key s.receiver (ap (λ (x : Sides). x.receiver) same),
        )
