-- Slots: what they count, which end is in each, and that each end is in one.
use Rattle.std.proofs.Common.{◌≡◌, ℕ, ◌+◌, suc, zero, Bool, true, false, not, cond, List, [], ◌∷◌, filter, length, take, get_or, slice_get, All, Option, None, Some, refl, sym, ap, ◌∙◌, arith}
use Rattle.std.specs.List.{filter_map, range_with_len}
use Rattle.std.specs.Option.{option_map}
use Rattle.std.proofs.lemmas.Option.{slice_get_within, slice_get-get_or}
use Rattle.ic_base.specs.declared.keys.ConnEnd.{ConnEnd}
use Rattle.ic_conntab.specs.declared.slots.Slot.{Slot}
use Rattle.ic_conntab.specs.declared.slots.Slot.TheVariants.{Sender, Receiver}
use Rattle.ic_conntab.specs.Ends.{sending_ends, receiving_ends}
use Rattle.ic_conntab.specs.Slots.{slot_at, slots_behind, slots_of, end_at, IsWithin, sender_in, receiver_in}
use Rattle.ic_conntab.specs.PlaceLaws.{SlotsAreTheirEnds, SlotsComeOnce}

-- an element that passes comes in the filtered list after those before it that pass
filtered_place : {X : Type 0} (p : X → Bool) (xs : List X) (i : ℕ) (x : X) → slice_get xs i ≡ Some x → p x ≡ true → slice_get (filter p xs) (length (filter p (take i xs))) ≡ Some x
filtered_place p [] i x h passes = absurd (cc)
filtered_place p (y ∷ ys) zero x h passes =
    let is : y ≡ x = cc in
    ap (λ b. slice_get (cond b (y ∷ filter p ys) (filter p ys)) 0) (ap p is ∙ passes) ∙ h
filtered_place p (y ∷ ys) (suc i) x h passes = by (p y) (filtered_place p ys i x h passes)
  where
    by : (b : Bool) → slice_get (filter p ys) (length (filter p (take i ys))) ≡ Some x
        → slice_get (cond b (y ∷ filter p ys) (filter p ys)) (length (cond b (y ∷ filter p (take i ys)) (filter p (take i ys)))) ≡ Some x
    by true g = g
    by false g = g

-- the slot of an end, if this many ends come before all of them
counted : ℕ → ℕ → List ConnEnd → ℕ → ConnEnd → Slot
counted senders receivers ends i e = slot_at e.sending (senders + length (sending_ends (take i ends))) (receivers + length (receiving_ends (take i ends)))

slots_count : (senders receivers : ℕ) (ends : List ConnEnd) (i : ℕ) → slice_get (slots_behind senders receivers ends) i ≡ option_map (counted senders receivers ends i) (slice_get ends i)
unfolding counted
slots_count senders receivers [] i = refl
slots_count senders receivers (e ∷ ends) zero =
    let s : senders ≡ senders + 0 = omega arith in
    let r : receivers ≡ receivers + 0 = omega arith in
    λ k. Some (slot_at e.sending (s k) (r k))
slots_count senders receivers (e ∷ ends) (suc i) = by e.sending (slots_count (senders + 1) receivers ends i) (slots_count senders (receivers + 1) ends i)
  where
    sent : List ConnEnd
    sent = sending_ends (take i ends)

    got : List ConnEnd
    got = receiving_ends (take i ends)

    by : (b : Bool) → slice_get (slots_behind (senders + 1) receivers ends) i ≡ option_map (counted (senders + 1) receivers ends i) (slice_get ends i)
        → slice_get (slots_behind senders (receivers + 1) ends) i ≡ option_map (counted senders (receivers + 1) ends i) (slice_get ends i)
        → slice_get (cond b (slots_behind (senders + 1) receivers ends) (slots_behind senders (receivers + 1) ends)) i
        ≡ option_map (λ d. slot_at d.sending (senders + length (cond b (e ∷ sending_ends (take i ends)) (sending_ends (take i ends))))
        (receivers + length (cond (not b) (e ∷ receiving_ends (take i ends)) (receiving_ends (take i ends))))) (slice_get ends i)
    by true s r = let at : senders + 1 + length (sending_ends (take i ends)) ≡ senders + length (e ∷ sending_ends (take i ends)) = omega arith in
        s ∙ ap (λ n. option_map (λ d. slot_at d.sending n (receivers + length (receiving_ends (take i ends)))) (slice_get ends i)) at
    by false s r = let at : receivers + 1 + length (receiving_ends (take i ends)) ≡ receivers + length (e ∷ receiving_ends (take i ends)) = omega arith in
        r ∙ ap (λ n. option_map (λ d. slot_at d.sending (senders + length (sending_ends (take i ends))) n) (slice_get ends i)) at

slots_long : (senders receivers : ℕ) (ends : List ConnEnd) → length (slots_behind senders receivers ends) ≡ length ends
slots_long senders receivers [] = refl
slots_long senders receivers (e ∷ ends) = ap suc (by e.sending (slots_long (senders + 1) receivers ends) (slots_long senders (receivers + 1) ends))
  where
    by : (b : Bool) → length (slots_behind (senders + 1) receivers ends) ≡ length ends → length (slots_behind senders (receivers + 1) ends) ≡ length ends
        → length (cond b (slots_behind (senders + 1) receivers ends) (slots_behind senders (receivers + 1) ends)) ≡ length ends
    by true s r = s
    by false s r = r

-- the slot of the end at a place
slot_of_end : (ends : List ConnEnd) (e : ConnEnd) (i : ℕ) → slice_get ends i ≡ Some e
    → slice_get (slots_of ends) i ≡ Some (slot_at e.sending (length (sending_ends (take i ends))) (length (receiving_ends (take i ends))))
unfolding counted slots_of
slot_of_end ends e i h =
    let s : 0 + length (sending_ends (take i ends)) ≡ length (sending_ends (take i ends)) = omega arith in
    let r : 0 + length (receiving_ends (take i ends)) ≡ length (receiving_ends (take i ends)) = omega arith in
    slots_count 0 0 ends i ∙ ap (option_map (counted 0 0 ends i)) h ∙ (λ k. Some (slot_at e.sending (s k) (r k)))

-- the end in that slot is the end
end_there : (ends : List ConnEnd) (e : ConnEnd) (i : ℕ) → slice_get ends i ≡ Some e
    → end_at ends (slot_at e.sending (length (sending_ends (take i ends))) (length (receiving_ends (take i ends)))) ≡ Some e
end_there ends e i h = by e.sending refl
  where
    by : (b : Bool) → e.sending ≡ b → end_at ends (slot_at b (length (sending_ends (take i ends))) (length (receiving_ends (take i ends)))) ≡ Some e
    by true is = filtered_place (λ d. d.sending) ends i e h is
    by false is = filtered_place (λ d. not d.sending) ends i e h (ap not is)

pub slot_leads : (ends : List ConnEnd) (slot : Slot) (i : ℕ) → slice_get (slots_of ends) i ≡ Some slot → (e : ConnEnd) × (slice_get ends i ≡ Some e) × (end_at ends slot ≡ Some e)
unfolding slots_of
slot_leads ends slot i h = by (slice_get ends i) refl
  where
    by : (o : Option ConnEnd) → slice_get ends i ≡ o → (e : ConnEnd) × (slice_get ends i ≡ Some e) × (end_at ends slot ≡ Some e)
    by None is =
        let bad : Some slot ≡ None = sym h ∙ slots_count 0 0 ends i ∙ ap (option_map (counted 0 0 ends i)) is in
        absurd (cc)
    by (Some e) is =
        let there : Some slot ≡ Some (slot_at e.sending (length (sending_ends (take i ends))) (length (receiving_ends (take i ends)))) = sym h ∙ slot_of_end ends e i is in
        let same : slot ≡ slot_at e.sending (length (sending_ends (take i ends))) (length (receiving_ends (take i ends))) = cc in
        (e, is, ap (end_at ends) same ∙ end_there ends e i is)

pub slots_are_their_ends : SlotsAreTheirEnds
unfolding slots_of
slots_are_their_ends ends = (slots_long 0 0 ends, slot_of_end ends, slot_leads ends)

-- there is an end in each slot
stands : (ends : List ConnEnd) (slot : Slot) (e : ConnEnd) → end_at ends slot ≡ Some e → IsWithin ends slot
stands ends (Sender place) e h = slice_get_within (sending_ends ends) place e h
stands ends (Receiver place) e h = slice_get_within (receiving_ends ends) place e h

pub slots_within : (ends : List ConnEnd) → All (IsWithin ends) (slots_of ends)
slots_within ends k d within =
    let r : (e : ConnEnd) × (slice_get ends k ≡ Some e) × (end_at ends (get_or (slots_of ends) k d) ≡ Some e) =
    slot_leads ends (get_or (slots_of ends) k d) k (slice_get-get_or (slots_of ends) k d within) in
    stands ends (get_or (slots_of ends) k d) r.0 r.2

-- ---- once each

senders_once : (senders receivers : ℕ) (ends : List ConnEnd) → filter_map sender_in (slots_behind senders receivers ends) ≡ range_with_len senders (length (sending_ends ends))
senders_once senders receivers [] = refl
senders_once senders receivers (e ∷ ends) = by e.sending (senders_once (senders + 1) receivers ends) (senders_once senders (receivers + 1) ends)
  where
    by : (b : Bool) → filter_map sender_in (slots_behind (senders + 1) receivers ends) ≡ range_with_len (senders + 1) (length (sending_ends ends))
        → filter_map sender_in (slots_behind senders (receivers + 1) ends) ≡ range_with_len senders (length (sending_ends ends))
        → filter_map sender_in (slot_at b senders receivers ∷ cond b (slots_behind (senders + 1) receivers ends) (slots_behind senders (receivers + 1) ends))
        ≡ range_with_len senders (length (cond b (e ∷ sending_ends ends) (sending_ends ends)))
    by true s r = ap (λ l. senders ∷ l) s
    by false s r = r

receivers_once : (senders receivers : ℕ) (ends : List ConnEnd) → filter_map receiver_in (slots_behind senders receivers ends) ≡ range_with_len receivers (length (receiving_ends ends))
receivers_once senders receivers [] = refl
receivers_once senders receivers (e ∷ ends) = by e.sending (receivers_once (senders + 1) receivers ends) (receivers_once senders (receivers + 1) ends)
  where
    by : (b : Bool) → filter_map receiver_in (slots_behind (senders + 1) receivers ends) ≡ range_with_len receivers (length (receiving_ends ends))
        → filter_map receiver_in (slots_behind senders (receivers + 1) ends) ≡ range_with_len (receivers + 1) (length (receiving_ends ends))
        → filter_map receiver_in (slot_at b senders receivers ∷ cond b (slots_behind (senders + 1) receivers ends) (slots_behind senders (receivers + 1) ends))
        ≡ range_with_len receivers (length (cond (not b) (e ∷ receiving_ends ends) (receiving_ends ends)))
    by true s r = s
    by false s r = ap (λ l. receivers ∷ l) r

pub slots_come_once : SlotsComeOnce
unfolding slots_of
slots_come_once ends = (senders_once 0 0 ends, receivers_once 0 0 ends)
