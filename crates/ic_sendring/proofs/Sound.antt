-- A ring stays sound when a packet is sealed, when it is sent, and when the first one is freed.
use Rattle.std.proofs.Common.{◌≡◌, ℕ, ◌+◌, ◌-◌, ◌*◌, ◌%◌, ◌<◌, ◌≤◌, ◌^◌, false, List, [], ◌∷◌, ◌++◌, length, drop, Some, slice_get, refl, ap, sym, ◌∙◌, subst, arith}
use Rattle.std.specs.List.{AllByRecursion, All}
use Rattle.std.proofs.lemmas.List.{map-append, length_push, length-drop}
use Rattle.std.proofs.lemmas.List.Elements.{All-push, All-drop, All-from_recursion, recursion_from_All}
use Rattle.ic_sendring.specs.declared.slot.Slot.{Slot}
use Rattle.ic_sendring.specs.Ring.{Packet, Kept, IsRing, numbers_from, room_of}
use Rattle.ic_sendring.specs.Views.{packet_of, packets_of, kept_of, seen, seqs_of, ring_of}
use Rattle.ic_sendring.specs.Room.{IsSound, IsIn}
use Rattle.ic_sendring.proofs.Numbers.{numbers_from-more, numbers_from-drop}
use Rattle.ic_sendring.proofs.Seen.{numbers_are, length-seen, seen-push, seen-drop, seen_order, All-seen}
use Rattle.ic_sendring.proofs.Block.{Fills, length-packets, packets-drop, seqs-drop, each_slot, in_stretch, packets_stay, all_in}

ring_with : (depth packet sealed sent : ℕ) (packets : List Packet) → seqs_of packets ≡ numbers_from (sealed + 1 - length packets) (length packets) → length packets ≤ sealed → sealed < 2 ^ 32 → length packets ≤ depth
    → All (λ (k : Kept). length k.packet.payload ≤ room_of packet) (seen sent packets) → IsRing (ring_of depth packet sealed sent packets)
ring_with depth packet sealed sent packets follow least greatest within fits =
    let long = length-seen sent packets in
    record {
      follow = numbers_are sent packets ∙ follow ∙ ap (λ n. numbers_from (sealed + 1 - n) n) (sym long);
      least = omega (arith, long, least);
      greatest = greatest;
      order = seen_order sent packets;
      within = omega (arith, long, within);
      fits = fits;
    }

pub sound_empty : (depth packet bytes : ℕ) → depth * room_of packet ≤ bytes → IsSound depth packet 0 0 [] depth [] bytes
sound_empty depth packet bytes enough = record {
  ring = ring_with depth packet 0 0 [] refl (omega arith) (omega arith) (omega arith) (λ k d lt. absurd (omega (arith, lt)));
  sent_within = omega arith;
  places = refl;
  bytes = enough;
  in_slots = λ k d lt. absurd (omega (arith, lt));
}

module _ (depth packet sealed sent : ℕ) (slots : List Slot) (places : ℕ) (block : List ℕ) (bytes : ℕ) (sound : IsSound depth packet sealed sent slots places block bytes) where
  pub long_of : length (seen sent (packets_of block slots)) ≡ length slots
  long_of = length-seen sent (packets_of block slots) ∙ length-packets block slots

  -- the numbers in memory follow each other
  pub follow_of : seqs_of (packets_of block slots) ≡ numbers_from (sealed + 1 - length (packets_of block slots)) (length (packets_of block slots))
  follow_of = sym (numbers_are sent (packets_of block slots)) ∙ sound.ring.follow ∙ ap (λ n. numbers_from (sealed + 1 - n) n) (length-seen sent (packets_of block slots))

  pub within_of : (length slots ≤ sealed) × (length slots ≤ depth)
  within_of =
      let long = long_of in
      (let low : length (seen sent (packets_of block slots)) ≤ sealed = sound.ring.least in omega (arith, low, long), let high : length (seen sent (packets_of block slots)) ≤ depth = sound.ring.within in omega (arith, high, long))

  pub slot_in : (i : ℕ) (s : Slot) → slice_get slots i ≡ Some s → IsIn depth (room_of packet) block s
  slot_in i s is = each_slot (IsIn depth (room_of packet) block) slots i s sound.in_slots is

  -- ---- sealing

  near_all : length slots < depth → AllByRecursion (λ (s : Slot). (1 ≤ s.seq) × (s.seq ≤ sealed) × (sealed < s.seq - 1 + depth)) slots
  near_all free =
      let low = within_of.0 in
      let long = length-packets block slots in
      let follow : seqs_of (packets_of block slots) ≡ numbers_from (sealed + 1 - length slots) (length slots) = follow_of ∙ ap (λ n. numbers_from (sealed + 1 - n) n) long in
      closer slots (in_stretch block (sealed + 1 - length slots) (sealed + 1) slots follow (omega (arith, low))) low free
    where
      closer : (more : List Slot) → AllByRecursion (λ (s : Slot). (sealed + 1 - length slots ≤ s.seq) × (s.seq < sealed + 1)) more → length slots ≤ sealed → length slots < depth
          → AllByRecursion (λ (s : Slot). (1 ≤ s.seq) × (s.seq ≤ sealed) × (sealed < s.seq - 1 + depth)) more
      closer [] all low free = tt
      closer (s ∷ more) all low free = ((omega (arith, all.0.0, low), omega (arith, all.0.1), omega (arith, all.0.0, low, free)), closer more all.1 low free)

  module _ (s : Slot) (now : List ℕ) (free : length slots < depth) (next : s.seq ≡ sealed + 1) (at : s.at ≡ (sealed % depth) * room_of packet) (fills : Fills s.at (room_of packet) block now) where
    pub packets_push : packets_of now (slots ++ s ∷ []) ≡ packets_of block slots ++ packet_of now s ∷ []
    packets_push =
        map-append (packet_of now) slots (s ∷ [])
        ∙ ap (λ l. l ++ packet_of now s ∷ []) (packets_stay depth (room_of packet) sealed block now s.at at fills slots (recursion_from_All (IsIn depth (room_of packet) block) slots sound.in_slots) (near_all free))

    pub sound_sealed : (more : ℕ) → s.seq < 2 ^ 32 → s.len ≤ room_of packet → s.at + room_of packet ≤ length now → length (packet_of now s).payload ≤ room_of packet → bytes ≤ more
        → IsSound depth packet s.seq sent (slots ++ s ∷ []) places now more
    sound_sealed more greatest short within fits up =
        let low = within_of.0 in
        let long = length-packets block slots in
        let longer = length_push (packets_of block slots) (packet_of now s) in
        let sent_low : sent ≤ length slots = sound.sent_within in
        let packets = packets_of block slots in
        record {
          ring = subst (λ l. IsRing (ring_of depth packet s.seq sent l)) (sym packets_push)
              (ring_with depth packet s.seq sent (packets ++ packet_of now s ∷ [])
              (map-append (λ (p : Packet). p.seq) packets (packet_of now s ∷ []) ∙ ap (λ l. l ++ s.seq ∷ []) follow_of
              ∙ ap (λ n. numbers_from (sealed + 1 - length packets) (length packets) ++ n ∷ []) (let here : s.seq ≡ (sealed + 1 - length packets) + length packets = omega (arith, next, low, long) in here)
              ∙ sym (numbers_from-more (sealed + 1 - length packets) (length packets))
              ∙ ap (λ n. numbers_from n (length packets + 1)) (let from : sealed + 1 - length packets ≡ s.seq + 1 - (length packets + 1) = omega (arith, next) in from)
              ∙ ap (λ n. numbers_from (s.seq + 1 - n) n) (sym longer))
              (omega (arith, longer, long, low, next)) greatest (omega (arith, longer, long, free))
              (subst (All (λ (k : Kept). length k.packet.payload ≤ room_of packet)) (sym (seen-push sent packets (packet_of now s) (omega (arith, sent_low, long))))
              (All-push (λ (k : Kept). length k.packet.payload ≤ room_of packet) (seen sent packets) (kept_of false (packet_of now s)) sound.ring.fits fits)));
          sent_within = let count = length_push slots s in omega (arith, count, sent_low);
          places = sound.places;
          bytes = let enough : depth * room_of packet ≤ bytes = sound.bytes in omega (arith, enough, up);
          in_slots = All-push (IsIn depth (room_of packet) now) slots s
              (All-from_recursion (IsIn depth (room_of packet) now) slots (all_in depth (room_of packet) sealed block now s.at at fills slots (recursion_from_All (IsIn depth (room_of packet) block) slots sound.in_slots)))
              (record { at = at ∙ ap (λ n. (n % depth) * room_of packet) (let before : sealed ≡ s.seq - 1 = omega (arith, next) in before); short = short; within = omega (arith, within, short) });
        }

  -- ---- sending

  pub sound_sent : (sent' : ℕ) → sent' ≤ length slots → IsSound depth packet sealed sent' slots places block bytes
  sound_sent sent' le =
      let long = length-packets block slots in
      record {
        ring = ring_with depth packet sealed sent' (packets_of block slots) follow_of (omega (arith, within_of.0, long)) sound.ring.greatest (omega (arith, within_of.1, long))
            (All-seen (λ (p : Packet). length p.payload ≤ room_of packet) sent sent' (packets_of block slots) sound.ring.fits);
        sent_within = le;
        places = sound.places;
        bytes = sound.bytes;
        in_slots = sound.in_slots;
      }

  -- ---- freeing

  pub packets_freed : seen (sent - 1) (packets_of block (drop 1 slots)) ≡ drop 1 (seen sent (packets_of block slots))
  packets_freed = ap (seen (sent - 1)) (packets-drop block slots) ∙ seen-drop sent (packets_of block slots)

  pub sound_freed : 0 < length slots → IsSound depth packet sealed (sent - 1) (drop 1 slots) places block bytes
  sound_freed some =
      let packets = packets_of block slots in
      let low = within_of.0 in
      let high = within_of.1 in
      let long = length-packets block slots in
      let less = length-drop 1 packets in
      let count = length-drop 1 slots in
      let sent_low : sent ≤ length slots = sound.sent_within in
      record {
        ring = subst (λ l. IsRing (ring_of depth packet sealed (sent - 1) l)) (sym (packets-drop block slots))
            (ring_with depth packet sealed (sent - 1) (drop 1 packets)
            (seqs-drop packets ∙ ap (drop 1) follow_of ∙ numbers_from-drop (sealed + 1 - length packets) (length packets)
            ∙ ap (λ n. numbers_from n (length packets - 1)) (let from : sealed + 1 - length packets + 1 ≡ sealed + 1 - (length packets - 1) = omega (arith, low, long, some) in from)
            ∙ ap (λ n. numbers_from (sealed + 1 - n) n) (sym less))
            (omega (arith, less, long, low)) sound.ring.greatest (omega (arith, less, long, high))
            (subst (All (λ (k : Kept). length k.packet.payload ≤ room_of packet)) (sym (seen-drop sent packets)) (All-drop (λ (k : Kept). length k.packet.payload ≤ room_of packet) 1 (seen sent packets) sound.ring.fits)));
        sent_within = omega (arith, count, sent_low);
        places = sound.places;
        bytes = sound.bytes;
        in_slots = All-drop (IsIn depth (room_of packet) block) 1 slots sound.in_slots;
      }
