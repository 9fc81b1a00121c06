-- What is stored in a ring, by its slots, and that it stays sound.
use Rattle.std.proofs.Common.{◌≡◌, ◌≢◌, ℕ, zero, suc, ◌+◌, ◌-◌, ◌<◌, ◌≤◌, ◌%◌, ◌==◌, min, max, true, false, not, List, [], ◌∷◌, ◌++◌, length, drop, get_or, set, cond, Option, Some, None, IsSome, is_some, slice_get, refl, ap, sym, ◌∙◌, subst, arith, append_assoc, inl, inr, ◌⊎◌}
use Rattle.std.specs.List.{All, Contains, filter, find}
use Rattle.std.proofs.lemmas.Bool.Decides.{leb_tells}
use Rattle.std.proofs.lemmas.List.{length-set}
use Rattle.std.proofs.lemmas.Option.{slice_get_read}
use Rattle.std.proofs.lemmas.List.Elements.{Contains-append_cases, Contains-append_left, Contains-append_right, All-from_recursion}
use Rattle.ic_recvring.specs.declared.slot.Slot.{Slot}
use Rattle.ic_recvring.specs.Numbers.{numbers_from, IsRunEnd, IsGreatest, has, missing}
use Rattle.ic_recvring.specs.Ring.{Packet, IsRing, empty, numbers, placed, stored_of, room_of, front_of, after_front, without, IsNew}
use Rattle.ic_recvring.specs.Views.{packet_in, looked, packet_at, is_absent, joined, window, ring_of}
use Rattle.ic_recvring.specs.Room.{IsSound, HasRoom, AreFree}
use Rattle.ic_recvring.proofs.Among.{numbers_in, numbers_bound, numbers_from-more, has_there, has_not}
use Rattle.ic_recvring.proofs.Runs.{run_end_is_one, greatest_is_one, consumed_in_run}
use Rattle.ic_recvring.proofs.Stretch.{same_window, no_window, window-more, increases, each, number_there, number_from, first_is, placed_window, window_without}
use Rattle.ic_recvring.proofs.Slots.{apart, wraps, set_here, All-set, each_slot, slot_of, named, some_packet, no_packet, read_slot, read_kept, read_free, kept_is, place_within, written_here, written_else, all_free}

-- ---- what is stored

module _ (depth packet consumed : ℕ) (slots : List Slot) where
  pub stored_low : (k : ℕ) → 1 ≤ k → k ≤ consumed → Contains (stored_of (ring_of depth packet consumed slots)) k
  stored_low k low high = Contains-append_left (numbers_from 1 consumed) (numbers (window (packet_at slots depth) (consumed + 1) depth)) k (numbers_in 1 consumed k low (omega (arith, high)))

  pub kept_there : (k : ℕ) → consumed < k → k ≤ consumed + depth → is_some (packet_at slots depth k) ≡ true → Contains (numbers (window (packet_at slots depth) (consumed + 1) depth)) k
  kept_there k low high is =
      let found = some_packet (packet_at slots depth k) is in
      number_there (packet_at slots depth) (named slots depth) (consumed + 1) depth k found.0 (omega (arith, low)) (omega (arith, high)) found.1

  pub stored_kept : (k : ℕ) → consumed < k → k ≤ consumed + depth → is_some (packet_at slots depth k) ≡ true → Contains (stored_of (ring_of depth packet consumed slots)) k
  stored_kept k low high is = Contains-append_right (numbers_from 1 consumed) (numbers (window (packet_at slots depth) (consumed + 1) depth)) k (kept_there k low high is)

  pub kept_from : (k : ℕ) → Contains (numbers (window (packet_at slots depth) (consumed + 1) depth)) k → (consumed < k) × (k ≤ consumed + depth) × (is_some (packet_at slots depth k) ≡ true)
  kept_from k h =
      let found = number_from (packet_at slots depth) (named slots depth) (consumed + 1) depth k h in
      (omega (arith, found.2), omega (arith, found.3), ap is_some found.1)

  pub stored_from : (k : ℕ) → Contains (stored_of (ring_of depth packet consumed slots)) k → ((1 ≤ k) × (k ≤ consumed)) ⊎ ((consumed < k) × (k ≤ consumed + depth) × (is_some (packet_at slots depth k) ≡ true))
  stored_from k h =
      elim (Contains-append_cases (numbers_from 1 consumed) (numbers (window (packet_at slots depth) (consumed + 1) depth)) k h) [
        | inl w ↦ let b = numbers_bound 1 consumed k w in inl (b.0, omega (arith, b.1))
        | inr w ↦ inr (kept_from k w)
      ]

  -- a number behind those consumed is stored where it has a packet
  pub stored_late : (k : ℕ) → consumed < k → Contains (stored_of (ring_of depth packet consumed slots)) k → (k ≤ consumed + depth) × (is_some (packet_at slots depth k) ≡ true)
  stored_late k late h = elim (stored_from k h) [ inl w ↦ absurd (omega (arith, late, w.1)) | inr w ↦ (w.1, w.2) ]

-- ---- a sound ring

module _ (depth packet consumed run top : ℕ) (slots : List Slot) (sound : IsSound depth packet consumed run top slots) where
  pub run_low : consumed ≤ run
  run_low = consumed_in_run consumed run (numbers (window (packet_at slots depth) (consumed + 1) depth)) sound.run_end

  pub run_within : run ≤ top
  run_within = elim (leb_tells run 0) [ inl w ↦ omega (arith, w.1) | inr w ↦ sound.greatest.bound run (sound.run_end.run run (omega (arith, w.1)) (omega arith)) ]

  pub top_near : top ≤ consumed + depth
  top_near = elim sound.greatest.here [
    | inl none ↦ omega (arith, none)
    | inr there ↦ elim (stored_from depth packet consumed slots top there) [ inl w ↦ omega (arith, w.1) | inr w ↦ w.1 ]
  ]

  pub top_low : consumed ≤ top
  top_low = let low = run_low in let up = run_within in omega (arith, low, up)

  -- the run goes over kept packets
  pub in_run : (k : ℕ) → consumed < k → k ≤ run → (k ≤ consumed + depth) × (is_some (packet_at slots depth k) ≡ true)
  in_run k low high = stored_late depth packet consumed slots k low (sound.run_end.run k (omega (arith, low)) high)

  pub behind_run : is_some (packet_at slots depth (run + 1)) ≡ true → run < consumed + depth → ⊥
  behind_run is near = let low = run_low in sound.run_end.end (stored_kept depth packet consumed slots (run + 1) (omega (arith, low)) (omega (arith, near)) is)

  -- a number behind the run that has no packet is new
  pub is_new : (n r : ℕ) → run < n → (n ≤ consumed + depth → is_some (packet_at slots depth n) ≡ true → ⊥) → IsRunEnd (stored_of (ring_of depth packet consumed slots)) r → IsNew (ring_of depth packet consumed slots) r n
  is_new n r later none one =
      let same = run_end_is_one (stored_of (ring_of depth packet consumed slots)) run r sound.run_end one in
      (omega (arith, later, same), λ h. let found = kept_from depth packet consumed slots n h in none found.1 found.2)

  pub slot_room : (i : ℕ) (s : Slot) → i < length slots → s ≡ get_or slots i s → HasRoom (room_of packet) s
  slot_room i s lt is = each_slot (HasRoom (room_of packet)) slots i s sound.rooms (slice_get_read slots (length slots) i s refl lt is)

  room_in : (k : ℕ) (p : Packet) → packet_at slots depth k ≡ Some p → length p.payload ≤ room_of packet
  room_in k p is =
      let found = slot_of slots depth k p is in
      subst (λ (x : Packet). length x.payload ≤ room_of packet) (sym found.2) (each_slot (HasRoom (room_of packet)) slots (k % depth) found.0 sound.rooms found.1).1

  pub is_ring : IsRing (ring_of depth packet consumed slots)
  is_ring = record {
    ahead = increases (packet_at slots depth) (named slots depth) consumed (consumed + 1) depth (omega arith);
    near = All-from_recursion (λ (p : Packet). p.seq ≤ consumed + depth) (window (packet_at slots depth) (consumed + 1) depth)
        (each (packet_at slots depth) (named slots depth) (λ (p : Packet). p.seq ≤ consumed + depth) (consumed + 1) depth (λ k p lt is. let at = named slots depth k p is in omega (arith, lt, at)));
    fits = All-from_recursion (λ (p : Packet). length p.payload ≤ room_of packet) (window (packet_at slots depth) (consumed + 1) depth)
        (each (packet_at slots depth) (named slots depth) (λ (p : Packet). length p.payload ≤ room_of packet) (consumed + 1) depth (λ k p lt is. room_in k p is));
  }

  -- ---- the front

  pub front_is : 0 < depth → front_of (ring_of depth packet consumed slots) ≡ packet_at slots depth (consumed + 1)
  front_is pos = by depth refl pos
    where
      by : (d : ℕ) → depth ≡ d → 0 < d → find (λ (p : Packet). p.seq == consumed + 1) (window (packet_at slots depth) (consumed + 1) d) ≡ packet_at slots depth (consumed + 1)
      by zero e pos = absurd (omega (arith, pos))
      by (suc d) e pos = first_is (packet_at slots depth) (named slots depth) (consumed + 1) d

  pub front_none : run ≤ consumed → front_of (ring_of depth packet consumed slots) ≡ None
  front_none le = elim (leb_tells depth 0) [
    | inl w ↦ let none : depth ≡ 0 = omega (arith, w.1) in ap (λ d. find (λ (p : Packet). p.seq == consumed + 1) (window (packet_at slots depth) (consumed + 1) d)) none
    | inr w ↦ front_is (omega (arith, w.1)) ∙ no_packet (packet_at slots depth (consumed + 1)) (absent (is_some (packet_at slots depth (consumed + 1))) refl (omega (arith, w.1)))
  ]
    where
      absent : (b : _) → is_some (packet_at slots depth (consumed + 1)) ≡ b → 0 < depth → b ≡ false
      absent true e pos = let same : consumed + 1 ≡ run + 1 = (let low = run_low in omega (arith, le, low)) in absurd (behind_run (ap (λ k. is_some (packet_at slots depth k)) (sym same) ∙ e) (omega (arith, pos, le)))
      absent false e pos = refl

  -- where there is a front, the run has gone on
  pub front_some : IsSome (front_of (ring_of depth packet consumed slots)) → consumed < run
  front_some some = elim (leb_tells run consumed) [
    | inl w ↦ absurd (let nothing : IsSome {T = Packet} None = subst IsSome (front_none w.1) some in (let bad : false ≡ true = nothing in cc))
    | inr w ↦ w.1
  ]

  -- ---- the numbers that are missing

  pub absent_ones : (n count : ℕ) → consumed < n → n + count ≤ consumed + depth + 1 → filter (is_absent slots depth) (numbers_from n count) ≡ filter (λ k. not (has (stored_of (ring_of depth packet consumed slots)) k)) (numbers_from n count)
  absent_ones n zero low high = refl
  absent_ones n (suc count) low high =
      ap (λ b. cond (not b) (n ∷ filter (is_absent slots depth) (numbers_from (n + 1) count)) (filter (is_absent slots depth) (numbers_from (n + 1) count))) (agree (is_some (packet_at slots depth n)) refl)
      ∙ ap (λ l. cond (not (has (stored_of (ring_of depth packet consumed slots)) n)) (n ∷ l) l) (absent_ones (n + 1) count (omega (arith, low)) (omega (arith, high)))
    where
      agree : (b : _) → is_some (packet_at slots depth n) ≡ b → b ≡ has (stored_of (ring_of depth packet consumed slots)) n
      agree true e = sym (has_there (stored_of (ring_of depth packet consumed slots)) n (stored_kept depth packet consumed slots n low (omega (arith, high)) e))
      agree false e = sym (has_not (stored_of (ring_of depth packet consumed slots)) n (λ h. let is = (stored_late depth packet consumed slots n low h).1 in let bad : false ≡ true = sym e ∙ is in cc))

  pub are_missing : (r g : ℕ) → IsRunEnd (stored_of (ring_of depth packet consumed slots)) r → IsGreatest (stored_of (ring_of depth packet consumed slots)) g
      → filter (is_absent slots depth) (numbers_from (run + 1) (top - run)) ≡ missing (stored_of (ring_of depth packet consumed slots)) r g
  are_missing r g one most =
      let s = stored_of (ring_of depth packet consumed slots) in
      absent_ones (run + 1) (top - run) (let low = run_low in omega (arith, low)) (let near = top_near in let up = run_within in omega (arith, near, up))
      ∙ ap (λ n. missing s n top) (run_end_is_one s run r sound.run_end one)
      ∙ ap (missing s r) (greatest_is_one s top g sound.greatest most)

-- ---- a ring with other slots

-- where it keeps what was in the run, the run ends where it can't go on
pub run_end_on : (depth packet consumed run end top : ℕ) (slots : List Slot)
    → ((k : ℕ) → 1 ≤ k → k ≤ run → Contains (stored_of (ring_of depth packet consumed slots)) k) → IsGreatest (stored_of (ring_of depth packet consumed slots)) top
    → consumed ≤ run → end ≤ top → top ≤ consumed + depth
    → ((k : ℕ) → run < k → k ≤ end → is_some (packet_at slots depth k) ≡ true) → run ≤ end → (end < top → is_some (packet_at slots depth (end + 1)) ≡ false)
    → IsRunEnd (stored_of (ring_of depth packet consumed slots)) end
run_end_on depth packet consumed run end top slots keeps most low within near on up stops = record {
  run = λ k one high. elim (leb_tells k run) [
    | inl w ↦ keeps k one w.1
    | inr w ↦ stored_kept depth packet consumed slots k (omega (arith, low, w.1)) (omega (arith, high, within, near)) (on k w.1 high)
  ];
  end = λ h. elim (leb_tells (suc end) top) [
    | inl w ↦
        let is = (stored_late depth packet consumed slots (end + 1) (omega (arith, low, up)) h).1 in
        let out = stops w.1 in
        let bad : true ≡ false = sym is ∙ out in cc
    | inr w ↦ let le = most.bound (end + 1) h in omega (arith, le, w.1)
  ];
}

-- ---- the front

module _ (depth packet consumed run top : ℕ) (slots : List Slot) (sound : IsSound depth packet consumed run top slots) where
  pub deep : consumed < run → 0 < depth
  deep lt = let within = (in_run depth packet consumed run top slots sound (consumed + 1) (omega arith) (omega (arith, lt))).0 in omega (arith, within)

  front_there : consumed < run → is_some (packet_at slots depth (consumed + 1)) ≡ true
  front_there lt = (in_run depth packet consumed run top slots sound (consumed + 1) (omega arith) (omega (arith, lt))).1

  pub front_read : (s : Slot) → consumed < run → slice_get slots ((consumed + 1) % depth) ≡ Some s
      → front_of (ring_of depth packet consumed slots) ≡ Some (record { seq = consumed + 1; last = s.last; payload = s.payload.items })
  front_read s lt is =
      let read = read_slot slots depth (consumed + 1) s is in
      let kept : s.kept ≡ true = kept_is (consumed + 1) s ∙ ap is_some (sym read) ∙ front_there lt in
      front_is depth packet consumed run top slots sound (deep lt) ∙ read ∙ read_kept (consumed + 1) s kept

  -- the front is the first one kept
  pub front_first : consumed < run → (p : Packet) × (window (packet_at slots depth) (consumed + 1) depth ≡ p ∷ drop 1 (window (packet_at slots depth) (consumed + 1) depth)) × (p.seq ≡ consumed + 1)
      × (front_of (ring_of depth packet consumed slots) ≡ slice_get (window (packet_at slots depth) (consumed + 1) depth) 0)
  front_first lt = by depth refl (deep lt)
    where
      found : (p : Packet) × (packet_at slots depth (consumed + 1) ≡ Some p)
      found = some_packet (packet_at slots depth (consumed + 1)) (front_there lt)

      by : (d : ℕ) → depth ≡ d → 0 < d → (p : Packet) × (window (packet_at slots depth) (consumed + 1) d ≡ p ∷ drop 1 (window (packet_at slots depth) (consumed + 1) d)) × (p.seq ≡ consumed + 1)
          × (find (λ (q : Packet). q.seq == consumed + 1) (window (packet_at slots depth) (consumed + 1) d) ≡ slice_get (window (packet_at slots depth) (consumed + 1) d) 0)
      by zero e pos = absurd (omega (arith, pos))
      by (suc d) e pos =
          let first : window (packet_at slots depth) (consumed + 1) (suc d) ≡ found.0 ∷ window (packet_at slots depth) (consumed + 1 + 1) d = ap (λ o. joined o (window (packet_at slots depth) (consumed + 1 + 1) d)) found.1 in (
            found.0,
            first ∙ ap (λ l. found.0 ∷ drop 1 l) (sym first),
            named slots depth (consumed + 1) found.0 found.1,
            first_is (packet_at slots depth) (named slots depth) (consumed + 1) d ∙ found.1 ∙ ap (λ l. slice_get l 0) (sym first),
          )

  -- ---- consuming

  pub next_window : (free : Slot) → free.kept ≡ false → consumed < run
      → window (packet_at (set slots ((consumed + 1) % depth) free) depth) (consumed + 1 + 1) depth ≡ drop 1 (window (packet_at slots depth) (consumed + 1) depth)
  next_window free is lt = by depth refl (deep lt)
    where
      now : ℕ → Option Packet
      now = packet_at (set slots ((consumed + 1) % depth) free) depth

      late : now (consumed + 1 + depth) ≡ None
      late =
          let same = wraps (consumed + 1) depth in
          ap (λ i. looked (consumed + 1 + depth) (slice_get (set slots ((consumed + 1) % depth) free) i)) same
          ∙ ap (looked (consumed + 1 + depth)) (set_here slots ((consumed + 1) % depth) free (place_within slots depth (consumed + 1) sound.count (deep lt)))
          ∙ read_free (consumed + 1 + depth) free is

      by : (d : ℕ) → depth ≡ d → 0 < d → window now (consumed + 1 + 1) d ≡ drop 1 (window (packet_at slots depth) (consumed + 1) d)
      by zero e pos = absurd (omega (arith, pos))
      by (suc d) e pos =
          let found = some_packet (packet_at slots depth (consumed + 1)) (front_there lt) in
          let end : consumed + 1 + 1 + d ≡ consumed + 1 + depth = omega (arith, e) in
          window-more now (consumed + 1 + 1) d (ap now end ∙ late)
          ∙ same_window now (packet_at slots depth) (consumed + 1 + 1) d (λ k low high.
          written_else slots depth (consumed + 1) k free (apart consumed depth k (consumed + 1) (omega (arith, low)) (omega (arith, high, e)) (omega arith) (omega (arith, e)) (λ same. omega (arith, same, low))))
          ∙ ap (λ o. drop 1 (joined o (window (packet_at slots depth) (consumed + 1 + 1) d))) (sym found.1)

  pub ring_next : (free : Slot) → free.kept ≡ false → consumed < run → ring_of depth packet (consumed + 1) (set slots ((consumed + 1) % depth) free) ≡ after_front (ring_of depth packet consumed slots)
  ring_next free is lt = ap (λ l. record { consumed = consumed + 1; kept = l; depth = depth; packet = packet }) (next_window free is lt)

  pub stored_next : consumed < run → stored_of (after_front (ring_of depth packet consumed slots)) ≡ stored_of (ring_of depth packet consumed slots)
  stored_next lt =
      let first = front_first lt in
      let rest = drop 1 (window (packet_at slots depth) (consumed + 1) depth) in
      let at : 1 + consumed ≡ first.0.seq = omega (arith, first.2) in
      ap (λ l. l ++ numbers rest) (numbers_from-more 1 consumed)
      ∙ append_assoc (numbers_from 1 consumed) ((1 + consumed) ∷ []) (numbers rest)
      ∙ ap (λ n. numbers_from 1 consumed ++ n ∷ numbers rest) at
      ∙ ap (λ l. numbers_from 1 consumed ++ numbers l) (sym first.1)

  pub sound_next : (free : Slot) → free.kept ≡ false → HasRoom (room_of packet) free → consumed < run → IsSound depth packet (consumed + 1) run top (set slots ((consumed + 1) % depth) free)
  sound_next free is room lt =
      let same : stored_of (ring_of depth packet (consumed + 1) (set slots ((consumed + 1) % depth) free)) ≡ stored_of (ring_of depth packet consumed slots) = ap stored_of (ring_next free is lt) ∙ stored_next lt in
      record {
        count = length-set slots ((consumed + 1) % depth) free ∙ sound.count;
        rooms = All-set (HasRoom (room_of packet)) slots ((consumed + 1) % depth) free sound.rooms room;
        run_end = subst (λ l. IsRunEnd l run) (sym same) sound.run_end;
        greatest = subst (λ l. IsGreatest l top) (sym same) sound.greatest;
      }

  -- ---- taking back

  module _ (n : ℕ) (there : Contains (numbers (window (packet_at slots depth) (consumed + 1) depth)) n) (free : Slot) (is : free.kept ≡ false) where
    now_slots : List Slot
    now_slots = set slots (n % depth) free

    at_n : (consumed < n) × (n ≤ consumed + depth) × (is_some (packet_at slots depth n) ≡ true)
    at_n = kept_from depth packet consumed slots n there

    gone : packet_at (set slots (n % depth) free) depth n ≡ None
    gone = let b = at_n in written_here slots depth n free sound.count (omega (arith, b.0, b.1)) ∙ read_free n free is

    stays : (k : ℕ) → k ≢ n → consumed < k → k ≤ consumed + depth → packet_at (set slots (n % depth) free) depth k ≡ packet_at slots depth k
    stays k other low high = let b = at_n in written_else slots depth n k free (apart consumed depth k n low high b.0 b.1 other)

    pub ring_without : ring_of depth packet consumed (set slots (n % depth) free) ≡ without n (ring_of depth packet consumed slots)
    ring_without = ap (λ l. record { consumed = consumed; kept = l; depth = depth; packet = packet })
        (window_without (packet_at slots depth) (packet_at (set slots (n % depth) free) depth) (named slots depth) n gone (consumed + 1) depth (λ k other low high. stays k other (omega (arith, low)) (omega (arith, high))))

    -- what is stored is what was, but for n
    still : (k : ℕ) → k ≢ n → Contains (stored_of (ring_of depth packet consumed slots)) k → Contains (stored_of (ring_of depth packet consumed (set slots (n % depth) free))) k
    still k other h = elim (stored_from depth packet consumed slots k h) [
      | inl w ↦ stored_low depth packet consumed (set slots (n % depth) free) k w.0 w.1
      | inr w ↦ stored_kept depth packet consumed (set slots (n % depth) free) k w.0 w.1 (ap is_some (stays k other w.0 w.1) ∙ w.2)
    ]

    was : (k : ℕ) → Contains (stored_of (ring_of depth packet consumed (set slots (n % depth) free))) k → Contains (stored_of (ring_of depth packet consumed slots)) k × (k ≢ n)
    was k h = elim (stored_from depth packet consumed (set slots (n % depth) free) k h) [
      | inl w ↦ (stored_low depth packet consumed slots k w.0 w.1, λ same. let b = at_n in omega (arith, same, w.1, b.0))
      | inr w ↦ (
        stored_kept depth packet consumed slots k w.0 w.1 (ap is_some (sym (stays k (other k w.2) w.0 w.1)) ∙ w.2),
        other k w.2,
      )
    ]
      where
        other : (k : ℕ) → is_some (packet_at (set slots (n % depth) free) depth k) ≡ true → k ≢ n
        other k found same = let bad : true ≡ false = sym found ∙ ap (λ j. is_some (packet_at (set slots (n % depth) free) depth j)) same ∙ ap is_some gone in cc

    run_end_back : (end : ℕ) → end ≡ min run (n - 1) → IsRunEnd (stored_of (ring_of depth packet consumed (set slots (n % depth) free))) end
    run_end_back end at = record {
      run = λ k low high. still k (λ same. omega (arith, same, high, at, low)) (sound.run_end.run k low (omega (arith, high, at)));
      end = λ h.
          let w = was (end + 1) h in
          let b = at_n in
          elim (leb_tells n run) [
            | inl le ↦ w.1 (let cut : end + 1 ≡ n = omega (arith, at, le.1, b.0) in cut)
            | inr gt ↦ sound.run_end.end (subst (Contains (stored_of (ring_of depth packet consumed slots))) (let same : end + 1 ≡ run + 1 = omega (arith, at, gt.1) in same) w.0)
          ];
    }

    greatest_back : (most : ℕ) → consumed ≤ most → most ≤ top → (consumed < most → is_some (packet_at (set slots (n % depth) free) depth most) ≡ true)
        → ((k : ℕ) → most < k → k ≤ top → is_some (packet_at (set slots (n % depth) free) depth k) ≡ false) → IsGreatest (stored_of (ring_of depth packet consumed (set slots (n % depth) free))) most
    greatest_back most low within here none = record {
      bound = λ k h. elim (leb_tells k most) [
        | inl w ↦ w.1
        | inr w ↦
            let old = sound.greatest.bound k (was k h).0 in
            let found = (stored_late depth packet consumed (set slots (n % depth) free) k (omega (arith, low, w.1)) h).1 in
            let out = none k w.1 old in
            absurd (let bad : true ≡ false = sym found ∙ out in cc)
      ];
      here = elim (leb_tells most consumed) [
        | inl w ↦ elim (leb_tells most 0) [
          | inl v ↦ inl (omega (arith, v.1))
          | inr v ↦ inr (stored_low depth packet consumed (set slots (n % depth) free) most (omega (arith, v.1)) w.1)
        ]
        | inr w ↦ inr (stored_kept depth packet consumed (set slots (n % depth) free) most w.1 (let near = top_near depth packet consumed run top slots sound in omega (arith, near, within)) (here w.1))
      ];
    }

    pub sound_back : HasRoom (room_of packet) free → (end most : ℕ) → end ≡ min run (n - 1) → consumed ≤ most → most ≤ top
        → (consumed < most → is_some (packet_at (set slots (n % depth) free) depth most) ≡ true) → ((k : ℕ) → most < k → k ≤ top → is_some (packet_at (set slots (n % depth) free) depth k) ≡ false)
        → IsSound depth packet consumed end most (set slots (n % depth) free)
    sound_back room end most at low within here none = record {
      count = length-set slots (n % depth) free ∙ sound.count;
      rooms = All-set (HasRoom (room_of packet)) slots (n % depth) free sound.rooms room;
      run_end = run_end_back end at;
      greatest = greatest_back most low within here none;
    }

  -- ---- storing

  module _ (n : ℕ) (p : Packet) (full : Slot) (seq : p.seq ≡ n) (is : packet_in n full ≡ Some p) (later : run < n) (near : n ≤ consumed + depth) (new : is_some (packet_at slots depth n) ≡ false) where
    low_n : consumed < n
    low_n = let low = run_low depth packet consumed run top slots sound in omega (arith, low, later)

    here_n : packet_at (set slots (n % depth) full) depth n ≡ Some p
    here_n = let low = low_n in written_here slots depth n full sound.count (omega (arith, low, near)) ∙ is

    others : (k : ℕ) → k ≢ n → consumed < k → k ≤ consumed + depth → packet_at (set slots (n % depth) full) depth k ≡ packet_at slots depth k
    others k other low high = written_else slots depth n k full (apart consumed depth k n low high low_n near other)

    pub ring_placed : ring_of depth packet consumed (set slots (n % depth) full) ≡ record (ring_of depth packet consumed slots) { kept = placed p (window (packet_at slots depth) (consumed + 1) depth) }
    ring_placed = let low = low_n in ap (λ l. record { consumed = consumed; kept = l; depth = depth; packet = packet })
        (placed_window (packet_at slots depth) (packet_at (set slots (n % depth) full) depth) (named slots depth) n p (no_packet (packet_at slots depth n) new) here_n seq (consumed + 1) depth
        (λ k other from to. others k other (omega (arith, from)) (omega (arith, to))) (omega (arith, low)) (omega (arith, near)))

    grown : (k : ℕ) → Contains (stored_of (ring_of depth packet consumed slots)) k → Contains (stored_of (ring_of depth packet consumed (set slots (n % depth) full))) k
    grown k h = elim (stored_from depth packet consumed slots k h) [
      | inl w ↦ stored_low depth packet consumed (set slots (n % depth) full) k w.0 w.1
      | inr w ↦ stored_kept depth packet consumed (set slots (n % depth) full) k w.0 w.1 (ap is_some (others k (λ same. let bad : true ≡ false = sym w.2 ∙ ap (λ j. is_some (packet_at slots depth j)) same ∙ new in cc) w.0 w.1) ∙ w.2)
    ]

    here_stored : Contains (stored_of (ring_of depth packet consumed (set slots (n % depth) full))) n
    here_stored = stored_kept depth packet consumed (set slots (n % depth) full) n low_n near (ap is_some here_n)

    greatest_more : (most : ℕ) → most ≡ max top n → IsGreatest (stored_of (ring_of depth packet consumed (set slots (n % depth) full))) most
    greatest_more most at = record {
      bound = λ k h. elim (leb_tells k n) [
        | inl w ↦ omega (arith, w.1, at)
        | inr w ↦
            let low = low_n in
            let found = stored_late depth packet consumed (set slots (n % depth) full) k (omega (arith, low, w.1)) h in
            let old = sound.greatest.bound k (stored_kept depth packet consumed slots k (omega (arith, low, w.1)) found.0 (ap is_some (sym (others k (λ same. omega (arith, same, w.1)) (omega (arith, low, w.1)) found.0)) ∙ found.1)) in
            omega (arith, old, at)
      ];
      here = elim (leb_tells top n) [
        | inl w ↦ let same : n ≡ most = omega (arith, at, w.1) in inr (subst (Contains (stored_of (ring_of depth packet consumed (set slots (n % depth) full)))) same here_stored)
        | inr w ↦ let same : top ≡ most = omega (arith, at, w.1) in elim sound.greatest.here [
          | inl none ↦ absurd (omega (arith, none, w.1))
          | inr there ↦ inr (subst (Contains (stored_of (ring_of depth packet consumed (set slots (n % depth) full)))) same (grown top there))
        ]
      ];
    }

    pub sound_stored : HasRoom (room_of packet) full → (end most : ℕ) → most ≡ max top n → run ≤ end → end ≤ most
        → ((k : ℕ) → run < k → k ≤ end → is_some (packet_at (set slots (n % depth) full) depth k) ≡ true) → (end < most → is_some (packet_at (set slots (n % depth) full) depth (end + 1)) ≡ false)
        → IsSound depth packet consumed end most (set slots (n % depth) full)
    sound_stored room end most at up within on stops = record {
      count = length-set slots (n % depth) full ∙ sound.count;
      rooms = All-set (HasRoom (room_of packet)) slots (n % depth) full sound.rooms room;
      run_end = run_end_on depth packet consumed run end most (set slots (n % depth) full) (λ k low high. grown k (sound.run_end.run k low high)) (greatest_more most at) (run_low depth packet consumed run top slots sound) within
          (let edge = top_near depth packet consumed run top slots sound in omega (arith, edge, near, at)) on up stops;
      greatest = greatest_more most at;
    }

-- ---- a new ring

pub sound_empty : (depth packet : ℕ) (slots : List Slot) → length slots ≡ depth → All (HasRoom (room_of packet)) slots → AreFree slots → IsSound depth packet 0 0 0 slots
sound_empty depth packet slots count rooms free = record {
  count = count;
  rooms = rooms;
  run_end = record { run = λ n low high. absurd (omega (arith, low, high)); end = λ h. nothing 1 h };
  greatest = record { bound = λ n h. absurd (nothing n h); here = inl refl };
}
  where
    nothing : (n : ℕ) → Contains (stored_of (ring_of depth packet 0 slots)) n → ⊥
    nothing n h = elim (stored_from depth packet 0 slots n h) [
      | inl w ↦ omega (arith, w.0, w.1)
      | inr w ↦ let bad : true ≡ false = sym w.2 ∙ ap is_some (all_free slots depth n free) in cc
    ]

pub ring_empty : (depth packet : ℕ) (slots : List Slot) → AreFree slots → ring_of depth packet 0 slots ≡ empty depth packet
ring_empty depth packet slots free = ap (λ l. record { consumed = 0; kept = l; depth = depth; packet = packet }) (no_window (packet_at slots depth) 1 depth (λ k. all_free slots depth k free))
