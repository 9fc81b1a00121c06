-- Kept packets as they are seen, and what the calls do to them.
use Rattle.std.proofs.Common.{◌≡◌, ℕ, zero, suc, ◌+◌, ◌-◌, ◌<◌, ◌≤◌, ◌==◌, ltb, Bool, true, false, not, cond, List, [], ◌∷◌, ◌++◌, length, drop, Some, None, IsSome, slice_get, refl, ap, sym, ◌∙◌, arith, inl, inr, ◌⊎◌}
use Rattle.std.specs.List.{AllByRecursion, All, find}
use Rattle.std.specs.Option.{option_map}
use Rattle.std.proofs.lemmas.Bool.Decides.{eqb_tells, nat_tests}
use Rattle.std.proofs.lemmas.List.Elements.{All-from_recursion, recursion_from_All}
use Rattle.std.proofs.lemmas.Option.{slice_get_past}
use Rattle.ic_sendring.specs.Ring.{Packet, Kept, numbers, numbers_from, sent_ones, unsent_ones, with_sent, behind, bare}
use Rattle.ic_sendring.specs.Views.{kept_of, seen, seqs_of}

pub numbers_are : (n : ℕ) (packets : List Packet) → numbers (seen n packets) ≡ seqs_of packets
numbers_are zero [] = refl
numbers_are (suc n) [] = refl
numbers_are zero (s ∷ packets) = ap (λ l. s.seq ∷ l) (numbers_are zero packets)
numbers_are (suc n) (s ∷ packets) = ap (λ l. s.seq ∷ l) (numbers_are n packets)

pub length-seen : (n : ℕ) (packets : List Packet) → length (seen n packets) ≡ length packets
length-seen zero [] = refl
length-seen (suc n) [] = refl
length-seen zero (s ∷ packets) = ap suc (length-seen zero packets)
length-seen (suc n) (s ∷ packets) = ap suc (length-seen n packets)

pub seen-push : (n : ℕ) (packets : List Packet) (s : Packet) → n ≤ length packets → seen n (packets ++ s ∷ []) ≡ seen n packets ++ kept_of false s ∷ []
seen-push zero [] s le = refl
seen-push (suc n) [] s le = absurd (omega (arith, le))
seen-push zero (t ∷ packets) s le = ap (λ l. kept_of false t ∷ l) (seen-push zero packets s (omega arith))
seen-push (suc n) (t ∷ packets) s le = ap (λ l. kept_of true t ∷ l) (seen-push n packets s (omega (arith, le)))

pub seen-drop : (n : ℕ) (packets : List Packet) → seen (n - 1) (drop 1 packets) ≡ drop 1 (seen n packets)
seen-drop zero [] = refl
seen-drop (suc n) [] = refl
seen-drop zero (s ∷ packets) = refl
seen-drop (suc n) (s ∷ packets) = let less : suc n - 1 ≡ n = omega arith in ap (λ m. seen m packets) less

-- ---- sent before unsent

none_sent : (packets : List Packet) → sent_ones (seen zero packets) ≡ []
none_sent [] = refl
none_sent (s ∷ packets) = none_sent packets

all_unsent : (packets : List Packet) → unsent_ones (seen zero packets) ≡ seen zero packets
all_unsent [] = refl
all_unsent (s ∷ packets) = ap (λ l. kept_of false s ∷ l) (all_unsent packets)

pub seen_order : (n : ℕ) (packets : List Packet) → seen n packets ≡ sent_ones (seen n packets) ++ unsent_ones (seen n packets)
seen_order zero [] = refl
seen_order (suc n) [] = refl
seen_order zero (s ∷ packets) = sym (all_unsent (s ∷ packets)) ∙ ap (λ l. l ++ unsent_ones (seen zero (s ∷ packets))) (sym (none_sent (s ∷ packets)))
seen_order (suc n) (s ∷ packets) = ap (λ l. kept_of true s ∷ l) (seen_order n packets)

-- ---- the next unsent one

pub next_seen : (n : ℕ) (packets : List Packet) → find (λ (k : Kept). not k.sent) (seen n packets) ≡ option_map (kept_of false) (slice_get packets n)
next_seen zero [] = refl
next_seen (suc n) [] = refl
next_seen zero (s ∷ packets) = refl
next_seen (suc n) (s ∷ packets) = next_seen n packets

pub next_is : (n : ℕ) (packets : List Packet) (p : Packet) → slice_get packets n ≡ Some p → bare (find (λ (k : Kept). not k.sent) (seen n packets)) ≡ Some p
next_is n packets p is = ap bare (next_seen n packets ∙ ap (option_map (kept_of false)) is)

pub next_none : (n : ℕ) (packets : List Packet) → slice_get packets n ≡ None → bare (find (λ (k : Kept). not k.sent) (seen n packets)) ≡ None
next_none n packets is = ap bare (next_seen n packets ∙ ap (option_map (kept_of false)) is)

pub next_within : (n : ℕ) (packets : List Packet) → IsSome (bare (find (λ (k : Kept). not k.sent) (seen n packets))) → n + 1 ≤ length packets
next_within zero [] some = absurd (cc)
next_within (suc n) [] some = absurd (cc)
next_within zero (s ∷ packets) some = omega arith
next_within (suc n) (s ∷ packets) some = let later = next_within n packets some in omega (arith, later)

-- numbers without a gap from f on
pub head_is : (f : ℕ) (s : Packet) (packets : List Packet) → seqs_of (s ∷ packets) ≡ numbers_from f (length (s ∷ packets)) → s.seq ≡ f
head_is f s packets follow = cc

pub tail_is : (f : ℕ) (s : Packet) (packets : List Packet) → seqs_of (s ∷ packets) ≡ numbers_from f (length (s ∷ packets)) → seqs_of packets ≡ numbers_from (f + 1) (length packets)
tail_is f s packets follow = cc

apart : (seq other : ℕ) → other < seq → (seq == other) ≡ false
apart seq other lt = grind (arith, nat_tests)

same : (seq other : ℕ) → seq ≡ other → (seq == other) ≡ true
same seq other is = grind (arith, nat_tests)

-- a number below all of them marks none
none_marked : (f seq : ℕ) (packets : List Packet) → seqs_of packets ≡ numbers_from f (length packets) → seq < f → with_sent seq (seen zero packets) ≡ seen zero packets
none_marked f seq [] follow lt = refl
none_marked f seq (s ∷ packets) follow lt =
    let first = head_is f s packets follow in
    ap (λ b. (record { packet = s; sent = b }) ∷ with_sent seq (seen zero packets)) (apart s.seq seq (omega (arith, first, lt)))
    ∙ ap (λ l. kept_of false s ∷ l) (none_marked (f + 1) seq packets (tail_is f s packets follow) (omega (arith, lt)))

pub marked_next : (f n : ℕ) (packets : List Packet) (p : Packet) → seqs_of packets ≡ numbers_from f (length packets) → bare (find (λ (k : Kept). not k.sent) (seen n packets)) ≡ Some p → with_sent p.seq (seen n packets) ≡ seen (n + 1) packets
marked_next f zero [] p follow found = refl
marked_next f (suc n) [] p follow found = refl
marked_next f zero (s ∷ packets) p follow found =
    let here : s ≡ p = cc in
    let first = head_is f s packets follow in
    let its : s.seq ≡ p.seq = ap (λ (x : Packet). x.seq) here in
    ap (λ b. (record { packet = s; sent = b }) ∷ with_sent p.seq (seen zero packets)) (same s.seq p.seq its)
    ∙ ap (λ l. kept_of true s ∷ l) (none_marked (f + 1) p.seq packets (tail_is f s packets follow) (omega (arith, first, its)))
marked_next f (suc n) (s ∷ packets) p follow found =
    let more : suc n + 1 ≡ suc (n + 1) = omega arith in
    ap (λ l. kept_of true s ∷ l) (marked_next (f + 1) n packets p (tail_is f s packets follow) found) ∙ sym (ap (λ m. seen m (s ∷ packets)) more)

-- ---- by number

kept_slot : (n seq : ℕ) (packets : List Packet) → bare (find (λ (k : Kept). k.packet.seq == seq) (seen n packets)) ≡ find (λ (s : Packet). s.seq == seq) packets
kept_slot zero seq [] = refl
kept_slot (suc n) seq [] = refl
kept_slot zero seq (s ∷ packets) = by (s.seq == seq) (kept_slot zero seq packets)
  where
    by : (b : Bool) → bare (find (λ (k : Kept). k.packet.seq == seq) (seen zero packets)) ≡ find (λ (s : Packet). s.seq == seq) packets
        → bare (cond b (Some (kept_of false s)) (find (λ (k : Kept). k.packet.seq == seq) (seen zero packets))) ≡ cond b (Some s) (find (λ (s : Packet). s.seq == seq) packets)
    by true later = refl
    by false later = later
kept_slot (suc n) seq (s ∷ packets) = by (s.seq == seq) (kept_slot n seq packets)
  where
    by : (b : Bool) → bare (find (λ (k : Kept). k.packet.seq == seq) (seen n packets)) ≡ find (λ (s : Packet). s.seq == seq) packets
        → bare (cond b (Some (kept_of true s)) (find (λ (k : Kept). k.packet.seq == seq) (seen n packets))) ≡ cond b (Some s) (find (λ (s : Packet). s.seq == seq) packets)
    by true later = refl
    by false later = later

found_slot : (f seq : ℕ) (packets : List Packet) → seqs_of packets ≡ numbers_from f (length packets) → f ≤ seq → find (λ (s : Packet). s.seq == seq) packets ≡ slice_get packets (seq - f)
found_slot f seq [] follow le = by (seq - f)
  where
    by : (i : ℕ) → None ≡ slice_get {X = Packet} [] i
    by zero = refl
    by (suc i) = refl
found_slot f seq (s ∷ packets) follow le = by (seq - f) (s.seq == seq) refl (eqb_tells s.seq seq) (head_is f s packets follow) (found_slot (f + 1) seq packets (tail_is f s packets follow))
  where
    by : (i : ℕ) (b : Bool) → i ≡ seq - f → ((b ≡ true) × (s.seq ≡ seq)) ⊎ ((b ≡ false) × (s.seq ≡ seq → ⊥)) → s.seq ≡ f
        → (f + 1 ≤ seq → find (λ (s : Packet). s.seq == seq) packets ≡ slice_get packets (seq - (f + 1)))
        → cond b (Some s) (find (λ (s : Packet). s.seq == seq) packets) ≡ slice_get (s ∷ packets) i
    by zero b is (inl w) first later = ap (λ t. cond t (Some s) (find (λ (s : Packet). s.seq == seq) packets)) w.0
    by zero b is (inr w) first later = absurd (w.1 (omega (arith, is, first, le)))
    by (suc i) b is (inl w) first later = absurd (omega (arith, is, first, w.1))
    by (suc i) b is (inr w) first later =
        let less : seq - (f + 1) ≡ i = omega (arith, is) in
        ap (λ t. cond t (Some s) (find (λ (s : Packet). s.seq == seq) packets)) w.0 ∙ later (omega (arith, is)) ∙ ap (slice_get packets) less

pub found_at : (f n seq : ℕ) (packets : List Packet) → seqs_of packets ≡ numbers_from f (length packets) → f ≤ seq → bare (find (λ (k : Kept). k.packet.seq == seq) (seen n packets)) ≡ slice_get packets (seq - f)
found_at f n seq packets follow le = kept_slot n seq packets ∙ found_slot f seq packets follow le

-- a number below all of them is none's
none_slot : (f seq : ℕ) (packets : List Packet) → seqs_of packets ≡ numbers_from f (length packets) → seq < f → find (λ (s : Packet). s.seq == seq) packets ≡ None
none_slot f seq [] follow lt = refl
none_slot f seq (s ∷ packets) follow lt =
    let first = head_is f s packets follow in
    ap (λ t. cond t (Some s) (find (λ (s : Packet). s.seq == seq) packets)) (apart s.seq seq (omega (arith, first, lt))) ∙ none_slot (f + 1) seq packets (tail_is f s packets follow) (omega (arith, lt))

pub none_at : (f n seq : ℕ) (packets : List Packet) → seqs_of packets ≡ numbers_from f (length packets) → seq < f → bare (find (λ (k : Kept). k.packet.seq == seq) (seen n packets)) ≡ None
none_at f n seq packets follow lt = kept_slot n seq packets ∙ none_slot f seq packets follow lt

-- ---- freeing

kept_head : (f : ℕ) (k : Kept) (kept : List Kept) → numbers (k ∷ kept) ≡ numbers_from f (length (k ∷ kept)) → k.packet.seq ≡ f
kept_head f k kept follow = cc

kept_tail : (f : ℕ) (k : Kept) (kept : List Kept) → numbers (k ∷ kept) ≡ numbers_from f (length (k ∷ kept)) → numbers kept ≡ numbers_from (f + 1) (length kept)
kept_tail f k kept follow = cc

below : (a b : ℕ) → a < b → ltb a b ≡ true
below a b lt = grind (arith, nat_tests)

not_below : (a b : ℕ) → b ≤ a → ltb a b ≡ false
not_below a b le = grind (arith, nat_tests)

-- all are behind a lesser number
pub behind_all : (f upto : ℕ) (kept : List Kept) → numbers kept ≡ numbers_from f (length kept) → upto < f → behind upto kept ≡ kept
behind_all f upto [] follow lt = refl
behind_all f upto (k ∷ kept) follow lt =
    let first = kept_head f k kept follow in
    ap (λ b. cond b (k ∷ behind upto kept) (behind upto kept)) (below upto k.packet.seq (omega (arith, first, lt))) ∙ ap (λ l. k ∷ l) (behind_all (f + 1) upto kept (kept_tail f k kept follow) (omega (arith, lt)))

-- none is behind the last one
pub behind_none : (f upto : ℕ) (kept : List Kept) → numbers kept ≡ numbers_from f (length kept) → f + length kept ≤ upto + 1 → behind upto kept ≡ []
behind_none f upto [] follow le = refl
behind_none f upto (k ∷ kept) follow le =
    let first = kept_head f k kept follow in
    ap (λ b. cond b (k ∷ behind upto kept) (behind upto kept)) (not_below upto k.packet.seq (omega (arith, first, le))) ∙ behind_none (f + 1) upto kept (kept_tail f k kept follow) (omega (arith, le))

-- the first one stays where it is behind a number, and then all do
pub first_stays : (f n upto : ℕ) (packets : List Packet) (p : Packet) → seqs_of packets ≡ numbers_from f (length packets) → slice_get packets 0 ≡ Some p → upto < p.seq → behind upto (seen n packets) ≡ seen n packets
first_stays f zero upto [] p follow is lt = refl
first_stays f (suc n) upto [] p follow is lt = refl
first_stays f n upto (t ∷ packets) p follow is lt =
    let here : t ≡ p = cc in
    let same = ap (λ (x : Packet). x.seq) here in
    let first = head_is f t packets follow in
    behind_all f upto (seen n (t ∷ packets)) (numbers_are n (t ∷ packets) ∙ follow ∙ ap (numbers_from f) (sym (length-seen n (t ∷ packets)))) (omega (arith, same, first, lt))

pub first_goes : (n upto : ℕ) (packets : List Packet) (p : Packet) → slice_get packets 0 ≡ Some p → p.seq ≤ upto → behind upto (drop 1 (seen n packets)) ≡ behind upto (seen n packets)
first_goes n upto [] p is le = absurd (let bad : None ≡ Some p = is in cc)
first_goes zero upto (t ∷ packets) p is le =
    let here : t ≡ p = cc in
    let same = ap (λ (x : Packet). x.seq) here in
    sym (ap (λ b. cond b (kept_of false t ∷ behind upto (seen zero packets)) (behind upto (seen zero packets))) (not_below upto t.seq (omega (arith, same, le))))
first_goes (suc n) upto (t ∷ packets) p is le =
    let here : t ≡ p = cc in
    let same = ap (λ (x : Packet). x.seq) here in
    sym (ap (λ b. cond b (kept_of true t ∷ behind upto (seen n packets)) (behind upto (seen n packets))) (not_below upto t.seq (omega (arith, same, le))))

pub none_stays : (n upto : ℕ) (packets : List Packet) → slice_get packets 0 ≡ None → behind upto (seen n packets) ≡ seen n packets
none_stays zero upto [] is = refl
none_stays (suc n) upto [] is = refl
none_stays n upto (t ∷ packets) is = absurd (let bad : Some t ≡ None = is in cc)

-- the packet of a number that is kept
pub kept_is : (f n seq : ℕ) (packets : List Packet) (p : Packet) → seqs_of packets ≡ numbers_from f (length packets) → f ≤ seq → slice_get packets (seq - f) ≡ Some p → bare (find (λ (k : Kept). k.packet.seq == seq) (seen n packets)) ≡ Some p
kept_is f n seq packets p follow le is = found_at f n seq packets follow le ∙ is

pub kept_past : (f n seq : ℕ) (packets : List Packet) → seqs_of packets ≡ numbers_from f (length packets) → f ≤ seq → length packets ≤ seq - f → bare (find (λ (k : Kept). k.packet.seq == seq) (seen n packets)) ≡ None
kept_past f n seq packets follow le past = found_at f n seq packets follow le ∙ slice_get_past packets (seq - f) past

-- ---- their payloads

module _ (P : Packet → Type 0) where
  payloads_seen : (n : ℕ) (packets : List Packet) → AllByRecursion (λ (k : Kept). P k.packet) (seen n packets) → AllByRecursion P packets
  payloads_seen zero [] all = tt
  payloads_seen (suc n) [] all = tt
  payloads_seen zero (p ∷ packets) all = (all.0, payloads_seen zero packets all.1)
  payloads_seen (suc n) (p ∷ packets) all = (all.0, payloads_seen n packets all.1)

  seen_payloads : (n : ℕ) (packets : List Packet) → AllByRecursion P packets → AllByRecursion (λ (k : Kept). P k.packet) (seen n packets)
  seen_payloads zero [] all = tt
  seen_payloads (suc n) [] all = tt
  seen_payloads zero (p ∷ packets) all = (all.0, seen_payloads zero packets all.1)
  seen_payloads (suc n) (p ∷ packets) all = (all.0, seen_payloads n packets all.1)

  -- whether they were sent doesn't matter
  pub All-seen : (n m : ℕ) (packets : List Packet) → All (λ (k : Kept). P k.packet) (seen n packets) → All (λ (k : Kept). P k.packet) (seen m packets)
  All-seen n m packets all =
      All-from_recursion (λ (k : Kept). P k.packet) (seen m packets) (seen_payloads m packets (payloads_seen n packets (recursion_from_All (λ (k : Kept). P k.packet) (seen n packets) all)))
