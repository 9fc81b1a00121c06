-- A merge goes on if more comes of a stream that hasn't ended; and it is the merge that the meaning of plans has.
use Rattle.std.proofs.Common.{◌≡◌, ℕ, zero, suc, ◌+◌, length, List, [], ◌∷◌, ◌++◌, Bool, true, false, ◌||◌, cond, refl, ap, sym, ◌∙◌, subst, append_assoc, arith}
use Rattle.std.proofs.lemmas.List.{length-append}
use Rattle.pl_ops.specs.Rows.{Line}
use Rattle.pl_ops.specs.Streams.{Stream}
use Rattle.pl_ops.specs.Merging.{Choice, Waits, Over, Gives, beside, skipped, by_head, choice_of, going_on, merge_stream}
use Rattle.pl_mean.specs.Merging.{left_by, left_after}
use Rattle.ic_motion.specs.Hearing.{Merged, begins, goes_on}
use Rattle.ic_motion.proofs.Picks.{IsOpen}

-- ---- more comes of one stream

unfoldable pub grow : ℕ → List Line → Bool → List Stream → List Stream
grow k more end [] = []
grow zero more end (s ∷ streams) = record { rows = s.rows ++ more; ended = s.ended || end } ∷ streams
grow (suc k) more end (s ∷ streams) = s ∷ grow k more end streams

-- a row is chosen, so it is of a stream that has one
IsRow : Choice → Type 0
IsRow Waits = ⊥
IsRow Over = Unit {0}
IsRow (Gives row left) = Unit {0}

-- what the choice is after more came of the stream at a place
grown : ℕ → List Line → Bool → Choice → Choice
grown k more end Waits = Waits
grown k more end Over = Over
grown k more end (Gives row left) = Gives row (grow k more end left)

beside_row : (before : Line → Line → Bool) (head : Line) (rest : Stream) (streams : List Stream) (c : Choice) → IsRow (beside before head rest streams c) → IsRow c
unfolding IsRow
beside_row before head rest streams Waits h = h
beside_row before head rest streams Over h = tt
beside_row before head rest streams (Gives row left) h = tt

skipped_row : (c : Choice) → IsRow (skipped c) → IsRow c
unfolding IsRow
skipped_row Waits h = h
skipped_row Over h = tt
skipped_row (Gives row left) h = tt

here : (before : Line → Line → Bool) (rows more : List Line) (end : Bool) (streams : List Stream) (c : Choice) → IsRow (by_head before rows false streams c)
    → by_head before (rows ++ more) (false || end) streams c ≡ grown zero more end (by_head before rows false streams c)
unfolding IsRow grown grow
here before [] more end streams c h = absurd h
here before (row ∷ rows) more end streams Waits h = absurd h
here before (row ∷ rows) more end streams Over h = refl
here before (row ∷ rows) more end streams (Gives other left) h = by (before other row)
  where
    by : (b : Bool) → cond b (Gives other (record { rows = row ∷ (rows ++ more); ended = false || end } ∷ left)) (Gives row (record { rows = rows ++ more; ended = false || end } ∷ streams))
        ≡ grown zero more end (cond b (Gives other (record { rows = row ∷ rows; ended = false } ∷ left)) (Gives row (record { rows = rows; ended = false } ∷ streams)))
    by true = refl
    by false = refl

there : (before : Line → Line → Bool) (k : ℕ) (rows more : List Line) (ended end : Bool) (streams : List Stream) (c : Choice) → IsRow c
    → by_head before rows ended (grow k more end streams) (grown k more end c) ≡ grown (suc k) more end (by_head before rows ended streams c)
unfolding IsRow grown grow
there before k rows more ended end streams Waits h = absurd h
there before k [] more true end streams Over h = refl
there before k [] more false end streams Over h = refl
there before k (row ∷ rows) more ended end streams Over h = refl
there before k [] more true end streams (Gives other left) h = refl
there before k [] more false end streams (Gives other left) h = refl
there before k (row ∷ rows) more ended end streams (Gives other left) h = by (before other row)
  where
    by : (b : Bool) → cond b (Gives other (record { rows = row ∷ rows; ended = ended } ∷ grow k more end left)) (Gives row (record { rows = rows; ended = ended } ∷ grow k more end streams))
        ≡ grown (suc k) more end (cond b (Gives other (record { rows = row ∷ rows; ended = ended } ∷ left)) (Gives row (record { rows = rows; ended = ended } ∷ streams)))
    by true = refl
    by false = refl

tail_row : (before : Line → Line → Bool) (rows : List Line) (ended : Bool) (streams : List Stream) (c : Choice) → IsRow (by_head before rows ended streams c) → IsRow c
unfolding IsRow
tail_row before [] true streams c h = skipped_row c h
tail_row before [] false streams c h = absurd h
tail_row before (row ∷ rows) ended streams c h = beside_row before row (record { rows = rows; ended = ended }) streams c h

open_here : (before : Line → Line → Bool) (rows more : List Line) (ended end : Bool) (streams : List Stream) (c : Choice) → ended ≡ false → IsRow (by_head before rows ended streams c)
    → by_head before (rows ++ more) (ended || end) streams c ≡ grown zero more end (by_head before rows ended streams c)
open_here before rows more true end streams c is h = cc
open_here before rows more false end streams c is h = here before rows more end streams c h

-- a choice that doesn't wait stays the same
choice_grows : (before : Line → Line → Bool) (k : ℕ) (more : List Line) (end : Bool) (streams : List Stream) → IsOpen k streams → IsRow (choice_of before streams)
    → choice_of before (grow k more end streams) ≡ grown k more end (choice_of before streams)
unfolding grow IsOpen
choice_grows before k more end [] going h = absurd going
choice_grows before zero more end (s ∷ streams) going h = open_here before s.rows more s.ended end streams (choice_of before streams) going h
choice_grows before (suc k) more end (s ∷ streams) going h =
    let c = tail_row before s.rows s.ended streams (choice_of before streams) h in
    ap (by_head before s.rows s.ended (grow k more end streams)) (choice_grows before k more end streams going c) ∙ there before k s.rows more s.ended end streams (choice_of before streams) c

-- ends stay as they are when a row is given
StaysOpen : ℕ → Choice → Type 0
StaysOpen k Waits = Unit {0}
StaysOpen k Over = Unit {0}
StaysOpen k (Gives row left) = IsOpen k left

stays_beside : (before : Line → Line → Bool) (k : ℕ) (row : Line) (rows : List Line) (ended : Bool) (streams : List Stream) (c : Choice) → IsOpen k (record { rows = row ∷ rows; ended = ended } ∷ streams)
    → ((j : ℕ) → k ≡ suc j → StaysOpen j c) → StaysOpen k (beside before row (record { rows = rows; ended = ended }) streams c)
unfolding StaysOpen IsOpen
stays_beside before k row rows ended streams Waits going h = tt
stays_beside before zero row rows ended streams Over going h = going
stays_beside before (suc k) row rows ended streams Over going h = going
stays_beside before zero row rows ended streams (Gives other left) going h = by (before other row)
  where
    by : (b : Bool) → StaysOpen zero (cond b (Gives other (record { rows = row ∷ rows; ended = ended } ∷ left)) (Gives row (record { rows = rows; ended = ended } ∷ streams)))
    by true = going
    by false = going
stays_beside before (suc k) row rows ended streams (Gives other left) going h = by (before other row)
  where
    by : (b : Bool) → StaysOpen (suc k) (cond b (Gives other (record { rows = row ∷ rows; ended = ended } ∷ left)) (Gives row (record { rows = rows; ended = ended } ∷ streams)))
    by true = h k refl
    by false = going

stays_skipped : (k : ℕ) (c : Choice) → StaysOpen k c → StaysOpen (suc k) (skipped c)
unfolding StaysOpen IsOpen
stays_skipped k Waits h = tt
stays_skipped k Over h = tt
stays_skipped k (Gives row left) h = h

stays_head : (before : Line → Line → Bool) (k : ℕ) (rows : List Line) (ended : Bool) (streams : List Stream) (c : Choice) → IsOpen k (record { rows = rows; ended = ended } ∷ streams)
    → ((j : ℕ) → k ≡ suc j → StaysOpen j c) → StaysOpen k (by_head before rows ended streams c)
unfolding StaysOpen IsOpen
stays_head before zero [] true streams c going h = cc
stays_head before (suc k) [] true streams c going h = stays_skipped k c (h k refl)
stays_head before k [] false streams c going h = tt
stays_head before k (row ∷ rows) ended streams c going h = stays_beside before k row rows ended streams c going h

stays_open : (before : Line → Line → Bool) (k : ℕ) (streams : List Stream) → IsOpen k streams → StaysOpen k (choice_of before streams)
unfolding IsOpen
stays_open before k [] going = absurd going
stays_open before zero (s ∷ streams) going = stays_head before zero s.rows s.ended streams (choice_of before streams) going (λ j is. cc)
stays_open before (suc k) (s ∷ streams) going =
    stays_head before (suc k) s.rows s.ended streams (choice_of before streams) going
    (λ j is. let same : k ≡ j = omega (arith, is) in subst (λ n. StaysOpen n (choice_of before streams)) same (stays_open before k streams going))

-- so the rows that came out still come out, and what is left has grown in the same way
pub merged_grows : (before : Line → Line → Bool) (start : List Stream) (given : List Line) (left : List Stream) (k : ℕ) (more : List Line) (end : Bool) → Merged before start given left → IsOpen k start
    → Merged before (grow k more end start) given (grow k more end left) × IsOpen k left
unfolding IsRow grown StaysOpen
merged_grows before start given left k more end begins going = (begins, going)
merged_grows before start given left k more end (goes_on was streams now row m chosen) going =
    let w = merged_grows before start was streams k more end m going in (
      goes_on was (grow k more end streams) (grow k more end now) row w.0 (choice_grows before k more end streams w.1 (subst IsRow (sym chosen) tt) ∙ ap (grown k more end) chosen),
      subst (StaysOpen k) chosen (stays_open before k streams w.1),
    )

-- ---- how many rows

unfoldable pub total : List Stream → ℕ
total [] = 0
total (s ∷ streams) = length s.rows + total streams

-- one row less is left than there was
IsOneLess : ℕ → Choice → Type 0
IsOneLess n Waits = Unit {0}
IsOneLess n Over = Unit {0}
IsOneLess n (Gives row left) = n ≡ suc (total left)

less_beside : (before : Line → Line → Bool) (row : Line) (rows : List Line) (ended : Bool) (streams : List Stream) (c : Choice) → IsOneLess (total streams) c
    → IsOneLess (total (record { rows = row ∷ rows; ended = ended } ∷ streams)) (beside before row (record { rows = rows; ended = ended }) streams c)
unfolding IsOneLess total
less_beside before row rows ended streams Waits h = tt
less_beside before row rows ended streams Over h = omega arith
less_beside before row rows ended streams (Gives other left) h = by (before other row)
  where
    by : (b : Bool) → IsOneLess (total (record { rows = row ∷ rows; ended = ended } ∷ streams)) (cond b (Gives other (record { rows = row ∷ rows; ended = ended } ∷ left)) (Gives row (record { rows = rows; ended = ended } ∷ streams)))
    by true = omega (arith, h)
    by false = omega arith

less_skipped : (n : ℕ) (c : Choice) → IsOneLess n c → IsOneLess n (skipped c)
unfolding IsOneLess total
less_skipped n Waits h = tt
less_skipped n Over h = tt
less_skipped n (Gives row left) h = omega (arith, h)

less_head : (before : Line → Line → Bool) (rows : List Line) (ended : Bool) (streams : List Stream) (c : Choice) → IsOneLess (total streams) c
    → IsOneLess (total (record { rows = rows; ended = ended } ∷ streams)) (by_head before rows ended streams c)
unfolding IsOneLess total
less_head before [] true streams c h = let e : total streams ≡ 0 + total streams = omega arith in subst (λ n. IsOneLess n (skipped c)) e (less_skipped (total streams) c h)
less_head before [] false streams c h = tt
less_head before (row ∷ rows) ended streams c h = less_beside before row rows ended streams c h

one_less : (before : Line → Line → Bool) (streams : List Stream) → IsOneLess (total streams) (choice_of before streams)
unfolding IsOneLess
one_less before [] = tt
one_less before (s ∷ streams) = less_head before s.rows s.ended streams (choice_of before streams) (one_less before streams)

pub merged_count : (before : Line → Line → Bool) (start : List Stream) (given : List Line) (left : List Stream) → Merged before start given left → total start ≡ length given + total left
unfolding IsOneLess
merged_count before start given left begins = omega arith
merged_count before start given left (goes_on was streams now row m chosen) =
    let w = merged_count before start was streams m in
    let less : total streams ≡ suc (total now) = subst (IsOneLess (total streams)) chosen (one_less before streams) in
    omega (arith, w, less, length-append was (row ∷ []))

-- ---- the merge that the meaning of plans has

none_more : (n : ℕ) → 0 + n ≡ n
none_more n = omega arith

-- in so many steps more it gives these rows and then what is left gives
pub merged_stream : (before : Line → Line → Bool) (start : List Stream) (given : List Line) (left : List Stream) (n : ℕ) → Merged before start given left
    → merge_stream before (length given + n) start ≡ record { rows = given ++ (merge_stream before n left).rows; ended = (merge_stream before n left).ended }
merged_stream before start given left n begins = ap (λ k. merge_stream before k start) (none_more n)
merged_stream before start given left n (goes_on was streams now row m chosen) =
    let count : length (was ++ row ∷ []) + n ≡ length was + suc n = omega (arith, length-append was (row ∷ [])) in
    ap (λ k. merge_stream before k start) count ∙ merged_stream before start was streams (suc n) m
    ∙ ap (λ c. let s = going_on (merge_stream before n) c in record { rows = was ++ s.rows; ended = s.ended }) chosen
    ∙ ap (λ l. record { rows = l; ended = (merge_stream before n now).ended }) (sym (append_assoc was (row ∷ []) (merge_stream before n now).rows))

pub merged_left : (before : Line → Line → Bool) (start : List Stream) (given : List Line) (left : List Stream) (n : ℕ) → Merged before start given left
    → left_after before (length given + n) start ≡ left_after before n left
merged_left before start given left n begins = ap (λ k. left_after before k start) (none_more n)
merged_left before start given left n (goes_on was streams now row m chosen) =
    let count : length (was ++ row ∷ []) + n ≡ length was + suc n = omega (arith, length-append was (row ∷ [])) in
    ap (λ k. left_after before k start) count ∙ merged_left before start was streams (suc n) m ∙ ap (left_by streams (left_after before n)) chosen
