-- How many connections and senders there are.
use Rattle.std.proofs.Common.{◌≡◌, ℕ, ℤ, suc, zero, ◌+◌, ◌*◌, ◌<◌, ◌≤◌, List, [], ◌∷◌, ◌++◌, length, map, drop, get_or, refl, sym, ap, subst, ◌∙◌, add-one, drop-cons, length-append, arith}
use Rattle.std.specs.Prelude.{flat_map, pos}
use Rattle.std.proofs.Math.Nat.{suc-mul}
use Rattle.std.proofs.lemmas.Nat.{mul-le}
use Rattle.std.proofs.lemmas.List.{length-map}
use Rattle.pl_plan.specs.declared.layout.Gang.{Gang}
use Rattle.pl_plan.specs.declared.layout.Gang.TheVariants.{Dispatcher, First, All}
use Rattle.pl_plan.specs.declared.layout.MotionRow.{MotionRow}
use Rattle.pl_plan.specs.Motions.{Motion, segments_from, members_in, link_of, links_of}
use Rattle.pl_plan.specs.Layout.{members, motion_in}
use Rattle.pl_plan.specs.Limits.{senders_in, links_in_rows}

pub segments_long : (k n : ℕ) → length (segments_from k n) ≡ n
segments_long k zero = refl
segments_long k (suc n) = ap suc (segments_long (suc k) n)

pub size_most : (segments : ℕ) (gang : Gang) → segments ≤ 64 → length (members segments gang) ≤ 64
size_most segments Dispatcher le = omega arith
size_most segments First le = omega arith
size_most segments All le = omega (arith, segments_long 0 segments, le)

pairs_long : (m : Motion) (receivers : List ℤ) (senders : List ℤ) → length (flat_map (λ from. map (link_of m from) receivers) senders) ≡ length senders * length receivers
pairs_long m receivers [] = omega arith
pairs_long m receivers (from ∷ senders) =
    let e = length-append (map (link_of m from) receivers) (flat_map (λ f. map (link_of m f) receivers) senders) in
    e ∙ omega (arith, length-map receivers (link_of m from), pairs_long m receivers senders, suc-mul (length senders) (length receivers))

pub links_long : (m : Motion) → length (links_of m) ≡ length m.senders * length m.receivers
links_long m = pairs_long m m.receivers m.senders

pub row_links : (segments : ℕ) (row : MotionRow) (rows : List MotionRow) → length (links_in_rows segments (row ∷ rows)) ≡ length (links_of (motion_in segments row)) + length (links_in_rows segments rows)
row_links segments row rows = length-append (links_of (motion_in segments row)) (links_in_rows segments rows)

pub row_most : (segments : ℕ) (row : MotionRow) → segments ≤ 64 → length (links_of (motion_in segments row)) ≤ 4096
row_most segments row le = omega (arith, links_long (motion_in segments row), mul-le (length (members segments row.senders)) (length (members segments row.receivers)) 64 64 (size_most segments row.senders le) (size_most segments row.receivers le))

pub links_most : (segments : ℕ) (rows : List MotionRow) → segments ≤ 64 → length (links_in_rows segments rows) ≤ 4096 * length rows
links_most segments [] le = omega arith
links_most segments (row ∷ rows) le = omega (arith, row_links segments row rows, row_most segments row le, links_most segments rows le)

pub next_links : (segments : ℕ) (rows : List MotionRow) (i : ℕ) (d : MotionRow) → i < length rows → length (links_in_rows segments (drop i rows)) ≡ length (links_of (motion_in segments (get_or rows i d))) + length (links_in_rows segments (drop (i + 1) rows))
next_links segments rows i d lt = rw (add-one, drop-cons rows i d lt) (row_links segments (get_or rows i d) (drop (suc i) rows))

pub next_senders : (segments : ℕ) (rows : List MotionRow) (i : ℕ) (d : MotionRow) → i < length rows → senders_in segments (drop i rows) ≡ length (members segments (get_or rows i d).senders) + senders_in segments (drop (i + 1) rows)
next_senders segments rows i d lt = rw (add-one, drop-cons rows i d lt) refl

pub senders_most : (segments : ℕ) (rows : List MotionRow) → segments ≤ 64 → senders_in segments rows ≤ 64 * length rows
senders_most segments [] le = omega arith
senders_most segments (row ∷ rows) le = omega (arith, size_most segments row.senders le, senders_most segments rows le)

pub gangs_sum : (segments : ℕ) (rows : List MotionRow) → members_in (map (λ (m : Motion). m.senders) (map (motion_in segments) rows)) ≡ senders_in segments rows
gangs_sum segments [] = refl
gangs_sum segments (row ∷ rows) = ap (λ k. length (members segments row.senders) + k) (gangs_sum segments rows)

snoc : (k n : ℕ) → segments_from k (suc n) ≡ segments_from k n ++ pos (k + n) ∷ []
snoc k zero = ap (λ j. pos j ∷ []) (omega arith)
snoc k (suc n) = ap (λ xs. pos k ∷ xs) (snoc (suc k) n ∙ ap (λ j. segments_from (suc k) n ++ pos j ∷ []) (omega arith))

pub segments_snoc : (n : ℕ) → segments_from 0 (n + 1) ≡ segments_from 0 n ++ pos n ∷ []
segments_snoc n = ap (segments_from 0) (add-one n) ∙ snoc 0 n ∙ ap (λ j. segments_from 0 n ++ pos j ∷ []) (omega arith)
