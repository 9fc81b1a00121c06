-- Loops that write each element of a list, and what is found in a part of one.
use Rattle.std.proofs.Common.{◌≡◌, ℕ, zero, suc, ◌+◌, ◌<◌, ◌≤◌, List, [], ◌∷◌, ◌++◌, length, map, take, drop, true, false, Option, Some, None, refl, ap, sym, ◌∙◌, subst, arith, slice_set, slice_index_or}
use Rattle.std.specs.Prelude.{nat_lt, filter}
use Rattle.std.specs.List.{AllByRecursion}
use Rattle.ic_sender.specs.declared.flight.Flight.{Flight}
use Rattle.ic_sender.specs.Sending.{flight_at}
use Rattle.ic_sender.proofs.Lists.{find_filter, find_same, in_filter, lt_yes, not_lt}

-- one more element of a list is written
pub one_written : {A : Type 0} (g : A → A) (xs : List A) (i : ℕ) (x : A) → i < length xs → x ≡ slice_index_or (map g (take i xs) ++ drop i xs) i x
    → slice_set (map g (take i xs) ++ drop i xs) i (g x) ≡ map g (take (i + 1) xs) ++ drop (i + 1) xs
one_written g [] i x lt is = absurd (omega (arith, lt))
one_written g (y ∷ ys) zero x lt is = ap (λ z. g z ∷ ys) is
one_written g (y ∷ ys) (suc i) x lt is =
    ap (λ l. g y ∷ l) (one_written g ys i x (omega (arith, lt)) is) ∙ ap (λ k. map g (take k (y ∷ ys)) ++ drop k (y ∷ ys)) (let e : suc (i + 1) ≡ suc i + 1 = omega arith in e)

-- what wasn't written yet is as before
pub still_there : {A : Type 0} (g : A → A) (xs : List A) (i : ℕ) (x : A) (P : A → Type 0) → i < length xs → x ≡ slice_index_or (map g (take i xs) ++ drop i xs) i x → AllByRecursion P xs → P x
still_there g [] i x P lt is all = absurd (omega (arith, lt))
still_there g (y ∷ ys) zero x P lt is all = subst P (sym is) all.0
still_there g (y ∷ ys) (suc i) x P lt is all = still_there g ys i x P (omega (arith, lt)) is all.1

-- a number above is found among those above as among all
pub found_above : (flights : List Flight) (run n : ℕ) → run < n → flight_at (filter (λ (f : Flight). nat_lt run f.seq) flights) n ≡ flight_at flights n
found_above flights run n lt = find_filter (λ (f : Flight). f.seq) (nat_lt run) flights n (lt_yes run n lt)

-- and no other is
pub none_below : (flights : List Flight) (run n : ℕ) → n ≤ run → flight_at (filter (λ (f : Flight). nat_lt run f.seq) flights) n ≡ None
none_below flights run n le = by (flight_at (filter (λ (f : Flight). nat_lt run f.seq) flights) n) refl
  where
    by : (o : Option Flight) → flight_at (filter (λ (f : Flight). nat_lt run f.seq) flights) n ≡ o → flight_at (filter (λ (f : Flight). nat_lt run f.seq) flights) n ≡ None
    by None e = e
    by (Some f) e =
        let w = find_same (λ (g : Flight). g.seq) (filter (λ (g : Flight). nat_lt run g.seq) flights) n f e in
        let above = (in_filter (λ (g : Flight). nat_lt run g.seq) flights f w.0).1 in
        let below = not_lt run f.seq (omega (arith, w.1, le)) in
        absurd (let bad : true ≡ false = sym above ∙ below in cc)
