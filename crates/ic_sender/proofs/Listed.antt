-- Looking for a number among numbers that increase.
use Rattle.std.proofs.Common.{◌≡◌, ◌<◌, ◌≤◌, ◌+◌, ℕ, zero, suc, List, [], ◌∷◌, length, get_or, true, false, ◌||◌, ◌==◌, cond, refl, ap, sym, ◌∙◌, subst, arith, Option, Some, None, take, drop}
use Rattle.std.specs.List.{AllByRecursion, Contains}
use Rattle.std.proofs.Math.Bool.{or-false}
use Rattle.std.proofs.lemmas.Bool.{ne_eqb}
use Rattle.std.proofs.lemmas.List.{drop_more}
use Rattle.ic_law.specs.Numbers.{IsIncreasingFrom}
use Rattle.ic_sender.specs.declared.flight.Flight.{Flight}
use Rattle.ic_sender.specs.Listed.{Rises}
use Rattle.ic_sender.specs.Sending.{is_among, flight_at}

-- one that is less isn't it
pub among_less : (x seq : ℕ) (xs : List ℕ) → x < seq → is_among (x ∷ xs) seq ≡ is_among xs seq
among_less x seq xs less = ap (λ b. b || is_among xs seq) (ne_eqb x seq (λ same. omega (arith, same, less)))

-- it is none of greater ones
none_among : (seq least : ℕ) (xs : List ℕ) → IsIncreasingFrom least xs → seq < least → is_among xs seq ≡ false
none_among seq least [] rises less = refl
none_among seq least (x ∷ xs) rises less =
    ap (λ b. b || is_among xs seq) (ne_eqb x seq (λ same. omega (arith, same, less, rises.0))) ∙ none_among seq (x + 1) xs rises.1 (omega (arith, less, rises.0))

-- of one that isn't less, and greater ones, it is that or none
pub among_most : (x seq least : ℕ) (xs : List ℕ) → seq ≤ x → IsIncreasingFrom least (x ∷ xs) → is_among (x ∷ xs) seq ≡ (x == seq)
among_most x seq least xs most rises = ap (λ b. (x == seq) || b) (none_among seq (x + 1) xs rises.1 (omega (arith, most))) ∙ or-false (x == seq)

-- at the first that isn't less
pub found_here : (numbers : List ℕ) (i seq : ℕ) → i < length numbers → Rises (drop i numbers) → is_among (drop i numbers) seq ≡ is_among numbers seq → seq ≤ get_or numbers i 0
    → (get_or numbers i 0 == seq) ≡ is_among numbers seq
found_here numbers i seq lt rises same most =
    let split : drop i numbers ≡ get_or numbers i 0 ∷ drop (i + 1) numbers = drop_more numbers i 0 lt in
    let now : Rises (get_or numbers i 0 ∷ drop (i + 1) numbers) = subst Rises split rises in
    sym (among_most (get_or numbers i 0) seq now.0 (drop (i + 1) numbers) most now.1) ∙ ap (λ l. is_among l seq) (sym split) ∙ same

-- what is left increases
pub rises_on : (x : ℕ) (xs : List ℕ) → Rises (x ∷ xs) → Rises xs
rises_on x xs rises = (x + 1, rises.1.1)

-- none of them is above a greater number
pub all_under : (flights : List Flight) (n m : ℕ) → n ≤ m → AllByRecursion (λ (f : Flight). f.seq ≤ n) flights → AllByRecursion (λ (f : Flight). f.seq ≤ m) flights
all_under [] n m le all = tt
all_under (f ∷ fs) n m le all = (let least : f.seq ≤ n = all.0 in omega (arith, least, le), all_under fs n m le all.1)

-- with one more of them
one_more : (flights : List Flight) (i k m : ℕ) (f : Flight) → k ≡ suc i → i < length flights → f ≡ get_or flights i f → f.seq ≤ m → AllByRecursion (λ (g : Flight). g.seq ≤ m) (take i flights)
    → AllByRecursion (λ (g : Flight). g.seq ≤ m) (take k flights)
one_more [] i k m f is lt at here all = absurd (omega (arith, lt))
one_more (g ∷ gs) i zero m f is lt at here all = absurd (omega (arith, is))
one_more (g ∷ gs) zero (suc j) m f is lt at here all =
    let none : j ≡ 0 = omega (arith, is) in
    (subst (λ (x : Flight). x.seq ≤ m) at here, subst (λ n. AllByRecursion (λ (x : Flight). x.seq ≤ m) (take n gs)) (sym none) tt)
one_more (g ∷ gs) (suc i) (suc j) m f is lt at here all = (all.0, one_more gs i j m f (omega (arith, is)) (omega (arith, lt)) at here all.1)

pub under_more : (flights : List Flight) (i n m : ℕ) (f : Flight) → n ≤ m → f.seq ≤ m → AllByRecursion (λ (g : Flight). g.seq ≤ n) (take i flights) → i < length flights → f ≡ get_or flights i f
    → AllByRecursion (λ (g : Flight). g.seq ≤ m) (take (i + 1) flights)
under_more flights i n m f le here all lt at = one_more flights i (i + 1) m f (omega arith) lt at here (all_under (take i flights) n m le all)

-- no packet is above them all
pub none_above : (flights : List Flight) (n seq : ℕ) → AllByRecursion (λ (f : Flight). f.seq ≤ n) flights → n < seq → flight_at flights seq ≡ None
none_above [] n seq all less = refl
none_above (f ∷ fs) n seq all less =
    let least : f.seq ≤ n = all.0 in
    ap (λ b. cond b (Some f) (flight_at fs seq)) (ne_eqb f.seq seq (λ same. omega (arith, same, less, least))) ∙ none_above fs n seq all.1 less
