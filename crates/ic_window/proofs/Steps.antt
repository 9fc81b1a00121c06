-- Steps that are taken many times.
use Rattle.std.proofs.Common.{◌≡◌, ℕ, zero, suc, ◌-◌, ◌*◌, ◌%◌, ◌^◌, ◌<◌, ◌≤◌, min, refl, ap, ◌∙◌, arith}
use Rattle.ic_window.specs.Window.{times, widest, wider}

pub one_more : (k : ℕ) (step : ℕ → ℕ) (n : ℕ) → 0 < k → times (k - 1) step (step n) ≡ times k step n
unfolding times
one_more zero step n lt = absurd (omega arith)
one_more (suc k) step n lt =
    let less : suc k - 1 ≡ k = omega arith in
    rw less refl

pub none_left : (k : ℕ) (step : ℕ → ℕ) (n : ℕ) → k ≤ 0 → times k step n ≡ n
unfolding times
none_left zero step n le = refl
none_left (suc k) step n le = absurd (omega arith)

-- if one step changes nothing, many steps change nothing
pub at_rest : (k : ℕ) (step : ℕ → ℕ) (n : ℕ) → step n ≡ n → times k step n ≡ n
unfolding times
at_rest zero step n e = refl
at_rest (suc k) step n e = ap (times k step) e ∙ at_rest k step n e

-- the widest window stays
pub widest_stays : (depth threshold window : ℕ) → window ≤ widest depth → widest depth ≤ window → wider depth threshold window ≡ window
widest_stays depth threshold window le ge = omega arith

pub wider_least : (depth threshold window : ℕ) → 256 ≤ window → window ≤ widest depth → 256 ≤ wider depth threshold window
wider_least depth threshold window least greatest = omega arith

pub wider_greatest : (depth threshold window : ℕ) → wider depth threshold window ≤ widest depth
wider_greatest depth threshold window = omega arith

doubled_grows : (k n : ℕ) → n ≤ times k (λ m. 2 * m) n
unfolding times
doubled_grows zero n = omega arith
doubled_grows (suc k) n = omega (arith, doubled_grows k (2 * n))

-- a number doubled five times or more is at least 64
pub doubled_is : (k n : ℕ) → 2 ≤ n → n ≤ 64 → min ((n * 2 ^ min k 5) % 18446744073709551616) 64 ≡ min 64 (times k (λ m. 2 * m) n)
unfolding times
doubled_is zero n low high = omega arith
doubled_is (suc zero) n low high = omega arith
doubled_is (suc (suc zero)) n low high = omega arith
doubled_is (suc (suc (suc zero))) n low high = omega arith
doubled_is (suc (suc (suc (suc zero)))) n low high = omega arith
doubled_is (suc (suc (suc (suc (suc k))))) n low high =
    let five : min (suc (suc (suc (suc (suc k))))) 5 ≡ 5 = omega arith in
    rw five (omega (arith, doubled_grows k (2 * (2 * (2 * (2 * (2 * n)))))))
