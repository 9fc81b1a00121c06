-- Reading values one after another, as a loop does.
use Rattle.std.proofs.Common.{◌≡◌, ℕ, suc, ◌-◌, ◌+◌, ◌≤◌, ◌<◌, List, [], ◌∷◌, ◌++◌, length, Result, Ok, Err, refl, sym, ap, ◌∙◌, append_assoc, arith}
use Rattle.std.specs.Option.{ok_or}
use Rattle.std.proofs.lemmas.List.{append-nil}
use Rattle.ic_row.specs.declared.value.Value.{Value}
use Rattle.ic_row.specs.declared.stop.Stop.{Stop}
use Rattle.ic_row.specs.declared.stop.Stop.TheVariants.{Left, NoMemory}
use Rattle.ic_row.specs.Reading.{◌>>=◌, value_at, values_at}
use Rattle.ic_row.specs.Stops.{Fails}

-- what was read before, and what is still read
abbrev pub with_front : List Value → Result (List Value × List ℕ) ℕ → Result (List Value × List ℕ) ℕ
with_front front read = read >>= λ x. Ok (front ++ x.0, x.1)

regroup : (front : List Value) (v : Value) (read : Result (List Value × List ℕ) ℕ) → with_front front (read >>= λ x. Ok (v ∷ x.0, x.1)) ≡ with_front (front ++ v ∷ []) read
regroup front v (Ok x) = ap (λ (vs : List Value). Ok (vs, x.1)) (simp append_assoc)
regroup front v (Err left) = refl

pub goes_on : (front : List Value) (count i : ℕ) (bytes : List ℕ) (v : Value) (after : List ℕ) (total : Result (List Value × List ℕ) ℕ) → i < count → ok_or (value_at bytes) (length bytes) ≡ Ok (v, after)
    → with_front front (values_at (count - i) bytes) ≡ total → with_front (front ++ v ∷ []) (values_at (count - (i + 1)) after) ≡ total
unfolding values_at
goes_on front count i bytes v after total lt h so_far =
    let k : count - i ≡ suc (count - (i + 1)) = omega arith in
    let one : with_front front (values_at (count - i) bytes) ≡ with_front (front ++ v ∷ []) (values_at (count - (i + 1)) after) = rw (k, h) (regroup front v (values_at (count - (i + 1)) after)) in
    sym one ∙ so_far

pub ends : (e : Stop) (front : List Value) (count i : ℕ) (bytes : List ℕ) (total : Result (List Value × List ℕ) ℕ) → i < count → Fails e (ok_or (value_at bytes) (length bytes))
    → with_front front (values_at (count - i) bytes) ≡ total → Fails e total
unfolding values_at
ends NoMemory front count i bytes total lt h so_far = tt
ends (Left left) front count i bytes total lt h so_far =
    let k : count - i ≡ suc (count - (i + 1)) = omega arith in
    let one : with_front front (values_at (count - i) bytes) ≡ Err left = rw (k, h) refl in
    sym so_far ∙ one

pub is_done : (front : List Value) (count i : ℕ) (bytes : List ℕ) (total : Result (List Value × List ℕ) ℕ) → count ≤ i → with_front front (values_at (count - i) bytes) ≡ total → total ≡ Ok (front, bytes)
unfolding values_at
is_done front count i bytes total le so_far =
    let k : count - i ≡ 0 = omega arith in
    let one : with_front front (values_at (count - i) bytes) ≡ Ok (front, bytes) = rw k (ap (λ (vs : List Value). Ok (vs, bytes)) (append-nil front)) in
    sym so_far ∙ one
