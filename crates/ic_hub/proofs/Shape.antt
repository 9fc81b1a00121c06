-- What is always true of a hub, where one query is replaced.
use Rattle.std.proofs.Common.{◌≡◌, ◌<◌, ℕ, zero, suc, List, [], ◌∷◌, set, cond, ◌==◌, Some, None, refl, ap, sym, ◌∙◌, subst, arith, inl, inr, slice_get}
use Rattle.std.specs.List.{AllByRecursion}
use Rattle.ic_conntab.specs.Table.{Table}
use Rattle.ic_conntab.specs.Ends.{keys_of}
use Rattle.ic_hub.specs.Hubbing.{Hubbing, Living, IsOfHub, keys_in, Ascend, IsHub, place_in}
use Rattle.ic_hub.proofs.Places.{Shaped, all_at, apart_or_same}

-- ---- numbers that ascend

pub less_at : (live : List Living) (i j : ℕ) (a b : Living) → Ascend live → i < j → slice_get live i ≡ Some a → slice_get live j ≡ Some b → a.number < b.number
less_at [] i j a b up less ai bj = let bad : None ≡ Some a = ai in cc
less_at (x ∷ xs) zero zero a b up less ai bj = absurd (omega (arith, less))
less_at (x ∷ xs) zero (suc j) a b up less ai bj = let same : x ≡ a = cc in subst (λ (y : Living). y.number < b.number) same (all_at _ xs j b up.0 bj)
less_at (x ∷ xs) (suc i) zero a b up less ai bj = absurd (omega (arith, less))
less_at (x ∷ xs) (suc i) (suc j) a b up less ai bj = less_at xs i j a b up.1 (omega (arith, less)) ai bj

pub apart_at : (live : List Living) (i j : ℕ) (a b : Living) → Ascend live → slice_get live i ≡ Some a → slice_get live j ≡ Some b → a.number ≡ b.number → i ≡ j
apart_at live i j a b up ai bj same =
    elim (apart_or_same i j) [
      | inl less ↦ (let w = less_at live i j a b up less ai bj in absurd (omega (arith, w, same)))
      | inr other ↦ elim other [
        | inl more ↦ (let w = less_at live j i b a up more bj ai in absurd (omega (arith, w, same)))
        | inr is ↦ is
      ]
    ]

-- the shape of a hub
pub shape_of : (s : Hubbing) (table : Table) → IsHub s table → Shaped s
shape_of s table is =
    record {
      living = λ i l at. (all_at (IsOfHub (place_in s) s.tick) s.live i l is.each at).living;
      of_hub = λ i l at. all_at (IsOfHub (place_in s) s.tick) s.live i l is.each at;
      apart = λ i j a b ai bj same. apart_at s.live i j a b is.ascend ai bj same;
    }

-- ---- one query is replaced by one with its number and its ends

pub keys_with : (live : List Living) (q : ℕ) (l m : Living) (query : ℕ) → slice_get live q ≡ Some l → m.number ≡ l.number → m.ends ≡ l.ends → keys_in (set live q m) query ≡ keys_in live query
keys_with [] q l m query here number ends = refl
keys_with (x ∷ xs) zero l m query here number ends =
    let same : l ≡ x = cc in
    ap (λ n. cond (n == query) (Some (keys_of m.ends)) (keys_in xs query)) (number ∙ ap (λ (y : Living). y.number) same)
    ∙ ap (λ k. cond (x.number == query) (Some (keys_of k)) (keys_in xs query)) (ends ∙ ap (λ (y : Living). y.ends) same)
keys_with (x ∷ xs) (suc q) l m query here number ends = ap (λ r. cond (x.number == query) (Some (keys_of x.ends)) r) (keys_with xs q l m query here number ends)

all_with : {A : Type 0} (P : A → Type 0) (xs : List A) (i : ℕ) (x : A) → AllByRecursion P xs → P x → AllByRecursion P (set xs i x)
all_with P [] i x all here = all
all_with P (y ∷ ys) zero x all here = (here, all.1)
all_with P (y ∷ ys) (suc i) x all here = (all.0, all_with P ys i x all.1 here)

pub ascend_with : (live : List Living) (q : ℕ) (l m : Living) → slice_get live q ≡ Some l → m.number ≡ l.number → Ascend live → Ascend (set live q m)
ascend_with [] q l m here number up = up
ascend_with (x ∷ xs) zero l m here number up =
    let same : l ≡ x = cc in
    (subst (λ n. AllByRecursion (λ (y : Living). n < y.number) xs) (sym (number ∙ ap (λ (y : Living). y.number) same)) up.0, up.1)
ascend_with (x ∷ xs) (suc q) l m here number up = (
  all_with (λ (y : Living). x.number < y.number) xs q m up.0 (subst (λ n. x.number < n) (sym number) (all_at (λ (y : Living). x.number < y.number) xs q l up.0 here)),
  ascend_with xs q l m here number up.1,
)

pub hub_with : (s : Hubbing) (table : Table) (q : ℕ) (l m : Living) → IsHub s table → slice_get s.live q ≡ Some l → m.number ≡ l.number → m.ends ≡ l.ends → IsOfHub (place_in s) s.tick m
    → IsHub (record s { live = set s.live q m }) table
hub_with s table q l m is here number ends of_hub =
    record {
      session = is.session;
      top = is.top;
      tabled = λ query. is.tabled query ∙ sym (keys_with s.live q l m query here number ends);
      ascend = ascend_with s.live q l m here number is.ascend;
      each = all_with (IsOfHub (place_in s) s.tick) s.live q m is.each of_hub;
      checked = is.checked;
      last = is.last;
    }
