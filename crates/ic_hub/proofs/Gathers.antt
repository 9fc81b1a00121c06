-- The ends that tests begin a query with: one or two that send, two that receive.
use Rattle.std.proofs.Common.{◌≡◌, ◌≢◌, ℕ, List, [], ◌∷◌, ◌++◌, false, ap, sym, ◌∙◌, ℤ, pos, negsuc, int_eq, true≢false}
use Rattle.std.specs.List.{Contains}
use Rattle.std.proofs.lemmas.Bool.Decides.{Decides-int_eq}
use Rattle.ic_base.specs.declared.keys.ConnEnd.{ConnEnd}
use Rattle.ic_law.specs.Points.{Place}
use Rattle.ic_law.specs.Asking.{IsEndHere, AreEnds}
use Rattle.ic_hub.proofs.Places.{all_at, contains_at}

-- ---- ends

of_one : (P : ConnEnd → Type 0) (a x : ConnEnd) → P a → Contains (a ∷ []) x → P x
of_one P a x p c = let at = contains_at (a ∷ []) x c in all_at P (a ∷ []) at.0 x (p, tt) at.1

of_two : (P : ConnEnd → Type 0) (a b x : ConnEnd) → P a → P b → Contains (a ∷ b ∷ []) x → P x
of_two P a b x p q c = let at = contains_at (a ∷ b ∷ []) x c in all_at P (a ∷ b ∷ []) at.0 x (p, (q, tt)) at.1

-- one isn't two
one_short : (x : ConnEnd) (front between back : List ConnEnd) (a b : ConnEnd) → x ∷ [] ≡ front ++ a ∷ between ++ b ∷ back → ⊥
one_short x [] [] back a b are = cc
one_short x [] (z ∷ zs) back a b are = cc
one_short x (y ∷ []) between back a b are = cc
one_short x (y ∷ z ∷ zs) between back a b are = cc

-- of two the first comes first
two_are : (x y : ConnEnd) (front between back : List ConnEnd) (a b : ConnEnd) → x ∷ y ∷ [] ≡ front ++ a ∷ between ++ b ∷ back → (a ≡ x) × (b ≡ y)
two_are x y [] [] back a b are = (cc, cc)
two_are x y [] (z ∷ []) back a b are = cc
two_are x y [] (z ∷ w ∷ ws) back a b are = cc
two_are x y (z ∷ zs) between back a b are = let rest : y ∷ [] ≡ zs ++ a ∷ between ++ b ∷ back = cc in absurd (one_short y zs between back a b rest)

pub one_end : (place : Place) (query : ℕ) (a : ConnEnd) → IsEndHere place query a → a.key.from ≢ a.key.to → AreEnds place query (a ∷ [])
one_end place query a here apart =
    record {
      each = λ x c. of_one (IsEndHere place query) a x here c;
      once = λ front between back x y are same. absurd (one_short a front between back x y are);
      both = λ x c self. absurd (of_one (λ e. e.key.from ≢ e.key.to) a x apart c self);
    }

pub two_ends :
    (place : Place) (query : ℕ) (a b : ConnEnd) → IsEndHere place query a → IsEndHere place query b → a.key.from ≢ a.key.to → b.key.from ≢ b.key.to → a.key.from ≢ b.key.from
    → AreEnds place query (a ∷ b ∷ [])
two_ends place query a b here_a here_b apart_a apart_b differ =
    record {
      each = λ x c. of_two (IsEndHere place query) a b x here_a here_b c;
      once = λ front between back x y are same. let is = two_are a b front between back x y are in absurd (differ (ap (λ e. e.key.from) (sym is.0) ∙ ap (λ k. k.from) same ∙ ap (λ e. e.key.from) is.1));
      both = λ x c self. absurd (of_two (λ e. e.key.from ≢ e.key.to) a b x apart_a apart_b c self);
    }

-- segment 0's ends of streams to the dispatcher and to segment 1
pub stream_ends :
    (place : Place) (query : ℕ) (a b : ConnEnd) → IsEndHere place query a → IsEndHere place query b → a.key.from ≡ pos 0 → a.key.to ≡ negsuc 0 → b.key.from ≡ pos 0 → b.key.to ≡ pos 1
    → AreEnds place query (a ∷ b ∷ [])
stream_ends place query a b here_a here_b from_a to_a from_b to_b =
    let apart_a : a.key.from ≢ a.key.to = λ same. let bad : pos 0 ≡ negsuc 0 = sym from_a ∙ same ∙ to_a in cc in
    let apart_b : b.key.from ≢ b.key.to = λ same. let bad : pos 0 ≡ pos 1 = sym from_b ∙ same ∙ to_b in cc in
    let differ : a.key.to ≢ b.key.to = λ same. let bad : negsuc 0 ≡ pos 1 = sym to_a ∙ same ∙ to_b in cc in
    record {
      each = λ x c. of_two (IsEndHere place query) a b x here_a here_b c;
      once = λ front between back x y are same. let is = two_are a b front between back x y are in absurd (differ (ap (λ e. e.key.to) (sym is.0) ∙ ap (λ k. k.to) same ∙ ap (λ e. e.key.to) is.1));
      both = λ x c self. absurd (of_two (λ e. e.key.from ≢ e.key.to) a b x apart_a apart_b c self);
    }

-- the dispatcher's ends of a gather from segments 0 and 1
pub gather_ends :
    (place : Place) (query : ℕ) (a b : ConnEnd) → IsEndHere place query a → IsEndHere place query b → a.key.from ≡ pos 0 → a.key.to ≡ negsuc 0 → b.key.from ≡ pos 1 → b.key.to ≡ negsuc 0
    → AreEnds place query (a ∷ b ∷ [])
gather_ends place query a b here_a here_b from_a to_a from_b to_b =
    let apart_a : a.key.from ≢ a.key.to = λ same. let bad : pos 0 ≡ negsuc 0 = sym from_a ∙ same ∙ to_a in cc in
    let apart_b : b.key.from ≢ b.key.to = λ same. let bad : pos 1 ≡ negsuc 0 = sym from_b ∙ same ∙ to_b in cc in
    let differ : a.key.from ≢ b.key.from = λ same. let bad : pos 0 ≡ pos 1 = sym from_a ∙ same ∙ from_b in cc in
    two_ends place query a b here_a here_b apart_a apart_b differ

-- and a segment's end of it
pub segment_end : (place : Place) (query : ℕ) (at : ℤ) (a : ConnEnd) → IsEndHere place query a → int_eq at (negsuc 0) ≡ false → a.key.from ≡ at → a.key.to ≡ negsuc 0 → AreEnds place query (a ∷ [])
segment_end place query at a here other from to =
    let apart : a.key.from ≢ a.key.to = λ same. true≢false (sym ((Decides-int_eq at (negsuc 0)).1 (sym from ∙ same ∙ to)) ∙ other) in
    one_end place query a here apart
