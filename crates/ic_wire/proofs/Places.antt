-- What a change of the first node of a segment does, by the node's place.
use Rattle.std.proofs.Common.{◌≡◌, ℕ, suc, ◌+◌, ◌<◌, ℤ, Bool, true, false, not, cond, nat_lt, List, [], ◌∷◌, length, slice_index_or, slice_set, Some, None, Result, Ok, Err, OnOk, refl, ap, Decides, subst, arith}
use Rattle.std.specs.List.{position_or_len}
use Rattle.std.specs.Ordering.{int_eq}
use Rattle.std.proofs.lemmas.Bool.{ltb-true, ltb-false}
use Rattle.std.proofs.lemmas.Bool.Decides.{Decides-int_eq}
use Rattle.ic_wire.specs.Wires.{Node, changed, queue_of}
use Rattle.ic_wire.specs.Inside.{place_in}

abbrev is_at : ℤ → Node → Bool
is_at at node = int_eq node.at at

-- ---- by the place of the first

-- the node at this place is changed, and its queue is the one of the segment
pub record Here (at : ℤ) (nodes : List Node) (k : ℕ) (d : Node) : Type 0 where
  pub at_is : (slice_index_or nodes k d).at ≡ at
  pub changes : (f : Node → Node) → changed at f nodes ≡ slice_set nodes k (f (slice_index_or nodes k d))
  pub queue : queue_of at nodes ≡ (slice_index_or nodes k d).kept

equal : (x y : ℤ) → Decides (int_eq x y) (x ≡ y) → int_eq x y ≡ true → x ≡ y
equal x y decides e = decides.0 e

next : (n : ℕ) → suc n ≡ 1 + n
next n = omega arith

found : (at : ℤ) (nodes : List Node) (d : Node) → position_or_len (is_at at) nodes < length nodes → Here at nodes (position_or_len (is_at at) nodes) d
found at [] d lt = absurd (omega arith)
found at (node ∷ nodes) d lt = by_test (is_at at node) refl lt (found at nodes d)
  where
    by_test : (b : Bool) → is_at at node ≡ b → cond (not b) (1 + position_or_len (is_at at) nodes) 0 < suc (length nodes)
        → (position_or_len (is_at at) nodes < length nodes → Here at nodes (position_or_len (is_at at) nodes) d)
        → Here at (node ∷ nodes) (cond (not b) (1 + position_or_len (is_at at) nodes) 0) d
    by_test true e below later = record { at_is = equal node.at at (Decides-int_eq node.at at) e; changes = λ f. rw e refl; queue = rw e refl }
    by_test false e below later =
        let there = later (omega (arith, below)) in
        subst (λ n. Here at (node ∷ nodes) n d) (next (position_or_len (is_at at) nodes))
        (record { at_is = there.at_is; changes = λ f. rw e (ap (λ l. node ∷ l) (there.changes f)); queue = rw e there.queue })

-- no node is changed, and there is no queue
pub record Nowhere (at : ℤ) (nodes : List Node) : Type 0 where
  pub changes : (f : Node → Node) → changed at f nodes ≡ nodes
  pub queue : queue_of at nodes ≡ []

missing : (at : ℤ) (nodes : List Node) → (position_or_len (is_at at) nodes < length nodes → ⊥) → Nowhere at nodes
missing at [] past = record { changes = λ f. refl; queue = refl }
missing at (node ∷ nodes) past = by_test (is_at at node) refl past (missing at nodes)
  where
    by_test : (b : Bool) → is_at at node ≡ b → (cond (not b) (1 + position_or_len (is_at at) nodes) 0 < suc (length nodes) → ⊥)
        → ((position_or_len (is_at at) nodes < length nodes → ⊥) → Nowhere at nodes)
        → Nowhere at (node ∷ nodes)
    by_test true e over later = absurd (over (omega arith))
    by_test false e over later =
        let none = later (λ lt. over (omega (arith, lt))) in
        record { changes = λ f. rw e (ap (λ l. node ∷ l) (none.changes f)); queue = rw e none.queue }

-- ---- by the answer of a search

chosen : (b : Bool) (n k : ℕ) → cond b (Some n) None ≡ Some k → (b ≡ true) × (n ≡ k)
chosen true n k h = (refl, cc)
chosen false n k h = absurd cc

not_chosen : (b : Bool) (n : ℕ) → cond b (Some n) None ≡ None → b ≡ false
not_chosen true n h = absurd cc
not_chosen false n h = refl

pub here : (at : ℤ) (nodes : List Node) (k : ℕ) (d : Node) → place_in at nodes ≡ Some k → Here at nodes k d
here at nodes k d h =
    let both = chosen (nat_lt (position_or_len (is_at at) nodes) (length nodes)) (position_or_len (is_at at) nodes) k h in
    subst (λ n. Here at nodes n d) both.1 (found at nodes d (ltb-true (position_or_len (is_at at) nodes) (length nodes) both.0))

pub nowhere : (at : ℤ) (nodes : List Node) → place_in at nodes ≡ None → Nowhere at nodes
nowhere at nodes h =
    let past = not_chosen (nat_lt (position_or_len (is_at at) nodes) (length nodes)) (position_or_len (is_at at) nodes) h in
    missing at nodes (λ lt. omega (arith, lt, ltb-false (position_or_len (is_at at) nodes) (length nodes) past))

-- ---- answers

pub on_ok : {A E : Type 0} {P Q : Type 0} (r : Result A E) → OnOk r P → (P → Q) → OnOk r Q
on_ok (Ok a) p f = f p
on_ok (Err e) p f = tt
