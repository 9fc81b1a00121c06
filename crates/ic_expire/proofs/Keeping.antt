-- A queue stays one.
use Rattle.std.proofs.Common.{◌≡◌, ℕ, ◌+◌, ◌<◌, ◌≤◌, Bool, true, false, not, leb, List, [], ◌∷◌, ◌++◌, Some, None, length, get_or, slice_get, refl, sym, ap, ◌∙◌, subst, arith, length-append, inl, inr}
use Rattle.std.specs.Ordering.{is_lt}
use Rattle.std.specs.List.{All, Contains, filter, list_any}
use Rattle.std.specs.List.Sorted.{IsPartitionedBy, IsNonDecreasingBy}
use Rattle.std.proofs.lemmas.Bool.{not-true, leb-false, cases_order}
use Rattle.std.proofs.lemmas.Bool.Decides.{leb_tells}
use Rattle.std.proofs.lemmas.List.Folds.{list_any_none}
use Rattle.std.proofs.lemmas.List.Elements.{All-filter, Contains-get_or, filter_passes}
use Rattle.std.proofs.lemmas.List.Filters.{length-filter_both}
use Rattle.ic_expire.specs.declared.item.Item.{Item}
use Rattle.ic_expire.specs.declared.dues.Due.{Due}
use Rattle.ic_expire.specs.Items.{item_cmp, IsBefore, AreOthers, is_due}
use Rattle.ic_expire.specs.Queue.{EachLater, without, has_due, IsHeld, IsQueue}
use Rattle.ic_expire.proofs.Order.{is_before_true, is_before_from, is_before_false, before_before, before_due}
use Rattle.ic_expire.proofs.Lists.{later_at, later_filter, all_between, later_between}

-- ---- where a search goes

-- the items before x come first
pub parted_at : (xs : List Item) (x : Item) → EachLater IsBefore xs → IsPartitionedBy (λ y. is_lt (item_cmp y x)) xs
parted_at xs x sorted i j d le within passes =
    elim (cases_order i j) [
      | inl e ↦ subst (λ k. is_lt (item_cmp (get_or xs k d) x) ≡ true) (sym e) passes
      | inr (inl lt) ↦ is_before_from (get_or xs i d) x (before_before (get_or xs i d) (get_or xs j d) x (later_at IsBefore xs sorted i j d lt within) (is_before_true (get_or xs j d) x passes))
      | inr (inr gt) ↦ absurd (omega (arith, le, gt))
    ]

pub dues_rise : (xs : List Item) → EachLater IsBefore xs → IsNonDecreasingBy (λ x. x.due) xs
dues_rise xs sorted i j d le within =
    elim (cases_order i j) [
      | inl e ↦ subst (λ k. (get_or xs i d).due ≤ (get_or xs k d).due) e (omega arith)
      | inr (inl lt) ↦ before_due (get_or xs i d) (get_or xs j d) (later_at IsBefore xs sorted i j d lt within)
      | inr (inr gt) ↦ absurd (omega (arith, le, gt))
    ]

-- the first item tells whether anything is due
pub first_due : (xs : List Item) (x : Item) (now : ℕ) → Some x ≡ slice_get xs 0 → EachLater IsBefore xs → leb x.due now ≡ has_due now xs
first_due [] x now first sorted = absurd (let bad : Some x ≡ None = first in cc)
first_due (y ∷ ys) x now first sorted =
    let same : x ≡ y = cc in
    ap (λ (z : Item). leb z.due now) same ∙ elim (leb_tells y.due now) [
      | inl w ↦ rw w.0 refl
      | inr w ↦
          let none : list_any (is_due now) ys ≡ false = list_any_none (is_due now) ys (λ k d lt. not_yet (get_or ys k d) w.1 (before_due y (get_or ys k d) (sorted.0 k d lt))) in
          rw w.0 (sym none)
    ]
  where
    not_yet : (z : Item) → now < y.due → y.due ≤ z.due → leb z.due now ≡ false
    not_yet z later le = elim (leb_tells z.due now) [ inl w ↦ absurd (omega (arith, w.1, later, le)) | inr w ↦ w.0 ]

-- ---- an item less, or more

others : (xs : List Item) (conn seq due : ℕ) → (IsHeld conn seq xs → ⊥) → All (λ y. AreOthers y (record { due = due; conn = conn; seq = seq })) xs
others xs conn seq due absent = λ k d lt same.
    let y = get_or xs k d in
    let is : y ≡ record { due = y.due; conn = conn; seq = seq } = ap (λ (p : Due). record { due = y.due; conn = p.conn; seq = p.seq }) same in
    absent (y.due, subst (Contains xs) is (Contains-get_or xs k d lt))

pub queue_without : (held : List Item) (asked room : ℕ) (test : Item → Bool) → IsQueue (record { held = held; asked = asked; room = room }) → IsQueue (record { held = without test held; asked = asked; room = room })
queue_without held asked room test q =
    record {
      sorted = later_filter IsBefore (λ x. not (test x)) held q.sorted;
      once = later_filter AreOthers (λ x. not (test x)) held q.once;
      soon = All-filter (λ x. not (test x)) (λ x. (asked ≤ x.due) × (x.due ≤ asked + 64)) held q.soon;
      fits = omega (arith, q.fits, length-filter_both (λ x. not (test x)) (λ x. not (not (test x))) (λ _. refl) held);
    }

-- where the time goes on, and what is due by then is taken out
pub queue_asked : (held : List Item) (asked room now : ℕ) → asked ≤ now → IsQueue (record { held = held; asked = asked; room = room }) → IsQueue (record { held = without (is_due now) held; asked = now; room = room })
queue_asked held asked room now later q =
    let rest = queue_without held asked room (is_due now) q in
    record {
      sorted = rest.sorted;
      once = rest.once;
      soon = λ k d lt.
          let x = get_or (without (is_due now) held) k d in
          let not_due = leb-false x.due now (not-true (is_due now x) (filter_passes (λ y. not (is_due now y)) held k d lt)) in
          (omega (arith, not_due), omega (arith, later, (rest.soon k d lt).1));
      fits = rest.fits;
    }

-- with an item put between those before it and the others
pub queue_with : (held us vs : List Item) (asked room conn seq due : ℕ)
    → us ++ vs ≡ held
    → filter (λ y. is_lt (item_cmp y (record { due = due; conn = conn; seq = seq }))) held ≡ us
    → without (λ y. is_lt (item_cmp y (record { due = due; conn = conn; seq = seq }))) held ≡ vs
    → length held < room → (IsHeld conn seq held → ⊥) → asked ≤ due → due ≤ asked + 64
    → IsQueue (record { held = held; asked = asked; room = room })
    → IsQueue (record { held = us ++ (record { due = due; conn = conn; seq = seq }) ∷ vs; asked = asked; room = room })
queue_with held us vs asked room conn seq due cut front back fits absent from upto q =
    let x : Item = record { due = due; conn = conn; seq = seq } in
    let test : Item → Bool = λ y. is_lt (item_cmp y x) in
    let other : All (λ y. AreOthers y x) held = others held conn seq due absent in
    let other_us : All (λ y. AreOthers y x) us = subst (All (λ y. AreOthers y x)) front (All-filter test (λ y. AreOthers y x) held other) in
    let other_vs : All (λ y. AreOthers y x) vs = subst (All (λ y. AreOthers y x)) back (All-filter (λ y. not (test y)) (λ y. AreOthers y x) held other) in
    let before : All (λ y. test y ≡ true) us = subst (All (λ y. test y ≡ true)) front (filter_passes test held) in
    let behind : All (λ y. not (test y) ≡ true) vs = subst (All (λ y. not (test y) ≡ true)) back (filter_passes (λ y. not (test y)) held) in
    record {
      sorted = later_between IsBefore us vs x (subst (EachLater IsBefore) (sym cut) q.sorted) (λ k d lt. is_before_true (get_or us k d) x (before k d lt))
          (λ k d lt. is_before_false (get_or vs k d) x (other_vs k d lt) (not-true (test (get_or vs k d)) (behind k d lt)));
      once = later_between AreOthers us vs x (subst (EachLater AreOthers) (sym cut) q.once) other_us (λ k d lt e. other_vs k d lt (sym e));
      soon = all_between (λ y. (asked ≤ y.due) × (y.due ≤ asked + 64)) us vs x (from, upto) (subst (All (λ y. (asked ≤ y.due) × (y.due ≤ asked + 64))) (sym cut) q.soon);
      fits = omega (arith, fits, ap length cut, length-append us vs, length-append us (x ∷ vs));
    }
