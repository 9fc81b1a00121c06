-- At a node with the ends of a plan, the ends of a slice are all its own.
use Rattle.std.proofs.Common.{◌≡◌, ℕ, suc, zero, ℤ, Bool, true, false, not, ◌&&◌, ◌||◌, ◌==◌, cond, List, [], ◌∷◌, ◌++◌, filter, flat_map, refl, ap, sym, ◌∙◌, subst, arith}
use Rattle.std.specs.List.{list_any, AllByRecursion, Contains}
use Rattle.std.proofs.lemmas.Bool.Decides.{Decides-eqb}
use Rattle.std.proofs.lemmas.List.Folds.{list_any-from_Any, Any-from_list_any}
use Rattle.ic_base.specs.declared.keys.ConnEnd.{ConnEnd}
use Rattle.ic_law.proofs.Lists.{Contains-none, Contains-head, Contains-tail}
use Rattle.ic_sender.proofs.Lists.{filter_has}
use Rattle.pl_plan.specs.Motions.{Link, links_in}
use Rattle.pl_plan.specs.Ends.{end_of, end_if, is_at, ends_at, ends_in}
use Rattle.pl_runs.specs.Slices.{Worker}
use Rattle.pl_runs.specs.Logs.{is_of_slice, ends_of, hears_motion}
use Rattle.pl_runs.specs.Apart.{of_slice}
use Rattle.pl_runs.proofs.Apart.{slices_are_apart}
use Rattle.ic_desk.specs.Own.{is_heard_otherwise, is_own}
use Rattle.ic_desk.specs.Laws.{OwnAreThePlans}
use Rattle.ic_desk.proofs.Owning.{first_of, second_of, both_true, equal}

-- ---- lists

all_both : {A : Type 0} (P : A → Type 0) (xs ys : List A) → AllByRecursion P xs → AllByRecursion P ys → AllByRecursion P (xs ++ ys)
all_both P [] ys h k = k
all_both P (x ∷ xs) ys h k = (h.0, all_both P xs ys h.1 k)

all_flat : {A B : Type 0} (P : B → Type 0) (f : A → List B) → ((x : A) → AllByRecursion P (f x)) → (xs : List A) → AllByRecursion P (flat_map f xs)
all_flat P f each [] = tt
all_flat P f each (x ∷ xs) = all_both P (f x) (flat_map f xs) (each x) (all_flat P f each xs)

all_at : {A : Type 0} (P : A → Type 0) (xs : List A) (x : A) → AllByRecursion P xs → Contains xs x → P x
all_at P [] x all among = absurd (Contains-none x among)
all_at P (y ∷ xs) x all (zero, lt, is) = subst P is all.0
all_at P (y ∷ xs) x all (suc k, lt, is) = all_at P xs x all.1 (k, omega (arith, lt), is)

filter_same : {A : Type 0} (p q : A → Bool) (xs : List A) → ((x : A) → Contains xs x → p x ≡ q x) → filter p xs ≡ filter q xs
filter_same p q [] same = refl
filter_same p q (x ∷ xs) same =
    ap (λ b. cond b (x ∷ filter p xs) (filter p xs)) (same x (Contains-head x xs))
    ∙ ap (λ l. cond (q x) (x ∷ l) l) (filter_same p q xs (λ y there. same y (Contains-tail x xs y there)))

-- ---- ends

ends_query : (session query : ℕ) (at : ℤ) (l : Link) → AllByRecursion (λ (e : ConnEnd). e.key.query ≡ query) (ends_at session query at l)
ends_query session query at l = by (is_at at l.from) (is_at at l.to)
  where
    by : (a b : Bool) → AllByRecursion (λ (e : ConnEnd). e.key.query ≡ query) (end_if a (end_of session query true l) ++ end_if b (end_of session query false l))
    by true true = (refl, (refl, tt))
    by true false = (refl, tt)
    by false true = (refl, tt)
    by false false = tt

module _ (w : Worker) (session query : ℕ) where
  abbrev all : List ConnEnd
  all = ends_in w.site.schemas w.site.segments w.tree session query w.at

  of_query : (e : ConnEnd) → Contains all e → e.key.query ≡ query
  of_query e among =
      all_at (λ (x : ConnEnd). x.key.query ≡ query) all e (all_flat (λ (x : ConnEnd). x.key.query ≡ query) (ends_at session query w.at) (ends_query session query w.at) (links_in w.site.schemas w.site.segments w.tree)) among

  -- an end of a slice at which it hears a motion
  hears_it : (slice : ℕ) (e : ConnEnd) (motion : ℕ) → Contains all e → is_of_slice slice e ≡ true → e.sending ≡ false → e.key.motion ≡ motion → hears_motion (ends_of (of_slice w slice) session query) query motion ≡ true
  hears_it slice e motion among of hears is =
      let there = filter_has (is_of_slice slice) all e among of in
      list_any-from_Any (λ (x : ConnEnd). not x.sending && ((x.key.query == query) && (x.key.motion == motion))) (ends_of (of_slice w slice) session query) (
        there.0,
        e,
        there.1,
        there.2,
        both_true (not e.sending) ((e.key.query == query) && (e.key.motion == motion)) (ap not hears)
            (both_true (e.key.query == query) (e.key.motion == motion) (equal e.key.query query (of_query e among)) (equal e.key.motion motion is)),
      )

  not_true : (b : Bool) → not b ≡ true → b ≡ false
  not_true true h = sym h
  not_true false h = refl

  hears_slice : (f : ConnEnd) → f.sending ≡ false → is_of_slice f.recv_slice f ≡ true
  hears_slice f hears = ap (λ s. cond s (f.send_slice == f.recv_slice) (f.recv_slice == f.recv_slice)) hears ∙ equal f.recv_slice f.recv_slice refl

  -- a motion that the slice hears is heard by no other slice
  not_otherwise : (e : ConnEnd) → Contains all e → is_of_slice w.slice e ≡ true → e.sending ≡ false → list_any (is_heard_otherwise w.slice e.key.motion) all ≡ false
  not_otherwise e among of hears = by (list_any (is_heard_otherwise w.slice e.key.motion) all) refl
    where
      by : (b : Bool) → list_any (is_heard_otherwise w.slice e.key.motion) all ≡ b → b ≡ false
      by false is = refl
      by true is =
          let any = Any-from_list_any (is_heard_otherwise w.slice e.key.motion) all is in
          let f : ConnEnd = any.1 in
          let its : Contains all f = (any.0, any.2, any.3) in
          let hearing : f.sending ≡ false = not_true f.sending (first_of (not f.sending) _ any.4) in
          let motion : f.key.motion ≡ e.key.motion = (Decides-eqb f.key.motion e.key.motion).0 (first_of (f.key.motion == e.key.motion) _ (second_of (not f.sending) _ any.4)) in
          let other : (f.recv_slice == w.slice) ≡ false = not_true (f.recv_slice == w.slice) (second_of (f.key.motion == e.key.motion) _ (second_of (not f.sending) _ any.4)) in
          let mine = hears_it w.slice e e.key.motion among of hears refl in
          let others = hears_it f.recv_slice f e.key.motion its (hears_slice f hearing) hearing motion in
          let apart : w.slice ≡ f.recv_slice → ⊥ = λ same. (let bad : true ≡ false = sym (equal f.recv_slice w.slice (sym same)) ∙ other in cc) in
          sym others ∙ (slices_are_apart w f.recv_slice session query apart).taken query e.key.motion mine

  all_own : (e : ConnEnd) → Contains all e → is_own all w.slice e ≡ is_of_slice w.slice e
  all_own e among = by (is_of_slice w.slice e) refl
    where
      alone : (s : Bool) → e.sending ≡ s → is_of_slice w.slice e ≡ true → (s || not (list_any (is_heard_otherwise w.slice e.key.motion) all)) ≡ true
      alone true sends of = refl
      alone false hears of = ap not (not_otherwise e among of hears)

      by : (b : Bool) → is_of_slice w.slice e ≡ b → (b && (e.sending || not (list_any (is_heard_otherwise w.slice e.key.motion) all))) ≡ b
      by true of = alone e.sending refl of
      by false of = refl

pub own_are_the_plans : OwnAreThePlans
own_are_the_plans w session query = filter_same (is_own (all w session query) w.slice) (is_of_slice w.slice) (all w session query) (all_own w session query)
