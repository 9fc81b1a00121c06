-- The connections of a worker that send are to all receivers of its motion, in their order.
use Rattle.std.proofs.Common.{◌≡◌, ℕ, suc, ℤ, Bool, true, false, ◌&&◌, ◌==◌, List, [], ◌∷◌, ◌++◌, map, refl, sym, ap, ◌∙◌, subst, inl, inr, cond, append-nil, arith}
use Rattle.std.specs.Prelude.{◌<ℤ◌, flat_map, filter, Contains, Some, slice_get}
use Rattle.std.specs.Ordering.{int_eq}
use Rattle.std.proofs.lemmas.Int.{ints}
use Rattle.std.proofs.lemmas.List.Elements.{filter-append}
use Rattle.std.proofs.lemmas.Bool.Decides.{Decides-int_eq, Decides-eqb}
use Rattle.std.proofs.lemmas.Bool.{cases_Bool}
use Rattle.pl_plan.specs.Motions.{Motion, Link, dispatcher, motions_in_plan, link_of, links_of, links_in}
use Rattle.pl_parts.proofs.Members.{In, NoTwice, In-from_map, In-from_filter, All-in, filter_none}
use Rattle.pl_runs.specs.Slices.{Worker, is_sent_by, sending}
use Rattle.ic_motion.specs.Hearing.{Ascends}
use Rattle.ex_plan.specs.Sending.{to_of, IsFacing}
use Rattle.ex_plan.proofs.Sources.{rises, unique, no_twice}
use Rattle.ex_plan.proofs.Ends.{contains_in, from_links}

-- ---- lists

filter_flat : {A B : Type 0} (p : B → Bool) (f : A → List B) (xs : List A) → filter p (flat_map f xs) ≡ flat_map (λ x. filter p (f x)) xs
filter_flat p f [] = refl
filter_flat p f (x ∷ xs) = filter-append p (f x) (flat_map f xs) ∙ ap (λ l. filter p (f x) ++ l) (filter_flat p f xs)

filter_all : {A : Type 0} (p : A → Bool) (xs : List A) → ((x : A) → In x xs → p x ≡ true) → filter p xs ≡ xs
filter_all p [] h = refl
filter_all p (x ∷ xs) h = ap (λ b. cond b (x ∷ filter p xs) (filter p xs)) (h x (inl refl)) ∙ ap (λ l. x ∷ l) (filter_all p xs (λ y i. h y (inr i)))

flat_none : {A B : Type 0} (f : A → List B) (xs : List A) → ((x : A) → In x xs → f x ≡ []) → flat_map f xs ≡ []
flat_none f [] h = refl
flat_none f (x ∷ xs) h = ap (λ l. l ++ flat_map f xs) (h x (inl refl)) ∙ flat_none f xs (λ y i. h y (inr i))

-- only one of the elements has a list that isn't empty
flat_one : {A B : Type 0} (f : A → List B) (xs : List A) (x : A) → NoTwice xs → In x xs → ((y : A) → In y xs → (y ≡ x → ⊥) → f y ≡ []) → flat_map f xs ≡ f x
flat_one f [] x apart i h = absurd i
flat_one f (y ∷ xs) x apart (inl e) h =
    ap (λ l. f y ++ l) (flat_none f xs (λ z k. h z (inr k) (λ same. apart.0 (subst (λ v. In v xs) (same ∙ e) k)))) ∙ append-nil (f y) ∙ ap f (sym e)
flat_one f (y ∷ xs) x apart (inr i) h =
    ap (λ l. l ++ flat_map f xs) (h y (inl refl) (λ same. apart.0 (subst (λ v. In v xs) (sym same) i))) ∙ flat_one f xs x apart.1 i (λ z k. h z (inr k))

below_itself : (a : ℤ) → a <ℤ a → ⊥
below_itself a h = absurd (omega (arith, ints, h))

pub apart_by : (as_ : List ℤ) → Ascends as_ → NoTwice as_
apart_by [] h = tt
apart_by (a ∷ as_) h = ((λ i. below_itself a (All-in (λ b. a <ℤ b) a as_ h.0 i)), apart_by as_ h.1)

pub differ : (a b : ℕ) → (a ≡ b → ⊥) → (a == b) ≡ false
differ a b other = elim (cases_Bool (a == b)) [
  | inl t ↦ absurd (other ((Decides-eqb a b).0 t))
  | inr f ↦ f
]

elsewhere : (a b : ℤ) → (a ≡ b → ⊥) → int_eq a b ≡ false
elsewhere a b other = elim (cases_Bool (int_eq a b)) [
  | inl t ↦ absurd (other ((Decides-int_eq a b).0 t))
  | inr f ↦ f
]

no_second : (a : Bool) → (a && false) ≡ false
no_second true = refl
no_second false = refl

receivers_of : (m : Motion) (from : ℤ) (to : List ℤ) → map to_of (map (link_of m from) to) ≡ to
receivers_of m from [] = refl
receivers_of m from (t ∷ to) = ap (λ l. t ∷ l) (receivers_of m from to)

place_in : {A B : Type 0} (f : A → B) (xs : List A) (x : A) → In x xs → (k : ℕ) × (slice_get (map f xs) k ≡ Some (f x))
place_in f [] x i = absurd i
place_in f (y ∷ xs) x (inl e) = (0, ap (λ z. Some (f z)) (sym e))
place_in f (y ∷ xs) x (inr i) = let k = place_in f xs x i in (suc k.0, k.1)

first_of : (a b : Bool) → (a && b) ≡ true → a ≡ true
first_of true b h = refl
first_of false b h = absurd cc

pub faces : (w : Worker) (receivers : List ℤ) → map to_of (sending w) ≡ receivers → (l : Link) → Contains (sending w) l → IsFacing w.slice receivers l
faces w receivers are l there =
    let i = contains_in (sending w) l there in
    let kept = In-from_filter (is_sent_by w) l (links_in w.site.schemas w.site.segments w.tree) i in
    let k = place_in to_of (sending w) l i in
    record {
      motion = (Decides-eqb l.motion w.slice).0 (first_of (l.motion == w.slice) (int_eq l.from w.at) kept.1);
      place = k.0;
      at = subst (λ rs. slice_get rs k.0 ≡ Some l.to) are k.1;
    }

-- ---- links

module _ (w : Worker) (m : Motion) (planned : In m (motions_in_plan w.site.schemas w.site.segments w.tree)) (is : m.number ≡ w.slice) (sender : In w.at m.senders) (up : Ascends m.senders) where
  of_others : (k : Motion) → In k (motions_in_plan w.site.schemas w.site.segments w.tree) → (k ≡ m → ⊥) → filter (is_sent_by w) (links_of k) ≡ []
  of_others k there other = filter_none (is_sent_by w) (links_of k) (λ l i.
      let it = from_links k l i in
      let numbers : l.motion ≡ w.slice → ⊥ = λ e. other (unique (motions_in_plan w.site.schemas w.site.segments w.tree) k m (rises w.site.schemas w.site.segments 0 1 dispatcher w.tree) there planned (sym it.number ∙ e ∙ sym is)) in
      ap (λ b. b && int_eq l.from w.at) (differ l.motion w.slice numbers))

  from_others : (from : ℤ) → (from ≡ w.at → ⊥) → filter (is_sent_by w) (map (link_of m from) m.receivers) ≡ []
  from_others from other = filter_none (is_sent_by w) (map (link_of m from) m.receivers) (λ l i.
      let it = In-from_map (link_of m from) l m.receivers i in
      let from_is : l.from ≡ from = ap (λ (x : Link). x.from) it.2 in
      ap (λ b. (l.motion == w.slice) && b) (elsewhere l.from w.at (λ e. other (sym from_is ∙ e))) ∙ no_second (l.motion == w.slice))

  from_here : filter (is_sent_by w) (map (link_of m w.at) m.receivers) ≡ map (link_of m w.at) m.receivers
  from_here = filter_all (is_sent_by w) (map (link_of m w.at) m.receivers) (λ l i.
      let it = In-from_map (link_of m w.at) l m.receivers i in
      let motion_is : l.motion ≡ w.slice = ap (λ (x : Link). x.motion) it.2 ∙ is in
      let from_is : l.from ≡ w.at = ap (λ (x : Link). x.from) it.2 in
      ap (λ b. b && int_eq l.from w.at) ((Decides-eqb l.motion w.slice).1 motion_is) ∙ (Decides-int_eq l.from w.at).1 from_is)

  pub sent_to : map to_of (sending w) ≡ m.receivers
  sent_to =
      let all = motions_in_plan w.site.schemas w.site.segments w.tree in
      let one : filter (is_sent_by w) (links_of m) ≡ map (link_of m w.at) m.receivers =
      filter_flat (is_sent_by w) (λ from. map (link_of m from) m.receivers) m.senders
      ∙ flat_one (λ from. filter (is_sent_by w) (map (link_of m from) m.receivers)) m.senders w.at (apart_by m.senders up) sender (λ from i other. from_others from other)
      ∙ from_here in
      ap (map to_of) (filter_flat (is_sent_by w) links_of all ∙ flat_one (λ k. filter (is_sent_by w) (links_of k)) all m (no_twice all (rises w.site.schemas w.site.segments 0 1 dispatcher w.tree)) planned of_others ∙ one) ∙ receivers_of m w.at m.receivers
