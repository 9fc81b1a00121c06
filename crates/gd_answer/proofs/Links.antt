-- The connections of a motion: they are the plan's, and their ends are those of the workers at both sides.
use Rattle.std.proofs.Common.{◌≡◌, ℕ, ℤ, Bool, true, false, ◌&&◌, ◌||◌, ◌==◌, not, List, [], ◌∷◌, map, refl, sym, ap, ◌∙◌, subst, inl, inr}
use Rattle.std.specs.Prelude.{◌⊎◌, Contains, flat_map}
use Rattle.std.specs.List.{list_any}
use Rattle.std.specs.Ordering.{int_eq}
use Rattle.std.proofs.lemmas.Bool.Decides.{Decides-int_eq, Decides-eqb}
use Rattle.ic_base.specs.declared.keys.ConnKey.{ConnKey}
use Rattle.ic_base.specs.declared.keys.ConnEnd.{ConnEnd}
use Rattle.ic_base.specs.Keys.{key_eq}
use Rattle.ic_base.proofs.SameKeys.{key_eq-same}
use Rattle.ic_law.proofs.Lists.{Contains-head, Contains-tail}
use Rattle.pl_plan.specs.Motions.{Motion, Link, motions_in_plan, link_of, links_of, links_in}
use Rattle.pl_plan.specs.Ends.{key_of, end_of, is_at, end_if, ends_at, ends_in}
use Rattle.pl_parts.proofs.Members.{In, In-left, In-right, In-cases, In-map, In-flat, In-from_flat, In-filter, In-from_filter, All-from_in}
use Rattle.pl_runs.specs.Slices.{Worker, is_sent_by, sending}
use Rattle.pl_runs.specs.Logs.{is_of_slice, ends_of, sends_by, hears_by, hears_motion}
use Rattle.pl_runs.specs.Distributed.{Query, worker_at}
use Rattle.gd_answer.proofs.Ends.{IsOwn, AreOwn}

pub in_contains : {A : Type 0} (xs : List A) (x : A) → In x xs → Contains xs x
in_contains [] x h = absurd h
in_contains (y ∷ xs) x (inl e) = subst (Contains (y ∷ xs)) (sym e) (Contains-head y xs)
in_contains (y ∷ xs) x (inr i) = Contains-tail y xs x (in_contains xs x i)

any_in : {A : Type 0} (f : A → Bool) (xs : List A) (x : A) → In x xs → f x ≡ true → list_any f xs ≡ true
any_in f [] x h e = absurd h
any_in f (y ∷ xs) x (inl q) e = ap (λ b. b || list_any f xs) (ap f (sym q) ∙ e)
any_in f (y ∷ xs) x (inr i) e = ap (λ b. f y || b) (any_in f xs x i e) ∙ or_true (f y)
  where
    or_true : (b : Bool) → (b || true) ≡ true
    or_true true = refl
    or_true false = refl

same_number : (n : ℕ) → (n == n) ≡ true
same_number n = (Decides-eqb n n).1 refl

same_segment : (a : ℤ) → int_eq a a ≡ true
same_segment a = (Decides-int_eq a a).1 refl

-- ---- ends at a segment

module _ (session query : ℕ) (at : ℤ) where
  own_sending : (l : Link) (b : Bool) → is_at at l.from ≡ b → (e : ConnEnd) → In e (end_if b (end_of session query true l)) → IsOwn session query at e
  own_sending l true h e (inl q) = subst (IsOwn session query at) (sym q) (record { session_is = refl; query_is = refl; sends = λ x. (Decides-int_eq l.from at).0 h; hears = λ x. absurd (cc) })
  own_sending l true h e (inr i) = absurd i
  own_sending l false h e i = absurd i

  own_hearing : (l : Link) (b : Bool) → is_at at l.to ≡ b → (e : ConnEnd) → In e (end_if b (end_of session query false l)) → IsOwn session query at e
  own_hearing l true h e (inl q) = subst (IsOwn session query at) (sym q) (record { session_is = refl; query_is = refl; sends = λ x. absurd (cc); hears = λ x. (Decides-int_eq l.to at).0 h })
  own_hearing l true h e (inr i) = absurd i
  own_hearing l false h e i = absurd i

  own_at : (l : Link) (e : ConnEnd) → In e (ends_at session query at l) → IsOwn session query at e
  own_at l e i = by (In-cases e (end_if (is_at at l.from) (end_of session query true l)) (end_if (is_at at l.to) (end_of session query false l)) i)
    where
      by : In e (end_if (is_at at l.from) (end_of session query true l)) ⊎ In e (end_if (is_at at l.to) (end_of session query false l)) → IsOwn session query at e
      by (inl x) = own_sending l (is_at at l.from) refl e x
      by (inr x) = own_hearing l (is_at at l.to) refl e x

-- the ends of a worker are of its query and at its segment
pub own : (w : Worker) (session query : ℕ) → AreOwn session query w.at (ends_of w session query)
own w session query =
    let links = links_in w.site.schemas w.site.segments w.tree in
    All-from_in (IsOwn session query w.at) (ends_of w session query) (λ e i.
    let r = In-from_filter (is_of_slice w.slice) e (flat_map (ends_at session query w.at) links) i in
    let l = In-from_flat (ends_at session query w.at) e links r.0 in
    own_at session query w.at l.0 e l.2)

-- ---- one connection of a motion

module _ (q : Query) (m : Motion) (planned : In m (motions_in_plan q.site.schemas q.site.segments q.tree)) (from to : ℤ) (sender : In from m.senders) (receiver : In to m.receivers) where
  abbrev l : Link
  l = link_of m from to

  abbrev key : ConnKey
  key = key_of q.session q.number (link_of m from to)

  in_links : In (link_of m from to) (links_in q.site.schemas q.site.segments q.tree)
  in_links = In-flat links_of (link_of m from to) m (motions_in_plan q.site.schemas q.site.segments q.tree) planned
      (In-flat (λ a. map (link_of m a) m.receivers) (link_of m from to) from m.senders sender (In-map (link_of m from) to m.receivers receiver))

  pub is_sent : In (link_of m from to) (sending (worker_at q m.number from))
  is_sent = In-filter (is_sent_by (worker_at q m.number from)) (link_of m from to) (links_in q.site.schemas q.site.segments q.tree)
      (ap (λ b. b && int_eq from from) (same_number m.number) ∙ same_segment from) in_links

  sending_end : In (end_of q.session q.number true (link_of m from to)) (ends_of (worker_at q m.number from) q.session q.number)
  sending_end =
      let e = end_of q.session q.number true (link_of m from to) in
      In-filter (is_of_slice m.number) e (ends_in q.site.schemas q.site.segments q.tree q.session q.number from) (same_number m.number)
      (In-flat (ends_at q.session q.number from) e (link_of m from to) (links_in q.site.schemas q.site.segments q.tree) in_links
      (In-left e (end_if (is_at from from) e) (end_if (is_at from to) (end_of q.session q.number false (link_of m from to))) (subst (λ b. In e (end_if b e)) (sym (same_segment from)) (inl refl))))

  hearing_end : In (end_of q.session q.number false (link_of m from to)) (ends_of (worker_at q m.above to) q.session q.number)
  hearing_end =
      let e = end_of q.session q.number false (link_of m from to) in
      In-filter (is_of_slice m.above) e (ends_in q.site.schemas q.site.segments q.tree q.session q.number to) (same_number m.above)
      (In-flat (ends_at q.session q.number to) e (link_of m from to) (links_in q.site.schemas q.site.segments q.tree) in_links
      (In-right e (end_if (is_at to from) (end_of q.session q.number true (link_of m from to))) (end_if (is_at to to) e) (subst (λ b. In e (end_if b e)) (sym (same_segment to)) (inl refl))))

  pub sends : sends_by (ends_of (worker_at q m.number from) q.session q.number) (key_of q.session q.number (link_of m from to)) ≡ true
  sends = any_in (λ (e : ConnEnd). e.sending && key_eq e.key (key_of q.session q.number (link_of m from to))) (ends_of (worker_at q m.number from) q.session q.number) (end_of q.session q.number true (link_of m from to)) sending_end
      (key_eq-same (key_of q.session q.number (link_of m from to)))

  pub hears : hears_by (ends_of (worker_at q m.above to) q.session q.number) (key_of q.session q.number (link_of m from to)) ≡ true
  hears = any_in (λ (e : ConnEnd). not e.sending && key_eq e.key (key_of q.session q.number (link_of m from to))) (ends_of (worker_at q m.above to) q.session q.number) (end_of q.session q.number false (link_of m from to)) hearing_end
      (key_eq-same (key_of q.session q.number (link_of m from to)))

  pub hears_it : hears_motion (ends_of (worker_at q m.above to) q.session q.number) q.number m.number ≡ true
  hears_it = any_in (λ (e : ConnEnd). not e.sending && ((e.key.query == q.number) && (e.key.motion == m.number))) (ends_of (worker_at q m.above to) q.session q.number) (end_of q.session q.number false (link_of m from to)) hearing_end
      (ap (λ b. b && (m.number == m.number)) (same_number q.number) ∙ same_number m.number)
