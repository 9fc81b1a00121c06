-- The connections of a motion, and their ends at the workers of both sides.
use Rattle.std.proofs.Common.{◌≡◌, ℕ, ℤ, Bool, true, false, ◌==◌, List, [], ◌∷◌, map, refl, sym, ap, ◌∙◌, subst, inl, inr}
use Rattle.std.specs.Prelude.{◌⊎◌, Contains, Any}
use Rattle.std.specs.Ordering.{int_eq}
use Rattle.std.proofs.lemmas.Bool.Decides.{Decides-int_eq, Decides-eqb}
use Rattle.ic_base.specs.declared.keys.ConnEnd.{ConnEnd}
use Rattle.ic_law.proofs.Lists.{Contains-none, Contains-head, Contains-tail, head_or_tail}
use Rattle.pl_plan.specs.Motions.{Motion, Link, dispatcher, motions_in_plan, link_of, links_of, links_in}
use Rattle.pl_plan.specs.Ends.{end_of, is_at, end_if, ends_at, ends_in}
use Rattle.pl_parts.proofs.Members.{In, In-left, In-right, In-cases, In-map, In-from_map, In-flat, In-from_flat, In-filter, In-from_filter}
use Rattle.pl_runs.specs.Slices.{Worker}
use Rattle.pl_runs.specs.Logs.{is_of_slice, ends_of}
use Rattle.ic_motion.specs.Pulling.{Listens}
use Rattle.ic_motion.specs.Sending.{SendsToEach}
use Rattle.ex_plan.proofs.Sources.{unique, rises}

pub in_contains : {A : Type 0} (xs : List A) (x : A) → In x xs → Contains xs x
in_contains [] x h = absurd h
in_contains (y ∷ xs) x (inl e) = subst (Contains (y ∷ xs)) (sym e) (Contains-head y xs)
in_contains (y ∷ xs) x (inr i) = Contains-tail y xs x (in_contains xs x i)

pub contains_in : {A : Type 0} (xs : List A) (x : A) → Contains xs x → In x xs
contains_in [] x h = absurd (Contains-none x h)
contains_in (y ∷ xs) x h = elim (head_or_tail y xs x h) [
  | inl e ↦ inl (sym e)
  | inr i ↦ inr (contains_in xs x i)
]

any_in : {A : Type 0} (P : A → Type 0) (xs : List A) (x : A) → In x xs → P x → Any P xs
any_in P xs x i p = let c = in_contains xs x i in (c.0, x, c.1, c.2, p)

in_any : {A : Type 0} (P : A → Type 0) (xs : List A) → Any P xs → (x : A) × In x xs × P x
in_any P xs h = (h.1, contains_in xs h.1 (h.0, h.2, h.3), h.4)

same_number : (n : ℕ) → (n == n) ≡ true
same_number n = (Decides-eqb n n).1 refl

same_segment : (a : ℤ) → int_eq a a ≡ true
same_segment a = (Decides-int_eq a a).1 refl

in_if : (b : Bool) (e x : ConnEnd) → In e (end_if b x) → e ≡ x
in_if true e x (inl q) = q
in_if true e x (inr i) = absurd i
in_if false e x i = absurd i

-- ---- links

pub in_links : (m : Motion) (from to : ℤ) → In from m.senders → In to m.receivers → In (link_of m from to) (links_of m)
in_links m from to sender receiver = In-flat (λ a. map (link_of m a) m.receivers) (link_of m from to) from m.senders sender (In-map (link_of m from) to m.receivers receiver)

pub record IsLink (m : Motion) (l : Link) : Type 0 where
  pub number : l.motion ≡ m.number
  pub above : l.above ≡ m.above
  pub sender : In l.from m.senders

pub from_links : (m : Motion) (l : Link) → In l (links_of m) → IsLink m l
from_links m l i =
    let a = In-from_flat (λ from. map (link_of m from) m.receivers) l m.senders i in
    let b = In-from_map (link_of m a.0) l m.receivers a.2 in
    record {
      number = ap (λ (x : Link). x.motion) b.2;
      above = ap (λ (x : Link). x.above) b.2;
      sender = subst (λ x. In x m.senders) (sym (ap (λ (x : Link). x.from) b.2)) a.1;
    }

module _ (w : Worker) (session query : ℕ) (m : Motion) (planned : In m (motions_in_plan w.site.schemas w.site.segments w.tree)) where
  planned_link : (from to : ℤ) → In from m.senders → In to m.receivers → In (link_of m from to) (links_in w.site.schemas w.site.segments w.tree)
  planned_link from to sender receiver = In-flat links_of (link_of m from to) m (motions_in_plan w.site.schemas w.site.segments w.tree) planned (in_links m from to sender receiver)

  -- ---- the sending ends

  sending_end : (to : ℤ) → m.number ≡ w.slice → In w.at m.senders → In to m.receivers → In (end_of session query true (link_of m w.at to)) (ends_of w session query)
  sending_end to is sender receiver =
      let e = end_of session query true (link_of m w.at to) in
      In-filter (is_of_slice w.slice) e (ends_in w.site.schemas w.site.segments w.tree session query w.at) ((Decides-eqb m.number w.slice).1 is)
      (In-flat (ends_at session query w.at) e (link_of m w.at to) (links_in w.site.schemas w.site.segments w.tree) (planned_link w.at to sender receiver)
      (In-left e (end_if (is_at w.at w.at) e) (end_if (is_at w.at to) (end_of session query false (link_of m w.at to))) (subst (λ b. In e (end_if b e)) (sym (same_segment w.at)) (inl refl))))

  pub sends : m.number ≡ w.slice → In w.at m.senders → SendsToEach (ends_of w session query) w.slice m.receivers
  sends is sender to there =
      any_in (λ (end : ConnEnd). (end.sending ≡ true) × (end.key.motion ≡ w.slice) × (end.key.to ≡ to)) (ends_of w session query) (end_of session query true (link_of m w.at to))
      (sending_end to is sender (contains_in m.receivers to there)) (refl, is, refl)

  -- ---- the receiving ends

  hearing_end : (from : ℤ) → m.above ≡ w.slice → In w.at m.receivers → In from m.senders → In (end_of session query false (link_of m from w.at)) (ends_of w session query)
  hearing_end from is receiver sender =
      let e = end_of session query false (link_of m from w.at) in
      In-filter (is_of_slice w.slice) e (ends_in w.site.schemas w.site.segments w.tree session query w.at) ((Decides-eqb m.above w.slice).1 is)
      (In-flat (ends_at session query w.at) e (link_of m from w.at) (links_in w.site.schemas w.site.segments w.tree) (planned_link from w.at sender receiver)
      (In-right e (end_if (is_at w.at from) (end_of session query true (link_of m from w.at))) (end_if (is_at w.at w.at) e) (subst (λ b. In e (end_if b e)) (sym (same_segment w.at)) (inl refl))))

  -- an end that hears this motion hears a sender of it
  sender_of : (e : ConnEnd) → In e (ends_of w session query) → e.sending ≡ false → e.key.motion ≡ m.number → In e.key.from m.senders
  sender_of e i hears number =
      let kept = In-from_filter (is_of_slice w.slice) e (ends_in w.site.schemas w.site.segments w.tree session query w.at) i in
      let linked = In-from_flat (ends_at session query w.at) e (links_in w.site.schemas w.site.segments w.tree) kept.0 in
      let moved = In-from_flat links_of linked.0 (motions_in_plan w.site.schemas w.site.segments w.tree) linked.1 in
      let it = from_links moved.0 linked.0 moved.2 in
      by linked.0 moved.0 moved.1 it (In-cases e (end_if (is_at w.at linked.0.from) (end_of session query true linked.0)) (end_if (is_at w.at linked.0.to) (end_of session query false linked.0)) linked.2)
    where
      by : (l : Link) (k : Motion) → In k (motions_in_plan w.site.schemas w.site.segments w.tree) → IsLink k l → In e (end_if (is_at w.at l.from) (end_of session query true l)) ⊎ In e (end_if (is_at w.at l.to) (end_of session query false l)) → In e.key.from m.senders
      by l k there it (inl x) = let same : e ≡ end_of session query true l = in_if (is_at w.at l.from) e (end_of session query true l) x in absurd (both (ap (λ (y : ConnEnd). y.sending) same) hears)
        where
          both : e.sending ≡ true → e.sending ≡ false → ⊥
          both a b = cc
      by l k there it (inr x) =
          let same : e ≡ end_of session query false l = in_if (is_at w.at l.to) e (end_of session query false l) x in
          let one : k ≡ m = unique (motions_in_plan w.site.schemas w.site.segments w.tree) k m (rises w.site.schemas w.site.segments 0 1 dispatcher w.tree) there planned (sym it.number ∙ sym (ap (λ (y : ConnEnd). y.key.motion) same) ∙ number) in
          subst (λ a. In a m.senders) (sym (ap (λ (y : ConnEnd). y.key.from) same)) (subst (λ (y : Motion). In l.from y.senders) one it.sender)

  pub listens : (a : ℤ) → In a m.senders → m.above ≡ w.slice → In w.at m.receivers → Listens (ends_of w session query) m.number m.senders
  listens a first is receiver = record {
    some_ = any_in (λ (end : ConnEnd). (end.sending ≡ false) × (end.key.motion ≡ m.number)) (ends_of w session query) (end_of session query false (link_of m a w.at)) (hearing_end a is receiver first) (refl, refl);
    each = λ sender h.
        let k = in_any (λ (end : ConnEnd). (end.sending ≡ false) × (end.key.motion ≡ m.number) × (end.key.from ≡ sender)) (ends_of w session query) h in
        in_contains m.senders sender (subst (λ x. In x m.senders) k.2.2 (sender_of k.0 k.1 k.2.0 k.2.1));
    heard = λ sender there.
        any_in (λ (end : ConnEnd). (end.sending ≡ false) × (end.key.motion ≡ m.number) × (end.key.from ≡ sender)) (ends_of w session query) (end_of session query false (link_of m sender w.at))
        (hearing_end sender is receiver (contains_in m.senders sender there)) (refl, refl, refl);
  }
