-- Who has begun the query and who has left it, after one event more.
use Rattle.std.proofs.Common.{◌≡◌, ℕ, zero, suc, ◌<◌, ◌≤◌, ℤ, List, [], ◌∷◌, ◌++◌, length, set, Bool, true, false, ◌&&◌, ◌||◌, Option, Some, refl, ap, sym, ◌∙◌, subst, arith, inl, inr, slice_get, length-set}
use Rattle.std.specs.List.{list_any}
use Rattle.std.specs.Ordering.{int_eq}
use Rattle.std.proofs.lemmas.Option.{slice_get_cases, slice_get_within}
use Rattle.std.proofs.lemmas.Bool.Decides.{Decides-int_eq}
use Rattle.ic_law.specs.declared.history.Entry.{Entry}
use Rattle.ic_law.specs.Streams.{node_of}
use Rattle.pl_runs.specs.Distributed.{Query}
use Rattle.ic_port.specs.Noding.{Noding}
use Rattle.gd_world.specs.declared.step.Step.{Step}
use Rattle.gd_world.specs.declared.step.Step.TheVariants as step
use Rattle.gd_world.specs.declared.world.World.{World}
use Rattle.gd_world.specs.Doings.{at_of}
use Rattle.gd_world.specs.Events.{Event, segment_at, asks_to_begin, begun_in, has_begun, asks_to_leave, left_with, left_in, has_left}
use Rattle.gd_world.specs.Worlds.{Account, all_ends, ReachedBy, IsReached, Stands}
use Rattle.gd_world.specs.Inside.{Stays, BeginsIf, LeavesIf, marked}
use Rattle.gd_world.proofs.Places.{get_set, int_same}

-- ---- one more

pub or_none : (b : Bool) → (b || false) ≡ b
or_none true = refl
or_none false = refl

pub any_push : {X : Type 0} (p : X → Bool) (xs : List X) (x : X) → list_any p (xs ++ x ∷ []) ≡ (list_any p xs || p x)
any_push p [] x = or_none (p x)
any_push p (y ∷ xs) x = by (p y) (any_push p xs x)
  where
    by : (b : Bool) → list_any p (xs ++ x ∷ []) ≡ (list_any p xs || p x) → (b || list_any p (xs ++ x ∷ [])) ≡ ((b || list_any p xs) || p x)
    by true e = refl
    by false e = e

-- ---- segments and positions

pub node_segment : (k : ℕ) → node_of (segment_at k) ≡ k
node_segment zero = refl
node_segment (suc k) = omega arith

pub int_apart : (x y : ℤ) → (x ≡ y → ⊥) → int_eq x y ≡ false
int_apart x y apart = by (int_eq x y) refl
  where
    by : (b : Bool) → int_eq x y ≡ b → int_eq x y ≡ false
    by true e = absurd (apart ((Decides-int_eq x y).0 e))
    by false e = e

-- a step asks only at its own segment
pub asks_elsewhere : (z : ℤ) (s : Step) → (at_of s ≡ z → ⊥) → (asks_to_begin z s ≡ false) × (asks_to_leave z s ≡ false)
asks_elsewhere z (step.Begin at) apart = (int_apart at z apart, refl)
asks_elsewhere z (step.Turn slice at) apart = (refl, refl)
asks_elsewhere z (step.Deliver number to) apart = (refl, refl)
asks_elsewhere z (step.Tick at) apart = (refl, refl)
asks_elsewhere z (step.Leave at) apart = (refl, int_apart at z apart)

-- ---- what a node reached

module _ (q : Query) (k : ℕ) where
  stays_by : (begun gone : Bool) (n m : Noding) → Stays n m → ReachedBy q k begun gone n → ReachedBy q k begun gone m
  stays_by true true n m stays was = (stays.0 ∙ was.0, stays.1 ∙ was.1)
  stays_by true false n m stays was = (stays.0 ∙ was.0, stays.1 ∙ was.1)
  stays_by false true n m stays was = was
  stays_by false false n m stays was = subst (λ i. i < q.number) (sym stays.0) was

  begins_by : (begun gone begins : Bool) (n m : Noding) → n.query < q.number → BeginsIf begins q.number (all_ends q (segment_at k)) n m → ReachedBy q k begun gone n → ReachedBy q k (begun || begins) gone m
  begins_by true true begins n m later goes was = absurd (omega (arith, later, was.0))
  begins_by true false begins n m later goes was = absurd (omega (arith, later, was.0))
  begins_by false true begins n m later goes was = absurd was
  begins_by false false true n m later goes was = goes
  begins_by false false false n m later goes was = stays_by false false n m goes was

  leaves_by : (begun gone leaves : Bool) (n m : Noding) → n.query ≡ q.number → LeavesIf leaves n m → ReachedBy q k begun gone n → ReachedBy q k begun (gone || leaves) m
  leaves_by true true true n m here goes was = (goes.0 ∙ was.0, goes.1)
  leaves_by true true false n m here goes was = stays_by true true n m goes was
  leaves_by true false true n m here goes was = (goes.0 ∙ was.0, goes.1)
  leaves_by true false false n m here goes was = stays_by true false n m goes was
  leaves_by false true leaves n m here goes was = absurd was
  leaves_by false false leaves n m here goes was = absurd (omega (arith, here, was))

  module _ (es : List Event) (e : Event) where
    reached_more : (m : Noding) → ReachedBy q k (has_begun (segment_at k) es || begun_in (segment_at k) e) (has_left (segment_at k) es || left_in (segment_at k) e) m → IsReached q k (es ++ e ∷ []) m
    reached_more m reached =
        subst (λ b. ReachedBy q k b (has_left (segment_at k) (es ++ e ∷ [])) m) (sym (any_push (begun_in (segment_at k)) es e))
        (subst (λ g. ReachedBy q k (has_begun (segment_at k) es || begun_in (segment_at k) e) g m) (sym (any_push (left_in (segment_at k)) es e)) reached)

    pub stays_reached : (n m : Noding) → begun_in (segment_at k) e ≡ false → left_in (segment_at k) e ≡ false → Stays n m → IsReached q k es n → IsReached q k (es ++ e ∷ []) m
    stays_reached n m no_begin no_leave stays was =
        reached_more m
        (subst (λ b. ReachedBy q k b (has_left (segment_at k) es || left_in (segment_at k) e) m) (sym (ap (λ c. has_begun (segment_at k) es || c) no_begin ∙ or_none (has_begun (segment_at k) es)))
        (subst (λ g. ReachedBy q k (has_begun (segment_at k) es) g m) (sym (ap (λ c. has_left (segment_at k) es || c) no_leave ∙ or_none (has_left (segment_at k) es)))
        (stays_by (has_begun (segment_at k) es) (has_left (segment_at k) es) n m stays was)))

    pub begins_reached : (begins : Bool) (n m : Noding) → begun_in (segment_at k) e ≡ begins → left_in (segment_at k) e ≡ false → n.query < q.number → BeginsIf begins q.number (all_ends q (segment_at k)) n m
        → IsReached q k es n → IsReached q k (es ++ e ∷ []) m
    begins_reached begins n m is no_leave later goes was =
        reached_more m
        (subst (λ b. ReachedBy q k (has_begun (segment_at k) es || b) (has_left (segment_at k) es || left_in (segment_at k) e) m) (sym is)
        (subst (λ g. ReachedBy q k (has_begun (segment_at k) es || begins) g m) (sym (ap (λ c. has_left (segment_at k) es || c) no_leave ∙ or_none (has_left (segment_at k) es)))
        (begins_by (has_begun (segment_at k) es) (has_left (segment_at k) es) begins n m later goes was)))

    pub leaves_reached : (leaves : Bool) (n m : Noding) → begun_in (segment_at k) e ≡ false → left_in (segment_at k) e ≡ leaves → n.query ≡ q.number → LeavesIf leaves n m → IsReached q k es n → IsReached q k (es ++ e ∷ []) m
    leaves_reached leaves n m no_begin is here goes was =
        reached_more m
        (subst (λ b. ReachedBy q k b (has_left (segment_at k) es || left_in (segment_at k) e) m) (sym (ap (λ c. has_begun (segment_at k) es || c) no_begin ∙ or_none (has_begun (segment_at k) es)))
        (subst (λ g. ReachedBy q k (has_begun (segment_at k) es) (has_left (segment_at k) es || g) m) (sym is)
        (leaves_by (has_begun (segment_at k) es) (has_left (segment_at k) es) leaves n m here goes was)))

-- ---- what is known of a node that has reached so far

pub not_yet : (q : Query) (k : ℕ) (es : List Event) (n : Noding) → IsReached q k es n → n.query < q.number → has_begun (segment_at k) es ≡ false
not_yet q k es n reached earlier = by (has_begun (segment_at k) es) (has_left (segment_at k) es) reached
  where
    by : (b g : Bool) → ReachedBy q k b g n → b ≡ false
    by true true r = absurd (omega (arith, earlier, r.0))
    by true false r = absurd (omega (arith, earlier, r.0))
    by false g r = refl

pub begun_is : (q : Query) (k : ℕ) (es : List Event) (n : Noding) → IsReached q k es n → q.number ≤ n.query → has_begun (segment_at k) es ≡ true
begun_is q k es n reached least = by (has_begun (segment_at k) es) (has_left (segment_at k) es) reached
  where
    by : (b g : Bool) → ReachedBy q k b g n → b ≡ true
    by true g r = refl
    by false true r = absurd r
    by false false r = absurd (omega (arith, least, r))

pub not_here : (q : Query) (k : ℕ) (es : List Event) (n : Noding) → IsReached q k es n → (n.query ≡ q.number → ⊥) → has_begun (segment_at k) es ≡ false
not_here q k es n reached other = by (has_begun (segment_at k) es) (has_left (segment_at k) es) reached
  where
    by : (b g : Bool) → ReachedBy q k b g n → b ≡ false
    by true true r = absurd (other r.0)
    by true false r = absurd (other r.0)
    by false g r = refl

pub ends_there : (q : Query) (k : ℕ) (es : List Event) (n : Noding) → IsReached q k es n → n.query ≡ q.number → has_left (segment_at k) es ≡ false → n.ends ≡ all_ends q (segment_at k)
ends_there q k es n reached here stays = by (has_begun (segment_at k) es) (has_left (segment_at k) es) stays reached
  where
    by : (b g : Bool) → g ≡ false → ReachedBy q k b g n → n.ends ≡ all_ends q (segment_at k)
    by true true e r = absurd (let bad : true ≡ false = e in cc)
    by true false e r = r.1
    by false true e r = absurd r
    by false false e r = absurd (omega (arith, here, r))

pub upto_is : (q : Query) (k : ℕ) (es : List Event) (n : Noding) → IsReached q k es n → n.query ≤ q.number
upto_is q k es n reached = by (has_begun (segment_at k) es) (has_left (segment_at k) es) reached
  where
    by : (b g : Bool) → ReachedBy q k b g n → n.query ≤ q.number
    by true true r = omega (arith, r.0)
    by true false r = omega (arith, r.0)
    by false true r = absurd r
    by false false r = omega (arith, r)

-- ---- the marks

-- the marks of those who left are set
pub record MarksOn (a b : World) (s : Step) (entry : Option Entry) : Type 0 where
  pub count : length b.left.items ≡ length a.left.items
  pub each : (k : ℕ) (gone : Bool) → slice_get b.left.items k ≡ Some gone
      → (was : Bool) × (slice_get a.left.items k ≡ Some was) × (gone ≡ (was || (asks_to_leave (segment_at k) s && left_with entry)))

pub marks_same : (a b : World) (s : Step) (entry : Option Entry) → b.left ≡ a.left → ((z : ℤ) → asks_to_leave z s ≡ false) → MarksOn a b s entry
marks_same a b s entry same none = record {
  count = ap (λ v. length v.items) same;
  each = λ k gone here. (
    gone,
    sym (ap (λ v. slice_get v.items k) same) ∙ here,
    sym (or_none gone) ∙ ap (λ c. gone || (c && left_with entry)) (sym (none (segment_at k))),
  );
}

pub marks_leave : (a b : World) (at : ℤ) (entry : Option Entry) (gone : Bool) → at ≡ segment_at (node_of at) → b.left.items ≡ set a.left.items (node_of at) gone → marked (slice_get a.left.items (node_of at)) ≡ false
    → left_with entry ≡ gone → MarksOn a b (step.Leave at) entry
marks_leave a b at entry gone back is unmarked told = record {
  count = ap length is ∙ length-set a.left.items (node_of at) gone;
  each = λ k g here.
      elim (get_set a.left.items (node_of at) k gone g (sym (ap (λ l. slice_get l k) is) ∙ here)) [
        | inl w ↦ elim (slice_get_cases a.left.items k).1 [
          | inl was ↦
              let clear : was.0 ≡ false = sym (ap marked was.2) ∙ ap (λ i. marked (slice_get a.left.items i)) (sym w.0) ∙ unmarked in
              let equal : int_eq at (segment_at k) ≡ true = ap (int_eq at) (sym (back ∙ ap segment_at w.0)) ∙ int_same at in (
                was.0,
                was.2,
                w.1 ∙ sym told ∙ sym (ap (λ c. c && left_with entry) equal) ∙ ap (λ c. c || (int_eq at (segment_at k) && left_with entry)) (sym clear),
              )
          | inr none ↦ absurd (omega (arith, none.0, slice_get_within b.left.items k g here, ap length is ∙ length-set a.left.items (node_of at) gone))
        ]
        | inr w ↦
            let apart : int_eq at (segment_at k) ≡ false = int_apart at (segment_at k) (λ e. w.0 (ap node_of e ∙ node_segment k)) in
            (g, w.1, sym (or_none g) ∙ ap (λ c. g || (c && left_with entry)) (sym apart))
      ];
}

pub left_on : (q : Query) (x : Account) (a b : World) (e : Event) → Stands q x a → MarksOn a b e.did.step e.entry → (k : ℕ) (gone : Bool) → slice_get b.left.items k ≡ Some gone → gone ≡ has_left (segment_at k) (x.events ++ e ∷ [])
left_on q x a b e stands marks k gone here =
    let w = marks.each k gone here in w.2 ∙ ap (λ c. c || left_in (segment_at k) e) (stands.left k w.0 w.1) ∙ sym (any_push (left_in (segment_at k)) x.events e)

-- the mark of a node tells whether it has left
pub mark_is : (q : Query) (x : Account) (w : World) (k : ℕ) → Stands q x w → k < length w.session.nodes → marked (slice_get w.left.items k) ≡ has_left (segment_at k) x.events
mark_is q x w k stands within = elim (slice_get_cases w.left.items k).1 [
  | inl m ↦ ap marked m.2 ∙ stands.left k m.0 m.2
  | inr none ↦ absurd (omega (arith, none.0, within, stands.marks))
]
