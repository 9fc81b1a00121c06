-- The first fault as a function is the first fault.
use Rattle.std.proofs.Common.{◌≡◌, ◌⊎◌, ℕ, ◌+◌, ◌<◌, ◌≤◌, List, [], ◌∷◌, ◌++◌, Bool, true, false, cond, ◌&&◌, nat_lt, Some, None, refl, ap, sym, ◌∙◌, subst, arith, inl, inr}
use Rattle.std.specs.List.{AllByRecursion}
use Rattle.std.proofs.lemmas.Bool.{and_parts, ltb-true, lt-ltb}
use Rattle.pl_tree.specs.declared.node.Plan.{Plan}
use Rattle.pl_tree.specs.Trees.{Tree, tree_in}
use Rattle.pl_plan.specs.declared.rule.Rule.{Rule}
use Rattle.pl_plan.specs.declared.rule.Rule.TheVariants.{UnknownTable, Column, ColumnKind, JoinLocus, AggLocus, LimitLocus, OrderMissing, MotionAboveEntry, PartialUnmatched, NotAtEntry, TooWide, TooMany}
use Rattle.pl_plan.specs.declared.rule.PlanFault.{PlanFault}
use Rattle.pl_plan.specs.Places.{Place, places_in, is_root}
use Rattle.pl_plan.specs.Motions.{ring_room, workers}
use Rattle.pl_plan.specs.Rules.{Given, Breaks, rule_number, most_bytes, most_workers}
use Rattle.pl_plan.specs.Soundness.{IsUnbroken, IsSound, IsFirstFault}
use Rattle.icq_top.specs.declared.stop.Stop.TheVariants.{Unsound}
use Rattle.icq_top.specs.Judging.{tests_at, first_rule, fault_or, fault_among, fault_of, FaultsAreFirst, refusal_or, refusal_from}

-- ---- one node

-- each test says what it tests
abbrev Tell : Given → Place → List (Rule × Bool) → Type 0
Tell g p [] = Unit {0}
Tell g p (t ∷ ts) = (t.1 ≡ true → Breaks g p t.0) × Tell g p ts

-- the rule is broken, and the rules before it have lesser numbers
abbrev Stands : Rule → List (Rule × Bool) → Type 0
Stands rule [] = ⊥
Stands rule (t ∷ ts) = ((t.0 ≡ rule) × (t.1 ≡ true)) ⊎ ((rule_number t.0 < rule_number rule) × Stands rule ts)

first_is : (g : Given) (p : Place) (rule : Rule) (ts : List (Rule × Bool)) → Tell g p ts → Stands rule ts → ((r : Rule) → Breaks g p r → rule_number rule ≤ rule_number r) → first_rule ts ≡ Some rule
first_is g p rule [] tell stands least = absurd stands
first_is g p rule (t ∷ ts) tell stands least =
    elim stands [
      | inl w ↦ ap (λ b. cond b (Some t.0) (first_rule ts)) w.1 ∙ ap Some w.0
      | inr w ↦ by t.1 refl w.0 (first_is g p rule ts tell.1 w.1 least)
    ]
  where
    by : (b : Bool) → t.1 ≡ b → rule_number t.0 < rule_number rule → first_rule ts ≡ Some rule → first_rule (t ∷ ts) ≡ Some rule
    by true e lt later = absurd (let le = least t.0 (tell.0 e) in omega (arith, le, lt))
    by false e lt later = ap (λ b. cond b (Some t.0) (first_rule ts)) e ∙ later

none_is : (g : Given) (p : Place) (ts : List (Rule × Bool)) → Tell g p ts → ((r : Rule) → Breaks g p r → ⊥) → first_rule ts ≡ None
none_is g p [] tell sound = refl
none_is g p (t ∷ ts) tell sound = by t.1 refl (none_is g p ts tell.1 sound)
  where
    by : (b : Bool) → t.1 ≡ b → first_rule ts ≡ None → first_rule (t ∷ ts) ≡ None
    by true e later = absurd (sound t.0 (tell.0 e))
    by false e later = ap (λ b. cond b (Some t.0) (first_rule ts)) e ∙ later

tells_limit : (root : Bool) (most n : ℕ) → (root && nat_lt most n) ≡ true → (root ≡ true) × (most < n) × (n ≡ n)
tells_limit root most n e = let h = and_parts root (nat_lt most n) e in (h.0, ltb-true most n h.1, refl)

is_limit : (root : Bool) (most n : ℕ) → root ≡ true → most < n → (root && nat_lt most n) ≡ true
is_limit root most n is lt = ap (λ b. b && nat_lt most n) is ∙ lt-ltb most n lt

tells : (g : Given) (p : Place) → Tell g p (tests_at g p)
unfolding tests_at
tells g p =
    (λ e. e, (λ e. e, (λ e. e, (λ e. e, (λ e. e, (λ e. e, (λ e. e, (λ e. e, (λ e. e, (λ e. e, (λ e. tells_limit (is_root p.above) most_bytes (ring_room g.schemas g.segments g.settings p.node) e, (λ e. tells_limit (is_root p.above) most_workers (workers g.schemas g.segments p.node) e, tt))))))))))))

stands : (g : Given) (p : Place) (rule : Rule) → Breaks g p rule → Stands rule (tests_at g p)
unfolding tests_at
stands g p UnknownTable h = inl (refl, h)
stands g p Column h = inr (omega arith, inl (refl, h))
stands g p ColumnKind h = inr (omega arith, inr (omega arith, inl (refl, h)))
stands g p JoinLocus h = inr (omega arith, inr (omega arith, inr (omega arith, inl (refl, h))))
stands g p AggLocus h = inr (omega arith, inr (omega arith, inr (omega arith, inr (omega arith, inl (refl, h)))))
stands g p LimitLocus h = inr (omega arith, inr (omega arith, inr (omega arith, inr (omega arith, inr (omega arith, inl (refl, h))))))
stands g p OrderMissing h = inr (omega arith, inr (omega arith, inr (omega arith, inr (omega arith, inr (omega arith, inr (omega arith, inl (refl, h)))))))
stands g p MotionAboveEntry h = inr (omega arith, inr (omega arith, inr (omega arith, inr (omega arith, inr (omega arith, inr (omega arith, inr (omega arith, inl (refl, h))))))))
stands g p PartialUnmatched h = inr (omega arith, inr (omega arith, inr (omega arith, inr (omega arith, inr (omega arith, inr (omega arith, inr (omega arith, inr (omega arith, inl (refl, h)))))))))
stands g p NotAtEntry h = inr (omega arith, inr (omega arith, inr (omega arith, inr (omega arith, inr (omega arith, inr (omega arith, inr (omega arith, inr (omega arith, inr (omega arith, inl (refl, h))))))))))
stands g p (TooWide bytes) h =
    inr (omega arith, inr (omega arith, inr (omega arith, inr (omega arith, inr (omega arith, inr (omega arith, inr (omega arith, inr (omega arith, inr (omega arith, inr (omega arith, inl (ap TooWide (sym h.2), is_limit (is_root p.above) most_bytes (ring_room g.schemas g.segments g.settings p.node) h.0 (subst (λ n. most_bytes < n) h.2 h.1))))))))))))
stands g p (TooMany n) h =
    inr (omega arith, inr (omega arith, inr (omega arith, inr (omega arith, inr (omega arith, inr (omega arith, inr (omega arith, inr (omega arith, inr (omega arith, inr (omega arith, inr (omega arith, inl (ap TooMany (sym h.2), is_limit (is_root p.above) most_workers (workers g.schemas g.segments p.node) h.0 (subst (λ n. most_workers < n) h.2 h.1)))))))))))))

pub at_place : (g : Given) (p : Place) (rule : Rule) → Breaks g p rule → ((r : Rule) → Breaks g p r → rule_number rule ≤ rule_number r) → first_rule (tests_at g p) ≡ Some rule
at_place g p rule broken least = first_is g p rule (tests_at g p) (tells g p) (stands g p rule broken) least

unbroken : (g : Given) (p : Place) → IsUnbroken g p → first_rule (tests_at g p) ≡ None
unbroken g p is = none_is g p (tests_at g p) (tells g p) is

-- ---- all nodes

sound_among : (g : Given) (ps : List Place) → AllByRecursion (IsUnbroken g) ps → fault_among g ps ≡ None
sound_among g [] sound = refl
sound_among g (p ∷ ps) sound = ap (λ o. fault_or p.number o (fault_among g ps)) (unbroken g p sound.0) ∙ sound_among g ps sound.1

first_among : (g : Given) (before : List Place) (p : Place) (after : List Place) (rule : Rule) → AllByRecursion (IsUnbroken g) before → Breaks g p rule
    → ((r : Rule) → Breaks g p r → rule_number rule ≤ rule_number r) → fault_among g (before ++ p ∷ after) ≡ Some (record { node = p.number; rule = rule })
first_among g [] p after rule sound broken least = ap (λ o. fault_or p.number o (fault_among g after)) (at_place g p rule broken least)
first_among g (q ∷ before) p after rule sound broken least =
    ap (λ o. fault_or q.number o (fault_among g (before ++ p ∷ after))) (unbroken g q sound.0) ∙ first_among g before p after rule sound.1 broken least

pub first_fault : (g : Given) (tree : Tree) (fault : PlanFault) → IsFirstFault g tree fault → fault_of g tree ≡ Some fault
first_fault g tree fault x =
    ap (fault_among g) x.stands ∙ first_among g x.before x.place x.after fault.rule x.sound x.broken x.least
    ∙ ap (λ n. Some (record { node = n; rule = fault.rule })) (sym x.number)

pub no_fault : (g : Given) (tree : Tree) → IsSound g tree → fault_of g tree ≡ None
no_fault g tree sound = sound_among g (places_in tree) sound

pub faults_are_first : FaultsAreFirst
faults_are_first = record { fault = first_fault; sound = no_fault }

-- ---- all plans

-- a sound plan hands the refusal on to the plans behind it
pub one_judged : (g : Given) (queries : List Plan) (query : ℕ) (plan : Plan) (plans : List Plan) → refusal_from g 1 queries ≡ refusal_from g query (plan ∷ plans) → IsSound g (tree_in plan)
    → refusal_from g 1 queries ≡ refusal_from g (query + 1) plans
one_judged g queries query plan plans e sound = e ∙ ap (λ o. refusal_or query o (refusal_from g (query + 1) plans)) (no_fault g (tree_in plan) sound)

pub one_refused : (g : Given) (queries : List Plan) (query : ℕ) (plan : Plan) (plans : List Plan) (fault : PlanFault) → refusal_from g 1 queries ≡ refusal_from g query (plan ∷ plans) → IsFirstFault g (tree_in plan) fault
    → refusal_from g 1 queries ≡ Some (Unsound query fault)
one_refused g queries query plan plans fault e first = e ∙ ap (λ o. refusal_or query o (refusal_from g (query + 1) plans)) (first_fault g (tree_in plan) fault first)
