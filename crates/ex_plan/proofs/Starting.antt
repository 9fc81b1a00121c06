-- Trees before their first pull.
use Rattle.std.proofs.Common.{◌≡◌, ℕ, suc, ◌+◌, arith, ◌++◌, ℤ, pos, Bool, true, false, ◌||◌, List, [], ◌∷◌, map, Option, Result, Ok, Err, refl, sym, ap, subst, ◌∙◌}
use Rattle.std.specs.Prelude.{IfOk}
use Rattle.ic_row.specs.declared.value.Kind.{Kind}
use Rattle.ic_row.specs.declared.order.Key.{Key}
use Rattle.pl_tree.specs.declared.node.Pair.{Pair}
use Rattle.std.specs.List.{AllByRecursion}
use Rattle.pl_tree.specs.Trees.{Tree, Join, nodes_in, motions_in}
use Rattle.pl_ops.specs.declared.loaded.Spread.{Spread}
use Rattle.pl_ops.specs.Streams.{silent}
use Rattle.pl_mean.specs.Parts.{Site}
use Rattle.pl_runs.specs.Steps.{Step, ended_by, is_take, is_take_from, input_of}
use Rattle.ic_motion.specs.declared.answers.MotionEnd.{MotionEnd}
use Rattle.ic_motion.specs.Hearing.{Listener, fresh, fresh_lane, senders_of, IsUnheard, has_ended}
use Rattle.ic_motion.specs.Hearing as hearing
use Rattle.ex_tree.specs.Parts.{Source, Part, Single, Hears, Over, Joins, AreApart}
use Rattle.ex_tree.specs.Running.{State, IsUncut, Holds, Runs, source_of}
use Rattle.ex_join.specs.Joins.{Joining}
use Rattle.ex_join.specs.Joins as joins
use Rattle.ex_tree.specs.declared.op.Op.{Op}
use Rattle.ex_tree.specs.Operators.{Gives}
use Rattle.ex_tree.specs.Plans.{Place, part_of, source_at}
use Rattle.ex_plan.specs.Workers.{Starts}

pub if_ok : {X E : Type 0} (r : Result X E) (P Q : X → Type 0) → IfOk r P → ((x : X) → P x → Q x) → IfOk r Q
if_ok (Ok x) P Q h f = f x h
if_ok (Err e) P Q h f = tt

-- ---- nodes

-- an operator over what stands below its node
pub grown : {X E F : Type 0} (r : Result X E) (op : Result Op F) (st : X → State) (s : Site) (p : Place) (i n : ℕ) (q : Single) (t c : Tree) → part_of s p i n t ≡ Over q (part_of s p (suc i) n c) → IfOk op (λ o. Gives q o silent [])
    → IfOk r (λ x. (o : Single) → IfOk op (λ k. Gives o k silent []) → Starts (Over o (part_of s p (i + 1) n c)) (st x)) → IfOk r (λ x. Starts (part_of s p i n t) (st x))
grown r op st s p i n q t c is g h =
    let next : i + 1 ≡ suc i = omega arith in
    if_ok r (λ x. (o : Single) → IfOk op (λ k. Gives o k silent []) → Starts (Over o (part_of s p (i + 1) n c)) (st x)) (λ x. Starts (part_of s p i n t) (st x)) h
    (λ x f. subst (λ w. Starts w (st x)) (ap (λ k. Over q (part_of s p k n c)) next ∙ sym is) (f q g))

-- a join over both sides
pub grown_join : {X E : Type 0} (r : Result X E) (st : X → State) (s : Site) (p : Place) (i n : ℕ) (on : List Pair) (t left right : Tree) → t ≡ Join on left right
    → IfOk r (λ x. Starts (Joins on (part_of s p (i + 1) n left) (part_of s p (i + 1 + nodes_in left) (n + motions_in left) right)) (st x)) → IfOk r (λ x. Starts (part_of s p i n t) (st x))
grown_join r st s p i n on t left right is h =
    let next : i + 1 ≡ suc i = omega arith in
    let behind : i + 1 + nodes_in left ≡ suc (i + nodes_in left) = omega arith in
    if_ok r (λ x. Starts (Joins on (part_of s p (i + 1) n left) (part_of s p (i + 1 + nodes_in left) (n + motions_in left) right)) (st x)) (λ x. Starts (part_of s p i n t) (st x)) h
    (λ x f. subst (λ w. Starts w (st x)) (ap (λ k. Joins on (part_of s p k n left) (part_of s p (i + 1 + nodes_in left) (n + motions_in left) right)) next
    ∙ ap (λ k. Joins on (part_of s p (suc i) n left) (part_of s p k (n + motions_in left) right)) behind ∙ sym (ap (part_of s p i n) is)) f)

-- a motion, whatever the tables
pub grown_motion : {X E : Type 0} (r : Result X E) (st : X → State) (site : List Spread → Site) (tables : List Spread) (p : Place) (i n : ℕ) (order : Option (List Key)) (t c : Tree) → part_of (site tables) p i n t ≡ Hears (source_at (site tables) p n order c)
    → IfOk r (λ x. (ts : List Spread) → Starts (Hears (source_at (site ts) p n order c)) (st x)) → IfOk r (λ x. Starts (part_of (site tables) p i n t) (st x))
grown_motion r st site tables p i n order t c is h =
    if_ok r (λ x. (ts : List Spread) → Starts (Hears (source_at (site ts) p n order c)) (st x)) (λ x. Starts (part_of (site tables) p i n t) (st x)) h (λ x f. subst (λ w. Starts w (st x)) (sym is) (f tables))

pub all_split : {A : Type 0} (P : A → Type 0) (xs ys : List A) → AllByRecursion P (xs ++ ys) → AllByRecursion P xs × AllByRecursion P ys
all_split P [] ys h = (tt, h)
all_split P (x ∷ xs) ys h = let k = all_split P xs ys h.1 in ((h.0, k.0), k.1)

-- ---- one motion

neither : (a b : Bool) → (a || b) ≡ false → (a ≡ false) × (b ≡ false)
neither true b h = absurd cc
neither false b h = (refl, h)

pub uncut : (motion : ℕ) (steps : List Step) → IsUnheard motion steps → IsUncut motion steps
uncut motion steps h = record {
  any = (taken (pos 0)).0;
  one = λ a. (taken a).1;
}
  where
    taken : (a : ℤ) → (ended_by (is_take motion) steps ≡ false) × (ended_by (is_take_from motion a) steps ≡ false)
    taken a =
        let ends : has_ended motion steps a ≡ false = (h.2 a).0 in
        let k = neither ((input_of motion steps).whole a) (ended_by (is_take motion) steps || ended_by (is_take_from motion a) steps) ends in
        neither (ended_by (is_take motion) steps) (ended_by (is_take_from motion a) steps) k.1

same_senders : (as_ : List ℤ) → senders_of (map fresh_lane as_) ≡ as_
same_senders [] = refl
same_senders (a ∷ as_) = ap (λ bs. a ∷ bs) (same_senders as_)

pub source_is : (end : MotionEnd) (senders : List ℤ) (order : Option (List Key)) (kinds : List Kind) → source_of (fresh end senders order kinds) ≡ record { end = end; order = order; kinds = kinds; senders = senders }
source_is end senders order kinds = ap (λ as_. record { end = end; order = order; kinds = kinds; senders = as_ }) (same_senders senders)

-- a motion that was made holds before its first call
pub holds : (end : MotionEnd) (senders : List ℤ) (order : Option (List Key)) (kinds : List Kind) (m : Listener) → m ≡ fresh end senders order kinds → ((steps : List Step) → IsUnheard end.motion steps → hearing.Hears m steps [])
    → (st : State) → ((steps : List Step) → Holds m steps [] → Runs (Hears (source_of m)) st steps []) → Starts (Hears (record { end = end; order = order; kinds = kinds; senders = senders })) st
holds end senders order kinds m is hears st runs steps quiet =
    let source : Source = record { end = end; order = order; kinds = kinds; senders = senders } in
    let none : IsUnheard end.motion steps = quiet source refl in
    let at : m.end.motion ≡ end.motion = ap (λ (x : Listener). x.end.motion) is in
    let h : Holds m steps [] = record {
      going = ap (λ (x : Listener). x.refused) is;
      uncut = subst (λ k. IsUncut k steps) (sym at) (uncut end.motion steps none);
      hears = hears steps none;
    } in
    subst (λ (x : Source). Runs (Hears x) st steps []) (ap source_of is ∙ source_is end senders order kinds) (runs steps h)

-- its senders and kinds are those of the plan
pub plan_holds : (end : MotionEnd) (senders gang : List ℤ) (order : Option (List Key)) (kinds planned : List Kind) (m : Listener) → senders ≡ gang → kinds ≡ planned → m ≡ fresh end senders order kinds → ((steps : List Step) → IsUnheard end.motion steps → hearing.Hears m steps [])
    → (st : State) → ((steps : List Step) → Holds m steps [] → Runs (Hears (source_of m)) st steps []) → Starts (Hears (record { end = end; order = order; kinds = planned; senders = gang })) st
plan_holds end senders gang order kinds planned m e f is hears st runs =
    subst (λ k. Starts (Hears (record { end = end; order = order; kinds = k; senders = gang })) st) f
    (subst (λ l. Starts (Hears (record { end = end; order = order; kinds = kinds; senders = l })) st) e (holds end senders order kinds m is hears st runs))

-- whatever the tables, in an order that was copied
pub in_order : {X E : Type 0} (r : Result X E) (st : X → State) (site : List Spread → Site) (p : Place) (n : ℕ) (copy order : Option (List Key)) (c : Tree) → copy ≡ order
    → IfOk r (λ x. (ts : List Spread) → Starts (Hears (source_at (site ts) p n copy c)) (st x)) → IfOk r (λ x. (ts : List Spread) → Starts (Hears (source_at (site ts) p n order c)) (st x))
in_order r st site p n copy order c e h =
    if_ok r (λ x. (ts : List Spread) → Starts (Hears (source_at (site ts) p n copy c)) (st x)) (λ x. (ts : List Spread) → Starts (Hears (source_at (site ts) p n order c)) (st x)) h
    (λ x f ts. subst (λ o. Starts (Hears (source_at (site ts) p n o c)) (st x)) e (f ts))

-- ---- joins

pub joined_starts : {X E : Type 0} (r : Result X E) (st : X → State) (join : Joining) (L R : State) (on : List Pair) (left right : Part) → AreApart left right → joins.Gives on join silent silent [] → Starts left L → Starts right R
    → IfOk r (λ x. (pairs : List Pair) (a b : Part) → AreApart a b → joins.Gives pairs join silent silent [] → Starts a L → Starts b R → Starts (Joins pairs a b) (st x)) → IfOk r (λ x. Starts (Joins on left right) (st x))
joined_starts r st join L R on left right apart gives f g h =
    if_ok r (λ x. (pairs : List Pair) (a b : Part) → AreApart a b → joins.Gives pairs join silent silent [] → Starts a L → Starts b R → Starts (Joins pairs a b) (st x)) (λ x. Starts (Joins on left right) (st x)) h
    (λ x k. k on left right apart gives f g)
