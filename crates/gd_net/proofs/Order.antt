-- Numbered datagrams in order: what one more changes, and what one fewer.
use Rattle.std.proofs.Common.{◌≡◌, ℕ, ◌<◌, ◌≤◌, List, [], ◌∷◌, ◌++◌, length, nat_le, cond, Bool, true, false, refl, ap, sym, ◌∙◌, subst, arith, inl, inr, ◌⊎◌}
use Rattle.std.proofs.lemmas.Bool.{cond_both, cond-true, cond-false, leb-true, leb-false, le-leb, lt-leb}
use Rattle.std.proofs.lemmas.Bool.Decides.{leb_tells}
use Rattle.std.specs.List.{AllByRecursion}
use Rattle.gd_net.specs.declared.node.Numbered.{Numbered}
use Rattle.gd_net.specs.Inside.{insert, in_order}

-- ---- what holds of each

pub all-append : {X : Type 0} (P : X → Type 0) (xs ys : List X) → AllByRecursion P xs → AllByRecursion P ys → AllByRecursion P (xs ++ ys)
all-append P [] ys h g = g
all-append P (x ∷ xs) ys h g = (h.0, all-append P xs ys h.1 g)

pub all-weaken : {X : Type 0} (P Q : X → Type 0) (xs : List X) → ((x : X) → P x → Q x) → AllByRecursion P xs → AllByRecursion Q xs
all-weaken P Q [] f h = tt
all-weaken P Q (x ∷ xs) f h = (f x h.0, all-weaken P Q xs f h.1)

pub all_insert : (P : Numbered → Type 0) (e : Numbered) (es : List Numbered) → P e → AllByRecursion P es → AllByRecursion P (insert e es)
all_insert P e [] p h = (p, tt)
all_insert P e (f ∷ fs) p h =
    cond_both (nat_le e.number f.number) (e ∷ f ∷ fs) (f ∷ insert e fs) (AllByRecursion P) (λ is. (p, (h.0, h.1))) (λ is. (h.0, all_insert P e fs p h.1))

pub all_in_order : (P : Numbered → Type 0) (es : List Numbered) → AllByRecursion P es → AllByRecursion P (in_order es)
all_in_order P [] h = tt
all_in_order P (e ∷ es) h = all_insert P e (in_order es) h.0 (all_in_order P es h.1)

-- each is at most as great as every later one
abbrev IsUp : List Numbered → Type 0
IsUp [] = Unit {0}
IsUp (e ∷ es) = AllByRecursion (λ f. e.number ≤ f.number) es × IsUp es

up_insert : (e : Numbered) (es : List Numbered) → IsUp es → IsUp (insert e es)
up_insert e [] h = (tt, tt)
up_insert e (f ∷ fs) h =
    cond_both (nat_le e.number f.number) (e ∷ f ∷ fs) (f ∷ insert e fs) IsUp
    (λ is. let le : e.number ≤ f.number = leb-true e.number f.number is in
    ((le, all-weaken (λ g. f.number ≤ g.number) (λ g. e.number ≤ g.number) fs (λ g more. omega (arith, le, more)) h.0), h))
    (λ is. let lt : f.number < e.number = leb-false e.number f.number is in
    (all_insert (λ g. f.number ≤ g.number) e fs (omega (arith, lt)) h.0, up_insert e fs h.1))

up_in_order : (es : List Numbered) → IsUp (in_order es)
up_in_order [] = tt
up_in_order (e ∷ es) = up_insert e (in_order es) (up_in_order es)

-- ---- one more, with the greatest number

insert_last : (e : Numbered) (es : List Numbered) → AllByRecursion (λ f. f.number < e.number) es → insert e es ≡ es ++ e ∷ []
insert_last e [] h = refl
insert_last e (f ∷ fs) h = cond-false (nat_le e.number f.number) (e ∷ f ∷ fs) (f ∷ insert e fs) (lt-leb e.number f.number h.0) ∙ ap (λ l. f ∷ l) (insert_last e fs h.1)

insert_before : (a e : Numbered) (es : List Numbered) → a.number ≤ e.number → insert a (es ++ e ∷ []) ≡ insert a es ++ e ∷ []
insert_before a e [] le = cond-true (nat_le a.number e.number) (a ∷ e ∷ []) (e ∷ a ∷ []) (le-leb a.number e.number le)
insert_before a e (f ∷ fs) le =
    elim (nat_le a.number f.number) as (λ b. cond b (a ∷ f ∷ (fs ++ e ∷ [])) (f ∷ insert a (fs ++ e ∷ [])) ≡ cond b (a ∷ f ∷ fs) (f ∷ insert a fs) ++ e ∷ []) [
      | true ↦ refl
      | false ↦ ap (λ l. f ∷ l) (insert_before a e fs le)
    ]

pub in_order_more : (xs ys : List Numbered) (e : Numbered) → AllByRecursion (λ f. f.number < e.number) (xs ++ ys) → in_order (xs ++ e ∷ ys) ≡ in_order (xs ++ ys) ++ e ∷ []
in_order_more [] ys e h = insert_last e (in_order ys) (all_in_order (λ f. f.number < e.number) ys h)
in_order_more (x ∷ xs) ys e h =
    ap (insert x) (in_order_more xs ys e h.1) ∙ insert_before x e (in_order (xs ++ ys)) (let lt : x.number < e.number = h.0 in omega (arith, lt))

-- ---- one fewer

-- one of them, those before it and those after it, and all except that one
pub record Leaves (Q : Numbered → Type 0) (e : Numbered) (all left : List Numbered) : Type 0 where
  pub before : List Numbered
  pub after : List Numbered
  pub are : all ≡ before ++ e ∷ after
  pub others : left ≡ before ++ after
  pub none : AllByRecursion Q before

insert_first : (x : Numbered) (es : List Numbered) → AllByRecursion (λ f. x.number ≤ f.number) es → insert x es ≡ x ∷ es
insert_first x [] h = refl
insert_first x (f ∷ fs) h = cond-true (nat_le x.number f.number) (x ∷ f ∷ fs) (f ∷ insert x fs) (le-leb x.number f.number h.0)

-- it comes before all of its kind that aren't less
insert_leaves : (Q : Numbered → Type 0) (e : Numbered) (es : List Numbered) → AllByRecursion (λ f. Q f ⊎ (e.number ≤ f.number)) es → Leaves Q e (insert e es) es
insert_leaves Q e [] h = record { before = []; after = []; are = refl; others = refl; none = tt }
insert_leaves Q e (f ∷ fs) h =
    elim (leb_tells e.number f.number) [
      | inl w ↦ record { before = []; after = f ∷ fs; are = cond-true (nat_le e.number f.number) (e ∷ f ∷ fs) (f ∷ insert e fs) w.0; others = refl; none = tt }
      | inr w ↦
          let rest = insert_leaves Q e fs h.1 in
          let lt : f.number < e.number = w.1 in
          let q : Q f = elim h.0 [ inl q ↦ q | inr le ↦ let le' : e.number ≤ f.number = le in absurd (omega (arith, lt, le')) ] in
          record {
            before = f ∷ rest.before;
            after = rest.after;
            are = cond-false (nat_le e.number f.number) (e ∷ f ∷ fs) (f ∷ insert e fs) w.0 ∙ ap (λ l. f ∷ l) rest.are;
            others = ap (λ l. f ∷ l) rest.others;
            none = (q, rest.none);
          }
    ]

more_leaves : (Q : Numbered → Type 0) (x e : Numbered) (before after : List Numbered) → Q x → IsUp (before ++ e ∷ after) → AllByRecursion Q before
    → Leaves Q e (insert x (before ++ e ∷ after)) (insert x (before ++ after))
more_leaves Q x e [] after q up none =
    elim (leb_tells x.number e.number) [
      | inl w ↦
          let le : x.number ≤ e.number = w.1 in
          record {
            before = x ∷ [];
            after = after;
            are = cond-true (nat_le x.number e.number) (x ∷ e ∷ after) (e ∷ insert x after) w.0;
            others = insert_first x after (all-weaken (λ f. e.number ≤ f.number) (λ f. x.number ≤ f.number) after (λ f more. omega (arith, le, more)) up.0);
            none = (q, tt);
          }
      | inr w ↦ record {
        before = [];
        after = insert x after;
        are = cond-false (nat_le x.number e.number) (x ∷ e ∷ after) (e ∷ insert x after) w.0;
        others = refl;
        none = tt;
      }
    ]
more_leaves Q x e (b ∷ bs) after q up none =
    elim (leb_tells x.number b.number) [
      | inl w ↦ record {
        before = x ∷ b ∷ bs;
        after = after;
        are = cond-true (nat_le x.number b.number) (x ∷ b ∷ (bs ++ e ∷ after)) (b ∷ insert x (bs ++ e ∷ after)) w.0;
        others = cond-true (nat_le x.number b.number) (x ∷ b ∷ (bs ++ after)) (b ∷ insert x (bs ++ after)) w.0;
        none = (q, none);
      }
      | inr w ↦
          let rest = more_leaves Q x e bs after q up.1 none.1 in
          record {
            before = b ∷ rest.before;
            after = rest.after;
            are = cond-false (nat_le x.number b.number) (x ∷ b ∷ (bs ++ e ∷ after)) (b ∷ insert x (bs ++ e ∷ after)) w.0 ∙ ap (λ l. b ∷ l) rest.are;
            others = cond-false (nat_le x.number b.number) (x ∷ b ∷ (bs ++ after)) (b ∷ insert x (bs ++ after)) w.0 ∙ ap (λ l. b ∷ l) rest.others;
            none = (none.0, rest.none);
          }
    ]

along : (Q : Numbered → Type 0) (x e : Numbered) (all left : List Numbered) → Q x → IsUp all → Leaves Q e all left → Leaves Q e (insert x all) (insert x left)
along Q x e all left q up w =
    let P : List Numbered → Type 0 = λ l. Leaves Q e (insert x l) (insert x left) in
    let P' : List Numbered → Type 0 = λ l. Leaves Q e (insert x (w.before ++ e ∷ w.after)) (insert x l) in
    subst P (sym w.are) (subst P' (sym w.others) (more_leaves Q x e w.before w.after q (subst IsUp w.are up) w.none))

-- among others that are of the kind Q, and others still that are no less or of the kind Q
pub in_order_leaves : (Q : Numbered → Type 0) (xs ys : List Numbered) (e : Numbered) → AllByRecursion Q xs → AllByRecursion (λ f. Q f ⊎ (e.number ≤ f.number)) ys
    → Leaves Q e (in_order (xs ++ e ∷ ys)) (in_order (xs ++ ys))
in_order_leaves Q [] ys e before after = insert_leaves Q e (in_order ys) (all_in_order (λ f. Q f ⊎ (e.number ≤ f.number)) ys after)
in_order_leaves Q (x ∷ xs) ys e before after =
    along Q x e (in_order (xs ++ e ∷ ys)) (in_order (xs ++ ys)) before.0 (up_in_order (xs ++ e ∷ ys)) (in_order_leaves Q xs ys e before.1 after)

-- ---- none

pub in_order_none : (es : List Numbered) → in_order es ≡ [] → es ≡ []
in_order_none [] h = refl
in_order_none (e ∷ es) h = absurd (some e (in_order es) h)
  where
    some : (e : Numbered) (es : List Numbered) → insert e es ≡ [] → ⊥
    some e [] h = cc
    some e (f ∷ fs) h = both (nat_le e.number f.number) (e ∷ f ∷ fs) (insert e fs) h
      where
        both : (b : Bool) (l k : List Numbered) → cond b (e ∷ f ∷ fs) (f ∷ k) ≡ [] → ⊥
        both true l k h = cc
        both false l k h = cc
