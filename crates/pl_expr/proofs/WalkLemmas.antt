-- Walking over entries in turn.
use Rattle.std.proofs.Common.{◌≡◌, ℕ, ◌+◌, ◌<◌, ◌^◌, List, [], ◌∷◌, ◌++◌, length, map, get_or, drop, refl, sym, ap, subst, ◌∙◌, add-one, drop-cons, length-append, arith}
use Rattle.std.specs.Prelude.{suc, Option, Some, None, Result, Ok, Err, slice_get, take}
use Rattle.ic_row.specs.declared.value.Kind.{Kind}
use Rattle.pl_expr.specs.declared.expr.Expr.{Expr}
use Rattle.pl_expr.specs.declared.typing.ExprFlaw.{ExprFlaw}
use Rattle.pl_expr.specs.declared.typing.ExprFault.{ExprFault}
use Rattle.pl_expr.specs.Entries.{Entry, in_turn, entries_of}
use Rattle.pl_expr.specs.Typing.{flaw_of, AreFine, IsFirstFlaw}
use Rattle.pl_expr.specs.Walking.{fault_at, passed, walked}

ok_is : (n m : ℕ) → ◌≡◌ {A = Result ℕ ExprFault} (Ok n) (Ok m) → n ≡ m
ok_is n m h = cc

-- where the walk over the first ones ends, that over the others begins
pub goes_on : (kinds : List Kind) (n m : ℕ) (xs ys : List Entry) → walked kinds n xs ≡ Ok m → (walked kinds n (xs ++ ys) ≡ walked kinds m ys) × (m ≡ n + length xs)
goes_on kinds n m [] ys h = let e = ok_is n m h in (ap (λ k. walked kinds k ys) e, omega (arith, e))
goes_on kinds n m (x ∷ xs) ys h = by (flaw_of kinds x) h (goes_on kinds (n + 1) m xs ys)
  where
    by : (flaw : Option ExprFlaw) → passed flaw n (walked kinds (n + 1) xs) ≡ Ok m → (walked kinds (n + 1) xs ≡ Ok m → (walked kinds (n + 1) (xs ++ ys) ≡ walked kinds m ys) × (m ≡ n + 1 + length xs)) → (passed flaw n (walked kinds (n + 1) (xs ++ ys)) ≡ walked kinds m ys) × (m ≡ n + length (x ∷ xs))
    by None h ih = let t = ih h in (t.0, omega (arith, t.1))
    by (Some what) h ih = absurd (cc)

-- a flaw among the first ones stops it
pub stops : (kinds : List Kind) (n : ℕ) (fault : ExprFault) (xs ys : List Entry) → walked kinds n xs ≡ Err fault → walked kinds n (xs ++ ys) ≡ Err fault
stops kinds n fault [] ys h = absurd (cc)
stops kinds n fault (x ∷ xs) ys h = by (flaw_of kinds x) h (stops kinds (n + 1) fault xs ys)
  where
    by : (flaw : Option ExprFlaw) → passed flaw n (walked kinds (n + 1) xs) ≡ Err fault → (walked kinds (n + 1) xs ≡ Err fault → walked kinds (n + 1) (xs ++ ys) ≡ Err fault) → passed flaw n (walked kinds (n + 1) (xs ++ ys)) ≡ Err fault
    by None h ih = ih h
    by (Some what) h ih = h

-- the part at a place, and those behind it
pub next_part : (parts : List Expr) (i : ℕ) (d : Expr) → i < length parts → in_turn (map entries_of (drop i parts)) ≡ entries_of (get_or parts i d) ++ in_turn (map entries_of (drop (i + 1) parts))
next_part parts i d lt = rw (add-one, drop-cons parts i d lt) refl

-- ---- the loop over parts

-- what is still to be walked, in front of which this place was reached, makes the whole
abbrev pub Reached : List Kind → List Expr → ℕ → ℕ → Result ℕ ExprFault → Type 0
Reached kinds parts i n whole =
    (walked kinds n (in_turn (map entries_of (drop i parts))) ≡ whole) × (n + length (in_turn (map entries_of (drop i parts))) < 2 ^ 32)

pub has_room : (kinds : List Kind) (parts : List Expr) (item : Expr) (i n : ℕ) (whole : Result ℕ ExprFault) → i < length parts → item ≡ get_or parts i item → Reached kinds parts i n whole → n + length (entries_of item) < 2 ^ 32
has_room kinds parts item i n whole lt is r =
    let e = next_part parts i item lt in
    let f = ap length e ∙ length-append (entries_of (get_or parts i item)) (in_turn (map entries_of (drop (i + 1) parts))) in
    omega (arith, f, ap (λ x. length (entries_of x)) is, r.1)

pub part_passed : (kinds : List Kind) (parts : List Expr) (item : Expr) (i n m : ℕ) (whole : Result ℕ ExprFault) → i < length parts → item ≡ get_or parts i item → Reached kinds parts i n whole → walked kinds n (entries_of item) ≡ Ok m → Reached kinds parts (i + 1) m whole
part_passed kinds parts item i n m whole lt is r h =
    let e = next_part parts i item lt ∙ ap (λ x. entries_of x ++ in_turn (map entries_of (drop (i + 1) parts))) (sym is) in
    let g = goes_on kinds n m (entries_of item) (in_turn (map entries_of (drop (i + 1) parts))) h in
    let f = ap length e ∙ length-append (entries_of item) (in_turn (map entries_of (drop (i + 1) parts))) in
    (sym g.0 ∙ ap (walked kinds n) (sym e) ∙ r.0, omega (arith, f, g.1, r.1))

pub part_stopped : (kinds : List Kind) (parts : List Expr) (item : Expr) (i n : ℕ) (fault : ExprFault) (whole : Result ℕ ExprFault) → i < length parts → item ≡ get_or parts i item → Reached kinds parts i n whole → walked kinds n (entries_of item) ≡ Err fault → Err fault ≡ whole
part_stopped kinds parts item i n fault whole lt is r h =
    let e = next_part parts i item lt ∙ ap (λ x. entries_of x ++ in_turn (map entries_of (drop (i + 1) parts))) (sym is) in
    sym (stops kinds n fault (entries_of item) (in_turn (map entries_of (drop (i + 1) parts))) h) ∙ ap (walked kinds n) (sym e) ∙ r.0

-- ---- what a walk from the first entry says

-- no entry has a flaw
pub fine : (kinds : List Kind) (n m : ℕ) (xs : List Entry) → walked kinds n xs ≡ Ok m → AreFine kinds xs
fine kinds n m [] h = tt
fine kinds n m (x ∷ xs) h = by (flaw_of kinds x) refl h (fine kinds (n + 1) m xs)
  where
    by : (flaw : Option ExprFlaw) → flaw_of kinds x ≡ flaw → passed flaw n (walked kinds (n + 1) xs) ≡ Ok m → (walked kinds (n + 1) xs ≡ Ok m → AreFine kinds xs) → (flaw_of kinds x ≡ None) × AreFine kinds xs
    by None e h ih = (e, ih h)
    by (Some what) e h ih = absurd (cc)

-- the first with a flaw stands so far behind the start
pub record IsFirstFrom (kinds : List Kind) (n : ℕ) (xs : List Entry) (fault : ExprFault) : Type 0 where
  pub k : ℕ
  pub is : fault.place ≡ n + k
  pub entry : Entry
  pub stands : slice_get xs k ≡ Some entry
  pub has : flaw_of kinds entry ≡ Some fault.what
  pub before : AreFine kinds (take k xs)

same_fault : (a b : ExprFault) → ◌≡◌ {A = Result ℕ ExprFault} (Err a) (Err b) → a ≡ b
same_fault a b h = cc

first_from : (kinds : List Kind) (n : ℕ) (xs : List Entry) (fault : ExprFault) → walked kinds n xs ≡ Err fault → IsFirstFrom kinds n xs fault
first_from kinds n [] fault h = absurd (cc)
first_from kinds n (x ∷ xs) fault h = by (flaw_of kinds x) refl h (first_from kinds (n + 1) xs fault)
  where
    by : (flaw : Option ExprFlaw) → flaw_of kinds x ≡ flaw → passed flaw n (walked kinds (n + 1) xs) ≡ Err fault → (walked kinds (n + 1) xs ≡ Err fault → IsFirstFrom kinds (n + 1) xs fault) → IsFirstFrom kinds n (x ∷ xs) fault
    by None e h ih = let r = ih h in record { k = suc r.k; is = omega (arith, r.is); entry = r.entry; stands = r.stands; has = r.has; before = (e, r.before) }
    by (Some what) e h ih = let f = same_fault (fault_at what n) fault h in record { k = 0; is = sym (ap (λ (u : ExprFault). u.place) f) ∙ omega arith; entry = x; stands = refl; has = e ∙ ap (λ (u : ExprFault). Some u.what) f; before = tt }

pub first_flaw : (kinds : List Kind) (xs : List Entry) (fault : ExprFault) → walked kinds 0 xs ≡ Err fault → IsFirstFlaw kinds xs fault
first_flaw kinds xs fault h =
    let r = first_from kinds 0 xs fault h in
    let e : fault.place ≡ r.k = omega (arith, r.is) in
    record { entry = r.entry; stands = ap (slice_get xs) e ∙ r.stands; has = r.has; before = subst (λ k. AreFine kinds (take k xs)) (sym e) r.before }
