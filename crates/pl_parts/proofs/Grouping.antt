-- An aggregate over a bag: the order of the rows doesn't count.
use Rattle.std.proofs.Common.{◌≡◌, ℕ, ◌+◌, Bool, true, false, not, List, [], ◌∷◌, ◌++◌, map, refl, sym, ap, ◌∙◌, subst, inl, inr, Ordering, Less, Equal, Greater}
use Rattle.std.specs.Prelude.{◌⊎◌, ◌&&◌, filter}
use Rattle.std.specs.Ordering.{is_eq}
use Rattle.std.proofs.lemmas.Cmp.{tied_itself}
use Rattle.ic_row.specs.declared.value.Value.{Value}
use Rattle.ic_row.specs.Values.{column, key_of}
use Rattle.ic_row.specs.Order.{value_cmp}
use Rattle.ic_row.proofs.TotalLemmas.{value_cmp_total, value_cmp_same}
use Rattle.pl_tree.specs.declared.node.Call.{Call}
use Rattle.pl_ops.specs.Rows.{Line as Row, same_value}
use Rattle.pl_ops.specs.Groups.{same_line, differs, distinct, group_keys, in_group, brought, over, results_of, results_from, grouped, aggregate_rows}
use Rattle.pl_parts.proofs.Bags.{Perm, ptrans, alike, back, filter_perm}
use Rattle.pl_parts.proofs.Members.{In, NoTwice, same_members, In-perm, In-filter, In-from_filter, NoTwice-filter, In-map, In-from_map, map_perm, map_in}
use Rattle.pl_parts.proofs.Numbers.{both_true}
use Rattle.pl_parts.proofs.Calls.{over-perm}

abbrev Columns : Type 0
Columns = List ℕ

is_equal : (o : Ordering) → is_eq o ≡ true → o ≡ Equal
is_equal Less h = absurd (cc)
is_equal Equal h = refl
is_equal Greater h = absurd (cc)

pub same_value_is : (a b : Value) → same_value a b ≡ true → a ≡ b
same_value_is a b h = value_cmp_same a b (is_equal (value_cmp a b) h)

pub same_value_itself : (a : Value) → same_value a a ≡ true
same_value_itself a = ap is_eq (tied_itself value_cmp_total a)

pub same_line_is : (a b : Row) → same_line a b ≡ true → a ≡ b
same_line_is [] [] h = refl
same_line_is [] (y ∷ ys) h = absurd (cc)
same_line_is (x ∷ xs) [] h = absurd (cc)
same_line_is (x ∷ xs) (y ∷ ys) h =
    let t = both_true (same_value x y) (same_line xs ys) h in
    ap (λ z. z ∷ xs) (same_value_is x y t.0) ∙ ap (λ l. y ∷ l) (same_line_is xs ys t.1)

pub same_line_itself : (a : Row) → same_line a a ≡ true
same_line_itself [] = refl
same_line_itself (x ∷ xs) = ap (λ b. b && same_line xs xs) (same_value_itself x) ∙ same_line_itself xs

-- a test of rows by cases
pub row_cases : (a b : Row) → (same_line a b ≡ true) × (a ≡ b) ⊎ (same_line a b ≡ false) × (a ≡ b → ⊥)
row_cases a b = by (same_line a b) refl
  where
    by : (t : Bool) → same_line a b ≡ t → (same_line a b ≡ true) × (a ≡ b) ⊎ (same_line a b ≡ false) × (a ≡ b → ⊥)
    by true e = inl (e, same_line_is a b e)
    by false e = inr (e, λ q. absurd (let r : same_line a b ≡ true = subst (λ c. same_line a c ≡ true) q (same_line_itself a) in cc))

pub In-distinct : (z : Row) (ks : List Row) → In z ks → In z (distinct ks)
In-distinct z [] h = h
In-distinct z (k ∷ ks) (inl e) = inl e
In-distinct z (k ∷ ks) (inr h) = by (row_cases k z) (In-distinct z ks h)
  where
    by : (same_line k z ≡ true) × (k ≡ z) ⊎ (same_line k z ≡ false) × (k ≡ z → ⊥) → In z (distinct ks) → In z (distinct (k ∷ ks))
    by (inl e) i = inl (sym e.1)
    by (inr n) i = inr (In-filter (differs k) z (distinct ks) (ap not n.0) i)

pub In-from_distinct : (z : Row) (ks : List Row) → In z (distinct ks) → In z ks
In-from_distinct z [] h = h
In-from_distinct z (k ∷ ks) (inl e) = inl e
In-from_distinct z (k ∷ ks) (inr h) = inr (In-from_distinct z ks (In-from_filter (differs k) z (distinct ks) h).0)

pub NoTwice-distinct : (ks : List Row) → NoTwice (distinct ks)
NoTwice-distinct [] = tt
NoTwice-distinct (k ∷ ks) = (
  (λ i. absurd (let e = (In-from_filter (differs k) k (distinct ks) i).1 in let r : not (same_line k k) ≡ false = ap not (same_line_itself k) in cc)),
  NoTwice-filter (differs k) (distinct ks) (NoTwice-distinct ks),
)

-- a key is a group's where a row has it
pub group_of_row : (g : Columns) (row : Row) (rows : List Row) → In row rows → In (key_of g row) (group_keys g rows)
group_of_row [] row rows h = inl refl
group_of_row (c ∷ cs) row rows h = In-distinct (key_of (c ∷ cs) row) (map (key_of (c ∷ cs)) rows) (In-map (key_of (c ∷ cs)) row rows h)

pub NoTwice-groups : (g : Columns) (rows : List Row) → NoTwice (group_keys g rows)
NoTwice-groups [] rows = ((λ i. i), tt)
NoTwice-groups (c ∷ cs) rows = NoTwice-distinct (map (key_of (c ∷ cs)) rows)

abbrev pub HasGroup : Columns → Row → List Row → Type 0
HasGroup g key rows = (row : Row) × (In row rows) × (key ≡ key_of g row)

pub row_of_group : (c : ℕ) (cs : Columns) (key : Row) (rows : List Row) → In key (group_keys (c ∷ cs) rows) → HasGroup (c ∷ cs) key rows
row_of_group c cs key rows h = In-from_map (key_of (c ∷ cs)) key rows (In-from_distinct key (map (key_of (c ∷ cs)) rows) h)

pub In-group_iff : (g : Columns) (key : Row) (rows rows' : List Row) → ((row : Row) → In row rows → In row rows') → In key (group_keys g rows) → In key (group_keys g rows')
In-group_iff [] key rows rows' sub h = h
In-group_iff (c ∷ cs) key rows rows' sub h = let r = row_of_group c cs key rows h in subst (λ k. In k (group_keys (c ∷ cs) rows')) (sym r.2) (group_of_row (c ∷ cs) r.0 rows' (sub r.0 r.1))

pub groups_perm : (g : Columns) {rows rows' : List Row} → Perm rows rows' → Perm (group_keys g rows) (group_keys g rows')
groups_perm g {rows} {rows'} p = same_members (group_keys g rows) (group_keys g rows') (NoTwice-groups g rows) (NoTwice-groups g rows')
    (λ key. In-group_iff g key rows rows' (λ row. In-perm row p))
    (λ key. In-group_iff g key rows' rows (λ row. In-perm row (back p)))

-- what a summary gives doesn't depend on the order
abbrev pub Fair : (List Row → List Value) → Type 0
Fair summary = (rows rows' : List Row) → Perm rows rows' → summary rows ≡ summary rows'

abbrev pub row_for : Columns → (List Row → List Value) → List Row → Row → Row
row_for g summary rows key = key ++ summary (filter (in_group g key) rows)

pub grouped_perm : (g : Columns) (summary : List Row → List Value) → Fair summary → {rows rows' : List Row} → Perm rows rows' → Perm (grouped g summary rows) (grouped g summary rows')
unfolding grouped
grouped_perm g summary fair {rows} {rows'} p =
    ptrans (map_perm (row_for g summary rows) (groups_perm g p))
    (alike (map_in (row_for g summary rows) (row_for g summary rows') (group_keys g rows') (λ key i. ap (λ vs. key ++ vs) (fair (filter (in_group g key) rows) (filter (in_group g key) rows') (filter_perm (in_group g key) p)))))

results_fair : (calls : List Call) → Fair (results_of calls)
results_fair [] rows rows' p = refl
results_fair (call ∷ calls) rows rows' p = ap (λ v. v ∷ results_of calls rows) (over-perm call (map_perm (brought call) p)) ∙ ap (λ l. over call (map (brought call) rows') ∷ l) (results_fair calls rows rows' p)

pub from_fair : (c : ℕ) (calls : List Call) → Fair (results_from c calls)
from_fair c [] rows rows' p = refl
from_fair c (call ∷ calls) rows rows' p = ap (λ v. v ∷ results_from (c + 1) calls rows) (over-perm call (map_perm (λ row. column row c) p)) ∙ ap (λ l. over call (map (λ row. column row c) rows') ∷ l) (from_fair (c + 1) calls rows rows' p)

pub aggregate_moves : (g : Columns) (calls : List Call) (rows rows' : List Row) → Perm rows rows' → Perm (aggregate_rows g calls rows) (aggregate_rows g calls rows')
aggregate_moves g calls rows rows' p = grouped_perm g (results_of calls) (results_fair calls) p
