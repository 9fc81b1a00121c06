-- The least of the rules that a node breaks, of the first ten.
use Rattle.std.proofs.Common.{◌≡◌, ℕ, ◌<◌, ◌≤◌, Bool, true, false, refl, sym, ap, subst, ◌∙◌, true≢false, arith}
use Rattle.std.specs.Prelude.{Option, Some, None, nat_lt}
use Rattle.std.proofs.lemmas.Bool.Decides.{nat_tests}
use Rattle.pl_plan.specs.declared.rule.Rule.{Rule}
use Rattle.pl_plan.specs.declared.rule.Rule.TheVariants.{UnknownTable, Column, ColumnKind, JoinLocus, AggLocus, LimitLocus, OrderMissing, MotionAboveEntry, PartialUnmatched, NotAtEntry, TooWide, TooMany}
use Rattle.pl_plan.specs.Places.{Place, is_root, is_reached, limit_over}
use Rattle.pl_plan.specs.Tests.{names_no_table, names_no_column, mixes_kinds, joins_apart, aggregates_apart, limits_early, merges_unsorted, moves_from_entry, is_unmatched, ends_away}
use Rattle.pl_plan.specs.Rules.{Given, Breaks, rule_number}
use Rattle.pl_plan.specs.Soundness.{IsUnbroken}
use Rattle.pl_plan.specs.Walking.{first_of}

abbrev pub pick : Bool → Bool → Bool → Bool → Bool → Bool → Bool → Bool → Bool → Bool → Option Rule
pick b1 b2 b3 b4 b5 b6 b7 b8 b9 b10 = first_of b1 UnknownTable (first_of b2 Column (first_of b3 ColumnKind (first_of b4 JoinLocus (first_of b5 AggLocus (first_of b6 LimitLocus (first_of b7 OrderMissing (first_of b8 MotionAboveEntry (first_of b9 PartialUnmatched (first_of b10 NotAtEntry None)))))))))

abbrev pub Own : Bool → Bool → Bool → Bool → Bool → Bool → Bool → Bool → Bool → Bool → Rule → Type 0
Own b1 b2 b3 b4 b5 b6 b7 b8 b9 b10 UnknownTable = b1 ≡ true
Own b1 b2 b3 b4 b5 b6 b7 b8 b9 b10 Column = b2 ≡ true
Own b1 b2 b3 b4 b5 b6 b7 b8 b9 b10 ColumnKind = b3 ≡ true
Own b1 b2 b3 b4 b5 b6 b7 b8 b9 b10 JoinLocus = b4 ≡ true
Own b1 b2 b3 b4 b5 b6 b7 b8 b9 b10 AggLocus = b5 ≡ true
Own b1 b2 b3 b4 b5 b6 b7 b8 b9 b10 LimitLocus = b6 ≡ true
Own b1 b2 b3 b4 b5 b6 b7 b8 b9 b10 OrderMissing = b7 ≡ true
Own b1 b2 b3 b4 b5 b6 b7 b8 b9 b10 MotionAboveEntry = b8 ≡ true
Own b1 b2 b3 b4 b5 b6 b7 b8 b9 b10 PartialUnmatched = b9 ≡ true
Own b1 b2 b3 b4 b5 b6 b7 b8 b9 b10 NotAtEntry = b10 ≡ true
Own b1 b2 b3 b4 b5 b6 b7 b8 b9 b10 (TooWide n) = ⊥
Own b1 b2 b3 b4 b5 b6 b7 b8 b9 b10 (TooMany n) = ⊥

-- its own test says yes, and those of the lesser ones say no
pub record Picked (b1 b2 b3 b4 b5 b6 b7 b8 b9 b10 : Bool) (r : Rule) : Type 0 where
  pub own : Own b1 b2 b3 b4 b5 b6 b7 b8 b9 b10 r
  pub low1 : 1 < rule_number r → b1 ≡ false
  pub low2 : 2 < rule_number r → b2 ≡ false
  pub low3 : 3 < rule_number r → b3 ≡ false
  pub low4 : 4 < rule_number r → b4 ≡ false
  pub low5 : 5 < rule_number r → b5 ≡ false
  pub low6 : 6 < rule_number r → b6 ≡ false
  pub low7 : 7 < rule_number r → b7 ≡ false
  pub low8 : 8 < rule_number r → b8 ≡ false
  pub low9 : 9 < rule_number r → b9 ≡ false
  pub most : rule_number r ≤ 10

some_is : (a b : Rule) → ◌≡◌ {A = Option Rule} (Some a) (Some b) → a ≡ b
some_is a b h = cc

pub picked : (b1 b2 b3 b4 b5 b6 b7 b8 b9 b10 : Bool) (r : Rule) → pick b1 b2 b3 b4 b5 b6 b7 b8 b9 b10 ≡ Some r → Picked b1 b2 b3 b4 b5 b6 b7 b8 b9 b10 r
picked true b2 b3 b4 b5 b6 b7 b8 b9 b10 r h = subst (λ r. Picked true b2 b3 b4 b5 b6 b7 b8 b9 b10 r) (some_is UnknownTable r h) (record { own = refl; low1 = λ lt. absurd (omega (arith, lt)); low2 = λ lt. absurd (omega (arith, lt)); low3 = λ lt. absurd (omega (arith, lt)); low4 = λ lt. absurd (omega (arith, lt)); low5 = λ lt. absurd (omega (arith, lt)); low6 = λ lt. absurd (omega (arith, lt)); low7 = λ lt. absurd (omega (arith, lt)); low8 = λ lt. absurd (omega (arith, lt)); low9 = λ lt. absurd (omega (arith, lt)); most = omega arith })
picked false true b3 b4 b5 b6 b7 b8 b9 b10 r h = subst (λ r. Picked false true b3 b4 b5 b6 b7 b8 b9 b10 r) (some_is Column r h) (record { own = refl; low1 = λ _. refl; low2 = λ lt. absurd (omega (arith, lt)); low3 = λ lt. absurd (omega (arith, lt)); low4 = λ lt. absurd (omega (arith, lt)); low5 = λ lt. absurd (omega (arith, lt)); low6 = λ lt. absurd (omega (arith, lt)); low7 = λ lt. absurd (omega (arith, lt)); low8 = λ lt. absurd (omega (arith, lt)); low9 = λ lt. absurd (omega (arith, lt)); most = omega arith })
picked false false true b4 b5 b6 b7 b8 b9 b10 r h = subst (λ r. Picked false false true b4 b5 b6 b7 b8 b9 b10 r) (some_is ColumnKind r h) (record { own = refl; low1 = λ _. refl; low2 = λ _. refl; low3 = λ lt. absurd (omega (arith, lt)); low4 = λ lt. absurd (omega (arith, lt)); low5 = λ lt. absurd (omega (arith, lt)); low6 = λ lt. absurd (omega (arith, lt)); low7 = λ lt. absurd (omega (arith, lt)); low8 = λ lt. absurd (omega (arith, lt)); low9 = λ lt. absurd (omega (arith, lt)); most = omega arith })
picked false false false true b5 b6 b7 b8 b9 b10 r h = subst (λ r. Picked false false false true b5 b6 b7 b8 b9 b10 r) (some_is JoinLocus r h) (record { own = refl; low1 = λ _. refl; low2 = λ _. refl; low3 = λ _. refl; low4 = λ lt. absurd (omega (arith, lt)); low5 = λ lt. absurd (omega (arith, lt)); low6 = λ lt. absurd (omega (arith, lt)); low7 = λ lt. absurd (omega (arith, lt)); low8 = λ lt. absurd (omega (arith, lt)); low9 = λ lt. absurd (omega (arith, lt)); most = omega arith })
picked false false false false true b6 b7 b8 b9 b10 r h = subst (λ r. Picked false false false false true b6 b7 b8 b9 b10 r) (some_is AggLocus r h) (record { own = refl; low1 = λ _. refl; low2 = λ _. refl; low3 = λ _. refl; low4 = λ _. refl; low5 = λ lt. absurd (omega (arith, lt)); low6 = λ lt. absurd (omega (arith, lt)); low7 = λ lt. absurd (omega (arith, lt)); low8 = λ lt. absurd (omega (arith, lt)); low9 = λ lt. absurd (omega (arith, lt)); most = omega arith })
picked false false false false false true b7 b8 b9 b10 r h = subst (λ r. Picked false false false false false true b7 b8 b9 b10 r) (some_is LimitLocus r h) (record { own = refl; low1 = λ _. refl; low2 = λ _. refl; low3 = λ _. refl; low4 = λ _. refl; low5 = λ _. refl; low6 = λ lt. absurd (omega (arith, lt)); low7 = λ lt. absurd (omega (arith, lt)); low8 = λ lt. absurd (omega (arith, lt)); low9 = λ lt. absurd (omega (arith, lt)); most = omega arith })
picked false false false false false false true b8 b9 b10 r h = subst (λ r. Picked false false false false false false true b8 b9 b10 r) (some_is OrderMissing r h) (record { own = refl; low1 = λ _. refl; low2 = λ _. refl; low3 = λ _. refl; low4 = λ _. refl; low5 = λ _. refl; low6 = λ _. refl; low7 = λ lt. absurd (omega (arith, lt)); low8 = λ lt. absurd (omega (arith, lt)); low9 = λ lt. absurd (omega (arith, lt)); most = omega arith })
picked false false false false false false false true b9 b10 r h = subst (λ r. Picked false false false false false false false true b9 b10 r) (some_is MotionAboveEntry r h) (record { own = refl; low1 = λ _. refl; low2 = λ _. refl; low3 = λ _. refl; low4 = λ _. refl; low5 = λ _. refl; low6 = λ _. refl; low7 = λ _. refl; low8 = λ lt. absurd (omega (arith, lt)); low9 = λ lt. absurd (omega (arith, lt)); most = omega arith })
picked false false false false false false false false true b10 r h = subst (λ r. Picked false false false false false false false false true b10 r) (some_is PartialUnmatched r h) (record { own = refl; low1 = λ _. refl; low2 = λ _. refl; low3 = λ _. refl; low4 = λ _. refl; low5 = λ _. refl; low6 = λ _. refl; low7 = λ _. refl; low8 = λ _. refl; low9 = λ lt. absurd (omega (arith, lt)); most = omega arith })
picked false false false false false false false false false true r h = subst (λ r. Picked false false false false false false false false false true r) (some_is NotAtEntry r h) (record { own = refl; low1 = λ _. refl; low2 = λ _. refl; low3 = λ _. refl; low4 = λ _. refl; low5 = λ _. refl; low6 = λ _. refl; low7 = λ _. refl; low8 = λ _. refl; low9 = λ _. refl; most = omega arith })
picked false false false false false false false false false false r h = absurd cc

pub record Unpicked (b1 b2 b3 b4 b5 b6 b7 b8 b9 b10 : Bool) : Type 0 where
  pub no1 : b1 ≡ false
  pub no2 : b2 ≡ false
  pub no3 : b3 ≡ false
  pub no4 : b4 ≡ false
  pub no5 : b5 ≡ false
  pub no6 : b6 ≡ false
  pub no7 : b7 ≡ false
  pub no8 : b8 ≡ false
  pub no9 : b9 ≡ false
  pub no10 : b10 ≡ false

pub unpicked : (b1 b2 b3 b4 b5 b6 b7 b8 b9 b10 : Bool) → pick b1 b2 b3 b4 b5 b6 b7 b8 b9 b10 ≡ None → Unpicked b1 b2 b3 b4 b5 b6 b7 b8 b9 b10
unpicked true b2 b3 b4 b5 b6 b7 b8 b9 b10 h = absurd cc
unpicked false true b3 b4 b5 b6 b7 b8 b9 b10 h = absurd cc
unpicked false false true b4 b5 b6 b7 b8 b9 b10 h = absurd cc
unpicked false false false true b5 b6 b7 b8 b9 b10 h = absurd cc
unpicked false false false false true b6 b7 b8 b9 b10 h = absurd cc
unpicked false false false false false true b7 b8 b9 b10 h = absurd cc
unpicked false false false false false false true b8 b9 b10 h = absurd cc
unpicked false false false false false false false true b9 b10 h = absurd cc
unpicked false false false false false false false false true b10 h = absurd cc
unpicked false false false false false false false false false true h = absurd cc
unpicked false false false false false false false false false false h = record { no1 = refl; no2 = refl; no3 = refl; no4 = refl; no5 = refl; no6 = refl; no7 = refl; no8 = refl; no9 = refl; no10 = refl }

-- ---- of a place

abbrev pub least_of : Given → Place → Option Rule
least_of g p = pick (names_no_table g.schemas p.node) (names_no_column g.schemas p.node) (mixes_kinds g.schemas p.node) (joins_apart g.schemas p.node) (aggregates_apart g.schemas p.node) (limits_early g.schemas (is_root p.above) (limit_over p.above) p.node) (merges_unsorted p.node) (moves_from_entry g.schemas p.node) (is_unmatched (is_reached p.above) p.node) (ends_away g.schemas (is_root p.above) p.node)

no_rule : (b : Bool) → b ≡ false → b ≡ true → ⊥
no_rule b f t = true≢false (sym t ∙ f)

pub unbroken : (g : Given) (p : Place) → is_root p.above ≡ false → least_of g p ≡ None → IsUnbroken g p
unbroken g p deep h rule = by (unpicked (names_no_table g.schemas p.node) (names_no_column g.schemas p.node) (mixes_kinds g.schemas p.node) (joins_apart g.schemas p.node) (aggregates_apart g.schemas p.node) (limits_early g.schemas (is_root p.above) (limit_over p.above) p.node) (merges_unsorted p.node) (moves_from_entry g.schemas p.node) (is_unmatched (is_reached p.above) p.node) (ends_away g.schemas (is_root p.above) p.node) h) rule
  where
    by : Unpicked (names_no_table g.schemas p.node) (names_no_column g.schemas p.node) (mixes_kinds g.schemas p.node) (joins_apart g.schemas p.node) (aggregates_apart g.schemas p.node) (limits_early g.schemas (is_root p.above) (limit_over p.above) p.node) (merges_unsorted p.node) (moves_from_entry g.schemas p.node) (is_unmatched (is_reached p.above) p.node) (ends_away g.schemas (is_root p.above) p.node) → (rule : Rule) → Breaks g p rule → ⊥
    by u UnknownTable e = no_rule (names_no_table g.schemas p.node) u.no1 e
    by u Column e = no_rule (names_no_column g.schemas p.node) u.no2 e
    by u ColumnKind e = no_rule (mixes_kinds g.schemas p.node) u.no3 e
    by u JoinLocus e = no_rule (joins_apart g.schemas p.node) u.no4 e
    by u AggLocus e = no_rule (aggregates_apart g.schemas p.node) u.no5 e
    by u LimitLocus e = no_rule (limits_early g.schemas (is_root p.above) (limit_over p.above) p.node) u.no6 e
    by u OrderMissing e = no_rule (merges_unsorted p.node) u.no7 e
    by u MotionAboveEntry e = no_rule (moves_from_entry g.schemas p.node) u.no8 e
    by u PartialUnmatched e = no_rule (is_unmatched (is_reached p.above) p.node) u.no9 e
    by u NotAtEntry e = no_rule (ends_away g.schemas (is_root p.above) p.node) u.no10 e
    by u (TooWide n) e = no_rule (is_root p.above) deep e.0
    by u (TooMany n) e = no_rule (is_root p.above) deep e.0

lt_is : (a b : ℕ) → nat_lt a b ≡ true → a < b
lt_is a b h = grind (arith, nat_tests)

ge_is : (a b : ℕ) → nat_lt a b ≡ false → b ≤ a
ge_is a b h = grind (arith, nat_tests)

not_less : (k n : ℕ) → (k < n → ⊥) → n ≤ k
not_less k n h = by (nat_lt k n) refl
  where
    by : (b : Bool) → nat_lt k n ≡ b → n ≤ k
    by true e = absurd (h (lt_is k n e))
    by false e = ge_is k n e

pub breaks : (g : Given) (p : Place) (r : Rule) → least_of g p ≡ Some r → Breaks g p r
breaks g p r h = by r (picked (names_no_table g.schemas p.node) (names_no_column g.schemas p.node) (mixes_kinds g.schemas p.node) (joins_apart g.schemas p.node) (aggregates_apart g.schemas p.node) (limits_early g.schemas (is_root p.above) (limit_over p.above) p.node) (merges_unsorted p.node) (moves_from_entry g.schemas p.node) (is_unmatched (is_reached p.above) p.node) (ends_away g.schemas (is_root p.above) p.node) r h).own
  where
    by : (r : Rule) → Own (names_no_table g.schemas p.node) (names_no_column g.schemas p.node) (mixes_kinds g.schemas p.node) (joins_apart g.schemas p.node) (aggregates_apart g.schemas p.node) (limits_early g.schemas (is_root p.above) (limit_over p.above) p.node) (merges_unsorted p.node) (moves_from_entry g.schemas p.node) (is_unmatched (is_reached p.above) p.node) (ends_away g.schemas (is_root p.above) p.node) r → Breaks g p r
    by UnknownTable e = e
    by Column e = e
    by ColumnKind e = e
    by JoinLocus e = e
    by AggLocus e = e
    by LimitLocus e = e
    by OrderMissing e = e
    by MotionAboveEntry e = e
    by PartialUnmatched e = e
    by NotAtEntry e = e
    by (TooWide n) e = absurd e
    by (TooMany n) e = absurd e

pub breaks_least : (g : Given) (p : Place) (r : Rule) → least_of g p ≡ Some r → (rule : Rule) → Breaks g p rule → rule_number r ≤ rule_number rule
breaks_least g p r h rule = by (picked (names_no_table g.schemas p.node) (names_no_column g.schemas p.node) (mixes_kinds g.schemas p.node) (joins_apart g.schemas p.node) (aggregates_apart g.schemas p.node) (limits_early g.schemas (is_root p.above) (limit_over p.above) p.node) (merges_unsorted p.node) (moves_from_entry g.schemas p.node) (is_unmatched (is_reached p.above) p.node) (ends_away g.schemas (is_root p.above) p.node) r h) rule
  where
    by : Picked (names_no_table g.schemas p.node) (names_no_column g.schemas p.node) (mixes_kinds g.schemas p.node) (joins_apart g.schemas p.node) (aggregates_apart g.schemas p.node) (limits_early g.schemas (is_root p.above) (limit_over p.above) p.node) (merges_unsorted p.node) (moves_from_entry g.schemas p.node) (is_unmatched (is_reached p.above) p.node) (ends_away g.schemas (is_root p.above) p.node) r → (rule : Rule) → Breaks g p rule → rule_number r ≤ rule_number rule
    by q UnknownTable e = not_less 1 (rule_number r) (λ lt. no_rule (names_no_table g.schemas p.node) (q.low1 lt) e)
    by q Column e = not_less 2 (rule_number r) (λ lt. no_rule (names_no_column g.schemas p.node) (q.low2 lt) e)
    by q ColumnKind e = not_less 3 (rule_number r) (λ lt. no_rule (mixes_kinds g.schemas p.node) (q.low3 lt) e)
    by q JoinLocus e = not_less 4 (rule_number r) (λ lt. no_rule (joins_apart g.schemas p.node) (q.low4 lt) e)
    by q AggLocus e = not_less 5 (rule_number r) (λ lt. no_rule (aggregates_apart g.schemas p.node) (q.low5 lt) e)
    by q LimitLocus e = not_less 6 (rule_number r) (λ lt. no_rule (limits_early g.schemas (is_root p.above) (limit_over p.above) p.node) (q.low6 lt) e)
    by q OrderMissing e = not_less 7 (rule_number r) (λ lt. no_rule (merges_unsorted p.node) (q.low7 lt) e)
    by q MotionAboveEntry e = not_less 8 (rule_number r) (λ lt. no_rule (moves_from_entry g.schemas p.node) (q.low8 lt) e)
    by q PartialUnmatched e = not_less 9 (rule_number r) (λ lt. no_rule (is_unmatched (is_reached p.above) p.node) (q.low9 lt) e)
    by q NotAtEntry e = q.most
    by q (TooWide n) e = omega (arith, q.most)
    by q (TooMany n) e = omega (arith, q.most)

pub no_column : (g : Given) (p : Place) → least_of g p ≡ None → names_no_column g.schemas p.node ≡ false
no_column g p h = (unpicked (names_no_table g.schemas p.node) (names_no_column g.schemas p.node) (mixes_kinds g.schemas p.node) (joins_apart g.schemas p.node) (aggregates_apart g.schemas p.node) (limits_early g.schemas (is_root p.above) (limit_over p.above) p.node) (merges_unsorted p.node) (moves_from_entry g.schemas p.node) (is_unmatched (is_reached p.above) p.node) (ends_away g.schemas (is_root p.above) p.node) h).no2

-- where none of the first ten is broken, what is broken is one of the last two
abbrev NoRoom : Given → Place → Type 0
NoRoom g p = (n : ℕ) → Breaks g p (TooWide n) → ⊥

abbrev NoWorkers : Given → Place → Type 0
NoWorkers g p = (n : ℕ) → Breaks g p (TooMany n) → ⊥

pub only_limits : (g : Given) (p : Place) → least_of g p ≡ None → (rule : Rule) → Breaks g p rule → 11 ≤ rule_number rule
only_limits g p h rule = by (unpicked (names_no_table g.schemas p.node) (names_no_column g.schemas p.node) (mixes_kinds g.schemas p.node) (joins_apart g.schemas p.node) (aggregates_apart g.schemas p.node) (limits_early g.schemas (is_root p.above) (limit_over p.above) p.node) (merges_unsorted p.node) (moves_from_entry g.schemas p.node) (is_unmatched (is_reached p.above) p.node) (ends_away g.schemas (is_root p.above) p.node) h) rule
  where
    by : Unpicked (names_no_table g.schemas p.node) (names_no_column g.schemas p.node) (mixes_kinds g.schemas p.node) (joins_apart g.schemas p.node) (aggregates_apart g.schemas p.node) (limits_early g.schemas (is_root p.above) (limit_over p.above) p.node) (merges_unsorted p.node) (moves_from_entry g.schemas p.node) (is_unmatched (is_reached p.above) p.node) (ends_away g.schemas (is_root p.above) p.node) → (rule : Rule) → Breaks g p rule → 11 ≤ rule_number rule
    by u UnknownTable e = absurd (no_rule (names_no_table g.schemas p.node) u.no1 e)
    by u Column e = absurd (no_rule (names_no_column g.schemas p.node) u.no2 e)
    by u ColumnKind e = absurd (no_rule (mixes_kinds g.schemas p.node) u.no3 e)
    by u JoinLocus e = absurd (no_rule (joins_apart g.schemas p.node) u.no4 e)
    by u AggLocus e = absurd (no_rule (aggregates_apart g.schemas p.node) u.no5 e)
    by u LimitLocus e = absurd (no_rule (limits_early g.schemas (is_root p.above) (limit_over p.above) p.node) u.no6 e)
    by u OrderMissing e = absurd (no_rule (merges_unsorted p.node) u.no7 e)
    by u MotionAboveEntry e = absurd (no_rule (moves_from_entry g.schemas p.node) u.no8 e)
    by u PartialUnmatched e = absurd (no_rule (is_unmatched (is_reached p.above) p.node) u.no9 e)
    by u NotAtEntry e = absurd (no_rule (ends_away g.schemas (is_root p.above) p.node) u.no10 e)
    by u (TooWide n) e = omega arith
    by u (TooMany n) e = omega arith

pub only_workers : (g : Given) (p : Place) → least_of g p ≡ None → NoRoom g p → (rule : Rule) → Breaks g p rule → 12 ≤ rule_number rule
only_workers g p h room rule = by (unpicked (names_no_table g.schemas p.node) (names_no_column g.schemas p.node) (mixes_kinds g.schemas p.node) (joins_apart g.schemas p.node) (aggregates_apart g.schemas p.node) (limits_early g.schemas (is_root p.above) (limit_over p.above) p.node) (merges_unsorted p.node) (moves_from_entry g.schemas p.node) (is_unmatched (is_reached p.above) p.node) (ends_away g.schemas (is_root p.above) p.node) h) room rule
  where
    by : Unpicked (names_no_table g.schemas p.node) (names_no_column g.schemas p.node) (mixes_kinds g.schemas p.node) (joins_apart g.schemas p.node) (aggregates_apart g.schemas p.node) (limits_early g.schemas (is_root p.above) (limit_over p.above) p.node) (merges_unsorted p.node) (moves_from_entry g.schemas p.node) (is_unmatched (is_reached p.above) p.node) (ends_away g.schemas (is_root p.above) p.node) → NoRoom g p → (rule : Rule) → Breaks g p rule → 12 ≤ rule_number rule
    by u room UnknownTable e = absurd (no_rule (names_no_table g.schemas p.node) u.no1 e)
    by u room Column e = absurd (no_rule (names_no_column g.schemas p.node) u.no2 e)
    by u room ColumnKind e = absurd (no_rule (mixes_kinds g.schemas p.node) u.no3 e)
    by u room JoinLocus e = absurd (no_rule (joins_apart g.schemas p.node) u.no4 e)
    by u room AggLocus e = absurd (no_rule (aggregates_apart g.schemas p.node) u.no5 e)
    by u room LimitLocus e = absurd (no_rule (limits_early g.schemas (is_root p.above) (limit_over p.above) p.node) u.no6 e)
    by u room OrderMissing e = absurd (no_rule (merges_unsorted p.node) u.no7 e)
    by u room MotionAboveEntry e = absurd (no_rule (moves_from_entry g.schemas p.node) u.no8 e)
    by u room PartialUnmatched e = absurd (no_rule (is_unmatched (is_reached p.above) p.node) u.no9 e)
    by u room NotAtEntry e = absurd (no_rule (ends_away g.schemas (is_root p.above) p.node) u.no10 e)
    by u room (TooWide n) e = absurd (room n e)
    by u room (TooMany n) e = omega arith

pub low_unbroken : (g : Given) (p : Place) → least_of g p ≡ None → NoRoom g p → NoWorkers g p → (rule : Rule) → Breaks g p rule → ⊥
low_unbroken g p h room many rule = by (unpicked (names_no_table g.schemas p.node) (names_no_column g.schemas p.node) (mixes_kinds g.schemas p.node) (joins_apart g.schemas p.node) (aggregates_apart g.schemas p.node) (limits_early g.schemas (is_root p.above) (limit_over p.above) p.node) (merges_unsorted p.node) (moves_from_entry g.schemas p.node) (is_unmatched (is_reached p.above) p.node) (ends_away g.schemas (is_root p.above) p.node) h) room many rule
  where
    by : Unpicked (names_no_table g.schemas p.node) (names_no_column g.schemas p.node) (mixes_kinds g.schemas p.node) (joins_apart g.schemas p.node) (aggregates_apart g.schemas p.node) (limits_early g.schemas (is_root p.above) (limit_over p.above) p.node) (merges_unsorted p.node) (moves_from_entry g.schemas p.node) (is_unmatched (is_reached p.above) p.node) (ends_away g.schemas (is_root p.above) p.node) → NoRoom g p → NoWorkers g p → (rule : Rule) → Breaks g p rule → ⊥
    by u room many UnknownTable e = absurd (no_rule (names_no_table g.schemas p.node) u.no1 e)
    by u room many Column e = absurd (no_rule (names_no_column g.schemas p.node) u.no2 e)
    by u room many ColumnKind e = absurd (no_rule (mixes_kinds g.schemas p.node) u.no3 e)
    by u room many JoinLocus e = absurd (no_rule (joins_apart g.schemas p.node) u.no4 e)
    by u room many AggLocus e = absurd (no_rule (aggregates_apart g.schemas p.node) u.no5 e)
    by u room many LimitLocus e = absurd (no_rule (limits_early g.schemas (is_root p.above) (limit_over p.above) p.node) u.no6 e)
    by u room many OrderMissing e = absurd (no_rule (merges_unsorted p.node) u.no7 e)
    by u room many MotionAboveEntry e = absurd (no_rule (moves_from_entry g.schemas p.node) u.no8 e)
    by u room many PartialUnmatched e = absurd (no_rule (is_unmatched (is_reached p.above) p.node) u.no9 e)
    by u room many NotAtEntry e = absurd (no_rule (ends_away g.schemas (is_root p.above) p.node) u.no10 e)
    by u room many (TooWide n) e = room n e
    by u room many (TooMany n) e = many n e

-- a place that breaks no rule breaks none of the first ten
pub none_of : (g : Given) (p : Place) → IsUnbroken g p → least_of g p ≡ None
none_of g p sound = by (least_of g p) refl
  where
    by : (rule : Option Rule) → least_of g p ≡ rule → rule ≡ None
    by None e = refl
    by (Some r) e = absurd (sound r (breaks g p r e))
