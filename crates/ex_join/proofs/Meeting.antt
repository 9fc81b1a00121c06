-- Which right rows a left row meets.
use Rattle.std.proofs.Common.{◌≡◌, ℕ, Bool, true, false, not, ◌&&◌, ◌||◌, cond, if◌then◌else◌, List, [], ◌∷◌, ◌++◌, map, filter, refl, ap, ◌∙◌}
use Rattle.std.specs.Prelude.{flat_map}
use Rattle.std.specs.List.{list_all}
use Rattle.ic_row.specs.Values.{is_null, column, key_of}
use Rattle.pl_tree.specs.declared.node.Pair.{Pair}
use Rattle.pl_ops.specs.Rows.{Line, same_value, pair_meets, side_by_side}
use Rattle.pl_ops.specs.Groups.{same_line, in_group}
use Rattle.ex_join.specs.Matches.{beside, has_null}

-- the columns of each side's key
abbrev pub lefts : List Pair → List ℕ
lefts on = map (λ p. p.left) on

abbrev pub rights : List Pair → List ℕ
rights on = map (λ p. p.right) on

shuffle : (n s m t : Bool) → ((not n && s) && (not m && t)) ≡ (not (n || m) && (s && t))
shuffle true s m t = refl
shuffle false true true t = refl
shuffle false true false t = refl
shuffle false false true t = refl
shuffle false false false t = refl

pub meets_is : (on : List Pair) (l r : Line) → list_all (pair_meets l r) on ≡ (not (has_null (key_of (lefts on) l)) && same_line (key_of (lefts on) l) (key_of (rights on) r))
meets_is [] l r = refl
meets_is (p ∷ on) l r =
    ap (λ b. pair_meets l r p && b) (meets_is on l r)
    ∙ shuffle (is_null (column l p.left)) (same_value (column l p.left) (column r p.right)) (has_null (key_of (lefts on) l)) (same_line (key_of (lefts on) l) (key_of (rights on) r))

none_met : (on : List Pair) (l : Line) (rows : List Line) → has_null (key_of (lefts on) l) ≡ true → flat_map (side_by_side on l) rows ≡ []
none_met on l [] h = refl
none_met on l (r ∷ rows) h = (λ i. cond ((meets_is on l r ∙ ap (λ b. not b && same_line (key_of (lefts on) l) (key_of (rights on) r)) h) i) ((l ++ r) ∷ []) [] ++ none_met on l rows h i)

one_met : (b : Bool) (l r : Line) (some_rows : List Line) → cond b ((l ++ r) ∷ []) [] ++ beside l some_rows ≡ beside l (cond b (r ∷ some_rows) some_rows)
one_met true l r some_rows = refl
one_met false l r some_rows = refl

some_met : (on : List Pair) (l : Line) (rows : List Line) → has_null (key_of (lefts on) l) ≡ false
    → flat_map (side_by_side on l) rows ≡ beside l (filter (in_group (rights on) (key_of (lefts on) l)) rows)
some_met on l [] h = refl
some_met on l (r ∷ rows) h =
    (λ i. cond ((meets_is on l r ∙ ap (λ b. not b && same_line (key_of (lefts on) l) (key_of (rights on) r)) h) i) ((l ++ r) ∷ []) [] ++ some_met on l rows h i)
    ∙ one_met (same_line (key_of (lefts on) l) (key_of (rights on) r)) l r (filter (in_group (rights on) (key_of (lefts on) l)) rows)

-- a left row meets the right rows with its key, unless that has a null
pub met_is : (on : List Pair) (l : Line) (rows : List Line)
    → flat_map (side_by_side on l) rows ≡ beside l (if has_null (key_of (lefts on) l) then [] else filter (in_group (rights on) (key_of (lefts on) l)) rows)
met_is on l rows = by (has_null (key_of (lefts on) l)) refl
  where
    by : (b : Bool) → has_null (key_of (lefts on) l) ≡ b → flat_map (side_by_side on l) rows ≡ beside l (if b then [] else filter (in_group (rights on) (key_of (lefts on) l)) rows)
    by true e = none_met on l rows e
    by false e = some_met on l rows e
