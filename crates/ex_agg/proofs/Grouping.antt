-- Groups once a row more is there.
use Rattle.std.proofs.Common.{◌≡◌, ℕ, Bool, true, false, not, ◌||◌, cond, if◌then◌else◌, List, [], ◌∷◌, ◌++◌, map, filter, position, slice_get, Option, Some, None, is_some, refl, sym, ap, ◌∙◌, true≢false, append-nil}
use Rattle.std.specs.Prelude.{Result, Ok, Err, OnOk}
use Rattle.std.specs.Option.{unwrap_or}
use Rattle.std.specs.List.{list_any, AllByRecursion}
use Rattle.std.specs.Map.{lookup}
use Rattle.std.proofs.lemmas.List.Elements.{filter-append}
use Rattle.indexmap.specs.IndexMap.{IndexMap, keys, values, get, insert_entry, set_value_at}
use Rattle.indexmap.proofs.MapLemmas.{insert_entry-first, Found-position}
use Rattle.ic_row.specs.Values.{key_of}
use Rattle.pl_tree.specs.declared.node.Call.{Call}
use Rattle.pl_ops.specs.declared.words.OpNo.{OpNo}
use Rattle.pl_ops.specs.Rows.{Line}
use Rattle.pl_ops.specs.Groups.{same_line, differs, distinct, group_keys, in_group, value_of_none}
use Rattle.ex_key.specs.Same.{same_line-is, same_line-equiv, same_line-refl}
use Rattle.ex_agg.specs.Calls.{results, renewed}
use Rattle.ex_agg.specs.Grouped.{Grouped, results_at, results_of_key, groups_of}
use Rattle.ex_agg.proofs.Adding.{results_step, results_none}

-- ---- what a write at a key's place is

any_default : (o : Option Line) (a b : Line) → true ≡ is_some o → unwrap_or o a ≡ unwrap_or o b
any_default None a b h = absurd (true≢false h)
any_default (Some x) a b h = refl

pub found_add : {S : Type 0} (m : IndexMap Line Line S) (new : Grouped) (key : Line) (at : ℕ) (F : Line → Line) (none : Line) (result : Result (Unit {0}) OpNo)
    → position (same_line key) (keys m) ≡ Some at → slice_get (values m) at ≡ get same_line m key → true ≡ is_some (get same_line m key)
    → OnOk result (new ≡ set_value_at m.entries at (F (results_at m.entries at)))
    → OnOk result (new ≡ insert_entry same_line m.entries key (F (unwrap_or (lookup (same_line key) m.entries) none)))
found_add m new key at F none (Ok u) p v f e =
    e ∙ sym (insert_entry-first same_line key (F (results_at m.entries at)) m.entries at (Found-position (same_line key) m.entries at p).first)
    ∙ ap (λ w. insert_entry same_line m.entries key (F w)) (ap (λ o. unwrap_or o []) v ∙ any_default (lookup (same_line key) m.entries) [] none f)
found_add m new key at F none (Err x) p v f e = tt

-- ---- keys

-- a key goes behind the others, unless it is there
abbrev pub add_key : List Line → Line → List Line
add_key [] k = k ∷ []
add_key (x ∷ xs) k = if same_line k x then x ∷ xs else x ∷ add_key xs k

flips : (x y : Line) → same_line x y ≡ same_line y x
flips x y = same_line-equiv.symm x y

filter_add : (x k : Line) (ys : List Line) → filter (differs x) (add_key ys k) ≡ (if same_line k x then filter (differs x) ys else add_key (filter (differs x) ys) k)
filter_add x k [] = by (same_line k x) (flips x k)
  where
    by : (b : Bool) → same_line x k ≡ b → cond (differs x k) (k ∷ []) [] ≡ (if b then [] else k ∷ [])
    by true e = ap (λ c. cond (not c) (k ∷ []) []) e
    by false e = ap (λ c. cond (not c) (k ∷ []) []) e
filter_add x k (y ∷ ys) = by (filter_add x k ys) (same_line k y) (same_line k x) (same_line x y) refl refl refl
  where
    by : filter (differs x) (add_key ys k) ≡ (if same_line k x then filter (differs x) ys else add_key (filter (differs x) ys) k) → (b c d : Bool) → same_line k y ≡ b → same_line k x ≡ c → same_line x y ≡ d
        → filter (differs x) (if b then y ∷ ys else y ∷ add_key ys k) ≡ (if c then filter (differs x) (y ∷ ys) else add_key (filter (differs x) (y ∷ ys)) k)
    by h true true d e f g = refl
    by h true false true e f g = absurd (true≢false (sym g ∙ ap (same_line x) (sym (same_line-is k y e)) ∙ flips x k ∙ f))
    by h true false false e f g =
        (λ i. cond (not (g i)) (y ∷ filter (differs x) ys) (filter (differs x) ys))
        ∙ sym ((λ i. add_key (cond (not (g i)) (y ∷ filter (differs x) ys) (filter (differs x) ys)) k) ∙ ap (λ b. if b then y ∷ filter (differs x) ys else y ∷ add_key (filter (differs x) ys) k) e)
    by h false true d e f g =
        ap (λ l. cond (differs x y) (y ∷ l) l) (h ∙ ap (λ b. if b then filter (differs x) ys else add_key (filter (differs x) ys) k) f)
    by h false false true e f g =
        (λ i. cond (not (g i)) (y ∷ filter (differs x) (add_key ys k)) (filter (differs x) (add_key ys k)))
        ∙ h ∙ ap (λ b. if b then filter (differs x) ys else add_key (filter (differs x) ys) k) f
        ∙ sym (λ i. add_key (cond (not (g i)) (y ∷ filter (differs x) ys) (filter (differs x) ys)) k)
    by h false false false e f g =
        (λ i. cond (not (g i)) (y ∷ filter (differs x) (add_key ys k)) (filter (differs x) (add_key ys k)))
        ∙ ap (λ l. y ∷ l) (h ∙ ap (λ b. if b then filter (differs x) ys else add_key (filter (differs x) ys) k) f)
        ∙ sym ((λ i. add_key (cond (not (g i)) (y ∷ filter (differs x) ys) (filter (differs x) ys)) k) ∙ ap (λ b. if b then y ∷ filter (differs x) ys else y ∷ add_key (filter (differs x) ys) k) e)

distinct_add : (xs : List Line) (k : Line) → distinct (xs ++ k ∷ []) ≡ add_key (distinct xs) k
distinct_add [] k = refl
distinct_add (x ∷ xs) k = ap (λ l. x ∷ filter (differs x) l) (distinct_add xs k) ∙ ap (λ l. x ∷ l) (filter_add x k (distinct xs)) ∙ by (same_line k x)
  where
    by : (b : Bool) → x ∷ (if b then filter (differs x) (distinct xs) else add_key (filter (differs x) (distinct xs)) k) ≡ (if b then x ∷ filter (differs x) (distinct xs) else x ∷ add_key (filter (differs x) (distinct xs)) k)
    by true = refl
    by false = refl

map_behind : (columns : List ℕ) (rows : List Line) (row : Line) → map (key_of columns) (rows ++ row ∷ []) ≡ map (key_of columns) rows ++ key_of columns row ∷ []
map_behind columns [] row = refl
map_behind columns (r ∷ rows) row = ap (λ l. key_of columns r ∷ l) (map_behind columns rows row)

keys_step : (columns : List ℕ) (rows : List Line) (row : Line) → group_keys columns (rows ++ row ∷ []) ≡ add_key (group_keys columns rows) (key_of columns row)
keys_step [] rows row = refl
keys_step (c ∷ columns) rows row = ap distinct (map_behind (c ∷ columns) rows row) ∙ distinct_add (map (key_of (c ∷ columns)) rows) (key_of (c ∷ columns) row)

-- each key differs from those behind it
abbrev pub Apart : List Line → Type 0
Apart [] = Unit {0}
Apart (x ∷ xs) = AllByRecursion (λ y. same_line x y ≡ false) xs × Apart xs

all_filter : (P : Line → Type 0) (p : Line → Bool) (xs : List Line) → AllByRecursion P xs → AllByRecursion P (filter p xs)
all_filter P p [] h = tt
all_filter P p (x ∷ xs) h = by (all_filter P p xs h.1) (p x)
  where
    by : AllByRecursion P (filter p xs) → (b : Bool) → AllByRecursion P (cond b (x ∷ filter p xs) (filter p xs))
    by r true = (h.0, r)
    by r false = r

apart_filter : (p : Line → Bool) (xs : List Line) → Apart xs → Apart (filter p xs)
apart_filter p [] h = tt
apart_filter p (x ∷ xs) h = by (apart_filter p xs h.1) (p x)
  where
    by : Apart (filter p xs) → (b : Bool) → Apart (cond b (x ∷ filter p xs) (filter p xs))
    by r true = (all_filter (λ y. same_line x y ≡ false) p xs h.0, r)
    by r false = r

filter_differs : (x : Line) (xs : List Line) → AllByRecursion (λ y. same_line x y ≡ false) (filter (differs x) xs)
filter_differs x [] = tt
filter_differs x (y ∷ ys) = by (filter_differs x ys) (same_line x y) refl
  where
    by : AllByRecursion (λ z. same_line x z ≡ false) (filter (differs x) ys) → (b : Bool) → same_line x y ≡ b → AllByRecursion (λ z. same_line x z ≡ false) (cond (not b) (y ∷ filter (differs x) ys) (filter (differs x) ys))
    by r true e = r
    by r false e = (e, r)

distinct_apart : (xs : List Line) → Apart (distinct xs)
distinct_apart [] = tt
distinct_apart (x ∷ xs) = (filter_differs x (distinct xs), apart_filter (differs x) (distinct xs) (distinct_apart xs))

keys_apart : (columns : List ℕ) (rows : List Line) → Apart (group_keys columns rows)
keys_apart [] rows = (tt, tt)
keys_apart (c ∷ columns) rows = distinct_apart (map (key_of (c ∷ columns)) rows)

-- ---- entries

abbrev pub paired : (Line → Line) → Line → Line × Line
paired F key = (key, F key)

abbrev pub changed : (Line → Line) → Line → Line → Line → Line
changed F k w key = if same_line k key then w else F key

-- what is the same at each of a list
same_map : {A : Type 0} (f g : Line → A) (xs : List Line) → AllByRecursion (λ x. f x ≡ g x) xs → map f xs ≡ map g xs
same_map f g [] h = refl
same_map f g (x ∷ xs) h = λ i. h.0 i ∷ same_map f g xs h.1 i

all_to : (P Q : Line → Type 0) → ((x : Line) → P x → Q x) → (xs : List Line) → AllByRecursion P xs → AllByRecursion Q xs
all_to P Q f [] h = tt
all_to P Q f (x ∷ xs) h = (f x h.0, all_to P Q f xs h.1)

insert_is : (F : Line → Line) (k w : Line) (ks : List Line) → Apart ks → insert_entry same_line (map (paired F) ks) k w ≡ map (paired (changed F k w)) (add_key ks k)
insert_is F k w [] h = ap (λ b. (k, if b then w else F k) ∷ []) (sym (same_line-refl k))
insert_is F k w (x ∷ xs) h = by (insert_is F k w xs h.1) (same_line k x) refl
  where
    by : insert_entry same_line (map (paired F) xs) k w ≡ map (paired (changed F k w)) (add_key xs k) → (b : Bool) → same_line k x ≡ b
        → (if b then (x, w) ∷ map (paired F) xs else (x, F x) ∷ insert_entry same_line (map (paired F) xs) k w) ≡ map (paired (changed F k w)) (if b then x ∷ xs else x ∷ add_key xs k)
    by r true e = λ i. (x, if sym e i then w else F x)
        ∷ same_map (paired F) (paired (changed F k w)) xs
        (all_to (λ y. same_line x y ≡ false) (λ y. paired F y ≡ paired (changed F k w) y)
        (λ y d. ap (λ b. (y, if b then w else F y)) (sym (ap (λ l. same_line l y) (same_line-is k x e) ∙ d))) xs h.0) i
    by r false e = λ i. (x, if sym e i then w else F x) ∷ r i

-- ---- groups

-- a key that has no group stands in no row
found_or_none : (F : Line → Line) (k : Line) (ks : List Line) → lookup (same_line k) (map (paired F) ks) ≡ (if list_any (same_line k) ks then Some (F k) else None)
found_or_none F k [] = refl
found_or_none F k (x ∷ xs) = by (found_or_none F k xs) (same_line k x) refl
  where
    by : lookup (same_line k) (map (paired F) xs) ≡ (if list_any (same_line k) xs then Some (F k) else None) → (b : Bool) → same_line k x ≡ b
        → cond b (Some (F x)) (lookup (same_line k) (map (paired F) xs)) ≡ (if b || list_any (same_line k) xs then Some (F k) else None)
    by r true e = ap (λ y. Some (F y)) (sym (same_line-is k x e))
    by r false e = r

any_differs : (k x : Line) (ys : List Line) → same_line k x ≡ false → list_any (same_line k) (filter (differs x) ys) ≡ list_any (same_line k) ys
any_differs k x [] h = refl
any_differs k x (y ∷ ys) h = by (any_differs k x ys h) (same_line x y) refl
  where
    by : list_any (same_line k) (filter (differs x) ys) ≡ list_any (same_line k) ys → (b : Bool) → same_line x y ≡ b
        → list_any (same_line k) (cond (not b) (y ∷ filter (differs x) ys) (filter (differs x) ys)) ≡ (same_line k y || list_any (same_line k) ys)
    by r true e = r ∙ sym (ap (λ c. c || list_any (same_line k) ys) (ap (same_line k) (sym (same_line-is x y e)) ∙ h))
    by r false e = ap (λ c. same_line k y || c) r

none_in : (columns : List ℕ) (k : Line) (rows : List Line) → list_any (same_line k) (distinct (map (key_of columns) rows)) ≡ false → filter (in_group columns k) rows ≡ []
none_in columns k [] h = refl
none_in columns k (r ∷ rows) h = by (none_in columns k rows) (same_line k (key_of columns r)) refl
  where
    by : (list_any (same_line k) (distinct (map (key_of columns) rows)) ≡ false → filter (in_group columns k) rows ≡ []) → (b : Bool) → same_line k (key_of columns r) ≡ b
        → cond b (r ∷ filter (in_group columns k) rows) (filter (in_group columns k) rows) ≡ []
    by next true e = absurd (true≢false (sym (ap (λ c. c || list_any (same_line k) (filter (differs (key_of columns r)) (distinct (map (key_of columns) rows)))) e) ∙ h))
    by next false e = next (sym (any_differs k (key_of columns r) (distinct (map (key_of columns) rows)) e)
        ∙ sym (ap (λ c. c || list_any (same_line k) (filter (differs (key_of columns r)) (distinct (map (key_of columns) rows)))) e) ∙ h)

module _ (final : Bool) (first : ℕ) (columns : List ℕ) (calls : List Call) (rows : List Line) where
  abbrev pub of_key : Line → Line
  of_key key = results final first calls (filter (in_group columns key) rows)

  -- what the row's group had before
  pub had : (row : Line) → results_of_key calls (groups_of final first columns calls rows) (key_of columns row) ≡ of_key (key_of columns row)
  had row = by columns refl
    where
      k : Line
      k = key_of columns row

      unwrapped : (b : Bool) → (b ≡ false → of_key (key_of columns row) ≡ map value_of_none calls)
          → unwrap_or (if b then Some (of_key (key_of columns row)) else None) (map value_of_none calls) ≡ of_key (key_of columns row)
      unwrapped true h = refl
      unwrapped false h = sym (h refl)

      none : (cs : List ℕ) → cs ≡ columns → list_any (same_line (key_of columns row)) (group_keys cs rows) ≡ false → of_key (key_of columns row) ≡ map value_of_none calls
      none [] e h = absurd (true≢false (sym (ap (λ c. same_line (key_of c row) [] || false) (sym e)) ∙ h))
      none (c ∷ cs) e h =
          ap (results final first calls) (none_in columns (key_of columns row) rows (ap (λ l. list_any (same_line (key_of columns row)) (distinct (map (key_of l) rows))) (sym e) ∙ h))
          ∙ results_none final first calls

      by : (cs : List ℕ) → cs ≡ columns → results_of_key calls (groups_of final first columns calls rows) (key_of columns row) ≡ of_key (key_of columns row)
      by cs e =
          ap (λ o. unwrap_or o (map value_of_none calls)) (found_or_none of_key (key_of columns row) (group_keys columns rows))
          ∙ unwrapped (list_any (same_line (key_of columns row)) (group_keys columns rows)) (none columns refl)

  -- of a group the rows, once one more is there
  pub more : (key row : Line) → filter (in_group columns key) (rows ++ row ∷ []) ≡ (if in_group columns key row then filter (in_group columns key) rows ++ row ∷ [] else filter (in_group columns key) rows)
  more key row = filter-append (in_group columns key) rows (row ∷ []) ∙ tail (in_group columns key row)
    where
      tail : (b : Bool) → filter (in_group columns key) rows ++ cond b (row ∷ []) [] ≡ (if b then filter (in_group columns key) rows ++ row ∷ [] else filter (in_group columns key) rows)
      tail true = refl
      tail false = append-nil (filter (in_group columns key) rows)

  -- of a key the results, once a row more is there
  pub more_results : (key row : Line) → results final first calls (filter (in_group columns key) (rows ++ row ∷ []))
      ≡ (if same_line (key_of columns row) key then renewed final first calls (of_key (key_of columns row)) row else of_key key)
  more_results key row = ap (results final first calls) (more key row) ∙ by (same_line (key_of columns row) key) refl
    where
      by : (b : Bool) → same_line (key_of columns row) key ≡ b
          → results final first calls (if in_group columns key row then filter (in_group columns key) rows ++ row ∷ [] else filter (in_group columns key) rows)
          ≡ (if b then renewed final first calls (of_key (key_of columns row)) row else of_key key)
      by true e =
          ap (λ c. results final first calls (if c then filter (in_group columns key) rows ++ row ∷ [] else filter (in_group columns key) rows)) (flips key (key_of columns row) ∙ e)
          ∙ results_step final first calls (filter (in_group columns key) rows) row
          ∙ ap (λ k. renewed final first calls (of_key k) row) (sym (same_line-is (key_of columns row) key e))
      by false e =
          ap (λ c. results final first calls (if c then filter (in_group columns key) rows ++ row ∷ [] else filter (in_group columns key) rows)) (flips key (key_of columns row) ∙ e)

  pub groups_step : (row : Line) → groups_of final first columns calls (rows ++ row ∷ [])
      ≡ insert_entry same_line (groups_of final first columns calls rows) (key_of columns row) (renewed final first calls (results_of_key calls (groups_of final first columns calls rows) (key_of columns row)) row)
  groups_step row =
      (λ i. map (λ key. (key, more_results key row i)) (keys_step columns rows row i))
      ∙ sym (insert_is of_key (key_of columns row) (renewed final first calls (of_key (key_of columns row)) row) (group_keys columns rows) (keys_apart columns rows))
      ∙ ap (λ v. insert_entry same_line (groups_of final first columns calls rows) (key_of columns row) (renewed final first calls v row)) (sym (had row))
