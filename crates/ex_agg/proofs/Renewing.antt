-- The results of one group, renewed one after another.
use Rattle.std.proofs.Common.{◌≡◌, ℕ, zero, suc, ◌+◌, ◌<◌, ◌≤◌, Bool, List, [], ◌∷◌, ◌++◌, length, get_or, take, drop, slice_get, slice_set, Some, None, refl, sym, ap, ◌∙◌, subst, arith, add-one, drop-cons, append_assoc, inl, inr}
use Rattle.std.specs.Prelude.{◌↔◌, ◌⊎◌, Result, Ok, Err, IfErr}
use Rattle.std.specs.Result.{IsErrAnd}
use Rattle.std.proofs.Math.ListN.{drop_of_length-le}
use Rattle.std.proofs.lemmas.List.{take_all, take_more_set, drop-set-lt, take-append-drop}
use Rattle.ic_row.specs.declared.value.Value.{Value}
use Rattle.ic_row.specs.declared.value.Value.TheVariants.{Null}
use Rattle.pl_tree.specs.declared.node.Call.{Call}
use Rattle.pl_tree.specs.declared.node.Call.TheVariants.{Count}
use Rattle.pl_ops.specs.Rows.{Line}
use Rattle.pl_ops.specs.declared.words.OpNo.{OpNo}
use Rattle.pl_ops.specs.Overflow.{HasRoom}
use Rattle.ex_agg.specs.Calls.{HaveRoom, renewed, next_at}

pub set_past : (xs : Line) (i : ℕ) (w : Value) → None ≡ slice_get xs i → xs ≡ slice_set xs i w
set_past [] i w h = refl
set_past (x ∷ xs) zero w h = absurd (cc)
set_past (x ∷ xs) (suc i) w h = ap (λ l. x ∷ l) (set_past xs i w h)

pub not_past : (xs : Line) (i : ℕ) → None ≡ slice_get xs i → i < length xs → ⊥
not_past [] i h l = omega (arith, l)
not_past (x ∷ xs) zero h l = absurd (cc)
not_past (x ∷ xs) (suc i) h l = not_past xs i h (omega (arith, l))

pub set_same : (xs : Line) (i : ℕ) (w v : Value) → Some v ≡ slice_get xs i → v ≡ w → xs ≡ slice_set xs i w
set_same [] i w v h e = refl
set_same (x ∷ xs) zero w v h e = ap (λ y. y ∷ xs) (some_same x v h ∙ e)
  where
    some_same : (x v : Value) → Some v ≡ Some x → x ≡ v
    some_same x v h = cc
set_same (x ∷ xs) (suc i) w v h e = ap (λ l. x ∷ l) (set_same xs i w v h e)

pub get_there : (xs : Line) (i : ℕ) (v : Value) → Some v ≡ slice_get xs i → get_or xs i Null ≡ v
get_there [] i v h = absurd (cc)
get_there (x ∷ xs) zero v h = cc
get_there (x ∷ xs) (suc i) v h = get_there xs i v h

-- ---- the loop

module _ (final : Bool) (first : ℕ) (calls : List Call) (row : Line) (old : Line) where
  -- what was done, with what is left to do, is all of it; and what is left has room exactly if all has
  pub record SoFar (i : ℕ) (values : Line) : Type 0 where
    pub same : take i values ++ renewed final (first + i) (drop i calls) (drop i values) row ≡ renewed final first calls old row
    pub room : HaveRoom calls (renewed final first calls old row) ↔ HaveRoom (drop i calls) (renewed final (first + i) (drop i calls) (drop i values) row)

  pub begins : SoFar 0 old
  begins = record {
    same = ap (λ c. renewed final c calls old row) plus_none;
    room = subst (λ c. HaveRoom calls (renewed final first calls old row) ↔ HaveRoom calls (renewed final c calls old row)) (sym plus_none) ((λ a. a), (λ a. a));
  }
    where
      plus_none : first + 0 ≡ first
      plus_none = omega arith

  renewed_none : (c : ℕ) (calls : List Call) → renewed final c calls [] row ≡ []
  renewed_none c [] = refl
  renewed_none c (call ∷ calls) = refl

  none_asked : (calls : List Call) → HaveRoom calls []
  none_asked [] = tt
  none_asked (call ∷ calls) = tt

  at_call : (i : ℕ) (call : Call) → i < length calls → call ≡ get_or calls i Count → drop i calls ≡ call ∷ drop (i + 1) calls
  at_call i call lt is = drop-cons calls i Count lt ∙ (λ j. sym is j ∷ drop (sym (add-one i) j) calls)

  module _ (i : ℕ) (values : Line) (call : Call) (lt : i < length calls) (is : call ≡ get_or calls i Count) (s : SoFar i values) where
    abbrev pub w : Value
    w = next_at final (first + i) call values i row

    abbrev pub cs : List Call
    cs = drop (i + 1) calls

    one_more : i < length values → renewed final (first + i) (drop i calls) (drop i values) row ≡ w ∷ renewed final (first + (i + 1)) cs (drop (i + 1) values) row
    one_more within =
        (λ j. renewed final (first + i) (at_call i call lt is j) ((drop-cons values i Null within ∙ ap (λ n. get_or values i Null ∷ drop n values) (sym (add-one i))) j) row)
        ∙ ap (λ c. w ∷ renewed final c cs (drop (i + 1) values) row) place
      where
        place : first + i + 1 ≡ first + (i + 1)
        place = omega arith

    pub over : i < length values → (HasRoom w → ⊥) → HaveRoom calls (renewed final first calls old row) → ⊥
    over within no_room all =
        no_room (subst (λ r. HaveRoom (call ∷ cs) r) (one_more within) (subst (λ l. HaveRoom l (renewed final (first + i) (drop i calls) (drop i values) row)) (at_call i call lt is) (s.room.0 all))).0

    next_within : i < length values → HasRoom w → SoFar (i + 1) (slice_set values i w)
    next_within within fit =
        let rest = renewed final (first + (i + 1)) cs (drop (i + 1) values) row in
        let there : drop (i + 1) (slice_set values i w) ≡ drop (i + 1) values = drop-set-lt (i + 1) values i w (omega arith) in
        record {
          same = (λ j. take_more_set values i w within j ++ renewed final (first + (i + 1)) cs (there j) row)
              ∙ append_assoc (take i values) (w ∷ []) rest ∙ ap (λ r. take i values ++ r) (sym (one_more within)) ∙ s.same;
          room = subst (λ v. HaveRoom calls (renewed final first calls old row) ↔ HaveRoom cs (renewed final (first + (i + 1)) cs v row)) (sym there) (
            (λ all. (subst (λ r. HaveRoom (call ∷ cs) r) (one_more within) (subst (λ l. HaveRoom l (renewed final (first + i) (drop i calls) (drop i values) row)) (at_call i call lt is) (s.room.0 all))).1),
            (λ more. s.room.1 (subst (λ l. HaveRoom l (renewed final (first + i) (drop i calls) (drop i values) row)) (sym (at_call i call lt is)) (subst (λ r. HaveRoom (call ∷ cs) r) (sym (one_more within)) (fit, more)))),
          );
        }

    next_past : length values ≤ i → SoFar (i + 1) values
    next_past past =
        let none : drop i values ≡ [] = drop_of_length-le values past in
        let longer : length values ≤ i + 1 = omega (arith, past) in
        let none_next : drop (i + 1) values ≡ [] = drop_of_length-le values longer in
        let all_of : take (i + 1) values ≡ take i values = take_all (i + 1) values (omega (arith, past)) ∙ sym (take_all i values past) in
        record {
          same = (λ j. all_of j ++ renewed final (first + (i + 1)) cs (none_next j) row) ∙ ap (λ r. take i values ++ r) (renewed_none (first + (i + 1)) cs ∙ sym (ap (λ v. renewed final (first + i) (drop i calls) v row) none ∙ renewed_none (first + i) (drop i calls))) ∙ s.same;
          room = (
            (λ all. subst (HaveRoom cs) (sym (ap (λ v. renewed final (first + (i + 1)) cs v row) none_next ∙ renewed_none (first + (i + 1)) cs)) (none_asked cs)),
            (λ more. s.room.1 (subst (HaveRoom (drop i calls)) (sym (ap (λ v. renewed final (first + i) (drop i calls) v row) none ∙ renewed_none (first + i) (drop i calls))) (none_asked (drop i calls)))),
          );
        }

    pub next : (new : Line) → new ≡ slice_set values i w → (i < length values → HasRoom w) → SoFar (i + 1) new
    next new e fit = by (lt_or values i)
      where
        lt_or : (values : Line) (i : ℕ) → (i < length values) ⊎ (length values ≤ i)
        lt_or values i = grind arith

        by : (i < length values) ⊎ (length values ≤ i) → SoFar (i + 1) new
        by (inl within) = subst (SoFar (i + 1)) (sym e) (next_within within (fit within))
        by (inr past) = subst (SoFar (i + 1)) (sym (e ∙ sym (set_past values i w (past_get values i past)))) (next_past past)
          where
            past_get : (xs : Line) (i : ℕ) → length xs ≤ i → None ≡ slice_get xs i
            past_get [] i h = refl
            past_get (x ∷ xs) zero h = absurd (omega (arith, h))
            past_get (x ∷ xs) (suc i) h = past_get xs i (omega (arith, h))

  module _ (i : ℕ) (values : Line) (done : length calls ≤ i) (s : SoFar i values) where
    no_calls : drop i calls ≡ []
    no_calls = drop_of_length-le calls done

    pub renewed_all : values ≡ renewed final first calls old row
    renewed_all = sym (take-append-drop i values) ∙ ap (λ l. take i values ++ renewed final (first + i) l (drop i values) row) (sym no_calls) ∙ s.same

    pub all_room : HaveRoom calls (renewed final first calls old row)
    all_room = s.room.1 (subst (λ l. HaveRoom l (renewed final (first + i) l (drop i values) row)) (sym no_calls) tt)

-- an error that is handed on
pub handed_on : (result : Result (Unit {0}) OpNo) (why : OpNo) (P : OpNo → Type 0) → IsErrAnd result (λ e. e ≡ why) → P why → IfErr result P
handed_on (Ok x) why P h p = tt
handed_on (Err e) why P h p = subst P (sym h) p
