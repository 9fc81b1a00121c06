-- What a parcel makes of its sender's lane.
use Rattle.std.proofs.Common.{◌≡◌, ◌≢◌, ℕ, List, [], ◌∷◌, ◌++◌, Bool, true, false, not, ◌||◌, Result, Ok, Err, OnOk, IfErr, refl, ap, sym, ◌∙◌, subst}
use Rattle.std.specs.List.{AllByRecursion, list_all}
use Rattle.std.specs.Bool.{beq}
use Rattle.std.proofs.lemmas.Bool.{and_parts, and_from}
use Rattle.ic_base.specs.declared.datagram.Parcel.{Parcel}
use Rattle.ic_row.specs.declared.value.Kind.{Kind}
use Rattle.ic_row.specs.declared.value.Kind.TheVariants as kinds_
use Rattle.ic_row.specs.declared.value.Value.{Value}
use Rattle.ic_row.specs.declared.value.Value.TheVariants.{Null, Int, Wide, Chars}
use Rattle.ic_chunk.specs.Joining.{Held, Stands}
use Rattle.pl_ops.specs.Rows.{Line}
use Rattle.pl_ops.specs.Fitting.{IsOfKind}
use Rattle.ic_motion.specs.declared.answers.MotionEnd.{MotionEnd}
use Rattle.ic_motion.specs.declared.answers.MotionNo.{MotionNo}
use Rattle.ic_motion.specs.declared.answers.MotionNo.TheVariants as why
use Rattle.ic_motion.specs.Hearing.{HasKinds, Lane}
use Rattle.ic_motion.specs.Feeding.{of_kind, has_kinds, wrong_mark, wrong_kinds, Spoils, Fills}
use Rattle.ic_motion.proofs.Lists.{all_behind}

-- ---- kinds

kind_from : (k : Kind) (v : Value) → of_kind k v ≡ true → IsOfKind k v
kind_from k Null is = tt
kind_from kinds_.Int (Int n) is = refl
kind_from kinds_.Wide (Wide n) is = refl
kind_from kinds_.Chars (Chars t) is = refl
kind_from kinds_.Int (Wide n) is = cc
kind_from kinds_.Int (Chars t) is = cc
kind_from kinds_.Wide (Int n) is = cc
kind_from kinds_.Wide (Chars t) is = cc
kind_from kinds_.Chars (Int n) is = cc
kind_from kinds_.Chars (Wide n) is = cc

kind_to : (k : Kind) (v : Value) → IsOfKind k v → of_kind k v ≡ true
kind_to k Null is = refl
kind_to kinds_.Int (Int n) is = refl
kind_to kinds_.Wide (Wide n) is = refl
kind_to kinds_.Chars (Chars t) is = refl
kind_to kinds_.Int (Wide n) is = cc
kind_to kinds_.Int (Chars t) is = cc
kind_to kinds_.Wide (Int n) is = cc
kind_to kinds_.Wide (Chars t) is = cc
kind_to kinds_.Chars (Int n) is = cc
kind_to kinds_.Chars (Wide n) is = cc

kinds_from : (ks : List Kind) (row : Line) → has_kinds ks row ≡ true → HasKinds ks row
kinds_from [] [] is = tt
kinds_from (k ∷ ks) (v ∷ vs) is = let w = and_parts (of_kind k v) (has_kinds ks vs) is in (kind_from k v w.0, kinds_from ks vs w.1)
kinds_from [] (v ∷ vs) is = cc
kinds_from (k ∷ ks) [] is = cc

kinds_to : (ks : List Kind) (row : Line) → HasKinds ks row → has_kinds ks row ≡ true
kinds_to [] [] is = refl
kinds_to (k ∷ ks) (v ∷ vs) is = and_from (of_kind k v) (has_kinds ks vs) (kind_to k v is.0) (kinds_to ks vs is.1)
kinds_to [] (v ∷ vs) is = absurd is
kinds_to (k ∷ ks) [] is = absurd is

rows_from : (ks : List Kind) (rows : List Line) → list_all (has_kinds ks) rows ≡ true → AllByRecursion (HasKinds ks) rows
rows_from ks [] is = tt
rows_from ks (row ∷ rows) is = let w = and_parts (has_kinds ks row) (list_all (has_kinds ks) rows) is in (kinds_from ks row w.0, rows_from ks rows w.1)

rows_to : (ks : List Kind) (rows : List Line) → AllByRecursion (HasKinds ks) rows → list_all (has_kinds ks) rows ≡ true
rows_to ks [] is = refl
rows_to ks (row ∷ rows) is = and_from (has_kinds ks row) (list_all (has_kinds ks) rows) (kinds_to ks row is.0) (rows_to ks rows is.1)

-- ---- marks

pub marks_differ : (a b : Bool) → not (beq a b) ≡ true → a ≢ b
marks_differ true true is = cc
marks_differ true false is = λ x. cc
marks_differ false true is = λ x. cc
marks_differ false false is = cc

pub marks_same : (a b : Bool) → not (beq a b) ≡ false → a ≡ b
marks_same true true is = refl
marks_same true false is = cc
marks_same false true is = cc
marks_same false false is = refl

-- ---- one parcel

-- what a joiner that took the payload gave
abbrev pub Gave : Held → Held → List ℕ → List Line → Type 0
Gave old new payload given = (payloads : List (List ℕ)) (rows : List Line) → Stands old payloads rows → Stands new (payloads ++ payload ∷ []) (rows ++ given)

pub spoils_mark : (kinds : List Kind) (old : Lane) (was now : Held) (p : Parcel) (payload : List ℕ) (given : List Line) → old.stream ≡ was → payload ≡ p.payload → Gave was now payload given → now.ended ≢ p.last → Spoils kinds old p
spoils_mark kinds old was now p payload given is same goes ne =
    λ payloads rows st. wrong_mark (rows ++ given) now.rest now.ended (subst (λ b. Stands now (payloads ++ b ∷ []) (rows ++ given)) same (goes payloads rows (subst (λ (x : Held). Stands x payloads rows) is st))) ne

pub spoils_kinds : (kinds : List Kind) (old : Lane) (was now : Held) (p : Parcel) (payload : List ℕ) (given : List Line) → old.stream ≡ was → payload ≡ p.payload → Gave was now payload given → list_all (has_kinds kinds) given ≡ false → Spoils kinds old p
spoils_kinds kinds old was now p payload given is same goes bad =
    λ payloads rows st.
    wrong_kinds (rows ++ given) now.rest now.ended (subst (λ b. Stands now (payloads ++ b ∷ []) (rows ++ given)) same (goes payloads rows (subst (λ (x : Held). Stands x payloads rows) is st)))
    (λ all. let e : true ≡ false = sym (rows_to kinds given (all_behind (HasKinds kinds) rows given all)) ∙ bad in cc)

pub filled : (end : MotionEnd) (kinds : List Kind) (old new : Lane) (was : Held) (p : Parcel) (payload : List ℕ) (given : List Line) (over : Bool) (result : Result (Unit {0}) MotionNo) → old.stream ≡ was → payload ≡ p.payload → Gave was new.stream payload given
    → new.stream.ended ≡ p.last → list_all (has_kinds kinds) given ≡ true → over ≡ (old.over || p.last) → new ≡ record old { stream = new.stream; rows = new.rows; over = over }
    → OnOk result (new.rows ≡ old.rows ++ given) → IfErr result (λ no_. no_ ≡ why.Memory) → Fills end kinds old new p result
filled end kinds old new was p payload given over (Ok _) is same goes mark fits over_is made ok err = (
  given,
  record {
    feeds = λ payloads rows st. subst (λ b. Stands new.stream (payloads ++ b ∷ []) (rows ++ given)) same (goes payloads rows (subst (λ (x : Held). Stands x payloads rows) is st));
    mark = mark;
    fit = rows_from kinds given fits;
    new_is = made ∙ ap (λ r. record old { stream = new.stream; rows = r; over = over }) ok ∙ ap (λ b. record old { stream = new.stream; rows = old.rows ++ given; over = b }) over_is;
  },
)
filled end kinds old new was p payload given over (Err no_) is same goes mark fits over_is made ok err = subst (λ n. Fills end kinds old new p (Err n)) (sym err) tt
