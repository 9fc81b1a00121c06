-- The position of a key is where it is among its query's connections.
use Rattle.std.proofs.Common.{◌≡◌, ℕ, ◌<◌, cond, nat_lt, List, length, position, slice_get, get_or, Option, None, Some, refl, sym, ap, ◌∙◌, arith}
use Rattle.std.specs.List.{IsDistinct, position_or_len}
use Rattle.std.proofs.lemmas.Bool.{le-leb}
use Rattle.std.proofs.lemmas.Option.{slice_get_within, get_or_from_slice_get, slice_get-get_or}
use Rattle.std.proofs.lemmas.List.Quantifiers.{position-Some}
use Rattle.std.proofs.lemmas.List.Sums.{position_or_len_is}
use Rattle.std.proofs.lemmas.Map.Keys.{apart_from_distinct}
use Rattle.ic_base.specs.Keys.{key_eq}
use Rattle.ic_base.specs.declared.keys.ConnKey.{ConnKey}
use Rattle.ic_base.proofs.SameKeys.{key_eq-same, key_eq-tells}
use Rattle.ic_conntab.specs.declared.answer.Find.{Find}
use Rattle.ic_conntab.specs.declared.answer.Find.TheVariants.{Here}
use Rattle.ic_conntab.specs.Table.{placed, found}
use Rattle.ic_conntab.specs.Laws.{PlaceIsItsOwn}
use Rattle.ic_conntab.proofs.TableKeys.{key_eq-flips}
use Rattle.ic_conntab.proofs.LookUp.{found_here}

place_in : Find → Option ℕ
place_in (Here place) = Some place
place_in _ = None

place_in-placed : (place : Option ℕ) → place_in (placed place) ≡ place
unfolding place_in
place_in-placed None = refl
place_in-placed (Some place) = refl

-- if a key is found at a position, that is the first position of the key
position_from_found : (place : Option ℕ) (n : ℕ) → placed place ≡ Here n → place ≡ Some n
unfolding place_in
position_from_found place n h = sym (place_in-placed place) ∙ ap place_in h

stands_there : (keys : List ConnKey) (key : ConnKey) (n : ℕ) → position (key_eq key) keys ≡ Some n → slice_get keys n ≡ Some key
stands_there keys key n h =
    let p = position-Some (key_eq key) keys n key h in
    slice_get-get_or keys n key p.0 ∙ ap Some (sym (key_eq-tells key (get_or keys n key) p.1))

position_there : (keys : List ConnKey) (key : ConnKey) (n : ℕ) → IsDistinct key_eq keys → slice_get keys n ≡ Some key → position (key_eq key) keys ≡ Some n
position_there keys key n distinct h =
    let within : n < length keys = slice_get_within keys n key h in
    let at : get_or keys n key ≡ key = get_or_from_slice_get keys n key key h in
    let is : position_or_len (key_eq key) keys ≡ n = position_or_len_is (key_eq key) keys n key (omega (arith, within))
    (λ k l. key_eq-flips key (get_or keys k key) ∙ ap (key_eq (get_or keys k key)) (sym at) ∙ apart_from_distinct key_eq keys k n key distinct l within)
    (λ l. ap (key_eq key) at ∙ key_eq-same key) in
    ap (λ m. cond (nat_lt m (length keys)) (Some m) None) is ∙ ap (λ b. cond b (Some n) None) (le-leb _ _ within)

pub place_is_its_own : PlaceIsItsOwn
place_is_its_own t keys key place session live =
    let is : found t key ≡ placed (position (key_eq key) keys) = found_here t key (Some keys) session live in (
      λ h. stands_there keys key place (position_from_found (position (key_eq key) keys) place (sym is ∙ h)),
      λ distinct h. is ∙ ap placed (position_there keys key place distinct h),
    )
