-- What the table says of a connection is what the live queries say.
use Rattle.std.proofs.Common.{◌≡◌, ◌≢◌, ℕ, zero, suc, List, [], ◌∷◌, Bool, true, false, cond, ◌==◌, position, slice_get, get_or, ◌+◌, Option, Some, None, refl, ap, sym, ◌∙◌}
use Rattle.std.specs.List.{Contains, position_from}
use Rattle.std.specs.FinMap.{get}
use Rattle.std.proofs.lemmas.Bool.Decides.{Decides-eqb}
use Rattle.std.proofs.lemmas.Option.{slice_get-get_or}
use Rattle.std.proofs.lemmas.List.Quantifiers.{position-Some}
use Rattle.std.proofs.lemmas.Iterator.Adapters.{position_from-zero}
use Rattle.ic_base.specs.Keys.{key_eq}
use Rattle.ic_base.specs.declared.keys.ConnKey.{ConnKey}
use Rattle.ic_base.proofs.SameKeys.{key_eq-same, key_eq-tells}
use Rattle.ic_conntab.specs.declared.answer.Find.{Find}
use Rattle.ic_conntab.specs.declared.answer.Find.TheVariants.{Foreign, Ended, NotBegun}
use Rattle.ic_conntab.specs.Table.{Table, is_past, found, found_in, placed}
use Rattle.ic_conntab.specs.Ends.{keys_of}
use Rattle.ic_hub.specs.Hubbing.{Hubbing, Living, keys_in, IsHub}
use Rattle.ic_hub.specs.Finding.{IsNotLive}
use Rattle.ic_hub.proofs.Places.{contains_at}

-- ---- places

from_none : {A : Type 0} (p : A → Bool) (n : ℕ) (xs : List A) → position_from p n xs ≡ None → (i : ℕ) (x : A) → slice_get xs i ≡ Some x → p x ≡ true → ⊥
from_none p n [] none i x at sure = let bad : None ≡ Some x = at in cc
from_none {A = A} p n (y ∷ ys) none i x at sure = by (λ h k there. from_none p (n + 1) ys h k x there sure) (p y) refl i at
  where
    by : (position_from p (n + 1) ys ≡ None → (k : ℕ) → slice_get ys k ≡ Some x → ⊥) → (b : Bool) → p y ≡ b → (k : ℕ) → slice_get (y ∷ ys) k ≡ Some x → ⊥
    by more true b k there = let bad : Some n ≡ None = sym (ap (λ c. cond c (Some n) (position_from p (n + 1) ys)) b) ∙ none in cc
    by more false b zero there =
        let same : y ≡ x = cc in
        let bad : false ≡ true = sym b ∙ ap p same ∙ sure in
        cc
    by more false b (suc k) there = more (sym (ap (λ c. cond c (Some n) (position_from p (n + 1) ys)) b) ∙ none) k there

-- where none has a first place none passes
pub position_none : {A : Type 0} (p : A → Bool) (xs : List A) → position p xs ≡ None → (i : ℕ) (x : A) → slice_get xs i ≡ Some x → p x ≡ true → ⊥
position_none p xs none i x at sure = from_none p 0 xs (sym (position_from-zero p xs) ∙ none) i x at sure

-- what stands at a first place passes
pub position_some : {A : Type 0} (p : A → Bool) (xs : List A) (i : ℕ) → position p xs ≡ Some i → (x : A) × (slice_get xs i ≡ Some x) × (p x ≡ true)
position_some p [] i h = let bad : None ≡ Some i = h in cc
position_some p (y ∷ ys) i h =
    let at = position-Some p (y ∷ ys) i y h in
    (get_or (y ∷ ys) i y, slice_get-get_or (y ∷ ys) i y at.0, at.1)

-- an element that passes has a first place
position_stands : {A : Type 0} (p : A → Bool) (xs : List A) (x : A) → Contains xs x → p x ≡ true → position p xs ≡ None → ⊥
position_stands p xs x c sure none = let at = contains_at xs x c in position_none p xs none at.0 x at.1 sure

-- ---- the keys of a query

-- a query that is live has the keys of its ends, and of one that isn't there are none
pub data HasKeys (live : List Living) (query : ℕ) : Type 0 where
  Live : (i : ℕ) (l : Living) → slice_get live i ≡ Some l → l.number ≡ query → keys_in live query ≡ Some (keys_of l.ends) → HasKeys live query
  NotLive : ((i : ℕ) (l : Living) → slice_get live i ≡ Some l → l.number ≢ query) → keys_in live query ≡ None → HasKeys live query

pub has_keys : (live : List Living) (query : ℕ) → HasKeys live query
has_keys [] query = NotLive (λ i l at. let bad : None ≡ Some l = at in cc) refl
has_keys (x ∷ xs) query = by (has_keys xs query) (x.number == query) refl
  where
    rest : Option (List ConnKey)
    rest = keys_in xs query

    not_at : (x.number == query) ≡ false → ((i : ℕ) (l : Living) → slice_get xs i ≡ Some l → l.number ≢ query) → (i : ℕ) (l : Living) → slice_get (x ∷ xs) i ≡ Some l → l.number ≢ query
    not_at off none zero l at is =
        let same : x ≡ l = cc in
        let sure = (Decides-eqb x.number query).1 (ap (λ (y : Living). y.number) same ∙ is) in
        let bad : false ≡ true = sym off ∙ sure in
        cc
    not_at off none (suc i) l at is = none i l at is

    later : (x.number == query) ≡ false → HasKeys xs query → HasKeys (x ∷ xs) query
    later off (Live i l at number keys) = Live (suc i) l at number (ap (λ b. cond b (Some (keys_of x.ends)) rest) off ∙ keys)
    later off (NotLive none keys) = NotLive (not_at off none) (ap (λ b. cond b (Some (keys_of x.ends)) rest) off ∙ keys)

    by : HasKeys xs query → (b : Bool) → (x.number == query) ≡ b → HasKeys (x ∷ xs) query
    by more true sure = Live zero x refl ((Decides-eqb x.number query).0 sure) (ap (λ b. cond b (Some (keys_of x.ends)) rest) sure)
    by more false off = later off more

-- ---- what is found

-- a key that has a place stands there
pub key_at : (keys : List ConnKey) (key : ConnKey) (place : ℕ) → position (key_eq key) keys ≡ Some place → slice_get keys place ≡ Some key
key_at keys key place h =
    let p = position-Some (key_eq key) keys place key h in
    slice_get-get_or keys place key p.0 ∙ ap Some (sym (key_eq-tells key (get_or keys place key) p.1))

-- one that has none isn't among them
pub no_key : (keys : List ConnKey) (key : ConnKey) → position (key_eq key) keys ≡ None → Contains keys key → ⊥
no_key keys key h c = position_stands (key_eq key) keys key c (key_eq-same key) h

pub data Tells (s : Hubbing) (key : ConnKey) (what : Find) : Type 0 where
  OfOther : key.session ≢ s.session → what ≡ Foreign → Tells s key what
  OfLive : key.session ≡ s.session → (i : ℕ) (l : Living) → slice_get s.live i ≡ Some l → l.number ≡ key.query → what ≡ placed (position (key_eq key) (keys_of l.ends)) → Tells s key what
  OfNone : key.session ≡ s.session → IsNotLive s key.query → what ≡ cond (is_past s.top key.query) Ended NotBegun → Tells s key what

pub tells : (s : Hubbing) (table : Table) (key : ConnKey) → IsHub s table → Tells s key (found table key)
tells s table key is = by (key.session == table.session) refl (has_keys s.live key.query)
  where
    inner : Find
    inner = found_in table.top (get table.live key.query) key

    by : (b : Bool) → (key.session == table.session) ≡ b → HasKeys s.live key.query → Tells s key (found table key)
    by false off keys = OfOther (λ same. let bad : false ≡ true = sym off ∙ (Decides-eqb key.session table.session).1 (same ∙ sym is.session) in cc) (ap (λ b. cond b inner Foreign) off)
    by true sure (Live i l at number keys) =
        OfLive ((Decides-eqb key.session table.session).0 sure ∙ is.session) i l at number
        (ap (λ b. cond b inner Foreign) sure ∙ ap (λ o. found_in table.top o key) (is.tabled key.query ∙ keys))
    by true sure (NotLive none keys) =
        OfNone ((Decides-eqb key.session table.session).0 sure ∙ is.session) none
        (ap (λ b. cond b inner Foreign) sure ∙ ap (λ o. found_in table.top o key) (is.tabled key.query ∙ keys) ∙ ap (λ t. found_in t None key) is.top)
