-- Laws of keys, sides and motions.
use Rattle.std.proofs.Common.{◌≡◌, ◌≢◌, ◌==◌, ℕ, ◌+◌, ◌<◌, Bool, inl, inr, true, false, not, cond, nat_lt, List, [], ◌∷◌, map, position, length, get_or, slice_get, Contains, None, Some, refl, sym, ap, subst, ◌∙◌, true≢false, arith}
use Rattle.std.specs.List.{IsDistinct, position_from, position_or_len}
use Rattle.std.specs.Option.{option_map}
use Rattle.std.proofs.lemmas.Bool.{eqb-true, eq-eqb, not-true, le-leb}
use Rattle.std.proofs.lemmas.Option.{slice_get_within, slice_get-get_or, get_or_from_slice_get, slice_get-map}
use Rattle.std.proofs.lemmas.Iterator.Adapters.{position_from-zero}
use Rattle.std.proofs.lemmas.List.Quantifiers.{position-Some}
use Rattle.std.proofs.lemmas.List.Sums.{position_or_len_is}
use Rattle.std.proofs.lemmas.Map.Keys.{apart_from_distinct}
use Rattle.ic_base.specs.Keys.{key_eq}
use Rattle.ic_base.specs.declared.keys.ConnKey.{ConnKey}
use Rattle.ic_base.specs.declared.keys.ConnEnd.{ConnEnd}
use Rattle.ic_base.proofs.SameKeys.{key_eq-same, key_eq-tells}
use Rattle.ic_conntab.specs.Ends.{sending_ends, receiving_ends, keys_of, sender_at, receiver_at, motions_of, receivers_of, distinct, places_where}
use Rattle.ic_conntab.specs.PlaceLaws.{EndsHaveTheirSides, KeysAreOfEnds, KeysDiffer, AreFound, SidesAreFound, MotionsAreReceived, MotionsDiffer, ReceiversHaveTheMotion}
use Rattle.ic_conntab.proofs.EndsApart.{key_eq-flips}
use Rattle.ic_conntab.proofs.Distinct.{distinct_is}
use Rattle.ic_conntab.proofs.Position.{position-map}
use Rattle.ic_conntab.proofs.Member.{Has, has, contained, kept, keeps, from_map, to_map, from_distinct, to_distinct, from_places, to_places}

pub ends_have_their_sides : EndsHaveTheirSides
ends_have_their_sides ends e = (
  (
    λ c. (let r : Has ends e × (e.sending ≡ true) = kept (λ d. d.sending) ends e (has (sending_ends ends) e c) in (contained ends e r.0, r.1)),
    λ h. contained (sending_ends ends) e (keeps (λ d. d.sending) ends e (has ends e h.0) h.1),
  ),
  (
    λ c. (let r : Has ends e × (not e.sending ≡ true) = kept (λ d. not d.sending) ends e (has (receiving_ends ends) e c) in (contained ends e r.0, not-true e.sending r.1)),
    λ h. contained (receiving_ends ends) e (keeps (λ d. not d.sending) ends e (has ends e h.0) (ap not h.1)),
  ),
)

-- the elements that a function gives of a list's, without repetition
named : {X K : Type 0} (eq : K → K → Bool) (same : (x y : K) → eq x y ≡ true → x ≡ y) (f : X → K) (xs : List X) (k : K)
    → (Contains (distinct eq (map f xs)) k → (x : X) × Contains xs x × (f x ≡ k)) × (((x : X) × Contains xs x × (f x ≡ k)) → Contains (distinct eq (map f xs)) k)
named {X} {K} eq same f xs k = (
  λ c. (let r : (x : X) × Has xs x × (f x ≡ k) = from_map f xs k (from_distinct eq same (map f xs) k (has (distinct eq (map f xs)) k c)) in (r.0, contained xs r.0 r.1, r.2)),
  λ h. contained (distinct eq (map f xs)) k (to_distinct eq same (map f xs) k (subst (Has (map f xs)) h.2 (to_map f xs h.0 (has xs h.0 h.1)))),
)

pub keys_are_of_ends : KeysAreOfEnds
unfolding keys_of
keys_are_of_ends ends key = named key_eq key_eq-tells (λ e. e.key) ends key

pub keys_differ : KeysDiffer
unfolding keys_of
keys_differ ends = distinct_is key_eq (map (λ e. e.key) ends)

pub motions_are_received : MotionsAreReceived
unfolding motions_of
motions_are_received ends motion = named (λ m n. m == n) (λ m n h. eqb-true m n h) (λ e. e.key.motion) (receiving_ends ends) motion

pub motions_differ : MotionsDiffer
unfolding motions_of
motions_differ ends = distinct_is (λ m n. m == n) (map (λ e. e.key.motion) (receiving_ends ends))

pub receivers_have_the_motion : ReceiversHaveTheMotion
unfolding receivers_of
receivers_have_the_motion ends motion place = (
  λ c. (let r : (e : ConnEnd) × (slice_get (receiving_ends ends) place ≡ Some e) × ((e.key.motion == motion) ≡ true) =
      from_places (λ e. e.key.motion == motion) (receiving_ends ends) place (has (places_where (λ e. e.key.motion == motion) (receiving_ends ends)) place c) in
      (r.0, r.1, eqb-true r.0.key.motion motion r.2)),
  λ h. contained (places_where (λ e. e.key.motion == motion) (receiving_ends ends)) place
      (to_places (λ e. e.key.motion == motion) (receiving_ends ends) place h.0 h.1 (eq-eqb h.0.key.motion motion h.2)),
)

-- ---- the first place

none_passes : {X : Type 0} (p : X → Bool) (n : ℕ) (xs : List X) → position_from p n xs ≡ None → (x : X) → Has xs x → p x ≡ false
none_passes p n [] h x at = absurd at
none_passes {X} p n (y ∷ ys) h x at = by (p y) refl h at (λ g. none_passes p (n + 1) ys g x)
  where
    by : (b : Bool) → p y ≡ b → cond b (Some n) (position_from p (n + 1) ys) ≡ None → Has (y ∷ ys) x → (position_from p (n + 1) ys ≡ None → Has ys x → p x ≡ false) → p x ≡ false
    by true e g at on = absurd (cc)
    by false e g (inl is) on = ap p (sym is) ∙ e
    by false e g (inr there) on = on g there

from_none : {X : Type 0} (p : X → Bool) (n : ℕ) (xs : List X) → ((x : X) → Has xs x → p x ≡ false) → position_from p n xs ≡ None
from_none p n [] h = refl
from_none p n (y ∷ ys) h = ap (λ b. cond b (Some n) (position_from p (n + 1) ys)) (h y (inl refl)) ∙ from_none p (n + 1) ys (λ x at. h x (inr at))

some_end : ConnKey → ConnEnd
some_end key = record { key = key; sending = false; send_slice = 0; recv_slice = 0 }

position_there : (keys : List ConnKey) (key : ConnKey) (n : ℕ) → IsDistinct key_eq keys → slice_get keys n ≡ Some key → position (key_eq key) keys ≡ Some n
position_there keys key n differ h =
    let within : n < length keys = slice_get_within keys n key h in
    let at : get_or keys n key ≡ key = get_or_from_slice_get keys n key key h in
    let is : position_or_len (key_eq key) keys ≡ n = position_or_len_is (key_eq key) keys n key (omega (arith, within))
    (λ k l. key_eq-flips key (get_or keys k key) ∙ ap (key_eq (get_or keys k key)) (sym at) ∙ apart_from_distinct key_eq keys k n key differ l within)
    (λ l. ap (key_eq key) at ∙ key_eq-same key) in
    ap (λ m. cond (nat_lt m (length keys)) (Some m) None) is ∙ ap (λ b. cond b (Some n) None) (le-leb _ _ within)

differs : (key : ConnKey) (e : ConnEnd) → e.key ≢ key → key_eq key e.key ≡ false
differs key e apart = by (key_eq key e.key) refl
  where
    by : (b : Bool) → key_eq key e.key ≡ b → key_eq key e.key ≡ false
    by true is = absurd (apart (sym (key_eq-tells key e.key is)))
    by false is = is

found_among : (of_side : List ConnEnd) → AreFound of_side (λ key. position (λ e. key_eq key e.key) of_side)
found_among of_side = record {
  some = λ key place h.
      (let p : (place < length of_side) × (key_eq key (get_or of_side place (some_end key)).key ≡ true) × ((k : ℕ) → k < place → key_eq key (get_or of_side k (some_end key)).key ≡ false) =
      position-Some (λ e. key_eq key e.key) of_side place (some_end key) h in
      (get_or of_side place (some_end key), slice_get-get_or of_side place (some_end key) p.0, sym (key_eq-tells key (get_or of_side place (some_end key)).key p.1)));
  none = λ key. (
    λ h e c is. true≢false (sym (ap (key_eq key) is ∙ key_eq-same key)
        ∙ none_passes (λ e. key_eq key e.key) 0 of_side (sym (position_from-zero (λ e. key_eq key e.key) of_side) ∙ h) e (has of_side e c)),
    λ h. position_from-zero (λ e. key_eq key e.key) of_side ∙ from_none (λ e. key_eq key e.key) 0 of_side (λ e at. differs key e (h e (contained of_side e at))),
  );
  each = λ differ e place at. sym (position-map (key_eq e.key) (λ d. d.key) of_side)
      ∙ position_there (map (λ d. d.key) of_side) e.key place differ (slice_get-map (λ d. d.key) of_side place ∙ ap (option_map (λ d. d.key)) at);
}

pub sides_are_found : SidesAreFound
unfolding sender_at receiver_at
sides_are_found ends = (found_among (sending_ends ends), found_among (receiving_ends ends))
