-- Where the ends of a hub stand, and which of them are here.
use Rattle.std.proofs.Common.{◌≡◌, ℕ, zero, suc, ◌<◌, List, [], ◌∷◌, ◌++◌, map, Bool, true, false, Some, None, refl, ap, sym, ◌∙◌, subst, arith, inl, inr, ◌⊎◌, slice_get, filter, cond, not}
use Rattle.std.specs.List.{AllByRecursion, Contains}
use Rattle.std.proofs.lemmas.Option.{slice_get_within, slice_get-get_or, get_or_from_slice_get}
use Rattle.ic_base.specs.declared.keys.ConnEnd.{ConnEnd}
use Rattle.ic_base.specs.declared.keys.ConnKey.{ConnKey}
use Rattle.ic_law.specs.Points.{Place}
use Rattle.ic_law.specs.Asking.{AreEnds}
use Rattle.ic_conntab.specs.Ends.{sending_ends, receiving_ends}
use Rattle.ic_conntab.proofs.Named.{ends_have_their_sides}
use Rattle.ic_receiver.specs.Receiving.{Receiving}
use Rattle.ic_timed_sender.specs.Timed.{TimedState}
use Rattle.ic_hub.specs.Hubbing.{Hubbing, Living, IsLiving, IsOfHub, place_in}

-- ---- lists

pub all_at : {A : Type 0} (P : A → Type 0) (xs : List A) (i : ℕ) (x : A) → AllByRecursion P xs → slice_get xs i ≡ Some x → P x
all_at P [] i x all h = let bad : None ≡ Some x = h in cc
all_at P (y ∷ ys) zero x all h = let same : y ≡ x = cc in subst P same all.0
all_at P (y ∷ ys) (suc i) x all h = all_at P ys i x all.1 h

pub at_map : {A B : Type 0} (f : A → B) (xs : List A) (i : ℕ) (y : B) → slice_get (map f xs) i ≡ Some y → (x : A) × (slice_get xs i ≡ Some x) × (f x ≡ y)
at_map f [] i y h = let bad : None ≡ Some y = h in cc
at_map f (x ∷ xs) zero y h = (x, refl, cc)
at_map f (x ∷ xs) (suc i) y h = at_map f xs i y h

pub map_at : {A B : Type 0} (f : A → B) (xs : List A) (i : ℕ) (x : A) → slice_get xs i ≡ Some x → slice_get (map f xs) i ≡ Some (f x)
map_at f [] i x h = let bad : None ≡ Some x = h in cc
map_at f (y ∷ ys) zero x h = let same : y ≡ x = cc in ap (λ a. Some (f a)) same
map_at f (y ∷ ys) (suc i) x h = map_at f ys i x h

pub at_contains : {A : Type 0} (xs : List A) (i : ℕ) (x : A) → slice_get xs i ≡ Some x → Contains xs x
at_contains xs i x h = (i, slice_get_within xs i x h, get_or_from_slice_get xs i x x h)

pub contains_at : {A : Type 0} (xs : List A) (x : A) → Contains xs x → (i : ℕ) × (slice_get xs i ≡ Some x)
contains_at xs x c = (c.0, slice_get-get_or xs c.0 x c.1 ∙ ap Some c.2)

-- ---- what is always true of a hub, of each query

pub record Shaped (s : Hubbing) : Type 0 where
  pub living : (i : ℕ) (l : Living) → slice_get s.live i ≡ Some l → IsLiving l
  pub of_hub : (i : ℕ) (l : Living) → slice_get s.live i ≡ Some l → IsOfHub (place_in s) s.tick l
  pub apart : (i j : ℕ) (a b : Living) → slice_get s.live i ≡ Some a → slice_get s.live j ≡ Some b → a.number ≡ b.number → i ≡ j

-- ---- connections of ends

-- the connection of a sending end of a query
pub record SenderOf (l : Living) (end : ConnEnd) : Type 0 where
  pub at : ℕ
  pub sender : TimedState
  pub here : slice_get l.senders at ≡ Some sender
  pub is : sender.sending.end ≡ end

pub sender_of : (l : Living) (end : ConnEnd) → IsLiving l → Contains l.ends end → end.sending ≡ true → SenderOf l end
sender_of l end living has sends =
    let there = contains_at (sending_ends l.ends) end ((ends_have_their_sides l.ends end).0.1 (has, sends)) in
    let found = at_map (λ (o : TimedState). o.sending.end) l.senders there.0 end (ap (λ xs. slice_get xs there.0) living.senders ∙ there.1) in
    record { at = there.0; sender = found.0; here = found.1; is = found.2 }

-- the connection of a receiving end
pub record ReceiverOf (l : Living) (end : ConnEnd) : Type 0 where
  pub at : ℕ
  pub receiver : Receiving
  pub here : slice_get l.receivers at ≡ Some receiver
  pub is : receiver.end ≡ end

pub receiver_of : (l : Living) (end : ConnEnd) → IsLiving l → Contains l.ends end → end.sending ≡ false → ReceiverOf l end
receiver_of l end living has receives =
    let there = contains_at (receiving_ends l.ends) end ((ends_have_their_sides l.ends end).1.1 (has, receives)) in
    let found = at_map (λ (r : Receiving). r.end) l.receivers there.0 end (ap (λ xs. slice_get xs there.0) living.receivers ∙ there.1) in
    record { at = there.0; receiver = found.0; here = found.1; is = found.2 }

-- ---- ends of connections

-- the end of a connection stands among those of its query, on its side
pub record EndOf (l : Living) (end : ConnEnd) (side : Bool) : Type 0 where
  pub has : Contains l.ends end
  pub side_is : end.sending ≡ side

pub end_of_sender : (l : Living) (i : ℕ) (o : TimedState) → IsLiving l → slice_get l.senders i ≡ Some o → EndOf l o.sending.end true
end_of_sender l i o living here =
    let there : slice_get (sending_ends l.ends) i ≡ Some o.sending.end = ap (λ xs. slice_get xs i) (sym living.senders) ∙ map_at (λ (x : TimedState). x.sending.end) l.senders i o here in
    let is = (ends_have_their_sides l.ends o.sending.end).0.0 (at_contains (sending_ends l.ends) i o.sending.end there) in
    record { has = is.0; side_is = is.1 }

pub end_of_receiver : (l : Living) (i : ℕ) (r : Receiving) → IsLiving l → slice_get l.receivers i ≡ Some r → EndOf l r.end false
end_of_receiver l i r living here =
    let there : slice_get (receiving_ends l.ends) i ≡ Some r.end = ap (λ xs. slice_get xs i) (sym living.receivers) ∙ map_at (λ (x : Receiving). x.end) l.receivers i r here in
    let is = (ends_have_their_sides l.ends r.end).1.0 (at_contains (receiving_ends l.ends) i r.end there) in
    record { has = is.0; side_is = is.1 }

-- ---- each end has one connection

-- the list is cut at this element
record CutAt {A : Type 0} (xs : List A) (b : A) : Type 0 where
  pub front : List A
  pub back : List A
  pub all : xs ≡ front ++ b ∷ back

cut_more : {A : Type 0} (x : A) (xs : List A) (b : A) → CutAt xs b → CutAt (x ∷ xs) b
cut_more x xs b w = record { front = x ∷ w.front; back = w.back; all = ap (λ ys. x ∷ ys) w.all }

-- an element that passes stands among all
in_all : {A : Type 0} (test : A → Bool) (xs : List A) (j : ℕ) (b : A) → slice_get (filter test xs) j ≡ Some b → CutAt xs b
in_all test [] j b h = let bad : None ≡ Some b = h in cc
in_all {A = A} test (x ∷ xs) j b h = by (in_all test xs) (test x) refl j h
  where
    by : ((k : ℕ) (b : A) → slice_get (filter test xs) k ≡ Some b → CutAt xs b) → (p : Bool) → test x ≡ p → (k : ℕ) → slice_get (cond p (x ∷ filter test xs) (filter test xs)) k ≡ Some b → CutAt (x ∷ xs) b
    by more true e zero at = let same : x ≡ b = cc in record { front = []; back = xs; all = ap (λ y. y ∷ xs) same }
    by more true e (suc k) at = cut_more x xs b (more k b at)
    by more false e k at = cut_more x xs b (more k b at)

-- the list is cut at these two
record CutTwice {A : Type 0} (xs : List A) (a b : A) : Type 0 where
  pub front : List A
  pub between : List A
  pub back : List A
  pub all : xs ≡ front ++ a ∷ between ++ b ∷ back

twice_more : {A : Type 0} (x : A) (xs : List A) (a b : A) → CutTwice xs a b → CutTwice (x ∷ xs) a b
twice_more x xs a b w = record { front = x ∷ w.front; between = w.between; back = w.back; all = ap (λ ys. x ∷ ys) w.all }

-- two that pass stand among all in their order
in_order : {A : Type 0} (test : A → Bool) (xs : List A) (i j : ℕ) (a b : A) → i < j → slice_get (filter test xs) i ≡ Some a → slice_get (filter test xs) j ≡ Some b → CutTwice xs a b
in_order test [] i j a b less h k = let bad : None ≡ Some a = h in cc
in_order {A = A} test (x ∷ xs) i j a b less h k = by (λ m n. in_order test xs m n a b) (λ n. in_all test xs n b) (test x) refl i j less h k
  where
    by : ((m n : ℕ) → m < n → slice_get (filter test xs) m ≡ Some a → slice_get (filter test xs) n ≡ Some b → CutTwice xs a b) → ((n : ℕ) → slice_get (filter test xs) n ≡ Some b → CutAt xs b)
        → (p : Bool) → test x ≡ p → (m n : ℕ) → m < n → slice_get (cond p (x ∷ filter test xs) (filter test xs)) m ≡ Some a → slice_get (cond p (x ∷ filter test xs) (filter test xs)) n ≡ Some b → CutTwice (x ∷ xs) a b
    by more one true e m zero l at bt = absurd (omega (arith, l))
    by more one true e zero (suc n) l at bt =
        let same : x ≡ a = cc in
        let w = one n bt in
        record { front = []; between = w.front; back = w.back; all = ap (λ y. y ∷ xs) same ∙ ap (λ ys. a ∷ ys) w.all }
    by more one true e (suc m) (suc n) l at bt = twice_more x xs a b (more m n (omega (arith, l)) at bt)
    by more one false e m n l at bt = twice_more x xs a b (more m n l at bt)

pub apart_or_same : (m n : ℕ) → (m < n) ⊎ ((n < m) ⊎ (m ≡ n))
apart_or_same zero zero = inr (inr refl)
apart_or_same zero (suc n) = inl (omega arith)
apart_or_same (suc m) zero = inr (inl (omega arith))
apart_or_same (suc m) (suc n) = elim (apart_or_same m n) [ inl l ↦ inl (omega (arith, l)) | inr w ↦ elim w [ inl g ↦ inr (inl (omega (arith, g))) | inr e ↦ inr (inr (ap suc e)) ] ]

-- two ends of one side and one key are one
one_place : (place : Place) (query : ℕ) (ends : List ConnEnd) (test : ConnEnd → Bool) (side : Bool) (i j : ℕ) (a b : ConnEnd)
    → AreEnds place query ends → slice_get (filter test ends) i ≡ Some a → slice_get (filter test ends) j ≡ Some b → a.sending ≡ side → b.sending ≡ side → a.key ≡ b.key → i ≡ j
one_place place query ends test side i j a b are at bt sa sb key =
    elim (apart_or_same i j) [
      | inl l ↦ (let w = in_order test ends i j a b l at bt in absurd (are.once w.front w.between w.back a b w.all key (sa ∙ sym sb)))
      | inr o ↦ elim o [
        | inl g ↦ (let w = in_order test ends j i b a g bt at in absurd (are.once w.front w.between w.back b a w.all (sym key) (sb ∙ sym sa)))
        | inr same ↦ same
      ]
    ]

-- the query of a connection's key is its query's number
pub number_of : (s : Hubbing) (q : ℕ) (l : Living) (end : ConnEnd) → Shaped s → slice_get s.live q ≡ Some l → Contains l.ends end → l.number ≡ end.key.query
number_of s q l end shaped here has = sym ((shaped.of_hub q l here).ends.each end has).query_is

-- where two connections are at one place of one query
pub record IsOne (q r i j : ℕ) : Type 0 where
  pub query : q ≡ r
  pub place : i ≡ j

pub some_one : {A : Type 0} (a b : A) → Some a ≡ Some b → a ≡ b
some_one a b h = cc

-- two senders of one key are one
pub one_sender : (s : Hubbing) (q r i j : ℕ) (l m : Living) (o p : TimedState) → Shaped s → slice_get s.live q ≡ Some l → slice_get s.live r ≡ Some m → slice_get l.senders i ≡ Some o → slice_get m.senders j ≡ Some p
    → o.sending.end.key ≡ p.sending.end.key → IsOne q r i j
one_sender s q r i j l m o p shaped lq mr oi pj key =
    let eo = end_of_sender l i o (shaped.living q l lq) oi in
    let ep = end_of_sender m j p (shaped.living r m mr) pj in
    let number : l.number ≡ m.number = number_of s q l o.sending.end shaped lq eo.has ∙ ap (λ (k : ConnKey). k.query) key ∙ sym (number_of s r m p.sending.end shaped mr ep.has) in
    let place = shaped.apart q r l m lq mr number in
    let same : m ≡ l = some_one m l (sym mr ∙ ap (λ n. slice_get s.live n) (sym place) ∙ lq) in
    let pj' : slice_get l.senders j ≡ Some p = ap (λ (x : Living). slice_get x.senders j) (sym same) ∙ pj in
    let ends : (k : ℕ) (x : TimedState) → slice_get l.senders k ≡ Some x → slice_get (sending_ends l.ends) k ≡ Some x.sending.end =
    λ k x at. ap (λ xs. slice_get xs k) (sym (shaped.living q l lq).senders) ∙ map_at (λ (y : TimedState). y.sending.end) l.senders k x at in
    record {
      query = place;
      place = one_place (place_in s) l.number l.ends (λ e. e.sending) true i j o.sending.end p.sending.end (shaped.of_hub q l lq).ends (ends i o oi) (ends j p pj') eo.side_is ep.side_is key;
    }

-- two receivers of one key are one
pub one_receiver : (s : Hubbing) (q r i j : ℕ) (l m : Living) (o p : Receiving) → Shaped s → slice_get s.live q ≡ Some l → slice_get s.live r ≡ Some m → slice_get l.receivers i ≡ Some o → slice_get m.receivers j ≡ Some p
    → o.end.key ≡ p.end.key → IsOne q r i j
one_receiver s q r i j l m o p shaped lq mr oi pj key =
    let eo = end_of_receiver l i o (shaped.living q l lq) oi in
    let ep = end_of_receiver m j p (shaped.living r m mr) pj in
    let number : l.number ≡ m.number = number_of s q l o.end shaped lq eo.has ∙ ap (λ (k : ConnKey). k.query) key ∙ sym (number_of s r m p.end shaped mr ep.has) in
    let place = shaped.apart q r l m lq mr number in
    let same : m ≡ l = some_one m l (sym mr ∙ ap (λ n. slice_get s.live n) (sym place) ∙ lq) in
    let pj' : slice_get l.receivers j ≡ Some p = ap (λ (x : Living). slice_get x.receivers j) (sym same) ∙ pj in
    let ends : (k : ℕ) (x : Receiving) → slice_get l.receivers k ≡ Some x → slice_get (receiving_ends l.ends) k ≡ Some x.end =
    λ k x at. ap (λ xs. slice_get xs k) (sym (shaped.living q l lq).receivers) ∙ map_at (λ (y : Receiving). y.end) l.receivers k x at in
    record {
      query = place;
      place = one_place (place_in s) l.number l.ends (λ e. not e.sending) false i j o.end p.end (shaped.of_hub q l lq).ends (ends i o oi) (ends j p pj') eo.side_is ep.side_is key;
    }
