-- What is computed when places are made is what the definitions say of the ends.
use Rattle.std.proofs.Common.{◌≡◌, ◌==◌, ℕ, ◌+◌, ◌<◌, Bool, true, false, cond, List, [], ◌∷◌, map, filter, position, length, get_or, All, Option, refl, sym, ap, subst, ◌∙◌, arith}
use Rattle.std.specs.List.{enumerate_from}
use Rattle.std.proofs.lemmas.List.{length-map}
use Rattle.std.proofs.lemmas.List.Elements.{All-filter, All-map, All-get_or, All-same}
use Rattle.std.proofs.lemmas.List.FromFn.{get_or-enumerate_from, length-enumerate_from}
use Rattle.ic_base.specs.Keys.{key_eq}
use Rattle.ic_base.specs.declared.keys.ConnKey.{ConnKey}
use Rattle.ic_base.specs.declared.keys.ConnEnd.{ConnEnd}
use Rattle.ic_conntab.specs.declared.slots.Sides.{Sides}
use Rattle.ic_conntab.specs.declared.slots.Slot.{Slot}
use Rattle.ic_conntab.specs.Ends.{sending_ends, receiving_ends, keys_of, sender_at, receiver_at, motions_of, receivers_of, distinct, places_where}
use Rattle.ic_conntab.specs.Slots.{slots_of}
use Rattle.ic_conntab.specs.Kept.{sides_at, AreOf}
use Rattle.ic_conntab.proofs.Position.{position-map}

-- ---- maps

map-map : {X Y Z : Type 0} (g : Y → Z) (f : X → Y) (xs : List X) → map g (map f xs) ≡ map (λ x. g (f x)) xs
map-map g f [] = refl
map-map g f (x ∷ xs) = ap (λ l. g (f x) ∷ l) (map-map g f xs)

-- the positions of mapped elements are those of the elements
places-map : {X Y : Type 0} (test : Y → Bool) (f : X → Y) (n : ℕ) (xs : List X)
    → map (λ p. p.0) (filter (λ p. test p.1) (enumerate_from n (map f xs))) ≡ map (λ p. p.0) (filter (λ p. test (f p.1)) (enumerate_from n xs))
places-map test f n [] = refl
places-map {X} {Y} test f n (x ∷ xs) = by (test (f x)) (places-map test f (n + 1) xs)
  where
    some : List (ℕ × Y)
    some = filter (λ p. test p.1) (enumerate_from (n + 1) (map f xs))

    others : List (ℕ × X)
    others = filter (λ p. test (f p.1)) (enumerate_from (n + 1) xs)

    by : (b : Bool) → map (λ p. p.0) some ≡ map (λ p. p.0) others → map (λ p. p.0) (cond b ((n, f x) ∷ some) some) ≡ map (λ p. p.0) (cond b ((n, x) ∷ others) others)
    by true g = ap (λ l. n ∷ l) g
    by false g = g

-- ---- the parts

sides_found : (ends : List ConnEnd) (senders receivers : ConnKey → Option ℕ)
    → ((k : ConnKey) → senders k ≡ position (key_eq k) (map (λ e. e.key) (sending_ends ends)))
    → ((k : ConnKey) → receivers k ≡ position (key_eq k) (map (λ e. e.key) (receiving_ends ends)))
    → (keys : List ConnKey) → keys ≡ keys_of ends
    → (let sides : ConnKey → Sides = λ k. record { sender = senders k; receiver = receivers k } in map sides keys ≡ map (sides_at ends) (keys_of ends))
unfolding sender_at receiver_at
sides_found ends senders receivers s r keys is i =
    map (λ k. record {
      sender = (s k ∙ position-map (key_eq k) (λ e. e.key) (sending_ends ends)) i;
      receiver = (r k ∙ position-map (key_eq k) (λ e. e.key) (receiving_ends ends)) i;
    }) (is i)

motions_found : (ends : List ConnEnd) → distinct (λ m n. m == n) (map (λ k. k.motion) (map (λ e. e.key) (receiving_ends ends))) ≡ motions_of ends
unfolding motions_of
motions_found ends = ap (distinct (λ m n. m == n)) (map-map (λ k. k.motion) (λ e. e.key) (receiving_ends ends))

rows_found : (ends : List ConnEnd) (motions : List ℕ) → motions ≡ motions_of ends
    → map (λ m. places_where (λ k. k.motion == m) (map (λ e. e.key) (receiving_ends ends))) motions ≡ map (receivers_of ends) (motions_of ends)
unfolding receivers_of
rows_found ends motions is i = map (λ m. places-map (λ k. k.motion == m) (λ e. e.key) 0 (receiving_ends ends) i) (is i)

-- ---- all of it

pub all_found : (ends items : List ConnEnd) (sending receiving keys : List ConnKey) (senders receivers : ConnKey → Option ℕ) (sides : List Sides) (motions : List ℕ) (rows : List (List ℕ)) (order : List Slot)
    → items ≡ ends → sending ≡ map (λ e. e.key) (sending_ends ends) → receiving ≡ map (λ e. e.key) (receiving_ends ends)
    → ((k : ConnKey) → senders k ≡ position (key_eq k) sending) → ((k : ConnKey) → receivers k ≡ position (key_eq k) receiving)
    → keys ≡ keys_of ends → sides ≡ map (λ k. record { sender = senders k; receiver = receivers k }) keys
    → motions ≡ distinct (λ m n. m == n) (map (λ k. k.motion) receiving)
    → rows ≡ map (λ m. places_where (λ k. k.motion == m) receiving) motions → order ≡ slots_of ends
    → AreOf items keys sides motions rows order
all_found ends items sending receiving keys senders receivers sides motions rows order same sent got s r k d m w o =
    let found : motions ≡ motions_of ends = m ∙ ap (λ l. distinct (λ m n. m == n) (map (λ k. k.motion) l)) got ∙ motions_found ends in
    subst (λ l. AreOf l keys sides motions rows order) (sym same)
    record {
      keys_are = k;
      sides_are = d ∙ sides_found ends senders receivers (λ q. s q ∙ ap (position (key_eq q)) sent) (λ q. r q ∙ ap (position (key_eq q)) got) keys k;
      motions_are = found;
      receivers_are = w ∙ ap (λ l. map (λ m. places_where (λ k. k.motion == m) l) motions) got ∙ rows_found ends motions found;
      order_is = o;
    }

-- ---- within

places_within : {X : Type 0} (test : X → Bool) (xs : List X) → All (λ place. place < length xs) (places_where test xs)
places_within {X} test xs =
    All-map (λ place. place < length xs) (λ p. p.0) (filter (λ p. test p.1) (enumerate_from 0 xs))
    (All-filter (λ p. test p.1) (λ p. p.0 < length xs) (enumerate_from 0 xs) (λ k d within.
    let l : k < length xs = omega (arith, within, length-enumerate_from 0 xs) in
    let n : 0 + k < length xs = omega (arith, l) in
    subst (λ (p : ℕ × X). p.0 < length xs) (sym (get_or-enumerate_from 0 xs k d l)) n))

pub row_within : (ends : List ConnEnd) (rows : List (List ℕ)) (motion : ℕ) (row : List ℕ) → rows ≡ map (receivers_of ends) (motions_of ends)
    → motion < length (motions_of ends) → row ≡ get_or rows motion row → All (λ place. place < length (receiving_ends ends)) row
unfolding receivers_of
row_within ends rows motion row is within at =
    let W : List ℕ → Type 0 = All (λ place. place < length (receiving_ends ends)) in
    let l : motion < length rows = omega (arith, within, ap length is, length-map (motions_of ends) (receivers_of ends)) in
    subst W (sym at) (All-get_or W rows motion row l (All-same W rows (map (receivers_of ends) (motions_of ends)) is
    (All-map W (receivers_of ends) (motions_of ends) (λ k d _. places_within (λ e. e.key.motion == get_or (motions_of ends) k d) (receiving_ends ends)))))
