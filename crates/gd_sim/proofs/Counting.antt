-- What one more entry adds to the numbers of a history.
use Rattle.std.proofs.Common.{◌≡◌, ℕ, zero, suc, ◌+◌, ◌<◌, ◌≤◌, List, [], ◌∷◌, ◌++◌, length, map, take, Bool, true, false, Option, Some, None, refl, ap, sym, ◌∙◌, subst, arith, max, get_or, ◌||◌, append-nil, append_assoc}
use Rattle.std.specs.List.{flat_map, list_any, slice_get}
use Rattle.std.specs.Option.{option_to_list}
use Rattle.std.proofs.lemmas.Option.{same_Some}
use Rattle.std.proofs.lemmas.List.{length-append, length-map, take_more}
use Rattle.ic_law.specs.declared.history.Entry.{Entry}
use Rattle.ic_law.specs.History.{emits, rows_in, number_of, greatest, rows_emitted_of, sent_upto}
use Rattle.ic_law.specs.Putting.{puts, chunks_put_of}
use Rattle.ic_law.specs.Taking.{takes, payloads_of, payload_in, is_last_parcel, whole_of}
use Rattle.ic_header.specs.Packets.{RowPacket}
use Rattle.ic_base.specs.declared.keys.ConnKey.{ConnKey}
use Rattle.ic_base.specs.declared.datagram.Datagram.{Datagram}
use Rattle.ic_chunk.specs.Counts.{HaveEnded}
use Rattle.ic_chunk.proofs.Ended.{have_both}

pub next_taken : {A : Type 0} (xs : List A) (i : ℕ) (x : A) → i < length xs → x ≡ get_or xs i x → take (i + 1) xs ≡ take i xs ++ x ∷ []
next_taken xs i x lt is = take_more xs i x lt ∙ ap (λ y. take i xs ++ y ∷ []) (sym is)

-- what one more adds to what is read of each
pub one_more : {X A : Type 0} (f : X → List A) (xs : List X) (x : X) → flat_map f (xs ++ x ∷ []) ≡ flat_map f xs ++ f x
one_more f [] x = append-nil (f x)
one_more f (y ∷ xs) x = ap (λ l. f y ++ l) (one_more f xs x) ∙ sym (append_assoc (f y) (flat_map f xs) (f x))

pub flat_both : {X A : Type 0} (f : X → List A) (xs ys : List X) → flat_map f (xs ++ ys) ≡ flat_map f xs ++ flat_map f ys
flat_both f [] ys = refl
flat_both f (x ∷ xs) ys = ap (λ l. f x ++ l) (flat_both f xs ys) ∙ sym (append_assoc (f x) (flat_map f xs) (flat_map f ys))

map_both : {X A : Type 0} (f : X → A) (xs ys : List X) → map f (xs ++ ys) ≡ map f xs ++ map f ys
map_both f [] ys = refl
map_both f (x ∷ xs) ys = ap (λ l. f x ∷ l) (map_both f xs ys)

any_both : {X : Type 0} (test : X → Bool) (xs ys : List X) → list_any test (xs ++ ys) ≡ (list_any test xs || list_any test ys)
any_both test [] ys = refl
any_both test (x ∷ xs) ys = by (test x) (any_both test xs ys)
  where
    by : (b : Bool) → list_any test (xs ++ ys) ≡ (list_any test xs || list_any test ys) → (b || list_any test (xs ++ ys)) ≡ ((b || list_any test xs) || list_any test ys)
    by true is = refl
    by false is = is

greatest-append : (ms ns : List ℕ) → greatest (ms ++ ns) ≡ max (greatest ms) (greatest ns)
greatest-append [] ns = omega arith
greatest-append (m ∷ ms) ns = omega (arith, greatest-append ms ns)

-- so many rows ended in the chunks that were put, and so many in one more
pub puts_more : (c : ConnKey) (h : List Entry) (i : ℕ) (e : Entry) (m n : ℕ) → i < length h → e ≡ get_or h i e → HaveEnded (chunks_put_of c (take i h)) m → HaveEnded (puts c e) n → HaveEnded (chunks_put_of c (take (i + 1) h)) (m + n)
puts_more c h i e m n lt is before one =
    subst (λ l. HaveEnded l (m + n)) (sym (ap (flat_map (puts c)) (next_taken h i e lt is) ∙ one_more (puts c) (take i h) e)) (have_both (chunks_put_of c (take i h)) (puts c e) m n before one)

pub takes_more : (c : ConnKey) (h : List Entry) (i : ℕ) (e : Entry) (m n : ℕ) → i < length h → e ≡ get_or h i e → HaveEnded (payloads_of c (take i h)) m → HaveEnded (map payload_in (takes c e)) n → HaveEnded (payloads_of c (take (i + 1) h)) (m + n)
takes_more c h i e m n lt is before one =
    let more : payloads_of c (take (i + 1) h) ≡ payloads_of c (take i h) ++ map payload_in (takes c e) =
    ap (λ l. map payload_in (flat_map (takes c) l)) (next_taken h i e lt is) ∙ ap (map payload_in) (one_more (takes c) (take i h) e) ∙ map_both payload_in (flat_map (takes c) (take i h)) (takes c e) in
    subst (λ l. HaveEnded l (m + n)) (sym more) (have_both (payloads_of c (take i h)) (map payload_in (takes c e)) m n before one)

pub whole_more : (c : ConnKey) (h : List Entry) (i : ℕ) (e : Entry) (was last : Bool) → i < length h → e ≡ get_or h i e → was ≡ whole_of c (take i h) → last ≡ list_any is_last_parcel (takes c e) → (was || last) ≡ whole_of c (take (i + 1) h)
whole_more c h i e was last lt is before one =
    ap (λ b. b || last) before ∙ ap (λ b. whole_of c (take i h) || b) one
    ∙ sym (ap (λ l. list_any is_last_parcel (flat_map (takes c) l)) (next_taken h i e lt is) ∙ ap (list_any is_last_parcel) (one_more (takes c) (take i h) e) ∙ any_both is_last_parcel (flat_map (takes c) (take i h)) (takes c e))

length_both : {X : Type 0} (xs ys : List X) (m n : ℕ) → m ≡ length xs → n ≡ length ys → m + n ≡ length (xs ++ ys)
length_both xs ys m n a b = omega (arith, a, b, length-append xs ys)

greatest_both : (xs ys : List RowPacket) (m n : ℕ) → m ≡ greatest (map number_of xs) → n ≡ greatest (map number_of ys) → max m n ≡ greatest (map number_of (xs ++ ys))
greatest_both xs ys m n a b =
    ap (λ k. max k n) a ∙ ap (λ k. max (greatest (map number_of xs)) k) b ∙ sym (ap greatest (map_both number_of xs ys) ∙ greatest-append (map number_of xs) (map number_of ys))

rows_next : (c : ConnKey) (ds : List Datagram) (i : ℕ) (d : Datagram) → i < length ds → d ≡ get_or ds i d → flat_map (rows_in c) (take (i + 1) ds) ≡ flat_map (rows_in c) (take i ds) ++ rows_in c d
rows_next c ds i d lt is = ap (flat_map (rows_in c)) (next_taken ds i d lt is) ∙ one_more (rows_in c) (take i ds) d

pub count_next : (c : ConnKey) (ds : List Datagram) (i : ℕ) (d : Datagram) (m n : ℕ) (o : Option ℕ) → i < length ds → d ≡ get_or ds i d → m ≡ length (flat_map (rows_in c) (take i ds)) → option_to_list o ≡ map number_of (rows_in c d) → n ≡ m + length (option_to_list o)
    → n ≡ length (flat_map (rows_in c) (take (i + 1) ds))
count_next c ds i d m n o lt is before one sum =
    let here : length (option_to_list o) ≡ length (rows_in c d) = ap length one ∙ length-map (rows_in c d) number_of in
    sum ∙ length_both (flat_map (rows_in c) (take i ds)) (rows_in c d) m (length (option_to_list o)) before here ∙ sym (ap length (rows_next c ds i d lt is))

pub upto_next : (c : ConnKey) (ds : List Datagram) (i : ℕ) (d : Datagram) (m n : ℕ) (o : Option ℕ) → i < length ds → d ≡ get_or ds i d → m ≡ greatest (map number_of (flat_map (rows_in c) (take i ds))) → option_to_list o ≡ map number_of (rows_in c d) → n ≡ max m (greatest (option_to_list o))
    → n ≡ greatest (map number_of (flat_map (rows_in c) (take (i + 1) ds)))
upto_next c ds i d m n o lt is before one most =
    most ∙ greatest_both (flat_map (rows_in c) (take i ds)) (rows_in c d) m (greatest (option_to_list o)) before (ap greatest one) ∙ sym (ap (λ l. greatest (map number_of l)) (rows_next c ds i d lt is))

pub at_most_one : (o : Option ℕ) → length (option_to_list o) ≤ 1
at_most_one None = omega arith
at_most_one (Some n) = omega arith

emitted_next : (c : ConnKey) (h : List Entry) (i : ℕ) (e : Entry) → i < length h → e ≡ get_or h i e → rows_emitted_of c (take (i + 1) h) ≡ rows_emitted_of c (take i h) ++ flat_map (rows_in c) (emits e)
emitted_next c h i e lt is =
    ap (λ l. flat_map (rows_in c) (flat_map emits l)) (next_taken h i e lt is) ∙ ap (flat_map (rows_in c)) (one_more emits (take i h) e) ∙ flat_both (rows_in c) (flat_map emits (take i h)) (emits e)

pub count_emitted : (c : ConnKey) (h : List Entry) (i : ℕ) (e : Entry) (m n : ℕ) → i < length h → e ≡ get_or h i e → m ≡ length (rows_emitted_of c (take i h)) → n ≡ length (flat_map (rows_in c) (emits e)) → m + n ≡ length (rows_emitted_of c (take (i + 1) h))
count_emitted c h i e m n lt is before one =
    length_both (rows_emitted_of c (take i h)) (flat_map (rows_in c) (emits e)) m n before one ∙ sym (ap length (emitted_next c h i e lt is))

pub upto_emitted : (c : ConnKey) (h : List Entry) (i : ℕ) (e : Entry) (m n : ℕ) → i < length h → e ≡ get_or h i e → m ≡ sent_upto c (take i h) → n ≡ greatest (map number_of (flat_map (rows_in c) (emits e))) → max m n ≡ sent_upto c (take (i + 1) h)
upto_emitted c h i e m n lt is before one =
    greatest_both (rows_emitted_of c (take i h)) (flat_map (rows_in c) (emits e)) m n before one ∙ sym (ap (λ l. greatest (map number_of l)) (emitted_next c h i e lt is))

pub get-push : {A : Type 0} (P : ℕ → A → Type 0) (xs : List A) (x : A) (n : ℕ) → n ≡ length xs → ((k : ℕ) (y : A) → slice_get xs k ≡ Some y → P k y) → P n x → (k : ℕ) (y : A) → slice_get (xs ++ x ∷ []) k ≡ Some y → P k y
get-push P [] x n is before one zero y at = subst (P 0) (same_Some x y at) (subst (λ k. P k x) is one)
get-push P [] x n is before one (suc k) y at = absurd cc
get-push P (z ∷ xs) x n is before one zero y at = before 0 y at
get-push P (z ∷ xs) x n is before one (suc k) y at =
    get-push (λ j a. P (suc j) a) xs x (length xs) refl (λ j a there. before (suc j) a there) (subst (λ j. P j x) is one) k y at

pub get_at : {A : Type 0} (xs : List A) (i : ℕ) (x : A) → i < length xs → x ≡ get_or xs i x → slice_get xs i ≡ Some x
get_at [] i x lt is = absurd (omega (arith, lt))
get_at (y ∷ xs) zero x lt is = ap Some (sym is)
get_at (y ∷ xs) (suc i) x lt is = get_at xs i x (omega (arith, lt)) is
