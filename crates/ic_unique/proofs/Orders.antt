-- The live queries are one list, and what a tick emits in their order is one.
use Rattle.std.proofs.Common.{◌≡◌, ℕ, List, [], ◌∷◌, ◌++◌, map, cond, Ok, refl, ap, sym, ◌∙◌, subst, inl, inr, ◌+◌, ◌≤◌, ◌⊎◌, arith}
use Rattle.std.specs.List.{Contains, flat_map}
use Rattle.ic_base.specs.declared.keys.ConnKey.{ConnKey}
use Rattle.ic_base.specs.declared.keys.ConnEnd.{ConnEnd}
use Rattle.ic_base.specs.declared.settings.Settings.{Settings}
use Rattle.ic_base.specs.declared.datagram.Datagram.{Datagram}
use Rattle.ic_law.specs.declared.history.HubAsk.TheVariants.{Tick}
use Rattle.ic_law.specs.declared.history.HubReply.{HubReply}
use Rattle.ic_law.specs.declared.history.HubReply.TheVariants.{Ticked}
use Rattle.ic_law.specs.declared.history.Entry.{Entry}
use Rattle.ic_header.specs.Packets.{row_datagram, query_datagram}
use Rattle.ic_law.specs.History.{datagrams_of}
use Rattle.ic_law.specs.Points.{Place}
use Rattle.ic_law.specs.Clock.{ticks_by}
use Rattle.ic_law.proofs.Lists.{Contains-head, Contains-tail, Contains-none, head_or_tail}
use Rattle.ic_law.specs.Numbers.{IsIncreasingFrom}
use Rattle.ic_law.specs.Order.{Live, query_number, rows_out, queries_out, query_out, AreLive, IsInOrder}
use Rattle.ic_unique.proofs.Alike.{Alike, rows_alike, queries_alike}

-- ---- entries of ticks

abbrev pub tick_entry : HubReply → Entry
tick_entry reply = record { ask = Tick; reply = reply }

pub ticks_alike : (c : ConnKey) (r s : HubReply) (ds es : List Datagram) → r ≡ Ticked (Ok ds) → s ≡ Ticked (Ok es) → Alike c (tick_entry r) (tick_entry s)
ticks_alike c r s ds es is is2 = record { puts_same = refl; finishes_same = refl; hears_same = refl; ticks_same = ap ticks_by is ∙ sym (ap ticks_by is2) }

-- ---- the live queries are one list

-- two lists of increasing numbers with the same elements
above : (least : ℕ) (qs : List Live) (q : Live) → IsIncreasingFrom least (map query_number qs) → Contains qs q → least ≤ q.number
above least [] q inc at = absurd (Contains-none q at)
above least (x ∷ qs) q inc at = elim (head_or_tail x qs q at) [
  | inl same ↦ subst (λ (z : Live). least ≤ z.number) same inc.0
  | inr there ↦ let more = above (x.number + 1) qs q inc.1 there in omega (arith, more, inc.0)
]

same_lists : (least least2 : ℕ) (xs ys : List Live) → IsIncreasingFrom least (map query_number xs) → IsIncreasingFrom least2 (map query_number ys)
    → ((q : Live) → Contains xs q → Contains ys q) → ((q : Live) → Contains ys q → Contains xs q) → xs ≡ ys
same_lists least least2 [] [] ix iy there back = refl
same_lists least least2 [] (y ∷ ys) ix iy there back = absurd (Contains-none y (back y (Contains-head y ys)))
same_lists least least2 (x ∷ xs) [] ix iy there back = absurd (Contains-none x (there x (Contains-head x xs)))
same_lists least least2 (x ∷ xs) (y ∷ ys) ix iy there back =
    let head = first (head_or_tail y ys x (there x (Contains-head x xs))) (head_or_tail x xs y (back y (Contains-head y ys))) in
    ap (λ z. z ∷ xs) head ∙ ap (λ l. y ∷ l)
    (same_lists (x.number + 1) (y.number + 1) xs ys ix.1 iy.1
    (λ q at. elim (head_or_tail y ys q (there q (Contains-tail x xs q at))) [
      | inl same ↦ absurd (let high = above (x.number + 1) xs q ix.1 at in omega (arith, high, ap query_number head, ap query_number same))
      | inr rest ↦ rest
    ])
    (λ q at. elim (head_or_tail x xs q (back q (Contains-tail y ys q at))) [
      | inl same ↦ absurd (let high = above (y.number + 1) ys q iy.1 at in omega (arith, high, ap query_number head, ap query_number same))
      | inr rest ↦ rest
    ]))
  where
    first : (y ≡ x) ⊎ Contains ys x → (x ≡ y) ⊎ Contains xs y → x ≡ y
    first (inl same) w = sym same
    first (inr a) (inl same) = same
    first (inr a) (inr b) = absurd (let high = above (y.number + 1) ys x iy.1 a in let low = above (x.number + 1) xs y ix.1 b in omega (arith, high, low))

pub same_live : (h : List Entry) (xs ys : List Live) → AreLive h xs → AreLive h ys → xs ≡ ys
same_live h xs ys u w =
    same_lists 0 0 xs ys u.increase w.increase (λ q at. w.all q.number q.ends (u.each q at)) (λ q at. u.all q.number q.ends (w.each q at))

-- ---- what each emits is one list

pub same_out : {A : Type 0} (f g : A → List Datagram) (xs : List A) → ((x : A) → f x ≡ g x) → flat_map f xs ≡ flat_map g xs
same_out f g [] same = refl
same_out f g (x ∷ xs) same = ap (λ l. l ++ flat_map f xs) (same x) ∙ ap (λ l. g x ++ l) (same_out f g xs same)

pub query_same : (settings : Settings) (h : List Entry) (r s : HubReply) (ds es : List Datagram) (q : Live) → r ≡ Ticked (Ok ds) → s ≡ Ticked (Ok es)
    → query_out settings h (tick_entry r) q ≡ query_out settings h (tick_entry s) q
query_same settings h r s ds es q is is2 =
    ap (λ l. l ++ flat_map (queries_out settings h (tick_entry r)) q.ends) (same_out (rows_out settings h (tick_entry r)) (rows_out settings h (tick_entry s)) q.ends rows)
    ∙ ap (λ l. flat_map (rows_out settings h (tick_entry s)) q.ends ++ l) (same_out (queries_out settings h (tick_entry r)) (queries_out settings h (tick_entry s)) q.ends queries)
  where
    rows : (end : ConnEnd) → rows_out settings h (tick_entry r) end ≡ rows_out settings h (tick_entry s) end
    rows end = ap (λ l. cond end.sending (map (row_datagram end) l) []) (rows_alike end.key settings h (tick_entry r) (tick_entry s) (ticks_alike end.key r s ds es is is2))

    queries : (end : ConnEnd) → queries_out settings h (tick_entry r) end ≡ queries_out settings h (tick_entry s) end
    queries end = ap (λ l. cond end.sending (map (query_datagram end) l) []) (queries_alike end.key settings h (tick_entry r) (tick_entry s) (ticks_alike end.key r s ds es is is2))

pub same_order : (place : Place) (h : List Entry) (r s : HubReply) (ds es : List Datagram) → r ≡ Ticked (Ok ds) → s ≡ Ticked (Ok es)
    → IsInOrder place.settings h (tick_entry r) → IsInOrder place.settings h (tick_entry s) → datagrams_of r ≡ datagrams_of s
same_order place h r s ds es is is2 u w =
    u.emitted ∙ ap (flat_map (query_out place.settings h (tick_entry r))) (same_live h u.live w.live u.are w.are)
    ∙ same_out (query_out place.settings h (tick_entry r)) (query_out place.settings h (tick_entry s)) w.live (λ q. query_same place.settings h r s ds es q is is2) ∙ sym w.emitted
