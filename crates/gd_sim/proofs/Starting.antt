-- How stations begin.
use Rattle.std.proofs.Common.{◌≡◌, ℕ, zero, suc, ◌+◌, ◌<◌, ◌≤◌, nat_lt, cond, ℤ, pos, negsuc, ◌≤ℤ◌, List, [], ◌∷◌, ◌++◌, length, map, set, Bool, true, false, Some, None, refl, ap, sym, ◌∙◌, subst, arith, inl, inr, slice_get, length-set, length-append}
use Rattle.std.specs.List.{range_with_len}
use Rattle.std.proofs.Math.Nat.{eq-or-lt_of_le}
use Rattle.std.proofs.lemmas.Int.{ints}
use Rattle.std.proofs.lemmas.List.FromFn.{map-range_with_len_more}
use Rattle.ic_base.specs.declared.keys.ConnKey.{ConnKey}
use Rattle.ic_base.specs.declared.keys.ConnEnd.{ConnEnd}
use Rattle.ic_base.specs.declared.settings.Settings.{Settings}
use Rattle.ic_law.specs.Points.{Place}
use Rattle.ic_law.specs.Asking.{AreEnds}
use Rattle.ic_law.proofs.Lists.{Contains-none, Contains-one, map-Contains, get_push}
use Rattle.ic_hub_laws.proofs.Beside.{set_cases}
use Rattle.gd_law.specs.Answers.{gather_end}
use Rattle.ic_port.specs.Noding.{fresh}
use Rattle.gd_sim.specs.declared.station.Station.{Station}
use Rattle.gd_sim.specs.declared.begin.Beginning.{Beginning}
use Rattle.gd_sim.specs.Playing.{segment_at, ends_here}
use Rattle.gd_sim.specs.Beginning.{BeginsAt, BegunAt}

-- ---- places in lists

at_middle : {A : Type 0} (front : List A) (x : A) (back : List A) → slice_get (front ++ x ∷ back) (length front) ≡ Some x
at_middle [] x back = refl
at_middle (f ∷ front) x back = at_middle front x back

-- two that stand behind one another
record AreTwo {A : Type 0} (xs : List A) (a b : A) : Type 0 where
  pub i : ℕ
  pub j : ℕ
  pub less : i < j
  pub first : slice_get xs i ≡ Some a
  pub second : slice_get xs j ≡ Some b

are_two : {A : Type 0} (front between back : List A) (a b : A) → AreTwo (front ++ a ∷ between ++ b ∷ back) a b
are_two [] between back a b = record { i = 0; j = suc (length between); less = omega arith; first = refl; second = at_middle between b back }
are_two (f ∷ front) between back a b =
    let w = are_two front between back a b in
    record { i = suc w.i; j = suc w.j; less = omega (arith, w.less); first = w.first; second = w.second }

range_got : {A : Type 0} (f : ℕ → A) (a n k : ℕ) (x : A) → slice_get (map f (range_with_len a n)) k ≡ Some x → x ≡ f (a + k)
range_got f a zero k x at = let bad : None ≡ Some x = at in cc
range_got f a (suc n) zero x at = let same : f a ≡ x = cc in sym same ∙ ap f (omega arith)
range_got f a (suc n) (suc k) x at = range_got f (a + 1) n k x at ∙ ap f (omega arith)

-- one more
pub ends_more : (of : ℕ → ConnEnd) (n : ℕ) (before now : List ConnEnd) (end : ConnEnd) → now ≡ before ++ end ∷ [] → before ≡ map of (range_with_len 0 n) → end ≡ of n
    → now ≡ map of (range_with_len 0 (n + 1))
ends_more of n before now end is before_are end_is =
    is ∙ ap (λ l. l ++ end ∷ []) before_are ∙ ap (λ e. map of (range_with_len 0 n) ++ e ∷ []) end_is ∙ sym (map-range_with_len_more of 0 n n (omega arith))

-- ---- ends

number : ℤ → ℕ
number (pos n) = n
number (negsuc n) = 0

from_of : ConnEnd → ℕ
from_of e = number e.key.from

-- the connections of two segments are two
two_keys : (session query : ℕ) (sending : Bool) (i j : ℕ) (a b : ConnEnd) → a ≡ gather_end session query sending i → b ≡ gather_end session query sending j → i < j → a.key ≡ b.key → ⊥
unfolding from_of number
two_keys session query sending i j a b a_is b_is less same =
    let one : from_of a ≡ i = ap from_of a_is in
    let other : from_of b ≡ j = ap from_of b_is in
    let both : from_of a ≡ from_of b = ap (λ (k : ConnKey). number k.from) same in
    omega (arith, less, one, other, both)

apart : (session query : ℕ) (sending : Bool) (s : ℕ) → (gather_end session query sending s).key.from ≡ (gather_end session query sending s).key.to → ⊥
apart session query sending s same = let bad : pos s ≡ negsuc 0 = same in cc

receiving_ends : (place : Place) (session query senders : ℕ) → place.session ≡ session → place.at ≡ negsuc 0 → AreEnds place query (map (gather_end session query false) (range_with_len 0 senders))
receiving_ends place session query senders session_is at_is =
    let of : ℕ → ConnEnd = gather_end session query false in
    record {
      each = λ end there.
          let w = map-Contains of (range_with_len 0 senders) end there in
          record {
            session = ap (λ (e : ConnEnd). e.key.session) w.2 ∙ sym session_is;
            query_is = ap (λ (e : ConnEnd). e.key.query) w.2;
            sends_here = λ sends. let bad : true ≡ false = sym sends ∙ ap (λ (e : ConnEnd). e.sending) w.2 in absurd (cc);
            receives_here = λ receives. ap (λ (e : ConnEnd). e.key.to) w.2 ∙ sym at_is;
          };
      once = λ front between back a b are same.
          let w = are_two front between back a b in
          let first = range_got of 0 senders w.i a (ap (λ l. slice_get l w.i) are ∙ w.first) in
          let second = range_got of 0 senders w.j b (ap (λ l. slice_get l w.j) are ∙ w.second) in
          absurd (two_keys session query false (0 + w.i) (0 + w.j) a b first second (omega (arith, w.less)) same);
      both = λ end there same.
          let w = map-Contains of (range_with_len 0 senders) end there in
          absurd (apart session query false w.0 (subst (λ (e : ConnEnd). e.key.from ≡ e.key.to) w.2 same));
    }

one_end : (place : Place) (session query n : ℕ) → place.session ≡ session → place.at ≡ pos n → AreEnds place query (gather_end session query true n ∷ [])
one_end place session query n session_is at_is =
    let one : ConnEnd = gather_end session query true n in
    record {
      each = λ end there.
          let is = Contains-one one end there in
          record {
            session = ap (λ (e : ConnEnd). e.key.session) is ∙ sym session_is;
            query_is = ap (λ (e : ConnEnd). e.key.query) is;
            sends_here = λ sends. ap (λ (e : ConnEnd). e.key.from) is ∙ sym at_is;
            receives_here = λ receives. let bad : false ≡ true = sym receives ∙ ap (λ (e : ConnEnd). e.sending) is in absurd (cc);
          };
      once = λ front between back a b are same.
          let w = are_two front between back a b in
          let second : slice_get (one ∷ []) w.j ≡ Some b = ap (λ l. slice_get l w.j) are ∙ w.second in
          absurd (none_later w.j b (omega (arith, w.less)) second);
      both = λ end there same. absurd (apart session query true n (subst (λ (e : ConnEnd). e.key.from ≡ e.key.to) (Contains-one one end there) same));
    }
  where
    none_later : (j : ℕ) (b : ConnEnd) → 0 < j → slice_get (gather_end session query true n ∷ []) j ≡ Some b → ⊥
    none_later zero b less at = omega (arith, less)
    none_later (suc j) b less at = let bad : None ≡ Some b = at in cc

no_end : (place : Place) (query : ℕ) → AreEnds place query []
no_end place query = record {
  each = λ end there. absurd (Contains-none end there);
  once = λ front between back a b are same.
      let w = are_two front between back a b in
      let bad : None ≡ Some a = ap (λ l. slice_get l w.i) are ∙ w.first in absurd (cc);
  both = λ end there same. absurd (Contains-none end there);
}

pub are_ends : (place : Place) (session query senders : ℕ) (at : ℤ) → place.session ≡ session → place.at ≡ at → negsuc 0 ≤ℤ at → AreEnds place query (ends_here session query senders at)
are_ends place session query senders (negsuc zero) session_is at_is least = receiving_ends place session query senders session_is at_is
are_ends place session query senders (negsuc (suc n)) session_is at_is least = absurd (omega (arith, ints))
are_ends place session query senders (pos n) session_is at_is least = by (nat_lt n senders)
  where
    by : (b : Bool) → AreEnds place query (cond b (gather_end session query true n ∷ []) [])
    by true = one_end place session query n session_is at_is
    by false = no_end place query

-- ---- stations before their first query

-- those of the dispatcher and so many segments
pub record AreNew (session : ℕ) (settings : Settings) (count : ℕ) (stations : List Station) : Type 0 where
  pub many : length stations ≡ count + 1
  pub each : (k : ℕ) (station : Station) → slice_get stations k ≡ Some station → station.node ≡ fresh session (segment_at k) settings

pub first_new : (session : ℕ) (settings : Settings) (before stations : List Station) (s : Station) → stations ≡ before ++ s ∷ [] → before ≡ [] → s.node ≡ fresh session (negsuc 0) settings
    → AreNew session settings 0 stations
first_new session settings before stations s is none node =
    let one : stations ≡ s ∷ [] = is ∙ ap (λ l. l ++ s ∷ []) none in
    record {
      many = ap length one;
      each = λ k station at.
          elim (get_push [] s station k (ap (λ l. slice_get l k) (sym one) ∙ at)) [
            | inl w ↦ let bad : None ≡ Some station = w in absurd (cc)
            | inr w ↦ ap (λ (x : Station). x.node) w.1 ∙ node ∙ ap (λ i. fresh session (segment_at i) settings) (sym w.0)
          ];
    }

pub next_new : (session : ℕ) (settings : Settings) (count : ℕ) (before stations : List Station) (s : Station) → AreNew session settings count before → stations ≡ before ++ s ∷ []
    → s.node ≡ fresh session (pos count) settings → AreNew session settings (count + 1) stations
next_new session settings count before stations s new is node =
    let place : length before ≡ suc count = omega (arith, new.many) in
    record {
      many = ap length is ∙ length-append before (s ∷ []) ∙ ap (λ n. n + 1) new.many;
      each = λ k station at.
          elim (get_push before s station k (ap (λ l. slice_get l k) (sym is) ∙ at)) [
            | inl w ↦ new.each k station w
            | inr w ↦ ap (λ (x : Station). x.node) w.1 ∙ node ∙ ap (λ i. fresh session (segment_at i) settings) (sym (w.0 ∙ place))
          ];
    }

-- ---- stations at which a query began

-- so it is at each place before this one, and the others are as they were
pub record AreBegun (b : Beginning) (old new : List Station) (place : ℕ) : Type 0 where
  pub count : length new ≡ length old
  pub begun : (k : ℕ) (station : Station) → k < place → slice_get new k ≡ Some station → BegunAt b old k station
  pub same : (k : ℕ) (station : Station) → place ≤ k → slice_get new k ≡ Some station → slice_get old k ≡ Some station

pub none_begun : (b : Beginning) (old : List Station) → AreBegun b old old 0
none_begun b old = record { count = refl; begun = λ k station less at. absurd (omega (arith, less)); same = λ k station past at. at }

pub next_begun : (b : Beginning) (old before : List Station) (place : ℕ) (was now : Station) → AreBegun b old before place → slice_get before place ≡ Some was → BeginsAt b was now
    → AreBegun b old (set before place now) (place + 1)
next_begun b old before place was now begun at begins = record {
  count = length-set before place now ∙ begun.count;
  begun = λ k station less there.
      elim (set_cases before place k now station there) [
        | inl w ↦ subst (λ s. BegunAt b old k s) (sym w.1) (subst (λ i. BegunAt b old i now) w.0 (record { was = was; here = begun.same place was (omega arith) at; begins = begins }))
        | inr w ↦ let low : k ≤ place = omega (arith, less) in
            elim (eq-or-lt_of_le low) [
              | inl same ↦ absurd (w.0 (sym same))
              | inr before ↦ begun.begun k station before w.1
            ]
      ];
  same = λ k station past there.
      elim (set_cases before place k now station there) [
        | inl w ↦ absurd (omega (arith, past, w.0))
        | inr w ↦ begun.same k station (omega (arith, past)) w.1
      ];
}
