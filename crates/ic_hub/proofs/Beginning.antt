-- A hub that is new, and one in which a query begins.
use Rattle.std.proofs.Common.{◌≡◌, ◌<◌, ◌≤◌, ℕ, zero, suc, List, [], ◌∷◌, ◌++◌, map, length, take, drop, not, get_or, replicate, append-nil, append_assoc, Bool, true, false, cond, Some, None, refl, ap, sym, ◌∙◌, subst, arith, slice_get, nat_lt, ℤ}
use Rattle.std.specs.List.{AllByRecursion, AllWithin, flat_map}
use Rattle.std.specs.FinMap.{get-empty}
use Rattle.std.specs.Ordering.{nat_cmp}
use Rattle.std.proofs.lemmas.Bool.{ltb-true, ltb-false}
use Rattle.ic_base.specs.Settings.{AreChecked}
use Rattle.ic_base.specs.declared.keys.ConnEnd.{ConnEnd}
use Rattle.ic_base.specs.declared.settings.Settings.{Settings}
use Rattle.ic_conntab.specs.Table.{Table, MayBegin}
use Rattle.ic_conntab.specs.Table as table
use Rattle.ic_law.specs.declared.history.Entry.{Entry}
use Rattle.ic_law.specs.Points.{IsLive}
use Rattle.ic_law.specs.Clock.{clock_of}
use Rattle.ic_timed_sender.specs.Timed.{TimedState, begun_at}
use Rattle.ic_receiver.specs.Receiving.{Receiving}
use Rattle.ic_receiver.specs.Receiving as receiving
use Rattle.ic_conntab.specs.Ends.{sending_ends, receiving_ends, motions_of}
use Rattle.ic_hub_laws.proofs.Ahead.{goes_first}
use Rattle.ic_hub.specs.Hubbing.{Living, IsLiving, Ascend, IsHub, fresh, place_in}
use Rattle.ic_hub.specs.Standing.{IsAmong, Stands}
use Rattle.ic_hub.specs.Beginning.{sender_begun, receiver_begun}

-- ---- new

pub fresh_hub : (session : ℕ) (at : ℤ) (settings : Settings) (t : Table) (live : List Living) → t ≡ table.fresh session → live ≡ [] → AreChecked settings
    → IsHub (record { session = session; at = at; settings = settings; tick = 0; dropped = 0; top = t.top; live = live }) t
fresh_hub session at settings t live new none checked =
    subst (λ xs. IsHub (record { session = session; at = at; settings = settings; tick = 0; dropped = 0; top = t.top; live = xs }) t) (sym none)
    (subst (λ u. IsHub (record { session = session; at = at; settings = settings; tick = 0; dropped = 0; top = u.top; live = [] }) u) (sym new)
    (record { session = refl; top = refl; tabled = λ query. get-empty nat_cmp query; ascend = tt; each = tt; checked = checked; last = omega arith }))

none_cut : (before : List Entry) (e : Entry) (after : List Entry) → [] ≡ before ++ e ∷ after → ⊥
none_cut [] e after h = cc
none_cut (x ∷ xs) e after h = cc

none_at : {A : Type 0} (i : ℕ) (x : A) → slice_get [] i ≡ Some x → ⊥
none_at i x h = cc

pub fresh_stands : (session : ℕ) (at : ℤ) (settings : Settings) → Stands (fresh session at settings) []
fresh_stands session at settings =
    record {
      goes = goes_first (place_in (fresh session at settings));
      clock = let same : clock_of [] ≡ 0 = omega arith in same;
      top = refl;
      live = λ query ends. (λ (l : IsLive query ends []). absurd (none_cut l.before _ l.after l.all), λ (a : IsAmong [] query ends). absurd (none_at a.at a.living a.here));
      each = λ i l here. absurd (none_at i l here);
    }

-- ---- where a number belongs

all_or : {A : Type 0} (P : A → Type 0) (xs : List A) (i : ℕ) (d : A) → AllByRecursion P xs → i < length xs → P (get_or xs i d)
all_or P [] i d all lt = absurd (omega (arith, lt))
all_or P (x ∷ xs) zero d all lt = all.0
all_or P (x ∷ xs) (suc i) d all lt = all_or P xs i d all.1 (omega (arith, lt))

pub rise : (live : List Living) → Ascend live → (i j : ℕ) (d : Living) → i ≤ j → j < length live → (get_or live i d).number ≤ (get_or live j d).number
rise [] up i j d le lt = absurd (omega (arith, lt))
rise (x ∷ xs) up zero zero d le lt = omega arith
rise (x ∷ xs) up zero (suc j) d le lt = let w = all_or (λ (m : Living). x.number < m.number) xs j d up.0 (omega (arith, lt)) in omega (arith, w)
rise (x ∷ xs) up (suc i) zero d le lt = absurd (omega (arith, le))
rise (x ∷ xs) up (suc i) (suc j) d le lt = rise xs up.1 i j d (omega (arith, le)) (omega (arith, lt))

pub front_less : (live : List Living) (number i : ℕ) → i ≤ length live → AllWithin (λ (y : Living). nat_lt y.number number ≡ true) live 0 i → AllByRecursion (λ (l : Living). l.number < number) (take i live)
front_less live number zero le all = tt
front_less [] number (suc i) le all = absurd (omega (arith, le))
front_less (x ∷ xs) number (suc i) le all = (ltb-true x.number number (all 0 x (omega arith) (omega arith)), front_less xs number i (omega (arith, le)) (λ k d low high. all (suc k) d (omega arith) (omega (arith, high))))

pub back_more : (live : List Living) (number i : ℕ) → i ≤ length live → AllWithin (λ (y : Living). nat_lt y.number number ≡ false) live i (length live) → AllByRecursion (λ (l : Living). number ≤ l.number) (drop i live)
back_more [] number zero le all = tt
back_more [] number (suc i) le all = absurd (omega (arith, le))
back_more (x ∷ xs) number zero le all =
    (ltb-false x.number number (all 0 x (omega arith) (omega arith)), back_more xs number zero (omega arith) (λ k d low high. all (suc k) d (omega arith) (omega (arith, high))))
back_more (x ∷ xs) number (suc i) le all = back_more xs number i (omega (arith, le)) (λ k d low high. all (suc k) d (omega (arith, low)) (omega (arith, high)))

-- ---- a walk over ends, one more

flat_next : {A B : Type 0} (f : A → List B) (xs : List A) (i : ℕ) (x : A) → slice_get xs i ≡ Some x → flat_map f (take (suc i) xs) ≡ flat_map f (take i xs) ++ f x
flat_next f [] i x h = let bad : None ≡ Some x = h in cc
flat_next f (y ∷ ys) zero x h = let same : y ≡ x = cc in append-nil (f y) ∙ ap f same
flat_next f (y ∷ ys) (suc i) x h = ap (λ zs. f y ++ zs) (flat_next f ys i x h) ∙ sym (append_assoc (f y) (flat_map f (take i ys)) (f x))

pub flat_more : {A B : Type 0} (f : A → List B) (xs : List A) (i n : ℕ) (x : A) → n ≡ suc i → slice_get xs i ≡ Some x → flat_map f (take n xs) ≡ flat_map f (take i xs) ++ f x
flat_more f xs i n x next h = ap (λ k. flat_map f (take k xs)) next ∙ flat_next f xs i x h

all_next : {A : Type 0} (P : A → Type 0) (xs : List A) (i : ℕ) (x : A) → slice_get xs i ≡ Some x → AllByRecursion P (take i xs) → P x → AllByRecursion P (take (suc i) xs)
all_next P [] i x h all here = tt
all_next P (y ∷ ys) zero x h all here = let same : y ≡ x = cc in (subst P (sym same) here, tt)
all_next P (y ∷ ys) (suc i) x h all here = (all.0, all_next P ys i x h all.1 here)

pub all_more : {A : Type 0} (P : A → Type 0) (xs : List A) (i n : ℕ) (x : A) → n ≡ suc i → slice_get xs i ≡ Some x → AllByRecursion P (take i xs) → P x → AllByRecursion P (take n xs)
all_more P xs i n x next h all here = subst (λ k. AllByRecursion P (take k xs)) (sym next) (all_next P xs i x h all here)

-- ---- a query as it begins

-- its connections are those of its ends, side by side
pub senders_are : (settings : Settings) (tick : ℕ) (ends : List ConnEnd) → flat_map (sender_begun settings tick) ends ≡ map (λ (e : ConnEnd). begun_at e settings tick) (sending_ends ends)
senders_are settings tick [] = refl
senders_are settings tick (e ∷ ends) = by e.sending (senders_are settings tick ends)
  where
    by : (b : Bool) → flat_map (sender_begun settings tick) ends ≡ map (λ (x : ConnEnd). begun_at x settings tick) (sending_ends ends)
        → cond b (begun_at e settings tick ∷ []) [] ++ flat_map (sender_begun settings tick) ends ≡ map (λ (x : ConnEnd). begun_at x settings tick) (cond b (e ∷ sending_ends ends) (sending_ends ends))
    by true more = ap (λ os. begun_at e settings tick ∷ os) more
    by false more = more

pub receivers_are : (settings : Settings) (ends : List ConnEnd) → flat_map (receiver_begun settings) ends ≡ map (λ (e : ConnEnd). receiving.begun e settings) (receiving_ends ends)
receivers_are settings [] = refl
receivers_are settings (e ∷ ends) = by e.sending (receivers_are settings ends)
  where
    by : (b : Bool) → flat_map (receiver_begun settings) ends ≡ map (λ (x : ConnEnd). receiving.begun x settings) (receiving_ends ends)
        → cond b [] (receiving.begun e settings ∷ []) ++ flat_map (receiver_begun settings) ends ≡ map (λ (x : ConnEnd). receiving.begun x settings) (cond (not b) (e ∷ receiving_ends ends) (receiving_ends ends))
    by true more = more
    by false more = ap (λ rs. receiving.begun e settings ∷ rs) more

sent_ends : (settings : Settings) (tick : ℕ) (es : List ConnEnd) → map (λ (o : TimedState). o.sending.end) (map (λ (e : ConnEnd). begun_at e settings tick) es) ≡ es
sent_ends settings tick [] = refl
sent_ends settings tick (e ∷ es) = ap (λ xs. e ∷ xs) (sent_ends settings tick es)

received_ends : (settings : Settings) (es : List ConnEnd) → map (λ (r : Receiving). r.end) (map (λ (e : ConnEnd). receiving.begun e settings) es) ≡ es
received_ends settings [] = refl
received_ends settings (e ∷ es) = ap (λ xs. e ∷ xs) (received_ends settings es)

replicated : {A : Type 0} (n : ℕ) (x : A) → length (replicate n x) ≡ n
replicated zero x = refl
replicated (suc n) x = ap suc (replicated n x)

pub begun_living : (settings : Settings) (tick number : ℕ) (ends : List ConnEnd) (l : Living) → l.ends ≡ ends → l.senders ≡ flat_map (sender_begun settings tick) ends → l.receivers ≡ flat_map (receiver_begun settings) ends
    → l.served ≡ replicate (length (motions_of l.ends)) None → IsLiving l
begun_living settings tick number ends l same senders receivers served =
    record {
      senders = ap (map (λ (o : TimedState). o.sending.end)) (senders ∙ senders_are settings tick ends) ∙ sent_ends settings tick (sending_ends ends) ∙ ap sending_ends (sym same);
      receivers = ap (map (λ (r : Receiving). r.end)) (receivers ∙ receivers_are settings ends) ∙ received_ends settings (receiving_ends ends) ∙ ap receiving_ends (sym same);
      served = ap length served ∙ replicated (length (motions_of l.ends)) None;
    }
