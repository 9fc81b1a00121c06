-- What is on its way, and what the timing has of it, pair by pair.
use Rattle.std.proofs.Common.{◌≡◌, ℕ, zero, suc, ◌-◌, ◌≤◌, List, [], ◌∷◌, ◌++◌, map, Bool, true, false, cond, ◌||◌, ◌==◌, Option, Some, None, refl, ap, sym, ◌∙◌, subst, arith, slice_get}
use Rattle.std.specs.Prelude.{filter}
use Rattle.std.specs.List.{Contains}
use Rattle.std.proofs.lemmas.Bool.{eqb-true}
use Rattle.ic_base.specs.declared.keys.ConnEnd.{ConnEnd}
use Rattle.ic_base.specs.declared.datagram.Datagram.{Datagram}
use Rattle.ic_base.specs.declared.settings.Flow.{Flow}
use Rattle.ic_base.specs.declared.settings.Flow.TheVariants.{Loss, Capacity}
use Rattle.ic_expire.specs.declared.item.Item.{Item}
use Rattle.ic_window.specs.State.{WindowState, by_flow, grown, lost, sampled}
use Rattle.ic_window.specs.Window.{times, wider, halved}
use Rattle.ic_header.specs.Packets.{row_datagram}
use Rattle.ic_law.specs.Filling.{Sealed}
use Rattle.ic_law.specs.Timers.{Timer, timer_of, lost_where}
use Rattle.ic_law.specs.Timing.{row_at, rows_at}
use Rattle.ic_law.specs.Timers.{sample_by as sample_in, is_among as stands_among}
use Rattle.ic_law.proofs.Lists.{Contains-head, Contains-tail, map-append}
use Rattle.ic_sender.specs.declared.flight.Flight.{Flight}
use Rattle.ic_sender.specs.Sending.{sample_by, flight_at, copy_of, copies, lost_with}
use Rattle.ic_sender.specs.Standing.{Waits, Alike}

-- ---- pairs

pub alike_in : (R : Flight → Timer → Type 0) (fs : List Flight) (ts : List Timer) → Alike R fs ts → Alike (λ f t. R f t × Contains fs f × Contains ts t) fs ts
alike_in R fs ts h = go fs ts (λ f at. at) (λ t at. at) h
  where
    go : (gs : List Flight) (us : List Timer) → ((f : Flight) → Contains gs f → Contains fs f) → ((t : Timer) → Contains us t → Contains ts t) → Alike R gs us → Alike (λ f t. R f t × Contains fs f × Contains ts t) gs us
    go [] [] in_f in_t h = tt
    go [] (u ∷ us) in_f in_t h = h
    go (g ∷ gs) [] in_f in_t h = h
    go (g ∷ gs) (u ∷ us) in_f in_t h = ((h.0, in_f g (Contains-head g gs), in_t u (Contains-head u us)), go gs us (λ f at. in_f f (Contains-tail g gs f at)) (λ t at. in_t t (Contains-tail u us t at)) h.1)

pub alike_filter : (R : Flight → Timer → Type 0) (p : Flight → Bool) (q : Timer → Bool) (fs : List Flight) (ts : List Timer) → ((f : Flight) (t : Timer) → R f t → p f ≡ q t) → Alike R fs ts → Alike R (filter p fs) (filter q ts)
alike_filter R p q [] [] same h = tt
alike_filter R p q [] (t ∷ ts) same h = absurd h
alike_filter R p q (f ∷ fs) [] same h = absurd h
alike_filter R p q (f ∷ fs) (t ∷ ts) same h = subst (λ b. Alike R (filter p (f ∷ fs)) (cond b (t ∷ filter q ts) (filter q ts))) (same f t h.0) (by (p f) (alike_filter R p q fs ts same h.1))
  where
    by : (b : Bool) → Alike R (filter p fs) (filter q ts) → Alike R (cond b (f ∷ filter p fs) (filter p fs)) (cond b (t ∷ filter q ts) (filter q ts))
    by true rest = (h.0, rest)
    by false rest = rest

pub alike_map : (R S : Flight → Timer → Type 0) (g : Flight → Flight) (k : Timer → Timer) (fs : List Flight) (ts : List Timer) → ((f : Flight) (t : Timer) → R f t → S (g f) (k t)) → Alike R fs ts → Alike S (map g fs) (map k ts)
alike_map R S g k [] [] next h = tt
alike_map R S g k [] (t ∷ ts) next h = h
alike_map R S g k (f ∷ fs) [] next h = h
alike_map R S g k (f ∷ fs) (t ∷ ts) next h = (next f t h.0, alike_map R S g k fs ts next h.1)

-- a packet on its way is found by its number with what the timing has of it, or neither is there
pub data Found (R : Flight → Timer → Type 0) (fs : List Flight) (ts : List Timer) (n : ℕ) : Type 0 where
  There : (f : Flight) (t : Timer) → R f t → f.seq ≡ n → Contains ts t → flight_at fs n ≡ Some f → stands_among ts n ≡ true → Found R fs ts n
  Absent : flight_at fs n ≡ None → stands_among ts n ≡ false → Found R fs ts n

pub alike_find : (R : Flight → Timer → Type 0) (fs : List Flight) (ts : List Timer) (n : ℕ) → ((f : Flight) (t : Timer) → R f t → t.seq ≡ f.seq) → Alike R fs ts → Found R fs ts n
alike_find R [] [] n same h = Absent refl refl
alike_find R [] (t ∷ ts) n same h = absurd h
alike_find R (f ∷ fs) [] n same h = absurd h
alike_find R (f ∷ fs) (t ∷ ts) n same h = by (f.seq == n) refl (alike_find R fs ts n same h.1)
  where
    by : (b : Bool) → (f.seq == n) ≡ b → Found R fs ts n → Found R (f ∷ fs) (t ∷ ts) n
    by true e rest =
        There f t h.0 (eqb-true f.seq n e) (Contains-head t ts) (ap (λ b. cond b (Some f) (flight_at fs n)) e)
        (ap (λ k. (k == n) || stands_among ts n) (same f t h.0) ∙ ap (λ b. b || stands_among ts n) e)
    by false e (There g u r is at found among) =
        There g u r is (Contains-tail t ts u at) (ap (λ b. cond b (Some f) (flight_at fs n)) e ∙ found)
        (ap (λ k. (k == n) || stands_among ts n) (same f t h.0) ∙ ap (λ b. b || stands_among ts n) e ∙ among)
    by false e (Absent found among) =
        Absent (ap (λ b. cond b (Some f) (flight_at fs n)) e ∙ found) (ap (λ k. (k == n) || stands_among ts n) (same f t h.0) ∙ ap (λ b. b || stands_among ts n) e ∙ among)

seq_same : (end : ConnEnd) (packets : List Sealed) (conn : ℕ) (held : List Item) (clock : ℕ) (f : Flight) (t : Timer) → Waits end packets conn held clock f t → t.seq ≡ f.seq
seq_same end packets conn held clock f t w = w.seq

pub waits_find : (end : ConnEnd) (packets : List Sealed) (conn : ℕ) (held : List Item) (clock : ℕ) (fs : List Flight) (ts : List Timer) (n : ℕ) → Alike (Waits end packets conn held clock) fs ts → Found (Waits end packets conn held clock) fs ts n
waits_find end packets conn held clock fs ts n h = alike_find (Waits end packets conn held clock) fs ts n (seq_same end packets conn held clock) h

-- ---- what is emitted again

-- the copies of what is on its way are the packets under these numbers
pub copies_are : (end : ConnEnd) (packets : List Sealed) (conn : ℕ) (held : List Item) (clock : ℕ) (fs : List Flight) (ts : List Timer) (numbers : List ℕ) → Alike (Waits end packets conn held clock) fs ts
    → copies fs numbers ≡ map (row_datagram end) (rows_at packets (filter (stands_among ts) numbers))
copies_are end packets conn held clock fs ts [] h = refl
copies_are end packets conn held clock fs ts (n ∷ numbers) h = by (waits_find end packets conn held clock fs ts n h) (copies_are end packets conn held clock fs ts numbers h)
  where
    rows : List ℕ
    rows = filter (stands_among ts) numbers

    by : Found (Waits end packets conn held clock) fs ts n → copies fs numbers ≡ map (row_datagram end) (rows_at packets rows)
        → copies fs (n ∷ numbers) ≡ map (row_datagram end) (rows_at packets (cond (stands_among ts n) (n ∷ filter (stands_among ts) numbers) (filter (stands_among ts) numbers)))
    by (There f t w is at found among) rest =
        ap (λ o. copy_of o ++ copies fs numbers) found ∙ ap (λ l. f.datagram ∷ l) rest
        ∙ ap (λ l. l ++ map (row_datagram end) (rows_at packets rows)) (sym w.same ∙ ap (λ k. map (row_datagram end) (row_at (slice_get packets (k - 1)) k)) is)
        ∙ sym (map-append (row_datagram end) (row_at (slice_get packets (n - 1)) n) (rows_at packets rows))
        ∙ sym (ap (λ b. map (row_datagram end) (rows_at packets (cond b (n ∷ filter (stands_among ts) numbers) (filter (stands_among ts) numbers)))) among)
    by (Absent found among) rest =
        ap (λ o. copy_of o ++ copies fs numbers) found ∙ rest ∙ sym (ap (λ b. map (row_datagram end) (rows_at packets (cond b (n ∷ filter (stands_among ts) numbers) (filter (stands_among ts) numbers)))) among)

-- they are a loss where there are any
pub lost_same : (end : ConnEnd) (packets : List Sealed) (conn : ℕ) (held : List Item) (clock : ℕ) (fs : List Flight) (ts : List Timer) (numbers : List ℕ) (w : WindowState) → Alike (Waits end packets conn held clock) fs ts
    → lost_where (filter (stands_among ts) numbers) w ≡ lost_with (copies fs numbers) w
lost_same end packets conn held clock fs ts [] w h = refl
lost_same end packets conn held clock fs ts (n ∷ numbers) w h = by (waits_find end packets conn held clock fs ts n h) (lost_same end packets conn held clock fs ts numbers w h)
  where
    by : Found (Waits end packets conn held clock) fs ts n → lost_where (filter (stands_among ts) numbers) w ≡ lost_with (copies fs numbers) w
        → lost_where (cond (stands_among ts n) (n ∷ filter (stands_among ts) numbers) (filter (stands_among ts) numbers)) w ≡ lost_with (copies fs (n ∷ numbers)) w
    by (There f t r is at found among) rest =
        ap (λ b. lost_where (cond b (n ∷ filter (stands_among ts) numbers) (filter (stands_among ts) numbers)) w) among ∙ sym (ap (λ o. lost_with (copy_of o ++ copies fs numbers) w) found)
    by (Absent found among) rest =
        ap (λ b. lost_where (cond b (n ∷ filter (stands_among ts) numbers) (filter (stands_among ts) numbers)) w) among ∙ rest ∙ sym (ap (λ o. lost_with (copy_of o ++ copies fs numbers) w) found)

-- ---- windows

-- the sample is that of the same packet
pub sample_same : (end : ConnEnd) (packets : List Sealed) (conn : ℕ) (held : List Item) (clock : ℕ) (fs : List Flight) (ts : List Timer) (n : ℕ) (w : WindowState) → Alike (Waits end packets conn held clock) fs ts
    → sample_in clock (timer_of n ts) w ≡ sample_by clock (flight_at fs n) w
sample_same end packets conn held clock [] [] n w h = refl
sample_same end packets conn held clock [] (t ∷ ts) n w h = absurd h
sample_same end packets conn held clock (f ∷ fs) [] n w h = absurd h
sample_same end packets conn held clock (f ∷ fs) (t ∷ ts) n w h =
    ap (λ k. sample_in clock (cond (k == n) (t ∷ timer_of n ts) (timer_of n ts)) w) h.0.seq ∙ by (f.seq == n) (sample_same end packets conn held clock fs ts n w h.1)
  where
    by : (b : Bool) → sample_in clock (timer_of n ts) w ≡ sample_by clock (flight_at fs n) w → sample_in clock (cond b (t ∷ timer_of n ts) (timer_of n ts)) w ≡ sample_by clock (cond b (Some f) (flight_at fs n)) w
    by true rest = ap (λ b. cond b w (sampled (clock - t.since) w)) h.0.resent ∙ ap (λ k. cond f.resent w (sampled (clock - k) w)) h.0.since
    by false rest = rest

times_least : (n depth threshold window : ℕ) → 1 ≤ depth → 256 ≤ window → 256 ≤ times n (wider depth threshold) window
unfolding times
times_least zero depth threshold window low least = least
times_least (suc n) depth threshold window low least = times_least n depth threshold (wider depth threshold window) low (let more : 256 ≤ wider depth threshold window = omega (arith, low, least) in more)

-- one packet at least, always
abbrev pub HasLeast : WindowState → Type 0
HasLeast w = (1 ≤ w.depth) × (256 ≤ w.window)

pub least_grown : (n : ℕ) (w : WindowState) → HasLeast w → HasLeast (grown n w)
least_grown n w h = by w.flow
  where
    by : (flow : Flow) → HasLeast (by_flow flow (record w { window = times n (wider w.depth w.threshold) w.window }) w)
    by Loss = (h.0, times_least n w.depth w.threshold w.window h.0 h.1)
    by Capacity = h

pub least_lost : (w : WindowState) → HasLeast w → HasLeast (lost w)
least_lost w h = by w.flow
  where
    by : (flow : Flow) → HasLeast (by_flow flow (record w { window = 256; threshold = halved w.window }) w)
    by Loss = (h.0, omega arith)
    by Capacity = h

pub least_lost_with : (ds : List Datagram) (w : WindowState) → HasLeast w → HasLeast (lost_with ds w)
least_lost_with [] w h = h
least_lost_with (d ∷ ds) w h = least_lost w h

pub least_sampled : (clock : ℕ) (o : Option Flight) (w : WindowState) → HasLeast w → HasLeast (sample_by clock o w)
least_sampled clock None w h = h
least_sampled clock (Some f) w h = by f.resent
  where
    by : (b : Bool) → HasLeast (cond b w (sampled (clock - f.since) w))
    by true = h
    by false = h

-- a loss leaves the waiting time
pub lost_waits_one : (w : WindowState) → (lost w).round_trip ≡ w.round_trip
lost_waits_one w = by w.flow
  where
    by : (flow : Flow) → (by_flow flow (record w { window = 256; threshold = halved w.window }) w).round_trip ≡ w.round_trip
    by Loss = refl
    by Capacity = refl

-- a loss leaves no more room
pub lost_less_one : (w : WindowState) → HasLeast w → (lost w).window ≤ w.window
lost_less_one w h = by w.flow
  where
    by : (flow : Flow) → (by_flow flow (record w { window = 256; threshold = halved w.window }) w).window ≤ w.window
    by Loss = h.1
    by Capacity = omega arith
