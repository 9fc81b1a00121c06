-- What waits is on its way, each packet once, so there is room for all that is kept.
use Rattle.std.proofs.Common.{◌≡◌, ℕ, ◌+◌, ◌-◌, ◌<◌, ◌≤◌, List, [], ◌∷◌, length, map, false, cond, ap, sym, ◌∙◌, subst, arith, inl, inr}
use Rattle.std.specs.Prelude.{nat_lt}
use Rattle.std.specs.List.{Contains, All, AllByRecursion, IsDistinct}
use Rattle.std.proofs.Math.Dec.{eqb}
use Rattle.std.proofs.lemmas.Bool.{ne_eqb, eqb-true, cases_Bool}
use Rattle.std.proofs.lemmas.List.Elements.{All-head, All-tail}
use Rattle.std.proofs.lemmas.Map.Keys.{IsDistinct-cons}
use Rattle.std.proofs.lemmas.Map.Steps.{length-le_from_distinct_below}
use Rattle.std.proofs.lemmas.Map.Views.{Contains-from_any}
use Rattle.ic_expire.specs.declared.item.Item.{Item}
use Rattle.ic_expire.specs.declared.dues.Due.{Due}
use Rattle.ic_expire.specs.Items.{AreOthers}
use Rattle.ic_expire.specs.Queue.{Queue, IsQueue, EachLater}
use Rattle.ic_law.specs.Filling.{sealed_of}
use Rattle.ic_law.specs.History.{number_of}
use Rattle.ic_law.specs.Clock.{clock_of}
use Rattle.ic_law.specs.Timing.{timing_of}
use Rattle.ic_law.proofs.Lists.{Contains-head, Contains-tail, Contains-map, map-Contains}
use Rattle.ic_sender.specs.declared.flight.Flight.{Flight}
use Rattle.ic_sender.specs.Sending.{Sending}
use Rattle.ic_sender.specs.Calls.{IsNow, WaitsAlone, LeavesRoom, unsent, unsealed}
use Rattle.ic_sender.specs.Standing.{Waits}
use Rattle.ic_sender.proofs.Lists.{in_behind, length-map, length-behind, lt_of}
use Rattle.ic_sender.proofs.Dues.{alike_timer}
use Rattle.ic_timed_sender.specs.Standing.{IsSound}

-- a packet that waits was emitted and isn't acknowledged, and is due soon
pub record IsFlying (s : Sending) (now : ℕ) (y : Item) : Type 0 where
  pub from : s.acked < y.seq
  pub upto : y.seq ≤ s.sent
  pub later : now < y.due
  pub near : y.due ≤ now + 64

pub flying : (s : Sending) (q : Queue) (now rows : ℕ) → IsSound s q now rows → s.stopped ≡ false → (y : Item) → Contains q.held y → IsFlying s now y
flying s q now rows sound on y at =
    let h = sound.history in
    let c = s.end.key in
    let st = sound.stands in
    let clock : clock_of h ≡ now = st.clock in
    let m = (st.sends.reflects.runs on).mirrors in
    let x = m.alone y at (sound.own y at) in
    let f = alike_timer (Waits s.end (sealed_of c s.settings h) s.conn q.held (clock_of h)) s.flights (timing_of c s.settings h).timers x.0 m.timers x.1 in
    let range = in_behind s.acked (s.sent - s.acked) f.0.seq (subst (λ l. Contains l f.0.seq) m.flights (Contains-map (λ (g : Flight). g.seq) s.flights f.0 f.1)) in
    let seq : y.seq ≡ f.0.seq = ap (λ (z : Item). z.seq) x.2 ∙ f.2.seq in
    let due : y.due ≡ x.0.due = ap (λ (z : Item). z.due) x.2 in
    let soon = f.2.soon in
    let later = soon.later in
    let near = soon.near in
    record {
      from = omega (arith, seq, range.0);
      upto = omega (arith, seq, range.1, m.up);
      later = omega (arith, due, later, clock);
      near = omega (arith, due, near, clock);
    }

-- ---- no packet waits twice

-- of one connection, other packets have other numbers
other_numbers : (x y : Item) → x.conn ≡ y.conn → AreOthers x y → x.seq ≡ y.seq → ⊥
other_numbers x y conns others seqs = others (ap (λ n. due n x.seq) conns ∙ ap (due y.conn) seqs)
  where
    due : ℕ → ℕ → Due
    due conn seq = record { conn = conn; seq = seq }

apart : (a : ℕ) (x : Item) (held : List Item) → a < x.seq → All (AreOthers x) held → ((y : Item) → Contains held y → (a < y.seq) × (x.conn ≡ y.conn))
    → AllByRecursion (λ n. eqb (x.seq - (a + 1)) n ≡ false) (map (λ (y : Item). y.seq - (a + 1)) held)
apart a x [] low others are = tt
apart a x (y ∷ held) low others are =
    let w = are y (Contains-head y held) in (
      ne_eqb (x.seq - (a + 1)) (y.seq - (a + 1)) (λ same. other_numbers x y w.1 (All-head (AreOthers x) y held others) (omega (arith, same, low, w.0))),
      apart a x held low (All-tail (AreOthers x) y held others) (λ z at. are z (Contains-tail y held z at)),
    )

distinct : (a conn : ℕ) (held : List Item) → EachLater AreOthers held → ((y : Item) → Contains held y → (a < y.seq) × (y.conn ≡ conn)) → IsDistinct eqb (map (λ (y : Item). y.seq - (a + 1)) held)
unfolding IsDistinct
distinct a conn [] later are = tt
distinct a conn (x ∷ held) later are =
    let here = are x (Contains-head x held) in
    IsDistinct-cons eqb (x.seq - (a + 1)) (map (λ (y : Item). y.seq - (a + 1)) held)
    (apart a x held here.0 later.0 (λ y at. let w = are y (Contains-tail x held y at) in (w.0, here.1 ∙ sym w.1)))
    (distinct a conn held later.1 (λ y at. are y (Contains-tail x held y at)))

-- no more wait than are on their way
few : (a b conn : ℕ) (held : List Item) → EachLater AreOthers held → ((y : Item) → Contains held y → (a < y.seq) × (y.seq ≤ b) × (y.conn ≡ conn)) → length held ≤ b - a
few a b conn held once are =
    let numbers = map (λ (y : Item). y.seq - (a + 1)) held in
    let most = length-le_from_distinct_below numbers (b - a) (distinct a conn held once (λ y at. let w = are y at in (w.0, w.2)))
    (λ n found. let w = map-Contains (λ (y : Item). y.seq - (a + 1)) held n (Contains-from_any eqb-true n numbers found) in let range = are w.0 w.1 in omega (arith, w.2, range.0, range.1)) in
    omega (arith, most, length-map (λ (y : Item). y.seq - (a + 1)) held)

-- ---- what the calls of a sender want

pub is_now : (s : Sending) (q : Queue) (now rows : ℕ) → IsSound s q now rows → IsNow now q
is_now s q now rows sound = let asked = sound.asked in record { from = omega (arith, asked); upto = omega (arith, asked); last = sound.last }

pub waits_alone : (s : Sending) (q : Queue) (now rows : ℕ) → IsSound s q now rows → s.stopped ≡ false → WaitsAlone s q
waits_alone s q now rows sound on seq at = (flying s q now rows sound on (record { due = at.0; conn = s.conn; seq = seq }) at.1).upto

-- what is kept is what isn't acknowledged
kept_are : (s : Sending) (q : Queue) (now rows : ℕ) → IsSound s q now rows → s.stopped ≡ false → (length s.kept ≡ s.sealed - s.acked) × (s.acked ≤ s.sent) × (s.sent ≤ s.sealed)
kept_are s q now rows sound on =
    let reflects = sound.stands.sends.reflects in
    let m = (reflects.runs on).mirrors in
    let within = reflects.sent.within in
    (sym (length-map number_of s.kept) ∙ ap length m.numbers ∙ length-behind s.acked (s.sealed - s.acked), m.up, omega (arith, within, m.sealed))

waiting_few : (s : Sending) (q : Queue) (now rows : ℕ) → IsSound s q now rows → IsQueue q → s.stopped ≡ false → length q.held ≤ s.sent - s.acked
waiting_few s q now rows sound queue on =
    few s.acked s.sent s.conn q.held queue.once (λ y at. let w = flying s q now rows sound on y at in (w.from, w.upto, sound.own y at))

pub leaves_room : (s : Sending) (q : Queue) (now rows : ℕ) → IsSound s q now rows → IsQueue q → length s.kept ≤ s.settings.send_depth → s.stopped ≡ false → LeavesRoom (unsent s) q
leaves_room s q now rows sound queue most on =
    let w = kept_are s q now rows sound on in
    let waiting = waiting_few s q now rows sound queue on in
    let room = sound.room in
    omega (arith, w.0, w.1, w.2, waiting, room, most)

pub leaves_more_room : (s : Sending) (q : Queue) (now rows : ℕ) → IsSound s q now rows → IsQueue q → length s.kept ≤ s.settings.send_depth → s.stopped ≡ false → LeavesRoom (unsealed s) q
leaves_more_room s q now rows sound queue most on =
    let w = kept_are s q now rows sound on in
    let waiting = waiting_few s q now rows sound queue on in
    let room = sound.room in
    elim (cases_Bool (nat_lt (length s.kept) s.settings.send_depth)) [
      | inl less ↦ subst (λ b. length q.held + ((s.sealed - s.sent) + cond b 1 0) ≤ q.room) (sym less) (let lt = lt_of (length s.kept) s.settings.send_depth less in omega (arith, w.0, w.1, w.2, waiting, room, lt))
      | inr not_less ↦ subst (λ b. length q.held + ((s.sealed - s.sent) + cond b 1 0) ≤ q.room) (sym not_less) (omega (arith, w.0, w.1, w.2, waiting, room, most))
    ]
