-- An entry that isn't a tick, with exactly the packets of rows that go out.
use Rattle.std.proofs.Common.{◌≡◌, ℕ, ◌≤◌, List, [], ◌∷◌, ◌++◌, map, true, false, ◌||◌, refl, ap, sym, ◌∙◌, subst, arith, inl, inr}
use Rattle.std.specs.List.{flat_map, Contains, list_any}
use Rattle.std.proofs.lemmas.Bool.{cases_Bool}
use Rattle.std.proofs.lemmas.List.Elements.{Contains-append_cases}
use Rattle.ic_expire.specs.declared.item.Item.{Item}
use Rattle.ic_law.specs.declared.history.Entry.{Entry}
use Rattle.ic_header.specs.Packets.{row_datagram}
use Rattle.ic_law.specs.History.{emits, rows_in}
use Rattle.ic_law.specs.Hearing.{hears, is_stop, stopped_of}
use Rattle.ic_law.specs.Filling.{sealed_of}
use Rattle.ic_law.specs.Points.{Every, IsHere}
use Rattle.ic_law.specs.Sending.{Refuses}
use Rattle.ic_law.specs.Clock.{clock_of, ticks_by}
use Rattle.ic_law.specs.Timing.{timing_of, moved, rows_at, numbers_behind}
use Rattle.ic_law.specs.Emitting.{again_numbers, queries_in}
use Rattle.ic_law.proofs.Readings.{stopped_of-push}
use Rattle.ic_sender.specs.Sending.{Sending, count_next, rows_next, emitting, waits_next}
use Rattle.ic_sender.specs.Entries.{IsNothingOf}
use Rattle.ic_sender.specs.Standing.{KeepsSending, Stands}
use Rattle.ic_sender.proofs.Lists.{in_behind}
use Rattle.ic_sender.proofs.Carrying.{AllTravel, rows_again, rows_ask_nothing, rows_made}
use Rattle.ic_sender.proofs.Emitting.{Ready, rows_next-are, rows_travel, next_within, emits_on, rows_are}
use Rattle.ic_sender.proofs.Passing.{keeps_law, again_not, settled_stays, settled_rows, settled_waits, stays_ready, EmitsRows, plain_due, emits_nothing, PassesStopped, reflects_stopped, stopped_due}

-- the packets that go out can travel
all_travel : (m : Sending) (held : List Item) (h : List Entry) (e : Entry) (again : List ℕ) → Ready m held h e → ((n : ℕ) → Contains again n → (1 ≤ n) × (n ≤ m.sent))
    → AllTravel (rows_at (sealed_of m.end.key m.settings (h ++ e ∷ [])) again ++ rows_next m)
all_travel m held h e again ready old p at =
    let c = m.end.key in
    let packets = sealed_of c m.settings (h ++ e ∷ []) in
    let t = moved c h e (timing_of c m.settings h) in
    let clock = clock_of (h ++ e ∷ []) in
    let within = next_within m packets ready.mirrors.sealed ready.sent.within in
    elim (Contains-append_cases (rows_at packets again) (rows_next m) p at) [
      | inl before ↦
          rows_travel m held packets t clock again ready.checked ready.mirrors
          (λ n there. let w = old n there in (w.0, omega (arith, w.1, ready.sent.within))) p before
      | inr next ↦
          rows_travel m held packets t clock (numbers_behind m.sent (count_next m)) ready.checked ready.mirrors
          (λ n there. let w = in_behind m.sent (count_next m) n there in (omega (arith, w.0), omega (arith, w.1, within))) p
          (subst (λ l. Contains l p) (rows_next-are m held packets t clock ready.mirrors ready.sent.within) next)
    ]

-- an entry whose datagrams are these packets
pub goes_out : (m : Sending) (held : List Item) (h : List Entry) (e : Entry) (again : List ℕ) → Ready m held h e → ((n : ℕ) → Contains again n → (1 ≤ n) × (n ≤ m.sent)) → ticks_by e.reply ≡ 0
    → emits e ≡ map (row_datagram m.end) (rows_at (sealed_of m.end.key m.settings (h ++ e ∷ [])) again ++ rows_next m)
    → EmitsRows m (rows_at (sealed_of m.end.key m.settings (h ++ e ∷ [])) again ++ rows_next m) h e
goes_out m held h e again ready old still are =
    let rows = rows_at (sealed_of m.end.key m.settings (h ++ e ∷ [])) again ++ rows_next m in
    let travel = all_travel m held h e again ready old in
    record {
      still = still;
      rows_are = ap (flat_map (rows_in m.end.key)) are ∙ rows_again m.end rows ready.names travel;
      made = λ d p at reads. let w = rows_made m.end rows d ready.names travel (subst (λ l. Contains l d) are at) in
          let both : w.0 ∷ [] ≡ p ∷ [] = sym w.1 ∙ reads in
          let same : w.0 ≡ p = cc in
          w.3 ∙ ap (row_datagram m.end) same;
      queries = ap (flat_map (queries_in m.end.key)) are ∙ rows_ask_nothing m.end rows ready.names travel;
    }

-- the connection stands for it
pub stands_out : (m : Sending) (held : List Item) (h : List Entry) (e : Entry) (again : List ℕ) (now : ℕ) → clock_of (h ++ e ∷ []) ≡ now → Every (KeepsSending m.settings m.end) h → Ready m held h e
    → ((n : ℕ) → Contains again n → (1 ≤ n) × (n ≤ m.sent)) → again ≡ again_numbers m.end.key h e (timing_of m.end.key m.settings h)
    → EmitsRows m (rows_at (sealed_of m.end.key m.settings (h ++ e ∷ [])) again ++ rows_next m) h e → (IsHere m.end h → Refuses m.settings m.end h e) → Stands (emitting now m) (waits_next now m held) (h ++ e ∷ [])
stands_out m held h e again now is_now law ready old is rows refuses =
    let clock = clock_of (h ++ e ∷ []) in
    let reflects = emits_on m held h e again ready old rows.rows_are rows.made in
    let due = plain_due m (rows_at (sealed_of m.end.key m.settings (h ++ e ∷ [])) again ++ rows_next m) h e rows (rows_are m held h e again ready is) in
    subst (λ n. Stands (emitting n m) (waits_next n m held) (h ++ e ∷ [])) is_now (keeps_law (emitting clock m) (waits_next clock m held) h e law reflects refuses due)

-- an entry that adds nothing, while the connection runs
stays_running : (s : Sending) (held : List Item) (h : List Entry) (e : Entry) → s.stopped ≡ false → IsNothingOf s.end.key e → ticks_by e.reply ≡ 0 → (IsHere s.end h → Refuses s.settings s.end h e) → Stands s held h → Stands s held (h ++ e ∷ [])
stays_running s held h e running nothing still refuses old =
    let clock = clock_of (h ++ e ∷ []) in
    let settled = (old.reflects.runs running).settled in
    let ready = stays_ready s held h e running nothing still old.reflects in
    let rows = subst (λ l. EmitsRows s l h e) (sym (settled_rows s settled)) (emits_nothing s h e nothing still) in
    let all = stands_out s held h e [] clock refl old.law ready (λ n at. absurd (none n at)) (sym (again_not s.end.key h e (timing_of s.end.key s.settings h) still nothing.hears_none)) rows refuses in
    subst (λ (x : Sending). Stands x held (h ++ e ∷ [])) (settled_stays s clock settled) (subst (λ l. Stands (emitting clock s) l (h ++ e ∷ [])) (settled_waits s clock held settled) all)
  where
    none : (n : ℕ) → Contains [] n → ⊥
    none n at = omega (arith, at.1)

-- an entry that neither puts nor emits anything, once the connection is stopped
pub stays_stopped : (s : Sending) (held : List Item) (h : List Entry) (e : Entry) → s.stopped ≡ true → PassesStopped s h e → (IsHere s.end h → Refuses s.settings s.end h e) → Stands s held h → Stands s held (h ++ e ∷ [])
stays_stopped s held h e off passes refuses old =
    let now_off : stopped_of s.end.key (h ++ e ∷ []) ≡ true = off_still s h e (old.reflects.stopped ∙ off) in
    keeps_law s held h e old.law (reflects_stopped s s held held h e refl refl refl off (old.reflects.still off).flights (old.reflects.still off).query now_off passes old.reflects) refuses (stopped_due s h e now_off (inr (old.reflects.still off)) passes)
  where
    off_still : (s : Sending) (h : List Entry) (e : Entry) → stopped_of s.end.key h ≡ true → stopped_of s.end.key (h ++ e ∷ []) ≡ true
    off_still s h e off = stopped_of-push s.end.key h e ∙ ap (λ b. b || list_any is_stop (hears s.end.key e)) off

-- an entry that adds nothing
pub stays : (s : Sending) (held : List Item) (h : List Entry) (e : Entry) → IsNothingOf s.end.key e → ticks_by e.reply ≡ 0 → (IsHere s.end h → Refuses s.settings s.end h e) → Stands s held h → Stands s held (h ++ e ∷ [])
stays s held h e nothing still refuses old =
    elim (cases_Bool s.stopped) [
      | inl off ↦ stays_stopped s held h e off (record { puts_none = nothing.puts_none; finishes_none = nothing.finishes_none; rows = nothing.rows; queries = nothing.queries }) refuses old
      | inr on ↦ stays_running s held h e on nothing still refuses old
    ]
