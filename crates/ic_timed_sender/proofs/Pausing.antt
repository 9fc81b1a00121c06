-- A history of ticks alone, for which a connection stands as it begins.
use Rattle.std.proofs.Common.{◌≡◌, ℕ, zero, suc, ◌≤◌, List, [], ◌∷◌, ◌++◌, length, false, Ok, refl, ap, sym, ◌∙◌, subst, arith, append-nil}
use Rattle.std.specs.List.{Contains}
use Rattle.ic_base.specs.declared.keys.ConnKey.{ConnKey}
use Rattle.ic_base.specs.declared.keys.ConnEnd.{ConnEnd}
use Rattle.ic_base.specs.declared.settings.Settings.{Settings}
use Rattle.ic_expire.specs.declared.item.Item.{Item}
use Rattle.ic_expire.specs.Queue.{Queue}
use Rattle.ic_law.specs.declared.history.HubAsk.TheVariants.{Begin, Tick}
use Rattle.ic_law.specs.declared.history.HubReply.TheVariants.{Ticked}
use Rattle.ic_law.specs.declared.history.Entry.{Entry}
use Rattle.ic_law.specs.History.{rows_emitted_of}
use Rattle.ic_law.specs.Putting.{chunks_put_of, finished_of}
use Rattle.ic_law.specs.Clock.{last_tick, ticks_of}
use Rattle.ic_law.proofs.Lists.{Contains-none}
use Rattle.ic_law.proofs.Readings.{fold_every, rows_emitted_of-push}
use Rattle.ic_sender.specs.Sending.{Sending, begun}
use Rattle.ic_sender.specs.Entries.{IsNothingOf, IsBefore}
use Rattle.ic_sender.specs.Standing.{Stands as StandsFor, IsUntouched, HoldsNone}
use Rattle.ic_sender.proofs.Passing.{chunks_stay, finished_stays}
use Rattle.ic_chunk.specs.Counts.{HasCounted}
use Rattle.ic_chunk.proofs.Ended.{counted_none}
use Rattle.ic_timed_sender.specs.Standing.{HasResent, StandsFirst, IsSound}
use Rattle.ic_timed_sender.proofs.Steps.{state}

-- a tick at which nothing is emitted
abbrev pause : Entry
pause = record { ask = Tick; reply = Ticked (Ok []) }

pauses : ℕ → List Entry
pauses zero = []
pauses (suc n) = pause ∷ pauses n

ticks_of-pauses : (n : ℕ) → ticks_of (pauses n) ≡ n
unfolding pauses
ticks_of-pauses zero = refl
ticks_of-pauses (suc n) = let rest = ticks_of-pauses n in omega (arith, rest)

-- each entry is a tick, and so are those before it
parts : (n : ℕ) (before : List Entry) (e : Entry) (after : List Entry) → pauses n ≡ before ++ e ∷ after → (e ≡ pause) × (m : ℕ) × (before ≡ pauses m)
unfolding pauses
parts zero [] e after h = absurd (let bad : [] ≡ e ∷ after = h in cc)
parts zero (b ∷ before) e after h = absurd (let bad : [] ≡ b ∷ (before ++ e ∷ after) = h in cc)
parts (suc n) [] e after h = let both : pause ∷ pauses n ≡ e ∷ after = h in let same : e ≡ pause = cc in (same, 0, refl)
parts (suc n) (b ∷ before) e after h =
    let both : pause ∷ pauses n ≡ b ∷ (before ++ e ∷ after) = h in
    let first : b ≡ pause = cc in
    let rest : pauses n ≡ before ++ e ∷ after = cc in
    let w = parts n before e after rest in
    (w.0, suc w.1, ap (λ x. x ∷ before) first ∙ ap (λ l. pause ∷ l) w.2)

nothing_of : (c : ConnKey) → IsNothingOf c pause
nothing_of c = record { puts_none = refl; finishes_none = refl; hears_none = refl; rows = refl; queries = refl }

untouched : (end : ConnEnd) (n : ℕ) → IsUntouched end (pauses n)
untouched end n before e after at =
    let w = parts n before e after at in
    record {
      nothing = subst (IsNothingOf end.key) (sym w.0) (nothing_of end.key);
      away = λ here.
          let live = here.live in
          let begins : Entry = record { ask = Begin end.key.query here.ends; reply = live.reply } in
          let same = (parts w.1 live.before begins live.after (sym w.2 ∙ live.all)).0 in
          let bad : Begin end.key.query here.ends ≡ Tick = ap (λ (x : Entry). x.ask) same in
          cc;
    }

-- before the end is there nothing of it is finished
unfinished : (end : ConnEnd) (h : List Entry) → IsUntouched end h → finished_of end.key h ≡ false
unfinished end h none =
    fold_every (IsBefore end) (λ x. finished_of end.key x ≡ false) h refl (λ before e after split point old. finished_stays end.key before e point.nothing.finishes_none ∙ old) none

-- nor was anything of it put, or emitted
unput : (end : ConnEnd) (h : List Entry) → IsUntouched end h → chunks_put_of end.key h ≡ []
unput end h none =
    fold_every (IsBefore end) (λ x. chunks_put_of end.key x ≡ []) h refl (λ before e after split point old. chunks_stay end.key before e point.nothing.puts_none ∙ old) none

unsent : (end : ConnEnd) (h : List Entry) → IsUntouched end h → rows_emitted_of end.key h ≡ []
unsent end h none =
    fold_every (IsBefore end) (λ x. rows_emitted_of end.key x ≡ []) h refl
    (λ before e after split point old. rows_emitted_of-push end.key before e ∙ ap (λ l. rows_emitted_of end.key before ++ l) point.nothing.rows ∙ append-nil (rows_emitted_of end.key before) ∙ old) none

pub new_stands : (end : ConnEnd) (settings : Settings) (now : ℕ) (s : Sending) (held : List Item) → s ≡ begun end 0 settings → held ≡ [] → ((left : List Item) (h : List Entry) → HoldsNone 0 left → IsUntouched end h → StandsFor s left h)
    → StandsFirst end now (state s held now 0)
new_stands end settings now s held same none stands h clock away = record {
  clock = clock;
  finished = ap (λ (x : Sending). finished_of x.end.key h) same ∙ unfinished end h away ∙ sym (ap (λ (x : Sending). x.finished) same);
  sends = stands held h (λ y at mine. Contains-none y (subst (λ l. Contains l y) none at)) away;
  rows = subst (λ (x : Sending). HasCounted (chunks_put_of x.end.key h) 0) (sym same) (subst (λ l. HasCounted l 0) (sym (unput end h away)) counted_none);
  resent = subst (λ (x : Sending). HasResent x.end.key h x.sent x.resent) (sym same) (record { again = 0; emitted = ap length (unsent end h away); told = omega arith });
}

pub new_sound : (end : ConnEnd) (settings : Settings) (now : ℕ) (s : Sending) (q : Queue) → s ≡ begun end 0 settings → q ≡ record { held = []; asked = now; room = settings.send_depth } → now ≤ last_tick → StandsFirst end now (state s q.held now 0) → IsSound s q now 0
new_sound end settings now s q same queue last stands = record {
  conn = ap (λ (x : Sending). x.conn) same;
  asked = ap (λ (x : Queue). x.asked) queue;
  last = last;
  room = ap (λ (x : Queue). x.room) queue ∙ sym (ap (λ (x : Sending). x.settings.send_depth) same);
  own = λ y at. absurd (Contains-none y (subst (λ (x : Queue). Contains x.held y) queue at));
  still = λ off. ap (λ (x : Queue). x.held) queue;
  history = pauses now;
  stands = let count = ticks_of-pauses now in stands (pauses now) (omega (arith, count, last)) (untouched end now);
}
