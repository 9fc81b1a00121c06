-- A sending end that keeps packets always has something to emit again.
use Rattle.std.specs.Prelude.{◌≡◌, ℕ, List, false, Option, Some, ◌+◌, ◌<◌, ◌≤◌, length, Contains}
use Rattle.ic_base.specs.declared.keys.ConnKey.{ConnKey}
use Rattle.ic_law.specs.declared.history.Entry.{Entry}
use Rattle.ic_base.specs.declared.settings.Settings.{Settings}
use Rattle.ic_law.specs.History.{sent_upto}
use Rattle.ic_law.specs.Hearing.{run_heard, stopped_of}
use Rattle.ic_law.specs.Filling.{sealed_of}
use Rattle.ic_law.specs.Clock.{clock_of}

-- a tick after now, and at most 64 after it
pub record IsSoon (now due : ℕ) : Type 0 where
  pub later : now < due
  pub near : due ≤ now + 64

-- On a connection that isn't stopped, each packet that was emitted and isn't acknowledged is due soon. If there is no
-- such packet, but an unsent one, a status query is due soon. So a sending end that keeps packets always has something
-- to emit again.
pub record IsArmed (settings : Settings) (c : ConnKey) (h : List Entry) (dues : List (ℕ × ℕ)) (query : Option ℕ) : Type 0 where
  pub packets : stopped_of c h ≡ false → (seq : ℕ) → run_heard c h < seq → seq ≤ sent_upto c h → (due : ℕ) × Contains dues (seq, due) × IsSoon (clock_of h) due
  pub query_is : stopped_of c h ≡ false → sent_upto c h ≤ run_heard c h → sent_upto c h < length (sealed_of c settings h) → (due : ℕ) × (query ≡ Some due) × IsSoon (clock_of h) due
