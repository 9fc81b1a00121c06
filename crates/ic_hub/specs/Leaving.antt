-- Whether a live query could be left.
use Rattle.std.specs.Prelude.{◌≡◌, ℕ, ◌<◌, List, Bool, true, false, Option, Some, None, slice_get}
use Rattle.ic_base.specs.declared.keys.ConnKey.{ConnKey}
use Rattle.ic_base.specs.declared.keys.ConnEnd.{ConnEnd}
use Rattle.ic_base.specs.declared.settings.Settings.{Settings}
use Rattle.ic_law.specs.declared.history.Entry.{Entry}
use Rattle.ic_law.specs.Points.{IsClear}
use Rattle.ic_law.specs.Arriving.{AreClear, IsFirstUnclear}
use Rattle.ic_conntab.specs.declared.slots.Slot.{Slot}
use Rattle.ic_conntab.specs.Slots.{end_at}
use Rattle.ic_hub.specs.Hubbing.{Living}
use Rattle.ic_hub.specs.Standing.{LivingStands}

-- whether the end of a slot is clear, in every history for which the query stands
pub record TellsClear (l : Living) (slot : Slot) (over : Bool) : Type 0 where
  pub clear : over ≡ true → (settings : Settings) (h : List Entry) (end : ConnEnd) → LivingStands settings l h → end_at l.ends slot ≡ Some end → IsClear end h
  pub unclear : over ≡ false → (settings : Settings) (h : List Entry) (end : ConnEnd) → LivingStands settings l h → end_at l.ends slot ≡ Some end → IsClear end h → ⊥

-- the first so many ends of a query are clear
abbrev pub AreClearUpto : Living → ℕ → Type 0
AreClearUpto l n = (settings : Settings) (h : List Entry) → LivingStands settings l h → (i : ℕ) (end : ConnEnd) → i < n → slice_get l.ends i ≡ Some end → IsClear end h

-- the first end that isn't clear, if one isn't
abbrev pub TellsUnclear : Living → Option ConnKey → Type 0
TellsUnclear l None = (settings : Settings) (h : List Entry) → LivingStands settings l h → AreClear l.ends h
TellsUnclear l (Some key) = (settings : Settings) (h : List Entry) → LivingStands settings l h → IsFirstUnclear l.ends h key
