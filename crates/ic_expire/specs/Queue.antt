-- What a queue holds.
use Rattle.std.specs.Prelude.{map, ℕ, ◌+◌, ◌≤◌, List, [], ◌∷◌, ◌++◌, length, not, ⊤, filter, All, Contains, Bool}
use Rattle.std.specs.List.{list_any}
use Rattle.std.specs.Ordering.{is_lt}
use Rattle.ic_expire.specs.declared.item.Item.{Item}
use Rattle.ic_expire.specs.declared.dues.Due.{Due}
use Rattle.ic_expire.specs.Items.{item_cmp, IsBefore, AreOthers, packet_of, is_due, is_of}

-- ---- lists of items

-- R holds of each item and each later one
abbrev pub EachLater : (Item → Item → Type 0) → List Item → Type 0
EachLater R [] = ⊤
EachLater R (x ∷ xs) = All (R x) xs × EachLater R xs

-- those that don't pass the test
abbrev pub without : (Item → Bool) → List Item → List Item
without test held = filter (λ x. not (test x)) held

-- the held items and one more, after those that are before it and in front of the others
abbrev pub with_item : Item → List Item → List Item
with_item x held = filter (λ y. is_lt (item_cmp y x)) held ++ x ∷ without (λ y. is_lt (item_cmp y x)) held

-- those about packets of one connection
abbrev pub held_of : ℕ → List Item → List Item
held_of conn held = filter (is_of conn) held

-- the packets whose time is over by this tick
abbrev pub dues_of : ℕ → List Item → List Due
dues_of now held = map packet_of (filter (is_due now) held)

-- the time of one of them is over by this tick
abbrev pub has_due : ℕ → List Item → Bool
has_due now held = list_any (is_due now) held

-- the packet waits, until some tick
abbrev pub IsHeld : ℕ → ℕ → List Item → Type 0
IsHeld conn seq held = (due : ℕ) × Contains held (record { due = due; conn = conn; seq = seq })

-- ---- the queue

pub record Queue : Type 0 where
  -- what waits, in the order in which its time runs out
  pub held : List Item
  -- the tick of the last question for what is due, 0 before the first
  pub asked : ℕ
  -- how many items fit
  pub room : ℕ

-- Each item is before the later ones, no packet waits twice, each is due from the last question to 64 ticks after it,
-- and no more wait than fit.
pub record IsQueue (q : Queue) : Type 0 where
  pub sorted : EachLater IsBefore q.held
  pub once : EachLater AreOthers q.held
  pub soon : All (λ x. (q.asked ≤ x.due) × (x.due ≤ q.asked + 64)) q.held
  pub fits : length q.held ≤ q.room
