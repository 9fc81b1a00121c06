-- What follows of a queue's steps for one packet, and for one connection.
use Rattle.std.specs.Prelude.{◌≡◌, ◌≢◌, ◌≤◌, ◌↔◌, ◌⊎◌, ℕ, List, Bool, false, Contains, AllPairs}
use Rattle.ic_expire.specs.declared.item.Item.{Item}
use Rattle.ic_expire.specs.declared.dues.Due.{Due}
use Rattle.ic_expire.specs.Items.{IsBefore, AreOthers, is_due, is_upto}
use Rattle.ic_expire.specs.Queue.{EachLater, with_item, without, held_of, dues_of, IsHeld}

-- ---- one packet

-- with one more item, what is held is this one and what was held
abbrev pub PutHolds : Type 0
PutHolds = (held : List Item) (x y : Item) → Contains (with_item x held) y ↔ ((y ≡ x) ⊎ Contains held y)

-- without the items of a test, what is held is what was held and doesn't pass it
abbrev pub RestHolds : Type 0
RestHolds = (held : List Item) (test : Item → Bool) (y : Item) → Contains (without test held) y ↔ (Contains held y × (test y ≡ false))

-- the packets that a question gives are those whose time is over
abbrev pub DueGives : Type 0
DueGives = (held : List Item) (now : ℕ) (p : Due)
    → Contains (dues_of now held) p ↔ ((due : ℕ) × Contains held (record { due = due; conn = p.conn; seq = p.seq }) × (due ≤ now))

-- a question gives a packet once, and it isn't held afterwards, if a packet waits once
abbrev pub DueTakes : Type 0
DueTakes = (held : List Item) (now : ℕ) → EachLater AreOthers held
    → AllPairs (λ p q. p ≢ q) (dues_of now held)
    × ((p : Due) → Contains (dues_of now held) p → IsHeld p.conn p.seq (without (is_due now) held) → ⊥)

-- ---- one connection

-- one more item of a connection leaves what is held of every other
abbrev pub PutKeepsOthers : Type 0
PutKeepsOthers = (held : List Item) (x : Item) (conn : ℕ) → EachLater IsBefore held → conn ≢ x.conn → held_of conn (with_item x held) ≡ held_of conn held

-- a cut of a connection leaves what is held of every other
abbrev pub CutKeepsOthers : Type 0
CutKeepsOthers = (held : List Item) (cut upto conn : ℕ) → conn ≢ cut → held_of conn (without (is_upto cut upto) held) ≡ held_of conn held
