-- The packets that wait for an answer, and the order in which their time runs out.
use Rattle.std.specs.Prelude.{◌≡◌, ◌≢◌, ℕ, Bool, ◌&&◌, ◌==◌, nat_le}
use Rattle.std.specs.declared.cmp.Ordering.{Ordering}
use Rattle.std.specs.declared.cmp.Ordering.TheVariants.{Less}
use Rattle.std.specs.Ordering.{nat_cmp, ordering_then}
use Rattle.ic_expire.specs.declared.item.Item.{Item}
use Rattle.ic_expire.specs.declared.dues.Due.{Due}

-- ---- their order

-- the earlier due first, then the lesser connection, then the lesser number
abbrev pub item_cmp : Item → Item → Ordering
item_cmp a b = ordering_then (nat_cmp a.due b.due) (ordering_then (nat_cmp a.conn b.conn) (nat_cmp a.seq b.seq))

abbrev pub IsBefore : Item → Item → Type 0
IsBefore a b = item_cmp a b ≡ Less

-- ---- what an item is about

-- the packet that waits
abbrev pub packet_of : Item → Due
packet_of x = record { conn = x.conn; seq = x.seq }

-- a and b are about two packets
abbrev pub AreOthers : Item → Item → Type 0
AreOthers a b = packet_of a ≢ packet_of b

-- its time is over by this tick
abbrev pub is_due : ℕ → Item → Bool
is_due now x = nat_le x.due now

-- it is about a packet of this connection
abbrev pub is_of : ℕ → Item → Bool
is_of conn x = x.conn == conn

-- it is about a packet of this connection with this number or a lesser one
abbrev pub is_upto : ℕ → ℕ → Item → Bool
is_upto conn upto x = is_of conn x && nat_le x.seq upto
