-- What each call makes of a node.
use Rattle.std.specs.Prelude.{◌≡◌, ℕ, ◌≤◌, List, [], ◌∷◌, ◌++◌, length, Bool, true, false, Ok, Err}
use Rattle.std.specs.List.{AllByRecursion, flat_map}
use Rattle.ic_base.specs.declared.keys.ConnEnd.{ConnEnd}
use Rattle.ic_base.specs.declared.keys.BeginNo.{BeginNo}
use Rattle.ic_base.specs.declared.keys.BeginNo.TheVariants as begin
use Rattle.ic_base.specs.declared.datagram.Datagram.{Datagram}
use Rattle.ic_law.specs.declared.history.Arrived.{Arrived}
use Rattle.ic_law.specs.declared.history.HubAsk.{HubAsk}
use Rattle.ic_law.specs.declared.history.HubAsk.TheVariants.{Begin, Put, Finish, Take, TakeFrom, Halt, Arrive, Tick, Clear, Leave}
use Rattle.ic_law.specs.declared.history.TickNo.{TickNo}
use Rattle.ic_law.specs.declared.history.TickNo.TheVariants as tick
use Rattle.ic_law.specs.declared.history.LeaveNo.{LeaveNo}
use Rattle.ic_law.specs.declared.history.Entry.{Entry}
use Rattle.ic_law.specs.History.{arrived_of}
use Rattle.ic_law.specs.Queries.{left_of}
use Rattle.ic_hub.specs.Entries.{begin_entry, arrive_entry, tick_entry, leave_entry}
use Rattle.ic_hub.specs.Calls.{SamePlace}
use Rattle.ic_law.specs.Logs.{log_of, IsOf}
use Rattle.ic_port.specs.Noding.{Noding}

-- ---- queries that are asked to begin

-- the query that an ask is to begin, if it is to begin one
abbrev pub begin_in : HubAsk → List ℕ
begin_in (Begin query ends) = query ∷ []
begin_in (Put key chunk) = []
begin_in (Finish key) = []
begin_in (Take query motion) = []
begin_in (TakeFrom key) = []
begin_in (Halt key) = []
begin_in (Arrive d) = []
begin_in Tick = []
begin_in (Clear query) = []
begin_in (Leave query) = []

abbrev pub begins : Entry → List ℕ
begins e = begin_in e.ask

-- the queries that were asked to begin
abbrev pub begins_of : List Entry → List ℕ
begins_of h = flat_map begins h

-- ---- a worker's call

-- At most one entry more, of an ask of a worker of this query: no datagram came with it, and no query was left or asked to
-- begin.
pub record Works (a b : Noding) : Type 0 where
  pub place : SamePlace a.hub b.hub
  pub query : b.query ≡ a.query
  pub ends : b.ends ≡ a.ends
  pub more : List Entry
  pub grown : b.entries ≡ a.entries ++ more
  pub few : length more ≤ 1
  pub are_of : AllByRecursion (λ e. IsOf a.query e.ask) more
  pub none_came : arrived_of more ≡ []
  pub none_left : left_of more ≡ []
  pub none_begun : begins_of more ≡ []

-- ---- the other calls

-- this entry more, and all else but the hub's state as before
pub record Adds (entry : Entry) (a b : Noding) : Type 0 where
  pub place : SamePlace a.hub b.hub
  pub query : b.query ≡ a.query
  pub ends : b.ends ≡ a.ends
  pub entries : b.entries ≡ a.entries ++ entry ∷ []

-- the query began with these ends; its worker has no log yet
pub record Begins (query : ℕ) (ends : List ConnEnd) (a b : Noding) : Type 0 where
  pub place : SamePlace a.hub b.hub
  pub query_is : b.query ≡ query
  pub ends_are : b.ends ≡ ends
  pub entries : b.entries ≡ a.entries ++ begin_entry query ends (Ok tt) ∷ []
  pub log : log_of query b.entries ≡ []

-- the hub refused to begin it, or nothing happened since it found no memory
abbrev pub BeginRefused : ℕ → List ConnEnd → BeginNo → Noding → Noding → Type 0
BeginRefused query ends (begin.Old top) a b = Adds (begin_entry query ends (Err (begin.Old top))) a b
BeginRefused query ends begin.Twice a b = Adds (begin_entry query ends (Err begin.Twice)) a b
BeginRefused query ends begin.Memory a b = b ≡ a

-- the hub was handed the datagram
pub record Arrives (d : Datagram) (a b : Noding) : Type 0 where
  pub how : Arrived
  pub emitted : List Datagram
  pub adds : Adds (arrive_entry d (Ok (how, emitted))) a b

-- the hub's clock went on
pub record Ticks (a b : Noding) : Type 0 where
  pub emitted : List Datagram
  pub adds : Adds (tick_entry (Ok emitted)) a b

-- the hub refused to let its clock go on, or nothing happened since it found no memory
abbrev pub TickRefused : TickNo → Noding → Noding → Type 0
TickRefused (tick.Spent key seq tries) a b = Adds (tick_entry (Err (tick.Spent key seq tries))) a b
TickRefused tick.Memory a b = b ≡ a

-- the query was left, and has no ends here any more
pub record Leaves (a b : Noding) : Type 0 where
  pub place : SamePlace a.hub b.hub
  pub query : b.query ≡ a.query
  pub ends : b.ends ≡ []
  pub entries : b.entries ≡ a.entries ++ leave_entry a.query (Ok tt) ∷ []

-- the hub refused to leave it
pub record Stays (a b : Noding) : Type 0 where
  pub refusal : LeaveNo
  pub adds : Adds (leave_entry a.query (Err refusal)) a b

-- the query was left if the answer is true
abbrev pub LeftOrNot : Bool → Noding → Noding → Type 0
LeftOrNot true a b = Leaves a b
LeftOrNot false a b = Stays a b
