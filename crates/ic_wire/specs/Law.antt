-- A network as a machine: its asks and replies.
use Rattle.std.specs.Prelude.{◌≡◌, ◌⊎◌, List, [], ◌∷◌, map, ⊤}
use Rattle.std.specs.List.{flat_map}
use Rattle.ic_turn.specs.declared.entry.Entry.{Entry}
use Rattle.ic_turn.specs.Entries.{Every}
use Rattle.ic_base.specs.declared.datagram.Datagram.{Datagram}
use Rattle.ic_wire.specs.declared.machine.Setting.{Setting}
use Rattle.ic_wire.specs.declared.machine.WireAsk.{WireAsk}
use Rattle.ic_wire.specs.declared.machine.WireAsk.TheVariants.{Send, Receive}
use Rattle.ic_wire.specs.declared.machine.WireReply.{WireReply}
use Rattle.ic_wire.specs.declared.machine.WireReply.TheVariants.{Taken, Came, Idle, Quiet, Memory}
use Rattle.ic_wire.specs.declared.received.Received.{Received}
use Rattle.ic_wire.specs.declared.received.Received.TheVariants as received_
use Rattle.ic_wire.specs.Wires.{Wire, Node, received}
use Rattle.ic_wire.specs.Calls.{Call, Sends, Receives, wire_after}

-- what a network keeps for good
abbrev pub setting_of : Wire → Setting
setting_of w = record { fate = w.fate; nodes = map (λ (n : Node). n.at) w.nodes }

-- ---- the calls that were made

-- a send that found no memory is no call
abbrev pub send_call : Datagram → WireReply → List Call
send_call d Taken = Sends d ∷ []
send_call d (Came e) = []
send_call d Idle = []
send_call d Quiet = []
send_call d Memory = []

abbrev pub call_by : WireAsk → WireReply → List Call
call_by (Send d) reply = send_call d reply
call_by (Receive at) reply = Receives at ∷ []

abbrev pub call_in : Entry WireAsk WireReply → List Call
call_in e = call_by e.ask e.reply

abbrev pub calls_of : List (Entry WireAsk WireReply) → List Call
calls_of entries = flat_map call_in entries

-- ---- what may be replied

abbrev pub reply_of : Received → WireReply
reply_of (received_.Came d) = Came d
reply_of received_.Idle = Idle
reply_of received_.Quiet = Quiet

-- whatever came before, a send is taken or finds no memory, and a receive brings what goes to its node, or nothing
abbrev pub MayReply : WireAsk → WireReply → Type 0
MayReply (Send d) Taken = ⊤
MayReply (Send d) Memory = ⊤
MayReply (Send d) _ = ⊥
MayReply (Receive at) (Came d) = d.to ≡ at
MayReply (Receive at) Idle = ⊤
MayReply (Receive at) Quiet = ⊤
MayReply (Receive at) _ = ⊥

-- the reply to an ask of this network: to a receive just one
abbrev pub IsReply : Wire → WireAsk → WireReply → Type 0
IsReply w (Send d) reply = (reply ≡ Taken) ⊎ (reply ≡ Memory)
IsReply w (Receive at) reply = reply ≡ reply_of (received at w)

-- ---- the law

abbrev pub wire_for : Setting → List (Entry WireAsk WireReply) → Wire
wire_for kept entries = wire_after kept.fate kept.nodes (calls_of entries)

-- each reply is one of the network after the calls before it
abbrev pub IsWireLawful : Setting → List (Entry WireAsk WireReply) → Type 0
IsWireLawful kept entries = Every (λ before e. IsReply (wire_for kept before) e.ask e.reply) entries

-- the network is the one after these entries, which are lawful
pub record StandsFor (kept : Setting) (w : Wire) (entries : List (Entry WireAsk WireReply)) : Type 0 where
  pub wire_is : w ≡ wire_for kept entries
  pub lawful : IsWireLawful kept entries
