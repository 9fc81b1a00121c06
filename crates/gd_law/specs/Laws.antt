-- Laws of every session.
use Rattle.std.specs.Prelude.{◌≡◌, ◌↔◌, ℕ, ◌≤◌, ℤ, List}
use Rattle.ic_base.specs.declared.keys.ConnKey.{ConnKey}
use Rattle.ic_base.specs.declared.settings.Settings.{Settings}
use Rattle.ic_row.specs.declared.value.Value.{Value}
use Rattle.ic_law.specs.declared.history.Entry.{Entry}
use Rattle.ic_law.specs.Points.{place_at}
use Rattle.ic_law.specs.Hub.{HubLaw}
use Rattle.ic_law.specs.Putting.{chunks_put_of, IsFinished}
use Rattle.ic_law.specs.Taking.{payloads_of, IsWhole}
use Rattle.ic_law.specs.Streams.{NetworkLaw, history_of}
use Rattle.gd_work.specs.Sending as sending
use Rattle.gd_work.specs.Taking.{parcels_of, payloads_from}
use Rattle.ic_law.specs.Logs.{log_of}
use Rattle.gd_law.specs.Sessions.{IsSession}
use Rattle.gd_law.specs.Answers.{IsAnswered}
use Rattle.gd_law.specs.Playing.{AreOurs, AreAllOurs, IsPlayed, AllGrowPast}

-- ---- ends

-- if the network delivers only what was emitted, and each hub obeys its law, then an end of stream that was taken had
-- been put
abbrev pub WholeWasFinished : Type 0
WholeWasFinished =
    (nodes : List (List Entry)) (session : ℕ) (settings : Settings)
    → NetworkLaw nodes → ((segment : ℤ) → HubLaw (place_at session segment settings) (history_of nodes segment))
    → (c : ConnKey) → c.session ≡ session → IsWhole c (history_of nodes c.to) → IsFinished c (history_of nodes c.from)

-- ---- readings

-- at a connection's sending end, the history says the same of what was put as the worker's log
pub record SaysPut (c : ConnKey) (h : List Entry) : Type 0 where
  pub chunks : chunks_put_of c h ≡ sending.puts_of c.motion c.to (log_of c.query h)
  pub finished : IsFinished c h ↔ sending.IsFinished c.motion c.to (log_of c.query h)

abbrev pub PutsAgree : Type 0
PutsAgree =
    (session : ℕ) (at : ℤ) (settings : Settings) (h : List Entry) (c : ConnKey)
    → AreOurs session at settings h → c.session ≡ session → c.from ≡ at → SaysPut c h

-- at its receiving end so does what was taken, if the hub obeys its law: a parcel is from the segment that was asked
-- for
abbrev pub TakesAgree : Type 0
TakesAgree =
    (session : ℕ) (at : ℤ) (settings : Settings) (h : List Entry) (c : ConnKey)
    → HubLaw (place_at session at settings) h → AreOurs session at settings h → c.session ≡ session → c.to ≡ at
    → payloads_of c h ≡ payloads_from c.from (parcels_of c.motion (log_of c.query h))

-- ---- queries

-- a query whose workers are done is answered
abbrev pub PlayedIsAnswered : Type 0
PlayedIsAnswered =
    (session segments query : ℕ) (settings : Settings) (parts : List (List (List Value))) (nodes : List (List Entry)) (rows : List (List Value))
    → IsSession session segments settings nodes → AreAllOurs session settings nodes
    → 128 ≤ settings.packet → settings.packet ≤ 65507
    → IsPlayed session query settings.packet parts nodes rows
    → IsAnswered session query settings.packet parts nodes rows

-- and stays so while the workers of other queries make calls
abbrev pub PlayedStays : Type 0
PlayedStays =
    (session query packet : ℕ) (parts : List (List (List Value))) (nodes now : List (List Entry)) (rows : List (List Value))
    → IsPlayed session query packet parts nodes rows → AllGrowPast query nodes now
    → IsPlayed session query packet parts now rows
