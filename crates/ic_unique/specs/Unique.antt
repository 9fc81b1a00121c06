-- Which replies the laws of a hub leave to an ask: one.
use Rattle.std.specs.Prelude.{◌≡◌, ◌≢◌, List, [], ◌∷◌, ◌++◌, map}
use Rattle.ic_law.specs.declared.history.HubAsk.{HubAsk}
use Rattle.ic_law.specs.declared.history.HubReply.{HubReply}
use Rattle.ic_law.specs.declared.history.HubReply.TheVariants.{Memory}
use Rattle.ic_law.specs.declared.history.Entry.{Entry}
use Rattle.ic_law.specs.Points.{Place, Every}
use Rattle.ic_law.specs.Emission.{EmissionLaw}
use Rattle.ic_law.specs.Hub.{HubLaw}

-- after this history the laws allow this reply to the ask, and it isn't Memory
pub record MayReply (place : Place) (h : List Entry) (ask : HubAsk) (reply : HubReply) : Type 0 where
  pub law : HubLaw place (h ++ record { ask = ask; reply = reply } ∷ [])
  pub emission : EmissionLaw place (h ++ record { ask = ask; reply = reply } ∷ [])
  pub given : reply ≢ Memory

-- two replies that the laws allow to one ask after one history are the same reply
abbrev pub OneReply : Type 0
OneReply = (place : Place) (h : List Entry) (ask : HubAsk) (r s : HubReply) → MayReply place h ask r → MayReply place h ask s → r ≡ s

abbrev pub ask_of : Entry → HubAsk
ask_of e = e.ask

-- a history that keeps both laws, and in which no reply is Memory
pub record IsRun (place : Place) (h : List Entry) : Type 0 where
  pub law : HubLaw place h
  pub emission : EmissionLaw place h
  pub given : Every (λ before e. e.reply ≢ Memory) h

-- two such histories with the same asks are the same history
abbrev pub OneHistory : Type 0
OneHistory = (place : Place) (h k : List Entry) → IsRun place h → IsRun place k → map ask_of h ≡ map ask_of k → h ≡ k
