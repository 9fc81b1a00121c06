-- What a call adds to a history.
use Rattle.std.specs.Prelude.{List, [], ◌∷◌}
use Rattle.ic_law.specs.declared.history.HubAsk.{HubAsk}
use Rattle.ic_law.specs.declared.history.HubReply.{HubReply}
use Rattle.ic_law.specs.declared.history.HubReply.TheVariants.{Begun, Gave, Took, Came, Ticked, Cleared, Left, Memory}
use Rattle.ic_law.specs.declared.history.Entry.{Entry}

-- its entry, and nothing if it found no memory
abbrev pub noted : HubAsk → HubReply → List Entry
noted ask (Begun r) = record { ask = ask; reply = Begun r } ∷ []
noted ask (Gave r) = record { ask = ask; reply = Gave r } ∷ []
noted ask (Took r) = record { ask = ask; reply = Took r } ∷ []
noted ask (Came how ds) = record { ask = ask; reply = Came how ds } ∷ []
noted ask (Ticked r) = record { ask = ask; reply = Ticked r } ∷ []
noted ask (Cleared r) = record { ask = ask; reply = Cleared r } ∷ []
noted ask (Left r) = record { ask = ask; reply = Left r } ∷ []
noted ask Memory = []
