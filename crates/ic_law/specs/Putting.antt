-- What was put on a connection.
use Rattle.std.specs.Prelude.{◌≡◌, ℕ, List, [], ◌∷◌, Bool, true, false, ◌&&◌, if◌then◌else◌, Ok, Err}
use Rattle.std.specs.List.{flat_map, list_any}
use Rattle.ic_base.specs.declared.keys.ConnKey.{ConnKey}
use Rattle.ic_base.specs.Keys.{key_eq}
use Rattle.ic_law.specs.declared.history.HubAsk.{HubAsk}
use Rattle.ic_law.specs.declared.history.HubAsk.TheVariants.{Begin, Put, Finish, Take, TakeFrom, Halt, Arrive, Tick, Clear, Leave}
use Rattle.ic_law.specs.declared.history.HubReply.{HubReply}
use Rattle.ic_law.specs.declared.history.HubReply.TheVariants.{Begun, Gave, Took, Came, Ticked, Cleared, Left, Memory}
use Rattle.ic_law.specs.declared.history.Entry.{Entry}

abbrev pub was_given : HubReply → Bool
was_given (Begun r) = false
was_given (Gave (Ok ds)) = true
was_given (Gave (Err refusal)) = false
was_given (Took r) = false
was_given (Came how ds) = false
was_given (Ticked r) = false
was_given (Cleared r) = false
was_given (Left r) = false
was_given Memory = false

abbrev pub chunk_put : ConnKey → HubAsk → HubReply → List (List ℕ)
chunk_put c (Begin query ends) reply = []
chunk_put c (Put key chunk) reply = if key_eq key c && was_given reply then chunk ∷ [] else []
chunk_put c (Finish key) reply = []
chunk_put c (Take query motion) reply = []
chunk_put c (TakeFrom key) reply = []
chunk_put c (Halt key) reply = []
chunk_put c (Arrive d) reply = []
chunk_put c Tick reply = []
chunk_put c (Clear query) reply = []
chunk_put c (Leave query) reply = []

abbrev pub puts : ConnKey → Entry → List (List ℕ)
puts c e = chunk_put c e.ask e.reply

-- the chunks that were put on c, as bytes
abbrev pub chunks_put_of : ConnKey → List Entry → List (List ℕ)
chunks_put_of c h = flat_map (puts c) h

abbrev pub is_finish : ConnKey → HubAsk → HubReply → Bool
is_finish c (Begin query ends) reply = false
is_finish c (Put key chunk) reply = false
is_finish c (Finish key) reply = key_eq key c && was_given reply
is_finish c (Take query motion) reply = false
is_finish c (TakeFrom key) reply = false
is_finish c (Halt key) reply = false
is_finish c (Arrive d) reply = false
is_finish c Tick reply = false
is_finish c (Clear query) reply = false
is_finish c (Leave query) reply = false

abbrev pub finishes : ConnKey → Entry → Bool
finishes c e = is_finish c e.ask e.reply

abbrev pub finished_of : ConnKey → List Entry → Bool
finished_of c h = list_any (finishes c) h

-- the end of stream was put on c
abbrev pub IsFinished : ConnKey → List Entry → Type 0
IsFinished c h = finished_of c h ≡ true
