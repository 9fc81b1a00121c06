-- Which queries were begun and left.
use Rattle.std.specs.Prelude.{ℕ, List, [], ◌∷◌, Bool, true, false, if◌then◌else◌, Ok, Err}
use Rattle.std.specs.List.{flat_map}
use Rattle.ic_law.specs.declared.history.HubAsk.{HubAsk}
use Rattle.ic_law.specs.declared.history.HubAsk.TheVariants.{Begin, Put, Finish, Take, TakeFrom, Halt, Arrive, Tick, Clear, Leave}
use Rattle.ic_law.specs.declared.history.HubReply.{HubReply}
use Rattle.ic_law.specs.declared.history.HubReply.TheVariants.{Begun, Gave, Took, Came, Ticked, Cleared, Left, Memory}
use Rattle.ic_law.specs.declared.history.Entry.{Entry}

-- ---- queries that ended

abbrev pub was_left : HubReply → Bool
was_left (Begun r) = false
was_left (Gave r) = false
was_left (Took r) = false
was_left (Came how ds) = false
was_left (Ticked r) = false
was_left (Cleared r) = false
was_left (Left (Ok r)) = true
was_left (Left (Err refusal)) = false
was_left Memory = false

abbrev pub left_by : HubAsk → HubReply → List ℕ
left_by (Begin query ends) reply = []
left_by (Put key chunk) reply = []
left_by (Finish key) reply = []
left_by (Take query motion) reply = []
left_by (TakeFrom key) reply = []
left_by (Halt key) reply = []
left_by (Arrive d) reply = []
left_by Tick reply = []
left_by (Clear query) reply = []
left_by (Leave query) reply = if was_left reply then query ∷ [] else []

abbrev pub leaves : Entry → List ℕ
leaves e = left_by e.ask e.reply

-- the queries that were left
abbrev pub left_of : List Entry → List ℕ
left_of h = flat_map leaves h

-- ---- queries that began

abbrev pub was_begun : HubReply → Bool
was_begun (Begun (Ok r)) = true
was_begun (Begun (Err refusal)) = false
was_begun (Gave r) = false
was_begun (Took r) = false
was_begun (Came how ds) = false
was_begun (Ticked r) = false
was_begun (Cleared r) = false
was_begun (Left r) = false
was_begun Memory = false
