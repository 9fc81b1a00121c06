-- What lists of a plan are made of: positions, sort keys, pairs of columns, calls.
use Rattle.std.specs.Prelude.{ℕ, List, ◌∷◌, codes, Bool, true, false, if◌then◌else◌, Option, Some, None, Result, Ok}
use Rattle.std.specs.Str.{bytes_eq}
use Rattle.serde_json.specs.Data.{Data, Items, no_items, item}
use Rattle.serde_json.specs.Find.{as_array}
use Rattle.ic_row.specs.declared.order.Key.{Key}
use Rattle.pl_tree.specs.declared.node.Pair.{Pair}
use Rattle.pl_tree.specs.declared.node.Call.{Call}
use Rattle.pl_tree.specs.declared.node.Call.TheVariants as call
use Rattle.pl_read.specs.declared.fault.DocFault.{DocFault}
use Rattle.pl_read.specs.declared.fault.Flaw.TheVariants.{Kind, Range}
use Rattle.pl_read.specs.declared.list.Function.{Function}
use Rattle.pl_read.specs.declared.list.Function.TheVariants.{Count, Sum, Min, Max}
use Rattle.pl_read.specs.Paths.{Step, index}
use Rattle.pl_read.specs.Faults.{refused, or_refused, ◌>>=◌}
use Rattle.pl_read.specs.Members.{needed, optional}
use Rattle.pl_read.specs.Values.{position_at, text_at, list_at, pair_at}

-- the list of this name: at most 1024 elements
abbrev pub list_in : {A : Type 0} → (List Step → Data → Result A DocFault) → ℕ → List Step → List ℕ → Data → Result (List A) DocFault
list_in read least path name d = needed (list_at read least 1024) path name d

abbrev pub list_if_there : {A : Type 0} → (List Step → Data → Result A DocFault) → ℕ → List Step → List ℕ → Data → Result (Option (List A)) DocFault
list_if_there read least path name d = optional (list_at read least 1024) path name d

-- ---- sort keys: `[position, "asc"]` or `[position, "desc"]`

abbrev pub is_down : List ℕ → Option Bool
is_down word = if bytes_eq word (codes "asc") then Some false else (if bytes_eq word (codes "desc") then Some true else None)

abbrev pub direction_at : List Step → Data → Result Bool DocFault
direction_at path d = text_at path d >>= λ word. or_refused (is_down word) path Kind

abbrev pub key_at : List Step → Data → Result Key DocFault
key_at path d =
    pair_at path d >>= λ pair.
    position_at (index 0 ∷ path) pair.0 >>= λ column.
    direction_at (index 1 ∷ path) pair.1 >>= λ down.
    Ok (record { column = column; down = down })

-- ---- `[left position, right position]`

abbrev pub columns_at : List Step → Data → Result Pair DocFault
columns_at path d =
    pair_at path d >>= λ pair.
    position_at (index 0 ∷ path) pair.0 >>= λ left.
    position_at (index 1 ∷ path) pair.1 >>= λ right.
    Ok (record { left = left; right = right })

-- ---- calls: `["count"]`, or a word and the position of a column

abbrev pub function_of : List ℕ → Option Function
function_of word =
    if bytes_eq word (codes "count") then Some Count else
    (if bytes_eq word (codes "sum") then Some Sum else
    (if bytes_eq word (codes "min") then Some Min else
    (if bytes_eq word (codes "max") then Some Max else None)))

abbrev pub function_at : List Step → Data → Result Function DocFault
function_at path d = text_at path d >>= λ word. or_refused (function_of word) path Kind

abbrev pub call_of : Function → ℕ → Call
call_of Count c = call.CountOf c
call_of Sum c = call.Sum c
call_of Min c = call.Min c
call_of Max c = call.Max c

-- rows are counted without a column
abbrev pub bare_at : Function → List Step → Result Call DocFault
bare_at Count path = Ok call.Count
bare_at Sum path = refused path Range
bare_at Min path = refused path Range
bare_at Max path = refused path Range

-- what stands after the word
abbrev pub called_at : Function → List Step → Items → Result Call DocFault
called_at f path no_items = bare_at f path
called_at f path (item d no_items) = position_at (index 1 ∷ path) d >>= λ c. Ok (call_of f c)
called_at f path (item d (item e ds)) = refused path Range

abbrev pub called_in : List Step → Items → Result Call DocFault
called_in path no_items = refused path Range
called_in path (item word ds) = function_at (index 0 ∷ path) word >>= λ f. called_at f path ds

abbrev pub call_at : List Step → Data → Result Call DocFault
call_at path d = or_refused (as_array d) path Kind >>= called_in path
