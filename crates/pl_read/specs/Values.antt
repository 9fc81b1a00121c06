-- Numbers, texts and arrays.
use Rattle.std.specs.Prelude.{ℕ, ◌+◌, List, [], ◌∷◌, if◌then◌else◌, Result, Ok}
use Rattle.serde_json.specs.Data.{Num, unsigned, negative, float, Data, Items, no_items, item}
use Rattle.serde_json.specs.Events.{items_len}
use Rattle.serde_json.specs.Find.{as_array, as_number, as_str}
use Rattle.ic_base.specs.Settings.{is_within}
use Rattle.pl_read.specs.declared.fault.DocFault.{DocFault}
use Rattle.pl_read.specs.declared.fault.Flaw.TheVariants.{Kind, Range}
use Rattle.pl_read.specs.Paths.{Step, index}
use Rattle.pl_read.specs.Faults.{refused, or_refused, ◌>>=◌}

-- a float is another kind of value, also one that is whole
abbrev pub natural : ℕ → ℕ → List Step → Num → Result ℕ DocFault
natural least greatest path (unsigned n) = if is_within least n greatest then Ok n else refused path Range
natural least greatest path (negative z) = refused path Range
natural least greatest path (float x) = refused path Kind

abbrev pub number_at : ℕ → ℕ → List Step → Data → Result ℕ DocFault
number_at least greatest path d = or_refused (as_number d) path Kind >>= natural least greatest path

-- of a column, from 0; whether it is there is judged with the plan
abbrev pub position_at : List Step → Data → Result ℕ DocFault
position_at path d = number_at 0 65535 path d

abbrev pub text_at : List Step → Data → Result (List ℕ) DocFault
text_at path d = or_refused (as_str d) path Kind

-- ---- arrays

abbrev pub counted : ℕ → ℕ → List Step → Items → Result Items DocFault
counted least greatest path ds = if is_within least (items_len ds) greatest then Ok ds else refused path Range

abbrev pub array_at : ℕ → ℕ → List Step → Data → Result Items DocFault
array_at least greatest path d = or_refused (as_array d) path Kind >>= counted least greatest path

-- the items from number i on, each read at its place
abbrev pub each : {A : Type 0} → (List Step → Data → Result A DocFault) → List Step → ℕ → Items → Result (List A) DocFault
each read path i no_items = Ok []
each read path i (item d ds) = read (index i ∷ path) d >>= λ x. each read path (i + 1) ds >>= λ xs. Ok (x ∷ xs)

-- an array of so many, judged before what is in it
abbrev pub list_at : {A : Type 0} → (List Step → Data → Result A DocFault) → ℕ → ℕ → List Step → Data → Result (List A) DocFault
list_at read least greatest path d = array_at least greatest path d >>= each read path 0

-- ---- arrays of two

abbrev pub two_of : List Step → Items → Result (Data × Data) DocFault
two_of path no_items = refused path Range
two_of path (item a no_items) = refused path Range
two_of path (item a (item b no_items)) = Ok (a, b)
two_of path (item a (item b (item c ds))) = refused path Range

abbrev pub pair_at : List Step → Data → Result (Data × Data) DocFault
pair_at path d = or_refused (as_array d) path Kind >>= two_of path
