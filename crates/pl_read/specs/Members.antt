-- Objects and their members.
use Rattle.std.specs.Prelude.{ℕ, List, [], ◌∷◌, Bool, false, ◌||◌, ⊤, if◌then◌else◌, Option, Some, None, Result, Ok}
use Rattle.std.specs.Str.{bytes_eq}
use Rattle.serde_json.specs.Data.{Data, Members, no_members}
use Rattle.serde_json.specs.Data as json
use Rattle.serde_json.specs.Find.{as_object, get}
use Rattle.pl_read.specs.declared.fault.DocFault.{DocFault}
use Rattle.pl_read.specs.declared.fault.Flaw.TheVariants.{Unknown, Missing, Kind}
use Rattle.pl_read.specs.Paths.{Step, member}
use Rattle.pl_read.specs.Faults.{refused, or_refused, ◌>>=◌}

abbrev pub object_at : List Step → Data → Result Members DocFault
object_at path d = or_refused (as_object d) path Kind

abbrev pub is_among : List ℕ → List (List ℕ) → Bool
is_among name [] = false
is_among name (known ∷ names) = bytes_eq known name || is_among name names

-- each member has one of these names. Members are in the order of their names by bytes, so the least other one is named.
abbrev pub only : List Step → List (List ℕ) → Members → Result ⊤ DocFault
only path names no_members = Ok tt
only path names (json.member name d ms) =
    if is_among name names then only path names ms else refused (member name ∷ path) Unknown

-- the member of this name
abbrev pub required : List Step → List ℕ → Data → Result Data DocFault
required path name d = or_refused (get name d) (member name ∷ path) Missing

-- the member of this name, read in its place
abbrev pub needed : {A : Type 0} → (List Step → Data → Result A DocFault) → List Step → List ℕ → Data → Result A DocFault
needed read path name d = required path name d >>= read (member name ∷ path)

abbrev pub read_if_there : {A : Type 0} → (Data → Result A DocFault) → Option Data → Result (Option A) DocFault
read_if_there read None = Ok None
read_if_there read (Some d) = read d >>= λ x. Ok (Some x)

-- the member of this name, read in its place, if it is there
abbrev pub optional : {A : Type 0} → (List Step → Data → Result A DocFault) → List Step → List ℕ → Data → Result (Option A) DocFault
optional read path name d = read_if_there (read (member name ∷ path)) (get name d)
