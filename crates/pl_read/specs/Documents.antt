-- The document whole, and what bytes read as.
use Rattle.std.specs.Prelude.{ℕ, List, [], ◌∷◌, codes, if◌then◌else◌, Option, None, Result, Ok}
use Rattle.std.specs.Str.{is_utf8}
use Rattle.serde_json.specs.Data.{Data}
use Rattle.serde_json.specs.Read.{read}
use Rattle.pl_read.specs.declared.document.Document.{Document}
use Rattle.pl_read.specs.declared.fault.DocFault.{DocFault}
use Rattle.pl_read.specs.declared.fault.Flaw.TheVariants.{NoJson}
use Rattle.pl_read.specs.Paths.{Step}
use Rattle.pl_read.specs.Faults.{or_refused, ◌>>=◌}
use Rattle.pl_read.specs.Members.{object_at, only, needed}
use Rattle.pl_read.specs.Values.{number_at}
use Rattle.pl_read.specs.Settings.{settings_in}
use Rattle.pl_read.specs.Tables.{tables_at}
use Rattle.pl_read.specs.Nodes.{plans_at}

abbrev pub document_at : List Step → Data → Result Document DocFault
document_at path d =
    object_at path d >>= λ ms.
    only path (codes "session" ∷ codes "segments" ∷ codes "settings" ∷ codes "tables" ∷ codes "queries" ∷ []) ms >>= λ _.
    needed (number_at 1 2147483647) path (codes "session") d >>= λ session.
    needed (number_at 1 64) path (codes "segments") d >>= λ segments.
    settings_in path d >>= λ settings.
    needed tables_at path (codes "tables") d >>= λ tables.
    needed plans_at path (codes "queries") d >>= λ queries.
    Ok (record { session = session; segments = segments; settings = settings; tables = tables; queries = queries })

-- the value of JSON that bytes write, if they are text
abbrev pub value_of : List ℕ → Option Data
value_of bytes = if is_utf8 bytes then read bytes else None

-- the document that bytes say, or the first fault in it
abbrev pub reading : List ℕ → Result Document DocFault
reading bytes = or_refused (value_of bytes) [] NoJson >>= document_at []
