-- Settings, each with its range and its default.
use Rattle.std.specs.Prelude.{ℕ, List, [], ◌∷◌, codes, if◌then◌else◌, Option, Some, None, unwrap_or, Result, Ok}
use Rattle.std.specs.Str.{bytes_eq}
use Rattle.serde_json.specs.Data.{Data}
use Rattle.ic_base.specs.declared.settings.Settings.{Settings}
use Rattle.ic_base.specs.declared.settings.Flow.{Flow}
use Rattle.ic_base.specs.declared.settings.Flow.TheVariants.{Loss, Capacity}
use Rattle.ic_base.specs.Settings.{default_settings}
use Rattle.pl_read.specs.declared.fault.DocFault.{DocFault}
use Rattle.pl_read.specs.declared.fault.Flaw.TheVariants.{Kind}
use Rattle.pl_read.specs.Paths.{Step}
use Rattle.pl_read.specs.Faults.{or_refused, ◌>>=◌}
use Rattle.pl_read.specs.Members.{object_at, only, optional}
use Rattle.pl_read.specs.Values.{number_at, text_at}

abbrev pub number_or : ℕ → ℕ → ℕ → List Step → List ℕ → Data → Result ℕ DocFault
number_or least greatest default path name d = optional (number_at least greatest) path name d >>= λ n. Ok (unwrap_or n default)

abbrev pub flow_of : List ℕ → Option Flow
flow_of word = if bytes_eq word (codes "loss") then Some Loss else (if bytes_eq word (codes "capacity") then Some Capacity else None)

abbrev pub flow_at : List Step → Data → Result Flow DocFault
flow_at path d = text_at path d >>= λ word. or_refused (flow_of word) path Kind

abbrev pub flow_in : List Step → Data → Result Flow DocFault
flow_in path d = optional flow_at path (codes "flow") d >>= λ flow. Ok (unwrap_or flow Loss)

abbrev pub settings_at : List Step → Data → Result Settings DocFault
settings_at path d =
    object_at path d >>= λ ms.
    only path (codes "packet" ∷ codes "receive_depth" ∷ codes "send_depth" ∷ codes "retries" ∷ codes "flow" ∷ []) ms >>= λ _.
    number_or 128 65507 8192 path (codes "packet") d >>= λ packet.
    number_or 1 256 4 path (codes "receive_depth") d >>= λ receive_depth.
    number_or 1 256 2 path (codes "send_depth") d >>= λ send_depth.
    number_or 1 1000 20 path (codes "retries") d >>= λ retries.
    flow_in path d >>= λ flow.
    Ok (record { packet = packet; receive_depth = receive_depth; send_depth = send_depth; retries = retries; flow = flow })

-- a document without settings has the default ones
abbrev pub settings_in : List Step → Data → Result Settings DocFault
settings_in path d = optional settings_at path (codes "settings") d >>= λ settings. Ok (unwrap_or settings default_settings)
