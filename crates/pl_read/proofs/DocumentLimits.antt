-- What every document that is read keeps to.
use Rattle.std.proofs.Common.{◌≡◌, ℕ, ◌≤◌, List, [], ◌∷◌, codes, Result, Ok, Err, IfOk, subst, arith}
use Rattle.std.specs.Prelude.{unwrap_or}
use Rattle.serde_json.specs.Data.{Data}
use Rattle.serde_json.specs.Find.{get}
use Rattle.ic_base.specs.declared.settings.Settings.{Settings}
use Rattle.ic_base.specs.Settings.{AreChecked, default_settings}
use Rattle.pl_read.specs.declared.document.Document.{Document}
use Rattle.pl_read.specs.declared.fault.DocNo.{DocNo}
use Rattle.pl_read.specs.declared.fault.Flaw.TheVariants.{NoJson}
use Rattle.pl_read.specs.Paths.{Step, member}
use Rattle.pl_read.specs.Faults.{Gives, or_refused}
use Rattle.pl_read.specs.Members.{object_at, only, needed, optional}
use Rattle.pl_read.specs.Values.{number_at}
use Rattle.pl_read.specs.Settings.{number_or, flow_in, settings_at, settings_in}
use Rattle.pl_read.specs.Tables.{tables_at}
use Rattle.pl_read.specs.Nodes.{plan_at, plans_at}
use Rattle.pl_read.specs.Documents.{document_at, value_of, reading}
use Rattle.pl_read.specs.Limits.{IsDocument}
use Rattle.pl_read.proofs.Steps.{same_Ok, came, found, if_there, number_is, list_length}
use Rattle.pl_read.proofs.PlanLimits.{plans_are_plans}
use Rattle.pl_read.proofs.TableLimits.{tables_are_tables, schemas_are_tables, rows_have_widths, values_have_kinds}

-- ---- settings

number_or_is : (least greatest default : ℕ) (path : List Step) (name : List ℕ) (d : Data) (n : ℕ) → least ≤ default → default ≤ greatest → number_or least greatest default path name d ≡ Ok n → (least ≤ n) × (n ≤ greatest)
number_or_is least greatest default path name d n low high e =
    came (optional (number_at least greatest) path name d) (λ o. Ok (unwrap_or o default)) n e (λ o is e1.
    subst (λ k. (least ≤ k) × (k ≤ greatest)) (same_Ok (unwrap_or o default) n e1)
    (if_there (λ x. (least ≤ unwrap_or x default) × (unwrap_or x default ≤ greatest)) (number_at least greatest (member name ∷ path)) (get name d) o is (low, high) (λ v m read. number_is least greatest (member name ∷ path) v m read)))

settings_are_checked : (path : List Step) (d : Data) (s : Settings) → settings_at path d ≡ Ok s → AreChecked s
settings_are_checked path d s e =
    came (object_at path d) _ s e (λ ms _ e1.
    came (only path (codes "packet" ∷ codes "receive_depth" ∷ codes "send_depth" ∷ codes "retries" ∷ codes "flow" ∷ []) ms) _ s e1 (λ _ _ e2.
    came (number_or 128 65507 8192 path (codes "packet") d) _ s e2 (λ packet is1 e3.
    came (number_or 1 256 4 path (codes "receive_depth") d) _ s e3 (λ receive_depth is2 e4.
    came (number_or 1 256 2 path (codes "send_depth") d) _ s e4 (λ send_depth is3 e5.
    came (number_or 1 1000 20 path (codes "retries") d) _ s e5 (λ retries is4 e6.
    came (flow_in path d) _ s e6 (λ flow _ e7.
    let p = number_or_is 128 65507 8192 path (codes "packet") d packet (omega arith) (omega arith) is1 in
    let r = number_or_is 1 256 4 path (codes "receive_depth") d receive_depth (omega arith) (omega arith) is2 in
    let t = number_or_is 1 256 2 path (codes "send_depth") d send_depth (omega arith) (omega arith) is3 in
    let k = number_or_is 1 1000 20 path (codes "retries") d retries (omega arith) (omega arith) is4 in
    let made : Settings = record { packet = packet; receive_depth = receive_depth; send_depth = send_depth; retries = retries; flow = flow } in
    subst AreChecked (same_Ok made s e7) (record { least_packet = p.0; greatest_packet = p.1; least_receive_depth = r.0; greatest_receive_depth = r.1; least_send_depth = t.0; greatest_send_depth = t.1; least_retries = k.0; greatest_retries = k.1 }))))))))

defaults_are_checked : AreChecked default_settings
defaults_are_checked = record { least_packet = omega arith; greatest_packet = omega arith; least_receive_depth = omega arith; greatest_receive_depth = omega arith; least_send_depth = omega arith; greatest_send_depth = omega arith; least_retries = omega arith; greatest_retries = omega arith }

settings_in_are_checked : (path : List Step) (d : Data) (s : Settings) → settings_in path d ≡ Ok s → AreChecked s
settings_in_are_checked path d s e =
    came (optional settings_at path (codes "settings") d) (λ o. Ok (unwrap_or o default_settings)) s e (λ o is e1.
    subst AreChecked (same_Ok (unwrap_or o default_settings) s e1)
    (if_there (λ x. AreChecked (unwrap_or x default_settings)) (settings_at (member (codes "settings") ∷ path)) (get (codes "settings") d) o is defaults_are_checked (λ v y read. settings_are_checked (member (codes "settings") ∷ path) v y read)))

-- ---- the document

document_keeps : (path : List Step) (d : Data) (document : Document) → document_at path d ≡ Ok document → IsDocument document
document_keeps path d document e =
    came (object_at path d) _ document e (λ ms _ e1.
    came (only path (codes "session" ∷ codes "segments" ∷ codes "settings" ∷ codes "tables" ∷ codes "queries" ∷ []) ms) _ document e1 (λ _ _ e2.
    came (needed (number_at 1 2147483647) path (codes "session") d) _ document e2 (λ session is1 e3.
    came (needed (number_at 1 64) path (codes "segments") d) _ document e3 (λ segments is2 e4.
    came (settings_in path d) _ document e4 (λ settings is3 e5.
    came (needed tables_at path (codes "tables") d) _ document e5 (λ tables is4 e6.
    came (needed plans_at path (codes "queries") d) _ document e6 (λ queries is5 e7.
    let s = found (number_at 1 2147483647) path (codes "session") d session is1 (λ v r. number_is 1 2147483647 (member (codes "session") ∷ path) v session r) in
    let g = found (number_at 1 64) path (codes "segments") d segments is2 (λ v r. number_is 1 64 (member (codes "segments") ∷ path) v segments r) in
    let t = found tables_at path (codes "tables") d tables is4 (λ v r. tables_are_tables (member (codes "tables") ∷ path) v tables r) in
    let q = found plans_at path (codes "queries") d queries is5 (λ v r. plans_are_plans (member (codes "queries") ∷ path) v queries r) in
    let n = found plans_at path (codes "queries") d queries is5 (λ v r. list_length plan_at 0 64 (member (codes "queries") ∷ path) v queries r) in
    let made : Document = record { session = session; segments = segments; settings = settings; tables = tables; queries = queries } in
    subst IsDocument (same_Ok made document e7) (record {
      least_session = s.0;
      greatest_session = s.1;
      least_segments = g.0;
      greatest_segments = g.1;
      settings = settings_in_are_checked path d settings is3;
      table_count = t.1;
      tables = schemas_are_tables tables t.0;
      rows = rows_have_widths tables t.0;
      values = values_have_kinds tables t.0;
      query_count = n;
      queries = q;
    }))))))))

reading_keeps : (bytes : List ℕ) (document : Document) → reading bytes ≡ Ok document → IsDocument document
reading_keeps bytes document e = came (or_refused (value_of bytes) [] NoJson) (document_at []) document e (λ d _ e1. document_keeps [] d document e1)

-- what was read is what reading gives
pub read_keeps : (bytes : List ℕ) (result : Result Document DocNo) → Gives (λ x. x) result (reading bytes) → IfOk result IsDocument
read_keeps bytes (Ok document) gives = reading_keeps bytes document gives
read_keeps bytes (Err e) gives = tt
