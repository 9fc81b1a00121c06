-- What the words and the bytes lead to, and what the program may write.
use Rattle.std.specs.Prelude.{◌≡◌, ◌≢◌, ◌⊎◌, ℕ, ◌+◌, List, ◌++◌, length, take, map, Bool, nat_lt, if◌then◌else◌, Option, Some, None, Result, Ok, Err, IfSome, IsPermutation, slice_get}
use Rattle.std.specs.List.{concat, list_all}
use Rattle.std.specs.Io.KnownBytes.{Appends}
use Rattle.ic_edge.specs.Causes.{Rose, TakesAFront}
use Rattle.ic_row.specs.declared.value.Value.{Value}
use Rattle.ic_law.specs.declared.history.Entry.{Entry}
use Rattle.pl_tree.specs.declared.node.Plan.{Plan}
use Rattle.pl_tree.specs.Trees.{tree_in}
use Rattle.pl_plan.specs.declared.sound.Judged.{Judged}
use Rattle.pl_plan.specs.Rules.{Given}
use Rattle.pl_plan.specs.Kept.{given_with}
use Rattle.pl_read.specs.declared.fault.DocFault.{DocFault}
use Rattle.pl_read.specs.declared.table.Table.{Table}
use Rattle.pl_read.specs.declared.document.Document.{Document}
use Rattle.pl_read.specs.Documents.{reading}
use Rattle.tb_load.specs.Kept.{loaded_of, schemas_of}
use Rattle.gd_sim.specs.declared.tally.Tally.{Tally}
use Rattle.gd_sim.specs.declared.run.FirstRun.{FirstRun}
use Rattle.gd_sim.specs.declared.run.FirstNo.{FirstNo}
use Rattle.gd_sim.specs.Plans.{is_gather, gathered, senders_of, IsRunOf}
use Rattle.gd_sim.specs.Tallying.{AreTallies}
use Rattle.icq_top.specs.Words.{drops_of_words}
use Rattle.icq_top.specs.Stops.{status_of_stop, error_text, status_of_fault, fault_text}
use Rattle.icq_top.specs.Judging.{refusal_from, judged_by}
use Rattle.icq_top.specs.Print.{lines_of, text_of}
use Rattle.icq_top.specs.declared.stop.Stop.{Stop}
use Rattle.icq_top.specs.declared.stop.Stop.TheVariants.{Usage, ReadFault, TooLong, Unread, Unsound, NotBuilt, Memory}
use Rattle.icq_top.specs.declared.command.Ended.{Ended}
use Rattle.icq_top.specs.declared.command.Ended.TheVariants.{Traced}

-- ---- where the words and the bytes lead, in the order of refusals

-- what the plans of a document are judged with
abbrev pub given_in : Document → Given
given_in d = given_with (schemas_of d) d.segments d.settings

abbrev pub is_gather_plan : Plan → Bool
is_gather_plan plan = is_gather (tree_in plan)

-- a document whose plans are sound, if each is a gather without an order over a scan
abbrev pub run_end : Document → Result Document Stop
run_end d = if list_all is_gather_plan d.queries then Ok d else Err NotBuilt

abbrev pub judged_end : Document → Option Stop → Result Document Stop
judged_end d None = run_end d
judged_end d (Some stop) = Err stop

abbrev pub read_end : Result Document DocFault → Result Document Stop
read_end (Ok d) = judged_end d (refusal_from (given_in d) 1 d.queries)
read_end (Err fault) = Err (Unread fault)

abbrev pub is_too_long : List ℕ → Bool
is_too_long bytes = nat_lt 67108864 (length bytes)

abbrev pub bytes_end : List ℕ → Result Document Stop
bytes_end bytes = if is_too_long bytes then Err TooLong else read_end (reading bytes)

abbrev pub words_end : Option (List ℕ) → List ℕ → Result Document Stop
words_end None bytes = Err Usage
words_end (Some drops) bytes = bytes_end bytes

-- a document that runs, or why there is none, if nothing fails and memory serves
abbrev pub outcome : List (List ℕ) → List ℕ → Result Document Stop
outcome words bytes = words_end (drops_of_words words) bytes

-- the bytes, if the source tells them, lead to this document
abbrev pub Reads : List (List ℕ) → Option (List ℕ) → Document → Type 0
Reads words left d = IfSome left (λ bytes. (reading bytes ≡ Ok d) × (outcome words bytes ≡ Ok d))

-- they lead to this stop; a read fault and out of memory come otherwise
abbrev pub Leads : List (List ℕ) → Option (List ℕ) → Stop → Type 0
Leads words left Usage = IfSome left (λ bytes. outcome words bytes ≡ Err Usage)
Leads words left ReadFault = Unit {0}
Leads words left TooLong = IfSome left (λ bytes. outcome words bytes ≡ Err TooLong)
Leads words left (Unread fault) = IfSome left (λ bytes. outcome words bytes ≡ Err (Unread fault))
Leads words left (Unsound query fault) = IfSome left (λ bytes. outcome words bytes ≡ Err (Unsound query fault))
Leads words left NotBuilt = IfSome left (λ bytes. outcome words bytes ≡ Err NotBuilt)
Leads words left Memory = Unit {0}

-- ---- a run of a document

abbrev pub judged_in : Document → List Judged
judged_in d = map (judged_by (given_in d)) d.queries

-- The query of this place, from 0, was answered with these rows and has these tallies: it gathers a table, whose rows they
-- are, each as often as there, in some order; of a table that stands everywhere one copy. There is a tally for each
-- segment that sends.
pub record Answers (d : Document) (nodes : List (List Entry)) (place : ℕ) (rows : List (List Value)) (tallies : List Tally) : Type 0 where
  pub plan : Plan
  pub here : slice_get d.queries place ≡ Some plan
  pub number : ℕ
  pub table : Table
  pub there : slice_get d.tables number ≡ Some table
  pub gathers : gathered (tree_in plan) ≡ Some table.schema.name
  pub answer : IsPermutation table.rows rows
  pub told : AreTallies d.session (place + 1) (senders_of d.segments table.schema.place) nodes tallies

-- A run of the document's queries over its tables, for at most 100000 rounds each: each query that is over was answered,
-- and has its tallies.
pub record Delivers (d : Document) (run : FirstRun) (tallies : List (List Tally)) : Type 0 where
  pub is_run : IsRunOf d.session d.segments 100000 d.settings (loaded_of d) (judged_in d) run
  pub count : length tallies ≡ length run.rows
  pub answers : (place : ℕ) (rows : List (List Value)) (ts : List Tally) → slice_get run.rows place ≡ Some rows → slice_get tallies place ≡ Some ts → Answers d run.histories place rows ts

-- What a run has to write with a status: the rows and tallies of all queries, and 0; or those of the queries that are
-- over, and the line of the fault of the next; or the first lines of either, if memory ran out after them.
pub data RunWrites (run : FirstRun) (tallies : List (List Tally)) : ℕ → List ℕ → Type 0 where
  finished : run.fault ≡ None → RunWrites run tallies 0 (text_of run.rows tallies)
  faulted : (refusal : FirstNo) → run.fault ≡ Some refusal
      → RunWrites run tallies (status_of_fault refusal) (text_of run.rows tallies ++ fault_text (length run.rows + 1) refusal)
  short : (lines : ℕ) → RunWrites run tallies 10 (concat (take lines (lines_of run.rows tallies)) ++ error_text Memory)

-- ---- what may be written

-- what a run of the document writes, or the line of a stop
pub data MayWrite (words : List (List ℕ)) (left : Option (List ℕ)) : ℕ → List ℕ → Type 0 where
  answer : (d : Document) (run : FirstRun) (tallies : List (List Tally)) (status : ℕ) (text : List ℕ) → Reads words left d → Delivers d run tallies
      → RunWrites run tallies status text → MayWrite words left status text
  line : (stop : Stop) → Leads words left stop → MayWrite words left (status_of_stop stop) (error_text stop)

-- the statuses of a run that ended
abbrev pub IsFaultStatus : ℕ → Type 0
IsFaultStatus status = (status ≡ 8) ⊎ ((status ≡ 9) ⊎ (status ≡ 12))

abbrev pub IsRunStatus : ℕ → Type 0
IsRunStatus status = (status ≡ 0) ⊎ IsFaultStatus status

abbrev pub Agrees : ℕ → Result Document Stop → Type 0
Agrees status (Ok d) = IsRunStatus status
Agrees status (Err stop) = status ≡ status_of_stop stop

-- why a status is answered: the words and the bytes alone give it, but for a read fault and out of memory, and for how a
-- run ends
pub record HasCauses (words : List (List ℕ)) (left : Option (List ℕ)) (faults_old faults_new status : ℕ) : Type 0 where
  pub read : status ≡ 4 → Rose faults_old faults_new
  pub exact : status ≢ 4 → status ≢ 10 → IfSome left (λ bytes. Agrees status (outcome words bytes))
  pub usage : drops_of_words words ≡ None → (status ≡ 1) ⊎ (status ≡ 10)

-- what was written is all that may be written with this status
pub record IsWritten (words : List (List ℕ)) (left wrote_old wrote_new : Option (List ℕ)) (status : ℕ) : Type 0 where
  pub text : List ℕ
  pub may : MayWrite words left status text
  pub written : Appends wrote_old wrote_new text

-- what was written is a front of what may be written with the status that a write fault took the place of
pub record IsCutShort (words : List (List ℕ)) (left : Option (List ℕ)) (faults_old faults_new : ℕ) (wrote_old wrote_new : Option (List ℕ)) : Type 0 where
  pub status : ℕ
  pub causes : HasCauses words left faults_old faults_new status
  pub text : List ℕ
  pub may : MayWrite words left status text
  pub written : TakesAFront wrote_old wrote_new text

-- ---- what is handed back

-- the histories are those of a run of the document that ended with this status, and its text was written
pub record IsEnding (words : List (List ℕ)) (left wrote_old wrote_new : Option (List ℕ)) (status : ℕ) (histories : List (List Entry)) : Type 0 where
  pub document : Document
  pub reads : Reads words left document
  pub run : FirstRun
  pub same : run.histories ≡ histories
  pub tallies : List (List Tally)
  pub delivers : Delivers document run tallies
  pub text : List ℕ
  pub writes : RunWrites run tallies status text
  pub written : Appends wrote_old wrote_new text

abbrev pub IsEnded : List (List ℕ) → (left wrote_old wrote_new : Option (List ℕ)) → ℕ → Option Ended → Type 0
IsEnded words left wrote_old wrote_new status None = ⊥
IsEnded words left wrote_old wrote_new status (Some (Traced histories)) = IsEnding words left wrote_old wrote_new status histories

-- the whole answer of a document was delivered: no query has a fault, and the text of all of them was written
pub record IsDelivery (words : List (List ℕ)) (left wrote_old wrote_new : Option (List ℕ)) (histories : List (List Entry)) : Type 0 where
  pub document : Document
  pub reads : Reads words left document
  pub run : FirstRun
  pub same : run.histories ≡ histories
  pub fault : run.fault ≡ None
  pub all : length run.rows ≡ length document.queries
  pub tallies : List (List Tally)
  pub delivers : Delivers document run tallies
  pub written : Appends wrote_old wrote_new (text_of run.rows tallies)

abbrev pub IsDelivered : List (List ℕ) → (left wrote_old wrote_new : Option (List ℕ)) → Option Ended → Type 0
IsDelivered words left wrote_old wrote_new None = ⊥
IsDelivered words left wrote_old wrote_new (Some (Traced histories)) = IsDelivery words left wrote_old wrote_new histories
