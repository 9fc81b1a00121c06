-- What the parts of the command give.
use Rattle.std.specs.Prelude.{◌≡◌, ◌≢◌, ◌⊎◌, ℕ, ◌+◌, ◌≤◌, List, [], length, map, true, false, Option, Some, None, Result, Ok, Err, IfSome, slice_get}
use Rattle.std.specs.List.{concat, flat_map, AllByRecursion}
use Rattle.std.specs.Io.KnownBytes.{Appends}
use Rattle.ic_edge.specs.Causes.{TakesAFront}
use Rattle.pl_tree.specs.declared.node.Plan.{Plan}
use Rattle.pl_plan.specs.declared.sound.Judged.{Judged}
use Rattle.pl_plan.specs.Rules.{Given}
use Rattle.pl_read.specs.declared.document.Document.{Document}
use Rattle.pl_read.specs.Limits.{IsDocument, HasShortTexts}
use Rattle.pl_read.specs.Documents.{reading}
use Rattle.tb_load.specs.Kept.{loaded_of}
use Rattle.gd_sim.specs.declared.feed.Feed.{Feed}
use Rattle.gd_sim.specs.declared.run.FirstRun.{FirstRun}
use Rattle.gd_sim.specs.declared.run.FirstNo.{FirstNo}
use Rattle.gd_sim.specs.Plans.{feeds_of, IsRunOf}
use Rattle.gd_sim.specs.Tallying.{AreTallies}
use Rattle.icq_top.specs.Stops.{error_text, status_of_stop, status_of_fault, fault_text}
use Rattle.icq_top.specs.Judging.{refusal_from, judged_by}
use Rattle.icq_top.specs.Print.{WroteLines, answer_lines, rows_in, tallies_in}
use Rattle.icq_top.specs.Outcome.{Reads, Leads, RunWrites, given_in, judged_in, is_too_long, judged_end}
use Rattle.icq_top.specs.declared.print.Answer.{Answer}
use Rattle.icq_top.specs.declared.print.PrintNo.{PrintNo}
use Rattle.icq_top.specs.declared.print.PrintNo.TheVariants as no_
use Rattle.icq_top.specs.declared.command.Ended.{Ended}
use Rattle.icq_top.specs.declared.command.Ended.TheVariants.{Traced}
use Rattle.icq_top.specs.declared.running.Ran.{Ran}
use Rattle.icq_top.specs.declared.stop.Stop.{Stop}
use Rattle.icq_top.specs.declared.stop.Stop.TheVariants.{Usage, ReadFault, TooLong, Unread, Unsound, NotBuilt, Memory}

-- ---- reading

-- the sends that the words lose, or why there are none
abbrev pub GivesDrops : Option (List ℕ) → Result (List ℕ) Stop → Type 0
GivesDrops told (Ok drops) = told ≡ Some drops
GivesDrops told (Err Usage) = told ≡ None
GivesDrops told (Err Memory) = Unit {0}
GivesDrops told (Err ReadFault) = ⊥
GivesDrops told (Err TooLong) = ⊥
GivesDrops told (Err (Unread fault)) = ⊥
GivesDrops told (Err (Unsound query fault)) = ⊥
GivesDrops told (Err NotBuilt) = ⊥

-- a document as it is read, of bytes that 32 bits count
pub record IsRead (d : Document) : Type 0 where
  pub limits : IsDocument d
  pub texts : HasShortTexts d

-- what comes of the source's bytes
abbrev pub GivesDocument : Option (List ℕ) → Result Document Stop → Type 0
GivesDocument left (Ok d) = IsRead d × IfSome left (λ bytes. (is_too_long bytes ≡ false) × (reading bytes ≡ Ok d))
GivesDocument left (Err TooLong) = IfSome left (λ bytes. is_too_long bytes ≡ true)
GivesDocument left (Err (Unread fault)) = IfSome left (λ bytes. (is_too_long bytes ≡ false) × (reading bytes ≡ Err fault))
GivesDocument left (Err ReadFault) = Unit {0}
GivesDocument left (Err Memory) = Unit {0}
GivesDocument left (Err Usage) = ⊥
GivesDocument left (Err (Unsound query fault)) = ⊥
GivesDocument left (Err NotBuilt) = ⊥

-- ---- judging

-- the plans as they were judged, if none is refused, or the first refusal
abbrev pub JudgesAll : Given → List Plan → Result (List Judged) Stop → Type 0
JudgesAll g plans (Ok judged) = (judged ≡ map (judged_by g) plans) × (refusal_from g 1 plans ≡ None)
JudgesAll g plans (Err (Unsound query fault)) = refusal_from g 1 plans ≡ Some (Unsound query fault)
JudgesAll g plans (Err Memory) = Unit {0}
JudgesAll g plans (Err Usage) = ⊥
JudgesAll g plans (Err ReadFault) = ⊥
JudgesAll g plans (Err TooLong) = ⊥
JudgesAll g plans (Err (Unread fault)) = ⊥
JudgesAll g plans (Err NotBuilt) = ⊥

-- ---- running

-- there is a feed for each query that is over, and 64 segments send at most
pub record IsBounded (ran : Ran) : Type 0 where
  pub count : length ran.run.rows ≤ length ran.feeds.items
  pub few : length ran.feeds.items ≤ 64
  pub senders : AllByRecursion (λ feed. feed.senders ≤ 64) ran.feeds.items

-- a run of the document, with what each query gathers
pub record IsRanOf (d : Document) (ran : Ran) : Type 0 where
  pub read : IsRead d
  pub session : ran.session ≡ d.session
  pub bounded : IsBounded ran
  pub feeds : feeds_of (judged_in d) ≡ Some ran.feeds.items
  pub is_run : IsRunOf d.session d.segments 100000 d.settings (loaded_of d) (judged_in d) ran.run

-- the document runs, or is refused
abbrev pub RunsDocument : Document → Result Ran Stop → Type 0
RunsDocument d (Ok ran) = IsRanOf d ran × (judged_end d (refusal_from (given_in d) 1 d.queries) ≡ Ok d)
RunsDocument d (Err (Unsound query fault)) = judged_end d (refusal_from (given_in d) 1 d.queries) ≡ Err (Unsound query fault)
RunsDocument d (Err NotBuilt) = judged_end d (refusal_from (given_in d) 1 d.queries) ≡ Err NotBuilt
RunsDocument d (Err Memory) = Unit {0}
RunsDocument d (Err Usage) = ⊥
RunsDocument d (Err ReadFault) = ⊥
RunsDocument d (Err TooLong) = ⊥
RunsDocument d (Err (Unread fault)) = ⊥

-- what comes of the words and the source
pub record IsWorked (words : List (List ℕ)) (left : Option (List ℕ)) (ran : Ran) : Type 0 where
  pub document : Document
  pub reads : Reads words left document
  pub ran_of : IsRanOf document ran

abbrev pub Works : List (List ℕ) → Option (List ℕ) → Result Ran Stop → Type 0
Works words left (Ok ran) = IsWorked words left ran
Works words left (Err stop) = Leads words left stop

-- ---- the answer to a run

-- of the query of this place, from 0: the tallies of the segments that send
abbrev pub HasTallies : Ran → ℕ → Answer → Type 0
HasTallies ran place a = (feed : Feed) → slice_get ran.feeds.items place ≡ Some feed → AreTallies ran.session (place + 1) feed.senders ran.run.histories a.tallies

-- the answers of the queries that are over
pub record AreAnswers (ran : Ran) (answers : List Answer) : Type 0 where
  pub rows : map rows_in answers ≡ ran.run.rows
  pub told : (place : ℕ) (a : Answer) → slice_get answers place ≡ Some a → HasTallies ran place a

-- Their lines were written, or a front of them. If memory ran out it may be that there are no tallies, and nothing was
-- written.
abbrev pub PrintsRun : Option (List ℕ) → Option (List ℕ) → Ran → Result (Unit {0}) PrintNo → Type 0
PrintsRun old new ran (Ok u) = (answers : List Answer) × AreAnswers ran answers × Appends old new (concat (flat_map answer_lines answers))
PrintsRun old new ran (Err no_.Failed) = (answers : List Answer) × AreAnswers ran answers × TakesAFront old new (concat (flat_map answer_lines answers))
PrintsRun old new ran (Err no_.Memory) = Appends old new [] ⊎ ((answers : List Answer) × AreAnswers ran answers × WroteLines old new (flat_map answer_lines answers))

-- what was written is what some status has to write, and with 5 a front of what another one has
pub record IsTold (May : ℕ → List ℕ → Type 0) (wrote_old wrote_new : Option (List ℕ)) (status : ℕ) : Type 0 where
  pub written : status ≢ 5 → (text : List ℕ) × May status text × Appends wrote_old wrote_new text
  pub cut : status ≡ 5 → (other : ℕ) × (text : List ℕ) × (other ≢ 5) × May other text × TakesAFront wrote_old wrote_new text

-- this text with this status
abbrev pub Says : ℕ → List ℕ → ℕ → List ℕ → Type 0
Says status text s t = (s ≡ status) × (t ≡ text)

-- the line of a stop, or that of out of memory
pub data StopWrites (stop : Stop) : ℕ → List ℕ → Type 0 where
  whole : StopWrites stop (status_of_stop stop) (error_text stop)
  memory : StopWrites stop 10 (error_text Memory)

-- after the answers: nothing, the line of the fault, or that of out of memory
pub data EndWrites (run : FirstRun) : ℕ → List ℕ → Type 0 where
  nothing : run.fault ≡ None → EndWrites run 0 []
  fault : (refusal : FirstNo) → run.fault ≡ Some refusal → EndWrites run (status_of_fault refusal) (fault_text (length run.rows + 1) refusal)
  memory : EndWrites run 10 (error_text Memory)

-- all of it, with some tallies, or the line of out of memory if there are none
pub data RanWrites (ran : Ran) : ℕ → List ℕ → Type 0 where
  all : (answers : List Answer) (status : ℕ) (text : List ℕ) → AreAnswers ran answers → RunWrites ran.run (map tallies_in answers) status text → RanWrites ran status text
  memory : RanWrites ran 10 (error_text Memory)

-- the histories are handed back with the statuses of a run that ended, and with no other
pub record HandsBack (run : FirstRun) (status : ℕ) (ended : Option Ended) : Type 0 where
  pub whole : status ≢ 5 → status ≢ 10 → ended ≡ Some (Traced run.histories)
  pub cut : status ≡ 5 → ended ≡ None
  pub memory : status ≡ 10 → ended ≡ None
