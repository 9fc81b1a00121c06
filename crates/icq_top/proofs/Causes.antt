-- Why a status is answered, and what is handed back with it.
use Rattle.std.proofs.Common.{◌≡◌, ◌≢◌, ◌⊎◌, ℕ, List, length, map, Option, Some, None, Result, Ok, Err, IfSome, refl, sym, ◌∙◌, subst, arith, inl, inr}
use Rattle.std.specs.Io.KnownBytes.{Appends}
use Rattle.std.proofs.lemmas.Bool.Decides.{eqb_tells}
use Rattle.std.proofs.lemmas.List.{length-map}
use Rattle.ic_edge.specs.Causes.{Rose}
use Rattle.pl_read.specs.declared.document.Document.{Document}
use Rattle.gd_sim.specs.declared.feed.Feed.{Feed}
use Rattle.gd_sim.specs.declared.tally.Tally.{Tally}
use Rattle.gd_sim.specs.declared.run.FirstRun.{FirstRun}
use Rattle.gd_sim.specs.declared.run.FirstNo.{FirstNo}
use Rattle.gd_sim.specs.declared.run.FirstNo.TheVariants as fault
use Rattle.gd_sim.specs.Run.{Ends}
use Rattle.gd_sim.proofs.Feeds.{length-feeds}
use Rattle.icq_top.specs.declared.command.Ended.{Ended}
use Rattle.icq_top.specs.declared.print.Answer.{Answer}
use Rattle.icq_top.specs.declared.running.Ran.{Ran}
use Rattle.icq_top.specs.declared.stop.Stop.{Stop}
use Rattle.icq_top.specs.declared.stop.Stop.TheVariants.{Usage, ReadFault, TooLong, Unread, Unsound, NotBuilt, Memory}
use Rattle.icq_top.specs.Words.{drops_of_words}
use Rattle.icq_top.specs.Stops.{status_of_stop}
use Rattle.icq_top.specs.Judging.{judged_by}
use Rattle.icq_top.specs.Print.{text_of, tallies_in}
use Rattle.icq_top.specs.Outcome.{outcome, given_in, judged_in, Reads, Leads, RunWrites, MayWrite, IsFaultStatus, IsRunStatus, Agrees, HasCauses, IsWritten, IsCutShort, IsEnded, IsDelivered}
use Rattle.icq_top.specs.Outcome.RunWrites.{finished, faulted, short}
use Rattle.icq_top.specs.Outcome.MayWrite.{answer as may_answer, line as may_line}
use Rattle.icq_top.specs.Work.{IsWorked, IsTold, StopWrites, RanWrites, HandsBack, AreAnswers}
use Rattle.icq_top.specs.Work.StopWrites.{whole as stop_whole, memory as stop_memory}
use Rattle.icq_top.specs.Work.RanWrites.{all as ran_all, memory as ran_memory}
use Rattle.icq_top.proofs.Delivering.{delivers}

-- ---- what may be written

pub ran_may : (words : List (List ℕ)) (left : Option (List ℕ)) (ran : Ran) → IsWorked words left ran → (s : ℕ) (t : List ℕ) → RanWrites ran s t → MayWrite words left s t
ran_may words left ran work s t w = by s t w
  where
    by : (s : ℕ) (t : List ℕ) → RanWrites ran s t → MayWrite words left s t
    by _ _ (ran_all answers status text are writes) = may_answer work.document ran.run (map tallies_in answers) status text work.reads (delivers work.document ran answers work.ran_of are) writes
    by _ _ ran_memory = may_line Memory tt

pub stop_may : (words : List (List ℕ)) (left : Option (List ℕ)) (stop : Stop) → Leads words left stop → (s : ℕ) (t : List ℕ) → StopWrites stop s t → MayWrite words left s t
stop_may words left stop leads s t w = by s t w
  where
    by : (s : ℕ) (t : List ℕ) → StopWrites stop s t → MayWrite words left s t
    by _ _ stop_whole = may_line stop leads
    by _ _ stop_memory = may_line Memory tt

-- ---- statuses

run_statuses : (run : FirstRun) (tallies : List (List Tally)) (s : ℕ) (t : List ℕ) → RunWrites run tallies s t → (s ≡ 10) ⊎ IsRunStatus s
run_statuses run tallies _ _ (finished none) = inr (inl refl)
run_statuses run tallies _ _ (faulted (fault.Unfinished rounds) is) = inr (inr (inr (inl refl)))
run_statuses run tallies _ _ (faulted (fault.Spent key seq tries) is) = inr (inr (inl refl))
run_statuses run tallies _ _ (faulted (fault.TooLong key) is) = inr (inr (inr (inr refl)))
run_statuses run tallies _ _ (short lines) = inl refl

pub ran_statuses : (ran : Ran) (s : ℕ) (t : List ℕ) → RanWrites ran s t → (s ≡ 10) ⊎ IsRunStatus s
ran_statuses ran _ _ (ran_all answers status text are writes) = run_statuses ran.run (map tallies_in answers) status text writes
ran_statuses ran _ _ ran_memory = inl refl

stop_no_run : (stop : Stop) → IsRunStatus (status_of_stop stop) → ⊥
stop_no_run Usage (inl is) = omega (arith, is)
stop_no_run Usage (inr (inl is)) = omega (arith, is)
stop_no_run Usage (inr (inr (inl is))) = omega (arith, is)
stop_no_run Usage (inr (inr (inr is))) = omega (arith, is)
stop_no_run ReadFault (inl is) = omega (arith, is)
stop_no_run ReadFault (inr (inl is)) = omega (arith, is)
stop_no_run ReadFault (inr (inr (inl is))) = omega (arith, is)
stop_no_run ReadFault (inr (inr (inr is))) = omega (arith, is)
stop_no_run TooLong (inl is) = omega (arith, is)
stop_no_run TooLong (inr (inl is)) = omega (arith, is)
stop_no_run TooLong (inr (inr (inl is))) = omega (arith, is)
stop_no_run TooLong (inr (inr (inr is))) = omega (arith, is)
stop_no_run (Unread f) (inl is) = omega (arith, is)
stop_no_run (Unread f) (inr (inl is)) = omega (arith, is)
stop_no_run (Unread f) (inr (inr (inl is))) = omega (arith, is)
stop_no_run (Unread f) (inr (inr (inr is))) = omega (arith, is)
stop_no_run (Unsound q f) (inl is) = omega (arith, is)
stop_no_run (Unsound q f) (inr (inl is)) = omega (arith, is)
stop_no_run (Unsound q f) (inr (inr (inl is))) = omega (arith, is)
stop_no_run (Unsound q f) (inr (inr (inr is))) = omega (arith, is)
stop_no_run NotBuilt (inl is) = omega (arith, is)
stop_no_run NotBuilt (inr (inl is)) = omega (arith, is)
stop_no_run NotBuilt (inr (inr (inl is))) = omega (arith, is)
stop_no_run NotBuilt (inr (inr (inr is))) = omega (arith, is)
stop_no_run Memory (inl is) = omega (arith, is)
stop_no_run Memory (inr (inl is)) = omega (arith, is)
stop_no_run Memory (inr (inr (inl is))) = omega (arith, is)
stop_no_run Memory (inr (inr (inr is))) = omega (arith, is)

run_not_five : (s : ℕ) → IsRunStatus s → s ≢ 5
run_not_five s (inl is) five = omega (arith, is, five)
run_not_five s (inr (inl is)) five = omega (arith, is, five)
run_not_five s (inr (inr (inl is))) five = omega (arith, is, five)
run_not_five s (inr (inr (inr is))) five = omega (arith, is, five)

run_not_ten : (s : ℕ) → IsRunStatus s → s ≢ 10
run_not_ten s (inl is) ten = omega (arith, is, ten)
run_not_ten s (inr (inl is)) ten = omega (arith, is, ten)
run_not_ten s (inr (inr (inl is))) ten = omega (arith, is, ten)
run_not_ten s (inr (inr (inr is))) ten = omega (arith, is, ten)

run_not_four : (s : ℕ) → IsRunStatus s → s ≢ 4
run_not_four s (inl is) four = omega (arith, is, four)
run_not_four s (inr (inl is)) four = omega (arith, is, four)
run_not_four s (inr (inr (inl is))) four = omega (arith, is, four)
run_not_four s (inr (inr (inr is))) four = omega (arith, is, four)

-- with a stop's statuses nothing has run
pub stop_runs_not : (stop : Stop) (a b : Option (List ℕ)) (s : ℕ) → IsTold (StopWrites stop) a b s → IsRunStatus s → ⊥
stop_runs_not stop a b s told is = let (t, w, done) = told.written (run_not_five s is) in by s t w is
  where
    by : (s : ℕ) (t : List ℕ) → StopWrites stop s t → IsRunStatus s → ⊥
    by _ _ stop_whole is = stop_no_run stop is
    by _ _ stop_memory is = stop_no_run Memory is

-- ---- causes

ten_causes : (words : List (List ℕ)) (left : Option (List ℕ)) (faults_old faults_new s : ℕ) → s ≡ 10 → HasCauses words left faults_old faults_new s
ten_causes words left faults_old faults_new s ten = record {
  read = λ four. omega (arith, ten, four);
  exact = λ _ ne. absurd (ne ten);
  usage = λ _. inr ten;
}

agrees_ran : (words : List (List ℕ)) (left : Option (List ℕ)) (d : Document) (s : ℕ) → Reads words left d → IsRunStatus s → IfSome left (λ bytes. Agrees s (outcome words bytes))
agrees_ran words None d s reads is = tt
agrees_ran words (Some bytes) d s reads is = subst (Agrees s) (sym reads.1) is

abbrev pub err_of : Stop → Result Ran Stop
err_of stop = Err stop

abbrev pub ok_of : Ran → Result Ran Stop
ok_of ran = Ok ran

pub ran_causes : (words : List (List ℕ)) (left : Option (List ℕ)) (faults_old faults_new : ℕ) (ran : Ran) → IsWorked words left ran
    → (drops_of_words words ≡ None → (ok_of ran ≡ err_of Usage) ⊎ (ok_of ran ≡ err_of Memory)) → (s : ℕ) (t : List ℕ) → RanWrites ran s t → HasCauses words left faults_old faults_new s
ran_causes words left faults_old faults_new ran work usage s t w =
    elim (ran_statuses ran s t w) [
      | inl ten ↦ ten_causes words left faults_old faults_new s ten
      | inr is ↦ record {
        read = λ four. absurd (run_not_four s is four);
        exact = λ _ _. agrees_ran words left work.document s work.reads is;
        usage = λ none. elim (usage none) [ inl bad ↦ absurd cc | inr bad ↦ absurd cc ];
      }
    ]

agrees_stop : (words : List (List ℕ)) (left : Option (List ℕ)) (stop : Stop) → IfSome left (λ bytes. outcome words bytes ≡ Err stop) → IfSome left (λ bytes. Agrees (status_of_stop stop) (outcome words bytes))
agrees_stop words None stop h = tt
agrees_stop words (Some bytes) stop h = subst (Agrees (status_of_stop stop)) (sym h) refl

no_usage : (words : List (List ℕ)) (stop : Stop) (P : Type 0) → (err_of stop ≡ err_of Usage → ⊥) → (err_of stop ≡ err_of Memory → ⊥)
    → (drops_of_words words ≡ None → (err_of stop ≡ err_of Usage) ⊎ (err_of stop ≡ err_of Memory)) → drops_of_words words ≡ None → P
no_usage words stop P a b usage none = elim (usage none) [ inl bad ↦ absurd (a bad) | inr bad ↦ absurd (b bad) ]

whole_causes : (words : List (List ℕ)) (left : Option (List ℕ)) (faults_old faults_new : ℕ) (stop : Stop) → Leads words left stop
    → (drops_of_words words ≡ None → (err_of stop ≡ err_of Usage) ⊎ (err_of stop ≡ err_of Memory))
    → (err_of stop ≡ err_of ReadFault → Rose faults_old faults_new) → HasCauses words left faults_old faults_new (status_of_stop stop)
whole_causes words left faults_old faults_new Usage leads usage read = record {
  read = λ bad. omega (arith, bad);
  exact = λ _ _. agrees_stop words left Usage leads;
  usage = λ _. inl refl;
}
whole_causes words left faults_old faults_new ReadFault leads usage read = record {
  read = λ _. read refl;
  exact = λ ne _. absurd (ne refl);
  usage = no_usage words ReadFault _ (λ bad. cc) (λ bad. cc) usage;
}
whole_causes words left faults_old faults_new TooLong leads usage read = record {
  read = λ bad. omega (arith, bad);
  exact = λ _ _. agrees_stop words left TooLong leads;
  usage = no_usage words TooLong _ (λ bad. cc) (λ bad. cc) usage;
}
whole_causes words left faults_old faults_new (Unread f) leads usage read = record {
  read = λ bad. omega (arith, bad);
  exact = λ _ _. agrees_stop words left (Unread f) leads;
  usage = no_usage words (Unread f) _ (λ bad. cc) (λ bad. cc) usage;
}
whole_causes words left faults_old faults_new (Unsound q f) leads usage read = record {
  read = λ bad. omega (arith, bad);
  exact = λ _ _. agrees_stop words left (Unsound q f) leads;
  usage = no_usage words (Unsound q f) _ (λ bad. cc) (λ bad. cc) usage;
}
whole_causes words left faults_old faults_new NotBuilt leads usage read = record {
  read = λ bad. omega (arith, bad);
  exact = λ _ _. agrees_stop words left NotBuilt leads;
  usage = no_usage words NotBuilt _ (λ bad. cc) (λ bad. cc) usage;
}
whole_causes words left faults_old faults_new Memory leads usage read = ten_causes words left faults_old faults_new 10 refl

pub stop_causes : (words : List (List ℕ)) (left : Option (List ℕ)) (faults_old faults_new : ℕ) (stop : Stop) → Leads words left stop
    → (drops_of_words words ≡ None → (err_of stop ≡ err_of Usage) ⊎ (err_of stop ≡ err_of Memory))
    → (err_of stop ≡ err_of ReadFault → Rose faults_old faults_new) → (s : ℕ) (t : List ℕ) → StopWrites stop s t → HasCauses words left faults_old faults_new s
stop_causes words left faults_old faults_new stop leads usage read s t w = by s t w
  where
    by : (s : ℕ) (t : List ℕ) → StopWrites stop s t → HasCauses words left faults_old faults_new s
    by _ _ stop_whole = whole_causes words left faults_old faults_new stop leads usage read
    by _ _ stop_memory = ten_causes words left faults_old faults_new 10 refl

-- ---- the clauses

pub told_causes : (P : ℕ → List ℕ → Type 0) (words : List (List ℕ)) (left : Option (List ℕ)) (faults_old faults_new : ℕ) (a b : Option (List ℕ)) (s : ℕ)
    → ((s : ℕ) (t : List ℕ) → P s t → HasCauses words left faults_old faults_new s) → IsTold P a b s → s ≢ 5 → HasCauses words left faults_old faults_new s
told_causes P words left faults_old faults_new a b s causes told ne = let (t, w, done) = told.written ne in causes s t w

pub told_written : (P : ℕ → List ℕ → Type 0) (words : List (List ℕ)) (left a b : Option (List ℕ)) (s : ℕ)
    → ((s : ℕ) (t : List ℕ) → P s t → MayWrite words left s t) → IsTold P a b s → s ≢ 5 → IsWritten words left a b s
told_written P words left a b s can told ne = let (t, w, done) = told.written ne in record { text = t; may = can s t w; written = done }

pub told_cut : (P : ℕ → List ℕ → Type 0) (words : List (List ℕ)) (left : Option (List ℕ)) (faults_old faults_new : ℕ) (a b : Option (List ℕ)) (s : ℕ)
    → ((s : ℕ) (t : List ℕ) → P s t → HasCauses words left faults_old faults_new s) → ((s : ℕ) (t : List ℕ) → P s t → MayWrite words left s t)
    → IsTold P a b s → s ≡ 5 → IsCutShort words left faults_old faults_new a b
told_cut P words left faults_old faults_new a b s causes can told five =
    let (other, t, ne, w, front) = told.cut five in record { status = other; causes = causes other t w; text = t; may = can other t w; written = front }

-- ---- what is handed back

finished_of : (run : FirstRun) (tallies : List (List Tally)) (s : ℕ) (t : List ℕ) → RunWrites run tallies s t → s ≡ 0 → (run.fault ≡ None) × (t ≡ text_of run.rows tallies)
finished_of run tallies _ _ (finished none) is = (none, refl)
finished_of run tallies _ _ (faulted (fault.Unfinished rounds) at) is = let bad : ⊥ = omega (arith, is) in absurd bad
finished_of run tallies _ _ (faulted (fault.Spent key seq tries) at) is = let bad : ⊥ = omega (arith, is) in absurd bad
finished_of run tallies _ _ (faulted (fault.TooLong key) at) is = let bad : ⊥ = omega (arith, is) in absurd bad
finished_of run tallies _ _ (short lines) is = let bad : ⊥ = omega (arith, is) in absurd bad

-- the answers and the text of a run that isn't short of memory
record Wrote (ran : Ran) (s : ℕ) (t : List ℕ) : Type 0 where
  answers : List Answer
  are : AreAnswers ran answers
  writes : RunWrites ran.run (map tallies_in answers) s t

wrote : (ran : Ran) (s : ℕ) (t : List ℕ) → RanWrites ran s t → s ≢ 10 → Wrote ran s t
wrote ran _ _ (ran_all answers status text are writes) ne = record { answers = answers; are = are; writes = writes }
wrote ran _ _ ran_memory ne = absurd (ne refl)

pub ran_ended : (words : List (List ℕ)) (left a b : Option (List ℕ)) (ran : Ran) (s : ℕ) (ended : Option Ended) → IsWorked words left ran → IsTold (RanWrites ran) a b s → HandsBack ran.run s ended
    → IsFaultStatus s → IsEnded words left a b s ended
ran_ended words left a b ran s ended work told back is =
    let ne = run_not_five s (inr is) in
    let no_ten = run_not_ten s (inr is) in
    let (t, w, done) = told.written ne in
    let x = wrote ran s t w no_ten in
    subst (IsEnded words left a b s) (sym (back.whole ne no_ten)) (record {
      document = work.document;
      reads = work.reads;
      run = ran.run;
      same = refl;
      tallies = map tallies_in x.answers;
      delivers = delivers work.document ran x.answers work.ran_of x.are;
      text = t;
      writes = x.writes;
      written = done;
    })

all_over : (rounds : ℕ) (feeds : List Feed) (run : FirstRun) (o : Option FirstNo) → Ends rounds feeds run o → o ≡ None → length run.rows ≡ length feeds
all_over rounds feeds run None ends is = ends
all_over rounds feeds run (Some refusal) ends is = absurd cc

pub ran_delivered : (words : List (List ℕ)) (left a b : Option (List ℕ)) (ran : Ran) (s : ℕ) (ended : Option Ended) → IsWorked words left ran → IsTold (RanWrites ran) a b s → HandsBack ran.run s ended
    → s ≡ 0 → IsDelivered words left a b ended
ran_delivered words left a b ran s ended work told back is =
    let ne : s ≢ 5 = λ five. omega (arith, five, is) in
    let no_ten : s ≢ 10 = λ ten. omega (arith, ten, is) in
    let (t, w, done) = told.written ne in
    let x = wrote ran s t w no_ten in
    let (none, text) = finished_of ran.run (map tallies_in x.answers) s t x.writes is in
    let run = work.ran_of.is_run in
    let over = all_over 100000 run.feeds ran.run ran.run.fault run.is_run.ends none in
    let feeds = length-feeds (judged_in work.document) run.feeds run.are in
    let queries = length-map work.document.queries (judged_by (given_in work.document)) in
    subst (IsDelivered words left a b) (sym (back.whole ne no_ten)) (record {
      document = work.document;
      reads = work.reads;
      run = ran.run;
      same = refl;
      fault = none;
      all = over ∙ feeds ∙ queries;
      tallies = map tallies_in x.answers;
      delivers = delivers work.document ran x.answers work.ran_of x.are;
      written = subst (Appends a b) text done;
    })

pub ran_none : (a b : Option (List ℕ)) (ran : Ran) (s : ℕ) (ended : Option Ended) → IsTold (RanWrites ran) a b s → HandsBack ran.run s ended → (IsRunStatus s → ⊥) → ended ≡ None
ran_none a b ran s ended told back never =
    elim (eqb_tells s 5) [
      | inl w ↦ back.cut w.1
      | inr w ↦
          let (t, writes, done) = told.written w.1 in
          elim (ran_statuses ran s t writes) [
            | inl ten ↦ back.memory ten
            | inr is ↦ absurd (never is)
          ]
    ]
