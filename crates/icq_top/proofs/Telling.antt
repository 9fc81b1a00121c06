-- What was told, seen as other texts and behind other texts.
use Rattle.std.proofs.Common.{◌≡◌, ◌≢◌, ℕ, ◌+◌, List, [], ◌∷◌, ◌++◌, length, take, map, Option, Some, None, Ok, Err, inl, inr, refl, ap, sym, ◌∙◌, subst, arith, append-nil, length-append}
use Rattle.std.specs.List.{concat, flat_map}
use Rattle.std.specs.Io.KnownBytes.{Appends}
use Rattle.std.proofs.lemmas.List.{take_all, take-append-le}
use Rattle.ic_edge.specs.Causes.{TakesAFront}
use Rattle.ic_edge.proofs.Known.{Appends-trans}
use Rattle.gd_sim.specs.declared.tally.Tally.{Tally}
use Rattle.gd_sim.specs.declared.run.FirstRun.{FirstRun}
use Rattle.gd_sim.specs.declared.run.FirstNo.{FirstNo}
use Rattle.gd_sim.specs.declared.run.FirstNo.TheVariants as fault
use Rattle.icq_top.specs.declared.print.Answer.{Answer}
use Rattle.icq_top.specs.declared.print.PrintNo.TheVariants as no_
use Rattle.icq_top.specs.declared.running.Ran.{Ran}
use Rattle.icq_top.specs.declared.stop.Stop.{Stop}
use Rattle.icq_top.specs.declared.stop.Stop.TheVariants.{Memory}
use Rattle.icq_top.specs.Stops.{status_of_stop, error_text, status_of_fault, fault_text}
use Rattle.icq_top.specs.Print.{lines_of, text_of, answer_lines, rows_in, tallies_in}
use Rattle.icq_top.specs.Outcome.{RunWrites}
use Rattle.icq_top.specs.Outcome.RunWrites.{finished, faulted, short}
use Rattle.icq_top.specs.Work.{IsTold, Says, StopWrites, EndWrites, RanWrites, AreAnswers, PrintsRun}
use Rattle.icq_top.specs.Work.StopWrites.{whole as stop_whole, memory as stop_memory}
use Rattle.icq_top.specs.Work.EndWrites.{nothing as end_nothing, fault as end_fault, memory as end_memory}
use Rattle.icq_top.specs.Work.RanWrites.{all as ran_all, memory as ran_memory}
use Rattle.icq_top.proofs.Fronts.{front_behind}

front_after : (a b c : Option (List ℕ)) (front text : List ℕ) → Appends a b front → TakesAFront b c text → TakesAFront a c (front ++ text)
front_after a b c front text p (n, lt, q) = subst (TakesAFront a c) (append-nil (front ++ text)) (front_behind front text [] n a b c lt p q)

-- ---- as other texts

pub told-as : (P Q : ℕ → List ℕ → Type 0) (a b : Option (List ℕ)) (status : ℕ) → ((s : ℕ) (t : List ℕ) → P s t → Q s t) → IsTold P a b status → IsTold Q a b status
told-as P Q a b status f x = record {
  written = λ ne. let (t, may, done) = x.written ne in (t, f status t may, done);
  cut = λ five. let (s, t, ne, may, front) = x.cut five in (s, t, ne, f s t may, front);
}

-- behind a text that was written before
pub told-behind : (P Q : ℕ → List ℕ → Type 0) (a b c : Option (List ℕ)) (status : ℕ) (front : List ℕ) → ((s : ℕ) (t : List ℕ) → P s t → Q s (front ++ t)) → Appends a b front → IsTold P b c status → IsTold Q a c status
told-behind P Q a b c status front f p x = record {
  written = λ ne. let (t, may, done) = x.written ne in (front ++ t, f status t may, Appends-trans a b c front t p done);
  cut = λ five. let (s, t, ne, may, cut_at) = x.cut five in (s, front ++ t, ne, f s t may, front_after a b c front t p cut_at);
}

-- a front was written, and the sink failed
pub told-front : (Q : ℕ → List ℕ → Type 0) (a b : Option (List ℕ)) (s : ℕ) (t : List ℕ) → s ≢ 5 → Q s t → TakesAFront a b t → IsTold Q a b 5
told-front Q a b s t ne may front = record {
  written = λ other. absurd (other refl);
  cut = λ _. (s, t, ne, may, front);
}

pub told-whole : (Q : ℕ → List ℕ → Type 0) (a b : Option (List ℕ)) (s : ℕ) (t : List ℕ) → s ≢ 5 → Q s t → Appends a b t → IsTold Q a b s
told-whole Q a b s t ne may done = record {
  written = λ _. (t, may, done);
  cut = λ five. absurd (ne five);
}

-- ---- nothing

pub nothing_more : (a : Option (List ℕ)) → Appends a a []
nothing_more None = tt
nothing_more (Some xs) = sym (append-nil xs)

-- ---- what says a line

pub says_as : (Q : ℕ → List ℕ → Type 0) (status : ℕ) (text : List ℕ) → Q status text → (s : ℕ) (t : List ℕ) → Says status text s t → Q s t
says_as Q status text may s t (is, are) = subst (λ n. Q n t) (sym is) (subst (Q status) (sym are) may)

-- ---- the lines of a run

pub lines_are : (answers : List Answer) → flat_map answer_lines answers ≡ lines_of (map rows_in answers) (map tallies_in answers)
lines_are [] = refl
lines_are (a ∷ answers) = ap (λ l. answer_lines a ++ l) (lines_are answers)

run_lines : (ran : Ran) (answers : List Answer) → AreAnswers ran answers → flat_map answer_lines answers ≡ lines_of ran.run.rows (map tallies_in answers)
run_lines ran answers are = lines_are answers ∙ ap (λ r. lines_of r (map tallies_in answers)) are.rows

pub text_is : (ran : Ran) (answers : List Answer) → AreAnswers ran answers → concat (flat_map answer_lines answers) ≡ text_of ran.run.rows (map tallies_in answers)
text_is ran answers are = ap concat (run_lines ran answers are)

all_lines : (ls : List (List ℕ)) → take (length ls) ls ≡ ls
all_lines ls = take_all (length ls) ls (omega arith)

-- the end behind the answers
pub ends_run : (ran : Ran) (answers : List Answer) → AreAnswers ran answers → (s : ℕ) (t : List ℕ) → EndWrites ran.run s t → RanWrites ran s (concat (flat_map answer_lines answers) ++ t)
ends_run ran answers are s t w = by s t w
  where
    tallies : List (List Tally)
    tallies = map tallies_in answers

    lines : List (List ℕ)
    lines = lines_of ran.run.rows (map tallies_in answers)

    all : (s : ℕ) (t u : List ℕ) → RunWrites ran.run (map tallies_in answers) s u → concat (flat_map answer_lines answers) ++ t ≡ u → RanWrites ran s (concat (flat_map answer_lines answers) ++ t)
    all s t u w is = ran_all answers s (concat (flat_map answer_lines answers) ++ t) are (subst (RunWrites ran.run (map tallies_in answers) s) (sym is) w)

    by : (s : ℕ) (t : List ℕ) → EndWrites ran.run s t → RanWrites ran s (concat (flat_map answer_lines answers) ++ t)
    by _ _ (end_nothing none) = all 0 [] (text_of ran.run.rows (map tallies_in answers)) (finished none) (append-nil (concat (flat_map answer_lines answers)) ∙ text_is ran answers are)
    by _ _ (end_fault refusal is) =
        all (status_of_fault refusal) (fault_text (length ran.run.rows + 1) refusal) (text_of ran.run.rows (map tallies_in answers) ++ fault_text (length ran.run.rows + 1) refusal)
        (faulted refusal is) (ap (λ l. l ++ fault_text (length ran.run.rows + 1) refusal) (text_is ran answers are))
    by _ _ end_memory =
        all 10 (error_text Memory) (concat (take (length lines) lines) ++ error_text Memory) (short (length lines))
        (ap (λ l. l ++ error_text Memory) (text_is ran answers are ∙ ap concat (sym (all_lines lines))))

-- want of memory behind some lines
pub short_run : (ran : Ran) (answers : List Answer) (n : ℕ) → AreAnswers ran answers → RanWrites ran 10 (concat (take n (flat_map answer_lines answers)) ++ error_text Memory)
short_run ran answers n are =
    subst (λ ls. RanWrites ran 10 (concat (take n ls) ++ error_text Memory)) (sym (run_lines ran answers are))
    (ran_all answers 10 (concat (take n (lines_of ran.run.rows (map tallies_in answers))) ++ error_text Memory) are (short n))

front_grows : (a b : Option (List ℕ)) (xs ys : List ℕ) → TakesAFront a b xs → TakesAFront a b (xs ++ ys)
front_grows a b xs ys (n, lt, p) = (n, omega (arith, lt, length-append xs ys), subst (Appends a b) (sym (take-append-le n xs ys (omega (arith, lt)))) p)

fault_not_five : (refusal : FirstNo) → status_of_fault refusal ≢ 5
fault_not_five (fault.Unfinished rounds) is = omega (arith, is)
fault_not_five (fault.Spent key seq tries) is = omega (arith, is)
fault_not_five (fault.TooLong key) is = omega (arith, is)

-- a front of the answers is a front of all that the run writes
pub front_of_run : (ran : Ran) (answers : List Answer) (a b : Option (List ℕ)) → AreAnswers ran answers → TakesAFront a b (concat (flat_map answer_lines answers)) → IsTold (RanWrites ran) a b 5
front_of_run ran answers a b are front = by ran.run.fault refl
  where
    with_end : (s : ℕ) (t : List ℕ) → s ≢ 5 → EndWrites ran.run s t → IsTold (RanWrites ran) a b 5
    with_end s t ne w =
        told-front (RanWrites ran) a b s (concat (flat_map answer_lines answers) ++ t) ne (ends_run ran answers are s t w) (front_grows a b (concat (flat_map answer_lines answers)) t front)

    by : (o : Option FirstNo) → ran.run.fault ≡ o → IsTold (RanWrites ran) a b 5
    by None is = with_end 0 [] (λ bad. omega (arith, bad)) (end_nothing is)
    by (Some refusal) is = with_end (status_of_fault refusal) (fault_text (length ran.run.rows + 1) refusal) (fault_not_five refusal) (end_fault refusal is)

-- ---- a stop

pub stop_line : (stop : Stop) (status : ℕ) (text : List ℕ) → status ≡ status_of_stop stop → text ≡ error_text stop → (s : ℕ) (t : List ℕ) → Says status text s t → StopWrites stop s t
stop_line stop status text is are = says_as (StopWrites stop) status text (subst (λ s. StopWrites stop s text) (sym is) (subst (StopWrites stop (status_of_stop stop)) (sym are) stop_whole))

pub stop_short : (stop : Stop) (s : ℕ) (t : List ℕ) → Says 10 (error_text Memory) s t → StopWrites stop s t
stop_short stop = says_as (StopWrites stop) 10 (error_text Memory) stop_memory

pub end_line : (run : FirstRun) (refusal : FirstNo) (status : ℕ) (text : List ℕ) → run.fault ≡ Some refusal → status ≡ status_of_fault refusal → text ≡ fault_text (length run.rows + 1) refusal
    → (s : ℕ) (t : List ℕ) → Says status text s t → EndWrites run s t
end_line run refusal status text at is are =
    says_as (EndWrites run) status text (subst (λ s. EndWrites run s text) (sym is) (subst (EndWrites run (status_of_fault refusal)) (sym are) (end_fault refusal at)))

pub end_short : (run : FirstRun) (s : ℕ) (t : List ℕ) → Says 10 (error_text Memory) s t → EndWrites run s t
end_short run = says_as (EndWrites run) 10 (error_text Memory) end_memory

pub ran_short : (ran : Ran) (s : ℕ) (t : List ℕ) → Says 10 (error_text Memory) s t → RanWrites ran s t
ran_short ran = says_as (RanWrites ran) 10 (error_text Memory) ran_memory

pub end_none : (run : FirstRun) (a : Option (List ℕ)) → run.fault ≡ None → IsTold (EndWrites run) a a 0
end_none run a none = told-whole (EndWrites run) a a 0 [] (λ bad. omega (arith, bad)) (end_nothing none) (nothing_more a)

-- ---- the answer to a run

pub ran_ok : (ran : Ran) (a b c : Option (List ℕ)) (status : ℕ) → PrintsRun a b ran (Ok tt) → IsTold (EndWrites ran.run) b c status → IsTold (RanWrites ran) a c status
ran_ok ran a b c status (answers, are, done) told =
    told-behind (EndWrites ran.run) (RanWrites ran) a b c status (concat (flat_map answer_lines answers)) (ends_run ran answers are) done told

pub ran_failed : (ran : Ran) (a b : Option (List ℕ)) → PrintsRun a b ran (Err no_.Failed) → IsTold (RanWrites ran) a b 5
ran_failed ran a b (answers, are, front) = front_of_run ran answers a b are front

pub ran_memory_told : (ran : Ran) (a b c : Option (List ℕ)) (status : ℕ) → PrintsRun a b ran (Err no_.Memory) → IsTold (Says 10 (error_text Memory)) b c status → IsTold (RanWrites ran) a c status
ran_memory_told ran a b c status (inl nothing) told =
    told-behind (Says 10 (error_text Memory)) (RanWrites ran) a b c status [] (ran_short ran) nothing told
ran_memory_told ran a b c status (inr (answers, are, (n, le, done))) told =
    told-behind (Says 10 (error_text Memory)) (RanWrites ran) a b c status (concat (take n (flat_map answer_lines answers)))
    (λ s t says. says_as (λ s t. RanWrites ran s (concat (take n (flat_map answer_lines answers)) ++ t)) 10 (error_text Memory) (short_run ran answers n are) s t says) done told
