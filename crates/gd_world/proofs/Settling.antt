-- A worker stands for one turn more, and the others for theirs.
use Rattle.std.proofs.Common.{◌≡◌, ◌⊎◌, ℕ, ◌+◌, ◌≤◌, List, [], ◌∷◌, ◌++◌, length, true, false, cond, Option, Some, None, Ok, Err, refl, ap, sym, ◌∙◌, subst, arith, inl, inr, append-nil, length-append}
use Rattle.std.specs.Prelude.{nat_lt}
use Rattle.std.specs.List.{AllByRecursion}
use Rattle.ic_base.specs.declared.keys.ConnEnd.{ConnEnd}
use Rattle.ic_base.specs.declared.port.PortNo.TheVariants as port
use Rattle.ic_base.specs.declared.port.PortEntry.{PortEntry}
use Rattle.ic_law.specs.declared.history.Entry.{Entry}
use Rattle.ic_law.specs.History.{arrives, arrived_of}
use Rattle.ic_law.specs.Queries.{leaves, left_of}
use Rattle.ic_law.proofs.Lists.{flat_map-push, map-append}
use Rattle.ic_hub.specs.Calls.{SamePlace}
use Rattle.pl_runs.specs.Steps.{Step as Call, calls_of}
use Rattle.pl_runs.specs.Slices.{Worker}
use Rattle.pl_runs.specs.Runs.{Course}
use Rattle.pl_runs.specs.Logs.{log_of}
use Rattle.ic_port.specs.Noding.{Noding}
use Rattle.ic_port.specs.Calls.{begins, begins_of}
use Rattle.ic_desk.specs.Sitting.{Sits, AreApart}
use Rattle.ex_tree.specs.Parts.{Part}
use Rattle.ic_motion.specs.Sending.{SendsToEach, receivers_of}
use Rattle.std.proofs.lemmas.List.{length-map}
use Rattle.ex_slice.specs.declared.way.Way.{Way}
use Rattle.ex_slice.specs.declared.way.Way.TheVariants as ways
use Rattle.ex_slice.specs.declared.stage.Stage.{Stage}
use Rattle.ex_slice.specs.declared.stage.Stage.TheVariants as stages
use Rattle.ex_slice.specs.declared.stage.SliceNo.{SliceNo}
use Rattle.ex_slice.specs.declared.stage.SliceNo.TheVariants as why
use Rattle.ex_slice.specs.declared.stage.Turned.TheVariants.{Moved, Waiting, Done}
use Rattle.ex_slice.specs.Working.{Working, Listening, Reaching, SameWay}
use Rattle.ex_slice.specs.Turning.{is_going, StandsAt, LeavesTurn, after, refused_after}
use Rattle.gd_world.specs.Doings.{Answer}
use Rattle.gd_world.specs.Events.{entries_in, IsOfTurn}
use Rattle.gd_world.specs.Turns.{Taken, logs_turn, logged_by, last_answer, StandsBy, Answers, AnswersTurn}
use Rattle.gd_world.specs.Workers.{IsLost, Keeps, keeps, lost, WorkerStands}
use Rattle.gd_world.specs.Inside.{Sat, added, place_in}
use Rattle.gd_world.proofs.Places.{append_cancel}
use Rattle.gd_world.proofs.Standing.{log_append}

-- ---- the desk's ends are the worker's, or the slice is done

pub sat_by : (own ends : List ConnEnd) (old new : Working) (answer : Answer) (a b : Noding) → (own ≡ ends) ⊎ (old.stage ≡ stages.Done) → Sat own old new answer a b → Sat ends old new answer a b
sat_by own ends old new answer a b (inl same) sat = subst (λ l. Sat l old new answer a b) same sat
sat_by own ends old new answer a b (inr done) sat = record {
  same = sat.same;
  node = inl (sat.over done).2;
  busy = sat.busy;
  stands = sat.stands;
  over = sat.over;
  again = sat.again;
  turns = λ w part c going log works. absurd (stuck old.stage done going);
}
  where
    stuck : (s : Stage) → s ≡ stages.Done → is_going s ≡ true → ⊥
    stuck s is going = let no_ : false ≡ true = sym (ap is_going is) ∙ going in cc

-- ---- the entry of a turn

pub record TurnEntry (ends : List ConnEnd) (a b : Noding) : Type 0 where
  pub entry : Option Entry
  pub place : SamePlace a.hub b.hub
  pub query : b.query ≡ a.query
  pub ends_are : b.ends ≡ a.ends
  pub grown : b.entries ≡ a.entries ++ entries_in entry
  pub call : IsOfTurn entry
  pub others : (others : List ConnEnd) → AreApart ends others → log_of others b.entries ≡ log_of others a.entries

entry_among : (ends : List ConnEnd) (a b : Noding) → Sits ends a b → (more : List Entry) → b.entries ≡ a.entries ++ more → length more ≤ 1 → arrived_of more ≡ [] → left_of more ≡ [] → begins_of more ≡ [] → TurnEntry ends a b
entry_among ends a b sits [] grown few came left begun = record {
  entry = None;
  place = sits.works.place;
  query = sits.works.query;
  ends_are = sits.works.ends;
  grown = grown;
  call = tt;
  others = sits.others;
}
entry_among ends a b sits (e ∷ []) grown few came left begun = record {
  entry = Some e;
  place = sits.works.place;
  query = sits.works.query;
  ends_are = sits.works.ends;
  grown = grown;
  call = record { none_came = sym (append-nil (arrives e)) ∙ came; none_begun = sym (append-nil (begins e)) ∙ begun; none_left = sym (append-nil (leaves e)) ∙ left };
  others = sits.others;
}
entry_among ends a b sits (e ∷ f ∷ more) grown few came left begun = absurd (omega (arith, few))

pub turn_entry : (ends : List ConnEnd) (a b : Noding) → (b ≡ a) ⊎ Sits ends a b → TurnEntry ends a b
turn_entry ends a b (inl same) = subst (λ n. TurnEntry ends a n) (sym same) (record {
  entry = None;
  place = record { session = refl; at = refl; settings = refl };
  query = refl;
  ends_are = refl;
  grown = sym (append-nil a.entries);
  call = tt;
  others = λ others apart. refl;
})
turn_entry ends a b (inr sits) = entry_among ends a b sits sits.works.more sits.works.grown sits.works.few sits.works.none_came sits.works.none_left sits.works.none_begun

lt_self : (n : ℕ) → nat_lt n n ≡ false
lt_self n = grind arith

lt_next : (n : ℕ) → nat_lt n (n + 1) ≡ true
lt_next n = grind arith

pub added_place : (n : Noding) (entry : Option Entry) (h : List Entry) → h ≡ n.entries ++ entries_in entry → added (length n.entries) (length h) ≡ place_in n entry
added_place n None h is = ap (λ l. added (length n.entries) (length l)) (is ∙ append-nil n.entries) ∙ ap (λ b. cond b (Some (length n.entries)) None) (lt_self (length n.entries))
added_place n (Some e) h is =
    ap (λ k. added (length n.entries) k) (ap length is ∙ length-append n.entries (e ∷ [])) ∙ ap (λ b. cond b (Some (length n.entries)) None) (lt_next (length n.entries))

none_left_over : (h : List Entry) (entry : Option Entry) → h ≡ h ++ entries_in entry → entry ≡ None
none_left_over h None is = refl
none_left_over h (Some e) is = absurd (no_ (append_cancel h [] (e ∷ []) (append-nil h ∙ is)))
  where
    no_ : [] ≡ e ∷ [] → ⊥
    no_ x = cc

-- ---- one worker

last_push : (ts : List Taken) (t : Taken) → last_answer (ts ++ t ∷ []) ≡ Some t.answer
last_push [] t = refl
last_push (u ∷ []) t = refl
last_push (u ∷ v ∷ ts) t = last_push (v ∷ ts) t

all_push : {X : Type 0} (P : X → Type 0) (xs : List X) (x : X) → AllByRecursion P xs → P x → AllByRecursion P (xs ++ x ∷ [])
all_push P [] x all here = (here, tt)
all_push P (y ∷ xs) x all here = (all.0, all_push P xs x all.1 here)

lost_stays : (s : Stage) → IsLost s → is_going s ≡ true → ⊥
lost_stays stages.Giving is going = is
lost_stays stages.Ending is going = is
lost_stays stages.Halting is going = is
lost_stays stages.Done is going = is
lost_stays (stages.Refused refusal) is going = cc

stage_cases : (s : Stage) → (is_going s ≡ true) ⊎ ((s ≡ stages.Done) ⊎ ((refusal : SliceNo) × (s ≡ stages.Refused refusal)))
stage_cases stages.Giving = inl refl
stage_cases stages.Ending = inl refl
stage_cases stages.Halting = inl refl
stage_cases stages.Done = inr (inl refl)
stage_cases (stages.Refused refusal) = inr (inr (refusal, refl))

refused_answers : (refusal : SliceNo) → Answers (Err refusal) []
refused_answers (why.TooLong key) = inl refl
refused_answers (why.Malformed key) = inl refl
refused_answers (why.Overflow node) = refl
refused_answers why.Memory = tt

reaches_on : (ends : List ConnEnd) (old new : Way) → SameWay old new → Reaching ends old → Reaching ends new
reaches_on ends (ways.Lets rows) (ways.Lets now) same reaches = tt
reaches_on ends (ways.Passes m hand) (ways.Passes n held) same reaches = subst (λ k. SendsToEach ends k (receivers_of n.targets)) (sym same.motion) (subst (λ l. SendsToEach ends m.motion l) (sym same.receivers) reaches)
reaches_on ends (ways.Lets rows) (ways.Passes n held) same reaches = absurd same
reaches_on ends (ways.Passes m hand) (ways.Lets now) same reaches = absurd same

-- what a worker that went on leaves, by its answer
record Settles (w : Worker) (ends : List ConnEnd) (new : Working) (log : List PortEntry) (answer : Answer) (called : List PortEntry) : Type 0 where
  pub course : Course
  pub does : Keeps w ends new log course
  pub answers : Answers answer called

module _ (w : Worker) (part : Part) (ends : List ConnEnd) (listens : Listening ends part) (old new : Working) (c : Course) (more : List Call) (few : length more ≤ 1) (log called : List PortEntry) (is : calls_of (c.steps ++ more) ≡ log) (calls : calls_of more ≡ called) where
  one : (P : PortEntry → Type 0) (s : Call) → more ≡ s ∷ [] → P s.entry → (x : PortEntry) × (called ≡ x ∷ []) × P x
  one P s are p = (s.entry, sym calls ∙ ap calls_of are, p)

  none : more ≡ [] → called ≡ []
  none are = sym calls ∙ ap calls_of are

  settles : (answer : Answer) → LeavesTurn w part old new c more answer → StandsAt new.stage answer → (answer ≡ Ok (Waiting port.Busy) → ⊥) → Settles w ends new log answer called
  settles (Ok Moved) left stands busy = record {
    course = after c more left.0 Moved;
    does = keeps part left.2 is listens;
    answers = subst (λ l. length l ≤ 1) calls (subst (λ n. n ≤ 1) (sym (length-map more (λ (s : Call). s.entry))) few);
  }
  settles (Ok (Waiting port.Full)) left stands busy = record {
    course = after c more left.0 (Waiting port.Full);
    does = keeps part left.2 is listens;
    answers = one (Rattle.gd_world.specs.Turns.WasRefused port.Full) left.3.0 left.3.1 left.3.2;
  }
  settles (Ok (Waiting port.Empty)) left stands busy = record {
    course = after c more left.0 (Waiting port.Empty);
    does = keeps part left.2 is listens;
    answers = one (Rattle.gd_world.specs.Turns.WasRefused port.Empty) left.3.0 left.3.1 left.3.2;
  }
  settles (Ok (Waiting port.Stopped)) left stands busy = absurd left.3
  settles (Ok (Waiting port.Ended)) left stands busy = absurd left.3
  settles (Ok (Waiting (port.TooLong key))) left stands busy = absurd left.3
  settles (Ok (Waiting port.Busy)) left stands busy = absurd (busy refl)
  settles (Ok (Waiting port.Memory)) left stands busy = absurd left.3
  settles (Ok Done) left stands busy = record { course = after c more left.0 Done; does = keeps part left.2 is listens; answers = none left.3 }
  settles (Err (why.TooLong key)) left stands busy = record {
    course = refused_after c more;
    does = keeps part left.1 is listens;
    answers = inr (one (Rattle.gd_world.specs.Turns.WasRefused (port.TooLong key)) left.0.0 left.0.1 left.0.2);
  }
  settles (Err (why.Malformed key)) left stands busy = record {
    course = c;
    does = lost (subst IsLost (sym stands) tt);
    answers = inr (left.0.entry, sym calls ∙ ap calls_of left.1);
  }
  settles (Err (why.Overflow node)) left stands busy = record { course = refused_after c more; does = keeps part left.2 is listens; answers = none left.0 }
  settles (Err why.Memory) left stands busy = record { course = c; does = lost (subst IsLost (sym stands) tt); answers = tt }

-- a slice that is done or was refused stays as it is
stays : (w : Worker) (ends : List ConnEnd) (old new : Working) (answer : Answer) (a b : Noding) (entry : Option Entry) (ts : List Taken) (c : Course)
    → new ≡ old → b ≡ a → b.entries ≡ a.entries ++ entries_in entry → Answers answer [] → Keeps w ends old (logged_by ends ts) c
    → Settles w ends new (logged_by ends (ts ++ record { answer = answer; entry = entry } ∷ [])) answer (log_of ends (entries_in entry))
stays w ends old new answer a b entry ts c same still grown answers does =
    let nothing : entry ≡ None = none_left_over a.entries entry (sym (ap (λ (n : Noding). n.entries) still) ∙ grown) in
    let t : Taken = record { answer = answer; entry = entry } in
    let calls : log_of ends (entries_in entry) ≡ [] = ap (λ o. log_of ends (entries_in o)) nothing in
    let logged : logged_by ends ts ≡ logged_by ends (ts ++ t ∷ []) = sym (append-nil (logged_by ends ts)) ∙ ap (λ l. logged_by ends ts ++ l) (sym calls) ∙ sym (flat_map-push (logs_turn ends) ts t) in
    record {
      course = c;
      does = subst (λ x. Keeps w ends x (logged_by ends (ts ++ t ∷ [])) c) (sym same) (subst (λ l. Keeps w ends old l c) logged does);
      answers = subst (Answers answer) (sym calls) answers;
    }

module _ (w : Worker) (ends : List ConnEnd) (old new : Working) (answer : Answer) (a b : Noding) (entry : Option Entry) (ts : List Taken) where
  abbrev taken : Taken
  taken = record { answer = answer; entry = entry }

  going_on : (c : Course) → Sat ends old new answer a b → b.entries ≡ a.entries ++ entries_in entry → log_of ends a.entries ≡ logged_by ends ts → is_going old.stage ≡ true
      → Keeps w ends old (logged_by ends ts) c → Settles w ends new (logged_by ends (ts ++ taken ∷ [])) answer (log_of ends (entries_in entry))
  going_on c sat grown log_is going (lost is) = absurd (lost_stays old.stage is going)
  going_on c sat grown log_is going (keeps part works calls_are listens) =
      let turn = sat.turns w part c going (calls_are ∙ sym log_is) works in
      let now : log_of ends b.entries ≡ log_of ends a.entries ++ log_of ends (entries_in entry) = ap (log_of ends) grown ∙ log_append ends a.entries (entries_in entry) in
      let logged : log_of ends b.entries ≡ logged_by ends (ts ++ taken ∷ []) = now ∙ ap (λ l. l ++ log_of ends (entries_in entry)) log_is ∙ sym (flat_map-push (logs_turn ends) ts taken) in
      let called : calls_of turn.more ≡ log_of ends (entries_in entry) =
      append_cancel (calls_of c.steps) (calls_of turn.more) (log_of ends (entries_in entry))
      (sym (map-append (λ (s : Call). s.entry) c.steps turn.more) ∙ sym turn.log ∙ now ∙ ap (λ l. l ++ log_of ends (entries_in entry)) (log_is ∙ sym calls_are)) in
      settles w part ends listens old new c turn.more turn.once (logged_by ends (ts ++ taken ∷ [])) (log_of ends (entries_in entry)) (sym turn.log ∙ logged) called answer turn.leaves sat.stands sat.busy

  settled : (c : Course) → Sat ends old new answer a b → b.entries ≡ a.entries ++ entries_in entry → log_of ends a.entries ≡ logged_by ends ts → Keeps w ends old (logged_by ends ts) c
      → Settles w ends new (logged_by ends (ts ++ taken ∷ [])) answer (log_of ends (entries_in entry))
  settled c sat grown log_is does =
      elim (stage_cases old.stage) [
        | inl going ↦ going_on c sat grown log_is going does
        | inr ended ↦ elim ended [
          | inl done ↦
              let over = sat.over done in
              stays w ends old new answer a b entry ts c over.1 over.2 grown (subst (λ r. Answers r []) (sym over.0) refl) does
          | inr refused ↦
              let again = sat.again refused.0 refused.1 in
              stays w ends old new answer a b entry ts c again.1 again.2 grown (subst (λ r. Answers r []) (sym again.0) (refused_answers refused.0)) does
        ]
      ]

  pub worker_on : (c : Course) → Sat ends old new answer a b → b.entries ≡ a.entries ++ entries_in entry → log_of ends a.entries ≡ logged_by ends ts → WorkerStands w ends old ts c
      → (now : Course) × WorkerStands w ends new (ts ++ taken ∷ []) now
  worker_on c sat grown log_is was =
      let s = settled c sat grown log_is was.does in (
        s.course,
        record {
          told = subst (StandsBy new.stage) (sym (last_push ts taken)) sat.stands;
          answers = all_push (AnswersTurn ends) ts taken was.answers s.answers;
          reaches = reaches_on ends old.way new.way sat.same was.reaches;
          does = s.does;
        },
      )
