-- What a send and an end say of the steps.
use Rattle.std.proofs.Common.{◌≡◌, ◌≢◌, ℕ, zero, suc, length, List, [], ◌∷◌, ◌++◌, Bool, true, false, ◌||◌, ◌&&◌, cond, Option, Some, None, Result, Ok, Err, inl, inr, refl, ap, sym, ◌∙◌, subst, append-nil, arith, nat_lt, nat_le}
use Rattle.std.specs.Prelude.{slice_get, IfErr}
use Rattle.std.proofs.lemmas.Bool.{ltb-true, and_parts}
use Rattle.ic_base.specs.declared.keys.ConnEnd.{ConnEnd}
use Rattle.ic_base.specs.declared.port.PortNo.{PortNo}
use Rattle.ic_base.specs.declared.port.PortNo.TheVariants.{Full, Empty, Stopped, Ended, TooLong, Busy, Memory}
use Rattle.ic_base.specs.declared.port.PortAsk.TheVariants.{Put, Finish}
use Rattle.ic_base.specs.declared.port.PortReply.{PortReply}
use Rattle.ic_base.specs.declared.port.PortReply.TheVariants.{Did, Refused}
use Rattle.ic_base.specs.declared.port.PortEntry.{PortEntry}
use Rattle.ic_base.specs.Ports.{did, logged, MayRefusePut}
use Rattle.pl_ops.specs.Rows.{Line}
use Rattle.pl_ops.specs.Routing.{routed}
use Rattle.pl_runs.specs.Steps.{Step, calls_of, put_on, is_stopped}
use Rattle.pl_runs.specs.Slices.{cut}
use Rattle.ic_motion.specs.declared.answers.Sent.{Sent}
use Rattle.ic_motion.specs.declared.answers.Sent.TheVariants as sent
use Rattle.ic_motion.specs.declared.answers.MotionNo.{MotionNo}
use Rattle.ic_motion.specs.declared.answers.MotionNo.TheVariants as why
use Rattle.ic_motion.specs.Answers.{refused_by, done_or_more}
use Rattle.ic_motion.specs.Sending.{route_by, Target, Work, Sender, goes_to, left_at, all_stopped, all_over, is_over, IsIdle, Reaches, Sends, AreServed, handed}
use Rattle.ic_motion.specs.Putting.{IsOpen, stop_at, finish_at, reset, Rests, PutsBy, Sending, all_did, lacks, fails, skips, puts, stopped_or, EndsBy, Ending, had_stopped, was_over, ends}
use Rattle.ic_motion.specs.Sent.{IsPut, IsFinish, IsAnswered, WasAnswered, IsUnserved, TellsEnd, LeavesSend, LeavesEnd, SendsBy, EndsAfter}
use Rattle.ic_motion.specs.Pulling.{AtMostOne}
use Rattle.ic_motion.proofs.Pulled.{calls_more, calls_same}
use Rattle.ic_law.specs.Points.{IsPrefix}
use Rattle.ic_motion.proofs.Sending.{front_row, idle_left, left_own, sends_pass, mute_refused, sends_begin, sends_same, served, sends_reset, put_step, sends_put, stop_step, stop_by_put, stop_by_finish, finish_step, sends_finish, sends_ending}

-- the same but for why it goes no further
as_refused : (m : Sender) (r : Option MotionNo) (steps : List Step) (rows : List Line) → Sends m steps rows → Sends (record m { refused = r }) steps rows
as_refused m r steps rows h = record { ascend = h.ascend; each = h.each; open_ = h.open_ }

-- ---- a send

no_more : {A : Type 0} (xs ys : List A) → xs ++ ys ≡ xs → ys ≡ []
no_more [] ys same = same
no_more (x ∷ xs) ys same = let one : xs ++ ys ≡ xs = cc in no_more xs ys one

-- the chunk in work is still to be put to a receiver that wants more
unserved : (m : Sender) (steps : List Step) (rows : List Line) → IsOpen m.targets m.work.at → goes_to m.work.at m.work ≡ true → m.work.chunk ≢ [] → Sends m steps rows → IsUnserved m steps rows
unserved m steps rows (t, at, going) within some_ h = record {
  in_work = let parts = and_parts (nat_le m.work.first m.work.at) (nat_lt m.work.at m.work.end) within in let lt = ltb-true m.work.at m.work.end parts.1 in omega (arith, lt);
  lacks = λ served_.
      let puts_ = put_on m.motion t.to steps in
      let none : left_at m.work.at m.work ≡ [] = no_more puts_ (left_at m.work.at m.work) ((h.each m.work.at t at).all going ∙ sym (served_ m.work.at t at going)) in
      let bad : m.work.chunk ∷ left_at m.work.at (record m.work { at = suc m.work.at }) ≡ [] = sym (left_own m.work within some_) ∙ none in
      cc;
}

-- the same receivers and the same row in work
unserved_as : (m : Sender) (v new : Work) (after : List Target) (r : Option MotionNo) (steps : List Step) (rows : List Line) → after ≡ m.targets → new ≡ v → IsOpen m.targets v.at → goes_to v.at v ≡ true → v.chunk ≢ [] → Sends (record m { work = v }) steps rows
    → IsUnserved (record m { targets = after; work = new; refused = r }) steps rows
unserved_as m v new after r steps rows same kept here within some_ h =
    subst (λ ts. IsUnserved (record m { targets = ts; work = new; refused = r }) steps rows) (sym same)
    (subst (λ w. IsUnserved (record m { work = w; refused = r }) steps rows) (sym kept) (unserved (record m { work = v; refused = r }) steps rows here within some_ (as_refused (record m { work = v }) r steps rows h)))

-- what is known once the row is in work: the rows handed in, with the steps so far
put_open : (m : Sender) (steps : List Step) (rows : List Line) (v : Work) (t : Target) (chunk : List ℕ) (reply : PortReply) → m.ending ≡ false → slice_get m.targets v.at ≡ Some t → IsOpen m.targets v.at → Sends m steps rows
    → IsPut m steps (record { entry = record { ask = Put m.motion t.to chunk; reply = reply }; rows = [] })
put_open m steps rows v t chunk reply ending at (u, there, going) h =
    let e : Some u ≡ Some t = sym there ∙ at in
    let one : u ≡ t = cc in
    let r = h.each v.at t at in
    record {
      place = v.at;
      t = t;
      chunk = chunk;
      at = at;
      ask = refl;
      stopped = sym r.stopped ∙ ap (λ (x : Target). x.stopped) (sym one) ∙ going;
      finished = sym r.finished ∙ h.open_ ending v.at t at;
      rows = refl;
    }

-- after a put or a stop the row is done or goes on
rests_on : (m : Sender) (w new : Work) (after : List Target) (steps more : List Step) (rows : List Line) (result : Result Sent MotionNo) → all_stopped after ≡ false → WasAnswered more → Sends (record m { targets = after; work = w }) (steps ++ more) rows
    → Rests after w new result → (old : Work) (row : Line) (before : List Line) → rows ≡ handed old before row
    → LeavesSend (record m { work = old }) (record m { targets = after; work = new; refused = refused_by result }) steps more before row result
rests_on m w new after steps more rows (Ok sent.More) open_ answered h rests old row before is =
    let h1 : Sends (record m { targets = after; work = new; refused = None }) (steps ++ more) rows = as_refused (record m { targets = after; work = new }) None (steps ++ more) rows (sends_same (record m { targets = after; work = w }) (steps ++ more) rows new rests.same h) in
    let next = rests.next refl in (
      subst (Sends (record m { targets = after; work = new; refused = None }) (steps ++ more)) is h1,
      (open_, subst (IsUnserved (record m { targets = after; work = new; refused = None }) (steps ++ more)) is (unserved (record m { targets = after; work = new; refused = None }) (steps ++ more) rows next.0 next.1 next.2 h1), answered),
    )
rests_on m w new after steps more rows (Ok sent.Done) open_ answered h (v, settles, made) old row before is =
    let m1 : Sender = record m { targets = after; work = v } in
    let h1 : Sends m1 (steps ++ more) rows = sends_same (record m { targets = after; work = w }) (steps ++ more) rows v settles.same h in
    let h2 : Sends (record m { targets = after; work = reset v }) (steps ++ more) rows = sends_reset m1 (steps ++ more) rows (settles.none refl) h1 in
    let h3 : Sends (record m { targets = after; work = new; refused = None }) (steps ++ more) rows = subst (λ x. Sends (record m { targets = after; work = x; refused = None }) (steps ++ more) rows) (sym made) (as_refused (record m { targets = after; work = reset v }) None (steps ++ more) rows h2) in (
      subst (Sends (record m { targets = after; work = new; refused = None }) (steps ++ more)) is h3,
      (open_, subst (AreServed (record m { targets = after; work = new; refused = None }) (steps ++ more)) is (served m1 (steps ++ more) rows (settles.none refl) h1), ap (λ (x : Work). x.end) made, one more answered),
    )
  where
    one : (xs : List Step) → WasAnswered xs → AtMostOne (λ s. IsAnswered s.entry.reply) xs
    one xs (s, are, a) = subst (AtMostOne (λ x. IsAnswered x.entry.reply)) (sym are) a
rests_on m w new after steps more rows (Ok (sent.Wait no_)) open_ answered h rests old row before is = absurd rests
rests_on m w new after steps more rows (Ok sent.AllStopped) open_ answered h rests old row before is = absurd rests
rests_on m w new after steps more rows (Err why.Memory) open_ answered h rests old row before is =
    (rows, inr is, as_refused (record m { targets = after; work = new }) (Some why.Memory) (steps ++ more) rows (sends_same (record m { targets = after; work = w }) (steps ++ more) rows new rests h), tt)
rests_on m w new after steps more rows (Err (why.TooLong key)) open_ answered h rests old row before is = absurd rests
rests_on m w new after steps more rows (Err (why.Malformed key)) open_ answered h rests old row before is = absurd rests

none_open : (targets : List Target) (place : ℕ) → all_stopped targets ≡ true → IsOpen targets place → ⊥
none_open [] place all (t, at, going) = cc
none_open (u ∷ targets) zero all (t, at, going) =
    let one : u ≡ t = cc in
    let stopped : u.stopped ≡ true = both u.stopped (all_stopped targets) all in
    let bad : true ≡ false = sym stopped ∙ ap (λ (x : Target). x.stopped) one ∙ going in
    cc
  where
    both : (a b : Bool) → (a && b) ≡ true → a ≡ true
    both true b e = refl
    both false b e = cc
none_open (u ∷ targets) (suc place) all (t, at, going) = none_open targets place (rest_of u.stopped (all_stopped targets) all) (t, at, going)
  where
    rest_of : (a b : Bool) → (a && b) ≡ true → b ≡ true
    rest_of true b e = e
    rest_of false b e = cc

-- if all have stopped, then only what was put counts
sends_over : (m : Sender) (steps : List Step) (rows : List Line) (row : Line) (w : Work) → all_stopped m.targets ≡ true → Sends m steps rows → Sends (record m { work = w }) steps (handed m.work rows row)
sends_over m steps rows row w all h = record {
  ascend = h.ascend;
  each = λ place t at.
      let r = h.each place t at in
      record { stopped = r.stopped; finished = r.finished; front = front_of place t r (nat_lt 0 m.work.end); all = λ going. absurd (none_open m.targets place all (t, at, going)) };
  open_ = h.open_;
}
  where
    front_of : (place : ℕ) (t : Target) → Reaches (route_by m.kind) m.motion m.packet (length m.targets) place t m.work rows steps → (b : Bool)
        → IsPrefix (put_on m.motion t.to steps) (cut m.packet (routed (route_by m.kind) (length m.targets) place (cond b rows (rows ++ row ∷ []))))
    front_of place t r true = r.front
    front_of place t r false = front_row (route_by m.kind) m.packet (length m.targets) place rows row (put_on m.motion t.to steps) r.front

-- the same receivers and the same row in work
stays : (m : Sender) (v new : Work) (after : List Target) (r : Option MotionNo) (steps : List Step) (rows all : List Line) → after ≡ m.targets → new ≡ v → rows ≡ all → Sends (record m { work = v }) steps rows
    → Sends (record m { targets = after; work = new; refused = r }) steps all
stays m v new after r steps rows all same kept is h =
    subst (Sends (record m { targets = after; work = new; refused = r }) steps) is
    (subst (λ ts. Sends (record m { targets = ts; work = new; refused = r }) steps rows) (sym same) (subst (λ w. Sends (record m { work = w; refused = r }) steps rows) (sym kept) (as_refused (record m { work = v }) r steps rows h)))

-- one step was added by a put
put_by : (m : Sender) (v new : Work) (after : List Target) (keys : List ConnEnd) (steps : List Step) (rows before : List Line) (row : Line) (old : Work) (t : Target) (log now : List PortEntry) (result : Result Sent MotionNo) (answer : Result (Unit {0}) PortNo)
    → m.ending ≡ false → all_stopped m.targets ≡ false → calls_of steps ≡ log → rows ≡ handed old before row → slice_get m.targets v.at ≡ Some t → IsOpen m.targets v.at → goes_to v.at v ≡ true → v.chunk ≢ []
    → Sends (record m { work = old }) steps before → Sends (record m { work = v }) steps rows → now ≡ logged (Put m.motion t.to v.chunk) (did answer) log → IfErr answer (MayRefusePut keys m.motion t.to) → PutsBy m.targets after v new result answer
    → SendsBy (record m { work = old }) (record m { targets = after; work = new; refused = refused_by result }) steps before row now result
unfolding put_step stop_step
put_by m v new after keys steps rows before row old t log now result (Ok _) ending open_ calls is at here within some_ was h entry may (same, rests) =
    let s : Step = record { entry = record { ask = Put m.motion t.to v.chunk; reply = Did }; rows = [] } in
    let going = going_of here in
    let h1 = sends_put (record m { work = v }) steps rows t at going within some_ h in
    record {
      more = s ∷ [];
      log = calls_more steps s log now calls entry;
      makes = put_open (record m { work = old }) steps before v t v.chunk Did ending at here was;
      leaves = rests_on m (record v { at = suc v.at }) new after steps (s ∷ []) rows result (subst (λ ts. all_stopped ts ≡ false) (sym same) open_) (s, refl, tt)
          (subst (λ ts. Sends (record m { targets = ts; work = record v { at = suc v.at } }) (steps ++ s ∷ []) rows) (sym same) h1) (subst (λ ts. Rests ts (record v { at = suc v.at }) new result) (sym same) rests) old row before is;
    }
  where
    going_of : IsOpen m.targets v.at → t.stopped ≡ false
    going_of (u, there, g) = let e : Some u ≡ Some t = sym there ∙ at in let one : u ≡ t = cc in ap (λ (x : Target). x.stopped) (sym one) ∙ g
put_by m v new after keys steps rows before row old t log now result (Err Stopped) ending open_ calls is at here within some_ was h entry may (made, inl (all, told, kept)) =
    let s : Step = record { entry = record { ask = Put m.motion t.to v.chunk; reply = Refused Stopped }; rows = [] } in
    let h1 = stop_by_put (record m { work = v }) steps rows v.at t v.chunk at h in
    let all_ : all_stopped (stop_at v.at m.targets) ≡ true = subst (λ ts. all_stopped ts ≡ true) made all in
    let h2 = sends_reset (record m { work = v; targets = stop_at v.at m.targets }) (steps ++ s ∷ []) rows (λ place o. absurd (none_open (stop_at v.at m.targets) place all_ o)) h1 in
    let h3 : Sends (record m { targets = after; work = new; refused = None }) (steps ++ s ∷ []) rows =
    subst (λ ts. Sends (record m { targets = ts; work = new; refused = None }) (steps ++ s ∷ []) rows) (sym made)
    (subst (λ x. Sends (record m { targets = stop_at v.at m.targets; work = x; refused = None }) (steps ++ s ∷ []) rows) (sym kept) (as_refused (record m { targets = stop_at v.at m.targets; work = reset v }) None (steps ++ s ∷ []) rows h2)) in
    record {
      more = s ∷ [];
      log = calls_more steps s log now calls entry;
      makes = put_open (record m { work = old }) steps before v t v.chunk (Refused Stopped) ending at here was;
      leaves = subst (λ r. LeavesSend (record m { work = old }) (record m { targets = after; work = new; refused = refused_by r }) steps (s ∷ []) before row r) (sym told)
          (subst (Sends (record m { targets = after; work = new; refused = None }) (steps ++ s ∷ [])) is h3, (all, ap (λ (x : Work). x.end) kept, tt));
    }
put_by m v new after keys steps rows before row old t log now result (Err Stopped) ending open_ calls is at here within some_ was h entry may (made, inr (more_open, rests)) =
    let s : Step = record { entry = record { ask = Put m.motion t.to v.chunk; reply = Refused Stopped }; rows = [] } in
    let h1 = stop_by_put (record m { work = v }) steps rows v.at t v.chunk at h in
    record {
      more = s ∷ [];
      log = calls_more steps s log now calls entry;
      makes = put_open (record m { work = old }) steps before v t v.chunk (Refused Stopped) ending at here was;
      leaves = rests_on m v new after steps (s ∷ []) rows result more_open (s, refl, tt) (subst (λ ts. Sends (record m { targets = ts; work = v }) (steps ++ s ∷ []) rows) (sym made) h1) rests old row before is;
    }
put_by m v new after keys steps rows before row old t log now result (Err Full) ending open_ calls is at here within some_ was h entry may (same, kept, told) =
    let s : Step = record { entry = record { ask = Put m.motion t.to v.chunk; reply = Refused Full }; rows = [] } in
    let h1 = sends_pass (record m { work = v }) steps s rows (λ to. mute_refused m.motion to (Put m.motion t.to v.chunk) Full refl) h in
    record {
      more = s ∷ [];
      log = calls_more steps s log now calls entry;
      makes = put_open (record m { work = old }) steps before v t v.chunk (Refused Full) ending at here was;
      leaves = subst (λ r. LeavesSend (record m { work = old }) (record m { targets = after; work = new; refused = refused_by r }) steps (s ∷ []) before row r) (sym told) (
        stays m v new after None (steps ++ s ∷ []) rows (handed old before row) same kept is h1,
        (
          subst (λ ts. all_stopped ts ≡ false) (sym same) open_,
          subst (IsUnserved (record m { targets = after; work = new; refused = None }) (steps ++ s ∷ [])) is (unserved_as m v new after None (steps ++ s ∷ []) rows same kept here within some_ h1),
          (s, refl, refl),
        ),
      );
    }
put_by m v new after keys steps rows before row old t log now result (Err Busy) ending open_ calls is at here within some_ was h entry may (same, kept, told) =
    record {
      more = [];
      log = calls_same steps log now calls (entry ∙ append-nil log);
      makes = tt;
      leaves = subst (λ r. LeavesSend (record m { work = old }) (record m { targets = after; work = new; refused = refused_by r }) steps [] before row r) (sym told) (
        stays m v new after None (steps ++ []) rows (handed old before row) same kept is (subst (λ x. Sends (record m { work = v }) x rows) (sym (append-nil steps)) h),
        (
          subst (λ ts. all_stopped ts ≡ false) (sym same) open_,
          subst (IsUnserved (record m { targets = after; work = new; refused = None }) (steps ++ [])) is (unserved_as m v new after None (steps ++ []) rows same kept here within some_ (subst (λ x. Sends (record m { work = v }) x rows) (sym (append-nil steps)) h)),
          refl,
        ),
      );
    }
put_by m v new after keys steps rows before row old t log now result (Err (TooLong key)) ending open_ calls is at here within some_ was h entry may (same, kept, told) =
    let s : Step = record { entry = record { ask = Put m.motion t.to v.chunk; reply = Refused (TooLong key) }; rows = [] } in
    let h1 = sends_pass (record m { work = v }) steps s rows (λ to. mute_refused m.motion to (Put m.motion t.to v.chunk) (TooLong key) refl) h in
    record {
      more = s ∷ [];
      log = calls_more steps s log now calls entry;
      makes = put_open (record m { work = old }) steps before v t v.chunk (Refused (TooLong key)) ending at here was;
      leaves = subst (λ r. LeavesSend (record m { work = old }) (record m { targets = after; work = new; refused = refused_by r }) steps (s ∷ []) before row r) (sym told)
          (handed old before row, inr refl, stays m v new after (Some (why.TooLong key)) (steps ++ s ∷ []) rows (handed old before row) same kept is h1, (s, refl, refl));
    }
put_by m v new after keys steps rows before row old t log now result (Err Empty) ending open_ calls is at here within some_ was h entry may w = absurd may
put_by m v new after keys steps rows before row old t log now result (Err Ended) ending open_ calls is at here within some_ was h entry may w = absurd may
put_by m v new after keys steps rows before row old t log now result (Err Memory) ending open_ calls is at here within some_ was h entry may (same, kept, told) =
    record {
      more = [];
      log = calls_same steps log now calls (entry ∙ append-nil log);
      makes = tt;
      leaves = subst (λ r. LeavesSend (record m { work = old }) (record m { targets = after; work = new; refused = refused_by r }) steps [] before row r) (sym told)
          (handed old before row, inr refl, stays m v new after (Some why.Memory) (steps ++ []) rows (handed old before row) same kept is (subst (λ x. Sends (record m { work = v }) x rows) (sym (append-nil steps)) h), tt);
    }

-- no step was added
quiet : (m : Sender) (after : List Target) (new : Work) (steps : List Step) (rows : List Line) (row : Line) (log now : List PortEntry) (result : Result Sent MotionNo) → calls_of steps ≡ log → now ≡ log
    → LeavesSend m (record m { targets = after; work = new; refused = refused_by result }) steps [] rows row result → SendsBy m (record m { targets = after; work = new; refused = refused_by result }) steps rows row now result
quiet m after new steps rows row log now result calls entry leaves = record { more = []; log = calls_same steps log now calls entry; makes = tt; leaves = leaves }

pub sent_by : (keys : List ConnEnd) (m : Sender) (after : List Target) (new : Work) (steps : List Step) (rows : List Line) (row : Line) (log now : List PortEntry) (result : Result Sent MotionNo) → m.ending ≡ false → calls_of steps ≡ log → Sends m steps rows
    → Sending keys m.motion (route_by m.kind) m.packet m.targets after row m.work new log now result → SendsBy m (record m { targets = after; work = new; refused = refused_by result }) steps rows row now result
sent_by keys m after new steps rows row log now result ending calls h (all_did all same made entry told) =
    let h1 : Sends (record m { work = new; refused = None }) (steps ++ []) (handed m.work rows row) = subst (λ x. Sends (record m { work = new; refused = None }) x (handed m.work rows row)) (sym (append-nil steps)) (as_refused (record m { work = new }) None steps (handed m.work rows row) (sends_over m steps rows row new all h)) in
    quiet m after new steps rows row log now result calls entry
    (subst (λ r. LeavesSend m (record m { targets = after; work = new; refused = refused_by r }) steps [] rows row r) (sym told)
    (subst (λ ts. Sends (record m { targets = ts; work = new; refused = None }) (steps ++ []) (handed m.work rows row)) (sym same) h1, (ap all_stopped same ∙ all, ap (λ (x : Work). x.end) made, tt)))
sent_by keys m after new steps rows row log now result ending calls h (lacks open_ same kept entry told) =
    let h1 : Sends (record m { refused = Some why.Memory }) (steps ++ []) rows = subst (λ x. Sends (record m { refused = Some why.Memory }) x rows) (sym (append-nil steps)) (as_refused m (Some why.Memory) steps rows h) in
    quiet m after new steps rows row log now result calls entry
    (subst (λ r. LeavesSend m (record m { targets = after; work = new; refused = refused_by r }) steps [] rows row r) (sym told)
    (rows, inl refl, subst (λ ts. Sends (record m { targets = ts; work = new; refused = Some why.Memory }) (steps ++ []) rows) (sym same) (subst (λ w. Sends (record m { work = w; refused = Some why.Memory }) (steps ++ []) rows) (sym kept) h1), tt))
sent_by keys m after new steps rows row log now result ending calls h (fails w open_ begun left same entry told) =
    let b = sends_begin m steps rows row w begun h in
    let c = sends_same (record m { work = w }) steps (handed m.work rows row) new left b in
    let h1 : Sends (record m { work = new; refused = Some why.Memory }) (steps ++ []) (handed m.work rows row) = subst (λ x. Sends (record m { work = new; refused = Some why.Memory }) x (handed m.work rows row)) (sym (append-nil steps)) (as_refused (record m { work = new }) (Some why.Memory) steps (handed m.work rows row) c) in
    quiet m after new steps rows row log now result calls entry
    (subst (λ r. LeavesSend m (record m { targets = after; work = new; refused = refused_by r }) steps [] rows row r) (sym told)
    (handed m.work rows row, inr refl, subst (λ ts. Sends (record m { targets = ts; work = new; refused = Some why.Memory }) (steps ++ []) (handed m.work rows row)) (sym same) h1, tt))
sent_by keys m after new steps rows row log now result ending calls h (skips w v open_ begun settles made same entry told) =
    let now_rows = handed m.work rows row in
    let b = sends_begin m steps rows row w begun h in
    let c = sends_same (record m { work = w }) steps now_rows v settles.same b in
    let d = sends_reset (record m { work = v }) steps now_rows (settles.none refl) c in
    let f = served (record m { work = v }) steps now_rows (settles.none refl) c in
    let h1 : Sends (record m { work = new; refused = None }) (steps ++ []) now_rows = subst (λ x. Sends (record m { work = new; refused = None }) x now_rows) (sym (append-nil steps)) (subst (λ x. Sends (record m { work = x; refused = None }) steps now_rows) (sym made) (as_refused (record m { work = reset v }) None steps now_rows d)) in
    let f1 : AreServed (record m { work = new; refused = None }) (steps ++ []) now_rows = subst (λ x. AreServed (record m { work = new; refused = None }) x now_rows) (sym (append-nil steps)) f in
    quiet m after new steps rows row log now result calls entry
    (subst (λ r. LeavesSend m (record m { targets = after; work = new; refused = refused_by r }) steps [] rows row r) (sym told) (
      subst (λ ts. Sends (record m { targets = ts; work = new; refused = None }) (steps ++ []) now_rows) (sym same) h1,
      (ap all_stopped same ∙ open_, subst (λ ts. AreServed (record m { targets = ts; work = new; refused = None }) (steps ++ []) now_rows) (sym same) f1, ap (λ (x : Work). x.end) made, tt),
    ))
sent_by keys m after new steps rows row log now result ending calls h (puts w v open_ begun settles p) =
    let b = sends_begin m steps rows row w begun h in
    let c = sends_same (record m { work = w }) steps (handed m.work rows row) v settles.same b in
    let n = settles.next refl in
    put_by m v new after keys steps (handed m.work rows row) rows row m.work p.t log now result p.answer ending open_ calls refl p.at n.0 n.1 n.2 h c p.entry p.may p.makes

-- ---- an end

-- the receiver that is finished has all its chunks
finish_open : (m : Sender) (steps : List Step) (rows : List Line) (k : ℕ) (t : Target) (reply : PortReply) → IsIdle m.work → slice_get m.targets k ≡ Some t → is_over t ≡ false → Sends m steps rows
    → IsFinish m steps rows (record { entry = record { ask = Finish m.motion t.to; reply = reply }; rows = [] })
finish_open m steps rows k t reply idle at over h =
    let r = h.each k t at in
    let finished : t.finished ≡ false = left_false t.finished t.stopped over in
    let stopped : t.stopped ≡ false = right_false t.finished t.stopped over in
    record {
      place = k;
      t = t;
      at = at;
      ask = refl;
      stopped = sym r.stopped ∙ stopped;
      finished = sym r.finished ∙ finished;
      all = sym (append-nil (put_on m.motion t.to steps)) ∙ ap (λ l. put_on m.motion t.to steps ++ l) (sym (idle_left k m.work idle)) ∙ r.all stopped;
      rows_are = refl;
    }
  where
    left_false : (a b : Bool) → (a || b) ≡ false → a ≡ false
    left_false true b e = cc
    left_false false b e = refl

    right_false : (a b : Bool) → (a || b) ≡ false → b ≡ false
    right_false true b e = cc
    right_false false b e = e

-- some receiver isn't over
not_over : (targets : List Target) (k : ℕ) (t : Target) → slice_get targets k ≡ Some t → is_over t ≡ false → all_over targets ≡ false
not_over [] k t at over = cc
not_over (u ∷ targets) zero t at over = let one : u ≡ t = cc in ap (λ x. is_over x && all_over targets) one ∙ ap (λ b. b && all_over targets) over
not_over (u ∷ targets) (suc k) t at over = ap (λ b. is_over u && b) (not_over targets k t at over) ∙ end (is_over u)
  where
    end : (a : Bool) → (a && false) ≡ false
    end true = refl
    end false = refl

-- a finish doesn't stop anyone
same_stopped : (k : ℕ) (targets : List Target) → all_stopped (finish_at k targets) ≡ all_stopped targets
same_stopped k [] = refl
same_stopped zero (t ∷ targets) = refl
same_stopped (suc k) (t ∷ targets) = ap (λ b. t.stopped && b) (same_stopped k targets)

tells_done : (m : Sender) (s : Step) (b : Bool) → all_stopped m.targets ≡ false → all_over m.targets ≡ b → IsAnswered s.entry.reply → TellsEnd m (s ∷ []) (done_or_more b)
tells_done m s true open_ over answered = (open_, over, answered)
tells_done m s false open_ over answered = (open_, over, (s, refl, answered))

tells_stop : (m : Sender) (s : Step) (b : Bool) → all_stopped m.targets ≡ b → IsAnswered s.entry.reply → TellsEnd m (s ∷ []) (stopped_or b (done_or_more (all_over m.targets)))
tells_stop m s true all answered = (all, answered)
tells_stop m s false open_ answered = tells_done m s (all_over m.targets) open_ refl answered

ended : (m : Sender) (after : List Target) (steps : List Step) (rows : List Line) (r : Option MotionNo) → after ≡ m.targets → Sends m steps rows → Sends (record m { targets = after; ending = true; refused = r }) steps rows
ended m after steps rows r same h = subst (λ ts. Sends (record m { targets = ts; ending = true; refused = r }) steps rows) (sym same) (as_refused (record m { ending = true }) r steps rows (sends_ending m steps rows h))

-- a call that was refused, but for Stopped
ends_refused : (m : Sender) (after : List Target) (steps : List Step) (rows : List Line) (k : ℕ) (t : Target) (no_ : PortNo) (log now : List PortEntry) (result answer : Result Sent MotionNo) → calls_of steps ≡ log → IsIdle m.work → slice_get m.targets k ≡ Some t → is_over t ≡ false
    → Sends m steps rows → is_stopped (Refused no_) ≡ false → now ≡ log ++ record { ask = Finish m.motion t.to; reply = Refused no_ } ∷ [] → after ≡ m.targets → result ≡ answer
    → ((s : Step) → s.entry.reply ≡ Refused no_ → Sends (record m { targets = after; ending = true; refused = refused_by answer }) (steps ++ s ∷ []) rows → LeavesEnd (record m { targets = after; ending = true; refused = refused_by answer }) steps (s ∷ []) rows answer)
    → EndsAfter m (record m { targets = after; ending = true; refused = refused_by result }) steps rows now result
ends_refused m after steps rows k t no_ log now result answer calls idle at over h other entry same told leaves =
    let s : Step = record { entry = record { ask = Finish m.motion t.to; reply = Refused no_ }; rows = [] } in
    let h1 = sends_pass m steps s rows (λ to. mute_refused m.motion to (Finish m.motion t.to) no_ other) h in
    subst (λ r. EndsAfter m (record m { targets = after; ending = true; refused = refused_by r }) steps rows now r) (sym told) (record {
      more = s ∷ [];
      log = calls_more steps s log now calls entry;
      makes = finish_open m steps rows k t (Refused no_) idle at over h;
      leaves = leaves s refl (ended m after (steps ++ s ∷ []) rows (refused_by answer) same h1);
    })

ends_quiet : (m : Sender) (after : List Target) (steps : List Step) (rows : List Line) (log now : List PortEntry) (result answer : Result Sent MotionNo) → calls_of steps ≡ log → Sends m steps rows → now ≡ log → after ≡ m.targets → result ≡ answer
    → (Sends (record m { targets = after; ending = true; refused = refused_by answer }) (steps ++ []) rows → LeavesEnd (record m { targets = after; ending = true; refused = refused_by answer }) steps [] rows answer)
    → EndsAfter m (record m { targets = after; ending = true; refused = refused_by result }) steps rows now result
ends_quiet m after steps rows log now result answer calls h entry same told leaves =
    subst (λ r. EndsAfter m (record m { targets = after; ending = true; refused = refused_by r }) steps rows now r) (sym told) (record {
      more = [];
      log = calls_same steps log now calls entry;
      makes = tt;
      leaves = leaves (subst (λ x. Sends (record m { targets = after; ending = true; refused = refused_by answer }) x rows) (sym (append-nil steps)) (ended m after steps rows (refused_by answer) same h));
    })

ends_by : (keys : List ConnEnd) (m : Sender) (after : List Target) (steps : List Step) (rows : List Line) (k : ℕ) (t : Target) (answer : Result (Unit {0}) PortNo) (log now : List PortEntry) (result : Result Sent MotionNo) → calls_of steps ≡ log → IsIdle m.work
    → all_stopped m.targets ≡ false → slice_get m.targets k ≡ Some t → is_over t ≡ false → Sends m steps rows → now ≡ logged (Finish m.motion t.to) (did answer) log → IfErr answer (MayRefusePut keys m.motion t.to) → EndsBy m.targets after k result answer
    → EndsAfter m (record m { targets = after; ending = true; refused = refused_by result }) steps rows now result
unfolding finish_step stop_step
ends_by keys m after steps rows k t (Ok _) log now result calls idle open_ at over h entry may (made, told) =
    let s : Step = record { entry = record { ask = Finish m.motion t.to; reply = Did }; rows = [] } in
    let h1 = sends_finish m steps rows k t at h in
    let h2 : Sends (record m { targets = after; ending = true; refused = None }) (steps ++ s ∷ []) rows = subst (λ ts. Sends (record m { targets = ts; ending = true; refused = None }) (steps ++ s ∷ []) rows) (sym made) (as_refused (record m { targets = finish_at k m.targets; ending = true }) None (steps ++ s ∷ []) rows h1) in
    subst (λ r. EndsAfter m (record m { targets = after; ending = true; refused = refused_by r }) steps rows now r) (sym told) (record {
      more = s ∷ [];
      log = calls_more steps s log now calls entry;
      makes = finish_open m steps rows k t Did idle at over h;
      leaves = (h2, tells_done (record m { targets = after; ending = true; refused = None }) s (all_over after) (ap all_stopped made ∙ same_stopped k m.targets ∙ open_) refl tt);
    })
ends_by keys m after steps rows k t (Err Stopped) log now result calls idle open_ at over h entry may (made, told) =
    let s : Step = record { entry = record { ask = Finish m.motion t.to; reply = Refused Stopped }; rows = [] } in
    let h1 = sends_ending (record m { targets = stop_at k m.targets }) (steps ++ s ∷ []) rows (stop_by_finish m steps rows k t at h) in
    let h2 : Sends (record m { targets = after; ending = true; refused = None }) (steps ++ s ∷ []) rows = subst (λ ts. Sends (record m { targets = ts; ending = true; refused = None }) (steps ++ s ∷ []) rows) (sym made) (as_refused (record m { targets = stop_at k m.targets; ending = true }) None (steps ++ s ∷ []) rows h1) in
    subst (λ r. EndsAfter m (record m { targets = after; ending = true; refused = refused_by r }) steps rows now r) (sym told) (record {
      more = s ∷ [];
      log = calls_more steps s log now calls entry;
      makes = finish_open m steps rows k t (Refused Stopped) idle at over h;
      leaves = (h2, tells_stop (record m { targets = after; ending = true; refused = None }) s (all_stopped after) refl tt);
    })
ends_by keys m after steps rows k t (Err Full) log now result calls idle open_ at over h entry may (same, told) =
    ends_refused m after steps rows k t Full log now result (Ok (sent.Wait Full)) calls idle at over h refl entry same told (λ s is x. (x, (ap all_stopped same ∙ open_, ap all_over same ∙ not_over m.targets k t at over, (s, refl, is))))
ends_by keys m after steps rows k t (Err Busy) log now result calls idle open_ at over h entry may (same, told) =
    ends_quiet m after steps rows log now result (Ok (sent.Wait Busy)) calls h (entry ∙ append-nil log) same told (λ x. (x, (ap all_stopped same ∙ open_, ap all_over same ∙ not_over m.targets k t at over, refl)))
ends_by keys m after steps rows k t (Err (TooLong key)) log now result calls idle open_ at over h entry may (same, told) =
    ends_refused m after steps rows k t (TooLong key) log now result (Err (why.TooLong key)) calls idle at over h refl entry same told (λ s is x. (x, (s, refl, is)))
ends_by keys m after steps rows k t (Err Empty) log now result calls idle open_ at over h entry may w = absurd may
ends_by keys m after steps rows k t (Err Ended) log now result calls idle open_ at over h entry may w = absurd may
ends_by keys m after steps rows k t (Err Memory) log now result calls idle open_ at over h entry may (same, told) =
    ends_quiet m after steps rows log now result (Err why.Memory) calls h (entry ∙ append-nil log) same told (λ x. (x, tt))

pub ended_by : (keys : List ConnEnd) (m : Sender) (after : List Target) (steps : List Step) (rows : List Line) (log now : List PortEntry) (result : Result Sent MotionNo) → calls_of steps ≡ log → IsIdle m.work → Sends m steps rows → Ending keys m.motion m.targets after log now result
    → EndsAfter m (record m { targets = after; ending = true; refused = refused_by result }) steps rows now result
ended_by keys m after steps rows log now result calls idle h (had_stopped all same entry told) =
    ends_quiet m after steps rows log now result (Ok sent.AllStopped) calls h entry same told (λ x. (x, (ap all_stopped same ∙ all, tt)))
ended_by keys m after steps rows log now result calls idle h (was_over open_ over same entry told) =
    ends_quiet m after steps rows log now result (Ok sent.Done) calls h entry same told (λ x. (x, (ap all_stopped same ∙ open_, ap all_over same ∙ over, tt)))
ended_by keys m after steps rows log now result calls idle h (ends k t answer open_ at over entry may by) =
    ends_by keys m after steps rows k t answer log now result calls idle open_ at over h entry may by
