-- The seven points and their check.
use Rattle.std.proofs.Common.{◌≡◌, ◌==◌, List, [], ◌∷◌, ◌++◌, Bool, true, not, ◌&&◌, Option, Some, None, refl, ap, sym, ◌∙◌, subst}
use Rattle.std.specs.List.{list_all, AllByRecursion}
use Rattle.std.specs.Cmp.Lexicographic.{pointwise}
use Rattle.std.specs.Ordering.{int_eq}
use Rattle.std.specs.Str.{bytes_eq}
use Rattle.std.proofs.lemmas.Bool.Decides.{Decides-eqb, Decides-int_eq}
use Rattle.pl_plan.specs.Motions.{Link}
use Rattle.pl_ops.specs.Rows.{Line}
use Rattle.pl_runs.specs.Steps.{Step, sends_on, put_on, finishes, finished_on, stopped_on, is_halt, repeats}
use Rattle.pl_runs.specs.Slices.{Worker, sending, receiving, output_of, chunks_for}
use Rattle.pl_runs.specs.Wanting.{Want, FromAny, FromOne, want_in, wanted_by}
use Rattle.pl_runs.specs.Runs.{Course, PutsNext, EndsWith, LetsOut, IsOver, IsServed, TakesWanted, SliceRun, is_root, may_halt, is_sent, is_heard}
use Rattle.pl_runs.specs.Checking.{begins, same_row, if_so, every, puts_next, ends_with, finishes_last, halts_late, lets_out, is_over, only_once, is_this, is_served, takes_by, takes_wanted, is_run}
use Rattle.pl_runs.proofs.Deciding.{both, joined, if_so-from, if_so-to, not-from, not-to, bytes_decide, chunks_decide, row_decide, rows_decide, begins-from, begins-to, all-from, all-to, every-from, every-to}

-- ---- sending

puts-from : (w : Worker) (before : List Step) (s : Step) → PutsNext w before s → puts_next w before s ≡ true
puts-from w before s all = all-from (λ (l : Link) front. begins-from bytes_decide (put_on l.motion l.to (before ++ s ∷ [])) (chunks_for w before l.to) front) (sending w) all

puts-to : (w : Worker) (before : List Step) (s : Step) → puts_next w before s ≡ true → PutsNext w before s
puts-to w before s e = all-to (λ (l : Link) front. begins-to bytes_decide (put_on l.motion l.to (before ++ s ∷ [])) (chunks_for w before l.to) front) (sending w) e

abbrev has_ended : Worker → List Step → Link → Bool
has_ended w before l = (output_of w before).ended && pointwise bytes_eq (chunks_for w before l.to) (put_on l.motion l.to before)

end-from : (w : Worker) (before : List Step) (s : Step) (l : Link) → EndsWith w before s l → ends_with w before s l ≡ true
end-from w before s l is =
    joined (if_so (finishes l.motion l.to s) (has_ended w before l)) (if_so (sends_on l.motion l.to s.entry.ask) (not (finished_on l.motion l.to before)))
    (if_so-from (finishes l.motion l.to s) (has_ended w before l) (λ e. joined (output_of w before).ended (pointwise bytes_eq (chunks_for w before l.to) (put_on l.motion l.to before)) (is.ended e) ((chunks_decide (chunks_for w before l.to) (put_on l.motion l.to before)).1 (is.all e))))
    (if_so-from (sends_on l.motion l.to s.entry.ask) (not (finished_on l.motion l.to before)) (λ e. not-from (finished_on l.motion l.to before) (is.last e)))

end-to : (w : Worker) (before : List Step) (s : Step) (l : Link) → ends_with w before s l ≡ true → EndsWith w before s l
end-to w before s l e =
    let b = both (if_so (finishes l.motion l.to s) (has_ended w before l)) (if_so (sends_on l.motion l.to s.entry.ask) (not (finished_on l.motion l.to before))) e in
    record {
      ended = λ d. (both (output_of w before).ended (pointwise bytes_eq (chunks_for w before l.to) (put_on l.motion l.to before)) (if_so-to (finishes l.motion l.to s) (has_ended w before l) b.0 d)).0;
      all = λ d. (chunks_decide (chunks_for w before l.to) (put_on l.motion l.to before)).0 (both (output_of w before).ended (pointwise bytes_eq (chunks_for w before l.to) (put_on l.motion l.to before)) (if_so-to (finishes l.motion l.to s) (has_ended w before l) b.0 d)).1;
      last = λ d. not-to (finished_on l.motion l.to before) (if_so-to (sends_on l.motion l.to s.entry.ask) (not (finished_on l.motion l.to before)) b.1 d);
    }

-- ---- the root's rows, and the end

abbrev lets_front : Worker → Course → Bool
lets_front w c = begins same_row c.let_out (output_of w c.steps).rows && if_so c.done (pointwise same_row (output_of w c.steps).rows c.let_out)

nothing : (rows : List Line) → begins same_row rows [] ≡ true → rows ≡ []
nothing [] d = refl
nothing (row ∷ rows) d = absurd (cc)

none-to : (w : Worker) (c : Course) → begins same_row c.let_out [] ≡ true → c.let_out ≡ []
none-to w c e = nothing c.let_out e

lets-from : (w : Worker) (c : Course) → LetsOut w c → lets_out w c ≡ true
lets-from w c is =
    joined (if_so (is_root w) (lets_front w c)) (if_so (not (is_root w)) (begins same_row c.let_out []))
    (if_so-from (is_root w) (lets_front w c) (λ e.
    joined (begins same_row c.let_out (output_of w c.steps).rows) (if_so c.done (pointwise same_row (output_of w c.steps).rows c.let_out))
    (begins-from row_decide c.let_out (output_of w c.steps).rows (is.front e))
    (if_so-from c.done (pointwise same_row (output_of w c.steps).rows c.let_out) (λ d. (rows_decide (output_of w c.steps).rows c.let_out).1 (is.all e d)))))
    (if_so-from (not (is_root w)) (begins same_row c.let_out []) (λ e. subst (λ l. begins same_row l [] ≡ true) (sym (is.none (not-to (is_root w) e))) refl))

lets-to : (w : Worker) (c : Course) → lets_out w c ≡ true → LetsOut w c
lets-to w c e =
    let b = both (if_so (is_root w) (lets_front w c)) (if_so (not (is_root w)) (begins same_row c.let_out [])) e in
    record {
      front = λ d. begins-to row_decide c.let_out (output_of w c.steps).rows (both (begins same_row c.let_out (output_of w c.steps).rows) (if_so c.done (pointwise same_row (output_of w c.steps).rows c.let_out)) (if_so-to (is_root w) (lets_front w c) b.0 d)).0;
      all = λ d f. (rows_decide (output_of w c.steps).rows c.let_out).0 (if_so-to c.done (pointwise same_row (output_of w c.steps).rows c.let_out) (both (begins same_row c.let_out (output_of w c.steps).rows) (if_so c.done (pointwise same_row (output_of w c.steps).rows c.let_out)) (if_so-to (is_root w) (lets_front w c) b.0 d)).1 f);
      none = λ d. none-to w c (if_so-to (not (is_root w)) (begins same_row c.let_out []) b.1 (not-from (is_root w) d));
    }

over-from : (w : Worker) (steps : List Step) → IsOver w steps → is_over w steps ≡ true
over-from w steps is =
    joined (list_all (is_sent steps) (sending w)) (list_all (is_heard steps) (receiving w) && if_so (is_root w) (output_of w steps).ended) is.sent
    (joined (list_all (is_heard steps) (receiving w)) (if_so (is_root w) (output_of w steps).ended) is.heard (if_so-from (is_root w) (output_of w steps).ended is.ended))

over-to : (w : Worker) (steps : List Step) → is_over w steps ≡ true → IsOver w steps
over-to w steps e =
    let b = both (list_all (is_sent steps) (sending w)) (list_all (is_heard steps) (receiving w) && if_so (is_root w) (output_of w steps).ended) e in
    let d = both (list_all (is_heard steps) (receiving w)) (if_so (is_root w) (output_of w steps).ended) b.1 in
    record { sent = b.0; heard = d.0; ended = if_so-to (is_root w) (output_of w steps).ended d.1 }

-- ---- takes

this-same : (want : Want) → is_this want (Some want) ≡ true
this-same (FromAny m) = (Decides-eqb m m).1 refl
this-same (FromOne m a) = joined (m == m) (int_eq a a) ((Decides-eqb m m).1 refl) ((Decides-int_eq a a).1 refl)

this-from : (want : Want) (o : Option Want) → o ≡ Some want → is_this want o ≡ true
this-from want o e = subst (λ x. is_this want x ≡ true) (sym e) (this-same want)

this-to : (want : Want) (o : Option Want) → is_this want o ≡ true → o ≡ Some want
this-to want None e = absurd (cc)
this-to (FromAny m) (Some (FromAny k)) e = ap (λ x. Some (FromAny x)) (sym ((Decides-eqb m k).0 e))
this-to (FromAny m) (Some (FromOne k b)) e = absurd (cc)
this-to (FromOne m a) (Some (FromAny k)) e = absurd (cc)
this-to (FromOne m a) (Some (FromOne k b)) e =
    let d = both (m == k) (int_eq a b) e in ap (λ x. Some (FromOne x b)) (sym ((Decides-eqb m k).0 d.0)) ∙ ap (λ x. Some (FromOne m x)) (sym ((Decides-int_eq a b).0 d.1))

served-from : (w : Worker) (before : List Step) (l : Link) → IsServed w before l → is_served w before l ≡ true
served-from w before l is =
    if_so-from (not (stopped_on l.motion l.to before)) (pointwise bytes_eq (chunks_for w before l.to) (put_on l.motion l.to before))
    (λ e. (chunks_decide (chunks_for w before l.to) (put_on l.motion l.to before)).1 (is (not-to (stopped_on l.motion l.to before) e)))

served-to : (w : Worker) (before : List Step) (l : Link) → is_served w before l ≡ true → IsServed w before l
served-to w before l e d =
    (chunks_decide (chunks_for w before l.to) (put_on l.motion l.to before)).0
    (if_so-to (not (stopped_on l.motion l.to before)) (pointwise bytes_eq (chunks_for w before l.to) (put_on l.motion l.to before)) e (not-from (stopped_on l.motion l.to before) d))

taken-from : (w : Worker) (before : List Step) (o : Option Want) → ((want : Want) → o ≡ Some want → wanted_by w before ≡ Some want) → ((want : Want) → o ≡ Some want → AllByRecursion (IsServed w before) (sending w)) → takes_by w before o ≡ true
taken-from w before None wanted served = refl
taken-from w before (Some want) wanted served =
    joined (is_this want (wanted_by w before)) (list_all (is_served w before) (sending w)) (this-from want (wanted_by w before) (wanted want refl)) (all-from (served-from w before) (sending w) (served want refl))

taken-to : (w : Worker) (before : List Step) (o : Option Want) → takes_by w before o ≡ true → (want : Want) → o ≡ Some want → (wanted_by w before ≡ Some want) × AllByRecursion (IsServed w before) (sending w)
taken-to w before o e want is =
    let d = both (is_this want (wanted_by w before)) (list_all (is_served w before) (sending w)) (subst (λ x. takes_by w before x ≡ true) is e) in
    (this-to want (wanted_by w before) d.0, all-to (served-to w before) (sending w) d.1)

takes-from : (w : Worker) (before : List Step) (s : Step) → TakesWanted w before s → takes_wanted w before s ≡ true
takes-from w before s is = taken-from w before (want_in s.entry.ask) is.wanted is.served

takes-to : (w : Worker) (before : List Step) (s : Step) → takes_wanted w before s ≡ true → TakesWanted w before s
takes-to w before s e = record { wanted = λ want is. (taken-to w before (want_in s.entry.ask) e want is).0; served = λ want is. (taken-to w before (want_in s.entry.ask) e want is).1 }

-- ---- the run

abbrev last_points : Worker → Course → Bool
last_points w c = if_so c.done (is_over w c.steps) && (every only_once [] c.steps && every (takes_wanted w) [] c.steps)

abbrev later_points : Worker → Course → Bool
later_points w c = every (halts_late w) [] c.steps && (lets_out w c && last_points w c)

pub run-from : (w : Worker) (c : Course) → SliceRun w c → is_run w c ≡ true
run-from w c is =
    joined (every (puts_next w) [] c.steps) (every (finishes_last w) [] c.steps && later_points w c) (every-from (puts-from w) c.steps is.puts)
    (joined (every (finishes_last w) [] c.steps) (later_points w c) (every-from (λ before s all. all-from (end-from w before s) (sending w) all) c.steps is.finishes)
    (joined (every (halts_late w) [] c.steps) (lets_out w c && last_points w c) (every-from (λ before s f. if_so-from (is_halt s.entry.ask) (may_halt w before) f) c.steps is.halts)
    (joined (lets_out w c) (last_points w c) (lets-from w c is.lets_out)
    (joined (if_so c.done (is_over w c.steps)) (every only_once [] c.steps && every (takes_wanted w) [] c.steps) (if_so-from c.done (is_over w c.steps) (λ e. over-from w c.steps (is.over e)))
    (joined (every only_once [] c.steps) (every (takes_wanted w) [] c.steps) (every-from (λ before s e. not-from (repeats before s.entry.ask s.entry.reply) e) c.steps is.once)
    (every-from (takes-from w) c.steps is.takes))))))

pub run-to : (w : Worker) (c : Course) → is_run w c ≡ true → SliceRun w c
run-to w c e =
    let a = both (every (puts_next w) [] c.steps) (every (finishes_last w) [] c.steps && later_points w c) e in
    let b = both (every (finishes_last w) [] c.steps) (later_points w c) a.1 in
    let d = both (every (halts_late w) [] c.steps) (lets_out w c && last_points w c) b.1 in
    let f = both (lets_out w c) (last_points w c) d.1 in
    let g = both (if_so c.done (is_over w c.steps)) (every only_once [] c.steps && every (takes_wanted w) [] c.steps) f.1 in
    let h = both (every only_once [] c.steps) (every (takes_wanted w) [] c.steps) g.1 in
    record {
      puts = every-to (puts-to w) c.steps a.0;
      finishes = every-to (λ before s x. all-to (end-to w before s) (sending w) x) c.steps b.0;
      halts = every-to (λ before s x. if_so-to (is_halt s.entry.ask) (may_halt w before) x) c.steps d.0;
      lets_out = lets-to w c f.0;
      over = λ x. over-to w c.steps (if_so-to c.done (is_over w c.steps) g.0 x);
      once = every-to (λ before s x. not-to (repeats before s.entry.ask s.entry.reply) x) c.steps h.0;
      takes = every-to (takes-to w) c.steps h.1;
    }
