-- The seven points as a function: what it refuses is no run.
use Rattle.std.specs.Prelude.{Bool, true, false, not, ◌&&◌, ◌||◌, ◌==◌, List, [], ◌∷◌, ◌++◌, Option, Some, None}
use Rattle.std.specs.List.{list_all}
use Rattle.std.specs.Ordering.{int_eq}
use Rattle.std.specs.Str.{bytes_eq}
use Rattle.std.specs.Cmp.Lexicographic.{pointwise}
use Rattle.ic_row.specs.declared.value.Value.{Value}
use Rattle.ic_row.specs.declared.value.Value.TheVariants.{Null, Int, Wide, Chars}
use Rattle.pl_plan.specs.Motions.{Link}
use Rattle.pl_ops.specs.Rows.{Line}
use Rattle.pl_runs.specs.Steps.{Step, sends_on, put_on, finishes, finished_on, stopped_on, is_halt, repeats}
use Rattle.pl_runs.specs.Slices.{Worker, sending, receiving, output_of, chunks_for}
use Rattle.pl_runs.specs.Wanting.{Want, FromAny, FromOne, want_in, wanted_by}
use Rattle.pl_runs.specs.Runs.{Course, is_root, may_halt, is_sent, is_heard}

-- ---- lists

abbrev pub begins : {A : Type 0} → (A → A → Bool) → List A → List A → Bool
begins eq [] ys = true
begins eq (x ∷ xs) [] = false
begins eq (x ∷ xs) (y ∷ ys) = eq x y && begins eq xs ys

-- of one kind and the same; a null is the same as a null
abbrev pub same_value : Value → Value → Bool
same_value Null Null = true
same_value (Int a) (Int b) = int_eq a b
same_value (Wide a) (Wide b) = int_eq a b
same_value (Chars a) (Chars b) = bytes_eq a b
same_value _ _ = false

abbrev pub same_row : Line → Line → Bool
same_row a b = pointwise same_value a b

abbrev pub if_so : Bool → Bool → Bool
if_so a b = not a || b

-- each call passes, given the calls before it
abbrev pub every : (List Step → Step → Bool) → List Step → List Step → Bool
every test before [] = true
every test before (s ∷ after) = test before s && every test (before ++ s ∷ []) after

-- ---- the points

abbrev pub puts_next : Worker → List Step → Step → Bool
puts_next w before s = list_all (λ (l : Link). begins bytes_eq (put_on l.motion l.to (before ++ s ∷ [])) (chunks_for w before l.to)) (sending w)

abbrev pub ends_with : Worker → List Step → Step → Link → Bool
ends_with w before s l =
    if_so (finishes l.motion l.to s) ((output_of w before).ended && pointwise bytes_eq (chunks_for w before l.to) (put_on l.motion l.to before))
    && if_so (sends_on l.motion l.to s.entry.ask) (not (finished_on l.motion l.to before))

abbrev pub finishes_last : Worker → List Step → Step → Bool
finishes_last w before s = list_all (ends_with w before s) (sending w)

abbrev pub halts_late : Worker → List Step → Step → Bool
halts_late w before s = if_so (is_halt s.entry.ask) (may_halt w before)

abbrev pub lets_out : Worker → Course → Bool
lets_out w c =
    if_so (is_root w) (begins same_row c.let_out (output_of w c.steps).rows && if_so c.done (pointwise same_row (output_of w c.steps).rows c.let_out))
    && if_so (not (is_root w)) (begins same_row c.let_out [])

abbrev pub is_over : Worker → List Step → Bool
is_over w steps = list_all (is_sent steps) (sending w) && (list_all (is_heard steps) (receiving w) && if_so (is_root w) (output_of w steps).ended)

abbrev pub only_once : List Step → Step → Bool
only_once before s = not (repeats before s.entry.ask s.entry.reply)

abbrev pub is_this : Want → Option Want → Bool
is_this want None = false
is_this (FromAny m) (Some (FromAny k)) = m == k
is_this (FromAny m) (Some (FromOne k b)) = false
is_this (FromOne m a) (Some (FromAny k)) = false
is_this (FromOne m a) (Some (FromOne k b)) = (m == k) && int_eq a b

abbrev pub is_served : Worker → List Step → Link → Bool
is_served w before l = if_so (not (stopped_on l.motion l.to before)) (pointwise bytes_eq (chunks_for w before l.to) (put_on l.motion l.to before))

abbrev pub takes_by : Worker → List Step → Option Want → Bool
takes_by w before None = true
takes_by w before (Some want) = is_this want (wanted_by w before) && list_all (is_served w before) (sending w)

abbrev pub takes_wanted : Worker → List Step → Step → Bool
takes_wanted w before s = takes_by w before (want_in s.entry.ask)

-- ---- the run

abbrev pub is_run : Worker → Course → Bool
is_run w c =
    every (puts_next w) [] c.steps && (every (finishes_last w) [] c.steps && (every (halts_late w) [] c.steps && (lets_out w c
    && (if_so c.done (is_over w c.steps) && (every only_once [] c.steps && every (takes_wanted w) [] c.steps)))))
