-- What is given of what is held, and why that is all.
use Rattle.std.proofs.Common.{◌≡◌, ℕ, zero, suc, ◌≤◌, ◌+◌, ◌-◌, length, ℤ, List, [], ◌∷◌, ◌++◌, map, Bool, true, false, ◌&&◌, cond, Option, Some, None, refl, ap, sym, ◌∙◌, subst, append-nil, append_assoc, arith}
use Rattle.std.specs.List.{flat_map, list_all, AllByRecursion}
use Rattle.std.specs.Prelude.{slice_get, ◌<ℤ◌}
use Rattle.std.specs.Ordering.{int_eq}
use Rattle.std.proofs.lemmas.Bool.Decides.{Decides-int_eq}
use Rattle.ic_row.specs.declared.value.Kind.{Kind}
use Rattle.ic_row.specs.declared.order.Key.{Key}
use Rattle.pl_ops.specs.Rows.{Line}
use Rattle.pl_ops.specs.Streams.{Stream}
use Rattle.pl_ops.specs.Merging.{Waits, choice_of, going_on, merge_stream, sorts_before}
use Rattle.pl_mean.specs.Merging.{left_by, left_after}
use Rattle.pl_mean.specs.Outputs.{Came, Input, rows_in, came_from, stream_from, steps_in, received}
use Rattle.pl_runs.specs.Steps.{Step}
use Rattle.pl_runs.specs.Wanting.{FromAny, FromOne, wants_of, first_unknown}
use Rattle.ic_motion.specs.declared.answers.Got.{Got}
use Rattle.ic_motion.specs.declared.picking.Pick.{Pick}
use Rattle.ic_motion.specs.declared.picking.Pick.TheVariants.{Row, Any, One, Nothing}
use Rattle.ic_motion.specs.Answers.{row_in}
use Rattle.ic_motion.specs.Hearing.{has_ended, heard_of, HasKinds, Lane, Listener, senders_of, streams_of, rows_of, Ascends, Merged, goes_on, Left, LaneHears, Hears}
use Rattle.ic_motion.specs.Picking.{first_in, first_at, without_first, pick_any, pick_least, pick_of, pop_at, answer_of, kept_by, row_or_more}
use Rattle.ic_motion.specs.Pulling.{given_of, Tells}
use Rattle.ic_motion.proofs.Lists.{int_differ, below_apart}
use Rattle.ic_motion.proofs.Picks.{pop_stream, streams_pop, IsOpen, Agrees, agrees, asks_first, Shows, shows, none_held}
use Rattle.ic_motion.proofs.Merges.{total, merged_count, merged_stream, merged_left}

-- ---- how many rows were taken

count_one : (c : Came) (took : List Came) (as_ : List ℤ) → AllByRecursion (λ b. c.from <ℤ b) as_
    → total (map (λ a. record { rows = came_from a (c ∷ took); ended = false }) as_) ≡ total (map (λ a. record { rows = came_from a took; ended = false }) as_)
unfolding total
count_one c took [] lt = refl
count_one c took (a ∷ as_) lt =
    ap (λ b. length (cond b (c.row ∷ came_from a took) (came_from a took)) + total (map (λ x. record { rows = came_from x (c ∷ took); ended = false }) as_)) (int_differ c.from a (below_apart c.from a lt.0))
    ∙ ap (λ n. length (came_from a took) + n) (count_one c took as_ lt.1)

counts_by : (b : Bool) (c : Came) (took : List Came) (a : ℤ) (n m : ℕ) → (b ≡ true → n ≡ m) → n ≤ suc m → length (cond b (c.row ∷ came_from a took) (came_from a took)) + n ≤ suc (length (came_from a took) + m)
counts_by true c took a n m same most = let is = same refl in omega (arith, is)
counts_by false c took a n m same most = omega (arith, most)

count_more : (c : Came) (took : List Came) (as_ : List ℤ) → Ascends as_
    → total (map (λ a. record { rows = came_from a (c ∷ took); ended = false }) as_) ≤ suc (total (map (λ a. record { rows = came_from a took; ended = false }) as_))
unfolding total
count_more c took [] up = omega arith
count_more c took (a ∷ as_) up =
    counts_by (int_eq c.from a) c took a (total (map (λ x. record { rows = came_from x (c ∷ took); ended = false }) as_)) (total (map (λ x. record { rows = came_from x took; ended = false }) as_))
    (λ is. count_one c took as_ (subst (λ x. AllByRecursion (λ b. x <ℤ b) as_) (sym ((Decides-int_eq c.from a).0 is)) up.0)) (count_more c took as_ up.1)

no_rows : (as_ : List ℤ) → total (map (λ a. record { rows = came_from a []; ended = false }) as_) ≤ 0
unfolding total
no_rows [] = omega arith
no_rows (a ∷ as_) = omega (arith, no_rows as_)

counts : (took : List Came) (as_ : List ℤ) → Ascends as_ → total (map (λ a. record { rows = came_from a took; ended = false }) as_) ≤ length took
counts [] as_ up = no_rows as_
counts (c ∷ took) as_ up = omega (arith, count_more c took as_ up, counts took as_ up)

same_total : (input : Input) (as_ : List ℤ) → total (map (stream_from input) as_) ≡ total (map (λ a. record { rows = came_from a input.took; ended = false }) as_)
unfolding total
same_total input [] = refl
same_total input (a ∷ as_) = ap (λ n. length (came_from a input.took) + n) (same_total input as_)

-- so many steps are left after the rows given, and one at least
pub steps_left : (before : Line → Line → Bool) (input : Input) (as_ : List ℤ) (given : List Line) (left : List Stream) → Ascends as_ → Merged before (map (stream_from input) as_) given left
    → (n : ℕ) × (steps_in input ≡ length given + suc n)
steps_left before input as_ given left up m =
    let all = merged_count before (map (stream_from input) as_) given left m in
    let most = counts input.took as_ up in
    let same = same_total input as_ in
    (length input.took - length given, omega (arith, all, most, same))

-- ---- what the motion has given

-- with an order, in terms of what is left
now_given : (keys : List Key) (input : Input) (as_ : List ℤ) (given : List Line) (left : List Stream) (n : ℕ) → Merged (sorts_before keys) (map (stream_from input) as_) given left → steps_in input ≡ length given + suc n
    → received (Some keys) as_ input ≡ record { rows = given ++ (going_on (merge_stream (sorts_before keys) n) (choice_of (sorts_before keys) left)).rows; ended = (going_on (merge_stream (sorts_before keys) n) (choice_of (sorts_before keys) left)).ended }
now_given keys input as_ given left n m many =
    ap (λ k. merge_stream (sorts_before keys) k (map (stream_from input) as_)) many ∙ merged_stream (sorts_before keys) (map (stream_from input) as_) given left (suc n) m

now_left : (keys : List Key) (input : Input) (as_ : List ℤ) (given : List Line) (left : List Stream) (n : ℕ) → Merged (sorts_before keys) (map (stream_from input) as_) given left → steps_in input ≡ length given + suc n
    → choice_of (sorts_before keys) left ≡ Waits → left_after (sorts_before keys) (steps_in input) (map (stream_from input) as_) ≡ left
now_left keys input as_ given left n m many waits =
    ap (λ k. left_after (sorts_before keys) k (map (stream_from input) as_)) many ∙ merged_left (sorts_before keys) (map (stream_from input) as_) given left (suc n) m
    ∙ ap (left_by left (left_after (sorts_before keys) n)) waits

pub senders_pop : (k : ℕ) (lanes : List Lane) → senders_of (pop_at k lanes) ≡ senders_of lanes
senders_pop k [] = refl
senders_pop zero (l ∷ lanes) = refl
senders_pop (suc k) (l ∷ lanes) = ap (λ as_. l.sender ∷ as_) (senders_pop k lanes)

-- what the steps say at a pick: a row is the next one; else all was given, and a take is wanted or nothing is
unfoldable pub Says : (order : Option (List Key)) (motion : ℕ) (as_ : List ℤ) (input : Input) (given : List Line) (lanes : List Lane) → Pick → Type 0
Says order motion as_ input given lanes (Row k) = (row : Line) × (rest : List Line) × (first_at k (streams_of lanes) ≡ Some row) × ((received order as_ input).rows ≡ (given ++ row ∷ []) ++ rest) × Left order (pop_at k lanes) input (given ++ row ∷ [])
Says order motion as_ input given lanes Any = (order ≡ None) × ((received order as_ input).rows ≡ given) × (wants_of motion order as_ input ≡ Some (FromAny motion)) × AllByRecursion (λ (l : Lane). l.rows ≡ []) lanes × ((received order as_ input).ended ≡ false)
Says order motion as_ input given lanes (One k) =
    (keys : List Key) × (a : ℤ) × (order ≡ Some keys) × ((received order as_ input).rows ≡ given) × (slice_get as_ k ≡ Some a) × (wants_of motion order as_ input ≡ Some (FromOne motion a)) × IsOpen k (streams_of lanes) × ((received order as_ input).ended ≡ false)
Says order motion as_ input given lanes Nothing = ((received order as_ input).rows ≡ given) × ((received order as_ input).ended ≡ true)

all_over : (motion : ℕ) (kinds : List Kind) (steps : List Step) (lanes : List Lane) → AllByRecursion (LaneHears motion kinds steps) lanes → list_all (has_ended motion steps) (senders_of lanes) ≡ list_all (λ (l : Lane). l.over) lanes
all_over motion kinds steps [] h = refl
all_over motion kinds steps (l ∷ lanes) h = ap (λ b. b && list_all (has_ended motion steps) (senders_of lanes)) (sym h.0.over) ∙ ap (λ b. l.over && b) (all_over motion kinds steps lanes h.1)

says_any : (motion : ℕ) (lanes : List Lane) (input : Input) (given : List Line) (pick : Pick) → rows_in input.took ≡ given ++ flat_map rows_of lanes
    → list_all input.whole (senders_of lanes) ≡ list_all (λ (l : Lane). l.over) lanes → Shows lanes pick → Says None motion (senders_of lanes) input given lanes pick
unfolding Shows Says
says_any motion lanes input given (Row k) left over (row, first, all) =
    let more : flat_map rows_of lanes ≡ row ∷ flat_map rows_of (pop_at k lanes) = all in
    let is : rows_in input.took ≡ (given ++ row ∷ []) ++ flat_map rows_of (pop_at k lanes) = left ∙ ap (λ l. given ++ l) more ∙ sym (append_assoc given (row ∷ []) (flat_map rows_of (pop_at k lanes))) in
    (row, flat_map rows_of (pop_at k lanes), first, is, is)
says_any motion lanes input given Any left over (none, open_) =
    let whole = over ∙ open_ in
    (refl, left ∙ ap (λ l. given ++ l) (none_held lanes none) ∙ append-nil given, ap (λ b. cond b None (Some (FromAny motion))) whole, none, whole)
says_any motion lanes input given (One k) left over h = absurd h
says_any motion lanes input given Nothing left over (none, all) = (left ∙ ap (λ l. given ++ l) (none_held lanes none) ∙ append-nil given, over ∙ all)

says_least : (motion : ℕ) (keys : List Key) (lanes : List Lane) (input : Input) (given : List Line) (pick : Pick) → Ascends (senders_of lanes) → Merged (sorts_before keys) (map (stream_from input) (senders_of lanes)) given (streams_of lanes)
    → pick_least (sorts_before keys) (streams_of lanes) ≡ pick → Agrees (sorts_before keys) (streams_of lanes) pick → Says (Some keys) motion (senders_of lanes) input given lanes pick
unfolding Agrees Says
says_least motion keys lanes input given (Row k) up m is (row, first, chosen) =
    let before = sorts_before keys in
    let n = steps_left before input (senders_of lanes) given (streams_of lanes) up m in
    let rest = (merge_stream before n.0 (pop_stream k (streams_of lanes))).rows in
    let now = ap (λ (s : Stream). s.rows) (now_given keys input (senders_of lanes) given (streams_of lanes) n.0 m n.1) in (
      row,
      rest,
      first,
      now ∙ ap (λ c. given ++ (going_on (merge_stream before n.0) c).rows) chosen ∙ sym (append_assoc given (row ∷ []) rest),
      subst (λ as_. Merged before (map (stream_from input) as_) (given ++ row ∷ []) (streams_of (pop_at k lanes))) (sym (senders_pop k lanes))
          (subst (Merged before (map (stream_from input) (senders_of lanes)) (given ++ row ∷ [])) (sym (streams_pop k lanes)) (goes_on given (streams_of lanes) (pop_stream k (streams_of lanes)) row m chosen)),
    )
says_least motion keys lanes input given Any up m is h = absurd h
says_least motion keys lanes input given (One k) up m is (waits, going) =
    let before = sorts_before keys in
    let n = steps_left before input (senders_of lanes) given (streams_of lanes) up m in
    let whole = now_given keys input (senders_of lanes) given (streams_of lanes) n.0 m n.1 in
    let now = ap (λ (s : Stream). s.rows) whole in
    let first = asks_first motion before lanes k is in (
      keys,
      first.0,
      refl,
      now ∙ ap (λ c. given ++ (going_on (merge_stream before n.0) c).rows) waits ∙ append-nil given,
      first.1,
      ap (first_unknown motion (senders_of lanes)) (now_left keys input (senders_of lanes) given (streams_of lanes) n.0 m n.1 waits) ∙ first.2,
      going,
      ap (λ (s : Stream). s.ended) whole ∙ ap (λ c. (going_on (merge_stream before n.0) c).ended) waits,
    )
says_least motion keys lanes input given Nothing up m is over =
    let before = sorts_before keys in
    let n = steps_left before input (senders_of lanes) given (streams_of lanes) up m in
    let now = now_given keys input (senders_of lanes) given (streams_of lanes) n.0 m n.1 in (
      ap (λ (s : Stream). s.rows) now ∙ ap (λ c. given ++ (going_on (merge_stream before n.0) c).rows) over ∙ append-nil given,
      ap (λ (s : Stream). s.ended) now ∙ ap (λ c. (going_on (merge_stream before n.0) c).ended) over,
    )

says_by : (order : Option (List Key)) (motion : ℕ) (kinds : List Kind) (steps : List Step) (lanes : List Lane) (given : List Line) → Ascends (senders_of lanes) → AllByRecursion (LaneHears motion kinds steps) lanes
    → Left order lanes (heard_of motion steps) given → Says order motion (senders_of lanes) (heard_of motion steps) given lanes (pick_of order (streams_of lanes))
says_by None motion kinds steps lanes given up each left = says_any motion lanes (heard_of motion steps) given (pick_any (streams_of lanes)) left (all_over motion kinds steps lanes each) (shows lanes)
says_by (Some keys) motion kinds steps lanes given up each left =
    says_least motion keys lanes (heard_of motion steps) given (pick_least (sorts_before keys) (streams_of lanes)) up left refl (agrees (sorts_before keys) (streams_of lanes))

pub says : (m : Listener) (steps : List Step) (given : List Line) → Hears m steps given → Says m.order m.end.motion (senders_of m.lanes) (heard_of m.end.motion steps) given m.lanes (pick_of m.order (streams_of m.lanes))
says m steps given h = says_by m.order m.end.motion m.kinds steps m.lanes given h.ascend h.each h.left

-- ---- a row that is given

fit_rest : (kinds : List Kind) (rows : List Line) → AllByRecursion (HasKinds kinds) rows → AllByRecursion (HasKinds kinds) (without_first rows)
fit_rest kinds [] h = tt
fit_rest kinds (row ∷ rows) h = h.1

lane_pop : (motion : ℕ) (kinds : List Kind) (steps : List Step) (l : Lane) → LaneHears motion kinds steps l → LaneHears motion kinds steps (record l { rows = without_first l.rows })
lane_pop motion kinds steps l h = record { stands = h.stands; over = h.over; halted = h.halted; fit = fit_rest kinds l.rows h.fit }

lanes_pop : (motion : ℕ) (kinds : List Kind) (steps : List Step) (k : ℕ) (lanes : List Lane) → AllByRecursion (LaneHears motion kinds steps) lanes → AllByRecursion (LaneHears motion kinds steps) (pop_at k lanes)
lanes_pop motion kinds steps k [] h = tt
lanes_pop motion kinds steps zero (l ∷ lanes) h = (lane_pop motion kinds steps l h.0, h.1)
lanes_pop motion kinds steps (suc k) (l ∷ lanes) h = (h.0, lanes_pop motion kinds steps k lanes h.1)

first_fits : (kinds : List Kind) (rows : List Line) (row : Line) → first_in rows ≡ Some row → AllByRecursion (HasKinds kinds) rows → HasKinds kinds row
first_fits kinds [] row is h = cc
first_fits kinds (r ∷ rows) row is h = let one : r ≡ row = cc in subst (HasKinds kinds) one h.0

row_fits : (motion : ℕ) (kinds : List Kind) (steps : List Step) (k : ℕ) (lanes : List Lane) (row : Line) → AllByRecursion (LaneHears motion kinds steps) lanes → first_at k (streams_of lanes) ≡ Some row → HasKinds kinds row
row_fits motion kinds steps k [] row h is = cc
row_fits motion kinds steps zero (l ∷ lanes) row h is = first_fits kinds l.rows row is h.0.fit
row_fits motion kinds steps (suc k) (l ∷ lanes) row h is = row_fits motion kinds steps k lanes row h.1 is

-- what is given without a call, and what the state matches then
pub record Shown (m : Listener) (new : List Lane) (steps : List Step) (given : List Line) (answer : Got) : Type 0 where
  pub hears : Hears (record m { lanes = new }) steps (given ++ row_in answer)
  pub tells : Tells m (given_of m steps) given answer
  pub senders : senders_of new ≡ senders_of m.lanes

shown_by : (m : Listener) (steps : List Step) (given : List Line) (pick : Pick) → Hears m steps given → Says m.order m.end.motion (senders_of m.lanes) (heard_of m.end.motion steps) given m.lanes pick
    → Shown m (kept_by pick m.lanes) steps given (answer_of pick m.lanes)
unfolding Says
shown_by m steps given (Row k) h (row, rest, first, now, left) =
    subst (Shown m (pop_at k m.lanes) steps given) (sym (ap row_or_more first)) (record {
      hears = record {
        ascend = subst Ascends (sym (senders_pop k m.lanes)) h.ascend;
        each = lanes_pop m.end.motion m.kinds steps k m.lanes h.each;
        left = left;
        fit = h.fit;
      };
      tells = (rest, now, row_fits m.end.motion m.kinds steps k m.lanes row h.each first);
      senders = senders_pop k m.lanes;
    })
shown_by m steps given Any h (none, all, wants, empty, open_) = record { hears = subst (Hears m steps) (sym (append-nil given)) h; tells = all; senders = refl }
shown_by m steps given (One k) h (keys, a, is, all, at, wants, going, open_) = record { hears = subst (Hears m steps) (sym (append-nil given)) h; tells = all; senders = refl }
shown_by m steps given Nothing h (all, ended) = record { hears = subst (Hears m steps) (sym (append-nil given)) h; tells = (all, ended); senders = refl }

pub shown : (m : Listener) (steps : List Step) (given : List Line) → Hears m steps given → Shown m (kept_by (pick_of m.order (streams_of m.lanes)) m.lanes) steps given (answer_of (pick_of m.order (streams_of m.lanes)) m.lanes)
shown m steps given h = shown_by m steps given (pick_of m.order (streams_of m.lanes)) h (says m steps given h)
