-- A tree and the worker's steps: what it gave is a front of its output, and a step that says nothing of its motions leaves it
-- as it is.
use Rattle.std.proofs.Common.{◌≡◌, ℕ, ◌+◌, ◌≤◌, Bool, true, false, cond, ℤ, List, [], ◌∷◌, ◌++◌, length, take, drop, Option, Some, None, refl, sym, ap, ◌∙◌, subst, inl, inr, arith, append-nil, append_assoc}
use Rattle.std.specs.Prelude.{nat_le, map, ◌||◌, ◌&&◌, ◌⊎◌, ◌==◌}
use Rattle.std.specs.List.{list_any}
use Rattle.std.specs.Ordering.{int_eq}
use Rattle.std.proofs.lemmas.List.{take_all}
use Rattle.std.proofs.lemmas.Bool.Decides.{nat_tests}
use Rattle.pl_tree.specs.declared.node.Pair.{Pair}
use Rattle.pl_ops.specs.Rows.{Line, join_rows, sort_rows}
use Rattle.pl_ops.specs.Groups.{aggregate_rows, final_rows}
use Rattle.pl_tree.specs.declared.node.Call.{Call}
use Rattle.ex_agg.specs.Grouped.{whole}
use Rattle.ex_agg.proofs.Running.{rows_are}
use Rattle.pl_ops.specs.Streams.{Stream, silent, at_end, join_stream}
use Rattle.pl_ops.specs.Giving.{IsAll, IsOver}
use Rattle.ic_base.specs.declared.datagram.Parcel.{Parcel}
use Rattle.ic_base.specs.declared.port.PortAsk.{PortAsk}
use Rattle.ic_base.specs.declared.port.PortAsk.TheVariants.{Put, Finish, Take, TakeFrom, Halt}
use Rattle.pl_runs.specs.Steps.{Step, takes_of, parcels_in, parcels_by, is_ended, is_take, is_take_from, halts_from}
use Rattle.pl_mean.specs.Outputs.{received}
use Rattle.ic_motion.specs.declared.answers.Got.{Got}
use Rattle.ic_motion.specs.declared.answers.Got.TheVariants as got
use Rattle.ic_motion.specs.Hearing.{Listener, senders_of, heard_of}
use Rattle.ic_motion.specs.Hearing as hearing
use Rattle.ic_motion.specs.Pulling.{given_of, Tells}
use Rattle.ic_motion.specs.Picking.{pick_of, answer_of}
use Rattle.ic_motion.proofs.Readings.{ends_in}
use Rattle.ic_motion.proofs.Shown.{shown}
use Rattle.ic_motion.proofs.Steps.{IsSilent, hears_pass}
use Rattle.ex_tree.proofs.Heard.{came_heard, input_pass, uncut_pass}
use Rattle.ex_basic.specs.Scans.{Scanning, scan_stream}
use Rattle.ex_basic.specs.Limits as limits
use Rattle.ex_basic.specs.Sorts as sorts
use Rattle.ex_agg.specs.Aggs as aggs
use Rattle.ex_join.specs.Joins.{Joining}
use Rattle.ex_join.specs.Joins as joins
use Rattle.ex_join.proofs.Steps.{join_nil}
use Rattle.ex_tree.specs.declared.op.Op.{Op}
use Rattle.ex_tree.specs.declared.op.Op.TheVariants as ops
use Rattle.ex_tree.specs.Parts.{Single, Source, Part, Rows, Hears, Over, Joins, Has, came, out, one_stream, AreApart, Filters, Projects, Limits, Sorts, Groups}
use Rattle.ex_tree.specs.Operators.{Gives}
use Rattle.ex_tree.specs.Running.{State, Scans, Ears, One, Two, Runs, RunsOne, RunsTwo, Asked, Holds, source_of}
use Rattle.ex_tree.proofs.Fronts.{Begins, begins_on, IsFront, single_front, join_front}

-- ---- fronts

given_front : (Child : List Line → Type 0) (all given : Stream) → ((b : List Line) → Child b → Begins b all.rows) → Asked Child all given → IsFront given all
given_front Child all given f r =
    let x = f given.rows r.runs in
    record {
      rest = x.0;
      longer = x.1;
      ended = λ e. let o = r.over e in (o.ended, none given.rows x.0 (sym x.1 ∙ sym o.rows));
    }
  where
    none : (xs ys : List Line) → xs ++ ys ≡ xs → ys ≡ []
    none [] ys h = h
    none (x ∷ xs) ys h = none xs ys (cc)

tells_begin : (m : Listener) (now : Stream) (given : List Line) (g : Got) → Tells m now given g → Begins given now.rows
tells_begin m now given (got.Row row) (rest, is, fit) = (row ∷ rest, is ∙ append_assoc given (row ∷ []) rest)
tells_begin m now given got.More is = ([], is ∙ sym (append-nil given))
tells_begin m now given (got.Wait no_) is = ([], is ∙ sym (append-nil given))
tells_begin m now given got.End (is, over) = ([], is ∙ sym (append-nil given))

hears_begin : (m : Listener) (steps : List Step) (given : List Line) → hearing.Hears m steps given → Begins given (given_of m steps).rows
hears_begin m steps given h = tells_begin m (given_of m steps) given (answer_of (pick_of m.order (hearing.streams_of m.lanes)) m.lanes) (shown m steps given h).tells

end_begins : (f : List Line → List Line) (s : Stream) (a rest : List Line) → (s.ended ≡ false → a ≡ []) → (s.ended ≡ true → a ++ rest ≡ f s.rows) → Begins a (at_end f s).rows
end_begins f s a rest none all = by s.ended refl
  where
    by : (b : Bool) → s.ended ≡ b → Begins a (cond b (record { rows = f s.rows; ended = true }) silent).rows
    by true e = (rest, sym (all e))
    by false e = ([], sym (append-nil a ∙ none e))

all_groups : (final : Bool) (group : List ℕ) (calls : List Call) (o : aggs.Grouping) (s : Stream) (a : List Line) → aggs.Gives final group calls o s a → a ++ o.pending ≡ aggs.rows_of final group calls s.rows
all_groups final group calls o s a g = g.rows ∙ ap (map whole) g.groups ∙ rows_are final group calls s.rows

single_begins : (p : Single) (op : Op) (s : Stream) (a : List Line) → Gives p op s a → Begins a (one_stream p s).rows
single_begins p (ops.Filter o) s a (test, is, g) = subst (λ q. Begins a (one_stream q s).rows) (sym is) (o.pending, sym g.rows)
single_begins p (ops.Project o) s a (columns, is, g) = subst (λ q. Begins a (one_stream q s).rows) (sym is) (o.pending, sym g.rows)
single_begins p (ops.Limit o) s a (count, is, g) = subst (λ q. Begins a (one_stream q s).rows) (sym is) (o.pending, take_all count s.rows (let e = g.left in omega arith) ∙ sym g.rows)
single_begins p (ops.Sort o) s a (keys, is, g) =
    subst (λ q. Begins a (one_stream q s).rows) (sym is) (end_begins (sort_rows keys) s a o.kept g.none_before (λ e. g.rows ∙ ap (λ b. sorts.in_turn keys b s.rows) e))
single_begins p (ops.Agg o node) s a (final, group, calls, going, is, g) = subst (λ q. Begins a (one_stream q s).rows) (sym is) (by final g)
  where
    by : (final : Bool) → aggs.Gives final group calls o s a → Begins a (aggs.out final group calls s).rows
    by true g = end_begins (final_rows group calls) s a o.pending g.none_before (λ e. all_groups true group calls o s a g)
    by false g = end_begins (aggregate_rows group calls) s a o.pending g.none_before (λ e. all_groups false group calls o s a g)

join_begins : (on : List Pair) (j : Joining) (l r : Stream) (a : List Line) → joins.Gives on j l r a → Begins a (join_stream on r l).rows
join_begins on j l r a g = by r.ended refl
  where
    nothing : r.ended ≡ false → a ++ j.pending ≡ []
    nothing e = g.rows ∙ ap (join_rows on r.rows) (g.none_before e) ∙ join_nil on r.rows

    by : (b : Bool) → r.ended ≡ b → Begins a (cond b (record { rows = join_rows on r.rows l.rows; ended = l.ended }) silent).rows
    by true e = (j.pending, sym g.rows)
    by false e = (j.pending, sym (nothing e))

-- what a tree gave is a front of its output
pub runs_begin : (part : Part) (st : State) (steps : List Step) (a : List Line) → Runs part st steps a → Begins a (out part steps).rows
runs_begin part (Scans scan) steps a (rows, is, g) = subst (λ q. Begins a (out q steps).rows) (sym is) (scan.pending, sym g)
runs_begin part (Ears m) steps a (is, h) =
    subst (λ q. Begins a (out q steps).rows) (sym is) (subst (λ (s : Stream). Begins a s.rows) (came_heard m steps h.uncut) (hears_begin m steps a h.hears))
runs_begin part (One op x) steps a (p, c, is, r) =
    let f = single_front p r.given (out c steps) (given_front (Runs c x steps) (out c steps) r.given (runs_begin c x steps) r.child) in
    subst (λ q. Begins a (out q steps).rows) (sym is) (begins_on a (one_stream p r.given).rows (one_stream p (out c steps)).rows (single_begins p op r.given a r.gives) (f.rest, f.longer))
runs_begin part (Two j x y) steps a (on, l, r, is, q) =
    let f = join_front on q.from_right (out r steps) q.from_left (out l steps) (given_front (Runs r y steps) (out r steps) q.from_right (runs_begin r y steps) q.right_child)
    (given_front (Runs l x steps) (out l steps) q.from_left (runs_begin l x steps) q.left_child) in
    subst (λ t. Begins a (out t steps).rows) (sym is)
    (begins_on a (join_stream on q.from_right q.from_left).rows (join_stream on (out r steps) (out l steps)).rows (join_begins on j q.from_left q.from_right a q.gives) (f.rest, f.longer))

pub child_front : (c : Part) (x : State) (steps : List Step) (given : Stream) → Asked (Runs c x steps) (out c steps) given → IsFront given (out c steps)
child_front c x steps given r = given_front (Runs c x steps) (out c steps) given (runs_begin c x steps) r

-- ---- a step that says nothing of the part's motions

-- it takes no parcel of them
abbrev pub IsQuietFor : Part → Step → Type 0
IsQuietFor part s = (source : Source) → Has part source → parcels_in source.end.motion s ≡ []

abbrev pub IsSilentFor : Part → Step → Type 0
IsSilentFor part s = (source : Source) → Has part source → IsSilent source.end.motion s

pub out_pass : (part : Part) (steps : List Step) (s : Step) → IsQuietFor part s → out part (steps ++ s ∷ []) ≡ out part steps
out_pass (Rows rows) steps s f = refl
out_pass (Hears source) steps s f = ap (received source.order source.senders) (input_pass source.end.motion steps s (f source refl))
out_pass (Over op c) steps s f = ap (one_stream op) (out_pass c steps s f)
out_pass (Joins on l r) steps s f =
    ap (λ t. join_stream on t (out l (steps ++ s ∷ []))) (out_pass r steps s (λ t h. f t (inr h))) ∙ ap (λ t. join_stream on (out r steps) t) (out_pass l steps s (λ t h. f t (inl h)))

pub quiet_so : (part : Part) (s : Step) → IsSilentFor part s → IsQuietFor part s
quiet_so part s f source has = (f source has).parcels

pub asked_pass : (C D : List Line → Type 0) (all new given : Stream) → ((b : List Line) → C b → D b) → new ≡ all → Asked C all given → Asked D new given
asked_pass C D all new given f e r = record { runs = f given.rows r.runs; over = λ x. subst (λ s. IsOver s given.rows) (sym e) (r.over x) }

pub runs_pass : (part : Part) (st : State) (steps : List Step) (s : Step) → IsSilentFor part s → (a : List Line) → Runs part st steps a → Runs part st (steps ++ s ∷ []) a
runs_pass part (Scans scan) steps s f a r = r
runs_pass part (Ears m) steps s f a (is, h) =
    let silent = f (source_of m) (subst (λ q. Has q (source_of m)) (sym is) refl) in
    (is, record { going = h.going; uncut = uncut_pass m.end.motion steps s silent h.uncut; hears = hears_pass m steps s a silent h.hears })
runs_pass part (One op x) steps s f a (p, c, is, r) =
    let g : IsSilentFor c s = λ t h. f t (subst (λ q. Has q t) (sym is) h) in
    (p, c, is, record { given = r.given; child = asked_pass (Runs c x steps) (Runs c x (steps ++ s ∷ [])) (out c steps) (out c (steps ++ s ∷ [])) r.given (runs_pass c x steps s g) (out_pass c steps s (quiet_so c s g)) r.child; gives = r.gives })
runs_pass part (Two j x y) steps s f a (on, l, r, is, q) =
    let g : IsSilentFor l s = λ t h. f t (subst (λ p. Has p t) (sym is) (inl h)) in
    let k : IsSilentFor r s = λ t h. f t (subst (λ p. Has p t) (sym is) (inr h)) in (
      on,
      l,
      r,
      is,
      record {
        from_left = q.from_left;
        from_right = q.from_right;
        left_child = asked_pass (Runs l x steps) (Runs l x (steps ++ s ∷ [])) (out l steps) (out l (steps ++ s ∷ [])) q.from_left (runs_pass l x steps s g) (out_pass l steps s (quiet_so l s g)) q.left_child;
        right_child = asked_pass (Runs r y steps) (Runs r y (steps ++ s ∷ [])) (out r steps) (out r (steps ++ s ∷ [])) q.from_right (runs_pass r y steps s k) (out_pass r steps s (quiet_so r s k)) q.right_child;
        gives = q.gives;
        apart = q.apart;
      },
    )

-- one that takes from another motion
other_number : (a n m : ℕ) → (a == n) ≡ true → (m ≡ n → ⊥) → (a == m) ≡ false
other_number a n m e f = grind (arith, nat_tests)

other_takes : (m n : ℕ) (ask : PortAsk) → takes_of n ask ≡ true → (m ≡ n → ⊥) → takes_of m ask ≡ false
other_takes m n (Take a) e f = other_number a n m e f
other_takes m n (TakeFrom a b) e f = other_number a n m e f
other_takes m n (Put a b chunk) e f = absurd (cc)
other_takes m n (Finish a b) e f = absurd (cc)
other_takes m n (Halt a b) e f = absurd (cc)

no_take_at : (m : ℕ) (a : ℤ) (ask : PortAsk) → takes_of m ask ≡ false → (is_take m ask ≡ false) × (is_take_from m a ask ≡ false)
no_take_at m a (Take b) e = (e, refl)
no_take_at m a (TakeFrom b c) e = (refl, ap (λ t. t && int_eq c a) e)
no_take_at m a (Put b c chunk) e = (refl, refl)
no_take_at m a (Finish b c) e = (refl, refl)
no_take_at m a (Halt b c) e = (refl, refl)

pub no_parcels : (m : ℕ) (s : Step) → takes_of m s.entry.ask ≡ false → parcels_in m s ≡ []
no_parcels m s e = ap (λ b. cond b (parcels_by s.entry.reply) []) e

and_no : (b : Bool) → (b && false) ≡ false
and_no true = refl
and_no false = refl

no_ends : (m : ℕ) (s : Step) (a : ℤ) → takes_of m s.entry.ask ≡ false → ends_in m s a ≡ false
unfolding ends_in
no_ends m s a e =
    let none = no_take_at m a s.entry.ask e in
    ap (λ ps. list_any (λ (p : Parcel). p.last && int_eq p.from a) ps || ((is_ended s.entry.reply && is_take m s.entry.ask) || (is_ended s.entry.reply && is_take_from m a s.entry.ask))) (no_parcels m s e)
    ∙ ap (λ b. (is_ended s.entry.reply && b) || (is_ended s.entry.reply && is_take_from m a s.entry.ask)) none.0
    ∙ ap (λ b. (is_ended s.entry.reply && false) || (is_ended s.entry.reply && b)) none.1
    ∙ ap (λ b. b || b) (and_no (is_ended s.entry.reply))

pub silent_at : (m : ℕ) (s : Step) → takes_of m s.entry.ask ≡ false → ((a : ℤ) → halts_from m a s.entry.ask ≡ false) → IsSilent m s
silent_at m s e f = record { parcels = no_parcels m s e; ends = λ a. no_ends m s a e; halts = f }

pub take_silent : (n m : ℕ) (s : Step) → takes_of n s.entry.ask ≡ true → (m ≡ n → ⊥) → IsSilent m s
take_silent n m s e f = silent_at m s (other_takes m n s.entry.ask e f) (λ a. no_halt_of n m a s.entry.ask e)
  where
    no_halt_of : (n m : ℕ) (a : ℤ) (ask : PortAsk) → takes_of n ask ≡ true → halts_from m a ask ≡ false
    no_halt_of n m a (Take b) e = refl
    no_halt_of n m a (TakeFrom b c) e = refl
    no_halt_of n m a (Put b c chunk) e = refl
    no_halt_of n m a (Finish b c) e = refl
    no_halt_of n m a (Halt b c) e = absurd (cc)
