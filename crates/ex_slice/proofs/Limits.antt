-- A part whose output has ended has a limit that is satisfied, or each of its motions was heard to the end.
use Rattle.std.proofs.Common.{◌≡◌, ℕ, zero, suc, ℤ, Bool, true, false, ◌&&◌, ◌||◌, cond, List, [], ◌∷◌, map, length, Option, Some, None, refl, sym, ap, ◌∙◌, subst, inl, inr, arith}
use Rattle.std.specs.Prelude.{Contains, ◌⊎◌, nat_le}
use Rattle.std.specs.List.{list_all, AllByRecursion}
use Rattle.ic_row.specs.declared.order.Key.{Key}
use Rattle.pl_ops.specs.Rows.{Line, sort_rows, join_rows}
use Rattle.pl_ops.specs.Groups.{aggregate_rows, final_rows}
use Rattle.pl_ops.specs.Streams.{Stream, silent, at_end}
use Rattle.pl_ops.specs.Merging.{Choice, Waits, Over as AtEnd, Gives, beside, skipped, by_head, choice_of, going_on, merge_stream, sorts_before}
use Rattle.pl_mean.specs.Outputs.{Input, received, stream_from, steps_in}
use Rattle.pl_runs.specs.Steps.{Step, input_of, halted_from}
use Rattle.ic_law.proofs.Lists.{head_or_tail}
use Rattle.ex_tree.specs.Parts.{Single, Filters, Projects, Limits, Sorts, Groups, Blank, nothing, Source, Part, Rows, Hears, Over, Joins, out, one_stream, is_full, is_satisfied}
use Rattle.ex_tree.specs.Halting.{heard_from, AllHeard}

-- ---- a merge

abbrev AllEnded : List Stream → Type 0
AllEnded streams = AllByRecursion (λ (s : Stream). s.ended ≡ true) streams

abbrev Shows : List Stream → Choice → Type 0
Shows streams Waits = Unit {0}
Shows streams AtEnd = AllEnded streams
Shows streams (Gives row left) = AllEnded left → AllEnded streams

module _ (before : Line → Line → Bool) where
  skips : (s : Stream) (streams : List Stream) (c : Choice) → s.ended ≡ true → Shows streams c → Shows (s ∷ streams) (skipped c)
  skips s streams Waits e h = tt
  skips s streams AtEnd e h = (e, h)
  skips s streams (Gives row left) e h = λ all. (e, h all.1)

  stands_beside : (head : Line) (rows : List Line) (s : Stream) (streams : List Stream) (c : Choice) → Shows streams c → Shows (s ∷ streams) (beside before head (record { rows = rows; ended = s.ended }) streams c)
  stands_beside head rows s streams Waits h = tt
  stands_beside head rows s streams AtEnd h = λ all. all
  stands_beside head rows s streams (Gives row left) h = by (before row head)
    where
      by : (b : Bool) → Shows (s ∷ streams) (cond b (Gives row (record { rows = head ∷ rows; ended = s.ended } ∷ left)) (Gives head (record { rows = rows; ended = s.ended } ∷ streams)))
      by true = λ all. (all.0, h all.1)
      by false = λ all. all

  at_head : (s : Stream) (streams : List Stream) (c : Choice) → Shows streams c → (rows : List Line) (b : Bool) → s.ended ≡ b → Shows (s ∷ streams) (by_head before rows b streams c)
  at_head s streams c h [] true e = skips s streams c e h
  at_head s streams c h [] false e = tt
  at_head s streams c h (head ∷ rows) b e = subst (λ x. Shows (s ∷ streams) (beside before head (record { rows = rows; ended = x }) streams c)) e (stands_beside head rows s streams c h)

  shows : (streams : List Stream) → Shows streams (choice_of before streams)
  shows [] = tt
  shows (s ∷ streams) = at_head s streams (choice_of before streams) (shows streams) s.rows s.ended refl

  merge_ended : (n : ℕ) (streams : List Stream) → (merge_stream before n streams).ended ≡ true → AllEnded streams
  merge_ended zero streams e = absurd (cc)
  merge_ended (suc n) streams e = by (choice_of before streams) (shows streams) (merge_ended n) e
    where
      by : (c : Choice) → Shows streams c → ((left : List Stream) → (merge_stream before n left).ended ≡ true → AllEnded left) → (going_on (merge_stream before n) c).ended ≡ true → AllEnded streams
      by Waits h go e = absurd (cc)
      by AtEnd h go e = h
      by (Gives row left) h go e = h (go left e)

-- ---- a motion

all_whole : (input : Input) (senders : List ℤ) → AllEnded (map (stream_from input) senders) → (a : ℤ) → Contains senders a → input.whole a ≡ true
all_whole input [] all a (k, lt, is) = absurd (omega (arith, lt))
all_whole input (b ∷ senders) all a has = elim (head_or_tail b senders a has) [ inl e ↦ subst (λ x. input.whole x ≡ true) e all.0 | inr t ↦ all_whole input senders all.1 a t ]

list_whole : (p : ℤ → Bool) (senders : List ℤ) → list_all p senders ≡ true → (a : ℤ) → Contains senders a → p a ≡ true
list_whole p [] all a (k, lt, is) = absurd (omega (arith, lt))
list_whole p (b ∷ senders) all a has = elim (head_or_tail b senders a has) [ inl e ↦ subst (λ x. p x ≡ true) e (left (p b) all) | inr t ↦ list_whole p senders (right (p b) all) a t ]
  where
    left : (x : Bool) → (x && list_all p senders) ≡ true → x ≡ true
    left true e = refl
    left false e = e

    right : (x : Bool) → (x && list_all p senders) ≡ true → list_all p senders ≡ true
    right true e = e
    right false e = absurd (cc)

received_whole : (order : Option (List Key)) (senders : List ℤ) (input : Input) → (received order senders input).ended ≡ true → (a : ℤ) → Contains senders a → input.whole a ≡ true
received_whole None senders input e = list_whole input.whole senders e
received_whole (Some keys) senders input e = all_whole input senders (merge_ended (sorts_before keys) (steps_in input) (map (stream_from input) senders) e)

-- ---- operators

at_end_so : (f : List Line → List Line) (s : Stream) → (at_end f s).ended ≡ true → s.ended ≡ true
at_end_so f s e = by s.ended refl
  where
    by : (b : Bool) → s.ended ≡ b → s.ended ≡ true
    by true is = is
    by false is = absurd (let bad : (cond false (record { rows = f s.rows; ended = true }) silent).ended ≡ true = subst (λ b. (cond b (record { rows = f s.rows; ended = true }) silent).ended ≡ true) is e in cc)

-- its input has ended, or it is a limit that is satisfied
one_ended : (op : Single) (s : Stream) → (one_stream op s).ended ≡ true → (is_full op s ≡ true) ⊎ (s.ended ≡ true)
one_ended (Filters test) s e = inr e
one_ended (Projects columns) s e = inr e
one_ended (Limits count) s e = by s.ended refl
  where
    by : (b : Bool) → s.ended ≡ b → (nat_le count (length s.rows) ≡ true) ⊎ (s.ended ≡ true)
    by true is = inr is
    by false is = inl (sym (ap (λ b. b || nat_le count (length s.rows)) is) ∙ e)
one_ended (Sorts keys) s e = inr (at_end_so (sort_rows keys) s e)
one_ended (Groups node true group calls) s e = inr (at_end_so (final_rows group calls) s e)
one_ended (Groups node false group calls) s e = inr (at_end_so (aggregate_rows group calls) s e)
one_ended Blank s e = inr (at_end_so nothing s e)

or_more : (a b : Bool) → b ≡ true → (a || b) ≡ true
or_more true b e = refl
or_more false b e = e

pub heard_or_limit : (part : Part) (steps : List Step) → (out part steps).ended ≡ true → (is_satisfied part steps ≡ true) ⊎ AllHeard part steps
heard_or_limit (Rows rows) steps e = inr (λ source has. absurd has)
heard_or_limit (Hears heard) steps e =
    inr (λ source has sender there.
    let h : Contains heard.senders sender = subst (λ (x : Source). Contains x.senders sender) (sym has) there in
    subst (λ (x : Source). heard_from x.end.motion sender steps ≡ true) has (ap (λ b. b || halted_from heard.end.motion sender steps) (received_whole heard.order heard.senders (input_of heard.end.motion steps) e sender h)))
heard_or_limit (Over op c) steps e =
    elim (one_ended op (out c steps) e) [
      | inl full ↦ inl (ap (λ b. b || is_satisfied c steps) full)
      | inr ended ↦ by (heard_or_limit c steps ended)
    ]
  where
    by : (is_satisfied c steps ≡ true) ⊎ AllHeard c steps → (is_satisfied (Over op c) steps ≡ true) ⊎ AllHeard (Over op c) steps
    by (inl s) = inl (or_more (is_full op (out c steps)) (is_satisfied c steps) s)
    by (inr h) = inr h
heard_or_limit (Joins on l r) steps e = by (out r steps).ended refl (heard_or_limit l steps) (heard_or_limit r steps)
  where
    both : (is_satisfied l steps ≡ true) ⊎ AllHeard l steps → (is_satisfied r steps ≡ true) ⊎ AllHeard r steps → (is_satisfied (Joins on l r) steps ≡ true) ⊎ AllHeard (Joins on l r) steps
    both (inl s) h = inl (ap (λ b. b || is_satisfied r steps) s)
    both (inr h) (inl s) = inl (or_more (is_satisfied l steps) (is_satisfied r steps) s)
    both (inr h) (inr k) = inr (λ source has. elim has [ inl a ↦ h source a | inr b ↦ k source b ])

    by : (b : Bool) → (out r steps).ended ≡ b → ((out l steps).ended ≡ true → (is_satisfied l steps ≡ true) ⊎ AllHeard l steps) → ((out r steps).ended ≡ true → (is_satisfied r steps ≡ true) ⊎ AllHeard r steps)
        → (is_satisfied (Joins on l r) steps ≡ true) ⊎ AllHeard (Joins on l r) steps
    by true is left right = both (left (subst (λ b. (cond b (record { rows = join_rows on (out r steps).rows (out l steps).rows; ended = (out l steps).ended }) silent).ended ≡ true) is e)) (right is)
    by false is left right = absurd (let bad : false ≡ true = subst (λ b. (cond b (record { rows = join_rows on (out r steps).rows (out l steps).rows; ended = (out l steps).ended }) silent).ended ≡ true) is e in cc)
