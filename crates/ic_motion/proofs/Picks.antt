-- A pick is the choice of an ordered gather, and what follows from it.
use Rattle.std.proofs.Common.{◌≡◌, ℕ, zero, suc, ℤ, List, [], ◌∷◌, ◌++◌, Bool, true, false, ◌&&◌, cond, Some, None, refl, ap, sym, ◌∙◌, subst, append-nil}
use Rattle.std.specs.List.{flat_map, list_all, AllByRecursion}
use Rattle.std.specs.Prelude.{slice_get, slice_set}
use Rattle.pl_ops.specs.Rows.{Line}
use Rattle.pl_ops.specs.Streams.{Stream}
use Rattle.pl_ops.specs.Merging.{Waits, Over, Gives, beside, skipped, choice_of}
use Rattle.pl_runs.specs.Wanting.{FromOne, first_unknown}
use Rattle.ic_motion.specs.declared.picking.Pick.{Pick}
use Rattle.ic_motion.specs.declared.picking.Pick.TheVariants.{Row, Any, One, Nothing}
use Rattle.ic_motion.specs.Hearing.{Lane, rows_of, senders_of, stream_of, streams_of}
use Rattle.ic_motion.specs.Picking.{first_in, without_first, first_at, any_beside, pick_any, goes_before, row_beside, least_beside, pick_least, pop_at}

-- ---- streams

unfoldable pub pop_stream : ℕ → List Stream → List Stream
pop_stream k [] = []
pop_stream zero (s ∷ streams) = record { rows = without_first s.rows; ended = s.ended } ∷ streams
pop_stream (suc k) (s ∷ streams) = s ∷ pop_stream k streams

pub streams_pop : (k : ℕ) (lanes : List Lane) → streams_of (pop_at k lanes) ≡ pop_stream k (streams_of lanes)
unfolding pop_stream
streams_pop k [] = refl
streams_pop zero (l ∷ lanes) = refl
streams_pop (suc k) (l ∷ lanes) = ap (λ ss. stream_of l ∷ ss) (streams_pop k lanes)

-- the stream at this place hasn't ended, and no row is known of it
unfoldable pub IsOpen : ℕ → List Stream → Type 0
IsOpen k [] = ⊥
IsOpen zero (s ∷ streams) = s.ended ≡ false
IsOpen (suc k) (s ∷ streams) = IsOpen k streams

-- ---- with an order

-- what a pick says of the choice
unfoldable pub Agrees : (Line → Line → Bool) → List Stream → Pick → Type 0
Agrees before streams (Row k) = (row : Line) × (first_at k streams ≡ Some row) × (choice_of before streams ≡ Gives row (pop_stream k streams))
Agrees before streams Any = ⊥
Agrees before streams (One k) = (choice_of before streams ≡ Waits) × IsOpen k streams
Agrees before streams Nothing = choice_of before streams ≡ Over

at_row : (before : Line → Line → Bool) (row : Line) (rows : List Line) (ended : Bool) (streams : List Stream) (pick : Pick) → Agrees before streams pick
    → Agrees before (record { rows = row ∷ rows; ended = ended } ∷ streams) (row_beside before row streams pick)
unfolding Agrees pop_stream IsOpen
at_row before row rows ended streams (Row k) (other, first, is) = by (before other row) refl
  where
    goes : goes_before before (first_at k streams) row ≡ before other row
    goes = ap (λ o. goes_before before o row) first

    chosen : choice_of before (record { rows = row ∷ rows; ended = ended } ∷ streams) ≡ beside before row (record { rows = rows; ended = ended }) streams (Gives other (pop_stream k streams))
    chosen = ap (beside before row (record { rows = rows; ended = ended }) streams) is

    by : (b : Bool) → before other row ≡ b → Agrees before (record { rows = row ∷ rows; ended = ended } ∷ streams) (row_beside before row streams (Row k))
    by true w =
        subst (λ g. Agrees before (record { rows = row ∷ rows; ended = ended } ∷ streams) (cond g (Row (suc k)) (Row 0))) (sym (goes ∙ w))
        (other, first, chosen ∙ ap (λ b. cond b (Gives other (record { rows = row ∷ rows; ended = ended } ∷ pop_stream k streams)) (Gives row (record { rows = rows; ended = ended } ∷ streams))) w)
    by false w =
        subst (λ g. Agrees before (record { rows = row ∷ rows; ended = ended } ∷ streams) (cond g (Row (suc k)) (Row 0))) (sym (goes ∙ w))
        (row, refl, chosen ∙ ap (λ b. cond b (Gives other (record { rows = row ∷ rows; ended = ended } ∷ pop_stream k streams)) (Gives row (record { rows = rows; ended = ended } ∷ streams))) w)
at_row before row rows ended streams Any h = absurd h
at_row before row rows ended streams (One k) (is, going) = (ap (beside before row (record { rows = rows; ended = ended }) streams) is, going)
at_row before row rows ended streams Nothing is = (row, refl, ap (beside before row (record { rows = rows; ended = ended }) streams) is)

at_stream : (before : Line → Line → Bool) (rows : List Line) (ended : Bool) (streams : List Stream) (pick : Pick) → Agrees before streams pick
    → Agrees before (record { rows = rows; ended = ended } ∷ streams) (least_beside before rows ended streams pick)
unfolding Agrees pop_stream IsOpen
at_stream before (row ∷ rows) ended streams pick h = at_row before row rows ended streams pick h
at_stream before [] false streams pick h = (refl, refl)
at_stream before [] true streams (Row k) (row, first, is) = (row, first, ap skipped is)
at_stream before [] true streams Any h = absurd h
at_stream before [] true streams (One k) (is, going) = (ap skipped is, going)
at_stream before [] true streams Nothing is = ap skipped is

pub agrees : (before : Line → Line → Bool) (streams : List Stream) → Agrees before streams (pick_least before streams)
unfolding Agrees
agrees before [] = refl
agrees before (s ∷ streams) = at_stream before s.rows s.ended streams (pick_least before streams) (agrees before streams)

-- the sender that is asked is the first whose next row isn't known
IsAsked : ℕ → List ℤ → List Stream → Pick → Type 0
IsAsked motion senders streams (Row k) = Unit {0}
IsAsked motion senders streams Any = Unit {0}
IsAsked motion senders streams (One k) = (a : ℤ) × (slice_get senders k ≡ Some a) × (first_unknown motion senders streams ≡ Some (FromOne motion a))
IsAsked motion senders streams Nothing = first_unknown motion senders streams ≡ None

asked_row : (motion : ℕ) (before : Line → Line → Bool) (a : ℤ) (senders : List ℤ) (row : Line) (rows : List Line) (ended : Bool) (streams : List Stream) (pick : Pick) → IsAsked motion senders streams pick
    → IsAsked motion (a ∷ senders) (record { rows = row ∷ rows; ended = ended } ∷ streams) (row_beside before row streams pick)
unfolding IsAsked
asked_row motion before a senders row rows ended streams (Row k) h = by (goes_before before (first_at k streams) row)
  where
    by : (b : Bool) → IsAsked motion (a ∷ senders) (record { rows = row ∷ rows; ended = ended } ∷ streams) (cond b (Row (suc k)) (Row 0))
    by true = tt
    by false = tt
asked_row motion before a senders row rows ended streams Any h = tt
asked_row motion before a senders row rows true streams (One k) h = h
asked_row motion before a senders row rows false streams (One k) h = h
asked_row motion before a senders row rows ended streams Nothing h = tt

asked_stream : (motion : ℕ) (before : Line → Line → Bool) (a : ℤ) (senders : List ℤ) (rows : List Line) (ended : Bool) (streams : List Stream) (pick : Pick) → IsAsked motion senders streams pick
    → IsAsked motion (a ∷ senders) (record { rows = rows; ended = ended } ∷ streams) (least_beside before rows ended streams pick)
unfolding IsAsked
asked_stream motion before a senders (row ∷ rows) ended streams pick h = asked_row motion before a senders row rows ended streams pick h
asked_stream motion before a senders [] false streams pick h = (a, refl, refl)
asked_stream motion before a senders [] true streams (Row k) h = tt
asked_stream motion before a senders [] true streams Any h = tt
asked_stream motion before a senders [] true streams (One k) h = h
asked_stream motion before a senders [] true streams Nothing h = h

asks : (motion : ℕ) (before : Line → Line → Bool) (lanes : List Lane) → IsAsked motion (senders_of lanes) (streams_of lanes) (pick_least before (streams_of lanes))
unfolding IsAsked
asks motion before [] = refl
asks motion before (l ∷ lanes) = asked_stream motion before l.sender (senders_of lanes) l.rows l.over (streams_of lanes) (pick_least before (streams_of lanes)) (asks motion before lanes)

pub asks_first : (motion : ℕ) (before : Line → Line → Bool) (lanes : List Lane) (k : ℕ) → pick_least before (streams_of lanes) ≡ One k
    → (a : ℤ) × (slice_get (senders_of lanes) k ≡ Some a) × (first_unknown motion (senders_of lanes) (streams_of lanes) ≡ Some (FromOne motion a))
unfolding IsAsked
asks_first motion before lanes k is = subst (IsAsked motion (senders_of lanes) (streams_of lanes)) is (asks motion before lanes)

-- ---- without an order

-- what a pick says of the lanes
unfoldable pub Shows : List Lane → Pick → Type 0
Shows lanes (Row k) = (row : Line) × (first_at k (streams_of lanes) ≡ Some row) × (flat_map rows_of lanes ≡ row ∷ flat_map rows_of (pop_at k lanes))
Shows lanes Any = AllByRecursion (λ (l : Lane). l.rows ≡ []) lanes × (list_all (λ (l : Lane). l.over) lanes ≡ false)
Shows lanes (One k) = ⊥
Shows lanes Nothing = AllByRecursion (λ (l : Lane). l.rows ≡ []) lanes × (list_all (λ (l : Lane). l.over) lanes ≡ true)

shows_at : (l : Lane) (lanes : List Lane) (rows : List Line) (over : Bool) (pick : Pick) → l.rows ≡ rows → l.over ≡ over → Shows lanes pick → Shows (l ∷ lanes) (any_beside rows over pick)
unfolding Shows
shows_at l lanes (row ∷ rows) over pick is w h = (
  row,
  ap first_in is,
  ap (λ r. r ++ flat_map rows_of lanes) is ∙ ap (λ r. row ∷ (r ++ flat_map rows_of lanes)) (sym (ap without_first is)),
)
shows_at l lanes [] over (Row k) is w (row, first, all) =
    (row, first, ap (λ r. r ++ flat_map rows_of lanes) is ∙ all ∙ ap (λ r. row ∷ (r ++ flat_map rows_of (pop_at k lanes))) (sym is))
shows_at l lanes [] over Any is w (none, more) = ((is, none), ap (λ b. l.over && b) more ∙ end l.over)
  where
    end : (b : Bool) → (b && false) ≡ false
    end true = refl
    end false = refl
shows_at l lanes [] over (One k) is w h = absurd h
shows_at l lanes [] true Nothing is w (none, all) = ((is, none), ap (λ b. b && list_all (λ (x : Lane). x.over) lanes) w ∙ all)
shows_at l lanes [] false Nothing is w (none, all) = ((is, none), ap (λ b. b && list_all (λ (x : Lane). x.over) lanes) w)

pub shows : (lanes : List Lane) → Shows lanes (pick_any (streams_of lanes))
unfolding Shows
shows [] = (tt, refl)
shows (l ∷ lanes) = shows_at l lanes l.rows l.over (pick_any (streams_of lanes)) refl refl (shows lanes)

pub none_held : (lanes : List Lane) → AllByRecursion (λ (l : Lane). l.rows ≡ []) lanes → flat_map rows_of lanes ≡ []
none_held [] h = refl
none_held (l ∷ lanes) h = ap (λ r. r ++ flat_map rows_of lanes) h.0 ∙ none_held lanes h.1

-- if none is held, then after a write the rows written are held
pub one_held : (lanes : List Lane) (k : ℕ) (was lane : Lane) → AllByRecursion (λ (l : Lane). l.rows ≡ []) lanes → slice_get lanes k ≡ Some was → flat_map rows_of (slice_set lanes k lane) ≡ lane.rows
one_held [] k was lane h is = cc
one_held (l ∷ lanes) zero was lane h is = ap (λ r. lane.rows ++ r) (none_held lanes h.1) ∙ append-nil lane.rows
one_held (l ∷ lanes) (suc k) was lane h is = ap (λ r. r ++ flat_map rows_of (slice_set lanes k lane)) h.0 ∙ one_held lanes k was lane h.1 is
