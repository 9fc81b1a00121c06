-- Senders stay the same.
use Rattle.std.proofs.Common.{◌≡◌, ℕ, zero, suc, ◌<◌, List, [], ◌∷◌, ◌++◌, length, Option, Some, None, Result, Ok, Err, IfOk, refl, sym, ap, ◌∙◌, subst, arith, length-append}
use Rattle.std.specs.Prelude.{flat_map}
use Rattle.pl_ops.specs.Rows.{Line}
use Rattle.ic_base.specs.declared.datagram.Parcel.{Parcel}
use Rattle.ic_base.specs.declared.keys.ConnEnd.{ConnEnd}
use Rattle.ic_base.specs.declared.port.PortNo.{PortNo}
use Rattle.ic_base.specs.declared.port.PortNo.TheVariants.{Full, Empty, Stopped, Ended, TooLong, Busy, Memory}
use Rattle.ic_base.specs.declared.port.PortEntry.{PortEntry}
use Rattle.ic_row.specs.declared.value.Kind.{Kind}
use Rattle.ic_motion.specs.declared.answers.Got.{Got}
use Rattle.ic_motion.specs.declared.answers.Got.TheVariants as got
use Rattle.ic_motion.specs.declared.answers.Sent.{Sent}
use Rattle.ic_motion.specs.declared.answers.MotionEnd.{MotionEnd}
use Rattle.ic_motion.specs.declared.answers.MotionNo.{MotionNo}
use Rattle.ic_motion.specs.declared.answers.MotionNo.TheVariants as why
use Rattle.ic_motion.specs.declared.picking.Pick.{Pick}
use Rattle.ic_motion.specs.declared.picking.Pick.TheVariants.{Row, Any, One, Nothing}
use Rattle.ic_motion.specs.Hearing.{Lane, senders_of, streams_of, rows_of, rows_held}
use Rattle.ic_motion.specs.Picking.{first_in, without_first, first_at, pop_at, row_or_more}
use Rattle.ic_motion.specs.Answers.{RowsFall}
use Rattle.ic_motion.specs.Feeding.{place_of, Feeds, Lacks, Takes}
use Rattle.ic_motion.specs.Pulling.{Pulls}
use Rattle.ic_motion.specs.Halting.{HaltsBy, Halting, all_were, halts}
use Rattle.ic_motion.proofs.Lanes.{senders_set}
use Rattle.ic_motion.proofs.Shown.{senders_pop}
use Rattle.ic_motion.proofs.Halted.{senders_halt}

always : (result : Result Got MotionNo) (P : Type 0) → P → IfOk result (λ _. P)
always (Ok got_) P p = p
always (Err no_) P p = tt

fed_senders : (end : MotionEnd) (kinds : List Kind) (p : Parcel) (old new : List Lane) (result : Result Got MotionNo) → Feeds end kinds p old new result → IfOk result (λ _. senders_of new ≡ senders_of old)
fed_senders end kinds p old new (Ok answer) (was, lane, rows, at, grows, is, more) =
    ap senders_of is ∙ senders_set old (place_of old p.from) was lane at (ap (λ (x : Lane). x.sender) grows.new_is)
fed_senders end kinds p old new (Err no_) w = tt

lost_same : (no_ : PortNo) (old new : List Lane) (result : Result Got MotionNo) → Lacks no_ old new result → new ≡ old
lost_same Ended old new result w = w.1
lost_same Empty old new result w = w.1
lost_same Busy old new result w = w.1
lost_same Memory old new result w = w.1
lost_same Full old new result w = w.1
lost_same Stopped old new result w = w.1
lost_same (TooLong key) old new result w = w.1

took_senders : (end : MotionEnd) (kinds : List Kind) (old new : List Lane) (result : Result Got MotionNo) (answer : Result Parcel PortNo) → Takes end kinds old new result answer → IfOk result (λ _. senders_of new ≡ senders_of old)
took_senders end kinds old new result (Ok p) w = fed_senders end kinds p old new result w
took_senders end kinds old new result (Err no_) w = always result (senders_of new ≡ senders_of old) (ap senders_of (lost_same no_ old new result w))

pub pull_senders : (pick : Pick) (keys : List ConnEnd) (end : MotionEnd) (kinds : List Kind) (old new : List Lane) (log now : List PortEntry) (result : Result Got MotionNo) → Pulls pick keys end kinds old new log now result
    → IfOk result (λ _. senders_of new ≡ senders_of old)
pull_senders (Row k) keys end kinds old new log now result (is, kept, entry) = always result (senders_of new ≡ senders_of old) (ap senders_of kept ∙ senders_pop k old)
pull_senders Nothing keys end kinds old new log now result (is, kept, entry) = always result (senders_of new ≡ senders_of old) (ap senders_of kept)
pull_senders Any keys end kinds old new log now result (answer, entry, why_, from, makes) = took_senders end kinds old new result answer makes
pull_senders (One k) keys end kinds old new log now result (l, at, answer, entry, why_, from, makes) = took_senders end kinds old new result answer makes

-- a row that is given is one less
pop_falls : (lanes : List Lane) (k : ℕ) (row : Line) → first_at k (streams_of lanes) ≡ Some row → rows_held (pop_at k lanes) < rows_held lanes
pop_falls [] k row is = absurd (cc)
pop_falls (l ∷ lanes) zero row is = by l.rows refl is
  where
    by : (rows : List Line) → l.rows ≡ rows → first_in rows ≡ Some row → length (without_first l.rows ++ flat_map rows_of lanes) < length (l.rows ++ flat_map rows_of lanes)
    by [] same first = absurd (cc)
    by (r ∷ rows) same first = subst (λ rs. length (without_first rs ++ flat_map rows_of lanes) < length (rs ++ flat_map rows_of lanes)) (sym same) (omega arith)
pop_falls (l ∷ lanes) (suc k) row is = let less = pop_falls lanes k row is in omega (arith, less, length-append l.rows (flat_map rows_of (pop_at k lanes)), length-append l.rows (flat_map rows_of lanes))

row_falls : (o : Option Line) (old new : ℕ) → ((row : Line) → o ≡ Some row → new < old) → RowsFall (row_or_more o) old new
row_falls None old new f = tt
row_falls (Some row) old new f = f row refl

fed_falls : (end : MotionEnd) (kinds : List Kind) (p : Parcel) (old new : List Lane) (result : Result Got MotionNo) (n m : ℕ) → Feeds end kinds p old new result → IfOk result (λ got_. RowsFall got_ n m)
fed_falls end kinds p old new (Ok answer) n m (was, lane, rows, at, grows, is, more) = subst (λ a. RowsFall a n m) (sym more) tt
fed_falls end kinds p old new (Err no_) n m w = tt

waits_fall : (result : Result Got MotionNo) (no_ : PortNo) (n m : ℕ) → result ≡ Ok (got.Wait no_) → IfOk result (λ got_. RowsFall got_ n m)
waits_fall result no_ n m is = subst (λ r. IfOk r (λ got_. RowsFall got_ n m)) (sym is) tt

fails_fall : (result : Result Got MotionNo) (n m : ℕ) → result ≡ Err why.Memory → IfOk result (λ got_. RowsFall got_ n m)
fails_fall result n m is = subst (λ r. IfOk r (λ got_. RowsFall got_ n m)) (sym is) tt

lost_falls : (no_ : PortNo) (old new : List Lane) (result : Result Got MotionNo) (n m : ℕ) → Lacks no_ old new result → IfOk result (λ got_. RowsFall got_ n m)
lost_falls Empty old new result n m w = waits_fall result Empty n m w.0
lost_falls Busy old new result n m w = waits_fall result Busy n m w.0
lost_falls Ended old new result n m w = fails_fall result n m w.0
lost_falls Memory old new result n m w = fails_fall result n m w.0
lost_falls Full old new result n m w = fails_fall result n m w.0
lost_falls Stopped old new result n m w = fails_fall result n m w.0
lost_falls (TooLong key) old new result n m w = fails_fall result n m w.0

took_falls : (end : MotionEnd) (kinds : List Kind) (old new : List Lane) (result : Result Got MotionNo) (answer : Result Parcel PortNo) (n m : ℕ) → Takes end kinds old new result answer → IfOk result (λ got_. RowsFall got_ n m)
took_falls end kinds old new result (Ok p) n m w = fed_falls end kinds p old new result n m w
took_falls end kinds old new result (Err no_) n m w = lost_falls no_ old new result n m w

pub pull_falls : (pick : Pick) (keys : List ConnEnd) (end : MotionEnd) (kinds : List Kind) (old new : List Lane) (log now : List PortEntry) (result : Result Got MotionNo) → Pulls pick keys end kinds old new log now result
    → IfOk result (λ got_. RowsFall got_ (rows_held old) (rows_held new))
pull_falls (Row k) keys end kinds old new log now result (is, kept, entry) =
    subst (λ r. IfOk r (λ got_. RowsFall got_ (rows_held old) (rows_held new))) (sym is)
    (row_falls (first_at k (streams_of old)) (rows_held old) (rows_held new) (λ row first. subst (λ ls. rows_held ls < rows_held old) (sym kept) (pop_falls old k row first)))
pull_falls Nothing keys end kinds old new log now result (is, kept, entry) =
    subst (λ r. IfOk r (λ got_. RowsFall got_ (rows_held old) (rows_held new))) (sym is) (let same = ap rows_held kept in omega (arith, same))
pull_falls Any keys end kinds old new log now result (answer, entry, why_, from, makes) = took_falls end kinds old new result answer (rows_held old) (rows_held new) makes
pull_falls (One k) keys end kinds old new log now result (l, at, answer, entry, why_, from, makes) = took_falls end kinds old new result answer (rows_held old) (rows_held new) makes

halts_senders : (lanes after : List Lane) (k : ℕ) (result : Result Sent MotionNo) (answer : Result (Unit {0}) PortNo) → HaltsBy lanes after k result answer → senders_of after ≡ senders_of lanes
halts_senders lanes after k result (Ok _) w = ap senders_of w.0 ∙ senders_halt k lanes
halts_senders lanes after k result (Err no_) w = ap senders_of w.0

pub halt_senders : (motion : ℕ) (lanes after : List Lane) (log now : List PortEntry) (result : Result Sent MotionNo) → Halting motion lanes after log now result → senders_of after ≡ senders_of lanes
halt_senders motion lanes after log now result (all_were all same entry told) = ap senders_of same
halt_senders motion lanes after log now result (halts k l answer at going entry may by) = halts_senders lanes after k result answer by
