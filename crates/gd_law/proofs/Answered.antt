-- A query whose workers are done is answered.
use Rattle.std.proofs.Common.{◌≡◌, ℕ, zero, suc, ◌+◌, ◌<◌, ◌≤◌, ℤ, pos, negsuc, List, [], ◌∷◌, ◌++◌, length, Bool, true, false, Some, refl, ap, sym, ◌∙◌, subst, arith, inl, inr, slice_get, slice_index_or}
use Rattle.std.proofs.Math.Nat.{eq-or-lt_of_le}
use Rattle.std.proofs.lemmas.Option.{slice_get_within, slice_get-get_or}
use Rattle.std.proofs.lemmas.Bool.Decides.{Decides-int_eq}
use Rattle.std.specs.List.{AllByRecursion, IsDistinct, Contains, flat_map}
use Rattle.std.specs.List.Sorted.{IsPermutation}
use Rattle.std.specs.Ordering.{int_eq}
use Rattle.ic_base.specs.declared.datagram.Parcel.{Parcel}
use Rattle.ic_base.specs.declared.port.PortEntry.{PortEntry}
use Rattle.ic_base.specs.declared.settings.Settings.{Settings}
use Rattle.ic_row.specs.declared.value.Value.{Value}
use Rattle.ic_chunk.specs.Assembly.{Assembles, together}
use Rattle.ic_law.specs.declared.history.Entry.{Entry}
use Rattle.ic_law.specs.Putting.{IsFinished}
use Rattle.ic_law.specs.Streams.{history_of, AreSent, AreTaken}
use Rattle.ic_law.proofs.Lists.{Contains-none, Contains-head, Contains-tail, head_or_tail}
use Rattle.gd_work.specs.Sending as sending
use Rattle.gd_work.specs.Taking.{parcels_of}
use Rattle.gd_work.specs.Laws.{Gave}
use Rattle.gd_work.proofs.Whole.{puts_all}
use Rattle.gd_work.proofs.Interleaving.{lets_out_all}
use Rattle.ic_law.specs.Logs.{log_of}
use Rattle.gd_law.specs.Sessions.{IsSession}
use Rattle.gd_law.specs.Answers.{gather_key, IsServed}
use Rattle.gd_law.specs.Playing.{AreAllOurs, IsFromOne, IsPlayed}
use Rattle.gd_law.specs.Laws.{PlayedIsAnswered}
use Rattle.gd_law.proofs.Ending.{whole_was_finished}
use Rattle.gd_law.proofs.Readings.{puts_agree, takes_agree}

-- ---- what was put

-- all chunks of the rows were put, and they assemble to these rows
record WasPut (motion : ℕ) (to : ℤ) (packet : ℕ) (rows : List (List Value)) (log : List PortEntry) : Type 0 where
  pub chunks : sending.puts_of motion to log ≡ sending.cut packet rows
  pub assemble : Assembles (sending.puts_of motion to log) rows [] false

was_put : (motion : ℕ) (to : ℤ) (packet : ℕ) (rows : List (List Value)) (log : List PortEntry) (s : sending.Scanning) → s.motion ≡ motion → s.to ≡ to → s.packet ≡ packet
    → 128 ≤ packet → packet ≤ 65507 → sending.Scans rows s log → sending.IsFinished motion to log → WasPut motion to packet rows log
was_put motion to packet rows log s motion_is to_is packet_is least greatest scans finished =
    let over : sending.IsFinished s.motion s.to log = subst (λ m. sending.IsFinished m s.to log) (sym motion_is) (subst (λ t. sending.IsFinished motion t log) (sym to_is) finished) in
    let all = puts_all rows s log (omega (arith, least, packet_is)) (omega (arith, greatest, packet_is)) scans over in
    let same : sending.puts_of s.motion s.to log ≡ sending.puts_of motion to log = ap (λ m. sending.puts_of m s.to log) motion_is ∙ ap (λ t. sending.puts_of motion t log) to_is in
    record {
      chunks = sym same ∙ all.chunks ∙ ap (λ p. sending.cut p rows) packet_is;
      assemble = subst (λ l. Assembles l rows [] false) same all.assemble;
    }

-- ---- one connection

served : (session segments query : ℕ) (settings : Settings) (parts : List (List (List Value))) (nodes : List (List Entry)) (rows : List (List Value))
    → IsSession session segments settings nodes → AreAllOurs session settings nodes → 128 ≤ settings.packet → settings.packet ≤ 65507 → IsPlayed session query settings.packet parts nodes rows
    → (segment : ℕ) (part : List (List Value)) → slice_get parts segment ≡ Some part → IsServed session query settings.packet segment part nodes
served session segments query settings parts nodes rows is ours least greatest played segment part at =
    let key = gather_key session query segment in
    let here = history_of nodes (pos segment) in
    let there = history_of nodes (negsuc 0) in
    let sent = played.sent segment part at in
    let whole = played.taken.whole segment (slice_get_within parts segment part at) in
    let finished : IsFinished key here = whole_was_finished nodes session settings is.network is.hubs key refl whole in
    let agree = puts_agree session (pos segment) settings here key (ours (pos segment)) refl refl in
    let put = was_put 1 (negsuc 0) settings.packet part (log_of query here) sent.scanning sent.motion sent.to sent.packet_is least greatest sent.scans (agree.finished.0 finished) in
    let are_sent : AreSent key here part = record { rest = []; assemble = subst (λ l. Assembles l part [] false) (sym agree.chunks) put.assemble; none_left = λ f. refl } in
    let follows = is.streams key refl part are_sent in
    record {
      put = agree.chunks ∙ put.chunks;
      finished = finished;
      sent = are_sent;
      taken = subst (AreTaken key there) (follows.whole whole) follows.taken;
      whole = whole;
    }

-- ---- segments

-- this many segments, from this one on
from_on : ℕ → ℕ → List ℤ
from_on s zero = []
from_on s (suc more) = pos s ∷ from_on (suc s) more

there_from : (s more n : ℕ) → s ≤ n → n < s + more → Contains (from_on s more) (pos n)
unfolding from_on
there_from s zero n low high = absurd (omega (arith, low, high))
there_from s (suc more) n low high =
    elim (eq-or-lt_of_le low) [
      | inl same ↦ subst (λ k. Contains (pos s ∷ from_on (suc s) more) (pos k)) same (Contains-head (pos s) (from_on (suc s) more))
      | inr less ↦ Contains-tail (pos s) (from_on (suc s) more) (pos n) (there_from (suc s) more n less (omega (arith, high)))
    ]

from_there : (s more : ℕ) (x : ℤ) → Contains (from_on s more) x → (n : ℕ) × (s ≤ n) × (n < s + more) × (x ≡ pos n)
unfolding from_on
from_there s zero x there = absurd (Contains-none x there)
from_there s (suc more) x there =
    elim (head_or_tail (pos s) (from_on (suc s) more) x there) [
      | inl same ↦ (s, omega arith, omega arith, sym same)
      | inr rest ↦ let w = from_there (suc s) more x rest in (w.0, omega (arith, w.1), omega (arith, w.2), w.3)
    ]

not_later : (n s more : ℕ) → n < s → AllByRecursion (λ y. int_eq (pos n) y ≡ false) (from_on s more)
unfolding from_on
not_later n s zero less = tt
not_later n s (suc more) less = (differ (int_eq (pos n) (pos s)) refl, not_later n (suc s) more (omega (arith, less)))
  where
    number : ℤ → ℕ
    number (pos k) = k
    number (negsuc k) = 0

    differ : (b : Bool) → int_eq (pos n) (pos s) ≡ b → int_eq (pos n) (pos s) ≡ false
    differ false is = is
    differ true is = let same : n ≡ s = ap number ((Decides-int_eq (pos n) (pos s)).0 is) in absurd (omega (arith, less, same))

distinct : (s more : ℕ) → IsDistinct int_eq (from_on s more)
unfolding from_on IsDistinct
distinct s zero = tt
distinct s (suc more) = (not_later s (suc s) more (omega arith), distinct (suc s) more)

-- ---- parts

-- the part of a segment
part_of : List (List (List Value)) → ℤ → List (List Value)
part_of parts (pos n) = slice_index_or parts n []
part_of parts (negsuc n) = []

-- all parts, one segment's after the other's
parts_are : (of : ℤ → List (List Value)) (s : ℕ) (parts : List (List (List Value))) → ((i : ℕ) → i < length parts → of (pos (s + i)) ≡ slice_index_or parts i [])
    → flat_map of (from_on s (length parts)) ≡ together parts
unfolding from_on
parts_are of s [] is = refl
parts_are of s (part ∷ parts) is =
    let place : s + 0 ≡ s = omega arith in
    let first : of (pos s) ≡ part = ap (λ n. of (pos n)) (sym place) ∙ is 0 (omega arith) in
    let behind : (i : ℕ) → suc s + i ≡ s + suc i = λ i. omega arith in
    ap (λ l. l ++ flat_map of (from_on (suc s) (length parts))) first
    ∙ ap (λ l. part ++ l) (parts_are of (suc s) parts (λ i less. ap (λ n. of (pos n)) (behind i) ∙ is (suc i) (omega (arith, less))))

all_from : (senders : ℕ) (parcels : List Parcel) → AllByRecursion (IsFromOne senders) parcels → (p : Parcel) → Contains parcels p → Contains (from_on 0 senders) p.from
all_from senders [] all p there = absurd (Contains-none p there)
all_from senders (q ∷ parcels) all p there =
    elim (head_or_tail q parcels p there) [
      | inl same ↦
          let here : Contains (from_on 0 senders) q.from = subst (Contains (from_on 0 senders)) (sym all.0.2) (there_from 0 senders all.0.0 (omega arith) (omega (arith, all.0.1))) in
          subst (λ (r : Parcel). Contains (from_on 0 senders) r.from) same here
      | inr rest ↦ all_from senders parcels all.1 p rest
    ]

-- ---- the query

pub played_is_answered : PlayedIsAnswered
unfolding part_of
played_is_answered session segments query settings parts nodes rows is ours least greatest played =
    let there = history_of nodes (negsuc 0) in
    let parcels = parcels_of 1 (log_of query there) in
    let each = served session segments query settings parts nodes rows is ours least greatest played in
    let gave : (sender : ℤ) → Contains (from_on 0 (length parts)) sender → Gave sender parcels (part_of parts sender) =
    λ sender known.
    let w = from_there 0 (length parts) sender known in
    let n : ℕ = w.0 in
    let taken = (each n (slice_index_or parts n []) (slice_get-get_or parts n [] (omega (arith, w.2)))).taken in
    let agree = takes_agree session (negsuc 0) settings there (gather_key session query n) (is.hubs (negsuc 0)) (ours (negsuc 0)) refl refl in
    subst (λ x. Gave x parcels (part_of parts x)) (sym w.3)
    (record { rest = taken.rest; ended = taken.ended; assemble = subst (λ l. Assembles l (slice_index_or parts n []) taken.rest taken.ended) agree taken.assemble }) in
    let front : (i : ℕ) → 0 + i ≡ i = λ i. omega arith in
    record {
      served = each;
      lets_out = played.taken.lets_out;
      answer = subst (λ l. IsPermutation l rows) (parts_are (part_of parts) 0 parts (λ i less. ap (λ n. slice_index_or parts n []) (front i)))
          (lets_out_all parcels rows (from_on 0 (length parts)) (part_of parts) played.taken.lets_out (distinct 0 (length parts)) (all_from (length parts) parcels played.taken.from) gave);
    }
