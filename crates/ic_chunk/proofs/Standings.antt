-- What a joiner keeps, one payload on.
use Rattle.std.proofs.Common.{◌≡◌, ℕ, zero, suc, arith, List, [], ◌∷◌, ◌++◌, Bool, false, refl, sym, ◌∙◌, subst, append_assoc, append-nil}
use Rattle.std.specs.List.{AllByRecursion}
use Rattle.ic_row.specs.declared.value.Value.{Value}
use Rattle.ic_chunk.specs.Chunks.{Chunk, IsChunk, spelled, payload_of}
use Rattle.ic_chunk.specs.Reading.{Standing}
use Rattle.ic_chunk.specs.Assembly.{Assembles, IsStream, IsFaultAt}
use Rattle.ic_chunk.specs.Joining.{Held, Stands, Came, Stops, standing_at}
use Rattle.ic_chunk.specs.Seen.{IsBytes}
use Rattle.ic_chunk.proofs.Running.{IsRead}
use Rattle.ic_chunk.proofs.Feeding.{fed, fault_at, broken}
use Rattle.ic_chunk.proofs.Taking.{IsBytes-behind}

-- nothing assembles to nothing
pub assembles-none : Assembles [] [] [] false
assembles-none =
    record {
      chunks = [];
      are = refl;
      front = record { parts = []; groups = []; pending = []; all = refl; each = tt; read = refl; whole = tt; spell = tt; begun = tt; left = refl; between = λ e. refl };
    }

pub stands-none : Stands (record { rest = []; ended = false }) [] []
stands-none = assembles-none

-- ---- chunks of real bytes

pub IsBytes-front : (xs ys : List ℕ) → IsBytes (xs ++ ys) → IsBytes xs
IsBytes-front [] ys h k = omega arith
IsBytes-front (x ∷ xs) ys h zero = h 0
IsBytes-front (x ∷ xs) ys h (suc k) = IsBytes-front xs ys (λ j. h (suc j)) k

body_bytes : (c : Chunk) (more : List ℕ) → IsBytes (spelled c ++ more) → IsBytes c.body
unfolding spelled
body_bytes c more h = IsBytes-front c.body more (λ i. h (suc (suc (suc (suc i)))))

all_read : (cs : List Chunk) (left : List ℕ) → AllByRecursion IsChunk cs → IsBytes (payload_of cs ++ left) → AllByRecursion IsRead cs
all_read [] left each h = tt
all_read (c ∷ cs) left each h =
    let these : IsBytes (spelled c ++ (payload_of cs ++ left)) = subst IsBytes (append_assoc (spelled c) (payload_of cs) left) h in
    (record { is_chunk = each.0; fits = body_bytes c (payload_of cs ++ left) these }, all_read cs left each.1 (IsBytes-behind (spelled c) (payload_of cs ++ left) these))

-- ---- one payload on

pub feeds : (held : Held) (payloads : List (List ℕ)) (rows new : List (List Value)) (payload : List ℕ) (count : ℕ) (to : Standing) → Stands held payloads rows → IsBytes payload → IsBytes held.rest
    → Came payload [] count (record { rest = held.rest; ended = held.ended }) to [] new → Assembles (payloads ++ payload ∷ []) (rows ++ new) to.rest to.ended
feeds held payloads rows new payload count to h fits these came =
    let are : payload ≡ payload_of came.chunks = came.are ∙ append-nil (payload_of came.chunks) in
    let read = all_read came.chunks [] came.each (subst IsBytes came.are fits) in
    let f : Assembles (payloads ++ payload_of came.chunks ∷ []) (rows ++ came.rows) to.rest to.ended = fed payloads rows held.rest held.ended came.chunks (came.rows, to) h read these came.goes in
    subst (λ (l : List (List Value)). Assembles (payloads ++ payload ∷ []) (rows ++ l) to.rest to.ended) (sym came.added)
    (subst (λ (p : List ℕ). Assembles (payloads ++ p ∷ []) (rows ++ came.rows) to.rest to.ended) (sym are) f)

pub faults : (held : Held) (payloads : List (List ℕ)) (rows : List (List Value)) (payload : List ℕ) (count : ℕ) → Stands held payloads rows → IsBytes payload → IsBytes held.rest
    → Stops payload count (record { rest = held.rest; ended = held.ended }) → (IsStream (payloads ++ payload ∷ []) → ⊥) × IsFaultAt payloads payload count
faults held payloads rows payload count h fits these stops =
    let came = stops.came in
    let read = all_read came.chunks stops.left came.each (subst IsBytes came.are fits) in (
      broken payloads rows held.rest held.ended came.chunks (came.rows, stops.to) stops.left payload h came.each came.goes stops.stuck came.are stops.more,
      subst (IsFaultAt payloads payload) (sym came.number) (fault_at payloads rows held.rest held.ended came.chunks (came.rows, stops.to) stops.left payload h read these came.goes stops.stuck came.are stops.more),
    )

-- ---- as the code has it

pub feed_ok : (held : Held) (payloads : List (List ℕ)) (rows : List (List Value)) (payload bytes : List ℕ) (ended : Bool) (count : ℕ) (to : Standing) (old new given : List (List Value)) (rest_now : List ℕ) (ended_now : Bool)
    → Stands held payloads rows → IsBytes payload → IsBytes held.rest → bytes ≡ held.rest → ended ≡ held.ended → old ≡ []
    → Came payload [] count (standing_at 0 bytes ended) to old new → given ≡ new → rest_now ≡ to.rest → ended_now ≡ to.ended
    → Assembles (payloads ++ payload ∷ []) (rows ++ given) rest_now ended_now
feed_ok held payloads rows payload bytes ended count to old new given rest_now ended_now h fits these b-is e-is old-is came given-is rest-is now-is =
    let from : Came payload [] count (standing_at 0 held.rest held.ended) to [] new =
    subst (λ (o : List (List Value)). Came payload [] count (standing_at 0 held.rest held.ended) to o new) old-is
    (subst (λ (e : Bool). Came payload [] count (standing_at 0 held.rest e) to old new) e-is (subst (λ (b : List ℕ). Came payload [] count (standing_at 0 b ended) to old new) b-is came)) in
    let a = feeds held payloads rows new payload count to h fits these from in
    subst (λ (l : List (List Value)). Assembles (payloads ++ payload ∷ []) (rows ++ l) rest_now ended_now) (sym given-is)
    (subst (λ (r : List ℕ). Assembles (payloads ++ payload ∷ []) (rows ++ new) r ended_now) (sym rest-is)
    (subst (λ (e : Bool). Assembles (payloads ++ payload ∷ []) (rows ++ new) to.rest e) (sym now-is) a))

pub feed_fault : (held : Held) (payloads : List (List ℕ)) (rows : List (List Value)) (payload bytes : List ℕ) (ended : Bool) (count : ℕ)
    → Stands held payloads rows → IsBytes payload → IsBytes held.rest → bytes ≡ held.rest → ended ≡ held.ended
    → Stops payload count (standing_at 0 bytes ended) → (IsStream (payloads ++ payload ∷ []) → ⊥) × IsFaultAt payloads payload count
feed_fault held payloads rows payload bytes ended count h fits these b-is e-is stops =
    faults held payloads rows payload count h fits these
    (subst (λ (e : Bool). Stops payload count (standing_at 0 held.rest e)) e-is (subst (λ (b : List ℕ). Stops payload count (standing_at 0 b ended)) b-is stops))
