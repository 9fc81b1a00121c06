-- What a cutter has still to give, after one step.
use Rattle.std.proofs.Common.{◌≡◌, ℕ, zero, suc, ◌+◌, ◌-◌, ◌<◌, ◌≤◌, List, [], ◌∷◌, ◌++◌, map, drop, length, get_or, refl, ap, sym, ◌∙◌, subst, arith, inl, inr, append_assoc, length-append}
use Rattle.std.proofs.lemmas.List.{drop_all}
use Rattle.ic_row.specs.declared.value.Value.{Value}
use Rattle.ic_row.specs.Spelling.{spelling_of}
use Rattle.ic_chunk.specs.Chunks.{Chunk, spelled}
use Rattle.ic_chunk.specs.Cutting.{chunks_of, group_of, room_in}
use Rattle.ic_chunk.proofs.CuttingLemmas.{bodies_of-nil}
use Rattle.gd_work.specs.Sending.{row_chunks, cut}
use Rattle.gd_work.specs.Cutting.{pending, left_of, unput, IsReady, IsReadyWith, IsFirst}

pub no_chunks : (packet : ℕ) (bytes : List ℕ) → 128 ≤ packet → bytes ≡ [] → chunks_of packet bytes ≡ []
no_chunks packet bytes le none = ap (chunks_of packet) none ∙ ap group_of (bodies_of-nil (room_in packet) (omega (arith, le)))

pub none_left : (packet : ℕ) (row chunk : List ℕ) (splitter : List Chunk) → 128 ≤ packet → row ≡ [] → chunk ≡ [] → splitter ≡ chunks_of packet row → pending chunk ++ map spelled splitter ≡ []
none_left packet row chunk splitter le no_row no_chunk is =
    ap (λ l. pending l ++ map spelled splitter) no_chunk ∙ ap (map spelled) (is ∙ no_chunks packet row le no_row)

-- a chunk is never empty
spelled-some : (c : Chunk) → (b : ℕ) × (bytes : List ℕ) × (spelled c ≡ b ∷ bytes)
unfolding spelled
spelled-some c = (_, _, refl)

pub pending-spelled : (c : Chunk) → pending (spelled c) ≡ spelled c ∷ []
pending-spelled c = let w = spelled-some c in ap pending w.2 ∙ ap (λ l. l ∷ []) (sym w.2)

-- the splitter gave its next chunk
pub gave_next : (packet begun : ℕ) (rows : List (List Value)) (old new : List Chunk) (before after : List ℕ) (c : Chunk) → before ≡ [] → old ≡ c ∷ new → after ≡ before ++ spelled c
    → (pending after ++ map spelled new) ++ cut packet (drop begun rows) ≡ (pending before ++ map spelled old) ++ cut packet (drop begun rows)
gave_next packet begun rows old new before after c none is more =
    let whole : after ≡ spelled c = more ∙ ap (λ l. l ++ spelled c) none in
    ap (λ l. l ++ cut packet (drop begun rows))
    (ap (λ l. pending l ++ map spelled new) whole ∙ ap (λ l. l ++ map spelled new) (pending-spelled c) ∙ ap (map spelled) (sym is) ∙ ap (λ l. pending l ++ map spelled old) (sym none))

-- so a chunk is there
pub is_ready : (after before : List ℕ) (c : Chunk) (chunks : List (List ℕ)) → before ≡ [] → after ≡ before ++ spelled c → IsReadyWith after chunks
is_ready after before c chunks none more =
    let w = spelled-some c in
    subst (λ l. IsReadyWith l chunks) (sym (more ∙ ap (λ l. l ++ spelled c) none ∙ w.2)) tt

drop-at : {X : Type 0} (xs : List X) (k : ℕ) (x : X) → k < length xs → x ≡ get_or xs k x → drop k xs ≡ x ∷ drop (k + 1) xs
drop-at [] k x lt is = absurd (omega (arith, lt))
drop-at (y ∷ ys) zero x lt is = ap (λ z. z ∷ ys) (sym is) ∙ ap (λ n. x ∷ drop n (y ∷ ys)) (one 0)
  where
    one : (n : ℕ) → suc n ≡ n + 1
    one n = omega arith
drop-at (y ∷ ys) (suc k) x lt is = drop-at ys k x (omega (arith, lt)) is ∙ ap (λ n. x ∷ drop n (y ∷ ys)) (more k)
  where
    more : (k : ℕ) → suc (k + 1) ≡ suc k + 1
    more k = omega arith

-- the next row was begun
pub begun_next : (packet begun : ℕ) (rows : List (List Value)) (row : List Value) (bytes chunk : List ℕ) (old new : List Chunk) → chunk ≡ [] → old ≡ [] → new ≡ chunks_of packet bytes → bytes ≡ spelling_of row
    → begun < length rows → row ≡ get_or rows begun row
    → (pending chunk ++ map spelled new) ++ cut packet (drop (begun + 1) rows) ≡ (pending chunk ++ map spelled old) ++ cut packet (drop begun rows)
begun_next packet begun rows row bytes chunk old new none over is spells lt at =
    ap (λ l. (pending l ++ map spelled new) ++ cut packet (drop (begun + 1) rows)) none
    ∙ ap (λ l. map spelled l ++ cut packet (drop (begun + 1) rows)) (is ∙ ap (chunks_of packet) spells)
    ∙ ap (cut packet) (sym (drop-at rows begun row lt at))
    ∙ ap (λ l. map spelled l ++ cut packet (drop begun rows)) (sym over)
    ∙ ap (λ l. (pending l ++ map spelled old) ++ cut packet (drop begun rows)) (sym none)

-- no row is left
pub none_begun : (packet begun : ℕ) (rows : List (List Value)) (chunk : List ℕ) (splitter : List Chunk) → chunk ≡ [] → splitter ≡ [] → length rows ≤ begun
    → IsReadyWith chunk ((pending chunk ++ map spelled splitter) ++ cut packet (drop begun rows))
none_begun packet begun rows chunk splitter none over past =
    subst (λ l. IsReadyWith l ((pending l ++ map spelled splitter) ++ cut packet (drop begun rows))) (sym none)
    (ap (λ l. map spelled l ++ cut packet (drop begun rows)) over ∙ ap (cut packet) (drop_all begun rows past))
