-- A scanner that finished put all chunks of its rows.
use Rattle.std.proofs.Common.{◌≡◌, ℕ, zero, suc, ◌+◌, ◌<◌, ◌≤◌, List, [], ◌∷◌, ◌++◌, length, map, take, drop, Bool, false, refl, ap, sym, ◌∙◌, subst, arith, append-nil}
use Rattle.std.proofs.lemmas.List.{map-append}
use Rattle.std.specs.List.{AllByRecursion, AllZip, flat_map}
use Rattle.ic_base.specs.declared.port.PortEntry.{PortEntry}
use Rattle.ic_row.specs.declared.value.Value.{Value}
use Rattle.ic_row.specs.Spelling.{spelling_of, IsRow, Spells}
use Rattle.ic_chunk.specs.Chunks.{Chunk, spelled, payload_of}
use Rattle.ic_chunk.specs.Cutting.{chunks_of, bodies_of, group_of, room_in}
use Rattle.ic_chunk.specs.Assembly.{Assembles, together}
use Rattle.ic_chunk.proofs.CuttingLemmas.{bodies_of-more}
use Rattle.ic_chunk.proofs.CutLaws.{cut_assembles}
use Rattle.gd_work.specs.Sending.{row_chunks, cut, puts_of, IsFinished, Scanning, still, Scans}
use Rattle.gd_work.specs.Laws.{PutsAll, PutAll}

-- ---- each row has a chunk

spelling-some : (row : List Value) → 0 < length (spelling_of row)
unfolding spelling_of
spelling-some row = omega arith

group-some : (b : List ℕ) (bs : List (List ℕ)) → group_of (b ∷ bs) ≡ [] → ⊥
group-some b [] is = cc
group-some b (c ∷ bs) is = cc

chunks-some : (packet : ℕ) (row : List ℕ) → 128 ≤ packet → 0 < length row → chunks_of packet row ≡ [] → ⊥
chunks-some packet row le some is =
    let room : 0 < room_in packet = omega (arith, le) in
    group-some (take (room_in packet) row) (bodies_of (room_in packet) (drop (room_in packet) row)) (sym (ap group_of (bodies_of-more (room_in packet) row room some)) ∙ is)

map-none : (chunks : List Chunk) → map spelled chunks ≡ [] → chunks ≡ []
map-none [] is = refl
map-none (c ∷ cs) is = cc

append-none : {X : Type 0} (xs ys : List X) → xs ++ ys ≡ [] → (xs ≡ []) × (ys ≡ [])
append-none [] ys is = (refl, is)
append-none (x ∷ xs) ys is = cc

cut-none : (packet : ℕ) (rows : List (List Value)) → 128 ≤ packet → cut packet rows ≡ [] → rows ≡ []
cut-none packet [] le is = refl
cut-none packet (row ∷ rows) le is =
    absurd (chunks-some packet (spelling_of row) le (spelling-some row) (map-none (chunks_of packet (spelling_of row)) (append-none (row_chunks packet row) (cut packet rows) is).0))

take-all : {X : Type 0} (k : ℕ) (xs : List X) → drop k xs ≡ [] → take k xs ≡ xs
take-all zero xs is = sym is
take-all (suc k) [] is = refl
take-all (suc k) (x ∷ xs) is = ap (λ l. x ∷ l) (take-all k xs is)

-- ---- what the chunks assemble to

-- each chunk as a payload of its own
alone : Chunk → List Chunk
alone c = c ∷ []

alone-together : (chunks : List Chunk) → together (map alone chunks) ≡ chunks
unfolding alone
alone-together [] = refl
alone-together (c ∷ cs) = ap (λ l. c ∷ l) (alone-together cs)

alone-payloads : (chunks : List Chunk) → map payload_of (map alone chunks) ≡ map spelled chunks
unfolding alone
alone-payloads [] = refl
alone-payloads (c ∷ cs) = ap (λ b. b ∷ map payload_of (map alone cs)) (append-nil (spelled c)) ∙ ap (λ l. spelled c ∷ l) (alone-payloads cs)

cut-spelled : (packet : ℕ) (rows : List (List Value)) → map spelled (flat_map (chunks_of packet) (map spelling_of rows)) ≡ cut packet rows
cut-spelled packet [] = refl
cut-spelled packet (row ∷ rows) =
    map-append spelled (chunks_of packet (spelling_of row)) (flat_map (chunks_of packet) (map spelling_of rows)) ∙ ap (λ l. row_chunks packet row ++ l) (cut-spelled packet rows)

spell-all : (rows : List (List Value)) → AllByRecursion IsRow rows → AllZip Spells rows (map spelling_of rows)
spell-all [] h = tt
spell-all (row ∷ rows) h = (record { is_row = h.0; are = refl }, spell-all rows h.1)

cut-assembles : (packet : ℕ) (rows : List (List Value)) → 128 ≤ packet → packet ≤ 65507 → AllByRecursion IsRow rows → Assembles (cut packet rows) rows [] false
cut-assembles packet rows least greatest h =
    let chunks = flat_map (chunks_of packet) (map spelling_of rows) in
    subst (λ l. Assembles l rows [] false) (alone-payloads chunks ∙ cut-spelled packet rows)
    (cut_assembles packet rows (map spelling_of rows) (map alone chunks) false least greatest (spell-all rows h) (alone-together chunks ∙ sym (append-nil chunks)))

pub puts_all : PutsAll
puts_all rows s log least greatest h finished =
    let none : still s rows ≡ [] = h.sends.whole finished in
    let begun : drop s.begun rows ≡ [] = cut-none s.packet (drop s.begun rows) least (append-none s.left (cut s.packet (drop s.begun rows)) none).1 in
    let are : AllByRecursion IsRow rows = subst (AllByRecursion IsRow) (take-all s.begun rows begun) h.are_rows in
    let chunks : puts_of s.motion s.to log ≡ cut s.packet rows = sym (append-nil (puts_of s.motion s.to log)) ∙ ap (λ l. puts_of s.motion s.to log ++ l) (sym none) ∙ h.sends.chunks in
    record { chunks = chunks; are_rows = are; assemble = subst (λ l. Assembles l rows [] false) (sym chunks) (cut-assembles s.packet rows least greatest are) }
