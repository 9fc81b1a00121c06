-- The rows of which chunks were put, and what the chunks assemble to.
use Rattle.std.proofs.lemmas.List.{append_cancel_left}
use Rattle.std.proofs.Common.{◌≡◌, ℕ, zero, suc, ◌<◌, ◌≤◌, List, [], ◌∷◌, ◌++◌, length, map, take, drop, Bool, true, false, refl, ap, sym, ◌∙◌, subst, inl, inr, arith, append-nil, append_assoc, length-append, take-append-drop}
use Rattle.std.proofs.lemmas.List.{map-append}
use Rattle.std.specs.List.{AllByRecursion, AllZip, flat_map}
use Rattle.ic_row.specs.Spelling.{spelling_of, IsRow, Spells}
use Rattle.ic_chunk.specs.Chunks.{Chunk, IsChunk, spelled, payload_of, end_of_stream}
use Rattle.ic_chunk.specs.Cutting.{chunks_of, bodies_of, group_of, room_in}
use Rattle.ic_chunk.specs.Assembly.{IsPart, Assembles, together}
use Rattle.ic_chunk.proofs.Lists.{all_front, together-append}
use Rattle.ic_chunk.proofs.CuttingLemmas.{bodies_of-more}
use Rattle.ic_chunk.proofs.CutLaws.{cut_assembles}
use Rattle.ic_chunk.proofs.Fronts.{front_assembles}
use Rattle.ic_chunk.proofs.Parsing.{front-chunks, one_parting}
use Rattle.ic_chunk.proofs.OneWay.{one_assembly}
use Rattle.ic_law.proofs.Lists.{flat_map-append, inside, cut_map}
use Rattle.pl_ops.specs.Rows.{Line}
use Rattle.pl_runs.specs.Slices.{row_chunks, cut}

pub cut-append : (packet : ℕ) (xs ys : List Line) → cut packet (xs ++ ys) ≡ cut packet xs ++ cut packet ys
cut-append packet xs ys = flat_map-append (row_chunks packet) xs ys

-- ---- each row has a chunk

spelling-some : (row : Line) → 0 < length (spelling_of row)
unfolding spelling_of
spelling-some row = omega arith

group-some : (b : List ℕ) (bs : List (List ℕ)) → group_of (b ∷ bs) ≡ [] → ⊥
group-some b [] is = cc
group-some b (c ∷ bs) is = cc

chunks-some : (packet : ℕ) (row : List ℕ) → 128 ≤ packet → 0 < length row → chunks_of packet row ≡ [] → ⊥
chunks-some packet row le some is =
    let room : 0 < room_in packet = omega (arith, le) in
    group-some (take (room_in packet) row) (bodies_of (room_in packet) (drop (room_in packet) row)) (sym (ap group_of (bodies_of-more (room_in packet) row room some)) ∙ is)

map-none : (chunks : List Chunk) → map spelled chunks ≡ [] → chunks ≡ []
map-none [] is = refl
map-none (c ∷ cs) is = cc

append-none : {X : Type 0} (xs ys : List X) → xs ++ ys ≡ [] → (xs ≡ []) × (ys ≡ [])
append-none [] ys is = (refl, is)
append-none (x ∷ xs) ys is = absurd (cc)

cut-none : (packet : ℕ) (rows : List Line) → 128 ≤ packet → cut packet rows ≡ [] → rows ≡ []
cut-none packet [] le is = refl
cut-none packet (row ∷ rows) le is =
    absurd (chunks-some packet (spelling_of row) le (spelling-some row) (map-none (chunks_of packet (spelling_of row)) (append-none (row_chunks packet row) (cut packet rows) is).0))

-- ---- what the chunks of rows assemble to

alone : Chunk → List Chunk
alone c = c ∷ []

alone-together : (chunks : List Chunk) → together (map alone chunks) ≡ chunks
unfolding alone
alone-together [] = refl
alone-together (c ∷ cs) = ap (λ l. c ∷ l) (alone-together cs)

alone-payloads : (chunks : List Chunk) → map payload_of (map alone chunks) ≡ map spelled chunks
unfolding alone
alone-payloads [] = refl
alone-payloads (c ∷ cs) = ap (λ b. b ∷ map payload_of (map alone cs)) (append-nil (spelled c)) ∙ ap (λ l. spelled c ∷ l) (alone-payloads cs)

cut-spelled : (packet : ℕ) (rows : List Line) → map spelled (flat_map (chunks_of packet) (map spelling_of rows)) ≡ cut packet rows
cut-spelled packet [] = refl
cut-spelled packet (row ∷ rows) =
    map-append spelled (chunks_of packet (spelling_of row)) (flat_map (chunks_of packet) (map spelling_of rows)) ∙ ap (λ l. row_chunks packet row ++ l) (cut-spelled packet rows)

spell-all : (rows : List Line) → AllByRecursion IsRow rows → AllZip Spells rows (map spelling_of rows)
spell-all [] h = tt
spell-all (row ∷ rows) h = (record { is_row = h.0; are = refl }, spell-all rows h.1)

cut-assembles : (packet : ℕ) (rows : List Line) → 128 ≤ packet → packet ≤ 65507 → AllByRecursion IsRow rows → Assembles (cut packet rows) rows [] false
cut-assembles packet rows least greatest h =
    let chunks = flat_map (chunks_of packet) (map spelling_of rows) in
    subst (λ l. Assembles l rows [] false) (alone-payloads chunks ∙ cut-spelled packet rows)
    (cut_assembles packet rows (map spelling_of rows) (map alone chunks) false least greatest (spell-all rows h) (alone-together chunks ∙ sym (append-nil chunks)))

-- ---- the front of a stream that goes on goes on

last_part : (parts : List Chunk) (c : Chunk) → AllByRecursion IsPart (parts ++ c ∷ []) → IsPart c
last_part [] c h = h.0
last_part (p ∷ parts) c h = last_part parts c h.1

goes_on : (payloads more : List (List ℕ)) (rows first : List Line) (rest begun : List ℕ) (over : Bool) → Assembles (payloads ++ more) rows rest false → Assembles payloads first begun over → over ≡ false
goes_on payloads more rows first rest begun false all front = refl
goes_on payloads more rows first rest begun true all front =
    let w = cut_map payload_of all.chunks payloads more (sym all.are) in
    let whole : AllByRecursion IsPart (together all.chunks) = subst (AllByRecursion IsPart) (sym (all.front.all ∙ append-nil all.front.parts)) all.front.each in
    let parts : AllByRecursion IsPart (together w.0) = all_front IsPart (together w.0) (together w.1) (subst (AllByRecursion IsPart) (ap together w.2 ∙ together-append w.0 w.1) whole) in
    let each : AllByRecursion IsChunk (together w.0) = all_front IsChunk (together w.0) (together w.1) (subst (AllByRecursion IsChunk) (ap together w.2 ∙ together-append w.0 w.1) (front-chunks (together all.chunks) rows rest false all.front)) in
    let same : front.chunks ≡ w.0 = one_parting front.chunks w.0 (front-chunks (together front.chunks) first begun true front.front) each (sym front.are ∙ w.3) in
    let last = last_part front.front.parts end_of_stream (subst (AllByRecursion IsPart) (ap together (sym same) ∙ front.front.all) parts) in
    absurd (last.goes_on refl)

-- ---- rows that were begun

-- these chunks are of the first k rows, and of no fewer
record Covers (packet : ℕ) (rows : List Line) (put : List (List ℕ)) : Type 0 where
  many : ℕ
  rest : List (List ℕ)
  are : put ++ rest ≡ cut packet (take many rows)
  least : (n : ℕ) → many ≡ suc n → length (cut packet (take n rows)) < length put

covers : (packet : ℕ) (rows : List Line) (put rest : List (List ℕ)) → put ++ rest ≡ cut packet rows → Covers packet rows put
covers packet rows [] rest h = record { many = 0; rest = []; are = refl; least = λ n e. absurd (cc) }
covers packet [] (p ∷ put) rest h = absurd (cc)
covers packet (row ∷ rows) (p ∷ put) rest h =
    elim (inside (p ∷ put) rest (row_chunks packet row) (cut packet rows) h) [
      | inl w ↦ further w.0 w.1 (covers packet rows w.0 rest w.2)
      | inr w ↦ record {
        many = 1;
        rest = w.0 ∷ w.1;
        are = sym w.2 ∙ sym (append-nil (row_chunks packet row));
        least = λ n e. let z : n ≡ 0 = omega (arith, e) in subst (λ k. length (cut packet (take k (row ∷ rows))) < length (p ∷ put)) (sym z) (omega arith);
      }
    ]
  where
    further : (w : List (List ℕ)) → p ∷ put ≡ row_chunks packet row ++ w → Covers packet rows w → Covers packet (row ∷ rows) (p ∷ put)
    further w e c = record {
      many = suc c.many;
      rest = c.rest;
      are = ap (λ l. l ++ c.rest) e ∙ append_assoc (row_chunks packet row) w c.rest ∙ ap (λ l. row_chunks packet row ++ l) c.are;
      least = λ n k. let z : n ≡ c.many = omega (arith, k) in subst (λ j. length (cut packet (take j (row ∷ rows))) < length (p ∷ put)) (sym z) (low c.many c.least);
    }
      where
        low : (m : ℕ) → ((n : ℕ) → m ≡ suc n → length (cut packet (take n rows)) < length w) → length (cut packet (take m (row ∷ rows))) < length (p ∷ put)
        low zero f = omega arith
        low (suc m) f =
            let a = f m refl in
            let b = ap length e in
            omega (arith, a, b, length-append (row_chunks packet row) w, length-append (row_chunks packet row) (cut packet (take m rows)))

-- the rows of which all chunks were put: they assemble, and if all was put they are all
pub record IsPut (rows : List Line) (put : List (List ℕ)) : Type 0 where
  pub sent : List Line
  pub later : List Line
  pub are : sent ++ later ≡ rows
  pub rest : List ℕ
  pub assemble : Assembles put sent rest false

pub is_put : (packet : ℕ) → 128 ≤ packet → packet ≤ 65507 → (rows : List Line) (put rest : List (List ℕ)) → put ++ rest ≡ cut packet rows → ((n : ℕ) → length (cut packet (take n rows)) < length put → AllByRecursion IsRow (take (suc n) rows)) → IsPut rows put
is_put packet least greatest rows put rest h spell =
    let c = covers packet rows put rest h in
    let begun = take c.many rows in
    let all : Assembles (put ++ c.rest) begun [] false = subst (λ l. Assembles l begun [] false) (sym c.are) (cut-assembles packet begun least greatest (are_rows c.many c.least)) in
    let f = front_assembles put c.rest begun [] false all in
    record {
      sent = f.0;
      later = f.1 ++ drop c.many rows;
      are = sym (append_assoc f.0 f.1 (drop c.many rows)) ∙ ap (λ l. l ++ drop c.many rows) (sym f.5) ∙ take-append-drop c.many rows;
      rest = f.2;
      assemble = subst (Assembles put f.0 f.2) (goes_on put c.rest begun f.0 [] f.2 f.3 all f.4) f.4;
    }
  where
    are_rows : (k : ℕ) → ((n : ℕ) → k ≡ suc n → length (cut packet (take n rows)) < length put) → AllByRecursion IsRow (take k rows)
    are_rows zero f = tt
    are_rows (suc n) f = spell n (f n refl)

-- if all chunks were put, all rows were
pub all_put : (packet : ℕ) → 128 ≤ packet → packet ≤ 65507 → (rows : List Line) (put : List (List ℕ)) → put ≡ cut packet rows → ((n : ℕ) → length (cut packet (take n rows)) < length put → AllByRecursion IsRow (take (suc n) rows)) → (sent : List Line) (rest : List ℕ) → Assembles put sent rest false → (sent ≡ rows) × (rest ≡ [])
all_put packet least greatest rows put h spell sent rest a = by (covers packet rows put [] (append-nil put ∙ h))
  where
    by : Covers packet rows put → (sent ≡ rows) × (rest ≡ [])
    by c =
        let split : put ++ (c.rest ++ cut packet (drop c.many rows)) ≡ put ++ [] =
        sym (append_assoc put c.rest (cut packet (drop c.many rows))) ∙ ap (λ l. l ++ cut packet (drop c.many rows)) c.are ∙ sym (cut-append packet (take c.many rows) (drop c.many rows))
        ∙ ap (cut packet) (take-append-drop c.many rows) ∙ sym h ∙ sym (append-nil put) in
        let none = append-none c.rest (cut packet (drop c.many rows)) (append_cancel_left put (c.rest ++ cut packet (drop c.many rows)) [] split) in
        let no_more = cut-none packet (drop c.many rows) least none.1 in
        let same : take c.many rows ≡ rows = sym (append-nil (take c.many rows)) ∙ ap (λ l. take c.many rows ++ l) (sym no_more) ∙ take-append-drop c.many rows in
        let whole : Assembles put rows [] false = subst (λ l. Assembles l rows [] false) (sym h) (cut-assembles packet rows least greatest (subst (AllByRecursion IsRow) same (are_rows c.many c.least))) in
        let one = one_assembly put sent rows rest [] false false a whole in
        (one.0, one.1)
      where
        are_rows : (k : ℕ) → ((n : ℕ) → k ≡ suc n → length (cut packet (take n rows)) < length put) → AllByRecursion IsRow (take k rows)
        are_rows zero f = tt
        are_rows (suc n) f = spell n (f n refl)
