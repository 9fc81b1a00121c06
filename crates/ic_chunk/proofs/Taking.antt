-- A chunk is taken or refused as the definition of the stream says.
use Rattle.std.proofs.Common.{◌≡◌, ◌≢◌, ℕ, suc, ◌+◌, ◌++◌, append_assoc, append-nil, length-append, ◌≤◌, ◌<◌, List, [], ◌∷◌, length, drop, Bool, true, false, cond, ◌==◌, eq-eqb, Option, Some, None, refl, ap, sym, ◌∙◌, subst, inl, inr, arith, length-drop}
use Rattle.std.proofs.lemmas.Bool.{cases_lt}
use Rattle.std.proofs.lemmas.Bool.Decides.{nat_tests}
use Rattle.std.proofs.lemmas.List.{drop_all, length_push}
use Rattle.ic_row.specs.declared.value.Value.{Value}
use Rattle.ic_chunk.specs.declared.chunk.ChunkKind.{ChunkKind}
use Rattle.std.proofs.lemmas.List.Concat.{flat_map-append}
use Rattle.ic_chunk.specs.Chunks.{Chunk, IsChunk, spelled, payload_of}
use Rattle.ic_chunk.specs.Reading.{Standing, Step, chunk_at, is_nil, may_stand, does, goes_on, behind}
use Rattle.ic_chunk.specs.Joining.{standing_at, Took, IsStuck, Came, Stops}
use Rattle.ic_chunk.proofs.Lists.{all_both}
use Rattle.ic_chunk.specs.Seen.{IsBytes}
use Rattle.ic_chunk.proofs.ReadingLemmas.{chunk_at-some, length-spelled}
use Rattle.ic_chunk.proofs.Running.{run-append, run-cons}

is_nil-from : (bytes : List ℕ) → 0 < length bytes → is_nil bytes ≡ false
is_nil-from [] some = absurd (omega arith)
is_nil-from (b ∷ bytes) some = refl

-- no row is unfinished exactly if the unfinished row begins at the end of the bytes
pub is_nil-drop : (from : ℕ) (bytes : List ℕ) → from ≤ length bytes → is_nil (drop from bytes) ≡ (from == length bytes)
is_nil-drop from bytes within =
    elim (cases_lt from (length bytes)) [
      | inl lt ↦
          let test : (from == length bytes) ≡ false = grind (arith, nat_tests) in
          is_nil-from (drop from bytes) (omega (arith, length-drop from bytes)) ∙ sym test
      | inr le ↦
          let test : (from == length bytes) ≡ true = eq-eqb from (length bytes) (omega arith) in
          ap is_nil (drop_all from bytes le) ∙ sym test
    ]

refused_none : (o : Option Step) (rows : List (List Value)) (s : Standing) → o ≡ None → Took o false rows rows s
refused_none o rows s e = subst (λ (x : Option Step). Took x false rows rows s) (sym e) tt

-- no chunk can come next after the end of the stream
pub refused_ended : (from : ℕ) (bytes : List ℕ) (ended : Bool) (kind : ChunkKind) (body : List ℕ) (rows : List (List Value)) (s : Standing) → ended ≡ true
    → Took (goes_on (standing_at from bytes ended) (record { kind = kind; body = body })) false rows rows s
unfolding goes_on
refused_ended from bytes ended kind body rows s e =
    refused_none (goes_on (standing_at from bytes ended) (record { kind = kind; body = body })) rows s (ap (λ b. cond b None (cond (may_stand kind (drop from bytes)) (does kind (drop from bytes) body) None)) e)

-- nor can a chunk that isn't allowed here
pub refused_there : (from : ℕ) (bytes : List ℕ) (ended : Bool) (kind : ChunkKind) (body : List ℕ) (rows : List (List Value)) (s : Standing) → ended ≡ false → may_stand kind (drop from bytes) ≡ false
    → Took (goes_on (standing_at from bytes ended) (record { kind = kind; body = body })) false rows rows s
unfolding goes_on
refused_there from bytes ended kind body rows s e there =
    let rest = drop from bytes in
    refused_none (goes_on (standing_at from bytes ended) (record { kind = kind; body = body })) rows s
    (ap (λ b. cond b None (cond (may_stand kind rest) (does kind rest body) None)) e ∙ ap (λ b. cond b (does kind rest body) None) there)

pub goes_on-allowed : (from : ℕ) (bytes : List ℕ) (ended : Bool) (kind : ChunkKind) (body : List ℕ) → ended ≡ false → may_stand kind (drop from bytes) ≡ true
    → does kind (drop from bytes) body ≡ goes_on (standing_at from bytes ended) (record { kind = kind; body = body })
unfolding goes_on
goes_on-allowed from bytes ended kind body e there =
    let rest = drop from bytes in
    sym (ap (λ b. cond b None (cond (may_stand kind rest) (does kind rest body) None)) e ∙ ap (λ b. cond b (does kind rest body) None) there)

-- ---- many chunks

pub came-none : (bytes : List ℕ) (s : Standing) (rows : List (List Value)) → Came bytes bytes 0 s s rows rows
came-none bytes s rows = record { chunks = []; rows = []; are = refl; number = refl; each = tt; goes = refl; added = sym (append-nil rows) }

-- a chunk that was taken
record IsTaken (s : Standing) (c : Chunk) (old new : List (List Value)) (to : Standing) : Type 0 where
  pub step : Step
  pub goes : goes_on s c ≡ Some step
  pub added : new ≡ old ++ step.0
  pub to_is : to ≡ step.1

is_taken : (s : Standing) (c : Chunk) (old new : List (List Value)) (to : Standing) → Took (goes_on s c) true old new to → IsTaken s c old new to
is_taken s c old new to h = by (goes_on s c) refl h
  where
    by : (o : Option Step) → goes_on s c ≡ o → Took o true old new to → IsTaken s c old new to
    by None e h = absurd h
    by (Some step) e h = record { step = step; goes = e; added = h.0; to_is = h.1 }

is_refused : (s : Standing) (c : Chunk) (old new : List (List Value)) (to : Standing) → Took (goes_on s c) false old new to → goes_on s c ≡ None
is_refused s c old new to h = by (goes_on s c) refl h
  where
    by : (o : Option Step) → goes_on s c ≡ o → Took o false old new to → goes_on s c ≡ None
    by None e h = e
    by (Some step) e h = absurd h

pub IsBytes-behind : (xs ys : List ℕ) → IsBytes (xs ++ ys) → IsBytes ys
IsBytes-behind [] ys h i = h i
IsBytes-behind (x ∷ xs) ys h i = IsBytes-behind xs ys (λ j. h (suc j)) i

pub came-more : (bytes left more : List ℕ) (count : ℕ) (from to then : Standing) (old new newer : List (List Value)) (c : Chunk) → Came bytes left count from to old new → IsBytes bytes
    → chunk_at left ≡ Some (c, more) → Took (goes_on to c) true new newer then → Came bytes more (count + 1) from then old newer
came-more bytes left more count from to then old new newer c h fits read took =
    let t = is_taken to c new newer then took in
    let these : IsBytes left = IsBytes-behind (payload_of h.chunks) left (subst IsBytes h.are fits) in
    let r = chunk_at-some left c more these read in
    record {
      chunks = h.chunks ++ c ∷ [];
      rows = h.rows ++ (t.step.0 ++ []);
      are = h.are ∙ ap (λ l. payload_of h.chunks ++ l) r.are ∙ sym (append_assoc (payload_of h.chunks) (spelled c) more)
          ∙ ap (λ l. (payload_of h.chunks ++ l) ++ more) (sym (append-nil (spelled c))) ∙ ap (λ l. l ++ more) (sym (flat_map-append spelled h.chunks (c ∷ [])));
      number = ap (λ n. n + 1) h.number ∙ sym (length_push h.chunks c);
      each = all_both IsChunk h.chunks (c ∷ []) h.each (r.is_chunk, tt);
      goes = run-append from h.chunks (c ∷ []) (h.rows, to) h.goes ∙ ap (behind h.rows) (run-cons to c [] t.step t.goes) ∙ ap (λ (s : Standing). Some (h.rows ++ (t.step.0 ++ []), s)) (sym t.to_is);
      added = t.added ∙ ap (λ l. l ++ t.step.0) h.added ∙ append_assoc old h.rows t.step.0 ∙ ap (λ l. old ++ (h.rows ++ l)) (sym (append-nil t.step.0));
    }

pub came-small : (bytes left : List ℕ) (count : ℕ) (from to : Standing) (old new : List (List Value)) → Came bytes left count from to old new → count + length left ≤ length bytes
came-small bytes left count from to old new h =
    omega (arith, h.number, ap length h.are, length-append (payload_of h.chunks) left, each_has h.chunks)
  where
    each_has : (cs : List Chunk) → length cs ≤ length (payload_of cs)
    each_has [] = omega arith
    each_has (c ∷ cs) = omega (arith, length-append (spelled c) (payload_of cs), length-spelled c, each_has cs)

pub chunk_shorter : (left more : List ℕ) (c : Chunk) → IsBytes left → chunk_at left ≡ Some (c, more) → length more < length left
chunk_shorter left more c fits read =
    let r = chunk_at-some left c more fits read in
    omega (arith, ap length r.are, length-append (spelled c) more, length-spelled c)

pub left_bytes : (bytes left : List ℕ) (count : ℕ) (from to : Standing) (old new : List (List Value)) → Came bytes left count from to old new → IsBytes bytes → IsBytes left
left_bytes bytes left count from to old new h fits = IsBytes-behind (payload_of h.chunks) left (subst IsBytes h.are fits)

since_none : (bytes left : List ℕ) (count : ℕ) (from to : Standing) (old new : List (List Value)) (h : Came bytes left count from to old new) → Came bytes left count from to [] h.rows
since_none bytes left count from to old new h = record { chunks = h.chunks; rows = h.rows; are = h.are; number = h.number; each = h.each; goes = h.goes; added = refl }

-- no chunk can be read
pub stops-unread : (bytes left : List ℕ) (count : ℕ) (from to : Standing) (old new : List (List Value)) → Came bytes left count from to old new → left ≢ [] → chunk_at left ≡ None → Stops bytes count from
stops-unread bytes left count from to old new h some none =
    record { left = left; to = to; rows = h.rows; came = since_none bytes left count from to old new h; more = some; stuck = subst (IsStuck to) (sym none) tt }

-- a chunk was refused
pub stops-refused : (bytes left more : List ℕ) (count : ℕ) (from to then : Standing) (old new newer : List (List Value)) (c : Chunk) → Came bytes left count from to old new → left ≢ []
    → chunk_at left ≡ Some (c, more) → Took (goes_on to c) false new newer then → Stops bytes count from
stops-refused bytes left more count from to then old new newer c h some read took =
    record {
      left = left;
      to = to;
      rows = h.rows;
      came = since_none bytes left count from to old new h;
      more = some;
      stuck = subst (IsStuck to) (sym read) (is_refused to c new newer then took);
    }

pub not_nil_from : (bytes : List ℕ) → (length bytes == 0) ≡ false → bytes ≢ []
not_nil_from [] e nil = absurd cc
not_nil_from (b ∷ bytes) e nil = absurd cc
