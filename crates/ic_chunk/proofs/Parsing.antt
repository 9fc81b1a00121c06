-- Payloads are chunks in at most one way.
use Rattle.std.proofs.Common.{◌≡◌, ℕ, List, [], ◌∷◌, ◌++◌, length, map, Bool, true, false, Some, refl, ap, sym, ◌∙◌, subst, arith, append_assoc, append-nil, length-append}
use Rattle.std.specs.List.{AllByRecursion}
use Rattle.ic_row.specs.declared.value.Value.{Value}
use Rattle.ic_chunk.specs.Chunks.{Chunk, IsChunk, spelled, payload_of}
use Rattle.ic_chunk.specs.Reading.{chunk_at}
use Rattle.ic_chunk.specs.Assembly.{IsPart, together, ending, IsFront}
use Rattle.ic_chunk.proofs.Lists.{all_both, all_front, all_back, all_by}
use Rattle.ic_chunk.proofs.ReadingLemmas.{chunk_at-spelled, length-spelled, some_same}

ending-chunks : (ended : Bool) → AllByRecursion IsChunk (ending ended)
ending-chunks true = (record { small = omega arith; allowed = refl }, tt)
ending-chunks false = tt

pub front-chunks : (cs : List Chunk) (rows : List (List Value)) (rest : List ℕ) (ended : Bool) → IsFront cs rows rest ended → AllByRecursion IsChunk cs
front-chunks cs rows rest ended f =
    subst (AllByRecursion IsChunk) (sym f.all) (all_both IsChunk f.parts (ending ended) (all_by IsPart IsChunk (λ c p. p.allowed) f.parts f.each) (ending-chunks ended))

pub not_nil : (c : Chunk) (bytes : List ℕ) → spelled c ++ bytes ≡ [] → ⊥
not_nil c bytes e = omega (arith, ap length e, length-append (spelled c) bytes, length-spelled c)

-- chunks whose payload begins with these chunks' payload begin with these chunks
pub record Begins (xs ys : List Chunk) (left : List ℕ) : Type 0 where
  pub more : List Chunk
  pub are : ys ≡ xs ++ more
  pub rest : left ≡ payload_of more
  pub each : AllByRecursion IsChunk more

pub begins : (xs ys : List Chunk) (left : List ℕ) → AllByRecursion IsChunk xs → AllByRecursion IsChunk ys → payload_of ys ≡ payload_of xs ++ left → Begins xs ys left
begins [] ys left hx hy e = record { more = ys; are = refl; rest = sym e; each = hy }
begins (x ∷ xs) [] left hx hy e = absurd (not_nil x (payload_of xs ++ left) (sym (append_assoc (spelled x) (payload_of xs) left) ∙ sym e))
begins (x ∷ xs) (y ∷ ys) left hx hy e =
    let same : spelled y ++ payload_of ys ≡ spelled x ++ (payload_of xs ++ left) = e ∙ append_assoc (spelled x) (payload_of xs) left in
    let read : Some (y, payload_of ys) ≡ Some (x, payload_of xs ++ left) = sym (chunk_at-spelled y (payload_of ys) hy.0) ∙ ap chunk_at same ∙ chunk_at-spelled x (payload_of xs ++ left) hx.0 in
    let found : (y, payload_of ys) ≡ (x, payload_of xs ++ left) = some_same (y, payload_of ys) (x, payload_of xs ++ left) read in
    let first : y ≡ x = ap (λ (f : Chunk × List ℕ). f.0) found in
    let others : payload_of ys ≡ payload_of xs ++ left = ap (λ (f : Chunk × List ℕ). f.1) found in
    let b = begins xs ys left hx.1 hy.1 others in
    record { more = b.more; are = ap (λ c. c ∷ ys) first ∙ ap (λ l. x ∷ l) b.are; rest = b.rest; each = b.each }

-- the same payload, the same chunks
pub one_reading : (xs ys : List Chunk) → AllByRecursion IsChunk xs → AllByRecursion IsChunk ys → payload_of ys ≡ payload_of xs → ys ≡ xs
one_reading xs ys hx hy e =
    let b = begins xs ys [] hx hy (e ∙ sym (append-nil (payload_of xs))) in
    b.are ∙ ap (λ l. xs ++ l) (none b.more b.rest) ∙ append-nil xs
  where
    none : (more : List Chunk) → [] ≡ payload_of more → more ≡ []
    none [] e = refl
    none (c ∷ cs) e = absurd (not_nil c (payload_of cs) (sym e))

-- payloads that begin with these payloads
pub record Follows (css dss : List (List Chunk)) (more : List (List ℕ)) : Type 0 where
  pub others : List (List Chunk)
  pub are : dss ≡ css ++ others
  pub rest : more ≡ map payload_of others

pub follows : (css dss : List (List Chunk)) (more : List (List ℕ)) → AllByRecursion IsChunk (together css) → AllByRecursion IsChunk (together dss) → map payload_of css ++ more ≡ map payload_of dss → Follows css dss more
follows [] dss more hc hd e = record { others = dss; are = refl; rest = e }
follows (cs ∷ css) [] more hc hd e =
    let bad : payload_of cs ∷ (map payload_of css ++ more) ≡ [] = e in
    absurd cc
follows (cs ∷ css) (ds ∷ dss) more hc hd e =
    let one : payload_of ds ≡ payload_of cs = cc in
    let others : map payload_of css ++ more ≡ map payload_of dss = cc in
    let same = one_reading cs ds (all_front IsChunk cs (together css) hc) (all_front IsChunk ds (together dss) hd) one in
    let f = follows css dss more (all_back IsChunk cs (together css) hc) (all_back IsChunk ds (together dss) hd) others in
    record { others = f.others; are = ap (λ l. l ∷ dss) same ∙ ap (λ l. cs ∷ l) f.are; rest = f.rest }

-- payloads are chunks in one way
pub one_parting : (css dss : List (List Chunk)) → AllByRecursion IsChunk (together css) → AllByRecursion IsChunk (together dss) → map payload_of css ≡ map payload_of dss → css ≡ dss
one_parting css dss hc hd e =
    let f = follows css dss [] hc hd (append-nil (map payload_of css) ∙ e) in
    sym (f.are ∙ ap (λ l. css ++ l) (none f.others f.rest) ∙ append-nil css)
  where
    none : (others : List (List Chunk)) → [] ≡ map payload_of others → others ≡ []
    none [] e = refl
    none (cs ∷ css) e = absurd cc
