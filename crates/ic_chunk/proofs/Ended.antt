-- Rows counted by the chunks with which they end.
use Rattle.std.proofs.Common.{◌≡◌, ℕ, suc, ◌+◌, ◌<◌, ◌≤◌, List, [], ◌∷◌, ◌++◌, length, map, take, drop, Bool, true, false, cond, ltb, min, Some, None, refl, ap, sym, ◌∙◌, subst, arith, eqb}
use Rattle.std.specs.Int.{w16, from_be_bytes}
use Rattle.std.specs.List.{AllByRecursion, AllZip}
use Rattle.std.proofs.lemmas.Nat.{from_be_bytes-to_be_bytes_2}
use Rattle.std.proofs.lemmas.Bool.{le-ltb}
use Rattle.std.proofs.lemmas.Option.{same_Some}
use Rattle.std.proofs.lemmas.List.{drop_at, length-append, length-map}
use Rattle.ic_row.specs.declared.value.Value.{Value}
use Rattle.ic_row.specs.Spelling.{Spells}
use Rattle.ic_chunk.specs.declared.chunk.ChunkKind.{ChunkKind}
use Rattle.ic_chunk.specs.declared.chunk.ChunkKind.TheVariants.{Whole, Start, Middle, End, EndOfStream, Empty}
use Rattle.ic_chunk.specs.Chunks.{Chunk, IsChunk, kind_number, spelled, payload_of, joined}
use Rattle.ic_chunk.specs.Assembly.{without_empty, is_empty, IsTail, IsGroup, AreMiddles, IsPending, together, ending, IsFront, Assembles}
use Rattle.ic_chunk.proofs.Parsing.{front-chunks}
use Rattle.ic_chunk.specs.Counts.{ends_row, rows_ended, front_at, ends_by, HasEnded, HaveEnded, HasCounted, greatest_count}
use Rattle.ic_chunk.specs.CountLaws.{CountsRows, CountTells}

-- ---- one chunk

kind_small : (k : ChunkKind) → kind_number k < 65536
kind_small Whole = omega arith
kind_small Start = omega arith
kind_small Middle = omega arith
kind_small End = omega arith
kind_small EndOfStream = omega arith
kind_small Empty = omega arith

ends_by-kind : (k : ChunkKind) → ends_by (kind_number k) ≡ ends_row k
ends_by-kind Whole = refl
ends_by-kind Start = refl
ends_by-kind Middle = refl
ends_by-kind End = refl
ends_by-kind EndOfStream = refl
ends_by-kind Empty = refl

-- the chunk at the front of the bytes, if they are as long as its head says
fronted : (bytes : List ℕ) (size number : ℕ) → 4 ≤ length bytes → from_be_bytes w16 (take 2 bytes) ≡ size → from_be_bytes w16 (take 2 (drop 2 bytes)) ≡ number
    → size ≤ length (drop 4 bytes) → front_at bytes ≡ Some (number, drop size (drop 4 bytes))
unfolding front_at
fronted bytes size number long size_is number_is room =
    ap (λ b. cond b None (cond (ltb (length (drop 4 bytes)) (from_be_bytes w16 (take 2 bytes))) None (Some (from_be_bytes w16 (take 2 (drop 2 bytes)), drop (from_be_bytes w16 (take 2 bytes)) (drop 4 bytes))))) (le-ltb (length bytes) 4 long)
    ∙ ap (λ n. cond (ltb (length (drop 4 bytes)) n) None (Some (from_be_bytes w16 (take 2 (drop 2 bytes)), drop n (drop 4 bytes)))) size_is
    ∙ ap (λ b. cond b None (Some (from_be_bytes w16 (take 2 (drop 2 bytes)), drop size (drop 4 bytes)))) (le-ltb (length (drop 4 bytes)) size room)
    ∙ ap (λ n. Some (n, drop size (drop 4 bytes))) number_is

pub front-spelled : (c : Chunk) (more : List ℕ) → IsChunk c → front_at (spelled c ++ more) ≡ Some (kind_number c.kind, more)
unfolding spelled
front-spelled c more h =
    fronted (spelled c ++ more) (length c.body) (kind_number c.kind) (omega arith)
    (from_be_bytes-to_be_bytes_2 (length c.body) h.small)
    (from_be_bytes-to_be_bytes_2 (kind_number c.kind) (kind_small c.kind))
    (omega (arith, length-append c.body more))
    ∙ ap (λ l. Some (kind_number c.kind, l)) (drop_at c.body more (length c.body) refl)

front-nil : front_at [] ≡ None
unfolding front_at
front-nil = refl

-- ---- one payload, chunk by chunk

-- some of these chunks are left, and this many rows ended before them
pub record IsLeft (chunks : List Chunk) (rest : List ℕ) (count : ℕ) : Type 0 where
  pub left : List Chunk
  pub each : AllByRecursion IsChunk left
  pub are : rest ≡ payload_of left
  pub counted : count + rows_ended left ≡ rows_ended chunks

pub all_left : (chunks : List Chunk) (payload : List ℕ) → AllByRecursion IsChunk chunks → payload ≡ payload_of chunks → IsLeft chunks payload 0
all_left chunks payload each are = record { left = chunks; each = each; are = are; counted = omega arith }

none_left : (left : List Chunk) → AllByRecursion IsChunk left → front_at (payload_of left) ≡ None → rows_ended left ≡ 0
none_left [] each e = refl
none_left (c ∷ cs) each e = let s : front_at (spelled c ++ payload_of cs) ≡ Some (kind_number c.kind, payload_of cs) = front-spelled c (payload_of cs) each.0 in absurd cc

pub at_end : (chunks : List Chunk) (rest : List ℕ) (count : ℕ) → IsLeft chunks rest count → front_at rest ≡ None → count ≡ rows_ended chunks
at_end chunks rest count x e =
    let nothing = none_left x.left x.each (ap front_at (sym x.are) ∙ e) in omega (arith, nothing, x.counted)

pub one_on : (chunks : List Chunk) (rest behind : List ℕ) (count kind : ℕ) → IsLeft chunks rest count → front_at rest ≡ Some (kind, behind) → IsLeft chunks behind (count + ends_by kind)
one_on chunks rest behind count kind x e = by x.left x.each x.are x.counted
  where
    by : (left : List Chunk) → AllByRecursion IsChunk left → rest ≡ payload_of left → count + rows_ended left ≡ rows_ended chunks → IsLeft chunks behind (count + ends_by kind)
    by [] each are counted = let s : front_at rest ≡ None = ap front_at are ∙ front-nil in absurd cc
    by (c ∷ cs) each are counted =
        let s : front_at rest ≡ Some (kind_number c.kind, payload_of cs) = ap front_at are ∙ front-spelled c (payload_of cs) each.0 in
        let both : (kind, behind) ≡ (kind_number c.kind, payload_of cs) = same_Some _ _ (sym e ∙ s) in
        let number : kind ≡ kind_number c.kind = ap (λ (f : ℕ × List ℕ). f.0) both in
        let same : behind ≡ payload_of cs = ap (λ (f : ℕ × List ℕ). f.1) both in
        let one : ends_by kind ≡ ends_row c.kind = ap ends_by number ∙ ends_by-kind c.kind in
        record { left = cs; each = each.1; are = same; counted = omega (arith, one, counted) }

-- ---- payloads

pub have_none : HaveEnded [] 0
have_none = refl

pub have_both : (ps qs : List (List ℕ)) (m n : ℕ) → HaveEnded ps m → HaveEnded qs n → HaveEnded (ps ++ qs) (m + n)
have_both [] qs m n hs ks = subst (HaveEnded qs) (omega (arith, hs)) ks
have_both (p ∷ ps) qs m n (k, j, one, others, is) ks = (k, j + n, one, have_both ps qs j n others ks, omega (arith, is))

pub have_one : (p : List ℕ) (n : ℕ) → HasEnded p n → HaveEnded (p ∷ []) n
have_one p n one = (n, 0, one, refl, omega arith)

rows_ended-append : (cs ds : List Chunk) → rows_ended (cs ++ ds) ≡ rows_ended cs + rows_ended ds
rows_ended-append [] ds = omega arith
rows_ended-append (c ∷ cs) ds = omega (arith, rows_ended-append cs ds)

halves : (P : Chunk → Type 0) (xs ys : List Chunk) → AllByRecursion P (xs ++ ys) → AllByRecursion P xs × AllByRecursion P ys
halves P [] ys all = (tt, all)
halves P (x ∷ xs) ys all = let h = halves P xs ys all.1 in ((all.0, h.0), h.1)

-- as many as end with the chunks of all payloads
all_ended : (css : List (List Chunk)) (n : ℕ) → AllByRecursion IsChunk (together css) → HaveEnded (map payload_of css) n → n ≡ rows_ended (together css)
all_ended [] n each h = h
all_ended (cs ∷ css) n each (k, m, one, others, is) =
    let h = halves IsChunk cs (together css) each in
    omega (arith, is, one cs h.0 refl, all_ended css m h.1 others, rows_ended-append cs (together css))

-- ---- rows

empty_ends : (c : Chunk) → is_empty c.kind ≡ true → ends_row c.kind ≡ 0
empty_ends c e = by c.kind e
  where
    by : (k : ChunkKind) → is_empty k ≡ true → ends_row k ≡ 0
    by Whole e = absurd cc
    by Start e = refl
    by Middle e = refl
    by End e = absurd cc
    by EndOfStream e = refl
    by Empty e = refl

without-ends : (cs : List Chunk) → rows_ended (without_empty cs) ≡ rows_ended cs
without-ends [] = refl
without-ends (c ∷ cs) = by (is_empty c.kind) refl (without-ends cs)
  where
    by : (b : Bool) → is_empty c.kind ≡ b → rows_ended (without_empty cs) ≡ rows_ended cs → rows_ended (without_empty (c ∷ cs)) ≡ ends_row c.kind + rows_ended cs
    by true e is = ap (λ b. rows_ended (cond b (without_empty cs) (c ∷ without_empty cs))) e ∙ omega (arith, empty_ends c e, is)
    by false e is = ap (λ b. rows_ended (cond b (without_empty cs) (c ∷ without_empty cs))) e ∙ omega (arith, is)

tail_ends : (cs : List Chunk) → IsTail cs → rows_ended cs ≡ 1
tail_ends [] is = absurd is
tail_ends (c ∷ []) is = omega (arith, ap ends_row is)
tail_ends (c ∷ d ∷ ds) is = omega (arith, ap ends_row is.0, tail_ends (d ∷ ds) is.1)

group_ends : (cs : List Chunk) → IsGroup cs → rows_ended cs ≡ 1
group_ends [] is = absurd is
group_ends (c ∷ []) is = omega (arith, ap ends_row is)
group_ends (c ∷ d ∷ ds) is = omega (arith, ap ends_row is.0, tail_ends (d ∷ ds) is.1)

groups_end : (css : List (List Chunk)) → AllByRecursion IsGroup css → rows_ended (together css) ≡ length css
groups_end [] each = refl
groups_end (cs ∷ css) each = omega (arith, rows_ended-append cs (together css), group_ends cs each.0, groups_end css each.1)

middles_end : (cs : List Chunk) → AreMiddles cs → rows_ended cs ≡ 0
middles_end [] are = refl
middles_end (c ∷ cs) are = omega (arith, ap ends_row are.0, middles_end cs are.1)

pending_ends : (cs : List Chunk) → IsPending cs → rows_ended cs ≡ 0
pending_ends [] is = refl
pending_ends (c ∷ cs) is = omega (arith, ap ends_row is.0, middles_end cs is.1)

as_many : {A B : Type 0} (R : A → B → Type 0) (xs : List A) (ys : List B) → AllZip R xs ys → length xs ≡ length ys
as_many R [] [] each = refl
as_many R [] (y ∷ ys) each = absurd each
as_many R (x ∷ xs) [] each = absurd each
as_many R (x ∷ xs) (y ∷ ys) each = ap suc (as_many R xs ys each.1)

ending_ends : (ended : Bool) → rows_ended (ending ended) ≡ 0
ending_ends true = refl
ending_ends false = refl

front_ends : (cs : List Chunk) (rows : List (List Value)) (rest : List ℕ) (ended : Bool) → IsFront cs rows rest ended → rows_ended cs ≡ length rows
front_ends cs rows rest ended x =
    let all = ap rows_ended x.all ∙ rows_ended-append x.parts (ending ended) in
    let parts = sym (without-ends x.parts) ∙ ap rows_ended x.read ∙ rows_ended-append (together x.groups) x.pending in
    let rows_are = as_many Spells rows (map joined x.groups) x.spell ∙ length-map x.groups joined in
    omega (arith, all, ending_ends ended, parts, groups_end x.groups x.whole, pending_ends x.pending x.begun, rows_are)

-- as many as there are rows to which the payloads assemble
pub counts_rows : (payloads : List (List ℕ)) (rows : List (List Value)) (rest : List ℕ) (ended : Bool) (n : ℕ) → Assembles payloads rows rest ended → HaveEnded payloads n → n ≡ length rows
counts_rows payloads rows rest ended n x have =
    all_ended x.chunks n (front-chunks (together x.chunks) rows rest ended x.front) (subst (λ ps. HaveEnded ps n) x.are have)
    ∙ front_ends (together x.chunks) rows rest ended x.front

pub ends_by-small : (n : ℕ) → ends_by n ≤ 1
ends_by-small n = by (eqb n 0) (eqb n 3)
  where
    by : (a b : Bool) → cond a 1 (cond b 1 0) ≤ 1
    by true b = omega arith
    by false true = omega arith
    by false false = omega arith

-- ---- counts of 64 bits

-- the count of no payloads
pub counted_none : HasCounted [] 0
counted_none = record { ended = 0; have = have_none; told = omega arith }

-- the count after one more payload
pub counted_more : (payloads : List (List ℕ)) (payload : List ℕ) (count more : ℕ) → HasEnded payload more → HasCounted payloads count → HasCounted (payloads ++ payload ∷ []) (min greatest_count (count + more))
counted_more payloads payload count more one x =
    record {
      ended = x.ended + more;
      have = have_both payloads (payload ∷ []) x.ended more x.have (have_one payload more one);
      told = omega (arith, x.told);
    }

pub counts : CountsRows
counts = counts_rows

pub tells : CountTells
tells payloads rows rest ended n x counted = counted.told ∙ ap (min greatest_count) (counts_rows payloads rows rest ended counted.ended x counted.have)
