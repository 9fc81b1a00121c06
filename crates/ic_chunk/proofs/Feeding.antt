-- Either a payload continues those before it, or its first chunk that can't come next is known.
use Rattle.std.proofs.Common.{◌≡◌, ◌≢◌, ℕ, List, [], ◌∷◌, ◌++◌, length, map, Bool, Some, None, refl, ap, sym, ◌∙◌, subst, append_assoc, append-nil}
use Rattle.std.proofs.lemmas.List.{map-append}
use Rattle.std.proofs.lemmas.List.Concat.{flat_map-append}
use Rattle.std.specs.List.{AllByRecursion}
use Rattle.ic_row.specs.declared.value.Value.{Value}
use Rattle.ic_chunk.specs.Chunks.{Chunk, IsChunk, spelled, payload_of}
use Rattle.ic_chunk.specs.Reading.{Standing, Step, chunk_at, goes_on, run, fresh}
use Rattle.ic_chunk.specs.Assembly.{together, IsFront, Assembles, IsStream, IsFaultAt}
use Rattle.ic_chunk.specs.Joining.{IsStuck}
use Rattle.ic_chunk.proofs.Lists.{all_back, all_by, together-push}
use Rattle.ic_chunk.specs.Seen.{IsBytes}
use Rattle.ic_chunk.proofs.ReadingLemmas.{chunk_at-spelled, some_same}
use Rattle.ic_chunk.proofs.Running.{IsRead, grown_many, halves, first_of_run}
use Rattle.ic_chunk.proofs.Completing.{completed}
use Rattle.ic_chunk.proofs.Parsing.{not_nil, front-chunks, begins, follows}

abbrev standing : List ℕ → Bool → Standing
standing rest ended = record { rest = rest; ended = ended }

-- ---- the payload continues them

pub fed : (before : List (List ℕ)) (rows : List (List Value)) (rest : List ℕ) (ended : Bool) (done : List Chunk) (all : Step) → Assembles before rows rest ended → AllByRecursion IsRead done → IsBytes rest
    → run (record { rest = rest; ended = ended }) done ≡ Some all → Assembles (before ++ payload_of done ∷ []) (rows ++ all.0) all.1.rest all.1.ended
fed before rows rest ended done all a each fits e =
    record {
      chunks = a.chunks ++ done ∷ [];
      are = ap (λ l. l ++ payload_of done ∷ []) a.are ∙ sym (map-append payload_of a.chunks (done ∷ []));
      front = subst (λ (l : List Chunk). IsFront l (rows ++ all.0) all.1.rest all.1.ended) (sym (together-push a.chunks done)) (grown_many (together a.chunks) rows rest ended done all a.front each fits e);
    }

-- ---- it doesn't

-- what the chunks of a stream do after its first chunks
record Last (before : List (List ℕ)) (p : List ℕ) (rest : List ℕ) (ended : Bool) : Type 0 where
  pub chunks : List Chunk
  pub each : AllByRecursion IsChunk chunks
  pub are : payload_of chunks ≡ p
  pub all : Step
  pub goes : run (standing rest ended) chunks ≡ Some all

last_of : (before : List (List ℕ)) (rows : List (List Value)) (rest : List ℕ) (ended : Bool) (p : List ℕ) → Assembles before rows rest ended → IsStream (before ++ p ∷ []) → Last before p rest ended
last_of before rows rest ended p a s =
    let b = s.assemble in
    let hb = front-chunks (together b.chunks) s.rows s.rest s.ended b.front in
    let f = follows a.chunks b.chunks (p ∷ []) (front-chunks (together a.chunks) rows rest ended a.front) hb (ap (λ l. l ++ p ∷ []) (sym a.are) ∙ b.are) in
    go f.others f.are f.rest hb (completed (together b.chunks) s.rows s.rest s.ended b.front)
  where
    go : (others : List (List Chunk)) → s.assemble.chunks ≡ a.chunks ++ others → p ∷ [] ≡ map payload_of others → AllByRecursion IsChunk (together s.assemble.chunks)
        → run fresh (together s.assemble.chunks) ≡ Some (s.rows, standing s.rest s.ended) → Last before p rest ended
    go [] are is each e = absurd cc
    go (cs ∷ ds ∷ css) are is each e = absurd cc
    go (cs ∷ []) are is each e =
        let same : together s.assemble.chunks ≡ together a.chunks ++ cs = ap together are ∙ together-push a.chunks cs in
        let h = halves fresh (together a.chunks) cs (s.rows, standing s.rest s.ended) (ap (run fresh) (sym same) ∙ e) in
        let there : h.front ≡ (rows, standing rest ended) = some_same h.front (rows, standing rest ended) (sym h.first ∙ completed (together a.chunks) rows rest ended a.front) in
        record {
          chunks = cs;
          each = all_back IsChunk (together a.chunks) cs (subst (AllByRecursion IsChunk) same each);
          are = cc;
          all = h.back;
          goes = ap (λ (x : Step). run x.1 cs) (sym there) ∙ h.then;
        }

-- no chunk at the front of what is left can come next
pub stuck : (before : List (List ℕ)) (rows : List (List Value)) (rest : List ℕ) (ended : Bool) (done : List Chunk) (all : Step) (left p front after : List ℕ) → Assembles before rows rest ended
    → AllByRecursion IsChunk done → run (record { rest = rest; ended = ended }) done ≡ Some all → IsStuck all.1 (chunk_at left) → p ≡ payload_of done ++ front → front ≢ [] → left ≡ front ++ after → IsStream (before ++ p ∷ []) → ⊥
stuck before rows rest ended done all left p front after a each e stays are some left_is s =
    let l = last_of before rows rest ended p a s in
    let b = begins done l.chunks front each l.each (l.are ∙ are) in
    go b.more b.each b.rest l.all (ap (run (standing rest ended)) (sym b.are) ∙ l.goes)
  where
    go : (more : List Chunk) → AllByRecursion IsChunk more → front ≡ payload_of more → (whole : Step) → run (standing rest ended) (done ++ more) ≡ Some whole → ⊥
    go [] h is whole goes = some is
    go (c ∷ cs) h is whole goes =
        let k = halves (standing rest ended) done (c ∷ cs) whole goes in
        let there : k.front ≡ all = some_same k.front all (sym k.first ∙ e) in
        let first = first_of_run k.front.1 c cs k.back k.then in
        let seen : chunk_at left ≡ Some (c, payload_of cs ++ after) = ap chunk_at (left_is ∙ ap (λ m. m ++ after) is ∙ append_assoc (spelled c) (payload_of cs) after) ∙ chunk_at-spelled c (payload_of cs ++ after) h.0 in
        let none : goes_on all.1 c ≡ None = subst (IsStuck all.1) seen stays in
        let yes : goes_on all.1 c ≡ Some first.step = ap (λ (x : Step). goes_on x.1 c) (sym there) ∙ first.first in
        cc

pub broken : (before : List (List ℕ)) (rows : List (List Value)) (rest : List ℕ) (ended : Bool) (done : List Chunk) (all : Step) (left payload : List ℕ) → Assembles before rows rest ended
    → AllByRecursion IsChunk done → run (record { rest = rest; ended = ended }) done ≡ Some all → IsStuck all.1 (chunk_at left) → payload ≡ payload_of done ++ left → left ≢ [] → IsStream (before ++ payload ∷ []) → ⊥
broken before rows rest ended done all left payload a each e stays are some = stuck before rows rest ended done all left payload left [] a each e stays are some (sym (append-nil left))

pub fault_at : (before : List (List ℕ)) (rows : List (List Value)) (rest : List ℕ) (ended : Bool) (done : List Chunk) (all : Step) (left payload : List ℕ) → Assembles before rows rest ended
    → AllByRecursion IsRead done → IsBytes rest → run (record { rest = rest; ended = ended }) done ≡ Some all → IsStuck all.1 (chunk_at left) → payload ≡ payload_of done ++ left → left ≢ [] → IsFaultAt before payload (length done)
fault_at before rows rest ended done all left payload a each fits e stays are some =
    record {
      chunks = done;
      left = left;
      count = refl;
      are = are;
      go_on = record { rows = rows ++ all.0; rest = all.1.rest; ended = all.1.ended; assemble = fed before rows rest ended done all a each fits e };
      more = some;
      stop = λ c behind is s.
          let put : payload_of (done ++ c ∷ []) ≡ payload_of done ++ (spelled c ++ []) = flat_map-append spelled done (c ∷ []) in
          let there : spelled c ++ [] ≢ [] = λ none. not_nil c [] none in
          stuck before rows rest ended done all left (payload_of (done ++ c ∷ [])) (spelled c ++ []) behind a (all_by IsRead IsChunk (λ d r. r.is_chunk) done each) e stays put there (is ∙ ap (λ l. l ++ behind) (sym (append-nil (spelled c)))) s;
    }
