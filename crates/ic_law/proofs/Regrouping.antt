-- Chunks that assemble do so however they are distributed over payloads, and with the end of stream after them.
use Rattle.std.proofs.Common.{◌≡◌, ℕ, List, [], ◌∷◌, ◌++◌, map, Bool, true, false, refl, ap, sym, ◌∙◌, subst, append_assoc, append-nil}
use Rattle.ic_row.specs.declared.value.Value.{Value}
use Rattle.ic_chunk.specs.Chunks.{Chunk, spelled, payload_of, end_of_stream}
use Rattle.ic_chunk.specs.Assembly.{IsPart, together, IsFront, Assembles}
use Rattle.ic_chunk.proofs.Lists.{all_back, together-append}
use Rattle.ic_chunk.proofs.Growing.{all-without_empty, none_pending}
use Rattle.ic_chunk.proofs.Parsing.{not_nil}
use Rattle.std.specs.List.{AllByRecursion}
use Rattle.ic_law.proofs.Lists.{map-append, flat_map-append}

-- groups of payloads, with the chunks that the bytes of each group are
record Grouped (gs : List (List (List ℕ))) (tail : List (List ℕ)) (chunks : List (List Chunk)) : Type 0 where
  pub parts : List (List Chunk)
  pub more : List (List Chunk)
  pub are : map together gs ≡ map payload_of parts
  pub all : together chunks ≡ together parts ++ together more
  pub tail_is : together tail ≡ payload_of (together more)

take_group : (g more : List (List ℕ)) (chunks : List (List Chunk)) → g ++ more ≡ map payload_of chunks
    → (front : List (List Chunk)) × (back : List (List Chunk)) × (chunks ≡ front ++ back) × (g ≡ map payload_of front) × (more ≡ map payload_of back)
take_group [] more chunks h = ([], chunks, refl, refl, h)
take_group (x ∷ g) more [] h = let bad : x ∷ (g ++ more) ≡ [] = h in cc
take_group (x ∷ g) more (c ∷ chunks) h =
    let same : x ≡ payload_of c = cc in
    let rest : g ++ more ≡ map payload_of chunks = cc in
    let w = take_group g more chunks rest in
    (c ∷ w.0, w.1, ap (λ l. c ∷ l) w.2, ap (λ y. y ∷ g) same ∙ ap (λ l. payload_of c ∷ l) w.3, w.4)

together-payload : (css : List (List Chunk)) → together (map payload_of css) ≡ payload_of (together css)
together-payload [] = refl
together-payload (cs ∷ css) = ap (λ l. payload_of cs ++ l) (together-payload css) ∙ sym (flat_map-append spelled cs (together css))

grouped : (gs : List (List (List ℕ))) (tail : List (List ℕ)) (chunks : List (List Chunk)) → together gs ++ tail ≡ map payload_of chunks → Grouped gs tail chunks
grouped [] tail chunks h = record { parts = []; more = chunks; are = refl; all = refl; tail_is = ap together h ∙ together-payload chunks }
grouped (g ∷ gs) tail chunks h =
    let w = take_group g (together gs ++ tail) chunks (sym (append_assoc g (together gs) tail) ∙ h) in
    let r = grouped gs tail w.1 w.4 in
    record {
      parts = together w.0 ∷ r.parts;
      more = r.more;
      are = ap (λ y. y ∷ map together gs) (ap together w.3 ∙ together-payload w.0) ∙ ap (λ l. payload_of (together w.0) ∷ l) r.are;
      all = ap together w.2 ∙ together-append w.0 w.1 ∙ ap (λ l. together w.0 ++ l) r.all ∙ sym (append_assoc (together w.0) (together r.parts) (together r.more));
      tail_is = r.tail_is;
    }

-- the end of stream after whole rows
front_ended : (xs : List Chunk) (rows : List (List Value)) (rest : List ℕ) → IsFront xs rows rest false → rest ≡ [] → IsFront (xs ++ end_of_stream ∷ []) rows rest true
front_ended xs rows rest h none =
    let parts : xs ≡ h.parts = h.all ∙ append-nil h.parts in
    let pending = none_pending h.pending h.begun (all_back IsPart (together h.groups) h.pending (subst (λ l. AllByRecursion IsPart l) h.read (all-without_empty IsPart h.parts h.each))) (sym none ∙ h.left) in
    record {
      parts = h.parts;
      groups = h.groups;
      pending = h.pending;
      all = ap (λ l. l ++ end_of_stream ∷ []) parts;
      each = h.each;
      read = h.read;
      whole = h.whole;
      spell = h.spell;
      begun = h.begun;
      left = h.left;
      between = λ e. pending;
    }

-- chunks in groups
pub regrouped : (gs : List (List (List ℕ))) (rows : List (List Value)) (rest : List ℕ) (ended : Bool) → Assembles (together gs) rows rest ended → Assembles (map together gs) rows rest ended
regrouped gs rows rest ended a =
    let g = grouped gs [] a.chunks (append-nil (together gs) ∙ a.are) in
    let none : together g.more ≡ [] = no_chunks (together g.more) (sym g.tail_is) in
    record {
      chunks = g.parts;
      are = g.are;
      front = subst (λ l. IsFront l rows rest ended) (g.all ∙ ap (λ l. together g.parts ++ l) none ∙ append-nil (together g.parts)) a.front;
    }
  where
    no_chunks : (cs : List Chunk) → payload_of cs ≡ [] → cs ≡ []
    no_chunks [] h = refl
    no_chunks (c ∷ cs) h = absurd (not_nil c (payload_of cs) h)

-- chunks in groups, the last of them with the end of stream after it
pub regrouped_whole : (gs : List (List (List ℕ))) (last : List (List ℕ)) (rows : List (List Value)) (rest : List ℕ) → Assembles (together gs ++ last) rows rest false → rest ≡ []
    → Assembles (map together gs ++ (together last ++ spelled end_of_stream) ∷ []) rows rest true
regrouped_whole gs last rows rest a none =
    let g = grouped gs last a.chunks a.are in
    let chunk : List Chunk = together g.more ++ end_of_stream ∷ [] in
    record {
      chunks = g.parts ++ chunk ∷ [];
      are = ap (λ l. l ++ (together last ++ spelled end_of_stream) ∷ []) g.are ∙ ap (λ y. map payload_of g.parts ++ (y ++ spelled end_of_stream) ∷ []) g.tail_is
          ∙ ap (λ y. map payload_of g.parts ++ y ∷ []) (ends (together g.more)) ∙ sym (map-append payload_of g.parts (chunk ∷ []));
      front = subst (λ l. IsFront l rows rest true) (joins g.parts (together g.more) a.chunks g.all) (front_ended (together a.chunks) rows rest a.front none);
    }
  where
    ends : (cs : List Chunk) → payload_of cs ++ spelled end_of_stream ≡ payload_of (cs ++ end_of_stream ∷ [])
    ends cs = ap (λ l. payload_of cs ++ l) (sym (append-nil (spelled end_of_stream))) ∙ sym (flat_map-append spelled cs (end_of_stream ∷ []))

    joins : (parts : List (List Chunk)) (cs : List Chunk) (chunks : List (List Chunk)) → together chunks ≡ together parts ++ cs → together chunks ++ end_of_stream ∷ [] ≡ together (parts ++ (cs ++ end_of_stream ∷ []) ∷ [])
    joins parts cs chunks h =
        ap (λ l. l ++ end_of_stream ∷ []) h ∙ append_assoc (together parts) cs (end_of_stream ∷ [])
        ∙ ap (λ l. together parts ++ l) (sym (append-nil (cs ++ end_of_stream ∷ []))) ∙ sym (together-append parts ((cs ++ end_of_stream ∷ []) ∷ []))
