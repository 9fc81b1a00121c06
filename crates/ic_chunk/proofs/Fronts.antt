-- The first chunks of a stream are the front of a stream.
use Rattle.std.proofs.Common.{◌≡◌, ℕ, List, [], ◌∷◌, ◌++◌, ◌⊎◌, map, Bool, true, false, refl, ap, sym, ◌∙◌, subst, inl, inr, append_assoc, append-nil}
use Rattle.std.specs.List.{AllByRecursion, AllZip}
use Rattle.ic_row.specs.declared.value.Value.{Value}
use Rattle.ic_row.specs.Spelling.{Spells}
use Rattle.ic_chunk.specs.Chunks.{Chunk, payload_of, end_of_stream, joined}
use Rattle.ic_chunk.specs.Assembly.{IsPart, without_empty, IsTail, IsGroup, AreMiddles, IsPending, together, IsFront, IsStream}
use Rattle.ic_chunk.specs.Laws.{FrontAssembles}
use Rattle.ic_chunk.proofs.Lists.{all_front, together-append}
use Rattle.ic_chunk.proofs.Growing.{without_empty-append}

-- ---- the front of a row is an unfinished row

middles_front : (us : List Chunk) (x : Chunk) (more : List Chunk) → IsTail (us ++ x ∷ more) → AreMiddles us
middles_front [] x more h = tt
middles_front (u ∷ []) x more h = (h.0, tt)
middles_front (u ∷ v ∷ us) x more h = (h.0, middles_front (v ∷ us) x more h.1)

group_front : (us : List Chunk) (x : Chunk) (more : List Chunk) → IsGroup (us ++ x ∷ more) → IsPending us
group_front [] x more h = tt
group_front (u ∷ []) x more h = (h.0, tt)
group_front (u ∷ v ∷ us) x more h = (h.0, middles_front (v ∷ us) x more h.1)

middles_cut : (us vs : List Chunk) → AreMiddles (us ++ vs) → AreMiddles us
middles_cut [] vs h = tt
middles_cut (u ∷ us) vs h = (h.0, middles_cut us vs h.1)

pending_front : (us vs : List Chunk) → IsPending (us ++ vs) → IsPending us
pending_front [] vs h = tt
pending_front (u ∷ us) vs h = (h.0, middles_cut us vs h.1)

-- ---- where a list is cut

-- a cut comes after a first piece, or inside it
inside : (us vs group more : List Chunk) → us ++ vs ≡ group ++ more → ((w : List Chunk) × (us ≡ group ++ w) × (w ++ vs ≡ more)) ⊎ ((x : Chunk) × (w : List Chunk) × (group ≡ us ++ x ∷ w))
inside us vs [] more h = inl (us, refl, h)
inside [] vs (g ∷ group) more h = inr (g, group, refl)
inside (u ∷ us) vs (g ∷ group) more h =
    let first : u ≡ g = cc in
    let others : us ++ vs ≡ group ++ more = cc in
    elim (inside us vs group more others) [
      | inl w ↦ inl (w.0, ap (λ c. c ∷ us) first ∙ ap (λ l. g ∷ l) w.1, w.2)
      | inr w ↦ inr (w.0, w.1, ap (λ c. c ∷ group) (sym first) ∙ ap (λ l. u ∷ l) w.2)
    ]

-- a cut comes at the end, or before the last
before_last : (xs ys parts : List Chunk) (e : Chunk) → xs ++ ys ≡ parts ++ e ∷ [] → (ys ≡ []) ⊎ ((zs : List Chunk) × (parts ≡ xs ++ zs))
before_last [] ys parts e h = inr (parts, refl)
before_last (x ∷ xs) ys [] e h =
    let nil : xs ++ ys ≡ [] = cc in
    inl (back_nil xs ys nil)
  where
    back_nil : (xs ys : List Chunk) → xs ++ ys ≡ [] → ys ≡ []
    back_nil [] ys e = e
    back_nil (x ∷ xs) ys e = cc
before_last (x ∷ xs) ys (p ∷ parts) e h =
    let first : x ≡ p = cc in
    let others : xs ++ ys ≡ parts ++ e ∷ [] = cc in
    elim (before_last xs ys parts e others) [
      | inl w ↦ inl w
      | inr w ↦ inr (w.0, ap (λ c. c ∷ parts) (sym first) ∙ ap (λ l. x ∷ l) w.1)
    ]

-- whole groups and an unfinished row, cut
record Cut (us : List Chunk) (groups : List (List Chunk)) (rows : List (List Value)) : Type 0 where
  pub front : List (List Chunk)
  pub pending : List Chunk
  pub first : List (List Value)
  pub others : List (List Value)
  pub read : us ≡ together front ++ pending
  pub whole : AllByRecursion IsGroup front
  pub spell : AllZip Spells first (map joined front)
  pub rows_are : rows ≡ first ++ others
  pub begun : IsPending pending

cut : (groups : List (List Chunk)) (rows : List (List Value)) (pending us vs : List Chunk) → us ++ vs ≡ together groups ++ pending → AllByRecursion IsGroup groups → AllZip Spells rows (map joined groups) → IsPending pending → Cut us groups rows
cut [] rows pending us vs h whole spell begun =
    record { front = []; pending = us; first = []; others = rows; read = refl; whole = tt; spell = tt; rows_are = refl; begun = pending_front us vs (subst IsPending (sym h) begun) }
cut (g ∷ gs) [] pending us vs h whole spell begun = absurd spell
cut (g ∷ gs) (row ∷ rows) pending us vs h whole spell begun =
    elim (inside us vs g (together gs ++ pending) (h ∙ append_assoc g (together gs) pending)) [
      | inl w ↦
          let c = cut gs rows pending w.0 vs w.2 whole.1 spell.1 begun in
          record {
            front = g ∷ c.front;
            pending = c.pending;
            first = row ∷ c.first;
            others = c.others;
            read = w.1 ∙ ap (λ l. g ++ l) c.read ∙ sym (append_assoc g (together c.front) c.pending);
            whole = (whole.0, c.whole);
            spell = (spell.0, c.spell);
            rows_are = ap (λ l. row ∷ l) c.rows_are;
            begun = c.begun;
          }
      | inr w ↦ record { front = []; pending = us; first = []; others = row ∷ rows; read = refl; whole = tt; spell = tt; rows_are = refl; begun = group_front us w.0 w.1 (subst IsGroup w.2 whole.0) }
    ]

-- ---- the front of a stream

record First (xs : List Chunk) (rows : List (List Value)) : Type 0 where
  pub first : List (List Value)
  pub others : List (List Value)
  pub rest : List ℕ
  pub ended : Bool
  pub front : IsFront xs first rest ended
  pub rows_are : rows ≡ first ++ others

first_parts : (xs ys : List Chunk) (rows : List (List Value)) (rest : List ℕ) (ended : Bool) (f : IsFront (xs ++ ys) rows rest ended) (zs : List Chunk) → f.parts ≡ xs ++ zs → First xs rows
first_parts xs ys rows rest ended f zs parts =
    let read : without_empty xs ++ without_empty zs ≡ together f.groups ++ f.pending = sym (without_empty-append xs zs) ∙ ap without_empty (sym parts) ∙ f.read in
    let c = cut f.groups rows f.pending (without_empty xs) (without_empty zs) read f.whole f.spell f.begun in
    record {
      first = c.first;
      others = c.others;
      rest = joined c.pending;
      ended = false;
      front = record {
        parts = xs;
        groups = c.front;
        pending = c.pending;
        all = sym (append-nil xs);
        each = all_front IsPart xs zs (subst (AllByRecursion IsPart) parts f.each);
        read = c.read;
        whole = c.whole;
        spell = c.spell;
        begun = c.begun;
        left = refl;
        between = λ e. absurd cc;
      };
      rows_are = c.rows_are;
    }

first_of : (xs ys : List Chunk) (rows : List (List Value)) (rest : List ℕ) (ended : Bool) → IsFront (xs ++ ys) rows rest ended → First xs rows
first_of xs ys rows rest false f = first_parts xs ys rows rest false f ys (sym (f.all ∙ append-nil f.parts))
first_of xs ys rows rest true f =
    elim (before_last xs ys f.parts end_of_stream f.all) [
      | inl nil ↦
          let here : IsFront xs rows rest true = subst (λ (l : List Chunk). IsFront l rows rest true) (ap (λ l. xs ++ l) nil ∙ append-nil xs) f in
          record { first = rows; others = []; rest = rest; ended = true; front = here; rows_are = sym (append-nil rows) }
      | inr w ↦ first_parts xs ys rows rest true f w.0 w.1
    ]

both : {A : Type 0} (x y : A) (xs ys : List A) → x ≡ y → xs ≡ ys → x ∷ xs ≡ y ∷ ys
both x y xs ys e f = cc

-- payloads, cut
front_payloads : (payloads more : List (List ℕ)) (css : List (List Chunk)) → payloads ++ more ≡ map payload_of css → (front : List (List Chunk)) × (back : List (List Chunk)) × (css ≡ front ++ back) × (payloads ≡ map payload_of front)
front_payloads [] more css h = ([], css, refl, refl)
front_payloads (p ∷ ps) more [] h = absurd cc
front_payloads (p ∷ ps) more (cs ∷ css) h =
    let first : p ≡ payload_of cs = cc in
    let others : ps ++ more ≡ map payload_of css = cc in
    let w = front_payloads ps more css others in
    (cs ∷ w.0, w.1, both cs cs css (w.0 ++ w.1) refl w.2, both p (payload_of cs) ps (map payload_of w.0) first w.3)

-- the law
pub front_assembles : FrontAssembles
front_assembles payloads more rows rest ended a =
    let w = front_payloads payloads more a.chunks a.are in
    let chunks : together a.chunks ≡ together w.0 ++ together w.1 = ap together w.2 ∙ together-append w.0 w.1 in
    let f = first_of (together w.0) (together w.1) rows rest ended (subst (λ (l : List Chunk). IsFront l rows rest ended) chunks a.front) in
    (f.first, f.others, f.rest, f.ended, record { chunks = w.0; are = w.3; front = f.front }, f.rows_are)

-- what is no front of a stream isn't one with more payloads either
pub stream_front : (payloads more : List (List ℕ)) → IsStream (payloads ++ more) → IsStream payloads
stream_front payloads more s =
    let w = front_assembles payloads more s.rows s.rest s.ended s.assemble in
    record { rows = w.0; rest = w.2; ended = w.3; assemble = w.4 }
