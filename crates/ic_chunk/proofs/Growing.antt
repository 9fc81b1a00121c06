-- The front of a stream, one chunk on.
use Rattle.std.proofs.Common.{◌≡◌, ◌≢◌, ℕ, ◌<◌, List, [], ◌∷◌, ◌++◌, length, map, Bool, true, false, not, cond, eqb-true, Option, Some, None, Result, Ok, Err, refl, ap, sym, ◌∙◌, subst, arith, append_assoc, append-nil, length-append}
use Rattle.std.proofs.lemmas.List.{map-append, nil_from_length}
use Rattle.std.specs.List.{AllByRecursion, AllZip}
use Rattle.std.proofs.lemmas.List.Concat.{flat_map-append}
use Rattle.std.proofs.lemmas.Bool.{ltb-true}
use Rattle.ic_row.specs.declared.value.Value.{Value}
use Rattle.ic_row.specs.Spelling.{Spells}
use Rattle.ic_row.specs.Reading.{read_row_of}
use Rattle.ic_chunk.specs.declared.chunk.ChunkKind.{ChunkKind}
use Rattle.ic_chunk.specs.declared.chunk.ChunkKind.TheVariants.{Whole, Start, Middle, End, EndOfStream, Empty}
use Rattle.ic_chunk.specs.Chunks.{Chunk, IsChunk, allows, end_of_stream, body_of, joined}
use Rattle.ic_chunk.specs.Reading.{Step, is_nil, may_stand, goes, ends, does, goes_on}
use Rattle.ic_chunk.specs.Assembly.{IsPart, without_empty, is_empty, IsTail, IsGroup, AreMiddles, IsPending, together, IsFront}
use Rattle.ic_chunk.proofs.Lists.{all_both, all_back, zip_both, together-push}
use Rattle.ic_chunk.specs.Seen.{IsBytes}
use Rattle.ic_chunk.proofs.ReadingLemmas.{IsBytes-append}
use Rattle.ic_chunk.proofs.RowTexts.{read_is}

-- ---- chunks without the empty ones

pub without_empty-append : (xs ys : List Chunk) → without_empty (xs ++ ys) ≡ without_empty xs ++ without_empty ys
without_empty-append [] ys = refl
without_empty-append (x ∷ xs) ys = by (is_empty x.kind) x (without_empty (xs ++ ys)) (without_empty xs) (without_empty-append xs ys)
  where
    by : (b : Bool) (x : Chunk) (us vs : List Chunk) → us ≡ vs ++ without_empty ys → cond b us (x ∷ us) ≡ cond b vs (x ∷ vs) ++ without_empty ys
    by true x us vs e = e
    by false x us vs e = ap (λ l. x ∷ l) e

pub all-without_empty : (P : Chunk → Type 0) (cs : List Chunk) → AllByRecursion P cs → AllByRecursion P (without_empty cs)
all-without_empty P [] h = tt
all-without_empty P (c ∷ cs) h = by (is_empty c.kind) (without_empty cs) h.0 (all-without_empty P cs h.1)
  where
    by : (b : Bool) (us : List Chunk) → P c → AllByRecursion P us → AllByRecursion P (cond b us (c ∷ us))
    by true us p h = h
    by false us p h = (p, h)

-- ---- a row that has begun

-- none of its chunks is empty, so it has bytes
pub filled : (c : Chunk) → c.kind ≡ Start → IsChunk c → 0 < length c.body
filled c start h = ltb-true 0 (length c.body) (ap (λ k. allows k (length c.body)) (sym start) ∙ h.allowed)

pub none_pending : (pending : List Chunk) → IsPending pending → AllByRecursion IsPart pending → [] ≡ joined pending → pending ≡ []
none_pending [] begun each e = refl
none_pending (c ∷ cs) begun each e = absurd (omega (arith, filled c begun.0 each.0.allowed, ap length e, length-append c.body (joined cs)))

pub middles-push : (cs : List Chunk) (c : Chunk) → AreMiddles cs → c.kind ≡ Middle → AreMiddles (cs ++ c ∷ [])
middles-push [] c h is = (is, tt)
middles-push (d ∷ ds) c h is = (h.0, middles-push ds c h.1 is)

pub tail-push : (cs : List Chunk) (c : Chunk) → AreMiddles cs → c.kind ≡ End → IsTail (cs ++ c ∷ [])
tail-push [] c h is = is
tail-push (d ∷ []) c h is = (h.0, is)
tail-push (d ∷ e ∷ es) c h is = (h.0, tail-push (e ∷ es) c h.1 is)

pub pending-push : (cs : List Chunk) (c : Chunk) → cs ≢ [] → IsPending cs → c.kind ≡ Middle → IsPending (cs ++ c ∷ [])
pending-push [] c some h is = absurd (some refl)
pending-push (d ∷ ds) c some h is = (h.0, middles-push ds c h.1 is)

pub group-push : (cs : List Chunk) (c : Chunk) → cs ≢ [] → IsPending cs → c.kind ≡ End → IsGroup (cs ++ c ∷ [])
group-push [] c some h is = absurd (some refl)
group-push (d ∷ []) c some h is = (h.0, is)
group-push (d ∷ e ∷ es) c some h is = (h.0, tail-push (e ∷ es) c h.1 is)

pub joined-push : (cs : List Chunk) (c : Chunk) → joined (cs ++ c ∷ []) ≡ joined cs ++ c.body
joined-push cs c = flat_map-append body_of cs (c ∷ []) ∙ ap (λ l. joined cs ++ l) (append-nil c.body)

-- ---- the front, with one chunk more

parts_are : (cs : List Chunk) (rows : List (List Value)) (rest : List ℕ) (f : IsFront cs rows rest false) → f.parts ≡ cs
parts_are cs rows rest f = sym (f.all ∙ append-nil f.parts)

pending_parts : (cs : List Chunk) (rows : List (List Value)) (rest : List ℕ) (f : IsFront cs rows rest false) → AllByRecursion IsPart f.pending
pending_parts cs rows rest f = all_back IsPart (together f.groups) f.pending (subst (AllByRecursion IsPart) f.read (all-without_empty IsPart f.parts f.each))

pushed : (parts cs : List Chunk) (c : Chunk) → parts ≡ cs → cs ++ c ∷ [] ≡ (parts ++ c ∷ []) ++ []
pushed parts cs c e = ap (λ l. l ++ c ∷ []) (sym e) ∙ sym (append-nil (parts ++ c ∷ []))

-- a row ends with this chunk
ends-front : (cs : List Chunk) (rows : List (List Value)) (rest : List ℕ) (c : Chunk) (group : List Chunk) (row : List Value) (f : IsFront cs rows rest false)
    → IsPart c → is_empty c.kind ≡ false → group ≡ f.pending ++ c ∷ [] → IsGroup group → Spells row (joined group) → IsFront (cs ++ c ∷ []) (rows ++ row ∷ []) [] false
ends-front cs rows rest c group row f part seen is whole spells =
    let one : without_empty (c ∷ []) ≡ c ∷ [] = ap (λ b. cond b [] (c ∷ [])) seen in
    record {
      parts = f.parts ++ c ∷ [];
      groups = f.groups ++ group ∷ [];
      pending = [];
      all = pushed f.parts cs c (parts_are cs rows rest f);
      each = all_both IsPart f.parts (c ∷ []) f.each (part, tt);
      read = without_empty-append f.parts (c ∷ []) ∙ ap (λ l. without_empty f.parts ++ l) one ∙ ap (λ l. l ++ c ∷ []) f.read
          ∙ append_assoc (together f.groups) f.pending (c ∷ []) ∙ ap (λ l. together f.groups ++ l) (sym is) ∙ sym (together-push f.groups group) ∙ sym (append-nil (together (f.groups ++ group ∷ [])));
      whole = all_both IsGroup f.groups (group ∷ []) f.whole (whole, tt);
      spell = subst (AllZip Spells (rows ++ row ∷ [])) (sym (map-append joined f.groups (group ∷ []))) (zip_both Spells rows (row ∷ []) (map joined f.groups) (joined group ∷ []) f.spell (spells, tt));
      begun = tt;
      left = refl;
      between = λ e. refl;
    }

-- a row goes on with this chunk
goes-front : (cs : List Chunk) (rows : List (List Value)) (rest : List ℕ) (c : Chunk) (pending : List Chunk) (f : IsFront cs rows rest false)
    → IsPart c → is_empty c.kind ≡ false → pending ≡ f.pending ++ c ∷ [] → IsPending pending → IsFront (cs ++ c ∷ []) (rows ++ []) (rest ++ c.body) false
goes-front cs rows rest c pending f part seen is begun =
    let one : without_empty (c ∷ []) ≡ c ∷ [] = ap (λ b. cond b [] (c ∷ [])) seen in
    record {
      parts = f.parts ++ c ∷ [];
      groups = f.groups;
      pending = pending;
      all = pushed f.parts cs c (parts_are cs rows rest f);
      each = all_both IsPart f.parts (c ∷ []) f.each (part, tt);
      read = without_empty-append f.parts (c ∷ []) ∙ ap (λ l. without_empty f.parts ++ l) one ∙ ap (λ l. l ++ c ∷ []) f.read
          ∙ append_assoc (together f.groups) f.pending (c ∷ []) ∙ ap (λ l. together f.groups ++ l) (sym is);
      whole = f.whole;
      spell = subst (λ (r : List (List Value)). AllZip Spells r (map joined f.groups)) (sym (append-nil rows)) f.spell;
      begun = begun;
      left = ap (λ l. l ++ c.body) f.left ∙ sym (joined-push f.pending c) ∙ ap joined (sym is);
      between = λ e. absurd cc;
    }

-- an empty chunk is skipped
skips-front : (cs : List Chunk) (rows : List (List Value)) (rest : List ℕ) (c : Chunk) (f : IsFront cs rows rest false) → IsPart c → is_empty c.kind ≡ true → IsFront (cs ++ c ∷ []) (rows ++ []) rest false
skips-front cs rows rest c f part seen =
    let one : without_empty (c ∷ []) ≡ [] = ap (λ b. cond b [] (c ∷ [])) seen in
    record {
      parts = f.parts ++ c ∷ [];
      groups = f.groups;
      pending = f.pending;
      all = pushed f.parts cs c (parts_are cs rows rest f);
      each = all_both IsPart f.parts (c ∷ []) f.each (part, tt);
      read = without_empty-append f.parts (c ∷ []) ∙ ap (λ l. without_empty f.parts ++ l) one ∙ append-nil (without_empty f.parts) ∙ f.read;
      whole = f.whole;
      spell = subst (λ (r : List (List Value)). AllZip Spells r (map joined f.groups)) (sym (append-nil rows)) f.spell;
      begun = f.begun;
      left = f.left;
      between = λ e. absurd cc;
    }

-- the end of stream
over-front : (cs : List Chunk) (rows : List (List Value)) (f : IsFront cs rows [] false) → IsFront (cs ++ end_of_stream ∷ []) (rows ++ []) [] true
over-front cs rows f =
    record {
      parts = f.parts;
      groups = f.groups;
      pending = f.pending;
      all = ap (λ l. l ++ end_of_stream ∷ []) (sym (parts_are cs rows [] f));
      each = f.each;
      read = f.read;
      whole = f.whole;
      spell = subst (λ (r : List (List Value)). AllZip Spells r (map joined f.groups)) (sym (append-nil rows)) f.spell;
      begun = f.begun;
      left = f.left;
      between = λ e. none_pending f.pending f.begun (pending_parts cs rows [] f) f.left;
    }

-- ---- one chunk on

pub guarded : {A : Type 0} (b : Bool) (x : Option A) (y : A) → cond b x None ≡ Some y → (b ≡ true) × (x ≡ Some y)
guarded true x y e = (refl, e)
guarded false x y e = absurd cc

pub nil_is : (rest : List ℕ) → is_nil rest ≡ true → rest ≡ []
nil_is [] e = refl
nil_is (b ∷ bytes) e = absurd cc

pub some_is : (rest : List ℕ) → not (is_nil rest) ≡ true → rest ≢ []
some_is [] e nil = absurd cc
some_is (b ∷ bytes) e nil = absurd cc

pub ends_with : (r : Result (List Value) ℕ) (step : Step) → ends r ≡ Some step → (row : List Value) × (r ≡ Ok row) × ((row ∷ [], record { rest = []; ended = false }) ≡ step)
ends_with (Ok row) step e = (row, refl, cc)
ends_with (Err place) step e = absurd cc

abbrev Grows : List Chunk → List (List Value) → Chunk → Step → Type 0
Grows cs rows c step = IsFront (cs ++ c ∷ []) (rows ++ step.0) step.1.rest step.1.ended

grow : (cs : List Chunk) (rows : List (List Value)) (rest : List ℕ) (kind : ChunkKind) (body : List ℕ) (step : Step) → IsFront cs rows rest false → IsChunk (record { kind = kind; body = body })
    → IsBytes rest → IsBytes body → cond (may_stand kind rest) (does kind rest body) None ≡ Some step → Grows cs rows (record { kind = kind; body = body }) step
grow cs rows rest Whole body step f is fits these e =
    let c : Chunk = record { kind = Whole; body = body } in
    let g = guarded (is_nil rest) (ends (read_row_of body)) step e in
    let r = ends_with (read_row_of body) step g.1 in
    let nil : rest ≡ [] = nil_is rest g.0 in
    let none : f.pending ≡ [] = none_pending f.pending f.begun (pending_parts cs rows rest f) (sym nil ∙ f.left) in
    let part : IsPart c = record { allowed = is; goes_on = λ e. cc } in
    let spells : Spells r.0 (body ++ []) = subst (Spells r.0) (sym (append-nil body)) (read_is body r.0 these r.1) in
    subst (Grows cs rows c) r.2 (ends-front cs rows rest c (c ∷ []) r.0 f part refl (ap (λ l. l ++ c ∷ []) (sym none)) refl spells)
grow cs rows rest Start body step f is fits these e =
    let c : Chunk = record { kind = Start; body = body } in
    let g = guarded (is_nil rest) (goes body) step e in
    let nil : rest ≡ [] = nil_is rest g.0 in
    let none : f.pending ≡ [] = none_pending f.pending f.begun (pending_parts cs rows rest f) (sym nil ∙ f.left) in
    let part : IsPart c = record { allowed = is; goes_on = λ e. cc } in
    let same : ([], record { rest = rest ++ body; ended = false }) ≡ step = cc (ap (λ l. l ++ body) nil) in
    subst (Grows cs rows c) same (goes-front cs rows rest c (c ∷ []) f part refl (ap (λ l. l ++ c ∷ []) (sym none)) (refl, tt))
grow cs rows rest Middle body step f is fits these e =
    let c : Chunk = record { kind = Middle; body = body } in
    let g = guarded (not (is_nil rest)) (goes (rest ++ body)) step e in
    let begun : f.pending ≢ [] = λ none. some_is rest g.0 (f.left ∙ ap joined none) in
    let part : IsPart c = record { allowed = is; goes_on = λ e. cc } in
    let same : ([], record { rest = rest ++ body; ended = false }) ≡ step = cc in
    subst (Grows cs rows c) same (goes-front cs rows rest c (f.pending ++ c ∷ []) f part refl refl (pending-push f.pending c begun f.begun refl))
grow cs rows rest End body step f is fits these e =
    let c : Chunk = record { kind = End; body = body } in
    let g = guarded (not (is_nil rest)) (ends (read_row_of (rest ++ body))) step e in
    let r = ends_with (read_row_of (rest ++ body)) step g.1 in
    let begun : f.pending ≢ [] = λ none. some_is rest g.0 (f.left ∙ ap joined none) in
    let part : IsPart c = record { allowed = is; goes_on = λ e. cc } in
    let spells : Spells r.0 (joined (f.pending ++ c ∷ [])) =
    subst (Spells r.0) (ap (λ l. l ++ body) f.left ∙ sym (joined-push f.pending c)) (read_is (rest ++ body) r.0 (IsBytes-append rest body fits these) r.1) in
    subst (Grows cs rows c) r.2 (ends-front cs rows rest c (f.pending ++ c ∷ []) r.0 f part refl refl (group-push f.pending c begun f.begun refl) spells)
grow cs rows rest EndOfStream body step f is fits these e =
    let g = guarded (is_nil rest) (Some ([], record { rest = []; ended = true })) step e in
    let nil : rest ≡ [] = nil_is rest g.0 in
    let none : body ≡ [] = nil_from_length body (eqb-true (length body) 0 is.allowed) in
    let same : ([], record { rest = []; ended = true }) ≡ step = cc in
    let here : IsFront cs rows [] false = subst (λ (l : List ℕ). IsFront cs rows l false) nil f in
    subst (Grows cs rows (record { kind = EndOfStream; body = body })) same
    (subst (λ (l : List ℕ). IsFront (cs ++ record { kind = EndOfStream; body = l } ∷ []) (rows ++ []) [] true) (sym none) (over-front cs rows here))
grow cs rows rest Empty body step f is fits these e =
    let c : Chunk = record { kind = Empty; body = body } in
    let part : IsPart c = record { allowed = is; goes_on = λ e. cc } in
    let same : ([], record { rest = rest; ended = false }) ≡ step = cc in
    subst (Grows cs rows c) same (skips-front cs rows rest c f part refl)

-- the front of a stream, one chunk on
pub grown : (cs : List Chunk) (rows : List (List Value)) (rest : List ℕ) (ended : Bool) (c : Chunk) (step : Step) → IsFront cs rows rest ended → IsChunk c
    → IsBytes rest → IsBytes c.body → goes_on (record { rest = rest; ended = ended }) c ≡ Some step → Grows cs rows c step
unfolding goes_on
grown cs rows rest true c step f is fits these e = absurd cc
grown cs rows rest false c step f is fits these e = grow cs rows rest c.kind c.body step f is fits these e
