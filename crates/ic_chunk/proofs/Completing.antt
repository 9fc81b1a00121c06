-- A front of a stream is read as what it is.
use Rattle.std.proofs.Common.{◌≡◌, ◌≢◌, ℕ, ◌<◌, List, [], ◌∷◌, ◌++◌, length, map, Bool, true, false, not, cond, Option, Some, None, Result, Ok, refl, ap, sym, ◌∙◌, subst, arith, append_assoc, append-nil, length-append}
use Rattle.std.specs.Option.{option_and_then}
use Rattle.std.specs.List.{AllByRecursion, AllZip}
use Rattle.ic_row.specs.declared.value.Value.{Value}
use Rattle.ic_row.specs.Spelling.{Spells}
use Rattle.ic_row.specs.Reading.{read_row_of}
use Rattle.ic_chunk.specs.declared.chunk.ChunkKind.{ChunkKind}
use Rattle.ic_chunk.specs.declared.chunk.ChunkKind.TheVariants.{Whole, Start, Middle, End, EndOfStream, Empty}
use Rattle.ic_chunk.specs.Chunks.{Chunk, end_of_stream, joined}
use Rattle.ic_chunk.specs.Reading.{Standing, Step, is_nil, may_stand, goes, ends, does, goes_on, behind, run, fresh}
use Rattle.ic_chunk.specs.Assembly.{IsPart, is_empty, without_empty, IsTail, IsGroup, AreMiddles, IsPending, together, ending, IsFront}
use Rattle.ic_chunk.proofs.Lists.{all_back, all_front}
use Rattle.ic_chunk.proofs.Growing.{guarded, ends_with, filled, all-without_empty}
use Rattle.ic_chunk.proofs.RowTexts.{read_again}
use Rattle.ic_chunk.proofs.Running.{behind-nil, run-cons, run-append}

abbrev open_at : List ℕ → Standing
open_at rest = record { rest = rest; ended = false }

-- ---- what one chunk does, by its kind

at_kind : (rest : List ℕ) (c : Chunk) (kind : ChunkKind) → c.kind ≡ kind → goes_on (open_at rest) c ≡ cond (may_stand kind rest) (does kind rest c.body) None
unfolding goes_on
at_kind rest c kind is = ap (λ k. cond (may_stand k rest) (does k rest c.body) None) is

some_not_nil : (rest : List ℕ) → 0 < length rest → not (is_nil rest) ≡ true
some_not_nil [] some = absurd (omega arith)
some_not_nil (b ∷ bytes) some = refl

ends_row : (r : Result (List Value) ℕ) (row : List Value) → r ≡ Ok row → ends r ≡ Some (row ∷ [], fresh)
ends_row r row e = ap ends e

on_whole : (c : Chunk) (row : List Value) → c.kind ≡ Whole → Spells row c.body → goes_on fresh c ≡ Some (row ∷ [], fresh)
on_whole c row is spells = at_kind [] c Whole is ∙ ends_row (read_row_of c.body) row (read_again c.body row spells)

on_start : (c : Chunk) → c.kind ≡ Start → goes_on fresh c ≡ Some ([], open_at c.body)
on_start c is = at_kind [] c Start is

on_middle : (rest : List ℕ) (c : Chunk) → 0 < length rest → c.kind ≡ Middle → goes_on (open_at rest) c ≡ Some ([], open_at (rest ++ c.body))
on_middle rest c some is = at_kind rest c Middle is ∙ ap (λ b. cond b (goes (rest ++ c.body)) None) (some_not_nil rest some)

on_end : (rest : List ℕ) (c : Chunk) (row : List Value) → 0 < length rest → c.kind ≡ End → Spells row (rest ++ c.body) → goes_on (open_at rest) c ≡ Some (row ∷ [], fresh)
on_end rest c row some is spells =
    at_kind rest c End is ∙ ap (λ b. cond b (ends (read_row_of (rest ++ c.body))) None) (some_not_nil rest some) ∙ ends_row (read_row_of (rest ++ c.body)) row (read_again (rest ++ c.body) row spells)

-- ---- empty chunks are skipped

does_not_end : (kind : ChunkKind) (rest body : List ℕ) (step : Step) → kind ≢ EndOfStream → does kind rest body ≡ Some step → step.1.ended ≡ false
does_not_end Whole rest body step ne e = ap (λ (x : Step). x.1.ended) (sym (ends_with (read_row_of body) step e).2)
does_not_end Start rest body step ne e =
    let same : ([], open_at body) ≡ step = cc in
    ap (λ (x : Step). x.1.ended) (sym same)
does_not_end Middle rest body step ne e =
    let same : ([], open_at (rest ++ body)) ≡ step = cc in
    ap (λ (x : Step). x.1.ended) (sym same)
does_not_end End rest body step ne e = ap (λ (x : Step). x.1.ended) (sym (ends_with (read_row_of (rest ++ body)) step e).2)
does_not_end EndOfStream rest body step ne e = absurd (ne refl)
does_not_end Empty rest body step ne e =
    let same : ([], open_at rest) ≡ step = cc in
    ap (λ (x : Step). x.1.ended) (sym same)

goes_on-open : (rest : List ℕ) (c : Chunk) (step : Step) → c.kind ≢ EndOfStream → goes_on (open_at rest) c ≡ Some step → step.1.ended ≡ false
unfolding goes_on
goes_on-open rest c step ne e = does_not_end c.kind rest c.body step ne (guarded (may_stand c.kind rest) (does c.kind rest c.body) step e).1

and_then-same : {A B : Type 0} (f g : A → Option B) (o : Option A) → ((x : A) → o ≡ Some x → f x ≡ g x) → option_and_then f o ≡ option_and_then g o
and_then-same f g None h = refl
and_then-same f g (Some x) h = h x refl

empty_is : (kind : ChunkKind) → is_empty kind ≡ true → kind ≡ Empty
empty_is Whole e = absurd cc
empty_is Start e = absurd cc
empty_is Middle e = absurd cc
empty_is End e = absurd cc
empty_is EndOfStream e = absurd cc
empty_is Empty e = refl

skip_one : (rest : List ℕ) (c : Chunk) (us vs : List Chunk) → IsPart c → ((r : List ℕ) → run (open_at r) us ≡ run (open_at r) vs) → (b : Bool) → is_empty c.kind ≡ b
    → run (open_at rest) (c ∷ us) ≡ run (open_at rest) (cond b vs (c ∷ vs))
skip_one rest c us vs part same true e =
    run-cons (open_at rest) c us ([], open_at rest) (at_kind rest c Empty (empty_is c.kind e)) ∙ behind-nil (run (open_at rest) us) ∙ same rest
skip_one rest c us vs part same false e =
    let go : List Chunk → Step → Option Step = λ l x. behind x.0 (run x.1 l) in
    and_then-same (go us) (go vs) (goes_on (open_at rest) c)
    (λ x is.
    let open_still : x.1 ≡ open_at x.1.rest = ap (λ (b : Bool). record { rest = x.1.rest; ended = b }) (goes_on-open rest c x part.goes_on is) in
    ap (behind x.0) (ap (λ (s : Standing). run s us) open_still ∙ same x.1.rest ∙ sym (ap (λ (s : Standing). run s vs) open_still)))

run-without_empty : (cs : List Chunk) → AllByRecursion IsPart cs → (rest : List ℕ) → run (open_at rest) cs ≡ run (open_at rest) (without_empty cs)
run-without_empty [] each rest = refl
run-without_empty (c ∷ cs) each rest = skip_one rest c cs (without_empty cs) each.0 (run-without_empty cs each.1) (is_empty c.kind) refl

-- ---- groups, and what has begun

run-middles : (rest : List ℕ) (cs : List Chunk) → 0 < length rest → AreMiddles cs → run (open_at rest) cs ≡ Some ([], open_at (rest ++ joined cs))
run-middles rest [] some are = ap (λ (l : List ℕ). Some ([], open_at l)) (sym (append-nil rest))
run-middles rest (c ∷ cs) some are =
    run-cons (open_at rest) c cs ([], open_at (rest ++ c.body)) (on_middle rest c some are.0) ∙ behind-nil (run (open_at (rest ++ c.body)) cs)
    ∙ run-middles (rest ++ c.body) cs (omega (arith, length-append rest c.body)) are.1
    ∙ ap (λ (l : List ℕ). Some ([], open_at l)) (append_assoc rest c.body (joined cs))

run-pending : (cs : List Chunk) → IsPending cs → AllByRecursion IsPart cs → run fresh cs ≡ Some ([], open_at (joined cs))
run-pending [] begun each = refl
run-pending (c ∷ cs) begun each =
    run-cons fresh c cs ([], open_at c.body) (on_start c begun.0) ∙ behind-nil (run (open_at c.body) cs) ∙ run-middles c.body cs (filled c begun.0 each.0.allowed) begun.1

run-tail : (rest : List ℕ) (cs more : List Chunk) (row : List Value) → 0 < length rest → IsTail cs → Spells row (rest ++ joined cs) → run (open_at rest) (cs ++ more) ≡ behind (row ∷ []) (run fresh more)
run-tail rest [] more row some is spells = absurd is
run-tail rest (c ∷ []) more row some is spells =
    run-cons (open_at rest) c more (row ∷ [], fresh) (on_end rest c row some is (subst (λ (l : List ℕ). Spells row (rest ++ l)) (append-nil c.body) spells))
run-tail rest (c ∷ d ∷ ds) more row some is spells =
    run-cons (open_at rest) c (d ∷ (ds ++ more)) ([], open_at (rest ++ c.body)) (on_middle rest c some is.0) ∙ behind-nil (run (open_at (rest ++ c.body)) (d ∷ (ds ++ more)))
    ∙ run-tail (rest ++ c.body) (d ∷ ds) more row (omega (arith, length-append rest c.body)) is.1 (subst (Spells row) (sym (append_assoc rest c.body (joined (d ∷ ds)))) spells)

run-group : (cs more : List Chunk) (row : List Value) → IsGroup cs → AllByRecursion IsPart cs → Spells row (joined cs) → run fresh (cs ++ more) ≡ behind (row ∷ []) (run fresh more)
run-group [] more row is each spells = absurd is
run-group (c ∷ []) more row is each spells =
    run-cons fresh c more (row ∷ [], fresh) (on_whole c row is (subst (Spells row) (append-nil c.body) spells))
run-group (c ∷ d ∷ ds) more row is each spells =
    run-cons fresh c (d ∷ (ds ++ more)) ([], open_at c.body) (on_start c is.0) ∙ behind-nil (run (open_at c.body) (d ∷ (ds ++ more)))
    ∙ run-tail c.body (d ∷ ds) more row (filled c is.0 each.0.allowed) is.1 spells

run-groups : (groups : List (List Chunk)) (rows : List (List Value)) (pending : List Chunk) → AllByRecursion IsGroup groups → AllZip Spells rows (map joined groups) → IsPending pending
    → AllByRecursion IsPart (together groups ++ pending) → run fresh (together groups ++ pending) ≡ Some (rows, open_at (joined pending))
run-groups [] [] pending whole spell begun each = run-pending pending begun each
run-groups [] (row ∷ rows) pending whole spell begun each = absurd spell
run-groups (g ∷ gs) [] pending whole spell begun each = absurd spell
run-groups (g ∷ gs) (row ∷ rows) pending whole spell begun each =
    let parts : AllByRecursion IsPart (g ++ (together gs ++ pending)) = subst (AllByRecursion IsPart) (append_assoc g (together gs) pending) each in
    ap (run fresh) (append_assoc g (together gs) pending)
    ∙ run-group g (together gs ++ pending) row whole.0 (all_front IsPart g (together gs ++ pending) parts) spell.0
    ∙ ap (behind (row ∷ [])) (run-groups gs rows pending whole.1 spell.1 begun (all_back IsPart g (together gs ++ pending) parts))

-- ---- the whole front

run-ending : (rest : List ℕ) (pending : List Chunk) (ended : Bool) → rest ≡ joined pending → (ended ≡ true → pending ≡ []) → run (open_at (joined pending)) (ending ended) ≡ Some ([], record { rest = rest; ended = ended })
run-ending rest pending false left between = ap (λ (l : List ℕ). Some ([], open_at l)) (sym left)
run-ending rest pending true left between =
    let none : pending ≡ [] = between refl in
    let nil : rest ≡ [] = left ∙ ap joined none in
    ap (λ (l : List Chunk). run (open_at (joined l)) (end_of_stream ∷ [])) none
    ∙ run-cons fresh end_of_stream [] ([], record { rest = []; ended = true }) (at_kind [] end_of_stream EndOfStream refl)
    ∙ ap (λ (l : List ℕ). Some ([], record { rest = l; ended = true })) (sym nil)

pub completed : (cs : List Chunk) (rows : List (List Value)) (rest : List ℕ) (ended : Bool) → IsFront cs rows rest ended → run fresh cs ≡ Some (rows, record { rest = rest; ended = ended })
completed cs rows rest ended f =
    let parts : AllByRecursion IsPart (together f.groups ++ f.pending) = subst (AllByRecursion IsPart) f.read (all-without_empty IsPart f.parts f.each) in
    let body : run fresh f.parts ≡ Some (rows, open_at (joined f.pending)) = run-without_empty f.parts f.each [] ∙ ap (run fresh) f.read ∙ run-groups f.groups rows f.pending f.whole f.spell f.begun parts in
    ap (run fresh) f.all ∙ run-append fresh f.parts (ending ended) (rows, open_at (joined f.pending)) body
    ∙ ap (behind rows) (run-ending rest f.pending ended f.left f.between) ∙ ap (λ l. Some (l, record { rest = rest; ended = ended })) (append-nil rows)
