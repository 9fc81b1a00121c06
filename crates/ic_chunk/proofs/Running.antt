-- Many chunks on.
use Rattle.std.proofs.Common.{◌≡◌, ℕ, List, [], ◌∷◌, ◌++◌, Bool, true, false, Option, Some, None, refl, ap, sym, ◌∙◌, subst, arith, append_assoc, append-nil}
use Rattle.std.specs.Option.{option_and_then}
use Rattle.std.specs.List.{AllByRecursion}
use Rattle.ic_row.specs.declared.value.Value.{Value}
use Rattle.ic_row.specs.Reading.{read_row_of}
use Rattle.ic_chunk.specs.declared.chunk.ChunkKind.{ChunkKind}
use Rattle.ic_chunk.specs.declared.chunk.ChunkKind.TheVariants.{Whole, Start, Middle, End, EndOfStream, Empty}
use Rattle.ic_chunk.specs.Chunks.{Chunk, IsChunk}
use Rattle.ic_chunk.specs.Reading.{Standing, Step, may_stand, does, goes_on, behind, run}
use Rattle.ic_chunk.specs.Assembly.{IsFront}
use Rattle.ic_chunk.specs.Seen.{IsBytes}
use Rattle.ic_chunk.proofs.ReadingLemmas.{IsBytes-append, and_then_some}
use Rattle.ic_chunk.proofs.Growing.{guarded, ends_with, grown}

pub behind-nil : (o : Option Step) → behind [] o ≡ o
behind-nil None = refl
behind-nil (Some step) = refl

pub behind-behind : (xs ys : List (List Value)) (o : Option Step) → behind xs (behind ys o) ≡ behind (xs ++ ys) o
behind-behind xs ys None = refl
behind-behind xs ys (Some step) = ap (λ l. Some (l, step.1)) (sym (append_assoc xs ys step.0))

pub behind_some : (rows : List (List Value)) (o : Option Step) (y : Step) → behind rows o ≡ Some y → (x : Step) × (o ≡ Some x) × ((rows ++ x.0, x.1) ≡ y)
behind_some rows None y e = absurd cc
behind_some rows (Some x) y e = (x, refl, cc)

-- the first of many chunks
pub run-cons : (s : Standing) (c : Chunk) (cs : List Chunk) (step : Step) → goes_on s c ≡ Some step → run s (c ∷ cs) ≡ behind step.0 (run step.1 cs)
run-cons s c cs step e = ap (option_and_then (λ (x : Step). behind x.0 (run x.1 cs))) e

pub record First (s : Standing) (c : Chunk) (cs : List Chunk) (all : Step) : Type 0 where
  pub step : Step
  pub rest : Step
  pub first : goes_on s c ≡ Some step
  pub then : run step.1 cs ≡ Some rest
  pub are : (step.0 ++ rest.0, rest.1) ≡ all

pub first_of_run : (s : Standing) (c : Chunk) (cs : List Chunk) (all : Step) → run s (c ∷ cs) ≡ Some all → First s c cs all
first_of_run s c cs all e =
    let w = and_then_some (λ (x : Step). behind x.0 (run x.1 cs)) (goes_on s c) all e in
    let v = behind_some w.0.0 (run w.0.1 cs) all w.2 in
    record { step = w.0; rest = v.0; first = w.1; then = v.1; are = v.2 }

-- first these chunks, then those
pub run-append : (s : Standing) (xs ys : List Chunk) (step : Step) → run s xs ≡ Some step → run s (xs ++ ys) ≡ behind step.0 (run step.1 ys)
run-append s [] ys step e =
    let same : ([], s) ≡ step = cc in
    subst (λ (x : Step). run s ys ≡ behind x.0 (run x.1 ys)) same (sym (behind-nil (run s ys)))
run-append s (c ∷ xs) ys step e =
    let w = first_of_run s c xs step e in
    subst (λ (x : Step). run s (c ∷ (xs ++ ys)) ≡ behind x.0 (run x.1 ys)) w.are
    (run-cons s c (xs ++ ys) w.step w.first ∙ ap (behind w.step.0) (run-append w.step.1 xs ys w.rest w.then) ∙ behind-behind w.step.0 w.rest.0 (run w.rest.1 ys))

-- and back
pub record Halves (s : Standing) (xs ys : List Chunk) (all : Step) : Type 0 where
  pub front : Step
  pub back : Step
  pub first : run s xs ≡ Some front
  pub then : run front.1 ys ≡ Some back
  pub are : (front.0 ++ back.0, back.1) ≡ all

pub halves : (s : Standing) (xs ys : List Chunk) (all : Step) → run s (xs ++ ys) ≡ Some all → Halves s xs ys all
halves s [] ys all e = record { front = ([], s); back = all; first = refl; then = e; are = refl }
halves s (c ∷ xs) ys all e =
    let w = first_of_run s c (xs ++ ys) all e in
    let h = halves w.step.1 xs ys w.rest w.then in
    record {
      front = (w.step.0 ++ h.front.0, h.front.1);
      back = h.back;
      first = run-cons s c xs w.step w.first ∙ ap (behind w.step.0) h.first;
      then = h.then;
      are = ap (λ l. (l, h.back.1)) (append_assoc w.step.0 h.front.0 h.back.0) ∙ ap (λ (x : Step). (w.step.0 ++ x.0, x.1)) h.are ∙ w.are;
    }

-- ---- what is kept are bytes

keeps : (kind : ChunkKind) (rest body : List ℕ) (step : Step) → IsBytes rest → IsBytes body → does kind rest body ≡ Some step → IsBytes step.1.rest
keeps Whole rest body step h k e =
    let r = ends_with (read_row_of body) step e in
    subst (λ (x : Step). IsBytes x.1.rest) r.2 (λ i. omega arith)
keeps Start rest body step h k e =
    let same : ([], record { rest = body; ended = false }) ≡ step = cc in
    subst (λ (x : Step). IsBytes x.1.rest) same k
keeps Middle rest body step h k e =
    let same : ([], record { rest = rest ++ body; ended = false }) ≡ step = cc in
    subst (λ (x : Step). IsBytes x.1.rest) same (IsBytes-append rest body h k)
keeps End rest body step h k e =
    let r = ends_with (read_row_of (rest ++ body)) step e in
    subst (λ (x : Step). IsBytes x.1.rest) r.2 (λ i. omega arith)
keeps EndOfStream rest body step h k e =
    let same : ([], record { rest = []; ended = true }) ≡ step = cc in
    subst (λ (x : Step). IsBytes x.1.rest) same (λ i. omega arith)
keeps Empty rest body step h k e =
    let same : ([], record { rest = rest; ended = false }) ≡ step = cc in
    subst (λ (x : Step). IsBytes x.1.rest) same h

pub goes_on-bytes : (rest : List ℕ) (ended : Bool) (c : Chunk) (step : Step) → IsBytes rest → IsBytes c.body → goes_on (record { rest = rest; ended = ended }) c ≡ Some step → IsBytes step.1.rest
unfolding goes_on
goes_on-bytes rest true c step h k e = absurd cc
goes_on-bytes rest false c step h k e = keeps c.kind rest c.body step h k (guarded (may_stand c.kind rest) (does c.kind rest c.body) step e).1

-- ---- the front of a stream, many chunks on

-- a chunk of real bytes
pub record IsRead (c : Chunk) : Type 0 where
  pub is_chunk : IsChunk c
  pub fits : IsBytes c.body

pub grown_many : (cs : List Chunk) (rows : List (List Value)) (rest : List ℕ) (ended : Bool) (more : List Chunk) (all : Step) → IsFront cs rows rest ended → AllByRecursion IsRead more → IsBytes rest
    → run (record { rest = rest; ended = ended }) more ≡ Some all → IsFront (cs ++ more) (rows ++ all.0) all.1.rest all.1.ended
grown_many cs rows rest ended [] all f each fits e =
    let same : ([], record { rest = rest; ended = ended }) ≡ all = cc in
    let end : IsFront (cs ++ []) (rows ++ []) rest ended = rw (append-nil cs, append-nil rows) f in
    subst (λ (x : Step). IsFront (cs ++ []) (rows ++ x.0) x.1.rest x.1.ended) same end
grown_many cs rows rest ended (c ∷ more) all f each fits e =
    let w = first_of_run (record { rest = rest; ended = ended }) c more all e in
    let g = grown cs rows rest ended c w.step f each.0.is_chunk fits each.0.fits w.first in
    let bytes = goes_on-bytes rest ended c w.step fits each.0.fits w.first in
    let h = grown_many (cs ++ c ∷ []) (rows ++ w.step.0) w.step.1.rest w.step.1.ended more w.rest g each.1 bytes w.then in
    let chunks : IsFront (cs ++ c ∷ more) ((rows ++ w.step.0) ++ w.rest.0) w.rest.1.rest w.rest.1.ended = subst (λ (l : List Chunk). IsFront l ((rows ++ w.step.0) ++ w.rest.0) w.rest.1.rest w.rest.1.ended) (append_assoc cs (c ∷ []) more) h in
    let found : IsFront (cs ++ c ∷ more) (rows ++ (w.step.0 ++ w.rest.0)) w.rest.1.rest w.rest.1.ended = subst (λ (l : List (List Value)). IsFront (cs ++ c ∷ more) l w.rest.1.rest w.rest.1.ended) (append_assoc rows w.step.0 w.rest.0) chunks in
    subst (λ (x : Step). IsFront (cs ++ c ∷ more) (rows ++ x.0) x.1.rest x.1.ended) w.are found
