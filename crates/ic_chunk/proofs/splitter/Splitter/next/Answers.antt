use Rattle.std.proofs.Common.{◌≡◌, ◌==◌, ◌<◌, refl, [], ◌++◌, length, take, drop, min, eqb-true, ap, sym, ◌∙◌, arith}
use Rattle.std.proofs.lemmas.Bool.{eqb-false}
use Rattle.ic_chunk.specs.Chunks.{Chunk, spelled}
use Rattle.ic_chunk.specs.Cutting.{kind_of}
use Rattle.ic_chunk.proofs.CuttingLemmas.{left_of-more, left_of-nil}
use Rattle.ic_chunk.proofs.splitter.Splitter.next.Goals as goal

pub returns-then-is_empty-clause-last : goal.returns-then-is_empty-clause-last
returns-then-is_empty-clause-last c =
    let s = c.self.inside in
    let left : c.split_at.result.1.now ≡ drop s.done s.row = c.split_at.ensures.back ∙ ap (drop s.done) c.as_slice.ensures in
    let none : length (drop s.done s.row) ≡ 0 = ap length (sym left) ∙ eqb-true _ _ (sym c.if-is_empty.ensures) in
    let nil : c.args.self.now ≡ [] = sym c.self.view_is ∙ left_of-nil s.room s.row s.done c.self.invariant.0 none in
    λ _. (nil, nil, refl)

pub returns-clause-chunk : goal.returns-clause-chunk
returns-clause-chunk c =
    let s = c.self.inside in
    let left : c.split_at.result.1.now ≡ drop s.done s.row = c.split_at.ensures.back ∙ ap (drop s.done) c.as_slice.ensures in
    let size = c.min-size.result in
    let body : c.split_at-2.result.0.now ≡ take size (drop s.done s.row) = c.split_at-2.ensures.front ∙ ap (take size) left in
    let kind : c.kind_of-kind.result ≡ kind_of (s.done == 0) (size == length (drop s.done s.row)) = c.kind_of-kind.ensures ∙ ap (λ l. kind_of (s.done == 0) (size == length l)) left in
    let is : size ≡ min (length (drop s.done s.row)) s.room = c.min-size.ensures ∙ ap (λ l. min (length l) s.room) left in
    let some = eqb-false (length c.split_at.result.1.now) 0 (sym c.if-is_empty.ensures) in
    let filled : 0 < length (drop s.done s.row) = omega (arith, some, ap length left) in
    let next : Chunk = record { kind = kind_of (s.done == 0) (size == length (drop s.done s.row)); body = take size (drop s.done s.row) } in
    let given : Chunk = record { kind = c.kind_of-kind.result; body = c.split_at-2.result.0.now } in
    let same : given ≡ next = cc in
    let more = left_of-more s.room s.row s.done size c.self.invariant.0 filled is in
    λ _. (next, sym c.self.view_is ∙ more, c.in_ok-push_chunk.ensures.ok ∙ ap (λ x. c.args.out.now.items ++ spelled x) same)
