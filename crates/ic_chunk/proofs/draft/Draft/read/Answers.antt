use Rattle.std.proofs.Common.{◌≡◌, ◌≢◌, [], ◌++◌, Some, None, Bool, sym, ap, ◌∙◌, subst, arith, append_assoc, append-nil}
use Rattle.ic_chunk.specs.Chunks.{Chunk}
use Rattle.ic_chunk.specs.Reading.{chunk_at, goes_on}
use Rattle.ic_chunk.specs.Joining.{standing_at, Took, told}
use Rattle.ic_chunk.specs.Seen.{seen}
use Rattle.ic_chunk.specs.Seen.{IsBytes}
use Rattle.ic_chunk.proofs.Taking.{came-none, came-more, came-small, chunk_shorter, left_bytes, stops-unread, stops-refused, not_nil_from}
use Rattle.ic_chunk.proofs.draft.Draft.read.Goals as goal

pub loop-left-init : goal.loop-left-init
loop-left-init c =
    let s = c.args.self.now in
    record { came = came-none c.args.payload.now (standing_at s.from s.bytes.items s.ended) s.rows; keeps = ([], sym (append-nil s.bytes.items)) }

pub returns-in_default-clause-fault : goal.returns-in_default-clause-fault
returns-in_default-clause-fault c =
    let left = c.loop-left.left.now in
    let none : chunk_at left ≡ None = sym c.chunk_at.ensures ∙ ap seen c.in_default.is in
    let some : left ≢ [] = not_nil_from left (sym c.is_empty.ensures ∙ c.loop-left-test.true) in
    λ k e.
    let is : k ≡ told c.loop-left.count = cc in
    (c.loop-left.count, stops-unread _ left _ _ _ _ _ c.loop-left.invariant.came some none, is)

pub returns-then-not-branch-clause-fault : goal.returns-then-not-branch-clause-fault
returns-then-not-branch-clause-fault c =
    let left = c.loop-left.left.now in
    let s = c.loop-left.self in
    let t = c.take.new.self in
    let chunk : Chunk = record { kind = c.in-Some.kind; body = c.in-Some.body.now } in
    let read : chunk_at left ≡ Some (chunk, c.in-Some.more.now) = sym c.chunk_at.ensures ∙ ap seen c.in-Some.is in
    let some : left ≢ [] = not_nil_from left (sym c.is_empty.ensures ∙ c.loop-left-test.true) in
    let refused = subst (λ (b : Bool). Took (goes_on (standing_at s.from s.bytes.items s.ended) chunk) b s.rows t.rows (standing_at t.from t.bytes.items t.ended)) c.if-not-branch.true c.in_ok-take.ensures.took in
    λ k e.
    let is : k ≡ told c.loop-left.count = cc in
    (c.loop-left.count, stops-refused _ left c.in-Some.more.now _ _ _ _ _ _ _ chunk c.loop-left.invariant.came some read refused, is)

pub overflow_add-count : goal.overflow_add-count
overflow_add-count c =
    let left = c.loop-left.left.now in
    let chunk : Chunk = record { kind = c.in-Some.kind; body = c.in-Some.body.now } in
    let read : chunk_at left ≡ Some (chunk, c.in-Some.more.now) = sym c.chunk_at.ensures ∙ ap seen c.in-Some.is in
    let fits : IsBytes c.args.payload.now = λ i. omega (arith, c.type_inv.payload i) in
    let these : IsBytes left = left_bytes _ left _ _ _ _ _ c.loop-left.invariant.came fits in
    omega (arith, came-small _ left _ _ _ _ _ c.loop-left.invariant.came, chunk_shorter left c.in-Some.more.now chunk these read)

pub loop-left-smaller : goal.loop-left-smaller
loop-left-smaller c =
    let left = c.loop-left.left.now in
    let chunk : Chunk = record { kind = c.in-Some.kind; body = c.in-Some.body.now } in
    let read : chunk_at left ≡ Some (chunk, c.in-Some.more.now) = sym c.chunk_at.ensures ∙ ap seen c.in-Some.is in
    let fits : IsBytes c.args.payload.now = λ i. omega (arith, c.type_inv.payload i) in
    chunk_shorter left c.in-Some.more.now chunk (left_bytes _ left _ _ _ _ _ c.loop-left.invariant.came fits) read

pub loop-left-preserved : goal.loop-left-preserved
loop-left-preserved c =
    let left = c.loop-left.left.now in
    let s = c.loop-left.self in
    let t = c.take.new.self in
    let chunk : Chunk = record { kind = c.in-Some.kind; body = c.in-Some.body.now } in
    let read : chunk_at left ≡ Some (chunk, c.in-Some.more.now) = sym c.chunk_at.ensures ∙ ap seen c.in-Some.is in
    let fits : IsBytes c.args.payload.now = λ i. omega (arith, c.type_inv.payload i) in
    let taken = subst (λ (b : Bool). Took (goes_on (standing_at s.from s.bytes.items s.ended) chunk) b s.rows t.rows (standing_at t.from t.bytes.items t.ended)) c.if-not-branch.false c.in_ok-take.ensures.took in
    let k = c.loop-left.invariant.keeps in
    let m = c.in_ok-take.ensures.keeps in
    record {
      came = came-more _ left c.in-Some.more.now _ _ _ _ _ _ _ chunk c.loop-left.invariant.came fits read taken;
      keeps = (k.0 ++ m.0, m.1 ∙ ap (λ l. l ++ m.0) k.1 ∙ append_assoc c.args.self.now.bytes.items k.0 m.0);
    }
