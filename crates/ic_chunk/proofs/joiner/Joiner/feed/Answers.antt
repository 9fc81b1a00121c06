use Rattle.std.proofs.Common.{◌≡◌, ℕ, Vec, Global, sym, ap, ◌∙◌, subst, arith}
use Rattle.ic_chunk.specs.Joining.{Held, standing_at}
use Rattle.ic_chunk.specs.Seen.{IsBytes}
use Rattle.ic_chunk.proofs.Standings.{feed_ok, feed_fault}
use Rattle.ic_chunk.proofs.joiner.Joiner.feed.Goals as goal

pub returns-in-Ok-clause-ok : goal.returns-in-Ok-clause-ok
returns-in-Ok-clause-ok c =
    let held = c.args.self.now in
    let to = c.read.new.self in
    let now = c.keep.new.self in
    let fits : IsBytes c.args.payload.now = λ i. omega (arith, c.type_inv.payload i) in
    let rest : held.rest ≡ c.as_slice.result.now = ap (λ (h : Held). h.rest) (sym c.self.view_is) ∙ sym c.as_slice.ensures.value in
    let bytes : c.replace.result.items ≡ held.rest = ap (λ (v : Vec ℕ Global). v.items) c.replace.ensures.value ∙ ap (λ (h : Held). h.rest) c.self.view_is in
    let same : c.self.inside.ended ≡ held.ended = ap (λ (h : Held). h.ended) c.self.view_is in
    let kept = c.keep.ensures.kept in
    λ payloads rows h.
    feed_ok held payloads rows c.args.payload.now c.replace.result.items c.self.inside.ended c.in-Ok.ensures.ok.0 (standing_at to.from to.bytes.items to.ended) c.new-2.result to.rows c.keep.result.rows now.rest now.ended
    h fits (subst IsBytes (sym rest) c.len_of-kept.ensures.each) bytes same c.new-2.ensures c.in-Ok.ensures.ok.1 c.keep.ensures.given.0 (ap (λ (h : Held). h.rest) kept) (ap (λ (h : Held). h.ended) kept)

pub returns-in-Err-clause-fault : goal.returns-in-Err-clause-fault
returns-in-Err-clause-fault c = λ k e payloads rows h.
    let held = c.args.self.now in
    let fits : IsBytes c.args.payload.now = λ i. omega (arith, c.type_inv.payload i) in
    let rest : held.rest ≡ c.as_slice.result.now = ap (λ (h : Held). h.rest) (sym c.self.view_is) ∙ sym c.as_slice.ensures.value in
    let bytes : c.replace.result.items ≡ held.rest = ap (λ (v : Vec ℕ Global). v.items) c.replace.ensures.value ∙ ap (λ (h : Held). h.rest) c.self.view_is in
    let same : c.self.inside.ended ≡ held.ended = ap (λ (h : Held). h.ended) c.self.view_is in
    let w = c.in-Err.ensures.fault k (cc) in
    let f = feed_fault held payloads rows c.args.payload.now c.replace.result.items c.self.inside.ended w.0 h fits (subst IsBytes (sym rest) c.len_of-kept.ensures.each) bytes same w.1 in
    (f.0, (w.0, f.1, w.2))
