use Rattle.std.proofs.Common.{◌≢◌, ℕ, [], map, true, sym, ◌∙◌, subst}
use Rattle.ic_chunk.specs.Chunks.{spelled}
use Rattle.ic_motion.specs.Sending.{Work}
use Rattle.ic_motion.specs.Putting.{Settles, HasRest}
use Rattle.ic_motion.proofs.Works.{nil_from, not_nil_from, settled_found, rest_past, rest_empty}
use Rattle.ic_motion.proofs.work.Work.settle.Goals.{else-at-self-via-then-at-self+else-not-is_empty, else-at-self-via-else-at-self}
use Rattle.ic_motion.proofs.work.Work.settle.Goals as goal

pub returns-then-not-is_empty-clause-ok : goal.returns-then-not-is_empty-clause-ok
returns-then-not-is_empty-clause-ok c =
    let s = c.self.inside in
    let ts = c.args.targets.now in
    let w : Work = record { chunk = s.chunk.items; rest = map spelled s.splitter; first = s.first; end = s.end; at = s.at } in
    let at : ℕ = c.next_open-at.result in
    let some_ : s.chunk.items ≢ [] = not_nil_from s.chunk.len s.chunk.items s.chunk.ok.0 (sym c.is_empty.ensures ∙ c.if-not-is_empty.true) in
    subst (λ (o : Work). Settles ts o (record w { at = at }) true) c.self.view_is (settled_found ts w at c.max.result c.max.ensures c.next_open-at.ensures c.if-at-self.true some_)

pub next_chunk-requires : goal.next_chunk-requires
next_chunk-requires c =
    let s = c.self.inside in
    let ts = c.args.targets.now in
    let w : Work = record { chunk = s.chunk.items; rest = map spelled s.splitter; first = s.first; end = s.end; at = s.at } in
    subst (HasRest ts) c.self.view_is (elim c.else-at-self.branch [
      | else-at-self-via-then-at-self+else-not-is_empty b ↦ rest_empty ts w (nil_from s.chunk.len s.chunk.items s.chunk.ok.0 (sym b.is_empty.ensures ∙ b.if-not-is_empty.false))
      | else-at-self-via-else-at-self b ↦ rest_past ts w c.next_open-at.result c.max.result c.max.ensures c.next_open-at.ensures b.if-at-self.false
    ])
