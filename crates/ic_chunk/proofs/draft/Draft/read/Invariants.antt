use Rattle.std.proofs.Common.{length}
use Rattle.ic_chunk.specs.Joining.{standing_at, Keeps, Came}
use Rattle.ic_chunk.proofs.draft.Draft.read.Given as goal

abbrev pub invariant-loop-left : goal.invariant-loop-left
invariant-loop-left l =
    record {
      came : Came l.payload l.left l.count (standing_at l.initial.self.from l.initial.self.bytes.items l.initial.self.ended) (standing_at l.self.from l.self.bytes.items l.self.ended) l.initial.self.rows l.self.rows;
      keeps : Keeps l.initial.self.bytes.items l.self.bytes.items;
    }

abbrev pub decreases-loop-left : goal.decreases-loop-left
decreases-loop-left l = length l.left
