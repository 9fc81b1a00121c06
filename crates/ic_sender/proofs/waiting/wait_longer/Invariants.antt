use Rattle.std.proofs.Common.{◌≡◌, drop}
use Rattle.ic_sender.specs.Sending.{later_waits}
use Rattle.ic_sender.specs.Views.{MayWait}
use Rattle.ic_sender.proofs.waiting.wait_longer.Given as goal

abbrev pub invariant-loop-seq : goal.invariant-loop-seq
invariant-loop-seq l =
    record {
      may : MayWait l.conn (drop l.seq-index l.numbers) l.expiry;
      held : later_waits l.now l.conn l.window l.flights (drop l.seq-index l.numbers) l.expiry.held ≡ later_waits l.now l.conn l.window l.flights l.numbers l.fn.expiry.held;
      asked : l.expiry.asked ≡ l.fn.expiry.asked;
      room : l.expiry.room ≡ l.fn.expiry.room;
    }
