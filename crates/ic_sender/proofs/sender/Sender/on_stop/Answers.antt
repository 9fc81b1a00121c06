use Rattle.std.proofs.Common.{sym, subst}
use Rattle.ic_sender.specs.Sending.{Sending}
use Rattle.ic_sender.specs.Standing.{StandsOn}
use Rattle.ic_sender.specs.Entries.{IsHearing}
use Rattle.ic_header.specs.declared.flags.Flags.TheVariants.{Stop}
use Rattle.std.proofs.Common.{Ok, []}
use Rattle.ic_sender.proofs.Answering.{stop_stands}
use Rattle.ic_sender.proofs.sender.Sender.on_stop.Goals as goal

pub returns-clause-stands : goal.returns-clause-stands
returns-clause-stands c now seq extra =
    subst (λ (x : Sending). StandsOn now c.args.self.now c.args.expiry.now.held x c.stop.new.expiry.held (IsHearing c.args.self.now.end.key Stop seq extra [] (Ok []))) (sym c.stop.ensures.halts)
    (stop_stands c.args.self.now c.args.expiry.now.held c.stop.new.expiry.held now seq extra)
