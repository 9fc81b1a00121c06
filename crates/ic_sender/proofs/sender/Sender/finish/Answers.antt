use Rattle.std.proofs.Common.{ap, sym, ◌∙◌, refl, Err}
use Rattle.ic_sender.specs.declared.send_no.SendNo.TheVariants as refused
use Rattle.ic_sender.specs.Sending.{Sending}
use Rattle.ic_sender.specs.Calls.{Puts}
use Rattle.ic_sender.proofs.Putting.{finish_stands}
use Rattle.ic_sender.proofs.sender.Sender.finish.Goals as goal

pub returns-then-self-clause-stands : goal.returns-then-self-clause-stands
returns-then-self-clause-stands c =
    finish_stands c.args.self.now c.args.expiry.now c.args.now (Err refused.Stopped) c.args.self.now c.args.expiry.now c.requires.unfinished
    (Puts.Stopped (sym (ap (λ (x : Sending). x.stopped) c.self.view_is) ∙ c.if-self.true) refl refl refl)

pub returns-clause-stands : goal.returns-clause-stands
returns-clause-stands c = finish_stands c.args.self.now c.args.expiry.now c.args.now c.finish_running.result c.finish_running.new.self c.finish_running.new.expiry c.requires.unfinished c.finish_running.ensures

pub finish_running-requires-clause-alone : goal.finish_running-requires-clause-alone
finish_running-requires-clause-alone c = c.requires.alone (sym (ap (λ (x : Sending). x.stopped) c.self.view_is) ∙ c.if-self.false)

pub finish_running-requires-clause-room : goal.finish_running-requires-clause-room
finish_running-requires-clause-room c = c.requires.room (sym (ap (λ (x : Sending). x.stopped) c.self.view_is) ∙ c.if-self.false)
