use Rattle.std.proofs.Common.{ap, sym, ◌∙◌, refl, Err}
use Rattle.ic_sender.specs.declared.send_no.SendNo.TheVariants as refused
use Rattle.ic_sender.specs.Sending.{Sending}
use Rattle.ic_sender.specs.Calls.{Puts}
use Rattle.ic_sender.proofs.Putting.{puts_stand}
use Rattle.ic_sender.proofs.sender.Sender.put.Goals as goal

pub returns-then-self-clause-stands : goal.returns-then-self-clause-stands
returns-then-self-clause-stands c =
    puts_stand c.args.self.now c.args.expiry.now c.args.now c.args.chunk.now (Err refused.Stopped) c.args.self.now c.args.expiry.now c.requires.unfinished c.requires.least c.requires.most
    (Puts.Stopped (sym (ap (λ (x : Sending). x.stopped) c.self.view_is) ∙ c.if-self.true) refl refl refl)

pub returns-clause-stands : goal.returns-clause-stands
returns-clause-stands c =
    puts_stand c.args.self.now c.args.expiry.now c.args.now c.args.chunk.now c.put_running.result c.put_running.new.self c.put_running.new.expiry c.requires.unfinished c.requires.least c.requires.most c.put_running.ensures

pub put_running-requires-clause-alone : goal.put_running-requires-clause-alone
put_running-requires-clause-alone c = c.requires.alone (sym (ap (λ (x : Sending). x.stopped) c.self.view_is) ∙ c.if-self.false)

pub put_running-requires-clause-room : goal.put_running-requires-clause-room
put_running-requires-clause-room c = c.requires.room (sym (ap (λ (x : Sending). x.stopped) c.self.view_is) ∙ c.if-self.false)
