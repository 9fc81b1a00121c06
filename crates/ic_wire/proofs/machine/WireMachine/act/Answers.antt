use Rattle.std.proofs.Common.{ap, ◌∙◌}
use Rattle.ic_wire.specs.Law.{setting_of, reply_of}
use Rattle.ic_wire.proofs.Lawful.{send_setting, receive_setting, sent_stands, failed_stands, received_stands, received_may}
use Rattle.ic_wire.proofs.machine.WireMachine.act.Goals as goal

pub returns-in-Ok-clause-kept : goal.returns-in-Ok-clause-kept
returns-in-Ok-clause-kept c = ap setting_of c.in-Ok.ensures.ok ∙ send_setting c.in-Send.datagram c.args.self.now

pub returns-in-Ok-clause-stands : goal.returns-in-Ok-clause-stands
returns-in-Ok-clause-stands c = sent_stands c.args.self.now c.send.new.self c.args.ask c.in-Send.datagram c.in-Send.is c.in-Ok.ensures.ok

pub returns-in-Err-clause-stands : goal.returns-in-Err-clause-stands
returns-in-Err-clause-stands c = failed_stands c.args.self.now c.send.new.self c.args.ask c.in-Send.datagram c.in-Send.is c.in-Err.ensures.err

pub returns-in-Receive-clause-kept : goal.returns-in-Receive-clause-kept
returns-in-Receive-clause-kept c = ap setting_of c.receive.ensures.new ∙ receive_setting c.in-Receive.at c.args.self.now

pub returns-in-Receive-clause-answers : goal.returns-in-Receive-clause-answers
returns-in-Receive-clause-answers c = received_may c.args.ask c.reply_of.result c.in-Receive.at c.receive.result c.in-Receive.is c.reply_of.ensures c.receive.ensures.to

pub returns-in-Receive-clause-stands : goal.returns-in-Receive-clause-stands
returns-in-Receive-clause-stands c =
    received_stands c.args.self.now c.receive.new.self c.args.ask c.reply_of.result c.in-Receive.at c.in-Receive.is (c.reply_of.ensures ∙ ap reply_of c.receive.ensures.answer) c.receive.ensures.new
