use Rattle.std.proofs.Common.{◌≡◌, [], ap, ◌∙◌}
use Rattle.ic_expire.specs.Items.{is_due}
use Rattle.ic_expire.specs.Queue.{Queue, without}
use Rattle.ic_timed_sender.proofs.Pausing.{new_stands, new_sound}
use Rattle.ic_timed_sender.proofs.timed.TimedSender.new.Goals as goal

-- the queue, once the time has passed
queue_is : (c : goal.After-pass) → c.pass.new.self ≡ record { held = []; asked = c.args.now; room = c.args.settings.now.send_depth }
queue_is c = c.pass.ensures.ok ∙ ap (λ (q : Queue). record { held = without (is_due c.args.now) q.held; asked = c.args.now; room = q.room }) c.in_ok-waits.ensures.ok

pub returns-clause-stands : goal.returns-clause-stands
returns-clause-stands c =
    new_stands c.args.end c.args.settings.now c.args.now c.in_ok-sender.sender c.pass.new.self.held c.in_ok-sender.ensures.begun (ap (λ (q : Queue). q.held) (queue_is c)) c.in_ok-sender.ensures.stands

pub invariant_of-result : goal.invariant_of-result
invariant_of-result c =
    new_sound c.args.end c.args.settings.now c.args.now c.in_ok-sender.sender c.pass.new.self c.in_ok-sender.ensures.begun (queue_is c) c.requires.last
    (new_stands c.args.end c.args.settings.now c.args.now c.in_ok-sender.sender c.pass.new.self.held c.in_ok-sender.ensures.begun (ap (λ (q : Queue). q.held) (queue_is c)) c.in_ok-sender.ensures.stands)
