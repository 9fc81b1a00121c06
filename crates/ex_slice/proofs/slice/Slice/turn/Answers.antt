use Rattle.std.proofs.Common.{ap, subst}
use Rattle.ex_tree.specs.Running.{state_of}
use Rattle.ex_slice.specs.Working.{CanTurn}
use Rattle.ex_slice.specs.Turning.{is_going}
use Rattle.ex_slice.specs.Acting.{at_stage}
use Rattle.ex_slice.proofs.Ready.{hears_in, can_give, can_end}
use Rattle.ex_slice.proofs.slice.Slice.turn.Goals as goal

pub go_on-requires-clause-hears : goal.go_on-requires-clause-hears
go_on-requires-clause-hears g c = hears_in (g.P.Port.keys c.args.port.now) (g.P.Port.log c.args.port.now) (state_of c.args.self.now.tree) c.args.self.now.way c.args.self.now.stage (ap is_going c.in-Giving.is) (c.requires (ap is_going c.in-Giving.is))

pub go_on-requires-clause-sends : goal.go_on-requires-clause-sends
go_on-requires-clause-sends g c =
    can_give (g.P.Port.keys c.args.port.now) (g.P.Port.log c.args.port.now) (state_of c.args.self.now.tree) c.args.self.now.way
    (subst (λ s. CanTurn (g.P.Port.keys c.args.port.now) (g.P.Port.log c.args.port.now) (at_stage s (state_of c.args.self.now.tree) c.args.self.now.way)) c.in-Giving.is (c.requires (ap is_going c.in-Giving.is)))

pub finish-requires : goal.finish-requires
finish-requires g c =
    can_end (g.P.Port.keys c.args.port.now) (g.P.Port.log c.args.port.now) (state_of c.args.self.now.tree) c.args.self.now.way
    (subst (λ s. CanTurn (g.P.Port.keys c.args.port.now) (g.P.Port.log c.args.port.now) (at_stage s (state_of c.args.self.now.tree) c.args.self.now.way)) c.in-Ending.is (c.requires (ap is_going c.in-Ending.is)))

pub halt-requires : goal.halt-requires
halt-requires g c = hears_in (g.P.Port.keys c.args.port.now) (g.P.Port.log c.args.port.now) (state_of c.args.self.now.tree) c.args.self.now.way c.args.self.now.stage (ap is_going c.in-Halting.is) (c.requires (ap is_going c.in-Halting.is))
