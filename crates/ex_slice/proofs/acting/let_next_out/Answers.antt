use Rattle.std.proofs.Common.{subst, sym, Ok, Err}
use Rattle.ex_tree.specs.Running.{state_of}
use Rattle.ex_tree.specs.Working.{work, Falls}
use Rattle.ex_tree.specs.Pulling.{PullsAny}
use Rattle.ex_slice.specs.declared.way.Way.TheVariants as ways
use Rattle.ex_slice.specs.Acting.{Gives}
use Rattle.ex_slice.proofs.Pullings.{gives_more, gives_wait, gives_end, gives_no}
use Rattle.ex_slice.proofs.Rowed.{gives_row}
use Rattle.ex_slice.proofs.acting.let_next_out.Goals as goal

pub returns-in-Ok-clause-gives : goal.returns-in-Ok-clause-gives
returns-in-Ok-clause-gives g c =
    gives_row (state_of c.args.tree.now) (state_of c.fetch.new.tree) c.args.rows.now c.push.new.self (g.P.Port.log c.args.port.now) (g.P.Port.log c.fetch.new.port) c.in-Ok-Row.row c.in-Ok.ensures.ok
    (subst (λ r. PullsAny (state_of c.args.tree.now) (state_of c.fetch.new.tree) (g.P.Port.log c.args.port.now) (g.P.Port.log c.fetch.new.port) (Ok r)) c.in-Ok-Row.field-0-is c.in-Ok-Row.ensures.pulls)

pub returns-in-Ok-More-clause-gives : goal.returns-in-Ok-More-clause-gives
returns-in-Ok-More-clause-gives g c =
    gives_more (state_of c.args.tree.now) (state_of c.fetch.new.tree) (ways.Lets c.args.rows.now) (g.P.Port.log c.args.port.now) (g.P.Port.log c.fetch.new.port) tt
    (subst (λ r. PullsAny (state_of c.args.tree.now) (state_of c.fetch.new.tree) (g.P.Port.log c.args.port.now) (g.P.Port.log c.fetch.new.port) (Ok r)) c.in-Ok-More.field-0-is c.in-Ok-More.ensures.pulls)

pub returns-in-Ok-Wait-clause-gives : goal.returns-in-Ok-Wait-clause-gives
returns-in-Ok-Wait-clause-gives g c =
    gives_wait (state_of c.args.tree.now) (state_of c.fetch.new.tree) (ways.Lets c.args.rows.now) (g.P.Port.log c.args.port.now) (g.P.Port.log c.fetch.new.port) tt c.in-Ok-Wait.no
    (subst (λ r. PullsAny (state_of c.args.tree.now) (state_of c.fetch.new.tree) (g.P.Port.log c.args.port.now) (g.P.Port.log c.fetch.new.port) (Ok r)) c.in-Ok-Wait.field-0-is c.in-Ok-Wait.ensures.pulls)

pub returns-in-Ok-End-clause-gives : goal.returns-in-Ok-End-clause-gives
returns-in-Ok-End-clause-gives g c =
    gives_end (state_of c.args.tree.now) (state_of c.fetch.new.tree) (ways.Lets c.args.rows.now) (g.P.Port.log c.args.port.now) (g.P.Port.log c.fetch.new.port) tt
    (subst (λ r. Falls r (work (state_of c.args.tree.now)) (work (state_of c.fetch.new.tree))) c.in-Ok-End.field-0-is c.in-Ok-End.ensures.falls)
    (subst (λ r. PullsAny (state_of c.args.tree.now) (state_of c.fetch.new.tree) (g.P.Port.log c.args.port.now) (g.P.Port.log c.fetch.new.port) (Ok r)) c.in-Ok-End.field-0-is c.in-Ok-End.ensures.pulls)

pub returns-in-Err-clause-gives : goal.returns-in-Err-clause-gives
returns-in-Err-clause-gives g c =
    subst (λ r. Gives (state_of c.args.tree.now) (state_of c.fetch.new.tree) (ways.Lets c.args.rows.now) (ways.Lets c.args.rows.now) (g.P.Port.log c.args.port.now) (g.P.Port.log c.fetch.new.port) (Err r)) (sym c.no_of_tree.ensures)
    (gives_no (state_of c.args.tree.now) (state_of c.fetch.new.tree) (ways.Lets c.args.rows.now) (g.P.Port.log c.args.port.now) (g.P.Port.log c.fetch.new.port) tt c.in-Err.no c.in-Err.ensures.pulls)
