use Rattle.std.proofs.Common.{sym}
use Rattle.gd_sim.proofs.Turning.{works_once, takes_more}
use Rattle.gd_sim.proofs.station.take_on.Goals as goal

pub returns-in-Ok-clause-takes : goal.returns-in-Ok-clause-takes
returns-in-Ok-clause-takes c =
    let a = c.args.node.now in
    let b = c.turn-turned.new.port in
    let made = c.turn-turned.ensures in
    takes_more a b c.args.gatherer.now c.turn-turned.new.self c.turn-turned.result (works_once a b made.steps) c.lawful.ensures c.lawful-in-Going.ensures made.motion (made.takes (sym c.in-Going.ensures)) made.course made.gathers

pub returns-in-Err-clause-takes : goal.returns-in-Err-clause-takes
returns-in-Err-clause-takes c =
    let a = c.args.node.now in
    let b = c.turn-turned.new.port in
    let made = c.turn-turned.ensures in
    takes_more a b c.args.gatherer.now c.turn-turned.new.self c.turn-turned.result (works_once a b made.steps) c.lawful.ensures c.lawful-in-Going.ensures made.motion (made.takes (sym c.in-Going.ensures)) made.course made.gathers

pub returns-in-Err-clause-works : goal.returns-in-Err-clause-works
returns-in-Err-clause-works c = works_once c.args.node.now c.turn-turned.new.port c.turn-turned.ensures.steps
