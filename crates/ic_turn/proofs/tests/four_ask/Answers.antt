use Rattle.std.proofs.Common.{◌∙◌}
use Rattle.ic_turn.proofs.Trying.{four_back}
use Rattle.ic_turn.proofs.tests.four_ask.Goals as goal

pub close-requires-clause-all : goal.close-requires-clause-all
close-requires-clause-all g c =
    let q = c.in-Some-quarters in
    let e = q.ensures in
    (four_back c.in-Some.turn 1000 c.in-Some.pass q.a q.b q.c q.d c.all_ask-pass.result c.in-Some.ensures.0 c.in-Some.ensures.1 e.ab e.cd c.all_ask-pass.ensures).0

pub returns : goal.returns
returns g c =
    let q = c.in-Some-quarters in
    let e = q.ensures in
    record { total = c.close.ensures.total ∙ (four_back c.in-Some.turn 1000 c.in-Some.pass q.a q.b q.c q.d c.all_ask-pass.result c.in-Some.ensures.0 c.in-Some.ensures.1 e.ab e.cd c.all_ask-pass.ensures).1 }
