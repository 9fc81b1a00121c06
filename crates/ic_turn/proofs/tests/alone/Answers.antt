use Rattle.std.proofs.Common.{[], ◌∷◌, ◌∙◌}
use Rattle.ic_turn.specs.Parts.{placed}
use Rattle.ic_turn.proofs.Trying.{opening_is, asked, entries_own, one_holds, one_isnt_met}
use Rattle.ic_turn.proofs.tests.alone.Goals as goal

pub unreachable-requires-in_default-try_call : goal.unreachable-requires-in_default-try_call
unreachable-requires-in_default-try_call c =
    let turn = c.in-Some.turn in
    let begun = c.in-Some.ensures in
    one_isnt_met c.in-Err.pass turn begun.0 (c.in-Err.ensures.err.0 ∙ opening_is turn c.in-Some.pass 1 begun.0 begun.1) c.in_default-try_call.ensures.alone

pub close-list-requires-clause-all : goal.close-list-requires-clause-all
close-list-requires-clause-all c =
    let turn = c.in-Some.turn in
    let begun = c.in-Some.ensures in
    let e = c.in-Ok.ensures.ok in
    one_holds c.try_call.new.pass turn (placed e.0 5 c.in-Ok.reply ∷ []) 0 begun.0
    (asked 0 turn [] 0 c.in-Err.pass c.try_call.new.pass 5 c.in-Ok.reply (c.in-Err.ensures.err.0 ∙ opening_is turn c.in-Some.pass 1 begun.0 begun.1) e)

pub returns-clause-entries : goal.returns-clause-entries
returns-clause-entries c =
    let turn = c.in-Some.turn in
    let begun = c.in-Some.ensures in
    let e = c.in-Ok.ensures.ok in
    entries_own c.close-list.result.1 c.try_call.new.pass turn (placed e.0 5 c.in-Ok.reply ∷ []) 0
    (asked 0 turn [] 0 c.in-Err.pass c.try_call.new.pass 5 c.in-Ok.reply (c.in-Err.ensures.err.0 ∙ opening_is turn c.in-Some.pass 1 begun.0 begun.1) e) c.close-list.ensures.parts
