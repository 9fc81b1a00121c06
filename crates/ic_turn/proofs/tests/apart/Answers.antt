use Rattle.std.proofs.Common.{[], ◌∷◌}
use Rattle.ic_turn.specs.Parts.{placed}
use Rattle.ic_turn.proofs.Trying.{two_back, two_hold, entries_both}
use Rattle.ic_turn.proofs.tests.apart.Goals as goal

pub close-list-requires-clause-all : goal.close-list-requires-clause-all
close-list-requires-clause-all c =
    let t = c.in-Some.turn in
    let begun = c.in-Some.ensures in
    let cut = c.in-Ok.ensures.ok in
    let u = c.in-Some-ask.ensures in
    let v = c.in-Some-ask-2.ensures in
    let w = c.in-Some-ask-3.ensures in
    let is = two_back t c.in-Some.pass c.in-Ok.first c.in-Ok.second c.in-Some-ask.first c.in-Some-ask-2.second c.in-Some-ask-3.second c.join-pass.result 2 3 4 c.in-Some-ask.two c.in-Some-ask-2.three c.in-Some-ask-3.four begun.0 begun.1 cut.1 cut.2 u v w c.join-pass.ensures in
    let mine = placed u.0 2 c.in-Some-ask.two ∷ [] in
    let theirs = placed v.0 3 c.in-Some-ask-2.three ∷ placed w.0 4 c.in-Some-ask-3.four ∷ [] in
    two_hold c.join-pass.result t mine theirs 0 0 begun.0 is

pub returns-clause-first : goal.returns-clause-first
returns-clause-first c =
    let t = c.in-Some.turn in
    let begun = c.in-Some.ensures in
    let cut = c.in-Ok.ensures.ok in
    let u = c.in-Some-ask.ensures in
    let v = c.in-Some-ask-2.ensures in
    let w = c.in-Some-ask-3.ensures in
    let is = two_back t c.in-Some.pass c.in-Ok.first c.in-Ok.second c.in-Some-ask.first c.in-Some-ask-2.second c.in-Some-ask-3.second c.join-pass.result 2 3 4 c.in-Some-ask.two c.in-Some-ask-2.three c.in-Some-ask-3.four begun.0 begun.1 cut.1 cut.2 u v w c.join-pass.ensures in
    let mine = placed u.0 2 c.in-Some-ask.two ∷ [] in
    let theirs = placed v.0 3 c.in-Some-ask-2.three ∷ placed w.0 4 c.in-Some-ask-3.four ∷ [] in
    (entries_both c.close-list.result.1 c.join-pass.result t mine theirs 0 0 is c.close-list.ensures.parts).0

pub returns-clause-second : goal.returns-clause-second
returns-clause-second c =
    let t = c.in-Some.turn in
    let begun = c.in-Some.ensures in
    let cut = c.in-Ok.ensures.ok in
    let u = c.in-Some-ask.ensures in
    let v = c.in-Some-ask-2.ensures in
    let w = c.in-Some-ask-3.ensures in
    let is = two_back t c.in-Some.pass c.in-Ok.first c.in-Ok.second c.in-Some-ask.first c.in-Some-ask-2.second c.in-Some-ask-3.second c.join-pass.result 2 3 4 c.in-Some-ask.two c.in-Some-ask-2.three c.in-Some-ask-3.four begun.0 begun.1 cut.1 cut.2 u v w c.join-pass.ensures in
    let mine = placed u.0 2 c.in-Some-ask.two ∷ [] in
    let theirs = placed v.0 3 c.in-Some-ask-2.three ∷ placed w.0 4 c.in-Some-ask-3.four ∷ [] in
    (entries_both c.close-list.result.1 c.join-pass.result t mine theirs 0 0 is c.close-list.ensures.parts).1
