use Rattle.std.proofs.Common.{rules, ap, sym, ◌∙◌, refl, subst, ◌<◌, arith, length}
use Rattle.ic_turn.specs.Parts.{HasAll}
use Rattle.ic_turn.specs.Views.{held_of}
use Rattle.ic_turn.proofs.Keeps.{notes, draws, missed}
use Rattle.ic_turn.proofs.board.try_serve.Goals as goal

pub load-serving-requires : goal.load-serving-requires
load-serving-requires g c = (c.requires.of, search rules, notes g.M.Machine.kept g.M.Machine.state g.M.Machine.stands _ _ _ _ _ c.requires.idle.0)

pub compare_exchange-found-requires : goal.compare_exchange-found-requires
compare_exchange-found-requires g c =
    let s = c.load-serving.ensures.2 in
    let w = s.2 (search rules) in
    (search rules, search rules, draws g.M.Machine.kept g.M.Machine.state g.M.Machine.stands _ _ _ _ _ _ _ (ap (λ v. v.stage) w) (s.0 ∙ c.requires.idle.1) (subst (λ v. 0 < length v.parts) (sym w) c.requires.idle.2) refl (omega arith))

pub serve-requires-clause-drawn : goal.serve-requires-clause-drawn
serve-requires-clause-drawn g c =
    let s = c.load-serving.ensures.2 in
    let w = s.2 (search rules) in
    let h = c.compare_exchange-found.ensures.2.0 (search rules) in
    (_, h.0, ap (λ v. v.stage) h.1, h.2, ap (λ v. v.kept) h.1 ∙ h.3, subst (λ v. 0 < length v.parts) (sym h.1) (subst (λ v. 0 < length v.parts) (sym w) c.requires.idle.2))

pub returns-then-found-serving-clause-busy : goal.returns-then-found-serving-clause-busy
returns-then-found-serving-clause-busy g c =
    let s = c.load-serving.ensures.2 in
    let w = s.2 (search rules) in
    let h = c.compare_exchange-found.ensures.2.1 (search rules) in
    (refl, missed c.load-serving.result c.args.seat.now.me.0 c.load-serving.new.seat.me.0 c.compare_exchange-found.new.seat.me.0 w h.0)

pub returns-then-found-serving-clause-alone : goal.returns-then-found-serving-clause-alone
returns-then-found-serving-clause-alone g c =
    let s = c.load-serving.ensures.2 in
    let w = s.2 (search rules) in
    let h = c.compare_exchange-found.ensures.2.1 (search rules) in
    λ all. absurd (h.2 (subst (λ v. HasAll v.passes (held_of v)) (sym w) all))
