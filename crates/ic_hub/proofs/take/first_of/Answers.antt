use Rattle.std.proofs.Common.{◌≡◌, Some, None, ap, sym, subst, refl, ◌∙◌, arith}
use Rattle.std.specs.Prelude.{◌≤ℤ◌}
use Rattle.std.proofs.lemmas.Int.{ints, to_z-of_z}
use Rattle.std.proofs.Common.{rules}
use mir.Syntax.{w32}
use mir.Val.{SFits}
use Rattle.ic_hub.specs.declared.take.Ranked.{Ranked}
use Rattle.ic_hub.specs.Taking.{rank_of, StillNot, StaysFirst, BecomesFirst}
use Rattle.ic_hub.proofs.take.first_of.Goals as goal

pub returns-then-not-is_ready : goal.returns-then-not-is_ready
returns-then-not-is_ready c = StillNot (c.if-not-is_ready.ensures.none refl) refl

pub returns-in-Some : goal.returns-in-Some
returns-in-Some c =
    let f : SFits w32 c.in-Some.found.rank = search rules in
    let g : SFits w32 c.rank-rank.result = search rules in
    let le : c.in-Some.found.rank ≤ℤ c.rank-rank.result = grind (arith, ints) in
    StaysFirst c.in-Some.found c.in-Some.is (subst (λ z. c.in-Some.found.rank ≤ℤ z) (c.rank-rank.ensures ∙ ap (λ z. rank_of c.args.last z) c.from.ensures) le) (sym c.in-Some.is)

pub returns-in_default : goal.returns-in_default
returns-in_default c =
    let f : SFits w32 c.in-Some.found.rank = search rules in
    let g : SFits w32 c.rank-rank.result = search rules in
    let is = c.rank-rank.ensures ∙ ap (λ z. rank_of c.args.last z) c.from.ensures in
    let le : c.rank-rank.result ≤ℤ c.in-Some.found.rank = grind (arith, ints) in
    BecomesFirst (c.if-not-is_ready.ensures.ready refl)
    (λ found was. let one : Some c.in-Some.found ≡ Some found = sym c.in-Some.is ∙ was in
    let same : c.in-Some.found ≡ found = cc in
    subst (λ (x : Ranked). rank_of c.args.last c.args.receiver.now.end.key.from ≤ℤ x.rank) same (subst (λ z. z ≤ℤ c.in-Some.found.rank) is le))
    _ refl (to_z-of_z w32 c.rank-rank.result g ∙ is) refl

pub returns-in_default-2 : goal.returns-in_default-2
returns-in_default-2 c =
    let g : SFits w32 c.rank-rank.result = search rules in
    let is = c.rank-rank.ensures ∙ ap (λ z. rank_of c.args.last z) c.from.ensures in
    BecomesFirst (c.if-not-is_ready.ensures.ready refl) (λ found was. absurd (let bad : None ≡ Some found = sym c.in_default.is ∙ was in cc)) _ refl (to_z-of_z w32 c.rank-rank.result g ∙ is) refl
