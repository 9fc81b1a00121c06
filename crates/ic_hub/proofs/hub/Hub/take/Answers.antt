use Rattle.std.proofs.Common.{◌≡◌, ℕ, ◌==◌, [], ◌∷◌, ◌++◌, None, Err, ap, sym, subst, ◌∙◌, set, position}
use Rattle.std.specs.Prelude.{OnErr}
use Rattle.ic_conntab.specs.Ends.{motions_of}
use Rattle.ic_hub.specs.contracts.hub.Hub.{the_view}
use Rattle.ic_hub.specs.contracts.query.Query.{the_view as query_view}
use Rattle.ic_hub.specs.Hubbing.{Hubbing, Living}
use Rattle.ic_law.specs.Arriving.{unknown}
use Rattle.ic_hub.specs.Entries.{take_entry}
use Rattle.ic_hub.specs.Standing.{Stands}
use Rattle.ic_hub.specs.Taking.{TakesAny}
use Rattle.ic_hub.proofs.Places.{Shaped}
use Rattle.ic_hub.proofs.Shape.{shape_of}
use Rattle.ic_hub.proofs.TakingAny.{AtMotion, query_at, at_motion, no_query, no_motion, take_any_stands, take_any_err, take_any_hub}
use Rattle.ic_hub.proofs.hub.Hub.take.Goals as goal

pub returns-in_default-clause-stands : goal.returns-in_default-clause-stands
returns-in_default-clause-stands c = λ h stands.
    no_query c.args.self.now c.args.query c.args.motion h (subst (λ (s : Hubbing). Shaped s) c.self.view_is (shape_of (the_view c.self.inside) c.self.inside.table c.self.invariant)) (sym c.in_default.ensures) stands

pub returns-in_default-motion-clause-stands : goal.returns-in_default-motion-clause-stands
returns-in_default-motion-clause-stands c = λ h stands.
    let at = query_at (the_view c.self.inside) c.args.self.now c.args.query c.in-Some.place c.index.result.now c.self.view_is (sym c.in-Some.ensures) c.index.ensures in
    let none : position (λ (n : ℕ). n == c.args.motion) (motions_of c.index.result.now.ends) ≡ None = ap (λ (l : Living). position (λ (n : ℕ). n == c.args.motion) (motions_of l.ends)) (sym c.behind-self.view_is) ∙ sym c.in_default-motion.ensures.value in
    subst (λ (s : Hubbing). Stands s (h ++ take_entry c.args.query c.args.motion (Err (unknown c.args.query c.args.motion)) ∷ [])) c.self.view_is
    (no_motion (the_view c.self.inside) c.args.query c.args.motion c.in-Some.place c.index.result.now h (shape_of (the_view c.self.inside) c.self.inside.table c.self.invariant) at.here at.number none
    (subst (λ s. Stands s h) (sym c.self.view_is) stands))

-- the query that is asked, at the place of the motion
at : (c : goal.After-self-1) → AtMotion (the_view c.self.inside) c.args.query c.args.motion c.in-Some.place c.in-Some-motion.at c.index_mut.result.now
at c =
    at_motion (the_view c.self.inside) c.args.query c.args.motion c.in-Some.place c.in-Some-motion.at c.index_mut.result.now c.index.result.now (query_view c.behind-self.inside)
    (query_at (the_view c.self.inside) c.args.self.now c.args.query c.in-Some.place c.index_mut.result.now c.self.view_is (sym c.in-Some.ensures) c.index_mut.ensures.value)
    (query_at (the_view c.self.inside) c.args.self.now c.args.query c.in-Some.place c.index.result.now c.self.view_is (sym c.in-Some.ensures) c.index.ensures) c.behind-self.view_is (sym c.in-Some-motion.ensures.value)

takes : (c : goal.After-self-1) → TakesAny c.in-Some-motion.at c.args.motion c.index_mut.result.now c.take_any.new.self c.take_any.result
takes c = c.take_any.ensures c.args.motion (at c).motion_is

pub invariant_of-self : goal.invariant_of-self
invariant_of-self c = take_any_hub (the_view c.self.inside) c.self.inside.table c.args.motion c.in-Some.place c.in-Some-motion.at c.index_mut.result.now c.take_any.new.self c.take_any.result c.self.invariant (at c).here (takes c)

pub returns-clause-err : goal.returns-clause-err
returns-clause-err c =
    subst (λ (s : Hubbing). OnErr c.take_any.result (record (the_view c.self.inside) { live = set c.self.inside.live.items c.in-Some.place c.take_any.new.self } ≡ s)) c.self.view_is
    (take_any_err (the_view c.self.inside) c.args.motion c.in-Some.place c.in-Some-motion.at c.index_mut.result.now c.take_any.new.self c.take_any.result (at c).here (takes c))

pub returns-clause-stands : goal.returns-clause-stands
returns-clause-stands c = λ h stands.
    take_any_stands (the_view c.self.inside) c.args.query c.args.motion c.in-Some.place c.in-Some-motion.at c.index_mut.result.now c.take_any.new.self c.take_any.result h
    (shape_of (the_view c.self.inside) c.self.inside.table c.self.invariant) (at c) (takes c) (subst (λ s. Stands s h) (sym c.self.view_is) stands)
