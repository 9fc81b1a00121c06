use Rattle.std.proofs.Common.{rules, ◌≡◌, subst, ◌∙◌}
use Rattle.std.specs.Prelude.{flat_map}
use Rattle.pl_plan.specs.declared.ends.Asked.{Asked}
use Rattle.pl_plan.specs.Asking as asking
use Rattle.pl_plan.specs.Kept.{IsKept}
use Rattle.pl_plan.proofs.KeptLaws.{ends_are}
use Rattle.pl_plan.proofs.sound.SoundPlan.ends.Goals as goal

pub returns : goal.returns
returns c =
    let k : IsKept c.args.self.now c.self.inside.loci c.self.inside.slices c.self.inside.motions = subst (λ j. IsKept j c.self.inside.loci c.self.inside.slices c.self.inside.motions) c.self.view_is c.self.invariant in
    let asked : Asked = record { session = c.args.session; query = c.args.query; at = c.args.at } in
    let e : c.from_vec.result ≡ flat_map (asking.motion_ends c.args.self.now.segments asked) c.self.inside.motions = search rules in
    e ∙ ends_are c.args.self.now c.self.inside.loci c.self.inside.slices c.self.inside.motions asked k
