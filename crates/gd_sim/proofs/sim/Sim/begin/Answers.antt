use Rattle.std.proofs.Common.{rules, ◌≡◌, ◌<◌, ◌≤◌, length, Some, refl, slice_get, arith}
use Rattle.std.proofs.lemmas.Option.{slice_get_read, slice_get_within}
use Rattle.gd_sim.proofs.Starting.{none_begun, next_begun}
use Rattle.gd_sim.proofs.sim.Sim.begin.Goals as goal

pub loop-place-init : goal.loop-place-init
loop-place-init c = (none_begun c.args.beginning.now c.args.self.now.stations.items, refl)

pub begin-requires-clause-can : goal.begin-requires-clause-can
begin-requires-clause-can c =
    let within : c.loop-place.place < length c.loop-place.self.stations.items = search rules in
    let here : slice_get c.loop-place.self.stations.items c.loop-place.place ≡ Some c.index_mut.result.now = slice_get_read c.loop-place.self.stations.items (length c.loop-place.self.stations.items) c.loop-place.place c.index_mut.result.now refl within c.index_mut.ensures.value in
    let least : c.loop-place.place ≤ c.loop-place.place = omega arith in
    c.requires.can c.loop-place.place c.index_mut.result.now (c.loop-place.invariant.0.same c.loop-place.place c.index_mut.result.now least here)

pub loop-place-preserved : goal.loop-place-preserved
loop-place-preserved c =
    let within : c.loop-place.place < length c.loop-place.self.stations.items = search rules in
    let here : slice_get c.loop-place.self.stations.items c.loop-place.place ≡ Some c.index_mut.result.now = slice_get_read c.loop-place.self.stations.items (length c.loop-place.self.stations.items) c.loop-place.place c.index_mut.result.now refl within c.index_mut.ensures.value in (
      next_begun c.args.beginning.now c.args.self.now.stations.items c.loop-place.self.stations.items c.loop-place.place c.index_mut.result.now c.begin.new.self c.loop-place.invariant.0 here c.in_ok-begin.ensures,
      c.loop-place.invariant.1,
    )

pub returns : goal.returns
returns c =
    let many : length c.args.self.now.stations.items ≤ c.loop-place.place = search rules in
    record {
      count = c.loop-place.invariant.0.count;
      network = c.loop-place.invariant.1;
      each = λ k station at.
          let within : k < length c.loop-place.self.stations.items = slice_get_within c.loop-place.self.stations.items k station at in
          c.loop-place.invariant.0.begun k station (omega (arith, within, many, c.loop-place.invariant.0.count)) at;
    }
