use Rattle.std.proofs.Common.{◌++◌, [], ◌∷◌, Err, ap, sym, ◌∙◌, subst}
use Rattle.ic_base.specs.declared.keys.BeginNo.TheVariants.{Memory}
use Rattle.ic_conntab.specs.Table.{Table}
use Rattle.ic_conntab.specs.Ends.{keys_of}
use Rattle.ic_law.specs.Asking.{AreEnds}
use Rattle.ic_hub.specs.Hubbing.{Hubbing, Living, place_in}
use Rattle.ic_hub.specs.Entries.{begin_entry}
use Rattle.ic_hub.specs.Standing.{Stands}
use Rattle.ic_hub.proofs.Begun.{passed_on, refused_stands, refused_memory, Enters, enters_hub, enters_stands}
use Rattle.ic_hub.proofs.hub.Hub.begin_now.Goals as goal

pub returns-in_default-clause-stands : goal.returns-in_default-clause-stands
returns-in_default-clause-stands c h stands =
    let v : Hubbing = record { session = c.self.inside.session; at = c.self.inside.at; settings = c.self.inside.settings; tick = c.self.inside.tick; dropped = c.self.inside.dropped; top = c.self.inside.table.top; live = c.self.inside.live.items } in
    let are : AreEnds (place_in v) c.args.query c.args.ends.now = subst (λ (s : Hubbing). AreEnds (place_in s) c.args.query c.args.ends.now) (sym c.self.view_is) c.requires.ends in
    let was : Stands v h = subst (λ (s : Hubbing). Stands s h) (sym c.self.view_is) stands in
    subst (λ (s : Hubbing). Stands s (h ++ begin_entry c.args.query c.args.ends.now (Err Memory) ∷ [])) c.self.view_is (refused_memory v c.self.inside.table h c.args.query c.args.ends.now c.self.invariant was are)

pub returns-in_default-reserve-clause-stands : goal.returns-in_default-reserve-clause-stands
returns-in_default-reserve-clause-stands c h stands =
    let v : Hubbing = record { session = c.self.inside.session; at = c.self.inside.at; settings = c.self.inside.settings; tick = c.self.inside.tick; dropped = c.self.inside.dropped; top = c.self.inside.table.top; live = c.self.inside.live.items } in
    let are : AreEnds (place_in v) c.args.query c.args.ends.now = subst (λ (s : Hubbing). AreEnds (place_in s) c.args.query c.args.ends.now) (sym c.self.view_is) c.requires.ends in
    let was : Stands v h = subst (λ (s : Hubbing). Stands s h) (sym c.self.view_is) stands in
    subst (λ xs. Stands (record v { live = xs }) (h ++ begin_entry c.args.query c.args.ends.now (Err Memory) ∷ [])) (sym c.reserve.ensures.items)
    (refused_memory v c.self.inside.table h c.args.query c.args.ends.now c.self.invariant was are)

pub returns-in_err-begin-clause-stands : goal.returns-in_err-begin-clause-stands
returns-in_err-begin-clause-stands c h stands =
    let v : Hubbing = record { session = c.self.inside.session; at = c.self.inside.at; settings = c.self.inside.settings; tick = c.self.inside.tick; dropped = c.self.inside.dropped; top = c.self.inside.table.top; live = c.self.inside.live.items } in
    let are : AreEnds (place_in v) c.args.query c.args.ends.now = subst (λ (s : Hubbing). AreEnds (place_in s) c.args.query c.args.ends.now) (sym c.self.view_is) c.requires.ends in
    let was : Stands v h = subst (λ (s : Hubbing). Stands s h) (sym c.self.view_is) stands in
    let refusal = c.in_err-begin.field-0.0 in
    subst (λ r. Stands (record v { top = c.begin-2.new.self.top; live = c.reserve.new.self.items }) (h ++ begin_entry c.args.query c.args.ends.now r ∷ [])) (sym (passed_on c.from_residual.result refusal c.from_residual.ensures.1))
    (subst (λ (t : Table). Stands (record v { top = t.top; live = c.reserve.new.self.items }) (h ++ begin_entry c.args.query c.args.ends.now (Err refusal) ∷ [])) (sym c.in_err-begin.ensures.err)
    (subst (λ xs. Stands (record v { live = xs }) (h ++ begin_entry c.args.query c.args.ends.now (Err refusal) ∷ [])) (sym c.reserve.ensures.items)
    (refused_stands v c.self.inside.table h c.args.query c.args.ends.now refusal c.self.invariant was are (λ top same. (c.in_err-begin.ensures.old top).0 (ap Err same)) (λ same. c.in_err-begin.ensures.twice.0 (ap Err same)))))

pub invariant_of-self-2 : goal.invariant_of-self-2
invariant_of-self-2 c =
    let v : Hubbing = record { session = c.self.inside.session; at = c.self.inside.at; settings = c.self.inside.settings; tick = c.self.inside.tick; dropped = c.self.inside.dropped; top = c.self.inside.table.top; live = c.self.inside.live.items } in
    let are : AreEnds (place_in v) c.args.query c.args.ends.now = subst (λ (s : Hubbing). AreEnds (place_in s) c.args.query c.args.ends.now) (sym c.self.view_is) c.requires.ends in
    let enters : Enters v c.self.inside.table c.begin-2.new.self c.args.query c.args.ends.now c.place_for-place.result c.keys.result.now c.reserve.new.self.items c.as_slice.result.now c.insert.new.live.items c.in-Ok.begun = record {
      may = c.in_ok-begin.ensures.ok.0;
      now_is = c.in_ok-begin.ensures.ok.1;
      keys_are = c.keys.ensures.value ∙ ap (λ (l : Living). keys_of l.ends) c.begun.view_is ∙ ap keys_of c.in-Ok.ensures.begun.ends_are;
      reserved_is = c.reserve.ensures.items;
      seen_is = c.as_slice.ensures.value;
      before = c.place_for-place.ensures.before;
      behind = c.place_for-place.ensures.behind;
      live_is = c.insert.ensures.items;
      begun = c.in-Ok.ensures.begun;
    } in
    enters_hub v c.self.inside.table c.begin-2.new.self c.args.query c.args.ends.now c.place_for-place.result c.keys.result.now c.reserve.new.self.items c.as_slice.result.now c.insert.new.live.items c.in-Ok.begun c.self.invariant are enters

pub returns-clause-stands : goal.returns-clause-stands
returns-clause-stands c h stands =
    let v : Hubbing = record { session = c.self.inside.session; at = c.self.inside.at; settings = c.self.inside.settings; tick = c.self.inside.tick; dropped = c.self.inside.dropped; top = c.self.inside.table.top; live = c.self.inside.live.items } in
    let are : AreEnds (place_in v) c.args.query c.args.ends.now = subst (λ (s : Hubbing). AreEnds (place_in s) c.args.query c.args.ends.now) (sym c.self.view_is) c.requires.ends in
    let was : Stands v h = subst (λ (s : Hubbing). Stands s h) (sym c.self.view_is) stands in
    let enters : Enters v c.self.inside.table c.begin-2.new.self c.args.query c.args.ends.now c.place_for-place.result c.keys.result.now c.reserve.new.self.items c.as_slice.result.now c.insert.new.live.items c.in-Ok.begun = record {
      may = c.in_ok-begin.ensures.ok.0;
      now_is = c.in_ok-begin.ensures.ok.1;
      keys_are = c.keys.ensures.value ∙ ap (λ (l : Living). keys_of l.ends) c.begun.view_is ∙ ap keys_of c.in-Ok.ensures.begun.ends_are;
      reserved_is = c.reserve.ensures.items;
      seen_is = c.as_slice.ensures.value;
      before = c.place_for-place.ensures.before;
      behind = c.place_for-place.ensures.behind;
      live_is = c.insert.ensures.items;
      begun = c.in-Ok.ensures.begun;
    } in
    enters_stands v c.self.inside.table c.begin-2.new.self h c.args.query c.args.ends.now c.place_for-place.result c.keys.result.now c.reserve.new.self.items c.as_slice.result.now c.insert.new.live.items c.in-Ok.begun c.self.invariant was are enters
