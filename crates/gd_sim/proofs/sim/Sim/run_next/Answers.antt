use Rattle.std.proofs.Common.{subst, sym, ap, ◌∙◌, ◌+◌, Err, ◌∷◌, [], length, length-append, slice_index_or}
use Rattle.std.proofs.lemmas.Option.{slice_get-get_or}
use Rattle.gd_sim.specs.Runs.{Stands, Ends}
use Rattle.gd_sim.proofs.Running.{gather_of, next_starts, one_more, none_more}
use Rattle.gd_sim.proofs.sim.Sim.run_next.Goals as goal

pub run_query-requires-clause-can : goal.run_query-requires-clause-can
run_query-requires-clause-can c =
    let m = c.args.common.now in
    let at = slice_get-get_or c.args.feeds.now c.args.place _ c.requires.here in
    record {
      gather = gather_of m.session m.segments m.settings c.args.loaded.now _ (c.args.place + 1);
      starts = next_starts m.session m.segments m.settings c.args.loaded.now c.args.feeds.now c.args.self.now c.args.lists.now.items c.args.place _ c.requires.stands c.requires.next at c.requires.feeds;
    }

pub returns-in_ok-push-in-Ok : goal.returns-in_ok-push-in-Ok
returns-in_ok-push-in-Ok c =
    let m = c.args.common.now in
    let at = slice_get-get_or c.args.feeds.now c.args.place _ c.requires.here in
    let starts = next_starts m.session m.segments m.settings c.args.loaded.now c.args.feeds.now c.args.self.now c.args.lists.now.items c.args.place _ c.requires.stands c.requires.next at c.requires.feeds in
    let stands = one_more m.session m.segments m.settings c.args.loaded.now c.args.feeds.now c.args.self.now c.run_query.new.self c.args.place _ c.args.lists.now.items c.in-Ok.rows
    c.requires.stands.over c.requires.next at (c.in-Ok.ensures _ starts) in (
      subst (Stands m.session m.segments m.settings c.args.loaded.now c.args.feeds.now c.run_query.new.self) (sym c.in_ok-push-in-Ok.ensures.items) stands,
      ap length c.in_ok-push-in-Ok.ensures.items ∙ length-append c.args.lists.now.items (c.in-Ok.rows ∷ []),
    )

pub returns-in-Err-Fault : goal.returns-in-Err-Fault
returns-in-Err-Fault c =
    let m = c.args.common.now in
    let at = slice_get-get_or c.args.feeds.now c.args.place _ c.requires.here in
    let starts = next_starts m.session m.segments m.settings c.args.loaded.now c.args.feeds.now c.args.self.now c.args.lists.now.items c.args.place _ c.requires.stands c.requires.next at c.requires.feeds in
    let g = gather_of m.session m.segments m.settings c.args.loaded.now (slice_index_or c.args.feeds.now c.args.place (record { table = 0; senders = 0 })) (c.args.place + 1) in
    none_more m.session m.segments m.rounds m.settings c.args.loaded.now c.args.feeds.now c.args.self.now c.run_query.new.self c.args.place _ c.args.lists.now.items c.in-Err-Fault.fault
    c.requires.stands.over c.requires.next (subst (λ q. Ends m.rounds g c.args.self.now c.run_query.new.self (Err q)) c.in-Err-Fault.field-0-is (c.in-Err-Fault.ensures g starts))
