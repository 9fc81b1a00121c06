use Rattle.std.proofs.Common.{refl, subst, sym, ◌∙◌, Some, ap, ◌<◌}
use Rattle.std.proofs.lemmas.Option.{slice_get-get_or}
use Rattle.pl_ops.specs.Placed.{rows_at}
use Rattle.gd_sim.specs.Stations.{TellsOver}
use Rattle.gd_sim.proofs.Running.{may_go_on, was_ok, went, ran, faulty, handed_on, too_late, over}
use Rattle.gd_sim.proofs.sim.Sim.run_query.Goals as goal

pub rounds-requires-clause-plays : goal.rounds-requires-clause-plays
rounds-requires-clause-plays c =
    let begun = was_ok c.begin.result (sym c.is_err.ensures.value ∙ c.if-is_err.false) c.begin.ensures in
    may_go_on c.args.beginning.now (rows_at c.args.loaded.now c.args.table) c.args.self.now c.begin.new.self c.requires.can begun

pub returns-in_err-rounds : goal.returns-in_err-rounds
returns-in_err-rounds c = λ g starts.
    let begun = was_ok c.begin.result (sym c.is_err.ensures.value ∙ c.if-is_err.false) c.begin.ensures in
    let goes = went g c.args.beginning.now (rows_at c.args.loaded.now c.args.table) c.args.self.now c.begin.new.self c.rounds.new.self starts begun c.rounds.ensures.goes in
    handed_on c.args.rounds g c.args.self.now c.rounds.new.self c.in_err-rounds.field-0.0 c.from_residual.result
    (faulty c.args.rounds g c.args.self.now c.rounds.new.self c.in_err-rounds.field-0.0 (ran g c.args.self.now c.rounds.new.self goes) c.in_err-rounds.ensures.cause)
    c.from_residual.ensures.1

pub returns-then-not-branch : goal.returns-then-not-branch
returns-then-not-branch c = λ g starts.
    let begun = was_ok c.begin.result (sym c.is_err.ensures.value ∙ c.if-is_err.false) c.begin.ensures in
    let goes = went g c.args.beginning.now (rows_at c.args.loaded.now c.args.table) c.args.self.now c.begin.new.self c.rounds.new.self starts begun c.rounds.ensures.goes in
    too_late c.args.rounds g c.args.self.now c.rounds.new.self goes (subst (TellsOver c.rounds.new.self.stations.items) c.if-not-branch.true c.in_ok-rounds.ensures.over)

pub returns : goal.returns
returns c = λ g starts.
    let begun = was_ok c.begin.result (sym c.is_err.ensures.value ∙ c.if-is_err.false) c.begin.ensures in
    let b = c.rounds.new.self in
    let goes = went g c.args.beginning.now (rows_at c.args.loaded.now c.args.table) c.args.self.now c.begin.new.self b starts begun c.rounds.ensures.goes in
    let within = subst (λ n. 0 < n) (sym (c.rounds.ensures.count ∙ begun.count)) c.requires.some in
    over g c.args.self.now b _ c.index_mut.result.now _ c.take_rows.result goes (subst (TellsOver b.stations.items) c.if-not-branch.false c.in_ok-rounds.ensures.over)
    (slice_get-get_or b.stations.items 0 _ within ∙ ap Some (sym c.index_mut.ensures.value)) refl c.take_rows.ensures refl refl
