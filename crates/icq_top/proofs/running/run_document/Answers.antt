use Rattle.std.proofs.Common.{◌≡◌, ◌≤◌, length, map, Some, Ok, ap, sym, ◌∙◌, subst, arith, refl, option_map, Vec, Global}
use Rattle.std.specs.List.{AllByRecursion}
use Rattle.pl_tree.specs.Trees.{tree_in}
use Rattle.pl_tree.specs.Sizes.{IsPlan}
use Rattle.pl_plan.specs.Kept.{given_with}
use Rattle.pl_read.specs.declared.table.Table.{Table}
use Rattle.tb_load.specs.Kept.{loaded_of, schemas_of, wholes_of}
use Rattle.gd_sim.specs.declared.feed.Feed.{Feed}
use Rattle.gd_sim.specs.Plans.{feeds_of, Runs, IsRunOf}
use Rattle.icq_top.specs.Outcome.{given_in, judged_in}
use Rattle.icq_top.specs.Work.{JudgesAll}
use Rattle.icq_top.proofs.Gathering.{few_schemas, schemas_few, runs_all, bounded, judged_ok, judged_not_built}
use Rattle.icq_top.proofs.running.run_document.Goals as goal

pub feeds_of-requires : goal.feeds_of-requires
feeds_of-requires c =
    let d = c.args.document in
    let schemas : c.in_ok-schemas.schemas ≡ schemas_of d = c.in_ok-schemas.ensures ∙ ap (map (λ (table : Table). table.schema)) c.as_slice.ensures in
    let judged = subst (λ s. JudgesAll (given_with s d.segments d.settings) d.queries (Ok c.in_ok-plans.plans)) schemas c.in_ok-plans.ensures in
    subst (AllByRecursion (λ j. length j.schemas ≤ 64)) (sym judged.0) (few_schemas (given_in d) d.queries (schemas_few d c.requires))

pub returns-in_default : goal.returns-in_default
returns-in_default c =
    let d = c.args.document in
    let schemas : c.in_ok-schemas.schemas ≡ schemas_of d = c.in_ok-schemas.ensures ∙ ap (map (λ (table : Table). table.schema)) c.as_slice.ensures in
    let judged = subst (λ s. JudgesAll (given_with s d.segments d.settings) d.queries (Ok c.in_ok-plans.plans)) schemas c.in_ok-plans.ensures in
    judged_not_built d judged.1 (ap feeds_of (sym judged.0) ∙ sym c.in_ok-feeds.ensures ∙ ap (option_map (λ (v : Vec Feed Global). v.items)) c.in_default.is)

pub first_run-requires-clause-plans : goal.first_run-requires-clause-plans
first_run-requires-clause-plans c =
    let d = c.args.document in
    let schemas : c.in_ok-schemas.schemas ≡ schemas_of d = c.in_ok-schemas.ensures ∙ ap (map (λ (table : Table). table.schema)) c.as_slice.ensures in
    let judged = subst (λ s. JudgesAll (given_with s d.segments d.settings) d.queries (Ok c.in_ok-plans.plans)) schemas c.in_ok-plans.ensures in
    let are : feeds_of (judged_in d) ≡ Some c.in-Some.feeds.items =
    ap feeds_of (sym judged.0) ∙ sym c.in_ok-feeds.ensures ∙ ap (option_map (λ (v : Vec Feed Global). v.items)) c.in-Some.is in
    let limits = c.requires.limits in
    let fits =
    c.in_ok-loaded.ensures.fits (record {
      least_session = limits.least_session;
      greatest_session = limits.greatest_session;
      least_segments = limits.least_segments;
      greatest_segments = limits.greatest_segments;
      settings = limits.settings;
      table_count = limits.table_count;
      tables = limits.tables;
      rows = limits.rows;
      values = limits.values;
      query_count = omega (arith, ap length c.new.ensures);
      queries = subst (AllByRecursion (λ plan. IsPlan (tree_in plan))) (sym c.new.ensures) tt;
    }) c.requires.texts in
    subst (AllByRecursion (Runs d.segments d.settings c.in_ok-loaded.loaded)) (sym judged.0) (runs_all d (wholes_of d) c.in_ok-loaded.loaded c.in-Some.feeds.items (schemas_few d c.requires) fits are)

pub returns : goal.returns
returns c =
    let d = c.args.document in
    let schemas : c.in_ok-schemas.schemas ≡ schemas_of d = c.in_ok-schemas.ensures ∙ ap (map (λ (table : Table). table.schema)) c.as_slice.ensures in
    let judged = subst (λ s. JudgesAll (given_with s d.segments d.settings) d.queries (Ok c.in_ok-plans.plans)) schemas c.in_ok-plans.ensures in
    let are : feeds_of (judged_in d) ≡ Some c.in-Some.feeds.items =
    ap feeds_of (sym judged.0) ∙ sym c.in_ok-feeds.ensures ∙ ap (option_map (λ (v : Vec Feed Global). v.items)) c.in-Some.is in
    let run =
    subst (λ js. IsRunOf d.session d.segments 100000 d.settings (loaded_of d) js c.in_ok-run.run') judged.0
    (subst (λ l. IsRunOf d.session d.segments 100000 d.settings l c.in_ok-plans.plans c.in_ok-run.run') c.in_ok-loaded.ensures.kept c.in_ok-run.ensures) in (
      record {
        read = c.requires;
        session = refl;
        bounded = bounded d (record { session = d.session; feeds = c.in-Some.feeds; run = c.in_ok-run.run' }) c.requires are run;
        feeds = are;
        is_run = run;
      },
      judged_ok d c.in-Some.feeds.items judged.1 are,
    )
