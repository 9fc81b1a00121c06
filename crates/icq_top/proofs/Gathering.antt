-- A document's plans as what they gather, and what a run of them is.
use Rattle.std.proofs.Common.{◌≡◌, ℕ, ◌+◌, ◌≤◌, List, [], ◌∷◌, length, map, Bool, true, false, cond, ◌&&◌, Option, Some, None, Ok, Err, refl, ap, sym, ◌∙◌, subst, arith}
use Rattle.std.specs.List.{AllByRecursion, list_all}
use Rattle.std.proofs.lemmas.List.{length-map}
use Rattle.pl_tree.specs.declared.node.Plan.{Plan}
use Rattle.pl_tree.specs.Trees.{Scan, Gather, tree_in}
use Rattle.pl_tree.specs.Columns.{schema_named}
use Rattle.pl_plan.specs.declared.rule.Rule.{Rule}
use Rattle.pl_plan.specs.declared.rule.Rule.TheVariants.{UnknownTable, Column, ColumnKind, JoinLocus, AggLocus, LimitLocus, OrderMissing, MotionAboveEntry, PartialUnmatched, NotAtEntry, TooWide, TooMany}
use Rattle.pl_plan.specs.declared.rule.PlanFault.{PlanFault}
use Rattle.pl_plan.specs.declared.sound.Judged.{Judged}
use Rattle.pl_plan.specs.Places.{Place}
use Rattle.pl_plan.specs.Tests.{is_missing}
use Rattle.pl_plan.specs.Rules.{Given, rule_number}
use Rattle.pl_read.specs.declared.table.Table.{Table}
use Rattle.pl_read.specs.declared.document.Document.{Document}
use Rattle.pl_ops.specs.declared.loaded.Spread.{Spread}
use Rattle.pl_ops.specs.Fitting.{Fits}
use Rattle.pl_ops.specs.Rows.{Line}
use Rattle.tb_load.specs.Kept.{loaded_of, schemas_of}
use Rattle.gd_sim.specs.declared.feed.Feed.{Feed}
use Rattle.gd_sim.specs.declared.run.FirstRun.{FirstRun}
use Rattle.gd_sim.specs.declared.run.FirstNo.{FirstNo}
use Rattle.gd_sim.specs.Run.{Ends}
use Rattle.gd_sim.specs.Plans.{is_some, is_gather, feed_of, before, feeds_of, Runs, IsRunOf}
use Rattle.gd_sim.proofs.Feeds.{before_some, feed_found, length-feeds, gather_shape, fed, few_senders}
use Rattle.icq_top.specs.declared.running.Ran.{Ran}
use Rattle.icq_top.specs.declared.stop.Stop.{Stop}
use Rattle.icq_top.specs.declared.stop.Stop.TheVariants.{NotBuilt}
use Rattle.icq_top.specs.Judging.{tests_at, first_rule, fault_or, fault_of, refusal_or, refusal_from, judged_by}
use Rattle.icq_top.specs.Outcome.{given_in, is_gather_plan, judged_end, judged_in}
use Rattle.icq_top.specs.Work.{IsRead, IsBounded}
use Rattle.icq_top.proofs.FirstFaults.{at_place}

-- ---- which plans gather

abbrev pub Gathering : Judged → Type 0
Gathering j = is_gather (tree_in j.plan) ≡ true

all_gather : (js : List Judged) (feeds : List Feed) → feeds_of js ≡ Some feeds → AllByRecursion Gathering js
all_gather [] feeds e = tt
all_gather (j ∷ js) feeds e =
    let (f, more, one, others, are) = before_some (feed_of j) (feeds_of js) feeds e in
    let (name, gathers, x) = feed_found j f one in
    (ap is_some gathers, all_gather js more others)

each_gathers : (g : Given) (plans : List Plan) → AllByRecursion Gathering (map (judged_by g) plans) → list_all is_gather_plan plans ≡ true
each_gathers g [] all = refl
each_gathers g (plan ∷ plans) all = ap (λ b. b && list_all is_gather_plan plans) all.0 ∙ each_gathers g plans all.1

one_least : (r : Rule) → 1 ≤ rule_number r
one_least UnknownTable = omega arith
one_least Column = omega arith
one_least ColumnKind = omega arith
one_least JoinLocus = omega arith
one_least AggLocus = omega arith
one_least LimitLocus = omega arith
one_least OrderMissing = omega arith
one_least MotionAboveEntry = omega arith
one_least PartialUnmatched = omega arith
one_least NotAtEntry = omega arith
one_least (TooWide bytes) = omega arith
one_least (TooMany n) = omega arith

some_not_none : {A : Type 0} (x : A) → Some x ≡ None → ⊥
some_not_none x e = absurd cc

no_rule : (node : ℕ) (o : Option Rule) (later : Option PlanFault) → fault_or node o later ≡ None → o ≡ None
no_rule node None later e = refl
no_rule node (Some rule) later e = absurd (some_not_none _ e)

-- without a fault the table of the scan is there
scan_is_there : (g : Given) (name : List ℕ) → fault_of g (Gather None (Scan name)) ≡ None → is_missing (schema_named name g.schemas) ≡ true → ⊥
scan_is_there g name e missing =
    let p : Place = record { number = 1; above = Gather None (Scan name) ∷ []; node = Scan name } in
    some_not_none UnknownTable (sym (at_place g p UnknownTable missing (λ r _. one_least r)) ∙ no_rule 1 (first_rule (tests_at g p)) _ e)

no_refusal : (query : ℕ) (o : Option PlanFault) (later : Option Stop) → refusal_or query o later ≡ None → (o ≡ None) × (later ≡ None)
no_refusal query None later e = (refl, e)
no_refusal query (Some fault) later e = absurd (some_not_none _ e)

rest_none : (feed : Feed) (o : Option (List Feed)) → before (Some feed) o ≡ None → o ≡ None
rest_none feed None e = refl
rest_none feed (Some feeds) e = absurd (some_not_none _ e)

-- where no plan is refused and there are no feeds, some plan doesn't gather
none_gathers : (g : Given) (query : ℕ) (plans : List Plan) → refusal_from g query plans ≡ None → feeds_of (map (judged_by g) plans) ≡ None → list_all is_gather_plan plans ≡ false
none_gathers g query [] sound e = absurd (some_not_none _ e)
none_gathers g query (plan ∷ plans) sound e =
    by (is_gather_plan plan) refl (feed_of (judged_by g plan)) refl (no_refusal query (fault_of g (tree_in plan)) (refusal_from g (query + 1) plans) sound) (λ fine none. none_gathers g (query + 1) plans fine none)
  where
    by : (b : Bool) → is_gather_plan plan ≡ b → (o : Option Feed) → feed_of (judged_by g plan) ≡ o → (fault_of g (tree_in plan) ≡ None) × (refusal_from g (query + 1) plans ≡ None)
        → (refusal_from g (query + 1) plans ≡ None → feeds_of (map (judged_by g) plans) ≡ None → list_all is_gather_plan plans ≡ false) → (is_gather_plan plan && list_all is_gather_plan plans) ≡ false
    by false is o one fine go = ap (λ b. b && list_all is_gather_plan plans) is
    by true is None one fine go =
        let shape = gather_shape (tree_in plan) is in
        absurd (fed (judged_by g plan) shape.0 shape.1 (scan_is_there g shape.0 (ap (fault_of g) (sym shape.1) ∙ fine.0)) one)
    by true is (Some feed) one fine go =
        let rest : feeds_of (map (judged_by g) plans) ≡ None = rest_none feed (feeds_of (map (judged_by g) plans)) (sym (ap (λ o. before o (feeds_of (map (judged_by g) plans))) one) ∙ e) in
        ap (λ b. b && list_all is_gather_plan plans) is ∙ go fine.1 rest

-- ---- the end of judging

pub judged_ok : (d : Document) (feeds : List Feed) → refusal_from (given_in d) 1 d.queries ≡ None → feeds_of (judged_in d) ≡ Some feeds → judged_end d (refusal_from (given_in d) 1 d.queries) ≡ Ok d
judged_ok d feeds sound are =
    ap (judged_end d) sound ∙ ap (λ b. cond b (Ok d) (Err NotBuilt)) (each_gathers (given_in d) d.queries (all_gather (judged_in d) feeds are))

pub judged_not_built : (d : Document) → refusal_from (given_in d) 1 d.queries ≡ None → feeds_of (judged_in d) ≡ None → judged_end d (refusal_from (given_in d) 1 d.queries) ≡ Err NotBuilt
judged_not_built d sound none =
    ap (judged_end d) sound ∙ ap (λ b. cond b (Ok d) (Err NotBuilt)) (none_gathers (given_in d) 1 d.queries sound none)

pub judged_unsound : (d : Document) (stop : Stop) → refusal_from (given_in d) 1 d.queries ≡ Some stop → judged_end d (refusal_from (given_in d) 1 d.queries) ≡ Err stop
judged_unsound d stop is = ap (judged_end d) is

-- ---- what running asks

pub few_schemas : (g : Given) (plans : List Plan) → length g.schemas ≤ 64 → AllByRecursion (λ j. length j.schemas ≤ 64) (map (judged_by g) plans)
few_schemas g [] few = tt
few_schemas g (plan ∷ plans) few = (few, few_schemas g plans few)

runs_from : (g : Given) (wholes : List (List Line)) (loaded : List Spread) (plans : List Plan) → length g.schemas ≤ 64 → Fits g.segments g.schemas wholes loaded → AllByRecursion Gathering (map (judged_by g) plans)
    → AllByRecursion (Runs g.segments g.settings loaded) (map (judged_by g) plans)
runs_from g wholes loaded [] few fits all = tt
runs_from g wholes loaded (plan ∷ plans) few fits all =
    (record { gathers = all.0; tables = few; segments_are = refl; settings_are = refl; wholes = wholes; fits = fits }, runs_from g wholes loaded plans few fits all.1)

pub runs_all : (d : Document) (wholes : List (List Line)) (loaded : List Spread) (feeds : List Feed) → length (schemas_of d) ≤ 64 → Fits d.segments (schemas_of d) wholes loaded → feeds_of (judged_in d) ≡ Some feeds
    → AllByRecursion (Runs d.segments d.settings loaded) (judged_in d)
runs_all d wholes loaded feeds few fits are = runs_from (given_in d) wholes loaded d.queries few fits (all_gather (judged_in d) feeds are)

-- ---- bounds

few_from : (g : Given) (plans : List Plan) (feeds : List Feed) → 1 ≤ g.segments → g.segments ≤ 64 → feeds_of (map (judged_by g) plans) ≡ Some feeds → AllByRecursion (λ feed. feed.senders ≤ 64) feeds
few_from g [] [] some few e = tt
few_from g [] (f ∷ feeds) some few e = absurd cc
few_from g (plan ∷ plans) feeds some few e =
    let (f, more, one, others, are) = before_some (feed_of (judged_by g plan)) (feeds_of (map (judged_by g) plans)) feeds e in
    let (name, gathers, x) = feed_found (judged_by g plan) f one in
    let le : f.senders ≤ 64 = omega (arith, x.senders, few_senders g.segments x.schema.place some, few) in
    subst (AllByRecursion (λ feed. feed.senders ≤ 64)) (sym are) (le, few_from g plans more some few others)

over_few : (rounds : ℕ) (feeds : List Feed) (run : FirstRun) (o : Option FirstNo) → Ends rounds feeds run o → length run.rows ≤ length feeds
over_few rounds feeds run None ends = omega (arith, ends)
over_few rounds feeds run (Some refusal) ends = omega (arith, ends.0)

pub bounded : (d : Document) (ran : Ran) → IsRead d → feeds_of (judged_in d) ≡ Some ran.feeds.items → IsRunOf d.session d.segments 100000 d.settings (loaded_of d) (judged_in d) ran.run → IsBounded ran
bounded d ran read are run =
    let mine = length-feeds (judged_in d) run.feeds run.are in
    let given = length-feeds (judged_in d) ran.feeds.items are in
    let queries = length-map d.queries (judged_by (given_in d)) in
    record {
      count = omega (arith, over_few 100000 run.feeds ran.run ran.run.fault run.is_run.ends, mine, given);
      few = omega (arith, given, queries, read.limits.query_count);
      senders = few_from (given_in d) d.queries ran.feeds.items read.limits.least_segments read.limits.greatest_segments are;
    }

pub schemas_few : (d : Document) → IsRead d → length (schemas_of d) ≤ 64
schemas_few d read = omega (arith, length-map d.tables (λ (table : Table). table.schema), read.limits.table_count)

pub judged_few : (d : Document) → IsRead d → length (judged_in d) ≤ 64
judged_few d read = omega (arith, length-map d.queries (judged_by (given_in d)), read.limits.query_count)
