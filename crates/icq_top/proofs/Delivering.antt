-- A run of a document delivers it.
use Rattle.std.proofs.Common.{◌≡◌, ℕ, ◌+◌, ◌≤◌, pos, List, [], ◌∷◌, ◌++◌, length, map, Some, refl, ap, sym, ◌∙◌, subst, arith}
use Rattle.std.specs.List.{range_with_len, flat_map, slice_get}
use Rattle.std.specs.List.Sorted.{IsPermutation}
use Rattle.std.proofs.lemmas.List.{length-map, append-nil}
use Rattle.std.proofs.lemmas.List.Sorted.{IsPermutation-trans, IsPermutation-refl}
use Rattle.std.proofs.lemmas.Option.{same_Some}
use Rattle.ic_row.specs.declared.value.Value.{Value}
use Rattle.ic_chunk.specs.Assembly.{together}
use Rattle.pl_tree.specs.declared.node.Plan.{Plan}
use Rattle.pl_tree.specs.declared.schema.Schema.{Schema}
use Rattle.pl_tree.specs.declared.schema.Placing.{Placing}
use Rattle.pl_tree.specs.declared.schema.Placing.TheVariants.{Keyed, Dealt, Everywhere}
use Rattle.pl_tree.specs.Trees.{tree_in}
use Rattle.pl_read.specs.declared.table.Table.{Table}
use Rattle.pl_read.specs.declared.document.Document.{Document}
use Rattle.pl_ops.specs.Placed.{rows_at}
use Rattle.tb_load.specs.Kept.{loaded_of}
use Rattle.tb_load.specs.Standing.{over_all, IsWhole}
use Rattle.tb_load.proofs.Looking.{came_from}
use Rattle.tb_load.proofs.Loaded.{once}
use Rattle.gd_sim.specs.declared.feed.Feed.{Feed}
use Rattle.gd_sim.specs.Feeding.{part_of, parts_of}
use Rattle.gd_sim.specs.Plans.{gathered, senders_of, feed_of, feeds_of}
use Rattle.gd_sim.specs.Tallying.{AreTallies}
use Rattle.gd_sim.proofs.Feeds.{feed_at, feed_found}
use Rattle.icq_top.specs.declared.print.Answer.{Answer}
use Rattle.icq_top.specs.declared.running.Ran.{Ran}
use Rattle.icq_top.specs.Judging.{judged_by}
use Rattle.icq_top.specs.Print.{rows_in, tallies_in}
use Rattle.icq_top.specs.Outcome.{given_in, judged_in, Delivers}
use Rattle.icq_top.specs.Work.{IsRanOf, AreAnswers}

-- ---- the rows of a table

together-map : {A : Type 0} (f : ℕ → List A) (ns : List ℕ) → together (map f ns) ≡ flat_map f ns
together-map f [] = refl
together-map f (n ∷ ns) = ap (λ l. f n ++ l) (together-map f ns)

-- what the senders of a table have, together, are its rows
all_parts : (d : Document) (n : ℕ) (table : Table) (feed : Feed) → 1 ≤ d.segments → feed.table ≡ n → feed.senders ≡ senders_of d.segments table.schema.place → IsWhole table.schema.place d (loaded_of d) n table.rows
    → IsPermutation table.rows (together (parts_of (loaded_of d) feed))
all_parts d n table feed some here senders whole = by table.schema.place refl whole
  where
    apart : feed.senders ≡ d.segments → IsPermutation table.rows (over_all d.segments (loaded_of d) n) → IsPermutation table.rows (together (parts_of (loaded_of d) feed))
    apart all perm =
        let parts : together (parts_of (loaded_of d) feed) ≡ over_all d.segments (loaded_of d) n =
        together-map (part_of (loaded_of d) feed) (range_with_len 0 feed.senders)
        ∙ ap (λ k. flat_map (part_of (loaded_of d) feed) (range_with_len 0 k)) all
        ∙ ap (λ t. flat_map (λ s. rows_at (loaded_of d) t (pos s)) (range_with_len 0 d.segments)) here in
        subst (IsPermutation table.rows) (sym parts) perm

    by : (place : Placing) → table.schema.place ≡ place → IsWhole place d (loaded_of d) n table.rows → IsPermutation table.rows (together (parts_of (loaded_of d) feed))
    by (Keyed columns) is w = apart (senders ∙ ap (senders_of d.segments) is) (w (omega (arith, some)))
    by Dealt is w = apart (senders ∙ ap (senders_of d.segments) is) (w (omega (arith, some)))
    by Everywhere is w =
        let one : feed.senders ≡ 1 = senders ∙ ap (senders_of d.segments) is in
        let rows : rows_at (loaded_of d) feed.table (pos 0) ≡ table.rows = ap (λ t. rows_at (loaded_of d) t (pos 0)) here ∙ w 0 (omega (arith, some)) in
        let parts : together (parts_of (loaded_of d) feed) ≡ table.rows =
        ap (λ k. together (map (part_of (loaded_of d) feed) (range_with_len 0 k))) one ∙ append-nil (rows_at (loaded_of d) feed.table (pos 0)) ∙ rows in
        subst (IsPermutation table.rows) (sym parts) (IsPermutation-refl table.rows)

-- ---- one query

-- the table that the query of a place gathers
record Gathers (d : Document) (place : ℕ) (feed : Feed) : Type 0 where
  plan : Plan
  here : slice_get d.queries place ≡ Some plan
  table : Table
  there : slice_get d.tables feed.table ≡ Some table
  gathers : gathered (tree_in plan) ≡ Some table.schema.name
  senders : feed.senders ≡ senders_of d.segments table.schema.place

gathers_at : (d : Document) (feeds : List Feed) (place : ℕ) (feed : Feed) → feeds_of (judged_in d) ≡ Some feeds → slice_get feeds place ≡ Some feed → Gathers d place feed
gathers_at d feeds place feed are at =
    let (j, there, one) = feed_at (judged_in d) feeds place feed are at in
    let (plan, here, same) = came_from (judged_by (given_in d)) d.queries place j there in
    let of_plan : feed_of (judged_by (given_in d) plan) ≡ Some feed = ap feed_of same ∙ one in
    let (name, gathers, x) = feed_found (judged_by (given_in d) plan) feed of_plan in
    let (table, stands, is) = came_from (λ (table : Table). table.schema) d.tables x.place x.schema x.there in
    let number : x.place ≡ feed.table = omega (arith, x.table) in
    record {
      plan = plan;
      here = here;
      table = table;
      there = ap (λ k. slice_get d.tables k) (sym number) ∙ stands;
      gathers = gathers ∙ ap Some (sym x.named ∙ ap (λ (s : Schema). s.name) (sym is));
      senders = x.senders ∙ ap (λ (s : Schema). senders_of d.segments s.place) (sym is);
    }

-- ---- all queries

get_map : {A B : Type 0} (f : A → B) (xs : List A) (k : ℕ) (y : B) → slice_get (map f xs) k ≡ Some y → (x : A) × (slice_get xs k ≡ Some x) × (f x ≡ y)
get_map f xs k y is = came_from f xs k y is

pub delivers : (d : Document) (ran : Ran) (answers : List Answer) → IsRanOf d ran → AreAnswers ran answers → Delivers d ran.run (map tallies_in answers)
delivers d ran answers of_d are = record {
  is_run = of_d.is_run;
  count = length-map answers tallies_in ∙ sym (length-map answers rows_in) ∙ ap length are.rows;
  answers = λ place rows ts rows_there ts_there.
      let (feed, at, answered) = answer_at place rows rows_there in
      let g = gathers_at d of_d.is_run.feeds place feed of_d.is_run.are at in
      let (a, a_there, a_is) = get_map tallies_in answers place ts ts_there in
      let same_feeds : of_d.is_run.feeds ≡ ran.feeds.items = same_Some _ _ (sym of_d.is_run.are ∙ of_d.feeds) in
      let told = are.told place a a_there feed (ap (λ l. slice_get l place) (sym same_feeds) ∙ at) in
      record {
        plan = g.plan;
        here = g.here;
        number = feed.table;
        table = g.table;
        there = g.there;
        gathers = g.gathers;
        answer = IsPermutation-trans _ _ _ (all_parts d feed.table g.table feed of_d.read.limits.least_segments refl g.senders (once d feed.table g.table g.there)) answered;
        told = subst (λ l. AreTallies d.session (place + 1) (senders_of d.segments g.table.schema.place) ran.run.histories l) a_is
            (subst (λ n. AreTallies d.session (place + 1) n ran.run.histories a.tallies) g.senders
            (subst (λ s. AreTallies s (place + 1) feed.senders ran.run.histories a.tallies) of_d.session told));
      };
}
  where
    answer_at : (place : ℕ) (rows : List (List Value)) → slice_get ran.run.rows place ≡ Some rows
        → (feed : Feed) × (slice_get of_d.is_run.feeds place ≡ Some feed) × IsPermutation (together (parts_of (loaded_of d) feed)) rows
    answer_at place rows there = let x = of_d.is_run.is_run.answers place rows there in (x.feed, x.here, x.answered.answer)
