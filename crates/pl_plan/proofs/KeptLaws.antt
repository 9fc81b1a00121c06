-- What is kept beside a sound plan.
use Rattle.std.proofs.Common.{◌≡◌, ◌≢◌, ℕ, ℤ, suc, zero, ◌+◌, ◌-◌, ◌*◌, ◌<◌, ◌≤◌, List, [], ◌∷◌, ◌++◌, length, map, get_or, drop, refl, sym, ap, subst, ◌∙◌, append-nil, arith}
use Rattle.std.specs.Prelude.{Option, Some, None, Result, Ok, Err, slice_get, flat_map, reverse}
use Rattle.std.specs.Option.{option_map}
use Rattle.std.proofs.lemmas.List.{length-map}
use Rattle.std.proofs.lemmas.Grind.{flat_map-append}
use Rattle.ic_base.specs.declared.settings.Settings.{Settings}
use Rattle.ic_base.specs.declared.keys.ConnEnd.{ConnEnd}
use Rattle.ic_base.specs.Settings.{AreChecked, default_settings}
use Rattle.pl_tree.specs.declared.node.Plan.{Plan}
use Rattle.pl_tree.specs.declared.schema.Schema.{Schema}
use Rattle.pl_tree.specs.declared.schema.Locus.{Locus}
use Rattle.pl_tree.specs.Trees.{Tree, tree_in, nodes_in, motions_in, preorder}
use Rattle.pl_tree.specs.Sizes.{IsPlan, AreTables}
use Rattle.pl_tree.specs.Loci.{locus_of}
use Rattle.pl_plan.specs.declared.rule.Rule.{Rule}
use Rattle.pl_plan.specs.declared.rule.PlanFault.{PlanFault}
use Rattle.pl_plan.specs.declared.rule.PlanNo.{PlanNo}
use Rattle.pl_plan.specs.declared.rule.PlanNo.TheVariants.{Fault, Memory}
use Rattle.pl_plan.specs.declared.facts.Facts.{Facts}
use Rattle.pl_plan.specs.declared.layout.Gang.TheVariants.{Dispatcher}
use Rattle.pl_plan.specs.declared.layout.MotionRow.{MotionRow}
use Rattle.pl_plan.specs.declared.sound.Judged.{Judged}
use Rattle.pl_plan.specs.declared.sound.Notes.{Notes}
use Rattle.pl_plan.specs.declared.ends.Asked.{Asked}
use Rattle.pl_plan.specs.Above.{nothing}
use Rattle.pl_plan.specs.Motions.{Motion, members_in, ring_room, workers, motions_in_plan, motions_of, dispatcher, slices_of, slices_from, gang_of, links_of, link_of, links_in}
use Rattle.pl_plan.specs.Rules.{Given}
use Rattle.pl_plan.specs.Soundness.{IsSound, IsFirstFault}
use Rattle.pl_plan.specs.Walking.{fault_at, walked}
use Rattle.pl_plan.specs.Layout.{members, motion_in, nothing_laid, laid}
use Rattle.pl_plan.specs.Limits.{limit_rule, room_of, workers_of, senders_in}
use Rattle.pl_plan.specs.Kept.{given_with, judged_with, IsJudged, IsKept, Refuses}
use Rattle.pl_plan.specs.Noting.{all_loci, noted, IsNoted, Judges, Limits}
use Rattle.pl_plan.specs.Ends.{ends_at, ends_in}
use Rattle.pl_plan.specs.Asking as asking
use Rattle.pl_plan.proofs.WalkLaws.{loci_below, facts_of, Whole, Outcome, outcome}
use Rattle.pl_plan.proofs.LayoutLaws.{So, laid_so, laid_count, motions_most, motions_long, slices_long, preorder_long}
use Rattle.pl_plan.proofs.SumLemmas.{gangs_sum}
use Rattle.pl_plan.proofs.FinalLaws.{first_fault, sound, limit_fault, from_the_first}

-- ---- judging

whole : (g : Given) (tree : Tree) (f : Facts) → walked g.schemas nothing 0 tree ≡ Ok f → Whole g [] 0 tree f
whole g tree f e = subst (Outcome g [] 0 tree) e (outcome g [] 0 tree)

pub walk_fault : (g : Given) (tree : Tree) (fault : PlanFault) → walked g.schemas nothing 0 tree ≡ Err fault → IsFirstFault g tree fault
walk_fault g tree fault e = first_fault g tree fault (subst (Outcome g [] 0 tree) e (outcome g [] 0 tree))

pub notes_few : (s : List Schema) (tree : Tree) (notes : Notes) → IsPlan tree → IsNoted s tree notes → length notes.motions ≤ 64
notes_few s tree notes p n = omega (arith, ap (λ (x : Notes). length x.motions) n.are, laid_count (all_loci n.facts) 0 Dispatcher tree nothing_laid, motions_most tree, p.nodes)

loci_are : (s : List Schema) (tree : Tree) (notes : Notes) → IsNoted s tree notes → notes.loci ≡ map (locus_of s) (preorder tree)
loci_are s tree notes n =
    let g : Given = record { schemas = s; segments = 1; settings = default_settings } in
    ap (λ (x : Notes). x.loci) n.are ∙ ap all_loci (whole g tree n.facts n.walk).is ∙ from_the_first s tree

laid_all : (s : List Schema) (segments : ℕ) (tree : Tree) (notes : Notes) → IsNoted s tree notes → So segments nothing_laid (laid notes.loci 0 Dispatcher tree nothing_laid) (slices_from 0 1 tree) (motions_of s segments 0 dispatcher 1 tree)
laid_all s segments tree notes n = laid_so s segments notes.loci 0 Dispatcher tree nothing_laid [] (loci_are s tree notes n ∙ sym (append-nil (map (locus_of s) (preorder tree))))

same_notes : (s : List Schema) (tree : Tree) (notes : Notes) → IsNoted s tree notes → notes ≡ noted notes.loci tree
same_notes s tree notes n = n.are ∙ ap (λ l. noted l tree) (sym (ap (λ (x : Notes). x.loci) n.are))

slices_are : (s : List Schema) (tree : Tree) (notes : Notes) → IsNoted s tree notes → notes.slices ≡ slices_of tree
slices_are s tree notes n = ap (λ (x : Notes). x.slices) (same_notes s tree notes n) ∙ (laid_all s 1 tree notes n).slices_are

motions_are : (s : List Schema) (segments : ℕ) (tree : Tree) (notes : Notes) → IsNoted s tree notes → map (motion_in segments) notes.motions ≡ motions_in_plan s segments tree
motions_are s segments tree notes n = ap (λ (x : Notes). map (motion_in segments) x.motions) (same_notes s tree notes n) ∙ (laid_all s segments tree notes n).motions_are

room_is : (s : List Schema) (segments : ℕ) (settings : Settings) (tree : Tree) (notes : Notes) → IsNoted s tree notes → room_of segments settings notes.motions ≡ ring_room s segments settings tree
room_is s segments settings tree notes n = ap (λ ms. length (flat_map links_of ms) * (settings.receive_depth + settings.send_depth + 1) * settings.packet) (motions_are s segments tree notes n)

workers_are : (s : List Schema) (segments : ℕ) (tree : Tree) (notes : Notes) → IsNoted s tree notes → workers_of segments notes.motions ≡ workers s segments tree
workers_are s segments tree notes n = ap (λ k. 1 + k + segments + 1) (sym (gangs_sum segments notes.motions) ∙ ap (λ ms. members_in (map (λ (m : Motion). m.senders) ms)) (motions_are s segments tree notes n))

limit_is : (s : List Schema) (segments : ℕ) (settings : Settings) (tree : Tree) (notes : Notes) → IsNoted s tree notes → limit_rule (room_of segments settings notes.motions) (workers_of segments notes.motions) ≡ limit_rule (ring_room s segments settings tree) (workers s segments tree)
limit_is s segments settings tree notes n =
    ap (λ b. limit_rule b (workers_of segments notes.motions)) (room_is s segments settings tree notes n) ∙ ap (limit_rule (ring_room s segments settings tree)) (workers_are s segments tree notes n)

pub limits_fault : (s : List Schema) (segments : ℕ) (settings : Settings) (tree : Tree) (notes : Notes) (r : Rule) → IsNoted s tree notes → limit_rule (room_of segments settings notes.motions) (workers_of segments notes.motions) ≡ Some r → IsFirstFault (given_with s segments settings) tree (fault_at 0 r)
limits_fault s segments settings tree notes r n h =
    limit_fault (given_with s segments settings) tree n.facts r (whole (given_with s segments settings) tree n.facts n.walk) (sym (limit_is s segments settings tree notes n) ∙ h)

pub plan_sound : (s : List Schema) (segments : ℕ) (settings : Settings) (tree : Tree) (notes : Notes) → IsNoted s tree notes → limit_rule (room_of segments settings notes.motions) (workers_of segments notes.motions) ≡ None → IsSound (given_with s segments settings) tree
plan_sound s segments settings tree notes n h =
    sound (given_with s segments settings) tree n.facts (whole (given_with s segments settings) tree n.facts n.walk) (sym (limit_is s segments settings tree notes n) ∙ h)

pub kept : (plan : Plan) (s : List Schema) (segments : ℕ) (settings : Settings) (notes : Notes) → IsPlan (tree_in plan) → AreTables s → 1 ≤ segments → segments ≤ 64 → AreChecked settings → IsNoted s (tree_in plan) notes → limit_rule (room_of segments settings notes.motions) (workers_of segments notes.motions) ≡ None → IsKept (judged_with plan s segments settings) notes.loci notes.slices notes.motions
kept plan s segments settings notes p t least most c n h =
    record { judged = record { plan = p; tables = t; least_segments = least; most_segments = most; settings = c; sound = plan_sound s segments settings (tree_in plan) notes n h }; loci_are = loci_are s (tree_in plan) notes n; slices_are = slices_are s (tree_in plan) notes n; motions_are = motions_are s segments (tree_in plan) notes n }

-- ---- lookups

none_past : {X : Type 0} (xs : List X) (i : ℕ) → slice_get xs i ≡ None → length xs ≤ i
none_past [] i h = omega arith
none_past (x ∷ xs) zero h = absurd cc
none_past (x ∷ xs) (suc i) h = omega (arith, none_past xs i h)

pub motions_count : (j : Judged) (loci : List Locus) (slices : List ℕ) (rows : List MotionRow) → IsKept j loci slices rows → length rows ≡ motions_in (tree_in j.plan)
motions_count j loci slices rows k = sym (length-map rows (motion_in j.segments)) ∙ ap length k.motions_are ∙ motions_long j.schemas j.segments 0 dispatcher 1 (tree_in j.plan)

pub slices_count : (j : Judged) (loci : List Locus) (slices : List ℕ) (rows : List MotionRow) → IsKept j loci slices rows → length slices ≡ nodes_in (tree_in j.plan)
slices_count j loci slices rows k = ap length k.slices_are ∙ slices_long 0 1 (tree_in j.plan)

pub loci_count : (j : Judged) (loci : List Locus) (slices : List ℕ) (rows : List MotionRow) → IsKept j loci slices rows → length loci ≡ nodes_in (tree_in j.plan)
loci_count j loci slices rows k = ap length k.loci_are ∙ length-map (preorder (tree_in j.plan)) (locus_of j.schemas) ∙ preorder_long (tree_in j.plan)

pub few_motions : (j : Judged) (loci : List Locus) (slices : List ℕ) (rows : List MotionRow) → IsKept j loci slices rows → length rows ≤ 64
few_motions j loci slices rows k = omega (arith, motions_count j loci slices rows k, motions_most (tree_in j.plan), k.judged.plan.nodes)

got : (segments : ℕ) (rows : List MotionRow) (i : ℕ) (row : MotionRow) → slice_get rows i ≡ Some row → get_or (map (λ (m : Motion). m.senders) (map (motion_in segments) rows)) i [] ≡ members segments row.senders
got segments [] i row h = absurd cc
got segments (x ∷ rows) zero row h = ap (λ (r : Option MotionRow). senders_or segments r) h
  where
    senders_or : ℕ → Option MotionRow → List ℤ
    senders_or segments None = []
    senders_or segments (Some r) = members segments r.senders
got segments (x ∷ rows) (suc i) row h = got segments rows i row h

pub gang_is : (j : Judged) (loci : List Locus) (slices : List ℕ) (rows : List MotionRow) (slice : ℕ) (row : MotionRow) → IsKept j loci slices rows → slice ≢ 0 → slice_get rows (slice - 1) ≡ Some row → members j.segments row.senders ≡ gang_of j.schemas j.segments (tree_in j.plan) slice
gang_is j loci slices rows zero row k other h = absurd (other refl)
gang_is j loci slices rows (suc i) row k other h =
    let e : slice_get rows i ≡ Some row = subst (λ n. slice_get rows n ≡ Some row) (omega arith) h in
    sym (got j.segments rows i row e) ∙ ap (λ ms. get_or (map (λ (m : Motion). m.senders) ms) i []) k.motions_are

pub gang_there : (j : Judged) (loci : List Locus) (slices : List ℕ) (rows : List MotionRow) (slice : ℕ) → IsKept j loci slices rows → slice ≢ 0 → slice < suc (motions_in (tree_in j.plan)) → slice_get rows (slice - 1) ≡ None → ⊥
gang_there j loci slices rows zero k other lt h = absurd (other refl)
gang_there j loci slices rows (suc i) k other lt h = absurd (omega (arith, none_past rows (suc i - 1) h, motions_count j loci slices rows k, lt))

pub locus_there : (j : Judged) (loci : List Locus) (slices : List ℕ) (rows : List MotionRow) (node : ℕ) → IsKept j loci slices rows → node < nodes_in (tree_in j.plan) → slice_get loci node ≡ None → ⊥
locus_there j loci slices rows node k lt h = absurd (omega (arith, none_past loci node h, loci_count j loci slices rows k, lt))

pub slice_there : (j : Judged) (loci : List Locus) (slices : List ℕ) (rows : List MotionRow) (node : ℕ) → IsKept j loci slices rows → node < nodes_in (tree_in j.plan) → slice_get slices node ≡ None → ⊥
slice_there j loci slices rows node k lt h = absurd (omega (arith, none_past slices node h, slices_count j loci slices rows k, lt))

-- ---- ends

mapped : (asked : Asked) (row : MotionRow) (segments : ℕ) (from : ℤ) (receivers : List ℤ) → flat_map (ends_at asked.session asked.query asked.at) (map (link_of (motion_in segments row) from) receivers) ≡ flat_map (asking.ends_of asked) (map (asking.between row from) receivers)
mapped asked row segments from [] = refl
mapped asked row segments from (to ∷ receivers) = ap (λ xs. asking.ends_of asked (asking.between row from to) ++ xs) (mapped asked row segments from receivers)

sent : (asked : Asked) (row : MotionRow) (segments : ℕ) (receivers senders : List ℤ) → flat_map (ends_at asked.session asked.query asked.at) (flat_map (λ from. map (link_of (motion_in segments row) from) receivers) senders) ≡ flat_map (asking.sender_ends asked row receivers) senders
sent asked row segments receivers [] = refl
sent asked row segments receivers (from ∷ senders) =
    flat_map-append (ends_at asked.session asked.query asked.at) (map (link_of (motion_in segments row) from) receivers) (flat_map (λ f. map (link_of (motion_in segments row) f) receivers) senders)
    ∙ ap (λ xs. xs ++ flat_map (ends_at asked.session asked.query asked.at) (flat_map (λ f. map (link_of (motion_in segments row) f) receivers) senders)) (mapped asked row segments from receivers)
    ∙ ap (λ ys. asking.sender_ends asked row receivers from ++ ys) (sent asked row segments receivers senders)

noted_ends : (asked : Asked) (segments : ℕ) (rows : List MotionRow) → flat_map (ends_at asked.session asked.query asked.at) (flat_map links_of (map (motion_in segments) rows)) ≡ flat_map (asking.motion_ends segments asked) rows
noted_ends asked segments [] = refl
noted_ends asked segments (row ∷ rows) =
    flat_map-append (ends_at asked.session asked.query asked.at) (links_of (motion_in segments row)) (flat_map links_of (map (motion_in segments) rows))
    ∙ ap (λ xs. xs ++ flat_map (ends_at asked.session asked.query asked.at) (flat_map links_of (map (motion_in segments) rows))) (sent asked row segments (members segments row.receivers) (members segments row.senders))
    ∙ ap (λ ys. asking.motion_ends segments asked row ++ ys) (noted_ends asked segments rows)

pub ends_are : (j : Judged) (loci : List Locus) (slices : List ℕ) (rows : List MotionRow) (asked : Asked) → IsKept j loci slices rows → flat_map (asking.motion_ends j.segments asked) rows ≡ ends_in j.schemas j.segments (tree_in j.plan) asked.session asked.query asked.at
ends_are j loci slices rows asked k = sym (noted_ends asked j.segments rows) ∙ ap (λ ms. flat_map (ends_at asked.session asked.query asked.at) (flat_map links_of ms)) k.motions_are

-- ---- refusals

pub refuses_walk : (g : Given) (tree : Tree) (e : PlanNo) → Judges g.schemas tree (Err e) → Refuses g tree e
refuses_walk g tree (Fault p) h = walk_fault g tree p h
refuses_walk g tree Memory h = tt

pub refuses_limits : (s : List Schema) (segments : ℕ) (settings : Settings) (tree : Tree) (notes : Notes) (e : PlanNo) → IsNoted s tree notes → Limits (limit_rule (room_of segments settings notes.motions) (workers_of segments notes.motions)) (Err e) → Refuses (given_with s segments settings) tree e
refuses_limits s segments settings tree notes (Fault p) n h = subst (IsFirstFault (given_with s segments settings) tree) (sym h.2) (limits_fault s segments settings tree notes h.0 n h.1)
refuses_limits s segments settings tree notes Memory n h = absurd h
