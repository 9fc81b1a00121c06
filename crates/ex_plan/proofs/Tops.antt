-- The top of each slice stands in its plan.
use Rattle.std.proofs.Common.{◌&&◌, ◌≡◌, ℕ, zero, suc, ◌+◌, ◌-◌, ◌<◌, ◌≤◌, ℤ, pos, List, [], ◌∷◌, ◌++◌, length, refl, sym, ap, subst, ◌∙◌, arith, rules}
use Rattle.std.specs.Prelude.{Option, Some, None, slice_get, Contains, IsSome, map}
use Rattle.pl_tree.specs.declared.schema.Schema.{Schema}
use Rattle.pl_tree.specs.declared.node.Plan.{Plan}
use Rattle.pl_tree.specs.Trees.{Tree, Scan, Filter, Project, Limit, Sort, Join, Single, Partial, Final, Gather, Redistribute, Broadcast, tree_of, tree_in, nodes_in, motions_in, preorder}
use Rattle.pl_tree.specs.Loci.{locus_of}
use Rattle.pl_tree.specs.Partials.{Groups, partial_under}
use Rattle.pl_plan.specs.declared.sound.Judged.{Judged}
use Rattle.pl_plan.specs.Kept.{IsJudged, given_of}
use Rattle.pl_plan.specs.Motions.{Motion, dispatcher, gang_at, motions_of, motions_in_plan, slices_in, links_of, links_in}
use Rattle.pl_plan.proofs.LayoutLaws.{motions_most}
use Rattle.std.specs.Ordering.{int_eq}
use Rattle.pl_ops.specs.Routing.{route_of, routed}
use Rattle.pl_mean.specs.Parts.{routed_to}
use Rattle.pl_ops.specs.declared.loaded.Spread.{Spread}
use Rattle.pl_parts.proofs.Well.{IsWell, is_well}
use Rattle.pl_parts.proofs.Members.{In, In-left, In-right, In-from_flat, All-in, filter_none}
use Rattle.pl_runs.specs.Slices.{below_motion, top_of, motion_node, route_at, is_sent_by, sending}
use Rattle.pl_runs.specs.Logs.{ends_of}
use Rattle.ic_motion.specs.Hearing.{Ascends}
use Rattle.ic_motion.specs.Sending.{route_by, SendsToEach}
use Rattle.ic_motion.specs.Pulling.{Listens}
use Rattle.ex_tree.specs.Parts.{Source, Part, Has}
use Rattle.ex_tree.specs.Plans.{part_of}
use Rattle.ex_tree.specs.Running.{State, AreHeard}
use Rattle.ex_plan.specs.declared.worker.WorkerId.{WorkerId}
use Rattle.ex_plan.specs.Spots.{Spot, spots, spot_in, top_number, slice_above, number_below, slice_over, TopsAreNumbered}
use Rattle.ex_plan.specs.Workers.{site_of, place_of, worker_of, gang_in, part_for, AreUnheard, Starts, Serves}
use Rattle.ex_plan.specs.Sending.{kind_of, to_of, AreReceivers, RootSendsNothing}
use Rattle.ex_plan.specs.Fitting.{HavePartials, IsKnown}
use Rattle.ex_plan.proofs.Standing.{StandsIn, root_stands}
use Rattle.ex_plan.proofs.Spotted.{Spotted, wider, spotted, spots_long}
use Rattle.ex_plan.proofs.Numbers.{first_is, numbered, nodes_are}
use Rattle.ex_plan.proofs.Sources.{sourced, within}
use Rattle.ex_plan.proofs.Known.{gang_ascends, gang_some, all_known}
use Rattle.ex_plan.proofs.Ears.{heard_by}
use Rattle.ex_plan.proofs.Ends.{contains_in, from_links, listens, sends}
use Rattle.ex_plan.proofs.Receiving.{sent_to, faces, differ}
use Rattle.ex_plan.proofs.Hearing.{link_heard}
use Rattle.ex_plan.proofs.Spread.{all_hear, routes_by}
use Rattle.ex_tree.proofs.Planned.{of_plan}

get_there : {A : Type 0} (xs : List A) (k : ℕ) → k < length xs → (x : A) × (slice_get xs k ≡ Some x)
get_there [] k lt = absurd (omega (arith, lt))
get_there (x ∷ xs) zero lt = (x, refl)
get_there (x ∷ xs) (suc k) lt = get_there xs k (omega (arith, lt))

pub spot_is : (tree : Tree) (m : ℕ) → 1 ≤ m → spot_in tree m ≡ slice_get (spots 0 0 1 tree) (m - 1)
spot_is tree zero least = absurd (omega (arith, least))
spot_is tree (suc m) least = ap (slice_get (spots 0 0 1 tree)) (omega arith)

there : (o : Option Groups) (x : Groups) → o ≡ Some x → IsSome o
there o x e = search (rules, e)

-- a sound plan has no final without its partial
have_partials : (s : List Schema) (p : Tree) → IsWell s p → HavePartials p
have_partials s (Scan t) h = tt
have_partials s (Filter e c) h = have_partials s c h.0
have_partials s (Project cols c) h = have_partials s c h.0
have_partials s (Limit n c) h = have_partials s c h.0
have_partials s (Sort ks c) h = have_partials s c h.0
have_partials s (Join on l r) h = (have_partials s l h.0, have_partials s r h.1)
have_partials s (Single g cs c) h = have_partials s c h.0
have_partials s (Partial g cs c) h = have_partials s c h.0
have_partials s (Final c) h = (there (partial_under c) h.1.groups h.1.under, have_partials s c h.0)
have_partials s (Gather o c) h = have_partials s c h.0
have_partials s (Redistribute ks c) h = have_partials s c h.0
have_partials s (Broadcast c) h = have_partials s c h.0

pub plan_partials : (j : Judged) → IsJudged j → HavePartials (tree_in j.plan)
plan_partials j judged = have_partials j.schemas (tree_in j.plan) (is_well (given_of j) (tree_in j.plan) judged.sound)

pub route_is : (t : Tree) → route_by (kind_of t) ≡ route_of t
route_is (Scan t) = refl
route_is (Filter e c) = refl
route_is (Project cols c) = refl
route_is (Limit k c) = refl
route_is (Sort ks c) = refl
route_is (Join on l r) = refl
route_is (Single g cs c) = refl
route_is (Partial g cs c) = refl
route_is (Final c) = refl
route_is (Gather o c) = refl
route_is (Redistribute ks c) = refl
route_is (Broadcast c) = refl

module _ (j : Judged) (judged : IsJudged j) where
  -- a motion of the plan that was found
  pub in_plan : (m : ℕ) (spot : Spot) → 1 ≤ m → slice_get (spots 0 0 1 (tree_in j.plan)) (m - 1) ≡ Some spot → Spotted j.schemas j.segments (tree_in j.plan) 64 65 m spot
  in_plan m spot least e =
      let tree = tree_in j.plan in
      let h : Spotted j.schemas j.segments (tree_in j.plan) (0 + nodes_in (tree_in j.plan)) (1 + motions_in (tree_in j.plan)) m spot =
      spotted j.schemas j.segments (tree_in j.plan) 0 0 1 dispatcher (tree_in j.plan) (m - 1) m spot (omega arith) judged.plan.sizes (plan_partials j judged) (root_stands j.schemas j.segments (tree_in j.plan)) (omega (arith, least)) e in
      wider j.schemas j.segments (tree_in j.plan) (0 + nodes_in (tree_in j.plan)) 64 (1 + motions_in (tree_in j.plan)) 65 m spot (omega (arith, judged.plan.nodes)) (omega (arith, judged.plan.nodes, motions_most (tree_in j.plan))) h

  -- each slice but the first has one
  pub found_there : (m : ℕ) → 1 ≤ m → m < slices_in (tree_in j.plan) → slice_get (spots 0 0 1 (tree_in j.plan)) (m - 1) ≡ None → ⊥
  found_there m least most e =
      let k = get_there (spots 0 0 1 (tree_in j.plan)) (m - 1) (omega (arith, spots_long 0 0 1 (tree_in j.plan), least, most)) in
      other k.0 k.1
    where
      other : (x : Spot) → slice_get (spots 0 0 1 (tree_in j.plan)) (m - 1) ≡ Some x → ⊥
      other x f = cc

  -- the top of a slice stands in the slice
  top_stands : (slice : ℕ) → slice < slices_in (tree_in j.plan) → (gang : List ℤ) × StandsIn j.schemas j.segments (tree_in j.plan) slice gang (suc slice) (top_of (tree_in j.plan) slice)
  top_stands zero most = (dispatcher, root_stands j.schemas j.segments (tree_in j.plan))
  top_stands (suc m) most =
      let tree = tree_in j.plan in
      let k = get_there (spots 0 0 1 (tree_in j.plan)) m (omega (arith, spots_long 0 0 1 (tree_in j.plan), most)) in
      let h = in_plan (suc m) k.0 (omega arith) (ap (slice_get (spots 0 0 1 (tree_in j.plan))) (omega arith) ∙ k.1) in
      let gang : List ℤ = gang_at j.segments (locus_of j.schemas (below_motion (Some k.0.node))) in
      (gang, subst (λ t. StandsIn j.schemas j.segments (tree_in j.plan) (suc m) gang (suc (suc m)) t) (sym h.top_is) (subst (λ n. StandsIn j.schemas j.segments (tree_in j.plan) (suc m) gang n (below_motion (Some k.0.node))) (omega arith) h.stands))

  in_block : (m : Motion) (before ms after all : List Motion) → all ≡ before ++ (ms ++ after) → In m ms → In m all
  in_block m before ms after all e i = subst (In m) (sym e) (In-right m before (ms ++ after) (In-left m ms after i))

  -- a worker of the slice hears each motion of its part
  pub part_heard : (tables : List Spread) (id : WorkerId) → id.slice < slices_in (tree_in j.plan) → Contains (gang_in j id.slice) id.at → (source : Source) → Has (part_for j tables id) source
      → Listens (ends_of (worker_of j tables id.slice id.at) id.session id.query) source.end.motion source.senders
  part_heard tables id most there source has =
      let tree = tree_in j.plan in
      let top = top_stands id.slice most in
      let h = sourced (site_of j tables) (place_of id) id.slice top.0 (top_number (tree_in j.plan) id.slice) (suc id.slice) (top_of (tree_in j.plan) id.slice) source has in
      let planned : In h.motion (motions_in_plan j.schemas j.segments (tree_in j.plan)) =
      in_block h.motion top.1.before (motions_of j.schemas j.segments id.slice top.0 (suc id.slice) (top_of (tree_in j.plan) id.slice)) top.1.after (motions_in_plan j.schemas j.segments (tree_in j.plan)) top.1.motions h.is_in in
      let here : In id.at h.motion.receivers = subst (In id.at) (top.1.gang_is ∙ sym h.receivers) (contains_in (gang_in j id.slice) id.at there) in
      let first = gang_some j.segments h.locus judged.least_segments in
      let it = listens (worker_of j tables id.slice id.at) id.session id.query h.motion planned (pos 0) (subst (In (pos 0)) (sym h.gang_is) first) h.above here in
      subst (λ n. Listens (ends_of (worker_of j tables id.slice id.at) id.session id.query) n source.senders) h.number (subst (λ l. Listens (ends_of (worker_of j tables id.slice id.at) id.session id.query) h.motion.number l) h.senders it)

  nothing_heard : (part : Part) → AreUnheard part []
  nothing_heard part source has = (refl, refl, λ a. (refl, refl))

  pub tree_heard : (tables : List Spread) (id : WorkerId) (st : State) → id.slice < slices_in (tree_in j.plan) → Starts (part_for j tables id) st → Contains (gang_in j id.slice) id.at
      → AreHeard (ends_of (worker_of j tables id.slice id.at) id.session id.query) st
  tree_heard tables id st most starts there =
      heard_by (ends_of (worker_of j tables id.slice id.at) id.session id.query) (part_for j tables id) st [] [] (starts [] (nothing_heard (part_for j tables id))) (part_heard tables id most there)

  -- what a slice sends goes to the gang of the slice above
  pub above_low : (m : ℕ) (spot : Spot) → 1 ≤ m → m < slices_in (tree_in j.plan) → slice_get (spots 0 0 1 (tree_in j.plan)) (m - 1) ≡ Some spot → spot.above < slices_in (tree_in j.plan)
  above_low m spot least most e = let h = in_plan m spot least e in omega (arith, h.low, most)

  gang_up : (slice : ℕ) → slice < slices_in (tree_in j.plan) → Ascends (gang_in j slice)
  gang_up zero most = (tt, tt)
  gang_up (suc m) most =
      let k = get_there (spots 0 0 1 (tree_in j.plan)) m (omega (arith, spots_long 0 0 1 (tree_in j.plan), most)) in
      let h = in_plan (suc m) k.0 (omega arith) (ap (slice_get (spots 0 0 1 (tree_in j.plan))) (omega arith) ∙ k.1) in
      subst Ascends (sym h.stands.gang_is) (gang_ascends j.segments (locus_of j.schemas (below_motion (Some k.0.node))))

  pub receivers_up : (m : ℕ) (spot : Spot) → 1 ≤ m → m < slices_in (tree_in j.plan) → slice_get (spots 0 0 1 (tree_in j.plan)) (m - 1) ≡ Some spot → Ascends (gang_in j spot.above)
  receivers_up m spot least most e = gang_up spot.above (above_low m spot least most e)

  pub are_receivers : (m : ℕ) (spot : Spot) → 1 ≤ m → slice_get (spots 0 0 1 (tree_in j.plan)) (m - 1) ≡ Some spot → AreReceivers j m (kind_of spot.node) (gang_in j spot.above)
  are_receivers m spot least e =
      let tree = tree_in j.plan in
      let h = in_plan m spot least e in
      let from : List ℤ = gang_at j.segments (locus_of j.schemas (below_motion (Some spot.node))) in
      let x : Motion = record { number = m; above = spot.above; senders = from; receivers = h.receivers } in
      let links : (tables : List Spread) (at : ℤ) → Contains (gang_in j m) at → map to_of (sending (worker_of j tables m at)) ≡ gang_in j spot.above = λ tables at there.
      sent_to (worker_of j tables m at) x h.planned refl (subst (In at) h.stands.gang_is (contains_in (gang_in j m) at there)) (gang_ascends j.segments (locus_of j.schemas (below_motion (Some spot.node)))) ∙ sym h.above_is in
      record {
        links = links;
        facing = λ tables at there. faces (worker_of j tables m at) (gang_in j spot.above) (links tables at there);
        ends = λ tables at session query there.
            subst (SendsToEach (ends_of (worker_of j tables m at) session query) m) (sym h.above_is) (sends (worker_of j tables m at) session query x h.planned refl (subst (In at) h.stands.gang_is (contains_in (gang_in j m) at there)));
        routes = λ tables place to rows at.
            ap (λ r. routed_to (site_of j tables) r to rows) (ap route_at h.node_is)
            ∙ routes_by (site_of j tables) spot.node (gang_in j spot.above) place to rows (all_hear (given_of j) (tree_in j.plan) (m - 1) spot judged.sound e) at
            ∙ ap (λ r. routed r (length (gang_in j spot.above)) place rows) (sym (route_is spot.node));
      }

  pub above_is : (m : ℕ) (spot : Spot) → 1 ≤ m → slice_get (spots 0 0 1 (tree_in j.plan)) (m - 1) ≡ Some spot → slice_above (tree_in j.plan) m ≡ spot.above
  above_is m spot least e = ap slice_over (spot_is (tree_in j.plan) m least ∙ e)

  pub number_is : (m : ℕ) (spot : Spot) → 1 ≤ m → slice_get (spots 0 0 1 (tree_in j.plan)) (m - 1) ≡ Some spot → top_number (tree_in j.plan) m ≡ suc spot.number
  number_is m spot least e = ap number_below (spot_is (tree_in j.plan) m least ∙ e)

  -- ---- the part of a worker

  pub root_part : (tables : List Spread) (id : WorkerId) (p : Plan) → id.slice ≡ 0 → p ≡ j.plan → part_of (site_of j tables) (place_of id) 0 1 (tree_of p.root) ≡ part_for j tables id
  root_part tables id p first is =
      ap (λ (x : Plan). part_of (site_of j tables) (place_of id) 0 1 (tree_of x.root)) is
      ∙ sym (ap (λ k. part_of (site_of j tables) (place_of id) (top_number (tree_in j.plan) k) (suc k) (top_of (tree_in j.plan) k)) first)

  pub part_below : (tables : List Spread) (id : WorkerId) (spot : Spot) (top : Tree) → 1 ≤ id.slice → slice_get (spots 0 0 1 (tree_in j.plan)) (id.slice - 1) ≡ Some spot → top ≡ below_motion (Some spot.node)
      → part_of (site_of j tables) (place_of id) (spot.number + 1) (id.slice + 1) top ≡ part_for j tables id
  part_below tables id spot top least e is =
      let h = in_plan id.slice spot least e in
      let s = site_of j tables in
      let p = place_of id in
      let number : spot.number + 1 ≡ top_number (tree_in j.plan) id.slice = let k = number_is id.slice spot least e in omega (arith, k) in
      let next : id.slice + 1 ≡ suc id.slice = omega arith in
      ap (λ k. part_of s p k (id.slice + 1) top) number ∙ ap (λ k. part_of s p (top_number (tree_in j.plan) id.slice) k top) next ∙ ap (part_of s p (top_number (tree_in j.plan) id.slice) (suc id.slice)) (is ∙ sym h.top_is)

-- what was found in a plan that was read
pub plan_spot : (p q : Plan) (k : ℕ) (o : Option Spot) → p ≡ q → o ≡ slice_get (spots 0 0 1 (tree_of p.root)) k → slice_get (spots 0 0 1 (tree_in q)) k ≡ o
plan_spot p q k o e h = ap (λ (x : Plan). slice_get (spots 0 0 1 (tree_of x.root)) k) (sym e) ∙ sym h

pub few_motions : (j : Judged) (p : Plan) → IsJudged j → p ≡ j.plan → 1 + motions_in (tree_of p.root) ≤ 65
few_motions j p judged e = let h = ap (λ (x : Plan). motions_in (tree_of x.root)) e in omega (arith, h, motions_most (tree_in j.plan), judged.plan.nodes)

-- ---- what the part has to do with the slice

-- numbers of motions are above 0
pub root_sends_nothing : RootSendsNothing
root_sends_nothing w root = filter_none (is_sent_by w) (links_in w.site.schemas w.site.segments w.tree) (λ l i.
    let of = In-from_flat links_of l (motions_in_plan w.site.schemas w.site.segments w.tree) i in
    let it = from_links of.0 l of.2 in
    let low = within w.site.schemas w.site.segments 0 1 dispatcher w.tree of.0 of.1 in
    ap (λ b. b && int_eq l.from w.at) (differ l.motion w.slice (λ e. absurd (omega (arith, low.0, it.number, root, e)))))

pub part_serves : (j : Judged) → IsJudged j → (tables : List Spread) (id : WorkerId) → id.slice < slices_in (tree_in j.plan) → Serves (worker_of j tables id.slice id.at) (part_for j tables id)
part_serves j judged tables id most =
    let s = site_of j tables in
    let p = place_of id in
    let number = top_number (tree_in j.plan) id.slice in
    let top = top_of (tree_in j.plan) id.slice in
    record {
      gives = λ steps. (of_plan s p steps number (suc id.slice) top).gives;
      wants = λ steps. (of_plan s p steps number (suc id.slice) top).wants;
      satisfied = λ steps. (of_plan s p steps number (suc id.slice) top).satisfied;
      hears = link_heard (worker_of j tables id.slice id.at) (place_of id) number;
      senders = λ source has a there.
          let stands = top_stands j judged id.slice most in
          let h = sourced (site_of j tables) (place_of id) id.slice stands.0 number (suc id.slice) top source has in
          let known = All-in (IsKnown j) h.motion (motions_of j.schemas j.segments id.slice stands.0 (suc id.slice) top) (all_known j id.slice (suc id.slice) stands.0 top stands.1) h.is_in in
          subst (λ k. Contains (gang_in j k) a) h.number (subst (λ g. Contains g a) (sym (known.gang ∙ h.senders)) there);
    }

-- ---- numbers

get_mapped : {A B : Type 0} (f : A → B) (xs : List A) (k : ℕ) (x : A) → slice_get xs k ≡ Some x → slice_get (map f xs) k ≡ Some (f x)
get_mapped f [] k x e = absurd cc
get_mapped f (y ∷ xs) zero x e = let same : y ≡ x = cc in ap (λ z. Some (f z)) same
get_mapped f (y ∷ xs) (suc k) x e = get_mapped f xs k x e

pub tops_are_numbered : TopsAreNumbered
tops_are_numbered tree zero most = first_is tree
tops_are_numbered tree (suc m) most =
    let k = get_there (spots 0 0 1 tree) m (omega (arith, spots_long 0 0 1 tree, most)) in
    let spot : Spot = k.0 in
    let h = numbered 0 0 1 tree m spot k.1 in
    let node : motion_node tree (suc m) ≡ Some spot.node = sym (ap (λ l. slice_get l m) (nodes_are 0 0 1 tree)) ∙ get_mapped (λ (x : Spot). x.node) (spots 0 0 1 tree) m spot k.1 in
    let number : top_number tree (suc m) ≡ suc h.behind = ap number_below k.1 ∙ (let e : suc spot.number ≡ suc h.behind = omega (arith, h.number) in e) in
    ap (slice_get (preorder tree)) number ∙ h.next ∙ ap Some (sym (ap below_motion node))
