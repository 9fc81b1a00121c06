-- From the histories of all nodes to the runs of all slices, and to the answer.
use Rattle.std.proofs.Common.{◌≡◌, ℕ, suc, ◌+◌, ℤ, negsuc, List, [], ◌∷◌, ◌++◌, true, Some, refl, ap, sym, ◌∙◌, subst, inl, arith, append_assoc}
use Rattle.std.specs.Prelude.{Contains}
use Rattle.std.specs.List.{AllByRecursion, flat_map}
use Rattle.std.proofs.lemmas.List.Elements.{filter-append}
use Rattle.ic_base.specs.declared.datagram.Parcel.{Parcel}
use Rattle.ic_chunk.proofs.Lists.{all_back}
use Rattle.ic_law.specs.declared.history.Entry.{Entry}
use Rattle.ic_law.specs.Streams.{StreamsFollow}
use Rattle.ic_law.proofs.Lists.{flat_map-append, Contains-head}
use Rattle.gd_law.specs.Laws.{WholeWasFinished}
use Rattle.pl_tree.specs.Trees.{Tree, Scan, Filter, Project, Limit, Sort, Join, Single, Partial, Final, Gather, Redistribute, Broadcast, motions_in, preorder}
use Rattle.pl_tree.specs.Loci.{locus_of}
use Rattle.pl_plan.specs.Motions as motions
use Rattle.pl_plan.specs.Motions.{Motion, gang_at, motions_of, motions_in_plan, gang_of}
use Rattle.pl_ops.specs.Rows.{Line}
use Rattle.pl_ops.specs.Routing.{Route, ToAll, ToHashed, route_of}
use Rattle.pl_mean.specs.Parts.{routed_to}
use Rattle.pl_mean.specs.Outputs.{came_from, out}
use Rattle.pl_mean.specs.Answers.{IsLawful}
use Rattle.pl_parts.proofs.Members.{In, In-right, All-from_in}
use Rattle.pl_answers.specs.Growing.{AreFrom, TookMore, AreMore, IsFront, OutputsGrow}
use Rattle.pl_answers.specs.Runs.{Taken, Carries, Serves, IsRun}
use Rattle.pl_answers.specs.Laws.{RootsGoOn, AnswersAreLawful}
use Rattle.pl_runs.specs.Steps as steps
use Rattle.pl_runs.specs.Steps.{Step, parcels_in, came_in, input_of, inputs_of}
use Rattle.pl_runs.specs.Slices.{is_motion, top_of, route_in, below_motion, output_of}
use Rattle.pl_runs.specs.Distributed.{Query, Courses, dispatcher, worker_at}
use Rattle.gd_answer.specs.Laws.{IsAsked, IsRunCleanly, RunsGoOn, RunsAreLawful, RunsThatAreOverAreLawful}
use Rattle.gd_answer.proofs.Places.{motions_below, StandsIn, root_stands, same_below, join_left, join_right, in_plan, senders_are, route_is, top_is, child_stands}
use Rattle.gd_answer.proofs.Links.{in_contains}
use Rattle.gd_answer.proofs.Came.{from_steps}
use Rattle.gd_answer.proofs.Sent.{Grows}
use Rattle.gd_answer.proofs.Carried.{Known, stays, carries}

-- what each worker took
abbrev taken : Courses → Taken
taken courses slice at motion = input_of motion (courses slice at).steps

module _ (follow : StreamsFollow) (finish : WholeWasFinished) (grow : OutputsGrow) (q : Query) (nodes : List (List Entry)) (courses : Courses) (k : Known q nodes courses) where
  abbrev Stands : ℕ → List ℤ → ℕ → Tree → Type 0
  Stands slice gang n p = StandsIn q.site.schemas q.site.segments q.tree slice gang n p

  abbrev senders : Tree → List ℤ
  senders c = gang_at q.site.segments (locus_of q.site.schemas c)

  -- the motion of a node over this child
  abbrev over : ℕ → List ℤ → ℕ → Tree → Motion
  over slice gang n c = record { number = n; above = slice; senders = gang_at q.site.segments (locus_of q.site.schemas c); receivers = gang }

  -- of a motion over a child, at a receiver
  module _ (slice : ℕ) (gang : List ℤ) (n : ℕ) (p c : Tree) (e : motions_of q.site.schemas q.site.segments slice gang n p ≡ over slice gang n c ∷ motions_of q.site.schemas q.site.segments n (senders c) (n + 1) c)
      (f : motions_below p ≡ p ∷ motions_below c) (h : Stands slice gang n p) (at : ℤ) (here : In at gang) where
    planned : In (over slice gang n c) (motions_in_plan q.site.schemas q.site.segments q.tree)
    planned =
        let i = in_plan q.site.schemas q.site.segments q.tree slice gang n p c (over slice gang n c) e f h in
        subst (In (over slice gang n c)) (sym i.1) (In-right (over slice gang n c) h.before (over slice gang n c ∷ i.0) (inl refl))

    from_gang : gang_of q.site.schemas q.site.segments q.tree n ≡ senders c
    from_gang = senders_are q.site.schemas q.site.segments q.tree slice gang n p c (over slice gang n c) e f h

    there : Contains (gang_of q.site.schemas q.site.segments q.tree slice) at
    there = subst (λ g. Contains g at) (sym h.gang_is) (in_contains gang at here)

    all_from : AllByRecursion (λ (x : Parcel). Contains (senders c) x.from) (steps.parcels_of n (courses slice at).steps)
    all_from = subst (λ g. AllByRecursion (λ (x : Parcel). Contains g x.from) (steps.parcels_of n (courses slice at).steps)) from_gang ((k.clean slice at there).from n)

    -- each row that was taken is from a sender
    took_from : AreFrom (senders c) (input_of n (courses slice at).steps).took
    took_from = from_steps n (senders c) (courses slice at).steps all_from

    -- more was taken
    took_more : (before after : List Step) → (courses slice at).steps ≡ before ++ after → TookMore (senders c) (input_of n before) (input_of n (courses slice at).steps)
    took_more before after s = record {
      more = flat_map (came_in n) after;
      took = ap (flat_map (came_in n)) s ∙ flat_map-append (came_in n) before after;
      from = from_steps n (senders c) after (all_back (λ (x : Parcel). Contains (senders c) x.from) (steps.parcels_of n before) (steps.parcels_of n after)
          (subst (AllByRecursion (λ (x : Parcel). Contains (senders c) x.from)) (ap (steps.parcels_of n) s ∙ flat_map-append (parcels_in n) before after) all_from));
      stays = All-from_in (λ a. (input_of n before).whole a ≡ true → ((input_of n (courses slice at).steps).whole a ≡ true) × (came_from a (flat_map (came_in n) after) ≡ [])) (senders c)
          (λ a i. stays q nodes courses k (over slice gang n c) planned from_gang h.gang_is a at i here before after s);
    }

    -- the connection from a sender
    serves : (route : Route) → route_of p ≡ route → below_motion (Some p) ≡ c → (from : ℤ) → In from (senders c)
        → ((before after : List Step) → (courses n from).steps ≡ before ++ after → AreMore q.site (inputs_of before) (inputs_of (courses n from).steps) (n + 1) c from)
        → Serves q.site (taken courses) route slice n c at from
    serves route is below from i more =
        let o = carries q nodes courses k (over slice gang n c) planned from_gang h.gang_is from at i here follow finish grows in
        subst (λ t. Carries t (routed_to q.site route at t.rows) (input_of n (courses slice at).steps) from) (same (courses n from).steps)
        (subst (λ r. Carries (output_of (worker_at q n from) (courses n from).steps) (routed_to q.site r at (output_of (worker_at q n from) (courses n from).steps).rows) (input_of n (courses slice at).steps) from) (route_at ∙ is) o)
      where
        route_at : route_in q.tree n ≡ route_of p
        route_at = route_is q.site.schemas q.site.segments q.tree slice gang n p c (over slice gang n c) e f h

        top : top_of q.tree n ≡ c
        top = top_is q.site.schemas q.site.segments q.tree slice gang n p c (over slice gang n c) e f h ∙ below

        next : suc n ≡ n + 1
        next = omega arith

        same : (ss : List Step) → output_of (worker_at q n from) ss ≡ out q.site (inputs_of ss) (n + 1) c from
        same ss = ap (λ x. out q.site (inputs_of ss) x (top_of q.tree n) from) next ∙ ap (λ x. out q.site (inputs_of ss) (n + 1) x from) top

        grows : Grows (worker_at q n from) (courses n from).steps
        grows before after s =
            subst (λ x. IsFront x (output_of (worker_at q n from) (courses n from).steps)) (sym (same before))
            (subst (λ x. IsFront (out q.site (inputs_of before) (n + 1) c from) x) (sym (same (courses n from).steps)) (grow q.site (inputs_of before) (inputs_of (courses n from).steps) (n + 1) c from (more before after s)))

  -- ---- a worker that took more

  more : (slice : ℕ) (gang : List ℤ) (at : ℤ) (before after : List Step) → In at gang → (courses slice at).steps ≡ before ++ after → (n : ℕ) (p : Tree) → Stands slice gang n p → AreMore q.site (inputs_of before) (inputs_of (courses slice at).steps) n p at
  more slice gang at before after i s n (Scan t) h = tt
  more slice gang at before after i s n (Filter e c) h = more slice gang at before after i s n c (same_below q.site.schemas q.site.segments q.tree slice gang n (Filter e c) c refl refl h)
  more slice gang at before after i s n (Project cols c) h = more slice gang at before after i s n c (same_below q.site.schemas q.site.segments q.tree slice gang n (Project cols c) c refl refl h)
  more slice gang at before after i s n (Limit x c) h = more slice gang at before after i s n c (same_below q.site.schemas q.site.segments q.tree slice gang n (Limit x c) c refl refl h)
  more slice gang at before after i s n (Sort ks c) h = more slice gang at before after i s n c (same_below q.site.schemas q.site.segments q.tree slice gang n (Sort ks c) c refl refl h)
  more slice gang at before after i s n (Join on l r) h = (
    more slice gang at before after i s n l (join_left q.site.schemas q.site.segments q.tree slice gang n l r (Join on l r) refl (filter-append is_motion (preorder l) (preorder r)) h),
    more slice gang at before after i s (n + motions_in l) r (join_right q.site.schemas q.site.segments q.tree slice gang n l r (Join on l r) refl (filter-append is_motion (preorder l) (preorder r)) h),
  )
  more slice gang at before after i s n (Single g cs c) h = more slice gang at before after i s n c (same_below q.site.schemas q.site.segments q.tree slice gang n (Single g cs c) c refl refl h)
  more slice gang at before after i s n (Partial g cs c) h = more slice gang at before after i s n c (same_below q.site.schemas q.site.segments q.tree slice gang n (Partial g cs c) c refl refl h)
  more slice gang at before after i s n (Final c) h = more slice gang at before after i s n c (same_below q.site.schemas q.site.segments q.tree slice gang n (Final c) c refl refl h)
  more slice gang at before after i s n (Gather o c) h = took_more slice gang n (Gather o c) c refl refl h at i before after s
  more slice gang at before after i s n (Redistribute ks c) h = took_more slice gang n (Redistribute ks c) c refl refl h at i before after s
  more slice gang at before after i s n (Broadcast c) h = took_more slice gang n (Broadcast c) c refl refl h at i before after s

  -- ---- all slices

  runs : (slice : ℕ) (gang : List ℤ) (n : ℕ) (p : Tree) (at : ℤ) → In at gang → Stands slice gang n p → IsRun q.site (taken courses) slice n p at
  runs slice gang n (Scan t) at i h = tt
  runs slice gang n (Filter e c) at i h = runs slice gang n c at i (same_below q.site.schemas q.site.segments q.tree slice gang n (Filter e c) c refl refl h)
  runs slice gang n (Project cols c) at i h = runs slice gang n c at i (same_below q.site.schemas q.site.segments q.tree slice gang n (Project cols c) c refl refl h)
  runs slice gang n (Limit x c) at i h = runs slice gang n c at i (same_below q.site.schemas q.site.segments q.tree slice gang n (Limit x c) c refl refl h)
  runs slice gang n (Sort ks c) at i h = runs slice gang n c at i (same_below q.site.schemas q.site.segments q.tree slice gang n (Sort ks c) c refl refl h)
  runs slice gang n (Join on l r) at i h = (
    runs slice gang n l at i (join_left q.site.schemas q.site.segments q.tree slice gang n l r (Join on l r) refl (filter-append is_motion (preorder l) (preorder r)) h),
    runs slice gang (n + motions_in l) r at i (join_right q.site.schemas q.site.segments q.tree slice gang n l r (Join on l r) refl (filter-append is_motion (preorder l) (preorder r)) h),
  )
  runs slice gang n (Single g cs c) at i h = runs slice gang n c at i (same_below q.site.schemas q.site.segments q.tree slice gang n (Single g cs c) c refl refl h)
  runs slice gang n (Partial g cs c) at i h = runs slice gang n c at i (same_below q.site.schemas q.site.segments q.tree slice gang n (Partial g cs c) c refl refl h)
  runs slice gang n (Final c) at i h = runs slice gang n c at i (same_below q.site.schemas q.site.segments q.tree slice gang n (Final c) c refl refl h)
  runs slice gang n (Gather o c) at i h =
      let child = child_stands q.site.schemas q.site.segments q.tree slice gang n (Gather o c) c (over slice gang n c) refl refl h in (
        took_from slice gang n (Gather o c) c refl refl h at i,
        All-from_in (λ from. Serves q.site (taken courses) ToAll slice n c at from × IsRun q.site (taken courses) n (n + 1) c from) (senders c) (λ from j.
            (serves slice gang n (Gather o c) c refl refl h at i ToAll refl refl from j (λ before after s. more n (senders c) from before after j s (n + 1) c child), runs n (senders c) (n + 1) c from j child)),
      )
  runs slice gang n (Redistribute ks c) at i h =
      let child = child_stands q.site.schemas q.site.segments q.tree slice gang n (Redistribute ks c) c (over slice gang n c) refl refl h in (
        took_from slice gang n (Redistribute ks c) c refl refl h at i,
        All-from_in (λ from. Serves q.site (taken courses) (ToHashed ks) slice n c at from × IsRun q.site (taken courses) n (n + 1) c from) (senders c) (λ from j.
            (serves slice gang n (Redistribute ks c) c refl refl h at i (ToHashed ks) refl refl from j (λ before after s. more n (senders c) from before after j s (n + 1) c child), runs n (senders c) (n + 1) c from j child)),
      )
  runs slice gang n (Broadcast c) at i h =
      let child = child_stands q.site.schemas q.site.segments q.tree slice gang n (Broadcast c) c (over slice gang n c) refl refl h in (
        took_from slice gang n (Broadcast c) c refl refl h at i,
        All-from_in (λ from. Serves q.site (taken courses) ToAll slice n c at from × IsRun q.site (taken courses) n (n + 1) c from) (senders c) (λ from j.
            (serves slice gang n (Broadcast c) c refl refl h at i ToAll refl refl from j (λ before after s. more n (senders c) from before after j s (n + 1) c child), runs n (senders c) (n + 1) c from j child)),
      )

  all_run : IsRun q.site (taken courses) 0 1 q.tree (negsuc 0)
  all_run = runs 0 motions.dispatcher 1 q.tree (negsuc 0) (inl refl) (root_stands q.site.schemas q.site.segments q.tree)

-- ---- the laws

known : (q : Query) (wholes : List (List Line)) (nodes : List (List Entry)) (courses : Courses) (rows : List Line) → IsAsked q wholes → IsRunCleanly q nodes courses rows → Known q nodes courses
known q wholes nodes courses rows a r = record { least = a.least; greatest = a.greatest; network = r.run.network; hubs = r.run.hubs; workers = r.run.workers; clean = r.clean }

pub go_on : StreamsFollow → WholeWasFinished → OutputsGrow → RootsGoOn → RunsGoOn
go_on follow finish grow root q wholes nodes courses rows a r =
    let g = root (record { schemas = q.site.schemas; segments = q.site.segments; settings = q.settings }) wholes q.site.tables q.tree (taken courses) a.loaded a.sound (all_run follow finish grow q nodes courses (known q wholes nodes courses rows a r)) in
    let worked = r.run.workers 0 dispatcher (Contains-head dispatcher []) in
    let front = worked.run.lets_out.front refl in
    record {
      rest = front.0 ++ g.rest;
      lawful = subst (IsLawful q.site.schemas wholes q.tree) (ap (λ l. l ++ g.rest) (front.1 ∙ ap (λ l. l ++ front.0) (sym r.run.rows_are)) ∙ append_assoc rows front.0 g.rest) g.lawful;
    }

pub are_lawful : StreamsFollow → WholeWasFinished → OutputsGrow → AnswersAreLawful → RunsAreLawful
are_lawful follow finish grow root q wholes nodes courses rows a r done =
    let worked = r.run.workers 0 dispatcher (Contains-head dispatcher []) in
    let lawful = root (record { schemas = q.site.schemas; segments = q.site.segments; settings = q.settings }) wholes q.site.tables q.tree (taken courses) a.loaded a.sound
    (all_run follow finish grow q nodes courses (known q wholes nodes courses rows a r)) ((worked.run.over done).ended refl) in
    subst (IsLawful q.site.schemas wholes q.tree) (worked.run.lets_out.all refl done ∙ sym r.run.rows_are) lawful

pub over_lawful : StreamsFollow → WholeWasFinished → OutputsGrow → AnswersAreLawful → RunsThatAreOverAreLawful
over_lawful follow finish grow root q wholes nodes courses rows a r over = are_lawful follow finish grow root q wholes nodes courses rows a r (over.workers 0 dispatcher (Contains-head dispatcher []))
