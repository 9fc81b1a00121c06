-- One connection of a motion: what its receiver took of what its sender put, and of what its sender's slice gave.
use Rattle.std.proofs.Common.{◌≡◌, ℕ, suc, ◌≤◌, ◌<◌, ℤ, List, [], ◌∷◌, ◌++◌, length, take, map, Bool, true, false, ◌||◌, cond, refl, ap, sym, ◌∙◌, subst, append-nil}
use Rattle.std.proofs.lemmas.List.{append_cancel_left}
use Rattle.std.specs.Prelude.{Contains}
use Rattle.std.specs.List.{AllByRecursion, flat_map, list_any}
use Rattle.std.specs.Ordering.{int_eq}
use Rattle.ic_base.specs.declared.datagram.Parcel.{Parcel}
use Rattle.ic_base.specs.declared.keys.ConnKey.{ConnKey}
use Rattle.ic_row.specs.Spelling.{IsRow}
use Rattle.ic_chunk.specs.Assembly.{Assembles}
use Rattle.ic_law.specs.declared.history.Entry.{Entry}
use Rattle.ic_law.specs.Points.{place_at}
use Rattle.ic_law.specs.Putting.{chunks_put_of, finished_of}
use Rattle.ic_law.specs.Taking.{parcels_from, parcels_of, payload_in, payloads_of, is_last_parcel, whole_of, IsWhole}
use Rattle.ic_law.specs.Streams.{history_of, NetworkLaw, AreSent, StreamsFollow}
use Rattle.ic_law.specs.Hub.{HubLaw}
use Rattle.ic_law.proofs.Lists.{flat_map-append, list_any-append}
use Rattle.gd_law.specs.Laws.{WholeWasFinished}
use Rattle.pl_plan.specs.Motions.{Motion, link_of, motions_in_plan, gang_of}
use Rattle.pl_plan.specs.Ends.{key_of}
use Rattle.pl_ops.specs.Rows.{Line}
use Rattle.pl_mean.specs.Outputs.{came_from}
use Rattle.pl_parts.proofs.Members.{In, All-in}
use Rattle.pl_answers.specs.Runs.{Carries}
use Rattle.pl_runs.specs.Steps as steps
use Rattle.pl_runs.specs.Steps.{Step, put_on, finished_on, parcels_in, came_in, ends_stream, input_of}
use Rattle.pl_runs.specs.Slices.{sending, output_of, cut}
use Rattle.pl_runs.specs.Runs.{Course}
use Rattle.pl_runs.specs.Logs.{ends_of, payloads_from}
use Rattle.pl_runs.specs.Distributed.{Query, Courses, worker_at, IsWorked}
use Rattle.gd_answer.specs.Clean.{rows_for, PutsRows, AreClean}
use Rattle.gd_answer.proofs.Puts.{put_so, finished_so}
use Rattle.gd_answer.proofs.Takes.{takes_so, parcels_from-append}
use Rattle.gd_answer.proofs.Ended.{ends_there}
use Rattle.gd_answer.proofs.Links.{in_contains, own, is_sent, sends, hears, hears_it}
use Rattle.gd_answer.proofs.Came.{came_rows, whole_is, none_came}
use Rattle.gd_answer.proofs.Pieces.{is_put, all_put}
use Rattle.gd_answer.proofs.Sent.{Grows, puts_first, finished_all}

-- the payloads of one sender's parcels
payloads_are : (a : ℤ) (ps : List Parcel) → payloads_from a ps ≡ map payload_in (parcels_from a ps)
payloads_are a [] = refl
payloads_are a (p ∷ ps) = by (int_eq p.from a) (payloads_are a ps)
  where
    by : (b : Bool) → payloads_from a ps ≡ map payload_in (parcels_from a ps) → cond b (p.payload ∷ []) [] ++ payloads_from a ps ≡ map payload_in (cond b (p ∷ parcels_from a ps) (parcels_from a ps))
    by true e = ap (λ l. p.payload ∷ l) e
    by false e = e

no_rest : (xs ys rest : List Line) → ys ≡ xs ++ rest → xs ≡ ys → rest ≡ []
no_rest xs ys rest e f = append_cancel_left xs rest [] (sym e ∙ sym f ∙ sym (append-nil xs))

-- all that is known of a query
pub record Known (q : Query) (nodes : List (List Entry)) (courses : Courses) : Type 0 where
  pub least : 128 ≤ q.settings.packet
  pub greatest : q.settings.packet ≤ 65507
  pub network : NetworkLaw nodes
  pub hubs : (segment : ℤ) → HubLaw (place_at q.session segment q.settings) (history_of nodes segment)
  pub workers : (slice : ℕ) (at : ℤ) → Contains (gang_of q.site.schemas q.site.segments q.tree slice) at → IsWorked q nodes slice at (courses slice at)
  pub clean : AreClean q courses

module _ (q : Query) (nodes : List (List Entry)) (courses : Courses) (k : Known q nodes courses) (m : Motion) (planned : In m (motions_in_plan q.site.schemas q.site.segments q.tree))
    (from_gang : gang_of q.site.schemas q.site.segments q.tree m.number ≡ m.senders) (to_gang : gang_of q.site.schemas q.site.segments q.tree m.above ≡ m.receivers)
    (from to : ℤ) (sender : In from m.senders) (receiver : In to m.receivers) where
  abbrev key : ConnKey
  key = key_of q.session q.number (link_of m from to)

  abbrev cs : Course
  cs = courses m.number from

  abbrev cr : Course
  cr = courses m.above to

  sends_here : Contains (gang_of q.site.schemas q.site.segments q.tree m.number) from
  sends_here = subst (λ g. Contains g from) (sym from_gang) (in_contains m.senders from sender)

  takes_here : Contains (gang_of q.site.schemas q.site.segments q.tree m.above) to
  takes_here = subst (λ g. Contains g to) (sym to_gang) (in_contains m.receivers to receiver)

  at_sender : IsWorked q nodes m.number from (courses m.number from)
  at_sender = k.workers m.number from sends_here

  at_receiver : IsWorked q nodes m.above to (courses m.above to)
  at_receiver = k.workers m.above to takes_here

  -- ---- the receiver

  taken_so : parcels_of (key_of q.session q.number (link_of m from to)) (history_of nodes to) ≡ parcels_from from (steps.parcels_of m.number (courses m.above to).steps)
  taken_so =
      takes_so (ends_of (worker_at q m.above to) q.session q.number) (key_of q.session q.number (link_of m from to)) (own (worker_at q m.above to) q.session q.number)
      (hears q m planned from to sender receiver) (hears_it q m planned from to sender receiver) (place_at q.session to q.settings) (courses m.above to).steps (history_of nodes to) (k.hubs to) at_receiver.log

  whole_so : (input_of m.number (courses m.above to).steps).whole from ≡ whole_of (key_of q.session q.number (link_of m from to)) (history_of nodes to)
  whole_so = whole_is from (steps.parcels_of m.number (courses m.above to).steps) ∙ ap (list_any is_last_parcel) (sym taken_so)

  rows_so : (rows : List Line) (rest : List ℕ) (ended : Bool) → Assembles (payloads_of (key_of q.session q.number (link_of m from to)) (history_of nodes to)) rows rest ended → came_from from (input_of m.number (courses m.above to).steps).took ≡ rows
  rows_so rows rest ended a =
      came_rows m.number from (courses m.above to).steps at_receiver.read rows rest ended
      (subst (λ l. Assembles l rows rest ended) (ap (map payload_in) taken_so ∙ sym (payloads_are from (steps.parcels_of m.number (courses m.above to).steps))) a)

  -- nothing more of this sender, if its end was taken
  pub stays : (before after : List Step) → (courses m.above to).steps ≡ before ++ after → (input_of m.number before).whole from ≡ true
      → ((input_of m.number (courses m.above to).steps).whole from ≡ true) × (came_from from (flat_map (came_in m.number) after) ≡ [])
  stays before after e h =
      let ps = parcels_from from (steps.parcels_of m.number before) in
      let qs = parcels_from from (steps.parcels_of m.number after) in
      let split : parcels_from from (steps.parcels_of m.number (courses m.above to).steps) ≡ ps ++ qs =
      ap (λ ss. parcels_from from (steps.parcels_of m.number ss)) e ∙ ap (parcels_from from) (flat_map-append (parcels_in m.number) before after) ∙ parcels_from-append from (steps.parcels_of m.number before) (steps.parcels_of m.number after) in
      let was : list_any is_last_parcel ps ≡ true = sym (whole_is from (steps.parcels_of m.number before)) ∙ h in
      let none : qs ≡ [] = ends_there (place_at q.session to q.settings) (key_of q.session q.number (link_of m from to)) (history_of nodes to) refl refl (k.hubs to) ps qs (taken_so ∙ split) was in (
        whole_is from (steps.parcels_of m.number (courses m.above to).steps) ∙ ap (list_any is_last_parcel) split ∙ list_any-append is_last_parcel ps qs ∙ ap (λ b. b || list_any is_last_parcel qs) was,
        none_came m.number from after none,
      )

  -- ---- the sender

  module _ (follow : StreamsFollow) (finish : WholeWasFinished) (grows : Grows (worker_at q m.number from) (courses m.number from).steps) where
    there : In (link_of m from to) (sending (worker_at q m.number from))
    there = is_sent q m planned from to sender receiver

    first : (rest : List (List ℕ)) × (put_on m.number to (courses m.number from).steps ++ rest ≡ cut q.settings.packet (rows_for (worker_at q m.number from) (courses m.number from).steps to))
    first = puts_first (worker_at q m.number from) (courses m.number from) (link_of m from to) there at_sender.run grows

    all : finished_on m.number to (courses m.number from).steps ≡ true
        → ((output_of (worker_at q m.number from) (courses m.number from).steps).ended ≡ true) × (put_on m.number to (courses m.number from).steps ≡ cut q.settings.packet (rows_for (worker_at q m.number from) (courses m.number from).steps to))
    all = finished_all (worker_at q m.number from) (courses m.number from) (link_of m from to) there at_sender.run grows

    spells : (n : ℕ) → length (cut q.settings.packet (take n (rows_for (worker_at q m.number from) (courses m.number from).steps to))) < length (put_on m.number to (courses m.number from).steps)
        → AllByRecursion IsRow (take (suc n) (rows_for (worker_at q m.number from) (courses m.number from).steps to))
    spells = All-in (PutsRows (worker_at q m.number from) (courses m.number from).steps) (link_of m from to) (sending (worker_at q m.number from)) (k.clean m.number from sends_here).rows there

    chunks_so : chunks_put_of (key_of q.session q.number (link_of m from to)) (history_of nodes from) ≡ put_on m.number to (courses m.number from).steps
    chunks_so = put_so (ends_of (worker_at q m.number from) q.session q.number) (key_of q.session q.number (link_of m from to)) (own (worker_at q m.number from) q.session q.number) (sends q m planned from to sender receiver)
        (courses m.number from).steps (history_of nodes from) at_sender.log

    end_so : finished_of (key_of q.session q.number (link_of m from to)) (history_of nodes from) ≡ finished_on m.number to (courses m.number from).steps
    end_so = finished_so (ends_of (worker_at q m.number from) q.session q.number) (key_of q.session q.number (link_of m from to)) (own (worker_at q m.number from) q.session q.number) (sends q m planned from to sender receiver)
        (courses m.number from).steps (history_of nodes from) at_sender.log

    pub carries : Carries (output_of (worker_at q m.number from) (courses m.number from).steps) (rows_for (worker_at q m.number from) (courses m.number from).steps to) (input_of m.number (courses m.above to).steps) from
    carries =
        let c = key_of q.session q.number (link_of m from to) in
        let rows = rows_for (worker_at q m.number from) (courses m.number from).steps to in
        let put = put_on m.number to (courses m.number from).steps in
        let i = is_put q.settings.packet k.least k.greatest rows put first.0 first.1 spells in
        let whole_put : finished_of c (history_of nodes from) ≡ true → (i.sent ≡ rows) × (i.rest ≡ []) = λ f. all_put q.settings.packet k.least k.greatest rows put (all (sym end_so ∙ f)).1 spells i.sent i.rest i.assemble in
        let sent : AreSent c (history_of nodes from) i.sent = record { rest = i.rest; assemble = subst (λ l. Assembles l i.sent i.rest false) (sym chunks_so) i.assemble; none_left = λ f. (whole_put f).1 } in
        let f = follow nodes q.session q.settings k.network k.hubs c refl i.sent sent in
        let same = rows_so f.rows f.taken.rest f.taken.ended f.taken.assemble in
        record {
          put = i.sent;
          finished = finished_of c (history_of nodes from);
          unput = i.later;
          puts = i.are;
          ends = λ e. ((all (sym end_so ∙ e)).0, no_rest i.sent rows i.later (sym i.are) (whole_put e).0);
          untaken = f.prefix.0;
          takes = ap (λ l. l ++ f.prefix.0) same ∙ sym f.prefix.1;
          whole = λ e.
              let w : IsWhole c (history_of nodes to) = sym whole_so ∙ e in
              (finish nodes q.session q.settings k.network k.hubs c refl w, no_rest f.rows i.sent f.prefix.0 f.prefix.1 (f.whole w));
        }
