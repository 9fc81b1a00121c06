-- A past of steps is that of a session.
use Rattle.std.proofs.Common.{◌≡◌, ◌⊎◌, ℕ, zero, suc, ◌+◌, ◌≤◌, ℤ, pos, negsuc, List, [], ◌∷◌, ◌++◌, length, map, get_or, cond, Option, Some, None, refl, ap, sym, ◌∙◌, subst, inl, inr, arith, append_assoc, append-nil, slice_get}
use Rattle.std.specs.List.{Contains}
use Rattle.std.proofs.lemmas.Option.{get_or_from_slice_get, slice_get_within, slice_get_cases, slice_get-map}
use Rattle.std.proofs.lemmas.List.{get_or_past, length-map}
use Rattle.std.proofs.lemmas.List.Elements.{Contains-append_left, Contains-append_right}
use Rattle.std.proofs.lemmas.Bool.Decides.{eqb_tells}
use Rattle.std.specs.Option.{option_map}
use Rattle.ic_base.specs.declared.settings.Settings.{Settings}
use Rattle.ic_base.specs.declared.datagram.Datagram.{Datagram}
use Rattle.ic_law.specs.declared.history.Entry.{Entry}
use Rattle.ic_law.specs.History.{emits, arrives, emitted_of, arrived_of}
use Rattle.ic_law.specs.Points.{Place, place_at}
use Rattle.ic_law.specs.Hub.{HubLaw}
use Rattle.ic_law.specs.Emission.{EmissionLaw}
use Rattle.ic_law.specs.Streams.{history_of, NetworkLaw}
use Rattle.ic_law.proofs.Lists.{Contains-none, Contains-one, Contains-middle, Contains-flat_map, flat_map-append}
use Rattle.ic_law.proofs.Following.{follows}
use Rattle.gd_law.specs.Sessions.{IsSession}
use Rattle.ic_port.specs.Noding.{Noding, place_of, IsLawful}
use Rattle.gd_world.specs.Doings.{at_of}
use Rattle.gd_world.specs.Events.{Event, Running, IsStep, PlayBehind, IsOfTurn, begins_it, turns, delivers, ticks, leaves_it, node_in, segment_at, entry_at, entries_in, emitted_in, history_in, sent_in}
use Rattle.gd_world.specs.Sessions.{Sessional, Recalls, IsSessionOf, AreLawful, histories_of, entries_of}
use Rattle.gd_world.specs.Laws.{SessionsGoOn}
use Rattle.gd_world.proofs.Places.{same_some}
use Rattle.gd_world.proofs.Recalling.{entry_here}

-- ---- histories by place

past_end : (nodes : List Noding) (k : ℕ) → length nodes ≤ k → get_or (map entries_of nodes) k [] ≡ []
past_end nodes k le = get_or_past (map entries_of nodes) k [] (subst (λ n. n ≤ k) (sym (length-map nodes entries_of)) le)

there : (nodes : List Noding) (k : ℕ) (n : Noding) → slice_get nodes k ≡ Some n → get_or (map entries_of nodes) k [] ≡ n.entries
there nodes k n is = get_or_from_slice_get (map entries_of nodes) k n.entries [] (slice_get-map entries_of nodes k ∙ ap (option_map entries_of) is)

pub history_there : (nodes : List Noding) (k : ℕ) (n : Noding) → slice_get nodes k ≡ Some n → history_of (map entries_of nodes) (segment_at k) ≡ n.entries
history_there nodes zero n is = there nodes 0 n is
history_there nodes (suc k) n is = let place : k + 1 ≡ suc k = omega arith in ap (λ i. get_or (map entries_of nodes) i []) place ∙ there nodes (suc k) n is

-- a segment's history is that of a node at its place
pub record IsOfOne (nodes : List Noding) (segment : ℤ) : Type 0 where
  pub k : ℕ
  pub node : Noding
  pub here : slice_get nodes k ≡ Some node
  pub is : segment ≡ segment_at k
  pub history : history_of (map entries_of nodes) segment ≡ node.entries

pub one_or_none : (nodes : List Noding) (segment : ℤ) → IsOfOne nodes segment ⊎ (history_of (map entries_of nodes) segment ≡ [])
one_or_none nodes (negsuc (suc n)) = inr refl
one_or_none nodes (negsuc zero) =
    elim (slice_get_cases nodes 0).1 [
      | inl w ↦ inl (record { k = 0; node = w.0; here = w.2; is = refl; history = there nodes 0 w.0 w.2 })
      | inr w ↦ inr (past_end nodes 0 w.0)
    ]
one_or_none nodes (pos n) =
    let place : n + 1 ≡ suc n = omega arith in
    elim (slice_get_cases nodes (n + 1)).1 [
      | inl w ↦ inl (record { k = suc n; node = w.0; here = ap (slice_get nodes) (sym place) ∙ w.2; is = refl; history = there nodes (n + 1) w.0 w.2 })
      | inr w ↦ inr (past_end nodes (n + 1) w.0)
    ]

-- what is so at each node, and of no entries, is so of each segment
at_each : (session segments : ℕ) (settings : Settings) (s : Sessional) → IsSessionOf session segments settings s → (P : Place → List Entry → Type 0)
    → ((k : ℕ) (n : Noding) → slice_get s.nodes k ≡ Some n → P (place_of n) n.entries) → ((place : Place) → P place [])
    → (segment : ℤ) → P (place_at session segment settings) (history_of (histories_of s) segment)
at_each session segments settings s is P each none segment =
    elim (one_or_none s.nodes segment) [
      | inl w ↦
          let place : place_of w.node ≡ place_at session segment settings = is.placed w.k w.node w.here ∙ ap (λ a. place_at session a settings) (sym w.is) in
          subst (P (place_at session segment settings)) (sym w.history) (subst (λ p. P p w.node.entries) place (each w.k w.node w.here))
      | inr w ↦ subst (P (place_at session segment settings)) (sym w) (none (place_at session segment settings))
    ]

-- ---- steps

step_at : (before front : List Event) (e : Event) (after : List Event) → PlayBehind front (before ++ e ∷ after) → (q : Running) × IsStep q (front ++ before) e
step_at [] front e after plays = (plays.0.0, subst (λ l. IsStep plays.0.0 l e) (sym (append-nil front)) plays.0.1)
step_at (x ∷ before) front e after plays =
    let s = step_at before (front ++ x ∷ []) e after plays.1 in (s.0, subst (λ l. IsStep s.0 l e) (append_assoc front (x ∷ []) before) s.1)

got_there : {X : Type 0} (xs : List X) (i : ℕ) (x : X) → slice_get xs i ≡ Some x → Contains xs x
got_there xs i x is = (i, slice_get_within xs i x is, get_or_from_slice_get xs i x x is)

of_turn : (entry : Option Entry) (x : Entry) (d : Datagram) → IsOfTurn entry → entry ≡ Some x → Contains (arrives x) d → ⊥
of_turn None x d of is has = cc
of_turn (Some y) x d of is has = Contains-none d (subst (λ l. Contains l d) (ap arrives (sym (same_some y x is)) ∙ of.none_came) has)

-- a datagram that came with a step was emitted before, and is to the step's node
came_with : (q : Running) (before : List Event) (e : Event) (x : Entry) (d : Datagram) → IsStep q before e → e.entry ≡ Some x → Contains (arrives x) d → Contains (sent_in before) d × (d.to ≡ at_of e.did.step)
came_with q before _ x d (begins_it at reply) is has = absurd (Contains-none d (subst (λ y. Contains (arrives y) d) (sym (same_some _ x is)) has))
came_with q before _ x d (turns slice at answer entry of) is has = absurd (of_turn entry x d of is has)
came_with q before _ x d (delivers number d0 reply at) is has =
    let same : d ≡ d0 = Contains-one d0 d (subst (λ y. Contains (arrives y) d) (sym (same_some _ x is)) has) in
    (subst (Contains (sent_in before)) (sym same) (got_there (sent_in before) number d0 at), ap (λ (y : Datagram). y.to) same)
came_with q before _ x d (ticks at reply) is has = absurd (Contains-none d (subst (λ y. Contains (arrives y) d) (sym (same_some _ x is)) has))
came_with q before _ x d (leaves_it at reply) is has = absurd (Contains-none d (subst (λ y. Contains (arrives y) d) (sym (same_some _ x is)) has))

entry_of : (place : ℕ) (e : Event) (x : Entry) → Contains (entry_at place e) x → (node_in e ≡ place) × (e.entry ≡ Some x)
entry_of place e x has =
    elim (eqb_tells (node_in e) place) [
      | inl w ↦ (w.1, one e.entry (subst (λ l. Contains l x) (ap (λ b. cond b (entries_in e.entry) []) w.0) has))
      | inr w ↦ absurd (Contains-none x (subst (λ l. Contains l x) (ap (λ b. cond b (entries_in e.entry) []) w.0) has))
    ]
  where
    one : (o : Option Entry) → Contains (entries_in o) x → o ≡ Some x
    one None c = absurd (Contains-none x c)
    one (Some y) c = ap Some (sym (Contains-one y x c))

pub history_split : (es before : List Event) (e : Event) (after : List Event) → es ≡ before ++ e ∷ after
    → history_in (node_in e) es ≡ history_in (node_in e) before ++ (entries_in e.entry ++ history_in (node_in e) after)
history_split es before e after is =
    let k = node_in e in
    ap (history_in k) is ∙ flat_map-append (entry_at k) before (e ∷ after) ∙ ap (λ l. history_in k before ++ (l ++ history_in k after)) (entry_here k e refl)

emitted_there : (es before : List Event) (e : Event) (after : List Event) (d : Datagram) → es ≡ before ++ e ∷ after → Contains (emitted_in e) d → Contains (emitted_of (history_in (node_in e) es)) d
emitted_there es before e after d is has =
    let k = node_in e in
    let split = history_split es before e after is in
    subst (λ l. Contains l d)
    (sym (ap emitted_of split ∙ flat_map-append emits (history_in k before) (entries_in e.entry ++ history_in k after) ∙ ap (λ l. emitted_of (history_in k before) ++ l) (flat_map-append emits (entries_in e.entry) (history_in k after))))
    (Contains-append_right (emitted_of (history_in k before)) _ d (Contains-append_left (emitted_in e) (emitted_of (history_in k after)) d has))

-- ---- the network law

-- what a lawful node emits is from there
from_there : (n : Noding) (place : Place) (d : Datagram) → IsLawful n → place_of n ≡ place → Contains (emitted_of n.entries) d → d.from ≡ place.at
from_there n place d lawful is has =
    let w = Contains-flat_map emits n.entries d has in
    let point = lawful.law w.0 w.1 w.2 w.3 in
    (point.formed d w.4).from ∙ ap (λ (p : Place). p.at) is

module _ (session segments : ℕ) (settings : Settings) (es : List Event) (s : Sessional) (of : IsSessionOf session segments settings s) (recalls : Recalls es s) (lawful : AreLawful s.nodes) where
  -- an event that emits a datagram is at the node that it is from
  from_event : (before : List Event) (e : Event) (after : List Event) (d : Datagram) → es ≡ before ++ e ∷ after → Contains (emitted_in e) d → Contains (emitted_of (history_of (histories_of s) d.from)) d
  from_event before e after d is has =
      let in_es : Contains es e = subst (λ l. Contains l e) (sym is) (Contains-middle before e after) in
      let w = recalls.within e in_es in
      elim (slice_get_cases s.nodes (node_in e)).1 [
        | inl n ↦
            let h_is : n.0.entries ≡ history_in (node_in e) es = recalls.histories (node_in e) n.0 n.2 in
            let emitted : Contains (emitted_of n.0.entries) d = subst (λ h. Contains (emitted_of h) d) (sym h_is) (emitted_there es before e after d is has) in
            let from : d.from ≡ segment_at (node_in e) = from_there n.0 (place_at session (segment_at (node_in e)) settings) d (lawful (node_in e) n.0 n.2) (of.placed (node_in e) n.0 n.2) emitted in
            subst (λ h. Contains (emitted_of h) d) (sym (ap (history_of (histories_of s)) from ∙ history_there s.nodes (node_in e) n.0 n.2)) emitted
        | inr n ↦ absurd (omega (arith, n.0, w.within))
      ]

  came_from : (k : ℕ) (n : Noding) → slice_get s.nodes k ≡ Some n → (d : Datagram) → Contains (arrived_of n.entries) d → (d.to ≡ segment_at k) × Contains (emitted_of (history_of (histories_of s) d.from)) d
  came_from k n here d has =
      let has_in : Contains (arrived_of (history_in k es)) d = subst (λ h. Contains (arrived_of h) d) (recalls.histories k n here) has in
      let w = Contains-flat_map arrives (history_in k es) d has_in in
      let x = w.1 in
      let x_in : Contains (history_in k es) x = subst (λ l. Contains l x) (sym w.3) (Contains-middle w.0 x w.2) in
      let v = Contains-flat_map (entry_at k) es x x_in in
      let e = v.1 in
      let is = entry_of k e x v.4 in
      let e_in : Contains es e = subst (λ l. Contains l e) (sym v.3) (Contains-middle v.0 e v.2) in
      let step_is = step_at v.0 [] e v.2 (subst (PlayBehind []) v.3 recalls.plays) in
      let came = came_with step_is.0 v.0 e x d step_is.1 is.1 w.4 in
      let u = Contains-flat_map emitted_in v.0 d came.0 in
      let f = u.1 in
      let f_split : es ≡ u.0 ++ f ∷ (u.2 ++ e ∷ v.2) = v.3 ∙ ap (λ l. l ++ e ∷ v.2) u.3 ∙ append_assoc u.0 (f ∷ u.2) (e ∷ v.2) in
      (came.1 ∙ (recalls.within e e_in).at ∙ ap segment_at is.0, from_event u.0 f (u.2 ++ e ∷ v.2) d f_split u.4)

  pub network_is : NetworkLaw (histories_of s)
  network_is b d has =
      elim (one_or_none s.nodes b) [
        | inl w ↦
            let came = came_from w.k w.node w.here d (subst (λ h. Contains (arrived_of h) d) w.history has) in
            (came.0 ∙ sym w.is, came.1)
        | inr w ↦ absurd (Contains-none d (subst (λ h. Contains (arrived_of h) d) w has))
      ]

  no_entry : (before : List Entry) (e : Entry) (after : List Entry) → [] ≡ before ++ e ∷ after → ⊥
  no_entry [] e after at = cc
  no_entry (b ∷ before) e after at = let bad : [] ≡ b ∷ (before ++ e ∷ after) = at in cc

  pub hubs_are : (segment : ℤ) → HubLaw (place_at session segment settings) (history_of (histories_of s) segment)
  hubs_are = at_each session segments settings s of HubLaw (λ k n here. (lawful k n here).law) (λ place before e after at. absurd (no_entry before e after at))

  pub session_is : IsSession session segments settings (histories_of s)
  session_is = record {
    count = length-map s.nodes entries_of ∙ of.count;
    network = network_is;
    hubs = hubs_are;
    emission = at_each session segments settings s of EmissionLaw (λ k n here. (lawful k n here).emission) (λ place before e after at. absurd (no_entry before e after at));
    streams = λ c in_session. follows (histories_of s) session settings network_is hubs_are c in_session;
  }

pub sessions_go_on : SessionsGoOn
sessions_go_on = session_is
