-- A session recalls its events with one more.
use Rattle.std.proofs.Common.{◌≡◌, ℕ, ℤ, List, [], ◌∷◌, ◌++◌, length, map, cond, Option, Some, None, refl, ap, sym, ◌∙◌, subst, inl, inr, append_assoc, append-nil, slice_get, length-set}
use Rattle.std.proofs.lemmas.Option.{slice_get_within}
use Rattle.std.proofs.lemmas.List.{map_push}
use Rattle.std.proofs.lemmas.List.Elements.{Contains-append_cases}
use Rattle.std.proofs.lemmas.Bool.Decides.{eqb_tells}
use Rattle.ic_base.specs.declared.settings.Settings.{Settings}
use Rattle.ic_law.specs.declared.history.Entry.{Entry}
use Rattle.ic_law.specs.Points.{place_at}
use Rattle.ic_law.specs.Streams.{node_of}
use Rattle.ic_law.proofs.Lists.{flat_map-push, Contains-one}
use Rattle.ic_hub.specs.Calls.{SamePlace}
use Rattle.ic_port.specs.Noding.{Noding, place_of}
use Rattle.gd_world.specs.declared.step.Step.{Step}
use Rattle.gd_world.specs.Doings.{Answer, at_of}
use Rattle.gd_world.specs.Events.{Event, Running, IsStep, PlayBehind, did_in, node_in, segment_at, entries_in, entry_at, history_in, place_behind, event_of}
use Rattle.gd_world.specs.Sessions.{Sessional, Recalls, IsWithin, IsSessionOf}
use Rattle.gd_world.specs.Inside.{Enters, place_in}
use Rattle.gd_world.proofs.Places.{get_set}

-- ---- one entry

pub entry_here : (k : ℕ) (e : Event) → node_in e ≡ k → entry_at k e ≡ entries_in e.entry
entry_here k e is = elim (eqb_tells (node_in e) k) [ inl w ↦ ap (λ c. cond c (entries_in e.entry) []) w.0 | inr w ↦ absurd (w.1 is) ]

pub entry_there : (k : ℕ) (e : Event) → (node_in e ≡ k → ⊥) → entry_at k e ≡ []
entry_there k e isnt = elim (eqb_tells (node_in e) k) [ inl w ↦ absurd (isnt w.1) | inr w ↦ ap (λ c. cond c (entries_in e.entry) []) w.0 ]

pub place_same : (n : Noding) (es : List Event) (at : ℤ) (entry : Option Entry) → n.entries ≡ history_in (node_of at) es → place_in n entry ≡ place_behind es at entry
place_same n es at None is = refl
place_same n es at (Some e) is = ap (λ h. Some (length h)) is

-- ---- a node

pub place_kept : (a b : Noding) → SamePlace a.hub b.hub → place_of b ≡ place_of a
place_kept a b same =
    ap (λ s. record { session = s; at = b.hub.at; settings = b.hub.settings }) same.session ∙ ap (λ t. record { session = a.hub.session; at = t; settings = b.hub.settings }) same.at
    ∙ ap (λ t. record { session = a.hub.session; at = a.hub.at; settings = t }) same.settings

-- ---- a session

plays_on : (q : Running) (before es : List Event) (e : Event) → PlayBehind before es → IsStep q (before ++ es) e → PlayBehind before (es ++ e ∷ [])
plays_on q before [] e plays step = ((q, subst (λ l. IsStep q l e) (append-nil before) step), tt)
plays_on q before (x ∷ es) e plays step =
    (plays.0, plays_on q (before ++ x ∷ []) es e plays.1 (subst (λ l. IsStep q l e) (sym (append_assoc before (x ∷ []) es)) step))

module _ (q : Running) (s : Step) (turned : Option Answer) (entry : Option Entry) (Goes : Noding → Noding → Type 0) (a b : Sessional) where
  abbrev more : List Event → Event
  more es = event_of es s turned entry

  history_on : (es : List Event) (k : ℕ) → history_in k (es ++ more es ∷ []) ≡ history_in k es ++ entry_at k (more es)
  history_on es k = flat_map-push (entry_at k) es (more es)

  histories_on : (es : List Event) → Enters Goes (at_of s) s turned entry a b → Recalls es a → (k : ℕ) (n : Noding) → slice_get b.nodes k ≡ Some n → n.entries ≡ history_in k (es ++ more es ∷ [])
  histories_on es enters recalls k n is =
      elim (get_set a.nodes (node_of (at_of s)) k enters.now n (sym (ap (λ l. slice_get l k) enters.nodes) ∙ is)) [
        | inl w ↦
            ap (λ (m : Noding). m.entries) w.1 ∙ enters.grown ∙ ap (λ h. h ++ entries_in entry) (recalls.histories (node_of (at_of s)) enters.node enters.here ∙ ap (λ i. history_in i es) w.0)
            ∙ ap (λ l. history_in k es ++ l) (sym (entry_here k (more es) w.0)) ∙ sym (history_on es k)
        | inr w ↦ recalls.histories k n w.1 ∙ sym (append-nil (history_in k es)) ∙ ap (λ l. history_in k es ++ l) (sym (entry_there k (more es) w.0)) ∙ sym (history_on es k)
      ]

  pub recalls_on : (es : List Event) → Enters Goes (at_of s) s turned entry a b → Recalls es a → IsStep q es (more es) → Recalls (es ++ more es ∷ []) b
  recalls_on es enters recalls step = record {
    past =
        enters.past ∙ ap (λ l. l ++ record { step = s; turned = turned; entry = place_in enters.node entry } ∷ []) recalls.past
        ∙ ap (λ p. map did_in es ++ record { step = s; turned = turned; entry = p } ∷ []) (place_same enters.node es (at_of s) entry (recalls.histories (node_of (at_of s)) enters.node enters.here)) ∙ sym (map_push did_in es (more es));
    histories = histories_on es enters recalls;
    plays = plays_on q [] es (more es) recalls.plays step;
    within = λ e among.
        let count : length a.nodes ≡ length b.nodes = sym (ap length enters.nodes ∙ length-set a.nodes (node_of (at_of s)) enters.now) in
        elim (Contains-append_cases es (more es ∷ []) e among) [
          | inl w ↦ subst (λ n. IsWithin n e) count (recalls.within e w)
          | inr w ↦
              let is : e ≡ more es = Contains-one (more es) e w in
              subst (λ n. IsWithin n e) count (subst (IsWithin (length a.nodes)) (sym is) (record { within = slice_get_within a.nodes (node_of (at_of s)) enters.node enters.here; at = enters.back }))
        ];
  }

  pub session_on : (session segments : ℕ) (settings : Settings) → Enters Goes (at_of s) s turned entry a b → IsSessionOf session segments settings a → IsSessionOf session segments settings b
  session_on session segments settings enters is = record {
    count = ap length enters.nodes ∙ length-set a.nodes (node_of (at_of s)) enters.now ∙ is.count;
    placed = λ k n here.
        elim (get_set a.nodes (node_of (at_of s)) k enters.now n (sym (ap (λ l. slice_get l k) enters.nodes) ∙ here)) [
          | inl w ↦ ap place_of w.1 ∙ place_kept enters.node enters.now enters.place ∙ is.placed (node_of (at_of s)) enters.node enters.here ∙ ap (λ i. place_at session (segment_at i) settings) w.0
          | inr w ↦ is.placed k n w.1
        ];
  }
