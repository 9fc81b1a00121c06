-- What was sent, read from the nodes and the past, is what the events emitted.
use Rattle.std.proofs.Common.{◌≡◌, ◌-◌, List, [], ◌∷◌, ◌++◌, length, map, Option, Some, None, refl, ap, sym, ◌∙◌, subst, inl, inr, arith, append_assoc, append-nil, slice_get, length-append}
use Rattle.std.specs.List.{Contains, flat_map}
use Rattle.std.proofs.lemmas.Option.{slice_get_cases}
use Rattle.std.proofs.lemmas.List.{map_push}
use Rattle.ic_law.specs.declared.history.Entry.{Entry}
use Rattle.ic_law.specs.History.{emits}
use Rattle.ic_law.proofs.Lists.{Contains-middle}
use Rattle.ic_port.specs.Noding.{Noding, emitted_with}
use Rattle.gd_world.specs.Doings.{at_of}
use Rattle.gd_world.specs.Events.{Event, Running, IsStep, PlayBehind, begins_it, turns, delivers, ticks, leaves_it, did_in, node_in, entries_in, emitted_in, history_in, sent_in, place_behind}
use Rattle.gd_world.specs.Sessions.{Sessional, Recalls, entry_of, entry_by, last_entry, entry_with, emitted_by, sent_by}
use Rattle.gd_world.proofs.Networks.{history_split}

got_behind : {X : Type 0} (h : List X) (x : X) (t : List X) → slice_get (h ++ x ∷ t) (length h) ≡ Some x
got_behind [] x t = refl
got_behind (y ∷ h) x t = got_behind h x t

-- a step's entry is the next of its node's history
place_is : (q : Running) (before : List Event) (e : Event) → IsStep q before e → e.did.entry ≡ place_behind before (at_of e.did.step) e.entry
place_is q before _ (begins_it at reply) = refl
place_is q before _ (turns slice at answer entry of) = refl
place_is q before _ (delivers number d reply at) = refl
place_is q before _ (ticks at reply) = refl
place_is q before _ (leaves_it at reply) = refl

pub entry_one : (n : Noding) (before : List Event) (e : Event) (after : List Entry) (entry : Option Entry) → n.entries ≡ history_in (node_in e) before ++ (entries_in entry ++ after)
    → entry_of (Some n) (place_behind before (at_of e.did.step) entry) ≡ entry
entry_one n before e after None is = refl
entry_one n before e after (Some x) is = ap (λ h. slice_get h (length (history_in (node_in e) before))) is ∙ got_behind (history_in (node_in e) before) x after

emitted_one : (entry : Option Entry) → emitted_with entry ≡ flat_map emits (entries_in entry)
emitted_one None = refl
emitted_one (Some x) = sym (append-nil (emits x))

module _ (es : List Event) (s : Sessional) (recalls : Recalls es s) where
  pub entry_is : (before : List Event) (e : Event) (after : List Event) → es ≡ before ++ e ∷ after → (q : Running) → IsStep q before e → entry_by s.nodes e.did ≡ e.entry
  entry_is before e after is q step_is =
      let in_es : Contains es e = subst (λ l. Contains l e) (sym is) (Contains-middle before e after) in
      let w = recalls.within e in_es in
      elim (slice_get_cases s.nodes (node_in e)).1 [
        | inl n ↦
            ap (λ o. entry_of o e.did.entry) n.2 ∙ ap (entry_of (Some n.0)) (place_is q before e step_is)
            ∙ entry_one n.0 before e (history_in (node_in e) after) e.entry (recalls.histories (node_in e) n.0 n.2 ∙ history_split es before e after is)
        | inr n ↦ absurd (omega (arith, n.0, w.within))
      ]

  emitted_is : (before : List Event) (e : Event) (after : List Event) → es ≡ before ++ e ∷ after → (q : Running) → IsStep q before e → emitted_by s.nodes e.did ≡ emitted_in e
  emitted_is before e after is q step_is = ap emitted_with (entry_is before e after is q step_is) ∙ emitted_one e.entry

  each : (before rest : List Event) → es ≡ before ++ rest → PlayBehind before rest → flat_map (emitted_by s.nodes) (map did_in rest) ≡ sent_in rest
  each before [] is plays = refl
  each before (e ∷ rest) is plays =
      ap (λ l. l ++ flat_map (emitted_by s.nodes) (map did_in rest)) (emitted_is before e rest is plays.0.0 plays.0.1)
      ∙ ap (λ l. emitted_in e ++ l) (each (before ++ e ∷ []) rest (is ∙ sym (append_assoc before (e ∷ []) rest)) plays.1)

  pub sent_is : sent_by s ≡ sent_in es
  sent_is = ap (flat_map (emitted_by s.nodes)) recalls.past ∙ each [] es refl recalls.plays

  last_play : (before rest : List Event) (e : Event) → PlayBehind before (rest ++ e ∷ []) → (q : Running) × IsStep q (before ++ rest) e
  last_play before [] e plays = (plays.0.0, subst (λ l. IsStep plays.0.0 l e) (sym (append-nil before)) plays.0.1)
  last_play before (x ∷ rest) e plays =
      let w = last_play (before ++ x ∷ []) rest e plays.1 in (w.0, subst (λ l. IsStep w.0 l e) (append_assoc before (x ∷ []) rest) w.1)

  last_did : (all : List Event) (e : Event) → slice_get (map did_in (all ++ e ∷ [])) (length (map did_in (all ++ e ∷ [])) - 1) ≡ Some e.did
  last_did all e =
      let long : length (map did_in (all ++ e ∷ [])) - 1 ≡ length (map did_in all) = omega (arith, ap length (map_push did_in all e) ∙ length-append (map did_in all) (e.did ∷ [])) in
      ap (slice_get (map did_in (all ++ e ∷ []))) long ∙ ap (λ l. slice_get l (length (map did_in all))) (map_push did_in all e) ∙ got_behind (map did_in all) e.did []

  -- the last step's entry
  pub last_is : (before : List Event) (e : Event) → es ≡ before ++ e ∷ [] → last_entry s ≡ e.entry
  last_is before e is =
      let w = last_play [] before e (subst (PlayBehind []) is recalls.plays) in
      ap (λ p. entry_with s.nodes (slice_get p (length p - 1))) (recalls.past ∙ ap (map did_in) is) ∙ ap (entry_with s.nodes) (last_did before e) ∙ entry_is before e [] is w.0 w.1
