-- What a node keeps with each call.
use Rattle.std.proofs.Common.{◌≡◌, ◌≢◌, ℕ, ◌≤◌, ℤ, List, [], ◌∷◌, ◌++◌, true, false, refl, ap, sym, ◌∙◌, subst, inl, inr, append-nil, arith}
use Rattle.std.specs.List.{AllByRecursion}
use Rattle.ic_base.specs.declared.keys.ConnEnd.{ConnEnd}
use Rattle.ic_law.specs.declared.history.HubAsk.{HubAsk}
use Rattle.ic_law.specs.declared.history.HubAsk.TheVariants.{Begin, Put, Finish, Take, TakeFrom, Halt, Arrive, Tick, Clear, Leave}
use Rattle.ic_law.specs.declared.history.HubReply.{HubReply}
use Rattle.ic_law.specs.declared.history.HubReply.TheVariants.{Memory}
use Rattle.ic_law.specs.declared.history.Entry.{Entry}
use Rattle.ic_law.specs.History.{datagram_in}
use Rattle.ic_law.specs.Queries.{left_by}
use Rattle.ic_law.specs.Points.{Place, place_at, IsLive}
use Rattle.ic_law.specs.Asking.{AreEnds}
use Rattle.ic_law.specs.Emission.{EmissionLaw}
use Rattle.ic_law.specs.Hub.{HubLaw}
use Rattle.ic_law.proofs.Lists.{Contains-none}
use Rattle.ic_hub.specs.Hubbing.{Hubbing, place_in}
use Rattle.ic_hub.specs.Standing.{Stands}
use Rattle.ic_hub.specs.Calls.{SamePlace}
use Rattle.ic_law.specs.Logs.{IsOf, IsOurs, IsUpto}
use Rattle.ic_port.specs.Noding.{Noding, place_of, IsLawful, IsNode}
use Rattle.ic_port.specs.Calls.{Works, begin_in, begins_of}
use Rattle.ic_hub.specs.Noting.{noted}
use Rattle.ic_hub.proofs.Noting.{all_append, all_map, noted_all, noted_few, noted_came, noted_left, noted_stands, noted_lives, noted_cases, place_same, same_self}

-- ---- queries

later : (query more : ℕ) → query ≤ more → (ask : HubAsk) → IsUpto query ask → IsUpto more ask
later query more le (Begin q ends) is = tt
later query more le (Put key chunk) is = omega (arith, le, is)
later query more le (Finish key) is = omega (arith, le, is)
later query more le (Take q motion) is = omega (arith, le, is)
later query more le (TakeFrom key) is = omega (arith, le, is)
later query more le (Halt key) is = omega (arith, le, is)
later query more le (Arrive d) is = tt
later query more le Tick is = tt
later query more le (Clear q) is = tt
later query more le (Leave q) is = tt

-- there are no ends
pub no_ends : (place : Place) (query : ℕ) → AreEnds place query []
no_ends place query = record {
  each = λ end at. absurd (Contains-none end at);
  once = λ front between back a b is. none_is front between back a b is;
  both = λ end at. absurd (Contains-none end at);
}
  where
    none_is : (front between back : List ConnEnd) (a b : ConnEnd) → [] ≡ front ++ a ∷ between ++ b ∷ back → a.key ≡ b.key → a.sending ≢ b.sending
    none_is [] between back a b is = absurd (let bad : [] ≡ a ∷ (between ++ b ∷ back) = is in cc)
    none_is (x ∷ front) between back a b is = absurd (let bad : [] ≡ x ∷ (front ++ a ∷ between ++ b ∷ back) = is in cc)

-- ---- a call whose entry stands behind the others

pub record Notes (n : Noding) (hub : Hubbing) (entries : List Entry) (ask : HubAsk) (reply : HubReply) : Type 0 where
  pub place : SamePlace n.hub hub
  pub same : reply ≡ Memory → hub ≡ n.hub
  pub stands : Stands n.hub n.entries → Stands hub (n.entries ++ record { ask = ask; reply = reply } ∷ [])
  pub ours : IsOurs (place_of n) ask
  pub upto : IsUpto n.query ask
  pub grown : entries ≡ n.entries ++ noted ask reply

abbrev pub after : Noding → Hubbing → ℕ → List ConnEnd → List Entry → Noding
after n hub query ends entries = record { hub = hub; query = query; ends = ends; entries = entries }

pub notes_stand : (n : Noding) (hub : Hubbing) (entries : List Entry) (ask : HubAsk) (reply : HubReply)
    → IsNode n → Notes n hub entries ask reply → Stands hub entries
notes_stand n hub entries ask reply is notes =
    subst (λ l. Stands hub l) (sym notes.grown) (noted_stands n.hub hub n.entries ask reply notes.same notes.stands is.stands)

-- a node with these ends of a query that is no earlier
pub notes_keep_with : (n : Noding) (hub : Hubbing) (entries : List Entry) (ask : HubAsk) (reply : HubReply)
    → IsNode n → Notes n hub entries ask reply → (query : ℕ) (ends : List ConnEnd) → n.query ≤ query → AreEnds (place_of n) query ends
    → (ends ≢ [] → IsLive query ends entries) → IsNode (after n hub query ends entries)
notes_keep_with n hub entries ask reply is notes query ends le are live =
    let place = sym (place_same n.hub hub notes.place) in
    record {
      stands = notes_stand n hub entries ask reply is notes;
      ours = subst (λ l. AllByRecursion (λ (e : Entry). IsOurs (place_in hub) e.ask) l) (sym notes.grown)
          (subst (λ p. AllByRecursion (λ (e : Entry). IsOurs p e.ask) (n.entries ++ noted ask reply)) place
          (all_append (λ (e : Entry). IsOurs (place_of n) e.ask) n.entries (noted ask reply) is.ours (noted_all (λ (e : Entry). IsOurs (place_of n) e.ask) ask reply notes.ours)));
      upto = subst (λ l. AllByRecursion (λ (e : Entry). IsUpto query e.ask) l) (sym notes.grown)
          (all_map (λ (e : Entry). IsUpto n.query e.ask) (λ (e : Entry). IsUpto query e.ask) (λ e. later n.query query le e.ask) (n.entries ++ noted ask reply)
          (all_append (λ (e : Entry). IsUpto n.query e.ask) n.entries (noted ask reply) is.upto (noted_all (λ (e : Entry). IsUpto n.query e.ask) ask reply notes.upto)));
      ends_are = subst (λ p. AreEnds p query ends) place are;
      live = live;
    }

pub notes_keep : (n : Noding) (hub : Hubbing) (entries : List Entry) (ask : HubAsk) (reply : HubReply)
    → IsNode n → Notes n hub entries ask reply → left_by ask reply ≡ [] → IsNode (after n hub n.query n.ends entries)
notes_keep n hub entries ask reply is notes none_left =
    notes_keep_with n hub entries ask reply is notes n.query n.ends (omega arith) is.ends_are
    (λ ends. subst (λ l. IsLive n.query n.ends l) (sym notes.grown) (noted_lives n.query n.ends n.entries ask reply none_left (is.live ends)))

-- no query was asked to begin, where none is in the ask
noted_begun : (ask : HubAsk) (reply : HubReply) → begin_in ask ≡ [] → begins_of (noted ask reply) ≡ []
noted_begun ask reply none_begun = elim (noted_cases ask reply) [
  | inl h ↦ ap begins_of h.1
  | inr h ↦ ap begins_of h ∙ append-nil (begin_in ask) ∙ none_begun
]

-- it was a worker's call
pub notes_works : (n : Noding) (hub : Hubbing) (entries : List Entry) (ask : HubAsk) (reply : HubReply)
    → Notes n hub entries ask reply → IsOf n.query ask → datagram_in ask ≡ [] → left_by ask reply ≡ [] → begin_in ask ≡ [] → Works n (after n hub n.query n.ends entries)
notes_works n hub entries ask reply notes is_of none_in none_left none_begun = record {
  place = notes.place;
  query = refl;
  ends = refl;
  more = noted ask reply;
  grown = notes.grown;
  few = noted_few ask reply;
  are_of = noted_all (λ (e : Entry). IsOf n.query e.ask) ask reply is_of;
  none_came = noted_came ask reply none_in;
  none_left = noted_left ask reply none_left;
  none_begun = noted_begun ask reply none_begun;
}

-- ---- a call that does nothing

pub works_not : (n : Noding) → Works n n
works_not n = record {
  place = same_self n.hub;
  query = refl;
  ends = refl;
  more = [];
  grown = sym (append-nil n.entries);
  few = omega arith;
  are_of = tt;
  none_came = refl;
  none_left = refl;
  none_begun = refl;
}

-- ---- what it is good for

pub node_lawful : (n : Noding) → IsNode n → IsLawful n
node_lawful n is = record {
  stands = is.stands;
  law = is.stands.goes.law;
  emission = is.stands.goes.emission;
  ours = is.ours;
  upto = is.upto;
  ends_are = is.ends_are;
  live = is.live;
}
