-- What a network keeps behind the sends of a station.
use Rattle.std.proofs.Common.{◌≡◌, ℕ, zero, suc, ◌+◌, ◌<◌, List, [], ◌∷◌, length, get_or, drop, slice_get, Option, Some, None, Bool, true, false, cond, sym, ◌∙◌, subst, inl, inr}
use Rattle.std.proofs.lemmas.List.Elements.{Contains-append_cases, Contains-append_left}
use Rattle.std.specs.List.{Contains}
use Rattle.ic_base.specs.declared.datagram.Datagram.{Datagram}
use Rattle.ic_law.specs.declared.history.Entry.{Entry}
use Rattle.ic_law.specs.History.{emits, emitted_of}
use Rattle.ic_law.proofs.Lists.{Contains-none, Contains-one, flat_map-Contains}
use Rattle.ic_port.specs.Noding.{emitted_with}
use Rattle.gd_net.specs.Network.{Net, is_lost, kept_of, after_send}
use Rattle.gd_sim.specs.Stations.{KeepsOrSent, KeepsOrEmitted}

-- the network is the same under another name
pub keeps_same : (ds : List Datagram) (a b c : Net) → c ≡ b → KeepsOrSent ds a b → KeepsOrSent ds a c
keeps_same ds a b c is h = subst (KeepsOrSent ds a) (sym is) h

only_one : (b : Bool) (d x : Datagram) → Contains (cond b [] (d ∷ [])) x → x ≡ d
only_one true d x h = absurd (Contains-none x h)
only_one false d x h = Contains-one d x h

-- one of the datagrams is sent
pub keeps_sent : (ds : List Datagram) (a b c : Net) (i : ℕ) (d shared : Datagram) → KeepsOrSent ds a b → i < length ds → d ≡ get_or ds i d → shared ≡ d → c ≡ after_send shared b → KeepsOrSent ds a c
keeps_sent ds a b c i d shared h lt at same is x kept =
    elim (Contains-append_cases b.kept (kept_of b.drops (length b.in_hand) (b.sent + 1) shared) x (subst (λ (n : Net). Contains n.kept x) is kept)) [
      | inl before ↦ h x before
      | inr sent ↦ inr (subst (Contains ds) (sym (only_one (is_lost b.drops (length b.in_hand) (b.sent + 1) shared) shared x sent ∙ same)) (i, lt, sym at))
    ]

-- what was emitted with the entry at a place was emitted with those behind so many
emitted_behind : (h : List Entry) (seen : ℕ) (d : Datagram) → Contains (emitted_with (slice_get h seen)) d → Contains (emitted_of (drop seen h)) d
emitted_behind [] zero d c = absurd (Contains-none d c)
emitted_behind [] (suc n) d c = absurd (Contains-none d c)
emitted_behind (e ∷ h) zero d c = Contains-append_left (emits e) (emitted_of h) d c
emitted_behind (e ∷ h) (suc n) d c = emitted_behind h n d c

pub keeps_behind : (h : List Entry) (seen : ℕ) (a b : Net) (ds : List Datagram) → ds ≡ emitted_with (slice_get h seen) → KeepsOrSent ds a b → KeepsOrEmitted (drop seen h) a b
keeps_behind h seen a b ds is keeps d kept = elim (keeps d kept) [
  | inl before ↦ inl before
  | inr sent ↦ inr (emitted_behind h seen d (subst (λ l. Contains l d) is sent))
]
