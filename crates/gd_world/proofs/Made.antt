-- A session before its first step.
use Rattle.std.proofs.Common.{◌≡◌, ℕ, suc, ◌+◌, pos, negsuc, List, [], ◌∷◌, ◌++◌, length, Some, None, ap, sym, ◌∙◌, arith, inl, inr, slice_get, length-append}
use Rattle.ic_base.specs.declared.settings.Settings.{Settings}
use Rattle.ic_law.proofs.Lists.{Contains-none, get_push}
use Rattle.ic_port.specs.Noding.{Noding, place_of, fresh}
use Rattle.gd_world.specs.Events.{segment_at}
use Rattle.gd_world.specs.Sessions.{Sessional, Recalls, IsSessionOf}
use Rattle.gd_world.specs.Inside.{AreFresh}

-- the first nodes, fresh
pub record AreNew (session : ℕ) (settings : Settings) (count : ℕ) (nodes : List Noding) : Type 0 where
  pub many : length nodes ≡ count + 1
  pub each : (k : ℕ) (n : Noding) → slice_get nodes k ≡ Some n → n ≡ fresh session (segment_at k) settings

pub first_new : (session : ℕ) (settings : Settings) (before nodes : List Noding) (n : Noding) → nodes ≡ before ++ n ∷ [] → before ≡ [] → n ≡ fresh session (negsuc 0) settings → AreNew session settings 0 nodes
first_new session settings before nodes n is none node =
    let one : nodes ≡ n ∷ [] = is ∙ ap (λ l. l ++ n ∷ []) none in
    record {
      many = ap length one;
      each = λ k m at.
          elim (get_push [] n m k (ap (λ l. slice_get l k) (sym one) ∙ at)) [
            | inl w ↦ let bad : None ≡ Some m = w in absurd (cc)
            | inr w ↦ w.1 ∙ node ∙ ap (λ i. fresh session (segment_at i) settings) (sym w.0)
          ];
    }

pub next_new : (session : ℕ) (settings : Settings) (count : ℕ) (before nodes : List Noding) (n : Noding) → AreNew session settings count before → nodes ≡ before ++ n ∷ [] → n ≡ fresh session (pos count) settings
    → AreNew session settings (count + 1) nodes
next_new session settings count before nodes n new is node =
    let place : length before ≡ suc count = omega (arith, new.many) in
    record {
      many = ap length is ∙ length-append before (n ∷ []) ∙ ap (λ m. m + 1) new.many;
      each = λ k m at.
          elim (get_push before n m k (ap (λ l. slice_get l k) (sym is) ∙ at)) [
            | inl w ↦ new.each k m w
            | inr w ↦ w.1 ∙ node ∙ ap (λ i. fresh session (segment_at i) settings) (sym (w.0 ∙ place))
          ];
    }

pub new_session : (session segments : ℕ) (settings : Settings) (s : Sessional) → AreNew session settings segments s.nodes → IsSessionOf session segments settings s
new_session session segments settings s new = record { count = new.many; placed = λ k n here. ap place_of (new.each k n here) }

pub new_recalls : (session segments : ℕ) (settings : Settings) (s : Sessional) → AreNew session settings segments s.nodes → s.past ≡ [] → Recalls [] s
new_recalls session segments settings s new none = record {
  past = none;
  histories = λ k n here. ap (λ (m : Noding). m.entries) (new.each k n here);
  plays = tt;
  within = λ e among. absurd (Contains-none e among);
}

pub new_fresh : (session segments : ℕ) (settings : Settings) (s : Sessional) → AreNew session settings segments s.nodes → AreFresh session segments settings s
new_fresh session segments settings s new = record { count = new.many; each = new.each }
