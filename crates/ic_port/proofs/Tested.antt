-- The ends that tests begin a query with.
use Rattle.std.proofs.Common.{◌≡◌, ℤ, pos, negsuc, List, [], ◌∷◌, true, false, refl, ap, sym, ◌∙◌, subst, arith}
use Rattle.ic_base.specs.declared.keys.ConnEnd.{ConnEnd}
use Rattle.ic_base.specs.Ports.{Hears, HearsFrom}
use Rattle.ic_law.specs.Points.{Place}
use Rattle.ic_law.specs.Asking.{IsEndHere, AreEnds}
use Rattle.ic_hub.proofs.Gathers.{gather_ends}

-- the dispatcher's end of motion 1 from this segment
abbrev pub hearing : ℤ → ConnEnd
hearing from = record { key = record { session = 7; query = 1; motion = 1; from = from; to = negsuc 0 }; sending = false; send_slice = 1; recv_slice = 0 }

here : (place : Place) (from : ℤ) → place.session ≡ 7 → place.at ≡ negsuc 0 → IsEndHere place 1 (hearing from)
here place from session at = record {
  session = sym session;
  query_is = refl;
  sends_here = λ sends. absurd (let bad : false ≡ true = sends in cc);
  receives_here = λ hears. sym at;
}

pub hearing_ends : (place : Place) (ends : List ConnEnd) (a b : ConnEnd) (first second : ℤ) → place.session ≡ 7 → place.at ≡ negsuc 0 → ends ≡ a ∷ b ∷ [] → a ≡ hearing first → b ≡ hearing second
    → first ≡ pos 0 → second ≡ pos 1 → AreEnds place 1 ends
hearing_ends place ends a b first second session at are a_is b_is first_is second_is =
    subst (λ l. AreEnds place 1 l) (sym (are ∙ ap (λ x. x ∷ b ∷ []) a_is ∙ ap (λ x. hearing first ∷ x ∷ []) b_is))
    (gather_ends place 1 (hearing first) (hearing second) (here place first session at) (here place second session at) first_is refl second_is refl)

pub heard : (ends : List ConnEnd) (a b : ConnEnd) (first second : ℤ) → ends ≡ a ∷ b ∷ [] → a ≡ hearing first → b ≡ hearing second → second ≡ pos 1 → Hears ends 1 × HearsFrom ends 1 (pos 1)
heard ends a b first second are a_is b_is second_is =
    let all : ends ≡ hearing first ∷ hearing second ∷ [] = are ∙ ap (λ x. x ∷ b ∷ []) a_is ∙ ap (λ x. hearing first ∷ x ∷ []) b_is in
    let one : Hears (hearing first ∷ hearing second ∷ []) 1 = (0, hearing first, omega arith, refl, (refl, refl)) in
    let two : HearsFrom (hearing first ∷ hearing second ∷ []) 1 (pos 1) = (1, hearing second, omega arith, refl, (refl, refl, second_is)) in
    (subst (λ l. Hears l 1) (sym all) one, subst (λ l. HearsFrom l 1 (pos 1)) (sym all) two)
