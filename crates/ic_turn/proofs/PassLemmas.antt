-- What a pass holds, by its seat's view.
use Rattle.std.proofs.Common.{◌≡◌, ℕ, ◌+◌, ◌<◌, List, [], ◌∷◌, ◌++◌, length, refl, ap, sym, ◌∙◌, subst, arith}
use Rattle.ic_turn.specs.declared.view.Numbered.{Numbered}
use Rattle.ic_turn.specs.declared.view.Part.{Part}
use Rattle.ic_turn.specs.declared.view.View.{View}
use Rattle.ic_turn.specs.Parts.{blank_down, HasAll, ArePartsOf}
use Rattle.ic_turn.specs.Views.{with_spares, own_number, own_entries, others_of, held_of}
use Rattle.ic_turn.specs.Passes.{Turning, Passing, held, HoldsAll, met_once, passing}

held_parts : {A R : Type 0} (n : ℕ) (ps : List (Part A R)) → 0 < length ps → record { number = own_number ps; entries = own_entries ps } ∷ (blank_down n ++ others_of ps) ≡ with_spares n ps
held_parts n [] h = absurd (omega arith)
held_parts n (p ∷ ps) h = refl

pub held_is : {A R K S : Type 0} (turn : Turning K) (v : View A R K S) → 0 < length v.parts → held (passing turn v) ≡ held_of v
held_is turn v h = held_parts v.spare v.parts h

pub met_more : {A R K : Type 0} (p q r : Passing A R K) (often : ℕ) → q ≡ record p { met = p.met + often } → r ≡ met_once q → r ≡ record p { met = p.met + (often + 1) }
met_more p q r often was now =
    let more : (p.met + often) + 1 ≡ p.met + (often + 1) = omega arith in
    now ∙ ap met_once was ∙ (λ j. record p { met = more j })

module _ {A R K S : Type 0} (turn : Turning K) (v : View A R K S) (p : Passing A R K) (is : passing turn v ≡ p) (same_passes : v.passes ≡ turn.passes) (some_part : 0 < length v.parts) where
  pub same_held : held_of v ≡ held p
  same_held = sym (held_is turn v some_part) ∙ ap held is

  passes_is : v.passes ≡ p.turn.passes
  passes_is = same_passes ∙ ap (λ q. q.turn.passes) is

  pub all_of_seat : HoldsAll p → HasAll v.passes (held_of v)
  all_of_seat = subst (λ (x : ℕ × List (Part A R)). HasAll x.0 x.1) (λ j. (sym passes_is j, sym same_held j))

  pub all_of_pass : HasAll v.passes (held_of v) → HoldsAll p
  all_of_pass = subst (λ (x : ℕ × List (Part A R)). HasAll x.0 x.1) (λ j. (passes_is j, same_held j))

  pub parts_of_pass : (list : List (Numbered A R)) → ArePartsOf list (held_of v) → ArePartsOf list (held p)
  parts_of_pass list = subst (ArePartsOf list) same_held
