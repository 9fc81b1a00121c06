use Rattle.std.proofs.Common.{◌≡◌, ℕ, ◌+◌, Bool, true, false, not, cond, [], ◌∷◌, ◌++◌, is_some, refl, ap, sym, ◌∙◌}
use Rattle.std.specs.List.{filter}
use Rattle.std.proofs.lemmas.List.Elements.{filter-append}
use Rattle.ic_recvring.specs.Numbers.{numbers_from}
use Rattle.ic_recvring.specs.Views.{packet_at, is_absent}
use Rattle.ic_recvring.proofs.Among.{numbers_from-more}
use Rattle.ic_recvring.proofs.window.absent.Goals as goal

turned : (b : Bool) (n : ℕ) → cond b [] (n ∷ []) ≡ cond (not b) (n ∷ []) []
turned true n = refl
turned false n = refl

pub loop-behind-preserved : goal.loop-behind-preserved
loop-behind-preserved c =
    let test = is_absent c.args.slots.now c.args.depth in
    let from = c.args.run + 1 in
    let before = filter test (numbers_from from c.loop-behind.behind) in
    let seq = from + c.loop-behind.behind in
    c.in_ok-push_absent.ensures
    ∙ ap (λ l. l ++ cond c.is_kept.result [] (seq ∷ [])) c.loop-behind.invariant
    ∙ ap (λ b. before ++ cond b [] (seq ∷ [])) c.is_kept.ensures
    ∙ ap (λ l. before ++ l) (turned (is_some (packet_at c.args.slots.now c.args.depth seq)) seq)
    ∙ sym (ap (filter test) (numbers_from-more from c.loop-behind.behind) ∙ filter-append test (numbers_from from c.loop-behind.behind) (seq ∷ []))
