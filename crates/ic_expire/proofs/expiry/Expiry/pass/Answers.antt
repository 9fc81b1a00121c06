use Rattle.std.proofs.Common.{◌≡◌, ◌≤◌, drop, sym, subst, arith, ◌∙◌}
use Rattle.ic_expire.specs.Items.{is_due}
use Rattle.ic_expire.specs.Queue.{Queue, IsQueue, without}
use Rattle.ic_expire.proofs.Keeping.{queue_asked}
use Rattle.ic_expire.proofs.expiry.Expiry.pass.Goals as goal

pub returns-clause-stands : goal.returns-clause-stands
returns-clause-stands c =
    let s = c.self.inside in
    let held = s.items.items in
    let count = c.count_due-count.result in
    let later : without (is_due c.args.now) held ≡ drop count held = subst (λ xs. without (is_due c.args.now) xs ≡ drop count xs) c.as_slice.ensures.value c.count_due-count.ensures.later in
    subst (λ items. IsQueue (record { held = items; asked = c.args.now; room = s.room })) (later ∙ sym c.remove_front.ensures.items)
    (queue_asked held s.asked s.room c.args.now (subst (λ (q : Queue). q.asked ≤ c.args.now) (sym c.self.view_is) c.requires) c.self.invariant.0)

pub invariant_of-self : goal.invariant_of-self
invariant_of-self c = (returns-clause-stands c, omega (arith, c.remove_front.ensures.capacity, c.self.invariant.1))
