use Rattle.std.proofs.Common.{◌≡◌, ◌≤◌, ◌<◌, ◌+◌, ◌∷◌, ◌++◌, Bool, length, take, drop, sym, ap, ◌∙◌, subst, arith, take-append-drop}
use Rattle.std.specs.List.{filter}
use Rattle.std.specs.Ordering.{is_lt}
use Rattle.ic_expire.specs.declared.item.Item.{Item}
use Rattle.ic_expire.specs.Items.{item_cmp}
use Rattle.ic_expire.specs.Queue.{without, with_item, IsHeld, Queue, IsQueue}
use Rattle.ic_expire.proofs.Keeping.{queue_with}
use Rattle.ic_expire.proofs.expiry.Expiry.put.Goals as goal

pub returns-clause-stands : goal.returns-clause-stands
returns-clause-stands c =
    let s = c.self.inside in
    let held = s.items.items in
    let place = c.place_of-place.result in
    let x : Item = record { due = c.args.due; conn = c.args.conn; seq = c.args.seq } in
    let test : Item → Bool = λ y. is_lt (item_cmp y x) in
    let front : filter test held ≡ take place held = subst (λ xs. filter test xs ≡ take place xs) c.as_slice.ensures.value c.place_of-place.ensures.before in
    let back : without test held ≡ drop place held = subst (λ xs. without test xs ≡ drop place xs) c.as_slice.ensures.value c.place_of-place.ensures.behind in
    subst (λ items. IsQueue (record { held = items; asked = s.asked; room = s.room })) (sym c.insert.ensures.items)
    (queue_with held (take place held) (drop place held) s.asked s.room c.args.conn c.args.seq c.args.due (take-append-drop place held) front back
    (subst (λ (q : Queue). length q.held < q.room) (sym c.self.view_is) c.requires.room)
    (subst (λ (q : Queue). IsHeld c.args.conn c.args.seq q.held → ⊥) (sym c.self.view_is) c.requires.absent)
    (subst (λ (q : Queue). q.asked ≤ c.args.due) (sym c.self.view_is) c.requires.from)
    (subst (λ (q : Queue). c.args.due ≤ q.asked + 64) (sym c.self.view_is) c.requires.upto)
    c.self.invariant.0)

pub invariant_of-self : goal.invariant_of-self
invariant_of-self c = (returns-clause-stands c, omega (arith, c.insert.ensures.capacity, c.self.invariant.1))

pub returns-clause-ok : goal.returns-clause-ok
returns-clause-ok c =
    let s = c.self.inside in
    let held = s.items.items in
    let place = c.place_of-place.result in
    let x : Item = record { due = c.args.due; conn = c.args.conn; seq = c.args.seq } in
    let test : Item → Bool = λ y. is_lt (item_cmp y x) in
    let front : filter test held ≡ take place held = subst (λ xs. filter test xs ≡ take place xs) c.as_slice.ensures.value c.place_of-place.ensures.before in
    let back : without test held ≡ drop place held = subst (λ xs. without test xs ≡ drop place xs) c.as_slice.ensures.value c.place_of-place.ensures.behind in
    let made : c.insert.new.items.items ≡ with_item x held = c.insert.ensures.items ∙ ap (λ l. l ++ x ∷ drop place held) (sym front) ∙ ap (λ l. filter test held ++ x ∷ l) (sym back) in
    ap (λ items. record { held = items; asked = s.asked; room = s.room }) made ∙ ap (λ (q : Queue). record q { held = with_item x q.held }) c.self.view_is
