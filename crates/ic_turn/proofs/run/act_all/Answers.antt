use Rattle.std.proofs.Common.{◌≡◌, ◌++◌, ◌∷◌, [], ap, sym, ◌∙◌, subst, arith, append_assoc, append-nil}
use Rattle.std.proofs.lemmas.List.{nil_from_length}
use Rattle.std.specs.List.{AllByRecursion}
use Rattle.std.specs.Vec.Iter.{into_iter_items}
use Rattle.ic_turn.specs.Entries.{entries_of}
use Rattle.ic_turn.proofs.Lists.{same_push, answered_push, stood_push}
use Rattle.ic_turn.proofs.run.act_all.Goals as goal

pub loop-ask-preserved : goal.loop-ask-preserved
loop-ask-preserved g c =
    let first = c.args.machine.now in
    let inv = c.loop-ask.invariant in
    let asks = c.loop-ask.yielded in
    let replies = c.loop-ask.replies.items in
    let items = c.push_reserved.ensures.items in
    record {
      all = inv.all ∙ ap (λ l. asks ++ l) c.in-Some.ensures.steps.0 ∙ sym (append_assoc asks (c.in-Some.ask ∷ []) (into_iter_items c.next.new.self));
      same = same_push asks replies _ c.in-Some.ask c.act.result inv.same items;
      room = omega (arith, inv.room, c.push_reserved.ensures.capacity);
      kept = c.act.ensures.kept ∙ inv.kept;
      answers =
          answered_push asks replies _ c.in-Some.ask c.act.result inv.same items (g.M.Machine.answers (g.M.Machine.kept first)) inv.answers
          (subst (λ k. g.M.Machine.answers k c.in-Some.ask c.act.result) inv.kept c.act.ensures.answers);
      stands =
          stood_push asks replies _ c.in-Some.ask c.act.result inv.same items (g.M.Machine.stands (g.M.Machine.kept first) (g.M.Machine.state first))
          (g.M.Machine.stands (g.M.Machine.kept c.loop-ask.machine) (g.M.Machine.state c.loop-ask.machine))
          (g.M.Machine.stands (g.M.Machine.kept c.act.new.self) (g.M.Machine.state c.act.new.self)) inv.stands c.act.ensures.stands;
    }

pub returns-clause-answers : goal.returns-clause-answers
returns-clause-answers g c =
    let asks = c.loop-ask.yielded in
    let rest = c.loop-ask.ask-iterator.rest in
    let none : rest.items ≡ [] = nil_from_length rest.items (sym rest.ok.0 ∙ c.in-None.ensures.steps.0) in
    let whole : c.args.asks.items ≡ asks = c.loop-ask.invariant.all ∙ ap (λ l. asks ++ l) none ∙ append-nil asks in
    subst (λ l. AllByRecursion (λ e. g.M.Machine.answers (g.M.Machine.kept c.args.machine.now) e.ask e.reply) (entries_of l c.loop-ask.replies.items)) (sym whole) c.loop-ask.invariant.answers
