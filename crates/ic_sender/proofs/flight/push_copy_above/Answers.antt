use Rattle.std.proofs.Common.{◌≡◌, ◌++◌, append-nil, ap, sym, ◌∙◌, arith, subst, OnOk}
use Rattle.ic_sender.specs.Sending.{copy_of}
use Rattle.ic_sender.proofs.Writing.{found_above, none_below}
use Rattle.ic_sender.proofs.Listed.{none_above}
use Rattle.ic_sender.proofs.flight.push_copy_above.Goals as goal

pub returns : goal.returns
returns c =
    let above = found_above c.args.flights.now c.args.run c.args.seq (omega (arith, c.if-seq-run.false)) in
    subst (λ o. OnOk c.push_copy.result (c.push_copy.new.out.items ≡ c.args.out.now.items ++ copy_of o)) (sym above) c.push_copy.ensures

pub returns-then-seq-run : goal.returns-then-seq-run
returns-then-seq-run c =
    sym (ap (λ o. c.args.out.now.items ++ copy_of o) (none_below c.args.flights.now c.args.run c.args.seq (omega (arith, c.if-seq-run.true))) ∙ append-nil c.args.out.now.items)

pub returns-then-seq-greatest : goal.returns-then-seq-greatest
returns-then-seq-greatest c =
    let above = found_above c.args.flights.now c.args.run c.args.seq (omega (arith, c.if-seq-run.false)) in
    let none = none_above c.args.flights.now c.args.greatest c.args.seq c.requires (omega (arith, c.if-seq-greatest.true)) in
    sym (ap (λ o. c.args.out.now.items ++ copy_of o) (above ∙ none) ∙ append-nil c.args.out.now.items)
