use Rattle.std.proofs.Common.{sym, ◌∙◌}
use Rattle.std.specs.HashMap.{get}
use Rattle.ic_base.specs.Keys.{key_eq}
use Rattle.ic_conntab.proofs.Firsts.{none_stays, put_had, put_had_not}
use Rattle.ic_conntab.proofs.finding.put_first.Goals as goal

pub returns-then-contains_key-clause-had_not : goal.returns-then-contains_key-clause-had_not
unfolding key_eq
returns-then-contains_key-clause-had_not c =
    none_stays (get key_eq c.args.places.now) c.args.key.now c.args.place (sym c.contains_key.ensures ∙ c.if-contains_key.true)

pub returns-clause-had : goal.returns-clause-had
unfolding key_eq
returns-clause-had c =
    put_had (get key_eq c.args.places.now) (get key_eq c.insert.new.self) c.args.key.now c.args.place c.in_ok-insert.ensures.updates.0
    (sym c.contains_key.ensures ∙ c.if-contains_key.false)

pub returns-clause-had_not : goal.returns-clause-had_not
unfolding key_eq
returns-clause-had_not c =
    put_had_not (get key_eq c.args.places.now) (get key_eq c.insert.new.self) c.args.key.now c.args.place c.in_ok-insert.ensures.updates.0
