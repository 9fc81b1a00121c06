use Rattle.std.proofs.Common.{◌≡◌, [], ◌∷◌, ◌++◌, Some, None, MatchOption, ap, sym, ◌∙◌, subst, append_assoc, Bor}
use Rattle.ic_law.specs.declared.history.Entry.{Entry}
use Rattle.gd_world.specs.Worlds.{all_events}
use Rattle.gd_world.proofs.Sending.{last_is}
use Rattle.gd_world.proofs.world.World.last_entry.Goals as goal

pub returns : goal.returns
returns c = λ q x es e stands is.
    subst (λ o. MatchOption c.last_entry.result (o ≡ None) (λ (y : Bor Entry). o ≡ Some y.now))
    (last_is (all_events x) c.args.self.now.session stands.recalls (x.earlier ++ es) e (ap (λ l. x.earlier ++ l) is ∙ sym (append_assoc x.earlier es (e ∷ [])))) c.last_entry.ensures
