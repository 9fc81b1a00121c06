use Rattle.ic_expire.proofs.Keeping.{first_due}
use Rattle.ic_expire.proofs.expiry.is_first_due.Goals as goal

pub returns-in-Some : goal.returns-in-Some
returns-in-Some c = first_due c.args.items.now c.in-Some.first.now c.args.now c.in-Some.ensures.value c.requires
