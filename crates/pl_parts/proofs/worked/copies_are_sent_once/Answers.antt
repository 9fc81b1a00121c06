use Rattle.pl_parts.proofs.Stories.{copies_are_sent_once}
use Rattle.pl_parts.proofs.worked.copies_are_sent_once.Goals as goal

pub returns : goal.returns
returns c = copies_are_sent_once
