use Rattle.pl_parts.proofs.Each.{root_part}
use Rattle.pl_parts.proofs.laws.the_root_part_is_the_meaning.Goals as goal

pub returns : goal.returns
returns c = λ g wholes tables tree a s. root_part g tables wholes a tree s
