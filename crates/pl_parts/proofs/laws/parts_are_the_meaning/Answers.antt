use Rattle.pl_parts.proofs.Each.{each_node}
use Rattle.pl_parts.proofs.laws.parts_are_the_meaning.Goals as goal

pub returns : goal.returns
returns c = λ g wholes tables tree a s. each_node g tables wholes a tree s
