use Rattle.std.proofs.Common.{List, ℕ, [], false, sym, subst}
use Rattle.ic_chunk.specs.Joining.{Stands}
use Rattle.ic_chunk.proofs.Standings.{stands-none}
use Rattle.ic_chunk.proofs.joiner.Joiner.new.Goals as goal

pub returns-clause-stands : goal.returns-clause-stands
returns-clause-stands c = subst (λ (l : List ℕ). Stands (record { rest = l; ended = false }) [] []) (sym c.new.ensures.items) stands-none
