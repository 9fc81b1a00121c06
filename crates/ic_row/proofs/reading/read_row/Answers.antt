use Rattle.std.proofs.Common.{arith}
use Rattle.ic_row.proofs.Answered.{is_found, is_fault, is_only}
use Rattle.ic_row.proofs.reading.read_row.Goals as goal

pub returns-clause-ok : goal.returns-clause-ok
returns-clause-ok c = is_found c.args.bytes.now c.placed.result (λ i. omega (arith, c.type_inv.bytes i)) c.placed.ensures

pub returns-clause-only : goal.returns-clause-only
returns-clause-only c = λ row spells. is_only c.args.bytes.now c.placed.result row spells c.placed.ensures

pub returns-clause-fault : goal.returns-clause-fault
returns-clause-fault c = is_fault c.args.bytes.now c.placed.result (λ i. omega (arith, c.type_inv.bytes i)) c.placed.ensures
