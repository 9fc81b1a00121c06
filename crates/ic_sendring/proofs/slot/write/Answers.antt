use Rattle.std.proofs.Common.{◌≡◌, ◌+◌, ◌-◌, length, ap, arith}
use Rattle.ic_sendring.proofs.Block.{written_before, written_behind}
use Rattle.ic_sendring.proofs.slot.write.Goals as goal

pub returns-clause-before : goal.returns-clause-before
returns-clause-before c = λ a e le.
    written_before c.args.block.now.len c.args.at (c.args.at + length c.args.bytes.now - c.args.at) c.args.block.now.items c.deref_mut.result.now c.copy_from_slice.new.self
    c.args.block.now.ok.0 c.deref_mut.ensures.value (omega (arith, c.requires)) (let same : length c.copy_from_slice.new.self ≡ length c.args.bytes.now = ap length c.copy_from_slice.ensures.after in omega (arith, same)) a e le

pub returns-clause-behind : goal.returns-clause-behind
returns-clause-behind c = λ a e le.
    written_behind c.args.block.now.len c.args.at (c.args.at + length c.args.bytes.now - c.args.at) c.args.block.now.items c.deref_mut.result.now c.copy_from_slice.new.self
    c.args.block.now.ok.0 c.deref_mut.ensures.value (omega (arith, c.requires)) (let same : length c.copy_from_slice.new.self ≡ length c.args.bytes.now = ap length c.copy_from_slice.ensures.after in omega (arith, same)) a e (omega (arith, le))
