-- The test on two keys is the same both ways.
use Rattle.std.proofs.Common.{◌≡◌, ◌&&◌}
use Rattle.std.specs.Cmp.{nat_eq_equiv, int_eq_equiv}
use Rattle.ic_base.specs.Keys.{key_eq}
use Rattle.ic_base.specs.declared.keys.ConnKey.{ConnKey}

pub key_eq-flips : (a b : ConnKey) → key_eq a b ≡ key_eq b a
unfolding key_eq
key_eq-flips a b i =
    nat_eq_equiv.symm a.session b.session i && (nat_eq_equiv.symm a.query b.query i
    && (nat_eq_equiv.symm a.motion b.motion i && (int_eq_equiv.symm a.from b.from i && int_eq_equiv.symm a.to b.to i)))
