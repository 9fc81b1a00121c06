use Rattle.std.proofs.Common.{refl, sym}
use Rattle.ic_hub.proofs.counting.of_receiver.Goals as goal

pub returns : goal.returns
returns c = record {
  rows = c.rows.ensures.value;
  packets = refl;
  resent = refl;
  whole = c.is_whole.ensures.value;
  tells = λ settings h stands. record {
    rows = λ rows taken. c.rows.ensures.tells settings h rows stands taken;
    packets = refl;
    resent = refl;
    whole = sym (c.is_whole.ensures.tells settings h stands);
  };
}
