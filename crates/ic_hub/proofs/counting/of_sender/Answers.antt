use Rattle.std.proofs.Common.{refl, sym}
use Rattle.ic_hub.proofs.counting.of_sender.Goals as goal

pub returns : goal.returns
returns c = record {
  rows = c.rows.ensures.value;
  packets = c.sent.ensures.value;
  resent = c.resent.ensures.value;
  whole = refl;
  tells = λ h stands. record {
    rows = λ rows sent. c.rows.ensures.tells h rows stands sent;
    packets = sym (c.sent.ensures.tells h stands);
    resent = c.resent.ensures.tells h stands;
    whole = refl;
  };
}
