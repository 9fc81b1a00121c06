use Rattle.std.proofs.Common.{◌∙◌, Ok, refl, ap, sym}
use Rattle.ic_header.specs.Reading.{read_header, seen}
use Rattle.ic_hub.specs.Coming.{Unread, Read}
use Rattle.ic_hub.proofs.ComingSteps.{heads_fits}
use Rattle.ic_hub.proofs.hub.Hub.hear_any.Goals as goal

pub hear-requires-clause-fits : goal.hear-requires-clause-fits
hear-requires-clause-fits c = heads_fits c.in-Ok.head c.in-Ok.body.now c.as_slice.result.now c.in-Ok.ensures.heads

pub returns-in-Ok : goal.returns-in-Ok
returns-in-Ok c =
    Read c.in-Ok.head c.in-Ok.body.now (ap read_header (sym c.as_slice.ensures) ∙ sym c.read.ensures.exact ∙ ap seen c.in-Ok.is) c.hear.ensures

pub returns-in-Err : goal.returns-in-Err
returns-in-Err c =
    Unread c.in-Err.fault (ap read_header (sym c.as_slice.ensures) ∙ sym c.read.ensures.exact ∙ ap seen c.in-Err.is) (ap Ok c.dropped.ensures) refl
