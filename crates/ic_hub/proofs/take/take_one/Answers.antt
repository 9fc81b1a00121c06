use Rattle.std.proofs.Common.{Ok, Err, ap}
use Rattle.ic_hub.specs.Taking.{Hands}
use Rattle.ic_hub.proofs.Receivers.{take_refused}
use Rattle.ic_hub.proofs.take.take_one.Goals as goal

pub returns-in-Ok-take : goal.returns-in-Ok-take
returns-in-Ok-take c = Hands c.in-Ok-take.parcel c.in-Ok-take.told (ap (λ ds. Ok (c.in-Ok-take.parcel, ds)) c.listed.ensures) c.in-Ok-take.ensures.hands c.in-Ok-take.ensures.stands c.in-Ok-take.ensures.takes

pub returns-in-Err : goal.returns-in-Err
returns-in-Err c =
    take_refused _ _ c.in-Err.no _ (ap Err c.take_no.ensures) c.in-Err.ensures.err
    (λ is. c.in-Err.ensures.empty.0 (ap Err is)) (λ is. c.in-Err.ensures.stands_empty (ap Err is))
    (λ is. c.in-Err.ensures.ended.0 (ap Err is)) (λ is. c.in-Err.ensures.stands_ended (ap Err is))
