-- The connections of a worker, by its ends.
use Rattle.std.proofs.Common.{◌≡◌, ℕ, ℤ, List, false, Result, Ok, Err, refl, ap, sym, ◌∙◌, subst, arith}
use Rattle.std.specs.Prelude.{IfErr}
use Rattle.std.specs.List.{Contains}
use Rattle.ic_base.specs.declared.keys.ConnKey.{ConnKey}
use Rattle.ic_base.specs.declared.keys.ConnEnd.{ConnEnd}
use Rattle.ic_base.specs.declared.port.PortNo.{PortNo}
use Rattle.ic_base.specs.declared.port.PortNo.TheVariants as port
use Rattle.ic_base.specs.declared.port.PortReply.{PortReply}
use Rattle.ic_base.specs.declared.port.PortReply.TheVariants.{Did, Refused}
use Rattle.ic_base.specs.Ports.{SendsTo, SendsAs, HearsFrom, did, CountsBusy, MayRefusePut, MayRefuseHalt}
use Rattle.ic_law.specs.Points.{Place}
use Rattle.ic_law.specs.Asking.{AreEnds}
use Rattle.ic_port.specs.Telling.{TellsPut, TellsHalt}

abbrev pub key_of : ℕ → ℕ → ℕ → ℤ → ℤ → ConnKey
key_of session query motion from to = record { session = session; query = query; motion = motion; from = from; to = to }

-- a key by its fields
key_is : (k : ConnKey) (session query motion : ℕ) (from to : ℤ) → k.session ≡ session → k.query ≡ query → k.motion ≡ motion → k.from ≡ from → k.to ≡ to → k ≡ key_of session query motion from to
key_is k session query motion from to a b c d e =
    ap (λ x. key_of x k.query k.motion k.from k.to) a ∙ ap (λ x. key_of session x k.motion k.from k.to) b ∙ ap (λ x. key_of session query x k.from k.to) c
    ∙ ap (λ x. key_of session query motion x k.to) d ∙ ap (λ x. key_of session query motion from x) e

-- the end of a connection that is sent on
pub sends_as : (place : Place) (query : ℕ) (ends : List ConnEnd) (motion : ℕ) (to : ℤ) → AreEnds place query ends → SendsTo ends motion to
    → SendsAs ends motion to (key_of place.session query motion place.at to)
sends_as place query ends motion to are sends =
    let end : ConnEnd = sends.1 in
    let here = are.each end (sends.0, sends.2, sends.3) in
    (refl, refl, (sends.0, end, sends.2, sends.3, (sends.4.0, key_is end.key place.session query motion place.at to here.session here.query_is sends.4.1 (here.sends_here sends.4.0) sends.4.2)))

-- an end at which a segment is heard
pub record HeardAt (ends : List ConnEnd) (key : ConnKey) : Type 0 where
  pub end : ConnEnd
  pub among : Contains ends end
  pub receiving : end.sending ≡ false
  pub key_is : end.key ≡ key

pub heard_at : (place : Place) (query : ℕ) (ends : List ConnEnd) (motion : ℕ) (sender : ℤ) → AreEnds place query ends → HearsFrom ends motion sender
    → HeardAt ends (key_of place.session query motion sender place.at)
heard_at place query ends motion sender are hears =
    let end : ConnEnd = hears.1 in
    let among : Contains ends end = (hears.0, hears.2, hears.3) in
    let here = are.each end among in
    record {
      end = end;
      among = among;
      receiving = hears.4.0;
      key_is = key_is end.key place.session query motion sender place.at here.session here.query_is hears.4.1 hears.4.2 (here.receives_here hears.4.0);
    }

-- ---- refusals

pub put_refused : (ends : List ConnEnd) (motion : ℕ) (to : ℤ) (key : ConnKey) → SendsAs ends motion to key → (r : Result (Unit {0}) PortNo) → IfErr r (TellsPut key) → IfErr r (MayRefusePut ends motion to)
put_refused ends motion to key is (Ok u) h = tt
put_refused ends motion to key is (Err port.Full) h = tt
put_refused ends motion to key is (Err port.Empty) h = h
put_refused ends motion to key is (Err port.Stopped) h = tt
put_refused ends motion to key is (Err port.Ended) h = h
put_refused ends motion to key is (Err (port.TooLong which)) h = subst (SendsAs ends motion to) (sym h) is
put_refused ends motion to key is (Err port.Busy) h = tt
put_refused ends motion to key is (Err port.Memory) h = tt

pub halt_refused : (r : Result (Unit {0}) PortNo) → IfErr r TellsHalt → IfErr r MayRefuseHalt
halt_refused (Ok u) h = tt
halt_refused (Err port.Full) h = h
halt_refused (Err port.Empty) h = h
halt_refused (Err port.Stopped) h = h
halt_refused (Err port.Ended) h = h
halt_refused (Err (port.TooLong which)) h = h
halt_refused (Err port.Busy) h = tt
halt_refused (Err port.Memory) h = tt

-- ---- it is never busy

pub still : (reply : PortReply) → (reply ≡ Refused port.Busy → ⊥) → CountsBusy 0 0 reply
still reply not_busy = record { later = omega arith; rose = λ busy. absurd (not_busy busy) }

pub put_counts : (key : ConnKey) (r : Result (Unit {0}) PortNo) → IfErr r (TellsPut key) → CountsBusy 0 0 (did r)
put_counts key (Ok u) h = still Did (λ bad. cc)
put_counts key (Err port.Full) h = still (Refused port.Full) (λ bad. cc)
put_counts key (Err port.Empty) h = absurd h
put_counts key (Err port.Stopped) h = still (Refused port.Stopped) (λ bad. cc)
put_counts key (Err port.Ended) h = absurd h
put_counts key (Err (port.TooLong which)) h = still (Refused (port.TooLong which)) (λ bad. cc)
put_counts key (Err port.Busy) h = absurd h
put_counts key (Err port.Memory) h = still (Refused port.Memory) (λ bad. cc)

pub halt_counts : (r : Result (Unit {0}) PortNo) → IfErr r TellsHalt → CountsBusy 0 0 (did r)
halt_counts (Ok u) h = still Did (λ bad. cc)
halt_counts (Err port.Full) h = absurd h
halt_counts (Err port.Empty) h = absurd h
halt_counts (Err port.Stopped) h = absurd h
halt_counts (Err port.Ended) h = absurd h
halt_counts (Err (port.TooLong which)) h = absurd h
halt_counts (Err port.Busy) h = absurd h
halt_counts (Err port.Memory) h = still (Refused port.Memory) (λ bad. cc)
