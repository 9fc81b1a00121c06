-- A look by its steps.
use Rattle.std.proofs.Common.{◌≡◌, ℕ, List, Result, Ok, Err, refl, ap, sym, ◌∙◌, subst}
use Rattle.std.specs.Prelude.{IfOk}
use Rattle.ic_base.specs.declared.datagram.Datagram.{Datagram}
use Rattle.ic_sender.specs.declared.send_no.SendNo.{SendNo}
use Rattle.ic_sender.specs.declared.send_no.SendNo.TheVariants as refused
use Rattle.ic_sender.specs.Sending.{spent_of, copies}
use Rattle.ic_sender.specs.Calls.{Tries, Queries}
use Rattle.ic_timed_sender.specs.declared.due.Due.{Due}
use Rattle.ic_timed_sender.specs.Timed.{TimedState, next_tick, numbers_due}
use Rattle.ic_timed_sender.specs.Looking.{Looks, GivesDue, GivesQuery}

pub looks_ok : (o : TimedState) (numbers : List ℕ) (ds : List Datagram) → numbers ≡ numbers_due o → Tries o.sending numbers (Ok ds) → Looks o (Ok (record { numbers = numbers; datagrams = ds }))
looks_ok o numbers ds are (Tries.Again none is) =
    let same : ds ≡ copies o.sending.flights numbers = cc in
    Looks.Again (ap (spent_of o.sending) (sym are) ∙ none)
    (ap (λ (l : List Datagram). made numbers l) same ∙ ap (λ (l : List ℕ). made l (copies o.sending.flights l)) are)
  where
    made : List ℕ → List Datagram → Result Due SendNo
    made l x = Ok (record { numbers = l; datagrams = x })
looks_ok o numbers ds are (Tries.Spent n spent is) = absurd (cc)
looks_ok o numbers ds are (Tries.AgainWithout is) = absurd (cc)

pub looks_err : (o : TimedState) (numbers : List ℕ) (e : SendNo) → numbers ≡ numbers_due o → Tries o.sending numbers (Err e) → Looks o (Err e)
looks_err o numbers e are (Tries.Again none is) = absurd (cc)
looks_err o numbers e are (Tries.Spent n spent is) =
    let same : e ≡ refused.Spent o.sending.end.key n o.sending.settings.retries = cc in
    Looks.GivenUp n (ap (spent_of o.sending) (sym are) ∙ spent) (ap err same)
  where
    err : SendNo → Result Due SendNo
    err x = Err x
looks_err o numbers e are (Tries.AgainWithout is) =
    let same : e ≡ refused.Memory = cc in
    Looks.LooksWithout (ap err same)
  where
    err : SendNo → Result Due SendNo
    err x = Err x

pub looks_give : (o : TimedState) (result : Result Due SendNo) → Looks o result → IfOk result (GivesDue o)
looks_give o result (Looks.Again none is) = subst (λ (r : Result Due SendNo). IfOk r (GivesDue o)) (sym is) (record { numbers = refl; datagrams = refl; unspent = none })
looks_give o result (Looks.GivenUp n spent is) = subst (λ (r : Result Due SendNo). IfOk r (GivesDue o)) (sym is) tt
looks_give o result (Looks.LooksWithout is) = subst (λ (r : Result Due SendNo). IfOk r (GivesDue o)) (sym is) tt

pub queries_give : (o : TimedState) (result : Result (List Datagram) SendNo) → Queries o.sending (next_tick o.now) result → IfOk result (GivesQuery o)
queries_give o result (Queries.Asks answered is) = subst (λ (r : Result (List Datagram) SendNo). IfOk r (GivesQuery o)) (sym is) (record { datagrams = refl; answered = answered })
queries_give o result (Queries.Unanswered unanswered is) = subst (λ (r : Result (List Datagram) SendNo). IfOk r (GivesQuery o)) (sym is) tt
queries_give o result (Queries.AsksWithout is) = subst (λ (r : Result (List Datagram) SendNo). IfOk r (GivesQuery o)) (sym is) tt
