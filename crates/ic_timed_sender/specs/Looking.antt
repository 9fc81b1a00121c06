-- What a look at the next tick answers.
use Rattle.std.specs.Prelude.{◌≡◌, ℕ, List, false, Result, Ok, Err, Some, None}
use Rattle.ic_base.specs.declared.datagram.Datagram.{Datagram}
use Rattle.ic_sender.specs.declared.send_no.SendNo.{SendNo}
use Rattle.ic_sender.specs.declared.send_no.SendNo.TheVariants as refused
use Rattle.ic_timed_sender.specs.declared.due.Due.{Due}
use Rattle.ic_timed_sender.specs.Timed.{TimedState, numbers_due, first_spent, is_query_spent, datagrams_due, queries_due}

-- what is due at the next tick; or the first packet of it with no resending left
pub data Looks (o : TimedState) (result : Result Due SendNo) : Type 0 where
  Again : first_spent o ≡ None → result ≡ Ok (record { numbers = numbers_due o; datagrams = datagrams_due o }) → Looks o result
  GivenUp : (n : ℕ) → first_spent o ≡ Some n → result ≡ Err (refused.Spent o.sending.end.key n o.sending.settings.retries) → Looks o result
  LooksWithout : result ≡ Err refused.Memory → Looks o result

-- what is due then, of which no packet is given up
pub record GivesDue (o : TimedState) (d : Due) : Type 0 where
  pub numbers : d.numbers ≡ numbers_due o
  pub datagrams : d.datagrams ≡ datagrams_due o
  pub unspent : first_spent o ≡ None

-- the status query that is due then, and isn't given up
pub record GivesQuery (o : TimedState) (ds : List Datagram) : Type 0 where
  pub datagrams : ds ≡ queries_due o
  pub answered : is_query_spent o ≡ false
