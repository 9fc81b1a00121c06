-- What a step leaves as it is: the rows that were handed over, and what the operators gave.
use Rattle.std.proofs.Common.{◌≡◌, ℕ, ℤ, false, List, [], ◌∷◌, ◌++◌, Option, refl, sym, ap, subst, inl, inr, append-nil}
use Rattle.std.specs.Prelude.{◌⊎◌}
use Rattle.ic_base.specs.declared.port.PortReply.{PortReply}
use Rattle.ic_base.specs.declared.port.PortReply.TheVariants as reply
use Rattle.ic_base.specs.declared.port.PortNo.TheVariants.{Full, Empty, Stopped, Ended, TooLong, Busy, Memory}
use Rattle.pl_ops.specs.Rows.{Line}
use Rattle.pl_runs.specs.Steps.{Step, sends_on, takes_of, halts_from}
use Rattle.pl_runs.specs.Logs.{IsRead}
use Rattle.ic_motion.specs.Pulling.{AtMostOne}
use Rattle.ic_motion.specs.Sending.{Sender}
use Rattle.ic_motion.specs.Sent.{SameOut, IsPut, IsFinish, IsAnswered, WasAnswered, IfMadeAnswered}
use Rattle.ex_tree.specs.Parts.{Part, out}
use Rattle.ex_tree.specs.Running.{State, Runs}
use Rattle.ex_tree.proofs.Frames.{out_pass, runs_pass, silent_at, quiet_so, IsSilentFor}
use Rattle.ex_slice.specs.declared.way.Way.{Way}
use Rattle.ex_slice.specs.declared.way.Way.TheVariants as ways
use Rattle.ex_slice.specs.Working.{Passed, Handles, SameWay}
use Rattle.ex_slice.specs.Turning.{is_waiting, MadeCall}
use Rattle.ex_slice.proofs.Asks.{not_both}
use Rattle.ex_slice.proofs.Points.{passes_by}

-- ---- steps at the way

abbrev pub IsMute : Step → Type 0
IsMute s = (motion : ℕ) (to : ℤ) → sends_on motion to s.entry.ask ≡ false

pub passed_on : (m : Sender) (hand : Option Line) (steps more : List Step) (given : List Line) → AtMostOne IsMute more → Passed m hand steps given → Passed m hand (steps ++ more) given
passed_on m hand steps [] given mute p = subst (λ k. Passed m hand k given) (sym (append-nil steps)) p
passed_on m hand steps (s ∷ []) given mute p = record { rows = p.rows; sends = passes_by m steps s p.rows (mute m.motion) p.sends; given_are = p.given_are; idle = p.idle; are_rows = p.are_rows; hand_is_row = p.hand_is_row }
passed_on m hand steps (s ∷ t ∷ more) given mute p = absurd mute

pub handles_on : (way : Way) (steps more : List Step) (given let_out : List Line) → AtMostOne IsMute more → Handles way steps given let_out → Handles way (steps ++ more) given let_out
handles_on (ways.Lets rows) steps more given let_out mute h = h
handles_on (ways.Passes m hand) steps more given let_out mute h = (h.0, passed_on m hand steps more given mute h.1)

-- ---- steps at the operators

-- it takes nothing, and halts nobody
pub record IsOfSending (s : Step) : Type 0 where
  pub takes : (motion : ℕ) → takes_of motion s.entry.ask ≡ false
  pub halts : (motion : ℕ) (a : ℤ) → halts_from motion a s.entry.ask ≡ false
  pub rows : s.rows ≡ []

pub put_sends : (m : Sender) (steps : List Step) (s : Step) → IsPut m steps s → IsOfSending s
put_sends m steps s h = record { takes = λ motion. ap (takes_of motion) h.ask; halts = λ motion a. ap (halts_from motion a) h.ask; rows = h.rows }

pub finish_sends : (m : Sender) (steps : List Step) (rows : List Line) (s : Step) → IsFinish m steps rows s → IsOfSending s
finish_sends m steps rows s h = record { takes = λ motion. ap (takes_of motion) h.ask; halts = λ motion a. ap (halts_from motion a) h.ask; rows = h.rows_are }

silent_for : (part : Part) (s : Step) → IsOfSending s → IsSilentFor part s
silent_for part s h = λ source has. silent_at source.end.motion s (h.takes source.end.motion) (h.halts source.end.motion)

pub runs_on : (part : Part) (tree : State) (steps more : List Step) (given : List Line) → AtMostOne IsOfSending more → Runs part tree steps given → Runs part tree (steps ++ more) given
runs_on part tree steps [] given h r = subst (λ k. Runs part tree k given) (sym (append-nil steps)) r
runs_on part tree steps (s ∷ []) given h r = runs_pass part tree steps s (silent_for part s h) given r
runs_on part tree steps (s ∷ t ∷ more) given h r = absurd h

pub out_on : (part : Part) (steps more : List Step) → AtMostOne IsOfSending more → out part (steps ++ more) ≡ out part steps
out_on part steps [] h = ap (out part) (append-nil steps)
out_on part steps (s ∷ []) h = out_pass part steps s (quiet_so part s (silent_for part s h))
out_on part steps (s ∷ t ∷ more) h = absurd h

pub read_sending : (steps : List Step) (s : Step) → IsOfSending s → IsRead steps s
read_sending steps s h = record { took = λ motion p takes gave. absurd (not_both (takes_of motion s.entry.ask) takes (h.takes motion)); none = λ e. h.rows }

-- ---- answers

answered_so : (r : PortReply) → IsAnswered r → is_waiting r ≡ false
answered_so reply.Did h = refl
answered_so (reply.Gave p) h = absurd h
answered_so (reply.Refused Stopped) h = refl
answered_so (reply.Refused Full) h = absurd h
answered_so (reply.Refused Empty) h = absurd h
answered_so (reply.Refused Ended) h = absurd h
answered_so (reply.Refused (TooLong key)) h = absurd h
answered_so (reply.Refused Busy) h = absurd h
answered_so (reply.Refused Memory) h = absurd h

pub made_answered : (more : List Step) → WasAnswered more → MadeCall more
made_answered more (s, is, answered) = (s, is, inr (answered_so s.entry.reply answered))

-- no call was made, or one that got somewhere
pub made_or_none : (more : List Step) → IfMadeAnswered more → (more ≡ []) ⊎ MadeCall more
made_or_none [] h = inl refl
made_or_none (s ∷ []) h = inr (s, refl, inr (answered_so s.entry.reply h))
made_or_none (s ∷ t ∷ more) h = absurd h

-- ---- the same way

pub same_out : (m : Sender) → SameOut m m
same_out m = record { motion = refl; kind = refl; packet = refl; receivers = refl }

pub same_way : (way : Way) → SameWay way way
same_way (ways.Lets rows) = tt
same_way (ways.Passes m hand) = same_out m
