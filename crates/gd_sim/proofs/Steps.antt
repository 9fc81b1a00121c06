-- Steps behind each other.
use Rattle.std.proofs.Common.{◌≡◌, ℤ, List, true}
use Rattle.ic_row.specs.declared.value.Value.{Value}
use Rattle.ic_port.specs.Noding.{IsLawful}
use Rattle.gd_sim.specs.declared.station.Station.{Station}
use Rattle.gd_sim.specs.declared.sim.Sim.{Sim}
use Rattle.gd_sim.specs.Playing.{Gather, AllPlay}
use Rattle.gd_sim.specs.Stations.{Goes, AllGoes, PlayGoes, CanPlay}
use Rattle.gd_sim.proofs.Ending.{grow_none, grow_more}

-- ---- nothing done

pub goes_same : (g : Gather) (s : Sim) → AllPlay g s → Goes g s s
goes_same g s play = record { play = play; grow = grow_none g.query s }

pub all_same : (s : Sim) → AllGoes s s
all_same s = λ g play. goes_same g s play

pub play_same : (rows_at : ℤ → List (List Value)) (s : Sim) → PlayGoes rows_at s s
play_same rows_at s = λ g play rows. goes_same g s play

-- ---- one behind another

pub goes_on : (g : Gather) (a b c : Sim) → Goes g a b → Goes g b c → Goes g a c
goes_on g a b c first second = record { play = second.play; grow = grow_more g.query a b c first.grow second.grow }

pub all_on : (a b c : Sim) → AllGoes a b → AllGoes b c → AllGoes a c
all_on a b c first second = λ g play. let one = first g play in goes_on g a b c one (second g one.play)

pub play_on : (rows_at : ℤ → List (List Value)) (a b c : Sim) → PlayGoes rows_at a b → PlayGoes rows_at b c → PlayGoes rows_at a c
play_on rows_at a b c first second = λ g play rows. let one = first g play rows in goes_on g a b c one (second g one.play rows)

-- a step that needs no rows
pub any_rows : (rows_at : ℤ → List (List Value)) (a b : Sim) → AllGoes a b → PlayGoes rows_at a b
any_rows rows_at a b goes = λ g play rows. goes g play

-- ---- what may go on

pub can_go_on : (rows_at : ℤ → List (List Value)) (a b : Sim) → CanPlay rows_at a → PlayGoes rows_at a b → CanPlay rows_at b
can_go_on rows_at a b can goes = record { gather = can.gather; play = (goes can.gather can.play can.rows_are).play; rows_are = can.rows_are }

-- ---- one station of many

abbrev pub HasLeft : Station → Type 0
HasLeft s = s.left ≡ true

abbrev pub KeepsLaws : Station → Type 0
KeepsLaws s = IsLawful s.node
