-- Steps, one behind the other.
use Rattle.std.proofs.Common.{◌≡◌, ℕ, ◌+◌, ◌<◌, ℤ, Bool, true, false, Option, Some, None, Result, Ok, Err, IfOk, OnErr, List, [], ◌∷◌, ◌++◌, length, take, drop, get_or, refl, ap, sym, ◌∙◌, subst, slice_get, take-append-drop}
use Rattle.std.proofs.lemmas.List.{take_more}
use Rattle.std.specs.declared.alloc.AllocError.{AllocError}
use Rattle.gd_world.specs.declared.step.Step.{Step}
use Rattle.gd_world.specs.declared.step.Step.TheVariants as step
use Rattle.gd_world.specs.declared.seat.Seat.{Seat}
use Rattle.std.specs.Vec.{with_item}
use Rattle.ex_slice.specs.declared.slice.Slice.{Slice}
use Rattle.gd_world.specs.Doings.{Answer}
use Rattle.gd_world.specs.Sessions.{Sessional}
use Rattle.gd_world.specs.Workers.{seat_of, seats_in}
use Rattle.gd_world.specs.declared.world.World.{World}
use Rattle.gd_world.specs.Worlds.{IsWorld, with_event}
use Rattle.gd_world.specs.Steps.{Steps, TurnsAt, Plays, PlaysFront}
use Rattle.gd_world.proofs.Places.{same_some}
use Rattle.gd_world.proofs.Vecs.{with_same}

-- a world stays one
pub world_on : (s : Step) (applies : Bool) (a b : World) → IsWorld a → Steps s applies a b → IsWorld b
world_on s true a b w steps =
    let goes = steps.2 w.query w.account w.stands in
    record { query = w.query; account = with_event w.account steps.0 goes.courses; stands = goes.stands }
world_on s false a b w steps = subst IsWorld (sym steps.1) w

pub world_after : (s : Step) (r : Result Bool AllocError) (a b : World) → IsWorld a → IfOk r (λ applies. Steps s applies a b) → OnErr r (b ≡ a) → IsWorld b
world_after s (Ok applies) a b w ok err = world_on s applies a b w ok
world_after s (Err e) a b w ok err = subst IsWorld (sym err) w

pub front_is : (steps : List Step) (i : ℕ) (a m b : World) → Plays (take i steps) a m → b ≡ m → PlaysFront steps a b
front_is steps i a m b plays same = record { front = take i steps; rest = drop i steps; are = sym (take-append-drop i steps); plays = subst (Plays (take i steps) a) (sym same) plays }

-- nothing was done, and a slice is written over itself
pub as_before : (w : World) (k : ℕ) (session : Sessional) (slice : Slice) → session ≡ w.session → slice_get w.slices.items k ≡ Some slice
    → record { plan = w.plan; query = w.query; session = session; seats = w.seats; slices = with_item w.slices k slice; left = w.left } ≡ w
as_before w k session slice same at =
    ap (λ s. record { plan = w.plan; query = w.query; session = s; seats = w.seats; slices = with_item w.slices k slice; left = w.left }) same
    ∙ ap (λ v. record { plan = w.plan; query = w.query; session = w.session; seats = w.seats; slices = v; left = w.left }) (with_same w.slices k slice at)

-- of an error that comes by another one
pub front_by : (r : Result (Unit {0}) AllocError) (steps : List Step) (i : ℕ) (a m b : World) → Plays (take i steps) a m → b ≡ m → OnErr r (PlaysFront steps a b)
front_by (Ok u) steps i a m b plays same = tt
front_by (Err e) steps i a m b plays same = front_is steps i a m b plays same

pub turned_on : (k : ℕ) (told : Option Answer) (a b : World) → IsWorld a → TurnsAt k told a b → IsWorld b
turned_on k None a b w turns = subst IsWorld (sym turns.1) w
turned_on k (Some answer) a b w turns =
    let goes = turns.5 w.query w.account w.stands in record { query = w.query; account = with_event w.account turns.2 goes.courses; stands = goes.stands }

-- a turn at a place is a turn of the worker that has this seat
pub turn_is_step : (k slice : ℕ) (at : ℤ) (answer : Answer) (a b : World) → IsWorld a → slice_get a.seats.items k ≡ Some (seat_of slice at) → TurnsAt k (Some answer) a b → Steps (step.Turn slice at) true a b
turn_is_step k slice at answer a b w sits turns =
    let there : slice_get (seats_in w.query) k ≡ Some (seat_of slice at) = ap (λ l. slice_get l k) (sym w.stands.order) ∙ sits in
    let same : turns.0 ≡ seat_of slice at = same_some turns.0 (seat_of slice at) (sym (turns.1 w.query w.account w.stands) ∙ there) in
    (turns.2, turns.3 ∙ ap (λ (s : Seat). step.Turn s.slice s.at) same, turns.5)

pub plays_push : (front : List Step) (s : Step) (applies : Bool) (a m b : World) → Plays front a m → Steps s applies m b → Plays (front ++ s ∷ []) a b
plays_push [] s applies a m b plays steps = (applies, b, subst (λ w. Steps s applies w b) plays steps, refl)
plays_push (x ∷ front) s applies a m b plays steps = (plays.0, plays.1, plays.2, plays_push front s applies plays.1 m b plays.3 steps)

pub plays_more : (steps : List Step) (i : ℕ) (d : Step) (applies : Bool) (a m b : World) → i < length steps → Plays (take i steps) a m → Steps (get_or steps i d) applies m b → Plays (take (i + 1) steps) a b
plays_more steps i d applies a m b lt plays step = subst (λ l. Plays l a b) (sym (take_more steps i d lt)) (plays_push (take i steps) (get_or steps i d) applies a m b plays step)
