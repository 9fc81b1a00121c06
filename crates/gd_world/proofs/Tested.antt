-- What the tests ask for.
use Rattle.std.proofs.Common.{◌<◌, List, [], Ok, Err, Result, IfOk, refl, sym, subst, arith}
use Rattle.std.specs.declared.alloc.AllocError.{AllocError}
use Rattle.pl_tree.specs.Trees.{tree_in}
use Rattle.pl_plan.specs.declared.sound.Judged.{Judged}
use Rattle.pl_ops.specs.declared.loaded.Spread.{Spread}
use Rattle.pl_runs.specs.Distributed.{Query}
use Rattle.ex_plan.specs.Workers.{site_of}
use Rattle.ic_port.specs.Noding.{Noding}
use Rattle.gd_world.specs.declared.world.World.{World}
use Rattle.gd_world.specs.Events.{Event}
use Rattle.gd_world.specs.Sessions.{Sessional, Recalls, IsSessionOf}
use Rattle.gd_world.specs.Worlds.{Starts, Stands, IsWorld, begun_with}
use Rattle.gd_world.specs.Inside.{AreFresh}

-- the first query of session 7
abbrev pub first : Judged → List Spread → Query
first j tables = record { session = 7; settings = j.settings; number = 1; site = site_of j tables; tree = tree_in j.plan }

starts : (j : Judged) (tables : List Spread) (session : Sessional) → IsSessionOf 7 j.segments j.settings session → Recalls [] session → AreFresh 7 j.segments j.settings session → Starts (first j tables) [] j tables 1 session
starts j tables session is recalls fresh = record {
  plan_is = record { number_is = refl; schemas = refl; segments = refl; settings = refl; tree = refl };
  tables_are = refl;
  session_is = is;
  recalls = recalls;
  later = λ k n here. subst (λ (m : Noding). m.query < 1) (sym (fresh.each k n here)) (omega arith);
}

pub first_is : (j : Judged) (tables : List Spread) (session : Sessional) (r : Result World AllocError) → IsSessionOf 7 j.segments j.settings session → Recalls [] session → AreFresh 7 j.segments j.settings session
    → IfOk r (λ w. (q : Query) (es : List Event) → Starts q es j tables 1 session → Stands q (begun_with es) w) → IfOk r IsWorld
first_is j tables session (Ok w) is recalls fresh ok = record { query = first j tables; account = begun_with []; stands = ok (first j tables) [] (starts j tables session is recalls fresh) }
first_is j tables session (Err e) is recalls fresh ok = ok
