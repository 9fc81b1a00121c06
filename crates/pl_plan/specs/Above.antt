-- What stands above a node, as far as the rules ask, and what stands above its child then.
use Rattle.std.specs.Prelude.{ℕ, Bool, true, false, if◌then◌else◌, List, Option, Some, None}
use Rattle.pl_tree.specs.Trees.{Tree}
use Rattle.pl_plan.specs.declared.above.Above.{Above}
use Rattle.pl_plan.specs.Places.{is_root, is_final, is_reached, root_limit, limit_over}

-- of the nodes above
abbrev pub above_of : List Tree → Above
above_of above = record { root = is_root above; under_final = is_final above; reached = is_reached above; top = root_limit above; over = limit_over above }

abbrev pub nothing : Above
nothing = record { root = true; under_final = false; reached = false; top = None; over = None }

abbrev pub other : Above
other = record { root = false; under_final = false; reached = false; top = None; over = None }

abbrev pub under_final : Above
under_final = record { root = false; under_final = true; reached = true; top = None; over = None }

abbrev pub under_project : Above → Above
under_project up = record { root = false; under_final = false; reached = false; top = up.top; over = up.over }

abbrev pub under_limit : ℕ → Above → Above
under_limit count up = record { root = false; under_final = false; reached = false; top = if up.root then Some count else None; over = None }

abbrev pub under_gather : Above → Above
under_gather up = record { root = false; under_final = false; reached = up.under_final; top = None; over = up.top }

abbrev pub under_motion : Above → Above
under_motion up = record { root = false; under_final = false; reached = up.under_final; top = None; over = None }
