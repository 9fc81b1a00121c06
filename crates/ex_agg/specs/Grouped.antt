-- Groups with the results of their calls.
use Rattle.std.specs.Prelude.{ℕ, Bool, if◌then◌else◌, List, [], ◌++◌, length, map, filter, slice_get}
use Rattle.std.specs.Option.{unwrap_or}
use Rattle.std.specs.Map.{lookup, values_of}
use Rattle.pl_tree.specs.declared.node.Call.{Call}
use Rattle.pl_ops.specs.Rows.{Line}
use Rattle.pl_ops.specs.Groups.{same_line, in_group, group_keys, columns_from, value_of_none}
use Rattle.ex_agg.specs.Calls.{results}

-- keys, each with the results of its group
abbrev pub Grouped : Type 0
Grouped = List (Line × Line)

-- the row of a group: its key, then the results
abbrev pub whole : Line × Line → Line
whole e = e.0 ++ e.1

-- the results at a place, from 0
abbrev pub results_at : Grouped → ℕ → Line
results_at groups at = unwrap_or (slice_get (values_of groups) at) []

-- the results of a key, and what the calls give over nothing if it has no group
abbrev pub results_of_key : List Call → Grouped → Line → Line
results_of_key calls groups key = unwrap_or (lookup (same_line key) groups) (map value_of_none calls)

-- the groups of these rows with their results, in the order of their first rows
abbrev pub groups_of : Bool → ℕ → List ℕ → List Call → List Line → Grouped
groups_of final first columns calls rows =
    map (λ key. (key, results final first calls (filter (in_group columns key) rows))) (group_keys columns rows)

-- the columns of the key in the rows given; in the rows of a partial the key comes first
abbrev pub key_columns : Bool → List ℕ → List ℕ
key_columns final group = if final then columns_from 0 (length group) else group
