-- Places found so far, in front of those still to be found.
use Rattle.std.proofs.Common.{◌≡◌, ℕ, ◌+◌, ◌<◌, List, [], ◌∷◌, ◌++◌, length, get_or, drop, refl, sym, ap, ◌∙◌, add-one, drop-cons}
use Rattle.std.specs.Prelude.{Option, Some, None}
use Rattle.ic_row.specs.declared.order.Key.{Key}
use Rattle.pl_tree.specs.Places.{place_of, both, places_of}
use Rattle.pl_tree.specs.Orders.{key_at, unless_dropped, kept_order}

abbrev pub after : List ℕ → Option (List ℕ) → Option (List ℕ)
after found None = None
after found (Some more) = Some (found ++ more)
