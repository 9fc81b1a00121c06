-- The ends of a plan's connections at one segment.
use Rattle.std.specs.Prelude.{ℕ, ℤ, Bool, true, false, List, [], ◌∷◌, ◌++◌, flat_map}
use Rattle.std.specs.Ordering.{int_cmp, is_eq}
use Rattle.ic_base.specs.declared.keys.ConnKey.{ConnKey}
use Rattle.ic_base.specs.declared.keys.ConnEnd.{ConnEnd}
use Rattle.pl_tree.specs.declared.schema.Schema.{Schema}
use Rattle.pl_tree.specs.Trees.{Tree}
use Rattle.pl_plan.specs.Motions.{Link, links_in}

abbrev pub key_of : ℕ → ℕ → Link → ConnKey
key_of session query link = record { session = session; query = query; motion = link.motion; from = link.from; to = link.to }

-- a motion sends from the slice of its number to the slice above
abbrev pub end_of : ℕ → ℕ → Bool → Link → ConnEnd
end_of session query sending link = record { key = key_of session query link; sending = sending; send_slice = link.motion; recv_slice = link.above }

abbrev pub is_at : ℤ → ℤ → Bool
is_at at segment = is_eq (int_cmp segment at)

abbrev pub end_if : Bool → ConnEnd → List ConnEnd
end_if true one = one ∷ []
end_if false one = []

-- of one connection the sending side first
abbrev pub ends_at : ℕ → ℕ → ℤ → Link → List ConnEnd
ends_at session query at link = end_if (is_at at link.from) (end_of session query true link) ++ end_if (is_at at link.to) (end_of session query false link)

-- by motion, sender and receiver
abbrev pub ends_in : List Schema → ℕ → Tree → ℕ → ℕ → ℤ → List ConnEnd
ends_in s segments tree session query at = flat_map (ends_at session query at) (links_in s segments tree)
