-- What a receive answers.
use Rattle.std.proofs.Common.{◌≡◌, ℤ, Bool, true, false, List, [], ◌∷◌, Some, None, refl, sym, ap, ◌∙◌, ◌&&◌, if◌then◌else◌}
use Rattle.std.specs.Ordering.{int_eq}
use Rattle.ic_base.specs.declared.datagram.Datagram.{Datagram}
use Rattle.ic_wire.specs.declared.copies.Kept.{Kept}
use Rattle.ic_wire.specs.declared.received.Received.TheVariants.{Came, Idle, Quiet}
use Rattle.ic_wire.specs.Wires.{Node, changed, queue_of, receiving, is_still, is_quiet, answer_of}
use Rattle.ic_wire.specs.Inside.{first_of}

pub came : (at : ℤ) (nodes : List Node) (kept : List Kept) (d : Datagram) → first_of kept ≡ Some d → answer_of at nodes kept ≡ Came d
came at nodes [] d h = absurd cc
came at nodes (copy ∷ copies) d h = ap Came (same copy.datagram d h)
  where
    same : (a b : Datagram) → Some a ≡ Some b → a ≡ b
    same a b e = cc

pub nothing_kept : (kept : List Kept) → first_of kept ≡ None → kept ≡ []
nothing_kept [] h = refl
nothing_kept (copy ∷ copies) h = absurd cc

-- a receive that gives nothing leaves it as quiet as it was
pub quiet_after : (at : ℤ) (nodes : List Node) → queue_of at nodes ≡ [] → is_quiet at (changed at receiving nodes) ≡ is_quiet at nodes
quiet_after at [] none = refl
quiet_after at (node ∷ nodes) none = by_test (int_eq node.at at) refl none (quiet_after at nodes)
  where
    by_test : (b : Bool) → int_eq node.at at ≡ b → (if b then node.kept else queue_of at nodes) ≡ []
        → (queue_of at nodes ≡ [] → is_quiet at (changed at receiving nodes) ≡ is_quiet at nodes)
        → is_quiet at (changed at receiving (node ∷ nodes)) ≡ is_quiet at (node ∷ nodes)
    by_test true e none later = rw e (rw none (rw e refl))
    by_test false e none later =
        let unchanged : changed at receiving (node ∷ nodes) ≡ node ∷ changed at receiving nodes = rw e refl in
        ap (is_quiet at) unchanged ∙ ap (λ b. is_still at node && b) (later none)

pub none_after : (at : ℤ) (nodes : List Node) → queue_of at nodes ≡ [] → answer_of at (changed at receiving nodes) [] ≡ answer_of at nodes (queue_of at nodes)
none_after at nodes none = ap (λ b. if b then Quiet else Idle) (quiet_after at nodes none) ∙ ap (answer_of at nodes) (sym none)
