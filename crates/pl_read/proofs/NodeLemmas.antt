-- A node's members that are nodes.
use Rattle.std.proofs.Common.{◌≡◌, ℕ, List, ◌∷◌, codes, Ordering, Less, Equal, Greater, Option, Some, Result, refl, sym, ap, ◌∙◌}
use Rattle.std.specs.Cmp.Lexicographic.{slice_cmp}
use Rattle.std.specs.Ordering.{nat_cmp, match_ordering}
use Rattle.serde_json.specs.Data.{Data, null, boolean, number, string, array, object, Members, no_members}
use Rattle.serde_json.specs.Data as json
use Rattle.serde_json.specs.Find.{get_member}
use Rattle.pl_tree.specs.declared.node.Node.{Node}
use Rattle.pl_read.specs.declared.fault.DocFault.{DocFault}
use Rattle.pl_read.specs.declared.fault.Flaw.TheVariants.{Missing}
use Rattle.pl_read.specs.Paths.{Step, member}
use Rattle.pl_read.specs.Faults.{or_refused, ◌>>=◌}
use Rattle.pl_read.specs.Members.{only, needed}
use Rattle.pl_read.specs.Nodes.{names_of, shape_at, shaped, node_with, node_at, child_in}

-- reading what is found is finding what is read
read_found : (path : List Step) (name : List ℕ) (o : Ordering) (d : Data) (rest : Option Data) (read : Result Node DocFault)
    → read ≡ (or_refused rest (member name ∷ path) Missing >>= node_at (member name ∷ path))
    → match_ordering o read (node_at (member name ∷ path) d) read ≡ (or_refused (match_ordering o rest (Some d) rest) (member name ∷ path) Missing >>= node_at (member name ∷ path))
read_found path name Less d rest read h = h
read_found path name Equal d rest read h = refl
read_found path name Greater d rest read h = h

child_is : (path : List Step) (name : List ℕ) (ms : Members) → child_in path name ms ≡ needed node_at path name (object ms)
child_is path name no_members = refl
child_is path name (json.member l d ms) = read_found path name (slice_cmp nat_cmp name l) d (get_member name ms) (child_in path name ms) (child_is path name ms)

-- each member that is a node reads as a node
pub node_is : (path : List Step) (d : Data) → node_with node_at path d ≡ node_at path d
node_is path null = refl
node_is path (boolean b) = refl
node_is path (number n) = refl
node_is path (string text) = refl
node_is path (array ds) = refl
node_is path (object ms) =
    let step : Result Node DocFault → Result Node DocFault → Result Node DocFault → Result Node DocFault = λ child left right. shape_at path (object ms) >>= λ shape. only path (names_of shape) ms >>= λ _. shaped shape path (object ms) child left right in
    ap (λ r. step r (needed node_at path (codes "left") (object ms)) (needed node_at path (codes "right") (object ms))) (sym (child_is path (codes "child") ms))
    ∙ ap (λ r. step (child_in path (codes "child") ms) r (needed node_at path (codes "right") (object ms))) (sym (child_is path (codes "left") ms))
    ∙ ap (λ r. step (child_in path (codes "child") ms) (child_in path (codes "left") ms) r) (sym (child_is path (codes "right") ms))
