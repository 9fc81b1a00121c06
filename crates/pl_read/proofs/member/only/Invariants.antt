use Rattle.std.proofs.Common.{◌≡◌, map}
use Rattle.serde_json.specs.View.{members_view}
use Rattle.pl_read.specs.Paths.{path_of}
use Rattle.pl_read.specs.Members.{only}
use Rattle.pl_read.proofs.member.only.Given as goal

-- the members that are left decide
abbrev pub invariant-loop-name : goal.invariant-loop-name
invariant-loop-name l =
    only (path_of l.place) (map (λ name. name.now) l.names) (members_view l.name-iterator)
    ≡ only (path_of l.place) (map (λ name. name.now) l.names) (members_view l.fn.members.entries)
