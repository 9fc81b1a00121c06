-- A member nests less deep than its object.
use Rattle.std.proofs.Common.{◌≡◌, ℕ, ◌≤◌, ◌<◌, List, Ordering, Less, Equal, Greater, Option, Some, ap, arith}
use Rattle.std.specs.Prelude.{max}
use Rattle.std.specs.Cmp.Lexicographic.{slice_cmp}
use Rattle.std.specs.Ordering.{nat_cmp, match_ordering}
use Rattle.serde_json.specs.Data.{Data, null, boolean, number, string, array, object, Members, no_members, depth, members_depth}
use Rattle.serde_json.specs.Data as json
use Rattle.serde_json.specs.Find.{get, get_member}

some_is : (d e : Data) → Some d ≡ Some e → d ≡ e
some_is d e h = cc

found_in : (o : Ordering) (d e : Data) (rest : Option Data) (n : ℕ) → (rest ≡ Some e → depth e ≤ n) → match_ordering o rest (Some d) rest ≡ Some e → depth e ≤ max (depth d) n
found_in Less d e rest n ih h = let t = ih h in omega (arith, t)
found_in Equal d e rest n ih h = let t = ap depth (some_is d e h) in omega (arith, t)
found_in Greater d e rest n ih h = let t = ih h in omega (arith, t)

member_is_shallower : (name : List ℕ) (ms : Members) (e : Data) → get_member name ms ≡ Some e → depth e ≤ members_depth ms
member_is_shallower name no_members e h = absurd (cc)
member_is_shallower name (json.member l d ms) e h = found_in (slice_cmp nat_cmp name l) d e (get_member name ms) (members_depth ms) (member_is_shallower name ms e) h

pub get_is_shallower : (name : List ℕ) (d e : Data) → get name d ≡ Some e → depth e < depth d
get_is_shallower name null e h = absurd (cc)
get_is_shallower name (boolean b) e h = absurd (cc)
get_is_shallower name (number n) e h = absurd (cc)
get_is_shallower name (string text) e h = absurd (cc)
get_is_shallower name (array ds) e h = absurd (cc)
get_is_shallower name (object ms) e h = let t = member_is_shallower name ms e h in omega (arith, t)
