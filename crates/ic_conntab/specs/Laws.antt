-- Laws of queries that begin and end.
use Rattle.std.specs.Prelude.{◌≡◌, ◌≢◌, ℕ, ◌≤◌, List, position, slice_get, Option, None, Some}
use Rattle.std.specs.List.{IsDistinct}
use Rattle.std.specs.FinMap.{get}
use Rattle.ic_base.specs.Keys.{key_eq}
use Rattle.ic_base.specs.declared.keys.ConnKey.{ConnKey}
use Rattle.ic_conntab.specs.declared.answer.Find.TheVariants.{Here, Ended}
use Rattle.ic_conntab.specs.Table.{Table, IsLive, MayBegin, placed, found, begun, left}

-- if a key is found at a position, it is there among its query's connections; if these are distinct, each is found at
-- its position
abbrev pub PlaceIsItsOwn : Type 0
PlaceIsItsOwn =
    (t : Table) (keys : List ConnKey) (key : ConnKey) (place : ℕ)
    → key.session ≡ t.session → get t.live key.query ≡ Some keys
    → (found t key ≡ Here place → slice_get keys place ≡ Some key)
    × (IsDistinct key_eq keys → slice_get keys place ≡ Some key → found t key ≡ Here place)

-- the keys of a query that begins are found at their positions, and every other key is found as before
abbrev pub BegunIsFound : Type 0
BegunIsFound =
    (t : Table) (query : ℕ) (keys : List ConnKey) (key : ConnKey)
    → ((key.session ≡ t.session) → (key.query ≡ query) → found (begun t query keys) key ≡ placed (position (key_eq key) keys))
    × ((key.query ≢ query) → found (begun t query keys) key ≡ found t key)

-- all keys of a query that was left have ended, and the keys of a live query are found as before
abbrev pub LeftIsEnded : Type 0
LeftIsEnded =
    (t : Table) (query : ℕ) (key : ConnKey)
    → ((key.session ≡ t.session) → (key.query ≡ query) → found (left t query) key ≡ Ended)
    × ((key.query ≢ query) → IsLive t key.query → found (left t query) key ≡ found t key)

-- how one table comes from another: queries begin that may, and live queries are left
pub data Becomes (t : Table) : Table → Type 0 where
  stays : Becomes t t
  begins : (u : Table) (query : ℕ) (keys : List ConnKey) → Becomes t u → MayBegin u query → Becomes t (begun u query keys)
  leaves : (u : Table) (query : ℕ) → Becomes t u → IsLive u query → Becomes t (left u query)

-- the later top is no less than the earlier one, if there was one
abbrev pub IsNoLess : Option ℕ → Option ℕ → Type 0
IsNoLess None top = Unit {0}
IsNoLess (Some old) None = ⊥
IsNoLess (Some old) (Some top) = old ≤ top

-- the greatest query number that has ended never falls
abbrev pub TopNeverFalls : Type 0
TopNeverFalls = (t u : Table) → Becomes t u → IsNoLess t.top u.top

-- a key that has ended stays ended
abbrev pub EndedForGood : Type 0
EndedForGood = (t u : Table) (key : ConnKey) → Becomes t u → found t key ≡ Ended → found u key ≡ Ended
