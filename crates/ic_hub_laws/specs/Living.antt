-- Which queries are live, and which ends are here, after one more entry.
use Rattle.std.specs.Prelude.{◌≡◌, ◌≢◌, ◌≤◌, ◌⊎◌, ◌↔◌, ℕ, max, List, [], ◌∷◌, ◌++◌, Bool, true, not, Contains}
use Rattle.ic_base.specs.declared.keys.ConnEnd.{ConnEnd}
use Rattle.ic_base.specs.declared.datagram.Datagram.{Datagram}
use Rattle.ic_law.specs.declared.history.HubAsk.TheVariants.{Begin, Leave}
use Rattle.ic_law.specs.declared.history.Entry.{Entry}
use Rattle.ic_law.specs.Queries.{was_begun, was_left, leaves, left_of}
use Rattle.ic_law.specs.Points.{Place, IsDirected, IsLive, IsHere}
use Rattle.ic_law.specs.Asking.{AreEnds}
use Rattle.ic_law.specs.Arriving.{IsOld, IsGreatestLeft}
use Rattle.ic_law.specs.Hub.{HubLaw}

-- no query begins with this entry
abbrev pub BeginsNone : Entry → Type 0
BeginsNone e = (query : ℕ) (ends : List ConnEnd) → e.ask ≡ Begin query ends → was_begun e.reply ≡ true → ⊥

-- the same queries are live, with the same ends
pub record LivesOn (h : List Entry) (e : Entry) : Type 0 where
  pub live : (query : ℕ) (ends : List ConnEnd) → IsLive query ends (h ++ e ∷ []) ↔ IsLive query ends h
  pub here : (end : ConnEnd) → IsHere end (h ++ e ∷ []) ↔ IsHere end h
  pub left : left_of (h ++ e ∷ []) ≡ left_of h

-- the query is live with these ends, and others as before
pub record LivesFrom (query : ℕ) (ends : List ConnEnd) (h : List Entry) (e : Entry) : Type 0 where
  pub live : (other : ℕ) (others : List ConnEnd) → IsLive other others (h ++ e ∷ []) ↔ (((other ≡ query) × (others ≡ ends)) ⊎ IsLive other others h)
  pub here : (end : ConnEnd) → IsHere end (h ++ e ∷ []) ↔ (((end.key.query ≡ query) × Contains ends end) ⊎ IsHere end h)
  pub left : left_of (h ++ e ∷ []) ≡ left_of h

-- the query isn't live any more, and others are as before
pub record LivesUntil (query : ℕ) (h : List Entry) (e : Entry) : Type 0 where
  pub live : (other : ℕ) (others : List ConnEnd) → IsLive other others (h ++ e ∷ []) ↔ (IsLive other others h × (other ≢ query))
  pub here : (end : ConnEnd) → IsHere end (h ++ e ∷ []) ↔ (IsHere end h × (end.key.query ≢ query))
  pub left : left_of (h ++ e ∷ []) ≡ left_of h ++ query ∷ []

-- an entry that neither begins nor leaves a query changes nothing
abbrev pub OthersLiveOn : Type 0
OthersLiveOn = (h : List Entry) (e : Entry) → BeginsNone e → leaves e ≡ [] → LivesOn h e

abbrev pub BegunIsLive : Type 0
BegunIsLive = (query : ℕ) (ends : List ConnEnd) (h : List Entry) (e : Entry) → e.ask ≡ Begin query ends → was_begun e.reply ≡ true → LivesFrom query ends h e

abbrev pub LeftIsNotLive : Type 0
LeftIsNotLive = (query : ℕ) (h : List Entry) (e : Entry) → e.ask ≡ Leave query → was_left e.reply ≡ true → LivesUntil query h e

-- a live query has one list of ends
abbrev pub LiveOnce : Type 0
LiveOnce = (place : Place) (h : List Entry) (query : ℕ) (a b : List ConnEnd) → HubLaw place h → IsLive query a h → IsLive query b h → a ≡ b

-- ---- the ends of a live query

-- they are such as may begin here, and of their query they alone are here
pub record AreThere (place : Place) (query : ℕ) (ends : List ConnEnd) (h : List Entry) : Type 0 where
  pub are : AreEnds place query ends
  pub here : (end : ConnEnd) → end.key.query ≡ query → IsHere end h ↔ Contains ends end

abbrev pub LiveAreThere : Type 0
LiveAreThere = (place : Place) (h : List Entry) (query : ℕ) (ends : List ConnEnd) → HubLaw place h → IsLive query ends h → AreThere place query ends h

-- A datagram to this segment on a connection that has an end here has the end that it is for: with the other side here
-- alone, the connection would lead from the segment to itself, and has both.
abbrev pub SideIsHere : Type 0
SideIsHere = (place : Place) (h : List Entry) (end : ConnEnd) (d : Datagram) (forth : Bool) → HubLaw place h → IsHere end h → d.to ≡ place.at → IsDirected forth d end.key
    → (other : ConnEnd) × IsHere other h × (other.key ≡ end.key) × (other.sending ≡ not forth)

-- ---- the greatest query that was left

-- those up to it are old, and no others
abbrev pub OldUpto : Type 0
OldUpto = (h : List Entry) (top query : ℕ) → IsGreatestLeft h top → IsOld query h ↔ (query ≤ top)

-- one that is left is it, or the one before is
pub record TopsWith (query : ℕ) (h now : List Entry) : Type 0 where
  pub first : left_of h ≡ [] → IsGreatestLeft now query
  pub greater : (top : ℕ) → IsGreatestLeft h top → IsGreatestLeft now (max top query)

abbrev pub LeftTops : Type 0
LeftTops = (query : ℕ) (h now : List Entry) → left_of now ≡ left_of h ++ query ∷ [] → TopsWith query h now
