-- The clock, and what the next tick gives up first.
use Rattle.std.proofs.Common.{◌≡◌, ◌+◌, min, List, [], ◌∷◌, ◌++◌, refl, ap, ◌∙◌, arith}
use Rattle.std.specs.List.{Contains, flat_map}
use Rattle.ic_base.specs.declared.keys.ConnEnd.{ConnEnd}
use Rattle.ic_law.specs.Clock.{last_tick, ticks_by, ticks_of}
use Rattle.ic_law.specs.Spending.{packets_spent, query_spent}
use Rattle.ic_law.proofs.Lists.{Contains-head, Contains-tail, flat_map-append}
use Rattle.ic_law.proofs.Timings.{ticks_of-push}
use Rattle.ic_hub_laws.specs.Clocks.{ClockMoves, NothingSpent, PacketSpentFirst, QuerySpentFirst}

pub clock_moves : ClockMoves
clock_moves h e = record {
  still = λ none. ap (min last_tick) (ticks_of-push h e ∙ (let same : ticks_of h + ticks_by e.reply ≡ ticks_of h = omega (arith, none) in same));
  ticks = λ one. ap (min last_tick) (ticks_of-push h e ∙ ap (λ n. ticks_of h + n) one);
}

-- ---- joined readings

none_of : {A : Type 0} (f : ConnEnd → List A) (ends : List ConnEnd) → ((end : ConnEnd) → Contains ends end → f end ≡ []) → flat_map f ends ≡ []
none_of f [] none = refl
none_of f (end ∷ ends) none = ap (λ l. l ++ flat_map f ends) (none end (Contains-head end ends)) ∙ none_of f ends (λ x at. none x (Contains-tail end ends x at))

first_of_all : {A : Type 0} (f : ConnEnd → List A) (front : List ConnEnd) (end : ConnEnd) (back : List ConnEnd) (x : A) (more : List A) → ((o : ConnEnd) → Contains front o → f o ≡ []) → f end ≡ x ∷ more
    → flat_map f (front ++ end ∷ back) ≡ x ∷ (more ++ flat_map f back)
first_of_all f front end back x more none first =
    flat_map-append f front (end ∷ back) ∙ ap (λ l. l ++ flat_map f (end ∷ back)) (none_of f front none) ∙ ap (λ l. l ++ flat_map f back) first

-- ---- the laws

pub nothing_spent : NothingSpent
nothing_spent settings h ends packets queries =
    ap (λ l. l ++ flat_map (query_spent settings h) ends) (none_of (packets_spent settings h) ends packets) ∙ none_of (query_spent settings h) ends queries

pub packet_spent_first : PacketSpentFirst
packet_spent_first settings h front end back first more none is = record {
  more = (more ++ flat_map (packets_spent settings h) back) ++ flat_map (query_spent settings h) (front ++ end ∷ back);
  all = ap (λ l. l ++ flat_map (query_spent settings h) (front ++ end ∷ back)) (first_of_all (packets_spent settings h) front end back first more none is);
}

pub query_spent_first : QuerySpentFirst
query_spent_first settings h front end back first more packets none is = record {
  more = more ++ flat_map (query_spent settings h) back;
  all = ap (λ l. l ++ flat_map (query_spent settings h) (front ++ end ∷ back)) (none_of (packets_spent settings h) (front ++ end ∷ back) packets)
      ∙ first_of_all (query_spent settings h) front end back first more none is;
}
