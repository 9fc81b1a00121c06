-- A hub stands on with a tick that isn't refused.
use Rattle.std.proofs.Common.{◌≡◌, ℕ, ℤ, List, [], ◌∷◌, ◌++◌, map, Some, Ok, refl, ap, sym, ◌∙◌, subst, arith, slice_get}
use Rattle.std.specs.List.{AllByRecursion, flat_map}
use Rattle.ic_base.specs.declared.datagram.Datagram.{Datagram}
use Rattle.ic_conntab.specs.Table.{Table}
use Rattle.ic_law.specs.declared.history.HubAsk.TheVariants.{Begin, Take, Tick}
use Rattle.ic_law.specs.declared.history.Entry.{Entry}
use Rattle.ic_law.specs.Arriving.{IsServed}
use Rattle.ic_law.specs.Clock.{clock_of, next_clock}
use Rattle.ic_receiver.proofs.Others.{stands_silent}
use Rattle.ic_timed_sender.specs.Timed.{next_tick, ticking}
use Rattle.ic_timed_sender.specs.Standing.{Stands as SenderStands}
use Rattle.ic_hub_laws.specs.Entries.{IsTick}
use Rattle.ic_hub_laws.specs.Laws.{AboutTicks}
use Rattle.ic_hub_laws.proofs.Lives.{lives_on}
use Rattle.ic_hub_laws.proofs.Spent.{clock_moves}
use Rattle.ic_hub_laws.proofs.Ticked.{tick_passes}
use Rattle.ic_hub_laws.proofs.TickPoints.{tick_point}
use Rattle.ic_hub_laws.proofs.Served.{served_before}
use Rattle.ic_hub.specs.Hubbing.{Hubbing, Living, IsHub, Ascend, place_in}
use Rattle.ic_hub.specs.Entries.{tick_entry}
use Rattle.ic_hub.specs.Standing.{LivingStands, Stands}
use Rattle.ic_hub.specs.Ticking.{Passes, emission_of, ticked_query, ticked}
use Rattle.ic_hub.proofs.Places.{Shaped, all_at, at_map, map_at}
use Rattle.ic_hub.proofs.Shape.{shape_of}
use Rattle.ic_hub.proofs.Moving.{SameQueries, adds}
use Rattle.ic_hub.proofs.Ticking.{hub_ticked}
use Rattle.ic_hub.proofs.TickingEmits.{AllMay, its_tick, among, sent_here, formed_here}
use Rattle.ic_hub.proofs.TickingOrder.{in_order}

-- each connection passes
abbrev pub AllPass : Hubbing → Type 0
AllPass s = AllByRecursion (λ (l : Living). AllByRecursion Passes l.senders) s.live

pub is_tick : (s : Hubbing) (h : List Entry) → Shaped s → Stands s h → AllMay s → IsTick h (its_tick s)
is_tick s h shaped stands all = record { ds = flat_map emission_of s.live; ask = refl; reply = refl; each = λ d c. sent_here s h d shaped stands all c }

-- the same queries, each ticked
same_ticked : (live : List Living) → SameQueries live (map ticked_query live)
same_ticked live = record {
  on = λ i l at. (ticked_query l, map_at ticked_query live i l at, refl, refl);
  back = λ i m at. let w = at_map ticked_query live i m at in (w.0, w.1, ap (λ (x : Living). x.number) (sym w.2), ap (λ (x : Living). x.ends) (sym w.2));
}

-- a tick serves no taker
unserved : (s : Hubbing) (query motion : ℕ) (from : ℤ) → IsServed query motion (its_tick s) from → ⊥
unserved s query motion from served = let bad : Tick ≡ Take query motion = served.ask in cc

living_stands : (s : Hubbing) (h : List Entry) (q : ℕ) (l : Living) → Shaped s → Stands s h → AllMay s → AllPass s → slice_get s.live q ≡ Some l → LivingStands s.settings (ticked_query l) (h ++ its_tick s ∷ [])
living_stands s h q l shaped stands all pass here =
    let was = stands.each q l here in
    let passes = all_at (λ (x : Living). AllByRecursion Passes x.senders) s.live q l pass here in
    record {
      senders = λ i o at.
          let w = at_map ticking l.senders i o at in
          let its = all_at Passes l.senders i w.0 passes w.1 in
          subst (λ x. SenderStands x (h ++ its_tick s ∷ [])) w.2 (its.stands h (its_tick s) (record { ds = flat_map emission_of s.live; ask = refl; reply = refl; among = among s q i l w.0 shaped all here w.1 }) (was.senders i w.0 w.1));
      receivers = λ i r at. stands_silent s.settings r h (its_tick s) (tick_passes h (its_tick s) r.end (is_tick s h shaped stands all)).1 (was.receivers i r at);
      served = λ i motion last m at. served_before l.number motion h (its_tick s) last (λ from served. unserved s l.number motion from served) (was.served i motion last m at);
    }

next_is : (h : List Entry) (now : ℕ) → clock_of h ≡ now → next_clock h ≡ next_tick now
next_is h now at = omega (arith, at)

pub tick_stands : (s : Hubbing) (h : List Entry) → Shaped s → Ascend s.live → Shaped (ticked s) → Stands s h → AllMay s → AllPass s → Stands (ticked s) (h ++ its_tick s ∷ [])
tick_stands s h shaped ascend shaped_then stands all pass =
    adds s (ticked s) h (its_tick s) stands (record {
      place = record { session = refl; at = refl; settings = refl };
      shaped = shaped_then;
      same = same_ticked s.live;
      stand = λ i m at.
          let w = at_map ticked_query s.live i m at in
          subst (λ x. LivingStands s.settings x (h ++ its_tick s ∷ [])) w.2 (living_stands s h i w.0 shaped stands all pass w.1);
      top = refl;
      clock = (clock_moves h (its_tick s)).ticks refl ∙ next_is h s.tick stands.clock;
      lives = lives_on h (its_tick s) (λ query ends asked begun. let bad : Tick ≡ Begin query ends = asked in cc) refl;
      about = AboutTicks (is_tick s h shaped stands all);
      point = λ keeps. tick_point (place_in s) h (its_tick s) (is_tick s h shaped stands all)
          (record { law = stands.goes.law; keeps = keeps; allowed = λ given. tt; formed = λ d c. formed_here s d shaped all c });
      order = λ keeps once. in_order s h shaped ascend all stands keeps;
    })

-- the answer of a tick that isn't refused
pub answered_stands : (s new : Hubbing) (table : Table) (h : List Entry) (ds : List Datagram) → IsHub s table → new ≡ ticked s → ds ≡ flat_map emission_of s.live → AllMay s → AllPass s → Stands s h → Stands new (h ++ tick_entry (Ok ds) ∷ [])
answered_stands s new table h ds is new_is ds_is all pass stands =
    subst (λ x. Stands x (h ++ tick_entry (Ok ds) ∷ [])) (sym new_is) (subst (λ x. Stands (ticked s) (h ++ tick_entry (Ok x) ∷ [])) (sym ds_is)
    (tick_stands s h (shape_of s table is) is.ascend (shape_of (ticked s) table (hub_ticked s table is pass)) stands all pass))
