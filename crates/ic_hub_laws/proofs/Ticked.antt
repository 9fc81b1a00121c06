-- A tick leaves each receiving end standing, and is nothing to an end that isn't here.
use Rattle.std.proofs.Common.{◌≡◌, List, true, false, Ok, refl, ap, sym, ◌∙◌, subst}
use Rattle.std.specs.List.{Contains}
use Rattle.ic_base.specs.declared.keys.ConnKey.{ConnKey}
use Rattle.ic_base.specs.declared.keys.ConnEnd.{ConnEnd}
use Rattle.ic_base.specs.declared.datagram.Datagram.{Datagram}
use Rattle.ic_header.specs.declared.flags.Flags.{Flags}
use Rattle.ic_header.specs.declared.flags.Flags.TheVariants.{Ack, Stop, Disorder, Duplicate}
use Rattle.ic_law.specs.declared.history.HubAsk.TheVariants.{TakeFrom, Halt, Arrive, Tick}
use Rattle.ic_law.specs.declared.history.HubReply.TheVariants.{Ticked}
use Rattle.ic_law.specs.declared.history.Entry.{Entry}
use Rattle.ic_header.specs.Packets.{Packet, key_of, goes_forth}
use Rattle.ic_law.specs.History.{datagrams_of, rows_in}
use Rattle.ic_law.specs.Taking.{takes, halts}
use Rattle.ic_law.specs.Storing.{stores}
use Rattle.ic_law.specs.Points.{Emits, IsHere}
use Rattle.ic_law.specs.Arriving.{IsUnknownKey}
use Rattle.ic_law.specs.Emitting.{queries_in}
use Rattle.ic_sender.specs.Entries.{IsNothingOf}
use Rattle.ic_receiver.specs.Entries.{IsSilent as IsSilentReceiving}
use Rattle.ic_hub_laws.specs.Entries.{IsTick}
use Rattle.ic_hub_laws.specs.Laws.{TickPasses}
use Rattle.ic_law.proofs.Datagrams.{rows_not, queries_not_of, flat_none, flag_of_true, one_packet, entry_is}
use Rattle.ic_hub_laws.proofs.Telling.{TellsNone}

-- a tick that emits these datagrams
abbrev pub ticking : List Datagram → Entry
ticking ds = record { ask = Tick; reply = Ticked (Ok ds) }

pub tick_is : (h : List Entry) (e : Entry) (is : IsTick h e) → e ≡ ticking is.ds
tick_is h e is = entry_is e Tick (Ticked (Ok is.ds)) is.ask is.reply

-- what a tick emits of a connection goes forth from its sending end here
pub record IsEmittedHere (h : List Entry) (k : ConnKey) (f : Flags) : Type 0 where
  pub end : ConnEnd
  pub here : IsHere end h
  pub sends : end.sending ≡ true
  pub key : end.key ≡ k
  pub forth : goes_forth f ≡ true

pub tick_emits : (h : List Entry) (e : Entry) (k : ConnKey) (f : Flags) (p : Packet) → IsTick h e → Emits e k f p → IsEmittedHere h k f
tick_emits h e k f p is w =
    let at = is.each w.datagram (subst (λ l. Contains l w.datagram) (ap datagrams_of is.reply) w.stands) in
    let same : at.packet.packet ≡ p = one_packet w.datagram at.packet.packet p at.packet.reads w.reads in
    record {
      end = at.end;
      here = at.here;
      sends = at.sends;
      key = sym at.packet.key ∙ ap (λ (x : Packet). key_of x.head) same ∙ w.key;
      forth = ap goes_forth (sym w.flags_are) ∙ ap (λ (x : Packet). goes_forth x.head.flags) (sym same) ∙ at.packet.way;
    }

-- nothing of a connection that isn't sent on here
pub tick_nothing : (h : List Entry) (e : Entry) (k : ConnKey) → IsTick h e → IsUnknownKey true k h → IsNothingOf k e
tick_nothing h e k is away = subst (IsNothingOf k) (sym (tick_is h e is)) (record {
  puts_none = refl;
  finishes_none = refl;
  hears_none = refl;
  rows = flat_none (rows_in k) is.ds (λ d at. let w = is.each d at in rows_not k d w.packet.packet w.packet.reads (λ key forth. away w.end w.here (sym w.packet.key ∙ key) w.sends));
  queries = flat_none (queries_in k) is.ds (λ d at. let w = is.each d at in queries_not_of k d w.packet.packet w.packet.reads (λ key forth. away w.end w.here (sym w.packet.key ∙ key) w.sends));
})

pub tick_answers_none : (h : List Entry) (e : Entry) (k : ConnKey) (f : Flags) (p : Packet) → IsTick h e → goes_forth f ≡ false → Emits e k f p → ⊥
tick_answers_none h e k f p is back w = flag_of_true (goes_forth f) (tick_emits h e k f p is w).forth back

pub tick_tells_none : (h : List Entry) (e : Entry) (k : ConnKey) → IsTick h e → TellsNone k e
tick_tells_none h e k is = record {
  ack = λ p w. tick_answers_none h e k Ack p is refl w;
  duplicate = λ p w. tick_answers_none h e k Duplicate p is refl w;
  disorder = λ p w. tick_answers_none h e k Disorder p is refl w;
}

tick_silent : (h : List Entry) (e : Entry) (end : ConnEnd) → IsTick h e → IsSilentReceiving end h e
tick_silent h e end is =
    let none = tick_tells_none h e end.key is in
    record {
      takes_none = ap (λ (x : Entry). takes end.key x) (tick_is h e is);
      stores_none = ap (λ (x : Entry). stores end.key x) (tick_is h e is);
      halts_none = ap (λ (x : Entry). halts end.key x) (tick_is h e is);
      ack = none.ack;
      duplicate = none.duplicate;
      disorder = none.disorder;
      stop = λ p w. absurd (tick_answers_none h e end.key Stop p is refl w);
      rows = λ here d q asked directed reads. let bad : Tick ≡ Arrive d = sym is.ask ∙ asked in cc;
      query = λ here d p asked directed reads key flags. let bad : Tick ≡ Arrive d = sym is.ask ∙ asked in cc;
      take_from = λ here asked. let bad : Tick ≡ TakeFrom end.key = sym is.ask ∙ asked in cc;
      halt = λ here asked. let bad : Tick ≡ Halt end.key = sym is.ask ∙ asked in cc;
    }

pub tick_passes : TickPasses
tick_passes h e end is =
    (λ sends away. record { nothing = tick_nothing h e end.key is away; away = λ here. away end here refl sends }, tick_silent h e end is)
