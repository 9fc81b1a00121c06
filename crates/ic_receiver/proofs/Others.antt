-- A receiving connection stands for its halts, for what doesn't concern it, and as it begins.
use Rattle.std.proofs.Common.{◌≡◌, ◌≤◌, List, [], ◌∷◌, ◌++◌, map, Bool, true, false, cond, ◌==◌, ◌&&◌, ◌||◌, Option, Some, None, Ok, refl, ap, sym, ◌∙◌, subst, inl, inr, append-nil}
use Rattle.std.specs.List.{list_any}
use Rattle.ic_base.specs.declared.keys.ConnKey.{ConnKey}
use Rattle.ic_base.specs.declared.keys.ConnEnd.{ConnEnd}
use Rattle.ic_base.specs.declared.settings.Settings.{Settings}
use Rattle.ic_base.specs.declared.datagram.Datagram.{Datagram}
use Rattle.ic_base.specs.declared.datagram.Parcel.{Parcel}
use Rattle.ic_base.proofs.SameKeys.{key_eq-same}
use Rattle.ic_base.specs.Keys.{key_eq}
use Rattle.ic_chunk.specs.Counts.{HasCounted}
use Rattle.ic_chunk.proofs.Ended.{counted_none}
use Rattle.ic_recvring.specs.Ring.{Ring, empty}
use Rattle.ic_header.specs.declared.flags.Flags.TheVariants.{Ack, Stop, Disorder, Duplicate}
use Rattle.ic_law.specs.declared.history.HubAsk.{HubAsk}
use Rattle.ic_law.specs.declared.history.HubAsk.TheVariants.{Begin, Put, Finish, Take, TakeFrom, Halt, Arrive, Tick, Clear, Leave}
use Rattle.ic_law.specs.declared.history.HubReply.TheVariants.{Gave, Memory}
use Rattle.ic_law.specs.declared.history.Entry.{Entry}
use Rattle.ic_law.specs.Taking.{takes, parcel_for, parcels_of, payload_in, is_last_parcel, halts, is_halt, IsHaltAsked}
use Rattle.ic_law.specs.Storing.{stored_by}
use Rattle.ic_law.specs.Receiving.{IsTaking, AnswersHalt, HaltedNow, HaltedAgain, Receives}
use Rattle.ic_law.proofs.Lists.{Contains-none, list_any-push}
use Rattle.ic_law.proofs.Readings.{every_none, every_push, fold_every, parcels_of-push, stored_of-push}
use Rattle.ic_receiver.specs.Receiving.{Receiving, begun, IsOver, Halts, HaltsAgain, HaltsNow}
use Rattle.ic_header.specs.Packets.{IsAnswer}
use Rattle.ic_receiver.specs.Entries.{list_of, IsHalting, IsSilent}
use Rattle.ic_receiver.specs.Standing.{Mirrors, Stands, IsUntouched}
use Rattle.ic_receiver.proofs.Shown.{shown_none, Lawful, lawful_none, lawful_stop}
use Rattle.ic_receiver.proofs.Moving.{halted_push, halted_pull, Moves, moves_by, stands_still, entry_is}
use Rattle.ic_receiver.proofs.Taken.{adds, not_ended, ended_there}

-- ---- halts

abbrev halting : ConnKey → List Datagram → Entry
halting c ds = record { ask = Halt c; reply = Gave (Ok ds) }

halts_it : (c : ConnKey) (ds : List Datagram) → halts c (halting c ds) ≡ true
halts_it c ds = ap (λ b. b && true) (key_eq-same c)

asked_now : (c : ConnKey) (h : List Entry) (ds : List Datagram) → IsHaltAsked c (h ++ halting c ds ∷ [])
asked_now c h ds = list_any-push (halts c) h (halting c ds) ∙ ap (λ b. list_any (halts c) h || b) (halts_it c ds) ∙ or_true (list_any (halts c) h)
  where
    or_true : (b : Bool) → (b || true) ≡ true
    or_true true = refl
    or_true false = refl

point_halting : (settings : Settings) (end : ConnEnd) (h : List Entry) (ds : List Datagram) → Lawful end.key (h ++ halting end.key ds ∷ []) (halting end.key ds) → AnswersHalt end h (Gave (Ok ds))
    → Receives settings end h (halting end.key ds)
point_halting settings end h ds lawful answers = record {
  taken = λ p bad. cc;
  told = lawful.told;
  stopped = lawful.stopped;
  answered = λ here. record {
    rows = λ other q bad directed reads given. cc;
    query = λ other q bad directed reads key flags given. cc;
    take = λ x ds w. absurd w.ask;
    take_from = λ bad given. cc;
    halt = λ asked given. answers;
  };
}

-- a halt of what is over moves nothing
halted_over : (settings : Settings) (s : Receiving) (h : List Entry) → IsOver s → Stands settings s h → Stands settings s (h ++ halting s.end.key [] ∷ [])
halted_over settings s h over stands =
    let c = s.end.key in
    let e = halting c [] in
    let ended = ended_there settings s h over stands in
    let m : Moves c h (h ++ e ∷ []) [] [] = record {
      took = parcels_of-push c h e;
      kept = stored_of-push c h e;
      on = halted_push c h e;
      back = λ w. elim (halted_pull c h e w) [
        | inl before ↦ before
        | inr now ↦ elim ended [ inl whole ↦ absurd (let bad : false ≡ true = sym now.1 ∙ whole in cc) | inr halted ↦ halted ]
      ];
    } in
    stands_still settings s h e m (point_halting settings s.end h [] (lawful_none c (h ++ e ∷ []) e refl) (HaltedAgain ended refl)) stands

halted_now : (settings : Settings) (s : Receiving) (h : List Entry) (d : Datagram) (ring : Ring) → s.whole ≡ false → s.ring ≡ Some ring → IsAnswer s.end Stop 0 0 [] d → Stands settings s h
    → Stands settings (record s { ring = None }) (h ++ halting s.end.key (d ∷ []) ∷ [])
halted_now settings s h d ring goes_on runs a stands =
    let c = s.end.key in
    let e = halting c (d ∷ []) in
    let now = h ++ e ∷ [] in
    let still = stands.reflects.whole ∙ goes_on in
    let apart = not_ended settings s.end ring h (stands.reflects.runs ring runs) still in
    let took : parcels_of c now ≡ parcels_of c h = parcels_of-push c h e ∙ append-nil (parcels_of c h) in
    record {
      law = every_push (Receives settings s.end) h e stands.law
          (point_halting settings s.end h (d ∷ []) (lawful_stop s.end 0 d now e a refl (asked_now c h (d ∷ []))) (HaltedNow apart (ap (λ x. Gave (Ok (x ∷ []))) a.is)));
      reflects = record {
        whole = ap (list_any is_last_parcel) took ∙ stands.reflects.whole;
        halted = λ none. record { before = h; entry = e; after = []; all = refl; asked = halts_it c (d ∷ []); unfinished = still };
        runs = λ r bad. absurd (let no : None ≡ Some r = bad in cc);
        rows = subst (λ l. HasCounted l s.rows) (ap (map payload_in) (sym took)) stands.reflects.rows;
      };
    }

halted : (settings : Settings) (s after : Receiving) (a : Option Datagram) (h : List Entry) → Halts s a after → Stands settings s h → Stands settings after (h ++ halting s.end.key (list_of a) ∷ [])
halted settings s after a h (HaltsAgain over none same) stands =
    subst (λ o. Stands settings after (h ++ halting s.end.key (list_of o) ∷ [])) (sym none) (subst (λ t. Stands settings t (h ++ halting s.end.key [] ∷ [])) (sym same) (halted_over settings s h over stands))
halted settings s after a h (HaltsNow d ring goes_on runs answer is same) stands =
    subst (λ o. Stands settings after (h ++ halting s.end.key (list_of o) ∷ [])) (sym is)
    (subst (λ t. Stands settings t (h ++ halting s.end.key (d ∷ []) ∷ [])) (sym same) (halted_now settings s h d ring goes_on runs answer stands))

pub stands_halted : (settings : Settings) (s after : Receiving) (a : Option Datagram) (h : List Entry) (e : Entry) → Halts s a after → IsHalting s.end.key a e → Stands settings s h → Stands settings after (h ++ e ∷ [])
stands_halted settings s after a h e halts is stands =
    subst (λ x. Stands settings after (h ++ x ∷ [])) (entry_is e (Halt s.end.key) (Gave (Ok (list_of a))) is.ask is.reply) (halted settings s after a h halts stands)

-- ---- others

pub stands_silent : (settings : Settings) (s : Receiving) (h : List Entry) (e : Entry) → IsSilent s.end h e → Stands settings s h → Stands settings s (h ++ e ∷ [])
stands_silent settings s h e silent stands =
    stands_still settings s h e (moves_by s.end.key h e [] [] silent.takes_none silent.stores_none silent.halts_none) (record {
      taken = λ p one. absurd (let bad : [] ≡ p ∷ [] = sym silent.takes_none ∙ one in cc);
      told = record { ack = λ p w. absurd (silent.ack p w); duplicate = λ p w. absurd (silent.duplicate p w); disorder = λ p w. absurd (silent.disorder p w) };
      stopped = silent.stop;
      answered = λ here. record {
        rows = λ d q asked directed reads given. absurd (given (silent.rows here d q asked directed reads));
        query = λ d p asked directed reads key flags given. absurd (given (silent.query here d p asked directed reads key flags));
        take = λ p ds w. absurd (no_take p ds w);
        take_from = λ asked given. absurd (given (silent.take_from here asked));
        halt = λ asked given. absurd (given (silent.halt here asked));
      };
    }) stands
  where
    no_take : (p : Parcel) (ds : List Datagram) → IsTaking s.end.key p ds e → ⊥
    no_take p ds w =
        let one : takes s.end.key e ≡ p ∷ [] = ap (parcel_for s.end.key e.ask) w.reply ∙ (adds s.end.key e.ask p ds w.ask).took in
        let bad : [] ≡ p ∷ [] = sym silent.takes_none ∙ one in
        cc

-- an ask that found no memory
silent_memory : (end : ConnEnd) (h : List Entry) (ask : HubAsk) → IsSilent end h (record { ask = ask; reply = Memory })
silent_memory end h ask =
    let e : Entry = record { ask = ask; reply = Memory } in
    let lawful = lawful_none end.key (h ++ e ∷ []) e refl in
    record {
      takes_none = takes_none ask;
      stores_none = stores_none ask;
      halts_none = halts_none ask;
      ack = λ p w. shown_none e end.key Ack p refl w;
      duplicate = λ p w. shown_none e end.key Duplicate p refl w;
      disorder = λ p w. shown_none e end.key Disorder p refl w;
      stop = lawful.stopped;
      rows = λ here d q asked directed reads. refl;
      query = λ here d p asked directed reads key flags. refl;
      take_from = λ here asked. refl;
      halt = λ here asked. refl;
    }
  where
    nothing : (b : Bool) (l : List Parcel) → l ≡ [] → cond b l [] ≡ []
    nothing true l e = e
    nothing false l e = refl

    and_false : (b : Bool) → (b && false) ≡ false
    and_false true = refl
    and_false false = refl

    takes_none : (x : HubAsk) → parcel_for end.key x Memory ≡ []
    takes_none (Begin query ends) = refl
    takes_none (Put key chunk) = refl
    takes_none (Finish key) = refl
    takes_none (Take query motion) = nothing ((query == end.key.query) && (motion == end.key.motion)) [] refl
    takes_none (TakeFrom key) = nothing (key_eq key end.key) [] refl
    takes_none (Halt key) = refl
    takes_none (Arrive d) = refl
    takes_none Tick = refl
    takes_none (Clear query) = refl
    takes_none (Leave query) = refl

    stores_none : (x : HubAsk) → stored_by end.key x Memory ≡ []
    stores_none (Begin query ends) = refl
    stores_none (Put key chunk) = refl
    stores_none (Finish key) = refl
    stores_none (Take query motion) = refl
    stores_none (TakeFrom key) = refl
    stores_none (Halt key) = refl
    stores_none (Arrive d) = refl
    stores_none Tick = refl
    stores_none (Clear query) = refl
    stores_none (Leave query) = refl

    halts_none : (x : HubAsk) → is_halt end.key x Memory ≡ false
    halts_none (Begin query ends) = refl
    halts_none (Put key chunk) = refl
    halts_none (Finish key) = refl
    halts_none (Take query motion) = refl
    halts_none (TakeFrom key) = refl
    halts_none (Halt key) = and_false (key_eq key end.key)
    halts_none (Arrive d) = refl
    halts_none Tick = refl
    halts_none (Clear query) = refl
    halts_none (Leave query) = refl

pub stands_memory : (settings : Settings) (s : Receiving) (h : List Entry) (ask : HubAsk) → Stands settings s h → Stands settings s (h ++ record { ask = ask; reply = Memory } ∷ [])
stands_memory settings s h ask stands = stands_silent settings s h (record { ask = ask; reply = Memory }) (silent_memory s.end h ask) stands

-- ---- beginning

stands_begun : (settings : Settings) (end : ConnEnd) → 64 ≤ settings.packet → Stands settings (begun end settings) []
stands_begun settings end least = record {
  law = every_none (Receives settings end);
  reflects = record {
    whole = refl;
    halted = λ bad. absurd (let no : Some (empty settings.receive_depth settings.packet) ≡ None = bad in cc);
    runs = λ ring is. let same : empty settings.receive_depth settings.packet ≡ ring = cc in subst (λ t. Mirrors settings end t []) same (record {
      running = λ w. nothing w.before w.entry w.after w.all;
      least = least;
      packet = refl;
      depth = refl;
      consumed = refl;
      stored = λ n there. absurd (Contains-none n there);
      back = λ n there. absurd (Contains-none n there);
      kept = λ p there. absurd (Contains-none p there);
    });
    rows = counted_none;
  };
}
  where
    nothing : (before : List Entry) (e : Entry) (after : List Entry) → [] ≡ before ++ e ∷ after → ⊥
    nothing [] e after h = let bad : [] ≡ e ∷ after = h in cc
    nothing (b ∷ before) e after h = let bad : [] ≡ b ∷ (before ++ e ∷ after) = h in cc

-- wherever nothing concerns the end
pub stands_untouched : (settings : Settings) (end : ConnEnd) (h : List Entry) → 64 ≤ settings.packet → IsUntouched end h → Stands settings (begun end settings) h
stands_untouched settings end h least untouched =
    fold_every (IsSilent end) (Stands settings (begun end settings)) h (stands_begun settings end least)
    (λ before e after at silent stands. stands_silent settings (begun end settings) before e silent stands) untouched
