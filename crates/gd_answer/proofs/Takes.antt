-- What was taken of a connection, by the history of the receiver's node and by the steps of its worker.
use Rattle.std.proofs.Common.{◌≡◌, ℕ, ℤ, List, [], ◌∷◌, ◌++◌, Bool, true, false, ◌&&◌, ◌==◌, cond, Ok, Err, refl, ap, sym, ◌∙◌, subst, append_assoc}
use Rattle.std.specs.List.{AllByRecursion, flat_map}
use Rattle.std.specs.Ordering.{int_eq}
use Rattle.std.proofs.lemmas.Bool.Decides.{Decides-int_eq}
use Rattle.ic_base.specs.declared.keys.ConnKey.{ConnKey}
use Rattle.ic_base.specs.declared.keys.ConnEnd.{ConnEnd}
use Rattle.ic_base.specs.declared.datagram.Datagram.{Datagram}
use Rattle.ic_base.specs.declared.datagram.Parcel.{Parcel}
use Rattle.ic_base.specs.declared.port.PortAsk.{PortAsk}
use Rattle.ic_base.specs.declared.port.PortAsk.TheVariants as ask
use Rattle.ic_base.specs.declared.port.PortEntry.{PortEntry}
use Rattle.ic_law.specs.declared.history.HubAsk.{HubAsk}
use Rattle.ic_law.specs.declared.history.HubAsk.TheVariants.{Begin, Put, Finish, Take, TakeFrom, Halt, Arrive, Tick, Clear, Leave}
use Rattle.ic_law.specs.declared.history.HubReply.{HubReply}
use Rattle.ic_law.specs.declared.history.HubReply.TheVariants.{Begun, Gave, Took, Came, Ticked, Cleared, Left, Memory}
use Rattle.ic_law.specs.declared.history.HubNo.TheVariants as no
use Rattle.ic_law.specs.declared.history.Entry.{Entry}
use Rattle.ic_law.specs.Taking.{parcels_in, parcels_from, parcel_for, parcels_of}
use Rattle.ic_law.specs.Points.{Place, IsHere}
use Rattle.ic_law.specs.Receiving.{AnswersTake, Over, None as NothingNext, Taken}
use Rattle.ic_law.specs.Hub.{HubPoint, HubLaw}
use Rattle.ic_law.specs.Logs.{take_logs}
use Rattle.pl_parts.proofs.Bags.{flat-map}
use Rattle.pl_runs.specs.Steps as steps
use Rattle.pl_runs.specs.Steps.{Step, calls_of, is_done, chunk_of, ends_on, takes_of, parcels_by, put_on, finished_on}
use Rattle.pl_runs.specs.Logs.{sends_by, hears_by, hears_motion, logs_by, logs, log_of}
use Rattle.ic_law.proofs.Lists.{flat_map-append}
use Rattle.gd_answer.proofs.Ends.{differ, AreOwn, heard_key, heard_motion, put_asks, halt_asks, chosen_asks}

-- ---- parcels of a log

took_in : ℕ → PortEntry → List Parcel
took_in motion e = cond (takes_of motion e.ask) (parcels_by e.reply) []

-- ---- parcels that were taken

pub parcels_from-append : (from : ℤ) (ps qs : List Parcel) → parcels_from from (ps ++ qs) ≡ parcels_from from ps ++ parcels_from from qs
parcels_from-append from [] qs = refl
parcels_from-append from (p ∷ ps) qs = by (int_eq p.from from) (parcels_from-append from ps qs)
  where
    by : (b : Bool) → parcels_from from (ps ++ qs) ≡ parcels_from from ps ++ parcels_from from qs → cond b (p ∷ parcels_from from (ps ++ qs)) (parcels_from from (ps ++ qs)) ≡ cond b (p ∷ parcels_from from ps) (parcels_from from ps) ++ parcels_from from qs
    by true e = ap (λ l. p ∷ l) e
    by false e = e

-- if each entry is of its ask, and the ask takes nothing, nothing is taken
takes_none : (motion : ℕ) (asked : PortAsk) (log : List PortEntry) → takes_of motion asked ≡ false → AllByRecursion (λ (e : PortEntry). e.ask ≡ asked) log → flat_map (took_in motion) log ≡ []
unfolding took_in
takes_none motion asked [] none all = refl
takes_none motion asked (e ∷ log) none all = ap (λ l. l ++ flat_map (took_in motion) log) (ap (λ a. cond (takes_of motion a) (parcels_by e.reply) []) all.0 ∙ ap (λ b. cond b (parcels_by e.reply) []) none) ∙ takes_none motion asked log none all.1

no_parcels : (motion : ℕ) (from : ℤ) (asked : PortAsk) (log : List PortEntry) → takes_of motion asked ≡ false → AllByRecursion (λ (e : PortEntry). e.ask ≡ asked) log → [] ≡ parcels_from from (flat_map (took_in motion) log)
no_parcels motion from asked log none all = sym (ap (parcels_from from) (takes_none motion asked log none all))

of_one : (p : Parcel) (from : ℤ) (b : Bool) → cond b (cond (int_eq p.from from) (p ∷ []) []) [] ≡ parcels_from from (cond b (p ∷ []) [] ++ [])
of_one p from true = refl
of_one p from false = refl

abbrev no_parcel : List Parcel
no_parcel = []

none_here : (b : Bool) → cond b no_parcel [] ≡ []
none_here true = refl
none_here false = refl

none_of_from : (from : ℤ) (b : Bool) → [] ≡ parcels_from from (cond b no_parcel [] ++ [])
none_of_from from true = refl
none_of_from from false = refl

none_of : (from : ℤ) (b : Bool) → cond b no_parcel [] ≡ parcels_from from (cond b no_parcel [] ++ [])
none_of from true = refl
none_of from false = refl

take_any : (c : ConnKey) (motion : ℕ) (replied : HubReply) (same : Bool)
    → cond (same && (motion == c.motion)) (parcels_from c.from (parcels_in replied)) [] ≡ parcels_from c.from (flat_map (took_in c.motion) (cond same (take_logs (ask.Take motion) replied) []))
unfolding took_in
take_any c motion replied false = refl
take_any c motion (Took (Ok r)) true = of_one r.0 c.from (motion == c.motion)
take_any c motion (Took (Err no.Empty)) true = none_of c.from (motion == c.motion)
take_any c motion (Took (Err no.Ended)) true = none_of c.from (motion == c.motion)
take_any c motion (Took (Err no.Full)) true = none_here (motion == c.motion)
take_any c motion (Took (Err no.Stopped)) true = none_here (motion == c.motion)
take_any c motion (Took (Err (no.TooLong which))) true = none_here (motion == c.motion)
take_any c motion (Took (Err (no.Unknown query m))) true = none_here (motion == c.motion)
take_any c motion (Took (Err no.Memory)) true = none_here (motion == c.motion)
take_any c motion (Begun r) true = none_here (motion == c.motion)
take_any c motion (Gave r) true = none_here (motion == c.motion)
take_any c motion (Came how ds) true = none_here (motion == c.motion)
take_any c motion (Ticked r) true = none_here (motion == c.motion)
take_any c motion (Cleared r) true = none_here (motion == c.motion)
take_any c motion (Left r) true = none_here (motion == c.motion)
take_any c motion Memory true = none_here (motion == c.motion)

-- a parcel that a take from one sender gave is from that one
FromIts : HubAsk → HubReply → Type 0
FromIts asked replied = (key : ConnKey) (p : Parcel) (ds : List Datagram) → asked ≡ TakeFrom key → replied ≡ Took (Ok (p, ds)) → p.from ≡ key.from

take_one : (c key : ConnKey) (replied : HubReply) (same : Bool) → FromIts (TakeFrom key) replied
    → cond (same && ((key.motion == c.motion) && int_eq key.from c.from)) (parcels_in replied) []
    ≡ parcels_from c.from (flat_map (took_in c.motion) (cond same (take_logs (ask.TakeFrom key.motion key.from) replied) []))
unfolding FromIts took_in
take_one c key replied false its = refl
take_one c key (Took (Ok r)) true its =
    ap (λ f. cond ((key.motion == c.motion) && int_eq f c.from) (r.0 ∷ []) []) (sym (its key r.0 r.1 refl refl))
    ∙ nested (key.motion == c.motion) (int_eq r.0.from c.from) (r.0 ∷ [])
    ∙ of_one r.0 c.from (key.motion == c.motion)
  where
    nested : {A : Type 0} (a b : Bool) (xs : List A) → cond (a && b) xs [] ≡ cond a (cond b xs []) []
    nested true b xs = refl
    nested false b xs = refl
take_one c key (Took (Err no.Empty)) true its = none_here ((key.motion == c.motion) && int_eq key.from c.from) ∙ none_of_from c.from (key.motion == c.motion)
take_one c key (Took (Err no.Ended)) true its = none_here ((key.motion == c.motion) && int_eq key.from c.from) ∙ none_of_from c.from (key.motion == c.motion)
take_one c key (Took (Err no.Full)) true its = none_here ((key.motion == c.motion) && int_eq key.from c.from)
take_one c key (Took (Err no.Stopped)) true its = none_here ((key.motion == c.motion) && int_eq key.from c.from)
take_one c key (Took (Err (no.TooLong which))) true its = none_here ((key.motion == c.motion) && int_eq key.from c.from)
take_one c key (Took (Err (no.Unknown query m))) true its = none_here ((key.motion == c.motion) && int_eq key.from c.from)
take_one c key (Took (Err no.Memory)) true its = none_here ((key.motion == c.motion) && int_eq key.from c.from)
take_one c key (Begun r) true its = none_here ((key.motion == c.motion) && int_eq key.from c.from)
take_one c key (Gave r) true its = none_here ((key.motion == c.motion) && int_eq key.from c.from)
take_one c key (Came how ds) true its = none_here ((key.motion == c.motion) && int_eq key.from c.from)
take_one c key (Ticked r) true its = none_here ((key.motion == c.motion) && int_eq key.from c.from)
take_one c key (Cleared r) true its = none_here ((key.motion == c.motion) && int_eq key.from c.from)
take_one c key (Left r) true its = none_here ((key.motion == c.motion) && int_eq key.from c.from)
take_one c key Memory true its = none_here ((key.motion == c.motion) && int_eq key.from c.from)

-- ---- what the hub's law says of it

taken_from : (end : ConnEnd) (before : List Entry) (replied : HubReply) (p : Parcel) (ds : List Datagram) → AnswersTake end before replied → replied ≡ Took (Ok (p, ds)) → p.from ≡ end.key.from
taken_from end before replied p ds (Over ended is) took = let bad : Took (Err no.Ended) ≡ Took (Ok (p, ds)) = sym is ∙ took in cc
taken_from end before replied p ds (NothingNext going nothing is) took = let bad : Took (Err no.Empty) ≡ Took (Ok (p, ds)) = sym is ∙ took in cc
taken_from end before replied p ds (Taken going parcel told taken is) took =
    let w : parcel ∷ [] ≡ p ∷ [] = ap parcels_in (sym is ∙ took) in
    let same : parcel ≡ p = cc in
    subst (λ (x : Parcel). x.from ≡ end.key.from) same taken.from

its_own : (place : Place) (before : List Entry) (e : Entry) → HubPoint place before e → FromIts e.ask e.reply
unfolding FromIts
its_own place before e point key p ds asked took = by (int_eq p.from key.from) refl
  where
    by : (b : Bool) → int_eq p.from key.from ≡ b → p.from ≡ key.from
    by true is = (Decides-int_eq p.from key.from).0 is
    by false is = absurd (unknown (point.known.take_from key asked not_there remembered))
      where
        remembered : e.reply ≡ Memory → ⊥
        remembered h = let bad : Memory ≡ Took (Ok (p, ds)) = sym h ∙ took in cc

        not_there : (end : ConnEnd) → IsHere end before → end.key ≡ key → end.sending ≡ false → ⊥
        not_there end here same side =
            differ (sym is ∙ (Decides-int_eq p.from key.from).1
            (taken_from end before e.reply p ds ((point.answered end side here).take_from (asked ∙ ap TakeFrom (sym same)) remembered) took ∙ ap (λ (k : ConnKey). k.from) same))

        unknown : e.reply ≡ Took (Err (no.Unknown key.query key.motion)) → ⊥
        unknown h = let bad : Took (Err (no.Unknown key.query key.motion)) ≡ Took (Ok (p, ds)) = sym h ∙ took in cc

all_own : (place : Place) (h before rest : List Entry) → HubLaw place h → h ≡ before ++ rest → AllByRecursion (λ e. FromIts e.ask e.reply) rest
all_own place h before [] law at = tt
all_own place h before (e ∷ rest) law at = (its_own place before e (law before e rest at), all_own place h (before ++ e ∷ []) rest law (at ∙ sym (append_assoc before (e ∷ []) rest)))

-- ---- one entry

module _ (ends : List ConnEnd) (c : ConnKey) (own : AreOwn c.session c.query c.to ends) (mine : hears_by ends c ≡ true) (of_motion : hears_motion ends c.query c.motion ≡ true) where
  entry_takes : (asked : HubAsk) (replied : HubReply) → FromIts asked replied → parcel_for c asked replied ≡ parcels_from c.from (flat_map (took_in c.motion) (logs_by ends asked replied))
  entry_takes (Begin q es) replied its = refl
  entry_takes (Put key chunk) replied its = no_parcels c.motion c.from (ask.Put key.motion key.to chunk) _ refl (chosen_asks _ (sends_by ends key) _ (put_asks (ask.Put key.motion key.to chunk) key replied))
  entry_takes (Finish key) replied its = no_parcels c.motion c.from (ask.Finish key.motion key.to) _ refl (chosen_asks _ (sends_by ends key) _ (put_asks (ask.Finish key.motion key.to) key replied))
  entry_takes (Take q motion) replied its = ap (λ b. cond b (parcels_from c.from (parcels_in replied)) []) (heard_motion ends c q motion own of_motion) ∙ take_any c motion replied (hears_motion ends q motion)
  entry_takes (TakeFrom key) replied its = ap (λ b. cond b (parcels_in replied) []) (heard_key ends c key own mine) ∙ take_one c key replied (hears_by ends key) its
  entry_takes (Halt key) replied its = no_parcels c.motion c.from (ask.Halt key.motion key.from) _ refl (chosen_asks _ (hears_by ends key) _ (halt_asks (ask.Halt key.motion key.from) replied))
  entry_takes (Arrive d) replied its = refl
  entry_takes Tick replied its = refl
  entry_takes (Clear q) replied its = refl
  entry_takes (Leave q) replied its = refl

  all_takes : (h : List Entry) → AllByRecursion (λ (e : Entry). FromIts e.ask e.reply) h → parcels_of c h ≡ parcels_from c.from (flat_map (took_in c.motion) (log_of ends h))
  all_takes [] its = refl
  all_takes (e ∷ h) its =
      ap (λ l. l ++ parcels_of c h) (entry_takes e.ask e.reply its.0)
      ∙ ap (λ l. parcels_from c.from (flat_map (took_in c.motion) (logs ends e)) ++ l) (all_takes h its.1)
      ∙ sym (parcels_from-append c.from (flat_map (took_in c.motion) (logs ends e)) (flat_map (took_in c.motion) (log_of ends h)))
      ∙ ap (parcels_from c.from) (sym (flat_map-append (took_in c.motion) (logs ends e) (log_of ends h)))

  -- what the steps took of the connection is what the history says
  pub takes_so : (place : Place) (taken : List Step) (h : List Entry) → HubLaw place h → calls_of taken ≡ log_of ends h → parcels_of c h ≡ parcels_from c.from (steps.parcels_of c.motion taken)
  unfolding took_in
  takes_so place taken h law log = all_takes h (all_own place h [] h law refl) ∙ ap (λ l. parcels_from c.from (flat_map (took_in c.motion) l)) (sym log) ∙ ap (parcels_from c.from) (flat-map (took_in c.motion) (λ (s : Step). s.entry) taken)
