-- Nothing is taken of a connection after its end.
use Rattle.std.proofs.Common.{◌≡◌, ℕ, ℤ, List, [], ◌∷◌, ◌++◌, Bool, true, false, ◌&&◌, ◌||◌, ◌==◌, cond, Ok, Err, refl, ap, sym, ◌∙◌, inl, inr, ◌⊎◌, append_assoc, append-nil}
use Rattle.std.specs.List.{list_any}
use Rattle.std.specs.Ordering.{int_eq}
use Rattle.std.proofs.lemmas.Bool.Decides.{Decides-int_eq, Decides-eqb}
use Rattle.ic_base.specs.declared.keys.ConnKey.{ConnKey}
use Rattle.ic_base.specs.declared.keys.ConnEnd.{ConnEnd}
use Rattle.ic_base.specs.declared.datagram.Datagram.{Datagram}
use Rattle.ic_base.specs.declared.datagram.Parcel.{Parcel}
use Rattle.ic_base.specs.Keys.{key_eq}
use Rattle.ic_base.proofs.SameKeys.{key_eq-tells}
use Rattle.ic_law.specs.declared.history.HubAsk.{HubAsk}
use Rattle.ic_law.specs.declared.history.HubAsk.TheVariants.{Begin, Put, Finish, Take, TakeFrom, Halt, Arrive, Tick, Clear, Leave}
use Rattle.ic_law.specs.declared.history.HubReply.{HubReply}
use Rattle.ic_law.specs.declared.history.HubReply.TheVariants.{Begun, Gave, Took, Came, Ticked, Cleared, Left, Memory}
use Rattle.ic_law.specs.declared.history.HubNo.TheVariants as no
use Rattle.ic_law.specs.declared.history.Entry.{Entry}
use Rattle.ic_law.specs.Taking.{parcels_in, parcels_from, takes, parcels_of, is_last_parcel, whole_of}
use Rattle.ic_law.specs.Queries.{was_begun}
use Rattle.ic_law.specs.Asking.{AreEnds}
use Rattle.ic_law.specs.Points.{Place, IsHere}
use Rattle.ic_law.specs.Receiving.{AnswersTake, Over, None as NothingNext, Taken}
use Rattle.ic_law.specs.Arriving.{AnswersTakeAny, AllOver, NoneReady, Serves}
use Rattle.ic_law.specs.Hub.{HubPoint, HubLaw}
use Rattle.ic_law.proofs.Lists.{list_any-append, inside}
use Rattle.ic_law.proofs.Readings.{fold_every, takes_cases, parcels_of-push}
use Rattle.gd_answer.proofs.Ends.{differ, both}

-- ---- what a take that gave something was

-- the call took this parcel of c
data TakesIt (c : ConnKey) (e : Entry) (p : Parcel) : Type 0 where
  from_any : (ds : List Datagram) → e.ask ≡ Take c.query c.motion → e.reply ≡ Took (Ok (p, ds)) → p.from ≡ c.from → TakesIt c e p
  from_one : (ds : List Datagram) → e.ask ≡ TakeFrom c → e.reply ≡ Took (Ok (p, ds)) → TakesIt c e p

one_of : (replied : HubReply) (p : Parcel) → parcels_in replied ≡ p ∷ [] → (ds : List Datagram) × (replied ≡ Took (Ok (p, ds)))
one_of (Took (Ok r)) p h = let same : r.0 ≡ p = cc in (r.1, ap (λ (x : Parcel). Took (Ok (x, r.1))) same)
one_of (Took (Err refusal)) p h = absurd (cc)
one_of (Begun r) p h = absurd (cc)
one_of (Gave r) p h = absurd (cc)
one_of (Came how ds) p h = absurd (cc)
one_of (Ticked r) p h = absurd (cc)
one_of (Cleared r) p h = absurd (cc)
one_of (Left r) p h = absurd (cc)
one_of Memory p h = absurd (cc)

of_sender : (from : ℤ) (replied : HubReply) (p : Parcel) → parcels_from from (parcels_in replied) ≡ p ∷ [] → (ds : List Datagram) × (replied ≡ Took (Ok (p, ds))) × (p.from ≡ from)
of_sender from (Took (Ok r)) p h = by (int_eq r.0.from from) refl h
  where
    by : (b : Bool) → int_eq r.0.from from ≡ b → cond b (r.0 ∷ []) [] ≡ p ∷ [] → (ds : List Datagram) × (Took (Ok r) ≡ Took (Ok (p, ds))) × (p.from ≡ from)
    by true e k = let same : r.0 ≡ p = cc in (r.1, ap (λ (x : Parcel). Took (Ok (x, r.1))) same, ap (λ (x : Parcel). x.from) (sym same) ∙ (Decides-int_eq r.0.from from).0 e)
    by false e k = absurd (cc)
of_sender from (Took (Err refusal)) p h = absurd (cc)
of_sender from (Begun r) p h = absurd (cc)
of_sender from (Gave r) p h = absurd (cc)
of_sender from (Came how ds) p h = absurd (cc)
of_sender from (Ticked r) p h = absurd (cc)
of_sender from (Cleared r) p h = absurd (cc)
of_sender from (Left r) p h = absurd (cc)
of_sender from Memory p h = absurd (cc)

takes_it : (c : ConnKey) (asked : HubAsk) (replied : HubReply) (p : Parcel) → takes c (record { ask = asked; reply = replied }) ≡ p ∷ [] → TakesIt c (record { ask = asked; reply = replied }) p
takes_it c (Take q m) replied p h = by ((q == c.query) && (m == c.motion)) refl h
  where
    by : (b : Bool) → ((q == c.query) && (m == c.motion)) ≡ b → cond b (parcels_from c.from (parcels_in replied)) [] ≡ p ∷ [] → TakesIt c (record { ask = Take q m; reply = replied }) p
    by true e k =
        let t = both (q == c.query) (m == c.motion) e in
        let r = of_sender c.from replied p k in
        from_any r.0 (ap (λ x. Take x m) ((Decides-eqb q c.query).0 t.0) ∙ ap (Take c.query) ((Decides-eqb m c.motion).0 t.1)) r.1 r.2
    by false e k = absurd (cc)
takes_it c (TakeFrom key) replied p h = by (key_eq key c) refl h
  where
    by : (b : Bool) → key_eq key c ≡ b → cond b (parcels_in replied) [] ≡ p ∷ [] → TakesIt c (record { ask = TakeFrom key; reply = replied }) p
    by true e k = let r = one_of replied p k in from_one r.0 (ap TakeFrom (key_eq-tells key c e)) r.1
    by false e k = absurd (cc)
takes_it c (Begin q es) replied p h = absurd (cc)
takes_it c (Put key chunk) replied p h = absurd (cc)
takes_it c (Finish key) replied p h = absurd (cc)
takes_it c (Halt key) replied p h = absurd (cc)
takes_it c (Arrive d) replied p h = absurd (cc)
takes_it c Tick replied p h = absurd (cc)
takes_it c (Clear q) replied p h = absurd (cc)
takes_it c (Leave q) replied p h = absurd (cc)

-- ---- while a connection is whole, nothing is taken of it

-- an end that is here is of this session, and its own side is here
end_here : (place : Place) (h before : List Entry) (rest : List Entry) (end : ConnEnd) → HubLaw place h → h ≡ before ++ rest → IsHere end before → end.sending ≡ false → (end.key.session ≡ place.session) × (end.key.to ≡ place.at)
end_here place h before rest end law at here side =
    let live = here.live in
    let e : Entry = record { ask = Begin end.key.query here.ends; reply = live.reply } in
    let point = law live.before e (live.after ++ rest) (at ∙ ap (λ l. l ++ rest) live.all ∙ append_assoc live.before (e ∷ live.after) rest) in
    let ends : AreEnds place end.key.query here.ends = point.allowed (λ m. differ (sym (ap was_begun m) ∙ live.begun)) in
    let one = ends.each end here.stands in
    (one.session, one.receives_here side)

same_key : (a b : ConnKey) → a.session ≡ b.session → a.query ≡ b.query → a.motion ≡ b.motion → a.from ≡ b.from → a.to ≡ b.to → a ≡ b
same_key a b s q m f t =
    ap (λ x. key x a.query a.motion a.from a.to) s ∙ ap (λ x. key b.session x a.motion a.from a.to) q ∙ ap (λ x. key b.session b.query x a.from a.to) m
    ∙ ap (λ x. key b.session b.query b.motion x a.to) f ∙ ap (key b.session b.query b.motion b.from) t
  where
    key : ℕ → ℕ → ℕ → ℤ → ℤ → ConnKey
    key session query motion from to = record { session = session; query = query; motion = motion; from = from; to = to }

module _ (place : Place) (c : ConnKey) (session : c.session ≡ place.session) (to : c.to ≡ place.at) (h before : List Entry) (e : Entry) (after : List Entry) (law : HubLaw place h) (at : h ≡ before ++ e ∷ after) (p : Parcel) (whole : whole_of c before ≡ true) where
  point : HubPoint place before e
  point = law before e after at

  took_more : (ds : List Datagram) → e.reply ≡ Took (Ok (p, ds)) → e.reply ≡ Memory → ⊥
  took_more ds r m = let bad : Memory ≡ Took (Ok (p, ds)) = sym m ∙ r in cc

  -- from the sender of c alone
  not_from : (ds : List Datagram) → e.reply ≡ Took (Ok (p, ds)) → (end : ConnEnd) → end.key ≡ c → AnswersTake end before e.reply → ⊥
  not_from ds r end same (Over ended is) = let bad : Took (Err no.Ended) ≡ Took (Ok (p, ds)) = sym is ∙ r in cc
  not_from ds r end same (NothingNext going nothing is) = let bad : Took (Err no.Empty) ≡ Took (Ok (p, ds)) = sym is ∙ r in cc
  not_from ds r end same (Taken going parcel told taken is) = going (inl (ap (λ (k : ConnKey). whole_of k before) same ∙ whole))

  no_take_from : (ds : List Datagram) → e.ask ≡ TakeFrom c → e.reply ≡ Took (Ok (p, ds)) → ⊥
  no_take_from ds asked r =
      let unknown : e.reply ≡ Took (Err (no.Unknown c.query c.motion)) = point.known.take_from c asked
      (λ end here same side. not_from ds r end same ((point.answered end side here).take_from (asked ∙ ap TakeFrom (sym same)) (took_more ds r))) (took_more ds r) in
      let bad : Took (Err (no.Unknown c.query c.motion)) ≡ Took (Ok (p, ds)) = sym unknown ∙ r in cc

  -- from any sender of the motion
  not_of : (ds : List Datagram) → e.reply ≡ Took (Ok (p, ds)) → p.from ≡ c.from → AnswersTakeAny c.query c.motion before e.reply → ⊥
  not_of ds r from (AllOver over is) = let bad : Took (Err no.Ended) ≡ Took (Ok (p, ds)) = sym is ∙ r in cc
  not_of ds r from (NoneReady open_end of_motion goes none is) = let bad : Took (Err no.Empty) ≡ Took (Ok (p, ds)) = sym is ∙ r in cc
  not_of ds r from (Serves end ready last served first parcel told taken is) =
      let both_are : parcel ∷ [] ≡ p ∷ [] = ap parcels_in (sym is ∙ r) in
      let same : parcel ≡ p = cc in
      let of = ready.of_motion in
      let there = end_here place h before (e ∷ after) end law at of.here of.receiving in
      let k : end.key ≡ c = same_key end.key c (there.0 ∙ sym session) of.query_is of.motion_is (sym taken.from ∙ ap (λ (x : Parcel). x.from) same ∙ from) (there.1 ∙ sym to) in
      ready.goes_on (inl (ap (λ (x : ConnKey). whole_of x before) k ∙ whole))

  no_take : (ds : List Datagram) → e.ask ≡ Take c.query c.motion → e.reply ≡ Took (Ok (p, ds)) → p.from ≡ c.from → ⊥
  no_take ds asked r from =
      let unknown : e.reply ≡ Took (Err (no.Unknown c.query c.motion)) = point.known.take c.query c.motion asked
      (λ end of. not_of ds r from (point.take c.query c.motion asked end of (took_more ds r))) (took_more ds r) in
      let bad : Took (Err (no.Unknown c.query c.motion)) ≡ Took (Ok (p, ds)) = sym unknown ∙ r in cc

  none_taken : takes c e ≡ p ∷ [] → ⊥
  none_taken took = by (takes_it c e.ask e.reply p took)
    where
      by : TakesIt c (record { ask = e.ask; reply = e.reply }) p → ⊥
      by (from_any ds asked r from) = no_take ds asked r from
      by (from_one ds asked r) = no_take_from ds asked r

-- ---- nothing after the last parcel

abbrev pub EndsThere : ConnKey → List Entry → Type 0
EndsThere c h = (ps qs : List Parcel) → parcels_of c h ≡ ps ++ qs → list_any is_last_parcel ps ≡ true → qs ≡ []

back_nil : (ms qs : List Parcel) → ms ++ qs ≡ [] → qs ≡ []
back_nil [] qs h = h
back_nil (m ∷ ms) qs h = absurd (cc)

more_whole : (a b : Bool) → a ≡ true → (a || b) ≡ true
more_whole a b h = ap (λ x. x || b) h

pub ends_there : (place : Place) (c : ConnKey) (h : List Entry) → c.session ≡ place.session → c.to ≡ place.at → HubLaw place h → EndsThere c h
ends_there place c h session to law = fold_every (HubPoint place) (EndsThere c) h none step law
  where
    none : EndsThere c []
    none ps qs e last = back_nil ps qs (sym e)

    step : (before : List Entry) (e : Entry) (after : List Entry) → h ≡ before ++ e ∷ after → HubPoint place before e → EndsThere c before → EndsThere c (before ++ e ∷ [])
    step before e after at point old = by (takes c e) refl (takes_cases c e)
      where
        by : (ts : List Parcel) → takes c e ≡ ts → (ts ≡ []) ⊎ ((p : Parcel) × (ts ≡ p ∷ [])) → EndsThere c (before ++ e ∷ [])
        by ts same (inl nil) ps qs all last = old ps qs (sym (parcels_of-push c before e ∙ ap (λ l. parcels_of c before ++ l) (same ∙ nil) ∙ append-nil (parcels_of c before)) ∙ all) last
        by ts same (inr one) ps qs all last =
            let took : takes c e ≡ one.0 ∷ [] = same ∙ one.1 in
            let joined : parcels_of c before ++ one.0 ∷ [] ≡ ps ++ qs = ap (λ l. parcels_of c before ++ l) (sym took) ∙ sym (parcels_of-push c before e) ∙ all in
            elim (inside (parcels_of c before) (one.0 ∷ []) ps qs joined) [
              | inl w ↦ absurd (none_taken place c session to h before e after law at one.0 (ap (list_any is_last_parcel) w.1 ∙ list_any-append is_last_parcel ps w.0 ∙ more_whole (list_any is_last_parcel ps) (list_any is_last_parcel w.0) last) took)
              | inr w ↦ let rest : [] ≡ w.1 ++ qs = cc in back_nil w.1 qs (sym rest)
            ]
