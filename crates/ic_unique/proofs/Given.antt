-- Puts, finishes and answers that are heard: what goes out with them is one list.
use Rattle.std.proofs.Common.{◌≡◌, ◌≢◌, ℕ, List, [], ◌∷◌, Bool, true, false, cond, ◌&&◌, Some, Ok, refl, ap, sym, ◌∙◌}
use Rattle.ic_base.specs.declared.keys.ConnKey.{ConnKey}
use Rattle.ic_base.specs.declared.keys.ConnEnd.{ConnEnd}
use Rattle.ic_base.specs.declared.settings.Settings.{Settings}
use Rattle.ic_base.specs.declared.datagram.Datagram.{Datagram}
use Rattle.ic_base.specs.Keys.{key_eq}
use Rattle.ic_base.proofs.SameKeys.{key_eq-tells}
use Rattle.ic_law.specs.declared.history.HubAsk.TheVariants.{Put, Finish, Arrive}
use Rattle.ic_law.specs.declared.history.HubReply.{HubReply}
use Rattle.ic_law.specs.declared.history.HubReply.TheVariants.{Gave, Came}
use Rattle.ic_law.specs.declared.history.Arrived.TheVariants.{Handled}
use Rattle.ic_law.specs.declared.history.Entry.{Entry}
use Rattle.ic_header.specs.Packets.{Packet, packet_of, key_of, goes_forth}
use Rattle.ic_law.specs.History.{datagrams_of}
use Rattle.ic_law.specs.Putting.{was_given}
use Rattle.ic_law.specs.Hearing.{was_handled, answer_read, answer_in}
use Rattle.ic_law.specs.Points.{Place, IsHere}
use Rattle.ic_law.specs.Sending.{AnswersPut, Stopped, Full, TooLong, Given, AnswersHeard, Unheard, Strayed, Heard}
use Rattle.ic_law.specs.Clock.{ticks_by}
use Rattle.ic_law.specs.Order.{IsInOrder}
use Rattle.ic_law.specs.Emission.{EmitsDue}
use Rattle.ic_law.specs.Hub.{HubPoint}
use Rattle.ic_law.proofs.Drained.{IsAtRest}
use Rattle.ic_unique.proofs.Alike.{Alike}
use Rattle.ic_unique.proofs.Emitting.{IsAlone, emits_same}

-- what is known of a reply: the points of its entry, what is emitted with it, and the order of a tick
pub record IsLawful (place : Place) (h : List Entry) (e : Entry) : Type 0 where
  pub point : HubPoint place h e
  pub due : (end : ConnEnd) → end.sending ≡ true → IsHere end h → EmitsDue place.settings end h e
  pub order : ticks_by e.reply ≡ 1 → IsInOrder place.settings h e

apart : (a b : ConnKey) → a ≢ b → key_eq a b ≡ false
apart a b other = by (key_eq a b) refl
  where
    by : (t : Bool) → key_eq a b ≡ t → t ≡ false
    by true h = absurd (other (key_eq-tells a b h))
    by false h = refl

-- ---- puts and finishes

abbrev pub put_entry : ConnKey → List ℕ → HubReply → Entry
put_entry key chunk reply = record { ask = Put key chunk; reply = reply }

abbrev pub finish_entry : ConnKey → HubReply → Entry
finish_entry key reply = record { ask = Finish key; reply = reply }

pub put_alone : (place : Place) (h : List Entry) (x : ConnEnd) (chunk : List ℕ) (reply : HubReply) (ds : List Datagram) → IsLawful place h (put_entry x.key chunk reply) → reply ≡ Gave (Ok ds) → IsAlone place h (put_entry x.key chunk reply) x
put_alone place h x chunk reply ds lawful is = record {
  point = lawful.point;
  due = lawful.due;
  silent = λ w. w;
  still = ap ticks_by is;
  others = λ c other. record {
    puts_none = ap (λ b. cond (b && was_given reply) (chunk ∷ []) []) (apart x.key c (λ same. other (sym same)));
    finishes_none = refl;
    hears_none = refl;
  };
}

pub put_alike : (x : ConnEnd) (chunk : List ℕ) (r s : HubReply) (ds es : List Datagram) → r ≡ Gave (Ok ds) → s ≡ Gave (Ok es) → Alike x.key (put_entry x.key chunk r) (put_entry x.key chunk s)
put_alike x chunk r s ds es is is2 = record {
  puts_same = ap (λ b. cond (key_eq x.key x.key && b) (chunk ∷ []) []) (ap was_given is ∙ sym (ap was_given is2));
  finishes_same = refl;
  hears_same = refl;
  ticks_same = ap ticks_by is ∙ sym (ap ticks_by is2);
}

pub puts_same : (place : Place) (h : List Entry) (x : ConnEnd) (chunk : List ℕ) (r s : HubReply) (ds es : List Datagram) → IsAtRest place h → x.sending ≡ true → IsHere x h
    → IsLawful place h (put_entry x.key chunk r) → IsLawful place h (put_entry x.key chunk s) → r ≡ Gave (Ok ds) → s ≡ Gave (Ok es) → ds ≡ es
puts_same place h x chunk r s ds es rest sends here lr ls is is2 =
    sym (ap datagrams_of is)
    ∙ emits_same place h (put_entry x.key chunk r) (put_entry x.key chunk s) x rest sends here (put_alone place h x chunk r ds lr is) (put_alone place h x chunk s es ls is2)
    (put_alike x chunk r s ds es is is2)
    ∙ ap datagrams_of is2

pub finish_alone : (place : Place) (h : List Entry) (x : ConnEnd) (reply : HubReply) (ds : List Datagram) → IsLawful place h (finish_entry x.key reply) → reply ≡ Gave (Ok ds) → IsAlone place h (finish_entry x.key reply) x
finish_alone place h x reply ds lawful is = record {
  point = lawful.point;
  due = lawful.due;
  silent = λ w. w;
  still = ap ticks_by is;
  others = λ c other. record {
    puts_none = refl;
    finishes_none = ap (λ b. b && was_given reply) (apart x.key c (λ same. other (sym same)));
    hears_none = refl;
  };
}

pub finish_alike : (x : ConnEnd) (r s : HubReply) (ds es : List Datagram) → r ≡ Gave (Ok ds) → s ≡ Gave (Ok es) → Alike x.key (finish_entry x.key r) (finish_entry x.key s)
finish_alike x r s ds es is is2 = record {
  puts_same = refl;
  finishes_same = ap (λ b. key_eq x.key x.key && b) (ap was_given is ∙ sym (ap was_given is2));
  hears_same = refl;
  ticks_same = ap ticks_by is ∙ sym (ap ticks_by is2);
}

pub finishes_same : (place : Place) (h : List Entry) (x : ConnEnd) (r s : HubReply) (ds es : List Datagram) → IsAtRest place h → x.sending ≡ true → IsHere x h
    → IsLawful place h (finish_entry x.key r) → IsLawful place h (finish_entry x.key s) → r ≡ Gave (Ok ds) → s ≡ Gave (Ok es) → ds ≡ es
finishes_same place h x r s ds es rest sends here lr ls is is2 =
    sym (ap datagrams_of is)
    ∙ emits_same place h (finish_entry x.key r) (finish_entry x.key s) x rest sends here (finish_alone place h x r ds lr is) (finish_alone place h x s es ls is2)
    (finish_alike x r s ds es is is2)
    ∙ ap datagrams_of is2

-- one reply, where what goes out is one list
pub one_given : (settings : Settings) (end : ConnEnd) (h : List Entry) (needs : Type 0) (r s : HubReply) → AnswersPut settings end h needs r → AnswersPut settings end h needs s
    → ((ds es : List Datagram) → r ≡ Gave (Ok ds) → s ≡ Gave (Ok es) → ds ≡ es) → r ≡ s
one_given settings end h needs r s (Stopped stopped is) (Stopped stopped2 is2) same = is ∙ sym is2
one_given settings end h needs r s (Stopped stopped is) (Full going2 need2 full2 is2) same = absurd (going2 stopped)
one_given settings end h needs r s (Stopped stopped is) (TooLong going2 need2 room2 long2 is2) same = absurd (going2 stopped)
one_given settings end h needs r s (Stopped stopped is) (Given going2 room2 ds2 is2) same = absurd (going2 stopped)
one_given settings end h needs r s (Full going need full is) (Stopped stopped2 is2) same = absurd (going stopped2)
one_given settings end h needs r s (Full going need full is) (Full going2 need2 full2 is2) same = is ∙ sym is2
one_given settings end h needs r s (Full going need full is) (TooLong going2 need2 room2 long2 is2) same = absurd (room2 full)
one_given settings end h needs r s (Full going need full is) (Given going2 room2 ds2 is2) same = absurd ((room2 need).0 full)
one_given settings end h needs r s (TooLong going need room long is) (Stopped stopped2 is2) same = absurd (going stopped2)
one_given settings end h needs r s (TooLong going need room long is) (Full going2 need2 full2 is2) same = absurd (room full2)
one_given settings end h needs r s (TooLong going need room long is) (TooLong going2 need2 room2 long2 is2) same = is ∙ sym is2
one_given settings end h needs r s (TooLong going need room long is) (Given going2 room2 ds2 is2) same = absurd ((room2 need).1 long)
one_given settings end h needs r s (Given going room ds is) (Stopped stopped2 is2) same = absurd (going stopped2)
one_given settings end h needs r s (Given going room ds is) (Full going2 need2 full2 is2) same = absurd ((room need2).0 full2)
one_given settings end h needs r s (Given going room ds is) (TooLong going2 need2 room2 long2 is2) same = absurd ((room need2).1 long2)
one_given settings end h needs r s (Given going room ds is) (Given going2 room2 ds2 is2) same = is ∙ ap (λ l. Gave (Ok l)) (same ds ds2 is is2) ∙ sym is2

-- ---- answers that are heard

abbrev pub came_entry : Datagram → HubReply → Entry
came_entry d reply = record { ask = Arrive d; reply = reply }

no_answer : (c : ConnKey) (d : Datagram) (p : Packet) → packet_of d ≡ Some p → key_of p.head ≢ c → answer_in c d ≡ []
no_answer c d p reads other = ap (answer_read c) reads ∙ by (goes_forth p.head.flags) (key_eq (key_of p.head) c) (apart (key_of p.head) c other)
  where
    by : (forth same : Bool) → same ≡ false → cond forth [] (cond same (p ∷ []) []) ≡ []
    by true same is = refl
    by false true is = let bad : true ≡ false = is in absurd cc
    by false false is = refl

pub came_alone : (place : Place) (h : List Entry) (x : ConnEnd) (d : Datagram) (p : Packet) (reply : HubReply) (ds : List Datagram) → packet_of d ≡ Some p → goes_forth p.head.flags ≡ false → x.key ≡ key_of p.head
    → IsLawful place h (came_entry d reply) → reply ≡ Came Handled ds → IsAlone place h (came_entry d reply) x
came_alone place h x d p reply ds reads back key lawful is = record {
  point = lawful.point;
  due = lawful.due;
  silent = λ w. let both : Some p ≡ Some w.0 = sym reads ∙ w.1 in let same : p ≡ w.0 = cc in let bad : true ≡ false = sym w.2 ∙ ap (λ (q : Packet). goes_forth q.head.flags) (sym same) ∙ back in cc;
  still = ap ticks_by is;
  others = λ c other. record {
    puts_none = refl;
    finishes_none = refl;
    hears_none = none (was_handled reply) (answer_in c d) (no_answer c d p reads (λ same. other (sym same ∙ sym key)));
  };
}
  where
    none : (b : Bool) (ps : List Packet) → ps ≡ [] → cond b ps [] ≡ []
    none true ps is = is
    none false ps is = refl

pub came_alike : (x : ConnEnd) (d : Datagram) (r s : HubReply) (ds es : List Datagram) → r ≡ Came Handled ds → s ≡ Came Handled es → Alike x.key (came_entry d r) (came_entry d s)
came_alike x d r s ds es is is2 = record {
  puts_same = refl;
  finishes_same = refl;
  hears_same = ap (λ b. cond b (answer_in x.key d) []) (ap was_handled is ∙ sym (ap was_handled is2));
  ticks_same = ap ticks_by is ∙ sym (ap ticks_by is2);
}

pub comes_same : (place : Place) (h : List Entry) (x : ConnEnd) (d : Datagram) (p : Packet) (r s : HubReply) (ds es : List Datagram) → IsAtRest place h → x.sending ≡ true → IsHere x h
    → packet_of d ≡ Some p → goes_forth p.head.flags ≡ false → x.key ≡ key_of p.head
    → IsLawful place h (came_entry d r) → IsLawful place h (came_entry d s) → r ≡ Came Handled ds → s ≡ Came Handled es → ds ≡ es
comes_same place h x d p r s ds es rest sends here reads back key lr ls is is2 =
    sym (ap datagrams_of is)
    ∙ emits_same place h (came_entry d r) (came_entry d s) x rest sends here (came_alone place h x d p r ds reads back key lr is) (came_alone place h x d p s es reads back key ls is2)
    (came_alike x d r s ds es is is2)
    ∙ ap datagrams_of is2

pub one_heard : (end : ConnEnd) (h : List Entry) (p : Packet) (r s : HubReply) → AnswersHeard end h p r → AnswersHeard end h p s
    → ((ds es : List Datagram) → r ≡ Came Handled ds → s ≡ Came Handled es → ds ≡ es) → r ≡ s
one_heard end h p r s (Unheard stopped is) (Unheard stopped2 is2) same = is ∙ sym is2
one_heard end h p r s (Unheard stopped is) (Strayed going2 stray2 is2) same = absurd (going2 stopped)
one_heard end h p r s (Unheard stopped is) (Heard going2 fine2 ds2 is2) same = absurd (going2 stopped)
one_heard end h p r s (Strayed going stray is) (Unheard stopped2 is2) same = absurd (going stopped2)
one_heard end h p r s (Strayed going stray is) (Strayed going2 stray2 is2) same = is ∙ sym is2
one_heard end h p r s (Strayed going stray is) (Heard going2 fine2 ds2 is2) same = absurd (fine2 stray)
one_heard end h p r s (Heard going fine ds is) (Unheard stopped2 is2) same = absurd (going stopped2)
one_heard end h p r s (Heard going fine ds is) (Strayed going2 stray2 is2) same = absurd (fine stray2)
one_heard end h p r s (Heard going fine ds is) (Heard going2 fine2 ds2 is2) same = is ∙ ap (Came Handled) (same ds ds2 is is2) ∙ sym is2
