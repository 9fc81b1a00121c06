-- What is put, and the answers that come.
use Rattle.std.proofs.Common.{◌≡◌, ℕ, ◌+◌, ◌<◌, ◌≤◌, ◌^◌, List, [], ◌∷◌, ◌++◌, length, map, Bool, true, false, cond, ◌&&◌, ◌||◌, ◌==◌, Some, Result, Ok, Err, refl, ap, sym, ◌∙◌, subst, arith, inl, inr}
use Rattle.std.specs.Prelude.{IfOk, nat_lt, nat_le}
use Rattle.std.specs.List.{flat_map, Contains}
use Rattle.std.proofs.lemmas.Bool.{cases_Bool, le-leb}
use Rattle.std.proofs.lemmas.List.Elements.{Contains-append_cases, Contains-append_right}
use Rattle.ic_base.specs.declared.keys.ConnKey.{ConnKey}
use Rattle.ic_base.specs.declared.keys.ConnEnd.{ConnEnd}
use Rattle.ic_base.specs.declared.datagram.Datagram.{Datagram}
use Rattle.ic_base.specs.Keys.{key_eq}
use Rattle.ic_base.proofs.SameKeys.{key_eq-same}
use Rattle.ic_header.specs.declared.flags.Flags.{Flags}
use Rattle.ic_header.specs.declared.flags.Flags.TheVariants.{Rows, LastRows, Query, Ack, Stop, Nak, Disorder, Duplicate}
use Rattle.ic_header.specs.Spelling.{AllowsBody}
use Rattle.ic_expire.specs.declared.item.Item.{Item}
use Rattle.ic_expire.specs.Items.{is_upto}
use Rattle.ic_expire.specs.Queue.{Queue, without}
use Rattle.ic_expire.proofs.Holding.{rest_holds}
use Rattle.ic_law.specs.declared.history.HubAsk.{HubAsk}
use Rattle.ic_law.specs.declared.history.HubAsk.TheVariants.{Put, Finish, Arrive}
use Rattle.ic_law.specs.declared.history.HubReply.{HubReply}
use Rattle.ic_law.specs.declared.history.Entry.{Entry}
use Rattle.ic_header.specs.Packets.{Packet, packet_of, header_for, goes_forth, row_datagram, answer_datagram}
use Rattle.ic_law.specs.History.{datagrams_of, rows_in}
use Rattle.ic_law.specs.Putting.{chunk_put, finishes, is_finish, was_given}
use Rattle.ic_law.specs.Clock.{ticks_by}
use Rattle.ic_law.proofs.Making.{answer_reads}
use Rattle.ic_law.proofs.Lists.{Contains-none, Contains-head, Contains-map, map-Contains}
use Rattle.ic_sender.specs.declared.flight.Flight.{Flight}
use Rattle.ic_sender.specs.declared.send_no.SendNo.{SendNo}
use Rattle.ic_sender.specs.declared.send_no.SendNo.TheVariants as refused
use Rattle.ic_sender.specs.Sending.{Sending, Answer, fits_opened, sealing, adding, ending, emitting, rows_next, datagrams_next, flight_of, run_with, freeing, hearing, datagrams_again, halting}
use Rattle.ic_sender.specs.Calls.{Puts, NeedsPacket, Hears, IsStrayAck, IsStrayDuplicate, IsStrayDisorder, IsStrayNak, acknowledging, repeating, missing_of, unknown}
use Rattle.ic_sender.specs.Entries.{gave_of, came_of, IsPutting, IsFinishing, IsHearing}
use Rattle.ic_sender.specs.Standing.{StandsOn, Stands as StandsFor}
use Rattle.ic_sender.proofs.Carrying.{fits}
use Rattle.ic_sender.proofs.Lists.{in_filter, same_number}
use Rattle.ic_chunk.specs.Counts.{HasCounted}
use Rattle.ic_timed_sender.specs.Timed.{taken_of, HearsBy}
use Rattle.ic_timed_sender.specs.Emitted.{IsOutgoingOf, AreOutgoing}
use Rattle.ic_timed_sender.specs.Standing.{Stands, IsSound}
use Rattle.ic_timed_sender.proofs.Room.{flying}
use Rattle.ic_timed_sender.proofs.Formed.{flight_formed, copies_formed}
use Rattle.ic_timed_sender.proofs.Missing.{at_most, missing_within}
use Rattle.ic_timed_sender.proofs.Counting.{SendsRows, ends_none, sends_none, SameConn, puts_send, hears_send}
use Rattle.ic_timed_sender.proofs.Steps.{state, Leaves, leaves_same, leaves_emitting, sound_after, stands_by, or_none}

-- ---- no tick

gave_still : (result : Result (List Datagram) SendNo) → ticks_by (gave_of result) ≡ 0
gave_still (Ok ds) = refl
gave_still (Err refused.Full) = refl
gave_still (Err refused.Stopped) = refl
gave_still (Err (refused.TooLong key)) = refl
gave_still (Err (refused.Spent key seq tries)) = refl
gave_still (Err refused.Stray) = refl
gave_still (Err refused.Memory) = refl

came_still : (result : Result (List Datagram) SendNo) → ticks_by (came_of result) ≡ 0
came_still (Ok ds) = refl
came_still (Err refused.Full) = refl
came_still (Err refused.Stopped) = refl
came_still (Err (refused.TooLong key)) = refl
came_still (Err (refused.Spent key seq tries)) = refl
came_still (Err refused.Stray) = refl
came_still (Err refused.Memory) = refl

-- ---- what goes out for the first time

-- it is on its way afterwards
next_formed : (s m : Sending) (now rows : ℕ) (after : Sending) (left : Queue) → m.end ≡ s.end → m.settings ≡ s.settings → m.stopped ≡ false → after ≡ emitting now m → IsSound after left now rows → AreOutgoing s (datagrams_next m)
next_formed s m now rows after left end settings on is sound d at =
    let w = map-Contains (row_datagram m.end) (rows_next m) d at in
    let f = flight_of m.end now w.0 in
    let there : Contains (emitting now m).flights f = Contains-append_right m.flights (map (flight_of m.end now) (rows_next m)) f (Contains-map (flight_of m.end now) (rows_next m) w.0 w.1) in
    let sound_m : IsSound (emitting now m) left now rows = subst (λ (x : Sending). IsSound x left now rows) is sound in
    let formed : IsOutgoingOf m.end m.settings.packet (row_datagram m.end w.0) = flight_formed (emitting now m) left.held sound_m.history sound_m.stands.sends on f there in
    subst (λ (x : Datagram). IsOutgoingOf s.end s.settings.packet x) (sym w.2)
    (subst (λ (x : ConnEnd). IsOutgoingOf x s.settings.packet (row_datagram m.end w.0)) end
    (subst (λ x. IsOutgoingOf m.end x.packet (row_datagram m.end w.0)) settings formed))

if_ok : {A B : Type 0} (P : A → Type 0) (r s : Result A B) → r ≡ s → IfOk s P → IfOk r P
if_ok P r s e h = subst (λ x. IfOk x P) (sym e) h

-- ---- puts

adding_same : (s : Sending) (chunk : List ℕ) → SameConn s (adding chunk s) × ((adding chunk s).finished ≡ s.finished)
adding_same s chunk = by (fits_opened s chunk)
  where
    by : (b : Bool) → (let m : Sending = cond b (record s { opened = s.opened ++ chunk }) (record (sealing s.opened false s) { opened = chunk }) in SameConn s m × (m.finished ≡ s.finished))
    by true = (record { end = refl; conn = refl; settings = refl; stopped = refl; sent = refl; acked = refl; flights = refl; resent = refl }, refl)
    by false = (record { end = refl; conn = refl; settings = refl; stopped = refl; sent = refl; acked = refl; flights = refl; resent = refl }, refl)

ending_same : (s : Sending) → SameConn s (ending s)
ending_same s = record { end = refl; conn = refl; settings = refl; stopped = refl; sent = refl; acked = refl; flights = refl; resent = refl }

puts_leave : (s : Sending) (q : Queue) (now rows : ℕ) (needs : Type 0) (filled : Sending) (result : Result (List Datagram) SendNo) (after : Sending) (left : Queue) → IsSound s q now rows → SameConn s filled → Puts s q now needs filled result after left → Leaves s q after left
puts_leave s q now rows needs filled result after left sound same (Puts.Stopped off is one two) = leaves_same s q now rows after left sound one two
puts_leave s q now rows needs filled result after left sound same (Puts.Full on need le is one two) = leaves_same s q now rows after left sound one two
puts_leave s q now rows needs filled result after left sound same (Puts.TooLong on need lt le is one two) = leaves_same s q now rows after left sound one two
puts_leave s q now rows needs filled result after left sound same (Puts.NoMemory is one two) = leaves_same s q now rows after left sound one two
puts_leave s q now rows needs filled result after left sound same (Puts.Given on free is one two) =
    leaves_emitting s filled q q.held now after left same.end same.conn same.settings (same.stopped ∙ on) sound.own one two

pub puts_formed : (s : Sending) (q : Queue) (now rows : ℕ) (needs : Type 0) (filled : Sending) (result : Result (List Datagram) SendNo) (after : Sending) (left : Queue) → SameConn s filled → IsSound after left now rows → Puts s q now needs filled result after left
    → IfOk result (AreOutgoing s)
puts_formed s q now rows needs filled result after left same sound (Puts.Stopped off is one two) = if_ok (AreOutgoing s) result (Err refused.Stopped) is tt
puts_formed s q now rows needs filled result after left same sound (Puts.Full on need le is one two) = if_ok (AreOutgoing s) result (Err refused.Full) is tt
puts_formed s q now rows needs filled result after left same sound (Puts.TooLong on need lt le is one two) = if_ok (AreOutgoing s) result (Err (refused.TooLong s.end.key)) is tt
puts_formed s q now rows needs filled result after left same sound (Puts.NoMemory is one two) = if_ok (AreOutgoing s) result (Err refused.Memory) is tt
puts_formed s q now rows needs filled result after left same sound (Puts.Given on free is one two) =
    if_ok (AreOutgoing s) result (Ok (datagrams_next filled)) is (next_formed s filled now rows after left same.end same.settings (same.stopped ∙ on) one sound)

put_finishes : (s : Sending) (q : Queue) (now : ℕ) (chunk : List ℕ) (result : Result (List Datagram) SendNo) (after : Sending) (left : Queue) → Puts s q now (NeedsPacket s chunk) (adding chunk s) result after left → after.finished ≡ s.finished
put_finishes s q now chunk result after left (Puts.Stopped off is one two) = ap (λ (x : Sending). x.finished) one
put_finishes s q now chunk result after left (Puts.Full on need le is one two) = ap (λ (x : Sending). x.finished) one
put_finishes s q now chunk result after left (Puts.TooLong on need lt le is one two) = ap (λ (x : Sending). x.finished) one
put_finishes s q now chunk result after left (Puts.NoMemory is one two) = ap (λ (x : Sending). x.finished) one
put_finishes s q now chunk result after left (Puts.Given on free is one two) = ap (λ (x : Sending). x.finished) one ∙ (adding_same s chunk).1

-- what an entry of a put puts is the chunk, where it was taken
put_is : (c : ConnKey) (chunk : List ℕ) (result : Result (List Datagram) SendNo) → chunk_put c (Put c chunk) (gave_of result) ≡ taken_of chunk result
put_is c chunk result = by (key_eq c c) (key_eq-same c) result
  where
    by : (b : Bool) → b ≡ true → (r : Result (List Datagram) SendNo) → cond (b && was_given (gave_of r)) (chunk ∷ []) [] ≡ taken_of chunk r
    by false bad r = absurd (cc)
    by true same (Ok ds) = refl
    by true same (Err refused.Full) = refl
    by true same (Err refused.Stopped) = refl
    by true same (Err (refused.TooLong key)) = refl
    by true same (Err (refused.Spent key seq tries)) = refl
    by true same (Err refused.Stray) = refl
    by true same (Err refused.Memory) = refl

module _ (s : Sending) (q : Queue) (now rows more : ℕ) (chunk : List ℕ) (result : Result (List Datagram) SendNo) (after : Sending) (left : Queue) (sound : IsSound s q now rows) (puts : Puts s q now (NeedsPacket s chunk) (adding chunk s) result after left)
    (on : StandsOn now s q.held after left.held (IsPutting s.end.key chunk result)) (counts : (payloads : List (List ℕ)) → HasCounted payloads rows → HasCounted (payloads ++ taken_of chunk result) more) where
  pub put_stands : (h : List Entry) (e : Entry) → IsPutting s.end.key chunk result e → Stands (state s q.held now rows) h → Stands (state after left.held now more) (h ++ e ∷ [])
  put_stands h e is old =
      let leaves = puts_leave s q now rows (NeedsPacket s chunk) (adding chunk s) result after left sound (adding_same s chunk).0 puts in
      let none : finishes s.end.key e ≡ false = ap (λ (a : HubAsk). is_finish s.end.key a e.reply) is.ask in
      let sends = on h e old.clock is old.sends in
      let put : chunk_put s.end.key e.ask e.reply ≡ taken_of chunk result = ap (λ (a : HubAsk). chunk_put s.end.key a e.reply) is.ask ∙ ap (chunk_put s.end.key (Put s.end.key chunk)) is.reply ∙ put_is s.end.key chunk result in
      stands_by s after q.held left.held now rows more h e (ap ticks_by is.reply ∙ gave_still result) leaves.end (or_none s.finished (finishes s.end.key e) none ∙ sym (put_finishes s q now chunk result after left puts)) sends
      (λ payloads counted. subst (λ l. HasCounted (payloads ++ l) more) (sym put) (counts payloads counted))
      (puts_send s q now (NeedsPacket s chunk) (adding chunk s) result after left h (h ++ e ∷ []) e (adding_same s chunk).0 old.sends sends is.reply puts) old

  pub put_sound : IsSound after left now more
  put_sound =
      let e : Entry = record { ask = Put s.end.key chunk; reply = gave_of result } in
      let leaves = puts_leave s q now rows (NeedsPacket s chunk) (adding chunk s) result after left sound (adding_same s chunk).0 puts in
      sound_after s q now rows more after left (sound.history ++ e ∷ []) sound leaves (put_stands sound.history e (record { ask = refl; reply = refl }) sound.stands)

  pub put_formed : IfOk result (AreOutgoing s)
  put_formed = puts_formed s q now more (NeedsPacket s chunk) (adding chunk s) result after left (adding_same s chunk).0 put_sound puts

-- ---- the end of stream

and_none : (b : Bool) → (b && false) ≡ false
and_none true = refl
and_none false = refl

-- it is finished where the finish was given
finish_tells : (s : Sending) (q : Queue) (now : ℕ) (result : Result (List Datagram) SendNo) (after : Sending) (left : Queue) → s.finished ≡ false → Puts s q now (Unit {0}) (ending s) result after left → was_given (gave_of result) ≡ after.finished
finish_tells s q now result after left unfinished (Puts.Stopped off is one two) = ap (λ r. was_given (gave_of r)) is ∙ sym (ap (λ (x : Sending). x.finished) one ∙ unfinished)
finish_tells s q now result after left unfinished (Puts.Full on need le is one two) = ap (λ r. was_given (gave_of r)) is ∙ sym (ap (λ (x : Sending). x.finished) one ∙ unfinished)
finish_tells s q now result after left unfinished (Puts.TooLong on need lt le is one two) = ap (λ r. was_given (gave_of r)) is ∙ sym (ap (λ (x : Sending). x.finished) one ∙ unfinished)
finish_tells s q now result after left unfinished (Puts.NoMemory is one two) = ap (λ r. was_given (gave_of r)) is ∙ sym (ap (λ (x : Sending). x.finished) one ∙ unfinished)
finish_tells s q now result after left unfinished (Puts.Given on free is one two) = ap (λ r. was_given (gave_of r)) is ∙ sym (ap (λ (x : Sending). x.finished) one)

module _ (s : Sending) (q : Queue) (now rows : ℕ) (result : Result (List Datagram) SendNo) (after : Sending) (left : Queue) (sound : IsSound s q now rows) (unfinished : s.finished ≡ false) (puts : Puts s q now (Unit {0}) (ending s) result after left)
    (on : StandsOn now s q.held after left.held (IsFinishing s.end.key result)) where
  pub finish_stands : (h : List Entry) (e : Entry) → IsFinishing s.end.key result e → Stands (state s q.held now rows) h → Stands (state after left.held now rows) (h ++ e ∷ [])
  finish_stands h e is old =
      let c = s.end.key in
      let leaves = puts_leave s q now rows (Unit {0}) (ending s) result after left sound (ending_same s) puts in
      let ends : finishes c e ≡ after.finished =
      ap (λ (a : HubAsk). is_finish c a e.reply) is.ask ∙ ap (λ (r : HubReply). key_eq c c && was_given r) is.reply ∙ ap (λ b. b && was_given (gave_of result)) (key_eq-same c)
      ∙ finish_tells s q now result after left unfinished puts in
      let sends = on h e old.clock is old.sends in
      stands_by s after q.held left.held now rows rows h e (ap ticks_by is.reply ∙ gave_still result) leaves.end (ap (λ b. b || finishes c e) unfinished ∙ ends) sends
      (ends_none c rows e (ap (λ (a : HubAsk). chunk_put c a e.reply) is.ask))
      (puts_send s q now (Unit {0}) (ending s) result after left h (h ++ e ∷ []) e (ending_same s) old.sends sends is.reply puts) old

  pub finish_sound : IsSound after left now rows
  finish_sound =
      let e : Entry = record { ask = Finish s.end.key; reply = gave_of result } in
      let leaves = puts_leave s q now rows (Unit {0}) (ending s) result after left sound (ending_same s) puts in
      sound_after s q now rows rows after left (sound.history ++ e ∷ []) sound leaves (finish_stands sound.history e (record { ask = refl; reply = refl }) sound.stands)

  pub finish_formed : IfOk result (AreOutgoing s)
  finish_formed = puts_formed s q now rows (Unit {0}) (ending s) result after left (ending_same s) finish_sound puts

-- ---- answers

hears_leave : (s : Sending) (q : Queue) (now rows : ℕ) (stray : Type 0) (a : Answer) (result : Result (List Datagram) SendNo) (after : Sending) (left : Queue) → IsSound s q now rows → Hears s q now stray a result after left → Leaves s q after left × (after.finished ≡ s.finished)
hears_leave s q now rows stray a result after left sound (Hears.Unheard off is one two) = (leaves_same s q now rows after left sound one two, ap (λ (x : Sending). x.finished) one)
hears_leave s q now rows stray a result after left sound (Hears.Strayed on is_stray is one two) = (leaves_same s q now rows after left sound one two, ap (λ (x : Sending). x.finished) one)
hears_leave s q now rows stray a result after left sound (Hears.HeardWithout is one two) = (leaves_same s q now rows after left sound one two, ap (λ (x : Sending). x.finished) one)
hears_leave s q now rows stray a result after left sound (Hears.Heard on fine is one two) = (
  leaves_emitting s (hearing now a s) q (without (is_upto s.conn (run_with a s)) q.held) now after left refl refl refl on
      (λ y at. sound.own y ((rest_holds q.held (is_upto s.conn (run_with a s)) y).0 at).0) one two,
  ap (λ (x : Sending). x.finished) one,
)

hears_formed : (s : Sending) (q : Queue) (now rows : ℕ) (stray : Type 0) (a : Answer) (result : Result (List Datagram) SendNo) (after : Sending) (left : Queue) → IsSound s q now rows → IsSound after left now rows → Hears s q now stray a result after left → IfOk result (AreOutgoing s)
hears_formed s q now rows stray a result after left sound sound_left (Hears.Unheard off is one two) = if_ok (AreOutgoing s) result (Ok []) is (λ d at. absurd (Contains-none d at))
hears_formed s q now rows stray a result after left sound sound_left (Hears.Strayed on is_stray is one two) = if_ok (AreOutgoing s) result (Err refused.Stray) is tt
hears_formed s q now rows stray a result after left sound sound_left (Hears.HeardWithout is one two) = if_ok (AreOutgoing s) result (Err refused.Memory) is tt
hears_formed s q now rows stray a result after left sound sound_left (Hears.Heard on fine is one two) =
    let m = hearing now a s in
    if_ok (AreOutgoing s) result (Ok (datagrams_again now a s ++ datagrams_next m)) is (λ d at. elim (Contains-append_cases (datagrams_again now a s) (datagrams_next m) d at) [
      | inl again ↦
          copies_formed s q.held sound.history (freeing now a s).flights a.lists sound.stands.sends on (λ f there. (in_filter (λ (g : Flight). nat_lt (run_with a s) g.seq) s.flights f there).0) d again
      | inr next ↦ next_formed s m now rows after left refl refl on one sound_left d next
    ])

-- once all that waits is cut nothing waits
cut_all : (conn upto : ℕ) (held : List Item) → ((y : Item) → Contains held y → (y.conn ≡ conn) × (y.seq ≤ upto)) → without (is_upto conn upto) held ≡ []
cut_all conn upto held all = by (without (is_upto conn upto) held) (λ y at. (rest_holds held (is_upto conn upto) y).0 at)
  where
    by : (left : List Item) → ((y : Item) → Contains left y → Contains held y × (is_upto conn upto y ≡ false)) → left ≡ []
    by [] from = refl
    by (x ∷ left) from =
        let there = from x (Contains-head x left) in
        let w = all x there.0 in
        let cut : is_upto conn upto x ≡ true = ap (λ n. (n == conn) && nat_le x.seq upto) w.0 ∙ ap (λ b. b && nat_le x.seq upto) (same_number conn) ∙ le-leb x.seq upto w.1 in
        absurd (let bad : true ≡ false = sym cut ∙ there.1 in cc)

stop_leaves : (s : Sending) (q : Queue) (now rows : ℕ) (after : Sending) (left : Queue) → IsSound s q now rows → after ≡ halting s → left ≡ record q { held = without (is_upto s.conn s.sent) q.held } → Leaves s q after left
stop_leaves s q now rows after left sound one two =
    subst (λ (x : Sending). Leaves s q x left) (sym one)
    (subst (λ (x : Queue). Leaves s q (halting s) x) (sym two) (record {
      end = refl;
      conn = refl;
      settings = refl;
      asked = refl;
      room = refl;
      own = λ y at. sound.own y ((rest_holds q.held (is_upto s.conn s.sent) y).0 at).0;
      still = λ off. elim (cases_Bool s.stopped) [
        | inl was ↦ ap (without (is_upto s.conn s.sent)) (sound.still was)
        | inr on ↦ cut_all s.conn s.sent q.held (λ y at. (sound.own y at, (flying s q now rows sound on y at).upto))
      ];
    }))

heard_leaves : (flags : Flags) (seq extra : ℕ) (body : List ℕ) (s : Sending) (q : Queue) (now rows : ℕ) (result : Result (List Datagram) SendNo) (after : Sending) (left : Queue) → goes_forth flags ≡ false → IsSound s q now rows
    → HearsBy flags seq extra body s q now result after left → Leaves s q after left × (after.finished ≡ s.finished)
heard_leaves Rows seq extra body s q now rows result after left back sound h = absurd (let bad : true ≡ false = back in cc)
heard_leaves LastRows seq extra body s q now rows result after left back sound h = absurd (let bad : true ≡ false = back in cc)
heard_leaves Query seq extra body s q now rows result after left back sound h = absurd (let bad : true ≡ false = back in cc)
heard_leaves Ack seq extra body s q now rows result after left back sound h = hears_leave s q now rows (IsStrayAck s seq extra) (acknowledging seq extra) result after left sound h
heard_leaves Stop seq extra body s q now rows result after left back sound h = (stop_leaves s q now rows after left sound h.1 h.2, ap (λ (x : Sending). x.finished) h.1)
heard_leaves Nak seq extra body s q now rows result after left back sound h = hears_leave s q now rows (IsStrayNak s seq) (unknown seq) result after left sound h
heard_leaves Disorder seq extra body s q now rows result after left back sound h = hears_leave s q now rows (IsStrayDisorder s seq extra body) (missing_of seq body) result after left sound h
heard_leaves Duplicate seq extra body s q now rows result after left back sound h = hears_leave s q now rows (IsStrayDuplicate s seq extra) (repeating seq extra) result after left sound h

heard_formed : (flags : Flags) (seq extra : ℕ) (body : List ℕ) (s : Sending) (q : Queue) (now rows : ℕ) (result : Result (List Datagram) SendNo) (after : Sending) (left : Queue) → goes_forth flags ≡ false → IsSound s q now rows
    → IsSound after left now rows → HearsBy flags seq extra body s q now result after left → IfOk result (AreOutgoing s)
heard_formed Rows seq extra body s q now rows result after left back sound sound_left h = absurd (let bad : true ≡ false = back in cc)
heard_formed LastRows seq extra body s q now rows result after left back sound sound_left h = absurd (let bad : true ≡ false = back in cc)
heard_formed Query seq extra body s q now rows result after left back sound sound_left h = absurd (let bad : true ≡ false = back in cc)
heard_formed Ack seq extra body s q now rows result after left back sound sound_left h = hears_formed s q now rows (IsStrayAck s seq extra) (acknowledging seq extra) result after left sound sound_left h
heard_formed Stop seq extra body s q now rows result after left back sound sound_left h = if_ok (AreOutgoing s) result (Ok []) h.0 (λ d at. absurd (Contains-none d at))
heard_formed Nak seq extra body s q now rows result after left back sound sound_left h = hears_formed s q now rows (IsStrayNak s seq) (unknown seq) result after left sound sound_left h
heard_formed Disorder seq extra body s q now rows result after left back sound sound_left h = hears_formed s q now rows (IsStrayDisorder s seq extra body) (missing_of seq body) result after left sound sound_left h
heard_formed Duplicate seq extra body s q now rows result after left back sound sound_left h = hears_formed s q now rows (IsStrayDuplicate s seq extra) (repeating seq extra) result after left sound sound_left h

-- ---- what an answer frees was emitted

heard_sends : (flags : Flags) (seq extra : ℕ) (body : List ℕ) (s : Sending) (q : Queue) (now : ℕ) (result : Result (List Datagram) SendNo) (after : Sending) (left : Queue) (old new : List Entry) (e : Entry) → goes_forth flags ≡ false
    → AllowsBody flags (length body) → StandsFor s q.held old → StandsFor after left.held new → e.reply ≡ came_of result → HearsBy flags seq extra body s q now result after left → SendsRows s after e
heard_sends Rows seq extra body s q now result after left old new e back allowed stands sends reply h = absurd (let bad : true ≡ false = back in cc)
heard_sends LastRows seq extra body s q now result after left old new e back allowed stands sends reply h = absurd (let bad : true ≡ false = back in cc)
heard_sends Query seq extra body s q now result after left old new e back allowed stands sends reply h = absurd (let bad : true ≡ false = back in cc)
heard_sends Ack seq extra body s q now result after left old new e back allowed stands sends reply h =
    hears_send s q now (IsStrayAck s seq extra) (acknowledging seq extra) result after left old new e (λ fine. at_most seq s.sent (λ lt. fine (inl lt))) stands sends reply h
heard_sends Stop seq extra body s q now result after left old new e back allowed stands sends reply h =
    sends_none s after e (ap (λ (x : Sending). x.sent) h.1) (ap (λ (x : Sending). x.resent) h.1) (ap (λ (r : HubReply). flat_map (rows_in s.end.key) (datagrams_of r)) reply ∙ ap (λ r. flat_map (rows_in s.end.key) (datagrams_of (came_of r))) h.0)
heard_sends Nak seq extra body s q now result after left old new e back allowed stands sends reply h =
    hears_send s q now (IsStrayNak s seq) (unknown seq) result after left old new e (λ fine. omega arith) stands sends reply h
heard_sends Disorder seq extra body s q now result after left old new e back allowed stands sends reply h =
    hears_send s q now (IsStrayDisorder s seq extra body) (missing_of seq body) result after left old new e (missing_within s seq extra body allowed.0 allowed.1) stands sends reply h
heard_sends Duplicate seq extra body s q now result after left old new e back allowed stands sends reply h =
    hears_send s q now (IsStrayDuplicate s seq extra) (repeating seq extra) result after left old new e (λ fine. at_most extra s.sent (λ lt. fine (inr lt))) stands sends reply h

-- ---- it stands for an answer

module _ (flags : Flags) (seq extra : ℕ) (body : List ℕ) (s : Sending) (q : Queue) (now rows : ℕ) (result : Result (List Datagram) SendNo) (after : Sending) (left : Queue) (back : goes_forth flags ≡ false) (allowed : AllowsBody flags (length body)) (sound : IsSound s q now rows)
    (hears : HearsBy flags seq extra body s q now result after left) (on : StandsOn now s q.held after left.held (IsHearing s.end.key flags seq extra body result)) where
  pub hear_stands : (h : List Entry) (e : Entry) → IsHearing s.end.key flags seq extra body result e → Stands (state s q.held now rows) h → Stands (state after left.held now rows) (h ++ e ∷ [])
  hear_stands h e is old =
      let w = heard_leaves flags seq extra body s q now rows result after left back sound hears in
      let none : finishes s.end.key e ≡ false = ap (λ (a : HubAsk). is_finish s.end.key a e.reply) is.ask in
      let sends = on h e old.clock is old.sends in
      stands_by s after q.held left.held now rows rows h e (ap ticks_by is.reply ∙ came_still result) w.0.end (or_none s.finished (finishes s.end.key e) none ∙ sym w.1) sends
      (ends_none s.end.key rows e (ap (λ (a : HubAsk). chunk_put s.end.key a e.reply) is.ask))
      (heard_sends flags seq extra body s q now result after left h (h ++ e ∷ []) e back allowed old.sends sends is.reply hears) old

  -- an answer with these numbers and this body may have come
  pub hear_sound : 64 + length body < 2 ^ 32 → seq < 2 ^ 32 → extra < 2 ^ 32 → IsSound after left now rows
  hear_sound small number other =
      let d : Datagram = answer_datagram s.end flags seq extra body in
      let p : Packet = record { head = header_for s.end flags (length body) seq extra; body = body } in
      let e : Entry = record { ask = Arrive d; reply = came_of result } in
      let reads : packet_of d ≡ Some p = answer_reads s.end flags seq extra body (fits s.end sound.stands.sends.reflects.names) allowed small number other in
      let is : IsHearing s.end.key flags seq extra body result e =
      record { datagram = d; packet = p; ask = refl; directed = (refl, refl); reads = reads; key = refl; flags_are = refl; seq_is = refl; extra_is = refl; lists = λ lists. refl; reply = refl } in
      let leaves = (heard_leaves flags seq extra body s q now rows result after left back sound hears).0 in
      sound_after s q now rows rows after left (sound.history ++ e ∷ []) sound leaves (hear_stands sound.history e is sound.stands)

  pub hear_formed : IsSound after left now rows → IfOk result (AreOutgoing s)
  hear_formed sound_left = heard_formed flags seq extra body s q now rows result after left back sound sound_left hears

-- an answer by its kind
pub as_kind : (c : ConnKey) (flags kind : Flags) (seq extra : ℕ) (body other : List ℕ) (result : Result (List Datagram) SendNo) (e : Entry) → flags ≡ kind → (kind ≡ Disorder → body ≡ other) → IsHearing c flags seq extra body result e
    → IsHearing c kind seq extra other result e
as_kind c flags kind seq extra body other result e same lists is = record {
  datagram = is.datagram;
  packet = is.packet;
  ask = is.ask;
  directed = is.directed;
  reads = is.reads;
  key = is.key;
  flags_are = is.flags_are ∙ same;
  seq_is = is.seq_is;
  extra_is = is.extra_is;
  lists = λ kind_is. is.lists (same ∙ kind_is) ∙ lists kind_is;
  reply = is.reply;
}
