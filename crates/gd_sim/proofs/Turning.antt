-- What a turn makes of a station.
use Rattle.std.proofs.Common.{◌≡◌, ℕ, ◌+◌, ◌<◌, ℤ, pos, negsuc, List, [], ◌∷◌, ◌++◌, Bool, true, false, ◌||◌, ◌==◌, cond, Result, Ok, Err, IfOk, refl, ap, sym, ◌∙◌, subst, append-nil, arith, inl, inr}
use Rattle.std.specs.List.{Any, AllByRecursion, Contains, list_any, range_with_len, slice_index_or}
use Rattle.std.proofs.lemmas.Bool.{lt-ltb}
use Rattle.std.proofs.lemmas.List.{append_cancel_left}
use Rattle.std.proofs.lemmas.List.FromFn.{length-range_with_len, get_or-range_with_len}
use Rattle.ic_base.specs.declared.keys.ConnKey.{ConnKey}
use Rattle.ic_base.specs.declared.keys.ConnEnd.{ConnEnd}
use Rattle.ic_base.specs.declared.datagram.Parcel.{Parcel}
use Rattle.ic_base.specs.declared.port.PortNo.{PortNo}
use Rattle.ic_base.specs.declared.port.PortNo.TheVariants as port
use Rattle.ic_base.specs.declared.port.PortAsk.{PortAsk}
use Rattle.ic_base.specs.declared.port.PortAsk.TheVariants as ask
use Rattle.ic_base.specs.declared.port.PortEntry.{PortEntry}
use Rattle.ic_base.specs.Ports.{did, gave, added, logged, SendsTo, HearsFrom}
use Rattle.ic_base.specs.Ports.{Hears as HearsSome}
use Rattle.ic_row.specs.declared.value.Value.{Value}
use Rattle.ic_chunk.specs.Joining.{Held}
use Rattle.ic_law.specs.declared.history.HubReply.{HubReply}
use Rattle.ic_law.specs.declared.history.HubReply.TheVariants.{Took, Memory}
use Rattle.ic_law.specs.declared.history.HubNo.TheVariants as hub
use Rattle.ic_law.specs.declared.history.Entry.{Entry}
use Rattle.ic_law.specs.Taking.{IsWhole, IsHalted, IsHaltAsked, halts}
use Rattle.ic_law.specs.Points.{IsEnded, IsLive}
use Rattle.ic_law.specs.Arriving.{IsOfMotion, AnswersTakeAny, AllOver, NoneReady, Serves}
use Rattle.ic_law.proofs.Lists.{flat_map-append, list_any-append, Contains-none, Contains-head, Contains-map, map-Contains}
use Rattle.gd_net.proofs.Order.{all-append}
use Rattle.gd_work.specs.declared.course.Course.TheVariants.{Going, Done, Refused}
use Rattle.gd_work.specs.declared.course.Turned.{Turned}
use Rattle.gd_work.specs.declared.course.Turned.TheVariants as turned
use Rattle.gd_work.specs.declared.course.WorkNo.{WorkNo}
use Rattle.gd_work.specs.declared.course.WorkNo.TheVariants as work
use Rattle.gd_work.specs.Turns.{course_behind, StepsOnce}
use Rattle.gd_work.specs.Sending as sending
use Rattle.gd_work.specs.Taking as taking
use Rattle.ic_law.specs.Logs.{log_of}
use Rattle.ic_law.proofs.LogLemmas.{log_grows}
use Rattle.gd_law.specs.Answers.{gather_key, gather_end}
use Rattle.gd_law.specs.Playing.{IsFromOne}
use Rattle.ic_port.specs.Noding.{Noding, IsLawful}
use Rattle.ic_port.specs.Calls.{Works}
use Rattle.gd_sim.specs.declared.station.Worker.TheVariants.{Sends, Takes}
use Rattle.gd_sim.specs.Playing.{Gather, senders, ends_at, SendsPart, WorkStands}
use Rattle.gd_sim.specs.Stations.{EndsSo, EndsUsedUp, AreRowsAt, TurnKeeps, SendsOn, TakesOn, work_fault}
use Rattle.gd_sim.proofs.Keeping.{halts_before, whole_on, station, plays_on}
use Rattle.gd_sim.proofs.Logged.{one_of, too_long, was_too_long, ended, was_ended, AllTake, none_halts}

-- ---- a worker's call

pub works_none : (a : Noding) → Works a a
works_none a = record {
  place = record { session = refl; at = refl; settings = refl };
  query = refl;
  ends = refl;
  more = [];
  grown = sym (append-nil a.entries);
  few = omega arith;
  are_of = tt;
  none_came = refl;
  none_left = refl;
  none_begun = refl;
}

pub works_once : (a b : Noding) → StepsOnce Works a b → Works a b
works_once a b (inl same) = subst (λ n. Works a n) (sym same) (works_none a)
works_once a b (inr works) = works

-- what the log gained is the log of the entries that were added
pub more_log : (a b : Noding) (w : Works a b) (query : ℕ) (l : List PortEntry) → a.query ≡ query → log_of b.query b.entries ≡ log_of a.query a.entries ++ l → log_of query w.more ≡ l
more_log a b w query l of is =
    ap (λ q. log_of q w.more) (sym of)
    ∙ append_cancel_left (log_of a.query a.entries) (log_of a.query w.more) l
    (sym (log_grows a.query a.entries w.more) ∙ sym (ap (log_of a.query) w.grown) ∙ ap (λ q. log_of q b.entries) (sym w.query) ∙ is)

-- ---- a refused put

used_up : (a b : Noding) (w : Works a b) (was : PortAsk) (key : ConnKey) → log_of b.query b.entries ≡ log_of a.query a.entries ++ too_long was key ∷ [] → EndsUsedUp b.entries key
used_up a b w was key is =
    let found = one_of a.query w.more (too_long was key) w.few (more_log a b w a.query (too_long was key ∷ []) refl is) in
    let e = found.0 in
    let tells = was_too_long a.query e.ask e.reply was key found.2 in
    record { entry = e; last = (a.entries, w.grown ∙ ap (λ m. a.entries ++ m) found.1); ask = tells.0; which = tells.1; reply = tells.2 }

sent_by : (a b : Noding) (w : Works a b) (was : PortAsk) (key : ConnKey) (before : List (List ℕ)) (answer : Result (Unit {0}) PortNo)
    → log_of b.query b.entries ≡ logged was (did answer) (log_of a.query a.entries) → Err (work.TooLong key) ≡ sending.told before answer → EndsUsedUp b.entries key
sent_by a b w was key before (Ok u) is tells = let bad : Err (work.TooLong key) ≡ Ok (sending.moved before) = tells in cc
sent_by a b w was key before (Err port.Full) is tells = let bad : Err (work.TooLong key) ≡ Ok (turned.Waiting port.Full) = tells in cc
sent_by a b w was key before (Err port.Busy) is tells = let bad : Err (work.TooLong key) ≡ Ok (turned.Waiting port.Busy) = tells in cc
sent_by a b w was key before (Err port.Stopped) is tells = let bad : Err (work.TooLong key) ≡ Ok turned.Done = tells in cc
sent_by a b w was key before (Err (port.TooLong k)) is tells =
    let both : Err (work.TooLong key) ≡ Err (work.TooLong k) = tells in
    let whys : work.TooLong key ≡ work.TooLong k = cc in
    let same : key ≡ k = cc in
    used_up a b w was key (subst (λ x. log_of b.query b.entries ≡ log_of a.query a.entries ++ too_long was x ∷ []) (sym same) is)
sent_by a b w was key before (Err port.Memory) is tells = let bad : Err (work.TooLong key) ≡ Err work.Memory = tells in let worse : work.TooLong key ≡ work.Memory = cc in cc
sent_by a b w was key before (Err port.Empty) is tells = let bad : Err (work.TooLong key) ≡ Err work.Memory = tells in let worse : work.TooLong key ≡ work.Memory = cc in cc
sent_by a b w was key before (Err port.Ended) is tells = let bad : Err (work.TooLong key) ≡ Err work.Memory = tells in let worse : work.TooLong key ≡ work.Memory = cc in cc

pub sent_cause : (a b : Noding) (keys : List ConnEnd) (motion : ℕ) (to : ℤ) (before after : List (List ℕ)) (result : Result Turned WorkNo) (refusal : WorkNo) → Works a b
    → sending.Puts keys motion to before after (log_of a.query a.entries) (log_of b.query b.entries) result → result ≡ Err refusal → EndsSo b.entries (work_fault refusal)
sent_cause a b keys motion to before after result (work.TooLong key) w puts is =
    sent_by a b w (sending.next_ask motion to before) key before puts.answer puts.entry (sym is ∙ puts.tells)
sent_cause a b keys motion to before after result (work.Malformed sender) w puts is = tt
sent_cause a b keys motion to before after result work.Memory w puts is = tt

-- ---- the ends of a gather

any_at : {X : Type 0} (P : X → Type 0) (xs : List X) → Any P xs → (x : X) × Contains xs x × P x
any_at P xs (k, x, lt, is, p) = (x, (k, lt, is), p)

at_any : {X : Type 0} (P : X → Type 0) (xs : List X) (x : X) → Contains xs x → P x → Any P xs
at_any P xs x (k, lt, is) p = (k, x, lt, is, p)

none_more : (k : ℕ) → 0 + k ≡ k
none_more k = omega arith

in_range : (n k : ℕ) → k < n → Contains (range_with_len 0 n) k
in_range n k lt = (k, subst (λ l. k < l) (sym (length-range_with_len 0 n)) lt, get_or-range_with_len 0 n k k lt ∙ none_more k)

range_in : (n k : ℕ) → Contains (range_with_len 0 n) k → k < n
range_in n k (i, lt, is) =
    let below : i < n = subst (λ l. i < l) (length-range_with_len 0 n) lt in
    let same : i ≡ k = sym (none_more i) ∙ sym (get_or-range_with_len 0 n i k below) ∙ is in
    omega (arith, below, same)

end_here : (g : Gather) (segment : ℕ) → segment < senders g → Contains (ends_at g (negsuc 0)) (gather_end g.session g.query false segment)
end_here g segment less = Contains-map (gather_end g.session g.query false) (range_with_len 0 (senders g)) segment (in_range (senders g) segment less)

pub hears_some : (g : Gather) (ends : List ConnEnd) (n motion : ℕ) → ends ≡ ends_at g (negsuc n) → 0 < senders g → motion ≡ 1 → HearsSome ends motion
hears_some g ends n motion are less is =
    at_any (λ (end : ConnEnd). (end.sending ≡ false) × (end.key.motion ≡ motion)) ends (gather_end g.session g.query false 0)
    (subst (λ l. Contains l (gather_end g.session g.query false 0)) (sym are) (end_here g 0 less)) (refl, sym is)

from_one : (g : Gather) (ends : List ConnEnd) (motion : ℕ) (from : ℤ) → ends ≡ ends_at g (negsuc 0) → HearsFrom ends motion from → (segment : ℕ) × (segment < senders g) × (from ≡ pos segment)
from_one g ends motion from are hears =
    let w = any_at (λ (end : ConnEnd). (end.sending ≡ false) × (end.key.motion ≡ motion) × (end.key.from ≡ from)) ends hears in
    let here = map-Contains (gather_end g.session g.query false) (range_with_len 0 (senders g)) w.0 (subst (λ l. Contains l w.0) are w.1) in
    (here.0, range_in (senders g) here.0 here.1, sym w.2.2 ∙ ap (λ (end : ConnEnd). end.key.from) here.2)

-- ---- what a take adds

added_from : (g : Gather) (ends : List ConnEnd) (motion : ℕ) (answer : Result Parcel PortNo) → ends ≡ ends_at g (negsuc 0) → IfOk answer (λ p. HearsFrom ends motion p.from)
    → AllByRecursion (IsFromOne (senders g)) (taking.parcels_of 1 (added (ask.Take motion) (gave answer)))
added_from g ends motion (Ok p) are from = by (motion == 1)
  where
    by : (b : Bool) → AllByRecursion (IsFromOne (senders g)) (cond b (p ∷ []) [] ++ [])
    by true = (from_one g ends motion p.from are from, tt)
    by false = tt
added_from g ends motion (Err port.Full) are from = tt
added_from g ends motion (Err port.Empty) are from = tt
added_from g ends motion (Err port.Stopped) are from = tt
added_from g ends motion (Err port.Ended) are from = tt
added_from g ends motion (Err (port.TooLong k)) are from = tt
added_from g ends motion (Err port.Busy) are from = tt
added_from g ends motion (Err port.Memory) are from = tt

added_take : (motion : ℕ) (answer : Result Parcel PortNo) → AllTake motion (added (ask.Take motion) (gave answer))
added_take motion (Ok p) = (refl, tt)
added_take motion (Err port.Full) = (refl, tt)
added_take motion (Err port.Empty) = (refl, tt)
added_take motion (Err port.Stopped) = (refl, tt)
added_take motion (Err port.Ended) = (refl, tt)
added_take motion (Err (port.TooLong k)) = (refl, tt)
added_take motion (Err port.Busy) = tt
added_take motion (Err port.Memory) = tt

-- ---- the end

done_is : (result : Result Turned WorkNo) → course_behind result ≡ Done → result ≡ Ok turned.Done
done_is (Ok turned.Moved) is = let bad : Going ≡ Done = is in cc
done_is (Ok (turned.Waiting why)) is = let bad : Going ≡ Done = is in cc
done_is (Ok turned.Done) is = refl
done_is (Err refusal) is = let bad : Refused refusal ≡ Done = is in cc

ended_is : (old new : List Held) (rows more : List (List Value)) (answer : Result Parcel PortNo) → taking.TakesBy old new rows more (Ok turned.Done) answer → answer ≡ Err port.Ended
ended_is old new rows more (Ok parcel) makes = absurd makes
ended_is old new rows more (Err port.Full) makes = let bad : Ok turned.Done ≡ Err work.Memory = makes.0 in cc
ended_is old new rows more (Err port.Busy) makes = let bad : Ok turned.Done ≡ Ok (turned.Waiting port.Busy) = makes.0 in let worse : turned.Done ≡ turned.Waiting port.Busy = cc in cc
ended_is old new rows more (Err port.Stopped) makes = let bad : Ok turned.Done ≡ Err work.Memory = makes.0 in cc
ended_is old new rows more (Err (port.TooLong k)) makes = let bad : Ok turned.Done ≡ Err work.Memory = makes.0 in cc
ended_is old new rows more (Err port.Memory) makes = let bad : Ok turned.Done ≡ Err work.Memory = makes.0 in cc
ended_is old new rows more (Err port.Empty) makes = let bad : Ok turned.Done ≡ Ok (turned.Waiting port.Empty) = makes.0 in let worse : turned.Done ≡ turned.Waiting port.Empty = cc in cc
ended_is old new rows more (Err port.Ended) makes = refl

all_over : (query motion : ℕ) (h : List Entry) (reply : HubReply) → AnswersTakeAny query motion h reply → reply ≡ Took (Err hub.Ended) → (end : ConnEnd) → IsOfMotion query motion end h → IsEnded end.key h
all_over query motion h reply (AllOver all is) tells end of = all end of
all_over query motion h reply (NoneReady open_end of_open goes none is) tells end of =
    let bad : Took (Err hub.Empty) ≡ Took (Err hub.Ended) = sym is ∙ tells in cc
all_over query motion h reply (Serves served ready last was first parcel ds taken is) tells end of =
    let bad : Took (Ok (parcel, ds)) ≡ Took (Err hub.Ended) = sym is ∙ tells in cc

halt_asked : (c : ConnKey) (h : List Entry) → IsHalted c h → IsHaltAsked c h
halt_asked c h is =
    ap (list_any (halts c)) is.all ∙ list_any-append (halts c) is.before (is.entry ∷ is.after) ∙ by (list_any (halts c) is.before) (halts c is.entry) is.asked
  where
    by : (b x : Bool) → x ≡ true → (b || (x || list_any (halts c) is.after)) ≡ true
    by true x asked = refl
    by false x asked = ap (λ y. y || list_any (halts c) is.after) asked

whole_of_ended : (c : ConnKey) (h : List Entry) → IsEnded c h → (IsHaltAsked c h → ⊥) → IsWhole c h
whole_of_ended c h (inl whole) none = whole
whole_of_ended c h (inr halted) none = absurd (none (halt_asked c h halted))

-- a take that was answered Ended tells that the end of each sender was taken
ended_whole : (g : Gather) (a b : Noding) (w : Works a b) → IsLawful a → IsLawful b → a.query ≡ g.query → a.ends ≡ ends_at g (negsuc 0)
    → ((c : ConnKey) → c.query ≡ g.query → IsHaltAsked c a.entries → ⊥) → log_of g.query w.more ≡ ended 1 ∷ [] → (segment : ℕ) → segment < senders g → IsWhole (gather_key g.session g.query segment) b.entries
ended_whole g a b w was is of are no_halt log segment less =
    let found = one_of g.query w.more (ended 1) w.few log in
    let e = found.0 in
    let tells = was_ended g.query 1 e.ask e.reply found.2 in
    let grown : b.entries ≡ a.entries ++ e ∷ [] = w.grown ∙ ap (λ m. a.entries ++ m) found.1 in
    let point = is.law a.entries e [] grown in
    let end = gather_end g.session g.query false segment in
    let here : Contains a.ends end = subst (λ l. Contains l end) (sym are) (end_here g segment less) in
    let live : IsLive g.query a.ends a.entries = subst (λ q. IsLive q a.ends a.entries) of (was.live (λ none. Contains-none end (subst (λ l. Contains l end) none here))) in
    let of_motion : IsOfMotion g.query 1 end a.entries = record { here = record { ends = a.ends; live = live; stands = here }; receiving = refl; query_is = refl; motion_is = refl } in
    let answers = point.take g.query 1 tells.0 end of_motion (λ memory. let bad : Took (Err hub.Ended) ≡ Memory = sym tells.1 ∙ memory in cc) in
    let key = gather_key g.session g.query segment in
    subst (IsWhole key) (sym grown) (whole_on key a.entries (e ∷ []) (whole_of_ended key a.entries (all_over g.query 1 a.entries e.reply answers tells.1 end of_motion) (no_halt key refl)))

-- ---- a gatherer's turn

pub takes_more : (a b : Noding) (s t : taking.Gathering) (result : Result Turned WorkNo) (w : Works a b) → IsLawful a → IsLawful b → t.motion ≡ s.motion
    → taking.Takes a.ends s.motion (log_of a.query a.entries) (log_of b.query b.entries) s.streams t.streams s.rows t.rows result
    → t.course ≡ course_behind result → (taking.Gathers s (log_of a.query a.entries) → taking.Gathers t (log_of b.query b.entries)) → TakesOn s t a b
takes_more a b s t result w was is motion takes course gathers g of are all =
    let here : s.motion ≡ 1 = all.motion in
    let gained : log_of g.query w.more ≡ added (ask.Take s.motion) (gave takes.answer) = more_log a b w g.query _ of takes.entry in
    let old_log : log_of a.query a.entries ≡ log_of g.query a.entries = ap (λ q. log_of q a.entries) of in
    let new_log : log_of b.query b.entries ≡ log_of g.query b.entries = ap (λ q. log_of q b.entries) (w.query ∙ of) in
    let parcels : taking.parcels_of 1 (log_of g.query b.entries) ≡ taking.parcels_of 1 (log_of g.query a.entries) ++ taking.parcels_of 1 (added (ask.Take s.motion) (gave takes.answer)) =
    ap (taking.parcels_of 1) (sym new_log ∙ takes.entry ∙ ap (λ l. l ++ added (ask.Take s.motion) (gave takes.answer)) old_log)
    ∙ flat_map-append (taking.parcel_in 1) (log_of g.query a.entries) (added (ask.Take s.motion) (gave takes.answer)) in
    record {
      motion = motion ∙ here;
      gathers = subst (taking.Gathers t) new_log (gathers (subst (taking.Gathers s) (sym old_log) all.gathers));
      from = subst (λ l. AllByRecursion (IsFromOne (senders g)) l) (sym parcels)
          (all-append (IsFromOne (senders g)) (taking.parcels_of 1 (log_of g.query a.entries)) _ all.from (added_from g a.ends s.motion takes.answer are takes.from));
      no_halt = λ c of_query asked. all.no_halt c of_query (halts_before c a.entries w.more
          (none_halts g.query s.motion c w.more w.few of_query (subst (AllTake s.motion) (sym gained) (added_take s.motion takes.answer)))
          (subst (IsHaltAsked c) w.grown asked));
      whole = λ over segment less.
          let done = done_is result (sym course ∙ over) in
          let answer = ended_is s.streams t.streams s.rows t.rows takes.answer (subst (λ r. taking.TakesBy s.streams t.streams s.rows t.rows r takes.answer) done takes.makes) in
          ended_whole g a b w was is of are all.no_halt (gained ∙ ap (λ r. added (ask.Take s.motion) (gave r)) answer ∙ ap (λ m. ended m ∷ []) here) segment less;
    }

-- ---- a station's turn

pub sends_here : (g : Gather) (segment : ℤ) (s : sending.Scanning) (h : List Entry) (ends : List ConnEnd) → ends ≡ ends_at g segment → WorkStands g segment (Sends s) h → SendsTo ends s.motion s.to
sends_here g (negsuc n) s h ends are stands = absurd stands
sends_here g (pos n) s h ends are stands =
    let end = gather_end g.session g.query true n in
    let one_end : ends ≡ end ∷ [] = are ∙ ap (λ b. cond b (end ∷ []) []) (lt-ltb n (senders g) stands.0) in
    at_any (λ (x : ConnEnd). (x.sending ≡ true) × (x.key.motion ≡ s.motion) × (x.key.to ≡ s.to)) ends end
    (subst (λ l. Contains l end) (sym one_end) (Contains-head end [])) (refl, sym stands.1.motion, sym stands.1.to)

pub hears_here : (g : Gather) (segment : ℤ) (t : taking.Gathering) (h : List Entry) (ends : List ConnEnd) → ends ≡ ends_at g segment → 0 < senders g → WorkStands g segment (Takes t) h → HearsSome ends t.motion
hears_here g (negsuc n) t h ends are less stands = hears_some g ends n t.motion are less stands.motion
hears_here g (pos n) t h ends are less stands = absurd stands

sent_work : (rows : List (List Value)) (a b : Noding) (s t : sending.Scanning) → SendsOn rows s t a b → (g : Gather) (segment : ℤ) → a.query ≡ g.query → AreRowsAt g segment rows
    → WorkStands g segment (Sends s) a.entries → WorkStands g segment (Sends t) b.entries
sent_work rows a b s t sends g (negsuc n) of rows_are stands = absurd stands
sent_work rows a b s t sends g (pos n) of rows_are stands =
    let part : slice_index_or g.parts n [] ≡ rows = (rows_are stands.0).0 in
    (stands.0, subst (λ p. SendsPart g p t b.entries) (sym part) (sends g of (subst (λ p. SendsPart g p s a.entries) part stands.1)))

taken_work : (a b : Noding) (s t : taking.Gathering) → TakesOn s t a b → (g : Gather) (segment : ℤ) → a.query ≡ g.query → a.ends ≡ ends_at g segment
    → WorkStands g segment (Takes s) a.entries → WorkStands g segment (Takes t) b.entries
taken_work a b s t takes g (negsuc n) of are stands = takes g of are stands
taken_work a b s t takes g (pos n) of are stands = absurd stands

still_here : (left : Bool) (P : Type 0) → left ≡ false → left ≡ true → P
still_here left P stays gone = let bad : false ≡ true = sym stays ∙ gone in cc

pub sent_keeps : (rows : List (List Value)) (a b : Noding) (s t : sending.Scanning) (quiet left : Bool) → left ≡ false → Works a b → SendsOn rows s t a b
    → TurnKeeps rows (station a (Sends s) quiet left) (station b (Sends t) quiet left)
sent_keeps rows a b s t quiet left stays w sends g segment plays rows_are =
    plays_on g segment a b (Sends s) (Sends t) quiet left w.more w.place w.query w.ends w.grown w.none_left w.none_begun (λ gone. still_here left _ stays gone)
    (sent_work rows a b s t sends g segment plays.query rows_are plays.work) plays

pub taken_keeps : (rows : List (List Value)) (a b : Noding) (s t : taking.Gathering) (quiet left : Bool) → left ≡ false → Works a b → TakesOn s t a b
    → TurnKeeps rows (station a (Takes s) quiet left) (station b (Takes t) quiet left)
taken_keeps rows a b s t quiet left stays w takes g segment plays rows_are =
    plays_on g segment a b (Takes s) (Takes t) quiet left w.more w.place w.query w.ends w.grown w.none_left w.none_begun (λ gone. still_here left _ stays gone)
    (taken_work a b s t takes g segment plays.query (plays.ends stays) plays.work) plays
