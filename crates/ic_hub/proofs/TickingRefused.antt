-- A hub stands as it is with a tick that is refused.
use Rattle.std.proofs.Common.{◌≡◌, ◌<◌, ℕ, zero, suc, List, [], ◌∷◌, ◌++◌, map, filter, cond, Bool, true, false, ◌&&◌, Some, None, Err, refl, ap, sym, ◌∙◌, subst, arith, inl, inr, slice_get}
use Rattle.std.specs.List.{AllByRecursion, Contains}
use Rattle.ic_base.specs.declared.keys.ConnKey.{ConnKey}
use Rattle.ic_base.specs.declared.keys.ConnEnd.{ConnEnd}
use Rattle.ic_base.specs.declared.settings.Settings.{Settings}
use Rattle.ic_conntab.specs.Table.{Table}
use Rattle.ic_law.specs.declared.history.HubAsk.TheVariants.{Begin, Clear, Tick}
use Rattle.ic_law.specs.declared.history.Entry.{Entry}
use Rattle.ic_law.specs.declared.history.TickNo.{TickNo}
use Rattle.ic_law.specs.declared.history.TickNo.TheVariants as no
use Rattle.ic_law.specs.Clock.{next_clock}
use Rattle.ic_law.specs.Timing.{timing_of}
use Rattle.ic_law.specs.Spending.{packets_spent, query_spent, spent_of, spent_timers, spent_query, IsFirstSpent}
use Rattle.ic_law.specs.History.{sent_upto}
use Rattle.ic_law.proofs.Lists.{Contains-none, head_or_tail}
use Rattle.ic_conntab.specs.Ends.{sending_ends}
use Rattle.ic_sender.specs.Sending.{Sending}
use Rattle.ic_timed_sender.specs.Timed.{TimedState}
use Rattle.ic_timed_sender.specs.Standing.{Stands as SenderStands, GivesPacketUp, GivesQueryUp}
use Rattle.ic_hub_laws.specs.Clocks.{NoPacketSpent, NoQuerySpent, SpendsFirst}
use Rattle.ic_hub_laws.specs.Entries.{RefusedTick}
use Rattle.ic_hub_laws.proofs.Spent.{nothing_spent, packet_spent_first, query_spent_first}
use Rattle.ic_hub.specs.Hubbing.{Hubbing, Living, IsLiving, IsHub}
use Rattle.ic_hub.specs.Entries.{tick_entry}
use Rattle.ic_hub.specs.Standing.{IsAmong, Stands}
use Rattle.ic_hub.specs.Ticking.{MayResend, MayAsk, MayTick, RefusedFor, GivenUp, Roomless, RefusedFirst, RefusedIn, OfPacket, OfQuery, OfNone}
use Rattle.ic_hub.proofs.Places.{Shaped, sender_of, end_of_sender, all_at, at_map, map_at, apart_or_same}
use Rattle.ic_hub.proofs.Shape.{shape_of, less_at}
use Rattle.ic_hub.proofs.Ticking.{some_one}
use Rattle.ic_hub.proofs.Moving.{nought_stands, memory_stands}

-- ---- ends before one

-- All is cut at this element, which is at this place of those that pass; those before it that pass stand at earlier places.
record CutAt {A : Type 0} (test : A → Bool) (passed xs : List A) (at : ℕ) (b : A) : Type 0 where
  pub front : List A
  pub back : List A
  pub all : xs ≡ front ++ b ∷ back
  pub before : (x : A) → Contains front x → test x ≡ true → (j : ℕ) × (j < at) × (slice_get passed j ≡ Some x)

filter_at : {A : Type 0} (test : A → Bool) (xs : List A) (at : ℕ) (b : A) → slice_get (filter test xs) at ≡ Some b → CutAt test (filter test xs) xs at b
filter_at test [] at b h = let bad : None ≡ Some b = h in cc
filter_at {A = A} test (x ∷ xs) at b h = by (λ k. filter_at test xs k b) (test x) refl at h
  where
    fs : List A
    fs = filter test xs

    by : ((k : ℕ) → slice_get fs k ≡ Some b → CutAt test fs xs k b) → (p : Bool) → test x ≡ p → (k : ℕ) → slice_get (cond p (x ∷ fs) fs) k ≡ Some b → CutAt test (cond p (x ∷ fs) fs) (x ∷ xs) k b
    by more true e zero there = let same : x ≡ b = some_one x b there in record { front = []; back = xs; all = ap (λ y. y ∷ xs) same; before = λ y c passes. absurd (Contains-none y c) }
    by more true e (suc k) there =
        let w = more k there in
        record {
          front = x ∷ w.front;
          back = w.back;
          all = ap (λ ys. x ∷ ys) w.all;
          before = λ y c passes. elim (head_or_tail x w.front y c) [
            | inl same ↦ (zero, omega arith, ap Some same)
            | inr later ↦ let v = w.before y later passes in (suc v.0, (let less = v.1 in omega (arith, less)), v.2)
          ];
        }
    by more false e k there =
        let w = more k there in
        record {
          front = x ∷ w.front;
          back = w.back;
          all = ap (λ ys. x ∷ ys) w.all;
          before = λ y c passes. elim (head_or_tail x w.front y c) [
            | inl same ↦ let bad : false ≡ true = sym e ∙ ap test same ∙ passes in cc
            | inr later ↦ w.before y later passes
          ];
        }

-- ---- one query

-- what a query has at the tick of a history
record AtTick (s : Hubbing) (h : List Entry) (l : Living) : Type 0 where
  pub living : IsLiving l
  pub settings : (i : ℕ) (o : TimedState) → slice_get l.senders i ≡ Some o → o.sending.settings ≡ s.settings
  pub sender : (i : ℕ) (o : TimedState) → slice_get l.senders i ≡ Some o → MayResend o → packets_spent s.settings h o.sending.end ≡ []
  pub asker : (i : ℕ) (o : TimedState) → slice_get l.senders i ≡ Some o → MayAsk o → query_spent s.settings h o.sending.end ≡ []

at_tick : (s : Hubbing) (h : List Entry) (q : ℕ) (l : Living) → Shaped s → Stands s h → slice_get s.live q ≡ Some l → AtTick s h l
at_tick s h q l shaped stands here =
    let settings : (i : ℕ) (o : TimedState) → slice_get l.senders i ≡ Some o → o.sending.settings ≡ s.settings =
    (λ i o at. all_at (λ (x : TimedState). x.sending.settings ≡ s.settings) l.senders i o (shaped.of_hub q l here).settings at) in
    let was = stands.each q l here in
    record {
      living = shaped.living q l here;
      settings = settings;
      sender = λ i o at may. subst (λ x. packets_spent x h o.sending.end ≡ []) (settings i o at) (may.tells h (was.senders i o at)).packets;
      asker = λ i o at may. subst (λ x. query_spent x h o.sending.end ≡ []) (settings i o at) (may.tells h (was.senders i o at)).query;
    }

-- of an end that receives nothing is given up
receives_no_packet : (settings : Settings) (h : List Entry) (end : ConnEnd) → end.sending ≡ false → packets_spent settings h end ≡ []
receives_no_packet settings h end receives =
    ap (λ b. cond b (map (λ x. (end.key, x.seq)) (spent_timers settings (next_clock h) (timing_of end.key settings h))) []) receives

receives_no_query : (settings : Settings) (h : List Entry) (end : ConnEnd) → end.sending ≡ false → query_spent settings h end ≡ []
receives_no_query settings h end receives =
    ap (λ b. cond (b && spent_query settings (next_clock h) (timing_of end.key settings h).asked) ((end.key, sent_upto end.key h) ∷ []) []) receives

-- a reading of the ends of a query, where it reads nothing of those that receive
by_side : {B : Type 0} (read : ConnEnd → List B) (end : ConnEnd) → (end.sending ≡ false → read end ≡ []) → (end.sending ≡ true → read end ≡ []) → read end ≡ []
by_side read end receives sends = by end.sending refl
  where
    by : (b : Bool) → end.sending ≡ b → read end ≡ []
    by true e = sends e
    by false e = receives e

all_packets : (s : Hubbing) (h : List Entry) (l : Living) → AtTick s h l → AllByRecursion MayResend l.senders → NoPacketSpent s.settings h l.ends
all_packets s h l its all end c = by_side (packets_spent s.settings h) end (receives_no_packet s.settings h end) (λ sends.
    let w = sender_of l end its.living c sends in
    ap (packets_spent s.settings h) (sym w.is) ∙ its.sender w.at w.sender w.here (all_at MayResend l.senders w.at w.sender all w.here))

all_queries : (s : Hubbing) (h : List Entry) (l : Living) → AtTick s h l → AllByRecursion MayAsk l.senders → NoQuerySpent s.settings h l.ends
all_queries s h l its all end c = by_side (query_spent s.settings h) end (receives_no_query s.settings h end) (λ sends.
    let w = sender_of l end its.living c sends in
    ap (query_spent s.settings h) (sym w.is) ∙ its.asker w.at w.sender w.here (all_at MayAsk l.senders w.at w.sender all w.here))

-- the ends of a query are cut at a sender's
cut_ends : (l : Living) (at : ℕ) (o : TimedState) → IsLiving l → slice_get l.senders at ≡ Some o → CutAt (λ (e : ConnEnd). e.sending) (sending_ends l.ends) l.ends at o.sending.end
cut_ends l at o living here =
    filter_at (λ (e : ConnEnd). e.sending) l.ends at o.sending.end (ap (λ xs. slice_get xs at) (sym living.senders) ∙ map_at (λ (x : TimedState). x.sending.end) l.senders at o here)

-- each sending end of a front is a sender's before it
before_cut : {B : Type 0} (read : ConnEnd → List B) (May : TimedState → Type 0) (l : Living) (at : ℕ) (o : TimedState) → IsLiving l → (cut : CutAt (λ (e : ConnEnd). e.sending) (sending_ends l.ends) l.ends at o.sending.end)
    → ((end : ConnEnd) → end.sending ≡ false → read end ≡ []) → ((i : ℕ) (p : TimedState) → slice_get l.senders i ≡ Some p → May p → read p.sending.end ≡ [])
    → ((i : ℕ) (p : TimedState) → i < at → slice_get l.senders i ≡ Some p → May p) → (end : ConnEnd) → Contains cut.front end → read end ≡ []
before_cut read May l at o living cut receives sends before end c = by_side read end (receives end) (λ is.
    let v = cut.before end c is in
    let w = at_map (λ (x : TimedState). x.sending.end) l.senders v.0 end (ap (λ xs. slice_get xs v.0) living.senders ∙ v.2) in
    ap read (sym w.2) ∙ sends v.0 w.0 w.1 (before v.0 w.0 v.1 w.1))

-- a query gives this up first
packet_first : (s : Hubbing) (h : List Entry) (l : Living) (at : ℕ) (o : TimedState) (seq : ℕ) → AtTick s h l → slice_get l.senders at ≡ Some o → ((i : ℕ) (p : TimedState) → i < at → slice_get l.senders i ≡ Some p → MayResend p)
    → GivesPacketUp o.sending seq h → SpendsFirst s.settings h l.ends (o.sending.end.key, seq)
packet_first s h l at o seq its here before up =
    let cut = cut_ends l at o its.living here in
    let front = before_cut (packets_spent s.settings h) MayResend l at o its.living cut (receives_no_packet s.settings h) its.sender before in
    let sends = (end_of_sender l at o its.living here).side_is in
    let first = subst (λ x. packets_spent x h o.sending.end ≡ (o.sending.end.key, seq) ∷ up.more) (its.settings at o here) (up.packets sends) in
    subst (λ ends. SpendsFirst s.settings h ends (o.sending.end.key, seq)) (sym cut.all) (packet_spent_first s.settings h cut.front o.sending.end cut.back (o.sending.end.key, seq) up.more front first)

query_first : (s : Hubbing) (h : List Entry) (l : Living) (at : ℕ) (o : TimedState) (seq : ℕ) → AtTick s h l → AllByRecursion MayResend l.senders → slice_get l.senders at ≡ Some o
    → ((i : ℕ) (p : TimedState) → i < at → slice_get l.senders i ≡ Some p → MayAsk p) → GivesQueryUp o.sending seq h → SpendsFirst s.settings h l.ends (o.sending.end.key, seq)
query_first s h l at o seq its packets here before up =
    let cut = cut_ends l at o its.living here in
    let front = before_cut (query_spent s.settings h) MayAsk l at o its.living cut (receives_no_query s.settings h) its.asker before in
    let sends = (end_of_sender l at o its.living here).side_is in
    let first = subst (λ x. query_spent x h o.sending.end ≡ (o.sending.end.key, seq) ∷ []) (its.settings at o here) (up sends) in
    subst (λ ends. SpendsFirst s.settings h ends (o.sending.end.key, seq)) (sym cut.all)
    (query_spent_first s.settings h cut.front o.sending.end cut.back (o.sending.end.key, seq) [] (subst (NoPacketSpent s.settings h) cut.all (all_packets s h l its packets)) front first)

-- ---- all of them

-- what a refusal is, where it isn't want of memory
data Refuses (s : Hubbing) (h : List Entry) (l : Living) (refusal : TickNo) : Type 0 where
  Spends : (key : ConnKey) (seq : ℕ) → refusal ≡ no.Spent key seq s.settings.retries → SpendsFirst s.settings h l.ends (key, seq) → Refuses s h l refusal
  OutOfMemory : refusal ≡ no.Memory → Refuses s h l refusal

refused_one : (s : Hubbing) (h : List Entry) (l : Living) (GivesUp : Sending → ℕ → List Entry → Type 0) (at : ℕ) (o : TimedState) (refusal : TickNo) → AtTick s h l → slice_get l.senders at ≡ Some o → SenderStands o h → RefusedFor GivesUp o refusal
    → ((seq : ℕ) → GivesUp o.sending seq h → SpendsFirst s.settings h l.ends (o.sending.end.key, seq)) → Refuses s h l refusal
refused_one s h l GivesUp at o refusal its here stands (Roomless is) first = OutOfMemory is
refused_one s h l GivesUp at o refusal its here stands (GivenUp seq is up) first =
    Spends o.sending.end.key seq (is ∙ ap (λ (x : Settings). no.Spent o.sending.end.key seq x.retries) (its.settings at o here)) (first seq (up h stands))

refused_in : (s : Hubbing) (h : List Entry) (l : Living) (refusal : TickNo) → AtTick s h l → ((i : ℕ) (o : TimedState) → slice_get l.senders i ≡ Some o → SenderStands o h) → RefusedIn l refusal → Refuses s h l refusal
refused_in s h l refusal its stand (OfNone is) = OutOfMemory is
refused_in s h l refusal its stand (OfPacket r) =
    refused_one s h l GivesPacketUp r.at r.first refusal its r.here (stand r.at r.first r.here) r.refused (λ seq up. packet_first s h l r.at r.first seq its r.here r.before up)
refused_in s h l refusal its stand (OfQuery packets r) =
    refused_one s h l GivesQueryUp r.at r.first refusal its r.here (stand r.at r.first r.here) r.refused (λ seq up. query_first s h l r.at r.first seq its packets r.here r.before up)

-- the queries with lesser numbers give nothing up
first_spent : (s : Hubbing) (table : Table) (h : List Entry) (q : ℕ) (l : Living) (key : ConnKey) (seq : ℕ) → IsHub s table → Stands s h → slice_get s.live q ≡ Some l → ((i : ℕ) (m : Living) → i < q → slice_get s.live i ≡ Some m → MayTick m)
    → SpendsFirst s.settings h l.ends (key, seq) → IsFirstSpent s.settings h key seq
first_spent s table h q l key seq is stands here before first = record {
  query = l.number;
  ends = l.ends;
  live = (stands.live l.number l.ends).1 (record { at = q; living = l; here = here; number = refl; ends_are = refl });
  more = first.more;
  first = first.all;
  least = λ other others live less. earlier other others less ((stands.live other others).0 live);
}
  where
    shaped : Shaped s
    shaped = shape_of s table is

    none : (i : ℕ) (m : Living) → slice_get s.live i ≡ Some m → MayTick m → spent_of s.settings h m.ends ≡ []
    none i m at may =
        let its = at_tick s h i m shaped stands at in
        nothing_spent s.settings h m.ends (all_packets s h m its may.packets) (all_queries s h m its may.queries)

    earlier : (other : ℕ) (others : List ConnEnd) → other < l.number → IsAmong s.live other others → spent_of s.settings h others ≡ []
    earlier other others less a = elim (apart_or_same a.at q) [
      | inl sooner ↦ ap (spent_of s.settings h) (sym a.ends_are) ∙ none a.at a.living a.here (before a.at a.living sooner a.here)
      | inr w ↦ elim w [
        | inl later ↦ (let more = less_at s.live q a.at l a.living is.ascend later here a.here in let number = a.number in absurd (omega (arith, more, number, less)))
        | inr same ↦ (
            let one : a.living ≡ l = some_one a.living l (sym a.here ∙ ap (λ n. slice_get s.live n) same ∙ here) in
            let number : l.number ≡ other = ap (λ (x : Living). x.number) (sym one) ∙ a.number in
            absurd (omega (arith, number, less)))
      ]
    ]

pub refused_stands : (s : Hubbing) (table : Table) (h : List Entry) (refusal : TickNo) → IsHub s table → Stands s h → RefusedFirst MayTick RefusedIn s.live refusal → Stands s (h ++ tick_entry (Err refusal) ∷ [])
refused_stands s table h refusal is stands r =
    by (refused_in s h r.first refusal (at_tick s h r.at r.first shaped stands r.here) (stands.each r.at r.first r.here).senders r.refused)
  where
    shaped : Shaped s
    shaped = shape_of s table is

    by : Refuses s h r.first refusal → Stands s (h ++ tick_entry (Err refusal) ∷ [])
    by (OutOfMemory no_room) =
        subst (λ x. Stands s (h ++ tick_entry (Err x) ∷ [])) (sym no_room) (memory_stands s h Tick shaped stands (λ query asked. let bad : Tick ≡ Clear query = asked in cc) refl)
    by (Spends key seq spent first) =
        let e = tick_entry (Err (no.Spent key seq s.settings.retries)) in
        subst (λ x. Stands s (h ++ tick_entry (Err x) ∷ [])) (sym spent)
        (nought_stands s h e shaped stands (RefusedTick key seq refl (first_spent s table h r.at r.first key seq is stands r.here r.before first) refl)
        (λ query ends asked begun. let bad : Tick ≡ Begin query ends = asked in cc) refl (λ given. tt) (λ d c. absurd (Contains-none d c)))
