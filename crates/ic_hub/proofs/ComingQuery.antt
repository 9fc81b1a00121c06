-- A hub stands on with a datagram that came for one of its connections.
use Rattle.std.proofs.Common.{◌≡◌, ℕ, List, [], ◌∷◌, ◌++◌, set, not, Bool, true, false, Option, Some, None, Result, Ok, Err, refl, ap, sym, ◌∙◌, subst, inr}
use Rattle.std.proofs.Common.{◌⊎◌, slice_get}
use Rattle.std.specs.List.{Contains}
use Rattle.ic_base.specs.declared.keys.ConnKey.{ConnKey}
use Rattle.ic_base.specs.declared.keys.ConnEnd.{ConnEnd}
use Rattle.ic_base.specs.declared.datagram.Datagram.{Datagram}
use Rattle.ic_header.specs.declared.flags.Flags.{Flags}
use Rattle.ic_header.specs.declared.flags.Flags.TheVariants.{Ack, Stop, Disorder, Duplicate}
use Rattle.ic_header.specs.declared.header.Header.{Header}
use Rattle.ic_header.specs.Reading.{read_header}
use Rattle.ic_recvring.specs.Ring.{Ring, Packet as Kept}
use Rattle.ic_law.specs.declared.history.HubAsk.TheVariants.{Arrive, Take}
use Rattle.ic_law.specs.declared.history.HubReply.TheVariants.{Memory}
use Rattle.ic_law.specs.declared.history.Arrived.TheVariants.{Handled, Dropped}
use Rattle.ic_law.specs.declared.history.DropCause.TheVariants as cause
use Rattle.ic_law.specs.declared.history.Entry.{Entry}
use Rattle.ic_law.specs.Hub.{kind_replied}
use Rattle.ic_law.specs.Hub.Kind.{Coming}
use Rattle.ic_header.specs.Packets.{key_of, goes_forth}
use Rattle.ic_law.specs.History.{emits, datagrams_of}
use Rattle.ic_law.specs.Points.{IsDirected}
use Rattle.ic_law.proofs.Lists.{Contains-none, Contains-one}
use Rattle.ic_conntab.specs.Ends.{sender_at, receiver_at}
use Rattle.ic_conntab.specs.declared.slots.Sides.{Sides}
use Rattle.ic_conntab.proofs.Named.{keys_are_of_ends}
use Rattle.ic_sender.specs.declared.send_no.SendNo.{SendNo}
use Rattle.ic_sender.specs.declared.send_no.SendNo.TheVariants.{Stray}
use Rattle.ic_sender.specs.Entries.{IsHearing as IsAnswered, came_of as told}
use Rattle.ic_timed_sender.specs.Timed.{TimedState, SameEnd}
use Rattle.ic_timed_sender.specs.Emitted.{IsOutgoingOf}
use Rattle.ic_timed_sender.specs.Standing.{StandsNext}
use Rattle.ic_receiver.specs.Receiving.{Receiving, Hears, Stopped, Running, HearsRows, Again, Far, Kept as KeptNow, TellsStored, Next, Gap, HearsQuery}
use Rattle.ic_receiver.specs.Receiving.{QueryStopped, QueryTold}
use Rattle.ic_header.specs.Packets.{IsAnswer}
use Rattle.ic_receiver.specs.Standing.{Stands as ReceiverStands}
use Rattle.ic_hub_laws.specs.Entries.{IsOurs, OfArrive}
use Rattle.ic_hub_laws.specs.Formed.{IsFormedOf}
use Rattle.ic_hub_laws.proofs.Forms.{answers_formed}
use Rattle.ic_hub_laws.proofs.Served.{served_before}
use Rattle.ic_law.proofs.Datagrams.{rows_is}
use Rattle.ic_hub.specs.declared.finding.Found.TheVariants as says
use Rattle.ic_hub.specs.Hubbing.{Hubbing, Living, place_in}
use Rattle.ic_hub.specs.Entries.{arrive_entry, came_of}
use Rattle.ic_hub.specs.Finding.{IsFound, OfOther, NoSuchKey, OfEnded, OfUnbegun, There, SenderIs, ReceiverIs}
use Rattle.ic_hub.specs.Standing.{Stands}
use Rattle.ic_hub.specs.Coming.{Became, kept_of, told_of, Asks, WithRows, WithQuery, HearsForth, ForthWithout, Forth, HearsBack, BackWithout, Strays, Back}
use Rattle.ic_hub.specs.Coming.{ReceiverHears, SenderHears, IsAddressed, ComesToQuery, AtReceiver, AtSender, NoReceiver, NoSender, ToNobody, ToNone, ToQuery}
use Rattle.ic_hub.specs.Coming.{Arrives, Unread, Read}
use Rattle.ic_hub.proofs.Places.{Shaped, all_at, contains_at, end_of_receiver, end_of_sender}
use Rattle.ic_hub.proofs.Finds.{here_is, finds_sender, finds_receiver, no_sender, no_receiver}
use Rattle.ic_hub.proofs.Moving.{set_same, with_query, with_sender, with_receiver, sender_moved, receiver_moved}
use Rattle.ic_hub.proofs.Putting.{packet_of_it, are_formed, ours_of}
use Rattle.ic_hub.proofs.ComingSteps.{same_at, asks_end}
use Rattle.ic_hub.proofs.ComingStands.{reads_packet, without, unread_stands, strange_stands, none_stands}

-- ---- the answer of a receiver

-- it is an answer of the end
record Answers (end : ConnEnd) (d : Datagram) : Type 0 where
  pub flags : Flags
  pub seq : ℕ
  pub extra : ℕ
  pub body : List ℕ
  pub back : goes_forth flags ≡ false
  pub is : IsAnswer end flags seq extra body d

answers_by : (end : ConnEnd) (flags : Flags) (seq extra : ℕ) (body : List ℕ) (d x : Datagram) → goes_forth flags ≡ false → IsAnswer end flags seq extra body d → Some x ≡ Some d → Answers end x
answers_by end flags seq extra body d x back is told =
    let same : x ≡ d = cc in
    record { flags = flags; seq = seq; extra = extra; body = body; back = back; is = subst (IsAnswer end flags seq extra body) (sym same) is }

answers_stored : (end : ConnEnd) (now : Ring) (r seq : ℕ) (d x : Datagram) → TellsStored end now r seq d → Some x ≡ Some d → Answers end x
answers_stored end now r seq d x (Next run next ends is) told = answers_by end Ack run now.consumed [] d x refl is told
answers_stored end now r seq d x (Gap g gap greatest is) told = answers_by end Disorder seq g _ d x refl is told

answers_rows : (end : ConnEnd) (s now : Ring) (q : Kept) (x : Datagram) → HearsRows end s q (Some x) now → Answers end x
answers_rows end s now q x (Again d r run repeated is told same) = answers_by end Duplicate q.seq r [] d x refl is told
answers_rows end s now q x (Far r run new beyond told same) = let bad : Some x ≡ None = told in cc
answers_rows end s now q x (KeptNow d r run new room tells told same) = answers_stored end _ r q.seq d x tells told

answers_heard : (s after : Receiving) (q : Kept) (x : Datagram) → Hears s q (Some x) after → Answers s.end x
answers_heard s after q x (Stopped d halted is told same) = answers_by s.end Stop q.seq 0 [] d x refl is told
answers_heard s after q x (Running ring now runs hears same) = answers_rows s.end ring now q x hears

answers_query : (s : Receiving) (seq : ℕ) (x : Datagram) → HearsQuery s seq (Some x) → Answers s.end x
answers_query s seq x (QueryStopped d halted is told) = answers_by s.end Stop seq 0 [] d x refl is told
answers_query s seq x (QueryTold d ring r runs run is told) = answers_by s.end Ack r ring.consumed [] d x refl is told

answers_asked : (head : Header) (body : List ℕ) (old new : Receiving) (x : Datagram) → Asks head body old new (Some x) → Answers old.end x
answers_asked head body old new x (WithRows rows hears stands) = answers_heard old new (kept_of head body) x hears
answers_asked head body old new x (WithQuery query hears same stands) = answers_query old head.seq x hears

-- ---- a receiver

-- the entry, with this answer
abbrev heard : Datagram → Option Datagram → Entry
heard d a = arrive_entry d (Ok (told_of a))

receiver_stands : (s : Hubbing) (h : List Entry) (d : Datagram) (head : Header) (body : List ℕ) (old new : Receiving) (a : Option Datagram) → read_header d.bytes ≡ Ok (head, body) → key_of head ≡ old.end.key → Asks head body old new a
    → ReceiverStands s.settings old h → ReceiverStands s.settings new (h ++ heard d a ∷ [])
receiver_stands s h d head body old new (Some x) reads key (WithRows rows hears stands) was =
    stands s.settings h (heard d (Some x)) (record { datagram = d; ask = refl; reads = rows_is old.end.key d (record { head = head; body = body }) (reads_packet d head body reads) key rows; reply = refl }) was
receiver_stands s h d head body old new None reads key (WithRows rows hears stands) was =
    stands s.settings h (heard d None) (record { datagram = d; ask = refl; reads = rows_is old.end.key d (record { head = head; body = body }) (reads_packet d head body reads) key rows; reply = refl }) was
receiver_stands s h d head body old new (Some x) reads key (WithQuery query hears same stands) was =
    stands s.settings h (heard d (Some x)) (record { datagram = d; packet = record { head = head; body = body }; ask = refl; reads = reads_packet d head body reads; key = key; flags = query; seq_is = refl; reply = refl }) was
receiver_stands s h d head body old new None reads key (WithQuery query hears same stands) was =
    stands s.settings h (heard d None) (record { datagram = d; packet = record { head = head; body = body }; ask = refl; reads = reads_packet d head body reads; key = key; flags = query; seq_is = refl; reply = refl }) was

-- the end of a receiver is one of this place
receiver_ours : (s : Hubbing) (q i : ℕ) (l : Living) (r : Receiving) → Shaped s → slice_get s.live q ≡ Some l → slice_get l.receivers i ≡ Some r → IsOurs (place_in s) r.end
receiver_ours s q i l r shaped here at =
    let its = end_of_receiver l i r (shaped.living q l here) at in
    let place = contains_at l.ends r.end its.has in
    all_at (IsOurs (place_in s)) l.ends place.0 r.end (shaped.of_hub q l here).ours place.1

-- what it emits has the form of its answers
answer_formed : (s : Hubbing) (d : Datagram) (head : Header) (body : List ℕ) (old new : Receiving) (a : Option Datagram) (x : Datagram) → IsOurs (place_in s) old.end → old.end.sending ≡ false → Asks head body old new a
    → Contains (emits (heard d a)) x → IsFormedOf (place_in s) old.end false x
answer_formed s d head body old new (Some y) x ours receives asks c =
    let w = answers_asked head body old new y asks in
    let same : x ≡ y = Contains-one y x c in
    answers_formed (place_in s) old.end w.flags w.seq w.extra w.body x ours receives w.back (subst (IsAnswer old.end w.flags w.seq w.extra w.body) (sym same) w.is)
answer_formed s d head body old new None x ours receives asks c = absurd (Contains-none x c)

-- the query with a receiver as it was is as it was
same_receivers : (l m : Living) (place : ℕ) (old new : Receiving) → slice_get l.receivers place ≡ Some old → m ≡ record l { receivers = set l.receivers place new } → new ≡ old → m ≡ l
same_receivers l m place old new here is same =
    is ∙ ap (λ x. record l { receivers = set l.receivers place x }) same ∙ ap (λ xs. record l { receivers = xs }) (set_same l.receivers place old here)

same_senders : (l m : Living) (place : ℕ) (old new : TimedState) → slice_get l.senders place ≡ Some old → m ≡ record l { senders = set l.senders place new } → new ≡ old → m ≡ l
same_senders l m place old new here is same =
    is ∙ ap (λ x. record l { senders = set l.senders place x }) same ∙ ap (λ xs. record l { senders = xs }) (set_same l.senders place old here)

same_hub : (s : Hubbing) (query : ℕ) (l m : Living) → slice_get s.live query ≡ Some l → m ≡ l → with_query s query m ≡ s
same_hub s query l m here same = ap (λ x. with_query s query x) same ∙ ap (λ xs. record s { live = xs }) (set_same s.live query l here)

-- it stands on with an answer of a receiver
heard_stands : (s : Hubbing) (h : List Entry) (d : Datagram) (head : Header) (body : List ℕ) (query place : ℕ) (l : Living) (old new : Receiving) (a : Option Datagram) → Shaped s → Stands s h → read_header d.bytes ≡ Ok (head, body)
    → IsDirected true d old.end.key → goes_forth head.flags ≡ true → key_of head ≡ old.end.key → slice_get s.live query ≡ Some l → slice_get l.receivers place ≡ Some old → new.end ≡ old.end → Asks head body old new a
    → Stands (with_query s query (with_receiver l place new)) (h ++ heard d a ∷ [])
heard_stands s h d head body query place l old new a shaped stands reads directed forth key here at end asks =
    let ours = receiver_ours s query place l old shaped here at in
    let receives = (end_of_receiver l place old (shaped.living query l here) at).side_is in
    receiver_moved s h (heard d a) query place l old new l.served shaped stands here at end refl
    (receiver_stands s h d head body old new a reads key asks ((stands.each query l here).receivers place old at))
    (record {
      asks = OfArrive d refl (record { packet = record { head = head; body = body }; reads = reads_packet d head body reads; key = key; way = forth }) directed;
      replied = inr refl;
      emitted = λ x c. (answer_formed s d head body old new a x ours receives asks c).packet;
    })
    (λ k motion last m found. served_before l.number motion h (heard d a) last (λ from served. let bad : Arrive d ≡ Take l.number motion = served.ask in cc) ((stands.each query l here).served k motion last m found))
    (λ given. tt) (λ x c. (answer_formed s d head body old new a x ours receives asks c).formed) (λ q motion asked. let bad : Arrive d ≡ Take q motion = asked in cc)

forth_stands : (s : Hubbing) (h : List Entry) (d : Datagram) (head : Header) (body : List ℕ) (query place : ℕ) (l m : Living) (r : Became) → Shaped s → Stands s h → read_header d.bytes ≡ Ok (head, body)
    → IsAddressed s.at d head → goes_forth head.flags ≡ true → ReceiverIs s (key_of head) query place → slice_get s.live query ≡ Some l → ReceiverHears place head body l m r → Stands (with_query s query m) (h ++ arrive_entry d r ∷ [])
forth_stands s h d head body query place l m r shaped stands reads leads forth found here hears = by hears.hears
  where
    by : HearsForth head body hears.old hears.new r → Stands (with_query s query m) (h ++ arrive_entry d r ∷ [])
    by (ForthWithout e is same) =
        subst (λ x. Stands x (h ++ arrive_entry d r ∷ [])) (sym (same_hub s query l m here (same_receivers l m place hears.old hears.new hears.here hears.is same)))
        (subst (λ x. Stands s (h ++ arrive_entry d x ∷ [])) (sym is) (without s h d e shaped stands))
    by (Forth a is asks) =
        let same = same_at s.live query l found.living here found.live in
        let it = same_at l.receivers place hears.old found.receiver hears.here (ap (λ (x : Living). slice_get x.receivers place) same ∙ found.here) in
        let key : key_of head ≡ hears.old.end.key = sym found.is ∙ ap (λ (x : Receiving). x.end.key) (sym it) in
        let directed = subst (λ (k : ConnKey). IsDirected true d k) key (subst (λ b. IsDirected b d (key_of head)) forth leads.directed) in
        let end = asks_end head body hears.old hears.new a asks in
        subst (λ x. Stands (with_query s query x) (h ++ arrive_entry d r ∷ [])) (sym hears.is)
        (subst (λ x. Stands (with_query s query (with_receiver l place hears.new)) (h ++ arrive_entry d x ∷ [])) (sym is)
        (heard_stands s h d head body query place l hears.old hears.new a shaped stands reads directed forth key here hears.here end asks))

-- ---- a sender

-- it stands on with what an answer makes of a sender
answered_stands : (s : Hubbing) (h : List Entry) (d : Datagram) (head : Header) (body : List ℕ) (query place : ℕ) (l : Living) (old new : TimedState) (answer : Result (List Datagram) SendNo) (r : Became) → Shaped s → Stands s h
    → read_header d.bytes ≡ Ok (head, body) → IsDirected false d old.sending.end.key → goes_forth head.flags ≡ false → key_of head ≡ old.sending.end.key → slice_get s.live query ≡ Some l → slice_get l.senders place ≡ Some old
    → SameEnd old new → new.now ≡ old.now → StandsNext old new (IsAnswered old.sending.end.key head.flags head.seq head.extra body answer) → came_of r ≡ told answer → (came_of r ≡ Memory) ⊎ (kind_replied (came_of r) ≡ Coming)
    → ((x : Datagram) → Contains (datagrams_of (came_of r)) x → IsOutgoingOf old.sending.end old.sending.settings.packet x) → Stands (with_query s query (with_sender l place new)) (h ++ arrive_entry d r ∷ [])
answered_stands s h d head body query place l old new answer r shaped stands reads directed back key here at same now goes reply replied formed =
    let ours = ours_of s query place l old shaped here at in
    let sends = (end_of_sender l place old (shaped.living query l here) at).side_is in
    let moved = goes h (arrive_entry d r) (record {
      datagram = d;
      packet = record { head = head; body = body };
      ask = refl;
      directed = directed;
      reads = reads_packet d head body reads;
      key = key;
      flags_are = refl;
      seq_is = refl;
      extra_is = refl;
      lists = λ lists. refl;
      reply = reply;
    }) ((stands.each query l here).senders place old at) in
    sender_moved s h (arrive_entry d r) query place l old new shaped stands here at same now moved
    (record {
      asks = OfArrive d refl (record { packet = record { head = head; body = body }; reads = reads_packet d head body reads; key = key; way = back }) directed;
      replied = replied;
      emitted = λ x c. packet_of_it old.sending.end old.sending.settings.packet x (formed x c);
    })
    (λ given. tt) (λ x c. are_formed (place_in s) old.sending.end old.sending.settings.packet x ours.session (ours.sends_here sends) (formed x c))

back_stands : (s : Hubbing) (h : List Entry) (d : Datagram) (head : Header) (body : List ℕ) (query place : ℕ) (l m : Living) (r : Became) → Shaped s → Stands s h → read_header d.bytes ≡ Ok (head, body)
    → IsAddressed s.at d head → goes_forth head.flags ≡ false → SenderIs s (key_of head) query place → slice_get s.live query ≡ Some l → SenderHears place head body l m r → Stands (with_query s query m) (h ++ arrive_entry d r ∷ [])
back_stands s h d head body query place l m r shaped stands reads leads back found here hears = by hears.hears
  where
    same : l ≡ found.living
    same = same_at s.live query l found.living here found.live

    it : hears.old ≡ found.sender
    it = same_at l.senders place hears.old found.sender hears.here (ap (λ (x : Living). slice_get x.senders place) same ∙ found.here)

    key : key_of head ≡ hears.old.sending.end.key
    key = sym found.is ∙ ap (λ (x : TimedState). x.sending.end.key) (sym it)

    directed : IsDirected false d hears.old.sending.end.key
    directed = subst (λ (k : ConnKey). IsDirected false d k) key (subst (λ b. IsDirected b d (key_of head)) back leads.directed)

    with_new : (x : Became) → r ≡ x → Stands (with_query s query (with_sender l place hears.new)) (h ++ arrive_entry d x ∷ []) → Stands (with_query s query m) (h ++ arrive_entry d r ∷ [])
    with_new x is stood =
        subst (λ y. Stands (with_query s query y) (h ++ arrive_entry d r ∷ [])) (sym hears.is) (subst (λ y. Stands (with_query s query (with_sender l place hears.new)) (h ++ arrive_entry d y ∷ [])) (sym is) stood)

    by : HearsBack head body hears.old hears.new r → Stands (with_query s query m) (h ++ arrive_entry d r ∷ [])
    by (BackWithout e is unchanged) =
        subst (λ x. Stands x (h ++ arrive_entry d r ∷ [])) (sym (same_hub s query l m here (same_senders l m place hears.old hears.new hears.here hears.is unchanged)))
        (subst (λ x. Stands s (h ++ arrive_entry d x ∷ [])) (sym is) (without s h d e shaped stands))
    by (Strays is unchanged end goes) =
        with_new (Ok (Dropped cause.Stray, [])) is
        (answered_stands s h d head body query place l hears.old hears.new (Err Stray) (Ok (Dropped cause.Stray, [])) shaped stands reads directed back key here hears.here end (ap (λ (o : TimedState). o.now) unchanged) goes refl (inr refl)
        (λ x c. absurd (Contains-none x c)))
    by (Back ds is end now formed goes) =
        with_new (Ok (Handled, ds)) is
        (answered_stands s h d head body query place l hears.old hears.new (Ok ds) (Ok (Handled, ds)) shaped stands reads directed back key here hears.here end now goes refl (inr refl) formed)

-- ---- the end that it is for is there

no_receiver_there : (s : Hubbing) (d : Datagram) (head : Header) (query : ℕ) (sides : Sides) → Shaped s → IsAddressed s.at d head → goes_forth head.flags ≡ true → IsFound s (key_of head) (says.Here query sides) → sides.receiver ≡ None → ⊥
no_receiver_there s d head query sides shaped leads forth (OfOther other is) h = let bad : says.Here query sides ≡ says.Foreign = is in cc
no_receiver_there s d head query sides shaped leads forth (NoSuchKey session i l at number none is) h = let bad : says.Here query sides ≡ says.Foreign = is in cc
no_receiver_there s d head query sides shaped leads forth (OfEnded session none past is) h = let bad : says.Here query sides ≡ says.Ended = is in cc
no_receiver_there s d head query sides shaped leads forth (OfUnbegun session none past is) h = let bad : says.Here query sides ≡ says.NotBegun = is in cc
no_receiver_there s d head query sides shaped leads forth (There session i l at number has its sender receiver is) h = by w.0.sending refl
  where
    none : receiver_at l.ends (key_of head) ≡ None
    none = sym receiver ∙ ap (λ (x : Sides). x.receiver) (sym (here_is query i sides its is)) ∙ h

    w : (end : ConnEnd) × Contains l.ends end × (end.key ≡ key_of head)
    w = (keys_are_of_ends l.ends (key_of head)).0 has

    way : (d.from ≡ head.src_content) × (d.to ≡ head.dst_content)
    way = subst (λ b. IsDirected b d (key_of head)) forth leads.directed

    by : (b : Bool) → w.0.sending ≡ b → ⊥
    by false receives = no_receiver l (key_of head) none w.0 w.1 w.2 receives
    by true sends =
        let ends = (shaped.of_hub i l at).ends in
        let to : w.0.key.to ≡ s.at = ap (λ (k : ConnKey). k.to) w.2 ∙ sym way.1 ∙ leads.here in
        let other = ends.both w.0 w.1 ((ends.each w.0 w.1).sends_here sends ∙ sym to) in
        no_receiver l (key_of head) none other.0 other.1 (other.2 ∙ w.2) (other.3 ∙ ap not sends)

no_sender_there : (s : Hubbing) (d : Datagram) (head : Header) (query : ℕ) (sides : Sides) → Shaped s → IsAddressed s.at d head → goes_forth head.flags ≡ false → IsFound s (key_of head) (says.Here query sides) → sides.sender ≡ None → ⊥
no_sender_there s d head query sides shaped leads back (OfOther other is) h = let bad : says.Here query sides ≡ says.Foreign = is in cc
no_sender_there s d head query sides shaped leads back (NoSuchKey session i l at number none is) h = let bad : says.Here query sides ≡ says.Foreign = is in cc
no_sender_there s d head query sides shaped leads back (OfEnded session none past is) h = let bad : says.Here query sides ≡ says.Ended = is in cc
no_sender_there s d head query sides shaped leads back (OfUnbegun session none past is) h = let bad : says.Here query sides ≡ says.NotBegun = is in cc
no_sender_there s d head query sides shaped leads back (There session i l at number has its sender receiver is) h = by w.0.sending refl
  where
    none : sender_at l.ends (key_of head) ≡ None
    none = sym sender ∙ ap (λ (x : Sides). x.sender) (sym (here_is query i sides its is)) ∙ h

    w : (end : ConnEnd) × Contains l.ends end × (end.key ≡ key_of head)
    w = (keys_are_of_ends l.ends (key_of head)).0 has

    way : (d.from ≡ head.dst_content) × (d.to ≡ head.src_content)
    way = subst (λ b. IsDirected b d (key_of head)) back leads.directed

    by : (b : Bool) → w.0.sending ≡ b → ⊥
    by true sends = no_sender l (key_of head) none w.0 w.1 w.2 sends
    by false receives =
        let ends = (shaped.of_hub i l at).ends in
        let from : w.0.key.from ≡ s.at = ap (λ (k : ConnKey). k.from) w.2 ∙ sym way.1 ∙ leads.here in
        let other = ends.both w.0 w.1 (from ∙ sym ((ends.each w.0 w.1).receives_here receives)) in
        no_sender l (key_of head) none other.0 other.1 (other.2 ∙ w.2) (other.3 ∙ ap not receives)

-- ---- all of it

query_stands : (s : Hubbing) (h : List Entry) (d : Datagram) (head : Header) (body : List ℕ) (query : ℕ) (sides : Sides) (r : Became) (after : Hubbing) → Shaped s → Stands s h → read_header d.bytes ≡ Ok (head, body) → IsAddressed s.at d head
    → IsFound s (key_of head) (says.Here query sides) → ComesToQuery s query sides head body r after → Stands after (h ++ arrive_entry d r ∷ [])
query_stands s h d head body query sides r after shaped stands reads leads found (AtReceiver forth place l m at here hears is) =
    subst (λ x. Stands x (h ++ arrive_entry d r ∷ [])) (sym is)
    (forth_stands s h d head body query place l m r shaped stands reads leads forth (finds_receiver s (key_of head) query place sides shaped found at) here hears)
query_stands s h d head body query sides r after shaped stands reads leads found (AtSender back place l m at here hears is) =
    subst (λ x. Stands x (h ++ arrive_entry d r ∷ [])) (sym is)
    (back_stands s h d head body query place l m r shaped stands reads leads back (finds_sender s (key_of head) query place sides shaped found at) here hears)
query_stands s h d head body query sides r after shaped stands reads leads found (NoReceiver forth none is same) = absurd (no_receiver_there s d head query sides shaped leads forth found none)
query_stands s h d head body query sides r after shaped stands reads leads found (NoSender back none is same) = absurd (no_sender_there s d head query sides shaped leads back found none)

-- the entry, in the hub as it was, and as it is
as_is : (s after : Hubbing) (h : List Entry) (d : Datagram) (r x : Became) → after ≡ s → r ≡ x → Stands s (h ++ arrive_entry d x ∷ []) → Stands after (h ++ arrive_entry d r ∷ [])
as_is s after h d r x same is stands = subst (λ y. Stands y (h ++ arrive_entry d r ∷ [])) (sym same) (subst (λ y. Stands s (h ++ arrive_entry d y ∷ [])) (sym is) stands)

pub arrives_stands : (s after : Hubbing) (h : List Entry) (d : Datagram) (r : Became) → Shaped s → Stands s h → Arrives s d r after → Stands after (h ++ arrive_entry d r ∷ [])
arrives_stands s after h d r shaped stands (Unread fault fails is same) = as_is s after h d r (Ok (Dropped (cause.Header fault), [])) same is (unread_stands s h d fault shaped stands fails)
arrives_stands s after h d r shaped stands (Read head body reads (ToNobody none is same)) = as_is s after h d r (Ok (Dropped cause.Foreign, [])) same is (strange_stands s h d head body shaped stands reads none)
arrives_stands s after h d r shaped stands (Read head body reads (ToNone leads session none turns same)) = as_is s after h d r r same refl (none_stands s h d head body r shaped stands reads leads session none turns)
arrives_stands s after h d r shaped stands (Read head body reads (ToQuery leads query sides found comes)) = query_stands s h d head body query sides r after shaped stands reads leads found comes
