-- What one more entry adds to a history, and what reading a datagram tells.
use Rattle.std.proofs.Common.{◌≡◌, ℕ, List, [], ◌∷◌, ◌++◌, Bool, true, false, cond, ◌&&◌, ◌||◌, ◌==◌, max, map, Option, Some, None, Ok, Err, refl, ap, sym, ◌∙◌}
use Rattle.std.proofs.Common.{subst, inl, inr, ◌⊎◌, append_assoc, append-nil, arith}
use Rattle.std.specs.List.{Contains, flat_map, list_any}
use Rattle.std.specs.Ordering.{int_eq}
use Rattle.ic_base.specs.declared.keys.ConnKey.{ConnKey}
use Rattle.ic_base.specs.declared.datagram.Datagram.{Datagram}
use Rattle.ic_base.specs.declared.datagram.Parcel.{Parcel}
use Rattle.ic_base.specs.Keys.{key_eq}
use Rattle.ic_base.proofs.SameKeys.{key_eq-tells}
use Rattle.ic_header.specs.declared.flags.Flags.{Flags}
use Rattle.ic_header.specs.declared.flags.Flags.TheVariants.{Rows, LastRows, Query, Ack, Stop, Nak, Disorder, Duplicate}
use Rattle.ic_law.specs.declared.history.HubAsk.{HubAsk}
use Rattle.ic_law.specs.declared.history.HubAsk.TheVariants.{Begin, Put, Finish, Take, TakeFrom, Halt, Arrive, Tick, Clear, Leave}
use Rattle.ic_law.specs.declared.history.HubReply.{HubReply}
use Rattle.ic_law.specs.declared.history.HubReply.TheVariants.{Begun, Gave, Took, Came, Ticked, Cleared, Left, Memory}
use Rattle.ic_law.specs.declared.history.Entry.{Entry}
use Rattle.ic_header.specs.Packets.{Packet, RowPacket, packet_of, key_of, is_rows, is_last, goes_forth}
use Rattle.ic_law.specs.History.{rows_read, rows_in, emits, arrives, emitted_of, arrived_of, rows_emitted_of, rows_arrived_of, number_of, greatest}
use Rattle.ic_law.specs.Putting.{puts, chunks_put_of, finishes, finished_of}
use Rattle.ic_law.specs.Taking.{takes, parcel_for, parcels_from, parcels_in, parcels_of, is_last_parcel, whole_of}
use Rattle.ic_law.specs.Storing.{stores, stored_of, stored_numbers_of}
use Rattle.ic_law.specs.Hearing.{hears, heard_of, is_stop, stopped_of, run_told, consumed_told, run_heard, consumed_heard}
use Rattle.ic_law.specs.Queries.{leaves, left_of}
use Rattle.ic_law.specs.Points.{Every}
use Rattle.ic_law.proofs.Lists.{cut_at, Contains-one, Contains-none, flat_map-push, flat_map-append, map-append, list_any-append, list_any-push}

-- ---- a point of every entry

pub every_none : (P : List Entry → Entry → Type 0) → Every P []
every_none P [] e after h = let bad : [] ≡ e ∷ after = h in cc
every_none P (b ∷ before) e after h = let bad : [] ≡ b ∷ (before ++ e ∷ after) = h in cc

pub every_push : (P : List Entry → Entry → Type 0) (h : List Entry) (e : Entry) → Every P h → P h e → Every P (h ++ e ∷ [])
every_push P h e every here before x after at =
    elim (cut_at h e before x after at) [
      | inl w ↦ subst (λ b. P b x) (sym w.1) (subst (λ y. P h y) (sym w.2) here)
      | inr w ↦ every before x w.0 w.2
    ]

-- what each entry keeps, the whole has
pub fold_every : (P : List Entry → Entry → Type 0) (C : List Entry → Type 0) (h : List Entry)
    → C [] → ((before : List Entry) (e : Entry) (after : List Entry) → h ≡ before ++ e ∷ after → P before e → C before → C (before ++ e ∷ [])) → Every P h → C h
fold_every P C h none step every = go [] h none refl
  where
    go : (before after : List Entry) → C before → h ≡ before ++ after → C h
    go before [] c at = subst C (sym (at ∙ append-nil before)) c
    go before (e ∷ after) c at = go (before ++ e ∷ []) after (step before e after at (every before e after at) c) (at ∙ sym (append_assoc before (e ∷ []) after))

-- ---- packets of rows

-- the datagram reads as this packet of rows of c
pub record ReadsRows (c : ConnKey) (d : Datagram) (q : RowPacket) : Type 0 where
  pub packet : Packet
  pub reads : packet_of d ≡ Some packet
  pub rows : is_rows packet.head.flags ≡ true
  pub key : key_of packet.head ≡ c
  pub is : q ≡ record { seq = packet.head.seq; payload = packet.body; last = is_last packet.head.flags }

pub rows_in-reads : (c : ConnKey) (d : Datagram) (q : RowPacket) → Contains (rows_in c d) q → ReadsRows c d q
rows_in-reads c d q h = by (packet_of d) refl h
  where
    yes : (a b : Bool) (p : Packet) (r : RowPacket) → packet_of d ≡ Some p → is_rows p.head.flags ≡ a → key_eq (key_of p.head) c ≡ b
        → r ≡ record { seq = p.head.seq; payload = p.body; last = is_last p.head.flags } → Contains (cond (a && b) (r ∷ []) []) q → ReadsRows c d q
    yes true true p r reads rows key is h = record { packet = p; reads = reads; rows = rows; key = key_eq-tells (key_of p.head) c key; is = Contains-one r q h ∙ is }
    yes true false p r reads rows key is h = absurd (Contains-none q h)
    yes false b p r reads rows key is h = absurd (Contains-none q h)

    by : (o : Option Packet) → packet_of d ≡ o → Contains (rows_read c o) q → ReadsRows c d q
    by None none h = absurd (Contains-none q h)
    by (Some p) reads h = yes (is_rows p.head.flags) (key_eq (key_of p.head) c) p _ reads refl refl refl h

pub rows_go_forth : (f : Flags) → is_rows f ≡ true → goes_forth f ≡ true
rows_go_forth Rows h = refl
rows_go_forth LastRows h = refl
rows_go_forth Query h = refl
rows_go_forth Ack h = h
rows_go_forth Stop h = h
rows_go_forth Nak h = h
rows_go_forth Disorder h = h
rows_go_forth Duplicate h = h

-- ---- parcels

-- an entry takes at most one parcel of c
pub takes_cases : (c : ConnKey) (e : Entry) → (takes c e ≡ []) ⊎ ((p : Parcel) × (takes c e ≡ p ∷ []))
takes_cases c e = by e.ask
  where
    few : (ps : List Parcel) → Type 0
    few ps = (ps ≡ []) ⊎ ((p : Parcel) × (ps ≡ p ∷ []))

    chosen : (b : Bool) (ps : List Parcel) → few ps → few (cond b ps [])
    chosen true ps h = h
    chosen false ps h = inl refl

    one : (b : Bool) (p : Parcel) → few (cond b (p ∷ []) [])
    one true p = inr (p, refl)
    one false p = inl refl

    from : (reply : HubReply) → few (parcels_from c.from (parcels_in reply))
    from (Begun r) = inl refl
    from (Gave r) = inl refl
    from (Took (Ok r)) = one (int_eq r.0.from c.from) r.0
    from (Took (Err refusal)) = inl refl
    from (Came how ds) = inl refl
    from (Ticked r) = inl refl
    from (Cleared r) = inl refl
    from (Left r) = inl refl
    from Memory = inl refl

    any : (reply : HubReply) → few (parcels_in reply)
    any (Begun r) = inl refl
    any (Gave r) = inl refl
    any (Took (Ok r)) = inr (r.0, refl)
    any (Took (Err refusal)) = inl refl
    any (Came how ds) = inl refl
    any (Ticked r) = inl refl
    any (Cleared r) = inl refl
    any (Left r) = inl refl
    any Memory = inl refl

    by : (ask : HubAsk) → few (parcel_for c ask e.reply)
    by (Begin query ends) = inl refl
    by (Put key chunk) = inl refl
    by (Finish key) = inl refl
    by (Take query motion) = chosen ((query == c.query) && (motion == c.motion)) (parcels_from c.from (parcels_in e.reply)) (from e.reply)
    by (TakeFrom key) = chosen (key_eq key c) (parcels_in e.reply) (any e.reply)
    by (Halt key) = inl refl
    by (Arrive d) = inl refl
    by Tick = inl refl
    by (Clear query) = inl refl
    by (Leave query) = inl refl

pub parcels_of-push : (c : ConnKey) (h : List Entry) (e : Entry) → parcels_of c (h ++ e ∷ []) ≡ parcels_of c h ++ takes c e
parcels_of-push c h e = flat_map-push (takes c) h e

-- ---- what one more entry adds

pub emitted_of-push : (h : List Entry) (e : Entry) → emitted_of (h ++ e ∷ []) ≡ emitted_of h ++ emits e
emitted_of-push h e = flat_map-push emits h e

pub arrived_of-push : (h : List Entry) (e : Entry) → arrived_of (h ++ e ∷ []) ≡ arrived_of h ++ arrives e
arrived_of-push h e = flat_map-push arrives h e

pub rows_emitted_of-push : (c : ConnKey) (h : List Entry) (e : Entry) → rows_emitted_of c (h ++ e ∷ []) ≡ rows_emitted_of c h ++ flat_map (rows_in c) (emits e)
rows_emitted_of-push c h e = ap (flat_map (rows_in c)) (emitted_of-push h e) ∙ flat_map-append (rows_in c) (emitted_of h) (emits e)

pub rows_arrived_of-push : (c : ConnKey) (h : List Entry) (e : Entry) → rows_arrived_of c (h ++ e ∷ []) ≡ rows_arrived_of c h ++ flat_map (rows_in c) (arrives e)
rows_arrived_of-push c h e = ap (flat_map (rows_in c)) (arrived_of-push h e) ∙ flat_map-append (rows_in c) (arrived_of h) (arrives e)

pub chunks_put_of-push : (c : ConnKey) (h : List Entry) (e : Entry) → chunks_put_of c (h ++ e ∷ []) ≡ chunks_put_of c h ++ puts c e
chunks_put_of-push c h e = flat_map-push (puts c) h e

pub finished_of-push : (c : ConnKey) (h : List Entry) (e : Entry) → finished_of c (h ++ e ∷ []) ≡ (finished_of c h || finishes c e)
finished_of-push c h e = list_any-push (finishes c) h e

pub whole_of-push : (c : ConnKey) (h : List Entry) (e : Entry) → whole_of c (h ++ e ∷ []) ≡ (whole_of c h || list_any is_last_parcel (takes c e))
whole_of-push c h e = ap (list_any is_last_parcel) (parcels_of-push c h e) ∙ list_any-append is_last_parcel (parcels_of c h) (takes c e)

pub stored_of-push : (c : ConnKey) (h : List Entry) (e : Entry) → stored_of c (h ++ e ∷ []) ≡ stored_of c h ++ stores c e
stored_of-push c h e = flat_map-push (stores c) h e

pub stored_numbers_of-push : (c : ConnKey) (h : List Entry) (e : Entry) → stored_numbers_of c (h ++ e ∷ []) ≡ stored_numbers_of c h ++ map number_of (stores c e)
stored_numbers_of-push c h e = ap (map number_of) (stored_of-push c h e) ∙ map-append number_of (stored_of c h) (stores c e)

pub heard_of-push : (c : ConnKey) (h : List Entry) (e : Entry) → heard_of c (h ++ e ∷ []) ≡ heard_of c h ++ hears c e
heard_of-push c h e = flat_map-push (hears c) h e

pub stopped_of-push : (c : ConnKey) (h : List Entry) (e : Entry) → stopped_of c (h ++ e ∷ []) ≡ (stopped_of c h || list_any is_stop (hears c e))
stopped_of-push c h e = ap (list_any is_stop) (heard_of-push c h e) ∙ list_any-append is_stop (heard_of c h) (hears c e)

pub left_of-push : (h : List Entry) (e : Entry) → left_of (h ++ e ∷ []) ≡ left_of h ++ leaves e
left_of-push h e = flat_map-push leaves h e

pub greatest-append : (xs ys : List ℕ) → greatest (xs ++ ys) ≡ max (greatest xs) (greatest ys)
greatest-append [] ys = omega arith
greatest-append (x ∷ xs) ys = ap (max x) (greatest-append xs ys) ∙ omega arith

pub run_heard-push : (c : ConnKey) (h : List Entry) (e : Entry) → run_heard c (h ++ e ∷ []) ≡ max (run_heard c h) (greatest (map run_told (hears c e)))
run_heard-push c h e = ap (λ l. greatest (map run_told l)) (heard_of-push c h e) ∙ ap greatest (map-append run_told (heard_of c h) (hears c e)) ∙ greatest-append (map run_told (heard_of c h)) (map run_told (hears c e))

pub consumed_heard-push : (c : ConnKey) (h : List Entry) (e : Entry) → consumed_heard c (h ++ e ∷ []) ≡ max (consumed_heard c h) (greatest (map consumed_told (hears c e)))
consumed_heard-push c h e =
    ap (λ l. greatest (map consumed_told l)) (heard_of-push c h e) ∙ ap greatest (map-append consumed_told (heard_of c h) (hears c e)) ∙ greatest-append (map consumed_told (heard_of c h)) (map consumed_told (hears c e))
