-- What the packets of a datagram are, and what they say of connections that they aren't of.
use Rattle.std.proofs.Common.{◌≡◌, ℕ, map, List, [], ◌∷◌, ◌++◌, Bool, true, false, cond, ◌&&◌, Some, refl, ap, sym, ◌∙◌, subst, inl, inr, ◌⊎◌}
use Rattle.std.specs.List.{Contains, flat_map}
use Rattle.ic_base.specs.declared.keys.ConnKey.{ConnKey}
use Rattle.ic_base.specs.declared.keys.ConnEnd.{ConnEnd}
use Rattle.ic_base.specs.declared.datagram.Datagram.{Datagram}
use Rattle.ic_base.specs.Keys.{key_eq}
use Rattle.ic_base.proofs.SameKeys.{key_eq-tells, key_eq-same}
use Rattle.ic_header.specs.declared.flags.Flags.{Flags}
use Rattle.ic_header.specs.declared.flags.Flags.TheVariants.{Rows, LastRows, Query, Ack, Stop, Nak, Disorder, Duplicate}
use Rattle.ic_law.specs.declared.history.HubAsk.{HubAsk}
use Rattle.ic_law.specs.declared.history.HubReply.{HubReply}
use Rattle.ic_law.specs.declared.history.Entry.{Entry}
use Rattle.ic_header.specs.Packets.{row_datagram, query_datagram, Packet, RowPacket, packet_of, key_of, is_rows, is_last, goes_forth}
use Rattle.ic_law.specs.History.{rows_read, rows_in}
use Rattle.ic_law.specs.Hearing.{answer_read, answer_in}
use Rattle.ic_law.specs.Emitting.{is_query, queries_read, queries_in}
use Rattle.ic_law.proofs.Lists.{Contains-none, Contains-head, Contains-tail, flat_map-Contains}
use Rattle.ic_law.proofs.Readings.{rows_go_forth}

-- an entry is its ask and its reply
pub entry_is : (e : Entry) (ask : HubAsk) (reply : HubReply) → e.ask ≡ ask → e.reply ≡ reply → e ≡ record { ask = ask; reply = reply }
entry_is e ask reply a r = ap (λ x. entry x e.reply) a ∙ ap (λ x. entry ask x) r
  where
    entry : HubAsk → HubReply → Entry
    entry a r = record { ask = a; reply = r }

pub query_goes_forth : (f : Flags) → is_query f ≡ true → goes_forth f ≡ true
query_goes_forth Rows h = refl
query_goes_forth LastRows h = refl
query_goes_forth Query h = refl
query_goes_forth Ack h = h
query_goes_forth Stop h = h
query_goes_forth Nak h = h
query_goes_forth Disorder h = h
query_goes_forth Duplicate h = h

pub forth_cases : (f : Flags) → goes_forth f ≡ true → (is_rows f ≡ true) ⊎ (is_query f ≡ true)
forth_cases Rows h = inl refl
forth_cases LastRows h = inl refl
forth_cases Query h = inr refl
forth_cases Ack h = inl h
forth_cases Stop h = inl h
forth_cases Nak h = inl h
forth_cases Disorder h = inl h
forth_cases Duplicate h = inl h

pub flag_of_true : (b : Bool) → b ≡ true → b ≡ false → ⊥
flag_of_true b on apart = let bad : true ≡ false = sym on ∙ apart in cc

-- the packet of rows that a packet is
abbrev pub row_of : Packet → RowPacket
row_of p = record { seq = p.head.seq; payload = p.body; last = is_last p.head.flags }

-- a packet that isn't forth on this connection is none of its rows
pub rows_not : (k : ConnKey) (d : Datagram) (p : Packet) → packet_of d ≡ Some p → (key_of p.head ≡ k → goes_forth p.head.flags ≡ true → ⊥) → rows_in k d ≡ []
rows_not k d p reads apart = ap (rows_read k) reads ∙ by (is_rows p.head.flags) (key_eq (key_of p.head) k) refl refl
  where
    by : (a b : Bool) → is_rows p.head.flags ≡ a → key_eq (key_of p.head) k ≡ b
        → cond {A = List RowPacket} (a && b) (row_of p ∷ []) [] ≡ []
    by true true x y = absurd (apart (key_eq-tells (key_of p.head) k y) (rows_go_forth p.head.flags x))
    by true false x y = refl
    by false b x y = refl

-- nor one of its status queries
pub queries_not_of : (k : ConnKey) (d : Datagram) (p : Packet) → packet_of d ≡ Some p → (key_of p.head ≡ k → goes_forth p.head.flags ≡ true → ⊥) → queries_in k d ≡ []
queries_not_of k d p reads apart = ap (queries_read k) reads ∙ by (is_query p.head.flags) (key_eq (key_of p.head) k) refl refl
  where
    by : (a b : Bool) → is_query p.head.flags ≡ a → key_eq (key_of p.head) k ≡ b → cond (a && b) (p.head.seq ∷ []) [] ≡ []
    by true true x y = absurd (apart (key_eq-tells (key_of p.head) k y) (query_goes_forth p.head.flags x))
    by true false x y = refl
    by false b x y = refl

-- a packet that isn't back on this connection is no answer of it
pub answer_not : (k : ConnKey) (d : Datagram) (p : Packet) → packet_of d ≡ Some p → (key_of p.head ≡ k → goes_forth p.head.flags ≡ false → ⊥) → answer_in k d ≡ []
answer_not k d p reads apart = ap (answer_read k) reads ∙ by (goes_forth p.head.flags) (key_eq (key_of p.head) k) refl refl
  where
    by : (a b : Bool) → goes_forth p.head.flags ≡ a → key_eq (key_of p.head) k ≡ b → cond a [] (cond b (p ∷ []) []) ≡ []
    by true b x y = refl
    by false true x y = absurd (apart (key_eq-tells (key_of p.head) k y) x)
    by false false x y = refl

-- a packet of rows of this connection
pub rows_is : (k : ConnKey) (d : Datagram) (p : Packet) → packet_of d ≡ Some p → key_of p.head ≡ k → is_rows p.head.flags ≡ true → rows_in k d ≡ row_of p ∷ []
rows_is k d p reads key rows = ap (rows_read k) reads ∙ by (is_rows p.head.flags) (key_eq (key_of p.head) k) rows (ap (λ x. key_eq x k) key ∙ key_eq-same k)
  where
    by : (a b : Bool) → a ≡ true → b ≡ true → cond {A = List RowPacket} (a && b) (row_of p ∷ []) [] ≡ row_of p ∷ []
    by true true x y = refl
    by true false x y = absurd (flag_of_true false y refl)
    by false b x y = absurd (flag_of_true false x refl)

pub query_is : (k : ConnKey) (d : Datagram) (p : Packet) → packet_of d ≡ Some p → key_of p.head ≡ k → is_query p.head.flags ≡ true → queries_in k d ≡ p.head.seq ∷ []
query_is k d p reads key query =
    ap (queries_read k) reads ∙ by (is_query p.head.flags) (key_eq (key_of p.head) k) query (ap (λ x. key_eq x k) key ∙ key_eq-same k)
  where
    by : (a b : Bool) → a ≡ true → b ≡ true → cond (a && b) (p.head.seq ∷ []) [] ≡ p.head.seq ∷ []
    by true true x y = refl
    by true false x y = absurd (flag_of_true false y refl)
    by false b x y = absurd (flag_of_true false x refl)

-- what a datagram reads as is one packet
pub one_packet : (d : Datagram) (p q : Packet) → packet_of d ≡ Some p → packet_of d ≡ Some q → p ≡ q
one_packet d p q a b = let both : Some p ≡ Some q = sym a ∙ b in cc

pub flat_none : {A : Type 0} (read : Datagram → List A) (ds : List Datagram) → ((d : Datagram) → Contains ds d → read d ≡ []) → flat_map read ds ≡ []
flat_none read [] none = refl
flat_none read (d ∷ ds) none = ap (λ l. l ++ flat_map read ds) (none d (Contains-head d ds)) ∙ flat_none read ds (λ x at. none x (Contains-tail d ds x at))

-- what reads as nothing together has no datagram that reads as something
pub no_datagram : {A : Type 0} (read : Datagram → List A) (ds : List Datagram) (d : Datagram) (x : A) → flat_map read ds ≡ [] → Contains ds d → read d ≡ x ∷ [] → ⊥
no_datagram read ds d x none at reads =
    Contains-none x (subst (λ l. Contains l x) none (flat_map-Contains read ds d x at (subst (λ l. Contains l x) (sym reads) (Contains-head x []))))

-- datagrams of an end that are all its packets of rows
pub all_rows : (x : ConnEnd) (ds : List Datagram) → ((d : Datagram) → Contains ds d → (q : RowPacket) × (rows_in x.key d ≡ q ∷ []) × (d ≡ row_datagram x q)) → ds ≡ map (row_datagram x) (flat_map (rows_in x.key) ds)
all_rows x [] each = refl
all_rows x (d ∷ ds) each =
    let w = each d (Contains-head d ds) in
    let rest = all_rows x ds (λ o at. each o (Contains-tail d ds o at)) in
    ap (λ y. y ∷ ds) w.2 ∙ ap (λ l. row_datagram x w.0 ∷ l) rest ∙ ap (λ l. map (row_datagram x) (l ++ flat_map (rows_in x.key) ds)) (sym w.1)

-- and that are all its status queries
pub all_queries : (x : ConnEnd) (ds : List Datagram) → ((d : Datagram) → Contains ds d → (n : ℕ) × (queries_in x.key d ≡ n ∷ []) × (d ≡ query_datagram x n)) → ds ≡ map (query_datagram x) (flat_map (queries_in x.key) ds)
all_queries x [] each = refl
all_queries x (d ∷ ds) each =
    let w = each d (Contains-head d ds) in
    let rest = all_queries x ds (λ o at. each o (Contains-tail d ds o at)) in
    ap (λ y. y ∷ ds) w.2 ∙ ap (λ l. query_datagram x w.0 ∷ l) rest ∙ ap (λ l. map (query_datagram x) (l ++ flat_map (queries_in x.key) ds)) (sym w.1)
