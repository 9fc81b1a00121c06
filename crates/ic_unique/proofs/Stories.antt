-- The worked histories: each reply is computed from the entries before it.
use Rattle.std.proofs.Common.{◌≡◌, ℕ, ◌<◌, ◌≤◌, List, [], ◌∷◌, length, map, true, false, Ok, refl, ap, sym, ◌∙◌, subst, arith, append-nil, lit<, inl, inr, ◌⊎◌}
use Rattle.std.specs.List.{Contains, flat_map}
use Rattle.ic_base.specs.declared.keys.ConnEnd.{ConnEnd}
use Rattle.ic_base.specs.declared.settings.Settings.{Settings}
use Rattle.ic_base.specs.declared.datagram.Datagram.{Datagram}
use Rattle.ic_base.specs.Keys.{key_eq}
use Rattle.ic_header.specs.declared.flags.Flags.TheVariants.{Ack, Stop, Disorder}
use Rattle.ic_header.specs.Spelling.{written}
use Rattle.ic_header.specs.Reading.{word_at, content_at, flags_of, header_at, len_fits, read_header}
use Rattle.ic_chunk.specs.Chunks.{spelled}
use Rattle.ic_window.specs.Window.{times}
use Rattle.ic_law.specs.declared.history.HubAsk.TheVariants.{Begin, Put, Finish, Arrive, Tick}
use Rattle.ic_law.specs.declared.history.HubReply.TheVariants.{Begun, Gave, Came, Ticked}
use Rattle.ic_law.specs.declared.history.Arrived.TheVariants.{Handled}
use Rattle.ic_law.specs.declared.history.Entry.{Entry}
use Rattle.ic_header.specs.Packets.{Packet, packet_of, row_datagram, query_datagram, answer_datagram, header_for}
use Rattle.ic_law.specs.Queries.{left_of}
use Rattle.ic_law.specs.Filling.{sealed_of, kept_of}
use Rattle.ic_law.specs.Hearing.{stopped_of}
use Rattle.ic_header.specs.Packets.{listing}
use Rattle.ic_law.specs.Sending.{Fits, IsFull, IsTooLong}
use Rattle.ic_law.specs.Clock.{last_tick}
use Rattle.ic_law.specs.Timing.{timing_of}
use Rattle.ic_law.specs.Emitting.{rows_then}
use Rattle.ic_law.specs.Spending.{spent_of}
use Rattle.ic_law.specs.Order.{Live, query_out}
use Rattle.ic_law.specs.Numbers.{IsIncreasingFrom, last_or}
use Rattle.ic_law.specs.Points.{IsLive}
use Rattle.ic_law.proofs.Lists.{Contains-none, Contains-head, Contains-tail, Contains-one}
use Rattle.ic_unique.specs.Worked.{Forces, roomy, tight, here, up, across, text, rows, last, begin, resent, disordered, stopped, both_due, asked}
use Rattle.ic_unique.proofs.Given.{put_entry, finish_entry, came_entry}
use Rattle.ic_unique.proofs.Orders.{tick_entry}
use Rattle.ic_unique.proofs.Forced.{Follows, forced, begins, Runs, puts_follow, finish_follows, put_stopped, Comes, heard_follows, ticks_follow, begun_in}
use Rattle.ic_unique.proofs.Forced.{live_began, lone_live}

-- ---- the query of a story

begin_live : (ends : List ConnEnd) (after : List Entry) → left_of after ≡ [] → IsLive 1 ends (begin ends ∷ after)
begin_live ends after none = record { before = []; reply = Begun (Ok tt); after = after; all = refl; begun = refl; stays = λ at. Contains-none 1 (subst (λ l. Contains l 1) none at) }

-- it begins
first_begins : (settings : Settings) (ends : List ConnEnd) → Follows (here settings) [] (Begin 1 ends) (Begun (Ok tt))
first_begins settings ends = begins (here settings) [] 1 ends (λ old. Contains-none old.0 old.1) (λ live. Contains-none _ (live_began 1 live.0 [] live.1))

-- a sending end of it
record IsOf (ends : List ConnEnd) (end : ConnEnd) : Type 0 where
  pub stands : Contains ends end
  pub sends : end.sending ≡ true
  pub query : end.key.query ≡ 1

-- it isn't stopped
record Goes (ends : List ConnEnd) (end : ConnEnd) (after : List Entry) : Type 0 where
  pub of : IsOf ends end
  pub none_left : left_of after ≡ []
  pub going : stopped_of end.key (begin ends ∷ after) ≡ false

runs : (ends : List ConnEnd) (end : ConnEnd) (after : List Entry) → Goes ends end after → Runs (begin ends ∷ after) end
runs ends end after goes = record {
  here = record { ends = ends; live = subst (λ n. IsLive n ends (begin ends ∷ after)) (sym goes.of.query) (begin_live ends after goes.none_left); stands = goes.of.stands };
  sends = goes.of.sends;
  going = λ stopped. let bad : false ≡ true = sym goes.going ∙ stopped in cc;
}

-- there is room for one more packet
record HasRoom (settings : Settings) (end : ConnEnd) (h : List Entry) : Type 0 where
  pub few : kept_of end.key settings h < settings.send_depth
  pub small : length (sealed_of end.key settings h) < 9

not_full : (settings : Settings) (end : ConnEnd) (h : List Entry) → HasRoom settings end h → IsFull settings end.key h → ⊥
not_full settings end h room full = let few = room.few in omega (arith, full, few)

not_long : (settings : Settings) (end : ConnEnd) (h : List Entry) → HasRoom settings end h → IsTooLong settings end.key h → ⊥
not_long settings end h room long = let small = room.small in omega (arith, long, small)

-- ---- the steps of a story

-- a chunk that fits in the packet that is being filled
put_fits : (settings : Settings) (ends : List ConnEnd) (end : ConnEnd) (after : List Entry) (letter : ℕ) (ds : List Datagram) → Goes ends end after → Fits settings end.key (begin ends ∷ after) (text letter)
    → map (row_datagram end) (rows_then end.key settings (begin ends ∷ after) (put_entry end.key (text letter) (Gave (Ok [])))) ≡ ds → Follows (here settings) (begin ends ∷ after) (Put end.key (text letter)) (Gave (Ok ds))
put_fits settings ends end after letter ds goes fits due r may =
    puts_follow (here settings) (begin ends ∷ after) end (text letter) (runs ends end after goes) (λ needs. absurd (needs fits)) r may ∙ ap (λ l. Gave (Ok l)) due

-- one that needs the next packet
put_more : (settings : Settings) (ends : List ConnEnd) (end : ConnEnd) (after : List Entry) (letter : ℕ) (ds : List Datagram) → Goes ends end after → HasRoom settings end (begin ends ∷ after)
    → map (row_datagram end) (rows_then end.key settings (begin ends ∷ after) (put_entry end.key (text letter) (Gave (Ok [])))) ≡ ds → Follows (here settings) (begin ends ∷ after) (Put end.key (text letter)) (Gave (Ok ds))
put_more settings ends end after letter ds goes has due r may =
    let h = begin ends ∷ after in
    puts_follow (here settings) h end (text letter) (runs ends end after goes) (λ needs. (not_full settings end h has, not_long settings end h has)) r may ∙ ap (λ l. Gave (Ok l)) due

finishes : (settings : Settings) (ends : List ConnEnd) (end : ConnEnd) (after : List Entry) (ds : List Datagram) → Goes ends end after → HasRoom settings end (begin ends ∷ after)
    → map (row_datagram end) (rows_then end.key settings (begin ends ∷ after) (finish_entry end.key (Gave (Ok [])))) ≡ ds → Follows (here settings) (begin ends ∷ after) (Finish end.key) (Gave (Ok ds))
finishes settings ends end after ds goes has due r may =
    let h = begin ends ∷ after in
    finish_follows (here settings) h end (runs ends end after goes) (not_full settings end h has) (not_long settings end h has) r may ∙ ap (λ l. Gave (Ok l)) due

ticks : (settings : Settings) (ends : List ConnEnd) (after : List Entry) (ds : List Datagram) → left_of after ≡ [] → flat_map begun_in after ≡ [] → spent_of settings (begin ends ∷ after) ends ≡ []
    → query_out settings (begin ends ∷ after) (tick_entry (Ticked (Ok []))) (record { number = 1; ends = ends }) ≡ ds → Follows (here settings) (begin ends ∷ after) Tick (Ticked (Ok ds))
ticks settings ends after ds none alone spent due r may =
    let h = begin ends ∷ after in
    let q : Live = record { number = 1; ends = ends } in
    ticks_follow (here settings) h (q ∷ []) (lone_live h q (begin_live ends after none) (ap (λ l. q ∷ l) alone))
    (λ x at. subst (λ (y : Live). spent_of settings h y.ends ≡ []) (sym (Contains-one q x at)) spent) r may
    ∙ ap (λ l. Ticked (Ok l)) (append-nil (query_out settings h (tick_entry (Ticked (Ok []))) q) ∙ due)

-- an answer comes
comes : (settings : Settings) (ends : List ConnEnd) (end : ConnEnd) (after : List Entry) (d : Datagram) (p : Packet) (ds : List Datagram) → Goes ends end after → Comes (begin ends ∷ after) end d p
    → map (row_datagram end) (rows_then end.key settings (begin ends ∷ after) (came_entry d (Came Handled []))) ≡ ds → Follows (here settings) (begin ends ∷ after) (Arrive d) (Came Handled ds)
comes settings ends end after d p ds goes is due r may = heard_follows (here settings) (begin ends ∷ after) end d p (runs ends end after goes) is r may ∙ ap (Came Handled) due

-- ---- the stories

up_of : IsOf (up ∷ []) up
up_of = record { stands = Contains-head up []; sends = refl; query = refl }

across_of : IsOf (up ∷ across ∷ []) across
across_of = record { stands = Contains-tail up (across ∷ []) across (Contains-head across []); sends = refl; query = refl }

up_beside : IsOf (up ∷ across ∷ []) up
up_beside = record { stands = Contains-head up (across ∷ []); sends = refl; query = refl }

ack_fine : (sent seq extra : ℕ) → seq ≤ sent → extra ≤ seq → (sent < seq) ⊎ (seq < extra) → ⊥
ack_fine sent seq extra low more (inl above) = omega (arith, low, above)
ack_fine sent seq extra low more (inr above) = omega (arith, more, above)

disorder_fine : (sent seq extra : ℕ) (ns : List ℕ) → seq ≤ sent → extra ≤ sent → IsIncreasingFrom 1 ns → last_or 0 ns < extra
    → (sent < seq) ⊎ ((sent < extra) ⊎ ((IsIncreasingFrom 1 ns → ⊥) ⊎ (extra ≤ last_or 0 ns))) → ⊥
disorder_fine sent seq extra ns low more increase below (inl above) = omega (arith, low, above)
disorder_fine sent seq extra ns low more increase below (inr (inl above)) = omega (arith, more, above)
disorder_fine sent seq extra ns low more increase below (inr (inr (inl not_so))) = not_so increase
disorder_fine sent seq extra ns low more increase below (inr (inr (inr high))) = omega (arith, below, high)

pub resent_forced : Forces (here roomy) resent
unfolding key_eq packet_of read_header header_at len_fits flags_of word_at content_at written spelled times last_tick timing_of text
resent_forced k run same =
    forced (here roomy) k run [] k resent refl same (
      first_begins roomy (up ∷ []),
      (
        put_fits roomy (up ∷ []) up _ 97 [] (record { of = up_of; none_left = refl; going = refl }) refl refl,
        (
          finishes roomy (up ∷ []) up _ (row_datagram up (last 1 97) ∷ []) (record { of = up_of; none_left = refl; going = refl }) (record { few = lit< tt; small = lit< tt }) refl,
          (
            ticks roomy (up ∷ []) _ [] refl refl refl refl,
            (
              ticks roomy (up ∷ []) _ [] refl refl refl refl,
              (
                ticks roomy (up ∷ []) _ [] refl refl refl refl,
                (
                  ticks roomy (up ∷ []) _ (row_datagram up (last 1 97) ∷ []) refl refl refl refl,
                  (comes roomy (up ∷ []) up _ (answer_datagram up Ack 1 0 []) (record { head = header_for up Ack 0 1 0; body = [] }) [] (record { of = up_of; none_left = refl; going = refl }) (record { reads = refl; back = refl; key = refl; directed = (refl, refl); fine = ack_fine 1 1 0 (omega arith) (omega arith) }) refl, tt),
                ),
              ),
            ),
          ),
        ),
      ),
    )

pub disordered_forced : Forces (here roomy) disordered
unfolding key_eq packet_of read_header header_at len_fits flags_of word_at content_at written spelled times last_tick timing_of text
disordered_forced k run same =
    forced (here roomy) k run [] k disordered refl same (
      first_begins roomy (up ∷ []),
      (
        put_fits roomy (up ∷ []) up _ 97 [] (record { of = up_of; none_left = refl; going = refl }) refl refl,
        (
          put_more roomy (up ∷ []) up _ 98 (row_datagram up (rows 1 97) ∷ []) (record { of = up_of; none_left = refl; going = refl }) (record { few = lit< tt; small = lit< tt }) refl,
          (
            put_more roomy (up ∷ []) up _ 99 (row_datagram up (rows 2 98) ∷ []) (record { of = up_of; none_left = refl; going = refl }) (record { few = lit< tt; small = lit< tt }) refl,
            (
              finishes roomy (up ∷ []) up _ (row_datagram up (last 3 99) ∷ []) (record { of = up_of; none_left = refl; going = refl }) (record { few = lit< tt; small = lit< tt }) refl,
              (comes roomy (up ∷ []) up _ (answer_datagram up Disorder 3 3 (listing (1 ∷ 2 ∷ []))) (record { head = header_for up Disorder 8 3 3; body = listing (1 ∷ 2 ∷ []) }) (row_datagram up (rows 1 97) ∷ row_datagram up (rows 2 98) ∷ []) (record { of = up_of; none_left = refl; going = refl }) (record { reads = refl; back = refl; key = refl; directed = (refl, refl); fine = disorder_fine 3 3 3 (1 ∷ 2 ∷ []) (omega arith) (omega arith) (omega arith, (omega arith, tt)) (omega arith) }) refl, tt),
            ),
          ),
        ),
      ),
    )

pub stopped_forced : Forces (here roomy) stopped
unfolding key_eq packet_of read_header header_at len_fits flags_of word_at content_at written spelled times last_tick timing_of text
stopped_forced k run same =
    forced (here roomy) k run [] k stopped refl same (
      first_begins roomy (up ∷ []),
      (
        put_fits roomy (up ∷ []) up _ 97 [] (record { of = up_of; none_left = refl; going = refl }) refl refl,
        (
          put_more roomy (up ∷ []) up _ 98 (row_datagram up (rows 1 97) ∷ []) (record { of = up_of; none_left = refl; going = refl }) (record { few = lit< tt; small = lit< tt }) refl,
          (
            comes roomy (up ∷ []) up _ (answer_datagram up Stop 0 0 []) (record { head = header_for up Stop 0 0 0; body = [] }) [] (record { of = up_of; none_left = refl; going = refl }) (record { reads = refl; back = refl; key = refl; directed = (refl, refl); fine = λ stray. stray }) refl,
            (
              put_stopped (here roomy) _ up (text 99) (record { ends = up ∷ []; live = begin_live (up ∷ []) _ refl; stands = Contains-head up [] }) refl refl,
              (
                ticks roomy (up ∷ []) _ [] refl refl refl refl,
                (
                  ticks roomy (up ∷ []) _ [] refl refl refl refl,
                  (
                    ticks roomy (up ∷ []) _ [] refl refl refl refl,
                    (ticks roomy (up ∷ []) _ [] refl refl refl refl, tt),
                  ),
                ),
              ),
            ),
          ),
        ),
      ),
    )

pub both_due_forced : Forces (here roomy) both_due
unfolding key_eq packet_of read_header header_at len_fits flags_of word_at content_at written spelled times last_tick timing_of text
both_due_forced k run same =
    forced (here roomy) k run [] k both_due refl same (
      first_begins roomy (up ∷ across ∷ []),
      (
        put_fits roomy (up ∷ across ∷ []) across _ 98 [] (record { of = across_of; none_left = refl; going = refl }) refl refl,
        (
          finishes roomy (up ∷ across ∷ []) across _ (row_datagram across (last 1 98) ∷ []) (record { of = across_of; none_left = refl; going = refl }) (record { few = lit< tt; small = lit< tt }) refl,
          (
            put_fits roomy (up ∷ across ∷ []) up _ 97 [] (record { of = up_beside; none_left = refl; going = refl }) refl refl,
            (
              finishes roomy (up ∷ across ∷ []) up _ (row_datagram up (last 1 97) ∷ []) (record { of = up_beside; none_left = refl; going = refl }) (record { few = lit< tt; small = lit< tt }) refl,
              (
                ticks roomy (up ∷ across ∷ []) _ [] refl refl refl refl,
                (
                  ticks roomy (up ∷ across ∷ []) _ [] refl refl refl refl,
                  (
                    ticks roomy (up ∷ across ∷ []) _ [] refl refl refl refl,
                    (ticks roomy (up ∷ across ∷ []) _ (row_datagram up (last 1 97) ∷ row_datagram across (last 1 98) ∷ []) refl refl refl refl, tt),
                  ),
                ),
              ),
            ),
          ),
        ),
      ),
    )

pub asked_forced : Forces (here tight) asked
unfolding key_eq packet_of read_header header_at len_fits flags_of word_at content_at written spelled times last_tick timing_of text
asked_forced k run same =
    forced (here tight) k run [] k asked refl same (
      first_begins tight (up ∷ []),
      (
        put_fits tight (up ∷ []) up _ 97 [] (record { of = up_of; none_left = refl; going = refl }) refl refl,
        (
          put_more tight (up ∷ []) up _ 98 (row_datagram up (rows 1 97) ∷ []) (record { of = up_of; none_left = refl; going = refl }) (record { few = lit< tt; small = lit< tt }) refl,
          (
            finishes tight (up ∷ []) up _ [] (record { of = up_of; none_left = refl; going = refl }) (record { few = lit< tt; small = lit< tt }) refl,
            (
              comes tight (up ∷ []) up _ (answer_datagram up Ack 1 0 []) (record { head = header_for up Ack 0 1 0; body = [] }) [] (record { of = up_of; none_left = refl; going = refl }) (record { reads = refl; back = refl; key = refl; directed = (refl, refl); fine = ack_fine 1 1 0 (omega arith) (omega arith) }) refl,
              (
                comes tight (up ∷ []) up _ (answer_datagram up Ack 1 1 []) (record { head = header_for up Ack 0 1 1; body = [] }) (row_datagram up (last 2 98) ∷ []) (record { of = up_of; none_left = refl; going = refl }) (record { reads = refl; back = refl; key = refl; directed = (refl, refl); fine = ack_fine 1 1 1 (omega arith) (omega arith) }) refl,
                (
                  ticks tight (up ∷ []) _ [] refl refl refl refl,
                  (ticks tight (up ∷ []) _ (row_datagram up (last 2 98) ∷ query_datagram up 2 ∷ []) refl refl refl refl, tt),
                ),
              ),
            ),
          ),
        ),
      ),
    )
