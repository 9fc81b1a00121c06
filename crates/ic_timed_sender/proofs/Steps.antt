-- What an event leaves of a connection and its queue.
use Rattle.std.proofs.Common.{◌≡◌, ℕ, ◌+◌, List, [], ◌∷◌, ◌++◌, map, Bool, true, false, ◌||◌, refl, ap, sym, ◌∙◌, subst, inl, inr}
use Rattle.std.specs.List.{Contains}
use Rattle.ic_base.specs.declared.keys.ConnEnd.{ConnEnd}
use Rattle.ic_base.specs.declared.settings.Settings.{Settings}
use Rattle.ic_expire.specs.declared.item.Item.{Item}
use Rattle.ic_expire.specs.Queue.{Queue}
use Rattle.ic_law.specs.declared.history.Entry.{Entry}
use Rattle.ic_header.specs.Packets.{RowPacket}
use Rattle.ic_law.specs.Putting.{chunks_put_of, finishes, finished_of}
use Rattle.ic_law.specs.Clock.{ticks_by}
use Rattle.ic_law.specs.Timers.{wait_in}
use Rattle.ic_law.proofs.Readings.{finished_of-push}
use Rattle.ic_sender.specs.Sending.{Sending, emitting, waits_next, rows_next}
use Rattle.ic_sender.specs.Standing.{Stands as StandsFor}
use Rattle.ic_sender.proofs.Emitting.{waiting_is}
use Rattle.ic_sender.proofs.Passing.{clock_stays}
use Rattle.ic_timed_sender.specs.Timed.{TimedState, queue_of}
use Rattle.ic_chunk.specs.Counts.{HasCounted}
use Rattle.ic_timed_sender.specs.Standing.{Stands, HasResent, IsSound}
use Rattle.ic_timed_sender.proofs.Counting.{EndsRows, SendsRows, rows_after, resent_after}

abbrev pub state : Sending → List Item → (now rows : ℕ) → TimedState
state s held now rows = record { sending = s; held = held; now = now; rows = rows }

-- one connection, and a queue of its own
pub record Leaves (s : Sending) (q : Queue) (after : Sending) (left : Queue) : Type 0 where
  pub end : after.end ≡ s.end
  pub conn : after.conn ≡ s.conn
  pub settings : after.settings ≡ s.settings
  pub asked : left.asked ≡ q.asked
  pub room : left.room ≡ q.room
  pub own : (y : Item) → Contains left.held y → y.conn ≡ s.conn
  pub still : after.stopped ≡ true → left.held ≡ []

pub leaves_same : (s : Sending) (q : Queue) (now rows : ℕ) (after : Sending) (left : Queue) → IsSound s q now rows → after ≡ s → left ≡ q → Leaves s q after left
leaves_same s q now rows after left sound one two =
    subst (λ (x : Sending). Leaves s q x left) (sym one)
    (subst (λ (x : Queue). Leaves s q s x) (sym two) (record { end = refl; conn = refl; settings = refl; asked = refl; room = refl; own = sound.own; still = sound.still }))

-- an event makes m of a connection that isn't stopped, and what there is room for goes out
pub leaves_emitting : (s m : Sending) (q : Queue) (held : List Item) (now : ℕ) (after : Sending) (left : Queue) → m.end ≡ s.end → m.conn ≡ s.conn → m.settings ≡ s.settings → m.stopped ≡ false
    → ((y : Item) → Contains held y → y.conn ≡ s.conn) → after ≡ emitting now m → left ≡ record q { held = waits_next now m held } → Leaves s q after left
leaves_emitting s m q held now after left end conn settings on own one two =
    subst (λ (x : Sending). Leaves s q x left) (sym one)
    (subst (λ (x : Queue). Leaves s q (emitting now m) x) (sym two) (record {
      end = end;
      conn = conn;
      settings = settings;
      asked = refl;
      room = refl;
      own = λ y at. elim (waiting_is m.conn (now + wait_in m.window 0) (map (λ (p : RowPacket). p.seq) (rows_next m)) held y at) [
        | inl before ↦ own y before
        | inr new ↦ ap (λ (x : Item). x.conn) new.2 ∙ conn
      ];
      still = λ off. absurd (let bad : true ≡ false = sym off ∙ on in cc);
    }))

pub sound_after : (s : Sending) (q : Queue) (now rows more : ℕ) (after : Sending) (left : Queue) (h : List Entry) → IsSound s q now rows → Leaves s q after left → Stands (state after left.held now more) h → IsSound after left now more
sound_after s q now rows more after left h sound leaves stands = record {
  conn = leaves.conn ∙ sound.conn;
  asked = leaves.asked ∙ sound.asked;
  last = sound.last;
  room = leaves.room ∙ sound.room ∙ ap (λ (x : Settings). x.send_depth) (sym leaves.settings);
  own = λ y at. leaves.own y at ∙ sym leaves.conn;
  still = leaves.still;
  history = h;
  stands = stands;
}

-- an entry that isn't a tick leaves the clock
pub stands_by : (s after : Sending) (held left : List Item) (now rows more : ℕ) (h : List Entry) (e : Entry) → ticks_by e.reply ≡ 0 → after.end ≡ s.end → (s.finished || finishes s.end.key e) ≡ after.finished → StandsFor after left (h ++ e ∷ [])
    → EndsRows s.end.key rows more e → SendsRows s after e → Stands (state s held now rows) h → Stands (state after left now more) (h ++ e ∷ [])
stands_by s after held left now rows more h e still end finished sends ends rows_out old = record {
  clock = clock_stays h e still ∙ old.clock;
  finished = ap (λ (x : ConnEnd). finished_of x.key (h ++ e ∷ [])) end ∙ finished_of-push s.end.key h e ∙ ap (λ b. b || finishes s.end.key e) old.finished ∙ finished;
  sends = sends;
  rows = subst (λ (x : ConnEnd). HasCounted (chunks_put_of x.key (h ++ e ∷ [])) more) (sym end) (rows_after s.end.key rows more h e ends old.rows);
  resent = subst (λ (x : ConnEnd). HasResent x.key (h ++ e ∷ []) after.sent after.resent) (sym end) (resent_after s after h e rows_out old.resent);
}

pub or_none : (b x : Bool) → x ≡ false → (b || x) ≡ b
or_none true x h = refl
or_none false x h = h

-- the queue is what is seen of it
pub queue_is : (s : Sending) (q : Queue) (now rows : ℕ) → IsSound s q now rows → q ≡ queue_of (state s q.held now rows)
queue_is s q now rows sound = ap (λ (n : ℕ). record { held = q.held; asked = n; room = q.room }) sound.asked ∙ ap (λ (n : ℕ). record { held = q.held; asked = now; room = n }) sound.room
