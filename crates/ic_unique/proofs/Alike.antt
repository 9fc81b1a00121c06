-- What is emitted on a connection hangs on what an entry puts, hears and ticks, and not on the datagrams of its reply.
use Rattle.std.proofs.Common.{◌≡◌, ◌+◌, List, [], ◌∷◌, ◌++◌, ◌||◌, refl, ap, sym, ◌∙◌}
use Rattle.ic_base.specs.declared.keys.ConnKey.{ConnKey}
use Rattle.ic_base.specs.declared.settings.Settings.{Settings}
use Rattle.ic_law.specs.declared.history.Entry.{Entry}
use Rattle.ic_law.specs.Putting.{puts, chunks_put_of, finishes, finished_of}
use Rattle.ic_law.specs.Hearing.{hears, heard_of}
use Rattle.ic_header.specs.Packets.{Packet}
use Rattle.ic_law.specs.Clock.{ticks_by, ticks_of}
use Rattle.ic_law.specs.Timers.{Timing}
use Rattle.ic_law.specs.Timing.{timing_of, heard_then}
use Rattle.ic_law.specs.Emitting.{listed_then, rows_then, queries_then}
use Rattle.ic_law.proofs.Readings.{chunks_put_of-push, finished_of-push, heard_of-push}
use Rattle.ic_law.proofs.Timings.{ticks_of-push}

pub record Alike (c : ConnKey) (a b : Entry) : Type 0 where
  pub puts_same : puts c a ≡ puts c b
  pub finishes_same : finishes c a ≡ finishes c b
  pub hears_same : hears c a ≡ hears c b
  pub ticks_same : ticks_by a.reply ≡ ticks_by b.reply

pub heard_same : (c : ConnKey) (h : List Entry) (a b : Entry) → Alike c a b → heard_of c (h ++ a ∷ []) ≡ heard_of c (h ++ b ∷ [])
heard_same c h a b same = heard_of-push c h a ∙ ap (λ l. heard_of c h ++ l) same.hears_same ∙ sym (heard_of-push c h b)

pub chunks_same : (c : ConnKey) (h : List Entry) (a b : Entry) → Alike c a b → chunks_put_of c (h ++ a ∷ []) ≡ chunks_put_of c (h ++ b ∷ [])
chunks_same c h a b same = chunks_put_of-push c h a ∙ ap (λ l. chunks_put_of c h ++ l) same.puts_same ∙ sym (chunks_put_of-push c h b)

pub finished_same : (c : ConnKey) (h : List Entry) (a b : Entry) → Alike c a b → finished_of c (h ++ a ∷ []) ≡ finished_of c (h ++ b ∷ [])
finished_same c h a b same = finished_of-push c h a ∙ ap (λ x. finished_of c h || x) same.finishes_same ∙ sym (finished_of-push c h b)

ticks_same : (c : ConnKey) (h : List Entry) (a b : Entry) → Alike c a b → ticks_of (h ++ a ∷ []) ≡ ticks_of (h ++ b ∷ [])
ticks_same c h a b same = ticks_of-push h a ∙ ap (λ n. ticks_of h + n) same.ticks_same ∙ sym (ticks_of-push h b)

listed_same : (c : ConnKey) (h : List Entry) (a b : Entry) (t : Timing) (ps : List Packet) → Alike c a b → listed_then c (h ++ a ∷ []) t ps ≡ listed_then c (h ++ b ∷ []) t ps
listed_same c h a b t [] same = refl
listed_same c h a b t (p ∷ ps) same = let eh = heard_same c h a b same in rw (eh) refl

moved_same : (c : ConnKey) (h : List Entry) (a b : Entry) (t : Timing) (ps : List Packet) → Alike c a b → heard_then c h (h ++ a ∷ []) t ps ≡ heard_then c h (h ++ b ∷ []) t ps
moved_same c h a b t [] same = refl
moved_same c h a b t (p ∷ ps) same =
    let eh = heard_same c h a b same in
    let et = ticks_same c h a b same in
    rw (eh, et) refl

pub rows_alike : (c : ConnKey) (settings : Settings) (h : List Entry) (a b : Entry) → Alike c a b → rows_then c settings h a ≡ rows_then c settings h b
rows_alike c settings h a b same =
    let eh = heard_same c h a b same in
    let ec = chunks_same c h a b same in
    let ef = finished_same c h a b same in
    let et = ticks_same c h a b same in
    let hs = same.hears_same in
    let ts = same.ticks_same in
    let el = listed_same c h a b (timing_of c settings h) (hears c b) same in
    let em = moved_same c h a b (timing_of c settings h) (hears c b) same in
    rw (eh, ec, ef, et, hs, ts, el, em) refl

pub queries_alike : (c : ConnKey) (settings : Settings) (h : List Entry) (a b : Entry) → Alike c a b → queries_then c settings h a ≡ queries_then c settings h b
queries_alike c settings h a b same =
    let et = ticks_same c h a b same in
    let ts = same.ticks_same in
    rw (et, ts) refl
