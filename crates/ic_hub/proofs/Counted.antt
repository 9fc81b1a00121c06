-- What the counts of a hub tell of its history.
use Rattle.std.proofs.Common.{◌≡◌, ℕ, List, Bool, true, false, Option, Some, None, ap, sym, ◌∙◌, subst, slice_get, slice_index_or}
use Rattle.std.proofs.lemmas.Option.{slice_get_within}
use Rattle.std.specs.List.{Contains}
use Rattle.ic_base.specs.declared.keys.ConnKey.{ConnKey}
use Rattle.ic_base.specs.declared.keys.ConnEnd.{ConnEnd}
use Rattle.ic_law.specs.declared.history.Entry.{Entry}
use Rattle.ic_law.specs.Points.{IsLive, IsHere}
use Rattle.ic_hub.specs.declared.counts.Counts.{Counts}
use Rattle.ic_hub.specs.Hubbing.{Hubbing, Living}
use Rattle.ic_hub.specs.Finding.{HasNo}
use Rattle.ic_hub.specs.Standing.{Stands}
use Rattle.ic_hub.specs.Counting.{AreCountsSent, AreCountsTaken, HasSide, TellsCounts, CountsSender, CountsReceiver, CountsFound}
use Rattle.ic_hub.proofs.Places.{Shaped, end_of_sender, end_of_receiver}
use Rattle.ic_hub.proofs.Moving.{unknown_key}
use Rattle.ic_hub.proofs.Leaving.{live_there}
use Rattle.ic_hub.proofs.Putting.{at_index}

-- the end of a connection of a live query is here
end_here : (s : Hubbing) (h : List Entry) (query : ℕ) (l : Living) (end : ConnEnd) (key : ConnKey) → Stands s h → slice_get s.live query ≡ Some l → l.number ≡ key.query → end.key ≡ key → Contains l.ends end → IsHere end h
end_here s h query l end key stands live number is has =
    record {
      ends = l.ends;
      live = subst (λ (k : ConnKey). IsLive k.query l.ends h) (sym is) (live_there s h key.query query l stands live number);
      stands = has;
    }

sent_tells : (s : Hubbing) (h : List Entry) (key : ConnKey) (n : Counts) → Shaped s → Stands s h → CountsSender s key n → TellsCounts true key h (Some n)
sent_tells s h key n shaped stands x =
    let found = x.sender in
    let o = found.sender in
    let its = end_of_sender found.living x.place o (shaped.living x.query found.living found.live) found.here in (
      record { end = o.sending.end; key = found.is; side = its.side_is; here = end_here s h x.query found.living o.sending.end key stands found.live found.number found.is its.has },
      subst (λ k. AreCountsSent k h n) found.is (x.count.tells h ((stands.each x.query found.living found.live).senders x.place o found.here)),
    )

taken_tells : (s : Hubbing) (h : List Entry) (key : ConnKey) (n : Counts) → Shaped s → Stands s h → CountsReceiver s key n → TellsCounts false key h (Some n)
taken_tells s h key n shaped stands x =
    let found = x.receiver in
    let r = found.receiver in
    let its = end_of_receiver found.living x.place r (shaped.living x.query found.living found.live) found.here in (
      record { end = r.end; key = found.is; side = its.side_is; here = end_here s h x.query found.living r.end key stands found.live found.number found.is its.has },
      subst (λ k. AreCountsTaken k h n) found.is (x.count.tells s.settings h ((stands.each x.query found.living found.live).receivers x.place r found.here)),
    )

none_tells : (sending : Bool) (s : Hubbing) (h : List Entry) (key : ConnKey) → Stands s h → HasNo sending s key → HasSide sending key h → ⊥
none_tells sending s h key stands none side = unknown_key sending s key h none stands side.end side.here side.key side.side

-- the counts tell what the history says of the connection
pub counts_tell : (sending : Bool) (s : Hubbing) (h : List Entry) (key : ConnKey) (result : Option Counts) → Shaped s → Stands s h → CountsFound sending s key result → TellsCounts sending key h result
counts_tell true s h key (Some n) shaped stands found = sent_tells s h key n shaped stands found
counts_tell false s h key (Some n) shaped stands found = taken_tells s h key n shaped stands found
counts_tell true s h key None shaped stands found = none_tells true s h key stands found
counts_tell false s h key None shaped stands found = none_tells false s h key stands found

-- the query that is looked at is the one that was found
pub looked_at : (live items : List Living) (query : ℕ) (l x : Living) → live ≡ items → slice_get live query ≡ Some l → x ≡ slice_index_or items query x → l ≡ x
looked_at live items query l x same found is =
    let here = at_index live query x (slice_get_within live query l found) (is ∙ ap (λ xs. slice_index_or xs query x) (sym same)) in
    let both : Some l ≡ Some x = sym found ∙ here in
    cc
