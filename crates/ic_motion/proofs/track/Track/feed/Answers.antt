use Rattle.std.proofs.Common.{[], ◌∷◌, ◌++◌, ◌||◌, refl, ap, sym, ◌∙◌, subst}
use Rattle.std.specs.List.{list_all}
use Rattle.ic_chunk.specs.Assembly.{IsStream}
use Rattle.ic_chunk.specs.Joining.{Held, Stands}
use Rattle.ic_motion.specs.Hearing.{Lane}
use Rattle.ic_motion.specs.Feeding.{has_kinds, Fills, no_stream}
use Rattle.ic_motion.proofs.Fed.{marks_differ, marks_same, spoils_mark, spoils_kinds, filled}
use Rattle.ic_motion.proofs.track.Track.feed.Goals as goal

pub returns-then-fed-parcel : goal.returns-then-fed-parcel
returns-then-fed-parcel c = (
  c.key_from.ensures,
  spoils_mark c.args.kinds.now c.args.self.now c.self.inside.joiner c.feed.new.self c.args.parcel.now c.as_slice.result.now c.in-Ok.fed.rows (ap (λ (l : Lane). l.stream) (sym c.self.view_is)) c.as_slice.ensures c.in-Ok.ensures.ok
      (λ e. marks_differ c.in-Ok.fed.ended c.args.parcel.now.last c.if-fed-parcel.true (sym c.in-Ok.ensures.ended ∙ e)),
)

pub returns-then-not-rows_have : goal.returns-then-not-rows_have
returns-then-not-rows_have c = (
  c.key_from-then-not-rows_have.ensures,
  spoils_kinds c.args.kinds.now c.args.self.now c.self.inside.joiner c.feed.new.self c.args.parcel.now c.as_slice.result.now c.in-Ok.fed.rows (ap (λ (l : Lane). l.stream) (sym c.self.view_is)) c.as_slice.ensures c.in-Ok.ensures.ok
      (ap (list_all (has_kinds c.args.kinds.now)) (sym c.as_slice-in-Ok.ensures) ∙ sym c.rows_have.ensures ∙ c.if-not-rows_have.true),
)

pub returns-else-not-rows_have : goal.returns-else-not-rows_have
returns-else-not-rows_have c =
    let old : Lane = record { sender = c.self.inside.sender; stream = c.self.inside.joiner; rows = c.self.inside.held.items; over = c.self.inside.over; halted = c.self.inside.halted } in
    let new : Lane = record { sender = c.self.inside.sender; stream = c.feed.new.self; rows = c.append.new.held.items; over = c.either-self-inside.result; halted = c.self.inside.halted } in
    let same = marks_same c.in-Ok.fed.ended c.args.parcel.now.last c.if-fed-parcel.false in
    subst (λ o. Fills c.args.end.now c.args.kinds.now o new c.args.parcel.now c.append.result) c.self.view_is
    (filled c.args.end.now c.args.kinds.now old new c.self.inside.joiner c.args.parcel.now c.as_slice.result.now c.in-Ok.fed.rows c.either-self-inside.result c.append.result refl c.as_slice.ensures c.in-Ok.ensures.ok
    (c.in-Ok.ensures.ended ∙ same) (ap (list_all (has_kinds c.args.kinds.now)) (sym c.as_slice-in-Ok.ensures) ∙ sym c.rows_have.ensures ∙ c.if-not-rows_have.false)
    (c.either-self-inside.ensures ∙ ap (λ b. c.self.inside.over || b) same) refl c.append.ensures.ok c.append.ensures.err)

pub returns-in-Err-ChunkFault : goal.returns-in-Err-ChunkFault
returns-in-Err-ChunkFault c = (
  c.key_from-in-Err-ChunkFault.ensures,
  λ payloads rows st.
      no_stream (λ stream. (c.in-Err-ChunkFault.ensures.fault c.in-Err-ChunkFault.field-0-0 (cc) payloads rows (subst (λ (x : Held). Stands x payloads rows) (ap (λ (l : Lane). l.stream) (sym c.self.view_is)) st)).0
      (subst (λ b. IsStream (payloads ++ b ∷ [])) (sym c.as_slice.ensures) stream)),
)
