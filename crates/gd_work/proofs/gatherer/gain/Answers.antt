use Rattle.std.proofs.Common.{◌≡◌, ℕ, ◌<◌, ◌∷◌, [], ◌++◌, List, refl, sym, ap, ◌∙◌, subst, arith, length, slice_index_or}
use Rattle.std.proofs.lemmas.List.{get_or_read_under}
use Rattle.ic_chunk.specs.Joining.{Held, Stands}
use Rattle.ic_chunk.specs.Assembly.{IsStream}
use Rattle.gd_work.specs.Taking.{place_of, sender_at}
use Rattle.gd_work.proofs.gatherer.gain.Goals as goal

pub returns-in-Err-ChunkFault-clause-gains : goal.returns-in-Err-ChunkFault-clause-gains
returns-in-Err-ChunkFault-clause-gains c =
    let joiners = c.args.joiners.now.items in
    let place = place_of c.args.parcel.now.from in
    let within : place < length joiners = omega (arith, c.place_of.ensures.below, c.place_of.ensures.value, c.requires.many) in
    let sender : c.args.parcel.now.from ≡ sender_at place = c.place_of.ensures.sender ∙ ap sender_at c.place_of.ensures.value in
    let joiner = c.index_mut-joiner.result.now in
    let read : joiner ≡ slice_index_or joiners place joiner = c.index_mut-joiner.ensures.value ∙ ap (λ i. slice_index_or joiners i joiner) c.place_of.ensures.value in (
      (sender, within),
      refl,
      refl,
      λ d payloads rows h stream.
          let is : joiner ≡ slice_index_or joiners place d = get_or_read_under joiners place (length joiners) joiner d read within refl in
          (c.in-Err-ChunkFault.ensures.fault c.in-Err-ChunkFault.field-0-0 (cc) payloads rows (subst (λ (x : Held). Stands x payloads rows) (sym is) h)).0
          (subst (λ b. IsStream (payloads ++ b ∷ [])) (sym c.as_slice.ensures) stream),
    )
