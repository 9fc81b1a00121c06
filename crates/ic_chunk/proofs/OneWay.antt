-- Payloads assemble in at most one way.
use Rattle.std.proofs.Common.{◌≡◌, ap, sym, ◌∙◌}
use Rattle.ic_chunk.specs.Reading.{Step, run, fresh}
use Rattle.ic_chunk.specs.Assembly.{together}
use Rattle.ic_chunk.specs.Laws.{OneAssembly}
use Rattle.ic_chunk.proofs.ReadingLemmas.{some_same}
use Rattle.ic_chunk.proofs.Completing.{completed}
use Rattle.ic_chunk.proofs.Parsing.{front-chunks, one_parting}

pub one_assembly : OneAssembly
one_assembly payloads rows others rest other_rest ended other_ended a b =
    let ha = front-chunks (together a.chunks) rows rest ended a.front in
    let hb = front-chunks (together b.chunks) others other_rest other_ended b.front in
    let same : a.chunks ≡ b.chunks = one_parting a.chunks b.chunks ha hb (sym a.are ∙ b.are) in
    let steps : (rows, record { rest = rest; ended = ended }) ≡ (others, record { rest = other_rest; ended = other_ended }) =
    some_same (rows, record { rest = rest; ended = ended }) (others, record { rest = other_rest; ended = other_ended })
    (sym (completed (together a.chunks) rows rest ended a.front) ∙ ap (λ l. run fresh (together l)) same ∙ completed (together b.chunks) others other_rest other_ended b.front) in
    (ap (λ (s : Step). s.0) steps, ap (λ (s : Step). s.1.rest) steps, ap (λ (s : Step). s.1.ended) steps)
