use Rattle.std.proofs.Common.{◌≡◌, ◌↔◌, ◌∙◌, ℕ, List, Result, Ok, Err, sym, arith}
use Rattle.std.specs.Borrow.{Bor}
use Rattle.std.specs.Prelude.{IfOk}
use Rattle.ic_header.specs.declared.header.Header.{Header}
use Rattle.ic_header.specs.declared.fault.HeaderFault.{HeaderFault}
use Rattle.ic_header.specs.Spelling.{Heads}
use Rattle.ic_header.specs.Reading.{read_header, seen}
use Rattle.ic_header.proofs.Words.{IsBytes}
use Rattle.ic_header.proofs.Joining.{ok_where, spelled_read}
use Rattle.ic_header.proofs.Judging.{crc_where, flags_where, len_where, short_where}
use Rattle.ic_header.proofs.reading.read.Goals as goal

-- the returned fault, as a plain value
faults : {P : Type 0} (bytes : List ℕ) (result : Result (Header × Bor (List ℕ)) HeaderFault) (e : HeaderFault)
    → seen result ≡ read_header bytes → (read_header bytes ≡ Err e) ↔ P → (result ≡ Err e) ↔ P
faults bytes (Ok r) e given iff = (λ h. absurd cc, λ p. let two = given ∙ iff.1 p in absurd cc)
faults bytes (Err d) e given iff = (λ h. iff.0 (sym given ∙ cc), λ p. let two = given ∙ iff.1 p in cc)

found : (bytes : List ℕ) (result : Result (Header × Bor (List ℕ)) HeaderFault) → IsBytes bytes → seen result ≡ read_header bytes → IfOk result (λ r. Heads r.0 r.1.now bytes)
found bytes (Ok r) fits given = spelled_read bytes r.0 r.1.now fits (sym given)
found bytes (Err e) fits given = tt

pub returns-clause-ok : goal.returns-clause-ok
returns-clause-ok c = λ h body.
    let where_ = ok_where c.args.bytes.now (λ i. omega (arith, c.type_inv.bytes i)) h body in
    (λ e. where_.0 (sym c.judged.ensures ∙ e), λ p. c.judged.ensures ∙ where_.1 p)

pub returns-clause-heads : goal.returns-clause-heads
returns-clause-heads c = found c.args.bytes.now c.judged.result (λ i. omega (arith, c.type_inv.bytes i)) c.judged.ensures

pub returns-clause-short : goal.returns-clause-short
returns-clause-short c = faults c.args.bytes.now c.judged.result _ c.judged.ensures (short_where c.args.bytes.now)

pub returns-clause-crc : goal.returns-clause-crc
returns-clause-crc c = faults c.args.bytes.now c.judged.result _ c.judged.ensures (crc_where c.args.bytes.now)

pub returns-clause-flags : goal.returns-clause-flags
returns-clause-flags c = faults c.args.bytes.now c.judged.result _ c.judged.ensures (flags_where c.args.bytes.now)

pub returns-clause-len : goal.returns-clause-len
returns-clause-len c = faults c.args.bytes.now c.judged.result _ c.judged.ensures (len_where c.args.bytes.now)
