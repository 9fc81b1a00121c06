-- An answer that lists numbers, once its bytes are put together.
use Rattle.std.proofs.Common.{◌≡◌, ℕ, ◌+◌, ◌*◌, List, ◌++◌, length, Result, Ok, Err, sym, ap, ◌∙◌, subst}
use Rattle.std.specs.Prelude.{IfOk}
use Rattle.ic_base.specs.declared.keys.ConnEnd.{ConnEnd}
use Rattle.ic_base.specs.declared.datagram.Datagram.{Datagram}
use Rattle.ic_header.specs.declared.header.Header.{Header}
use Rattle.ic_header.specs.declared.flags.Flags.{Flags}
use Rattle.ic_header.specs.Spelling.{AllowsBody, Heads, written}
use Rattle.ic_header.specs.Packets.{header_for, listing, IsAnswer}
use Rattle.ic_header.proofs.Words.{length-words}

listed_answer : (end : ConnEnd) (flags : Flags) (seq extra : ℕ) (numbers : List ℕ) (d : Datagram)
    → d ≡ record { from = end.key.to; to = end.key.from; bytes = written (header_for end flags (4 * length numbers) seq extra) ++ listing numbers }
    → Heads (header_for end flags (4 * length numbers) seq extra) (listing numbers) (written (header_for end flags (4 * length numbers) seq extra) ++ listing numbers)
    → IsAnswer end flags seq extra (listing numbers) d
listed_answer end flags seq extra numbers d is heads =
    let size : 4 * length numbers ≡ length (listing numbers) = sym (length-words numbers) in
    let now : d ≡ record { from = end.key.to; to = end.key.from; bytes = written (header_for end flags (length (listing numbers)) seq extra) ++ listing numbers } =
    is ∙ ap (λ n. record { from = end.key.to; to = end.key.from; bytes = written (header_for end flags n seq extra) ++ listing numbers }) size in
    record {
      is = now;
      spelled = subst (λ (e : Datagram). Heads (header_for end flags (length (listing numbers)) seq extra) (listing numbers) e.bytes) (sym now)
          (subst (λ n. Heads (header_for end flags n seq extra) (listing numbers) (written (header_for end flags n seq extra) ++ listing numbers)) size heads);
    }

pub answered : {E : Type 0} (end : ConnEnd) (flags : Flags) (seq extra : ℕ) (numbers body : List ℕ) (header : Header) (result : Result Datagram E)
    → header ≡ header_for end flags (4 * length numbers) seq extra → body ≡ listing numbers → AllowsBody flags (4 * length numbers)
    → IfOk result (λ d. d ≡ record { from = end.key.to; to = end.key.from; bytes = written header ++ body })
    → (header.len ≡ 64 + length body → AllowsBody header.flags (length body) → Heads header body (written header ++ body))
    → IfOk result (λ d. IsAnswer end flags seq extra (listing numbers) d)
answered end flags seq extra numbers body header (Err e) head are allowed made heads = made
answered end flags seq extra numbers body header (Ok d) head are allowed made heads =
    let size : 4 * length numbers ≡ length body = sym (ap length are ∙ length-words numbers) in
    let len : header.len ≡ 64 + length body = ap (λ (h : Header). h.len) head ∙ ap (λ n. 64 + n) size in
    let may : AllowsBody header.flags (length body) = subst (λ f. AllowsBody f (length body)) (sym (ap (λ (h : Header). h.flags) head)) (subst (AllowsBody flags) size allowed) in
    listed_answer end flags seq extra numbers d
    (made ∙ ap (λ h. record { from = end.key.to; to = end.key.from; bytes = written h ++ body }) head
    ∙ ap (λ l. record { from = end.key.to; to = end.key.from; bytes = written (header_for end flags (4 * length numbers) seq extra) ++ l }) are)
    (subst (λ l. Heads (header_for end flags (4 * length numbers) seq extra) l (written (header_for end flags (4 * length numbers) seq extra) ++ l)) are
    (subst (λ h. Heads h body (written h ++ body)) head (heads len may)))
