-- Reading gives a fault exactly if it is the first.
use Rattle.std.proofs.Common.{◌≡◌, ℕ, ◌-◌, ◌≤◌, List, length, drop, true, false, cond, ◌==◌, eq-eqb, Option, Some, None, Result, Ok, Err, refl, sym, ap, ◌∙◌, ◌↔◌, inl, inr}
use Rattle.std.proofs.lemmas.Bool.{cases_Bool, cases_lt, lt-ltb, le-ltb, eqb-true, eqb-false, and_parts, and_from, both_ways, cond-true, cond-false, false_from_ne_true, ne_eqb}
use Rattle.ic_header.specs.declared.header.Header.{Header}
use Rattle.ic_header.specs.declared.flags.Flags.{Flags}
use Rattle.ic_header.specs.declared.fault.HeaderFault.{HeaderFault}
use Rattle.ic_header.specs.declared.fault.HeaderFault.TheVariants as fault
use Rattle.ic_header.specs.Spelling.{AllowsBody, flags_word}
use Rattle.ic_header.specs.Reading.{allows_body, flags_of, header_at, len_fits, read_header, read_with, word_at}
use Rattle.ic_header.specs.Faults.{IsCrcFault, IsFlagsFault, IsLenFault, IsShort}
use Rattle.ic_header.proofs.FlagWords.{allows_body-from, allows_body-true, flags_of-flags_word, flags_of-none, flags_of-some, names_none}

-- the bytes have no fault, and are of this kind
pub record IsFine (bytes : List ℕ) (kind : Flags) : Type 0 where
  pub long : 64 ≤ length bytes
  pub crc : word_at bytes 11 ≡ 0
  pub flags : word_at bytes 12 ≡ flags_word kind
  pub len : word_at bytes 13 ≡ length bytes
  pub allowed : AllowsBody kind (length bytes - 64)

-- ---- what reading gives in each case

pub reads_short : (bytes : List ℕ) → IsShort bytes → read_header bytes ≡ Err fault.Short
unfolding read_header
reads_short bytes h = cond-true _ _ _ (lt-ltb (length bytes) 64 h)

reads_long : (bytes : List ℕ) → 64 ≤ length bytes → read_header bytes ≡ cond (word_at bytes 11 == 0) (read_with bytes (flags_of (word_at bytes 12))) (Err fault.Crc)
unfolding read_header
reads_long bytes long = cond-false _ _ _ (le-ltb (length bytes) 64 long)

reads_crc : (bytes : List ℕ) → 64 ≤ length bytes → (word_at bytes 11 == 0) ≡ false → read_header bytes ≡ Err fault.Crc
reads_crc bytes long h = reads_long bytes long ∙ cond-false _ _ _ h

reads_on : (bytes : List ℕ) → 64 ≤ length bytes → word_at bytes 11 ≡ 0 → read_header bytes ≡ read_with bytes (flags_of (word_at bytes 12))
reads_on bytes long crc = reads_long bytes long ∙ cond-true _ _ _ (eq-eqb (word_at bytes 11) 0 crc)

pub reads_kind : (bytes : List ℕ) (kind : Flags) → 64 ≤ length bytes → word_at bytes 11 ≡ 0 → flags_of (word_at bytes 12) ≡ Some kind
    → read_header bytes ≡ cond (len_fits bytes kind) (Ok (header_at bytes kind, drop 64 bytes)) (Err fault.Len)
reads_kind bytes kind long crc is = reads_on bytes long crc ∙ ap (read_with bytes) is

-- ---- each list of bytes has one verdict

pub data Verdict (bytes : List ℕ) : Type 0 where
  Shorts : IsShort bytes → read_header bytes ≡ Err fault.Short → Verdict bytes
  Sums : IsCrcFault bytes → read_header bytes ≡ Err fault.Crc → Verdict bytes
  Unknown : IsFlagsFault bytes → read_header bytes ≡ Err fault.Flags → Verdict bytes
  Misfits : IsLenFault bytes → read_header bytes ≡ Err fault.Len → Verdict bytes
  Reads : (kind : Flags) → IsFine bytes kind → read_header bytes ≡ Ok (header_at bytes kind, drop 64 bytes) → Verdict bytes

len_fits-true : (bytes : List ℕ) (kind : Flags) → len_fits bytes kind ≡ true → (word_at bytes 13 ≡ length bytes) × AllowsBody kind (length bytes - 64)
unfolding len_fits
len_fits-true bytes kind h =
    let parts = and_parts (word_at bytes 13 == length bytes) (allows_body kind (length bytes - 64)) h in
    (eqb-true (word_at bytes 13) (length bytes) parts.0, allows_body-true kind (length bytes - 64) parts.1)

pub len_fits-from : (bytes : List ℕ) (kind : Flags) → word_at bytes 13 ≡ length bytes → AllowsBody kind (length bytes - 64) → len_fits bytes kind ≡ true
unfolding len_fits
len_fits-from bytes kind len allowed = and_from _ _ (eq-eqb (word_at bytes 13) (length bytes) len) (allows_body-from kind (length bytes - 64) allowed)

len_fits-false : (bytes : List ℕ) → (h : IsLenFault bytes) → len_fits bytes h.kind ≡ false
len_fits-false bytes h =
    false_from_ne_true (len_fits bytes h.kind) (λ same. let fits = len_fits-true bytes h.kind same in h.len fits.0 fits.1)

by_kind : (bytes : List ℕ) → 64 ≤ length bytes → word_at bytes 11 ≡ 0 → (found : Option Flags) → flags_of (word_at bytes 12) ≡ found → Verdict bytes
by_kind bytes long crc None is =
    Unknown (record { long = long; crc = crc; flags = flags_of-none (word_at bytes 12) is }) (reads_on bytes long crc ∙ ap (read_with bytes) is)
by_kind bytes long crc (Some kind) is =
    let flags = flags_of-some (word_at bytes 12) kind is in
    elim (cases_Bool (len_fits bytes kind)) [
      | inl same ↦
          let fits = len_fits-true bytes kind same in
          Reads kind (record { long = long; crc = crc; flags = flags; len = fits.0; allowed = fits.1 }) (reads_kind bytes kind long crc is ∙ cond-true _ _ _ same)
      | inr other ↦
          Misfits (record { long = long; crc = crc; kind = kind; flags = flags; len = λ len allowed. both_ways (len_fits bytes kind) other (len_fits-from bytes kind len allowed) })
          (reads_kind bytes kind long crc is ∙ cond-false _ _ _ other)
    ]

by_crc : (bytes : List ℕ) → 64 ≤ length bytes → Verdict bytes
by_crc bytes long =
    elim (cases_Bool (word_at bytes 11 == 0)) [
      | inl same ↦ by_kind bytes long (eqb-true (word_at bytes 11) 0 same) (flags_of (word_at bytes 12)) refl
      | inr other ↦ Sums (record { long = long; crc = eqb-false (word_at bytes 11) 0 other }) (reads_crc bytes long other)
    ]

pub verdict : (bytes : List ℕ) → Verdict bytes
verdict bytes =
    elim (cases_lt (length bytes) 64) [
      | inl short ↦ Shorts short (reads_short bytes short)
      | inr long ↦ by_crc bytes long
    ]

-- ---- and so each fault comes exactly if the bytes have it

clash : {A : Type 0} (bytes : List ℕ) (a b : Result (Header × List ℕ) HeaderFault) → read_header bytes ≡ a → read_header bytes ≡ b → (a ≡ b → ⊥) → A
clash bytes a b e f apart = absurd (apart (sym e ∙ f))

pub short_where : (bytes : List ℕ) → (read_header bytes ≡ Err fault.Short) ↔ IsShort bytes
short_where bytes = (
  λ e. elim (verdict bytes) [
    | Shorts h _ ↦ h
    | Sums _ f ↦ clash bytes _ _ e f (λ x. cc)
    | Unknown _ f ↦ clash bytes _ _ e f (λ x. cc)
    | Misfits _ f ↦ clash bytes _ _ e f (λ x. cc)
    | Reads _ _ f ↦ clash bytes _ _ e f (λ x. cc)
  ],
  reads_short bytes,
)

pub crc_where : (bytes : List ℕ) → (read_header bytes ≡ Err fault.Crc) ↔ IsCrcFault bytes
crc_where bytes = (
  λ e. elim (verdict bytes) [
    | Shorts _ f ↦ clash bytes _ _ e f (λ x. cc)
    | Sums h _ ↦ h
    | Unknown _ f ↦ clash bytes _ _ e f (λ x. cc)
    | Misfits _ f ↦ clash bytes _ _ e f (λ x. cc)
    | Reads _ _ f ↦ clash bytes _ _ e f (λ x. cc)
  ],
  λ h. reads_crc bytes h.long (ne_eqb (word_at bytes 11) 0 h.crc),
)

pub flags_where : (bytes : List ℕ) → (read_header bytes ≡ Err fault.Flags) ↔ IsFlagsFault bytes
flags_where bytes = (
  λ e. elim (verdict bytes) [
    | Shorts _ f ↦ clash bytes _ _ e f (λ x. cc)
    | Sums _ f ↦ clash bytes _ _ e f (λ x. cc)
    | Unknown h _ ↦ h
    | Misfits _ f ↦ clash bytes _ _ e f (λ x. cc)
    | Reads _ _ f ↦ clash bytes _ _ e f (λ x. cc)
  ],
  λ h. reads_on bytes h.long h.crc ∙ ap (read_with bytes) (names_none (word_at bytes 12) h.flags),
)

pub len_where : (bytes : List ℕ) → (read_header bytes ≡ Err fault.Len) ↔ IsLenFault bytes
len_where bytes = (
  λ e. elim (verdict bytes) [
    | Shorts _ f ↦ clash bytes _ _ e f (λ x. cc)
    | Sums _ f ↦ clash bytes _ _ e f (λ x. cc)
    | Unknown _ f ↦ clash bytes _ _ e f (λ x. cc)
    | Misfits h _ ↦ h
    | Reads _ _ f ↦ clash bytes _ _ e f (λ x. cc)
  ],
  λ h. reads_kind bytes h.kind h.long h.crc (ap flags_of h.flags ∙ flags_of-flags_word h.kind) ∙ cond-false _ _ _ (len_fits-false bytes h),
)
