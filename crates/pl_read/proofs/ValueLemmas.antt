-- The value of bytes, by what serde_json says.
use Rattle.std.proofs.Common.{◌≡◌, ℕ, List, Bool, true, false, cond, Option, Some, None, Err, refl, sym, ap, ◌∙◌}
use Rattle.std.specs.Str.{IsUtf8, is_utf8}
use Rattle.std.proofs.lemmas.Str.{IsUtf8-from_is_utf8, is_utf8-from_IsUtf8}
use Rattle.serde_json.specs.Data.{Data}
use Rattle.serde_json.specs.Read.{read}
use Rattle.pl_read.specs.declared.fault.DocFault.{DocFault}
use Rattle.pl_read.specs.declared.fault.DocNo.{DocNo}
use Rattle.pl_read.specs.declared.fault.DocNo.TheVariants as answer
use Rattle.pl_read.specs.Faults.{Tells, Fails}
use Rattle.pl_read.specs.Documents.{value_of}

pub value_of-some : (bytes : List ℕ) (d : Data) → IsUtf8 bytes → read bytes ≡ Some d → value_of bytes ≡ Some d
value_of-some bytes d text is = ap (λ b. cond b (read bytes) None) (is_utf8-from_IsUtf8 bytes text) ∙ is

none_at : (b : Bool) (r : Option Data) → (b ≡ true → r ≡ None) → cond b r None ≡ None
none_at true r h = h refl
none_at false r h = refl

pub value_of-none : (bytes : List ℕ) → (IsUtf8 bytes → read bytes ≡ None) → value_of bytes ≡ None
value_of-none bytes h = none_at (is_utf8 bytes) (read bytes) (λ e. h (IsUtf8-from_is_utf8 bytes e))

-- a fault that is told is the one that is read
pub told : (Y : Type 0) (e : DocNo) (fault : DocFault) → Tells e fault → Fails {Y = Y} e (Err fault)
told Y answer.Memory fault h = tt
told Y (answer.Fault named) fault h = ap Err (sym h)
