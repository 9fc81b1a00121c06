-- What holds of all rows and their spellings.
use Rattle.std.specs.Prelude.{◌≡◌, ℕ, true, List, [], ◌++◌, Ok}
use Rattle.std.specs.declared.cmp.Ordering.{Ordering}
use Rattle.std.specs.declared.cmp.Ordering.TheVariants.{Equal}
use Rattle.std.specs.Ordering.{ordering_reverse, is_le}
use Rattle.ic_row.specs.declared.value.Value.{Value}
use Rattle.ic_row.specs.declared.order.Key.{Key}
use Rattle.ic_row.specs.Values.{key_of}
use Rattle.ic_row.specs.Order.{compare_by}
use Rattle.ic_row.specs.Hash.{segment_for}
use Rattle.ic_row.specs.Spelling.{spelling_of, IsRow}
use Rattle.ic_row.specs.Reading.{read_row_of}

-- a spelled row is read back as the same row
abbrev pub ReadsWhatIsSpelled : Type 0
ReadsWhatIsSpelled = (row : List Value) → IsRow row → read_row_of (spelling_of row) ≡ Ok row

-- two different rows have different spellings
abbrev pub HasOneSpelling : Type 0
HasOneSpelling = (a b : List Value) → IsRow a → IsRow b → spelling_of a ≡ spelling_of b → a ≡ b

-- no spelling is a proper prefix of another
abbrev pub IsPrefixFree : Type 0
IsPrefixFree = (a b : List Value) (more : List ℕ) → IsRow a → IsRow b → spelling_of a ++ more ≡ spelling_of b → more ≡ []

-- if bytes begin with the spelling of a row, they begin with no other row's
abbrev pub BeginsAlone : Type 0
BeginsAlone = (a b : List Value) (x y : List ℕ) → IsRow a → IsRow b → spelling_of a ++ x ≡ spelling_of b ++ y → (a ≡ b) × (x ≡ y)

-- ---- the order

-- rows are ordered, though different rows may compare as equal
pub record IsPreorder (R : List Value → List Value → Ordering) : Type 0 where
  -- each row equals itself
  pub itself : (a : List Value) → R a a ≡ Equal
  -- comparing the other way round reverses the answer, so any two rows can be compared
  pub swapped : (a b : List Value) → R b a ≡ ordering_reverse (R a b)
  -- if a isn't after b, and b isn't after c, then a isn't after c
  pub chain : (a b c : List Value) → is_le (R a b) ≡ true → is_le (R b c) ≡ true → is_le (R a c) ≡ true

abbrev pub OrdersRows : Type 0
OrdersRows = (keys : List Key) → IsPreorder (compare_by keys)

-- ---- the segment

-- rows with equal keys belong to the same segment, even if the two keys are in different columns
abbrev pub HashesByKey : Type 0
HashesByKey = (a b : List Value) (x y : List ℕ) (segments : ℕ) → key_of x a ≡ key_of y b → segment_for x a segments ≡ segment_for y b segments
