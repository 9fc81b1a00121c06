-- No text of a row that is read is longer than the bytes of the document.
use Rattle.std.proofs.Common.{◌≡◌, ℕ, ◌+◌, ◌≤◌, ◌<◌, ◌^◌, ◌==◌, List, [], ◌∷◌, ◌++◌, length, codes, Bool, true, false, cond, Option, Some, None, Result, Ok, Err, IfOk, subst, arith}
use Rattle.std.specs.Prelude.{⊤, is_some}
use Rattle.std.specs.List.{AllByRecursion}
use Rattle.std.specs.Ordering.{nat_cmp, match_ordering}
use Rattle.std.specs.declared.cmp.Ordering.{Ordering}
use Rattle.std.specs.declared.cmp.Ordering.TheVariants.{Less, Equal, Greater}
use Rattle.std.specs.Cmp.Lexicographic.{slice_cmp}
use Rattle.std.specs.Str.{is_utf8}
use Rattle.serde_json.specs.Data.{Data, null, boolean, number, string, array, object, Items, no_items, item, Members, no_members, member}
use Rattle.serde_json.specs.Events.{items_len}
use Rattle.serde_json.specs.Find.{as_array, get, get_member}
use Rattle.serde_json.specs.Read.{read}
use Rattle.ic_base.specs.Settings.{is_within}
use Rattle.ic_row.specs.declared.value.Kind.{Kind}
use Rattle.ic_row.specs.declared.value.Kind.TheVariants as kind
use Rattle.ic_row.specs.declared.value.Value.{Value}
use Rattle.ic_row.specs.declared.value.Value.TheVariants.{Null, Int, Wide, Chars}
use Rattle.ic_row.specs.Spelling.{FitsLength}
use Rattle.pl_tree.specs.Columns as columns
use Rattle.pl_read.specs.declared.table.Table.{Table}
use Rattle.pl_read.specs.declared.document.Document.{Document}
use Rattle.pl_read.specs.declared.fault.DocFault.{DocFault}
use Rattle.pl_read.specs.declared.fault.DocNo.{DocNo}
use Rattle.pl_read.specs.declared.fault.Flaw.{Flaw}
use Rattle.pl_read.specs.declared.fault.Flaw.TheVariants as flaw
use Rattle.pl_read.specs.Paths.{Step, index}
use Rattle.pl_read.specs.Paths as path
use Rattle.pl_read.specs.Faults.{fault_at, or_refused, Gives, ◌>>=◌}
use Rattle.pl_read.specs.Members.{object_at, only, required, needed}
use Rattle.pl_read.specs.Values.{number_at, counted, array_at, each}
use Rattle.pl_read.specs.Exprs.{integer_in}
use Rattle.pl_read.specs.Rows.{datum_at, data_from, row_of, row_at, rows_from, rows_at}
use Rattle.pl_read.specs.Settings.{settings_in}
use Rattle.pl_read.specs.Tables.{new_name_at, kinds_at, key_in, replicated_in, placing, names_of, schema_at, table_at, tables_from, tables_at}
use Rattle.pl_read.specs.Nodes.{plans_at}
use Rattle.pl_read.specs.Documents.{document_at, value_of, reading}
use Rattle.pl_read.specs.Limits.{HasShortTexts}
use Rattle.pl_read.proofs.Steps.{same_Ok, came, held, all_push, all_weaker}
use Rattle.pl_read.proofs.JsonTexts.{HasShort, ItemsShort, MembersShort, Holds, read_short}

-- ---- looking into a value

option_either : (n : ℕ) (o : Ordering) (a b c : Option Data) → Holds (HasShort n) a → Holds (HasShort n) b → Holds (HasShort n) c → Holds (HasShort n) (match_ordering o a b c)
option_either n Less a b c x y z = x
option_either n Equal a b c x y z = y
option_either n Greater a b c x y z = z

member_short : (n : ℕ) (k : List ℕ) (ms : Members) → MembersShort n ms → Holds (HasShort n) (get_member k ms)
member_short n k no_members all = tt
member_short n k (member l e ms) all = option_either n (slice_cmp nat_cmp k l) _ (Some e) _ (member_short n k ms all.1) all.0 (member_short n k ms all.1)

get_short : (n : ℕ) (k : List ℕ) (d : Data) → HasShort n d → Holds (HasShort n) (get k d)
get_short n k null h = tt
get_short n k (boolean b) h = tt
get_short n k (number x) h = tt
get_short n k (string s) h = tt
get_short n k (array ds) h = tt
get_short n k (object ms) h = member_short n k ms h

array_short : (n : ℕ) (d : Data) → HasShort n d → Holds (ItemsShort n) (as_array d)
array_short n null h = tt
array_short n (boolean b) h = tt
array_short n (number x) h = tt
array_short n (string s) h = tt
array_short n (array ds) h = h
array_short n (object ms) h = tt

was_there : {A : Type 0} (P : A → Type 0) (o : Option A) (p : List Step) (f : Flaw) (x : A) → Holds P o → or_refused o p f ≡ Ok x → P x
was_there P None p f x holds e = absurd cc
was_there P (Some y) p f x holds e = subst P (same_Ok y x e) holds

-- a member that reads as a value was there, and has no longer texts
found_short : {A P : Type 0} (n : ℕ) (reader : List Step → Data → Result A DocFault) (p : List Step) (name : List ℕ) (d : Data) (x : A)
    → HasShort n d → needed reader p name d ≡ Ok x → ((e : Data) → HasShort n e → reader (path.member name ∷ p) e ≡ Ok x → P) → P
found_short n reader p name d x short e go =
    came (required p name d) (reader (path.member name ∷ p)) x e (λ v is e1. go v (was_there (HasShort n) (get name d) (path.member name ∷ p) flaw.Missing v (get_short n name d short) is) e1)

each_short : {A : Type 0} (P : A → Type 0) (n : ℕ) (reader : List Step → Data → Result A DocFault) → ((p : List Step) (d : Data) (x : A) → HasShort n d → reader p d ≡ Ok x → P x)
    → (p : List Step) (i : ℕ) (ds : Items) (xs : List A) → ItemsShort n ds → each reader p i ds ≡ Ok xs → AllByRecursion P xs
each_short P n reader one p i no_items xs short e = subst (AllByRecursion P) (same_Ok [] xs e) tt
each_short P n reader one p i (item d ds) xs short e =
    came (reader (index i ∷ p) d) (λ x. each reader p (i + 1) ds >>= λ others. Ok (x ∷ others)) xs e (λ x is e1.
    came (each reader p (i + 1) ds) (λ others. Ok (x ∷ others)) xs e1 (λ others are e2.
    subst (AllByRecursion P) (same_Ok (x ∷ others) xs e2) (one (index i ∷ p) d x short.0 is, each_short P n reader one p (i + 1) ds others short.1 are)))

-- ---- rows

abbrev IsShortValue : ℕ → Value → Type 0
IsShortValue n Null = ⊤
IsShortValue n (Int z) = ⊤
IsShortValue n (Wide z) = ⊤
IsShortValue n (Chars text) = length text ≤ n

datum_short : (n : ℕ) (k : Kind) (p : List Step) (d : Data) (v : Value) → HasShort n d → datum_at k p d ≡ Ok v → IsShortValue n v
datum_short n kind.Int p null v h e = subst (IsShortValue n) (same_Ok Null v e) tt
datum_short n kind.Int p (boolean b) v h e = absurd cc
datum_short n kind.Int p (number x) v h e = came (integer_in p x) (λ z. Ok (Int z)) v e (λ z _ e1. subst (IsShortValue n) (same_Ok (Int z) v e1) tt)
datum_short n kind.Int p (string text) v h e = absurd cc
datum_short n kind.Int p (array ds) v h e = absurd cc
datum_short n kind.Int p (object ms) v h e = absurd cc
datum_short n kind.Wide p null v h e = subst (IsShortValue n) (same_Ok Null v e) tt
datum_short n kind.Wide p (boolean b) v h e = absurd cc
datum_short n kind.Wide p (number x) v h e = absurd cc
datum_short n kind.Wide p (string text) v h e = absurd cc
datum_short n kind.Wide p (array ds) v h e = absurd cc
datum_short n kind.Wide p (object ms) v h e = absurd cc
datum_short n kind.Chars p null v h e = subst (IsShortValue n) (same_Ok Null v e) tt
datum_short n kind.Chars p (boolean b) v h e = absurd cc
datum_short n kind.Chars p (number x) v h e = absurd cc
datum_short n kind.Chars p (string text) v h e = subst (IsShortValue n) (same_Ok (Chars text) v e) h
datum_short n kind.Chars p (array ds) v h e = absurd cc
datum_short n kind.Chars p (object ms) v h e = absurd cc

data_short : (n : ℕ) (kinds : List Kind) (p : List Step) (i : ℕ) (ds : Items) (row : List Value) → ItemsShort n ds → data_from kinds p i ds ≡ Ok row → AllByRecursion (IsShortValue n) row
data_short n kinds p i no_items row short e = subst (AllByRecursion (IsShortValue n)) (same_Ok [] row e) tt
data_short n kinds p i (item d ds) row short e =
    came (datum_at (columns.kind_at kinds i) (index i ∷ p) d) (λ value. data_from kinds p (i + 1) ds >>= λ values. Ok (value ∷ values)) row e (λ value is e1.
    came (data_from kinds p (i + 1) ds) (λ values. Ok (value ∷ values)) row e1 (λ values are e2.
    subst (AllByRecursion (IsShortValue n)) (same_Ok (value ∷ values) row e2)
    (datum_short n (columns.kind_at kinds i) (index i ∷ p) d value short.0 is, data_short n kinds p (i + 1) ds values short.1 are)))

wide_short : (n : ℕ) (kinds : List Kind) (p : List Step) (ds : Items) (b : Bool) (row : List Value) → ItemsShort n ds → cond b (data_from kinds p 0 ds) (Err (fault_at p flaw.Width)) ≡ Ok row → AllByRecursion (IsShortValue n) row
wide_short n kinds p ds true row short e = data_short n kinds p 0 ds row short e
wide_short n kinds p ds false row short e = absurd cc

row_short : (n : ℕ) (kinds : List Kind) (p : List Step) (d : Data) (row : List Value) → HasShort n d → row_at kinds p d ≡ Ok row → AllByRecursion (IsShortValue n) row
row_short n kinds p d row short e =
    came (or_refused (as_array d) p flaw.Kind) (row_of kinds p) row e (λ ds is e1.
    wide_short n kinds p ds (items_len ds == length kinds) row (was_there (ItemsShort n) (as_array d) p flaw.Kind ds (array_short n d short) is) e1)

abbrev AreShortRows : ℕ → List (List Value) → Type 0
AreShortRows n rows = AllByRecursion (AllByRecursion (IsShortValue n)) rows

rows_short : (n : ℕ) (kinds : List Kind) (p : List Step) (d : Data) (rows : List (List Value)) → HasShort n d → rows_at kinds p d ≡ Ok rows → AreShortRows n rows
rows_short n kinds p d rows short e =
    came (or_refused (as_array d) p flaw.Kind) (rows_from kinds p) rows e (λ ds is e1.
    each_short (AllByRecursion (IsShortValue n)) n (row_at kinds) (row_short n kinds) p 0 ds rows (was_there (ItemsShort n) (as_array d) p flaw.Kind ds (array_short n d short) is) e1)

-- ---- tables

abbrev IsShortTable : ℕ → Table → Type 0
IsShortTable n table = AreShortRows n table.rows

table_short : (n : ℕ) (names : List (List ℕ)) (p : List Step) (d : Data) (table : Table) → HasShort n d → table_at names p d ≡ Ok table → IsShortTable n table
table_short n names p d table short e =
    came (schema_at names p d) _ table e (λ schema _ e1.
    came (needed (rows_at schema.kinds) p (codes "rows") d) _ table e1 (λ rows told e2.
    let made : Table = record { schema = schema; rows = rows } in
    let all = found_short n (rows_at schema.kinds) p (codes "rows") d rows short told (λ v is e3. rows_short n schema.kinds (path.member (codes "rows") ∷ p) v rows is e3) in
    subst (IsShortTable n) (same_Ok made table e2) all))

tables_short_from : (n : ℕ) (before : List Table) (p : List Step) (i : ℕ) (ds : Items) (tables : List Table) → AllByRecursion (IsShortTable n) before → ItemsShort n ds
    → tables_from before p i ds ≡ Ok tables → AllByRecursion (IsShortTable n) tables
tables_short_from n before p i no_items tables all short e = subst (AllByRecursion (IsShortTable n)) (same_Ok before tables e) all
tables_short_from n before p i (item d ds) tables all short e =
    came (table_at (names_of before) (index i ∷ p) d) (λ table. tables_from (before ++ table ∷ []) p (i + 1) ds) tables e (λ table is e1.
    tables_short_from n (before ++ table ∷ []) p (i + 1) ds tables (all_push (IsShortTable n) before table all (table_short n (names_of before) (index i ∷ p) d table short.0 is)) short.1 e1)

counted_short : (n least greatest : ℕ) (p : List Step) (ds es : Items) → ItemsShort n ds → counted least greatest p ds ≡ Ok es → ItemsShort n es
counted_short n least greatest p ds es short e = subst (ItemsShort n) (held (is_within least (items_len ds) greatest) ds es (fault_at p flaw.Range) e).1 short

tables_short : (n : ℕ) (p : List Step) (d : Data) (tables : List Table) → HasShort n d → tables_at p d ≡ Ok tables → AllByRecursion (IsShortTable n) tables
tables_short n p d tables short e =
    came (array_at 0 64 p d) (tables_from [] p 0) tables e (λ ds is e1.
    let items = came (or_refused (as_array d) p flaw.Kind) (counted 0 64 p) ds is (λ es there e2.
    counted_short n 0 64 p es ds (was_there (ItemsShort n) (as_array d) p flaw.Kind es (array_short n d short) there) e2) in
    tables_short_from n [] p 0 ds tables tt items e1)

-- ---- the document

document_short : (n : ℕ) (p : List Step) (d : Data) (document : Document) → HasShort n d → document_at p d ≡ Ok document → AllByRecursion (IsShortTable n) document.tables
document_short n p d document short e =
    came (object_at p d) _ document e (λ ms _ e1.
    came (only p (codes "session" ∷ codes "segments" ∷ codes "settings" ∷ codes "tables" ∷ codes "queries" ∷ []) ms) _ document e1 (λ _ _ e2.
    came (needed (number_at 1 2147483647) p (codes "session") d) _ document e2 (λ session _ e3.
    came (needed (number_at 1 64) p (codes "segments") d) _ document e3 (λ segments _ e4.
    came (settings_in p d) _ document e4 (λ settings _ e5.
    came (needed tables_at p (codes "tables") d) _ document e5 (λ tables is e6.
    came (needed plans_at p (codes "queries") d) _ document e6 (λ queries _ e7.
    let made : Document = record { session = session; segments = segments; settings = settings; tables = tables; queries = queries } in
    let all = found_short n tables_at p (codes "tables") d tables short is (λ v h r. tables_short n (path.member (codes "tables") ∷ p) v tables h r) in
    subst (λ (x : Document). AllByRecursion (IsShortTable n) x.tables) (same_Ok made document e7) all)))))))

value_short : (bytes : List ℕ) (b : Bool) → Holds (HasShort (length bytes)) (cond b (read bytes) None)
value_short bytes true = read_short bytes
value_short bytes false = tt

reading_short : (bytes : List ℕ) (document : Document) → reading bytes ≡ Ok document → AllByRecursion (IsShortTable (length bytes)) document.tables
reading_short bytes document e =
    came (or_refused (value_of bytes) [] flaw.NoJson) (document_at []) document e (λ d is e1.
    document_short (length bytes) [] d document (was_there (HasShort (length bytes)) (value_of bytes) [] flaw.NoJson d (value_short bytes (is_utf8 bytes)) is) e1)

fits_length : (n : ℕ) (v : Value) → n < 2 ^ 32 → IsShortValue n v → FitsLength v
fits_length n Null lt short = tt
fits_length n (Int z) lt short = tt
fits_length n (Wide z) lt short = tt
fits_length n (Chars text) lt short = omega (arith, lt, short)

fit_lengths : (n : ℕ) (tables : List Table) → n < 2 ^ 32 → AllByRecursion (IsShortTable n) tables → AllByRecursion (λ (table : Table). AllByRecursion (AllByRecursion FitsLength) table.rows) tables
fit_lengths n tables lt all =
    all_weaker (IsShortTable n) (λ (table : Table). AllByRecursion (AllByRecursion FitsLength) table.rows)
    (λ table rows. all_weaker (AllByRecursion (IsShortValue n)) (AllByRecursion FitsLength) (λ row values. all_weaker (IsShortValue n) FitsLength (λ v short. fits_length n v lt short) row values) table.rows rows)
    tables all

-- of bytes that a length of 32 bits counts
pub read_is_short : (bytes : List ℕ) (result : Result Document DocNo) → Gives (λ x. x) result (reading bytes) → length bytes < 2 ^ 32 → IfOk result HasShortTexts
read_is_short bytes (Ok document) gives lt = fit_lengths (length bytes) document.tables lt (reading_short bytes document gives)
read_is_short bytes (Err e) gives lt = tt
