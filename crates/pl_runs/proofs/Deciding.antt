-- The check follows the points of a run, and gives them.
use Rattle.std.proofs.Common.{◌≡◌, ℕ, ℤ, List, [], ◌∷◌, ◌++◌, Bool, true, false, not, ◌&&◌, refl, ap, sym, ◌∙◌, subst, append-nil, append_assoc}
use Rattle.std.specs.List.{list_all, AllByRecursion}
use Rattle.std.specs.Cmp.Lexicographic.{pointwise}
use Rattle.std.specs.Ordering.{int_eq}
use Rattle.std.specs.Bool.{Decides}
use Rattle.std.specs.Str.{bytes_eq}
use Rattle.std.proofs.lemmas.Bool.Decides.{Decides-eqb, Decides-int_eq}
use Rattle.std.proofs.lemmas.Slice.Eq.{slice_eq-Decides}
use Rattle.ic_row.specs.declared.value.Value.{Value}
use Rattle.ic_row.specs.declared.value.Value.TheVariants.{Null, Int, Wide, Chars}
use Rattle.ic_law.specs.Points.{IsPrefix}
use Rattle.pl_ops.specs.Rows.{Line}
use Rattle.pl_runs.specs.Steps.{Step}
use Rattle.pl_runs.specs.Runs.{Every}
use Rattle.pl_runs.specs.Checking.{begins, same_value, same_row, if_so, every}

-- ---- truth values

pub both : (a b : Bool) → a && b ≡ true → (a ≡ true) × (b ≡ true)
both true b e = (refl, e)
both false b e = absurd (cc)

pub joined : (a b : Bool) → a ≡ true → b ≡ true → a && b ≡ true
joined true b d e = e
joined false b d e = absurd (cc)

pub if_so-from : (a b : Bool) → (a ≡ true → b ≡ true) → if_so a b ≡ true
if_so-from true b f = f refl
if_so-from false b f = refl

pub if_so-to : (a b : Bool) → if_so a b ≡ true → a ≡ true → b ≡ true
if_so-to true b e d = e
if_so-to false b e d = absurd (cc)

pub not-from : (a : Bool) → a ≡ false → not a ≡ true
not-from true e = absurd (cc)
not-from false e = refl

pub not-to : (a : Bool) → not a ≡ true → a ≡ false
not-to true e = absurd (cc)
not-to false e = refl

-- ---- equality

pub bytes_decide : (a b : List ℕ) → Decides (bytes_eq a b) (a ≡ b)
bytes_decide a b = slice_eq-Decides Decides-eqb a b (bytes_eq a b) refl

pub chunks_decide : (a b : List (List ℕ)) → Decides (pointwise bytes_eq a b) (a ≡ b)
chunks_decide a b = slice_eq-Decides bytes_decide a b (pointwise bytes_eq a b) refl

int_same : (a b : ℤ) → Decides (int_eq a b) (Int a ≡ Int b)
int_same a b = (λ e. ap Int ((Decides-int_eq a b).0 e), λ e. (Decides-int_eq a b).1 (cc))

wide_same : (a b : ℤ) → Decides (int_eq a b) (Wide a ≡ Wide b)
wide_same a b = (λ e. ap Wide ((Decides-int_eq a b).0 e), λ e. (Decides-int_eq a b).1 (cc))

chars_same : (a b : List ℕ) → Decides (bytes_eq a b) (Chars a ≡ Chars b)
chars_same a b = (λ e. ap Chars ((bytes_decide a b).0 e), λ e. (bytes_decide a b).1 (cc))

value_decide : (a b : Value) → Decides (same_value a b) (a ≡ b)
value_decide Null Null = (λ e. refl, λ e. refl)
value_decide (Int a) (Int b) = int_same a b
value_decide (Wide a) (Wide b) = wide_same a b
value_decide (Chars a) (Chars b) = chars_same a b
value_decide Null (Int b) = (λ e. absurd (cc), λ e. absurd (cc))
value_decide Null (Wide b) = (λ e. absurd (cc), λ e. absurd (cc))
value_decide Null (Chars b) = (λ e. absurd (cc), λ e. absurd (cc))
value_decide (Int a) Null = (λ e. absurd (cc), λ e. absurd (cc))
value_decide (Int a) (Wide b) = (λ e. absurd (cc), λ e. absurd (cc))
value_decide (Int a) (Chars b) = (λ e. absurd (cc), λ e. absurd (cc))
value_decide (Wide a) Null = (λ e. absurd (cc), λ e. absurd (cc))
value_decide (Wide a) (Int b) = (λ e. absurd (cc), λ e. absurd (cc))
value_decide (Wide a) (Chars b) = (λ e. absurd (cc), λ e. absurd (cc))
value_decide (Chars a) Null = (λ e. absurd (cc), λ e. absurd (cc))
value_decide (Chars a) (Int b) = (λ e. absurd (cc), λ e. absurd (cc))
value_decide (Chars a) (Wide b) = (λ e. absurd (cc), λ e. absurd (cc))

pub row_decide : (a b : Line) → Decides (same_row a b) (a ≡ b)
row_decide a b = slice_eq-Decides value_decide a b (same_row a b) refl

pub rows_decide : (a b : List Line) → Decides (pointwise same_row a b) (a ≡ b)
rows_decide a b = slice_eq-Decides row_decide a b (pointwise same_row a b) refl

-- ---- fronts

front_begins : {A : Type 0} {eq : A → A → Bool} → ((a b : A) → Decides (eq a b) (a ≡ b)) → (xs rest : List A) → begins eq xs (xs ++ rest) ≡ true
front_begins decide [] rest = refl
front_begins {eq = eq} decide (x ∷ xs) rest = joined (eq x x) (begins eq xs (xs ++ rest)) ((decide x x).1 refl) (front_begins decide xs rest)

pub begins-from : {A : Type 0} {eq : A → A → Bool} → ((a b : A) → Decides (eq a b) (a ≡ b)) → (xs ys : List A) → IsPrefix xs ys → begins eq xs ys ≡ true
begins-from {eq = eq} decide xs ys front = subst (λ l. begins eq xs l ≡ true) (sym front.1) (front_begins decide xs front.0)

longer : {A : Type 0} (x y : A) (xs ys : List A) → x ≡ y → IsPrefix xs ys → IsPrefix (x ∷ xs) (y ∷ ys)
longer x y xs ys e front = (front.0, subst (λ z. z ∷ ys ≡ (x ∷ xs) ++ front.0) e (ap (λ l. x ∷ l) front.1))

pub begins-to : {A : Type 0} {eq : A → A → Bool} → ((a b : A) → Decides (eq a b) (a ≡ b)) → (xs ys : List A) → begins eq xs ys ≡ true → IsPrefix xs ys
begins-to decide [] ys e = (ys, refl)
begins-to decide (x ∷ xs) [] e = absurd (cc)
begins-to {eq = eq} decide (x ∷ xs) (y ∷ ys) e =
    let b = both (eq x y) (begins eq xs ys) e in longer x y xs ys ((decide x y).0 b.0) (begins-to decide xs ys b.1)

-- ---- all elements, and all steps

pub all-from : {A : Type 0} {P : A → Type 0} {test : A → Bool} → ((x : A) → P x → test x ≡ true) → (xs : List A) → AllByRecursion P xs → list_all test xs ≡ true
all-from f [] all = refl
all-from {test = test} f (x ∷ xs) all = joined (test x) (list_all test xs) (f x all.0) (all-from f xs all.1)

pub all-to : {A : Type 0} {P : A → Type 0} {test : A → Bool} → ((x : A) → test x ≡ true → P x) → (xs : List A) → list_all test xs ≡ true → AllByRecursion P xs
all-to f [] e = tt
all-to {test = test} f (x ∷ xs) e = let b = both (test x) (list_all test xs) e in (f x b.0, all-to f xs b.1)

every_after : {P : List Step → Step → Type 0} {test : List Step → Step → Bool} → ((before : List Step) (s : Step) → P before s → test before s ≡ true)
    → (before after : List Step) → ((b : List Step) (s : Step) (a : List Step) → before ++ after ≡ b ++ s ∷ a → P b s) → every test before after ≡ true
every_after f before [] all = refl
every_after {test = test} f before (s ∷ after) all =
    joined (test before s) (every test (before ++ s ∷ []) after) (f before s (all before s after refl))
    (every_after f (before ++ s ∷ []) after (λ b t a e. all b t a (sym (append_assoc before (s ∷ []) after) ∙ e)))

pub every-from : {P : List Step → Step → Type 0} {test : List Step → Step → Bool} → ((before : List Step) (s : Step) → P before s → test before s ≡ true)
    → (steps : List Step) → Every P steps → every test [] steps ≡ true
every-from f steps all = every_after f [] steps all

every_at : (test : List Step → Step → Bool) (first b : List Step) (s : Step) (a : List Step) → every test first (b ++ s ∷ a) ≡ true → test (first ++ b) s ≡ true
every_at test first [] s a e = subst (λ l. test l s ≡ true) (sym (append-nil first)) (both (test first s) (every test (first ++ s ∷ []) a) e).0
every_at test first (x ∷ b) s a e =
    subst (λ l. test l s ≡ true) (append_assoc first (x ∷ []) b) (every_at test (first ++ x ∷ []) b s a (both (test first x) (every test (first ++ x ∷ []) (b ++ s ∷ a)) e).1)

pub every-to : {P : List Step → Step → Type 0} {test : List Step → Step → Bool} → ((before : List Step) (s : Step) → test before s ≡ true → P before s)
    → (steps : List Step) → every test [] steps ≡ true → Every P steps
every-to {test = test} f steps all before s after e = f before s (every_at test [] before s after (subst (λ l. every test [] l ≡ true) e all))
