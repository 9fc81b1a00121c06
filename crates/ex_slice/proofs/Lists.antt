-- Lists, and points of every step.
use Rattle.std.proofs.Common.{◌≡◌, ℕ, zero, suc, ◌≤◌, Bool, true, false, ◌&&◌, List, [], ◌∷◌, ◌++◌, length, take, filter, cond, refl, sym, ap, ◌∙◌, subst, inl, inr, arith, append-nil}
use Rattle.std.specs.Prelude.{Contains}
use Rattle.std.specs.List.{list_all, AllByRecursion}
use Rattle.ic_law.proofs.Lists.{cut_at, Contains-head, Contains-tail}
use Rattle.pl_runs.specs.Steps.{Step}
use Rattle.pl_runs.specs.Runs.{Every}
use Rattle.ic_motion.specs.Pulling.{AtMostOne}

-- ---- every

pub every_push : (P : List Step → Step → Type 0) (steps : List Step) (s : Step) → Every P steps → P steps s → Every P (steps ++ s ∷ [])
every_push P steps s every here before x after at =
    elim (cut_at steps s before x after at) [
      | inl w ↦ subst (λ b. P b x) (sym w.1) (subst (λ y. P steps y) (sym w.2) here)
      | inr w ↦ every before x w.0 w.2
    ]

pub every_more : (P : List Step → Step → Type 0) (steps more : List Step) → Every P steps → AtMostOne (P steps) more → Every P (steps ++ more)
every_more P steps [] every h = subst (Every P) (sym (append-nil steps)) every
every_more P steps (s ∷ []) every h = every_push P steps s every h
every_more P steps (s ∷ t ∷ more) every h = absurd h

pub most_map : (P Q : Step → Type 0) (more : List Step) → ((s : Step) → P s → Q s) → AtMostOne P more → AtMostOne Q more
most_map P Q [] f h = tt
most_map P Q (s ∷ []) f h = f s h
most_map P Q (s ∷ t ∷ more) f h = absurd h

pub most_one : (P : Step → Type 0) (more : List Step) → AtMostOne P more → length more ≤ 1
most_one P [] h = omega arith
most_one P (s ∷ []) h = omega arith
most_one P (s ∷ t ∷ more) h = absurd h

-- ---- all

pub all_from : {A : Type 0} (P : A → Type 0) (xs : List A) → ((x : A) → Contains xs x → P x) → AllByRecursion P xs
all_from P [] f = tt
all_from P (x ∷ xs) f = (f x (Contains-head x xs), all_from P xs (λ y has. f y (Contains-tail x xs y has)))

pub all_none : {A : Type 0} (P : A → Type 0) (xs : List A) → xs ≡ [] → AllByRecursion P xs
all_none P xs e = subst (AllByRecursion P) (sym e) tt

pub all_true : {A : Type 0} (p : A → Bool) (xs : List A) → ((x : A) → Contains xs x → p x ≡ true) → list_all p xs ≡ true
all_true p [] f = refl
all_true p (x ∷ xs) f = ap (λ b. b && list_all p xs) (f x (Contains-head x xs)) ∙ all_true p xs (λ y has. f y (Contains-tail x xs y has))

pub all_take : {A : Type 0} (P : A → Type 0) (n : ℕ) (xs : List A) → AllByRecursion P xs → AllByRecursion P (take n xs)
all_take P n [] h = by n
  where
    by : (n : ℕ) → AllByRecursion P (take n [])
    by zero = tt
    by (suc k) = tt
all_take P zero (x ∷ xs) h = tt
all_take P (suc k) (x ∷ xs) h = (h.0, all_take P k xs h.1)

pub all_filter : {A : Type 0} (P : A → Type 0) (p : A → Bool) (xs : List A) → AllByRecursion P xs → AllByRecursion P (filter p xs)
all_filter P p [] h = tt
all_filter P p (x ∷ xs) h = by (p x) (all_filter P p xs h.1)
  where
    by : (b : Bool) → AllByRecursion P (filter p xs) → AllByRecursion P (cond b (x ∷ filter p xs) (filter p xs))
    by true rest = (h.0, rest)
    by false rest = rest

-- ---- fronts

-- more than all of the first
pub take_past : {A : Type 0} (n : ℕ) (xs ys : List A) → length xs ≤ n → (more : List A) × (take n (xs ++ ys) ≡ xs ++ more)
take_past n [] ys h = (take n ys, refl)
take_past zero (x ∷ xs) ys h = absurd (omega arith)
take_past (suc k) (x ∷ xs) ys h = let r = take_past k xs ys (omega arith) in (r.0, ap (λ l. x ∷ l) r.1)
