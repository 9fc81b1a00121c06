-- What follows from a reading that gave a value, step by step.
use Rattle.std.proofs.Common.{◌≡◌, ℕ, suc, ◌+◌, ◌≤◌, List, [], ◌∷◌, ◌++◌, length, map, Bool, true, false, cond, nat_le, Option, Some, None, Result, Ok, Err, refl, sym, ap, subst, ◌∙◌, arith}
use Rattle.std.specs.List.{AllByRecursion}
use Rattle.std.proofs.lemmas.Bool.{and_parts, leb-true}
use Rattle.serde_json.specs.Data.{Num, unsigned, negative, float, Data, Items, no_items, item}
use Rattle.serde_json.specs.Events.{items_len}
use Rattle.serde_json.specs.Find.{as_array, as_number}
use Rattle.ic_base.specs.Settings.{is_within}
use Rattle.pl_read.specs.declared.fault.DocFault.{DocFault}
use Rattle.pl_read.specs.declared.fault.Flaw.TheVariants.{Kind, Range}
use Rattle.pl_read.specs.Paths.{Step, member, index}
use Rattle.pl_read.specs.Faults.{fault_at, or_refused, ◌>>=◌}
use Rattle.pl_read.specs.Members.{required, needed, read_if_there}
use Rattle.pl_read.specs.Values.{natural, number_at, counted, array_at, each, list_at}

pub same_Ok : {A : Type 0} (x y : A) → ◌≡◌ {A = Result A DocFault} (Ok x) (Ok y) → x ≡ y
same_Ok x y h = cc

-- a step that came to a value follows one that did
pub came : {A B P : Type 0} (r : Result A DocFault) (f : A → Result B DocFault) (y : B) → (r >>= f) ≡ Ok y → ((x : A) → r ≡ Ok x → f x ≡ Ok y → P) → P
came (Ok x) f y e go = go x refl e
came (Err fault) f y e go = absurd cc

-- what a test lets through
pub held : {A : Type 0} (b : Bool) (x y : A) (fault : DocFault) → cond b (Ok x) (Err fault) ≡ Ok y → (b ≡ true) × (x ≡ y)
held true x y fault e = (refl, same_Ok x y e)
held false x y fault e = absurd cc

pub within_is : (least n greatest : ℕ) → is_within least n greatest ≡ true → (least ≤ n) × (n ≤ greatest)
within_is least n greatest h = let p = and_parts (nat_le least n) (nat_le n greatest) h in (leb-true least n p.0, leb-true n greatest p.1)

-- ---- lists

pub all_push : {A : Type 0} (P : A → Type 0) (xs : List A) (x : A) → AllByRecursion P xs → P x → AllByRecursion P (xs ++ x ∷ [])
all_push P [] x all p = (p, tt)
all_push P (y ∷ ys) x all p = (all.0, all_push P ys x all.1 p)

pub all_map : {A B : Type 0} (P : B → Type 0) (f : A → B) (xs : List A) → AllByRecursion (λ x. P (f x)) xs → AllByRecursion P (map f xs)
all_map P f [] all = tt
all_map P f (x ∷ xs) all = (all.0, all_map P f xs all.1)

pub all_weaker : {A : Type 0} (P Q : A → Type 0) → ((x : A) → P x → Q x) → (xs : List A) → AllByRecursion P xs → AllByRecursion Q xs
all_weaker P Q h [] all = tt
all_weaker P Q h (x ∷ xs) all = (h x all.0, all_weaker P Q h xs all.1)

-- ---- members and numbers

-- a member that reads as a value was there
pub found : {A P : Type 0} (read : List Step → Data → Result A DocFault) (path : List Step) (name : List ℕ) (d : Data) (x : A) → needed read path name d ≡ Ok x → ((e : Data) → read (member name ∷ path) e ≡ Ok x → P) → P
found read path name d x e go = came (required path name d) (read (member name ∷ path)) x e (λ v _ e1. go v e1)

pub if_there : {A : Type 0} (P : Option A → Type 0) (read : Data → Result A DocFault) (o : Option Data) (x : Option A) → read_if_there read o ≡ Ok x → P None → ((d : Data) (y : A) → read d ≡ Ok y → P (Some y)) → P x
if_there P read None x e none some = subst P (same_Ok None x e) none
if_there P read (Some d) x e none some = came (read d) (λ y. Ok (Some y)) x e (λ y is e1. subst P (same_Ok (Some y) x e1) (some d y is))

pub natural_is : (least greatest : ℕ) (path : List Step) (num : Num) (n : ℕ) → natural least greatest path num ≡ Ok n → (least ≤ n) × (n ≤ greatest)
natural_is least greatest path (unsigned m) n e =
    let h = held (is_within least m greatest) m n (fault_at path Range) e in
    subst (λ k. (least ≤ k) × (k ≤ greatest)) h.1 (within_is least m greatest h.0)
natural_is least greatest path (negative z) n e = absurd cc
natural_is least greatest path (float x) n e = absurd cc

pub number_is : (least greatest : ℕ) (path : List Step) (d : Data) (n : ℕ) → number_at least greatest path d ≡ Ok n → (least ≤ n) × (n ≤ greatest)
number_is least greatest path d n e = came (or_refused (as_number d) path Kind) (natural least greatest path) n e (λ num _ e1. natural_is least greatest path num n e1)

-- ---- arrays

pub array_is : (least greatest : ℕ) (path : List Step) (d : Data) (ds : Items) → array_at least greatest path d ≡ Ok ds → (least ≤ items_len ds) × (items_len ds ≤ greatest)
array_is least greatest path d ds e =
    came (or_refused (as_array d) path Kind) (counted least greatest path) ds e (λ es _ e1.
    let h = held (is_within least (items_len es) greatest) es ds (fault_at path Range) e1 in
    subst (λ xs. (least ≤ items_len xs) × (items_len xs ≤ greatest)) h.1 (within_is least (items_len es) greatest h.0))

pub each_length : {A : Type 0} (read : List Step → Data → Result A DocFault) (path : List Step) (i : ℕ) (ds : Items) (xs : List A) → each read path i ds ≡ Ok xs → length xs ≡ items_len ds
each_length read path i no_items xs e = ap length (sym (same_Ok [] xs e))
each_length read path i (item d ds) xs e =
    came (read (index i ∷ path) d) (λ x. each read path (i + 1) ds >>= λ others. Ok (x ∷ others)) xs e (λ x _ e1.
    came (each read path (i + 1) ds) (λ others. Ok (x ∷ others)) xs e1 (λ others are e2.
    ap length (sym (same_Ok (x ∷ others) xs e2)) ∙ ap suc (each_length read path (i + 1) ds others are)))

pub each_all : {A : Type 0} (P : A → Type 0) (read : List Step → Data → Result A DocFault) → ((p : List Step) (d : Data) (x : A) → read p d ≡ Ok x → P x) → (path : List Step) (i : ℕ) (ds : Items) (xs : List A) → each read path i ds ≡ Ok xs → AllByRecursion P xs
each_all P read one path i no_items xs e = subst (AllByRecursion P) (same_Ok [] xs e) tt
each_all P read one path i (item d ds) xs e =
    came (read (index i ∷ path) d) (λ x. each read path (i + 1) ds >>= λ others. Ok (x ∷ others)) xs e (λ x is e1.
    came (each read path (i + 1) ds) (λ others. Ok (x ∷ others)) xs e1 (λ others are e2.
    subst (AllByRecursion P) (same_Ok (x ∷ others) xs e2) (one (index i ∷ path) d x is, each_all P read one path (i + 1) ds others are)))

pub list_length : {A : Type 0} (read : List Step → Data → Result A DocFault) (least greatest : ℕ) (path : List Step) (d : Data) (xs : List A) → list_at read least greatest path d ≡ Ok xs → length xs ≤ greatest
list_length read least greatest path d xs e =
    came (array_at least greatest path d) (each read path 0) xs e (λ ds is e1.
    let n = (array_is least greatest path d ds is).1 in
    omega (arith, n, each_length read path 0 ds xs e1))

pub list_all : {A : Type 0} (P : A → Type 0) (read : List Step → Data → Result A DocFault) → ((p : List Step) (d : Data) (x : A) → read p d ≡ Ok x → P x) → (least greatest : ℕ) (path : List Step) (d : Data) (xs : List A) → list_at read least greatest path d ≡ Ok xs → AllByRecursion P xs
list_all P read one least greatest path d xs e =
    came (array_at least greatest path d) (each read path 0) xs e (λ ds _ e1. each_all P read one path 0 ds xs e1)
