-- What a call is not: a take sends nothing, a put halts nobody.
use Rattle.std.proofs.Common.{◌≡◌, ℕ, ℤ, Bool, true, false, ◌&&◌, List, Some, None, refl, sym, ap, ◌∙◌, arith}
use Rattle.std.specs.Prelude.{◌==◌}
use Rattle.std.specs.Ordering.{int_eq}
use Rattle.std.proofs.lemmas.Bool.Decides.{Decides-int_eq}
use Rattle.std.proofs.lemmas.Bool.Decides.{nat_tests}
use Rattle.ic_base.specs.declared.port.PortAsk.{PortAsk}
use Rattle.ic_base.specs.declared.port.PortAsk.TheVariants.{Put, Finish, Take, TakeFrom, Halt}
use Rattle.pl_runs.specs.Steps.{Step, sends_on, ends_on, finishes, is_done, is_halt, takes_of}
use Rattle.pl_runs.specs.Wanting.{Want, want_in}

pub and_no : (b : Bool) → (b && false) ≡ false
and_no true = refl
and_no false = refl

pub not_both : {A : Type 0} (b : Bool) → b ≡ true → b ≡ false → A
not_both b e f = absurd (cc)

-- ---- a take

pub take_sends : (n motion : ℕ) (to : ℤ) (ask : PortAsk) → takes_of n ask ≡ true → sends_on motion to ask ≡ false
take_sends n motion to (Take a) e = refl
take_sends n motion to (TakeFrom a b) e = refl
take_sends n motion to (Put a b chunk) e = absurd (cc)
take_sends n motion to (Finish a b) e = absurd (cc)
take_sends n motion to (Halt a b) e = absurd (cc)

pub take_halts : (n : ℕ) (ask : PortAsk) → takes_of n ask ≡ true → is_halt ask ≡ false
take_halts n (Take a) e = refl
take_halts n (TakeFrom a b) e = refl
take_halts n (Put a b chunk) e = absurd (cc)
take_halts n (Finish a b) e = absurd (cc)
take_halts n (Halt a b) e = absurd (cc)

same_number : (a m n : ℕ) → (a == m) ≡ true → (a == n) ≡ true → m ≡ n
same_number a m n e f = grind (arith, nat_tests)

pub take_motion : (m n : ℕ) (ask : PortAsk) → takes_of m ask ≡ true → takes_of n ask ≡ true → m ≡ n
take_motion m n (Take a) e f = same_number a m n e f
take_motion m n (TakeFrom a b) e f = same_number a m n e f
take_motion m n (Put a b chunk) e f = absurd (cc)
take_motion m n (Finish a b) e f = absurd (cc)
take_motion m n (Halt a b) e f = absurd (cc)

-- ---- what sends nothing

pub no_ends : (motion : ℕ) (to : ℤ) (ask : PortAsk) → sends_on motion to ask ≡ false → ends_on motion to ask ≡ false
no_ends motion to (Take a) e = refl
no_ends motion to (TakeFrom a b) e = refl
no_ends motion to (Put a b chunk) e = refl
no_ends motion to (Finish a b) e = e
no_ends motion to (Halt a b) e = refl

pub no_finish : (motion : ℕ) (to : ℤ) (s : Step) → ends_on motion to s.entry.ask ≡ false → finishes motion to s ≡ true → ⊥
no_finish motion to s e f = not_both (is_done s.entry.reply && ends_on motion to s.entry.ask) f (ap (λ b. is_done s.entry.reply && b) e ∙ and_no (is_done s.entry.reply))

-- ---- a call of a known kind

pub no_want : (ask : PortAsk) (want : Want) → want_in ask ≡ None → want_in ask ≡ Some want → ⊥
no_want ask want e f = let bad : None ≡ Some want = sym e ∙ f in cc

-- a put or a finish on another connection, and what it is on its own
on_same : (m n : ℕ) (a b : ℤ) → ((m == n) && int_eq a b) ≡ true → (m ≡ n) × (a ≡ b)
on_same m n a b e = (number m n (left (m == n) (int_eq a b) e), (Decides-int_eq a b).0 (right (m == n) (int_eq a b) e))
  where
    left : (x y : Bool) → (x && y) ≡ true → x ≡ true
    left true y e = refl
    left false y e = e

    right : (x y : Bool) → (x && y) ≡ true → y ≡ true
    right true y e = e
    right false y e = absurd (cc)

    number : (m n : ℕ) → (m == n) ≡ true → m ≡ n
    number m n e = grind (arith, nat_tests)

pub put_on_same : (m n : ℕ) (a b : ℤ) (chunk : List ℕ) → sends_on n b (Put m a chunk) ≡ true → (m ≡ n) × (a ≡ b)
put_on_same m n a b chunk e = on_same m n a b e

pub finish_on_same : (m n : ℕ) (a b : ℤ) → sends_on n b (Finish m a) ≡ true → (m ≡ n) × (a ≡ b)
finish_on_same m n a b e = on_same m n a b e
