-- Each step and each row leaves a join with less to do.
use Rattle.std.proofs.Common.{◌≡◌, ℕ, zero, suc, ◌+◌, ◌*◌, ◌≤◌, ◌<◌, Result, Ok, Err, refl, sym, ap, ◌∙◌, subst, arith}
use Rattle.std.specs.Prelude.{IfOk, OnOk}
use Rattle.std.proofs.lemmas.Nat.{mul-le}
use Rattle.pl_ops.specs.declared.words.Side.TheVariants.{Left, Right}
use Rattle.ex_join.specs.Tables.{total}
use Rattle.ex_join.specs.Joins.{Joining}
use Rattle.ex_join.specs.Joins as joins
use Rattle.ex_tree.specs.declared.answers.Pulled.{Pulled}
use Rattle.ex_tree.specs.declared.answers.Pulled.TheVariants.{Row, Step, More, Wait, End}
use Rattle.ex_tree.specs.declared.answers.TreeNo.{TreeNo}
use Rattle.ex_tree.specs.Working.{both_work, work, Falls}
use Rattle.ex_tree.specs.Running.{State, Two}
use Rattle.ex_tree.specs.Nodes.{PassedWork2, Becomes}

times_suc : (m l : ℕ) → m * suc l ≡ m * l + m
times_suc m l = omega arith

-- what becomes of a child's answer is less, where a step is
pub by_step : (g r : Pulled) (a b : ℕ) → Becomes g (Ok r) → (r ≡ Step → b < a) → Falls r a b
by_step g (Row row) a b e f = absurd (none g e)
  where
    none : (g : Pulled) → Becomes g (Ok (Row row)) → ⊥
    none (Row other) e = e
    none Step e = e
    none More e = e
    none (Wait no_) e = e
    none End e = e
by_step g Step a b e f = f refl
by_step g More a b e f = tt
by_step g (Wait no_) a b e f = tt
by_step g End a b e f = absurd (none g e)
  where
    none : (g : Pulled) → Becomes g (Ok End) → ⊥
    none (Row other) e = e
    none Step e = e
    none More e = e
    none (Wait no_) e = e
    none End e = e

step_times : (m x y : ℕ) → y < x → m * y + m ≤ m * x
step_times m x y h = let e = mul-le m (suc y) m x (omega arith) (omega (arith, h)) in omega (arith, e, times_suc m y)

-- fewer left rows to come
left_less : (v w R S x y r : ℕ) → S ≡ R → w ≤ v + R → y < x → w + both_work S y r < v + both_work R x r
left_less v w R S x y r s h f = subst (λ t. w + both_work t y r < v + both_work R x r) (sym s) (let e = step_times (R + r + 2) x y f in omega (arith, e, h))

left_over : (v w R S x y r : ℕ) → S ≡ R → w < v → y ≤ x → w + both_work S y r < v + both_work R x r
left_over v w R S x y r s h f = subst (λ t. w + both_work t y r < v + both_work R x r) (sym s) (let e = mul-le (R + r + 2) y (R + r + 2) x (omega arith) f in omega (arith, e, h))

right_less : (v w R S x r q : ℕ) → S ≤ R + 1 → w ≤ v → q < r → w + both_work S x q < v + both_work R x r
right_less v w R S x r q s h f = let e = mul-le (S + q + 2) x (R + r + 2) x (omega (arith, s, f)) (omega arith) in omega (arith, e, h, f)

right_over : (v w R S x r q : ℕ) → S ≤ R → w < v → q ≤ r → w + both_work S x q < v + both_work R x r
right_over v w R S x r q s h f = let e = mul-le (S + q + 2) x (R + r + 2) x (omega (arith, s, f)) (omega arith) in omega (arith, e, h, f)

pub left_falls : (g r : Pulled) (i j k : Joining) (x y z : ℕ) → joins.work j ≤ joins.work i → total j.table ≡ total i.table → PassedWork2 Left j k g → Falls g x y → Becomes g (Ok r) → Falls r (joins.work i + both_work (total i.table) x z) (joins.work k + both_work (total k.table) y z)
left_falls g r i j k x y z w s p f e = by_step g r (joins.work i + both_work (total i.table) x z) (joins.work k + both_work (total k.table) y z) e (λ q. by g p f (subst (λ r. Becomes g (Ok r)) q e))
  where
    by : (g : Pulled) → PassedWork2 Left j k g → Falls g x y → Becomes g (Ok Step) → joins.work k + both_work (total k.table) y z < joins.work i + both_work (total i.table) x z
    by (Row row) p f e = left_less (joins.work i) (joins.work k) (total i.table) (total k.table) x y z (p.1 ∙ s) (let a = p.0 in omega (arith, a, s, w)) f
    by Step p f e = left_less (joins.work i) (joins.work k) (total i.table) (total k.table) x y z (p.1 ∙ s) (let a = p.0 in omega (arith, a, s, w)) f
    by More p f e = absurd e
    by (Wait no_) p f e = absurd e
    by End p f e = left_over (joins.work i) (joins.work k) (total i.table) (total k.table) x y z (p.1 ∙ s) (let a = p.0 in omega (arith, a, w)) f

pub right_falls : (g r : Pulled) (i j k : Joining) (x y z : ℕ) → joins.work j ≤ joins.work i → total j.table ≡ total i.table → PassedWork2 Right j k g → Falls g y z → Becomes g (Ok r) → Falls r (joins.work i + both_work (total i.table) x y) (joins.work k + both_work (total k.table) x z)
right_falls g r i j k x y z w s p f e = by_step g r (joins.work i + both_work (total i.table) x y) (joins.work k + both_work (total k.table) x z) e (λ q. by g p f (subst (λ r. Becomes g (Ok r)) q e))
  where
    by : (g : Pulled) → PassedWork2 Right j k g → Falls g y z → Becomes g (Ok Step) → joins.work k + both_work (total k.table) x z < joins.work i + both_work (total i.table) x y
    by (Row row) p f e = right_less (joins.work i) (joins.work k) (total i.table) (total k.table) x y z (let b = p.1 in omega (arith, b, s)) (let a = p.0 in omega (arith, a, w)) f
    by Step p f e = right_less (joins.work i) (joins.work k) (total i.table) (total k.table) x y z (let b = p.1 in omega (arith, b, s)) (let a = p.0 in omega (arith, a, w)) f
    by More p f e = absurd e
    by (Wait no_) p f e = absurd e
    by End p f e = right_over (joins.work i) (joins.work k) (total i.table) (total k.table) x y z (let b = p.1 in omega (arith, b, s)) (let a = p.0 in omega (arith, a, w)) f

-- ---- through one pull

two_j : (a b : Joining) (w x y z : State) → Two a w x ≡ Two b y z → a ≡ b
two_j a b w x y z e = cc

two_l : (a b : Joining) (w x y z : State) → Two a w x ≡ Two b y z → w ≡ y
two_l a b w x y z e = cc

two_r : (a b : Joining) (w x y z : State) → Two a w x ≡ Two b y z → x ≡ z
two_r a b w x y z e = cc

module _ (s t : State) (was asked mid last new : Joining) (x y x1 y1 z x2 y2 : State) (d : s ≡ Two was x y) (e : Two asked x y ≡ Two mid x1 y1) (u : t ≡ Two new x2 y2) (g : Pulled) (less : joins.work asked ≤ joins.work was) (same : asked.table ≡ was.table) where
  pub left_fell : Two mid z y1 ≡ Two last x2 y2 → (result : Result Pulled TreeNo) → Falls g (work x1) (work z) → OnOk result (PassedWork2 Left last new g) → Becomes g result → IfOk result (λ r. Falls r (work s) (work t))
  left_fell f (Ok r) h p b =
      let j = two_j asked mid x y x1 y1 e ∙ two_j mid last z y1 x2 y2 f in
      let falls = left_falls g r was asked new (work x1) (work z) (work y) less (ap total same) (subst (λ k. PassedWork2 Left k new g) (sym j) p) h b in
      subst (λ k. Falls r (work k) (work t)) (sym d) (subst (λ k. Falls r (work (Two was x y)) (work k)) (sym u)
      (subst (λ k. Falls r (work (Two was k y)) (work (Two new x2 y2))) (sym (two_l asked mid x y x1 y1 e))
      (subst (λ k. Falls r (work (Two was x1 y)) (work (Two new k y2))) (two_l mid last z y1 x2 y2 f)
      (subst (λ k. Falls r (work (Two was x1 y)) (work (Two new z k))) (two_r asked mid x y x1 y1 e ∙ two_r mid last z y1 x2 y2 f) falls))))
  left_fell f (Err no_) h p b = tt

  pub right_fell : Two mid x1 z ≡ Two last x2 y2 → (result : Result Pulled TreeNo) → Falls g (work y1) (work z) → OnOk result (PassedWork2 Right last new g) → Becomes g result → IfOk result (λ r. Falls r (work s) (work t))
  right_fell f (Ok r) h p b =
      let j = two_j asked mid x y x1 y1 e ∙ two_j mid last x1 z x2 y2 f in
      let falls = right_falls g r was asked new (work x) (work y1) (work z) less (ap total same) (subst (λ k. PassedWork2 Right k new g) (sym j) p) h b in
      subst (λ k. Falls r (work k) (work t)) (sym d) (subst (λ k. Falls r (work (Two was x y)) (work k)) (sym u)
      (subst (λ k. Falls r (work (Two was x k)) (work (Two new x2 y2))) (sym (two_r asked mid x y x1 y1 e))
      (subst (λ k. Falls r (work (Two was x y1)) (work (Two new x2 k))) (two_r mid last x1 z x2 y2 f)
      (subst (λ k. Falls r (work (Two was x y1)) (work (Two new k z))) (two_l asked mid x y x1 y1 e ∙ two_l mid last x1 z x2 y2 f) falls))))
  right_fell f (Err no_) h p b = tt
