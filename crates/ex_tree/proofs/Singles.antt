-- What an operator of each kind says, said of any operator with one input.
use Rattle.std.proofs.Common.{◌≡◌, ℕ, Bool, false, List, [], ◌∷◌, ◌++◌, Option, None, Some, Result, Ok, Err, refl, sym, ap, ◌∙◌, subst}
use Rattle.std.specs.Prelude.{IfOk, OnOk}
use Rattle.ic_row.specs.declared.order.Key.{Key}
use Rattle.pl_expr.specs.declared.expr.Expr.{Expr}
use Rattle.pl_tree.specs.declared.node.Call.{Call}
use Rattle.pl_ops.specs.declared.words.Side.{Side}
use Rattle.pl_ops.specs.declared.words.Side.TheVariants.{Left, Right}
use Rattle.pl_ops.specs.declared.words.Next.{Next}
use Rattle.pl_ops.specs.declared.words.Next.TheVariants.{Row, Wants, End}
use Rattle.pl_ops.specs.declared.words.OpNo.{OpNo}
use Rattle.pl_ops.specs.declared.words.OpNo.TheVariants as nos
use Rattle.pl_ops.specs.Rows.{Line}
use Rattle.pl_ops.specs.Streams.{Stream, filter_stream, project_stream, limit_stream, sort_stream}
use Rattle.pl_ops.specs.Giving.{with_row, at_its_end, IsAll, IsOver}
use Rattle.ex_basic.specs.Single.{Answers, Given, Ended}
use Rattle.ex_agg.specs.Aggs.{Grouping}
use Rattle.ex_agg.specs.Aggs as aggs
use Rattle.ex_tree.specs.declared.op.Op.{Op}
use Rattle.ex_tree.specs.declared.op.Op.TheVariants as ops
use Rattle.ex_tree.specs.declared.answers.TreeNo.{TreeNo}
use Rattle.ex_tree.specs.declared.answers.TreeNo.TheVariants as why
use Rattle.ex_tree.specs.Parts.{Single, Groups, one_stream, IsTooMuch}
use Rattle.ex_tree.specs.Operators.{Gives, RefusesRow}
use Rattle.ex_tree.specs.Inside.{no_of}

-- ---- kinds with one word

-- of operators seen as `S`, with a word of `A`
module _ {S A : Type 0} (own : A → S → Stream → List Line → Type 0) (gives : A → Stream → Stream) (kind : A → Single) (as_op : S → Op) where
  -- how such an operator matches is how any operator does
  abbrev Fits : Type 0
  Fits = (p : Single) (o : S) (s : Stream) (a : List Line) → Gives p (as_op o) s a → (x : A) × (p ≡ kind x) × own x o s a

  abbrev Back : Type 0
  Back = (o : S) (s : Stream) (a : List Line) (x : A) → own x o s a → Gives (kind x) (as_op o) s a

  abbrev Streams : Type 0
  Streams = (x : A) (s : Stream) → one_stream (kind x) s ≡ gives x s

  pub answers : Fits → Back → Streams → (old new : S) (next : Next) → ((x : A) → Answers (own x) (gives x) old new next) → (next ≡ Wants Right → ⊥) → (p : Single) → Answers (Gives p) (one_stream p) (as_op old) (as_op new) next
  answers fits back streams old new (Row row) f never p =
      λ s a g.
      let k = fits p old s a g in
      subst (λ q. Gives q (as_op new) s (a ++ row ∷ [])) (sym k.1) (back new s (a ++ row ∷ []) k.0 (f k.0 s a k.2))
  answers fits back streams old new (Wants Left) f never p =
      λ s a g.
      let k = fits p old s a g in
      let w = f k.0 s a k.2 in
      (w.0, subst (λ q. IsAll (one_stream q s) a) (sym k.1) (subst (λ t. IsAll t a) (sym (streams k.0 s)) w.1), subst (λ q. Gives q (as_op new) s a) (sym k.1) (back new s a k.0 w.2))
  answers fits back streams old new (Wants Right) f never p = absurd (never refl)
  answers fits back streams old new End f never p =
      λ s a g.
      let k = fits p old s a g in
      let w = f k.0 s a k.2 in
      (subst (λ q. IsOver (one_stream q s) a) (sym k.1) (subst (λ t. IsOver t a) (sym (streams k.0 s)) w.0), subst (λ q. Gives q (as_op new) s a) (sym k.1) (back new s a k.0 w.1))

pub both_if : {X E : Type 0} (r : Result X E) (P Q R : X → Type 0) → IfOk r P → IfOk r Q → ((x : X) → P x → Q x → R x) → IfOk r R
both_if (Ok x) P Q R p q f = f x p q
both_if (Err e) P Q R p q f = tt

pub both_on : {X E : Type 0} (r : Result X E) (P : X → Type 0) (Q : Type 0) → IfOk r P → OnOk r Q → IfOk r (λ x. P x × Q)
both_on (Ok x) P Q p q = (p, q)
both_on (Err e) P Q p q = tt

-- what it wants, it wants of the left
pub never_right : (next : Next) (W : Side → Type 0) → (W Right → ⊥) → ((side : Side) → next ≡ Wants side → W side) → next ≡ Wants Right → ⊥
never_right next W none f e = none (f Right e)

pub wants_left : (next : Next) (W : Side → Type 0) → (W Right → ⊥) → ((side : Side) → next ≡ Wants side → W side) → (side : Side) → next ≡ Wants side → W Left
wants_left next W none f Left e = f Left e
wants_left next W none f Right e = absurd (none (f Right e))

-- ---- aggregates

pub agg_answers : (old new : Grouping) (node : ℕ) (next : Next) → aggs.Answers old new next → (next ≡ Wants Right → ⊥) → new.refused ≡ None → (p : Single) → Answers (Gives p) (one_stream p) (ops.Agg old node) (ops.Agg new node) next
agg_answers old new node (Row row) f never kept p = λ s a g. (g.0, g.1, g.2, kept, g.4, f g.0 g.1 g.2 s a g.5)
agg_answers old new node (Wants Left) f never kept p =
    λ s a g.
    let w = f g.0 g.1 g.2 s a g.5 in
    (w.0, subst (λ q. IsAll (one_stream q s) a) (sym g.4) w.1, (g.0, g.1, g.2, kept, g.4, w.2))
agg_answers old new node (Wants Right) f never kept p = absurd (never refl)
agg_answers old new node End f never kept p =
    λ s a g.
    let w = f g.0 g.1 g.2 s a g.5 in
    (subst (λ q. IsOver (one_stream q s) a) (sym g.4) w.0, (g.0, g.1, g.2, kept, g.4, w.1))

pub agg_refuses : (old : Grouping) (node : ℕ) (row : Line) (no_ : OpNo) → (no_ ≡ nos.Overflow → old.refused ≡ None → aggs.IsTooMuch old row) → RefusesRow (ops.Agg old node) row (no_of no_ node)
agg_refuses old node row nos.Overflow f = λ p s a g. subst (λ q. IsTooMuch q (s.rows ++ row ∷ []) node) (sym g.4) (refl, f refl g.3 g.0 g.1 g.2 s a g.5)
agg_refuses old node row nos.Memory f = tt
