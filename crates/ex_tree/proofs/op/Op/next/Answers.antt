use Rattle.std.proofs.Common.{◌≡◌, refl, sym, subst, List, ℕ, None}
use Rattle.std.specs.Prelude.{IfOk}
use Rattle.ic_row.specs.declared.order.Key.{Key}
use Rattle.pl_expr.specs.declared.expr.Expr.{Expr}
use Rattle.pl_ops.specs.declared.words.Next.{Next}
use Rattle.pl_ops.specs.declared.words.Next.TheVariants.{Wants}
use Rattle.pl_ops.specs.declared.words.Side.{Side}
use Rattle.pl_ops.specs.declared.words.Side.TheVariants.{Left}
use Rattle.pl_ops.specs.Streams.{filter_stream, project_stream, limit_stream, sort_stream}
use Rattle.ex_basic.specs.Single.{Answers}
use Rattle.ex_basic.specs.Filters as filters
use Rattle.ex_basic.specs.Projects as projects
use Rattle.ex_basic.specs.Limits as limits
use Rattle.ex_basic.specs.Sorts as sorts
use Rattle.ex_agg.specs.Aggs as aggs
use Rattle.ex_tree.specs.declared.op.Op.TheVariants as ops
use Rattle.ex_tree.specs.Parts.{Single, Filters, Projects, Limits, Sorts, one_stream}
use Rattle.ex_tree.specs.Operators.{Gives, IsWanting}
use Rattle.ex_tree.proofs.Singles.{answers, both_if, never_right, wants_left, agg_answers, both_on}
use Rattle.ex_tree.proofs.op.Op.next.Goals as goal

pub returns-in-Filter-clause-answers : goal.returns-in-Filter-clause-answers
returns-in-Filter-clause-answers c =
    both_if c.next.result (λ next. (x : Expr) → Answers (filters.Gives x) (filter_stream x) c.in-Filter.filter c.next.new.self next) (λ next. (side : Side) → next ≡ Wants side → filters.IsWanting side c.next.new.self)
    (λ next. (p : Single) → Answers (Gives p) (one_stream p) c.args.self.now (ops.Filter c.next.new.self) next) c.next.ensures.answers c.next.ensures.wants
    (λ next f w p. subst (λ o. Answers (Gives p) (one_stream p) o (ops.Filter c.next.new.self) next) (sym c.in-Filter.is)
    (answers filters.Gives filter_stream Filters ops.Filter (λ p o s a g. g) (λ o s a x h. (x, refl, h)) (λ x s. refl) c.in-Filter.filter c.next.new.self next f (never_right next (λ side. filters.IsWanting side c.next.new.self) (λ e. e) w) p))

pub returns-in-Filter-clause-wants : goal.returns-in-Filter-clause-wants
returns-in-Filter-clause-wants c =
    both_if c.next.result (λ next. (side : Side) → next ≡ Wants side → filters.IsWanting side c.next.new.self) (λ next. (side : Side) → next ≡ Wants side → filters.IsWanting side c.next.new.self)
    (λ next. (side : Side) → next ≡ Wants side → filters.IsWanting Left c.next.new.self) c.next.ensures.wants c.next.ensures.wants
    (λ next f w. wants_left next (λ side. filters.IsWanting side c.next.new.self) (λ e. e) w)

pub returns-in-Project-clause-answers : goal.returns-in-Project-clause-answers
returns-in-Project-clause-answers c =
    both_if c.next-in-Project.result (λ next. (x : List ℕ) → Answers (projects.Gives x) (project_stream x) c.in-Project.project c.next-in-Project.new.self next) (λ next. (side : Side) → next ≡ Wants side → projects.IsWanting side c.next-in-Project.new.self)
    (λ next. (p : Single) → Answers (Gives p) (one_stream p) c.args.self.now (ops.Project c.next-in-Project.new.self) next) c.next-in-Project.ensures.answers c.next-in-Project.ensures.wants
    (λ next f w p. subst (λ o. Answers (Gives p) (one_stream p) o (ops.Project c.next-in-Project.new.self) next) (sym c.in-Project.is)
    (answers projects.Gives project_stream Projects ops.Project (λ p o s a g. g) (λ o s a x h. (x, refl, h)) (λ x s. refl) c.in-Project.project c.next-in-Project.new.self next f (never_right next (λ side. projects.IsWanting side c.next-in-Project.new.self) (λ e. e) w) p))

pub returns-in-Project-clause-wants : goal.returns-in-Project-clause-wants
returns-in-Project-clause-wants c =
    both_if c.next-in-Project.result (λ next. (side : Side) → next ≡ Wants side → projects.IsWanting side c.next-in-Project.new.self) (λ next. (side : Side) → next ≡ Wants side → projects.IsWanting side c.next-in-Project.new.self)
    (λ next. (side : Side) → next ≡ Wants side → projects.IsWanting Left c.next-in-Project.new.self) c.next-in-Project.ensures.wants c.next-in-Project.ensures.wants
    (λ next f w. wants_left next (λ side. projects.IsWanting side c.next-in-Project.new.self) (λ e. e) w)

pub returns-in-Limit-clause-answers : goal.returns-in-Limit-clause-answers
returns-in-Limit-clause-answers c =
    both_if c.next-in-Limit.result (λ next. (x : ℕ) → Answers (limits.Gives x) (limit_stream x) c.in-Limit.limit c.next-in-Limit.new.self next) (λ next. (side : Side) → next ≡ Wants side → limits.IsWanting side c.next-in-Limit.new.self)
    (λ next. (p : Single) → Answers (Gives p) (one_stream p) c.args.self.now (ops.Limit c.next-in-Limit.new.self) next) c.next-in-Limit.ensures.answers c.next-in-Limit.ensures.wants
    (λ next f w p. subst (λ o. Answers (Gives p) (one_stream p) o (ops.Limit c.next-in-Limit.new.self) next) (sym c.in-Limit.is)
    (answers limits.Gives limit_stream Limits ops.Limit (λ p o s a g. g) (λ o s a x h. (x, refl, h)) (λ x s. refl) c.in-Limit.limit c.next-in-Limit.new.self next f (never_right next (λ side. limits.IsWanting side c.next-in-Limit.new.self) (λ e. e) w) p))

pub returns-in-Limit-clause-wants : goal.returns-in-Limit-clause-wants
returns-in-Limit-clause-wants c =
    both_if c.next-in-Limit.result (λ next. (side : Side) → next ≡ Wants side → limits.IsWanting side c.next-in-Limit.new.self) (λ next. (side : Side) → next ≡ Wants side → limits.IsWanting side c.next-in-Limit.new.self)
    (λ next. (side : Side) → next ≡ Wants side → limits.IsWanting Left c.next-in-Limit.new.self) c.next-in-Limit.ensures.wants c.next-in-Limit.ensures.wants
    (λ next f w. wants_left next (λ side. limits.IsWanting side c.next-in-Limit.new.self) (λ e. e) w)

pub returns-in-Sort-clause-answers : goal.returns-in-Sort-clause-answers
returns-in-Sort-clause-answers c =
    both_if c.next-in-Sort.result (λ next. (x : List Key) → Answers (sorts.Gives x) (sort_stream x) c.in-Sort.sort c.next-in-Sort.new.self next) (λ next. (side : Side) → next ≡ Wants side → sorts.IsWanting side c.next-in-Sort.new.self)
    (λ next. (p : Single) → Answers (Gives p) (one_stream p) c.args.self.now (ops.Sort c.next-in-Sort.new.self) next) c.next-in-Sort.ensures.answers c.next-in-Sort.ensures.wants
    (λ next f w p. subst (λ o. Answers (Gives p) (one_stream p) o (ops.Sort c.next-in-Sort.new.self) next) (sym c.in-Sort.is)
    (answers sorts.Gives sort_stream Sorts ops.Sort (λ p o s a g. g) (λ o s a x h. (x, refl, h)) (λ x s. refl) c.in-Sort.sort c.next-in-Sort.new.self next f (never_right next (λ side. sorts.IsWanting side c.next-in-Sort.new.self) (λ e. e) w) p))

pub returns-in-Sort-clause-wants : goal.returns-in-Sort-clause-wants
returns-in-Sort-clause-wants c =
    both_if c.next-in-Sort.result (λ next. (side : Side) → next ≡ Wants side → sorts.IsWanting side c.next-in-Sort.new.self) (λ next. (side : Side) → next ≡ Wants side → sorts.IsWanting side c.next-in-Sort.new.self)
    (λ next. (side : Side) → next ≡ Wants side → sorts.IsWanting Left c.next-in-Sort.new.self) c.next-in-Sort.ensures.wants c.next-in-Sort.ensures.wants
    (λ next f w. wants_left next (λ side. sorts.IsWanting side c.next-in-Sort.new.self) (λ e. e) w)

pub returns-in-Agg-clause-answers : goal.returns-in-Agg-clause-answers
returns-in-Agg-clause-answers c =
    both_if c.next-in-Agg.result (λ next. aggs.Answers c.in-Agg.agg c.next-in-Agg.new.self next × (c.next-in-Agg.new.self.refused ≡ None)) (λ next. (side : Side) → next ≡ Wants side → aggs.IsWanting side c.next-in-Agg.new.self)
    (λ next. (p : Single) → Answers (Gives p) (one_stream p) c.args.self.now (ops.Agg c.next-in-Agg.new.self c.in-Agg.field-1) next)
    (both_on c.next-in-Agg.result (λ next. aggs.Answers c.in-Agg.agg c.next-in-Agg.new.self next) (c.next-in-Agg.new.self.refused ≡ None) c.next-in-Agg.ensures.answers c.next-in-Agg.ensures.goes_on) c.next-in-Agg.ensures.wants
    (λ next f w p. subst (λ o. Answers (Gives p) (one_stream p) o (ops.Agg c.next-in-Agg.new.self c.in-Agg.field-1) next) (sym c.in-Agg.is)
    (agg_answers c.in-Agg.agg c.next-in-Agg.new.self c.in-Agg.field-1 next f.0 (never_right next (λ side. aggs.IsWanting side c.next-in-Agg.new.self) (λ e. e) w) f.1 p))

pub returns-in-Agg-clause-wants : goal.returns-in-Agg-clause-wants
returns-in-Agg-clause-wants c =
    both_if c.next-in-Agg.result (λ next. (side : Side) → next ≡ Wants side → aggs.IsWanting side c.next-in-Agg.new.self) (λ next. (side : Side) → next ≡ Wants side → aggs.IsWanting side c.next-in-Agg.new.self)
    (λ next. (side : Side) → next ≡ Wants side → aggs.IsWanting Left c.next-in-Agg.new.self) c.next-in-Agg.ensures.wants c.next-in-Agg.ensures.wants
    (λ next f w. wants_left next (λ side. aggs.IsWanting side c.next-in-Agg.new.self) (λ e. e) w)
