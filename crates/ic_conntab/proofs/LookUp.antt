-- What is found after a query has begun, and after one was left.
use Rattle.std.proofs.Common.{◌≡◌, ◌==◌, ℕ, true, cond, if◌then◌else◌, List, Option, None, Some, refl, sym, ap, ◌∙◌, IsSome, true≢false, arith}
use Rattle.std.proofs.Math.Nat.{le-max_right}
use Rattle.std.proofs.lemmas.Bool.{eq-eqb, ne_eqb, le-leb}
use Rattle.std.specs.FinMap.{get}
use Rattle.ic_base.specs.declared.keys.ConnKey.{ConnKey}
use Rattle.ic_conntab.specs.declared.answer.Find.TheVariants.{Foreign, Ended, NotBegun}
use Rattle.ic_conntab.specs.Table.{Table, is_past, found, found_in, begun, left, raised}
use Rattle.ic_conntab.specs.Laws.{BegunIsFound, LeftIsEnded}
use Rattle.ic_conntab.proofs.Entries.{get_put, get_taken}

-- what is found of a key of the table's session, by what its query has
pub found_here : (t : Table) (key : ConnKey) (of_query : Option (List ConnKey)) → key.session ≡ t.session → get t.live key.query ≡ of_query
    → found t key ≡ found_in t.top of_query key
found_here t key of_query session is =
    ap (λ b. if b then found_in t.top (get t.live key.query) key else Foreign) (eq-eqb _ _ session) ∙ ap (λ o. found_in t.top o key) is

-- what is found of a key depends on its query, and, if that isn't live, on the greatest ended number
same_query : (t u : Table) (key : ConnKey) → u.session ≡ t.session → u.top ≡ t.top → get u.live key.query ≡ get t.live key.query → found u key ≡ found t key
same_query t u key session top live i = if key.session == session i then found_in (top i) (live i) key else Foreign

live_found : (top other : Option ℕ) (of_query : Option (List ConnKey)) (key : ConnKey) → IsSome of_query → found_in top of_query key ≡ found_in other of_query key
live_found top other None key is = absurd (true≢false (sym is))
live_found top other (Some keys) key is = refl

-- a number isn't above the greater of itself and another, nor above the greater of one that it isn't above
pub past_itself : (top : Option ℕ) (query : ℕ) → is_past (Some (raised top query)) query ≡ true
past_itself None query = le-leb _ _ (omega arith)
past_itself (Some top) query = le-leb _ _ (le-max_right top query)

pub begun_is_found : BegunIsFound
begun_is_found t query keys key = (
  λ session is. found_here (begun t query keys) key (Some keys) session
      (get_put t.live query keys key.query ∙ ap (λ b. cond b (Some keys) (get t.live key.query)) (eq-eqb _ _ (sym is))),
  λ other. same_query t (begun t query keys) key refl refl
      (get_put t.live query keys key.query ∙ ap (λ b. cond b (Some keys) (get t.live key.query)) (ne_eqb _ _ (λ e. other (sym e)))),
)

pub left_is_ended : LeftIsEnded
left_is_ended t query key = (
  λ session is. found_here (left t query) key None session
      (get_taken t.live query key.query ∙ ap (λ b. cond b None (get t.live key.query)) (eq-eqb _ _ (sym is)))
      ∙ ap (λ b. if b then Ended else NotBegun) (ap (is_past (Some (raised t.top query))) is ∙ past_itself t.top query),
  λ other live. ap (λ o. if key.session == t.session then found_in (Some (raised t.top query)) o key else Foreign)
      (get_taken t.live query key.query ∙ ap (λ b. cond b None (get t.live key.query)) (ne_eqb _ _ (λ e. other (sym e))))
      ∙ ap (λ f. if key.session == t.session then f else Foreign) (live_found (Some (raised t.top query)) t.top (get t.live key.query) key live),
)
