-- What has ended stays ended.
use Rattle.std.proofs.Common.{◌≡◌, ◌≢◌, ◌==◌, ℕ, Bool, true, false, cond, if◌then◌else◌, List, position, Option, None, Some, refl, sym, ap, ◌∙◌, true≢false, arith}
use Rattle.std.proofs.Math.Nat.{le-max_left}
use Rattle.std.proofs.lemmas.Bool.{ne_eqb, leb-true, le-leb}
use Rattle.std.specs.FinMap.{get}
use Rattle.ic_base.specs.Keys.{key_eq}
use Rattle.ic_base.specs.declared.keys.ConnKey.{ConnKey}
use Rattle.ic_conntab.specs.declared.answer.Find.{Find}
use Rattle.ic_conntab.specs.declared.answer.Find.TheVariants.{Foreign, Ended, NotBegun}
use Rattle.ic_conntab.specs.Table.{Table, is_past, placed, found, found_in, raised}
use Rattle.ic_conntab.specs.Laws.{Becomes, IsNoLess, TopNeverFalls, EndedForGood}
use Rattle.ic_conntab.specs.Laws.Becomes.{stays, begins, leaves}
use Rattle.ic_conntab.proofs.Entries.{get_put, get_taken}

-- ---- the greatest id

no_less-itself : (top : Option ℕ) → IsNoLess top top
no_less-itself None = tt
no_less-itself (Some top) = omega arith

raised_no_less : (old top : Option ℕ) (query : ℕ) → IsNoLess old top → IsNoLess old (Some (raised top query))
raised_no_less None top query h = tt
raised_no_less (Some old) None query h = absurd h
raised_no_less (Some old) (Some top) query h = omega (arith, le-max_left top query)

pub top_never_falls : TopNeverFalls
top_never_falls t u stays = no_less-itself t.top
top_never_falls t u (begins v query keys way may) = top_never_falls t v way
top_never_falls t u (leaves v query way live) = raised_no_less t.top v.top query (top_never_falls t v way)

-- ---- a key

-- why a key has ended
record HasEnded (t : Table) (key : ConnKey) : Type 0 where
  session : (key.session == t.session) ≡ true
  not_live : get t.live key.query ≡ None
  past : is_past t.top key.query ≡ true

is_ended : Find → Bool
is_ended Ended = true
is_ended _ = false

placed_not_ended : (place : Option ℕ) → placed place ≢ Ended
unfolding is_ended
placed_not_ended None h = true≢false (sym (ap is_ended h))
placed_not_ended (Some place) h = true≢false (sym (ap is_ended h))

why_in : (t : Table) (key : ConnKey) (b : Bool) (of_query : Option (List ConnKey)) (past : Bool)
    → (key.session == t.session) ≡ b → get t.live key.query ≡ of_query → is_past t.top key.query ≡ past
    → (if b then found_in t.top of_query key else Foreign) ≡ Ended → HasEnded t key
unfolding is_ended
why_in t key false of_query past sb lb pb h = absurd (true≢false (sym (ap is_ended h)))
why_in t key true (Some keys) past sb lb pb h = absurd (placed_not_ended (position (key_eq key) keys) h)
why_in t key true None false sb lb pb h = absurd (true≢false (sym (ap is_ended h) ∙ ap (λ b. is_ended (if b then Ended else NotBegun)) pb))
why_in t key true None true sb lb pb h = record { session = sb; not_live = lb; past = pb }

why : (t : Table) (key : ConnKey) → found t key ≡ Ended → HasEnded t key
why t key h = why_in t key _ _ _ refl refl refl h

so : (t : Table) (key : ConnKey) → HasEnded t key → found t key ≡ Ended
so t key h =
    ap (λ b. if b then found_in t.top (get t.live key.query) key else Foreign) h.session
    ∙ ap (λ o. found_in t.top o key) h.not_live
    ∙ ap (λ b. if b then Ended else NotBegun) h.past

still_past : (top : Option ℕ) (query n : ℕ) → is_past top n ≡ true → is_past (Some (raised top query)) n ≡ true
still_past None query n h = absurd (true≢false (sym h))
still_past (Some top) query n h = le-leb _ _ (omega (arith, leb-true n top h, le-max_left top query))

-- a query that isn't past is no query that has ended
apart : (top : Option ℕ) (query n : ℕ) → is_past top query ≡ false → is_past top n ≡ true → query ≢ n
apart top query n new past e = true≢false (sym past ∙ ap (is_past top) (sym e) ∙ new)

none_either_way : (b : Bool) → cond {A = Option (List ConnKey)} b None None ≡ None
none_either_way true = refl
none_either_way false = refl

ends : (t u : Table) (key : ConnKey) → Becomes t u → HasEnded t key → HasEnded u key
ends t u key stays h = h
ends t u key (begins v query keys way may) h =
    let w : HasEnded v key = ends t v key way h in
    record {
      session = w.session;
      not_live = get_put v.live query keys key.query ∙ ap (λ b. cond b (Some keys) (get v.live key.query)) (ne_eqb _ _ (apart v.top query key.query may.0 w.past)) ∙ w.not_live;
      past = w.past;
    }
ends t u key (leaves v query way live) h =
    let w : HasEnded v key = ends t v key way h in
    record {
      session = w.session;
      not_live = get_taken v.live query key.query ∙ ap (λ o. cond (query == key.query) None o) w.not_live ∙ none_either_way (query == key.query);
      past = still_past v.top query key.query w.past;
    }

pub ended_for_good : EndedForGood
ended_for_good t u key way h = so u key (ends t u key way (why t key h))
