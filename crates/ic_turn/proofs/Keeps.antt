-- Each step of a turn keeps its rule.
use Rattle.std.specs.Option.{unwrap_or}
use Rattle.std.proofs.Common.{◌≡◌, ◌≢◌, ℕ, zero, suc, ◌+◌, ◌-◌, ◌%◌, ◌^◌, ◌<◌, ◌≤◌, eqb, List, [], ◌∷◌, ◌++◌, length, get_or, set, refl, sym, ap, ◌∙◌, subst, ⊎_elim, arith, length-append, append-nil, mod-eq_of_lt, Option, Some, None, eq-eqb, ne_eqb}
use mathlib.Core.Logic.{dite}
use mathlib.Core.Option.{some, none, some-injective, some-ne-none}
use mathlib.Core.List.{map-append}
use native.Mathlib.Decide.{ℕ_discrete}
use lib.ListN.{get_elem?}
use lib.Seq.{set-get_or}
use prog.Atomic.{either}
use Rattle.atomic_table.specs.Table.{State, Me, step, keeps, takes, gives, stepped, put_back, rest, Allows, Splits, Joins, opening, Final, Seen}
use Rattle.atomic_table.proofs.Lists.{set_here, set_else, at_longer}
use Rattle.ic_turn.specs.declared.entry.Entry.{Entry}
use Rattle.ic_turn.specs.declared.view.Bench.{Bench}
use Rattle.ic_turn.specs.declared.view.Numbered.{Numbered}
use Rattle.ic_turn.specs.declared.view.Part.{Part}
use Rattle.ic_turn.specs.declared.view.View.{View}
use Rattle.ic_turn.specs.declared.view.Stage.{Stage}
use Rattle.ic_turn.specs.declared.view.Stage.TheVariants.{Idle, Noted, Holding, Ended}
use Rattle.ic_turn.specs.Parts.{placed, numbered, unnumbered, blank, blank_down, HasAll, Distinct, total, AreBelow}
use Rattle.ic_turn.specs.Views.{with_spares, with_own, own_number, held_of, opening_view, giver_view, given_view, both_views, gone}
use Rattle.ic_turn.specs.Rule.{Owns, OwnsEach, KnowsStage, KnowsAbout, IsKept}
use Rattle.ic_turn.specs.Steps.{IsLast, noted, drew, served, ended, Called, Met}
use Rattle.ic_turn.proofs.PartLemmas.{at_put, each_set, first_is, at_end, total_is, below_more, held_longer, distinct_longer, held_some, own_is, held_join, own_longer, others_own, handed, merged, blank_at, giver_parts, spare_owned, given_parts, else_parts, unmerged, both_parts, blank_distinct}

module _ {A R S : Type 0} where
  abbrev NotHolding : Stage A R S → Type 0
  NotHolding Idle = Unit {0}
  NotHolding (Noted n) = Unit {0}
  NotHolding (Holding t x) = ⊥
  NotHolding (Ended l) = Unit {0}

  abbrev ticket_of : Stage A R S → ℕ
  ticket_of (Holding t x) = t
  ticket_of _ = 0

module _ {M A R : Type 0} where
  abbrev pub bench_or : Bench M A R → List (ℕ × Option (Bench M A R)) → Bench M A R
  bench_or d [] = d
  bench_or d ((i, None) ∷ cs) = d
  bench_or d ((i, Some b) ∷ cs) = b

  last_same : (b : Bench M A R) (a a' : A) (r r' : R) → IsLast b a r → IsLast b a' r' → (a ≡ a') × (r ≡ r')
  last_same b a a' r r' l l' =
      let same : l.0 ≡ l'.0 = ap (λ o. unwrap_or o l.0) (sym l.1 ∙ l'.1) in
      (sym l.2 ∙ (ap (λ z. z.0.value) same ∙ l'.2), sym l.3 ∙ (ap (λ z. z.1.value) same ∙ l'.3))

-- the view with its stage left and one call more
abbrev pub done : {A R K S : Type 0} → ℕ → A → R → View A R K S → View A R K S
done t a r v = record v { stage = Idle; parts = with_own (placed t a r) v.parts }

pub missed : {A R K S : Type 0} (n : ℕ) (v w x : View A R K S) → w ≡ record v { stage = Noted n } → x ≡ record w { met = w.met + 1; stage = Idle } → Met v x
missed n v w x is then = then ∙ (λ j. record (is j) { met = (is j).met + 1; stage = Idle })

pub called_as : {A R K S : Type 0} (t : ℕ) (a : A) (r : R) (v w : View A R K S) → w ≡ done t a r v → Called v a r w
called_as t a r v w is = (t, is ∙ (λ j. record v { stage = Idle; met = sym (ap (λ z. z.met) is) j; parts = with_own (placed t a r) v.parts }))

module _ {M A R K S : Type 0} (kept_of : M → K) (state_of : M → S) (stands : K → S → List (Entry A R) → Type 0) (kept : K) (passes : ℕ) where
  abbrev B : Type 0
  B = Bench M A R

  abbrev V : Type 0
  V = View A R K S

  abbrev Rule : State (Option (Bench M A R)) (View A R K S) → Type 0
  Rule = IsKept kept_of state_of stands kept passes

  abbrev Parts : List (Numbered A R) → (ℕ → ℕ) → ℕ → V → Type 0
  Parts log owner j z = OwnsEach passes log owner j (held_of z) × Distinct (held_of z)

  -- the holder is another seat
  not_who : (s : State (Option (Bench M A R)) (View A R K S)) (r : Rule s) (id : ℕ) (v : V) → get_elem? s.views id ≡ some v → NotHolding v.stage → r.busy ≡ 1 → r.who ≢ id
  not_who s r id v at free b e =
      let h = r.held b in
      subst NotHolding (ap (λ (z : V). z.stage) (some-injective v h.0 (sym at ∙ (ap (get_elem? s.views) (sym e) ∙ h.3))) ∙ h.4) free

  -- a step that changes no word, and what one seat notes
  restages : (s : State (Option (Bench M A R)) (View A R K S)) (r : Rule s) (id : ℕ) (v : V) (stage : Stage A R S) (met i : ℕ) (cs : List (ℕ × Option B)) → get_elem? s.views id ≡ some v → NotHolding v.stage
      → KnowsStage (stands kept) passes r.log r.busy r.who id (held_of v) stage → Rule (stepped s i (get_or s.words i 0) id cs (record v { stage = stage; met = met }) keeps)
  restages s r id v stage met i cs at free knows = let w : V = record v { stage = stage; met = met } in
      subst (λ (ws : List ℕ). Rule record { words = ws; homes = s.homes; views = set s.views id w }) (sym (set-get_or s.words i 0)) record {
        log = r.log;
        busy = r.busy;
        who = r.who;
        owner = r.owner;
        words = r.words;
        few = r.few;
        below = r.below;
        at_home = r.at_home;
        held = λ b. let h = r.held b in (h.0, h.1, h.2, set_else s.views id r.who w (not_who s r id v at free b) ∙ h.3, h.4, h.5);
        each_stage = each_set (λ j z. KnowsStage (stands kept) passes r.log r.busy r.who j (held_of z) z.stage) s.views id w knows (λ j z _. r.each_stage j z);
        each_part = each_set (Parts r.log r.owner) s.views id w (r.each_part id v at) (λ j z _. r.each_part j z);
        each_about = each_set (λ j z. KnowsAbout kept passes z) s.views id w (r.each_about id v at) (λ j z _. r.each_about j z);
      }

  -- who holds all numbers and another seat with a part are one
  whole_owner : (log : List (Numbered A R)) (owner : ℕ → ℕ) (id j : ℕ) (ps qs : List (Part A R)) → HasAll passes ps → OwnsEach passes log owner id ps → 0 < length qs → OwnsEach passes log owner j qs → j ≡ id
  whole_owner log owner id j ps qs all mine long theirs =
      let first = first_is qs long in
      let own = theirs 0 first.0 first.1 in
      let found = all first.0.number own.0 in
      let here = mine found.0 found.1 found.2 in
      sym own.1 ∙ (ap owner (sym found.3) ∙ here.1)

  -- who holds all numbers finds no holder
  alone : (s : State (Option (Bench M A R)) (View A R K S)) (r : Rule s) (id : ℕ) (v : V) → get_elem? s.views id ≡ some v → NotHolding v.stage → HasAll passes (held_of v) → r.busy ≡ 0
  alone s r id v at free all = dite (ℕ_discrete r.busy 0) (λ z. z)
      (λ some_busy.
      let few = r.few in
      let one : r.busy ≡ 1 = omega arith in
      let h = r.held one in
      absurd (not_who s r id v at free one (whole_owner r.log r.owner id r.who (held_of v) (held_of h.0) all (r.each_part id v at).0 (held_some h.0.spare h.0.parts h.5) (r.each_part r.who h.0 h.3).0)))

  pub notes : (slots id : ℕ) (me : Me (Option (Bench M A R)) (View A R K S)) → me.0.stage ≡ Idle → Allows Rule slots id me 1 (λ n. n) (noted (step slots 1 0 0 none) me)
  notes slots id me idle s r wide at small =
      let n : ℕ = get_or s.words 1 0 in
      let now : n ≡ length r.log = ap (λ ws. get_or ws 1 0) r.words in
      let free : NotHolding me.0.stage = subst NotHolding (sym idle) tt in
      let parts = r.each_part id me.0 at in
      let sums : 0 < length me.0.parts → HasAll me.0.passes (held_of me.0) → total (held_of me.0) ≡ n = λ some_part all.
      total_is passes r.log (held_of me.0) parts.1 (subst (λ (z : ℕ). HasAll z (held_of me.0)) (r.each_about id me.0 at some_part).1 all) r.below (λ i p e. (parts.0 i p e).2) ∙ sym now in
      dite (ℕ_discrete n 18446744073709551615)
      (λ full. (record me.0 { met = me.0.met + 1; stage = Idle }, keeps, tt, restages s r id me.0 Idle (me.0.met + 1) 1 me.1 at free tt, (refl, (λ _. refl), (λ low. absurd (low full)), sums)))
      (λ low. (record me.0 { stage = Noted n }, keeps, tt, restages s r id me.0 (Noted n) me.0.met 1 me.1 at free (omega arith, (λ _. now)), (refl, (λ full. absurd (low full)), (λ _. refl), sums)))

  rest_stage : (log : List (Numbered A R)) (busy who id j : ℕ) (ps : List (Part A R)) (st : Stage A R S) → busy ≡ 0 → KnowsStage (stands kept) passes log busy who j ps st → KnowsStage (stands kept) passes log 1 id j ps st
  rest_stage log busy who id j ps Idle z k = tt
  rest_stage log busy who id j ps (Noted n) z k = k
  rest_stage log busy who id j ps (Holding t x) z k = let one = k.0 in absurd (omega arith)
  rest_stage log busy who id j ps (Ended l) z k = k

  pub draws : (slots id : ℕ) (me : Me (Option (Bench M A R)) (View A R K S)) (old new : ℕ) → me.0.stage ≡ Noted old → me.1 ≡ [] → 0 < length me.0.parts → new ≡ old + 1 → new < 18446744073709551616
      → Allows Rule slots id me 0 (λ n. either (eqb n old) new n) (drew kept_of state_of (step slots 0 old new none) me)
  draws slots id me old new stage empty some_part up fits s r wide at small =
      let x : ℕ = get_or s.words 0 0 in
      let now : x ≡ length r.log + r.busy = ap (λ ws. get_or ws 0 0) r.words in
      let knows = subst (KnowsStage (stands kept) passes r.log r.busy r.who id (held_of me.0)) stage (r.each_stage id me.0 at) in
      let below : old ≤ length r.log = knows.0 in
      let free : NotHolding me.0.stage = subst NotHolding (sym stage) tt in
      let about = r.each_about id me.0 at some_part in
      dite (ℕ_discrete x old)
      (λ hit.
      let rest_now : r.busy ≡ 0 = omega arith in
      let len : old ≡ length r.log = omega arith in
      let next : new ≡ length r.log + 1 = omega arith in
      let h = r.at_home rest_now in
      let w : V = record me.0 { stage = Holding old (state_of h.0.machine) } in (
        w,
        takes 0 (Some h.0),
        h.1,
        subst (λ b. Rule (stepped s 0 (either b new x) id me.1 w (takes 0 (Some h.0)))) (sym (eq-eqb x old hit)) record {
          log = r.log;
          busy = 1;
          who = id;
          owner = r.owner;
          words = ap (λ ws. set ws 0 new) r.words ∙ ap (λ (z : ℕ). z ∷ length r.log ∷ []) next;
          few = omega arith;
          below = r.below;
          at_home = λ e. absurd (omega arith);
          held = λ _. (w, old, state_of h.0.machine, at_put s.views id me.0 w at, refl, some_part);
          each_stage = each_set (λ j z. KnowsStage (stands kept) passes r.log 1 id j (held_of z) z.stage) s.views id w (refl, refl, len, h.2, omega arith)
              (λ j z _ e. rest_stage r.log r.busy r.who id j (held_of z) z.stage rest_now (r.each_stage j z e));
          each_part = each_set (Parts r.log r.owner) s.views id w (r.each_part id me.0 at) (λ j z _. r.each_part j z);
          each_about = each_set (λ j z. KnowsAbout kept passes z) s.views id w (λ _. about) (λ j z _. r.each_about j z);
        },
        ((λ _. (h.0, refl, ap (λ l. (0, Some h.0) ∷ l) empty, about.0 ∙ ap Some (sym h.3))), (λ miss. absurd (miss hit))),
      ))
      (λ miss.
      let w : V = record me.0 { met = me.0.met + 1; stage = Idle } in (
        w,
        keeps,
        tt,
        subst (λ b. Rule (stepped s 0 (either b new x) id me.1 w keeps)) (sym (ne_eqb x old miss)) (restages s r id me.0 Idle (me.0.met + 1) 0 me.1 at free tt),
        (
          (λ hit. absurd (miss hit)),
          (λ _. (
            refl,
            empty,
            λ all.
                let all' : HasAll passes (held_of me.0) = subst (λ (z : ℕ). HasAll z (held_of me.0)) about.1 all in
                let none_busy = alone s r id me.0 at free all' in
                let exact = knows.1 all' in
                miss (omega arith),
          )),
        ),
      ))

  served_stage : (log log' : List (Numbered A R)) (busy who id j : ℕ) (ps : List (Part A R)) (st : Stage A R S) → who ≡ id → j ≢ id → length log ≤ length log' → (HasAll passes ps → ⊥)
      → KnowsStage (stands kept) passes log busy who j ps st → KnowsStage (stands kept) passes log' 0 id j ps st
  served_stage log log' busy who id j ps Idle same other more never k = tt
  served_stage log log' busy who id j ps (Noted n) same other more never k = let le = k.0 in (omega arith, λ all. absurd (never all))
  served_stage log log' busy who id j ps (Holding t x) same other more never k = absurd (other (k.1 ∙ same))
  served_stage log log' busy who id j ps (Ended l) same other more never k = absurd (never k.0)

  pub serves : (slots id : ℕ) (me : Me (Option (Bench M A R)) (View A R K S)) (t : ℕ) (x : S) (b : B) (a : A) (reply : R) → 0 < slots → me.0.stage ≡ Holding t x → me.1 ≡ (0, Some b) ∷ [] → IsLast b a reply
      → ((log : List (Entry A R)) → stands (kept_of b.machine) x log → stands (kept_of b.machine) (state_of b.machine) (log ++ record { ask = a; reply = reply } ∷ [])) → me.0.kept ≡ Some (kept_of b.machine) → 0 < length me.0.parts
      → Allows Rule slots id me 1 (λ n. (n + 1) % 2 ^ 64) (served (step slots 1 1 0 none) me)
  serves slots id me t x b a reply some_slot stage carried last goes same_kept some_part s r wide at small =
      let n : ℕ = get_or s.words 1 0 in
      let len : ℕ = length r.log in
      let now : n ≡ len = ap (λ ws. get_or ws 1 0) r.words in
      let mine = r.each_part id me.0 at in
      let ps : List (Part A R) = held_of me.0 in
      let some_held : 0 < length ps = held_some me.0.spare me.0.parts some_part in
      let knows = subst (KnowsStage (stands kept) passes r.log r.busy r.who id ps) stage (r.each_stage id me.0 at) in
      let busy_one : r.busy ≡ 1 = knows.0 in
      let is_len : t ≡ len = knows.2 in
      let room : t + 1 < 18446744073709551616 = knows.4 in
      let v : ℕ = (n + 1) % 2 ^ 64 in
      let first = first_is ps some_held in
      let num : ℕ = own_number ps in
      let e : Numbered A R = numbered num a reply in
      let log' : List (Numbered A R) = r.log ++ e ∷ [] in
      let longer_by : length log' ≡ len + 1 = length-append r.log (e ∷ []) in
      let v_is : v ≡ length log' = mod-eq_of_lt (omega arith) ∙ omega arith in
      let tick : len + r.busy ≡ length log' + 0 = omega arith in
      let own = mine.0 0 first.0 first.1 in
      let num_is : num ≡ first.0.number = own_is ps first.0 first.1 in
      let owned : r.owner e.number ≡ id = ap r.owner num_is ∙ own.1 in
      let about = r.each_about id me.0 at some_part in
      let is_kept : kept_of b.machine ≡ kept = ap (λ o. unwrap_or o kept) (sym same_kept ∙ about.0) in
      let goes_on = subst (λ (k : K). stands k x (unnumbered r.log) → stands k (state_of b.machine) (unnumbered r.log ++ e.entry ∷ [])) is_kept (goes (unnumbered r.log)) knows.3 in
      let w : V = record me.0 { stage = Idle; parts = with_own (placed len a reply) me.0.parts } in
      let held_w : held_of w ≡ with_own (placed len a reply) ps = held_longer (placed len a reply) me.0.spare me.0.parts in (
        w,
        gives,
        tt,
        record {
          log = log';
          busy = 0;
          who = id;
          owner = r.owner;
          words = ap (λ ws. set ws 1 v) r.words ∙ (λ j. tick j ∷ v_is j ∷ []);
          few = omega arith;
          below = below_more passes r.log e r.below (subst (λ (z : ℕ). z < passes) (sym num_is) own.0);
          at_home = λ _. (
            b,
            ap (λ c. get_elem? (put_back s.homes c) 0) carried ∙ set_here s.homes 0 (some (Some b)) (omega arith),
            subst (stands kept (state_of b.machine)) (sym (map-append (λ (z : Numbered A R). z.entry) r.log (e ∷ []))) goes_on,
            is_kept,
          );
          held = λ z. absurd (omega arith);
          each_stage = each_set (λ j z. KnowsStage (stands kept) passes log' 0 id j (held_of z) z.stage) s.views id w tt
              (λ j z other there. served_stage r.log log' r.busy r.who id j (held_of z) z.stage (sym knows.1) other (omega arith)
              (λ all. other (sym (whole_owner r.log r.owner j id (held_of z) ps all (r.each_part j z there).0 some_held mine.0)))
              (r.each_stage j z there));
          each_part = each_set (Parts log' r.owner) s.views id w
              (subst (λ l. OwnsEach passes log' r.owner id l × Distinct l) (sym held_w) (own_longer passes r.log r.owner id ps a reply mine.0 mine.1, distinct_longer (placed len a reply) ps mine.1))
              (λ j z other there. let p = r.each_part j z there in (others_own passes r.log r.owner id j (held_of z) e owned other p.0, p.1));
          each_about = each_set (λ j z. KnowsAbout kept passes z) s.views id w (λ _. about) (λ j z _. r.each_about j z);
        },
        (λ t' x' stage' b' a' r' carried' last'.
            let same_b : b' ≡ b = ap (bench_or b) (sym carried' ∙ carried) in
            let same = last_same b a a' reply r' last (subst (λ (z : B). IsLast z a' r') same_b last') in
            let same_t : len ≡ t' = sym is_len ∙ ap ticket_of (sym stage ∙ stage') in
            ((λ j. record me.0 { stage = Idle; parts = with_own (placed (same_t j) (same.0 j) (same.1 j)) me.0.parts }), ap rest carried)),
      )

  -- the list of one view
  only_view : (v w : V) (j : ℕ) → get_elem? (v ∷ []) j ≡ some w → (j ≡ 0) × (v ≡ w)
  only_view v w zero e = (refl, some-injective v w e)
  only_view v w (suc j) e = absurd (some-ne-none w (sym e))

  opening_each : (n : ℕ) → passes ≡ suc n → OwnsEach passes [] (λ k. 0) 0 (blank {A = A} {R = R} 0 ∷ blank_down n)
  opening_each n is zero p at = subst (Owns passes [] (λ k. 0) 0) (some-injective (blank 0) p at) (omega arith, refl, refl)
  opening_each n is (suc i) p at = let b = blank_at n i p at in let le = b.0 in (omega arith, refl, b.2)

  opening_parts : (n : ℕ) → passes ≡ suc n → OwnsEach passes [] (λ k. 0) 0 (blank {A = A} {R = R} 0 ∷ blank_down n) × Distinct (blank {A = A} {R = R} 0 ∷ blank_down n)
  opening_parts n is = (opening_each n is, ((λ h. let b = blank_at n h.0 h.1 h.2 in let pos = b.1 in let z = h.3 in absurd (omega arith)), blank_distinct A R n))

  pub starts : (b : B) → 0 < passes → kept_of b.machine ≡ kept → stands kept (state_of b.machine) [] → Rule (opening (0 ∷ 0 ∷ []) (Some b ∷ []) (opening_view kept passes))
  starts b many is good =
      let v : V = opening_view kept passes in
      let n : ℕ = passes - 1 in
      let up : passes ≡ suc n = omega arith in
      let parts = subst (λ l. OwnsEach passes [] (λ k. 0) 0 (blank 0 ∷ l) × Distinct (blank 0 ∷ l)) (sym (append-nil (blank_down n))) (opening_parts n up) in record {
        log = [];
        busy = 0;
        who = 0;
        owner = λ k. 0;
        words = refl;
        few = omega arith;
        below = λ i e at. absurd (some-ne-none e (sym at));
        at_home = λ _. (b, refl, good, is);
        held = λ e. absurd (omega arith);
        each_stage = λ j w e. subst (λ (z : V). KnowsStage (stands kept) passes [] 0 0 j (held_of z) z.stage) (only_view v w j e).1 tt;
        each_part = λ j w e. let o = only_view v w j e in subst (λ (z : ℕ × V). Parts [] (λ k. 0) z.0 z.1) (λ k. (sym o.0 k, o.1 k)) parts;
        each_about = λ j w e. subst (λ (z : V). KnowsAbout kept passes z) (only_view v w j e).1 (λ _. (refl, refl));
      }

  pub splits : (id : ℕ) (v : V) → v.stage ≡ Idle → 0 < length v.parts → 0 < v.spare → Splits Rule id v (giver_view v) (given_view v)
  splits id v idle some_part some_spare s r at =
      let n : ℕ = v.spare - 1 in
      let up : v.spare ≡ suc n = omega arith in
      let left : V = giver_view v in
      let right : V = given_view v in
      let vs : List V = set s.views id left in
      let end : ℕ = length vs in
      let owner' : ℕ → ℕ = handed r.owner (suc n) end in
      let free : NotHolding v.stage = subst NotHolding (sym idle) tt in
      let mine = subst (λ (z : ℕ). OwnsEach passes r.log r.owner id (with_spares z v.parts) × Distinct (with_spares z v.parts)) up (r.each_part id v at) in
      let spare = spare_owned passes r.log r.owner id n v.parts some_part mine.0 in
      let about = r.each_about id v at in record {
        log = r.log;
        busy = r.busy;
        who = r.who;
        owner = owner';
        words = r.words;
        few = r.few;
        below = r.below;
        at_home = r.at_home;
        held = λ b. let h = r.held b in (h.0, h.1, h.2, at_longer vs (right ∷ []) r.who h.0 (set_else s.views id r.who left (not_who s r id v at free b) ∙ h.3), h.4, h.5);
        each_stage = λ j z there. ⊎_elim
            (λ t. each_set (λ j z. KnowsStage (stands kept) passes r.log r.busy r.who j (held_of z) z.stage) s.views id left (subst (KnowsStage (stands kept) passes r.log r.busy r.who id (held_of left)) (sym idle) tt) (λ j z _. r.each_stage j z) j z t)
            (λ t. subst (λ (q : V). KnowsStage (stands kept) passes r.log r.busy r.who j (held_of q) q.stage) t.1 tt)
            (at_end vs right z j there);
        each_part = λ j z there. ⊎_elim
            (λ t. each_set (Parts r.log owner') s.views id left (giver_parts passes r.log r.owner id end n v.parts some_part mine.0 mine.1)
            (λ j z other e. let p = r.each_part j z e in (else_parts passes r.log r.owner id end j n (held_of z) other spare.1 p.0, p.1)) j z t)
            (λ t. subst (λ (q : ℕ × V). Parts r.log owner' q.0 q.1) (λ k. (sym t.0 k, t.1 k))
            (subst (λ (q : ℕ). OwnsEach passes r.log owner' end (blank q ∷ []) × Distinct (blank {A = A} {R = R} q ∷ [])) (sym up) (given_parts passes r.log r.owner id end n spare, ((λ h. absurd (some-ne-none h.1 (sym h.2))), tt))))
            (at_end vs right z j there);
        each_about = λ j z there. ⊎_elim
            (λ t. each_set (λ j z. KnowsAbout kept passes z) s.views id left about (λ j z _. r.each_about j z) j z t)
            (λ t. subst (λ (q : V). KnowsAbout kept passes q) t.1 (λ _. about some_part))
            (at_end vs right z j there);
      }

  pub joins : (id : ℕ) (v : V) (other : ℕ) (w : V) → v.stage ≡ Idle → w.stage ≡ Idle → 0 < length v.parts → Joins Rule id v other w (both_views v w) gone
  joins id v other w idle idle' some_part s r at apart there =
      let both : V = both_views v w in
      let vs : List V = set s.views id both in
      let at' : get_elem? s.views other ≡ some w = sym (set_else s.views id other both apart) ∙ there in
      let free : NotHolding v.stage = subst NotHolding (sym idle) tt in
      let free' : NotHolding w.stage = subst NotHolding (sym idle') tt in
      let owner' : ℕ → ℕ = merged r.owner other id in
      let mine = r.each_part id v at in
      let theirs = r.each_part other w at' in
      let about = r.each_about id v at in
      let more = both_parts passes r.log r.owner id other (held_of v) (held_of w) (λ e. apart (sym e)) mine.0 mine.1 theirs.0 theirs.1 in record {
        log = r.log;
        busy = r.busy;
        who = r.who;
        owner = owner';
        words = r.words;
        few = r.few;
        below = r.below;
        at_home = r.at_home;
        held = λ b. let h = r.held b in (h.0, h.1, h.2, set_else vs other r.who gone (not_who s r other w at' free' b) ∙ (set_else s.views id r.who both (not_who s r id v at free b) ∙ h.3), h.4, h.5);
        each_stage = each_set (λ j z. KnowsStage (stands kept) passes r.log r.busy r.who j (held_of z) z.stage) vs other gone tt
            (λ j z _ e. each_set (λ j z. KnowsStage (stands kept) passes r.log r.busy r.who j (held_of z) z.stage) s.views id both (subst (KnowsStage (stands kept) passes r.log r.busy r.who id (held_of both)) (sym idle) tt) (λ j z _. r.each_stage j z) j z e);
        each_part = each_set (Parts r.log owner') vs other gone ((λ i p e. absurd (some-ne-none p (sym e))), tt)
            (λ j z away e. each_set (λ j z. j ≢ other → Parts r.log owner' j z) s.views id both
            (λ _. subst (λ l. OwnsEach passes r.log owner' id l × Distinct l) (sym (held_join v.spare v.parts (held_of w) some_part)) more)
            (λ j z _ e away. let p = r.each_part j z e in (unmerged passes r.log r.owner id other j (held_of z) away p.0, p.1)) j z e away);
        each_about = each_set (λ j z. KnowsAbout kept passes z) vs other gone (λ h. absurd (omega arith))
            (λ j z _ e. each_set (λ j z. KnowsAbout kept passes z) s.views id both (λ _. about some_part) (λ j z _. r.each_about j z) j z e);
      }

  pub ends : (lawful : K → List (Entry A R) → Type 0) → ((k : K) (x : S) (log : List (Entry A R)) → stands k x log → lawful k log)
      → (slots id : ℕ) (me : Me (Option (Bench M A R)) (View A R K S)) → me.0.stage ≡ Idle → 0 < length me.0.parts → HasAll me.0.passes (held_of me.0) → Allows Rule slots id me 1 (λ n. n) (ended lawful (step slots 1 0 0 none) me)
  ends lawful law slots id me idle some_part all s r wide at small =
      let free : NotHolding me.0.stage = subst NotHolding (sym idle) tt in
      let about = r.each_about id me.0 at some_part in
      let parts = r.each_part id me.0 at in
      let all' : HasAll passes (held_of me.0) = subst (λ (z : ℕ). HasAll z (held_of me.0)) about.1 all in
      let h = r.at_home (alone s r id me.0 at free all') in (
        record me.0 { stage = Ended r.log },
        keeps,
        tt,
        restages s r id me.0 (Ended r.log) me.0.met 1 me.1 at free (all', refl),
        (λ _ _. (
          r.log,
          kept,
          refl,
          refl,
          about.0,
          law kept (state_of h.0.machine) (unnumbered r.log) h.2,
          subst (λ (z : ℕ). AreBelow z r.log) (sym about.1) r.below,
          (λ i p e. (parts.0 i p e).2),
          sym (total_is passes r.log (held_of me.0) parts.1 all' r.below (λ i p e. (parts.0 i p e).2)),
        )),
      )

  -- the machine at the end
  pub finishes : (id : ℕ) (v : V) (log : List (Numbered A R)) (ws : List ℕ) (xs : List (Option B)) → v.stage ≡ Ended log → Final (Seen Rule id v) ws xs
      → (b : B) × (get_elem? xs 0 ≡ some (Some b)) × stands (kept_of b.machine) (state_of b.machine) (unnumbered log) × (0 < length v.parts → v.kept ≡ Some (kept_of b.machine))
  finishes id v log ws xs stage f =
      let s = f.0 in
      let r = f.1.0 in
      let at = f.1.1 in
      let knows = subst (KnowsStage (stands kept) passes r.log r.busy r.who id (held_of v)) stage (r.each_stage id v at) in
      let h = r.at_home (alone s r id v at (subst NotHolding (sym stage) tt) knows.0) in
      (h.0, f.4 0 (Some h.0) h.1, subst (λ (k : K). stands k (state_of h.0.machine) (unnumbered log)) (sym h.3) (subst (λ l. stands kept (state_of h.0.machine) (unnumbered l)) (sym knows.1) h.2), (λ some_part. (r.each_about id v at some_part).0 ∙ ap Some (sym h.3)))
