-- What one more entry does to who is live.
use Rattle.std.proofs.Common.{◌≡◌, ◌≢◌, ℕ, List, [], ◌∷◌, ◌++◌, true, cond, refl, ap, sym, ◌∙◌, subst, inl, inr, ◌⊎◌, append-nil, ◌≤◌, max, arith, Bool, false}
use Rattle.std.proofs.Common.{not}
use Rattle.std.specs.List.{Contains}
use Rattle.std.proofs.Math.Decide.{dec_le}
use Rattle.std.proofs.lemmas.List.Elements.{Contains-append_cases, Contains-append_left, Contains-append_right}
use Rattle.ic_base.specs.declared.keys.ConnKey.{ConnKey}
use Rattle.ic_base.specs.declared.keys.ConnEnd.{ConnEnd}
use Rattle.ic_law.specs.declared.history.HubAsk.TheVariants.{Begin, Leave}
use Rattle.ic_law.specs.declared.history.HubReply.TheVariants.{Memory}
use Rattle.ic_law.specs.Queries.{was_begun, left_by, leaves, left_of}
use Rattle.ic_law.specs.Points.{IsDirected, IsLive, IsHere}
use Rattle.ic_law.proofs.Lists.{Contains-none, Contains-head, Contains-one}
use Rattle.ic_law.proofs.Readings.{left_of-push}
use Rattle.ic_law.proofs.Lives.{live_push, live_pull, live_now, live_once}
use Rattle.ic_hub_laws.specs.Living.{OthersLiveOn, BegunIsLive, LeftIsNotLive, LiveOnce, AreThere, LiveAreThere, SideIsHere, OldUpto, LeftTops}

-- ---- the three kinds

pub lives_on : OthersLiveOn
lives_on h e begins left =
    let none : (n : ℕ) → Contains (leaves e) n → ⊥ = (λ n at. Contains-none n (subst (λ l. Contains l n) left at)) in
    let back : (q : ℕ) (ends : List ConnEnd) → IsLive q ends (h ++ e ∷ []) → IsLive q ends h = (λ q ends w. elim (live_pull q ends h e w) [ inl s ↦ absurd (begins q ends s.ask s.begun) | inr l ↦ l.0 ]) in
    record {
      live = λ q ends. (back q ends, λ w. live_push q ends h e w (none q));
      here = λ end. (λ w. record { ends = w.ends; live = back end.key.query w.ends w.live; stands = w.stands }, λ w. record { ends = w.ends; live = live_push end.key.query w.ends h e w.live (none end.key.query); stands = w.stands });
      left = left_of-push h e ∙ ap (λ l. left_of h ++ l) left ∙ append-nil (left_of h);
    }

pub lives_from : BegunIsLive
lives_from query ends h e ask begun =
    let now = h ++ e ∷ [] in
    let none_left : leaves e ≡ [] = ap (λ a. left_by a e.reply) ask in
    let none : (n : ℕ) → Contains (leaves e) n → ⊥ = (λ n at. Contains-none n (subst (λ l. Contains l n) none_left at)) in
    let back : (q : ℕ) (others : List ConnEnd) → IsLive q others now → ((q ≡ query) × (others ≡ ends)) ⊎ IsLive q others h = (λ q others w. elim (live_pull q others h e w) [
      | inl s ↦ let same : Begin q others ≡ Begin query ends = sym s.ask ∙ ask in let a : q ≡ query = cc in let b : others ≡ ends = cc in inl (a, b)
      | inr l ↦ inr l.0
    ]) in
    let there : (q : ℕ) (others : List ConnEnd) → q ≡ query → others ≡ ends → IsLive q others now = (λ q others a b. subst (λ n. IsLive n others now) (sym a) (subst (λ l. IsLive query l now) (sym b) (live_now query ends h e ask begun))) in
    record {
      live = λ q others. (back q others, λ w. elim w [ inl s ↦ there q others s.0 s.1 | inr l ↦ live_push q others h e l (none q) ]);
      here = λ end. (
        λ w. elim (back end.key.query w.ends w.live) [ inl s ↦ inl (s.0, subst (λ l. Contains l end) s.1 w.stands) | inr l ↦ inr (record { ends = w.ends; live = l; stands = w.stands }) ],
        λ w. elim w [
          | inl s ↦ record { ends = ends; live = there end.key.query ends s.0 refl; stands = s.1 }
          | inr l ↦ record { ends = l.ends; live = live_push end.key.query l.ends h e l.live (none end.key.query); stands = l.stands }
        ],
      );
      left = left_of-push h e ∙ ap (λ l. left_of h ++ l) none_left ∙ append-nil (left_of h);
    }

pub lives_until : LeftIsNotLive
lives_until query h e ask was =
    let now = h ++ e ∷ [] in
    let one : leaves e ≡ query ∷ [] = ap (λ a. left_by a e.reply) ask ∙ ap (λ b. cond b (query ∷ []) []) was in
    let apart : (q : ℕ) → q ≢ query → Contains (leaves e) q → ⊥ = (λ q apart at. apart (Contains-one query q (subst (λ l. Contains l q) one at))) in
    let back : (q : ℕ) (others : List ConnEnd) → IsLive q others now → IsLive q others h × (q ≢ query) = (λ q others w. elim (live_pull q others h e w) [
      | inl s ↦ absurd (let bad : Begin q others ≡ Leave query = sym s.ask ∙ ask in cc)
      | inr l ↦ (l.0, λ same. l.1 (subst (λ k. Contains k q) (sym one) (subst (λ n. Contains (query ∷ []) n) (sym same) (Contains-head query []))))
    ]) in
    record {
      live = λ q others. (back q others, λ w. live_push q others h e w.0 (apart q w.1));
      here = λ end. (
        λ w. let b = back end.key.query w.ends w.live in (record { ends = w.ends; live = b.0; stands = w.stands }, b.1),
        λ w. record { ends = w.0.ends; live = live_push end.key.query w.0.ends h e w.0.live (apart end.key.query w.1); stands = w.0.stands },
      );
      left = left_of-push h e ∙ ap (λ l. left_of h ++ l) one;
    }

-- ---- once

pub once_live : LiveOnce
once_live place h q a b law u w = live_once place h q a b law u w

-- ---- the ends of a live query

pub live_are_there : LiveAreThere
live_are_there place h query ends law live = record {
  are = (law live.before (record { ask = Begin query ends; reply = live.reply }) live.after live.all).allowed (λ memory. let bad : was_begun Memory ≡ true = ap was_begun (sym memory) ∙ live.begun in cc);
  here = λ end same. (
    λ w. subst (λ l. Contains l end) (live_once place h query w.ends ends law (subst (λ n. IsLive n w.ends h) same w.live) live) w.stands,
    λ at. record { ends = ends; live = subst (λ n. IsLive n ends h) (sym same) live; stands = at },
  );
}

pub side_is_here : SideIsHere
side_is_here place h end d forth law here to directed = by end.sending forth refl directed
  where
    there : AreThere place end.key.query here.ends h
    there = live_are_there place h end.key.query here.ends law here.live

    -- the end on the other side
    across : end.key.from ≡ end.key.to → (other : ConnEnd) × IsHere other h × (other.key ≡ end.key) × (other.sending ≡ not end.sending)
    across itself = let w = there.are.both end here.stands itself in (w.0, (there.here w.0 (ap (λ (k : ConnKey). k.query) w.2)).1 w.1, w.2, w.3)

    by : (sends b : Bool) → end.sending ≡ sends → IsDirected b d end.key → (other : ConnEnd) × IsHere other h × (other.key ≡ end.key) × (other.sending ≡ not b)
    by true false is way = (end, here, refl, is)
    by false true is way = (end, here, refl, is)
    by true true is way = let w = across ((there.are.each end here.stands).sends_here is ∙ sym to ∙ way.1) in (w.0, w.1, w.2, w.3 ∙ ap not is)
    by false false is way = let w = across (sym way.1 ∙ to ∙ sym ((there.are.each end here.stands).receives_here is)) in (w.0, w.1, w.2, w.3 ∙ ap not is)

-- ---- the greatest query that was left

pub old_upto : OldUpto
old_upto h top query greatest = (λ old. let low = greatest.bound old.0 old.1 in omega (arith, old.2, low), λ low. (top, greatest.here, low))

pub left_tops : LeftTops
left_tops query h now left = record {
  first = λ none. let all : left_of now ≡ query ∷ [] = left ∙ ap (λ l. l ++ query ∷ []) none in record {
    bound = λ n at. let same = Contains-one query n (subst (λ l. Contains l n) all at) in omega (arith, same);
    here = subst (λ l. Contains l query) (sym all) (Contains-head query []);
  };
  greater = λ top old. record {
    bound = λ n at. elim (Contains-append_cases (left_of h) (query ∷ []) n (subst (λ l. Contains l n) left at)) [
      | inl there ↦ let low = old.bound n there in omega (arith, low)
      | inr here ↦ let same = Contains-one query n here in omega (arith, same)
    ];
    here = elim (either top query) [
      | inl low ↦ subst (λ l. Contains l (max top query)) (sym left) (subst (λ n. Contains (left_of h ++ query ∷ []) n) (sym (upto top query low)) (Contains-append_right (left_of h) (query ∷ []) query (Contains-head query [])))
      | inr low ↦ subst (λ l. Contains l (max top query)) (sym left) (subst (λ n. Contains (left_of h ++ query ∷ []) n) (sym (above top query low)) (Contains-append_left (left_of h) (query ∷ []) top old.here))
    ];
  };
}
  where
    upto : (a b : ℕ) → a ≤ b → max a b ≡ b
    upto a b low = omega (arith, low)

    above : (a b : ℕ) → b ≤ a → max a b ≡ a
    above a b low = omega (arith, low)

    either : (a b : ℕ) → (a ≤ b) ⊎ (b ≤ a)
    either a b = elim (dec_le a b) [ yes low ↦ inl low | no high ↦ inr (omega (arith, high)) ]
