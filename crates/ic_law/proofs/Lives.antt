-- Which queries are live: after one more entry; and that a live query has one list of ends.
use Rattle.std.proofs.Common.{◌≡◌, ◌≢◌, ℕ, List, [], ◌∷◌, ◌++◌, true, Err, refl, ap, sym, ◌∙◌, subst, inl, inr, ◌⊎◌, append_assoc}
use Rattle.std.specs.List.{Contains}
use Rattle.std.proofs.lemmas.List.Elements.{Contains-append_cases, Contains-append_left, Contains-append_right}
use Rattle.ic_base.specs.declared.keys.ConnKey.{ConnKey}
use Rattle.ic_base.specs.declared.keys.ConnEnd.{ConnEnd}
use Rattle.ic_base.specs.declared.keys.BeginNo.TheVariants.{Old, Twice}
use Rattle.ic_law.specs.declared.history.HubAsk.TheVariants.{Begin}
use Rattle.ic_law.specs.declared.history.HubReply.{HubReply}
use Rattle.ic_law.specs.declared.history.HubReply.TheVariants.{Begun, Memory}
use Rattle.ic_law.specs.declared.history.Entry.{Entry}
use Rattle.ic_law.specs.Queries.{was_begun, leaves, left_of}
use Rattle.ic_law.specs.Points.{Place, Every, IsLive, IsHere}
use Rattle.ic_law.specs.Asking.{AreEnds}
use Rattle.ic_law.specs.Arriving.{AnswersBegin, IsOldOne, IsTwice, IsNew}
use Rattle.ic_law.specs.Hub.{HubLaw}
use Rattle.ic_law.proofs.Lists.{cut_at, inside, Contains-none, head_or_tail, flat_map-append}
use Rattle.ic_law.proofs.Readings.{left_of-push}
use Rattle.ic_law.proofs.Datagrams.{entry_is}

-- what each entry of a history keeps, each of a front keeps
pub every_front : (P : List Entry → Entry → Type 0) (h more : List Entry) → Every P (h ++ more) → Every P h
every_front P h more every before e after at = every before e (after ++ more) (ap (λ l. l ++ more) at ∙ append_assoc before (e ∷ after) more)

pub every_last : (P : List Entry → Entry → Type 0) (h : List Entry) (e : Entry) → Every P (h ++ e ∷ []) → P h e
every_last P h e every = every h e [] refl

-- ---- one more entry

-- a live query stays live after an entry that doesn't leave it
pub live_push : (q : ℕ) (ends : List ConnEnd) (h : List Entry) (e : Entry) → IsLive q ends h → (Contains (leaves e) q → ⊥) → IsLive q ends (h ++ e ∷ [])
live_push q ends h e w stays = record {
  before = w.before;
  reply = w.reply;
  after = w.after ++ e ∷ [];
  all = ap (λ l. l ++ e ∷ []) w.all ∙ append_assoc w.before (record { ask = Begin q ends; reply = w.reply } ∷ w.after) (e ∷ []);
  begun = w.begun;
  stays = λ at. elim (Contains-append_cases (left_of w.after) (leaves e) q (subst (λ l. Contains l q) (left_of-push w.after e) at)) [ inl there ↦ w.stays there | inr now ↦ stays now ];
}

-- the entry begins the query
pub record Starts (q : ℕ) (ends : List ConnEnd) (e : Entry) : Type 0 where
  pub ask : e.ask ≡ Begin q ends
  pub begun : was_begun e.reply ≡ true

-- a query that is live was so before, or begins with the entry
pub live_pull : (q : ℕ) (ends : List ConnEnd) (h : List Entry) (e : Entry) → IsLive q ends (h ++ e ∷ []) → Starts q ends e ⊎ (IsLive q ends h × (Contains (leaves e) q → ⊥))
live_pull q ends h e w =
    let x : Entry = record { ask = Begin q ends; reply = w.reply } in
    elim (cut_at h e w.before x w.after w.all) [
      | inl k ↦ inl (record { ask = ap (λ (y : Entry). y.ask) (sym k.2); begun = ap (λ (y : Entry). was_begun y.reply) (sym k.2) ∙ w.begun })
      | inr k ↦
          let both : (n : ℕ) → Contains (left_of k.0 ++ leaves e) n → Contains (left_of w.after) n = (λ n at. subst (λ l. Contains (left_of l) n) (sym k.1) (subst (λ l. Contains l n) (sym (left_of-push k.0 e)) at)) in
          inr (
            record { before = w.before; reply = w.reply; after = k.0; all = k.2; begun = w.begun; stays = λ at. w.stays (both q (Contains-append_left (left_of k.0) (leaves e) q at)) },
            λ at. w.stays (both q (Contains-append_right (left_of k.0) (leaves e) q at)),
          )
    ]

-- a query that begins is live
pub live_now : (q : ℕ) (ends : List ConnEnd) (h : List Entry) (e : Entry) → e.ask ≡ Begin q ends → was_begun e.reply ≡ true → IsLive q ends (h ++ e ∷ [])
live_now q ends h e ask begun = record {
  before = h;
  reply = e.reply;
  after = [];
  all = ap (λ x. h ++ x ∷ []) (entry_is e (Begin q ends) e.reply ask refl);
  begun = begun;
  stays = Contains-none q;
}

-- ---- once

abbrev begin_of : ℕ → List ConnEnd → HubReply → Entry
begin_of q ends reply = record { ask = Begin q ends; reply = reply }

-- a Begin is answered Ok only if the query isn't live
not_twice : (q : ℕ) (h : List Entry) (reply : HubReply) → was_begun reply ≡ true → AnswersBegin q h reply → (ends : List ConnEnd) → IsLive q ends h → ⊥
not_twice q h reply begun (IsOldOne top greatest low is) ends live = let bad : was_begun (Begun (Err (Old top))) ≡ true = ap was_begun (sym is) ∙ begun in cc
not_twice q h reply begun (IsTwice young live_one is) ends live = let bad : was_begun (Begun (Err Twice)) ≡ true = ap was_begun (sym is) ∙ begun in cc
not_twice q h reply begun (IsNew young dead is) ends live = dead (ends, live)

-- no query begins again after it began and stays
not_behind : (place : Place) (h : List Entry) (q : ℕ) (a b : List ConnEnd) → HubLaw place h → (late : IsLive q a h) (early : IsLive q b h) (between : List Entry)
    → late.before ≡ early.before ++ record { ask = Begin q b; reply = early.reply } ∷ between → early.after ≡ between ++ record { ask = Begin q a; reply = late.reply } ∷ late.after → ⊥
not_behind place h q a b law late early between front back =
    let x : Entry = record { ask = Begin q a; reply = late.reply } in
    let point = law late.before x late.after late.all in
    let given : late.reply ≢ Memory = (λ memory. let bad : was_begun Memory ≡ true = ap was_begun (sym memory) ∙ late.begun in cc) in
    not_twice q late.before late.reply late.begun (point.begin q a refl given) b (record {
      before = early.before;
      reply = early.reply;
      after = between;
      all = front;
      begun = early.begun;
      stays = λ at. early.stays (subst (λ l. Contains l q) (sym (ap left_of back ∙ flat_map-append leaves between (x ∷ late.after))) (Contains-append_left (left_of between) (left_of (x ∷ late.after)) q at));
    })

pub live_once : (place : Place) (h : List Entry) (q : ℕ) (a b : List ConnEnd) → HubLaw place h → IsLive q a h → IsLive q b h → a ≡ b
live_once place h q a b law u w =
    let ea : Entry = record { ask = Begin q a; reply = u.reply } in
    let eb : Entry = record { ask = Begin q b; reply = w.reply } in
    elim (inside u.before (ea ∷ u.after) w.before (eb ∷ w.after) (sym u.all ∙ w.all)) [
      | inl k ↦ first k.0 k.1 k.2
      | inr k ↦
          let head : ea ≡ k.0 = let both : ea ∷ u.after ≡ k.0 ∷ (k.1 ++ eb ∷ w.after) = k.3 in cc in
          let rest : u.after ≡ k.1 ++ eb ∷ w.after = let both : ea ∷ u.after ≡ k.0 ∷ (k.1 ++ eb ∷ w.after) = k.3 in cc in
          absurd (not_behind place h q b a law w u k.1 (k.2 ∙ ap (λ x. u.before ++ x ∷ k.1) (sym head)) rest)
    ]
  where
    first : (m : List Entry) → u.before ≡ w.before ++ m → m ++ record { ask = Begin q a; reply = u.reply } ∷ u.after ≡ record { ask = Begin q b; reply = w.reply } ∷ w.after → a ≡ b
    first [] front back =
        let same : begin_of q a u.reply ≡ begin_of q b w.reply = let both : record { ask = Begin q a; reply = u.reply } ∷ u.after ≡ record { ask = Begin q b; reply = w.reply } ∷ w.after = back in cc in
        let asks : Begin q a ≡ Begin q b = ap (λ (x : Entry). x.ask) same in
        cc
    first (y ∷ m) front back =
        let both : y ∷ (m ++ record { ask = Begin q a; reply = u.reply } ∷ u.after) ≡ record { ask = Begin q b; reply = w.reply } ∷ w.after = back in
        let head : y ≡ record { ask = Begin q b; reply = w.reply } = cc in
        let rest : m ++ record { ask = Begin q a; reply = u.reply } ∷ u.after ≡ w.after = cc in
        absurd (not_behind place h q a b law u w m (front ∙ ap (λ x. w.before ++ x ∷ m) head) (sym rest))

-- ---- ends

-- a live query's ends may begin
pub are_ends : (place : Place) (h : List Entry) (q : ℕ) (ends : List ConnEnd) → HubLaw place h → IsLive q ends h → AreEnds place q ends
are_ends place h q ends law live =
    (law live.before (record { ask = Begin q ends; reply = live.reply }) live.after live.all).allowed (λ memory. let bad : was_begun Memory ≡ true = ap was_begun (sym memory) ∙ live.begun in cc)

-- two ends of one list with one key and one side are one
once_in : (ends : List ConnEnd) (a b : ConnEnd)
    → ((front between back : List ConnEnd) (a b : ConnEnd) → ends ≡ front ++ a ∷ between ++ b ∷ back → a.key ≡ b.key → a.sending ≢ b.sending)
    → Contains ends a → Contains ends b → a.key ≡ b.key → a.sending ≡ b.sending → a ≡ b
once_in ends a b once at_a at_b key side =
    let ca = cut ends a at_a in
    let cb = cut ends b at_b in
    elim (inside ca.0 (a ∷ ca.1) cb.0 (b ∷ cb.1) (sym ca.2 ∙ cb.2)) [
      | inl k ↦ first k.0 ca.0 ca.1 cb.0 cb.1 cb.2 k.1 k.2
      | inr k ↦
          let both : a ∷ ca.1 ≡ k.0 ∷ (k.1 ++ b ∷ cb.1) = k.3 in
          let rest : ca.1 ≡ k.1 ++ b ∷ cb.1 = cc in
          absurd (once ca.0 k.1 cb.1 a b (ca.2 ∙ ap (λ l. ca.0 ++ a ∷ l) rest ∙ sym (append_assoc ca.0 (a ∷ k.1) (b ∷ cb.1))) key side)
    ]
  where
    cut : (xs : List ConnEnd) (x : ConnEnd) → Contains xs x → (front : List ConnEnd) × (back : List ConnEnd) × (xs ≡ front ++ x ∷ back)
    cut [] x at = absurd (Contains-none x at)
    cut (y ∷ xs) x at = elim (head_or_tail y xs x at) [
      | inl same ↦ ([], xs, ap (λ z. z ∷ xs) same)
      | inr there ↦ let w = cut xs x there in (y ∷ w.0, w.1, ap (λ l. y ∷ l) w.2)
    ]

    first : (m front back front_b back_b : List ConnEnd) → ends ≡ front_b ++ b ∷ back_b → front ≡ front_b ++ m → m ++ a ∷ back ≡ b ∷ back_b → a ≡ b
    first [] front back front_b back_b all is rest = let both : a ∷ back ≡ b ∷ back_b = rest in cc
    first (y ∷ m) front back front_b back_b all is rest =
        let both : y ∷ (m ++ a ∷ back) ≡ b ∷ back_b = rest in
        let more : m ++ a ∷ back ≡ back_b = cc in
        absurd (once front_b m back b a (all ∙ ap (λ l. front_b ++ b ∷ l) (sym more) ∙ sym (append_assoc front_b (b ∷ m) (a ∷ back))) (sym key) (sym side))

-- an end that is here is known by its key and its side
pub end_once : (place : Place) (h : List Entry) (a b : ConnEnd) → HubLaw place h → IsHere a h → IsHere b h → a.key ≡ b.key → a.sending ≡ b.sending → a ≡ b
end_once place h a b law here_a here_b key side =
    let same : here_b.ends ≡ here_a.ends =
    live_once place h a.key.query here_b.ends here_a.ends law (subst (λ (k : ConnKey). IsLive k.query here_b.ends h) (sym key) here_b.live) here_a.live in
    once_in here_a.ends a b (are_ends place h a.key.query here_a.ends law here_a.live).once here_a.stands (subst (λ l. Contains l b) same here_b.stands) key side
