-- A counter stands for one entry more.
use Rattle.std.proofs.Common.{◌≡◌, ℕ, ◌+◌, Bool, true, false, if◌then◌else◌, nat_le, List, [], ◌∷◌, ◌++◌, refl, ap, sym, ◌∙◌, arith}
use Rattle.std.proofs.lemmas.List.Sums.{sum_by-append}
use Rattle.ic_turn.specs.declared.counter.Counted.{Counted}
use Rattle.ic_turn.specs.declared.counter.Counted.TheVariants.{Sum, Over}
use Rattle.ic_turn.specs.declared.entry.Entry.{Entry}
use Rattle.ic_turn.specs.Entries.{StandsWith}
use Rattle.ic_turn.specs.Counting.{reply_to, added_by, sum_of, StandsAt}
use Rattle.ic_turn.proofs.Lists.{every_none, every_push}

pub stands_at_none : (limit : ℕ) → StandsAt limit 0 []
stands_at_none limit = record { total_is = refl; lawful = every_none _ }

sum_of-push : (entries : List (Entry ℕ Counted)) (e : Entry ℕ Counted) → sum_of (entries ++ e ∷ []) ≡ sum_of entries + added_by e.ask e.reply
sum_of-push entries e = sum_by-append (λ x. added_by x.ask x.reply) entries (e ∷ []) ∙ omega arith

stands_at_push : (limit total now ask : ℕ) (reply : Counted) → reply ≡ reply_to limit total ask → now ≡ total + added_by ask reply
    → StandsWith (StandsAt limit total) (StandsAt limit now) (record { ask = ask; reply = reply } ∷ [])
stands_at_push limit total now ask reply replies adds entries h =
    let e : Entry ℕ Counted = record { ask = ask; reply = reply } in
    record {
      total_is = adds ∙ ap (λ n. n + added_by ask reply) h.total_is ∙ sym (sum_of-push entries e);
      lawful = every_push _ entries e h.lawful (replies ∙ ap (λ n. reply_to limit n ask) h.total_is);
    }

sum_is : (limit total ask n : ℕ) → Sum n ≡ reply_to limit total ask → n ≡ total + ask
sum_is limit total ask n h = by (nat_le (total + ask) limit) h
  where
    by : (b : Bool) → Sum n ≡ (if b then Sum (total + ask) else Over) → n ≡ total + ask
    by true h = let same : Sum n ≡ Sum (total + ask) = h in cc
    by false h = let bad : Sum n ≡ Over = h in cc

pub stands_at_sum : (limit total ask n : ℕ) → Sum n ≡ reply_to limit total ask → StandsWith (StandsAt limit total) (StandsAt limit n) (record { ask = ask; reply = Sum n } ∷ [])
stands_at_sum limit total ask n h = stands_at_push limit total n ask (Sum n) h (sum_is limit total ask n h)

pub stands_at_over : (limit total ask : ℕ) (reply : Counted) → reply ≡ reply_to limit total ask → reply ≡ Over → StandsWith (StandsAt limit total) (StandsAt limit total) (record { ask = ask; reply = reply } ∷ [])
stands_at_over limit total ask reply h over = stands_at_push limit total total ask reply h (sym (ap (λ r. total + added_by ask r) over ∙ omega arith))
