-- Asks whose answers are said whole: begin, clear, leave and halt.
use Rattle.std.proofs.Common.{◌≡◌, ℕ, List, [], ◌∷◌, ◌++◌, Err, ap, sym, ◌∙◌, subst, inl, inr, arith}
use Rattle.std.specs.List.{Contains}
use Rattle.ic_base.specs.declared.keys.ConnKey.{ConnKey}
use Rattle.ic_base.specs.declared.keys.ConnEnd.{ConnEnd}
use Rattle.ic_base.specs.declared.keys.BeginNo.TheVariants.{Old}
use Rattle.ic_law.specs.declared.history.HubReply.{HubReply}
use Rattle.ic_law.specs.declared.history.HubReply.TheVariants.{Begun, Cleared, Left}
use Rattle.ic_law.specs.declared.history.LeaveNo.TheVariants as leave
use Rattle.ic_law.specs.declared.history.Unclear.{Unclear}
use Rattle.ic_law.specs.declared.history.Entry.{Entry}
use Rattle.ic_law.specs.Points.{Place, IsLive}
use Rattle.ic_law.specs.Receiving.{AnswersHalt, HaltedNow, HaltedAgain}
use Rattle.ic_law.specs.Arriving.{IsGreatestLeft, AnswersBegin, IsOldOne, IsTwice, IsNew, AreClear, IsFirstUnclear, AnswersClear, ClearNow, NotClear}
use Rattle.ic_law.specs.Arriving.{AnswersLeave, LeavesNow, LeftUnclear, LeftNothing}
use Rattle.ic_law.specs.Hub.{HubLaw}
use Rattle.ic_law.proofs.Lists.{inside, Contains-middle}
use Rattle.ic_law.proofs.Lives.{live_once}

-- ---- begin

one_top : (h : List Entry) (a b : ℕ) → IsGreatestLeft h a → IsGreatestLeft h b → a ≡ b
one_top h a b u w = let low = u.bound b w.here in let high = w.bound a u.here in omega (arith, low, high)

pub one_begin : (query : ℕ) (h : List Entry) (r s : HubReply) → AnswersBegin query h r → AnswersBegin query h s → r ≡ s
one_begin query h r s (IsOldOne top greatest low is) (IsOldOne top2 greatest2 low2 is2) = is ∙ ap (λ n. Begun (Err (Old n))) (one_top h top top2 greatest greatest2) ∙ sym is2
one_begin query h r s (IsOldOne top greatest low is) (IsTwice young live is2) = absurd (young (top, greatest.here, low))
one_begin query h r s (IsOldOne top greatest low is) (IsNew young dead is2) = absurd (young (top, greatest.here, low))
one_begin query h r s (IsTwice young live is) (IsOldOne top greatest low is2) = absurd (young (top, greatest.here, low))
one_begin query h r s (IsTwice young live is) (IsTwice young2 live2 is2) = is ∙ sym is2
one_begin query h r s (IsTwice young live is) (IsNew young2 dead is2) = absurd (dead live)
one_begin query h r s (IsNew young dead is) (IsOldOne top greatest low is2) = absurd (young (top, greatest.here, low))
one_begin query h r s (IsNew young dead is) (IsTwice young2 live is2) = absurd (dead live)
one_begin query h r s (IsNew young dead is) (IsNew young2 dead2 is2) = is ∙ sym is2

-- ---- clear and leave

-- the first end that isn't clear is one
one_unclear : (ends : List ConnEnd) (h : List Entry) (a b : ConnKey) → IsFirstUnclear ends h a → IsFirstUnclear ends h b → a ≡ b
one_unclear ends h a b u w =
    elim (inside u.front (u.end ∷ u.back) w.front (w.end ∷ w.back) (sym u.all ∙ w.all)) [
      | inl k ↦ upto k.0 k.1 k.2
      | inr k ↦ absurd (
          let both : u.end ∷ u.back ≡ k.0 ∷ (k.1 ++ w.end ∷ w.back) = k.3 in
          let same : u.end ≡ k.0 = cc in
          u.unclear (w.clear u.end (subst (λ l. Contains l u.end) (sym k.2) (subst (λ x. Contains (u.front ++ x ∷ k.1) u.end) same (Contains-middle u.front u.end k.1))))
          )
    ]
  where
    upto : (m : List ConnEnd) → u.front ≡ w.front ++ m → m ++ u.end ∷ u.back ≡ w.end ∷ w.back → a ≡ b
    upto [] front rest = let both : u.end ∷ u.back ≡ w.end ∷ w.back = rest in let same : u.end ≡ w.end = cc in u.is ∙ ap (λ (x : ConnEnd). x.key) same ∙ sym w.is
    upto (y ∷ m) front rest =
        let both : y ∷ (m ++ u.end ∷ u.back) ≡ w.end ∷ w.back = rest in
        let same : y ≡ w.end = cc in
        absurd (w.unclear (u.clear w.end (subst (λ l. Contains l w.end) (sym front) (subst (λ x. Contains (w.front ++ x ∷ m) w.end) (sym same) (Contains-middle w.front w.end m)))))

-- where all are clear none is the first that isn't
not_both : (ends : List ConnEnd) (h : List Entry) (key : ConnKey) → AreClear ends h → IsFirstUnclear ends h key → ⊥
not_both ends h key all w = w.unclear (all w.end (subst (λ l. Contains l w.end) (sym w.all) (Contains-middle w.front w.end w.back)))

-- a refusal is its key
unclear_is : (a b : Unclear) → a.0 ≡ b.0 → a ≡ b
unclear_is a b same = ap by_key same
  where
    by_key : ConnKey → Unclear
    by_key k = record { 0 = k }

same_first : (place : Place) (h : List Entry) (q : ℕ) (x y : List ConnEnd) (a b : ConnKey) → HubLaw place h → IsLive q x h → IsLive q y h → IsFirstUnclear x h a → IsFirstUnclear y h b → a ≡ b
same_first place h q x y a b law live live2 first first2 = one_unclear y h a b (subst (λ l. IsFirstUnclear l h a) (live_once place h q x y law live live2) first) first2

clear_not : (place : Place) (h : List Entry) (q : ℕ) (x y : List ConnEnd) (key : ConnKey) → HubLaw place h → IsLive q x h → IsLive q y h → AreClear x h → IsFirstUnclear y h key → ⊥
clear_not place h q x y key law live live2 all first = not_both y h key (subst (λ l. AreClear l h) (live_once place h q x y law live live2) all) first

pub one_clear : (place : Place) (q : ℕ) (h : List Entry) (r s : HubReply) → HubLaw place h → AnswersClear q h r → AnswersClear q h s → r ≡ s
one_clear place q h r s law (ClearNow ends live all is) (ClearNow ends2 live2 all2 is2) = is ∙ sym is2
one_clear place q h r s law (ClearNow ends live all is) (NotClear ends2 live2 key first refusal refused is2) = absurd (clear_not place h q ends ends2 key law live live2 all first)
one_clear place q h r s law (NotClear ends live key first refusal refused is) (ClearNow ends2 live2 all is2) = absurd (clear_not place h q ends2 ends key law live2 live all first)
one_clear place q h r s law (NotClear ends live key first refusal refused is) (NotClear ends2 live2 key2 first2 refusal2 refused2 is2) =
    is ∙ ap (λ x. Cleared (Err x)) (unclear_is refusal refusal2 (refused ∙ same_first place h q ends ends2 key key2 law live live2 first first2 ∙ sym refused2)) ∙ sym is2

pub one_leave : (place : Place) (q : ℕ) (h : List Entry) (r s : HubReply) → HubLaw place h → AnswersLeave q h r → AnswersLeave q h s → r ≡ s
one_leave place q h r s law (LeavesNow ends live all is) (LeavesNow ends2 live2 all2 is2) = is ∙ sym is2
one_leave place q h r s law (LeavesNow ends live all is) (LeftUnclear ends2 live2 key first is2) = absurd (clear_not place h q ends ends2 key law live live2 all first)
one_leave place q h r s law (LeavesNow ends live all is) (LeftNothing dead is2) = absurd (dead (ends, live))
one_leave place q h r s law (LeftUnclear ends live key first is) (LeavesNow ends2 live2 all is2) = absurd (clear_not place h q ends2 ends key law live2 live all first)
one_leave place q h r s law (LeftUnclear ends live key first is) (LeftUnclear ends2 live2 key2 first2 is2) =
    is ∙ ap (λ k. Left (Err (leave.Unclear k))) (same_first place h q ends ends2 key key2 law live live2 first first2) ∙ sym is2
one_leave place q h r s law (LeftUnclear ends live key first is) (LeftNothing dead is2) = absurd (dead (ends, live))
one_leave place q h r s law (LeftNothing dead is) (LeavesNow ends2 live2 all2 is2) = absurd (dead (ends2, live2))
one_leave place q h r s law (LeftNothing dead is) (LeftUnclear ends2 live2 key first is2) = absurd (dead (ends2, live2))
one_leave place q h r s law (LeftNothing dead is) (LeftNothing dead2 is2) = is ∙ sym is2

-- ---- halt

pub one_halt : (end : ConnEnd) (h : List Entry) (r s : HubReply) → AnswersHalt end h r → AnswersHalt end h s → r ≡ s
one_halt end h r s (HaltedNow open_end is) (HaltedNow open2 is2) = is ∙ sym is2
one_halt end h r s (HaltedNow open_end is) (HaltedAgain ended is2) = absurd (open_end ended)
one_halt end h r s (HaltedAgain ended is) (HaltedNow open2 is2) = absurd (open2 ended)
one_halt end h r s (HaltedAgain ended is) (HaltedAgain ended2 is2) = is ∙ sym is2
