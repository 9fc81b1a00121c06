-- The asks give the whole history.
use Rattle.std.proofs.Common.{◌≡◌, ◌+◌, List, [], ◌∷◌, ◌++◌, map, refl, ap, sym, ◌∙◌, subst, append_assoc}
use Rattle.ic_law.specs.declared.history.Entry.{Entry}
use Rattle.ic_law.specs.Points.{Place}
use Rattle.ic_law.specs.Emission.{EmissionLaw, EmissionPoint}
use Rattle.ic_law.specs.Hub.{HubPoint, HubLaw}
use Rattle.ic_law.proofs.Lives.{every_front}
use Rattle.ic_law.proofs.Datagrams.{entry_is}
use Rattle.ic_unique.specs.Unique.{MayReply, ask_of, IsRun, OneHistory}
use Rattle.ic_unique.proofs.Unique.{one_reply}

pub may_reply : (place : Place) (h before : List Entry) (e : Entry) (after : List Entry) → IsRun place h → h ≡ before ++ e ∷ after → MayReply place before e.ask e.reply
may_reply place h before e after run at =
    let cut : h ≡ (before ++ e ∷ []) ++ after = at ∙ sym (append_assoc before (e ∷ []) after) in
    record {
      law = every_front (HubPoint place) (before ++ e ∷ []) after (subst (HubLaw place) cut run.law);
      emission = every_front (EmissionPoint place) (before ++ e ∷ []) after (subst (EmissionLaw place) cut run.emission);
      given = run.given before e after at;
    }

pub one_history : OneHistory
one_history place h k run_h run_k asks = go [] h k refl refl asks
  where
    go : (before xs ys : List Entry) → h ≡ before ++ xs → k ≡ before ++ ys → map ask_of xs ≡ map ask_of ys → h ≡ k
    go before [] [] at_h at_k same = at_h ∙ sym at_k
    go before [] (y ∷ ys) at_h at_k same = let bad : [] ≡ y.ask ∷ map ask_of ys = same in absurd cc
    go before (x ∷ xs) [] at_h at_k same = let bad : x.ask ∷ map ask_of xs ≡ [] = same in absurd cc
    go before (x ∷ xs) (y ∷ ys) at_h at_k same =
        let both : x.ask ∷ map ask_of xs ≡ y.ask ∷ map ask_of ys = same in
        let ask : x.ask ≡ y.ask = cc in
        let others : map ask_of xs ≡ map ask_of ys = cc in
        let reply : x.reply ≡ y.reply = one_reply place before x.ask x.reply y.reply (may_reply place h before x xs run_h at_h)
        (subst (λ a. MayReply place before a y.reply) (sym ask) (may_reply place k before y ys run_k at_k)) in
        let entry : y ≡ x = sym (entry_is x y.ask y.reply ask reply) in
        go (before ++ x ∷ []) xs ys (at_h ∙ sym (append_assoc before (x ∷ []) xs)) (at_k ∙ ap (λ z. before ++ z ∷ ys) entry ∙ sym (append_assoc before (x ∷ []) ys)) others
