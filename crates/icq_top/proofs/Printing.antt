-- The lines of answers, one answer more.
use Rattle.std.proofs.Common.{◌≡◌, ℕ, ◌+◌, ◌<◌, List, ◌++◌, length, take, drop, get_or, ap, sym, ◌∙◌, subst}
use Rattle.std.specs.List.{concat, flat_map}
use Rattle.std.specs.declared.option.Option.{Option}
use Rattle.std.specs.Io.KnownBytes.{Appends}
use Rattle.std.proofs.lemmas.List.{take-append-drop}
use Rattle.ic_edge.specs.Causes.{TakesAFront}
use Rattle.gd_sim.proofs.Counting.{next_taken, one_more, flat_both}
use Rattle.icq_top.specs.declared.print.Answer.{Answer}
use Rattle.icq_top.specs.Print.{WroteLines, answer_lines}
use Rattle.icq_top.proofs.Fronts.{front_of_first, front_of_second, lines_of_first, lines_of_second, both_texts}

one_answer : (answers : List Answer) (i : ℕ) (a : Answer) → i < length answers → a ≡ get_or answers i a → flat_map answer_lines (take (i + 1) answers) ≡ flat_map answer_lines (take i answers) ++ answer_lines a
one_answer answers i a lt is = ap (flat_map answer_lines) (next_taken answers i a lt is) ∙ one_more answer_lines (take i answers) a

-- all lines: those of some answers, of the next, and of the rest
all_answers : (answers : List Answer) (i : ℕ) (a : Answer) → i < length answers → a ≡ get_or answers i a
    → (flat_map answer_lines (take i answers) ++ answer_lines a) ++ flat_map answer_lines (drop (i + 1) answers) ≡ flat_map answer_lines answers
all_answers answers i a lt is =
    ap (λ l. l ++ flat_map answer_lines (drop (i + 1) answers)) (sym (one_answer answers i a lt is))
    ∙ sym (flat_both answer_lines (take (i + 1) answers) (drop (i + 1) answers)) ∙ ap (flat_map answer_lines) (take-append-drop (i + 1) answers)

pub answers_more : (a b c : Option (List ℕ)) (answers : List Answer) (i : ℕ) (x : Answer) → i < length answers → x ≡ get_or answers i x
    → Appends a b (concat (flat_map answer_lines (take i answers))) → Appends b c (concat (answer_lines x)) → Appends a c (concat (flat_map answer_lines (take (i + 1) answers)))
answers_more a b c answers i x lt is p q =
    subst (λ l. Appends a c (concat l)) (sym (one_answer answers i x lt is)) (both_texts a b c (flat_map answer_lines (take i answers)) (answer_lines x) p q)

pub answers_front : (a b c : Option (List ℕ)) (answers : List Answer) (i : ℕ) (x : Answer) → i < length answers → x ≡ get_or answers i x
    → Appends a b (concat (flat_map answer_lines (take i answers))) → TakesAFront b c (concat (answer_lines x)) → TakesAFront a c (concat (flat_map answer_lines answers))
answers_front a b c answers i x lt is p q =
    subst (λ l. TakesAFront a c (concat l)) (all_answers answers i x lt is)
    (front_of_first a c (flat_map answer_lines (take i answers) ++ answer_lines x) (flat_map answer_lines (drop (i + 1) answers)) (front_of_second a b c (flat_map answer_lines (take i answers)) (answer_lines x) p q))

pub answers_lines : (a b c : Option (List ℕ)) (answers : List Answer) (i : ℕ) (x : Answer) → i < length answers → x ≡ get_or answers i x
    → Appends a b (concat (flat_map answer_lines (take i answers))) → WroteLines b c (answer_lines x) → WroteLines a c (flat_map answer_lines answers)
answers_lines a b c answers i x lt is p q =
    subst (WroteLines a c) (all_answers answers i x lt is)
    (lines_of_first a c (flat_map answer_lines (take i answers) ++ answer_lines x) (flat_map answer_lines (drop (i + 1) answers)) (lines_of_second a b c (flat_map answer_lines (take i answers)) (answer_lines x) p q))
