-- What receiving ends and the hub itself answer has the form of what a hub may emit.
use Rattle.std.proofs.Common.{◌≡◌, ℕ, ℤ, pos, negsuc, [], Bool, true, false, ◌==◌, refl, ap, sym, ◌∙◌, subst, length}
use Rattle.std.specs.Prelude.{◌≤ℤ◌}
use Rattle.std.specs.Ordering.{int_eq}
use Rattle.std.specs.Int.Signed.{clash_ℤ}
use Rattle.std.proofs.lemmas.Int.{by_lt_z}
use Rattle.std.proofs.lemmas.Bool.Decides.{Decides-eqb, Decides-int_eq}
use Rattle.ic_base.specs.declared.keys.ConnKey.{ConnKey}
use Rattle.ic_base.specs.declared.datagram.Datagram.{Datagram}
use Rattle.ic_header.specs.Packets.{key_of, goes_forth, header_for, IsSegment}
use Rattle.ic_law.specs.Points.{IsDirected}
use Rattle.ic_law.specs.Arriving.{NoSegment, NotHere, Misdirected, OtherSession, turned_back}
use Rattle.ic_header.specs.Packets.{turned_header}
use Rattle.ic_receiver.proofs.Shown.{answer_reads}
use Rattle.ic_hub_laws.specs.Formed.{AnswersAreFormed, TurnedIsFormed}
use Rattle.ic_law.proofs.Datagrams.{flag_of_true}

-- ---- answers of an end

pub answers_formed : AnswersAreFormed
answers_formed place end flags seq extra body d ours receives back a =
    let head = header_for end flags (length body) seq extra in
    let from : d.from ≡ end.key.to = ap (λ (x : Datagram). x.from) a.is in
    let to : d.to ≡ end.key.from = ap (λ (x : Datagram). x.to) a.is in
    record {
      packet = record { packet = record { head = head; body = body }; reads = answer_reads end flags seq extra body d a; key = refl; way = back };
      formed = record {
        packet = record { head = head; body = body };
        spelled = a.spelled;
        session = ours.session;
        src_content = ours.from;
        dst_content = ours.to;
        from = from ∙ ours.receives_here receives;
        ends = subst (λ b. IsDirected b d end.key) (sym back) (from, to);
      };
    }

-- ---- what is turned back

-- what isn't otherwise is so
least_is : (a b : ℤ) → ((a ≤ℤ b → ⊥) → ⊥) → a ≤ℤ b
least_is a b never = by_lt_z b a (λ below. absurd (never (λ le. clash_ℤ below le))) (λ le. le)

segment_is : (n : ℤ) → ((IsSegment n → ⊥) → ⊥) → IsSegment n
segment_is n never = (least_is (negsuc 0) n (λ off. never (λ w. off w.0)), least_is n (pos 63) (λ off. never (λ w. off w.1)))

number_is : (a b : ℕ) → ((a ≡ b → ⊥) → ⊥) → a ≡ b
number_is a b never = by (a == b) refl
  where
    by : (r : Bool) → (a == b) ≡ r → a ≡ b
    by true e = (Decides-eqb a b).0 e
    by false e = absurd (never (λ same. flag_of_true (a == b) ((Decides-eqb a b).1 same) e))

place_is : (a b : ℤ) → ((a ≡ b → ⊥) → ⊥) → a ≡ b
place_is a b never = by (int_eq a b) refl
  where
    by : (r : Bool) → int_eq a b ≡ r → a ≡ b
    by true e = (Decides-int_eq a b).0 e
    by false e = absurd (never (λ same. flag_of_true (int_eq a b) ((Decides-int_eq a b).1 same) e))

way_of : (b : Bool) (d : Datagram) (key : ConnKey) → b ≡ true → IsDirected b d key → (d.from ≡ key.from) × (d.to ≡ key.to)
way_of true d key on way = way
way_of false d key off way = absurd (flag_of_true false off refl)

way_back : (b : Bool) (d : Datagram) (key : ConnKey) → b ≡ true → (d.from ≡ key.from) × (d.to ≡ key.to) → IsDirected b d key
way_back true d key on way = way
way_back false d key off way = absurd (flag_of_true false off refl)

pub turned_formed : TurnedIsFormed
turned_formed place h d head flags own forth back spelled =
    let directed : IsDirected (goes_forth head.flags) d (key_of head) → (d.from ≡ head.src_content) × (d.to ≡ head.dst_content) = way_of (goes_forth head.flags) d (key_of head) forth in
    let from : d.from ≡ head.src_content = place_is d.from head.src_content (λ other. own (Misdirected (λ way. other (directed way).0))) in
    let to : d.to ≡ head.dst_content = place_is d.to head.dst_content (λ other. own (Misdirected (λ way. other (directed way).1))) in
    let here : d.to ≡ place.at = place_is d.to place.at (λ other. own (NotHere other)) in
    record {
      packet = record { head = turned_header head flags; body = [] };
      spelled = spelled;
      session = number_is head.session place.session (λ other. own (OtherSession other));
      src_content = segment_is head.src_content (λ off. own (NoSegment (λ both. off both.0)));
      dst_content = segment_is head.dst_content (λ off. own (NoSegment (λ both. off both.1)));
      from = refl;
      ends = subst (λ b. IsDirected b (turned_back place d head flags) (key_of (turned_header head flags))) (sym back) (sym here ∙ to, from);
    }
