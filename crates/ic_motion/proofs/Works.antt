-- The row in work: how it goes on to the next receiver and the next chunk.
use Rattle.std.proofs.Common.{◌≡◌, ◌≢◌, ℕ, ◌<◌, ◌≤◌, max, length, List, [], ◌∷◌, ◌++◌, map, Bool, true, false, ◌&&◌, ◌==◌, cond, inl, inr, refl, ap, sym, ◌∙◌, subst, arith, nat_lt, nat_le}
use Rattle.std.proofs.lemmas.Bool.{cases_lt, eqb-true, eqb-false, ltb-true, leb-true, lt-ltb, le-leb, lt-leb, and_parts}
use Rattle.ic_chunk.specs.Chunks.{Chunk, spelled}
use Rattle.ic_chunk.specs.Cutting.{chunks_of, group_of, room_in}
use Rattle.ic_chunk.proofs.CuttingLemmas.{bodies_of-nil}
use Rattle.ic_row.specs.Spelling.{spelling_of}
use Rattle.pl_ops.specs.Rows.{Line}
use Rattle.pl_ops.specs.Routing.{Route, is_routed}
use Rattle.pl_runs.specs.Slices.{row_chunks}
use Rattle.ic_motion.specs.Sending.{Target, Work, no_work, pending, goes_to, left_at}
use Rattle.ic_motion.specs.Putting.{IsOpen, IsNextOpen, GoesTo, LeavesSame, HasRest, Settles}

-- ---- chunks

pub nil_from : (n : ℕ) (xs : List ℕ) → n ≡ length xs → (n == 0) ≡ true → xs ≡ []
nil_from n [] size is = refl
nil_from n (x ∷ xs) size is = let none : n ≡ 0 = eqb-true n 0 is in absurd (omega (arith, size, none))

pub not_nil_from : (n : ℕ) (xs : List ℕ) → n ≡ length xs → (n == 0) ≡ false → xs ≢ []
not_nil_from n xs size is none = eqb-false n 0 is (size ∙ ap length none)

no_chunks : (packet : ℕ) (bytes : List ℕ) → 128 ≤ packet → bytes ≡ [] → chunks_of packet bytes ≡ []
no_chunks packet bytes le none = ap (chunks_of packet) none ∙ ap group_of (bodies_of-nil (room_in packet) (omega (arith, le)))

pub new_work : (packet : ℕ) (bytes chunk : List ℕ) (splitter : List Chunk) → 128 ≤ packet → bytes ≡ [] → chunk ≡ [] → splitter ≡ chunks_of packet bytes
    → record { chunk = chunk; rest = map spelled splitter; first = 0; end = 0; at = 0 } ≡ no_work
new_work packet bytes chunk splitter le none empty is =
    let work : List ℕ → List (List ℕ) → Work = λ c r. record { chunk = c; rest = r; first = 0; end = 0; at = 0 } in
    ap (λ c. work c (map spelled splitter)) empty ∙ ap (λ cs. work [] (map spelled cs)) (is ∙ no_chunks packet bytes le none)

spelled-some : (c : Chunk) → (b : ℕ) × (bytes : List ℕ) × (spelled c ≡ b ∷ bytes)
unfolding spelled
spelled-some c = (_, _, refl)

pending-spelled : (c : Chunk) → pending (spelled c) ≡ spelled c ∷ []
pending-spelled c = let w = spelled-some c in ap pending w.2 ∙ ap (λ l. l ∷ []) (sym w.2)

spelled_ne : (c : Chunk) (chunk : List ℕ) → chunk ≡ spelled c → chunk ≢ []
spelled_ne c chunk is none = let w = spelled-some c in let bad : w.0 ∷ w.1 ≡ [] = sym w.2 ∙ sym is ∙ none in cc

-- ---- a row that begins

abbrev no_list : List (List ℕ)
no_list = []

whole : (b : Bool) (chunks : List (List ℕ)) → cond b no_list [] ++ chunks ≡ chunks
whole true chunks = refl
whole false chunks = refl

pub begun : (route : Route) (packet count : ℕ) (row : Line) (bytes : List ℕ) (splitter : List Chunk) (w : Work) (first end : ℕ) → GoesTo route count row first end → splitter ≡ chunks_of packet bytes → bytes ≡ spelling_of row
    → w ≡ record { chunk = []; rest = map spelled splitter; first = first; end = end; at = end }
    → (place : ℕ) → place < count → left_at place w ≡ cond (is_routed route count place row) (row_chunks packet row) []
begun route packet count row bytes splitter w first end goes cut spell is place lt =
    let rest : map spelled splitter ≡ row_chunks packet row = ap (map spelled) (cut ∙ ap (chunks_of packet) spell) in
    ap (left_at place) is ∙ ap (λ b. cond b (cond (nat_le end place) [] [] ++ map spelled splitter) []) (goes place lt)
    ∙ ap (λ l. cond (is_routed route count place row) l []) (whole (nat_le end place) (map spelled splitter) ∙ rest)

-- ---- the next receiver

-- what is left by whether the row goes there, and whether the chunk is still to be put there
left_by : (w : Work) (place : ℕ) (a b : Bool) → goes_to place w ≡ a → nat_le w.at place ≡ b → left_at place w ≡ cond a (cond b (pending w.chunk) [] ++ w.rest) []
left_by w place a b goes at = ap (λ x. cond x (cond (nat_le w.at place) (pending w.chunk) [] ++ w.rest) []) goes ∙ ap (λ x. cond a (cond x (pending w.chunk) [] ++ w.rest) []) at

skipped_not : (targets : List Target) (m end at place : ℕ) → IsNextOpen targets m end at → IsOpen targets place → m ≤ place → at ≤ place
skipped_not targets m end at place n open_ le = elim (cases_lt place at) [ inl lt ↦ absurd (n.skipped place le lt open_) | inr ge ↦ ge ]

same_at : (targets : List Target) (w : Work) (at m place : ℕ) → m ≡ max w.at w.first → IsNextOpen targets m w.end at → IsOpen targets place → w.first ≤ place → nat_le at place ≡ nat_le w.at place
same_at targets w at m place is n open_ from = elim (cases_lt place w.at) [
  | inl lt ↦ lt-leb at place (omega (arith, lt, is, n.from)) ∙ sym (lt-leb w.at place lt)
  | inr ge ↦ le-leb at place (skipped_not targets m w.end at place n open_ (omega (arith, ge, is, from))) ∙ sym (le-leb w.at place ge)
]

pub settled_found : (targets : List Target) (w : Work) (at m : ℕ) → m ≡ max w.at w.first → IsNextOpen targets m w.end at → at < w.end → w.chunk ≢ [] → Settles targets w (record w { at = at }) true
settled_found targets w at m is n lt some_ = record {
  same = λ place open_. same place open_ (goes_to place w) refl;
  next = λ _. (n.open_ lt, ap (λ b. b && nat_lt at w.end) (le-leb w.first at (omega (arith, is, n.from))) ∙ lt-ltb at w.end lt, some_);
  none = λ bad. cc;
}
  where
    same : (place : ℕ) → IsOpen targets place → (b : Bool) → goes_to place w ≡ b → left_at place (record w { at = at }) ≡ left_at place w
    same place open_ true goes =
        let parts = and_parts (nat_le w.first place) (nat_lt place w.end) goes in
        ap (λ x. cond (goes_to place w) (cond x (pending w.chunk) [] ++ w.rest) []) (same_at targets w at m place is n open_ (leb-true w.first place parts.0))
    same place open_ false goes =
        ap (λ x. cond x (cond (nat_le at place) (pending w.chunk) [] ++ w.rest) []) goes ∙ sym (ap (λ x. cond x (cond (nat_le w.at place) (pending w.chunk) [] ++ w.rest) []) goes)

pub rest_past : (targets : List Target) (w : Work) (at m : ℕ) → m ≡ max w.at w.first → IsNextOpen targets m w.end at → w.end ≤ at → HasRest targets w
rest_past targets w at m is n past = λ place open_. by place open_ (goes_to place w) refl
  where
    by : (place : ℕ) → IsOpen targets place → (b : Bool) → goes_to place w ≡ b → left_at place w ≡ cond (goes_to place w) w.rest []
    by place open_ true goes =
        let parts = and_parts (nat_le w.first place) (nat_lt place w.end) goes in
        let from = leb-true w.first place parts.0 in
        let lt = ltb-true place w.end parts.1 in
        let before : nat_le w.at place ≡ false = elim (cases_lt place w.at) [
          | inl x ↦ lt-leb w.at place x
          | inr ge ↦ absurd (n.skipped place (omega (arith, ge, is, from)) (omega (arith, lt, past)) open_)
        ] in
        left_by w place true false goes before ∙ sym (ap (λ x. cond x w.rest []) goes)
    by place open_ false goes = left_by w place false (nat_le w.at place) goes refl ∙ sym (ap (λ x. cond x w.rest []) goes)

pub rest_empty : (targets : List Target) (w : Work) → w.chunk ≡ [] → HasRest targets w
rest_empty targets w none = λ place open_. ap (λ c. cond (goes_to place w) (cond (nat_le w.at place) (pending c) [] ++ w.rest) []) none ∙ ap (λ l. cond (goes_to place w) l []) (whole (nat_le w.at place) w.rest)

-- ---- the next chunk

not_below : (w : Work) (place first : ℕ) → w.end ≤ first → (w.first ≤ place → first ≤ place) → (b : Bool) → goes_to place w ≡ b → goes_to place w ≡ false
not_below w place first past from true goes =
    let parts = and_parts (nat_le w.first place) (nat_lt place w.end) goes in
    let le = from (leb-true w.first place parts.0) in
    let lt = ltb-true place w.end parts.1 in
    absurd (omega (arith, le, lt, past))
not_below w place first past from false goes = goes

pub settled_none : (targets : List Target) (w : Work) (first : ℕ) → IsNextOpen targets w.first w.end first → w.end ≤ first → Settles targets w w false
settled_none targets w first n past = record {
  same = λ place open_. refl;
  next = λ bad. cc;
  none = λ _ place open_. ap (λ b. cond b (cond (nat_le w.at place) (pending w.chunk) [] ++ w.rest) []) (not_below w place first past (λ from. skipped_not targets w.first w.end first place n open_ from) (goes_to place w) refl);
}

none_either : (b : Bool) → cond b no_list [] ≡ []
none_either true = refl
none_either false = refl

-- no chunk is left
pub settled_over : (targets : List Target) (w new : Work) → HasRest targets w → w.rest ≡ [] → new ≡ record w { chunk = []; rest = [] } → Settles targets w new false
settled_over targets w new rest none is = record {
  same = λ place open_. gone place ∙ sym (rest place open_ ∙ ap (λ r. cond (goes_to place w) r []) none ∙ none_either (goes_to place w));
  next = λ bad. cc;
  none = λ _ place open_. gone place;
}
  where
    gone : (place : ℕ) → left_at place new ≡ []
    gone place = ap (left_at place) is ∙ ap (λ l. cond (goes_to place w) l []) (whole (nat_le w.at place) []) ∙ none_either (goes_to place w)

-- the next chunk is for the first receiver that wants more
pub settled_next : (targets : List Target) (w new : Work) (first : ℕ) (c : Chunk) (before after : List Chunk) → HasRest targets w → IsNextOpen targets w.first w.end first → first < w.end → w.rest ≡ map spelled before → before ≡ c ∷ after
    → new ≡ record w { chunk = spelled c; rest = map spelled after; at = first } → Settles targets w new true
settled_next targets w new first c before after rest n lt were is made = record {
  same = λ place open_. ap (left_at place) made ∙ same place open_ (goes_to place w) refl ∙ sym (rest place open_);
  next = λ _. (
    subst (λ (x : Work). IsOpen targets x.at) (sym made) (n.open_ lt),
    ap (λ (x : Work). goes_to x.at x) made ∙ ap (λ b. b && nat_lt first w.end) (le-leb w.first first n.from) ∙ lt-ltb first w.end lt,
    spelled_ne c new.chunk (ap (λ (x : Work). x.chunk) made),
  );
  none = λ bad. cc;
}
  where
    all : pending (spelled c) ++ map spelled after ≡ w.rest
    all = ap (λ l. l ++ map spelled after) (pending-spelled c) ∙ ap (map spelled) (sym is) ∙ sym were

    same : (place : ℕ) → IsOpen targets place → (b : Bool) → goes_to place w ≡ b → left_at place (record w { chunk = spelled c; rest = map spelled after; at = first }) ≡ cond (goes_to place w) w.rest []
    same place open_ true goes =
        let parts = and_parts (nat_le w.first place) (nat_lt place w.end) goes in
        let from = skipped_not targets w.first w.end first place n open_ (leb-true w.first place parts.0) in
        ap (λ x. cond (goes_to place w) (cond x (pending (spelled c)) [] ++ map spelled after) []) (le-leb first place from) ∙ ap (λ l. cond (goes_to place w) l []) all
    same place open_ false goes =
        ap (λ x. cond x (cond (nat_le first place) (pending (spelled c)) [] ++ map spelled after) []) goes ∙ sym (ap (λ x. cond x w.rest []) goes)

-- the chunk was given up
pub cleared : (targets : List Target) (w new : Work) → HasRest targets w → new ≡ record w { chunk = [] } → LeavesSame targets w new
cleared targets w new rest is = λ place open_. ap (left_at place) is ∙ ap (λ l. cond (goes_to place w) l []) (whole (nat_le w.at place) w.rest) ∙ sym (rest place open_)
