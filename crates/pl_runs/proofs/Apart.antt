-- Each end of a plan belongs to one slice.
use Rattle.std.proofs.Common.{◌≡◌, ℕ, suc, ◌+◌, ◌<◌, ℤ, Bool, true, false, not, ◌&&◌, ◌||◌, ◌==◌, cond, List, [], ◌∷◌, ◌++◌, map, filter, length, flat_map, refl, sym, ap, ◌∙◌, subst, arith, ◌⊎◌, inl, inr, length-append}
use Rattle.std.specs.List.{list_any, AllByRecursion}
use Rattle.std.proofs.lemmas.Bool.{cases_Bool}
use Rattle.std.proofs.lemmas.Bool.Decides.{Decides-eqb}
use Rattle.ic_base.specs.declared.keys.ConnKey.{ConnKey}
use Rattle.ic_base.specs.declared.keys.ConnEnd.{ConnEnd}
use Rattle.ic_base.specs.Keys.{key_eq}
use Rattle.pl_tree.specs.declared.schema.Schema.{Schema}
use Rattle.pl_tree.specs.Trees.{Tree, Scan, Filter, Project, Limit, Sort, Join, Single, Partial, Final, Gather, Redistribute, Broadcast, motions_in}
use Rattle.pl_tree.specs.Loci.{locus_of}
use Rattle.pl_plan.specs.Motions.{Motion, Link, gang_at, motions_of, motions_in_plan, links_of, link_of, links_in, dispatcher}
use Rattle.pl_plan.specs.Ends.{end_of, end_if, is_at, ends_at, ends_in}
use Rattle.pl_runs.specs.Slices.{Worker}
use Rattle.pl_runs.specs.Logs.{is_of_slice, ends_of, sends_by, hears_by, hears_motion}
use Rattle.pl_runs.specs.Apart.{of_slice, SlicesAreApart}

-- ---- motions have their numbers in a row

abbrev Rises : ℕ → List Motion → Type 0
Rises n [] = Unit {0}
Rises n (m ∷ ms) = (m.number ≡ n) × Rises (suc n) ms

rises_on : (n k : ℕ) (ms : List Motion) → n ≡ k → Rises n ms → Rises k ms
rises_on n k ms e h = subst (λ i. Rises i ms) e h

rises_both : (n : ℕ) (ms ns : List Motion) → Rises n ms → Rises (n + length ms) ns → Rises n (ms ++ ns)
rises_both n [] ns h k = rises_on (n + 0) n ns (omega arith) k
rises_both n (m ∷ ms) ns h k = (h.0, rises_both (suc n) ms ns h.1 (rises_on (n + suc (length ms)) (suc n + length ms) ns (omega arith) k))

module _ (s : List Schema) (segments : ℕ) where
  long : (slice : ℕ) (gang : List ℤ) (n : ℕ) (tree : Tree) → length (motions_of s segments slice gang n tree) ≡ motions_in tree
  long slice gang n (Scan t) = refl
  long slice gang n (Filter e c) = long slice gang n c
  long slice gang n (Project cols c) = long slice gang n c
  long slice gang n (Limit k c) = long slice gang n c
  long slice gang n (Sort ks c) = long slice gang n c
  long slice gang n (Join on l r) =
      length-append (motions_of s segments slice gang n l) (motions_of s segments slice gang (n + motions_in l) r)
      ∙ ap (λ k. k + length (motions_of s segments slice gang (n + motions_in l) r)) (long slice gang n l) ∙ ap (λ k. motions_in l + k) (long slice gang (n + motions_in l) r)
  long slice gang n (Single g cs c) = long slice gang n c
  long slice gang n (Partial g cs c) = long slice gang n c
  long slice gang n (Final c) = long slice gang n c
  long slice gang n (Gather o c) = ap suc (long n (gang_at segments (locus_of s c)) (n + 1) c)
  long slice gang n (Redistribute ks c) = ap suc (long n (gang_at segments (locus_of s c)) (n + 1) c)
  long slice gang n (Broadcast c) = ap suc (long n (gang_at segments (locus_of s c)) (n + 1) c)

  rises : (slice : ℕ) (gang : List ℤ) (n : ℕ) (tree : Tree) → Rises n (motions_of s segments slice gang n tree)
  rises slice gang n (Scan t) = tt
  rises slice gang n (Filter e c) = rises slice gang n c
  rises slice gang n (Project cols c) = rises slice gang n c
  rises slice gang n (Limit k c) = rises slice gang n c
  rises slice gang n (Sort ks c) = rises slice gang n c
  rises slice gang n (Join on l r) =
      rises_both n (motions_of s segments slice gang n l) (motions_of s segments slice gang (n + motions_in l) r) (rises slice gang n l)
      (rises_on (n + motions_in l) (n + length (motions_of s segments slice gang n l)) (motions_of s segments slice gang (n + motions_in l) r) (ap (λ k. n + k) (sym (long slice gang n l))) (rises slice gang (n + motions_in l) r))
  rises slice gang n (Single g cs c) = rises slice gang n c
  rises slice gang n (Partial g cs c) = rises slice gang n c
  rises slice gang n (Final c) = rises slice gang n c
  rises slice gang n (Gather o c) = (refl, rises_on (n + 1) (suc n) (motions_of s segments n (gang_at segments (locus_of s c)) (n + 1) c) (omega arith) (rises n (gang_at segments (locus_of s c)) (n + 1) c))
  rises slice gang n (Redistribute ks c) = (refl, rises_on (n + 1) (suc n) (motions_of s segments n (gang_at segments (locus_of s c)) (n + 1) c) (omega arith) (rises n (gang_at segments (locus_of s c)) (n + 1) c))
  rises slice gang n (Broadcast c) = (refl, rises_on (n + 1) (suc n) (motions_of s segments n (gang_at segments (locus_of s c)) (n + 1) c) (omega arith) (rises n (gang_at segments (locus_of s c)) (n + 1) c))

-- ---- so a number tells the slice above

abbrev above_by : List Motion → ℕ → ℕ
above_by [] k = 0
above_by (m ∷ ms) k = cond (m.number == k) m.above (above_by ms k)

-- each of these motions is the one that its number names among all of them
abbrev AreTold : (all : List Motion) → List Motion → Type 0
AreTold all ms = AllByRecursion (λ (m : Motion). above_by all m.number ≡ m.above) ms

differ : (a b : ℕ) → (a ≡ b → ⊥) → (a == b) ≡ false
differ a b other = elim (cases_Bool (a == b)) [
  | inl t ↦ absurd (other ((Decides-eqb a b).0 t))
  | inr f ↦ f
]

past_first : (n : ℕ) (m : Motion) (all ms : List Motion) → m.number < n → Rises n ms → AreTold all ms → AreTold (m ∷ all) ms
past_first n m all [] lt h told = tt
past_first n m all (x ∷ ms) lt h told =
    let other : (m.number == x.number) ≡ false = differ m.number x.number (λ e. omega (arith, lt, h.0, e)) in
    (rw other told.0, past_first (suc n) m all ms (omega (arith, lt)) h.1 told.1)

tells : (n : ℕ) (ms : List Motion) → Rises n ms → AreTold ms ms
tells n [] h = tt
tells n (m ∷ ms) h =
    let self : (m.number == m.number) ≡ true = (Decides-eqb m.number m.number).1 refl in
    (rw self refl, past_first (suc n) m ms ms (omega (arith, h.0)) h.1 (tells (suc n) ms h.1))

-- ---- ends

all_both : {A : Type 0} (P : A → Type 0) (xs ys : List A) → AllByRecursion P xs → AllByRecursion P ys → AllByRecursion P (xs ++ ys)
all_both P [] ys h k = k
all_both P (x ∷ xs) ys h k = (h.0, all_both P xs ys h.1 k)

all_flat : {A B : Type 0} (P : B → Type 0) (f : A → List B) (xs : List A) → AllByRecursion (λ x. AllByRecursion P (f x)) xs → AllByRecursion P (flat_map f xs)
all_flat P f [] h = tt
all_flat P f (x ∷ xs) h = all_both P (f x) (flat_map f xs) h.0 (all_flat P f xs h.1)

all_next : {A : Type 0} (P Q : A → Type 0) → ((x : A) → P x → Q x) → (xs : List A) → AllByRecursion P xs → AllByRecursion Q xs
all_next P Q next [] h = tt
all_next P Q next (x ∷ xs) h = (next x h.0, all_next P Q next xs h.1)

all_any : {A : Type 0} (P : A → Type 0) → ((x : A) → P x) → (xs : List A) → AllByRecursion P xs
all_any P each [] = tt
all_any P each (x ∷ xs) = (each x, all_any P each xs)

all_mapped : {A B : Type 0} (P : B → Type 0) (f : A → B) → ((x : A) → P (f x)) → (xs : List A) → AllByRecursion P (map f xs)
all_mapped P f each [] = tt
all_mapped P f each (x ∷ xs) = (each x, all_mapped P f each xs)

-- the slice above a connection is that of its motion's number
abbrev IsTold : List Motion → Link → Type 0
IsTold all l = above_by all l.motion ≡ l.above

links_told : (all : List Motion) (m : Motion) → above_by all m.number ≡ m.above → AllByRecursion (IsTold all) (links_of m)
links_told all m told =
    all_flat (IsTold all) (λ from. map (link_of m from) m.receivers) m.senders
    (all_any (λ from. AllByRecursion (IsTold all) (map (link_of m from) m.receivers)) (λ from. all_mapped (IsTold all) (link_of m from) (λ to. told) m.receivers) m.senders)

-- an end that sends is of the slice that has its motion's number, and one that receives is of the slice above
record IsPlaced (all : List Motion) (e : ConnEnd) : Type 0 where
  sends : e.sending ≡ true → e.send_slice ≡ e.key.motion
  hears : e.sending ≡ false → e.recv_slice ≡ above_by all e.key.motion

ends_placed : (all : List Motion) (session query : ℕ) (at : ℤ) (l : Link) → IsTold all l → AllByRecursion (IsPlaced all) (ends_at session query at l)
ends_placed all session query at l told =
    all_both (IsPlaced all) (end_if (is_at at l.from) (end_of session query true l)) (end_if (is_at at l.to) (end_of session query false l))
    (one (is_at at l.from) (end_of session query true l) (record { sends = λ _. refl; hears = λ e. absurd cc }))
    (one (is_at at l.to) (end_of session query false l) (record { sends = λ e. absurd cc; hears = λ _. sym told }))
  where
    one : (b : Bool) (e : ConnEnd) → IsPlaced all e → AllByRecursion (IsPlaced all) (end_if b e)
    one true e h = (h, tt)
    one false e h = tt

all_placed : (s : List Schema) (segments : ℕ) (tree : Tree) (session query : ℕ) (at : ℤ) → AllByRecursion (IsPlaced (motions_in_plan s segments tree)) (ends_in s segments tree session query at)
all_placed s segments tree session query at =
    let all = motions_in_plan s segments tree in
    all_flat (IsPlaced all) (ends_at session query at) (links_in s segments tree)
    (all_next (IsTold all) (λ l. AllByRecursion (IsPlaced all) (ends_at session query at l)) (ends_placed all session query at) (links_in s segments tree)
    (all_flat (IsTold all) links_of all (all_next (λ (m : Motion). above_by all m.number ≡ m.above) (λ m. AllByRecursion (IsTold all) (links_of m)) (links_told all) all (tells 1 all (rises s segments 0 dispatcher 1 tree)))))

-- ---- what goes by an end tells the slice

first_of : (a b : Bool) → (a && b) ≡ true → a ≡ true
first_of true b h = refl
first_of false b h = absurd cc

second_of : (a b : Bool) → (a && b) ≡ true → b ≡ true
second_of true b h = h
second_of false b h = absurd cc

either_of : (a b : Bool) → (a || b) ≡ true → (a ≡ true) ⊎ (b ≡ true)
either_of true b h = inl refl
either_of false b h = inr h

negated : (b : Bool) → not b ≡ true → b ≡ false
negated true h = absurd cc
negated false h = refl

same_motion : (a b : ConnKey) → key_eq a b ≡ true → a.motion ≡ b.motion
unfolding key_eq
same_motion a b h =
    (Decides-eqb a.motion b.motion).0 (first_of (a.motion == b.motion) _ (second_of (a.query == b.query) _ (second_of (a.session == b.session) _ h)))

-- of the ends of one slice that pass a test, which makes the slice a value of what is tested
told_by : (test : ConnEnd → Bool) (a v : ℕ) (all : List Motion) → ((e : ConnEnd) → IsPlaced all e → is_of_slice a e ≡ true → test e ≡ true → v ≡ a)
    → (ends : List ConnEnd) → AllByRecursion (IsPlaced all) ends → list_any test (filter (is_of_slice a) ends) ≡ true → v ≡ a
told_by test a v all is [] placed h = absurd cc
told_by test a v all is (e ∷ ends) placed h = by_slice (is_of_slice a e) refl h (told_by test a v all is ends placed.1)
  where
    by_slice : (b : Bool) → is_of_slice a e ≡ b → list_any test (cond b (e ∷ filter (is_of_slice a) ends) (filter (is_of_slice a) ends)) ≡ true
        → (list_any test (filter (is_of_slice a) ends) ≡ true → v ≡ a) → v ≡ a
    by_slice true of any later = elim (either_of (test e) (list_any test (filter (is_of_slice a) ends)) any) [
      | inl here ↦ is e placed.0 of here
      | inr behind ↦ later behind
    ]
    by_slice false of any later = later any

sent_by : (e : ConnEnd) (a : ℕ) → e.sending ≡ true → is_of_slice a e ≡ true → e.send_slice ≡ a
sent_by e a sends of = by_side e.sending sends of
  where
    by_side : (b : Bool) → b ≡ true → (cond b (e.send_slice == a) (e.recv_slice == a)) ≡ true → e.send_slice ≡ a
    by_side true is of = (Decides-eqb e.send_slice a).0 of
    by_side false is of = absurd cc

heard_by : (e : ConnEnd) (a : ℕ) → e.sending ≡ false → is_of_slice a e ≡ true → e.recv_slice ≡ a
heard_by e a hears of = by_side e.sending hears of
  where
    by_side : (b : Bool) → b ≡ false → (cond b (e.send_slice == a) (e.recv_slice == a)) ≡ true → e.recv_slice ≡ a
    by_side true is of = absurd cc
    by_side false is of = (Decides-eqb e.recv_slice a).0 of

module _ (w : Worker) (session query : ℕ) where
  abbrev all : List Motion
  all = motions_in_plan w.site.schemas w.site.segments w.tree

  placed : AllByRecursion (IsPlaced all) (ends_in w.site.schemas w.site.segments w.tree session query w.at)
  placed = all_placed w.site.schemas w.site.segments w.tree session query w.at

  sends_tell : (slice : ℕ) (key : ConnKey) → sends_by (ends_of (of_slice w slice) session query) key ≡ true → key.motion ≡ slice
  sends_tell slice key h =
      told_by (λ (e : ConnEnd). e.sending && key_eq e.key key) slice key.motion all
      (λ e p of t.
      let sending = first_of e.sending (key_eq e.key key) t in
      sym (same_motion e.key key (second_of e.sending (key_eq e.key key) t)) ∙ sym (p.sends sending) ∙ sent_by e slice sending of)
      (ends_in w.site.schemas w.site.segments w.tree session query w.at) placed h

  hears_tell : (slice : ℕ) (key : ConnKey) → hears_by (ends_of (of_slice w slice) session query) key ≡ true → above_by all key.motion ≡ slice
  hears_tell slice key h =
      told_by (λ (e : ConnEnd). not e.sending && key_eq e.key key) slice (above_by all key.motion) all
      (λ e p of t.
      let hearing = negated e.sending (first_of (not e.sending) (key_eq e.key key) t) in
      ap (above_by all) (sym (same_motion e.key key (second_of (not e.sending) (key_eq e.key key) t))) ∙ sym (p.hears hearing) ∙ heard_by e slice hearing of)
      (ends_in w.site.schemas w.site.segments w.tree session query w.at) placed h

  takes_tell : (slice asked motion : ℕ) → hears_motion (ends_of (of_slice w slice) session query) asked motion ≡ true → above_by all motion ≡ slice
  takes_tell slice asked motion h =
      told_by (λ (e : ConnEnd). not e.sending && ((e.key.query == asked) && (e.key.motion == motion))) slice (above_by all motion) all
      (λ e p of t.
      let hearing = negated e.sending (first_of (not e.sending) _ t) in
      let is : e.key.motion ≡ motion = (Decides-eqb e.key.motion motion).0 (second_of (e.key.query == asked) _ (second_of (not e.sending) _ t)) in
      ap (above_by all) (sym is) ∙ sym (p.hears hearing) ∙ heard_by e slice hearing of)
      (ends_in w.site.schemas w.site.segments w.tree session query w.at) placed h

-- what tells the one slice doesn't tell the other
not_both : (b : Bool) (v a c : ℕ) → v ≡ a → (a ≡ c → ⊥) → (b ≡ true → v ≡ c) → b ≡ false
not_both true v a c is apart tells = absurd (apart (sym is ∙ tells refl))
not_both false v a c is apart tells = refl

pub slices_are_apart : SlicesAreApart
slices_are_apart w slice session query apart = record {
  sent = λ key h. not_both (sends_by (ends_of (of_slice w slice) session query) key) key.motion w.slice slice (sends_tell w session query w.slice key h) apart (sends_tell w session query slice key);
  heard = λ key h. not_both (hears_by (ends_of (of_slice w slice) session query) key) (above_by (all w session query) key.motion) w.slice slice (hears_tell w session query w.slice key h) apart (hears_tell w session query slice key);
  taken = λ asked motion h. not_both (hears_motion (ends_of (of_slice w slice) session query) asked motion) (above_by (all w session query) motion) w.slice slice (takes_tell w session query w.slice asked motion h) apart (takes_tell w session query slice asked motion);
}
