-- The ends that a segment has of a plan: no two have the same key and side, and a connection to itself has both.
use Rattle.std.proofs.Common.{◌≡◌, ◌≢◌, ◌⊎◌, ℕ, zero, suc, ◌+◌, ◌≤◌, ℤ, pos, Bool, true, false, not, List, [], ◌∷◌, ◌++◌, map, refl, sym, ap, ◌∙◌, subst, arith, inl, inr, append_assoc}
use Rattle.std.specs.Prelude.{Contains, flat_map}
use Rattle.std.proofs.lemmas.Bool.Decides.{Decides-int_eq}
use Rattle.ic_base.specs.declared.keys.ConnKey.{ConnKey}
use Rattle.ic_base.specs.declared.keys.ConnEnd.{ConnEnd}
use Rattle.ic_base.specs.declared.settings.Settings.{Settings}
use Rattle.ic_law.specs.Points.{place_at}
use Rattle.ic_law.specs.Asking.{IsEndHere, AreEnds}
use Rattle.ic_law.proofs.Lists.{Contains-none, head_or_tail}
use Rattle.pl_tree.specs.declared.schema.Schema.{Schema}
use Rattle.pl_tree.specs.declared.schema.Locus.{Locus}
use Rattle.pl_tree.specs.declared.schema.Locus.TheVariants.{Entry, Hashed, Replicated, Strewn}
use Rattle.pl_tree.specs.Loci.{locus_of}
use Rattle.pl_tree.specs.Trees.{Tree, Scan, Filter, Project, Limit, Sort, Join, Single, Partial, Final, Gather, Redistribute, Broadcast, motions_in}
use Rattle.pl_plan.specs.Motions.{Motion, Link, segments_from, gang_at, dispatcher, motions_of, motions_in_plan, link_of, links_of, links_in}
use Rattle.pl_plan.specs.Ends.{key_of, end_of, is_at, end_if, ends_at, ends_in}
use Rattle.pl_parts.proofs.Members.{In, NoTwice, In-left, In-right, In-cases, In-flat, In-from_flat, In-from_map}
use Rattle.gd_answer.proofs.Links.{in_contains}

-- ---- gangs

numbers_high : (first n : ℕ) (a : ℤ) → In a (segments_from first n) → (k : ℕ) × (a ≡ pos k) × (first ≤ k)
numbers_high first zero a i = absurd i
numbers_high first (suc n) a (inl e) = (first, e, omega arith)
numbers_high first (suc n) a (inr i) = let w = numbers_high (suc first) n a i in (w.0, w.1, omega (arith, w.2))

numbers_once : (first n : ℕ) → NoTwice (segments_from first n)
numbers_once first zero = tt
numbers_once first (suc n) =
    (λ i. let w = numbers_high (suc first) n (pos first) i in let same : first ≡ w.0 = let e = w.1 in cc in omega (arith, same, w.2), numbers_once (suc first) n)

pub gang_once : (segments : ℕ) (l : Locus) → NoTwice (gang_at segments l)
gang_once segments Entry = numbers_once 0 segments
gang_once segments (Hashed columns) = numbers_once 0 segments
gang_once segments Replicated = numbers_once 0 1
gang_once segments Strewn = numbers_once 0 segments

-- ---- motions have their numbers in a row, and gangs of which no member comes twice

record HasGangs (m : Motion) : Type 0 where
  senders : NoTwice m.senders
  receivers : NoTwice m.receivers

abbrev Numbered : ℕ → ℕ → List Motion → Type 0
Numbered n k [] = n ≡ k
Numbered n k (m ∷ ms) = (m.number ≡ n) × HasGangs m × Numbered (suc n) k ms

numbered_both : (n k l : ℕ) (ms ns : List Motion) → Numbered n k ms → Numbered k l ns → Numbered n l (ms ++ ns)
numbered_both n k l [] ns h i = subst (λ x. Numbered x l ns) (sym h) i
numbered_both n k l (m ∷ ms) ns h i = (h.0, h.1, numbered_both (suc n) k l ms ns h.2 i)

numbered_to : (n k l : ℕ) (ms : List Motion) → k ≡ l → Numbered n k ms → Numbered n l ms
numbered_to n k l ms e h = subst (λ x. Numbered n x ms) e h

numbered_from : (n m k : ℕ) (ms : List Motion) → n ≡ m → Numbered n k ms → Numbered m k ms
numbered_from n m k ms e h = subst (λ x. Numbered x k ms) e h

module _ (s : List Schema) (segments : ℕ) where
  below : (slice : ℕ) (gang : List ℤ) (n : ℕ) (c : Tree) → NoTwice gang
      → Numbered (n + 1) ((n + 1) + motions_in c) (motions_of s segments n (gang_at segments (locus_of s c)) (n + 1) c)
      → Numbered n (n + suc (motions_in c)) (record { number = n; above = slice; senders = gang_at segments (locus_of s c); receivers = gang } ∷ motions_of s segments n (gang_at segments (locus_of s c)) (n + 1) c)
  below slice gang n c once rest_is =
      let gang_c = gang_at segments (locus_of s c) in
      let rest = motions_of s segments n gang_c (n + 1) c in (
        refl,
        record { senders = gang_once segments (locus_of s c); receivers = once },
        numbered_from (n + 1) (suc n) (n + suc (motions_in c)) rest (omega arith) (numbered_to (n + 1) ((n + 1) + motions_in c) (n + suc (motions_in c)) rest (omega arith) rest_is),
      )

  numbered : (slice : ℕ) (gang : List ℤ) (n : ℕ) (tree : Tree) → NoTwice gang → Numbered n (n + motions_in tree) (motions_of s segments slice gang n tree)
  numbered slice gang n (Scan t) once = omega arith
  numbered slice gang n (Filter e c) once = numbered slice gang n c once
  numbered slice gang n (Project cols c) once = numbered slice gang n c once
  numbered slice gang n (Limit k c) once = numbered slice gang n c once
  numbered slice gang n (Sort ks c) once = numbered slice gang n c once
  numbered slice gang n (Join on l r) once =
      numbered_both n (n + motions_in l) (n + (motions_in l + motions_in r)) (motions_of s segments slice gang n l) (motions_of s segments slice gang (n + motions_in l) r) (numbered slice gang n l once)
      (numbered_to (n + motions_in l) ((n + motions_in l) + motions_in r) (n + (motions_in l + motions_in r)) (motions_of s segments slice gang (n + motions_in l) r) (omega arith) (numbered slice gang (n + motions_in l) r once))
  numbered slice gang n (Single g cs c) once = numbered slice gang n c once
  numbered slice gang n (Partial g cs c) once = numbered slice gang n c once
  numbered slice gang n (Final c) once = numbered slice gang n c once
  numbered slice gang n (Gather o c) once = below slice gang n c once (numbered n (gang_at segments (locus_of s c)) (n + 1) c (gang_once segments (locus_of s c)))
  numbered slice gang n (Redistribute ks c) once = below slice gang n c once (numbered n (gang_at segments (locus_of s c)) (n + 1) c (gang_once segments (locus_of s c)))
  numbered slice gang n (Broadcast c) once = below slice gang n c once (numbered n (gang_at segments (locus_of s c)) (n + 1) c (gang_once segments (locus_of s c)))

-- ---- no two connections have the same key

abbrev SameKey : Link → Link → Type 0
SameKey l k = (l.motion ≡ k.motion) × (l.from ≡ k.from) × (l.to ≡ k.to)

abbrev KeysOnce : List Link → Type 0
KeysOnce [] = Unit {0}
KeysOnce (l ∷ ls) = ((k : Link) → In k ls → SameKey l k → ⊥) × KeysOnce ls

keys_both : (ls ks : List Link) → KeysOnce ls → KeysOnce ks → ((l k : Link) → In l ls → In k ks → SameKey l k → ⊥) → KeysOnce (ls ++ ks)
keys_both [] ks h i apart = i
keys_both (l ∷ ls) ks h i apart =
    (λ k among same. elim (In-cases k ls ks among) [ inl x ↦ h.0 k x same | inr x ↦ apart l k (inl refl) x same ], keys_both ls ks h.1 i (λ x k there. apart x k (inr there)))

keys_to : (m : Motion) (from : ℤ) (tos : List ℤ) → NoTwice tos → KeysOnce (map (link_of m from) tos)
keys_to m from [] once = tt
keys_to m from (to ∷ tos) once =
    (λ k among same. let w = In-from_map (link_of m from) k tos among in once.0 (subst (λ z. In z tos) (sym (same.2 ∙ ap (λ (l : Link). l.to) w.2)) w.1), keys_to m from tos once.1)

from_is : (m : Motion) (from : ℤ) (l : Link) → In l (map (link_of m from) m.receivers) → (l.motion ≡ m.number) × (l.from ≡ from)
from_is m from l among = let w = In-from_map (link_of m from) l m.receivers among in (ap (λ (k : Link). k.motion) w.2, ap (λ (k : Link). k.from) w.2)

keys_from : (m : Motion) (froms : List ℤ) → NoTwice m.receivers → NoTwice froms → KeysOnce (flat_map (λ from. map (link_of m from) m.receivers) froms)
keys_from m [] receivers once = tt
keys_from m (from ∷ froms) receivers once =
    keys_both (map (link_of m from) m.receivers) (flat_map (λ f. map (link_of m f) m.receivers) froms) (keys_to m from m.receivers receivers) (keys_from m froms receivers once.1)
    (λ l k here there same.
    let w = In-from_flat (λ f. map (link_of m f) m.receivers) k froms there in
    once.0 (subst (λ z. In z froms) (sym (sym (from_is m from l here).1 ∙ same.1 ∙ (from_is m w.0 k w.2).1)) w.1))

motion_is : (m : Motion) (l : Link) → In l (links_of m) → l.motion ≡ m.number
motion_is m l among = let w = In-from_flat (λ f. map (link_of m f) m.receivers) l m.senders among in (from_is m w.0 l w.2).0

number_high : (n k : ℕ) (ms : List Motion) (m : Motion) → Numbered n k ms → In m ms → n ≤ m.number
number_high n k [] m h among = absurd among
number_high n k (x ∷ ms) m h (inl e) = omega (arith, h.0, ap (λ (y : Motion). y.number) e)
number_high n k (x ∷ ms) m h (inr i) = omega (arith, number_high (suc n) k ms m h.2 i)

keys_once : (n k : ℕ) (ms : List Motion) → Numbered n k ms → KeysOnce (flat_map links_of ms)
keys_once n k [] h = tt
keys_once n k (m ∷ ms) h =
    keys_both (links_of m) (flat_map links_of ms) (keys_from m m.senders h.1.receivers h.1.senders) (keys_once (suc n) k ms h.2)
    (λ l j here there same.
    let w = In-from_flat links_of j ms there in
    omega (arith, h.0, motion_is m l here, same.0, motion_is w.0 j w.2, number_high (suc n) k ms w.0 h.2 w.1))

-- ---- so no two ends have the same key and side

abbrev Once : List ConnEnd → Type 0
Once [] = Unit {0}
Once (e ∷ es) = ((x : ConnEnd) → In x es → e.key ≡ x.key → e.sending ≢ x.sending) × Once es

once_both : (xs ys : List ConnEnd) → Once xs → Once ys → ((x y : ConnEnd) → In x xs → In y ys → x.key ≡ y.key → x.sending ≢ y.sending) → Once (xs ++ ys)
once_both [] ys h i apart = i
once_both (x ∷ xs) ys h i apart =
    (λ y among same. elim (In-cases y xs ys among) [ inl w ↦ h.0 y w same | inr w ↦ apart x y (inl refl) w same ], once_both xs ys h.1 i (λ z y there. apart z y (inr there)))

once_behind : (front rest : List ConnEnd) → Once (front ++ rest) → Once rest
once_behind [] rest h = h
once_behind (e ∷ front) rest h = once_behind front rest h.1

once_apart : (front between back : List ConnEnd) (a b : ConnEnd) (ends : List ConnEnd) → Once ends → ends ≡ front ++ a ∷ between ++ b ∷ back → a.key ≡ b.key → a.sending ≢ b.sending
once_apart front between back a b ends h is same = (once_behind front (a ∷ (between ++ b ∷ back)) (subst Once (is ∙ append_assoc front (a ∷ between) (b ∷ back)) h)).0 b (In-right b between (b ∷ back) (inl refl)) same

module _ (session query : ℕ) (at : ℤ) where
  -- an end at a segment is a side of its connection
  side : (l : Link) (e : ConnEnd) → In e (ends_at session query at l) → ((e ≡ end_of session query true l) × (is_at at l.from ≡ true)) ⊎ ((e ≡ end_of session query false l) × (is_at at l.to ≡ true))
  side l e among = elim (In-cases e (end_if (is_at at l.from) (end_of session query true l)) (end_if (is_at at l.to) (end_of session query false l)) among) [
    | inl w ↦ inl (one (is_at at l.from) (end_of session query true l) w)
    | inr w ↦ inr (one (is_at at l.to) (end_of session query false l) w)
  ]
    where
      one : (b : Bool) (x : ConnEnd) → In e (end_if b x) → (e ≡ x) × (b ≡ true)
      one true x (inl q) = (q, refl)
      one true x (inr i) = absurd i
      one false x i = absurd i

  key_is : (l : Link) (e : ConnEnd) → In e (ends_at session query at l) → e.key ≡ key_of session query l
  key_is l e among = elim (side l e among) [ inl w ↦ ap (λ (x : ConnEnd). x.key) w.0 | inr w ↦ ap (λ (x : ConnEnd). x.key) w.0 ]

  once_at : (l : Link) → Once (ends_at session query at l)
  once_at l = by (is_at at l.from) (is_at at l.to)
    where
      differ : true ≢ false
      differ e = cc

      by : (a b : Bool) → Once (end_if a (end_of session query true l) ++ end_if b (end_of session query false l))
      by true true = (λ x among same. elim among [ inl q ↦ λ e. differ (e ∙ ap (λ (y : ConnEnd). y.sending) q) | inr i ↦ absurd i ], (λ x i. absurd i, tt))
      by true false = (λ x i. absurd i, tt)
      by false true = (λ x i. absurd i, tt)
      by false false = tt

  once_all : (ls : List Link) → KeysOnce ls → Once (flat_map (ends_at session query at) ls)
  once_all [] h = tt
  once_all (l ∷ ls) h =
      once_both (ends_at session query at l) (flat_map (ends_at session query at) ls) (once_at l) (once_all ls h.1)
      (λ x y here there same.
      let w = In-from_flat (ends_at session query at) y ls there in
      let keys : key_of session query l ≡ key_of session query w.0 = sym (key_is l x here) ∙ same ∙ key_is w.0 y w.2 in
      absurd (h.0 w.0 w.1 (ap (λ (k : ConnKey). k.motion) keys, ap (λ (k : ConnKey). k.from) keys, ap (λ (k : ConnKey). k.to) keys)))

  -- ---- and each is one that may begin here

  from_at : (z : ℤ) → is_at at z ≡ true → z ≡ at
  from_at z h = (Decides-int_eq z at).0 h

  at_from : (z : ℤ) → z ≡ at → is_at at z ≡ true
  at_from z h = (Decides-int_eq z at).1 h

  module _ (settings : Settings) where
    here : (l : Link) (e : ConnEnd) → In e (ends_at session query at l) → IsEndHere (place_at session at settings) query e
    here l e among = elim (side l e among) [
      | inl w ↦ subst (IsEndHere (place_at session at settings) query) (sym w.0) (record { session = refl; query_is = refl; sends_here = λ s. from_at l.from w.1; receives_here = λ s. absurd cc })
      | inr w ↦ subst (IsEndHere (place_at session at settings) query) (sym w.0) (record { session = refl; query_is = refl; sends_here = λ s. absurd cc; receives_here = λ s. from_at l.to w.1 })
    ]

    contains_in : (xs : List ConnEnd) (x : ConnEnd) → Contains xs x → In x xs
    contains_in [] x h = absurd (Contains-none x h)
    contains_in (y ∷ xs) x h = elim (head_or_tail y xs x h) [ inl e ↦ inl (sym e) | inr i ↦ inr (contains_in xs x i) ]

    -- a connection to itself
    other_side : (l : Link) (e : ConnEnd) → In e (ends_at session query at l) → e.key.from ≡ e.key.to → (x : ConnEnd) × In x (ends_at session query at l) × (x.key ≡ e.key) × (x.sending ≡ not e.sending)
    other_side l e among same = elim (side l e among) [
      | inl w ↦
          let to : l.to ≡ at = sym (subst (λ (x : ConnEnd). x.key.from ≡ x.key.to) w.0 same) ∙ from_at l.from w.1 in (
            end_of session query false l,
            In-right (end_of session query false l) (end_if (is_at at l.from) (end_of session query true l)) (end_if (is_at at l.to) (end_of session query false l)) (subst (λ b. In (end_of session query false l) (end_if b (end_of session query false l))) (sym (at_from l.to to)) (inl refl)),
            sym (ap (λ (x : ConnEnd). x.key) w.0),
            sym (ap (λ (x : ConnEnd). not x.sending) w.0),
          )
      | inr w ↦
          let from : l.from ≡ at = subst (λ (x : ConnEnd). x.key.from ≡ x.key.to) w.0 same ∙ from_at l.to w.1 in (
            end_of session query true l,
            In-left (end_of session query true l) (end_if (is_at at l.from) (end_of session query true l)) (end_if (is_at at l.to) (end_of session query false l)) (subst (λ b. In (end_of session query true l) (end_if b (end_of session query true l))) (sym (at_from l.from from)) (inl refl)),
            sym (ap (λ (x : ConnEnd). x.key) w.0),
            sym (ap (λ (x : ConnEnd). not x.sending) w.0),
          )
    ]

    are_ends : (ls : List Link) → KeysOnce ls → AreEnds (place_at session at settings) query (flat_map (ends_at session query at) ls)
    are_ends ls keys = record {
      each = λ e among. let w = In-from_flat (ends_at session query at) e ls (contains_in (flat_map (ends_at session query at) ls) e among) in here w.0 e w.2;
      once = λ front between back a b is. once_apart front between back a b (flat_map (ends_at session query at) ls) (once_all ls keys) is;
      both = λ e among same.
          let w = In-from_flat (ends_at session query at) e ls (contains_in (flat_map (ends_at session query at) ls) e among) in
          let o = other_side w.0 e w.2 same in
          (o.0, in_contains (flat_map (ends_at session query at) ls) o.0 (In-flat (ends_at session query at) o.0 w.0 ls w.1 o.1), o.2, o.3);
    }

pub plans_have_ends : (s : List Schema) (segments : ℕ) (tree : Tree) (session query : ℕ) (at : ℤ) (settings : Settings) → AreEnds (place_at session at settings) query (ends_in s segments tree session query at)
plans_have_ends s segments tree session query at settings =
    are_ends session query at settings (links_in s segments tree) (keys_once 1 (1 + motions_in tree) (motions_in_plan s segments tree) (numbered s segments 0 dispatcher 1 tree (λ i. i, tt)))
