-- The motions that a part hears are motions of its node.
use Rattle.std.proofs.Common.{◌≡◌, ℕ, suc, ◌+◌, ◌<◌, ◌≤◌, ℤ, List, [], ◌∷◌, ◌++◌, None, refl, sym, ap, ◌∙◌, inl, inr, arith}
use Rattle.std.specs.Prelude.{◌⊎◌}
use Rattle.pl_tree.specs.declared.schema.Schema.{Schema}
use Rattle.pl_tree.specs.declared.schema.Locus.{Locus}
use Rattle.pl_tree.specs.Trees.{Tree, Scan, Filter, Project, Limit, Sort, Join, Single, Partial, Final, Gather, Redistribute, Broadcast, nodes_in, motions_in}
use Rattle.pl_tree.specs.Loci.{locus_of}
use Rattle.pl_plan.specs.Motions.{Motion, gang_at, motions_of}
use Rattle.std.specs.List.{AllByRecursion}
use Rattle.pl_parts.proofs.Members.{In, NoTwice, In-left, In-right, In-cases, All-in, All-from_in}
use Rattle.pl_mean.specs.Parts.{Site}
use Rattle.ex_tree.specs.Parts.{Source, Has, AreApart}
use Rattle.ex_tree.specs.Plans.{Place, source_at, part_of}

-- ---- numbers

module _ (s : List Schema) (segments : ℕ) where
  first_or : (slice n : ℕ) (gang : List ℤ) (c : Tree) (m first : Motion) → first.number ≡ n → In m (first ∷ motions_of s segments n gang (n + 1) c)
      → (In m (motions_of s segments n gang (n + 1) c) → (n + 1 ≤ m.number) × (m.number < n + 1 + motions_in c)) → (n ≤ m.number) × (m.number < n + suc (motions_in c))
  first_or slice n gang c m first is (inl e) rest = let k : m.number ≡ n = ap (λ (x : Motion). x.number) e ∙ is in (omega (arith, k), omega (arith, k))
  first_or slice n gang c m first is (inr x) rest = let k = rest x in (omega (arith, k.0), omega (arith, k.1))

  on_left : (n a b : ℕ) (m : Motion) → (n ≤ m.number) × (m.number < n + a) → (n ≤ m.number) × (m.number < n + (a + b))
  on_left n a b m k = (k.0, omega (arith, k.1))

  on_right : (n a b : ℕ) (m : Motion) → (n + a ≤ m.number) × (m.number < n + a + b) → (n ≤ m.number) × (m.number < n + (a + b))
  on_right n a b m k = (omega (arith, k.0), omega (arith, k.1))

  -- the motions of a node have the numbers from its first on
  pub within : (slice n : ℕ) (gang : List ℤ) (p : Tree) (m : Motion) → In m (motions_of s segments slice gang n p) → (n ≤ m.number) × (m.number < n + motions_in p)
  within slice n gang (Scan t) m h = absurd h
  within slice n gang (Filter e c) m h = within slice n gang c m h
  within slice n gang (Project cols c) m h = within slice n gang c m h
  within slice n gang (Limit k c) m h = within slice n gang c m h
  within slice n gang (Sort ks c) m h = within slice n gang c m h
  within slice n gang (Join on l r) m h =
      elim (In-cases m (motions_of s segments slice gang n l) (motions_of s segments slice gang (n + motions_in l) r) h) [
        | inl x ↦ on_left n (motions_in l) (motions_in r) m (within slice n gang l m x)
        | inr x ↦ on_right n (motions_in l) (motions_in r) m (within slice (n + motions_in l) gang r m x)
      ]
  within slice n gang (Single g cs c) m h = within slice n gang c m h
  within slice n gang (Partial g cs c) m h = within slice n gang c m h
  within slice n gang (Final c) m h = within slice n gang c m h
  within slice n gang (Gather o c) m h = first_or slice n (gang_at segments (locus_of s c)) c m (record { number = n; above = slice; senders = gang_at segments (locus_of s c); receivers = gang }) refl h (λ x. within n (n + 1) (gang_at segments (locus_of s c)) c m x)
  within slice n gang (Redistribute ks c) m h = first_or slice n (gang_at segments (locus_of s c)) c m (record { number = n; above = slice; senders = gang_at segments (locus_of s c); receivers = gang }) refl h (λ x. within n (n + 1) (gang_at segments (locus_of s c)) c m x)
  within slice n gang (Broadcast c) m h = first_or slice n (gang_at segments (locus_of s c)) c m (record { number = n; above = slice; senders = gang_at segments (locus_of s c); receivers = gang }) refl h (λ x. within n (n + 1) (gang_at segments (locus_of s c)) c m x)

-- ---- so they rise

abbrev pub Rise : List Motion → Type 0
Rise [] = Unit {0}
Rise (m ∷ ms) = AllByRecursion (λ (x : Motion). m.number < x.number) ms × Rise ms

rise_both : (xs ys : List Motion) → Rise xs → Rise ys → ((x y : Motion) → In x xs → In y ys → x.number < y.number) → Rise (xs ++ ys)
rise_both [] ys h k apart = k
rise_both (x ∷ xs) ys h k apart =
    (All-from_in (λ (y : Motion). x.number < y.number) (xs ++ ys) (λ y i. after y (In-cases y xs ys i)), rise_both xs ys h.1 k (λ a b i l. apart a b (inr i) l))
  where
    after : (y : Motion) → In y xs ⊎ In y ys → x.number < y.number
    after y (inl i) = All-in (λ (z : Motion). x.number < z.number) y xs h.0 i
    after y (inr i) = apart x y (inl refl) i

module _ (s : List Schema) (segments : ℕ) where
  from_here : (n slice : ℕ) (gang : List ℤ) (c : Tree) (m : Motion) → m.number ≡ n → Rise (motions_of s segments slice gang (n + 1) c) → Rise (m ∷ motions_of s segments slice gang (n + 1) c)
  from_here n slice gang c m is h = (All-from_in (λ (x : Motion). m.number < x.number) (motions_of s segments slice gang (n + 1) c) (λ x i. let k = within s segments slice (n + 1) gang c x i in omega (arith, k.0, is)), h)

  pub rises : (slice n : ℕ) (gang : List ℤ) (p : Tree) → Rise (motions_of s segments slice gang n p)
  rises slice n gang (Scan t) = tt
  rises slice n gang (Filter e c) = rises slice n gang c
  rises slice n gang (Project cols c) = rises slice n gang c
  rises slice n gang (Limit k c) = rises slice n gang c
  rises slice n gang (Sort ks c) = rises slice n gang c
  rises slice n gang (Join on l r) =
      rise_both (motions_of s segments slice gang n l) (motions_of s segments slice gang (n + motions_in l) r) (rises slice n gang l) (rises slice (n + motions_in l) gang r)
      (λ x y i k. let a = within s segments slice n gang l x i in let b = within s segments slice (n + motions_in l) gang r y k in omega (arith, a.1, b.0))
  rises slice n gang (Single g cs c) = rises slice n gang c
  rises slice n gang (Partial g cs c) = rises slice n gang c
  rises slice n gang (Final c) = rises slice n gang c
  rises slice n gang (Gather o c) =
      from_here n n (gang_at segments (locus_of s c)) c (record { number = n; above = slice; senders = gang_at segments (locus_of s c); receivers = gang }) refl (rises n (n + 1) (gang_at segments (locus_of s c)) c)
  rises slice n gang (Redistribute ks c) =
      from_here n n (gang_at segments (locus_of s c)) c (record { number = n; above = slice; senders = gang_at segments (locus_of s c); receivers = gang }) refl (rises n (n + 1) (gang_at segments (locus_of s c)) c)
  rises slice n gang (Broadcast c) =
      from_here n n (gang_at segments (locus_of s c)) c (record { number = n; above = slice; senders = gang_at segments (locus_of s c); receivers = gang }) refl (rises n (n + 1) (gang_at segments (locus_of s c)) c)

-- a number names one motion
pub unique : (ms : List Motion) (a b : Motion) → Rise ms → In a ms → In b ms → a.number ≡ b.number → a ≡ b
unique [] a b h i k same = absurd i
unique (m ∷ ms) a b h (inl e) (inl f) same = e ∙ sym f
unique (m ∷ ms) a b h (inl e) (inr k) same = let lt = All-in (λ (x : Motion). m.number < x.number) b ms h.0 k in let is : a.number ≡ m.number = ap (λ (x : Motion). x.number) e in absurd (omega (arith, lt, is, same))
unique (m ∷ ms) a b h (inr i) (inl f) same = let lt = All-in (λ (x : Motion). m.number < x.number) a ms h.0 i in let is : b.number ≡ m.number = ap (λ (x : Motion). x.number) f in absurd (omega (arith, lt, is, same))
unique (m ∷ ms) a b h (inr i) (inr k) same = unique ms a b h.1 i k same

pub no_twice : (ms : List Motion) → Rise ms → NoTwice ms
no_twice [] h = tt
no_twice (m ∷ ms) h = ((λ i. let lt = All-in (λ (x : Motion). m.number < x.number) m ms h.0 i in absurd (omega (arith, lt))), no_twice ms h.1)

-- ---- sources

-- a motion of these, heard in this slice by this gang, is what the part hears
pub record Sourced (segments slice : ℕ) (gang : List ℤ) (all : List Motion) (source : Source) : Type 0 where
  pub motion : Motion
  pub locus : Locus
  pub gang_is : motion.senders ≡ gang_at segments locus
  pub is_in : In motion all
  pub number : motion.number ≡ source.end.motion
  pub above : motion.above ≡ slice
  pub senders : motion.senders ≡ source.senders
  pub receivers : motion.receivers ≡ gang

in_more : (segments slice : ℕ) (gang : List ℤ) (all more : List Motion) (source : Source) → ((m : Motion) → In m all → In m more) → Sourced segments slice gang all source → Sourced segments slice gang more source
in_more segments slice gang all more source to h =
    record { motion = h.motion; locus = h.locus; gang_is = h.gang_is; is_in = to h.motion h.is_in; number = h.number; above = h.above; senders = h.senders; receivers = h.receivers }

the_first : (segments slice : ℕ) (gang : List ℤ) (l : Locus) (m : Motion) (rest : List Motion) (source k : Source) → m.senders ≡ gang_at segments l → m.number ≡ k.end.motion → m.above ≡ slice → m.senders ≡ k.senders → m.receivers ≡ gang → k ≡ source
    → Sourced segments slice gang (m ∷ rest) source
the_first segments slice gang l m rest source k located number above senders receivers is =
    record { motion = m; locus = l; gang_is = located; is_in = inl refl; number = number ∙ ap (λ (y : Source). y.end.motion) is; above = above; senders = senders ∙ ap (λ (y : Source). y.senders) is; receivers = receivers }

module _ (s : Site) (p : Place) where
  pub sourced : (slice : ℕ) (gang : List ℤ) (i n : ℕ) (t : Tree) (source : Source) → Has (part_of s p i n t) source → Sourced s.segments slice gang (motions_of s.schemas s.segments slice gang n t) source
  sourced slice gang i n (Scan t) source h = absurd h
  sourced slice gang i n (Filter e c) source h = sourced slice gang (suc i) n c source h
  sourced slice gang i n (Project cols c) source h = sourced slice gang (suc i) n c source h
  sourced slice gang i n (Limit k c) source h = sourced slice gang (suc i) n c source h
  sourced slice gang i n (Sort ks c) source h = sourced slice gang (suc i) n c source h
  sourced slice gang i n (Join on l r) source (inl h) =
      in_more s.segments slice gang (motions_of s.schemas s.segments slice gang n l) (motions_of s.schemas s.segments slice gang n l ++ motions_of s.schemas s.segments slice gang (n + motions_in l) r) source
      (λ m x. In-left m (motions_of s.schemas s.segments slice gang n l) (motions_of s.schemas s.segments slice gang (n + motions_in l) r) x) (sourced slice gang (suc i) n l source h)
  sourced slice gang i n (Join on l r) source (inr h) =
      in_more s.segments slice gang (motions_of s.schemas s.segments slice gang (n + motions_in l) r) (motions_of s.schemas s.segments slice gang n l ++ motions_of s.schemas s.segments slice gang (n + motions_in l) r) source
      (λ m x. In-right m (motions_of s.schemas s.segments slice gang n l) (motions_of s.schemas s.segments slice gang (n + motions_in l) r) x) (sourced slice gang (suc (i + nodes_in l)) (n + motions_in l) r source h)
  sourced slice gang i n (Single g cs c) source h = sourced slice gang (suc i) n c source h
  sourced slice gang i n (Partial g cs c) source h = sourced slice gang (suc i) n c source h
  sourced slice gang i n (Final c) source h = sourced slice gang (suc i) n c source h
  sourced slice gang i n (Gather o c) source h =
      the_first s.segments slice gang (locus_of s.schemas c) (record { number = n; above = slice; senders = gang_at s.segments (locus_of s.schemas c); receivers = gang }) (motions_of s.schemas s.segments n (gang_at s.segments (locus_of s.schemas c)) (n + 1) c) source
      (source_at s p n o c) refl refl refl refl refl h
  sourced slice gang i n (Redistribute ks c) source h =
      the_first s.segments slice gang (locus_of s.schemas c) (record { number = n; above = slice; senders = gang_at s.segments (locus_of s.schemas c); receivers = gang }) (motions_of s.schemas s.segments n (gang_at s.segments (locus_of s.schemas c)) (n + 1) c) source
      (source_at s p n None c) refl refl refl refl refl h
  sourced slice gang i n (Broadcast c) source h =
      the_first s.segments slice gang (locus_of s.schemas c) (record { number = n; above = slice; senders = gang_at s.segments (locus_of s.schemas c); receivers = gang }) (motions_of s.schemas s.segments n (gang_at s.segments (locus_of s.schemas c)) (n + 1) c) source
      (source_at s p n None c) refl refl refl refl refl h

  -- the sides of a join hear no motion in common
  pub sides_apart : (i k n : ℕ) (l r : Tree) → AreApart (part_of s p i n l) (part_of s p k (n + motions_in l) r)
  sides_apart i k n l r a b x y same =
      let left = sourced 0 [] i n l a x in
      let right = sourced 0 [] k (n + motions_in l) r b y in
      let low = within s.schemas s.segments 0 n [] l left.motion left.is_in in
      let high = within s.schemas s.segments 0 (n + motions_in l) [] r right.motion right.is_in in
      omega (arith, low.1, high.0, left.number, right.number, same)
