-- What is noted down of a plan's nodes are its slices and its motions.
use Rattle.std.proofs.Common.{◌≡◌, ℕ, ℤ, suc, zero, ◌+◌, ◌<◌, ◌≤◌, List, [], ◌∷◌, ◌++◌, length, map, drop, refl, sym, ap, subst, ◌∙◌, append_assoc, append-nil, length-append, add-one, arith}
use Rattle.std.specs.Prelude.{Option, Some, None, slice_get}
use Rattle.std.proofs.lemmas.List.{length-map, map-append}
use Rattle.pl_tree.specs.declared.node.Pair.{Pair}
use Rattle.pl_tree.specs.declared.schema.Schema.{Schema}
use Rattle.pl_tree.specs.declared.schema.Locus.{Locus}
use Rattle.pl_tree.specs.declared.schema.Locus.TheVariants.{Entry, Hashed, Replicated, Strewn}
use Rattle.pl_tree.specs.Trees.{Tree, Scan, Filter, Project, Limit, Sort, Join, Single, Partial, Final, Gather, Redistribute, Broadcast, nodes_in, motions_in, preorder}
use Rattle.pl_tree.specs.Loci.{locus_of}
use Rattle.pl_plan.specs.declared.layout.Gang.{Gang}
use Rattle.pl_plan.specs.declared.layout.MotionRow.{MotionRow}
use Rattle.pl_plan.specs.declared.layout.Layout.{Layout}
use Rattle.pl_plan.specs.Motions.{Motion, gang_at, motions_of, slices_from}
use Rattle.pl_plan.specs.Layout.{members, gang_over, gang_for, motion_in, with_node, next_motion, with_motion, next_gang, laid}

-- ---- lists

drop_suc : {X : Type 0} (xs : List X) (n : ℕ) (x : X) (ys : List X) → drop n xs ≡ x ∷ ys → drop (suc n) xs ≡ ys
drop_suc [] zero x ys h = absurd cc
drop_suc [] (suc n) x ys h = absurd cc
drop_suc (y ∷ xs) zero x ys h = cc
drop_suc (y ∷ xs) (suc n) x ys h = drop_suc xs n x ys h

drop_next : {X : Type 0} (xs : List X) (n : ℕ) (x : X) (ys : List X) → drop n xs ≡ x ∷ ys → drop (n + 1) xs ≡ ys
drop_next xs n x ys h = rw (add-one) (drop_suc xs n x ys h)

get_next : {X : Type 0} (xs : List X) (n : ℕ) (x : X) (ys : List X) → drop n xs ≡ x ∷ ys → slice_get xs n ≡ Some x
get_next [] zero x ys h = absurd cc
get_next [] (suc n) x ys h = absurd cc
get_next (y ∷ xs) zero x ys h = cc
get_next (y ∷ xs) (suc n) x ys h = get_next xs n x ys h

drop_many : {X : Type 0} (xs : List X) (n : ℕ) (ys zs : List X) → drop n xs ≡ ys ++ zs → drop (n + length ys) xs ≡ zs
drop_many xs n [] zs h = subst (λ k. drop k xs ≡ zs) (omega arith) h
drop_many xs n (y ∷ ys) zs h = subst (λ k. drop k xs ≡ zs) (omega arith) (drop_many xs (n + 1) ys zs (drop_next xs n y (ys ++ zs) h))

pub preorder_long : (tree : Tree) → length (preorder tree) ≡ nodes_in tree
preorder_long (Scan t) = refl
preorder_long (Filter e c) = ap suc (preorder_long c)
preorder_long (Project cols c) = ap suc (preorder_long c)
preorder_long (Limit k c) = ap suc (preorder_long c)
preorder_long (Sort ks c) = ap suc (preorder_long c)
preorder_long (Join on l r) = ap suc (length-append (preorder l) (preorder r) ∙ omega (arith, preorder_long l, preorder_long r))
preorder_long (Single gr cs c) = ap suc (preorder_long c)
preorder_long (Partial gr cs c) = ap suc (preorder_long c)
preorder_long (Final c) = ap suc (preorder_long c)
preorder_long (Gather o c) = ap suc (preorder_long c)
preorder_long (Redistribute ks c) = ap suc (preorder_long c)
preorder_long (Broadcast c) = ap suc (preorder_long c)

pub slices_long : (slice n : ℕ) (tree : Tree) → length (slices_from slice n tree) ≡ nodes_in tree
slices_long slice n (Scan t) = refl
slices_long slice n (Filter e c) = ap suc (slices_long slice n c)
slices_long slice n (Project cols c) = ap suc (slices_long slice n c)
slices_long slice n (Limit k c) = ap suc (slices_long slice n c)
slices_long slice n (Sort ks c) = ap suc (slices_long slice n c)
slices_long slice n (Join on l r) = ap suc (length-append (slices_from slice n l) (slices_from slice (n + motions_in l) r) ∙ omega (arith, slices_long slice n l, slices_long slice (n + motions_in l) r))
slices_long slice n (Single gr cs c) = ap suc (slices_long slice n c)
slices_long slice n (Partial gr cs c) = ap suc (slices_long slice n c)
slices_long slice n (Final c) = ap suc (slices_long slice n c)
slices_long slice n (Gather o c) = ap suc (slices_long n (n + 1) c)
slices_long slice n (Redistribute ks c) = ap suc (slices_long n (n + 1) c)
slices_long slice n (Broadcast c) = ap suc (slices_long n (n + 1) c)

pub motions_long : (s : List Schema) (segments slice : ℕ) (gang : List ℤ) (n : ℕ) (tree : Tree) → length (motions_of s segments slice gang n tree) ≡ motions_in tree
motions_long s segments slice gang n (Scan t) = refl
motions_long s segments slice gang n (Filter e c) = motions_long s segments slice gang n c
motions_long s segments slice gang n (Project cols c) = motions_long s segments slice gang n c
motions_long s segments slice gang n (Limit k c) = motions_long s segments slice gang n c
motions_long s segments slice gang n (Sort ks c) = motions_long s segments slice gang n c
motions_long s segments slice gang n (Join on l r) = length-append (motions_of s segments slice gang n l) (motions_of s segments slice gang (n + motions_in l) r) ∙ omega (arith, motions_long s segments slice gang n l, motions_long s segments slice gang (n + motions_in l) r)
motions_long s segments slice gang n (Single gr cs c) = motions_long s segments slice gang n c
motions_long s segments slice gang n (Partial gr cs c) = motions_long s segments slice gang n c
motions_long s segments slice gang n (Final c) = motions_long s segments slice gang n c
motions_long s segments slice gang n (Gather o c) = ap suc (motions_long s segments n (gang_at segments (locus_of s c)) (n + 1) c)
motions_long s segments slice gang n (Redistribute ks c) = ap suc (motions_long s segments n (gang_at segments (locus_of s c)) (n + 1) c)
motions_long s segments slice gang n (Broadcast c) = ap suc (motions_long s segments n (gang_at segments (locus_of s c)) (n + 1) c)

-- the node itself comes first
pub record HasHead (s : List Schema) (tree : Tree) : Type 0 where
  pub others : List Locus
  pub is : map (locus_of s) (preorder tree) ≡ locus_of s tree ∷ others

head : (s : List Schema) (tree : Tree) → HasHead s tree
head s (Scan t) = record { others = _; is = refl }
head s (Filter e c) = record { others = _; is = refl }
head s (Project cols c) = record { others = _; is = refl }
head s (Limit k c) = record { others = _; is = refl }
head s (Sort ks c) = record { others = _; is = refl }
head s (Join on l r) = record { others = _; is = refl }
head s (Single gr cs c) = record { others = _; is = refl }
head s (Partial gr cs c) = record { others = _; is = refl }
head s (Final c) = record { others = _; is = refl }
head s (Gather o c) = record { others = _; is = refl }
head s (Redistribute ks c) = record { others = _; is = refl }
head s (Broadcast c) = record { others = _; is = refl }

members_over : (segments : ℕ) (locus : Locus) → members segments (gang_over locus) ≡ gang_at segments locus
members_over segments Entry = refl
members_over segments (Hashed a) = refl
members_over segments Replicated = refl
members_over segments Strewn = refl

-- ---- what was added

-- x has these slices and these motions more than a
pub record So (segments : ℕ) (a x : Layout) (slices : List ℕ) (motions : List Motion) : Type 0 where
  pub slices_are : x.slices ≡ a.slices ++ slices
  pub motions_are : map (motion_in segments) x.motions ≡ map (motion_in segments) a.motions ++ motions

node_alone : (segments slice : ℕ) (a : Layout) → So segments a (with_node slice a) (slice ∷ []) []
node_alone segments slice a = record { slices_are = refl; motions_are = sym (append-nil (map (motion_in segments) a.motions)) }

node_more : (segments slice : ℕ) (a x : Layout) (ss : List ℕ) (ms : List Motion) → So segments (with_node slice a) x ss ms → So segments a x (slice ∷ ss) ms
node_more segments slice a x ss ms h = record { slices_are = h.slices_are ∙ append_assoc a.slices (slice ∷ []) ss; motions_are = h.motions_are }

motion_more : (segments slice : ℕ) (receivers senders : Gang) (a x : Layout) (ss : List ℕ) (ms : List Motion) → So segments (with_motion slice receivers senders a) x ss ms → So segments a x ss (record { number = next_motion a; above = slice; senders = members segments senders; receivers = members segments receivers } ∷ ms)
motion_more segments slice receivers senders a x ss ms h =
    let row : MotionRow = record { number = next_motion a; above = slice; senders = senders; receivers = receivers } in
    record { slices_are = h.slices_are; motions_are = h.motions_are ∙ ap (λ ys. ys ++ ms) (map-append (motion_in segments) a.motions (row ∷ [])) ∙ append_assoc (map (motion_in segments) a.motions) (motion_in segments row ∷ []) ms }

both_more : (segments : ℕ) (a y x : Layout) (ss ts : List ℕ) (ms ns : List Motion) → So segments a y ss ms → So segments y x ts ns → So segments a x (ss ++ ts) (ms ++ ns)
both_more segments a y x ss ts ms ns h k =
    record { slices_are = k.slices_are ∙ ap (λ zs. zs ++ ts) h.slices_are ∙ append_assoc a.slices ss ts; motions_are = k.motions_are ∙ ap (λ zs. zs ++ ns) h.motions_are ∙ append_assoc (map (motion_in segments) a.motions) ms ns }

slices_count : (segments : ℕ) (a x : Layout) (ss : List ℕ) (ms : List Motion) → So segments a x ss ms → length x.slices ≡ length a.slices + length ss
slices_count segments a x ss ms h = ap length h.slices_are ∙ length-append a.slices ss

motions_count : (segments : ℕ) (a x : Layout) (ss : List ℕ) (ms : List Motion) → So segments a x ss ms → length x.motions ≡ length a.motions + length ms
motions_count segments a x ss ms h = sym (length-map x.motions (motion_in segments)) ∙ ap length h.motions_are ∙ length-append (map (motion_in segments) a.motions) ms ∙ ap (λ k. k + length ms) (length-map a.motions (motion_in segments))

-- ---- the walk

-- the loci of a node and those below it come next
abbrev pub Comes : List Schema → List Locus → Layout → Tree → List Locus → Type 0
Comes s loci a tree rest = drop (length a.slices) loci ≡ map (locus_of s) (preorder tree) ++ rest

next_length : (slice : ℕ) (a : Layout) → length (with_node slice a).slices ≡ length a.slices + 1
next_length slice a = length-append a.slices (slice ∷ [])

child_comes : (s : List Schema) (loci : List Locus) (slice : ℕ) (a : Layout) (x : Locus) (ys : List Locus) → drop (length a.slices) loci ≡ x ∷ ys → drop (length (with_node slice a).slices) loci ≡ ys
child_comes s loci slice a x ys h = subst (λ k. drop k loci ≡ ys) (sym (next_length slice a)) (drop_next loci (length a.slices) x ys h)

next_is : (s : List Schema) (segments slice : ℕ) (loci : List Locus) (a : Layout) (c : Tree) (rest : List Locus) → drop (length (with_node slice a).slices) loci ≡ map (locus_of s) (preorder c) ++ rest → members segments (next_gang loci (with_node slice a)) ≡ gang_at segments (locus_of s c)
next_is s segments slice loci a c rest h =
    let t = head s c in
    let e = get_next loci (length (with_node slice a).slices) (locus_of s c) (t.others ++ rest) (h ∙ ap (λ ys. ys ++ rest) t.is) in
    ap (λ o. members segments (gang_for o)) e ∙ members_over segments (locus_of s c)

-- a motion over a child
under_motion : (s : List Schema) (segments slice : ℕ) (gang : Gang) (loci : List Locus) (a x : Layout) (c : Tree) (rest : List Locus) → drop (length (with_node slice a).slices) loci ≡ map (locus_of s) (preorder c) ++ rest → So segments (with_motion slice gang (next_gang loci (with_node slice a)) (with_node slice a)) x (slices_from (next_motion a) (next_motion a + 1) c) (motions_of s segments (next_motion a) (members segments (next_gang loci (with_node slice a))) (next_motion a + 1) c) → So segments a x (slice ∷ slices_from (next_motion a) (next_motion a + 1) c) (record { number = next_motion a; above = slice; senders = gang_at segments (locus_of s c); receivers = members segments gang } ∷ motions_of s segments (next_motion a) (gang_at segments (locus_of s c)) (next_motion a + 1) c)
under_motion s segments slice gang loci a x c rest h so =
    let e = next_is s segments slice loci a c rest h in
    subst (λ g. So segments a x (slice ∷ slices_from (next_motion a) (next_motion a + 1) c) (record { number = next_motion a; above = slice; senders = g; receivers = members segments gang } ∷ motions_of s segments (next_motion a) g (next_motion a + 1) c)) e
    (node_more segments slice a x (slices_from (next_motion a) (next_motion a + 1) c) (record { number = next_motion a; above = slice; senders = members segments (next_gang loci (with_node slice a)); receivers = members segments gang } ∷ motions_of s segments (next_motion a) (members segments (next_gang loci (with_node slice a))) (next_motion a + 1) c)
    (motion_more segments slice gang (next_gang loci (with_node slice a)) (with_node slice a) x (slices_from (next_motion a) (next_motion a + 1) c) (motions_of s segments (next_motion a) (members segments (next_gang loci (with_node slice a))) (next_motion a + 1) c) so))

next_count : (a : Layout) (slice : ℕ) (receivers senders : Gang) → next_motion (with_motion slice receivers senders (with_node slice a)) ≡ next_motion a + 1
next_count a slice receivers senders = ap (λ k. k + 1) (length-append a.motions _)

pub laid_so : (s : List Schema) (segments : ℕ) (loci : List Locus) (slice : ℕ) (gang : Gang) (tree : Tree) (a : Layout) (rest : List Locus) → Comes s loci a tree rest → So segments a (laid loci slice gang tree a) (slices_from slice (next_motion a) tree) (motions_of s segments slice (members segments gang) (next_motion a) tree)
laid_so s segments loci slice gang (Scan t) a rest h = node_alone segments slice a
laid_so s segments loci slice gang (Filter e c) a rest h = node_more segments slice a (laid loci slice gang c (with_node slice a)) (slices_from slice (next_motion a) c) (motions_of s segments slice (members segments gang) (next_motion a) c) (laid_so s segments loci slice gang c (with_node slice a) rest (child_comes s loci slice a (locus_of s (Filter e c)) (map (locus_of s) (preorder c) ++ rest) h))
laid_so s segments loci slice gang (Project cols c) a rest h = node_more segments slice a (laid loci slice gang c (with_node slice a)) (slices_from slice (next_motion a) c) (motions_of s segments slice (members segments gang) (next_motion a) c) (laid_so s segments loci slice gang c (with_node slice a) rest (child_comes s loci slice a (locus_of s (Project cols c)) (map (locus_of s) (preorder c) ++ rest) h))
laid_so s segments loci slice gang (Limit k c) a rest h = node_more segments slice a (laid loci slice gang c (with_node slice a)) (slices_from slice (next_motion a) c) (motions_of s segments slice (members segments gang) (next_motion a) c) (laid_so s segments loci slice gang c (with_node slice a) rest (child_comes s loci slice a (locus_of s (Limit k c)) (map (locus_of s) (preorder c) ++ rest) h))
laid_so s segments loci slice gang (Sort ks c) a rest h = node_more segments slice a (laid loci slice gang c (with_node slice a)) (slices_from slice (next_motion a) c) (motions_of s segments slice (members segments gang) (next_motion a) c) (laid_so s segments loci slice gang c (with_node slice a) rest (child_comes s loci slice a (locus_of s (Sort ks c)) (map (locus_of s) (preorder c) ++ rest) h))
laid_so s segments loci slice gang (Join on l r) a rest h =
    let k = child_comes s loci slice a (locus_of s (Join on l r)) (map (locus_of s) (preorder l ++ preorder r) ++ rest) h in
    let split = k ∙ ap (λ ys. ys ++ rest) (map-append (locus_of s) (preorder l) (preorder r)) ∙ append_assoc (map (locus_of s) (preorder l)) (map (locus_of s) (preorder r)) rest in
    let a1 = with_node slice a in
    let y = laid loci slice gang l a1 in
    let left = laid_so s segments loci slice gang l a1 (map (locus_of s) (preorder r) ++ rest) split in
    let ns = slices_count segments a1 y (slices_from slice (next_motion a) l) (motions_of s segments slice (members segments gang) (next_motion a) l) left in
    let nm = motions_count segments a1 y (slices_from slice (next_motion a) l) (motions_of s segments slice (members segments gang) (next_motion a) l) left in
    let el : length a1.slices + length (map (locus_of s) (preorder l)) ≡ length y.slices = omega (arith, ns, length-map (preorder l) (locus_of s), preorder_long l, slices_long slice (next_motion a) l) in
    let em : next_motion y ≡ next_motion a + motions_in l = omega (arith, nm, motions_long s segments slice (members segments gang) (next_motion a) l) in
    let comes = subst (λ n. drop n loci ≡ map (locus_of s) (preorder r) ++ rest) el (drop_many loci (length a1.slices) (map (locus_of s) (preorder l)) (map (locus_of s) (preorder r) ++ rest) split) in
    let right = subst (λ n. So segments y (laid loci slice gang r y) (slices_from slice n r) (motions_of s segments slice (members segments gang) n r)) em (laid_so s segments loci slice gang r y rest comes) in
    node_more segments slice a (laid loci slice gang r y) (slices_from slice (next_motion a) l ++ slices_from slice (next_motion a + motions_in l) r) (motions_of s segments slice (members segments gang) (next_motion a) l ++ motions_of s segments slice (members segments gang) (next_motion a + motions_in l) r)
    (both_more segments a1 y (laid loci slice gang r y) (slices_from slice (next_motion a) l) (slices_from slice (next_motion a + motions_in l) r) (motions_of s segments slice (members segments gang) (next_motion a) l) (motions_of s segments slice (members segments gang) (next_motion a + motions_in l) r) left right)
laid_so s segments loci slice gang (Single gr cs c) a rest h = node_more segments slice a (laid loci slice gang c (with_node slice a)) (slices_from slice (next_motion a) c) (motions_of s segments slice (members segments gang) (next_motion a) c) (laid_so s segments loci slice gang c (with_node slice a) rest (child_comes s loci slice a (locus_of s (Single gr cs c)) (map (locus_of s) (preorder c) ++ rest) h))
laid_so s segments loci slice gang (Partial gr cs c) a rest h = node_more segments slice a (laid loci slice gang c (with_node slice a)) (slices_from slice (next_motion a) c) (motions_of s segments slice (members segments gang) (next_motion a) c) (laid_so s segments loci slice gang c (with_node slice a) rest (child_comes s loci slice a (locus_of s (Partial gr cs c)) (map (locus_of s) (preorder c) ++ rest) h))
laid_so s segments loci slice gang (Final c) a rest h = node_more segments slice a (laid loci slice gang c (with_node slice a)) (slices_from slice (next_motion a) c) (motions_of s segments slice (members segments gang) (next_motion a) c) (laid_so s segments loci slice gang c (with_node slice a) rest (child_comes s loci slice a (locus_of s (Final c)) (map (locus_of s) (preorder c) ++ rest) h))
laid_so s segments loci slice gang (Gather o c) a rest h =
    let k = child_comes s loci slice a (locus_of s (Gather o c)) (map (locus_of s) (preorder c) ++ rest) h in
    let g = next_gang loci (with_node slice a) in
    let b = with_motion slice gang g (with_node slice a) in
    let so = laid_so s segments loci (next_motion a) g c b rest k in
    under_motion s segments slice gang loci a (laid loci (next_motion a) g c b) c rest k (subst (λ n. So segments b (laid loci (next_motion a) g c b) (slices_from (next_motion a) n c) (motions_of s segments (next_motion a) (members segments g) n c)) (next_count a slice gang g) so)
laid_so s segments loci slice gang (Redistribute ks c) a rest h =
    let k = child_comes s loci slice a (locus_of s (Redistribute ks c)) (map (locus_of s) (preorder c) ++ rest) h in
    let g = next_gang loci (with_node slice a) in
    let b = with_motion slice gang g (with_node slice a) in
    let so = laid_so s segments loci (next_motion a) g c b rest k in
    under_motion s segments slice gang loci a (laid loci (next_motion a) g c b) c rest k (subst (λ n. So segments b (laid loci (next_motion a) g c b) (slices_from (next_motion a) n c) (motions_of s segments (next_motion a) (members segments g) n c)) (next_count a slice gang g) so)
laid_so s segments loci slice gang (Broadcast c) a rest h =
    let k = child_comes s loci slice a (locus_of s (Broadcast c)) (map (locus_of s) (preorder c) ++ rest) h in
    let g = next_gang loci (with_node slice a) in
    let b = with_motion slice gang g (with_node slice a) in
    let so = laid_so s segments loci (next_motion a) g c b rest k in
    under_motion s segments slice gang loci a (laid loci (next_motion a) g c b) c rest k (subst (λ n. So segments b (laid loci (next_motion a) g c b) (slices_from (next_motion a) n c) (motions_of s segments (next_motion a) (members segments g) n c)) (next_count a slice gang g) so)

-- ---- how many motions were noted down

rows_more : (slice : ℕ) (receivers senders : Gang) (a : Layout) → length (with_motion slice receivers senders a).motions ≡ length a.motions + 1
rows_more slice receivers senders a = length-append a.motions _

pub laid_count : (loci : List Locus) (slice : ℕ) (gang : Gang) (tree : Tree) (a : Layout) → length (laid loci slice gang tree a).motions ≡ length a.motions + motions_in tree
laid_count loci slice gang (Scan t) a = omega arith
laid_count loci slice gang (Filter e c) a = laid_count loci slice gang c (with_node slice a)
laid_count loci slice gang (Project cols c) a = laid_count loci slice gang c (with_node slice a)
laid_count loci slice gang (Limit k c) a = laid_count loci slice gang c (with_node slice a)
laid_count loci slice gang (Sort ks c) a = laid_count loci slice gang c (with_node slice a)
laid_count loci slice gang (Join on l r) a = omega (arith, laid_count loci slice gang r (laid loci slice gang l (with_node slice a)), laid_count loci slice gang l (with_node slice a))
laid_count loci slice gang (Single gr cs c) a = laid_count loci slice gang c (with_node slice a)
laid_count loci slice gang (Partial gr cs c) a = laid_count loci slice gang c (with_node slice a)
laid_count loci slice gang (Final c) a = laid_count loci slice gang c (with_node slice a)
laid_count loci slice gang (Gather o c) a = omega (arith, laid_count loci (next_motion a) (next_gang loci (with_node slice a)) c (with_motion slice gang (next_gang loci (with_node slice a)) (with_node slice a)), rows_more slice gang (next_gang loci (with_node slice a)) (with_node slice a))
laid_count loci slice gang (Redistribute ks c) a = omega (arith, laid_count loci (next_motion a) (next_gang loci (with_node slice a)) c (with_motion slice gang (next_gang loci (with_node slice a)) (with_node slice a)), rows_more slice gang (next_gang loci (with_node slice a)) (with_node slice a))
laid_count loci slice gang (Broadcast c) a = omega (arith, laid_count loci (next_motion a) (next_gang loci (with_node slice a)) c (with_motion slice gang (next_gang loci (with_node slice a)) (with_node slice a)), rows_more slice gang (next_gang loci (with_node slice a)) (with_node slice a))

pub motions_most : (tree : Tree) → motions_in tree ≤ nodes_in tree
motions_most (Scan t) = omega arith
motions_most (Filter e c) = omega (arith, motions_most c)
motions_most (Project cols c) = omega (arith, motions_most c)
motions_most (Limit k c) = omega (arith, motions_most c)
motions_most (Sort ks c) = omega (arith, motions_most c)
motions_most (Join on l r) = omega (arith, motions_most l, motions_most r)
motions_most (Single gr cs c) = omega (arith, motions_most c)
motions_most (Partial gr cs c) = omega (arith, motions_most c)
motions_most (Final c) = omega (arith, motions_most c)
motions_most (Gather o c) = omega (arith, motions_most c)
motions_most (Redistribute ks c) = omega (arith, motions_most c)
motions_most (Broadcast c) = omega (arith, motions_most c)
