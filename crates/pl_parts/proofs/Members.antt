-- Lists without repetitions and with the same members are one bag.
use Rattle.std.proofs.Common.{◌≡◌, Bool, true, false, cond, List, [], ◌∷◌, ◌++◌, map, refl, sym, ap, ◌∙◌, subst, inl, inr, ⊎_elim}
use Rattle.std.specs.Prelude.{◌⊎◌, filter, flat_map}
use Rattle.std.specs.List.{AllByRecursion}
use Rattle.pl_parts.proofs.Bags.{Perm, pnil, pcons, pswap, ptrans, alike, back}

module _ {X : Type 0} where
  abbrev pub In : X → List X → Type 0
  In x [] = ⊥
  In x (y ∷ ys) = (x ≡ y) ⊎ In x ys

  abbrev pub NoTwice : List X → Type 0
  NoTwice [] = Unit {0}
  NoTwice (x ∷ xs) = (In x xs → ⊥) × NoTwice xs

  pub In-perm : (x : X) {xs ys : List X} → Perm xs ys → In x xs → In x ys
  In-perm x pnil h = h
  In-perm x (pcons y p) (inl e) = inl e
  In-perm x (pcons y p) (inr h) = inr (In-perm x p h)
  In-perm x (pswap y z zs) (inl e) = inr (inl e)
  In-perm x (pswap y z zs) (inr (inl e)) = inl e
  In-perm x (pswap y z zs) (inr (inr h)) = inr (inr h)
  In-perm x (ptrans p q) h = In-perm x q (In-perm x p h)

  pub NoTwice-perm : {xs ys : List X} → Perm xs ys → NoTwice xs → NoTwice ys
  NoTwice-perm pnil h = h
  NoTwice-perm (pcons x p) h = ((λ i. h.0 (In-perm x (back p) i)), NoTwice-perm p h.1)
  NoTwice-perm (pswap x y xs) h = (⊎_elim (λ e. h.0 (inl (sym e))) h.1.0, ((λ i. h.0 (inr i)), h.1.1))
  NoTwice-perm (ptrans p q) h = NoTwice-perm q (NoTwice-perm p h)

  pub In-left : (x : X) (xs ys : List X) → In x xs → In x (xs ++ ys)
  In-left x (y ∷ xs) ys (inl e) = inl e
  In-left x (y ∷ xs) ys (inr h) = inr (In-left x xs ys h)
  In-left x [] ys h = absurd h

  pub In-right : (x : X) (xs ys : List X) → In x ys → In x (xs ++ ys)
  In-right x [] ys h = h
  In-right x (y ∷ xs) ys h = inr (In-right x xs ys h)

  pub In-cases : (x : X) (xs ys : List X) → In x (xs ++ ys) → In x xs ⊎ In x ys
  In-cases x [] ys h = inr h
  In-cases x (y ∷ xs) ys (inl e) = inl (inl e)
  In-cases x (y ∷ xs) ys (inr h) = ⊎_elim (λ i. inl (inr i)) inr (In-cases x xs ys h)

  pub All-in : (P : X → Type 0) (x : X) (xs : List X) → AllByRecursion P xs → In x xs → P x
  All-in P x [] a h = absurd h
  All-in P x (y ∷ xs) a (inl e) = subst P (sym e) a.0
  All-in P x (y ∷ xs) a (inr h) = All-in P x xs a.1 h

  pub All-from_in : (P : X → Type 0) (xs : List X) → ((x : X) → In x xs → P x) → AllByRecursion P xs
  All-from_in P [] h = tt
  All-from_in P (x ∷ xs) h = (h x (inl refl), All-from_in P xs (λ y i. h y (inr i)))

  -- an element can be taken to the front
  pub taken : (x : X) (ys : List X) → In x ys → (rest : List X) × Perm ys (x ∷ rest)
  taken x [] h = absurd h
  taken x (y ∷ ys) (inl e) = (ys, alike (ap (λ z. z ∷ ys) (sym e)))
  taken x (y ∷ ys) (inr h) = let t = taken x ys h in (y ∷ t.0, ptrans (pcons y t.1) (pswap y x t.0))

  other_end : (z x : X) (rest : List X) → (z ≡ x → ⊥) → In z (x ∷ rest) → In z rest
  other_end z x rest ne (inl e) = absurd (ne e)
  other_end z x rest ne (inr h) = h

  pub same_members : (xs ys : List X) → NoTwice xs → NoTwice ys → ((x : X) → In x xs → In x ys) → ((x : X) → In x ys → In x xs) → Perm xs ys
  same_members [] [] nx ny there here = pnil
  same_members [] (y ∷ ys) nx ny there here = absurd (here y (inl refl))
  same_members (x ∷ xs) ys nx ny there here =
      let t = taken x ys (there x (inl refl)) in
      let rest : List X = t.0 in
      let apart : NoTwice (x ∷ rest) = NoTwice-perm t.1 ny in
      let rec : Perm xs rest = same_members xs rest nx.1 apart.1
      (λ z i. other_end z x rest (λ e. nx.0 (subst (λ v. In v xs) e i)) (In-perm z t.1 (there z (inr i))))
      (λ z i. other_end z x xs (λ e. apart.0 (subst (λ v. In v rest) e i)) (here z (In-perm z (back t.1) (inr i)))) in
      ptrans (pcons x rec) (back t.1)

  pub In-filter : (p : X → Bool) (x : X) (xs : List X) → p x ≡ true → In x xs → In x (filter p xs)
  In-filter p x [] e h = absurd h
  In-filter p x (y ∷ xs) e (inl q) = subst (λ b. In x (cond b (y ∷ filter p xs) (filter p xs))) (sym (ap p (sym q) ∙ e)) (inl q)
  In-filter p x (y ∷ xs) e (inr h) = keeps (p y) (In-filter p x xs e h)
    where
      keeps : (b : Bool) → In x (filter p xs) → In x (cond b (y ∷ filter p xs) (filter p xs))
      keeps true i = inr i
      keeps false i = i

  pub In-from_filter : (p : X → Bool) (x : X) (xs : List X) → In x (filter p xs) → In x xs × (p x ≡ true)
  In-from_filter p x [] h = absurd h
  In-from_filter p x (y ∷ xs) h = by (p y) refl (In-from_filter p x xs) h
    where
      by : (b : Bool) → p y ≡ b → (In x (filter p xs) → In x xs × (p x ≡ true)) → In x (cond b (y ∷ filter p xs) (filter p xs)) → In x (y ∷ xs) × (p x ≡ true)
      by true e ih (inl q) = (inl q, ap p q ∙ e)
      by true e ih (inr i) = let r = ih i in (inr r.0, r.1)
      by false e ih i = let r = ih i in (inr r.0, r.1)

  pub NoTwice-filter : (p : X → Bool) (xs : List X) → NoTwice xs → NoTwice (filter p xs)
  NoTwice-filter p [] h = tt
  NoTwice-filter p (x ∷ xs) h = by (p x) (NoTwice-filter p xs h.1)
    where
      by : (b : Bool) → NoTwice (filter p xs) → NoTwice (cond b (x ∷ filter p xs) (filter p xs))
      by true r = ((λ i. h.0 (In-from_filter p x xs i).0), r)
      by false r = r

  pub NoTwice-append : (xs ys : List X) → NoTwice xs → NoTwice ys → ((x : X) → In x xs → In x ys → ⊥) → NoTwice (xs ++ ys)
  NoTwice-append [] ys nx ny apart = ny
  NoTwice-append (x ∷ xs) ys nx ny apart = ((λ i. ⊎_elim nx.0 (apart x (inl refl)) (In-cases x xs ys i)), NoTwice-append xs ys nx.1 ny (λ z i j. apart z (inr i) j))

module _ {X Y : Type 0} where
  pub In-map : (f : X → Y) (x : X) (xs : List X) → In x xs → In (f x) (map f xs)
  In-map f x [] h = absurd h
  In-map f x (y ∷ xs) (inl e) = inl (ap f e)
  In-map f x (y ∷ xs) (inr h) = inr (In-map f x xs h)

  pub In-from_map : (f : X → Y) (y : Y) (xs : List X) → In y (map f xs) → (x : X) × (In x xs) × (y ≡ f x)
  In-from_map f y [] h = absurd h
  In-from_map f y (x ∷ xs) (inl e) = (x, inl refl, e)
  In-from_map f y (x ∷ xs) (inr h) = let r = In-from_map f y xs h in (r.0, inr r.1, r.2)

  pub In-flat : (f : X → List Y) (y : Y) (x : X) (xs : List X) → In x xs → In y (f x) → In y (flat_map f xs)
  In-flat f y x [] h i = absurd h
  In-flat f y x (z ∷ xs) (inl e) i = In-left y (f z) (flat_map f xs) (subst (λ v. In y (f v)) e i)
  In-flat f y x (z ∷ xs) (inr h) i = In-right y (f z) (flat_map f xs) (In-flat f y x xs h i)

  pub In-from_flat : (f : X → List Y) (y : Y) (xs : List X) → In y (flat_map f xs) → (x : X) × (In x xs) × In y (f x)
  In-from_flat f y [] h = absurd h
  In-from_flat f y (x ∷ xs) h = ⊎_elim (λ i. (x, inl refl, i)) (λ i. let r = In-from_flat f y xs i in (r.0, inr r.1, r.2)) (In-cases y (f x) (flat_map f xs) h)

  pub map_perm : (f : X → Y) {xs ys : List X} → Perm xs ys → Perm (map f xs) (map f ys)
  map_perm f pnil = pnil
  map_perm f (pcons x p) = pcons (f x) (map_perm f p)
  map_perm f (pswap x y xs) = pswap (f x) (f y) (map f xs)
  map_perm f (ptrans p q) = ptrans (map_perm f p) (map_perm f q)

  pub map_in : (f g : X → Y) (xs : List X) → ((x : X) → In x xs → f x ≡ g x) → map f xs ≡ map g xs
  map_in f g [] h = refl
  map_in f g (x ∷ xs) h = ap (λ y. y ∷ map f xs) (h x (inl refl)) ∙ ap (λ l. g x ∷ l) (map_in f g xs (λ z i. h z (inr i)))

  -- pieces that are told apart by a function of their elements
  pub NoTwice-flat : (K : X → List Y) (c : Y → X) → ((s : X) (z : Y) → In z (K s) → c z ≡ s) → ((s : X) → NoTwice (K s)) → (ss : List X) → NoTwice ss → NoTwice (flat_map K ss)
  NoTwice-flat K c at each [] h = tt
  NoTwice-flat K c at each (s ∷ ss) h = NoTwice-append (K s) (flat_map K ss) (each s) (NoTwice-flat K c at each ss h.1) (λ z i j.
      let r = In-from_flat K z ss j in
      h.0 (subst (λ t. In t ss) (sym (at r.0 z r.2) ∙ at s z i) r.1))

module _ {X : Type 0} where
  pub filter_none : (p : X → Bool) (xs : List X) → ((x : X) → In x xs → p x ≡ false) → filter p xs ≡ []
  filter_none p [] h = refl
  filter_none p (x ∷ xs) h = ap (λ b. cond b (x ∷ filter p xs) (filter p xs)) (h x (inl refl)) ∙ filter_none p xs (λ y i. h y (inr i))
