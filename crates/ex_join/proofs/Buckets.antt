-- A row that is put behind those of its key.
use Rattle.std.proofs.Common.{◌≡◌, ℕ, zero, suc, ◌+◌, ◌<◌, Bool, true, false, cond, List, [], ◌∷◌, ◌++◌, length, get_or, position, Option, Some, None, is_some, refl, sym, ap, ◌∙◌, subst, true≢false, arith, length-append}
use Rattle.std.specs.Option.{unwrap_or}
use Rattle.std.specs.Prelude.{Result, Ok, Err, OnOk}
use Rattle.std.specs.declared.alloc.AllocError.{AllocError}
use Rattle.std.specs.Map.{lookup, keys_of}
use Rattle.std.proofs.lemmas.List.Quantifiers.{position-Some}
use Rattle.std.proofs.lemmas.List.{length-map}
use Rattle.indexmap.specs.IndexMap.{IndexMap, get, insert_entry, set_value_at}
use Rattle.indexmap.proofs.CallerLemmas.{insert_entry-new}
use Rattle.pl_ops.specs.Rows.{Line}
use Rattle.pl_ops.specs.Groups.{same_line}
use Rattle.ex_key.specs.Same.{same_line-is, same_line-equiv}
use Rattle.ex_join.specs.Tables.{Buckets, bucket, rows_at, total, Puts}

-- ---- a write at a place

pub set_past : (t : Buckets) (at : ℕ) (w : List Line) → (at < length t → ⊥) → t ≡ set_value_at t at w
set_past [] at w h = refl
set_past (e ∷ es) zero w h = absurd (h (omega arith))
set_past (e ∷ es) (suc at) w h = ap (λ l. e ∷ l) (set_past es at w (λ l. h (omega (arith, l))))

total_cons : (e : Line × List Line) (es : Buckets) → total (e ∷ es) ≡ length e.1 + total es
total_cons e es = refl

pub total_set : (t : Buckets) (at : ℕ) (row : Line) → at < length t → total (set_value_at t at (rows_at t at ++ row ∷ [])) ≡ total t + 1
total_set [] at row h = absurd (omega (arith, h))
total_set (e ∷ es) zero row h =
    let g : total ((e.0, e.1 ++ row ∷ []) ∷ es) ≡ total (e ∷ es) + 1 = omega (arith, total_cons e es, total_cons (e.0, e.1 ++ row ∷ []) es, length-append e.1 (row ∷ [])) in g
total_set (e ∷ es) (suc at) row h =
    let g : total (e ∷ set_value_at es at (rows_at es at ++ row ∷ [])) ≡ total (e ∷ es) + 1
    = omega (arith, total_cons e es, total_cons e (set_value_at es at (rows_at es at ++ row ∷ [])), total_set es at row (omega (arith, h))) in g

either_way : (b c : Bool) (w v : List Line) (o : Option (List Line)) → (b ≡ c) → cond b (Some w) o ≡ cond c (Some w) (cond b (Some v) o)
either_way true true w v o e = refl
either_way false false w v o e = refl
either_way true false w v o e = absurd (true≢false e)
either_way false true w v o e = absurd (true≢false (sym e))

behind_it : (b c : Bool) (w v : List Line) (o p : Option (List Line)) → (b ≡ true → c ≡ false) → p ≡ cond c (Some w) o → cond b (Some v) p ≡ cond c (Some w) (cond b (Some v) o)
behind_it true true w v o p e h = absurd (true≢false (e refl))
behind_it true false w v o p e h = refl
behind_it false true w v o p e h = h
behind_it false false w v o p e h = h

lookup_set : (key q : Line) (w : List Line) (t : Buckets) (at : ℕ) → at < length t → same_line key (get_or (keys_of t) at []) ≡ true
    → ((k : ℕ) → k < at → same_line key (get_or (keys_of t) k []) ≡ false)
    → lookup (same_line q) (set_value_at t at w) ≡ cond (same_line key q) (Some w) (lookup (same_line q) t)
lookup_set key q w [] at h s b = absurd (omega (arith, h))
lookup_set key q w (e ∷ es) zero h s b =
    either_way (same_line q e.0) (same_line key q) w e.1 (lookup (same_line q) es)
    (same_line-equiv.symm q e.0 ∙ ap (λ k. same_line k q) (sym (same_line-is key e.0 s)))
lookup_set key q w (e ∷ es) (suc at) h s b =
    behind_it (same_line q e.0) (same_line key q) w e.1 (lookup (same_line q) es) (lookup (same_line q) (set_value_at es at w))
    (λ t. ap (same_line key) (same_line-is q e.0 t) ∙ b 0 (omega arith))
    (lookup_set key q w es at (omega (arith, h)) s (λ k l. b (suc k) (omega (arith, l))))

-- ---- buckets

unwrapped : (b : Bool) (w : List Line) (o : Option (List Line)) → unwrap_or (cond b (Some w) o) [] ≡ cond b w (unwrap_or o [])
unwrapped true w o = refl
unwrapped false w o = refl

of_its_key : (key q : Line) (old : Buckets) (row : Line) → cond (same_line key q) (bucket key old ++ row ∷ []) (bucket q old) ≡ cond (same_line key q) (bucket q old ++ row ∷ []) (bucket q old)
of_its_key key q old row = by (same_line key q) refl
  where
    by : (b : Bool) → same_line key q ≡ b → cond b (bucket key old ++ row ∷ []) (bucket q old) ≡ cond b (bucket q old ++ row ∷ []) (bucket q old)
    by true e = ap (λ k. bucket k old ++ row ∷ []) (same_line-is key q e)
    by false e = refl

-- what a map has at each key after its key was given these rows
pub updated : (old new : Buckets) (key row : Line) (w : List Line) → w ≡ bucket key old ++ row ∷ []
    → ((q : Line) → lookup (same_line q) new ≡ cond (same_line key q) (Some w) (lookup (same_line q) old))
    → (q : Line) → bucket q new ≡ cond (same_line key q) (bucket q old ++ row ∷ []) (bucket q old)
updated old new key row w e h q =
    ap (λ o. unwrap_or o []) (h q) ∙ unwrapped (same_line key q) w (lookup (same_line q) old)
    ∙ ap (λ v. cond (same_line key q) v (bucket q old)) e ∙ of_its_key key q old row

pub set_puts : (old new : Buckets) (key row : Line) (at : ℕ) → position (same_line key) (keys_of old) ≡ Some at
    → rows_at old at ≡ bucket key old → new ≡ set_value_at old at (rows_at old at ++ row ∷ []) → Puts old new key row
set_puts old new key row at p r e =
    let f = position-Some (same_line key) (keys_of old) at [] p in
    let within : at < length old = subst (λ n. at < n) (length-map old (λ x. x.0)) f.0 in
    record {
      buckets = updated old new key row (rows_at old at ++ row ∷ []) (ap (λ l. l ++ row ∷ []) r)
          (λ q. ap (lookup (same_line q)) e ∙ lookup_set key q (rows_at old at ++ row ∷ []) old at within f.1 f.2);
      count = ap total e ∙ total_set old at row within;
    }

total_behind : (t : Buckets) (key row : Line) → total (t ++ (key, row ∷ []) ∷ []) ≡ total t + 1
total_behind [] key row = refl
total_behind (e ∷ es) key row =
    let g : total (e ∷ (es ++ (key, row ∷ []) ∷ [])) ≡ total (e ∷ es) + 1
    = omega (arith, total_cons e es, total_cons e (es ++ (key, row ∷ []) ∷ []), total_behind es key row) in g

none_there : {X : Type 0} (o : Option X) → false ≡ is_some o → o ≡ None
none_there None h = refl
none_there (Some x) h = absurd (true≢false (sym h))

pub new_puts : {S : Type 0} (old new : IndexMap Line (List Line) S) (key row : Line) (rows : List Line) → rows ≡ row ∷ []
    → false ≡ is_some (get same_line old key) → new.entries ≡ insert_entry same_line old.entries key rows
    → ((q : Line) → get same_line new q ≡ cond (same_line key q) (Some rows) (get same_line old q)) → Puts old.entries new.entries key row
new_puts old new key row rows r n e h =
    let none = none_there (get same_line old key) n in
    record {
      buckets = updated old.entries new.entries key row rows (r ∙ sym (ap (λ o. unwrap_or o [] ++ row ∷ []) none)) h;
      count = ap total (e ∙ insert_entry-new same_line old key rows none ∙ ap (λ l. old.entries ++ (key, l) ∷ []) r) ∙ total_behind old.entries key row;
    }

pub put_so : (old new : Buckets) (key row : Line) (at : ℕ) (result : Result (Unit {0}) AllocError) → position (same_line key) (keys_of old) ≡ Some at
    → rows_at old at ≡ bucket key old → OnOk result (new ≡ set_value_at old at (rows_at old at ++ row ∷ [])) → OnOk result (Puts old new key row)
put_so old new key row at (Ok u) p r e = set_puts old new key row at p r e
put_so old new key row at (Err x) p r e = tt
