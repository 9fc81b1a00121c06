-- How packets fill: the chunks put so far are those of the full packets and of the one being filled, and a packet that
-- was sealed stays as it is.
use Rattle.std.proofs.Common.{◌≡◌, ℕ, List, [], ◌∷◌, ◌++◌, Bool, true, false, cond, refl, ap, sym, ◌∙◌, append_assoc, append-nil}
use Rattle.ic_chunk.specs.Assembly.{together}
use Rattle.ic_chunk.proofs.Lists.{together-push}
use Rattle.ic_law.specs.Filling.{Filling, fits, fill_one, fill_from, filling}

pub fill_from-append : (packet : ℕ) (f : Filling) (xs ys : List (List ℕ)) → fill_from packet f (xs ++ ys) ≡ fill_from packet (fill_from packet f xs) ys
fill_from-append packet f [] ys = refl
fill_from-append packet f (x ∷ xs) ys = fill_from-append packet (fill_one packet f x) xs ys

pub filling-push : (packet : ℕ) (puts : List (List ℕ)) (chunk : List ℕ) → filling packet (puts ++ chunk ∷ []) ≡ fill_one packet (filling packet puts) chunk
filling-push packet puts chunk = fill_from-append packet (record { full = []; opened = [] }) puts (chunk ∷ [])

-- all chunks of a filling, in order
abbrev pub chunks_of : Filling → List (List ℕ)
chunks_of f = together f.full ++ f.opened

chunks_of-one : (packet : ℕ) (f : Filling) (chunk : List ℕ) → chunks_of (fill_one packet f chunk) ≡ chunks_of f ++ chunk ∷ []
chunks_of-one packet f chunk = by (fits packet f.opened chunk)
  where
    by : (b : Bool) → chunks_of (cond b (record { full = f.full; opened = f.opened ++ chunk ∷ [] }) (record { full = f.full ++ f.opened ∷ []; opened = chunk ∷ [] })) ≡ chunks_of f ++ chunk ∷ []
    by true = sym (append_assoc (together f.full) f.opened (chunk ∷ []))
    by false = ap (λ l. l ++ chunk ∷ []) (together-push f.full f.opened)

pub chunks_of-from : (packet : ℕ) (f : Filling) (puts : List (List ℕ)) → chunks_of (fill_from packet f puts) ≡ chunks_of f ++ puts
chunks_of-from packet f [] = sym (append-nil (chunks_of f))
chunks_of-from packet f (x ∷ puts) =
    chunks_of-from packet (fill_one packet f x) puts ∙ ap (λ l. l ++ puts) (chunks_of-one packet f x) ∙ append_assoc (chunks_of f) (x ∷ []) puts

-- what was put is what the packets carry and what the one being filled has
pub chunks_of-filling : (packet : ℕ) (puts : List (List ℕ)) → together (filling packet puts).full ++ (filling packet puts).opened ≡ puts
chunks_of-filling packet puts = chunks_of-from packet (record { full = []; opened = [] }) puts

-- a put seals nothing or the packet that was being filled
pub full-push : (packet : ℕ) (puts : List (List ℕ)) (chunk : List ℕ)
    → (filling packet (puts ++ chunk ∷ [])).full ≡ (filling packet puts).full ++ cond (fits packet (filling packet puts).opened chunk) [] ((filling packet puts).opened ∷ [])
full-push packet puts chunk = ap (λ (f : Filling). f.full) (filling-push packet puts chunk) ∙ by (filling packet puts) (fits packet (filling packet puts).opened chunk)
  where
    next : Filling → Bool → Filling
    next f b = cond b (record { full = f.full; opened = f.opened ++ chunk ∷ [] }) (record { full = f.full ++ f.opened ∷ []; opened = chunk ∷ [] })

    by : (f : Filling) (b : Bool) → (next f b).full ≡ f.full ++ cond b [] (f.opened ∷ [])
    by f true = sym (append-nil f.full)
    by f false = refl
