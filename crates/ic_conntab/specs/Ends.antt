-- The ends of one query's connections: by side, by key and by motion.
use Rattle.std.specs.Prelude.{ℕ, Bool, not, ◌==◌, List, [], ◌∷◌, map, filter, position, Option}
use Rattle.std.specs.List.{enumerate_from}
use Rattle.ic_base.specs.Keys.{key_eq}
use Rattle.ic_base.specs.declared.keys.ConnKey.{ConnKey}
use Rattle.ic_base.specs.declared.keys.ConnEnd.{ConnEnd}

-- ---- by side

-- the ends that send rows, in their order
abbrev pub sending_ends : List ConnEnd → List ConnEnd
sending_ends ends = filter (λ e. e.sending) ends

-- the ends that receive rows, in their order
abbrev pub receiving_ends : List ConnEnd → List ConnEnd
receiving_ends ends = filter (λ e. not e.sending) ends

-- ---- by key

-- each element that equals no earlier one, in order
abbrev pub distinct : {K : Type 0} → (K → K → Bool) → List K → List K
distinct eq [] = []
distinct eq (x ∷ xs) = x ∷ filter (λ y. not (eq x y)) (distinct eq xs)

-- the keys of the ends, each once, in the order of their first ends
unfoldable pub keys_of : List ConnEnd → List ConnKey
keys_of ends = distinct key_eq (map (λ e. e.key) ends)

-- the position among the sending ends of the first that has the key, from 0
unfoldable pub sender_at : List ConnEnd → ConnKey → Option ℕ
sender_at ends key = position (λ e. key_eq key e.key) (sending_ends ends)

-- the position among the receiving ends of the first that has the key, from 0
unfoldable pub receiver_at : List ConnEnd → ConnKey → Option ℕ
receiver_at ends key = position (λ e. key_eq key e.key) (receiving_ends ends)

-- ---- by motion

-- the motions of the receiving ends, each once, in the order of their first ends
unfoldable pub motions_of : List ConnEnd → List ℕ
motions_of ends = distinct (λ m n. m == n) (map (λ e. e.key.motion) (receiving_ends ends))

-- the positions of the elements that pass the test, from 0
abbrev pub places_where : {X : Type 0} → (X → Bool) → List X → List ℕ
places_where test xs = map (λ p. p.0) (filter (λ p. test p.1) (enumerate_from 0 xs))

-- the positions of a motion's receiving ends among all receiving ends
unfoldable pub receivers_of : List ConnEnd → ℕ → List ℕ
receivers_of ends motion = places_where (λ e. e.key.motion == motion) (receiving_ends ends)
