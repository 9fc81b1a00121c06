-- The chunks into which rows are cut assemble to these rows.
use Rattle.std.proofs.Common.{◌≡◌, ℕ, zero, suc, ◌<◌, ◌≤◌, ◌^◌, List, [], ◌∷◌, ◌++◌, length, take, drop, map, true, nat_lt, refl, ap, sym, ◌∙◌, subst, inl, inr, arith, append-nil, length-take, length-drop}
use Rattle.std.specs.List.{AllByRecursion, AllZip, flat_map}
use Rattle.std.proofs.lemmas.Bool.{cases_lt}
use Rattle.std.proofs.lemmas.Bool.Decides.{nat_tests}
use Rattle.std.proofs.lemmas.List.{nil_from_length, take-append-drop}
use Rattle.ic_row.specs.declared.value.Value.{Value}
use Rattle.ic_row.specs.Spelling.{Spells, value_spelling, spelling_of}
use Rattle.ic_chunk.specs.declared.chunk.ChunkKind.TheVariants.{Start, Middle}
use Rattle.ic_chunk.specs.Chunks.{Chunk, joined}
use Rattle.ic_chunk.specs.Cutting.{room_in, bodies_of, tail_of, group_of, chunks_of}
use Rattle.ic_chunk.specs.Assembly.{IsPart, without_empty, IsTail, IsGroup, together}
use Rattle.ic_chunk.specs.Laws.{CutAssembles}
use Rattle.ic_chunk.proofs.Lists.{all_both}
use Rattle.ic_chunk.proofs.CuttingLemmas.{bodies_of-nil, bodies_of-more}
use Rattle.ic_chunk.proofs.Growing.{without_empty-append}

-- ---- the bodies

record IsBody (room : ℕ) (body : List ℕ) : Type 0 where
  pub some : 0 < length body
  pub small : length body ≤ room

record AreBodies (room : ℕ) (bytes : List ℕ) : Type 0 where
  pub each : AllByRecursion (IsBody room) (bodies_of room bytes)
  pub joined_are : together (bodies_of room bytes) ≡ bytes

no_bodies : (room : ℕ) → 0 < room → AreBodies room []
no_bodies room some =
    record {
      each = subst (AllByRecursion (IsBody room)) (sym (bodies_of-nil room some)) tt;
      joined_are = ap together (bodies_of-nil room some);
    }

are_bodies : (most room : ℕ) (bytes : List ℕ) → 0 < room → length bytes ≤ most → AreBodies room bytes
are_bodies zero room bytes some le = subst (AreBodies room) (sym (nil_from_length bytes (omega arith))) (no_bodies room some)
are_bodies (suc most) room bytes some le =
    elim (cases_lt 0 (length bytes)) [
      | inl lt ↦
          let more = bodies_of-more room bytes some lt in
          let rest = are_bodies most room (drop room bytes) some (omega (arith, length-drop room bytes)) in
          let first : IsBody room (take room bytes) = record { some = omega (arith, length-take room bytes); small = omega (arith, length-take room bytes) } in
          record {
            each = subst (AllByRecursion (IsBody room)) (sym more) (first, rest.each);
            joined_are = ap together more ∙ ap (λ l. take room bytes ++ l) rest.joined_are ∙ take-append-drop room bytes;
          }
      | inr none ↦ subst (AreBodies room) (sym (nil_from_length bytes (omega arith))) (no_bodies room some)
    ]

-- ---- the chunks

some_bytes : (room : ℕ) (body : List ℕ) → IsBody room body → nat_lt 0 (length body) ≡ true
some_bytes room body h =
    let some = h.some in
    grind (arith, nat_tests)

tail-each : (room : ℕ) (bodies : List (List ℕ)) → room < 2 ^ 16 → AllByRecursion (IsBody room) bodies → AllByRecursion IsPart (tail_of bodies)
tail-each room [] small h = tt
tail-each room (b ∷ []) small h =
    (record { allowed = record { small = omega (arith, h.0.small); allowed = some_bytes room b h.0 }; goes_on = λ e. cc }, tt)
tail-each room (b ∷ c ∷ bs) small h =
    (record { allowed = record { small = omega (arith, h.0.small); allowed = some_bytes room b h.0 }; goes_on = λ e. cc }, tail-each room (c ∷ bs) small h.1)

tail-cons : (c : Chunk) (cs : List Chunk) → c.kind ≡ Middle → IsTail cs → IsTail (c ∷ cs)
tail-cons c [] is h = absurd h
tail-cons c (d ∷ ds) is h = (is, h)

group-cons : (c : Chunk) (cs : List Chunk) → c.kind ≡ Start → IsTail cs → IsGroup (c ∷ cs)
group-cons c [] is h = absurd h
group-cons c (d ∷ ds) is h = (is, h)

is_tail : (b : List ℕ) (bs : List (List ℕ)) → IsTail (tail_of (b ∷ bs))
is_tail b [] = refl
is_tail b (c ∷ bs) = tail-cons (record { kind = Middle; body = b }) (tail_of (c ∷ bs)) refl (is_tail c bs)

tail-joined : (bodies : List (List ℕ)) → joined (tail_of bodies) ≡ together bodies
tail-joined [] = refl
tail-joined (b ∷ []) = refl
tail-joined (b ∷ c ∷ bs) = ap (λ l. b ++ l) (tail-joined (c ∷ bs))

tail-without_empty : (bodies : List (List ℕ)) → without_empty (tail_of bodies) ≡ tail_of bodies
tail-without_empty [] = refl
tail-without_empty (b ∷ []) = refl
tail-without_empty (b ∷ c ∷ bs) = ap (λ l. record { kind = Middle; body = b } ∷ l) (tail-without_empty (c ∷ bs))

-- chunks of one row
record IsCut (chunks : List Chunk) (spelling : List ℕ) : Type 0 where
  pub each : AllByRecursion IsPart chunks
  pub group : IsGroup chunks
  pub joined_are : joined chunks ≡ spelling
  pub none_empty : without_empty chunks ≡ chunks

group_cut : (room : ℕ) (bodies : List (List ℕ)) (spelling : List ℕ) → room < 2 ^ 16 → 0 < length spelling → AllByRecursion (IsBody room) bodies → together bodies ≡ spelling → IsCut (group_of bodies) spelling
group_cut room [] spelling small some h are = absurd (omega (arith, ap length are))
group_cut room (b ∷ []) spelling small some h are =
    record {
      each = (record { allowed = record { small = omega (arith, h.0.small); allowed = some_bytes room b h.0 }; goes_on = λ e. cc }, tt);
      group = refl;
      joined_are = are;
      none_empty = refl;
    }
group_cut room (b ∷ c ∷ bs) spelling small some h are =
    record {
      each = (record { allowed = record { small = omega (arith, h.0.small); allowed = some_bytes room b h.0 }; goes_on = λ e. cc }, tail-each room (c ∷ bs) small h.1);
      group = group-cons (record { kind = Start; body = b }) (tail_of (c ∷ bs)) refl (is_tail c bs);
      joined_are = ap (λ l. b ++ l) (tail-joined (c ∷ bs)) ∙ are;
      none_empty = ap (λ l. record { kind = Start; body = b } ∷ l) (tail-without_empty (c ∷ bs));
    }

is_cut : (packet : ℕ) (spelling : List ℕ) → 128 ≤ packet → packet ≤ 65507 → 0 < length spelling → IsCut (chunks_of packet spelling) spelling
is_cut packet spelling least greatest some =
    let b = are_bodies (length spelling) (room_in packet) spelling (omega arith) (omega arith) in
    group_cut (room_in packet) (bodies_of (room_in packet) spelling) spelling (omega arith) some b.each b.joined_are

-- ---- the chunks of many rows

record AreCut (packet : ℕ) (rows : List (List Value)) (spellings : List (List ℕ)) : Type 0 where
  pub each : AllByRecursion IsPart (flat_map (chunks_of packet) spellings)
  pub groups : AllByRecursion IsGroup (map (chunks_of packet) spellings)
  pub spell : AllZip Spells rows (map joined (map (chunks_of packet) spellings))
  pub none_empty : without_empty (flat_map (chunks_of packet) spellings) ≡ flat_map (chunks_of packet) spellings
  pub are : flat_map (chunks_of packet) spellings ≡ together (map (chunks_of packet) spellings)

has_bytes : (row : List Value) (spelling : List ℕ) → Spells row spelling → 0 < length spelling
unfolding spelling_of
has_bytes row spelling h =
    let long : length spelling ≡ suc (suc (length (flat_map value_spelling row))) = ap length h.are in
    omega arith

are_cut : (packet : ℕ) (rows : List (List Value)) (spellings : List (List ℕ)) → 128 ≤ packet → packet ≤ 65507 → AllZip Spells rows spellings → AreCut packet rows spellings
are_cut packet [] [] least greatest h = record { each = tt; groups = tt; spell = tt; none_empty = refl; are = refl }
are_cut packet [] (s ∷ ss) least greatest h = absurd h
are_cut packet (r ∷ rs) [] least greatest h = absurd h
are_cut packet (r ∷ rs) (s ∷ ss) least greatest h =
    let one = is_cut packet s least greatest (has_bytes r s h.0) in
    let others = are_cut packet rs ss least greatest h.1 in
    let cs = chunks_of packet s in
    let more = flat_map (chunks_of packet) ss in
    record {
      each = all_both IsPart cs more one.each others.each;
      groups = (one.group, others.groups);
      spell = (subst (Spells r) (sym one.joined_are) h.0, others.spell);
      none_empty = without_empty-append cs more ∙ ap (λ l. l ++ without_empty more) one.none_empty ∙ ap (λ l. cs ++ l) others.none_empty;
      are = ap (λ l. cs ++ l) others.are;
    }

-- the law
pub cut_assembles : CutAssembles
cut_assembles packet rows spellings payloads ended least greatest h all =
    let c = are_cut packet rows spellings least greatest h in
    record {
      chunks = payloads;
      are = refl;
      front = record {
        parts = flat_map (chunks_of packet) spellings;
        groups = map (chunks_of packet) spellings;
        pending = [];
        all = all;
        each = c.each;
        read = c.none_empty ∙ c.are ∙ sym (append-nil (together (map (chunks_of packet) spellings)));
        whole = c.groups;
        spell = c.spell;
        begun = tt;
        left = refl;
        between = λ e. refl;
      };
    }
