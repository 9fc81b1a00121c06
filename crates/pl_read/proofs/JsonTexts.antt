-- No text in a value of JSON is longer than the bytes that write it.
use Rattle.std.proofs.Common.{ℕ, zero, suc, ◌+◌, ◌≤◌, List, [], ◌∷◌, length, Bool, true, false, cond, ◌==◌, ◌&&◌, nat_lt, nat_eq, drop, Option, Some, None, option_and_then, arith}
use Rattle.std.specs.Prelude.{⊤, option_map}
use Rattle.std.specs.List.{AllByRecursion, starts_with}
use Rattle.std.specs.Ordering.{match_ordering}
use Rattle.std.specs.declared.cmp.Ordering.{Ordering}
use Rattle.std.specs.declared.cmp.Ordering.TheVariants.{Less, Equal, Greater}
use Rattle.std.specs.Cmp.Lexicographic.{slice_cmp}
use Rattle.std.specs.Ordering.{nat_cmp}
use Rattle.std.specs.Char.{encode_utf8}
use Rattle.std.proofs.lemmas.List.{length-append}
use Rattle.json.specs.Text.{code_unit, short_escape, is_high_surrogate, is_low_surrogate, surrogate_pair, Within, plain, after_backslash, after_u, after_high, prepend, content}
use Rattle.json.specs.Ascii as ascii
use Rattle.json.specs.Word.{head, ends_word, literal, number_before, after_number, word}
use Rattle.json.specs.Token.{Token}
use Rattle.json.specs.Lex.{Lexeme, token, comma, colon, Class, quote, backslash, operator, space, other, class, operator_lexeme, string_token, Mode, between, in_word, in_string, in_escape, lex_byte, lex, Place, fresh, after_value, after_comma, after_key, begins_colon, may_begin, may_close, if_allowed, place_token, punctuate, tokens}
use Rattle.json.specs.Json as json
use Rattle.serde_json.specs.Data.{Data, null, boolean, number, string, array, object, Items, no_items, item, Members, no_members, member, put}
use Rattle.serde_json.specs.Read.{number_of, of_json, of_items, of_members, read}

-- ---- one string

abbrev AtMost : ℕ → Option (List ℕ) → Type 0
AtMost n None = ⊤
AtMost n (Some s) = length s ≤ n

either : (n : ℕ) (b : Bool) (x y : Option (List ℕ)) → AtMost n x → AtMost n y → AtMost n (cond b x y)
either n true x y f g = f
either n false x y f g = g

then : (n : ℕ) (f : ℕ → Option (List ℕ)) (o : Option ℕ) → ((u : ℕ) → AtMost n (f u)) → AtMost n (option_and_then f o)
then n f None h = tt
then n f (Some u) h = h u

more : (n m : ℕ) (r : Option (List ℕ)) → AtMost m r → m ≤ n → AtMost n r
more n m None h le = tt
more n m (Some s) h le = omega arith

longer : (n m : ℕ) (a : List ℕ) (r : Option (List ℕ)) → AtMost m r → length a + m ≤ n → AtMost n (prepend a r)
longer n m a None h le = tt
longer n m a (Some s) h le = omega (arith, length-append a s)

length-encode : (u : ℕ) → length (encode_utf8 u) ≤ 4
unfolding encode_utf8
length-encode u = grind arith

content_short : (w : Within) (xs : List ℕ) → AtMost (length xs) (content w xs)
unfolding content
content_short plain [] = tt
content_short plain (x ∷ xs) =
    let n = length (x ∷ xs) in
    let m = length xs in
    let none : length {A = ℕ} [] ≤ n = omega arith in
    either n (x == 34) (Some []) _ none
    (either n (x == 92) _ _ (more n m _ (content_short after_backslash xs) (omega arith)) (either n (nat_lt x 32) None _ tt (longer n m (x ∷ []) _ (content_short plain xs) (omega arith))))
content_short after_backslash [] = tt
content_short after_backslash (x ∷ xs) =
    let n = length (x ∷ xs) in
    let m = length xs in
    either n (x == 117) _ _ (more n m _ (content_short after_u xs) (omega arith)) (then n _ (short_escape x) (λ c. longer n m (c ∷ []) _ (content_short plain xs) (omega arith)))
content_short after_u [] = tt
content_short after_u (a ∷ []) = tt
content_short after_u (a ∷ b ∷ []) = tt
content_short after_u (a ∷ b ∷ c ∷ []) = tt
content_short after_u (a ∷ b ∷ c ∷ d ∷ xs) =
    let n = length (a ∷ b ∷ c ∷ d ∷ xs) in
    let m = length xs in
    then n _ (code_unit a b c d) (λ u. either n (is_high_surrogate u) _ _ (more n m _ (content_short (after_high u) xs) (omega arith))
    (either n (is_low_surrogate u) None _ tt (longer n m (encode_utf8 u) _ (content_short plain xs) (omega (arith, length-encode u)))))
content_short (after_high h) [] = tt
content_short (after_high h) (s ∷ []) = tt
content_short (after_high h) (s ∷ u ∷ []) = tt
content_short (after_high h) (s ∷ u ∷ a ∷ []) = tt
content_short (after_high h) (s ∷ u ∷ a ∷ b ∷ []) = tt
content_short (after_high h) (s ∷ u ∷ a ∷ b ∷ c ∷ []) = tt
content_short (after_high h) (s ∷ u ∷ a ∷ b ∷ c ∷ d ∷ xs) =
    let n = length (s ∷ u ∷ a ∷ b ∷ c ∷ d ∷ xs) in
    let m = length xs in
    either n ((s == 92) && (u == 117)) _ None
    (then n _ (code_unit a b c d) (λ l. either n (is_low_surrogate l) _ None (longer n m (encode_utf8 (surrogate_pair h l)) _ (content_short plain xs) (omega (arith, length-encode (surrogate_pair h l)))) tt)) tt

-- ---- tokens

abbrev IsShortToken : ℕ → Token → Type 0
IsShortToken n Token.begin_object = ⊤
IsShortToken n Token.end_object = ⊤
IsShortToken n Token.begin_array = ⊤
IsShortToken n Token.end_array = ⊤
IsShortToken n (Token.key s) = length s ≤ n
IsShortToken n (Token.string s) = length s ≤ n
IsShortToken n (Token.number s) = ⊤
IsShortToken n (Token.boolean b) = ⊤
IsShortToken n Token.null = ⊤
IsShortToken n Token.bad = ⊤

abbrev IsShortLexeme : ℕ → Lexeme → Type 0
IsShortLexeme n (token t) = IsShortToken n t
IsShortLexeme n comma = ⊤
IsShortLexeme n colon = ⊤

token_either : (n : ℕ) (b : Bool) (x y : Token) → IsShortToken n x → IsShortToken n y → IsShortToken n (cond b x y)
token_either n true x y f g = f
token_either n false x y f g = g

lexeme_either : (n : ℕ) (b : Bool) (x y : Lexeme) → IsShortLexeme n x → IsShortLexeme n y → IsShortLexeme n (cond b x y)
lexeme_either n true x y f g = f
lexeme_either n false x y f g = g

number_short : (n : ℕ) (t : List ℕ) (o : Option (List ℕ)) → IsShortToken n (number_before t o)
number_short n t None = tt
number_short n t (Some rest) = token_either n (ends_word rest) _ Token.bad tt tt

literal_short : (n : ℕ) (name : List ℕ) (t : Token) (text : List ℕ) → IsShortToken n t → IsShortToken n (literal name t text)
literal_short n name t text h = token_either n (starts_with nat_eq text name && ends_word (drop (length name) text)) t Token.bad h tt

word_short : (n : ℕ) (t : List ℕ) → IsShortToken n (word t)
unfolding word
word_short n t =
    let one : Token = literal ascii.true_text (Token.boolean true) t in
    let two : Token = literal ascii.false_text (Token.boolean false) t in
    let three : Token = literal ascii.null_text Token.null t in
    let four : Token = number_before t (after_number t) in
    token_either n (head t == ascii.lower_t) one (cond (head t == ascii.lower_f) two (cond (head t == ascii.lower_n) three four)) (literal_short n ascii.true_text (Token.boolean true) t tt)
    (token_either n (head t == ascii.lower_f) two (cond (head t == ascii.lower_n) three four) (literal_short n ascii.false_text (Token.boolean false) t tt)
    (token_either n (head t == ascii.lower_n) three four (literal_short n ascii.null_text Token.null t tt) (number_short n t (after_number t))))

operator_short : (n x : ℕ) → IsShortLexeme n (operator_lexeme x)
operator_short n x =
    let five : Lexeme = cond (x == ascii.comma) comma colon in
    let four : Lexeme = cond (x == ascii.close_bracket) (token Token.end_array) five in
    let three : Lexeme = cond (x == ascii.open_bracket) (token Token.begin_array) four in
    let two : Lexeme = cond (x == ascii.close_brace) (token Token.end_object) three in
    lexeme_either n (x == ascii.open_brace) (token Token.begin_object) two tt
    (lexeme_either n (x == ascii.close_brace) (token Token.end_object) three tt
    (lexeme_either n (x == ascii.open_bracket) (token Token.begin_array) four tt
    (lexeme_either n (x == ascii.close_bracket) (token Token.end_array) five tt (lexeme_either n (x == ascii.comma) comma colon tt tt))))

string_short : (n m : ℕ) (o : Option (List ℕ)) → AtMost m o → m ≤ n → IsShortToken n (string_token o)
string_short n m None h le = tt
string_short n m (Some s) h le = omega arith

lex_byte_short : (n : ℕ) (m : Mode) (c : Class) (x : ℕ) (xs : List ℕ) (k : Mode → List Lexeme) → length xs ≤ n → ((next : Mode) → AllByRecursion (IsShortLexeme n) (k next))
    → AllByRecursion (IsShortLexeme n) (lex_byte m c x xs k)
lex_byte_short n between quote x xs k le h = (string_short n (length xs) (content plain xs) (content_short plain xs) le, h in_string)
lex_byte_short n between backslash x xs k le h = (tt, h in_word)
lex_byte_short n between operator x xs k le h = (operator_short n x, h between)
lex_byte_short n between space x xs k le h = h between
lex_byte_short n between other x xs k le h = (word_short n (x ∷ xs), h in_word)
lex_byte_short n in_word quote x xs k le h = h in_word
lex_byte_short n in_word backslash x xs k le h = h in_word
lex_byte_short n in_word operator x xs k le h = (operator_short n x, h between)
lex_byte_short n in_word space x xs k le h = h between
lex_byte_short n in_word other x xs k le h = h in_word
lex_byte_short n in_string quote x xs k le h = h between
lex_byte_short n in_string backslash x xs k le h = h in_escape
lex_byte_short n in_string operator x xs k le h = h in_string
lex_byte_short n in_string space x xs k le h = h in_string
lex_byte_short n in_string other x xs k le h = h in_string
lex_byte_short n in_escape c x xs k le h = h in_string

lex_short : (n : ℕ) (m : Mode) (xs : List ℕ) → length xs ≤ n → AllByRecursion (IsShortLexeme n) (lex m xs)
unfolding lex
lex_short n m [] le = tt
lex_short n m (x ∷ xs) le = lex_byte_short n m (class x) x xs (λ next. lex next xs) (omega arith) (λ next. lex_short n next xs (omega arith))

abbrev AreShortTokens : ℕ → List Token → Type 0
AreShortTokens n ts = AllByRecursion (IsShortToken n) ts

allowed_short : (n : ℕ) (b : Bool) (t : Token) (k : Place → List Token) (next : Place) → IsShortToken n t → AreShortTokens n (k next) → AreShortTokens n (if_allowed b t k next)
allowed_short n true t k next s h = (s, h)
allowed_short n false t k next s h = (tt, tt)

place_short : (n : ℕ) (p : Place) (t : Token) (b : Bool) (k : Place → List Token) → IsShortToken n t → ((next : Place) → AreShortTokens n (k next)) → AreShortTokens n (place_token p t b k)
place_short n p Token.begin_object b k s h = allowed_short n (may_begin p) Token.begin_object k fresh tt (h fresh)
place_short n p Token.end_object b k s h = allowed_short n (may_close p) Token.end_object k after_value tt (h after_value)
place_short n p Token.begin_array b k s h = allowed_short n (may_begin p) Token.begin_array k fresh tt (h fresh)
place_short n p Token.end_array b k s h = allowed_short n (may_close p) Token.end_array k after_value tt (h after_value)
place_short n p (Token.key x) b k s h = (tt, tt)
place_short n p (Token.string x) true k s h = allowed_short n (may_begin p) (Token.key x) k after_key s (h after_key)
place_short n p (Token.string x) false k s h = allowed_short n (may_begin p) (Token.string x) k after_value s (h after_value)
place_short n p (Token.number x) b k s h = allowed_short n (may_begin p) (Token.number x) k after_value tt (h after_value)
place_short n p (Token.boolean x) b k s h = allowed_short n (may_begin p) (Token.boolean x) k after_value tt (h after_value)
place_short n p Token.null b k s h = allowed_short n (may_begin p) Token.null k after_value tt (h after_value)
place_short n p Token.bad b k s h = (tt, tt)

punctuate_short : (n : ℕ) (p : Place) (ls : List Lexeme) → AllByRecursion (IsShortLexeme n) ls → AreShortTokens n (punctuate p ls)
unfolding punctuate
punctuate_short n fresh [] all = tt
punctuate_short n after_value [] all = tt
punctuate_short n after_comma [] all = (tt, tt)
punctuate_short n after_key [] all = (tt, tt)
punctuate_short n fresh (token t ∷ ls) all = place_short n fresh t (begins_colon ls) (λ next. punctuate next ls) all.0 (λ next. punctuate_short n next ls all.1)
punctuate_short n after_value (token t ∷ ls) all = place_short n after_value t (begins_colon ls) (λ next. punctuate next ls) all.0 (λ next. punctuate_short n next ls all.1)
punctuate_short n after_comma (token t ∷ ls) all = place_short n after_comma t (begins_colon ls) (λ next. punctuate next ls) all.0 (λ next. punctuate_short n next ls all.1)
punctuate_short n after_key (token t ∷ ls) all = place_short n after_key t (begins_colon ls) (λ next. punctuate next ls) all.0 (λ next. punctuate_short n next ls all.1)
punctuate_short n fresh (comma ∷ ls) all = (tt, tt)
punctuate_short n after_value (comma ∷ ls) all = punctuate_short n after_comma ls all.1
punctuate_short n after_comma (comma ∷ ls) all = (tt, tt)
punctuate_short n after_key (comma ∷ ls) all = (tt, tt)
punctuate_short n fresh (colon ∷ ls) all = (tt, tt)
punctuate_short n after_value (colon ∷ ls) all = (tt, tt)
punctuate_short n after_comma (colon ∷ ls) all = (tt, tt)
punctuate_short n after_key (colon ∷ ls) all = punctuate_short n fresh ls all.1

tokens_short : (text : List ℕ) → AreShortTokens (length text) (tokens text)
tokens_short text = punctuate_short (length text) fresh (lex between text) (lex_short (length text) between text (omega arith))

-- ---- the grammar

abbrev mutual
  IsShort : ℕ → json.Json → Type 0
  IsShort n json.null = ⊤
  IsShort n (json.boolean b) = ⊤
  IsShort n (json.number s) = ⊤
  IsShort n (json.string s) = length s ≤ n
  IsShort n (json.array js) = AreShort n js
  IsShort n (json.object ms) = HaveShort n ms

  AreShort : ℕ → json.Items → Type 0
  AreShort n json.no_items = ⊤
  AreShort n (json.item j js) = IsShort n j × AreShort n js

  HaveShort : ℕ → json.Members → Type 0
  HaveShort n json.no_members = ⊤
  HaveShort n (json.member k j ms) = IsShort n j × HaveShort n ms

-- what was read is so, and the tokens behind it are short
abbrev Reads : {A : Type 0} → (A → Type 0) → ℕ → Option (A × List Token) → Type 0
Reads P n None = ⊤
Reads P n (Some p) = P p.0 × AreShortTokens n p.1

reads_map : {A B : Type 0} (P : A → Type 0) (Q : B → Type 0) (f : A → B) (n : ℕ) (r : Option (A × List Token)) → ((a : A) → P a → Q (f a)) → Reads P n r → Reads Q n (json.parse_map f r)
reads_map P Q f n None h reads = tt
reads_map P Q f n (Some p) h reads = (h p.0 reads.0, reads.1)

reads_then : {A B : Type 0} (P : A → Type 0) (Q : B → Type 0) (n : ℕ) (r : Option (A × List Token)) (f : A × List Token → Option (B × List Token)) → Reads P n r
    → ((p : A × List Token) → P p.0 → AreShortTokens n p.1 → Reads Q n (f p)) → Reads Q n (option_and_then f r)
reads_then P Q n None f reads h = tt
reads_then P Q n (Some p) f reads h = h p reads.0 reads.1

abbrev Left : ℕ → Option (List Token) → Type 0
Left n None = ⊤
Left n (Some ts) = AreShortTokens n ts

left_short : (n : ℕ) (ts : List Token) → AreShortTokens n ts → Left n (json.after_end_array ts)
left_short n [] all = tt
left_short n (Token.begin_object ∷ ts) all = tt
left_short n (Token.end_object ∷ ts) all = tt
left_short n (Token.begin_array ∷ ts) all = tt
left_short n (Token.end_array ∷ ts) all = all.1
left_short n (Token.key s ∷ ts) all = tt
left_short n (Token.string s ∷ ts) all = tt
left_short n (Token.number s ∷ ts) all = tt
left_short n (Token.boolean b ∷ ts) all = tt
left_short n (Token.null ∷ ts) all = tt
left_short n (Token.bad ∷ ts) all = tt

key_short : (n : ℕ) (ts : List Token) → AreShortTokens n ts → Reads (λ _. ⊤) n (json.read_key ts)
key_short n [] all = tt
key_short n (Token.begin_object ∷ ts) all = tt
key_short n (Token.end_object ∷ ts) all = (tt, all.1)
key_short n (Token.begin_array ∷ ts) all = tt
key_short n (Token.end_array ∷ ts) all = tt
key_short n (Token.key s ∷ ts) all = (tt, all.1)
key_short n (Token.string s ∷ ts) all = tt
key_short n (Token.number s ∷ ts) all = tt
key_short n (Token.boolean b ∷ ts) all = tt
key_short n (Token.null ∷ ts) all = tt
key_short n (Token.bad ∷ ts) all = tt

abbrev Parses : {A : Type 0} → (A → Type 0) → ℕ → json.Parse A → Type 0
Parses P n parse = (ts : List Token) → AreShortTokens n ts → Reads P n (parse ts)

items_step_short : (n : ℕ) (value : json.Parse json.Json) (more : json.Parse json.Items) → Parses (IsShort n) n value → Parses (AreShort n) n more → (ts : List Token) (o : Option (List Token))
    → AreShortTokens n ts → Left n o → Reads (AreShort n) n (json.items_step value more ts o)
items_step_short n value more hv hm ts (Some rest) all left = (tt, left)
items_step_short n value more hv hm ts None all left =
    reads_then (IsShort n) (AreShort n) n (value ts) _ (hv ts all) (λ p is rest. reads_map (AreShort n) (AreShort n) (json.item p.0) n (more p.1) (λ js are. (is, are)) (hm p.1 rest))

items_short : (n : ℕ) (value : json.Parse json.Json) → Parses (IsShort n) n value → (turns : ℕ) → Parses (AreShort n) n (json.items value turns)
unfolding json.items
items_short n value hv zero ts all = tt
items_short n value hv (suc turns) ts all = items_step_short n value (json.items value turns) hv (items_short n value hv turns) ts (json.after_end_array ts) all (left_short n ts all)

members_step_short : (n : ℕ) (value : json.Parse json.Json) (more : json.Parse json.Members) → Parses (IsShort n) n value → Parses (HaveShort n) n more → (k : Option (List ℕ))
    → Parses (HaveShort n) n (json.members_step value more k)
members_step_short n value more hv hm None ts all = (tt, all)
members_step_short n value more hv hm (Some k) ts all =
    reads_then (IsShort n) (HaveShort n) n (value ts) _ (hv ts all) (λ p is rest. reads_map (HaveShort n) (HaveShort n) (json.member k p.0) n (more p.1) (λ ms are. (is, are)) (hm p.1 rest))

members_short : (n : ℕ) (value : json.Parse json.Json) → Parses (IsShort n) n value → (turns : ℕ) → Parses (HaveShort n) n (json.members value turns)
unfolding json.members
members_short n value hv zero ts all = tt
members_short n value hv (suc turns) ts all =
    reads_then (λ _. ⊤) (HaveShort n) n (json.read_key ts) _ (key_short n ts all) (λ p _ rest. members_step_short n value (json.members value turns) hv (members_short n value hv turns) p.0 p.1 rest)

with_short : (n : ℕ) (a : json.Parse json.Items) (o : json.Parse json.Members) → Parses (AreShort n) n a → Parses (HaveShort n) n o → Parses (IsShort n) n (json.value_with a o)
with_short n a o ha ho [] all = tt
with_short n a o ha ho (Token.begin_object ∷ ts) all = reads_map (HaveShort n) (IsShort n) json.object n (o ts) (λ ms h. h) (ho ts all.1)
with_short n a o ha ho (Token.end_object ∷ ts) all = tt
with_short n a o ha ho (Token.begin_array ∷ ts) all = reads_map (AreShort n) (IsShort n) json.array n (a ts) (λ js h. h) (ha ts all.1)
with_short n a o ha ho (Token.end_array ∷ ts) all = tt
with_short n a o ha ho (Token.key s ∷ ts) all = tt
with_short n a o ha ho (Token.string s ∷ ts) all = (all.0, all.1)
with_short n a o ha ho (Token.number s ∷ ts) all = (tt, all.1)
with_short n a o ha ho (Token.boolean b ∷ ts) all = (tt, all.1)
with_short n a o ha ho (Token.null ∷ ts) all = (tt, all.1)
with_short n a o ha ho (Token.bad ∷ ts) all = tt

value_short : (n depth : ℕ) → Parses (IsShort n) n (json.value depth)
unfolding json.value
value_short n zero ts all = with_short n (λ _. None) (λ _. None) (λ _ _. tt) (λ _ _. tt) ts all
value_short n (suc depth) ts all =
    with_short n (λ us. json.items (json.value depth) (length us) us) (λ us. json.members (json.value depth) (length us) us)
    (λ us short. items_short n (json.value depth) (value_short n depth) (length us) us short) (λ us short. members_short n (json.value depth) (value_short n depth) (length us) us short) ts all

-- ---- values

abbrev mutual
  pub HasShort : ℕ → Data → Type 0
  HasShort n null = ⊤
  HasShort n (boolean b) = ⊤
  HasShort n (number x) = ⊤
  HasShort n (string s) = length s ≤ n
  HasShort n (array ds) = ItemsShort n ds
  HasShort n (object ms) = MembersShort n ms

  pub ItemsShort : ℕ → Items → Type 0
  ItemsShort n no_items = ⊤
  ItemsShort n (item d ds) = HasShort n d × ItemsShort n ds

  pub MembersShort : ℕ → Members → Type 0
  MembersShort n no_members = ⊤
  MembersShort n (member k d ms) = HasShort n d × MembersShort n ms

-- what is there is so
abbrev pub Holds : {A : Type 0} → (A → Type 0) → Option A → Type 0
Holds P None = ⊤
Holds P (Some x) = P x

holds_map : {A B : Type 0} (P : A → Type 0) (Q : B → Type 0) (f : A → B) (o : Option A) → ((a : A) → P a → Q (f a)) → Holds P o → Holds Q (option_map f o)
holds_map P Q f None h p = tt
holds_map P Q f (Some x) h p = h x p

holds_then : {A B : Type 0} (P : A → Type 0) (Q : B → Type 0) (f : A → Option B) (o : Option A) → ((a : A) → P a → Holds Q (f a)) → Holds P o → Holds Q (option_and_then f o)
holds_then P Q f None h p = tt
holds_then P Q f (Some x) h p = h x p

members_either : (n : ℕ) (o : Ordering) (a b c : Members) → MembersShort n a → MembersShort n b → MembersShort n c → MembersShort n (match_ordering o a b c)
members_either n Less a b c x y z = x
members_either n Equal a b c x y z = y
members_either n Greater a b c x y z = z

put_short : (n : ℕ) (k : List ℕ) (d : Data) (ms : Members) → HasShort n d → MembersShort n ms → MembersShort n (put k d ms)
put_short n k d no_members h all = (h, tt)
put_short n k d (member l e ms) h all = members_either n (slice_cmp nat_cmp k l) _ _ _ (h, all) (h, all.1) (all.0, put_short n k d ms h all.1)

any : {A : Type 0} (o : Option A) → Holds (λ _. ⊤) o
any None = tt
any (Some x) = tt

mutual
  of_json_short : (n : ℕ) (j : json.Json) → IsShort n j → Holds (HasShort n) (of_json j)
  of_json_short n json.null h = tt
  of_json_short n (json.boolean b) h = tt
  of_json_short n (json.number s) h = holds_map (λ _. ⊤) (HasShort n) number (number_of s) (λ x t. tt) (any (number_of s))
  of_json_short n (json.string s) h = h
  of_json_short n (json.array js) h = holds_map (ItemsShort n) (HasShort n) array (of_items js) (λ ds t. t) (of_items_short n js h)
  of_json_short n (json.object ms) h = holds_map (MembersShort n) (HasShort n) object (of_members ms no_members) (λ x t. t) (of_members_short n ms no_members h tt)

  of_items_short : (n : ℕ) (js : json.Items) → AreShort n js → Holds (ItemsShort n) (of_items js)
  of_items_short n json.no_items h = tt
  of_items_short n (json.item j js) h =
      holds_then (HasShort n) (ItemsShort n) _ (of_json j) (λ d is. holds_map (ItemsShort n) (ItemsShort n) (item d) (of_items js) (λ ds are. (is, are)) (of_items_short n js h.1)) (of_json_short n j h.0)

  of_members_short : (n : ℕ) (ms : json.Members) (found : Members) → HaveShort n ms → MembersShort n found → Holds (MembersShort n) (of_members ms found)
  of_members_short n json.no_members found h all = all
  of_members_short n (json.member k j ms) found h all =
      holds_then (HasShort n) (MembersShort n) _ (of_json j) (λ d is. of_members_short n ms (put k d found) h.1 (put_short n k d found is all)) (of_json_short n j h.0)

last_short : (n : ℕ) (j : json.Json) (ts : List Token) → IsShort n j → Holds (IsShort n) (json.if_last j ts)
last_short n j [] is = is
last_short n j (t ∷ ts) is = tt

parsed_short : (n : ℕ) (r : Option (json.Json × List Token)) → Reads (IsShort n) n r → Holds (IsShort n) (option_and_then (λ p. json.if_last p.0 p.1) r)
parsed_short n None reads = tt
parsed_short n (Some p) reads = last_short n p.0 p.1 reads.0

-- a value that is read has no text longer than the bytes
pub read_short : (text : List ℕ) → Holds (HasShort (length text)) (read text)
read_short text =
    let n = length text in
    holds_then (IsShort n) (HasShort n) of_json _ (of_json_short n) (parsed_short n _ (value_short n 127 (tokens text) (tokens_short text)))
