-- A document of a block that fits carries no more than a segment can hold.
use Rattle.std.proofs.Common.{◌≡◌, ℕ, zero, suc, ◌+◌, ◌<◌, ◌≤◌, ◌^◌, ◌==◌, if◌then◌else◌, Bool, true, false, List, [], ◌∷◌, ◌++◌, ℤ, length, length-append, map, filter, nat_lt, refl, sym, ap, ◌∙◌, subst, arith, Option, Some, None, bytes_eq}
use Rattle.std.proofs.lemmas.Bool.{false≢true}
use Rattle.std.proofs.lemmas.Bool.Decides.{nat_tests}
use Rattle.std.proofs.lemmas.List.Elements.{All-contains_itself, All-from_recursion, recursion_from_All}
use Rattle.std.proofs.lemmas.List.Sums.{sum_by-cons}
use Rattle.std.specs.List.{All, AllByRecursion, Contains, flat_map, list_any, range_with_len, sum_by}
use Rattle.std.specs.Ordering.{is_gt, int_cmp}
use Rattle.std.specs.declared.cmp.Ordering.{Ordering}
use Rattle.analysis.specs.Words.{words}
use Rattle.mapping_body.specs.declared.kind.Kind.{Kind}
use Rattle.mapping_body.specs.declared.kind.Kind.TheVariants.{Text, Keyword, Long, Boolean, Date, Object as Plain, Nested, Join}
use Rattle.mapping_body.proofs.Walks.{split}
use Rattle.mapping.specs.Mapping.{Mapping, kind_at}
use Rattle.segment.specs.Flat.{has_some}
use Rattle.tree_json.specs.Text.{compact}
use Rattle.tree_objects.specs.Fault.{first_fault, has_long_term, is_long_term}
use Rattle.tree_objects.specs.Object.{Object, block_objects}
use Rattle.tree_objects.specs.Tree.{Tree}
use Rattle.tree_objects.specs.Values.{values, written_bytes}
use Rattle.tree_objects.specs.declared.field_value.FieldValue.{FieldValue}
use Rattle.tree_objects.specs.declared.field_value.FieldValue.TheVariants.{Number, Written}
use Rattle.tree_objects.specs.declared.fault.Fault.{Fault}
use Rattle.tree_objects.specs.declared.fault.Fault.TheVariants.{WrongType, TermTooLong, BadJoin}
use Rattle.tree_objects.proofs.Inside.{each_append, each_from}
use Rattle.flattener.specs.Block.{BlockState, block_refusal, flats_of_tree, most_nested, nested_count, refusal_of}
use Rattle.flattener.specs.Fits.{BlockFits}
use Rattle.flattener.specs.Flat.{ascending, bytes_cmp, field_words, flat_of, grouped, has_numbers, is_keyword, is_text, later_tokens, numbers_in, placed, placed_words, texts_in, together, token_cmp, tokens, words_of_field}
use Rattle.flattener.specs.Small.{IsSmall}
use Rattle.flattener.proofs.Fitting.{each_mapped}

-- what holds of the values of an object, by a field
pub record AreBounded (m : Mapping) (o : Object) (most : ℕ) : Type 0 where
  pub count : (f : ℕ) → length (values m f o) ≤ most
  pub bytes : (f : ℕ) → sum_by written_bytes (values m f o) ≤ most
  pub short : (f : ℕ) → f < length m.fields → All (λ (v : FieldValue). has_long_term (kind_at m f) v ≡ false) (values m f o)

-- ---- lists in order

module _ {A : Type 0} (cmp : A → A → Ordering) where
  length-placed : (new : A) (xs : List A) → length (placed cmp new xs) ≡ suc (length xs)
  length-placed new [] = refl
  length-placed new (x ∷ xs) =
      split (is_gt (cmp new x))
      (λ after. rw after (ap suc (length-placed new xs)))
      (λ before. rw before refl)

  pub length-ascending : (xs : List A) → length (ascending cmp xs) ≡ length xs
  length-ascending [] = refl
  length-ascending (x ∷ xs) = length-placed x (ascending cmp xs) ∙ ap suc (length-ascending xs)

  each_placed : (P : A → Type 0) (new : A) (xs : List A) → P new → AllByRecursion P xs → AllByRecursion P (placed cmp new xs)
  each_placed P new [] first all = (first, tt)
  each_placed P new (x ∷ xs) first all =
      split (is_gt (cmp new x))
      (λ after. rw after (all.0, each_placed P new xs first all.1))
      (λ before. rw before (first, all))

  pub each_ascending : (P : A → Type 0) (xs : List A) → AllByRecursion P xs → AllByRecursion P (ascending cmp xs)
  each_ascending P [] all = tt
  each_ascending P (x ∷ xs) all = each_placed P x (ascending cmp xs) all.0 (each_ascending P xs all.1)

-- ---- the values of a kind of column

numbers_few : (vs : List FieldValue) → length (numbers_in vs) ≤ length vs
numbers_few [] = omega arith
numbers_few (Number z ∷ vs) = omega (arith, numbers_few vs)
numbers_few (Written s ∷ vs) = omega (arith, numbers_few vs)

texts_few : (vs : List FieldValue) → length (texts_in vs) ≤ length vs
texts_few [] = omega arith
texts_few (Number z ∷ vs) = omega (arith, texts_few vs)
texts_few (Written s ∷ vs) = omega (arith, texts_few vs)

-- ---- tokens and words

-- the words of texts together
abbrev word_count : List (List ℕ) → ℕ
word_count [] = 0
word_count (text ∷ texts) = length (words text) + word_count texts

length-placed_words : (at : ℕ) (ws : List (List ℕ)) → length (placed_words at ws) ≡ length ws
length-placed_words at [] = refl
length-placed_words at (w ∷ ws) = ap suc (length-placed_words (at + 1) ws)

length-later : (end : ℕ) (texts : List (List ℕ)) → length (later_tokens words end texts) ≡ word_count texts
length-later end [] = refl
length-later end (text ∷ texts) =
    length-append (placed_words (end + 100) (words text)) (later_tokens words (if length (words text) == 0 then end else end + 100 + length (words text)) texts)
    ∙ omega (arith, length-placed_words (end + 100) (words text), length-later (if length (words text) == 0 then end else end + 100 + length (words text)) texts)

length-tokens : (texts : List (List ℕ)) → length (tokens texts) ≡ word_count texts
unfolding tokens
length-tokens [] = refl
length-tokens (text ∷ texts) =
    length-append (placed_words 0 (words text)) (later_tokens words (length (words text)) texts)
    ∙ omega (arith, length-placed_words 0 (words text), length-later (length (words text)) texts)

abbrev IsShortToken : List ℕ × ℕ → Type 0
IsShortToken token = length token.0 ≤ 32_766

abbrev AreShort : List (List ℕ) → Type 0
AreShort ws = AllByRecursion (λ (w : List ℕ). length w ≤ 32_766) ws

short_placed : (at : ℕ) (ws : List (List ℕ)) → AreShort ws → AllByRecursion IsShortToken (placed_words at ws)
short_placed at [] all = tt
short_placed at (w ∷ ws) all = (all.0, short_placed (at + 1) ws all.1)

short_later : (end : ℕ) (texts : List (List ℕ)) → AllByRecursion (λ (text : List ℕ). AreShort (words text)) texts → AllByRecursion IsShortToken (later_tokens words end texts)
short_later end [] all = tt
short_later end (text ∷ texts) all =
    each_append IsShortToken (placed_words (end + 100) (words text)) (later_tokens words (if length (words text) == 0 then end else end + 100 + length (words text)) texts)
    (short_placed (end + 100) (words text) all.0) (short_later (if length (words text) == 0 then end else end + 100 + length (words text)) texts all.1)

short_tokens : (texts : List (List ℕ)) → AllByRecursion (λ (text : List ℕ). AreShort (words text)) texts → AllByRecursion IsShortToken (tokens texts)
unfolding tokens
short_tokens [] all = tt
short_tokens (text ∷ texts) all =
    each_append IsShortToken (placed_words 0 (words text)) (later_tokens words (length (words text)) texts) (short_placed 0 (words text) all.0) (short_later (length (words text)) texts all.1)

-- a word of tokens, with at most so many positions
abbrev IsSmallWord : ℕ → (ℕ × List ℕ) × List ℕ → Type 0
IsSmallWord most word = (length word.0.1 ≤ 32_766) × (length word.1 ≤ most)

small_together : (most f : ℕ) (word positions : List ℕ) (ts : List (List ℕ × ℕ)) → length word ≤ 32_766 → length positions + length ts ≤ most → AllByRecursion IsShortToken ts
    → AllByRecursion (IsSmallWord most) (together f word positions ts)
small_together most f word positions [] short few all = ((short, omega (arith, few)), tt)
small_together most f word positions (token ∷ ts) short few all =
    split (bytes_eq token.0 word)
    (λ same. rw same (small_together most f word (positions ++ token.1 ∷ []) ts short (omega (arith, few, length-append positions (token.1 ∷ []))) all.1))
    (λ next. rw next ((short, omega (arith, few)), small_together most f token.0 (token.1 ∷ []) ts all.0 (omega (arith, few)) all.1))

small_grouped : (most f : ℕ) (ts : List (List ℕ × ℕ)) → length ts ≤ most → AllByRecursion IsShortToken ts → AllByRecursion (IsSmallWord most) (grouped f ts)
small_grouped most f [] few all = tt
small_grouped most f (token ∷ ts) few all = small_together most f token.0 (token.1 ∷ []) ts all.0 (omega (arith, few)) all.1

small_words : (most f : ℕ) (texts : List (List ℕ)) → word_count texts ≤ most → AllByRecursion (λ (text : List ℕ). AreShort (words text)) texts → AllByRecursion (IsSmallWord most) (words_of_field f (tokens texts))
small_words most f texts few all =
    small_grouped most f (ascending token_cmp (tokens texts))
    (omega (arith, few, length-ascending token_cmp (tokens texts), length-tokens texts))
    (each_ascending token_cmp IsShortToken (tokens texts) (short_tokens texts all))

-- ---- what no long term means

not_long : (term : List ℕ) → is_long_term term ≡ false → length term ≤ 32_766
not_long term e = grind (arith, nat_tests)

none_long : (ws : List (List ℕ)) → list_any is_long_term ws ≡ false → AreShort ws
none_long [] e = tt
none_long (w ∷ ws) e =
    split (is_long_term w)
    (λ long. let never : true ≡ false = rw long at e in absurd (false≢true (sym never)))
    (λ short. (not_long w short, none_long ws (rw short at e)))

keywords_short : (vs : List FieldValue) → AllByRecursion (λ (v : FieldValue). has_long_term Keyword v ≡ false) vs → AreShort (texts_in vs)
keywords_short [] all = tt
keywords_short (Number z ∷ vs) all = keywords_short vs all.1
keywords_short (Written s ∷ vs) all = (not_long s all.0, keywords_short vs all.1)

texts_short : (vs : List FieldValue) → AllByRecursion (λ (v : FieldValue). has_long_term Text v ≡ false) vs → AllByRecursion (λ (text : List ℕ). AreShort (words text)) (texts_in vs)
texts_short [] all = tt
texts_short (Number z ∷ vs) all = texts_short vs all.1
texts_short (Written s ∷ vs) all = (none_long (words s) all.0, texts_short vs all.1)

-- a text has no more words than bytes
abbrev AreFewer : Type 0
AreFewer = (text : List ℕ) → length (words text) ≤ length text

words_few : AreFewer → (vs : List FieldValue) → word_count (texts_in vs) ≤ sum_by written_bytes vs
words_few fewer [] = omega arith
words_few fewer (Number z ∷ vs) = omega (arith, words_few fewer vs, sum_by-cons written_bytes (Number z) vs)
words_few fewer (Written s ∷ vs) = omega (arith, words_few fewer vs, fewer s, sum_by-cons written_bytes (Written s) vs)

-- ---- the fields of a document

keyword_is : (kind : Kind) → is_keyword kind ≡ true → kind ≡ Keyword
keyword_is Text e = absurd (false≢true e)
keyword_is Keyword e = refl
keyword_is Long e = absurd (false≢true e)
keyword_is Boolean e = absurd (false≢true e)
keyword_is Date e = absurd (false≢true e)
keyword_is Plain e = absurd (false≢true e)
keyword_is Nested e = absurd (false≢true e)
keyword_is Join e = absurd (false≢true e)

text_is : (kind : Kind) → is_text kind ≡ true → kind ≡ Text
text_is Text e = refl
text_is Keyword e = absurd (false≢true e)
text_is Long e = absurd (false≢true e)
text_is Boolean e = absurd (false≢true e)
text_is Date e = absurd (false≢true e)
text_is Plain e = absurd (false≢true e)
text_is Nested e = absurd (false≢true e)
text_is Join e = absurd (false≢true e)

-- what holds of a field of some kinds by its number holds of each that a document has
each_with : {X : Type 0} (P : ℕ × List X → Type 0) (t : ℕ → Bool) (get : ℕ → List X) (at count : ℕ) → ((n : ℕ) → n < at + count → t n ≡ true → P (n, get n))
    → AllByRecursion P (filter has_some (map (λ n. (n, get n)) (filter t (range_with_len at count))))
each_with P t get at zero each = tt
each_with P t get at (suc count) each =
    let rest = each_with P t get (at + 1) count (λ n h. each n (omega (arith, h))) in
    split (t at)
    (λ yes. split (nat_lt 0 (length (get at)))
    (λ some. rw (yes, some) (each at (omega arith) yes, rest))
    (λ none. rw (yes, none) rest))
    (λ no. rw no rest)

each_text : (P : (ℕ × List ℕ) × List ℕ → Type 0) (t : ℕ → Bool) (get : ℕ → List (List ℕ)) (at count : ℕ) → ((n : ℕ) → n < at + count → t n ≡ true → AllByRecursion P (field_words (n, get n)))
    → AllByRecursion P (flat_map field_words (map (λ n. (n, get n)) (filter t (range_with_len at count))))
each_text P t get at zero each = tt
each_text P t get at (suc count) each =
    let rest = each_text P t get (at + 1) count (λ n h. each n (omega (arith, h))) in
    split (t at)
    (λ yes. rw yes (each_append P (field_words (at, get at)) (flat_map field_words (map (λ n. (n, get n)) (filter t (range_with_len (at + 1) count)))) (each at (omega arith) yes) rest))
    (λ no. rw no rest)

small : (m : Mapping) (o : Object) (most : ℕ) → most < 2 ^ 32 → AreFewer → AreBounded m o most → IsSmall (flat_of m o)
small m o most limit fewer bounded =
    let numbers_at : ℕ → List ℤ = λ n. ascending int_cmp (numbers_in (values m n o)) in
    let keywords_at : ℕ → List (List ℕ) = λ n. ascending bytes_cmp (texts_in (values m n o)) in
    let texts_at : ℕ → List (List ℕ) = λ n. texts_in (values m n o) in
    record {
      numbers = All-from_recursion (λ (field : ℕ × List ℤ). length field.1 < 2 ^ 32) _
          (each_with (λ (field : ℕ × List ℤ). length field.1 < 2 ^ 32) (λ n. has_numbers (kind_at m n)) numbers_at 0 (length m.fields)
          (λ n h kind. omega (arith, limit, bounded.count n, numbers_few (values m n o), length-ascending int_cmp (numbers_in (values m n o)))));
      keywords = All-from_recursion (λ (field : ℕ × List (List ℕ)). (length field.1 < 2 ^ 32) × All (λ (bytes : List ℕ). length bytes ≤ 32_766) field.1) _
          (each_with (λ (field : ℕ × List (List ℕ)). (length field.1 < 2 ^ 32) × All (λ (bytes : List ℕ). length bytes ≤ 32_766) field.1) (λ n. is_keyword (kind_at m n)) keywords_at 0 (length m.fields)
          (λ n h kind. (
            omega (arith, limit, bounded.count n, texts_few (values m n o), length-ascending bytes_cmp (texts_in (values m n o))),
            All-from_recursion (λ (bytes : List ℕ). length bytes ≤ 32_766) (keywords_at n)
                (each_ascending bytes_cmp (λ (bytes : List ℕ). length bytes ≤ 32_766) (texts_in (values m n o))
                (keywords_short (values m n o) (recursion_from_All (λ (v : FieldValue). has_long_term Keyword v ≡ false) (values m n o)
                (subst (λ (k : Kind). All (λ (v : FieldValue). has_long_term k v ≡ false) (values m n o)) (keyword_is (kind_at m n) kind) (bounded.short n (omega (arith, h))))))),
          )));
      words = All-from_recursion (λ (word : (ℕ × List ℕ) × List ℕ). (length word.0.1 ≤ 32_766) × (length word.1 < 2 ^ 32)) _
          (each_text (λ (word : (ℕ × List ℕ) × List ℕ). (length word.0.1 ≤ 32_766) × (length word.1 < 2 ^ 32)) (λ n. is_text (kind_at m n)) texts_at 0 (length m.fields)
          (λ n h kind. each_from (IsSmallWord most) (λ (word : (ℕ × List ℕ) × List ℕ). (length word.0.1 ≤ 32_766) × (length word.1 < 2 ^ 32)) (λ word is. (is.0, omega (arith, limit, is.1))) (field_words (n, texts_at n))
          (small_words most n (texts_in (values m n o)) (omega (arith, bounded.bytes n, words_few fewer (values m n o)))
          (texts_short (values m n o) (recursion_from_All (λ (v : FieldValue). has_long_term Text v ≡ false) (values m n o)
          (subst (λ (k : Kind). All (λ (v : FieldValue). has_long_term k v ≡ false) (values m n o)) (text_is (kind_at m n) kind) (bounded.short n (omega (arith, h)))))))));
    }

-- ---- a block

no_fault : (fault : Option Fault) (many : Bool) → refusal_of fault many ≡ None → fault ≡ None
no_fault None many e = refl
no_fault (Some (WrongType f)) many e = absurd (cc (e))
no_fault (Some (TermTooLong f)) many e = absurd (cc (e))
no_fault (Some BadJoin) many e = absurd (cc (e))

pub accepted_faultless : (m : Mapping) (tree : Tree) → block_refusal m tree ≡ None → first_fault m tree.generation tree.source ≡ None
unfolding block_refusal
accepted_faultless m tree e = no_fault (first_fault m tree.generation tree.source) (nat_lt most_nested (nested_count m tree)) e

pub block_small : (m : Mapping) (block : BlockState) → AreFewer → (fits : BlockFits m block) → ((o : Object) → Contains (block_objects m fits.tree) o → AreBounded m o (length (compact fits.tree.source))) → All IsSmall block.flats
unfolding flats_of_tree
block_small m block fewer fits bounded =
    let most = fits.given.source.1 in
    subst (λ (b : BlockState). All IsSmall b.flats) (sym fits.is)
    (All-from_recursion IsSmall (map (flat_of m) (block_objects m fits.tree))
    (each_mapped (Contains (block_objects m fits.tree)) IsSmall (flat_of m) (λ o of. small m o (length (compact fits.tree.source)) (omega (arith, most)) fewer (bounded o of)) (block_objects m fits.tree)
    (recursion_from_All (Contains (block_objects m fits.tree)) (block_objects m fits.tree) (All-contains_itself (block_objects m fits.tree)))))
