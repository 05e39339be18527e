-- Documents whose fields are each of one kind, and which the columns can take.
use Rattle.std.proofs.Common.{◌≡◌, ℕ, ℤ, ◌<◌, ◌≤◌, Bool, true, false, List, length, get_or, Contains, FitsSigned, w64, ltb-true}
use Rattle.std.specs.Cmp.Lexicographic.{slice_cmp}
use Rattle.std.specs.List.{All, AllByRecursion}
use Rattle.std.specs.List.Sorted.{IsStrictlySortedBy}
use Rattle.std.specs.Ordering.{int_cmp, nat_cmp}
use Rattle.std.specs.declared.cmp.Ordering.{Ordering}
use Rattle.doc_values.specs.Values.{AreValues}
use Rattle.segment.specs.Flat.{FlatDocument}
use Rattle.term_table.specs.Postings.{AreAscending}
use Rattle.term_table.specs.Terms.{term_cmp}
use Rattle.flattener.specs.Small.{IsSmall}
use Rattle.segment_builder.specs.Form.{IsOrdered, IsFit}
use Rattle.segment_builder.specs.Groups.{keys}
use Rattle.segment_builder.proofs.Shown.{each_by}

abbrev pub bytes_order : List ℕ → List ℕ → Ordering
bytes_order = slice_cmp nat_cmp

-- how many fields there are, and of what kind each is
pub record Kinds : Type 0 where
  pub bound : ℕ
  pub num : ℕ → Bool
  pub key : ℕ → Bool
  pub word : ℕ → Bool

pub record AreApart (k : Kinds) : Type 0 where
  pub word_key : (f : ℕ) → k.word f ≡ true → k.key f ≡ false
  pub word_num : (f : ℕ) → k.word f ≡ true → k.num f ≡ false
  pub key_word : (f : ℕ) → k.key f ≡ true → k.word f ≡ false
  pub key_num : (f : ℕ) → k.key f ≡ true → k.num f ≡ false
  pub num_word : (f : ℕ) → k.num f ≡ true → k.word f ≡ false
  pub num_key : (f : ℕ) → k.num f ≡ true → k.key f ≡ false

pub record AreNumbers (k : Kinds) (field : ℕ) (numbers : List ℤ) : Type 0 where
  pub below : field < k.bound
  pub kind : k.num field ≡ true
  pub values : AreValues int_cmp numbers
  pub fit : All (FitsSigned w64) numbers

pub record AreKeywords (k : Kinds) (field : ℕ) (values : List (List ℕ)) : Type 0 where
  pub below : field < k.bound
  pub kind : k.key field ≡ true
  pub are : AreValues bytes_order values
  pub short : AllByRecursion (λ (bytes : List ℕ). length bytes ≤ 32766) values

pub record IsWordOf (k : Kinds) (texts : List ℕ) (term : ℕ × List ℕ) (places : List ℕ) : Type 0 where
  pub below : term.0 < k.bound
  pub kind : k.word term.0 ≡ true
  pub short : length term.1 ≤ 32766
  pub some : 0 < length places
  pub positions : AreAscending places
  pub valued : Contains texts term.0

pub record IsTextOf (k : Kinds) (field : ℕ) : Type 0 where
  pub below : field < k.bound
  pub kind : k.word field ≡ true

pub record IsWritten (k : Kinds) (flat : FlatDocument) : Type 0 where
  pub numbers : AllByRecursion (λ (entry : ℕ × List ℤ). AreNumbers k entry.0 entry.1) flat.numbers
  pub keywords : AllByRecursion (λ (entry : ℕ × List (List ℕ)). AreKeywords k entry.0 entry.1) flat.keywords
  pub words : AllByRecursion (λ (word : (ℕ × List ℕ) × List ℕ). IsWordOf k flat.texts word.0 word.1) flat.words
  pub texts : AllByRecursion (IsTextOf k) flat.texts
  pub numbers_up : IsStrictlySortedBy nat_cmp (keys flat.numbers)
  pub keywords_up : IsStrictlySortedBy nat_cmp (keys flat.keywords)
  pub words_up : IsStrictlySortedBy term_cmp (keys flat.words)
  pub texts_up : IsStrictlySortedBy nat_cmp flat.texts

-- ---- from the order and the size of a document, and the kinds of its fields

pub record AreOfKind (k : Kinds) (flat : FlatDocument) : Type 0 where
  pub numbers : All (λ (entry : ℕ × List ℤ). IsTextOf (record { bound = k.bound; num = k.num; key = k.key; word = k.num }) entry.0) flat.numbers
  pub keywords : All (λ (entry : ℕ × List (List ℕ)). IsTextOf (record { bound = k.bound; num = k.num; key = k.key; word = k.key }) entry.0) flat.keywords
  pub words : All (λ (word : (ℕ × List ℕ) × List ℕ). IsTextOf k word.0.0) flat.words
  pub texts : All (IsTextOf k) flat.texts

pub written : (k : Kinds) (flat : FlatDocument) → IsOrdered flat → IsSmall flat → IsFit flat → AreOfKind k flat → IsWritten k flat
written k flat ordered small fit kind = record {
  numbers = each_by (λ (entry : ℕ × List ℤ). AreNumbers k entry.0 entry.1) flat.numbers (λ i d h. record {
    below = (kind.numbers i d h).below;
    kind = (kind.numbers i d h).kind;
    values = record { some = ltb-true 0 (length (get_or flat.numbers i d).1) (ordered.numbers.some i d h); fewer = small.numbers i d h; ascending = ordered.numbers_rise i d h };
    fit = fit.numbers i d h;
  });
  keywords = each_by (λ (entry : ℕ × List (List ℕ)). AreKeywords k entry.0 entry.1) flat.keywords (λ i d h. record {
    below = (kind.keywords i d h).below;
    kind = (kind.keywords i d h).kind;
    are = record { some = ltb-true 0 (length (get_or flat.keywords i d).1) (ordered.keywords.some i d h); fewer = (small.keywords i d h).0; ascending = ordered.keywords_rise i d h };
    short = each_by (λ (bytes : List ℕ). length bytes ≤ 32766) (get_or flat.keywords i d).1 (small.keywords i d h).1;
  });
  words = each_by (λ (word : (ℕ × List ℕ) × List ℕ). IsWordOf k flat.texts word.0 word.1) flat.words (λ i d h. record {
    below = (kind.words i d h).below;
    kind = (kind.words i d h).kind;
    short = (small.words i d h).0;
    some = ltb-true 0 (length (get_or flat.words i d).1) (ordered.words.some i d h);
    positions = record { fewer = (small.words i d h).1; ascending = ordered.positions_rise i d h; fit = fit.positions i d h };
    valued = ordered.valued i d h;
  });
  texts = each_by (IsTextOf k) flat.texts kind.texts;
  numbers_up = ordered.numbers.ascending;
  keywords_up = ordered.keywords.ascending;
  words_up = ordered.words.ascending;
  texts_up = ordered.texts;
}
