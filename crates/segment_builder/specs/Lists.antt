-- Lists of what documents carry, by field.
use denote.Ref.{Bor}
use Rattle.std.specs.Prelude.{◌≡◌, ℕ, ℤ, Bool, true, false, List, Vec}
use Rattle.std.specs.List.{AllByRecursion}
use Rattle.flattener.specs.declared.document.KeywordField.{KeywordField}
use Rattle.flattener.specs.declared.document.NumberField.{NumberField}
use Rattle.flattener.specs.declared.document.Word.{Word}
use Rattle.segment_builder.specs.Entries.{EntriesState}
use Rattle.segment_builder.specs.Members.{by_field, keyword_member, number_member, text_member, word_member, AreGathered}
use Rattle.segment_builder.specs.declared.entries.Lists.{Lists}

-- lists of what these entries are
pub record AreLists (it : EntriesState) (lists : Lists) : Type 0 where
  pub scopes : lists.scopes.items ≡ it.scopes
  pub numbers : AreGathered number_member it.numbers lists.numbers.items
  pub keywords : AreGathered keyword_member it.keywords lists.keywords.items
  pub words : AreGathered word_member (by_field it.words) lists.words.items
  pub texts : AreGathered text_member it.texts lists.texts.items

-- those of them that have terms
pub record AreFieldLists {A : Type 0} (it : EntriesState) (words : List (ℕ × Vec (Bor Word × ℕ) A)) (keywords : List (ℕ × Vec (ℕ × Bor KeywordField) A)) (numbers : List (ℕ × Vec (ℕ × Bor NumberField) A)) : Type 0 where
  pub words_are : AreGathered word_member (by_field it.words) words
  pub keywords_are : AreGathered keyword_member it.keywords keywords
  pub numbers_are : AreGathered number_member it.numbers numbers

-- no field has two of words, keywords and numbers
pub record AreFieldsApart (it : EntriesState) : Type 0 where
  pub is_word : ℕ → Bool
  pub is_keyword : ℕ → Bool
  pub is_number : ℕ → Bool
  pub words_are : AllByRecursion (λ (entry : (ℕ × List ℕ) × (ℕ × List ℕ)). is_word entry.0.0 ≡ true) it.words
  pub keywords_are : AllByRecursion (λ (entry : ℕ × (ℕ × List (List ℕ))). is_keyword entry.0 ≡ true) it.keywords
  pub numbers_are : AllByRecursion (λ (entry : ℕ × (ℕ × List ℤ)). is_number entry.0 ≡ true) it.numbers
  pub words_alone : (field : ℕ) → is_word field ≡ true → (is_keyword field ≡ false) × (is_number field ≡ false)
  pub keywords_alone : (field : ℕ) → is_keyword field ≡ true → is_number field ≡ false
