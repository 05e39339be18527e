-- What documents carry, by field: the members of groups, and what groups carry at a field.
use denote.Ref.{Bor}
use Rattle.std.specs.Prelude.{◌≡◌, ℕ, ℤ, List, ◌++◌, map, Vec}
use Rattle.std.specs.Ordering.{nat_cmp}
use Rattle.flattener.specs.declared.document.KeywordField.{KeywordField}
use Rattle.flattener.specs.declared.document.NumberField.{NumberField}
use Rattle.flattener.specs.declared.document.Word.{Word}
use Rattle.segment_builder.specs.Entries.{bytes_lent}
use Rattle.segment_builder.specs.Groups.{groups_seen, in_groups, of_key, AreOrdered}

abbrev pub number_member : ℕ × Bor NumberField → ℕ × List ℤ
number_member row = (row.0, row.1.now.values.items)

abbrev pub keyword_member : ℕ × Bor KeywordField → ℕ × List (List ℕ)
keyword_member row = (row.0, bytes_lent row.1.now.values.items)

-- the bytes of a word, its document, and the positions in it
abbrev pub word_member : Bor Word × ℕ → List ℕ × (ℕ × List ℕ)
word_member entry = (entry.0.now.word.items, (entry.1, entry.0.now.positions.items))

abbrev pub text_member : ℕ → ℕ
text_member doc = doc

-- terms by their fields
abbrev pub by_field : List ((ℕ × List ℕ) × (ℕ × List ℕ)) → List (ℕ × (List ℕ × (ℕ × List ℕ)))
by_field terms = map (λ (term : (ℕ × List ℕ) × (ℕ × List ℕ)). (term.0.0, (term.0.1, term.1))) terms

-- what groups carry at a field, each member as it is seen
abbrev pub carried : {E F A : Type 0} → (E → F) → List (ℕ × Vec E A) → ℕ → List F
carried {E} {F} {A} seen groups field = map seen (in_groups nat_cmp field (groups_seen groups))

-- groups carry what others do and, behind it, what these entries do
abbrev pub AreAdded : {E F A : Type 0} → (E → F) → List (ℕ × F) → List (ℕ × Vec E A) → List (ℕ × Vec E A) → Type 0
AreAdded {E} {F} {A} seen entries old new = (field : ℕ) → carried seen new field ≡ carried seen old field ++ of_key nat_cmp field entries

-- groups in order that carry what these entries do
pub record AreGathered {E F A : Type 0} (seen : E → F) (entries : List (ℕ × F)) (groups : List (ℕ × Vec E A)) : Type 0 where
  pub carry : (field : ℕ) → carried seen groups field ≡ of_key nat_cmp field entries
  pub ordered : AreOrdered nat_cmp (groups_seen groups)
