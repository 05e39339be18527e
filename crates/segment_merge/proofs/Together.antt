-- The parts of a merged segment's text together: what its columns are.
use Rattle.std.proofs.Common.{◌≡◌, ℕ, ℤ, ◌+◌, ◌<◌, Bool, List, [], ◌∷◌, ◌++◌, length, map, Option, refl, sym, ap, subst, ◌∙◌, append_assoc, arith}
use Rattle.std.specs.List.{flat_map}
use Rattle.std.specs.Ordering.{nat_cmp}
use Rattle.flattener.specs.Block.{BlockState}
use Rattle.segment.specs.Live.{EntryState}
use Rattle.segment_builder.specs.Columns.{column_terms, terms_in}
use Rattle.segment_builder.specs.Made.{marked_groups}
use Rattle.segment_builder.specs.Terms.{row_group}
use Rattle.segment_parts.specs.Text.{head_text, rows_part, ordinals_text, numbers_text, present_text, segment_text}
use Rattle.segment_parts.specs.Whole.{all_written}
use Rattle.segment_parts.specs.declared.columns.Columns.{Columns}
use Rattle.stored_sources.specs.Text.{roots_text}
use Rattle.stored_sources.specs.declared.root.Root.{Root}
use Rattle.term_table.specs.Part.{rows_text}
use Rattle.term_table.specs.Terms.{term_cmp}
use Rattle.term_table.specs.declared.rows.TermRow.{TermRow}
use Rattle.segment_merge.specs.Merged.{kept_keywords, kept_numbers, kept_terms, kept_texts, live_count, live_count_of, live_roots, live_roots_in, live_scopes, live_scopes_in, IsGathered, IsMerged}
use Rattle.segment_merge.specs.Numbering.{PartState, parts_from}
use Rattle.segment_merge.specs.Pieces.{from_parts, part_keywords, part_numbers, part_texts}
use Rattle.segment_merge.specs.Scoped.{AreScopesOf, roots_in, scopes_in}
use Rattle.segment_merge.proofs.Numbered.{from_each_parts}
use Rattle.segment_merge.proofs.Refs.{kept_of}

scopes_same : (base : ℕ) (entries : List EntryState) → scopes_in (parts_from base entries) ≡ live_scopes entries
scopes_same base [] = refl
scopes_same base (entry ∷ entries) = ap (λ (rest : List ℕ). live_scopes_in entry ++ rest) (scopes_same (base + live_count entry) entries)

pub roots_same : (base : ℕ) (entries : List EntryState) → roots_in (parts_from base entries) ≡ live_roots entries
roots_same base [] = refl
roots_same base (entry ∷ entries) = ap (λ (rest : List Root). live_roots_in entry ++ rest) (roots_same (base + live_count entry) entries)

-- the columns
abbrev pub columns_with : List EntryState → List (List Bool) → List TermRow → List (ℕ × List (ℕ × List ℕ)) → List (ℕ × List (ℕ × List ℤ)) → List (ℕ × List ℕ) → Columns
columns_with entries scopes rows ordinals numbers texts = record {
  documents = live_count_of entries;
  scopes = scopes;
  roots = live_roots entries;
  terms = rows;
  ordinals = ordinals;
  numbers = numbers;
  present = marked_groups (live_count_of entries) texts;
}

-- what was written of parts
pub record ArePut (parts : List PartState) (scopes : List (List Bool)) (rows : List TermRow) (ordinals : List (ℕ × List (ℕ × List ℕ))) (numbers : List (ℕ × List (ℕ × List ℤ))) (texts : List (ℕ × List ℕ)) : Type 0 where
  pub scopes_are : AreScopesOf (scopes_in parts) scopes
  pub rows_are : IsGathered term_cmp (flat_map kept_of parts) (map row_group rows)
  pub ordinals_are : IsGathered nat_cmp (from_parts part_keywords parts) (map (column_terms (terms_in rows)) ordinals)
  pub numbers_are : IsGathered nat_cmp (from_parts part_numbers parts) numbers
  pub texts_are : IsGathered nat_cmp (from_parts part_texts parts) texts

pub are_merged : (entries : List EntryState) (scopes : List (List Bool)) (rows : List TermRow) (ordinals : List (ℕ × List (ℕ × List ℕ))) (numbers : List (ℕ × List (ℕ × List ℤ))) (texts : List (ℕ × List ℕ))
    → ArePut (parts_from 0 entries) scopes rows ordinals numbers texts → IsMerged entries (columns_with entries scopes rows ordinals numbers texts)
are_merged entries scopes rows ordinals numbers texts put =
    let scoped : AreScopesOf (live_scopes entries) scopes = subst (λ (own : List ℕ). AreScopesOf own scopes) (scopes_same 0 entries) put.scopes_are in
    record {
      documents = refl;
      scopes = scoped.are;
      within = scoped.within;
      greatest = scoped.greatest;
      roots = refl;
      terms = subst (λ (own : List ((ℕ × List ℕ) × List (ℕ × List ℕ))). IsGathered term_cmp own (map row_group rows)) (sym (from_each_parts kept_terms 0 entries)) put.rows_are;
      numbers = subst (λ (own : List (ℕ × List (ℕ × List ℤ))). IsGathered nat_cmp own numbers) (sym (from_each_parts kept_numbers 0 entries)) put.numbers_are;
      ordinals = subst (λ (own : List (ℕ × List (ℕ × List (Option (ℕ × List ℕ))))). IsGathered nat_cmp own (map (column_terms (terms_in rows)) ordinals)) (sym (from_each_parts kept_keywords 0 entries)) put.ordinals_are;
      texts = texts;
      text_groups = subst (λ (own : List (ℕ × List ℕ)). IsGathered nat_cmp own texts) (sym (from_each_parts kept_texts 0 entries)) put.texts_are;
      present = refl;
    }

-- the text, part behind part
pub all_put : (columns : Columns) (none one two three four five six : List ℕ) → none ≡ [] → one ≡ none ++ head_text columns.documents columns.scopes → two ≡ one ++ roots_text columns.roots → three ≡ two ++ rows_text columns.terms
    → four ≡ three ++ ordinals_text columns.ordinals → five ≡ four ++ numbers_text columns.numbers → six ≡ five ++ present_text columns.present → six ≡ segment_text columns
unfolding rows_part
all_put columns none one two three four five six start head roots rows ordinals numbers present =
    let behind : three ≡ one ++ rows_part columns = rows ∙ ap (λ (front : List ℕ). front ++ rows_text columns.terms) roots ∙ append_assoc one (roots_text columns.roots) (rows_text columns.terms) in
    all_written columns none one three four five six start head behind ordinals numbers present

-- ---- whether some block is live

pub none_live : (blocks : List BlockState) (roots live : List Root) → length blocks ≡ length live → roots ≡ live → (0 < length roots → ⊥) → blocks ≡ []
none_live [] roots live counted same none = refl
none_live (block ∷ blocks) roots live counted same none = absurd (none (omega (arith, counted, ap (λ (rs : List Root). length rs) same)))
