-- The roots and the terms of a segment, read in place.
use Rattle.std.proofs.Common.{◌≡◌, ℕ, ◌+◌, ◌-◌, ◌≤◌, List, [], ◌∷◌, ◌++◌, length, get_or, drop, Option, Some, None, refl, sym, ap, subst, ◌∙◌, append_assoc, arith}
use Rattle.std.specs.Prelude.{slice_index}
use Rattle.std.specs.List.{flat_map}
use Rattle.std.proofs.lemmas.List.{length-append, length-drop}
use Rattle.std.proofs.lemmas.Option.{same_Some}
use Rattle.part_text.specs.Text.{u64_text}
use Rattle.part_text.specs.Reads.{reads_once, length-u64_text}
use Rattle.part_text.specs.Places.{places_from}
use Rattle.part_text.specs.Placed.{length-places_from}
use Rattle.stored_sources.specs.declared.root.Root.{Root}
use Rattle.stored_sources.specs.Text.{root_text, roots_text}
use Rattle.stored_sources.specs.Stands.{AreRoots, Belong, Stands}
use Rattle.stored_sources.specs.Reading.{roots_at, roots_again}
use Rattle.term_table.specs.declared.rows.TermRow.{TermRow}
use Rattle.term_table.specs.Part.{row_text, rows_text, AreRows, Stand}
use Rattle.term_table.specs.Reading.{rows_at}
use Rattle.term_table.specs.Laws.{rows_reads}

abbrev pub roots_read : Option (List Root × List ℕ) → List Root
roots_read None = []
roots_read (Some read) = read.0

-- the roots that stand at these places
unfoldable pub roots_in : List ℕ → List ℕ → List Root
roots_in bytes places = roots_read (roots_at (length places - 1) (drop (slice_index places 0) bytes))

abbrev pub rows_read : Option (List TermRow × List ℕ) → List TermRow
rows_read None = []
rows_read (Some read) = read.0

-- the terms that stand at these places, their number in front of them
unfoldable pub terms_in : List ℕ → List ℕ → List TermRow
terms_in bytes places = rows_read (rows_at (drop (slice_index places 0 - 8) bytes))

-- the places of terms that stand in the bytes
pub record AreTermsKept (bytes places : List ℕ) : Type 0 where
  pub at : ℕ
  pub end : ℕ
  pub stand : Stand bytes at (terms_in bytes places) places end

-- so many roots, and terms with their postings behind them, from the place `at` up to the place `end`
pub record AreRowsAt (bytes : List ℕ) (at count : ℕ) (roots terms : List ℕ) (end : ℕ) : Type 0 where
  pub many : length (roots_in bytes roots) ≡ count
  pub roots_are : AreRoots (roots_in bytes roots)
  pub roots_kept : Belong bytes roots (roots_in bytes roots)
  pub terms_are : AreRows (terms_in bytes terms)
  pub terms_kept : AreTermsKept bytes terms
  pub there : drop at bytes ≡ (roots_text (roots_in bytes roots) ++ rows_text (terms_in bytes terms)) ++ drop end bytes
  pub within : end ≤ length bytes

-- none stand there
abbrev pub NoRows : List ℕ → ℕ → Type 0
NoRows bytes count = (roots : List Root) (rows : List TermRow) (rest : List ℕ) → length roots ≡ count → AreRoots roots → AreRows rows → bytes ≡ (roots_text roots ++ rows_text rows) ++ rest → ⊥

first_place : {X : Type 0} (text : X → List ℕ) (place : ℕ) (items : List X) → get_or (places_from text place items) 0 0 ≡ place
first_place text place [] = refl
first_place text place (item ∷ items) = refl

-- what stands at a place is what stands behind its places
roots_stand : (bytes : List ℕ) (at : ℕ) (roots : List Root) (places : List ℕ) (end : ℕ) → Stands bytes at roots places end → roots_in bytes places ≡ roots
unfolding roots_in
roots_stand bytes at roots places end stands =
    let first : slice_index places 0 ≡ at = ap (λ ps. get_or ps 0 0) stands.placed ∙ first_place root_text at roots in
    let many : length places - 1 ≡ length roots = omega (arith, ap length stands.placed, length-places_from root_text at roots) in
    ap (λ n. roots_read (roots_at n (drop (slice_index places 0) bytes))) many
    ∙ ap (λ place. roots_read (roots_at (length roots) (drop place bytes))) first
    ∙ ap (λ own. roots_read (roots_at (length roots) own)) stands.there
    ∙ ap roots_read (roots_again roots (drop end bytes) stands.are.each)

terms_stand : (bytes : List ℕ) (at : ℕ) (rows : List TermRow) (places : List ℕ) (end : ℕ) → Stand bytes at rows places end → terms_in bytes places ≡ rows
unfolding terms_in
terms_stand bytes at rows places end stand =
    let first : slice_index places 0 ≡ at + 8 = ap (λ ps. get_or ps 0 0) stand.placed ∙ first_place row_text (at + 8) rows in
    let start : slice_index places 0 - 8 ≡ at = omega (arith, first) in
    ap (λ place. rows_read (rows_at (drop place bytes))) start
    ∙ ap (λ own. rows_read (rows_at own)) stand.text
    ∙ ap rows_read (rows_reads.again tt rows (drop end bytes) stand.are)

pub terms_end_within : (bytes : List ℕ) (at : ℕ) (rows : List TermRow) (places : List ℕ) (end : ℕ) → Stand bytes at rows places end → end ≤ length bytes
terms_end_within bytes at rows places end stand =
    let long : length bytes - at ≡ length (rows_text rows) + (length bytes - end) = sym (length-drop at bytes) ∙ ap length stand.text ∙ length-append (rows_text rows) (drop end bytes) ∙ ap (λ n. length (rows_text rows) + n) (length-drop end bytes) in
    let some : length (rows_text rows) ≡ 8 + length (flat_map row_text rows) = length-append (u64_text (length rows)) (flat_map row_text rows) ∙ ap (λ n. n + length (flat_map row_text rows)) (length-u64_text (length rows)) in
    omega (arith, long, some, stand.ends)

pub rows_taken : (bytes : List ℕ) (at count : ℕ) (roots : List Root) (places : List ℕ) (middle : ℕ) (rows : List TermRow) (terms : List ℕ) (end : ℕ) → length roots ≡ count → Stands bytes at roots places middle → Stand bytes middle rows terms end → AreRowsAt bytes at count places terms end
rows_taken bytes at count roots places middle rows terms end many stands stand =
    let own = roots_stand bytes at roots places middle stands in
    let behind = terms_stand bytes middle rows terms end stand in
    let parts : drop at bytes ≡ (roots_text roots ++ rows_text rows) ++ drop end bytes = stands.there ∙ ap (λ rest. roots_text roots ++ rest) stand.text ∙ sym (append_assoc (roots_text roots) (rows_text rows) (drop end bytes)) in
    record {
      many = ap length own ∙ many;
      roots_are = subst AreRoots (sym own) stands.are;
      roots_kept = subst (Belong bytes places) (sym own) (record { at = at; end = middle; stands = stands });
      terms_are = subst AreRows (sym behind) stand.are;
      terms_kept = record { at = middle; end = end; stand = subst (λ rs. Stand bytes middle rs terms end) (sym behind) stand };
      there = parts ∙ ap (λ rs. (roots_text rs ++ rows_text rows) ++ drop end bytes) (sym own) ∙ ap (λ rs. (roots_text (roots_in bytes places) ++ rows_text rs) ++ drop end bytes) (sym behind);
      within = terms_end_within bytes middle rows terms end stand;
    }

pub rows_no_roots : (bytes : List ℕ) (at count : ℕ) → at ≤ length bytes → ((own : List Root) (rest : List ℕ) → at ≤ length bytes → length own ≡ count → AreRoots own → drop at bytes ≡ roots_text own ++ rest → ⊥) → NoRows (drop at bytes) count
rows_no_roots bytes at count inside never roots rows rest many are rows_are parts = never roots (rows_text rows ++ rest) inside many are (parts ∙ append_assoc (roots_text roots) (rows_text rows) rest)

-- the roots stand at the front of bytes in one way at most
pub roots_once : (roots others : List Root) (rest more : List ℕ) → length roots ≡ length others → AreRoots roots → AreRoots others → roots_text roots ++ rest ≡ roots_text others ++ more → (roots ≡ others) × (rest ≡ more)
roots_once roots others rest more many are other same =
    let read : Some (roots, rest) ≡ Some (others, more) = sym (roots_again roots rest are.each) ∙ ap (roots_at (length roots)) same ∙ ap (λ n. roots_at n (roots_text others ++ more)) many ∙ roots_again others more other.each in
    let pair = same_Some (roots, rest) (others, more) read in
    (ap (λ (p : List Root × List ℕ). p.0) pair, ap (λ (p : List Root × List ℕ). p.1) pair)

pub terms_once : (rows others : List TermRow) (rest more : List ℕ) → AreRows rows → AreRows others → rows_text rows ++ rest ≡ rows_text others ++ more → (rows ≡ others) × (rest ≡ more)
terms_once = reads_once {B = Unit {0}} rows_text (λ _ rows. AreRows rows) (λ _. rows_at) rows_reads tt

pub rows_no_terms : (bytes : List ℕ) (at count : ℕ) (roots : List Root) (places : List ℕ) (middle : ℕ) → length roots ≡ count → Stands bytes at roots places middle → ((rows : List TermRow) (rest : List ℕ) → AreRows rows → drop middle bytes ≡ rows_text rows ++ rest → ⊥) → NoRows (drop at bytes) count
rows_no_terms bytes at count roots places middle many stands never own rows rest own_many are rows_are parts =
    let same = roots_once roots own (drop middle bytes) (rows_text rows ++ rest) (many ∙ sym own_many) stands.are are (sym stands.there ∙ parts ∙ append_assoc (roots_text own) (rows_text rows) rest) in
    never rows rest rows_are same.1

-- both together, too
pub rows_once : (roots others : List Root) (rows terms : List TermRow) (rest more : List ℕ) → length roots ≡ length others → AreRoots roots → AreRoots others → AreRows rows → AreRows terms → (roots_text roots ++ rows_text rows) ++ rest ≡ (roots_text others ++ rows_text terms) ++ more → (roots ≡ others) × (rows ≡ terms) × (rest ≡ more)
rows_once roots others rows terms rest more many are other rows_are terms_are same =
    let first = roots_once roots others (rows_text rows ++ rest) (rows_text terms ++ more) many are other (sym (append_assoc (roots_text roots) (rows_text rows) rest) ∙ same ∙ append_assoc (roots_text others) (rows_text terms) more) in
    let second = terms_once rows terms rest more rows_are terms_are first.1 in
    (first.0, second.0, second.1)
