-- What is given row by row.
use Rattle.std.proofs.Common.{◌≡◌, ℕ, zero, suc, ◌+◌, ◌<◌, ◌≤◌, nat_le, false, List, [], ◌∷◌, ◌++◌, length, get_or, slice_get, take, drop, Option, Some, None, IfSome, refl, sym, ap, subst, ◌∙◌, arith}
use Rattle.std.specs.List.{cons_option, filter_map, sum_by}
use Rattle.std.specs.Option.{option_map}
use Rattle.std.proofs.lemmas.Bool.Decides.{nat_tests}
use Rattle.std.proofs.lemmas.List.{append-nil, take-append-drop, take_more}
use Rattle.std.proofs.lemmas.List.Elements.{filter_map-append}
use Rattle.std.proofs.lemmas.List.Sums.{sum_by-append, sum_by-take-drop}
use Rattle.flattener.specs.StandsFor.{Marked}
use Rattle.mapping.specs.Mapping.{Mapping}
use Rattle.nested_sort.specs.Listed.{IsHitAt}
use Rattle.query_ast.specs.InnerHits.{source_of}
use Rattle.query_ast.specs.Pages.{pages_of}
use Rattle.query_ast.specs.declared.hit.Hit.{Hit}
use Rattle.query_ast.specs.declared.search.SearchBody.{SearchBody}
use Rattle.query_ast.specs.declared.sort.KeyRow.{KeyRow}
use Rattle.reply_text.specs.Weight.{hit_weight, pages_weight, whole_weight}
use Rattle.segment.specs.Live.{EntryState}
use Rattle.tree_objects.specs.Tree.{Tree}
use Rattle.search_page.specs.Hits.{AreRootRows, bare_of, hit_at, row_object, row_pages, shown_at, shown_of, weight_or_zero}

module _ {A B : Type 0} (f : A → Option B) (xs : List A) (i : ℕ) (x : A) (low : i < length xs) (is : x ≡ get_or xs i x) where
  -- of one element more
  one_more : (o : Option B) → f x ≡ o → filter_map f (take (i + 1) xs) ≡ filter_map f (take i xs) ++ cons_option o []
  one_more o gives =
      ap (filter_map f) (take_more xs i x low)
      ∙ filter_map-append f (take i xs) (get_or xs i x ∷ [])
      ∙ ap (λ (y : A). filter_map f (take i xs) ++ cons_option (f y) []) (sym is)
      ∙ ap (λ (y : Option B). filter_map f (take i xs) ++ cons_option y []) gives

  pub more_some : (had now : List B) (y : B) → had ≡ filter_map f (take i xs) → f x ≡ Some y → now ≡ had ++ y ∷ [] → now ≡ filter_map f (take (i + 1) xs)
  more_some had now y so gives pushed = pushed ∙ ap (λ (l : List B). l ++ y ∷ []) so ∙ sym (one_more (Some y) gives)

  pub more_none : (had now : List B) → had ≡ filter_map f (take i xs) → f x ≡ None → now ≡ had → now ≡ filter_map f (take (i + 1) xs)
  more_none had now so gives same = same ∙ so ∙ sym (one_more None gives ∙ append-nil (filter_map f (take i xs)))

-- the hits before and that of one more row weigh no more than all
module _ (f : KeyRow → Option Hit) (rows : List KeyRow) (i : ℕ) (row : KeyRow) (low : i < length rows) (is : row ≡ get_or rows i row) where
  pub row_passes : (had : List Hit) (room : ℕ) → had ≡ filter_map f (take i rows) → room < weight_or_zero (f row) → room + sum_by whole_weight had < sum_by whole_weight (filter_map f rows)
  row_passes had room so less =
      let rest = filter_map f (drop (i + 1) rows) in
      omega (
        arith,
        less,
        own (f row),
        ap (sum_by whole_weight) so,
        ap (sum_by whole_weight) (one_more f rows i row low is (f row) refl),
        sum_by-append whole_weight (filter_map f (take i rows)) (cons_option (f row) []),
        sum_by-append whole_weight (filter_map f (take (i + 1) rows)) rest,
        ap (sum_by whole_weight) (sym (filter_map-append f (take (i + 1) rows) (drop (i + 1) rows)) ∙ ap (filter_map f) (take-append-drop (i + 1) rows)),
      )
    where
      own : (o : Option Hit) → sum_by whole_weight (cons_option o []) ≡ weight_or_zero o
      own None = refl
      own (Some hit) = omega arith

-- one more row costs what it may cost
pub reads_more : {A : Type 0} (cost : A → ℕ) (xs : List A) (i : ℕ) (x : A) → i < length xs → x ≡ get_or xs i x → (first before after : ℕ) → before ≤ first + sum_by cost (take i xs) → after ≤ before + cost x → after ≤ first + sum_by cost (take (i + 1) xs)
reads_more {A} cost xs i x low is first before after so more =
    let all : sum_by cost (take (i + 1) xs) ≡ sum_by cost (take i xs) + cost x =
    ap (sum_by cost) (take_more xs i x low) ∙ sum_by-append cost (take i xs) (get_or xs i x ∷ []) ∙ (let own : cost (get_or xs i x) ≡ cost x = ap cost (sym is) in omega (arith, own)) in
    omega (arith, all, so, more)

-- and no more rows are counted than there are
pub reads_within : {A : Type 0} (cost : A → ℕ) (xs : List A) (i : ℕ) → sum_by cost (take i xs) ≤ sum_by cost xs
reads_within cost xs i = omega (arith, sum_by-take-drop cost xs i)

pub sum_first : {A : Type 0} (cost : A → ℕ) (x : A) (xs : List A) → sum_by cost (x ∷ xs) ≡ cost x + sum_by cost xs
sum_first cost x xs =
    let all : sum_by cost (x ∷ xs) ≡ sum_by cost (x ∷ []) + sum_by cost xs = sum_by-append cost (x ∷ []) xs in
    let one : sum_by cost (x ∷ []) ≡ cost x = omega arith in
    omega (arith, all, one)

module _ (m : Mapping) (trees : List (List (Marked Tree))) where
  pub row_within : (rows : List KeyRow) (i : ℕ) (row : KeyRow) → AreRootRows m trees rows → i < length rows → row ≡ get_or rows i row → IsHitAt m 0 trees row.place row.doc
  row_within [] i row are low is = absurd (omega (arith, low))
  row_within (r ∷ rows) zero row are low is = subst (λ (r : KeyRow). IsHitAt m 0 trees r.place r.doc) (sym is) are.0
  row_within (r ∷ rows) (suc i) row are low is = row_within rows i row are.1 (omega (arith, low)) is

  -- what a row that is shown weighs
  pub row_weighs : (view : List EntryState) (found : List (List (Option ℕ))) (body : SearchBody) (row : KeyRow) (entry : EntryState) → slice_get view row.place ≡ Some entry → row.doc < entry.columns.documents
      → weight_or_zero (shown_at m view found trees body row) ≡ hit_weight (source_of body.source (row_object m trees row)) + pages_weight (pages_of (row_pages m trees body row))
  unfolding shown_at hit_at
  row_weighs view found body row entry is low = let there : nat_le entry.columns.documents row.doc ≡ false = grind (arith, nat_tests, low) in rw (is, there) refl

  -- what is stored of a row's root, with what is shown of it
  pub whole : (view : List EntryState) (found : List (List (Option ℕ))) (body : SearchBody) (row : KeyRow) (hit : Option Hit) → option_map bare_of hit ≡ hit_at view found row
      → IfSome hit (λ (it : Hit). (it.source ≡ source_of body.source (row_object m trees row)) × (it.inner ≡ row_pages m trees body row)) → hit ≡ shown_at m view found trees body row
  unfolding shown_at
  whole view found body row None is are = ap (option_map (shown_of m trees body row)) is
  whole view found body row (Some it) is are = (λ i. Some (record it { source = are.0 i; inner = are.1 i })) ∙ ap (option_map (shown_of m trees body row)) is
