-- How many documents of a scope hits lead to, and how many objects these stand for.
use Rattle.std.proofs.Common.{◌≡◌, ℕ, zero, suc, ◌+◌, ◌<◌, ◌≤◌, ◌==◌, Bool, true, false, ◌||◌, cond, List, [], ◌∷◌, ◌++◌, length, map, drop, get_or, count_by, Option, Some, None, is_some, refl, sym, ap, ap₂, ◌∙◌, inl, inr, arith}
use Rattle.std.specs.List.{zip}
use Rattle.std.specs.Option.{option_to_list}
use Rattle.std.proofs.lemmas.Bool.{cases_Bool}
use Rattle.std.proofs.lemmas.List.{length-map}
use Rattle.std.proofs.lemmas.List.Sums.{sum_by-cons}
use Rattle.block_bits.specs.Blocks.{documents_of}
use Rattle.block_bits.specs.Flags.{is_marked}
use Rattle.block_join.specs.Joins.{joined}
use Rattle.block_join.specs.Kept.{reached}
use Rattle.flattener.specs.StandsFor.{Marked, ViewStandsFor}
use Rattle.mapping.specs.IsMapping.{IsMapping}
use Rattle.mapping.specs.Mapping.{Mapping, IsAbove}
use Rattle.score_math.specs.Scores.{mode_of}
use Rattle.score_math.specs.declared.score.ScoreMode.TheVariants.{Max}
use Rattle.segment.specs.Live.{EntryState}
use Rattle.segment_parts.specs.declared.columns.Columns.{Columns}
use Rattle.tree_joins.specs.Seen.{at_scope, gathered, scopes_of, seen}
use Rattle.tree_objects.specs.Object.{Object}
use Rattle.tree_objects.specs.Tree.{Tree}
use Rattle.query_eval.specs.Counted.{IsCount, hit_count, up_marks, up_total}
use Rattle.query_eval.specs.Folds.{scopes_in}
use Rattle.query_eval.specs.Found.{AreLong, IsSeen, live_trees}
use Rattle.query_eval.specs.Nested.{below_by}
use Rattle.query_eval.proofs.Entries.{Scores, Trees}
use Rattle.query_eval.proofs.Scopes.{scopes_are, scopes_long}
use Rattle.query_eval.proofs.Tallied.{own_count}

-- ---- the documents that hits lead to are those that get a score

abbrev some_told : List ℕ → Bool
some_told [] = false
some_told (s ∷ since) = true

told_answers : (since : List ℕ) → is_some (mode_of Max since) ≡ some_told since
told_answers [] = refl
told_answers (s ∷ since) = refl

told_more : (since : List ℕ) (score : Option ℕ) → some_told (since ++ option_to_list score) ≡ (is_some score || some_told since)
told_more [] None = refl
told_more [] (Some s) = refl
told_more (x ∷ since) None = refl
told_more (x ∷ since) (Some s) = refl

joined_marks : (to : ℕ) (since scopes : List ℕ) (scores : Scores) → map is_some (joined (mode_of Max) None to since (zip scopes (map option_to_list scores))) ≡ reached (some_told since) (documents_of scopes to) (map is_some scores)
joined_marks to since [] scores = refl
joined_marks to since (scope ∷ scopes) [] = refl
joined_marks to since (scope ∷ scopes) (score ∷ scores) = elim (cases_Bool (scope == to)) [
  | inl here ↦ rw here (ap₂ (λ (b : Bool) (l : List Bool). b ∷ l) (told_answers since) (joined_marks to [] scopes scores))
  | inr other ↦
      rw other
      (ap (λ (l : List Bool). false ∷ l)
      (joined_marks to (since ++ option_to_list score) scopes scores
      ∙ ap (λ (some : Bool). reached some (documents_of scopes to) (map is_some scores)) (told_more since score)))
]

-- ---- all entries

abbrev ups_in : ℕ → Columns → Scores → Scores
ups_in to columns scores = joined (mode_of Max) None to [] (zip (scopes_in columns) (map option_to_list scores))

abbrev ups_of : ℕ → List EntryState → List Scores → List Scores
ups_of to [] hits = []
ups_of to (e ∷ view) [] = []
ups_of to (e ∷ view) (own ∷ hits) = ups_in to e.columns own ∷ ups_of to view hits

joined_long : {A B : Type 0} (answer : List A → B) (other : B) (to : ℕ) (since : List A) (docs : List (ℕ × List A)) → length (joined answer other to since docs) ≡ length docs
joined_long {A} {B} answer other to since [] = refl
joined_long {A} {B} answer other to since (doc ∷ docs) = ap suc (joined_long answer other to (cond (doc.0 == to) [] (since ++ doc.1)) docs)

zip_long : {A B : Type 0} (xs : List A) (ys : List B) → length ys ≡ length xs → length (zip xs ys) ≡ length xs
zip_long [] ys same = refl
zip_long (x ∷ xs) [] same = absurd (omega (arith, same))
zip_long (x ∷ xs) (y ∷ ys) same = ap suc (zip_long xs ys (omega (arith, same)))

in_long : (to : ℕ) (columns : Columns) (scores : Scores) → length scores ≡ columns.documents → length (ups_in to columns scores) ≡ columns.documents
in_long to columns scores long =
    joined_long (mode_of Max) None to [] (zip (scopes_in columns) (map option_to_list scores))
    ∙ zip_long (scopes_in columns) (map option_to_list scores) (length-map scores option_to_list ∙ long ∙ sym (scopes_long columns))
    ∙ scopes_long columns

ups_long : (to : ℕ) (view : List EntryState) (hits : List Scores) → AreLong view hits → AreLong view (ups_of to view hits)
ups_long to [] hits long = tt
ups_long to (e ∷ view) [] long = absurd long
ups_long to (e ∷ view) (own ∷ hits) long = (in_long to e.columns own long.0, ups_long to view hits long.1)

ups_counted : (to : ℕ) (view : List EntryState) (hits : List Scores) → up_total to view hits ≡ hit_count (ups_of to view hits)
ups_counted to [] hits = refl
ups_counted to (e ∷ view) [] = refl
ups_counted to (e ∷ view) (own ∷ hits) =
    omega (
      arith,
      ups_counted to view hits,
      sum_by-cons own_count (ups_in to e.columns own) (ups_of to view hits),
      ap (count_by is_marked) (joined_marks to [] (scopes_in e.columns) own),
    )

-- ---- the objects that they stand for

abbrev Law : Type 0
Law = (m : Mapping) (to from : ℕ) (score : Object → Option ℕ) (mode : List ℕ → Option ℕ) (trees : List (Marked Tree)) → IsMapping m → IsAbove m to from → mode [] ≡ None
    → joined mode None to [] (zip (scopes_of m trees) (map option_to_list (seen m (at_scope from score) trees))) ≡ seen m (at_scope to (gathered m mode from score)) trees

ups_are : (law : Law) (m : Mapping) (to from : ℕ) (given : Object → Option ℕ) → IsAbove m to from → (view : List EntryState) (trees : List Trees) → ViewStandsFor m view trees
    → ups_of to view (map (λ (own : Trees). seen m (at_scope from given) own) trees) ≡ map (λ (own : Trees). seen m (at_scope to (gathered m (mode_of Max) from given)) own) trees
ups_are law m to from given above [] [] stands = refl
ups_are law m to from given above [] (t ∷ trees) stands = absurd stands
ups_are law m to from given above (e ∷ view) [] stands = absurd stands
ups_are law m to from given above (e ∷ view) (t ∷ trees) stands =
    let own : ups_in to e.columns (seen m (at_scope from given) t) ≡ seen m (at_scope to (gathered m (mode_of Max) from given)) t =
    ap (λ (scopes : List ℕ). joined (mode_of Max) None to [] (zip scopes (map option_to_list (seen m (at_scope from given) t)))) (scopes_are m e.columns e.live t stands.0)
    ∙ law m to from given (mode_of Max) t stands.0.mapping above refl in
    ap₂ (λ (s : Scores) (l : List Scores). s ∷ l) own (ups_are law m to from given above view trees stands.1)

pub ups_count : (law : Law) (m : Mapping) (view : List EntryState) (to from : ℕ) (given : List Tree → Object → Option ℕ) (hits : List Scores) → IsAbove m to from → IsSeen m view from given hits
    → IsCount m view to (below_by m (mode_of Max) from given) (up_total to view hits)
ups_count law m view to from given hits above is = record {
  those = ups_of to view hits;
  seen = record {
    long = ups_long to view hits is.long;
    are = λ trees stands. ap (ups_of to view) (is.are trees stands) ∙ ups_are law m to from (given (live_trees trees)) above view trees stands;
  };
  counted = ups_counted to view hits;
}

-- ---- entry by entry

pub total_step : (to at : ℕ) (view : List EntryState) (hits : List Scores) (e : EntryState) (s : Scores) → AreLong view hits → at < length view → e ≡ get_or view at e → s ≡ get_or hits at s
    → up_total to (drop at view) (drop at hits) ≡ up_marks e.columns to (map is_some s) + up_total to (drop (at + 1) view) (drop (at + 1) hits)
total_step to at [] hits e s long below here there = absurd (omega (arith, below))
total_step to at (x ∷ view) [] e s long below here there = absurd long
total_step to zero (x ∷ view) (y ∷ hits) e s long below here there =
    ap₂ (λ (a : EntryState) (b : Scores). up_marks a.columns to (map is_some b) + up_total to view hits) (sym here) (sym there)
total_step to (suc at) (x ∷ view) (y ∷ hits) e s long below here there =
    let next : suc at + 1 ≡ suc (at + 1) = omega arith in
    rw next (total_step to at view hits e s long.1 (omega (arith, below)) here there)

pub total_end : (to at : ℕ) (view : List EntryState) (hits : List Scores) → length view ≤ at → up_total to (drop at view) (drop at hits) ≡ 0
total_end to zero [] hits past = refl
total_end to (suc at) [] hits past = refl
total_end to zero (x ∷ view) hits past = absurd (omega (arith, past))
total_end to (suc at) (x ∷ view) [] past = none (drop at view)
  where
    none : (rest : List EntryState) → up_total to rest [] ≡ 0
    none [] = refl
    none (e ∷ rest) = refl
total_end to (suc at) (x ∷ view) (y ∷ hits) past = total_end to at view hits (omega (arith, past))
