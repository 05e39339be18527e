-- Hits that are counted entry by entry, and not kept.
use Rattle.std.proofs.Common.{◌≡◌, ℕ, ◌+◌, ◌<◌, ◌≤◌, Bool, true, false, List, [], ◌∷◌, ◌++◌, length, map, take, get_or, count_by, Option, Some, is_some, refl, ap, arith}
use Rattle.std.proofs.lemmas.List.Sums.{sum_by-append}
use Rattle.block_bits.specs.Flags.{is_marked}
use Rattle.block_join.specs.Scores.{filled}
use Rattle.flattener.specs.StandsFor.{EntryStandsFor, ViewStandsFor}
use Rattle.mapping.specs.Mapping.{Mapping}
use Rattle.segment.specs.Live.{EntryState}
use Rattle.tree_objects.specs.Object.{Object}
use Rattle.tree_objects.specs.Tree.{Tree}
use Rattle.query_eval.specs.Counted.{IsCount, hit_count}
use Rattle.query_eval.specs.Found.{AreLong}
use Rattle.query_eval.proofs.Entries.{Done, Scores, Trees, all_seen, done_start, done_step, entry_step, own_scores}

abbrev pub own_count : Scores → ℕ
own_count scores = count_by is_marked (map is_some scores)

-- where all documents of a set have one score, they are as many as the set has
pub own_filled : (score : ℕ) (flags : List Bool) → own_count (filled (Some score) flags) ≡ count_by is_marked flags
own_filled score flags = ap (count_by is_marked) (marks score flags)
  where
    marks : (score : ℕ) (flags : List Bool) → map is_some (filled (Some score) flags) ≡ flags
    marks score [] = refl
    marks score (true ∷ flags) = ap (λ (l : List Bool). true ∷ l) (marks score flags)
    marks score (false ∷ flags) = ap (λ (l : List Bool). false ∷ l) (marks score flags)

-- so many hits are those of the first entries
pub record Counting (m : Mapping) (view : List EntryState) (n : ℕ) (given : List Tree → Object → Option ℕ) (k count : ℕ) : Type 0 where
  pub made : List Scores
  pub long : AreLong (take k view) made
  pub done : Done m view n given k made
  pub counted : count ≡ hit_count made

module _ (m : Mapping) (view : List EntryState) (n : ℕ) (given : List Tree → Object → Option ℕ) where
  pub counting_start : Counting m view n given 0 0
  counting_start = record {
    made = [];
    long = tt;
    done = done_start m view n given;
    counted = refl;
  }

  pub counting_more : (k : ℕ) (e : EntryState) (count more : ℕ) (new : Scores) → Counting m view n given k count → e ≡ get_or view k e → k < length view → length new ≡ e.columns.documents → more ≡ count + own_count new
      → ((trees : List Trees) → ViewStandsFor m view trees → EntryStandsFor m e.columns e.live (get_or trees k []) → new ≡ own_scores m n given trees (get_or trees k [])) → Counting m view n given (k + 1) more
  counting_more k e count more new was at below long sum own = record {
    made = was.made ++ new ∷ [];
    long = entry_step view k e was.made (was.made ++ new ∷ []) new at below was.long long refl;
    done = done_step m view n given k e was.made (was.made ++ new ∷ []) new was.done below at refl own;
    counted = omega (arith, sum, was.counted, sum_by-append own_count was.made (new ∷ []));
  }

  pub counting_end : (k count : ℕ) → Counting m view n given k count → length view ≤ k → IsCount m view n given count
  counting_end k count was past = record {
    those = was.made;
    seen = all_seen m view n given k was.made was.made was.done was.long past refl;
    counted = was.counted;
  }
