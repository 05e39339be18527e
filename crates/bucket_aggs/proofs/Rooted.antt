-- The buckets of a search, over the roots of live trees.
use Rattle.std.proofs.Common.{◌≡◌, ◌≢◌, ℕ, zero, suc, ◌<◌, Bool, true, false, ◌||◌, List, [], ◌∷◌, filter, length, get_or, sum_by, Option, refl, ap, ◌∙◌, arith}
use Rattle.std.specs.List.{list_any}
use Rattle.flattener.specs.StandsFor.{Marked, ViewStandsFor}
use Rattle.mapping.specs.Mapping.{Mapping}
use Rattle.query_ast.specs.Buckets.{bucket_replies}
use Rattle.query_ast.specs.Clause.{Clause}
use Rattle.query_ast.specs.Definition.{definitions_of}
use Rattle.query_ast.specs.Hit.{those_hit}
use Rattle.query_ast.specs.Joined.{roots}
use Rattle.query_ast.specs.Joins.{joins, search_joins, some_agg_joins, some_inner_joins, sort_joins}
use Rattle.query_ast.specs.Replies.{ReplyPart}
use Rattle.query_ast.specs.Search.{found_buckets}
use Rattle.query_ast.specs.declared.search.SearchBody.{SearchBody}
use Rattle.query_eval.specs.Found.{IsFound, live_trees, score_by}
use Rattle.segment.specs.Live.{EntryState}
use Rattle.tree_objects.specs.Object.{Object}
use Rattle.tree_objects.specs.Tree.{ComesFirst, IsLiveList, Tree}
use Rattle.view_objects.specs.Hits.{live_objects}
use Rattle.bucket_aggs.specs.Counts.{marked_count}
use Rattle.bucket_aggs.specs.Given.{AreReplies, HaveOwnNumbers, is_given}
use Rattle.bucket_aggs.proofs.Documents.{objects_count}

-- ---- live trees have numbers of their own

later : (tree : Tree) (trees : List Tree) (k : ℕ) (d : Tree) → ComesFirst tree trees → k < length trees → tree.number < (get_or trees k d).number
later tree [] k d first low = absurd (omega (arith, low))
later tree (t ∷ trees) zero d first low = first.0.0
later tree (t ∷ trees) (suc k) d first low = later tree trees k d first.1 (omega (arith, low))

pub own_numbers : (trees : List Tree) → IsLiveList trees → HaveOwnNumbers trees
own_numbers [] live = λ i j d less low. absurd (omega (arith, low))
own_numbers (tree ∷ trees) live = by (own_numbers trees live.1)
  where
    by : HaveOwnNumbers trees → (i j : ℕ) (d : Tree) → i < j → j < length (tree ∷ trees) → (get_or (tree ∷ trees) i d).number ≢ (get_or (tree ∷ trees) j d).number
    by rest zero zero d less low = absurd (omega (arith, less))
    by rest zero (suc j) d less low = let rises : tree.number < (get_or trees j d).number = later tree trees j d live.0 (omega (arith, low)) in λ same. omega (arith, same, rises)
    by rest (suc i) zero d less low = absurd (omega (arith, less))
    by rest (suc i) (suc j) d less low = rest i j d (omega (arith, less)) (omega (arith, low))

-- ---- a search joins where its buckets do

or_last : (a b c d : Bool) → d ≡ true → (a || (b || (c || d))) ≡ true
or_last true b c d is = refl
or_last false true c d is = refl
or_last false false true d is = refl
or_last false false false d is = is

pub buckets_join : (search : SearchBody) → some_agg_joins (definitions_of search.aggs) ≡ true → search_joins search ≡ true
buckets_join search is = or_last (joins search.query) (list_any sort_joins search.sort) (some_inner_joins (definitions_of search.inner)) (some_agg_joins (definitions_of search.aggs)) is

-- ---- the answers over the roots that the query hits

pub found_are : (m : Mapping) (view : List EntryState) (search : SearchBody) (parts : List ReplyPart) → ((trees : List Tree) → live_objects m 0 trees ≡ roots trees) → AreReplies m view 0 (definitions_of search.aggs) (score_by m search.query) parts
    → (trees : List (List (Marked Tree))) → ViewStandsFor m view trees → IsLiveList (live_trees trees) → parts ≡ found_buckets m (live_trees trees) search
unfolding found_buckets
found_are m view search parts at_roots answered trees stand live =
    answered.is trees stand (own_numbers (live_trees trees) live)
    ∙ ap (λ (os : List Object). bucket_replies m (live_trees trees) (definitions_of search.aggs) (filter (is_given (score_by m search.query (live_trees trees))) os)) (at_roots (live_trees trees))

-- ---- how many roots the query hits

pub hits_counted : (m : Mapping) (view : List EntryState) (query : Clause) (hits : List (List (Option ℕ))) (count : ℕ) → ((trees : List Tree) → live_objects m 0 trees ≡ roots trees) → IsFound m view 0 query hits
    → (trees : List (List (Marked Tree))) → ViewStandsFor m view trees → count ≡ sum_by marked_count hits → count ≡ length (those_hit m (live_trees trees) query (roots (live_trees trees)))
hits_counted m view query hits count at_roots found trees stand counted =
    counted
    ∙ objects_count m view 0 (score_by m query) hits found trees stand
    ∙ ap (λ (os : List Object). length (filter (is_given (score_by m query (live_trees trees))) os)) (at_roots (live_trees trees))
