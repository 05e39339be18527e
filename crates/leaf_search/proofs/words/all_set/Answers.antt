use Rattle.std.proofs.Common.{ℕ, ◌<◌, ◌&&◌, List, length, All, true, sym, ap, subst}
use Rattle.std.specs.Prelude.{is_some}
use Rattle.query_ast.specs.Leaf.{is_any}
use Rattle.segment.specs.Lists.{terms_of, postings_of}
use Rattle.term_table.specs.Terms.{AreAscending}
use Rattle.leaf_search.specs.Sets.{MadeByLists}
use Rattle.leaf_search.specs.Words.{all_posted, folded_words, lists_at, shows_words}
use Rattle.leaf_search.proofs.Phrased.{all_by_lists, all_missed, within_kept}
use Rattle.leaf_search.proofs.Phrasing.{ordinals_within}
use Rattle.leaf_search.proofs.Selecting.{made_none}
use Rattle.leaf_search.proofs.words.all_set.Goals as goal

pub common_set-requires-clause-terms : goal.common_set-requires-clause-terms
common_set-requires-clause-terms c =
    let are = rw c.in-Some.is at c.in_ok-asked.ensures.found in
    subst (λ (l : List ℕ). All (λ ordinal. ordinal < length (terms_of c.args.segment.now)) l) (sym c.as_slice.ensures.value)
    (within_kept (length (terms_of c.args.segment.now)) c.in-Some.asked.items c.distinct_ordinals-ordinals.result.items c.distinct_ordinals-ordinals.ensures.same
    (ordinals_within (terms_of c.args.segment.now) c.args.field (folded_words c.args.words.now) c.in-Some.asked.items are))

pub returns-in_ok-common_set-in-Some : goal.returns-in_ok-common_set-in-Some
returns-in_ok-common_set-in-Some c =
    let are = rw c.in-Some.is at c.in_ok-asked.ensures.found in
    let found : List ℕ = c.distinct_ordinals-ordinals.result.items in
    let made = subst (λ (l : List ℕ). MadeByLists c.args.segment.now c.args.live.now c.args.scope (λ doc. is_any l && all_posted (lists_at (postings_of c.args.segment.now) l) doc) c.in_ok-common_set-in-Some.field-0) c.as_slice.ensures.value c.in_ok-common_set-in-Some.ensures in
    let ascend = subst AreAscending c.terms.ensures c.count-count.ensures.ascending in
    made (shows_words true c.args.field (folded_words c.args.words.now))
    (λ doc. all_by_lists c.args.segment.now c.args.field doc (λ test. c.terms_are_of_documents.ensures.terms c.args.field doc test) (folded_words c.args.words.now) c.in-Some.asked.items found ascend are c.distinct_ordinals-ordinals.ensures.same)

pub returns-in_ok-empty-in-None : goal.returns-in_ok-empty-in-None
returns-in_ok-empty-in-None c =
    made_none c.args.segment.now c.args.live.now c.args.scope (shows_words true c.args.field (folded_words c.args.words.now)) c.docs.result c.in_ok-empty-in-None.field-0 c.requires c.docs.ensures.documents c.in_ok-empty-in-None.ensures
    (λ doc. all_missed c.args.segment.now c.args.field doc (λ test. c.terms_are_of_documents.ensures.terms c.args.field doc test) (folded_words c.args.words.now) (c.in_ok-asked.ensures.missing (ap is_some c.in-None.is)))
