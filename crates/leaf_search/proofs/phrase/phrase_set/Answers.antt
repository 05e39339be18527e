use Rattle.std.proofs.Common.{ℕ, ◌<◌, List, length, All, sym, ap, subst}
use Rattle.std.specs.Prelude.{is_some}
use Rattle.segment.specs.Lists.{terms_of, postings_of}
use Rattle.leaf_search.specs.Sets.{MadeByLists}
use Rattle.leaf_search.specs.Words.{folded_words, lists_at, phrase_posted, shows_phrase}
use Rattle.leaf_search.proofs.Phrased.{phrase_missed}
use Rattle.leaf_search.proofs.Phrasing.{ordinals_within, phrase_by_lists}
use Rattle.leaf_search.proofs.Selecting.{made_none}
use Rattle.leaf_search.proofs.phrase.phrase_set.Goals as goal

pub ordered_set-requires-clause-terms : goal.ordered_set-requires-clause-terms
ordered_set-requires-clause-terms c =
    let are = rw c.in-Some.is at c.in_ok-ordinals.ensures.found in
    subst (λ (l : List ℕ). All (λ ordinal. ordinal < length (terms_of c.args.segment.now)) l) (sym c.as_slice.ensures.value)
    (ordinals_within (terms_of c.args.segment.now) c.args.field (folded_words c.args.words.now) c.in-Some.ordinals.items are)

pub returns-in_ok-ordered_set-in-Some : goal.returns-in_ok-ordered_set-in-Some
returns-in_ok-ordered_set-in-Some c =
    let are = rw c.in-Some.is at c.in_ok-ordinals.ensures.found in
    let made = subst (λ (l : List ℕ). MadeByLists c.args.segment.now c.args.live.now c.args.scope (phrase_posted (lists_at (postings_of c.args.segment.now) l)) c.in_ok-ordered_set-in-Some.field-0) c.as_slice.ensures.value c.in_ok-ordered_set-in-Some.ensures in
    made (shows_phrase c.args.field (folded_words c.args.words.now))
    (λ doc. phrase_by_lists c.args.segment.now c.args.field doc (λ ordinal word test is. c.terms_are_of_documents.ensures.words c.args.field doc ordinal word test is) (folded_words c.args.words.now) c.in-Some.ordinals.items are)

pub returns-in_ok-empty-in-None : goal.returns-in_ok-empty-in-None
returns-in_ok-empty-in-None c =
    made_none c.args.segment.now c.args.live.now c.args.scope (shows_phrase c.args.field (folded_words c.args.words.now)) c.docs.result c.in_ok-empty-in-None.field-0 c.requires c.docs.ensures.documents c.in_ok-empty-in-None.ensures
    (λ doc. phrase_missed c.args.segment.now c.args.field doc (folded_words c.args.words.now) (λ word test absent. c.terms_are_of_documents.ensures.no_words c.args.field doc word test absent) (c.in_ok-ordinals.ensures.missing (ap is_some c.in-None.is)))
