use Rattle.std.proofs.Common.{◌≡◌, ℕ, ◌<◌, Bool, ◌&&◌, false, List, length, get_or, All, sym, ap, subst, ◌∙◌, arith}
use Rattle.std.specs.List.{list_any}
use Rattle.std.proofs.lemmas.List.Elements.{All-weaker}
use Rattle.segment.specs.Lists.{terms_of, postings_of}
use Rattle.leaf_search.specs.Cursors.{IsBehind, lists_in}
use Rattle.leaf_search.specs.Patterns.{AreIndexes}
use Rattle.leaf_search.specs.Sets.{Marks}
use Rattle.leaf_search.specs.Words.{all_posted, lists_at, phrase_posted}
use Rattle.leaf_search.proofs.Going.{behind_later}
use Rattle.leaf_search.proofs.Narrowing.{asked_for, is_next, narrowed_all, narrowed_end, narrowed_more, narrowed_to}
use Rattle.leaf_search.proofs.Phrased.{within_kept}
use Rattle.leaf_search.proofs.Picking.{indexed, phrase_has_all}
use Rattle.leaf_search.proofs.long_phrase.with_phrase.Goals as goal

pub rarest-lead-requires-clause-terms : goal.rarest-lead-requires-clause-terms
rarest-lead-requires-clause-terms c =
    subst (λ (l : List ℕ). All (λ ordinal. ordinal < length (terms_of c.args.segment.now)) l) (sym c.as_slice-asked.ensures.value)
    (within_kept (length (terms_of c.args.segment.now)) c.args.ordinals.now c.distinct_ordinals-kept.result.items (λ test. c.distinct_ordinals-kept.ensures.same test ∙ ap (list_any test) c.in_ok-from_slice.ensures.items) c.requires.terms)

pub select-requires-clause-terms : goal.select-requires-clause-terms
select-requires-clause-terms c =
    subst (λ (l : List ℕ). All (λ ordinal. ordinal < length (terms_of c.args.segment.now)) l) (sym c.as_slice-asked.ensures.value)
    (within_kept (length (terms_of c.args.segment.now)) c.args.ordinals.now c.distinct_ordinals-kept.result.items (λ test. c.distinct_ordinals-kept.ensures.same test ∙ ap (list_any test) c.in_ok-from_slice.ensures.items) c.requires.terms)

pub cursors_at-requires : goal.cursors_at-requires
cursors_at-requires c =
    subst (λ (l : List ℕ). All (λ ordinal. ordinal < length (terms_of c.args.segment.now)) l) (sym c.as_slice-asked.ensures.value)
    (within_kept (length (terms_of c.args.segment.now)) c.args.ordinals.now c.distinct_ordinals-kept.result.items (λ test. c.distinct_ordinals-kept.ensures.same test ∙ ap (list_any test) c.in_ok-from_slice.ensures.items) c.requires.terms)

pub narrow-requires-clause-behind : goal.narrow-requires-clause-behind
narrow-requires-clause-behind c =
    All-weaker (IsBehind c.documents.from) (IsBehind c.in-Some.doc) (λ cursor was. behind_later c.documents.from c.in-Some.doc cursor c.in-Some.ensures.within.0 was) c.documents.cursors.items c.documents.invariant.2

pub narrow-requires-clause-has : goal.narrow-requires-clause-has
narrow-requires-clause-has c = (is_next c.documents.set c.documents.from c.in-Some.doc (sym c.in-Some.ensures.value)).has

pub narrow-requires-clause-there : goal.narrow-requires-clause-there
narrow-requires-clause-there c =
    let lists : List (List (ℕ × List ℕ)) = lists_at (postings_of c.args.segment.now) c.distinct_ordinals-kept.result.items in
    let doc : ℕ = c.in-Some.doc in
    ap (λ (l : List (List (ℕ × List ℕ))). all_posted l doc) c.documents.invariant.1
    ∙ asked_for c.args.live.now c.args.scope.now (all_posted lists) doc (get_or c.documents.set doc false)
    (c.documents.invariant.0.left doc c.in-Some.ensures.within.0 (omega (arith, c.in-Some.ensures.within.1, c.documents.invariant.0.long)))
    (is_next c.documents.set c.documents.from doc (sym c.in-Some.ensures.value)).has

pub documents-smaller : goal.documents-smaller
documents-smaller c = omega (arith, c.in-Some.ensures.within.0, c.in-Some.ensures.within.1, c.documents.invariant.0.long)

pub documents-preserved : goal.documents-preserved
documents-preserved c =
    let lists : List (List (ℕ × List ℕ)) = postings_of c.args.segment.now in
    let kept : List ℕ = c.distinct_ordinals-kept.result.items in
    let keep : ℕ → Bool = λ d. get_or c.args.live.now d false && (get_or c.args.scope.now d false && all_posted (lists_at lists kept) d) in
    let test : ℕ → Bool = phrase_posted (lists_at lists c.args.ordinals.now) in
    let are : AreIndexes kept c.args.ordinals.now c.in_ok-words.words.items = subst (λ (l : List ℕ). AreIndexes l c.args.ordinals.now c.in_ok-words.words.items) c.as_slice-asked.ensures.value c.in_ok-words.ensures in
    let doc : ℕ = c.in-Some.doc in
    let next = is_next c.documents.set c.documents.from doc (sym c.in-Some.ensures.value) in
    let passes : Bool = phrase_posted (lists_at (lists_in c.documents.cursors.items) c.as_slice-in-Some.result.now) doc in
    let says : passes ≡ test doc =
    ap (λ (ws : List ℕ). phrase_posted (lists_at (lists_in c.documents.cursors.items) ws) doc) c.as_slice-in-Some.ensures.value
    ∙ ap (λ (l : List (List (ℕ × List ℕ))). phrase_posted (lists_at l c.in_ok-words.words.items) doc) c.documents.invariant.1
    ∙ ap (λ (l : List (List (ℕ × List ℕ))). phrase_posted l doc) (indexed lists kept c.args.ordinals.now c.in_ok-words.words.items are) in (
      narrowed_more c.args.segment.now.documents keep test doc c.documents.set c.narrow.new.set passes (narrowed_to c.args.segment.now.documents keep test c.documents.from doc c.documents.set c.documents.invariant.0 next)
          c.in-Some.ensures.within.1 next.has says c.in_ok-narrow.ensures.set,
      c.in_ok-narrow.ensures.lists ∙ c.documents.invariant.1,
      c.in_ok-narrow.ensures.passed,
    )

pub returns : goal.returns
returns c =
    let lists : List (List (ℕ × List ℕ)) = postings_of c.args.segment.now in
    let kept : List ℕ = c.distinct_ordinals-kept.result.items in
    let keep : ℕ → Bool = λ d. get_or c.args.live.now d false && (get_or c.args.scope.now d false && all_posted (lists_at lists kept) d) in
    let test : ℕ → Bool = phrase_posted (lists_at lists c.args.ordinals.now) in
    let end = narrowed_end c.args.segment.now.documents keep test c.documents.from c.documents.set c.documents.invariant.0 (sym (sym c.in_default.is ∙ c.next_set.ensures.value)) in
    subst (λ (n : ℕ). Marks n (λ d. get_or c.args.live.now d false && (get_or c.args.scope.now d false && test d)) c.documents.set) (sym c.requires.live)
    (narrowed_all c.args.segment.now.documents c.args.segment.now.documents c.args.live.now c.args.scope.now (all_posted (lists_at lists kept)) test c.documents.set end (omega arith)
    (λ d says. phrase_has_all lists kept c.args.ordinals.now d (λ test. c.distinct_ordinals-kept.ensures.same test ∙ ap (list_any test) c.in_ok-from_slice.ensures.items) says))
