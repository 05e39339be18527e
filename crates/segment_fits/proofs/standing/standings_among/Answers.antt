use Rattle.std.proofs.Common.{◌≡◌, ℕ, ◌<◌, List, [], ◌∷◌, ◌++◌, map, get_or, sym, ap, ◌∙◌, arith}
use Rattle.std.specs.List.{range_with_len}
use Rattle.std.proofs.lemmas.List.FromFn.{map-range_with_len_more}
use Rattle.segment.specs.Flat.{flat_of}
use Rattle.stored_sources.specs.Roots.{root_of}
use Rattle.segment_fits.specs.Tested.{generation_at, standing_of}
use Rattle.segment_fits.specs.declared.standing.Standing.{Standing}
use Rattle.segment_fits.proofs.Flags.{past_other, past_root, root_within, scope_is}
use Rattle.segment_fits.proofs.standing.standings_among.Goals as goal
use Rattle.segment_fits.proofs.standing.standings_among.Goals.{then-scope-eq0, else-scope-eq0}

pub overflow_cast-scope : goal.overflow_cast-scope
overflow_cast-scope c =
    let seg = c.args.segment.now in
    let doc = c.documents.doc in
    let own = c.docs-count.ensures.agree in
    let inside : doc < seg.documents = omega (arith, c.documents-test.true, c.docs-count.ensures.documents) in
    let scope : c.scope_of-scope.result ≡ (flat_of seg doc).scope =
    c.scope_of-scope.ensures.scope ∙ ap (λ (ss : List ℕ). get_or ss doc 0) c.requires ∙ scope_is seg own c.scopes_are_of_documents.ensures.sets c.scopes_are_of_documents.ensures.seen doc inside in
    omega (arith, scope, c.scopes_are_of_documents.ensures.within doc inside, own.parts.head.fewer)

pub root_generation-requires : goal.root_generation-requires
root_generation-requires c =
    let seg = c.args.segment.now in
    let inside : c.documents.doc < seg.documents = omega (arith, c.documents-test.true, c.docs-count.ensures.documents) in
    omega (arith, c.documents.invariant.1, root_within seg c.docs-count.ensures.agree c.scopes_are_of_documents.ensures.sets c.documents.doc inside)

pub documents-preserved : goal.documents-preserved
documents-preserved c =
    let seg = c.args.segment.now in
    let doc = c.documents.doc in
    let own = c.docs-count.ensures.agree in
    let sets = c.scopes_are_of_documents.ensures.sets in
    let inside : doc < seg.documents = omega (arith, c.documents-test.true, c.docs-count.ensures.documents) in
    let scope : c.scope_of-scope.result ≡ (flat_of seg doc).scope =
    c.scope_of-scope.ensures.scope ∙ ap (λ (ss : List ℕ). get_or ss doc 0) c.requires ∙ scope_is seg own sets c.scopes_are_of_documents.ensures.seen doc inside in
    let generation : c.root_generation.result ≡ generation_at seg doc = c.root_generation.ensures ∙ ap (λ (k : ℕ). (root_of seg.roots k).generation) c.documents.invariant.1 in
    let front = map (standing_of seg) (range_with_len 0 doc) in (
      c.in_ok-push.ensures.items
          ∙ ap (λ (xs : List Standing). let new : Standing = record { scope = c.scope_of-scope.result; generation = c.root_generation.result } in xs ++ new ∷ []) c.documents.invariant.0
          ∙ ap (λ (s : ℕ). let new : Standing = record { scope = s; generation = c.root_generation.result } in front ++ new ∷ []) scope
          ∙ ap (λ (g : ℕ). let new : Standing = record { scope = (flat_of seg doc).scope; generation = g } in front ++ new ∷ []) generation
          ∙ sym (map-range_with_len_more (standing_of seg) 0 doc doc (omega arith)),
      elim c.if-scope-eq0.branch [
        | then-scope-eq0 w ↦ omega (arith, w.root-is, c.documents.invariant.1, past_root seg own sets doc inside (sym scope ∙ w.if-scope-eq0.true))
        | else-scope-eq0 w ↦ omega (arith, w.root-is, c.documents.invariant.1, past_other seg own sets doc inside (λ zero_is. w.if-scope-eq0.false (scope ∙ zero_is)))
      ],
    )
