use Rattle.std.proofs.Common.{◌≡◌, ◌+◌, ◌<◌, ◌≤◌, ◌^◌, ◌∷◌, ◌++◌, ℕ, List, Bool, false, [], slice_index_or, length, map, drop, sym, ap, subst, ◌∙◌, arith}
use Rattle.std.specs.List.{All, count_by, position_or_len}
use Rattle.std.proofs.lemmas.List.Elements.{All-push}
use Rattle.block_bits.specs.Flags.{is_marked}
use Rattle.segment_merge.specs.Merged.{where_marked}
use Rattle.segment.specs.Flat.{FlatDocument, flat_of, flats_of}
use Rattle.segment_parts.specs.declared.columns.Columns.{Columns}
use Rattle.segment_merge.proofs.Marked.{count_end, long_scopes, scope_at, step_dead, step_live}
use Rattle.segment_merge.proofs.head.add_scopes.Goals as goal
use Rattle.segment_merge.proofs.head.add_scopes.Goals.{then-has+in_ok-push, else-has}

pub docs-preserved : goal.docs-preserved
docs-preserved c =
    let columns : Columns = c.args.part.now.entry.columns in
    let flags : List Bool = c.live_documents-live.result.now in
    let doc : ℕ = c.docs.doc in
    let scopes : List ℕ = map (λ (flat : FlatDocument). flat.scope) (flats_of columns) in
    let own = c.segment-segment.ensures.segment in
    let many : doc < columns.documents = omega (arith, c.docs-test.true, c.docs-doc-end.ensures.documents, ap (λ (cs : Columns). cs.documents) own) in
    let inside : doc < length flags = omega (arith, many, ap (λ (fs : List Bool). length fs) c.live_documents-live.ensures, c.segment-segment.ensures.live.documents) in
    let there : doc < length scopes = omega (arith, many, long_scopes columns) in
    elim c.if-has.branch [
      | then-has+in_ok-push w ↦
          let scope : w.scope_of.result ≡ (flat_of columns doc).scope =
          w.scope_of.ensures ∙ ap (λ (sets : List (List Bool)). position_or_len (λ set. slice_index_or set doc false) sets) (w.as_slice.ensures ∙ w.scopes.ensures ∙ ap (λ (cs : Columns). cs.scopes) own) in
          let fits : w.scope_of.result + 1 < 2 ^ 32 = omega (
            arith,
            scope,
            ap (λ (cs : Columns). (flat_of cs doc).scope) own,
            c.scopes_are_of_documents.ensures.within doc (omega (arith, many, ap (λ (cs : Columns). cs.documents) own)),
            c.docs-doc-end.ensures.agree.parts.head.fewer,
          ) in
          let items : c.if-has.into.items ≡ c.docs.into.items ++ w.scope_of.result ∷ [] = ap (λ v. v.items) w.into-is ∙ w.in_ok-push.ensures.items in (
            step_live flags scopes doc w.scope_of.result c.docs.into.items c.if-has.into.items _ inside there (sym c.has.ensures ∙ w.if-has.true) (scope ∙ sym (scope_at columns doc many)) items c.docs.invariant.0,
            subst (All (λ scope. scope + 1 < 2 ^ 32)) (sym items) (All-push (λ scope. scope + 1 < 2 ^ 32) c.docs.into.items w.scope_of.result c.docs.invariant.1 fits),
          )
      | else-has w ↦
          let items : c.if-has.into.items ≡ c.docs.into.items = ap (λ v. v.items) w.into-is in (
            ap (λ (xs : List ℕ). xs ++ where_marked (drop (doc + 1) flags) (drop (doc + 1) scopes)) items ∙ step_dead flags scopes doc c.docs.into.items _ inside there (sym c.has.ensures ∙ w.if-has.false) c.docs.invariant.0,
            subst (All (λ scope. scope + 1 < 2 ^ 32)) (sym items) c.docs.invariant.1,
          )
    ]

pub returns-clause-count : goal.returns-clause-count
returns-clause-count c =
    let columns : Columns = c.args.part.now.entry.columns in
    let flags : List Bool = c.live_documents-live.result.now in
    let scopes : List ℕ = map (λ (flat : FlatDocument). flat.scope) (flats_of columns) in
    let own = c.segment-segment.ensures.segment in
    let same : flags ≡ c.args.part.now.entry.live.docs = c.live_documents-live.ensures in
    let long : length flags ≡ columns.documents = ap (λ (fs : List Bool). length fs) same ∙ c.segment-segment.ensures.live.documents in
    let past : length flags ≤ c.docs.doc = omega (arith, c.docs-test.false, c.docs-doc-end.ensures.documents, ap (λ (cs : Columns). cs.documents) own, long) in
    count_end flags scopes c.docs.doc c.args.into.now.items c.docs.into.items past (long ∙ sym (long_scopes columns))
    (c.docs.invariant.0 ∙ ap (λ (fs : List Bool). c.args.into.now.items ++ where_marked fs scopes) (sym same))
    ∙ ap (λ (fs : List Bool). length c.args.into.now.items + count_by is_marked fs) same
