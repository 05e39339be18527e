use Rattle.std.proofs.Common.{◌+◌, ◌++◌, List, ℕ, drop, ap, sym, ◌∙◌, append_assoc, arith, [], ◌∷◌}
use Rattle.segment_merge.specs.Numbering.{numbers_from}
use Rattle.segment_merge.proofs.Numbered.{count_more, numbers_more}
use Rattle.segment_merge.proofs.numbering.numbers_of.Goals as goal

pub behind_document-next-requires-clause-fits : goal.behind_document-next-requires-clause-fits
behind_document-next-requires-clause-fits c =
    omega (arith, count_more c.docs.next c.args.live.now c.docs.doc (omega arith), c.docs.invariant.1, c.requires)

pub docs-preserved : goal.docs-preserved
docs-preserved c =
    let next : ℕ = c.behind_document-next.result in
    let rest = drop (c.docs.doc + 1) c.args.live.now in
    let more = numbers_more c.docs.next c.args.live.now c.docs.doc (omega arith) in (
      ap (λ (items : List ℕ). items ++ numbers_from next rest) c.in_ok-push.ensures.items
          ∙ append_assoc c.docs.numbers.items (c.docs.next ∷ []) (numbers_from next rest)
          ∙ ap (λ (n : ℕ). c.docs.numbers.items ++ c.docs.next ∷ numbers_from n rest) c.behind_document-next.ensures
          ∙ ap (λ (items : List ℕ). c.docs.numbers.items ++ items) (sym more)
          ∙ c.docs.invariant.0,
      omega (arith, c.behind_document-next.ensures, count_more c.docs.next c.args.live.now c.docs.doc (omega arith), c.docs.invariant.1),
    )
