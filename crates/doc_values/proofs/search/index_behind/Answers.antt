use Rattle.std.proofs.Common.{◌≡◌, ◌+◌, ◌-◌, ◌<◌, inl, inr, length, get_or, ap, subst, arith}
use Rattle.std.proofs.lemmas.Bool.{cases_lt}
use Rattle.doc_values.specs.Kept.{documents_in}
use Rattle.doc_values.proofs.Entries.{length-documents_in, all_above, all_below, ascend_to, found_nowhere}
use Rattle.doc_values.proofs.search.index_behind.Goals as goal
use Rattle.doc_values.proofs.search.index_behind.Goals.{then-steps-test+else-document-doc-2, else-steps-test}

pub steps-init : goal.steps-init
steps-init c =
    let docs = documents_in c.args.places.now c.args.bytes.now in
    let long = length-documents_in c.args.places.now c.args.bytes.now in
    let low = c.max-low.result in
    let inside : low + 1 < length c.args.places.now = omega (arith, c.max-low.ensures, c.saturating_sub-2.ensures, c.requires.below) in
    record {
      some = omega arith;
      below = inside;
      before = elim (cases_lt c.args.start low) [
        | inl later ↦
            let up = ascend_to docs low (length c.args.places.now - 1 - 1) c.requires.entries.ascending (omega (arith, inside)) (omega (arith, long, inside)) in
            omega (arith, up, later, inside, c.max-low.ensures, c.saturating_sub.ensures, c.saturating_sub-2.ensures, c.document-last.ensures)
        | inr to ↦
            let same : get_or docs low 0 ≡ get_or docs c.args.start 0 = ap (λ at. get_or docs at 0) (omega (arith, to, c.max-low.ensures)) in
            omega (arith, same, c.requires.before)
      ];
    }

pub halves-init : goal.halves-init
halves-init c =
    let docs = documents_in c.args.places.now c.args.bytes.now in
    let long = length-documents_in c.args.places.now c.args.bytes.now in
    elim c.steps-test.branch [
      | then-steps-test+else-document-doc-2 w ↦
          let next : c.steps.low + c.steps.step ≡ c.steps.low + c.min.result = omega (arith, c.min.ensures, w.steps-test.true) in
          record {
            order = omega (arith, c.min.ensures, c.steps.invariant.some, c.steps.invariant.below);
            within = omega (arith, c.min.ensures, c.steps.invariant.below);
            before = c.steps.invariant.before;
            after = all_above docs (c.steps.low + c.min.result) c.args.doc c.requires.entries.ascending
                (subst (λ at. c.args.doc < get_or docs at 0) next (omega (arith, w.document-in-steps.ensures, w.if-document-doc-2.false)));
          }
      | else-steps-test w ↦ record {
        order = omega (arith, c.min.ensures, c.steps.invariant.some, c.steps.invariant.below);
        within = omega (arith, c.min.ensures, c.steps.invariant.below);
        before = c.steps.invariant.before;
        after = λ k from inside. absurd (omega (arith, c.min.ensures, w.steps-test.false, c.steps.invariant.below, from, inside, long));
      }
    ]

pub halves-preserved : goal.halves-preserved
halves-preserved c = record {
  order = omega (arith, c.halves-test.true);
  within = omega (arith, c.halves-test.true, c.halves.invariant.within);
  before = c.halves.invariant.before;
  after = all_above (documents_in c.args.places.now c.args.bytes.now) _ c.args.doc c.requires.entries.ascending (omega (arith, c.document-in-halves.ensures, c.if-document-doc-3.false));
}

pub returns-else-document-doc-4-clause-missing : goal.returns-else-document-doc-4-clause-missing
returns-else-document-doc-4-clause-missing c =
    let docs = documents_in c.args.places.now c.args.bytes.now in
    let long = length-documents_in c.args.places.now c.args.bytes.now in
    found_nowhere docs c.args.doc (c.halves.low + 1) c.halves.high (omega (arith, c.halves-test.false))
    (all_below docs c.halves.low c.args.doc c.requires.entries.ascending (omega (arith, long, c.halves.invariant.order, c.halves.invariant.within))
    (omega (arith, c.halves.invariant.before, c.document-2.ensures, c.if-document-doc-4.false)))
    c.halves.invariant.after
