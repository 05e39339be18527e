use Rattle.std.proofs.Common.{◌-◌, ◌+◌, ◌<◌, inl, inr, length, get_or, arith}
use Rattle.std.proofs.lemmas.Bool.{cases_lt}
use Rattle.doc_values.specs.Kept.{documents_in}
use Rattle.doc_values.proofs.Entries.{length-documents_in, all_below, all_above, found_nowhere, ascend_to, past_window, before_window}
use Rattle.doc_values.proofs.search.index_of.Goals as goal

pub returns-then-count-eq0-clause-missing : goal.returns-then-count-eq0-clause-missing
returns-then-count-eq0-clause-missing c =
    found_nowhere (documents_in c.args.places.now c.args.bytes.now) c.args.doc 0 0 (omega arith) (λ k below. absurd (omega arith))
    (λ k from inside. absurd (omega (arith, length-documents_in c.args.places.now c.args.bytes.now, inside, c.if-count-eq0.true)))

pub returns-then-doc-first-clause-missing : goal.returns-then-doc-first-clause-missing
returns-then-doc-first-clause-missing c =
    let docs = documents_in c.args.places.now c.args.bytes.now in
    found_nowhere docs c.args.doc 0 0 (omega arith) (λ k below. absurd (omega arith))
    (all_above docs 0 c.args.doc c.requires.ascending (omega (arith, c.if-doc-first.true, c.document-first.ensures)))

pub returns-then-last-doc-clause-missing : goal.returns-then-last-doc-clause-missing
returns-then-last-doc-clause-missing c =
    let docs = documents_in c.args.places.now c.args.bytes.now in
    let long = length-documents_in c.args.places.now c.args.bytes.now in
    let last = length c.args.places.now - 1 - 1 in
    found_nowhere docs c.args.doc (last + 1) (last + 1) (omega arith)
    (all_below docs last c.args.doc c.requires.ascending (omega (arith, long, c.if-count-eq0.false)) (omega (arith, c.if-last-doc.true, c.document-last.ensures)))
    (λ k from inside. absurd (omega (arith, long, from, inside)))

pub probes-init : goal.probes-init
probes-init c =
    let docs = documents_in c.args.places.now c.args.bytes.now in
    let long = length-documents_in c.args.places.now c.args.bytes.now in
    let last = length c.args.places.now - 1 - 1 in
    let there : last < length docs = omega (arith, long, c.if-count-eq0.false) in
    let spread = ascend_to docs 0 last c.requires.ascending (omega arith) there in
    record {
      order = omega (arith, spread, c.saturating_sub-low.ensures, c.min-high.ensures, c.document-first.ensures, c.document-last.ensures, c.if-doc-first.false, c.if-last-doc.false, c.if-count-eq0.false);
      within = omega (arith, c.min-high.ensures, c.if-count-eq0.false);
      before = λ k below.
          let up = ascend_to docs k last c.requires.ascending (omega (arith, below, c.saturating_sub-low.ensures)) there in
          omega (arith, up, below, c.saturating_sub-low.ensures, c.document-last.ensures, c.if-last-doc.false);
      after = λ k from inside.
          let up = ascend_to docs 0 k c.requires.ascending (omega arith) inside in
          omega (arith, up, from, inside, long, c.min-high.ensures, c.document-first.ensures, c.if-doc-first.false);
    }

pub probes-preserved-then-found-doc-2 : goal.probes-preserved-then-found-doc-2
probes-preserved-then-found-doc-2 c =
    let docs = documents_in c.args.places.now c.args.bytes.now in
    let at = c.probe-at.result in
    let long = length-documents_in c.args.places.now c.args.bytes.now in
    let less : get_or docs at 0 < c.args.doc = omega (arith, c.document-found.ensures, c.if-found-doc-2.true) in
    record {
      order = omega (arith, c.probe-at.ensures, c.min-high-then-found-doc-2.ensures, c.saturating_add.ensures, c.if-found-doc-2.true);
      within = omega (arith, c.min-high-then-found-doc-2.ensures, c.probes.invariant.within);
      before = all_below docs at c.args.doc c.requires.ascending (omega (arith, long, c.probe-at.ensures, c.probes.invariant.within)) less;
      after = λ k from inside. elim (cases_lt k c.probes.high) [
        | inl earlier ↦ past_window docs at c.args.doc k c.requires.ascending
            (omega (arith, from, earlier, long, inside, less, c.document-found.ensures, c.min-high-then-found-doc-2.ensures, c.saturating_add.ensures, c.probe-at.ensures)) inside
        | inr past ↦ c.probes.invariant.after k past inside
      ];
    }

pub probes-preserved : goal.probes-preserved
probes-preserved c =
    let docs = documents_in c.args.places.now c.args.bytes.now in
    let at = c.probe-at.result in
    let long = length-documents_in c.args.places.now c.args.bytes.now in
    let there : at < length docs = omega (arith, long, c.probe-at.ensures, c.probes.invariant.within) in
    record {
      order = omega (arith, c.probe-at.ensures, c.max-low.ensures, c.saturating_sub.ensures);
      within = omega (arith, c.probe-at.ensures, c.probes.invariant.within);
      before = λ k below. elim (cases_lt k c.probes.low) [
        | inl earlier ↦ c.probes.invariant.before k earlier
        | inr from ↦ before_window docs at c.args.doc k c.requires.ascending
            (omega (arith, from, below, c.document-found.ensures, c.if-found-doc-2.false, c.if-found-doc.false, c.max-low.ensures, c.saturating_sub.ensures)) there
      ];
      after = all_above docs at c.args.doc c.requires.ascending (omega (arith, c.document-found.ensures, c.if-found-doc-2.false, c.if-found-doc.false));
    }

pub returns-clause-missing : goal.returns-clause-missing
returns-clause-missing c =
    found_nowhere (documents_in c.args.places.now c.args.bytes.now) c.args.doc c.probes.low c.probes.high c.probes-test.false c.probes.invariant.before c.probes.invariant.after
