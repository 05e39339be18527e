use Rattle.std.proofs.Common.{◌≡◌, ℕ, List, [], ◌∷◌, length, ◌+◌, take, sym, ◌∙◌, ap, subst, arith}
use Rattle.std.proofs.lemmas.List.{length-append}
use Rattle.segment.specs.Live.{EntryState}
use Rattle.store_opening.specs.Entries.{AreNumbered, IsEntryOf, StandsFor}
use Rattle.store_opening.proofs.Looking.{looked_on}
use Rattle.store_opening.proofs.Numbered.{none_numbered, numbered_next}
use Rattle.store_opening.proofs.entries.read_entries.Goals as goal

pub returns-in_err-entry-clause-damaged : goal.returns-in_err-entry-clause-damaged
returns-in_err-entry-clause-damaged g c = λ refused file view known are stand.
    let id : length c.entries.result.now ≡ c.rows.row-index = grind (arith, c.entries.ensures.entries, c.rows.invariant.2) in
    none_numbered (IsEntryOf c.args.mapping.now c.args.old) (StandsFor c.args.old (length c.args.mapping.now.scopes) file) c.args.rows.now view c.rows.row-index c.row-item.result
    c.row-item.result c.rows-test.true c.row-item.is
    (λ entry is stands.
    c.read_entry.ensures.damaged (grind (arith, refused, c.from_residual.ensures, c.in_err-entry.was)) file entry (c.rows.invariant.3 ∙ known)
    (subst (λ (n : ℕ). IsEntryOf c.args.mapping.now c.args.old n c.row-item.result entry) (sym id) is)
    (subst (λ (n : ℕ). StandsFor c.args.old (length c.args.mapping.now.scopes) file n c.row-item.result entry) (sym id) stands))
    are stand

pub rows-preserved : goal.rows-preserved
rows-preserved g c =
    let id : length c.entries.result.now ≡ c.rows.row-index = grind (arith, c.entries.ensures.entries, c.rows.invariant.2) in (
      subst (λ (es : List EntryState). AreNumbered (IsEntryOf c.args.mapping.now c.args.old) 0 (take (c.rows.row-index + 1) c.args.rows.now) es) (sym c.in_ok-push.ensures.pushed)
          (numbered_next (IsEntryOf c.args.mapping.now c.args.old) c.args.rows.now c.rows.view c.rows.row-index c.row-item.result c.row-item.result c.in_ok-entry.entry c.rows-test.true
          c.row-item.is c.rows.invariant.2 c.rows.invariant.0
          (subst (λ (n : ℕ). IsEntryOf c.args.mapping.now c.args.old n c.row-item.result c.in_ok-entry.entry) id c.in_ok-entry.ensures.is)),
      λ file known.
          subst (λ (es : List EntryState). AreNumbered (StandsFor c.args.old (length c.args.mapping.now.scopes) file) 0 (take (c.rows.row-index + 1) c.args.rows.now) es)
          (sym c.in_ok-push.ensures.pushed)
          (numbered_next (StandsFor c.args.old (length c.args.mapping.now.scopes) file) c.args.rows.now c.rows.view c.rows.row-index c.row-item.result c.row-item.result
          c.in_ok-entry.entry c.rows-test.true c.row-item.is c.rows.invariant.2 (c.rows.invariant.1 file known)
          (subst (λ (n : ℕ). StandsFor c.args.old (length c.args.mapping.now.scopes) file n c.row-item.result c.in_ok-entry.entry) id
          (c.in_ok-entry.ensures.stands file (c.rows.invariant.3 ∙ known)))),
      ap (λ (es : List EntryState). length es) c.in_ok-push.ensures.pushed
          ∙ (length-append c.rows.view (c.in_ok-entry.entry ∷ []) ∙ ap (λ (n : ℕ). n + 1) c.rows.invariant.2),
      c.in_ok-entry.ensures.content ∙ c.rows.invariant.3,
      looked_on c.rows.invariant.4 c.read_entry.ensures.looked,
      c.in_ok-entry.ensures.cause ∙ c.rows.invariant.5,
    )
