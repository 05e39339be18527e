use Rattle.std.proofs.Common.{ℕ, ◌<◌, List, ℤ, sym, subst, ◌∙◌, arith}
use Rattle.std.specs.List.{All}
use Rattle.std.proofs.lemmas.Bool.{false≢true}
use Rattle.std.proofs.lemmas.Option.{get_or_from_slice_get, slice_get_within}
use Rattle.segment_fits.specs.Tested.{IsValueColumn}
use Rattle.segment_fits.specs.declared.form.Form.TheVariants.{Numbers}
use Rattle.segment_fits.proofs.Loops.{at_more, fails_at}
use Rattle.segment_fits.proofs.columns.are_numbers_shown.Goals as goal

pub is_value_column-requires-clause-within : goal.is_value_column-requires-clause-within
is_value_column-requires-clause-within c =
    let columns = c.args.segment.now.numbers in
    let own = c.number_column-field.result in
    let there : All (λ (row : ℕ × List ℤ). row.0 < c.args.segment.now.documents) own.1 =
    subst (λ (column : ℕ × List (ℕ × List ℤ)). All (λ (row : ℕ × List ℤ). row.0 < c.args.segment.now.documents) column.1)
    (get_or_from_slice_get columns c.columns.at own own c.number_column-field.ensures)
    (c.docs-documents.ensures.agree.fields.numbers_within c.columns.at own (slice_get_within columns c.columns.at own c.number_column-field.ensures)) in
    λ k d h. omega (arith, there k d h, c.requires.documents)

pub returns-then-not-branch : goal.returns-then-not-branch
returns-then-not-branch c =
    let P : ℕ × List (ℕ × List ℤ) → Type 0 = IsValueColumn c.args.ground.now.mapping.now c.args.ground.now.standings.now Numbers in (
      λ no. absurd (false≢true no),
      λ all. sym c.if-not-branch.true ∙ c.in_ok-is_value_column.ensures.1 (fails_at P c.args.segment.now.numbers c.columns.at c.number_column-field.result c.number_column-field.ensures all),
    )

pub columns-preserved : goal.columns-preserved
columns-preserved c =
    let P : ℕ × List (ℕ × List ℤ) → Type 0 = IsValueColumn c.args.ground.now.mapping.now c.args.ground.now.standings.now Numbers in
    at_more P c.args.segment.now.numbers c.columns.at c.number_column-field.result c.columns.invariant c.number_column-field.ensures (c.in_ok-is_value_column.ensures.0 c.if-not-branch.false)
