use Rattle.std.proofs.Common.{◌≡◌, ℕ, ℤ, List, Option, None, Some, IfSome, sym, subst, ◌∙◌}
use Rattle.segment_parts.specs.Fields.{column_of}
use Rattle.segment_parts.specs.Text.{marked_places}
use Rattle.bucket_aggs.specs.Columns.{AreOwnRows}
use Rattle.bucket_aggs.proofs.Numbered.{no_numbers_told, numbers_told}
use Rattle.bucket_aggs.proofs.Within.{numbers_below, own_rows}
use Rattle.bucket_aggs.proofs.metrics.OwnNumbers.of.Goals.{then-has_many, else-has_many}
use Rattle.bucket_aggs.proofs.metrics.OwnNumbers.of.Goals as goal

pub returns-in_default-clause-none : goal.returns-in_default-clause-none
returns-in_default-clause-none c =
    let none : column_of c.args.field c.args.segment.now.numbers ≡ None = sym c.numbers.ensures ∙ c.in_default.is in
    no_numbers_told c.args.segment.now c.args.field (marked_places 0 c.args.set.now) c.values_are_of_documents.ensures.numbers none

pub returns-clause-some : goal.returns-clause-some
returns-clause-some c =
    let some : column_of c.args.field c.args.segment.now.numbers ≡ Some c.in-Some.column = sym c.numbers.ensures ∙ c.in-Some.is in
    sym (numbers_told c.args.segment.now c.args.field c.in-Some.column (marked_places 0 c.args.set.now) c.values_are_of_documents.ensures.numbers some)

pub invariant_of-result : goal.invariant_of-result
invariant_of-result c =
    let flags = c.args.set.now in
    let column : List (ℕ × List ℤ) = c.in-Some.column in
    let some : column_of c.args.field c.args.segment.now.numbers ≡ Some column = sym c.numbers.ensures ∙ c.in-Some.is in
    let within = numbers_below c.args.segment.now c.args.field flags c.docs-agree.ensures.agree c.requires column some in
    elim c.if-has_many.branch [
      | then-has_many w ↦
          subst (λ (rows : Option (List (ℕ × List ℤ))). IfSome rows (AreOwnRows column flags)) (sym w.rows-is)
          (own_rows column flags w.single_rows-rows.result within w.single_rows-rows.ensures.rows w.single_rows-rows.ensures.ascending)
      | else-has_many w ↦ subst (λ (rows : Option (List (ℕ × List ℤ))). IfSome rows (AreOwnRows column flags)) (sym w.rows-is) tt
    ]
