use Rattle.std.proofs.Common.{◌≡◌, None, Some, ap, sym, ◌∙◌, arith, count_by}
use Rattle.segment_parts.specs.Fields.{column_of}
use Rattle.segment_parts.specs.Text.{marked_places}
use Rattle.bucket_aggs.specs.Counts.{is_number}
use Rattle.bucket_aggs.proofs.Numbered.{count_permuted, no_numbers_shown, numbers_counted, numbers_shown}
use Rattle.bucket_aggs.proofs.terms.add_numbers.Goals as goal

pub returns-in_default-clause-counts : goal.returns-in_default-clause-counts
returns-in_default-clause-counts c =
    let none : column_of c.args.field c.args.segment.now.numbers ≡ None = sym c.numbers.ensures ∙ c.in_default.is in
    record { each = λ v. omega (arith, no_numbers_shown c.args.segment.now c.args.kind c.args.field v (marked_places 0 c.args.set.now) c.requires c.values_are_of_documents.ensures.numbers none) }

pub returns-clause-counts : goal.returns-clause-counts
returns-clause-counts c =
    let some : column_of c.args.field c.args.segment.now.numbers ≡ Some c.in-Some.column = sym c.numbers.ensures ∙ c.in-Some.is in
    let docs = marked_places 0 c.args.set.now in
    record {
      each = λ v.
          omega (
            arith,
            c.in_ok-put_numbers.ensures.counts v,
            ap (count_by (is_number v)) c.as_slice.ensures.value,
            count_permuted (is_number v) c.in_ok-numbers.numbers.items c.sort_unstable.new.self.items c.sort_unstable.ensures.permutation,
            ap (count_by (is_number v)) c.in_ok-numbers.ensures,
            numbers_counted v c.in-Some.column docs c.values-ascending.ensures.rows,
            numbers_shown c.args.segment.now c.args.kind c.args.field v c.in-Some.column docs c.requires c.values_are_of_documents.ensures.numbers some,
          );
    }
