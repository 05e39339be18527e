use Rattle.std.proofs.Common.{◌≡◌, ℕ, List, [], ap, sym, arith}
use Rattle.std.proofs.lemmas.Option.{get_or_from_slice_get}
use Rattle.tree_objects.specs.declared.field_value.FieldValue.{FieldValue}
use Rattle.tree_objects.specs.declared.field_value.FieldValue.TheVariants.{Written}
use Rattle.bucket_aggs.specs.Counts.{count_if, term_key}
use Rattle.bucket_aggs.proofs.terms.put_term.Goals as goal

pub returns-clause-counts : goal.returns-clause-counts
returns-clause-counts c = λ v.
    let term : ℕ × List ℕ = (c.term.result.0, c.term.result.1.now) in
    let at = get_or_from_slice_get c.args.terms.now c.args.ordinal term (0, []) c.term.ensures in
    let key : Written c.term.result.1.now ≡ term_key c.args.terms.now c.args.ordinal = ap Written (sym (ap (λ (t : ℕ × List ℕ). t.1) at)) in
    omega (arith, c.in_ok-add_text.ensures.counts v, ap (λ (k : FieldValue). count_if v k c.args.count) key)
