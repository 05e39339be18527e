use Rattle.std.proofs.Common.{◌∙◌, ◌+◌, ◌++◌, ◌∷◌, [], refl, sym, subst, ap, arith}
use Rattle.std.proofs.lemmas.Bool.{false≢true}
use Rattle.std.proofs.lemmas.List.{length_push}
use Rattle.segment_parts.specs.Kept.{AreTaking, behind_number, columns_more, columns_end, columns_fall, columns_taken}
use Rattle.segment_parts.proofs.values.columns_at.Goals as goal

pub returns-in_default-2-clause-nowhere : goal.returns-in_default-2-clause-nowhere
returns-in_default-2-clause-nowhere g c = λ _.
    let bytes = c.args.bytes.now in
    let number = rw c.split_at.ensures.back at c.in-Some.ensures.taken in
    let behind = behind_number bytes c.args.at c.in-Some.count c.in-Some.first.now c.requires number.parts in
    let was = subst (λ first. AreTaking g.T.Ord.cmp g.T.ColumnValue.Fits g.T.ColumnValue.text g.T.ColumnValue.read bytes first c.columns.columns.items c.columns.place) behind.1 c.columns.invariant.0 in
    let never = rw c.in_default-2.is at c.in_ok-field.ensures.nowhere in
    columns_end g.T.Ord.cmp g.T.ColumnValue.Fits g.T.ColumnValue.text g.T.ColumnValue.read g.met.T.ColumnValue.reads bytes c.args.at c.in-Some.count c.in-Some.first.now c.columns.columns.items c.columns.place number was (omega (arith, c.columns.invariant.1, c.columns-test.true)) (never refl)

pub columns-preserved : goal.columns-preserved
columns-preserved g c =
    let bytes = c.args.bytes.now in
    let number = rw c.split_at.ensures.back at c.in-Some.ensures.taken in
    let behind = behind_number bytes c.args.at c.in-Some.count c.in-Some.first.now c.requires number.parts in
    let was = subst (λ first. AreTaking g.T.Ord.cmp g.T.ColumnValue.Fits g.T.ColumnValue.text g.T.ColumnValue.read bytes first c.columns.columns.items c.columns.place) behind.1 c.columns.invariant.0 in
    let taken = rw c.in-Some-2.is at c.in_ok-field.ensures.taken in
    let more = columns_more g.T.Ord.cmp g.T.ColumnValue.Fits g.T.ColumnValue.text g.T.ColumnValue.read bytes c.in-Some.first.now c.columns.columns.items c.columns.place (c.in-Some-2.field, c.in-Some-2.places) c.in-Some-2.end was taken in
    rw c.in_ok-push.ensures.items (
      subst (λ first. AreTaking g.T.Ord.cmp g.T.ColumnValue.Fits g.T.ColumnValue.text g.T.ColumnValue.read bytes first (c.columns.columns.items ++ (c.in-Some-2.field, c.in-Some-2.places) ∷ []) c.in-Some-2.end) (sym behind.1) more,
      length_push c.columns.columns.items (c.in-Some-2.field, c.in-Some-2.places) ∙ ap (λ n. n + 1) c.columns.invariant.1,
    )

pub returns-then-not-are_ascending-clause-nowhere : goal.returns-then-not-are_ascending-clause-nowhere
returns-then-not-are_ascending-clause-nowhere g c = λ _.
    let bytes = c.args.bytes.now in
    let number = rw c.split_at.ensures.back at c.in-Some.ensures.taken in
    let behind = behind_number bytes c.args.at c.in-Some.count c.in-Some.first.now c.requires number.parts in
    let was = subst (λ first. AreTaking g.T.Ord.cmp g.T.ColumnValue.Fits g.T.ColumnValue.text g.T.ColumnValue.read bytes first c.columns.columns.items c.columns.place) behind.1 c.columns.invariant.0 in
    let ascends = rw c.as_slice.ensures.value at c.are_ascending.ensures in
    columns_fall g.T.Ord.cmp g.T.ColumnValue.Fits g.T.ColumnValue.text g.T.ColumnValue.read g.met.T.ColumnValue.reads bytes c.args.at c.in-Some.count c.in-Some.first.now c.columns.columns.items c.columns.place number was (omega (arith, c.columns.invariant.1, c.columns-test.false, c.columns.auto.counter-end))
    (λ own. false≢true (sym c.if-not-are_ascending.true ∙ ascends.1 own))

pub returns-clause-taken : goal.returns-clause-taken
returns-clause-taken g c =
    let bytes = c.args.bytes.now in
    let number = rw c.split_at.ensures.back at c.in-Some.ensures.taken in
    let behind = behind_number bytes c.args.at c.in-Some.count c.in-Some.first.now c.requires number.parts in
    let was = subst (λ first. AreTaking g.T.Ord.cmp g.T.ColumnValue.Fits g.T.ColumnValue.text g.T.ColumnValue.read bytes first c.columns.columns.items c.columns.place) behind.1 c.columns.invariant.0 in
    let ascends = rw c.as_slice.ensures.value at c.are_ascending.ensures in
    rw c.of.ensures
    (columns_taken g.T.Ord.cmp g.T.ColumnValue.Fits g.T.ColumnValue.text g.T.ColumnValue.read bytes c.args.at c.in-Some.count c.in-Some.first.now c.columns.columns.items c.columns.place number was (omega (arith, c.columns.invariant.1, c.columns-test.false, c.columns.auto.counter-end)) (ascends.0 c.if-not-are_ascending.false))
