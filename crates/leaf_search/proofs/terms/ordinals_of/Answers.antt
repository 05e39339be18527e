use Rattle.std.proofs.Common.{refl, arith}
use Rattle.std.proofs.lemmas.Option.{slice_get_within}
use Rattle.leaf_search.proofs.Alone.{stands_alone, stands_nowhere}
use Rattle.leaf_search.proofs.terms.ordinals_of.Goals as goal

pub overflow_add-result : goal.overflow_add-result
overflow_add-result c = omega (arith, slice_get_within c.args.terms.now c.in-Some.ordinal (c.args.field, c.args.bytes.now) c.in-Some.ensures.found, c.count-count.ensures.count, c.count-count.type_inv)

pub returns-in-Some-clause-within : goal.returns-in-Some-clause-within
returns-in-Some-clause-within c = omega (arith, slice_get_within c.args.terms.now c.in-Some.ordinal (c.args.field, c.args.bytes.now) c.in-Some.ensures.found)

pub returns-in-Some-clause-own : goal.returns-in-Some-clause-own
returns-in-Some-clause-own c = stands_alone c.args.terms.now c.args.field c.args.bytes.now c.in-Some.ordinal c.count-count.ensures.ascending c.in-Some.ensures.found

pub returns-in-None-clause-own : goal.returns-in-None-clause-own
returns-in-None-clause-own c = stands_nowhere c.args.terms.now c.args.field c.args.bytes.now (c.in-None.ensures.missing.0 refl)
