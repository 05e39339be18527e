use Rattle.std.proofs.Common.{IsTrue, arith, subst, sym}
use Rattle.std.proofs.lemmas.Bool.Decides.{nat_tests}
use Rattle.segment_parts.proofs.Numbered.{searched_ordinal}
use Rattle.segment_parts.proofs.given_terms.is_keyword_at.Goals as goal

pub returns-then-is_empty : goal.returns-then-is_empty
returns-then-is_empty c =
    let found = searched_ordinal c.values_of.result.now c.args.ordinal c.binary_search.result c.values_of.ensures.ascending c.binary_search.ensures.bound c.binary_search.ensures.position in (
      λ ok. record {
        positions = rw (← c.as_slice.ensures) (grind (arith, nat_tests));
        valued = rw (← c.values_of.ensures.values) (found.0 (subst IsTrue c.is_ok.ensures.value ok));
      },
      λ is. subst IsTrue (sym c.is_ok.ensures.value) (found.1 (rw c.values_of.ensures.values is.valued)),
    )
