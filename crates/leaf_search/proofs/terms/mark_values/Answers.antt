use Rattle.std.proofs.Common.{ℕ, List, ap, map, ◌∙◌}
use Rattle.std.specs.List.{list_any}
use denote.Ref.{Bor}
use Rattle.leaf_search.specs.Kept.{bytes_of}
use Rattle.leaf_search.proofs.Once.{lent_words, values_gain}
use Rattle.leaf_search.proofs.terms.mark_values.Goals as goal

pub returns-clause-gains : goal.returns-clause-gains
returns-clause-gains c =
    values_gain c.args.segment.now c.args.field c.as_slice-2.result.now (map bytes_of c.as_slice.result.now) c.args.values.now c.args.set.now c.mark_terms.new.set
    (λ test. ap (λ (ts : List (Bor (List ℕ))). list_any test (lent_words ts)) c.as_slice-2.ensures.value ∙ c.in_ok-terms.ensures test) (ap (map bytes_of) c.as_slice.ensures.value ∙ c.in_ok-keys.ensures.keys) c.mark_terms.ensures
