use Rattle.std.proofs.Common.{◌≡◌, ◌<◌, ◌∙◌, length, get_or, slice_get, Some, [], refl, sym, ap, subst, inl, inr, arith}
use Rattle.std.proofs.lemmas.Bool.{false≢true, cases_lt}
use Rattle.std.proofs.lemmas.Option.{slice_get-get_or, slice_get_within}
use Rattle.segment_parts.specs.Agree.{IsTermAt}
use Rattle.segment_parts.specs.Lists.{terms_of}
use Rattle.segment.proofs.agree_terms.are_terms.Goals as goal

pub returns-then-not-is_term_at : goal.returns-then-not-is_term_at
returns-then-not-is_term_at c =
    let terms = terms_of c.args.parts.now in
    let inside : c.ordinals.ordinal < length terms = omega (arith, c.ordinals-test.true, c.count-ordinal-end.ensures.count, ap length c.terms.ensures) in
    let own : slice_get terms c.ordinals.ordinal ≡ Some (get_or terms c.ordinals.ordinal (0, [])) = slice_get-get_or terms c.ordinals.ordinal (0, []) inside in
    (λ no. absurd (false≢true no), λ are. absurd (false≢true ((c.if-not-is_term_at.ensures (get_or terms c.ordinals.ordinal (0, [])) own).1 (are c.ordinals.ordinal _ own))))

pub ordinals-preserved : goal.ordinals-preserved
ordinals-preserved c = λ ordinal term below is.
    elim (cases_lt ordinal c.ordinals.ordinal) [
      | inl before ↦ c.ordinals.invariant ordinal term before is
      | inr from ↦
          let same : ordinal ≡ c.ordinals.ordinal = omega arith in
          subst (λ at. IsTermAt c.args.parts.now at term) (sym same) ((c.if-not-is_term_at.ensures term (ap (slice_get (terms_of c.args.parts.now)) (sym same) ∙ is)).0 refl)
    ]

pub returns : goal.returns
returns c = (
  λ _ ordinal term is. c.ordinals.invariant ordinal term (omega (arith, slice_get_within (terms_of c.args.parts.now) ordinal term is, c.ordinals-test.false, c.count-ordinal-end.ensures.count, ap length c.terms.ensures)) is,
  λ _. refl,
)
