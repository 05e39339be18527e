use Rattle.std.proofs.Common.{◌≡◌, ◌<◌, ◌∙◌, length, get_or, slice_get, Some, [], refl, sym, ap, subst, inl, inr, arith}
use Rattle.std.proofs.lemmas.Bool.{false≢true, cases_lt}
use Rattle.std.proofs.lemmas.List.{length-map}
use Rattle.std.proofs.lemmas.Option.{slice_get-get_or, slice_get_within}
use Rattle.term_table.specs.declared.rows.TermRow.{TermRow}
use Rattle.segment_parts.specs.Agree.{IsTermAt}
use Rattle.segment_parts.specs.Lists.{terms_of}
use Rattle.segment_parts.proofs.given_terms.are_terms.Goals as goal

pub is_term_at-requires : goal.is_term_at-requires
is_term_at-requires c = omega (arith, c.terms-test.true, ap length c.as_slice-ordinal-end.ensures.rows)

pub returns-then-not-is_term_at : goal.returns-then-not-is_term_at
returns-then-not-is_term_at c =
    let terms = terms_of c.args.columns.now in
    let inside : c.terms.ordinal < length terms = omega (arith, c.terms-test.true, ap length c.as_slice-ordinal-end.ensures.rows, length-map c.args.columns.now.terms (λ (row : TermRow). row.term)) in
    let own : slice_get terms c.terms.ordinal ≡ Some (get_or terms c.terms.ordinal (0, [])) = slice_get-get_or terms c.terms.ordinal (0, []) inside in
    (λ no. absurd (false≢true no), λ are. absurd (false≢true ((c.if-not-is_term_at.ensures (get_or terms c.terms.ordinal (0, [])) own).1 (are c.terms.ordinal _ own))))

pub terms-preserved : goal.terms-preserved
terms-preserved c = λ ordinal term below is.
    elim (cases_lt ordinal c.terms.ordinal) [
      | inl before ↦ c.terms.invariant ordinal term before is
      | inr from ↦
          let same : ordinal ≡ c.terms.ordinal = omega arith in
          subst (λ at. IsTermAt c.args.columns.now at term) (sym same) ((c.if-not-is_term_at.ensures term (ap (slice_get (terms_of c.args.columns.now)) (sym same) ∙ is)).0 refl)
    ]

pub returns : goal.returns
returns c = (
  λ _ ordinal term is. c.terms.invariant ordinal term (omega (arith, slice_get_within (terms_of c.args.columns.now) ordinal term is, c.terms-test.false, ap length c.as_slice-ordinal-end.ensures.rows, length-map c.args.columns.now.terms (λ (row : TermRow). row.term))) is,
  λ _. refl,
)
