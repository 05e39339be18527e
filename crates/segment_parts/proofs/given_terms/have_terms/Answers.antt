use Rattle.segment_parts.proofs.given_terms.have_terms.Goals as goal

pub returns : goal.returns
returns c = (
  λ yes. record {
    terms = c.are_terms.ensures.0 c.if-not-are_terms.false;
    ordinals = c.have_ordinals.ensures.0 c.if-not-have_ordinals.false;
    numbers = c.have_keys.ensures.0 yes;
  },
  λ it. c.have_keys.ensures.1 it.numbers,
)
