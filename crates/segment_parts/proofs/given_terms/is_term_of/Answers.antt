use Rattle.segment_parts.proofs.given_terms.is_term_of.Goals as goal

pub returns-in-Some-get : goal.returns-in-Some-get
returns-in-Some-get c = rw (← c.in-None.ensures, ← c.in-Some-get.ensures) c.are_keyword.ensures

pub returns-in-Some-get-2 : goal.returns-in-Some-get-2
returns-in-Some-get-2 c = rw (← c.in-None.ensures, ← c.in-None-get.ensures, ← c.in-Some-get-2.ensures) c.are_number.ensures
