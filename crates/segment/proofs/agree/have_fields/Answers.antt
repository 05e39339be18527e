use Rattle.segment.proofs.agree.have_fields.Goals as goal

pub returns : goal.returns
returns c =
    let some = rw (c.as_slice.ensures.columns, c.present.ensures) at c.have_present.ensures in (
      λ yes. record {
        ordinals_apart = c.are_ordinals_apart.ensures.0 c.if-not-are_ordinals_apart.false;
        numbers_apart = c.are_numbers_apart.ensures.0 c.if-not-are_numbers_apart.false;
        ordinals_within = c.are_ordinals_within.ensures.0 c.if-not-are_ordinals_within.false;
        numbers_within = c.are_numbers_within.ensures.0 c.if-not-are_numbers_within.false;
        present_some = some.0 yes;
      },
      λ it. some.1 it.present_some,
    )
