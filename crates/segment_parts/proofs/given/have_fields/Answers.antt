use Rattle.segment_parts.proofs.given.have_fields.Goals as goal

pub returns : goal.returns
returns c =
    let some = rw c.as_slice.ensures.columns at c.have_present.ensures in (
      λ yes. record {
        ordinals_apart = c.are_ordinals_apart.ensures.0 c.if-not-are_ordinals_apart.false;
        numbers_apart = c.are_numbers_apart.ensures.0 c.if-not-are_numbers_apart.false;
        ordinals_within = c.are_within.ensures.0 c.if-not-are_within.false;
        numbers_within = c.are_within-2.ensures.0 c.if-not-are_within-2.false;
        present_some = some.0 yes;
      },
      λ it. some.1 it.present_some,
    )
