use Rattle.std.proofs.Common.{◌+◌, ◌<◌, length, ap, ◌∙◌, arith}
use Rattle.postings.specs.Kept.{postings_of, list_text}
use Rattle.postings.proofs.Lists.{length-lists_of, list_at_row}
use Rattle.postings.proofs.entry.list_at.Goals as goal

pub row-requires-clause-below : goal.row-requires-clause-below
row-requires-clause-below c = omega (arith, c.requires.below, length-lists_of c.args.bytes.now c.args.places.now)

pub list_text-requires : goal.list_text-requires
list_text-requires c =
    let below : c.args.ordinal + 1 < length c.args.places.now = omega (arith, c.requires.below, length-lists_of c.args.bytes.now c.args.places.now) in
    let own = list_at_row c.args.bytes.now c.args.places.now c.args.ordinal c.requires.table below in
    rw c.row.ensures own.0.has_term

pub returns-clause-list : goal.returns-clause-list
returns-clause-list c =
    let below : c.args.ordinal + 1 < length c.args.places.now = omega (arith, c.requires.below, length-lists_of c.args.bytes.now c.args.places.now) in
    let own = list_at_row c.args.bytes.now c.args.places.now c.args.ordinal c.requires.table below in
    rw (c.list_text.ensures, c.row.ensures) own.0.list_is

pub returns-clause-postings : goal.returns-clause-postings
returns-clause-postings c =
    let below : c.args.ordinal + 1 < length c.args.places.now = omega (arith, c.requires.below, length-lists_of c.args.bytes.now c.args.places.now) in
    let own = list_at_row c.args.bytes.now c.args.places.now c.args.ordinal c.requires.table below in
    ap postings_of (c.list_text.ensures ∙ ap list_text c.row.ensures) ∙ own.1
