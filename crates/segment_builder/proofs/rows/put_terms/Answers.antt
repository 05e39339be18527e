use Rattle.std.proofs.Common.{◌≡◌, ◌+◌, ◌++◌, length, take, drop, ap, ◌∙◌, arith}
use Rattle.std.specs.List.{flat_map}
use Rattle.part_text.specs.Text.{u64_text}
use Rattle.term_table.specs.Part.{row_text}
use Rattle.segment_builder.specs.Columns.{terms_in, terms_lent}
use Rattle.segment_builder.specs.Terms.{rows_in}
use Rattle.segment_builder.proofs.Columned.{each_row, rows_are}
use Rattle.segment_builder.proofs.Lent.{as_many_rows}
use Rattle.segment_builder.proofs.Listed.{put_numbered, zero_stands}
use Rattle.segment_builder.proofs.rows.put_terms.Goals as goal

pub put_fields-requires : goal.put_fields-requires
put_fields-requires c = each_row c.requires.0 c.requires.1 c.requires.2 (rows_in c.args.fields.now) c.requires.3

pub overwrite_u64-requires : goal.overwrite_u64-requires
overwrite_u64-requires c =
    let stands = zero_stands c.args.into.now.items c.put_u64.new.into.items c.put_fields.new.into.items (flat_map row_text (rows_in c.args.fields.now)) c.in_ok-put_u64.ensures.put c.in_ok-put_fields.ensures.text in
    omega (arith, c.len-at.ensures, stands.1)

pub returns-clause-rows : goal.returns-clause-rows
returns-clause-rows c =
    let terms : terms_lent c.put_fields.new.terms.items ≡ terms_in (rows_in c.args.fields.now) =
    c.in_ok-put_fields.ensures.terms ∙ ap (λ front. terms_lent front ++ terms_in (rows_in c.args.fields.now)) c.new-terms.ensures.items in
    let count = as_many_rows c.put_fields.new.terms.items (rows_in c.args.fields.now) terms in
    rows_are c.requires.0 c.requires.1 c.requires.2 (rows_in c.args.fields.now) (omega (arith, c.len.ensures, c.len.type_inv, count)) c.requires.3

pub returns-clause-text : goal.returns-clause-text
returns-clause-text c =
    let old = c.args.into.now.items in
    let all = c.put_fields.new.into.items in
    let rows = rows_in c.args.fields.now in
    let terms : terms_lent c.put_fields.new.terms.items ≡ terms_in rows =
    c.in_ok-put_fields.ensures.terms ∙ ap (λ front. terms_lent front ++ terms_in (rows_in c.args.fields.now)) c.new-terms.ensures.items in
    let at : c.len-at.result ≡ length old = omega (arith, c.len-at.ensures) in
    let count : c.len.result ≡ length rows = omega (arith, c.len.ensures, as_many_rows c.put_fields.new.terms.items rows terms) in
    let over : c.overwrite_u64.new.into.items ≡ take (length old) all ++ (u64_text (length rows) ++ drop (length old + 8) all) =
    c.overwrite_u64.ensures ∙ ap (λ n. take n all ++ (u64_text c.len.result ++ drop (n + 8) all)) at ∙ ap (λ n. take (length old) all ++ (u64_text n ++ drop (length old + 8) all)) count in
    put_numbered (length rows) old c.put_u64.new.into.items all c.overwrite_u64.new.into.items (flat_map row_text rows)
    c.in_ok-put_u64.ensures.put
    c.in_ok-put_fields.ensures.text
    over
