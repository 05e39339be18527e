use Rattle.std.proofs.Common.{◌≡◌, ◌∙◌, ap, get_or, [], List, ℕ}
use Rattle.postings.specs.Postings.{Standing}
use Rattle.segment_parts.specs.Fields.{column_of}
use Rattle.segment_parts.specs.Lists.{postings_of}
use Rattle.segment.proofs.TermKinds.{of_word, of_keyword, of_number, numbers_fit}
use Rattle.segment.proofs.agree_terms.is_term_of.Goals as goal

pub returns-in-Some : goal.returns-in-Some
returns-in-Some c =
    let parts = c.args.parts.now in
    let same : c.cursor-cursor.result.postings ≡ get_or (postings_of parts) c.args.ordinal [] = ap (λ (s : Standing). s.postings) c.cursor-cursor.ensures ∙ ap (λ (lists : List (List (ℕ × List ℕ))). get_or lists c.args.ordinal []) c.postings.ensures in
    of_word c.in-Some.present.now (column_of c.args.field parts.present) (column_of c.args.field parts.ordinals) (column_of c.args.field parts.numbers) c.args.ordinal c.args.bytes.now c.cursor-cursor.result.postings (get_or (postings_of parts) c.args.ordinal []) c.are_postings.result
    (c.in-Some.ensures ∙ ap (column_of c.args.field) c.present.ensures) same c.are_postings.ensures

pub returns-in-Some-ordinals : goal.returns-in-Some-ordinals
returns-in-Some-ordinals c =
    let parts = c.args.parts.now in
    let same : c.cursor-cursor.result.postings ≡ get_or (postings_of parts) c.args.ordinal [] = ap (λ (s : Standing). s.postings) c.cursor-cursor.ensures ∙ ap (λ (lists : List (List (ℕ × List ℕ))). get_or lists c.args.ordinal []) c.postings.ensures in
    of_keyword c.in-Some-ordinals.rows (column_of c.args.field parts.present) (column_of c.args.field parts.ordinals) (column_of c.args.field parts.numbers) c.args.ordinal c.args.bytes.now c.cursor-cursor.result.postings (get_or (postings_of parts) c.args.ordinal []) c.are_postings-in-Some-ordinals.result
    (c.in_default.ensures ∙ ap (column_of c.args.field) c.present.ensures) c.in-Some-ordinals.ensures same c.are_postings-in-Some-ordinals.ensures

pub are_postings-requires-in-Some-numbers-clause-fits : goal.are_postings-requires-in-Some-numbers-clause-fits
are_postings-requires-in-Some-numbers-clause-fits c = numbers_fit c.args.parts.now.numbers c.args.field c.in-Some-numbers.rows c.bytes-parts.ensures.parts.numbers_are c.in-Some-numbers.ensures

pub returns-in-Some-numbers : goal.returns-in-Some-numbers
returns-in-Some-numbers c =
    let parts = c.args.parts.now in
    let same : c.cursor-cursor.result.postings ≡ get_or (postings_of parts) c.args.ordinal [] = ap (λ (s : Standing). s.postings) c.cursor-cursor.ensures ∙ ap (λ (lists : List (List (ℕ × List ℕ))). get_or lists c.args.ordinal []) c.postings.ensures in
    of_number c.in-Some-numbers.rows (column_of c.args.field parts.present) (column_of c.args.field parts.ordinals) (column_of c.args.field parts.numbers) c.args.ordinal c.args.bytes.now c.cursor-cursor.result.postings (get_or (postings_of parts) c.args.ordinal []) c.are_postings-in-Some-numbers.result
    (c.in_default.ensures ∙ ap (column_of c.args.field) c.present.ensures) c.in_default-ordinals.ensures c.in-Some-numbers.ensures same c.are_postings-in-Some-numbers.ensures
