use Rattle.std.proofs.Common.{◌≡◌, ◌≤◌, ◌^◌, arith}
use Rattle.std.proofs.lemmas.Int.{ints}
use Rattle.nested_sort.specs.Documents.{number_in}
use Rattle.nested_sort.proofs.Numbering.{number_known, number_small}
use Rattle.nested_sort.proofs.rows.tree_number.Goals as goal

pub overflow_cast-result : goal.overflow_cast-result
overflow_cast-result c =
    let small : c.root_number-number.result ≤ 2 ^ 62 = number_small c.args._mapping.now c.args.segment.now c.root_of_doc-root.result c.root_number-number.result c.requires.fits c.root_of_doc-root.ensures.within c.root_number-number.ensures in
    omega (arith, ints)

pub returns : goal.returns
returns c =
    let small : c.root_number-number.result ≤ 2 ^ 62 = number_small c.args._mapping.now c.args.segment.now c.root_of_doc-root.result c.root_number-number.result c.requires.fits c.root_of_doc-root.ensures.within c.root_number-number.ensures in
    let is : c.root_number-number.result ≡ number_in c.args.segment.now c.args.doc =
    number_known c.args.segment.now c.args.doc c.root_of_doc-root.result c.root_number-number.result c.docs-documents.ensures.agree c.scopes_are_of_documents.ensures.sets c.root_of_doc-root.ensures.root c.root_number-number.ensures in
    omega (arith, ints)
