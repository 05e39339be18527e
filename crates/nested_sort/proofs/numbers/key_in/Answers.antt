use Rattle.std.proofs.Common.{sym, ◌∙◌}
use Rattle.nested_sort.specs.Documents.{docs_inside, question_of}
use Rattle.nested_sort.proofs.Gathers.{numbers_key, own_some}
use Rattle.nested_sort.proofs.numbers.key_in.Goals as goal

pub returns-then-is_some : goal.returns-then-is_some
returns-then-is_some c =
    own_some c.args.segment.now c.args.asked.now.field c.args.place c.args.asked.now.scope c.args.doc c.args.asked.now.mode c.args.asked.now.missing.now c.args.asked.now.chain.now c.args.asked.now.filters.now
    c.own_number-own.result c.own_number-own.ensures.chain c.own_number-own.ensures.only c.own_number-own.ensures.mode (sym c.is_some.ensures ∙ c.if-is_some.true)

pub returns : goal.returns
returns c =
    numbers_key c.args.segment.now c.args.asked.now.field (docs_inside c.args.segment.now c.args.place (question_of c.args.asked.now) c.args.doc) c.gather_numbers.new.values.items c.args.asked.now.mode c.args.asked.now.missing.now
    c.in_ok-number_of.field-0 c.number_or.result c.in_ok-gather_numbers.ensures c.in_ok-number_of.ensures c.number_or.ensures
