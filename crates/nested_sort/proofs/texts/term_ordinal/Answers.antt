use Rattle.nested_sort.proofs.Ordinals.{ordinal_mode, ordinal_within}
use Rattle.nested_sort.proofs.texts.term_ordinal.Goals as goal

pub returns-clause-text : goal.returns-clause-text
returns-clause-text c =
    ordinal_mode c.args.terms.now c.args.asked.now.field c.count-ascending.ensures.ascending c.args.asked.now.mode c.args.ordinals.now c.ordinal_of.result c.ordinal_of.ensures c.requires.mode c.requires.terms

pub returns-clause-within : goal.returns-clause-within
returns-clause-within c =
    ordinal_within c.args.terms.now c.args.asked.now.field c.count-ascending.ensures.ascending c.args.asked.now.mode c.args.ordinals.now c.ordinal_of.result c.ordinal_of.ensures c.requires.terms
