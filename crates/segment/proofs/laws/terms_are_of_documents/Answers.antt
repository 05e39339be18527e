use Rattle.segment.proofs.FlatTerms.{terms_shown}
use Rattle.segment.proofs.FlatWords.{positions_shown, no_positions_shown, within_shown}
use Rattle.segment.proofs.laws.terms_are_of_documents.Goals as goal

pub returns-clause-terms : goal.returns-clause-terms
returns-clause-terms c = λ field doc test. terms_shown c.args.segment.now field doc test c.docs-documents.ensures.agree

pub returns-clause-words : goal.returns-clause-words
returns-clause-words c = λ field doc ordinal word test is. positions_shown c.args.segment.now field doc ordinal word test c.docs-documents.ensures.agree is

pub returns-clause-no_words : goal.returns-clause-no_words
returns-clause-no_words c = λ field doc word test never. no_positions_shown c.args.segment.now field doc word test never

pub returns-clause-within : goal.returns-clause-within
returns-clause-within c = λ ordinal. within_shown c.args.segment.now ordinal c.docs-documents.ensures.agree
