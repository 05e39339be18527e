use Rattle.segment.proofs.FlatValues.{values_shown, keywords_shown, texts_shown, fit_shown}
use Rattle.segment.proofs.laws.values_are_of_documents.Goals as goal

pub returns-clause-numbers : goal.returns-clause-numbers
returns-clause-numbers c = λ field doc. values_shown doc field c.args.segment.now.numbers c.docs-documents.ensures.agree.parts.numbers_are.ascending

pub returns-clause-keywords : goal.returns-clause-keywords
returns-clause-keywords c = λ field doc. keywords_shown c.args.segment.now field doc c.docs-documents.ensures.agree

pub returns-clause-texts : goal.returns-clause-texts
returns-clause-texts c = λ field doc. texts_shown c.args.segment.now field doc c.docs-documents.ensures.agree

pub returns-clause-fit : goal.returns-clause-fit
returns-clause-fit c = λ doc. fit_shown c.args.segment.now doc c.docs-documents.ensures.agree
