use Rattle.segment.proofs.agree_terms.is_posting.Goals as goal

pub returns-in-Word : goal.returns-in-Word
returns-in-Word c = rw c.in-Word.is c.is_word.ensures

pub returns-in-Keyword : goal.returns-in-Keyword
returns-in-Keyword c = rw c.in-Keyword.is c.is_keyword.ensures

pub returns-in-Number : goal.returns-in-Number
returns-in-Number c = rw c.in-Number.is c.is_number.ensures
