use Rattle.one_commit.proofs.Told.{told}
use Rattle.one_commit.proofs.a_file_holds_one_commit.Goals as goal

pub returns : goal.returns
returns c = λ limit file one other few found also.
    c.a_file_shows_one_commit.ensures.once limit file one other
    (told c.words_are_of_one_set.ensures c.old_roots_have_one_text.ensures c.record_has_one_text.ensures.once limit few) found also
