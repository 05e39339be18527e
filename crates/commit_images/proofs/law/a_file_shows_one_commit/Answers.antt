use Rattle.commit_images.specs.Once.{same_body, found_once}
use Rattle.commit_images.proofs.law.a_file_shows_one_commit.Goals as goal

pub returns-clause-body : goal.returns-clause-body
returns-clause-body g c = λ limit file one other placed others finds found. same_body (g.S.Saying.IsGood limit) file one other placed others finds found

pub returns-clause-once : goal.returns-clause-once
returns-clause-once g c = λ limit file one other told found others. found_once (g.S.Saying.IsGood limit) file one other told found others
