use Rattle.store_opening.proofs.Whole.{whole_of}
use Rattle.store_opening.proofs.opening.told_by.Goals as goal

pub returns-clause-fits : goal.returns-clause-fits
returns-clause-fits c =
    let commit = c.args.found.commit in
    whole_of c.requires.0 c.args.found.at c.args.found.len commit.record commit.mapping commit.view c.requires.1.said
