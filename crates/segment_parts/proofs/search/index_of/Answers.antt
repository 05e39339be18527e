use Rattle.std.proofs.Common.{rules}
use Rattle.std.proofs.lemmas.List.Sorted.{answers_always}
use Rattle.segment_parts.proofs.Numbered.{found_row, missing_row}
use Rattle.segment_parts.proofs.search.index_of.Goals as goal

pub returns-in-Ok-clause-found : goal.returns-in-Ok-clause-found
returns-in-Ok-clause-found g c =
    let by_number = c.in-Ok.ensures.position (λ row. row.0) (answers_always _ _ _ (λ f a r f' called. search rules)) in
    found_row c.args.rows.now c.args.number c.in-Ok.at c.in-Ok.ensures.bound by_number

pub returns-in-Err-clause-missing : goal.returns-in-Err-clause-missing
returns-in-Err-clause-missing g c =
    let by_number = c.in-Err.ensures.position (λ row. row.0) (answers_always _ _ _ (λ f a r f' called. search rules)) in
    missing_row c.args.rows.now c.args.number c.in-Err.field-0 c.requires by_number
