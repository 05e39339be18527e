use Rattle.std.proofs.Common.{◌≡◌, ◌||◌, Bool, false, List, [], length, replicate, get_or, ap, ◌∙◌, arith}
use Rattle.std.proofs.lemmas.List.{length-replicate}
use Rattle.postings.specs.Marks.{has_document}
use Rattle.bucket_aggs.proofs.Cuts.{term_set_is}
use Rattle.bucket_aggs.proofs.Listed.{Postings}
use Rattle.bucket_aggs.proofs.posted.mark_term.Goals as goal

pub returns : goal.returns
returns c =
    let n = length c.args.set.now in
    let none : length c.args.own.now ≡ n = ap length c.requires.none ∙ length-replicate {A = Bool} n false in
    term_set_is c.args.segment.now c.args.set.now c.args.ordinal n c.mark.new.set c.and.new.self (c.mark.ensures.long ∙ none)
    (λ doc low.
    c.mark.ensures.marked doc (omega (arith, low, none))
    ∙ ap (λ (l : List Bool). get_or l doc false || has_document doc (get_or c.postings.result c.args.ordinal [])) c.requires.none
    ∙ ap (λ (lists : List Postings). get_or (replicate n false) doc false || has_document doc (get_or lists c.args.ordinal [])) c.postings.ensures.postings)
    c.and.ensures
