use Rattle.std.proofs.Common.{Bool, List, [], get_or, count_by, ap, ◌∙◌}
use Rattle.block_bits.specs.Flags.{difference, is_marked}
use Rattle.postings.specs.Marks.{has_document}
use Rattle.query_eval.specs.Counted.{up_marks}
use Rattle.segment_parts.specs.Lists.{postings_of}
use Rattle.bucket_aggs.proofs.Around.{cut_emptied, term_cut}
use Rattle.bucket_aggs.proofs.at_once.count_at_once.Goals as goal

pub marked_ups-requires : goal.marked_ups-requires
marked_ups-requires c = c.mark_term.ensures.long ∙ c.requires.documents

pub returns-clause-count : goal.returns-clause-count
returns-clause-count c =
    c.from.ensures ∙ c.count-count.ensures ∙ ap (count_by is_marked) (term_cut c.args.segment.now c.args.set.now c.mark_term.new.own c.args.ordinal c.mark_term.ensures)

pub returns-clause-ups : goal.returns-clause-ups
returns-clause-ups c =
    c.from-2.ensures ∙ c.in_ok-up.ensures ∙ ap (up_marks c.args.segment.now c.args.to) (term_cut c.args.segment.now c.args.set.now c.mark_term.new.own c.args.ordinal c.mark_term.ensures)

pub returns-clause-none : goal.returns-clause-none
returns-clause-none c =
    let flags : List Bool = c.args.set.now in
    c.and_not.ensures
    ∙ ap (λ (own : List Bool). difference own flags) (term_cut c.args.segment.now flags c.mark_term.new.own c.args.ordinal c.mark_term.ensures)
    ∙ cut_emptied (λ doc. has_document doc (get_or (postings_of c.args.segment.now) c.args.ordinal [])) 0 flags
