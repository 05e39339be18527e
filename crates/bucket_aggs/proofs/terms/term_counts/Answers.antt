use Rattle.std.proofs.Common.{◌+◌, ℕ, List, [], count_by, get_or, ap, subst, ◌∙◌}
use Rattle.postings.specs.Postings.{ArePostings}
use Rattle.term_table.specs.Terms.{AreAscending}
use Rattle.bucket_aggs.specs.Counts.{is_posted}
use Rattle.bucket_aggs.proofs.Listed.{Postings, terms_counted}
use Rattle.bucket_aggs.proofs.Within.{ordinals_below}
use Rattle.bucket_aggs.proofs.terms.term_counts.Goals as goal

pub count_ordinals-requires : goal.count_ordinals-requires
count_ordinals-requires c = ordinals_below c.args.segment.now c.args.field c.args.set.now c.docs-agree.ensures.agree c.requires.long c.args.column.now c.requires.column

pub returns-then-end-first-clause-counted : goal.returns-then-end-first-clause-counted
returns-then-end-first-clause-counted c =
    let first : ℕ = c.args.first in
    let counts : List ℕ = c.in_ok-posting_counts.field-0.items in
    terms_counted c.args.segment.now c.args.field c.args.column.now c.args.set.now c.docs-agree.ensures.agree c.requires.column first c.args.end counts (subst AreAscending c.terms.ensures c.count-ascending.ensures.ascending) c.requires.ordered c.requires.within c.requires.range
    c.in_ok-posting_counts.ensures.long (λ k low. c.in_ok-posting_counts.ensures.each k low ∙ ap (λ (lists : List Postings). count_by (is_posted c.args.set.now) (get_or lists (first + k) [])) c.postings.ensures.postings)
    (λ k low. subst (λ (lists : List Postings). ArePostings (get_or lists (first + k) [])) c.postings.ensures.postings (c.in_ok-posting_counts.ensures.are k low))

pub returns-then-are_kept-clause-counted : goal.returns-then-are_kept-clause-counted
returns-then-are_kept-clause-counted c =
    terms_counted c.args.segment.now c.args.field c.args.column.now c.args.set.now c.docs-agree.ensures.agree c.requires.column c.args.first c.args.end c.in_ok-posting_sets.field-0.items (subst AreAscending c.terms.ensures c.count-ascending.ensures.ascending) c.requires.ordered c.requires.within c.requires.range
    c.in_ok-posting_sets.ensures.long c.in_ok-posting_sets.ensures.each c.in_ok-posting_sets.ensures.are
