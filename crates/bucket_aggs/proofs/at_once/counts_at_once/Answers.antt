use Rattle.std.proofs.Common.{◌≡◌, ◌+◌, ◌-◌, ℕ, Bool, false, List, [], length, get_or, count_by, replicate, ap, subst, sym, ◌∙◌, arith, rules}
use Rattle.block_bits.specs.Flags.{is_marked}
use Rattle.postings.specs.Marks.{has_document}
use Rattle.query_eval.specs.Counted.{up_marks}
use Rattle.term_table.specs.Ranges.{IsRange, is_of_field}
use Rattle.segment_parts.specs.Lists.{postings_of, terms_of}
use Rattle.term_table.specs.Terms.{AreAscending}
use Rattle.bucket_aggs.specs.Counts.{cut_from}
use Rattle.bucket_aggs.proofs.Around.{one_more, posted_ups, sets_counted}
use Rattle.bucket_aggs.proofs.Termed.{of_range}
use Rattle.bucket_aggs.proofs.at_once.counts_at_once.Goals as goal

pub returns-clause-counted : goal.returns-clause-counted
returns-clause-counted c =
    let done : c.terms.ordinal ≡ c.args.end = omega (arith, c.terms-test.false, c.terms.auto.ordinal-end c.requires.ordered) in
    sets_counted c.args.segment.now c.args._field c.args._column.now c.args.set.now c.docs-documents.ensures.agree c.requires.column c.args.first c.args.end c.terms.counts.own.items (subst AreAscending c.terms-2.ensures c.count-ascending.ensures.ascending) c.requires.ordered c.requires.within c.requires.range
    (omega (arith, c.terms.invariant.0, done)) (λ k low. c.terms.invariant.1 k (omega (arith, low, done)))

pub returns-clause-ups : goal.returns-clause-ups
returns-clause-ups c =
    let columns = c.args.segment.now in
    let first : ℕ = c.args.first in
    let n : ℕ = c.args.end - first in
    let done : c.terms.ordinal ≡ c.args.end = omega (arith, c.terms-test.false, c.terms.auto.ordinal-end c.requires.ordered) in
    let whole : first + n ≡ c.args.end = omega (arith, c.requires.ordered) in
    let there : IsRange (is_of_field c.args._field) (terms_of columns) first (first + n) = subst (λ (e : ℕ). IsRange (is_of_field c.args._field) (terms_of columns) first e) (sym whole) c.requires.range in
    record {
      long = omega (arith, c.terms.invariant.2, done);
      each = λ k low.
          c.terms.invariant.3 k (omega (arith, low, done))
          ∙ posted_ups columns c.args.to c.args._field c.args._column.now c.args.set.now c.docs-documents.ensures.agree c.requires.column (first + k)
          (of_range (terms_of columns) c.args._field first n (subst AreAscending c.terms-2.ensures c.count-ascending.ensures.ascending) there (omega (arith, c.requires.within, whole)) k low);
    }

pub terms-init : goal.terms-init
terms-init c = (
  omega (arith, ap (λ (l : List ℕ). length l) c.requires.none),
  λ k low. absurd (omega (arith, low)),
  omega (arith, ap (λ (l : List ℕ). length l) c.requires.none_around),
  λ k low. absurd (omega (arith, low)),
  c.in_ok-marks.ensures ∙ ap (λ (n : ℕ). replicate n false) c.len.ensures,
)

pub terms-preserved : goal.terms-preserved
terms-preserved c =
    let columns = c.args.segment.now in
    let flags : List Bool = c.args.set.now in
    let first : ℕ = c.args.first in
    let n : ℕ = c.terms.ordinal - first in
    let here : c.terms.ordinal ≡ first + n = omega (arith, c.terms.auto.ordinal) in
    let next : c.terms.ordinal + 1 - first ≡ n + 1 = omega (arith, c.terms.auto.ordinal) in
    let own : ℕ → List Bool = λ o. cut_from (λ doc. has_document doc (get_or (postings_of columns) o [])) 0 flags in
    let count : c.in_ok-both.both.0 ≡ count_by is_marked (own (first + n)) = c.in_ok-both.ensures.count ∙ ap (λ (o : ℕ). count_by is_marked (own o)) here in
    let up : c.in_ok-both.both.1 ≡ up_marks columns c.args.to (own (first + n)) = c.in_ok-both.ensures.ups ∙ ap (λ (o : ℕ). up_marks columns c.args.to (own o)) here in (
      search rules,
      one_more (λ k. count_by is_marked (own (first + k))) c.terms.counts.own.items c.push.new.self.items n (c.terms.ordinal + 1 - first) c.in_ok-both.both.0 c.terms.invariant.0 next c.terms.invariant.1 count c.in_ok-push.ensures.items,
      search rules,
      one_more (λ k. up_marks columns c.args.to (own (first + k))) c.terms.counts.around.items c.push-in-terms.new.self.items n (c.terms.ordinal + 1 - first) c.in_ok-both.both.1 c.terms.invariant.2 next c.terms.invariant.3 up c.in_ok-push-2.ensures.items,
      c.in_ok-both.ensures.none,
    )
