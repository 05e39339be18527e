use Rattle.std.proofs.Common.{◌≡◌, ℕ, ◌+◌, ◌<◌, List, [], ◌∷◌, ◌++◌, length, drop, get_or, slice_get, Some, sym, ap, subst, ◌∙◌, append_assoc, append-nil, length-append, arith}
use Rattle.std.specs.List.{All, flat_map}
use Rattle.std.proofs.lemmas.Grind.{flat_map-append}
use Rattle.std.proofs.lemmas.Option.{slice_get_within}
use Rattle.postings.specs.Postings.{present_positions}
use Rattle.segment_parts.specs.Lists.{postings_of}
use Rattle.segment_parts.specs.declared.columns.Columns.{Columns}
use Rattle.term_table.specs.Part.{posting_text}
use Rattle.segment_merge.specs.Merged.{kept}
use Rattle.segment_merge.specs.Numbering.{PartState}
use Rattle.segment_merge.proofs.Posted.{kept_left, posting_within}
use Rattle.segment_merge.proofs.Steps.{end_left, next_left, posting_is}
use Rattle.segment_merge.proofs.terms.put_live.Goals as goal

pub put_if_live-requires-clause-within : goal.put_if_live-requires-clause-within
put_if_live-requires-clause-within c =
    let part : PartState = c.args.term.now.part.now in
    let own : List (ℕ × List ℕ) = c.postings.cursor.postings in
    let at : ℕ = c.postings.cursor.at in
    let here : slice_get own at ≡ Some (c.in-Some.doc, present_positions c.postings.cursor) = posting_is own at c.in-Some.doc (sym c.in-Some.ensures.document) in
    let within : All (λ (posting : ℕ × List ℕ). posting.0 < part.entry.columns.documents) (get_or (postings_of part.entry.columns) c.args.term.now.ordinal []) =
    subst (λ (cs : Columns). All (λ (posting : ℕ × List ℕ). posting.0 < cs.documents) (get_or (postings_of cs) c.args.term.now.ordinal [])) c.segment-segment.ensures.segment (c.terms_are_of_documents.ensures.within c.args.term.now.ordinal) in
    posting_within own (get_or (postings_of part.entry.columns) c.args.term.now.ordinal []) part.entry.columns.documents at c.in-Some.doc (present_positions c.postings.cursor) within c.postings.invariant.0 here

pub overflow_add-count : goal.overflow_add-count
overflow_add-count c =
    let part : PartState = c.args.term.now.part.now in
    let own : List (ℕ × List ℕ) = c.postings.cursor.postings in
    let at : ℕ = c.postings.cursor.at in
    let posting : ℕ × List ℕ = (c.in-Some.doc, present_positions c.postings.cursor) in
    let here : slice_get own at ≡ Some posting = posting_is own at c.in-Some.doc (sym c.in-Some.ensures.document) in
    let first : List (ℕ × List ℕ) = kept part.base part.entry.live.docs (posting ∷ []) in
    let rest : List (ℕ × List ℕ) = kept part.base part.entry.live.docs (drop (at + 1) own) in
    let both : length (kept part.base part.entry.live.docs (drop at own)) ≡ length first + length rest = ap (λ (ps : List (ℕ × List ℕ)). length ps) (kept_left part.base part.entry.live.docs own at posting here) ∙ length-append first rest in
    omega (arith, c.in_ok-count.ensures.count, both, c.postings.invariant.1, c.requires.few)

pub postings-smaller : goal.postings-smaller
postings-smaller c =
    let own : List (ℕ × List ℕ) = c.postings.cursor.postings in
    let at : ℕ = c.postings.cursor.at in
    let posting : ℕ × List ℕ = (c.in-Some.doc, present_positions c.postings.cursor) in
    let here : slice_get own at ≡ Some posting = posting_is own at c.in-Some.doc (sym c.in-Some.ensures.document) in
    let inside : at < length own = slice_get_within own at posting here in
    omega (arith, inside, c.next.ensures.place, ap (λ (ps : List (ℕ × List ℕ)). length ps) c.next.ensures.postings)

pub postings-preserved : goal.postings-preserved
postings-preserved c =
    let part : PartState = c.args.term.now.part.now in
    let own : List (ℕ × List ℕ) = c.postings.cursor.postings in
    let at : ℕ = c.postings.cursor.at in
    let posting : ℕ × List ℕ = (c.in-Some.doc, present_positions c.postings.cursor) in
    let here : slice_get own at ≡ Some posting = posting_is own at c.in-Some.doc (sym c.in-Some.ensures.document) in
    let inside : at < length own = slice_get_within own at posting here in
    let first : List (ℕ × List ℕ) = kept part.base part.entry.live.docs (posting ∷ []) in
    let rest : List (ℕ × List ℕ) = kept part.base part.entry.live.docs (drop (at + 1) own) in
    let split_up : kept part.base part.entry.live.docs (drop at own) ≡ first ++ rest = kept_left part.base part.entry.live.docs own at posting here in
    let left : drop c.next.new.self.at c.next.new.self.postings ≡ drop (at + 1) own = next_left own c.next.new.self.postings at c.next.new.self.at c.next.ensures.postings c.next.ensures.place inside in
    let both : length (kept part.base part.entry.live.docs (drop at own)) ≡ length first + length rest = ap (λ (ps : List (ℕ × List ℕ)). length ps) split_up ∙ length-append first rest in (
      c.next.ensures.postings ∙ c.postings.invariant.0,
      omega (arith, ap (λ (ps : List (ℕ × List ℕ)). length (kept part.base part.entry.live.docs ps)) left, c.in_ok-count.ensures.count, both, c.postings.invariant.1),
      ap (λ (ps : List (ℕ × List ℕ)). c.put_if_live.new.into.items ++ flat_map posting_text (kept part.base part.entry.live.docs ps)) left
          ∙ ap (λ (xs : List ℕ). xs ++ flat_map posting_text rest) c.in_ok-count.ensures.posting
          ∙ append_assoc c.postings.into.items (flat_map posting_text first) (flat_map posting_text rest)
          ∙ ap (λ (xs : List ℕ). c.postings.into.items ++ xs) (sym (flat_map-append posting_text first rest))
          ∙ ap (λ (ps : List (ℕ × List ℕ)). c.postings.into.items ++ flat_map posting_text ps) (sym split_up)
          ∙ c.postings.invariant.2,
    )

pub returns-clause-count : goal.returns-clause-count
returns-clause-count c =
    let part : PartState = c.args.term.now.part.now in
    let end = end_left c.postings.cursor.postings c.postings.cursor.at (sym c.in_default.ensures.document) in
    omega (arith, ap (λ (ps : List (ℕ × List ℕ)). length (kept part.base part.entry.live.docs ps)) end, c.postings.invariant.1)

pub returns-clause-postings : goal.returns-clause-postings
returns-clause-postings c =
    let part : PartState = c.args.term.now.part.now in
    let end = end_left c.postings.cursor.postings c.postings.cursor.at (sym c.in_default.ensures.document) in
    sym (append-nil c.postings.into.items)
    ∙ ap (λ (ps : List (ℕ × List ℕ)). c.postings.into.items ++ flat_map posting_text (kept part.base part.entry.live.docs ps)) (sym end)
    ∙ c.postings.invariant.2
