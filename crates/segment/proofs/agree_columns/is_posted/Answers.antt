use Rattle.std.proofs.Common.{◌∙◌, ap, [], slice_index_or, ℕ, List}
use Rattle.segment_parts.specs.Lists.{postings_of}
use Rattle.segment.proofs.Ordered.{posted_some, posted_none}
use Rattle.segment.proofs.agree_columns.is_posted.Goals as goal

pub returns-in-Some : goal.returns-in-Some
returns-in-Some c =
    posted_some (slice_index_or (postings_of c.args.parts.now) c.args.ordinal []) c.args.doc c.in-Some.own c.cursor-cursor.result c.advance.new.self
    (record {
      own = c.cursor-cursor.ensures ∙ ap (λ (lists : List (List (ℕ × List ℕ))). record { postings = slice_index_or lists c.args.ordinal []; at = 0 }) c.postings.ensures;
      same = c.in-Some.ensures.postings;
      place = c.in-Some.ensures.place;
      ascend = c.doc-first.ensures.postings.documents_are.ascending;
    }) c.in-Some.ensures.document

pub returns-in-None : goal.returns-in-None
returns-in-None c =
    posted_none (slice_index_or (postings_of c.args.parts.now) c.args.ordinal []) c.args.doc c.cursor-cursor.result c.advance.new.self
    (record {
      own = c.cursor-cursor.ensures ∙ ap (λ (lists : List (List (ℕ × List ℕ))). record { postings = slice_index_or lists c.args.ordinal []; at = 0 }) c.postings.ensures;
      same = c.in-None.ensures.postings;
      place = c.in-None.ensures.place;
      ascend = c.doc-first.ensures.postings.documents_are.ascending;
    }) c.in-None.ensures.document
