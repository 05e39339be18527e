-- From ranges of ordinals to the terms that documents have.
use Rattle.std.proofs.Common.{◌≡◌, ℕ, ◌<◌, Bool, false, ◌&&◌, ◌||◌, List, length, get_or, take, drop, ap, ◌∙◌, nat_eq}
use Rattle.std.specs.List.{list_any}
use Rattle.postings.specs.Marks.{has_document}
use Rattle.segment.specs.Flat.{flat_of}
use Rattle.segment.specs.Lists.{terms_of, postings_of}
use Rattle.segment_parts.specs.declared.columns.Columns.{Columns}
use Rattle.term_table.specs.Ranges.{IsRange}
use Rattle.leaf_search.specs.Sets.{Gains}
use Rattle.segment.specs.Shows.{has_term, posts}
use Rattle.leaf_search.proofs.Listing.{range_posts}

pub gains_range : (c : Columns) (field : ℕ) (test : List ℕ → Bool) (first end : ℕ) (old new : List Bool)
    → ((doc : ℕ) → list_any (posts field doc test) c.terms ≡ has_term field test (flat_of c doc))
    → IsRange (λ (term : ℕ × List ℕ). nat_eq term.0 field && test term.1) (terms_of c) first end
    → length new ≡ length old
    → ((doc : ℕ) → doc < length old → get_or new doc false ≡ (get_or old doc false || list_any (has_document doc) (drop first (take end (postings_of c)))))
    → Gains c (has_term field test) old new
gains_range c field test first end old new law range long marked = record {
  long = long;
  marked = λ doc inside. marked doc inside
      ∙ ap (λ (b : Bool). get_or old doc false || b) (range_posts doc (λ (term : ℕ × List ℕ). nat_eq term.0 field && test term.1) c.terms first end range ∙ law doc);
}
