-- Cursors that go over documents in order.
use Rattle.std.specs.Prelude.{◌≡◌, ℕ, ◌<◌, ◌≤◌, List, [], length, map, slice_index_or, Some}
use Rattle.postings.specs.Postings.{ArePostings, Standing, present_document}

abbrev pub document_at : Standing → ℕ → ℕ
document_at cursor at = (slice_index_or cursor.postings at (0, [])).0

-- what it went over lies before a document
pub record IsBehind (doc : ℕ) (cursor : Standing) : Type 0 where
  pub are : ArePostings cursor.postings
  pub before : (at : ℕ) → at < cursor.at → at < length cursor.postings → document_at cursor at < doc

-- it stands at the first posting that isn't before a document
pub record IsAt (doc : ℕ) (cursor : Standing) : Type 0 where
  pub are : ArePostings cursor.postings
  pub before : (at : ℕ) → at < cursor.at → at < length cursor.postings → document_at cursor at < doc
  pub behind : (at : ℕ) → cursor.at ≤ at → at < length cursor.postings → doc ≤ document_at cursor at

-- it stands at a document
pub record IsOn (doc : ℕ) (cursor : Standing) : Type 0 where
  pub at : IsAt doc cursor
  pub here : present_document cursor ≡ Some doc

abbrev pub lists_in : List Standing → List (List (ℕ × List ℕ))
lists_in cursors = map (λ (cursor : Standing). cursor.postings) cursors
