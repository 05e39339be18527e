use Rattle.std.proofs.Common.{◌≡◌, ◌-◌, ◌&&◌, false, get_or, All}
use Rattle.segment.specs.Lists.{postings_of}
use Rattle.leaf_search.specs.Cursors.{IsBehind, lists_in}
use Rattle.leaf_search.specs.Words.{all_posted, lists_at, phrase_posted}
use Rattle.leaf_search.proofs.Narrowing.{AreNarrowed}
use Rattle.leaf_search.proofs.long_phrase.with_phrase.Given as goal

abbrev pub invariant-documents : goal.invariant-documents
invariant-documents l =
    AreNarrowed l.segment.documents (λ doc. get_or l.live doc false && (get_or l.scope doc false && all_posted (lists_at (postings_of l.segment) l.kept.items) doc)) (phrase_posted (lists_at (postings_of l.segment) l.ordinals)) l.from l.set
    × (lists_in l.cursors.items ≡ lists_at (postings_of l.segment) l.kept.items)
    × All (IsBehind l.from) l.cursors.items

abbrev pub decreases-documents : goal.decreases-documents
decreases-documents l = l.segment.documents - l.from
