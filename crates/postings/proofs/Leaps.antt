-- Entries that a cursor leaps to: how they are kept, and what lies before them.
use Rattle.std.proofs.Common.{◌≡◌, ℕ, zero, suc, ◌+◌, ◌-◌, ◌*◌, ◌<◌, ◌≤◌, Bool, false, List, [], length, get_or, drop, Some, refl, sym, ap, subst, ◌∙◌, arith}
use Rattle.std.specs.List.{flat_map}
use Rattle.std.specs.Option.{option_map}
use Rattle.std.proofs.lemmas.Bool.{false≢true}
use Rattle.std.proofs.lemmas.Option.{slice_get-get_or}
use Rattle.std.proofs.lemmas.List.{length-drop, drop-drop}
use Rattle.part_text.specs.Front.{first_u32}
use Rattle.term_table.specs.Postings.{ArePostings}
use Rattle.term_table.specs.Part.{posting_text}
use Rattle.postings.specs.Postings.{present_document, place_from}
use Rattle.postings.specs.Kept.{postings_of, IsList, IsAt}
use Rattle.postings.specs.Skips.{IsSkip}
use Rattle.postings.specs.declared.skips.Skip.{Skip}
use Rattle.postings.proofs.Entries.{Entry, entry_at}
use Rattle.postings.proofs.Lists.{list_count, list_entries, at_entry, at_next}
use Rattle.postings.proofs.Places.{document_less}
use Rattle.postings.proofs.Walks.{place_past}

-- ---- a walk over a list that keeps entries

-- the first `at` entries are passed
pub record IsWalk (text : List ℕ) (count at : ℕ) (rest : List ℕ) : Type 0 where
  pub is_at : IsAt (postings_of text) count at rest false
  pub behind : drop (length text - length rest) text ≡ rest
  pub shorter : length rest ≤ length text

pub walk_start : (text : List ℕ) (count : ℕ) (rest : List ℕ) → IsList text → 4 ≤ length text → count ≡ first_u32 text → rest ≡ drop 4 text → IsWalk text count 0 rest
walk_start text count rest is long counts here =
    let short : length rest ≡ length text - 4 = ap length here ∙ length-drop 4 text in
    let front : length text - length rest ≡ 4 = omega (arith, short, long) in
    record {
      is_at = record {
        are = is.are;
        counts = counts ∙ list_count text is;
        within = omega arith;
        here = here ∙ list_entries text is;
        plainly = λ so. absurd (false≢true so);
      };
      behind = ap (λ n. drop n text) front ∙ sym here;
      shorter = omega (arith, short);
    }

pub walk_more : (text : List ℕ) (count at : ℕ) (rest after : List ℕ) → IsWalk text count at rest → at < count → after ≡ drop (8 + 4 * first_u32 (drop 4 rest)) rest → IsWalk text count (at + 1) after
walk_more text count at rest after was below next =
    let width : ℕ = 8 + 4 * first_u32 (drop 4 rest) in
    let inside : at < length (postings_of text) = omega (arith, below, was.is_at.counts) in
    let e = at_entry (postings_of text) count at rest false (0, []) was.is_at inside in
    let room : width ≤ length rest = omega (arith, e.count, e.long) in
    let short : length after ≡ length rest - width = ap length next ∙ length-drop width rest in
    let front : length text - length after ≡ (length text - length rest) + width = omega (arith, short, room, was.shorter) in
    record {
      is_at = rw next (at_next (postings_of text) count at rest false was.is_at inside);
      behind =
          ap (λ n. drop n text) front
          ∙ sym (drop-drop width (length text - length rest) text) ∙ ap (drop width) was.behind ∙ sym next;
      shorter = omega (arith, short, was.shorter);
    }

-- the entry that the walk has reached
pub walk_skip : (text : List ℕ) (count at : ℕ) (rest : List ℕ) (skip : Skip) → IsWalk text count at rest → at < count → skip.at ≡ at → skip.document ≡ first_u32 rest → skip.offset ≡ length text - length rest → IsSkip text skip
walk_skip text count at rest skip was below own document offset =
    let there : drop skip.offset text ≡ rest = ap (λ n. drop n text) offset ∙ was.behind in
    record {
      inside = omega (arith, below, own, was.is_at.counts);
      document = ap first_u32 there ∙ sym document;
      here = there ∙ was.is_at.here ∙ ap (λ n. flat_map posting_text (drop n (postings_of text))) (sym own);
    }

-- ---- a leap

skip_entry : (text : List ℕ) (skip : Skip) → ArePostings (postings_of text) → IsSkip text skip → Entry (drop skip.offset text) (get_or (postings_of text) skip.at (0, [])) (flat_map posting_text (drop (skip.at + 1) (postings_of text)))
skip_entry text skip are is =
    subst (λ rest. Entry rest (get_or (postings_of text) skip.at (0, [])) (flat_map posting_text (drop (skip.at + 1) (postings_of text)))) (sym is.here) (entry_at (postings_of text) skip.at (0, []) are is.inside)

pub skip_within : (text : List ℕ) (skip : Skip) → ArePostings (postings_of text) → IsSkip text skip → skip.offset ≤ length text
skip_within text skip are is = omega (arith, (skip_entry text skip are is).long, length-drop skip.offset text)

pub skip_at : (text : List ℕ) (count at : ℕ) (rest : List ℕ) (plain : Bool) (skip : Skip) → IsAt (postings_of text) count at rest plain → IsSkip text skip → IsAt (postings_of text) count skip.at (drop skip.offset text) plain
skip_at text count at rest plain skip was is = record {
  are = was.are;
  counts = was.counts;
  within = omega (arith, is.inside, was.counts);
  here = is.here;
  plainly = was.plainly;
}

-- postings up to one before `to` are passed
place_leap : (to : ℕ) (postings : List (ℕ × List ℕ)) (at k : ℕ) (d : ℕ × List ℕ) → ArePostings postings → at + k < length postings → (get_or postings (at + k) d).0 < to → place_from to (record { postings = postings; at = at + k }) ≡ place_from to (record { postings = postings; at = at })
place_leap to postings at zero d are inside before =
    let same : at + zero ≡ at = omega arith in
    ap (λ n. place_from to (record { postings = postings; at = n })) same
place_leap to postings at (suc k) d are inside before =
    let less : (get_or postings (at + k) d).0 < (get_or postings (at + suc k) d).0 = document_less postings (at + k) (at + suc k) d are (omega arith) inside in
    let there : present_document (record { postings = postings; at = at + k }) ≡ Some (get_or postings (at + k) d).0 =
    ap (option_map (λ (posting : ℕ × List ℕ). posting.0)) (slice_get-get_or postings (at + k) d (omega (arith, inside))) in
    place_past to (record { postings = postings; at = at + k }) (record { postings = postings; at = at + suc k }) (get_or postings (at + k) d).0 there (omega (arith, less, before)) refl (omega (arith, inside))
    ∙ place_leap to postings at k d are (omega (arith, inside)) (omega (arith, less, before))

pub skip_place : (text : List ℕ) (at : ℕ) (skip : Skip) (to : ℕ) → ArePostings (postings_of text) → IsSkip text skip → at < skip.at → skip.document < to → place_from to (record { postings = postings_of text; at = skip.at }) ≡ place_from to (record { postings = postings_of text; at = at })
skip_place text at skip to are is ahead before =
    let postings : List (ℕ × List ℕ) = postings_of text in
    let k : ℕ = skip.at - at in
    let reach : at + k ≡ skip.at = omega (arith, ahead) in
    let own : (get_or postings (at + k) (0, [])).0 ≡ skip.document =
    ap (λ n. (get_or postings n (0, [])).0) reach ∙ sym (skip_entry text skip are is).document ∙ is.document in
    ap (λ n. place_from to (record { postings = postings; at = n })) (sym reach)
    ∙ place_leap to postings at k (0, []) are (omega (arith, reach, is.inside)) (omega (arith, own, before))
