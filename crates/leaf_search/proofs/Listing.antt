-- Lists of postings put into a set one after the other, and the terms whose lists they are.
use Rattle.std.proofs.Common.{◌≡◌, ℕ, zero, suc, ◌+◌, ◌<◌, ◌≤◌, Bool, true, false, ◌&&◌, ◌||◌, List, [], ◌∷◌, ◌++◌, length, map, get_or, take, drop, slice_get, Some, refl, sym, ap, ◌∙◌, arith, length-take, length-take-le}
use Rattle.std.specs.List.{list_any}
use Rattle.std.proofs.lemmas.Bool.{false_from_ne_true}
use Rattle.std.proofs.lemmas.List.{drop-append-le, take_more, drop_all, length-map}
use Rattle.std.proofs.lemmas.List.Folds.{list_any-append}
use Rattle.postings.specs.Marks.{has_document}
use Rattle.term_table.specs.Ranges.{IsRange}
use Rattle.term_table.specs.declared.rows.TermRow.{TermRow}
use Rattle.leaf_search.proofs.Tests.{or_false, or_assoc}

-- the lists from the first up to a place are in the set besides what was there
pub record IsListing (lists : List (List (ℕ × List ℕ))) (first at : ℕ) (old now : List Bool) : Type 0 where
  pub long : length now ≡ length old
  pub marked : (doc : ℕ) → doc < length old → get_or now doc false ≡ (get_or old doc false || list_any (has_document doc) (drop first (take at lists)))

pub listing_none : (lists : List (List (ℕ × List ℕ))) (first : ℕ) (old : List Bool) → IsListing lists first first old old
listing_none lists first old = record {
  long = refl;
  marked = λ doc inside.
      let none : drop first (take first lists) ≡ [] = drop_all first (take first lists) (omega (arith, length-take first lists)) in
      rw none (sym (or_false (get_or old doc false)));
}

one_more : {X : Type 0} (xs : List X) (first at : ℕ) (d : X) → first ≤ at → at < length xs → drop first (take (at + 1) xs) ≡ drop first (take at xs) ++ get_or xs at d ∷ []
one_more xs first at d from inside =
    ap (drop first) (take_more xs at d inside)
    ∙ drop-append-le first (take at xs) (get_or xs at d ∷ []) (omega (arith, length-take-le at xs (omega arith)))

pub listing_more : (lists : List (List (ℕ × List ℕ))) (first at : ℕ) (old now new : List Bool) → IsListing lists first at old now → first ≤ at → at < length lists → length new ≡ length now
    → ((doc : ℕ) → doc < length now → get_or new doc false ≡ (get_or now doc false || has_document doc (get_or lists at []))) → IsListing lists first (at + 1) old new
listing_more lists first at old now new was from inside long more = record {
  long = long ∙ was.long;
  marked = λ doc within.
      let own : ℕ → Bool = λ doc. has_document doc (get_or lists at []) in
      let before : Bool = list_any (has_document doc) (drop first (take at lists)) in
      more doc (omega (arith, was.long))
      ∙ ap (λ (b : Bool). b || own doc) (was.marked doc within)
      ∙ or_assoc (get_or old doc false) before (own doc)
      ∙ ap (λ (b : Bool). get_or old doc false || b)
      (ap (λ (b : Bool). before || b) (sym (or_false (own doc)))
      ∙ sym (list_any-append (has_document doc) (drop first (take at lists)) (get_or lists at [] ∷ []))
      ∙ sym (ap (list_any (has_document doc)) (one_more lists first at [] from inside)));
}

-- ---- the terms of a range

abbrev posting_lists : List TermRow → List (List (ℕ × List ℕ))
posting_lists rows = map (λ (row : TermRow). row.postings) rows

abbrev terms_in : List TermRow → List (ℕ × List ℕ)
terms_in rows = map (λ (row : TermRow). row.term) rows

abbrev passes_in : ℕ → (ℕ × List ℕ → Bool) → TermRow → Bool
passes_in doc passes row = passes row.term && has_document doc row.postings

none_posts : (doc : ℕ) (passes : ℕ × List ℕ → Bool) (rows : List TermRow) → ((ordinal : ℕ) (term : ℕ × List ℕ) → slice_get (terms_in rows) ordinal ≡ Some term → passes term ≡ false) → list_any (passes_in doc passes) rows ≡ false
none_posts doc passes [] fails = refl
none_posts doc passes (row ∷ rows) fails =
    rw (fails 0 row.term refl) (none_posts doc passes rows (λ ordinal term is. fails (suc ordinal) term is))

nothing : {X : Type 0} (first : ℕ) (xs : List X) → drop first (take zero xs) ≡ []
nothing first xs = drop_all first (take zero xs) (omega arith)

pub range_posts : (doc : ℕ) (passes : ℕ × List ℕ → Bool) (rows : List TermRow) (first end : ℕ) → IsRange passes (terms_in rows) first end
    → list_any (has_document doc) (drop first (take end (posting_lists rows))) ≡ list_any (passes_in doc passes) rows
range_posts doc passes rows first zero range =
    ap (list_any (has_document doc)) (nothing first (posting_lists rows))
    ∙ sym (none_posts doc passes rows (λ ordinal term is. false_from_ne_true (passes term) (λ yes. absurd (omega (arith, ((range ordinal term is).1 yes).1)))))
range_posts doc passes [] zero (suc end) range = refl
range_posts doc passes [] (suc first) (suc end) range = refl
range_posts doc passes (row ∷ rows) zero (suc end) range =
    let here : passes row.term ≡ true = (range 0 row.term refl).0 (omega arith, omega arith) in
    let rest = range_posts doc passes rows zero end (λ ordinal term is.
    let there = range (suc ordinal) term is in
    ((λ w. there.0 (omega arith, omega (arith, w.1))), (λ yes. (omega arith, omega (arith, (there.1 yes).1))))) in
    rw here (ap (λ (b : Bool). has_document doc row.postings || b) rest)
range_posts doc passes (row ∷ rows) (suc first) (suc end) range =
    let never : passes row.term ≡ false = false_from_ne_true (passes row.term) (λ yes. absurd (omega (arith, ((range 0 row.term refl).1 yes).0))) in
    let rest = range_posts doc passes rows first end (λ ordinal term is.
    let there = range (suc ordinal) term is in
    ((λ w. there.0 (omega (arith, w.0), omega (arith, w.1))), (λ yes. (omega (arith, (there.1 yes).0), omega (arith, (there.1 yes).1))))) in
    rw never rest

-- the postings of one term, and of none
pub one_posts : (doc : ℕ) (passes : ℕ × List ℕ → Bool) (rows : List TermRow) (ordinal : ℕ) → ordinal < length (terms_in rows) → IsRange passes (terms_in rows) ordinal (ordinal + 1)
    → has_document doc (get_or (posting_lists rows) ordinal []) ≡ list_any (passes_in doc passes) rows
one_posts doc passes rows ordinal inside range =
    let lists : List (List (ℕ × List ℕ)) = posting_lists rows in
    let there : ordinal < length lists = omega (arith, inside, length-map rows (λ (row : TermRow). row.term), length-map rows (λ (row : TermRow). row.postings)) in
    let none : drop ordinal (take ordinal lists) ≡ [] = drop_all ordinal (take ordinal lists) (omega (arith, length-take-le ordinal lists (omega (arith, there)))) in
    let alone : drop ordinal (take (ordinal + 1) lists) ≡ get_or lists ordinal [] ∷ [] = one_more lists ordinal ordinal [] (omega arith) there ∙ ap (λ (l : List (List (ℕ × List ℕ))). l ++ get_or lists ordinal [] ∷ []) none in
    sym (ap (list_any (has_document doc)) alone ∙ or_false (has_document doc (get_or lists ordinal []))) ∙ range_posts doc passes rows ordinal (ordinal + 1) range

pub no_posts : (doc : ℕ) (passes : ℕ × List ℕ → Bool) (rows : List TermRow) → IsRange passes (terms_in rows) 0 0 → list_any (passes_in doc passes) rows ≡ false
no_posts doc passes rows range = sym (range_posts doc passes rows 0 0 range) ∙ ap (list_any (has_document doc)) (nothing 0 (posting_lists rows))

pub ruleset listing = (listing_none, listing_more)
