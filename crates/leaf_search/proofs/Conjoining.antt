-- The documents of the lead that have all terms, one by one.
use Rattle.std.proofs.Common.{◌≡◌, ℕ, zero, suc, ◌+◌, ◌<◌, ◌≤◌, min, Bool, true, false, ◌&&◌, cond, List, [], ◌∷◌, ◌++◌, length, map, get_or, set, take, drop, replicate, All, Some, None, refl, sym, ap, subst, ◌∙◌, arith}
use Rattle.std.proofs.Math.Seq.{split_at}
use Rattle.std.proofs.lemmas.Bool.{and_parts}
use Rattle.std.proofs.lemmas.List.{map-append, map_more}
use Rattle.std.proofs.lemmas.List.Elements.{All-append, All-cons, All-nil}
use Rattle.postings.specs.Marks.{has_document}
use Rattle.postings.specs.Postings.{ArePostings, Standing, present_document}
use Rattle.segment.specs.Lists.{postings_of}
use Rattle.segment_parts.specs.declared.columns.Columns.{Columns}
use Rattle.leaf_search.specs.Cursors.{IsBehind, lists_in}
use Rattle.leaf_search.specs.Sets.{Marks}
use Rattle.leaf_search.specs.Words.{lists_at, posted}
use Rattle.leaf_search.proofs.Around.{posted_means}
use Rattle.leaf_search.proofs.Going.{Ready, past_end, present_at, ready_first, ready_next}
use Rattle.leaf_search.proofs.Selecting.{AreTaken, taken_all, taken_more, taken_none}

drop_both : {X : Type 0} (n : ℕ) (xs : List X) → drop 1 (drop n xs) ≡ drop (suc n) xs
drop_both zero [] = refl
drop_both zero (x ∷ xs) = refl
drop_both (suc n) [] = refl
drop_both (suc n) (x ∷ xs) = drop_both n xs

-- one more cursor
pub cursors_more : (lists : List (List (ℕ × List ℕ))) (ordinals : List ℕ) (at : ℕ) (items new : List Standing) (own : Standing) → at < length ordinals → lists_in items ≡ lists_at lists (take at ordinals) → All (IsBehind 0) items
    → own.postings ≡ get_or lists (get_or ordinals at 0) [] → IsBehind 0 own → new ≡ items ++ own ∷ [] → (lists_in new ≡ lists_at lists (take (at + 1) ordinals)) × All (IsBehind 0) new
cursors_more lists ordinals at items new own inside was all is behind pushed =
    let list_of : ℕ → List (ℕ × List ℕ) = λ ordinal. get_or lists ordinal [] in
    let postings_in : Standing → List (ℕ × List ℕ) = λ (cursor : Standing). cursor.postings in (
      ap lists_in pushed
          ∙ map-append postings_in items (own ∷ [])
          ∙ ap (λ (l : List (List (ℕ × List ℕ))). l ++ own.postings ∷ []) was
          ∙ ap (λ (l : List (ℕ × List ℕ)). map list_of (take at ordinals) ++ l ∷ []) is
          ∙ sym (map_more list_of ordinals at 0 inside),
      subst (All (IsBehind 0)) (sym pushed) (All-append (IsBehind 0) items (own ∷ []) all (All-cons (IsBehind 0) own [] behind (All-nil (IsBehind 0)))),
    )

abbrev pub takes_of : List Bool → List Bool → Bool → List (List (ℕ × List ℕ)) → ℕ → Bool
takes_of lives scope in_order lists doc = get_or lives doc false && (get_or scope doc false && posted in_order lists doc)

pub record AreSelecting (documents : ℕ) (lives scope : List Bool) (in_order : Bool) (lists : List (List (ℕ × List ℕ))) (before : List Standing) (own : Standing) (behind : List Standing) (found : List Bool) : Type 0 where
  pub is : lists_in before ++ own.postings ∷ lists_in behind ≡ lists
  pub are : ArePostings own.postings
  pub numbered : All (λ (posting : ℕ × List ℕ). posting.0 < documents) own.postings
  pub within : own.at ≤ length own.postings
  pub before_ready : Ready own before
  pub behind_ready : Ready own behind
  pub taken : AreTaken (takes_of lives scope in_order lists) own.postings own.at documents found

pub selecting_first : (c : Columns) (lives scope : List Bool) (in_order : Bool) (ordinals : List ℕ) (lead : ℕ) (before : List Standing) (own : Standing) (behind : List Standing) (empty : List Bool) → lead < length ordinals
    → lists_in before ≡ lists_at (postings_of c) (take lead ordinals) → lists_in behind ≡ lists_at (postings_of c) (drop 1 (drop lead ordinals)) → own.postings ≡ get_or (postings_of c) (get_or ordinals lead 0) [] → own.at ≡ 0
    → All (IsBehind 0) before → IsBehind 0 own → All (IsBehind 0) behind → ((ordinal : ℕ) → All (λ (posting : ℕ × List ℕ). posting.0 < c.documents) (get_or (postings_of c) ordinal [])) → empty ≡ replicate c.documents false
    → AreSelecting c.documents lives scope in_order (lists_at (postings_of c) ordinals) before own behind empty
selecting_first c lives scope in_order ordinals lead before own behind empty inside first rest own_list start first_behind own_behind rest_behind numbered none =
    let list_of : ℕ → List (ℕ × List ℕ) = λ ordinal. get_or (postings_of c) ordinal [] in
    let split : ordinals ≡ take lead ordinals ++ get_or ordinals lead 0 ∷ drop (suc lead) ordinals = split_at ordinals lead 0 inside in
    let last : lists_in behind ≡ map list_of (drop (suc lead) ordinals) = rest ∙ ap (map list_of) (drop_both lead ordinals) in
    record {
      is =
          ap (λ (l : List (List (ℕ × List ℕ))). l ++ own.postings ∷ lists_in behind) first
          ∙ ap (λ (l : List (ℕ × List ℕ)). map list_of (take lead ordinals) ++ l ∷ lists_in behind) own_list
          ∙ ap (λ (l : List (List (ℕ × List ℕ))). map list_of (take lead ordinals) ++ list_of (get_or ordinals lead 0) ∷ l) last
          ∙ sym (map-append list_of (take lead ordinals) (get_or ordinals lead 0 ∷ drop (suc lead) ordinals))
          ∙ sym (ap (map list_of) split);
      are = own_behind.are;
      numbered = subst (All (λ (posting : ℕ × List ℕ). posting.0 < c.documents)) (sym own_list) (numbered (get_or ordinals lead 0));
      within = omega (arith, start);
      before_ready = ready_first own before first_behind;
      behind_ready = ready_first own behind rest_behind;
      taken = subst (λ (at : ℕ). AreTaken (takes_of lives scope in_order (lists_at (postings_of c) ordinals)) own.postings at c.documents empty) (sym start)
          (taken_none (takes_of lives scope in_order (lists_at (postings_of c) ordinals)) own.postings c.documents empty none);
    }

-- the document at which the lead stands
pub numbered_below : (documents : ℕ) (own : Standing) (doc : ℕ) → All (λ (posting : ℕ × List ℕ). posting.0 < documents) own.postings → Some doc ≡ present_document own → doc < documents
numbered_below documents own doc numbered is =
    let here = present_at own doc is in
    omega (arith, here.document, numbered own.at (0, []) here.inside)

pub selecting_more : (documents : ℕ) (lives scope : List Bool) (in_order : Bool) (lists : List (List (ℕ × List ℕ))) (before before2 : List Standing) (own own2 : Standing) (behind behind2 : List Standing) (taken taken2 : List Bool) (doc : ℕ) (found : Bool)
    → AreSelecting documents lives scope in_order lists before own behind taken → Some doc ≡ present_document own
    → lists_in before2 ≡ lists_in before → lists_in behind2 ≡ lists_in behind → All (IsBehind (doc + 1)) before2 → All (IsBehind (doc + 1)) behind2
    → found ≡ takes_of lives scope in_order (lists_in before ++ own.postings ∷ lists_in behind) doc → taken2 ≡ cond found (set taken doc true) taken
    → own2.postings ≡ own.postings → own2.at ≡ min (own.at + 1) (length own.postings)
    → AreSelecting documents lives scope in_order lists before2 own2 behind2 taken2
selecting_more documents lives scope in_order lists before before2 own own2 behind behind2 taken taken2 doc found was is before_same behind_same before_passed behind_passed says made same moved =
    let here = present_at own doc is in
    let keep : ℕ → Bool = takes_of lives scope in_order lists in
    let at : own2.at ≡ own.at + 1 = omega (arith, moved, here.inside) in
    let more : AreTaken keep own.postings (own.at + 1) documents taken2 =
    taken_more keep own.postings own.at documents taken taken2 doc found was.taken here.inside here.document (numbered_below documents own doc was.numbered is)
    (says ∙ ap (λ (l : List (List (ℕ × List ℕ))). takes_of lives scope in_order l doc) was.is) made in
    record {
      is =
          ap (λ (l : List (List (ℕ × List ℕ))). l ++ own2.postings ∷ lists_in behind2) before_same
          ∙ ap (λ (l : List (ℕ × List ℕ)). lists_in before ++ l ∷ lists_in behind2) same
          ∙ ap (λ (l : List (List (ℕ × List ℕ))). lists_in before ++ own.postings ∷ l) behind_same
          ∙ was.is;
      are = subst ArePostings (sym same) was.are;
      numbered = subst (All (λ (posting : ℕ × List ℕ). posting.0 < documents)) (sym same) was.numbered;
      within = omega (arith, at, here.inside, ap length same);
      before_ready = ready_next own own2 doc before2 was.are is same moved before_passed;
      behind_ready = ready_next own own2 doc behind2 was.are is same moved behind_passed;
      taken = subst (λ (l : List (ℕ × List ℕ)). AreTaken keep l own2.at documents taken2) (sym same) (subst (λ (k : ℕ). AreTaken keep own.postings k documents taken2) (sym at) more);
    }

pub selecting_all : (documents : ℕ) (lives scope : List Bool) (in_order : Bool) (lists : List (List (ℕ × List ℕ))) (before : List Standing) (own : Standing) (behind : List Standing) (taken : List Bool)
    → AreSelecting documents lives scope in_order lists before own behind taken → length lives ≡ documents → None ≡ present_document own → Marks (length lives) (takes_of lives scope in_order lists) taken
selecting_all documents lives scope in_order lists before own behind taken was long is =
    let keep : ℕ → Bool = takes_of lives scope in_order lists in
    let first : List (List (ℕ × List ℕ)) = lists_in before in
    let whole : List (List (ℕ × List ℕ)) = first ++ own.postings ∷ lists_in behind in
    subst (λ (n : ℕ). Marks n keep taken) (sym long)
    (taken_all keep own.postings own.at documents taken was.taken (past_end own is)
    (λ doc says.
    let outer = and_parts (get_or lives doc false) (get_or scope doc false && posted in_order lists doc) says in
    let inner = and_parts (get_or scope doc false) (posted in_order lists doc) outer.1 in
    lead_has in_order first own.postings (lists_in behind) doc (ap (λ (l : List (List (ℕ × List ℕ))). posted in_order l doc) was.is ∙ inner.1)))
  where
    at_middle : (first : List (List (ℕ × List ℕ))) (list : List (ℕ × List ℕ)) (rest : List (List (ℕ × List ℕ))) → (length first < length (first ++ list ∷ rest)) × (get_or (first ++ list ∷ rest) (length first) [] ≡ list)
    at_middle [] list rest = (omega arith, refl)
    at_middle (other ∷ first) list rest = let more = at_middle first list rest in (omega (arith, more.0), more.1)

    lead_has : (in_order : Bool) (first : List (List (ℕ × List ℕ))) (list : List (ℕ × List ℕ)) (rest : List (List (ℕ × List ℕ))) (doc : ℕ) → posted in_order (first ++ list ∷ rest) doc ≡ true → has_document doc list ≡ true
    lead_has in_order first list rest doc says =
        let middle = at_middle first list rest in
        sym (ap (has_document doc) middle.1) ∙ posted_means in_order (first ++ list ∷ rest) doc (length first) middle.0 says
