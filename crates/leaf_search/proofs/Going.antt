-- Cursors that go to a document, and what stands there.
use Rattle.std.proofs.Common.{◌≡◌, ◌≢◌, ℕ, zero, suc, ◌+◌, ◌-◌, ◌<◌, ◌≤◌, min, Bool, true, false, ◌&&◌, List, [], ◌∷◌, length, get_or, set, take, drop, All, Option, Some, None, slice_get, refl, sym, ap, subst, ◌∙◌, inl, inr, arith, nat_eq, nat_le}
use Rattle.std.specs.Prelude.{IsSome, is_some}
use Rattle.std.specs.List.{list_all, position_or_len}
use Rattle.std.specs.Option.{option_map, option_map_or}
use Rattle.std.specs.List.Sorted.{IsStrictlyIncreasing}
use Rattle.std.proofs.lemmas.Bool.{cases_Bool, cases_lt, cases_eq, ne_eqb, eq-eqb, leb-true, leb-false}
use Rattle.std.proofs.lemmas.List.{length-map, length-set, get_or-map, get_or-set_same, get_or-set_other, get_or-drop, get_or_default, map-set, set-get_or, length-drop, take_all}
use Rattle.std.proofs.lemmas.List.Elements.{All-weaker}
use Rattle.std.proofs.lemmas.List.Folds.{list_all_at, list_all_more, list_any_at, list_any_none}
use Rattle.std.proofs.lemmas.Option.{slice_get-get_or, slice_get_past, none-some, same_Some}
use Rattle.doc_values.specs.Values.{values_of}
use Rattle.postings.specs.Marks.{has_document}
use Rattle.postings.specs.Postings.{ArePostings, documents, Standing, present, present_document, present_positions, place_from}
use Rattle.leaf_search.specs.Cursors.{IsBehind, IsAt, IsOn, document_at, lists_in}

-- ---- documents in order

pub rises : (xs : List ℕ) → IsStrictlyIncreasing xs → (i j : ℕ) → i + j + 1 < length xs → get_or xs i 0 < get_or xs (i + j + 1) 0
rises xs increasing i zero below = subst (λ (k : ℕ). get_or xs i 0 < get_or xs k 0) (omega arith) (increasing i (omega (arith, below)))
rises xs increasing i (suc j) below =
    let before = rises xs increasing i j (omega (arith, below)) in
    let next : get_or xs (i + j + 1) 0 < get_or xs (i + j + 1 + 1) 0 = increasing (i + j + 1) (omega (arith, below)) in
    let same : i + suc j + 1 ≡ i + j + 1 + 1 = omega arith in
    rw same (omega (arith, before, next))

pub ordered : (cursor : Standing) → ArePostings cursor.postings → (i j : ℕ) → i < j → j < length cursor.postings → document_at cursor i < document_at cursor j
ordered cursor are i j below inside =
    let docs : List ℕ = documents cursor.postings in
    let first : ℕ × List ℕ → ℕ = λ (posting : ℕ × List ℕ). posting.0 in
    let long : length docs ≡ length cursor.postings = length-map cursor.postings first in
    let at_i : get_or docs i 0 ≡ document_at cursor i = get_or-map first cursor.postings i (0, []) 0 (omega (arith, below, inside)) in
    let at_j : get_or docs j 0 ≡ document_at cursor j = get_or-map first cursor.postings j (0, []) 0 inside in
    let up : get_or docs i 0 < get_or docs (i + (j - i - 1) + 1) 0 = rises docs are.documents_are.ascending i (j - i - 1) (omega (arith, below, inside, long)) in
    let same : i + (j - i - 1) + 1 ≡ j = omega (arith, below) in
    let there : get_or docs i 0 < get_or docs j 0 = subst (λ (k : ℕ). get_or docs i 0 < get_or docs k 0) same up in
    omega (arith, at_i, at_j, there)

-- ---- the first from a place on

module _ {X : Type 0} (test : X → Bool) where
  none_before : (xs : List X) (k : ℕ) (d : X) → k < position_or_len test xs → k < length xs → test (get_or xs k d) ≡ false
  none_before [] k d below inside = absurd (omega (arith, inside))
  none_before (x ∷ xs) k d below inside = elim (cases_Bool (test x)) [
    | inl here ↦ absurd (let low = rw here at below in omega (arith, low))
    | inr fails ↦ later xs x k d fails (rw fails at below) inside (λ k below inside. none_before xs k d below inside)
  ]
    where
      later : (xs : List X) (x : X) (k : ℕ) (d : X) → test x ≡ false → k < 1 + position_or_len test xs → k < length (x ∷ xs) → ((k : ℕ) → k < position_or_len test xs → k < length xs → test (get_or xs k d) ≡ false) → test (get_or (x ∷ xs) k d) ≡ false
      later xs x zero d fails below inside rest = fails
      later xs x (suc k) d fails below inside rest = rest k (omega (arith, below)) (omega (arith, inside))

  found_at : (xs : List X) (d : X) → position_or_len test xs < length xs → test (get_or xs (position_or_len test xs) d) ≡ true
  found_at [] d inside = absurd (omega (arith, inside))
  found_at (x ∷ xs) d inside = elim (cases_Bool (test x)) [
    | inl here ↦
        let place : position_or_len test (x ∷ xs) ≡ 0 = rw here refl in
        ap (λ (k : ℕ). test (get_or (x ∷ xs) k d)) place ∙ here
    | inr fails ↦
        let place : position_or_len test (x ∷ xs) ≡ suc (position_or_len test xs) = rw fails (omega arith) in
        ap (λ (k : ℕ). test (get_or (x ∷ xs) k d)) place ∙ found_at xs d (omega (arith, inside, place))
  ]

-- ---- one cursor goes

pub is_at : (doc : ℕ) (old new : Standing) → IsBehind doc old → new.postings ≡ old.postings → new.at ≡ place_from doc old → IsAt doc new
is_at doc old new was same place =
    let test : ℕ × List ℕ → Bool = λ (posting : ℕ × List ℕ). nat_le doc posting.0 in
    let rest : List (ℕ × List ℕ) = drop old.at old.postings in
    let d : ℕ × List ℕ = (0, []) in
    let steps : ℕ = position_or_len test rest in
    let at : new.at ≡ old.at + steps = place in
    let long : length rest ≡ length old.postings - old.at = length-drop old.at old.postings in
    let one : (k : ℕ) → document_at new k ≡ document_at old k = λ k. ap (λ (ps : List (ℕ × List ℕ)). (get_or ps k d).0) same in
    let behind_old : (k : ℕ) → (get_or rest k d).0 ≡ document_at old (old.at + k) = λ k. ap (λ (posting : ℕ × List ℕ). posting.0) (get_or-drop old.at old.postings k d) in
    record {
      are = subst ArePostings (sym same) was.are;
      before = λ k below inside. elim (cases_lt k old.at) [
        | inl gone ↦ omega (arith, one k, was.before k gone (omega (arith, inside, ap length same)))
        | inr left ↦
            let j : ℕ = k - old.at in
            let fails : nat_le doc (get_or rest j d).0 ≡ false = none_before test rest j d (omega (arith, below, at, left)) (omega (arith, inside, ap length same, long, left)) in
            let back : old.at + j ≡ k = omega (arith, left) in
            let own : (get_or rest j d).0 ≡ document_at old k = behind_old j ∙ ap (document_at old) back in
            omega (arith, one k, own, leb-false doc (get_or rest j d).0 fails)
      ];
      behind = λ k from inside.
          let within : steps < length rest = omega (arith, from, inside, at, ap length same, long) in
          let passes : nat_le doc (get_or rest steps d).0 ≡ true = found_at test rest d within in
          let there : doc ≤ document_at old (old.at + steps) = omega (arith, leb-true doc (get_or rest steps d).0 passes, behind_old steps) in
          elim (cases_lt (old.at + steps) k) [
            | inl later ↦ omega (arith, one k, there, ordered old was.are (old.at + steps) k later (omega (arith, inside, ap length same)))
            | inr here ↦
                let own : k ≡ old.at + steps = omega (arith, here, from, at) in
                omega (arith, one k, there, ap (document_at old) own)
          ];
    }

pub behind_later : (doc later : ℕ) (cursor : Standing) → doc ≤ later → IsBehind doc cursor → IsBehind later cursor
behind_later doc later cursor up was = record { are = was.are; before = λ k below inside. omega (arith, up, was.before k below inside) }

pub behind_next : (doc : ℕ) (cursor : Standing) → IsAt doc cursor → IsBehind (doc + 1) cursor
behind_next doc cursor at = record { are = at.are; before = λ k below inside. omega (arith, at.before k below inside) }

-- ---- the values of a document

abbrev row_document : List (ℕ × List ℕ) → ℕ → ℕ
row_document rows k = (get_or rows k (0, [])).0

values_there : (doc : ℕ) (rows : List (ℕ × List ℕ)) (at : ℕ) → at < length rows → ((k : ℕ) → k < at → row_document rows k ≢ doc) → row_document rows at ≡ doc → values_of doc rows ≡ (get_or rows at (0, [])).1
values_there doc [] at inside others is = absurd (omega (arith, inside))
values_there doc (row ∷ rows) zero inside others is = rw (eq-eqb row.0 doc is) refl
values_there doc (row ∷ rows) (suc at) inside others is =
    rw (ne_eqb row.0 doc (λ same. others 0 (omega arith) same)) (values_there doc rows at (omega (arith, inside)) (λ k below. others (suc k) (omega (arith, below))) is)

values_nowhere : (doc : ℕ) (rows : List (ℕ × List ℕ)) → ((k : ℕ) → k < length rows → row_document rows k ≢ doc) → values_of doc rows ≡ []
values_nowhere doc [] others = refl
values_nowhere doc (row ∷ rows) others =
    rw (ne_eqb row.0 doc (λ same. others 0 (omega arith) same)) (values_nowhere doc rows (λ k below. others (suc k) (omega (arith, below))))

first : ℕ × List ℕ → ℕ
first posting = posting.0

pub record Present (cursor : Standing) (own : ℕ) : Type 0 where
  pub inside : cursor.at < length cursor.postings
  pub document : document_at cursor cursor.at ≡ own
  pub positions : present_positions cursor ≡ (get_or cursor.postings cursor.at (0, [])).1

pub present_at : (cursor : Standing) (own : ℕ) → Some own ≡ present_document cursor → Present cursor own
present_at cursor own is = elim (cases_lt cursor.at (length cursor.postings)) [
  | inl inside ↦
      let d : ℕ × List ℕ = (0, []) in
      let there : slice_get cursor.postings cursor.at ≡ Some (get_or cursor.postings cursor.at d) = slice_get-get_or cursor.postings cursor.at d inside in
      record {
        inside = inside;
        document = same_Some (get_or cursor.postings cursor.at d).0 own (sym (ap (option_map (λ (posting : ℕ × List ℕ). posting.0)) there) ∙ sym is);
        positions = ap (λ (o : Option (ℕ × List ℕ)). option_map_or (λ (posting : ℕ × List ℕ). posting.1) o []) there;
      }
  | inr past ↦ absurd (none-some own (sym (ap (option_map (λ (posting : ℕ × List ℕ). posting.0)) (slice_get_past cursor.postings cursor.at past)) ∙ sym is))
]

pub past_end : (cursor : Standing) → None ≡ present_document cursor → length cursor.postings ≤ cursor.at
past_end cursor is = elim (cases_lt cursor.at (length cursor.postings)) [
  | inl inside ↦
      let d : ℕ × List ℕ = (0, []) in
      let there : slice_get cursor.postings cursor.at ≡ Some (get_or cursor.postings cursor.at d) = slice_get-get_or cursor.postings cursor.at d inside in
      absurd (none-some (get_or cursor.postings cursor.at d).0 (is ∙ ap (option_map (λ (posting : ℕ × List ℕ). posting.0)) there))
  | inr past ↦ past
]

-- the postings of other documents
others : (doc own : ℕ) (cursor : Standing) → IsAt doc cursor → Present cursor own → own ≢ doc → (k : ℕ) → k < length cursor.postings → document_at cursor k ≢ doc
others doc own cursor at here other k inside same =
    let later : doc < own = omega (arith, other, here.document, at.behind cursor.at (omega arith) here.inside) in
    elim (cases_lt k cursor.at) [
      | inl gone ↦ omega (arith, same, at.before k gone inside)
      | inr left ↦ elim (cases_lt cursor.at k) [
        | inl behind ↦ omega (arith, same, later, here.document, ordered cursor at.are cursor.at k behind inside)
        | inr own2 ↦
            let equal : k ≡ cursor.at = omega (arith, left, own2) in
            omega (arith, same, later, here.document, ap (document_at cursor) equal)
      ]
    ]

abbrev is_row_of : ℕ → ℕ × List ℕ → Bool
is_row_of doc posting = nat_eq posting.0 doc

never_row : (doc : ℕ) (cursor : Standing) → ((k : ℕ) → k < length cursor.postings → document_at cursor k ≢ doc) → has_document doc cursor.postings ≡ false
never_row doc cursor none =
    list_any_none (is_row_of doc) cursor.postings (λ k d inside. ne_eqb (get_or cursor.postings k d).0 doc (λ same. none k inside (ap (λ (posting : ℕ × List ℕ). posting.0) (get_or_default cursor.postings k (0, []) d inside) ∙ same)))

-- whether a document is among the postings, by the document at which the cursor stands
pub is_shown : (doc own : ℕ) (cursor : Standing) → IsAt doc cursor → Some own ≡ present_document cursor → has_document doc cursor.postings ≡ nat_eq own doc
is_shown doc own cursor at is =
    let here = present_at cursor own is in
    elim (cases_eq own doc) [
      | inl same ↦ list_any_at (is_row_of doc) cursor.postings cursor.at (0, []) here.inside (eq-eqb (document_at cursor cursor.at) doc (here.document ∙ same)) ∙ sym (eq-eqb own doc same)
      | inr other ↦ never_row doc cursor (others doc own cursor at here other) ∙ sym (ne_eqb own doc other)
    ]

pub not_shown : (doc : ℕ) (cursor : Standing) → IsAt doc cursor → None ≡ present_document cursor → has_document doc cursor.postings ≡ false
not_shown doc cursor at is =
    let past = past_end cursor is in
    never_row doc cursor (λ k inside same. omega (arith, same, at.before k (omega (arith, inside, past)) inside))

-- the positions there are those of the document
pub values_on : (doc : ℕ) (cursor : Standing) → IsOn doc cursor → present_positions cursor ≡ values_of doc cursor.postings
values_on doc cursor on =
    let here = present_at cursor doc (sym on.here) in
    here.positions
    ∙ sym (values_there doc cursor.postings cursor.at here.inside (λ k below same. omega (arith, same, on.at.before k below (omega (arith, below, here.inside)))) here.document)

pub is_present : (doc : ℕ) (cursor : Standing) → IsOn doc cursor → IsSome (present cursor)
is_present doc cursor on = ap is_some (slice_get-get_or cursor.postings cursor.at (0, []) (present_at cursor doc (sym on.here)).inside)

-- a cursor stands at the document that it gives
pub own_on : (doc : ℕ) (cursor : Standing) → ArePostings cursor.postings → Some doc ≡ present_document cursor → IsOn doc cursor
own_on doc cursor are is =
    let here = present_at cursor doc is in
    record {
      at = record {
        are = are;
        before = λ k below inside. omega (arith, here.document, ordered cursor are k cursor.at below here.inside);
        behind = λ k from inside. elim (cases_lt cursor.at k) [
          | inl later ↦ omega (arith, here.document, ordered cursor are cursor.at k later inside)
          | inr own ↦
              let equal : k ≡ cursor.at = omega (arith, from, own) in
              omega (arith, here.document, ap (document_at cursor) equal)
        ];
      };
      here = sym is;
    }

-- ---- all cursors go

pub all_passed : (doc : ℕ) (cursors : List Standing) → All (IsBehind doc) cursors → All (IsBehind (doc + 1)) cursors
all_passed doc cursors all = All-weaker (IsBehind doc) (IsBehind (doc + 1)) (λ cursor was. behind_later doc (doc + 1) cursor (omega arith) was) cursors all

abbrev postings_in : Standing → List (ℕ × List ℕ)
postings_in cursor = cursor.postings

pub record AreGoing (doc : ℕ) (old now : List Standing) (at : ℕ) : Type 0 where
  pub long : length now ≡ length old
  pub lists : lists_in now ≡ lists_in old
  pub there : (k : ℕ) (d : Standing) → k < at → k < length now → IsOn doc (get_or now k d)
  pub left : (k : ℕ) (d : Standing) → at ≤ k → k < length now → IsBehind doc (get_or now k d)
  pub have : list_all (has_document doc) (take at (lists_in old)) ≡ true

pub going_none : (doc : ℕ) (old : List Standing) → All (IsBehind doc) old → AreGoing doc old old 0
going_none doc old all = record {
  long = refl;
  lists = refl;
  there = λ k d none inside. absurd (omega (arith, none));
  left = λ k d from inside. all k d inside;
  have = refl;
}

-- one cursor went to the document, or past it
pub record HasGone (doc : ℕ) (old now new : List Standing) (at : ℕ) (moved : Standing) : Type 0 where
  pub is : new ≡ set now at moved
  pub arrived : IsAt doc moved
  pub lists : lists_in new ≡ lists_in old
  pub listed : get_or (lists_in old) at [] ≡ moved.postings
  pub within : at < length (lists_in old)

has_gone : (doc : ℕ) (old now new : List Standing) (at : ℕ) (own moved : Standing) → AreGoing doc old now at → at < length now → own ≡ get_or now at own → moved.postings ≡ own.postings → moved.at ≡ place_from doc own → new ≡ set now at moved
    → HasGone doc old now new at moved
has_gone doc old now new at own moved was inside is same place made =
    let behind : IsBehind doc own = subst (IsBehind doc) (sym is) (was.left at own (omega arith) inside) in
    let listed : get_or (lists_in now) at [] ≡ moved.postings = get_or-map postings_in now at own [] inside ∙ ap postings_in (sym is) ∙ sym same in
    record {
      is = made;
      arrived = is_at doc own moved behind same place;
      lists =
          ap lists_in made
          ∙ map-set postings_in now at moved
          ∙ ap (λ (l : List (ℕ × List ℕ)). set (lists_in now) at l) (sym listed)
          ∙ set-get_or (lists_in now) at []
          ∙ was.lists;
      listed = ap (λ (l : List (List (ℕ × List ℕ))). get_or l at []) (sym was.lists) ∙ listed;
      within = omega (arith, inside, length-map now postings_in, ap length was.lists);
    }

others_kept : (P : Standing → Type 0) (now new : List Standing) (at k : ℕ) (moved d : Standing) → new ≡ set now at moved → k ≢ at → P (get_or now k d) → P (get_or new k d)
others_kept P now new at k moved d made other holds = subst P (sym (ap (λ (l : List Standing). get_or l k d) made ∙ get_or-set_other now at k moved d other)) holds

own_kept : (P : Standing → Type 0) (now new : List Standing) (at k : ℕ) (moved d : Standing) → new ≡ set now at moved → at < length now → k ≡ at → P moved → P (get_or new k d)
own_kept P now new at k moved d made inside here holds =
    subst P (sym (ap (λ (i : ℕ). get_or new i d) here ∙ ap (λ (l : List Standing). get_or l at d) made ∙ get_or-set_same now at moved d inside)) holds

-- the document of the lead is in its list
pub own_shown : (doc : ℕ) (cursor : Standing) → IsOn doc cursor → has_document doc cursor.postings ≡ true
own_shown doc cursor on = is_shown doc doc cursor on.at (sym on.here) ∙ eq-eqb doc doc refl

going_more : (doc : ℕ) (old now new : List Standing) (at own : ℕ) (moved : Standing) → AreGoing doc old now at → at < length now → HasGone doc old now new at moved → Some own ≡ present_document moved → own ≡ doc → AreGoing doc old new (at + 1)
going_more doc old now new at own moved was inside gone is same =
    let on : IsOn doc moved = record { at = gone.arrived; here = sym is ∙ ap Some same } in
    let long : length new ≡ length now = ap length gone.is ∙ length-set now at moved in
    record {
      long = long ∙ was.long;
      lists = gone.lists;
      there = λ k d below within. elim (cases_eq k at) [
        | inl here ↦ own_kept (IsOn doc) now new at k moved d gone.is inside here on
        | inr other ↦ others_kept (IsOn doc) now new at k moved d gone.is other (was.there k d (omega (arith, below, other)) (omega (arith, within, long)))
      ];
      left = λ k d from within.
          let other : k ≢ at = λ same2. omega (arith, from, same2) in
          others_kept (IsBehind doc) now new at k moved d gone.is other (was.left k d (omega (arith, from)) (omega (arith, within, long)));
      have =
          list_all_more (has_document doc) (lists_in old) at [] gone.within
          ∙ ap (λ (b : Bool). b && has_document doc (get_or (lists_in old) at [])) was.have
          ∙ ap (has_document doc) gone.listed
          ∙ is_shown doc own moved gone.arrived is
          ∙ eq-eqb own doc same;
    }

-- a cursor's term isn't there
pub record AreStopped (doc : ℕ) (old new : List Standing) : Type 0 where
  pub lists : lists_in new ≡ lists_in old
  pub passed : All (IsBehind (doc + 1)) new
  pub says : list_all (has_document doc) (lists_in old) ≡ false

going_stops : (doc : ℕ) (old now new : List Standing) (at : ℕ) (moved : Standing) → AreGoing doc old now at → at < length now → HasGone doc old now new at moved → has_document doc moved.postings ≡ false → AreStopped doc old new
going_stops doc old now new at moved was inside gone none =
    let long : length new ≡ length now = ap length gone.is ∙ length-set now at moved in
    record {
      lists = gone.lists;
      passed = λ k d within. elim (cases_eq k at) [
        | inl here ↦ own_kept (IsBehind (doc + 1)) now new at k moved d gone.is inside here (behind_next doc moved gone.arrived)
        | inr other ↦ others_kept (IsBehind (doc + 1)) now new at k moved d gone.is other (elim (cases_lt k at) [
          | inl before ↦ behind_next doc (get_or now k d) (was.there k d before (omega (arith, within, long))).at
          | inr after ↦ behind_later doc (doc + 1) (get_or now k d) (omega arith) (was.left k d after (omega (arith, within, long)))
        ])
      ];
      says = list_all_at (has_document doc) (lists_in old) at [] gone.within (ap (has_document doc) gone.listed ∙ none);
    }

pub stops_none : (doc : ℕ) (old now : List Standing) (at : ℕ) (own moved : Standing) → AreGoing doc old now at → at < length now → own ≡ get_or now at own → moved.postings ≡ own.postings → moved.at ≡ place_from doc own → None ≡ present_document moved
    → AreStopped doc old (set now at moved)
stops_none doc old now at own moved was inside is same place none =
    let gone = has_gone doc old now (set now at moved) at own moved was inside is same place refl in
    going_stops doc old now (set now at moved) at moved was inside gone (not_shown doc moved gone.arrived none)

pub stops_past : (doc : ℕ) (old now : List Standing) (at : ℕ) (own moved : Standing) (other : ℕ) → AreGoing doc old now at → at < length now → own ≡ get_or now at own → moved.postings ≡ own.postings → moved.at ≡ place_from doc own → Some other ≡ present_document moved → other ≢ doc
    → AreStopped doc old (set now at moved)
stops_past doc old now at own moved other was inside is same place there differs =
    let gone = has_gone doc old now (set now at moved) at own moved was inside is same place refl in
    going_stops doc old now (set now at moved) at moved was inside gone (is_shown doc other moved gone.arrived there ∙ ne_eqb other doc differs)

pub goes_on : (doc : ℕ) (old now : List Standing) (at : ℕ) (own moved : Standing) (there : ℕ) → AreGoing doc old now at → at < length now → own ≡ get_or now at own → moved.postings ≡ own.postings → moved.at ≡ place_from doc own → Some there ≡ present_document moved → there ≡ doc
    → AreGoing doc old (set now at moved) (at + 1)
goes_on doc old now at own moved there was inside is same place arrives equal =
    going_more doc old now (set now at moved) at there moved was inside (has_gone doc old now (set now at moved) at own moved was inside is same place refl) arrives equal

pub going_all : (doc : ℕ) (old now : List Standing) (at : ℕ) → AreGoing doc old now at → length now ≤ at → All (IsOn doc) now
going_all doc old now at was past = λ k d inside. was.there k d (omega (arith, inside, past)) inside

pub on_passed : (doc : ℕ) (cursors : List Standing) → All (IsOn doc) cursors → All (IsBehind (doc + 1)) cursors
on_passed doc cursors all = All-weaker (IsOn doc) (IsBehind (doc + 1)) (λ cursor on. behind_next doc cursor on.at) cursors all

pub going_says : (doc : ℕ) (old now : List Standing) (at : ℕ) → AreGoing doc old now at → length now ≤ at → true ≡ list_all (has_document doc) (lists_in old)
going_says doc old now at was past =
    sym (ap (list_all (has_document doc)) (sym (take_all at (lists_in old) (omega (arith, past, was.long, length-map old postings_in)))) ∙ was.have)

-- ---- the lead goes on

-- what the others went over lies before the lead's document
abbrev pub Ready : Standing → List Standing → Type 0
Ready lead cursors = (doc : ℕ) → Some doc ≡ present_document lead → All (IsBehind doc) cursors

pub ready_first : (lead : Standing) (cursors : List Standing) → All (IsBehind 0) cursors → Ready lead cursors
ready_first lead cursors all = λ doc is. All-weaker (IsBehind 0) (IsBehind doc) (λ cursor was. behind_later 0 doc cursor (omega arith) was) cursors all

pub ready_next : (lead new : Standing) (doc : ℕ) (cursors : List Standing) → ArePostings lead.postings → Some doc ≡ present_document lead → new.postings ≡ lead.postings → new.at ≡ min (lead.at + 1) (length lead.postings) → All (IsBehind (doc + 1)) cursors → Ready new cursors
ready_next lead new doc cursors are is same moved all = λ later next.
    let here = present_at lead doc is in
    let there = present_at new later next in
    let at : new.at ≡ lead.at + 1 = omega (arith, moved, here.inside) in
    let inside : lead.at + 1 < length lead.postings = omega (arith, at, there.inside, ap length same) in
    let one : document_at new new.at ≡ document_at lead (lead.at + 1) = ap (λ (ps : List (ℕ × List ℕ)). (get_or ps new.at (0, [])).0) same ∙ ap (document_at lead) at in
    let up : doc + 1 ≤ later = omega (arith, one, here.document, there.document, ordered lead are lead.at (lead.at + 1) (omega arith) inside) in
    All-weaker (IsBehind (doc + 1)) (IsBehind later) (λ cursor was. behind_later (doc + 1) later cursor up was) cursors all
