-- A document of a nested path among those of the scope around it.
use Rattle.std.proofs.Common.{◌≡◌, ℕ, zero, suc, ◌+◌, ◌-◌, ◌<◌, ◌≤◌, ◌==◌, List as Seq, [], ◌∷◌, ◌++◌, length, map, filter, flat_map, get_or, take, drop, zip, Bool, true, false, cond, Option, Some, None, is_some, refl, sym, ap, subst, ◌∙◌, ◌⊎◌, inl, inr, arith}
use Rattle.std.proofs.lemmas.Bool.{cases_lt, eqb-true, false≢true, true≢false}
use Rattle.std.proofs.lemmas.List.{length-map, length-append, map-append}
use Rattle.std.proofs.lemmas.Option.{same_Some}
use Rattle.std.specs.List.{filter_map, position_from}
use Rattle.std.specs.Option.{option_map_or, option_or}
use Rattle.block_bits.specs.Blocks.{has_scope}
use Rattle.block_bits.specs.Places.{last_place, next_place}
use Rattle.block_join.specs.Joins.{next_at, spread}
use Rattle.flattener.specs.StandsFor.{Marked, by_document}
use Rattle.mapping.specs.Mapping.{Mapping, outer}
use Rattle.tree_joins.specs.Seen.{at_scope, if_live, scope_mark, scopes_of, scored, seen}
use Rattle.tree_objects.specs.Object.{Object, scope, block_objects, children, below, below_along, climb, way}
use Rattle.tree_objects.specs.Tree.{Tree}
use Rattle.view_objects.specs.declared.hit.Hit.{Hit}
use Rattle.view_objects.specs.Hits.{IsChildAt, any_object, count_between, document_object, hit_object, hits_between, hits_from, no_object, object_at, objects_in, start_before}
use Rattle.view_objects.proofs.Hits.{by_test}

-- ---- lists

get_drop : {A : Type 0} (k j : ℕ) (xs : Seq A) (d : A) → get_or (drop k xs) j d ≡ get_or xs (k + j) d
get_drop zero j xs d = let e : 0 + j ≡ j = omega arith in rw e refl
get_drop (suc k) j [] d = refl
get_drop (suc k) j (x ∷ xs) d = let e : suc k + j ≡ suc (k + j) = omega arith in rw e (get_drop k j xs d)

get_take : {A : Type 0} (k j : ℕ) (xs : Seq A) (d : A) → j < k → get_or (take k xs) j d ≡ get_or xs j d
get_take zero j xs d low = absurd (omega (arith, low))
get_take (suc k) j [] d low = refl
get_take (suc k) zero (x ∷ xs) d low = refl
get_take (suc k) (suc j) (x ∷ xs) d low = get_take k j xs d (omega (arith, low))

take_nothing : {A : Type 0} (k : ℕ) → (let none : Seq A = [] in take k none ≡ none)
take_nothing zero = refl
take_nothing (suc k) = refl

take_drop : {A : Type 0} (k j : ℕ) (xs : Seq A) → take j (drop k xs) ≡ drop k (take (k + j) xs)
take_drop zero j xs = let e : 0 + j ≡ j = omega arith in rw e refl
take_drop (suc k) j [] = let e : suc k + j ≡ suc (k + j) = omega arith in rw e (take_nothing j)
take_drop (suc k) j (x ∷ xs) = let e : suc k + j ≡ suc (k + j) = omega arith in rw e (take_drop k j xs)

take_take : {A : Type 0} (j k : ℕ) (xs : Seq A) → j ≤ k → take j (take k xs) ≡ take j xs
take_take zero k xs low = refl
take_take (suc j) zero xs low = absurd (omega (arith, low))
take_take (suc j) (suc k) [] low = refl
take_take (suc j) (suc k) (x ∷ xs) low = ap (λ zs. x ∷ zs) (take_take j k xs (omega (arith, low)))

drop_low : {A : Type 0} (k j : ℕ) (xs : Seq A) → k + j < length xs → j < length (drop k xs)
drop_low zero j xs low = omega (arith, low)
drop_low (suc k) j [] low = absurd (omega (arith, low))
drop_low (suc k) j (x ∷ xs) low = drop_low k j xs (omega (arith, low))

take_low : {A : Type 0} (k j : ℕ) (xs : Seq A) → j < k → j < length xs → j < length (take k xs)
take_low zero j xs low within = absurd (omega (arith, low))
take_low (suc k) j [] low within = absurd (omega (arith, within))
take_low (suc k) zero (x ∷ xs) low within = omega arith
take_low (suc k) (suc j) (x ∷ xs) low within = let more : j < length (take k xs) = take_low k j xs (omega (arith, low)) (omega (arith, within)) in omega (arith, more)

pub same_number : (k : ℕ) → (k == k) ≡ true
same_number k = grind arith

-- ---- documents of one scope

abbrev pub one : Object → Option ℕ
one o = Some 0

abbrev mark : ℕ → ℕ → Option ℕ
mark a s = cond (s == a) (Some 0) None

abbrev pub alive : Marked Tree → Marked Tree
alive t = record { item = t.item; live = true }

module _ (m : Mapping) where
  alive_objects : (trees : Seq (Marked Tree)) → objects_in m (map alive trees) ≡ objects_in m trees
  alive_objects [] = refl
  alive_objects (t ∷ trees) = ap (λ (l : Seq Object). map (any_object t.live) (block_objects m t.item) ++ l) (alive_objects trees)

  alive_scopes : (trees : Seq (Marked Tree)) → scopes_of m (map alive trees) ≡ scopes_of m trees
  alive_scopes [] = refl
  alive_scopes (t ∷ trees) = ap (λ (l : Seq ℕ). map (scope_mark t.live) (block_objects m t.item) ++ l) (alive_scopes trees)

  marked_append : (a : ℕ) (live : Bool) (os : Seq Object) (scopes : Seq ℕ) → map (mark a) (map (scope_mark live) os ++ scopes) ≡ map (if_live (at_scope a one) true) os ++ map (mark a) scopes
  marked_append a live [] scopes = refl
  marked_append a live (o ∷ os) scopes = ap (λ (l : Seq (Option ℕ)). mark a (scope o) ∷ l) (marked_append a live os scopes)

  marked_alive : (a : ℕ) (trees : Seq (Marked Tree)) → seen m (at_scope a one) (map alive trees) ≡ map (mark a) (scopes_of m trees)
  marked_alive a [] = refl
  marked_alive a (t ∷ trees) =
      ap (λ (l : Seq (Option ℕ)). map (if_live (at_scope a one) true) (block_objects m t.item) ++ l) (marked_alive a trees)
      ∙ sym (marked_append a t.live (block_objects m t.item) (scopes_of m trees))

  scopes_map : (trees : Seq (Marked Tree)) → scopes_of m trees ≡ map scope (objects_in m trees)
  scopes_map [] = refl
  scopes_map (t ∷ trees) = one_tree t.live (block_objects m t.item) (scopes_of m trees) (objects_in m trees) (scopes_map trees)
    where
      one_tree : (live : Bool) (os : Seq Object) (scopes : Seq ℕ) (more : Seq Object) → scopes ≡ map scope more → map (scope_mark live) os ++ scopes ≡ map scope (map (any_object live) os ++ more)
      one_tree live [] scopes more rest = rest
      one_tree live (o ∷ os) scopes more rest = ap (λ (l : Seq ℕ). scope o ∷ l) (one_tree live os scopes more rest)

  scope_at_doc : (trees : Seq (Marked Tree)) (doc : ℕ) → get_or (scopes_of m trees) doc 0 ≡ scope (document_object m trees doc)
  scope_at_doc trees doc = ap (λ (l : Seq ℕ). get_or l doc 0) (scopes_map trees) ∙ by (objects_in m trees) doc
    where
      by : (os : Seq Object) (k : ℕ) → get_or (map scope os) k 0 ≡ scope (get_or os k no_object)
      by [] k = refl
      by (o ∷ os) zero = refl
      by (o ∷ os) (suc k) = by os k

-- ---- the next document of a scope

module _ (a n : ℕ) where
  spread_at : (scopes : Seq ℕ) (k : ℕ) → k < length scopes → (get_or scopes k 0 == n) ≡ true
      → get_or (spread a n (zip scopes (map (mark a) scopes))) k None ≡ next_at a (zip (drop (k + 1) scopes) (map (mark a) (drop (k + 1) scopes)))
  spread_at [] k low here = absurd (omega (arith, low))
  spread_at (s ∷ scopes) zero low here = rw here refl
  spread_at (s ∷ scopes) (suc k) low here = let e : suc k + 1 ≡ suc (k + 1) = omega arith in rw e (spread_at scopes k (omega (arith, low)) here)

  -- a document of the scope comes, and none before it
  record First (k : ℕ) (scopes : Seq ℕ) : Type 0 where
    pub ahead : ℕ
    pub found : position_from (has_scope a) k scopes ≡ Some (k + ahead)
    pub there : (get_or scopes ahead 0 == a) ≡ true
    pub within : ahead < length scopes
    pub quiet : (j : ℕ) → j < ahead → (get_or scopes j 0 == a) ≡ false

  first : (k : ℕ) (scopes : Seq ℕ) (x : ℕ) → next_at a (zip scopes (map (mark a) scopes)) ≡ Some x → First k scopes
  first k [] x is = absurd (false≢true (ap is_some is))
  first k (s ∷ scopes) x is =
      by_test (s == a)
      (λ yes. let e : k + 0 ≡ k = omega arith in record {
        ahead = 0;
        found = rw (yes, e) refl;
        there = yes;
        within = omega arith;
        quiet = λ j low. absurd (omega (arith, low));
      })
      (λ no. let more = first (k + 1) scopes x (rw no at is) in let e : k + 1 + more.ahead ≡ k + suc more.ahead = omega arith in record {
        ahead = suc more.ahead;
        found = rw no (more.found ∙ ap Some e);
        there = more.there;
        within = (let w = more.within in omega (arith, w));
        quiet = past more.ahead more.quiet no;
      })
    where
      past : (ahead : ℕ) → ((j : ℕ) → j < ahead → (get_or scopes j 0 == a) ≡ false) → (s == a) ≡ false → (j : ℕ) → j < suc ahead → (get_or (s ∷ scopes) j 0 == a) ≡ false
      past ahead quiet off zero low = off
      past ahead quiet off (suc j) low = quiet j (omega (arith, low))

  -- ---- the last one of a scope

  Lies : (k : ℕ) (scopes : Seq ℕ) → Option ℕ → Type 0
  Lies k scopes None = Unit {0}
  Lies k scopes (Some q) = (j : ℕ) × (q ≡ k + j) × (j < length scopes) × ((get_or scopes j 0 == a) ≡ true)

  lies_more : (k s : ℕ) (scopes : Seq ℕ) (found : Option ℕ) → Lies (k + 1) scopes found → Lies k (s ∷ scopes) (option_or found (cond (s == a) (Some k) None))
  unfolding Lies
  lies_more k s scopes None h = by_test (s == a) (λ yes. rw yes (0, omega arith, omega arith, yes)) (λ no. rw no tt)
  lies_more k s scopes (Some q) h = (suc h.0, omega (arith, h.1), omega (arith, h.2), h.3)

  lies : (k : ℕ) (scopes : Seq ℕ) → Lies k scopes (last_place (has_scope a) k scopes)
  unfolding Lies
  lies k [] = tt
  lies k (s ∷ scopes) = lies_more k s scopes (last_place (has_scope a) (k + 1) scopes) (lies (k + 1) scopes)

-- where the documents inside a parent begin is at or before each from which it is the next of its scope
start_low : (a n doc ahead : ℕ) (scopes : Seq ℕ) → (get_or scopes doc 0 == a) ≡ false → ((j : ℕ) → j < ahead → (get_or (drop (doc + 1) scopes) j 0 == a) ≡ false) → start_before a (doc + 1 + ahead) scopes ≤ doc
unfolding Lies
start_low a n doc ahead scopes other quiet = by (last_place (has_scope a) 0 (take (doc + 1 + ahead) scopes)) (lies a n 0 (take (doc + 1 + ahead) scopes))
  where
    off : (q : ℕ) → q < doc + 1 + ahead → doc ≤ q → (get_or scopes q 0 == a) ≡ false
    off q low high = by_place (cases_lt doc q)
      where
        by_place : (doc < q) ⊎ (q ≤ doc) → (get_or scopes q 0 == a) ≡ false
        by_place (inl behind) =
            let e : doc + 1 + (q - (doc + 1)) ≡ q = omega (arith, behind) in
            ap (λ s. s == a) (ap (λ k. get_or scopes k 0) (sym e) ∙ sym (get_drop (doc + 1) (q - (doc + 1)) scopes 0)) ∙ quiet (q - (doc + 1)) (omega (arith, low, behind))
        by_place (inr same) = let e : q ≡ doc = omega (arith, same, high) in ap (λ k. get_or scopes k 0 == a) e ∙ other

    by : (found : Option ℕ) → Lies a n 0 (take (doc + 1 + ahead) scopes) found → option_map_or (λ previous. previous + 1) found 0 ≤ doc
    by None h = omega arith
    by (Some q) h =
        let same : q ≡ h.0 = omega (arith, h.1) in
        low_or (cases_lt q doc) same
      where
        low_or : (q < doc) ⊎ (doc ≤ q) → q ≡ h.0 → q + 1 ≤ doc
        low_or (inl low) same = omega (arith, low)
        low_or (inr high) same =
            let low : q < doc + 1 + ahead = shorter (doc + 1 + ahead) scopes h.0 h.2 same in
            absurd (true≢false (sym h.3 ∙ ap (λ s. s == a) (get_take (doc + 1 + ahead) h.0 scopes 0 (omega (arith, low, same)) ∙ ap (λ k. get_or scopes k 0) (sym same)) ∙ off q low high))
          where
            shorter : (k : ℕ) (xs : Seq ℕ) (j : ℕ) → j < length (take k xs) → q ≡ j → q < k
            shorter zero xs j within e = absurd (omega (arith, within))
            shorter (suc k) [] j within e = absurd (omega (arith, within))
            shorter (suc k) (x ∷ xs) zero within e = omega (arith, e)
            shorter (suc k) (x ∷ xs) (suc j) within e = let more : j < k = under k xs j (omega (arith, within)) in omega (arith, more, e)
              where
                under : (k : ℕ) (xs : Seq ℕ) (j : ℕ) → j < length (take k xs) → j < k
                under zero xs j within = absurd (omega (arith, within))
                under (suc k) [] j within = absurd (omega (arith, within))
                under (suc k) (x ∷ xs) zero within = omega arith
                under (suc k) (x ∷ xs) (suc j) within = let more : j < k = under k xs j (omega (arith, within)) in omega (arith, more)

-- ---- the rank of a document among those of its scope in a range

module _ (n place : ℕ) where
  abbrev rank : Seq ℕ → ℕ → ℕ
  rank scopes j = length (filter (has_scope n) (take j scopes))

  ranked : (k : ℕ) (scopes : Seq ℕ) (j : ℕ) (d : Hit) → j < length scopes → (get_or scopes j 0 == n) ≡ true → get_or (hits_from place k (map (mark n) scopes)) (rank scopes j) d ≡ record { place = place; doc = k + j; score = 0 }
  ranked k [] j d low here = absurd (omega (arith, low))
  ranked k (s ∷ scopes) zero d low here = let e : k + 0 ≡ k = omega arith in rw (here, e) refl
  ranked k (s ∷ scopes) (suc j) d low here =
      let e : k + 1 + j ≡ k + suc j = omega arith in
      by_test (s == n)
      (λ yes. rw yes (ranked (k + 1) scopes j d (omega (arith, low)) here ∙ ap (λ (doc : ℕ). record { place = place; doc = doc; score = 0 }) e))
      (λ no. rw no (ranked (k + 1) scopes j d (omega (arith, low)) here ∙ ap (λ (doc : ℕ). record { place = place; doc = doc; score = 0 }) e))

  ranked_low : (k : ℕ) (scopes : Seq ℕ) (j : ℕ) → j < length scopes → (get_or scopes j 0 == n) ≡ true → rank scopes j < length (hits_from place k (map (mark n) scopes))
  ranked_low k [] j low here = absurd (omega (arith, low))
  ranked_low k (s ∷ scopes) zero low here = rw here (omega arith)
  ranked_low k (s ∷ scopes) (suc j) low here =
      let more : rank scopes j < length (hits_from place (k + 1) (map (mark n) scopes)) = ranked_low (k + 1) scopes j (omega (arith, low)) here in
      by_test (s == n)
      (λ yes. rw yes (omega (arith, more)))
      (λ no. rw no more)

-- ---- objects one level below

each_once : (os : Seq Object) → flat_map (λ c. c ∷ []) os ≡ os
each_once [] = refl
each_once (o ∷ os) = ap (λ l. o ∷ l) (each_once os)

below_child : (m : Mapping) (o : Object) (n : ℕ) → 0 < n → scope o ≡ outer m n → outer m n < n → below m o n ≡ children m o n
unfolding below way
below_child m o zero some at less = absurd (omega (arith, some))
below_child m o (suc left) some at less =
    ap (below_along m o) (ap (λ s. climb m (suc left) s (suc left) []) at ∙ step left)
    ∙ each_once (children m o (suc left))
  where
    apart : (suc left == outer m (suc left)) ≡ false
    apart = grind (arith, less)

    stop : (left : ℕ) (s : ℕ) (found : Seq ℕ) → climb m left s s found ≡ found
    stop zero s found = refl
    stop (suc left) s found = rw (same_number s) refl

    step : (left2 : ℕ) → climb m (suc left) (outer m (suc left)) (suc left) [] ≡ suc left ∷ []
    step left2 = rw apart (stop left (outer m (suc left)) (suc left ∷ []))

abbrev pair : Object → Object × ℕ
pair o = (o, 0)

all_scored : (os : Seq Object) → filter_map (scored one) os ≡ map pair os
all_scored [] = refl
all_scored (o ∷ os) = ap (λ l. pair o ∷ l) (all_scored os)

pair_at : (os : Seq Object) (k : ℕ) (d : Object) → k < length os → get_or (map pair os) k (pair d) ≡ pair (get_or os k d)
pair_at [] k d low = absurd (omega (arith, low))
pair_at (o ∷ os) zero d low = refl
pair_at (o ∷ os) (suc k) d low = pair_at os k d (omega (arith, low))

read_at : {A B : Type 0} (f : A → B) (xs : Seq A) (k : ℕ) (d : A) (e : B) → k < length xs → get_or (map f xs) k e ≡ f (get_or xs k d)
read_at f [] k d e low = absurd (omega (arith, low))
read_at f (x ∷ xs) zero d e low = refl
read_at f (x ∷ xs) (suc k) d e low = read_at f xs k d e (omega (arith, low))

-- ---- the law

-- what joins down and hits inside say of trees that are all live
module _ (m : Mapping) (trees : Seq (Marked Tree)) (doc n : ℕ) (some : 0 < n) (less : outer m n < n)
    (low : doc < length (objects_in m trees)) (here : scope (document_object m trees doc) ≡ n)
    (down : spread (outer m n) n (zip (scopes_of m (map alive trees)) (seen m (at_scope (outer m n) one) (map alive trees))) ≡ seen m (at_scope n one) (map alive trees))
    (inside : (parent score : ℕ) → get_or (seen m (at_scope (outer m n) one) (map alive trees)) parent None ≡ Some score
    → map (hit_object m (map alive trees ∷ [])) (hits_between 0 (start_before (outer m n) parent (scopes_of m (map alive trees))) parent (seen m (at_scope n one) (map alive trees))) ≡ filter_map (scored one) (below m (document_object m (map alive trees) parent) n)) where
  abbrev a : ℕ
  a = outer m n

  abbrev scopes : Seq ℕ
  scopes = scopes_of m trees

  long : length scopes ≡ length (objects_in m trees)
  long = ap length (scopes_map m trees) ∙ length-map (objects_in m trees) scope

  is_n : (get_or scopes doc 0 == n) ≡ true
  is_n = ap (λ s. s == n) (scope_at_doc m trees doc ∙ here) ∙ same_number n

  not_a : (get_or scopes doc 0 == a) ≡ false
  not_a = ap (λ s. s == a) (scope_at_doc m trees doc ∙ here) ∙ apart n a less
    where
      apart : (j k : ℕ) → k < j → (j == k) ≡ false
      apart j k under = grind (arith, under)

  heard : next_at a (zip (drop (doc + 1) scopes) (map (mark a) (drop (doc + 1) scopes))) ≡ Some 0
  heard =
      sym (spread_at a n scopes doc (omega (arith, low, long)) is_n)
      ∙ ap (λ (l : Seq (ℕ × Option ℕ)). get_or (spread a n l) doc None) (sym (ap (λ (ss : Seq ℕ). zip ss (seen m (at_scope a one) (map alive trees))) (alive_scopes m trees) ∙ ap (zip scopes) (marked_alive m a trees)))
      ∙ ap (λ (l : Seq (Option ℕ)). get_or l doc None) (down ∙ marked_alive m n trees)
      ∙ read_at (mark n) scopes doc 0 None (omega (arith, low, long))
      ∙ ap (λ b. cond b (Some 0) None) is_n

  next : First a n (doc + 1) (drop (doc + 1) scopes)
  next = first a n (doc + 1) (drop (doc + 1) scopes) 0 heard

  abbrev parent : ℕ
  parent = doc + 1 + next.ahead

  parent_low : parent < length scopes
  parent_low = by (doc + 1) next.ahead scopes next.within
    where
      by : (k j : ℕ) (xs : Seq ℕ) → j < length (drop k xs) → k + j < length xs
      by zero j xs within = omega (arith, within)
      by (suc k) j [] within = absurd (omega (arith, within))
      by (suc k) j (x ∷ xs) within = let more : k + j < length xs = by k j xs within in omega (arith, more)

  parent_there : (get_or scopes parent 0 == a) ≡ true
  parent_there = ap (λ s. s == a) (sym (get_drop (doc + 1) next.ahead scopes 0)) ∙ next.there

  parent_scope : scope (document_object m trees parent) ≡ a
  parent_scope = sym (scope_at_doc m trees parent) ∙ eqb-true (get_or scopes parent 0) a parent_there

  parent_seen : get_or (seen m (at_scope a one) (map alive trees)) parent None ≡ Some 0
  parent_seen =
      ap (λ (l : Seq (Option ℕ)). get_or l parent None) (marked_alive m a trees)
      ∙ read_at (mark a) scopes parent 0 None parent_low
      ∙ ap (λ b. cond b (Some 0) None) parent_there

  abbrev start : ℕ
  start = start_before a parent scopes

  start_is_low : start ≤ doc
  start_is_low = start_low a n doc next.ahead scopes not_a next.quiet

  abbrev range : Seq ℕ
  range = drop start (take parent scopes)

  abbrev offset : ℕ
  offset = count_between n start doc scopes

  abbrev hits : Seq Hit
  hits = hits_from 0 start (map (mark n) range)

  to_doc : start + (doc - start) ≡ doc
  to_doc = omega (arith, start_is_low)

  in_range : doc - start < length range
  in_range = drop_low start (doc - start) (take parent scopes) (let w : doc < length (take parent scopes) = take_low parent doc scopes (omega arith) (omega (arith, low, long)) in omega (arith, to_doc, w))

  at_range : get_or range (doc - start) 0 ≡ get_or scopes doc 0
  at_range =
      get_drop start (doc - start) (take parent scopes) 0
      ∙ ap (λ k. get_or (take parent scopes) k 0) to_doc
      ∙ get_take parent doc scopes 0 (omega arith)

  is_rank : rank n 0 range (doc - start) ≡ offset
  is_rank =
      ap (λ (l : Seq ℕ). length (filter (has_scope n) l))
      (take_drop start (doc - start) (take parent scopes)
      ∙ ap (λ k. drop start (take k (take parent scopes))) to_doc
      ∙ ap (drop start) (take_take doc parent scopes (omega arith)))

  there : (get_or range (doc - start) 0 == n) ≡ true
  there = ap (λ s. s == n) at_range ∙ is_n

  own_hit : (d : Hit) → get_or hits offset d ≡ record { place = 0; doc = doc; score = 0 }
  own_hit d =
      ap (λ k. get_or hits k d) (sym is_rank)
      ∙ ranked n 0 start range (doc - start) d in_range there
      ∙ ap (λ (k : ℕ). record { place = 0; doc = k; score = 0 }) to_doc

  offset_low : offset < length hits
  offset_low = subst (λ k. k < length hits) is_rank (ranked_low n 0 start range (doc - start) in_range there)

  kids : Seq Object
  kids = children m (document_object m trees parent) n

  alive_object : (k : ℕ) → document_object m (map alive trees) k ≡ document_object m trees k
  alive_object k = ap (λ (l : Seq Object). get_or l k no_object) (alive_objects m trees)

  are_kids : map (hit_object m (map alive trees ∷ [])) hits ≡ map pair kids
  unfolding kids
  are_kids =
      sym hits_are
      ∙ inside parent 0 parent_seen
      ∙ ap (λ o. filter_map (scored one) (below m o n)) (alive_object parent)
      ∙ ap (filter_map (scored one)) (below_child m (document_object m trees parent) n some parent_scope less)
      ∙ all_scored kids
    where
      marks : drop start (take parent (seen m (at_scope n one) (map alive trees))) ≡ map (mark n) range
      marks =
          ap (λ (l : Seq (Option ℕ)). drop start (take parent l)) (marked_alive m n trees)
          ∙ ap (drop start) (take_map parent scopes)
          ∙ drop_map start (take parent scopes)
        where
          take_map : (k : ℕ) (xs : Seq ℕ) → take k (map (mark n) xs) ≡ map (mark n) (take k xs)
          take_map zero xs = refl
          take_map (suc k) [] = refl
          take_map (suc k) (x ∷ xs) = ap (λ l. mark n x ∷ l) (take_map k xs)

          drop_map : (k : ℕ) (xs : Seq ℕ) → drop k (map (mark n) xs) ≡ map (mark n) (drop k xs)
          drop_map zero xs = refl
          drop_map (suc k) [] = refl
          drop_map (suc k) (x ∷ xs) = drop_map k xs

      hits_are : map (hit_object m (map alive trees ∷ [])) (hits_between 0 (start_before a parent (scopes_of m (map alive trees))) parent (seen m (at_scope n one) (map alive trees))) ≡ map (hit_object m (map alive trees ∷ [])) hits
      hits_are =
          ap (λ (ss : Seq ℕ). map (hit_object m (map alive trees ∷ [])) (hits_between 0 (start_before a parent ss) parent (seen m (at_scope n one) (map alive trees)))) (alive_scopes m trees)
          ∙ ap (λ (l : Seq (Option ℕ)). map (hit_object m (map alive trees ∷ [])) (hits_from 0 start l)) marks

  same_count : length hits ≡ length kids
  same_count = sym (length-map hits (hit_object m (map alive trees ∷ []))) ∙ ap length are_kids ∙ length-map kids pair

  own_child : get_or kids offset no_object ≡ document_object m trees doc
  own_child =
      ap (λ (p : Object × ℕ). p.0)
      (sym (pair_at kids offset no_object (omega (arith, offset_low, same_count)))
      ∙ ap (λ (l : Seq (Object × ℕ)). get_or l offset (pair no_object)) (sym are_kids)
      ∙ read_at (hit_object m (map alive trees ∷ [])) hits offset (record { place = 0; doc = 0; score = 0 }) (pair no_object) offset_low
      ∙ ap (hit_object m (map alive trees ∷ [])) (own_hit (record { place = 0; doc = 0; score = 0 })))
      ∙ alive_object doc

  pub is_child : IsChildAt m trees doc n
  unfolding kids
  is_child = record {
    parent = parent;
    next = next.found;
    around = parent_scope;
    counted = omega (arith, offset_low, same_count);
    child = own_child;
  }
