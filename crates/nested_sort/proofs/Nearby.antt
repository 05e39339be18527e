-- The hits that have a number within reach are those that a page can show.
use Rattle.std.specs.Prelude.{◌≡◌, ℕ, suc, ◌+◌, ◌<◌, ◌&&◌, ℤ, pos, Bool, true, false, not, cond, List, [], ◌∷◌, ◌++◌, filter, length, map, get_or, slice_get, IfSome, IsSomeAnd, Option, Some, None, is_some, option_map, FitsSigned, refl}
use Rattle.std.specs.Cmp.{IsStrictWeakOrder}
use Rattle.std.specs.Cmp.Lexicographic.{slice_cmp}
use Rattle.std.specs.Int.{w64}
use Rattle.std.specs.List.{All, AllByRecursion, best_of, count_by, flat_map}
use Rattle.std.specs.Option.{option_map_or}
use Rattle.std.specs.Ordering.{int_cmp, is_le, is_lt, nat_cmp, ordering_then}
use Rattle.std.specs.declared.cmp.Ordering.{Ordering}
use Rattle.std.specs.declared.cmp.Ordering.TheVariants.{Less, Equal, Greater}
use Rattle.std.proofs.Common.{Bor, arith, ap, sym, subst, ◌∙◌}
use Rattle.std.proofs.lemmas.Bool.{false≢true, true≢false}
use Rattle.std.proofs.lemmas.List.{length-map, map-append}
use Rattle.std.proofs.lemmas.List.Elements.{filter-append, recursion_from_All}
use Rattle.std.proofs.lemmas.List.Sums.{sum_by-append}
use Rattle.block_bits.specs.Flags.{intersection}
use Rattle.block_join.specs.Scores.{filled}
use Rattle.hit_order.specs.Reach.{IsWide, Met, is_late, is_near, is_next, is_within as is_shown, key_before}
use Rattle.query_ast.specs.Compare.{is_less}
use Rattle.query_ast.specs.Page.{comes_before, key_cmp}
use Rattle.query_ast.specs.SortKey.{is_greater, key_of_value, key_or_missing, mode_value}
use Rattle.query_ast.specs.declared.sort.Direction.{Direction}
use Rattle.query_ast.specs.declared.sort.Key.{Key}
use Rattle.query_ast.specs.declared.sort.Key.TheVariants.{Null as NoKey, Number as NumberKey}
use Rattle.query_ast.specs.declared.sort.Missing.{Missing}
use Rattle.query_ast.specs.declared.sort.Missing.TheVariants.{Last}
use Rattle.query_ast.specs.declared.sort.SortMode.{SortMode}
use Rattle.query_ast.specs.declared.sort.SortMode.TheVariants.{Min, Max, Sum, Avg, Median}
use Rattle.segment.specs.Flat.{flat_of}
use Rattle.segment.specs.Live.{EntryState}
use Rattle.segment.specs.Shows.{has_term}
use Rattle.segment_parts.specs.declared.columns.Columns.{Columns}
use Rattle.term_table.specs.Keys.{number_key}
use Rattle.term_table.specs.Ranges.{is_from, is_to}
use Rattle.term_table.specs.declared.edge.Edge.TheVariants.{Unbounded, Closed, Past}
use Rattle.tree_objects.specs.declared.field_value.FieldValue.{FieldValue}
use Rattle.view_objects.specs.Hits.{hits_from}
use Rattle.view_objects.specs.declared.hit.Hit.{Hit}
use Rattle.nested_sort.specs.Documents.{docs_inside, key_in, number_value, numbers_at, question_of, values_at, Question}
use Rattle.nested_sort.specs.Near.{AreNear, AreOut, IsCut, IsCutAt, IsPick, IsSuited, inside_numbers, is_within_by, reaches}
use Rattle.nested_sort.specs.Reached.{AreKept, IsLongAt, key_by}
use Rattle.nested_sort.specs.declared.near.Reach.{Reach}
use Rattle.nested_sort.specs.declared.reached.Candidate.{Candidate}
use Rattle.nested_sort.specs.declared.reached.NumberClause.{NumberClause}
use Rattle.nested_sort.specs.declared.reached.NumberClause.TheVariants.{Score, Field}
use Rattle.nested_sort.proofs.Alike.{by_test}
use Rattle.nested_sort.proofs.Gathers.{map_flat}
use Rattle.nested_sort.proofs.Reaches.{read}
use Rattle.nested_sort.proofs.Termed.{flip, numbers_fail, numbers_fit}

-- keys stand in one order
pub keys_ordered : (d : Direction) → ((keys : Key → List Key) (number : Key → ℤ) (ds : List Direction) → IsStrictWeakOrder (comes_before keys number ds)) → IsStrictWeakOrder (key_before d)
keys_ordered d law =
    let o = law (λ k. k ∷ []) (λ k. pos 0) (d ∷ []) in
    record {
      one_way = λ x y before. sym (same (key_cmp d y x)) ∙ o.one_way x y (same (key_cmp d x y) ∙ before);
      chain = λ x y z one other. sym (same (key_cmp d x z)) ∙ o.chain x y z (same (key_cmp d x y) ∙ one) (same (key_cmp d y z) ∙ other);
    }
  where
    same : (c : Ordering) → is_lt (ordering_then (ordering_then c Equal) (int_cmp (pos 0) (pos 0))) ≡ is_lt c
    same Less = refl
    same Equal = refl
    same Greater = refl

-- ---- one key out of reach

module _ (d : Direction) (order : IsStrictWeakOrder (key_before d)) (after : Option Key) (limit : ℤ) where
  out_of_bound : (bound key : Key) → is_near d (Some bound) (NumberKey limit) ≡ false → reaches d after limit key ≡ false → is_shown d after (Some bound) key ≡ false
  out_of_bound bound key far out =
      by_test (is_late d after key)
      (λ late.
      let behind : key_before d key (NumberKey limit) ≡ false = rw late at out in
      by_test (key_before d bound key)
      (λ yes. rw (late, yes) refl)
      (λ no. absurd (true≢false (sym (ap not (order.chain bound key (NumberKey limit) no behind)) ∙ far))))
      (λ early. rw early refl)

  null_out : d.null_first ≡ false → reaches d after limit NoKey ≡ false
  null_out last =
      by_test (is_late d after NoKey)
      (λ late. rw late (rw last refl))
      (λ early. rw early refl)

  best_out : (beats : FieldValue → FieldValue → Bool) (v : FieldValue) (vs : List FieldValue) → reaches d after limit (key_of_value v) ≡ false → AllByRecursion (λ (v : FieldValue). reaches d after limit (key_of_value v) ≡ false) vs
      → reaches d after limit (key_of_value (best_of beats v vs)) ≡ false
  best_out beats v [] own all = own
  best_out beats v (w ∷ vs) own all =
      by_test (beats w v)
      (λ yes. rw yes (best_out beats w vs all.0 all.1))
      (λ no. rw no (best_out beats v vs own all.1))

-- ---- hits of one entry and of the next

counted_append : {A : Type 0} (key : Hit → A) (test : A → Bool) (xs ys : List Hit) → count_by test (map key (xs ++ ys)) ≡ count_by test (map key xs) + count_by test (map key ys)
counted_append key test xs ys = ap (count_by test) (map-append key xs ys) ∙ sum_by-append (λ k. cond (test k) 1 0) (map key xs) (map key ys)

module _ (key : Hit → Key) (d : Direction) (after : Option Key) (limit : ℤ) where
  pub near_none : AreNear key d after limit [] []
  near_none = record { same = λ bound far. refl; fewer = λ test. omega arith }

  pub near_append : (all some more few : List Hit) → AreNear key d after limit all some → AreNear key d after limit more few → AreNear key d after limit (all ++ more) (some ++ few)
  near_append all some more few first second = record {
    same = λ bound far.
        let shown : Hit → Bool = λ hit. is_shown d after (Some bound) (key hit) in
        filter-append shown some few
        ∙ ap (λ (hits : List Hit). hits ++ filter shown few) (first.same bound far)
        ∙ ap (λ (hits : List Hit). filter shown all ++ hits) (second.same bound far)
        ∙ sym (filter-append shown all more);
    fewer = λ test. omega (arith, first.fewer test, second.fewer test, counted_append key test some few, counted_append key test all more);
  }

  same_hit : (hit : Hit) → AreNear key d after limit (hit ∷ []) (hit ∷ [])
  same_hit hit = record { same = λ bound far. refl; fewer = λ test. omega arith }

  module _ (order : IsStrictWeakOrder (key_before d)) where
    hit_left : (hit : Hit) → reaches d after limit (key hit) ≡ false → AreNear key d after limit (hit ∷ []) []
    hit_left hit out = record {
      same = λ bound far. let gone = out_of_bound d order after limit bound (key hit) far out in rw gone refl;
      fewer = λ test. omega arith;
    }

    pub cut_near : (place score doc : ℕ) (flags marks : List Bool) → length marks ≡ length flags
        → ((at : ℕ) → at < length flags → get_or marks at false ≡ false → reaches d after limit (key (record { place = place; doc = doc + at; score = score })) ≡ false)
        → AreNear key d after limit (hits_from place doc (filled (Some score) flags)) (hits_from place doc (filled (Some score) (intersection marks flags)))
    cut_near place score doc [] [] long out = near_none
    cut_near place score doc [] (mark ∷ marks) long out = absurd (omega (arith, long))
    cut_near place score doc (flag ∷ flags) [] long out = absurd (omega (arith, long))
    cut_near place score doc (flag ∷ flags) (mark ∷ marks) long out =
        first flag mark (out 0 (omega arith))
        (cut_near place score (doc + 1) flags marks (omega (arith, long)) (λ at low none.
        let moved : doc + suc at ≡ (doc + 1) + at = omega arith in
        subst (λ (n : ℕ). reaches d after limit (key (record { place = place; doc = n; score = score })) ≡ false) moved (out (suc at) (omega (arith, low)) none)))
      where
        own : Hit
        own = record { place = place; doc = doc; score = score }

        first : (flag mark : Bool) → (mark ≡ false → reaches d after limit (key (record { place = place; doc = doc + 0; score = score })) ≡ false)
            → AreNear key d after limit (hits_from place (doc + 1) (filled (Some score) flags)) (hits_from place (doc + 1) (filled (Some score) (intersection marks flags)))
            → AreNear key d after limit (hits_from place doc (filled (Some score) (flag ∷ flags))) (hits_from place doc (filled (Some score) (intersection (mark ∷ marks) (flag ∷ flags))))
        first true true none rest = near_append (own ∷ []) (own ∷ []) _ _ (same_hit own) rest
        first false true none rest = rest
        first true false none rest =
            let here : doc + 0 ≡ doc = omega arith in
            near_append (own ∷ []) [] _ _ (hit_left own (subst (λ (n : ℕ). reaches d after limit (key (record { place = place; doc = n; score = score })) ≡ false) here (none refl))) rest
        first false false none rest = rest

-- ---- numbers between edges

module _ (ordered : (one other : ℤ) → FitsSigned w64 one → FitsSigned w64 other → slice_cmp nat_cmp (number_key one) (number_key other) ≡ int_cmp one other) (d : Direction) (limit z : ℤ) (limit_fits : FitsSigned w64 limit) (z_fits : FitsSigned w64 z)
    (far : Bor (List ℕ)) (far_is : far.now ≡ number_key limit) where
  behind_far : is_from (Past far) (number_key z) ≡ is_lt (int_cmp limit z)
  behind_far = ap (λ (k : List ℕ). is_lt (slice_cmp nat_cmp k (number_key z))) far_is ∙ ap is_lt (ordered limit z limit_fits z_fits)

  before_far : is_to (Past far) (number_key z) ≡ is_lt (int_cmp z limit)
  before_far = ap (λ (k : List ℕ). is_lt (slice_cmp nat_cmp (number_key z) k)) far_is ∙ ap is_lt (ordered z limit z_fits limit_fits)

  reached_free : (descending : Bool) → d.descending ≡ descending → is_within_by descending Unbounded (Past far) (number_key z) ≡ false → reaches d None limit (NumberKey z) ≡ false
  reached_free true is out = rw is (sym behind_far ∙ cut_true (is_from (Past far) (number_key z)) out)
    where
      cut_true : (a : Bool) → (a && true) ≡ false → a ≡ false
      cut_true true out = out
      cut_true false out = refl
  reached_free false is out = rw is (sym before_far ∙ out)

  module _ (after : ℤ) (after_fits : FitsSigned w64 after) (near : Bor (List ℕ)) (near_is : near.now ≡ number_key after) where
    from_near : is_from (Closed near) (number_key z) ≡ not (is_lt (int_cmp z after))
    from_near = ap (λ (k : List ℕ). is_le (slice_cmp nat_cmp k (number_key z))) near_is ∙ ap is_le (ordered after z after_fits z_fits) ∙ flip after z

    to_near : is_to (Closed near) (number_key z) ≡ not (is_lt (int_cmp after z))
    to_near = ap (λ (k : List ℕ). is_le (slice_cmp nat_cmp (number_key z) k)) near_is ∙ ap is_le (ordered z after z_fits after_fits) ∙ flip z after

    reached_behind : (descending : Bool) → d.descending ≡ descending → is_within_by descending (Closed near) (Past far) (number_key z) ≡ false → reaches d (Some (NumberKey after)) limit (NumberKey z) ≡ false
    reached_behind true is out = rw is (rw (sym to_near, sym behind_far) (both (is_from (Past far) (number_key z)) (is_to (Closed near) (number_key z)) out))
      where
        both : (a b : Bool) → (a && b) ≡ false → cond b a false ≡ false
        both true true out = out
        both true false out = refl
        both false true out = refl
        both false false out = refl
    reached_behind false is out = rw is (rw (sym from_near, sym before_far) (both (is_from (Closed near) (number_key z)) (is_to (Past far) (number_key z)) out))
      where
        both : (b a : Bool) → (b && a) ≡ false → cond b a false ≡ false
        both true a out = out
        both false a out = refl

-- ---- the key of a document is one of its numbers

module _ (d : Direction) (order : IsStrictWeakOrder (key_before d)) (after : Option Key) (limit : ℤ) (last : d.null_first ≡ false) where
  abbrev OutNumber : ℤ → Type 0
  OutNumber z = reaches d after limit (NumberKey z) ≡ false

  values_out : (numbers : List ℤ) → AllByRecursion OutNumber numbers → AllByRecursion (λ (v : FieldValue). reaches d after limit (key_of_value v) ≡ false) (map number_value numbers)
  values_out [] all = tt
  values_out (z ∷ numbers) all = (all.0, values_out numbers all.1)

  key_out : (mode : SortMode) → IsPick mode → (numbers : List ℤ) → AllByRecursion OutNumber numbers → reaches d after limit (key_or_missing Last (mode_value mode (map number_value numbers))) ≡ false
  key_out mode picks [] all = null_out d order after limit last
  key_out Min picks (z ∷ numbers) all = best_out d order after limit is_less (number_value z) (map number_value numbers) all.0 (values_out numbers all.1)
  key_out Max picks (z ∷ numbers) all = best_out d order after limit is_greater (number_value z) (map number_value numbers) all.0 (values_out numbers all.1)
  key_out Sum picks (z ∷ numbers) all = absurd picks
  key_out Avg picks (z ∷ numbers) all = absurd picks
  key_out Median picks (z ∷ numbers) all = absurd picks

  question_out : (c : Columns) (place doc : ℕ) (q : Question) → IsPick q.mode → q.missing ≡ Last → AllByRecursion OutNumber (inside_numbers c place q doc) → reaches d after limit (key_in false c place q doc) ≡ false
  question_out c place doc q picks missing all =
      let numbers = inside_numbers c place q doc in
      ap (λ (m : Missing). reaches d after limit (key_or_missing m (mode_value q.mode (flat_map (values_at false c q.field) (docs_inside c place q doc))))) missing
      ∙ ap (λ (vs : List FieldValue). reaches d after limit (key_or_missing Last (mode_value q.mode vs))) (sym (map_flat number_value (numbers_at c q.field) (docs_inside c place q doc)))
      ∙ key_out q.mode picks numbers all

-- ---- the hits of one entry

module _ (view : List EntryState) (at : ℕ) (all near : List (Option ℕ)) (reach : Reach) (d : Direction) (order : IsStrictWeakOrder (key_before d)) (after : Option Key) (last : d.null_first ≡ false) (directed : reach.direction ≡ d) (behind : option_map NumberKey reach.after ≡ after) where
  out_by : (numbers : List ℤ) → AreOut reach numbers → AllByRecursion (λ (z : ℤ). reaches d after reach.limit (NumberKey z) ≡ false) numbers
  out_by numbers out =
      subst (λ (a : Option Key). AllByRecursion (λ (z : ℤ). reaches d a reach.limit (NumberKey z) ≡ false) numbers) behind
      (subst (λ (e : Direction). AllByRecursion (λ (z : ℤ). reaches e (option_map NumberKey reach.after) reach.limit (NumberKey z) ≡ false) numbers) directed out)

  pub entry_near : (clause : NumberClause) → IsSuited clause → IsLongAt view at all → IsCutAt view at clause reach all near → AreNear (key_by view clause) d after reach.limit (hits_from at 0 all) (hits_from at 0 near)
  entry_near Score suited long cut = absurd suited
  entry_near (Field asked) suited long cut = by (slice_get view at) refl long cut
    where
      q : Question
      q = question_of asked

      by : (o : Option EntryState) → slice_get view at ≡ o → IsSomeAnd o (λ (entry : EntryState). length all ≡ entry.columns.documents) → IsSomeAnd o (λ (entry : EntryState). IsCut entry.columns at q reach all near)
          → AreNear (key_by view (Field asked)) d after reach.limit (hits_from at 0 all) (hits_from at 0 near)
      by None is long cut = absurd long
      by (Some entry) is long cut =
          let key = key_by view (Field asked) in
          let flags = map is_some all in
          let count : length flags ≡ length all = length-map all is_some in
          subst (λ (scores : List (Option ℕ)). AreNear key d after reach.limit (hits_from at 0 scores) (hits_from at 0 near)) (sym cut.every)
          (subst (λ (scores : List (Option ℕ)). AreNear key d after reach.limit (hits_from at 0 (filled (Some cut.score) flags)) (hits_from at 0 scores)) (sym cut.cut)
          (cut_near key d after reach.limit order at cut.score 0 flags cut.marks (cut.long ∙ sym long ∙ sym count) (λ doc low out.
          let here : 0 + doc ≡ doc = omega arith in
          ap (λ (o : Option EntryState). reaches d after reach.limit (option_map_or (λ (entry : EntryState). key_in false entry.columns at q (0 + doc)) o NoKey)) is
          ∙ ap (λ (n : ℕ). reaches d after reach.limit (key_in false entry.columns at q n)) here
          ∙ question_out d order after reach.limit last entry.columns at doc q suited.0 suited.1
          (out_by (inside_numbers entry.columns at q doc) (cut.left doc (omega (arith, low, count, long)) out)))))

-- ---- all hits

module _ (key : Hit → Key) (d : Direction) (after : Option Key) (most : ℕ) (limit : ℤ) (all some : List Hit) (near : AreNear key d after limit all some) where
  bound_same : (bound : Option Key) → is_near d bound (NumberKey limit) ≡ false → filter (λ hit. is_shown d after bound (key hit)) some ≡ filter (λ hit. is_shown d after bound (key hit)) all
  bound_same None far = absurd (false≢true (sym far))
  bound_same (Some bound) far = near.same bound far

  wide_still : (m : ℕ) (e : Direction) (a bound : Option Key) → IsWide m e a bound (map key some) → IsWide m e a bound (map key all)
  wide_still m e a None wide = tt
  wide_still m e a (Some bound) wide = omega (arith, wide, near.fewer (λ k. cond (is_next e a k) (is_near e (Some bound) k) false))

  pub kept_near : (kept : List Candidate) (met : Met) → is_near met.direction met.bound (NumberKey limit) ≡ false → AreKept key d after most some kept met → AreKept key d after most all kept met
  kept_near kept met far are = record {
    directed = are.directed;
    behind = are.behind;
    upto = are.upto;
    capped = are.capped;
    keyed = are.keyed;
    same = are.same ∙ bound_same met.bound (subst (λ (e : Direction). is_near e met.bound (NumberKey limit) ≡ false) are.directed far);
    known = record {
      counted = λ test. omega (arith, are.known.counted test, near.fewer (λ k. cond (is_next met.direction met.after k) (test k) false));
      wide = wide_still met.most met.direction met.after met.bound are.known.wide;
    };
  }

-- ---- as many documents as before

filled_long : (score : Option ℕ) (flags : List Bool) → length (filled score flags) ≡ length flags
filled_long score [] = refl
filled_long score (flag ∷ flags) = ap suc (filled_long score flags)

pub cut_long : (marks flags : List Bool) → length marks ≡ length flags → length (intersection marks flags) ≡ length flags
cut_long [] [] long = refl
cut_long [] (flag ∷ flags) long = absurd (omega (arith, long))
cut_long (mark ∷ marks) [] long = absurd (omega (arith, long))
cut_long (mark ∷ marks) (flag ∷ flags) long = ap suc (cut_long marks flags (omega (arith, long)))

pub near_long : (view : List EntryState) (at : ℕ) (clause : NumberClause) (reach : Reach) (all near : List (Option ℕ)) → IsLongAt view at all → IsCutAt view at clause reach all near → IsLongAt view at near
near_long view at Score reach all near long cut = absurd cut
near_long view at (Field asked) reach all near long cut = by (slice_get view at) long cut
  where
    by : (o : Option EntryState) → IsSomeAnd o (λ (entry : EntryState). length all ≡ entry.columns.documents) → IsSomeAnd o (λ (entry : EntryState). IsCut entry.columns at (question_of asked) reach all near) → IsSomeAnd o (λ (entry : EntryState). length near ≡ entry.columns.documents)
    by None long cut = absurd long
    by (Some entry) long cut =
        let flags = map is_some all in
        let count : length flags ≡ length all = length-map all is_some in
        ap length cut.cut ∙ filled_long (Some cut.score) (intersection cut.marks flags) ∙ cut_long cut.marks flags (cut.long ∙ sym long ∙ sym count) ∙ count ∙ long

-- ---- the numbers of documents without a term

both_hold : {P Q R : ℤ → Type 0} → ((z : ℤ) → P z → Q z → R z) → (numbers : List ℤ) → AllByRecursion P numbers → AllByRecursion Q numbers → AllByRecursion R numbers
both_hold hold [] ps qs = tt
both_hold hold (z ∷ numbers) ps qs = (hold z ps.0 qs.0, both_hold hold numbers ps.1 qs.1)

module _ (ordered : (one other : ℤ) → FitsSigned w64 one → FitsSigned w64 other → slice_cmp nat_cmp (number_key one) (number_key other) ≡ int_cmp one other) (c : Columns) (field doc : ℕ) (reach : Reach)
    (fit : All (λ (pair : ℕ × List ℤ). All (FitsSigned w64) pair.1) (flat_of c doc).numbers) (limit_fits : FitsSigned w64 reach.limit) (far : Bor (List ℕ)) (far_is : far.now ≡ number_key reach.limit) where
  fits_all : AllByRecursion (FitsSigned w64) (numbers_at c field doc)
  fits_all = numbers_fit field (flat_of c doc).numbers (recursion_from_All (λ (pair : ℕ × List ℤ). All (FitsSigned w64) pair.1) (flat_of c doc).numbers fit)

  pub out_free : reach.after ≡ None → has_term field (is_within_by reach.direction.descending Unbounded (Past far)) (flat_of c doc) ≡ false → AreOut reach (numbers_at c field doc)
  out_free none out =
      subst (λ (a : Option ℤ). AllByRecursion (λ (z : ℤ). reaches reach.direction (option_map NumberKey a) reach.limit (NumberKey z) ≡ false) (numbers_at c field doc)) (sym none)
      (both_hold (λ z z_out z_fits. reached_free ordered reach.direction reach.limit z limit_fits z_fits far far_is reach.direction.descending refl z_out) (numbers_at c field doc)
      (numbers_fail field (is_within_by reach.direction.descending Unbounded (Past far)) (flat_of c doc) out) fits_all)

  pub out_behind : (after : ℤ) → FitsSigned w64 after → (near : Bor (List ℕ)) → near.now ≡ number_key after → reach.after ≡ Some after → has_term field (is_within_by reach.direction.descending (Closed near) (Past far)) (flat_of c doc) ≡ false → AreOut reach (numbers_at c field doc)
  out_behind after after_fits near near_is some out =
      subst (λ (a : Option ℤ). AllByRecursion (λ (z : ℤ). reaches reach.direction (option_map NumberKey a) reach.limit (NumberKey z) ≡ false) (numbers_at c field doc)) (sym some)
      (both_hold (λ z z_out z_fits. reached_behind ordered reach.direction reach.limit z limit_fits z_fits far far_is after after_fits near near_is reach.direction.descending refl z_out) (numbers_at c field doc)
      (numbers_fail field (is_within_by reach.direction.descending (Closed near) (Past far)) (flat_of c doc) out) fits_all)

pub some_more : {A : Type 0} {P Q : A → Type 0} → ((x : A) → P x → Q x) → (o : Option A) → IfSome o P → IfSome o Q
some_more goes None held = tt
some_more goes (Some x) held = goes x held

pub cut_there : (view : List EntryState) (at : ℕ) (all near : List (Option ℕ)) (entry : EntryState) (columns : Columns) (q : Question) (reach : Reach) → IsLongAt view at all → entry ≡ get_or view at entry → columns ≡ entry.columns → IsCut columns at q reach all near
    → IsSomeAnd (slice_get view at) (λ (entry : EntryState). IsCut entry.columns at q reach all near)
cut_there view at all near entry columns q reach long is same cut =
    subst (λ (o : Option EntryState). IsSomeAnd o (λ (entry : EntryState). IsCut entry.columns at q reach all near)) (sym (read view at all entry long is))
    (subst (λ (c : Columns). IsCut c at q reach all near) same cut)
