-- Scores of entries, one entry after the other.
use Rattle.std.proofs.Common.{◌≡◌, ℕ, zero, suc, ◌+◌, ◌<◌, ◌≤◌, List, [], ◌∷◌, ◌++◌, length, map, take, get_or, Option, refl, sym, ap, subst, ◌∙◌, arith}
use Rattle.flattener.specs.StandsFor.{Marked, EntryStandsFor, ViewStandsFor}
use Rattle.mapping.specs.Mapping.{Mapping}
use Rattle.segment.specs.Live.{EntryState}
use Rattle.tree_joins.specs.Seen.{at_scope, seen}
use Rattle.tree_objects.specs.Object.{Object}
use Rattle.tree_objects.specs.Tree.{Tree}
use Rattle.query_eval.specs.Found.{AreLong, IsSeen, live_trees}

abbrev pub Trees : Type 0
Trees = List (Marked Tree)

abbrev pub Scores : Type 0
Scores = List (Option ℕ)

-- ---- lists

module _ {A : Type 0} where
  pub or_past : (xs : List A) (k : ℕ) (d : A) → length xs ≤ k → get_or xs k d ≡ d
  or_past [] k d past = refl
  or_past (x ∷ xs) zero d past = absurd (omega (arith, past))
  or_past (x ∷ xs) (suc k) d past = or_past xs k d (omega (arith, past))

  pub take_more : (xs : List A) (k : ℕ) (d : A) → k < length xs → take (k + 1) xs ≡ take k xs ++ get_or xs k d ∷ []
  take_more [] k d below = absurd (omega (arith, below))
  take_more (x ∷ xs) zero d below = refl
  take_more (x ∷ xs) (suc k) d below =
      let same : suc k + 1 ≡ suc (k + 1) = omega arith in
      rw same (ap (λ (l : List A). x ∷ l) (take_more xs k d (omega (arith, below))))

  pub take_whole : (xs : List A) (k : ℕ) → length xs ≤ k → take k xs ≡ xs
  take_whole [] zero past = refl
  take_whole [] (suc k) past = refl
  take_whole (x ∷ xs) zero past = absurd (omega (arith, past))
  take_whole (x ∷ xs) (suc k) past = ap (λ (l : List A). x ∷ l) (take_whole xs k (omega (arith, past)))

  pub nil_append : (xs : List A) → xs ++ [] ≡ xs
  nil_append [] = refl
  nil_append (x ∷ xs) = ap (λ (l : List A). x ∷ l) (nil_append xs)

map_more : {A B : Type 0} (f : A → B) (xs : List A) (x : A) → map f (xs ++ x ∷ []) ≡ map f xs ++ f x ∷ []
map_more f [] x = refl
map_more {A} {B} f (y ∷ xs) x = ap (λ (l : List B). f y ∷ l) (map_more f xs x)

pub map_get : {A B : Type 0} (f : A → B) (xs : List A) (k : ℕ) (d : A) (e : B) → k < length xs → get_or (map f xs) k e ≡ f (get_or xs k d)
map_get f [] k d e below = absurd (omega (arith, below))
map_get f (x ∷ xs) zero d e below = refl
map_get f (x ∷ xs) (suc k) d e below = map_get f xs k d e (omega (arith, below))

-- ---- entries and trees

pub long_count : (view : List EntryState) (scores : List Scores) → AreLong view scores → length scores ≡ length view
long_count [] [] long = refl
long_count [] (s ∷ scores) long = absurd long
long_count (e ∷ view) [] long = absurd long
long_count (e ∷ view) (s ∷ scores) long = ap suc (long_count view scores long.1)

pub long_at : (view : List EntryState) (scores : List Scores) (k : ℕ) (d : EntryState) (s : Scores) → AreLong view scores → k < length view → length (get_or scores k s) ≡ (get_or view k d).columns.documents
long_at [] scores k d s long below = absurd (omega (arith, below))
long_at (e ∷ view) [] k d s long below = absurd long
long_at (e ∷ view) (x ∷ scores) zero d s long below = long.0
long_at (e ∷ view) (x ∷ scores) (suc k) d s long below = long_at view scores k d s long.1 (omega (arith, below))

pub long_more : (view : List EntryState) (scores : List Scores) (e : EntryState) (s : Scores) → AreLong view scores → length s ≡ e.columns.documents → AreLong (view ++ e ∷ []) (scores ++ s ∷ [])
long_more [] [] e s long own = (own, tt)
long_more [] (x ∷ scores) e s long own = absurd long
long_more (y ∷ view) [] e s long own = absurd long
long_more (y ∷ view) (x ∷ scores) e s long own = (long.0, long_more view scores e s long.1 own)

pub trees_count : (m : Mapping) (view : List EntryState) (trees : List Trees) → ViewStandsFor m view trees → length trees ≡ length view
trees_count m [] [] stands = refl
trees_count m [] (t ∷ trees) stands = absurd stands
trees_count m (e ∷ view) [] stands = absurd stands
trees_count m (e ∷ view) (t ∷ trees) stands = ap suc (trees_count m view trees stands.1)

pub trees_at : (m : Mapping) (view : List EntryState) (trees : List Trees) (k : ℕ) (d : EntryState) → ViewStandsFor m view trees → k < length view → EntryStandsFor m (get_or view k d).columns (get_or view k d).live (get_or trees k [])
trees_at m [] trees k d stands below = absurd (omega (arith, below))
trees_at m (e ∷ view) [] k d stands below = absurd stands
trees_at m (e ∷ view) (t ∷ trees) zero d stands below = stands.0
trees_at m (e ∷ view) (t ∷ trees) (suc k) d stands below = trees_at m view trees k d stands.1 (omega (arith, below))

-- what is seen of an entry's trees, in the light of all live trees
abbrev pub own_scores : Mapping → ℕ → (List Tree → Object → Option ℕ) → List Trees → Trees → Scores
own_scores m n given trees own = seen m (at_scope n (given (live_trees trees))) own

pub seen_at : (m : Mapping) (view : List EntryState) (n : ℕ) (given : List Tree → Object → Option ℕ) (scores : List Scores) (trees : List Trees) (k : ℕ) (s : Scores) → IsSeen m view n given scores → ViewStandsFor m view trees → k < length view
    → get_or scores k s ≡ own_scores m n given trees (get_or trees k [])
seen_at m view n given scores trees k s is stands below =
    ap (λ (l : List Scores). get_or l k s) (is.are trees stands)
    ∙ map_get (own_scores m n given trees) trees k [] s (omega (arith, below, trees_count m view trees stands))

-- ---- the entries so far

pub record Done (m : Mapping) (view : List EntryState) (n : ℕ) (given : List Tree → Object → Option ℕ) (k : ℕ) (made : List Scores) : Type 0 where
  pub are : (trees : List Trees) → ViewStandsFor m view trees → made ≡ map (own_scores m n given trees) (take k trees)

pub done_start : (m : Mapping) (view : List EntryState) (n : ℕ) (given : List Tree → Object → Option ℕ) → Done m view n given 0 []
done_start m view n given = record { are = λ trees stands. refl }

pub done_more : (m : Mapping) (view : List EntryState) (n : ℕ) (given : List Tree → Object → Option ℕ) (k : ℕ) (made : List Scores) (new : Scores) → Done m view n given k made → k < length view
    → ((trees : List Trees) → ViewStandsFor m view trees → new ≡ own_scores m n given trees (get_or trees k [])) → Done m view n given (k + 1) (made ++ new ∷ [])
done_more m view n given k made new was below own = record {
  are = λ trees stands.
      let f = own_scores m n given trees in
      ap (λ (l : List Scores). l ++ new ∷ []) (was.are trees stands)
      ∙ ap (λ (x : Scores). map f (take k trees) ++ x ∷ []) (own trees stands)
      ∙ sym (map_more f (take k trees) (get_or trees k []))
      ∙ ap (map f) (sym (take_more trees k [] (omega (arith, below, trees_count m view trees stands))));
}

pub done_end : (m : Mapping) (view : List EntryState) (n : ℕ) (given : List Tree → Object → Option ℕ) (k : ℕ) (made : List Scores) → Done m view n given k made → length view ≤ k → AreLong view made → IsSeen m view n given made
done_end m view n given k made was past long = record {
  long = long;
  are = λ trees stands.
      was.are trees stands ∙ ap (map (own_scores m n given trees)) (take_whole trees k (omega (arith, past, trees_count m view trees stands)));
}

-- the lists so far are as long as their entries' documents
pub long_so_far : (view : List EntryState) (k : ℕ) (d : EntryState) (made : List Scores) (new : Scores) → AreLong (take k view) made → k < length view → length new ≡ (get_or view k d).columns.documents → AreLong (take (k + 1) view) (made ++ new ∷ [])
long_so_far view k d made new long below own =
    subst (λ (l : List EntryState). AreLong l (made ++ new ∷ [])) (sym (take_more view k d below)) (long_more (take k view) made (get_or view k d) new long own)

pub long_whole : (view : List EntryState) (k : ℕ) (made : List Scores) → AreLong (take k view) made → length view ≤ k → AreLong view made
long_whole view k made long past = subst (λ (l : List EntryState). AreLong l made) (take_whole view k past) long

-- an entry at a place
pub entry_at : (view : List EntryState) (k : ℕ) → k < length view → (e : EntryState) × (e ≡ get_or view k e)
entry_at [] k below = absurd (omega (arith, below))
entry_at (e ∷ view) zero below = (e, refl)
entry_at (e ∷ view) (suc k) below = entry_at view k (omega (arith, below))

-- ---- one entry more, as a loop makes it

pub entry_step : (view : List EntryState) (k : ℕ) (e : EntryState) (made items : List Scores) (new : Scores) → e ≡ get_or view k e → k < length view → AreLong (take k view) made → length new ≡ e.columns.documents → items ≡ made ++ new ∷ []
    → AreLong (take (k + 1) view) items
entry_step view k e made items new at below long own is =
    subst (AreLong (take (k + 1) view)) (sym is) (long_so_far view k e made new long below (own ∙ ap (λ (x : EntryState). x.columns.documents) at))

pub done_step : (m : Mapping) (view : List EntryState) (n : ℕ) (given : List Tree → Object → Option ℕ) (k : ℕ) (e : EntryState) (made items : List Scores) (new : Scores) → Done m view n given k made → k < length view → e ≡ get_or view k e → items ≡ made ++ new ∷ []
    → ((trees : List Trees) → ViewStandsFor m view trees → EntryStandsFor m e.columns e.live (get_or trees k []) → new ≡ own_scores m n given trees (get_or trees k [])) → Done m view n given (k + 1) items
done_step m view n given k e made items new was below at is own =
    subst (Done m view n given (k + 1)) (sym is)
    (done_more m view n given k made new was below
    (λ trees stands.
    own trees stands (subst (λ (x : EntryState). EntryStandsFor m x.columns x.live (get_or trees k [])) (sym at) (trees_at m view trees k e stands below))))

pub all_long : (view : List EntryState) (k : ℕ) (made result : List Scores) → AreLong (take k view) made → length view ≤ k → result ≡ made → AreLong view result
all_long view k made result long past is = subst (AreLong view) (sym is) (long_whole view k made long past)

pub all_seen : (m : Mapping) (view : List EntryState) (n : ℕ) (given : List Tree → Object → Option ℕ) (k : ℕ) (made result : List Scores) → Done m view n given k made → AreLong (take k view) made → length view ≤ k → result ≡ made → IsSeen m view n given result
all_seen m view n given k made result was long past is =
    subst (IsSeen m view n given) (sym is) (done_end m view n given k made was past (long_whole view k made long past))

-- the lists of two sides are of the same length
pub same_long : (view : List EntryState) (k : ℕ) (e : EntryState) (ones others : List Scores) (s t : Scores) → AreLong view ones → AreLong view others → k < length view → s ≡ get_or ones k s → t ≡ get_or others k t → length s ≡ length t
same_long view k e ones others s t one other below is same =
    ap length is ∙ long_at view ones k e s one below ∙ sym (long_at view others k e t other below) ∙ sym (ap length same)

pub own_long : (view : List EntryState) (k : ℕ) (e : EntryState) (scores : List Scores) (s : Scores) → AreLong view scores → k < length view → e ≡ get_or view k e → s ≡ get_or scores k s → length s ≡ e.columns.documents
own_long view k e scores s long below at is =
    ap length is ∙ long_at view scores k e s long below ∙ sym (ap (λ (x : EntryState). x.columns.documents) at)

pub own_seen : (m : Mapping) (view : List EntryState) (n : ℕ) (given : List Tree → Object → Option ℕ) (scores : List Scores) (trees : List Trees) (k : ℕ) (s : Scores) → IsSeen m view n given scores → ViewStandsFor m view trees → k < length view → s ≡ get_or scores k s
    → s ≡ own_scores m n given trees (get_or trees k [])
own_seen m view n given scores trees k s is stands below at = at ∙ seen_at m view n given scores trees k s is stands below
