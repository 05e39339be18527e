-- Rows are kept as they come, and cut to the first of them when there are too many.
use Rattle.std.specs.Prelude.{◌≡◌, ℕ, ◌+◌, ◌-◌, ◌<◌, ◌≤◌, ℤ, Bool, true, false, cond, List, [], ◌∷◌, ◌++◌, take, filter, length, slice_get, Option, Some, None, refl}
use Rattle.std.specs.Cmp.{IsStrictWeakOrder}
use Rattle.std.specs.List.{AllByRecursion, range_with_len}
use Rattle.std.specs.List.Sorted.{IsSortedBy, IsStableBy}
use Rattle.std.proofs.Common.{arith, ap, sym, subst, ◌∙◌}
use Rattle.std.proofs.lemmas.Bool.{true≢false}
use Rattle.std.proofs.lemmas.List.{length-take, get_or-take, take-take, length-append, append-nil, map-id}
use Rattle.std.proofs.lemmas.List.FromFn.{filter_of_map_range_with_len_more}
use Rattle.std.proofs.lemmas.List.Elements.{recursion_from_All}
use Rattle.std.proofs.lemmas.List.Sorted.{sorted_far}
use Rattle.std.proofs.lemmas.Option.{get_or_from_slice_get}
use Rattle.query_ast.specs.Compare.{in_order}
use Rattle.query_ast.specs.Page.{comes_before}
use Rattle.query_ast.specs.declared.sort.Direction.{Direction}
use Rattle.query_ast.specs.declared.sort.Key.{Key}
use Rattle.hit_order.specs.Table.{directions_of}
use Rattle.hit_order.specs.declared.table.Table.{Table}
use Rattle.hit_order.specs.Indexed.{keys_at, number_at, is_before, first_of, IsReached, IsSelecting, is_wanted}
use Rattle.hit_order.proofs.Selecting.{put, in_order-more, length-in_order, first-put, passed_over, all_as, all_put}

-- an order, and that a list in order is the one that is sorted
pub record Laws (lt : ℕ → ℕ → Bool) : Type 0 where
  pub order : IsStrictWeakOrder lt
  pub sorted : (rows : List ℕ) → IsSortedBy lt (in_order lt rows)
  pub only : (rows sorted : List ℕ) → IsSortedBy lt sorted → IsStableBy lt rows sorted → sorted ≡ in_order lt rows

pub laws_of : (t : Table) → ((keys : ℕ → List Key) (number : ℕ → ℤ) (ds : List Direction) → IsStrictWeakOrder (comes_before keys number ds)) → ((keys : ℕ → List Key) (number : ℕ → ℤ) (ds : List Direction) (rows : List ℕ) → IsSortedBy (comes_before keys number ds) (in_order (comes_before keys number ds) rows)) → ((keys : ℕ → List Key) (number : ℕ → ℤ) (ds : List Direction) (rows sorted : List ℕ) → IsSortedBy (comes_before keys number ds) sorted → IsStableBy (comes_before keys number ds) rows sorted → sorted ≡ in_order (comes_before keys number ds) rows) → Laws (is_before t)
unfolding is_before
laws_of t order sorted only = record {
  order = order (keys_at t) (number_at t) (directions_of t.columns.items);
  sorted = λ rows. sorted (keys_at t) (number_at t) (directions_of t.columns.items) rows;
  only = λ rows list. only (keys_at t) (number_at t) (directions_of t.columns.items) rows list;
}

pub selecting_none : (lt : ℕ → ℕ → Bool) (most : ℕ) → IsSelecting lt most [] [] None
selecting_none lt most = record { same = refl; reached = tt }

-- one more row is put in among the first
first_of-more : (lt : ℕ → ℕ → Bool) → IsStrictWeakOrder lt → (most : ℕ) (rows : List ℕ) (row : ℕ) → first_of lt most (rows ++ row ∷ []) ≡ take most (put lt row (first_of lt most rows))
first_of-more lt o most rows row = ap (take most) (in_order-more o rows row) ∙ first-put lt most row (in_order lt rows)

same_more : (lt : ℕ → ℕ → Bool) → IsStrictWeakOrder lt → (most : ℕ) (all kept : List ℕ) (row : ℕ) → first_of lt most all ≡ first_of lt most kept → first_of lt most (all ++ row ∷ []) ≡ take most (put lt row (in_order lt kept))
same_more lt o most all kept row same =
    first_of-more lt o most all row ∙ (ap (λ rows. take most (put lt row rows)) same ∙ sym (first-put lt most row (in_order lt kept)))

reached_more : (lt : ℕ → ℕ → Bool) → IsStrictWeakOrder lt → (most : ℕ) (kept : List ℕ) (row : ℕ) (worst : Option ℕ) → IsReached lt most worst kept → is_wanted lt row worst ≡ true → IsReached lt most worst (kept ++ row ∷ [])
reached_more lt o most kept row None reached wanted = tt
reached_more lt o most kept row (Some worst) reached wanted = (
  (let long = length-append kept (row ∷ []) in omega (arith, long, reached.0)),
  subst (λ rows. AllByRecursion (λ other. lt worst other ≡ false) (take most rows)) (sym (in_order-more o kept row))
      (all_put lt (λ other. lt worst other ≡ false) most row (in_order lt kept) (o.one_way row worst wanted) reached.1),
)

pub selecting_kept : (lt : ℕ → ℕ → Bool) → Laws lt → (most : ℕ) (all kept : List ℕ) (row : ℕ) (worst : Option ℕ) → IsSelecting lt most all kept worst → is_wanted lt row worst ≡ true → IsSelecting lt most (all ++ row ∷ []) (kept ++ row ∷ []) worst
selecting_kept lt laws most all kept row worst was wanted = record {
  same = same_more lt laws.order most all kept row was.same ∙ ap (take most) (sym (in_order-more laws.order kept row));
  reached = reached_more lt laws.order most kept row worst was.reached wanted;
}

stands_behind : (lt : ℕ → ℕ → Bool) → IsStrictWeakOrder lt → (most : ℕ) (kept : List ℕ) (row : ℕ) (worst : Option ℕ) → IsReached lt most worst kept → is_wanted lt row worst ≡ false → take most (put lt row (in_order lt kept)) ≡ first_of lt most kept
stands_behind lt o most kept row None reached unwanted = absurd (true≢false unwanted)
stands_behind lt o most kept row (Some worst) reached unwanted =
    let long = length-in_order lt kept in
    passed_over lt most row (in_order lt kept) (omega (arith, long, reached.0))
    (all_as (λ other behind. o.chain row worst other unwanted behind) (first_of lt most kept) reached.1)

pub selecting_passed : (lt : ℕ → ℕ → Bool) → Laws lt → (most : ℕ) (all kept : List ℕ) (row : ℕ) (worst : Option ℕ) → IsSelecting lt most all kept worst → is_wanted lt row worst ≡ false → IsSelecting lt most (all ++ row ∷ []) kept worst
selecting_passed lt laws most all kept row worst was unwanted = record {
  same = same_more lt laws.order most all kept row was.same ∙ stands_behind lt laws.order most kept row worst was.reached unwanted;
  reached = was.reached;
}

-- ---- sorted and cut

pub sorted_take : {A : Type 0} (lt : A → A → Bool) (most : ℕ) (rows : List A) → IsSortedBy lt rows → IsSortedBy lt (take most rows)
sorted_take lt most rows up k d from to =
    let long = length-take most rows in
    let here : k < most = omega (arith, long, to) in
    let next : k + 1 < most = omega (arith, long, to) in
    rw (get_or-take most rows k d here, get_or-take most rows (k + 1) d next) (up k d from (omega (arith, long, to)))

first_again : (lt : ℕ → ℕ → Bool) → Laws lt → (most : ℕ) (rows : List ℕ) → first_of lt most (first_of lt most rows) ≡ first_of lt most rows
first_again lt laws most rows =
    let itself : first_of lt most rows ≡ in_order lt (first_of lt most rows) =
    laws.only (first_of lt most rows) (first_of lt most rows) (sorted_take lt most (in_order lt rows) (laws.sorted rows)) (λ x. refl) in
    ap (take most) (sym itself) ∙ take-take most most (in_order lt rows) (omega arith)

pub last_is_worst : {A : Type 0} (lt : A → A → Bool) → IsStrictWeakOrder lt → (rows : List A) (worst : A) → IsSortedBy lt rows → slice_get rows (length rows - 1) ≡ Some worst → AllByRecursion (λ row. lt worst row ≡ false) rows
last_is_worst lt o rows worst up last =
    recursion_from_All (λ row. lt worst row ≡ false) rows
    (λ k d below. let far = sorted_far lt o rows up k (length rows - 1) d (omega arith) (omega arith) in rw (get_or_from_slice_get rows (length rows - 1) worst d last) at far)

reached_cut : (lt : ℕ → ℕ → Bool) → Laws lt → (most : ℕ) (kept cut : List ℕ) (worst : Option ℕ) → cut ≡ first_of lt most kept → most ≤ length kept → worst ≡ slice_get cut (length cut - 1) → IsReached lt most worst cut
reached_cut lt laws most kept cut None is long last = tt
reached_cut lt laws most kept cut (Some worst) is long last =
    let all = length-in_order lt kept in
    let count : length cut ≡ most = ap length is ∙ omega (arith, length-take most (in_order lt kept), all, long) in
    let up : IsSortedBy lt cut = subst (IsSortedBy lt) (sym is) (sorted_take lt most (in_order lt kept) (laws.sorted kept)) in
    let first : first_of lt most cut ≡ cut = ap (first_of lt most) is ∙ (first_again lt laws most kept ∙ sym is) in
    (omega (arith, count), subst (AllByRecursion (λ row. lt worst row ≡ false)) (sym first) (last_is_worst lt laws.order cut worst up (sym last)))

pub selecting_cut : (lt : ℕ → ℕ → Bool) → Laws lt → (most : ℕ) (all kept cut : List ℕ) (before worst : Option ℕ) → IsSelecting lt most all kept before → cut ≡ first_of lt most kept → most ≤ length kept → worst ≡ slice_get cut (length cut - 1) → IsSelecting lt most all cut worst
selecting_cut lt laws most all kept cut before worst was is long last = record {
  same = was.same ∙ (sym (first_again lt laws most kept) ∙ ap (first_of lt most) (sym is));
  reached = reached_cut lt laws most kept cut worst is long last;
}

-- what a stable sort gives
pub cut_is_first : (lt : ℕ → ℕ → Bool) → Laws lt → (most : ℕ) (rows sorted cut : List ℕ) → IsSortedBy lt sorted → IsStableBy lt rows sorted → cut ≡ take most sorted → cut ≡ first_of lt most rows
cut_is_first lt laws most rows sorted cut up stable is = is ∙ ap (take most) (laws.only rows sorted up stable)

-- ---- a row that may stand in front of the one that was named

pub offered_out : (lt : ℕ → ℕ → Bool) (most : ℕ) (all kept : List ℕ) (row : ℕ) (worst : Option ℕ) (passes : Bool) → passes ≡ false → IsSelecting lt most all kept worst → IsSelecting lt most (all ++ cond passes (row ∷ []) []) kept worst
offered_out lt most all kept row worst passes e was = rw e (subst (λ rows. IsSelecting lt most rows kept worst) (sym (append-nil all)) was)

pub offered_in : (lt : ℕ → ℕ → Bool) (most : ℕ) (all kept : List ℕ) (row : ℕ) (worst : Option ℕ) (passes : Bool) → passes ≡ true → IsSelecting lt most (all ++ row ∷ []) kept worst → IsSelecting lt most (all ++ cond passes (row ∷ []) []) kept worst
offered_in lt most all kept row worst passes e was = rw e was

pub passing-more : (passes : ℕ → Bool) (n : ℕ) → filter passes (range_with_len 0 (n + 1)) ≡ filter passes (range_with_len 0 n) ++ cond (passes n) (n ∷ []) []
passing-more passes n =
    ap (filter passes) (sym (map-id (range_with_len 0 (n + 1))))
    ∙ (filter_of_map_range_with_len_more passes (λ k. k) 0 n n (omega arith) ∙ ap (λ rows. filter passes rows ++ cond (passes n) (n ∷ []) []) (map-id (range_with_len 0 n)))
