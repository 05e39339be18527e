-- The ordinals of the terms of one field stand in the order of their texts.
use Rattle.std.specs.Prelude.{◌≡◌, ℕ, zero, suc, ◌<◌, Bool, List, [], ◌∷◌, map, length, get_or, slice_get, Option, Some, None, option_map, IfSome, IsSomeAnd, refl}
use Rattle.std.specs.List.{All, AllByRecursion, best_of}
use Rattle.std.specs.List.Sorted.{IsStrictlySortedBy}
use Rattle.std.specs.Ordering.{nat_cmp, is_lt, ordering_reverse}
use Rattle.std.specs.Cmp.Lexicographic.{slice_cmp}
use Rattle.std.specs.declared.cmp.Ordering.TheVariants.{Less, Equal}
use Rattle.std.proofs.Common.{arith, ap, sym, ◌∙◌}
use Rattle.std.proofs.lemmas.Bool.{false≢true}
use Rattle.std.proofs.lemmas.Cmp.{by_ranked, nat_cmp_total, nat_list_cmp_total, ranked, tied_itself}
use Rattle.std.proofs.lemmas.List.Elements.{recursion_from_All}
use Rattle.std.proofs.lemmas.Option.{get_or_from_slice_get, slice_get_within}
use Rattle.mapping_body.specs.declared.kind.Kind.TheVariants.{Keyword}
use Rattle.query_ast.specs.Compare.{is_less}
use Rattle.query_ast.specs.Resolved.{IsModeOf}
use Rattle.query_ast.specs.SortKey.{is_greater, mode_value}
use Rattle.query_ast.specs.declared.sort.SortMode.{SortMode}
use Rattle.query_ast.specs.declared.sort.SortMode.TheVariants.{Min, Max, Sum, Avg, Median}
use Rattle.segment.specs.Flat.{bytes_at}
use Rattle.term_table.specs.Terms.{AreAscending, term_cmp}
use Rattle.nested_sort.specs.Best.{best, is_before, is_behind, ordinal_by}
use Rattle.nested_sort.specs.Documents.{IsTermOf, term_value}
use Rattle.nested_sort.proofs.Moded.{best_kept, best_mapped}

each_at : {A : Type 0} (P : A → Type 0) (xs : List A) (k : ℕ) (d : A) → AllByRecursion P xs → k < length xs → P (get_or xs k d)
each_at P [] k d all low = absurd (omega arith)
each_at P (x ∷ xs) zero d all low = all.0
each_at P (x ∷ xs) (suc k) d all low = each_at P xs k d all.1 (omega arith)

earlier : (terms : List (ℕ × List ℕ)) (a b : ℕ) (d : ℕ × List ℕ) → AreAscending terms → a < b → b < length terms → term_cmp (get_or terms a d) (get_or terms b d) ≡ Less
unfolding IsStrictlySortedBy
earlier [] a b d up low within = absurd (omega arith)
earlier (x ∷ xs) a zero d up low within = absurd (omega arith)
earlier (x ∷ xs) zero (suc b) d up low within = each_at (λ y. term_cmp x y ≡ Less) xs b d up.0 (omega arith)
earlier (x ∷ xs) (suc a) (suc b) d up low within = earlier xs a b d up.1 (omega arith) (omega arith)

module _ (terms : List (ℕ × List ℕ)) (f : ℕ) (up : AreAscending terms) where
  record Own (ordinal : ℕ) : Type 0 where
    pub term : ℕ × List ℕ
    pub is : slice_get terms ordinal ≡ Some term
    pub field : term.0 ≡ f

  own : (ordinal : ℕ) → IsTermOf terms f ordinal → Own ordinal
  own ordinal held = by (slice_get terms ordinal) refl held
    where
      by : (o : Option (ℕ × List ℕ)) → slice_get terms ordinal ≡ o → IsSomeAnd o (λ (term : ℕ × List ℕ). term.0 ≡ f) → Own ordinal
      by None e none = absurd none
      by (Some term) e field = record { term = term; is = e; field = field }

  -- an ordinal before another
  ordered : (a b : ℕ) → a < b → IsTermOf terms f a → IsTermOf terms f b → slice_cmp nat_cmp (bytes_at terms a) (bytes_at terms b) ≡ Less
  ordered a b low pa pb =
      let one = own a pa in
      let two = own b pb in
      let first : get_or terms a (0, []) ≡ one.term = get_or_from_slice_get terms a one.term (0, []) one.is in
      let second : get_or terms b (0, []) ≡ two.term = get_or_from_slice_get terms b two.term (0, []) two.is in
      let less : term_cmp (get_or terms a (0, [])) (get_or terms b (0, [])) ≡ Less = earlier terms a b (0, []) up low (slice_get_within terms b two.term two.is) in
      let fields : nat_cmp (get_or terms a (0, [])).0 (get_or terms b (0, [])).0 ≡ Equal =
      ap (λ (term : ℕ × List ℕ). nat_cmp term.0 (get_or terms b (0, [])).0) first
      ∙ ap (λ (term : ℕ × List ℕ). nat_cmp one.term.0 term.0) second
      ∙ ap (λ n. nat_cmp n two.term.0) one.field
      ∙ ap (λ n. nat_cmp f n) two.field
      ∙ tied_itself nat_cmp_total f in
      rw fields at less

  same_order : (a b : ℕ) → IsTermOf terms f a → IsTermOf terms f b → is_less (term_value terms a) (term_value terms b) ≡ is_before nat_cmp a b
  same_order a b pa pb =
      by_ranked (a < b) (a ≡ b) (b < a) (nat_cmp a b) (ranked a b (nat_cmp a b) refl)
      (λ is low. ap is_lt (ordered a b low pa pb) ∙ sym (ap is_lt is))
      (λ is same. ap (λ n. is_lt (slice_cmp nat_cmp (bytes_at terms a) (bytes_at terms n))) (sym same) ∙ ap is_lt (tied_itself nat_list_cmp_total (bytes_at terms a)) ∙ sym (ap is_lt is))
      (λ is high. ap is_lt (nat_list_cmp_total.antisymm (bytes_at terms a) (bytes_at terms b) ∙ ap ordering_reverse (ordered b a high pb pa)) ∙ sym (ap is_lt is))

  least_term : (ordinals : List ℕ) → AllByRecursion (IsTermOf terms f) ordinals → option_map (term_value terms) (best (is_before nat_cmp) ordinals) ≡ mode_value Min (map (term_value terms) ordinals)
  least_term [] all = refl
  least_term (x ∷ xs) all = ap (λ v. Some v) (best_mapped (IsTermOf terms f) (term_value terms) (is_before nat_cmp) is_less same_order x xs all.0 all.1)

  greatest_term : (ordinals : List ℕ) → AllByRecursion (IsTermOf terms f) ordinals → option_map (term_value terms) (best (is_behind nat_cmp) ordinals) ≡ mode_value Max (map (term_value terms) ordinals)
  greatest_term [] all = refl
  greatest_term (x ∷ xs) all = ap (λ v. Some v) (best_mapped (IsTermOf terms f) (term_value terms) (is_behind nat_cmp) is_greater (λ x y px py. same_order y x py px) x xs all.0 all.1)

  by_mode : (mode : SortMode) (ordinals : List ℕ) → IsModeOf Keyword mode → AllByRecursion (IsTermOf terms f) ordinals → option_map (term_value terms) (ordinal_by mode ordinals) ≡ mode_value mode (map (term_value terms) ordinals)
  by_mode Min ordinals is all = least_term ordinals all
  by_mode Max ordinals is all = greatest_term ordinals all
  by_mode Sum ordinals is all = absurd (false≢true (sym is))
  by_mode Avg ordinals is all = absurd (false≢true (sym is))
  by_mode Median ordinals is all = absurd (false≢true (sym is))

  pub ordinal_mode : (mode : SortMode) (ordinals : List ℕ) (found : Option ℕ) → found ≡ ordinal_by mode ordinals → IsModeOf Keyword mode → All (IsTermOf terms f) ordinals → option_map (term_value terms) found ≡ mode_value mode (map (term_value terms) ordinals)
  ordinal_mode mode ordinals found e is all = ap (option_map (term_value terms)) e ∙ by_mode mode ordinals is (recursion_from_All (IsTermOf terms f) ordinals all)

  best_within : (beats : ℕ → ℕ → Bool) (ordinals : List ℕ) → AllByRecursion (IsTermOf terms f) ordinals → IfSome (best beats ordinals) (λ ordinal. ordinal < length terms)
  best_within beats [] all = tt
  best_within beats (x ∷ xs) all =
      let it = own (best_of beats x xs) (best_kept (IsTermOf terms f) (λ n. n) beats beats (λ a b pa pb. refl) x xs all.0 all.1) in
      slice_get_within terms (best_of beats x xs) it.term it.is

  mode_within : (mode : SortMode) (ordinals : List ℕ) → AllByRecursion (IsTermOf terms f) ordinals → IfSome (ordinal_by mode ordinals) (λ ordinal. ordinal < length terms)
  mode_within Min ordinals all = best_within (is_before nat_cmp) ordinals all
  mode_within Max ordinals all = best_within (is_behind nat_cmp) ordinals all
  mode_within Sum ordinals all = best_within (is_before nat_cmp) ordinals all
  mode_within Avg ordinals all = best_within (is_before nat_cmp) ordinals all
  mode_within Median ordinals all = best_within (is_before nat_cmp) ordinals all

  pub ordinal_within : (mode : SortMode) (ordinals : List ℕ) (found : Option ℕ) → found ≡ ordinal_by mode ordinals → All (IsTermOf terms f) ordinals → IfSome found (λ ordinal. ordinal < length terms)
  ordinal_within mode ordinals found e all = rw e (mode_within mode ordinals (recursion_from_All (IsTermOf terms f) ordinals all))
