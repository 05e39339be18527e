-- The documents above others.
use Rattle.std.specs.Prelude.{◌≡◌, ℕ, ℤ, zero, suc, ◌+◌, ◌<◌, ◌≤◌, Bool, true, false, List, [], ◌∷◌, ◌++◌, get_or, length, replicate, slice_set, take, drop, Some, None, Option, nat_lt, refl}
use Rattle.std.specs.List.{AllByRecursion, flat_map}
use Rattle.std.specs.Option.{option_map_or}
use Rattle.std.proofs.Common.{arith, ap, sym, subst, ◌∙◌, ltb-true, ltb-false}
use Rattle.std.proofs.lemmas.Bool.{true≢false}
use Rattle.std.proofs.lemmas.List.{get_or-drop, get_or-set_same, length-set}
use Rattle.block_bits.specs.Blocks.{documents_of}
use Rattle.block_bits.specs.Flags.{difference, intersection, is_marked}
use Rattle.block_bits.specs.Places.{next_place, previous_place}
use Rattle.block_bits.proofs.Places.{next_place-empty, next_place-first, next_place-is, previous_place-empty, previous_place-is}
use Rattle.query_eval.specs.Folds.{scopes_in}
use Rattle.segment_parts.specs.declared.columns.Columns.{Columns}
use Rattle.view_objects.specs.Hits.{start_before}
use Rattle.nested_sort.specs.Documents.{numbers_at}
use Rattle.nested_sort.specs.Inside.{marked_from, marked_within}
use Rattle.nested_sort.specs.Near.{AreOut, HaveNone}
use Rattle.nested_sort.specs.declared.near.Reach.{Reach}
use Rattle.nested_sort.proofs.Alike.{by_test}
use Rattle.nested_sort.proofs.Scopes.{documents_long, previous_of_flags}

-- ---- all that aren't parents

others_long : (parents : List Bool) → length (difference (replicate (length parents) true) parents) ≡ length parents
others_long [] = refl
others_long (p ∷ parents) = ap suc (others_long parents)

no_others : (parents : List Bool) (doc : ℕ) → doc < length parents → get_or (difference (replicate (length parents) true) parents) doc false ≡ false → get_or parents doc false ≡ true
no_others [] doc low out = absurd (omega (arith, low))
no_others (true ∷ parents) zero low out = refl
no_others (false ∷ parents) zero low out = absurd (true≢false out)
no_others (p ∷ parents) (suc doc) low out = no_others parents doc (omega (arith, low)) out

pub none_first : (parents inner set : List Bool) → set ≡ difference (replicate (length parents) true) parents → HaveNone parents inner 0 set
none_first parents inner set is = record {
  long = ap length is ∙ others_long parents;
  parent = λ doc low out. no_others parents doc low (ap (λ flags. get_or flags doc false) (sym is) ∙ out);
  none = λ doc inside low out before own next. absurd (omega (arith, before));
}

-- ---- a document inside more

added : (old : List Bool) (parent doc : ℕ) → get_or (slice_set old parent true) doc false ≡ false → get_or old doc false ≡ false
added [] parent doc out = refl
added (flag ∷ old) zero zero out = absurd (true≢false out)
added (flag ∷ old) zero (suc doc) out = out
added (flag ∷ old) (suc parent) zero out = out
added (flag ∷ old) (suc parent) (suc doc) out = added old parent doc out

some_is : (a b : ℕ) → Some a ≡ Some b → a ≡ b
some_is a b e = cc

module _ (parents inner old : List Bool) (from doc : ℕ) (was : HaveNone parents inner from old) (next : next_place is_marked from inner ≡ Some doc) where
  earlier : (inside : ℕ) → inside < doc + 1 → get_or inner inside false ≡ true → from ≤ inside → inside ≡ doc
  earlier inside before own ahead =
      let is = next_place-is is_marked from inner false doc next in
      by_test (nat_lt inside doc)
      (λ low. absurd (true≢false (sym own ∙ is.before inside ahead (ltb-true inside doc low))))
      (λ high. omega (arith, before, ltb-false inside doc high))

  pub none_kept : next_place is_marked doc parents ≡ None → HaveNone parents inner (doc + 1) old
  none_kept nowhere = record {
    long = was.long;
    parent = was.parent;
    none = λ d inside low out before own there.
        by_test (nat_lt inside from)
        (λ passed. was.none d inside low out (ltb-true inside from passed) own there)
        (λ ahead.
        let is = earlier inside before own (ltb-false inside from ahead) in
        let both : None ≡ Some d = sym nowhere ∙ ap (λ (n : ℕ). next_place is_marked n parents) (sym is) ∙ there in absurd (let bad : ⊥ = cc in bad));
  }

  pub none_added : (parent : ℕ) (new : List Bool) → next_place is_marked doc parents ≡ Some parent → new ≡ slice_set old parent true → HaveNone parents inner (doc + 1) new
  none_added parent new found is_new = record {
    long = ap length is_new ∙ length-set old parent true ∙ was.long;
    parent = λ d low out. was.parent d low (added old parent d (ap (λ flags. get_or flags d false) (sym is_new) ∙ out));
    none = λ d inside low out before own there.
        let old_out = added old parent d (ap (λ flags. get_or flags d false) (sym is_new) ∙ out) in
        by_test (nat_lt inside from)
        (λ passed. was.none d inside low old_out (ltb-true inside from passed) own there)
        (λ ahead.
        let is = earlier inside before own (ltb-false inside from ahead) in
        let same : parent ≡ d = some_is parent d (sym found ∙ ap (λ (n : ℕ). next_place is_marked n parents) (sym is) ∙ there) in
        let here : get_or new d false ≡ true = ap (λ flags. get_or flags d false) is_new ∙ ap (λ (n : ℕ). get_or (slice_set old n true) d false) same ∙ get_or-set_same old d true false (omega (arith, low, was.long)) in
        absurd (true≢false (sym here ∙ out)));
  }

-- none is left
pub none_at_all : (parents inner set : List Bool) (from : ℕ) → HaveNone parents inner from set → next_place is_marked from inner ≡ None → length inner ≡ length parents → HaveNone parents inner (length parents) set
none_at_all parents inner set from was nowhere long = record {
  long = was.long;
  parent = was.parent;
  none = λ doc inside low out before own there.
      by_test (nat_lt inside from)
      (λ passed. was.none doc inside low out (ltb-true inside from passed) own there)
      (λ ahead. absurd (true≢false (sym own ∙ next_place-empty is_marked from inner false nowhere inside (ltb-false inside from ahead) (omega (arith, before, long)))));
}

-- ---- the documents inside one

marked_all : (P : ℕ → Type 0) (at : ℕ) (flags : List Bool) → ((k : ℕ) → k < length flags → get_or flags k false ≡ true → P (at + k)) → AllByRecursion P (marked_from at flags)
marked_all P at [] each = tt
marked_all P at (true ∷ flags) each =
    let here : at + 0 ≡ at = omega arith in
    (subst P here (each 0 (omega arith) refl), marked_all P (suc at) flags (λ k low own. let next : at + suc k ≡ suc at + k = omega arith in subst P next (each (suc k) (omega (arith, low)) own)))
marked_all P at (false ∷ flags) each = marked_all P (suc at) flags (λ k low own. let next : at + suc k ≡ suc at + k = omega arith in subst P next (each (suc k) (omega (arith, low)) own))

taken : (end k : ℕ) (flags : List Bool) → get_or (take end flags) k false ≡ true → (k < end) × (get_or flags k false ≡ true)
taken zero k flags own = absurd (true≢false (sym own))
taken (suc end) k [] own = absurd (true≢false (sym own))
taken (suc end) zero (flag ∷ flags) own = (omega arith, own)
taken (suc end) (suc k) (flag ∷ flags) own = let rest = taken end k flags own in (omega (arith, rest.0), rest.1)

within_all : (P : ℕ → Type 0) (start end : ℕ) (flags : List Bool) → ((k : ℕ) → start ≤ k → k < end → get_or flags k false ≡ true → P k) → AllByRecursion P (marked_within start end flags)
within_all P start end flags each =
    marked_all P start (drop start (take end flags)) (λ k low own.
    let there = taken end (start + k) flags (sym (get_or-drop start (take end flags) k false) ∙ own) in
    each (start + k) (omega arith) there.0 there.1)

both_marked : (marks others : List Bool) (k : ℕ) → get_or marks k false ≡ true → get_or others k false ≡ true → get_or (intersection marks others) k false ≡ true
both_marked [] others k own other = absurd (true≢false (sym own))
both_marked (mark ∷ marks) [] k own other = absurd (true≢false (sym other))
both_marked (true ∷ marks) (flag ∷ others) zero own other = other
both_marked (false ∷ marks) (flag ∷ others) zero own other = absurd (true≢false (sym own))
both_marked (mark ∷ marks) (flag ∷ others) (suc k) own other = both_marked marks others k own other

free_before : (n doc k : ℕ) (scopes : List ℕ) → start_before n doc scopes ≤ k → k < doc → k < length (documents_of scopes n) → get_or (documents_of scopes n) k false ≡ false
free_before n doc k scopes from below inside = by (previous_place is_marked doc (documents_of scopes n)) refl
  where
    by : (r : Option ℕ) → previous_place is_marked doc (documents_of scopes n) ≡ r → get_or (documents_of scopes n) k false ≡ false
    by None is = previous_place-empty is_marked doc (documents_of scopes n) false is k below inside
    by (Some p) is =
        let start : start_before n doc scopes ≡ p + 1 = ap (λ (o : Option ℕ). option_map_or (λ previous. previous + 1) o 0) (sym (previous_of_flags n doc scopes) ∙ is) in
        (previous_place-is is_marked doc (documents_of scopes n) false p is).after k (omega (arith, from, start)) below inside

-- ---- no number inside a document that is left out

out_append : (reach : Reach) (xs ys : List ℤ) → AreOut reach xs → AreOut reach ys → AreOut reach (xs ++ ys)
out_append reach [] ys one other = other
out_append reach (x ∷ xs) ys one other = (one.0, out_append reach xs ys one.1 other)

out_flat : (reach : Reach) (f : ℕ → List ℤ) (docs : List ℕ) → AllByRecursion (λ doc. AreOut reach (f doc)) docs → AreOut reach (flat_map f docs)
out_flat reach f [] all = tt
out_flat reach f (doc ∷ docs) all = out_append reach (f doc) (flat_map f docs) all.0 (out_flat reach f docs all.1)

pub out_alone : (reach : Reach) (xs : List ℤ) → AreOut reach xs → AreOut reach (xs ++ [])
out_alone reach xs out = out_append reach xs [] out tt

pub out_above : (c : Columns) (field n doc : ℕ) (reach : Reach) (parents marks passing inner set : List Bool) → parents ≡ documents_of (scopes_in c) n → inner ≡ intersection marks passing → HaveNone parents inner (length parents) set
    → ((inside : ℕ) → inside < c.documents → get_or marks inside false ≡ false → AreOut reach (numbers_at c field inside)) → doc < c.documents → get_or set doc false ≡ false
    → AreOut reach (flat_map (numbers_at c field) (marked_within (start_before n doc (scopes_in c)) doc passing))
out_above c field n doc reach parents marks passing inner set are both none left low out =
    let scopes = scopes_in c in
    let count : length parents ≡ c.documents = ap length are ∙ documents_long c n in
    let start = start_before n doc scopes in
    out_flat reach (numbers_at c field) (marked_within start doc passing)
    (within_all (λ inside. AreOut reach (numbers_at c field inside)) start doc passing (λ inside from below own.
    by_test (get_or marks inside false)
    (λ marked.
    let next : next_place is_marked inside parents ≡ Some doc =
    next_place-first is_marked inside doc parents false (omega (arith, below)) (omega (arith, low, count))
    (λ k later before. ap (λ flags. get_or flags k false) are ∙ free_before n doc k scopes (omega (arith, from, later)) before (omega (arith, before, low, documents_long c n)))
    (none.parent doc (omega (arith, low, count)) out) in
    absurd (none.none doc inside (omega (arith, low, count)) out (omega (arith, below, low, count)) (ap (λ flags. get_or flags inside false) both ∙ both_marked marks passing inside marked own) next))
    (λ unmarked. left inside (omega (arith, below, low)) unmarked)))
