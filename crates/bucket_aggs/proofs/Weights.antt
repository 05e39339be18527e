-- Rows of keys with their counts, put together by key.
use Rattle.std.proofs.Common.{◌≡◌, ℕ, zero, suc, ◌+◌, ◌<◌, Bool, true, false, cond, List, [], ◌∷◌, ◌++◌, get_or, length, set, refl, sym, ap, subst, ◌∙◌, arith, append_assoc}
use Rattle.std.specs.Cmp.{IsStrictWeakOrder}
use Rattle.std.specs.List.Sorted.{IsPermutation, IsSortedBy}
use Rattle.std.proofs.lemmas.Bool.{false≢true}
use Rattle.std.proofs.lemmas.List.Elements.{recursion_from_All, All-from_recursion}
use Rattle.std.proofs.lemmas.List.Sorted.{All-permutation, ranks_by, sorted_far, sum_by-IsPermutation}
use Rattle.std.proofs.lemmas.List.Sums.{sum_by-cons, sum_by_push}
use Rattle.tree_objects.specs.declared.field_value.FieldValue.{FieldValue}
use Rattle.mapping_body.specs.declared.kind.Kind.{Kind}
use Rattle.query_ast.specs.Uses.{IsValueOf}
use Rattle.query_ast.specs.Compare.{is_less, is_same_value, value_cmp}
use Rattle.bucket_aggs.specs.Counts.{AreKeys, KeysAscend, added, weight, weight_in}
use Rattle.bucket_aggs.specs.declared.rows.CountRow.{CountRow}
use Rattle.query_ast.proofs.Keys.{greater_is, less_on, same_is, same_itself}
use Rattle.query_ast.proofs.Elements.{Each, by_test}
use Rattle.query_ast.proofs.Values.{value_exact, value_total}

abbrev pub Rows : Type 0
Rows = List CountRow

pub same_key : (a b : FieldValue) → is_same_value a b ≡ true → a ≡ b
same_key a b h = same_is value_cmp value_total value_exact a b h

-- ---- a count more

pub weight_added : (v key : FieldValue) (count : ℕ) (rows : Rows) → weight v (added key count rows) ≡ weight v rows + cond (is_same_value v key) count 0
weight_added v key count [] = omega arith
weight_added v key count (row ∷ []) =
    by_test (is_same_value row.key key)
    (λ held.
    let is : row.key ≡ key = same_key row.key key held in
    let alike : is_same_value v row.key ≡ is_same_value v key = ap (is_same_value v) is in
    by_test (is_same_value v key)
    (λ own. let here : is_same_value v row.key ≡ true = alike ∙ own in rw (held, here, own) (omega arith))
    (λ other. let here : is_same_value v row.key ≡ false = alike ∙ other in rw (held, here, other) (omega arith)))
    (λ failed. rw failed (omega arith))
weight_added v key count (row ∷ next ∷ rows) =
    omega (arith, sum_by-cons (weight_in v) row (next ∷ rows), sum_by-cons (weight_in v) row (added key count (next ∷ rows)), weight_added v key count (next ∷ rows))

pub each_added : (P : FieldValue → Type 0) (key : FieldValue) (count : ℕ) (rows : Rows) → P key → Each (λ (row : CountRow). P row.key) rows → Each (λ (row : CountRow). P row.key) (added key count rows)
each_added P key count [] p h = (p, tt)
each_added P key count (row ∷ []) p h =
    by_test (is_same_value row.key key) (λ held. rw held (h.0, tt)) (λ failed. rw failed (h.0, (p, tt)))
each_added P key count (row ∷ next ∷ rows) p h = (h.0, each_added P key count (next ∷ rows) p h.1)

pub keys_added : (kind : Kind) (key : FieldValue) (count : ℕ) (rows : Rows) → IsValueOf kind key → 0 < count → AreKeys kind rows → AreKeys kind (added key count rows)
keys_added kind key count [] is some h = ((is, some), tt)
keys_added kind key count (row ∷ []) is some h =
    by_test (is_same_value row.key key) (λ held. rw held ((h.0.0, omega (arith, some)), tt)) (λ failed. rw failed (h.0, ((is, some), tt)))
keys_added kind key count (row ∷ next ∷ rows) is some h = (h.0, keys_added kind key count (next ∷ rows) is some h.1)

-- ---- a count more for a row at a place, or a row more

sum_if : (b : Bool) (count more : ℕ) → cond {A = ℕ} b (count + more) 0 ≡ cond b count 0 + cond b more 0
sum_if true count more = refl
sum_if false count more = refl

abbrev pub with_more : CountRow → ℕ → CountRow
with_more row sum = record { key = row.key; count = sum }

pub weight_set : (v : FieldValue) (rows : Rows) (at : ℕ) (old : CountRow) (more sum : ℕ) → at < length rows → old ≡ get_or rows at old → sum ≡ old.count + more
    → weight v (set rows at (with_more old sum)) ≡ weight v rows + cond (is_same_value v old.key) more 0
weight_set v [] at old more sum low is new = absurd (omega (arith, low))
weight_set v (row ∷ rows) zero old more sum low is new =
    omega (
      arith,
      sum_by-cons (weight_in v) (with_more old sum) rows,
      sum_by-cons (weight_in v) row rows,
      ap (λ (n : ℕ). cond {A = ℕ} (is_same_value v old.key) n 0) new,
      sum_if (is_same_value v old.key) old.count more,
      ap (weight_in v) is,
    )
weight_set v (row ∷ rows) (suc at) old more sum low is new =
    omega (arith, sum_by-cons (weight_in v) row (set rows at (with_more old sum)), sum_by-cons (weight_in v) row rows, weight_set v rows at old more sum (omega (arith, low)) is new)

pub keys_set : (kind : Kind) (rows : Rows) (at : ℕ) (old : CountRow) (more sum : ℕ) → at < length rows → old ≡ get_or rows at old → sum ≡ old.count + more → AreKeys kind rows → AreKeys kind (set rows at (with_more old sum))
keys_set kind [] at old more sum low is new h = tt
keys_set kind (row ∷ rows) zero old more sum low is new h =
    ((subst (λ (r : CountRow). IsValueOf kind r.key) (sym is) h.0.0, omega (arith, new, h.0.1, ap (λ (r : CountRow). r.count) is)), h.1)
keys_set kind (row ∷ rows) (suc at) old more sum low is new h = (h.0, keys_set kind rows at old more sum (omega (arith, low)) is new h.1)

pub weight_pushed : (v key : FieldValue) (count : ℕ) (rows : Rows) → weight v (rows ++ record { key = key; count = count } ∷ []) ≡ weight v rows + cond (is_same_value v key) count 0
weight_pushed v key count rows = sum_by_push (weight_in v) rows (record { key = key; count = count })

pub keys_pushed : (kind : Kind) (key : FieldValue) (count : ℕ) (rows : Rows) → IsValueOf kind key → 0 < count → AreKeys kind rows → AreKeys kind (rows ++ record { key = key; count = count } ∷ [])
keys_pushed kind key count [] is some h = ((is, some), tt)
keys_pushed kind key count (row ∷ rows) is some h = (h.0, keys_pushed kind key count rows is some h.1)

-- the last row is looked at alone
pub added_last : (key : FieldValue) (count : ℕ) (front : Rows) (last : CountRow) → added key count (front ++ last ∷ []) ≡ front ++ added key count (last ∷ [])
added_last key count [] last = refl
added_last key count (row ∷ []) last = refl
added_last key count (row ∷ next ∷ front) last = ap (λ (l : Rows). row ∷ l) (added_last key count (next ∷ front) last)

pub added_same : (key : FieldValue) (count : ℕ) (front : Rows) (last : CountRow) (old new : Rows) → old ≡ front ++ last ∷ [] → is_same_value last.key key ≡ true → new ≡ front ++ record { key = last.key; count = last.count + count } ∷ [] → new ≡ added key count old
added_same key count front last old new was same is =
    let own : added key count (last ∷ []) ≡ record { key = last.key; count = last.count + count } ∷ [] = rw same refl in
    is ∙ sym (ap (added key count) was ∙ added_last key count front last ∙ ap (λ (l : Rows). front ++ l) own)

pub added_other : (key : FieldValue) (count : ℕ) (front : Rows) (last : CountRow) (old new : Rows) → old ≡ front ++ last ∷ [] → is_same_value last.key key ≡ false → new ≡ (front ++ last ∷ []) ++ record { key = key; count = count } ∷ [] → new ≡ added key count old
added_other key count front last old new was other is =
    let own : added key count (last ∷ []) ≡ last ∷ record { key = key; count = count } ∷ [] = rw other refl in
    is
    ∙ append_assoc front (last ∷ []) (record { key = key; count = count } ∷ [])
    ∙ sym (ap (added key count) was ∙ added_last key count front last ∙ ap (λ (l : Rows). front ++ l) own)

-- no key of the rows is greater than this one
abbrev pub UpTo : FieldValue → Rows → Type 0
UpTo key rows = Each (λ (row : CountRow). is_less key row.key ≡ false) rows

next_below : (a b key : FieldValue) → is_less a b ≡ true → is_less key b ≡ false → is_less a key ≡ true
next_below a b key h up =
    by_test (is_same_value key b)
    (λ held. ap (is_less a) (same_key key b held) ∙ h)
    (λ failed. less_on value_cmp value_total value_exact a b key h (greater_is value_cmp value_total value_exact key b up failed))

pub added_ascends : (key : FieldValue) (count : ℕ) (rows : Rows) → KeysAscend rows → UpTo key rows → KeysAscend (added key count rows)
added_ascends key count [] a up = (tt, tt)
added_ascends key count (row ∷ []) a up =
    by_test (is_same_value row.key key)
    (λ held. rw held (tt, tt))
    (λ failed.
    let other : is_same_value key row.key ≡ false =
    by_test (is_same_value key row.key) (λ h. absurd (false≢true (sym failed ∙ ap (λ (k : FieldValue). is_same_value k key) (sym (same_key key row.key h)) ∙ same_itself value_cmp value_total value_exact key))) (λ h. h) in
    rw failed ((greater_is value_cmp value_total value_exact key row.key up.0 other, tt), (tt, tt)))
added_ascends key count (row ∷ next ∷ rows) a up = (
  each_added (λ (k : FieldValue). is_less row.key k ≡ true) key count (next ∷ rows) (next_below row.key next.key key a.0.0 up.1.0) a.0,
  added_ascends key count (next ∷ rows) a.1 up.1,
)

-- ---- rows that stand by key

abbrev pub key_before : CountRow → CountRow → Bool
key_before a b = is_less a.key b.key

pub keys_rank : IsStrictWeakOrder key_before
keys_rank = ranks_by value_total (λ (row : CountRow). row.key)

-- none comes before one that stands before it
abbrev pub Rises : Rows → Type 0
Rises [] = Unit {0}
Rises (row ∷ rows) = Each (λ (later : CountRow). is_less later.key row.key ≡ false) rows × Rises rows

pub sorted_rises : (rows : Rows) → IsSortedBy key_before rows → Rises rows
sorted_rises [] h = tt
sorted_rises (row ∷ rows) h = (
  recursion_from_All (λ (later : CountRow). is_less later.key row.key ≡ false) rows (λ k d to. let e : k + 1 ≡ suc k = omega arith in let far : key_before (get_or (row ∷ rows) (k + 1) d) row ≡ false = sorted_far key_before keys_rank (row ∷ rows) h 0 (k + 1) d (omega arith) (omega arith) in rw e at far),
  sorted_rises rows (λ k d from to. let e : k + 1 ≡ suc k = omega arith in let f : suc k + 1 ≡ suc (k + 1) = omega arith in let here : key_before (get_or (row ∷ rows) (suc k + 1) d) (get_or (row ∷ rows) (suc k) d) ≡ false = h (suc k) d (omega arith) (omega arith) in rw f at here),
)

pub each_permuted : (P : CountRow → Type 0) (one other : Rows) → IsPermutation one other → Each P one → Each P other
each_permuted P one other same h = recursion_from_All P other (All-permutation P one other same (All-from_recursion P one h))

-- rows of which some are put together
pub record Merging (all made rest : Rows) : Type 0 where
  pub ascend : KeysAscend made
  pub behind : Each (λ (row : CountRow). UpTo row.key made) rest
  pub rises : Rises rest
  pub counts : (v : FieldValue) → weight v made + weight v rest ≡ weight v all
  pub keys : (kind : Kind) → AreKeys kind all → AreKeys kind made × AreKeys kind rest

pub merging_start : (all sorted : Rows) → IsPermutation all sorted → IsSortedBy key_before sorted → Merging all [] sorted
merging_start all sorted same is = record {
  ascend = tt;
  behind = none sorted;
  rises = sorted_rises sorted is;
  counts = λ v. omega (arith, sum_by-IsPermutation (weight_in v) all sorted same);
  keys = λ kind are. (tt, each_permuted (λ (row : CountRow). IsValueOf kind row.key × (0 < row.count)) all sorted same are);
}
  where
    none : (rows : Rows) → Each (λ (row : CountRow). UpTo row.key []) rows
    none [] = tt
    none (row ∷ rows) = (tt, none rows)

pub merging_more : (all made new : Rows) (row : CountRow) (rest : Rows) → Merging all made (row ∷ rest) → new ≡ added row.key row.count made → Merging all new rest
merging_more all made new row rest was is =
    subst (λ (rows : Rows). Merging all rows rest) (sym is)
    (record {
      ascend = added_ascends row.key row.count made was.ascend was.behind.0;
      behind = each rest was.behind.1 was.rises.0;
      rises = was.rises.1;
      counts = λ v. omega (arith, weight_added v row.key row.count made, was.counts v, sum_by-cons (weight_in v) row rest);
      keys = λ kind are. let old = was.keys kind are in (keys_added kind row.key row.count made old.1.0.0 old.1.0.1 old.0, old.1.1);
    })
  where
    each : (rows : Rows) → Each (λ (r : CountRow). UpTo r.key made) rows → Each (λ (later : CountRow). is_less later.key row.key ≡ false) rows → Each (λ (r : CountRow). UpTo r.key (added row.key row.count made)) rows
    each [] h g = tt
    each (r ∷ rows) h g = (each_added (λ (k : FieldValue). is_less r.key k ≡ false) row.key row.count made g.0 h.0, each rows h.1 g.1)

pub merging_end : (all made : Rows) (v : FieldValue) → Merging all made [] → weight v made ≡ weight v all
merging_end all made v was = omega (arith, was.counts v)
