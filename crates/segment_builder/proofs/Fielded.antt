-- Terms field by field: what fields carry at a term, and the rows that they make.
use Rattle.std.proofs.Common.{◌≡◌, ℕ, ◌+◌, ◌<◌, false, cond, List, [], ◌∷◌, ◌++◌, length, map, drop, get_or, refl, sym, ap, subst, ◌∙◌, append_assoc, append-nil, arith}
use Rattle.std.specs.Cmp.Lexicographic.{slice_cmp}
use Rattle.std.specs.List.{AllByRecursion}
use Rattle.std.specs.List.Sorted.{IsStrictlySortedBy}
use Rattle.std.specs.Ordering.{eq_by_cmp, is_eq, nat_cmp, ordering_then}
use Rattle.std.specs.declared.cmp.Ordering.{Ordering}
use Rattle.std.specs.declared.cmp.Ordering.TheVariants.{Less, Equal, Greater}
use Rattle.std.proofs.lemmas.List.{at_drop_more, map-append}
use Rattle.term_table.specs.Terms.{term_cmp}
use Rattle.segment_builder.specs.Groups.{in_groups, keys, of_key, runs, AreGroups, AreOrdered, AreRising}
use Rattle.segment_builder.specs.Terms.{at_field, field_entries, field_row, field_rows, fields_seen, row_group, rows_in, rows_of, AreAllRising}
use Rattle.segment_builder.specs.declared.rows.FieldTerms.{FieldTerms}
use Rattle.segment_builder.proofs.Assembled.{map_twice}
use Rattle.segment_builder.proofs.Grown.{of_append}
use Rattle.segment_builder.proofs.InOrder.{are_groups}
use Rattle.segment_builder.proofs.Keys.{groups_append, split}
use Rattle.segment_builder.proofs.Orders.{exact_bytes, nat_order, term_order}
use Rattle.segment_builder.proofs.Runs.{gather, ordered}
use Rattle.segment_builder.proofs.Sorted.{each_append, same_field, sorted_append, sorted_cons, sorted_first, sorted_none, sorted_rest}

-- the bytes of a term, a document, and the positions in it
abbrev pub Entry : Type 0
Entry = List ℕ × (ℕ × List ℕ)

abbrev pub bytes_cmp : List ℕ → List ℕ → Ordering
bytes_cmp = slice_cmp nat_cmp

-- ---- a term is a field and bytes

both_equal : (a b : Ordering) → is_eq (ordering_then a b) ≡ cond (is_eq a) (is_eq b) false
both_equal Less b = refl
both_equal Equal b = refl
both_equal Greater b = refl

pub term_is : (f g : ℕ) (b c : List ℕ) → eq_by_cmp term_cmp (f, b) (g, c) ≡ cond (eq_by_cmp nat_cmp f g) (eq_by_cmp bytes_cmp b c) false
term_is f g b c = both_equal (nat_cmp f g) (bytes_cmp b c)

abbrev pub Fields : Type 0
Fields = List (ℕ × List Entry)

abbrev pub Terms : Type 0
Terms = List ((ℕ × List ℕ) × (ℕ × List ℕ))

-- ---- one field after the other is put in order

at_one : (f g : ℕ) (b : List ℕ) (before after : List Entry) → of_key bytes_cmp b after ≡ of_key bytes_cmp b before → at_field f b ((g, after) ∷ []) ≡ at_field f b ((g, before) ∷ [])
at_one f g b before after same =
    split (eq_by_cmp nat_cmp f g)
    (λ is. rw is (ap (of_key bytes_cmp b) (append-nil after) ∙ same ∙ ap (of_key bytes_cmp b) (sym (append-nil before))))
    (λ isnt. rw isnt refl)

pub fields_more : (f : ℕ) (b : List ℕ) (xs ys : Fields) → at_field f b (xs ++ ys) ≡ at_field f b xs ++ at_field f b ys
fields_more f b xs ys =
    ap (of_key bytes_cmp b) (groups_append nat_cmp nat_order.total f xs ys) ∙ of_append bytes_cmp b (in_groups nat_cmp f xs) (in_groups nat_cmp f ys)

module _ {Y : Type 0} (are : Y → List Entry) where
  seen_more : (old new : List (ℕ × Y)) (g : ℕ) (after : Y) → new ≡ old ++ (g, after) ∷ [] → fields_seen are new ≡ fields_seen are old ++ (g, are after) ∷ []
  seen_more old new g after is = ap (fields_seen are) is ∙ map-append (λ (field : ℕ × Y). (field.0, are field.1)) old ((g, after) ∷ [])

  pub rising_on : (g : ℕ) (after : Y) (old new : List (ℕ × Y)) → new ≡ old ++ (g, after) ∷ [] → AreRising bytes_cmp (are after) → AreAllRising (fields_seen are old) → AreAllRising (fields_seen are new)
  rising_on g after old new more up all =
      subst AreAllRising (sym (seen_more old new g after more))
      (each_append (λ (field : ℕ × List Entry). AreRising bytes_cmp field.1) (fields_seen are old) ((g, are after) ∷ []) all (up, tt))

-- fields before, and those that are in order, each as its entries are seen
module _ {X Y : Type 0} (was : X → List Entry) (are : Y → List Entry) where
  pub sorted_on : (f : ℕ) (b : List ℕ) (g : ℕ) (before : X) (after : Y) (old new : List (ℕ × Y)) (left rest : List (ℕ × X)) (whole : List (ℕ × List ℕ))
      → left ≡ (g, before) ∷ rest → new ≡ old ++ (g, after) ∷ [] → of_key bytes_cmp b (are after) ≡ of_key bytes_cmp b (was before)
      → at_field f b (fields_seen are old) ++ at_field f b (fields_seen was left) ≡ whole → at_field f b (fields_seen are new) ++ at_field f b (fields_seen was rest) ≡ whole
  sorted_on f b g before after old new left rest whole is more same goes =
      let one = at_field f b ((g, was before) ∷ []) in
      let parts : at_field f b (fields_seen was left) ≡ one ++ at_field f b (fields_seen was rest) =
      ap (λ fields. at_field f b (fields_seen was fields)) is ∙ fields_more f b ((g, was before) ∷ []) (fields_seen was rest) in
      let longer : at_field f b (fields_seen are new) ≡ at_field f b (fields_seen are old) ++ one =
      ap (at_field f b) (seen_more are old new g after more) ∙ fields_more f b (fields_seen are old) ((g, are after) ∷ [])
      ∙ ap (λ last. at_field f b (fields_seen are old) ++ last) (at_one f g b (was before) (are after) same) in
      ap (λ front. front ++ at_field f b (fields_seen was rest)) longer
      ∙ append_assoc (at_field f b (fields_seen are old)) one (at_field f b (fields_seen was rest))
      ∙ ap (λ last. at_field f b (fields_seen are old) ++ last) (sym parts)
      ∙ goes

  pub sorted_all : (f : ℕ) (b : List ℕ) (old : List (ℕ × Y)) (left : List (ℕ × X)) (whole : List (ℕ × List ℕ)) → length left ≡ 0
      → at_field f b (fields_seen are old) ++ at_field f b (fields_seen was left) ≡ whole → at_field f b (fields_seen are old) ≡ whole
  sorted_all f b old [] whole none goes = sym (append-nil (at_field f b (fields_seen are old))) ∙ goes
  sorted_all f b old (field ∷ left) whole none goes = absurd (omega (arith, none))

  pub keys_on : (g : ℕ) (before : X) (after : Y) (old new : List (ℕ × Y)) (left rest : List (ℕ × X)) (whole : List ℕ)
      → left ≡ (g, before) ∷ rest → new ≡ old ++ (g, after) ∷ [] → keys (fields_seen are old) ++ keys (fields_seen was left) ≡ whole → keys (fields_seen are new) ++ keys (fields_seen was rest) ≡ whole
  keys_on g before after old new left rest whole is more goes =
      let longer : keys (fields_seen are new) ≡ keys (fields_seen are old) ++ g ∷ [] = ap (λ (fields : Fields). keys fields) (seen_more are old new g after more) ∙ map-append (λ (field : ℕ × List Entry). field.0) (fields_seen are old) ((g, are after) ∷ []) in
      ap (λ front. front ++ keys (fields_seen was rest)) longer
      ∙ append_assoc (keys (fields_seen are old)) (g ∷ []) (keys (fields_seen was rest))
      ∙ ap (λ fields. keys (fields_seen are old) ++ keys (fields_seen was fields)) (sym is)
      ∙ goes

  pub keys_all : (old : List (ℕ × Y)) (left : List (ℕ × X)) (whole : List ℕ) → length left ≡ 0 → keys (fields_seen are old) ++ keys (fields_seen was left) ≡ whole → keys (fields_seen are old) ≡ whole
  keys_all old [] whole none goes = sym (append-nil (keys (fields_seen are old))) ∙ goes
  keys_all old (field ∷ left) whole none goes = absurd (omega (arith, none))

-- ---- the rows of fields

abbrev of_field : ℕ → List ℕ × List (ℕ × List ℕ) → (ℕ × List ℕ) × List (ℕ × List ℕ)
of_field field group = ((field, group.0), group.1)

in_field : (f g : ℕ) (b : List ℕ) (groups : List (List ℕ × List (ℕ × List ℕ))) → in_groups term_cmp (f, b) (map (of_field g) groups) ≡ cond (eq_by_cmp nat_cmp f g) (in_groups bytes_cmp b groups) []
in_field f g b [] = split (eq_by_cmp nat_cmp f g) (λ is. rw is refl) (λ isnt. rw isnt refl)
in_field f g b (group ∷ groups) =
    split (eq_by_cmp nat_cmp f g)
    (λ is. rw (term_is f g b group.0, in_field f g b groups, is) refl)
    (λ isnt. rw (term_is f g b group.0, in_field f g b groups, isnt) refl)

parts_of : (field : ℕ × List Entry) (fields : Fields) → map row_group (rows_of (field ∷ fields)) ≡ map (of_field field.0) (runs bytes_cmp field.1) ++ map row_group (rows_of fields)
parts_of field fields =
    map-append row_group (field_rows field.0 field.1) (rows_of fields)
    ∙ ap (λ (groups : List ((ℕ × List ℕ) × List (ℕ × List ℕ))). groups ++ map row_group (rows_of fields)) (map_twice row_group (field_row field.0) (runs bytes_cmp field.1))

rows_carry : (f : ℕ) (b : List ℕ) (fields : Fields) → in_groups term_cmp (f, b) (map row_group (rows_of fields)) ≡ at_field f b fields
rows_carry f b [] = refl
rows_carry f b (field ∷ fields) =
    let own = runs bytes_cmp field.1 in
    let first : in_groups bytes_cmp b own ≡ of_key bytes_cmp b field.1 = gather bytes_cmp exact_bytes.total b field.1 in
    ap (in_groups term_cmp (f, b)) (parts_of field fields)
    ∙ groups_append term_cmp term_order.total (f, b) (map (of_field field.0) own) (map row_group (rows_of fields))
    ∙ ap (λ xs. xs ++ in_groups term_cmp (f, b) (map row_group (rows_of fields))) (in_field f field.0 b own)
    ∙ ap (λ xs. cond (eq_by_cmp nat_cmp f field.0) (in_groups bytes_cmp b own) [] ++ xs) (rows_carry f b fields)
    ∙ split (eq_by_cmp nat_cmp f field.0)
    (λ is. rw (is, first) (sym (of_append bytes_cmp b field.1 (in_groups nat_cmp f fields))))
    (λ isnt. rw isnt refl)

terms_up : (f : ℕ) (groups : List (List ℕ × List (ℕ × List ℕ))) → IsStrictlySortedBy bytes_cmp (keys groups) → IsStrictlySortedBy term_cmp (keys (map (of_field f) groups))
terms_up f [] up = sorted_none term_cmp
terms_up f (group ∷ groups) up = sorted_cons term_cmp (f, group.0) (keys (map (of_field f) groups)) (all_less groups (sorted_first bytes_cmp group.0 (keys groups) up)) (terms_up f groups (sorted_rest bytes_cmp group.0 (keys groups) up))
  where
    all_less : (others : List (List ℕ × List (ℕ × List ℕ))) → AllByRecursion (λ b. bytes_cmp group.0 b ≡ Less) (keys others) → AllByRecursion (λ term. term_cmp (f, group.0) term ≡ Less) (keys (map (of_field f) others))
    all_less [] all = tt
    all_less (other ∷ others) all = (rw (same_field f, all.0) refl, all_less others all.1)

terms_own : (f : ℕ) (groups : List (List ℕ × List (ℕ × List ℕ))) → AllByRecursion (λ (term : ℕ × List ℕ). term.0 ≡ f) (keys (map (of_field f) groups))
terms_own f [] = tt
terms_own f (group ∷ groups) = (refl, terms_own f groups)

some_own : (f : ℕ) (groups : List (List ℕ × List (ℕ × List ℕ))) → AllByRecursion (λ (group : List ℕ × List (ℕ × List ℕ)). 0 < length group.1) groups → AllByRecursion (λ (group : (ℕ × List ℕ) × List (ℕ × List ℕ)). 0 < length group.1) (map (of_field f) groups)
some_own f [] all = tt
some_own f (group ∷ groups) all = (all.0, some_own f groups all.1)

terms_behind : (f g : ℕ) (groups : List (List ℕ × List (ℕ × List ℕ))) → nat_cmp f g ≡ Less → AllByRecursion (λ (term : ℕ × List ℕ). nat_cmp f term.0 ≡ Less) (keys (map (of_field g) groups))
terms_behind f g [] less = tt
terms_behind f g (group ∷ groups) less = (less, terms_behind f g groups less)

keys_of : (field : ℕ × List Entry) (fields : Fields) → keys (map row_group (rows_of (field ∷ fields))) ≡ keys (map (of_field field.0) (runs bytes_cmp field.1)) ++ keys (map row_group (rows_of fields))
keys_of field fields =
    ap (λ (gs : List ((ℕ × List ℕ) × List (ℕ × List ℕ))). keys gs) (parts_of field fields) ∙ map-append (λ (group : (ℕ × List ℕ) × List (ℕ × List ℕ)). group.0) (map (of_field field.0) (runs bytes_cmp field.1)) (map row_group (rows_of fields))

rows_behind : (f : ℕ) (fields : Fields) → AllByRecursion (λ k. nat_cmp f k ≡ Less) (keys fields) → AllByRecursion (λ (term : ℕ × List ℕ). nat_cmp f term.0 ≡ Less) (keys (map row_group (rows_of fields)))
rows_behind f [] all = tt
rows_behind f (field ∷ fields) all =
    subst (AllByRecursion (λ (term : ℕ × List ℕ). nat_cmp f term.0 ≡ Less)) (sym (keys_of field fields))
    (each_append (λ (term : ℕ × List ℕ). nat_cmp f term.0 ≡ Less) (keys (map (of_field field.0) (runs bytes_cmp field.1))) (keys (map row_group (rows_of fields)))
    (terms_behind f field.0 (runs bytes_cmp field.1) all.0) (rows_behind f fields all.1))

rows_up : (fields : Fields) → IsStrictlySortedBy nat_cmp (keys fields) → AreAllRising fields → AreOrdered term_cmp (map row_group (rows_of fields))
rows_up [] up rising = record { ascending = sorted_none term_cmp; some = tt }
rows_up (field ∷ fields) up rising =
    let own = runs bytes_cmp field.1 in
    let first : AreOrdered bytes_cmp own = ordered bytes_cmp exact_bytes.total field.1 rising.0 in
    let rest : AreOrdered term_cmp (map row_group (rows_of fields)) = rows_up fields (sorted_rest nat_cmp field.0 (keys fields) up) rising.1 in
    record {
      ascending = subst (IsStrictlySortedBy term_cmp) (sym (keys_of field fields))
          (sorted_append field.0 (keys (map (of_field field.0) own)) (keys (map row_group (rows_of fields))) (terms_up field.0 own first.ascending) (terms_own field.0 own) rest.ascending (rows_behind field.0 fields (sorted_first nat_cmp field.0 (keys fields) up)));
      some = subst (AllByRecursion (λ (group : (ℕ × List ℕ) × List (ℕ × List ℕ)). 0 < length group.1)) (sym (parts_of field fields))
          (each_append (λ (group : (ℕ × List ℕ) × List (ℕ × List ℕ)). 0 < length group.1) (map (of_field field.0) own) (map row_group (rows_of fields)) (some_own field.0 own first.some) rest.some);
    }

-- the rows of fields in order are the groups of all terms
pub rows_grouped : (terms : List ((ℕ × List ℕ) × (ℕ × List ℕ))) (fields : Fields) → ((f : ℕ) (b : List ℕ) → at_field f b fields ≡ of_key term_cmp (f, b) terms) → IsStrictlySortedBy nat_cmp (keys fields) → AreAllRising fields
    → AreGroups term_cmp terms (map row_group (rows_of fields))
rows_grouped terms fields same up rising = are_groups term_cmp term_order.total terms (map row_group (rows_of fields)) carry (rows_up fields up rising)
  where
    carry : (term : ℕ × List ℕ) → in_groups term_cmp term (map row_group (rows_of fields)) ≡ of_key term_cmp term terms
    carry (f, b) = rows_carry f b fields ∙ same f b

-- ---- field after field

pub each_part : {X : Type 0} (P : X → Type 0) (xs ys : List X) → AllByRecursion P (xs ++ ys) → AllByRecursion P xs × AllByRecursion P ys
each_part P [] ys all = (tt, all)
each_part P (x ∷ xs) ys all = let rest = each_part P xs ys all.1 in ((all.0, rest.0), rest.1)

-- one part more of a list is done
pub part_on : {Y : Type 0} (old new part next rest whole : List Y) → next ≡ part ++ rest → new ≡ old ++ part → old ++ next ≡ whole → new ++ rest ≡ whole
part_on old new part next rest whole is more goes = ap (λ front. front ++ rest) more ∙ append_assoc old part rest ∙ ap (λ ys. old ++ ys) (sym is) ∙ goes

-- the rows of fields from one of them on
pub fields_at : (fields : List (ℕ × FieldTerms)) (at : ℕ) (item : ℕ × FieldTerms) → at < length fields → item ≡ get_or fields at item → rows_in (drop at fields) ≡ field_rows item.0 (field_entries item.1) ++ rows_in (drop (at + 1) fields)
fields_at fields at item inside is =
    ap rows_in (at_drop_more (λ (fs : List (ℕ × FieldTerms)). fs) fields at item inside) ∙ ap (λ (field : ℕ × FieldTerms). field_rows field.0 (field_entries field.1) ++ rows_in (drop (at + 1) fields)) (sym is)
