-- Further bodies: what they add stands behind what was there.
use Rattle.std.proofs.Common.{◌≡◌, ℕ, zero, suc, ◌+◌, ◌-◌, ◌<◌, ◌≤◌, Bool, true, false, nat_lt, List, [], ◌∷◌, ◌++◌, length, map, filter, get_or, refl, sym, ap, ◌∙◌, subst, arith, append_assoc, append-nil, length-append}
use Rattle.std.proofs.lemmas.Bool.{le-ltb, lt-ltb, ltb-false, ltb-true}
use Rattle.std.proofs.lemmas.List.{get_or_append_left, length-map}
use Rattle.std.proofs.lemmas.List.Elements.{filter-append}
use Rattle.std.proofs.lemmas.List.Folds.{list_all-append}
use Rattle.std.proofs.lemmas.List.FromFn.{length-range_with_len}
use Rattle.std.specs.List.{AllByRecursion, list_all, range_with_len}
use Rattle.tree_json.specs.Value.{JsonValue}
use Rattle.mapping_body.specs.Body.{is_body, is_nested}
use Rattle.mapping_growth.specs.Fields.{Draft, draft_paths, drafts_added, drafts_of}
use Rattle.mapping_body.specs.Names.{put, put_all}
use Rattle.mapping_body.specs.Order.{name_at, order_from}
use Rattle.mapping_body.specs.Pairs.{Pair, pairs_of}
use Rattle.mapping_growth.specs.Relations.{Relation, relation_by, relations_added, relations_of}
use Rattle.mapping_growth.proofs.Adding.{drafts_more, relations_more}
use Rattle.mapping_body.proofs.Puts.{put_all-append}
use Rattle.mapping_body.proofs.Ranks.{by_ordering, compared}
use Rattle.mapping_body.proofs.Walks.{split}
use Rattle.mapping.specs.Growth.{GoesOn, HasFurtherBodies}
use Rattle.mapping.specs.Mapping.{Field, Scope, Mapping, mapping_of, field_by, fields_by, nested_among, root_scope, scope_by, scope_paths, scopes_by}
use Rattle.mapping.proofs.Above.{both, joint}
use Rattle.mapping.proofs.InTurn.{AreInTurn, founded}
use Rattle.mapping_growth.proofs.Generations.{AllOf, added_of}
use Rattle.mapping.proofs.Keeps.{AreBefore, before_news, fields_more, scopes_more, paths_more}

-- ---- numbers below a bound, among those put in byte order of names

abbrev pub is_below : ℕ → ℕ → Bool
is_below bound n = nat_lt n bound

put_same : (f g : ℕ → List ℕ) (x : ℕ) (ys : List ℕ) → f x ≡ g x → AllByRecursion (λ (y : ℕ). f y ≡ g y) ys → put f x ys ≡ put g x ys
put_same f g x [] e all = refl
put_same f g x (y ∷ ys) e all = rw (e, all.0, put_same f g x ys e all.1) refl

put_each : (P : ℕ → Type 0) (f : ℕ → List ℕ) (x : ℕ) (ys : List ℕ) → P x → AllByRecursion P ys → AllByRecursion P (put f x ys)
put_each P f x [] one all = (one, tt)
put_each P f x (y ∷ ys) one all =
    by_ordering (compared (f y) (f x))
    (λ less. rw less (all.0, put_each P f x ys one all.1))
    (λ equal. rw equal all)
    (λ greater. rw greater (one, all))

put_all_each : (P : ℕ → Type 0) (f : ℕ → List ℕ) (ys xs : List ℕ) → AllByRecursion P ys → AllByRecursion P xs → AllByRecursion P (put_all f ys xs)
put_all_each P f ys [] one two = one
put_all_each P f ys (x ∷ xs) one two = put_all_each P f (put f x ys) xs (put_each P f x ys two.0 one) two.1

put_all_same : (f g : ℕ → List ℕ) (ys xs : List ℕ) → AllByRecursion (λ (y : ℕ). f y ≡ g y) ys → AllByRecursion (λ (y : ℕ). f y ≡ g y) xs → put_all f ys xs ≡ put_all g ys xs
put_all_same f g ys [] one two = refl
put_all_same f g ys (x ∷ xs) one two =
    put_all_same f g (put f x ys) xs (put_each (λ (y : ℕ). f y ≡ g y) f x ys two.0 one) two.1
    ∙ ap (λ (zs : List ℕ). put_all g zs xs) (put_same f g x ys two.0 one)

kept_by_put : (f : ℕ → List ℕ) (bound x : ℕ) (ys : List ℕ) → is_below bound x ≡ false → filter (is_below bound) (put f x ys) ≡ filter (is_below bound) ys
kept_by_put f bound x [] h = rw h refl
kept_by_put f bound x (y ∷ ys) h =
    by_ordering (compared (f y) (f x))
    (λ less. rw less (split (is_below bound y)
    (λ held. rw held (ap (λ (zs : List ℕ). y ∷ zs) (kept_by_put f bound x ys h)))
    (λ failed. rw failed (kept_by_put f bound x ys h))))
    (λ equal. rw equal refl)
    (λ greater. rw (greater, h) refl)

kept_by_all : (f : ℕ → List ℕ) (bound : ℕ) (ys xs : List ℕ) → AllByRecursion (λ (x : ℕ). is_below bound x ≡ false) xs → filter (is_below bound) (put_all f ys xs) ≡ filter (is_below bound) ys
kept_by_all f bound ys [] all = refl
kept_by_all f bound ys (x ∷ xs) all = kept_by_all f bound (put f x ys) xs all.1 ∙ kept_by_put f bound x ys all.0

all_kept : (bound : ℕ) (xs : List ℕ) → AllByRecursion (λ (x : ℕ). is_below bound x ≡ true) xs → filter (is_below bound) xs ≡ xs
all_kept bound [] all = refl
all_kept bound (x ∷ xs) all = rw all.0 (ap (λ (ys : List ℕ). x ∷ ys) (all_kept bound xs all.1))

-- ---- the order of numbers

range_parts : (a n k : ℕ) → range_with_len a (n + k) ≡ range_with_len a n ++ range_with_len (a + n) k
range_parts a zero k = let e : a + 0 ≡ a = omega arith in let z : 0 + k ≡ k = omega arith in rw (e, z) refl
range_parts a (suc n) k =
    let e : a + suc n ≡ (a + 1) + n = omega arith in
    let s : suc n + k ≡ suc (n + k) = omega arith in
    rw (e, s) (ap (λ (ys : List ℕ). a ∷ ys) (range_parts (a + 1) n k))

range_below : (bound a n : ℕ) → a + n ≤ bound → AllByRecursion (λ (i : ℕ). is_below bound i ≡ true) (range_with_len a n)
range_below bound a zero h = tt
range_below bound a (suc n) h = (lt-ltb a bound (omega arith), range_below bound (a + 1) n (omega arith))

range_behind : (bound a n : ℕ) → bound ≤ a → AllByRecursion (λ (i : ℕ). is_below bound i ≡ false) (range_with_len a n)
range_behind bound a zero h = tt
range_behind bound a (suc n) h = (le-ltb a bound h, range_behind bound (a + 1) n (omega arith))

each_named : (names more : List (List ℕ)) (xs : List ℕ) → AllByRecursion (λ (i : ℕ). is_below (length names) i ≡ true) xs → AllByRecursion (λ (i : ℕ). name_at (names ++ more) i ≡ name_at names i) xs
each_named names more [] all = tt
each_named names more (x ∷ xs) all = (get_or_append_left names more [] x (ltb-true x (length names) all.0), each_named names more xs all.1)

-- the numbers of further names stand somewhere among the others, whose order is the same
pub order_more : (name : List ℕ) (names more : List (List ℕ)) → filter (is_below (length (name ∷ names))) (order_from 1 ((name ∷ names) ++ more)) ≡ order_from 1 (name ∷ names)
order_more name names more =
    let f : ℕ → List ℕ = name_at ((name ∷ names) ++ more) in
    let g : ℕ → List ℕ = name_at (name ∷ names) in
    let bound : ℕ = length (name ∷ names) in
    let first : List ℕ = range_with_len 1 (length (name ∷ names) - 1) in
    let rest : List ℕ = range_with_len (1 + (length (name ∷ names) - 1)) (length more) in
    let long : length ((name ∷ names) ++ more) - 1 ≡ (length (name ∷ names) - 1) + length more = simp length-append (omega arith) in
    let within : AllByRecursion (λ (i : ℕ). is_below bound i ≡ true) first = range_below bound 1 (length (name ∷ names) - 1) (omega arith) in
    let behind : AllByRecursion (λ (i : ℕ). is_below bound i ≡ false) rest = range_behind bound (1 + (length (name ∷ names) - 1)) (length more) (omega arith) in
    ap (λ (n : ℕ). filter (is_below bound) (put_all f [] (range_with_len 1 n))) long
    ∙ ap (λ (xs : List ℕ). filter (is_below bound) (put_all f [] xs)) (range_parts 1 (length (name ∷ names) - 1) (length more))
    ∙ ap (filter (is_below bound)) (put_all-append f [] first rest)
    ∙ kept_by_all f bound (put_all f [] first) rest behind
    ∙ all_kept bound (put_all f [] first) (put_all_each (λ (i : ℕ). is_below bound i ≡ true) f [] first tt within)
    ∙ put_all_same f g [] first tt (each_named (name ∷ names) more first within)

-- ---- what is added is later

fields_later : (g : ℕ) (paths : List (List ℕ)) (ds : List Draft) → AllOf (g + 1) ds → AllByRecursion (λ (f : Field). g < f.since) (map (field_by paths) ds)
fields_later g paths [] all = tt
fields_later g paths (d ∷ ds) all = (omega (arith, all.0), fields_later g paths ds all.1)

scopes_later : (g : ℕ) (paths : List (List ℕ)) (ds : List Draft) → AllOf (g + 1) ds → AllByRecursion (λ (s : Scope). g < s.since) (map (scope_by paths) (nested_among ds))
scopes_later g paths [] all = tt
scopes_later g paths (d ∷ ds) all =
    split (is_nested d.kind)
    (λ held. rw held (omega (arith, all.0), scopes_later g paths ds all.1))
    (λ failed. rw failed (scopes_later g paths ds all.1))

relations_later : (g : ℕ) (pairs : List Pair) (known names : List (List ℕ)) → AllByRecursion (λ (r : Relation). g < r.since) (map (relation_by (g + 1) pairs known) names)
relations_later g pairs known [] = tt
relations_later g pairs known (name ∷ names) = (omega arith, relations_later g pairs known names)

scope_count : (ds : List Draft) → length (scopes_by ds) ≡ length (scope_paths ds)
scope_count ds = simp length-map refl

-- ---- one body more

one_more : (bs : List JsonValue) (v : JsonValue) (on later : Bool) → list_all is_body bs ≡ true → is_body v ≡ true → HasFurtherBodies (mapping_of bs on) (mapping_of (bs ++ v ∷ []) later)
one_more bs v on later forms is =
    let ds : List Draft = drafts_of bs in
    let news : List Draft = drafts_added (length bs + 1) (draft_paths (drafts_of bs)) v in
    let whole : list_all is_body (bs ++ v ∷ []) ≡ true = list_all-append is_body bs (v ∷ []) ∙ joint (list_all is_body bs) (list_all is_body (v ∷ [])) forms (joint (is_body v) true is refl) in
    let turn : AreInTurn (drafts_of bs ++ drafts_added (length bs + 1) (draft_paths (drafts_of bs)) v) = subst AreInTurn (drafts_more bs v) (founded (bs ++ v ∷ []) whole).turn in
    let all : AreBefore news ds = before_news ds news turn in
    let of : AllOf (length bs + 1) news = added_of (length bs + 1) (draft_paths (drafts_of bs)) v in
    record {
      bodies = simp length-append (omega arith);
      fields = record {
        more = map (field_by (scope_paths (ds ++ news))) news;
        is = ap fields_by (drafts_more bs v) ∙ fields_more ds news all;
        later = fields_later (length bs) (scope_paths (ds ++ news)) news of;
      };
      scopes = record {
        more = map (scope_by (scope_paths (ds ++ news))) (nested_among news);
        is = ap scopes_by (drafts_more bs v) ∙ scopes_more (draft_paths ds) ds news (founded bs forms).above all;
        later = scopes_later (length bs) (scope_paths (ds ++ news)) news of;
      };
      relations = record {
        more = relations_added (length bs + 1) (relations_of bs) (pairs_of v);
        is = relations_more bs v;
        later = relations_later (length bs) (pairs_of v) _ _;
      };
      order = ap (λ (made : List Draft). filter (is_below (length (scopes_by ds))) (order_from 1 (scope_paths made))) (drafts_more bs v)
          ∙ ap (λ (paths : List (List ℕ)). filter (is_below (length (scopes_by ds))) (order_from 1 paths)) (paths_more ds news)
          ∙ ap (λ (n : ℕ). filter (is_below n) (order_from 1 (scope_paths ds ++ draft_paths (nested_among news)))) (scope_count ds)
          ∙ order_more [] (draft_paths (nested_among ds)) (draft_paths (nested_among news));
    }

-- ---- several more

all_weaker : {A : Type 0} (since : A → ℕ) (g h : ℕ) (xs : List A) → g ≤ h → AllByRecursion (λ (x : A). h < since x) xs → AllByRecursion (λ (x : A). g < since x) xs
all_weaker since g h [] le all = tt
all_weaker since g h (x ∷ xs) le all = let one = all.0 in (omega (arith, le, one), all_weaker since g h xs le all.1)

all_append : {A : Type 0} (P : A → Type 0) (xs ys : List A) → AllByRecursion P xs → AllByRecursion P ys → AllByRecursion P (xs ++ ys)
all_append P [] ys one two = two
all_append P (x ∷ xs) ys one two = (one.0, all_append P xs ys one.1 two)

goes_on_through : {A : Type 0} (since : A → ℕ) (g h : ℕ) (xs ys zs : List A) → g ≤ h → GoesOn since g xs ys → GoesOn since h ys zs → GoesOn since g xs zs
goes_on_through {A} since g h xs ys zs le one two = record {
  more = one.more ++ two.more;
  is = two.is ∙ ap (λ (ws : List A). ws ++ two.more) one.is ∙ append_assoc xs one.more two.more;
  later = all_append (λ (x : A). g < since x) one.more two.more one.later (all_weaker since g h two.more le two.later);
}

longer : {A : Type 0} (since : A → ℕ) (g : ℕ) (xs ys : List A) → GoesOn since g xs ys → length xs ≤ length ys
longer since g xs ys one = rw one.is (simp length-append (omega arith))

filter_twice : (bound wider : ℕ) (ns : List ℕ) → bound ≤ wider → filter (is_below bound) (filter (is_below wider) ns) ≡ filter (is_below bound) ns
filter_twice bound wider [] le = refl
filter_twice bound wider (n ∷ ns) le =
    split (is_below wider n)
    (λ held. rw held (split (is_below bound n)
    (λ within. rw within (ap (λ (ys : List ℕ). n ∷ ys) (filter_twice bound wider ns le)))
    (λ past. rw past (filter_twice bound wider ns le))))
    (λ failed.
    let past : wider ≤ n = ltb-false n wider failed in
    rw (failed, le-ltb n bound (omega (arith, past, le))) (filter_twice bound wider ns le))

pub through : (m m2 m3 : Mapping) → HasFurtherBodies m m2 → HasFurtherBodies m2 m3 → HasFurtherBodies m m3
through m m2 m3 one two =
    let some = one.bodies in
    let rest = two.bodies in
    record {
      bodies = omega (arith, some, rest);
      fields = goes_on_through (λ (f : Field). f.since) (length m.bodies) (length m2.bodies) m.fields m2.fields m3.fields one.bodies one.fields two.fields;
      scopes = goes_on_through (λ (s : Scope). s.since) (length m.bodies) (length m2.bodies) m.scopes m2.scopes m3.scopes one.bodies one.scopes two.scopes;
      relations = goes_on_through (λ (r : Relation). r.since) (length m.bodies) (length m2.bodies) m.relations m2.relations m3.relations one.bodies one.relations two.relations;
      order = sym (filter_twice (length m.scopes) (length m2.scopes) m3.order (longer (λ (s : Scope). s.since) (length m.bodies) m.scopes m2.scopes one.scopes))
          ∙ ap (filter (is_below (length m.scopes))) two.order ∙ one.order;
    }

order_same : (name : List ℕ) (names : List (List ℕ)) → filter (is_below (length (name ∷ names))) (order_from 1 (name ∷ names)) ≡ order_from 1 (name ∷ names)
order_same name names =
    ap (λ (ns : List (List ℕ)). filter (is_below (length (name ∷ names))) (order_from 1 ns)) (sym (append-nil (name ∷ names))) ∙ order_more name names []

none_more : {A : Type 0} (since : A → ℕ) (g : ℕ) (xs : List A) → GoesOn since g xs xs
none_more since g xs = record { more = []; is = sym (append-nil xs); later = tt }

itself : (bs : List JsonValue) (on later : Bool) → HasFurtherBodies (mapping_of bs on) (mapping_of bs later)
itself bs on later = record {
  bodies = omega arith;
  fields = none_more (λ (f : Field). f.since) (length bs) (fields_by (drafts_of bs));
  scopes = none_more (λ (s : Scope). s.since) (length bs) (scopes_by (drafts_of bs));
  relations = none_more (λ (r : Relation). r.since) (length bs) (relations_of bs);
  order = ap (λ (n : ℕ). filter (is_below n) (order_from 1 (scope_paths (drafts_of bs)))) (scope_count (drafts_of bs)) ∙ order_same [] (draft_paths (nested_among (drafts_of bs)));
}

pub stand_behind : (bs more : List JsonValue) (on later : Bool) → list_all is_body bs ≡ true → list_all is_body more ≡ true → HasFurtherBodies (mapping_of bs on) (mapping_of (bs ++ more) later)
stand_behind bs [] on later forms all = subst (λ (cs : List JsonValue). HasFurtherBodies (mapping_of bs on) (mapping_of cs later)) (sym (append-nil bs)) (itself bs on later)
stand_behind bs (v ∷ more) on later forms all =
    let parts = both (is_body v) (list_all is_body more) all in
    let whole : list_all is_body (bs ++ v ∷ []) ≡ true = list_all-append is_body bs (v ∷ []) ∙ joint (list_all is_body bs) (list_all is_body (v ∷ [])) forms (joint (is_body v) true parts.0 refl) in
    subst (λ (cs : List JsonValue). HasFurtherBodies (mapping_of bs on) (mapping_of cs later)) (append_assoc bs (v ∷ []) more)
    (through (mapping_of bs on) (mapping_of (bs ++ v ∷ []) later) (mapping_of ((bs ++ v ∷ []) ++ more) later) (one_more bs v on later forms parts.0)
    (stand_behind (bs ++ v ∷ []) more later later whole parts.1))
