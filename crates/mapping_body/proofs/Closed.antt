-- The properties of a body have those above them in the body.
use Rattle.std.proofs.Common.{◌≡◌, ℕ, ◌⊎◌, inl, inr, List as Seq, [], ◌∷◌, ◌++◌, map, filter, not, refl, sym, ap, ◌∙◌, subst, Bool, true, false, ◌==◌, ◌&&◌, ◌||◌, codes, bytes_eq, Option, Some, None, is_some, Less, Equal, Greater}
use Rattle.std.proofs.lemmas.Bool.{false≢true, or_cases, eqb-true, eq-eqb}
use Rattle.std.proofs.lemmas.List.{map-append}
use Rattle.std.proofs.lemmas.List.Folds.{list_any-append, list_all-append}
use Rattle.std.proofs.lemmas.Slice.Eq.{bytes_eq-Decides}
use Rattle.std.specs.List.{AllByRecursion, list_all, list_any, position_from}
use Rattle.tree_json.specs.Value.{JsonValue, null, bool, whole, text, list, object, Members, no_members, member}
use Rattle.mapping_body.specs.declared.kind.Kind.{Kind}
use Rattle.mapping_body.specs.declared.kind.Kind.TheVariants.{Text, Keyword, Long, Boolean, Date, Object, Nested, Join}
use Rattle.mapping_body.specs.Body.{Property, Taken, are_properties, are_property_names, are_taken, body_takes, has, has_needed, is_body, is_body_alone, is_property, kind_in, properties_among, properties_at, properties_below, properties_named, properties_of, property_takes, suits_kind, takes_type}
use Rattle.mapping_body.specs.Names.{dot, goes_on, has_dot, is_name, is_property_name, joined, lies_above}
use Rattle.mapping_body.proofs.Walks.{split}

pub both : (s t : Bool) → (s && t) ≡ true → (s ≡ true) × (t ≡ true)
both true t h = (refl, h)
both false t h = absurd (false≢true h)

not_true : (b : Bool) → not b ≡ true → b ≡ false
not_true true h = cc
not_true false h = refl

or_right : (s t : Bool) → t ≡ true → (s || t) ≡ true
or_right true t h = refl
or_right false t h = h

or_left : (s t : Bool) → s ≡ true → (s || t) ≡ true
or_left s t h = rw h refl

-- ---- names

dot_after : (a path : Seq ℕ) → goes_on a path ≡ true → has_dot path ≡ true
dot_after [] [] h = absurd (false≢true h)
dot_after [] (b ∷ path) h = or_left (b == dot) (has_dot path) h
dot_after (x ∷ a) [] h = absurd (false≢true h)
dot_after (x ∷ a) (b ∷ path) h = or_right (b == dot) (has_dot path) (dot_after a path (both (x == b) (goes_on a path) h).1)

goes_joined : (a path k : Seq ℕ) → has_dot k ≡ false → goes_on a (path ++ dot ∷ k) ≡ true → (a ≡ path) ⊎ (goes_on a path ≡ true)
goes_joined [] [] k plain h = inl refl
goes_joined [] (b ∷ path) k plain h = inr h
goes_joined (x ∷ a) [] k plain h = absurd (false≢true (sym plain ∙ dot_after a k (both (x == dot) (goes_on a k) h).1))
goes_joined (x ∷ a) (b ∷ path) k plain h =
    let parts = both (x == b) (goes_on a (path ++ dot ∷ k)) h in
    let heads : x ≡ b = eqb-true x b parts.0 in
    elim (goes_joined a path k plain parts.1) [
      | inl same ↦ inl (rw (heads, same) refl)
      | inr above ↦ inr (rw (eq-eqb x b heads) above)
    ]

-- what lies above a name below a path is the path or lies above it
pub above_joined : (a path k : Seq ℕ) → has_dot k ≡ false → lies_above a (joined path k) ≡ true → (a ≡ path) ⊎ (lies_above a path ≡ true)
above_joined [] [] k plain h = inl refl
above_joined (x ∷ a) [] k plain h = absurd (false≢true (sym plain ∙ dot_after (x ∷ a) k h))
above_joined [] (b ∷ path) k plain h = inr refl
above_joined (x ∷ a) (b ∷ path) k plain h = goes_joined (x ∷ a) (b ∷ path) k plain h

-- a name is one of a list, by recursion
abbrev pub has_name : Seq (Seq ℕ) → Seq ℕ → Bool
has_name names name = list_any (λ other. bytes_eq other name) names

-- a property below a path: it has a name, and what lies above it is the path, above that, or among names
pub record IsClosed (names : Seq (Seq ℕ)) (path : Seq ℕ) (p : Property) : Type 0 where
  pub some : lies_above [] p.path ≡ true
  pub above : (a : Seq ℕ) → lies_above a p.path ≡ true → (a ≡ path) ⊎ ((lies_above a path ≡ true) ⊎ (has_name names a ≡ true))

-- ---- property names

pub named_plain : (k : Seq ℕ) → is_property_name k ≡ true → (has_dot k ≡ false) × (lies_above [] k ≡ true)
named_plain [] is = absurd (false≢true is)
named_plain (b ∷ k) is = let parts = both (is_name (b ∷ k)) (not (has_dot (b ∷ k))) is in (not_true (has_dot (b ∷ k)) parts.1, refl)

joined_some : (path k : Seq ℕ) → lies_above [] k ≡ true → lies_above [] (joined path k) ≡ true
joined_some [] k some = some
joined_some (b ∷ path) k some = refl

-- the member `properties` of a property or a body has names of properties
properties_taken : (kind : Kind) (d : JsonValue) → list_any (λ t. bytes_eq (codes "properties") t.0 && t.1 d) (takes_type (property_takes kind)) ≡ true → are_properties d ≡ true
properties_taken Text d h = absurd (false≢true h)
properties_taken Keyword d h = absurd (false≢true h)
properties_taken Long d h = absurd (false≢true h)
properties_taken Boolean d h = absurd (false≢true h)
properties_taken Date d h = absurd (false≢true h)
properties_taken Object d h = elim (or_cases (are_properties d) false h) [ inl is ↦ is | inr never ↦ absurd (false≢true never) ]
properties_taken Nested d h = elim (or_cases (are_properties d) false h) [ inl is ↦ is | inr never ↦ absurd (false≢true never) ]
properties_taken Join d h = absurd (false≢true h)

pub body_taken : (d : JsonValue) → list_any (λ t. bytes_eq (codes "properties") t.0 && t.1 d) body_takes ≡ true → are_properties d ≡ true
body_taken d h = elim (or_cases (are_properties d) false h) [ inl is ↦ is | inr never ↦ absurd (false≢true never) ]

-- what a table asks of the member `properties`
abbrev pub Asks : Taken → Type 0
Asks table = (d : JsonValue) → list_any (λ t. bytes_eq (codes "properties") t.0 && t.1 d) table ≡ true → are_properties d ≡ true

-- where members pass a table that asks it, what stands below is walked by names of properties
abbrev AreNamed : JsonValue → Type 0
AreNamed (object ms) = are_property_names ms ≡ true
AreNamed v = Unit {0}

pub asked : (table : Taken) (k : Seq ℕ) (d : JsonValue) → Asks table → bytes_eq k (codes "properties") ≡ true → list_any (λ t. bytes_eq k t.0 && t.1 d) table ≡ true → are_properties d ≡ true
asked table k d asks same is =
    let name : k ≡ codes "properties" = (bytes_eq-Decides k (codes "properties")).0 same in
    asks d (subst (λ (n : Seq ℕ). list_any (λ t. bytes_eq n t.0 && t.1 d) table ≡ true) name is)

pub property_parts : (ms : Members) (o : Option Kind) → suits_kind o ms ≡ true → (table : Taken) × (Asks table × (are_taken table ms ≡ true))
property_parts ms None is = absurd (false≢true is)
property_parts ms (Some kind) is =
    (takes_type (property_takes kind), (properties_taken kind, (both (are_taken (takes_type (property_takes kind)) ms) (has_needed kind ms) is).0))

-- ---- the walk

more_names : (names more : Seq (Seq ℕ)) (path : Seq ℕ) (ps : Seq Property) → ((a : Seq ℕ) → has_name names a ≡ true → has_name more a ≡ true)
    → AllByRecursion (IsClosed names path) ps → AllByRecursion (IsClosed more path) ps
more_names names more path [] grows all = tt
more_names names more path (p ∷ ps) grows all = (
  record {
    some = all.0.some;
    above = λ a h. elim (all.0.above a h) [ inl same ↦ inl same | inr rest ↦ elim rest [ inl over ↦ inr (inl over) | inr among ↦ inr (inr (grows a among)) ] ];
  },
  more_names names more path ps grows all.1,
)

-- those below a name below a path
deeper : (names : Seq (Seq ℕ)) (path k : Seq ℕ) (ps : Seq Property) → has_dot k ≡ false → has_name names (joined path k) ≡ true → AllByRecursion (IsClosed names (joined path k)) ps → AllByRecursion (IsClosed names path) ps
deeper names path k [] plain there all = tt
deeper names path k (p ∷ ps) plain there all = (
  record {
    some = all.0.some;
    above = λ a h. elim (all.0.above a h) [
      | inl same ↦ inr (inr (ap (has_name names) same ∙ there))
      | inr rest ↦ elim rest [
        | inl over ↦ elim (above_joined a path k plain over) [ inl same ↦ inl same | inr above ↦ inr (inl above) ]
        | inr among ↦ inr (inr among)
      ]
    ];
  },
  deeper names path k ps plain there all.1,
)

pub append_all : {A : Type 0} (P : A → Type 0) (xs ys : Seq A) → AllByRecursion P xs → AllByRecursion P ys → AllByRecursion P (xs ++ ys)
append_all P [] ys one two = two
append_all P (x ∷ xs) ys one two = (one.0, append_all P xs ys one.1 two)

abbrev paths_of : Seq Property → Seq (Seq ℕ)
paths_of ps = map (λ p. p.path) ps

has_itself : (names : Seq (Seq ℕ)) (name : Seq ℕ) → has_name (name ∷ names) name ≡ true
has_itself names name = or_left (bytes_eq name name) (has_name names name) ((bytes_eq-Decides name name).1 refl)

in_left : (name : Seq ℕ) (xs ys : Seq Property) (a : Seq ℕ) → has_name (paths_of xs) a ≡ true → has_name (name ∷ paths_of (xs ++ ys)) a ≡ true
in_left name xs ys a h =
    or_right (bytes_eq name a) (has_name (paths_of (xs ++ ys)) a)
    (rw (map-append (λ p. p.path) xs ys, list_any-append (λ other. bytes_eq other a) (paths_of xs) (paths_of ys)) (or_left (has_name (paths_of xs) a) (has_name (paths_of ys) a) h))

in_right : (name : Seq ℕ) (xs ys : Seq Property) (a : Seq ℕ) → has_name (paths_of ys) a ≡ true → has_name (name ∷ paths_of (xs ++ ys)) a ≡ true
in_right name xs ys a h =
    or_right (bytes_eq name a) (has_name (paths_of (xs ++ ys)) a)
    (rw (map-append (λ p. p.path) xs ys, list_any-append (λ other. bytes_eq other a) (paths_of xs) (paths_of ys)) (or_right (has_name (paths_of xs) a) (has_name (paths_of ys) a) h))

abbrev pub forms : Seq Property → Bool
forms ps = list_all (λ p. is_property p.form) ps

mutual
  closed_below : (path : Seq ℕ) (v : JsonValue) → is_property v ≡ true → forms (properties_below path v) ≡ true → AllByRecursion (IsClosed (paths_of (properties_below path v)) path) (properties_below path v)
  closed_below path null is all = tt
  closed_below path (bool b) is all = tt
  closed_below path (whole z) is all = tt
  closed_below path (text s) is all = tt
  closed_below path (list ds) is all = tt
  closed_below path (object ms) is all = let parts = property_parts ms (kind_in ms) is in closed_among path ms parts.0 parts.1.0 parts.1.1 all

  closed_among : (path : Seq ℕ) (ms : Members) (table : Taken) → Asks table → are_taken table ms ≡ true → forms (properties_among path ms) ≡ true
      → AllByRecursion (IsClosed (paths_of (properties_among path ms)) path) (properties_among path ms)
  closed_among path no_members table asks are all = tt
  closed_among path (member k d ms) table asks are all =
      let parts = both (list_any (λ t. bytes_eq k t.0 && t.1 d) table) (are_taken table ms) are in
      split (bytes_eq k (codes "properties"))
      (λ same. rw same (closed_at path d (asked table k d asks same parts.0) (rw same at all)))
      (λ other. rw other (closed_among path ms table asks parts.1 (rw other at all)))

  closed_at : (path : Seq ℕ) (v : JsonValue) → are_properties v ≡ true → forms (properties_at path v) ≡ true → AllByRecursion (IsClosed (paths_of (properties_at path v)) path) (properties_at path v)
  closed_at path null is all = tt
  closed_at path (bool b) is all = tt
  closed_at path (whole z) is all = tt
  closed_at path (text s) is all = tt
  closed_at path (list ds) is all = tt
  closed_at path (object ms) is all = closed_named path ms is all

  closed_named : (path : Seq ℕ) (ms : Members) → are_property_names ms ≡ true → forms (properties_named path ms) ≡ true
      → AllByRecursion (IsClosed (paths_of (properties_named path ms)) path) (properties_named path ms)
  closed_named path no_members are all = tt
  closed_named path (member k d ms) are all =
      let name = both (is_property_name k) (are_property_names ms) are in
      let plain = named_plain k name.0 in
      let form = both (is_property d) (forms (properties_below (joined path k) d ++ properties_named path ms)) all in
      let rest = both (forms (properties_below (joined path k) d)) (forms (properties_named path ms)) (sym (list_all-append (λ p. is_property p.form) (properties_below (joined path k) d) (properties_named path ms)) ∙ form.1) in
      let names = joined path k ∷ paths_of (properties_below (joined path k) d ++ properties_named path ms) in (
        record {
          some = joined_some path k plain.1;
          above = λ a h. elim (above_joined a path k plain.0 h) [ inl same ↦ inl same | inr over ↦ inr (inl over) ];
        },
        append_all (IsClosed names path) (properties_below (joined path k) d) (properties_named path ms)
            (deeper names path k (properties_below (joined path k) d) plain.0 (has_itself (paths_of (properties_below (joined path k) d ++ properties_named path ms)) (joined path k))
            (more_names (paths_of (properties_below (joined path k) d)) names (joined path k) (properties_below (joined path k) d) (in_left (joined path k) (properties_below (joined path k) d) (properties_named path ms)) (closed_below (joined path k) d form.0 rest.0)))
            (more_names (paths_of (properties_named path ms)) names path (properties_named path ms) (in_right (joined path k) (properties_below (joined path k) d) (properties_named path ms)) (closed_named path ms name.1 rest.1)),
      )

pub closed_body : (v : JsonValue) → is_body v ≡ true → AllByRecursion (IsClosed (paths_of (properties_of v)) []) (properties_of v)
closed_body null is = tt
closed_body (bool b) is = tt
closed_body (whole z) is = tt
closed_body (text s) is = tt
closed_body (list ds) is = tt
closed_body (object ms) is =
    let parts = both (is_body_alone (object ms)) (forms (properties_of (object ms))) is in
    closed_among [] ms body_takes body_taken (both (are_taken body_takes ms) (has ms (codes "properties")) parts.0).0 parts.1
