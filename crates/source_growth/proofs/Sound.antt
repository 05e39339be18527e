-- What sources add has the form of a body, says nothing otherwise than the mapping, and has a path that is new.
use Rattle.std.proofs.Common.{◌≡◌, ℕ, Bool, true, false, not, ◌&&◌, ◌||◌, if◌then◌else◌, List as Seq, ◌++◌, refl, sym, ap, ◌∙◌, subst, codes, bytes_eq, Option, Some, None, is_some, option_and_then, slice_get, unwrap_or, nat_cmp}
use Rattle.std.proofs.lemmas.Bool.{false≢true}
use Rattle.std.proofs.lemmas.List.Folds.{list_all-append, list_any-append}
use Rattle.std.proofs.lemmas.Map.Lookups.{exact_bytes}
use Rattle.std.proofs.lemmas.Slice.Eq.{bytes_eq-Decides}
use Rattle.std.specs.Cmp.Lexicographic.{slice_cmp}
use Rattle.std.specs.List.{list_all, list_any}
use Rattle.tree_json.specs.Value.{JsonValue, null, bool, whole, text, list, object, Members, no_members, member, member_of}
use Rattle.mapping_body.specs.declared.kind.Kind.{Kind}
use Rattle.mapping_body.specs.declared.kind.Kind.TheVariants.{Text, Keyword, Long, Boolean, Date, Object, Nested, Join}
use Rattle.mapping_body.specs.Body.{Property, are_property_names, is_property, properties_among, properties_at, properties_below, properties_named}
use Rattle.mapping_body.specs.Names.{is_among, is_property_name, joined}
use Rattle.mapping_body.proofs.Ranks.{by_ordering}
use Rattle.mapping_body.proofs.Walks.{split}
use Rattle.mapping_growth.specs.Bodies.{draft_named, is_otherwise}
use Rattle.mapping_growth.specs.Fields.{Draft, draft_paths}
use Rattle.mapping_growth.specs.Relations.{Relation}
use Rattle.source_growth.specs.Growth.{put_member, with_form, new_form, more_form, form_after, properties_in, typed, plain, nested, holding, holds_objects, form_above, found_below}

-- ---- tests

pub both : (s t : Bool) → (s && t) ≡ true → (s ≡ true) × (t ≡ true)
both true t h = (refl, h)
both false t h = absurd (false≢true h)

pub joint : (s t : Bool) → s ≡ true → t ≡ true → (s && t) ≡ true
joint s t h k = rw (h, k) refl

or_first : (s t : Bool) → s ≡ true → (s || t) ≡ true
or_first s t h = rw h refl

or_wider : (s t u : Bool) → (s || t) ≡ true → (s || (t || u)) ≡ true
or_wider true t u h = refl
or_wider false true u h = refl
or_wider false false u h = absurd (false≢true h)

-- ---- what holds of the properties that were found below a path, and of their forms

abbrev pub is_new : Seq Draft → Seq ℕ → Bool
is_new ds path = not (is_among (draft_paths ds) path)

abbrev pub is_good : Seq Draft → Seq Relation → Property → Bool
is_good ds rs p = is_property p.form && not (is_otherwise rs p.form (draft_named ds p.path))

abbrev pub some_member : Members → Bool
some_member no_members = false
some_member (member k d ms) = true

-- a form is good, and has properties that are, some if its path isn't new; or it has its type alone, and its path is new
abbrev mutual
  pub good_form : Seq Draft → Seq Relation → Seq ℕ → JsonValue → Bool
  good_form ds rs path null = false
  good_form ds rs path (bool b) = false
  good_form ds rs path (whole z) = false
  good_form ds rs path (text s) = false
  good_form ds rs path (list es) = false
  good_form ds rs path (object ms) = is_good ds rs (record { path = path; form = object ms }) && good_parts ds rs path ms

  pub good_parts : Seq Draft → Seq Relation → Seq ℕ → Members → Bool
  good_parts ds rs path no_members = false
  good_parts ds rs path (member k d more) = good_first ds rs path k (some_member more) d

  pub good_first : Seq Draft → Seq Relation → Seq ℕ → Seq ℕ → Bool → JsonValue → Bool
  good_first ds rs path k more null = false
  good_first ds rs path k more (bool b) = false
  good_first ds rs path k more (whole z) = false
  good_first ds rs path k more (text s) = is_new ds path && not more
  good_first ds rs path k more (list es) = false
  good_first ds rs path k more (object qs) = bytes_eq k (codes "properties") && (good_members ds rs path qs && (is_new ds path || some_member qs))

  pub good_members : Seq Draft → Seq Relation → Seq ℕ → Members → Bool
  good_members ds rs path no_members = true
  good_members ds rs path (member k d ms) = (is_property_name k && good_form ds rs (joined path k) d) && good_members ds rs path ms

-- ---- what follows for all properties below

abbrev all_good : Seq Draft → Seq Relation → Seq Property → Bool
all_good ds rs ps = list_all (is_good ds rs) ps

abbrev any_new : Seq Draft → Seq Property → Bool
any_new ds ps = list_any (λ p. is_new ds p.path) ps

mutual
  all_in_form : (ds : Seq Draft) (rs : Seq Relation) (path : Seq ℕ) (d : JsonValue) → good_form ds rs path d ≡ true → (is_good ds rs (record { path = path; form = d }) && all_good ds rs (properties_below path d)) ≡ true
  all_in_form ds rs path null h = absurd (false≢true h)
  all_in_form ds rs path (bool b) h = absurd (false≢true h)
  all_in_form ds rs path (whole z) h = absurd (false≢true h)
  all_in_form ds rs path (text s) h = absurd (false≢true h)
  all_in_form ds rs path (list es) h = absurd (false≢true h)
  all_in_form ds rs path (object ms) h =
      let parts = both (is_good ds rs (record { path = path; form = object ms })) (good_parts ds rs path ms) h in
      joint (is_good ds rs (record { path = path; form = object ms })) (all_good ds rs (properties_among path ms)) parts.0 (all_in_parts ds rs path ms parts.1)

  all_in_parts : (ds : Seq Draft) (rs : Seq Relation) (path : Seq ℕ) (ms : Members) → good_parts ds rs path ms ≡ true → all_good ds rs (properties_among path ms) ≡ true
  all_in_parts ds rs path no_members h = absurd (false≢true h)
  all_in_parts ds rs path (member k d more) h = all_in_first ds rs path k d more h

  all_in_first : (ds : Seq Draft) (rs : Seq Relation) (path k : Seq ℕ) (d : JsonValue) (more : Members) → good_first ds rs path k (some_member more) d ≡ true
      → all_good ds rs (if bytes_eq k (codes "properties") then properties_at path d else properties_among path more) ≡ true
  all_in_first ds rs path k null more h = absurd (false≢true h)
  all_in_first ds rs path k (bool b) more h = absurd (false≢true h)
  all_in_first ds rs path k (whole z) more h = absurd (false≢true h)
  all_in_first ds rs path k (text s) no_members h = split (bytes_eq k (codes "properties")) (λ yes. rw yes refl) (λ no. rw no refl)
  all_in_first ds rs path k (text s) (member l e more) h = absurd (false≢true (both (is_new ds path) false h).1)
  all_in_first ds rs path k (list es) more h = absurd (false≢true h)
  all_in_first ds rs path k (object qs) more h =
      let parts = both (bytes_eq k (codes "properties")) (good_members ds rs path qs && (is_new ds path || some_member qs)) h in
      rw parts.0 (all_in_members ds rs path qs (both (good_members ds rs path qs) (is_new ds path || some_member qs) parts.1).0)

  pub all_in_members : (ds : Seq Draft) (rs : Seq Relation) (path : Seq ℕ) (ms : Members) → good_members ds rs path ms ≡ true → all_good ds rs (properties_named path ms) ≡ true
  all_in_members ds rs path no_members h = refl
  all_in_members ds rs path (member k d ms) h =
      let parts = both (is_property_name k && good_form ds rs (joined path k) d) (good_members ds rs path ms) h in
      let first = both (is_property_name k) (good_form ds rs (joined path k) d) parts.0 in
      let whole = both (is_good ds rs (record { path = joined path k; form = d })) (all_good ds rs (properties_below (joined path k) d)) (all_in_form ds rs (joined path k) d first.1) in
      joint (is_good ds rs (record { path = joined path k; form = d })) (all_good ds rs (properties_below (joined path k) d ++ properties_named path ms)) whole.0
      (list_all-append (is_good ds rs) (properties_below (joined path k) d) (properties_named path ms)
      ∙ joint (all_good ds rs (properties_below (joined path k) d)) (all_good ds rs (properties_named path ms)) whole.1 (all_in_members ds rs path ms parts.1))

mutual
  new_in_form : (ds : Seq Draft) (rs : Seq Relation) (path : Seq ℕ) (d : JsonValue) → good_form ds rs path d ≡ true → (is_new ds path || any_new ds (properties_below path d)) ≡ true
  new_in_form ds rs path null h = absurd (false≢true h)
  new_in_form ds rs path (bool b) h = absurd (false≢true h)
  new_in_form ds rs path (whole z) h = absurd (false≢true h)
  new_in_form ds rs path (text s) h = absurd (false≢true h)
  new_in_form ds rs path (list es) h = absurd (false≢true h)
  new_in_form ds rs path (object ms) h =
      split (is_new ds path)
      (λ new. or_first (is_new ds path) (any_new ds (properties_among path ms)) new)
      (λ old.
      let parts = both (is_good ds rs (record { path = path; form = object ms })) (good_parts ds rs path ms) h in
      rw old (new_in_parts ds rs path ms old parts.1))

  new_in_parts : (ds : Seq Draft) (rs : Seq Relation) (path : Seq ℕ) (ms : Members) → is_new ds path ≡ false → good_parts ds rs path ms ≡ true → any_new ds (properties_among path ms) ≡ true
  new_in_parts ds rs path no_members old h = absurd (false≢true h)
  new_in_parts ds rs path (member k d more) old h = new_in_first ds rs path k d more old h

  new_in_first : (ds : Seq Draft) (rs : Seq Relation) (path k : Seq ℕ) (d : JsonValue) (more : Members) → is_new ds path ≡ false → good_first ds rs path k (some_member more) d ≡ true
      → any_new ds (if bytes_eq k (codes "properties") then properties_at path d else properties_among path more) ≡ true
  new_in_first ds rs path k null more old h = absurd (false≢true h)
  new_in_first ds rs path k (bool b) more old h = absurd (false≢true h)
  new_in_first ds rs path k (whole z) more old h = absurd (false≢true h)
  new_in_first ds rs path k (text s) more old h = absurd (false≢true (sym old ∙ (both (is_new ds path) (not (some_member more)) h).0))
  new_in_first ds rs path k (list es) more old h = absurd (false≢true h)
  new_in_first ds rs path k (object qs) more old h =
      let parts = both (bytes_eq k (codes "properties")) (good_members ds rs path qs && (is_new ds path || some_member qs)) h in
      let rest = both (good_members ds rs path qs) (is_new ds path || some_member qs) parts.1 in
      let some : some_member qs ≡ true = sym (ap (λ (b : Bool). b || some_member qs) old) ∙ rest.1 in
      rw parts.0 (new_in_members ds rs path qs rest.0 some)

  pub new_in_members : (ds : Seq Draft) (rs : Seq Relation) (path : Seq ℕ) (ms : Members) → good_members ds rs path ms ≡ true → some_member ms ≡ true → any_new ds (properties_named path ms) ≡ true
  new_in_members ds rs path no_members h some = absurd (false≢true some)
  new_in_members ds rs path (member k d ms) h some =
      let parts = both (is_property_name k && good_form ds rs (joined path k) d) (good_members ds rs path ms) h in
      let first = both (is_property_name k) (good_form ds rs (joined path k) d) parts.0 in
      ap (λ (b : Bool). is_new ds (joined path k) || b) (list_any-append (λ p. is_new ds p.path) (properties_below (joined path k) d) (properties_named path ms))
      ∙ or_wider (is_new ds (joined path k)) (any_new ds (properties_below (joined path k) d)) (any_new ds (properties_named path ms)) (new_in_form ds rs (joined path k) d first.1)

pub names_in_members : (ds : Seq Draft) (rs : Seq Relation) (path : Seq ℕ) (ms : Members) → good_members ds rs path ms ≡ true → are_property_names ms ≡ true
names_in_members ds rs path no_members h = refl
names_in_members ds rs path (member k d ms) h =
    let parts = both (is_property_name k && good_form ds rs (joined path k) d) (good_members ds rs path ms) h in
    joint (is_property_name k) (are_property_names ms) (both (is_property_name k) (good_form ds rs (joined path k) d) parts.0).0 (names_in_members ds rs path ms parts.1)

-- ---- members that are put and found

good_put : (ds : Seq Draft) (rs : Seq Relation) (path k : Seq ℕ) (d : JsonValue) (ms : Members) → is_property_name k ≡ true → good_form ds rs (joined path k) d ≡ true → good_members ds rs path ms ≡ true → good_members ds rs path (put_member k d ms) ≡ true
good_put ds rs path k d no_members name form h = joint (is_property_name k && good_form ds rs (joined path k) d) true (joint (is_property_name k) (good_form ds rs (joined path k) d) name form) refl
good_put ds rs path k d (member l e ms) name form h =
    let parts = both (is_property_name l && good_form ds rs (joined path l) e) (good_members ds rs path ms) h in
    let one : (is_property_name k && good_form ds rs (joined path k) d) ≡ true = joint (is_property_name k) (good_form ds rs (joined path k) d) name form in
    by_ordering (slice_cmp nat_cmp k l)
    (λ less. rw less (joint (is_property_name k && good_form ds rs (joined path k) d) (good_members ds rs path (member l e ms)) one h))
    (λ equal.
    let there : (is_property_name l && good_form ds rs (joined path l) d) ≡ true = subst (λ (n : Seq ℕ). (is_property_name n && good_form ds rs (joined path n) d) ≡ true) (exact_bytes k l equal) one in
    rw equal (joint (is_property_name l && good_form ds rs (joined path l) d) (good_members ds rs path ms) there parts.1))
    (λ greater. rw greater (joint (is_property_name l && good_form ds rs (joined path l) e) (good_members ds rs path (put_member k d ms)) parts.0 (good_put ds rs path k d ms name form parts.1)))

good_found : (ds : Seq Draft) (rs : Seq Relation) (path k : Seq ℕ) (d : JsonValue) (ms : Members) → good_members ds rs path ms ≡ true → member_of ms k ≡ Some d → good_form ds rs (joined path k) d ≡ true
good_found ds rs path k d no_members h e = absurd (cc)
good_found ds rs path k d (member l f ms) h e =
    let parts = both (is_property_name l && good_form ds rs (joined path l) f) (good_members ds rs path ms) h in
    split (bytes_eq l k)
    (λ same.
    let one : Some f ≡ Some d = rw same at e in
    let is : f ≡ d = cc in
    let name : l ≡ k = (bytes_eq-Decides l k).0 same in
    rw (← is, ← name) (both (is_property_name l) (good_form ds rs (joined path l) f) parts.0).1)
    (λ other. good_found ds rs path k d ms parts.1 (rw other at e))

put_some : (k : Seq ℕ) (d : JsonValue) (ms : Members) → some_member (put_member k d ms) ≡ true
put_some k d no_members = refl
put_some k d (member l e ms) =
    by_ordering (slice_cmp nat_cmp k l) (λ less. rw less refl) (λ equal. rw equal refl) (λ greater. rw greater refl)

pub with_some : (k : Seq ℕ) (o : Option JsonValue) (ps : Members) → some_member ps ≡ true → some_member (with_form k o ps) ≡ true
with_some k None ps h = h
with_some k (Some d) ps h = put_some k d ps

-- ---- what is below a good form

inner_good : (ds : Seq Draft) (rs : Seq Relation) (path : Seq ℕ) (d : JsonValue) (qs : Members) → good_form ds rs path d ≡ true → properties_in d ≡ Some qs → (good_members ds rs path qs && (is_new ds path || some_member qs)) ≡ true
inner_good ds rs path null qs h e = absurd (cc)
inner_good ds rs path (bool b) qs h e = absurd (cc)
inner_good ds rs path (whole z) qs h e = absurd (cc)
inner_good ds rs path (text s) qs h e = absurd (cc)
inner_good ds rs path (list es) qs h e = absurd (cc)
inner_good ds rs path (object no_members) qs h e = absurd (cc)
inner_good ds rs path (object (member k null more)) qs h e = absurd (cc)
inner_good ds rs path (object (member k (bool b) more)) qs h e = absurd (cc)
inner_good ds rs path (object (member k (whole z) more)) qs h e = absurd (cc)
inner_good ds rs path (object (member k (text s) more)) qs h e = absurd (cc)
inner_good ds rs path (object (member k (list es) more)) qs h e = absurd (cc)
inner_good ds rs path (object (member k (object os) more)) qs h e =
    let is : os ≡ qs = cc in
    let parts = both (is_good ds rs (record { path = path; form = object (member k (object os) more) })) (good_first ds rs path k (some_member more) (object os)) h in
    subst (λ (ns : Members). (good_members ds rs path ns && (is_new ds path || some_member ns)) ≡ true) is
    (both (bytes_eq k (codes "properties")) (good_members ds rs path os && (is_new ds path || some_member os)) parts.1).1

-- a form without properties has its type alone, at a new path
leaf_new : (ds : Seq Draft) (rs : Seq Relation) (path : Seq ℕ) (d : JsonValue) → good_form ds rs path d ≡ true → properties_in d ≡ None → is_new ds path ≡ true
leaf_new ds rs path null h e = absurd (false≢true h)
leaf_new ds rs path (bool b) h e = absurd (false≢true h)
leaf_new ds rs path (whole z) h e = absurd (false≢true h)
leaf_new ds rs path (text s) h e = absurd (false≢true h)
leaf_new ds rs path (list es) h e = absurd (false≢true h)
leaf_new ds rs path (object no_members) h e = absurd (false≢true (both (is_good ds rs (record { path = path; form = object no_members })) false h).1)
leaf_new ds rs path (object (member k null more)) h e = absurd (false≢true (both (is_good ds rs (record { path = path; form = object (member k null more) })) false h).1)
leaf_new ds rs path (object (member k (bool b) more)) h e = absurd (false≢true (both (is_good ds rs (record { path = path; form = object (member k (bool b) more) })) false h).1)
leaf_new ds rs path (object (member k (whole z) more)) h e = absurd (false≢true (both (is_good ds rs (record { path = path; form = object (member k (whole z) more) })) false h).1)
leaf_new ds rs path (object (member k (text s) more)) h e =
    (both (is_new ds path) (not (some_member more)) (both (is_good ds rs (record { path = path; form = object (member k (text s) more) })) (is_new ds path && not (some_member more)) h).1).0
leaf_new ds rs path (object (member k (list es) more)) h e = absurd (false≢true (both (is_good ds rs (record { path = path; form = object (member k (list es) more) })) false h).1)
leaf_new ds rs path (object (member k (object os) more)) h e = absurd (cc)

-- ---- forms that are good

unnamed_by : (ds : Seq Draft) (o : Option ℕ) → not (is_some o) ≡ true → option_and_then (slice_get ds) o ≡ None
unnamed_by ds None h = refl
unnamed_by ds (Some i) h = absurd (false≢true h)

unnamed : (ds : Seq Draft) (path : Seq ℕ) → is_new ds path ≡ true → draft_named ds path ≡ None
unnamed ds path h = unnamed_by ds _ h

new_good : (ds : Seq Draft) (rs : Seq Relation) (path : Seq ℕ) (d : JsonValue) → is_new ds path ≡ true → is_property d ≡ true → is_good ds rs (record { path = path; form = d }) ≡ true
new_good ds rs path d new form =
    ap (λ (o : Option Draft). is_property d && not (is_otherwise rs d o)) (unnamed ds path new) ∙ ap (λ (b : Bool). b && true) form

typed_good : (ds : Seq Draft) (rs : Seq Relation) (path name : Seq ℕ) → is_new ds path ≡ true → is_property (typed name) ≡ true → good_form ds rs path (typed name) ≡ true
typed_good ds rs path name new form =
    joint (is_good ds rs (record { path = path; form = typed name })) (is_new ds path && true) (new_good ds rs path (typed name) new form) (joint (is_new ds path) true new refl)

plain_property : (qs : Members) → are_property_names qs ≡ true → is_property (plain qs) ≡ true
plain_property qs h = rw h refl

nested_property : (qs : Members) → are_property_names qs ≡ true → is_property (nested qs) ≡ true
nested_property qs h = rw h refl

plain_good : (ds : Seq Draft) (rs : Seq Relation) (path : Seq ℕ) (qs : Members) → is_new ds path ≡ true → good_members ds rs path qs ≡ true → good_form ds rs path (plain qs) ≡ true
plain_good ds rs path qs new h =
    joint (is_good ds rs (record { path = path; form = plain qs })) (good_members ds rs path qs && (is_new ds path || some_member qs))
    (new_good ds rs path (plain qs) new (plain_property qs (names_in_members ds rs path qs h)))
    (joint (good_members ds rs path qs) (is_new ds path || some_member qs) h (or_first (is_new ds path) (some_member qs) new))

-- ---- at an unmapped path

new_form_good : (ds : Seq Draft) (rs : Seq Relation) (path k : Seq ℕ) (below : Members) (first : Option JsonValue) (ps : Members) → is_property_name k ≡ true → is_new ds (joined path k) ≡ true
    → good_members ds rs (joined path k) below ≡ true → good_members ds rs path ps ≡ true → good_members ds rs path (with_form k (new_form below first) ps) ≡ true
new_form_good ds rs path k below None ps name new inner h = h
new_form_good ds rs path k below (Some null) ps name new inner h = h
new_form_good ds rs path k below (Some (bool b)) ps name new inner h = good_put ds rs path k (typed (codes "boolean")) ps name (typed_good ds rs (joined path k) (codes "boolean") new refl) h
new_form_good ds rs path k below (Some (whole z)) ps name new inner h = good_put ds rs path k (typed (codes "long")) ps name (typed_good ds rs (joined path k) (codes "long") new refl) h
new_form_good ds rs path k below (Some (text s)) ps name new inner h = good_put ds rs path k (typed (codes "text")) ps name (typed_good ds rs (joined path k) (codes "text") new refl) h
new_form_good ds rs path k below (Some (list es)) ps name new inner h = h
new_form_good ds rs path k below (Some (object ms)) ps name new inner h = good_put ds rs path k (plain below) ps name (plain_good ds rs (joined path k) below new inner) h

more_form_good : (ds : Seq Draft) (rs : Seq Relation) (path : Seq ℕ) (add : Members → Members) (d : JsonValue) (q : Option Members) → q ≡ properties_in d → is_new ds path ≡ true → good_form ds rs path d ≡ true
    → ((qs : Members) → good_members ds rs path qs ≡ true → good_members ds rs path (add qs) ≡ true) → good_form ds rs path (more_form add d q) ≡ true
more_form_good ds rs path add d None e new form walk = form
more_form_good ds rs path add d (Some qs) e new form walk =
    plain_good ds rs path (add qs) new (walk qs (both (good_members ds rs path qs) (is_new ds path || some_member qs) (inner_good ds rs path d qs form (sym e))).0)

pub unmapped_good : (ds : Seq Draft) (rs : Seq Relation) (path k : Seq ℕ) (first : Option JsonValue) (add : Members → Members) (o : Option JsonValue) (ps : Members) → o ≡ member_of ps k → is_property_name k ≡ true → is_new ds (joined path k) ≡ true
    → ((qs : Members) → good_members ds rs (joined path k) qs ≡ true → good_members ds rs (joined path k) (add qs) ≡ true) → good_members ds rs path ps ≡ true
    → good_members ds rs path (with_form k (form_after first add o) ps) ≡ true
unmapped_good ds rs path k first add None ps e name new walk h = new_form_good ds rs path k (add no_members) first ps name new (walk no_members refl) h
unmapped_good ds rs path k first add (Some d) ps e name new walk h =
    good_put ds rs path k (more_form add d (properties_in d)) ps name
    (more_form_good ds rs (joined path k) add d (properties_in d) refl new (good_found ds rs path k d ps h (sym e)) walk) h

-- ---- at a mapped path

-- the field at a path is a draft of a kind
pub record IsMapped (ds : Seq Draft) (path : Seq ℕ) (kind : Kind) : Type 0 where
  pub draft : Draft
  pub named : draft_named ds path ≡ Some draft
  pub known : is_new ds path ≡ false
  pub kind_is : draft.kind ≡ kind

holding_by : (ds : Seq Draft) (rs : Seq Relation) (path : Seq ℕ) (kind : Kind) (qs : Members) → holds_objects kind ≡ true → are_property_names qs ≡ true → IsMapped ds path kind → is_good ds rs (record { path = path; form = holding kind qs }) ≡ true
holding_by ds rs path Object qs holds names at =
    ap (λ (o : Option Draft). is_property (plain qs) && not (is_otherwise rs (plain qs) o)) at.named
    ∙ ap (λ (b : Bool). b && not (is_otherwise rs (plain qs) (Some at.draft))) (plain_property qs names)
    ∙ rw at.kind_is refl
holding_by ds rs path Nested qs holds names at =
    ap (λ (o : Option Draft). is_property (nested qs) && not (is_otherwise rs (nested qs) o)) at.named
    ∙ ap (λ (b : Bool). b && not (is_otherwise rs (nested qs) (Some at.draft))) (nested_property qs names)
    ∙ rw at.kind_is refl
holding_by ds rs path Text qs holds names at = absurd (false≢true holds)
holding_by ds rs path Keyword qs holds names at = absurd (false≢true holds)
holding_by ds rs path Long qs holds names at = absurd (false≢true holds)
holding_by ds rs path Boolean qs holds names at = absurd (false≢true holds)
holding_by ds rs path Date qs holds names at = absurd (false≢true holds)
holding_by ds rs path Join qs holds names at = absurd (false≢true holds)

holding_shape : (ds : Seq Draft) (rs : Seq Relation) (path : Seq ℕ) (kind : Kind) (qs : Members) → holds_objects kind ≡ true → is_good ds rs (record { path = path; form = holding kind qs }) ≡ true
    → (good_members ds rs path qs && (is_new ds path || some_member qs)) ≡ true → good_form ds rs path (holding kind qs) ≡ true
holding_shape ds rs path Object qs holds good rest = joint (is_good ds rs (record { path = path; form = plain qs })) (good_members ds rs path qs && (is_new ds path || some_member qs)) good rest
holding_shape ds rs path Nested qs holds good rest = joint (is_good ds rs (record { path = path; form = nested qs })) (good_members ds rs path qs && (is_new ds path || some_member qs)) good rest
holding_shape ds rs path Text qs holds good rest = absurd (false≢true holds)
holding_shape ds rs path Keyword qs holds good rest = absurd (false≢true holds)
holding_shape ds rs path Long qs holds good rest = absurd (false≢true holds)
holding_shape ds rs path Boolean qs holds good rest = absurd (false≢true holds)
holding_shape ds rs path Date qs holds good rest = absurd (false≢true holds)
holding_shape ds rs path Join qs holds good rest = absurd (false≢true holds)

or_second : (s t : Bool) → t ≡ true → (s || t) ≡ true
or_second true t h = refl
or_second false t h = h

holding_good : (ds : Seq Draft) (rs : Seq Relation) (path : Seq ℕ) (kind : Kind) (qs : Members) → holds_objects kind ≡ true → IsMapped ds path kind → good_members ds rs path qs ≡ true → some_member qs ≡ true → good_form ds rs path (holding kind qs) ≡ true
holding_good ds rs path kind qs holds at h some =
    holding_shape ds rs path kind qs holds (holding_by ds rs path kind qs holds (names_in_members ds rs path qs h) at)
    (joint (good_members ds rs path qs) (is_new ds path || some_member qs) h (or_second (is_new ds path) (some_member qs) some))

above_none : (ds : Seq Draft) (rs : Seq Relation) (path k : Seq ℕ) (kind : Kind) (qs ps : Members) → is_property_name k ≡ true → holds_objects kind ≡ true → IsMapped ds (joined path k) kind → good_members ds rs (joined path k) qs ≡ true
    → good_members ds rs path ps ≡ true → good_members ds rs path (with_form k (form_above kind None qs) ps) ≡ true
above_none ds rs path k kind no_members ps name holds at inner h = h
above_none ds rs path k kind (member l d qs) ps name holds at inner h = good_put ds rs path k (holding kind (member l d qs)) ps name (holding_good ds rs (joined path k) kind (member l d qs) holds at inner refl) h

above_some : (ds : Seq Draft) (rs : Seq Relation) (path k : Seq ℕ) (kind : Kind) (add : Members → Members) (d : JsonValue) (q : Option Members) (ps : Members) → q ≡ properties_in d → is_property_name k ≡ true → holds_objects kind ≡ true
    → IsMapped ds (joined path k) kind → good_form ds rs (joined path k) d ≡ true → ((qs : Members) → good_members ds rs (joined path k) qs ≡ true → good_members ds rs (joined path k) (add qs) ≡ true)
    → ((qs : Members) → some_member qs ≡ true → some_member (add qs) ≡ true) → good_members ds rs path ps ≡ true
    → good_members ds rs path (put_member k (holding kind (add (unwrap_or q no_members))) ps) ≡ true
above_some ds rs path k kind add d None ps e name holds at form walk keep h =
    absurd (false≢true (sym at.known ∙ leaf_new ds rs (joined path k) d form (sym e)))
above_some ds rs path k kind add d (Some qs) ps e name holds at form walk keep h =
    let inner = both (good_members ds rs (joined path k) qs) (is_new ds (joined path k) || some_member qs) (inner_good ds rs (joined path k) d qs form (sym e)) in
    let some : some_member qs ≡ true = sym (ap (λ (b : Bool). b || some_member qs) at.known) ∙ inner.1 in
    good_put ds rs path k (holding kind (add qs)) ps name (holding_good ds rs (joined path k) kind (add qs) holds at (walk qs inner.0) (keep qs some)) h

pub mapped_good : (ds : Seq Draft) (rs : Seq Relation) (path k : Seq ℕ) (kind : Kind) (add : Members → Members) (o : Option JsonValue) (ps : Members) → o ≡ member_of ps k → is_property_name k ≡ true → holds_objects kind ≡ true
    → IsMapped ds (joined path k) kind → ((qs : Members) → good_members ds rs (joined path k) qs ≡ true → good_members ds rs (joined path k) (add qs) ≡ true)
    → ((qs : Members) → some_member qs ≡ true → some_member (add qs) ≡ true) → good_members ds rs path ps ≡ true
    → good_members ds rs path (with_form k (form_above kind o (add (found_below o))) ps) ≡ true
mapped_good ds rs path k kind add None ps e name holds at walk keep h = above_none ds rs path k kind (add no_members) ps name holds at (walk no_members refl) h
mapped_good ds rs path k kind add (Some d) ps e name holds at walk keep h =
    above_some ds rs path k kind add d (properties_in d) ps refl name holds at (good_found ds rs path k d ps h (sym e)) walk keep h
