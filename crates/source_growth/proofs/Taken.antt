-- The mapping takes the body that a source adds: what is unmapped stays unmapped below, and what is mapped is a draft.
use Rattle.std.proofs.Common.{◌≡◌, ℕ, zero, suc, ◌+◌, ◌<◌, Bool, true, false, not, ◌||◌, nat_lt, List as Seq, [], ◌∷◌, ◌++◌, length, map, filter, find, get_or, refl, sym, ap, ◌∙◌, subst, arith, bytes_eq, Option, Some, None, is_some, option_map, option_and_then, slice_get}
use Rattle.std.proofs.lemmas.Bool.{false≢true, eq-eqb, le-leb, lt-ltb}
use Rattle.std.proofs.lemmas.List.{length-map}
use Rattle.std.proofs.lemmas.Slice.Eq.{bytes_eq-Decides}
use Rattle.std.specs.List.{list_all, list_any, position_from}
use Rattle.tree_json.specs.Value.{JsonValue, null, bool, whole, text, list, object, Elements, no_elements, element, Members, no_members, member, member_of}
use Rattle.mapping_body.specs.Body.{Property, is_body, is_property, properties_named}
use Rattle.mapping_body.specs.Names.{dot, goes_on, has_dot, is_among, is_name, is_property_name, joined, lies_above, place_of}
use Rattle.mapping_body.proofs.Closed.{has_name}
use Rattle.mapping_body.proofs.Walks.{split}
use Rattle.mapping_growth.specs.Bodies.{AreBodies, adds, conflict_of, draft_named, is_otherwise}
use Rattle.mapping_growth.specs.Fields.{Draft, draft_paths, drafts_of}
use Rattle.mapping_growth.specs.Relations.{Relation, relations_of}
use Rattle.mapping.specs.IsMapping.{IsMapping}
use Rattle.mapping.specs.Mapping.{Field, Mapping, mapping_of, field_at, field_below, field_by, fields_by, field_named, generation_of, if_known, kind_at, knows, no_field, scope_paths}
use Rattle.mapping.proofs.InTurn.{HaveAbove, founded}
use Rattle.source_growth.specs.Growth.{body_with, first_value, growth, holds_objects, mapped_among, mapped_below, mapped_in, plain, unmapped_among, unmapped_below, unmapped_in, with_form, with_member, form_after, form_above, found_below}
use Rattle.source_growth.proofs.Sound.{IsMapped, all_in_members, both, good_members, is_good, is_new, joint, mapped_good, names_in_members, new_in_members, some_member, unmapped_good, with_some}

-- ---- what lies below an unmapped path is unmapped

among_from : (name : Seq ℕ) (names : Seq (Seq ℕ)) (at : ℕ) → is_some (position_from (λ other. bytes_eq other name) at names) ≡ has_name names name
among_from name [] at = refl
among_from name (x ∷ names) at =
    split (bytes_eq x name)
    (λ same. rw same refl)
    (λ other. rw other (among_from name names (at + 1)))

have_at : (names : Seq (Seq ℕ)) (ds : Seq Draft) (path a : Seq ℕ) → HaveAbove names ds → has_name (draft_paths ds) path ≡ true → lies_above [] a ≡ true → lies_above a path ≡ true → has_name names a ≡ true
have_at names [] path a have there some above = absurd (false≢true there)
have_at names (d ∷ ds) path a have there some above =
    split (bytes_eq d.path path)
    (λ same. have.0.1 a some (subst (λ (p : Seq ℕ). lies_above a p ≡ true) (sym ((bytes_eq-Decides d.path path).0 same)) above))
    (λ other. have_at names ds path a have.1 (rw other at there) some above)

goes_on_itself : (path k : Seq ℕ) → goes_on path (path ++ dot ∷ k) ≡ true
goes_on_itself [] k = refl
goes_on_itself (b ∷ path) k = rw (eq-eqb b b refl) (goes_on_itself path k)

above_name : (path k : Seq ℕ) → lies_above [] path ≡ true → lies_above path (joined path k) ≡ true
above_name [] k some = absurd (false≢true some)
above_name (b ∷ path) k some = goes_on_itself (b ∷ path) k

some_joined : (path k : Seq ℕ) → lies_above [] path ≡ true → lies_above [] (joined path k) ≡ true
some_joined [] k some = absurd (false≢true some)
some_joined (b ∷ path) k some = refl

some_name : (path k : Seq ℕ) → is_property_name k ≡ true → lies_above [] (joined path k) ≡ true
some_name [] [] h = absurd (false≢true h)
some_name [] (b ∷ k) h = refl
some_name (b ∷ path) k h = refl

new_below : (ds : Seq Draft) (path k : Seq ℕ) → HaveAbove (draft_paths ds) ds → is_new ds path ≡ true → lies_above [] path ≡ true → is_new ds (joined path k) ≡ true
new_below ds path k have new some =
    split (is_among (draft_paths ds) (joined path k))
    (λ there.
    let up : has_name (draft_paths ds) path ≡ true = have_at (draft_paths ds) ds (joined path k) path have (sym (among_from (joined path k) (draft_paths ds) 0) ∙ there) some (above_name path k some) in
    let old : is_among (draft_paths ds) path ≡ true = among_from path (draft_paths ds) 0 ∙ up in
    absurd (false≢true (sym (ap not old) ∙ new)))
    (λ apart. ap not apart)

-- ---- below an unmapped path

mutual
  below_good : (ds : Seq Draft) (rs : Seq Relation) (have : HaveAbove (draft_paths ds) ds) (d : JsonValue) (path : Seq ℕ) (ps : Members) → is_new ds path ≡ true → lies_above [] path ≡ true → good_members ds rs path ps ≡ true → good_members ds rs path (unmapped_below d ps) ≡ true
  below_good ds rs have null path ps new some h = h
  below_good ds rs have (bool b) path ps new some h = h
  below_good ds rs have (whole z) path ps new some h = h
  below_good ds rs have (text s) path ps new some h = h
  below_good ds rs have (list es) path ps new some h = in_good ds rs have es path ps new some h
  below_good ds rs have (object ms) path ps new some h = among_good ds rs have ms path ps new some h

  in_good : (ds : Seq Draft) (rs : Seq Relation) (have : HaveAbove (draft_paths ds) ds) (es : Elements) (path : Seq ℕ) (ps : Members) → is_new ds path ≡ true → lies_above [] path ≡ true → good_members ds rs path ps ≡ true → good_members ds rs path (unmapped_in es ps) ≡ true
  in_good ds rs have no_elements path ps new some h = h
  in_good ds rs have (element d es) path ps new some h = in_good ds rs have es path (unmapped_below d ps) new some (below_good ds rs have d path ps new some h)

  among_good : (ds : Seq Draft) (rs : Seq Relation) (have : HaveAbove (draft_paths ds) ds) (ms : Members) (path : Seq ℕ) (ps : Members) → is_new ds path ≡ true → lies_above [] path ≡ true → good_members ds rs path ps ≡ true → good_members ds rs path (unmapped_among ms ps) ≡ true
  among_good ds rs have no_members path ps new some h = h
  among_good ds rs have (member k d ms) path ps new some h =
      split (is_property_name k)
      (λ name.
      let further : is_new ds (joined path k) ≡ true = new_below ds path k have new some in
      rw name (among_good ds rs have ms path (with_form k (form_after (first_value d) (unmapped_below d) (member_of ps k)) ps) new some
      (unmapped_good ds rs path k (first_value d) (unmapped_below d) (member_of ps k) ps refl name further (λ qs g. below_good ds rs have d (joined path k) qs further (some_joined path k some) g) h)))
      (λ other. rw other (among_good ds rs have ms path ps new some h))

-- ---- what is mapped

paths_by : (above : Seq (Seq ℕ)) (ds : Seq Draft) → map (λ (f : Field). f.path) (map (field_by above) ds) ≡ draft_paths ds
paths_by above [] = refl
paths_by above (d ∷ ds) = ap (λ (ps : Seq (Seq ℕ)). d.path ∷ ps) (paths_by above ds)

draft_at : (above : Seq (Seq ℕ)) (ds : Seq Draft) (f : ℕ) → f < length ds → (d : Draft) × (slice_get ds f ≡ Some d) × (d.kind ≡ (get_or (map (field_by above) ds) f no_field).kind)
draft_at above [] f h = absurd (omega arith)
draft_at above (d ∷ ds) zero h = (d, refl, refl)
draft_at above (d ∷ ds) (suc f) h = let less : f < length ds = omega arith in draft_at above ds f less

place_within : (t : Seq ℕ → Bool) (names : Seq (Seq ℕ)) (k i : ℕ) → position_from t k names ≡ Some i → i < k + length names
place_within t [] k i e = absurd (cc)
place_within t (x ∷ names) k i e =
    split (t x)
    (λ held. let here : Some k ≡ Some i = rw held at e in let is : k ≡ i = cc in omega arith)
    (λ failed. let rest = place_within t names (k + 1) i (rw failed at e) in omega (arith, rest))

plain_name : (k : Seq ℕ) → is_property_name k ≡ true → has_dot k ≡ false
plain_name k h = let parts = both (is_name k) (not (has_dot k)) h in split (has_dot k) (λ held. absurd (false≢true (sym (ap not held) ∙ parts.1))) (λ failed. failed)

found_by : (known : ℕ → Bool) (o : Option ℕ) (f : ℕ) → option_and_then (if_known known) o ≡ Some f → o ≡ Some f
found_by known None f e = absurd (cc)
found_by known (Some i) f e =
    split (known i)
    (λ yes. rw yes at e)
    (λ no. let none : None ≡ Some f = rw no at e in absurd (cc))

none_by : (known : ℕ → Bool) (o : Option ℕ) → ((i : ℕ) → o ≡ Some i → known i ≡ true) → option_and_then (if_known known) o ≡ None → o ≡ None
none_by known None all e = refl
none_by known (Some i) all e = let some : Some i ≡ None = rw (all i refl) at e in absurd (cc)

-- a mapping of bodies
record IsOf (m : Mapping) (ds : Seq Draft) : Type 0 where
  fields : m.fields ≡ fields_by ds
  is_mapping : IsMapping m

place_is : (m : Mapping) (ds : Seq Draft) (path : Seq ℕ) → IsOf m ds → field_named m path ≡ place_of path (draft_paths ds)
place_is m ds path of = ap (λ (fs : Seq Field). place_of path (map (λ (f : Field). f.path) fs)) of.fields ∙ ap (place_of path) (paths_by (scope_paths ds) ds)

count_is : (m : Mapping) (ds : Seq Draft) → IsOf m ds → length m.fields ≡ length (draft_paths ds)
count_is m ds of = ap length of.fields ∙ length-map ds (field_by (scope_paths ds)) ∙ sym (length-map ds (λ (d : Draft). d.path))

unmapped : (m : Mapping) (ds : Seq Draft) (path k : Seq ℕ) → IsOf m ds → is_property_name k ≡ true → field_below m (generation_of m) path k ≡ None → is_new ds (joined path k) ≡ true
unmapped m ds path k of name e =
    let off : option_and_then (if_known (knows m (generation_of m))) (field_named m (joined path k)) ≡ None = rw (plain_name k name) at e in
    let none : field_named m (joined path k) ≡ None = none_by (knows m (generation_of m)) (field_named m (joined path k)) (λ i f.
    let less = place_within (λ other. bytes_eq other (joined path k)) (draft_paths ds) 0 i (sym (place_is m ds (joined path k) of) ∙ f) in
    let count = count_is m ds of in
    le-leb (field_at m i).since (generation_of m) (of.is_mapping.field_added i (omega (arith, less, count)))) off in
    ap (λ (o : Option ℕ). not (is_some o)) (sym (place_is m ds (joined path k) of) ∙ none)

mapped : (m : Mapping) (ds : Seq Draft) (path k : Seq ℕ) (f : ℕ) → IsOf m ds → is_property_name k ≡ true → field_below m (generation_of m) path k ≡ Some f → IsMapped ds (joined path k) (kind_at m f)
mapped m ds path k f of name e =
    let off : option_and_then (if_known (knows m (generation_of m))) (field_named m (joined path k)) ≡ Some f = rw (plain_name k name) at e in
    let at : place_of (joined path k) (draft_paths ds) ≡ Some f = sym (place_is m ds (joined path k) of) ∙ found_by (knows m (generation_of m)) (field_named m (joined path k)) f off in
    let less = place_within (λ other. bytes_eq other (joined path k)) (draft_paths ds) 0 f at in
    let count = length-map ds (λ (d : Draft). d.path) in
    let one = draft_at (scope_paths ds) ds f (omega (arith, less, count)) in
    record {
      draft = one.0;
      named = ap (option_and_then (slice_get ds)) at ∙ one.1;
      known = ap (λ (o : Option ℕ). not (is_some o)) at;
      kind_is = one.2 ∙ ap (λ (fs : Seq Field). (get_or fs f no_field).kind) (sym of.fields);
    }

-- ---- below a mapped path

member_some : (m : Mapping) (k : Seq ℕ) (d : JsonValue) (add : Members → Members) (o : Option ℕ) (ps : Members) → some_member ps ≡ true → some_member (with_member m k d add o ps) ≡ true
member_some m k d add None ps h = with_some k (form_after (first_value d) (unmapped_below d) (member_of ps k)) ps h
member_some m k d add (Some f) ps h =
    split (holds_objects (kind_at m f))
    (λ held. rw held (with_some k (form_above (kind_at m f) (member_of ps k) (add (found_below (member_of ps k)))) ps h))
    (λ failed. rw failed h)

mutual
  pub mapped_some : (m : Mapping) (d : JsonValue) (path : Seq ℕ) (ps : Members) → some_member ps ≡ true → some_member (mapped_below m path d ps) ≡ true
  mapped_some m null path ps h = h
  mapped_some m (bool b) path ps h = h
  mapped_some m (whole z) path ps h = h
  mapped_some m (text s) path ps h = h
  mapped_some m (list es) path ps h = mapped_some_in m es path ps h
  mapped_some m (object ms) path ps h = mapped_some_among m ms path ps h

  mapped_some_in : (m : Mapping) (es : Elements) (path : Seq ℕ) (ps : Members) → some_member ps ≡ true → some_member (mapped_in m path es ps) ≡ true
  mapped_some_in m no_elements path ps h = h
  mapped_some_in m (element d es) path ps h = mapped_some_in m es path (mapped_below m path d ps) (mapped_some m d path ps h)

  mapped_some_among : (m : Mapping) (ms : Members) (path : Seq ℕ) (ps : Members) → some_member ps ≡ true → some_member (mapped_among m path ms ps) ≡ true
  mapped_some_among m no_members path ps h = h
  mapped_some_among m (member k d ms) path ps h =
      split (is_property_name k)
      (λ name. rw name (mapped_some_among m ms path (with_member m k d (mapped_below m (joined path k) d) (field_below m (generation_of m) path k) ps)
      (member_some m k d (mapped_below m (joined path k) d) (field_below m (generation_of m) path k) ps h)))
      (λ other. rw other (mapped_some_among m ms path ps h))

member_good : (m : Mapping) (ds : Seq Draft) (rs : Seq Relation) (path k : Seq ℕ) (d : JsonValue) (o : Option ℕ) (ps : Members) → HaveAbove (draft_paths ds) ds → IsOf m ds → o ≡ field_below m (generation_of m) path k → is_property_name k ≡ true
    → ((qs : Members) → good_members ds rs (joined path k) qs ≡ true → good_members ds rs (joined path k) (mapped_below m (joined path k) d qs) ≡ true)
    → good_members ds rs path ps ≡ true → good_members ds rs path (with_member m k d (mapped_below m (joined path k) d) o ps) ≡ true
member_good m ds rs path k d None ps have of e name walk h =
    let new = unmapped m ds path k of name (sym e) in
    unmapped_good ds rs path k (first_value d) (unmapped_below d) (member_of ps k) ps refl name new (λ qs g. below_good ds rs have d (joined path k) qs new (some_name path k name) g) h
member_good m ds rs path k d (Some f) ps have of e name walk h =
    split (holds_objects (kind_at m f))
    (λ held. rw held (mapped_good ds rs path k (kind_at m f) (mapped_below m (joined path k) d) (member_of ps k) ps refl name held (mapped m ds path k f of name (sym e)) walk (λ qs some. mapped_some m d (joined path k) qs some) h))
    (λ failed. rw failed h)

mutual
  walk_good : (m : Mapping) (ds : Seq Draft) (rs : Seq Relation) (have : HaveAbove (draft_paths ds) ds) (of : IsOf m ds) (d : JsonValue) (path : Seq ℕ) (ps : Members) → good_members ds rs path ps ≡ true → good_members ds rs path (mapped_below m path d ps) ≡ true
  walk_good m ds rs have of null path ps h = h
  walk_good m ds rs have of (bool b) path ps h = h
  walk_good m ds rs have of (whole z) path ps h = h
  walk_good m ds rs have of (text s) path ps h = h
  walk_good m ds rs have of (list es) path ps h = walk_in_good m ds rs have of es path ps h
  walk_good m ds rs have of (object ms) path ps h = walk_among_good m ds rs have of ms path ps h

  walk_in_good : (m : Mapping) (ds : Seq Draft) (rs : Seq Relation) (have : HaveAbove (draft_paths ds) ds) (of : IsOf m ds) (es : Elements) (path : Seq ℕ) (ps : Members) → good_members ds rs path ps ≡ true → good_members ds rs path (mapped_in m path es ps) ≡ true
  walk_in_good m ds rs have of no_elements path ps h = h
  walk_in_good m ds rs have of (element d es) path ps h = walk_in_good m ds rs have of es path (mapped_below m path d ps) (walk_good m ds rs have of d path ps h)

  walk_among_good : (m : Mapping) (ds : Seq Draft) (rs : Seq Relation) (have : HaveAbove (draft_paths ds) ds) (of : IsOf m ds) (ms : Members) (path : Seq ℕ) (ps : Members) → good_members ds rs path ps ≡ true → good_members ds rs path (mapped_among m path ms ps) ≡ true
  walk_among_good m ds rs have of no_members path ps h = h
  walk_among_good m ds rs have of (member k d ms) path ps h =
      split (is_property_name k)
      (λ name. rw name (walk_among_good m ds rs have of ms path (with_member m k d (mapped_below m (joined path k) d) (field_below m (generation_of m) path k) ps)
      (member_good m ds rs path k d (field_below m (generation_of m) path k) ps have of refl name (λ qs g. walk_good m ds rs have of d (joined path k) qs g) h)))
      (λ other. rw other (walk_among_good m ds rs have of ms path ps h))

-- ---- the body

all_weaker : (s t : Property → Bool) → ((p : Property) → s p ≡ true → t p ≡ true) → (ps : Seq Property) → list_all s ps ≡ true → list_all t ps ≡ true
all_weaker s t to [] h = refl
all_weaker s t to (p ∷ ps) h = let parts = both (s p) (list_all s ps) h in joint (t p) (list_all t ps) (to p parts.0) (all_weaker s t to ps parts.1)

none_found : (t : Property → Bool) (ps : Seq Property) → list_all (λ p. not (t p)) ps ≡ true → find t ps ≡ None
none_found t [] h = refl
none_found t (p ∷ ps) h =
    let parts = both (not (t p)) (list_all (λ p. not (t p)) ps) h in
    split (t p)
    (λ held. absurd (false≢true (sym (ap not held) ∙ parts.0)))
    (λ failed. rw failed (none_found t ps parts.1))

some_kept : (t : Property → Bool) (ps : Seq Property) → list_any t ps ≡ true → nat_lt 0 (length (filter t ps)) ≡ true
some_kept t [] h = absurd (false≢true h)
some_kept t (p ∷ ps) h = split (t p) (λ held. rw held (lt-ltb 0 (length (p ∷ filter t ps)) (omega arith))) (λ failed. rw failed (some_kept t ps (rw failed at h)))

or_first : (s t : Bool) → s ≡ true → (s || t) ≡ true
or_first s t h = rw h refl

-- the mapping of bodies takes a body of these properties
taken_with : (bs : Seq JsonValue) (k : Seq ℕ) (d : JsonValue) (ps : Members) → good_members (drafts_of bs) (relations_of bs) [] (member k d ps) ≡ true
    → (is_body (plain (member k d ps)) ≡ true) × (conflict_of bs (plain (member k d ps)) ≡ None) × (adds bs (plain (member k d ps)) ≡ true)
unfolding conflict_of
taken_with bs k d ps h =
    let ds : Seq Draft = drafts_of bs in
    let rs : Seq Relation = relations_of bs in
    let names = names_in_members ds rs [] (member k d ps) h in
    let all = all_in_members ds rs [] (member k d ps) h in
    let new = new_in_members ds rs [] (member k d ps) h refl in
    let forms : list_all (λ p. is_property p.form) (properties_named [] (member k d ps)) ≡ true = all_weaker (is_good ds rs) (λ p. is_property p.form) (λ p g. (both (is_property p.form) (not (is_otherwise rs p.form (draft_named ds p.path))) g).0) (properties_named [] (member k d ps)) all in
    let agree : list_all (λ p. not (is_otherwise rs p.form (draft_named ds p.path))) (properties_named [] (member k d ps)) ≡ true = all_weaker (is_good ds rs) (λ p. not (is_otherwise rs p.form (draft_named ds p.path))) (λ p g. (both (is_property p.form) (not (is_otherwise rs p.form (draft_named ds p.path))) g).1) (properties_named [] (member k d ps)) all in (
      rw (names, forms) refl,
      ap (option_map (λ (p : Property). p.path)) (none_found (λ p. is_otherwise rs p.form (draft_named ds p.path)) (properties_named [] (member k d ps)) agree),
      or_first _ _ (some_kept (λ p. is_new ds p.path) (properties_named [] (member k d ps)) new),
    )

taken_by : (bs : Seq JsonValue) (body : JsonValue) (ps : Members) → good_members (drafts_of bs) (relations_of bs) [] ps ≡ true → body_with ps ≡ Some body
    → (is_body body ≡ true) × (conflict_of bs body ≡ None) × (adds bs body ≡ true)
taken_by bs body no_members h e = absurd (cc)
taken_by bs body (member k d ps) h e =
    let is : plain (member k d ps) ≡ body = cc in
    subst (λ (b : JsonValue). (is_body b ≡ true) × (conflict_of bs b ≡ None) × (adds bs b ≡ true)) is (taken_with bs k d ps h)

of_bodies : (bs : Seq JsonValue) (on : Bool) → IsMapping (mapping_of bs on) → IsOf (mapping_of bs on) (drafts_of bs)
of_bodies bs on is = record { fields = refl; is_mapping = is }

taken_of : (bs : Seq JsonValue) (on : Bool) (source body : JsonValue) → AreBodies bs → IsMapping (mapping_of bs on) → growth (mapping_of bs on) source ≡ Some body
    → (is_body body ≡ true) × (conflict_of bs body ≡ None) × (adds bs body ≡ true)
unfolding growth
taken_of bs on null body are is e = absurd (cc)
taken_of bs on (bool b) body are is e = absurd (cc)
taken_of bs on (whole z) body are is e = absurd (cc)
taken_of bs on (text s) body are is e = absurd (cc)
taken_of bs on (list es) body are is e = absurd (cc)
taken_of bs on (object ms) body are is e =
    taken_by bs body (mapped_among (mapping_of bs on) [] ms no_members)
    (walk_among_good (mapping_of bs on) (drafts_of bs) (relations_of bs) (founded bs are.forms).above (of_bodies bs on is) ms [] no_members refl) e

pub taken : (m : Mapping) (source body : JsonValue) → IsMapping m → AreBodies m.bodies → m ≡ mapping_of m.bodies m.dynamic → growth m source ≡ Some body
    → (is_body body ≡ true) × (conflict_of m.bodies body ≡ None) × (adds m.bodies body ≡ true)
taken m source body is are of e =
    taken_of m.bodies m.dynamic source body are (subst IsMapping of is) (subst (λ (n : Mapping). growth n source ≡ Some body) of e)
