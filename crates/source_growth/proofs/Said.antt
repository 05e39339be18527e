-- What a source adds is said by the values at each path.
use Rattle.std.proofs.Common.{◌≡◌, ℕ, Bool, true, false, if◌then◌else◌, List as Seq, [], ◌∷◌, ◌++◌, append-nil, append_assoc, refl, sym, ap, ◌∙◌, subst, codes, bytes_eq, Option, Some, None, unwrap_or, Ordering, Less, Equal, Greater, nat_cmp}
use Rattle.std.proofs.lemmas.Bool.{false≢true}
use Rattle.std.proofs.lemmas.List.Folds.{list_all-append}
use Rattle.std.proofs.lemmas.Slice.Eq.{bytes_eq-Decides}
use Rattle.std.specs.Cmp.Lexicographic.{slice_cmp}
use Rattle.std.specs.List.{list_all}
use Rattle.std.specs.Option.{option_or}
use Rattle.tree_json.specs.Value.{JsonValue, null, bool, whole, text, list, object, Elements, no_elements, element, Members, no_members, member, member_of}
use Rattle.mapping_body.specs.declared.kind.Kind.{Kind}
use Rattle.mapping_body.specs.Body.{is_nested}
use Rattle.mapping_body.specs.Names.{is_property_name, joined}
use Rattle.mapping_body.proofs.Ranks.{by_ordering, is_eq_from, reversed}
use Rattle.mapping_body.proofs.Walks.{split}
use Rattle.mapping.specs.Mapping.{Mapping, field_below, generation_of, kind_at}
use Rattle.source_growth.specs.Growth.{put_member, with_form, first_value, first_value_in, new_form, form_after, properties_in, holding, holds_objects, form_above, found_below, unmapped_below, unmapped_in, unmapped_among, mapped_below, mapped_in, mapped_among, with_member, body_with, growth}
use Rattle.source_growth.specs.Said.{singles, singles_in, singles_named, singles_below, IsSaid, nothing, by_type, by_object, AreSaidBelow, each, IsSaidAt, no_values, unmapped, holds_none, adds_none, adds_some, IsSaidBy}
use Rattle.source_growth.proofs.Sound.{some_member}
use Rattle.source_growth.proofs.Taken.{mapped_some}

-- ---- single values

below_append : (name : Seq ℕ) (vs ws : Seq JsonValue) → singles_below name (vs ++ ws) ≡ singles_below name vs ++ singles_below name ws
below_append name [] ws = refl
below_append name (object ms ∷ vs) ws = ap (λ (rest : Seq JsonValue). singles_named name ms ++ rest) (below_append name vs ws) ∙ sym (append_assoc (singles_named name ms) (singles_below name vs) (singles_below name ws))
below_append name (null ∷ vs) ws = below_append name vs ws
below_append name (bool b ∷ vs) ws = below_append name vs ws
below_append name (whole z ∷ vs) ws = below_append name vs ws
below_append name (text s ∷ vs) ws = below_append name vs ws
below_append name (list ds ∷ vs) ws = below_append name vs ws

abbrev first_of : Seq JsonValue → Option JsonValue
first_of [] = None
first_of (v ∷ vs) = Some v

first_append : (vs ws : Seq JsonValue) → first_of (vs ++ ws) ≡ option_or (first_of vs) (first_of ws)
first_append [] ws = refl
first_append (v ∷ vs) ws = refl

mutual
  first_is : (d : JsonValue) → first_value d ≡ first_of (singles d)
  first_is null = refl
  first_is (bool b) = refl
  first_is (whole z) = refl
  first_is (text s) = refl
  first_is (list ds) = first_in ds
  first_is (object ms) = refl

  first_in : (ds : Elements) → first_value_in ds ≡ first_of (singles_in ds)
  first_in no_elements = refl
  first_in (element d ds) = rw (first_is d, first_in ds) (sym (first_append (singles d) (singles_in ds)))

abbrev is_single : JsonValue → Bool
is_single null = false
is_single (bool b) = true
is_single (whole z) = true
is_single (text s) = true
is_single (list ds) = false
is_single (object ms) = true

mutual
  all_single : (d : JsonValue) → list_all is_single (singles d) ≡ true
  all_single null = refl
  all_single (bool b) = refl
  all_single (whole z) = refl
  all_single (text s) = refl
  all_single (list ds) = all_single_in ds
  all_single (object ms) = refl

  all_single_in : (ds : Elements) → list_all is_single (singles_in ds) ≡ true
  all_single_in no_elements = refl
  all_single_in (element d ds) = list_all-append is_single (singles d) (singles_in ds) ∙ rw (all_single d, all_single_in ds) refl

-- ---- members that are put and found

abbrev compared : Seq ℕ → Seq ℕ → Ordering
compared = slice_cmp nat_cmp

itself : (k : Seq ℕ) → bytes_eq k k ≡ true
itself k = (bytes_eq-Decides k k).1 refl

other_way : (k l : Seq ℕ) → compared k l ≡ Greater → bytes_eq l k ≡ false
other_way k l e = is_eq_from l k Less (reversed k l Greater e)

put_same : (k : Seq ℕ) (d : JsonValue) (ps : Members) → member_of (put_member k d ps) k ≡ Some d
put_same k d no_members = rw (itself k) refl
put_same k d (member l e ps) =
    by_ordering (compared k l)
    (λ less. rw (less, itself k) refl)
    (λ equal. let same : bytes_eq k l ≡ true = is_eq_from k l Equal equal in let is : k ≡ l = (bytes_eq-Decides k l).0 same in rw equal (rw (subst (λ (n : Seq ℕ). bytes_eq n k ≡ true) is (itself k)) refl))
    (λ greater. rw (greater, other_way k l greater) (put_same k d ps))

put_other : (k name : Seq ℕ) (d : JsonValue) (ps : Members) → bytes_eq k name ≡ false → member_of (put_member k d ps) name ≡ member_of ps name
put_other k name d no_members h = rw h refl
put_other k name d (member l e ps) h =
    by_ordering (compared k l)
    (λ less. rw (less, h) refl)
    (λ equal. let is : k ≡ l = (bytes_eq-Decides k l).0 (is_eq_from k l Equal equal) in rw equal (rw (subst (λ (n : Seq ℕ). bytes_eq n name ≡ false) is h) refl))
    (λ greater. rw greater (split (bytes_eq l name) (λ held. rw held refl) (λ failed. rw failed (put_other k name d ps h))))

with_same : (k : Seq ℕ) (o : Option JsonValue) (ps : Members) → (o ≡ None → member_of ps k ≡ None) → member_of (with_form k o ps) k ≡ o
with_same k None ps none = none refl
with_same k (Some form) ps none = put_same k form ps

with_other : (k name : Seq ℕ) (o : Option JsonValue) (ps : Members) → bytes_eq k name ≡ false → member_of (with_form k o ps) name ≡ member_of ps name
with_other k name None ps h = refl
with_other k name (Some form) ps h = put_other k name form ps h

-- ---- members that are said by what the values of each name are

abbrev Saying : Type 1
Saying = Seq ℕ → Seq JsonValue → Option JsonValue → Type 0

abbrev Are : Saying → Members → (Seq ℕ → Seq JsonValue) → Type 0
Are P ps f = (name : Seq ℕ) → is_property_name name ≡ true → P name (f name) (member_of ps name)

abbrev with_values : (Seq ℕ → Seq JsonValue) → Seq ℕ → JsonValue → Seq ℕ → Seq JsonValue
with_values f k d name = f name ++ (if bytes_eq k name then singles d else [])

-- one more member: what is said at its name, and elsewhere as before
one_more : (P : Saying) (k : Seq ℕ) (d : JsonValue) (ps qs : Members) (f : Seq ℕ → Seq JsonValue) → ((name : Seq ℕ) → bytes_eq k name ≡ false → member_of qs name ≡ member_of ps name)
    → P k (f k ++ singles d) (member_of qs k) → Are P ps f → Are P qs (with_values f k d)
one_more P k d ps qs f others here are name h =
    split (bytes_eq k name)
    (λ same. let is : k ≡ name = (bytes_eq-Decides k name).0 same in rw same (subst (λ (n : Seq ℕ). P n (f n ++ singles d) (member_of qs n)) is here))
    (λ other. rw (other, append-nil (f name), others name other) (are name h))

passed_over : (P : Saying) (k : Seq ℕ) (d : JsonValue) (ps : Members) (f : Seq ℕ → Seq JsonValue) → is_property_name k ≡ false → Are P ps f → Are P ps (with_values f k d)
passed_over P k d ps f failed are name h =
    split (bytes_eq k name)
    (λ same. absurd (false≢true (sym failed ∙ ap is_property_name ((bytes_eq-Decides k name).0 same) ∙ h)))
    (λ other. rw (other, append-nil (f name)) (are name h))

nil_more : (P : Saying) (ps : Members) (f : Seq ℕ → Seq JsonValue) → Are P ps f → Are P ps (λ name. f name ++ [])
nil_more P ps f are name h = rw (append-nil (f name)) (are name h)

joined_more : (P : Saying) (ps : Members) (f g h : Seq ℕ → Seq JsonValue) → Are P ps (λ name. (f name ++ g name) ++ h name) → Are P ps (λ name. f name ++ (g name ++ h name))
joined_more P ps f g h are name n = subst (λ (vs : Seq JsonValue). P name vs (member_of ps name)) (append_assoc (f name) (g name) (h name)) (are name n)

-- ---- below an unmapped path

abbrev Here : Saying
Here name vs o = IsSaid vs o

abbrev Walks : (JsonValue → Type 0)
Walks d = (ps : Members) (f : Seq ℕ → Seq JsonValue) → Are Here ps f → Are Here (unmapped_below d ps) (λ name. f name ++ singles_below name (singles d))

fresh : (d : JsonValue) (ws : Seq JsonValue) → singles d ≡ ws → Walks d → IsSaid ws (new_form (unmapped_below d no_members) (first_of ws))
fresh d [] e walks = nothing
fresh d (null ∷ ws) e walks = absurd (false≢true (sym (ap (list_all is_single) e) ∙ all_single d))
fresh d (list ds ∷ ws) e walks = absurd (false≢true (sym (ap (list_all is_single) e) ∙ all_single d))
fresh d (bool b ∷ ws) e walks = by_type (bool b) ws (codes "boolean") refl
fresh d (whole z ∷ ws) e walks = by_type (whole z) ws (codes "long") refl
fresh d (text s ∷ ws) e walks = by_type (text s) ws (codes "text") refl
fresh d (object ms ∷ ws) e walks =
    by_object ms ws (unmapped_below d no_members)
    (λ name h. subst (λ (vs : Seq JsonValue). IsSaid vs (member_of (unmapped_below d no_members) name)) (ap (singles_below name) e) (walks no_members (λ _. []) (λ _ _. nothing) name h))

stepped : (d : JsonValue) (vs : Seq JsonValue) (o : Option JsonValue) → Walks d → IsSaid vs o → IsSaid (vs ++ singles d) (form_after (first_value d) (unmapped_below d) o)
stepped d vs o walks (nothing) = rw (first_is d) (fresh d (singles d) refl walks)
stepped d vs o walks (by_type v ws name t) = by_type v (ws ++ singles d) name t
stepped d vs o walks (by_object ms ws ps all) =
    by_object ms (ws ++ singles d) (unmapped_below d ps)
    (λ name h. subst (λ (xs : Seq JsonValue). IsSaid xs (member_of (unmapped_below d ps) name)) (sym (below_append name (object ms ∷ ws) (singles d))) (walks ps (λ l. singles_below l (object ms ∷ ws)) all name h))

after_none : (first : Option JsonValue) (add : Members → Members) (o : Option JsonValue) → form_after first add o ≡ None → o ≡ None
after_none first add None e = refl
after_none first add (Some form) e = absurd (cc)

mutual
  walk_below : (d : JsonValue) → Walks d
  walk_below null ps f are = nil_more Here ps f are
  walk_below (bool b) ps f are = nil_more Here ps f are
  walk_below (whole z) ps f are = nil_more Here ps f are
  walk_below (text s) ps f are = nil_more Here ps f are
  walk_below (list ds) ps f are = walk_in ds ps f are
  walk_below (object ms) ps f are = λ name h. subst (λ (vs : Seq JsonValue). IsSaid (f name ++ vs) (member_of (unmapped_among ms ps) name)) (sym (append-nil (singles_named name ms))) (walk_among ms ps f are name h)

  walk_in : (ds : Elements) (ps : Members) (f : Seq ℕ → Seq JsonValue) → Are Here ps f → Are Here (unmapped_in ds ps) (λ name. f name ++ singles_below name (singles_in ds))
  walk_in no_elements ps f are = nil_more Here ps f are
  walk_in (element d ds) ps f are = λ name h.
      subst (λ (vs : Seq JsonValue). IsSaid vs (member_of (unmapped_in ds (unmapped_below d ps)) name))
      (append_assoc (f name) (singles_below name (singles d)) (singles_below name (singles_in ds)) ∙ ap (λ (vs : Seq JsonValue). f name ++ vs) (sym (below_append name (singles d) (singles_in ds))))
      (walk_in ds (unmapped_below d ps) (λ l. f l ++ singles_below l (singles d)) (walk_below d ps f are) name h)

  walk_among : (ms : Members) (ps : Members) (f : Seq ℕ → Seq JsonValue) → Are Here ps f → Are Here (unmapped_among ms ps) (λ name. f name ++ singles_named name ms)
  walk_among no_members ps f are = nil_more Here ps f are
  walk_among (member k d ms) ps f are =
      split (is_property_name k)
      (λ held. rw held (joined_more Here (unmapped_among ms (with_form k (form_after (first_value d) (unmapped_below d) (member_of ps k)) ps)) f (λ name. if bytes_eq k name then singles d else []) (λ name. singles_named name ms)
      (walk_among ms (with_form k (form_after (first_value d) (unmapped_below d) (member_of ps k)) ps) (with_values f k d)
      (one_more Here k d ps (with_form k (form_after (first_value d) (unmapped_below d) (member_of ps k)) ps) f
      (λ name other. with_other k name (form_after (first_value d) (unmapped_below d) (member_of ps k)) ps other)
      (rw (with_same k (form_after (first_value d) (unmapped_below d) (member_of ps k)) ps (after_none (first_value d) (unmapped_below d) (member_of ps k)))
      (stepped d (f k) (member_of ps k) (walk_below d) (are k held)))
      are))))
      (λ failed. rw failed (joined_more Here (unmapped_among ms ps) f (λ name. if bytes_eq k name then singles d else []) (λ name. singles_named name ms)
      (walk_among ms ps (with_values f k d) (passed_over Here k d ps f failed are))))

-- ---- below a mapped path

module _ (m : Mapping) where
  abbrev At : Seq ℕ → Saying
  At path name vs o = IsSaidAt m (joined path name) (field_below m (generation_of m) path name) vs o

  abbrev Goes : JsonValue → Seq ℕ → Type 0
  Goes d path = (ps : Members) (f : Seq ℕ → Seq JsonValue) → Are (At path) ps f → Are (At path) (mapped_below m path d ps) (λ name. f name ++ singles_below name (singles d))

  -- at a path with failed field what is said is as below an unmapped one
  off : (path : Seq ℕ) (vs : Seq JsonValue) (o : Option JsonValue) → IsSaidAt m path None vs o → IsSaid vs o
  off path vs o (no_values p field) = nothing
  off path vs o (unmapped p ws form is) = is

  -- at one whose values are failed objects nothing is
  silent : (path : Seq ℕ) (f : ℕ) (vs : Seq JsonValue) (o : Option JsonValue) → holds_objects (kind_at m f) ≡ false → IsSaidAt m path (Some f) vs o → o ≡ None
  silent path f vs o failed (no_values p field) = refl
  silent path f vs o failed (holds_none p g ws h) = refl
  silent path f vs o failed (adds_none p g ws h below) = refl
  silent path f vs o failed (adds_some p g ws k form ps h below) = absurd (false≢true (sym failed ∙ h))

  -- and at the others what was found below so far
  found_by : (path : Seq ℕ) (vs : Seq JsonValue) (ps : Members) → AreSaidBelow m path vs ps → Are (At path) ps (λ name. singles_below name vs)
  found_by path vs ps (each p ws qs all) = all

  held_in : (kind : Kind) (ps : Members) → unwrap_or (properties_in (holding kind ps)) no_members ≡ ps
  held_in kind ps = split (is_nested kind) (λ held. rw held refl) (λ failed. rw failed refl)

  found_in : (path : Seq ℕ) (f : ℕ) (vs : Seq JsonValue) (o : Option JsonValue) → holds_objects (kind_at m f) ≡ true → IsSaidAt m path (Some f) vs o → Are (At path) (found_below o) (λ name. singles_below name vs)
  found_in path f vs o held (no_values p field) = λ name h. no_values (joined path name) (field_below m (generation_of m) path name)
  found_in path f vs o held (holds_none p g ws h) = absurd (false≢true (sym h ∙ held))
  found_in path f vs o held (adds_none p g ws h below) = found_by path vs no_members below
  found_in path f vs o held (adds_some p g ws k form ps h below) =
      rw (held_in (kind_at m f) (member k form ps)) (found_by path vs (member k form ps) below)

  above_none : (kind : Kind) (o : Option JsonValue) (ps : Members) → form_above kind o ps ≡ None → o ≡ None
  above_none kind None ps e = refl
  above_none kind (Some form) ps e = absurd (cc)

  -- what was found is more with more values, and some where there was some
  abbrev kept : Option JsonValue → Members → Bool
  kept None ps = true
  kept (Some form) ps = some_member ps

  said_above : (path : Seq ℕ) (f : ℕ) (vs : Seq JsonValue) (o : Option JsonValue) (ps : Members) → holds_objects (kind_at m f) ≡ true → kept o ps ≡ true → AreSaidBelow m path vs ps
      → IsSaidAt m path (Some f) vs (form_above (kind_at m f) o ps)
  said_above path f vs None no_members held some below = adds_none path f vs held below
  said_above path f vs None (member k form ps) held some below = adds_some path f vs k form ps held below
  said_above path f vs (Some other) no_members held some below = absurd (false≢true some)
  said_above path f vs (Some other) (member k form ps) held some below = adds_some path f vs k form ps held below

  still_some : (path : Seq ℕ) (f : ℕ) (vs : Seq JsonValue) (o : Option JsonValue) (d : JsonValue) → IsSaidAt m path (Some f) vs o → kept o (mapped_below m path d (found_below o)) ≡ true
  still_some path f vs o d (no_values p field) = refl
  still_some path f vs o d (holds_none p g ws h) = refl
  still_some path f vs o d (adds_none p g ws h below) = refl
  still_some path f vs o d (adds_some p g ws k form ps h below) =
      rw (held_in (kind_at m f) (member k form ps)) (mapped_some m d path (member k form ps) refl)

  more_below : (path : Seq ℕ) (d : JsonValue) (vs : Seq JsonValue) (ps : Members) → Goes d path → Are (At path) ps (λ name. singles_below name vs) → AreSaidBelow m path (vs ++ singles d) (mapped_below m path d ps)
  more_below path d vs ps goes are =
      each path (vs ++ singles d) (mapped_below m path d ps)
      (λ name h. subst (λ (ws : Seq JsonValue). At path name ws (member_of (mapped_below m path d ps) name)) (sym (below_append name vs (singles d))) (goes ps (λ l. singles_below l vs) are name h))

  abbrev after : Seq ℕ → Seq ℕ → JsonValue → Members → Members
  after path k d ps = with_member m k d (mapped_below m (joined path k) d) (field_below m (generation_of m) path k) ps

  -- one more member
  member_said : (path k : Seq ℕ) (d : JsonValue) (ps : Members) (f : Seq ℕ → Seq JsonValue) (o : Option ℕ) → o ≡ field_below m (generation_of m) path k → Goes d (joined path k)
      → IsSaidAt m (joined path k) o (f k) (member_of ps k) → Are (At path) ps f → Are (At path) (with_member m k d (mapped_below m (joined path k) d) o ps) (with_values f k d)
  member_said path k d ps f None e goes here are =
      one_more (At path) k d ps (with_form k (form_after (first_value d) (unmapped_below d) (member_of ps k)) ps) f
      (λ name other. with_other k name (form_after (first_value d) (unmapped_below d) (member_of ps k)) ps other)
      (rw (sym e, with_same k (form_after (first_value d) (unmapped_below d) (member_of ps k)) ps (after_none (first_value d) (unmapped_below d) (member_of ps k)))
      (unmapped (joined path k) (f k ++ singles d) (form_after (first_value d) (unmapped_below d) (member_of ps k))
      (stepped d (f k) (member_of ps k) (walk_below d) (off (joined path k) (f k) (member_of ps k) here))))
      are
  member_said path k d ps f (Some field) e goes here are =
      split (holds_objects (kind_at m field))
      (λ held. rw held (one_more (At path) k d ps (with_form k (form_above (kind_at m field) (member_of ps k) (mapped_below m (joined path k) d (found_below (member_of ps k)))) ps) f
      (λ name other. with_other k name (form_above (kind_at m field) (member_of ps k) (mapped_below m (joined path k) d (found_below (member_of ps k)))) ps other)
      (rw (sym e, with_same k (form_above (kind_at m field) (member_of ps k) (mapped_below m (joined path k) d (found_below (member_of ps k)))) ps (above_none (kind_at m field) (member_of ps k) (mapped_below m (joined path k) d (found_below (member_of ps k)))))
      (said_above (joined path k) field (f k ++ singles d) (member_of ps k) (mapped_below m (joined path k) d (found_below (member_of ps k))) held
      (still_some (joined path k) field (f k) (member_of ps k) d here)
      (more_below (joined path k) d (f k) (found_below (member_of ps k)) goes (found_in (joined path k) field (f k) (member_of ps k) held here))))
      are))
      (λ failed. rw failed (one_more (At path) k d ps ps f (λ name other. refl)
      (rw (sym e, silent (joined path k) field (f k) (member_of ps k) failed here) (holds_none (joined path k) field (f k ++ singles d) failed))
      are))

  mutual
    go_below : (d : JsonValue) (path : Seq ℕ) → Goes d path
    go_below null path ps f are = nil_more (At path) ps f are
    go_below (bool b) path ps f are = nil_more (At path) ps f are
    go_below (whole z) path ps f are = nil_more (At path) ps f are
    go_below (text s) path ps f are = nil_more (At path) ps f are
    go_below (list ds) path ps f are = go_in ds path ps f are
    go_below (object ms) path ps f are = λ name h. subst (λ (vs : Seq JsonValue). At path name (f name ++ vs) (member_of (mapped_among m path ms ps) name)) (sym (append-nil (singles_named name ms))) (go_among ms path ps f are name h)

    go_in : (ds : Elements) (path : Seq ℕ) (ps : Members) (f : Seq ℕ → Seq JsonValue) → Are (At path) ps f → Are (At path) (mapped_in m path ds ps) (λ name. f name ++ singles_below name (singles_in ds))
    go_in no_elements path ps f are = nil_more (At path) ps f are
    go_in (element d ds) path ps f are = λ name h.
        subst (λ (vs : Seq JsonValue). At path name vs (member_of (mapped_in m path ds (mapped_below m path d ps)) name))
        (append_assoc (f name) (singles_below name (singles d)) (singles_below name (singles_in ds)) ∙ ap (λ (vs : Seq JsonValue). f name ++ vs) (sym (below_append name (singles d) (singles_in ds))))
        (go_in ds path (mapped_below m path d ps) (λ l. f l ++ singles_below l (singles d)) (go_below d path ps f are) name h)

    go_among : (ms : Members) (path : Seq ℕ) (ps : Members) (f : Seq ℕ → Seq JsonValue) → Are (At path) ps f → Are (At path) (mapped_among m path ms ps) (λ name. f name ++ singles_named name ms)
    go_among no_members path ps f are = nil_more (At path) ps f are
    go_among (member k d ms) path ps f are =
        split (is_property_name k)
        (λ held. rw held (joined_more (At path) (mapped_among m path ms (after path k d ps)) f (λ name. if bytes_eq k name then singles d else []) (λ name. singles_named name ms)
        (go_among ms path (after path k d ps) (with_values f k d)
        (member_said path k d ps f (field_below m (generation_of m) path k) refl (go_below d (joined path k)) (are k held) are))))
        (λ failed. rw failed (joined_more (At path) (mapped_among m path ms ps) f (λ name. if bytes_eq k name then singles d else []) (λ name. singles_named name ms)
        (go_among ms path ps (with_values f k d) (passed_over (At path) k d ps f failed are))))

  -- ---- the body

  none_said : (d : JsonValue) → ((name : Seq ℕ) → singles_below name (d ∷ []) ≡ []) → AreSaidBelow m [] (d ∷ []) no_members
  none_said d none = each [] (d ∷ []) no_members (λ name h. rw (none name) (no_values (joined [] name) (field_below m (generation_of m) [] name)))

  whole_said : (ms : Members) (ps : Members) → ps ≡ mapped_among m [] ms no_members → AreSaidBelow m [] (object ms ∷ []) ps
  whole_said ms ps e =
      each [] (object ms ∷ []) ps
      (λ name h. rw (e, append-nil (singles_named name ms)) (go_among ms [] no_members (λ _. []) (λ l _. no_values (joined [] l) (field_below m (generation_of m) [] l)) name h))

  body_said : (ms : Members) (ps : Members) → AreSaidBelow m [] (object ms ∷ []) ps → IsSaidBy m (object ms) (body_with ps)
  body_said ms no_members below = below
  body_said ms (member k form ps) below = (member k form ps, refl, below)

  pub said : (source : JsonValue) → IsSaidBy m source (growth m source)
  unfolding growth
  said null = none_said null (λ _. refl)
  said (bool b) = none_said (bool b) (λ _. refl)
  said (whole z) = none_said (whole z) (λ _. refl)
  said (text s) = none_said (text s) (λ _. refl)
  said (list ds) = none_said (list ds) (λ _. refl)
  said (object ms) = body_said ms (mapped_among m [] ms no_members) (whole_said ms (mapped_among m [] ms no_members) refl)
