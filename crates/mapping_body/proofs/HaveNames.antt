-- The paths of a body's properties have names with a byte or more.
use Rattle.std.proofs.Common.{◌≡◌, ℕ, ◌<◌, ◌&&◌, List as Seq, [], ◌∷◌, ◌++◌, length, map, refl, sym, ◌∙◌, arith, Bool, true, false, codes, bytes_eq}
use Rattle.std.proofs.lemmas.Bool.{false≢true}
use Rattle.std.proofs.lemmas.List.Folds.{list_all-append}
use Rattle.std.specs.List.{AllByRecursion, list_all, list_any}
use Rattle.tree_json.specs.Value.{JsonValue, null, bool, whole, text, list, object, Members, no_members, member}
use Rattle.mapping_body.specs.Body.{Property, Taken, are_properties, are_property_names, are_taken, body_takes, has, is_body, is_body_alone, is_property, kind_in, properties_among, properties_at, properties_below, properties_named, properties_of}
use Rattle.mapping_body.specs.Names.{is_property_name, joined, lies_above, names_of}
use Rattle.mapping_body.proofs.Closed.{Asks, append_all, asked, body_taken, both, forms, named_plain, property_parts}
use Rattle.mapping_body.proofs.Spelled.{HaveBytes, have_joined}
use Rattle.mapping_body.proofs.Walks.{split}

abbrev pub HasNames : Property → Type 0
HasNames p = HaveBytes (names_of p.path)

some_bytes : (name : Seq ℕ) → lies_above [] name ≡ true → 0 < length name
some_bytes [] h = absurd (false≢true h)
some_bytes (byte ∷ name) h = omega arith

mutual
  names_below : (path : Seq ℕ) (v : JsonValue) → is_property v ≡ true → forms (properties_below path v) ≡ true → HaveBytes (names_of path) → AllByRecursion HasNames (properties_below path v)
  names_below path null is all have = tt
  names_below path (bool b) is all have = tt
  names_below path (whole z) is all have = tt
  names_below path (text s) is all have = tt
  names_below path (list ds) is all have = tt
  names_below path (object ms) is all have = let parts = property_parts ms (kind_in ms) is in names_among path ms parts.0 parts.1.0 parts.1.1 all have

  names_among : (path : Seq ℕ) (ms : Members) (table : Taken) → Asks table → are_taken table ms ≡ true → forms (properties_among path ms) ≡ true → HaveBytes (names_of path) → AllByRecursion HasNames (properties_among path ms)
  names_among path no_members table asks are all have = tt
  names_among path (member k d ms) table asks are all have =
      let parts = both (list_any (λ t. bytes_eq k t.0 && t.1 d) table) (are_taken table ms) are in
      split (bytes_eq k (codes "properties"))
      (λ same. rw same (names_at path d (asked table k d asks same parts.0) (rw same at all) have))
      (λ other. rw other (names_among path ms table asks parts.1 (rw other at all) have))

  names_at : (path : Seq ℕ) (v : JsonValue) → are_properties v ≡ true → forms (properties_at path v) ≡ true → HaveBytes (names_of path) → AllByRecursion HasNames (properties_at path v)
  names_at path null is all have = tt
  names_at path (bool b) is all have = tt
  names_at path (whole z) is all have = tt
  names_at path (text s) is all have = tt
  names_at path (list ds) is all have = tt
  names_at path (object ms) is all have = names_named path ms is all have

  names_named : (path : Seq ℕ) (ms : Members) → are_property_names ms ≡ true → forms (properties_named path ms) ≡ true → HaveBytes (names_of path) → AllByRecursion HasNames (properties_named path ms)
  names_named path no_members are all have = tt
  names_named path (member k d ms) are all have =
      let name = both (is_property_name k) (are_property_names ms) are in
      let plain = named_plain k name.0 in
      let form = both (is_property d) (forms (properties_below (joined path k) d ++ properties_named path ms)) all in
      let rest = both (forms (properties_below (joined path k) d)) (forms (properties_named path ms)) (sym (list_all-append (λ p. is_property p.form) (properties_below (joined path k) d) (properties_named path ms)) ∙ form.1) in
      let here : HaveBytes (names_of (joined path k)) = have_joined path k have plain.0 (some_bytes k plain.1) in (
        here,
        append_all HasNames (properties_below (joined path k) d) (properties_named path ms) (names_below (joined path k) d form.0 rest.0 here) (names_named path ms name.1 rest.1 have),
      )

pub body_names : (v : JsonValue) → is_body v ≡ true → AllByRecursion HasNames (properties_of v)
body_names null is = tt
body_names (bool b) is = tt
body_names (whole z) is = tt
body_names (text s) is = tt
body_names (list ds) is = tt
body_names (object ms) is =
    let parts = both (is_body_alone (object ms)) (forms (properties_of (object ms))) is in
    names_among [] ms body_takes body_taken (both (are_taken body_takes ms) (has ms (codes "properties")) parts.0).0 parts.1 tt
