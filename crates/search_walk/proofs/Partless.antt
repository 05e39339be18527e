-- No part that is judged stands where a form has none.
use Rattle.std.proofs.Common.{◌≡◌, ℕ, List as Seq, [], ◌∷◌, Bool, true, false, not, ◌&&◌, Option, Some, None, refl, sym, bytes_eq}
use Rattle.std.proofs.lemmas.Bool.{and_parts, false≢true}
use Rattle.std.specs.List.{list_all}
use Rattle.tree_json.specs.Value.{JsonValue, null, bool, whole, text, list, object, Elements, no_elements, element, Members, no_members, member}
use Rattle.mapping.specs.Mapping.{Mapping}
use Rattle.search_form.specs.declared.form.Form.{Form}
use Rattle.search_form.specs.declared.form.Form.TheVariants.{Body, Query, BoolQuery, ConstantScore, DisMax, Nested, ToChild, HasChild, HasParent, SortClause, FieldSort, SortNested, InnerHits, Buckets, Bucket, Queries, QueryList, Sort}
use Rattle.search_form.specs.declared.form.Presence.{Presence}
use Rattle.search_form.specs.Table.{lines_of, other_of, element_of, single_of}
use Rattle.search_form.specs.Form.{form_at, line_among, line_in}
use Rattle.search_walk.specs.Names.{scope_inside}
use Rattle.search_walk.specs.Node.{is_judged, node_here, level_under, nodes_at, nodes_in, nodes_among}
use Rattle.search_walk.specs.Parts.{has_parts}

-- a form that is neither judged nor has parts that are
abbrev is_plain : Form → Bool
is_plain form = not (is_judged form) && not (has_parts form)

abbrev are_plain : Seq (Seq ℕ × Presence × Form) → Bool
are_plain lines = list_all (λ l. is_plain l.2) lines

abbrev are_plain_if : Option (Seq (Seq ℕ × Presence × Form)) → Bool
are_plain_if None = true
are_plain_if (Some lines) = are_plain lines

by_test : {G : Type 0} (t : Bool) → (t ≡ true → G) → (t ≡ false → G) → G
by_test true held failed = held refl
by_test false held failed = failed refl

unset : (b : Bool) → not b ≡ true → b ≡ false
unset true e = absurd (false≢true e)
unset false e = refl

among_plain : (name : Seq ℕ) (lines : Seq (Seq ℕ × Presence × Form)) (other : Presence × Form) → are_plain lines ≡ true → is_plain other.1 ≡ true → is_plain (line_among name lines other).1 ≡ true
among_plain name [] other h g = g
among_plain name (l ∷ lines) other h g =
    let parts = and_parts (is_plain l.2) (are_plain lines) h in
    by_test (bytes_eq name l.0) (λ same. rw same parts.0) (λ apart. rw apart (among_plain name lines other parts.1 g))

in_plain : (name : Seq ℕ) (lines : Option (Seq (Seq ℕ × Presence × Form))) (other : Presence × Form) → are_plain_if lines ≡ true → is_plain other.1 ≡ true → is_plain (line_in lines name other).1 ≡ true
in_plain name None other h g = g
in_plain name (Some lines) other h g = among_plain name lines other h g

lines_plain : (form : Form) → has_parts form ≡ false → are_plain_if (lines_of form) ≡ true
lines_plain Body h = absurd (false≢true (sym h))
lines_plain Query h = absurd (false≢true (sym h))
lines_plain BoolQuery h = absurd (false≢true (sym h))
lines_plain ConstantScore h = absurd (false≢true (sym h))
lines_plain DisMax h = absurd (false≢true (sym h))
lines_plain Nested h = absurd (false≢true (sym h))
lines_plain ToChild h = absurd (false≢true (sym h))
lines_plain HasChild h = absurd (false≢true (sym h))
lines_plain HasParent h = absurd (false≢true (sym h))
lines_plain SortClause h = absurd (false≢true (sym h))
lines_plain FieldSort h = absurd (false≢true (sym h))
lines_plain SortNested h = absurd (false≢true (sym h))
lines_plain InnerHits h = absurd (false≢true (sym h))
lines_plain Buckets h = absurd (false≢true (sym h))
lines_plain Bucket h = absurd (false≢true (sym h))
lines_plain form h = refl

other_plain : (form : Form) (name : Seq ℕ) → has_parts form ≡ false → is_plain (other_of form name).1 ≡ true
other_plain SortClause name h = absurd (false≢true (sym h))
other_plain Buckets name h = absurd (false≢true (sym h))
other_plain form name h = refl

part_plain : (form : Form) (name : Seq ℕ) → has_parts form ≡ false → is_plain (form_at form name) ≡ true
part_plain form name h = in_plain name (lines_of form) (other_of form name) (lines_plain form h) (other_plain form name h)

element_plain : (form : Form) → has_parts form ≡ false → is_plain (element_of form) ≡ true
element_plain Queries h = absurd (false≢true (sym h))
element_plain QueryList h = absurd (false≢true (sym h))
element_plain Sort h = absurd (false≢true (sym h))
element_plain form h = refl

single_plain : (form : Form) → has_parts form ≡ false → single_of form ≡ form
single_plain Queries h = absurd (false≢true (sym h))
single_plain Sort h = absurd (false≢true (sym h))
single_plain form h = refl

here_none : (scope : Option ℕ) (level : ℕ) (form : Form) (v : JsonValue) → is_plain form ≡ true → node_here scope level (single_of form) v ≡ []
here_none scope level form v h =
    let parts = and_parts (not (is_judged form)) (not (has_parts form)) h in
    rw (single_plain form (unset (has_parts form) parts.1)) (rw (unset (is_judged form) parts.0) refl)

module _ (m : Mapping) where
  mutual
    none_at : (scope : Option ℕ) (level : ℕ) (form : Form) (v : JsonValue) → is_plain form ≡ true → nodes_at m scope level form v ≡ []
    none_at scope level form null h = here_none scope level form null h
    none_at scope level form (bool b) h = here_none scope level form (bool b) h
    none_at scope level form (whole z) h = here_none scope level form (whole z) h
    none_at scope level form (text s) h = here_none scope level form (text s) h
    none_at scope level form (list ds) h =
        none_in scope level (element_of form) ds (element_plain form (unset (has_parts form) (and_parts (not (is_judged form)) (not (has_parts form)) h).1))
    none_at scope level form (object ms) h =
        let partless = unset (has_parts form) (and_parts (not (is_judged form)) (not (has_parts form)) h).1 in
        rw (here_none scope level form (object ms) h)
        (rw (single_plain form partless) (none_among (scope_inside m scope form ms) level form ms partless))

    none_in : (scope : Option ℕ) (level : ℕ) (form : Form) (ds : Elements) → is_plain form ≡ true → nodes_in m scope level form ds ≡ []
    none_in scope level form no_elements h = refl
    none_in scope level form (element d ds) h = rw (none_at scope level form d h) (none_in scope level form ds h)

    none_among : (scope : Option ℕ) (level : ℕ) (form : Form) (ms : Members) → has_parts form ≡ false → nodes_among m scope level form ms ≡ []
    none_among scope level form no_members h = refl
    none_among scope level form (member k v ms) h =
        rw (none_at scope (level_under form (form_at form k) level) (form_at form k) v (part_plain form k h)) (none_among scope level form ms h)

pub no_parts : (m : Mapping) (scope : Option ℕ) (level : ℕ) (form : Form) (ms : Members) → has_parts form ≡ false → nodes_among m scope level form ms ≡ []
no_parts m scope level form ms h = none_among m scope level form ms h

pub ruleset partless = (no_parts)
