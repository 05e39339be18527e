-- The form of a search body: one recursion over JSON for all the tables.
use Rattle.std.specs.Prelude.{ℕ, ◌+◌, ◌==◌, ℤ, pos, max, Bool, true, false, ◌&&◌, ◌||◌, not, if◌then◌else◌, nat_le, int_le, List, [], ◌∷◌, codes, Option, Some, None, is_some}
use Rattle.std.specs.List.{list_all}
use Rattle.std.specs.Str.{bytes_eq}
use Rattle.tree_json.specs.Value.{JsonValue, null, bool, whole, text, list, object, Elements, no_elements, element, Members, no_members, member, member_of}
use Rattle.search_form.specs.declared.form.Form.{Form}
use Rattle.search_form.specs.declared.form.Form.TheVariants.{Body, InnerHits, ToChild, HasChild, HasParent, Queries, QueryList, ValueList, TextList, Sort, SearchAfter, Any}
use Rattle.search_form.specs.declared.form.Presence.{Presence}
use Rattle.search_form.specs.declared.form.Presence.TheVariants.{Required, Optional, Choice}
use Rattle.search_form.specs.Table.{lines_of, other_of, is_choice_of_one, apart_in, element_of, single_of, takes, is_whole, is_between}

-- ---- what stands under a name

abbrev pub line_among : List ℕ → List (List ℕ × Presence × Form) → Presence × Form → Presence × Form
line_among name [] other = other
line_among name (l ∷ lines) other = if bytes_eq name l.0 then (l.1, l.2) else line_among name lines other

abbrev pub line_in : Option (List (List ℕ × Presence × Form)) → List ℕ → Presence × Form → Presence × Form
line_in None name other = other
line_in (Some lines) name other = line_among name lines other

abbrev pub line_at : Form → List ℕ → Presence × Form
line_at form name = line_in (lines_of form) name (other_of form name)

abbrev pub form_at : Form → List ℕ → Form
form_at form name = (line_at form name).1

-- ---- an object as a whole

abbrev pub has : Members → List ℕ → Bool
has ms name = is_some (member_of ms name)

abbrev pub is_required : Presence → Bool
is_required Required = true
is_required Optional = false
is_required Choice = false

abbrev pub is_choice : Presence → Bool
is_choice Required = false
is_choice Optional = false
is_choice Choice = true

-- the first name of an object that is a choice, and what stands under it: the one that there is, where the form is met
abbrev pub chosen : Form → Members → Option (List ℕ × Form × JsonValue)
chosen form no_members = None
chosen form (member k d ms) = if is_choice (line_at form k).0 then Some (k, (line_at form k).1, d) else chosen form ms

abbrev pub has_required : List (List ℕ × Presence × Form) → Members → Bool
has_required lines ms = list_all (λ l. not (is_required l.1) || has ms l.0) lines

-- how many of an object's names are a choice
abbrev pub choice_count : Form → Members → ℕ
choice_count form no_members = 0
choice_count form (member k d ms) = (if is_choice (line_at form k).0 then 1 else 0) + choice_count form ms

abbrev pub has_its_choice : Form → Members → Bool
has_its_choice form ms = choice_count form ms == (if is_choice_of_one form then 1 else 0)

abbrev pub are_apart : List (List ℕ × List ℕ) → Members → Bool
are_apart pairs ms = list_all (λ p. not (has ms p.0 && has ms p.1)) pairs

-- a whole number, where there is one
abbrev pub whole_or : ℤ → Option JsonValue → ℤ
whole_or default None = default
whole_or default (Some (whole z)) = z
whole_or default (Some v) = default

-- at most the whole number, where there is one
abbrev pub is_within : ℤ → Option JsonValue → Bool
is_within least None = true
is_within least (Some (whole most)) = int_le least most
is_within least (Some v) = true

-- `min_children`, by default 1, is at most `max_children`, by default without bound
abbrev pub children_fit : Option JsonValue → Option JsonValue → Bool
children_fit least most = is_within (whole_or (pos 1) least) most

abbrev pub elements_length : Elements → ℕ
elements_length no_elements = 0
elements_length (element d ds) = 1 + elements_length ds

-- how many clauses a sort has: without one, or with an empty list, the score is the one
abbrev pub clause_count : Option JsonValue → ℕ
clause_count None = 1
clause_count (Some (list ds)) = max 1 (elements_length ds)
clause_count (Some v) = 1

abbrev pub starts_at_0 : Option JsonValue → Bool
starts_at_0 None = true
starts_at_0 (Some v) = is_between (pos 0) (pos 0) v

-- `search_after` has a key for each clause of the sort and a last one for the sequence number, and stands without a `from`
abbrev pub after_fits : Option JsonValue → Option JsonValue → Option JsonValue → Bool
after_fits (Some (list ds)) sort from = elements_length ds == clause_count sort + 1 && starts_at_0 from
after_fits after sort from = true

-- What names an object has together, but for its required names, its choice and its pairs. Inner hits stand only where
-- they can have a page, as `inner` says.
abbrev pub fits : Bool → Form → Members → Bool
fits inner Body ms = after_fits (member_of ms (codes "search_after")) (member_of ms (codes "sort")) (member_of ms (codes "from"))
fits inner HasChild ms = children_fit (member_of ms (codes "min_children")) (member_of ms (codes "max_children"))
fits inner InnerHits ms = inner
fits inner form ms = true

abbrev pub suits_by : Option (List (List ℕ × Presence × Form)) → Bool → Form → Members → Bool
suits_by None inner form ms = false
suits_by (Some lines) inner form ms =
    has_required lines ms && (has_its_choice form ms && (are_apart (apart_in form) ms && fits inner form ms))

abbrev pub suits : Bool → Form → Members → Bool
suits inner form ms = suits_by (lines_of form) inner form ms

-- Whether inner hits may stand inside an object: nowhere inside `to_child`, and inside a join clause only where it has
-- inner hits of its own, at any depth.
abbrev pub allows_inner : Bool → Form → Members → Bool
allows_inner inner ToChild ms = false
allows_inner inner HasChild ms = inner && has ms (codes "inner_hits")
allows_inner inner HasParent ms = inner && has ms (codes "inner_hits")
allows_inner inner form ms = inner

-- ---- a list as a whole

abbrev pub last_is_whole : Bool → Elements → Bool
last_is_whole before no_elements = before
last_is_whole before (element d ds) = last_is_whole (is_whole d) ds

-- the most clauses of a sort
abbrev pub most_clauses : ℕ
most_clauses = 16

abbrev pub suits_list : Form → Elements → Bool
suits_list Queries ds = true
suits_list QueryList ds = true
suits_list ValueList ds = true
suits_list TextList ds = true
suits_list Sort ds = nat_le (elements_length ds) most_clauses
suits_list SearchAfter ds = last_is_whole false ds
suits_list Any ds = true
suits_list form ds = false

-- ---- the form of a value

abbrev mutual
  pub has_form : Bool → Form → JsonValue → Bool
  has_form inner form null = takes (single_of form) null
  has_form inner form (bool b) = takes (single_of form) (bool b)
  has_form inner form (whole z) = takes (single_of form) (whole z)
  has_form inner form (text s) = takes (single_of form) (text s)
  has_form inner form (list ds) = suits_list form ds && all_have_form inner (element_of form) ds
  has_form inner form (object ms) =
      suits inner (single_of form) ms && each_has_form (allows_inner inner (single_of form) ms) (single_of form) ms

  pub all_have_form : Bool → Form → Elements → Bool
  all_have_form inner form no_elements = true
  all_have_form inner form (element d ds) = has_form inner form d && all_have_form inner form ds

  pub each_has_form : Bool → Form → Members → Bool
  each_has_form inner form no_members = true
  each_has_form inner form (member k d ms) = has_form inner (form_at form k) d && each_has_form inner form ms

-- the body of a search
unfoldable pub is_search_body : JsonValue → Bool
is_search_body body = has_form true Body body
