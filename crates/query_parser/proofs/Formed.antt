-- What has its form has its parts in theirs: members, numbers, and the values that are asked for.
use Rattle.std.proofs.Common.{◌≡◌, ℕ, ◌≤◌, List as Seq, ◌∷◌, pos, Bool, true, ◌&&◌, Option, Some, None, refl, sym, ap, ◌∙◌, subst, arith, bytes_eq, codes, int_le, nat_le, if◌then◌else◌}
use Rattle.std.proofs.lemmas.Bool.{and_parts, leb-true, false≢true}
use Rattle.std.proofs.lemmas.Slice.Eq.{bytes_eq-Decides}
use Rattle.tree_json.specs.Value.{JsonValue, null, bool, whole, text, list, object, Members, no_members, member, member_of}
use Rattle.query_ast.specs.Resolved.{IsBoost, IsUpTo}
use Rattle.search_form.specs.declared.form.Form.{Form}
use Rattle.search_form.specs.declared.form.Form.TheVariants.{Boost, Positive, BucketCount, HasChild}
use Rattle.search_form.specs.declared.form.Presence.{Presence}
use Rattle.search_form.specs.declared.form.Presence.TheVariants.{Choice, Required, Optional}
use Rattle.search_form.specs.Table.{apart_in, single_of, is_between, is_from}
use Rattle.search_form.specs.Form.{line_at, form_at, has, is_choice, chosen, has_required, has_its_choice, are_apart, fits, suits_by, suits, allows_inner, has_form, each_has_form, children_fit}
use Rattle.mapping.specs.Mapping.{Mapping}
use Rattle.search_walk.specs.Node.{nodes_at, nodes_among, level_under}
use Rattle.query_parser.specs.Queries.{least_of}
use Rattle.query_parser.specs.Readings.{natural_of, natural_under, up_to, boost_in, boost_of}
use Rattle.query_parser.proofs.Faults.{Clean, clean_parts}
use Rattle.query_parser.proofs.Found.{by_test}

pub member_formed : (inner : Bool) (form : Form) (name : Seq ℕ) (ms : Members) (d : JsonValue) → each_has_form inner form ms ≡ true → member_of ms name ≡ Some d → has_form inner (form_at form name) d ≡ true
member_formed inner form name no_members d h e = cc
member_formed inner form name (member k v ms) d h e =
    let parts = and_parts (has_form inner (form_at form k) v) (each_has_form inner form ms) h in
    by_test (bytes_eq k name)
    (λ same.
    let one : Some v ≡ Some d = rw same at e in
    let is : v ≡ d = cc in
    let named : k ≡ name = (bytes_eq-Decides k name).0 same in
    subst (λ n. has_form inner (form_at form n) d ≡ true) named (subst (λ x. has_form inner (form_at form k) x ≡ true) is parts.0))
    (λ other. member_formed inner form name ms d parts.1 (rw other at e))

-- the choice of an object stands under its name, in the form of that
pub record IsChosen (inner : Bool) (form : Form) (ms : Members) (c : Seq ℕ × Form × JsonValue) : Type 0 where
  pub line : line_at form c.0 ≡ (Choice, c.1)
  pub formed : has_form inner c.1 c.2 ≡ true
  pub there : member_of ms c.0 ≡ Some c.2

abbrev paired : Presence → Form → Presence × Form
paired a f = (a, f)

is_the_choice : (a : Presence) → is_choice a ≡ true → a ≡ Choice
is_the_choice Choice h = refl
is_the_choice Required h = cc
is_the_choice Optional h = cc

choice_is : (p : Presence × Form) → is_choice p.0 ≡ true → p ≡ (Choice, p.1)
choice_is p h = ap (λ (a : Presence). paired a p.1) (is_the_choice p.0 h)

pub chosen_formed : (inner : Bool) (form : Form) (ms : Members) (c : Seq ℕ × Form × JsonValue) → each_has_form inner form ms ≡ true → chosen form ms ≡ Some c → IsChosen inner form ms c
chosen_formed inner form no_members c h e = cc
chosen_formed inner form (member k v ms) c h e =
    let parts = and_parts (has_form inner (form_at form k) v) (each_has_form inner form ms) h in
    by_test (is_choice (line_at form k).0)
    (λ held.
    let here : Seq ℕ × Form × JsonValue = (k, (line_at form k).1, v) in
    let one : Some here ≡ Some c = rw held at e in
    let same : here ≡ c = cc in
    let itself : bytes_eq k k ≡ true = (bytes_eq-Decides k k).1 refl in
    subst (IsChosen inner form (member k v ms)) same (record { line = choice_is (line_at form k) held; formed = parts.0; there = rw itself }))
    (λ failed.
    let more = chosen_formed inner form ms c parts.1 (rw failed at e) in
    let there : member_of (member k v ms) c.0 ≡ Some c.2 = by_test (bytes_eq k c.0)
    (λ same.
    let named : k ≡ c.0 = (bytes_eq-Decides k c.0).0 same in
    let choice : is_choice (line_at form k).0 ≡ true = subst (λ n. is_choice (line_at form n).0 ≡ true) (sym named) (ap (λ (p : Presence × Form). is_choice p.0) more.line) in
    absurd (false≢true (sym failed ∙ choice)))
    (λ other. rw other more.there) in
    record { line = more.line; formed = more.formed; there = there })

-- ---- what an object as a whole has

abbrev pub has_parts : (inner : Bool) (form : Form) (lines : Seq (Seq ℕ × Presence × Form)) (ms : Members) → Type 0
has_parts inner form lines ms =
    (has_required lines ms ≡ true) × (has_its_choice form ms ≡ true) × (are_apart (apart_in form) ms ≡ true) × (fits inner form ms ≡ true)

pub suits_parts : (inner : Bool) (form : Form) (lines : Seq (Seq ℕ × Presence × Form)) (ms : Members) → suits_by (Some lines) inner form ms ≡ true → has_parts inner form lines ms
suits_parts inner form lines ms h =
    let a = and_parts (has_required lines ms) (has_its_choice form ms && (are_apart (apart_in form) ms && fits inner form ms)) h in
    let b = and_parts (has_its_choice form ms) (are_apart (apart_in form) ms && fits inner form ms) a.1 in
    let c = and_parts (are_apart (apart_in form) ms) (fits inner form ms) b.1 in
    (a.0, b.0, c.0, c.1)

pub first_required : (name : Seq ℕ) (form : Form) (lines : Seq (Seq ℕ × Presence × Form)) (ms : Members) → has_required ((name, Required, form) ∷ lines) ms ≡ true → has ms name ≡ true
first_required name form lines ms h = (and_parts (has ms name) (has_required lines ms) h).0

-- ---- numbers

-- what stands there, if anything does, passes a test
abbrev pub IfThere : (JsonValue → Bool) → Option JsonValue → Type 0
IfThere test o = (d : JsonValue) → o ≡ Some d → test d ≡ true

within : (default n : ℕ) → 1 ≤ default → default ≤ 10_000 → 1 ≤ n → (1 ≤ (if nat_le n 10_000 then n else default)) × ((if nat_le n 10_000 then n else default) ≤ 10_000)
within default n low high least =
    by_test (nat_le n 10_000)
    (λ held. let most : n ≤ 10_000 = leb-true n 10_000 held in rw held (least, most))
    (λ failed. rw failed (low, high))

pub number_within : (default : ℕ) (o : Option JsonValue) → 1 ≤ default → default ≤ 10_000 → IfThere (is_between (pos 1) (pos 10_000)) o → (1 ≤ up_to 10_000 default (natural_of o)) × (up_to 10_000 default (natural_of o) ≤ 10_000)
number_within default None low high h = (low, high)
number_within default (Some (whole (pos n))) low high h =
    within default n low high (leb-true 1 n (and_parts (int_le (pos 1) (pos n)) (int_le (pos n) (pos 10_000)) (h (whole (pos n)) refl)).0)
number_within default (Some v) low high h = (low, high)

boost_taken : (inner : Bool) (d : JsonValue) → has_form inner Boost d ≡ true → is_between (pos 1) (pos 10_000) d ≡ true
boost_taken inner null h = h
boost_taken inner (bool b) h = h
boost_taken inner (whole z) h = h
boost_taken inner (text s) h = h
boost_taken inner (list ds) h = h
boost_taken inner (object ms) h = h

pub count_taken : (inner : Bool) (d : JsonValue) → has_form inner BucketCount d ≡ true → is_between (pos 1) (pos 10_000) d ≡ true
count_taken inner null h = h
count_taken inner (bool b) h = h
count_taken inner (whole z) h = h
count_taken inner (text s) h = h
count_taken inner (list ds) h = h
count_taken inner (object ms) h = h

positive_taken : (inner : Bool) (d : JsonValue) → has_form inner Positive d ≡ true → is_from (pos 1) d ≡ true
positive_taken inner null h = h
positive_taken inner (bool b) h = h
positive_taken inner (whole z) h = h
positive_taken inner (text s) h = h
positive_taken inner (list ds) h = h
positive_taken inner (object ms) h = h

pub one_is_boost : IsBoost 1
one_is_boost = (omega arith, omega arith)

pub boost_is : (inner : Bool) (form : Form) (ms : Members) → form_at form (codes "boost") ≡ Boost → each_has_form inner form ms ≡ true → IsBoost (boost_in ms)
boost_is inner form ms line h =
    number_within 1 (member_of ms (codes "boost")) (omega arith) (omega arith)
    (λ d e. boost_taken inner d (subst (λ f. has_form inner f d ≡ true) line (member_formed inner form (codes "boost") ms d h e)))

-- of a form that isn't one of lists
pub boost_under : (inner : Bool) (form : Form) (v : JsonValue) → form_at form (codes "boost") ≡ Boost → single_of form ≡ form → has_form inner form v ≡ true → IsBoost (boost_of v)
boost_under inner form (object ms) line single h =
    let whole_form : (suits inner form ms && each_has_form (allows_inner inner form ms) form ms) ≡ true = subst (λ f. (suits inner f ms && each_has_form (allows_inner inner f ms) f ms) ≡ true) single h in
    boost_is (allows_inner inner form ms) form ms line (and_parts (suits inner form ms) (each_has_form (allows_inner inner form ms) form ms) whole_form).1
boost_under inner form null line single h = one_is_boost
boost_under inner form (bool b) line single h = one_is_boost
boost_under inner form (whole z) line single h = one_is_boost
boost_under inner form (text s) line single h = one_is_boost
boost_under inner form (list ds) line single h = one_is_boost

-- ---- how many children

least_at : (o : Option JsonValue) → IfThere (is_from (pos 1)) o → 1 ≤ least_of (natural_of o)
least_at None h = omega arith
least_at (Some (whole (pos n))) h = leb-true 1 n (h (whole (pos n)) refl)
least_at (Some v) h = omega arith

most_at : (most least : Option JsonValue) → IfThere (is_from (pos 1)) most → children_fit least most ≡ true → IsUpTo (least_of (natural_of least)) (natural_of most)
most_at (Some (whole (pos n))) (Some (whole (pos k))) there h = leb-true k n h
most_at (Some (whole (pos n))) least there h = leb-true 1 n (there (whole (pos n)) refl)
most_at most least there h = tt

pub children_are : (inner : Bool) (ms : Members) → each_has_form inner HasChild ms ≡ true → children_fit (member_of ms (codes "min_children")) (member_of ms (codes "max_children")) ≡ true
    → (1 ≤ least_of (natural_under ms (codes "min_children"))) × IsUpTo (least_of (natural_under ms (codes "min_children"))) (natural_under ms (codes "max_children"))
children_are inner ms h fit = (
  least_at (member_of ms (codes "min_children")) (λ d e. positive_taken inner d (member_formed inner HasChild (codes "min_children") ms d h e)),
  most_at (member_of ms (codes "max_children")) (member_of ms (codes "min_children")) (λ d e. positive_taken inner d (member_formed inner HasChild (codes "max_children") ms d h e)) fit,
)

-- ---- parts that aren't refused

pub member_clean : (m : Mapping) (scope : Option ℕ) (level : ℕ) (form : Form) (name : Seq ℕ) (ms : Members) (d : JsonValue) → Clean m (nodes_among m scope level form ms) → member_of ms name ≡ Some d
    → Clean m (nodes_at m scope (level_under form (form_at form name) level) (form_at form name) d)
member_clean m scope level form name no_members d h e = cc
member_clean m scope level form name (member k v ms) d h e =
    let parts = clean_parts m (nodes_at m scope (level_under form (form_at form k) level) (form_at form k) v) (nodes_among m scope level form ms) h in
    by_test (bytes_eq k name)
    (λ same.
    let one : Some v ≡ Some d = rw same at e in
    let is : v ≡ d = cc in
    let named : k ≡ name = (bytes_eq-Decides k name).0 same in
    subst (λ n. Clean m (nodes_at m scope (level_under form (form_at form n) level) (form_at form n) d)) named
    (subst (λ x. Clean m (nodes_at m scope (level_under form (form_at form k) level) (form_at form k) x)) is parts.0))
    (λ other. member_clean m scope level form name ms d parts.1 (rw other at e))
