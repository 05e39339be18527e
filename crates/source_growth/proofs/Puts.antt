-- A property taken out of properties in byte order of their names, and put there.
use Rattle.std.proofs.Common.{◌≡◌, ◌<◌, ℕ, ◌==◌, List as Seq, [], ◌∷◌, ◌++◌, map, length, append-nil, refl, sym, ap, subst, arith, Bool, true, false, Option, Some, None, option_map, Ordering, Less, Equal, Greater, nat_cmp, is_eq, bytes_eq, cond, if◌then◌else◌, ◌∙◌, String, string_bytes}
use Rattle.std.proofs.lemmas.Cmp.{nat_list_cmp_total}
use Rattle.std.proofs.lemmas.Map.Lookups.{exact_bytes}
use Rattle.std.proofs.lemmas.Map.Text.{is_eq-slice_cmp}
use Rattle.std.specs.declared.alloc.Global.{Global}
use Rattle.std.specs.BTreeMap.{insert_entry, is_at}
use Rattle.std.specs.Cmp.Lexicographic.{slice_cmp}
use Rattle.std.specs.List.{AllByRecursion}
use Rattle.std.specs.List.Sorted.{IsStrictlySortedBy}
use Rattle.std.specs.Map.{keys_of, lookup, remove_entry}
use Rattle.std.specs.Ordering.{match_ordering, ordering_reverse}
use Rattle.std.specs.String.{string_cmp}
use Rattle.tree_json.proofs.Halves.{reversed}
use Rattle.tree_json.specs.Names.{IsAscending}
use Rattle.tree_json.specs.Value.{JsonValue, Members, no_members, member, members_of, member_of, value_size, members_size}
use Rattle.tree_json.specs.View.{entries}
use Rattle.tree_json.specs.declared.value.Json.{Json}
use Rattle.mapping_body.proofs.Walks.{members_positive, split}
use Rattle.source_growth.specs.Forms.{IsLeft, form_of, forms_of}
use Rattle.source_growth.specs.Growth.{put_member, form_after}
use Rattle.source_growth.specs.declared.found.Form.{Form}

abbrev Entry : Type 0
Entry = String Global × Form

abbrev compared : Seq ℕ → Seq ℕ → Ordering
compared = slice_cmp nat_cmp

abbrev members_with : Seq Entry → Members
members_with es = members_of (forms_of es)

-- ---- none

pub none_empty : (es : Seq Entry) → (length es == 0) ≡ true → members_with es ≡ no_members
none_empty [] h = refl
none_empty (e ∷ es) h = absurd (grind arith)

pub empty_none : (es : Seq Entry) → members_with es ≡ no_members → length es ≡ 0
empty_none [] h = refl
empty_none (e ∷ es) h = absurd (cc)

pub ruleset empties = (none_empty, empty_none)

-- ---- a form put

put_by : (e : Entry) (es more : Seq Entry) (k : String Global) (f : Form) → members_with more ≡ put_member (string_bytes k) (form_of f) (members_with es) → (r : Ordering)
    → members_with (match_ordering r ((k, f) ∷ e ∷ es) ((e.0, f) ∷ es) (e ∷ more))
    ≡ match_ordering r (member (string_bytes k) (form_of f) (members_with (e ∷ es))) (member (string_bytes e.0) (form_of f) (members_with es))
    (member (string_bytes e.0) (form_of e.1) (put_member (string_bytes k) (form_of f) (members_with es)))
put_by e es more k f h Less = refl
put_by e es more k f h Equal = refl
put_by e es more k f h Greater = ap (member (string_bytes e.0) (form_of e.1)) h

pub put_entry : (es : Seq Entry) (k : String Global) (f : Form) → members_with (insert_entry string_cmp es k f) ≡ put_member (string_bytes k) (form_of f) (members_with es)
put_entry [] k f = refl
put_entry (e ∷ es) k f = put_by e es (insert_entry string_cmp es k f) k f (put_entry es k f) (string_cmp k e.0)

pub ruleset puts_entry = (put_entry)

-- ---- a form taken out

abbrev is_named : Seq ℕ → String Global → Bool
is_named name = is_at (λ k. compared name (string_bytes k))

other_name : (k name : Seq ℕ) (r : Ordering) → compared name k ≡ r → bytes_eq k name ≡ is_eq (ordering_reverse r)
other_name k name r h = sym (is_eq-slice_cmp k name) ∙ ap is_eq (reversed name k r h)

same_reversed : (r : Ordering) → is_eq (ordering_reverse r) ≡ is_eq r
same_reversed Less = refl
same_reversed Equal = refl
same_reversed Greater = refl

same_name : (k name : Seq ℕ) → bytes_eq k name ≡ is_eq (compared name k)
same_name k name = other_name k name (compared name k) refl ∙ same_reversed (compared name k)

found_by : (same : Bool) (f : Form) (o : Option Form) (d : Option JsonValue) → option_map form_of o ≡ d → option_map form_of (cond same (Some f) o) ≡ (if same then Some (form_of f) else d)
found_by true f o d h = refl
found_by false f o d h = h

pub found_entry : (es : Seq Entry) (name : Seq ℕ) → option_map form_of (lookup (is_named name) es) ≡ member_of (members_with es) name
found_entry [] name = refl
found_entry (e ∷ es) name =
    rw (same_name (string_bytes e.0) name) (found_by (is_eq (compared name (string_bytes e.0))) e.1 (lookup (is_named name) es) (member_of (members_with es) name) (found_entry es name))

-- where all names come behind it

abbrev AllBehind : Seq ℕ → Seq Entry → Type 0
AllBehind name es = AllByRecursion (λ (k : String Global). compared name (string_bytes k) ≡ Less) (keys_of es)

behind_all : (name : Seq ℕ) (k : String Global) (es : Seq Entry) → compared name (string_bytes k) ≡ Less → AllByRecursion (λ y. string_cmp k y ≡ Less) (keys_of es) → AllBehind name es
behind_all name k [] less all = tt
behind_all name k (e ∷ es) less all = (nat_list_cmp_total.trans name (string_bytes k) (string_bytes e.0) less all.0, behind_all name k es less all.1)

behind_same : (name : Seq ℕ) (k : String Global) (es : Seq Entry) → name ≡ string_bytes k → AllByRecursion (λ y. string_cmp k y ≡ Less) (keys_of es) → AllBehind name es
behind_same name k es same all = subst (λ (n : Seq ℕ). AllBehind n es) (sym same) all

all_left : (name : Seq ℕ) (es : Seq Entry) → AllBehind name es → remove_entry (is_named name) es ≡ es
all_left name [] all = refl
all_left name (e ∷ es) all = rw all.0 (ap (λ (more : Seq Entry). e ∷ more) (all_left name es all.1))

put_first : (name : Seq ℕ) (d : JsonValue) (es : Seq Entry) → AllBehind name es → put_member name d (members_with es) ≡ member name d (members_with es)
put_first name d [] all = refl
put_first name d (e ∷ es) all = rw all.0 refl

-- what is put over a form that was taken out

left_by : (e : Entry) (es : Seq Entry) (name : Seq ℕ) (d : JsonValue) → AllByRecursion (λ y. string_cmp e.0 y ≡ Less) (keys_of es)
    → put_member name d (members_with (remove_entry (is_named name) es)) ≡ put_member name d (members_with es)
    → (r : Ordering) → compared name (string_bytes e.0) ≡ r
    → put_member name d (members_with (remove_entry (is_named name) (e ∷ es))) ≡ put_member name d (members_with (e ∷ es))
left_by e es name d above rest Less is = rw (is, is, all_left name es (behind_all name e.0 es is above)) refl
left_by e es name d above rest Equal is =
    let same : name ≡ string_bytes e.0 = exact_bytes name (string_bytes e.0) is in
    rw is (put_first name d es (behind_same name e.0 es same above) ∙ ap (λ (n : Seq ℕ). member n d (members_with es)) same)
left_by e es name d above rest Greater is = rw (is, is) (ap (member (string_bytes e.0) (form_of e.1)) rest)

put_left : (es : Seq Entry) (name : Seq ℕ) (d : JsonValue) → IsStrictlySortedBy string_cmp (keys_of es) → put_member name d (members_with (remove_entry (is_named name) es)) ≡ put_member name d (members_with es)
unfolding IsStrictlySortedBy
put_left [] name d up = refl
put_left (e ∷ es) name d up = left_by e es name d up.0 (put_left es name d up.1) (compared name (string_bytes e.0)) refl

none_left : (es : Seq Entry) (name : Seq ℕ) → member_of (members_with es) name ≡ None → remove_entry (is_named name) es ≡ es
none_left [] name none = refl
none_left (e ∷ es) name none =
    split (is_eq (compared name (string_bytes e.0)))
    (λ same. let some : Some (form_of e.1) ≡ None = rw (same_name (string_bytes e.0) name, same) at none in absurd (cc))
    (λ other. rw other (ap (λ (more : Seq Entry). e ∷ more) (none_left es name (rw (same_name (string_bytes e.0) name, other) at none))))

pub left_entries : (es rest : Seq Entry) (name : Seq ℕ) → IsStrictlySortedBy string_cmp (keys_of es) → rest ≡ remove_entry (is_named name) es
    → IsLeft name (member_of (members_with es) name) (members_with es) (members_with rest)
left_entries es rest name up is = record {
  none = λ none. ap members_with (is ∙ none_left es name none);
  puts = λ d. ap (λ (fs : Seq Entry). put_member name d (members_with fs)) is ∙ put_left es name d up;
}

-- the form that is put there in the end

pub put_over : (name : Seq ℕ) (taken : Option JsonValue) (d : JsonValue) (before after : Members) → IsLeft name taken before after → put_member name d after ≡ put_member name d before
put_over name taken d before after left = left.puts d

pub none_taken : (name : Seq ℕ) (taken : Option JsonValue) (before after : Members) → IsLeft name taken before after → taken ≡ None → after ≡ before
none_taken name taken before after left h = left.none h

pub none_over : (name : Seq ℕ) (first : Option JsonValue) (add : Members → Members) (taken : Option JsonValue) (before after : Members) → IsLeft name taken before after → form_after first add taken ≡ None → after ≡ before
none_over name first add None before after left h = left.none refl
none_over name first add (Some d) before after left h = absurd (cc)

pub ruleset puts = (put_over, none_taken, none_over)

-- ---- forms as a body has them

abbrev Pair : Type 0
Pair = Seq ℕ × Json

pub one_ascends : (e : Seq ℕ × JsonValue) → IsAscending (e ∷ [])
unfolding IsStrictlySortedBy
one_ascends e = (tt, tt)

pub two_ascend : (e f : Seq ℕ × JsonValue) → compared e.0 f.0 ≡ Less → IsAscending (e ∷ f ∷ [])
unfolding IsStrictlySortedBy
two_ascend e f less = ((less, tt), (tt, tt))

names_ascend : (es : Seq Entry) → IsStrictlySortedBy string_cmp (keys_of es) → IsAscending (forms_of es)
unfolding IsStrictlySortedBy
names_ascend [] up = tt
names_ascend (e ∷ es) up = (all_after e.0 es up.0, names_ascend es up.1)
  where
    all_after : (k : String Global) (es : Seq Entry) → AllByRecursion (λ y. string_cmp k y ≡ Less) (keys_of es) → AllByRecursion (λ y. compared (string_bytes k) y ≡ Less) (map (λ m. m.0) (forms_of es))
    all_after k [] all = tt
    all_after k (e ∷ es) all = (all.0, all_after k es all.1)

-- all that are written

written_all : (es : Seq Entry) (ms : Seq Pair) → forms_of es ≡ entries ms ++ [] → entries ms ≡ forms_of es
written_all es ms h = sym (append-nil (entries ms)) ∙ sym h

pub written_ascend : (es : Seq Entry) (ms : Seq Pair) → IsStrictlySortedBy string_cmp (keys_of es) → forms_of es ≡ entries ms ++ [] → IsAscending (entries ms)
written_ascend es ms up h = subst IsAscending (sym (written_all es ms h)) (names_ascend es up)

smaller_in : (done rest : Seq (Seq ℕ × JsonValue)) (m : Seq ℕ × JsonValue) → value_size m.1 < members_size (members_of (done ++ m ∷ rest))
smaller_in [] rest m = omega (arith, members_positive (members_of rest))
smaller_in (d ∷ done) rest m = omega (arith, smaller_in done rest m)

pub written_smaller : (es left : Seq Entry) (ms : Seq Pair) (k : String Global) (f : Form) → forms_of es ≡ entries ms ++ forms_of ((k, f) ∷ left) → value_size (form_of f) < members_size (members_of (forms_of es))
written_smaller es left ms k f h =
    subst (λ (fs : Seq (Seq ℕ × JsonValue)). value_size (form_of f) < members_size (members_of fs)) (sym h) (smaller_in (entries ms) (forms_of left) (string_bytes k, form_of f))
