-- One more member among members whose names ascend.
use Rattle.std.proofs.Common.{◌≡◌, ℕ, zero, suc, ◌+◌, ◌<◌, List as Seq, [], ◌∷◌, ◌++◌, map, length, take, get_or, set, refl, sym, ap, subst, arith, add-one, true, Option, Some, None, Ordering, Less, Equal, Greater, nat_cmp, is_lt, option_map, option_and_then}
use Rattle.std.proofs.lemmas.Cmp.{nat_list_cmp_total}
use Rattle.std.proofs.lemmas.Map.Lookups.{exact_bytes}
use Rattle.std.specs.BTreeMap.{insert_entry}
use Rattle.std.specs.Cmp.Lexicographic.{slice_cmp}
use Rattle.std.specs.List.{AllByRecursion, insert}
use Rattle.std.specs.List.Sorted.{IsStrictlySortedBy}
use Rattle.std.specs.Ordering.{match_ordering}
use Rattle.serde_json.specs.Data as source
use Rattle.tree_json.proofs.Halves.{after_at, reversed}
use Rattle.tree_json.specs.Names.{IsAscending}
use Rattle.tree_json.specs.Reading.{whole_value, whole_members}
use Rattle.tree_json.specs.Value.{JsonValue, Members, no_members, member, members_of}
use Rattle.tree_json.specs.View.{view, values, entries}
use Rattle.tree_json.specs.declared.value.Json.{Json}

abbrev compared : Seq ℕ → Seq ℕ → Ordering
compared = slice_cmp nat_cmp

abbrev Entry : Type 0
Entry = Seq ℕ × JsonValue

abbrev pub with_entry : Seq Entry → Seq ℕ → JsonValue → Seq Entry
with_entry = insert_entry compared

-- ---- the names still ascend

abbrev AllOf : (Seq ℕ → Type 0) → Seq Entry → Type 0
AllOf P es = AllByRecursion P (map (λ m. m.0) es)

all_after : (k l : Seq ℕ) (es : Seq Entry) → compared k l ≡ Less → AllOf (λ y. compared l y ≡ Less) es → AllOf (λ y. compared k y ≡ Less) es
all_after k l [] less all = tt
all_after k l (e ∷ es) less all = (nat_list_cmp_total.trans k l e.0 less all.0, all_after k l es less all.1)

all-with_entry : (l : Seq ℕ) (es : Seq Entry) (k : Seq ℕ) (v : JsonValue) → compared l k ≡ Less → AllOf (λ y. compared l y ≡ Less) es → AllOf (λ y. compared l y ≡ Less) (with_entry es k v)
all-with_entry l [] k v less all = (less, tt)
all-with_entry l (e ∷ es) k v less all = by (compared k e.0) (all-with_entry l es k v less all.1)
  where
    by : (r : Ordering) → AllOf (λ y. compared l y ≡ Less) (with_entry es k v) → AllOf (λ y. compared l y ≡ Less) (match_ordering r ((k, v) ∷ e ∷ es) ((e.0, v) ∷ es) (e ∷ with_entry es k v))
    by Less rest = (less, all)
    by Equal rest = (all.0, all.1)
    by Greater rest = (all.0, rest)

ascending_by : (e : Entry) (es : Seq Entry) (k : Seq ℕ) (v : JsonValue) → IsAscending (e ∷ es) → IsAscending (with_entry es k v) → (r : Ordering) → compared k e.0 ≡ r
    → IsAscending (match_ordering r ((k, v) ∷ e ∷ es) ((e.0, v) ∷ es) (e ∷ with_entry es k v))
unfolding IsStrictlySortedBy
ascending_by e es k v up rest Less less = ((less, all_after k e.0 es less up.0), up)
ascending_by e es k v up rest Equal same = (up.0, up.1)
ascending_by e es k v up rest Greater more = (all-with_entry e.0 es k v (reversed k e.0 Greater more) up.0, rest)

pub IsAscending-with_entry : (es : Seq Entry) (k : Seq ℕ) (v : JsonValue) → IsAscending es → IsAscending (with_entry es k v)
unfolding IsStrictlySortedBy
IsAscending-with_entry [] k v up = (tt, tt)
IsAscending-with_entry (e ∷ es) k v up = ascending_by e es k v up (IsAscending-with_entry es k v up.1) (compared k e.0) refl

pub none_ascend : IsAscending []
unfolding IsStrictlySortedBy
none_ascend = tt

-- ---- the data that was read gets the same member

parts : (o : Option JsonValue) (q : Option Members) (l : Seq ℕ) (m : Entry) (es : Seq Entry) → option_and_then (λ e. option_map (member l e) q) o ≡ Some (members_of (m ∷ es)) → (l ≡ m.0) × (o ≡ Some m.1) × (q ≡ Some (members_of es))
parts None q l m es h = absurd (cc)
parts (Some d) None l m es h = absurd (cc)
parts (Some d) (Some ms) l m es h = (cc, cc, cc)

not_empty : (o : Option JsonValue) (q : Option Members) (l : Seq ℕ) → option_and_then (λ e. option_map (member l e) q) o ≡ Some no_members → ⊥
not_empty None q l h = cc
not_empty (Some d) None l h = cc
not_empty (Some d) (Some ms) l h = cc

put_by : (l : Seq ℕ) (e : source.Data) (ms : source.Members) (m : Entry) (es : Seq Entry) (k : Seq ℕ) (d : source.Data) (v : JsonValue)
    → whole_members (source.member l e ms) ≡ Some (members_of (m ∷ es)) → whole_value d ≡ Some v
    → (l ≡ m.0) × (whole_value e ≡ Some m.1) × (whole_members ms ≡ Some (members_of es))
    → whole_members (source.put k d ms) ≡ Some (members_of (with_entry es k v))
    → (r : Ordering) → r ≡ compared k m.0
    → whole_members (match_ordering r (source.member k d (source.member l e ms)) (source.member l d ms) (source.member l e (source.put k d ms)))
    ≡ Some (members_of (match_ordering (compared k m.0) ((k, v) ∷ m ∷ es) ((m.0, v) ∷ es) (m ∷ with_entry es k v)))
put_by l e ms m es k d v h w is rest Less same = rw (← same, w) (rw h refl)
put_by l e ms m es k d v h w is rest Equal same = rw (← same, w, is.2, is.0) refl
put_by l e ms m es k d v h w is rest Greater same = rw (← same, rest, is.1, is.0) refl

pub whole_members-put : (old : source.Members) (es : Seq Entry) (k : Seq ℕ) (d : source.Data) (v : JsonValue) → whole_members old ≡ Some (members_of es) → whole_value d ≡ Some v
    → whole_members (source.put k d old) ≡ Some (members_of (with_entry es k v))
whole_members-put source.no_members [] k d v h w = rw w refl
whole_members-put source.no_members (m ∷ es) k d v h w = absurd (cc)
whole_members-put (source.member l e ms) [] k d v h w = absurd (not_empty (whole_value e) (whole_members ms) l h)
whole_members-put (source.member l e ms) (m ∷ es) k d v h w =
    let is = parts (whole_value e) (whole_members ms) l m es h in
    put_by l e ms m es k d v h w is (whole_members-put ms es k d v is.2 w) (compared k l) (ap (compared k) is.0)

-- ---- where it goes

abbrev Pair : Type 0
Pair = Seq ℕ × Json

pub entries-push : (ms : Seq Pair) (k : Seq ℕ) (j : Json) → entries (ms ++ (k, j) ∷ []) ≡ entries ms ++ (k, view j) ∷ []
entries-push [] k j = refl
entries-push (m ∷ ms) k j = ap (λ es. (m.0, view m.1) ∷ es) (entries-push ms k j)

pub values-push : (js : Seq Json) (j : Json) → values (js ++ j ∷ []) ≡ values js ++ view j ∷ []
values-push [] j = refl
values-push (i ∷ js) j = ap (λ ds. view i ∷ ds) (values-push js j)

pub entries-set : (ms : Seq Pair) (i : ℕ) (k : Seq ℕ) (j : Json) → entries (set ms i (k, j)) ≡ set (entries ms) i (k, view j)
entries-set [] i k j = refl
entries-set (m ∷ ms) zero k j = refl
entries-set (m ∷ ms) (suc i) k j = ap (λ es. (m.0, view m.1) ∷ es) (entries-set ms i k j)

pub entries-insert : (ms : Seq Pair) (i : ℕ) (k : Seq ℕ) (j : Json) → entries (insert ms i (k, j)) ≡ insert (entries ms) i (k, view j)
entries-insert ms zero k j = refl
entries-insert [] (suc i) k j = refl
entries-insert (m ∷ ms) (suc i) k j = ap (λ es. (m.0, view m.1) ∷ es) (entries-insert ms i k j)

pub ruleset entry_edits = (entries-push, entries-set, entries-insert)

-- after the last name
pub with_entry-last : (ms : Seq Pair) (i : ℕ) (m : Pair) (name : Seq ℕ) (v : JsonValue) → IsAscending (entries ms) → suc i ≡ length ms → m ≡ get_or ms i m → compared m.0 name ≡ Less
    → with_entry (entries ms) name v ≡ entries ms ++ (name, v) ∷ []
unfolding IsStrictlySortedBy
with_entry-last [] i m name v up h e less = absurd (omega arith)
with_entry-last (x ∷ []) zero m name v up h e less = rw (reversed x.0 name Less (subst (λ (p : Pair). compared p.0 name ≡ Less) e less)) refl
with_entry-last (x ∷ y ∷ ms) zero m name v up h e less = absurd (omega arith)
with_entry-last (x ∷ ms) (suc i) m name v up h e less =
    let more : suc i ≡ length ms = omega arith in
    let within : i < length ms = omega arith in
    let below = nat_list_cmp_total.trans x.0 m.0 name (after_at x.0 ms i m up.0 within e) less in
    rw (reversed x.0 name Less below) (ap (λ es. (x.0, view x.1) ∷ es) (with_entry-last ms i m name v up.1 more e less))

is_lt-Less : (o : Ordering) → is_lt o ≡ true → o ≡ Less
is_lt-Less Less e = refl
is_lt-Less Equal e = absurd (cc)
is_lt-Less Greater e = absurd (cc)

pub comes_last_is : (ms : Seq Pair) (i : ℕ) (m : Pair) (name : Seq ℕ) → IsAscending (entries ms) → i + 1 ≡ length ms → m ≡ get_or ms i m → is_lt (compared m.0 name) ≡ true
    → (v : JsonValue) → with_entry (entries ms) name v ≡ entries ms ++ (name, v) ∷ []
comes_last_is ms i m name up h e less v = let last : suc i ≡ length ms = omega arith in with_entry-last ms i m name v up last e (is_lt-Less _ less)

-- the names before place i come before the name
pub record IsPast (ms : Seq Pair) (name : Seq ℕ) (i : ℕ) : Type 0 where
  pub past : AllByRecursion (λ y. compared name y ≡ Greater) (map (λ m. m.0) (entries (take i ms)))

pub past_none : (ms : Seq Pair) (name : Seq ℕ) → IsPast ms name 0
past_none ms name = record { past = tt }

past_at : (ms : Seq Pair) (i : ℕ) (m : Pair) (name : Seq ℕ) → AllByRecursion (λ y. compared name y ≡ Greater) (map (λ m. m.0) (entries (take i ms))) → i < length ms → m ≡ get_or ms i m → compared name m.0 ≡ Greater
    → AllByRecursion (λ y. compared name y ≡ Greater) (map (λ m. m.0) (entries (take (suc i) ms)))
past_at [] i m name past h e greater = absurd (omega arith)
past_at (x ∷ ms) zero m name past h e greater = (subst (λ (p : Pair). compared name p.0 ≡ Greater) e greater, tt)
past_at (x ∷ ms) (suc i) m name past h e greater = let more : i < length ms = omega arith in (past.0, past_at ms i m name past.1 more e greater)

pub past_more : (ms : Seq Pair) (i : ℕ) (m : Pair) (name : Seq ℕ) → IsPast ms name i → i < length ms → m ≡ get_or ms i m → compared name m.0 ≡ Greater → IsPast ms name (i + 1)
past_more ms i m name before h e greater = record { past = rw add-one (past_at ms i m name before.past h e greater) }

with_entry_at : (ms : Seq Pair) (i : ℕ) (m : Pair) (name : Seq ℕ) (v : JsonValue) → AllByRecursion (λ y. compared name y ≡ Greater) (map (λ m. m.0) (entries (take i ms))) → i < length ms → m ≡ get_or ms i m → compared name m.0 ≡ Equal
    → with_entry (entries ms) name v ≡ set (entries ms) i (name, v)
with_entry_at [] i m name v past h e equal = absurd (omega arith)
with_entry_at (x ∷ ms) zero m name v past h e equal =
    let here = subst (λ (p : Pair). compared name p.0 ≡ Equal) e equal in
    rw here (ap (λ k. (k, v) ∷ entries ms) (sym (exact_bytes name x.0 here)))
with_entry_at (x ∷ ms) (suc i) m name v past h e equal =
    let more : i < length ms = omega arith in
    rw past.0 (ap (λ es. (x.0, view x.1) ∷ es) (with_entry_at ms i m name v past.1 more e equal))

with_entry_before : (ms : Seq Pair) (i : ℕ) (m : Pair) (name : Seq ℕ) (v : JsonValue) → AllByRecursion (λ y. compared name y ≡ Greater) (map (λ m. m.0) (entries (take i ms))) → i < length ms → m ≡ get_or ms i m → compared name m.0 ≡ Less
    → with_entry (entries ms) name v ≡ insert (entries ms) i (name, v)
with_entry_before [] i m name v past h e less = absurd (omega arith)
with_entry_before (x ∷ ms) zero m name v past h e less = rw (subst (λ (p : Pair). compared name p.0 ≡ Less) e less) refl
with_entry_before (x ∷ ms) (suc i) m name v past h e less =
    let more : i < length ms = omega arith in
    rw past.0 (ap (λ es. (x.0, view x.1) ∷ es) (with_entry_before ms i m name v past.1 more e less))

with_entry_end : (ms : Seq Pair) (i : ℕ) (name : Seq ℕ) (v : JsonValue) → AllByRecursion (λ y. compared name y ≡ Greater) (map (λ m. m.0) (entries (take i ms))) → i ≡ length ms
    → with_entry (entries ms) name v ≡ insert (entries ms) i (name, v)
with_entry_end [] zero name v past h = refl
with_entry_end [] (suc i) name v past h = absurd (omega arith)
with_entry_end (x ∷ ms) zero name v past h = absurd (omega arith)
with_entry_end (x ∷ ms) (suc i) name v past h =
    let more : i ≡ length ms = omega arith in
    rw past.0 (ap (λ es. (x.0, view x.1) ∷ es) (with_entry_end ms i name v past.1 more))

-- the three answers of a search
pub place_found : (ms : Seq Pair) (i : ℕ) (m : Pair) (name : Seq ℕ) → IsPast ms name i → i < length ms → m ≡ get_or ms i m → compared name m.0 ≡ Equal
    → (v : JsonValue) → with_entry (entries ms) name v ≡ set (entries ms) i (name, v)
place_found ms i m name before h e equal v = with_entry_at ms i m name v before.past h e equal

pub gap_found : (ms : Seq Pair) (i : ℕ) (m : Pair) (name : Seq ℕ) → IsPast ms name i → i < length ms → m ≡ get_or ms i m → compared name m.0 ≡ Less
    → (v : JsonValue) → with_entry (entries ms) name v ≡ insert (entries ms) i (name, v)
gap_found ms i m name before h e less v = with_entry_before ms i m name v before.past h e less

pub gap_at_end : (ms : Seq Pair) (i : ℕ) (name : Seq ℕ) → IsPast ms name i → i ≡ length ms
    → (v : JsonValue) → with_entry (entries ms) name v ≡ insert (entries ms) i (name, v)
gap_at_end ms i name before h v = with_entry_end ms i name v before.past h

pub ruleset places = (past_none, past_more, place_found, gap_found, gap_at_end)
