-- Every write that is asked for has an id, and its sources are objects; every search that is asked for has a search body; a merge
-- at once leaves a segment or more, factors are from 2 to 10, and a compaction moves from 1 to 1,000.
use Rattle.std.proofs.Common.{◌≡◌, ◌≤◌, ◌<◌, ℕ, zero, suc, ◌/◌, ◌%◌, ◌==◌, pos, negsuc, true, false, Bool, not, cond, List, [], ◌∷◌, length, codes, decimal, Option, Some, None, is_some, IfSome, option_and_then, option_map, unwrap_or, refl, sym, ap, subst, nat_le, if◌then◌else◌, arith}
use Rattle.std.proofs.lemmas.Bool.{and_parts}
use Rattle.std.proofs.lemmas.Bool.Decides.{nat_tests}
use Rattle.std.proofs.lemmas.Slice.Eq.{bytes_eq-Decides}
use Rattle.std.specs.Fmt.{digits, digits_onto, digit_glyph}
use Rattle.std.specs.Str.{bytes_eq}
use Rattle.line_reader.specs.Request.{ReadLine, in_full, too_long, SourceLine, not_taken, missing, given}
use Rattle.tree_json.specs.Levels.{levels, members_levels, most_levels}
use Rattle.tree_json.specs.Reading.{Reading, reading, bad_json, fraction, value}
use Rattle.tree_json.specs.Value.{JsonValue, null, bool, whole, text, list, object, Members, no_members, member, member_of, is_object}
use Rattle.request_form.specs.declared.form.Form.{Form}
use Rattle.request_form.specs.declared.form.Name.{Name}
use Rattle.request_form.specs.declared.form.Presence.{Presence}
use Rattle.request_form.specs.Asked.{Asked, asked_in, asked_by, asked_of, asks, refused, asks_or_bad, sourced, operation_of, update_in, changes_of, is_at_odds, SourceValue, no_value, is_value, value_in, value_of}
use Rattle.request_form.specs.Command.{Target, Write, Action, Operation, index, create, update, delete, Command, alone, indexes, creates, updates, if_formed, id_by, id_in, flag_in, number_by, number_or, target_of, part_of, part_in, command_by, command_under, command_named, command_in, command_of, name_among}
use Rattle.request_form.specs.Command as asked
use Rattle.request_form.specs.Form.{are_taken, is_taken, has_required, has_lines, members_in, single_of}
use Rattle.request_form.specs.Formed.{AreMoves, IsFactor, IsFormed, HasSources, IsSourceValue}
use Rattle.search_form.specs.Form.{is_search_body}
use Rattle.request_form.specs.Table.{names, is_between, is_from, is_id, automerge_lines, compact_lines, create_lines, force_merge_lines, write_lines, update_lines}

-- ---- what comes out of an option

formed_if : {A : Type 0} (b : Bool) (it c : A) → if_formed b it ≡ Some c → (b ≡ true) × (it ≡ c)
formed_if true it c e = (refl, ap (λ o. unwrap_or o it) e)
formed_if false it c e = absurd (cc)

some_of : {A B : Type 0} (f : A → Option B) (o : Option A) (c : B) → option_and_then f o ≡ Some c → (x : A) × (o ≡ Some x) × (f x ≡ Some c)
some_of f None c e = absurd (cc)
some_of f (Some x) c e = (x, refl, e)

mapped_of : {A B : Type 0} (f : A → B) (o : Option A) (c : B) → option_map f o ≡ Some c → (x : A) × (o ≡ Some x) × (f x ≡ c)
mapped_of f None c e = absurd (cc)
mapped_of f (Some x) c e = (x, refl, ap (λ o. unwrap_or o (f x)) e)

-- ---- objects that have the names of a table

abbrev Lines : Type 0
Lines = List (List ℕ × Presence × Form)

taken_at : (lines : Lines) (ms : Members) (name : List ℕ) (v : JsonValue) → are_taken lines ms ≡ true → member_of ms name ≡ Some v → is_taken lines name v ≡ true
taken_at lines no_members name v all there = absurd (cc)
taken_at lines (member k d ms) name v all there =
    let parts = and_parts (is_taken lines k d) (are_taken lines ms) all in
    elim (bytes_eq k name) as (λ b. bytes_eq k name ≡ b → cond b (Some d) (member_of ms name) ≡ Some v → is_taken lines name v ≡ true) [
      | true ↦ λ same here. subst (λ n. is_taken lines n v ≡ true) ((bytes_eq-Decides k name).0 same) (subst (λ w. is_taken lines k w ≡ true) (ap (λ o. unwrap_or o d) here) parts.0)
      | false ↦ λ other here. taken_at lines ms name v parts.1 here
    ] refl there

-- ---- ids

either_some : (b : Bool) (x : ℕ) (xs ys : List ℕ) → 0 < length ys → 0 < length (cond b (x ∷ xs) ys)
either_some true x xs ys some = omega arith
either_some false x xs ys some = some

digits_onto_some : (k n x : ℕ) (acc : List ℕ) → 0 < length (digits_onto k 10 false n (x ∷ acc))
digits_onto_some zero n x acc = omega arith
digits_onto_some (suc k) n x acc = let d = digit_glyph false (n % 10) in either_some (n / 10 == 0) d (x ∷ acc) _ (digits_onto_some k (n / 10) d (x ∷ acc))

decimal_some : (n : ℕ) → 0 < length (decimal n)
unfolding digits
decimal_some n = let d = digit_glyph false (n % 10) in either_some (n / 10 == 0) d [] (digits_onto 63 10 false (n / 10) (d ∷ [])) (digits_onto_some 63 (n / 10) d [])

id_some : (v : JsonValue) → is_id v ≡ true → 1 ≤ length (id_by v)
id_some null h = absurd (cc)
id_some (bool b) h = absurd (cc)
id_some (whole (pos n)) h = decimal_some n
id_some (whole (negsuc n)) h = absurd (cc)
id_some (text []) h = absurd (cc)
id_some (text (x ∷ s)) h = omega arith
id_some (list ds) h = absurd (cc)
id_some (object ms) h = absurd (cc)

id_named : (o : Option JsonValue) → is_some o ≡ true → ((v : JsonValue) → o ≡ Some v → is_id v ≡ true) → 1 ≤ length (id_in o)
id_named None some all = absurd (cc)
id_named (Some v) some all = id_some v (all v refl)

write_id : (ms : Members) → has_lines write_lines ms ≡ true → 1 ≤ length (target_of ms).id
write_id ms h =
    let p = and_parts (has_required write_lines ms) (are_taken write_lines ms) h in
    let id = member_of ms (codes "_id") in
    id_named id (and_parts (is_some id) true p.0).0 (λ v there. taken_at write_lines ms (codes "_id") v p.1 there)

create_id : (ms : Members) → has_lines create_lines ms ≡ true → 1 ≤ length (target_of ms).id
create_id ms h =
    let p = and_parts (has_required create_lines ms) (are_taken create_lines ms) h in
    let id = member_of ms (codes "_id") in
    id_named id (and_parts (is_some id) true p.0).0 (λ v there. taken_at create_lines ms (codes "_id") v p.1 there)

-- ---- numbers

positive_by : (v : JsonValue) → is_from (pos 1) v ≡ true → 0 < unwrap_or (number_by v) 1
positive_by null h = absurd (cc)
positive_by (bool b) h = absurd (cc)
positive_by (whole (pos n)) h = grind (arith, nat_tests)
positive_by (whole (negsuc n)) h = absurd (cc)
positive_by (text s) h = absurd (cc)
positive_by (list ds) h = absurd (cc)
positive_by (object ms) h = absurd (cc)

positive_in : (o : Option JsonValue) → ((v : JsonValue) → o ≡ Some v → is_from (pos 1) v ≡ true) → 0 < unwrap_or (option_and_then number_by o) 1
positive_in None all = omega arith
positive_in (Some v) all = positive_by v (all v refl)

most_positive : (ms : Members) → has_lines force_merge_lines ms ≡ true → 0 < number_or 1 ms (codes "max_num_segments")
most_positive ms h =
    let p = and_parts (has_required force_merge_lines ms) (are_taken force_merge_lines ms) h in
    positive_in (member_of ms (codes "max_num_segments")) (λ v there. taken_at force_merge_lines ms (codes "max_num_segments") v p.1 there)

factor_by : (v : JsonValue) → is_between (pos 2) (pos 10) v ≡ true → IsFactor (unwrap_or (number_by v) 2)
factor_by null h = absurd (cc)
factor_by (bool b) h = absurd (cc)
factor_by (whole (pos n)) h = let p = and_parts (nat_le 2 n) (nat_le n 10) h in (grind (arith, nat_tests), grind (arith, nat_tests))
factor_by (whole (negsuc n)) h = absurd (cc)
factor_by (text s) h = absurd (cc)
factor_by (list ds) h = absurd (cc)
factor_by (object ms) h = absurd (cc)

factor_in : (o : Option JsonValue) → ((v : JsonValue) → o ≡ Some v → is_between (pos 2) (pos 10) v ≡ true) → IsFactor (unwrap_or (option_and_then number_by o) 2)
factor_in None all = (omega arith, omega arith)
factor_in (Some v) all = factor_by v (all v refl)

factor_if : (on : Bool) (factor : ℕ) → IsFactor factor → IfSome (cond on (Some factor) None) IsFactor
factor_if true factor is = is
factor_if false factor is = tt

factor_formed : (ms : Members) → has_lines automerge_lines ms ≡ true → IfSome (if flag_in (member_of ms (codes "on")) then Some (number_or 2 ms (codes "factor")) else None) IsFactor
factor_formed ms h =
    let p = and_parts (has_required automerge_lines ms) (are_taken automerge_lines ms) h in
    factor_if (flag_in (member_of ms (codes "on"))) (number_or 2 ms (codes "factor"))
    (factor_in (member_of ms (codes "factor")) (λ v there. taken_at automerge_lines ms (codes "factor") v p.1 there))

moves_by : (v : JsonValue) → is_between (pos 1) (pos 1000) v ≡ true → AreMoves (unwrap_or (number_by v) 1)
moves_by null h = absurd (cc)
moves_by (bool b) h = absurd (cc)
moves_by (whole (pos n)) h = let p = and_parts (nat_le 1 n) (nat_le n 1000) h in (grind (arith, nat_tests), grind (arith, nat_tests))
moves_by (whole (negsuc n)) h = absurd (cc)
moves_by (text s) h = absurd (cc)
moves_by (list ds) h = absurd (cc)
moves_by (object ms) h = absurd (cc)

moves_in : (o : Option JsonValue) → ((v : JsonValue) → o ≡ Some v → is_between (pos 1) (pos 1000) v ≡ true) → AreMoves (unwrap_or (option_and_then number_by o) 1)
moves_in None all = (omega arith, omega arith)
moves_in (Some v) all = moves_by v (all v refl)

moves_formed : (ms : Members) → has_lines compact_lines ms ≡ true → AreMoves (number_or 1 ms (codes "moves"))
moves_formed ms h =
    let p = and_parts (has_required compact_lines ms) (are_taken compact_lines ms) h in
    moves_in (member_of ms (codes "moves")) (λ v there. taken_at compact_lines ms (codes "moves") v p.1 there)

-- ---- commands

abbrev ActionIsFormed : Action → Type 0
ActionIsFormed (asked.write it) = IsFormed it
ActionIsFormed (asked.search body) = is_search_body body ≡ true
ActionIsFormed (asked.force_merge most) = 0 < most
ActionIsFormed (asked.compact moves) = AreMoves moves
ActionIsFormed (asked.automerge factor) = IfSome factor IsFactor
ActionIsFormed action = Unit {0}

abbrev CommandIsFormed : Command → Type 0
CommandIsFormed (alone action) = ActionIsFormed action
CommandIsFormed (indexes target) = 1 ≤ length target.id
CommandIsFormed (creates target) = 1 ≤ length target.id
CommandIsFormed (updates target) = 1 ≤ length target.id

-- a part of a merge is no write
one_of : (b : Bool) (x y : Option Action) (a : Action) → (x ≡ Some a → ActionIsFormed a) → (y ≡ Some a → ActionIsFormed a) → cond b x y ≡ Some a → ActionIsFormed a
one_of true x y a first second e = first e
one_of false x y a first second e = second e

none_formed : (a : Action) → None ≡ Some a → ActionIsFormed a
none_formed a e = absurd (cc)

part_formed : (name : List ℕ) (ms : Members) (a : Action) → part_of name ms ≡ Some a → ActionIsFormed a
part_formed name ms a =
    one_of (bytes_eq name (codes "start")) _ _ a (λ e. subst ActionIsFormed (formed_if _ _ a e).1 tt)
    (one_of (bytes_eq name (codes "advance")) _ _ a (λ e. subst ActionIsFormed (formed_if _ _ a e).1 tt)
    (one_of (bytes_eq name (codes "finish")) _ _ a (λ e. subst ActionIsFormed (formed_if _ _ a e).1 tt)
    (one_of (bytes_eq name (codes "abort")) _ None a (λ e. subst ActionIsFormed (formed_if _ _ a e).1 tt) (none_formed a))))

merge_formed : (o : Option (List ℕ × JsonValue)) (a : Action) → part_in o ≡ Some a → ActionIsFormed a
merge_formed None a e = absurd (cc)
merge_formed (Some it) a e = let m = some_of (part_of it.0) (members_in it.1) a e in part_formed it.0 m.0 a m.2

by_name : (name : Name) (ms : Members) (c : Command) → command_by name ms ≡ Some c → CommandIsFormed c
by_name Name.Index ms c e = let f = formed_if _ _ c e in subst CommandIsFormed f.1 (write_id ms f.0)
by_name Name.Create ms c e = let f = formed_if _ _ c e in subst CommandIsFormed f.1 (create_id ms f.0)
by_name Name.Update ms c e = let f = formed_if _ _ c e in subst CommandIsFormed f.1 (write_id ms f.0)
by_name Name.Delete ms c e = let f = formed_if _ _ c e in subst CommandIsFormed f.1 (record { id = write_id ms f.0; sources = tt })
by_name Name.Mapping ms c e = subst CommandIsFormed (ap (λ o. unwrap_or o (alone (asked.map_body (object ms)))) e) tt
by_name Name.Search ms c e = let f = formed_if _ _ c e in subst CommandIsFormed f.1 f.0
by_name Name.Refresh ms c e = subst CommandIsFormed (formed_if _ _ c e).1 tt
by_name Name.Segments ms c e = subst CommandIsFormed (formed_if _ _ c e).1 tt
by_name Name.OpenPit ms c e = subst CommandIsFormed (formed_if _ _ c e).1 tt
by_name Name.ClosePit ms c e = subst CommandIsFormed (formed_if _ _ c e).1 tt
by_name Name.ForceMerge ms c e = let f = formed_if _ _ c e in subst CommandIsFormed f.1 (most_positive ms f.0)
by_name Name.Merge ms c e = let m = mapped_of alone (part_in (single_of ms)) c e in subst CommandIsFormed m.2 (merge_formed (single_of ms) m.0 m.1)
by_name Name.Commit ms c e = subst CommandIsFormed (formed_if _ _ c e).1 tt
by_name Name.Compact ms c e = let f = formed_if _ _ c e in subst CommandIsFormed f.1 (moves_formed ms f.0)
by_name Name.Trim ms c e = subst CommandIsFormed (formed_if _ _ c e).1 tt
by_name Name.Automerge ms c e = let f = formed_if _ _ c e in subst CommandIsFormed f.1 (factor_formed ms f.0)

under_formed : (ms : Members) (name : Option Name) (c : Command) → command_under ms name ≡ Some c → CommandIsFormed c
under_formed ms None c e = absurd (cc)
under_formed ms (Some name) c e = by_name name ms c e

in_formed : (o : Option (List ℕ × JsonValue)) (c : Command) → command_in o ≡ Some c → CommandIsFormed c
in_formed None c e = absurd (cc)
in_formed (Some it) c e = let m = some_of (command_named it.0) (members_in it.1) c e in under_formed m.0 (name_among it.0 names) c m.2

command_formed : (v : JsonValue) (c : Option Command) → command_of v ≡ c → IfSome c CommandIsFormed
unfolding command_of
command_formed v None e = tt
command_formed v (Some c) e = in_formed (option_and_then single_of (members_in v)) c e

-- ---- source lines

member_within : (ms : Members) (name : List ℕ) (v : JsonValue) → member_of ms name ≡ Some v → levels v ≤ members_levels ms
member_within no_members name v there = absurd (cc)
member_within (member k d ms) name v there =
    elim (bytes_eq k name) as (λ b. cond b (Some d) (member_of ms name) ≡ Some v → levels v ≤ members_levels (member k d ms)) [
      | true ↦ λ here. subst (λ w. levels w ≤ members_levels (member k d ms)) (ap (λ o. unwrap_or o d) here) (omega arith)
      | false ↦ λ here. omega (arith, member_within ms name v here)
    ] there

source_named : (o : Option JsonValue) → is_some o ≡ true → ((v : JsonValue) → o ≡ Some v → IsSourceValue v) → IsSourceValue (unwrap_or o null)
source_named None some all = absurd (cc)
source_named (Some v) some all = all v refl

source_if : (o : Option JsonValue) → ((v : JsonValue) → o ≡ Some v → IsSourceValue v) → IfSome o IsSourceValue
source_if None all = tt
source_if (Some v) all = all v refl

changes_sources : (ms : Members) → levels (object ms) ≤ most_levels → has_lines update_lines ms ≡ true → HasSources (update (changes_of ms))
changes_sources ms few h =
    let p = and_parts (has_required update_lines ms) (are_taken update_lines ms) h in
    let doc = member_of ms (codes "doc") in (
      source_named doc (and_parts (is_some doc) true p.0).0 (λ v there. (taken_at update_lines ms (codes "doc") v p.1 there, omega (arith, few, member_within ms (codes "doc") v there))),
      source_if (member_of ms (codes "upsert")) (λ v there. (taken_at update_lines ms (codes "upsert") v p.1 there, omega (arith, few, member_within ms (codes "upsert") v there))),
    )

update_if : (target : Target) (ms : Members) (op : Operation) → levels (object ms) ≤ most_levels → update_in target (Some ms) ≡ Some op → HasSources op
update_if target ms op few e =
    let f = formed_if _ _ op e in
    subst HasSources f.1 (changes_sources ms few (and_parts (has_lines update_lines ms) (not (is_at_odds target (changes_of ms))) f.0).0)

update_sources : (target : Target) (v : JsonValue) (op : Operation) → levels v ≤ most_levels → update_in target (members_in v) ≡ Some op → HasSources op
update_sources target null op few e = absurd (cc)
update_sources target (bool b) op few e = absurd (cc)
update_sources target (whole z) op few e = absurd (cc)
update_sources target (text s) op few e = absurd (cc)
update_sources target (list ds) op few e = absurd (cc)
update_sources target (object ms) op few e = update_if target ms op few e

operation_sources : (command : Command) (v : JsonValue) (op : Operation) → levels v ≤ most_levels → operation_of command v ≡ Some op → HasSources op
operation_sources (alone action) v op few e = absurd (cc)
operation_sources (indexes target) v op few e = let f = formed_if (is_object v) (index v) op e in subst HasSources f.1 (f.0, few)
operation_sources (creates target) v op few e = let f = formed_if (is_object v) (create v) op e in subst HasSources f.1 (f.0, few)
operation_sources (updates target) v op few e = update_sources target v op few e

-- what is read has few levels
abbrev ReadsFew : Type 0
ReadsFew = (bytes : List ℕ) (v : JsonValue) → reading bytes ≡ value v → levels v ≤ most_levels

value_read : (line : Reading) (v : JsonValue) → value_in line ≡ is_value v → line ≡ value v
value_read bad_json v e = absurd (cc)
value_read fraction v e = absurd (cc)
value_read (value w) v e = cc

source_few : (few : ReadsFew) (source : SourceLine) (v : JsonValue) → value_of source ≡ is_value v → levels v ≤ most_levels
source_few few not_taken v e = absurd (cc)
source_few few missing v e = absurd (cc)
source_few few (given too_long) v e = absurd (cc)
source_few few (given (in_full bytes)) v e = few bytes v (value_read (reading bytes) v e)

-- ---- what is asked for

abbrev action_in : Action → Asked → Action
action_in other (asks action) = action
action_in other (refused why) = other

abbrev write_in : Write → Action → Write
write_in other (asked.write it) = it
write_in other action = other

asked_write : (it : Write) (action : Action) → asks action ≡ asks (asked.write it) → action ≡ asked.write it
asked_write it action e = ap (action_in action) e

bad_formed : (o : Option Operation) (target : Target) (it : Write) → 1 ≤ length target.id → ((op : Operation) → o ≡ Some op → HasSources op) → asks_or_bad o target ≡ asks (asked.write it) → IsFormed it
bad_formed None target it id all e = absurd (cc)
bad_formed (Some op) target it id all e =
    let given : Write = record { target = target; operation = op } in
    subst IsFormed (ap (write_in given) (asked_write it (asked.write given) e)) (record { id = id; sources = all op refl })

sourced_formed : (command : Command) (target : Target) (source : SourceValue) (it : Write) → 1 ≤ length target.id → ((v : JsonValue) → source ≡ is_value v → levels v ≤ most_levels)
    → sourced command target source ≡ asks (asked.write it) → IsFormed it
sourced_formed command target (no_value why) it id few e = absurd (cc)
sourced_formed command target (is_value v) it id few e = bad_formed (operation_of command v) target it id (λ op. operation_sources command v op (few v refl)) e

by_formed : (few : ReadsFew) (c : Option Command) (source : SourceLine) (it : Write) → IfSome c CommandIsFormed → asked_by c source ≡ asks (asked.write it) → IsFormed it
by_formed few None source it formed e = absurd (cc)
by_formed few (Some (alone action)) source it formed e = subst ActionIsFormed (asked_write it action e) formed
by_formed few (Some (indexes target)) source it formed e = sourced_formed (indexes target) target (value_of source) it formed (source_few few source) e
by_formed few (Some (creates target)) source it formed e = sourced_formed (creates target) target (value_of source) it formed (source_few few source) e
by_formed few (Some (updates target)) source it formed e = sourced_formed (updates target) target (value_of source) it formed (source_few few source) e

in_formed_line : (few : ReadsFew) (line : Reading) (source : SourceLine) (it : Write) → asked_in line source ≡ asks (asked.write it) → IsFormed it
in_formed_line few bad_json source it e = absurd (cc)
in_formed_line few fraction source it e = absurd (cc)
in_formed_line few (value v) source it e = by_formed few (command_of v) source it (command_formed v (command_of v) refl) e

pub asked_formed : (few : ReadsFew) (first : ReadLine) (source : SourceLine) (it : Write) → asked_of first source ≡ asks (asked.write it) → IsFormed it
unfolding asked_of
asked_formed few too_long source it e = absurd (cc)
asked_formed few (in_full bytes) source it e = in_formed_line few (reading bytes) source it e

-- ---- what is no write

abbrev IsNoWrite : Action → Type 0
IsNoWrite (asked.write it) = ⊥
IsNoWrite action = Unit {0}

not_written : (o : Option Operation) (target : Target) (action : Action) → IsNoWrite action → asks_or_bad o target ≡ asks action → ⊥
not_written None target action none e = cc
not_written (Some op) target action none e = subst IsNoWrite (sym (ap (action_in action) e)) none

not_sourced : (command : Command) (target : Target) (source : SourceValue) (action : Action) → IsNoWrite action → sourced command target source ≡ asks action → ⊥
not_sourced command target (no_value why) action none e = cc
not_sourced command target (is_value v) action none e = not_written (operation_of command v) target action none e

alone_by : (c : Option Command) (source : SourceLine) (action : Action) → IsNoWrite action → IfSome c CommandIsFormed → asked_by c source ≡ asks action → ActionIsFormed action
alone_by None source action none formed e = absurd (cc)
alone_by (Some (alone own)) source action none formed e = subst ActionIsFormed (ap (action_in own) e) formed
alone_by (Some (indexes target)) source action none formed e = absurd (not_sourced (indexes target) target (value_of source) action none e)
alone_by (Some (creates target)) source action none formed e = absurd (not_sourced (creates target) target (value_of source) action none e)
alone_by (Some (updates target)) source action none formed e = absurd (not_sourced (updates target) target (value_of source) action none e)

alone_in : (line : Reading) (source : SourceLine) (action : Action) → IsNoWrite action → asked_in line source ≡ asks action → ActionIsFormed action
alone_in bad_json source action none e = absurd (cc)
alone_in fraction source action none e = absurd (cc)
alone_in (value v) source action none e = alone_by (command_of v) source action none (command_formed v (command_of v) refl) e

asked_alone : (first : ReadLine) (source : SourceLine) (action : Action) → IsNoWrite action → asked_of first source ≡ asks action → ActionIsFormed action
unfolding asked_of
asked_alone too_long source action none e = absurd (cc)
asked_alone (in_full bytes) source action none e = alone_in (reading bytes) source action none e

pub asked_search : (first : ReadLine) (source : SourceLine) (body : JsonValue) → asked_of first source ≡ asks (asked.search body) → is_search_body body ≡ true
asked_search first source body e = asked_alone first source (asked.search body) tt e

pub asked_force : (first : ReadLine) (source : SourceLine) (most : ℕ) → asked_of first source ≡ asks (asked.force_merge most) → 0 < most
asked_force first source most e = asked_alone first source (asked.force_merge most) tt e

pub asked_factor : (first : ReadLine) (source : SourceLine) (factor : ℕ) → asked_of first source ≡ asks (asked.automerge (Some factor)) → IsFactor factor
asked_factor first source factor e = asked_alone first source (asked.automerge (Some factor)) tt e

pub asked_moves : (first : ReadLine) (source : SourceLine) (moves : ℕ) → asked_of first source ≡ asks (asked.compact moves) → AreMoves moves
asked_moves first source moves e = asked_alone first source (asked.compact moves) tt e
