use Rattle.std.proofs.Common.{◌≡◌, ◌-◌, ◌<◌, to_z, of_z, to_z-of_z, w64, ◌∷◌, length, Some, None, arith}
use Rattle.json.specs.Json.{after_end_array, read_key, value}
use Rattle.json.specs.Reads.{token_of}
use Rattle.json.proofs.Grammar.{value_is, read_key-shorter, items_end, items_fail, items_more, members_end, members_no_key, members_fail, members_more}
use Rattle.tree_json.proofs.Insertion.{IsAscending-with_entry, none_ascend, values-push}
use Rattle.tree_json.proofs.SoFar.{list_begun, list_more, list_over, list_bad, object_begun, object_more, object_over, object_bad}
use Rattle.tree_json.proofs.Tokens.{said_text, said_bool, said_null, said_whole, said_list, said_object, bad_end, bad_list_level, bad_object_level, bad_list, bad_object}
use Rattle.tree_json.specs.View.{view, values, entries}
use Rattle.tree_json.proofs.quick.+quick.Goals as goal

-- ---- a value by its first token

pub read_value-returns-in_err-token-clause-bad : goal.read_value-returns-in_err-token-clause-bad
read_value-returns-in_err-token-clause-bad t c refused = bad_end c.args.depth c.args.reader.now (grind arith)

pub read_value-returns-then-depth-eq0-clause-bad : goal.read_value-returns-then-depth-eq0-clause-bad
read_value-returns-then-depth-eq0-clause-bad t c refused =
    let first : c.args.reader.now ≡ token_of c.in_ok-token.token ∷ c.next.new.self = grind arith in
    bad_list_level c.args.depth c.args.reader.now c.next.new.self (grind (arith, first)) (omega arith)

pub read_value-returns-then-depth-eq0-2-clause-bad : goal.read_value-returns-then-depth-eq0-2-clause-bad
read_value-returns-then-depth-eq0-2-clause-bad t c refused =
    let first : c.args.reader.now ≡ token_of c.in_ok-token.token ∷ c.next.new.self = grind arith in
    bad_object_level c.args.depth c.args.reader.now c.next.new.self (grind (arith, first)) (omega arith)

pub read_value-returns-in_err-read_list-in-BeginArray-clause-bad : goal.read_value-returns-in_err-read_list-in-BeginArray-clause-bad
read_value-returns-in_err-read_list-in-BeginArray-clause-bad t c refused =
    let first : c.args.reader.now ≡ token_of c.in_ok-token.token ∷ c.next.new.self = grind arith in
    bad_list c.args.depth c.args.reader.now c.next.new.self (grind (arith, first)) (omega arith) (c.read_list.ensures.bad (grind arith))

pub read_value-returns-in_err-read_object-in-BeginObject-clause-bad : goal.read_value-returns-in_err-read_object-in-BeginObject-clause-bad
read_value-returns-in_err-read_object-in-BeginObject-clause-bad t c refused =
    let first : c.args.reader.now ≡ token_of c.in_ok-token.token ∷ c.next.new.self = grind arith in
    bad_object c.args.depth c.args.reader.now c.next.new.self (grind (arith, first)) (omega arith) (c.read_object.ensures.bad (grind arith))

pub read_value-returns-in-EndObject-clause-bad : goal.read_value-returns-in-EndObject-clause-bad
read_value-returns-in-EndObject-clause-bad t c refused =
    let first : c.args.reader.now ≡ token_of c.in_ok-token.token ∷ c.next.new.self = grind arith in
    let none : value c.args.depth c.args.reader.now ≡ None = rw (value_is c.args.depth c.args.reader.now, first) (grind arith) in
    none

pub read_value-returns-in_ok-from_str-in-String-clause-ok : goal.read_value-returns-in_ok-from_str-in-String-clause-ok
read_value-returns-in_ok-from_str-in-String-clause-ok t c =
    let first : c.args.reader.now ≡ token_of c.in_ok-token.token ∷ c.next.new.self = grind arith in
    rw (c.of_string.ensures, c.in_ok-from_str-in-String.ensures.ok) (said_text c.args.depth c.args.reader.now c.next.new.self c.in-String.text.now (grind (arith, first)))

pub read_value-returns-in-Some-clause-ok : goal.read_value-returns-in-Some-clause-ok
read_value-returns-in-Some-clause-ok t c =
    let first : c.args.reader.now ≡ token_of c.in_ok-token.token ∷ c.next.new.self = grind arith in
    let same : to_z w64 (of_z w64 c.in-Some.number) ≡ c.in-Some.number = grind (arith, to_z-of_z) in
    rw same (said_whole c.args.depth c.args.reader.now c.next.new.self c.in-Number.text.now c.in-Some.number (grind (arith, first)) c.in-Some.ensures)

pub read_value-returns-in-Bool-clause-ok : goal.read_value-returns-in-Bool-clause-ok
read_value-returns-in-Bool-clause-ok t c =
    let first : c.args.reader.now ≡ token_of c.in_ok-token.token ∷ c.next.new.self = grind arith in
    said_bool c.args.depth c.args.reader.now c.next.new.self c.in-Bool.holds (grind (arith, first))

pub read_value-returns-in-Null-clause-ok : goal.read_value-returns-in-Null-clause-ok
read_value-returns-in-Null-clause-ok t c =
    let first : c.args.reader.now ≡ token_of c.in_ok-token.token ∷ c.next.new.self = grind arith in
    said_null c.args.depth c.args.reader.now c.next.new.self (grind (arith, first))

pub read_value-returns-in_ok-read_list-in-BeginArray-clause-ok : goal.read_value-returns-in_ok-read_list-in-BeginArray-clause-ok
read_value-returns-in_ok-read_list-in-BeginArray-clause-ok t c =
    let first : c.args.reader.now ≡ token_of c.in_ok-token.token ∷ c.next.new.self = grind arith in
    said_list c.args.depth c.args.reader.now c.next.new.self c.read_list.new.reader _ (grind (arith, first)) (omega arith) c.in_ok-read_list-in-BeginArray.ensures.ok

pub read_value-returns-in_ok-read_object-in-BeginObject-clause-ok : goal.read_value-returns-in_ok-read_object-in-BeginObject-clause-ok
read_value-returns-in_ok-read_object-in-BeginObject-clause-ok t c =
    let first : c.args.reader.now ≡ token_of c.in_ok-token.token ∷ c.next.new.self = grind arith in
    said_object c.args.depth c.args.reader.now c.next.new.self c.read_object.new.reader _ (grind (arith, first)) (omega arith) c.in_ok-read_object-in-BeginObject.ensures.ok

-- ---- the elements of a list

pub read_list-elements-init : goal.read_list-elements-init
read_list-elements-init t c = (length c.args.reader.now, omega arith, rw c.new-elements.ensures.items (list_begun _), omega arith)

pub read_list-returns-in_err-element-clause-bad : goal.read_list-returns-in_err-element-clause-bad
read_list-returns-in_err-element-clause-bad t c refused =
    let l = c.elements in
    let n = l.invariant.0 in
    let going : (after_end_array l.reader ≡ None) × (c.take_end_array.new.self ≡ l.reader) = grind arith in
    list_bad _ _ (values l.elements.items) l.invariant.2 (items_fail (value c.args.depth) n l.reader going.0 (rw (← going.1) (c.read_value.ensures.bad (grind arith))))

pub read_list-elements-preserved : goal.read_list-elements-preserved
read_list-elements-preserved t c =
    let l = c.elements in
    let n = l.invariant.0 in
    let going : (after_end_array l.reader ≡ None) × (c.take_end_array.new.self ≡ l.reader) = grind arith in
    let found = c.in_ok-element.ensures.ok in
    let shorter : length c.read_value.new.reader < length l.reader = rw (← going.1) c.in_ok-element.ensures.shorter in (
      n - 1,
      omega (arith, l.invariant.1),
      rw (c.in_ok-push.ensures.items, values-push)
          (list_more _ _ _ (values l.elements.items) found.says (view c.in_ok-element.element) l.invariant.2 (items_more (value c.args.depth) n l.reader c.read_value.new.reader found.says (omega (arith, l.invariant.1)) going.0 (rw (← going.1) found.parses)) found.whole),
      omega (arith, l.invariant.3),
    )

pub read_list-returns-clause-ok : goal.read_list-returns-clause-ok
read_list-returns-clause-ok t c =
    let l = c.elements in
    let n = l.invariant.0 in
    let r = c.take_end_array.new.self in
    rw c.of.ensures (list_over _ _ (values l.elements.items) r l.invariant.2 (items_end (value c.args.depth) n l.reader r l.invariant.1 (grind arith)))

-- ---- the members of an object

pub read_object-members-init : goal.read_object-members-init
read_object-members-init t c = (length c.args.reader.now, omega arith, rw c.new-found.ensures.items (object_begun _), omega arith, rw c.new-found.ensures.items none_ascend)

pub read_object-returns-in_err-key-clause-bad : goal.read_object-returns-in_err-key-clause-bad
read_object-returns-in_err-key-clause-bad t c refused =
    let l = c.members in
    object_bad _ _ (entries l.found.items) l.invariant.2 (members_no_key (value c.args.depth) l.invariant.0 l.reader c.in_err-key.ensures.value)

pub read_object-returns-in_err-member-clause-bad : goal.read_object-returns-in_err-member-clause-bad
read_object-returns-in_err-member-clause-bad t c refused =
    let l = c.members in
    let named : read_key l.reader ≡ Some (Some c.in-Some.key.now, c.next_key.new.self) = grind arith in
    object_bad _ _ (entries l.found.items) l.invariant.2 (members_fail (value c.args.depth) l.invariant.0 c.in-Some.key.now l.reader c.next_key.new.self named (c.read_value.ensures.bad (grind arith)))

pub read_object-members-preserved : goal.read_object-members-preserved
read_object-members-preserved t c =
    let l = c.members in
    let named : read_key l.reader ≡ Some (Some c.in-Some.key.now, c.next_key.new.self) = grind arith in
    let found = c.in_ok-member.ensures.ok in
    let shorter : length c.read_value.new.reader < length c.next_key.new.self = c.in_ok-member.ensures.shorter in
    let read = read_key-shorter l.reader (Some c.in-Some.key.now) c.next_key.new.self named in
    let put = c.in_ok-put_among.ensures.ok in (
      l.invariant.0 - 1,
      omega (arith, l.invariant.1),
      rw (put, c.of_string-name.ensures, c.in_ok-from_str.ensures.ok)
          (object_more _ _ _ (entries l.found.items) c.in-Some.key.now found.says (view c.in_ok-member.member) l.invariant.2
          (members_more (value c.args.depth) l.invariant.0 c.in-Some.key.now l.reader c.next_key.new.self c.read_value.new.reader found.says (omega (arith, l.invariant.1)) named found.parses) found.whole),
      omega (arith, l.invariant.3),
      rw put (IsAscending-with_entry _ _ _ l.invariant.4),
    )

pub read_object-returns-clause-ok : goal.read_object-returns-clause-ok
read_object-returns-clause-ok t c =
    let l = c.members in
    rw c.of.ensures (object_over _ _ (entries l.found.items) c.next_key.new.self l.invariant.2 (members_end (value c.args.depth) l.invariant.0 l.reader c.next_key.new.self l.invariant.1 (grind arith)))
