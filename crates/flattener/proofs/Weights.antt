-- The items that a value has along names are together no longer than its compact text, and no text is longer than the
-- compact text that it is written by.
use Rattle.std.proofs.Common.{◌≡◌, ℕ, zero, suc, ◌+◌, ◌*◌, ◌<◌, ◌≤◌, ◌==◌, ◌/◌, ◌%◌, ℤ, pos, negsuc, Bool, true, false, nat_lt, List as Seq, [], ◌∷◌, ◌++◌, length, length-append, filter, get_or, ap, arith, bytes_eq, codes, Some}
use Rattle.std.specs.Fmt.{decimal, digit_glyph, digits, digits_onto, signed_decimal}
use Rattle.json.specs.Print.{escape, escape_byte, escape_letter}
use Rattle.mapping_body.proofs.Walks.{split}
use Rattle.tree_json.specs.Text.{comma_if, compact, compact_elements, compact_members, quoted}
use Rattle.tree_json.specs.Value.{JsonValue, null, bool, whole, text, list, object, Elements, no_elements, element, Members, no_members, member, member_of, elements_of}
use Rattle.tree_json.specs.View.{view, values}
use Rattle.tree_json.specs.declared.value.Json.{Json}
use Rattle.tree_objects.specs.Object.{items, items_in, items_at}
use Rattle.tree_objects.proofs.Weights.{total, total_append, weight_of}

pub total_filter : {A : Type 0} (weight : A → ℕ) (test : A → Bool) (xs : Seq A) → total weight (filter test xs) ≤ total weight xs
total_filter weight test [] = omega arith
total_filter weight test (x ∷ xs) =
    split (test x)
    (λ held. rw held (omega (arith, total_filter weight test xs)))
    (λ failed. rw failed (omega (arith, total_filter weight test xs)))

-- ---- texts

letter_long : (byte : ℕ) → 1 ≤ length (escape_byte byte)
unfolding escape_byte
letter_long byte =
    split (nat_lt 0 (escape_letter byte))
    (λ short. rw short (omega arith))
    (λ other. split (nat_lt byte 32)
    (λ control. rw (other, control) (omega arith))
    (λ plain. rw (other, plain) (omega arith)))

escape_long : (s : Seq ℕ) → length s ≤ length (escape s)
escape_long [] = omega arith
escape_long (byte ∷ s) = omega (arith, letter_long byte, escape_long s, length-append (escape_byte byte) (escape s))

pub quoted_long : (s : Seq ℕ) → length s + 2 ≤ length (quoted s)
unfolding quoted
quoted_long s = omega (arith, escape_long s, length-append (codes "\"") (escape s ++ codes "\""), length-append (escape s) (codes "\""))

letter_short : (byte : ℕ) → length (escape_byte byte) ≤ 6
unfolding escape_byte
letter_short byte =
    split (nat_lt 0 (escape_letter byte))
    (λ short. rw short (omega arith))
    (λ other. split (nat_lt byte 32)
    (λ control. rw (other, control) (omega arith))
    (λ plain. rw (other, plain) (omega arith)))

escape_short : (s : Seq ℕ) → length (escape s) ≤ 6 * length s
escape_short [] = omega arith
escape_short (byte ∷ s) = omega (arith, letter_short byte, escape_short s, length-append (escape_byte byte) (escape s))

-- a text that is short for the room that there is fits there, with two bytes more
pub quoted_fits : (s : Seq ℕ) (room : ℕ) → length s < room / 8 → length (quoted s) + 2 ≤ room
unfolding quoted
quoted_fits s room short = omega (arith, short, escape_short s, length-append (codes "\"") (escape s ++ codes "\""), length-append (escape s) (codes "\""))

pub ruleset fitting = (quoted_fits)

onto_some : (k n : ℕ) (digits : Seq ℕ) → 1 ≤ length digits → 1 ≤ length (digits_onto k 10 false n digits)
onto_some zero n digits some = some
onto_some (suc k) n digits some =
    split (n / 10 == 0)
    (λ last. rw last (omega arith))
    (λ more. rw more (onto_some k (n / 10) (digit_glyph false (n % 10) ∷ digits) (omega arith)))

onto_first : (k n : ℕ) → 1 ≤ length (digits_onto (suc k) 10 false n [])
onto_first k n =
    split (n / 10 == 0)
    (λ last. rw last (omega arith))
    (λ more. rw more (onto_some k (n / 10) (digit_glyph false (n % 10) ∷ []) (omega arith)))

decimal_long : (n : ℕ) → 1 ≤ length (decimal n)
unfolding digits
decimal_long n = onto_first 63 n

pub number_long : (z : ℤ) → 1 ≤ length (signed_decimal z)
number_long (pos n) = decimal_long n
number_long (negsuc n) = omega arith

-- ---- items

mutual
  pub items_light : (v : JsonValue) (names : Seq (Seq ℕ)) → total weight_of (items v names) ≤ weight_of v
  items_light null names = omega arith
  items_light (list ds) names =
      omega (arith, in_light false ds names, length-append (codes "[") (compact_elements false ds ++ codes "]"), length-append (compact_elements false ds) (codes "]"))
  items_light (object ms) [] = omega arith
  items_light (object ms) (name ∷ names) =
      omega (arith, at_light false ms name names, length-append (codes "{") (compact_members false ms ++ codes "}"), length-append (compact_members false ms) (codes "}"))
  items_light (bool b) [] = omega arith
  items_light (bool b) (name ∷ names) = omega arith
  items_light (whole z) [] = omega arith
  items_light (whole z) (name ∷ names) = omega arith
  items_light (text s) [] = omega arith
  items_light (text s) (name ∷ names) = omega arith

  in_light : (later : Bool) (ds : Elements) (names : Seq (Seq ℕ)) → total weight_of (items_in ds names) ≤ length (compact_elements later ds)
  in_light later no_elements names = omega arith
  in_light later (element d ds) names =
      omega (
        arith,
        items_light d names,
        in_light true ds names,
        total_append weight_of (items d names) (items_in ds names),
        length-append (comma_if later) (compact d ++ compact_elements true ds),
        length-append (compact d) (compact_elements true ds),
      )

  at_light : (later : Bool) (ms : Members) (name : Seq ℕ) (names : Seq (Seq ℕ)) → total weight_of (items_at ms name names) ≤ length (compact_members later ms)
  at_light later no_members name names = omega arith
  at_light later (member k d ms) name names =
      let whole = length-append (comma_if later) ((quoted k ++ (codes ":" ++ compact d)) ++ compact_members true ms) in
      let front = length-append (quoted k ++ (codes ":" ++ compact d)) (compact_members true ms) in
      let own = length-append (quoted k) (codes ":" ++ compact d) in
      let value = length-append (codes ":") (compact d) in
      split (bytes_eq k name)
      (λ same. rw same (omega (arith, items_light d names, whole, front, own, value)))
      (λ other. rw other (omega (arith, at_light true ms name names, whole, front, own, value)))

-- ---- what stands inside a value

element_below : (later : Bool) (js : Seq Json) (i : ℕ) (d : Json) → i < length js → length (compact (view (get_or js i d))) ≤ length (compact_elements later (elements_of (values js)))
element_below later [] i d h = absurd (omega arith)
element_below later (j ∷ js) zero d h =
    omega (arith, length-append (comma_if later) (compact (view j) ++ compact_elements true (elements_of (values js))), length-append (compact (view j)) (compact_elements true (elements_of (values js))))
element_below later (j ∷ js) (suc i) d h =
    let more : i < length js = omega arith in
    omega (
      arith,
      element_below true js i d more,
      length-append (comma_if later) (compact (view j) ++ compact_elements true (elements_of (values js))),
      length-append (compact (view j)) (compact_elements true (elements_of (values js))),
    )

-- an element is no longer than its list
pub element_light : (js : Seq Json) (i : ℕ) (d : Json) → i < length js → length (compact (view (get_or js i d))) ≤ length (compact (list (elements_of (values js))))
element_light js i d h =
    omega (
      arith,
      element_below false js i d h,
      length-append (codes "[") (compact_elements false (elements_of (values js)) ++ codes "]"),
      length-append (compact_elements false (elements_of (values js))) (codes "]"),
    )

member_below : (later : Bool) (ms : Members) (name : Seq ℕ) (d : JsonValue) → member_of ms name ≡ Some d → length (compact d) ≤ length (compact_members later ms)
member_below later no_members name d h = absurd (cc (h))
member_below later (member k e ms) name d h =
    let whole = length-append (comma_if later) ((quoted k ++ (codes ":" ++ compact e)) ++ compact_members true ms) in
    let front = length-append (quoted k ++ (codes ":" ++ compact e)) (compact_members true ms) in
    let own = length-append (quoted k) (codes ":" ++ compact e) in
    let value = length-append (codes ":") (compact e) in
    split (bytes_eq k name)
    (λ same. let one : Some e ≡ Some d = rw same at h in let is : e ≡ d = cc (one) in let long : length (compact e) ≡ length (compact d) = ap (λ v. length (compact v)) is in omega (arith, long, whole, front, own, value))
    (λ other. let further : member_of ms name ≡ Some d = rw other at h in omega (arith, member_below true ms name d further, whole, front, own, value))

-- nor is a member's value longer than its object
pub member_light : (ms : Members) (name : Seq ℕ) (d : JsonValue) → member_of ms name ≡ Some d → length (compact d) ≤ length (compact (object ms))
member_light ms name d h =
    omega (arith, member_below false ms name d h, length-append (codes "{") (compact_members false ms ++ codes "}"), length-append (compact_members false ms) (codes "}"))
