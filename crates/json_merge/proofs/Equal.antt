-- Values are the same part by part exactly where they are equal.
use Rattle.std.proofs.Common.{◌≡◌, ℕ, List as Seq, [], ◌∷◌, refl, sym, ap, subst, ◌∙◌, arith, Bool, true, false, not, ◌&&◌, ◌==◌, if◌then◌else◌, bytes_eq, length}
use Rattle.std.specs.Bool.{beq}
use Rattle.std.proofs.lemmas.Bool.Decides.{Decides-int_eq, nat_tests}
use Rattle.std.proofs.lemmas.Slice.Eq.{bytes_eq-Decides}
use Rattle.tree_json.specs.Value.{JsonValue, null, bool, whole, text, list, object, Elements, no_elements, element, Members, no_members, member, elements_of, members_of}
use Rattle.tree_json.specs.View.{values, entries}
use Rattle.tree_json.specs.declared.value.Json.{Json}
use Rattle.json_merge.specs.Same.{is_same, is_same_list, is_same_object}

both : (x y : Bool) → (x && y) ≡ true → (x ≡ true) × (y ≡ true)
both true y h = (refl, h)
both false y h = cc

and_true : (x y : Bool) → x ≡ true → y ≡ true → (x && y) ≡ true
and_true true y h k = k
and_true false y h k = h

equal_bool : (b c : Bool) → (if b then c else not c) ≡ true → b ≡ c
equal_bool true true h = refl
equal_bool true false h = cc
equal_bool false true h = cc
equal_bool false false h = refl

bool_itself : (b : Bool) → (if b then b else not b) ≡ true
bool_itself true = refl
bool_itself false = refl

pub same_bool : (b c : Bool) → beq b c ≡ (if b then c else not c)
same_bool true true = refl
same_bool true false = refl
same_bool false true = refl
same_bool false false = refl

mutual
  equal : (a b : JsonValue) → is_same a b ≡ true → a ≡ b
  equal null null h = refl
  equal (bool b) (bool c) h = ap bool (equal_bool b c h)
  equal (whole y) (whole z) h = ap whole ((Decides-int_eq y z).0 h)
  equal (text s) (text t) h = ap text ((bytes_eq-Decides s t).0 h)
  equal (list ds) (list es) h = ap list (equal_elements ds es h)
  equal (object ms) (object ns) h = ap object (equal_members ms ns h)
  equal _ _ h = cc

  equal_elements : (ds es : Elements) → is_same_list ds es ≡ true → ds ≡ es
  equal_elements no_elements no_elements h = refl
  equal_elements no_elements (element e es) h = cc
  equal_elements (element d ds) no_elements h = cc
  equal_elements (element d ds) (element e es) h =
      let parts = both (is_same d e) (is_same_list ds es) h in
      ap (λ (x : JsonValue). element x ds) (equal d e parts.0) ∙ ap (λ (xs : Elements). element e xs) (equal_elements ds es parts.1)

  equal_members : (ms ns : Members) → is_same_object ms ns ≡ true → ms ≡ ns
  equal_members no_members no_members h = refl
  equal_members no_members (member l e ns) h = cc
  equal_members (member k d ms) no_members h = cc
  equal_members (member k d ms) (member l e ns) h =
      let parts = both (bytes_eq k l) (is_same d e && is_same_object ms ns) h in
      let inside = both (is_same d e) (is_same_object ms ns) parts.1 in
      ap (λ (x : Seq ℕ). member x d ms) ((bytes_eq-Decides k l).0 parts.0)
      ∙ ap (λ (x : JsonValue). member l x ms) (equal d e inside.0)
      ∙ ap (λ (xs : Members). member l e xs) (equal_members ms ns inside.1)

mutual
  same_itself : (a : JsonValue) → is_same a a ≡ true
  same_itself null = refl
  same_itself (bool b) = bool_itself b
  same_itself (whole z) = (Decides-int_eq z z).1 refl
  same_itself (text s) = (bytes_eq-Decides s s).1 refl
  same_itself (list ds) = list_itself ds
  same_itself (object ms) = object_itself ms

  list_itself : (ds : Elements) → is_same_list ds ds ≡ true
  list_itself no_elements = refl
  list_itself (element d ds) = and_true (is_same d d) (is_same_list ds ds) (same_itself d) (list_itself ds)

  object_itself : (ms : Members) → is_same_object ms ms ≡ true
  object_itself no_members = refl
  object_itself (member k d ms) =
      and_true (bytes_eq k k) (is_same d d && is_same_object ms ms) ((bytes_eq-Decides k k).1 refl) (and_true (is_same d d) (is_same_object ms ms) (same_itself d) (object_itself ms))

pub same_from : (a b : JsonValue) → a ≡ b → is_same a b ≡ true
same_from a b e = subst (λ (x : JsonValue). is_same x b ≡ true) (sym e) (same_itself b)

pub equal_from : (a b : JsonValue) → is_same a b ≡ true → a ≡ b
equal_from = equal

-- where one list has ended, both are the same if the other has too
pub none_left : (rest : Seq Json) → (length rest == 0) ≡ is_same_list no_elements (elements_of (values rest))
none_left [] = refl
none_left (j ∷ rest) = grind (arith, nat_tests)

pub no_more : (rest : Seq (Seq ℕ × Json)) → (length rest == 0) ≡ is_same_object no_members (members_of (entries rest))
no_more [] = refl
no_more (m ∷ rest) = grind (arith, nat_tests)

pub ruleset ends = (none_left, no_more)

pub ruleset equals = (same_from, equal_from)
