-- A value as `serde_json`'s data with the same text, and what was read: whole numbers of 64 bits, few levels.
use Rattle.std.proofs.Common.{◌≡◌, ℕ, zero, suc, ◌^◌, ◌<◌, ◌≤◌, max, ℤ, pos, negsuc, Bool, true, false, ◌&&◌, List as Seq, ◌∷◌, ◌++◌, codes, Option, Some, None, Ordering, Less, Equal, Greater, option_map, option_and_then, refl, sym, ap, ap₂, subst, ◌∙◌, append_assoc, arith}
use Rattle.std.proofs.lemmas.Bool.{ltb-true, leb-true, and_parts}
use Rattle.std.specs.Float.{binary64, float_is_finite}
use Rattle.std.specs.Fmt.{signed_decimal}
use Rattle.std.specs.Ordering.{match_ordering}
use Rattle.std.specs.Prelude.{⊤, nat_lt, nat_le, if◌then◌else◌, slice_index, ◌==◌, drop}
use Rattle.fast_float.specs.Text.{Parts, minus, scan, digits_of, nearest, with_sign}
use Rattle.json.specs.Json as json
use Rattle.json.specs.Json.{document, if_last}
use Rattle.json.specs.Print.{IsNumber}
use Rattle.json.specs.Lex.{tokens}
use Rattle.json.specs.Tree as tree
use Rattle.json.specs.Tree.{HasNumbers, ItemsHaveNumbers, MembersHaveNumbers, json_tokens}
use Rattle.json.proofs.Printed.Decimals.{IsNumber-decimal, IsNumber-signed_decimal}
use Rattle.serde_json.specs.Data as source
use Rattle.serde_json.specs.Data.{Num, unsigned, negative, float}
use Rattle.serde_json.specs.Find.{as_i64}
use Rattle.serde_json.specs.Read.{is_integer, float_of, number_from, number_of, of_json, of_items, of_members, read}
use Rattle.serde_json.specs.Written.{number_text, outline, items_outline, members_outline, compact_text, items_text, members_text}
use Rattle.serde_json.proofs.Nesting.{depth-read}
use Rattle.tree_json.specs.Quick.{SaysText}
use Rattle.tree_json.specs.Reading.{whole_value, whole_elements, whole_members}
use Rattle.tree_json.specs.Levels.{levels, elements_levels, members_levels, most_levels}
use Rattle.tree_json.specs.Sound.{IsOf64}
use Rattle.tree_json.specs.Text.{quoted, comma_if, compact, compact_elements, compact_members, compact_member}
use Rattle.tree_json.specs.Value.{JsonValue, null, bool, whole, text, list, object, Elements, no_elements, element, Members, no_members, member}

-- ---- a value as `serde_json`'s data

abbrev pub number_data : ℤ → Num
number_data (pos n) = unsigned n
number_data (negsuc n) = negative (negsuc n)

abbrev mutual
  pub data_of : JsonValue → source.Data
  data_of null = source.null
  data_of (bool b) = source.boolean b
  data_of (whole z) = source.number (number_data z)
  data_of (text s) = source.string s
  data_of (list ds) = source.array (items_of ds)
  data_of (object ms) = source.object (pairs_of ms)

  pub items_of : Elements → source.Items
  items_of no_elements = source.no_items
  items_of (element d ds) = source.item (data_of d) (items_of ds)

  pub pairs_of : Members → source.Members
  pairs_of no_members = source.no_members
  pairs_of (member k d ms) = source.member k (data_of d) (pairs_of ms)

-- ---- the text is the same

same_number : (z : ℤ) → number_text (number_data z) ≡ signed_decimal z
same_number (pos n) = refl
same_number (negsuc n) = refl

same_bool : (b : Bool) → compact_text (source.boolean b) ≡ compact (bool b)
same_bool true = refl
same_bool false = refl

same_name : (k : Seq ℕ) → compact_text (source.string k) ≡ quoted k
unfolding quoted
same_name k = refl

comma_same : (later : Bool) (s t : Seq ℕ) → s ≡ t → comma_if later ++ s ≡ comma_if later ++ t
comma_same later s t e = ap (λ r. comma_if later ++ r) e

mutual
  pub same_text : (v : JsonValue) → compact_text (data_of v) ≡ compact v
  same_text null = refl
  same_text (bool b) = same_bool b
  same_text (whole z) = same_number z
  same_text (text s) = same_name s
  same_text (list ds) = ap (λ s. 91 ∷ s) (same_items false ds)
  same_text (object ms) = ap (λ s. 123 ∷ s) (same_pairs false ms)

  same_items : (later : Bool) (ds : Elements) → items_text later (items_of ds) ≡ compact_elements later ds ++ codes "]"
  same_items later no_elements = refl
  same_items later (element d ds) =
      ap₂ (λ s t. comma_if later ++ (s ++ t)) (same_text d) (same_items true ds)
      ∙ sym (append_assoc (comma_if later) (compact d ++ compact_elements true ds) (codes "]")
      ∙ ap (λ s. comma_if later ++ s) (append_assoc (compact d) (compact_elements true ds) (codes "]")))

  same_pairs : (later : Bool) (ms : Members) → members_text later (pairs_of ms) ≡ compact_members later ms ++ codes "}"
  same_pairs later no_members = refl
  same_pairs later (member k d ms) =
      let rest = compact_members true ms in
      ap (λ q. comma_if later ++ (q ++ 58 ∷ (compact_text (data_of d) ++ members_text true (pairs_of ms)))) (same_name k)
      ∙ ap₂ (λ s t. comma_if later ++ (quoted k ++ 58 ∷ (s ++ t))) (same_text d) (same_pairs true ms)
      ∙ sym (append_assoc (comma_if later) (compact_member k d ++ rest) (codes "}")
      ∙ ap (λ s. comma_if later ++ s) (append_assoc (compact_member k d) rest (codes "}")
      ∙ append_assoc (quoted k) (58 ∷ compact d) (rest ++ codes "}")))

-- ---- whole numbers of 64 bits

abbrev mutual
  pub AreOf64 : JsonValue → Type 0
  AreOf64 null = ⊤
  AreOf64 (bool b) = ⊤
  AreOf64 (whole z) = IsOf64 z
  AreOf64 (text s) = ⊤
  AreOf64 (list ds) = ElementsAreOf64 ds
  AreOf64 (object ms) = MembersAreOf64 ms

  pub ElementsAreOf64 : Elements → Type 0
  ElementsAreOf64 no_elements = ⊤
  ElementsAreOf64 (element d ds) = AreOf64 d × ElementsAreOf64 ds

  pub MembersAreOf64 : Members → Type 0
  MembersAreOf64 no_members = ⊤
  MembersAreOf64 (member k d ms) = AreOf64 d × MembersAreOf64 ms

-- ---- they are numbers of JSON, and nothing nests deeper

number_is : (z : ℤ) → IsOf64 z → IsNumber (number_text (number_data z))
number_is (pos n) h = IsNumber-decimal n (omega arith)
number_is (negsuc n) h = IsNumber-signed_decimal (negsuc n) h

mutual
  pub has_numbers : (v : JsonValue) → AreOf64 v → HasNumbers (outline (data_of v))
  has_numbers null h = tt
  has_numbers (bool b) h = tt
  has_numbers (whole z) h = number_is z h
  has_numbers (text s) h = tt
  has_numbers (list ds) h = items_have_numbers ds h
  has_numbers (object ms) h = pairs_have_numbers ms h

  items_have_numbers : (ds : Elements) → ElementsAreOf64 ds → ItemsHaveNumbers (items_outline (items_of ds))
  items_have_numbers no_elements h = tt
  items_have_numbers (element d ds) h = (has_numbers d h.0, items_have_numbers ds h.1)

  pairs_have_numbers : (ms : Members) → MembersAreOf64 ms → MembersHaveNumbers (members_outline (pairs_of ms))
  pairs_have_numbers no_members h = tt
  pairs_have_numbers (member k d ms) h = (has_numbers d h.0, pairs_have_numbers ms h.1)

mutual
  pub same_depth : (v : JsonValue) → tree.depth (outline (data_of v)) ≡ levels v
  same_depth null = refl
  same_depth (bool b) = refl
  same_depth (whole z) = refl
  same_depth (text s) = refl
  same_depth (list ds) = ap suc (same_items_depth ds)
  same_depth (object ms) = ap suc (same_pairs_depth ms)

  same_items_depth : (ds : Elements) → tree.items_depth (items_outline (items_of ds)) ≡ elements_levels ds
  same_items_depth no_elements = refl
  same_items_depth (element d ds) = ap₂ max (same_depth d) (same_items_depth ds)

  same_pairs_depth : (ms : Members) → tree.members_depth (members_outline (pairs_of ms)) ≡ members_levels ms
  same_pairs_depth no_members = refl
  same_pairs_depth (member k d ms) = ap₂ max (same_depth d) (same_pairs_depth ms)

-- ---- what was read has whole numbers of 64 bits

abbrev pub Where : {A : Type 0} → (A → Type 0) → Option A → Type 0
Where P None = ⊤
Where P (Some a) = P a

mapped : {A B : Type 0} (P : A → Type 0) (Q : B → Type 0) (f : A → B) → ((a : A) → P a → Q (f a)) → (o : Option A) → Where P o → Where Q (option_map f o)
mapped P Q f h None x = tt
mapped P Q f h (Some a) x = h a x

and_more : {A B : Type 0} (P : A → Type 0) (Q : B → Type 0) (f : A → Option B) → ((a : A) → P a → Where Q (f a)) → (o : Option A) → Where P o → Where Q (option_and_then f o)
and_more P Q f h None x = tt
and_more P Q f h (Some a) x = h a x

-- the numbers that `serde_json` reads
abbrev pub IsRead : Num → Type 0
IsRead (unsigned n) = n < 2 ^ 64
IsRead (negative z) = IsOf64 z
IsRead (float x) = ⊤

abbrev mutual
  AreRead : source.Data → Type 0
  AreRead source.null = ⊤
  AreRead (source.boolean b) = ⊤
  AreRead (source.number n) = IsRead n
  AreRead (source.string s) = ⊤
  AreRead (source.array ds) = ItemsAreRead ds
  AreRead (source.object ms) = PairsAreRead ms

  ItemsAreRead : source.Items → Type 0
  ItemsAreRead source.no_items = ⊤
  ItemsAreRead (source.item d ds) = AreRead d × ItemsAreRead ds

  PairsAreRead : source.Members → Type 0
  PairsAreRead source.no_members = ⊤
  PairsAreRead (source.member k d ms) = AreRead d × PairsAreRead ms

float_read : (sign : Bool) (p : Parts) → Where IsRead (float_of sign p)
float_read sign p = by (float_is_finite (nearest binary64 sign p))
  where
    by : (b : Bool) → Where IsRead (if b then Some (float (nearest binary64 sign p)) else None)
    by true = tt
    by false = tt

negated : (n : ℕ) → 0 < n → n ≤ 2 ^ 63 → IsOf64 (with_sign true n)
negated zero some h = absurd (omega arith)
negated (suc n) some h = omega arith

negative_read : (p : Parts) (b : Bool) → (is_integer p && nat_lt 0 (digits_of p) && nat_le (digits_of p) (2 ^ 63)) ≡ b
    → Where IsRead (if b then Some (negative (with_sign true (digits_of p))) else float_of true p)
negative_read p false e = float_read true p
negative_read p true e =
    let outer = and_parts (is_integer p && nat_lt 0 (digits_of p)) (nat_le (digits_of p) (2 ^ 63)) e in
    let inner = and_parts (is_integer p) (nat_lt 0 (digits_of p)) outer.0 in
    negated (digits_of p) (ltb-true 0 (digits_of p) inner.1) (leb-true (digits_of p) (2 ^ 63) outer.1)

positive_read : (p : Parts) (b : Bool) → (is_integer p && nat_lt (digits_of p) (2 ^ 64)) ≡ b → Where IsRead (if b then Some (unsigned (digits_of p)) else float_of false p)
positive_read p false e = float_read false p
positive_read p true e = ltb-true (digits_of p) (2 ^ 64) (and_parts (is_integer p) (nat_lt (digits_of p) (2 ^ 64)) e).1

pub number_read : (s : Seq ℕ) → Where IsRead (number_of s)
unfolding number_of
number_read s = by (slice_index s 0 == minus)
  where
    by : (b : Bool) → Where IsRead (if b then number_from true (scan (drop 1 s)) else number_from false (scan s))
    by true = negative_read (scan (drop 1 s)) _ refl
    by false = positive_read (scan s) _ refl

ordered_read : (o : Ordering) (a b c : source.Members) → PairsAreRead a → PairsAreRead b → PairsAreRead c → PairsAreRead (match_ordering o a b c)
ordered_read Less a b c p q r = p
ordered_read Equal a b c p q r = q
ordered_read Greater a b c p q r = r

put_read : (k : Seq ℕ) (d : source.Data) (ms : source.Members) → AreRead d → PairsAreRead ms → PairsAreRead (source.put k d ms)
put_read k d source.no_members p q = (p, tt)
put_read k d (source.member l e ms) p q =
    ordered_read _ (source.member k d (source.member l e ms)) (source.member l d ms) (source.member l e (source.put k d ms)) (p, q) (p, q.1) (q.0, put_read k d ms p q.1)

mutual
  json_read : (j : json.Json) → Where AreRead (of_json j)
  json_read json.null = tt
  json_read (json.boolean b) = tt
  json_read (json.number s) = mapped IsRead AreRead source.number (λ n x. x) (number_of s) (number_read s)
  json_read (json.string s) = tt
  json_read (json.array js) = mapped ItemsAreRead AreRead source.array (λ ds x. x) (of_items js) (items_read js)
  json_read (json.object ms) = mapped PairsAreRead AreRead source.object (λ ds x. x) (of_members ms source.no_members) (pairs_read ms source.no_members tt)

  items_read : (js : json.Items) → Where ItemsAreRead (of_items js)
  items_read json.no_items = tt
  items_read (json.item j js) = and_more AreRead ItemsAreRead _ (λ d x. mapped ItemsAreRead ItemsAreRead (source.item d) (λ ds y. (x, y)) (of_items js) (items_read js)) (of_json j) (json_read j)

  pairs_read : (ms : json.Members) (found : source.Members) → PairsAreRead found → Where PairsAreRead (of_members ms found)
  pairs_read json.no_members found h = h
  pairs_read (json.member k j ms) found h = and_more AreRead PairsAreRead _ (λ d x. pairs_read ms (source.put k d found) (put_read k d found x h)) (of_json j) (json_read j)

abbrev parsed : Seq ℕ → Option json.Json
parsed bytes = option_and_then (λ p. if_last p.0 p.1) (json.value 127 (tokens bytes))

text_read : (bytes : Seq ℕ) → Where AreRead (read bytes)
text_read bytes = and_more (λ (j : json.Json). ⊤) AreRead of_json (λ j x. json_read j) (parsed bytes) (any (parsed bytes))
  where
    any : (o : Option json.Json) → Where (λ (j : json.Json). ⊤) o
    any None = tt
    any (Some j) = tt

-- ---- and so has its value, which nests no deeper

abbrev Fits : ℕ → JsonValue → Type 0
Fits n v = AreOf64 v × (levels v ≤ n)

abbrev ItemsFit : ℕ → Elements → Type 0
ItemsFit n ds = ElementsAreOf64 ds × (elements_levels ds ≤ n)

abbrev PairsFit : ℕ → Members → Type 0
PairsFit n ms = MembersAreOf64 ms × (members_levels ms ≤ n)

unsigned_fits : (n : ℕ) (b : Bool) → nat_lt n (2 ^ 63) ≡ b → Where IsOf64 (if b then Some (pos n) else None)
unsigned_fits n true e = ltb-true n (2 ^ 63) e
unsigned_fits n false e = tt

number_fits : (n : Num) → IsRead n → Where IsOf64 (as_i64 n)
number_fits (unsigned n) h = unsigned_fits n _ refl
number_fits (negative z) h = h
number_fits (float x) h = tt

mutual
  value_fits : (d : source.Data) (n : ℕ) → AreRead d → source.depth d ≤ n → Where (Fits n) (whole_value d)
  value_fits source.null n h deep = (tt, omega arith)
  value_fits (source.boolean b) n h deep = (tt, omega arith)
  value_fits (source.number m) n h deep = mapped IsOf64 (Fits n) whole (λ z x. (x, omega arith)) (as_i64 m) (number_fits m h)
  value_fits (source.string s) n h deep = (tt, omega arith)
  value_fits (source.array ds) n h deep = mapped (ItemsFit (source.items_depth ds)) (Fits n) list (λ es x. (x.0, omega (arith, x.1))) (whole_elements ds) (elements_fit ds (source.items_depth ds) h (omega arith))
  value_fits (source.object ms) n h deep = mapped (PairsFit (source.members_depth ms)) (Fits n) object (λ es x. (x.0, omega (arith, x.1))) (whole_members ms) (members_fit ms (source.members_depth ms) h (omega arith))

  elements_fit : (ds : source.Items) (n : ℕ) → ItemsAreRead ds → source.items_depth ds ≤ n → Where (ItemsFit n) (whole_elements ds)
  elements_fit source.no_items n h deep = (tt, omega arith)
  elements_fit (source.item d ds) n h deep =
      and_more (Fits n) (ItemsFit n) _ (λ e x. mapped (ItemsFit n) (ItemsFit n) (element e) (λ es y. ((x.0, y.0), omega (arith, x.1, y.1))) (whole_elements ds) (elements_fit ds n h.1 (omega arith))) (whole_value d)
      (value_fits d n h.0 (omega arith))

  members_fit : (ms : source.Members) (n : ℕ) → PairsAreRead ms → source.members_depth ms ≤ n → Where (PairsFit n) (whole_members ms)
  members_fit source.no_members n h deep = (tt, omega arith)
  members_fit (source.member k d ms) n h deep =
      and_more (Fits n) (PairsFit n) _ (λ e x. mapped (PairsFit n) (PairsFit n) (member k e) (λ es y. ((x.0, y.0), omega (arith, x.1, y.1))) (whole_members ms) (members_fit ms n h.1 (omega arith))) (whole_value d)
      (value_fits d n h.0 (omega arith))

-- a value that was read
read_fits : (bytes : Seq ℕ) (v : JsonValue) → SaysText (read bytes) v → Fits most_levels v
read_fits bytes v found =
    let numbers : AreRead found.says = subst (Where AreRead) found.parses (text_read bytes) in
    subst (Where (Fits most_levels)) found.whole (value_fits found.says most_levels numbers (depth-read bytes found.says found.parses))

-- a value that was read has few levels
pub levels_read : (bytes : Seq ℕ) (v : JsonValue) → SaysText (read bytes) v → levels v ≤ most_levels
levels_read bytes v found = (read_fits bytes v found).1
