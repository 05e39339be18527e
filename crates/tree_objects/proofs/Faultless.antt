-- Where a source has no fault, no object of its tree shows a value with a long term: the walk for faults meets each value.
use Rattle.std.proofs.Common.{◌≡◌, ℕ, zero, suc, ◌+◌, ◌<◌, ◌≤◌, ◌==◌, true, false, if◌then◌else◌, nat_le, List as Seq, [], ◌∷◌, ◌++◌, length, drop, filter, refl, sym, ap, ◌∙◌, subst, append-nil, append_assoc, arith, Option, Some, None, IfSome, option_and_then, bytes_eq}
use Rattle.std.proofs.lemmas.Bool.{false≢true, le-leb, leb-true, eqb-true, eq-eqb}
use Rattle.std.proofs.lemmas.Option.{none-some}
use Rattle.std.proofs.lemmas.List.Elements.{All-contains, All-from_recursion, recursion_from_All}
use Rattle.std.proofs.lemmas.Slice.Eq.{bytes_eq-Decides}
use Rattle.std.specs.List.{All, AllByRecursion, Contains, filter_map, flat_map}
use Rattle.tree_json.specs.Value.{JsonValue, null, bool, whole, text, list, object, Elements, no_elements, element, Members, no_members, member, is_object}
use Rattle.mapping_body.specs.Body.{is_join}
use Rattle.mapping_body.specs.Names.{dot, has_dot, joined, lies_above, goes_on, names_of, names_between, before_name}
use Rattle.mapping_body.specs.declared.kind.Kind.{Kind}
use Rattle.mapping_body.specs.declared.kind.Kind.TheVariants.{Text, Keyword, Long, Boolean, Date, Object as Plain, Nested, Join}
use Rattle.mapping_body.proofs.Spelled.{HasFirst, HaveBytes, first_behind, have_later, names_behind, names_parts, names_step}
use Rattle.mapping_body.proofs.Walks.{split}
use Rattle.mapping.specs.IsMapping.{IsMapping}
use Rattle.mapping.specs.Reached.{AreReached}
use Rattle.mapping.specs.Mapping.{Mapping, field_at, field_below, field_named, home_of, if_known, kind_at, knows, names_to, scope_at, outer, kids, shows}
use Rattle.mapping.proofs.Above.{both}
use Rattle.mapping.proofs.Fields.{path_named}
use Rattle.mapping.proofs.Numbering.{IsKid, each_kid}
use Rattle.tree_objects.specs.Tree.{Tree}
use Rattle.tree_objects.specs.Object.{Object, root, scope, content, tree_of, items, items_in, items_at, numbered, given, children, objects, block_objects}
use Rattle.tree_objects.specs.Values.{convert, own_values, values}
use Rattle.tree_objects.specs.Fault.{fault_among, fault_at, fault_in, fault_converted, fault_of_object, fault_of_source, fault_single, first_fault, first_of, has_long_term}
use Rattle.tree_objects.specs.declared.fault.Fault.{Fault}
use Rattle.tree_objects.specs.declared.fault.Fault.TheVariants.{BadJoin, TermTooLong}
use Rattle.tree_objects.specs.declared.field_value.FieldValue.{FieldValue}
use Rattle.tree_objects.specs.Enclosing.{stands_at}
use Rattle.tree_objects.proofs.Inside.{each_append, each_flat, each_from}
use Rattle.tree_objects.proofs.Kept.{shown_values}

-- ---- names that lead down to a field

-- from the field e names lead down to the field f, by fields that the generation knows
abbrev pub Leads : Mapping → ℕ → ℕ → Seq (Seq ℕ) → ℕ → Type 0
Leads m g e [] f = e ≡ f
Leads m g e (name ∷ names) f = (d : ℕ) × (field_below m g (field_at m e).path name ≡ Some d) × Leads m g d names f

-- and so from a path
abbrev pub LeadsFrom : Mapping → ℕ → Seq ℕ → Seq (Seq ℕ) → ℕ → Type 0
LeadsFrom m g path [] f = ⊥
LeadsFrom m g path (name ∷ names) f = (d : ℕ) × (field_below m g path name ≡ Some d) × Leads m g d names f

-- ---- no fault on the way

neither : (one two : Option Fault) → first_of one two ≡ None → (one ≡ None) × (two ≡ None)
neither None two e = (refl, e)
neither (Some fault) two e = absurd (cc (e))

-- the value of a field has no fault
abbrev pub IsClear : Mapping → ℕ → ℕ → JsonValue → Type 0
IsClear m g f v = fault_at m g (field_at m f).path f (kind_at m f) v ≡ None

known_is : (m : Mapping) (g : ℕ) (o : Option ℕ) (d : ℕ) → option_and_then (if_known (knows m g)) o ≡ Some d → o ≡ Some d
known_is m g None d e = absurd (cc (e))
known_is m g (Some n) d e =
    split (knows m g n)
    (λ held. let same : Some n ≡ Some d = rw held at e in same)
    (λ failed. let never : None ≡ Some d = rw failed at e in absurd (cc (never)))

path_some : (o : Option ℕ) (P : ℕ → Type 0) (d : ℕ) → o ≡ Some d → IfSome o P → P d
path_some None P d e holds = absurd (cc (e))
path_some (Some n) P d e holds = let same : n ≡ d = cc in subst P same holds

-- the field below a path by a name stands at the path that they make
path_below : (m : Mapping) (g : ℕ) (path name : Seq ℕ) (d : ℕ) → field_below m g path name ≡ Some d → (field_at m d).path ≡ joined path name
path_below m g path name d e =
    split (has_dot name)
    (λ dotted. let never : None ≡ Some d = rw dotted at e in absurd (cc (never)))
    (λ plain.
    let named : option_and_then (if_known (knows m g)) (field_named m (joined path name)) ≡ Some d = rw plain at e in
    path_some (field_named m (joined path name)) (λ f. (field_at m f).path ≡ joined path name) d (known_is m g (field_named m (joined path name)) d named) (path_named m (joined path name)))

-- a value without a fault that is found under a name
clear_below : (m : Mapping) (g : ℕ) (path name : Seq ℕ) (d : ℕ) (v : JsonValue) → field_below m g path name ≡ Some d
    → option_and_then (λ f. fault_at m g (joined path name) f (kind_at m f) v) (field_below m g path name) ≡ None → IsClear m g d v
clear_below m g path name d v there none =
    let here : fault_at m g (joined path name) d (kind_at m d) v ≡ None = rw there at none in
    subst (λ (p : Seq ℕ). fault_at m g p d (kind_at m d) v ≡ None) (sym (path_below m g path name d there)) here

elements_clear : (m : Mapping) (g : ℕ) (path : Seq ℕ) (f : ℕ) (kind : Kind) (ds : Elements) → (if is_join kind then Some BadJoin else fault_in m g path f kind ds) ≡ None → fault_in m g path f kind ds ≡ None
elements_clear m g path f kind ds e =
    split (is_join kind)
    (λ joins. let never : Some BadJoin ≡ None = rw joins at e in absurd (cc (never)))
    (λ other. rw other at e)

mutual
  found : (m : Mapping) (g e : ℕ) (names : Seq (Seq ℕ)) (f : ℕ) (v : JsonValue) → Leads m g e names f → IsClear m g e v → AllByRecursion (IsClear m g f) (items v names)
  found m g e names f null leads clear = tt
  found m g e names f (list ds) leads clear = found_in m g e names f ds leads (elements_clear m g (field_at m e).path e (kind_at m e) ds clear)
  found m g e [] f (object ms) leads clear = (subst (λ n. IsClear m g n (object ms)) leads clear, tt)
  found m g e (name ∷ names) f (object ms) leads clear = found_at m g (field_at m e).path name names f ms leads (neither (fault_of_object m g e (kind_at m e) ms) (fault_among m g (field_at m e).path ms) clear).1
  found m g e [] f (bool b) leads clear = (subst (λ n. IsClear m g n (bool b)) leads clear, tt)
  found m g e (name ∷ names) f (bool b) leads clear = tt
  found m g e [] f (whole z) leads clear = (subst (λ n. IsClear m g n (whole z)) leads clear, tt)
  found m g e (name ∷ names) f (whole z) leads clear = tt
  found m g e [] f (text s) leads clear = (subst (λ n. IsClear m g n (text s)) leads clear, tt)
  found m g e (name ∷ names) f (text s) leads clear = tt

  found_in : (m : Mapping) (g e : ℕ) (names : Seq (Seq ℕ)) (f : ℕ) (ds : Elements) → Leads m g e names f → fault_in m g (field_at m e).path e (kind_at m e) ds ≡ None → AllByRecursion (IsClear m g f) (items_in ds names)
  found_in m g e names f no_elements leads clear = tt
  found_in m g e names f (element d ds) leads clear =
      let parts = neither (fault_at m g (field_at m e).path e (kind_at m e) d) (fault_in m g (field_at m e).path e (kind_at m e) ds) clear in
      each_append (IsClear m g f) (items d names) (items_in ds names) (found m g e names f d leads parts.0) (found_in m g e names f ds leads parts.1)

  found_at : (m : Mapping) (g : ℕ) (path name : Seq ℕ) (names : Seq (Seq ℕ)) (f : ℕ) (ms : Members) → LeadsFrom m g path (name ∷ names) f → fault_among m g path ms ≡ None → AllByRecursion (IsClear m g f) (items_at ms name names)
  found_at m g path name names f no_members leads clear = tt
  found_at m g path name names f (member k d ms) leads clear =
      let parts = neither (option_and_then (λ n. fault_at m g (joined path k) n (kind_at m n) d) (field_below m g path k)) (fault_among m g path ms) clear in
      split (bytes_eq k name)
      (λ same.
      let is : k ≡ name = (bytes_eq-Decides k name).0 same in
      let here : option_and_then (λ n. fault_at m g (joined path name) n (kind_at m n) d) (field_below m g path name) ≡ None =
      subst (λ (n : Seq ℕ). option_and_then (λ f. fault_at m g (joined path n) f (kind_at m f) d) (field_below m g path n) ≡ None) is parts.0 in
      rw same (found m g leads.0 names f d leads.2 (clear_below m g path name leads.0 d leads.1 here)))
      (λ other. rw other (found_at m g path name names f ms leads parts.1))

-- ---- the names of a path lead to its field

-- bytes in front of the first name
abbrev fronted : Seq ℕ → Seq (Seq ℕ) → Seq (Seq ℕ)
fronted part [] = part ∷ []
fronted part (name ∷ names) = (part ++ name) ∷ names

fronted_none : (names : Seq (Seq ℕ)) → HasFirst names → fronted [] names ≡ names
fronted_none [] has = absurd (let never : [] ≡ has.first ∷ has.rest = has.is in cc)
fronted_none (name ∷ names) has = refl

fronted_byte : (part : Seq ℕ) (byte : ℕ) (names : Seq (Seq ℕ)) → HasFirst names → fronted part (before_name byte names) ≡ fronted (part ++ byte ∷ []) names
fronted_byte part byte [] has = absurd (let never : [] ≡ has.first ∷ has.rest = has.is in cc)
fronted_byte part byte (name ∷ names) has = ap (λ (first : Seq ℕ). first ∷ names) (sym (append_assoc part (byte ∷ []) name))

plain_more : (part : Seq ℕ) (byte : ℕ) → has_dot part ≡ false → (byte == dot) ≡ false → has_dot (part ++ byte ∷ []) ≡ false
plain_more [] byte plain other = rw other refl
plain_more (b ∷ part) byte plain other =
    split (b == dot)
    (λ yes. let never : true ≡ false = rw yes at plain in absurd (cc (never)))
    (λ no. rw no (plain_more part byte (rw no at plain) other))

itself_above : (path rest : Seq ℕ) → goes_on path (path ++ dot ∷ rest) ≡ true
itself_above [] rest = refl
itself_above (byte ∷ path) rest = rw (eq-eqb byte byte refl) (itself_above path rest)

over_rest : (path rest : Seq ℕ) → lies_above [] path ≡ true → lies_above path (path ++ dot ∷ rest) ≡ true
over_rest [] rest some = absurd (false≢true some)
over_rest (byte ∷ path) rest some = itself_above (byte ∷ path) rest

joined_on : (path part rest : Seq ℕ) → joined path (part ++ dot ∷ rest) ≡ joined path part ++ dot ∷ rest
joined_on [] part rest = refl
joined_on (byte ∷ path) part rest = sym (append_assoc (byte ∷ path) (dot ∷ part) (dot ∷ rest))

joined_again : (path rest : Seq ℕ) → lies_above [] path ≡ true → path ++ dot ∷ rest ≡ joined path rest
joined_again [] rest some = absurd (false≢true some)
joined_again (byte ∷ path) rest some = refl

joined_some : (path part : Seq ℕ) → 0 < length part → lies_above [] (joined path part) ≡ true
joined_some [] [] some = absurd (omega arith)
joined_some [] (byte ∷ part) some = refl
joined_some (byte ∷ path) part some = refl

below_known : (m : Mapping) (g : ℕ) (path name : Seq ℕ) (f : ℕ) → has_dot name ≡ false → field_named m (joined path name) ≡ Some f → (field_at m f).since ≤ g → field_below m g path name ≡ Some f
below_known m g path name f plain named known =
    let held : knows m g f ≡ true = le-leb (field_at m f).since g known in
    rw (plain, named, held) refl

from_first : (m : Mapping) (g e : ℕ) (names : Seq (Seq ℕ)) (f : ℕ) → HasFirst names → LeadsFrom m g (field_at m e).path names f → Leads m g e names f
from_first m g e [] f has leads = absurd leads
from_first m g e (name ∷ names) f has leads = leads

-- the names from a path on, of whose first some bytes are read
reached_from : (m : Mapping) (g f : ℕ) → AreReached m → f < length m.fields → (field_at m f).since ≤ g → (path part rest : Seq ℕ) → has_dot part ≡ false
    → (field_at m f).path ≡ joined path (part ++ rest) → HaveBytes (fronted part (names_behind rest)) → LeadsFrom m g path (fronted part (names_behind rest)) f
reached_from m g f is h known path part [] plain spelled have =
    let name : part ++ [] ≡ part = append-nil part in
    let named : field_named m (joined path (part ++ [])) ≡ Some f = ap (field_named m) (sym spelled) ∙ is.named f h in
    (f, below_known m g path (part ++ []) f (ap has_dot name ∙ plain) named known, refl)
reached_from m g f is h known path part (byte ∷ rest) plain spelled have =
    split (byte == dot)
    (λ yes.
    let dotted : byte ≡ dot = eqb-true byte dot yes in
    let names : names_behind (byte ∷ rest) ≡ [] ∷ names_behind rest = names_step byte rest ∙ rw yes refl in
    let has : HaveBytes ((part ++ []) ∷ names_behind rest) = subst (λ (ns : Seq (Seq ℕ)). HaveBytes (fronted part ns)) names have in
    let none : part ++ [] ≡ part = append-nil part in
    let some : 0 < length part = omega (arith, has.0, ap length none) in
    let parts : (field_at m f).path ≡ joined path part ++ dot ∷ rest = subst (λ (b : ℕ). (field_at m f).path ≡ joined path (part ++ b ∷ rest)) dotted spelled ∙ joined_on path part rest in
    let there = is.above f (joined path part) h (joined_some path part some) (subst (λ (p : Seq ℕ). lies_above (joined path part) p ≡ true) (sym parts) (over_rest (joined path part) rest (joined_some path part some))) in
    let path_there : (field_at m there.0).path ≡ joined path part = path_some (field_named m (joined path part)) (λ e. (field_at m e).path ≡ joined path part) there.0 there.2 (path_named m (joined path part)) in
    let further : LeadsFrom m g (field_at m there.0).path (fronted [] (names_behind rest)) f =
    reached_from m g f is h known (field_at m there.0).path [] rest refl
    (parts ∙ joined_again (joined path part) rest (joined_some path part some) ∙ ap (λ (p : Seq ℕ). joined p rest) (sym path_there))
    (subst HaveBytes (sym (fronted_none (names_behind rest) (first_behind rest))) has.1) in
    let earlier = there.3 in
    let first : field_below m g path (part ++ []) ≡ Some there.0 =
    subst (λ (n : Seq ℕ). field_below m g path n ≡ Some there.0) (sym none) (below_known m g path part there.0 plain there.2 (omega (arith, earlier, known))) in
    subst (λ (ns : Seq (Seq ℕ)). LeadsFrom m g path (fronted part ns) f) (sym names)
    (there.0, first, from_first m g there.0 (names_behind rest) f (first_behind rest) (subst (λ (ns : Seq (Seq ℕ)). LeadsFrom m g (field_at m there.0).path ns f) (fronted_none (names_behind rest) (first_behind rest)) further)))
    (λ no.
    let names : names_behind (byte ∷ rest) ≡ before_name byte (names_behind rest) = names_step byte rest ∙ rw no refl in
    let same : fronted part (names_behind (byte ∷ rest)) ≡ fronted (part ++ byte ∷ []) (names_behind rest) = ap (fronted part) names ∙ fronted_byte part byte (names_behind rest) (first_behind rest) in
    subst (λ (ns : Seq (Seq ℕ)). LeadsFrom m g path ns f) (sym same)
    (reached_from m g f is h known path (part ++ byte ∷ []) rest (plain_more part byte plain no)
    (spelled ∙ ap (joined path) (sym (append_assoc part (byte ∷ []) rest))) (subst HaveBytes same have)))

on_from : (above path : Seq ℕ) → goes_on above path ≡ true → path ≡ above ++ dot ∷ drop (length above + 1) path
on_from [] [] h = absurd (false≢true h)
on_from [] (byte ∷ path) h = let same : byte ≡ dot = eqb-true byte dot h in rw same refl
on_from (a ∷ above) [] h = absurd (false≢true h)
on_from (a ∷ above) (byte ∷ path) h =
    let parts = both (a == byte) (goes_on above path) h in
    let same : a ≡ byte = eqb-true a byte parts.0 in
    let step : length (a ∷ above) + 1 ≡ suc (length above + 1) = omega arith in
    rw (step, same) (ap (λ (p : Seq ℕ). byte ∷ p) (on_from above path parts.1))

not_empty : (rest : Seq ℕ) → HaveBytes (names_behind rest) → names_of rest ≡ names_behind rest
not_empty [] have = let none = have.0 in absurd (omega (arith, none))
not_empty (byte ∷ rest) have = refl

-- from a path above it names lead to a field
pub leads_down : (m : Mapping) (g f : ℕ) (above : Seq ℕ) → AreReached m → f < length m.fields → (field_at m f).since ≤ g → lies_above above (field_at m f).path ≡ true
    → LeadsFrom m g above (names_between above (field_at m f).path) f
leads_down m g f [] is h known over =
    let path : Seq ℕ = (field_at m f).path in
    let have : HaveBytes (names_of (field_at m f).path) = recursion_from_All (λ (name : Seq ℕ). 0 < length name) (names_of (field_at m f).path) (is.names f h) in
    let same : names_of (field_at m f).path ≡ names_behind (field_at m f).path = below_root (field_at m f).path over in
    subst (λ (ns : Seq (Seq ℕ)). LeadsFrom m g [] ns f) (fronted_none (names_behind (field_at m f).path) (first_behind (field_at m f).path) ∙ sym same)
    (reached_from m g f is h known [] [] (field_at m f).path refl refl (subst HaveBytes (same ∙ sym (fronted_none (names_behind (field_at m f).path) (first_behind (field_at m f).path))) have))
  where
    below_root : (p : Seq ℕ) → lies_above [] p ≡ true → names_of p ≡ names_behind p
    below_root [] h = absurd (false≢true h)
    below_root (byte ∷ p) h = refl
leads_down m g f (a ∷ above) is h known over =
    let have : HaveBytes (names_of (field_at m f).path) = recursion_from_All (λ (name : Seq ℕ). 0 < length name) (names_of (field_at m f).path) (is.names f h) in
    let parts : (field_at m f).path ≡ (a ∷ above) ++ dot ∷ drop (length (a ∷ above) + 1) (field_at m f).path = on_from (a ∷ above) (field_at m f).path over in
    let rest_have : HaveBytes (names_behind (drop (length (a ∷ above) + 1) (field_at m f).path)) =
    have_later (names_behind (a ∷ above)) (names_behind (drop (length (a ∷ above) + 1) (field_at m f).path))
    (subst HaveBytes (names_parts (a ∷ above) (drop (length (a ∷ above) + 1) (field_at m f).path)) (subst (λ (p : Seq ℕ). HaveBytes (names_of p)) parts have)) in
    let same = not_empty (drop (length (a ∷ above) + 1) (field_at m f).path) rest_have in
    let none = fronted_none (names_behind (drop (length (a ∷ above) + 1) (field_at m f).path)) (first_behind (drop (length (a ∷ above) + 1) (field_at m f).path)) in
    subst (λ (ns : Seq (Seq ℕ)). LeadsFrom m g (a ∷ above) ns f) (none ∙ sym same)
    (reached_from m g f is h known (a ∷ above) [] (drop (length (a ∷ above) + 1) (field_at m f).path) refl parts (subst HaveBytes (sym none) rest_have))

-- ---- objects without a fault

-- the content of an object is one, and its members have no fault below a path
abbrev IsFree : Mapping → ℕ → Seq ℕ → JsonValue → Type 0
IsFree m g path (object ms) = fault_among m g path ms ≡ None
IsFree m g path null = ⊥
IsFree m g path (bool b) = ⊥
IsFree m g path (whole z) = ⊥
IsFree m g path (text s) = ⊥
IsFree m g path (list ds) = ⊥

free_items : (m : Mapping) (g : ℕ) (path : Seq ℕ) (names : Seq (Seq ℕ)) (f : ℕ) (v : JsonValue) → LeadsFrom m g path names f → IsFree m g path v → AllByRecursion (IsClear m g f) (items v names)
free_items m g path [] f v leads free = absurd leads
free_items m g path (name ∷ names) f null leads free = absurd free
free_items m g path (name ∷ names) f (bool b) leads free = absurd free
free_items m g path (name ∷ names) f (whole z) leads free = absurd free
free_items m g path (name ∷ names) f (text s) leads free = absurd free
free_items m g path (name ∷ names) f (list ds) leads free = absurd free
free_items m g path (name ∷ names) f (object ms) leads free = found_at m g path name names f ms leads free

clear_object : (m : Mapping) (g f : ℕ) (v : JsonValue) → is_object v ≡ true → IsClear m g f v → IsFree m g (field_at m f).path v
clear_object m g f null is clear = absurd (false≢true is)
clear_object m g f (bool b) is clear = absurd (false≢true is)
clear_object m g f (whole z) is clear = absurd (false≢true is)
clear_object m g f (text s) is clear = absurd (false≢true is)
clear_object m g f (list ds) is clear = absurd (false≢true is)
clear_object m g f (object ms) is clear = (neither (fault_of_object m g f (kind_at m f) ms) (fault_among m g (field_at m f).path ms) clear).1

-- an object of a tree of this generation
record IsClean (m : Mapping) (g : ℕ) (o : Object) : Type 0 where
  generation : (tree_of o).generation ≡ g
  free : IsFree m g (scope_at m (scope o)).path (content o)

children_clean : (m : Mapping) (g : ℕ) (o : Object) (n k : ℕ) (vs : Seq JsonValue) (path : Seq ℕ) (f : ℕ) → (tree_of o).generation ≡ g → (field_at m f).path ≡ (scope_at m n).path
    → AllByRecursion (IsClear m g f) vs → AllByRecursion (IsClean m g) (numbered o n k (filter is_object vs))
children_clean m g o n k [] path f e same all = tt
children_clean m g o n k (v ∷ vs) path f e same all =
    split (is_object v)
    (λ yes. rw yes (record { generation = e; free = subst (λ (p : Seq ℕ). IsFree m g p v) same (clear_object m g f v yes all.0) }, children_clean m g o n (k + 1) vs path f e same all.1))
    (λ no. rw no (children_clean m g o n k vs path f e same all.1))

kid_clean : (m : Mapping) (g : ℕ) (o : Object) (n : ℕ) → IsMapping m → AreReached m → IsKid m (scope o) n → IsClean m g o → AllByRecursion (IsClean m g) (children m o n)
unfolding given
kid_clean m g o n is reached kid clean =
    split (nat_le (scope_at m n).since (tree_of o).generation)
    (λ held.
    let field = reached.scopes n kid.positive kid.in_range in
    let since = field.3 in
    let known : (scope_at m n).since ≤ g = subst (λ (k : ℕ). (scope_at m n).since ≤ k) clean.generation (leb-true (scope_at m n).since (tree_of o).generation held) in
    let near = is.around n kid.positive kid.in_range in
    let home : outer m n ≡ scope o = kid.home in
    let over : lies_above (scope_at m (scope o)).path (field_at m field.0).path ≡ true = rw (sym home, field.2) near.above in
    let names : names_between (scope_at m (scope o)).path (field_at m field.0).path ≡ (scope_at m n).names = rw (sym home, field.2) (sym (is.names n kid.in_range)) in
    let leads : LeadsFrom m g (scope_at m (scope o)).path (scope_at m n).names field.0 =
    subst (λ (ns : Seq (Seq ℕ)). LeadsFrom m g (scope_at m (scope o)).path ns field.0) names (leads_down m g field.0 (scope_at m (scope o)).path reached field.1 (omega (arith, since, known)) over) in
    rw held (children_clean m g o n 0 (items (content o) (scope_at m n).names) (scope_at m n).path field.0 clean.generation field.2
    (free_items m g (scope_at m (scope o)).path (scope_at m n).names field.0 (content o) leads clean.free)))
    (λ failed. rw failed tt)

each_clean : (m : Mapping) (g left : ℕ) (o : Object) → IsMapping m → AreReached m → IsClean m g o → AllByRecursion (IsClean m g) (objects m left o)
each_clean m g zero o is reached clean = (clean, tt)
each_clean m g (suc left) o is reached clean =
    each_append (IsClean m g) (flat_map (λ n. flat_map (λ c. objects m left c) (children m o n)) (kids m (scope o))) (o ∷ [])
    (each_flat (IsClean m g) (λ n. flat_map (λ c. objects m left c) (children m o n)) (kids m (scope o))
    (each_from (IsKid m (scope o)) (λ (n : ℕ). AllByRecursion (IsClean m g) (flat_map (λ c. objects m left c) (children m o n))) (λ n kid.
    each_flat (IsClean m g) (λ c. objects m left c) (children m o n)
    (each_from (IsClean m g) (λ (c : Object). AllByRecursion (IsClean m g) (objects m left c)) (λ c free. each_clean m g left c is reached free) (children m o n) (kid_clean m g o n is reached kid clean)))
    (kids m (scope o)) (each_kid m (scope o) is)))
    (clean, tt)

-- ---- their values

abbrev IsShort : Mapping → ℕ → FieldValue → Type 0
IsShort m f v = has_long_term (kind_at m f) v ≡ false

not_long : (f : ℕ) (kind : Kind) (v : FieldValue) → fault_converted f kind (Some v) ≡ None → has_long_term kind v ≡ false
not_long f kind v none =
    split (has_long_term kind v)
    (λ long. let never : Some (TermTooLong f) ≡ None = rw long at none in absurd (cc (never)))
    (λ short. short)

single_short : (m : Mapping) (g f : ℕ) (kind : Kind) (w : JsonValue) (v : FieldValue) → fault_single m g f kind w ≡ None → convert kind w ≡ Some v → has_long_term kind v ≡ false
single_short m g f Text w v none is = not_long f Text v (rw is at none)
single_short m g f Keyword w v none is = not_long f Keyword v (rw is at none)
single_short m g f Long w v none is = refl
single_short m g f Boolean w v none is = refl
single_short m g f Date w v none is = refl
single_short m g f Plain w v none is = refl
single_short m g f Nested w v none is = refl
single_short m g f Join w v none is = refl

-- what is no single value has none
pub null_none : (kind : Kind) → convert kind null ≡ None
unfolding convert
null_none Text = refl
null_none Keyword = refl
null_none Long = refl
null_none Boolean = refl
null_none Date = refl
null_none Plain = refl
null_none Nested = refl
null_none Join = refl

pub list_none : (kind : Kind) (ds : Elements) → convert kind (list ds) ≡ None
unfolding convert
list_none Text ds = refl
list_none Keyword ds = refl
list_none Long ds = refl
list_none Boolean ds = refl
list_none Date ds = refl
list_none Plain ds = refl
list_none Nested ds = refl
list_none Join ds = refl

pub object_none : (kind : Kind) (ms : Members) → convert kind (object ms) ≡ None
unfolding convert
object_none Text ms = refl
object_none Keyword ms = refl
object_none Long ms = refl
object_none Boolean ms = refl
object_none Date ms = refl
object_none Plain ms = refl
object_none Nested ms = refl
object_none Join ms = refl

item_short : (m : Mapping) (g f : ℕ) (path : Seq ℕ) (kind : Kind) (w : JsonValue) (v : FieldValue) → fault_at m g path f kind w ≡ None → convert kind w ≡ Some v → has_long_term kind v ≡ false
item_short m g f path kind null v none is = absurd (none-some v (sym (null_none kind) ∙ is))
item_short m g f path kind (list ds) v none is = absurd (none-some v (sym (list_none kind ds) ∙ is))
item_short m g f path kind (object ms) v none is = absurd (none-some v (sym (object_none kind ms) ∙ is))
item_short m g f path kind (bool b) v none is = single_short m g f kind (bool b) v none is
item_short m g f path kind (whole z) v none is = single_short m g f kind (whole z) v none is
item_short m g f path kind (text s) v none is = single_short m g f kind (text s) v none is

abbrev ShortIf : Mapping → ℕ → Option FieldValue → Type 0
ShortIf m f None = Unit {0}
ShortIf m f (Some v) = IsShort m f v

short_if : (m : Mapping) (g f : ℕ) (w : JsonValue) (o : Option FieldValue) → convert (kind_at m f) w ≡ o → IsClear m g f w → ShortIf m f o
short_if m g f w None is clear = tt
short_if m g f w (Some v) is clear = item_short m g f (field_at m f).path (kind_at m f) w v clear is

with_value : (m : Mapping) (f : ℕ) (t : JsonValue → Option FieldValue) (w : JsonValue) (ws : Seq JsonValue) (o : Option FieldValue) → t w ≡ o → ShortIf m f o → AllByRecursion (IsShort m f) (filter_map t ws)
    → AllByRecursion (IsShort m f) (filter_map t (w ∷ ws))
with_value m f t w ws None is short rest = rw is rest
with_value m f t w ws (Some v) is short rest = rw is (short, rest)

values_short : (m : Mapping) (g f : ℕ) (ws : Seq JsonValue) → AllByRecursion (IsClear m g f) ws → AllByRecursion (IsShort m f) (filter_map (convert (kind_at m f)) ws)
values_short m g f [] all = tt
values_short m g f (w ∷ ws) all =
    with_value m f (convert (kind_at m f)) w ws (convert (kind_at m f) w) refl (short_if m g f w (convert (kind_at m f) w) refl all.0) (values_short m g f ws all.1)

own_short : (m : Mapping) (g f : ℕ) (o : Object) → IsMapping m → AreReached m → f < length m.fields → home_of m f ≡ scope o → IsClean m g o → AllByRecursion (IsShort m f) (own_values m f o)
own_short m g f o is reached h home clean =
    split (knows m (tree_of o).generation f)
    (λ held.
    let known : (field_at m f).since ≤ g = subst (λ (k : ℕ). (field_at m f).since ≤ k) clean.generation (leb-true (field_at m f).since (tree_of o).generation held) in
    let over : lies_above (scope_at m (scope o)).path (field_at m f).path ≡ true = rw (sym home) (is.home f h).above in
    let leads : LeadsFrom m g (scope_at m (scope o)).path (names_to m f) f = rw home (leads_down m g f (scope_at m (scope o)).path reached h known over) in
    rw held (values_short m g f (items (content o) (names_to m f)) (free_items m g (scope_at m (scope o)).path (names_to m f) f (content o) leads clean.free)))
    (λ failed. rw failed tt)

at_home : (m : Mapping) (g f : ℕ) (os : Seq Object) → IsMapping m → AreReached m → f < length m.fields → AllByRecursion (IsClean m g) os → AllByRecursion (IsShort m f) (flat_map (own_values m f) (filter (stands_at (home_of m f)) os))
at_home m g f [] is reached h all = tt
at_home m g f (o ∷ os) is reached h all =
    let rest = at_home m g f os is reached h all.1 in
    split (stands_at (home_of m f) o)
    (λ held. rw held (each_append (IsShort m f) (own_values m f o) (flat_map (own_values m f) (filter (stands_at (home_of m f)) os)) (own_short m g f o is reached h (sym (eqb-true (scope o) (home_of m f) held)) all.0) rest))
    (λ failed. rw failed rest)

shown_short : (m : Mapping) (g f : ℕ) (o : Object) → IsMapping m → AreReached m → f < length m.fields → IsClean m g o → AllByRecursion (IsShort m f) (values m f o)
shown_short m g f o is reached h clean =
    split (home_of m f == scope o)
    (λ here. rw here (own_short m g f o is reached h (eqb-true (home_of m f) (scope o) here) clean))
    (λ other. split (shows m (tree_of o).generation f (scope o))
    (λ shown. subst (λ (vs : Seq FieldValue). AllByRecursion (IsShort m f) vs) (sym (shown_values m (home_of m f) f o is h shown (omega arith)))
    (at_home m g f (objects m (home_of m f) o) is reached h (each_clean m g (home_of m f) o is reached clean)))
    (λ hidden. rw (other, hidden) tt))

root_free : (m : Mapping) (tree : Tree) → IsMapping m → is_object tree.source ≡ true → first_fault m tree.generation tree.source ≡ None → IsClean m tree.generation (root tree)
unfolding first_fault
root_free m tree is object_is none = record { generation = refl; free = rw (ap (λ s. s.path) is.root) (source_free tree.source object_is none) }
  where
    source_free : (v : JsonValue) → is_object v ≡ true → fault_of_source m tree.generation v ≡ None → IsFree m tree.generation [] v
    source_free null is none = absurd (false≢true is)
    source_free (bool b) is none = absurd (false≢true is)
    source_free (whole z) is none = absurd (false≢true is)
    source_free (text s) is none = absurd (false≢true is)
    source_free (list ds) is none = absurd (false≢true is)
    source_free (object ms) is none = none

-- no object of a tree without a fault shows a value with a long term
pub no_long_values : (m : Mapping) (tree : Tree) (o : Object) (f : ℕ) → IsMapping m → AreReached m → is_object tree.source ≡ true → first_fault m tree.generation tree.source ≡ None
    → Contains (block_objects m tree) o → f < length m.fields → All (λ (v : FieldValue). has_long_term (kind_at m f) v ≡ false) (values m f o)
unfolding block_objects
no_long_values m tree o f is reached object_is none of h =
    let all = each_clean m tree.generation (length m.scopes) (root tree) is reached (root_free m tree is object_is none) in
    All-from_recursion (IsShort m f) (values m f o)
    (shown_short m tree.generation f o is reached h (All-contains (IsClean m tree.generation) (objects m (length m.scopes) (root tree)) o (All-from_recursion (IsClean m tree.generation) (objects m (length m.scopes) (root tree)) all) of))
