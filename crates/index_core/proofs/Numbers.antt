-- Ids in a map that is ordered by their bytes.
use Rattle.std.proofs.Common.{◌≡◌, ℕ, List, Bool, true, false, cond, Option, refl, sym, ap, ◌∙◌, Ordering, Less, Equal, Greater, nat_cmp, Vec}
use Rattle.std.proofs.lemmas.Bool.{false_from_ne_true}
use Rattle.std.proofs.lemmas.Map.Lookups.{exact_bytes}
use Rattle.std.proofs.lemmas.Slice.Eq.{bytes_eq-Decides}
use Rattle.std.specs.BTreeMap.{BTreeMap, UpdatesBy, get_by, is_at}
use Rattle.std.specs.Cmp.Lexicographic.{slice_cmp}
use Rattle.std.specs.Global.{Global}
use Rattle.std.specs.Map.{KeepsOthers, IsKeyTest, AreApart, lookup}
use Rattle.std.specs.Ordering.{is_eq, eq_by_cmp}
use Rattle.std.specs.Str.{bytes_eq}

abbrev pub Key : Type 0
Key = Vec ℕ Global

abbrev pub key_cmp : Key → Key → Ordering
key_cmp x y = slice_cmp nat_cmp x.items y.items

abbrev pub id_cmp : List ℕ → Key → Ordering
id_cmp id key = slice_cmp nat_cmp id key.items

equal : (o : Ordering) → is_eq o ≡ true → o ≡ Equal
equal Less e = absurd (cc (e))
equal Greater e = absurd (cc (e))
equal Equal e = refl

-- a key that is found has the id
found_exactly : (id : List ℕ) (k : Key) → is_at (id_cmp id) k ≡ true → id ≡ k.items
found_exactly id k e = exact_bytes id k.items (equal (slice_cmp nat_cmp id k.items) e)

other_entries : (test : Key → Bool) (old new : List (Key × ℕ)) → KeepsOthers (eq_by_cmp key_cmp) test old new → (other : Key → Bool) → IsKeyTest (eq_by_cmp key_cmp) other → AreApart test other → lookup other new ≡ lookup other old
unfolding KeepsOthers
other_entries test old new h = h

is_key_test : (id : List ℕ) → IsKeyTest (eq_by_cmp key_cmp) (is_at (id_cmp id))
is_key_test id x y e = ap (λ bytes. is_eq (slice_cmp nat_cmp bytes y.items)) (found_exactly id x e)

apart : (id other : List ℕ) → bytes_eq id other ≡ false → AreApart (is_at (id_cmp id)) (is_at (id_cmp other))
apart id other differ k e =
    false_from_ne_true (is_at (id_cmp other) k) (λ same. no (sym differ ∙ (bytes_eq-Decides id other).1 (found_exactly id k e ∙ sym (found_exactly other k same))))
  where
    no : false ≡ true → ⊥
    no e = cc (e)

-- what was written under an id
pub updates_ids : (id : List ℕ) (old new : BTreeMap Key ℕ) (number : Option ℕ) → UpdatesBy key_cmp (id_cmp id) old new number → (other : List ℕ) → get_by (id_cmp other) new ≡ cond (bytes_eq id other) number (get_by (id_cmp other) old)
updates_ids id old new number changes other = by (bytes_eq id other) refl
  where
    by : (b : Bool) → bytes_eq id other ≡ b → get_by (id_cmp other) new ≡ cond b number (get_by (id_cmp other) old)
    by true same = ap (λ i. get_by (id_cmp i) new) (sym ((bytes_eq-Decides id other).0 same)) ∙ changes.1
    by false differ = other_entries (is_at (id_cmp id)) old.entries new.entries changes.3 (is_at (id_cmp other)) (is_key_test other) (apart id other differ)
