-- Which first keys the rows of a page have: none stands before that of the row to go on behind, and none behind a bound that
-- as many rows reach as the page may hold.
use Rattle.std.specs.Prelude.{◌≡◌, ℕ, ◌≤◌, Bool, true, false, not, cond, List, Option, Some, None, ⊤, refl}
use Rattle.std.specs.List.{count_by}
use Rattle.std.specs.Ordering.{is_lt}
use Rattle.std.specs.Coded.{Coded, code_by, coded_list, coded_option, coded_ℕ, coded×}
use Rattle.query_ast.specs.Page.{first_key, key_cmp}
use Rattle.query_ast.specs.declared.sort.Direction.{Direction}
use Rattle.query_ast.specs.declared.sort.Key.{Key}
use Rattle.query_ast.specs.declared.sort.KeyRow.{KeyRow}
use Rattle.query_ast.specs.contracts.sort.Direction as direction_row
use Rattle.query_ast.specs.contracts.sort.Key as key_of_row

abbrev pub first_of_row : KeyRow → Key
first_of_row row = first_key row.keys

abbrev pub key_before : Direction → Key → Key → Bool
key_before d one other = is_lt (key_cmp d one other)

-- not before that of the row to go on behind
abbrev pub is_late : Direction → Option Key → Key → Bool
is_late d None key = true
is_late d (Some after) key = not (key_before d key after)

-- strictly behind that
abbrev pub is_next : Direction → Option Key → Key → Bool
is_next d None key = true
is_next d (Some after) key = key_before d after key

-- not behind a bound
abbrev pub is_near : Direction → Option Key → Key → Bool
is_near d None key = true
is_near d (Some bound) key = not (key_before d bound key)

abbrev pub is_within : Direction → Option Key → Option Key → Key → Bool
is_within d after bound key = cond (is_late d after key) (is_near d bound key) false

-- of these keys so many stand behind that of the row to go on behind and reach the bound
abbrev pub IsWide : ℕ → Direction → Option Key → Option Key → List Key → Type 0
IsWide most d after None keys = ⊤
IsWide most d after (Some bound) keys = most ≤ count_by (λ key. cond (is_next d after key) (is_near d (Some bound) key) false) keys

-- ---- the first keys that were met

-- of a page of so many rows: the bound, and some of the keys that reach it
pub record Met : Type 0 where
  pub direction : Direction
  pub after : Option Key
  pub most : ℕ
  pub bound : Option Key
  pub keys : List Key

-- of all keys that were met those that are kept stand behind the row to go on behind
pub record AreMet (all : List Key) (met : Met) : Type 0 where
  pub counted : (test : Key → Bool) → count_by test met.keys ≤ count_by (λ key. cond (is_next met.direction met.after key) (test key) false) all
  pub wide : IsWide met.most met.direction met.after met.bound all

-- for a page as before, with no more keys within reach
pub record IsNarrower (old new : Met) : Type 0 where
  pub direction : new.direction ≡ old.direction
  pub after : new.after ≡ old.after
  pub most : new.most ≡ old.most
  pub within : (key : Key) → is_near old.direction new.bound key ≡ true → is_near old.direction old.bound key ≡ true

abbrev pub met_code : Coded Met
met_code =
    code_by (Direction × (Option Key × (ℕ × (Option Key × List Key))))
    (coded× direction_row.the_row.coded (coded× (coded_option key_of_row.the_row.coded) (coded× coded_ℕ (coded× (coded_option key_of_row.the_row.coded) (coded_list key_of_row.the_row.coded)))))
    (λ met. (met.direction, (met.after, (met.most, (met.bound, met.keys)))))
    (λ p. record { direction = p.0; after = p.1.0; most = p.1.1.0; bound = p.1.1.1.0; keys = p.1.1.1.1 }) (λ met. refl)
