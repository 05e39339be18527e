-- Reading from left to right: what stands at the front of bytes, and the bytes behind it; None where nothing of the kind
-- stands there. An item of a list is read with the key of the one before it, which it has to follow.
use Rattle.std.specs.Prelude.{◌≡◌, ℕ, ℤ, zero, suc, List, [], ◌∷◌, length, take, drop, Bool, true, nat_lt, Option, Some, None, if◌then◌else◌}
use Rattle.std.specs.Int.{Width, w32, w64, byte_len, from_le_bytes, cast_signed}

abbrev pub Reader : Type 0 → Type 0
Reader X = List ℕ → Option (X × List ℕ)

infixl 10 ◌>>=◌
abbrev pub ◌>>=◌ : {A B : Type 0} → Option A → (A → Option B) → Option B
(Some x) >>= f = f x
None >>= f = None

abbrev pub number_at : Width → Reader ℕ
number_at w bytes = if nat_lt (length bytes) (byte_len w) then None else Some (from_le_bytes w (take (byte_len w) bytes), drop (byte_len w) bytes)

unfoldable pub u32_at : Reader ℕ
u32_at bytes = number_at w32 bytes

unfoldable pub u64_at : Reader ℕ
u64_at bytes = number_at w64 bytes

unfoldable pub i64_at : Reader ℤ
i64_at bytes = do
  number ← u64_at bytes
  Some (cast_signed w64 number.0, number.1)

unfoldable pub string_at : Reader (List ℕ)
string_at bytes = do
  count ← u32_at bytes
  if nat_lt (length count.1) count.0 then None else Some (take count.0 count.1, drop count.0 count.1)

-- one thing, and another behind it
abbrev pub both_at : {B X Y : Type 0} → (B → Reader X) → Reader Y → B → Reader (X × Y)
both_at one other before bytes = do
  first ← one before bytes
  second ← other first.1
  Some ((first.0, second.0), second.1)

-- a thing that passes a test beside the key before it
abbrev pub tested_at : {B X : Type 0} → (B → X → Bool) → Reader X → B → Reader X
tested_at test item before bytes = do
  read ← item bytes
  if test before read.0 then Some read else None

-- what a value that was read makes
abbrev pub made_at : {B X Y : Type 0} → (X → Y) → (B → Reader X) → B → Reader Y
made_at make item before bytes = do
  read ← item before bytes
  Some (make read.0, read.1)

-- the first of a list passes any such test
abbrev pub follows : {K : Type 0} → (K → K → Bool) → Option K → K → Bool
follows comes_before None key = true
follows comes_before (Some before) key = comes_before before key

-- so many items, each read with the key of the one before it
unfoldable pub many_at : {K X : Type 0} → (X → K) → (Option K → Reader X) → Option K → ℕ → Reader (List X)
many_at key item before zero bytes = Some ([], bytes)
many_at key item before (suc count) bytes = do
  first ← item before bytes
  others ← many_at key item (Some (key first.0)) count first.1
  Some (first.0 ∷ others.0, others.1)

-- a list behind its number
unfoldable pub counted_at : {K X : Type 0} → Reader ℕ → (X → K) → (Option K → Reader X) → Reader (List X)
counted_at number key item bytes = do
  count ← number bytes
  many_at key item None count.0 count.1

-- what a function gives is what reading gives
abbrev pub Gives : {X Y : Type 0} → (X → Y) → Option X → Option Y → Type 0
Gives view None read = read ≡ None
Gives view (Some result) read = read ≡ Some (view result)

-- an item was read, and its key and the bytes behind it are these
pub record IsKeyed {X K : Type 0} (key : X → K) (read : Option (X × List ℕ)) (own : K) (rest : List ℕ) : Type 0 where
  pub item : X
  pub is : read ≡ Some (item, rest)
  pub named : key item ≡ own

-- a function gives the key of what reading gives, and the bytes behind it
abbrev pub GivesKey : {R X K : Type 0} → (X → K) → (R → K) → (R → List ℕ) → Option R → Option (X × List ℕ) → Type 0
GivesKey key own rest None read = read ≡ None
GivesKey key own rest (Some result) read = IsKeyed key read (own result) (rest result)
