-- What a stop may leave of a disk's one file, and what each call does to that.
--
-- A disk that tells its content says of each list of bytes whether a stop now may leave it: these are its images. Between two
-- syncs that succeed each written range, and the part past the old end, may come to hold any bytes, and all else stays.
use Rattle.std.specs.Prelude.{◌≡◌, ℕ, ◌+◌, ◌-◌, ◌<◌, ◌≤◌, min, max, ⊤, ◌⊎◌, List, length, take, drop, Option, None, Some, Result, MatchResult}
use Rattle.disk.specs.Memory.{written}

-- ---- what is told

-- the object tells the bytes of its file
abbrev pub IsTold : Option (List ℕ) → Type 0
IsTold None = ⊥
IsTold (Some bytes) = ⊤

-- A length, where the disk tells its content.
abbrev pub LenOf : Option (List ℕ) → ℕ → Type 0
LenOf None len = ⊤
LenOf (Some file) len = len ≡ length file

-- a call for the length gave it
abbrev pub GivesLen : {E : Type 0} → Option (List ℕ) → Result ℕ E → Type 0
GivesLen content result = MatchResult result (LenOf content) (λ _. ⊤)

-- So many bytes are those of the file from an offset on. Into a piece that isn't empty a read gives at least one byte below
-- the file's end, and none from there on.
pub record Front (file : List ℕ) (at n : ℕ) (into : List ℕ) : Type 0 where
  pub bytes : take n into ≡ take n (drop at file)
  pub inside : n ≤ length file - at
  pub some : 0 < length into → at < length file → 0 < n

abbrev pub FrontOf : Option (List ℕ) → ℕ → ℕ → List ℕ → Type 0
FrontOf None at n into = ⊤
FrontOf (Some file) at n into = Front file at n into

abbrev pub GivesBytes : {E : Type 0} → Option (List ℕ) → ℕ → Result ℕ E → List ℕ → Type 0
GivesBytes content at result into = MatchResult result (λ n. FrontOf content at n into) (λ _. ⊤)

-- ---- what a call leaves to be read

-- After a call that only looks a read gives what it gave; one that failed may tell nothing from then on.
abbrev pub Stays : {T E : Type 0} → Option (List ℕ) → Option (List ℕ) → Result T E → Type 0
Stays old new result = MatchResult result (λ _. new ≡ old) (λ _. IsTold new → new ≡ old)

-- after a write of these bytes at an offset a read gives them there, zeros in a gap before them, and all else as before
abbrev pub TakesAll : ℕ → List ℕ → Option (List ℕ) → Option (List ℕ) → Type 0
TakesAll at bytes None new = new ≡ None
TakesAll at bytes (Some file) new = new ≡ Some (written at bytes file)

-- after a cut to a length the bytes from there on are gone; a file that isn't longer stays as it is
abbrev pub CutsAll : ℕ → Option (List ℕ) → Option (List ℕ) → Type 0
CutsAll len None new = new ≡ None
CutsAll len (Some file) new = new ≡ Some (take len file)

-- ---- what a stop leaves

-- A write of `n` bytes at an offset may leave any bytes in its range and past the old end, and any length from the old one to
-- its own end; all else stays.
pub record Torn (at n : ℕ) (old new : List ℕ) : Type 0 where
  pub before : take (min at (length old)) new ≡ take at old
  pub after : drop (at + n) new ≡ drop (at + n) old
  pub no_shorter : length old ≤ length new
  pub no_longer : length new ≤ max (length old) (at + n)

-- A cut to a length may leave any length from that one to the old one, and any bytes past it.
pub record Cut (len : ℕ) (old new : List ℕ) : Type 0 where
  pub front : take len new ≡ take len old
  pub no_shorter : min len (length old) ≤ length new
  pub no_longer : length new ≤ length old

-- each image now is what a step leaves of an image before
abbrev pub Follows : (List ℕ → List ℕ → Type 0) → (List ℕ → Type 0) → (List ℕ → Type 0) → Type 0
Follows step old new = (image : List ℕ) → new image → (before : List ℕ) × old before × step before image

-- all that a step leaves of an image before is an image now
abbrev pub Allows : (List ℕ → List ℕ → Type 0) → (List ℕ → Type 0) → (List ℕ → Type 0) → Type 0
Allows step old new = (before image : List ℕ) → old before → step before image → new image

abbrev pub Within : (List ℕ → Type 0) → (List ℕ → Type 0) → Type 0
Within small great = (image : List ℕ) → small image → great image

-- no image but what a read gives
abbrev pub Only : Option (List ℕ) → (List ℕ → Type 0) → Type 0
Only content images = (image : List ℕ) → images image → content ≡ Some image

-- ---- moments

-- Moments don't go back. Each image since a moment up to the first one, as seen at the second, was one then already, or is as
-- P says.
pub record Passes (before now : ℕ) (past since : ℕ → List ℕ → Type 0) (P : List ℕ → Type 0) : Type 0 where
  pub later : before ≤ now
  pub only : (moment : ℕ) (image : List ℕ) → moment ≤ before → since moment image → past moment image ⊎ P image

-- the images since a moment are not forgotten
abbrev pub Lasts : ℕ → (ℕ → List ℕ → Type 0) → (ℕ → List ℕ → Type 0) → Type 0
Lasts before past since = (moment : ℕ) (image : List ℕ) → moment ≤ before → past moment image → since moment image
