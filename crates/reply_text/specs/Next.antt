-- Which entry of an object comes next, in the words of the look-up that finds it.
use Rattle.std.specs.Prelude.{◌≡◌, ◌<◌, ◌&&◌, ℕ, List, [], ◌∷◌, Bool, true, false, Option, Some, None, if◌then◌else◌, length, slice_index_or}
use Rattle.std.specs.Ordering.{nat_cmp, is_lt}
use Rattle.std.specs.Cmp.Lexicographic.{slice_cmp}
use Rattle.reply_text.specs.Object.{Entry, in_order}

abbrev pub is_less : List ℕ → List ℕ → Bool
is_less one other = is_lt (slice_cmp nat_cmp one other)

-- whether a name comes after the last one that was written, if there is one
abbrev pub is_above : Option (List ℕ) → List ℕ → Bool
is_above None name = true
is_above (Some last) name = is_less last name

-- of two entries the one whose name comes first, the found one where they have one name
abbrev pub nearer : Entry → Option Entry → Option Entry
nearer new None = Some new
nearer new (Some found) = if is_less new.0 found.0 then Some new else Some found

-- the same, of an entry that counts only above the last name
abbrev pub closer : Option (List ℕ) → Option Entry → Entry → Option Entry
closer last found new = if is_above last new.0 then nearer new found else found

abbrev pub closest : Option (List ℕ) → Option Entry → List Entry → Option Entry
closest last found [] = found
closest last found (e ∷ es) = closest last (closer last found e) es

-- what is left of ordered entries above the last name
abbrev pub above : Option (List ℕ) → List Entry → List Entry
above last [] = []
above last (e ∷ es) = if is_above last e.0 then e ∷ es else above last es

-- the entry that comes next after the last name, or none where none is left
abbrev pub IsNext : Option (List ℕ) → List Entry → Option Entry → Type 0
IsNext last es None = above last (in_order es) ≡ []
IsNext last es (Some e) = above last (in_order es) ≡ e ∷ above (Some e.0) (in_order es)

-- do names rise, from the last one on?
abbrev pub rise : Option (List ℕ) → List Entry → Bool
rise last [] = true
rise last (e ∷ es) = is_above last e.0 && rise (Some e.0) es

-- none of the first so many comes after the last name
abbrev pub ArePassed : Option (List ℕ) → List Entry → ℕ → Type 0
ArePassed last es at = (k : ℕ) (d : Entry) → k < at → k < length es → is_above last (slice_index_or es k d).0 ≡ false
