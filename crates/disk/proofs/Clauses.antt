-- Each clause of the trait, from what one call makes of a disk in memory.
use Rattle.std.proofs.Common.{◌≡◌, ℕ, ◌-◌, ◌==◌, min, ◌⊎◌, Bool, true, false, List, length, take, drop, Option, Some, Result, Ok, Err, refl, sym, ◌∙◌, ap, subst, inl, inr, ⊎_elim, arith}
use Rattle.std.specs.Prelude.{OnOk, OnErr}
use Rattle.std.proofs.lemmas.Bool.{false≢true}
use Rattle.io_edges.specs.Calls.{one_more}
use Rattle.disk.specs.Memory.{written}
use Rattle.disk.specs.Stops.{IsTold, LenOf, FrontOf, Stays, TakesAll, CutsAll, Torn, Cut as MayCut, Follows, Allows, Within, Only}
use Rattle.disk.specs.Record.{FileRecord, DiskState, Turns, with_call, content_step, image_step, content_of, ImageOf, is_telling, told_by, content_told, ImageTold, after_call, after_no_room}
use Rattle.disk.specs.Replay.{content_push, images_push, images_pushed, content_image}
use Rattle.disk.specs.declared.disk_call.DiskCall.{DiskCall}
use Rattle.disk.specs.declared.disk_call.DiskCall.TheVariants.{Look, Write, Cut, Sync}

-- ---- what became of a disk

-- it has one call more in its record
pub record Entered (call : DiskCall) (old new : DiskState) : Type 0 where
  pub file : new.file ≡ with_call call old.file
  pub room : new.no_room ≡ old.no_room

-- it found no memory, and tells nothing
pub record Lost (old new : DiskState) : Type 0 where
  pub file : new.file ≡ old.file
  pub silent : is_telling new ≡ false

entered : (call : DiskCall) (old new : DiskState) → new ≡ after_call call old → Entered call old new
entered call old new is = record { file = ap (λ (it : DiskState). it.file) is; room = ap (λ (it : DiskState). it.no_room) is }

one_more_than_none : (n : ℕ) → (one_more n == 0) ≡ false
one_more_than_none n = grind arith

lost : (old new : DiskState) → new ≡ after_no_room old → Lost old new
lost old new is = record { file = ap (λ (it : DiskState). it.file) is; silent = ap is_telling is ∙ one_more_than_none old.no_room }

failed_turn : {T E : Type 0} (done failed : DiskCall) (old new : DiskState) (why : E) → Turns {T = T} done failed old new (Err why)
    → Entered failed old new ⊎ Lost old new
failed_turn done failed old new why turn =
    ⊎_elim (λ it. inl (entered failed old new it.1)) (λ it. inr (lost old new it)) turn.err

-- a call that is entered the same whether it failed or not
same_turn : {T E : Type 0} (call : DiskCall) (old new : DiskState) (result : Result T E) → Turns call call old new result
    → Entered call old new ⊎ Lost old new
same_turn call old new (Ok value) turn = inl (entered call old new turn.ok.1)
same_turn call old new (Err why) turn = failed_turn call call old new why turn

-- ---- telling

told_is : (telling : Bool) (bytes : List ℕ) → IsTold (told_by telling bytes) → telling ≡ true
told_is true bytes told = refl
told_is false bytes told = absurd told

is_told : (telling : Bool) (bytes : List ℕ) → telling ≡ true → IsTold (told_by telling bytes)
is_told true bytes is = tt
is_told false bytes is = absurd (false≢true is)

silent_tells : {P : Type 0} (old new : DiskState) → Lost old new → IsTold (content_told new) → P
silent_tells old new it told = absurd (false≢true (sym it.silent ∙ told_is (is_telling new) (content_of new.file) told))

telling_before : (call : DiskCall) (old new : DiskState) → Entered call old new → is_telling new ≡ true → is_telling old ≡ true
telling_before call old new it telling = ap (λ (n : ℕ). n == 0) (sym it.room) ∙ telling

telling_after : (call : DiskCall) (old new : DiskState) → Entered call old new → is_telling old ≡ true → is_telling new ≡ true
telling_after call old new it telling = ap (λ (n : ℕ). n == 0) it.room ∙ telling

content_entered : (call : DiskCall) (old new : DiskState) → Entered call old new
    → content_told new ≡ told_by (is_telling old) (content_step call (content_of old.file))
content_entered call old new it =
    ap (λ (n : ℕ). told_by (n == 0) (content_of new.file)) it.room
    ∙ ap (λ (file : FileRecord). told_by (is_telling old) (content_of file)) it.file
    ∙ ap (told_by (is_telling old)) (content_push old.file.calls call old.file.first)

-- ---- images

image_before : (call : DiskCall) (old new : DiskState) (image : List ℕ) → Entered call old new → ImageTold new image
    → (is_telling old ≡ true) × image_step call (content_of old.file) (ImageOf old.file) image
image_before call old new image it is = (
  telling_before call old new it is.0,
  images_push old.file.calls call old.file.first (λ (it : List ℕ). it ≡ old.file.first) image
      (subst (λ (file : FileRecord). ImageOf file image) it.file is.1),
)

image_behind : (call : DiskCall) (old new : DiskState) (image : List ℕ) → Entered call old new → is_telling old ≡ true
    → image_step call (content_of old.file) (ImageOf old.file) image → ImageTold new image
image_behind call old new image it telling is = (
  telling_after call old new it telling,
  subst (λ (file : FileRecord). ImageOf file image) (sym it.file)
      (images_pushed old.file.calls call old.file.first (λ (it : List ℕ). it ≡ old.file.first) image is),
)

silent_image : {P : Type 0} (old new : DiskState) (image : List ℕ) → Lost old new → ImageTold new image → P
silent_image old new image it is = absurd (false≢true (sym it.silent ∙ is.0))

within_looked : (old new : DiskState) → Entered Look old new ⊎ Lost old new → Within (ImageTold new) (ImageTold old)
within_looked old new turn image is =
    ⊎_elim (λ (it : Entered Look old new). image_before Look old new image it is) (λ (it : Lost old new). silent_image old new image it is) turn

pub looked_images : {T E : Type 0} (old new : DiskState) (result : Result T E) → Turns Look Look old new result
    → Within (ImageTold new) (ImageTold old)
looked_images old new result turn = within_looked old new (same_turn Look old new result turn)

allowed_looked : (old new : DiskState) → Entered Look old new ⊎ Lost old new → IsTold (content_told new) → Within (ImageTold old) (ImageTold new)
allowed_looked old new turn told image is =
    ⊎_elim (λ (it : Entered Look old new). image_behind Look old new image it is.0 is.1) (λ (it : Lost old new). silent_tells old new it told) turn

pub looked_allowed : {T E : Type 0} (old new : DiskState) (result : Result T E) → Turns Look Look old new result
    → IsTold (content_told new) → Within (ImageTold old) (ImageTold new)
looked_allowed old new result turn = allowed_looked old new (same_turn Look old new result turn)

-- ---- writes

wrote_turn : {T E : Type 0} (at : ℕ) (bytes : List ℕ) (old new : DiskState) (result : Result T E)
    → Turns (Write at bytes true) (Write at bytes false) old new result → ((done : Bool) × Entered (Write at bytes done) old new) ⊎ Lost old new
wrote_turn at bytes old new (Ok value) turn = inl (true, entered (Write at bytes true) old new turn.ok.1)
wrote_turn at bytes old new (Err why) turn =
    ⊎_elim (λ it. inl (false, it)) (λ it. inr it) (failed_turn (Write at bytes true) (Write at bytes false) old new why turn)

pub wrote_images : {T E : Type 0} (at : ℕ) (bytes : List ℕ) (old new : DiskState) (result : Result T E)
    → Turns (Write at bytes true) (Write at bytes false) old new result → Follows (Torn at (length bytes)) (ImageTold old) (ImageTold new)
wrote_images at bytes old new result turn image is =
    ⊎_elim
    (λ (one : (done : Bool) × Entered (Write at bytes done) old new).
    let was = image_before (Write at bytes one.0) old new image one.1 is in
    (was.1.0, (was.0, was.1.1), was.1.2))
    (λ (it : Lost old new). silent_image old new image it is)
    (wrote_turn at bytes old new result turn)

pub wrote_allowed : {T E : Type 0} (at : ℕ) (bytes : List ℕ) (old new : DiskState) (result : Result T E)
    → Turns (Write at bytes true) (Write at bytes false) old new result → IsTold (content_told new)
    → Allows (Torn at (length bytes)) (ImageTold old) (ImageTold new)
wrote_allowed at bytes old new result turn told before image is torn =
    ⊎_elim
    (λ (one : (done : Bool) × Entered (Write at bytes done) old new).
    image_behind (Write at bytes one.0) old new image one.1 is.0 (before, is.1, torn))
    (λ (it : Lost old new). silent_tells old new it told)
    (wrote_turn at bytes old new result turn)

takes_all : (at : ℕ) (bytes file : List ℕ) (telling : Bool) (new : Option (List ℕ)) → new ≡ told_by telling (written at bytes file)
    → TakesAll at bytes (told_by telling file) new
takes_all at bytes file true new is = is
takes_all at bytes file false new is = is

pub wrote_content : {T E : Type 0} (at : ℕ) (bytes : List ℕ) (old new : DiskState) (result : Result T E)
    → Turns (Write at bytes true) (Write at bytes false) old new result → OnOk result (TakesAll at bytes (content_told old) (content_told new))
wrote_content at bytes old new (Ok value) turn =
    takes_all at bytes (content_of old.file) (is_telling old) (content_told new)
    (content_entered (Write at bytes true) old new (entered (Write at bytes true) old new turn.ok.1))
wrote_content at bytes old new (Err why) turn = tt

-- ---- cuts

cut_turn : {T E : Type 0} (len : ℕ) (old new : DiskState) (result : Result T E)
    → Turns (Cut len true) (Cut len false) old new result → ((done : Bool) × Entered (Cut len done) old new) ⊎ Lost old new
cut_turn len old new (Ok value) turn = inl (true, entered (Cut len true) old new turn.ok.1)
cut_turn len old new (Err why) turn =
    ⊎_elim (λ it. inl (false, it)) (λ it. inr it) (failed_turn (Cut len true) (Cut len false) old new why turn)

pub cut_images : {T E : Type 0} (len : ℕ) (old new : DiskState) (result : Result T E)
    → Turns (Cut len true) (Cut len false) old new result → Follows (MayCut len) (ImageTold old) (ImageTold new)
cut_images len old new result turn image is =
    ⊎_elim
    (λ (one : (done : Bool) × Entered (Cut len done) old new).
    let was = image_before (Cut len one.0) old new image one.1 is in
    (was.1.0, (was.0, was.1.1), was.1.2))
    (λ (it : Lost old new). silent_image old new image it is)
    (cut_turn len old new result turn)

pub cut_allowed : {T E : Type 0} (len : ℕ) (old new : DiskState) (result : Result T E)
    → Turns (Cut len true) (Cut len false) old new result → IsTold (content_told new)
    → Allows (MayCut len) (ImageTold old) (ImageTold new)
cut_allowed len old new result turn told before image is cut =
    ⊎_elim
    (λ (one : (done : Bool) × Entered (Cut len done) old new).
    image_behind (Cut len one.0) old new image one.1 is.0 (before, is.1, cut))
    (λ (it : Lost old new). silent_tells old new it told)
    (cut_turn len old new result turn)

cuts_all : (len : ℕ) (file : List ℕ) (telling : Bool) (new : Option (List ℕ)) → new ≡ told_by telling (take len file)
    → CutsAll len (told_by telling file) new
cuts_all len file true new is = is
cuts_all len file false new is = is

pub cut_content : {T E : Type 0} (len : ℕ) (old new : DiskState) (result : Result T E)
    → Turns (Cut len true) (Cut len false) old new result → OnOk result (CutsAll len (content_told old) (content_told new))
cut_content len old new (Ok value) turn =
    cuts_all len (content_of old.file) (is_telling old) (content_told new)
    (content_entered (Cut len true) old new (entered (Cut len true) old new turn.ok.1))
cut_content len old new (Err why) turn = tt

-- ---- syncs

pub synced_content : {T E : Type 0} (old new : DiskState) (result : Result T E) → Turns Sync Look old new result
    → OnOk result (content_told new ≡ content_told old)
synced_content old new (Ok value) turn = content_entered Sync old new (entered Sync old new turn.ok.1)
synced_content old new (Err why) turn = tt

pub synced_only : {T E : Type 0} (old new : DiskState) (result : Result T E) → Turns Sync Look old new result
    → OnOk result (Only (content_told new) (ImageTold new))
synced_only old new (Ok value) turn = λ image is.
    let it : Entered Sync old new = entered Sync old new turn.ok.1 in
    let was : (is_telling old ≡ true) × (image ≡ content_of old.file) = image_before Sync old new image it is in
    content_entered Sync old new it
    ∙ ap (λ (telling : Bool). told_by telling (content_of old.file)) was.0
    ∙ ap (λ (bytes : List ℕ). Some bytes) (sym was.1)
synced_only old new (Err why) turn = tt

pub synced_images : {T E : Type 0} (old new : DiskState) (result : Result T E) → Turns Sync Look old new result
    → Within (ImageTold new) (ImageTold old)
synced_images old new (Ok value) turn = λ image is.
    let was : (is_telling old ≡ true) × (image ≡ content_of old.file) = image_before Sync old new image (entered Sync old new turn.ok.1) is in
    (was.0, subst (ImageOf old.file) (sym was.1) (content_image old.file))
synced_images old new (Err why) turn = within_looked old new (failed_turn Sync Look old new why turn)

pub synced_allowed : {T E : Type 0} (old new : DiskState) (result : Result T E) → Turns Sync Look old new result
    → OnErr result (IsTold (content_told new) → Within (ImageTold old) (ImageTold new))
synced_allowed old new (Ok value) turn = tt
synced_allowed old new (Err why) turn = allowed_looked old new (failed_turn Sync Look old new why turn)

-- ---- calls that look

pub looked_content : {T E : Type 0} (old new : DiskState) (result : Result T E) → Turns Look Look old new result
    → Stays (content_told old) (content_told new) result
looked_content old new (Ok value) turn = content_entered Look old new (entered Look old new turn.ok.1)
looked_content old new (Err why) turn = λ told.
    ⊎_elim (λ (it : Entered Look old new). content_entered Look old new it) (λ (it : Lost old new). silent_tells old new it told)
    (failed_turn Look Look old new why turn)

len_by : (telling : Bool) (bytes : List ℕ) → LenOf (told_by telling bytes) (length bytes)
len_by true bytes = refl
len_by false bytes = tt

pub len_told : (disk : DiskState) → LenOf (content_told disk) (length (content_of disk.file))
len_told disk = len_by (is_telling disk) (content_of disk.file)

front_by : (telling : Bool) (file : List ℕ) (at n : ℕ) (into : List ℕ) → n ≡ min (length into) (length file - at)
    → take n into ≡ take n (drop at file) → FrontOf (told_by telling file) at n into
front_by true file at n into most bytes = record { bytes = bytes; inside = omega arith; some = λ some below. omega arith }
front_by false file at n into most bytes = tt

pub front_told : (disk : DiskState) (at n : ℕ) (into : List ℕ) → n ≡ min (length into) (length (content_of disk.file) - at)
    → take n into ≡ take n (drop at (content_of disk.file)) → FrontOf (content_told disk) at n into
front_told disk at n into most bytes = front_by (is_telling disk) (content_of disk.file) at n into most bytes

pub content_looked : {T E : Type 0} (old new : DiskState) (value : T) → Turns {E = E} Look Look old new (Ok value)
    → content_of new.file ≡ content_of old.file
content_looked old new value turn =
    ap (λ (it : DiskState). content_of it.file) turn.ok.1 ∙ content_push old.file.calls Look old.file.first
