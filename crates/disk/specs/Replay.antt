-- Laws of the record of a disk in memory: what one call more makes of it. They serve proofs.
use Rattle.std.proofs.Common.{◌≡◌, ℕ, ◌<◌, ◌≤◌, ◌⊎◌, Bool, true, false, List, [], ◌∷◌, ◌++◌, length, take, None, Some, refl, sym, subst, inl, inr, ⊎_elim, arith}
use Rattle.std.proofs.lemmas.List.{take_all, take-append-le, length_push}
use Rattle.std.proofs.lemmas.Bool.{cases_lt}
use Rattle.disk.specs.Torn.{torn_same, torn_written, cut_same, cut_done}
use Rattle.disk.specs.Record.{FileRecord, DiskState, with_call, content_step, content_after, image_step, images_after, content_of, ImageOf, ImageSince, is_telling, told_by, content_told, ImageTold, SinceTold, moment_of}
use Rattle.disk.specs.declared.disk_call.DiskCall.{DiskCall}
use Rattle.disk.specs.declared.disk_call.DiskCall.TheVariants.{Look, Write, Cut, Sync}

-- ---- one call more

pub content_push : (calls : List DiskCall) (call : DiskCall) (bytes : List ℕ)
    → content_after (calls ++ call ∷ []) bytes ≡ content_step call (content_after calls bytes)
content_push [] call bytes = refl
content_push (first ∷ calls) call bytes = content_push calls call (content_step first bytes)

pub images_push : (calls : List DiskCall) (call : DiskCall) (bytes : List ℕ) (images : List ℕ → Type 0) (image : List ℕ)
    → images_after (calls ++ call ∷ []) bytes images image → image_step call (content_after calls bytes) (images_after calls bytes images) image
images_push [] call bytes images image is = is
images_push (first ∷ calls) call bytes images image is =
    images_push calls call (content_step first bytes) (image_step first bytes images) image is

pub images_pushed : (calls : List DiskCall) (call : DiskCall) (bytes : List ℕ) (images : List ℕ → Type 0) (image : List ℕ)
    → image_step call (content_after calls bytes) (images_after calls bytes images) image → images_after (calls ++ call ∷ []) bytes images image
images_pushed [] call bytes images image is = is
images_pushed (first ∷ calls) call bytes images image is =
    images_pushed calls call (content_step first bytes) (image_step first bytes images) image is

-- ---- what a read gives is an image

pub content_image_step : (call : DiskCall) (bytes : List ℕ) (images : List ℕ → Type 0) → images bytes
    → image_step call bytes images (content_step call bytes)
content_image_step Look bytes images is = is
content_image_step (Write at new true) bytes images is = (bytes, is, torn_written at new bytes)
content_image_step (Write at new false) bytes images is = (bytes, is, torn_same at (length new) bytes)
content_image_step (Cut len true) bytes images is = (bytes, is, cut_done len bytes)
content_image_step (Cut len false) bytes images is = (bytes, is, cut_same len bytes)
content_image_step Sync bytes images is = refl

pub content_images : (calls : List DiskCall) (bytes : List ℕ) (images : List ℕ → Type 0) → images bytes
    → images_after calls bytes images (content_after calls bytes)
content_images [] bytes images is = is
content_images (call ∷ calls) bytes images is =
    content_images calls (content_step call bytes) (image_step call bytes images) (content_image_step call bytes images is)

pub content_image : (file : FileRecord) → ImageOf file (content_of file)
content_image file = content_images file.calls file.first (λ (it : List ℕ). it ≡ file.first) refl

-- ---- moments

along : (first image : List ℕ) (calls others : List DiskCall) → calls ≡ others
    → images_after calls first (λ it. it ≡ first) image → images_after others first (λ it. it ≡ first) image
along first image calls others same is = subst (λ (it : List DiskCall). images_after it first (λ it. it ≡ first) image) same is

pub now_since : (file : FileRecord) (moment : ℕ) (image : List ℕ) → moment ≤ length file.calls → ImageOf file image → ImageSince file moment image
now_since file moment image before is = record {
  count = length file.calls;
  from = before;
  until = omega arith;
  is = along file.first image file.calls (take (length file.calls) file.calls) (sym (take_all (length file.calls) file.calls (omega arith))) is;
}

pub since_now : (file : FileRecord) (image : List ℕ) → ImageSince file (length file.calls) image → ImageOf file image
since_now file image since =
    along file.first image (take since.count file.calls) file.calls (take_all since.count file.calls since.from) since.is

pub since_push : (call : DiskCall) (file : FileRecord) (moment : ℕ) (image : List ℕ) → ImageSince (with_call call file) moment image
    → ImageSince file moment image ⊎ ImageOf (with_call call file) image
since_push call file moment image since =
    ⊎_elim
    (λ (above : length file.calls < since.count). inr
    (along file.first image (take since.count (file.calls ++ call ∷ [])) (file.calls ++ call ∷ [])
    (take_all since.count (file.calls ++ call ∷ []) (omega (arith, length_push file.calls call))) since.is))
    (λ (below : since.count ≤ length file.calls). inl (record {
      count = since.count;
      from = since.from;
      until = below;
      is = along file.first image (take since.count (file.calls ++ call ∷ [])) (take since.count file.calls)
          (take-append-le since.count file.calls (call ∷ []) below) since.is;
    }))
    (cases_lt (length file.calls) since.count)

pub since_more : (call : DiskCall) (file : FileRecord) (moment : ℕ) (image : List ℕ) → ImageSince file moment image
    → ImageSince (with_call call file) moment image
since_more call file moment image since = record {
  count = since.count;
  from = since.from;
  until = omega (arith, since.until, length_push file.calls call);
  is = along file.first image (take since.count file.calls) (take since.count (file.calls ++ call ∷ []))
      (sym (take-append-le since.count file.calls (call ∷ []) since.until)) since.is;
}

-- ---- the laws of the trait

gives_by : (telling : Bool) (bytes image : List ℕ) → told_by telling bytes ≡ Some image → (telling ≡ true) × (bytes ≡ image)
gives_by true bytes image told = (refl, cc)
gives_by false bytes image told = cc

pub gives_image : (disk : DiskState) (bytes : List ℕ) → content_told disk ≡ Some bytes → ImageTold disk bytes
gives_image disk bytes told =
    let gives : (is_telling disk ≡ true) × (content_of disk.file ≡ bytes) = gives_by (is_telling disk) (content_of disk.file) bytes told in
    (gives.0, subst (ImageOf disk.file) gives.1 (content_image disk.file))

pub counts_now : (disk : DiskState) (since : ℕ) (bytes : List ℕ) → since ≤ moment_of disk → ImageTold disk bytes → SinceTold disk since bytes
counts_now disk since bytes before is = (is.0, now_since disk.file since bytes before is.1)

pub only_now : (disk : DiskState) (bytes : List ℕ) → SinceTold disk (moment_of disk) bytes → ImageTold disk bytes
only_now disk bytes since = (since.0, since_now disk.file bytes since.1)

-- a disk that tells nothing doesn't tell these bytes
pub untold : {P : Type 0} (bytes : List ℕ) → None ≡ Some bytes → P
untold bytes told = cc
