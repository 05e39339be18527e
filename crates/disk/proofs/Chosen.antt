-- The image that a list of choices names is one that a stop in the call may leave.
use Rattle.std.proofs.Common.{◌≡◌, ℕ, ◌+◌, ◌<◌, ◌≤◌, ◌⊎◌, ◌&&◌, Bool, true, false, List, [], ◌∷◌, ◌++◌, length, get_or, take, drop, refl, sym, ◌∙◌, ap, subst, inl, inr, ⊎_elim, append_assoc, arith}
use Rattle.std.specs.List.{list_any}
use Rattle.std.specs.Option.{option_to_list}
use Rattle.std.proofs.lemmas.List.{take_more, take-take, take-append-drop, drop-append-le, length-take-le}
use Rattle.std.proofs.lemmas.List.Folds.{list_any-append}
use Rattle.std.proofs.lemmas.Bool.{false≢true}
use Rattle.disk.specs.Memory.{written}
use Rattle.disk.specs.Stops.{Torn, Cut as MayCut}
use Rattle.disk.specs.Torn.{torn_same, torn_written, cut_same, cut_done}
use Rattle.disk.specs.Record.{FileRecord, content_step, content_after, image_step, images_after, ImageSince, after_calls}
use Rattle.disk.specs.Replay.{content_images}
use Rattle.disk.specs.Choices.{is_sync, settled, unsettled, pending_at, pending_of, pending_in, fits_one, fits, write_chosen, cut_chosen, chosen, chosen_image}
use Rattle.disk.specs.declared.disk_call.DiskCall.{DiskCall}
use Rattle.disk.specs.declared.disk_call.DiskCall.TheVariants.{Look, Write, Cut, Sync}
use Rattle.disk.specs.declared.pending.Pending.TheVariants.{Written, Cut as PendingCut}
use Rattle.disk.specs.declared.choice.Choice.{Choice}
use Rattle.disk.specs.declared.choice.Choice.TheVariants.{Old, New, Given}
use Rattle.disk.proofs.Settled.{none_behind_settled, settled_within}

-- ---- without a sync among the calls

both : (a b : Bool) → (a && b) ≡ true → (a ≡ true) × (b ≡ true)
both true b is = (refl, is)
both false b is = absurd (false≢true is)

write_torn : (choice : Choice) (at : ℕ) (bytes file : List ℕ) → fits_one choice (Written at (length bytes)) ≡ true
    → Torn at (length bytes) file (write_chosen choice at bytes file)
write_torn Old at bytes file fit = torn_same at (length bytes) file
write_torn New at bytes file fit = torn_written at bytes file
write_torn (Given given) at bytes file fit =
    let long : length given ≡ length bytes = grind arith in
    subst (λ (n : ℕ). Torn at n file (written at given file)) long (torn_written at given file)

cut_torn : (choice : Choice) (len : ℕ) (file : List ℕ) → fits_one choice (PendingCut len) ≡ true → MayCut len file (cut_chosen choice len file)
cut_torn Old len file fit = cut_same len file
cut_torn New len file fit = cut_done len file
cut_torn (Given given) len file fit = absurd (false≢true fit)

images_append : (calls others : List DiskCall) (bytes : List ℕ) (images : List ℕ → Type 0) (image : List ℕ)
    → images_after others (content_after calls bytes) (images_after calls bytes images) image → images_after (calls ++ others) bytes images image
images_append [] others bytes images image is = is
images_append (call ∷ calls) others bytes images image is =
    images_append calls others (content_step call bytes) (image_step call bytes images) image is

chosen_images : (choices : List Choice) (calls : List DiskCall) (bytes : List ℕ) (images : List ℕ → Type 0) (file : List ℕ)
    → list_any is_sync calls ≡ false → fits choices (pending_of calls) ≡ true → images file → images_after calls bytes images (chosen choices calls file)
chosen_images choices [] bytes images file none fit is = is
chosen_images choices (Look ∷ calls) bytes images file none fit is = chosen_images choices calls bytes images file none fit is
chosen_images [] (Write at new done ∷ calls) bytes images file none fit is = absurd (false≢true fit)
chosen_images (choice ∷ choices) (Write at new done ∷ calls) bytes images file none fit is =
    let fit2 : (fits_one choice (Written at (length new)) ≡ true) × (fits choices (pending_of calls) ≡ true) =
    both (fits_one choice (Written at (length new))) (fits choices (pending_of calls)) fit in
    chosen_images choices calls (content_step (Write at new done) bytes) (image_step (Write at new done) bytes images) (write_chosen choice at new file)
    none fit2.1 (file, is, write_torn choice at new file fit2.0)
chosen_images [] (Cut len done ∷ calls) bytes images file none fit is = absurd (false≢true fit)
chosen_images (choice ∷ choices) (Cut len done ∷ calls) bytes images file none fit is =
    let fit2 : (fits_one choice (PendingCut len) ≡ true) × (fits choices (pending_of calls) ≡ true) =
    both (fits_one choice (PendingCut len)) (fits choices (pending_of calls)) fit in
    chosen_images choices calls (content_step (Cut len done) bytes) (image_step (Cut len done) bytes images) (cut_chosen choice len file)
    none fit2.1 (file, is, cut_torn choice len file fit2.0)
chosen_images choices (Sync ∷ calls) bytes images file none fit is = absurd (false≢true (sym none))

-- ---- the call itself

chosen_sync : (choices : List Choice) (calls : List DiskCall) (file : List ℕ) → chosen choices (calls ++ Sync ∷ []) file ≡ chosen choices calls file
chosen_sync choices [] file = refl
chosen_sync choices (Look ∷ calls) file = chosen_sync choices calls file
chosen_sync [] (Write at new done ∷ calls) file = chosen_sync [] calls file
chosen_sync (choice ∷ choices) (Write at new done ∷ calls) file = chosen_sync choices calls (write_chosen choice at new file)
chosen_sync [] (Cut len done ∷ calls) file = chosen_sync [] calls file
chosen_sync (choice ∷ choices) (Cut len done ∷ calls) file = chosen_sync choices calls (cut_chosen choice len file)
chosen_sync choices (Sync ∷ calls) file = chosen_sync choices calls file

pending_sync : (calls : List DiskCall) → pending_of (calls ++ Sync ∷ []) ≡ pending_of calls
pending_sync [] = refl
pending_sync (call ∷ calls) = ap (λ pending. option_to_list (pending_at call) ++ pending) (pending_sync calls)

-- the calls up to the last sync, those behind it, and the last call
stop_at : (choices : List Choice) (first : List ℕ) (kept rest : List DiskCall) → list_any is_sync rest ≡ false → fits choices (pending_of rest) ≡ true
    → images_after (kept ++ rest) first (λ it. it ≡ first) (chosen choices rest (content_after kept first))
stop_at choices first kept rest none fit =
    images_append kept rest first (λ (it : List ℕ). it ≡ first) (chosen choices rest (content_after kept first))
    (chosen_images choices rest (content_after kept first) (images_after kept first (λ (it : List ℕ). it ≡ first)) (content_after kept first) none fit
    (content_images kept first (λ (it : List ℕ). it ≡ first) refl))

none_with : (rest : List DiskCall) (last : DiskCall) → is_sync last ≡ false → list_any is_sync rest ≡ false → list_any is_sync (rest ++ last ∷ []) ≡ false
none_with rest last other none = rw (list_any-append is_sync rest (last ∷ []), none, other)

stop_behind : (choices : List Choice) (first : List ℕ) (kept rest : List DiskCall) (last : DiskCall) → is_sync last ≡ false → list_any is_sync rest ≡ false
    → fits choices (pending_of (rest ++ last ∷ [])) ≡ true
    → images_after ((kept ++ rest) ++ last ∷ []) first (λ it. it ≡ first) (chosen choices (rest ++ last ∷ []) (content_after kept first))
stop_behind choices first kept rest last other none fit =
    subst (λ (calls : List DiskCall). images_after calls first (λ it. it ≡ first) (chosen choices (rest ++ last ∷ []) (content_after kept first)))
    (sym (append_assoc kept rest (last ∷ [])))
    (stop_at choices first kept (rest ++ last ∷ []) (none_with rest last other none) fit)

stop_in : (choices : List Choice) (first : List ℕ) (kept rest : List DiskCall) (last : DiskCall) → list_any is_sync rest ≡ false
    → fits choices (pending_of (rest ++ last ∷ [])) ≡ true
    → images_after (kept ++ rest) first (λ it. it ≡ first) (chosen choices (rest ++ last ∷ []) (content_after kept first))
    ⊎ images_after ((kept ++ rest) ++ last ∷ []) first (λ it. it ≡ first) (chosen choices (rest ++ last ∷ []) (content_after kept first))
stop_in choices first kept rest Look none fit = inr (stop_behind choices first kept rest Look refl none fit)
stop_in choices first kept rest (Write at new done) none fit = inr (stop_behind choices first kept rest (Write at new done) refl none fit)
stop_in choices first kept rest (Cut len done) none fit = inr (stop_behind choices first kept rest (Cut len done) refl none fit)
stop_in choices first kept rest Sync none fit =
    inl (subst (λ (image : List ℕ). images_after (kept ++ rest) first (λ it. it ≡ first) image)
    (sym (chosen_sync choices rest (content_after kept first)))
    (stop_at choices first kept rest none (ap (fits choices) (sym (pending_sync rest)) ∙ fit)))

pub chosen_stops : (choices : List Choice) (file : FileRecord) (call : ℕ) → call < length file.calls
    → fits choices (pending_in file.calls call) ≡ true → ImageSince (after_calls (call + 1) file) call (chosen_image choices file call)
chosen_stops choices file call below fit =
    let before : List DiskCall = take call file.calls in
    let last : DiskCall = get_or file.calls call Look in
    let count : ℕ = settled before in
    let long : length before ≡ call = length-take-le call file.calls (omega arith) in
    let within : count ≤ length before = settled_within before in
    let upto : take (call + 1) file.calls ≡ before ++ last ∷ [] = take_more file.calls call Look below in
    let rest : unsettled file.calls call ≡ drop count before ++ last ∷ [] =
    ap (drop count) upto ∙ drop-append-le count before (last ∷ []) within in
    let kept : take count file.calls ≡ take count before = sym (take-take count call file.calls (omega arith)) in
    let whole : take count before ++ drop count before ≡ before = take-append-drop count before in
    let image : chosen choices (drop count before ++ last ∷ []) (content_after (take count before) file.first) ≡ chosen_image choices file call =
    sym (ap (λ (calls : List DiskCall). chosen choices calls (content_after (take count file.calls) file.first)) rest
    ∙ ap (λ (calls : List DiskCall). chosen choices (drop count before ++ last ∷ []) (content_after calls file.first)) kept) in
    ⊎_elim
    (λ is. record {
      count = call;
      from = omega arith;
      until = omega (arith, length-take-le (call + 1) file.calls (omega arith));
      is = subst (λ (it : List ℕ). images_after (take call (take (call + 1) file.calls)) file.first (λ it. it ≡ file.first) it) image
          (subst (λ (calls : List DiskCall). images_after calls file.first (λ it. it ≡ file.first)
          (chosen choices (drop count before ++ last ∷ []) (content_after (take count before) file.first)))
          (whole ∙ sym (take-take call (call + 1) file.calls (omega arith))) is);
    })
    (λ is. record {
      count = call + 1;
      from = omega arith;
      until = omega (arith, length-take-le (call + 1) file.calls (omega arith));
      is = subst (λ (it : List ℕ). images_after (take (call + 1) (take (call + 1) file.calls)) file.first (λ it. it ≡ file.first) it) image
          (subst (λ (calls : List DiskCall). images_after calls file.first (λ it. it ≡ file.first)
          (chosen choices (drop count before ++ last ∷ []) (content_after (take count before) file.first)))
          (ap (λ (calls : List DiskCall). calls ++ last ∷ []) whole ∙ sym upto
          ∙ sym (take-take (call + 1) (call + 1) file.calls (omega arith))) is);
    })
    (stop_in choices file.first (take count before) (drop count before) last (none_behind_settled before)
    (ap (λ (calls : List DiskCall). fits choices (pending_of calls)) (sym rest) ∙ fit))
