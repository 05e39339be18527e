-- The calls up to the last sync, and those behind it.
use Rattle.std.proofs.Common.{◌≡◌, ℕ, zero, suc, ◌+◌, ◌<◌, ◌≤◌, Bool, true, false, cond, List, [], ◌∷◌, ◌++◌, length, get_or, take, drop, refl, ◌∙◌, ap, add-one, arith}
use Rattle.std.specs.List.{list_any}
use Rattle.std.proofs.lemmas.List.{take_more, length-take-le}
use Rattle.disk.specs.Choices.{is_sync, settled, settled_step}
use Rattle.disk.specs.declared.disk_call.DiskCall.{DiskCall}
use Rattle.disk.specs.declared.disk_call.DiskCall.TheVariants.{Look, Write, Cut, Sync}

settled_step_push : (first sync : Bool) (count length : ℕ)
    → settled_step first (cond sync (length + 1) count) ≡ cond sync (suc length + 1) (settled_step first count)
settled_step_push first true count length = rw (add-one length, add-one (suc length))
settled_step_push first false count length = refl

pub settled_push : (calls : List DiskCall) (call : DiskCall) → settled (calls ++ call ∷ []) ≡ cond (is_sync call) (length calls + 1) (settled calls)
settled_push [] call = refl
settled_push (first ∷ calls) call =
    ap (settled_step (is_sync first)) (settled_push calls call) ∙ settled_step_push (is_sync first) (is_sync call) (settled calls) (length calls)

pub settled_more : (calls : List DiskCall) (index : ℕ) (call : DiskCall) → index < length calls
    → settled (take (index + 1) calls) ≡ cond (is_sync (get_or calls index call)) (index + 1) (settled (take index calls))
settled_more calls index call below =
    ap settled (take_more calls index call below)
    ∙ settled_push (take index calls) (get_or calls index call)
    ∙ ap (λ (n : ℕ). cond (is_sync (get_or calls index call)) (n + 1) (settled (take index calls))) (length-take-le index calls (omega arith))

-- no sync is behind the last one
rest_step : (call : DiskCall) (calls : List DiskCall) (count : ℕ) → list_any is_sync (drop count calls) ≡ false
    → list_any is_sync (drop (settled_step (is_sync call) count) (call ∷ calls)) ≡ false
rest_step Look calls zero none = none
rest_step (Write at bytes done) calls zero none = none
rest_step (Cut len done) calls zero none = none
rest_step Sync calls zero none = none
rest_step call calls (suc count) none = none

pub none_behind_settled : (calls : List DiskCall) → list_any is_sync (drop (settled calls) calls) ≡ false
none_behind_settled [] = refl
none_behind_settled (call ∷ calls) = rest_step call calls (settled calls) (none_behind_settled calls)

within_step : (sync : Bool) (count length : ℕ) → count ≤ length → settled_step sync count ≤ suc length
within_step true zero length within = omega arith
within_step false zero length within = omega arith
within_step sync (suc count) length within = omega arith

pub settled_within : (calls : List DiskCall) → settled calls ≤ length calls
settled_within [] = omega arith
settled_within (call ∷ calls) = within_step (is_sync call) (settled calls) (length calls) (settled_within calls)
