-- What commits, compactions and trims answer, case by case, and what the store keeps then.
use Rattle.std.proofs.Common.{◌≡◌, ◌+◌, ◌<◌, ◌≤◌, ◌==◌, ℕ, zero, suc, max, nat_lt, Bool, true, false, cond, List, [], ◌∷◌, ◌++◌, Option, Some, None, unwrap_or, refl, sym, ap, subst, arith}
use Rattle.std.specs.List.{AllByRecursion, Contains}
use Rattle.std.proofs.Math.Nat.{le-max_left, le-max_right}
use Rattle.std.proofs.lemmas.Bool.{true≢false}
use Rattle.std.proofs.lemmas.Bool.Decides.{nat_tests}
use Rattle.std.proofs.lemmas.List.Elements.{Contains-append_left, Contains-append_right, Contains-push}
use Rattle.extent_pool.specs.Placing.{NamedExtent, Room, and_then, better, fit, if_before, last_before, last_ones, later_of, moved, moved_to, place_of, with_taken}
use Rattle.extent_pool.specs.declared.extent.Extent.{Extent}
use Rattle.layout.specs.Layout.{Layout, sealed}
use Rattle.mapping.specs.Mapping.{Mapping}
use Rattle.reply_text.specs.declared.refusal.Refusal.TheVariants.{NoMapping, StoreFull}
use Rattle.reply_text.specs.declared.reply.Reply.{Reply}
use Rattle.reply_text.specs.declared.reply.Reply.TheVariants.{Committed, Refused, Trimmed}
use Rattle.request_form.specs.Asked.{Asked, refused, asks}
use Rattle.request_form.specs.Command.{map_body, write, search, refresh, segments, open_pit, close_pit, force_merge, start_merge, advance_merge, finish_merge, abort_merge, commit, compact, trim, automerge}
use Rattle.tree_objects.specs.Tree.{Tree}
use Rattle.machine.specs.Answer.{Answer, refuses, answers, nothing, closing, Outcome, outcome_of, with_mapping}
use Rattle.machine.specs.Beside.{asks_so}
use Rattle.machine.specs.State.{State, sealed_state}
use Rattle.machine.specs.Step.{is_of_store, step}
use Rattle.machine.specs.Storing.{MovesDown, header, placed_segments, moves_in, room_in, last_generation, if_room, commit_done, commit_step, compact_done, compact_step, named_end, trim_step}
use Rattle.machine.specs.declared.limits.Limits.{Limits}

-- ---- case by case

pub mapped_by : (P : Outcome → Type 0) (before : State) (m : Option Mapping) (command : Mapping → Answer) → P (outcome_of before (refuses NoMapping)) → ((own : Mapping) → P (outcome_of before (command own)))
    → P (outcome_of before (with_mapping m command))
mapped_by P before None command none done = none
mapped_by P before (Some m) command none done = done m

either_by : (P : Outcome → Type 0) (before : State) (b : Bool) (one other : Answer) → P (outcome_of before one) → P (outcome_of before other) → P (outcome_of before (cond b one other))
either_by P before true one other first second = first
either_by P before false one other first second = second

room_by : (P : Outcome → Type 0) (before state : State) (room : Option Room) (command : Room → Answer) → P (record { need = closing; reply = Refused StoreFull; state = state })
    → ((own : Room) → room ≡ Some own → P (outcome_of before (command own))) → P (outcome_of before (if_room room command state))
room_by P before state None command full done = full
room_by P before state (Some room) command full done = done room refl

-- a commit has no generation left, or no room, or is done
pub commit_by : (P : Outcome → Type 0) (before : State) (limits : Limits) (sizes : List ℕ) (m : Mapping) (state : State) → P (record { need = nothing; reply = Refused StoreFull; state = state })
    → P (record { need = closing; reply = Refused StoreFull; state = state }) → ((room : Room) → room_in limits sizes m state ≡ Some room → P (outcome_of before (commit_done room [] (Committed state.content.next) state)))
    → P (outcome_of before (commit_step limits sizes m state))
unfolding commit_step
commit_by P before limits sizes m state last full done =
    let command : Room → Answer = λ room. commit_done room [] (Committed state.content.next) state in
    either_by P before (state.kept.generation == last_generation) (answers (Refused StoreFull) state) (if_room (room_in limits sizes m state) command state) last
    (room_by P before state (room_in limits sizes m state) command full done)

pub compact_by : (P : Outcome → Type 0) (before : State) (limits : Limits) (sizes : List ℕ) (most : ℕ) (m : Mapping) (state : State) → P (record { need = nothing; reply = Refused StoreFull; state = state })
    → P (record { need = closing; reply = Refused StoreFull; state = state }) → ((room : Room) → room_in limits sizes m state ≡ Some room → P (outcome_of before (compact_done limits most state room)))
    → P (outcome_of before (compact_step limits sizes most m state))
unfolding compact_step
compact_by P before limits sizes most m state last full done =
    either_by P before (state.kept.generation == last_generation) (answers (Refused StoreFull) state) (if_room (room_in limits sizes m state) (compact_done limits most state) state) last
    (room_by P before state (room_in limits sizes m state) (compact_done limits most state) full done)

-- ---- each command of the store, by the mapping

abbrev under_mapping : (P : Outcome → Type 0) (before : State) (m : Mapping) (command : Mapping → Answer) → before.content.mapping ≡ Some m → P (outcome_of before (command m))
    → P (outcome_of before (with_mapping before.content.mapping command))
under_mapping P before m command is done = subst (λ own. P (outcome_of before (with_mapping own command))) (sym is) done

abbrev Lays : Layout Tree → Outcome → Type 0
Lays layout outcome = outcome.state.layout ≡ layout

pub stored_sealed : (limits : Limits) (sizes : List ℕ) (state : State) (asked : Asked) (m : Mapping) → asks_so is_of_store asked ≡ true → state.content.mapping ≡ Some m
    → (step limits sizes state asked).state.layout ≡ sealed state.layout
unfolding step trim_step
stored_sealed limits sizes state (asks commit) m is mapping =
    under_mapping (Lays (sealed state.layout)) state m (λ own. commit_step limits sizes own (sealed_state state)) mapping
    (commit_by (Lays (sealed state.layout)) state limits sizes m (sealed_state state) refl refl (λ room found. refl))
stored_sealed limits sizes state (asks (compact most)) m is mapping =
    under_mapping (Lays (sealed state.layout)) state m (λ own. compact_step limits sizes most own (sealed_state state)) mapping
    (compact_by (Lays (sealed state.layout)) state limits sizes most m (sealed_state state) refl refl (λ room found. refl))
stored_sealed limits sizes state (asks trim) m is mapping =
    under_mapping (Lays (sealed state.layout)) state m (λ own. trim_step own (sealed_state state)) mapping refl
stored_sealed limits sizes state (refused why) m is mapping = absurd (true≢false (sym is))
stored_sealed limits sizes state (asks (map_body body)) m is mapping = absurd (true≢false (sym is))
stored_sealed limits sizes state (asks (write it)) m is mapping = absurd (true≢false (sym is))
stored_sealed limits sizes state (asks (search body)) m is mapping = absurd (true≢false (sym is))
stored_sealed limits sizes state (asks refresh) m is mapping = absurd (true≢false (sym is))
stored_sealed limits sizes state (asks segments) m is mapping = absurd (true≢false (sym is))
stored_sealed limits sizes state (asks open_pit) m is mapping = absurd (true≢false (sym is))
stored_sealed limits sizes state (asks (close_pit id)) m is mapping = absurd (true≢false (sym is))
stored_sealed limits sizes state (asks (force_merge most)) m is mapping = absurd (true≢false (sym is))
stored_sealed limits sizes state (asks (start_merge from count)) m is mapping = absurd (true≢false (sym is))
stored_sealed limits sizes state (asks (advance_merge id roots)) m is mapping = absurd (true≢false (sym is))
stored_sealed limits sizes state (asks (finish_merge id)) m is mapping = absurd (true≢false (sym is))
stored_sealed limits sizes state (asks (abort_merge id)) m is mapping = absurd (true≢false (sym is))
stored_sealed limits sizes state (asks (automerge factor)) m is mapping = absurd (true≢false (sym is))

-- ---- moves

abbrev IfAmong : List NamedExtent → Option NamedExtent → Type 0
IfAmong named None = Unit {0}
IfAmong named (Some it) = Contains named it

among_first : (it : NamedExtent) (others : List NamedExtent) → Contains (it ∷ others) it
among_first it others = Contains-append_left (it ∷ []) others it (Contains-push [] it)

among_later : (first it : NamedExtent) (others : List NamedExtent) → Contains others it → Contains (first ∷ others) it
among_later first it others there = Contains-append_right (first ∷ []) others it there

either_among : (named : List NamedExtent) (b : Bool) (one other : Option NamedExtent) → IfAmong named one → IfAmong named other → IfAmong named (cond b one other)
either_among named true one other first second = first
either_among named false one other first second = second

later_among : (place : ℕ) (named : NamedExtent) (others : List NamedExtent) (best : Option NamedExtent) → IfAmong others best → IfAmong (named ∷ others) (later_of place named best)
later_among place named others None there = either_among (named ∷ others) (nat_lt named.extent.at place) (Some named) None (among_first named others) tt
later_among place named others (Some best) there =
    let both : List NamedExtent = named ∷ others in
    either_among both (nat_lt named.extent.at place) (cond (nat_lt best.extent.at named.extent.at) (Some named) (Some best)) (Some best)
    (either_among both (nat_lt best.extent.at named.extent.at) (Some named) (Some best) (among_first named others) (among_later named best others there))
    (among_later named best others there)

last_among : (place : ℕ) (named : List NamedExtent) → IfAmong named (last_before place named)
last_among place [] = tt
last_among place (named ∷ others) = later_among place named others (last_before place others) (last_among place others)

then_among : (named : List NamedExtent) (it : Option NamedExtent) (others : List NamedExtent) → IfAmong named it → AllByRecursion (Contains named) others → AllByRecursion (Contains named) (and_then it others)
then_among named None others there all = tt
then_among named (Some it) others there all = (there, all)

ones_among : (most place : ℕ) (named : List NamedExtent) → AllByRecursion (Contains named) (last_ones most place named)
ones_among zero place named = tt
ones_among (suc most) place named =
    then_among named (last_before place named) (last_ones most (place_of (last_before place named)) named) (last_among place named) (ones_among most (place_of (last_before place named)) named)

-- an extent that is better stands before the place
abbrev IfBefore : ℕ → Option Extent → Type 0
IfBefore place None = Unit {0}
IfBefore place (Some extent) = extent.at < place

before_by : (place : ℕ) (extent : Extent) (b : Bool) → nat_lt extent.at place ≡ b → IfBefore place (cond b (Some extent) None)
before_by place extent true is = grind (arith, nat_tests)
before_by place extent false is = tt

better_before : (place : ℕ) (extent : Option Extent) → IfBefore place (if_before place extent)
better_before place None = tt
better_before place (Some extent) = before_by place extent (nat_lt extent.at place) refl

move_down : (before : List NamedExtent) (named : NamedExtent) (extent : Option Extent) (others : List NamedExtent) → Contains before named → IfBefore named.extent.at extent
    → AllByRecursion (MovesDown before) others → AllByRecursion (MovesDown before) (moved_to named extent others)
move_down before named None others there lower all = all
move_down before named (Some extent) others there lower all = ((named, there, refl, lower), all)

all_down : (limit : ℕ) (taken : List Extent) (before named : List NamedExtent) → AllByRecursion (Contains before) named → AllByRecursion (MovesDown before) (moved limit taken named)
all_down limit taken before [] all = tt
all_down limit taken before (named ∷ others) all =
    move_down before named (better limit taken named) (moved limit (with_taken (better limit taken named) taken) others) all.0
    (better_before named.extent.at (fit limit taken named.extent.len)) (all_down limit (with_taken (better limit taken named) taken) before others all.1)

pub moves_down : (limits : Limits) (most : ℕ) (room : Room) (state : State) → AllByRecursion (MovesDown (placed_segments state)) (moves_in limits most room state)
moves_down limits most room state =
    all_down limits.store_bytes (room.record_extent ∷ room.segments ++ header ∷ state.kept.taken) (placed_segments state) (last_ones most limits.store_bytes (placed_segments state))
    (ones_among most limits.store_bytes (placed_segments state))

-- ---- the end

abbrev EndsBy : ℕ → Extent → Type 0
EndsBy bytes extent = extent.at + extent.len ≤ bytes

all_later : (bytes more : ℕ) → bytes ≤ more → (taken : List Extent) → AllByRecursion (EndsBy bytes) taken → AllByRecursion (EndsBy more) taken
all_later bytes more below [] all = tt
all_later bytes more below (extent ∷ taken) all = (omega (arith, below, all.0), all_later bytes more below taken all.1)

end_bounds : (taken : List Extent) → (2048 ≤ named_end taken) × AllByRecursion (EndsBy (named_end taken)) taken
end_bounds [] = (omega arith, tt)
end_bounds (extent ∷ taken) =
    let rest = end_bounds taken in
    let first = le-max_left (extent.at + extent.len) (named_end taken) in
    let later = le-max_right (extent.at + extent.len) (named_end taken) in
    (omega (arith, rest.0, later), (first, all_later (named_end taken) (max (extent.at + extent.len) (named_end taken)) later taken rest.1))

abbrev bytes_told : Reply → Option ℕ
bytes_told (Trimmed bytes) = Some bytes
bytes_told reply = None

-- where a trim tells the bytes of the file, these are so many
abbrev Ends : State → Outcome → Type 0
Ends before outcome = (bytes : ℕ) → bytes_told outcome.reply ≡ Some bytes → (2048 ≤ bytes) × AllByRecursion (EndsBy bytes) before.kept.taken

some_is : (n bytes : ℕ) → Some n ≡ Some bytes → n ≡ bytes
some_is n bytes e = ap (λ o. unwrap_or o n) e

none_is : (bytes : ℕ) → None ≡ Some bytes → ⊥
none_is bytes e = cc

trim_ends : (limits : Limits) (sizes : List ℕ) (state : State) → Ends state (step limits sizes state (asks trim))
unfolding step trim_step
trim_ends limits sizes state =
    mapped_by (Ends state) state state.content.mapping (λ m. trim_step m (sealed_state state)) (λ bytes told. absurd (none_is bytes told))
    (λ m bytes told. subst (λ n. (2048 ≤ n) × AllByRecursion (EndsBy n) state.kept.taken) (some_is (named_end state.kept.taken) bytes told) (end_bounds state.kept.taken))

pub trim_bounds : (limits : Limits) (sizes : List ℕ) (state : State) (bytes : ℕ) → (step limits sizes state (asks trim)).reply ≡ Trimmed bytes
    → (2048 ≤ bytes) × AllByRecursion (λ (extent : Extent). extent.at + extent.len ≤ bytes) state.kept.taken
trim_bounds limits sizes state bytes told = trim_ends limits sizes state bytes (ap bytes_told told)
