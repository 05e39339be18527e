-- How a commit ends, by what its call answers.
use Rattle.std.proofs.Common.{◌≡◌, ◌≢◌, ◌⊎◌, inl, inr, ℕ, ◌==◌, [], All, Contains, Some, None, Ok, Err, IsErrOf, refl, sym, ◌∙◌, ap, subst, eqb-true, true≢false, eq-eqb}
use Rattle.std.proofs.lemmas.List.Elements.{All-contains, All-contains_itself, All-weaker}
use Rattle.commit_store.specs.declared.refusal.CommitRefusal.{CommitRefusal}
use Rattle.commit_store.specs.declared.refusal.CommitRefusal.TheVariants as commits
use Rattle.commit_store.specs.Known.{StoreState}
use Rattle.commit_store.specs.Preparing.{IsLeft, room_of}
use Rattle.commit_store.specs.Saying.{HasSource, IsReadBack, last_generation}
use Rattle.extent_pool.specs.Placing.{Room}
use Rattle.flattener.specs.Block.{BlockState}
use Rattle.index_core.specs.Kept.{IndexFits, IndexState, layout_kept}
use Rattle.layout.proofs.Goes.{split}
use Rattle.layout.proofs.Settling.{sealed_emptied}
use Rattle.layout.specs.Layout.{Layout, sealed}
use Rattle.layout_ids.proofs.Items.{sealed_items}
use Rattle.layout_ids.specs.Items.{AllItems, items_of}
use Rattle.mapping.specs.Mapping.{Mapping}
use Rattle.reply_text.specs.declared.refusal.Refusal.TheVariants.{StoreFull, DiskFailure}
use Rattle.store_commands.specs.Commands.{AreKnown, HasEnded, HaveColumns, not_done_by}
use Rattle.store_compact.specs.Compacting.{IsCompacted, IsUntried}
use Rattle.store_commands.specs.declared.not_done.NotDone.{NotDone}
use Rattle.store_commands.specs.declared.not_done.NotDone.TheVariants.{Refused, NoMemory}
use Rattle.store_commands.specs.Ready.{IsReady}
use Rattle.store_commands.proofs.Known.{known_sealed}

-- the buffer of a sealed index is empty
pub emptied : (index index' : IndexState) → layout_kept index' ≡ sealed (layout_kept index) → index'.buffer ≡ []
emptied index index' layout = ap (λ (it : Layout BlockState). it.buffer) layout ∙ (sealed_emptied (layout_kept index)).buffer

-- sealed, it may be committed
pub ready : (m : Mapping) (index index' : IndexState) (store : StoreState) → layout_kept index' ≡ sealed (layout_kept index) → IndexFits m index' → AllItems HasSource (layout_kept index) → AreKnown (layout_kept index) store.known
    → All IsReadBack m.bodies → IsReady m index' store
ready m index index' store layout fits sources known read =
    let before = layout_kept index in
    let items = items_of (sealed before) in
    record {
      emptied = emptied index index' layout;
      fits = fits;
      sources = subst (AllItems HasSource) (sym layout)
          (All-weaker (Contains items) HasSource (λ item there. All-contains HasSource (items_of before) item sources (sealed_items before item there)) items (All-contains_itself items));
      known = known_sealed index index' store.known layout known;
      read = read;
    }

-- a commit is refused so
abbrev Refuses : CommitRefusal → CommitRefusal → Type 0
Refuses why other = IsErrOf {T = ℕ} (Err why) other

not_full : Refuses commits.DiskFault commits.StoreFull → ⊥
not_full same = cc

not_err : (count : ℕ) (why : CommitRefusal) → Ok count ≡ Err why → ⊥
not_err count why same = cc

module _ (m : Mapping) (most : ℕ) (before index : IndexState) (store store' : StoreState) (layout : layout_kept index ≡ sealed (layout_kept before)) (agree : HaveColumns index) where
  full_or : (store.tried ≡ last_generation) ⊎ (room_of store m index.entries ≡ None) → (store.tried ≡ last_generation) ⊎ ((store.tried ≢ last_generation) × (room_of store m index.entries ≡ None))
  full_or (inl last) = inl last
  full_or (inr none) =
      split (store.tried == last_generation)
      (λ last. inl (eqb-true store.tried last_generation last))
      (λ isnt. inr ((λ last. true≢false (sym (eq-eqb store.tried last_generation last) ∙ isnt)), none))

  pub refused : (why : CommitRefusal)
      → (Refuses why commits.StoreFull → IsUntried store store' × ((store.tried ≡ last_generation) ⊎ (room_of store m index.entries ≡ None)))
      → (store.tried ≡ last_generation → Refuses why commits.StoreFull)
      → (Refuses why commits.NoMemory → IsUntried store store')
      → (Refuses why commits.DiskFault → IsUntried store store' ⊎ ((room : Room) × (room_of store m index.entries ≡ Some room)))
      → IsLeft store store'
      → HasEnded m most (Err (not_done_by why)) before index store store'
  refused commits.StoreFull full last none fault left =
      let is = full refl in
      inl (refl, record { layout = layout; agree = agree; untried = is.0; full = full_or is.1 })
  refused commits.DiskFault full last none fault left =
      inr (refl, record { below = λ same. not_full (last same); layout = layout; agree = agree; left = left; tried = fault refl })
  refused commits.NoMemory full last none fault left = record { layout = inr layout; untried = none refl }

  pub done : (count : ℕ) → (store.tried ≡ last_generation → IsErrOf {T = ℕ} {E = CommitRefusal} (Ok count) commits.StoreFull) → IsCompacted store m index.entries most count store' → HasEnded m most (Ok count) before index store store'
  done count last is = record { below = λ same. not_err count commits.StoreFull (last same); layout = layout; agree = agree; compacted = is }

-- ---- faults of the disk

-- a command is refused so
abbrev pub IsRefusedAs : NotDone → NotDone → Type 0
IsRefusedAs why other = IsErrOf {T = ℕ} (Err why) other

full_failed : IsRefusedAs (Refused StoreFull) (Refused DiskFailure) → ⊥
full_failed same = cc

none_failed : IsRefusedAs NoMemory (Refused DiskFailure) → ⊥
none_failed same = cc

pub fault_by : (why : CommitRefusal) (P : Type 0) → (Refuses why commits.DiskFault → P) → IsRefusedAs (not_done_by why) (Refused DiskFailure) → P
fault_by commits.DiskFault P rose same = rose refl
fault_by commits.StoreFull P rose same = absurd (full_failed same)
fault_by commits.NoMemory P rose same = absurd (none_failed same)

full_fault : Refuses commits.StoreFull commits.DiskFault → ⊥
full_fault same = cc

none_fault : Refuses commits.NoMemory commits.DiskFault → ⊥
none_fault same = cc

pub no_fault_by : (why : CommitRefusal) (P : Type 0) → P ⊎ Refuses why commits.DiskFault → P ⊎ IsRefusedAs (not_done_by why) (Refused DiskFailure)
no_fault_by why P (inl same) = inl same
no_fault_by commits.DiskFault P (inr failed) = inr refl
no_fault_by commits.StoreFull P (inr failed) = absurd (full_fault failed)
no_fault_by commits.NoMemory P (inr failed) = absurd (none_fault failed)
