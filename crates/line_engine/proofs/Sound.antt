-- What `check` finds and prints.
use Rattle.std.proofs.Common.{◌≡◌, ◌≤◌, ◌⊎◌, ℕ, List, [], Option, None, Some, refl, sym, ap, subst, ◌∙◌, inl, inr, arith}
use Rattle.std.specs.List.{All}
use Rattle.commit_store.specs.Saying.{Found, StoreCommit, mapping_said}
use Rattle.flattener.specs.Fits.{SegmentFits}
use Rattle.index_core.specs.Kept.{AreBlocks, laid, last_number, made_by}
use Rattle.mapping.specs.Mapping.{Mapping}
use Rattle.reply_text.specs.Text.{reply_text}
use Rattle.reply_text.specs.declared.reply.Reply.TheVariants.{Checked}
use Rattle.segment.specs.Live.{EntryState}
use Rattle.store_check.specs.Held.{IsHeld}
use Rattle.store_opening.specs.Beginning.{IsOther}
use Rattle.store_opening.specs.Opening.{Inspects, IsInspected, IsWhole}
use Rattle.store_opening.specs.declared.opened.Inspected.{Inspected}
use Rattle.store_opening.specs.declared.refusal.OpenRefusal.{OpenRefusal}
use Rattle.store_opening.specs.declared.refusal.OpenRefusal.TheVariants as why
use Rattle.store_text.specs.Header.{magic}
use Rattle.store_text.specs.Pieces.{Stands}
use Rattle.line_engine.specs.Checked.{AreHeld, IsOfFile}
use Rattle.line_engine.specs.Exit.{status_unopened}
use Rattle.line_engine.specs.Printing.{Checks, IsChecked, IsSound, IsUnsound, Prints, checked, rows_of}
use Rattle.line_engine.specs.Run.{IsCaused, IsDamaged}
use Rattle.line_engine.specs.declared.status.Status.{Status}
use Rattle.line_engine.specs.declared.status.Status.TheVariants.{Done, BadWords, ReadFault, WriteFault, DiskFault, NotAStore, Damaged, SessionLimit, NoMemory}
use Rattle.line_engine.proofs.Beginning.{cause_unbegun, cause_unopened, counts_of}

-- ## what was read

sound_found : (found : Option StoreCommit) (it : Inspected) → IsInspected found it → AreHeld it.mapping it.view → IsSound found
sound_found None it is held = tt
sound_found (Some c) it is held =
    subst (λ (view : List EntryState). All (IsHeld (mapping_said c.says)) view) is.view (subst (λ (mapping : Option Mapping). AreHeld mapping it.view) is.mapping held)

held_found : (found : Option StoreCommit) (it : Inspected) → IsInspected found it → IsSound found → AreHeld it.mapping it.view
held_found None it is sound = subst (λ (mapping : Option Mapping). AreHeld mapping it.view) (sym is.mapping) tt
held_found (Some c) it is sound =
    subst (λ (mapping : Option Mapping). AreHeld mapping it.view) (sym is.mapping) (subst (λ (view : List EntryState). All (IsHeld (mapping_said c.says)) view) (sym is.view) sound)

pub of_file : (limit : ℕ) (bytes : List ℕ) (it : Inspected) → Inspects limit bytes it → AreHeld it.mapping it.view → IsOfFile limit bytes it
of_file limit bytes it inspects held = record {
  found = inspects.found;
  holds = inspects.there;
  sound = sound_found inspects.found it inspects.is held;
  is = inspects.is;
}

pub unsound_file : (limit : ℕ) (bytes : List ℕ) (it : Inspected) → Inspects limit bytes it → (AreHeld it.mapping it.view → ⊥) → IsUnsound limit bytes
unsound_file limit bytes it inspects unsound = record {
  found = inspects.found;
  holds = inspects.there;
  unsound = λ sound. unsound (held_found inspects.found it inspects.is sound);
}

pub no_commit : (limit : ℕ) (bytes : List ℕ) → Stands bytes magic × ((found : Option StoreCommit) → Found limit bytes found → ⊥) → IsDamaged limit bytes ⊎ IsUnsound limit bytes
no_commit limit bytes both = inl (record { begins = both.0; none = both.1 })

pub no_sound_commit : (limit : ℕ) (bytes : List ℕ) (it : Inspected) → Inspects limit bytes it → (AreHeld it.mapping it.view → ⊥) → IsDamaged limit bytes ⊎ IsUnsound limit bytes
no_sound_commit limit bytes it inspects unsound = inr (unsound_file limit bytes it inspects unsound)

-- ## what is printed

line_is : (found : Option StoreCommit) (it : Inspected) → IsInspected found it → Checked it.next (rows_of it.view) ≡ checked found
line_is None it is = rw (is.next, is.view) refl
line_is (Some c) it is = rw (is.next, is.view) refl

pub checked_file : (limit : ℕ) (bytes line : List ℕ) (it : Inspected) → IsOfFile limit bytes it → line ≡ reply_text (Checked it.next (rows_of it.view))
    → IsChecked limit bytes (λ (text : List ℕ). line ≡ text)
checked_file limit bytes line it of_it is = record {
  found = of_it.found;
  holds = of_it.holds;
  sound = of_it.sound;
  line = is ∙ ap reply_text (line_is of_it.found it of_it.is);
}

along : (limit : ℕ) (bytes line : List ℕ) (Is : List ℕ → Type 0) → IsChecked limit bytes (λ (text : List ℕ). line ≡ text) → Is line → IsChecked limit bytes Is
along limit bytes line Is it is = record { found = it.found; holds = it.holds; sound = it.sound; line = subst Is it.line is }

pub checks_printed : (status : Status) (limit : ℕ) (content taken taken' : Option (List ℕ)) (line : List ℕ) → ((bytes : List ℕ) → content ≡ Some bytes → IsChecked limit bytes (λ (text : List ℕ). line ≡ text))
    → Prints status taken taken' line → Checks status limit content taken taken'
checks_printed Done limit content taken taken' line it prints = λ bytes is. along limit bytes line (Prints Done taken taken') (it bytes is) prints
checks_printed BadWords limit content taken taken' line it prints = absurd prints
checks_printed ReadFault limit content taken taken' line it prints = absurd prints
checks_printed WriteFault limit content taken taken' line it prints = λ bytes is. along limit bytes line (Prints WriteFault taken taken') (it bytes is) prints
checks_printed DiskFault limit content taken taken' line it prints = tt
checks_printed NotAStore limit content taken taken' line it prints = absurd prints
checks_printed Damaged limit content taken taken' line it prints = absurd prints
checks_printed SessionLimit limit content taken taken' line it prints = absurd prints
checks_printed NoMemory limit content taken taken' line it prints = tt

pub checks_refused : (it : OpenRefusal) (limit : ℕ) (content taken taken' : Option (List ℕ)) → (it ≡ why.NotAStore → (bytes : List ℕ) → content ≡ Some bytes → IsOther bytes)
    → (it ≡ why.Damaged → (bytes : List ℕ) → content ≡ Some bytes → IsDamaged limit bytes ⊎ IsUnsound limit bytes) → Checks (status_unopened it) limit content taken taken'
checks_refused why.DiskFault limit content taken taken' other damaged = tt
checks_refused why.NotAStore limit content taken taken' other damaged = other refl
checks_refused why.Damaged limit content taken taken' other damaged = damaged refl
checks_refused why.NoMemory limit content taken taken' other damaged = tt

-- the disk's count of faults may stay under another name
pub cause_along : (status : Status) (source sink sink' faults faults' : ℕ) → faults' ≡ faults → IsCaused status (counts_of source sink faults) (counts_of source sink' faults)
    → IsCaused status (counts_of source sink faults) (counts_of source sink' faults')
cause_along status source sink sink' faults faults' same cause = subst (λ (disk : ℕ). IsCaused status (counts_of source sink faults) (counts_of source sink' disk)) (sym same) cause

-- ## the rows

nothing_laid : AreBlocks (laid [] [] (made_by [])) 0
nothing_laid = record { ascending = omega arith; ids = λ id. omega arith; few = omega arith; buffer = omega arith; made = omega arith }

pub whole_blocks : (mapping : Option Mapping) (next : ℕ) (view : List EntryState) → IsWhole mapping next view → AreBlocks (laid view [] (made_by view)) next
whole_blocks None next view whole =
    subst (λ (own : List EntryState). AreBlocks (laid own [] (made_by own)) next) (sym whole.1) (subst (λ (number : ℕ). AreBlocks (laid [] [] (made_by [])) number) (sym whole.0) nothing_laid)
whole_blocks (Some m) next view whole = whole.blocks

pub whole_next : (mapping : Option Mapping) (next : ℕ) (view : List EntryState) → IsWhole mapping next view → next ≤ last_number
whole_next None next view whole = subst (λ (number : ℕ). number ≤ last_number) (sym whole.0) (omega arith)
whole_next (Some m) next view whole = whole.few

pub whole_fits : (mapping : Option Mapping) (m : Mapping) (next : ℕ) (view : List EntryState) → IsWhole mapping next view → mapping ≡ Some m
    → All (λ (entry : EntryState). SegmentFits m entry.columns) view
whole_fits mapping m next view whole is = (subst (λ (it : Option Mapping). IsWhole it next view) is whole).fits

pub ruleset wholes = (whole_blocks, whole_next, whole_fits)

pub ruleset found = (of_file, no_commit, no_sound_commit)

pub ruleset prints = (checks_printed, checks_refused, cause_along, cause_unbegun, cause_unopened)
