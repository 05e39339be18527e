-- What was read where a slot leads, as what the file shows.
use Rattle.std.proofs.Common.{◌≡◌, ℕ, ◌<◌, ◌≤◌, ◌^◌, not, List, Option, sym, ap}
use Rattle.commit_store.specs.Saying.{StoreCommit, Found, last_generation}
use Rattle.mapping.specs.Mapping.{Mapping}
use Rattle.segment.specs.Live.{EntryState}
use Rattle.store_text.specs.Header.{other}
use Rattle.store_text.specs.Read.{IsSlot}
use Rattle.store_text.specs.declared.header.Header.{Header}
use Rattle.store_text.specs.declared.header.Side.{Side}
use Rattle.store_text.specs.declared.header.Slot.{Slot}
use Rattle.store_text.specs.declared.record.RecordText.{RecordText}
use Rattle.store_opening.specs.declared.commit.CommitRead.{CommitRead}
use Rattle.store_opening.specs.Entries.{IsSaid, StandsSaid}
use Rattle.store_opening.specs.Shown.{LeadsTo, ShowsCommit}
use Rattle.store_opening.proofs.Led.{led, none_led}
use Rattle.store_opening.proofs.Sourced.{BlockLaws}

pub shows_led : BlockLaws → (limit : ℕ) (file : List ℕ) (header : Header) (side : Side) (own idle : Slot) (commit : CommitRead) → LeadsTo header side file → IsSlot side own file
    → IsSlot (other side) idle file → 1 ≤ own.generation → own.generation ≤ last_generation → IsSaid limit own.at own.len commit.record commit.mapping commit.view
    → StandsSaid own.at own.len commit.record commit.mapping commit.view file
    → ShowsCommit limit (record { side = side; generation = own.generation; at = own.at; len = own.len; closed = not idle.is_open; commit = commit }) file
shows_led laws limit file header side own idle commit leads is rests first last said stands =
    let read = led limit file header side own commit.record commit.mapping commit.view laws leads.has leads.counts is first last said stands in
    record {
      commit = read.commit;
      finds = read.finds;
      side = read.side_is;
      generation = read.generation_is;
      of_commit = read.of_commit;
      shut = ap not rests.gate;
    }

pub shows_none : BlockLaws → (limit : ℕ) (file : List ℕ) (header : Header) (side : Side) (own : Slot) → limit ≤ 2 ^ 38 → own.generation < 2 ^ 64 → own.at < 2 ^ 64 → own.len < 2 ^ 64
    → LeadsTo header side file → IsSlot side own file
    → (1 ≤ own.generation → own.generation ≤ last_generation → (it : RecordText) (m : Mapping) (view : List EntryState) → IsSaid limit own.at own.len it m view → StandsSaid own.at own.len it m view file → ⊥)
    → (found : Option StoreCommit) → Found limit file found → ⊥
shows_none laws limit file header side own few generation-fits at-fits len-fits leads is none =
    none_led limit file header side own laws few generation-fits at-fits len-fits leads.has leads.counts is none
