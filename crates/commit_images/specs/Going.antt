-- Laws of the steps: what a store keeps through each of them, and how one follows another. They serve proofs.
use Rattle.std.proofs.Common.{◌≡◌, ℕ, ◌<◌, ◌≤◌, ◌⊎◌, inl, inr, lit≤, ⊎_elim, Bool, true, false, not, List, [], ◌∷◌, length, get_or, Option, None, Some, refl, sym, ◌∙◌, ap, subst, arith}
use Rattle.std.specs.List.{AllByRecursion}
use Rattle.std.proofs.lemmas.Bool.{false≢true}
use Rattle.disk.specs.Memory.{written}
use Rattle.disk.specs.Stops.{IsTold, Torn, Cut, Follows, Allows, Within, Only, Passes, TakesAll}
use Rattle.disk.specs.Torn.{torn_same, torn_again, torn_byte, torn_written, written_same, stands_written}
use Rattle.disk.specs.Moments.{passes_on, passes_with, passes_none}
use Rattle.store_text.specs.Pieces.{Piece, Stands, AllStand, Spares}
use Rattle.store_text.specs.Header.{header_size, magic, other, gate_at, slot_at, gate, open_byte, is_open}
use Rattle.store_text.specs.declared.header.Side.{Side}
use Rattle.store_text.specs.declared.header.Side.TheVariants.{A, B}
use Rattle.commit_images.specs.Commits.{Commit, slot_of, pieces_of, Finds, Found}
use Rattle.commit_images.specs.Keeping.{idle, extents_of, IsBehind, LastEndsBy, IsPlaced, ArePlaced, IsNext, is_first, but_gate, StandsIn, IsKnown, FoundAs, KeepsCommit}
use Rattle.commit_images.specs.Known.{Preserves, still_known, preserves_same, opens, opens_new, spares_behind, slot_preserves, cut_preserves, gate_image, others_stand}
use Rattle.commit_images.specs.Standing.{all_spared, gate_inside, byte_stands, open_reads, reads_open, reads_shut, gate_stands}
use Rattle.commit_images.specs.Steps.{ShowsLast, ShowsEither, ShowsAsOr, IsReady, OnTheWay, Step}

-- ---- images and content

-- a disk that tells its content has an image
pub some_image : (content : Option (List ℕ)) (images : List ℕ → Type 0) → ((bytes : List ℕ) → content ≡ Some bytes → images bytes) → IsTold content
    → (bytes : List ℕ) × images bytes
some_image None images gives told = absurd told
some_image (Some bytes) images gives told = (bytes, gives bytes refl)

-- behind a write and a sync each image is what was written into what a read gave
pub all_written : (at : ℕ) (bytes : List ℕ) (old mid new : Option (List ℕ)) (images : List ℕ → Type 0) → IsTold old → TakesAll at bytes old mid → new ≡ mid
    → Only new images → (file : List ℕ) × (old ≡ Some file) × ((image : List ℕ) → images image → image ≡ written at bytes file)
all_written at bytes None mid new images told takes same only = absurd told
all_written at bytes (Some file) mid new images told takes same only =
    (file, refl, λ image is. let here : Some image ≡ Some (written at bytes file) = sym (only image is) ∙ (same ∙ takes) in cc)

-- ---- steps

-- one step behind another; a step that changes the last commit comes last
pub step_on : {X : Type 0} {IsGood : Commit X → Type 0} {active last : Option (Commit X)} {closed after : Bool} {One Other Shows mid images : List ℕ → Type 0}
    {before now end : ℕ} {past since till : ℕ → List ℕ → Type 0}
    → Step IsGood active active closed One mid before now past since → Step IsGood active last after Other images now end since till
    → Within One Shows → Within Other Shows → Step IsGood active last after Shows images before end past till
step_on first then one other = record {
  keeps = then.keeps;
  passes =
      passes_on first.passes then.passes
      (λ image it. record { shows = one image it.shows; stands = it.stands })
      (λ image it. record { shows = other image it.shows; stands = it.stands });
}

-- the same step, where less is asked of what an image shows
pub step_with : {X : Type 0} {IsGood : Commit X → Type 0} {active last : Option (Commit X)} {closed : Bool} {One Shows images : List ℕ → Type 0}
    {before now : ℕ} {past since : ℕ → List ℕ → Type 0}
    → Step IsGood active last closed One images before now past since → Within One Shows → Step IsGood active last closed Shows images before now past since
step_with step one = record {
  keeps = step.keeps;
  passes = passes_with step.passes (λ image it. record { shows = one image it.shows; stands = it.stands });
}

-- without a call on the disk
pub step_none : {X : Type 0} (IsGood : Commit X → Type 0) (active : Option (Commit X)) (closed : Bool) (Shows images : List ℕ → Type 0) (moment : ℕ)
    (since : ℕ → List ℕ → Type 0) → KeepsCommit IsGood active closed images → Step IsGood active active closed Shows images moment moment since since
step_none IsGood active closed Shows images moment since keeps = record { keeps = keeps; passes = passes_none moment since (OnTheWay active Shows) }

-- ---- what an image shows

-- an image that shows the last commit shows what one of before shows
pub shows_as : {X : Type 0} (IsGood : Commit X → Type 0) (active : Option (Commit X)) (closed : Bool) (images : List ℕ → Type 0)
    → KeepsCommit IsGood active closed images → Within (ShowsLast IsGood active) (FoundAs IsGood images)
shows_as IsGood active closed images keeps image found =
    record { image = keeps.some.0; is = keeps.some.1; found = active; there = keeps.some.2; here = found }

-- while the idle gate is known to be closed, each image shows the last commit
pub shows_last : {X : Type 0} (IsGood : Commit X → Type 0) (active : Option (Commit X)) (images : List ℕ → Type 0)
    → KeepsCommit IsGood active true images → Within images (ShowsLast IsGood active)
shows_last IsGood active images keeps image is =
    opens IsGood active true keeps.some.0 image keeps.some.2 (keeps.each image is) ((keeps.each image is).shut refl)

-- what each step of a commit shows is what the whole commit may show, from the images of its beginning on
pub as_found : {X : Type 0} (IsGood : Commit X → Type 0) (new : Commit X) (images : List ℕ → Type 0)
    → Within (FoundAs IsGood images) (ShowsAsOr IsGood images new)
as_found IsGood new images image found = inl found

pub as_last : {X : Type 0} (IsGood : Commit X → Type 0) (active : Option (Commit X)) (new : Commit X) (closed : Bool) (images : List ℕ → Type 0)
    → KeepsCommit IsGood active closed images → Within (ShowsLast IsGood active) (ShowsAsOr IsGood images new)
as_last IsGood active new closed images keeps image found = inl (shows_as IsGood active closed images keeps image found)

pub as_either : {X : Type 0} (IsGood : Commit X → Type 0) (active : Option (Commit X)) (new : Commit X) (closed : Bool) (images : List ℕ → Type 0)
    → KeepsCommit IsGood active closed images → Within (ShowsEither IsGood active new) (ShowsAsOr IsGood images new)
as_either IsGood active new closed images keeps image (inl found) = inl (shows_as IsGood active closed images keeps image found)
as_either IsGood active new closed images keeps image (inr finds) = inr finds

-- ---- what is kept

-- the same images
pub keeps_within : {X : Type 0} (IsGood : Commit X → Type 0) (active : Option (Commit X)) (closed : Bool) (old new : List ℕ → Type 0)
    → KeepsCommit IsGood active closed old → Within new old → Within old new → KeepsCommit IsGood active closed new
keeps_within IsGood active closed old new keeps less more = record {
  placed = keeps.placed;
  each = λ image is. keeps.each image (less image is);
  some = (keeps.some.0, more keeps.some.0 keeps.some.1, keeps.some.2);
  all_found = λ image is. keeps.all_found image (less image is);
  put = λ it image is. more (written (gate_at (idle active)) (open_byte ∷ []) image) (keeps.put it image (less image is));
}

-- images in which the last commit is known, and the idle gate is closed in each
pub keeps_shut : {X : Type 0} (IsGood : Commit X → Type 0) (active : Option (Commit X)) (closed : Bool) (old new : List ℕ → Type 0)
    → KeepsCommit IsGood active closed old → ((image : List ℕ) → new image → IsKnown active false image)
    → ((image : List ℕ) → new image → is_open (idle active) image ≡ false) → (bytes : List ℕ) × new bytes → KeepsCommit IsGood active true new
keeps_shut IsGood active closed old new keeps known shut there =
    let shows : (image : List ℕ) → new image → Found IsGood image active
    = λ image is. opens IsGood active false keeps.some.0 image keeps.some.2 (known image is) (shut image is) in
    record {
      placed = keeps.placed;
      each = λ image is. record { long = (known image is).long; stands = (known image is).stands; shut = λ it. shut image is };
      some = (there.0, there.1, shows there.0 there.1);
      all_found = λ image is. (active, shows image is);
      put = λ it. absurd (false≢true (sym it));
    }

-- ---- a step that leaves the last commit and both gates

-- an image that it leaves is on the way
pub preserved_on_way : {X : Type 0} (IsGood : Commit X → Type 0) (active : Option (Commit X)) (old new : List ℕ → Type 0)
    → KeepsCommit IsGood active true old → Follows (Preserves active) old new → Within new (OnTheWay active (ShowsLast IsGood active))
preserved_on_way IsGood active old new keeps follows image is =
    let before = follows image is in
    let known : IsKnown active true image = still_known active true before.0 image (keeps.each before.0 before.1) before.2 in
    record { shows = opens IsGood active true keeps.some.0 image keeps.some.2 known (known.shut refl); stands = known.stands }

pub keeps_preserved : {X : Type 0} (IsGood : Commit X → Type 0) (active : Option (Commit X)) (old new : List ℕ → Type 0)
    → KeepsCommit IsGood active true old → Follows (Preserves active) old new → (bytes : List ℕ) × new bytes → KeepsCommit IsGood active true new
keeps_preserved IsGood active old new keeps follows there =
    let known : (image : List ℕ) → new image → IsKnown active true image
    = λ image is. still_known active true (follows image is).0 image (keeps.each (follows image is).0 (follows image is).1) (follows image is).2 in
    keeps_shut IsGood active true old new keeps
    (λ image is. record { long = (known image is).long; stands = (known image is).stands; shut = λ it. absurd (false≢true it) })
    (λ image is. (known image is).shut refl) there

-- the step, where `Left` says what a stop on the way leaves
pub step_preserved : {X : Type 0} (IsGood : Commit X → Type 0) (active : Option (Commit X)) (old new Left : List ℕ → Type 0) {before now : ℕ}
    {past since : ℕ → List ℕ → Type 0} → KeepsCommit IsGood active true old → Follows (Preserves active) old new → Follows (Preserves active) old Left
    → (bytes : List ℕ) × new bytes → Passes before now past since Left → Step IsGood active active true (ShowsLast IsGood active) new before now past since
step_preserved IsGood active old new Left keeps follows left there passes = record {
  keeps = keeps_preserved IsGood active old new keeps follows there;
  passes = passes_with passes (preserved_on_way IsGood active old Left keeps left);
}

-- a call that leaves no image but those of before
pub step_still : {X : Type 0} (IsGood : Commit X → Type 0) (active : Option (Commit X)) (old new : List ℕ → Type 0) {before now : ℕ}
    {past since : ℕ → List ℕ → Type 0} → KeepsCommit IsGood active true old → Within new old → (bytes : List ℕ) × new bytes
    → Passes before now past since new → Step IsGood active active true (ShowsLast IsGood active) new before now past since
step_still IsGood active old new keeps within there passes =
    let follows : Follows (Preserves active) old new
    = λ image is. (image, within image is, preserves_same active true image (keeps.each image (within image is))) in
    step_preserved IsGood active old new new keeps follows follows there passes

-- a torn write to the idle slot is such a step, and one to new extents, and a cut behind the last commit
pub slot_follows : {X : Type 0} (IsGood : Commit X → Type 0) (active : Option (Commit X)) (old new : List ℕ → Type 0)
    → KeepsCommit IsGood active true old → Follows (Torn (slot_at (idle active)) 24) old new → Follows (Preserves active) old new
slot_follows IsGood active old new keeps follows image is =
    let before = follows image is in
    (before.0, before.1, slot_preserves active true before.0 image before.2 keeps.placed (keeps.each before.0 before.1))

pub cut_follows : {X : Type 0} (IsGood : Commit X → Type 0) (active : Option (Commit X)) (len : ℕ) (old new : List ℕ → Type 0)
    → KeepsCommit IsGood active true old → header_size ≤ len → LastEndsBy len active → Follows (Cut len) old new → Follows (Preserves active) old new
cut_follows IsGood active len old new keeps behind end follows image is =
    let before = follows image is in
    (before.0, before.1, cut_preserves active true len before.0 image before.2 behind end (keeps.each before.0 before.1))

magic_stands : {X : Type 0} (active : Option (Commit X)) (image : List ℕ) → StandsIn active image → Stands image magic
magic_stands None image stands = stands.0
magic_stands (Some c) image stands = stands.0

slot_behind : (side : Side) (pieces : List Piece) → AllByRecursion IsBehind pieces → Spares (slot_at side) 24 pieces
slot_behind A pieces behind = spares_behind 520 24 pieces (lit≤ tt) behind
slot_behind B pieces behind = spares_behind 1_032 24 pieces (lit≤ tt) behind

-- with its slot written and its extents there, all of a commit stands but its gate
pub others_written : {X : Type 0} (active : Option (Commit X)) (new : Commit X) (file image : List ℕ) → IsPlaced new → StandsIn active image
    → AllStand (extents_of new) file → image ≡ written (slot_at new.side) (slot_of new).bytes file → AllStand (but_gate new) image
others_written active new file image placed stands extents same =
    let whole : AllStand (slot_of new ∷ extents_of new) (written (slot_at new.side) (slot_of new).bytes file)
    = (
      stands_written (slot_at new.side) (slot_of new).bytes file,
      all_spared (slot_at new.side) 24 (extents_of new) file (written (slot_at new.side) (slot_of new).bytes file)
          (torn_written (slot_at new.side) (slot_of new).bytes file) (slot_behind new.side (extents_of new) placed.behind) extents,
    ) in
    (magic_stands active image stands, subst (λ (it : List ℕ). AllStand (slot_of new ∷ extents_of new) it) (sym same) whole)

-- ---- the idle gate is closed

-- where a torn write left the idle gate closed the image shows the last commit, and where it left it open, what an image of
-- before shows
gate_opens_at : {X : Type 0} (IsGood : Commit X → Type 0) (active : Option (Commit X)) (old : List ℕ → Type 0) (before image : List ℕ) (opened : Bool)
    → KeepsCommit IsGood active false old → old before → Torn (gate_at (idle active)) 1 before image → is_open (idle active) image ≡ opened
    → FoundAs IsGood old image
gate_opens_at IsGood active old before image true keeps was torn opened =
    let inside : gate_at (idle active) < length before = omega (arith, gate_inside (idle active), (keeps.each before was).long) in
    let same : image ≡ written (gate_at (idle active)) (open_byte ∷ []) before
    = torn_byte (gate_at (idle active)) open_byte before image torn inside (open_reads (idle active) image opened) in
    let is : old image = subst old (sym same) (keeps.put refl before was) in
    let it = keeps.all_found image is in
    record { image = image; is = is; found = it.0; there = it.1; here = it.1 }
gate_opens_at IsGood active old before image false keeps was torn shut =
    shows_as IsGood active false old keeps image
    (opens IsGood active false keeps.some.0 image keeps.some.2 (gate_image active false before image torn keeps.placed (keeps.each before was)) shut)

pub gate_opens : {X : Type 0} (IsGood : Commit X → Type 0) (active : Option (Commit X)) (old : List ℕ → Type 0) (before image : List ℕ)
    → KeepsCommit IsGood active false old → old before → Torn (gate_at (idle active)) 1 before image → FoundAs IsGood old image
gate_opens IsGood active old before image keeps was torn =
    gate_opens_at IsGood active old before image (is_open (idle active) image) keeps was torn refl

pub gate_on_way : {X : Type 0} (IsGood : Commit X → Type 0) (active : Option (Commit X)) (old new : List ℕ → Type 0)
    → KeepsCommit IsGood active false old → Follows (Torn (gate_at (idle active)) 1) old new → Within new (OnTheWay active (FoundAs IsGood old))
gate_on_way IsGood active old new keeps follows image is =
    let before = follows image is in
    record {
      shows = gate_opens IsGood active old before.0 image keeps before.1 before.2;
      stands = (gate_image active false before.0 image before.2 keeps.placed (keeps.each before.0 before.1)).stands;
    }

-- a write to the idle gate that may have failed
pub keeps_gate : {X : Type 0} (IsGood : Commit X → Type 0) (active : Option (Commit X)) (old new : List ℕ → Type 0)
    → KeepsCommit IsGood active false old → Follows (Torn (gate_at (idle active)) 1) old new → Allows (Torn (gate_at (idle active)) 1) old new
    → KeepsCommit IsGood active false new
keeps_gate IsGood active old new keeps follows allows = record {
  placed = keeps.placed;
  each = λ image is. let before = follows image is in gate_image active false before.0 image before.2 keeps.placed (keeps.each before.0 before.1);
  some =
      (keeps.some.0, allows keeps.some.0 keeps.some.0 keeps.some.1 (torn_same (gate_at (idle active)) 1 keeps.some.0), keeps.some.2);
  all_found = λ image is. let before = follows image is in
      let it = gate_opens IsGood active old before.0 image keeps before.1 before.2 in (it.found, it.here);
  put = λ it image is. let before = follows image is in
      allows before.0 (written (gate_at (idle active)) (open_byte ∷ []) image) before.1
      (torn_again (gate_at (idle active)) (open_byte ∷ []) before.0 image before.2);
}

pub step_gate : {X : Type 0} (IsGood : Commit X → Type 0) (active : Option (Commit X)) (old new : List ℕ → Type 0) {before now : ℕ}
    {past since : ℕ → List ℕ → Type 0} → KeepsCommit IsGood active false old → Follows (Torn (gate_at (idle active)) 1) old new
    → Allows (Torn (gate_at (idle active)) 1) old new → Passes before now past since new
    → Step IsGood active active false (FoundAs IsGood old) new before now past since
step_gate IsGood active old new keeps follows allows passes = record {
  keeps = keeps_gate IsGood active old new keeps follows allows;
  passes = passes_with passes (gate_on_way IsGood active old new keeps follows);
}

-- the sync behind that write, where it failed
pub step_gate_synced : {X : Type 0} (IsGood : Commit X → Type 0) (active : Option (Commit X)) (old mid new : List ℕ → Type 0) {before now end : ℕ}
    {past since till : ℕ → List ℕ → Type 0} → KeepsCommit IsGood active false old → Follows (Torn (gate_at (idle active)) 1) old mid
    → Allows (Torn (gate_at (idle active)) 1) old mid → Passes before now past since mid → Within new mid → Within mid new → Passes now end since till new
    → Step IsGood active active false (FoundAs IsGood old) new before end past till
step_gate_synced IsGood active old mid new keeps follows allows passes less more then = record {
  keeps = keeps_within IsGood active false mid new (keeps_gate IsGood active old mid keeps follows allows) less more;
  passes =
      passes_on passes then (gate_on_way IsGood active old mid keeps follows)
      (λ image is. gate_on_way IsGood active old mid keeps follows image (less image is));
}

-- a file with this byte as a gate
written_reads : (side : Side) (byte : ℕ) (file : List ℕ) → get_or (written (gate_at side) (byte ∷ []) file) (gate_at side) 0 ≡ byte
written_reads side byte file =
    byte_stands (gate_at side) byte (written (gate_at side) (byte ∷ []) file) (stands_written (gate_at side) (byte ∷ []) file)

-- and where it succeeded
pub step_gate_shut : {X : Type 0} (IsGood : Commit X → Type 0) (active : Option (Commit X)) (old mid new : List ℕ → Type 0) {before now end : ℕ}
    {past since till : ℕ → List ℕ → Type 0} (file : List ℕ) → KeepsCommit IsGood active false old → Follows (Torn (gate_at (idle active)) 1) old mid
    → Passes before now past since mid → Within new mid → Passes now end since till new
    → ((image : List ℕ) → new image → image ≡ written (gate_at (idle active)) (0 ∷ []) file) → (bytes : List ℕ) × new bytes
    → Step IsGood active active true (FoundAs IsGood old) new before end past till
step_gate_shut IsGood active old mid new file keeps follows passes less then only there = record {
  keeps =
      keeps_shut IsGood active false old new keeps
      (λ image is. let before = follows image (less image is) in
      gate_image active false before.0 image before.2 keeps.placed (keeps.each before.0 before.1))
      (λ image is. reads_shut (idle active) image
      (ap (λ (it : List ℕ). get_or it (gate_at (idle active)) 0) (only image is) ∙ written_reads (idle active) 0 file))
      there;
  passes =
      passes_on passes then (gate_on_way IsGood active old mid keeps follows)
      (λ image is. gate_on_way IsGood active old mid keeps follows image (less image is));
}

-- ---- the gate of the next commit is opened

-- what there is before it: the next commit, of which all stands in each image but its gate
pub record IsStaged {X : Type 0} (IsGood : Commit X → Type 0) (active : Option (Commit X)) (new : Commit X) (images : List ℕ → Type 0) : Type 0 where
  pub keeps : KeepsCommit IsGood active true images
  pub next : IsNext active new
  pub good : IsGood new
  pub ready : IsReady new images

all_stands : {X : Type 0} (new : Commit X) (image : List ℕ) → header_size ≤ length image → AllStand (but_gate new) image → is_open new.side image ≡ true
    → AllStand (pieces_of new) image
all_stands new image long others opened = (others.0, (gate_stands new.side image long opened, others.1))

-- where a torn write left that gate open the image shows the next commit
gate_new : {X : Type 0} (IsGood : Commit X → Type 0) (active : Option (Commit X)) (new : Commit X) (old : List ℕ → Type 0) (before image : List ℕ)
    → IsStaged IsGood active new old → old before → Torn (gate_at (idle active)) 1 before image → is_open (idle active) image ≡ true
    → Finds IsGood image new
gate_new IsGood active new old before image staged was torn opened =
    let known : IsKnown active false image = gate_image active true before image torn staged.keeps.placed (staged.keeps.each before was) in
    let here : Torn (gate_at new.side) 1 before image
    = subst (λ (side : Side). Torn (gate_at side) 1 before image) (sym staged.next.side) torn in
    let others : AllStand (but_gate new) image = others_stand new before image here staged.next.placed (staged.ready before was) in
    opens_new IsGood active new image staged.keeps.placed staged.next known.long known.stands
    (all_stands new image known.long others (ap (λ (side : Side). is_open side image) staged.next.side ∙ opened)) staged.good

gate_either_at : {X : Type 0} (IsGood : Commit X → Type 0) (active : Option (Commit X)) (new : Commit X) (old : List ℕ → Type 0) (before image : List ℕ)
    (opened : Bool) → IsStaged IsGood active new old → old before → Torn (gate_at (idle active)) 1 before image → is_open (idle active) image ≡ opened
    → ShowsEither IsGood active new image
gate_either_at IsGood active new old before image true staged was torn opened =
    inr (gate_new IsGood active new old before image staged was torn opened)
gate_either_at IsGood active new old before image false staged was torn shut =
    inl (opens IsGood active false staged.keeps.some.0 image staged.keeps.some.2
    (gate_image active true before image torn staged.keeps.placed (staged.keeps.each before was)) shut)

-- a gate torn open or closed leaves one of two known files
pub gate_either : {X : Type 0} (IsGood : Commit X → Type 0) (active : Option (Commit X)) (new : Commit X) (old : List ℕ → Type 0) (before image : List ℕ)
    → IsStaged IsGood active new old → old before → Torn (gate_at (idle active)) 1 before image → ShowsEither IsGood active new image
gate_either IsGood active new old before image staged was torn =
    gate_either_at IsGood active new old before image (is_open (idle active) image) staged was torn refl

pub either_on_way : {X : Type 0} (IsGood : Commit X → Type 0) (active : Option (Commit X)) (new : Commit X) (old images : List ℕ → Type 0)
    → IsStaged IsGood active new old → Follows (Torn (gate_at (idle active)) 1) old images → Within images (OnTheWay active (ShowsEither IsGood active new))
either_on_way IsGood active new old images staged follows image is =
    let before = follows image is in
    record {
      shows = gate_either IsGood active new old before.0 image staged before.1 before.2;
      stands = (gate_image active true before.0 image before.2 staged.keeps.placed (staged.keeps.each before.0 before.1)).stands;
    }

-- a write to that gate that may have failed
pub keeps_opening : {X : Type 0} (IsGood : Commit X → Type 0) (active : Option (Commit X)) (new : Commit X) (old images : List ℕ → Type 0)
    → IsStaged IsGood active new old → Follows (Torn (gate_at (idle active)) 1) old images → Allows (Torn (gate_at (idle active)) 1) old images
    → KeepsCommit IsGood active false images
keeps_opening IsGood active new old images staged follows allows =
    let keeps : KeepsCommit IsGood active true old = staged.keeps in
    record {
      placed = keeps.placed;
      each = λ image is. let before = follows image is in gate_image active true before.0 image before.2 keeps.placed (keeps.each before.0 before.1);
      some =
          (keeps.some.0, allows keeps.some.0 keeps.some.0 keeps.some.1 (torn_same (gate_at (idle active)) 1 keeps.some.0), keeps.some.2);
      all_found = λ image is. let before = follows image is in
          ⊎_elim (λ it. (active, it)) (λ it. (Some new, it)) (gate_either IsGood active new old before.0 image staged before.1 before.2);
      put = λ it image is. let before = follows image is in
          allows before.0 (written (gate_at (idle active)) (open_byte ∷ []) image) before.1
          (torn_again (gate_at (idle active)) (open_byte ∷ []) before.0 image before.2);
    }

pub step_opening : {X : Type 0} (IsGood : Commit X → Type 0) (active : Option (Commit X)) (new : Commit X) (old images : List ℕ → Type 0) {before now : ℕ}
    {past since : ℕ → List ℕ → Type 0} → IsStaged IsGood active new old → Follows (Torn (gate_at (idle active)) 1) old images
    → Allows (Torn (gate_at (idle active)) 1) old images → Passes before now past since images
    → Step IsGood active active false (ShowsEither IsGood active new) images before now past since
step_opening IsGood active new old images staged follows allows passes = record {
  keeps = keeps_opening IsGood active new old images staged follows allows;
  passes = passes_with passes (either_on_way IsGood active new old images staged follows);
}

-- the sync behind that write, where it failed
pub step_opening_synced : {X : Type 0} (IsGood : Commit X → Type 0) (active : Option (Commit X)) (new : Commit X) (old mid images : List ℕ → Type 0)
    {before now end : ℕ} {past since till : ℕ → List ℕ → Type 0} → IsStaged IsGood active new old → Follows (Torn (gate_at (idle active)) 1) old mid
    → Allows (Torn (gate_at (idle active)) 1) old mid → Passes before now past since mid → Within images mid → Within mid images
    → Passes now end since till images → Step IsGood active active false (ShowsEither IsGood active new) images before end past till
step_opening_synced IsGood active new old mid images staged follows allows passes less more then = record {
  keeps = keeps_within IsGood active false mid images (keeps_opening IsGood active new old mid staged follows allows) less more;
  passes =
      passes_on passes then (either_on_way IsGood active new old mid staged follows)
      (λ image is. either_on_way IsGood active new old mid staged follows image (less image is));
}

-- behind the first commit the other gate is known to be closed
first_shut : {X : Type 0} (active : Option (Commit X)) (new : Commit X) (image : List ℕ) → new.side ≡ idle active → StandsIn active image
    → is_first active ≡ true → is_open (other new.side) image ≡ false
first_shut None new image side stands first = ap (λ (it : Side). is_open (other it) image) side ∙ stands.1
first_shut (Some c) new image side stands first = absurd (false≢true first)

other_other : (side : Side) → other (other side) ≡ side
other_other A = refl
other_other B = refl

-- behind a later one the other gate is open, as it was
later_open : {X : Type 0} (active : Option (Commit X)) (new : Commit X) (image : List ℕ) → new.side ≡ idle active → StandsIn active image
    → is_first active ≡ false → Stands image (gate (other new.side))
later_open None new image side stands later = absurd (false≢true (sym later))
later_open (Some c) new image side stands later =
    subst (λ (it : Side). Stands image (gate it)) (sym (ap other side ∙ other_other c.side)) stands.1.0

-- and where it succeeded: each image shows the next commit
pub all_new : {X : Type 0} (IsGood : Commit X → Type 0) (active : Option (Commit X)) (new : Commit X) (old mid images : List ℕ → Type 0) (file : List ℕ)
    → IsStaged IsGood active new old → Follows (Torn (gate_at (idle active)) 1) old mid → Within images mid
    → ((image : List ℕ) → images image → image ≡ written (gate_at (idle active)) (open_byte ∷ []) file)
    → (image : List ℕ) → images image → Finds IsGood image new
all_new IsGood active new old mid images file staged follows less only image is =
    let before = follows image (less image is) in
    gate_new IsGood active new old before.0 image staged before.1 before.2
    (reads_open (idle active) image
    (ap (λ (it : List ℕ). get_or it (gate_at (idle active)) 0) (only image is) ∙ written_reads (idle active) open_byte file))

keeps_new : {X : Type 0} (IsGood : Commit X → Type 0) (active : Option (Commit X)) (new : Commit X) (images : List ℕ → Type 0) → IsNext active new
    → ((image : List ℕ) → images image → StandsIn active image) → ((image : List ℕ) → images image → Finds IsGood image new)
    → (bytes : List ℕ) × images bytes → KeepsCommit IsGood (Some new) (is_first active) images
keeps_new IsGood active new images next stands finds there = record {
  placed = next.placed;
  each = λ image is. record {
    long = (finds image is).long;
    stands = (finds image is).stand;
    shut = λ first. first_shut active new image next.side (stands image is) first;
  };
  some = (there.0, there.1, finds there.0 there.1);
  all_found = λ image is. (Some new, finds image is);
  put = λ later image is.
      subst images
      (sym (written_same (gate_at (other new.side)) (open_byte ∷ []) image (later_open active new image next.side (stands image is) later))) is;
}

pub step_opened : {X : Type 0} (IsGood : Commit X → Type 0) (active : Option (Commit X)) (new : Commit X) (old mid images : List ℕ → Type 0) {before now end : ℕ}
    {past since till : ℕ → List ℕ → Type 0} (file : List ℕ) → IsStaged IsGood active new old → Follows (Torn (gate_at (idle active)) 1) old mid
    → Passes before now past since mid → Within images mid → Passes now end since till images
    → ((image : List ℕ) → images image → image ≡ written (gate_at (idle active)) (open_byte ∷ []) file) → (bytes : List ℕ) × images bytes
    → Step IsGood active (Some new) (is_first active) (ShowsEither IsGood active new) images before end past till
step_opened IsGood active new old mid images file staged follows passes less then only there = record {
  keeps =
      keeps_new IsGood active new images staged.next
      (λ image is. (either_on_way IsGood active new old mid staged follows image (less image is)).stands)
      (all_new IsGood active new old mid images file staged follows less only) there;
  passes =
      passes_on passes then (either_on_way IsGood active new old mid staged follows)
      (λ image is. either_on_way IsGood active new old mid staged follows image (less image is));
}

-- ---- a store that was opened

found_stands : {X : Type 0} (IsGood : Commit X → Type 0) (found : Option (Commit X)) (file : List ℕ) → header_size ≤ length file → Found IsGood file found
    → StandsIn found file
found_stands IsGood None file long (inl empty) = absurd (omega (arith, ap length empty))
found_stands IsGood None file long (inr blank) = (blank.stands, blank.b_closed)
found_stands IsGood (Some c) file long finds = finds.stand

not_true : (b : Bool) → not b ≡ true → b ≡ false
not_true true same = absurd (false≢true same)
not_true false same = refl

not_false : (b : Bool) → not b ≡ false → b ≡ true
not_false true same = refl
not_false false same = absurd (false≢true (sym same))

-- A disk whose one image is a file that shows this commit, or none, keeps it; the idle gate is known to be closed where it was
-- read so.
pub keeps_found : {X : Type 0} (IsGood : Commit X → Type 0) (found : Option (Commit X)) (file : List ℕ) (images : List ℕ → Type 0) → ArePlaced found
    → header_size ≤ length file → Found IsGood file found → images file → ((image : List ℕ) → images image → image ≡ file)
    → KeepsCommit IsGood found (not (is_open (idle found) file)) images
keeps_found IsGood found file images placed long shows is only =
    let known : IsKnown found (not (is_open (idle found) file)) file = record {
      long = long;
      stands = found_stands IsGood found file long shows;
      shut = λ closed. not_true (is_open (idle found) file) closed;
    } in
    record {
      placed = placed;
      each = λ image here. subst (λ (it : List ℕ). IsKnown found (not (is_open (idle found) file)) it) (sym (only image here)) known;
      some = (file, is, shows);
      all_found = λ image here. (found, subst (λ (it : List ℕ). Found IsGood it found) (sym (only image here)) shows);
      put = λ opened image here.
          let same : written (gate_at (idle found)) (open_byte ∷ []) file ≡ file
          = written_same (gate_at (idle found)) (open_byte ∷ []) file
          (gate_stands (idle found) file long (not_false (is_open (idle found) file) opened)) in
          subst images (sym (ap (written (gate_at (idle found)) (open_byte ∷ [])) (only image here) ∙ same)) is;
    }

-- ---- a torn gate, in one file

closing_at : {X : Type 0} (IsGood : Commit X → Type 0) (active : Option (Commit X)) (before image : List ℕ) (opened : Bool) → ArePlaced active
    → IsKnown active false before → Found IsGood before active → Torn (gate_at (idle active)) 1 before image → is_open (idle active) image ≡ opened
    → Found IsGood image active ⊎ (image ≡ written (gate_at (idle active)) (open_byte ∷ []) before)
closing_at IsGood active before image true placed known found torn opened =
    let inside : gate_at (idle active) < length before = omega (arith, gate_inside (idle active), known.long) in
    inr (torn_byte (gate_at (idle active)) open_byte before image torn inside (open_reads (idle active) image opened))
closing_at IsGood active before image false placed known found torn shut =
    inl (opens IsGood active false before image found (gate_image active false before image torn placed known) shut)

pub torn_closing : {X : Type 0} (IsGood : Commit X → Type 0) (active : Option (Commit X)) (before image : List ℕ) → ArePlaced active
    → IsKnown active false before → Found IsGood before active → Torn (gate_at (idle active)) 1 before image
    → Found IsGood image active ⊎ (image ≡ written (gate_at (idle active)) (open_byte ∷ []) before)
torn_closing IsGood active before image placed known found torn =
    closing_at IsGood active before image (is_open (idle active) image) placed known found torn refl

pub torn_opening : {X : Type 0} (IsGood : Commit X → Type 0) (active : Option (Commit X)) (new : Commit X) (before image : List ℕ) → ArePlaced active
    → IsKnown active true before → Found IsGood before active → IsNext active new → IsGood new → AllStand (but_gate new) before
    → Torn (gate_at (idle active)) 1 before image → Found IsGood image active ⊎ Finds IsGood image new
torn_opening IsGood active new before image placed known found next good ready torn =
    let keeps : KeepsCommit IsGood active true (λ (it : List ℕ). it ≡ before) = record {
      placed = placed;
      each = λ it same. subst (λ (file : List ℕ). IsKnown active true file) (sym same) known;
      some = (before, refl, found);
      all_found = λ it same. (active, subst (λ (file : List ℕ). Found IsGood file active) (sym same) found);
      put = λ it. absurd (false≢true (sym it));
    } in
    gate_either IsGood active new (λ (it : List ℕ). it ≡ before) before image
    (record {
      keeps = keeps;
      next = next;
      good = good;
      ready = λ it same. subst (λ (file : List ℕ). AllStand (but_gate new) file) (sym same) ready;
    })
    refl torn
