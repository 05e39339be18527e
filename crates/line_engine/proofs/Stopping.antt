-- What a stop leaves, turn after turn.
use Rattle.std.proofs.Common.{◌≡◌, ◌≤◌, ℕ, Bool, true, false, cond, if◌then◌else◌, List, [], ◌∷◌, ◌++◌, map, filter, refl, sym, ap, subst, ◌∙◌, ◌⊎◌, inl, inr, ⊎_elim, arith, Option}
use Rattle.std.specs.List.{Contains}
use Rattle.std.proofs.lemmas.Bool.{false≢true}
use Rattle.std.proofs.lemmas.List.{map-append}
use Rattle.std.proofs.lemmas.List.Elements.{Contains-append_left, Contains-push, filter-append}
use Rattle.commit_store.specs.Known.{StoreState}
use Rattle.commit_store.specs.Saying.{Found, FoundAs, StoreCommit}
use Rattle.disk.specs.Stops.{Passes}
use Rattle.engine.specs.Storing.{StoreTurn}
use Rattle.index_trees.specs.Content.{OpensTo}
use Rattle.machine.specs.State.{Content, State}
use Rattle.line_engine.specs.Stopping.{DiskState, OpensToOne, Stores, acknowledges, content_after, ever_kept, kept_after, last_kept, tries}
use Rattle.line_engine.specs.Turns.{Turn}
use Rattle.line_engine.proofs.Laws.{HoldsOne}

-- ## lists of contents

last_push : (contents : List Content) (turns : List Turn) (turn : Turn) → last_kept contents (turns ++ turn ∷ []) ≡ kept_after (last_kept contents turns) turn
last_push contents [] turn = refl
last_push contents (first ∷ turns) turn = last_push (kept_after contents first) turns turn

ever_push : (start : State) (turns : List Turn) (turn : Turn) → ever_kept start (turns ++ turn ∷ []) ≡ ever_kept start turns ++ map content_after (filter tries (turn ∷ []))
ever_push start turns turn =
    let tried : map content_after (filter tries (turns ++ turn ∷ [])) ≡ map content_after (filter tries turns ++ filter tries (turn ∷ [])) =
    ap (λ (those : List Turn). map content_after those) (filter-append tries turns (turn ∷ [])) in
    ap (λ (more : List Content). start.content ∷ more) (tried ∙ map-append content_after (filter tries turns) (filter tries (turn ∷ [])))

ever_more : (start : State) (turns : List Turn) (turn : Turn) (content : Content) → Contains (ever_kept start turns) content → Contains (ever_kept start (turns ++ turn ∷ [])) content
ever_more start turns turn content among =
    subst (λ (contents : List Content). Contains contents content) (sym (ever_push start turns turn))
    (Contains-append_left (ever_kept start turns) (map content_after (filter tries (turn ∷ []))) content among)

ever_tried : (start : State) (turns : List Turn) (turn : Turn) → tries turn ≡ true → Contains (ever_kept start (turns ++ turn ∷ [])) (content_after turn)
ever_tried start turns turn tried =
    let one : map content_after (filter tries (turn ∷ [])) ≡ content_after turn ∷ [] =
    ap (λ (it : Bool). map content_after (cond it (turn ∷ []) [])) tried in
    subst (λ (contents : List Content). Contains contents (content_after turn)) (sym (ever_push start turns turn ∙ ap (λ (more : List Content). ever_kept start turns ++ more) one))
    (Contains-push (ever_kept start turns) (content_after turn))

-- ## a turn

-- the file opens to whatever one of these images opens to
pub record OpensAs (limit : ℕ) (images : List ℕ → Type 0) (file : List ℕ) : Type 0 where
  pub image : List ℕ
  pub is : images image
  pub alike : (content : Content) → OpensTo limit content image → OpensTo limit content file

-- each image within a turn opens as one before it, or to the content at the commit that was tried; behind an acknowledgement
-- each opens to that
pub record Keeps (limit : ℕ) (turn : Turn) (images images' : List ℕ → Type 0) (before now : ℕ) (past since : ℕ → List ℕ → Type 0) : Type 0 where
  pub passes : Passes before now past since (λ (file : List ℕ). OpensAs limit images file ⊎ ((tries turn ≡ true) × OpensTo limit (content_after turn) file))
  pub acknowledged : acknowledges turn ≡ true → (file : List ℕ) → images' file → OpensTo limit (content_after turn) file

opens_alike : (limit : ℕ) (images : List ℕ → Type 0) (file : List ℕ) → HoldsOne limit → FoundAs limit images file → OpensAs limit images file
opens_alike limit images file once alike = record {
  image = alike.image;
  is = alike.is;
  alike = λ content opens. record {
    found = opens.found;
    holds = subst (λ (found : Option StoreCommit). Found limit file found) (once alike.image alike.found opens.found alike.there opens.holds) alike.here;
    is = opens.is;
  };
}

pub keeps_turn : (limit : ℕ) (turn : Turn) (tried : Bool) (stored : StoreState) (images images' : List ℕ → Type 0) (before now : ℕ) (past since : ℕ → List ℕ → Type 0)
    → HoldsOne limit → stored.limit ≡ limit → tried ≡ tries turn → StoreTurn tried turn.reply (content_after turn) stored images images' before now past since
    → Keeps limit turn images images' before now past since
keeps_turn limit turn tried stored images images' before now past since once is_limit same it = record {
  passes = record {
    later = it.passes.later;
    only = λ moment file earlier was. ⊎_elim
        (λ is. inl is)
        (λ is. inr (⊎_elim
        (λ alike. inl (opens_alike limit images file once (subst (λ (most : ℕ). FoundAs most images file) is_limit alike)))
        (λ new. inr (sym same ∙ new.0, subst (λ (most : ℕ). OpensTo most (content_after turn) file) is_limit new.1))
        is))
        (it.passes.only moment file earlier was);
  };
  acknowledged = λ is file image. subst (λ (most : ℕ). OpensTo most (content_after turn) file) is_limit (it.acknowledged is file image);
}

-- ## what one image opens to

open_more : {limit : ℕ} {file : List ℕ} (start : State) (turns : List Turn) (turn : Turn) → OpensToOne limit (ever_kept start turns) file → OpensToOne limit (ever_kept start (turns ++ turn ∷ [])) file
open_more start turns turn one = record { content = one.content; among = ever_more start turns turn one.content one.among; opens = one.opens }

-- this turn's commit, where it was tried
open_tried : {limit : ℕ} {file : List ℕ} (start : State) (turns : List Turn) (turn : Turn) → tries turn ≡ true → OpensTo limit (content_after turn) file → OpensToOne limit (ever_kept start (turns ++ turn ∷ [])) file
open_tried start turns turn tried opens = record { content = content_after turn; among = ever_tried start turns turn tried; opens = opens }

-- it opens as an image does that opens to one of these
open_as : {limit : ℕ} {images : List ℕ → Type 0} {file : List ℕ} (contents : List Content) → OpensAs limit images file → ((image : List ℕ) → images image → OpensToOne limit contents image) → OpensToOne limit contents file
open_as contents alike each =
    let one : OpensToOne _ contents alike.image = each alike.image alike.is in
    record { content = one.content; among = one.among; opens = alike.alike one.content one.opens }

-- ## turn after turn

-- the laws of time, of a disk
pub record IsTimed (disk : DiskState) : Type 0 where
  pub counts : (moment : ℕ) (file : List ℕ) → moment ≤ disk.moment → disk.image file → disk.since moment file
  pub only : (file : List ℕ) → disk.since disk.moment file → disk.image file

pub one_start : (limit : ℕ) (start : State) (file : List ℕ) → OpensTo limit start.content file → OpensToOne limit (start.content ∷ []) file
one_start limit start file opens = record { content = start.content; among = Contains-push [] start.content; opens = opens }

-- as the store was opened
pub stores_start : (limit : ℕ) (start : State) (disk : DiskState) → IsTimed disk → ((file : List ℕ) → disk.image file → OpensTo limit start.content file)
    → Stores limit start [] disk.moment disk
stores_start limit start disk time opens =
    record { later = omega arith; ever = λ file was. one_start limit start file (opens file (time.only file was)); last = λ file is. one_start limit start file (opens file is) }

last_of : (limit : ℕ) (turn : Turn) (contents : List Content) (file : List ℕ) (acknowledged tried : Bool) → (acknowledged ≡ true → OpensTo limit (content_after turn) file)
    → OpensToOne limit contents file ⊎ ((tried ≡ true) × OpensTo limit (content_after turn) file)
    → OpensToOne limit (if acknowledged then content_after turn ∷ [] else (if tried then contents ++ content_after turn ∷ [] else contents)) file
last_of limit turn contents file true tried opens either = record { content = content_after turn; among = Contains-push [] (content_after turn); opens = opens refl }
last_of limit turn contents file false true opens (inl one) =
    record { content = one.content; among = Contains-append_left contents (content_after turn ∷ []) one.content one.among; opens = one.opens }
last_of limit turn contents file false true opens (inr new) = record { content = content_after turn; among = Contains-push contents (content_after turn); opens = new.1 }
last_of limit turn contents file false false opens (inl one) = one
last_of limit turn contents file false false opens (inr new) = absurd (false≢true new.0)

-- a turn behind others
pub stores_more : (limit : ℕ) (start : State) (turns : List Turn) (turn : Turn) (opened : ℕ) (disk disk' : DiskState) → IsTimed disk → IsTimed disk'
    → Keeps limit turn disk.image disk'.image disk.moment disk'.moment disk.since disk'.since
    → Stores limit start turns opened disk → Stores limit start (turns ++ turn ∷ []) opened disk'
stores_more limit start turns turn opened disk disk' time time' keeps before = record {
  later = omega (arith, before.later, keeps.passes.later);
  ever = λ file was. ⊎_elim
      (λ is. open_more start turns turn (before.ever file is))
      (λ is. ⊎_elim
      (λ alike. open_as (ever_kept start (turns ++ turn ∷ [])) alike (λ image it. open_more start turns turn (before.ever image (time.counts opened image before.later it))))
      (λ new. open_tried start turns turn new.0 new.1)
      is)
      (keeps.passes.only opened file before.later was);
  last = λ file is. subst (λ (contents : List Content). OpensToOne limit contents file) (sym (last_push (start.content ∷ []) turns turn))
      (last_of limit turn (last_kept (start.content ∷ []) turns) file (acknowledges turn) (tries turn) (λ it. keeps.acknowledged it file is)
      (⊎_elim
      (λ was. inl (before.last file (time.only file was)))
      (λ of_turn. ⊎_elim (λ alike. inl (open_as (last_kept (start.content ∷ []) turns) alike before.last)) (λ new. inr new) of_turn)
      (keeps.passes.only disk.moment file (omega arith) (time'.counts disk.moment file keeps.passes.later is))));
}
