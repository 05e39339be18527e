-- How calls that only look go on, one behind another, and what they read together.
use Rattle.std.proofs.Common.{◌≡◌, ℕ, ◌+◌, List, ◌++◌, take, drop, Option, Some, IfSome, sym, ◌∙◌, ap, subst, arith}
use Rattle.std.proofs.Math.Seq.{take-add}
use Rattle.std.proofs.lemmas.List.{drop-drop}
use Rattle.std.specs.Global.{Vec}
use Rattle.disk.specs.Stops.{IsTold}
use Rattle.disk.specs.Moments.{passes_on}
use Rattle.store_opening.specs.Looking.{Looked, ReadsOn, IsFound}

-- ---- what is left

-- one behind another
pub looked_on : {first mid last : Option (List ℕ)} {before between after : List ℕ → Type 0} {start middle end : ℕ} {past now since : ℕ → List ℕ → Type 0}
    → Looked first mid before between start middle past now → Looked mid last between after middle end now since
    → Looked first last before after start end past since
looked_on one two = record {
  content = λ told. two.content told ∙ one.content (subst (λ (it : Option (List ℕ)). IsTold it) (two.content told) told);
  images = λ image is. one.images image (two.images image is);
  allowed = λ told image is. two.allowed told image (one.allowed (subst (λ (it : Option (List ℕ)). IsTold it) (two.content told) told) image is);
  time = passes_on one.time two.time (λ image is. is) one.images;
  lasts = λ told moment image earlier was.
      two.lasts told moment image (omega (arith, earlier, one.time.later))
      (one.lasts (subst (λ (it : Option (List ℕ)). IsTold it) (two.content told) told) moment image earlier was);
}

-- ---- what is read

-- one read more
pub reads_more : (file : List ℕ) (at done count : ℕ) (old new : List ℕ) → take done old ≡ take done (drop at file) → ReadsOn file at done count old new
    → take (done + count) new ≡ take (done + count) (drop at file)
reads_more file at done count old new had more =
    take-add done count new
    ∙ (ap (λ (front : List ℕ). front ++ take count (drop done new)) (more.kept ∙ had)
    ∙ (ap (λ (rest : List ℕ). take done (drop at file) ++ rest) (more.front.bytes ∙ ap (take count) (sym (drop-drop done at file)))
    ∙ sym (take-add done count (drop at file))))

-- ---- what is found

-- what is said of bytes that are there
pub piece_of : (content : Option (List ℕ)) (at len : ℕ) (found : Option (Vec ℕ)) (bytes : Vec ℕ) → found ≡ Some bytes
    → IfSome found (λ it. (file : List ℕ) → content ≡ Some file → IsFound file at len it.items) → (file : List ℕ) → content ≡ Some file
    → IsFound file at len bytes.items
piece_of content at len found bytes is piece =
    subst (λ (o : Option (Vec ℕ)). IfSome o (λ it. (file : List ℕ) → content ≡ Some file → IsFound file at len it.items)) is piece
