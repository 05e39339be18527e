-- Each hit in a range has its score.
use Rattle.std.proofs.Common.{◌≡◌, ℕ, zero, suc, ◌+◌, ◌-◌, ◌<◌, ◌≤◌, List as Seq, [], ◌∷◌, length, get_or, take, drop, Option, Some, None, refl, sym, ap, ◌∙◌, arith}
use Rattle.std.specs.List.{AllByRecursion}
use Rattle.view_objects.specs.Hits.{hits_between, hits_from}
use Rattle.view_objects.specs.declared.hit.Hit.{Hit}
use Rattle.std.proofs.lemmas.List.{get_or-drop}

-- of an entry's scores, those from a document on
pub record Stands (place k end : ℕ) (xs : Seq (Option ℕ)) (hit : Hit) : Type 0 where
  pub at : hit.place ≡ place
  pub from : k ≤ hit.doc
  pub before : hit.doc < end
  pub score : get_or xs (hit.doc - k) None ≡ Some hit.score

later : (place k end : ℕ) (x : Option ℕ) (xs : Seq (Option ℕ)) (hit : Hit) → Stands place (k + 1) end xs hit → Stands place k end (x ∷ xs) hit
later place k end x xs hit it =
    let over : hit.doc - k ≡ suc (hit.doc - (k + 1)) = (let f = it.from in omega (arith, f)) in
    record { at = it.at; from = (let f = it.from in omega (arith, f)); before = it.before; score = rw over it.score }

all_later : (place k end : ℕ) (x : Option ℕ) (xs : Seq (Option ℕ)) (hits : Seq Hit) → AllByRecursion (Stands place (k + 1) end xs) hits → AllByRecursion (Stands place k end (x ∷ xs)) hits
all_later place k end x xs [] all = tt
all_later place k end x xs (h ∷ hits) all = (later place k end x xs h all.0, all_later place k end x xs hits all.1)

pub stand_from : (place k : ℕ) (xs : Seq (Option ℕ)) (end : ℕ) → k + length xs ≤ end → AllByRecursion (Stands place k end xs) (hits_from place k xs)
stand_from place k [] end low = tt
stand_from place k (None ∷ xs) end low = all_later place k end None xs (hits_from place (k + 1) xs) (stand_from place (k + 1) xs end (omega (arith, low)))
stand_from place k (Some s ∷ xs) end low =
    let none : k - k ≡ 0 = omega arith in (
      record { at = refl; from = omega arith; before = omega (arith, low); score = rw none refl },
      all_later place k end (Some s) xs (hits_from place (k + 1) xs) (stand_from place (k + 1) xs end (omega (arith, low))),
    )

-- each hit in a range has the score of its document
pub record HasScore (place end : ℕ) (scores : Seq (Option ℕ)) (hit : Hit) : Type 0 where
  pub at : hit.place ≡ place
  pub before : hit.doc < end
  pub score : get_or scores hit.doc None ≡ Some hit.score

get_short : {A : Type 0} (end k : ℕ) (xs : Seq A) (d x : A) → k < end → get_or (take end xs) k d ≡ x → get_or xs k d ≡ x
get_short zero k xs d x low is = absurd (omega (arith, low))
get_short (suc end) k [] d x low is = is
get_short (suc end) zero (y ∷ xs) d x low is = is
get_short (suc end) (suc k) (y ∷ xs) d x low is = get_short end k xs d x (omega (arith, low)) is

short : {A : Type 0} (end : ℕ) (xs : Seq A) → length (take end xs) ≤ end
short zero xs = omega arith
short (suc end) [] = omega arith
short (suc end) (x ∷ xs) = let more = short end xs in omega (arith, more)

long_range : {A : Type 0} (start end : ℕ) (xs : Seq A) → start ≤ end → start + length (drop start (take end xs)) ≤ end
long_range zero end xs low = let e : length (take end xs) ≤ end = short end xs in omega (arith, e)
long_range (suc start) zero xs low = absurd (omega (arith, low))
long_range (suc start) (suc end) [] low = omega (arith, low)
long_range (suc start) (suc end) (x ∷ xs) low = let more = long_range start end xs (omega (arith, low)) in omega (arith, more)

pub have_scores : (place start end : ℕ) (scores : Seq (Option ℕ)) → start ≤ end → AllByRecursion (HasScore place end scores) (hits_between place start end scores)
have_scores place start end scores low = each (hits_between place start end scores) (stand_from place start (drop start (take end scores)) end (long_range start end scores low))
  where
    each : (hits : Seq Hit) → AllByRecursion (Stands place start end (drop start (take end scores))) hits → AllByRecursion (HasScore place end scores) hits
    each [] all = tt
    each (h ∷ hits) all =
        let it = all.0 in
        let to : start + (h.doc - start) ≡ h.doc = (let f = it.from in omega (arith, f)) in (
          record {
            at = it.at;
            before = it.before;
            score = get_short end h.doc scores None (Some h.score) it.before (ap (λ k. get_or (take end scores) k None) (sym to) ∙ sym (get_or-drop start (take end scores) (h.doc - start) None) ∙ it.score);
          },
          each hits all.1,
        )
