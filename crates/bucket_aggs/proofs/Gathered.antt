-- The numbers of a view: gathered entry by entry, and then added one list after the other.
use Rattle.std.proofs.Common.{◌≡◌, ℕ, zero, suc, ℤ, ◌+◌, ◌<◌, ◌≤◌, List, [], ◌∷◌, ◌++◌, length, drop, get_or, refl, sym, ap, subst, ◌∙◌, arith, append_assoc}
use Rattle.std.specs.List.{flat_map}
use Rattle.std.proofs.lemmas.List.Concat.{flat_map-append}
use Rattle.segment.specs.Flat.{FlatDocument}
use Rattle.bucket_aggs.specs.Columns.{joined}
use Rattle.bucket_aggs.specs.Counts.{flats_of_view}
use Rattle.bucket_aggs.specs.Sums.{IsAdded, no_numbers, numbers_in}
use Rattle.bucket_aggs.specs.declared.metrics.Running.{Running}
use Rattle.bucket_aggs.proofs.Documents.{nothing_behind}
use Rattle.bucket_aggs.proofs.Viewed.{Scores, View, flats_end, flats_from}

abbrev pub Numbers : Type 0
Numbers = List ℤ

-- ---- lists of numbers

joined_push : (all : List Numbers) (own : Numbers) → joined (all ++ own ∷ []) ≡ joined all ++ own
joined_push all own = flat_map-append (λ (zs : Numbers). zs) all (own ∷ []) ∙ ap (λ (zs : Numbers). joined all ++ zs) (sym (nothing_behind own))

joined_step : (at : ℕ) (all : List Numbers) (own : Numbers) → at < length all → own ≡ get_or all at own → joined (drop at all) ≡ own ++ joined (drop (at + 1) all)
joined_step at [] own low is = absurd (omega (arith, low))
joined_step zero (zs ∷ all) own low is = ap (λ (first : Numbers). first ++ joined all) (sym is)
joined_step (suc at) (zs ∷ all) own low is = let next : suc at + 1 ≡ suc (at + 1) = omega arith in rw next (joined_step at all own (omega (arith, low)) is)

joined_end : (at : ℕ) (all : List Numbers) → length all ≤ at → joined (drop at all) ≡ []
joined_end zero [] past = refl
joined_end (suc at) [] past = refl
joined_end zero (zs ∷ all) past = absurd (omega (arith, past))
joined_end (suc at) (zs ∷ all) past = joined_end at all (omega (arith, past))

-- ---- gathered: those of the entries before a place

pub record Gathering (f at : ℕ) (view : View) (scores : List Scores) (all : List Numbers) : Type 0 where
  pub rest : joined all ++ flat_map (numbers_in f) (flats_from at view scores) ≡ flat_map (numbers_in f) (flats_of_view view scores)

pub gathering_start : (f : ℕ) (view : View) (scores : List Scores) (all : List Numbers) → all ≡ [] → Gathering f 0 view scores all
gathering_start f view scores all is = subst (Gathering f 0 view scores) (sym is) (record { rest = refl })

module _ (f at : ℕ) (view : View) (scores : List Scores) (own : List FlatDocument) (all : List Numbers) (step : flats_from at view scores ≡ own ++ flats_from (at + 1) view scores) (was : Gathering f at view scores all) where
  abbrev later : Numbers
  later = flat_map (numbers_in f) (flats_from (at + 1) view scores)

  split : flat_map (numbers_in f) (flats_from at view scores) ≡ flat_map (numbers_in f) own ++ later
  split = ap (flat_map (numbers_in f)) step ∙ flat_map-append (numbers_in f) own (flats_from (at + 1) view scores)

  pub gathering_some : (zs : Numbers) (new : List Numbers) → zs ≡ flat_map (numbers_in f) own → new ≡ all ++ zs ∷ [] → Gathering f (at + 1) view scores new
  gathering_some zs new is more = record {
    rest =
        ap (λ (l : List Numbers). joined l ++ later) more
        ∙ ap (λ (l : Numbers). l ++ later) (joined_push all zs)
        ∙ append_assoc (joined all) zs later
        ∙ ap (λ (l : Numbers). joined all ++ l) (ap (λ (l : Numbers). l ++ later) is ∙ sym split)
        ∙ was.rest;
  }

  pub gathering_none : flat_map (numbers_in f) own ≡ [] → Gathering f (at + 1) view scores all
  gathering_none none = record { rest = ap (λ (l : Numbers). joined all ++ l) (ap (λ (l : Numbers). l ++ later) (sym none) ∙ sym split) ∙ was.rest }

pub gathering_end : (f at : ℕ) (view : View) (scores : List Scores) (all : List Numbers) → length view ≤ at → Gathering f at view scores all → joined all ≡ flat_map (numbers_in f) (flats_of_view view scores)
gathering_end f at view scores all past was =
    nothing_behind (joined all) ∙ ap (λ (l : List FlatDocument). joined all ++ flat_map (numbers_in f) l) (sym (flats_end at view scores past)) ∙ was.rest

-- ---- added: those of the lists before a place

pub record Adding (all : List Numbers) (at : ℕ) (s : Running) : Type 0 where
  pub done : Numbers
  pub sums : IsAdded no_numbers done s
  pub rest : done ++ joined (drop at all) ≡ joined all

pub adding_start : (all : List Numbers) (s : Running) → IsAdded no_numbers [] s → Adding all 0 s
adding_start all s is = record { done = []; sums = is; rest = refl }

pub adding_step : (all : List Numbers) (at : ℕ) (own : Numbers) (old new : Running) → at < length all → own ≡ get_or all at own → Adding all at old → ((zs : Numbers) → IsAdded no_numbers zs old → IsAdded no_numbers (zs ++ own) new) → Adding all (at + 1) new
adding_step all at own old new low is was more = record {
  done = was.done ++ own;
  sums = more was.done was.sums;
  rest = append_assoc was.done own (joined (drop (at + 1) all)) ∙ ap (λ (l : Numbers). was.done ++ l) (sym (joined_step at all own low is)) ∙ was.rest;
}

pub adding_end : (all : List Numbers) (at : ℕ) (s : Running) → length all ≤ at → Adding all at s → IsAdded no_numbers (joined all) s
adding_end all at s past was =
    subst (λ (zs : Numbers). IsAdded no_numbers zs s) (nothing_behind was.done ∙ ap (λ (l : Numbers). was.done ++ l) (sym (joined_end at all past)) ∙ was.rest) was.sums
