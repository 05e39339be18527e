use Rattle.std.proofs.Common.{ℕ, Bool, List, false, map, replicate, ap, subst, ◌∙◌}
use denote.Ref.{Bor}
use Rattle.segment.specs.Flat.{flats_of}
use Rattle.leaf_search.specs.Sets.{Gains}
use Rattle.leaf_search.specs.Words.{folded_words, shows_some}
use Rattle.leaf_search.proofs.Gaining.{gained}
use Rattle.leaf_search.proofs.Once.{lent_words, some_alike}
use Rattle.leaf_search.proofs.words.some_marks.Goals as goal

pub returns : goal.returns
returns c =
    let test = shows_some c.args.field (lent_words c.as_slice.result.now) in
    gained c.args.segment.now test c.mark_terms.new.set
    (subst (λ (old : List Bool). Gains c.args.segment.now test old c.mark_terms.new.set) (c.in_ok-set.ensures ∙ ap (λ (k : ℕ). replicate k false) c.docs.ensures.documents) c.mark_terms.ensures)
    ∙ ap (λ (ws : List (Bor (List ℕ))). map (shows_some c.args.field (lent_words ws)) (flats_of c.args.segment.now)) c.as_slice.ensures.value
    ∙ some_alike c.args.segment.now c.args.field c.in_ok-asked.asked.items (folded_words c.args.words.now) c.in_ok-asked.ensures
