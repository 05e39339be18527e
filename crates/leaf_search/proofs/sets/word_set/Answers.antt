use Rattle.std.proofs.Common.{Bool, sym, ap, subst, ◌∙◌, map}
use Rattle.segment.specs.Flat.{flats_of}
use Rattle.leaf_search.specs.Sets.{Made}
use Rattle.leaf_search.specs.Words.{folded_words, shows_some, shows_words}
use Rattle.leaf_search.proofs.Finding.{made_of, marks_long}
use Rattle.leaf_search.proofs.sets.word_set.Goals as goal

pub returns-then-all : goal.returns-then-all
returns-then-all c = subst (λ (b : Bool). Made c.args.segment.now c.args.live.now c.args.scope (shows_words b c.args.field (folded_words c.args.words.now)) c.in_ok-all_set.field-0) (sym c.if-all.true) c.in_ok-all_set.ensures

pub keep_live-requires-clause-long : goal.keep_live-requires-clause-long
keep_live-requires-clause-long c = marks_long c.args.segment.now (shows_some c.args.field (folded_words c.args.words.now)) c.in_ok-set.set c.in_ok-set.ensures

pub returns : goal.returns
returns c =
    made_of c.args.segment.now c.args.live.now c.args.scope (shows_words c.args.all c.args.field (folded_words c.args.words.now)) c.in_ok-set.set c.keep_live.new.set
    c.requires.documents (c.in_ok-set.ensures ∙ ap (λ (b : Bool). map (shows_words b c.args.field (folded_words c.args.words.now)) (flats_of c.args.segment.now)) (sym c.if-all.false)) c.keep_live.ensures
