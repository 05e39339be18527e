use Rattle.std.proofs.Common.{◌≡◌, List, ℕ, codes, refl, rules, arith}
use Rattle.std.proofs.lemmas.Slice.Eq.{text_from_reads}
use Rattle.mapping_body.specs.Body.{kind_named}
use Rattle.mapping_body.proofs.form.kind_named.Goals as goal

pub returns-in-object : goal.returns-in-object
returns-in-object c =
    let is : c.args.word.now ≡ codes "object" = text_from_reads c.args.word.now (codes "object") (search (rules, arith)) (search rules) in
    rw is refl

pub returns-in-nested : goal.returns-in-nested
returns-in-nested c =
    let is : c.args.word.now ≡ codes "nested" = text_from_reads c.args.word.now (codes "nested") (search (rules, arith)) (search rules) in
    rw is refl

pub returns-in-keyword : goal.returns-in-keyword
returns-in-keyword c =
    let is : c.args.word.now ≡ codes "keyword" = text_from_reads c.args.word.now (codes "keyword") (search (rules, arith)) (search rules) in
    rw is refl

pub returns-in-boolean : goal.returns-in-boolean
returns-in-boolean c =
    let is : c.args.word.now ≡ codes "boolean" = text_from_reads c.args.word.now (codes "boolean") (search (rules, arith)) (search rules) in
    rw is refl

pub returns-in-long : goal.returns-in-long
returns-in-long c =
    let is : c.args.word.now ≡ codes "long" = text_from_reads c.args.word.now (codes "long") (search (rules, arith)) (search rules) in
    rw is refl

pub returns-in-long-2 : goal.returns-in-long-2
returns-in-long-2 c =
    let is : c.args.word.now ≡ codes "byte" = text_from_reads c.args.word.now (codes "byte") (search (rules, arith)) (search rules) in
    rw is refl

pub returns-in-long-3 : goal.returns-in-long-3
returns-in-long-3 c =
    let is : c.args.word.now ≡ codes "short" = text_from_reads c.args.word.now (codes "short") (search (rules, arith)) (search rules) in
    rw is refl

pub returns-in-long-4 : goal.returns-in-long-4
returns-in-long-4 c =
    let is : c.args.word.now ≡ codes "integer" = text_from_reads c.args.word.now (codes "integer") (search (rules, arith)) (search rules) in
    rw is refl
