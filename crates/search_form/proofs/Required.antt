-- Where an object is a choice of one name, its choice and its pairs are all that is asked.
use Rattle.std.proofs.Common.{◌≡◌, Bool, true, false, ◌&&◌, refl}
use Rattle.std.proofs.lemmas.Bool.{false≢true}
use Rattle.tree_json.specs.Value.{Members}
use Rattle.search_form.specs.declared.form.Form.{Form}
use Rattle.search_form.specs.declared.form.Form.TheVariants.{Query, Term, Terms, Range, Prefix, Match, MatchPhrase, SortClause, Bucket, BucketOrder}
use Rattle.search_form.specs.Table.{is_choice_of_one, apart_in}
use Rattle.search_form.specs.Form.{suits, has_its_choice, are_apart}

and_true : (a b : Bool) → (a && (b && true)) ≡ (a && b)
and_true true true = refl
and_true true false = refl
and_true false b = refl

pub one_suits : (inner : Bool) (form : Form) (ms : Members) → is_choice_of_one form ≡ true → suits inner form ms ≡ (has_its_choice form ms && are_apart (apart_in form) ms)
one_suits inner Query ms h = and_true (has_its_choice Query ms) (are_apart (apart_in Query) ms)
one_suits inner Term ms h = and_true (has_its_choice Term ms) (are_apart (apart_in Term) ms)
one_suits inner Terms ms h = and_true (has_its_choice Terms ms) (are_apart (apart_in Terms) ms)
one_suits inner Range ms h = and_true (has_its_choice Range ms) (are_apart (apart_in Range) ms)
one_suits inner Prefix ms h = and_true (has_its_choice Prefix ms) (are_apart (apart_in Prefix) ms)
one_suits inner Match ms h = and_true (has_its_choice Match ms) (are_apart (apart_in Match) ms)
one_suits inner MatchPhrase ms h = and_true (has_its_choice MatchPhrase ms) (are_apart (apart_in MatchPhrase) ms)
one_suits inner SortClause ms h = and_true (has_its_choice SortClause ms) (are_apart (apart_in SortClause) ms)
one_suits inner Bucket ms h = and_true (has_its_choice Bucket ms) (are_apart (apart_in Bucket) ms)
one_suits inner BucketOrder ms h = and_true (has_its_choice BucketOrder ms) (are_apart (apart_in BucketOrder) ms)
one_suits inner form ms h = absurd (false≢true h)

pub ruleset required = (one_suits)
