-- No words ask for two jobs.
use Rattle.std.proofs.Common.{◌≡◌, ℕ, Bool, true, false, ◌&&◌, List, [], ◌∷◌, codes, Option, refl, sym, ap, subst, ◌∙◌, arith}
use Rattle.std.proofs.lemmas.Bool.{false≢true}
use Rattle.std.proofs.lemmas.Fmt.{decimal_injective}
use Rattle.std.proofs.lemmas.Slice.Eq.{bytes_eq-Decides}
use Rattle.std.specs.Str.{bytes_eq}
use Rattle.made_load.specs.Lines.{made_text}
use Rattle.line_engine.specs.Printing.{Checks, Prints, PrintsSummary}
use Rattle.line_engine.specs.Word.{AreBad, IsMake, IsRunMade, NamesMade, is_check, is_path, is_serve}
use Rattle.line_engine.specs.declared.status.Status.{Status}
use Rattle.line_engine.specs.declared.status.Status.TheVariants.{BadWords}

abbrev first : List (List ℕ) → List ℕ
first [] = []
first (word ∷ words) = word

abbrev rest : List (List ℕ) → List (List ℕ)
rest [] = []
rest (word ∷ words) = words

-- ## serve and check

first_true : (one other : Bool) → (one && other) ≡ true → one ≡ true
first_true true other both = refl
first_true false other both = absurd (false≢true both)

pub serve_or_check : (words : List (List ℕ)) → is_serve words ≡ true → is_check words ≡ true → ⊥
serve_or_check [] serves checks = false≢true serves
serve_or_check (command ∷ []) serves checks = false≢true serves
serve_or_check (command ∷ store ∷ []) serves checks =
    let one : command ≡ codes "serve" = (bytes_eq-Decides command (codes "serve")).0 (first_true (bytes_eq command (codes "serve")) (is_path store) serves) in
    let other : command ≡ codes "check" = (bytes_eq-Decides command (codes "check")).0 (first_true (bytes_eq command (codes "check")) (is_path store) checks) in
    false≢true (ap (λ (it : List ℕ). bytes_eq it (codes "check")) (sym one ∙ other))
serve_or_check (command ∷ store ∷ more ∷ words) serves checks = false≢true serves

-- ## made inputs

pub made_serves : (command : List ℕ) (number count : ℕ) (words : List (List ℕ)) → NamesMade command number count words → is_serve words ≡ false
made_serves command number count words made = ap is_serve made.are

pub made_checks : (command : List ℕ) (number count : ℕ) (words : List (List ℕ)) → NamesMade command number count words → is_check words ≡ false
made_checks command number count words made = ap is_check made.are

pub make_or_run : (number count number' count' : ℕ) (words : List (List ℕ)) → IsMake number count words → IsRunMade number' count' words → ⊥
make_or_run number count number' count' words make run =
    let same : codes "make" ≡ codes "run-made" = ap first (sym make.are ∙ run.are) in
    false≢true (ap (λ (command : List ℕ). bytes_eq command (codes "run-made")) same)

pub one_number : (command : List ℕ) (number count number' count' : ℕ) (words : List (List ℕ)) → NamesMade command number count words → NamesMade command number' count' words → number ≡ number'
one_number command number count number' count' words one other =
    decimal_injective number number' (omega (arith, one.number_fits)) (omega (arith, other.number_fits)) (ap (λ (it : List (List ℕ)). first (rest it)) (sym one.are ∙ other.are))

pub one_count : (command : List ℕ) (number count number' count' : ℕ) (words : List (List ℕ)) → NamesMade command number count words → NamesMade command number' count' words → count ≡ count'
one_count command number count number' count' words one other =
    decimal_injective count count' (omega (arith, one.count_fits)) (omega (arith, other.count_fits)) (ap (λ (it : List (List ℕ)). first (rest (rest it))) (sym one.are ∙ other.are))

-- ## each job against the others

-- the words of one job aren't bad, and ask for none of the others
pub serve_not_bad : (words : List (List ℕ)) → is_serve words ≡ true → AreBad words → ⊥
serve_not_bad words serves bad = false≢true (sym bad.serve ∙ serves)

pub check_not_bad : (words : List (List ℕ)) → is_check words ≡ true → AreBad words → ⊥
check_not_bad words checks bad = false≢true (sym bad.check ∙ checks)

pub make_not_bad : (number count : ℕ) (words : List (List ℕ)) → IsMake number count words → AreBad words → ⊥
make_not_bad number count words make bad = bad.make number count make

pub run_not_bad : (number count : ℕ) (words : List (List ℕ)) → IsRunMade number count words → AreBad words → ⊥
run_not_bad number count words run bad = bad.run_made number count run

pub serve_not_made : (command : List ℕ) (number count : ℕ) (words : List (List ℕ)) → is_serve words ≡ true → NamesMade command number count words → ⊥
serve_not_made command number count words serves made = false≢true (sym (made_serves command number count words made) ∙ serves)

pub check_not_made : (command : List ℕ) (number count : ℕ) (words : List (List ℕ)) → is_check words ≡ true → NamesMade command number count words → ⊥
check_not_made command number count words checks made = false≢true (sym (made_checks command number count words made) ∙ checks)

-- ## what is printed of the one input

pub made_printed : (status : Status) (taken taken' : Option (List ℕ)) (number count number' count' : ℕ) (words : List (List ℕ)) → IsMake number count words → IsMake number' count' words
    → Prints status taken taken' (made_text number count) → Prints status taken taken' (made_text number' count')
made_printed status taken taken' number count number' count' words one other prints =
    let same : made_text number count ≡ made_text number' count' =
    ap (λ (it : ℕ). made_text it count) (one_number (codes "make") number count number' count' words one other) ∙ ap (λ (it : ℕ). made_text number' it) (one_count (codes "make") number count number' count' words one other) in
    subst (λ (text : List ℕ). Prints status taken taken' text) same prints

pub run_printed : (status : Status) (taken taken' : Option (List ℕ)) (number count number' count' : ℕ) (words : List (List ℕ)) → IsRunMade number count words → IsRunMade number' count' words
    → PrintsSummary status number count taken taken' → PrintsSummary status number' count' taken taken'
run_printed status taken taken' number count number' count' words one other prints =
    subst (λ (it : ℕ). PrintsSummary status number' it taken taken') (one_count (codes "run-made") number count number' count' words one other)
    (subst (λ (it : ℕ). PrintsSummary status it count taken taken') (one_number (codes "run-made") number count number' count' words one other) prints)

-- ## no other status

pub prints_words : (status : Status) (taken taken' : Option (List ℕ)) (text : List ℕ) → Prints status taken taken' text → status ≡ BadWords → ⊥
prints_words status taken taken' text prints is = subst (λ (it : Status). Prints it taken taken' text) is prints

pub checks_words : (status : Status) (limit : ℕ) (content taken taken' : Option (List ℕ)) → Checks status limit content taken taken' → status ≡ BadWords → ⊥
checks_words status limit content taken taken' checks is = subst (λ (it : Status). Checks it limit content taken taken') is checks

pub summary_words : (status : Status) (number count : ℕ) (taken taken' : Option (List ℕ)) → PrintsSummary status number count taken taken' → status ≡ BadWords → ⊥
summary_words status number count taken taken' prints is = subst (λ (it : Status). PrintsSummary it number count taken taken') is prints

pub ruleset apart = (serve_or_check, make_or_run, serve_not_bad, check_not_bad, make_not_bad, run_not_bad, serve_not_made, check_not_made, made_serves, made_checks, made_printed, run_printed, prints_words, checks_words, summary_words)
