-- Kinds by number: how two are told apart, and the code by which proofs tell values with kinds apart.
use Rattle.std.specs.Prelude.{◌≡◌, ℕ, zero, suc, ◌==◌, Bool, List, refl}
use Rattle.std.specs.Coded.{Coded, code_by, coded_ℕ, coded_list}
use Rattle.mapping_body.specs.declared.kind.Kind.{Kind}
use Rattle.mapping_body.specs.declared.kind.Kind.TheVariants.{Text, Keyword, Long, Boolean, Date, Object, Nested, Join}

abbrev pub number_of : Kind → ℕ
number_of Text = 0
number_of Keyword = 1
number_of Long = 2
number_of Boolean = 3
number_of Date = 4
number_of Object = 5
number_of Nested = 6
number_of Join = 7

abbrev pub is_same_kind : Kind → Kind → Bool
is_same_kind one two = number_of one == number_of two

abbrev pub kind_by : ℕ → Kind
kind_by zero = Text
kind_by (suc zero) = Keyword
kind_by (suc (suc zero)) = Long
kind_by (suc (suc (suc zero))) = Boolean
kind_by (suc (suc (suc (suc zero)))) = Date
kind_by (suc (suc (suc (suc (suc zero))))) = Object
kind_by (suc (suc (suc (suc (suc (suc zero)))))) = Nested
kind_by (suc (suc (suc (suc (suc (suc (suc n))))))) = Join

pub kind_by-number : (k : Kind) → kind_by (number_of k) ≡ k
kind_by-number Text = refl
kind_by-number Keyword = refl
kind_by-number Long = refl
kind_by-number Boolean = refl
kind_by-number Date = refl
kind_by-number Object = refl
kind_by-number Nested = refl
kind_by-number Join = refl

abbrev pub kind_code : Coded Kind
kind_code = code_by ℕ coded_ℕ number_of kind_by kind_by-number

abbrev pub bytes_code : Coded (List ℕ)
bytes_code = coded_list coded_ℕ
