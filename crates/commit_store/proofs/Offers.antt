-- Whether a pool has a better extent for a segment: what a look for room tells of that.
use Rattle.std.proofs.Common.{◌≡◌, ℕ, ◌<◌, ◌≤◌, cond, nat_lt, List, Option, None, Some, option_map, unwrap_or, refl, sym, ◌∙◌, ap, subst}
use Rattle.std.proofs.lemmas.Bool.{cond-false, cond-true, le-ltb, lt-ltb}
use Rattle.std.proofs.lemmas.Option.{none-some}
use Rattle.extent_pool.specs.Placing.{NamedExtent, better, fit, if_before}
use Rattle.extent_pool.specs.declared.extent.Extent.{Extent}

none_at : (place : ℕ) (found : Option Extent) → option_map (λ (it : Extent). it.at) found ≡ None → if_before place found ≡ None
none_at place None none = refl
none_at place (Some extent) none = absurd (none-some extent.at (sym none))

later_at : (place at : ℕ) (found : Option Extent) → option_map (λ (it : Extent). it.at) found ≡ Some at → place ≤ at → if_before place found ≡ None
later_at place at None is later = absurd (none-some at is)
later_at place at (Some extent) is later =
    let same : at ≡ extent.at = sym (ap (λ (it : Option ℕ). unwrap_or it at) is) in
    cond-false (nat_lt extent.at place) (Some extent) None (le-ltb extent.at place (subst (λ (n : ℕ). place ≤ n) same later))

before_at : (place at : ℕ) (found : Option Extent) (extent : Extent) → option_map (λ (it : Extent). it.at) found ≡ Some at → at < place → found ≡ Some extent → if_before place found ≡ Some extent
before_at place at None extent is before same = absurd (none-some extent same)
before_at place at (Some own) extent is before same =
    let here : at ≡ own.at = sym (ap (λ (it : Option ℕ). unwrap_or it at) is) in
    cond-true (nat_lt own.at place) (Some own) None (lt-ltb own.at place (subst (λ (n : ℕ). n < place) here before)) ∙ same

pub better_nowhere : (limit : ℕ) (taken : List Extent) (named : NamedExtent) → option_map (λ (it : Extent). it.at) (fit limit taken named.extent.len) ≡ None → better limit taken named ≡ None
better_nowhere limit taken named none = none_at named.extent.at (fit limit taken named.extent.len) none

pub better_later : (limit : ℕ) (taken : List Extent) (named : NamedExtent) (at : ℕ) → option_map (λ (it : Extent). it.at) (fit limit taken named.extent.len) ≡ Some at
    → named.extent.at ≤ at → better limit taken named ≡ None
better_later limit taken named at is later = later_at named.extent.at at (fit limit taken named.extent.len) is later

pub better_before : (limit : ℕ) (taken : List Extent) (named : NamedExtent) (at : ℕ) (extent : Extent) → option_map (λ (it : Extent). it.at) (fit limit taken named.extent.len) ≡ Some at
    → at < named.extent.at → fit limit taken named.extent.len ≡ Some extent → better limit taken named ≡ Some extent
better_before limit taken named at extent is before same = before_at named.extent.at at (fit limit taken named.extent.len) extent is before same

pub ruleset offers = (better_nowhere, better_later, better_before)
