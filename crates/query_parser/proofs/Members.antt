-- What stands under a name, by the members and by the look-up of one.
use Rattle.std.proofs.Common.{◌≡◌, ◌<◌, ℕ, List as Seq, [], Bool, true, false, Option, Some, None, refl, ap, arith, bytes_eq, codes}
use Rattle.tree_json.specs.Value.{JsonValue, Members, no_members, member, member_of, value_size, members_size}
use Rattle.mapping.specs.Mapping.{Mapping}
use Rattle.query_ast.specs.Clause.{leaf, match_all}
use Rattle.query_parser.specs.Buckets.{buckets_at, buckets_under}
use Rattle.query_parser.specs.Queries.{clause_at, clause_under, clauses_at, clauses_under}
use Rattle.query_parser.specs.Sorts.{chain_at, chain_under}

-- the two answers of a test
split : {G : Type 0} (t : Bool) → (t ≡ true → G) → (t ≡ false → G) → G
split true held failed = held refl
split false held failed = failed refl

members_positive : (ms : Members) → 0 < members_size ms
members_positive no_members = omega arith
members_positive (member k d ms) = omega (arith, members_positive ms)

pub member_smaller : (ms : Members) (name : Seq ℕ) (d : JsonValue) → member_of ms name ≡ Some d → value_size d < members_size ms
member_smaller no_members name d e = cc
member_smaller (member k v ms) name d e =
    split (bytes_eq k name)
    (λ same. let one : Some v ≡ Some d = rw same at e in let is : v ≡ d = cc in omega (arith, ap value_size is, members_positive ms))
    (λ other. omega (arith, member_smaller ms name d (rw other at e)))

pub clause_there : (m : Mapping) (scope : Option ℕ) (name : Seq ℕ) (ms : Members) (d : JsonValue) → member_of ms name ≡ Some d → clause_under m scope name ms ≡ clause_at m scope d
clause_there m scope name no_members d e = cc
clause_there m scope name (member k v ms) d e =
    split (bytes_eq k name)
    (λ same. let one : Some v ≡ Some d = rw same at e in let is : v ≡ d = cc in rw same (ap (clause_at m scope) is))
    (λ other. rw other (clause_there m scope name ms d (rw other at e)))

pub clause_absent : (m : Mapping) (scope : Option ℕ) (name : Seq ℕ) (ms : Members) → member_of ms name ≡ None → clause_under m scope name ms ≡ leaf match_all 1
clause_absent m scope name no_members e = refl
clause_absent m scope name (member k v ms) e =
    split (bytes_eq k name)
    (λ same. let one : Some v ≡ None = rw same at e in cc)
    (λ other. rw other (clause_absent m scope name ms (rw other at e)))

pub clauses_there : (m : Mapping) (scope : Option ℕ) (name : Seq ℕ) (ms : Members) (d : JsonValue) → member_of ms name ≡ Some d → clauses_under m scope name ms ≡ clauses_at m scope d
clauses_there m scope name no_members d e = cc
clauses_there m scope name (member k v ms) d e =
    split (bytes_eq k name)
    (λ same. let one : Some v ≡ Some d = rw same at e in let is : v ≡ d = cc in rw same (ap (clauses_at m scope) is))
    (λ other. rw other (clauses_there m scope name ms d (rw other at e)))

pub clauses_absent : (m : Mapping) (scope : Option ℕ) (name : Seq ℕ) (ms : Members) → member_of ms name ≡ None → clauses_under m scope name ms ≡ []
clauses_absent m scope name no_members e = refl
clauses_absent m scope name (member k v ms) e =
    split (bytes_eq k name)
    (λ same. let one : Some v ≡ None = rw same at e in cc)
    (λ other. rw other (clauses_absent m scope name ms (rw other at e)))

pub chain_there : (m : Mapping) (scope : Option ℕ) (ms : Members) (d : JsonValue) → member_of ms (codes "nested") ≡ Some d → chain_under m scope ms ≡ chain_at m scope d
chain_there m scope no_members d e = cc
chain_there m scope (member k v ms) d e =
    split (bytes_eq k (codes "nested"))
    (λ same. let one : Some v ≡ Some d = rw same at e in let is : v ≡ d = cc in rw same (ap (chain_at m scope) is))
    (λ other. rw other (chain_there m scope ms d (rw other at e)))

pub chain_absent : (m : Mapping) (scope : Option ℕ) (ms : Members) → member_of ms (codes "nested") ≡ None → chain_under m scope ms ≡ []
chain_absent m scope no_members e = refl
chain_absent m scope (member k v ms) e =
    split (bytes_eq k (codes "nested"))
    (λ same. let one : Some v ≡ None = rw same at e in cc)
    (λ other. rw other (chain_absent m scope ms (rw other at e)))

pub buckets_there : (m : Mapping) (scope : Option ℕ) (name : Seq ℕ) (ms : Members) (d : JsonValue) → member_of ms name ≡ Some d → buckets_under m scope name ms ≡ buckets_at m scope d
buckets_there m scope name no_members d e = cc
buckets_there m scope name (member k v ms) d e =
    split (bytes_eq k name)
    (λ same. let one : Some v ≡ Some d = rw same at e in let is : v ≡ d = cc in rw same (ap (buckets_at m scope) is))
    (λ other. rw other (buckets_there m scope name ms d (rw other at e)))

pub buckets_absent : (m : Mapping) (scope : Option ℕ) (name : Seq ℕ) (ms : Members) → member_of ms name ≡ None → buckets_under m scope name ms ≡ []
buckets_absent m scope name no_members e = refl
buckets_absent m scope name (member k v ms) e =
    split (bytes_eq k name)
    (λ same. let one : Some v ≡ None = rw same at e in cc)
    (λ other. rw other (buckets_absent m scope name ms (rw other at e)))

pub ruleset members = (member_smaller, clause_there, clause_absent, clauses_there, clauses_absent, chain_there, chain_absent)

pub ruleset bucket_members = (member_smaller, buckets_there, buckets_absent)
