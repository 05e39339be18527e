-- An element is no larger than its list: the measures of recursions over queries and definitions.
use Rattle.std.specs.Prelude.{ℕ, zero, suc, ◌<◌, ◌≤◌, List, [], ◌∷◌, length, map, get_or}
use Rattle.std.proofs.Common.{arith}
use Rattle.query_ast.specs.Agg.View.{agg_of}
use Rattle.query_ast.specs.Clause.{clause_size, clauses_of, clauses_size}
use Rattle.query_ast.specs.Clause.View.{clause_of}
use Rattle.query_ast.specs.Definition.{definition_size, definitions_of, definitions_size}
use Rattle.query_ast.specs.Inner.View.{inner_of}
use Rattle.query_ast.specs.Pages.{pages_of, pages_size, hits_of, hits_size}
use Rattle.query_ast.specs.Pages.View.{page_part, hit_part}
use Rattle.query_ast.specs.Replies.{replies_of, replies_size, value_size, buckets_of, buckets_size}
use Rattle.query_ast.specs.Replies.View.{reply_part, bucket_part}
use Rattle.query_ast.specs.declared.agg.AggDef.{AggDef}
use Rattle.query_ast.specs.declared.bucket.AggReply.{AggReply}
use Rattle.query_ast.specs.declared.bucket.Bucket.{Bucket}
use Rattle.query_ast.specs.declared.hit.InnerHit.{InnerHit}
use Rattle.query_ast.specs.declared.hit.InnerPage.{InnerPage}
use Rattle.query_ast.specs.declared.inner.InnerDef.{InnerDef}
use Rattle.query_ast.specs.declared.query.Query.{Query}

pub clause_sizes : (qs : List Query) (i : ℕ) (d : Query) → i < length qs → clause_size (clause_of (get_or qs i d)) ≤ clauses_size (clauses_of (map clause_of qs))
clause_sizes [] i d h = absurd (omega arith)
clause_sizes (q ∷ qs) zero d h = omega arith
clause_sizes (q ∷ qs) (suc i) d h = omega (arith, clause_sizes qs i d (omega arith))

pub inner_sizes : (defs : List InnerDef) (i : ℕ) (d : InnerDef) → i < length defs → definition_size (inner_of (get_or defs i d)) ≤ definitions_size (definitions_of (map inner_of defs))
inner_sizes [] i d h = absurd (omega arith)
inner_sizes (x ∷ xs) zero d h = omega arith
inner_sizes (x ∷ xs) (suc i) d h = omega (arith, inner_sizes xs i d (omega arith))

pub agg_sizes : (defs : List AggDef) (i : ℕ) (d : AggDef) → i < length defs → definition_size (agg_of (get_or defs i d)) ≤ definitions_size (definitions_of (map agg_of defs))
agg_sizes [] i d h = absurd (omega arith)
agg_sizes (x ∷ xs) zero d h = omega arith
agg_sizes (x ∷ xs) (suc i) d h = omega (arith, agg_sizes xs i d (omega arith))

-- what an element of pages or of answers holds is smaller than the list
pub page_sizes : (pages : List InnerPage) (i : ℕ) (d : InnerPage) → i < length pages → hits_size (page_part (get_or pages i d)).hits < pages_size (pages_of (map page_part pages))
page_sizes [] i d h = absurd (omega arith)
page_sizes (x ∷ xs) zero d h = omega arith
page_sizes (x ∷ xs) (suc i) d h = omega (arith, page_sizes xs i d (omega arith))

pub hit_sizes : (hits : List InnerHit) (i : ℕ) (d : InnerHit) → i < length hits → pages_size (hit_part (get_or hits i d)).inner < hits_size (hits_of (map hit_part hits))
hit_sizes [] i d h = absurd (omega arith)
hit_sizes (x ∷ xs) zero d h = omega arith
hit_sizes (x ∷ xs) (suc i) d h = omega (arith, hit_sizes xs i d (omega arith))

pub reply_sizes : (replies : List AggReply) (i : ℕ) (d : AggReply) → i < length replies → value_size (reply_part (get_or replies i d)).value < replies_size (replies_of (map reply_part replies))
reply_sizes [] i d h = absurd (omega arith)
reply_sizes (x ∷ xs) zero d h = omega arith
reply_sizes (x ∷ xs) (suc i) d h = omega (arith, reply_sizes xs i d (omega arith))

pub bucket_sizes : (buckets : List Bucket) (i : ℕ) (d : Bucket) → i < length buckets → replies_size (bucket_part (get_or buckets i d)).inner < buckets_size (buckets_of (map bucket_part buckets))
bucket_sizes [] i d h = absurd (omega arith)
bucket_sizes (x ∷ xs) zero d h = omega arith
bucket_sizes (x ∷ xs) (suc i) d h = omega (arith, bucket_sizes xs i d (omega arith))
