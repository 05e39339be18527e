use Rattle.std.proofs.Common.{refl}
use Rattle.segment_builder.specs.Entries.{no_entries, with_blocks}
use Rattle.segment_builder.proofs.Agreeing.{written_by}
use Rattle.segment_builder.proofs.ByDocuments.{keywords_by, numbers_by, terms_by, texts_by}
use Rattle.segment_builder.proofs.Parted.{scopes_are}
use Rattle.segment_builder.proofs.law.blocks_carry_what_documents_carry.Goals as goal

pub returns-clause-scopes : goal.returns-clause-scopes
returns-clause-scopes c = λ blocks. scopes_are (with_blocks no_entries blocks) blocks refl

pub returns-clause-terms : goal.returns-clause-terms
returns-clause-terms c = λ m blocks roots ordered small fit term. terms_by blocks m (written_by m blocks roots ordered small fit) term

pub returns-clause-numbers : goal.returns-clause-numbers
returns-clause-numbers c = λ blocks. numbers_by blocks

pub returns-clause-keywords : goal.returns-clause-keywords
returns-clause-keywords c = λ blocks. keywords_by blocks

pub returns-clause-texts : goal.returns-clause-texts
returns-clause-texts c = λ blocks. texts_by blocks
