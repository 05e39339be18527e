use Rattle.mapping.proofs.Reaching.{reached}
use Rattle.mapping.proofs.law.names_lead_to_fields.Goals as goal

pub returns : goal.returns
returns c = reached
