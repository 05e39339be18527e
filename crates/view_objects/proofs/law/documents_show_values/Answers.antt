use Rattle.view_objects.proofs.Values.{is_of_kind, shown_same}
use Rattle.view_objects.proofs.law.documents_show_values.Goals as goal

pub returns-clause-shown : goal.returns-clause-shown
returns-clause-shown c = λ m f o known is. shown_same m f o known is

pub returns-clause-kind : goal.returns-clause-kind
returns-clause-kind c = λ m f o. is_of_kind m f o
