use Rattle.std.proofs.Common.{◌∙◌, sym}
use Rattle.std.proofs.lemmas.Bool.{false≢true}
use Rattle.term.proofs.Views.{some_unless}
use Rattle.image_check.proofs.Theory.Answers.{none_refused}
use Rattle.image_check.proofs.count_nodes.Goals as goal

-- an image that stands is not refused
pub unwrap-requires : goal.unwrap-requires
unwrap-requires c = some_unless c.check_image.result (λ e. false≢true (sym (none_refused _ _ e c.check_image.ensures.answer) ∙ c.requires))
