-- `load_image::put_settings` meets its contract.
use lib.ListN.{get_or}
use Rattle.load_image.specs.Starting.{setting}
use Rattle.load_image.proofs.put_settings.Given as goal

abbrev pub ghost-put_expressions : goal.ghost-put_expressions
ghost-put_expressions a k = setting (get_or a.put.now.0.now k 0) k
