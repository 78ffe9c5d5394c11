-- `load_image::put_settings` meets its contract.
use native.Mathlib.Omega.{arith}
use lib.ListN.{get_or}
use Rattle.std.proofs.Common.{rules}
use Rattle.calculus.specs.Bytes.{two_bytes}
use Rattle.load_image.specs.Starting.{setting, setting_bytes}
use Rattle.load_image.proofs.Names.{settings_length}
use Rattle.load_image.proofs.put_settings.Goals as goal

pub put_expressions-requires : goal.put_expressions-requires
unfolding setting setting_bytes two_bytes
put_expressions-requires c κs within = (
  search rules,
  (
    λ k next room below fits. grind arith,
    (λ k next last old new below wrote. search rules, omega (arith, settings_length (λ k. get_or c.args.nums k 0) c.args.bays, c.requires.1)),
  ),
)
