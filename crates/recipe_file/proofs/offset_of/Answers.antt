-- `recipe_file::offset_of` meets its contract.
use mathlib.Core.Path.{◌∙◌, ap}
use Prim.Native.Nat.{ℕ}
use Rattle.recipe_file.specs.File.{offset_of}
use Rattle.calculus.specs.Bytes.{word}
use Rattle.recipe_file.proofs.offset_of.Goals as goal

pub returns : goal.returns
unfolding offset_of
returns c = let s = c.args.recipe.now in (c.word_at.ensures.0 ∙ ap (λ (x : ℕ). word s x) c.pair_offset.ensures, c.word_at.ensures.1)
