-- `recipe_file::length_of` meets its contract.
use mathlib.Core.Path.{◌∙◌, ap}
use Prim.Native.Nat.{◌+◌, ℕ}
use Rattle.recipe_file.specs.File.{length_of}
use Rattle.calculus.specs.Bytes.{word}
use Rattle.recipe_file.proofs.length_of.Goals as goal

pub returns : goal.returns
unfolding length_of
returns c = let s = c.args.recipe.now in (c.word_at.ensures.0 ∙ ap (λ (x : ℕ). word s (x + 2)) c.pair_offset.ensures, c.word_at.ensures.1)
