-- `recipe_file::RecipeFile::term` meets its contract.
use mathlib.Core.Path.{◌∙◌, ap}
use Prim.Native.Nat.{◌+◌}
use native.Mathlib.Omega.{arith}
use Rattle.recipe_file.specs.File.{part, term_bytes}
use Rattle.recipe_file.specs.declared.Edition.{Edition}
use Rattle.recipe_file.proofs.Editions.{edition_rule}
use Rattle.recipe_file.proofs.Inside.{term_is_part}
use Rattle.recipe_file.proofs.LaidOut.{laid_where}
use Rattle.recipe_file.proofs.RecipeFile.term.Goals as goal

pub overflow_add-self : goal.overflow_add-self
overflow_add-self c = let f = c.args.self in omega (arith, c.requires, (laid_where f.bytes.now f.laid).has_parts.high, (edition_rule f.bytes.now).one_byte, ap (λ (e : Edition). e.terms) f.said)

pub part-requires : goal.part-requires
part-requires c = let f = c.args.self in rw f.said (term_is_part (record { laid = laid_where f.bytes.now f.laid; below = c.requires }))

pub returns : goal.returns
unfolding term_bytes
returns c = let f = c.args.self in c.part.ensures ∙ ap (λ (e : Edition). part f.bytes.now (e.terms + c.args.bay)) f.said
