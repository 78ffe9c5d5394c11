-- `load_image::first_term` meets its contract.
use mathlib.Core.Path.{◌∙◌, ap}
use native.Mathlib.Omega.{arith}
use Rattle.recipe_file.specs.declared.Edition.{Edition}
use Rattle.recipe_file.specs.File.{offset_of}
use Rattle.recipe_file.proofs.LaidOut.{laid_where}
use Rattle.load_image.proofs.Names.{first_pair}
use Rattle.load_image.proofs.first_term.Goals as goal

pub offset_of-requires : goal.offset_of-requires
offset_of-requires c =
    let f = c.args.recipe in
    let p = first_pair (laid_where f.bytes.now f.laid) in
    omega (arith, p.0, p.1, ap (λ (e : Edition). e.terms) f.said)

pub returns : goal.returns
returns c = let f = c.args.recipe in c.offset_of.ensures.0 ∙ ap (λ (e : Edition). offset_of f.bytes.now e.terms) f.said
