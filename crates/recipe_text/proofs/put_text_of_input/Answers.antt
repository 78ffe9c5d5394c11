-- `recipe_text::put_text_of_input` meets its contract.
use mathlib.Core.Path.{sym}
use native.Mathlib.Omega.{arith}
use lib.ListN.{take}
use lib.Seq.{length-take-le}
use Rattle.text.proofs.Theory.Put.{inside, put_as}
use Rattle.recipe_text.specs.Text.{max_text_length, text_of}
use Rattle.recipe_text.proofs.Ways.{same_text}
use Rattle.recipe_text.proofs.put_text_of_input.Goals as goal

pub slice_bounds-put_text-end : goal.slice_bounds-put_text-end
slice_bounds-put_text-end c = sym (length-take-le c.args.read c.args.buffer.now c.requires.1)

pub returns : goal.returns
returns c =
    let a = c.args in
    record {
      puts_input = λ input read. put_as (same_text input a.buffer.now a.read (omega (arith, c.requires.0)) read) c.put_text.ensures;
      upper_bound = inside max_text_length (text_of (take a.read a.buffer.now)) a.text.now c.put_text.ensures;
    }
