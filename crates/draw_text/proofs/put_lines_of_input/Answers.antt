-- `draw_text::put_lines_of_input` meets its contract.
use mathlib.Core.Path.{◌∙◌, ap, sym}
use lib.ListN.{length, take}
use lib.Seq.{length-take-le}
use Rattle.text.proofs.Theory.Put.{inside, put_as}
use Rattle.draw_spec.specs.Lines.{max_text_length, text_of}
use Rattle.draw_spec.proofs.Theory.Lines.{text_of_longer}
use Rattle.draw_text.proofs.put_lines_of_input.Goals as goal

pub slice_bounds-put_lines-end : goal.slice_bounds-put_lines-end
slice_bounds-put_lines-end c = sym (length-take-le c.args.read c.args.buffer.now c.requires.1)

pub returns : goal.returns
returns c =
    let a = c.args in
    record {
      puts_input = λ input read. put_as (ap text_of read ∙ text_of_longer input (length a.buffer.now) c.requires.0) c.put_lines.ensures;
      upper_bound = inside max_text_length (text_of (take a.read a.buffer.now)) a.text.now c.put_lines.ensures;
    }
