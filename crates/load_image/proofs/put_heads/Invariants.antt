-- `load_image::put_heads` meets its contract.
use Rattle.load_image.specs.Starting.{starting_at}
use Rattle.load_image.proofs.put_heads.Given as goal

abbrev pub ghost-put_heads : goal.ghost-put_heads
ghost-put_heads a = starting_at a.head_of.0.now.bytes.now
