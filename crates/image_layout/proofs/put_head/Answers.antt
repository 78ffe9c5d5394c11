-- `image_layout::put_head` meets its contract.
use mathlib.Core.Path.{refl}
use native.Mathlib.Omega.{arith}
use Rattle.calculus.specs.Bytes.{two_bytes}
use Rattle.buffer.proofs.Theory.Writes.{then}
use Rattle.image_layout.specs.Encoded.{head}
use Rattle.image_layout.proofs.put_head.Goals as goal

pub put_u16-after_size-requires : goal.put_u16-after_size-requires
unfolding two_bytes
put_u16-after_size-requires c =
    omega (
      arith,
      c.put_u16-after_offset.ensures.ends,
      c.put_u16-after_offset.auto.out,
      c.put_byte-after_companion.ensures.ends,
      c.put_byte-after_kind.ensures.ends,
    )

pub returns : goal.returns
unfolding head
returns c = record {
  wrote = then (then (then c.put_byte-after_kind.ensures c.put_byte-after_companion.ensures) c.put_u16-after_offset.ensures) c.put_u16-after_size.ensures;
  expression_value = refl;
}
