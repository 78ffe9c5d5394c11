-- What a writer of heads is given for a name.
use Rattle.std.specs.Prelude.{◌≡◌, length}
use Rattle.image_layout.specs.declared.Head.{Head}
use Rattle.image_layout.specs.Encoded.{Encoded}

-- a head says what it is to say of a component
pub record Says (h : Head) (e : Encoded) : Type 0 where
  pub kinds : h.kind ≡ e.kind
  pub companions : h.companion ≡ e.companion
  pub sizes : h.size ≡ length e.expression
