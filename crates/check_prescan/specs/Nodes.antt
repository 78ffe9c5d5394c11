-- What is known of a node that was read.
use Rattle.std.specs.Prelude.{◌≡◌, ◌<◌, ℕ}
use Rattle.calculus.specs.Bytes.{two_byte_values}
use Rattle.calculus.specs.Limits.{byte_values}
use Rattle.term.specs.declared.Node.{Node}
use Rattle.term.specs.Forms.{refers_of, tags, to_type}

-- its tag is known, the table says what its number refers to, and the number is what two bytes can say
pub record Known (h : Node) : Type 0 where
  pub known : h.tag < tags
  pub refers : refers_of h.tag ≡ h.refers
  pub small : h.arg < two_byte_values

-- the number after its tag is that of a type
pub record TypedNode (tag arg : ℕ) : Type 0 where
  pub known : tag < tags
  pub typed : refers_of tag ≡ to_type
  pub small : arg < byte_values
