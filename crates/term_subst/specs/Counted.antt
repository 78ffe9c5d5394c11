-- What one walk over a term counts.
use Rattle.std.specs.Prelude.{◌≡◌}
use Rattle.calculus.specs.Syntax.{Exp}
use Rattle.calculus.specs.Names.{uses}
use Rattle.calculus.specs.Image.{nodes as nodes_of}
use Rattle.term_subst.specs.declared.Uses.{Uses}

-- its nodes, and "for each place": how often the innermost variable around it stands in it, and the next
pub record UsesOf (e : Exp) (u : Uses) : Type 0 where
  pub nodes : u.nodes ≡ nodes_of e
  pub inner : u.inner ≡ uses 0 e
  pub outer : u.outer ≡ uses 1 e
