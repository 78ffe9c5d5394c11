-- Document 01, refusal 13: "image breaks a rule or limit under "The image"", decided for any slice.
use Rattle.std.specs.Prelude.{Bool, ◌&&◌, ◌||◌, List, ℕ, leb}
use Rattle.calculus.specs.Lists.{each_below}
use Rattle.calculus.specs.Image.{image_test}
use Rattle.term.specs.Reader.{one_term, read_term}
use Rattle.calculus.specs.Kinds.{open_handle_kind}
use Rattle.image_layout.specs.Slice.{names, kind_at, expression_at}
use Rattle.image_layout.specs.Layout.{heads_stand}
use Rattle.image.specs.Configuration.{config_of}

-- "Expressions use the node forms": a thread's and a cell's expression is exactly one term
unfoldable pub terms_stand : List ℕ → Bool
terms_stand s = each_below (names s) (λ k. leb open_handle_kind (kind_at s k) || one_term (read_term (expression_at s k)))

-- 13 does not fit: the layout, the expressions, and what the calculus asks of the configuration
unfoldable pub image_stands : List ℕ → Bool
image_stands s = heads_stand s && (terms_stand s && image_test (config_of s))
