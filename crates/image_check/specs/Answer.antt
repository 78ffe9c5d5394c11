-- Document 01, refusal 13, "image breaks a rule or limit under "The image"": what the check of any slice answers.
use Rattle.std.specs.Prelude.{Bool, false, true, List, ℕ, Option, None, Some}
use Rattle.calculus.specs.Image.{nodes_all}
use Rattle.image.specs.Configuration.{config_of}
use Rattle.image.specs.Stands.{image_stands}

abbrev pub pick_checked : Bool → ℕ → Option ℕ
pick_checked true n = Some n
pick_checked false n = None

-- the nodes in all of a slice that keeps every rule and limit
unfoldable pub checked : List ℕ → Option ℕ
checked s = pick_checked (image_stands s) (nodes_all (config_of s))
