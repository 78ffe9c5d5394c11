-- Document 02, T-08, "Every name knows its bay": who owns each name. The owners stand beside the components, that of name x at place x, as the types of names do.
use Rattle.std.specs.Prelude.{◌≡◌, List, ◌++◌, ◌-◌, ◌<◌, ℕ, get_or, length, replicate}
use Rattle.std.proofs.Math.Option.{some}
use Rattle.calculus.specs.Lists.{tabulate}
use Rattle.calculus.specs.Syntax.{open_for, Config, at}

-- "the owning bay" of each name
abbrev pub Owners : Type 0
Owners = List ℕ

-- what an image says: a configuration, and who owns its names
pub record Owned : Type 0 where
  pub owners : Owners
  pub config : Config

-- the owner of name x
abbrev pub owner : Owners → ℕ → ℕ
owner O x = get_or O x 0

-- "Settings and first threads belong to their bay": with b bays, names 0 to b − 1 and b to 2b − 1
unfoldable pub first_owners : ℕ → Owners
first_owners b = tabulate b (λ bay. bay) ++ tabulate b (λ bay. bay)

-- "a new name to the creating thread's bay, and a future or handle keeps its owner when used": the owners when a step of thread x leaves C'
unfoldable pub owners_after : Owners → ℕ → Config → Owners
owners_after O x C' = O ++ replicate (length C' - length O) (owner O x)

-- what a step of thread x leaves
abbrev pub grown : Owned → ℕ → Config → Owned
grown I x C' = record { owners = owners_after I.owners x C'; config = C' }

-- what owners keep, where there are b bays
pub record OwnersRule (b : ℕ) (I : Owned) : Type 0 where
  -- each name has an owner
  pub sizes : length I.owners ≡ length I.config
  -- each owner is a bay; of any image, where b is 16: "An image with an owner not below 16 breaks the layout"
  pub below : (x : ℕ) → x < length I.config → owner I.owners x < b
  -- "an open handle has the owner of its future"
  pub handles : (z y : ℕ) → at I.config z ≡ some (open_for y) → owner I.owners z ≡ owner I.owners y
