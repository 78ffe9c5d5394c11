-- The entry that a type number names.
use Rattle.std.proofs.Math.Option.{Option, none, some}
use Rattle.std.specs.Prelude.{ℕ}
use Rattle.calculus.specs.Syntax.{at}
use Rattle.calculus.specs.Table.{Entry, entry_of_unit, Table}

-- an entry, or one that is no function and no cell
unfoldable pub known_entry : Option Entry → Entry
known_entry none = entry_of_unit
known_entry (some x) = x

-- the entry with a number
unfoldable pub entry_of : Table → ℕ → Entry
entry_of T t = known_entry (at T t)
