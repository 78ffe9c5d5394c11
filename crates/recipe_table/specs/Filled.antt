-- Document 01, "Arrays [entry; 256] by value for the read type table, unused entries kept at kind 0".
use Rattle.std.specs.Prelude.{Bool, ◌&&◌, List, ◌++◌, map, ◌-◌, ℕ, get_or, length, replicate, take}
use Rattle.calculus.specs.Limits.{max_entries}
use Rattle.calculus.specs.Kinds.{unit_type_kind, unit_entry, num_entry, setting_entry}
use Rattle.calculus.specs.Table as calculus
use Rattle.recipe_table.specs.declared.Entry.{Entry}

-- "unused entries kept at kind 0": what stands behind the entries of a table
abbrev pub unused : Entry
unused = record { kind = unit_type_kind; p = 0; q = 0 }

-- an entry of the code is an entry of the calculus
abbrev pub as_entry : Entry → calculus.Entry
as_entry x = calculus.entry x.kind x.p x.q

-- and the other way
abbrev pub by_value : calculus.Entry → Entry
by_value x = record { kind = x.kind; p = x.p; q = x.q }

-- the first `count` entries of an array, as a table
unfoldable pub as_table : List Entry → ℕ → calculus.Table
as_table a count = map as_entry (take count a)

-- a table as an array of 256 entries, if it has no more
unfoldable pub filled : calculus.Table → List Entry
filled T = map by_value T ++ replicate (max_entries - length T) unused

-- entry k of an array is this one
unfoldable pub stands_at : List Entry → ℕ → calculus.Entry → Bool
stands_at a k x = calculus.same_entry (as_entry (get_or a k unused)) x

-- document 01, "Entries 0, 1, 2 are unit, num, cell of num", in an array
unfoldable pub first_three : List Entry → Bool
first_three a = stands_at a unit_entry calculus.entry_of_unit && (stands_at a num_entry calculus.entry_of_num && stands_at a setting_entry calculus.entry_of_setting)
