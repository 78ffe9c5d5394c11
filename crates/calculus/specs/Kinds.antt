-- The kinds of type entries, document 01's and T-03's, and of the names of an image.
use Rattle.std.specs.Prelude.{ℕ}

-- "Kinds: 0 unit, 1 num, 2 cell of p, 3 function from p to q usable once, 4 function from p to q usable many times"
abbrev pub unit_type_kind : ℕ
unit_type_kind = 0

abbrev pub num_type_kind : ℕ
num_type_kind = 1

abbrev pub cell_type_kind : ℕ
cell_type_kind = 2

abbrev pub once_type_kind : ℕ
once_type_kind = 3

abbrev pub many_type_kind : ℕ
many_type_kind = 4

-- T-03: "5 pair once, 6 pair many, 7 list once, 8 list many"
abbrev pub once_pair_kind : ℕ
once_pair_kind = 5

abbrev pub many_pair_kind : ℕ
many_pair_kind = 6

abbrev pub once_list_kind : ℕ
once_list_kind = 7

abbrev pub many_list_kind : ℕ
many_list_kind = 8

-- "Entries 0, 1, 2 are unit, num, cell of num": their numbers
abbrev pub unit_entry : ℕ
unit_entry = 0

abbrev pub num_entry : ℕ
num_entry = 1

abbrev pub setting_entry : ℕ
setting_entry = 2

-- "Kinds: 1 thread (its expression), 2 cell (its value), 3 open handle (companion is its future's number), 4 used handle, 5 future not yet bound"
abbrev pub thread_kind : ℕ
thread_kind = 1

abbrev pub cell_kind : ℕ
cell_kind = 2

abbrev pub open_handle_kind : ℕ
open_handle_kind = 3

abbrev pub used_handle_kind : ℕ
used_handle_kind = 4

abbrev pub future_kind : ℕ
future_kind = 5
