-- Components in bytes, by kind: what is written for a name of this owner. T-08: the companion of an open handle is its future's number, of any other kind the owner.
use Rattle.std.specs.Prelude.{List, [], ℕ}
use Rattle.calculus.specs.Kinds.{thread_kind, cell_kind, open_handle_kind, used_handle_kind, future_kind}
use Rattle.image_layout.specs.Encoded.{Encoded}

abbrev pub thread_holding : List ℕ → ℕ → Encoded
thread_holding e owner = record { kind = thread_kind; companion = owner; expression = e }

abbrev pub cell_holding : List ℕ → ℕ → Encoded
cell_holding v owner = record { kind = cell_kind; companion = owner; expression = v }

abbrev pub handle_open : ℕ → ℕ → Encoded
handle_open future owner = record { kind = open_handle_kind; companion = future; expression = [] }

abbrev pub handle_used : ℕ → Encoded
handle_used owner = record { kind = used_handle_kind; companion = owner; expression = [] }

abbrev pub future_awaited : ℕ → Encoded
future_awaited owner = record { kind = future_kind; companion = owner; expression = [] }
