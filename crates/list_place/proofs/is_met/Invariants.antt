-- `list_place::is_met` meets its contract: one application after the other (proofs/Meeting.antt).
use Rattle.std.proofs.Common.{◌-◌}
use Rattle.recipe_table.specs.Entries.{table_of}
use Rattle.list_place.proofs.Meeting.{Asked}
use Rattle.list_place.proofs.is_met.Given as goal

abbrev pub invariant-loop-k : goal.invariant-loop-k
invariant-loop-k l = Asked (table_of l.table) l.spine l.want l.number (l.spine - l._k) l.t
