-- What readers of a file that is laid out use: the pairs and the parts stand in it.
use mathlib.Core.Path.{◌≡◌}
use mathlib.Core.Bool.{true}
use mathlib.Core.List.{List}
use Prim.Native.Nat.{◌+◌, ◌-◌, ◌<◌, ◌≤◌, suc, zero, ℕ}
use native.Mathlib.Omega.{arith}
use lib.ListN.{length, length-drop, length-take}
use Rattle.calculus.specs.Limits.{byte_values}
use Rattle.recipe_file.specs.File.{parts, table_part, edition_of, bays, pair_offset, offset_of, length_of, part, table_bytes}
use Rattle.recipe_file.specs.Starting.{starting_part, starting_bytes}
use Rattle.recipe_file.specs.FileRule.{FileRule, HasPart, HasBay}
use Rattle.recipe_file.proofs.Editions.{edition_rule}
use Rattle.recipe_file.proofs.Chains.{some_part, chain_room, chain_inside, chain}

-- "Byte 3 is n"
pub few_parts : {s : List ℕ} → FileRule s → parts s < byte_values
unfolding bays
few_parts {s} l = omega (arith, l.has_parts.high, (edition_rule s).one_byte)

pub pairs_inside : {s : List ℕ} → FileRule s → pair_offset (parts s) ≤ length s
pairs_inside {s} l = omega (arith, chain_room s (parts s) 0 (pair_offset (parts s)) (chain s l))

pub part_inside : {s : List ℕ} {i : ℕ} → HasPart s i → offset_of s i + length_of s i ≤ length s
part_inside {s} {i} h = chain_inside s (chain s h.laid) i h.below

pub length_part : {s : List ℕ} {i : ℕ} → HasPart s i → length (part s i) ≡ length_of s i
unfolding part
length_part {s} {i} h = let w = part_inside h in simp (length-take, length-drop) (omega arith)

-- the table and the terms are parts
pub table_is_part : {s : List ℕ} → FileRule s → HasPart s table_part
table_is_part l = record { laid = l; below = some_part _ l.has_parts }

pub length_table_bytes : {s : List ℕ} → FileRule s → length (table_bytes s) ≡ length_of s table_part
unfolding table_bytes
length_table_bytes l = length_part (table_is_part l)

pub term_is_part : {s : List ℕ} {bay : ℕ} → HasBay s bay → HasPart s ((edition_of s).terms + bay)
unfolding bays
term_is_part h = record { laid = h.laid; below = omega (arith, h.below) }

-- so is the starting part, where the edition has it
pub starting_is_part : {s : List ℕ} → FileRule s → (edition_of s).starting ≡ true → HasPart s starting_part
unfolding bays
starting_is_part {s} l e = record { laid = l; below = omega (arith, (edition_rule s).behind_starting e, l.has_parts.low) }

pub length_starting_bytes : {s : List ℕ} → FileRule s → (edition_of s).starting ≡ true → length (starting_bytes s) ≡ length_of s starting_part
unfolding starting_bytes
length_starting_bytes l e = rw e (length_part (starting_is_part l e))

-- "sorted by offset"
sorted_by : (s : List ℕ) → FileRule s → (i k : ℕ) → i + suc k < parts s → offset_of s i < offset_of s (i + suc k)
sorted_by s l i zero h = let e : i + 1 ≡ i + suc zero = omega arith in rw (← e) (omega (arith, l.next i (omega arith), l.some_length i (omega arith)))
sorted_by s l i (suc k) h =
    let e : i + suc k + 1 ≡ i + suc (suc k) = omega arith in
    let ih = sorted_by s l i k (omega arith) in
    rw (← e) (omega (arith, l.next (i + suc k) (omega arith)))

pub sorted : {s : List ℕ} → FileRule s → (i j : ℕ) → i < j → j < parts s → offset_of s i < offset_of s j
sorted {s} l i j h b = let e : i + suc (j - (i + 1)) ≡ j = omega arith in rw e at (sorted_by s l i (j - (i + 1)) (omega arith))
