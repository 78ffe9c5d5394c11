-- `recipe_table::entries_stand` meets its contract. The loop's invariant: the entries passed keep their rule and differ, their keys stand in the array, and each key has its mark.
use mathlib.Core.Path.{◌≡◌, refl}
use Prim.Native.Nat.{◌+◌, ◌-◌, ◌<◌, ◌≤◌}
use native.Mathlib.Omega.{arith}
use lib.ListN.{length}
use Rattle.recipe_table.proofs.Keys.{keyed_before, keyed_done, keyed_more, keyed_none, keyed_twice, marked_before, marked_more, marked_none}
use Rattle.recipe_table.proofs.Rules.{both_fail, both_hold, contents_broken, names_broken, rule_kept}
use Rattle.recipe_table.proofs.Turns.{entries_done}
use Rattle.recipe_table.proofs.entries_stand.Goals as goal

pub loop-i-init : goal.loop-i-init
loop-i-init c =
    let inside : c.args.count ≤ length c.args.table = omega (arith, c.requires, c.well_formed.0.1) in
    ((keyed_none _ _ inside _ c.requires refl, marked_none _ _ _ refl), entries_done _ _ inside _)

pub returns-then-not-entry_stands : goal.returns-then-not-entry_stands
returns-then-not-entry_stands c =
    let inside : c.args.count ≤ length c.args.table = omega (arith, c.requires, c.well_formed.0.1) in
    let below : c.loop-i.i - 1 < c.args.count = omega (arith, c.loop-i-test.true, c.loop-i.invariant.0.0.inside) in
    names_broken _ _ _ inside _ below c.entry_stands.ensures c.if-not-entry_stands.true

pub returns-then-not-contents_stand : goal.returns-then-not-contents_stand
returns-then-not-contents_stand c =
    let inside : c.args.count ≤ length c.args.table = omega (arith, c.requires, c.well_formed.0.1) in
    let below : c.loop-i.i - 1 < c.args.count = omega (arith, c.loop-i-test.true, c.loop-i.invariant.0.0.inside) in
    contents_broken _ _ _ inside _ below c.entry_stands.ensures c.if-not-entry_stands.false c.contents_stand.ensures c.if-not-contents_stand.true

pub is_unmet-requires : goal.is_unmet-requires
is_unmet-requires c =
    let (w, m) = c.loop-i.invariant.0 in
    ((omega (arith, w.inside), c.requires), marked_before m c.loop-i-test.true)

pub returns-then-not-is_unmet : goal.returns-then-not-is_unmet
returns-then-not-is_unmet c =
    let inside : c.args.count ≤ length c.args.table = omega (arith, c.requires, c.well_formed.0.1) in
    both_fail _ _ _ inside
    (keyed_twice _ _ inside _ _ (keyed_before c.loop-i.invariant.0.0 c.loop-i-test.true) c.key_of-key.ensures c.is_unmet.ensures c.if-not-is_unmet.true)

pub loop-i-preserved : goal.loop-i-preserved
loop-i-preserved c =
    let inside : c.args.count ≤ length c.args.table = omega (arith, c.requires, c.well_formed.0.1) in
    let below : c.loop-i.i - 1 < c.args.count = omega (arith, c.loop-i-test.true, c.loop-i.invariant.0.0.inside) in
    let ((w, m), k) = c.loop-i.invariant in
    let positive = c.loop-i-test.true in
    let (is, small) = c.mark_of.ensures in
    let more : c.loop-i.i - 1 + 1 ≡ c.loop-i.i = omega arith in (
      (
        keyed_more _ _ inside _ _ (keyed_before w positive) c.key_of-key.ensures c.is_unmet.ensures c.if-not-is_unmet.false,
        rw is (marked_more _ _ _ _ _ (omega (arith, w.inside, w.few, w.room)) (omega (arith, is, small)) (marked_before m positive)),
      ),
      rule_kept _ _ _ inside _ below c.entry_stands.ensures c.if-not-entry_stands.false c.contents_stand.ensures c.if-not-contents_stand.false (rw more k),
    )

pub returns : goal.returns
returns c =
    let inside : c.args.count ≤ length c.args.table = omega (arith, c.requires, c.well_formed.0.1) in
    let none : c.loop-i.i ≡ 0 = omega arith in
    both_hold _ _ _ inside (rw none at c.loop-i.invariant.1) (keyed_done c.loop-i.invariant.0.0 (omega arith))
