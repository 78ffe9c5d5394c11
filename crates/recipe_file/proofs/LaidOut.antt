-- Causes 1 to 3 do not fit exactly when a file is laid out as document 01 says.
use mathlib.Core.Path.{◌≡◌, ap, refl, sym}
use mathlib.Core.Logic.{◌↔◌}
use mathlib.Core.Bool.{Bool, ◌||◌, false, false≢true, not, true}
use mathlib.Core.List.{List, [], ◌∷◌}
use Prim.Native.Nat.{◌%◌, ◌*◌, ◌/◌, ◌≤◌, ℕ}
use native.Mathlib.Omega.{arith}
use borrow.Author.Tests.{eq-eqb, eqb-true, le-ltb, ltb-false, not-false, not-true}
use lib.Dec.{eqb, ltb}
use lib.ListN.{get_or, length, take}
use Rattle.calculus.proofs.Theory.Lowest.{none_fits}
use Rattle.calculus.specs.Limits.{min_file_length, max_file_length, min_bays, max_bays, min_entries, max_entries}
use Rattle.calculus.proofs.Theory.Tests.{and_true, and_parts}
use Rattle.recipe_file.specs.File.{opening, edition_of, parts, bays, table_part, pair_offset, length_of, outside, cause_1, opens, cause_2, pairs_test, entry_length, table_length_test, cause_3, layout_refusal, layout_causes}
use Rattle.recipe_file.specs.FileRule.{Between, FileRule}
use Rattle.recipe_file.proofs.Chains.{some_part, chain_sound, chain_complete, chain_first, chain_next, chain_last, chain_some, chain}

-- tests
pub or_parts : (a b : Bool) → (a || b) ≡ false → (a ≡ false) × (b ≡ false)
or_parts true b e = absurd (false≢true (sym e))
or_parts false b e = (refl, e)

pub or_false : {a b : Bool} → a ≡ false → b ≡ false → (a || b) ≡ false
or_false p q = rw (p, q)

pub between : (least most n : ℕ) → outside least most n ≡ false → Between least most n
unfolding outside
between least most n e =
    let (a, b) = or_parts (ltb n least) (ltb most n) e in
    record { low = ltb-false n least a; high = ltb-false most n b }

pub within : (least most n : ℕ) → Between least most n → outside least most n ≡ false
unfolding outside
within least most n b = or_false (le-ltb n least b.low) (le-ltb most n b.high)

-- the opening
opens_sound : (s : List ℕ) → 2 ≤ length s → opens s ≡ true → take (length opening) s ≡ opening
unfolding opens
opens_sound [] h e = absurd (omega arith)
opens_sound (a ∷ []) h e = absurd (omega arith)
opens_sound (a ∷ b ∷ s) h e =
    let (p, q) = and_parts (eqb a 0x4C) (eqb b 0x46) e in
    rw (eqb-true a 0x4C p, eqb-true b 0x46 q)

opens_complete : (s : List ℕ) → take (length opening) s ≡ opening → opens s ≡ true
unfolding opens
opens_complete [] e = absurd (omega (arith, ap length e))
opens_complete (a ∷ []) e = absurd (omega (arith, ap length e))
opens_complete (a ∷ b ∷ s) e =
    let p : a ≡ 0x4C = cc in
    let q : b ≡ 0x46 = cc in
    and_true (eq-eqb a 0x4C p) (eq-eqb b 0x46 q)

-- the table's length
pub entries_sound : (n : ℕ) → table_length_test n ≡ true → (t : ℕ) × (n ≡ entry_length * t) × Between min_entries max_entries t
unfolding table_length_test
entries_sound n e =
    let (a, b) = and_parts (eqb (n % 3) 0) _ e in
    let z = eqb-true (n % 3) 0 a in
    let w = between 9 768 n (not-true (outside 9 768 n) b) in
    (n / 3, omega arith, record { low = omega (arith, w.low); high = omega (arith, w.high) })

pub entries_complete : (n : ℕ) → (t : ℕ) × (n ≡ entry_length * t) × Between min_entries max_entries t → table_length_test n ≡ true
unfolding table_length_test
entries_complete n (t, e, b) =
    and_true (eq-eqb (n % 3) 0 (omega arith))
    (ap not (within 9 768 n (record { low = omega (arith, b.low); high = omega (arith, b.high) })))

pub laid : (s : List ℕ) → cause_1 s ≡ false → cause_2 s ≡ false → cause_3 s ≡ false → FileRule s
unfolding cause_1 cause_2 cause_3
laid s e₁ e₂ e₃ =
    let size = between min_file_length max_file_length (length s) e₁ in
    let (o, f) = or_parts (not (opens s)) _ e₂ in
    let (v, n) = or_parts (not (eqb (get_or s 2 0) (edition_of s).number)) (outside min_bays max_bays (bays s)) f in
    let (p, t) = or_parts (not (pairs_test s (parts s) 0 (pair_offset (parts s)))) (not (table_length_test (length_of s table_part))) e₃ in
    let ps = between min_bays max_bays (bays s) n in
    let c = chain_sound s (parts s) 0 (pair_offset (parts s)) (not-false _ p) in
    record {
      size = size;
      opens_so = opens_sound s (omega (arith, size.low)) (not-false (opens s) o);
      has_edition = eqb-true (get_or s 2 0) (edition_of s).number (not-false _ v);
      has_parts = ps;
      first = chain_first s c (some_part s ps);
      next = chain_next s c;
      last = chain_last s c;
      some_length = chain_some s c;
      entries = entries_sound (length_of s table_part) (not-false _ t);
    }

module _ {s : List ℕ} (l : FileRule s) where
  pub no_cause_1 : cause_1 s ≡ false
  unfolding cause_1
  no_cause_1 = within min_file_length max_file_length (length s) l.size

  pub no_cause_2 : cause_2 s ≡ false
  unfolding cause_2
  no_cause_2 =
      or_false (ap not (opens_complete s l.opens_so))
      (or_false (ap not (eq-eqb (get_or s 2 0) (edition_of s).number l.has_edition)) (within min_bays max_bays (bays s) l.has_parts))

  pub no_cause_3 : cause_3 s ≡ false
  unfolding cause_3
  no_cause_3 =
      or_false (ap not (chain_complete s (parts s) 0 (pair_offset (parts s)) (chain s l)))
      (ap not (entries_complete (length_of s table_part) l.entries))

pub laid_iff : (s : List ℕ) → ((cause_1 s ≡ false) × (cause_2 s ≡ false) × (cause_3 s ≡ false)) ↔ FileRule s
laid_iff s = (λ e. laid s e.0 e.1 e.2, λ l. (no_cause_1 l, no_cause_2 l, no_cause_3 l))

-- where the lowest of them is 0, none fits
pub no_layout_cause : (s : List ℕ) → layout_refusal s ≡ 0 → (cause_1 s ≡ false) × (cause_2 s ≡ false) × (cause_3 s ≡ false)
unfolding layout_refusal
no_layout_cause s e = let (a, (b, (c, u))) = none_fits (layout_causes s) tt e in (a, b, c)

pub laid_where : (s : List ℕ) → layout_refusal s ≡ 0 → FileRule s
laid_where s e = let (a, b, c) = no_layout_cause s e in laid s a b c

pub layout_stands : {s : List ℕ} → FileRule s → layout_refusal s ≡ 0
unfolding layout_refusal
layout_stands l = rw (no_cause_1 l, no_cause_2 l, no_cause_3 l) refl
