-- Causes 2 and 3 and the lowest cause, by the tests that led to an answer.
use mathlib.Core.Path.{◌∙◌, ◌≡◌, ap₂, refl, sym}
use mathlib.Core.Bool.{Bool, ◌||◌, false, not, true}
use mathlib.Core.List.{List}
use Prim.Native.Nat.{◌%◌, ◌*◌, ◌+◌, ◌-◌, ◌<◌, ◌≤◌, ℕ}
use native.Mathlib.Decide.{dec_lt}
use native.Mathlib.Omega.{arith}
use borrow.Author.Tests.{eq-eqb, le-ltb, lt-ltb, ne_eqb}
use lib.Dec.{ltb}
use lib.ListN.{get_or, length}
use Rattle.calculus.specs.Causes.{file_length_cause, opening_cause, layout_cause}
use Rattle.calculus.specs.Limits.{min_entries, max_entries, min_bays, max_bays, min_file_length, max_file_length}
use Rattle.recipe_file.specs.declared.Edition.{Edition}
use Rattle.recipe_file.specs.File.{edition_of, opening, parts, bays, table_part, pair_offset, length_of, outside, cause_1, opens, cause_2, pairs_test, entry_length, table_length_test, cause_3, layout_refusal}
use Rattle.recipe_file.proofs.Chains.{pairs_cut}
use Rattle.recipe_file.proofs.LaidOut.{between}

-- n is outside what the bays leave exactly when b is outside 1 to 16
pub bays_outside : (terms n : ℕ) → outside (terms + min_bays) (terms + max_bays) n ≡ outside min_bays max_bays (n - terms)
unfolding outside
bays_outside terms n = ap₂ ◌||◌ (same_test n (terms + min_bays) (n - terms) min_bays (λ l. omega arith) (λ l. omega arith)) (same_test (terms + max_bays) n max_bays (n - terms) (λ l. omega arith) (λ l. omega arith))
  where
    same_test : (a b c d : ℕ) → (a < b → c < d) → (c < d → a < b) → ltb a b ≡ ltb c d
    same_test a b c d f g = elim (dec_lt a b) [
      | yes l ↦ lt-ltb a b l ∙ sym (lt-ltb c d (f l))
      | no n ↦ le-ltb a b (omega arith) ∙ sym (le-ltb c d (elim (dec_lt c d) [
        | yes l ↦ absurd (n (g l))
        | no m ↦ omega arith
      ]))
    ]

-- cause 2
module _ (s : List ℕ) where
  pub other_first : (get_or s 0 0 ≡ get_or opening 0 0 → ⊥) → true ≡ cause_2 s
  unfolding cause_2 opens
  other_first f = rw (ne_eqb (get_or s 0 0) 0x4C f) refl

  module _ (a : get_or s 0 0 ≡ get_or opening 0 0) where
    pub other_second : (get_or s 1 0 ≡ get_or opening 1 0 → ⊥) → true ≡ cause_2 s
    unfolding cause_2 opens
    other_second f = rw (eq-eqb (get_or s 0 0) 0x4C a, ne_eqb (get_or s 1 0) 0x46 f) refl

    module _ (b : get_or s 1 0 ≡ get_or opening 1 0) where
      opened : opens s ≡ true
      unfolding opens
      opened = rw (eq-eqb (get_or s 0 0) 0x4C a, eq-eqb (get_or s 1 0) 0x46 b) refl

      module _ (e : Edition) (says : e ≡ edition_of s) where
        pub other_edition : (get_or s 2 0 ≡ e.number → ⊥) → true ≡ cause_2 s
        unfolding cause_2
        other_edition f = rw (opened, ← says, ne_eqb (get_or s 2 0) e.number f) refl

        pub opening_stands : get_or s 2 0 ≡ e.number → (n : ℕ) → n ≡ get_or s 3 0 → outside (e.terms + min_bays) (e.terms + max_bays) n ≡ cause_2 s
        unfolding cause_2 bays parts
        opening_stands c n p = rw (opened, ← says, eq-eqb (get_or s 2 0) e.number c, ← p) (bays_outside e.terms n)

-- the table's length
pub no_multiple : (n : ℕ) → (n % entry_length ≡ 0 → ⊥) → false ≡ table_length_test n
unfolding table_length_test
no_multiple n f = rw (ne_eqb (n % entry_length) 0 f) refl

pub multiple : (n : ℕ) → n % entry_length ≡ 0 → not (outside (entry_length * min_entries) (entry_length * max_entries) n) ≡ table_length_test n
unfolding table_length_test
multiple n e = rw (eq-eqb (n % entry_length) 0 e) refl

-- cause 3
module _ (s : List ℕ) (n : ℕ) (e : n ≡ get_or s 3 0) where
  as_parts : n ≡ parts s
  unfolding parts
  as_parts = e

  pub cut : length s < pair_offset n → true ≡ cause_3 s
  unfolding cause_3
  cut h =
      let f : pairs_test s (parts s) 0 (pair_offset (parts s)) ≡ false = pairs_cut s (parts s) 0 (pair_offset (parts s)) (rw as_parts at h) in
      rw f refl

  module _ (t : Bool) (p : t ≡ pairs_test s n 0 (pair_offset n)) where
    pub pairs_broken : t ≡ false → true ≡ cause_3 s
    unfolding cause_3
    pairs_broken f = let g : pairs_test s (parts s) 0 (pair_offset (parts s)) ≡ false = rw (← as_parts) (sym p ∙ f) in rw g refl

    pub pairs_kept : t ≡ true → (size : ℕ) → size ≡ length_of s table_part → not (table_length_test size) ≡ cause_3 s
    unfolding cause_3
    pairs_kept f size q =
        let g : pairs_test s (parts s) 0 (pair_offset (parts s)) ≡ true = rw (← as_parts) (sym p ∙ f) in rw (g, q) refl

-- the lowest cause
module _ (s : List ℕ) (t₁ : Bool) (e₁ : t₁ ≡ outside min_file_length max_file_length (length s)) where
  pub lowest_1 : t₁ ≡ true → file_length_cause ≡ layout_refusal s
  unfolding layout_refusal cause_1
  lowest_1 f = rw (← e₁, f) refl

  module _ (f₁ : t₁ ≡ false) where
    pub long_enough : min_file_length ≤ length s
    long_enough = (between min_file_length max_file_length (length s) (sym e₁ ∙ f₁)).low

    module _ (t₂ : Bool) (e₂ : t₂ ≡ cause_2 s) where
      pub lowest_2 : t₂ ≡ true → opening_cause ≡ layout_refusal s
      unfolding layout_refusal cause_1
      lowest_2 f = rw (← e₁, f₁, ← e₂, f) refl

      module _ (f₂ : t₂ ≡ false) (t₃ : Bool) (e₃ : t₃ ≡ cause_3 s) where
        pub lowest_3 : t₃ ≡ true → layout_cause ≡ layout_refusal s
        unfolding layout_refusal cause_1
        lowest_3 f = rw (← e₁, f₁, ← e₂, f₂, ← e₃, f) refl

        pub none_fits : t₃ ≡ false → 0 ≡ layout_refusal s
        unfolding layout_refusal cause_1
        none_fits f = rw (← e₁, f₁, ← e₂, f₂, ← e₃, f) refl
