-- The bays' parts stand one after the other at the end of the file, so that one copy writes all their terms.
use Rattle.std.specs.Prelude.{◌≡◌, length, drop}
use Rattle.std.proofs.Math.Path.{refl, ap}
use Rattle.std.proofs.Common.{sym, ◌∙◌}
use mathlib.Core.List.{List, [], ◌++◌, ◌∷◌, append_assoc, append-nil}
use Prim.Native.Nat.{ℕ, zero, suc, ◌+◌, ◌-◌, ◌<◌, ◌≤◌}
use Rattle.std.proofs.Math.Nat.{add-zero}
use native.Mathlib.Omega.{arith}
use Rattle.std.proofs.Math.ListN.{take-append-drop}
use Rattle.std.proofs.Math.Seq.{drop-drop, drop-length}
use Rattle.calculus.specs.Lists.{tabulate}
use Rattle.calculus.proofs.Theory.Tests.{ltb_complete, ltb_not}
use Rattle.calculus.proofs.Theory.Tabulate.{tabulate_same}
use Rattle.recipe_file.specs.File.{bays, offset_of, length_of, part, term_bytes}
use Rattle.recipe_file.specs.Starting.{starting_num}
use Rattle.recipe_file.specs.FileRule.{FileRule}
use Rattle.recipe_file.proofs.Inside.{length_part, term_is_part}
use Rattle.image_layout.specs.Encoded.{expressions}
use Rattle.image_layout.proofs.Theory.Components.{expressions_append, so_far, so_far_none, so_far_next}
use Rattle.load_image.specs.Starting.{first_term, setting, bay_thread, starting_at, starting_names}

-- two lists by index, one after the other
pub tabulate_append : {A : Type 0} (n m : ℕ) (f : ℕ → A) → tabulate (n + m) f ≡ tabulate n f ++ tabulate m (λ i. f (n + i))
unfolding tabulate
tabulate_append n zero f = rw add-zero (sym (append-nil (tabulate n f)))
tabulate_append n (suc m) f =
    let e : n + suc m ≡ suc (n + m) = omega arith in
    rw (e, tabulate_append n m f) (append_assoc (tabulate n f) (tabulate m (λ i. f (n + i))) (f (n + m) ∷ []))

-- the settings, then the bays' threads
pub starting_parts : (s : List ℕ) → tabulate (starting_names s) (starting_at s) ≡ tabulate (bays s) (λ k. setting (starting_num s k) k) ++ tabulate (bays s) (bay_thread s)
unfolding starting_at
starting_parts s =
    tabulate_append (bays s) (bays s) (starting_at s)
    ∙ rw (
      tabulate_same (bays s) (starting_at s) (λ k. setting (starting_num s k) k) (λ k l. rw (ltb_complete k (bays s) l) refl),
      tabulate_same (bays s) (λ i. starting_at s (bays s + i)) (bay_thread s) (λ k l. let e : bays s + k - bays s ≡ k = omega arith in rw (ltb_not (bays s + k) (bays s) (omega arith), e) refl),
    ) refl

module _ (s : List ℕ) (laid : FileRule s) where
  bay_length : (bay : ℕ) → bay < bays s → length (bay_thread s bay).expression ≡ length_of s (first_term s + bay)
  unfolding bay_thread term_bytes
  bay_length bay l = length_part (term_is_part (record { laid = laid; below = l }))

  -- where a bay's part begins
  pub bay_begins : (bay : ℕ) → bay < bays s → offset_of s (first_term s + bay) ≡ offset_of s (first_term s) + so_far (bay_thread s) bay
  unfolding bays
  bay_begins zero l = rw add-zero (omega (arith, so_far_none (bay_thread s)))
  bay_begins (suc bay) l =
      let e : first_term s + bay + 1 ≡ first_term s + suc bay = omega arith in
      ap (offset_of s) (sym e) ∙ omega (arith, laid.next (first_term s + bay) (omega arith), bay_begins bay (omega arith), so_far_next (bay_thread s) bay, bay_length bay (omega arith))

  -- what stands behind the first bays
  behind : (bay : ℕ) → bay ≤ bays s → expressions (tabulate bay (bay_thread s)) ++ drop (offset_of s (first_term s) + so_far (bay_thread s) bay) s ≡ drop (offset_of s (first_term s)) s
  unfolding tabulate expressions bay_thread term_bytes part
  behind zero l = rw (so_far_none (bay_thread s), add-zero) refl
  behind (suc bay) l =
      let o = bay_begins bay l in
      let n = bay_length bay l in
      let e : offset_of s (first_term s) + so_far (bay_thread s) (suc bay) ≡ offset_of s (first_term s + bay) + length_of s (first_term s + bay) = omega (arith, so_far_next (bay_thread s) bay) in
      rw (e, expressions_append (tabulate bay (bay_thread s)) (bay_thread s bay ∷ []), append-nil, append_assoc, ← drop-drop (length_of s (first_term s + bay)) (offset_of s (first_term s + bay)) s, take-append-drop, o)
      (behind bay (omega arith))

  -- the last part ends with the file
  all_end : offset_of s (first_term s) + so_far (bay_thread s) (bays s) ≡ length s
  unfolding bays
  all_end =
      let last = bays s - 1 in
      let e : bays s ≡ suc last = omega (arith, laid.has_parts.low) in
      ap (λ (n : ℕ). offset_of s (first_term s) + so_far (bay_thread s) n) e
      ∙ omega (arith, so_far_next (bay_thread s) last, bay_begins last (omega arith), bay_length last (omega arith), laid.last (first_term s + last) (omega (arith, laid.has_parts.low)))

  -- the bays' terms are the end of the file
  pub terms_are_end : expressions (tabulate (bays s) (bay_thread s)) ≡ drop (offset_of s (first_term s)) s
  terms_are_end =
      let e = all_end in
      let d : drop (offset_of s (first_term s) + so_far (bay_thread s) (bays s)) s ≡ [] = ap (λ (n : ℕ). drop n s) e ∙ drop-length s in
      sym (append-nil _) ∙ ap (λ (l : List ℕ). expressions (tabulate (bays s) (bay_thread s)) ++ l) (sym d) ∙ behind (bays s) (omega arith)

  -- and they begin inside it
  pub terms_begin_inside : offset_of s (first_term s) ≤ length s
  terms_begin_inside = omega (arith, all_end)
