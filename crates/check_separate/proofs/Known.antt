-- What an accepted recipe gives of a bay's part.
use mathlib.Core.Path.{◌≡◌, refl}
use mathlib.Core.List.{List}
use Prim.Native.Nat.{◌+◌, ◌<◌, ◌≤◌, zero-le, ℕ}
use native.Mathlib.Omega.{arith}
use borrow.Author.Tests.{not-false}
use lib.ListN.{length}
use Rattle.calculus.specs.Limits.{max_bays}
use Rattle.calculus.specs.Image.{nodes}
use Rattle.calculus.proofs.Theory.Tabulate.{each_below_sound}
use Rattle.term.specs.Reader.{first_tree, GoodAt, one_term, tree_at}
use Rattle.term.specs.Expressions.{term_at, term_of}
use Rattle.term.proofs.Sizes.{nodes_exp}
use Rattle.term.proofs.Views.{end_inside, nodes_inside}
use Rattle.recipe_file.specs.File.{bays, edition_of, term_bytes}
use Rattle.recipe_file.specs.FileRule.{FileRule}
use Rattle.check_spec.specs.Bays.{bay_reading, bay_term, cause_5}
use Rattle.check_spec.specs.Verdict.{refusal}
use Rattle.check_spec.proofs.Theory.Accepted.{laid_and_started, no_cause_iff}
use Rattle.check_bays.proofs.Known.{good_of}
use Rattle.check_separate.specs.Tests.{starting_nodes}

module _ (s : List ℕ) (accepted : refusal s ≡ 0) where
  pub laid : FileRule s
  laid = (laid_and_started s accepted).0

  pub some_bay : 0 < bays s
  some_bay = omega (arith, laid.has_parts.low)

  pub few_bays : bays s ≤ max_bays
  few_bays = laid.has_parts.high

  module _ {bay : ℕ} (below : bay < bays s) where
    -- the part is a term, the bay's
    pub good_part : {l : List ℕ} → l ≡ term_bytes s bay → GoodAt l 0
    unfolding cause_5
    good_part e = rw e (record {
      inside = zero-le;
      good = good_of (edition_of s).forms (term_bytes s bay) (bay_reading s bay) refl
          (each_below_sound (bays s) (λ k. one_term (bay_reading s k)) (not-false _ ((no_cause_iff s).0 accepted).not_5) bay below);
    })

    -- it has no more nodes than bytes
    pub few_nodes : {l : List ℕ} → l ≡ term_bytes s bay → nodes (term_at l 0) ≤ length l
    unfolding term_of tree_at first_tree
    few_nodes {l} e = omega (arith, nodes_exp (tree_at l 0), nodes_inside l 0, end_inside (good_part e))

pub part_term : (s : List ℕ) (bay : ℕ) {l : List ℕ} → l ≡ term_bytes s bay → term_at l 0 ≡ bay_term s bay
unfolding bay_term
part_term s bay e = rw e refl

pub starts_with : (s : List ℕ) (bay : ℕ) {l : List ℕ} → l ≡ term_bytes s bay → {n : ℕ} → n ≡ nodes (term_at l 0) → 1 + n ≡ starting_nodes s bay
unfolding starting_nodes
starts_with s bay e q = rw (q, part_term s bay e) refl
