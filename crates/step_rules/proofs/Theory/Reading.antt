-- The components of an image that stands, and where their expressions are.
use Rattle.std.proofs.Common.{◌∙◌, arith, take-append-drop}
use Rattle.std.specs.Prelude.{◌≡◌, true, List, ℕ, ◌+◌, ◌≤◌, ◌<◌}
use Rattle.std.proofs.Math.Path.{ap, refl, sym}
use Rattle.std.proofs.Math.Option.{some}
use Rattle.std.proofs.Math.ListN.{drop, length, take}
use Rattle.std.proofs.Math.Seq.{drop-drop}
use Rattle.image.proofs.Theory.Exactly.{length_config}
use Rattle.calculus.specs.Bytes.{Bytes}
use Rattle.calculus.specs.Syntax.{Exp, Component, thread_of, holds, at}
use Rattle.calculus.specs.Image.{ImageRule, size}
use Rattle.calculus.proofs.Theory.Tests.{and_parts}
use Rattle.calculus.proofs.Theory.Lists.{at_bound}
use Rattle.calculus.proofs.Theory.ImageTest.{image_test_iff}
use Rattle.term.specs.Expressions.{bytes, TermAt, FitsBytes}
use Rattle.term.proofs.Sizes.{length_bytes}
use Rattle.image_layout.specs.Encoded.{Encoded}
use Rattle.image_layout.specs.Slice.{names, owner_at, offset_at, length_at, expression_at}
use Rattle.image_layout.proofs.Theory.Slice.{encoded_expression}
use Rattle.image_layout.specs.Layout.{heads_stand}
use Rattle.image_layout.proofs.Theory.Reading.{has_expression, expression_length}
use Rattle.image.specs.Configuration.{encode, config_of}
use Rattle.image.specs.Stands.{image_stands}
use Rattle.image.proofs.Theory.Exactly.{image_tested, config_fits, encoded_is}

-- an expression stands whole at a position, with so many bytes
pub record Stands (s : List ℕ) (k : ℕ) (e : Exp) : Type 0 where
  pub term : TermAt s (offset_at s k) e
  pub long : length_at s k ≡ size e
  pub inside : offset_at s k + length_at s k ≤ length s

module _ (s : List ℕ) (b : Bytes s) (stands : image_stands s ≡ true) where
  pub rules : ImageRule (config_of s)
  rules = (image_test_iff (config_of s)).0 (image_tested s b stands)

  pub heads_do : heads_stand s ≡ true
  unfolding image_stands
  heads_do = (and_parts (heads_stand s) _ stands).0

  module _ (k : ℕ) {c : Component} (h : at (config_of s) k ≡ some c) where
    pub below : k < names s
    below = omega (arith, at_bound (config_of s) k h, length_config s)

    -- the expression of a component stands where its head says
    pub expression_stands : (e : Exp) → (encode c (owner_at s k)).expression ≡ bytes e → FitsBytes e → Stands s k e
    unfolding expression_at
    expression_stands e is fits =
        let p : bytes e ≡ take (length_at s k) (drop (offset_at s k) s) = sym is ∙ ap (λ (x : Encoded). x.expression) (encoded_is s b stands k h) ∙ encoded_expression s k in
        let n : length_at s k ≡ size e = sym (expression_length s heads_do k below) ∙ ap length (sym p) ∙ length_bytes e in
        let i = (has_expression s heads_do k below).expression_inside in
        let q : drop (length_at s k) (drop (offset_at s k) s) ≡ drop (offset_at s k + size e) s = drop-drop (length_at s k) (offset_at s k) s ∙ ap (λ j. drop (offset_at s k + j) s) n in
        record {
          term = record {
            inside = omega arith;
            stands = sym (take-append-drop (length_at s k) (drop (offset_at s k) s)) ∙ rw (← p, q);
            fits = fits;
          };
          long = n;
          inside = i;
        }

  pub thread_stands : (k : ℕ) (e : Exp) → at (config_of s) k ≡ some (thread_of e) → Stands s k e
  unfolding encode
  thread_stands k e h = expression_stands k h e refl (config_fits s b stands k (thread_of e) h)

  pub cell_stands : (k : ℕ) (e : Exp) → at (config_of s) k ≡ some (holds e) → Stands s k e
  unfolding encode
  cell_stands k e h = expression_stands k h e refl (config_fits s b stands k (holds e) h)
