-- The nodes of a name, by its kind.
use mathlib.Core.Path.{◌≡◌, ap, refl}
use mathlib.Core.Bool.{true}
use mathlib.Core.Option.{some}
use mathlib.Core.List.{List}
use Prim.Native.Nat.{◌<◌, ◌≤◌, ℕ}
use native.Mathlib.Omega.{arith}
use Rattle.calculus.specs.Bytes.{Bytes}
use Rattle.calculus.specs.Kinds.{cell_kind}
use Rattle.calculus.specs.Syntax.{Component, thread_of, holds, open_for, used, awaited, at, sum_in}
use Rattle.calculus.specs.Image.{nodes}
use Rattle.term.specs.Reader.{GoodAt}
use Rattle.term.specs.Expressions.{term_at}
use Rattle.term.proofs.Expressions.{found_at}
use Rattle.image_layout.specs.Slice.{names, kind_at, offset_at}
use Rattle.image.specs.Configuration.{config_of, encode}
use Rattle.image.specs.Stands.{image_stands}
use Rattle.image.proofs.Theory.Exactly.{kind_is}
use Rattle.image_check.specs.Parts.{component_of, nodes_of}
use Rattle.image_check.proofs.Theory.Names.{config_at}
use Rattle.step_rules.proofs.Theory.Reading.{cell_stands, thread_stands}

module _ (s : List ℕ) (b : Bytes s) (stands : image_stands s ≡ true) (k : ℕ) where
  -- a handle or a future has none
  bare : (c : Component) → at (config_of s) k ≡ some c → cell_kind < kind_at s k → 0 ≡ sum_in nodes c
  unfolding encode sum_in
  bare (thread_of e) h l = absurd (omega (arith, kind_is s b stands k h))
  bare (holds v) h l = absurd (omega (arith, kind_is s b stands k h))
  bare (open_for y) h l = refl
  bare used h l = refl
  bare awaited h l = refl

  -- a thread or a cell has those of its expression
  whole : (c : Component) → at (config_of s) k ≡ some c → kind_at s k ≤ cell_kind → GoodAt s (offset_at s k) × (nodes (term_at s (offset_at s k)) ≡ sum_in nodes c)
  unfolding encode sum_in
  whole (thread_of e) h l = let f = found_at (thread_stands s b stands k e h).term in (f.good, ap nodes f.term)
  whole (holds v) h l = let f = found_at (cell_stands s b stands k v h).term in (f.good, ap nodes f.term)
  whole (open_for y) h l = absurd (omega (arith, kind_is s b stands k h))
  whole used h l = absurd (omega (arith, kind_is s b stands k h))
  whole awaited h l = absurd (omega (arith, kind_is s b stands k h))

  module _ (below : k < names s) {kind : ℕ} (is : kind ≡ kind_at s k) where
    pub bare_nodes : cell_kind < kind → 0 ≡ nodes_of s k
    unfolding nodes_of
    bare_nodes l = bare (component_of s k) (config_at s k below) (omega arith)

    pub whole_nodes : kind ≤ cell_kind → GoodAt s (offset_at s k) × (nodes (term_at s (offset_at s k)) ≡ nodes_of s k)
    unfolding nodes_of
    whole_nodes l = whole (component_of s k) (config_at s k below) (omega arith)
