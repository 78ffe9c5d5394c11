-- No number on the way is too large.
use mathlib.Core.Path.{◌≡◌}
use mathlib.Core.List.{List}
use Prim.Native.Nat.{ℕ, ◌+◌, ◌-◌, ◌<◌, ◌≤◌}
use native.Mathlib.Omega.{arith}
use lib.ListN.{length}
use Rattle.calculus.specs.Bytes.{Bytes, two_byte_values}
use Rattle.calculus.specs.Limits.{first_head, max_nodes}
use Rattle.calculus.specs.Syntax.{Exp}
use Rattle.calculus.specs.Image.{nodes, size}
use Rattle.calculus.proofs.Theory.Weights.{Weight, nodes_weight, places_weigh, uses_most}
use Rattle.term.specs.Expressions.{term_at}
use Rattle.term.proofs.Expressions.{term_stands}
use Rattle.term.proofs.Views.{end_inside}
use Rattle.term_subst.specs.declared.Span.{Span}
use Rattle.term_subst.specs.declared.Uses.{Uses}
use Rattle.term_subst.specs.Counted.{UsesOf}
use Rattle.step_rules.specs.declared.Step.{Step}
use Rattle.step_rules.specs.Stepped.{Movable}
use Rattle.step_rules.specs.Substitutions.{TermIn}
use Rattle.step_room.specs.Counting.{Light, Weighable, Weighs}

-- the bytes of a term in a part of the image
module _ {s : List ℕ} (b : Bytes s) {part : Span} (t : TermIn s part) where
  pub part_size : part.to ≡ part.from + size (term_at s part.from)
  part_size = omega (arith, t.ends, (term_stands b t.counted.good).1)

  module _ (brief : length s < two_byte_values) where
    pub part_short : size (term_at s part.from) ≤ two_byte_values
    part_short = omega (arith, part_size, t.ends, end_inside t.counted.good)

    -- its weight
    pub weighed : {n : ℕ} → n ≡ nodes (term_at s part.from) →
        Weighs (term_at s part.from) (record { nodes = n; bytes = part.to - part.from }) × Light (record { nodes = n; bytes = part.to - part.from })
    weighed {n} is =
        (record { nodes = is; bytes = omega (arith, part_size) }, record { few = omega (arith, t.counted.few); short = omega (arith, part_size, part_short) })

-- what a body weighs with values in it can be told, of nodes and of bytes
pub weighable : {w : Exp → ℕ} {variable : ℕ} → Weight w variable → {e : Exp} {u : Uses} → UsesOf e u → nodes e ≤ max_nodes → {body p q : ℕ} →
    body ≡ w e → body ≤ two_byte_values → p ≤ two_byte_values → q ≤ two_byte_values → Weighable body u p q variable
weighable W {e} {u} h few {body} {p} {q} is small l l' =
    record {
      few = rw (h.inner, h.outer) (omega (arith, places_weigh nodes_weight 0 e));
      within = rw (h.inner, h.outer) (omega (arith, places_weigh W 0 e));
      small = rw (h.inner, h.outer) (omega (arith, uses_most {n = max_nodes} {m = two_byte_values} {p = p} {q = q} 0 e few l l'));
    }

-- an image that goes has its two bytes m
pub has_names : {s : List ℕ} {step : Step} → Movable s step → first_head ≤ length s
has_names m = omega (arith, m.second, m.last.good.inside)
