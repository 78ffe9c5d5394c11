-- What is counted of a move that is known.
use mathlib.Core.Path.{◌∙◌, ◌≡◌}
use mathlib.Core.List.{List}
use Prim.Native.Nat.{ℕ, ◌*◌, ◌+◌, ◌≤◌}
use native.Mathlib.Omega.{arith}
use lib.ListN.{length}
use Rattle.calculus.specs.Image.{nodes, size}
use Rattle.calculus.specs.Names.{uses}
use Rattle.calculus.specs.Reduction.{substitute, substitute_both}
use Rattle.calculus.specs.Syntax.{Exp}
use Rattle.calculus.proofs.Theory.Weights.{closed_unused, nodes_weight, size_weight, weigh_substitute}
use Rattle.calculus.proofs.Theory.WeightsOfTwo.{weigh_both}
use Rattle.term.specs.Expressions.{term_at}
use Rattle.term.proofs.Sizes.{length_bytes}
use Rattle.term_redex.specs.declared.Meeting.{Meeting}
use Rattle.term_subst.specs.declared.Uses.{Uses}
use Rattle.term_subst.specs.Counted.{UsesOf}
use Rattle.step_rules.specs.declared.Move.{Move}
use Rattle.step_rules.specs.declared.Move.TheVariants.{Beta}
use Rattle.step_rules.specs.Positions.{to_body, to_component}
use Rattle.step_rules.specs.Effects.{effect_of, taken_apart}
use Rattle.step_rules.specs.declared.Substitution.{Substitution}
use Rattle.step_rules.specs.Stepped.{Body, Components}
use Rattle.step_rules.specs.Substitutions.{argument_in, components_in}
use Rattle.step_room.specs.declared.Count.{Count}
use Rattle.step_room.specs.declared.Weight.{Weight}
use Rattle.step_room.specs.Counting.{Counts, max_outcome, Substitutes, Weighable, Weighs}

module _ (s : List ℕ) (m : Meeting) {by known : Move} (e : by ≡ known) {count : Count} where
  pub counts_by : Counts (effect_of s m known) count → Counts (effect_of s m by) count
  counts_by h = rw e h

  pub counts : {new gained lost size : ℕ} → (count.new ≡ new) × ((count.gained ≡ gained) × ((count.lost ≡ lost) × (count.bytes ≡ size)))
      → new ≡ length (effect_of s m known).new → gained ≡ (effect_of s m known).gained → lost ≡ (effect_of s m known).lost
      → size ≡ length (effect_of s m known).redex → new ≤ 2 → gained ≤ max_outcome → size ≤ max_outcome → Counts (effect_of s m by) count
  counts (n, (g, (l, z))) n_is g_is l_is z_is few_n few_g few_z =
      counts_by
      (record { new = n ∙ n_is; gained = g ∙ g_is; lost = l ∙ l_is; bytes = z ∙ z_is; few_new = omega arith; few_gained = omega arith; few_bytes = omega arith })

-- rules 1, 8 and 9: from the numbers that a walk over the body has counted
module _ {e : Exp} {u : Uses} (h : UsesOf e u) {body : ℕ} (is : body ≡ size e) {inner outer : Weight} where
  pub substitutes : Weighable u.nodes u inner.nodes outer.nodes 1 → Weighable body u inner.bytes outer.bytes 2 → {gained size lost : ℕ}
      → gained + (u.inner + u.outer) * 1 ≡ u.nodes + (u.inner * inner.nodes + u.outer * outer.nodes)
      → size + (u.inner + u.outer) * 2 ≡ body + (u.inner * inner.bytes + u.outer * outer.bytes)
      → lost ≡ u.nodes + inner.nodes + outer.nodes + 2 → {count : Count}
      → (count.new ≡ 0) × ((count.gained ≡ gained) × ((count.lost ≡ lost) × (count.bytes ≡ size))) → Substitutes e inner outer count
  unfolding nodes Rattle.calculus.specs.Image.size
  substitutes w w' {gained} {size} g z l {count} (n, (p, (q, r))) =
      let g' : gained + (uses 0 e + uses 1 e) * 1 ≡ nodes e + (uses 0 e * inner.nodes + uses 1 e * outer.nodes) = rw (h.inner, h.outer, h.nodes) at g in
      let z' : size + (uses 0 e + uses 1 e) * 2 ≡ body + (uses 0 e * inner.bytes + uses 1 e * outer.bytes) = rw (h.inner, h.outer) at z in
      record {
        new = n;
        gained = omega (arith, g', p);
        lost = omega (arith, l, q, h.nodes);
        bytes = omega (arith, z', r, is);
        few_gained = omega (arith, w.small, g, p);
        few_bytes = omega (arith, w'.small, z, r);
      }

module _ (s : List ℕ) (m : Meeting) {count : Count} {with : Substitution} where
  -- rule 1, whose body has no second variable
  pub counts_applied : {argument nothing : Weight} → with ≡ argument_in m → Body s m → Weighs (term_at s with.inner.from) argument
      → nothing.nodes ≡ 0 → nothing.bytes ≡ 0 → Substitutes (term_at s with.body.from) argument nothing count → Counts (effect_of s m Beta) count
  unfolding effect_of argument_in nodes size
  counts_applied {argument} {nothing} is b w no_nodes no_bytes h =
      let e = term_at s (m.at + to_body) in
      let v = term_at s m.second in
      let w : Weighs v argument = rw is at w in
      let h : Substitutes e argument nothing count = rw is at h in
      let none : uses 1 e ≡ 0 = closed_unused b.body_closed 1 (omega arith) in
      let g = rw (w.nodes, no_nodes, none) at h.gained in
      let z = rw (w.bytes, no_bytes, none) at h.bytes in
      record {
        new = h.new;
        gained = omega (arith, g, weigh_substitute nodes_weight 0 v e);
        lost = omega (arith, h.lost, w.nodes, no_nodes);
        bytes = omega (arith, z, weigh_substitute size_weight 0 v e, length_bytes (substitute 0 v e));
        few_new = omega (arith, h.new);
        few_gained = h.few_gained;
        few_bytes = h.few_bytes;
      }

  -- rules 8 and 9
  pub counts_taken : {rest : ℕ} {first second : Weight} → with ≡ components_in m rest → Components s m rest → Weighs (term_at s with.inner.from) second
      → Weighs (term_at s with.outer.from) first → Substitutes (term_at s with.body.from) second first count → Counts (taken_apart s m rest) count
  unfolding taken_apart components_in nodes size
  counts_taken {rest} {first} {second} is c w₂ w₁ h =
      let e = term_at s m.second in
      let v₁ = term_at s (m.at + to_component) in
      let v₂ = term_at s rest in
      let w₁ : Weighs v₁ first = rw is at w₁ in
      let w₂ : Weighs v₂ second = rw is at w₂ in
      let h : Substitutes e second first count = rw is at h in
      let g = rw (w₁.nodes, w₂.nodes) at h.gained in
      let z = rw (w₁.bytes, w₂.bytes) at h.bytes in
      record {
        new = h.new;
        gained = omega (arith, g, weigh_both nodes_weight c.first_closed v₂ e);
        lost = omega (arith, h.lost, w₁.nodes, w₂.nodes);
        bytes = omega (arith, z, weigh_both size_weight c.first_closed v₂ e, length_bytes (substitute_both v₁ v₂ e));
        few_new = omega (arith, h.new);
        few_gained = h.few_gained;
        few_bytes = h.few_bytes;
      }
