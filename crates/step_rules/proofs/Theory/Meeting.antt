-- The meeting in bytes: the values, the thread's expression after a step, and the components after a step.
use Rattle.std.proofs.Common.{◌∙◌, arith, length-drop, drop-drop, take_at}
use Rattle.std.specs.Prelude.{◌≡◌, ℕ, ◌+◌, ◌-◌, ◌<◌, eqb, drop, length}
use Rattle.std.proofs.Math.Path.{ap, ap₂, refl, sym}
use Rattle.std.proofs.Math.Bool.{cond}
use mathlib.Core.List.{List, [], ◌++◌, ◌∷◌, append_assoc}
use Rattle.std.proofs.Math.Decide.{dec_lt}
use Rattle.std.proofs.Math.ListN.{take}
use Rattle.calculus.specs.Syntax.{Exp, lam, thread_of, Config}
use Rattle.calculus.specs.Owners.{owner, owners_after}
use Rattle.calculus.specs.Reduction.{Context, plug}
use Rattle.calculus.specs.Step.{Redex}
use Rattle.calculus.specs.Image.{size}
use Rattle.calculus.proofs.Theory.Lists.{at_bound}
use Rattle.calculus.proofs.Theory.Owners.{new_owner, old_owner}
use Rattle.calculus.proofs.Theory.Tests.{ltb_complete, ltb_not}
use Rattle.calculus.proofs.Theory.Tabulate.{length_tabulate}
use Rattle.term.specs.Expressions.{bytes, TermAt}
use Rattle.term.proofs.Sizes.{length_bytes}
use Rattle.term.proofs.Trees.{fits_lam}
use Rattle.image_layout.specs.Encoded.{Encoded}
use Rattle.image_layout.specs.Slice.{names, owner_at, offset_at, length_at, encoded_at}
use Rattle.image.specs.Configuration.{encode, encode_all, config_of, owners_of}
use Rattle.image.specs.Holding.{thread_holding}
use Rattle.image.proofs.Theory.Components.{encode_all_is}
use Rattle.image.proofs.Theory.Exactly.{encoded_is, length_config, owner_said}
use Rattle.term_redex.specs.declared.Meeting.{Meeting}
use Rattle.term_redex.specs.Contexts.{back, front}
use Rattle.term_redex.specs.Places.{second_part}
use Rattle.term_redex.proofs.Contexts.{plug_bytes}
use Rattle.step_rules.specs.declared.Move.{Move}
use Rattle.step_rules.specs.Effects.{bytes_between, argument_bytes, effect_of}
use Rattle.step_rules.specs.Moves.{expression_after, owner_after, other_after, component_after, names_after, components_after}
use Rattle.step_rules.specs.Meets.{step_at, MeetsAt}
use Rattle.step_rules.proofs.Theory.Changes.{Table}

-- the front of what stands at a position
pub between_front : (s : List ℕ) (a b : ℕ) (p q : List ℕ) → drop a s ≡ p ++ q → b ≡ a + length p → bytes_between s a b ≡ p
unfolding bytes_between
between_front s a b p q e n =
    let k : length p ≡ b - a = omega arith in
    ap (take (b - a)) e ∙ take_at p q (b - a) k

pub between_term : {s : List ℕ} {a : ℕ} {e : Exp} (b : ℕ) → TermAt s a e → b ≡ a + size e → bytes_between s a b ≡ bytes e
between_term {s} {a} {e} b t n = between_front s a b (bytes e) (drop (a + size e) s) t.stands (omega (arith, length_bytes e))

-- the body of a lambda
pub body_stands : {s : List ℕ} {a t : ℕ} {e : Exp} → TermAt s a (lam t e) → TermAt s (a + 2) e
unfolding bytes size
body_stands {s} {a} {t} {e} h =
    let rest = drop (a + (2 + size e)) s in
    let p : drop a s ≡ (1 ∷ t ∷ []) ++ (bytes e ++ rest) = h.stands in
    let n : a + 2 + size e ≡ a + (2 + size e) = omega arith in
    record {
      inside = omega (arith, h.inside, ap length p, length-drop a s);
      stands = sym (drop-drop 2 a s) ∙ ap (drop 2) p ∙ ap (λ k. bytes e ++ drop k s) (sym n);
      fits = (fits_lam h.fits).1;
    }

pub length_owners : (s : List ℕ) → length (owners_of s) ≡ names s
unfolding owners_of
length_owners s = length_tabulate (names s) (owner_at s)

-- the owners after a step of thread x
module _ (s : List ℕ) (x : ℕ) where
  pub old_owner_after : (k : ℕ) → k < names s → owner_after s x k ≡ owner_at s k
  unfolding owner_after
  old_owner_after k l = rw (ltb_complete k (names s) l) refl

  new_owner_after : (k : ℕ) → ¬ (k < names s) → owner_after s x k ≡ owner_at s x
  unfolding owner_after
  new_owner_after k n = rw (ltb_not k (names s) (omega arith)) refl

  pub owner_left : x < names s → (C' : Config) (k : ℕ) → k < length C' → owner (owners_after (owners_of s) x C') k ≡ owner_after s x k
  owner_left there C' k l =
      let size = length_owners s in
      elim (dec_lt k (names s)) [
        | yes m ↦ old_owner (owners_of s) x C' k (omega arith) ∙ owner_said s k m ∙ sym (old_owner_after k m)
        | no m ↦ new_owner (owners_of s) x C' k (omega arith) l ∙ owner_said s x there ∙ sym (new_owner_after k m)
      ]

-- the components before a step
pub table_start : {s : List ℕ} {x : ℕ} {m : Meeting} {F : Context} {r : Exp} {d : Redex r} → MeetsAt s x m F d → Table (owner_after s x) (config_of s) (names s) (encoded_at s)
table_start {s} {x} M = record {
  size = length_config s;
  each = λ k c h.
      sym (encoded_is s M.in_bytes M.stands k h) ∙ ap (encode c) (sym (old_owner_after s x k (omega (arith, at_bound (config_of s) k h, length_config s))));
}

module _ {s : List ℕ} {x : ℕ} {m : Meeting} {F : Context} {q : Exp} {d : Redex q} (M : MeetsAt s x m F d) where
  -- the second subterm
  pub argument_is : argument_bytes s m ≡ bytes (second_part d)
  argument_is = between_term m.end M.placed.second M.placed.ends

  -- the thread's expression after a step, whatever came in place of the application or case
  pub expression_is : (by : Move) (r : Exp) → (effect_of s m by).redex ≡ bytes r → expression_after s (step_at x m by) ≡ bytes (plug F r)
  unfolding expression_after bytes_between
  expression_is by r e =
      let n : offset_at s x + length_at s x ≡ offset_at s x + size (plug F q) = ap (λ k. offset_at s x + k) M.long in
      let a : take (offset_at s x + length_at s x - m.end) (drop m.end s) ≡ back F = ap (λ k. take (k - m.end) (drop m.end s)) n ∙ M.placed.after in
      ap₂ (λ (p q : List ℕ). p ++ q) (ap₂ (λ (p q : List ℕ). p ++ q) M.placed.before e) a ∙ append_assoc (front F) (bytes r) (back F) ∙ sym (plug_bytes F r)

  -- the components after a step are those of a configuration
  pub components_are : (by : Move) (r : Exp) → (effect_of s m by).redex ≡ bytes r → (C : Config) (n : ℕ) (g : ℕ → Encoded) → Table (owner_after s x) C n g
      → n ≡ names_after s (step_at x m by)
      → ((k : ℕ) → g k ≡ cond (eqb k x) (encode (thread_of (plug F r)) (owner_after s x k)) (other_after s (step_at x m by) k))
      → components_after s (step_at x m by) ≡ encode_all C (owners_after (owners_of s) x C)
  unfolding components_after component_after encode
  components_are by r e C n g t names_are h =
      let step = step_at x m by in
      let there : x < names s = omega (arith, at_bound (config_of s) x M.thread, length_config s) in
      encode_all_is (names_after s step) (component_after s step) C (owners_after (owners_of s) x C) (t.size ∙ names_are) λ k c a.
      ap (λ b. cond (eqb k x) (thread_holding b (owner_after s x k)) (other_after s step k)) (expression_is by r e)
      ∙ sym (h k)
      ∙ t.each k c a
      ∙ ap (encode c) (sym (owner_left s x there C k (at_bound C k a)))
