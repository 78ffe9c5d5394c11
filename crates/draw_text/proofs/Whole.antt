-- The whole test load: the text of an input, by the tests that lead to each return.
use mathlib.Core.Path.{◌∙◌, ◌≡◌, ap, refl, subst⁻¹, sym}
use mathlib.Core.Bool.{Bool, cond, false, false≢true, true}
use mathlib.Core.List.{List}
use Prim.Native.Nat.{ℕ, ◌+◌, ◌≤◌}
use native.Mathlib.Omega.{arith}
use lib.Dec.{eqb}
use lib.ListN.{length, take}
use lib.Seq.{get_or-drop}
use Rattle.calculus.specs.Profile.{common}
use Rattle.calculus.specs.Bytes.{Bytes}
use Rattle.calculus.specs.Causes.{seed_cause, starting_cause}
use Rattle.calculus.specs.Image.{nodes_all}
use Rattle.calculus.specs.Limits.{front_length, max_image_length}
use Rattle.calculus.proofs.Theory.Tests.{eqb_complete, eqb_sound}
use Rattle.buffer.specs.Written.{Wrote}
use Rattle.buffer.proofs.Theory.Writes.{known_as}
use Rattle.text.specs.Ascii.{verdict_line}
use Rattle.text.specs.Put.{Puts}
use Rattle.text.proofs.Theory.Digits.{length_verdict_line}
use Rattle.text.proofs.Theory.Put.{puts}
use Rattle.check_spec.specs.Verdict.{refusal}
use Rattle.image.specs.Configuration.{config_of}
use Rattle.image.specs.Stands.{image_stands}
use Rattle.load_spec.specs.Starting.{starting_image}
use Rattle.load_spec.specs.declared.Loaded.{Loaded}
use Rattle.load_spec.specs.Loading.{loaded_of, out_after_load}
use Rattle.load_spec.proofs.Theory.Told.{image_told, length_inside, refusal_told, refusal_told_small}
use Rattle.draw_spec.specs.Draws.{draws}
use Rattle.draw_spec.specs.Lines.{draw_refusal, draws_in, lines, max_text_length, number_in, recipe_in, seed_in, text_of}
use Rattle.draw_spec.proofs.Theory.Alive.{Alive, alive_stands, alive_start}
use Rattle.draw_spec.proofs.Theory.Lines.{length_drawn, recipe_accepted, recipe_refused, text_drawn, text_refused}
use Rattle.draw_text.specs.Lines.{Starts, refusal_of}

module _ (input text : List ℕ) (long : max_text_length ≤ length text) where
  pub puts_refusal : ¬ (draw_refusal input ≡ 0) → {text' : List ℕ} {r : ℕ} → Wrote text 0 (verdict_line (draw_refusal input)) text' r → Puts max_text_length (text_of input) text r text'
  puts_refusal n w =
      let e = text_refused input n in
      puts max_text_length (text_of input) text long (known_as w (sym e)) (rw e (omega (arith, length_verdict_line (draw_refusal input))))

  pub puts_draws : draw_refusal input ≡ 0 → {text' : List ℕ} {r : ℕ} → Wrote text 0 (lines (draws_in input)) text' r → Puts max_text_length (text_of input) text r text'
  puts_draws z w =
      let e = text_drawn input z in
      puts max_text_length (text_of input) text long (known_as w (sym e)) (rw e (omega (arith, length_drawn input)))

-- a load of the recipe of an input, into a buffer that it took from `out` to out'
pub record Loads (input : List ℕ) (seed : ℕ) (out : List ℕ) (l : Loaded) (out' : List ℕ) : Type 0 where
  pub bytes : Bytes input
  pub seed_is : seed ≡ seed_in input
  pub answer : l ≡ loaded_of common (recipe_in input) (length out)
  pub left : out' ≡ out_after_load common (recipe_in input) out
  pub long : max_image_length ≤ length out
  pub kept : length out' ≡ length out

module _ {input : List ℕ} {seed : ℕ} {out : List ℕ} {l : Loaded} {out' : List ℕ} (d : Loads input seed out l out') where
  told : l.refusal ≡ refusal (recipe_in input)
  told = refusal_told (recipe_in input) d.answer d.long

  -- the recipe's causes, then 18
  pub refusal_is : refusal_of l.refusal seed ≡ draw_refusal input
  unfolding refusal_of
  refusal_is = go (eqb l.refusal 0) refl
    where
      go : (b : Bool) → eqb l.refusal 0 ≡ b → cond b (cond (eqb seed 0) seed_cause 0) l.refusal ≡ draw_refusal input
      go true e =
          let z = sym told ∙ eqb_sound l.refusal 0 e in
          ap (λ (n : ℕ). cond (eqb n 0) seed_cause 0) d.seed_is ∙ sym (recipe_accepted input z)
      go false e =
          let n : ¬ (refusal (recipe_in input) ≡ 0) = λ z. false≢true (sym e ∙ eqb_complete l.refusal 0 (told ∙ z)) in
          told ∙ sym (recipe_refused input n)

  pub refusal_small : refusal_of l.refusal seed ≤ starting_cause
  unfolding refusal_of
  refusal_small = go (eqb l.refusal 0) (eqb seed 0)
    where
      go : (b c : Bool) → cond b (cond c seed_cause 0) l.refusal ≤ starting_cause
      go true true = omega arith
      go true false = omega arith
      go false c = omega (arith, refusal_told_small (recipe_in input) d.answer d.long)

  -- neither is refused
  module _ (z : refusal_of l.refusal seed ≡ 0) where
    accepted : l.refusal ≡ 0
    unfolding refusal_of
    accepted = go (eqb l.refusal 0) refl z
      where
        go : (b : Bool) → eqb l.refusal 0 ≡ b → cond b (cond (eqb seed 0) seed_cause 0) l.refusal ≡ 0 → l.refusal ≡ 0
        go true e y = eqb_sound l.refusal 0 e
        go false e y = y

    pub loaded_image : take l.length out' ≡ starting_image (recipe_in input)
    loaded_image = image_told (recipe_in input) out d.left d.answer d.long accepted

    loaded_alive : Alive (take l.length out')
    loaded_alive =
        let b : Bytes (recipe_in input) = λ i. rw (get_or-drop front_length input i 0) (d.bytes (front_length + i)) in
        subst⁻¹ Alive loaded_image (alive_start (recipe_in input) b (sym told ∙ accepted))

    pub loaded_inside : l.length ≤ length out'
    loaded_inside = length_inside (recipe_in input) out d.left d.answer d.long accepted

    pub loaded_stands : image_stands (take l.length out') ≡ true
    loaded_stands = alive_stands loaded_alive

    pub loaded_starts : {nodes : ℕ} {second : List ℕ} → nodes ≡ nodes_all (config_of (take l.length out')) → max_image_length ≤ length second →
        Starts (record { state = seed; length = l.length; nodes = nodes; odd = false; next = 0 }) out' second
    loaded_starts n long =
        record {
          ready = record {
            inside = loaded_inside;
            present = record { alive = loaded_alive; counted = sym n };
            first_long = omega (arith, d.kept, d.long);
            second_long = long;
          };
          no_line = refl;
        }

    -- what was drawn from it
    pub drawn_is : (number : ℕ) → number ≡ number_in input → lines (draws number seed (take l.length out')) ≡ lines (draws_in input)
    drawn_is number n = rw (n, d.seed_is, loaded_image) refl
