-- `draw_text::put_lines` meets its contract.
use mathlib.Core.Path.{◌∙◌, ◌≡◌, ap, sym}
use Prim.Native.Nat.{ℕ}
use native.Mathlib.Omega.{arith}
use lib.ListN.{length, replicate}
use lib.Seq.{length-take-le}
use Rattle.calculus.specs.Profile.{common}
use Rattle.calculus.specs.Limits.{max_image_length}
use Rattle.buffer.proofs.Theory.Writes.{known_as}
use Rattle.text.specs.Ascii.{verdict_line}
use Rattle.text.proofs.Theory.Put.{too_short}
use Rattle.load_spec.specs.Loading.{loaded_of, out_after_load}
use Rattle.draw_spec.specs.Lines.{max_text_length, text_of}
use Rattle.draw_spec.proofs.Theory.Lines.{few_draws}
use Rattle.draw_text.specs.Lines.{refusal_of}
use Rattle.draw_text.proofs.Whole.{Loads, drawn_is, loaded_inside, loaded_stands, loaded_starts, puts_draws, puts_refusal, refusal_is, refusal_small}
use Rattle.draw_text.proofs.put_lines.Goals as goal
use Rattle.draw_text.proofs.put_lines.Goals.{After-load-loaded, Else-refusal-ne0}

-- what the load answered and left
loads : (c : After-load-loaded) → Loads c.args.input.now c.seed_of-seed.result (replicate max_image_length 0) c.load-loaded.result c.load-loaded.new.out
loads c =
    let p = c.recipe_of.ensures in
    record {
      bytes = λ i. (c.type_inv.input i).fits;
      seed_is = c.seed_of-seed.ensures;
      answer = c.load-loaded.ensures.value ∙ ap (λ s. loaded_of common s (length {A = ℕ} (replicate max_image_length 0))) p;
      left = c.load-loaded.ensures.out_after ∙ ap (λ s. out_after_load common s (replicate max_image_length 0)) p;
      long = omega arith;
      kept = c.load-loaded.auto.out;
    }

-- neither the recipe nor the seed is refused
drawable : (c : Else-refusal-ne0) → refusal_of c.load-loaded.result.refusal c.seed_of-seed.result ≡ 0
drawable c = omega (arith, c.refusal_of-refusal.ensures, c.if-refusal-ne0.false)

pub returns-then-text-lt-MAX_LENGTH : goal.returns-then-text-lt-MAX_LENGTH
returns-then-text-lt-MAX_LENGTH c = let a = c.args in too_short max_text_length (text_of a.input.now) a.text.now c.if-text-lt-MAX_LENGTH.true

pub overflow_cast-refusal : goal.overflow_cast-refusal
overflow_cast-refusal c = record { fits = omega (arith, c.refusal_of-refusal.ensures, refusal_small (loads (goal.at.overflow_cast-refusal c).After-load-loaded)) }

pub returns-then-refusal-ne0 : goal.returns-then-refusal-ne0
returns-then-refusal-ne0 c =
    let a = c.args in
    let is = c.refusal_of-refusal.ensures ∙ refusal_is (loads (goal.at.returns-then-refusal-ne0 c).After-load-loaded) in
    puts_refusal a.input.now a.text.now (omega (arith, c.if-text-lt-MAX_LENGTH.false)) (omega (arith, is, c.if-refusal-ne0.true))
    (known_as c.put_verdict_line.ensures (ap verdict_line is))

pub slice_bounds-first-end : goal.slice_bounds-first-end
slice_bounds-first-end c = let at = goal.at.slice_bounds-first-end c in loaded_inside (loads at.After-load-loaded) (drawable at.Else-refusal-ne0)

pub slice_bounds-count_nodes-end : goal.slice_bounds-count_nodes-end
slice_bounds-count_nodes-end c =
    let at = goal.at.slice_bounds-count_nodes-end c in
    sym (length-take-le c.load-loaded.result.length c.load-loaded.new.out (loaded_inside (loads at.After-load-loaded) (drawable at.Else-refusal-ne0)))

pub count_nodes-nodes-requires : goal.count_nodes-nodes-requires
count_nodes-nodes-requires c = let at = goal.at.count_nodes-nodes-requires c in loaded_stands (loads at.After-load-loaded) (drawable at.Else-refusal-ne0)

pub put_draws-requires : goal.put_draws-requires
put_draws-requires c =
    let at = goal.at.put_draws-requires c in (
      loaded_starts (loads at.After-load-loaded) (drawable at.Else-refusal-ne0) c.count_nodes-nodes.ensures (omega arith),
      omega (arith, c.number_of.ensures, few_draws c.args.input.now, c.if-text-lt-MAX_LENGTH.false),
    )

pub returns : goal.returns
returns c =
    let a = c.args in
    let at = goal.at.returns c in
    let d = loads at.After-load-loaded in
    let z = drawable at.Else-refusal-ne0 in
    puts_draws a.input.now a.text.now (omega (arith, c.if-text-lt-MAX_LENGTH.false)) (sym (refusal_is d) ∙ z)
    (known_as c.put_draws.ensures (drawn_is d z c.number_of.result c.number_of.ensures))
