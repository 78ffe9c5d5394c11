-- The draws on their way: what the loop keeps, and a law for each way through it.
use mathlib.Core.Path.{◌∙◌, ◌≡◌, ap, ap₂, refl, sym}
use mathlib.Core.List.{List, [], ◌++◌, append_assoc, append-nil}
use Prim.Native.Nat.{ℕ, suc, ◌+◌, ◌-◌, ◌*◌, ◌<◌, ◌≤◌}
use native.Mathlib.Omega.{arith}
use lib.ListN.{length, length-append}
use Rattle.buffer.specs.Written.{Wrote}
use Rattle.buffer.proofs.Theory.Writes.{known_as, still, then}
use Rattle.draw_spec.specs.State.{drawn}
use Rattle.draw_spec.specs.Draws.{Draw, draws, image_after, outcome, reply, thread}
use Rattle.draw_spec.specs.Lines.{line, lines, max_line_length}
use Rattle.draw_spec.proofs.Theory.Lines.{length_line}
use Rattle.draw_thread.specs.Drawing.{Ready}
use Rattle.draw_text.specs.declared.At.{At}
use Rattle.draw_text.specs.Lines.{Onward, Starts, draw_at, present}

-- `done` of so many draws are made, and `whole` is the text of all
pub record Underway (whole : List ℕ) (count : ℕ) (text₀ : List ℕ) (first second text : List ℕ) (at : At) (done : ℕ) : Type 0 where
  pub ready : Ready at.odd at.length at.nodes first second
  pub few : done ≤ count
  pub before : List ℕ
  pub put : Wrote text₀ 0 before text at.next
  pub short : length before ≤ max_line_length * done
  pub all : whole ≡ before ++ lines (draws (count - done) at.state (present at first second))

pub underway_start : (count : ℕ) {text first second : List ℕ} (at : At) → Starts at first second →
    Underway (lines (draws count at.state (present at first second))) count text first second text at 0
underway_start count at s =
    let n : count - 0 ≡ count = omega arith in
    record { ready = s.ready; few = omega arith; before = []; put = rw s.no_line still; short = omega arith; all = rw n refl }

-- one draw more
turn : (n state : ℕ) (image : List ℕ) → let d : Draw = record { image = image; state = drawn state } in
    lines (draws (suc n) state image) ≡ line (thread d) (outcome d) ++ lines (draws n (drawn state) (image_after (reply d) image))
unfolding draws lines
turn n state image = refl

module _ {whole text₀ first second text : List ℕ} {count done : ℕ} {at : At} (u : Underway whole count text₀ first second text at done) where
  pub underway_on : {at' : At} {first' second' text' : List ℕ} → done < count → Onward at first second text at' first' second' text' →
      Underway whole count text₀ first' second' text' at' (done + 1)
  underway_on {at'} {first'} {second'} l o =
      let d = draw_at at first second in
      let rest = lines (draws (count - (done + 1)) at'.state (present at' first' second')) in
      let n : count - done ≡ suc (count - (done + 1)) = omega arith in
      let next : lines (draws (count - done) at.state (present at first second)) ≡ line (thread d) (outcome d) ++ rest =
      ap (λ (k : ℕ). lines (draws k at.state (present at first second))) n
      ∙ turn (count - (done + 1)) at.state (present at first second)
      ∙ ap₂ (λ (s : ℕ) (i : List ℕ). line (thread d) (outcome d) ++ lines (draws (count - (done + 1)) s i)) (sym o.state_is) (sym o.image_is) in
      record {
        ready = o.ready;
        few = omega arith;
        before = u.before ++ line (thread d) (outcome d);
        put = then u.put o.put;
        short = rw length-append (omega (arith, u.short, length_line (thread d) (outcome d)));
        all = u.all ∙ ap (λ (t : List ℕ). u.before ++ t) next ∙ sym (append_assoc u.before (line (thread d) (outcome d)) rest);
      }

  pub underway_end : count ≤ done → Wrote text₀ 0 whole text at.next
  unfolding draws lines
  underway_end l =
      let n : count - done ≡ 0 = omega (arith, u.few) in
      known_as u.put (sym (u.all ∙ ap (λ (k : ℕ). u.before ++ lines (draws k at.state (present at first second))) n ∙ append-nil u.before))
