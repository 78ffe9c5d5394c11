-- A text put into a lent buffer, by the way that it was put.
use Rattle.std.proofs.Common.{◌∙◌, ap, subst, arith, length-append}
use Rattle.std.specs.Prelude.{◌≡◌, List, ℕ, ◌<◌, ◌≤◌, drop, length}
use Rattle.std.proofs.Math.Path.{refl}
use Rattle.calculus.proofs.Theory.Tests.{ltb_complete, ltb_not}
use Rattle.buffer.specs.Written.{Wrote}
use Rattle.buffer.proofs.Theory.Writes.{beyond}
use Rattle.text.specs.Put.{Puts, within}

-- the text by another name
pub put_as : {most : ℕ} {text text' old : List ℕ} {r : ℕ} {new : List ℕ} → text ≡ text' → Puts most text old r new → Puts most text' old r new
put_as {most} {old = old} {r} {new} e p = subst (λ (t : List ℕ). Puts most t old r new) e p

module _ (most : ℕ) (text old : List ℕ) where
  -- a buffer that is too short is left as it was
  pub too_short : length old < most → Puts most text old 0 old
  unfolding within
  too_short l = record { answer = rw (ltb_complete (length old) most l) refl; leaves = rw (ltb_complete (length old) most l) refl }

  -- all of the text was written
  pub puts : most ≤ length old → {new : List ℕ} {r : ℕ} → Wrote old 0 text new r → length text ≤ length old → Puts most text old r new
  unfolding within
  puts long w room = record { answer = rw (ltb_not (length old) most long) (omega (arith, w.ends)); leaves = rw (ltb_not (length old) most long) (beyond w room) }

  -- the text is inside the buffer
  pub inside : {r : ℕ} {new : List ℕ} → Puts most text old r new → r ≤ length new
  inside p = omega (arith, p.answer, ap length p.leaves ∙ length-append (within most (length old) text) (drop (length (within most (length old) text)) old))
