-- The place of a node from the places of its subterms, evaluated left to right: what comes of it, and of what stands to its right.
use mathlib.Core.Path.{◌≡◌, ap, refl, sym, ◌∙◌}
use mathlib.Core.Bool.{false, false≢true, true}
use Prim.Native.Nat.{◌+◌, ℕ}
use native.Mathlib.Omega.{arith}
use lib.ListN.{length-append}
use Rattle.calculus.specs.Syntax.{unit, num, op, Exp, app, both, case_of, cell, exch, thread, handle, Shape, Value, is_name, is_const, is_lam, is_exch, is_both}
use Rattle.calculus.specs.Reduction.{Context, hole, in_function, in_argument, in_first, in_second, in_subject}
use Rattle.calculus.specs.Step.{application, beside, loose, meet, Place, place, Redex, settled, subject, within}
use Rattle.calculus.specs.Image.{size}
use Rattle.calculus.proofs.Theory.Places.{place_sound}
use Rattle.term.specs.Expressions.{bytes}
use Rattle.term.proofs.Sizes.{length_bytes}
use Rattle.term_redex.specs.declared.Meeting.{Meeting}
use Rattle.term_redex.specs.Contexts.{front, hole_at}
use Rattle.term_redex.specs.Shapes.{const_is_exch, exp_is_exch, op_is_exch}
use Rattle.term_redex.specs.Places.{first_part, meeting_of, second_part}
use Rattle.term_redex.specs.Stops.{first_of}

-- the meeting of a node at a position whose subterms have these sizes
abbrev pub meeting_at : ℕ → ℕ → ℕ → Meeting
meeting_at at first second = record { at = at; second = at + 1 + first; end = at + 1 + first + second }

-- a meeting is where its node is
moved : (base base' : ℕ) (F G : Context) {r : Exp} (d : Redex r) → base + hole_at F ≡ base' + hole_at G → meeting_of base F d ≡ meeting_of base' G d
unfolding meeting_of
moved base base' F G d e = ap (λ (n : ℕ). meeting_at n (size (first_part d)) (size (second_part d))) e

at_hole : (base : ℕ) {r : Exp} (d : Redex r) → meeting_of base hole d ≡ meeting_at base (size (first_part d)) (size (second_part d))
unfolding meeting_of hole_at front
at_hole base d = let z : base + 0 ≡ base = omega arith in ap (λ (n : ℕ). meeting_at n (size (first_part d)) (size (second_part d))) z

module _ {A : Type 0} (meets : Meeting → A) (stuck : A) where
  -- a subterm that stands `before` bytes on, in a frame; where it is a value, what is to its right decides
  pub within_first : (base before : ℕ) (frame : Context → Context) → ((F : Context) → hole_at (frame F) ≡ before + hole_at F) → (p : Place) (right : (v : Exp) → Value v → Place)
      (rest after : A) → ((v : Exp) (w : Value v) → p ≡ settled v w → first_of meets stuck base (right v w) rest ≡ after) →
      first_of meets stuck base (within frame p right) rest ≡ first_of meets stuck (base + before) p after
  unfolding first_of within
  within_first base before frame shift (settled v w) right rest after h = h v w refl
  within_first base before frame shift (meet F r d) right rest after h = ap meets (moved base (base + before) (frame F) F d (omega (arith, shift F)))
  within_first base before frame shift loose right rest after h = refl

  first_settled : (base : ℕ) (rest : A) (v : Exp) (w : Value v) → first_of meets stuck base (settled v w) rest ≡ rest
  unfolding first_of
  first_settled base rest v w = refl

  -- what stands at a subterm that is a value
  value_is : (e v : Exp) (w : Value v) → place e ≡ settled v w → e ≡ v
  value_is e v w q = rw q at (place_sound e)

  -- Fig. 10, (F, e) and (v, F), F :: e and v :: F: of two values the right decides
  pub first_both : (base : ℕ) (s : Shape) (t : ℕ) (e f : Exp) (rest : A) →
      first_of meets stuck base (place (both s t e f)) rest ≡ first_of meets stuck (base + 2) (place e) (first_of meets stuck (base + 2 + size e) (place f) rest)
  unfolding place hole_at front
  first_both base s t e f rest =
      within_first base 2 (λ F. in_first s t F f) (λ F. omega arith) (place e) _ rest _ λ v w q.
      let z : size e ≡ size v = ap size (value_is e v w q) in
      let y : base + (2 + size v) ≡ base + 2 + size e = omega (arith, z) in
      within_first base (2 + size v) (in_second s t v w) (λ F. omega (arith, length-append (bytes v) (front F), length_bytes v)) (place f) _ rest rest (λ v' w' q'. first_settled base rest _ _)
      ∙ ap (λ (n : ℕ). first_of meets stuck n (place f) rest) y

  -- Fig. 3, F e and v F: two values meet, but where the function is exch
  first_app : (base : ℕ) (f a : Exp) (rest after : A) → ((v v' : Exp) (w : Value v) (w' : Value v') → f ≡ v → a ≡ v' → first_of meets stuck base (beside v v' w w') rest ≡ after) →
      first_of meets stuck base (place (app f a)) rest ≡ first_of meets stuck (base + 1) (place f) (first_of meets stuck (base + 1 + size f) (place a) after)
  unfolding place hole_at front
  first_app base f a rest after h =
      within_first base 1 (λ F. in_function F a) (λ F. omega arith) (place f) _ rest _ λ v w q.
      let z : size f ≡ size v = ap size (value_is f v w q) in
      let y : base + (1 + size v) ≡ base + 1 + size f = omega (arith, z) in
      within_first base (1 + size v) (in_argument v w) (λ F. omega (arith, length-append (bytes v) (front F), length_bytes v)) (place a) _ rest after
      (λ v' w' q'. h v v' w w' (value_is f v w q) (value_is a v' w' q'))
      ∙ ap (λ (n : ℕ). first_of meets stuck n (place a) after) y

  -- exch applied to a value is a value
  beside_exch : (base : ℕ) {v v' : Exp} (w : Value v) (w' : Value v') (rest : A) → exp_is_exch v ≡ true → first_of meets stuck base (beside v v' w w') rest ≡ rest
  unfolding first_of beside exp_is_exch const_is_exch op_is_exch
  beside_exch base (is_const {c = op exch t}) w' rest is = refl
  beside_exch base (is_const {c = unit}) w' rest is = absurd (false≢true is)
  beside_exch base (is_const {c = num n}) w' rest is = absurd (false≢true is)
  beside_exch base (is_const {c = op cell t}) w' rest is = absurd (false≢true is)
  beside_exch base (is_const {c = op thread t}) w' rest is = absurd (false≢true is)
  beside_exch base (is_const {c = op handle t}) w' rest is = absurd (false≢true is)
  beside_exch base is_name w' rest is = absurd (false≢true is)
  beside_exch base is_lam w' rest is = absurd (false≢true is)
  beside_exch base (is_exch u) w' rest is = absurd (false≢true is)
  beside_exch base (is_both u u') w' rest is = absurd (false≢true is)

  pub first_exch : (base : ℕ) (f a : Exp) (rest : A) → exp_is_exch f ≡ true →
      first_of meets stuck base (place (app f a)) rest ≡ first_of meets stuck (base + 1) (place f) (first_of meets stuck (base + 1 + size f) (place a) rest)
  first_exch base f a rest is = first_app base f a rest rest (λ v v' w w' q q'. beside_exch base w w' rest (rw (← q) is))

  -- any other meets it
  beside_meets : (base : ℕ) {v v' : Exp} (w : Value v) (w' : Value v') (rest : A) → exp_is_exch v ≡ false →
      first_of meets stuck base (beside v v' w w') rest ≡ meets (meeting_at base (size v) (size v'))
  unfolding first_of beside exp_is_exch const_is_exch op_is_exch
  beside_meets base (is_const {c = op exch t}) w' rest is = absurd (false≢true (sym is))
  beside_meets base (is_const {c = unit}) w' rest is = ap meets (at_hole base (application is_const w'))
  beside_meets base (is_const {c = num n}) w' rest is = ap meets (at_hole base (application is_const w'))
  beside_meets base (is_const {c = op cell t}) w' rest is = ap meets (at_hole base (application is_const w'))
  beside_meets base (is_const {c = op thread t}) w' rest is = ap meets (at_hole base (application is_const w'))
  beside_meets base (is_const {c = op handle t}) w' rest is = ap meets (at_hole base (application is_const w'))
  beside_meets base is_name w' rest is = ap meets (at_hole base (application is_name w'))
  beside_meets base is_lam w' rest is = ap meets (at_hole base (application is_lam w'))
  beside_meets base (is_exch u) w' rest is = ap meets (at_hole base (application (is_exch u) w'))
  beside_meets base (is_both u u') w' rest is = ap meets (at_hole base (application (is_both u u') w'))

  pub first_applied : (base : ℕ) (f a : Exp) (rest : A) → exp_is_exch f ≡ false →
      first_of meets stuck base (place (app f a)) rest
      ≡ first_of meets stuck (base + 1) (place f) (first_of meets stuck (base + 1 + size f) (place a) (meets (meeting_at base (size f) (size a))))
  first_applied base f a rest is =
      first_app base f a rest _ (λ v v' w w' q q'. rw (q, q') (beside_meets base w w' rest (rw (← q) is)))

  first_taken : (base : ℕ) (s : Shape) {v : Exp} (w : Value v) (f : Exp) (rest : A) →
      first_of meets stuck base (meet hole (case_of s v f) (subject w)) rest ≡ meets (meeting_at base (size v) (size f))
  unfolding first_of
  first_taken base s w f rest = ap meets (at_hole base (subject {s = s} {e = f} w))

  -- case F of .. ⇒ e: a value is taken apart
  pub first_case : (base : ℕ) (s : Shape) (e f : Exp) (rest : A) →
      first_of meets stuck base (place (case_of s e f)) rest ≡ first_of meets stuck (base + 1) (place e) (meets (meeting_at base (size e) (size f)))
  unfolding place hole_at front
  first_case base s e f rest =
      within_first base 1 (λ F. in_subject s F f) (λ F. omega arith) (place e) _ rest _ λ v w q. rw (value_is e v w q) (first_taken base s w f rest)
