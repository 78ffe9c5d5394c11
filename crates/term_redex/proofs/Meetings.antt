-- What an answer of the search says of the expression, and where the two values stand.
use mathlib.Core.Path.{◌≡◌, ap, refl, subst, sym, ◌∙◌}
use mathlib.Core.List.{List, ◌++◌}
use Prim.Native.Nat.{◌+◌, ◌-◌, ℕ}
use native.Mathlib.Omega.{arith}
use lib.ListN.{drop, length, take}
use lib.Seq.{take_at}
use Rattle.calculus.specs.Syntax.{Exp, Value}
use Rattle.calculus.specs.Reduction.{Context, plug}
use Rattle.calculus.specs.Step.{Place, settled, meet, loose, place, Redex}
use Rattle.calculus.specs.Image.{Closed, size}
use Rattle.calculus.proofs.Theory.Places.{Placed, place_sound, place_value}
use Rattle.calculus.proofs.Theory.Tests.{clash}
use Rattle.term.specs.Expressions.{TermAt}
use Rattle.term_redex.specs.declared.Meeting.{Meeting}
use Rattle.std.proofs.Common.{None, Some}
use Rattle.term_redex.specs.Contexts.{back, front, hole_at}
use Rattle.term_redex.specs.Places.{first_part, meeting_of, place_of, second_part}
use Rattle.term_redex.proofs.Contexts.{hole_stands, redex_stands}

-- Done: a closed expression is a value
pub done_value : (base : ℕ) (e : Exp) → Closed 0 e → place_of base (place e) ≡ None → (w : Value e) × (place e ≡ settled e w)
unfolding place_of
done_value base e c d = let w = go (place e) (place_sound e) d in (w, place_value w)
  where
    go : (p : Place) → Placed e p → place_of base p ≡ None → Value e
    go (settled v w) s d = rw s w
    go (meet F r r_is) s d = absurd (clash (cc))
    go loose s d = absurd (s c)

-- Meet: what meets, and in which context
pub record Met (base : ℕ) (e : Exp) (m : Meeting) : Type 0 where
  pub context : Context
  pub redex : Exp
  pub is_redex : Redex redex
  pub place_is : place e ≡ meet context redex is_redex
  pub meeting_is : m ≡ meeting_of base context is_redex

pub meet_met : (base : ℕ) (e : Exp) (m : Meeting) → place_of base (place e) ≡ Some m → Met base e m
unfolding place_of
meet_met base e m h = go (place e) refl h
  where
    go : (p : Place) → place e ≡ p → place_of base p ≡ Some m → Met base e m
    go (settled v w) q h = absurd (clash (cc))
    go (meet F r d) q h = record { context = F; redex = r; is_redex = d; place_is = q; meeting_is = cc }
    go loose q h = absurd (clash (cc))

-- where the values stand, and the bytes around them, in an expression e at a position
pub record MeetingAt (l : List ℕ) (at : ℕ) (e : Exp) (m : Meeting) (F : Context) {r : Exp} (d : Redex r) : Type 0 where
  pub whole : e ≡ plug F r
  pub stuck : ¬ Value r
  pub redex : TermAt l m.at r
  pub first : TermAt l (m.at + 1) (first_part d)
  pub second : TermAt l m.second (second_part d)
  pub begins : m.at ≡ at + hole_at F
  pub second_at : m.second ≡ m.at + 1 + size (first_part d)
  pub ends : m.end ≡ m.second + size (second_part d)
  pub last : at + size e ≡ m.end + length (back F)
  pub before : take (m.at - at) (drop at l) ≡ front F
  pub after : take (at + size e - m.end) (drop m.end l) ≡ back F
  pub rest : drop m.end l ≡ back F ++ drop (at + size e) l

-- of the meeting as the definition has it
defined : {l : List ℕ} {at : ℕ} (F : Context) {r : Exp} (d : Redex r) → TermAt l at (plug F r) → ¬ Value r → MeetingAt l at (plug F r) (meeting_of at F d) F d
unfolding meeting_of
defined {l} {at} F {r} d t stuck =
    let f = first_part d in
    let v = second_part d in
    let h = hole_stands F r t in
    let p = redex_stands d h.term in
    let e : at + hole_at F + size r ≡ at + hole_at F + 1 + size f + size v = p.ends in
    let k : at + hole_at F - at ≡ hole_at F = omega arith in
    let n : length (back F) ≡ at + size (plug F r) - (at + hole_at F + 1 + size f + size v) = omega (arith, h.ends, e) in
    let b : drop (at + hole_at F + 1 + size f + size v) l ≡ back F ++ drop (at + size (plug F r)) l =
    ap (λ (i : ℕ). drop i l) (sym e) ∙ h.after in
    record {
      whole = refl;
      stuck = stuck;
      redex = h.term;
      first = p.first;
      second = p.second;
      begins = refl;
      second_at = refl;
      ends = refl;
      last = omega (arith, h.ends, e);
      before = ap (λ (i : ℕ). take i (drop at l)) k ∙ h.before;
      after = ap (take (at + size (plug F r) - (at + hole_at F + 1 + size f + size v))) b ∙ take_at (back F) (drop (at + size (plug F r)) l) _ n;
      rest = b;
    }

pub meeting_stands : {l : List ℕ} {at : ℕ} {e : Exp} {m : Meeting} → TermAt l at e → (x : Met at e m) → MeetingAt l at e m x.context x.is_redex
meeting_stands {l} {at} {e} {m} t x =
    let F = x.context in
    let d = x.is_redex in
    let s : Placed e (meet F x.redex d) = subst (Placed e) x.place_is (place_sound e) in
    let p = defined F d (subst (TermAt l at) s.0 t) s.1 in
    subst (λ (n : Meeting). MeetingAt l at e n F d) (sym x.meeting_is)
    (subst (λ (g : Exp). MeetingAt l at g (meeting_of at F d) F d) (sym s.0) p)
