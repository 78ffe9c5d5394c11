-- Marks in an array: what stands at a level, a variable more or less, a case's two, a store; what is in reach.
use Rattle.std.specs.Prelude.{◌≡◌, refl, Bool, cond, false, true, List, ◌∷◌, ◌+◌, ◌-◌, ◌<◌, ◌≤◌, suc, zero, ℕ, eqb, get_or, length, set}
use Rattle.std.proofs.Common.{ap, add-one, arith, length-set, get_or-set_same, get_or-set_other}
use Rattle.calculus.specs.Kinds.{once_type_kind}
use Rattle.check_linearity.specs.Spend.{Marks, reach_under}
use Rattle.check_linearity.specs.Levels.{marks_of, floor_under}

pub length_marks : (above : ℕ) (a : List ℕ) → length (marks_of above a) ≡ above
unfolding marks_of
length_marks zero a = refl
length_marks (suc above) a = ap suc (length_marks above a)

pub marks_at : (above : ℕ) (a : List ℕ) (i : ℕ) → i < above → get_or (marks_of above a) i 0 ≡ get_or a (above - 1 - i) 0
unfolding marks_of
marks_at zero a i h = absurd (omega arith)
marks_at (suc above) a zero h = ap (λ (level : ℕ). get_or a level 0) (omega arith)
marks_at (suc above) a (suc i) h = rw (marks_at above a i (omega arith)) (ap (λ (level : ℕ). get_or a level 0) (omega arith))

cons_path : {x y : ℕ} {M M' : Marks} → x ≡ y → M ≡ M' → ◌≡◌ {A = Marks} (x ∷ M) (y ∷ M')
cons_path p q = cc

-- a store at no level of the variables in scope
pub marks_past : (above : ℕ) (a : List ℕ) (level x : ℕ) → above ≤ level → marks_of above (set a level x) ≡ marks_of above a
unfolding marks_of
marks_past zero a level x h = refl
marks_past (suc above) a level x h = cons_path (get_or-set_other a level above x 0 (omega arith)) (marks_past above a level x (omega arith))

-- a variable more
pub marks_push : (above : ℕ) (a : List ℕ) (x : ℕ) → above < length a → marks_of (suc above) (set a above x) ≡ x ∷ marks_of above a
unfolding marks_of
marks_push above a x h = cons_path (get_or-set_same a above x 0 h) (marks_past above a above x (omega arith))

-- a variable less
pub marks_pop : (above : ℕ) (a : List ℕ) → marks_of (suc above) a ≡ get_or a above 0 ∷ marks_of above a
unfolding marks_of
marks_pop above a = refl

-- a case's two variables more and less, the second component's innermost
pub marks_push_both : (above : ℕ) (a : List ℕ) (x y : ℕ) → above + 1 < length a → marks_of (above + 2) (set (set a above x) (above + 1) y) ≡ y ∷ x ∷ marks_of above a
marks_push_both above a x y h =
    let e : above + 2 ≡ suc (above + 1) = omega arith in
    let r : above + 1 < length (set a above x) = simp length-set (omega arith) in
    rw (e, marks_push (above + 1) (set a above x) y r, add-one above, marks_push above a x (omega arith))

pub marks_pop_both : (above : ℕ) (a : List ℕ) → marks_of (above + 2) a ≡ get_or a (above + 1) 0 ∷ get_or a above 0 ∷ marks_of above a
marks_pop_both above a =
    let e : above + 2 ≡ suc (above + 1) = omega arith in
    let g : above + 1 ≡ suc above = omega arith in
    rw (e, marks_pop (above + 1) a, g, marks_pop above a)

-- a store at the level of variable i
pub marks_set : (above : ℕ) (a : List ℕ) (i x : ℕ) → i < above → above ≤ length a → marks_of above (set a (above - 1 - i) x) ≡ set (marks_of above a) i x
unfolding marks_of
marks_set zero a i x h l = absurd (omega arith)
marks_set (suc above) a zero x h l =
    let e : suc above - 1 - 0 ≡ above = omega arith in
    rw e (marks_push above a x (omega arith))
marks_set (suc above) a (suc i) x h l =
    let e : suc above - 1 - suc i ≡ above - 1 - i = omega arith in
    rw e (cons_path (get_or-set_other a (above - 1 - i) above x 0 (omega arith)) (marks_set above a i x (omega arith) (omega arith)))

-- the variables in reach are those whose level is not below the floor
pub reach_floor : (kind floor above : ℕ) → floor ≤ above → reach_under kind (above - floor) ≡ suc above - floor_under kind floor above
unfolding reach_under floor_under
reach_floor kind floor above h = go (eqb kind once_type_kind)
  where
    go : (o : Bool) → ◌≡◌ {A = ℕ} (cond o (suc (above - floor)) 1) (suc above - cond o floor above)
    go true = omega arith
    go false = omega arith

-- and no higher than the lambda's own level
pub floor_below : (kind floor above : ℕ) → floor ≤ above → floor_under kind floor above ≤ above
unfolding floor_under
floor_below kind floor above h = go (eqb kind once_type_kind)
  where
    go : (o : Bool) → cond o floor above ≤ above
    go true = h
    go false = omega arith
