-- Tests that answer true or false, and what they say: `and`, comparisons of numbers, multiplicities and types.
use Rattle.std.proofs.Common.{◌∙◌, sym, inl, inr, arith, eqb→eq, leb→le, le→leb, ltb→lt, lt→ltb}
use Rattle.std.specs.Prelude.{◌≡◌, refl, ◌⊎◌, Bool, ◌&&◌, false, true, ◌<◌, ◌≤◌, ℕ, T, eqb, leb, ltb}
use Rattle.std.proofs.Math.Bool.{and-eq-true_iff}
use Rattle.std.proofs.lemmas.Bool.{false≢true}
use Rattle.std.proofs.Math.Option.{Option, some}
use Rattle.std.proofs.Math.Decide.{dec_lt}
use Rattle.std.proofs.Math.Dec.{eqb_refl}
use Rattle.calculus.specs.Types.{Multiplicity, once, many, multiplicity_discrete, LinType, type_discrete, fun, multiplicity, Holds}
use Rattle.calculus.proofs.Theory.TypeTests.{same_multiplicity, same_type, τ_is_many_type}

-- from equations that contradict each other `cc` has 0 ≡ 1
pub clash : ◌≡◌ {A = ℕ} 0 1 → ⊥
clash z = omega arith

pub true_of : (b : Bool) → T b → b ≡ true
true_of true t = refl
true_of false t = absurd t

pub of_true : {b : Bool} → b ≡ true → T b
of_true e = rw e tt

pub false_of : (b : Bool) → ¬ T b → b ≡ false
false_of true f = absurd (f tt)
false_of false f = refl

-- two tests say the same
pub equal_from : (b c : Bool) → (b ≡ true → c ≡ true) → (c ≡ true → b ≡ true) → b ≡ c
equal_from true c there back = sym (there refl)
equal_from false true there back = back refl
equal_from false false there back = refl

-- `and`
pub and_true : {a b : Bool} → a ≡ true → b ≡ true → (a && b) ≡ true
and_true {a} {b} p q = (and-eq-true_iff a b).1 (p, q)

pub and_parts : (a b : Bool) → (a && b) ≡ true → (a ≡ true) × (b ≡ true)
and_parts a b = (and-eq-true_iff a b).0

-- where one of two fails
pub and_false : (a b : Bool) → (a && b) ≡ false → (a ≡ false) ⊎ (b ≡ false)
and_false true b e = inr e
and_false false b e = inl refl

pub false_left : {a : Bool} (b : Bool) → a ≡ false → (a && b) ≡ false
false_left b p = rw p refl

pub false_right : (a : Bool) {b : Bool} → b ≡ false → (a && b) ≡ false
false_right true p = p
false_right false p = refl

-- numbers
pub eqb_sound : (m n : ℕ) → eqb m n ≡ true → m ≡ n
eqb_sound m n e = eqb→eq m n (of_true e)

pub eqb_complete : (m n : ℕ) → m ≡ n → eqb m n ≡ true
eqb_complete m n e = rw e (true_of (eqb n n) (eqb_refl n))

pub eqb_differ : (m n : ℕ) → ¬ (m ≡ n) → eqb m n ≡ false
eqb_differ m n d = false_of (eqb m n) (λ t. d (eqb→eq m n t))

pub ltb_sound : (m n : ℕ) → ltb m n ≡ true → m < n
ltb_sound m n e = ltb→lt m n (of_true e)

pub ltb_complete : (m n : ℕ) → m < n → ltb m n ≡ true
ltb_complete m n h = true_of (ltb m n) (lt→ltb m n h)

pub leb_sound : (m n : ℕ) → leb m n ≡ true → m ≤ n
leb_sound m n e = leb→le m n (of_true e)

pub leb_complete : (m n : ℕ) → m ≤ n → leb m n ≡ true
leb_complete m n l = true_of (leb m n) (le→leb m n l)

pub ltb_false : (m n : ℕ) → ltb m n ≡ false → n ≤ m
ltb_false m n e = elim (dec_lt m n) [ yes l ↦ absurd (false≢true (sym e ∙ ltb_complete m n l)) | no d ↦ omega arith ]

pub ltb_less_not : (m n : ℕ) → ¬ (m < n) → ltb m n ≡ false
ltb_less_not m n d = false_of (ltb m n) (λ t. d (ltb→lt m n t))

pub ltb_not : (m n : ℕ) → n ≤ m → ltb m n ≡ false
ltb_not m n l = false_of (ltb m n) (λ t. let h : m < n = ltb_sound m n (true_of (ltb m n) t) in omega arith)

-- no type has both multiplicities
pub once_not_many : {κ : Multiplicity} → κ ≡ once → κ ≡ many → ⊥
once_not_many p q = clash (cc)

-- what is held by something of multiplicity many has multiplicity many
pub many_held : {κ : Multiplicity} (α : LinType) → Holds κ α → κ ≡ many → multiplicity α ≡ many
many_held {κ} α h m = go (multiplicity α) h
  where
    go : (μ : Multiplicity) → (μ ≡ once → κ ≡ once) → μ ≡ many
    go many h = refl
    go once h = absurd (once_not_many (h refl) m)

-- multiplicities and types
pub same_multiplicity_sound : (κ κ' : Multiplicity) → same_multiplicity κ κ' ≡ true → κ ≡ κ'
same_multiplicity_sound once once e = refl
same_multiplicity_sound once many e = absurd (false≢true e)
same_multiplicity_sound many once e = absurd (false≢true e)
same_multiplicity_sound many many e = refl

pub fun_path : {κ κ' : Multiplicity} {α α' β β' : LinType} → κ ≡ κ' → α ≡ α' → β ≡ β' → fun κ α β ≡ fun κ' α' β'
fun_path p q r = cc

pub same_type_sound : (α β : LinType) → same_type α β ≡ true → α ≡ β
unfolding same_type
same_type_sound α β = go (type_discrete multiplicity_discrete α β)
  where
    go : (d : Dec (α ≡ β)) → elim d [ yes p ↦ true | no n ↦ false ] ≡ true → α ≡ β
    go (yes p) e = p
    go (no n) e = absurd (false≢true e)

pub same_type_refl : (α : LinType) → same_type α α ≡ true
unfolding same_type
same_type_refl α = go (type_discrete multiplicity_discrete α α)
  where
    go : (d : Dec (α ≡ α)) → elim d [ yes p ↦ true | no n ↦ false ] ≡ true
    go (yes p) = refl
    go (no n) = absurd (n refl)

pub is_many_type_sound : (α : LinType) → τ_is_many_type α ≡ true → multiplicity α ≡ many
is_many_type_sound α = same_multiplicity_sound (multiplicity α) many

pub is_many_type_complete : (α : LinType) → multiplicity α ≡ many → τ_is_many_type α ≡ true
is_many_type_complete α e = rw e

-- an equation of types read off two readings of one number
pub one_reading : {o : Option LinType} {α β : LinType} → o ≡ some α → o ≡ some β → α ≡ β
one_reading p q = cc
