-- Cause 8 for constants: the tests of the instances of Fig. 8 pass exactly its types.
use Rattle.std.proofs.Common.{◌∙◌, ap}
use Rattle.std.specs.Prelude.{◌≡◌, refl, Bool, true, false, ℕ}
use Rattle.std.proofs.lemmas.Bool.{false≢true}
use Rattle.std.proofs.Math.Option.{Option, none, some}
use Rattle.calculus.specs.Types.{Multiplicity, once, LinType, unit_type, num_type, ref, fun, pair_type, list_type}
use Rattle.calculus.specs.Syntax.{Op, Const, unit, num, op, cell, exch, thread, handle, Shape}
use Rattle.calculus.specs.Typing.{TypeNumbers, Fig8, ConstType, of_unit, of_num, of_op, fig8_cell, fig8_exch, fig8_thread, fig8_handle, Fig10}
use Rattle.calculus.proofs.Theory.TypeTests.{τ_on_function, τ_on_cell, on_type, τ_in_table, τ_scoped_const, τ_is_cell_type, τ_is_exch_type, τ_is_thread_type, τ_is_handle_type, τ_annotated_const, type_of_const, same_multiplicity, same_type, Parts, has_parts, no_parts, parts_of, by_parts, τ_with_components}
use Rattle.calculus.proofs.Theory.Tests.{and_true, and_parts, fun_path, same_type_sound, same_type_refl, is_many_type_sound, is_many_type_complete, one_reading, same_multiplicity_sound}
use Rattle.calculus.proofs.Theory.OneType.{one_parts}

-- what passes a test of a type's parts has those parts
pub on_type_parts : (o : Option LinType) (test : LinType → Bool) → on_type o test ≡ true → (α : LinType) × (o ≡ some α) × (test α ≡ true)
unfolding on_type
on_type_parts none test e = absurd (false≢true e)
on_type_parts (some α) test e = (α, refl, e)

pub on_type_at : (o : Option LinType) (test : LinType → Bool) {α : LinType} → o ≡ some α → test α ≡ true → on_type o test ≡ true
unfolding on_type
on_type_at o test p e = rw p e

pub on_function_parts : (γ : LinType) (test : Multiplicity → LinType → LinType → Bool) → τ_on_function γ test ≡ true →
    (κ : Multiplicity) × (α : LinType) × (β : LinType) × (γ ≡ fun κ α β) × (test κ α β ≡ true)
unfolding τ_on_function
on_function_parts unit_type test e = absurd (false≢true e)
on_function_parts num_type test e = absurd (false≢true e)
on_function_parts (ref α) test e = absurd (false≢true e)
on_function_parts (fun κ α β) test e = (κ, α, β, refl, e)
on_function_parts (pair_type κ α β) test e = absurd (false≢true e)
on_function_parts (list_type κ α) test e = absurd (false≢true e)

on_cell_parts : (γ : LinType) (test : LinType → Bool) → τ_on_cell γ test ≡ true → (α : LinType) × (γ ≡ ref α) × (test α ≡ true)
unfolding τ_on_cell
on_cell_parts unit_type test e = absurd (false≢true e)
on_cell_parts num_type test e = absurd (false≢true e)
on_cell_parts (ref α) test e = (α, refl, e)
on_cell_parts (fun κ α β) test e = absurd (false≢true e)
on_cell_parts (pair_type κ α β) test e = absurd (false≢true e)
on_cell_parts (list_type κ α) test e = absurd (false≢true e)

pub on_type_is : (o : Option LinType) (test : LinType → Bool) {α : LinType} → o ≡ some α → on_type o test ≡ test α
unfolding on_type
on_type_is o test p = rw p

-- Fig. 10: what passes a test of the components has components, and what has them is tested by them
pub components_parts : (s : Shape) (γ : LinType) (test : LinType → LinType → Bool) → τ_with_components false s γ test ≡ true →
    (α β : LinType) × Fig10 s γ α β × (test α β ≡ true)
unfolding by_parts
components_parts s γ test = go (parts_of s γ)
  where
    go : (p : Parts s γ) → by_parts false p test ≡ true → (α β : LinType) × Fig10 s γ α β × (test α β ≡ true)
    go (has_parts α β f) e = (α, β, f, e)
    go (no_parts n) e = absurd (false≢true e)

pub components_at : {A : Type 0} (otherwise : A) (follows : LinType → LinType → A) {s : Shape} {α β γ : LinType} → Fig10 s γ α β →
    τ_with_components otherwise s γ follows ≡ follows α β
unfolding by_parts
components_at otherwise follows {s} {α} {β} {γ} f = go (parts_of s γ)
  where
    go : (p : Parts s γ) → by_parts otherwise p follows ≡ follows α β
    go (has_parts α' β' f') = let (p, q) = one_parts f f' in rw (p, q)
    go (no_parts n) = absurd (n α β f)

-- what passes for a constant's type is one
cell_sound : (γ : LinType) → τ_is_cell_type γ ≡ true → Fig8 cell γ
unfolding τ_is_cell_type
cell_sound γ e =
    let (κ, α, ρ, p, t) = on_function_parts γ _ e in
    let (α', p', t') = on_cell_parts ρ _ t in
    let q : γ ≡ fun κ α (ref α) = p ∙ fun_path refl refl (p' ∙ ap ref (same_type_sound _ _ t')) in
    rw q fig8_cell

exch_sound : (γ : LinType) → τ_is_exch_type γ ≡ true → Fig8 exch γ
unfolding τ_is_exch_type
exch_sound γ e =
    let (κ, ρ, φ, p, t) = on_function_parts γ _ e in
    let (α, p', t') = on_cell_parts ρ _ t in
    let (κ', β, β', p'', t'') = on_function_parts φ _ t' in
    let (r, r') = and_parts _ _ t'' in
    let q : γ ≡ fun κ (ref α) (fun κ' α α) = p ∙ fun_path refl p' (p'' ∙ fun_path refl (same_type_sound _ _ r) (same_type_sound _ _ r')) in
    rw q fig8_exch

thread_sound : (γ : LinType) → τ_is_thread_type γ ≡ true → Fig8 thread γ
unfolding τ_is_thread_type
thread_sound γ e =
    let (κ', φ, α, p, t) = on_function_parts γ _ e in
    let (κ, β, β', p', t') = on_function_parts φ _ t in
    let (r, rm) = and_parts _ _ t' in
    let (r', m) = and_parts _ _ rm in
    let q : γ ≡ fun κ' (fun κ α α) α = p ∙ fun_path refl (p' ∙ fun_path refl (same_type_sound _ _ r) (same_type_sound _ _ r')) refl in
    rw q (fig8_thread (is_many_type_sound α m))

handle_sound : (γ : LinType) → τ_is_handle_type γ ≡ true → Fig8 handle γ
unfolding τ_is_handle_type
handle_sound γ e =
    let (κ'', φ, ρ, p, t) = on_function_parts γ _ e in
    let (κ, α, ψ, p', t') = on_function_parts φ _ t in
    let (κ', η, ρ', p'', t'') = on_function_parts ψ _ t' in
    let (s, rm) = and_parts (τ_on_function η _) _ t'' in
    let (r, m) = and_parts (same_type ρ' ρ) _ rm in
    let (κ''', α', υ, p''', t''') = on_function_parts η _ s in
    let (s', ss) = and_parts (same_multiplicity κ''' once) _ t''' in
    let (s'', s''') = and_parts (same_type α' α) _ ss in
    let h : η ≡ fun once α unit_type = p''' ∙ fun_path (same_multiplicity_sound κ''' once s') (same_type_sound α' α s'') (same_type_sound υ unit_type s''') in
    let q : γ ≡ fun κ'' (fun κ α (fun κ' (fun once α unit_type) ρ)) ρ =
    p ∙ fun_path refl (p' ∙ fun_path refl refl (p'' ∙ fun_path refl h (same_type_sound ρ' ρ r))) refl in
    rw q (fig8_handle (is_many_type_sound α m))

-- the type with number t is one that Fig. 8 has of the constant o
abbrev pub Instance : TypeNumbers → Op → ℕ → Type 0
Instance τ o t = (γ : LinType) × (τ t ≡ some γ) × Fig8 o γ

pub instance_sound : (τ : TypeNumbers) (o : Op) (t : ℕ) → τ_annotated_const τ (op o t) ≡ true → Instance τ o t
unfolding τ_annotated_const
instance_sound τ cell t a = let (γ, p, c) = on_type_parts (τ t) τ_is_cell_type a in (γ, p, cell_sound γ c)
instance_sound τ exch t a = let (γ, p, c) = on_type_parts (τ t) τ_is_exch_type a in (γ, p, exch_sound γ c)
instance_sound τ thread t a = let (γ, p, c) = on_type_parts (τ t) τ_is_thread_type a in (γ, p, thread_sound γ c)
instance_sound τ handle t a = let (γ, p, c) = on_type_parts (τ t) τ_is_handle_type a in (γ, p, handle_sound γ c)

-- a constant that passes has the type that its annotation says
pub const_sound : (τ : TypeNumbers) (c : Const) {γ : LinType} → τ_annotated_const τ c ≡ true → type_of_const τ c ≡ some γ → ConstType τ c γ
unfolding type_of_const
const_sound τ unit {γ} a s = let r : γ ≡ unit_type = one_reading s refl in rw r of_unit
const_sound τ (num n) {γ} a s = let r : γ ≡ num_type = one_reading s refl in rw r of_num
const_sound τ (op o t) {γ} a s =
    let (δ, p, f) = instance_sound τ o t a in
    let r : γ ≡ δ = one_reading s p in
    rw r (of_op p f)

-- and a typed constant passes
pub const_scoped : {τ : TypeNumbers} {c : Const} {γ : LinType} → ConstType τ c γ → τ_scoped_const τ c ≡ true
unfolding τ_scoped_const τ_in_table
const_scoped of_unit = refl
const_scoped of_num = refl
const_scoped (of_op p f) = on_type_at _ _ p refl

pub const_annotated : {τ : TypeNumbers} {c : Const} {γ : LinType} → ConstType τ c γ → τ_annotated_const τ c ≡ true
unfolding τ_annotated_const τ_is_cell_type τ_is_exch_type τ_is_thread_type τ_is_handle_type τ_on_function τ_on_cell
const_annotated of_unit = refl
const_annotated of_num = refl
const_annotated (of_op p (fig8_cell {α = α})) = on_type_at _ τ_is_cell_type p (same_type_refl α)
const_annotated (of_op p (fig8_exch {α = α})) = on_type_at _ τ_is_exch_type p (and_true (same_type_refl α) (same_type_refl α))
const_annotated (of_op p (fig8_thread {α = α} m)) = on_type_at _ τ_is_thread_type p (and_true (same_type_refl α) (and_true (same_type_refl α) (is_many_type_complete α m)))
const_annotated (of_op p (fig8_handle {α = α} {β = ρ} m)) = on_type_at _ τ_is_handle_type p (and_true (and_true (same_type_refl α) (same_type_refl unit_type)) (and_true (same_type_refl ρ) (is_many_type_complete α m)))

pub const_type_of : {τ : TypeNumbers} {c : Const} {γ : LinType} → ConstType τ c γ → type_of_const τ c ≡ some γ
unfolding type_of_const
const_type_of of_unit = refl
const_type_of of_num = refl
const_type_of (of_op p f) = p
