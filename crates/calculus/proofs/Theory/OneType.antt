-- An expression has at most one type, whichever of its once variables a split has taken away.
use Rattle.std.specs.Prelude.{◌≡◌, refl, List, []}
use Rattle.calculus.specs.Types.{LinType}
use Rattle.calculus.specs.Syntax.{Const, Shape, Exp}
use Rattle.calculus.specs.Typing.{TypeNumbers, NameTypes, ConstType, of_unit, of_num, of_op, Fig10, fig10_pair, fig10_list, Env, Derivation, d_const, d_name, d_var, d_many, d_once, d_app, d_both, d_case}
use Rattle.calculus.proofs.Theory.Environments.{Covers, covers_nil, covers_some, covers_split, covers_only}

pub one_type_const : {τ : TypeNumbers} {c : Const} {α β : LinType} → ConstType τ c α → ConstType τ c β → α ≡ β
one_type_const of_unit of_unit = refl
one_type_const of_num of_num = refl
one_type_const (of_op p f) (of_op q g) = cc

-- a pair's or list's type says its components'
pub one_parts : {s : Shape} {α α' β β' γ : LinType} → Fig10 s γ α β → Fig10 s γ α' β' → (α ≡ α') × (β ≡ β')
one_parts (fig10_pair h h') (fig10_pair g g') = (refl, refl)
one_parts (fig10_list h) (fig10_list g) = (refl, refl)

module _ {τ : TypeNumbers} {Σ : NameTypes} where
  pub one_type : {Δ : List LinType} {Γ Γ' : Env} {e : Exp} {α β : LinType} → Covers Δ Γ → Covers Δ Γ' →
      Derivation τ Σ Γ e α → Derivation τ Σ Γ' e β → α ≡ β
  one_type u u' (d_const n p) (d_const n' q) = one_type_const p q
  one_type u u' (d_name n p) (d_name n' q) = cc
  one_type u u' (d_var o) (d_var o') = cc (covers_only u o, covers_only u' o')
  one_type u u' (d_many p n d) (d_many q n' d') = cc
  one_type u u' (d_many p n d) (d_once q d') = cc
  one_type u u' (d_once p d) (d_many q n' d') = cc
  one_type u u' (d_once p d) (d_once q d') = cc
  one_type u u' (d_app s d₁ d₂) (d_app s' d₁' d₂') =
      cc (one_type (covers_split u s).0 (covers_split u' s').0 d₁ d₁')
  one_type u u' (d_both p f s d₁ d₂) (d_both q f' s' d₁' d₂') = cc
  one_type u u' (d_case f s d₁ d₂) (d_case f' s' d₁' d₂') =
      let (p, q) = one_parts (rw (one_type (covers_split u s).0 (covers_split u' s').0 d₁ d₁') at f) f' in
      one_type (covers_some (covers_some (covers_split u s).1)) (covers_some (covers_some (covers_split u' s').1)) d₂ (rw (p, q) d₂')

  -- a closed expression has at most one type
  pub closed_one_type : {e : Exp} {α β : LinType} → Derivation τ Σ [] e α → Derivation τ Σ [] e β → α ≡ β
  closed_one_type = one_type covers_nil covers_nil
