-- Terms with no subterm, by their tags: the number of the type.
use Rattle.std.proofs.Common.{◌≡◌, refl, subst, sym, List, ◌-◌, ◌<◌, ◌≤◌, ℕ, arith, get_or}
use Rattle.term.proofs.Leaves.{leaf_variable, leaf_num, leaf_name, leaf_unit, leaf_op, leaf_unknown}
use Rattle.term.specs.Forms.{variable_tag, num_tag, cell_tag, handle_tag, name_tag}
use Rattle.calculus.specs.Kinds.{unit_entry, num_entry, setting_entry}
use Rattle.calculus.specs.Syntax.{const, Exp, unit}
use Rattle.calculus.specs.Verdict.{const_number, type_number}
use Rattle.term.specs.Expressions.{leaf_exp}
use Rattle.check_types.specs.Walk.{environment, HasNumber}
use Rattle.check_types.proofs.Environments.{environment_at}

has : {Δ : List ℕ} {e e' : Exp} {n : ℕ} → e ≡ e' → HasNumber Δ e' n → HasNumber Δ e n
has {Δ} {e} {e'} {n} is h = subst (λ x. HasNumber Δ x n) (sym is) h

unit_number : (Δ : List ℕ) → HasNumber Δ (const unit) unit_entry
unfolding type_number const_number
unit_number Δ = record { number = λ T. refl }

module _ (tag arg : ℕ) where
  pub variable_number : (above : ℕ) (a : List ℕ) → tag ≡ variable_tag → arg < above → HasNumber (environment above a) (leaf_exp tag arg) (get_or a (above - 1 - arg) 0)
  unfolding type_number
  variable_number above a e h = has (leaf_variable tag arg e) (record { number = λ T. environment_at above a arg h })

  module _ (Δ : List ℕ) where
    pub num_number : tag ≡ num_tag → HasNumber Δ (leaf_exp tag arg) num_entry
    unfolding type_number const_number
    num_number e = has (leaf_num tag arg e) (record { number = λ T. refl })

    pub name_number : tag ≡ name_tag → HasNumber Δ (leaf_exp tag arg) setting_entry
    unfolding type_number
    name_number e = has (leaf_name tag arg e) (record { number = λ T. refl })

    -- the tags of lambda, application and unit
    pub low_number : variable_tag < tag → tag < num_tag → HasNumber Δ (leaf_exp tag arg) unit_entry
    low_number l h = has (leaf_unit tag arg (λ e. omega (arith, e)) (λ e. omega (arith, e)) (omega arith)) (unit_number Δ)

    pub high_number : name_tag < tag → HasNumber Δ (leaf_exp tag arg) unit_entry
    high_number h = has (leaf_unknown tag arg (omega arith)) (unit_number Δ)

    pub op_number : cell_tag ≤ tag → tag ≤ handle_tag → HasNumber Δ (leaf_exp tag arg) arg
    unfolding type_number const_number
    op_number l h = let (o, is) = leaf_op tag arg l h in has is (record { number = λ T. refl })

pub ruleset leaves = (variable_number, num_number, name_number, low_number, high_number, op_number)
