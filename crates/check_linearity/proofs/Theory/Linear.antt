-- The one pass is the calculus' test of cause 10, for every term and every table.
use Rattle.std.specs.Prelude.{◌≡◌, refl, ◌↔◌, Bool, false, true, List, [], ◌∷◌, length}
use Rattle.std.proofs.Common.{sym, ◌∙◌, arith}
use Rattle.std.proofs.lemmas.Bool.{false≢true}
use Rattle.std.proofs.Math.Option.{Option, none, some}
use Rattle.calculus.specs.Syntax.{Exp}
use Rattle.calculus.specs.Table.{Table}
use Rattle.calculus.specs.Verdict.{linear, every}
use Rattle.check_linearity.specs.Spend.{Marks, spend, left_over, spends}
use Rattle.check_linearity.proofs.Theory.Changes.{fit_many}
use Rattle.check_linearity.proofs.Theory.Sound.{sound}
use Rattle.check_linearity.proofs.Theory.Complete.{complete}

-- a whole term leaves no mark
no_marks : (M : Marks) → length M ≡ 0 → M ≡ []
no_marks [] z = refl
no_marks (mark ∷ M) z = absurd (omega arith)

closed_leaves : (T : Table) (e : Exp) (M : Marks) → spend T [] 0 [] e ≡ some M → spend T [] 0 [] e ≡ some []
closed_leaves T e M p = let s = sound T [] 0 [] e p in let z : M ≡ [] = no_marks M s.1.same_length in rw z at p

pub spend_linear : (T : Table) (e : Exp) → (linear T [] e ≡ true) ↔ (spend T [] 0 [] e ≡ some [])
spend_linear T e = ((λ l. let (M, p) = complete T [] 0 [] e l (λ i. fit_many) in closed_leaves T e M p), λ p. (sound T [] 0 [] e p).0)

pub spends_linear : (T : Table) (e : Exp) → spends T e ≡ linear T [] e
unfolding spends left_over
spends_linear T e = go (linear T [] e) refl (spend T [] 0 [] e) refl
  where
    go : (b : Bool) → linear T [] e ≡ b → (o : Option Marks) → spend T [] 0 [] e ≡ o → left_over o ≡ b
    go true l o p = rw (sym p ∙ (spend_linear T e).0 l)
    go false l none p = refl
    go false l (some M) p = absurd (false≢true (sym l ∙ (sound T [] 0 [] e p).0))

-- the same over all terms of a recipe, as cause 10 tries them
pub every_spends : (T : Table) (es : List Exp) → every (spends T) es ≡ every (linear T []) es
unfolding every
every_spends T [] = refl
every_spends T (e ∷ es) = rw (spends_linear T e, every_spends T es)
