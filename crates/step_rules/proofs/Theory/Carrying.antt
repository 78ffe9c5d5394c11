-- T-09: how a step changes the nodes of each bay. Only the thread's component changes, and new names are its bay's, but for what rules 5 and 7 put in another name.
use Rattle.std.proofs.Common.{◌∙◌, sym, arith, length-set}
use Rattle.std.specs.Prelude.{◌≡◌, refl, Bool, cond, false, true, List, ◌++◌, ℕ, ◌+◌, ◌<◌, eqb, length, set}
use Rattle.std.proofs.Math.Option.{some}
use Rattle.calculus.specs.Syntax.{Exp, Component, thread_of, Config, at, sum_in}
use Rattle.calculus.specs.Owners.{owner}
use Rattle.calculus.specs.Shares.{of_bay}
use Rattle.calculus.specs.Reduction.{Context, plug, put}
use Rattle.calculus.specs.Step.{Redex}
use Rattle.calculus.specs.Image.{nodes, nodes_all}
use Rattle.calculus.proofs.Theory.BaySums.{bay_grown, bay_kept, bay_set}
use Rattle.calculus.proofs.Theory.Configurations.{sum_append, sum_set}
use Rattle.calculus.proofs.Theory.Lists.{at_bound}
use Rattle.image_layout.specs.Slice.{names}
use Rattle.image.specs.Configuration.{config_of, owners_of}
use Rattle.image.proofs.Theory.Exactly.{length_config}
use Rattle.term_redex.specs.declared.Meeting.{Meeting}
use Rattle.step_rules.specs.declared.Move.{Move}
use Rattle.step_rules.specs.Effects.{carried_of, nothing}
use Rattle.step_rules.specs.Stepped.{Carries}
use Rattle.step_rules.specs.Meets.{step_at, MeetsAt}
use Rattle.step_rules.proofs.Theory.Meeting.{length_owners}
use Rattle.step_rules.proofs.Theory.Writers.{thread_below}

-- a bay has S nodes of T in all; thread x's component changes, c nodes to c', then another name's, l nodes to g. p says whether the bay owns x, q whether it owns the other.
two_changes : (p q : Bool) (S S₁ S₂ T T₁ T₂ c c' g l : ℕ) → S₁ + cond p c 0 ≡ S + cond p c' 0 → T₁ + c ≡ T + c' → S₂ + cond q l 0 ≡ S₁ + cond q g 0 → T₂ + l ≡ T₁ + g →
    S₂ + (cond p (T + g) 0 + cond q l 0) ≡ S + (cond p (T₂ + l) 0 + cond q g 0)
two_changes true true S S₁ S₂ T T₁ T₂ c c' g l a b d e = omega arith
two_changes true false S S₁ S₂ T T₁ T₂ c c' g l a b d e = omega arith
two_changes false true S S₁ S₂ T T₁ T₂ c c' g l a b d e = omega arith
two_changes false false S S₁ S₂ T T₁ T₂ c c' g l a b d e = omega arith

-- the bay gets new names too, with n nodes
new_names : (p : Bool) (S S₁ T T₁ c c' n : ℕ) → S₁ + cond p c 0 ≡ S + cond p c' 0 → T₁ + c ≡ T + c' →
    S₁ + cond p n 0 + (cond p (T + 0) 0 + cond p 0 0) ≡ S + (cond p (T₁ + n + 0) 0 + cond p 0 0)
new_names true S S₁ T T₁ c c' n a b = omega arith
new_names false S S₁ T T₁ c c' n a b = omega arith

module _ {s : List ℕ} {x : ℕ} {m : Meeting} {F : Context} {r : Exp} {d : Redex r} (M : MeetsAt s x m F d) where
  abbrev C : Config
  C = config_of s

  as_many : length (owners_of s) ≡ length C
  as_many = length_owners s ∙ sym (length_config s)

  owned_there : x < length (owners_of s)
  owned_there = omega (arith, thread_below M, length_owners s)

  -- what bay k has of a configuration
  abbrev in_bay : ℕ → Config → ℕ
  in_bay k D = nodes_all (of_bay k (owners_of s) D)

  -- the thread's change
  put_bay : (e : Exp) (k : ℕ) → in_bay k (put C x F e) + cond (eqb (owner (owners_of s) x) k) (nodes (plug F r)) 0 ≡ in_bay k C + cond (eqb (owner (owners_of s) x) k) (nodes (plug F e)) 0
  unfolding sum_in
  put_bay e k = bay_set (sum_in nodes) k (owners_of s) C x (thread_of (plug F e)) M.thread owned_there

  put_all : (e : Exp) → nodes_all (put C x F e) + nodes (plug F r) ≡ nodes_all C + nodes (plug F e)
  unfolding sum_in
  put_all e = sum_set (sum_in nodes) C x (thread_of (plug F e)) M.thread

  put_length : (e : Exp) → length (put C x F e) ≡ length (owners_of s)
  put_length e = length-set C x (thread_of (plug F e)) ∙ sym as_many

  -- rules 1 to 4, 6, 8 and 9: nothing is carried
  pub alone : (by : Move) → carried_of s x m by ≡ nothing x → (e : Exp) (D C' : Config) → C' ≡ put C x F e ++ D → Carries s x (step_at x m by) C'
  alone by none e D C' is = record {
    goer = refl;
    there = rw none (thread_below M);
    bays = λ k. rw (none, is, bay_grown (sum_in nodes) k (owners_of s) x (put C x F e) D (put_length e), sum_append (sum_in nodes) (put C x F e) D)
        (new_names (eqb (owner (owners_of s) x) k) (in_bay k C) (in_bay k (put C x F e)) (nodes_all C) (nodes_all (put C x F e)) (nodes (plug F r)) (nodes (plug F e)) (nodes_all D) (put_bay e k) (put_all e));
  }

  -- rules 5 and 7: y's component changes too, from c to d
  pub together : (by : Move) (e : Exp) (y : ℕ) (c' : Component) {c : Component} → at (put C x F e) y ≡ some c → carried_of s x m by ≡ record { name = y; gained = sum_in nodes c'; lost = sum_in nodes c } →
      y < names s → (C' : Config) → length C' ≡ length C → nodes_all C' ≡ nodes_all (set (put C x F e) y c') → ((k : ℕ) → in_bay k C' ≡ in_bay k (set (put C x F e) y c')) → Carries s x (step_at x m by) C'
  together by e y c' {c} h is below C' len all each = record {
    goer = refl;
    there = rw is below;
    bays = λ k. rw (is, bay_kept k (owners_of s) x C' (len ∙ sym as_many), all, each k)
        (two_changes (eqb (owner (owners_of s) x) k) (eqb (owner (owners_of s) y) k) (in_bay k C) (in_bay k (put C x F e)) (in_bay k (set (put C x F e) y c')) (nodes_all C) (nodes_all (put C x F e))
        (nodes_all (set (put C x F e) y c')) (nodes (plug F r)) (nodes (plug F e)) (sum_in nodes c') (sum_in nodes c) (put_bay e k) (put_all e)
        (bay_set (sum_in nodes) k (owners_of s) (put C x F e) y c' h (omega (arith, below, length_owners s))) (sum_set (sum_in nodes) (put C x F e) y c' h));
  }

  -- a component without nodes for another
  pub still : (D : Config) (z : ℕ) (c' : Component) {c : Component} → at D z ≡ some c → length D ≡ length C → sum_in nodes c ≡ 0 → sum_in nodes c' ≡ 0 →
      (nodes_all (set D z c') ≡ nodes_all D) × ((k : ℕ) → in_bay k (set D z c') ≡ in_bay k D)
  still D z c' {c} h len a b = (
    omega (arith, sum_set (sum_in nodes) D z c' h),
    λ k. same (eqb (owner (owners_of s) z) k) (bay_set (sum_in nodes) k (owners_of s) D z c' h (omega (arith, at_bound D z h, as_many))),
  )
    where
      same : (p : Bool) {i j : ℕ} → i + cond p (sum_in nodes c) 0 ≡ j + cond p (sum_in nodes c') 0 → i ≡ j
      same true e = omega arith
      same false e = omega arith
