-- Every step that answers rule 5 applies a handle and binds a future: `Applies` and `Binds` are met there.
use Rattle.std.proofs.Common.{◌∙◌, sym, arith}
use Rattle.std.specs.Prelude.{◌≡◌, ℕ}
use Rattle.std.proofs.Math.Option.{some}
use Rattle.calculus.specs.Syntax.{name, is_name, list, open_for, pair, Config, at}
use Rattle.calculus.specs.Reduction.{HANDLE_BIND, Rule as RuleName, number, Reduces, beta, thread_new, future_deref, future_deref_exch, future_deref_case, handle_new, handle_bind, cell_new, cell_exch, case_both}
use Rattle.calculus.specs.Step.{application}
use Rattle.calculus.specs.Typing.{TypeNumbers}
use Rattle.calculus.specs.NewTypes.{function_at}
use Rattle.calculus.specs.Profile.{Profile}
use Rattle.calculus.specs.Limits.{max_bays}
use Rattle.calculus.specs.State.{State}
use Rattle.calculus.proofs.Theory.ConfigRuns.{config_reply}
use Rattle.calculus.proofs.Theory.Images.{Kept}
use Rattle.calculus.proofs.Theory.Step.{function_meet}
use Rattle.calculus.proofs.Theory.Replies.{moved_means}
use Rattle.image.specs.Configuration.{image_of}
use Rattle.image.proofs.Theory.Exactly.{read_again}
use Rattle.step_spec.specs.declared.Outcome.TheVariants.{Rule}
use Rattle.runs.specs.Run.{Call, Step, answer, Applies, Binds}
use Rattle.runs.proofs.Theory.Steps.{call_of, answered_rule, answers}

-- HANDLE.BIND applies the open handle that is the function at its place
bound_there : {C C' : Config} {x : ℕ} {r : RuleName} → Reduces C x r C' → number r ≡ number HANDLE_BIND →
    (z y : ℕ) × (function_at C x ≡ some (name z)) × (at C z ≡ some (open_for y))
bound_there (beta F t e v wv h) q = absurd (omega arith)
bound_there (thread_new F t v wv h) q = absurd (omega arith)
bound_there (future_deref F y v w wv ww h g) q = absurd (omega arith)
bound_there (future_deref_exch F t y v w wv ww h g) q = absurd (omega arith)
bound_there (handle_new F t v wv h) q = absurd (omega arith)
bound_there {C} {x = x} (handle_bind F z y v wv h g) q = (z, y, function_meet C x F (application is_name wv) (λ n. elim n [ ]) h, g)
bound_there (cell_new F t v wv h) q = absurd (omega arith)
bound_there (cell_exch F t y v w wv h g) q = absurd (omega arith)
bound_there (future_deref_case F s y w e ww h g) q = absurd (omega arith)
bound_there (case_both F pair t v₁ v₂ e w w' h) q = absurd (omega arith)
bound_there (case_both F list t v₁ v₂ e w w' h) q = absurd (omega arith)

module _ (p : Profile) (τ : TypeNumbers) (s : State) (k : Kept max_bays s.owned) (c : Call) where
  abbrev handed : Step
  handed = record { profile = p; image = image_of s.owned; types = s.names; call = c }

  pub rule_5 : (size : ℕ) → answer handed ≡ Rule (number HANDLE_BIND) size → (z y : ℕ) × Applies handed z × Binds handed y
  rule_5 size e =
      let (I', g) = answered_rule (config_reply p s.owned (call_of c)) (sym (answers p τ s k c) ∙ e) in
      let (r, q, d, w, o) = moved_means p s.owned (call_of c) g in
      let (z, y, f, h) = bound_there d q in
      let reads = read_again s.owned k in
      (z, y, (size, e, rw reads f), (z, (size, e, rw reads f), rw reads h))
