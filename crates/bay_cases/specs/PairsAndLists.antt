-- Document 02, T-03, "Pairs and lists": each of its sentences, of the definitions that the contracts and the demands cite.
use Rattle.std.proofs.Common.{◌∙◌, ap, ap₂, sym, append-nil, arith}
use Rattle.std.specs.Prelude.{◌≡◌, Bool, ◌&&◌, false, not, true, ◌↔◌, List, [], ◌++◌, ◌∷◌, ℕ, ◌<◌, ◌≤◌, suc, zero, get_or, length}
use Rattle.std.proofs.Math.Path.{refl}
use Rattle.std.proofs.lemmas.Bool.{false≢true, not-false}
use Rattle.std.proofs.Math.Option.{some}
use Rattle.calculus.specs.Profile.{Profile, common}
use Rattle.calculus.specs.Bytes.{Bytes}
use Rattle.calculus.specs.Limits.{max_image_length}
use Rattle.calculus.specs.Causes.{type_entry_cause, no_term_cause, scope_cause, annotation_cause, type_cause, linearity_cause, wrong_kind_cause}
use Rattle.calculus.specs.Kinds.{many_pair_kind, many_list_kind}
use Rattle.calculus.specs.Types.{Multiplicity, once, many, LinType, pair_type, list_type, multiplicity, Holds}
use Rattle.calculus.specs.Syntax.{Const, Shape, pair, list, Exp, var, name, const, lam, app, both, case_of, op, cell, exch, thread, handle, unit, num, Value, is_name, is_const, is_lam, is_exch, is_both, Component, thread_of, holds, open_for, used, awaited, Config, at}
use Rattle.calculus.specs.Owners.{Owned, grown}
use Rattle.calculus.specs.Typing.{TypeNumbers, Fig10, fig10_pair, fig10_list, of_op, Env, Split, split_nil, Derivation, d_const, d_name, d_app, d_both, d_case}
use Rattle.calculus.specs.Reduction.{substitute, substitute_both, Context, in_first, in_second, Has, put, Rule, BETA, THREAD_NEW, FUTURE_DEREF, HANDLE_NEW, HANDLE_BIND, CELL_NEW, CELL_EXCH, CASE, number, Reduces, future_deref_case, case_both}
use Rattle.calculus.specs.Step.{Redex, subject, meet, place, within, rule, wrong_kind, step_of, step_place, step_redex, step_case, step_subject, to_case, Unready}
use Rattle.calculus.specs.Image.{Closed, closed_var, closed_name, closed_const, closed_lam, closed_app, closed_both, closed_case, WithinLimits}
use Rattle.calculus.specs.Table.{Entry, entry, Table, is_once_kind, ManyEntry, EntryRule, many_pair_rule, many_list_rule, once_pair_rule, once_list_rule, unit_rule, num_rule, cell_rule, once_rule, many_rule, TableRule, read_at, read_entry, one_part, two_parts, type_at}
use Rattle.calculus.specs.Verdict.{scoped, verdict}
use Rattle.calculus.proofs.Theory.Tests.{clash, and_true, and_parts, eqb_differ}
use Rattle.calculus.proofs.Theory.Lists.{at_bound, at_below}
use Rattle.calculus.proofs.Theory.Tables.{pair_kind, list_kind, view, known, type_at_step, Formed, formed}
use Rattle.calculus.proofs.Theory.TableTest.{KindsBelow, table_test_iff}
use Rattle.calculus.proofs.Theory.Tabulate.{each_below_sound, each_below_complete}
use Rattle.calculus.proofs.Theory.Places.{place_meet, place_value}
use Rattle.calculus.proofs.Theory.Step.{rule_iff, wrong_kind_iff}
use Rattle.calculus.proofs.Theory.Sound.{Sound}
use Rattle.calculus.proofs.Theory.Images.{no_once_list}
use Rattle.calculus.proofs.Theory.Causes.{Some, Cause7, Cause8, Cause9, Cause10, verdict_means}
use Rattle.term.specs.Tree.{forms_below}
use Rattle.term.specs.Reader.{got, one_term, read_term}
use Rattle.term.specs.Expressions.{bytes, term_at, const_tree, op_tag, both_tag, case_tag, tree_of, FitsBytes}
use Rattle.term.proofs.Expressions.{read_written, edition_sound, edition_complete}
use Rattle.recipe_file.specs.Editions.{edition_1, edition_2}
use Rattle.recipe_file.specs.File.{edition_of, bays, term_bytes}
use Rattle.recipe_file.specs.FileRule.{FileRule}
use Rattle.recipe_file.proofs.LaidOut.{laid_iff}
use Rattle.recipe_table.specs.Entries.{type_table, cause_4}
use Rattle.check_spec.specs.Bays.{bay_reading, cause_5}
use Rattle.check_spec.specs.Verdict.{refusal, verdict_of}
use Rattle.check_spec.proofs.Theory.Bays.{part_bytes}
use Rattle.check_spec.proofs.Theory.Answers.{refusal_is}
use Rattle.image.specs.Configuration.{image_of}
use Rattle.step_spec.specs.declared.Outcome.TheVariants.{Rule as Answers, Waiting, Refused}
use Rattle.step_spec.specs.Stepping.{outcome_of}
use Rattle.demands.specs.Demands.{Accepted, ImageOf, Means, ThirdDemand}
use Rattle.demands.proofs.Theory.Second.{second_demand}
use Rattle.demands.proofs.Theory.Third.{third_demand}

-- an entry of multiplicity once
abbrev OnceEntry : Table → ℕ → Type 0
OnceEntry T p = (x : Entry) × (at T p ≡ some x) × (is_once_kind x.kind ≡ true)

-- "A many pair or list has only many contents" is broken
data Breaks (T : Table) : Type 0 where
  first_once : (k p q : ℕ) → at T k ≡ some (entry many_pair_kind p q) → OnceEntry T p → Breaks T
  second_once : (k p q : ℕ) → at T k ≡ some (entry many_pair_kind p q) → OnceEntry T q → Breaks T
  contents_once : (k p q : ℕ) → at T k ≡ some (entry many_list_kind p q) → OnceEntry T p → Breaks T

-- the expressions of document 01's node forms
data Old : Exp → Type 0 where
  old_var : {i : ℕ} → Old (var i)
  old_name : {k : ℕ} → Old (name k)
  old_const : {c : Const} → Old (const c)
  old_lam : {t : ℕ} {e : Exp} → Old e → Old (lam t e)
  old_app : {f a : Exp} → Old f → Old a → Old (app f a)

-- a name that is a future: a thread's, or one that is not bound yet
data Future (C : Config) (k : ℕ) : Type 0 where
  of_thread : {e : Exp} → at C k ≡ some (thread_of e) → Future C k
  of_handle : at C k ≡ some awaited → Future C k

-- a list of fronts, the last one before a future
data EndsInFuture (C : Config) : Exp → Type 0 where
  is_future : {k : ℕ} → Future C k → EndsInFuture C (name k)
  is_front : {t : ℕ} {v w : Exp} → EndsInFuture C w → EndsInFuture C (both list t v w)

-- a value that a case of this shape neither takes apart nor waits for nor follows
data OtherKind (C : Config) (s : Shape) : Exp → Type 0 where
  other_constant : {c : Const} → OtherKind C s (const c)
  other_lambda : {t : ℕ} {e : Exp} → OtherKind C s (lam t e)
  other_exch : {t : ℕ} {v : Exp} → Value v → OtherKind C s (app (const (op exch t)) v)
  other_shape : {s' : Shape} {t : ℕ} {v w : Exp} → ¬ (s ≡ s') → Value v → Value w → OtherKind C s (both s' t v w)
  other_cell : {k : ℕ} {v : Exp} → at C k ≡ some (holds v) → OtherKind C s (name k)
  other_handle : {k y : ℕ} → at C k ≡ some (open_for y) → OtherKind C s (name k)
  other_used : {k : ℕ} → at C k ≡ some used → OtherKind C s (name k)

-- Γ is Γ₁ · Γ₂, with P of the one and Q of the other
abbrev Parted : (Env → Type 0) → (Env → Type 0) → Env → Type 0
Parted P Q Γ = (Γ₁ : Env) × (Γ₂ : Env) × Split Γ Γ₁ Γ₂ × P Γ₁ × Q Γ₂

-- rule 8 or 9 moves thread x of C, and the outcome has room and an image of this length
abbrev TakesApart : Shape → ℕ → ℕ → Owned → Type 0
TakesApart s x size I = (F : Context) × (t : ℕ) × (v₁ : Exp) × (v₂ : Exp) × (e : Exp) × Value v₁ × Value v₂ × (Has I.config x F (case_of s (both s t v₁ v₂) e)) ×
    WithinLimits (put I.config x F (substitute_both v₁ v₂ e)) × (size ≡ length (image_of (grown I x (put I.config x F (substitute_both v₁ v₂ e)))))

record PairsAndLists : Type 0 where
  -- "Edition 2 adds Fig. 10": four node forms and four kinds; it has all that there are
  adds : (edition_1.forms ≡ 10) × (edition_2.forms ≡ 14) × (edition_1.kinds ≡ 5) × (edition_2.kinds ≡ 9)
  all_kinds : {T : Table} → TableRule T → KindsBelow edition_2.kinds T
  all_forms : (e : Exp) → forms_below edition_2.forms (tree_of e) ≡ true
  -- Fig. 10's rules: (e₁, e₂), e₁ :: e₂, and the two of case, x of the first component's type and y, innermost, of the second's
  fig_10_pair : {τ : TypeNumbers} {S : List LinType} (Γ : Env) (t : ℕ) (e₁ e₂ : Exp) (κ : Multiplicity) (α β : LinType) →
      Derivation τ S Γ (both pair t e₁ e₂) (pair_type κ α β) ↔ ((τ t ≡ some (pair_type κ α β)) × Holds κ α × Holds κ β × Parted (λ Γ₁. Derivation τ S Γ₁ e₁ α) (λ Γ₂. Derivation τ S Γ₂ e₂ β) Γ)
  fig_10_front : {τ : TypeNumbers} {S : List LinType} (Γ : Env) (t : ℕ) (e₁ e₂ : Exp) (κ : Multiplicity) (α : LinType) →
      Derivation τ S Γ (both list t e₁ e₂) (list_type κ α) ↔
      ((τ t ≡ some (list_type κ α)) × Holds κ α × Parted (λ Γ₁. Derivation τ S Γ₁ e₁ α) (λ Γ₂. Derivation τ S Γ₂ e₂ (list_type κ α)) Γ)
  fig_10_case_pair : {τ : TypeNumbers} {S : List LinType} (Γ : Env) (e₁ e₂ : Exp) (γ : LinType) → Derivation τ S Γ (case_of pair e₁ e₂) γ ↔
      ((κ : Multiplicity) × (α : LinType) × (β : LinType) × Holds κ α × Holds κ β ×
      Parted (λ Γ₁. Derivation τ S Γ₁ e₁ (pair_type κ α β)) (λ Γ₂. Derivation τ S (some β ∷ some α ∷ Γ₂) e₂ γ) Γ)
  fig_10_case_list : {τ : TypeNumbers} {S : List LinType} (Γ : Env) (e₁ e₂ : Exp) (β : LinType) → Derivation τ S Γ (case_of list e₁ e₂) β ↔
      ((κ : Multiplicity) × (α : LinType) × Holds κ α ×
      Parted (λ Γ₁. Derivation τ S Γ₁ e₁ (list_type κ α)) (λ Γ₂. Derivation τ S (some (list_type κ α) ∷ some α ∷ Γ₂) e₂ β) Γ)
  -- "5 pair once, 6 pair many", "a pair uses p and q"
  pairs : {T : Table} → TableRule T → (κ : Multiplicity) (k p q : ℕ) → at T k ≡ some (entry (pair_kind κ) p q) →
      (α : LinType) × (β : LinType) × (type_at T p ≡ some α) × (type_at T q ≡ some β) × (type_at T k ≡ some (pair_type κ α β))
  -- "7 list once, 8 list many", "a list p with q = 0"
  lists : {T : Table} → TableRule T → (κ : Multiplicity) (k p q : ℕ) → at T k ≡ some (entry (list_kind κ) p q) →
      (q ≡ 0) × (α : LinType) × (type_at T p ≡ some α) × (type_at T k ≡ some (list_type κ α))
  -- "5 and 7 of multiplicity once"
  multiplicities : (κ : Multiplicity) (α β : LinType) → (multiplicity (pair_type κ α β) ≡ κ) × (multiplicity (list_type κ α) ≡ κ)
  -- "A many pair or list has only many contents": so every type of a table that stands has Fig. 10's "such that", at every depth
  contents : {T : Table} → TableRule T → (k : ℕ) (γ : LinType) → type_at T k ≡ some γ → Formed γ
  -- "a type entry that breaks this is refused 4", in either edition
  refused_4 : (file : List ℕ) → FileRule file → Breaks (type_table file) → (verdict_of file).refusal ≡ type_entry_cause
  -- "10 pair and 11 list front, each with its type number and two subterms"
  fronts : (t : ℕ) (e₁ e₂ : Exp) → (bytes (both pair t e₁ e₂) ≡ 10 ∷ t ∷ (bytes e₁ ++ bytes e₂)) × (bytes (both list t e₁ e₂) ≡ 11 ∷ t ∷ (bytes e₁ ++ bytes e₂))
  -- "12 and 13 take a pair or list apart, with no byte after the tag, subject and body as subterms"
  cases : (e₁ e₂ : Exp) → (bytes (case_of pair e₁ e₂) ≡ 12 ∷ (bytes e₁ ++ bytes e₂)) × (bytes (case_of list e₁ e₂) ≡ 13 ∷ (bytes e₁ ++ bytes e₂))
  -- "the body having two more variables", and the subject none
  variables : (types names depth : ℕ) (s : Shape) (e₁ e₂ : Exp) →
      scoped types names depth (case_of s e₁ e₂) ≡ (scoped types names depth e₁ && scoped types names (suc (suc depth)) e₂)
  -- "index 0 the second component"; so 1 is the first
  index_0 : (v₁ v₂ : Exp) → substitute_both v₁ v₂ (var 0) ≡ v₂
  index_1 : (v₁ v₂ : Exp) → Closed 0 v₁ → substitute_both v₁ v₂ (var 1) ≡ v₁
  -- "There is no empty list; a list ends in a future"; a once list has no value at all
  ends : {τ : TypeNumbers} {S : List LinType} {C : Config} → Sound τ S C → {v : Exp} {κ : Multiplicity} {α : LinType} → Value v → Derivation τ S [] v (list_type κ α) → EndsInFuture C v
  no_once : {τ : TypeNumbers} {S : List LinType} {C : Config} → Sound τ S C → {v : Exp} {α : LinType} → Value v → ¬ Derivation τ S [] v (list_type once α)
  -- "Pairs and list fronts of two values are values"
  values : (s : Shape) (t : ℕ) (e₁ e₂ : Exp) → Value (both s t e₁ e₂) ↔ (Value e₁ × Value e₂)
  -- "evaluated left to right": the place is in the first component, and in the second where the first is a value
  left_first : (s : Shape) (t : ℕ) (e₁ e₂ : Exp) (F : Context) (r : Exp) (d : Redex r) → place e₁ ≡ meet F r d → place (both s t e₁ e₂) ≡ meet (in_first s t F e₂) r d
  right_then : (s : Shape) (t : ℕ) (v e₂ : Exp) (w : Value v) (F : Context) (r : Exp) (d : Redex r) → place e₂ ≡ meet F r d → place (both s t v e₂) ≡ meet (in_second s t v w F) r d
  -- "Taking apart is rule 8 for pairs and 9 for lists"
  rule_8 : (image : List ℕ) → Bytes image → (x size : ℕ) (out : List ℕ) → (outcome_of common image x out ≡ Answers 8 size) ↔ Means image out (TakesApart pair x size)
  rule_9 : (image : List ℕ) → Bytes image → (x size : ℕ) (out : List ℕ) → (outcome_of common image x out ≡ Answers 9 size) ↔ Means image out (TakesApart list x size)
  -- "and needs its subject's value as an exch does": waiting, and rule 3, after which the case stands with the value
  waits : (image : List ℕ) → Bytes image → (I : Owned) → ImageOf image I → (x y : ℕ) (out : List ℕ) → max_image_length ≤ length out →
      (F : Context) (s : Shape) (e : Exp) → Has I.config x F (case_of s (name y) e) → Unready I.config y → outcome_of common image x out ≡ Waiting y
  follows : (C : Config) (x y : ℕ) (F : Context) (s : Shape) (w e : Exp) → Value w → Has C x F (case_of s (name y) e) → at C y ≡ some (thread_of w) →
      Reduces C x FUTURE_DEREF (put C x F (case_of s w e))
  -- "Images may hold the new forms, and a subject of another kind gives 17"
  other_kind : (image : List ℕ) → Bytes image → (I : Owned) → ImageOf image I → (x : ℕ) (out : List ℕ) → max_image_length ≤ length out →
      (F : Context) (s : Shape) (v e : Exp) → Has I.config x F (case_of s v e) → OtherKind I.config s v → outcome_of common image x out ≡ Refused wrong_kind_cause
  -- "Refusals 7 to 10 cover the new nodes", told by their places
  refusal_7 : {T : Table} → TableRule T → (es : List Exp) → (verdict T es ≡ scope_cause) ↔ Some (Cause7 T (length es)) es
  refusal_8 : {T : Table} → TableRule T → (es : List Exp) →
      (verdict T es ≡ annotation_cause) ↔ ((¬ Some (Cause7 T (length es)) es) × Some (Cause8 (type_at T)) es)
  refusal_9 : {T : Table} → TableRule T → (es : List Exp) →
      (verdict T es ≡ type_cause) ↔ ((¬ Some (Cause7 T (length es)) es) × (¬ Some (Cause8 (type_at T)) es) × Some (Cause9 (type_at T)) es)
  refusal_10 : {T : Table} → TableRule T → (es : List Exp) →
      (verdict T es ≡ linearity_cause) ↔ ((¬ Some (Cause7 T (length es)) es) × (¬ Some (Cause8 (type_at T)) es) × (¬ Some (Cause9 (type_at T)) es) × Some (Cause10 (type_at T)) es)
  -- "8 where node 10's type is no pair or node 11's no list": what cause 8 asks of a number of a table that stands is that, and no more
  no_pair : {T : Table} → TableRule T → (t : ℕ) →
      ((γ α β : LinType) → type_at T t ≡ some γ → ¬ Fig10 pair γ α β) ↔ ((κ : Multiplicity) (α β : LinType) → ¬ (type_at T t ≡ some (pair_type κ α β)))
  no_list : {T : Table} → TableRule T → (t : ℕ) →
      ((γ α β : LinType) → type_at T t ≡ some γ → ¬ Fig10 list γ α β) ↔ ((κ : Multiplicity) (α : LinType) → ¬ (type_at T t ≡ some (list_type κ α)))
  -- "An edition 1 file with any of these is refused as before": 4 for a kind
  kinds_before : (file : List ℕ) → FileRule file → edition_of file ≡ edition_1 → (k : ℕ) (x : Entry) → at (type_table file) k ≡ some x → 5 ≤ x.kind →
      (verdict_of file).refusal ≡ type_entry_cause
  -- and 5 for a node form: cause 5 does not fit exactly where each part is the bytes of an expression of document 01's forms
  forms_before : (file : List ℕ) → Bytes file → edition_of file ≡ edition_1 →
      (cause_5 file ≡ false) ↔ ((bay : ℕ) → bay < bays file → (e : Exp) × (term_bytes file bay ≡ bytes e) × FitsBytes e × Old e)
  refused_5 : (file : List ℕ) → Bytes file → FileRule file → cause_4 file ≡ false → edition_of file ≡ edition_1 → (bay : ℕ) → bay < bays file →
      ((e : Exp) → term_bytes file bay ≡ bytes e → FitsBytes e → ¬ Old e) → (verdict_of file).refusal ≡ no_term_cause
  -- "Edition 2 is accepted by Figs. 9 and 10": each bay's term has a derivation, under a many type
  acceptance : (file : List ℕ) → Bytes file → ((verdict_of file).refusal ≡ 0) ↔ Accepted file
  -- "threads step by nine rules": numbered 1 to 9, each number one rule's; a thread goes by a rule exactly where Fig. 5, or Fig. 10's case, has the move
  nine : (r : Rule) → (1 ≤ number r) × (number r ≤ 9)
  each_number : (n : ℕ) → 1 ≤ n → n ≤ 9 → (r : Rule) × (number r ≡ n)
  one_rule : (r r' : Rule) → number r ≡ number r' → r ≡ r'
  moves : (C C' : Config) (x : ℕ) (r : Rule) → (step_of C x ≡ rule r C') ↔ Reduces C x r C'
  -- "and accepted recipes still never meet a wrong value": no step of a run answers 17, and cells and finished threads have values of their types
  guarantee : (p : Profile) → ThirdDemand p

-- Fig. 10, read backwards
module _ {τ : TypeNumbers} {S : List LinType} where
  pair_rule : {Γ : Env} {t : ℕ} {e₁ e₂ : Exp} {κ : Multiplicity} {α β : LinType} → Derivation τ S Γ (both pair t e₁ e₂) (pair_type κ α β) →
      (τ t ≡ some (pair_type κ α β)) × Holds κ α × Holds κ β × Parted (λ Γ₁. Derivation τ S Γ₁ e₁ α) (λ Γ₂. Derivation τ S Γ₂ e₂ β) Γ
  pair_rule (d_both p (fig10_pair h h') s d d') = (p, h, h', (_, _, s, d, d'))

  front_rule : {Γ : Env} {t : ℕ} {e₁ e₂ : Exp} {κ : Multiplicity} {α : LinType} → Derivation τ S Γ (both list t e₁ e₂) (list_type κ α) →
      (τ t ≡ some (list_type κ α)) × Holds κ α × Parted (λ Γ₁. Derivation τ S Γ₁ e₁ α) (λ Γ₂. Derivation τ S Γ₂ e₂ (list_type κ α)) Γ
  front_rule (d_both p (fig10_list h) s d d') = (p, h, (_, _, s, d, d'))

  case_pair_rule : {Γ : Env} {e₁ e₂ : Exp} {γ : LinType} → Derivation τ S Γ (case_of pair e₁ e₂) γ →
      (κ : Multiplicity) × (α : LinType) × (β : LinType) × Holds κ α × Holds κ β ×
      Parted (λ Γ₁. Derivation τ S Γ₁ e₁ (pair_type κ α β)) (λ Γ₂. Derivation τ S (some β ∷ some α ∷ Γ₂) e₂ γ) Γ
  case_pair_rule (d_case (fig10_pair {κ = κ} {α = α} {β = β} h h') s d d') = (κ, α, β, h, h', (_, _, s, d, d'))

  case_list_rule : {Γ : Env} {e₁ e₂ : Exp} {β : LinType} → Derivation τ S Γ (case_of list e₁ e₂) β →
      (κ : Multiplicity) × (α : LinType) × Holds κ α ×
      Parted (λ Γ₁. Derivation τ S Γ₁ e₁ (list_type κ α)) (λ Γ₂. Derivation τ S (some (list_type κ α) ∷ some α ∷ Γ₂) e₂ β) Γ
  case_list_rule (d_case (fig10_list {κ = κ} {α = α} h) s d d') = (κ, α, h, (_, _, s, d, d'))

-- cause 4: the kinds, what an entry says, and what a table that stands does not have
kind_small : {T : Table} {k kind p q : ℕ} → EntryRule T k kind p q → kind < 9
kind_small unit_rule = omega arith
kind_small num_rule = omega arith
kind_small (cell_rule l) = omega arith
kind_small (once_rule l m) = omega arith
kind_small (many_rule l m) = omega arith
kind_small (once_pair_rule l m) = omega arith
kind_small (many_pair_rule l m w w') = omega arith
kind_small (once_list_rule l) = omega arith
kind_small (many_list_rule l w) = omega arith

pair_below : {T : Table} (κ : Multiplicity) {k p q : ℕ} → EntryRule T k (pair_kind κ) p q → (p < k) × (q < k)
pair_below once (once_pair_rule l m) = (l, m)
pair_below many (many_pair_rule l m w w') = (l, m)

list_below : {T : Table} (κ : Multiplicity) {k p q : ℕ} → EntryRule T k (list_kind κ) p q → (p < k) × (q ≡ 0)
list_below once (once_list_rule l) = (l, refl)
list_below many (many_list_rule l w) = (l, refl)

pair_many : {T : Table} {k p q : ℕ} → EntryRule T k many_pair_kind p q → ManyEntry T p × ManyEntry T q
pair_many (many_pair_rule l m w w') = (w, w')

list_many : {T : Table} {k p q : ℕ} → EntryRule T k many_list_kind p q → ManyEntry T p
list_many (many_list_rule l w) = w

not_both : (T : Table) (p : ℕ) → ManyEntry T p → ¬ OnceEntry T p
not_both T p (x, g, m) (y, h, o) = let e : x ≡ y = cc in false≢true (sym (rw e at m) ∙ o)

module _ {T : Table} (R : TableRule T) where
  pair_said : (κ : Multiplicity) (k p q : ℕ) → at T k ≡ some (entry (pair_kind κ) p q) →
      (α : LinType) × (β : LinType) × (type_at T p ≡ some α) × (type_at T q ≡ some β) × (type_at T k ≡ some (pair_type κ α β))
  unfolding read_at read_entry two_parts
  pair_said κ k p q g =
      let (l, m) = pair_below κ (R.each k (entry (pair_kind κ) p q) g) in
      let (α, a) = known R p (omega (arith, at_bound T k g)) in
      let (β, b) = known R q (omega (arith, at_bound T k g)) in
      (α, β, a, b, by κ α β a b g)
    where
      by : (κ : Multiplicity) (α β : LinType) → type_at T p ≡ some α → type_at T q ≡ some β → at T k ≡ some (entry (pair_kind κ) p q) → type_at T k ≡ some (pair_type κ α β)
      by once α β a b g = rw (type_at_step R k, g, a, b)
      by many α β a b g = rw (type_at_step R k, g, a, b)

  list_said : (κ : Multiplicity) (k p q : ℕ) → at T k ≡ some (entry (list_kind κ) p q) →
      (q ≡ 0) × (α : LinType) × (type_at T p ≡ some α) × (type_at T k ≡ some (list_type κ α))
  unfolding read_at read_entry one_part
  list_said κ k p q g =
      let (l, z) = list_below κ (R.each k (entry (list_kind κ) p q) g) in
      let (α, a) = known R p (omega (arith, at_bound T k g)) in
      (z, α, a, by κ α a g)
    where
      by : (κ : Multiplicity) (α : LinType) → type_at T p ≡ some α → at T k ≡ some (entry (list_kind κ) p q) → type_at T k ≡ some (list_type κ α)
      by once α a g = rw (type_at_step R k, g, a)
      by many α a g = rw (type_at_step R k, g, a)

  none_breaks : ¬ Breaks T
  none_breaks (first_once k p q g o) = not_both T p (pair_many (R.each k (entry many_pair_kind p q) g)).0 o
  none_breaks (second_once k p q g o) = not_both T q (pair_many (R.each k (entry many_pair_kind p q) g)).1 o
  none_breaks (contents_once k p q g o) = not_both T p (list_many (R.each k (entry many_list_kind p q) g)) o

  pair_is_told : (t : ℕ) →
      ((γ α β : LinType) → type_at T t ≡ some γ → ¬ Fig10 pair γ α β) ↔ ((κ : Multiplicity) (α β : LinType) → ¬ (type_at T t ≡ some (pair_type κ α β)))
  unfolding Formed
  pair_is_told t = (
    λ n κ α β e. let (h, h', f, f') = formed R (pair_type κ α β) (view R e) in n (pair_type κ α β) α β e (fig10_pair h h'),
    λ n γ α β e f. by n γ α β e f,
  )
    where
      by : ((κ : Multiplicity) (α β : LinType) → ¬ (type_at T t ≡ some (pair_type κ α β))) → (γ α β : LinType) → type_at T t ≡ some γ → ¬ Fig10 pair γ α β
      by n γ α β e (fig10_pair {κ = κ} h h') = n κ α β e

  list_is_told : (t : ℕ) →
      ((γ α β : LinType) → type_at T t ≡ some γ → ¬ Fig10 list γ α β) ↔ ((κ : Multiplicity) (α : LinType) → ¬ (type_at T t ≡ some (list_type κ α)))
  unfolding Formed
  list_is_told t = (
    λ n κ α e. let (h, f) = formed R (list_type κ α) (view R e) in n (list_type κ α) α (list_type κ α) e (fig10_list h),
    λ n γ α β e f. by n γ α β e f,
  )
    where
      by : ((κ : Multiplicity) (α : LinType) → ¬ (type_at T t ≡ some (list_type κ α))) → (γ α β : LinType) → type_at T t ≡ some γ → ¬ Fig10 list γ α β
      by n γ α β e (fig10_list {κ = κ} h) = n κ α e

-- a test that cannot pass fails
fails : (b : Bool) → ¬ (b ≡ true) → not b ≡ true
fails true n = absurd (n refl)
fails false n = refl

-- 4 and 5, from the causes
answers_4 : (file : List ℕ) → FileRule file → cause_4 file ≡ true → (verdict_of file).refusal ≡ type_entry_cause
unfolding refusal
answers_4 file laid c = let (a, b, d) = (laid_iff file).1 laid in refusal_is file ∙ rw (a, b, d, c) refl

answers_5 : (file : List ℕ) → FileRule file → cause_4 file ≡ false → cause_5 file ≡ true → (verdict_of file).refusal ≡ no_term_cause
unfolding refusal
answers_5 file laid c c' = let (a, b, d) = (laid_iff file).1 laid in refusal_is file ∙ rw (a, b, d, c, c') refl

broken_4 : (file : List ℕ) → Breaks (type_table file) → cause_4 file ≡ true
unfolding cause_4
broken_4 file b = fails _ (λ e. none_breaks ((table_test_iff (edition_of file).kinds (type_table file)).0 e).1 b)

kind_4 : (file : List ℕ) → edition_of file ≡ edition_1 → (k : ℕ) (x : Entry) → at (type_table file) k ≡ some x → 5 ≤ x.kind → cause_4 file ≡ true
unfolding cause_4
kind_4 file d k x g l = fails _ (λ e. let m : x.kind < 5 = rw d at (((table_test_iff (edition_of file).kinds (type_table file)).0 e).0 k x g) in omega arith)

-- the forms of an edition
all_told : (e : Exp) → forms_below 14 (tree_of e) ≡ true
unfolding forms_below tree_of const_tree op_tag both_tag case_tag
all_told (var i) = refl
all_told (name k) = refl
all_told (const unit) = refl
all_told (const (num n)) = refl
all_told (const (op cell t)) = refl
all_told (const (op exch t)) = refl
all_told (const (op thread t)) = refl
all_told (const (op handle t)) = refl
all_told (lam t e) = all_told e
all_told (app f a) = and_true (all_told f) (all_told a)
all_told (both pair t e₁ e₂) = and_true (all_told e₁) (all_told e₂)
all_told (both list t e₁ e₂) = and_true (all_told e₁) (all_told e₂)
all_told (case_of pair e₁ e₂) = and_true (all_told e₁) (all_told e₂)
all_told (case_of list e₁ e₂) = and_true (all_told e₁) (all_told e₂)

old_sound : (e : Exp) → forms_below 10 (tree_of e) ≡ true → Old e
unfolding forms_below tree_of const_tree op_tag both_tag case_tag
old_sound (var i) h = old_var
old_sound (name k) h = old_name
old_sound (const c) h = old_const
old_sound (lam t e) h = old_lam (old_sound e h)
old_sound (app f a) h = let (p, q) = and_parts (forms_below 10 (tree_of f)) (forms_below 10 (tree_of a)) h in old_app (old_sound f p) (old_sound a q)
old_sound (both pair t e₁ e₂) h = absurd (false≢true h)
old_sound (both list t e₁ e₂) h = absurd (false≢true h)
old_sound (case_of pair e₁ e₂) h = absurd (false≢true h)
old_sound (case_of list e₁ e₂) h = absurd (false≢true h)

old_complete : {e : Exp} → Old e → forms_below 10 (tree_of e) ≡ true
unfolding forms_below tree_of const_tree op_tag
old_complete old_var = refl
old_complete old_name = refl
old_complete (old_const {c = unit}) = refl
old_complete (old_const {c = num n}) = refl
old_complete (old_const {c = op cell t}) = refl
old_complete (old_const {c = op exch t}) = refl
old_complete (old_const {c = op thread t}) = refl
old_complete (old_const {c = op handle t}) = refl
old_complete (old_lam o) = old_complete o
old_complete (old_app o o') = and_true (old_complete o) (old_complete o')

read_as : (l : List ℕ) (e : Exp) → l ≡ bytes e → FitsBytes e → read_term l ≡ got (tree_of e) []
read_as l e p f = ap read_term (p ∙ sym (append-nil (bytes e))) ∙ read_written e [] f

module _ (file : List ℕ) (b : Bytes file) (d : edition_of file ≡ edition_1) where
  abbrev OldPart : ℕ → Type 0
  OldPart bay = (e : Exp) × (term_bytes file bay ≡ bytes e) × FitsBytes e × Old e

  term_is_bytes : (bay : ℕ) → Bytes (term_bytes file bay)
  unfolding term_bytes
  term_is_bytes bay = part_bytes file _ b

  part_old : (bay : ℕ) → one_term (bay_reading file bay) ≡ true → OldPart bay
  part_old bay h =
      let (p, f, below) = edition_sound (edition_of file).forms (term_bytes file bay) (term_is_bytes bay) h in
      let e = term_at (term_bytes file bay) 0 in
      let q : read_term (term_bytes file bay) ≡ got (tree_of e) [] = read_as (term_bytes file bay) e p f in
      (e, p, f, old_sound e (rw (d, q) at below))

  old_part : (bay : ℕ) → OldPart bay → one_term (bay_reading file bay) ≡ true
  old_part bay (e, p, f, o) = edition_complete (edition_of file).forms (term_bytes file bay) e p f (rw (d, read_as (term_bytes file bay) e p f) (old_complete o))

  parts_old : (cause_5 file ≡ false) ↔ ((bay : ℕ) → bay < bays file → OldPart bay)
  unfolding cause_5
  parts_old = (
    λ e bay l. part_old bay (each_below_sound (bays file) (λ k. one_term (bay_reading file k)) (not-false _ e) bay l),
    λ h. rw (each_below_complete (bays file) (λ k. one_term (bay_reading file k)) (λ bay l. old_part bay (h bay l))) refl,
  )

  no_old_5 : (bay : ℕ) → bay < bays file → ((e : Exp) → term_bytes file bay ≡ bytes e → FitsBytes e → ¬ Old e) → cause_5 file ≡ true
  no_old_5 bay l n = go (cause_5 file) refl
    where
      go : (c : Bool) → cause_5 file ≡ c → cause_5 file ≡ true
      go true q = q
      go false q = let (e, p, f, o) = parts_old.0 q bay l in absurd (n e p f o)

-- an expression without free variables is not changed
unchanged : {k : ℕ} {e : Exp} (d : ℕ) (v : Exp) → Closed k e → k ≤ d → substitute d v e ≡ e
unfolding substitute
unchanged d v (closed_var {i = i} h) le = rw (eqb_differ i d (λ z. omega arith)) refl
unchanged d v closed_name le = refl
unchanged d v closed_const le = refl
unchanged d v (closed_lam {t = t} c) le = ap (lam t) (unchanged (suc d) v c (omega arith))
unchanged d v (closed_app c c') le = ap₂ app (unchanged d v c le) (unchanged d v c' le)
unchanged d v (closed_both {s = s} {t = t} c c') le = ap₂ (both s t) (unchanged d v c le) (unchanged d v c' le)
unchanged d v (closed_case {s = s} c c') le = ap₂ (case_of s) (unchanged d v c le) (unchanged (suc (suc d)) v c' (omega arith))

-- lists end in futures
module _ {τ : TypeNumbers} {S : List LinType} {C : Config} (s : Sound τ S C) where
  future_of : (k : ℕ) {κ : Multiplicity} {α : LinType} → at S k ≡ some (list_type κ α) → Future C k
  future_of k {κ} {α} t = let c = at_below C k (omega (arith, at_bound S k t, s.sizes)) in go c.0 c.1
    where
      go : (c : Component) → at C k ≡ some c → Future C k
      go (thread_of e) h = of_thread h
      go (holds e) h = let f = s.fits k (holds e) h in let p = f.1 in absurd (clash (cc))
      go (open_for y) h = let f = s.fits k (open_for y) h in let p = f.1 in absurd (clash (cc))
      go used h = let f = s.fits k used h in let p = f.1 in absurd (clash (cc))
      go awaited h = of_handle h

  list_ends : {v : Exp} {κ : Multiplicity} {α : LinType} → Value v → Derivation τ S [] v (list_type κ α) → EndsInFuture C v
  list_ends (is_name {k = k}) (d_name n t) = is_future (future_of k t)
  list_ends is_lam d = elim d [ ]
  list_ends is_const (d_const n (of_op p f)) = elim f [ ]
  list_ends (is_exch w) (d_app split_nil (d_const n (of_op p f)) d) = elim f [ ]
  list_ends (is_both w w') (d_both p (fig10_list h) split_nil d d') = is_front (list_ends w' d')

both_values : (s : Shape) (t : ℕ) (e₁ e₂ : Exp) → Value (both s t e₁ e₂) → Value e₁ × Value e₂
both_values s t e₁ e₂ (is_both w w') = (w, w')

-- the rules and their numbers
abbrev rule_numbered : ℕ → Rule
rule_numbered n = get_or (BETA ∷ BETA ∷ THREAD_NEW ∷ FUTURE_DEREF ∷ HANDLE_NEW ∷ HANDLE_BIND ∷ CELL_NEW ∷ CELL_EXCH ∷ CASE pair ∷ CASE list ∷ []) n BETA

its_rule : (r : Rule) → rule_numbered (number r) ≡ r
its_rule BETA = refl
its_rule THREAD_NEW = refl
its_rule FUTURE_DEREF = refl
its_rule HANDLE_NEW = refl
its_rule HANDLE_BIND = refl
its_rule CELL_NEW = refl
its_rule CELL_EXCH = refl
its_rule (CASE pair) = refl
its_rule (CASE list) = refl

one_number : (r r' : Rule) → number r ≡ number r' → r ≡ r'
one_number r r' e = sym (its_rule r) ∙ ap rule_numbered e ∙ its_rule r'

in_nine : (r : Rule) → (1 ≤ number r) × (number r ≤ 9)
in_nine BETA = (omega arith, omega arith)
in_nine THREAD_NEW = (omega arith, omega arith)
in_nine FUTURE_DEREF = (omega arith, omega arith)
in_nine HANDLE_NEW = (omega arith, omega arith)
in_nine HANDLE_BIND = (omega arith, omega arith)
in_nine CELL_NEW = (omega arith, omega arith)
in_nine CELL_EXCH = (omega arith, omega arith)
in_nine (CASE pair) = (omega arith, omega arith)
in_nine (CASE list) = (omega arith, omega arith)

all_nine : (n : ℕ) → 1 ≤ n → n ≤ 9 → (r : Rule) × (number r ≡ n)
all_nine zero l m = absurd (omega arith)
all_nine (suc zero) l m = (BETA, refl)
all_nine (suc (suc zero)) l m = (THREAD_NEW, refl)
all_nine (suc (suc (suc zero))) l m = (FUTURE_DEREF, refl)
all_nine (suc (suc (suc (suc zero)))) l m = (HANDLE_NEW, refl)
all_nine (suc (suc (suc (suc (suc zero))))) l m = (HANDLE_BIND, refl)
all_nine (suc (suc (suc (suc (suc (suc zero)))))) l m = (CELL_NEW, refl)
all_nine (suc (suc (suc (suc (suc (suc (suc zero))))))) l m = (CELL_EXCH, refl)
all_nine (suc (suc (suc (suc (suc (suc (suc (suc zero)))))))) l m = (CASE pair, refl)
all_nine (suc (suc (suc (suc (suc (suc (suc (suc (suc zero))))))))) l m = (CASE list, refl)
all_nine (suc (suc (suc (suc (suc (suc (suc (suc (suc (suc n)))))))))) l m = absurd (omega arith)

-- rules 8 and 9 are those of a case
case_parts : {C C' : Config} {x : ℕ} {s : Shape} → Reduces C x (CASE s) C' →
    (F : Context) × (t : ℕ) × (v₁ : Exp) × (v₂ : Exp) × (e : Exp) × Value v₁ × Value v₂ × (Has C x F (case_of s (both s t v₁ v₂) e)) × (C' ≡ put C x F (substitute_both v₁ v₂ e))
case_parts (case_both F s t v₁ v₂ e w w' h) = (F, t, v₁, v₂, e, w, w', h, refl)

takes_apart : (s : Shape) (image : List ℕ) → Bytes image → (x size : ℕ) (out : List ℕ) →
    (outcome_of common image x out ≡ Answers (number (CASE s)) size) ↔ Means image out (TakesApart s x size)
takes_apart s image b x size out = (
  λ h.
      let (le, I, io, (by, C', red, lim, n, z)) = (((second_demand common).step image b x out).rule (number (CASE s)) size).0 h in
      let r : by ≡ CASE s = one_number by (CASE s) (sym n) in
      let (F, t, v₁, v₂, e, w, w', p, q) = case_parts (rw r at red) in
      (le, I, io, (F, t, v₁, v₂, e, w, w', p, rw q at lim, rw q at z)),
  λ (le, I, io, (F, t, v₁, v₂, e, w, w', p, lim, z)).
      (((second_demand common).step image b x out).rule (number (CASE s)) size).1 (le, I, io, (CASE s, put I.config x F (substitute_both v₁ v₂ e), case_both F s t v₁ v₂ e w w' p, lim, refl, z)),
)

-- a subject of another kind
module _ (C : Config) (x : ℕ) (F : Context) (e : Exp) where
  at_subject : (s : Shape) {v : Exp} (w : Value v) → Has C x F (case_of s v e) → step_of C x ≡ step_case C x F s w e
  unfolding step_of step_place step_redex
  at_subject s w h = rw (h, place_meet F (subject {s = s} {e = e} w) (λ n. elim n [ ]))

  is_wrong : (s : Shape) {v : Exp} → Has C x F (case_of s v e) → OtherKind C s v → step_of C x ≡ wrong_kind
  unfolding step_case step_subject
  is_wrong s h other_constant = at_subject s is_const h
  is_wrong s h other_lambda = at_subject s is_lam h
  is_wrong s h (other_exch w) = at_subject s (is_exch w) h
  is_wrong pair h (other_shape {s' = pair} n w w') = absurd (n refl)
  is_wrong pair h (other_shape {s' = list} n w w') = at_subject pair (is_both w w') h
  is_wrong list h (other_shape {s' = pair} n w w') = at_subject list (is_both w w') h
  is_wrong list h (other_shape {s' = list} n w w') = absurd (n refl)
  is_wrong s h (other_cell g) = at_subject s is_name h ∙ rw g
  is_wrong s h (other_handle g) = at_subject s is_name h ∙ rw g
  is_wrong s h (other_used g) = at_subject s is_name h ∙ rw g

pairs_and_lists : PairsAndLists
unfolding bytes both_tag case_tag scoped substitute place within
pairs_and_lists = record {
  adds = (refl, refl, refl, refl);
  all_kinds = λ R k x g. kind_small (R.each k x g);
  all_forms = all_told;
  fig_10_pair = λ Γ t e₁ e₂ κ α β. (λ d. pair_rule d, λ (p, h, h', (Γ₁, Γ₂, s, d, d')). d_both p (fig10_pair h h') s d d');
  fig_10_front = λ Γ t e₁ e₂ κ α. (λ d. front_rule d, λ (p, h, (Γ₁, Γ₂, s, d, d')). d_both p (fig10_list h) s d d');
  fig_10_case_pair = λ Γ e₁ e₂ γ. (λ d. case_pair_rule d, λ (κ, α, β, h, h', (Γ₁, Γ₂, s, d, d')). d_case (fig10_pair h h') s d d');
  fig_10_case_list = λ Γ e₁ e₂ β. (λ d. case_list_rule d, λ (κ, α, h, (Γ₁, Γ₂, s, d, d')). d_case (fig10_list h) s d d');
  pairs = λ R κ k p q g. pair_said R κ k p q g;
  lists = λ R κ k p q g. list_said R κ k p q g;
  multiplicities = λ κ α β. (refl, refl);
  contents = λ R k γ e. formed R γ (view R e);
  refused_4 = λ file laid b. answers_4 file laid (broken_4 file b);
  fronts = λ t e₁ e₂. (refl, refl);
  cases = λ e₁ e₂. (refl, refl);
  variables = λ types names depth s e₁ e₂. refl;
  index_0 = λ v₁ v₂. refl;
  index_1 = λ v₁ v₂ c. unchanged 0 v₂ c (omega arith);
  ends = λ s w d. list_ends s w d;
  no_once = λ s w d. no_once_list s w d;
  values = λ s t e₁ e₂. (both_values s t e₁ e₂, λ (w, w'). is_both w w');
  left_first = λ s t e₁ e₂ F r d p. rw p refl;
  right_then = λ s t v e₂ w F r d p. rw (place_value w, p) refl;
  rule_8 = takes_apart pair;
  rule_9 = takes_apart list;
  waits = λ image b I io x y out le F s e h u. (((second_demand common).step image b x out).waiting y).1 (le, I, io, (to_case F s e h, u));
  follows = λ C x y F s w e v h g. future_deref_case F s y w e v h g;
  other_kind = λ image b I io x out le F s v e h o.
      ((second_demand common).step image b x out).seventeen.1 (le, I, io, (wrong_kind_iff I.config x (λ f g. io.rule.bound x (thread_of f) g)).0 (is_wrong I.config x F e s h o));
  refusal_7 = λ R es. (verdict_means R es).0;
  refusal_8 = λ R es. (verdict_means R es).1;
  refusal_9 = λ R es. (verdict_means R es).2;
  refusal_10 = λ R es. (verdict_means R es).3;
  no_pair = λ R t. pair_is_told R t;
  no_list = λ R t. list_is_told R t;
  kinds_before = λ file laid d k x g l. answers_4 file laid (kind_4 file d k x g l);
  forms_before = λ file b d. parts_old file b d;
  refused_5 = λ file b laid c d bay l n. answers_5 file laid c (no_old_5 file b d bay l n);
  acceptance = (second_demand common).accepted;
  nine = in_nine;
  each_number = all_nine;
  one_rule = one_number;
  moves = rule_iff;
  guarantee = third_demand;
}
