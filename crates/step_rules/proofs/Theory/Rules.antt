-- The nine rules: what each makes of the image in bytes is what it makes of the configuration.
use Rattle.std.proofs.Common.{◌∙◌, ap₂, subst, append_assoc, append-nil, arith, length-set}
use Rattle.std.specs.Prelude.{◌≡◌, refl, cond, List, [], ◌++◌, ◌∷◌, ℕ, ◌+◌, ◌-◌, ◌≤◌, eqb, length, set}
use Rattle.std.proofs.Math.Path.{ap, sym}
use Rattle.std.proofs.Math.Option.{some}
use Rattle.image.proofs.Theory.Exactly.{length_config}
use Rattle.calculus.proofs.Theory.Configurations.{sum_append, sum_set, sum_part}
use Rattle.calculus.specs.Syntax.{unit, op, cell, exch, thread, handle, Exp, name, const, lam, app, case_of, Shape, pair, list, Value, is_name, is_const, is_lam, is_exch, is_both, Component, thread_of, holds, open_for, used, awaited, Config, at, sum_in, sum_all}
use Rattle.calculus.specs.Reduction.{substitute, substitute_both, Context, plug, put, HANDLE_NEW}
use Rattle.calculus.specs.Names.{count}
use Rattle.calculus.specs.Step.{application, Redex, rule, step_redex, step_meeting, step_call, step_case, step_exchange, step_subject, subject, when_done}
use Rattle.calculus.specs.Image.{Closed, closed_lam, nodes, nodes_all, size, const_size}
use Rattle.calculus.proofs.Theory.Tests.{clash}
use Rattle.calculus.proofs.Theory.Lists.{set_other}
use Rattle.calculus.proofs.Theory.Places.{place_value}
use Rattle.term.specs.Expressions.{bytes, case_tag, const_bytes, op_tag, TermAt, term_at}
use Rattle.term.proofs.Expressions.{found_at}
use Rattle.image_layout.specs.Encoded.{Encoded, image_bytes}
use Rattle.image_layout.specs.Slice.{names, offset_at, length_at, encoded_at}
use Rattle.image.specs.Configuration.{encode, config_of, image_of}
use Rattle.image.specs.Holding.{thread_holding, cell_holding}
use Rattle.term_redex.specs.declared.Meeting.{Meeting}
use Rattle.term_redex.proofs.Contexts.{closed_components, closed_parts, closed_subject, components_stand, plug_closed, put_nodes}
use Rattle.step_rules.specs.declared.Move.{Move}
use Rattle.step_rules.specs.declared.Move.TheVariants.{Beta, ThreadNew, HandleNew, HandleBind, CellNew}
use Rattle.step_rules.specs.Positions.{name_length, to_body, to_component}
use Rattle.step_rules.specs.Effects.{rule_of, bytes_between, argument_bytes, name_bytes, Effect, Unowned, carried_of, effect_of, nothing, taken_apart}
use Rattle.step_rules.specs.Moves.{look_up, from_name, owner_after, other_after, names_after, image_after, nodes_after}
use Rattle.step_rules.specs.Stepped.{Carries, Components, Counted, Copied, Has, Stepped}
use Rattle.step_rules.specs.Meets.{step_at, dereferenced, exchanged, MeetsAt, taking}
use Rattle.step_rules.proofs.Theory.Reading.{below, rules, Stands, thread_stands, cell_stands}
use Rattle.step_rules.proofs.Theory.Changes.{Table, table_set, table_more, swap}
use Rattle.step_rules.proofs.Theory.Meeting.{between_front, between_term, body_stands, table_start, argument_is, components_are}
use Rattle.step_rules.proofs.Theory.Carrying.{alone, still, together}
use Rattle.step_rules.proofs.Theory.Writers.{counted, thread_below, few, few_all, movable}

-- a step by a move, from the parts that are the move's own: what comes in place of the redex, the table of the components, the nodes
module _ {s : List ℕ} {x : ℕ} {m : Meeting} {F : Context} {r : Exp} {d : Redex r} (M : MeetsAt s x m F d) where
  stepped : (by : Move) (e : Exp) (C : Config) (size : ℕ) (g : ℕ → Encoded)
      → step_redex (config_of s) x F d ≡ rule (rule_of by) C
      → (effect_of s m by).redex ≡ bytes e
      → Table (owner_after s x) C size g → size ≡ names_after s (step_at x m by)
      → ((k : ℕ) → g k ≡ cond (eqb k x) (encode (thread_of (plug F e)) (owner_after s x k)) (other_after s (step_at x m by) k))
      → nodes_all C ≡ nodes_after (nodes_all (config_of s)) s (step_at x m by)
      → Carries s x (step_at x m by) C
      → Has s m by
      → Stepped s x (step_at x m by)
  unfolding image_after image_of
  stepped by e C size g step redex table names each count carries has =
      let are = components_are M by e redex C size g table names each in
      record {
        outcome = C;
        steps = M.steps ∙ step;
        written = ap image_bytes are;
        counted = count;
        named = table.size ∙ names;
        carries = carries;
        movable = movable M by has;
      }

  -- the nodes of a configuration whose thread x has e in the place of the application or case
  nodes_put : (e : Exp) → nodes_all (put (config_of s) x F e) + nodes r ≡ nodes_all (config_of s) + nodes e
  nodes_put e = put_nodes (config_of s) x F r M.thread e

  -- the thread's component after a step
  abbrev thread_after : Exp → ℕ → Encoded
  thread_after e k = encode (thread_of (plug F e)) (owner_after s x k)

  table_put : (e : Exp) → Table (owner_after s x) (put (config_of s) x F e) (names s) (λ i. cond (eqb i x) (thread_after e i) (encoded_at s i))
  table_put e = table_set x (thread_of (plug F e)) (table_start M)

  -- the thread's component changes, and no more
  carries_put : (by : Move) → carried_of s x m by ≡ nothing x → (e : Exp) → Carries s x (step_at x m by) (put (config_of s) x F e)
  carries_put by none e = alone M by none e [] _ (sym (append-nil (put (config_of s) x F e)))

  new_name : length (config_of s) ≡ names s
  new_name = length_config s

-- what meets has its variables bound in it
closed_there : {s : List ℕ} {x : ℕ} {m : Meeting} {F : Context} {r : Exp} {d : Redex r} → MeetsAt s x m F d → Closed 0 r
closed_there {s} {x} {m} {F} {r} M = plug_closed F r ((rules s M.in_bytes M.stands).bound x (thread_of (plug F r)) M.thread)

closed_body : {t : ℕ} {e : Exp} → Closed 0 (lam t e) → Closed 1 e
closed_body (closed_lam c) = c

-- rule 1
pub beta_moves : {s : List ℕ} {x t : ℕ} {m : Meeting} {F : Context} {e v : Exp} {u : Value v} → MeetsAt s x m F (application (is_lam {t = t} {e = e}) u) → Stepped s x (step_at x m Beta)
unfolding step_redex step_meeting effect_of carried_of other_after look_up from_name names_after nodes_after nodes size
beta_moves {s} {x} {t} {m} {F} {e} {v} M =
    let body : TermAt s (m.at + to_body) e = subst (λ k. TermAt s k e) (omega arith) (body_stands M.placed.first) in
    let p : term_at s m.second ≡ v = (found_at M.placed.second).term in
    let q : term_at s (m.at + to_body) ≡ e = (found_at body).term in
    stepped M Beta (substitute 0 v e) _ (names s) _ refl
    (ap₂ (λ a c. bytes (substitute 0 a c)) p q)
    (table_put M (substitute 0 v e)) (omega arith) (λ k. refl)
    (rw (p, q) (omega (arith, nodes_put M (substitute 0 v e))))
    (carries_put M Beta refl (substitute 0 v e))
    (record { body = counted body (omega (arith, few M)); body_ends = omega (arith, M.placed.second_at, (found_at body).ends); body_closed = rw q (closed_body (closed_parts (closed_there M)).0) })

-- rules 2, 4 and 6: new names. The thread is none of them.
not_new : {s : List ℕ} {x : ℕ} {m : Meeting} {F : Context} {r : Exp} {d : Redex r} → MeetsAt s x m F d → (k : ℕ) → names s ≤ k → ¬ (x ≡ k)
not_new M k l e = omega (arith, thread_below M)

-- rule 2
pub thread_moves : {s : List ℕ} {x t : ℕ} {m : Meeting} {F : Context} {v : Exp} {u : Value v} → MeetsAt s x m F (application (is_const {c = op thread t}) u) → Stepped s x (step_at x m ThreadNew)
unfolding step_redex step_meeting effect_of carried_of other_after look_up from_name names_after nodes_after nodes sum_all sum_in bytes encode
thread_moves {s} {x} {t} {m} {F} {v} M =
    let C = config_of s in
    let new = thread_of (app v (name (length C))) in
    let z : length C ≡ names s = new_name M in
    let e = name (length C) in
    let c : encode new ≡ thread_holding (2 ∷ (argument_bytes s m ++ name_bytes (names s))) =
    ap₂ (λ (p : List ℕ) (k : ℕ). thread_holding (2 ∷ (p ++ name_bytes k))) (sym (argument_is M)) z in
    stepped M ThreadNew e _ (names s + 1) _ refl
    (ap name_bytes (sym z))
    (table_more new (table_put M e)) (omega arith)
    (λ k. swap k x (names s) (thread_after M e k) (encode new (owner_after s x k)) (encoded_at s k) (not_new M (names s) (omega arith))
    ∙ ap (λ (d : Unowned). cond (eqb k x) (thread_after M e k) (cond (eqb k (names s)) (d (owner_after s x k)) (encoded_at s k))) c)
    (omega (arith, sum_append (sum_in nodes) (put C x F e) (new ∷ []), nodes_put M e))
    (alone M ThreadNew refl e (new ∷ []) _ refl)
    tt

-- rule 4
pub handle_moves : {s : List ℕ} {x t : ℕ} {m : Meeting} {F : Context} {v : Exp} {u : Value v} → MeetsAt s x m F (application (is_const {c = op handle t}) u) → Stepped s x (step_at x m HandleNew)
unfolding step_redex step_meeting effect_of carried_of other_after look_up from_name names_after nodes_after nodes sum_all sum_in bytes encode
handle_moves {s} {x} {t} {m} {F} {v} M =
    let C = config_of s in
    let z : length C ≡ names s = new_name M in
    let e = app (app v (name (length C))) (name (length C + 1)) in
    let C₁ = put C x F e ++ (awaited ∷ []) in
    stepped M HandleNew e (C₁ ++ (open_for (length C) ∷ [])) (names s + 1 + 1) _
    (ap (rule HANDLE_NEW) (sym (append_assoc (put C x F e) (awaited ∷ []) (open_for (length C) ∷ []))))
    (ap₂ (λ (p : List ℕ) (k : ℕ). 2 ∷ 2 ∷ (p ++ name_bytes k ++ name_bytes (k + 1))) (argument_is M) (sym z))
    (table_more (open_for (length C)) (table_more awaited (table_put M e))) (omega arith)
    (λ k. let old = encoded_at s k in let o = owner_after s x k in let t = thread_after M e k in let f = encode awaited o in let h = encode (open_for (length C)) o in
    swap k (names s) (names s + 1) f h (cond (eqb k x) t old) (omega arith)
    ∙ ap (λ r. cond (eqb k (names s)) f r) (swap k x (names s + 1) t h old (not_new M (names s + 1) (omega arith)))
    ∙ swap k x (names s) t f (cond (eqb k (names s + 1)) h old) (not_new M (names s) (omega arith))
    ∙ ap (λ j. cond (eqb k x) t (cond (eqb k (names s)) f (cond (eqb k (names s + 1)) (encode (open_for j) o) old))) z)
    (omega (arith, sum_append (sum_in nodes) C₁ (open_for (length C) ∷ []), sum_append (sum_in nodes) (put C x F e) (awaited ∷ []), nodes_put M e))
    (alone M HandleNew refl e (awaited ∷ open_for (length C) ∷ []) _ (append_assoc (put C x F e) (awaited ∷ []) (open_for (length C) ∷ [])))
    tt

-- rule 6
pub cell_moves : {s : List ℕ} {x t : ℕ} {m : Meeting} {F : Context} {v : Exp} {u : Value v} → MeetsAt s x m F (application (is_const {c = op cell t}) u) → Stepped s x (step_at x m CellNew)
unfolding step_redex step_meeting effect_of carried_of other_after look_up from_name names_after nodes_after nodes sum_all sum_in bytes encode
cell_moves {s} {x} {t} {m} {F} {v} M =
    let C = config_of s in
    let z : length C ≡ names s = new_name M in
    let e = name (length C) in
    stepped M CellNew e _ (names s + 1) _ refl
    (ap name_bytes (sym z))
    (table_more (holds v) (table_put M e)) (omega arith)
    (λ k. let o = owner_after s x k in
    swap k x (names s) (thread_after M e k) (encode (holds v) o) (encoded_at s k) (not_new M (names s) (omega arith))
    ∙ ap (λ p. cond (eqb k x) (thread_after M e k) (cond (eqb k (names s)) (cell_holding p o) (encoded_at s k))) (sym (argument_is M)))
    (omega (arith, sum_append (sum_in nodes) (put C x F e) (holds v ∷ []), nodes_put M e))
    (alone M CellNew refl e (holds v ∷ []) _ refl)
    tt

-- rules 3, 5 and 7: the name at the place is a name of the image
module _ {s : List ℕ} {x : ℕ} {m : Meeting} {F : Context} {r : Exp} {d : Redex r} (M : MeetsAt s x m F d) where
  -- one of another component than the thread's is another name
  other : (y : ℕ) {c : Component} → at (config_of s) y ≡ some c → ¬ (thread_of (plug F r) ≡ c) → ¬ (x ≡ y)
  other y h n e = let p = M.thread in let q = ap (at (config_of s)) e in n (cc)

  -- an expression that is copied, whole
  copied_is : (y : ℕ) {e : Exp} (h : Stands s y e) → bytes_between s (offset_at s y) (offset_at s y + length_at s y) ≡ bytes e
  copied_is y h = between_term _ h.term (omega (arith, h.long))

  copied : {y : ℕ} {e : Exp} → Stands s y e → Copied s (offset_at s y) (offset_at s y + length_at s y)
  copied h = record { onward = omega arith; inside = h.inside }

  counted_value : {y : ℕ} {e : Exp} → at (config_of s) y ≡ some (thread_of e) → Stands s y e → Counted s (offset_at s y)
  unfolding sum_in
  counted_value {y} h q = counted q.term (omega (arith, sum_part (sum_in nodes) (config_of s) y h, few_all M))

-- rule 3, at the function of an application
pub deref_moves : {s : List ℕ} {x y : ℕ} {m : Meeting} {F : Context} {v : Exp} {u : Value v} → MeetsAt s x m F (application (is_name {k = y}) u) → (e : Exp) → at (config_of s) y ≡ some (thread_of e) → Value e
    → Stepped s x (step_at x m (dereferenced s y))
unfolding step_redex step_meeting step_call when_done effect_of carried_of other_after look_up from_name names_after nodes_after nodes size bytes
deref_moves {s} {x} {y} {m} {F} {v} M e h u =
    let q = thread_stands s M.in_bytes M.stands y e h in
    let a : bytes_between s m.at (m.second - name_length) ≡ 2 ∷ [] =
    between_front s m.at (m.second - name_length) (2 ∷ []) _ M.placed.redex.stands (omega (arith, M.placed.second_at)) in
    let p : term_at s (offset_at s y) ≡ e = (found_at q.term).term in
    stepped M (dereferenced s y) (app e v) (put (config_of s) x F (app e v)) (names s) _
    (rw (h, place_value u) refl)
    (ap₂ (λ (i j : List ℕ). i ++ j) (ap₂ (λ (i j : List ℕ). i ++ j) a (copied_is M y q)) (argument_is M))
    (table_put M (app e v)) (omega arith) (λ k. refl)
    (rw p (omega (arith, nodes_put M (app e v))))
    (carries_put M (dereferenced s y) refl (app e v))
    (counted_value M h q, copied M q)

-- rule 3, at the first argument of a full exch
pub deref_exch_moves : {s : List ℕ} {x y t : ℕ} {m : Meeting} {F : Context} {v : Exp} {u : Value v} → MeetsAt s x m F (application (is_exch {t = t} (is_name {k = y})) u) → (e : Exp)
    → at (config_of s) y ≡ some (thread_of e) → Value e → Stepped s x (step_at x m (dereferenced s y))
unfolding step_redex step_meeting step_exchange when_done effect_of carried_of other_after look_up from_name names_after nodes_after nodes size const_size bytes const_bytes op_tag
deref_exch_moves {s} {x} {y} {t} {m} {F} {v} M e h u =
    let q = thread_stands s M.in_bytes M.stands y e h in
    let a : bytes_between s m.at (m.second - name_length) ≡ 2 ∷ 2 ∷ 6 ∷ t ∷ [] =
    between_front s m.at (m.second - name_length) (2 ∷ 2 ∷ 6 ∷ t ∷ []) _ M.placed.redex.stands (omega (arith, M.placed.second_at)) in
    let p : term_at s (offset_at s y) ≡ e = (found_at q.term).term in
    let r = app (app (const (op exch t)) e) v in
    stepped M (dereferenced s y) r (put (config_of s) x F r) (names s) _
    (rw (h, place_value u) refl)
    (ap₂ (λ (i j : List ℕ). i ++ j) (ap₂ (λ (i j : List ℕ). i ++ j) a (copied_is M y q)) (argument_is M))
    (table_put M r) (omega arith) (λ k. refl)
    (rw p (omega (arith, nodes_put M r)))
    (carries_put M (dereferenced s y) refl r)
    (counted_value M h q, copied M q)

-- rule 5
pub bind_moves : {s : List ℕ} {x z : ℕ} {m : Meeting} {F : Context} {v : Exp} {u : Value v} → MeetsAt s x m F (application (is_name {k = z}) u) → (y : ℕ) → at (config_of s) z ≡ some (open_for y)
    → Stepped s x (step_at x m (HandleBind z y))
unfolding step_redex step_meeting step_call effect_of carried_of other_after look_up from_name names_after nodes_after nodes sum_in bytes const_bytes encode
bind_moves {s} {x} {z} {m} {F} {v} M y h =
    let C = config_of s in
    let g : at C y ≡ some awaited = (rules s M.in_bytes M.stands).companions z y h in
    let e = const unit in
    let xz = other M z h (λ p. clash (cc)) in
    let xy = other M y g (λ p. clash (cc)) in
    let yz : ¬ (y ≡ z) = λ p. let q = ap (at C) p in clash (cc) in
    let C₁ = put C x F e in
    let C₂ = set C₁ y (thread_of v) in
    let g₁ : at C₁ y ≡ some awaited = set_other C x y (thread_of (plug F e)) (λ p. xy (sym p)) ∙ g in
    let h₂ : at C₂ z ≡ some (open_for y) = set_other C₁ y z (thread_of v) (λ p. yz (sym p)) ∙ set_other C x z (thread_of (plug F e)) (λ p. xz (sym p)) ∙ h in
    let long : length C₂ ≡ length C = length-set C₁ y (thread_of v) ∙ length-set C x (thread_of (plug F e)) in
    let after = still M C₂ z used h₂ long refl refl in
    stepped M (HandleBind z y) e (set C₂ z used) (names s) _
    (rw h refl) refl
    (table_set z used (table_set y (thread_of v) (table_put M e))) (omega arith)
    (λ k. let old = encoded_at s k in let o = owner_after s x k in let t = thread_after M e k in let u = encode used o in let b = encode (thread_of v) o in
    ap (λ r. cond (eqb k z) u r) (swap k x y t b old xy)
    ∙ swap k x z t u (cond (eqb k y) b old) xz
    ∙ ap (λ p. cond (eqb k x) t (cond (eqb k z) u (cond (eqb k y) (thread_holding p o) old))) (sym (argument_is M)))
    (omega (arith, sum_set (sum_in nodes) C₂ z used h₂, sum_set (sum_in nodes) C₁ y (thread_of v) g₁, nodes_put M e))
    (together M (HandleBind z y) e y (thread_of v) g₁ (rw (found_at M.placed.second).term refl) (below s M.in_bytes M.stands y g) (set C₂ z used)
    (length-set C₂ z used ∙ long) after.0 after.1)
    tt

-- rule 7
pub exchange_moves : {s : List ℕ} {x y t : ℕ} {m : Meeting} {F : Context} {v : Exp} {u : Value v} → MeetsAt s x m F (application (is_exch {t = t} (is_name {k = y})) u) → (e : Exp)
    → at (config_of s) y ≡ some (holds e) → Stepped s x (step_at x m (exchanged s y))
unfolding step_redex step_meeting step_exchange effect_of carried_of other_after look_up from_name names_after nodes_after nodes sum_in encode
exchange_moves {s} {x} {y} {t} {m} {F} {v} M e h =
    let C = config_of s in
    let q = cell_stands s M.in_bytes M.stands y e h in
    let xy = other M y h (λ p. clash (cc)) in
    let h₁ : at (put C x F e) y ≡ some (holds e) = set_other C x y (thread_of (plug F e)) (λ p. xy (sym p)) ∙ h in
    stepped M (exchanged s y) e (set (put C x F e) y (holds v)) (names s) _
    (rw h refl) (copied_is M y q)
    (table_set y (holds v) (table_put M e)) (omega arith)
    (λ k. let o = owner_after s x k in
    swap k x y (thread_after M e k) (encode (holds v) o) (encoded_at s k) xy
    ∙ ap (λ p. cond (eqb k x) (thread_after M e k) (cond (eqb k y) (cell_holding p o) (encoded_at s k))) (sym (argument_is M)))
    (omega (arith, sum_set (sum_in nodes) (put C x F e) y (holds v) h₁, nodes_put M e))
    (together M (exchanged s y) e y (holds v) h₁ (rw ((found_at M.placed.second).term, (found_at q.term).term) refl) (below s M.in_bytes M.stands y h) (set (put C x F e) y (holds v))
    (length-set (put C x F e) y (holds v) ∙ length-set C x (thread_of (plug F e))) refl (λ k. refl))
    (counted q.term (omega (arith, sum_part (sum_in nodes) C y h, few_all M)), copied M q)

-- rule 3, at the subject of a case
pub deref_case_moves : {s : List ℕ} {x y : ℕ} {m : Meeting} {F : Context} {shape : Shape} {b : Exp} → MeetsAt s x m F (subject {s = shape} {e = b} (is_name {k = y})) → (e : Exp)
    → at (config_of s) y ≡ some (thread_of e) → Value e → Stepped s x (step_at x m (dereferenced s y))
unfolding step_redex step_case step_subject when_done effect_of carried_of other_after look_up from_name names_after nodes_after nodes size bytes
deref_case_moves {s} {x} {y} {m} {F} {shape} {b} M e h u =
    let q = thread_stands s M.in_bytes M.stands y e h in
    let a : bytes_between s m.at (m.second - name_length) ≡ case_tag shape ∷ [] =
    between_front s m.at (m.second - name_length) (case_tag shape ∷ []) _ M.placed.redex.stands (omega (arith, M.placed.second_at)) in
    let p : term_at s (offset_at s y) ≡ e = (found_at q.term).term in
    let r = case_of shape e b in
    stepped M (dereferenced s y) r (put (config_of s) x F r) (names s) _
    (rw (h, place_value u) refl)
    (ap₂ (λ (i j : List ℕ). i ++ j) (ap₂ (λ (i j : List ℕ). i ++ j) a (copied_is M y q)) (argument_is M))
    (table_put M r) (omega arith) (λ k. refl)
    (rw p (omega (arith, nodes_put M r)))
    (carries_put M (dereferenced s y) refl r)
    (counted_value M h q, copied M q)

-- rules 8 and 9: the components stand one after the other, and the body after them
module _ {s : List ℕ} {x t : ℕ} {m : Meeting} {F : Context} {shape : Shape} {v₁ v₂ e : Exp} {u : Value v₁} {u' : Value v₂}
    (M : MeetsAt s x m F (subject {s = shape} {e = e} (is_both {s = shape} {t = t} u u'))) where
  first_stands : TermAt s (m.at + to_component) v₁
  first_stands = subst (λ k. TermAt s k v₁) (omega arith) (components_stand M.placed.first).first

  second_stands : TermAt s (m.at + to_component + size v₁) v₂
  second_stands = subst (λ k. TermAt s k v₂) (omega arith) (components_stand M.placed.first).second

  first_is_closed : Closed 0 v₁
  first_is_closed = (closed_components (closed_subject (closed_there M)).0).0

  components : (rest : ℕ) → rest ≡ m.at + to_component + size v₁ → Components s m rest
  unfolding nodes
  components rest is = rw is record {
    first = counted first_stands (omega (arith, few M));
    first_ends = sym (found_at first_stands).ends;
    first_closed = rw (found_at first_stands).term first_is_closed;
    second = counted second_stands (omega (arith, few M));
    second_ends = omega (arith, M.placed.second_at, (components_stand M.placed.first).ends, (found_at second_stands).ends);
  }

  taken : (rest : ℕ) → rest ≡ m.at + to_component + size v₁ → (by : Move) → effect_of s m by ≡ taken_apart s m rest → carried_of s x m by ≡ nothing x →
      step_redex (config_of s) x F (subject {s = shape} {e = e} (is_both {s = shape} {t = t} u u')) ≡ rule (rule_of by) (put (config_of s) x F (substitute_both v₁ v₂ e)) →
      Has s m by → Stepped s x (step_at x m by)
  unfolding taken_apart other_after look_up from_name names_after nodes_after nodes
  taken rest is by effect none moves has =
      let p : term_at s (m.at + to_component) ≡ v₁ = (found_at first_stands).term in
      let q : term_at s rest ≡ v₂ = rw is (found_at second_stands).term in
      let b : term_at s m.second ≡ e = (found_at M.placed.second).term in
      let outcome = substitute_both v₁ v₂ e in
      stepped M by outcome (put (config_of s) x F outcome) (names s) _ moves
      (ap (λ (i : Effect). i.redex) effect ∙ rw (p, q, b) refl)
      (table_put M outcome) (rw effect (omega arith)) (λ k. rw effect refl)
      (rw (effect, p, q, b) (omega (arith, nodes_put M outcome)))
      (carries_put M by none outcome)
      has

pub case_moves : {s : List ℕ} {x t : ℕ} {m : Meeting} {F : Context} (shape : Shape) {v₁ v₂ e : Exp} {u : Value v₁} {u' : Value v₂} →
    MeetsAt s x m F (subject {s = shape} {e = e} (is_both {s = shape} {t = t} u u')) → (rest : ℕ) → rest ≡ m.at + to_component + size v₁ →
    Stepped s x (step_at x m (taking shape rest))
unfolding step_redex step_case effect_of carried_of
case_moves pair M rest is = taken M rest is (taking pair rest) refl refl refl (components M rest is)
case_moves list M rest is = taken M rest is (taking list rest) refl refl refl (components M rest is)
