-- The node where values meet, the function of an application and the subject of a case, by their tags.
use mathlib.Core.Path.{◌∙◌, ◌≡◌, ap, refl, subst, sym}
use mathlib.Core.List.{List, ◌++◌}
use Prim.Native.Nat.{ℕ, ◌+◌, ◌≤◌, ◌<◌}
use native.Mathlib.Omega.{arith}
use lib.ListN.{drop, get_or, length, length-append, length-drop}
use lib.Seq.{get_or-drop}
use Rattle.calculus.specs.Bytes.{Bytes}
use Rattle.calculus.specs.Syntax.{Const, unit, num, op, cell, exch, thread, handle, Exp, Shape, pair, list, Value, is_name, is_const, is_lam, is_exch, is_both}
use Rattle.calculus.specs.Reduction.{Context}
use Rattle.calculus.specs.Step.{application, Redex, subject, wrong_kind, step_of, step_redex, step_meeting, step_case}
use Rattle.calculus.specs.Image.{const_size, size}
use Rattle.term.specs.Forms.{lambda_tag, application_tag, unit_tag, num_tag, cell_tag, exch_tag, thread_tag, handle_tag, name_tag, pair_tag, list_tag, case_pair_tag, case_list_tag}
use Rattle.term.specs.Expressions.{both_tag, bytes, case_tag, const_bytes, op_tag, TermAt}
use Rattle.term.proofs.Sizes.{length_bytes}
use Rattle.image.specs.Configuration.{config_of}
use Rattle.term_redex.specs.declared.Meeting.{Meeting}
use Rattle.term_redex.specs.Places.{first_part}
use Rattle.term_redex.proofs.Contexts.{components_stand}
use Rattle.term.specs.Reader.{end_at, GoodAt}
use Rattle.term.proofs.Expressions.{found_at}
use Rattle.step_rules.specs.Positions.{application_length, case_length, to_called, to_component, to_exchanged, to_exchanged_name, to_subject_name}
use Rattle.step_rules.specs.Meets.{Deciding, MeetsAt, step_at}
use Rattle.step_rules.specs.declared.Move.TheVariants.{Beta, ThreadNew, HandleNew, CellNew, CasePair, CaseList}
use Rattle.step_rules.specs.Stepped.{Stepped}
use Rattle.step_rules.proofs.Theory.Rules.{beta_moves, case_moves, thread_moves, handle_moves, cell_moves}
use Rattle.step_rules.proofs.Theory.Found.{FoundMeeting, found_meets}
use Rattle.step_rules.proofs.Theory.Writers.{size_positive}
use Rattle.step_decide.specs.Asked.{Applies, Calls, Exchanges, ExchangesName, TakesApart, TakesBoth, TakesName}

-- the bytes of a term that stands at a position
byte_there : {l : List ℕ} {at : ℕ} {e : Exp} → TermAt l at e → (i : ℕ) → get_or l (at + i) 0 ≡ get_or (bytes e ++ drop (at + size e) l) i 0
byte_there {l} {at} t i = sym (get_or-drop at l i 0) ∙ ap (λ k. get_or k i 0) t.stands

room : {l : List ℕ} {at : ℕ} {e : Exp} → TermAt l at e → at + size e ≤ length l
room {l} {at} {e} t =
    omega (arith, t.inside, ap length t.stands, length-drop at l, length-append (bytes e) (drop (at + size e) l), length_bytes e)

-- the tag of a case is no application's
case_no_application : (shape : Shape) → ¬ (case_tag shape ≡ application_tag)
unfolding case_tag
case_no_application pair e = omega arith
case_no_application list e = omega arith

-- The node where values meet

-- an application, or a case
data At (s : List ℕ) (x : ℕ) (m : Meeting) : ℕ → Type 0 where
  at_application : Applies s x m → At s x m application_tag
  at_case : (shape : Shape) → TakesApart s x m → At s x m (case_tag shape)

module _ {s : List ℕ} {x : ℕ} {m : Meeting} where
  at_redex : {F : Context} {r : Exp} (d : Redex r) → MeetsAt s x m F d → At s x m (get_or s (m.at + 0) 0)
  unfolding bytes
  at_redex {F} (application {f = f} {v = v} w u) M =
      rw (byte_there M.placed.redex 0) (at_application (record { context = F; function = f; function_value = w; argument = v; argument_value = u; meets = M }))
  at_redex {F} (subject {s = shape} {v = v} {e = e} w) M =
      rw (byte_there M.placed.redex 0) (at_case shape (record { context = F; shape = shape; taken = v; taken_value = w; body = e; meets = M }))

  module _ (b : Bytes s) (d : Deciding s x m) where
    found : FoundMeeting s x m
    found = found_meets b d

    -- it is inside
    pub node_inside : m.at < length s
    node_inside = omega (arith, found.meets.placed.second_at, room found.meets.placed.first, size_positive (first_part found.is_redex))

    found_at_redex : At s x m (get_or s m.at 0)
    found_at_redex = let z : m.at + 0 ≡ m.at = omega arith in subst (λ k. At s x m (get_or s k 0)) z (at_redex found.is_redex found.meets)

    pub node_application : get_or s m.at 0 ≡ application_tag → Applies s x m
    node_application = go found_at_redex
      where
        go : {tag : ℕ} → At s x m tag → tag ≡ application_tag → Applies s x m
        go (at_application a) e = a
        go (at_case shape t) e = absurd (case_no_application shape e)

    pub node_case : ¬ (get_or s m.at 0 ≡ application_tag) → TakesApart s x m
    node_case = go found_at_redex
      where
        go : {tag : ℕ} → At s x m tag → ¬ (tag ≡ application_tag) → TakesApart s x m
        go (at_application a) n = absurd (n refl)
        go (at_case shape t) n = t

-- The function of an application

-- a tag that the decision does not ask for
abbrev pub OtherTag : ℕ → Type 0
OtherTag t = (((((Unit {0} × ¬ (t ≡ name_tag)) × ¬ (t ≡ application_tag)) × ¬ (t ≡ lambda_tag)) × ¬ (t ≡ cell_tag)) × ¬ (t ≡ thread_tag)) × ¬ (t ≡ handle_tag)

-- what the tag says of the function: a name, exch applied to a value, a lambda, a constant that goes, and any other value
data Root (s : List ℕ) (x : ℕ) (m : Meeting) : ℕ → Type 0 where
  root_name : m.at + to_called < length s → Calls s x m (get_or s (m.at + to_called) 0) → Root s x m name_tag
  root_exch : Exchanges s x m → Root s x m application_tag
  root_lambda : Stepped s x (step_at x m Beta) → Root s x m lambda_tag
  root_cell : Stepped s x (step_at x m CellNew) → Root s x m cell_tag
  root_thread : Stepped s x (step_at x m ThreadNew) → Root s x m thread_tag
  root_handle : Stepped s x (step_at x m HandleNew) → Root s x m handle_tag
  root_other : {tag : ℕ} → OtherTag tag → step_of (config_of s) x ≡ wrong_kind → Root s x m tag

-- the tags of pairs and list fronts are others
both_other : (shape : Shape) → OtherTag (both_tag shape)
unfolding both_tag
both_other pair = omega arith
both_other list = omega arith

root : {s : List ℕ} {x : ℕ} {m : Meeting} {F : Context} {f : Exp} (w : Value f) {v : Exp} (u : Value v) → MeetsAt s x m F (application w u) →
    Root s x m (get_or s (m.at + application_length) 0)
unfolding bytes const_bytes op_tag size const_size step_redex step_meeting
root {s} {x} {m} {F} (is_name {k = k}) {v} u M =
    let t = M.placed.redex in
    let k_is : get_or s (m.at + to_called) 0 ≡ k = byte_there t to_called in
    rw (byte_there t application_length) (root_name (omega (arith, room t)) (rw k_is (record { context = F; argument = v; argument_value = u; meets = M })))
root {s} {x} {m} {F} (is_exch {t = t} {v = g} w) {v} u M =
    rw (byte_there M.placed.redex application_length)
    (root_exch (record { context = F; constant = t; first = g; first_value = w; argument = v; argument_value = u; meets = M }))
root is_lam u M = rw (byte_there M.placed.redex application_length) (root_lambda (beta_moves M))
root (is_const {c = op cell t}) u M = rw (byte_there M.placed.redex application_length) (root_cell (cell_moves M))
root (is_const {c = op thread t}) u M = rw (byte_there M.placed.redex application_length) (root_thread (thread_moves M))
root (is_const {c = op handle t}) u M = rw (byte_there M.placed.redex application_length) (root_handle (handle_moves M))
root (is_const {c = op exch t}) u M = rw (byte_there M.placed.redex application_length) (root_other {tag = exch_tag} (omega arith) M.steps)
root (is_const {c = unit}) u M = rw (byte_there M.placed.redex application_length) (root_other {tag = unit_tag} (omega arith) M.steps)
root (is_const {c = num n}) u M = rw (byte_there M.placed.redex application_length) (root_other {tag = num_tag} (omega arith) M.steps)
root (is_both {s = shape} w w') u M = rw (byte_there M.placed.redex application_length) (root_other (both_other shape) M.steps)

-- of an application of values
module _ {s : List ℕ} {x : ℕ} {m : Meeting} (a : Applies s x m) where
  -- the function is inside
  pub tag_inside : m.at + application_length < length s
  tag_inside = omega (arith, room a.meets.placed.first, size_positive a.function)

  function : Root s x m (get_or s (m.at + application_length) 0)
  function = root a.function_value a.argument_value a.meets

  -- by the tag
  function_as : {tag : ℕ} → get_or s (m.at + application_length) 0 ≡ tag → Root s x m tag
  function_as e = subst (Root s x m) e function

  pub tag_name : get_or s (m.at + application_length) 0 ≡ name_tag → (m.at + to_called < length s) × Calls s x m (get_or s (m.at + to_called) 0)
  tag_name e = go (function_as e)
    where
      go : Root s x m name_tag → (m.at + to_called < length s) × Calls s x m (get_or s (m.at + to_called) 0)
      go (root_name i c) = (i, c)
      go (root_other o h) = absurd (o.0.0.0.0.0.1 refl)

  pub tag_application : get_or s (m.at + application_length) 0 ≡ application_tag → Exchanges s x m
  tag_application e = go (function_as e)
    where
      go : Root s x m application_tag → Exchanges s x m
      go (root_exch c) = c
      go (root_other o h) = absurd (o.0.0.0.0.1 refl)

  pub tag_lambda : get_or s (m.at + application_length) 0 ≡ lambda_tag → Stepped s x (step_at x m Beta)
  tag_lambda e = go (function_as e)
    where
      go : Root s x m lambda_tag → Stepped s x (step_at x m Beta)
      go (root_lambda h) = h
      go (root_other o h) = absurd (o.0.0.0.1 refl)

  pub tag_cell : get_or s (m.at + application_length) 0 ≡ cell_tag → Stepped s x (step_at x m CellNew)
  tag_cell e = go (function_as e)
    where
      go : Root s x m cell_tag → Stepped s x (step_at x m CellNew)
      go (root_cell h) = h
      go (root_other o h) = absurd (o.0.0.1 refl)

  pub tag_thread : get_or s (m.at + application_length) 0 ≡ thread_tag → Stepped s x (step_at x m ThreadNew)
  tag_thread e = go (function_as e)
    where
      go : Root s x m thread_tag → Stepped s x (step_at x m ThreadNew)
      go (root_thread h) = h
      go (root_other o h) = absurd (o.0.1 refl)

  pub tag_handle : get_or s (m.at + application_length) 0 ≡ handle_tag → Stepped s x (step_at x m HandleNew)
  tag_handle e = go (function_as e)
    where
      go : Root s x m handle_tag → Stepped s x (step_at x m HandleNew)
      go (root_handle h) = h
      go (root_other o h) = absurd (o.1 refl)

  -- none of these
  pub tag_other : OtherTag (get_or s (m.at + application_length) 0) → step_of (config_of s) x ≡ wrong_kind
  tag_other = go function
    where
      go : {tag : ℕ} → Root s x m tag → OtherTag tag → step_of (config_of s) x ≡ wrong_kind
      go (root_name i c) o = absurd (omega (arith, o))
      go (root_exch c) o = absurd (omega (arith, o))
      go (root_lambda h) o = absurd (omega (arith, o))
      go (root_cell h) o = absurd (omega (arith, o))
      go (root_thread h) o = absurd (omega (arith, o))
      go (root_handle h) o = absurd (omega (arith, o))
      go (root_other p h) o = h

-- the first argument of a full exch, by its tag

const_no_name : (c : Const) (p q : List ℕ) → ¬ (get_or ((const_bytes c ++ p) ++ q) 0 0 ≡ name_tag)
unfolding const_bytes op_tag
const_no_name unit p q e = omega arith
const_no_name (num n) p q e = omega arith
const_no_name (op cell t) p q e = omega arith
const_no_name (op exch t) p q e = omega arith
const_no_name (op thread t) p q e = omega arith
const_no_name (op handle t) p q e = omega arith

both_no_name : (shape : Shape) → ¬ (both_tag shape ≡ name_tag)
unfolding both_tag
both_no_name pair e = omega arith
both_no_name list e = omega arith

-- it is a name, or 17 fits
data First (s : List ℕ) (x : ℕ) (m : Meeting) : ℕ → Type 0 where
  first_name : m.at + to_exchanged_name < length s → ExchangesName s x m (get_or s (m.at + to_exchanged_name) 0) → First s x m name_tag
  first_other : {tag : ℕ} → ¬ (tag ≡ name_tag) → step_of (config_of s) x ≡ wrong_kind → First s x m tag

first : {s : List ℕ} {x t : ℕ} {m : Meeting} {F : Context} {g : Exp} (w : Value g) {v : Exp} (u : Value v) → MeetsAt s x m F (application (is_exch {t = t} w) u) → First s x m (get_or s (m.at + to_exchanged) 0)
unfolding bytes const_bytes op_tag size const_size step_redex step_meeting
first {s} {x} {t} {m} {F} (is_name {k = k}) {v} u M =
    let h = M.placed.redex in
    let k_is : get_or s (m.at + to_exchanged_name) 0 ≡ k = byte_there h to_exchanged_name in
    rw (byte_there h to_exchanged) (first_name (omega (arith, room h)) (rw k_is (record { context = F; constant = t; argument = v; argument_value = u; meets = M })))
first (is_const {c = c}) {v} u M = first_other (λ e. const_no_name c (bytes v) _ (sym (byte_there M.placed.redex to_exchanged) ∙ e)) M.steps
first is_lam u M = rw (byte_there M.placed.redex to_exchanged) (first_other {tag = lambda_tag} (omega arith) M.steps)
first (is_exch w) u M = rw (byte_there M.placed.redex to_exchanged) (first_other {tag = application_tag} (omega arith) M.steps)
first (is_both {s = shape} w w') u M = rw (byte_there M.placed.redex to_exchanged) (first_other (both_no_name shape) M.steps)

module _ {s : List ℕ} {x : ℕ} {m : Meeting} (c : Exchanges s x m) where
  pub first_inside : m.at + to_exchanged < length s
  unfolding size const_size
  first_inside = omega (arith, room c.meets.placed.redex, size_positive c.first)

  first_tag : First s x m (get_or s (m.at + to_exchanged) 0)
  first_tag = first c.first_value c.argument_value c.meets

  pub first_is_name : get_or s (m.at + to_exchanged) 0 ≡ name_tag → (m.at + to_exchanged_name < length s) × ExchangesName s x m (get_or s (m.at + to_exchanged_name) 0)
  first_is_name = go first_tag
    where
      go : {tag : ℕ} → First s x m tag → tag ≡ name_tag → (m.at + to_exchanged_name < length s) × ExchangesName s x m (get_or s (m.at + to_exchanged_name) 0)
      go (first_name i c) e = (i, c)
      go (first_other p h) e = absurd (p e)

  pub first_is_other : ¬ (get_or s (m.at + to_exchanged) 0 ≡ name_tag) → step_of (config_of s) x ≡ wrong_kind
  first_is_other = go first_tag
    where
      go : {tag : ℕ} → First s x m tag → ¬ (tag ≡ name_tag) → step_of (config_of s) x ≡ wrong_kind
      go (first_name i c) p = absurd (p refl)
      go (first_other p h) q = h

-- The subject of a case

-- a tag that the decision does not ask for
abbrev pub OtherSubject : ℕ → Type 0
OtherSubject t = ((Unit {0} × ¬ (t ≡ name_tag)) × ¬ (t ≡ pair_tag)) × ¬ (t ≡ list_tag)

-- a name, a pair or list front, or any other value
data Subject (s : List ℕ) (x : ℕ) (m : Meeting) : ℕ → Type 0 where
  subject_name : m.at + to_subject_name < length s → TakesName s x m (get_or s (m.at + to_subject_name) 0) → Subject s x m name_tag
  subject_both : (shape : Shape) → TakesBoth s x m → Subject s x m (both_tag shape)
  subject_other : {tag : ℕ} → OtherSubject tag → step_of (config_of s) x ≡ wrong_kind → Subject s x m tag

const_other : (c : Const) (p q : List ℕ) → OtherSubject (get_or ((const_bytes c ++ p) ++ q) 0 0)
unfolding const_bytes op_tag
const_other unit p q = omega arith
const_other (num n) p q = omega arith
const_other (op cell t) p q = omega arith
const_other (op exch t) p q = omega arith
const_other (op thread t) p q = omega arith
const_other (op handle t) p q = omega arith

subject_tag : {s : List ℕ} {x : ℕ} {m : Meeting} {F : Context} {shape : Shape} {v : Exp} (w : Value v) {e : Exp} → MeetsAt s x m F (subject {s = shape} {e = e} w) →
    Subject s x m (get_or s (m.at + case_length) 0)
unfolding bytes const_bytes size const_size step_redex step_case
subject_tag {s} {x} {m} {F} {shape} (is_name {k = k}) {e} M =
    let t = M.placed.redex in
    let k_is : get_or s (m.at + to_subject_name) 0 ≡ k = byte_there t to_subject_name in
    rw (byte_there t case_length) (subject_name (omega (arith, room t)) (rw k_is (record { context = F; shape = shape; body = e; meets = M })))
subject_tag {F = F} {shape = shape} (is_both {s = inner} {t = t} {v = v₁} {w = v₂} w w') {e} M =
    rw (byte_there M.placed.redex case_length)
    (subject_both inner (record { context = F; shape = shape; subject_shape = inner; annotation = t; first = v₁; first_value = w; second = v₂; second_value = w'; body = e; meets = M }))
subject_tag {shape = shape} (is_const {c = c}) {e} M = rw (byte_there M.placed.redex case_length) (subject_other (const_other c (bytes e) _) M.steps)
subject_tag is_lam M = rw (byte_there M.placed.redex case_length) (subject_other {tag = lambda_tag} (omega arith) M.steps)
subject_tag (is_exch w) M = rw (byte_there M.placed.redex case_length) (subject_other {tag = application_tag} (omega arith) M.steps)

both_asked : (shape : Shape) → ¬ (OtherSubject (both_tag shape))
unfolding both_tag
both_asked pair o = o.0.1 refl
both_asked list o = o.1 refl

module _ {s : List ℕ} {x : ℕ} {m : Meeting} (t : TakesApart s x m) where
  pub subject_inside : m.at + case_length < length s
  subject_inside = omega (arith, room t.meets.placed.first, size_positive t.taken)

  its_subject : Subject s x m (get_or s (m.at + case_length) 0)
  its_subject = subject_tag t.taken_value t.meets

  pub takes_name : get_or s (m.at + case_length) 0 ≡ name_tag → (m.at + to_subject_name < length s) × TakesName s x m (get_or s (m.at + to_subject_name) 0)
  takes_name = go its_subject
    where
      go : {tag : ℕ} → Subject s x m tag → tag ≡ name_tag → (m.at + to_subject_name < length s) × TakesName s x m (get_or s (m.at + to_subject_name) 0)
      go (subject_name i c) e = (i, c)
      go (subject_both shape c) e = absurd (both_no_name shape e)
      go (subject_other o h) e = absurd (o.0.0.1 e)

  -- a pair or list front
  both_there : {tag : ℕ} → Subject s x m tag → ¬ (tag ≡ name_tag) → ¬ (OtherSubject tag) → TakesBoth s x m
  both_there (subject_name i c) n o = absurd (n refl)
  both_there (subject_both shape c) n o = c
  both_there (subject_other p h) n o = absurd (o p)

  pub takes_pair : get_or s (m.at + case_length) 0 ≡ pair_tag → TakesBoth s x m
  takes_pair e = both_there its_subject (λ n. omega (arith, e, n)) (λ o. o.0.1 e)

  pub takes_list : get_or s (m.at + case_length) 0 ≡ list_tag → TakesBoth s x m
  takes_list e = both_there its_subject (λ n. omega (arith, e, n)) (λ o. o.1 e)

  pub takes_other : OtherSubject (get_or s (m.at + case_length) 0) → step_of (config_of s) x ≡ wrong_kind
  takes_other = go its_subject
    where
      go : {tag : ℕ} → Subject s x m tag → OtherSubject tag → step_of (config_of s) x ≡ wrong_kind
      go (subject_name i c) o = absurd (o.0.0.1 refl)
      go (subject_both shape c) o = absurd (both_asked shape o)
      go (subject_other p h) o = h

-- Each case takes its own apart

-- what the tags of the case and of its subject say
data Match (s : List ℕ) (x : ℕ) (m : Meeting) : ℕ → ℕ → Type 0 where
  pair_of_pair : ((rest : ℕ) → rest ≡ end_at s (m.at + to_component) → Stepped s x (step_at x m (CasePair rest))) → Match s x m case_pair_tag pair_tag
  list_of_list : ((rest : ℕ) → rest ≡ end_at s (m.at + to_component) → Stepped s x (step_at x m (CaseList rest))) → Match s x m case_list_tag list_tag
  pair_of_list : step_of (config_of s) x ≡ wrong_kind → Match s x m case_pair_tag list_tag
  list_of_pair : step_of (config_of s) x ≡ wrong_kind → Match s x m case_list_tag pair_tag

module _ {s : List ℕ} {x : ℕ} {m : Meeting} {F : Context} {t : ℕ} {v₁ v₂ e : Exp} {w : Value v₁} {w' : Value v₂} where
  component_there : {shape inner : Shape} → MeetsAt s x m F (subject {s = shape} {e = e} (is_both {s = inner} {t = t} w w')) → TermAt s (m.at + to_component) v₁
  component_there M = subst (λ k. TermAt s k v₁) (omega arith) (components_stand M.placed.first).first

  match : (shape inner : Shape) → MeetsAt s x m F (subject {s = shape} {e = e} (is_both {s = inner} {t = t} w w')) → Match s x m (case_tag shape) (both_tag inner)
  unfolding case_tag both_tag step_redex step_case
  match pair pair M = pair_of_pair (λ rest r. case_moves pair M rest (r ∙ (found_at (component_there M)).ends))
  match list list M = list_of_list (λ rest r. case_moves list M rest (r ∙ (found_at (component_there M)).ends))
  match pair list M = pair_of_list M.steps
  match list pair M = list_of_pair M.steps

module _ {s : List ℕ} {x : ℕ} {m : Meeting} (t : TakesBoth s x m) where
  pub both_inside : m.at + case_length < length s
  unfolding size
  both_inside = omega (arith, room t.meets.placed.first)

  pub component_good : GoodAt s (m.at + to_component)
  component_good = (found_at (component_there t.meets)).good

  matched : Match s x m (get_or s m.at 0) (get_or s (m.at + case_length) 0)
  unfolding bytes
  matched =
      let z : m.at ≡ m.at + 0 = omega arith in
      let h = t.meets.placed.redex in
      let c : get_or s m.at 0 ≡ case_tag t.shape = ap (λ k. get_or s k 0) z ∙ byte_there h 0 in
      let i : get_or s (m.at + case_length) 0 ≡ both_tag t.subject_shape = byte_there h case_length in
      rw (c, i) (match t.shape t.subject_shape t.meets)

  module _ (rest : ℕ) (rest_is : rest ≡ end_at s (m.at + to_component)) where
    pub takes_its_pair : get_or s m.at 0 ≡ case_pair_tag → get_or s (m.at + case_length) 0 ≡ pair_tag → Stepped s x (step_at x m (CasePair rest))
    takes_its_pair = go matched
      where
        go : {c i : ℕ} → Match s x m c i → c ≡ case_pair_tag → i ≡ pair_tag → Stepped s x (step_at x m (CasePair rest))
        go (pair_of_pair h) c i = h rest rest_is
        go (list_of_list h) c i = absurd (omega arith)
        go (pair_of_list h) c i = absurd (omega arith)
        go (list_of_pair h) c i = absurd (omega arith)

    pub takes_its_list : ¬ (get_or s m.at 0 ≡ case_pair_tag) → get_or s (m.at + case_length) 0 ≡ list_tag → Stepped s x (step_at x m (CaseList rest))
    takes_its_list = go matched
      where
        go : {c i : ℕ} → Match s x m c i → ¬ (c ≡ case_pair_tag) → i ≡ list_tag → Stepped s x (step_at x m (CaseList rest))
        go (list_of_list h) c i = h rest rest_is
        go (pair_of_pair h) c i = absurd (omega arith)
        go (pair_of_list h) c i = absurd (c refl)
        go (list_of_pair h) c i = absurd (omega arith)

  pub pair_takes_no_list : get_or s m.at 0 ≡ case_pair_tag → ¬ (get_or s (m.at + case_length) 0 ≡ pair_tag) → step_of (config_of s) x ≡ wrong_kind
  pair_takes_no_list = go matched
    where
      go : {c i : ℕ} → Match s x m c i → c ≡ case_pair_tag → ¬ (i ≡ pair_tag) → step_of (config_of s) x ≡ wrong_kind
      go (pair_of_list h) c i = h
      go (pair_of_pair h) c i = absurd (i refl)
      go (list_of_list h) c i = absurd (omega arith)
      go (list_of_pair h) c i = h

  pub list_takes_no_pair : ¬ (get_or s m.at 0 ≡ case_pair_tag) → ¬ (get_or s (m.at + case_length) 0 ≡ list_tag) → step_of (config_of s) x ≡ wrong_kind
  list_takes_no_pair = go matched
    where
      go : {c i : ℕ} → Match s x m c i → ¬ (c ≡ case_pair_tag) → ¬ (i ≡ list_tag) → step_of (config_of s) x ≡ wrong_kind
      go (list_of_pair h) c i = h
      go (list_of_list h) c i = absurd (i refl)
      go (pair_of_pair h) c i = absurd (c refl)
      go (pair_of_list h) c i = h
