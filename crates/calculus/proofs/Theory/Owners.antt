-- Document 02, T-08: the owners that a recipe is loaded with keep their rule, and so do those after every step by a rule.
use Rattle.std.proofs.Common.{◌∙◌, ap, sym, inl, inr, arith, length-append, length-set}
use Rattle.std.specs.Prelude.{◌≡◌, refl, ◌⊎◌, [], ◌++◌, ◌∷◌, ◌+◌, ◌-◌, ◌<◌, ◌≤◌, suc, zero, ℕ, length, set}
use Rattle.std.proofs.Math.Option.{some}
use Rattle.std.proofs.Math.Decide.{dec_lt}
use Rattle.std.proofs.lemmas.List.{get_or-replicate, length-replicate}
use Rattle.calculus.specs.Lists.{tabulate}
use Rattle.calculus.specs.Syntax.{Exp, name, Component, thread_of, holds, open_for, used, awaited, Config, at}
use Rattle.calculus.specs.Owners.{Owners, Owned, owner, first_owners, owners_after, grown, OwnersRule}
use Rattle.calculus.specs.Image.{ImageRule}
use Rattle.calculus.specs.Reduction.{Rule, Reduces, beta, thread_new, future_deref, future_deref_exch, handle_new, handle_bind, cell_new, cell_exch, future_deref_case, case_both}
use Rattle.calculus.proofs.Theory.Tests.{clash}
use Rattle.calculus.proofs.Theory.Lists.{append_cases, append_left, append_right, at_below, at_bound, get_d_at, set_cases, set_other, set_same}
use Rattle.calculus.proofs.Theory.Tabulate.{length_tabulate, tabulate_at}

-- ---- owners by their places

-- of two lists one after the other
pub owner_left : (O P : Owners) (k : ℕ) → k < length O → owner (O ++ P) k ≡ owner O k
owner_left [] P k l = absurd (omega arith)
owner_left (o ∷ O) P zero l = refl
owner_left (o ∷ O) P (suc k) l = owner_left O P k (omega arith)

pub owner_right : (O P : Owners) (k : ℕ) → length O ≤ k → owner (O ++ P) k ≡ owner P (k - length O)
owner_right [] P k l = ap (owner P) (omega arith)
owner_right (o ∷ O) P zero l = absurd (omega arith)
owner_right (o ∷ O) P (suc k) l = owner_right O P k (omega arith) ∙ ap (owner P) (omega arith)

-- by bays
owner_bay : (b k : ℕ) → k < b → owner (tabulate b (λ bay. bay)) k ≡ k
owner_bay b k l = get_d_at (tabulate b (λ bay. bay)) k (tabulate_at b (λ bay. bay) k l)

-- "Settings and first threads belong to their bay"
pub setting_owner : (b k : ℕ) → k < b → owner (first_owners b) k ≡ k
unfolding first_owners
setting_owner b k l = owner_left (tabulate b (λ bay. bay)) _ k (omega (arith, length_tabulate b (λ bay. bay))) ∙ owner_bay b k l

pub thread_owner : (b k : ℕ) → b ≤ k → k < b + b → owner (first_owners b) k ≡ k - b
unfolding first_owners
thread_owner b k l m =
    let n = length_tabulate b (λ (bay : ℕ). bay) in
    owner_right (tabulate b (λ bay. bay)) _ k (omega arith)
    ∙ ap (λ (i : ℕ). owner (tabulate b (λ bay. bay)) (k - i)) n
    ∙ owner_bay b (k - b) (omega arith)

pub length_first_owners : (b : ℕ) → length (first_owners b) ≡ b + b
unfolding first_owners
length_first_owners b = simp (length-append, length_tabulate)

-- "a future or handle keeps its owner when used", and so does every other name
pub old_owner : (O : Owners) (x : ℕ) (C' : Config) (k : ℕ) → k < length O → owner (owners_after O x C') k ≡ owner O k
unfolding owners_after
old_owner O x C' k l = owner_left O _ k l

-- "a new name to the creating thread's bay"
pub new_owner : (O : Owners) (x : ℕ) (C' : Config) (k : ℕ) → length O ≤ k → k < length C' → owner (owners_after O x C') k ≡ owner O x
unfolding owners_after
new_owner O x C' k l m =
    owner_right O _ k l ∙ get_or-replicate (length C' - length O) (k - length O) (owner O x) 0 (omega arith)

pub length_owners_after : (O : Owners) (x : ℕ) (C' : Config) → length O ≤ length C' → length (owners_after O x C') ≡ length C'
unfolding owners_after
length_owners_after O x C' l = rw (length-append, length-replicate) (omega arith)

-- ---- rules

-- a rule takes no name away
pub no_fewer : {C C' : Config} {x : ℕ} {r : Rule} → Reduces C x r C' → length C ≤ length C'
no_fewer {C} {x = x} (beta F t e v w h) = rw length-set (omega arith)
no_fewer {C} {x = x} (thread_new F t v w h) = rw (length-append, length-set) (omega arith)
no_fewer {C} {x = x} (future_deref F y v w wv ww h k) = rw length-set (omega arith)
no_fewer {C} {x = x} (future_deref_exch F t y v w wv ww h k) = rw length-set (omega arith)
no_fewer {C} {x = x} (handle_new F t v w h) = rw (length-append, length-set) (omega arith)
no_fewer {C} {x = x} (handle_bind F z y v w h k) = simp length-set (omega arith)
no_fewer {C} {x = x} (cell_new F t v w h) = rw (length-append, length-set) (omega arith)
no_fewer {C} {x = x} (cell_exch F t y v₁ v₂ w h k) = simp length-set (omega arith)
no_fewer {C} {x = x} (future_deref_case F s y w e ww h k) = rw length-set (omega arith)
no_fewer {C} {x = x} (case_both F s t v₁ v₂ e w w' h) = rw length-set (omega arith)

-- the name that goes is a thread
pub goer_thread : {C C' : Config} {x : ℕ} {r : Rule} → Reduces C x r C' → (e : Exp) × (at C x ≡ some (thread_of e))
goer_thread (beta F t e v w h) = (_, h)
goer_thread (thread_new F t v w h) = (_, h)
goer_thread (future_deref F y v w wv ww h k) = (_, h)
goer_thread (future_deref_exch F t y v w wv ww h k) = (_, h)
goer_thread (handle_new F t v w h) = (_, h)
goer_thread (handle_bind F z y v w h k) = (_, h)
goer_thread (cell_new F t v w h) = (_, h)
goer_thread (cell_exch F t y v₁ v₂ w h k) = (_, h)
goer_thread (future_deref_case F s y w e ww h k) = (_, h)
goer_thread (case_both F s t v₁ v₂ e w w' h) = (_, h)

pub goer_there : {C C' : Config} {x : ℕ} {r : Rule} → Reduces C x r C' → x < length C
goer_there {C} {x = x} d = at_bound C x (goer_thread d).1

-- an open handle that stands after a change that makes none stood before
old_handle : (C : Config) (x : ℕ) (c : Component) (z y : ℕ) → ¬ (open_for y ≡ c) → at (set C x c) z ≡ some (open_for y) → at C z ≡ some (open_for y)
old_handle C x c z y n h = elim (set_cases C x z c h) [ inl q ↦ absurd (n q.1) | inr q ↦ q.1 ]

-- an open handle is old, or comes with its future
abbrev OldOrNew : Config → Config → ℕ → ℕ → Type 0
OldOrNew C C' z y = (at C z ≡ some (open_for y)) ⊎ ((length C ≤ z) × (length C ≤ y) × (y < length C'))

one_not : (c : Component) (y : ℕ) → ¬ (open_for y ≡ c) → (i : ℕ) → ¬ (at (c ∷ []) i ≡ some (open_for y))
one_not c y n zero q = n (cc)
one_not c y n (suc i) q = clash (cc)

with_future : (C D : Config) (y : ℕ) → length D ≡ length C → (i : ℕ) → at (awaited ∷ open_for (length C) ∷ []) i ≡ some (open_for y) →
    (length C ≤ y) × (y < length (D ++ (awaited ∷ open_for (length C) ∷ [])))
with_future C D y s zero q = absurd (clash (cc))
with_future C D y s (suc zero) q = let e : y ≡ length C = cc in (omega (arith, e), rw length-append (omega (arith, e)))
with_future C D y s (suc (suc i)) q = absurd (clash (cc))

appended : (C D N : Config) (z y : ℕ) → length D ≡ length C → ((i : ℕ) → at N i ≡ some (open_for y) → (length C ≤ y) × (y < length (D ++ N))) →
    (at D z ≡ some (open_for y) → at C z ≡ some (open_for y)) → at (D ++ N) z ≡ some (open_for y) → OldOrNew C (D ++ N) z y
appended C D N z y s f g h = elim (append_cases D N z h) [ inl p ↦ inl (g p) | inr p ↦ let (m, n) = f p.0 p.2 in inr (omega (arith, p.1), m, n) ]

handle_cases : {C C' : Config} {x : ℕ} {r : Rule} → Reduces C x r C' → (z y : ℕ) → at C' z ≡ some (open_for y) → OldOrNew C C' z y
handle_cases {C} {x = x} (beta F t e v w h) z y p = inl (old_handle C x _ z y (λ e. clash (cc)) p)
handle_cases {C} {x = x} (thread_new F t v w h) z y p =
    appended C (set C x _) (_ ∷ []) z y (length-set C x _) (λ i q. absurd (one_not _ y (λ e. clash (cc)) i q)) (old_handle C x _ z y (λ e. clash (cc))) p
handle_cases {C} {x = x} (future_deref F k v w wv ww h g) z y p = inl (old_handle C x _ z y (λ e. clash (cc)) p)
handle_cases {C} {x = x} (future_deref_exch F t k v w wv ww h g) z y p = inl (old_handle C x _ z y (λ e. clash (cc)) p)
handle_cases {C} {x = x} (handle_new F t v w h) z y p =
    appended C (set C x _) (awaited ∷ open_for (length C) ∷ []) z y (length-set C x _) (with_future C (set C x _) y (length-set C x _)) (old_handle C x _ z y (λ e. clash (cc))) p
handle_cases {C} {x = x} (handle_bind F k j v w h g) z y p =
    inl (old_handle C x _ z y (λ e. clash (cc)) (old_handle (set C x _) j _ z y (λ e. clash (cc)) (old_handle (set (set C x _) j _) k used z y (λ e. clash (cc)) p)))
handle_cases {C} {x = x} (cell_new F t v w h) z y p =
    appended C (set C x _) (_ ∷ []) z y (length-set C x _) (λ i q. absurd (one_not _ y (λ e. clash (cc)) i q)) (old_handle C x _ z y (λ e. clash (cc))) p
handle_cases {C} {x = x} (cell_exch F t k v₁ v₂ w h g) z y p = inl (old_handle C x _ z y (λ e. clash (cc)) (old_handle (set C x _) k _ z y (λ e. clash (cc)) p))
handle_cases {C} {x = x} (future_deref_case F s k w e ww h g) z y p = inl (old_handle C x _ z y (λ e. clash (cc)) p)
handle_cases {C} {x = x} (case_both F s t v₁ v₂ e w w' h) z y p = inl (old_handle C x _ z y (λ e. clash (cc)) p)

-- ---- the futures of open handles

-- a future stays one where a thread or a cell changes
stays_awaited : (C : Config) (x y : ℕ) (c : Component) {d : Component} → at C x ≡ some d → ¬ (d ≡ awaited) → at C y ≡ some awaited → at (set C x c) y ≡ some awaited
stays_awaited C x y c h n g = set_other C x y c (λ e. n (let q = ap (at C) e in cc)) ∙ g

-- "each open handle's companion is of kind 5": every rule keeps it, of any image that keeps its rules
module _ {C : Config} (rule : ImageRule C) where
  -- the thread's expression changes, and no more
  own_thread : (x : ℕ) (e' : Exp) {e : Exp} → at C x ≡ some (thread_of e) → (z y : ℕ) → at (set C x (thread_of e')) z ≡ some (open_for y) → at (set C x (thread_of e')) y ≡ some awaited
  own_thread x e' h z y p = stays_awaited C x y (thread_of e') h (λ q. clash (cc)) (rule.companions z y (old_handle C x (thread_of e') z y (λ q. clash (cc)) p))

  -- and a name comes that is no handle
  one_more : (x : ℕ) (e' : Exp) {e : Exp} (c : Component) → at C x ≡ some (thread_of e) → (z y : ℕ) → ¬ (open_for y ≡ c) → at (set C x (thread_of e') ++ (c ∷ [])) z ≡ some (open_for y) →
      at (set C x (thread_of e') ++ (c ∷ [])) y ≡ some awaited
  one_more x e' c h z y n p = elim (append_cases (set C x (thread_of e')) (c ∷ []) z p) [
    | inl q ↦ append_left (set C x (thread_of e')) (c ∷ []) y (own_thread x e' h z y q)
    | inr q ↦ absurd (one_not c y n q.0 q.2)
  ]

  -- a future and its handle come
  two_more : (x : ℕ) (e' : Exp) {e : Exp} → at C x ≡ some (thread_of e) → (z y : ℕ) →
      at (set C x (thread_of e') ++ (awaited ∷ open_for (length C) ∷ [])) z ≡ some (open_for y) → at (set C x (thread_of e') ++ (awaited ∷ open_for (length C) ∷ [])) y ≡ some awaited
  two_more x e' h z y p = elim (append_cases (set C x (thread_of e')) (awaited ∷ open_for (length C) ∷ []) z p) [
    | inl q ↦ append_left (set C x (thread_of e')) _ y (own_thread x e' h z y q)
    | inr q ↦
        let n : y ≡ length (set C x (thread_of e')) + 0 = is_new q.0 q.2 ∙ omega (arith, length-set C x (thread_of e')) in
        ap (at (set C x (thread_of e') ++ (awaited ∷ open_for (length C) ∷ []))) n ∙ append_right (set C x (thread_of e')) (awaited ∷ open_for (length C) ∷ []) 0
  ]
    where
      is_new : (i : ℕ) → at (awaited ∷ open_for (length C) ∷ []) i ≡ some (open_for y) → y ≡ length C
      is_new zero q = absurd (clash (cc))
      is_new (suc zero) q = cc
      is_new (suc (suc i)) q = absurd (clash (cc))

  -- a future is bound, and its handle used: no other handle was for it
  bound : (x z' y' : ℕ) (e' v : Exp) {e : Exp} → at C x ≡ some (thread_of e) → at C z' ≡ some (open_for y') → (z y : ℕ) →
      at (set (set (set C x (thread_of e')) y' (thread_of v)) z' used) z ≡ some (open_for y) → at (set (set (set C x (thread_of e')) y' (thread_of v)) z' used) y ≡ some awaited
  bound x z' y' e' v h g z y p =
      let C₁ = set C x (thread_of e') in
      let C₂ = set C₁ y' (thread_of v) in
      let awaits = rule.companions z' y' g in
      let p₂ = old_handle C₂ z' used z y (λ q. clash (cc)) p in
      let old : at C z ≡ some (open_for y) = old_handle C x (thread_of e') z y (λ q. clash (cc)) (old_handle C₁ y' (thread_of v) z y (λ q. clash (cc)) p₂) in
      let other : ¬ (z ≡ z') = λ e. let there = at_below C₂ z' (at_bound C₂ z' (ap (at C₂) (sym e) ∙ p₂)) in let q = set_same C₂ z' used there.1 in let r = ap (at (set C₂ z' used)) e in clash (cc) in
      let apart : ¬ (y ≡ y') = λ e. other (let (w, a, only) = rule.futures y' awaits in only z (old ∙ ap (λ (k : ℕ). some (open_for k)) e) ∙ sym (only z' g)) in
      let first : at C₁ y ≡ some awaited = stays_awaited C x y (thread_of e') h (λ q. clash (cc)) (rule.companions z y old) in
      set_other C₂ z' y used (λ e. let q = rule.companions z y old in let r = ap (at C) e in clash (cc)) ∙ set_other C₁ y' y (thread_of v) apart ∙ first

  -- a cell is exchanged
  exchanged : (x y' : ℕ) (e' v : Exp) {e w : Exp} → at C x ≡ some (thread_of e) → at C y' ≡ some (holds w) → (z y : ℕ) →
      at (set (set C x (thread_of e')) y' (holds v)) z ≡ some (open_for y) → at (set (set C x (thread_of e')) y' (holds v)) y ≡ some awaited
  exchanged x y' e' v h g z y p =
      let C₁ = set C x (thread_of e') in
      let p₁ = old_handle C₁ y' (holds v) z y (λ q. clash (cc)) p in
      let old = old_handle C x (thread_of e') z y (λ q. clash (cc)) p₁ in
      set_other C₁ y' y (holds v) (λ e. let q = rule.companions z y old in let r = ap (at C) e in clash (cc)) ∙ own_thread x e' h z y p₁

  pub companions_kept : {x : ℕ} {C' : Config} {r : Rule} → Reduces C x r C' → (z y : ℕ) → at C' z ≡ some (open_for y) → at C' y ≡ some awaited
  companions_kept {x = x} (beta F t e v w h) z y p = own_thread x _ h z y p
  companions_kept {x = x} (thread_new F t v w h) z y p = one_more x _ _ h z y (λ q. clash (cc)) p
  companions_kept {x = x} (future_deref F k v w wv ww h g) z y p = own_thread x _ h z y p
  companions_kept {x = x} (future_deref_exch F t k v w wv ww h g) z y p = own_thread x _ h z y p
  companions_kept {x = x} (handle_new F t v w h) z y p = two_more x _ h z y p
  companions_kept {x = x} (handle_bind F z' y' v w h g) z y p = bound x z' y' _ v h g z y p
  companions_kept {x = x} (cell_new F t v w h) z y p = one_more x _ _ h z y (λ q. clash (cc)) p
  companions_kept {x = x} (cell_exch F t k v₁ v₂ w h g) z y p = exchanged x k _ v₁ h g z y p
  companions_kept {x = x} (future_deref_case F s k w e ww h g) z y p = own_thread x _ h z y p
  companions_kept {x = x} (case_both F s t v₁ v₂ e w w' h) z y p = own_thread x _ h z y p

-- ---- the owners

-- every rule keeps the owners' rule, where the future of an open handle is a name
module _ {b : ℕ} {I : Owned} {C' : Config} {x : ℕ} {r : Rule} (o : OwnersRule b I) (futures : (z y : ℕ) → at I.config z ≡ some (open_for y) → y < length I.config)
    (d : Reduces I.config x r C') where
  old : (k : ℕ) → k < length I.config → owner (owners_after I.owners x C') k ≡ owner I.owners k
  old k l = old_owner I.owners x C' k (omega (arith, o.sizes))

  new : (k : ℕ) → length I.config ≤ k → k < length C' → owner (owners_after I.owners x C') k ≡ owner I.owners x
  new k l m = new_owner I.owners x C' k (omega (arith, o.sizes)) m

  pub owners_kept : OwnersRule b (grown I x C')
  owners_kept = record {
    sizes = length_owners_after I.owners x C' (omega (arith, no_fewer d, o.sizes));
    below = λ k l. elim (dec_lt k (length I.config)) [
      | yes m ↦ rw (old k m) (o.below k m)
      | no m ↦ rw (new k (omega arith) l) (o.below x (goer_there d))
    ];
    handles = λ z y h. elim (handle_cases d z y h) [
      | inl g ↦ old z (at_bound I.config z g) ∙ o.handles z y g ∙ sym (old y (futures z y g))
      | inr g ↦ new z g.0 (at_bound C' z h) ∙ sym (new y g.1 g.2)
    ];
  }

-- the owners that a recipe of b bays is loaded with, where no handle is open
pub first_owners_rule : (b : ℕ) (C : Config) → length C ≡ b + b → ((z y : ℕ) → ¬ (at C z ≡ some (open_for y))) → OwnersRule b (record { owners = first_owners b; config = C })
first_owners_rule b C s n = record {
  sizes = length_first_owners b ∙ sym s;
  below = λ x l. elim (dec_lt x b) [ yes m ↦ rw (setting_owner b x m) m | no m ↦ rw (thread_owner b x (omega arith) (omega arith)) (omega arith) ];
  handles = λ z y h. absurd (n z y h);
}

-- fewer bays than there may be
pub more_bays : {b d : ℕ} {I : Owned} → b ≤ d → OwnersRule b I → OwnersRule d I
more_bays l o = record { sizes = o.sizes; below = λ x m. omega (arith, o.below x m); handles = o.handles }

-- rows: two bays; thread 3, bay 1's, makes a future and its handle (rule 4), and they are used (rule 5); thread 2, bay 0's, makes a cell
rows :
    (first_owners 2 ≡ 0 ∷ 1 ∷ 0 ∷ 1 ∷ []) ×
    (owners_after (0 ∷ 1 ∷ 0 ∷ 1 ∷ []) 3 (used ∷ used ∷ used ∷ used ∷ awaited ∷ open_for 4 ∷ []) ≡ 0 ∷ 1 ∷ 0 ∷ 1 ∷ 1 ∷ 1 ∷ []) ×
    (owners_after (0 ∷ 1 ∷ 0 ∷ 1 ∷ 1 ∷ 1 ∷ []) 2 (used ∷ used ∷ used ∷ used ∷ thread_of (name 4) ∷ used ∷ []) ≡ 0 ∷ 1 ∷ 0 ∷ 1 ∷ 1 ∷ 1 ∷ []) ×
    (owners_after (0 ∷ 1 ∷ 0 ∷ 1 ∷ []) 2 (used ∷ used ∷ used ∷ used ∷ holds (name 0) ∷ []) ≡ 0 ∷ 1 ∷ 0 ∷ 1 ∷ 0 ∷ [])
unfolding first_owners owners_after tabulate
rows = (refl, refl, refl, refl)
