-- The changes that the rules make leave a configuration sound.
use Rattle.std.proofs.Common.{◌∙◌, ap, ap₂, sym, length-append}
use Rattle.std.specs.Prelude.{◌≡◌, refl, ◌⊎◌, List, [], ◌++◌, ◌+◌, ◌<◌, ◌≤◌, ℕ, length, set}
use Rattle.std.proofs.Math.Logic.{inl, inr}
use Rattle.std.proofs.Math.Option.{some}
use Rattle.std.proofs.Math.Decide.{dec_lt}
use native.Mathlib.Omega.{arith}
use Rattle.std.proofs.Math.ListN.{length-set}
use Rattle.calculus.specs.Types.{once, LinType, unit_type, fun}
use Rattle.calculus.specs.Syntax.{Exp, Component, thread_of, holds, open_for, used, awaited, Config, at, In, sum_in, sum_all}
use Rattle.calculus.specs.Typing.{TypeNumbers, Derivation}
use Rattle.calculus.specs.Names.{count, OnceName, Outside}
use Rattle.calculus.proofs.Theory.Tests.{clash}
use Rattle.calculus.proofs.Theory.Lists.{at_bound, set_other, set_cases, append_left, append_below, append_cases}
use Rattle.calculus.proofs.Theory.Expressions.{absent_outside, more_names}
use Rattle.calculus.proofs.Theory.Configurations.{types_more, sum_append, sum_set}
use Rattle.calculus.proofs.Theory.Sound.{Fits, Sound, absent_outside_in, absent_of, absent}

-- A thread's expression changes, and names come: e becomes e' at x, and D with types N is put at the end.
pub record Growth (τ : TypeNumbers) (S : List LinType) (C : Config) (x : ℕ) (e e' : Exp) (N : List LinType) (D : Config) : Type 0 where
  pub sizes : length N ≡ length D
  pub typed : (α : LinType) → Derivation τ S [] e α → Derivation τ (S ++ N) [] e' α
  pub fits : (i : ℕ) (c : Component) → at D i ≡ some c → Fits τ (S ++ N) (set C x (thread_of e') ++ D) (length C + i) c
  pub for_new : (i y : ℕ) → at D i ≡ some (open_for y) → length C ≤ y
  pub one_handle : (y i j : ℕ) → at D i ≡ some (open_for y) → at D j ≡ some (open_for y) → i ≡ j
  pub none_used : (i : ℕ) → ¬ (at D i ≡ some used)
  pub counts : (k : ℕ) → OnceName S k → count k e' + sum_all (sum_in (count k)) D ≤ count k e
  pub new_counts : (k : ℕ) → length C ≤ k → OnceName (S ++ N) k → count k e' + sum_all (sum_in (count k)) D ≤ 1
  pub outside : (k : ℕ) → OnceName S k → Outside τ k e → Outside τ k e' × ((i : ℕ) (c : Component) → at D i ≡ some c → In (Outside τ k) c)
  pub new_outside : (k : ℕ) → length C ≤ k → OnceName (S ++ N) k → Outside τ k e' × ((i : ℕ) (c : Component) → at D i ≡ some c → In (Outside τ k) c)

below_or_not : (k n : ℕ) → (k < n) ⊎ (n ≤ k)
below_or_not k n = elim (dec_lt k n) [ yes p ↦ inl p | no q ↦ inr (omega arith) ]

fits_more : (τ : TypeNumbers) (S S' : List LinType) (C C' : Config) → ((k : ℕ) (α : LinType) → at S k ≡ some α → at S' k ≡ some α) →
    ((y : ℕ) → at C y ≡ some awaited → at C' y ≡ some awaited) →
    ((z y : ℕ) → at C z ≡ some (open_for y) → at C' z ≡ some (open_for y)) →
    (k : ℕ) (c : Component) → Fits τ S C k c → Fits τ S' C' k c
fits_more τ S S' C C' m a o k (thread_of e) f = (f.0, m k _ f.1, f.2, more_names m f.3)
fits_more τ S S' C C' m a o k (holds v) f = (f.0, m k _ f.1, f.2, more_names m f.3)
fits_more τ S S' C C' m a o k (open_for y) f = (f.0, m k _ f.1, m y _ f.2, f.3, a y f.4)
fits_more τ S S' C C' m a o k used f = (f.0, m k _ f.1)
fits_more τ S S' C C' m a o k awaited f = (f.0, o f.0 k f.1)

module _ {τ : TypeNumbers} {S : List LinType} {C : Config} (s : Sound τ S C) where
  module _ {x : ℕ} {e e' : Exp} {N : List LinType} {D : Config} (h : at C x ≡ some (thread_of e)) (g : Growth τ S C x e e' N D) where
    grown_at : (k : ℕ) (c : Component) → at (set C x (thread_of e') ++ D) k ≡ some c →
        ((k ≡ x) × (c ≡ thread_of e')) ⊎ (((¬ (k ≡ x)) × (at C k ≡ some c)) ⊎ ((i : ℕ) × (k ≡ length C + i) × (at D i ≡ some c)))
    grown_at k c p = elim (append_cases (set C x (thread_of e')) D k p) [
      | inl q ↦ elim (set_cases C x k (thread_of e') q) [ inl r ↦ inl r | inr r ↦ inr (inl r) ]
      | inr r ↦ inr (inr (r.0, r.1 ∙ rw length-set, r.2))
    ]

    kept : (k : ℕ) (c : Component) → ¬ (k ≡ x) → at C k ≡ some c → at (set C x (thread_of e') ++ D) k ≡ some c
    kept k c n p = append_left (set C x (thread_of e')) D k (set_other C x k (thread_of e') n ∙ p)

    kept_awaited : (y : ℕ) → at C y ≡ some awaited → at (set C x (thread_of e') ++ D) y ≡ some awaited
    kept_awaited y p = kept y awaited (λ q. clash (cc)) p

    kept_open : (z y : ℕ) → at C z ≡ some (open_for y) → at (set C x (thread_of e') ++ D) z ≡ some (open_for y)
    kept_open z y p = kept z (open_for y) (λ q. clash (cc)) p

    old_once : (k : ℕ) → k < length C → OnceName (S ++ N) k → OnceName S k
    old_once k l o = (o.0, sym (append_below S N k (omega (arith, s.sizes))) ∙ o.1, o.2)

    count_grown : (k : ℕ) → sum_all (sum_in (count k)) (set C x (thread_of e') ++ D) + count k e ≡ sum_all (sum_in (count k)) C + count k e' + sum_all (sum_in (count k)) D
    unfolding sum_in
    count_grown k = omega (arith, sum_append (sum_in (count k)) (set C x (thread_of e')) D, sum_set (sum_in (count k)) C x (thread_of e') h)

    grown_fits : (k : ℕ) (c : Component) → at (set C x (thread_of e') ++ D) k ≡ some c → Fits τ (S ++ N) (set C x (thread_of e') ++ D) k c
    grown_fits k c p = let f : Fits τ S C x (thread_of e) = s.fits x (thread_of e) h in elim (grown_at k c p) [
      | inl q ↦ rw (q.0, q.1) (f.0, types_more S N x _ f.1, f.2, g.typed f.0 f.3)
      | inr (inl q) ↦ fits_more τ S (S ++ N) C (set C x (thread_of e') ++ D) (types_more S N) kept_awaited kept_open k c (s.fits k c q.1)
      | inr (inr q) ↦ rw q.1 (g.fits q.0 c q.2)
    ]

    grown_one_handle : (y z z' : ℕ) → at (set C x (thread_of e') ++ D) z ≡ some (open_for y) → at (set C x (thread_of e') ++ D) z' ≡ some (open_for y) → z ≡ z'
    grown_one_handle y z z' p q = go (opened z p) (opened z' q)
      where
        opened : (z : ℕ) → at (set C x (thread_of e') ++ D) z ≡ some (open_for y) →
            ((at C z ≡ some (open_for y)) × (y < length C)) ⊎ ((i : ℕ) × (z ≡ length C + i) × (at D i ≡ some (open_for y)) × (length C ≤ y))
        opened z p = elim (grown_at z (open_for y) p) [
          | inl r ↦ absurd (clash (cc))
          | inr (inl r) ↦ inl (r.1, at_bound C y (s.fits z (open_for y) r.1).4)
          | inr (inr r) ↦ inr (r.0, r.1, r.2, g.for_new r.0 y r.2)
        ]

        go : ((at C z ≡ some (open_for y)) × (y < length C)) ⊎ ((i : ℕ) × (z ≡ length C + i) × (at D i ≡ some (open_for y)) × (length C ≤ y)) →
            ((at C z' ≡ some (open_for y)) × (y < length C)) ⊎ ((i : ℕ) × (z' ≡ length C + i) × (at D i ≡ some (open_for y)) × (length C ≤ y)) → z ≡ z'
        go (inl a) (inl b) = s.one_handle y z z' a.0 b.0
        go (inl a) (inr b) = absurd (omega (arith, a.1, b.3))
        go (inr a) (inl b) = absurd (omega (arith, b.1, a.3))
        go (inr a) (inr b) = a.1 ∙ ap (λ i. length C + i) (g.one_handle y a.0 b.0 a.2 b.2) ∙ sym b.1

    grown_linear : (k : ℕ) → OnceName (S ++ N) k → sum_all (sum_in (count k)) (set C x (thread_of e') ++ D) ≤ 1
    grown_linear k o = elim (below_or_not k (length C)) [
      | inl l ↦ let q : OnceName S k = old_once k l o in omega (arith, count_grown k, g.counts k q, s.linear k q)
      | inr l ↦ omega (arith, count_grown k, g.new_counts k l o, absent s k l)
    ]

    grown_gone : (k : ℕ) → at (set C x (thread_of e') ++ D) k ≡ some used → sum_all (sum_in (count k)) (set C x (thread_of e') ++ D) ≡ 0
    grown_gone k p = elim (grown_at k used p) [
      | inl r ↦ absurd (clash (cc))
      | inr (inl r) ↦
          let f : Fits τ S C k used = s.fits k used r.1 in
          omega (arith, count_grown k, s.gone k r.1, g.counts k (fun once f.0 unit_type, f.1, refl))
      | inr (inr r) ↦ absurd (g.none_used r.0 r.2)
    ]

    grown_outside : (k : ℕ) → OnceName (S ++ N) k → (y : ℕ) (c : Component) → at (set C x (thread_of e') ++ D) y ≡ some c → In (Outside τ k) c
    grown_outside k o y c p = go (below_or_not k (length C)) (grown_at y c p)
      where
        go : (k < length C) ⊎ (length C ≤ k) →
            ((y ≡ x) × (c ≡ thread_of e')) ⊎ (((¬ (y ≡ x)) × (at C y ≡ some c)) ⊎ ((i : ℕ) × (y ≡ length C + i) × (at D i ≡ some c))) → In (Outside τ k) c
        go (inl l) (inl r) = rw r.1 (g.outside k (old_once k l o) (s.outside k (old_once k l o) x (thread_of e) h)).0
        go (inl l) (inr (inl r)) = s.outside k (old_once k l o) y c r.1
        go (inl l) (inr (inr r)) = (g.outside k (old_once k l o) (s.outside k (old_once k l o) x (thread_of e) h)).1 r.0 c r.2
        go (inr l) (inl r) = rw r.1 (g.new_outside k l o).0
        go (inr l) (inr (inl r)) = absent_outside_in τ k c (absent_of s k l y c (s.fits y c r.1))
        go (inr l) (inr (inr r)) = (g.new_outside k l o).1 r.0 c r.2

    pub grow : Sound τ (S ++ N) (set C x (thread_of e') ++ D)
    grow = record {
      sizes = simp (length-append, length-set) (ap₂ ◌+◌ s.sizes g.sizes);
      fits = grown_fits;
      one_handle = grown_one_handle;
      linear = grown_linear;
      outside = grown_outside;
      gone = grown_gone;
    }

-- a component that is an expression
abbrev pub HasExpression : Component → Type 0
HasExpression (thread_of e) = Unit {0}
HasExpression (holds e) = Unit {0}
HasExpression (open_for y) = ⊥
HasExpression used = ⊥
HasExpression awaited = ⊥

module _ {τ : TypeNumbers} {S : List LinType} {C : Config} (s : Sound τ S C) where
  -- Expressions change to others of their types, in one component or more, and no once name stands more often in all: it may move from one to
  -- another.
  module _ {C' : Config} (same_length : length C' ≡ length C)
      (changed : (x : ℕ) (c : Component) → at C' x ≡ some c →
      (at C x ≡ some c) ⊎ (HasExpression c × Fits τ S C' x c × ((k : ℕ) → OnceName S k → In (Outside τ k) c)))
      (stays : (x : ℕ) (c : Component) → ¬ HasExpression c → at C x ≡ some c → at C' x ≡ some c)
      (counts : (k : ℕ) → OnceName S k → sum_all (sum_in (count k)) C' ≤ sum_all (sum_in (count k)) C) where
    pub change : Sound τ S C'
    change =
        let stayed : (x : ℕ) (c : Component) → ¬ HasExpression c → at C' x ≡ some c → at C x ≡ some c = λ x c n p. elim (changed x c p) [ inl q ↦ q | inr q ↦ absurd (n q.0) ] in
        record {
          sizes = s.sizes ∙ sym same_length;
          fits = λ x c p. elim (changed x c p) [
            | inl q ↦ fits_more τ S S C C' (λ i α e. e) (λ y. stays y awaited (λ n. n)) (λ z y. stays z (open_for y) (λ n. n)) x c (s.fits x c q)
            | inr q ↦ q.1
          ];
          one_handle = λ y z z' a b. s.one_handle y z z' (stayed z (open_for y) (λ n. n) a) (stayed z' (open_for y) (λ n. n) b);
          linear = λ k o. omega (arith, counts k o, s.linear k o);
          outside = λ k o x c p. elim (changed x c p) [ inl q ↦ s.outside k o x c q | inr q ↦ q.2 k o ];
          gone = λ k p.
              let g : at C k ≡ some used = stayed k used (λ n. n) p in
              let u : Fits τ S C k used = s.fits k used g in
              omega (arith, counts k (fun once u.0 unit_type, u.1, refl), s.gone k g);
        }

  -- a thread's expression changes
  pub replace : (x : ℕ) {e : Exp} (e' : Exp) → at C x ≡ some (thread_of e) → Fits τ S C x (thread_of e') →
      ((k : ℕ) → OnceName S k → (count k e' ≤ count k e) × Outside τ k e') → Sound τ S (set C x (thread_of e'))
  unfolding sum_in
  replace x {e} e' h f out = change (simp length-set)
      (λ k c p. elim (set_cases C x k (thread_of e') p) [
        | inl q ↦ rw (q.0, q.1) (inr (tt, f, λ j o. (out j o).1))
        | inr q ↦ inl q.1
      ])
      (λ k c n p. set_other C x k (thread_of e') (λ r. n (let q : thread_of e ≡ c = cc in rw (← q) tt)) ∙ p)
      (λ k o. omega (arith, sum_set (sum_in (count k)) C x (thread_of e') h, (out k o).0))

  -- a thread's expression and a cell's change together: once names may go from one to the other
  pub exchange : (x y : ℕ) {e w : Exp} (e' v : Exp) → at C x ≡ some (thread_of e) → at C y ≡ some (holds w) →
      Fits τ S C x (thread_of e') → Fits τ S C y (holds v) →
      ((k : ℕ) → OnceName S k → (count k e' + count k v ≤ count k e + count k w) × Outside τ k e' × Outside τ k v) →
      Sound τ S (set (set C x (thread_of e')) y (holds v))
  unfolding sum_in
  exchange x y {e} {w} e' v h g f f' out = change (simp length-set)
      (λ k c p. elim (set_cases (set C x (thread_of e')) y k (holds v) p) [
        | inl q ↦ rw (q.0, q.1) (inr (tt, f', λ j o. (out j o).2))
        | inr q ↦ elim (set_cases C x k (thread_of e') q.1) [
          | inl r ↦ rw (r.0, r.1) (inr (tt, f, λ j o. (out j o).1))
          | inr r ↦ inl r.1
        ]
      ])
      (λ k c n p. set_other (set C x (thread_of e')) y k (holds v) (λ r. n (let q : holds w ≡ c = cc in rw (← q) tt)) ∙
      set_other C x k (thread_of e') (λ r. n (let q : thread_of e ≡ c = cc in rw (← q) tt)) ∙ p)
      (λ k o. omega (
        arith,
        sum_set (sum_in (count k)) (set C x (thread_of e')) y (holds v) (set_other C x y (thread_of e') (λ r. clash (cc)) ∙ g),
        sum_set (sum_in (count k)) C x (thread_of e') h,
        (out k o).0,
      ))

  -- a handle that stands nowhere any more has given its future the value v
  module _ (z y : ℕ) (v : Exp) (h : at C z ≡ some (open_for y)) (unused : sum_all (sum_in (count z)) C ≡ 0)
      (d : (α : LinType) → at S y ≡ some α → Derivation τ S [] v α)
      (counts : (k : ℕ) → OnceName S k → count k v ≡ 0) where
    bound : Config
    bound = set (set C y (thread_of v)) z used

    handle_fits : Fits τ S C z (open_for y)
    handle_fits = s.fits z (open_for y) h

    z_once : OnceName S z
    z_once = (fun once handle_fits.0 unit_type, handle_fits.1, refl)

    differ : ¬ (z ≡ y)
    differ r = let f : Fits τ S C z (open_for y) = handle_fits in let w : at C y ≡ some awaited = f.4 in clash (cc)

    at_z : at (set C y (thread_of v)) z ≡ some (open_for y)
    at_z = set_other C y z (thread_of v) differ ∙ h

    bound_at : (k : ℕ) (c : Component) → at bound k ≡ some c →
        ((k ≡ z) × (c ≡ used)) ⊎ (((k ≡ y) × (c ≡ thread_of v)) ⊎ ((¬ (k ≡ z)) × (¬ (k ≡ y)) × (at C k ≡ some c)))
    unfolding bound
    bound_at k c p = elim (set_cases (set C y (thread_of v)) z k used p) [
      | inl r ↦ inl r
      | inr r ↦ elim (set_cases C y k (thread_of v) r.1) [ inl q ↦ inr (inl q) | inr q ↦ inr (inr (r.0, q.0, q.1)) ]
    ]

    others : (k : ℕ) (c : Component) → ¬ (k ≡ z) → ¬ (k ≡ y) → at C k ≡ some c → at bound k ≡ some c
    unfolding bound
    others k c n m p = set_other (set C y (thread_of v)) z k used n ∙ set_other C y k (thread_of v) m ∙ p

    bound_count : (k : ℕ) → sum_all (sum_in (count k)) bound ≡ sum_all (sum_in (count k)) C + count k v
    unfolding bound sum_in
    bound_count k = omega (arith, sum_set (sum_in (count k)) (set C y (thread_of v)) z used at_z, sum_set (sum_in (count k)) C y (thread_of v) handle_fits.4)

    bound_fits : (k : ℕ) (c : Component) → ¬ (k ≡ z) → ¬ (k ≡ y) → at C k ≡ some c → Fits τ S C k c → Fits τ S bound k c
    bound_fits k (thread_of e) n m p f = f
    bound_fits k (holds e) n m p f = f
    bound_fits k (open_for y') n m p f = (
      f.0,
      f.1,
      f.2,
      f.3,
      others y' awaited
          (λ e. let q : at C y' ≡ some awaited = f.4 in clash (cc))
          (λ e. n (s.one_handle y k z (rw e at p) h)) f.4,
    )
    bound_fits k used n m p f = f
    bound_fits k awaited n m p f = (
      f.0,
      others f.0 (open_for k)
          (λ e. m (let q : at C f.0 ≡ some (open_for k) = f.1 in cc))
          (λ e. let q : at C f.0 ≡ some (open_for k) = f.1 in let w : at C y ≡ some awaited = handle_fits.4 in clash (cc)) f.1,
    )

    pub bind : Sound τ S (set (set C y (thread_of v)) z used)
    unfolding bound
    bind = record {
      sizes = simp length-set s.sizes;
      fits = λ k c p. elim (bound_at k c p) [
        | inl r ↦ rw (r.0, r.1) (handle_fits.0, handle_fits.1)
        | inr (inl r) ↦ rw (r.0, r.1) (handle_fits.0, handle_fits.2, handle_fits.3, d _ handle_fits.2)
        | inr (inr r) ↦ bound_fits k c r.0 r.1 r.2 (s.fits k c r.2)
      ];
      one_handle = λ y' w w' a b. s.one_handle y' w w' (opened w y' a) (opened w' y' b);
      linear = λ k o. omega (arith, bound_count k, counts k o, s.linear k o);
      outside = λ k o x c p. elim (bound_at x c p) [
        | inl r ↦ rw r.1 tt
        | inr (inl r) ↦ rw r.1 (absent_outside k v (counts k o))
        | inr (inr r) ↦ s.outside k o x c r.2
      ];
      gone = λ k p. elim (bound_at k used p) [
        | inl r ↦ rw r.0 (omega (arith, bound_count z, counts z z_once, unused))
        | inr (inl r) ↦ absurd (clash (cc))
        | inr (inr r) ↦ let f : Fits τ S C k used = s.fits k used r.2 in
            omega (arith, bound_count k, counts k (fun once f.0 unit_type, f.1, refl), s.gone k r.2)
      ];
    }
      where
        opened : (w y' : ℕ) → at bound w ≡ some (open_for y') → at C w ≡ some (open_for y')
        opened w y' p = elim (bound_at w (open_for y') p) [
          | inl r ↦ absurd (clash (cc))
          | inr (inl r) ↦ absurd (clash (cc))
          | inr (inr r) ↦ r.2
        ]
