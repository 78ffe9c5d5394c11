-- A turn of another bay, in an image where that bay's expressions name only its names: nothing of bay k moves.
use Rattle.std.proofs.Common.{◌∙◌, ap, sym, append-nil, arith, length-append, length-set}
use Rattle.std.specs.Prelude.{◌≡◌, refl, ◌++◌, ℕ, length, replicate, set}
use Rattle.std.proofs.Math.Option.{some}
use Rattle.std.proofs.lemmas.List.{length-replicate}
use Rattle.calculus.specs.Syntax.{op, exch, Exp, name, const, app, Component, thread_of, open_for, Config, at}
use Rattle.calculus.specs.Typing.{TypeNumbers}
use Rattle.calculus.specs.Reduction.{Context, hole, in_function, in_argument, in_first, in_second, in_subject, plug, Rule, Reduces, beta, thread_new, future_deref, future_deref_exch, future_deref_case, handle_new, handle_bind, cell_new, cell_exch, case_both}
use Rattle.calculus.specs.Owners.{Owners, Owned, grown}
use Rattle.calculus.proofs.Theory.Lists.{at_bound, append_left}
use Rattle.calculus.specs.Shares.{of_bay}
use Rattle.bays_apart.specs.Same.{Names, Same, same_name, same_app, same_both, same_case, SameComponent, same_thread, same_open}
use Rattle.calculus.proofs.Theory.BaySums.{bay_append}
use Rattle.bays_apart.proofs.Theory.OfBay.{of_bay_set_other, of_bay_none, rank_append}
use Rattle.bays_apart.proofs.Theory.Mirrors.{Mine, Mirrors, with, owners_stay, owners_come, mirrors_at, Unmoved}

-- changes of names that bay j owns
pub data Touches (j : ℕ) (O : Owners) (C : Config) : Config → Type 0 where
  untouched : Touches j O C C
  touch : {D : Config} (n : ℕ) (c : Component) → at O n ≡ some j → Touches j O C D → Touches j O C (set D n c)

touches_length : {j : ℕ} {O : Owners} {C D : Config} → Touches j O C D → length D ≡ length C
touches_length untouched = refl
touches_length (touch {D = D} n c h t) = length-set D n c ∙ touches_length t

-- they are no changes of what bay k owns
touches_part : {j : ℕ} {O : Owners} {C D : Config} (k : ℕ) → ¬ (j ≡ k) → Touches j O C D → of_bay k O D ≡ of_bay k O C
touches_part k d untouched = refl
touches_part {j} {O} k d (touch {D = D} n c h t) = of_bay_set_other k j O D n c h d ∙ touches_part k d t

module _ {j k : ℕ} (d : ¬ (j ≡ k)) {I : Owned} (s : length I.owners ≡ length I.config) (x : ℕ) (h : at I.owners x ≡ some j) where
  -- no name comes
  by_touching : {C' : Config} → Touches j I.owners I.config C' → Unmoved k I (grown I x C')
  by_touching {C'} t =
      let l : length I.owners ≡ length C' = s ∙ sym (touches_length t) in
      let u : Unmoved k I (with I C') = record { sizes = l; same_part = touches_part k d t; same_names = λ n p. (p, refl) } in
      rw (owners_stay I.owners x C' l) u

  -- names come
  by_growing : {D : Config} (N : Config) → Touches j I.owners I.config D → Unmoved k I (grown I x (D ++ N))
  by_growing {D} N t = rw e (record {
    sizes = rw (length-append, length-replicate, length-append) (omega (arith, l));
    same_part = bay_append k I.owners (replicate (length N) j) D N l ∙ rw (of_bay_none k j (length N) N d, append-nil) (touches_part k d t);
    same_names = λ n p. (append_left I.owners _ n p, rank_append k I.owners (replicate (length N) j) n (let b = at_bound I.owners n p in omega arith));
  })
    where
      l : length I.owners ≡ length D
      l = s ∙ sym (touches_length t)

      e : grown I x (D ++ N) ≡ record { config = D ++ N; owners = I.owners ++ replicate (length N) j }
      e = ap (λ O. record { config = D ++ N; owners = O }) (owners_come I.owners x j D N l h)

-- what stands in a context is the same as something
same_inside : {N : Names} {τ σ : TypeNumbers} (F : Context) {e g : Exp} → Same N τ σ (plug F e) g → (f : Exp) × Same N τ σ e f
unfolding plug
same_inside hole s = (_, s)
same_inside (in_function F a) (same_app s u) = same_inside F s
same_inside (in_argument v w F) (same_app s u) = same_inside F u
same_inside (in_first k t F a) (same_both p s u) = same_inside F s
same_inside (in_second k t v w F) (same_both p s u) = same_inside F u
same_inside (in_subject k F a) (same_case s u) = same_inside F s

function_name : {N : Names} {τ σ : TypeNumbers} {n : ℕ} {v g : Exp} → Same N τ σ (app (name n) v) g → (m : ℕ) × N n m
function_name (same_app (same_name p) s) = (_, p)

exchanged_name : {N : Names} {τ σ : TypeNumbers} {t n : ℕ} {v g : Exp} → Same N τ σ (app (app (const (op exch t)) (name n)) v) g → (m : ℕ) × N n m
exchanged_name (same_app (same_app c (same_name p)) s) = (_, p)

same_expression : {N : Names} {τ σ : TypeNumbers} {e : Exp} {c : Component} → SameComponent N τ σ (thread_of e) c → (f : Exp) × Same N τ σ e f
same_expression (same_thread s) = (_, s)

same_future : {N : Names} {τ σ : TypeNumbers} {y : ℕ} {c : Component} → SameComponent N τ σ (open_for y) c → (m : ℕ) × N y m
same_future (same_open p) = (_, p)

module _ {j k : ℕ} (d : ¬ (j ≡ k)) {τ : TypeNumbers} {I : Owned} (B : Mirrors j τ τ I I) (x : ℕ) (h : at I.owners x ≡ some j) where
  -- the expression of the thread that goes
  redex : (F : Context) (e : Exp) → at I.config x ≡ some (thread_of (plug F e)) → (f : Exp) × Same (Mine j I I) τ τ e f
  redex F e g = let (_, _, s) = mirrors_at B (record { owned_left = h; owned_right = h; same_rank = refl }) _ g in same_inside F (same_expression s).1

  pub other : {r : Rule} {C' : Config} → Reduces I.config x r C' → Unmoved k I (grown I x C')
  other (beta F t e v wv g) = by_touching d B.sizes_left x h (touch x _ h untouched)
  other (thread_new F t v wv g) = by_growing d B.sizes_left x h _ (touch x _ h untouched)
  other (future_deref F y v w wv ww g g') = by_touching d B.sizes_left x h (touch x _ h untouched)
  other (future_deref_exch F t y v w wv ww g g') = by_touching d B.sizes_left x h (touch x _ h untouched)
  other (handle_new F t v wv g) = by_growing d B.sizes_left x h _ (touch x _ h untouched)
  other (handle_bind F z y v wv g g') =
      let (m, p) = function_name (redex F (app (name z) v) g).1 in
      let (_, _, s) = mirrors_at B p (open_for y) g' in
      let (_, q) = same_future s in
      by_touching d B.sizes_left x h (touch z _ p.owned_left (touch y _ q.owned_left (touch x _ h untouched)))
  other (cell_new F t v wv g) = by_growing d B.sizes_left x h _ (touch x _ h untouched)
  other (cell_exch F t y v w wv g g') =
      let (m, p) = exchanged_name (redex F (app (app (const (op exch t)) (name y)) v) g).1 in
      by_touching d B.sizes_left x h (touch y _ p.owned_left (touch x _ h untouched))
  other (future_deref_case F s y w e ww g g') = by_touching d B.sizes_left x h (touch x _ h untouched)
  other (case_both F s t v₁ v₂ e w w' g) = by_touching d B.sizes_left x h (touch x _ h untouched)
