-- The threads of an image, counted in ascending number: name after name, and by the configuration.
use Rattle.std.proofs.Common.{◌∙◌, sym, add-one}
use Rattle.std.specs.Prelude.{◌≡◌, ◌↔◌, Bool}
use Rattle.std.proofs.Math.Path.{ap, refl}
use Rattle.std.proofs.Math.Bool.{cond, false, true}
use Rattle.std.proofs.Math.Option.{some}
use mathlib.Core.List.{List, [], ◌∷◌, ◌++◌, append_assoc, append-nil}
use Prim.Native.Nat.{ℕ, zero, suc, ◌+◌, ◌<◌, ◌≤◌}
use Rattle.std.proofs.Math.Decide.{dec_lt}
use native.Mathlib.Omega.{arith}
use Rattle.std.proofs.Math.ListN.{get_or-append, get_or, length, length-append}
use Rattle.std.proofs.Math.Seq.{get_or-append_seam}
use Rattle.calculus.specs.Kinds.{thread_kind}
use Rattle.calculus.specs.Syntax.{Component, thread_of, holds, open_for, used, awaited, Exp, at}
use Rattle.calculus.specs.Owners.{Owned, owner}
use Rattle.calculus.proofs.Theory.Tests.{eqb_complete, eqb_sound}
use Rattle.calculus.proofs.Theory.Lists.{append_right, at_below, at_bound, get_d_at}
use Rattle.image_layout.specs.Slice.{kind_at, names}
use Rattle.image.specs.Configuration.{encode, image_of}
use Rattle.image.proofs.Theory.Exactly.{kind_written, names_are}
use Rattle.draw_spec.specs.Draws.{has_thread_kind, threads, threads_below}

module _ (image : List ℕ) where
  -- one name more: a thread is counted, another name is not
  pub one_more : (n : ℕ) → has_thread_kind image n ≡ true → threads_below image (n + 1) ≡ threads_below image n ++ n ∷ []
  unfolding threads_below
  one_more n e = ap (threads_below image) (add-one n) ∙ rw e refl

  pub none_more : (n : ℕ) → has_thread_kind image n ≡ false → threads_below image (n + 1) ≡ threads_below image n
  unfolding threads_below
  none_more n e = ap (threads_below image) (add-one n) ∙ rw (e, append-nil) refl

  -- those among fewer names come first
  pub begins_with : (n x : ℕ) → x ≤ n → (more : List ℕ) × (threads_below image n ≡ threads_below image x ++ more)
  unfolding threads_below
  begins_with zero x l =
      let e : x ≡ 0 = omega arith in
      ([], rw e refl)
  begins_with (suc n) x l = go (dec_lt x (suc n)) (begins_with n x)
    where
      go : Dec (x < suc n) → (x ≤ n → (more : List ℕ) × (threads_below image n ≡ threads_below image x ++ more)) →
          (more : List ℕ) × (threads_below image (suc n) ≡ threads_below image x ++ more)
      go (yes h) earlier =
          let (more, e) = earlier (omega arith) in
          let last = cond (has_thread_kind image n) (n ∷ []) [] in
          (more ++ last, rw e (append_assoc (threads_below image x) more last))
      go (no h) earlier =
          let e : x ≡ suc n = omega arith in
          ([], rw e (sym (append-nil (threads_below image (suc n)))))

  -- a thread is counted after those below it
  pub counted : (n x : ℕ) → x < n → has_thread_kind image x ≡ true →
      (get_or (threads_below image n) (length (threads_below image x)) 0 ≡ x) × (length (threads_below image x) < length (threads_below image n))
  counted n x l t =
      let (more, e) = begins_with n (x + 1) (omega arith) in
      let whole : threads_below image n ≡ threads_below image x ++ x ∷ more = e ∙ ap (λ (s : List ℕ). s ++ more) (one_more x t) ∙ append_assoc (threads_below image x) (x ∷ []) more in
      (rw whole (get_or-append_seam (threads_below image x) x more 0), rw (whole, length-append) (omega arith))

  -- and nothing else is
  pub is_counted : (n i : ℕ) → i < length (threads_below image n) → (get_or (threads_below image n) i 0 < n) × (has_thread_kind image (get_or (threads_below image n) i 0) ≡ true)
  unfolding threads_below
  is_counted zero i l = absurd (omega arith)
  is_counted (suc n) i l = go (has_thread_kind image n) refl (dec_lt i (length (threads_below image n))) l (is_counted n i)
    where
      go : (t : Bool) → has_thread_kind image n ≡ t → Dec (i < length (threads_below image n)) → i < length (threads_below image n ++ cond t (n ∷ []) []) →
          (i < length (threads_below image n) → (get_or (threads_below image n) i 0 < n) × (has_thread_kind image (get_or (threads_below image n) i 0) ≡ true)) →
          (get_or (threads_below image n ++ cond t (n ∷ []) []) i 0 < suc n) × (has_thread_kind image (get_or (threads_below image n ++ cond t (n ∷ []) []) i 0) ≡ true)
      go t e (yes h) l earlier = let (below, is) = earlier h in rw (get_or-append (threads_below image n) (cond t (n ∷ []) []) 0 i h) (omega arith, is)
      go true e (no h) l earlier =
          let place : i ≡ length (threads_below image n) = omega (arith, length-append (threads_below image n) (n ∷ [])) in
          let last : get_or (threads_below image n ++ (n ∷ [])) i 0 ≡ n = rw place (get_or-append_seam (threads_below image n) n [] 0) in
          rw last (omega arith, e)
      go false e (no h) l earlier = absurd (h (rw append-nil at l))

  -- so many are below the one with this index
  pub so_many_below : (n i : ℕ) → i < length (threads_below image n) → length (threads_below image (get_or (threads_below image n) i 0)) ≡ i
  unfolding threads_below
  so_many_below zero i l = absurd (omega arith)
  so_many_below (suc n) i l = go (has_thread_kind image n) (dec_lt i (length (threads_below image n))) l (so_many_below n i)
    where
      go : (t : Bool) → Dec (i < length (threads_below image n)) → i < length (threads_below image n ++ cond t (n ∷ []) []) →
          (i < length (threads_below image n) → length (threads_below image (get_or (threads_below image n) i 0)) ≡ i) →
          length (threads_below image (get_or (threads_below image n ++ cond t (n ∷ []) []) i 0)) ≡ i
      go t (yes h) l earlier = rw (get_or-append (threads_below image n) (cond t (n ∷ []) []) 0 i h) (earlier h)
      go true (no h) l earlier =
          let place : i ≡ length (threads_below image n) = omega (arith, length-append (threads_below image n) (n ∷ [])) in
          let last : get_or (threads_below image n ++ (n ∷ [])) i 0 ≡ n = rw place (get_or-append_seam (threads_below image n) n [] 0) in
          rw last (sym place)
      go false (no h) l earlier = absurd (h (rw append-nil at l))

  -- the list has the names of kind 1 and no other, in ascending number
  listed_at : (n x : ℕ) → x < n → has_thread_kind image x ≡ true → (i : ℕ) × (at (threads_below image n) i ≡ some x)
  listed_at n x l t =
      let (more, e) = begins_with n (x + 1) (omega arith) in
      let whole : threads_below image n ≡ threads_below image x ++ x ∷ more =
      e ∙ ap (λ (s : List ℕ). s ++ more) (one_more x t) ∙ append_assoc (threads_below image x) (x ∷ []) more in
      (length (threads_below image x) + 0, rw whole (append_right (threads_below image x) (x ∷ more) 0))

  only_listed : (n i : ℕ) {x : ℕ} → at (threads_below image n) i ≡ some x → (x < n) × (has_thread_kind image x ≡ true)
  only_listed n i {x} h =
      let (below, is) = is_counted n i (at_bound (threads_below image n) i h) in
      let e : get_or (threads_below image n) i 0 ≡ x = get_d_at (threads_below image n) i h in
      (omega (arith, below, e), ap (has_thread_kind image) (sym e) ∙ is)

  pub kind_1_iff : (x : ℕ) → ((i : ℕ) × (at (threads image) i ≡ some x)) ↔ ((x < names image) × (kind_at image x ≡ thread_kind))
  unfolding has_thread_kind
  kind_1_iff x = (
    λ (i, h). let (l, t) = only_listed (names image) i h in (l, eqb_sound (kind_at image x) thread_kind t),
    λ (l, k). listed_at (names image) x l (eqb_complete (kind_at image x) thread_kind k),
  )

  pub in_order : (n i j : ℕ) {x y : ℕ} → at (threads_below image n) i ≡ some x → at (threads_below image n) j ≡ some y → i < j → x < y
  in_order n i j {x} {y} h g l =
      let p : length (threads_below image x) ≡ i = rw (get_d_at (threads_below image n) i h) at (so_many_below n i (at_bound (threads_below image n) i h)) in
      let q : length (threads_below image y) ≡ j = rw (get_d_at (threads_below image n) j g) at (so_many_below n j (at_bound (threads_below image n) j g)) in
      elim (dec_lt x y) [
        | yes r ↦ r
        | no r ↦ let (more, e) = begins_with x y (omega arith) in absurd (omega (arith, ap length e ∙ length-append (threads_below image y) more))
      ]

-- the threads of the image of a configuration are its threads, whoever owns them
module _ (I : Owned) where
  pub thread_listed : (x : ℕ) {e : Exp} → at I.config x ≡ some (thread_of e) → (x < names (image_of I)) × (has_thread_kind (image_of I) x ≡ true)
  unfolding has_thread_kind encode
  thread_listed x h = (omega (arith, names_are I, at_bound I.config x h), rw (kind_written I x h) refl)

  pub listed_thread : (x : ℕ) → x < names (image_of I) → has_thread_kind (image_of I) x ≡ true → (e : Exp) × (at I.config x ≡ some (thread_of e))
  unfolding has_thread_kind encode
  listed_thread x l t =
      let (c, h) = at_below I.config x (omega (arith, names_are I)) in
      go c h (sym (kind_written I x h) ∙ eqb_sound (kind_at (image_of I) x) thread_kind t)
    where
      go : (c : Component) → at I.config x ≡ some c → (encode c (owner I.owners x)).kind ≡ thread_kind → (e : Exp) × (at I.config x ≡ some (thread_of e))
      go (thread_of e) h k = (e, h)
      go (holds v) h k = absurd (omega (arith, k))
      go (open_for y) h k = absurd (omega (arith, k))
      go used h k = absurd (omega (arith, k))
      go awaited h k = absurd (omega (arith, k))
