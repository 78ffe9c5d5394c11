-- A search in order finds the least string that passes the test and comes after the bound, and answers none only where there is none.
use Rattle.std.proofs.Common.{◌∙◌, ap₂, subst, sym, inl, inr}
use Rattle.std.specs.Prelude.{◌≡◌, ◌⊎◌, Bool, cond, false, true}
use Rattle.std.proofs.Math.Path.{ap, refl}
use Rattle.std.proofs.lemmas.Bool.{false≢true}
use Rattle.std.proofs.Math.Option.{Option, none, some}
use mathlib.Core.List.{List, [], ◌++◌, ◌∷◌, append_assoc, append-nil}
use Prim.Native.Nat.{suc, zero, ℕ}
use Rattle.list_spec.specs.Order.{Before, Bound, free, above, After, Passed, behind, on, passed}
use Rattle.list_spec.specs.Search.{Branch, or_else, when_on, try_each, finish, find}
use Rattle.list_spec.proofs.Theory.Order.{Lower, lower_before, nothing_before, before_asymmetric, before_drop, SaysOf, passed_says}

-- what stands in a list
pub data Member {A : Type 0} (a : A) : List A → Type 0 where
  first : {l : List A} → Member a (a ∷ l)
  among : {b : A} {l : List A} → Member a l → Member a (b ∷ l)

-- branches in ascending order
pub data Ascending {S : Type 0} : List (Branch S) → Type 0 where
  ascending_nil : Ascending []
  ascending_cons : {b : Branch S} {bs : List (Branch S)} → ((c : Branch S) → Member c bs → Lower b.piece c.piece) → Ascending bs → Ascending (b ∷ bs)

module _ {S : Type 0} (branches : ℕ → S → List (Branch S)) where
  -- the strings of r pieces
  pub data Word : ℕ → S → List ℕ → Type 0 where
    no_more : {x : S} → Word zero x []
    piece_and : {r : ℕ} {x : S} {b : Branch S} {w : List ℕ} → Member b (branches r x) → Word r b.next w → Word (suc r) x (b.piece ++ w)

  -- the strings whose first piece is one of these branches
  pub data WordIn (r : ℕ) (bs : List (Branch S)) : List ℕ → Type 0 where
    word_in : {b : Branch S} {w : List ℕ} → Member b bs → Word r b.next w → WordIn r bs (b.piece ++ w)

  word_of : {r : ℕ} {x : S} {w : List ℕ} → WordIn r (branches r x) w → Word (suc r) x w
  word_of (word_in m d) = piece_and m d

  in_word : {r : ℕ} {x : S} {w : List ℕ} → Word (suc r) x w → WordIn r (branches r x) w
  in_word (piece_and m d) = word_in m d

  module _ (test : List ℕ → Bool) where
    -- an answer is the least among some strings that go on from s, pass the test and come after the bound
    pub data Least (P : List ℕ → Type 0) (s : List ℕ) (low : Bound) : Option (List ℕ) → Type 0 where
      nowhere : ((w : List ℕ) → P w → test (s ++ w) ≡ true → After low w → ⊥) → Least P s low none
      least : (w : List ℕ) → P w → test (s ++ w) ≡ true → After low w
          → ((v : List ℕ) → P v → test (s ++ v) ≡ true → After low v → Before v w → ⊥) → Least P s low (some (s ++ w))

    at_end : (x : S) (s : List ℕ) (low : Bound) → Least (Word zero x) s low (finish test s low)
    at_end x s free = go (test s) refl
      where
        go : (b : Bool) → test s ≡ b → Least (Word zero x) s free (cond b (some s) none)
        go true e = subst (λ t. Least (Word zero x) s free (some t)) (append-nil s)
            (least [] no_more (rw (append-nil s) e) tt (λ v d p a b. nothing_before v b))
        go false e = nowhere (λ w d p a. false_word w d p)
          where
            false_word : (w : List ℕ) → Word zero x w → test (s ++ w) ≡ true → ⊥
            false_word [] no_more p = false≢true (sym e ∙ ap test (sym (append-nil s)) ∙ p)
            false_word (_ ∷ _) d p = elim d [ ]
    at_end x s (above l) = nowhere (λ w d p a. bad w d a)
      where
        bad : (w : List ℕ) → Word zero x w → Before l w → ⊥
        bad [] no_more b = nothing_before l b
        bad (_ ∷ _) d b = elim d [ ]

    -- one branch
    module _ (r : ℕ) (s : List ℕ) where
      shift : (p w : List ℕ) → test (s ++ (p ++ w)) ≡ true → test ((s ++ p) ++ w) ≡ true
      shift p w e = ap test (append_assoc s p w) ∙ e

      back : (p w : List ℕ) → test ((s ++ p) ++ w) ≡ true → test (s ++ (p ++ w)) ≡ true
      back p w e = ap test (sym (append_assoc s p w)) ∙ e

      entered : (b : Branch S) (low low' : Bound) {o : Option (List ℕ)} → SaysOf low b.piece (on low')
          → Least (Word r b.next) (s ++ b.piece) low' o → Least (WordIn r (b ∷ [])) s low o
      entered b low low' h (nowhere n) = nowhere λ w d e a. no w d e a
        where
          no : (w : List ℕ) → WordIn r (b ∷ []) w → test (s ++ w) ≡ true → After low w → ⊥
          no _ (word_in {w = w} first d) e a = n w d (shift b.piece w e) ((h w).0 a)
          no _ (word_in (among m) d) e a = elim m [ ]
      entered b low low' h (least w d e a m) = subst (λ t. Least (WordIn r (b ∷ [])) s low (some t)) (sym (append_assoc s b.piece w))
          (least (b.piece ++ w) (word_in first d) (back b.piece w e) ((h w).1 a) λ v c f g k. no v c f g k)
        where
          no : (v : List ℕ) → WordIn r (b ∷ []) v → test (s ++ v) ≡ true → After low v → Before v (b.piece ++ w) → ⊥
          no _ (word_in {w = v} first c) f g k = m v c (shift b.piece v f) ((h v).0 g) (before_drop b.piece k)
          no _ (word_in {w = v} (among i) c) f g k = elim i [ ]

      one_branch : (b : Branch S) (low : Bound) (f : Bound → Option (List ℕ)) (o : Passed) → SaysOf low b.piece o
          → ((low' : Bound) → Least (Word r b.next) (s ++ b.piece) low' (f low')) → Least (WordIn r (b ∷ [])) s low (when_on o f)
      one_branch b low f behind h k = nowhere λ w d e a. no w d a
        where
          no : (w : List ℕ) → WordIn r (b ∷ []) w → After low w → ⊥
          no _ (word_in {w = w} first d) a = h w a
          no _ (word_in (among m) d) a = elim m [ ]
      one_branch b low f (on low') h k = entered b low low' h (k low')

      -- the first of several, or else the others
      from_cons : {b : Branch S} {bs : List (Branch S)} {w : List ℕ} → WordIn r (b ∷ bs) w → WordIn r (b ∷ []) w ⊎ WordIn r bs w
      from_cons (word_in first d) = inl (word_in first d)
      from_cons (word_in (among m) d) = inr (word_in m d)

      to_first : {b : Branch S} {bs : List (Branch S)} {w : List ℕ} → WordIn r (b ∷ []) w → WordIn r (b ∷ bs) w
      to_first (word_in first d) = word_in first d
      to_first (word_in (among m) d) = elim m [ ]

      to_rest : {b : Branch S} {bs : List (Branch S)} {w : List ℕ} → WordIn r bs w → WordIn r (b ∷ bs) w
      to_rest (word_in m d) = word_in (among m) d

      above_first : {b : Branch S} {bs : List (Branch S)} {v w : List ℕ} → ((c : Branch S) → Member c bs → Lower b.piece c.piece)
          → WordIn r (b ∷ []) w → WordIn r bs v → Before v w → ⊥
      above_first h (word_in {w = w} first d) (word_in {b = c} {w = v} m e) k = before_asymmetric k (lower_before w v (h c m))
      above_first h (word_in (among i) d) _ k = elim i [ ]

      joined : {b : Branch S} {bs : List (Branch S)} {low : Bound} {o o' : Option (List ℕ)} → ((c : Branch S) → Member c bs → Lower b.piece c.piece)
          → Least (WordIn r (b ∷ [])) s low o → Least (WordIn r bs) s low o' → Least (WordIn r (b ∷ bs)) s low (or_else o o')
      joined l (nowhere n) (nowhere m) = nowhere λ w d e a. elim (from_cons d) [ inl c ↦ n w c e a | inr c ↦ m w c e a ]
      joined l (nowhere n) (least w d e a m) = least w (to_rest d) e a λ v c f g k. elim (from_cons c) [ inl x ↦ n v x f g | inr x ↦ m v x f g k ]
      joined l (least w d e a m) x = least w (to_first d) e a λ v c f g k. elim (from_cons c) [ inl y ↦ m v y f g k | inr y ↦ above_first l d y k ]

      no_branch : {w : List ℕ} → WordIn r [] w → ⊥
      no_branch (word_in m d) = elim m [ ]

      tried : (f : Branch S → Bound → Option (List ℕ)) → ((b : Branch S) (low : Bound) → Least (Word r b.next) (s ++ b.piece) low (f b low))
          → (low : Bound) (bs : List (Branch S)) → Ascending bs → Least (WordIn r bs) s low (try_each f low bs)
      tried f h low [] a = nowhere λ w d e b. no_branch d
      tried f h low (b ∷ bs) (ascending_cons l a) = joined l (one_branch b low (f b) (passed low b.piece) (passed_says low b.piece) (h b)) (tried f h low bs a)

    -- other words for the same strings
    pub least_of : {P Q : List ℕ → Type 0} {s : List ℕ} {low : Bound} {o : Option (List ℕ)} → ((w : List ℕ) → P w → Q w) → ((w : List ℕ) → Q w → P w)
        → Least P s low o → Least Q s low o
    least_of f g (nowhere n) = nowhere λ w d. n w (g w d)
    least_of f g (least w d e a m) = least w (f w d) e a λ v c. m v (g v c)

    -- the search finds the least
    pub found : ((r : ℕ) (x : S) → Ascending (branches r x)) → (r : ℕ) (x : S) (s : List ℕ) (low : Bound) → Least (Word r x) s low (find branches test r x s low)
    unfolding find
    found a zero x s low = at_end x s low
    found a (suc r) x s low = least_of (λ w d. word_of d) (λ w d. in_word d)
        (tried r s _ (λ b low'. found a r b.next (s ++ b.piece) low') low (branches r x) (a r x))

-- two tests that agree on all strings of the search find the same
module _ {S : Type 0} where
  each_same : (f g : Branch S → Bound → Option (List ℕ)) (low : Bound) (bs : List (Branch S)) → ((b : Branch S) → Member b bs → (low' : Bound) → f b low' ≡ g b low')
      → try_each f low bs ≡ try_each g low bs
  each_same f g low [] h = refl
  each_same f g low (b ∷ bs) h = ap₂ or_else (one (passed low b.piece)) (each_same f g low bs λ c d. h c (among d))
    where
      one : (o : Passed) → when_on o (f b) ≡ when_on o (g b)
      one behind = refl
      one (on low') = h b first low'

  pub same_find : (branches : ℕ → S → List (Branch S)) (test test' : List ℕ → Bool) (r : ℕ) (x : S) (s : List ℕ) (low : Bound)
      → ((w : List ℕ) → Word branches r x w → test (s ++ w) ≡ test' (s ++ w)) → find branches test r x s low ≡ find branches test' r x s low
  unfolding find
  same_find branches test test' zero x s free h = let e = h [] no_more in let z : test s ≡ test' s = rw (append-nil s) at e in rw z refl
  same_find branches test test' zero x s (above l) h = refl
  same_find branches test test' (suc r) x s low h = each_same _ _ low (branches r x) λ b d low'.
      same_find branches test test' r b.next (s ++ b.piece) low' λ w i.
      ap test (append_assoc s b.piece w) ∙ (h (b.piece ++ w) (piece_and d i) ∙ ap test' (sym (append_assoc s b.piece w)))
