-- Going on from each term given lists all, each once, in ascending order, and comes to an end.
use Rattle.std.specs.Prelude.{◌≡◌, refl, ◌↔◌, ◌⊎◌, List, [], ◌++◌, ◌∷◌, map, ◌≤◌, suc, zero, ℕ, length}
use Rattle.std.proofs.Common.{ap, inl, inr, arith}
use Rattle.std.proofs.Math.Option.{Option, none, some}
use Rattle.calculus.specs.Table.{Table}
use Rattle.list_spec.specs.Order.{Before}
use Rattle.list_spec.specs.Search.{Branch}
use Rattle.list_spec.specs.Listed.{GoesOn, stops, gives}
use Rattle.list_spec.specs.Goals.{beginning, branches}
use Rattle.list_spec.specs.NextTerm.{search}
use Rattle.list_spec.proofs.Theory.Order.{before_irreflexive, before_trans, Ordered, earlier, equal, later, ordered}
use Rattle.list_spec.proofs.Theory.Search.{Member, first, among, Word, no_more, piece_and}
use Rattle.list_spec.proofs.Theory.Ascending.{member_left, member_right, member_map, none_in}
use Rattle.list_spec.proofs.Theory.Exact.{ListedIn, listed_word, NextIn, Means, search_means, search_some, search_none}

-- each comes before all that follow: ascending, and so each once
pub data Rising : List (List ℕ) → Type 0 where
  rising_nil : Rising []
  rising_cons : {s : List ℕ} {l : List (List ℕ)} → ((t : List ℕ) → Member t l → Before s t) → Rising l → Rising (s ∷ l)

module _ (T : Table) (size : ℕ) where
  member_listed : {after : List ℕ} {l : List (List ℕ)} → GoesOn (search T size) after l → {t : List ℕ} → Member t l → ListedIn T size t × Before after t
  member_listed {after} (gives {s = s} e g) first = let n = (search_some T size after s).0 e in (n.listed, n.comes_after)
  member_listed {after} (gives {s = s} e g) (among d) =
      let n = (search_some T size after s).0 e in
      let (a, b) = member_listed g d in
      (a, before_trans n.comes_after b)
  member_listed (stops e) d = absurd (none_in d)

  place : {s t : List ℕ} {l : List (List ℕ)} → Ordered t s → (Before t s → ⊥) → (Before s t → Member t l) → Member t (s ∷ l)
  place (earlier b) f g = absurd (f b)
  place equal f g = first
  place (later b) f g = among (g b)

  listed_member : {after : List ℕ} {l : List (List ℕ)} → GoesOn (search T size) after l → (t : List ℕ) → ListedIn T size t → Before after t → Member t l
  listed_member {after} (stops e) t h b = absurd ((search_none T size after).0 e t h b)
  listed_member {after} (gives {s = s} e g) t h b =
      let n = (search_some T size after s).0 e in
      place (ordered t s) (λ k. n.first t h b k) (λ k. listed_member g t h k)

  -- all that come after, and no others
  pub lists_all : {after : List ℕ} {l : List (List ℕ)} → GoesOn (search T size) after l → (t : List ℕ) → Member t l ↔ (ListedIn T size t × Before after t)
  lists_all g t = (λ d. member_listed g d, λ (h, b). listed_member g t h b)

  -- in ascending order, each once
  pub lists_rising : {after : List ℕ} {l : List (List ℕ)} → GoesOn (search T size) after l → Rising l
  lists_rising (stops e) = rising_nil
  lists_rising (gives e g) = rising_cons (λ t d. (member_listed g d).1) (lists_rising g)

-- the strings of the search are finitely many
joined : {S : Type 0} → (Branch S → List (List ℕ)) → List (Branch S) → List (List ℕ)
joined f [] = []
joined f (b ∷ bs) = map (λ w. b.piece ++ w) (f b) ++ joined f bs

words : {S : Type 0} → (ℕ → S → List (Branch S)) → ℕ → S → List (List ℕ)
words branches zero x = [] ∷ []
words branches (suc r) x = joined (λ b. words branches r b.next) (branches r x)

in_joined : {S : Type 0} (f : Branch S → List (List ℕ)) (bs : List (Branch S)) {b : Branch S} {w : List ℕ} → Member b bs → Member w (f b) → Member (b.piece ++ w) (joined f bs)
unfolding joined
in_joined f (b ∷ bs) first m = member_left _ (member_map (λ w. b.piece ++ w) m)
in_joined f (b ∷ bs) (among d) m = member_right (map (λ w. b.piece ++ w) (f b)) (in_joined f bs d m)
in_joined f [] d m = elim d [ ]

word_in_words : {S : Type 0} (branches : ℕ → S → List (Branch S)) (r : ℕ) (x : S) (w : List ℕ) → Word branches r x w → Member w (words branches r x)
unfolding words
word_in_words branches zero x _ no_more = first
word_in_words branches (suc r) x _ (piece_and {b = b} {w = w} m d) = in_joined (λ c. words branches r c.next) (branches r x) m (word_in_words branches r b.next w d)

-- a list without one of its members
without : {A : Type 0} {a : A} (l : List A) → Member a l → List A
without (b ∷ l) first = l
without (b ∷ l) (among d) = b ∷ without l d
without [] d = elim d [ ]

length_without : {A : Type 0} {a : A} (l : List A) (d : Member a l) → suc (length (without l d)) ≡ length l
unfolding without
length_without (b ∷ l) first = refl
length_without (b ∷ l) (among d) = ap suc (length_without l d)
length_without [] d = elim d [ ]

still_in : {A : Type 0} {a c : A} (l : List A) (d : Member a l) → Member c l → (c ≡ a) ⊎ Member c (without l d)
unfolding without
still_in (b ∷ l) first first = inl refl
still_in (b ∷ l) first (among e) = inr e
still_in (b ∷ l) (among d) first = inr first
still_in (b ∷ l) (among d) (among e) = elim (still_in l d e) [ inl p ↦ inl p | inr m ↦ inr (among m) ]
still_in [] d _ = elim d [ ]

module _ (T : Table) (size : ℕ) where
  onward : (after : List ℕ) → ((s : List ℕ) → NextIn T size after s → (l : List (List ℕ)) × GoesOn (search T size) s l)
      → (o : Option (List ℕ)) → search T size after ≡ o → Means T size after o → (l : List (List ℕ)) × GoesOn (search T size) after l
  onward after ih none e m = ([], stops e)
  onward after ih (some s) e m = let (l, g) = ih s m in (s ∷ l, gives e g)

  exhaust : (n : ℕ) (all : List (List ℕ)) → length all ≤ n → (after : List ℕ) → ((t : List ℕ) → ListedIn T size t → Before after t → Member t all)
      → (l : List (List ℕ)) × GoesOn (search T size) after l
  exhaust zero all h after f =
      onward after (λ s m. absurd (omega (arith, length_without all (f s m.listed m.comes_after)))) (search T size after) refl (search_means T size after)
  exhaust (suc n) all h after f = onward after (λ s m.
      let d = f s m.listed m.comes_after in
      exhaust n (without all d) (omega (arith, length_without all d)) s (λ t i b.
      elim (still_in all d (f t i (before_trans m.comes_after b))) [ inl p ↦ absurd (before_irreflexive (rw p at b)) | inr k ↦ k ]))
      (search T size after) refl (search_means T size after)

  -- it comes to an end
  pub lists_end : (after : List ℕ) → (l : List (List ℕ)) × GoesOn (search T size) after l
  lists_end after = exhaust (length (words (branches T) size beginning)) (words (branches T) size beginning) (omega arith) after
      (λ t h b. word_in_words (branches T) size beginning t (listed_word T size t h))
