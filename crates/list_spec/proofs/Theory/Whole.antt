-- The request whole: what document 02, T-10, asks of a call holds.
use Rattle.std.proofs.Common.{◌∙◌, sym, arith}
use Rattle.std.specs.Prelude.{◌≡◌, refl, ◌↔◌, Bool, false, true, List, [], ◌∷◌, ◌<◌, suc, zero, ℕ, ltb, length}
use Rattle.std.proofs.Math.Option.{some}
use Rattle.calculus.specs.Syntax.{at}
use Rattle.calculus.specs.Image.{nodes}
use Rattle.calculus.proofs.Theory.Tests.{clash, ltb_sound, ltb_false}
use Rattle.recipe_table.specs.Entries.{table_of}
use Rattle.list_spec.specs.Order.{Before, shorter}
use Rattle.list_spec.specs.Listed.{Listed, GoesOn, stops, gives}
use Rattle.list_spec.specs.NextTerm.{search, call}
use Rattle.list_spec.specs.SmallRecipes.{Asked, StandsIn, AllAfter, SmallRecipes}
use Rattle.list_spec.proofs.Theory.Order.{before_irreflexive}
use Rattle.list_spec.proofs.Theory.Search.{Member, first, among}
use Rattle.list_spec.proofs.Theory.Files.{length_nodes}
use Rattle.list_spec.proofs.Theory.All.{Rising, rising_nil, rising_cons, lists_all, lists_rising, lists_end}
use Rattle.list_spec.proofs.Theory.Answers.{refuses_22, refuses_3, refuses_4, not_refused, no_other, to_table, from_table, next_or_none, first_unique, listed_some, call_is, answer_gives, answer_no_more, answer_shape}

-- what stands in a list, by its place
member_stands : {t : List ℕ} {l : List (List ℕ)} → Member t l → StandsIn t l
member_stands first = (0, refl)
member_stands (among d) = let (i, e) = member_stands d in (suc i, e)

stands_member : {t : List ℕ} (l : List (List ℕ)) (i : ℕ) → at l i ≡ some t → Member t l
stands_member [] i e = absurd (clash (cc))
stands_member {t} (s ∷ l) zero e = let z : s ≡ t = cc in rw z first
stands_member (s ∷ l) (suc i) e = among (stands_member l i e)

rising_at : {l : List (List ℕ)} → Rising l → (i j : ℕ) (s t : List ℕ) → i < j → at l i ≡ some s → at l j ≡ some t → Before s t
rising_at rising_nil i j s t h p q = absurd (clash (cc))
rising_at (rising_cons f r) i zero s t h p q = absurd (omega arith)
rising_at (rising_cons {s = u} {l = l} f r) zero (suc j) s t h p q = let z : s ≡ u = cc in rw z (f t (stands_member l j q))
rising_at (rising_cons f r) (suc i) (suc j) s t h p q = rising_at r i j s t (omega arith) p q

rising_once : {l : List (List ℕ)} → Rising l → (i j : ℕ) (t : List ℕ) → at l i ≡ some t → at l j ≡ some t → i ≡ j
rising_once r i j t p q = go (ltb i j) refl (ltb j i) refl
  where
    go : (a : Bool) → ltb i j ≡ a → (b : Bool) → ltb j i ≡ b → i ≡ j
    go true e b f = absurd (before_irreflexive (rising_at r i j t t (ltb_sound i j e) p q))
    go false e true f = absurd (before_irreflexive (rising_at r j i t t (ltb_sound j i f) q p))
    go false e false f = omega (arith, ltb_false i j e, ltb_false j i f)

module _ (table : List ℕ) (size : ℕ) (h : Asked table size) where
  -- the calls go on as the search does
  to_search : {after : List ℕ} {l : List (List ℕ)} → GoesOn (call table size) after l → GoesOn (search (table_of table) size) after l
  to_search {after} (stops e) = stops (sym (call_is table size h after) ∙ e)
  to_search {after} (gives e g) = gives (sym (call_is table size h after) ∙ e) (to_search g)

  from_search : {after : List ℕ} {l : List (List ℕ)} → GoesOn (search (table_of table) size) after l → GoesOn (call table size) after l
  from_search {after} (stops e) = stops (call_is table size h after ∙ e)
  from_search {after} (gives e g) = gives (call_is table size h after ∙ e) (from_search g)

  calls_end : (after : List ℕ) → (l : List (List ℕ)) × GoesOn (call table size) after l
  calls_end after = let (l, g) = lists_end (table_of table) size after in (l, from_search g)

  calls_list : (after : List ℕ) (l : List (List ℕ)) → GoesOn (call table size) after l → AllAfter table size after l
  calls_list after l g =
      let s = to_search g in
      let r = lists_rising (table_of table) size s in
      record {
        all = λ t. (
          λ (i, e). let (a, b) = (lists_all (table_of table) size s t).0 (stands_member l i e) in (from_table table size h t a, b),
          λ (a, b). member_stands ((lists_all (table_of table) size s t).1 (to_table table size h t a, b)),
        );
        ascending = rising_at r;
        once = rising_once r;
      }

  after_none : (t : List ℕ) → 0 < length t → Before [] t
  after_none [] l = absurd (omega arith)
  after_none (x ∷ t) l = shorter

  calls_from_none : (l : List (List ℕ)) → GoesOn (call table size) [] l → (t : List ℕ) → StandsIn t l ↔ Listed table size t
  calls_from_none l g t =
      let a = (calls_list [] l g).all t in
      (λ s. (a.0 s).0, λ s. a.1 (s, after_none t (listed_some table size h t s)))

pub small_recipes : SmallRecipes
small_recipes = record {
  size_22 = refuses_22;
  length_3 = refuses_3;
  entry_4 = refuses_4;
  not_refused = not_refused;
  no_other = no_other;
  gives = answer_gives;
  no_more = answer_no_more;
  one_of_two = next_or_none;
  one_first = first_unique;
  shape = answer_shape;
  short = λ e h. length_nodes e (nodes e) refl h;
  ends = calls_end;
  lists = calls_list;
  from_none = calls_from_none;
}
