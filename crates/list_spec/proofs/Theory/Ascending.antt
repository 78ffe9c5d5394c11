-- The nodes to try at a place are in ascending order of their bytes, and no one's bytes begin another's.
use Rattle.std.specs.Prelude.{◌≡◌, ◌⊎◌, Bool, cond, List, [], ◌++◌, ◌∷◌, map, ◌%◌, ◌+◌, ◌<◌, ◌≤◌, suc, zero, ℕ, ltb, get_or, length}
use Rattle.std.proofs.Math.Path.{refl}
use Rattle.std.proofs.Math.Logic.{inl, inr}
use Rattle.std.proofs.Math.Bool.{false, true}
use Rattle.std.proofs.Math.Option.{Option, none, some}
use Rattle.std.proofs.Common.{arith}
use Rattle.calculus.specs.Bytes.{two_bytes}
use Rattle.calculus.specs.Table.{Table}
use Rattle.calculus.proofs.Theory.Tests.{ltb_sound, ltb_false}
use Rattle.term.specs.Numbers.{little_endian}
use Rattle.term.specs.Forms.{form_of, forms, num_tag}
use Rattle.term.specs.Tree.{node_bytes}
use Rattle.recipe_file.specs.Editions.{edition_1}
use Rattle.list_spec.specs.Listed.{small_nums}
use Rattle.list_spec.specs.Search.{Branch}
use Rattle.list_spec.specs.Goals.{Goal, State, Head, head, piece_of, enter, upward, bounds, heads_from, heads, with_branch, choose, branches_at, branches}
use Rattle.list_spec.proofs.Theory.Order.{Lower, lower_here, lower_behind}
use Rattle.list_spec.proofs.Theory.Search.{Member, first, among, Ascending, ascending_nil, ascending_cons}

-- what stands in `++` and `map`
module _ {A : Type 0} where
  pub member_left : {a : A} {l : List A} (m : List A) → Member a l → Member a (l ++ m)
  member_left m first = first
  member_left m (among d) = among (member_left m d)

  pub member_right : {a : A} (l : List A) {m : List A} → Member a m → Member a (l ++ m)
  member_right [] d = d
  member_right (b ∷ l) d = among (member_right l d)

  member_append : {a : A} (l : List A) {m : List A} → Member a (l ++ m) → Member a l ⊎ Member a m
  member_append [] d = inr d
  member_append (b ∷ l) first = inl first
  member_append (b ∷ l) (among d) = elim (member_append l d) [ inl x ↦ inl (among x) | inr x ↦ inr x ]

pub member_map : {A B : Type 0} (f : A → B) {a : A} {l : List A} → Member a l → Member (f a) (map f l)
member_map f first = first
member_map f (among d) = among (member_map f d)

from_map : {A B : Type 0} (f : A → B) (l : List A) {b : B} → Member b (map f l) → (a : A) × Member a l × (b ≡ f a)
from_map f (a ∷ l) first = (a, first, refl)
from_map f (a ∷ l) (among d) = let (c, m, e) = from_map f l d in (c, among m, e)
from_map f [] d = elim d [ ]

pub none_in : {A : Type 0} {a : A} → Member a [] → ⊥
none_in d = elim d [ ]

-- the numbers of a band
from_upward : (i n : ℕ) {m : ℕ} → Member m (upward i n) → (i ≤ m) × (m < i + n)
unfolding upward
from_upward i (suc n) first = (omega arith, omega arith)
from_upward i (suc n) (among d) = let (a, b) = from_upward (suc i) n d in (omega arith, omega arith)
from_upward i zero d = elim d [ ]

in_upward : (i n j : ℕ) → i ≤ j → j < i + n → Member j (upward i n)
unfolding upward
in_upward i zero j a b = absurd (omega arith)
in_upward i (suc n) j a b = go (ltb i j) refl (λ h. in_upward (suc i) n j h (omega arith))
  where
    go : (c : Bool) → ltb i j ≡ c → (suc i ≤ j → Member j (upward (suc i) n)) → Member j (i ∷ upward (suc i) n)
    go true e h = let l = ltb_sound i j e in among (h (omega arith))
    go false e h = let z : j ≡ i = omega (arith, ltb_false i j e) in rw z first

-- a node is tried exactly where its number is below the bound of its tag
in_band : (tag : ℕ) (ns : List ℕ) (i arg : ℕ) → arg < get_or ns i 0 → Member (head (tag + i) arg) (heads_from tag ns)
unfolding heads_from
in_band tag [] i arg h = absurd (omega arith)
in_band tag (n ∷ ns) zero arg h = let z : tag + zero ≡ tag = omega arith in rw z (member_left _ (member_map (head tag) (in_upward 0 n arg (omega arith) (omega arith))))
in_band tag (n ∷ ns) (suc i) arg h = let z : tag + suc i ≡ suc tag + i = omega arith in rw z (member_right (map (head tag) (upward 0 n)) (in_band (suc tag) ns i arg h))

pub in_heads : (depth types tag arg : ℕ) → arg < get_or (bounds depth types) tag 0 → Member (head tag arg) (heads depth types)
unfolding heads
in_heads depth types tag arg h = let z : 0 + tag ≡ tag = omega arith in rw z at (in_band 0 (bounds depth types) tag arg h)

pub record InBand (tag : ℕ) (ns : List ℕ) (h : Head) : Type 0 where
  pub place : ℕ
  pub below_all : place < length ns
  pub tag_is : h.tag ≡ tag + place
  pub arg_below : h.arg < get_or ns place 0

from_band : (tag : ℕ) (ns : List ℕ) {h : Head} → Member h (heads_from tag ns) → InBand tag ns h
unfolding heads_from
from_band tag [] d = absurd (none_in d)
from_band tag (n ∷ ns) d = elim (member_append (map (head tag) (upward 0 n)) d) [
  | inl e ↦ let (j, m, z) = from_map (head tag) (upward 0 n) e in let (a, b) = from_upward 0 n m in
      rw z (record { place = 0; below_all = omega arith; tag_is = omega arith; arg_below = omega arith })
  | inr e ↦ let b = from_band (suc tag) ns e in
      record { place = suc b.place; below_all = omega (arith, b.below_all); tag_is = omega (arith, b.tag_is); arg_below = b.arg_below }
]

pub from_heads : (depth types : ℕ) {h : Head} → Member h (heads depth types) → (h.tag < edition_1.forms) × (h.arg < get_or (bounds depth types) h.tag 0)
unfolding heads bounds
from_heads depth types {h} d =
    let b = from_band 0 (bounds depth types) d in
    let z : b.place ≡ h.tag = omega (arith, b.tag_is) in
    let l : b.place < edition_1.forms = b.below_all in
    (rw z at l, rw z at b.arg_below)

-- nodes in ascending order
pub data Climbs : List Head → Type 0 where
  climbs_nil : Climbs []
  climbs_cons : {h : Head} {hs : List Head} → ((k : Head) → Member k hs → Lower (piece_of h) (piece_of k)) → Climbs hs → Climbs (h ∷ hs)

climbs_append : {l m : List Head} → Climbs l → Climbs m → ((h k : Head) → Member h l → Member k m → Lower (piece_of h) (piece_of k)) → Climbs (l ++ m)
climbs_append climbs_nil d f = d
climbs_append {m = m} (climbs_cons {h = h} {hs = l} g c) d f = climbs_cons {h = h} {hs = l ++ m}
    (λ k i. elim (member_append l i) [ inl x ↦ g k x | inr x ↦ f h k first x ]) (climbs_append c d λ h k x y. f h k (among x) y)

-- of two numbers below n the lower one has the lower bytes after a tag; so of each tag
abbrev Ranks : ℕ → ℕ → Type 0
Ranks tag n = (i j : ℕ) → i < j → j < n → Lower (node_bytes tag i) (node_bytes tag j)

abbrev Ranked : ℕ → List ℕ → Type 0
Ranked tag [] = Unit {0}
Ranked tag (n ∷ ns) = Ranks tag n × Ranked (suc tag) ns

climbs_band : (tag m : ℕ) → Ranks tag m → (i n : ℕ) → i + n ≤ m → Climbs (map (head tag) (upward i n))
unfolding upward
climbs_band tag m r i zero l = climbs_nil
climbs_band tag m r i (suc n) l = climbs_cons {h = head tag i} {hs = map (head tag) (upward (suc i) n)} above_it (climbs_band tag m r (suc i) n (omega arith))
  where
    above_it : (k : Head) → Member k (map (head tag) (upward (suc i) n)) → Lower (node_bytes tag i) (piece_of k)
    above_it k d = let (j, e, z) = from_map (head tag) (upward (suc i) n) d in let (a, b) = from_upward (suc i) n e in rw z (r i j (omega arith) (omega arith))

-- a lower tag is lower
pub climbs_bands : (tag : ℕ) (ns : List ℕ) → Ranked tag ns → Climbs (heads_from tag ns)
unfolding heads_from
climbs_bands tag [] r = climbs_nil
climbs_bands tag (n ∷ ns) (r, s) = climbs_append (climbs_band tag n r 0 n (omega arith)) (climbs_bands (suc tag) ns s) across
  where
    across : (h k : Head) → Member h (map (head tag) (upward 0 n)) → Member k (heads_from (suc tag) ns) → Lower (piece_of h) (piece_of k)
    across h k d e =
        let (j, m, z) = from_map (head tag) (upward 0 n) d in
        let b = from_band (suc tag) ns e in
        let l : tag < k.tag = omega (arith, b.tag_is) in
        rw z (lower_here l)

pub heads_climb : (depth types : ℕ) → Climbs (heads depth types)
unfolding heads bounds form_of forms little_endian two_bytes
heads_climb depth types = climbs_bands 0 (bounds depth types) (
  λ i j h l. by_byte h,
  (
    λ i j h l. by_byte h,
    (
      λ i j h l. only h l,
      (
        λ i j h l. only h l,
        (
          nums,
          (λ i j h l. by_byte h, (λ i j h l. by_byte h, (λ i j h l. by_byte h, (λ i j h l. by_byte h, (λ i j h l. only h l, tt))))),
        ),
      ),
    ),
  ),
)
  where
    by_byte : {tag i j : ℕ} {l m : List ℕ} → i < j → Lower (tag ∷ i ∷ l) (tag ∷ j ∷ m)
    by_byte h = lower_behind (lower_here h)

    only : {i j : ℕ} {l m : List ℕ} → i < j → j < 1 → Lower l m
    only h l = absurd (omega arith)

    nums : (i j : ℕ) → i < j → j < small_nums → Lower (num_tag ∷ two_bytes i) (num_tag ∷ two_bytes j)
    nums i j h l = let k : i % 256 < j % 256 = omega arith in lower_behind (lower_here k)

-- the branches are some of them
module _ (T : Table) (r k : ℕ) (g : Goal) (goals : List Goal) where
  kept : (test : State → Bool) (h : Head) (o : Option State) (bs : List (Branch State)) {c : Branch State} → Member c (with_branch test (piece_of h) o bs)
      → (c.piece ≡ piece_of h) ⊎ Member c bs
  unfolding with_branch
  kept test h none bs d = inr d
  kept test h (some s) bs d = go (test s) d
    where
      go : (b : Bool) {c : Branch State} → Member c (cond b (record { piece = piece_of h; next = s } ∷ bs) bs) → (c.piece ≡ piece_of h) ⊎ Member c bs
      go true first = inl refl
      go true (among e) = inr e
      go false e = inr e

  from_choose : (hs : List Head) {c : Branch State} → Member c (choose T r k g goals hs) → (h : Head) × Member h hs × (c.piece ≡ piece_of h)
  unfolding choose
  from_choose (h ∷ hs) d = elim (kept _ h (enter T k g goals h) (choose T r k g goals hs) d) [
    | inl e ↦ (h, first, e)
    | inr e ↦ let (h', m, z) = from_choose hs e in (h', among m, z)
  ]
  from_choose [] d = elim d [ ]

  with_ascending : (test : State → Bool) (h : Head) (o : Option State) (bs : List (Branch State)) → ((c : Branch State) → Member c bs → Lower (piece_of h) c.piece) → Ascending bs
      → Ascending (with_branch test (piece_of h) o bs)
  unfolding with_branch
  with_ascending test h none bs l a = a
  with_ascending test h (some s) bs l a = go (test s)
    where
      go : (b : Bool) → Ascending (cond b (record { piece = piece_of h; next = s } ∷ bs) bs)
      go true = ascending_cons l a
      go false = a

  choose_ascending : {hs : List Head} → Climbs hs → Ascending (choose T r k g goals hs)
  unfolding choose
  choose_ascending climbs_nil = ascending_nil
  choose_ascending (climbs_cons {h = h} {hs = hs} l c) = with_ascending _ h (enter T k g goals h) (choose T r k g goals hs)
      (λ b d. let (h', m, z) = from_choose hs d in rw z (l h' m)) (choose_ascending c)

at_ascending : (T : Table) (r k : ℕ) (goals : List Goal) → Ascending (branches_at T r k goals)
unfolding branches_at
at_ascending T r k [] = ascending_nil
at_ascending T r k (g ∷ goals) = choose_ascending T r k g goals (heads_climb (length g.env) (length T))

pub branches_ascending : (T : Table) (r : ℕ) (s : State) → Ascending (branches T r s)
unfolding branches
branches_ascending T r s = at_ascending T r s.spine s.goals
