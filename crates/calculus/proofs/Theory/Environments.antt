-- Environments: their length, their last entry, what a split does to it, how often variables may be used, and weakening.
use Rattle.std.proofs.Common.{◌∙◌, ap, mul-zero, arith}
use Rattle.std.specs.Prelude.{◌≡◌, refl, cond, false, List, [], ◌++◌, ◌∷◌, ◌*◌, ◌+◌, ◌<◌, suc, zero, ℕ, eqb, length}
use Rattle.std.proofs.Math.Option.{Option, none, some}
use Rattle.std.proofs.Math.Dec.{eqb-suc-suc, eqb-suc-zero, eqb-zero-suc}
use Rattle.calculus.specs.Types.{Multiplicity, once, many, LinType, multiplicity}
use Rattle.calculus.specs.Syntax.{at}
use Rattle.calculus.specs.Typing.{Env, NoOnce, no_once_nil, no_once_gone, no_once_many, Split, split_nil, split_gone, split_both, split_left, split_right, ◌∋◌∶◌, only_here, only_past_gone, only_past_many}
use Rattle.calculus.proofs.Theory.Tests.{once_not_many}

-- `NoOnce (o ∷ [])` says of an entry that it need not be used, `Split (o ∷ []) (o₁ ∷ []) (o₂ ∷ [])` what a split makes of it
pub free_cons : {o : Option LinType} {Γ : Env} → NoOnce (o ∷ []) → NoOnce Γ → NoOnce (o ∷ Γ)
free_cons (no_once_gone f) n = no_once_gone n
free_cons (no_once_many m f) n = no_once_many m n

pub free_only : {o : Option LinType} {Γ : Env} {i : ℕ} {α : LinType} → NoOnce (o ∷ []) → Γ ∋ i ∶ α → (o ∷ Γ) ∋ (suc i) ∶ α
free_only (no_once_gone f) n = only_past_gone n
free_only (no_once_many m f) n = only_past_many m n

-- `Last o d Γ Γ'`: Γ is Γ' and then o, which has number d
pub data Last (o : Option LinType) : ℕ → Env → Env → Type 0 where
  last : Last o zero (o ∷ []) []
  next : {d : ℕ} {p : Option LinType} {Γ Γ' : Env} → Last o d Γ Γ' → Last o (suc d) (p ∷ Γ) (p ∷ Γ')

pub no_once_last : {o : Option LinType} {d : ℕ} {Γ Γ' : Env} → Last o d Γ Γ' → NoOnce Γ → NoOnce Γ' × NoOnce (o ∷ [])
no_once_last last n = (no_once_nil, n)
no_once_last (next l) (no_once_gone n) = let (n', f) = no_once_last l n in (no_once_gone n', f)
no_once_last (next l) (no_once_many m n) = let (n', f) = no_once_last l n in (no_once_many m n', f)

-- the last entry on both sides of a split
abbrev pub Sides : Option LinType → ℕ → Env → Env → Env → Type 0
Sides o d Γ' Γ₁ Γ₂ = (o₁ o₂ : Option LinType) × (Γ₁' Γ₂' : Env) × Last o₁ d Γ₁ Γ₁' × Last o₂ d Γ₂ Γ₂' × Split Γ' Γ₁' Γ₂' ×
    Split (o ∷ []) (o₁ ∷ []) (o₂ ∷ [])

pub split_last : {o : Option LinType} {d : ℕ} {Γ Γ' Γ₁ Γ₂ : Env} → Last o d Γ Γ' → Split Γ Γ₁ Γ₂ → Sides o d Γ' Γ₁ Γ₂
split_last last (split_gone split_nil) = (_, _, _, _, last, last, split_nil, split_gone split_nil)
split_last last (split_both m split_nil) = (_, _, _, _, last, last, split_nil, split_both m split_nil)
split_last last (split_left m split_nil) = (_, _, _, _, last, last, split_nil, split_left m split_nil)
split_last last (split_right m split_nil) = (_, _, _, _, last, last, split_nil, split_right m split_nil)
split_last (next l) (split_gone s) = let (_, _, _, _, l₁, l₂, r, h) = split_last l s in (_, _, _, _, next l₁, next l₂, split_gone r, h)
split_last (next l) (split_both m s) = let (_, _, _, _, l₁, l₂, r, h) = split_last l s in (_, _, _, _, next l₁, next l₂, split_both m r, h)
split_last (next l) (split_left m s) = let (_, _, _, _, l₁, l₂, r, h) = split_last l s in (_, _, _, _, next l₁, next l₂, split_left m r, h)
split_last (next l) (split_right m s) = let (_, _, _, _, l₁, l₂, r, h) = split_last l s in (_, _, _, _, next l₁, next l₂, split_right m r, h)

-- what a side has of an entry, the whole has
pub share_left : {o o₁ o₂ : Option LinType} {α : LinType} → Split (o ∷ []) (o₁ ∷ []) (o₂ ∷ []) → o₁ ≡ some α → o ≡ some α
share_left (split_gone s) p = p
share_left (split_both m s) p = p
share_left (split_left m s) p = p
share_left (split_right m s) p = cc

pub share_right : {o o₁ o₂ : Option LinType} {α : LinType} → Split (o ∷ []) (o₁ ∷ []) (o₂ ∷ []) → o₂ ≡ some α → o ≡ some α
share_right (split_gone s) p = p
share_right (split_both m s) p = p
share_right (split_left m s) p = cc
share_right (split_right m s) p = p

-- a variable is the last one, or it is not
pub data Which (Γ' : Env) (α : LinType) : Option LinType → ℕ → ℕ → Type 0 where
  is_last : {d : ℕ} → NoOnce Γ' → Which Γ' α (some α) d d
  is_other : {o : Option LinType} {d i : ℕ} → eqb i d ≡ false → NoOnce (o ∷ []) → Γ' ∋ i ∶ α → Which Γ' α o d i

which_next : {o p : Option LinType} {d i : ℕ} {α : LinType} {Γ' : Env} → NoOnce (p ∷ []) → Which Γ' α o d i →
    Which (p ∷ Γ') α o (suc d) (suc i)
which_next f (is_last n) = is_last (free_cons f n)
which_next f (is_other {d = d} {i = i} e t n) = is_other (eqb-suc-suc i d ∙ e) t (free_only f n)

pub only_last : {o : Option LinType} {d i : ℕ} {α : LinType} {Γ Γ' : Env} → Last o d Γ Γ' → Γ ∋ i ∶ α → Which Γ' α o d i
only_last last (only_here n) = is_last n
only_last (next {d = d} l) (only_here n) = let (n', f) = no_once_last l n in is_other (eqb-zero-suc d) f (only_here n')
only_last last (only_past_gone n) = elim n [ ]
only_last last (only_past_many m n) = elim n [ ]
only_last (next l) (only_past_gone n) = which_next (no_once_gone no_once_nil) (only_last l n)
only_last (next l) (only_past_many m n) = which_next (no_once_many m no_once_nil) (only_last l n)

-- `Due o n`: a variable of entry o may be used n times
pub data Due : Option LinType → ℕ → Type 0 where
  due_gone : Due none 0
  due_once : {α : LinType} → multiplicity α ≡ once → Due (some α) 1
  due_many : {α : LinType} {n : ℕ} → multiplicity α ≡ many → Due (some α) n

pub due_one : (α : LinType) → Due (some α) 1
due_one α = go (multiplicity α) refl
  where
    go : (κ : Multiplicity) → multiplicity α ≡ κ → Due (some α) 1
    go once p = due_once p
    go many p = due_many p

pub due_sum : {o o₁ o₂ : Option LinType} {a b : ℕ} → Split (o ∷ []) (o₁ ∷ []) (o₂ ∷ []) → Due o₁ a → Due o₂ b → Due o (a + b)
due_sum (split_gone s) due_gone due_gone = due_gone
due_sum (split_both m s) p q = due_many m
due_sum (split_left m s) (due_once m') due_gone = due_once m
due_sum (split_left m s) (due_many m') due_gone = absurd (once_not_many m m')
due_sum (split_right m s) due_gone (due_once m') = due_once m
due_sum (split_right m s) due_gone (due_many m') = absurd (once_not_many m m')

pub due_is_none : {n : ℕ} → Due none n → n ≡ 0
due_is_none due_gone = refl

pub due_is_one : {α : LinType} {n : ℕ} → multiplicity α ≡ once → Due (some α) n → n ≡ 1
due_is_one m (due_once m') = refl
due_is_one m (due_many m') = absurd (once_not_many m m')

-- what stands for an unused entry, or is 0 for a used one, adds up to 0
pub due_times : {o : Option LinType} {n : ℕ} (c : ℕ) → NoOnce (o ∷ []) → Due o n →
    ((β : LinType) → o ≡ some β → multiplicity β ≡ many → c ≡ 0) → n * c ≡ 0
due_times c (no_once_gone f) due_gone h = omega arith
due_times c (no_once_many m f) d h = rw (h _ refl m) (mul-zero _)

pub due_same : {α : LinType} {n : ℕ} (c : ℕ) → Due (some α) n → (multiplicity α ≡ many → c ≡ 0) → n * c ≡ c
due_same c (due_once m) h = omega arith
due_same c (due_many m) h = rw (h m) (mul-zero _)

-- variable i of Γ may be used m i times
pub data AllDue : (ℕ → ℕ) → Env → Type 0 where
  due_nil : {m : ℕ → ℕ} → AllDue m []
  due_cons : {m : ℕ → ℕ} {o : Option LinType} {Γ : Env} → Due o (m 0) → AllDue (λ i. m (suc i)) Γ → AllDue m (o ∷ Γ)

pub due_tail : {m : ℕ → ℕ} {o : Option LinType} {Γ : Env} → AllDue m (o ∷ Γ) → AllDue (λ i. m (suc i)) Γ
due_tail (due_cons u a) = a

pub due_head : {m : ℕ → ℕ} {o : Option LinType} {Γ : Env} → AllDue m (o ∷ Γ) → Due o (m 0)
due_head (due_cons u a) = u

pub due_eq : {o : Option LinType} {m n : ℕ} → m ≡ n → Due o n → Due o m
due_eq p u = rw p u

pub all_none : {f : ℕ → ℕ} {Γ : Env} → ((i : ℕ) → f i ≡ 0) → NoOnce Γ → AllDue f Γ
all_none h no_once_nil = due_nil
all_none h (no_once_gone n) = due_cons (due_eq (h 0) due_gone) (all_none (λ i. h (suc i)) n)
all_none h (no_once_many m n) = due_cons (due_many m) (all_none (λ i. h (suc i)) n)

-- the number of times that variable i uses variable j, one lambda further in
pub use_next : {n : ℕ} (i j : ℕ) → n ≡ cond (eqb (suc i) (suc j)) 1 0 → n ≡ cond (eqb i j) 1 0
use_next i j p = rw (← eqb-suc-suc i j) p

pub all_only : {f : ℕ → ℕ} {Γ : Env} {i : ℕ} {α : LinType} → ((j : ℕ) → f j ≡ cond (eqb i j) 1 0) → Γ ∋ i ∶ α → AllDue f Γ
all_only h (only_here n) = due_cons (due_eq (h 0) (due_one _)) (all_none (λ j. h (suc j) ∙ rw (eqb-zero-suc j)) n)
all_only h (only_past_gone {i = i} o) = due_cons (due_eq (h 0 ∙ rw (eqb-suc-zero i)) due_gone) (all_only (λ j. use_next i j (h (suc j))) o)
all_only h (only_past_many {i = i} m o) = due_cons (due_many m) (all_only (λ j. use_next i j (h (suc j))) o)

pub all_sum : {m n : ℕ → ℕ} {Γ Γ₁ Γ₂ : Env} → Split Γ Γ₁ Γ₂ → AllDue m Γ₁ → AllDue n Γ₂ → AllDue (λ i. m i + n i) Γ
all_sum split_nil a b = due_nil
all_sum (split_gone s) (due_cons u a) (due_cons w b) = due_cons (due_sum (split_gone split_nil) u w) (all_sum s a b)
all_sum (split_both m s) (due_cons u a) (due_cons w b) = due_cons (due_sum (split_both m split_nil) u w) (all_sum s a b)
all_sum (split_left m s) (due_cons u a) (due_cons w b) = due_cons (due_sum (split_left m split_nil) u w) (all_sum s a b)
all_sum (split_right m s) (due_cons u a) (due_cons w b) = due_cons (due_sum (split_right m split_nil) u w) (all_sum s a b)

pub due_last : {o : Option LinType} {f : ℕ → ℕ} {d : ℕ} {Γ Γ' : Env} → Last o d Γ Γ' → AllDue f Γ → Due o (f d)
due_last last (due_cons u a) = u
due_last (next l) (due_cons u a) = due_last l a

-- more entries that need not be used
pub no_once_more : {Γ Δ : Env} → NoOnce Γ → NoOnce Δ → NoOnce (Γ ++ Δ)
no_once_more no_once_nil n = n
no_once_more (no_once_gone f) n = no_once_gone (no_once_more f n)
no_once_more (no_once_many m f) n = no_once_many m (no_once_more f n)

pub only_more : {Γ Δ : Env} {i : ℕ} {α : LinType} → Γ ∋ i ∶ α → NoOnce Δ → (Γ ++ Δ) ∋ i ∶ α
only_more (only_here f) n = only_here (no_once_more f n)
only_more (only_past_gone o) n = only_past_gone (only_more o n)
only_more (only_past_many m o) n = only_past_many m (only_more o n)

pub split_same : {Δ : Env} → NoOnce Δ → Split Δ Δ Δ
split_same no_once_nil = split_nil
split_same (no_once_gone n) = split_gone (split_same n)
split_same (no_once_many m n) = split_both m (split_same n)

pub split_more : {Γ Γ₁ Γ₂ Δ : Env} → Split Γ Γ₁ Γ₂ → NoOnce Δ → Split (Γ ++ Δ) (Γ₁ ++ Δ) (Γ₂ ++ Δ)
split_more split_nil n = split_same n
split_more (split_gone s) n = split_gone (split_more s n)
split_more (split_both m s) n = split_both m (split_more s n)
split_more (split_left m s) n = split_left m (split_more s n)
split_more (split_right m s) n = split_right m (split_more s n)

-- the numbers of variables are those below the length
pub only_bound : {Γ : Env} {i : ℕ} {α : LinType} → Γ ∋ i ∶ α → i < length Γ
only_bound (only_here n) = omega arith
only_bound (only_past_gone o) = omega (arith, only_bound o)
only_bound (only_past_many m o) = omega (arith, only_bound o)

pub split_lengths : {Γ Γ₁ Γ₂ : Env} → Split Γ Γ₁ Γ₂ → (length Γ₁ ≡ length Γ) × (length Γ₂ ≡ length Γ)
split_lengths split_nil = (refl, refl)
split_lengths (split_gone s) = omega (arith, split_lengths s)
split_lengths (split_both m s) = omega (arith, split_lengths s)
split_lengths (split_left m s) = omega (arith, split_lengths s)
split_lengths (split_right m s) = omega (arith, split_lengths s)

-- `Covers Δ Γ`: of the types Δ of all variables in scope, Γ has those of multiplicity many, and some of the others
pub data Covers : List LinType → Env → Type 0 where
  covers_nil : Covers [] []
  covers_some : {α : LinType} {Δ : List LinType} {Γ : Env} → Covers Δ Γ → Covers (α ∷ Δ) (some α ∷ Γ)
  covers_gone : {α : LinType} {Δ : List LinType} {Γ : Env} → multiplicity α ≡ once → Covers Δ Γ → Covers (α ∷ Δ) (none ∷ Γ)

pub covers_split : {Δ : List LinType} {Γ Γ₁ Γ₂ : Env} → Covers Δ Γ → Split Γ Γ₁ Γ₂ → Covers Δ Γ₁ × Covers Δ Γ₂
covers_split covers_nil split_nil = (covers_nil, covers_nil)
covers_split (covers_gone m c) (split_gone s) = let (p, q) = covers_split c s in (covers_gone m p, covers_gone m q)
covers_split (covers_some c) (split_both m s) = let (p, q) = covers_split c s in (covers_some p, covers_some q)
covers_split (covers_some c) (split_left m s) = let (p, q) = covers_split c s in (covers_some p, covers_gone m q)
covers_split (covers_some c) (split_right m s) = let (p, q) = covers_split c s in (covers_gone m p, covers_some q)

pub covers_only : {Δ : List LinType} {Γ : Env} {i : ℕ} {α : LinType} → Covers Δ Γ → Γ ∋ i ∶ α → at Δ i ≡ some α
covers_only covers_nil n = elim n [ ]
covers_only (covers_some c) (only_here n) = refl
covers_only (covers_gone m c) (only_past_gone o) = covers_only c o
covers_only (covers_some c) (only_past_many m o) = covers_only c o

pub covers_length : {Δ : List LinType} {Γ : Env} → Covers Δ Γ → length Γ ≡ length Δ
covers_length covers_nil = refl
covers_length (covers_some c) = ap suc (covers_length c)
covers_length (covers_gone m c) = ap suc (covers_length c)
