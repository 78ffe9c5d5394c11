-- The starting part: cause 19 by its tests, and its nums, one after the other.
use mathlib.Core.Path.{◌∙◌, ◌≡◌, ap, refl}
use mathlib.Core.Bool.{Bool, false, not, true}
use mathlib.Core.Option.{some}
use mathlib.Core.List.{List, [], ◌++◌, ◌∷◌}
use Prim.Native.Nat.{◌%◌, ◌*◌, ◌+◌, ◌/◌, ◌<◌, ◌≤◌, suc, zero, ℕ}
use native.Mathlib.Omega.{arith}
use borrow.Author.Tests.{eqb-true, not-false}
use lib.Dec.{eqb}
use lib.ListN.{length, replicate, set, get_or-eq_default}
use Rattle.calculus.specs.Bytes.{Bytes, two_bytes, word}
use Rattle.calculus.specs.Limits.{max_bays}
use Rattle.calculus.specs.Lists.{tabulate}
use Rattle.calculus.specs.Syntax.{at}
use Rattle.calculus.proofs.Theory.Tests.{clash}
use Rattle.calculus.proofs.Theory.Tabulate.{tabulate_first, tabulate_same, filled_to, filled_all, filled_next, filled_none}
use Rattle.recipe_file.specs.File.{edition_of, bays, length_of, part}
use Rattle.recipe_file.specs.FileRule.{FileRule}
use Rattle.recipe_file.specs.Starting.{starting_num_length, nums_bytes, starting_part, starting_bytes, starting_num, cause_19}
use Rattle.recipe_file.proofs.Inside.{length_starting_bytes}
use Rattle.recipe_file.proofs.Wholes.{bytes_word}

-- a num that no byte is written of
past : (l : List ℕ) (k : ℕ) → length l ≤ starting_num_length * k → word l (starting_num_length * k) ≡ 0
unfolding word
past l k h = let h₂ : length l ≤ starting_num_length * k + 1 = omega arith in rw (get_or-eq_default l 0 h, get_or-eq_default l 0 h₂) refl

-- the bytes of nums: how many, each read, and that they are all of a part that is so long
pub length_nums : (ns : List ℕ) → length (nums_bytes ns) ≡ starting_num_length * length ns
unfolding nums_bytes two_bytes
length_nums [] = refl
length_nums (n ∷ ns) = omega (arith, length_nums ns)

-- behind a num
word_behind : (a b : ℕ) (l : List ℕ) (k : ℕ) → word (a ∷ b ∷ l) (starting_num_length * suc k) ≡ word l (starting_num_length * k)
unfolding word
word_behind a b l k =
    let e : starting_num_length * suc k ≡ suc (suc (starting_num_length * k)) = omega arith in
    let f : suc (suc (starting_num_length * k)) + 1 ≡ suc (suc (starting_num_length * k + 1)) = omega arith in
    rw (e, f) refl

pub nums_read : (ns : List ℕ) (k : ℕ) {n : ℕ} → at ns k ≡ some n → word (nums_bytes ns) (starting_num_length * k) ≡ n
unfolding nums_bytes two_bytes word
nums_read [] k h = absurd (clash (cc))
nums_read (m ∷ ns) zero {n} h = let e : m ≡ n = cc in omega arith
nums_read (m ∷ ns) (suc k) h = word_behind (m % 256) (m / 256) (nums_bytes ns) k ∙ nums_read ns k h

pub nums_written : (b : ℕ) (l : List ℕ) → Bytes l → length l ≡ starting_num_length * b → nums_bytes (tabulate b (λ k. word l (starting_num_length * k))) ≡ l
unfolding nums_bytes tabulate
nums_written zero [] bytes e = refl
nums_written zero (x ∷ l) bytes e = absurd (omega arith)
nums_written (suc b) [] bytes e = absurd (omega arith)
nums_written (suc b) (x ∷ []) bytes e = absurd (omega arith)
nums_written (suc b) (x ∷ y ∷ l) bytes e =
    let f : ℕ → ℕ = λ k. word (x ∷ y ∷ l) (starting_num_length * k) in
    let rest : tabulate b (λ k. f (suc k)) ≡ tabulate b (λ k. word l (starting_num_length * k)) = tabulate_same b _ _ (λ k h. word_behind x y l k) in
    ap nums_bytes (tabulate_first b f)
    ∙ rw (rest, nums_written b l (λ k. bytes (suc (suc k))) (omega arith)) (ap (λ (r : List ℕ). r ++ l) (bytes_word (x ∷ y ∷ l) bytes 0))

-- an edition without the part
module _ (s : List ℕ) (e : (edition_of s).starting ≡ false) where
  pub none_starting : starting_bytes s ≡ []
  unfolding starting_bytes
  none_starting = rw e refl

  pub never_19 : false ≡ cause_19 s
  unfolding cause_19
  never_19 = rw e refl

  -- T-07, "Editions 1 and 2 keep the unwritten 0"
  pub unwritten : (bay : ℕ) → starting_num s bay ≡ 0
  unfolding starting_num
  unwritten bay = rw none_starting (past [] bay (omega arith))

-- an edition with it
module _ (s : List ℕ) (e : (edition_of s).starting ≡ true) where
  pub some_starting : starting_bytes s ≡ part s starting_part
  unfolding starting_bytes
  some_starting = rw e refl

  pub by_length : (n b : ℕ) → n ≡ length_of s starting_part → b ≡ bays s → not (eqb n (starting_num_length * b)) ≡ cause_19 s
  unfolding cause_19
  by_length n b p q = rw (e, p, q) refl

-- where cause 19 does not fit, so many nums are written, one for each bay or none
module _ {s : List ℕ} (l : FileRule s) (n : cause_19 s ≡ false) where
  pub one_each : (edition_of s).starting ≡ true → length (starting_bytes s) ≡ starting_num_length * bays s
  one_each e = length_starting_bytes l e ∙ eqb-true _ _ (not-false _ (by_length s e _ _ refl refl ∙ n))

  pub written : (k : ℕ) × (length (starting_bytes s) ≡ starting_num_length * k) × (k ≤ bays s)
  written = go (edition_of s).starting refl
    where
      go : (b : Bool) → (edition_of s).starting ≡ b → (k : ℕ) × (length (starting_bytes s) ≡ starting_num_length * k) × (k ≤ bays s)
      go true e = (bays s, one_each e, omega arith)
      go false e = (0, ap length (none_starting s e), omega arith)

-- the nums of the first bays are read
pub record NumsRead (s : List ℕ) (bay : ℕ) (nums : List ℕ) : Type 0 where
  pub few : bay ≤ max_bays
  pub filled : nums ≡ tabulate max_bays (filled_to (starting_num s) bay)

pub read_none : (s : List ℕ) → NumsRead s 0 (replicate max_bays 0)
read_none s = record { few = omega arith; filled = filled_none max_bays (starting_num s) }

module _ {s starting : List ℕ} (is : starting ≡ starting_bytes s) (l : FileRule s) (n : cause_19 s ≡ false) (bay : ℕ) where
  -- a num more
  module _ (more : bay < length starting / starting_num_length) where
    pub one_more : bay < max_bays
    one_more = let (k, e, h) = written l n in omega (arith, ap length is, l.has_parts.high)

    pub read_next : {nums : List ℕ} → NumsRead s bay nums → (n : ℕ) → n ≡ word starting (starting_num_length * bay) → NumsRead s (bay + 1) (set nums bay n)
    unfolding starting_num
    read_next r n e = record { few = omega (arith, one_more); filled = rw r.filled (filled_next max_bays (starting_num s) bay n (e ∙ ap (λ (x : List ℕ). word x (starting_num_length * bay)) is)) }

  pub read_all : {nums : List ℕ} → NumsRead s bay nums → length starting / starting_num_length ≤ bay → nums ≡ tabulate max_bays (starting_num s)
  unfolding starting_num
  read_all r h =
      let (k, e, few) = written l n in
      r.filled ∙ filled_all max_bays (starting_num s) bay (λ j i. past (starting_bytes s) j (let same = ap length is in omega arith))
