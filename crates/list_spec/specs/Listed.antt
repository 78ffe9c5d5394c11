-- Document 02, T-10: what is listed, and what comes next. Here stands no search: these are the sentences of the request.
use Rattle.std.specs.Prelude.{◌≡◌, Bool, ◌&&◌, true, List, [], ◌∷◌, ℕ, eqb, ltb}
use Rattle.std.proofs.Math.Option.{Option, none, some}
use Rattle.calculus.specs.Syntax.{Const, unit, num, op, Exp, var, name, const, lam, app, both, case_of}
use Rattle.calculus.specs.Image.{nodes}
use Rattle.calculus.specs.Limits.{byte_values}
use Rattle.calculus.specs.Table.{Table}
use Rattle.calculus.specs.Verdict.{verdict}
use Rattle.term.specs.Reader.{of_edition, one_term, read_term}
use Rattle.term.specs.Expressions.{bytes, FitsBytes, term_of}
use Rattle.recipe_file.specs.Editions.{edition_1}
use Rattle.recipe_file.specs.Whole.{file_of}
use Rattle.check_spec.specs.Verdict.{refusal}
use Rattle.list_spec.specs.Order.{Before}

-- "nums limited to 0 and 1"
abbrev pub small_nums : ℕ
small_nums = 2

unfoldable pub small_const : Const → Bool
small_const unit = true
small_const (num n) = ltb n small_nums
small_const (op o t) = true

unfoldable pub has_small_nums : Exp → Bool
has_small_nums (var i) = true
has_small_nums (name k) = true
has_small_nums (const c) = small_const c
has_small_nums (lam t e) = has_small_nums e
has_small_nums (app f a) = has_small_nums f && has_small_nums a
has_small_nums (both s t e₁ e₂) = has_small_nums e₁ && has_small_nums e₂
has_small_nums (case_of s e₁ e₂) = has_small_nums e₁ && has_small_nums e₂

-- "For an edition 1 type table", "one-bay terms": the file with this table and this one part
unfoldable pub one_bay_file : List ℕ → List ℕ → List ℕ
one_bay_file table s = file_of edition_1 (table ∷ s ∷ [])

-- "the one-bay terms of exactly that size that are accepted, nums limited to 0 and 1"
pub record Listed (table : List ℕ) (size : ℕ) (s : List ℕ) : Type 0 where
  pub term : Exp
  pub written : s ≡ bytes term
  pub fits : FitsBytes term
  pub of_size : nodes term ≡ size
  pub nums : has_small_nums term ≡ true
  pub accepted : refusal (one_bay_file table s) ≡ 0

-- "the first such term that comes after them"
pub record Next (table : List ℕ) (size : ℕ) (after s : List ℕ) : Type 0 where
  pub listed : Listed table size s
  pub comes_after : Before after s
  pub first : (t : List ℕ) → Listed table size t → Before after t → Before t s → ⊥

-- "there are no more when none comes after"
abbrev pub NoMore : List ℕ → ℕ → List ℕ → Type 0
NoMore table size after = (t : List ℕ) → Listed table size t → Before after t → ⊥

-- the same of a table that is read, with the checker's verdict on one term, as a test
unfoldable pub all_bytes : List ℕ → Bool
all_bytes [] = true
all_bytes (x ∷ l) = ltb x byte_values && all_bytes l

unfoldable pub passes : Table → ℕ → Exp → Bool
passes T size e = eqb (nodes e) size && (has_small_nums e && eqb (verdict T (e ∷ [])) 0)

unfoldable pub listed_test : Table → ℕ → List ℕ → Bool
listed_test T size s = all_bytes s && (one_term (of_edition edition_1.forms (read_term s)) && passes T size (term_of s))

-- "Going on from each term given", where `next after` is the term given, until there are no more
pub data GoesOn (next : List ℕ → Option (List ℕ)) : List ℕ → List (List ℕ) → Type 0 where
  stops : {after : List ℕ} → next after ≡ none → GoesOn next after []
  gives : {after s : List ℕ} {l : List (List ℕ)} → next after ≡ some s → GoesOn next s l → GoesOn next after (s ∷ l)
