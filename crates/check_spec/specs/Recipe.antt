-- What document 01 and the paper ask of a recipe, with no reader in it: the file s says the type table T, the starting nums ns and the terms es. It is accepted
-- exactly when there are such T, ns and es, and then there is one of each (Theory.Accepted).
use Rattle.std.specs.Prelude.{◌≡◌, false, true, List, [], ◌∷◌, map, ◌<◌, ◌≤◌, ℕ, length, replicate}
use Rattle.std.proofs.Math.Option.{some}
use Rattle.calculus.specs.Types.{many, LinType, multiplicity}
use Rattle.calculus.specs.Syntax.{Exp, thread_of, at}
use Rattle.calculus.specs.Typing.{Derivation}
use Rattle.calculus.specs.Limits.{max_nesting, max_recipe_nodes}
use Rattle.calculus.specs.Image.{nodes_all}
use Rattle.calculus.specs.Table.{Entry, Table, TableRule, type_at}
use Rattle.calculus.specs.Recipe.{setting_types, Starts}
use Rattle.term.specs.Expressions.{bytes, nesting, FitsBytes}
use Rattle.term.specs.Tree.{forms_below}
use Rattle.term.specs.Reader.{read_term, tree_in}
use Rattle.recipe_file.specs.File.{edition_of, bays, part, table_bytes, term_bytes}
use Rattle.recipe_file.specs.Starting.{starting_part, nums_bytes}
use Rattle.recipe_file.specs.FileRule.{FileRule}

-- document 01, "entries of three bytes: kind, p, q"
unfoldable pub entry_bytes : Table → List ℕ
entry_bytes [] = []
entry_bytes (x ∷ T) = x.kind ∷ x.p ∷ x.q ∷ entry_bytes T

-- the paper: a bay's term has a derivation by Figs. 8, 9 and 10, with document 01's handle type, under a many type
abbrev pub Derived : Table → ℕ → Exp → Type 0
Derived T b e = (α : LinType) × Derivation (type_at T) (setting_types b) [] e α × (multiplicity α ≡ many)

-- the file s says the table T, the starting nums ns and the terms es, and they are what the papers ask
pub record Recipe (s : List ℕ) (T : Table) (ns : List ℕ) (es : List Exp) : Type 0 where
  -- causes 1 to 3: the layout and its limits
  pub laid : FileRule s
  -- cause 4: the first part is the table, and it keeps its rule, with the kinds of the edition
  pub table : table_bytes s ≡ entry_bytes T
  pub kinds : (k : ℕ) (x : Entry) → at T k ≡ some x → x.kind < (edition_of s).kinds
  pub table_rule : TableRule T
  -- cause 5: each bay's part is the bytes of an expression that the node forms can write, those of the edition
  pub count : length es ≡ bays s
  pub terms : (bay : ℕ) (e : Exp) → at es bay ≡ some e → (term_bytes s bay ≡ bytes e) × FitsBytes e
  pub forms : (bay : ℕ) → bay < bays s → forms_below (edition_of s).forms (tree_in (read_term (term_bytes s bay))) ≡ true
  -- cause 6: nesting, and nodes over all terms
  pub shallow : (bay : ℕ) (e : Exp) → at es bay ≡ some e → nesting e ≤ max_nesting
  pub few_nodes : nodes_all (map thread_of es) ≤ max_recipe_nodes
  -- causes 7 to 11
  pub derived : (bay : ℕ) (e : Exp) → at es bay ≡ some e → Derived T (length es) e
  -- cause 19: T-07, "two bytes for each bay, its starting num"; "Editions 1 and 2 keep the unwritten 0"
  pub starts : Starts ns (bays s)
  pub written : (edition_of s).starting ≡ true → part s starting_part ≡ nums_bytes ns
  pub unwritten : (edition_of s).starting ≡ false → ns ≡ replicate (bays s) 0
