-- Terms of document 01's bay cases, and damaged ones, as antt computes them.
use mathlib.Core.Path.{◌≡◌, refl, sym}
use mathlib.Core.Bool.{Bool, ◌&&◌, false, not, true}
use mathlib.Core.List.{List, [], ◌∷◌}
use Prim.Native.Nat.{◌*◌, ◌+◌, ℕ}
use native.Mathlib.Omega.{arith}
use lib.Dec.{T}
use Rattle.calculus.specs.Bytes.{two_bytes, word}
use Rattle.calculus.specs.Syntax.{num, op, exch, handle, app, both, case_of, const, Exp, lam, list, name, pair, var}
use Rattle.std.proofs.Common.{Some}
use Rattle.term.specs.Numbers.{value_of}
use Rattle.term.specs.Forms.{form_of, forms, num_tag, to_nothing}
use Rattle.term.specs.Tree.{forms_below}
use Rattle.term.specs.Reader.{node_of, of_edition, one_term, read, read_term}
use Rattle.term.specs.Expressions.{bytes, const_bytes, exp_of, leaf_exp, leaf_forms, op_tag, both_tag, case_tag, term_at, term_of, two_exp, two_forms}
use Rattle.term.proofs.Nodes.{head_node}

-- case B: exch applied to the setting and to 250
abbrev term_B : Exp
term_B = app (app (const (op exch 4)) (name 0)) (const (num 250))

abbrev bytes_B : List ℕ
bytes_B = 0x02 ∷ 0x02 ∷ 0x06 ∷ 0x04 ∷ 0x09 ∷ 0x00 ∷ 0x04 ∷ 0xFA ∷ 0x00 ∷ []

case_B : bytes term_B ≡ bytes_B
unfolding bytes const_bytes op_tag two_bytes
case_B = refl

case_B_back : term_at bytes_B 0 ≡ term_B
unfolding term_of read_term read form_of forms value_of word exp_of leaf_exp leaf_forms two_exp two_forms
case_B_back = refl

-- case C: handle applied to a function that binds its future to itself
abbrev term_C : Exp
term_C = app (const (op handle 6)) (lam 5 (lam 4 (app (var 0) (var 1))))

abbrev bytes_C : List ℕ
bytes_C = 0x02 ∷ 0x08 ∷ 0x06 ∷ 0x01 ∷ 0x05 ∷ 0x01 ∷ 0x04 ∷ 0x02 ∷ 0x00 ∷ 0x00 ∷ 0x00 ∷ 0x01 ∷ []

case_C : bytes term_C ≡ bytes_C
unfolding bytes const_bytes op_tag two_bytes
case_C = refl

case_C_back : term_at bytes_C 0 ≡ term_C
unfolding term_of read_term read form_of forms value_of word exp_of leaf_exp leaf_forms two_exp two_forms
case_C_back = refl

-- T-03: case (250, 7) of (x, y) ⇒ case x :: (y :: x) of (x, y) ⇒ y, node by node; types are numbered 5 and 6
abbrev term_pair : Exp
term_pair = case_of pair (both pair 5 (const (num 250)) (const (num 7))) (case_of list (both list 6 (var 1) (both list 6 (var 0) (var 1))) (var 0))

abbrev bytes_pair : List ℕ
bytes_pair =
    0x0C ∷ 0x0A ∷ 0x05 ∷ 0x04 ∷ 0xFA ∷ 0x00 ∷ 0x04 ∷ 0x07 ∷ 0x00 ∷ 0x0D ∷ 0x0B ∷ 0x06 ∷ 0x00 ∷ 0x01 ∷ 0x0B ∷ 0x06 ∷ 0x00 ∷ 0x00 ∷ 0x00 ∷ 0x01 ∷ 0x00 ∷ 0x00 ∷ []

case_pair : bytes term_pair ≡ bytes_pair
unfolding bytes const_bytes both_tag case_tag two_bytes
case_pair = refl

case_pair_back : term_at bytes_pair 0 ≡ term_pair
unfolding term_of read_term read form_of forms value_of word exp_of leaf_exp leaf_forms two_exp two_forms
case_pair_back = refl

-- cause 5: exactly one term, or not
abbrev every_is : Bool → List (List ℕ) → Bool
every_is answer [] = true
every_is answer (l ∷ ls) = same answer (one_term (read_term l)) && every_is answer ls
  where
    same : Bool → Bool → Bool
    same true b = b
    same false true = false
    same false false = true

-- cases A, G, H, I with both halves, and num 65,535
abbrev terms : List (List ℕ)
terms = (0x03 ∷ []) ∷ (0x02 ∷ 0x03 ∷ 0x03 ∷ []) ∷ (0x00 ∷ 0x00 ∷ []) ∷ (0x04 ∷ 0xE8 ∷ 0x03 ∷ []) ∷ (0x04 ∷ 0xE9 ∷ 0x03 ∷ []) ∷ (0x04 ∷ 0xFF ∷ 0xFF ∷ []) ∷ []

-- nothing, an unknown tag, a pair and a case cut, a cut term, a cut head, bytes over, and a num cut
abbrev damaged : List (List ℕ)
damaged =
    []
    ∷ (0x0E ∷ [])
    ∷ (0x0A ∷ 0x03 ∷ 0x03 ∷ [])
    ∷ (0x0C ∷ 0x03 ∷ [])
    ∷ (0x02 ∷ 0x03 ∷ [])
    ∷ (0x01 ∷ [])
    ∷ (0x03 ∷ 0x03 ∷ [])
    ∷ (0x04 ∷ 0xE9 ∷ [])
    ∷ []

are_terms : T (every_is true terms)
unfolding one_term read_term read form_of forms value_of word
are_terms = tt

are_damaged : T (every_is false damaged)
unfolding one_term read_term read form_of forms value_of word
are_damaged = tt

-- an edition has the first so many forms: with ten, case B is a term and the pair is none; with fourteen the pair is one, with thirteen not for its last case
by_edition : T (one_term (of_edition 10 (read_term bytes_B)) && (not (one_term (of_edition 10 (read_term bytes_pair))) &&
    (one_term (of_edition 14 (read_term bytes_pair)) && not (one_term (of_edition 13 (read_term bytes_pair))))))
unfolding one_term of_edition forms_below read_term read form_of forms value_of word
by_edition = tt

-- document 02, T-01, "Refusal 5 no longer has a cause in a num's size": any two bytes after its tag are a num, whatever follows
every_num : (low high : ℕ) (rest : List ℕ) → node_of (num_tag ∷ low ∷ high ∷ rest) ≡ Some (record { tag = num_tag; arg = low + 256 * high; size = 3; subterms = 0; binders = 0; refers = to_nothing })
unfolding form_of forms value_of word
every_num low high rest = sym (head_node (num_tag ∷ low ∷ high ∷ rest) (omega arith) (omega arith) (omega arith))
