-- The node at the front of a list: what `node_of` answers stands there, and what the table allows is read back. Nothing here goes tag by tag.
use mathlib.Core.Path.{◌≡◌, refl, ap, subst}
use mathlib.Core.Bool.{Bool, ◌&&◌, cond, false, true}
use mathlib.Core.List.{List, [], ◌∷◌, ◌++◌}
use Prim.Native.Nat.{ℕ, zero, suc, ◌+◌, ◌<◌, ◌≤◌, ◌^◌}
use native.Mathlib.Numerals.{one-add}
use native.Mathlib.Omega.{arith}
use borrow.Author.Tests.{ltb-true, leb-true, lt-ltb, le-ltb, le-leb, lt-leb}
use lib.Dec.{T, leb, ltb, leb→le}
use lib.ListN.{length, get_or, drop, length-append}
use lib.Seq.{drop_at}
use Rattle.calculus.specs.Bytes.{Bytes, two_byte_values}
use Rattle.calculus.specs.Limits.{byte_values}
use Rattle.calculus.proofs.Theory.Tests.{and_parts}
use Rattle.term.specs.declared.Form.{Form}
use Rattle.std.proofs.Common.{None, Some}
use Rattle.term.specs.declared.Node.{Node}
use Rattle.term.specs.Numbers.{little_endian, value_of}
use Rattle.term.specs.Forms.{binders_of, form, form_of, forms, operand_of, refers_of, subterms_of, tags, to_name, to_nothing}
use Rattle.term.specs.Tree.{node_bytes, InTable}
use Rattle.term.specs.Reader.{front_node, front_operand, front_size, front_tag, node_of, front_stands}
use Rattle.term.proofs.Table.{both_left, both_right, every_at}
use Rattle.term.proofs.Numbers.{length_little_endian, value_bytes, value_fits, bytes_value}

-- the table's rule, one test: at most two bytes after the tag, at most two subterms, at most two more variables in the last of them; what the number refers to
-- is one of four
abbrev keeps_rule : Form → Bool
keeps_rule f = leb f.operand 2 && (leb f.subterms 2 && (leb f.binders 2 && leb f.refers to_name))

rule_at : (tag : ℕ) → T (keeps_rule (form_of tag))
unfolding form_of forms
rule_at tag = every_at keeps_rule forms (form 0 0 0 to_nothing) tt tt tag

past_operand : (tag : ℕ) → T (leb (subterms_of tag) 2 && (leb (binders_of tag) 2 && leb (refers_of tag) to_name))
past_operand tag = both_right (leb (operand_of tag) 2) _ (rule_at tag)

past_subterms : (tag : ℕ) → T (leb (binders_of tag) 2 && leb (refers_of tag) to_name)
past_subterms tag = both_right (leb (subterms_of tag) 2) _ (past_operand tag)

pub operand_at_most : (tag : ℕ) → operand_of tag ≤ 2
operand_at_most tag = leb→le (operand_of tag) 2 (both_left (leb (operand_of tag) 2) _ (rule_at tag))

pub subterms_at_most : (tag : ℕ) → subterms_of tag ≤ 2
subterms_at_most tag = leb→le (subterms_of tag) 2 (both_left (leb (subterms_of tag) 2) _ (past_operand tag))

pub binders_at_most : (tag : ℕ) → binders_of tag ≤ 2
binders_at_most tag = leb→le (binders_of tag) 2 (both_left (leb (binders_of tag) 2) _ (past_subterms tag))

pub refers_at_most : (tag : ℕ) → refers_of tag ≤ to_name
refers_at_most tag = leb→le (refers_of tag) to_name (both_right (leb (binders_of tag) 2) _ (past_subterms tag))

pub length_operand : (tag arg : ℕ) → length (little_endian (operand_of tag) arg) ≡ operand_of tag
length_operand tag arg = length_little_endian (operand_of tag) arg (operand_at_most tag)

-- what `node_of` says where it finds a node
pub record Heads (l : List ℕ) (h : Node) : Type 0 where
  pub at_tag : get_or l 0 0 ≡ h.tag
  pub at_arg : front_operand l ≡ h.arg
  pub at_size : 1 + operand_of h.tag ≡ h.size
  pub at_subterms : subterms_of h.tag ≡ h.subterms
  pub at_binders : binders_of h.tag ≡ h.binders
  pub at_refers : refers_of h.tag ≡ h.refers
  pub known : h.tag < tags
  pub whole : h.size ≤ length l

picked : (b : Bool) (h k : Node) → cond b (Some h) None ≡ Some k → (b ≡ true) × (h ≡ k)
picked true h k e = (refl, cc)
picked false h k e = (cc, cc)

-- the tests of `front_stands` that passed
stood : (l : List ℕ) → front_stands l ≡ true → (front_tag l < tags) × (front_size l ≤ length l)
stood l e =
    let (tag, whole) = and_parts (ltb 0 (length l) && ltb (front_tag l) tags) (leb (front_size l) (length l)) e in
    let (some, known) = and_parts (ltb 0 (length l)) (ltb (front_tag l) tags) tag in
    (ltb-true (front_tag l) tags known, leb-true (front_size l) (length l) whole)

pub head_is : (l : List ℕ) (h : Node) → node_of l ≡ Some h → Heads l h
unfolding node_of
head_is l h e =
    let p = picked (front_stands l) (front_node l) h e in
    let s = stood l p.0 in
    subst (Heads l) p.1
    (record { at_tag = refl; at_arg = refl; at_size = refl; at_subterms = refl; at_binders = refl; at_refers = refl; known = s.0; whole = s.1 })

-- the ways to no node, and the way to one
module _ (l : List ℕ) where
  pub head_none : length l ≡ 0 → None ≡ node_of l
  unfolding node_of
  head_none h = simp (le-ltb 0 (length l) (omega arith))

  module _ (some : 0 < length l) where
    pub head_unknown : tags ≤ front_tag l → None ≡ node_of l
    unfolding node_of
    head_unknown h = simp (lt-ltb 0 (length l) some, le-ltb (front_tag l) tags h)

    module _ (known : front_tag l < tags) where
      pub head_cut : length l < front_size l → None ≡ node_of l
      unfolding node_of
      head_cut h = simp (lt-ltb 0 (length l) some, lt-ltb (front_tag l) tags known, lt-leb (front_size l) (length l) h)

      pub head_node : front_size l ≤ length l → Some (front_node l) ≡ node_of l
      unfolding node_of
      head_node h = simp (lt-ltb 0 (length l) some, lt-ltb (front_tag l) tags known, le-leb (front_size l) (length l) h)

-- a node that the table allows
abbrev pub table_node : ℕ → ℕ → ℕ → Node
table_node tag arg k = record { tag = tag; arg = arg; size = 1 + operand_of tag; subterms = k; binders = binders_of tag; refers = refers_of tag }

-- is read back
pub head_reads : (tag arg k : ℕ) (rest : List ℕ) → InTable tag arg k → node_of (node_bytes tag arg ++ rest) ≡ Some (table_node tag arg k)
unfolding node_of
head_reads tag arg k rest a =
    let v : value_of (operand_of tag) (little_endian (operand_of tag) arg ++ rest) ≡ arg = value_bytes (operand_of tag) arg rest (operand_at_most tag) a.fits in
    let n : length (little_endian (operand_of tag) arg ++ rest) ≡ operand_of tag + length rest =
    simp (length-append, length_operand tag arg) in
    simp (v, lt-ltb 0 (suc (length (little_endian (operand_of tag) arg ++ rest))) (omega arith), lt-ltb tag tags a.form.known, le-leb (1 + operand_of tag) (suc (length (little_endian (operand_of tag) arg ++ rest))) (omega arith), a.form.shape)

-- past it stands the rest
pub head_past : (tag arg : ℕ) (rest : List ℕ) → drop (1 + operand_of tag) (node_bytes tag arg ++ rest) ≡ rest
head_past tag arg rest = drop_at (node_bytes tag arg) rest (1 + operand_of tag) (simp (length_operand tag arg) (omega arith))

-- the bytes of what is read stand there
pub head_written : (l : List ℕ) (h : Node) → Bytes l → Heads l h → node_bytes h.tag h.arg ++ drop h.size l ≡ l
head_written [] h b e = absurd (omega (arith, e.whole, e.at_size))
head_written (x ∷ xs) h b e =
    let o : 1 + operand_of x ≤ suc (length xs) = rw (e.at_tag, e.at_size) e.whole in
    rw (← e.at_size, ← e.at_arg, ← e.at_tag, one-add)
    (ap (λ (r : List ℕ). x ∷ r) (bytes_value (operand_of x) xs (operand_at_most x) (λ i. b (suc i)) (omega arith)))

pub head_allowed : (l : List ℕ) (h : Node) → Bytes l → Heads l h → InTable h.tag h.arg h.subterms
head_allowed [] h b e = absurd (omega (arith, e.whole, e.at_size))
head_allowed (x ∷ xs) h b e =
    record {
      form = record { known = e.known; shape = e.at_subterms };
      fits = rw (← e.at_arg, ← e.at_tag) (value_fits (operand_of x) xs (operand_at_most x) (λ i. b (suc i)));
    }

-- so an operand is what two bytes say
pub arg_small : (l : List ℕ) (h : Node) → Bytes l → node_of l ≡ Some h → h.arg < two_byte_values
arg_small l h b is = by (operand_of h.tag) (operand_at_most h.tag) (head_allowed l h b (head_is l h is)).fits
  where
    by : (n : ℕ) → n ≤ 2 → h.arg < byte_values ^ n → h.arg < two_byte_values
    by zero le f = omega arith
    by (suc zero) le f = omega arith
    by (suc (suc zero)) le f = omega arith
    by (suc (suc (suc n))) le f = absurd (omega arith)
