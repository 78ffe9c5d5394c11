-- What stands in the bytes of a node and of a whole term: their parts of the slice.
use mathlib.Core.Path.{◌≡◌, sym}
use mathlib.Core.List.{List, ◌++◌}
use Prim.Native.Nat.{ℕ, ◌+◌, ◌-◌, ◌≤◌}
use native.Mathlib.Omega.{arith}
use lib.ListN.{drop, length, length-drop, take}
use lib.Seq.{length-take-le, take-append_seam}
use Rattle.calculus.specs.Bytes.{Bytes}
use Rattle.std.proofs.Common.{Some}
use Rattle.term.specs.declared.Node.{Node}
use Rattle.term.specs.Reader.{end_at, GoodAt, node_at}
use Rattle.term.specs.Tree.{node_bytes}
use Rattle.term.specs.Expressions.{bytes, term_at}
use Rattle.term.proofs.Nodes.{head_is, head_written, length_operand}
use Rattle.term.proofs.Terms.{bytes_drop}
use Rattle.term.proofs.Sizes.{length_bytes}
use Rattle.term.proofs.Expressions.{term_stands}

-- the part of a slice from one position to another
abbrev pub part : List ℕ → ℕ → ℕ → List ℕ
part s from to = take (to - from) (drop from s)

pub length_part : (s : List ℕ) (from to : ℕ) → to ≤ length s → length (part s from to) ≡ to - from
length_part s from to inside = length-take-le (to - from) (drop from s) (omega (arith, length-drop from s))

-- the bytes x stand there
front : (s x y : List ℕ) (from to : ℕ) → drop from s ≡ x ++ y → to ≡ from + length x → part s from to ≡ x
front s x y from to stands ends =
    let n : to - from ≡ length x = omega arith in
    rw (n, stands) (take-append_seam x y)

module _ (s : List ℕ) (b : Bytes s) where
  -- a whole term
  pub copied_term : {from to : ℕ} → GoodAt s from → to ≡ end_at s from → part s from to ≡ bytes (term_at s from)
  copied_term {from} {to} g ends =
      let (t, e) = term_stands b g in
      front s (bytes (term_at s from)) _ from to t.stands (omega (arith, ends, e, length_bytes (term_at s from)))

  -- a node without its subterms
  pub copied_node : (here : ℕ) {h : Node} → node_at s here ≡ Some h → part s here (here + h.size) ≡ node_bytes h.tag h.arg
  unfolding node_at
  copied_node here {h} is =
      let f = head_is (drop here s) h is in
      front s (node_bytes h.tag h.arg) (drop h.size (drop here s)) here (here + h.size) (sym (head_written (drop here s) h (bytes_drop here s b) f))
      (omega (arith, f.at_size, length_operand h.tag h.arg))
