-- `term::node_of` meets its contract: at each `return` the tests that led there say which case of `node_of` holds (proofs/Nodes.antt).
use mathlib.Core.Path.{◌≡◌, ap}
use native.Mathlib.Omega.{arith}
use lib.ListN.{get_or}
use Rattle.term.specs.declared.Form.{Form}
use Rattle.term.specs.Forms.{operand_of}
use Rattle.term.specs.Reader.{front_operand}
use Rattle.term.proofs.Nodes.{operand_at_most, head_none, head_unknown, head_cut, head_node}
use Rattle.term.proofs.node_of.Goals as goal

pub returns-then-s-eq0 : goal.returns-then-s-eq0
returns-then-s-eq0 c = head_none c.args.s.now c.if-s-eq0.true

pub returns-then-tag-ge-TAGS : goal.returns-then-tag-ge-TAGS
returns-then-tag-ge-TAGS c = head_unknown c.args.s.now (omega arith) (omega arith)

pub returns-then-s-size : goal.returns-then-s-size
returns-then-s-size c =
    let l = c.args.s.now in
    let f = c.form_of-form in
    let o : f.result.operand ≡ operand_of (get_or l 0 0) = ap (λ (x : Form). x.operand) f.ensures in
    head_cut l (omega arith) (omega arith) (omega arith)

pub operand_of-arg-requires : goal.operand_of-arg-requires
operand_of-arg-requires c =
    let l = c.args.s.now in
    let f = c.form_of-form in
    let o : f.result.operand ≡ operand_of (get_or l 0 0) = ap (λ (x : Form). x.operand) f.ensures in
    omega (arith, operand_at_most (get_or l 0 0))

pub returns : goal.returns
returns c =
    let l = c.args.s.now in
    let f = c.form_of-form in
    let o : f.result.operand ≡ operand_of (get_or l 0 0) = ap (λ (x : Form). x.operand) f.ensures in
    let a : c.operand_of-arg.result ≡ front_operand l = rw (← o) c.operand_of-arg.ensures in
    rw (a, f.ensures) (head_node l (omega arith) (omega arith) (omega arith))
