-- `term_walk::pass` meets its contract: what it stores (proofs/Stack.antt).
use Rattle.term_walk.proofs.Stack.{passed}
use Rattle.term_walk.proofs.pass.Goals as goal

pub returns : goal.returns
returns c = let a = c.args in passed a.frames.now a.waits a.subterms a.first a.last c.requires.0 c.requires.1.0 c.requires.1.1
