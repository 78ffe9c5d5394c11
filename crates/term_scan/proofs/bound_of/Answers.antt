-- `term_scan::bound_of` meets its contract: its table is the table of `specs/`.
use borrow.Author.Rules.{rules}
use Rattle.term_scan.specs.Scopes.{bound_of}
use Rattle.term_scan.proofs.bound_of.Goals as goal

pub returns : goal.returns
unfolding bound_of
returns c = search rules
