-- Where a term that begins at a position ends, and how many nodes it has; for any bytes.
use Rattle.std.specs.Prelude.{Bool, false, true, List, [], ◌∷◌, ◌+◌, ℕ, leb, drop, Option, None, Some}
use Rattle.term.specs.Tree.{tree_nodes, tree_size}
use Rattle.term.specs.Reader.{Got, got, none, of_edition, read_term}
use Rattle.term_scan.specs.declared.Extent.{Extent}

-- an end and nodes
abbrev pub ends : ℕ → ℕ → Option Extent
ends e n = Some (record { end = e; nodes = n })

-- the end and the nodes of a term that was read from a position
abbrev pub scanned : ℕ → Got → Option Extent
scanned at none = None
scanned at (got t rest) = ends (at + tree_size t) (tree_nodes t)

-- the same of the term at a position
unfoldable pub extent_at : List ℕ → ℕ → Option Extent
extent_at l at = scanned at (read_term (drop at l))

-- the same in an edition with so many node forms
unfoldable pub edition_extent : ℕ → List ℕ → ℕ → Option Extent
edition_extent forms l at = scanned at (of_edition forms (read_term (drop at l)))

-- an end and nodes where a test holds, and otherwise none
abbrev pub keeping : Bool → ℕ → ℕ → Option Extent
keeping true e n = ends e n
keeping false e n = None

-- under a budget of nodes, with one answer for what is no term and for what has too many
abbrev pub small : ℕ → Option Extent → Option Extent
small budget None = None
small budget (Some x) = keeping (leb x.nodes budget) x.end x.nodes

-- with the same answer for what is not in scope
abbrev pub in_scope : Bool → Option Extent → Option Extent
in_scope true x = x
in_scope false x = None

-- document 01, cause 5, "a part is not exactly one term: unknown tag, cut, bytes over"
abbrev pub exactly : Got → Option ℕ
exactly none = None
exactly (got t []) = Some (tree_nodes t)
exactly (got t (b ∷ l)) = None

-- the nodes of a part that is one term, in an edition with so many node forms
unfoldable pub part_of : ℕ → List ℕ → Option ℕ
part_of forms l = exactly (of_edition forms (read_term l))
