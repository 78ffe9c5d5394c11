-- Document 01, "The image", and T-08's owners: the bytes of a configuration whose names have owners, and what a slice says.
use Rattle.std.specs.Prelude.{List, [], ◌∷◌, map, ℕ, drop, get_or}
use Rattle.calculus.specs.Lists.{tabulate}
use Rattle.calculus.specs.Syntax.{Component, thread_of, holds, open_for, used, awaited, Config}
use Rattle.calculus.specs.Owners.{Owners, Owned, owner}
use Rattle.term.specs.Expressions.{bytes, term_of}
use Rattle.image_layout.specs.Encoded.{Encoded, image_bytes}
use Rattle.image_layout.specs.Slice.{names, owner_at, encoded_all}
use Rattle.image.specs.Holding.{thread_holding, cell_holding, handle_open, handle_used, future_awaited}

-- "Kinds: 1 thread (its expression), 2 cell (its value), 3 open handle (companion is its future's number), 4 used handle, 5 future not yet bound"; T-08, "The companion
-- byte of kinds 1, 2, 4 and 5 now holds the owning bay": a component with its owner
unfoldable pub encode : Component → ℕ → Encoded
encode (thread_of e) = thread_holding (bytes e)
encode (holds v) = cell_holding (bytes v)
encode (open_for y) = handle_open y
encode used = handle_used
encode awaited = future_awaited

-- components, each with its owner
unfoldable pub encode_all : Config → Owners → List Encoded
encode_all [] O = []
encode_all (c ∷ C) O = encode c (owner O 0) ∷ encode_all C (drop 1 O)

-- the image of a configuration whose names have owners
unfoldable pub image_of : Owned → List ℕ
image_of I = image_bytes (encode_all I.config I.owners)

-- the component that each kind says; there is no kind 0, and none above 5
unfoldable pub components : Encoded → List Component
components x = used ∷ thread_of (term_of x.expression) ∷ holds (term_of x.expression) ∷ open_for x.companion ∷ used ∷ awaited ∷ []

unfoldable pub decode : Encoded → Component
decode x = get_or (components x) x.kind used

-- the configuration that a slice says
unfoldable pub config_of : List ℕ → Config
config_of s = map decode (encoded_all s)

-- and the owners of its names
unfoldable pub owners_of : List ℕ → Owners
owners_of s = tabulate (names s) (owner_at s)

abbrev pub owned_of : List ℕ → Owned
owned_of s = record { owners = owners_of s; config = config_of s }
