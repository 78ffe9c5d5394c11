-- What a component that is read says.
use Rattle.std.specs.Prelude.{◌≡◌, refl, Bool, cond, List, ℕ, ◌<◌, length}
use Rattle.std.proofs.Common.{ap, eq-eqb, ne_eqb}
use Rattle.std.proofs.Math.Option.{some}
use Rattle.calculus.specs.Kinds.{open_handle_kind}
use Rattle.calculus.specs.Syntax.{at}
use Rattle.calculus.proofs.Theory.Tabulate.{length_tabulate, tabulate_at}
use Rattle.image_layout.specs.Slice.{names, kind_at, companion_at, owner_at, expression_at, encoded_at, encoded_all}

pub encoded_kind : (s : List ℕ) (k : ℕ) → (encoded_at s k).kind ≡ kind_at s k
unfolding encoded_at
encoded_kind s k = refl

pub encoded_companion : (s : List ℕ) (k : ℕ) → (encoded_at s k).companion ≡ companion_at s k
unfolding encoded_at
encoded_companion s k = refl

pub encoded_expression : (s : List ℕ) (k : ℕ) → (encoded_at s k).expression ≡ expression_at s k
unfolding encoded_at
encoded_expression s k = refl

-- there are m of them
pub length_encoded : (s : List ℕ) → length (encoded_all s) ≡ names s
unfolding encoded_all
length_encoded s = length_tabulate (names s) (encoded_at s)

-- and that of name k stands at k
pub encoded_there : (s : List ℕ) (k : ℕ) → k < names s → at (encoded_all s) k ≡ some (encoded_at s k)
unfolding encoded_all
encoded_there s k h = tabulate_at (names s) (encoded_at s) k h

-- T-08: an open handle's owner is in its future's companion byte, any other name's in its own
pub owner_of_open : (s : List ℕ) (k : ℕ) → kind_at s k ≡ open_handle_kind → owner_at s k ≡ companion_at s (companion_at s k)
unfolding owner_at
owner_of_open s k e = ap (λ (b : Bool). companion_at s (cond b (companion_at s k) k)) (eq-eqb (kind_at s k) open_handle_kind e)

pub owner_of_other : (s : List ℕ) (k : ℕ) → ¬ (kind_at s k ≡ open_handle_kind) → owner_at s k ≡ companion_at s k
unfolding owner_at
owner_of_other s k n = ap (λ (b : Bool). companion_at s (cond b (companion_at s k) k)) (ne_eqb (kind_at s k) open_handle_kind n)
