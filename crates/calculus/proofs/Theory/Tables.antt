-- A table that keeps its rules gives each number below its length one type, and no type two numbers.
use Rattle.std.proofs.Common.{◌∙◌, sym, arith}
use Rattle.std.specs.Prelude.{◌≡◌, false, length}
use Rattle.std.proofs.Math.Path.{refl}
use Rattle.std.proofs.lemmas.Bool.{false≢true}
use Rattle.std.proofs.Math.Option.{Option, none-ne-some, none, some}
use Prim.Native.Nat.{◌<◌, suc, zero, ℕ}
use Rattle.calculus.specs.Types.{Multiplicity, once, many, LinType, unit_type, num_type, ref, fun, pair_type, list_type, multiplicity, Holds}
use Rattle.calculus.specs.Syntax.{at}
use Rattle.calculus.specs.Typing.{TypeNumbers}
use Rattle.calculus.specs.Table.{Entry, entry, Table, EntryRule, unit_rule, num_rule, cell_rule, once_rule, many_rule, once_pair_rule, many_pair_rule, once_list_rule, many_list_rule, is_once_kind, ManyEntry, TableRule, one_part, two_parts, read_entry, read_at, read_deep, type_at}
use Rattle.calculus.proofs.Theory.Tests.{once_not_many}
use Rattle.calculus.proofs.Theory.Lists.{at_bound, at_below}

-- an entry that keeps its rule is read alike by two readings that agree below it
read_entry_below : {T : Table} {k kind p q : ℕ} (τ τ' : TypeNumbers) → EntryRule T k kind p q → ((p : ℕ) → p < k → τ p ≡ τ' p) → read_entry kind p q τ ≡ read_entry kind p q τ'
unfolding read_entry
read_entry_below τ τ' unit_rule h = refl
read_entry_below τ τ' num_rule h = refl
read_entry_below τ τ' (cell_rule {p = p} l) h = rw (h p l)
read_entry_below τ τ' (once_rule {p = p} {q = q} l m) h = rw (h p l, h q m)
read_entry_below τ τ' (many_rule {p = p} {q = q} l m) h = rw (h p l, h q m)
read_entry_below τ τ' (once_pair_rule {p = p} {q = q} l m) h = rw (h p l, h q m)
read_entry_below τ τ' (many_pair_rule {p = p} {q = q} l m w w') h = rw (h p l, h q m)
read_entry_below τ τ' (once_list_rule {p = p} l) h = rw (h p l)
read_entry_below τ τ' (many_list_rule {p = p} l w) h = rw (h p l)

module _ {T : Table} (R : TableRule T) where
  read_at_below : (k : ℕ) (τ τ' : TypeNumbers) → ((p : ℕ) → p < k → τ p ≡ τ' p) → read_at (at T k) τ ≡ read_at (at T k) τ'
  unfolding read_at
  read_at_below k τ τ' h = go (at T k) refl
    where
      go : (o : Option Entry) → at T k ≡ o → read_at o τ ≡ read_at o τ'
      go none e = refl
      go (some x) e = read_entry_below τ τ' (R.each k x e) h

  -- to read deeper than the number changes nothing
  read_deep_stable : (m n k : ℕ) → k < m → k < n → read_deep m T k ≡ read_deep n T k
  unfolding read_deep
  read_deep_stable zero n k l l' = absurd (omega arith)
  read_deep_stable (suc m) zero k l l' = absurd (omega arith)
  read_deep_stable (suc m) (suc n) k l l' =
      read_at_below k (λ p. read_deep m T p) (λ p. read_deep n T p) (λ p h. read_deep_stable m n p (omega arith) (omega arith))

  pub type_at_step : (k : ℕ) → type_at T k ≡ read_at (at T k) (type_at T)
  unfolding type_at read_deep
  type_at_step k = read_at_below k (λ p. read_deep k T p) (type_at T) (λ p h. read_deep_stable k (suc p) p h (omega arith))

-- the kinds of functions, pairs and lists
abbrev pub function_kind : Multiplicity → ℕ
function_kind once = 3
function_kind many = 4

abbrev pub pair_kind : Multiplicity → ℕ
pair_kind once = 5
pair_kind many = 6

abbrev pub list_kind : Multiplicity → ℕ
list_kind once = 7
list_kind many = 8

-- what the entry of a type is
pub data View (T : Table) (k : ℕ) : LinType → Type 0 where
  view_unit : at T k ≡ some (entry 0 0 0) → View T k unit_type
  view_num : at T k ≡ some (entry 1 0 0) → View T k num_type
  view_cell : {p : ℕ} {α : LinType} → at T k ≡ some (entry 2 p 0) → type_at T p ≡ some α → View T k (ref α)
  view_function : {p q : ℕ} {κ : Multiplicity} {α β : LinType} →
      at T k ≡ some (entry (function_kind κ) p q) → type_at T p ≡ some α → type_at T q ≡ some β → View T k (fun κ α β)
  view_pair : {p q : ℕ} {κ : Multiplicity} {α β : LinType} →
      at T k ≡ some (entry (pair_kind κ) p q) → type_at T p ≡ some α → type_at T q ≡ some β → Holds κ α → Holds κ β → View T k (pair_type κ α β)
  view_list : {p : ℕ} {κ : Multiplicity} {α : LinType} → at T k ≡ some (entry (list_kind κ) p 0) → type_at T p ≡ some α → Holds κ α → View T k (list_type κ α)

one_part_parts : (make : LinType → LinType) (o : Option LinType) {γ : LinType} → one_part make o ≡ some γ → (α : LinType) × (o ≡ some α) × (γ ≡ make α)
unfolding one_part
one_part_parts make none {γ} e = absurd (none-ne-some γ e)
one_part_parts make (some α) e = (α, refl, cc)

two_parts_parts : (make : LinType → LinType → LinType) (o o' : Option LinType) {γ : LinType} → two_parts make o o' ≡ some γ →
    (α : LinType) × (β : LinType) × (o ≡ some α) × (o' ≡ some β) × (γ ≡ make α β)
unfolding two_parts
two_parts_parts make none o' {γ} e = absurd (none-ne-some γ e)
two_parts_parts make (some α) none {γ} e = absurd (none-ne-some γ e)
two_parts_parts make (some α) (some β) e = (α, β, refl, refl, cc)

-- an entry of a many kind says a many type
many_read : (kind p q : ℕ) (τ : TypeNumbers) {γ : LinType} → is_once_kind kind ≡ false → read_entry kind p q τ ≡ some γ → multiplicity γ ≡ many
unfolding read_entry
many_read zero p q τ m e = cc
many_read (suc zero) p q τ m e = cc
many_read (suc (suc zero)) p q τ m e = let (α, a, r) = one_part_parts ref (τ p) e in rw r refl
many_read (suc (suc (suc zero))) p q τ m e = absurd (false≢true (sym m))
many_read (suc (suc (suc (suc zero)))) p q τ m e = let (α, β, a, b, r) = two_parts_parts (fun many) (τ p) (τ q) e in rw r refl
many_read (suc (suc (suc (suc (suc zero))))) p q τ m e = absurd (false≢true (sym m))
many_read (suc (suc (suc (suc (suc (suc zero)))))) p q τ m e = let (α, β, a, b, r) = two_parts_parts (pair_type many) (τ p) (τ q) e in rw r refl
many_read (suc (suc (suc (suc (suc (suc (suc zero))))))) p q τ m e = absurd (false≢true (sym m))
many_read (suc (suc (suc (suc (suc (suc (suc (suc zero)))))))) p q τ m e = let (α, a, r) = one_part_parts (list_type many) (τ p) e in rw r refl
many_read (suc (suc (suc (suc (suc (suc (suc (suc (suc n))))))))) p q τ {γ} m e = absurd (none-ne-some γ e)

read_entry_function : (κ : Multiplicity) (p q : ℕ) (τ : TypeNumbers) → read_entry (function_kind κ) p q τ ≡ two_parts (fun κ) (τ p) (τ q)
unfolding read_entry
read_entry_function once p q τ = refl
read_entry_function many p q τ = refl

read_entry_pair : (κ : Multiplicity) (p q : ℕ) (τ : TypeNumbers) → read_entry (pair_kind κ) p q τ ≡ two_parts (pair_type κ) (τ p) (τ q)
unfolding read_entry
read_entry_pair once p q τ = refl
read_entry_pair many p q τ = refl

read_entry_list : (κ : Multiplicity) (p q : ℕ) (τ : TypeNumbers) → read_entry (list_kind κ) p q τ ≡ one_part (list_type κ) (τ p)
unfolding read_entry
read_entry_list once p q τ = refl
read_entry_list many p q τ = refl

module _ {T : Table} (R : TableRule T) where
  -- Fig. 10's condition: a type entry that is many may be held by any
  held : (p : ℕ) {α : LinType} → ManyEntry T p → type_at T p ≡ some α → Holds many α
  unfolding read_at
  held p {α} (x, g, m) e o =
      let r : read_at (some x) (type_at T) ≡ some α = rw g at (sym (type_at_step R p) ∙ e) in
      absurd (once_not_many o (many_read x.kind x.p x.q (type_at T) m r))

  view_entry : {k kind p q : ℕ} {γ : LinType} → EntryRule T k kind p q → at T k ≡ some (entry kind p q) →
      read_entry kind p q (type_at T) ≡ some γ → View T k γ
  unfolding read_entry
  view_entry {γ = γ} unit_rule g e = let r : γ ≡ unit_type = cc in rw r (view_unit g)
  view_entry {γ = γ} num_rule g e = let r : γ ≡ num_type = cc in rw r (view_num g)
  view_entry (cell_rule {p = p} l) g e = let (α, a, r) = one_part_parts ref (type_at T p) e in rw r (view_cell g a)
  view_entry (once_rule {p = p} {q = q} l m) g e =
      let (α, β, a, b, r) = two_parts_parts (fun once) (type_at T p) (type_at T q) e in rw r (view_function {κ = once} g a b)
  view_entry (many_rule {p = p} {q = q} l m) g e =
      let (α, β, a, b, r) = two_parts_parts (fun many) (type_at T p) (type_at T q) e in rw r (view_function {κ = many} g a b)
  view_entry (once_pair_rule {p = p} {q = q} l m) g e =
      let (α, β, a, b, r) = two_parts_parts (pair_type once) (type_at T p) (type_at T q) e in rw r (view_pair {κ = once} g a b (λ o. refl) (λ o. refl))
  view_entry (many_pair_rule {p = p} {q = q} l m w w') g e =
      let (α, β, a, b, r) = two_parts_parts (pair_type many) (type_at T p) (type_at T q) e in rw r (view_pair {κ = many} g a b (held p w a) (held q w' b))
  view_entry (once_list_rule {p = p} l) g e = let (α, a, r) = one_part_parts (list_type once) (type_at T p) e in rw r (view_list {κ = once} g a (λ o. refl))
  view_entry (many_list_rule {p = p} l w) g e = let (α, a, r) = one_part_parts (list_type many) (type_at T p) e in rw r (view_list {κ = many} g a (held p w a))

  pub view : {k : ℕ} {γ : LinType} → type_at T k ≡ some γ → View T k γ
  unfolding read_at
  view {k} {γ} e = go (at T k) refl (sym (type_at_step R k) ∙ e)
    where
      go : (o : Option Entry) → at T k ≡ o → read_at o (type_at T) ≡ some γ → View T k γ
      go none g e = absurd (none-ne-some γ e)
      go (some x) g e = view_entry (R.each k x g) g e

  pub view_type : {k : ℕ} {γ : LinType} → View T k γ → type_at T k ≡ some γ
  unfolding read_at read_entry one_part two_parts
  view_type {k} (view_unit g) = rw (type_at_step R k, g)
  view_type {k} (view_num g) = rw (type_at_step R k, g)
  view_type {k} (view_cell g a) = rw (type_at_step R k, g, a)
  view_type {k} (view_function {p = p} {q = q} {κ = κ} g a b) = rw (type_at_step R k, g, read_entry_function κ p q (type_at T), a, b)
  view_type {k} (view_pair {p = p} {q = q} {κ = κ} g a b h h') = rw (type_at_step R k, g, read_entry_pair κ p q (type_at T), a, b)
  view_type {k} (view_list {p = p} {κ = κ} g a h) = rw (type_at_step R k, g, read_entry_list κ p 0 (type_at T), a)

  -- two numbers of one type are equal
  pub view_unique : (γ : LinType) {i j : ℕ} → View T i γ → View T j γ → i ≡ j
  view_unique unit_type {i} {j} (view_unit g) (view_unit g') = R.distinct i j (entry 0 0 0) g g'
  view_unique num_type {i} {j} (view_num g) (view_num g') = R.distinct i j (entry 1 0 0) g g'
  view_unique (ref γ) {i} {j} (view_cell {p = p} g a) (view_cell g' a') = R.distinct i j (entry 2 p 0) g (rw (view_unique γ (view a) (view a')) g')
  view_unique (fun κ γ δ) {i} {j} (view_function {p = p} {q = q} g a b) (view_function {p = p'} {q = q'} g' a' b') =
      let e : p ≡ p' = view_unique γ (view a) (view a') in
      let e' : q ≡ q' = view_unique δ (view b) (view b') in
      R.distinct i j (entry (function_kind κ) p q) g (rw (e, e') g')
  view_unique (pair_type κ γ δ) {i} {j} (view_pair {p = p} {q = q} g a b h h') (view_pair {p = p'} {q = q'} g' a' b' o o') =
      let e : p ≡ p' = view_unique γ (view a) (view a') in
      let e' : q ≡ q' = view_unique δ (view b) (view b') in
      R.distinct i j (entry (pair_kind κ) p q) g (rw (e, e') g')
  view_unique (list_type κ γ) {i} {j} (view_list {p = p} g a h) (view_list g' a' o) =
      R.distinct i j (entry (list_kind κ) p 0) g (rw (view_unique γ (view a) (view a')) g')

  pub type_at_injective : {i j : ℕ} {γ : LinType} → type_at T i ≡ some γ → type_at T j ≡ some γ → i ≡ j
  type_at_injective {γ = γ} e e' = view_unique γ (view e) (view e')

-- the numbers of types are those below the table's length
pub view_bound : {T : Table} {k : ℕ} {γ : LinType} → View T k γ → k < length T
view_bound {T} {k} (view_unit g) = at_bound T k g
view_bound {T} {k} (view_num g) = at_bound T k g
view_bound {T} {k} (view_cell g a) = at_bound T k g
view_bound {T} {k} (view_function g a b) = at_bound T k g
view_bound {T} {k} (view_pair g a b h h') = at_bound T k g
view_bound {T} {k} (view_list g a h) = at_bound T k g

-- an entry whose parts have types has one
known_one : (make : LinType → LinType) {o : Option LinType} → (α : LinType) × (o ≡ some α) → (γ : LinType) × (one_part make o ≡ some γ)
unfolding one_part
known_one make (α, a) = (make α, rw a)

known_two : (make : LinType → LinType → LinType) {o o' : Option LinType} → (α : LinType) × (o ≡ some α) → (β : LinType) × (o' ≡ some β) →
    (γ : LinType) × (two_parts make o o' ≡ some γ)
unfolding two_parts
known_two make (α, a) (β, b) = (make α β, rw (a, b))

known_entry : {T : Table} {k kind p q : ℕ} (τ : TypeNumbers) → EntryRule T k kind p q → ((p : ℕ) → p < k → (γ : LinType) × (τ p ≡ some γ)) →
    (γ : LinType) × (read_entry kind p q τ ≡ some γ)
unfolding read_entry
known_entry τ unit_rule h = (unit_type, refl)
known_entry τ num_rule h = (num_type, refl)
known_entry τ (cell_rule {p = p} l) h = known_one ref (h p l)
known_entry τ (once_rule {p = p} {q = q} l m) h = known_two (fun once) (h p l) (h q m)
known_entry τ (many_rule {p = p} {q = q} l m) h = known_two (fun many) (h p l) (h q m)
known_entry τ (once_pair_rule {p = p} {q = q} l m) h = known_two (pair_type once) (h p l) (h q m)
known_entry τ (many_pair_rule {p = p} {q = q} l m w w') h = known_two (pair_type many) (h p l) (h q m)
known_entry τ (once_list_rule {p = p} l) h = known_one (list_type once) (h p l)
known_entry τ (many_list_rule {p = p} l w) h = known_one (list_type many) (h p l)

-- a number has no entry and no type, or it has both
pub data Looked (T : Table) (t : ℕ) : Type 0 where
  no_entry : at T t ≡ none → type_at T t ≡ none → Looked T t
  has_entry : (γ : LinType) → type_at T t ≡ some γ → Looked T t

module _ {T : Table} (R : TableRule T) where
  known_upto : (n k : ℕ) → k < n → k < length T → (γ : LinType) × (type_at T k ≡ some γ)
  unfolding read_at
  known_upto zero k h h' = absurd (omega arith)
  known_upto (suc n) k h h' =
      let (x, g) = at_below T k h' in
      let (γ, e) = known_entry (type_at T) (R.each k x g) (λ p l. known_upto n p (omega arith) (omega arith)) in
      (γ, rw (type_at_step R k, g) e)

  pub known : (k : ℕ) → k < length T → (γ : LinType) × (type_at T k ≡ some γ)
  known k h = known_upto (suc k) k (omega arith) h

  pub look : (t : ℕ) → Looked T t
  unfolding read_at
  look t = go (at T t) refl
    where
      go : (o : Option Entry) → at T t ≡ o → Looked T t
      go none g = no_entry g (rw (type_at_step R t, g))
      go (some x) g = let (γ, e) = known t (at_bound T t g) in has_entry γ e

-- Fig. 10's "such that", of every pair and list in a type
unfoldable pub Formed : LinType → Type 0
Formed unit_type = Unit {0}
Formed num_type = Unit {0}
Formed (ref α) = Formed α
Formed (fun κ α β) = Formed α × Formed β
Formed (pair_type κ α β) = Holds κ α × Holds κ β × Formed α × Formed β
Formed (list_type κ α) = Holds κ α × Formed α

-- every type of a table that keeps its rules is one of Figs. 8 and 10
pub formed : {T : Table} → TableRule T → (γ : LinType) {k : ℕ} → View T k γ → Formed γ
unfolding Formed
formed R unit_type v = tt
formed R num_type v = tt
formed R (ref α) (view_cell g a) = formed R α (view R a)
formed R (fun κ α β) (view_function g a b) = (formed R α (view R a), formed R β (view R b))
formed R (pair_type κ α β) (view_pair g a b h h') = (h, h', formed R α (view R a), formed R β (view R b))
formed R (list_type κ α) (view_list g a h) = (h, formed R α (view R a))
