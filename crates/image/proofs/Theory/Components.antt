-- A component in bytes, and back; components with their owners, one by one.
use Rattle.std.proofs.Common.{◌∙◌, ap, arith}
use Rattle.std.specs.Prelude.{◌≡◌, refl, List, [], ◌∷◌, drop, length}
use Rattle.std.proofs.Math.Path.{sym}
use Rattle.std.proofs.Math.Option.{some}
use Prim.Native.Nat.{◌<◌, ◌≤◌, suc, zero, ℕ}
use Rattle.calculus.specs.Lists.{tabulate}
use Rattle.calculus.specs.Names.{count}
use Rattle.calculus.specs.Syntax.{Component, thread_of, holds, open_for, used, awaited, Config, at, In, sum_in, Each}
use Rattle.calculus.specs.Owners.{Owners, owner}
use Rattle.calculus.specs.Limits.{byte_values, max_bays}
use Rattle.calculus.specs.Image.{Writable}
use Rattle.calculus.proofs.Theory.Tests.{clash}
use Rattle.calculus.proofs.Theory.Tabulate.{tabulate_is}
use Rattle.term.specs.Expressions.{bytes, term_at, FitsBytes}
use Rattle.term.proofs.Expressions.{term_of_bytes}
use Rattle.calculus.specs.Kinds.{open_handle_kind}
use Rattle.image_layout.specs.Encoded.{Encoded}
use Rattle.image_layout.specs.Layout.{HeadRule}
use Rattle.image.specs.Configuration.{encode, encode_all, components, decode}

-- what is written is read
pub decode_encode : (c : Component) (owner : ℕ) → In FitsBytes c → decode (encode c owner) ≡ c
unfolding decode components encode
decode_encode (thread_of e) owner f = ap thread_of (term_of_bytes e f)
decode_encode (holds e) owner f = ap holds (term_of_bytes e f)
decode_encode (open_for y) owner f = refl
decode_encode used owner f = refl
decode_encode awaited owner f = refl

-- as the layout has it of a component
abbrev pub Rule : Encoded → Type 0
Rule x = HeadRule x.kind x.companion (length x.expression)

-- a component's head keeps the layout's rules
pub encode_rule : (c : Component) (owner : ℕ) → owner < max_bays → Rule (encode c owner)
unfolding encode
encode_rule (thread_of e) owner l = record { kinds = (omega arith, omega arith); companions = λ n. l; lengths = λ l. absurd (omega arith) }
encode_rule (holds e) owner l = record { kinds = (omega arith, omega arith); companions = λ n. l; lengths = λ l. absurd (omega arith) }
encode_rule (open_for y) owner l = record { kinds = (omega arith, omega arith); companions = λ n. absurd (n refl); lengths = λ l. refl }
encode_rule used owner l = record { kinds = (omega arith, omega arith); companions = λ n. l; lengths = λ l. refl }
encode_rule awaited owner l = record { kinds = (omega arith, omega arith); companions = λ n. l; lengths = λ l. refl }

-- an expression, where there is one, is exactly one term
abbrev pub Said : Encoded → Type 0
Said x = x.kind < open_handle_kind → (x.expression ≡ bytes (term_at x.expression 0)) × FitsBytes (term_at x.expression 0)

no_length : (l : List ℕ) → length l ≡ 0 → l ≡ []
no_length [] e = refl
no_length (x ∷ l) e = absurd (omega arith)

-- what is read is written, with the owner that the companion byte says
module _ (companion : ℕ) (expression : List ℕ) (owner : ℕ) where
  abbrev with_kind : ℕ → Encoded
  with_kind kind = record { kind = kind; companion = companion; expression = expression }

  written_again : (kind : ℕ) → Rule (with_kind kind) → Said (with_kind kind) → (¬ (kind ≡ open_handle_kind) → companion ≡ owner) → encode (decode (with_kind kind)) owner ≡ with_kind kind
  unfolding decode components encode
  written_again zero h s o = absurd (omega (arith, h.kinds))
  written_again (suc zero) h s o = λ i. record { kind = 1; companion = sym (o (λ e. absurd (omega arith))) i; expression = sym (s (omega arith)).0 i }
  written_again (suc (suc zero)) h s o = λ i. record { kind = 2; companion = sym (o (λ e. absurd (omega arith))) i; expression = sym (s (omega arith)).0 i }
  written_again (suc (suc (suc zero))) h s o = λ i. record { kind = 3; companion = companion; expression = sym (no_length expression (h.lengths (omega arith))) i }
  written_again (suc (suc (suc (suc zero)))) h s o = λ i. record { kind = 4; companion = sym (o (λ e. absurd (omega arith))) i; expression = sym (no_length expression (h.lengths (omega arith))) i }
  written_again (suc (suc (suc (suc (suc zero))))) h s o = λ i. record { kind = 5; companion = sym (o (λ e. absurd (omega arith))) i; expression = sym (no_length expression (h.lengths (omega arith))) i }
  written_again (suc (suc (suc (suc (suc (suc k)))))) h s o = absurd (omega (arith, h.kinds))

  read_fits : (kind : ℕ) → Said (with_kind kind) → In FitsBytes (decode (with_kind kind))
  unfolding decode components
  read_fits zero s = tt
  read_fits (suc zero) s = (s (omega arith)).1
  read_fits (suc (suc zero)) s = (s (omega arith)).1
  read_fits (suc (suc (suc zero))) s = tt
  read_fits (suc (suc (suc (suc zero)))) s = tt
  read_fits (suc (suc (suc (suc (suc zero))))) s = tt
  read_fits (suc (suc (suc (suc (suc (suc k)))))) s = tt

pub encode_decode : (x : Encoded) (owner : ℕ) → Rule x → Said x → (¬ (x.kind ≡ open_handle_kind) → x.companion ≡ owner) → encode (decode x) owner ≡ x
encode_decode x owner = written_again x.companion x.expression owner x.kind

pub decode_fits : (x : Encoded) → Said x → In FitsBytes (decode x)
decode_fits x = read_fits x.companion x.expression 0 x.kind

-- what one byte can say
pub fits_writable : (c : Component) → In FitsBytes c → In (Each Writable) c
fits_writable (thread_of e) f = f.writable
fits_writable (holds e) f = f.writable
fits_writable (open_for y) f = tt
fits_writable used f = tt
fits_writable awaited f = tt

pub writable_fits : (c : Component) → In (Each Writable) c → ((k : ℕ) → byte_values ≤ k → sum_in (count k) c ≡ 0) → In FitsBytes c
unfolding sum_in
writable_fits (thread_of e) w n = record { writable = w; names = n }
writable_fits (holds e) w n = record { writable = w; names = n }
writable_fits (open_for y) w n = tt
writable_fits used w n = tt
writable_fits awaited w n = tt

-- ---- components with their owners

owner_next : (O : Owners) (k : ℕ) → owner (drop 1 O) k ≡ owner O (suc k)
owner_next [] k = refl
owner_next (o ∷ O) k = refl

pub length_encode_all : (C : Config) (O : Owners) → length (encode_all C O) ≡ length C
unfolding encode_all
length_encode_all [] O = refl
length_encode_all (c ∷ C) O = ap suc (length_encode_all C (drop 1 O))

-- what stands at a place
pub at_encode_all : (C : Config) (O : Owners) (k : ℕ) {c : Component} → at C k ≡ some c → at (encode_all C O) k ≡ some (encode c (owner O k))
unfolding encode_all
at_encode_all [] O k h = absurd (clash (cc))
at_encode_all (d ∷ C) O zero {c} h = let e : d ≡ c = cc in ap (λ (x : Component). some (encode x (owner O 0))) e
at_encode_all (d ∷ C) O (suc k) {c} h = at_encode_all C (drop 1 O) k h ∙ ap (λ (o : ℕ). some (encode c o)) (owner_next O k)

pub encode_all_at : (C : Config) (O : Owners) (k : ℕ) {x : Encoded} → at (encode_all C O) k ≡ some x → (c : Component) × (at C k ≡ some c) × (x ≡ encode c (owner O k))
unfolding encode_all
encode_all_at [] O k h = absurd (clash (cc))
encode_all_at (c ∷ C) O zero h = (c, refl, cc)
encode_all_at (c ∷ C) O (suc k) h = let (d, p, e) = encode_all_at C (drop 1 O) k h in (d, p, e ∙ ap (encode d) (owner_next O k))

-- name by name
pub encode_all_is : (n : ℕ) (f : ℕ → Encoded) (C : Config) (O : Owners) → length C ≡ n → ((k : ℕ) (c : Component) → at C k ≡ some c → f k ≡ encode c (owner O k)) → tabulate n f ≡ encode_all C O
encode_all_is n f C O e h = tabulate_is n f (encode_all C O) (length_encode_all C O ∙ e) λ k x g. let (c, p, q) = encode_all_at C O k g in h k c p ∙ sym q
