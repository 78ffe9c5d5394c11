-- The bytes of a node written behind what stands, with zeros behind them.
use Rattle.std.specs.Prelude.{◌≡◌, refl, Bool, false, true, List, [], ◌++◌, ◌∷◌, ◌+◌, ◌-◌, ◌<◌, ◌≤◌, ℕ, drop, eqb, get_or, length, ltb, replicate, set, take}
use Rattle.std.proofs.Common.{◌∙◌, arith}
use Rattle.std.proofs.Math.Path.{ap, sym}
use Rattle.std.proofs.Math.ListN.{length-set}
use Rattle.std.proofs.lemmas.List.{ext_get_or, get_or-append_right, get_or-drop, get_or-replicate, get_or-set_other, get_or_past, length-drop, length-replicate, length-take, length-take-le, take-append-drop, take_more, take_more_set}
use mathlib.Core.List.{append_assoc}
use Rattle.std.proofs.lemmas.Bool.{false≢true}
use Rattle.calculus.specs.Limits.{max_term_length}
use Rattle.calculus.proofs.Theory.Tests.{eqb_complete, eqb_sound, ltb_false, ltb_sound}
use Rattle.list_spec.specs.NextTerm.{with_zeros}
use Rattle.list_place.specs.Candidates.{arg_in, tag_in}
use Rattle.list_order.specs.Standing.{code_length, Stand, Written}
use Rattle.list_order.proofs.Passing.{bytes_1, bytes_2, bytes_3, length_3}

abbrev zeros : ℕ → List ℕ
zeros n = replicate n 0

length_zeros : (n : ℕ) → length (zeros n) ≡ n
length_zeros n = let z : ℕ = 0 in length-replicate n z

zero_in : (n j : ℕ) → get_or (zeros n) j 0 ≡ 0
zero_in n j = go (ltb j n) refl
  where
    go : (b : Bool) → ltb j n ≡ b → get_or (zeros n) j 0 ≡ 0
    go true e = get_or-replicate n j 0 0 (ltb_sound j n e)
    go false e = get_or_past (zeros n) j 0 (omega (arith, length_zeros n, ltb_false j n e))

-- behind what stands there are zeros
pub past_end : (out : List ℕ) (len : ℕ) → Stand out len → (i : ℕ) → len ≤ i → get_or out i 0 ≡ 0
unfolding with_zeros
past_end out len s i h =
    let short : length (take len out) ≤ i = omega (arith, length-take len out) in
    ap (λ (l : List ℕ). get_or l i 0) s.zeros
    ∙ (get_or-append_right (take len out) (zeros (max_term_length - length (take len out))) (length (take len out)) i 0 refl short
    ∙ zero_in (max_term_length - length (take len out)) (i - length (take len out)))

pub stand_from : (out : List ℕ) (len : ℕ) → length out ≡ max_term_length → len ≤ max_term_length → ((i : ℕ) → len ≤ i → get_or out i 0 ≡ 0) → Stand out len
unfolding with_zeros
stand_from out len w h z =
    let n : length (take len out) ≡ len = length-take-le len out (omega arith) in
    let end : drop len out ≡ zeros (max_term_length - len) = ext_get_or 0 (drop len out) (zeros (max_term_length - len))
    (omega (arith, length-drop len out, length_zeros (max_term_length - len)))
    (λ i k. get_or-drop len out i 0 ∙ (z (len + i) (omega arith) ∙ sym (zero_in (max_term_length - len) i))) in
    record {
      zeros = sym (take-append-drop len out) ∙ (ap (λ (l : List ℕ). take len out ++ l) end ∙ ap (λ (k : ℕ). take len out ++ zeros (max_term_length - k)) (sym n));
      short = h;
    }

-- one byte more
module _ (out : List ℕ) (len : ℕ) (w : length out ≡ max_term_length) (s : Stand out len) (x : ℕ) where
  pub put_stands : len < max_term_length → Stand (set out len x) (len + 1)
  put_stands h = stand_from (set out len x) (len + 1) (length-set out len x ∙ w) (omega arith)
      (λ i k. get_or-set_other out len i x 0 (λ e. omega arith) ∙ past_end out len s i (omega arith))

module _ (out : List ℕ) (len code : ℕ) (w : length out ≡ max_term_length) (s : Stand out len) (room : len + 3 ≤ max_term_length) where
  abbrev once : List ℕ
  once = set out len (tag_in code)

  abbrev twice : List ℕ
  twice = set once (len + 1) (arg_in code)

  once_stands : Stand once (len + 1)
  once_stands = put_stands out len w s (tag_in code) (omega arith)

  once_wide : length once ≡ max_term_length
  once_wide = length-set out len (tag_in code) ∙ w

  once_more : take (len + 1) once ≡ take len out ++ tag_in code ∷ []
  once_more = take_more_set out len (tag_in code) (omega arith)

  twice_stands : Stand twice (len + 1 + 1)
  twice_stands = put_stands once (len + 1) once_wide once_stands (arg_in code) (omega arith)

  twice_wide : length twice ≡ max_term_length
  twice_wide = length-set once (len + 1) (arg_in code) ∙ once_wide

  twice_more : take (len + 1 + 1) twice ≡ take len out ++ tag_in code ∷ arg_in code ∷ []
  twice_more =
      take_more_set once (len + 1) (arg_in code) (omega (arith, once_wide))
      ∙ (ap (λ (l : List ℕ). l ++ arg_in code ∷ []) once_more ∙ append_assoc (take len out) (tag_in code ∷ []) (arg_in code ∷ []))

  thrice_more : take (len + 1 + 1 + 1) twice ≡ take len out ++ tag_in code ∷ arg_in code ∷ 0 ∷ []
  thrice_more =
      take_more twice (len + 1 + 1) 0 (omega (arith, twice_wide))
      ∙ (ap (λ (x : ℕ). take (len + 1 + 1) twice ++ x ∷ []) (past_end twice (len + 1 + 1) twice_stands (len + 1 + 1) (omega arith))
      ∙ (ap (λ (l : List ℕ). l ++ 0 ∷ []) twice_more ∙ append_assoc (take len out) (tag_in code ∷ arg_in code ∷ []) (0 ∷ [])))

  pub written_1 : code_length code ≡ 1 → Written out len code once
  written_1 h =
      let n : len + code_length code ≡ len + 1 = omega arith in
      record {
        stands = rw n once_stands;
        more = rw n (once_more ∙ ap (λ (l : List ℕ). take len out ++ l) (sym (bytes_1 code h)));
      }

  written_2 : code_length code ≡ 2 → Written out len code twice
  written_2 h =
      let n : len + code_length code ≡ len + 1 + 1 = omega arith in
      record {
        stands = rw n twice_stands;
        more = rw n (twice_more ∙ ap (λ (l : List ℕ). take len out ++ l) (sym (bytes_2 code h)));
      }

  written_3 : ¬ (code_length code ≡ 1) → ¬ (code_length code ≡ 2) → Written out len code twice
  written_3 h k =
      let n : len + code_length code ≡ len + 1 + 1 + 1 = omega (arith, length_3 code h k) in
      record {
        stands = rw n (stand_from twice (len + 1 + 1 + 1) twice_wide (omega arith) (λ i l. past_end twice (len + 1 + 1) twice_stands i (omega arith)));
        more = rw n (thrice_more ∙ ap (λ (l : List ℕ). take len out ++ l) (sym (bytes_3 code h k)));
      }

  pub written_more : ¬ (code_length code ≡ 1) → Written out len code twice
  written_more h = go (eqb (code_length code) 2) refl
    where
      go : (b : Bool) → eqb (code_length code) 2 ≡ b → Written out len code twice
      go true e = written_2 (eqb_sound _ _ e)
      go false e = written_3 h (λ x. false≢true (sym e ∙ eqb_complete _ _ x))
