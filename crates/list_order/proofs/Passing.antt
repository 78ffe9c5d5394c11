-- The bytes of a node put behind what stands: what is left of a bound, one byte after the other.
use Rattle.std.specs.Prelude.{◌≡◌, refl, Bool, cond, false, true, List, [], ◌++◌, ◌∷◌, ◌+◌, ◌<◌, ◌≤◌, ℕ, ◌%◌, ◌/◌, drop, eqb, ltb, get_or, length}
use Rattle.std.proofs.Common.{◌∙◌, arith, Option, None, Some}
use Rattle.std.proofs.Math.Path.{ap, sym}
use Rattle.std.proofs.lemmas.Bool.{false≢true}
use Rattle.std.proofs.lemmas.List.{drop_all, drop_more}
use Rattle.calculus.specs.Bytes.{two_bytes}
use Rattle.calculus.proofs.Theory.Tests.{eqb_complete, eqb_sound, ltb_complete, ltb_not}
use Rattle.term.specs.Forms.{operand_of}
use Rattle.term.specs.Numbers.{little_endian}
use Rattle.term.proofs.Nodes.{operand_at_most}
use Rattle.list_spec.specs.Order.{above, behind, Bound, free, on, pass, passed, Passed}
use Rattle.list_place.specs.Candidates.{arg_in, tag_in}
use Rattle.list_order.specs.Standing.{code_bytes, code_length, low_of, says}

-- what some bytes more leave of it
abbrev go_on : Passed → List ℕ → Passed
go_on behind q = behind
go_on (on b) q = passed b q

pass_more : (l p q : List ℕ) → pass l (p ++ q) ≡ go_on (pass l p) q
unfolding pass
pass_more l [] q = refl
pass_more [] (x ∷ p) q = refl
pass_more (y ∷ l) (x ∷ p) q = go (ltb x y) (ltb y x) (pass_more l p q)
  where
    go : (a b : Bool) → pass l (p ++ q) ≡ go_on (pass l p) q → cond a behind (cond b (on free) (pass l (p ++ q))) ≡ go_on (cond a behind (cond b (on free) (pass l p))) q
    go true b h = refl
    go false true h = refl
    go false false h = h

passed_more : (low : Bound) (p q : List ℕ) → passed low (p ++ q) ≡ go_on (passed low p) q
passed_more free p q = refl
passed_more (above l) p q = pass_more l p q

-- one byte
module _ (after : List ℕ) (at byte : ℕ) where
  pub byte_free : passed (low_of true at after) (byte ∷ []) ≡ says (at + 1) after (Some true)
  unfolding low_of says
  byte_free = refl

  pub byte_past : length after ≤ at → passed (low_of false at after) (byte ∷ []) ≡ says (at + 1) after (Some true)
  unfolding low_of says pass
  byte_past h = rw (drop_all at after h) refl

  pub byte_lower : at < length after → byte < get_or after at 0 → passed (low_of false at after) (byte ∷ []) ≡ says (at + 1) after None
  unfolding low_of says pass
  byte_lower h k = rw (drop_more after at 0 h, ltb_complete byte (get_or after at 0) k) refl

  pub byte_other : at < length after → get_or after at 0 ≤ byte → passed (low_of false at after) (byte ∷ []) ≡ says (at + 1) after (Some (ltb (get_or after at 0) byte))
  unfolding low_of says pass
  byte_other h k = rw (drop_more after at 0 h, ltb_not byte (get_or after at 0) k) (go (ltb (get_or after at 0) byte))
    where
      go : (b : Bool) → cond b (on free) (on (above (drop (at + 1) after))) ≡ on (cond b free (above (drop (at + 1) after)))
      go true = refl
      go false = refl

-- some bytes, and more behind them
module _ (after : List ℕ) (low : Bound) (p q : List ℕ) (k : ℕ) (r : Option Bool) (e : passed low p ≡ says k after r) where
  stop : (n : ℕ) → r ≡ None → passed low (p ++ q) ≡ says n after None
  unfolding says
  stop n z = passed_more low p q ∙ ap (λ (o : Passed). go_on o q) (rw z at e)

  step : (f : Bool) → r ≡ Some f → passed low (p ++ q) ≡ passed (low_of f k after) q
  unfolding says
  step f z = passed_more low p q ∙ ap (λ (o : Passed). go_on o q) (rw z at e)

-- the bytes of a node
module _ (code : ℕ) where
  pub bytes_1 : code_length code ≡ 1 → code_bytes code ≡ tag_in code ∷ []
  unfolding little_endian
  bytes_1 h = let z : operand_of (tag_in code) ≡ 0 = omega arith in rw z refl

  pub bytes_2 : code_length code ≡ 2 → code_bytes code ≡ tag_in code ∷ arg_in code ∷ []
  unfolding little_endian
  bytes_2 h = let z : operand_of (tag_in code) ≡ 1 = omega arith in rw z refl

  pub bytes_3 : ¬ (code_length code ≡ 1) → ¬ (code_length code ≡ 2) → code_bytes code ≡ tag_in code ∷ arg_in code ∷ 0 ∷ []
  unfolding little_endian two_bytes
  bytes_3 h k =
      let z : operand_of (tag_in code) ≡ 2 = omega (arith, operand_at_most (tag_in code)) in
      let x : arg_in code % 256 ≡ arg_in code = omega arith in
      let y : arg_in code / 256 ≡ 0 = omega arith in
      rw (z, x, y) refl

  pub length_3 : ¬ (code_length code ≡ 1) → ¬ (code_length code ≡ 2) → code_length code ≡ 3
  length_3 h k = omega (arith, operand_at_most (tag_in code))

  module _ (after : List ℕ) (at : ℕ) (free : Bool) (r : Option Bool) (e : passed (low_of free at after) (tag_in code ∷ []) ≡ says (at + 1) after r) where
    -- the tag comes before
    pub node_lower : r ≡ None → passed (low_of free at after) (code_bytes code) ≡ says (at + code_length code) after None
    node_lower z = stop after (low_of free at after) (tag_in code ∷ []) (little_endian (operand_of (tag_in code)) (arg_in code)) (at + 1) r e _ z

    module _ (first : Bool) (z : r ≡ Some first) where
      -- the tag is all
      pub node_1 : code_length code ≡ 1 → passed (low_of free at after) (code_bytes code) ≡ says (at + code_length code) after (Some first)
      node_1 h = rw (bytes_1 h, h, ← z) e

      module _ (r' : Option Bool) (e' : passed (low_of first (at + 1) after) (arg_in code ∷ []) ≡ says (at + 1 + 1) after r') where
        behind_tag : (rest : List ℕ) → code_bytes code ≡ tag_in code ∷ rest → passed (low_of free at after) (code_bytes code) ≡ passed (low_of first (at + 1) after) rest
        behind_tag rest b = ap (passed (low_of free at after)) b ∙ step after (low_of free at after) (tag_in code ∷ []) rest (at + 1) r e first z

        -- the byte behind it comes before
        pub node_lower_2 : ¬ (code_length code ≡ 1) → r' ≡ None → passed (low_of free at after) (code_bytes code) ≡ says (at + code_length code) after None
        node_lower_2 h y = go (eqb (code_length code) 2) refl
          where
            at_second : (rest : List ℕ) → code_bytes code ≡ tag_in code ∷ arg_in code ∷ rest
                → passed (low_of free at after) (code_bytes code) ≡ says (at + code_length code) after None
            at_second rest b = behind_tag (arg_in code ∷ rest) b ∙ stop after (low_of first (at + 1) after) (arg_in code ∷ []) rest (at + 1 + 1) r' e' _ y

            go : (b : Bool) → eqb (code_length code) 2 ≡ b → passed (low_of free at after) (code_bytes code) ≡ says (at + code_length code) after None
            go true d = at_second [] (bytes_2 (eqb_sound _ _ d))
            go false d = at_second (0 ∷ []) (bytes_3 h (λ x. false≢true (sym d ∙ eqb_complete _ _ x)))

        module _ (second : Bool) (y : r' ≡ Some second) where
          -- two bytes
          pub node_2 : code_length code ≡ 2 → passed (low_of free at after) (code_bytes code) ≡ says (at + code_length code) after (Some second)
          node_2 h =
              let n : at + code_length code ≡ at + 1 + 1 = omega arith in
              rw n (behind_tag (arg_in code ∷ []) (bytes_2 h) ∙ (rw y at e'))

          -- three, the last of them 0
          pub node_3 : ¬ (code_length code ≡ 1) → ¬ (code_length code ≡ 2) → (r'' : Option Bool)
              → passed (low_of second (at + 2) after) (0 ∷ []) ≡ says (at + 2 + 1) after r''
              → passed (low_of free at after) (code_bytes code) ≡ says (at + code_length code) after r''
          node_3 h k r'' e'' =
              let n : at + code_length code ≡ at + 2 + 1 = omega (arith, length_3 h k) in
              let m : at + 1 + 1 ≡ at + 2 = omega arith in
              rw n (behind_tag (arg_in code ∷ 0 ∷ []) (bytes_3 h k)
              ∙ step after (low_of first (at + 1) after) (arg_in code ∷ []) (0 ∷ []) (at + 1 + 1) r' e' second y
              ∙ rw m e'')
